-- The machine's steps over statements with others inside, and where they are.
use Rattle.sharc_parse.proofs.{Imports.{◌≡◌, ℕ, ◌+◌, ◌-◌, ◌≤◌, ◌<◌, List, [], ◌∷◌, ◌++◌, refl, sym, ap, ◌∙◌, arith, Bool, true, false, lt-leb, le-leb, false≢true, true≢false, Result, Ok, Err, view_statements-push, view_stmt, view_statements, Token, Site, Span, OpenBrace, CloseBrace, Stmt, Keyword, Word, keyword, mark, Phrase, Loop, Sentence, under, Sentences, no_more, sentence, if_of, else_of, while_of, for_of, Outer, body, items, inside, as_statement, Start, Done, At, holds_items, with_item, Over, reads_within, around_it, site_in, size, sentence_size, all_size, opening_size, span_at, expression_at, head_at, statement_at, statements_at, ReadingFault, Memory, bare, from, Past, NotAt, IsAt, line_within, If, While, For, Return, Break, Continue, NoStatement, bare_head, bare_statement, sentence_of, sentences_of, ReadsStatement, BuildsStatement, IsRestPlaced, IsOpen, holding, closed, ReadsStatements}, Steps.{passes, deep}, WordSteps.line_there, PlainSteps.over_statement}
use Rattle.sharc_tree.specs.Tree as tree

-- blocks

pub block_opens : (o : Outer) (room : ℕ) (ts y : List Word) → ts ≡ mark OpenBrace ∷ y → around_it o + room ≡ 64 → 0 < room → reads_within ts (At [] (Start o)) ≡ reads_within y (At [] (Start (items no_more o)))
block_opens o room ts y is e h =
    ap (λ ts. reads_within ts (At [] (Start o))) is
    ∙ passes (At [] (Start (items no_more o))) y (mark OpenBrace ∷ y) (lt-leb 64 (around_it o) (omega (arith, e, h)))

pub block_deep : (o : Outer) (room : ℕ) (ts : List Word) → IsAt (mark OpenBrace) ts → around_it o + room ≡ 64 → room ≡ 0 → reads_within ts (At [] (Start o)) ≡ Over ts
block_deep o room ts a e h = deep (Start o) (mark OpenBrace) (At [] (Start (items no_more o))) ts a refl (le-leb 64 (around_it o) (omega (arith, e, h)))

pub block_closes : (o : Outer) (s : Sentences) (ts y : List Word) → ts ≡ mark CloseBrace ∷ y → holds_items o ≡ true → reads_within ts (At [] (Start (holding o s))) ≡ reads_within y (closed o s)
block_closes (body before r f given all) s ts y is h = ap (λ ts. reads_within ts (At [] (Start (body before r f given s)))) is
block_closes (items all o) s ts y is h = ap (λ ts. reads_within ts (At [] (Start (items s o)))) is
block_closes (inside w o) s ts y is h = absurd (false≢true h)

-- inside another statement a `}` begins no line
line_inside : (o : Outer) (ts : List Word) → holds_items o ≡ false → NoStatement ts → NotAt (mark OpenBrace) ts → reads_within ts (At [] (Start o)) ≡ line_within as_statement o ts
line_inside (inside w o) (keyword Keyword.If ∷ y) h n a = absurd (n If refl)
line_inside (inside w o) (keyword Keyword.While ∷ y) h n a = absurd (n While refl)
line_inside (inside w o) (keyword Keyword.For ∷ y) h n a = absurd (n For refl)
line_inside (inside w o) (keyword Keyword.Return ∷ y) h n a = absurd (n Return refl)
line_inside (inside w o) (keyword Keyword.Break ∷ y) h n a = absurd (n Break refl)
line_inside (inside w o) (keyword Keyword.Continue ∷ y) h n a = absurd (n Continue refl)
line_inside (inside w o) (mark OpenBrace ∷ y) h n a = absurd (a refl)
line_inside (inside w o) _ h n a = refl
line_inside _ ts h n a = absurd (true≢false h)

-- any other statement is a line
pub line_anywhere : (may : Bool) (o : Outer) (ts : List Word) → holds_items o ≡ may → IsOpen may ts → NoStatement ts → NotAt (mark OpenBrace) ts → reads_within ts (At [] (Start o)) ≡ line_within as_statement o ts
line_anywhere true o ts h i n a = line_there o ts n a i
line_anywhere false o ts h i n a = line_inside o ts h n a

-- the ends of statements with others inside

pub else_goes : (e : Phrase) (s : Sentence) (o : Outer) (room : ℕ) (ts y : List Word) → ts ≡ keyword Keyword.Else ∷ y → around_it o + room ≡ 64 → 2 ≤ room → reads_within ts (At [] (Done s (inside (if_of e) o))) ≡ reads_within y (At [] (Start (inside (else_of e s) o)))
else_goes e s o room ts y is h r =
    ap (λ ts. reads_within ts (At [] (Done s (inside (if_of e) o)))) is
    ∙ passes (At [] (Start (inside (else_of e s) o))) y (keyword Keyword.Else ∷ y) (lt-leb 63 (around_it o) (omega (arith, h, r)))

pub if_ends : (e : Phrase) (s : Sentence) (o : Outer) (ts : List Word) → NotAt (keyword Keyword.Else) ts → reads_within ts (At [] (Done s (inside (if_of e) o))) ≡ reads_within ts (At [] (Done (under (if_of e) s) o))
if_ends e s o (keyword Keyword.Else ∷ y) n = absurd (n refl)
if_ends e s o _ n = refl

pub else_ends : (e : Phrase) (a s : Sentence) (o : Outer) (ts : List Word) → reads_within ts (At [] (Done s (inside (else_of e a) o))) ≡ reads_within ts (At [] (Done (under (else_of e a) s) o))
else_ends e a s o [] = refl
else_ends e a s o (t ∷ y) = refl

pub while_ends : (e : Phrase) (s : Sentence) (o : Outer) (ts : List Word) → reads_within ts (At [] (Done s (inside (while_of e) o))) ≡ reads_within ts (At [] (Done (under (while_of e) s) o))
while_ends e s o [] = refl
while_ends e s o (t ∷ y) = refl

pub for_ends : (h : Loop) (s : Sentence) (o : Outer) (ts : List Word) → reads_within ts (At [] (Done s (inside (for_of h) o))) ≡ reads_within ts (At [] (Done (under (for_of h) s) o))
for_ends h s o [] = refl
for_ends h s o (t ∷ y) = refl

-- where they are

-- a statement that was made, with its first word before the old place
pub rest_placed : (result : Result Stmt ReadingFault) (tokens : List Token) (n old new : ℕ) (x : tree.Statement) → BuildsStatement result x → old ≡ n + 1 → x ≡ statement_at (site_in tokens) n (bare_statement x) → new ≡ n + sentence_size (bare_statement x) → IsRestPlaced result tokens old new
rest_placed (Ok s) tokens n old new x b h stands size = λ m e.
    let same : n ≡ m = omega (arith, e, h) in
    (over_statement (site_in tokens) n (view_stmt s) x b stands ∙ ap (λ i. statement_at (site_in tokens) i (sentence_of s)) same, size ∙ ap (λ i. i + sentence_size (bare_statement x)) same ∙ ap (λ v. m + sentence_size (bare_statement v)) (sym b))
rest_placed (Err x) tokens n old new y b h stands size = tt

pub if_stands : (s : ℕ → Site) (n m : ℕ) (sp : Span) (e : tree.Expression) (a : tree.Statement) → sp ≡ span_at s n (size (bare e) + 3 + sentence_size (bare_statement a)) → e ≡ expression_at s (n + 2) (bare e) → a ≡ statement_at s m (bare_statement a) → m ≡ n + (size (bare e) + 3) → tree.if_then sp e a ≡ statement_at s n (bare_statement (tree.if_then sp e a))
if_stands s n m sp e a b c d f = cc

pub while_stands : (s : ℕ → Site) (n m : ℕ) (sp : Span) (e : tree.Expression) (a : tree.Statement) → sp ≡ span_at s n (size (bare e) + 3 + sentence_size (bare_statement a)) → e ≡ expression_at s (n + 2) (bare e) → a ≡ statement_at s m (bare_statement a) → m ≡ n + (size (bare e) + 3) → tree.while sp e a ≡ statement_at s n (bare_statement (tree.while sp e a))
while_stands s n m sp e a b c d f = cc

pub for_stands : (s : ℕ → Site) (n m : ℕ) (sp : Span) (h : tree.Head) (a : tree.Statement) → sp ≡ span_at s n (opening_size (for_of (bare_head h)) + sentence_size (bare_statement a)) → h ≡ head_at s n (bare_head h) → a ≡ statement_at s m (bare_statement a) → m ≡ n + opening_size (for_of (bare_head h)) → tree.for sp h a ≡ statement_at s n (bare_statement (tree.for sp h a))
for_stands s n m sp h a b c d f = cc

pub else_stands : (s : ℕ → Site) (n m k : ℕ) (sp : Span) (e : tree.Expression) (a b : tree.Statement) → sp ≡ span_at s n (size (bare e) + sentence_size (bare_statement a) + 4 + sentence_size (bare_statement b)) → e ≡ expression_at s (n + 2) (bare e) → a ≡ statement_at s m (bare_statement a) → m ≡ n + size (bare e) + 3 → b ≡ statement_at s k (bare_statement b) → k ≡ n + (size (bare e) + sentence_size (bare_statement a) + 4) → tree.if_then_else sp e a b ≡ statement_at s n (bare_statement (tree.if_then_else sp e a b))
else_stands s n m k sp e a b w c d f g h = cc

-- a block, from its `{` on

block_enters : (tokens : List Token) (old mid : ℕ) (o : Outer) (room : ℕ) → Past (mark OpenBrace) tokens old mid → 0 < room → around_it o + room ≡ 64 → reads_within (from tokens old) (At [] (Start o)) ≡ reads_within (from tokens mid) (At [] (Start (items no_more o)))
block_enters tokens old mid o room p h e = block_opens o room (from tokens old) (from tokens mid) p.0 e h

inside_room : (a room : ℕ) → 0 < room → a + room ≡ 64 → a + 1 + (room - 1) ≡ 64
inside_room a room h e = omega (arith, h, e)

pub block_wrong : {A : Type 0} (list : A → List Stmt) (x : ReadingFault) (may : Bool) (room : ℕ) (tokens : List Token) (old mid new : ℕ) → Past (mark OpenBrace) tokens old mid → 0 < room → ReadsStatements list (room - 1) (Err x) (from tokens mid) (from tokens new) → ReadsStatement may room (Err x) (from tokens old) (from tokens new)
block_wrong list Memory may room tokens old mid new p h r = λ o m e. tt
block_wrong list _ may room tokens old mid new p h r = λ o m e. block_enters tokens old mid o room p h e ∙ r (items no_more o) refl (inside_room (around_it o) room h e)

pub block_reads : {A : Type 0} (list : A → List Stmt) (v : A) (s : Stmt) (sp : Span) (may : Bool) (room : ℕ) (tokens : List Token) (old mid new : ℕ) → view_stmt s ≡ tree.block sp (view_statements (list v)) → Past (mark OpenBrace) tokens old mid → 0 < room → ReadsStatements list (room - 1) (Ok v) (from tokens mid) (from tokens new) → ReadsStatement may room (Ok s) (from tokens old) (from tokens new)
block_reads list v s sp may room tokens old mid new is p h r = λ o m e.
    block_enters tokens old mid o room p h e
    ∙ r (items no_more o) refl (inside_room (around_it o) room h e)
    ∙ ap (λ v. reads_within (from tokens new) (At [] (Done (bare_statement v) o))) (sym is)

-- the statements that were read so far

holding_around : (o : Outer) (s : Sentences) → around_it (holding o s) ≡ around_it o
holding_around (inside w o) s = refl
holding_around _ s = refl

holding_holds : (o : Outer) (s : Sentences) → holds_items (holding o s) ≡ holds_items o
holding_holds (inside w o) s = refl
holding_holds _ s = refl

-- after a statement of a block the next may begin
item_done : (o : Outer) (all : Sentences) (s : Sentence) (ts : List Word) → holds_items o ≡ true → reads_within ts (At [] (Done s (holding o all))) ≡ reads_within ts (At [] (Start (holding o (with_item all s))))
item_done (body before r f given x) all s [] h = refl
item_done (body before r f given x) all s (t ∷ y) h = refl
item_done (items x o) all s [] h = refl
item_done (items x o) all s (t ∷ y) h = refl
item_done (inside w o) all s ts h = absurd (false≢true h)

pub sentences_more : (list : List Stmt) (s : Stmt) → sentences_of (list ++ s ∷ []) ≡ with_item (sentences_of list) (sentence_of s)
sentences_more [] s = refl
sentences_more (a ∷ rest) s = ap (sentence (sentence_of a)) (sentences_more rest s)

all_size_more : (all : Sentences) (s : Sentence) → all_size (with_item all s) ≡ all_size all + sentence_size s
all_size_more no_more s = omega arith
all_size_more (sentence a rest) s = omega (arith, all_size_more rest s)

statements_more : (s : ℕ → Site) (n m : ℕ) (all : Sentences) (a : Sentence) → m ≡ n + all_size all → statements_at s n (with_item all a) ≡ tree.with_statement (statements_at s n all) (statement_at s m a)
statements_more s n m no_more a h = ap (λ i. tree.statement (statement_at s i a) tree.no_statements) (omega (arith, h))
statements_more s n m (sentence x rest) a h = ap (tree.statement (statement_at s n x)) (statements_more s (n + sentence_size x) m rest a (omega (arith, h)))

pub record StatementsSoFar (room : ℕ) (tokens : List Token) (n at : ℕ) (list : List Stmt) : Type 0 where
  pub reads : (o : Outer) → holds_items o ≡ true → around_it o + room ≡ 64 → reads_within (from tokens n) (At [] (Start (holding o no_more))) ≡ reads_within (from tokens at) (At [] (Start (holding o (sentences_of list))))
  pub placed : view_statements list ≡ statements_at (site_in tokens) n (sentences_of list)
  pub at_is : at ≡ n + all_size (sentences_of list)

pub first_statements : (room : ℕ) (tokens : List Token) (n : ℕ) → StatementsSoFar room tokens n n []
first_statements room tokens n = record { reads = λ o h e. refl; placed = refl; at_is = omega arith }

pub one_statement_more : (room : ℕ) (tokens : List Token) (n old new : ℕ) (list all : List Stmt) (s : Stmt) → all ≡ list ++ s ∷ [] → StatementsSoFar room tokens n old list → ReadsStatement true room (Ok s) (from tokens old) (from tokens new) → view_stmt s ≡ statement_at (site_in tokens) old (sentence_of s) → new ≡ old + sentence_size (sentence_of s) → StatementsSoFar room tokens n new all
one_statement_more room tokens n old new list all s is z r p q =
    let longer : sentences_of all ≡ with_item (sentences_of list) (sentence_of s) = ap sentences_of is ∙ sentences_more list s in
    record {
      reads = λ o h e.
          z.reads o h e
          ∙ r (holding o (sentences_of list)) (holding_holds o (sentences_of list) ∙ h) (ap (λ a. a + room) (holding_around o (sentences_of list)) ∙ e)
          ∙ item_done o (sentences_of list) (sentence_of s) (from tokens new) h
          ∙ ap (λ f. reads_within (from tokens new) (At [] (Start (holding o f)))) (sym longer);
      placed = cc (is, z.placed, p, view_statements-push list s, statements_more (site_in tokens) n old (sentences_of list) (sentence_of s) z.at_is);
      at_is = omega (arith, z.at_is, q, ap all_size longer, all_size_more (sentences_of list) (sentence_of s));
    }

pub statements_read : (room : ℕ) (tokens : List Token) (n at new : ℕ) (list : List Stmt) → StatementsSoFar room tokens n at list → Past (mark CloseBrace) tokens at new → (o : Outer) → holds_items o ≡ true → around_it o + room ≡ 64 → reads_within (from tokens n) (At [] (Start (holding o no_more))) ≡ reads_within (from tokens new) (closed o (sentences_of list))
statements_read room tokens n at new list z p o h e = z.reads o h e ∙ block_closes o (sentences_of list) (from tokens at) (from tokens new) p.0 h
