-- The machine's steps over the items of a program, and its first fault.
use Rattle.sharc_parse.proofs.{Imports.{◌≡◌, ℕ, ◌+◌, ◌-◌, ◌<◌, ◌≤◌, List, [], ◌∷◌, ◌++◌, length, drop, refl, sym, ap, ◌∙◌, arith, subst, length-drop, drop_all, length-map, Result, Ok, Err, view_item, view_items, view_program, Token, Tokens, Site, Item, Word, Part, IsProgram, program_words, on_top, naming, TypeWant, Top, At, with_part, first_state, LowProgram, ReadWithin, StuckAt, Over, reads_within, words_of, site_in, part_size, item_at, items_at, Reads, IsFault, wrong_code, ReadingFault, Memory as NoMemory, ParseFault, FaultOf, from, part_of, ReadsItem, IsItemPlaced, TokenRefusal, parts_of, code_of, ReadsItems, Refuses, Completes, Parses, GrammarFault}, Marked.parts_size}
use Rattle.sharc_tree.specs.declared.tree.item.Program.{Program}
use Rattle.sharc_tree.specs.Tree as tree
use Rattle.sharc_parse.specs.{declared.program.ParseFault.TheVariants.Memory}

-- at a word, a step from the top is one of a type there
top_goes : (all : List Part) (ts : List Word) → 0 < length ts → reads_within ts (At [] (Top all)) ≡ reads_within ts (At [] (TypeWant (naming (on_top all))))
top_goes all [] h = absurd (omega (arith, h))
top_goes all (t ∷ y) h = refl

words_left : (tokens : List Token) (n : ℕ) → length (from tokens n) ≡ length tokens - n
words_left tokens n = length-map (drop n tokens) _ ∙ length-drop n tokens

none_left : (tokens : List Token) (n : ℕ) → length tokens ≤ n → from tokens n ≡ []
none_left tokens n h = ap words_of (drop_all n tokens h)

parts_more : (list : List Item) (i : Item) → parts_of (list ++ i ∷ []) ≡ with_part (parts_of list) (part_of i)
parts_more [] i = refl
parts_more (a ∷ rest) i = ap (λ z. part_of a ∷ z) (parts_more rest i)

view_more : (list : List Item) (i : Item) → view_items (list ++ i ∷ []) ≡ view_items list ++ view_item i ∷ []
view_more [] i = refl
view_more (a ∷ rest) i = ap (λ z. view_item a ∷ z) (view_more rest i)

parts_size_more : (list : List Part) (p : Part) → parts_size (with_part list p) ≡ parts_size list + part_size p
parts_size_more [] p = omega arith
parts_size_more (a ∷ rest) p = omega (arith, parts_size_more rest p)

items_at_more : (s : ℕ → Site) (n m : ℕ) (list : List Part) (p : Part) → m ≡ n + parts_size list → items_at s n (with_part list p) ≡ items_at s n list ++ item_at s m p ∷ []
items_at_more s n m [] p h = ap (λ i. item_at s i p ∷ []) (omega (arith, h))
items_at_more s n m (a ∷ rest) p h = ap (λ z. item_at s n a ∷ z) (items_at_more s (n + part_size a) m rest p (omega (arith, h)))

-- the items that were read so far
pub record ItemsSoFar (tokens : List Token) (at : ℕ) (list : List Item) : Type 0 where
  pub reads : reads_within (words_of tokens) first_state ≡ reads_within (from tokens at) (At [] (Top (parts_of list)))
  pub placed : view_items list ≡ items_at (site_in tokens) 0 (parts_of list)
  pub at_is : at ≡ parts_size (parts_of list)

pub no_items : (tokens : List Token) → ItemsSoFar tokens 0 []
no_items tokens = record { reads = refl; placed = refl; at_is = refl }

-- the item there is read from the outset on
item_there : (tokens : List Token) (at : ℕ) (list : List Item) → ItemsSoFar tokens at list → at < length tokens → reads_within (words_of tokens) first_state ≡ reads_within (from tokens at) (At [] (TypeWant (naming (on_top (parts_of list)))))
item_there tokens at list z h = z.reads ∙ top_goes (parts_of list) (from tokens at) (omega (arith, h, words_left tokens at))

pub one_item_more : (tokens : List Token) (old new : ℕ) (list all : List Item) (i : Item) → all ≡ list ++ i ∷ [] → ItemsSoFar tokens old list → old < length tokens → ReadsItem (Ok i) (from tokens old) (from tokens new) → IsItemPlaced (Ok i) tokens old new → ItemsSoFar tokens new all
one_item_more tokens old new list all i is z h r p =
    let longer : parts_of all ≡ with_part (parts_of list) (part_of i) = ap parts_of is ∙ parts_more list i in
    record {
      reads = item_there tokens old list z h ∙ r (parts_of list) ∙ ap (λ f. reads_within (from tokens new) (At [] (Top f))) (sym longer);
      placed = cc (is, z.placed, p.0, view_more list i, items_at_more (site_in tokens) 0 old (parts_of list) (part_of i) (omega (arith, z.at_is)));
      at_is = omega (arith, z.at_is, p.1, ap parts_size longer, parts_size_more (parts_of list) (part_of i));
    }

pub items_read : (tokens : List Token) (at : ℕ) (list : List Item) → ItemsSoFar tokens at list → length tokens ≤ at → reads_within (words_of tokens) first_state ≡ ReadWithin (parts_of list)
items_read tokens at list z h = z.reads ∙ ap (λ ts. reads_within ts (At [] (Top (parts_of list)))) (none_left tokens at h)

-- where the next item is not read, neither is the program
pub item_fails : {A : Type 0} (see : A → List Item) (result : Result A ReadingFault) (fault : ReadingFault) (tokens : List Token) (old new : ℕ) (list : List Item) → result ≡ Err fault → ItemsSoFar tokens old list → old < length tokens → ReadsItem (Err fault) (from tokens old) (from tokens new) → ReadsItems see result tokens new
item_fails see result NoMemory tokens old new list is z h r = subst (λ o. ReadsItems see o tokens new) (sym is) tt
item_fails see result _ tokens old new list is z h r = subst (λ o. ReadsItems see o tokens new) (sym is) (item_there tokens old list z h ∙ r (parts_of list))

-- the program, and the first fault, by the laws of sharc_parse

abbrev pub ReadsOnlyWithin : Type 0
ReadsOnlyWithin = (all : List Word) (p : List Part) → reads_within all first_state ≡ ReadWithin p → IsProgram p × LowProgram p × (program_words p [] ≡ all)

abbrev pub StuckAtFault : Type 0
StuckAtFault = (all rest : List Word) (n : ℕ) → n ≡ length all - length rest → reads_within all first_state ≡ StuckAt rest → IsFault all (wrong_code rest) n

abbrev pub OverAtFault : Type 0
OverAtFault = (all rest : List Word) (n : ℕ) → n ≡ length all - length rest → reads_within all first_state ≡ Over rest → IsFault all GrammarFault.Deep n

words_before : (tokens : List Token) (n : ℕ) → n ≤ length tokens → n ≡ length (words_of tokens) - length (from tokens n)
words_before tokens n h = omega (arith, h, words_left tokens 0, words_left tokens n)

pub stuck_there : (law : StuckAtFault) (tokens : List Token) (n : ℕ) → n ≤ length tokens → reads_within (words_of tokens) first_state ≡ StuckAt (from tokens n) → IsFault (words_of tokens) (code_of TokenRefusal.Wrong (from tokens n)) n
stuck_there law tokens n h e = law (words_of tokens) (from tokens n) n (words_before tokens n h) e

pub over_there : (law : OverAtFault) (tokens : List Token) (n : ℕ) → n ≤ length tokens → reads_within (words_of tokens) first_state ≡ Over (from tokens n) → IsFault (words_of tokens) (code_of TokenRefusal.Deep (from tokens n)) n
over_there law tokens n h e = law (words_of tokens) (from tokens n) n (words_before tokens n h) e

pub parses_refused : (result : Result Program ParseFault) (tokens : Tokens) (n : ℕ) (refusal : TokenRefusal) → IsFault (words_of tokens.list) (code_of refusal (from tokens.list n)) n → Refuses result tokens n refusal → Parses result tokens
parses_refused (Ok p) tokens n refusal f h = absurd h
parses_refused (Err (FaultOf fault back)) tokens n refusal f h = (record { number = n; is = subst (λ code. IsFault (words_of tokens.list) code n) (sym h.1) f; told = h.0 }, h.2)
parses_refused (Err Memory) tokens n refusal f h = tt

reads_program : (law : ReadsOnlyWithin) (tokens : Tokens) (p : tree.Program) (parts : List Part) → reads_within (words_of tokens.list) first_state ≡ ReadWithin parts → p.items ≡ items_at (site_in tokens.list) 0 parts → p.tokens ≡ tokens → p.files ≡ tokens.files → Reads tokens p
reads_program law tokens p parts e placed keeps_tokens keeps_files =
    let found = law (words_of tokens.list) parts e in
    record { phrases = parts; is_program = found.0; within = found.1; spelled = found.2; placed = placed; keeps_tokens = keeps_tokens; keeps_files = keeps_files }

pub parses_complete : (law : ReadsOnlyWithin) (result : Result Program ParseFault) (tokens : Tokens) (list : List Item) → reads_within (words_of tokens.list) first_state ≡ ReadWithin (parts_of list) → view_items list ≡ items_at (site_in tokens.list) 0 (parts_of list) → Completes result tokens list → Parses result tokens
parses_complete law (Ok p) tokens list e placed h = reads_program law tokens (view_program p) (parts_of list) e (ap (λ q. q.items) h ∙ placed) (ap (λ q. q.tokens) h) (ap (λ q. q.files) h)
parses_complete law (Err (FaultOf fault back)) tokens list e placed h = absurd h
parses_complete law (Err Memory) tokens list e placed h = tt
