-- The tree of a program within the limits is low.
use Rattle.sharc_parse.proofs.{Imports.{◌≡◌, ℕ, ◌+◌, ◌≤◌, ◌<◌, List, [], ◌∷◌, length, Option, Some, None, refl, sym, ap, arith, subst, max, Bool, true, false, cond, IfSome, is_cast, is_call_of, is_unary, low_height, low_highest, stars, LowType, NoModesOf, LowTypes, AllLowTypes, LowExpression, LowRight, LowSimple, LowLocal, LowFirst, LowHead, is_statement, LowStatement, LowStatements, LowDeclarations, LowForm, LowItem, LowItems, IsLow, Site, Span, Tokens, Base, Mode, WrittenType, Constant, Sharing, Typing, Declaring, Front, of_spawn, of_place, of_cast, Phrase, enclosed, call, index, field, unary, binary, Phrases, none, more, Value, value, malloc, Doing, assign, invoke, Declared, Line, nothing, does, declares, Loop, Sentence, line, jump, return, block, under, Sentences, no_more, sentence, Opening, if_of, else_of, while_of, for_of, Form, initially, Part, structure, global, function, IsProgram, level, front_level, is_declaring, FitsList, FitsType, NoModes, FitsFront, Fits, FitAll, is_call, is_declaration, FitsOption, FitsCount, FitsValue, FitsDoing, FitsInitial, FitsLine, FitsStep, FitsAs, FitAllAs, FitsOpening, FitAllDeclaring, FitsForm, FitsFields, FitsPart, stars_in, FewStars, FewFront, Few, FewAll, Low, LowOption, LowValue, LowDoing, LowInitial, LowLine, LowStep, LowSentence, LowAll, LowOpening, FewGiven, LowPart, LowProgram, Reads, site_in, base_size, levels_size, type_size, size, declaring_size, levels_at, bottom_at, level_at, type_at, front_at, expression_at, arguments_at, option_at, value_at, doing_at, initial_at, step_at, front_size, local_at, first_at, head_at, line_at, statement_at, statements_at, under_at, declarations_at, form_at, item_at, items_at, count_size, line_size, option_size, sentence_size, part_size, weak}, Readings.{same_height, same_function}}
use Rattle.sharc_tree.specs.Tree as tree
use Rattle.sharc_tree.specs.Measures as measures

-- the height that is limited is at most that of the tree

cast_most : (b : Bool) (m n : ℕ) → m ≤ n → cond b (m + 1) m ≤ n + 1
cast_most true m n h = omega (arith, h)
cast_most false m n h = omega (arith, h)

pub cast_no_higher : (s : Span) (t : WrittenType) (a : tree.Expression) → is_cast a ≡ false → low_height (tree.cast s t a) ≡ low_height a
cast_no_higher s t a h = ap (λ b. cond b (low_height a + 1) (low_height a)) h

max_most : (a b c d : ℕ) → a ≤ c → b ≤ d → max a b ≤ max c d
max_most a b c d h k = omega (arith, h, k)

one_more : (a b : ℕ) → a ≤ b → a + 1 ≤ b + 1
one_more a b h = omega (arith, h)

mutual
  pub low_most : (e : tree.Expression) → low_height e ≤ measures.height e
  low_most (tree.parentheses s a) = one_more _ _ (low_most a)
  low_most (tree.call s f all) = one_more _ _ (low_highest_most all)
  low_most (tree.spawn s f a) = one_more _ _ (low_most a)
  low_most (tree.on_value s w a) = one_more _ _ (low_most a)
  low_most (tree.on_place s w a) = one_more _ _ (low_most a)
  low_most (tree.cast s t a) = cast_most (is_cast a) _ _ (low_most a)
  low_most (tree.index s a i) = one_more _ _ (max_most _ _ _ _ (low_most a) (low_most i))
  low_most (tree.field s a w n) = one_more _ _ (low_most a)
  low_most (tree.unary s o a) = one_more _ _ (low_most a)
  low_most (tree.binary s o at a b) = one_more _ _ (max_most _ _ _ _ (low_most a) (low_most b))
  low_most _ = omega arith

  low_highest_most : (all : tree.Arguments) → low_highest all ≤ measures.highest all
  low_highest_most tree.no_arguments = omega arith
  low_highest_most (tree.argument a rest) = max_most _ _ _ _ (low_most a) (low_highest_most rest)

-- types

levels_length : (s : ℕ → Site) (n : ℕ) (first : Bool) (b : Base) (all : List (Option Sharing)) → length (levels_at s n first b all) ≡ length all
levels_length s n first b (m ∷ (k ∷ below)) = let e = levels_length s n first b (k ∷ below) in omega (arith, e)
levels_length s n first b _ = refl

low_levels : (s : ℕ → Site) (n : ℕ) (first : Bool) (b : Base) (all : List (Option Sharing)) → FitsList first all → stars_in all ≤ 8 → (0 < length (levels_at s n first b all)) × (stars (levels_at s n first b all) ≤ 8)
low_levels s n first b [] f l = absurd f
low_levels s n first b (m ∷ []) f l = (omega arith, omega arith)
low_levels s n first b (m ∷ (k ∷ below)) f l = let e = levels_length s n first b (k ∷ below) in (omega arith, omega (arith, e, l))

low_type : (s : ℕ → Site) (n : ℕ) (t : Typing) → FitsType t → FewStars t → LowType (type_at s n t)
low_type s n t f l = low_levels s n t.mode_first t.base t.levels f l

no_more_level : (s : ℕ → Site) (n : ℕ) (m : Option Sharing) (below : List (Option Sharing)) (rest : List (Option Mode)) → NoModes (m ∷ below) → (NoModes below → NoModesOf rest) → NoModesOf (level_at s n m ∷ rest)
no_more_level s n None below rest h f = f h
no_more_level s n (Some m) below rest h f = absurd h

no_bottom : (s : ℕ → Site) (n : ℕ) (first : Bool) (b : Base) (m : Option Sharing) → NoModes (m ∷ []) → NoModesOf (bottom_at s n first b m ∷ [])
no_bottom s n true b m h = no_more_level s n m [] [] h (λ u. tt)
no_bottom s n false b m h = no_more_level s (n + base_size b) m [] [] h (λ u. tt)

no_modes : (s : ℕ → Site) (n : ℕ) (first : Bool) (b : Base) (all : List (Option Sharing)) → NoModes all → NoModesOf (levels_at s n first b all)
no_modes s n first b [] h = tt
no_modes s n first b (m ∷ []) h = no_bottom s n first b m h
no_modes s n first b (m ∷ (k ∷ below)) h = no_more_level s (n + levels_size b (k ∷ below) + 1) m (k ∷ below) (levels_at s n first b (k ∷ below)) h (no_modes s n first b (k ∷ below))

-- what holds together as tightly as a `unary` is no binary operator

front_unary : (s : ℕ → Site) (n : ℕ) (span : Span) (f : Front) (a : tree.Expression) → is_unary (front_at s n span f a) ≡ true
front_unary s n span (of_cast t) a = refl
front_unary s n span _ a = refl

unary_at : (s : ℕ → Site) (n : ℕ) (x : Phrase) → 11 ≤ level x → is_unary (expression_at s n x) ≡ true
unary_at s n (enclosed f a) h = front_unary s n _ f _
unary_at s n (binary o a b) h = absurd (omega (arith, h, weak o))
unary_at s n _ h = refl

call_at : (s : ℕ → Site) (n : ℕ) (x : Phrase) → is_call x ≡ true → is_call_of (expression_at s n x) ≡ true
call_at s n (enclosed (of_spawn f) a) h = refl
call_at s n _ h = cc

-- expressions

front_types : (s : ℕ → Site) (n k : ℕ) (span : Span) (f : Front) (a : Phrase) → FitsFront f → front_level f ≤ level a → FewFront f → LowTypes (expression_at s k a) → LowTypes (front_at s n span f (expression_at s k a))
front_types s n k span (of_place w) a f h l t = (unary_at s k a h, t)
front_types s n k span (of_cast ty) a f h l t = (low_type s (n + 2) ty f l, unary_at s k a h, t)
front_types s n k span _ a f h l t = t

mutual
  low_types : (s : ℕ → Site) (n : ℕ) (x : Phrase) → Fits x → Few x → LowTypes (expression_at s n x)
  low_types s n (enclosed w a) f l = front_types s n (n + front_size w) _ w a f.0 f.1 l.0 (low_types s (n + front_size w) a f.2 l.1)
  low_types s n (call x all) f l = all_low_types s (n + 2) all f l
  low_types s n (index a i) f l = (low_types s n a f.1 l.0, low_types s (n + size a + 1) i f.2 l.1)
  low_types s n (field a w x) f l = low_types s n a f.1 l
  low_types s n (unary o a) f l = low_types s (n + 1) a f.1 l
  low_types s n (binary o a b) f l = (low_types s n a f.2 l.0, low_types s (n + size a + 1) b f.3 l.1)
  low_types s n _ f l = tt

  all_low_types : (s : ℕ → Site) (n : ℕ) (all : Phrases) → FitAll all → FewAll all → AllLowTypes (arguments_at s n all)
  all_low_types s n none f l = tt
  all_low_types s n (more a rest) f l = (low_types s n a f.0 l.0, all_low_types s (n + size a + 1) rest f.1 l.1)

low_expression : (s : ℕ → Site) (n : ℕ) (x : Phrase) → Fits x → Low x → LowExpression (expression_at s n x)
low_expression s n x f l = (omega (arith, low_most (expression_at s n x), same_height s n x, l.0), low_types s n x f l.1)

low_option : (s : ℕ → Site) (n : ℕ) (e : Option Phrase) → FitsOption e → LowOption e → IfSome (option_at s n e) LowExpression
low_option s n None f l = tt
low_option s n (Some e) f l = low_expression s n e f l

-- the right side of `=`, and lines

low_count : (s : ℕ → Site) (n : ℕ) (e : Option Phrase) → FitsCount e → LowOption e → IfSome (option_at s n e) (λ e. (is_unary e ≡ true) × LowExpression e)
low_count s n None f l = tt
low_count s n (Some e) f l = (unary_at s n e f.0, low_expression s n e f.1 l)

low_right : (s : ℕ → Site) (n : ℕ) (r : Value) → FitsValue r → LowValue r → LowRight (value_at s n r)
low_right s n (value e) f l = low_expression s n e f l
low_right s n (malloc c t) f l = (low_count s (n + 2) c f.0 l.0, low_type s (n + count_size c + 4) t f.1 l.1, f.2.0, no_modes s (n + count_size c + 4) t.mode_first t.base t.levels f.2.1)

low_simple : (s : ℕ → Site) (n : ℕ) (x : Doing) → FitsDoing x → LowDoing x → LowSimple (doing_at s n x)
low_simple s n (assign u r) f l = (unary_at s n u f.0, low_expression s n u f.1 l.0, low_right s (n + size u + 1) r f.2 l.1)
low_simple s n (invoke e) f l = (call_at s n e f.0, low_expression s n e f.1 l)

low_initial : (s : ℕ → Site) (n : ℕ) (r : Option Value) → FitsInitial r → LowInitial r → IfSome (initial_at s n r) LowRight
low_initial s n None f l = tt
low_initial s n (Some r) f l = low_right s (n + 1) r f l

low_local : (s : ℕ → Site) (n : ℕ) (x : Declared) → FitsLine (declares x) → LowLine (declares x) → LowLocal (local_at s n x)
low_local s n x f l = (low_type s n x.declaring.typing f.0 l.0, low_initial s (n + declaring_size x.declaring) x.initial f.1 l.1)

low_first : (s : ℕ → Site) (n : ℕ) (x : Line) → FitsLine x → LowLine x → LowFirst (first_at s n x)
low_first s n nothing f l = tt
low_first s n (does x) f l = low_simple s n x f l
low_first s n (declares x) f l = low_local s n x f l

low_step : (s : ℕ → Site) (n : ℕ) (x : Option Doing) → FitsStep x → LowStep x → IfSome (step_at s n x) LowSimple
low_step s n None f l = tt
low_step s n (Some x) f l = low_simple s n x f l

low_head : (s : ℕ → Site) (n : ℕ) (x : Loop) → FitsOpening (for_of x) → LowOpening (for_of x) → LowHead (head_at s n x)
low_head s n x f l = (low_first s (n + 2) x.first f.0 l.0, low_option s (n + line_size x.first + 2) x.test f.1 l.1, low_step s (n + line_size x.first + option_size x.test + 3) x.step f.2 l.2)

low_line : (s : ℕ → Site) (n : ℕ) (x : Line) → FitsLine x → LowLine x → LowStatement (line_at s n x)
low_line s n nothing f l = tt
low_line s n (does x) f l = low_simple s n x f l
low_line s n (declares x) f l = low_local s n x f l

-- statements

line_stands : (s : ℕ → Site) (n : ℕ) (x : Line) → is_declaring x ≡ false → is_statement (line_at s n x) ≡ true
line_stands s n (declares x) h = cc
line_stands s n _ h = refl

under_stands : (s : ℕ → Site) (n : ℕ) (w : Opening) (span : Span) (a : tree.Statement) → is_statement (under_at s n w span a) ≡ true
under_stands s n (if_of e) span a = refl
under_stands s n _ span a = refl

stands : (s : ℕ → Site) (n : ℕ) (a : Sentence) → is_declaration a ≡ false → is_statement (statement_at s n a) ≡ true
stands s n (line x) h = line_stands s n x h
stands s n (under w a) h = under_stands s n w _ _
stands s n _ h = refl

mutual
  low_statement : (s : ℕ → Site) (n : ℕ) (a : Sentence) → FitsAs a → LowSentence a → LowStatement (statement_at s n a)
  low_statement s n (line x) f l = low_line s n x f l
  low_statement s n (jump j) f l = tt
  low_statement s n (return e) f l = low_option s (n + 1) e f l
  low_statement s n (block all) f l = low_statements s (n + 1) all f l
  low_statement s n (under w a) f l = low_under s n w _ _ f.1 l.0 (stands s _ a f.0) (low_statement s _ a f.2 l.1)

  low_statements : (s : ℕ → Site) (n : ℕ) (all : Sentences) → FitAllAs all → LowAll all → LowStatements (statements_at s n all)
  low_statements s n no_more f l = tt
  low_statements s n (sentence a rest) f l = (low_statement s n a f.0 l.0, low_statements s (n + sentence_size a) rest f.1 l.1)

  low_under : (s : ℕ → Site) (n : ℕ) (w : Opening) (span : Span) (a : tree.Statement) → FitsOpening w → LowOpening w → is_statement a ≡ true → LowStatement a → LowStatement (under_at s n w span a)
  low_under s n (if_of e) span a f l h k = (low_expression s (n + 2) e f l, h, k)
  low_under s n (else_of e b) span a f l h k = (low_expression s (n + 2) e f.2 l.0, stands s (n + size e + 3) b f.0, low_statement s (n + size e + 3) b f.3 l.1, h, k)
  low_under s n (while_of e) span a f l h k = (low_expression s (n + 2) e f l, h, k)
  low_under s n (for_of x) span a f l h k = (low_head s n x f l, h, k)

-- programs

low_declarations : (s : ℕ → Site) (n : ℕ) (all : List Declaring) → FitAllDeclaring all → FewGiven all → LowDeclarations (declarations_at s n all)
low_declarations s n [] f l = tt
low_declarations s n (d ∷ rest) f l = (low_type s n d.typing f.0 l.0, low_declarations s (n + declaring_size d + 1) rest f.1 l.1)

low_fields : (s : ℕ → Site) (n : ℕ) (all : List Declaring) → FitsFields all → FewGiven all → (0 < length (declarations_at s n all)) × LowDeclarations (declarations_at s n all)
low_fields s n [] f l = absurd f
low_fields s n (d ∷ rest) f l = (omega arith, low_declarations s n (d ∷ rest) f l)

low_form : (s : ℕ → Site) (n : ℕ) (x : Form) → FitsForm x → LowForm (form_at s n x)
low_form s n (initially true Constant.Null) f = absurd f
low_form s n _ f = tt

low_item : (s : ℕ → Site) (n : ℕ) (p : Part) → FitsPart p → LowPart p → LowItem (item_at s n p)
low_item s n (structure x all) f l = low_fields s (n + 3) all f l
low_item s n (global d x) f l = (low_type s n d.typing f.0 l, low_form s (n + declaring_size d) x f.1)
low_item s n (function x) f l = (low_type s n x.result f.0 l.0, low_declarations s (n + type_size x.result + 2) x.parameters f.1 l.1, low_statements s _ x.body f.2 l.2, omega (arith, l.3, same_function s n x))

low_items : (s : ℕ → Site) (n : ℕ) (all : List Part) → IsProgram all → LowProgram all → LowItems (items_at s n all)
low_items s n [] f l = tt
low_items s n (p ∷ rest) f l = (low_item s n p f.0 l.0, low_items s (n + part_size p) rest f.1 l.1)

pub low : (tokens : Tokens) (p : tree.Program) → Reads tokens p → IsLow p
low tokens p r = subst LowItems (sym r.placed) (low_items (site_in tokens.list) 0 r.phrases r.is_program r.within)
