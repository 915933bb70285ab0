-- The same variables are constant in a program with a cast written in it, where its names name what they named.
use Rattle.sharc_suggest_laws.proofs.{Imports.{◌≡◌, inl, inr, ℕ, Bool, true, false, not, ◌&&◌, ◌||◌, cond, List, [], ◌∷◌, ◌++◌, map, Option, Some, None, option_map, is_some, refl, ap, ap₂, sym, ◌∙◌, false≢true, list_any-append, list_any, WrittenType, Declaration, without_parentheses, Expression, identifier, parentheses, call, spawn, on_value, on_place, cast, index, field, unary, binary, Arguments, no_arguments, argument, Right, value, malloc, Simple, assign, does_call, Local, First, nothing, declares, does, Head, Statement, Statements, no_statements, statement, Function, Item, function, Program, Named, Recast, around, with_cast, right_with_cast, simple_with_cast, local_with_cast, first_with_cast, statement_with_cast, statements_with_cast, function_with_cast, item_with_cast, program_with_cast, is_dull, KeepsName, is_among, stands_left, is_assigned_by, is_assigned_in, is_constant, Resolution, functions_in, named_at, lvalue, variable, result, Transfer, parameters_named, gives, passed, transfers, argument_transfers, right_transfers, simple_transfers, first_transfers, statement_transfers, statements_transfers, initialised, initialised_first, initialised_in, initialised_in_all, variable_in, variable_of, with_value, all_with_value}, Declared.same_functions}
use Rattle.sharc_tree.specs.Tree as tree
use Rattle.sharc_ctype.specs.Transfers.{Receiver, in_option}

-- each token names what it named
abbrev pub AllKept : Resolution → Resolution → Type 0
AllKept r now = (token : ℕ) → KeepsName (named_at r token) (named_at now token)

-- ---- what begins with a value

begins : (c : Recast) (l : Local) → initialised (local_with_cast c l) ≡ initialised l
begins c l = by l.initial
  where
    by : (x : Option Right) → cond (is_some (option_map (right_with_cast c) x)) (l.declaration.name.site.token ∷ []) [] ≡ cond (is_some x) (l.declaration.name.site.token ∷ []) []
    by None = refl
    by (Some x) = refl

first_begins : (c : Recast) (f : First) → initialised_first (first_with_cast c f) ≡ initialised_first f
first_begins c (declares l) = begins c l
first_begins c _ = refl

both : (a b x y : List ℕ) → a ≡ x → b ≡ y → a ++ b ≡ x ++ y
both a b x y left right = ap₂ (λ (s t : List ℕ). s ++ t) left right

mutual
  begin_in : (c : Recast) (s : Statement) → initialised_in (statement_with_cast c s) ≡ initialised_in s
  begin_in c (tree.block s all) = begin_in_all c all
  begin_in c (tree.declare s l) = begins c l
  begin_in c (tree.if_then s e a) = begin_in c a
  begin_in c (tree.if_then_else s e a b) = both _ _ _ _ (begin_in c a) (begin_in c b)
  begin_in c (tree.while s e a) = begin_in c a
  begin_in c (tree.for s h a) = both _ _ _ _ (first_begins c h.first) (begin_in c a)
  begin_in c _ = refl

  begin_in_all : (c : Recast) (all : Statements) → initialised_in_all (statements_with_cast c all) ≡ initialised_in_all all
  begin_in_all c no_statements = refl
  begin_in_all c (statement a rest) = both _ _ _ _ (begin_in c a) (begin_in_all c rest)

item_begins : (c : Recast) (i : Item) → with_value (item_with_cast c i) ≡ with_value i
item_begins c (function f) = ap (λ (l : List ℕ). map (λ (d : Declaration). d.name.site.token) f.parameters ++ l) (begin_in_all c f.statements)
item_begins c _ = refl

all_begin : (c : Recast) (items : List Item) → all_with_value (map (item_with_cast c) items) ≡ all_with_value items
all_begin c [] = refl
all_begin c (i ∷ rest) = both _ _ _ _ (item_begins c i) (all_begin c rest)

-- ---- what is assigned

dull_none : (v : Named) → is_dull v ≡ true → variable_in v ≡ []
dull_none (Named.Variable x) is = absurd (false≢true is)
dull_none _ is = refl

variable_kept : (v w : Named) → KeepsName v w → variable_in w ≡ variable_in v
variable_kept v w (inl same) = ap variable_in (sym same)
variable_kept v w (inr p) = dull_none w p.1 ∙ sym (dull_none v p.0)

left_same : (r now : Resolution) (c : Recast) → AllKept r now → (u : Expression) → variable_of now.named (without_parentheses (with_cast c u)) ≡ variable_of r.named (without_parentheses u)
left_same r now c kept (identifier s i) = variable_kept (named_at r i.site.token) (named_at now i.site.token) (kept i.site.token)
left_same r now c kept (parentheses s a) = left_same r now c kept a
left_same r now c kept _ = refl

abbrev assigns : Resolution → ℕ → List Transfer → Bool
assigns r x l = list_any (is_assigned_by r x) l

none_both : (r : Resolution) (x : ℕ) (a b : List Transfer) → assigns r x a ≡ false → assigns r x b ≡ false → assigns r x (a ++ b) ≡ false
none_both r x a b left right = list_any-append (is_assigned_by r x) a b ∙ ap₂ (λ (s t : Bool). s || t) left right

passed_none : (r : Resolution) (x : ℕ) (ds : List Declaration) (all : Arguments) → assigns r x (passed ds all) ≡ false
passed_none r x [] all = refl
passed_none r x (d ∷ rest) no_arguments = refl
passed_none r x (d ∷ rest) (argument a more) = passed_none r x rest more

-- nothing in an expression
mutual
  none_in : (r : Resolution) (x : ℕ) (e : Expression) → assigns r x (transfers r e) ≡ false
  none_in r x (parentheses s a) = none_in r x a
  none_in r x (call s f all) = none_both r x (passed (parameters_named r (named_at r f.site.token)) all) (argument_transfers r all) (passed_none r x (parameters_named r (named_at r f.site.token)) all) (none_in_all r x all)
  none_in r x (spawn s f a) =
      none_both r x (passed (parameters_named r (named_at r f.site.token)) (argument a no_arguments)) (transfers r a) (passed_none r x (parameters_named r (named_at r f.site.token)) (argument a no_arguments)) (none_in r x a)
  none_in r x (on_value s w a) = none_in r x a
  none_in r x (on_place s w a) = none_in r x a
  none_in r x (cast s t a) = none_in r x a
  none_in r x (index s a i) = none_both r x (transfers r a) (transfers r i) (none_in r x a) (none_in r x i)
  none_in r x (field s a w n) = none_in r x a
  none_in r x (unary s o a) = none_in r x a
  none_in r x (binary s o at a b) = none_both r x (transfers r a) (transfers r b) (none_in r x a) (none_in r x b)
  none_in r x _ = refl

  none_in_all : (r : Resolution) (x : ℕ) (all : Arguments) → assigns r x (argument_transfers r all) ≡ false
  none_in_all r x no_arguments = refl
  none_in_all r x (argument a rest) = none_both r x (transfers r a) (argument_transfers r rest) (none_in r x a) (none_in_all r x rest)

none_option : (r : Resolution) (x : ℕ) (e : Option Expression) → assigns r x (in_option (transfers r) e) ≡ false
none_option r x None = refl
none_option r x (Some e) = none_in r x e

none_right : (r : Resolution) (x : ℕ) (y : Right) → assigns r x (right_transfers r y) ≡ false
none_right r x (value e) = none_in r x e
none_right r x (malloc s n w) = none_option r x n

none_initial : (r : Resolution) (x : ℕ) (d : Declaration) (y : Option Right) → assigns r x (in_option (λ z. gives (variable d) z ++ right_transfers r z) y) ≡ false
none_initial r x d None = refl
none_initial r x d (Some y) = none_right r x y

none_returned : (r : Resolution) (x : ℕ) (t : Receiver) (e : Option Expression) → ((y : Right) → stands_left r x t ≡ false) → assigns r x (in_option (λ z. gives t (value z) ++ transfers r z) e) ≡ false
none_returned r x t None other = refl
none_returned r x t (Some e) other = none_both r x (gives t (value e)) (transfers r e) (ap (λ (b : Bool). b || false) (other (value e))) (none_in r x e)

-- the same in both
same_both : (r now : Resolution) (x : ℕ) (a b new more : List Transfer) → assigns now x new ≡ assigns r x a → assigns now x more ≡ assigns r x b → assigns now x (new ++ more) ≡ assigns r x (a ++ b)
same_both r now x a b new more left right =
    list_any-append (is_assigned_by now x) new more ∙ ap₂ (λ (s t : Bool). s || t) left right ∙ sym (list_any-append (is_assigned_by r x) a b)

neither : (p q : Bool) → p ≡ false → q ≡ false → q ≡ p
neither p q left right = right ∙ sym left

in_simple : (r now : Resolution) (c : Recast) → AllKept r now → (x : ℕ) (y : Simple) → assigns now x (simple_transfers now (simple_with_cast c y)) ≡ assigns r x (simple_transfers r y)
in_simple r now c kept x (assign s u y) =
    same_both r now x (gives (lvalue u) y ++ transfers r u) (right_transfers r y) (gives (lvalue (with_cast c u)) (right_with_cast c y) ++ transfers now (with_cast c u)) (right_transfers now (right_with_cast c y))
    (same_both r now x (gives (lvalue u) y) (transfers r u) (gives (lvalue (with_cast c u)) (right_with_cast c y)) (transfers now (with_cast c u))
    (ap (λ (l : List ℕ). is_among x l || false) (left_same r now c kept u)) (neither _ _ (none_in r x u) (none_in now x (with_cast c u))))
    (neither _ _ (none_right r x y) (none_right now x (right_with_cast c y)))
in_simple r now c kept x (does_call e) = neither _ _ (none_in r x e) (none_in now x (with_cast c e))

in_first : (r now : Resolution) (c : Recast) → AllKept r now → (x : ℕ) (f : First) → assigns now x (first_transfers now (first_with_cast c f)) ≡ assigns r x (first_transfers r f)
in_first r now c kept x nothing = refl
in_first r now c kept x (declares l) = neither _ _ (none_initial r x l.declaration l.initial) (none_initial now x l.declaration (option_map (right_with_cast c) l.initial))
in_first r now c kept x (does y) = in_simple r now c kept x y

in_step : (r now : Resolution) (c : Recast) → AllKept r now → (x : ℕ) (y : Option Simple) → assigns now x (in_option (simple_transfers now) (option_map (simple_with_cast c) y)) ≡ assigns r x (in_option (simple_transfers r) y)
in_step r now c kept x None = refl
in_step r now c kept x (Some y) = in_simple r now c kept x y

tests : (r now : Resolution) (c : Recast) (x : ℕ) (e : Expression) → assigns now x (transfers now (with_cast c e)) ≡ assigns r x (transfers r e)
tests r now c x e = neither _ _ (none_in r x e) (none_in now x (with_cast c e))

mutual
  in_statement : (r now : Resolution) (c : Recast) → AllKept r now → (x : ℕ) (w : WrittenType) (s : Statement) → assigns now x (statement_transfers now w (statement_with_cast c s)) ≡ assigns r x (statement_transfers r w s)
  in_statement r now c kept x w (tree.block s all) = in_statements r now c kept x w all
  in_statement r now c kept x w (tree.declare s l) = neither _ _ (none_initial r x l.declaration l.initial) (none_initial now x l.declaration (option_map (right_with_cast c) l.initial))
  in_statement r now c kept x w (tree.simple s y) = in_simple r now c kept x y
  in_statement r now c kept x w (tree.return s e) =
      neither _ _ (none_returned r x (result w) e (λ y. refl)) (none_returned now x (result w) (option_map (λ a. around c (with_cast c a)) e) (λ y. refl))
  in_statement r now c kept x w (tree.if_then s e a) = same_both r now x (transfers r e) (statement_transfers r w a) (transfers now (with_cast c e)) (statement_transfers now w (statement_with_cast c a)) (tests r now c x e) (in_statement r now c kept x w a)
  in_statement r now c kept x w (tree.if_then_else s e a b) =
      same_both r now x (transfers r e ++ statement_transfers r w a) (statement_transfers r w b) (transfers now (with_cast c e) ++ statement_transfers now w (statement_with_cast c a)) (statement_transfers now w (statement_with_cast c b))
      (same_both r now x (transfers r e) (statement_transfers r w a) (transfers now (with_cast c e)) (statement_transfers now w (statement_with_cast c a)) (tests r now c x e) (in_statement r now c kept x w a)) (in_statement r now c kept x w b)
  in_statement r now c kept x w (tree.while s e a) = same_both r now x (transfers r e) (statement_transfers r w a) (transfers now (with_cast c e)) (statement_transfers now w (statement_with_cast c a)) (tests r now c x e) (in_statement r now c kept x w a)
  in_statement r now c kept x w (tree.for s h a) =
      same_both r now x (first_transfers r h.first ++ in_option (transfers r) h.test ++ in_option (simple_transfers r) h.step) (statement_transfers r w a) (first_transfers now (first_with_cast c h.first) ++ in_option (transfers now) (option_map (with_cast c) h.test) ++ in_option (simple_transfers now) (option_map (simple_with_cast c) h.step)) (statement_transfers now w (statement_with_cast c a))
      (same_both r now x (first_transfers r h.first ++ in_option (transfers r) h.test) (in_option (simple_transfers r) h.step) (first_transfers now (first_with_cast c h.first) ++ in_option (transfers now) (option_map (with_cast c) h.test)) (in_option (simple_transfers now) (option_map (simple_with_cast c) h.step))
      (same_both r now x (first_transfers r h.first) (in_option (transfers r) h.test) (first_transfers now (first_with_cast c h.first)) (in_option (transfers now) (option_map (with_cast c) h.test)) (in_first r now c kept x h.first)
      (neither _ _ (none_option r x h.test) (none_option now x (option_map (with_cast c) h.test))))
      (in_step r now c kept x h.step))
      (in_statement r now c kept x w a)
  in_statement r now c kept x w _ = refl

  in_statements : (r now : Resolution) (c : Recast) → AllKept r now → (x : ℕ) (w : WrittenType) (all : Statements) → assigns now x (statements_transfers now w (statements_with_cast c all)) ≡ assigns r x (statements_transfers r w all)
  in_statements r now c kept x w no_statements = refl
  in_statements r now c kept x w (statement a rest) =
      same_both r now x (statement_transfers r w a) (statements_transfers r w rest) (statement_transfers now w (statement_with_cast c a)) (statements_transfers now w (statements_with_cast c rest)) (in_statement r now c kept x w a) (in_statements r now c kept x w rest)

in_functions : (r now : Resolution) (c : Recast) → AllKept r now → (x : ℕ) (fs : List Function) → list_any (is_assigned_in now x) (map (function_with_cast c) fs) ≡ list_any (is_assigned_in r x) fs
in_functions r now c kept x [] = refl
in_functions r now c kept x (f ∷ rest) = ap₂ (λ (a b : Bool). a || b) (in_statements r now c kept x f.result f.statements) (in_functions r now c kept x rest)

-- ---- so

pub constants_same : (r now : Resolution) (c : Recast) → now.program ≡ program_with_cast c r.program → AllKept r now → (x : ℕ) → is_constant now x ≡ is_constant r x
constants_same r now c is kept x =
    ap₂ (λ (l : List ℕ) (b : Bool). is_among x l && not b) (ap (λ (p : Program). all_with_value p.items) is ∙ all_begin c r.program.items)
    (ap (λ (p : Program). list_any (is_assigned_in now x) (functions_in p.items)) is ∙ ap (list_any (is_assigned_in now x)) (same_functions c r.program.items) ∙ in_functions r now c kept x (functions_in r.program.items))
