-- In a program of which no fault is noted the name of each declaration names it.
use Rattle.sharc_ctype_laws.proofs.{Imports.{◌≡◌, ℕ, zero, suc, ◌+◌, List, [], ◌∷◌, ◌++◌, slice_get, sym, subst, arith, add-zero, Some, AllByRecursion, Declaration, StructDefinition, GlobalDefinition, Function, Item, structure, global, function, Named, Scope, type_notes, Role, Heads, behind, item_head_notes, heads_notes, one_field_notes, fields_notes, parameters_notes, Resolution, named_at, structs_in, globals_in, functions_in, with_names, declared, IsItself, same_some, no_some, together}, Held.{Held, left, right, head_named}, Walked.AreDeclared}
use Rattle.sharc_tree.specs.Tree as tree

-- numbers

-- what is at each place of a list has a number, counted from one on
pub AreNumbered : {A : Type 0} → (A → ℕ → Type 0) → ℕ → List A → Type 0
AreNumbered {A} P from list = (k : ℕ) (x : A) → slice_get list k ≡ Some x → P x (from + k)

none_numbered : {A : Type 0} (P : A → ℕ → Type 0) (from : ℕ) → AreNumbered P from []
unfolding AreNumbered
none_numbered P from k x h = absurd (no_some x h)

one_numbered : {A : Type 0} (P : A → ℕ → Type 0) (from : ℕ) (x : A) (rest : List A) → P x from → AreNumbered P (from + 1) rest → AreNumbered P from (x ∷ rest)
unfolding AreNumbered
one_numbered P from x rest p later zero y h = subst (λ z. P z (from + 0)) (same_some x y h) (subst (P x) (sym (add-zero from)) p)
one_numbered P from x rest p later (suc k) y h = subst (P y) (next from k) (later k y h)
  where
    next : (m i : ℕ) → m + 1 + i ≡ m + suc i
    next m i = omega arith

pub from_none : {A : Type 0} (P : A → ℕ → Type 0) (list : List A) → AreNumbered P 0 list → (k : ℕ) (x : A) → slice_get list k ≡ Some x → P x k
unfolding AreNumbered
from_none P list h k x is = subst (P x) (none_more k) (h k x is)
  where
    none_more : (i : ℕ) → 0 + i ≡ i
    none_more i = omega arith

abbrev pub StructNamed : Resolution → StructDefinition → ℕ → Type 0
StructNamed r s n = named_at r s.name.site.token ≡ Named.Struct n

abbrev pub GlobalNamed : Resolution → GlobalDefinition → ℕ → Type 0
GlobalNamed r g n = named_at r g.declaration.name.site.token ≡ Named.Global n

abbrev pub FunctionNamed : Resolution → Function → ℕ → Type 0
FunctionNamed r f n = named_at r f.name.site.token ≡ Named.Function n

pub record AreHeadsNamed (r : Resolution) (h : Heads) (rest : List Item) : Type 0 where
  pub structs : AreNumbered (StructNamed r) h.structs (structs_in rest)
  pub globals : AreNumbered (GlobalNamed r) h.globals (globals_in rest)
  pub functions : AreNumbered (FunctionNamed r) h.functions (functions_in rest)

pub heads_named : (r : Resolution) (h : Heads) (rest : List Item) → Held r (heads_notes h rest) → AreHeadsNamed r h rest
heads_named r h [] n = record { structs = none_numbered (StructNamed r) h.structs; globals = none_numbered (GlobalNamed r) h.globals; functions = none_numbered (FunctionNamed r) h.functions }
heads_named r h (structure s ∷ rest) n =
    let later = heads_named r (behind h (structure s)) rest (right _ (item_head_notes h (structure s)) (heads_notes (behind h (structure s)) rest) n) in
    record { structs = one_numbered (StructNamed r) h.structs s (structs_in rest) (head_named _ _ _ _ (left _ (item_head_notes h (structure s)) (heads_notes (behind h (structure s)) rest) n)) later.structs; globals = later.globals; functions = later.functions }
heads_named r h (global g ∷ rest) n =
    let later = heads_named r (behind h (global g)) rest (right _ (item_head_notes h (global g)) (heads_notes (behind h (global g)) rest) n) in
    record { structs = later.structs; globals = one_numbered (GlobalNamed r) h.globals g (globals_in rest) (head_named _ _ _ _ (left _ (item_head_notes h (global g)) (heads_notes (behind h (global g)) rest) n)) later.globals; functions = later.functions }
heads_named r h (function f ∷ rest) n =
    let later = heads_named r (behind h (function f)) rest (right _ (item_head_notes h (function f)) (heads_notes (behind h (function f)) rest) n) in
    record { structs = later.structs; globals = later.globals; functions = one_numbered (FunctionNamed r) h.functions f (functions_in rest) (head_named _ _ _ _ (left _ (item_head_notes h (function f)) (heads_notes (behind h (function f)) rest) n)) later.functions }

-- fields, parameters and locals

abbrev pub Own : Resolution → (ℕ → Named) → Declaration → Type 0
Own r form d = named_at r d.name.site.token ≡ form d.name.site.token

pub own_fields : (r : Resolution) (scope : Scope) (all earlier rest : List Declaration) → Held r (fields_notes scope all earlier rest) → AllByRecursion (Own r Named.Field) rest
own_fields r scope all earlier [] h = tt
own_fields r scope all earlier (d ∷ rest) h =
    (head_named _ _ _ _ (right _ (type_notes scope all Role.Field d.written) _ (left _ (one_field_notes scope all earlier d) (fields_notes scope all (earlier ++ d ∷ []) rest) h)), own_fields r scope all (earlier ++ d ∷ []) rest (right _ _ _ h))

pub own_parameters : (r : Resolution) (block n : ℕ) (scope : Scope) (list : List Declaration) → Held r (parameters_notes block n scope list) → AllByRecursion (Own r Named.Variable) list
own_parameters r block n scope [] h = tt
own_parameters r block n scope (d ∷ rest) h =
    (head_named _ _ _ _ (right _ (type_notes scope [] Role.Parameter d.written) _ (left _ _ _ (left _ _ _ h))), own_parameters r block (n + 1) (with_names scope (declared block d scope.names)) rest (right _ _ _ h))

pub itself : (r : Resolution) (form : ℕ → Named) (list : List Declaration) → AllByRecursion (Own r form) list → AreDeclared r list → AllByRecursion (IsItself r form) list
itself r form list o d = together (Own r form) _ (IsItself r form) (λ x p q. (p, q)) list o d
