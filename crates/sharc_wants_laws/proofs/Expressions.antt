-- Expressions of a typed program lose no reference.
use Rattle.sharc_wants_laws.proofs.{Imports.{◌≡◌, ℕ, suc, ◌+◌, Bool, true, false, not, cond, List, [], ◌∷◌, ◌++◌, refl, sym, ap, ◌∙◌, subst, length, drop, append_assoc, append-nil, Some, false≢true, true≢false, ℤ, pos, Base, GlobalNumber as Global, Made, TakeKind, Cast, ToFree, Site, Span, Identifier, Dot, Arrow, BinaryOperator, LogicalOr, LogicalAnd, Lock, Unlock, Dereference, ValueCall, is_lvalue, span_of, Expression, identifier, index, field, unary, Arguments, Function, Act, Trap, Named, Kind, object, array, is_array, is_pointer, element_kind, declared_kind, declared_kinds, promoted, class_of, binary_result, named_at, kind_at, function_at, parameters_named, cell_at, pointed, Assignment, cast_row, HasType, HaveTypes, Callee, of_program, of_conditions, a_variable, a_global, a_function, a_constant, in_parentheses, element_of_pointer, element_of_array, a_call, a_field, a_field_behind, complemented, denied, pointed_to, arithmetic, shifted, related, equated, joined, spawned, printed_or_joined, unlocked, a_cast, none_left, one_more, bits_of, fits, is_zero, truth, operated, negative, complement, element_cells, is_null, number_of, elements_of, constant_value, Run, ◌>>=◌, give, answered, moves, is_reference, temporarily, StorePlace, variable, cell, place_named, pointee, field_in, based, element, element_in, index_place, pointee_place, Calls, resulting, tested, operand, fitting, passed, number_named, value_act, spawning, value_called, taking, place_called, cast_value, place_value, binary_value, eval, eval_all, place_of, negated, called}, Runs.{Same, Starts, same_starts, starts_on}, Steps.slot, Typed.{Facts, Names, names_start, named_variable, named_global, field_names, whole_left, passes, pointer_reference, no_function_object, no_function_array, no_function_pointer}}
use Rattle.sharc_tree.specs.declared.tree.expression.PlaceCall.TheVariants.{Free}
use Rattle.sharc_names.specs.Kinds.{mutex}
use Rattle.sharc_names.specs.Kinds as kinds
use Rattle.sharc_ctype_laws.specs.Constraints.{locked, freed}
use Rattle.sharc_wants_laws.proofs.Runs as runs
use Rattle.sharc_wants_laws.proofs.Steps as steps

-- what temporaries hold of arguments for parameters of these types
abbrev pub passed_in : List Kind → List ℤ → List ℤ
passed_in [] vs = []
passed_in (k ∷ ks) [] = []
passed_in (k ∷ ks) (v ∷ vs) = slot (is_pointer k) v ++ passed_in ks vs

module _ (m : Assignment) (n d : ℕ) where
  abbrev pub Kept : {A : Type 0} → List ℤ → Run A → (A → List ℤ → Type 0) → Type 0
  Kept {A} ts x p = runs.Kept m.typed n d {A = A} ts x p

  -- a run that keeps the temporaries, whichever they are
  abbrev pub Keeps : {A : Type 0} → Run A → Type 0
  Keeps x = (ts : List ℤ) → Kept ts x (Same ts)

  pub kept_give : {A : Type 0} (ts : List ℤ) (x : A) (p : A → List ℤ → Type 0) → p x ts → Kept ts (give x) p
  kept_give ts x p h = runs.kept_atom m.typed n d ts _ p (steps.atom_give m.typed n d false ts x p h)

  pub kept_either : {A : Type 0} (q : Bool) (ts : List ℤ) (x y : Run A) (p : A → List ℤ → Type 0) → Kept ts x p → Kept ts y p → Kept ts (cond q x y) p
  kept_either true ts x y p hx hy = hx
  kept_either false ts x y p hx hy = hy

  -- ---- values

  pub tested_kept : (a : Expression) (of_a : Run ℤ) → Keeps of_a → Keeps (tested m.typed a of_a)
  tested_kept a of_a h ts = runs.kept_next m.typed n d ts ts _ _ (Same ts) (h ts) (λ v. runs.kept_atom m.typed n d ts _ (Same ts)
      (runs.atom_next m.typed n d false false false ts ts _ _ (Same ts) (steps.atom_drops m.typed n d false ts (kind_at m.typed a) v) (λ _. steps.atom_give m.typed n d false ts (not (is_zero v)) (Same ts) refl)))

  pub fitting_kept : (kind : Kind) (a : Expression) (of_a : Run ℤ) → Keeps of_a → Keeps (fitting kind a of_a)
  fitting_kept kind a of_a h ts = runs.kept_next m.typed n d ts ts _ _ (Same ts) (h ts) (λ v. runs.kept_atom m.typed n d ts _ (Same ts)
      (runs.atom_next m.typed n d false false false ts ts _ _ (Same ts) (steps.atom_unless m.typed n d (fits kind v) false ts Trap.OutOfRange (span_of a).first) (λ _. steps.atom_give m.typed n d false ts v (Same ts) refl)))

  -- one temporary more, where it may be a reference
  abbrev pub Slotted : List ℤ → Bool → ℤ → List ℤ → Type 0
  Slotted ts q v us = us ≡ ts ++ slot q v

  operand_kept : (ts : List ℤ) (a : Expression) (of_a : Run ℤ) → Keeps of_a → Kept ts (operand m.typed a of_a) (Slotted ts (is_reference (kind_at m.typed a)))
  operand_kept ts a of_a h = runs.kept_next m.typed n d ts ts _ _ (Slotted ts (is_reference (kind_at m.typed a))) (h ts) (λ v. runs.kept_atom m.typed n d ts _ (Slotted ts (is_reference (kind_at m.typed a)))
      (runs.atom_next m.typed n d false false false ts (ts ++ slot (is_reference (kind_at m.typed a)) v) _ _ (Slotted ts (is_reference (kind_at m.typed a))) (steps.atom_holds m.typed n d false ts (kind_at m.typed a) v)
      (λ _. steps.atom_give m.typed n d false (ts ++ slot (is_reference (kind_at m.typed a)) v) v (Slotted ts (is_reference (kind_at m.typed a))) refl)))

  passed_kept : (ts : List ℤ) (kinds : List Kind) (a : Expression) (of_a : Run ℤ) → Keeps of_a → Kept ts (passed m.typed kinds a of_a) (Slotted ts (is_reference (kind_at m.typed a)))
  passed_kept ts [] a of_a h = operand_kept ts a of_a h
  passed_kept ts (kind ∷ rest) a of_a h = operand_kept ts a (fitting kind a of_a) (fitting_kept kind a of_a h)

  -- ---- places

  pointee_kept : (ts : List ℤ) (site : Site) (a : Expression) (pointer : Run ℤ) (b : Base) (j : ℕ) → kind_at m.typed a ≡ object b (j + 1) → Keeps pointer → (k : Kind) → is_array k ≡ false → Kept ts (pointee_place m.typed site a pointer) (Names m.typed ts k)
  pointee_kept ts site a pointer b j is h k plain = runs.kept_next m.typed n d ts ts _ _ (Names m.typed ts k) (h ts) (λ p. runs.kept_atom m.typed n d ts _ (Names m.typed ts k)
      (runs.atom_next m.typed n d false false false ts (ts ++ p ∷ []) _ _ (Names m.typed ts k) (steps.atom_based m.typed n d false ts site (kind_at m.typed a) p (pointer_reference (kind_at m.typed a) (b, j, is)))
      (λ _. steps.atom_give m.typed n d false (ts ++ p ∷ []) (pointee p) (Names m.typed ts k) (plain, (p, refl)))))

  element_behind : (ts : List ℤ) (site : Site) (a : Expression) (pointer i : Run ℤ) (b : Base) (j : ℕ) → kind_at m.typed a ≡ object b (j + 1) → Keeps pointer → Keeps i
      → Kept ts (pointer >>= λ p. based site (kind_at m.typed a) p >>= λ _. i >>= λ x. element site (Made (number_of p)) (element_cells m.typed (element_kind (kind_at m.typed a))) (elements_of p) x) (Names m.typed ts (object b j))
  element_behind ts site a pointer i b j is h hi = runs.kept_next m.typed n d ts ts _ _ (Names m.typed ts (object b j)) (h ts) (λ p.
      runs.kept_next m.typed n d ts (ts ++ p ∷ []) _ _ (Names m.typed ts (object b j)) (runs.kept_atom m.typed n d ts _ (Same (ts ++ p ∷ [])) (steps.atom_based m.typed n d false ts site (kind_at m.typed a) p (pointer_reference (kind_at m.typed a) (b, j, is)))) (λ _.
      runs.kept_next m.typed n d (ts ++ p ∷ []) (ts ++ p ∷ []) _ _ (Names m.typed ts (object b j)) (hi (ts ++ p ∷ [])) (λ x. runs.kept_atom m.typed n d (ts ++ p ∷ []) _ (Names m.typed ts (object b j))
      (steps.atom_element m.typed n d false (ts ++ p ∷ []) site (Made (number_of p)) (element_cells m.typed (element_kind (kind_at m.typed a))) (elements_of p) x (Names m.typed ts (object b j)) (λ c e. (refl, (p, refl)))))))

  index_pointer : (ts : List ℤ) (site : Site) (a : Expression) (whole : Run StorePlace) (pointer i : Run ℤ) (b : Base) (j : ℕ) → kind_at m.typed a ≡ object b (j + 1) → Keeps pointer → Keeps i → Kept ts (index_place m.typed site a whole pointer i) (Names m.typed ts (object b j))
  index_pointer ts site a whole pointer i b j is h hi = by (is_array (kind_at m.typed a)) (ap is_array is) _ (element_behind ts site a pointer i b j is h hi)
    where
      by : (q : Bool) → q ≡ false → (x : Run StorePlace) → {y : Run StorePlace} → Kept ts y (Names m.typed ts (object b j)) → Kept ts (cond q x y) (Names m.typed ts (object b j))
      by true plain x k = absurd (true≢false plain)
      by false plain x k = k

  -- an array is a global
  array_base : (ts : List ℤ) (site : Site) (cells : ℕ) (i : Run ℤ) (b : Base) (j : ℕ) (p : StorePlace) (us : List ℤ) → Names m.typed ts (array b j) p us → Keeps i → Kept us (i >>= λ x. element_in m.typed site cells p x) (Names m.typed ts (object b j))
  array_base ts site cells i b j (variable x) us h hi = absurd (true≢false h.0)
  array_base ts site cells i b j (cell (Made k) first c) us h hi = absurd (true≢false h.0)
  array_base ts site cells i b j (cell (Global g) first c) us h hi = runs.kept_next m.typed n d us us _ _ (Names m.typed ts (object b j)) (hi us) (λ x. runs.kept_atom m.typed n d us _ (Names m.typed ts (object b j))
      (steps.atom_element m.typed n d false us site (Global g) cells _ x (Names m.typed ts (object b j)) (λ c e. h)))

  element_of : (ts : List ℤ) (site : Site) (cells : ℕ) (whole : Run StorePlace) (i : Run ℤ) (b : Base) (j : ℕ) → Kept ts whole (Names m.typed ts (array b j)) → Keeps i → Kept ts (whole >>= λ p. i >>= λ x. element_in m.typed site cells p x) (Names m.typed ts (object b j))
  element_of ts site cells whole i b j h hi = runs.kept_then m.typed n d ts whole _ (Names m.typed ts (array b j)) (Names m.typed ts (object b j)) h (λ p us k. array_base ts site cells i b j p us k hi)

  index_array : (ts : List ℤ) (site : Site) (a : Expression) (whole : Run StorePlace) (pointer i : Run ℤ) (b : Base) (j : ℕ) → kind_at m.typed a ≡ array b j → Kept ts whole (Names m.typed ts (array b j)) → Keeps i → Kept ts (index_place m.typed site a whole pointer i) (Names m.typed ts (object b j))
  index_array ts site a whole pointer i b j is h hi = by (is_array (kind_at m.typed a)) (ap is_array is) (element_of ts site (element_cells m.typed (element_kind (kind_at m.typed a))) whole i b j h hi) _
    where
      by : (q : Bool) → q ≡ true → {x : Run StorePlace} → Kept ts x (Names m.typed ts (object b j)) → (y : Run StorePlace) → Kept ts (cond q x y) (Names m.typed ts (object b j))
      by true whole k y = k
      by false whole k y = absurd (false≢true whole)

  field_kept : (ts : List ℤ) (place : Run StorePlace) (x : List ℕ) (k : Kind) (j : ℕ) → is_array k ≡ false → Kept ts place (Names m.typed ts (object (Base.Struct x) 0)) → Kept ts (place >>= λ p. give (field_in j p)) (Names m.typed ts k)
  field_kept ts place x k j plain h = runs.kept_then m.typed n d ts place _ (Names m.typed ts (object (Base.Struct x) 0)) (Names m.typed ts k) h (λ p us z. kept_give us (field_in j p) (Names m.typed ts k) (field_names m.typed ts x k j p us plain z))

  value_kept : (ts : List ℤ) (e : Expression) (place : Run StorePlace) (k : Kind) → Kept ts place (Names m.typed ts k) → Kept ts (place_value m e place) (Same ts)
  value_kept ts e place k h = runs.kept_scope m.typed n d ts _ (Starts ts) (λ x us s. s) (runs.kept_then m.typed n d ts place _ (Names m.typed ts k) (Starts ts) h (λ p us z.
      runs.kept_as m.typed n d us _ (Same us) (Starts ts) (λ x vs same. starts_on ts us x vs (names_start m.typed ts k p us x z) same) (runs.kept_atom m.typed n d us _ (Same us) (steps.atom_fetched m.typed n d false us m.typed (span_of e).first (cell_at m e) p))))

  taking_kept : (ts : List ℤ) (s : Span) (kind : TakeKind) (a : Expression) (place : Run StorePlace) (k : Kind) → Kept ts place (Names m.typed ts k) → Kept ts (taking m s kind a place) (Same ts)
  taking_kept ts s kind a place k h = runs.kept_scope m.typed n d ts _ (Starts ts) (λ x us s. s) (runs.kept_then m.typed n d ts place _ (Names m.typed ts k) (Starts ts) h (λ p us z.
      runs.kept_as m.typed n d us _ (Same us) (Starts ts) (λ x vs same. starts_on ts us x vs (names_start m.typed ts k p us x z) same) (runs.kept_atom m.typed n d us _ (Same us) (steps.atom_taken m.typed n d us m.typed s.first (span_of a).first (cell_at m a) kind p))))

  -- ---- operators

  both_kept : (ts : List ℤ) (at : Site) (o : BinaryOperator) (a b : Expression) (of_a of_b : Run ℤ) → Keeps of_a → Keeps of_b
      → Kept ts (temporarily (operand m.typed a of_a >>= λ x. operand m.typed b of_b >>= λ y. resulting at (operated (bits_of (binary_result (class_of o) (kind_at m.typed a) (kind_at m.typed b))) o x y))) (Same ts)
  both_kept ts at o a b of_a of_b ha hb = runs.kept_scope m.typed n d ts _ (Starts ts) (λ x us s. s) (runs.kept_then m.typed n d ts _ _ (Slotted ts (is_reference (kind_at m.typed a))) (Starts ts) (operand_kept ts a of_a ha) (λ x us first.
      runs.kept_then m.typed n d us _ _ (Slotted us (is_reference (kind_at m.typed b))) (Starts ts) (operand_kept us b of_b hb) (λ y vs second.
      runs.kept_as m.typed n d vs _ (Same vs) (Starts ts) (λ z ws same. (
        slot (is_reference (kind_at m.typed a)) x ++ slot (is_reference (kind_at m.typed b)) y,
        same ∙ second ∙ ap (λ l. l ++ slot (is_reference (kind_at m.typed b)) y) first ∙ append_assoc ts (slot (is_reference (kind_at m.typed a)) x) (slot (is_reference (kind_at m.typed b)) y),
      ))
      (runs.kept_atom m.typed n d vs _ (Same vs) (steps.atom_result m.typed n d vs at (operated (bits_of (binary_result (class_of o) (kind_at m.typed a) (kind_at m.typed b))) o x y))))))

  binary_kept : (ts : List ℤ) (at : Site) (o : BinaryOperator) (a b : Expression) (of_a of_b : Run ℤ) → Keeps of_a → Keeps of_b → Kept ts (binary_value m.typed at o a b of_a of_b) (Same ts)
  binary_kept ts at LogicalAnd a b of_a of_b ha hb = runs.kept_next m.typed n d ts ts _ _ (Same ts) (tested_kept a of_a ha ts) (λ left. runs.kept_next m.typed n d ts ts _ _ (Same ts) (kept_either left ts _ _ (Same ts) (tested_kept b of_b hb ts) (kept_give ts false (Same ts) refl)) (λ right. kept_give ts (truth right) (Same ts) refl))
  binary_kept ts at LogicalOr a b of_a of_b ha hb = runs.kept_next m.typed n d ts ts _ _ (Same ts) (tested_kept a of_a ha ts) (λ left. runs.kept_next m.typed n d ts ts _ _ (Same ts) (kept_either left ts _ _ (Same ts) (kept_give ts true (Same ts) refl) (tested_kept b of_b hb ts)) (λ right. kept_give ts (truth right) (Same ts) refl))
  binary_kept ts at o a b of_a of_b ha hb = both_kept ts at o a b of_a of_b ha hb

  -- ---- calls of what is known

  value_called_kept : (ts : List ℤ) (site : Site) (w : ValueCall) (of_a : Run ℤ) → Keeps of_a → Kept ts (value_called site w of_a) (Same ts)
  value_called_kept ts site w of_a h = runs.kept_next m.typed n d ts ts _ _ (Same ts) (h ts) (λ v. runs.kept_next m.typed n d ts ts _ _ (Same ts)
      (runs.kept_atom m.typed n d ts _ (Same ts) (steps.atom_level m.typed n d false ts _ (Same ts) (steps.atom_performs m.typed n d false ts site (value_act w v)))) (λ _. kept_give ts (pos 0) (Same ts) refl))

  spawned_kept : (ts : List ℤ) (site : Site) (f : Named) (a : Expression) (of_a : Run ℤ) → Keeps of_a → Kept ts (spawning m.typed site f a of_a) (Same ts)
  spawned_kept ts site f a of_a h = runs.kept_scope m.typed n d ts _ (Starts ts) (λ x us s. s) (runs.kept_then m.typed n d ts _ _ (Slotted ts (is_reference (kind_at m.typed a))) (Starts ts) (passed_kept ts (declared_kinds (parameters_named m.typed f)) a of_a h) (λ v us is.
      subst (λ z. Kept z (answered site (Act.Spawn (number_named f) v) >>= λ t. moves (kind_at m.typed a) >>= λ _. give t) (Starts ts)) (sym is) (runs.kept_as m.typed n d _ _ (Same ts) (Starts ts) (same_starts ts) (runs.kept_atom m.typed n d _ _ (Same ts) (runs.atom_weak m.typed n d _ _ (Same ts) (moved v))))))
    where
      moved : (v : ℤ) → steps.Atom m.typed n d false true (ts ++ slot (is_reference (kind_at m.typed a)) v) (answered site (Act.Spawn (number_named f) v) >>= λ t. moves (kind_at m.typed a) >>= λ _. give t) (Same ts)
      moved v = runs.atom_next m.typed n d false true true _ (ts ++ slot (is_reference (kind_at m.typed a)) v) _ _ (Same ts) (steps.atom_event m.typed n d false _ site (Act.Spawn (number_named f) v)) (λ t.
          runs.atom_next m.typed n d true true true _ ts _ _ (Same ts) (steps.atom_moves m.typed n d ts (kind_at m.typed a) v) (λ _. steps.atom_give m.typed n d true ts t (Same ts) refl))

  based_as : (ts : List ℤ) (k : Kind) (p : StorePlace) (us : List ℤ) → Names m.typed ts k p us → steps.Based m.typed n d ts p us
  based_as ts k (variable x) us h = subst (λ z. steps.Based m.typed n d ts (variable x) z) (sym h.2) steps.no_base
  based_as ts k (cell (Global g) first c) us h = subst (λ z. steps.Based m.typed n d ts (cell (Global g) first c) z) (sym h) steps.in_global
  based_as ts k (cell (Made j) first c) us h = subst (λ z. steps.Based m.typed n d ts (cell (Made j) first c) z) (sym h.1.1) (steps.in_object h.1.0)

  locked_kept : (ts : List ℤ) (s : Span) (a : Expression) (place : Run StorePlace) (k : Kind) → Kept ts place (Names m.typed ts k) → Kept ts (place_called m s Lock a place) (Same ts)
  locked_kept ts s a place k h = runs.kept_scope m.typed n d ts _ (Starts ts) (λ x us s. s) (runs.kept_then m.typed n d ts place _ (Names m.typed ts k) (Starts ts) h (λ p us z.
      runs.kept_as m.typed n d us _ (Same ts) (Starts ts) (same_starts ts) (runs.kept_atom m.typed n d us _ (Same ts) (steps.atom_lock m.typed n d ts us s.first p (based_as ts k p us z)))))

  unlocked_kept : (ts : List ℤ) (s : Span) (a : Expression) (place : Run StorePlace) (k : Kind) → Kept ts place (Names m.typed ts k) → Kept ts (place_called m s Unlock a place) (Same ts)
  unlocked_kept ts s a place k h = runs.kept_scope m.typed n d ts _ (Starts ts) (λ x us s. s) (runs.kept_then m.typed n d ts place _ (Names m.typed ts k) (Starts ts) h (λ p us z.
      runs.kept_as m.typed n d us _ (Same us) (Starts ts) (λ x vs same. starts_on ts us x vs (names_start m.typed ts k p us x z) same) (runs.kept_atom m.typed n d us _ (Same us) (steps.atom_unlock m.typed n d us s.first p))))

  freed_kept : (ts : List ℤ) (s : Span) (a : Expression) (place : Run StorePlace) (k : Kind) → Kept ts place (Names m.typed ts k) → Kept ts (place_called m s Free a place) (Same ts)
  freed_kept ts s a place k h = runs.kept_next m.typed n d ts ts _ _ (Same ts) (taking_kept ts s ToFree a place k h) (λ v. kept_either (is_null v) ts _ _ (Same ts) (kept_give ts tt (Same ts) refl)
      (runs.kept_atom m.typed n d ts _ (Same ts) (steps.atom_freed m.typed n d ts (span_of a).first v)))

  cast_kept : (ts : List ℤ) (s : Span) (a : Expression) (place : Run StorePlace) (k : Kind) → Kept ts place (Names m.typed ts k) → Kept ts (cast_value m s a place) (Same ts)
  cast_kept ts s a place k h = runs.kept_next m.typed n d ts ts _ _ (Same ts) (taking_kept ts s Cast a place k h) (λ v. kept_either (is_null v) ts _ _ (Same ts) (kept_give ts v (Same ts) refl)
      (runs.kept_atom m.typed n d ts _ (Same ts) (steps.atom_cast m.typed n d ts m.typed (span_of a).first (pointed m (Some (cast_row m.typed s))) v)))

  -- ---- calls of functions

  -- a call takes the temporaries of its arguments away
  abbrev pub CallsKeep : Calls → Type 0
  CallsKeep on_call = (k : ℕ) (f : Function) → function_at m.typed k ≡ Some f → (site : Site) (vs : List ℤ) → length vs ≡ length (declared_kinds f.parameters) → (ts : List ℤ) → Kept (ts ++ passed_in (declared_kinds f.parameters) vs) (on_call k site vs) (Same ts)

  abbrev pub Passed : List ℤ → List Kind → List ℤ → List ℤ → Type 0
  Passed ts ps vs us = (us ≡ ts ++ passed_in ps vs) × (length vs ≡ length ps)

  module _ (on_call : Calls) (hc : CallsKeep on_call) (w : Facts m.typed) where
    called_kept : (i : Identifier) (ps : List Kind) (result : Kind) → Callee m.typed i ps result → (site : Site) (vs : List ℤ) → length vs ≡ length ps → (ts : List ℤ) → Kept (ts ++ passed_in ps vs) (called on_call site (named_at m.typed i.site.token) i.text vs) (Starts ts)
    called_kept i _ _ (of_program {n = k} f is at spelled other) site vs long ts = subst (λ z. Kept (ts ++ passed_in (declared_kinds f.parameters) vs) (called on_call site z i.text vs) (Starts ts)) (sym is)
        (runs.kept_as m.typed n d _ _ (Same ts) (Starts ts) (same_starts ts) (hc k f at site vs long ts))
    called_kept i ps _ (of_conditions c is spelled) site vs long ts = subst (λ z. Kept (ts ++ passed_in ps vs) (called on_call site z i.text vs) (Starts ts)) (sym is)
        (runs.kept_next m.typed n d _ (ts ++ passed_in ps vs) _ _ (Starts ts) (runs.kept_atom m.typed n d _ _ (Same (ts ++ passed_in ps vs)) (steps.atom_condition m.typed n d (ts ++ passed_in ps vs) site i.text vs))
        (λ _. kept_give (ts ++ passed_in ps vs) (pos 0) (Starts ts) (passed_in ps vs, refl)))

    one_argument : (ts us vs : List ℤ) (want : Kind) (ps : List Kind) (v : ℤ) (xs : List ℤ) (q : Bool) → q ≡ is_pointer want → us ≡ ts ++ slot q v → (vs ≡ us ++ passed_in ps xs) × (length xs ≡ length ps) → Passed ts (want ∷ ps) (v ∷ xs) vs
    one_argument ts us vs want ps v xs q sort is rest = (
      rest.0 ∙ ap (λ l. l ++ passed_in ps xs) (is ∙ ap (λ b. ts ++ slot b v) sort) ∙ append_assoc ts (slot (is_pointer want) v) (passed_in ps xs),
      ap suc rest.1,
    )

    mutual
      pub eval_kept : (e : Expression) (k : Kind) → HasType m.typed e k → Keeps (eval on_call m e)
      eval_kept _ _ (a_variable {s = s} {i = i} is at spelled) ts = runs.kept_entered m.typed n d ts _ (Same ts) (runs.kept_atom m.typed n d ts _ (Same ts) (steps.atom_named m.typed n d false ts m.typed (cell_at m (identifier s i)) i.site (named_at m.typed i.site.token)))
      eval_kept _ _ (a_global {s = s} {i = i} is at spelled) ts = runs.kept_entered m.typed n d ts _ (Same ts) (runs.kept_atom m.typed n d ts _ (Same ts) (steps.atom_named m.typed n d false ts m.typed (cell_at m (identifier s i)) i.site (named_at m.typed i.site.token)))
      eval_kept _ _ (a_function {s = s} {i = i} q) ts = runs.kept_entered m.typed n d ts _ (Same ts) (runs.kept_atom m.typed n d ts _ (Same ts) (steps.atom_named m.typed n d false ts m.typed (cell_at m (identifier s i)) i.site (named_at m.typed i.site.token)))
      eval_kept _ _ (a_constant {c = c}) ts = runs.kept_entered m.typed n d ts _ (Same ts) (kept_give ts (constant_value c) (Same ts) refl)
      eval_kept _ _ (in_parentheses a) ts = runs.kept_entered m.typed n d ts _ (Same ts) (eval_kept _ _ a ts)
      eval_kept _ _ (element_of_pointer {s = s} {a = a} {i = i} {b = b} {n = j} x y t) ts = runs.kept_entered m.typed n d ts _ (Same ts) (value_kept ts (index s a i) _ (object b j)
          (index_pointer ts s.first a _ _ _ b j (w.one _ _ x) (eval_kept _ _ x) (eval_kept _ _ y)))
      eval_kept _ _ (element_of_array {s = s} {a = a} {i = i} {b = b} {n = j} x y t) ts = runs.kept_entered m.typed n d ts _ (Same ts) (value_kept ts (index s a i) _ (object b j)
          (index_array ts s.first a _ _ _ b j (w.one _ _ x) (place_kept s.first _ _ x (whole_left m.typed w _ _ x refl) (no_function_array b j) ts) (eval_kept _ _ y)))
      eval_kept _ _ (a_call {s = s} {f = f} {all = all} {parameters = ps} q x) ts = runs.kept_entered m.typed n d ts _ (Same ts) (runs.kept_scope m.typed n d ts _ (Starts ts) (λ y us z. z)
          (runs.kept_then m.typed n d ts _ _ (Passed ts ps) (Starts ts) (all_kept (declared_kinds (parameters_named m.typed (named_at m.typed f.site.token))) ps all x ts)
          (λ vs us z. subst (λ l. Kept l (called on_call s.first (named_at m.typed f.site.token) f.text vs) (Starts ts)) (sym z.0) (called_kept f ps _ q s.first vs z.1 ts))))
      eval_kept _ _ (a_field {s = s} {a = a} {x = x} {name = name} {d = f} h member is) ts = runs.kept_entered m.typed n d ts _ (Same ts) (value_kept ts (field s a Dot name) _ (declared_kind f.written)
          (field_kept ts _ x (declared_kind f.written) _ refl (place_kept s.first _ _ h (whole_left m.typed w _ _ h refl) (no_function_object (Base.Struct x) 0) ts)))
      eval_kept _ _ (a_field_behind {s = s} {a = a} {x = x} {name = name} {d = f} h member is) ts = runs.kept_entered m.typed n d ts _ (Same ts) (value_kept ts (field s a Arrow name) _ (declared_kind f.written)
          (field_kept ts _ x (declared_kind f.written) _ refl (pointee_kept ts s.first a _ (Base.Struct x) 0 (w.one _ _ h) (eval_kept _ _ h) (object (Base.Struct x) 0) refl)))
      eval_kept _ _ (negated {s = s} {a = a} h i x) ts = runs.kept_entered m.typed n d ts _ (Same ts) (runs.kept_next m.typed n d ts ts _ _ (Same ts) (eval_kept _ _ h ts) (λ v. runs.kept_atom m.typed n d ts _ (Same ts) (steps.atom_result m.typed n d ts s.first (negative (bits_of (promoted (kind_at m.typed a))) v))))
      eval_kept _ _ (complemented {s = s} {a = a} h i x) ts = runs.kept_entered m.typed n d ts _ (Same ts) (runs.kept_next m.typed n d ts ts _ _ (Same ts) (eval_kept _ _ h ts) (λ v. kept_give ts (complement v) (Same ts) refl))
      eval_kept _ _ (denied {s = s} {a = a} h scalar) ts = runs.kept_entered m.typed n d ts _ (Same ts) (runs.kept_next m.typed n d ts ts _ _ (Same ts) (tested_kept a _ (eval_kept _ _ h) ts) (λ is_true. kept_give ts (truth (not is_true)) (Same ts) refl))
      eval_kept _ _ (pointed_to {s = s} {a = a} {b = b} {n = j} h) ts = runs.kept_entered m.typed n d ts _ (Same ts) (value_kept ts (unary s Dereference a) _ (object b j)
          (pointee_kept ts s.first a _ b j (w.one _ _ h) (eval_kept _ _ h) (object b j) refl))
      eval_kept _ _ (arithmetic {s = s} {o = o} {at = at} {a = a} {b = b} is x y i j t) ts = runs.kept_entered m.typed n d ts _ (Same ts) (binary_kept ts at o a b _ _ (eval_kept _ _ x) (eval_kept _ _ y))
      eval_kept _ _ (shifted {s = s} {o = o} {at = at} {a = a} {b = b} is x y i j t) ts = runs.kept_entered m.typed n d ts _ (Same ts) (binary_kept ts at o a b _ _ (eval_kept _ _ x) (eval_kept _ _ y))
      eval_kept _ _ (related {s = s} {o = o} {at = at} {a = a} {b = b} is x y i j) ts = runs.kept_entered m.typed n d ts _ (Same ts) (binary_kept ts at o a b _ _ (eval_kept _ _ x) (eval_kept _ _ y))
      eval_kept _ _ (equated {s = s} {o = o} {at = at} {a = a} {b = b} is x y i) ts = runs.kept_entered m.typed n d ts _ (Same ts) (binary_kept ts at o a b _ _ (eval_kept _ _ x) (eval_kept _ _ y))
      eval_kept _ _ (joined {s = s} {o = o} {at = at} {a = a} {b = b} is x y i j) ts = runs.kept_entered m.typed n d ts _ (Same ts) (binary_kept ts at o a b _ _ (eval_kept _ _ x) (eval_kept _ _ y))
      eval_kept _ _ (spawned {s = s} {f = f} {a = a} q (one_more h sort none_left)) ts = runs.kept_entered m.typed n d ts _ (Same ts) (spawned_kept ts s.first (named_at m.typed f.site.token) a _ (eval_kept _ _ h))
      eval_kept _ _ (printed_or_joined {s = s} {w = what} {a = a} h i) ts = runs.kept_entered m.typed n d ts _ (Same ts) (value_called_kept ts s.first what _ (eval_kept _ _ h))
      eval_kept _ _ (locked {s = s} {a = a} l h) ts = runs.kept_entered m.typed n d ts _ (Same ts) (runs.kept_next m.typed n d ts ts _ _ (Same ts) (locked_kept ts s a _ mutex (place_kept (span_of a).first _ _ h l (no_function_object _ _) ts)) (λ _. kept_give ts (pos 0) (Same ts) refl))
      eval_kept _ _ (unlocked {s = s} {a = a} l h) ts = runs.kept_entered m.typed n d ts _ (Same ts) (runs.kept_next m.typed n d ts ts _ _ (Same ts) (unlocked_kept ts s a _ mutex (place_kept (span_of a).first _ _ h l (no_function_object _ _) ts)) (λ _. kept_give ts (pos 0) (Same ts) refl))
      eval_kept _ _ (freed {s = s} {a = a} {k = k} l h p) ts = runs.kept_entered m.typed n d ts _ (Same ts) (runs.kept_next m.typed n d ts ts _ _ (Same ts) (freed_kept ts s a _ k (place_kept (span_of a).first _ _ h l (no_function_pointer k p) ts)) (λ _. kept_give ts (pos 0) (Same ts) refl))
      eval_kept _ _ (a_cast {s = s} {t = t} {a = a} l h p) ts = runs.kept_entered m.typed n d ts _ (Same ts) (cast_kept ts s a _ (declared_kind t) (place_kept (span_of a).first _ _ h l (no_function_object _ _) ts))

      all_kept : (kinds ps : List Kind) (all : Arguments) → HaveTypes m.typed all ps → (ts : List ℤ) → Kept ts (eval_all on_call m kinds all) (Passed ts ps)
      all_kept kinds _ _ none_left ts = kept_give ts [] (Passed ts []) (sym (append-nil ts), refl)
      all_kept kinds _ _ (one_more {a = a} {rest = rest} {parameter = want} {k = k} {parameters = ps} h sort more) ts = runs.kept_then m.typed n d ts _ _ (Slotted ts (is_reference (kind_at m.typed a))) (Passed ts (want ∷ ps)) (passed_kept ts kinds a _ (eval_kept _ _ h)) (λ v us is.
          runs.kept_then m.typed n d us _ _ (Passed us ps) (Passed ts (want ∷ ps)) (all_kept (drop 1 kinds) ps rest more us) (λ xs vs z.
          kept_give vs (v ∷ xs) (Passed ts (want ∷ ps)) (one_argument ts us vs want ps v xs (is_reference (kind_at m.typed a)) (ap is_reference (w.one _ _ h) ∙ passes want k sort) is z)))

      pub place_kept : (site : Site) (e : Expression) (k : Kind) → HasType m.typed e k → is_lvalue e ≡ true → (k ≡ kinds.function → ⊥) → (ts : List ℤ) → Kept ts (place_of on_call m site e) (Names m.typed ts k)
      place_kept site _ _ (a_variable {i = i} {token = x} {d = f} is at spelled) l other ts = runs.kept_entered m.typed n d ts _ (Names m.typed ts (declared_kind f.written)) (kept_give ts (place_named (named_at m.typed i.site.token)) (Names m.typed ts (declared_kind f.written)) (named_variable m.typed ts (named_at m.typed i.site.token) x f is at))
      place_kept site _ k (a_global {i = i} {n = g} is at spelled) l other ts = runs.kept_entered m.typed n d ts _ (Names m.typed ts k) (kept_give ts (place_named (named_at m.typed i.site.token)) (Names m.typed ts k) (named_global m.typed ts (named_at m.typed i.site.token) g k is))
      place_kept site _ _ (a_function q) l other ts = absurd (other refl)
      place_kept site _ _ a_constant l other ts = absurd (false≢true l)
      place_kept site _ k (in_parentheses a) l other ts = runs.kept_entered m.typed n d ts _ (Names m.typed ts k) (place_kept site _ _ a l other ts)
      place_kept site _ _ (element_of_pointer {a = a} {b = b} {n = j} x y t) l other ts = runs.kept_entered m.typed n d ts _ (Names m.typed ts (object b j)) (index_pointer ts site a _ _ _ b j (w.one _ _ x) (eval_kept _ _ x) (eval_kept _ _ y))
      place_kept site _ _ (element_of_array {a = a} {b = b} {n = j} x y t) l other ts = runs.kept_entered m.typed n d ts _ (Names m.typed ts (object b j))
          (index_array ts site a _ _ _ b j (w.one _ _ x) (place_kept site _ _ x (whole_left m.typed w _ _ x refl) (no_function_array b j) ts) (eval_kept _ _ y))
      place_kept site _ _ (a_call q x) l other ts = absurd (false≢true l)
      place_kept site _ _ (a_field {a = a} {x = x} {d = f} h member is) l other ts = runs.kept_entered m.typed n d ts _ (Names m.typed ts (declared_kind f.written))
          (field_kept ts _ x (declared_kind f.written) _ refl (place_kept site _ _ h (whole_left m.typed w _ _ h refl) (no_function_object (Base.Struct x) 0) ts))
      place_kept site _ _ (a_field_behind {a = a} {x = x} {d = f} h member is) l other ts = runs.kept_entered m.typed n d ts _ (Names m.typed ts (declared_kind f.written))
          (field_kept ts _ x (declared_kind f.written) _ refl (pointee_kept ts site a _ (Base.Struct x) 0 (w.one _ _ h) (eval_kept _ _ h) (object (Base.Struct x) 0) refl))
      place_kept site _ _ (negated a i x) l other ts = absurd (false≢true l)
      place_kept site _ _ (complemented a i x) l other ts = absurd (false≢true l)
      place_kept site _ _ (denied a s) l other ts = absurd (false≢true l)
      place_kept site _ _ (pointed_to {a = a} {b = b} {n = j} h) l other ts = runs.kept_entered m.typed n d ts _ (Names m.typed ts (object b j)) (pointee_kept ts site a _ b j (w.one _ _ h) (eval_kept _ _ h) (object b j) refl)
      place_kept site _ _ (arithmetic is a b i j x) l other ts = absurd (false≢true l)
      place_kept site _ _ (shifted is a b i j x) l other ts = absurd (false≢true l)
      place_kept site _ _ (related is a b i j) l other ts = absurd (false≢true l)
      place_kept site _ _ (equated is a b x) l other ts = absurd (false≢true l)
      place_kept site _ _ (joined is a b i j) l other ts = absurd (false≢true l)
      place_kept site _ _ (spawned q a) l other ts = absurd (false≢true l)
      place_kept site _ _ (printed_or_joined a i) l other ts = absurd (false≢true l)
      place_kept site _ _ (locked l2 a) l other ts = absurd (false≢true l)
      place_kept site _ _ (unlocked l2 a) l other ts = absurd (false≢true l)
      place_kept site _ _ (freed l2 a p) l other ts = absurd (false≢true l)
      place_kept site _ _ (a_cast l2 a p) l other ts = absurd (false≢true l)
