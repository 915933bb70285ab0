-- The code of an expression is typed, by what the types of the source say of it.
use Rattle.sharc_typed_laws.proofs.{Imports.{◌≡◌, ℕ, ◌+◌, ◌<◌, ◌≤◌, ◌⊎◌, Bool, true, false, cond, List, [], ◌∷◌, ◌++◌, Option, Some, None, refl, sym, ap, ◌∙◌, subst, inl, inr, ⊎_elim, arith, append_assoc, drop, codes, bytes_eq, false≢true, cases_eq, cases_lt, Site, Span, Identifier, WrittenType, Dot, Arrow, BinaryOperator, LogicalOr, LogicalAnd, Constant, Unlock, Free, Negate, Not, Dereference, Join, Print, span_of, Expression, identifier, constant, parentheses, call, spawn, on_value, on_place, cast, index, field, unary, binary, Arguments, no_arguments, argument, Name as Named, Kind, is_array, is_integer, element_kind, promoted, declared_kinds, Use, Register, Width, Char, put, put_same, put_other, put_all, global_at, structs_in, parameters_named, Sharing, element_cells, field_place_named, global_elements, number_named, constant_value, is_reference, Op, Spot, first_cell, Lvalue, Context, ref_count, register_of, number_in, at_site, Target, variable, in_global, in_global_at, in_object, in_object_at, target, named_target, own_field, global_of, guard_width, copy_code, cell_value_code, cell_take_code, take_code, value_code, index_code, pointee_code, bounds_code, width_of, kind_of, is_ref, target_of, mode_of, what_names, lvalue_in, guard_of, constant_code, named_code, truth_code, compare_code, logical_code, either_code, behind_int, behind_ref, operator_of, wait_code, with_words, argument_words, condition_code, called_code, passed_code, spawn_code, cast_code, layout_of, expression_code, arguments_code, place_code, Either, is_cell, StaticType, cells_of, MutexWord, Waiters, Entry, Empty, Refers, Element, Number, Anything, Nth, Exactly, Within, Indexes, OfElement, OfGlobal, Closed, Label, Less as LessLabel, LessNumber, LessEntry, LessGate, HasBase, fill, set_number, without_copies, Passes, ints_in, refs_in, wider, less_refl, less_entry_refl, less_number_refl, scoped_fill, Mark, Setting, Way, AreOpen, IsNamed, IsPlain, AreLow, no_type, mark, Typing, IsCopyIn, IsCopyNamed, IsCopyOf, IsPointerCopy, Ground, ReferenceTyped, IsBare, StandsIn, type_by, GoesTo, Widens, ints_behind, refs_behind, AreFree, IsTypeIn, IsVoid, IsNumber, IsPointer, ground_of, CellTyped, VariableTyped, NameTyped, ConstantTyped, UnaryTyped, result_of, ComparedTyped, HasType, AreFields, IndexTypable, ArgumentAt, ArgumentsAt, ResultTyped, CallTyped, HasNoWidth, Goes, Handed, SpawnTyped, FirstCell, IsOne, AreTwo, ConditionTyped, VariableTakes, Takes, TakeTyped, CastTyped, FreeTyped, CallTypable, IsTypable, AreTypable, IsPlaceTypable, none_some}, Fitting.fits_same, Losing.{with_copies, Loses, loses_none, loses_both, loses_taken, stands_lost, less_lost, holds_lost, below, loses_below, loses_there, small_there, lost_fill, copy_kept}, Standing.less_by, Telling.{told, other_than}, Rules.on_nothing, Parts.{P, at_number, at_fill, number_above, does, then_do, none, enter, constant_at, width_at, from_free, false_at, compute_at, negate_at, complement_at, number_dropped, truth_at, compare_at, logical_at, either_at, check_at, pointee_at, print_at, join_at, with_number}, Variables.{local_at, move_at}, Indexes.{element_of, fresh_name}, Accessed.{Frame, placed, indexed, int_value, reference_value, taken_value, holds_over, wider_names}, Casting.{take_variable_at, freed_at, given_at}, Calling.{call_reference, call_number, call_nothing}, Spawning.{spawn_number, spawn_reference}, Waiting.{signalled, broadcasted, waited}, Locking.{locked_at, unlocked_at}, LabelsPlacing.{AreFew, which, bounds_at, finds_object, finds_global}, Preorder.{narrower_before as narrower_through}}
use Rattle.sharc_tree.specs.{declared.tree.expression.PlaceCall.TheVariants.Lock, declared.tree.expression.UnaryOperator.TheVariants.Complement}

pub no_element : (n : Number) (q : ℕ) → IsPlain n → HasBase n q → ⊥
no_element (Indexes m) q plain h = plain
no_element (OfElement base place e) q plain h = plain
no_element (OfGlobal first count elements e) q plain h = plain
no_element _ q plain h = h

-- a number of one width is one of another
abbrev IsWithin : Number → Type 0
IsWithin (Within w) = Unit {0}
IsWithin _ = ⊥

other_number : (n : Number) (v : Width) → n ≡ Within v → IsWithin n
other_number n v e = subst IsWithin (sym e) tt

widened : (n : Number) (v w : Width) → LessNumber n (Within v) → Widens v w → LessNumber n (Within w)
widened (Within u) v w a b = narrower_through u v w a b
widened (Exactly z) v w a b = wider v w z b a
widened k v w a b = absurd (other_number k v a)

module _ (around : Setting) (f : ℕ) (ways : List Way) (y : Typing) (c : Context) (low : AreLow (y.named c) (ref_count c.scope)) where
  abbrev D : (ℕ → Mark) → Type 0
  D = AreOpen around ways

  abbrev N : ℕ → Bool
  N = y.named c

  abbrev top : ℕ
  top = ref_count c.scope

  abbrev Q : ℕ → Mark → List Op → Mark → Type 0
  Q from = P around f D N top low from

  abbrev F : ℕ → ℕ → ℕ → Label → Type 0
  F from = Frame around f D y c low from

  abbrev Typed : Expression → Type 0
  Typed = IsTypable around f y c

  abbrev PlaceTyped : Option ℕ → Option ℕ → Expression → Type 0
  PlaceTyped = IsPlaceTypable around f y c

  abbrev TypeIn : StaticType → Type 0
  TypeIn = IsTypeIn around f y c

  -- ---- where copies are lost
  pub lost_frame : (from i r : ℕ) (l : Label) → F from i r l → (lost : ℕ → ℕ) → Loses N l.same lost → F from i r (with_copies l lost)
  lost_frame from i r l fr lost h = record {
    at = record { stands = stands_lost N l lost h i r fr.at.stands; owned = fr.at.owned };
    holds = holds_lost N l lost h y c fr.holds;
    high = fr.high;
    wide = fr.wide;
    early = fr.early;
    seen = fr.seen;
    elements = fr.elements;
  }

  -- with a register more, of which something may be lost too
  over_fill : (from : ℕ) (s : Mark) (os : List Op) (l : Label) (r : ℕ) (t : StaticType) (v : ℕ) (b : Bool) (lost : ℕ → ℕ) (end : Label → Mark) → Q from s os (end (with_copies (fill l r (Refers t) v b) lost)) → Q from s os (end (fill (with_copies l (below l.same r lost)) r (Refers t) (lost r) b))
  over_fill from s os l r t v b lost end p = subst (λ k. Q from s os (end k)) (lost_fill l r (Refers t) v b lost) p

  -- nothing is at hand but variables
  pub bare_frame : (from i r : ℕ) (l : Label) → StandsIn y c f from i r l → IsBare l → F from i r l
  bare_frame from i r l in_it alone = record {
    at = record { stands = in_it.stands; owned = in_it.owned };
    holds = in_it.holds;
    high = in_it.high;
    wide = in_it.wide;
    early = in_it.early;
    seen = λ q e. absurd (alone.1 q e);
    elements = λ j q b. absurd (alone.2 j q b);
  }

  -- ---- values
  -- none
  pub record Done (from i : ℕ) (l : Label) (os : List Op) : Type 0 where
    pub lost : ℕ → ℕ
    pub loses : Loses N l.same lost
    pub piece : Q from (mark l from i) os (mark (with_copies l lost) from i)

  -- a reference, which may be a copy of a variable
  pub record RefValue (from i r : ℕ) (l : Label) (os : List Op) (e : Expression) (s : StaticType) : Type 0 where
    pub lost : ℕ → ℕ
    pub loses : Loses N l.same lost
    pub copy : ℕ
    pub copies : IsCopyOf y c e copy
    pub small : (copy ≡ r) ⊎ (copy < top)
    pub piece : Q from (mark l from i) os (mark (fill (with_copies l lost) r (Refers s) copy false) from i)

  -- an integer, whose number may be known
  pub record IntValue (from i r : ℕ) (l : Label) (os : List Op) (w : Width) : Type 0 where
    pub lost : ℕ → ℕ
    pub loses : Loses N l.same lost
    pub number : Number
    pub plain : IsPlain number
    pub fits : LessNumber number (Within w)
    pub piece : Q from (mark l from i) os (with_number around f D N top low from (with_copies l lost) i number)

  abbrev pub Value : ℕ → ℕ → ℕ → Label → List Op → Expression → Bool → Bool → Type 0
  Value from i r l os e true integer = (s : StaticType) → GoesTo (y.entry c e) s → TypeIn s → RefValue from i r l os e s
  Value from i r l os e false true = IntValue from i r l os (width_of (kind_of c e))
  Value from i r l os e false false = Done from i l os

  abbrev ValueOf : ℕ → ℕ → ℕ → Label → List Op → Expression → Type 0
  ValueOf from i r l os e = Value from i r l os e (is_ref c e) (is_integer (kind_of c e))

  -- a type that names constants of the variables
  pub in_frame : (from i r : ℕ) (l : Label) → F from i r l → (s : StaticType) → TypeIn s → IsNamed N r s
  in_frame from i r l fr s h = let high = fr.high in wider_names around f D y c low from top r s high h

  int_by : (from i r : ℕ) (l : Label) (os : List Op) (e : Expression) → IsNumber around f y c e → IntValue from i r l os (width_of (kind_of c e)) → ValueOf from i r l os e
  int_by from i r l os e is v = subst (λ b. Value from i r l os e b (is_integer (kind_of c e))) (sym is.0) (subst (λ b. Value from i r l os e false b) (sym is.1) v)

  pub int_of : (from i r : ℕ) (l : Label) (os : List Op) (e : Expression) → IsNumber around f y c e → ValueOf from i r l os e → IntValue from i r l os (width_of (kind_of c e))
  int_of from i r l os e is v = subst (λ b. Value from i r l os e false b) is.1 (subst (λ b. Value from i r l os e b (is_integer (kind_of c e))) is.0 v)

  ref_by : (from i r : ℕ) (l : Label) (os : List Op) (e : Expression) → is_ref c e ≡ true → ((s : StaticType) → GoesTo (y.entry c e) s → TypeIn s → RefValue from i r l os e s) → ValueOf from i r l os e
  ref_by from i r l os e is v = subst (λ b. Value from i r l os e b (is_integer (kind_of c e))) (sym is) v

  pub ref_of : (from i r : ℕ) (l : Label) (os : List Op) (e : Expression) → is_ref c e ≡ true → ValueOf from i r l os e → (s : StaticType) → GoesTo (y.entry c e) s → TypeIn s → RefValue from i r l os e s
  ref_of from i r l os e is v = subst (λ b. Value from i r l os e b (is_integer (kind_of c e))) is v

  -- a pointer, with the type that it has
  base_of : (from i r : ℕ) (l : Label) (os : List Op) (e : Expression) → IsPointer around f y c e → ValueOf from i r l os e → RefValue from i r l os e (type_by (y.entry c e))
  base_of from i r l os e is v = ref_of from i r l os e is.0 v (type_by (y.entry c e)) (inr is.1) is.2

  pub small_copy : (from i r : ℕ) (l : Label) → F from i r l → (copy : ℕ) → (copy ≡ r) ⊎ (copy < top) → copy ≤ r
  small_copy from i r l fr copy small = let high = fr.high in ⊎_elim (λ (e : copy ≡ r). omega (arith, e)) (λ (lt : copy < top). omega (arith, lt, high)) small

  -- of what the second one of two is a copy
  upper_copy : (r copy : ℕ) → top ≤ r → (copy ≡ r + 1) ⊎ (copy < top) → (copy ≡ r + 1) ⊎ (copy < r)
  upper_copy r copy high small = ⊎_elim (λ (z : copy ≡ r + 1). inl z) (λ (z : copy < top). inr (omega (arith, z, high))) small

  joins : (from : ℕ) (s m e : Mark) (xs ys : List Op) → Q from s xs m → Q from m ys e → Q from s (xs ++ ys) e
  joins from = then_do around f D N top low from

  -- ---- frames with one value more
  pub frame_fill : (from i r : ℕ) (l : Label) → F from i r l → (s : StaticType) (v : ℕ) (b : Bool) → IsNamed N r s → v ≤ r → F from i (r + 1) (fill l r (Refers s) v b)
  frame_fill from i r l fr s v b fits small = let high = fr.high in record {
    at = at_fill around f D N top low from i r l fr.at s v b fits small;
    holds = holds_over around f D y c low from l (fill l r (Refers s) v b) (λ q lt. put_other l.env r q (Refers s) (λ e. omega (arith, e, lt, high))) (λ q lt. put_other l.same r q v (λ e. omega (arith, e, lt, high))) (λ j lt. refl) fr.holds;
    high = omega (arith, high);
    wide = fr.wide;
    early = fr.early;
    seen = put_all (λ q z. z ≡ true → top ≤ q) l.known r b (λ _. high) (λ q _ e. fr.seen q e);
    elements = fr.elements;
  }

  pub frame_number : (from i r : ℕ) (l : Label) → F from i r l → (n : Number) → ((q : ℕ) → HasBase n q → (top ≤ q) × (q < r)) → F from (i + 1) r (set_number l i n)
  frame_number from i r l fr n base = let wide = fr.wide in let early = fr.early in record {
    at = at_number around f D N top low from i r l fr.at n (λ q b. (base q b).1);
    holds = holds_over around f D y c low from l (set_number l i n) (λ q lt. refl) (λ q lt. refl) (λ j lt. put_other l.ints i j n (λ e. omega (arith, e, lt, wide))) fr.holds;
    high = fr.high;
    wide = omega (arith, wide);
    early = omega (arith, early);
    seen = fr.seen;
    elements = λ j q. put_all (λ j z. HasBase z q → top ≤ q) l.ints i n (λ b. (base q b).0) (λ j _ b. fr.elements j q b) j;
  }

  -- a number that is that of a value
  pub plain_frame : (from i r : ℕ) (l : Label) → F from i r l → (n : Number) → IsPlain n → F from (i + 1) r (set_number l i n)
  plain_frame from i r l fr n plain = frame_number from i r l fr n (λ q b. absurd (no_element n q plain b))

  -- an integer more is at hand
  pub bare_number : (l : Label) (i : ℕ) (n : Number) → IsPlain n → IsBare l → IsBare (set_number l i n)
  bare_number l i n plain h = let w = h in (w.0, w.1, λ j q b. put_all (λ j x. HasBase x q → ⊥) l.ints i n (λ b. no_element n q plain b) (λ j _ b. w.2 j q b) j b)

  -- ---- NULL and constants
  pub null_at : (from i r : ℕ) (l : Label) → F from i r l → (s : StaticType) → IsNamed N r s → Q from (mark l from i) (Op.Null r ∷ []) (mark (fill l r (Refers s) r false) from i)
  null_at from i r l fr s fits =
      let k = fill l r (Refers s) r false in
      let at = fr.at in
      does around f D N top low from (mark l from i) (Op.Null r) (mark k from i)
      (λ in_it h. scoped_fill (ints_in around.code (Some f)) (refs_in around.code (Some f)) l r s r false in_it (λ q m. at.stands.full q (fits q m).0) (inl refl) h)
      (λ table pc in_it h next. on_nothing around f table pc (mark l from i) (mark k from i) next r (record { owned = at.owned; scoped = h; closed = at.stands.closed }) (record { is = subst (λ o. r < refs_in around.code o) (sym at.owned) in_it; empty = at.stands.free r (omega arith) })
      (less_by l k refl (λ q. entry q) (λ q. same q) (λ q e. known q e) (λ j. less_number_refl (l.ints j)) (subst (λ g. LessGate g Closed) (sym at.stands.closed) tt) at.stands.nothing_passed (λ e. e))
      (λ _ know h2. told around.targets (Op.Null r) know (mark l from i) (mark k from i) h2 (λ q v _ e. absurd (none_some v e)) (λ q a _. put_other l.same r q r (other_than q r a)) (λ j n _ _ a. absurd (false≢true a))
      (λ j n a b _ e. number_above around f D N top low from i r l at r (omega arith) (Refers s) r false j n (h2.numbers j n a b e))))
    where
      entry : (q : ℕ) → LessEntry l q (l.env q) (put l.env r (Refers s) q)
      entry q = ⊎_elim (λ (e : q ≡ r). subst (λ z. LessEntry l q z (put l.env r (Refers s) q)) (sym (ap l.env e ∙ fr.at.stands.free r (omega arith))) (subst (LessEntry l q Empty) (sym (ap (put l.env r (Refers s)) e ∙ put_same l.env r (Refers s))) tt))
          (λ (ne : q ≡ r → ⊥). subst (LessEntry l q (l.env q)) (sym (put_other l.env r q (Refers s) ne)) (less_entry_refl l q (l.env q))) (cases_eq q r)

      same : (q : ℕ) → put l.same r r q ≡ l.same q
      same q = ⊎_elim (λ (e : q ≡ r). ap (put l.same r r) e ∙ put_same l.same r r ∙ sym (ap l.same e ∙ fr.at.stands.alone r (omega arith))) (λ (ne : q ≡ r → ⊥). put_other l.same r q r ne) (cases_eq q r)

      known : (q : ℕ) → put l.known r false q ≡ true → l.known q ≡ true
      known q e = ⊎_elim (λ (z : q ≡ r). absurd (false≢true (sym (ap (put l.known r false) z ∙ put_same l.known r false) ∙ e))) (λ (ne : q ≡ r → ⊥). sym (put_other l.known r q false ne) ∙ e) (cases_eq q r)

  constant_value_of : (from i r : ℕ) (l : Label) → F from i r l → (e : Expression) (k : Constant) (b : Bool) → ((copy : ℕ) → IsCopyOf y c e copy) → is_ref c e ≡ b → ConstantTyped around f y c e k b → ValueOf from i r l (constant_code b i r k) e
  constant_value_of from i r l fr e k true any_copy is h = ref_by from i r l (Op.Null r ∷ []) e is (λ s goes fits. record { lost = l.same; loses = loses_none N l.same; copy = r; copies = any_copy r; small = inl refl; piece = null_at from i r l fr s (in_frame from i r l fr s fits) })
  constant_value_of from i r l fr e k false any_copy is h = int_by from i r l (Op.Constant i (constant_value k) ∷ []) e (is, h.0) (record { lost = l.same; loses = loses_none N l.same; number = Exactly (constant_value k); plain = tt; fits = h.1; piece = constant_at around f D N top low from i r l fr.at (constant_value k) })

  -- ---- variables
  same_type : (s t : StaticType) → Refers s ≡ Refers t → s ≡ t
  same_type s t e = cc

  not_null : (s : StaticType) (e : Entry) → e ≡ Refers s → e ≡ Empty → ⊥
  not_null s e a b = let z : Refers s ≡ Empty = sym a ∙ b in cc

  goes_is : (e : Entry) (s t : StaticType) → e ≡ Refers s → GoesTo e t → s ≡ t
  goes_is e s t is goes = ⊎_elim (λ (z : e ≡ Empty). absurd (not_null s e is z)) (λ (z : e ≡ Refers t). same_type s t (sym is ∙ z)) goes

  copied : (from i r : ℕ) (l : Label) → F from i r l → (e : Expression) (x : Register) → ((copy : ℕ) → IsCopyIn y c (number_in x) copy → IsCopyOf y c e copy) → VariableTyped around f y c e x → ValueOf from i r l (copy_code i r x) e
  copied from i r l fr e (Register.Int j) if_copy h = int_by from i r l (Op.Move i j ∷ []) e h.0 (record { lost = l.same; loses = loses_none N l.same; number = Within (y.width c j); plain = tt; fits = subst (λ w. LessNumber (Within (y.width c j)) (Within w)) h.2 (less_number_refl (Within (y.width c j))); piece = move_at around f D N top low from i r l fr.at j (y.width c j) (fr.holds.integers j h.1) })
  copied from i r l fr e (Register.Reference q) if_copy h = let high = fr.high in let lt = h.1 in ref_by from i r l (Op.Local r q ∷ []) e h.0 (λ s goes fits.
      let is : y.pointer c q ≡ s = goes_is (y.entry c e) (y.pointer c q) s h.2 goes in
      record { lost = l.same; loses = loses_none N l.same; copy = q; copies = if_copy q (λ _. refl); small = inr h.1; piece = local_at around f D N top low from i r l fr.at s q i (in_frame from i r l fr s fits) (omega (arith, high, lt)) (fr.holds.references q h.1 ∙ ap Refers is) (fr.holds.copies q h.1) })

  -- ---- cells
  value_is : (i r : ℕ) (site : Site) (lvalue : Lvalue) (mode : Sharing) (b : Bool) (t : Target) → is_cell t ≡ true → cell_value_code c i r site lvalue mode b t ≡ value_code c i r site lvalue mode b t
  value_is i r site lvalue mode b (variable x) h = absurd (false≢true h)
  value_is i r site lvalue mode b _ h = refl

  -- what is named has its registers
  pub record PlaceValue (from i r : ℕ) (l : Label) (os : List Op) (t : Target) (guard : Option ℕ) (ground : Ground) : Type 0 where
    pub lost : ℕ → ℕ
    pub loses : Loses N l.same lost
    pub element : Element
    pub copy : ℕ
    pub small : copy ≤ r
    pub copies : IsPointerCopy y c ground.pointer copy
    pub fits : IsNamed N r ground.base
    pub piece : Q from (mark l from i) os (placed around f D y c low from t guard ground element i r copy (with_copies l lost))

  read : (from i r : ℕ) (l : Label) → F from i r l → (e : Expression) (site : Site) (t : Target) (xs : List Op) → PlaceValue from i r l xs t (guard_of c e) (ground_of around f y c e) → is_cell t ≡ true → ((copy : ℕ) → IsCopyOf y c e copy) → CellTyped around f y c e site t (is_ref c e)
      → ValueOf from i r l (xs ++ value_code c i r site (lvalue_in c e) (mode_of c e) (is_ref c e) t) e
  read from i r l fr e site t xs p cell any_copy h = by (is_ref c e) refl h
    where
      k : Label
      k = with_copies l p.lost

      fk : F from i r k
      fk = lost_frame from i r l fr p.lost p.loses

      start : Mark
      start = placed around f D y c low from t (guard_of c e) (ground_of around f y c e) p.element i r p.copy k

      by : (b : Bool) → is_ref c e ≡ b → CellTyped around f y c e site t b → Value from i r l (xs ++ value_code c i r site (lvalue_in c e) (mode_of c e) b t) e b (is_integer (kind_of c e))
      by true is h = λ s goes fits.
          let same : h.0 ≡ s = goes_is (y.entry c e) h.0 s h.1 goes in
          record {
            lost = p.lost;
            loses = p.loses;
            copy = r;
            copies = any_copy r;
            small = inl refl;
            piece = joins from (mark l from i) start (mark (fill k r (Refers s) r false) from i) xs (value_code c i r site (lvalue_in c e) (mode_of c e) true t) p.piece
                (subst (λ os. Q from start os (mark (fill k r (Refers s) r false) from i)) (value_is i r site (lvalue_in c e) (mode_of c e) true t cell)
                (reference_value around f D y c low from i r k fk (guard_of c e) (ground_of around f y c e) p.element p.copy p.fits p.small p.copies site (lvalue_in c e) (mode_of c e) t cell s (in_frame from i r l fr s fits)
                (subst (λ s. ReferenceTyped around y c f t (guard_of c e) (ground_of around f y c e) site (lvalue_in c e) (mode_of c e) false Use.Read s) same h.3)));
          }
      by false is h = subst (λ b. Value from i r l (xs ++ value_code c i r site (lvalue_in c e) (mode_of c e) false t) e false b) (sym h.0) (record {
        lost = p.lost;
        loses = p.loses;
        number = Within (width_of (kind_of c e));
        plain = tt;
        fits = less_number_refl (Within (width_of (kind_of c e)));
        piece = joins from (mark l from i) start (with_number around f D N top low from k i (Within (width_of (kind_of c e)))) xs (value_code c i r site (lvalue_in c e) (mode_of c e) false t) p.piece
            (subst (λ os. Q from start os (with_number around f D N top low from k i (Within (width_of (kind_of c e))))) (value_is i r site (lvalue_in c e) (mode_of c e) false t cell)
            (int_value around f D y c low from i r k fk (guard_of c e) (ground_of around f y c e) p.element p.copy p.fits p.small p.copies site (lvalue_in c e) (mode_of c e) t cell (width_of (kind_of c e)) h.1));
      })

  -- with no register
  opened : (from i r : ℕ) (l : Label) → F from i r l → Q from (mark l from i) [] (mark (record l { gate = Closed }) from (i + 0))
  opened from i r l fr =
      let same : l ≡ record l { gate = Closed } = ap (λ g. record l { gate = g }) fr.at.stands.closed in
      let z : i ≡ i + 0 = omega arith in
      subst (λ k. Q from (mark l from i) [] (mark k from (i + 0))) same (subst (λ n. Q from (mark l from i) [] (mark l from n)) z (none around f D N top low from (mark l from i) (mark l from i) (fits_same around.targets (mark l from i)) (λ h. h)))

  no_names : (r : ℕ) → IsNamed N r no_type
  no_names r p m = absurd m

  no_pointer : (p : Option Expression) (copy : ℕ) → p ≡ None → IsPointerCopy y c p copy
  no_pointer p copy none = subst (λ p. IsPointerCopy y c p copy) (sym none) tt

  -- the base of an object
  object_place : (from i r : ℕ) (l : Label) → F from i r l → (e : Expression) (site : Site) (os : List Op) (n : ℕ) (guard : Option ℕ) (ground : Ground) → type_by (y.entry c e) ≡ ground.base → Some e ≡ ground.pointer → IsPointer around f y c e → ValueOf from i r l os e → PlaceValue from i r l (pointee_code r site os) (in_object n) guard ground
  object_place from i r l fr e site os n guard ground same leads is v =
      let b = base_of from i r l os e is v in
      let s = type_by (y.entry c e) in
      let fits = in_frame from i r l fr s is.2 in
      let k = with_copies l b.lost in
      let fk = lost_frame from i r l fr b.lost b.loses in
      let small = small_copy from i r l fr b.copy b.small in
      let z : i ≡ i + 0 = omega arith in
      record {
        lost = b.lost;
        loses = b.loses;
        element = Nth 0;
        copy = b.copy;
        small = small;
        copies = subst (λ p. IsPointerCopy y c p b.copy) leads b.copies;
        fits = subst (IsNamed N r) same fits;
        piece = subst (λ t. Q from (mark l from i) (pointee_code r site os) (mark (fill k r (Refers t) b.copy true) from (i + 0))) same (subst (λ n. Q from (mark l from i) (pointee_code r site os) (mark (fill k r (Refers s) b.copy true) from n)) z
            (pointee_at around f D N top low from i r k fk.at s b.copy false fits small (mark l from i) i site os b.piece));
      }

  -- ---- elements
  -- a register that holds something is one of the frame
  taken_register : (from : ℕ) (s e : Mark) (os : List Op) (r : ℕ) (t : StaticType) → s.label.env r ≡ Refers t → (r < refs_in around.code (Some f) → Q from s os e) → Q from s os e
  taken_register from s e os r t is rest = λ w h. rest (⊎_elim (λ (lt : r < refs_in around.code (Some f)). lt) (λ ge. absurd (not_null t (s.label.env r) is (h.few r ge))) (cases_lt r (refs_in around.code (Some f)))) w h

  few_at : (from count n : ℕ) (guard : Option ℕ) → AreFields around f y count n guard → AreFew around f D y c low from count n guard
  few_at from count n None h = h
  few_at from count n (Some mutex) h = h

  -- of an array
  array_place : (from i r : ℕ) (l : Label) → F from i r l → (g elements count n : ℕ) (guard : Option ℕ) (ground : Ground) → ground.base ≡ no_type → ground.pointer ≡ None → ground.count ≡ count → ground.elements ≡ elements → AreFields around f y count n guard → (xs ys : List Op) (w : Width) (site : Site)
      → Done from i l xs → ((l : Label) → F from i r l → IntValue from i r l ys w)
      → PlaceValue from i r l (xs ++ (ys ++ bounds_code (λ i n. Op.GlobalBounds i elements count (first_cell c.globals g + n) (at_site site)) i n guard)) (in_global_at g n) guard ground
  array_place from i r l fr g elements count n guard ground none_based none_led same_count same_elements few xs ys w site p number =
      let first = first_cell c.globals g in
      let m = with_copies l p.lost in
      let v = number m (lost_frame from i r l fr p.lost p.loses) in
      let k = with_copies l v.lost in
      let loses = loses_both N l.same p.lost v.lost p.loses v.loses in
      let fk = lost_frame from i r l fr v.lost loses in
      let finds = finds_global around f D y c low from elements count first (at_site site) k fk.at.owned in
      let elem = which around f D y c low from i r k fk.at (λ i n. Op.GlobalBounds i elements count (first + n) (at_site site)) (λ n e. OfGlobal (first + n) count elements e) count finds fk.early v.number v.plain in
      let os = bounds_code (λ i n. Op.GlobalBounds i elements count (first + n) (at_site site)) i n guard in
      let end : Q from (with_number around f D N top low from k i v.number) os (mark (record k { ints = indexed around f D y c low from l.ints i guard (λ n. OfGlobal (first + n) count elements elem) n; gate = Closed }) from (i + guard_width guard)) =
      bounds_at around f D y c low from i r k fk.at (λ i n. Op.GlobalBounds i elements count (first + n) (at_site site)) (λ n e. OfGlobal (first + n) count elements e) count finds fk.early v.number v.plain n guard (few_at from count n guard few) in
      record {
        lost = v.lost;
        loses = loses;
        element = elem;
        copy = r;
        small = omega arith;
        copies = no_pointer ground.pointer r none_led;
        fits = subst (IsNamed N r) (sym none_based) (no_names r);
        piece = joins from (mark l from i) (mark m from i) (placed around f D y c low from (in_global_at g n) guard ground elem i r r k) xs (ys ++ os) p.piece
            (joins from (mark m from i) (with_number around f D N top low from k i v.number) (placed around f D y c low from (in_global_at g n) guard ground elem i r r k) ys os v.piece
            (subst (λ z. Q from (with_number around f D N top low from k i v.number) os (mark (record k { ints = indexed around f D y c low from l.ints i guard (λ n. OfGlobal (first + n) z ground.elements elem) n; gate = Closed }) from (i + guard_width guard))) (sym same_count)
            (subst (λ z. Q from (with_number around f D N top low from k i v.number) os (mark (record k { ints = indexed around f D y c low from l.ints i guard (λ n. OfGlobal (first + n) count z elem) n; gate = Closed }) from (i + guard_width guard))) (sym same_elements) end)));
      }

  -- of what a pointer refers to
  element_place : (from i r : ℕ) (l : Label) → F from i r l → (e : Expression) (count n : ℕ) (guard : Option ℕ) (ground : Ground) → type_by (y.entry c e) ≡ ground.base → Some e ≡ ground.pointer → count ≡ cells_of around.targets (type_by (y.entry c e)).target → AreFields around f y count n guard → (xs : List Op) (ys : ℕ → List Op) (w : Width) (site : Site)
      → IsPointer around f y c e → ValueOf from i r l xs e → ((l : Label) → F from i (r + 1) l → IntValue from i (r + 1) l (ys (r + 1)) w)
      → PlaceValue from i r l (xs ++ (Op.ChkNull r (at_site site) ∷ (ys (r + 1) ++ bounds_code (λ i n. Op.Bounds i r count n (at_site site)) i n guard))) (in_object_at n) guard ground
  element_place from i r l fr e count n guard ground same leads size few xs ys w site is v number =
      let b = base_of from i r l xs e is v in
      let s = type_by (y.entry c e) in
      let fits = in_frame from i r l fr s is.2 in
      let small = small_copy from i r l fr b.copy b.small in
      let first = with_copies l b.lost in
      let f1 = lost_frame from i r l fr b.lost b.loses in
      let X = fill first r (Refers s) b.copy true in
      let m = number X (frame_fill from i r first f1 s b.copy true fits small) in
      let lost = below b.lost r m.lost in
      let loses = loses_both N l.same b.lost lost b.loses (loses_below N b.lost r b.copy m.lost m.loses) in
      let k = with_copies l lost in
      let fk = lost_frame from i r l fr lost loses in
      let copy = m.lost r in
      let less = small_there N b.lost r b.copy m.lost m.loses small in
      let Y = fill k r (Refers s) copy true in
      let fy = frame_fill from i r k fk s copy true fits less in
      let o : ℕ → ℕ → Op = λ i n. Op.Bounds i r count n (at_site site) in
      let elem = element_of m.number (fresh_name (set_number Y i m.number) (i + 1)) in
      let os = bounds_code o i n guard in
      let start = with_number around f D N top low from Y i m.number in
      let middle : Q from (mark X from i) (ys (r + 1)) start = over_fill from (mark X from i) (ys (r + 1)) first r s b.copy true m.lost (λ z. with_number around f D N top low from z i m.number) m.piece in
      let after = mark (record Y { ints = indexed around f D y c low from Y.ints i guard (λ n. OfElement r n elem) n; gate = Closed }) from (i + guard_width guard) in
      let end : Q from start os after = taken_register from start after os r s (put_same l.env r (Refers s)) (λ ref.
      bounds_at around f D y c low from i (r + 1) Y fy.at o (λ n e. OfElement r n e) count (finds_object around f D y c low from r s count (at_site site) Y fr.at.owned ref (put_same l.env r (Refers s)) (put_same l.known r true) size) fr.early m.number m.plain n guard (few_at from count n guard few)) in
      record {
        lost = lost;
        loses = loses;
        element = elem;
        copy = copy;
        small = less;
        copies = subst (λ p. IsPointerCopy y c p copy) leads (copy_kept y c b.copy copy r (loses_there N b.lost r b.copy m.lost m.loses) e b.copies);
        fits = subst (IsNamed N r) same fits;
        piece = subst (λ t. Q from (mark l from i) (xs ++ (Op.ChkNull r (at_site site) ∷ (ys (r + 1) ++ os))) (mark (record (fill k r (Refers t) copy true) { ints = indexed around f D y c low from l.ints i guard (λ n. OfElement r n elem) n; gate = Closed }) from (i + guard_width guard))) same
            (joins from (mark l from i) (mark (fill first r (Refers s) b.copy false) from i) after xs (Op.ChkNull r (at_site site) ∷ (ys (r + 1) ++ os)) b.piece
            (joins from (mark (fill first r (Refers s) b.copy false) from i) (mark X from i) after (Op.ChkNull r (at_site site) ∷ []) (ys (r + 1) ++ os) (check_at around f D N top low from i r first f1.at s b.copy false fits small i (at_site site))
            (joins from (mark X from i) start after (ys (r + 1)) os middle end)));
      }

  -- ---- tests and operators
  -- a value that decides
  pub truth_of : (from i r : ℕ) (l : Label) → F from i r l → (e : Expression) (os : List Op) → HasType around f y c e → ValueOf from i r l os e → Done from i l (os ++ truth_code (is_ref c e) i r)
  truth_of from i r l fr e os h v = by (is_ref c e) refl
    where
      by : (b : Bool) → is_ref c e ≡ b → Done from i l (os ++ truth_code b i r)
      by true is =
          let t = h.0 is in
          let b = ref_of from i r l os e is v t.0 t.1 t.2 in
          let fits = in_frame from i r l fr t.0 t.2 in
          let k = with_copies l b.lost in
          let fk = lost_frame from i r l fr b.lost b.loses in
          let end = mark (fill k r (Refers t.0) b.copy false) from i in
          record {
            lost = b.lost;
            loses = b.loses;
            piece = joins from (mark l from i) end (mark k from i) os (truth_code true i r) b.piece
                (number_dropped around f D N top low from i r k fk.at (Within Char) (truth_code true i r) end (truth_at around f D N top low from i r k fk.at fr.high t.0 b.copy false fits (small_copy from i r l fr b.copy b.small)));
          }
      by false is =
          let n = int_of from i r l os e (is, h.1 is) v in
          let k = with_copies l n.lost in
          let fk = lost_frame from i r l fr n.lost n.loses in
          record {
            lost = n.lost;
            loses = n.loses;
            piece = joins from (mark l from i) (mark k from i) (mark k from i) os [] (number_dropped around f D N top low from i r k fk.at n.number os (mark l from i) n.piece) (none around f D N top low from (mark k from i) (mark k from i) (fits_same around.targets (mark k from i)) (λ z. z));
          }

  -- a number of this width
  number_value : (from i r : ℕ) (l : Label) (os : List Op) (e : Expression) → IsNumber around f y c e → (w : Width) → LessNumber (Within w) (Within (width_of (kind_of c e))) → (lost : ℕ → ℕ) → Loses N l.same lost
      → Q from (mark l from i) os (with_number around f D N top low from (with_copies l lost) i (Within w)) → ValueOf from i r l os e
  number_value from i r l os e is w fits lost loses p = int_by from i r l os e is (record { lost = lost; loses = loses; number = Within w; plain = tt; fits = fits; piece = p })

  -- 0 or 1
  truth_value : (from i r : ℕ) (l : Label) (os : List Op) (e : Expression) → IsNumber around f y c e → (lost : ℕ → ℕ) → Loses N l.same lost → Q from (mark l from i) os (with_number around f D N top low from (with_copies l lost) i (Within Char)) → ValueOf from i r l os e
  truth_value from i r l os e is = number_value from i r l os e is Char tt

  not_value : (from i r : ℕ) (l : Label) → F from i r l → (e a : Expression) (os : List Op) → IsNumber around f y c e → HasType around f y c a → ValueOf from i r l os a → ValueOf from i r l (os ++ (truth_code (is_ref c a) i r ++ Op.IsFalse i i ∷ [])) e
  not_value from i r l fr e a os is h v =
      let t = truth_of from i r l fr a os h v in
      let k = with_copies l t.lost in
      let fk = lost_frame from i r l fr t.lost t.loses in
      let end = with_number around f D N top low from k i (Within Char) in
      truth_value from i r l (os ++ (truth_code (is_ref c a) i r ++ Op.IsFalse i i ∷ [])) e is t.lost t.loses
      (subst (λ xs. Q from (mark l from i) xs end) (append_assoc os (truth_code (is_ref c a) i r) (Op.IsFalse i i ∷ []))
      (joins from (mark l from i) (mark k from i) end (os ++ truth_code (is_ref c a) i r) (Op.IsFalse i i ∷ []) t.piece (from_free around f D N top low from i r k fk.at (Op.IsFalse i i) (Within Char) (false_at around f D N top low from i r k fk.at i))))

  negated : (from i r : ℕ) (l : Label) → F from i r l → (e a : Expression) (os : List Op) (site : Site) → UnaryTyped around f y c e Negate a → ValueOf from i r l os a → ValueOf from i r l (os ++ Op.Negate (width_of (promoted (kind_of c a))) i i (at_site site) ∷ []) e
  negated from i r l fr e a os site h v =
      let n = int_of from i r l os a h.0 v in
      let w = width_of (promoted (kind_of c a)) in
      let k = with_copies l n.lost in
      let fk = lost_frame from i r l fr n.lost n.loses in
      number_value from i r l (os ++ Op.Negate w i i (at_site site) ∷ []) e h.1 w h.3 n.lost n.loses
      (joins from (mark l from i) (with_number around f D N top low from k i n.number) (with_number around f D N top low from k i (Within w)) os (Op.Negate w i i (at_site site) ∷ []) n.piece (negate_at around f D N top low from i r k fk.at w n.number (at_site site) h.2))

  complemented : (from i r : ℕ) (l : Label) → F from i r l → (e a : Expression) (os : List Op) → UnaryTyped around f y c e Complement a → ValueOf from i r l os a → ValueOf from i r l (os ++ Op.Complement i i ∷ []) e
  complemented from i r l fr e a os h v =
      let n = int_of from i r l os a h.0 v in
      let w = width_of (kind_of c a) in
      let k = with_copies l n.lost in
      let fk = lost_frame from i r l fr n.lost n.loses in
      number_value from i r l (os ++ Op.Complement i i ∷ []) e h.1 w h.2 n.lost n.loses
      (joins from (mark l from i) (with_number around f D N top low from k i n.number) (with_number around f D N top low from k i (Within w)) os (Op.Complement i i ∷ []) n.piece (complement_at around f D N top low from i r k fk.at w n.number n.fits))

  -- && and ||, of which the second operand may be left out
  module _ (from i r : ℕ) (l : Label) (fr : F from i r l) (e : Expression) (xs ys : List Op) (is : IsNumber around f y c e) (p : Done from i l xs) (next : (l : Label) → F from i r l → Done from i l ys) where
    first_frame : F from i r (with_copies l p.lost)
    first_frame = lost_frame from i r l fr p.lost p.loses

    second : Done from i (with_copies l p.lost) ys
    second = next (with_copies l p.lost) first_frame

    second_frame : F from i r (with_copies l second.lost)
    second_frame = lost_frame from i r (with_copies l p.lost) first_frame second.lost second.loses

    known_less : LessLabel (with_copies l p.lost) (with_copies l second.lost)
    known_less = less_lost N (with_copies l p.lost) second.lost second.loses

    both_value : ValueOf from i r l (logical_code i xs ys) e
    both_value = truth_value from i r l (logical_code i xs ys) e is second.lost (loses_both N l.same p.lost second.lost p.loses second.loses) (logical_at around f D N top low from i r (with_copies l p.lost) (with_copies l second.lost) first_frame.at second_frame.at known_less (mark l from i) xs ys p.piece second.piece)

    either_value : ValueOf from i r l (either_code i xs ys) e
    either_value = truth_value from i r l (either_code i xs ys) e is second.lost (loses_both N l.same p.lost second.lost p.loses second.loses) (either_at around f D N top low from i r (with_copies l p.lost) (with_copies l second.lost) first_frame.at second_frame.at known_less (mark l from i) xs ys p.piece second.piece)

  -- an operator on two values, of which the second one stands after the first one
  computed : (from i r : ℕ) (l : Label) → F from i r l → (e : Expression) (site : Site) (o : BinaryOperator) (a b : Expression) (xs : List Op) (ys : ℕ → ℕ → List Op) → IsNumber around f y c e → ComparedTyped around f y c e o a b (is_ref c a) → HasType around f y c a → HasType around f y c b → ValueOf from i r l xs a
      → ((i2 r2 : ℕ) (l2 : Label) → F from i2 r2 l2 → ValueOf from i2 r2 l2 (ys i2 r2) b)
      → ValueOf from i r l (xs ++ (ys (behind_int (is_ref c a) i) (behind_ref (is_ref c a) r) ++ (cond (is_ref c a) (compare_code o i r) (Op.Compute (result_of around f y c o a b) (operator_of o) i i (i + 1) (at_site site) ∷ [])))) e
  computed from i r l fr e site o a b xs ys is typed ta tb va vb = by (is_ref c a) refl typed
    where
      w : Width
      w = result_of around f y c o a b

      by : (z : Bool) → is_ref c a ≡ z → ComparedTyped around f y c e o a b z → ValueOf from i r l (xs ++ (ys (behind_int z i) (behind_ref z r) ++ (cond z (compare_code o i r) (Op.Compute w (operator_of o) i i (i + 1) (at_site site) ∷ [])))) e
      by true is_a is_b =
          let t = ta.0 is_a in
          let s = tb.0 is_b in
          let fits = in_frame from i r l fr t.0 t.2 in
          let fits2 = in_frame from i r l fr s.0 s.2 in
          let pa = ref_of from i r l xs a is_a va t.0 t.1 t.2 in
          let small = small_copy from i r l fr pa.copy pa.small in
          let first = with_copies l pa.lost in
          let X = fill first r (Refers t.0) pa.copy false in
          let fx = frame_fill from i r first (lost_frame from i r l fr pa.lost pa.loses) t.0 pa.copy false fits small in
          let pb = ref_of from i (r + 1) X (ys i (r + 1)) b is_b (vb i (r + 1) X fx) s.0 s.1 s.2 in
          let lost = below pa.lost r pb.lost in
          let loses = loses_both N l.same pa.lost lost pa.loses (loses_below N pa.lost r pa.copy pb.lost pb.loses) in
          let k = with_copies l lost in
          let fk = lost_frame from i r l fr lost loses in
          let high = fr.high in
          let other = upper_copy r pb.copy high pb.small in
          let middle = mark (fill (fill k r (Refers t.0) (pb.lost r) false) (r + 1) (Refers s.0) pb.copy false) from i in
          let second : Q from (mark X from i) (ys i (r + 1)) middle = over_fill from (mark X from i) (ys i (r + 1)) first r t.0 pa.copy false pb.lost (λ z. mark (fill z (r + 1) (Refers s.0) pb.copy false) from i) pb.piece in
          truth_value from i r l (xs ++ (ys i (r + 1) ++ compare_code o i r)) e is lost loses
          (joins from (mark l from i) (mark X from i) (with_number around f D N top low from k i (Within Char)) xs (ys i (r + 1) ++ compare_code o i r) pa.piece
          (joins from (mark X from i) middle (with_number around f D N top low from k i (Within Char)) (ys i (r + 1)) (compare_code o i r) second
          (compare_at around f D N top low from i r k fk.at fr.high t.0 s.0 (pb.lost r) pb.copy false false fits fits2 (small_there N pa.lost r pa.copy pb.lost pb.loses small) other o)))
      by false is_a h =
          let na = int_of from i r l xs a h.left va in
          let X = set_number (with_copies l na.lost) i na.number in
          let fx = plain_frame from i r (with_copies l na.lost) (lost_frame from i r l fr na.lost na.loses) na.number na.plain in
          let nb = int_of from (i + 1) r X (ys (i + 1) r) b h.right (vb (i + 1) r X fx) in
          let loses = loses_both N l.same na.lost nb.lost na.loses nb.loses in
          let k = with_copies l nb.lost in
          let fk = lost_frame from i r l fr nb.lost loses in
          let end = with_number around f D N top low from k i (Within w) in
          number_value from i r l (xs ++ (ys (i + 1) r ++ Op.Compute w (operator_of o) i i (i + 1) (at_site site) ∷ [])) e is w h.result nb.lost loses
          (joins from (mark l from i) (mark X from (i + 1)) end xs (ys (i + 1) r ++ Op.Compute w (operator_of o) i i (i + 1) (at_site site) ∷ []) na.piece
          (joins from (mark X from (i + 1)) (with_number around f D N top low from (with_copies X nb.lost) (i + 1) nb.number) end (ys (i + 1) r) (Op.Compute w (operator_of o) i i (i + 1) (at_site site) ∷ []) nb.piece
          (compute_at around f D N top low from i r k fk.at w (operator_of o) na.number nb.number (at_site site) h.wide (λ k. widened na.number (width_of (kind_of c a)) w na.fits (h.first k)) (λ z k. widened nb.number (width_of (kind_of c b)) w nb.fits (h.second z k)))))

  -- ---- one statement or expression more is entered
  entered_piece : (from i r : ℕ) (l : Label) → F from i r l → (os : List Op) (e : Mark) → Q from (mark l from i) os e → Q from (mark l from i) (Op.Enter ∷ os) e
  entered_piece from i r l fr os e p = enter around f D N top low from i r l fr.at i os e p

  entered_done : (from i r : ℕ) (l : Label) → F from i r l → (os : List Op) → Done from i l os → Done from i l (Op.Enter ∷ os)
  entered_done from i r l fr os p = record { lost = p.lost; loses = p.loses; piece = entered_piece from i r l fr os (mark (with_copies l p.lost) from i) p.piece }

  entered : (from i r : ℕ) (l : Label) → F from i r l → (os : List Op) (e : Expression) → ValueOf from i r l os e → ValueOf from i r l (Op.Enter ∷ os) e
  entered from i r l fr os e v = by (is_ref c e) (is_integer (kind_of c e)) v
    where
      by : (a b : Bool) → Value from i r l os e a b → Value from i r l (Op.Enter ∷ os) e a b
      by true b v = λ s goes fits. let w = v s goes fits in record { lost = w.lost; loses = w.loses; copy = w.copy; copies = w.copies; small = w.small; piece = entered_piece from i r l fr os (mark (fill (with_copies l w.lost) r (Refers s) w.copy false) from i) w.piece }
      by false true v = record { lost = v.lost; loses = v.loses; number = v.number; plain = v.plain; fits = v.fits; piece = entered_piece from i r l fr os (with_number around f D N top low from (with_copies l v.lost) i v.number) v.piece }
      by false false v = entered_done from i r l fr os v

  entered_place : (from i r : ℕ) (l : Label) → F from i r l → (os : List Op) (t : Target) (guard : Option ℕ) (ground : Ground) → PlaceValue from i r l os t guard ground → PlaceValue from i r l (Op.Enter ∷ os) t guard ground
  entered_place from i r l fr os t guard ground p = record {
    lost = p.lost;
    loses = p.loses;
    element = p.element;
    copy = p.copy;
    small = p.small;
    copies = p.copies;
    fits = p.fits;
    piece = entered_piece from i r l fr os (placed around f D y c low from t guard ground p.element i r p.copy (with_copies l p.lost)) p.piece;
  }

  -- in parentheses
  same_value : (from i r : ℕ) (l : Label) (os : List Op) (e a : Expression) → ((copy : ℕ) → IsCopyOf y c e copy) → kind_of c e ≡ kind_of c a → y.entry c e ≡ y.entry c a → ValueOf from i r l os a → ValueOf from i r l os e
  same_value from i r l os e a any_copy kinds entries v = subst (λ k. Value from i r l os e (is_reference k) (is_integer k)) (sym kinds) (by (is_ref c a) (is_integer (kind_of c a)) v)
    where
      by : (p q : Bool) → Value from i r l os a p q → Value from i r l os e p q
      by true q v = λ s goes fits. let w = v s (subst (λ z. GoesTo z s) entries goes) fits in record { lost = w.lost; loses = w.loses; copy = w.copy; copies = any_copy w.copy; small = w.small; piece = w.piece }
      by false true v = subst (λ k. IntValue from i r l os (width_of k)) (sym kinds) v
      by false false v = v

  -- ---- names
  no_place : (from i r : ℕ) (l : Label) → F from i r l → (g n : ℕ) (guard : Option ℕ) (ground : Ground) → ground.base ≡ no_type → ground.pointer ≡ None → PlaceValue from i r l [] (in_global g n) guard ground
  no_place from i r l fr g n guard ground none_based none_led = record { lost = l.same; loses = loses_none N l.same; element = Nth 0; copy = r; small = omega arith; copies = no_pointer ground.pointer r none_led; fits = subst (IsNamed N r) (sym none_based) (no_names r); piece = opened from i r l fr }

  variable_place : (from i r : ℕ) (l : Label) → F from i r l → (x : ℕ) (guard : Option ℕ) (ground : Ground) → ground.base ≡ no_type → ground.pointer ≡ None → PlaceValue from i r l [] (variable x) guard ground
  variable_place from i r l fr x guard ground none_based none_led = record { lost = l.same; loses = loses_none N l.same; element = Nth 0; copy = r; small = omega arith; copies = no_pointer ground.pointer r none_led; fits = subst (IsNamed N r) (sym none_based) (no_names r); piece = opened from i r l fr }

  void_by : (from i r : ℕ) (l : Label) (os : List Op) (e : Expression) → IsVoid around f y c e → Done from i l os → ValueOf from i r l os e
  void_by from i r l os e is p = subst (λ b. Value from i r l os e b (is_integer (kind_of c e))) (sym is.0) (subst (λ b. Value from i r l os e false b) (sym is.1) p)

  stays : (from i : ℕ) (l : Label) → Done from i l []
  stays from i l = record { lost = l.same; loses = loses_none N l.same; piece = none around f D N top low from (mark l from i) (mark l from i) (fits_same around.targets (mark l from i)) (λ z. z) }

  named_value : (from i r : ℕ) (l : Label) → F from i r l → (s : Span) (x : Identifier) (n : Named) → ((copy : ℕ) → IsCopyNamed y c n copy → IsCopyOf y c (identifier s x) copy) → NameTyped around f y c (identifier s x) x.site n
      → ValueOf from i r l (named_code c i r x.site (lvalue_in c (identifier s x)) (mode_of c (identifier s x)) (is_ref c (identifier s x)) n) (identifier s x)
  named_value from i r l fr s x (Named.Variable v) if_copy h = copied from i r l fr (identifier s x) (register_of c.scope v) (λ copy z. if_copy copy z) h
  named_value from i r l fr s x (Named.Global g) if_copy h = read from i r l fr (identifier s x) x.site (in_global g 0) [] (no_place from i r l fr g 0 (guard_of c (identifier s x)) (ground_of around f y c (identifier s x)) refl refl) refl (λ copy. if_copy copy tt) h
  named_value from i r l fr s x _ if_copy h = void_by from i r l [] (identifier s x) h (stays from i l)

  named_place : (from i r : ℕ) (l : Label) → F from i r l → (n : Named) (place : ℕ) (guard : Option ℕ) (ground : Ground) → ground.base ≡ no_type → ground.pointer ≡ None → PlaceValue from i r l [] (named_target n place) guard ground
  named_place from i r l fr (Named.Variable v) place guard ground h led = variable_place from i r l fr v guard ground h led
  named_place from i r l fr (Named.Global g) place guard ground h led = no_place from i r l fr g place guard ground h led
  named_place from i r l fr _ place guard ground h led = variable_place from i r l fr 0 guard ground h led

  -- ---- indexes
  array_base : (from i r : ℕ) (l : Label) → F from i r l → (xs : List Op) (t : Target) (g : ℕ) (ground : Ground) → t ≡ in_global g 0 → PlaceValue from i r l xs t None ground → Done from i l xs
  array_base from i r l fr xs t g ground is p =
      let q = subst (λ t. PlaceValue from i r l xs t None ground) is p in
      let k = with_copies l q.lost in
      let same : record k { gate = Closed } ≡ k = ap (λ g. record k { gate = g }) (sym fr.at.stands.closed) in
      let z : i + 0 ≡ i = omega arith in
      record { lost = q.lost; loses = q.loses; piece = subst (λ n. Q from (mark l from i) xs (mark k from n)) z (subst (λ k. Q from (mark l from i) xs (mark k from (i + 0))) same q.piece) }

  index_place : (from i r : ℕ) (l : Label) → F from i r l → (site : Site) (own guard : Option ℕ) (s : Span) (a n : Expression) (xs zs : List Op) (ys : ℕ → List Op) (X Y Z : Type 0) → (X → PlaceValue from i r l xs (target c.program.typed None a) None (ground_of around f y c a)) → (Y → ValueOf from i r l zs a)
      → (Z → (r2 : ℕ) (l2 : Label) → F from i r2 l2 → ValueOf from i r2 l2 (ys r2) n) → IndexTypable around f y c own guard a n X Y Z
      → PlaceValue from i r l (index_code c i r site own guard a xs zs ys) (target c.program.typed own (index s a n)) guard (ground_of around f y c (index s a n))
  index_place from i r l fr site own guard s a n xs zs ys X Y Z px py pn h = by (is_array (kind_of c a)) h.0
    where
      count : ℕ
      count = element_cells c.program.typed (element_kind (kind_of c a))

      g : ℕ
      g = global_of (target c.program.typed None a)

      elements : ℕ
      elements = global_elements (global_at c.program.typed g)

      by : (b : Bool) → Either b (X × (target c.program.typed None a ≡ in_global g 0)) (Y × IsPointer around f y c a × (count ≡ cells_of around.targets (type_by (y.entry c a)).target))
          → PlaceValue from i r l
          (cond b (xs ++ (ys r ++ bounds_code (λ i n. Op.GlobalBounds i elements count (first_cell c.globals g + n) (at_site site)) i (own_field own 0) guard))
          (zs ++ (Op.ChkNull r (at_site site) ∷ (ys (r + 1) ++ bounds_code (λ i n. Op.Bounds i r count n (at_site site)) i (own_field own 0) guard))))
          (cond b (in_global_at g (own_field own 0)) (in_object_at (own_field own 0))) guard (record { base = cond b no_type (type_by (y.entry c a)); pointer = cond b None (Some a); count = count; elements = elements })
      by true z = array_place from i r l fr g elements count (own_field own 0) guard (record { base = no_type; pointer = None; count = count; elements = elements }) refl refl refl refl h.3 xs (ys r) (width_of (kind_of c n)) site (array_base from i r l fr xs (target c.program.typed None a) g (ground_of around f y c a) z.1 (px z.0))
          (λ l2 f2. int_of from i r l2 (ys r) n h.2 (pn h.1 r l2 f2))
      by false z = element_place from i r l fr a count (own_field own 0) guard (record { base = type_by (y.entry c a); pointer = Some a; count = count; elements = elements }) refl refl z.2 h.3 zs ys (width_of (kind_of c n)) site z.1 (py z.0) (λ l2 f2. int_of from i (r + 1) l2 (ys (r + 1)) n h.2 (pn h.1 (r + 1) l2 f2))

  -- ---- what is passed
  reframe : (from i r : ℕ) (l : Label) → F from i r l → (from2 : ℕ) → from2 ≤ i → F from2 i r l
  reframe from i r l fr from2 le = record { at = record { stands = fr.at.stands; owned = fr.at.owned }; holds = fr.holds; high = fr.high; wide = fr.wide; early = le; seen = fr.seen; elements = fr.elements }

  -- no number of an integer register is told
  untold : (a b from until : ℕ) (l : Label) → until ≤ from → Q 0 (mark l a b) [] (mark l from until)
  untold a b from until l le = none around f D N top low 0 (mark l a b) (mark l from until) (record { less = less_refl l; tells = λ k h. record { copies = h.copies; numbers = λ j n p q _. absurd (omega (arith, p, q, le)) } }) (λ h. h)

  -- the registers of arguments after those that were taken
  pub record Passed (i r : ℕ) (l : Label) (kinds : List Kind) (wants : ℕ → StaticType) (all : Arguments) (os : List Op) : Type 0 where
    pub label : Label
    pub ints : ℕ
    pub refs : ℕ
    pub frame : F ints ints refs label
    pub more_ints : i ≤ ints
    pub more_refs : r ≤ refs
    pub lost : ℕ → ℕ
    pub loses : Loses N l.same lost
    pub ints_are : ints ≡ ints_behind c all i
    pub refs_are : refs ≡ refs_behind c all r
    pub env : (q : ℕ) → q < r → label.env q ≡ l.env q
    pub same : (q : ℕ) → q < r → label.same q ≡ lost q
    pub known : (q : ℕ) → q < r → label.known q ≡ l.known q
    pub numbers : (j : ℕ) → j < i → label.ints j ≡ l.ints j
    pub here : ArgumentsAt around f y c kinds wants all i r label
    pub piece : Q 0 (mark l i i) os (mark label ints ints)

  joins_at : (s m e : Mark) (xs ys : List Op) → Q 0 s xs m → Q 0 m ys e → Q 0 s (xs ++ ys) e
  joins_at = then_do around f D N top low 0

  no_width : (i : ℕ) (kinds : List Kind) (site : Site) → HasNoWidth around f y kinds → passed_code i kinds site ≡ []
  no_width i [] site h = refl
  no_width i (kind ∷ kinds) site h = ap (λ b. cond b (Op.ChkWidth (width_of kind) i (at_site site) ∷ []) []) h

  passed_reference : (i r : ℕ) (l : Label) → F i i r l → (kinds : List Kind) (wants : ℕ → StaticType) (a : Expression) (rest : Arguments) (xs ys : List Op) (site : Site) → is_ref c a ≡ true → Goes around f y c kinds a true (wants 0) → ValueOf i i r l xs a
      → ((l2 : Label) → F i i (r + 1) l2 → Passed i (r + 1) l2 (drop 1 kinds) (λ n. wants (n + 1)) rest ys)
      → Passed i r l kinds wants (argument a rest) (xs ++ (passed_code i kinds site ++ ys))
  passed_reference i r l fr kinds wants a rest xs ys site is goes v next =
      let s = wants 0 in
      let w = ref_of i i r l xs a is v s goes.0 goes.1 in
      let small = small_copy i i r l fr w.copy w.small in
      let first = with_copies l w.lost in
      let X = fill first r (Refers s) w.copy false in
      let fx = frame_fill i i r first (lost_frame i i r l fr w.lost w.loses) s w.copy false (in_frame i i r l fr s goes.1) small in
      let p = next X fx in
      let e_env : p.label.env r ≡ Refers s = p.env r (omega arith) ∙ put_same l.env r (Refers s) in
      let e_same : p.label.same r ≡ p.lost r = p.same r (omega arith) in
      let copies : IsCopyOf y c a (p.lost r) = copy_kept y c w.copy (p.lost r) r (loses_there N w.lost r w.copy p.lost p.loses) a w.copies in
      let more = p.more_refs in
      record {
        label = p.label;
        ints = p.ints;
        refs = p.refs;
        frame = p.frame;
        more_ints = p.more_ints;
        more_refs = omega (arith, more);
        ints_are = p.ints_are ∙ ap (λ b. ints_behind c rest (behind_int b i)) (sym is);
        refs_are = p.refs_are ∙ ap (λ b. refs_behind c rest (behind_ref b r)) (sym is);
        env = λ q lt. p.env q (omega (arith, lt)) ∙ put_other l.env r q (Refers s) (λ e. omega (arith, e, lt));
        lost = below w.lost r p.lost;
        loses = loses_both N l.same w.lost (below w.lost r p.lost) w.loses (loses_below N w.lost r w.copy p.lost p.loses);
        same = λ q lt. p.same q (omega (arith, lt)) ∙ sym (put_other p.lost r q (w.lost r) (λ e. omega (arith, e, lt)));
        known = λ q lt. p.known q (omega (arith, lt)) ∙ put_other l.known r q false (λ e. omega (arith, e, lt));
        numbers = λ j lt. p.numbers j lt;
        here = subst (λ b. ArgumentAt around f y c kinds a b s i r p.label × ArgumentsAt around f y c (drop 1 kinds) (λ n. wants (n + 1)) rest (behind_int b i) (behind_ref b r) p.label) (sym is) ((e_env, subst (IsCopyOf y c a) (sym e_same) copies), p.here);
        piece = joins_at (mark l i i) (mark X i i) (mark p.label p.ints p.ints) xs (passed_code i kinds site ++ ys) w.piece
            (subst (λ os. Q 0 (mark X i i) (os ++ ys) (mark p.label p.ints p.ints)) (sym (no_width i kinds site goes.2)) p.piece);
      }

  -- an integer register that holds a number of some width is one of the frame
  not_anything : (n : Number) (w : Width) → LessNumber n (Within w) → n ≡ Anything → ⊥
  not_anything n w h e = absurd (other_number Anything w (subst (λ z. LessNumber z (Within w)) e h))

  pub taken_number : (s e : Mark) (os : List Op) (i : ℕ) (n : Number) (w : Width) → s.label.ints i ≡ n → LessNumber n (Within w) → (i < ints_in around.code (Some f) → Q 0 s os e) → Q 0 s os e
  taken_number s e os i n w is fits rest = λ in_it h. rest (⊎_elim (λ (lt : i < ints_in around.code (Some f)). lt) (λ ge. absurd (not_anything n w fits (sym is ∙ h.numbers i ge))) (cases_lt i (ints_in around.code (Some f)))) in_it h

  passed_number : (i r : ℕ) (l : Label) → F i i r l → (kind : Kind) (kinds : List Kind) (wants : ℕ → StaticType) (a : Expression) (rest : Arguments) (xs ys : List Op) (site : Site) → is_ref c a ≡ false → is_integer (kind_of c a) ≡ true → is_integer kind ≡ true → ValueOf i i r l xs a
      → ((l2 : Label) → F (i + 1) (i + 1) r l2 → Passed (i + 1) r l2 kinds (λ n. wants (n + 1)) rest ys)
      → Passed i r l (kind ∷ kinds) wants (argument a rest) (xs ++ (passed_code i (kind ∷ kinds) site ++ ys))
  passed_number i r l fr kind kinds wants a rest xs ys site is number goes v next =
      let w = width_of kind in
      let n = int_of i i r l xs a (is, number) v in
      let first = with_copies l n.lost in
      let f1 = lost_frame i i r l fr n.lost n.loses in
      let X = set_number first i (Within w) in
      let fx = reframe i (i + 1) r X (plain_frame i i r first f1 (Within w) tt) (i + 1) (omega arith) in
      let p = next X fx in
      let e_int : p.label.ints i ≡ Within w = p.numbers i (omega arith) ∙ put_same l.ints i (Within w) in
      let more = p.more_ints in
      let start = with_number around f D N top low i first i n.number in
      let check : Q 0 start (Op.ChkWidth w i (at_site site) ∷ []) (mark X i i) = taken_number start (mark X i i) (Op.ChkWidth w i (at_site site) ∷ []) i n.number (width_of (kind_of c a)) (put_same l.ints i n.number) n.fits (λ lt. width_at around f D N top low i i r first f1.at w n.number (at_site site) lt) in
      record {
        label = p.label;
        ints = p.ints;
        refs = p.refs;
        frame = p.frame;
        more_ints = omega (arith, more);
        more_refs = p.more_refs;
        ints_are = p.ints_are ∙ ap (λ b. ints_behind c rest (behind_int b i)) (sym is);
        refs_are = p.refs_are ∙ ap (λ b. refs_behind c rest (behind_ref b r)) (sym is);
        env = λ q lt. p.env q lt;
        lost = p.lost;
        loses = loses_both N l.same n.lost p.lost n.loses p.loses;
        same = λ q lt. p.same q lt;
        known = λ q lt. p.known q lt;
        numbers = λ j lt. p.numbers j (omega (arith, lt)) ∙ put_other l.ints i j (Within w) (λ e. omega (arith, e, lt));
        here = subst (λ b. ArgumentAt around f y c (kind ∷ kinds) a b (wants 0) i r p.label × ArgumentsAt around f y c kinds (λ n. wants (n + 1)) rest (behind_int b i) (behind_ref b r) p.label) (sym is) (e_int, p.here);
        piece = joins_at (mark l i i) start (mark p.label p.ints p.ints) xs (passed_code i (kind ∷ kinds) site ++ ys) n.piece
            (subst (λ b. Q 0 start (cond b (Op.ChkWidth w i (at_site site) ∷ []) [] ++ ys) (mark p.label p.ints p.ints)) (sym goes)
            (joins_at start (mark X i i) (mark p.label p.ints p.ints) (Op.ChkWidth w i (at_site site) ∷ []) ys check
            (joins_at (mark X i i) (mark X (i + 1) (i + 1)) (mark p.label p.ints p.ints) [] ys (untold i i (i + 1) (i + 1) X (omega arith)) p.piece)));
      }

  one_passed : (i r : ℕ) (l : Label) → F i i r l → (kinds : List Kind) (wants : ℕ → StaticType) (a : Expression) (rest : Arguments) (xs : List Op) (ys : ℕ → ℕ → List Op) (site : Site) → Goes around f y c kinds a (is_ref c a) (wants 0) → ValueOf i i r l xs a
      → ((i2 r2 : ℕ) (l2 : Label) → F i2 i2 r2 l2 → Passed i2 r2 l2 (drop 1 kinds) (λ n. wants (n + 1)) rest (ys i2 r2))
      → Passed i r l kinds wants (argument a rest) (xs ++ (passed_code i kinds site ++ ys (behind_int (is_ref c a) i) (behind_ref (is_ref c a) r)))
  one_passed i r l fr kinds wants a rest xs ys site goes v next = by (is_ref c a) refl kinds goes (λ i2 r2 l2 f2. next i2 r2 l2 f2)
    where
      by : (b : Bool) → is_ref c a ≡ b → (kinds : List Kind) → Goes around f y c kinds a b (wants 0) → ((i2 r2 : ℕ) (l2 : Label) → F i2 i2 r2 l2 → Passed i2 r2 l2 (drop 1 kinds) (λ n. wants (n + 1)) rest (ys i2 r2))
          → Passed i r l kinds wants (argument a rest) (xs ++ (passed_code i kinds site ++ ys (behind_int b i) (behind_ref b r)))
      by true is kinds goes next = passed_reference i r l fr kinds wants a rest xs (ys i (r + 1)) site is goes v (λ l2 f2. next i (r + 1) l2 f2)
      by false is [] goes next = absurd goes
      by false is (kind ∷ kinds) goes next = passed_number i r l fr kind kinds wants a rest xs (ys (i + 1) r) site is goes.0 goes.1 v (λ l2 f2. next (i + 1) r l2 f2)

  -- ---- a call
  call_value : (from i r : ℕ) (l : Label) → F from i r l → (e : Expression) (g : ℕ) (kinds : List Kind) (wants : ℕ → StaticType) (all : Arguments) (os : List Op) (spot : Spot) → ((copy : ℕ) → IsCopyOf y c e copy) → CallTyped around f y c e g kinds wants all → Passed i r l kinds wants all os → ValueOf from i r l (os ++ Op.Call g i r spot ∷ []) e
  call_value from i r l fr e g kinds wants all os spot any_copy h p = by (is_ref c e) (is_integer (kind_of c e)) h.result
    where
      start : Q 0 (mark l from i) [] (mark l i i)
      start = untold from i i i l (omega arith)

      passed : Q 0 (mark l from i) os (mark p.label p.ints p.ints)
      passed = joins_at (mark l from i) (mark l i i) (mark p.label p.ints p.ints) [] os start p.piece

      free : AreFree c all i r p.label
      free = record {
        references = λ q le. p.frame.at.stands.free q (subst (λ k. k ≤ q) (sym p.refs_are) le);
        integers = λ j le. p.frame.at.stands.numbers j (subst (λ k. k ≤ j) (sym p.ints_are) le);
      }

      passes : (q : ℕ) → Passes p.label r (r + q) (p.label.env (r + q)) ((around.signature g).takes q)
      passes = h.passes i r p.label p.frame.holds p.here free

      numbers : (j : ℕ) → LessNumber (p.label.ints (i + j)) ((around.signature g).takes_ints j)
      numbers = h.numbers i r p.label p.frame.holds p.here free

      k : Label
      k = with_copies l p.lost

      fk : F from i r k
      fk = lost_frame from i r l fr p.lost p.loses

      by : (a b : Bool) → ResultTyped around f y c e g a b → Value from i r l (os ++ Op.Call g i r spot ∷ []) e a b
      by true b z = λ s goes fits.
          let same : z.0 ≡ s = goes_is (y.entry c e) z.0 s z.1 goes in
          record {
            lost = p.lost;
            loses = p.loses;
            copy = r;
            copies = any_copy r;
            small = inl refl;
            piece = joins_at (mark l from i) (mark p.label p.ints p.ints) (mark (fill k r (Refers s) r false) from i) os (Op.Call g i r spot ∷ []) passed
                (call_reference around f D y c low from i r k fk p.label p.frame.at.owned p.frame.at.stands.closed p.env p.same p.known p.numbers p.ints p.ints g spot h.is h.alone passes numbers s (in_frame from i r l fr s fits) (z.3 ∙ ap Refers same));
          }
      by false true z = record {
        lost = p.lost;
        loses = p.loses;
        number = (around.signature g).result_int;
        plain = z.1;
        fits = z.2;
        piece = joins_at (mark l from i) (mark p.label p.ints p.ints) (with_number around f D N top low from k i (around.signature g).result_int) os (Op.Call g i r spot ∷ []) passed
            (call_number around f D y c low from i r k fk p.label p.frame.at.owned p.frame.at.stands.closed p.env p.same p.known p.numbers p.ints p.ints g spot h.is h.alone passes numbers (around.signature g).result_int z.1 z.0 refl);
      }
      by false false z = record {
        lost = p.lost;
        loses = p.loses;
        piece = joins_at (mark l from i) (mark p.label p.ints p.ints) (mark k from i) os (Op.Call g i r spot ∷ []) passed
            (call_nothing around f D y c low from i r k fk p.label p.frame.at.owned p.frame.at.stands.closed p.env p.same p.known p.numbers p.ints p.ints g spot h.is h.alone passes numbers z);
      }

  -- ---- what is handed to a condition variable
  pub record OneHeld (from i r : ℕ) (l : Label) (wants : ℕ → StaticType) (os : List Op) : Type 0 where
    pub lost : ℕ → ℕ
    pub loses : Loses N l.same lost
    pub copy : ℕ
    pub small : copy ≤ r
    pub fits : IsNamed N r (wants 0)
    pub piece : Q from (mark l from i) os (mark (fill (with_copies l lost) r (Refers (wants 0)) copy false) from i)

  pub record TwoHeld (from i r : ℕ) (l : Label) (wants : ℕ → StaticType) (os : List Op) : Type 0 where
    pub lost : ℕ → ℕ
    pub loses : Loses N l.same lost
    pub copy : ℕ
    pub copy2 : ℕ
    pub small : copy ≤ r
    pub other : (copy2 ≡ r + 1) ⊎ (copy2 < r)
    pub fits : IsNamed N r (wants 0)
    pub fits2 : IsNamed N r (wants 1)
    pub piece : Q from (mark l from i) os (mark (fill (fill (with_copies l lost) r (Refers (wants 0)) copy false) (r + 1) (Refers (wants 1)) copy2 false) from i)

  goes_to : (kinds : List Kind) (a : Expression) (s : StaticType) → is_ref c a ≡ true → Goes around f y c kinds a (is_ref c a) s → GoesTo (y.entry c a) s × TypeIn s × HasNoWidth around f y kinds
  goes_to kinds a s is h = subst (λ b. Goes around f y c kinds a b s) is h

  one_by : (from i r : ℕ) (l : Label) → F from i r l → (kinds : List Kind) (wants : ℕ → StaticType) (a : Expression) (xs : List Op) (site : Site) → is_ref c a ≡ true → Goes around f y c kinds a (is_ref c a) (wants 0) → ValueOf from i r l xs a → OneHeld from i r l wants (xs ++ (passed_code i kinds site ++ []))
  one_by from i r l fr kinds wants a xs site is goes v =
      let g = goes_to kinds a (wants 0) is goes in
      let w = ref_of from i r l xs a is v (wants 0) g.0 g.1 in
      let end = mark (fill (with_copies l w.lost) r (Refers (wants 0)) w.copy false) from i in
      record {
        lost = w.lost;
        loses = w.loses;
        copy = w.copy;
        small = small_copy from i r l fr w.copy w.small;
        fits = in_frame from i r l fr (wants 0) g.1;
        piece = joins from (mark l from i) end end xs (passed_code i kinds site ++ []) w.piece (subst (λ os. Q from end (os ++ []) end) (sym (no_width i kinds site g.2)) (none around f D N top low from end end (fits_same around.targets end) (λ z. z)));
      }

  two_by : (from i r : ℕ) (l : Label) → F from i r l → (kinds : List Kind) (wants : ℕ → StaticType) (a b : Expression) (xs : List Op) (ys : ℕ → ℕ → List Op) (site : Site) → is_ref c a ≡ true → is_ref c b ≡ true → Goes around f y c kinds a (is_ref c a) (wants 0) → Goes around f y c (drop 1 kinds) b (is_ref c b) (wants 1) → ValueOf from i r l xs a
      → ((l2 : Label) → F from i (r + 1) l2 → ValueOf from i (r + 1) l2 (ys i (r + 1)) b) → (site2 : Site)
      → TwoHeld from i r l wants (xs ++ (passed_code i kinds site ++ (ys (behind_int (is_ref c a) i) (behind_ref (is_ref c a) r) ++ (passed_code (behind_int (is_ref c a) i) (drop 1 kinds) site2 ++ []))))
  two_by from i r l fr kinds wants a b xs ys site is is2 goes goes2 v next site2 =
      let g = goes_to kinds a (wants 0) is goes in
      let g2 = goes_to (drop 1 kinds) b (wants 1) is2 goes2 in
      let w = ref_of from i r l xs a is v (wants 0) g.0 g.1 in
      let fits = in_frame from i r l fr (wants 0) g.1 in
      let small = small_copy from i r l fr w.copy w.small in
      let first = with_copies l w.lost in
      let X = fill first r (Refers (wants 0)) w.copy false in
      let fx = frame_fill from i r first (lost_frame from i r l fr w.lost w.loses) (wants 0) w.copy false fits small in
      let w2 = ref_of from i (r + 1) X (ys i (r + 1)) b is2 (next X fx) (wants 1) g2.0 g2.1 in
      let lost = below w.lost r w2.lost in
      let k = with_copies l lost in
      let middle = mark X from i in
      let end = mark (fill (fill k r (Refers (wants 0)) (w2.lost r) false) (r + 1) (Refers (wants 1)) w2.copy false) from i in
      let second : Q from middle (ys i (r + 1)) end = over_fill from middle (ys i (r + 1)) first r (wants 0) w.copy false w2.lost (λ z. mark (fill z (r + 1) (Refers (wants 1)) w2.copy false) from i) w2.piece in
      let tail : Q from middle (ys i (r + 1) ++ (passed_code i (drop 1 kinds) site2 ++ [])) end = joins from middle end end (ys i (r + 1)) (passed_code i (drop 1 kinds) site2 ++ []) second
      (subst (λ os. Q from end (os ++ []) end) (sym (no_width i (drop 1 kinds) site2 g2.2)) (none around f D N top low from end end (fits_same around.targets end) (λ z. z))) in
      record {
        lost = lost;
        loses = loses_both N l.same w.lost lost w.loses (loses_below N w.lost r w.copy w2.lost w2.loses);
        copy = w2.lost r;
        copy2 = w2.copy;
        small = small_there N w.lost r w.copy w2.lost w2.loses small;
        other = upper_copy r w2.copy fr.high w2.small;
        fits = fits;
        fits2 = in_frame from i r l fr (wants 1) g2.1;
        piece = joins from (mark l from i) middle end xs (passed_code i kinds site ++ (ys (behind_int (is_ref c a) i) (behind_ref (is_ref c a) r) ++ (passed_code (behind_int (is_ref c a) i) (drop 1 kinds) site2 ++ []))) w.piece
            (subst (λ os. Q from middle (os ++ (ys (behind_int (is_ref c a) i) (behind_ref (is_ref c a) r) ++ (passed_code (behind_int (is_ref c a) i) (drop 1 kinds) site2 ++ []))) end) (sym (no_width i kinds site g.2))
            (subst (λ z. Q from middle (ys (behind_int z i) (behind_ref z r) ++ (passed_code (behind_int z i) (drop 1 kinds) site2 ++ [])) end) (sym is) tail));
      }

  -- a wait is for a condition and a mutex, and what wakes threads is for a condition
  abbrev IsWait : (ℕ → StaticType) → Arguments → Type 0
  IsWait wants all = AreTwo around f y c all × FirstCell around (wants 0) Waiters × FirstCell around (wants 1) MutexWord

  abbrev IsWaking : (ℕ → StaticType) → Arguments → Type 0
  IsWaking wants all = IsOne around f y c all × FirstCell around (wants 0) Waiters

  -- by which one is called
  condition_value : (from i r : ℕ) (l : Label) → F from i r l → (e : Expression) (name : List ℕ) (wants : ℕ → StaticType) (all : Arguments) (os : List Op) (spot : Spot) → IsVoid around f y c e → ConditionTyped around f y c name wants all → (IsOne around f y c all → OneHeld from i r l wants os) → (AreTwo around f y c all → TwoHeld from i r l wants os)
      → ValueOf from i r l (os ++ condition_code r spot name all) e
  condition_value from i r l fr e name wants all os spot is h one two = void_by from i r l (os ++ condition_code r spot name all) e is
      (by (bytes_eq name (codes "wait")) (bytes_eq name (codes "signal")) _ _ _ h waits
      (λ z. woken _ z (let p = one z.0 in signalled around f D y c low from i r (with_copies l p.lost) (lost_frame from i r l fr p.lost p.loses) (wants 0) p.copy p.fits p.small z.1 spot))
      (λ z. woken _ z (let p = one z.0 in broadcasted around f D y c low from i r (with_copies l p.lost) (lost_frame from i r l fr p.lost p.loses) (wants 0) p.copy p.fits p.small z.1 spot)))
    where
      waits : IsWait wants all → Done from i l (os ++ wait_code r spot (with_words spot (argument_words 0 all)) (with_words spot (argument_words 1 all)))
      waits z =
          let p = two z.0 in
          let k = with_copies l p.lost in
          record {
            lost = p.lost;
            loses = p.loses;
            piece = joins from (mark l from i) (mark (fill (fill k r (Refers (wants 0)) p.copy false) (r + 1) (Refers (wants 1)) p.copy2 false) from i) (mark k from i) os _ p.piece
                (waited around f D y c low from i r k (lost_frame from i r l fr p.lost p.loses) (wants 0) (wants 1) p.copy p.copy2 p.fits p.fits2 p.small p.other z.1 z.2 spot (with_words spot (argument_words 0 all)) (with_words spot (argument_words 1 all)));
          }

      -- one thread, or all, by this code
      woken : (ys : List Op) (z : IsWaking wants all) → Q from (mark (fill (with_copies l (one z.0).lost) r (Refers (wants 0)) (one z.0).copy false) from i) ys (mark (with_copies l (one z.0).lost) from i) → Done from i l (os ++ ys)
      woken ys z q = let p = one z.0 in record {
        lost = p.lost;
        loses = p.loses;
        piece = joins from (mark l from i) (mark (fill (with_copies l p.lost) r (Refers (wants 0)) p.copy false) from i) (mark (with_copies l p.lost) from i) os ys p.piece q;
      }

      by : (w g : Bool) (xs ys zs : List Op) → Either w (IsWait wants all) (IsWaking wants all) → (IsWait wants all → Done from i l (os ++ xs)) → (IsWaking wants all → Done from i l (os ++ ys)) → (IsWaking wants all → Done from i l (os ++ zs))
          → Done from i l (os ++ cond w xs (cond g ys zs))
      by true g xs ys zs h x y z = x h
      by false true xs ys zs h x y z = y h
      by false false xs ys zs h x y z = z h

  called_value : (from i r : ℕ) (l : Label) → F from i r l → (e : Expression) (n : Named) (name : List ℕ) (all : Arguments) (spot : Spot) → ((copy : ℕ) → IsCopyOf y c e copy)
      → ((kinds : List Kind) (wants : ℕ → StaticType) → AreTypable around f y c kinds wants all → Passed i r l kinds wants all (arguments_code c i r kinds all))
      → ((kinds : List Kind) (wants : ℕ → StaticType) → AreTypable around f y c kinds wants all → IsOne around f y c all → OneHeld from i r l wants (arguments_code c i r kinds all))
      → ((kinds : List Kind) (wants : ℕ → StaticType) → AreTypable around f y c kinds wants all → AreTwo around f y c all → TwoHeld from i r l wants (arguments_code c i r kinds all))
      → CallTypable around f y c e n name all (λ kinds wants. AreTypable around f y c kinds wants all)
      → ValueOf from i r l (arguments_code c i r (declared_kinds (parameters_named c.program.typed n)) all ++ called_code i r spot n name all) e
  called_value from i r l fr e (Named.Function g) name all spot any_copy args one two h = call_value from i r l fr e g (declared_kinds (parameters_named c.program.typed (Named.Function g))) h.0 all (arguments_code c i r (declared_kinds (parameters_named c.program.typed (Named.Function g))) all) spot any_copy h.2
      (args (declared_kinds (parameters_named c.program.typed (Named.Function g))) h.0 h.1)
  called_value from i r l fr e Named.Known name all spot any_copy args one two h =
      let kinds = declared_kinds (parameters_named c.program.typed Named.Known) in
      condition_value from i r l fr e name h.0 all (arguments_code c i r kinds all) spot h.2 h.3 (λ k. one kinds h.0 h.1 k) (λ k. two kinds h.0 h.1 k)
  called_value from i r l fr e _ name all spot any_copy args one two h = absurd h

  -- ---- a new thread
  spawn_value : (from i r : ℕ) (l : Label) → F from i r l → (e a : Expression) (g : ℕ) (kinds : List Kind) (os : List Op) (site : Site) (spot : Spot) → IsNumber around f y c e → SpawnTyped around f y c a g kinds → ValueOf from i r l os a → ValueOf from i r l (os ++ (passed_code i kinds site ++ spawn_code (is_ref c a) i r g spot)) e
  spawn_value from i r l fr e a g kinds os site spot is h v = by (is_ref c a) refl kinds h.handed
    where
      by : (b : Bool) → is_ref c a ≡ b → (kinds : List Kind) → Handed around f y c kinds a g b → ValueOf from i r l (os ++ (passed_code i kinds site ++ spawn_code b i r g spot)) e
      by true is_a kinds z =
          let s = z.0 in
          let w = ref_of from i r l os a is_a v s z.1 z.2 in
          let k = with_copies l w.lost in
          let fk = lost_frame from i r l fr w.lost w.loses in
          let m = mark (fill k r (Refers s) w.copy false) from i in
          let end = with_number around f D N top low from k i (Within Char) in
          truth_value from i r l (os ++ (passed_code i kinds site ++ spawn_code true i r g spot)) e is w.lost w.loses (joins from (mark l from i) m end os (passed_code i kinds site ++ spawn_code true i r g spot) w.piece
          (subst (λ xs. Q from m (xs ++ spawn_code true i r g spot) end) (sym (no_width i kinds site z.3))
          (spawn_reference around f D y c low from i r k fk g spot h.is h.starts h.shared s w.copy from i (in_frame from i r l fr s z.2) z.4 z.5 (λ k. z.6 r k) z.7)))
      by false is_a [] z = absurd z
      by false is_a (kind ∷ kinds) z =
          let w = width_of kind in
          let n = int_of from i r l os a (is_a, z.0) v in
          let k = with_copies l n.lost in
          let fk = lost_frame from i r l fr n.lost n.loses in
          let start = with_number around f D N top low from k i n.number in
          let m = mark (set_number k i (Within w)) from i in
          let end = with_number around f D N top low from k i (Within Char) in
          let check : Q from start (Op.ChkWidth w i (at_site site) ∷ []) m = taken_number start m (Op.ChkWidth w i (at_site site) ∷ []) i n.number (width_of (kind_of c a)) (put_same l.ints i n.number) n.fits (λ lt. width_at around f D N top low from i r k fk.at w n.number (at_site site) lt) in
          truth_value from i r l (os ++ (passed_code i (kind ∷ kinds) site ++ spawn_code false i r g spot)) e is n.lost n.loses (joins from (mark l from i) start end os (passed_code i (kind ∷ kinds) site ++ spawn_code false i r g spot) n.piece
          (subst (λ b. Q from start (cond b (Op.ChkWidth w i (at_site site) ∷ []) [] ++ spawn_code false i r g spot) end) (sym z.1)
          (joins from start m end (Op.ChkWidth w i (at_site site) ∷ []) (spawn_code false i r g spot) check
          (spawn_number around f D y c low from i r k fk g spot h.is h.starts h.shared w from i z.2 z.3))))

  -- ---- what is taken away
  take_is : (i r : ℕ) (site : Site) (lvalue : Lvalue) (mode : Sharing) (form : Option ℕ → Use) (t : Target) → is_cell t ≡ true → cell_take_code c i r site lvalue mode form t ≡ take_code c i r site lvalue mode form t
  take_is i r site lvalue mode form (variable x) h = absurd (false≢true h)
  take_is i r site lvalue mode form _ h = refl

  record Taken (from i r : ℕ) (l : Label) (os : List Op) (s : StaticType) : Type 0 where
    lost : ℕ → ℕ
    loses : Loses N l.same lost
    piece : Q from (mark l from i) os (mark (fill (with_copies l lost) r (Refers s) r false) from i)

  taken_at : (from i r : ℕ) (l : Label) → F from i r l → (a : Expression) (form : Option ℕ → Use) (s : StaticType) (xs : List Op) → TakeTyped around f y c a (form None) s → PlaceValue from i r l xs (target_of c a) (guard_of c a) (ground_of around f y c a)
      → Taken from i r l (xs ++ take_code c i r (span_of a).first (lvalue_in c a) (mode_of c a) form (target_of c a)) s
  taken_at from i r l fr a form s xs h p = by (target_of c a) p h.takes
    where
      cells : (t : Target) → is_cell t ≡ true → PlaceValue from i r l xs t (guard_of c a) (ground_of around f y c a) → ReferenceTyped around y c f t (guard_of c a) (ground_of around f y c a) (span_of a).first (lvalue_in c a) (mode_of c a) true (form None) s
          → Taken from i r l (xs ++ take_code c i r (span_of a).first (lvalue_in c a) (mode_of c a) form t) s
      cells t is p reaches =
          let k = with_copies l p.lost in
          let start = placed around f D y c low from t (guard_of c a) (ground_of around f y c a) p.element i r p.copy k in
          let end = mark (fill k r (Refers s) r false) from i in
          record {
            lost = p.lost;
            loses = p.loses;
            piece = joins from (mark l from i) start end xs (take_code c i r (span_of a).first (lvalue_in c a) (mode_of c a) form t) p.piece
                (subst (λ os. Q from start os end) (take_is i r (span_of a).first (lvalue_in c a) (mode_of c a) form t is)
                (taken_value around f D y c low from i r k (lost_frame from i r l fr p.lost p.loses) (guard_of c a) (ground_of around f y c a) p.element p.copy p.fits p.small p.copies (span_of a).first (lvalue_in c a) (mode_of c a) form t is s (in_frame from i r l fr s h.type) reaches));
          }

      variables : (x : Register) (spot : Spot) → VariableTakes around f y c s x → (lost : ℕ → ℕ) → Loses N l.same lost → Q from (mark l from i) xs (mark (record (with_copies l lost) { gate = Closed }) from (i + 0)) → Taken from i r l (xs ++ Op.TakeLocal r (number_in x) spot ∷ []) s
      variables (Register.Int j) spot takes lost loses piece = absurd takes
      variables (Register.Reference q) spot takes lost loses piece =
          let k = with_copies l lost in
          let fk = lost_frame from i r l fr lost loses in
          let after = without_copies lost q in
          record {
            lost = after;
            loses = loses_both N l.same lost after loses (loses_taken N lost q takes.2);
            piece = joins from (mark l from i) (mark (record k { gate = Closed }) from (i + 0)) (mark (fill (with_copies l after) r (Refers s) r false) from i) xs (Op.TakeLocal r q spot ∷ []) piece
                (take_variable_at around f D y c low from i r k fk s (in_frame from i r l fr s h.type) q (i + 0) spot takes.0 (fr.holds.references q takes.0 ∙ ap Refers takes.1) takes.2);
          }

      by : (t : Target) → PlaceValue from i r l xs t (guard_of c a) (ground_of around f y c a) → Takes around f y c a (form None) s t → Taken from i r l (xs ++ take_code c i r (span_of a).first (lvalue_in c a) (mode_of c a) form t) s
      by (variable x) p takes = variables (register_of c.scope x) _ takes p.lost p.loses p.piece
      by k p takes = cells k refl p takes

  cast_value : (from i r : ℕ) (l : Label) → F from i r l → (s : Span) (t : WrittenType) (a : Expression) (xs : List Op) → CastTyped around f y c (cast s t a) a → PlaceValue from i r l xs (target_of c a) (guard_of c a) (ground_of around f y c a) → ValueOf from i r l (cast_code c i r s a xs) (cast s t a)
  cast_value from i r l fr s t a xs h p =
      let b = h.before in
      let fits = in_frame from i r l fr b h.take.type in
      let taken = taken_at from i r l fr a Use.Cast b xs h.take p in
      let k = with_copies l taken.lost in
      let fk = lost_frame from i r l fr taken.lost taken.loses in
      let X = fill k r (Refers b) r true in
      let holds = (frame_fill from i r k fk b r true fits (omega arith)).holds in
      let tail = Op.SkipIfNull r 1 ∷ Op.Give r (element_cells c.program.typed (element_kind (kind_of c a))) _ ∷ [] in
      ref_by from i r l (cast_code c i r s a xs) (cast s t a) h.reference (λ g goes in_it.
      let same : h.given ≡ g = goes_is (y.entry c (cast s t a)) h.given g h.entry goes in
      let end = mark (fill k r (Refers g) r false) from i in
      let gives : Q from (mark (fill k r (Refers b) r false) from i) tail end = subst (λ g. Q from (mark (fill k r (Refers b) r false) from i) tail (mark (fill k r (Refers g) r false) from i)) same
      (given_at around f D y c low from i r k fk b fits h.given (in_frame from i r l fr h.given h.type) (element_cells c.program.typed (element_kind (kind_of c a))) _ h.size (h.recasts r X holds (put_same l.env r (Refers b)))) in
      record {
        lost = taken.lost;
        loses = taken.loses;
        copy = r;
        copies = tt;
        small = inl refl;
        piece = subst (λ os. Q from (mark l from i) os end) (append_assoc xs (take_code c i r (span_of a).first (lvalue_in c a) (mode_of c a) Use.Cast (target_of c a)) tail)
            (joins from (mark l from i) (mark (fill k r (Refers b) r false) from i) end (xs ++ take_code c i r (span_of a).first (lvalue_in c a) (mode_of c a) Use.Cast (target_of c a)) tail taken.piece gives);
      })

  free_piece : (from i r : ℕ) (l : Label) → F from i r l → (a : Expression) (xs : List Op) (spot : Spot) → FreeTyped around f y c a → PlaceValue from i r l xs (target_of c a) (guard_of c a) (ground_of around f y c a)
      → Done from i l (xs ++ (take_code c i r (span_of a).first (lvalue_in c a) (mode_of c a) Use.Free (target_of c a) ++ (Op.SkipIfNull r 1 ∷ Op.Free r (layout_of (structs_in c.program.typed.program.items) (element_kind (kind_of c a))) spot ∷ [])))
  free_piece from i r l fr a xs spot h p =
      let b = h.before in
      let taken = taken_at from i r l fr a Use.Free b xs h.take p in
      let k = with_copies l taken.lost in
      let fk = lost_frame from i r l fr taken.lost taken.loses in
      let tail = Op.SkipIfNull r 1 ∷ Op.Free r (layout_of (structs_in c.program.typed.program.items) (element_kind (kind_of c a))) spot ∷ [] in
      record {
        lost = taken.lost;
        loses = taken.loses;
        piece = subst (λ os. Q from (mark l from i) os (mark k from i)) (append_assoc xs (take_code c i r (span_of a).first (lvalue_in c a) (mode_of c a) Use.Free (target_of c a)) tail)
            (joins from (mark l from i) (mark (fill k r (Refers b) r false) from i) (mark k from i) (xs ++ take_code c i r (span_of a).first (lvalue_in c a) (mode_of c a) Use.Free (target_of c a)) tail taken.piece
            (freed_at around f D y c low from i r k fk b (in_frame from i r l fr b h.take.type) (layout_of (structs_in c.program.typed.program.items) (element_kind (kind_of c a))) spot h.laid));
      }

  -- a number that is used, and is of no use any more
  used_value : (from i r : ℕ) (l : Label) → F from i r l → (a : Expression) (os : List Op) (o : Op) → IsNumber around f y c a → ValueOf from i r l os a → ((k : Label) (n : Number) → F from (i + 1) r (set_number k i n) → Q from (with_number around f D N top low from k i n) (o ∷ []) (with_number around f D N top low from k i n)) → Done from i l (os ++ o ∷ [])
  used_value from i r l fr a os o is v keeps =
      let n = int_of from i r l os a is v in
      let k = with_copies l n.lost in
      let fk = lost_frame from i r l fr n.lost n.loses in
      let end = with_number around f D N top low from k i n.number in
      record {
        lost = n.lost;
        loses = n.loses;
        piece = number_dropped around f D N top low from i r k fk.at n.number (os ++ o ∷ []) (mark l from i) (joins from (mark l from i) end end os (o ∷ []) n.piece (keeps k n.number (plain_frame from i r k fk n.number n.plain)));
      }

  -- an lvalue that is used
  used_place : (from i r : ℕ) (l : Label) → F from i r l → (os xs : List Op) (t : Target) (guard : Option ℕ) (ground : Ground) → (p : PlaceValue from i r l os t guard ground)
      → ((k : Label) → F from i r k → Q from (placed around f D y c low from t guard ground p.element i r p.copy k) xs (mark k from i)) → Done from i l (os ++ xs)
  used_place from i r l fr os xs t guard ground p uses =
      let k = with_copies l p.lost in
      record {
        lost = p.lost;
        loses = p.loses;
        piece = joins from (mark l from i) (placed around f D y c low from t guard ground p.element i r p.copy k) (mark k from i) os xs p.piece (uses k (lost_frame from i r l fr p.lost p.loses));
      }

  -- ---- the whole
  mutual
    pub expressions : (from i r : ℕ) (l : Label) → F from i r l → (e : Expression) → Typed e → ValueOf from i r l (expression_code c i r e) e
    expressions from i r l fr (identifier s x) h = entered from i r l fr _ (identifier s x) (named_value from i r l fr s x (what_names c x.site.token) (λ copy z. z) h)
    expressions from i r l fr (constant s k) h = entered from i r l fr _ (constant s k) (constant_value_of from i r l fr (constant s k) k (is_ref c (constant s k)) (λ copy. tt) refl h)
    expressions from i r l fr (parentheses s a) h = entered from i r l fr (expression_code c i r a) (parentheses s a) (same_value from i r l (expression_code c i r a) (parentheses s a) a (λ copy. tt) refl h.1 (expressions from i r l fr a h.0))
    expressions from i r l fr (call s x all) h = entered from i r l fr _ (call s x all)
        (called_value from i r l fr (call s x all) (what_names c x.site.token) x.text all (at_site s.first) (λ copy. tt) (λ kinds wants k. arguments i r l (reframe from i r l fr i (omega arith)) kinds wants all k)
        (λ kinds wants k is. one_held from i r l fr kinds wants all k is) (λ kinds wants k are. two_held from i r l fr kinds wants all k are) h)
    expressions from i r l fr (spawn s x a) h = entered from i r l fr _ (spawn s x a)
        (spawn_value from i r l fr (spawn s x a) a (number_named (what_names c x.site.token)) (declared_kinds (parameters_named c.program.typed (what_names c x.site.token))) (expression_code c i r a) (span_of a).first (at_site s.first) h.1 h.2 (expressions from i r l fr a h.0))
    expressions from i r l fr (on_value s Join a) h = entered_done from i r l fr _ (used_value from i r l fr a (expression_code c i r a) (Op.Join i (at_site s.first)) h.1 (expressions from i r l fr a h.0)
        (λ k n fn. join_at around f D N top low from (i + 1) r (set_number k i n) fn.at (i + 1) i (at_site s.first)))
    expressions from i r l fr (on_value s Print a) h = entered_done from i r l fr _ (used_value from i r l fr a (expression_code c i r a) (Op.Print i (at_site s.first)) h.1 (expressions from i r l fr a h.0)
        (λ k n fn. print_at around f D N top low from (i + 1) r (set_number k i n) fn.at (i + 1) i (at_site s.first)))
    expressions from i r l fr (on_place s Lock a) h =
        let p = places from i r l fr (span_of a).first None None a h.0 in
        entered_done from i r l fr _ (used_place from i r l fr (place_code c i r (span_of a).first None None a) _ (target_of c a) None (ground_of around f y c a) p
        (λ k fk. locked_at around f D y c low from i r k fk (ground_of around f y c a) p.element p.copy p.fits p.small p.copies _ _ _ (target_of c a) h.1 h.2))
    expressions from i r l fr (on_place s Unlock a) h =
        let p = places from i r l fr (span_of a).first None None a h.0 in
        entered_done from i r l fr _ (used_place from i r l fr (place_code c i r (span_of a).first None None a) _ (target_of c a) None (ground_of around f y c a) p
        (λ k fk. unlocked_at around f D y c low from i r k fk (ground_of around f y c a) p.element p.copy p.fits p.small p.copies _ _ (at_site s.first) (target_of c a) h.1 h.2))
    expressions from i r l fr (on_place s Free a) h = entered_done from i r l fr _ (free_piece from i r l fr a (place_code c i r (span_of a).first None (guard_of c a) a) _ h.1 (places from i r l fr (span_of a).first None (guard_of c a) a h.0))
    expressions from i r l fr (cast s t a) h = entered from i r l fr _ (cast s t a) (cast_value from i r l fr s t a (place_code c i r (span_of a).first None (guard_of c a) a) h.1 (places from i r l fr (span_of a).first None (guard_of c a) a h.0))
    expressions from i r l fr (index s a n) h =
        let e = index s a n in
        entered from i r l fr _ e (read from i r l fr e s.first (target_of c e) (index_code c i r s.first None (guard_of c e) a (place_code c i r s.first None None a) (expression_code c i r a) (λ d. expression_code c i d n))
        (index_place from i r l fr s.first None (guard_of c e) s a n (place_code c i r s.first None None a) (expression_code c i r a) (λ d. expression_code c i d n) (PlaceTyped None None a) (Typed a) (Typed n)
        (λ (k : PlaceTyped None None a). places from i r l fr s.first None None a k) (λ (k : Typed a). expressions from i r l fr a k) (λ (k : Typed n). λ r2 l2 f2. expressions from i r2 l2 f2 n k) h.0) h.1.0 (λ copy. tt) h.1.1)
    expressions from i r l fr (field s a Dot n) h =
        let e = field s a Dot n in
        let own = Some (field_place_named c.program.typed (what_names c n.site.token)) in
        entered from i r l fr _ e (read from i r l fr e s.first (target_of c e) (place_code c i r s.first own (guard_of c e) a) (places from i r l fr s.first own (guard_of c e) a h.0) h.1.0 (λ copy. tt) h.1.1)
    expressions from i r l fr (field s a Arrow n) h =
        let e = field s a Arrow n in
        entered from i r l fr _ e (read from i r l fr e s.first (target_of c e) (pointee_code r s.first (expression_code c i r a)) (object_place from i r l fr a s.first (expression_code c i r a) (field_place_named c.program.typed (what_names c n.site.token)) (guard_of c e) (ground_of around f y c e) refl refl h.0.1
        (expressions from i r l fr a h.0.0)) h.1.0 (λ copy. tt) h.1.1)
    expressions from i r l fr (unary s Dereference a) h =
        let e = unary s Dereference a in
        entered from i r l fr _ e (read from i r l fr e s.first (target_of c e) (pointee_code r s.first (expression_code c i r a)) (object_place from i r l fr a s.first (expression_code c i r a) 0 (guard_of c e) (ground_of around f y c e) refl refl h.1 (expressions from i r l fr a h.0)) h.2.0 (λ copy. tt) h.2.1)
    expressions from i r l fr (unary s Negate a) h = entered from i r l fr _ (unary s Negate a) (negated from i r l fr (unary s Negate a) a (expression_code c i r a) s.first h.2 (expressions from i r l fr a h.0))
    expressions from i r l fr (unary s Not a) h = entered from i r l fr _ (unary s Not a) (not_value from i r l fr (unary s Not a) a (expression_code c i r a) h.2 h.1 (expressions from i r l fr a h.0))
    expressions from i r l fr (unary s Complement a) h = entered from i r l fr _ (unary s Complement a) (complemented from i r l fr (unary s Complement a) a (expression_code c i r a) h.2 (expressions from i r l fr a h.0))
    expressions from i r l fr (binary s LogicalAnd at a b) h = entered from i r l fr _ (binary s LogicalAnd at a b)
        (both_value from i r l fr (binary s LogicalAnd at a b) (expression_code c i r a ++ truth_code (is_ref c a) i r) (expression_code c i r b ++ truth_code (is_ref c b) i r) h.4 (truth_of from i r l fr a (expression_code c i r a) h.1 (expressions from i r l fr a h.0))
        (λ l2 f2. truth_of from i r l2 f2 b (expression_code c i r b) h.3 (expressions from i r l2 f2 b h.2)))
    expressions from i r l fr (binary s LogicalOr at a b) h = entered from i r l fr _ (binary s LogicalOr at a b)
        (either_value from i r l fr (binary s LogicalOr at a b) (expression_code c i r a ++ truth_code (is_ref c a) i r) (expression_code c i r b ++ truth_code (is_ref c b) i r) h.4 (truth_of from i r l fr a (expression_code c i r a) h.1 (expressions from i r l fr a h.0))
        (λ l2 f2. truth_of from i r l2 f2 b (expression_code c i r b) h.3 (expressions from i r l2 f2 b h.2)))
    expressions from i r l fr (binary s o at a b) h = entered from i r l fr _ (binary s o at a b) (computed from i r l fr (binary s o at a b) at o a b (expression_code c i r a) (λ i2 r2. expression_code c i2 r2 b) h.4.0 h.4.1 h.1 h.3 (expressions from i r l fr a h.0) (λ i2 r2 l2 f2. expressions from i2 r2 l2 f2 b h.2))

    pub places : (from i r : ℕ) (l : Label) → F from i r l → (site : Site) (own guard : Option ℕ) (e : Expression) → PlaceTyped own guard e → PlaceValue from i r l (place_code c i r site own guard e) (target c.program.typed own e) guard (ground_of around f y c e)
    places from i r l fr site own guard (identifier s x) h = entered_place from i r l fr [] _ guard _ (named_place from i r l fr (what_names c x.site.token) (own_field own 0) guard _ refl refl)
    places from i r l fr site own guard (parentheses s a) h = entered_place from i r l fr _ _ guard _ (places from i r l fr site own guard a h)
    places from i r l fr site own guard (index s a n) h = entered_place from i r l fr _ _ guard _
        (index_place from i r l fr site own guard s a n (place_code c i r site None None a) (expression_code c i r a) (λ d. expression_code c i d n) (PlaceTyped None None a) (Typed a) (Typed n)
        (λ (k : PlaceTyped None None a). places from i r l fr site None None a k) (λ (k : Typed a). expressions from i r l fr a k) (λ (k : Typed n). λ r2 l2 f2. expressions from i r2 l2 f2 n k) h)
    places from i r l fr site own guard (field s a Dot n) h = entered_place from i r l fr _ _ guard _ (places from i r l fr site (Some (own_field own (field_place_named c.program.typed (what_names c n.site.token)))) guard a h)
    places from i r l fr site own guard (field s a Arrow n) h = entered_place from i r l fr _ _ guard _ (object_place from i r l fr a site (expression_code c i r a) (own_field own (field_place_named c.program.typed (what_names c n.site.token))) guard _ refl refl h.1 (expressions from i r l fr a h.0))
    places from i r l fr site own guard (unary s Dereference a) h = entered_place from i r l fr _ _ guard _ (object_place from i r l fr a site (expression_code c i r a) (own_field own 0) guard _ refl refl h.1 (expressions from i r l fr a h.0))
    places from i r l fr site own guard _ h = entered_place from i r l fr [] (variable 0) guard _ (variable_place from i r l fr 0 guard _ refl refl)

    pub arguments : (i r : ℕ) (l : Label) → F i i r l → (kinds : List Kind) (wants : ℕ → StaticType) (all : Arguments) → AreTypable around f y c kinds wants all → Passed i r l kinds wants all (arguments_code c i r kinds all)
    arguments i r l fr kinds wants no_arguments h = record { label = l; ints = i; refs = r; frame = fr; more_ints = omega arith; more_refs = omega arith; ints_are = refl; refs_are = refl; env = λ q lt. refl; lost = l.same; loses = loses_none N l.same; same = λ q lt. refl; known = λ q lt. refl; numbers = λ j lt. refl; here = tt; piece = untold i i i i l (omega arith) }
    arguments i r l fr kinds wants (argument a rest) h = one_passed i r l fr kinds wants a rest (expression_code c i r a) (λ i2 r2. arguments_code c i2 r2 (drop 1 kinds) rest) (span_of a).first h.1 (expressions i i r l fr a h.0)
        (λ i2 r2 l2 f2. arguments i2 r2 l2 f2 (drop 1 kinds) (λ n. wants (n + 1)) rest h.2)

    pub one_held : (from i r : ℕ) (l : Label) → F from i r l → (kinds : List Kind) (wants : ℕ → StaticType) (all : Arguments) → AreTypable around f y c kinds wants all → IsOne around f y c all → OneHeld from i r l wants (arguments_code c i r kinds all)
    one_held from i r l fr kinds wants (argument a no_arguments) h is = one_by from i r l fr kinds wants a (expression_code c i r a) (span_of a).first is h.1 (expressions from i r l fr a h.0)
    one_held from i r l fr kinds wants _ h is = absurd is

    pub two_held : (from i r : ℕ) (l : Label) → F from i r l → (kinds : List Kind) (wants : ℕ → StaticType) (all : Arguments) → AreTypable around f y c kinds wants all → AreTwo around f y c all → TwoHeld from i r l wants (arguments_code c i r kinds all)
    two_held from i r l fr kinds wants (argument a (argument b no_arguments)) h are = two_by from i r l fr kinds wants a b (expression_code c i r a) (λ i2 r2. expression_code c i2 r2 b) (span_of a).first are.0 are.1 h.1 h.2.1 (expressions from i r l fr a h.0)
        (λ l2 f2. expressions from i (r + 1) l2 f2 b h.2.0) (span_of b).first
    two_held from i r l fr kinds wants _ h are = absurd are
