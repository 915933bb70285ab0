-- The text of an event is a line of the grammar of event files.
use Rattle.sharc_trace_laws.proofs.{Imports.{◌≡◌, inl, inr, ℕ, zero, suc, ◌≤◌, ◌^◌, true, List, ◌∷◌, ◌++◌, Some, refl, ap, sym, subst, ◌∙◌, arith, lt-ltb, decimal_digit, ℤ, pos, negsuc, decimal, codes, FitsSigned, signed_decimal, w64, is_held_by, Resolution, function_at, reference, EventLine, LineAct, IsCell, IsPair, IsReference, IsValue, IsThread, IsAct, IsEventLine, thread_most, spawned_by, Where, Deed, Event, Reference, GivenValue, at, numbered, valued, shown, cell_text, reference_text, IsFitCell, IsFitReference, IsFitValue, IsFunctionOf, Writable, line_of, IsLineOf, value_text, deed_text, event_text}, Pieces.{null_text, pair_text, name_text}}

is_cell : (c : Where) → IsFitCell c → IsCell (cell_text c) (at c)
is_cell (Where.Global number cell) h = record { object_text = 103 ∷ decimal number; is = refl; object = (h.0, refl); cell = h.1 }
is_cell (Where.Made number cell) h = record { object_text = 111 ∷ decimal number; is = refl; object = (h.some, h.most, refl); cell = h.low }

held : (v : ℤ) → FitsSigned w64 v → is_held_by 63 v ≡ true
held (pos n) h = lt-ltb n (2 ^ 63) h.sfits
held (negsuc n) h = lt-ltb n (2 ^ 63) h.sfits

pair_is : (number elements : ℕ) → 1 ≤ number → number ≤ thread_most → 1 ≤ elements → elements ≤ 2147483647 → IsPair (decimal number ++ 58 ∷ decimal elements) (reference number elements)
pair_is zero elements some most more few = absurd (omega (arith, some))
pair_is (suc number) elements some most more few = record {
  number = suc number;
  elements = elements;
  is = refl;
  value = refl;
  some = some;
  number_most = most;
  elements_some = more;
  elements_most = few;
}

null_is : (number elements : ℕ) → number ≡ 0 → reference number elements ≡ pos 0
null_is zero elements e = refl
null_is (suc number) elements e = absurd (omega (arith, e))

is_reference : (x : Reference) → IsFitReference x → IsReference (reference_text x) (numbered x)
is_reference x (inl e) = inl (null_text x e, null_is x.number x.elements e)
is_reference x (inr h) = inr (subst (λ t. IsPair t (numbered x)) (sym (pair_text x h)) (pair_is x.number x.elements h.some h.most h.elements_some h.elements_most))

reference_value : (text : List ℕ) (v : ℤ) → IsReference text v → IsValue text v
reference_value text v (inl h) = inl (h.0 ∙ (sym (decimal_digit 0 (omega arith)) ∙ sym (ap signed_decimal h.1)), ap (is_held_by 63) h.1)
reference_value text v (inr h) = inr h

is_value : (v : GivenValue) → IsFitValue v → IsValue (value_text v) (valued v)
is_value (GivenValue.Int v) h = inl (refl, held v h)
is_value (GivenValue.Reference x) h = reference_value (reference_text x) (numbered x) (is_reference x h)

is_thread : (v : ℤ) (n : ℕ) → v ≡ pos n → n ≤ thread_most → IsThread v (signed_decimal v)
is_thread v n e h = record { number = n; is = record { is = ap signed_decimal e; above = omega arith; below = h }; value = e }

-- the act of its line
acted : (r : Resolution) (d : Deed) (act : LineAct) → Writable r d → line_of r (shown d) ≡ Some act → IsAct act (deed_text r d)
acted r (Deed.Reads c v) act h e =
    let is : LineAct.Read (at c) (valued v) ≡ act = cc in
    subst (λ a. IsAct a (deed_text r (Deed.Reads c v))) is record { rest = cell_text c ++ 32 ∷ value_text v; is = refl; holds = record { first = cell_text c; second = value_text v; is = refl; left = is_cell c h.0; right = is_value v h.1 } }
acted r (Deed.Writes c v) act h e =
    let is : LineAct.Write (at c) (valued v) ≡ act = cc in
    subst (λ a. IsAct a (deed_text r (Deed.Writes c v))) is record { rest = cell_text c ++ 32 ∷ value_text v; is = refl; holds = record { first = cell_text c; second = value_text v; is = refl; left = is_cell c h.0; right = is_value v h.1 } }
acted r (Deed.Makes x) act h e =
    let is : LineAct.New (numbered x) ≡ act = cc in
    subst (λ a. IsAct a (deed_text r (Deed.Makes x))) is record { rest = reference_text x; is = refl; holds = is_reference x h }
acted r (Deed.Takes x) act h e =
    let is : LineAct.Take (numbered x) ≡ act = cc in
    subst (λ a. IsAct a (deed_text r (Deed.Takes x))) is record { rest = reference_text x; is = refl; holds = is_reference x h }
acted r (Deed.Gives x) act h e =
    let is : LineAct.Give (numbered x) ≡ act = cc in
    subst (λ a. IsAct a (deed_text r (Deed.Gives x))) is record { rest = reference_text x; is = refl; holds = is_reference x h }
acted r (Deed.Frees x) act h e =
    let is : LineAct.Freed (numbered x) ≡ act = cc in
    subst (λ a. IsAct a (deed_text r (Deed.Frees x))) is record { rest = reference_text x; is = refl; holds = is_reference x h }
acted r (Deed.Locks c) act h e =
    let is : LineAct.Lock (at c) ≡ act = cc in
    subst (λ a. IsAct a (deed_text r (Deed.Locks c))) is record { rest = cell_text c; is = refl; holds = is_cell c h }
acted r (Deed.Unlocks c) act h e =
    let is : LineAct.Unlock (at c) ≡ act = cc in
    subst (λ a. IsAct a (deed_text r (Deed.Unlocks c))) is record { rest = cell_text c; is = refl; holds = is_cell c h }
acted r (Deed.Spawns f v n) act h e =
    let name : List ℕ = h.0.0 in
    let called : IsFunctionOf r f name = h.0.1 in
    let said : spawned_by (function_at r f) (valued v) (pos n) ≡ Some (LineAct.Spawn name (valued v) (pos n)) =
    ap (λ o. spawned_by o (valued v) (pos n)) called.is ∙ ap (λ t. Some (LineAct.Spawn t (valued v) (pos n))) called.named in
    let is : LineAct.Spawn name (valued v) (pos n) ≡ act = cc in
    let text : deed_text r (Deed.Spawns f v n) ≡ codes "spawn " ++ (name ++ 32 ∷ (value_text v ++ 32 ∷ decimal n)) = ap (λ t. codes "spawn " ++ (t ++ 32 ∷ (value_text v ++ 32 ∷ decimal n))) (name_text r f name called) in
    subst (λ a. IsAct a (deed_text r (Deed.Spawns f v n))) is record {
      rest = name ++ 32 ∷ (value_text v ++ 32 ∷ decimal n);
      is = text;
      holds = record {
        first = name;
        second = value_text v ++ 32 ∷ decimal n;
        is = refl;
        left = (refl, called.is_name);
        right = record { first = value_text v; second = decimal n; is = refl; left = is_value v h.1; right = is_thread (pos n) n refl h.2 };
      };
    }
acted r (Deed.Starts v) act h e =
    let is : LineAct.Started (valued v) ≡ act = cc in
    subst (λ a. IsAct a (deed_text r (Deed.Starts v))) is record { rest = value_text v; is = refl; holds = is_value v h }
acted r (Deed.Joins v) act h e =
    let is : LineAct.Join v ≡ act = cc in
    subst (λ a. IsAct a (deed_text r (Deed.Joins v))) is record { rest = signed_decimal v; is = refl; holds = is_thread v h.0 h.1 h.2 }
acted r (Deed.Prints v) act h e =
    let is : LineAct.Print v ≡ act = cc in
    subst (λ a. IsAct a (deed_text r (Deed.Prints v))) is record { rest = signed_decimal v; is = refl; holds = inl (refl, held v h) }
acted r Deed.Returns act h e = let is : LineAct.Return ≡ act = cc in subst (λ a. IsAct a (codes "return")) is refl
acted r Deed.Ends act h e = let is : LineAct.Gone ≡ act = cc in subst (λ a. IsAct a (codes "gone")) is refl
acted r (Deed.Enters c) act h e = absurd (h)
acted r (Deed.Wakes c) act h e = absurd (h)
acted r (Deed.Signals c thread) act h e = absurd (h)
acted r (Deed.Broadcasts c) act h e = absurd (h)

pub event_line : (r : Resolution) (l : EventLine) (e : Event) → IsLineOf r l e → IsEventLine (event_text r e) l
event_line r l e is = record {
  rest = deed_text r e.deed;
  is = ap (λ n. decimal n ++ 32 ∷ deed_text r e.deed) (sym is.thread);
  small = subst (λ n. n ≤ thread_most) (sym is.thread) is.small;
  act = acted r e.deed l.act is.act.writable is.act.is;
}
