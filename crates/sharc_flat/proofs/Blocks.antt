-- The variables of a block end.
use Rattle.sharc_flat.proofs.{Imports.{◌≡◌, ℕ, zero, suc, ◌+◌, Bool, true, false, cond, List, [], ◌∷◌, ◌++◌, length, get_or, take, drop, refl, sym, ap, ◌∙◌, subst, arith, append_assoc, length-append, get_or_append_left, take-map, take-append-drop, ℤ, pos, State, pointers_among, Variable, Op, Spot, int_count, ref_count, pops, ends_from, Slot}, Banks.bank_is, Runs.{HasAt, Fin, Same, without_variables}, Agreeing.{slots_of, int_values, refs_length, ints_length, Standing, place, Agree, below, same_frame, slot_in}, Popping.{AllNull, null_behind, pop_all, popping_under}}

pops_by : (b : Bool) (r : ℕ) (v : ℤ) (rest : List Variable) → ((r : ℕ) → pops r (slots_of rest) ≡ pop_all r (pointers_among rest)) → cond b (Op.Pop r ∷ pops (r + 1) (slots_of rest)) (pops r (slots_of rest)) ≡ pop_all r (cond b (v ∷ pointers_among rest) (pointers_among rest))
pops_by true r v rest h = ap (λ l. Op.Pop r ∷ l) (h (r + 1))
pops_by false r v rest h = h r

pub pops_are : (vs : List Variable) (r : ℕ) → pops r (slots_of vs) ≡ pop_all r (pointers_among vs)
pops_are [] r = refl
pops_are (x ∷ rest) r = pops_by x.is_pointer r x.value rest (λ r. pops_are rest r)

pointers_by : (b : Bool) (v : ℤ) (xs ys zs : List ℤ) → xs ≡ ys ++ zs → cond b (v ∷ xs) xs ≡ cond b (v ∷ ys) ys ++ zs
pointers_by true v xs ys zs h = ap (λ l. v ∷ l) h
pointers_by false v xs ys zs h = h

pub pointers_append : (vs ws : List Variable) → pointers_among (vs ++ ws) ≡ pointers_among vs ++ pointers_among ws
pointers_append [] ws = refl
pointers_append (x ∷ rest) ws = pointers_by x.is_pointer x.value _ _ _ (pointers_append rest ws)

ints_by : (b : Bool) (v : ℤ) (xs ys zs : List ℤ) → xs ≡ ys ++ zs → cond b xs (v ∷ xs) ≡ cond b ys (v ∷ ys) ++ zs
ints_by true v xs ys zs h = h
ints_by false v xs ys zs h = ap (λ l. v ∷ l) h

pub ints_append : (vs ws : List Variable) → int_values (vs ++ ws) ≡ int_values vs ++ int_values ws
ints_append [] ws = refl
ints_append (x ∷ rest) ws = ints_by x.is_pointer x.value _ _ _ (ints_append rest ws)

drop_map : (n : ℕ) (vs : List Variable) → drop n (slots_of vs) ≡ slots_of (drop n vs)
drop_map zero vs = refl
drop_map (suc n) [] = refl
drop_map (suc n) (x ∷ vs) = drop_map n vs

pops_length : (L : List ℤ) (r : ℕ) → length (pop_all r L) ≡ length L
pops_length [] r = refl
pops_length (v ∷ L) r = ap suc (pops_length L (r + 1))

module _ (z : Standing) where
  -- variables that end are still in their registers
  pub loosen_variables : (scope : List Slot) (n : ℕ) (X : List ℤ) (ints refs : ℕ → ℤ) (s : State) → Agree z [] scope X ints refs s → Agree z [] (take n scope) (pointers_among (drop n s.frame.variables) ++ X) ints refs (without_variables n s)
  loosen_variables scope n X ints refs s a =
      let V = s.frame.variables in
      let whole : V ≡ take n V ++ drop n V = sym (take-append-drop n V) in
      let P : pointers_among V ≡ pointers_among (take n V) ++ pointers_among (drop n V) = ap pointers_among whole ∙ pointers_append (take n V) (drop n V) in
      let I : int_values V ≡ int_values (take n V) ++ int_values (drop n V) = ap int_values whole ∙ ints_append (take n V) (drop n V) in
      let shape : slots_of (take n V) ≡ take n scope = sym (take-map slot_in n V) ∙ ap (take n) a.shape in
      let count : length (int_values (take n V)) ≡ int_count (take n scope) = ints_length (take n V) ∙ ap int_count shape in
      let more : int_count scope ≡ int_count (take n scope) + length (int_values (drop n V)) =
      sym (ap int_count a.shape) ∙ sym (ints_length V) ∙ ap length I ∙ length-append (int_values (take n V)) (int_values (drop n V)) ∙ ap (λ k. k + length (int_values (drop n V))) count in
      record {
        callers = a.callers;
        temporaries = a.temporaries;
        shape = shape;
        ints = λ k lt. a.ints k (omega (arith, more)) ∙ ap (λ l. get_or l k (pos 0)) I ∙ get_or_append_left (int_values (take n V)) (int_values (drop n V)) (pos 0) k (omega (arith, count));
        refs = bank_is refs _ _ (ap (λ l. below z.callers ++ (l ++ X)) P ∙ ap (λ l. below z.callers ++ l) (append_assoc (pointers_among (take n V)) (pointers_among (drop n V)) X)) a.refs;
      }

  -- the variables after the first n end, and what is loose after them stays
  pub block_ends : {A : Type 0} (scope : List Slot) (n : ℕ) (Z X : List ℤ) (pc c : ℕ) (x : A) (ints refs : ℕ → ℤ) (s : State) (k : A → State → Fin) → AllNull Z → HasAt z.flat.lines pc (ends_from scope n) → Agree z [] scope (Z ++ X) ints refs s
      → ((refs' : ℕ → ℤ) (N : List ℤ) → AllNull N → ref_count (take n scope) + length N ≡ ref_count scope + length Z → Agree z [] (take n scope) (N ++ X) ints refs' (without_variables n s)
      → Same z.flat s.fuel (c + ref_count (take n scope)) (k x (without_variables n s)) s.answers (place z (pc + length (ends_from scope n)) ints refs' (without_variables n s)))
      → Same z.flat s.fuel (c + ref_count scope) (k x (without_variables n s)) s.answers (place z pc ints refs s)
  block_ends scope n Z X pc c x ints refs s k nz has a rest =
      let V = s.frame.variables in
      let L = pointers_among (drop n V) in
      let u0 = without_variables n s in
      let a1 : Agree z [] (take n scope) (L ++ (Z ++ X)) ints refs u0 = loosen_variables scope n (Z ++ X) ints refs s a in
      let s0 : State = record u0 { given_up = s.given_up } in
      let a2 : Agree z [] (take n scope) ([] ++ (L ++ (Z ++ X))) ints refs s0 = same_frame z [] (take n scope) (L ++ (Z ++ X)) ints refs u0 s0 refl refl a1 in
      let r = ref_count (take n scope) in
      let slots : drop n scope ≡ slots_of (drop n V) = ap (drop n) (sym a.shape) ∙ drop_map n V in
      let code : ends_from scope n ≡ pop_all r L = ap (pops r) slots ∙ pops_are (drop n V) r in
      let len : length (ends_from scope n) ≡ length L = ap length code ∙ pops_length L r in
      let P : length (pointers_among V) ≡ length (pointers_among (take n V)) + length L = ap length (ap pointers_among (sym (take-append-drop n V)) ∙ pointers_append (take n V) (drop n V)) ∙ length-append (pointers_among (take n V)) L in
      let whole : ref_count scope ≡ r + length L = sym (ap ref_count a.shape) ∙ sym (refs_length V) ∙ P ∙ ap (λ q. q + length L) (refs_length (take n V) ∙ ap ref_count a1.shape) in
      let credit : c + r + length L ≡ c + ref_count scope = omega (arith, whole) in
      let r0 : r ≡ r + 0 + 0 = omega arith in
      subst (λ q. Same z.flat s.fuel q (k x u0) s.answers (place z pc ints refs s)) credit
      (popping_under z (take n scope) L [] (Z ++ X) [] r pc (c + r) ints refs s0 (k x u0) (λ j. refl) r0 (subst (HasAt z.flat.lines pc) code has) a2
      (λ refs' N nn ln a3.
      let e : N ++ (Z ++ X) ≡ (N ++ Z) ++ X = sym (append_assoc N Z X) in
      let a4 : Agree z [] (take n scope) ((N ++ Z) ++ X) ints refs' u0 = subst (λ l. Agree z [] (take n scope) l ints refs' u0) e (same_frame z [] (take n scope) (N ++ (Z ++ X)) ints refs' _ u0 refl refl a3) in
      subst (λ q. Same z.flat s.fuel (c + r) (k x u0) s.answers (place z (pc + q) ints refs' u0)) len
      (rest refs' (N ++ Z) (λ j. null_behind N Z j nz ∙ nn j) (omega (arith, whole, ln, length-append N Z)) a4)))
