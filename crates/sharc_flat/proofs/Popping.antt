-- References are given up in the order in which they lie.
use Rattle.sharc_flat.proofs.{Imports.{◌≡◌, ℕ, zero, suc, ◌+◌, List, [], ◌∷◌, ◌++◌, length, get_or, refl, sym, ap, ◌∙◌, subst, arith, append_assoc, length-append, append-nil, ℤ, pos, Released, number_of, State, pointers_among, all_released, Op, Spot, put, ref_count, Slot}, Banks.{bank_is, bank_put}, Runs.{HasAt, Fin, Same, weaken, step}, Agreeing.{Standing, place, Agree, below, stack_length, last_is, same_frame}, Values.given_place}

abbrev pub AllNull : List ℤ → Type 0
AllNull xs = (k : ℕ) → get_or xs k (pos 0) ≡ pos 0

pub null_more : (xs : List ℤ) → AllNull xs → AllNull (xs ++ pos 0 ∷ [])
null_more [] h zero = refl
null_more [] h (suc k) = refl
null_more (x ∷ xs) h zero = h 0
null_more (x ∷ xs) h (suc k) = null_more xs (λ j. h (suc j)) k

pub null_behind : (xs ys : List ℤ) (k : ℕ) → AllNull ys → get_or (xs ++ ys) k (pos 0) ≡ get_or xs k (pos 0)
null_behind [] ys k h = h k
null_behind (x ∷ xs) ys zero h = refl
null_behind (x ∷ xs) ys (suc k) h = null_behind xs ys k h

abbrev pub pop_all : ℕ → List ℤ → List Op
pop_all r [] = []
pop_all r (v ∷ vs) = Op.Pop r ∷ pop_all (r + 1) vs

module _ (z : Standing) (scope : List Slot) where
  -- nothing but NULL comes after
  pub none_behind : (T L : List ℤ) (ints refs : ℕ → ℤ) (s : State) → AllNull L → Agree z T scope L ints refs s → Agree z T scope [] ints refs s
  none_behind T L ints refs s h a =
      let P = pointers_among s.frame.variables in
      let B = below z.callers in
      let e : B ++ (P ++ (T ++ L)) ≡ (B ++ (P ++ (T ++ []))) ++ L =
      sym (append_assoc B (P ++ (T ++ [])) L ∙ ap (λ l. B ++ l) (append_assoc P (T ++ []) L ∙ ap (λ l. P ++ l) (ap (λ t. t ++ L) (append-nil T)))) in
      record {
        callers = a.callers;
        temporaries = a.temporaries;
        shape = a.shape;
        ints = a.ints;
        refs = λ k. a.refs k ∙ ap (λ l. get_or l k (pos 0)) e ∙ null_behind (B ++ (P ++ (T ++ []))) L k h;
      }

  replaced : (T Z : List ℤ) (v : ℤ) (L : List ℤ) (n : ℕ) (ints refs : ℕ → ℤ) (s : State) → n ≡ ref_count scope + length T + length Z → Agree z T scope (Z ++ v ∷ L) ints refs s → Agree z T scope ((Z ++ pos 0 ∷ []) ++ L) ints (put refs (z.refs + n) (pos 0)) s
  replaced T Z v L n ints refs s e a =
      let P = pointers_among s.frame.variables in
      let B = below z.callers in
      let at : (w : ℤ) → B ++ (P ++ (T ++ (Z ++ w ∷ L))) ≡ (B ++ (P ++ (T ++ Z))) ++ w ∷ L =
      λ w. sym (append_assoc B (P ++ (T ++ Z)) (w ∷ L) ∙ ap (λ l. B ++ l) (append_assoc P (T ++ Z) (w ∷ L) ∙ ap (λ l. P ++ l) (append_assoc T Z (w ∷ L)))) in
      let here : z.refs + n ≡ length (B ++ (P ++ (T ++ Z))) = ap (λ k. z.refs + k) e ∙ sym (stack_length z T scope s.frame.variables Z a.shape) in
      record {
        callers = a.callers;
        temporaries = a.temporaries;
        shape = a.shape;
        ints = a.ints;
        refs = bank_is _ _ _ (sym (at (pos 0)) ∙ ap (λ l. B ++ (P ++ (T ++ l))) (sym (append_assoc Z (pos 0 ∷ []) L))) (bank_put refs (B ++ (P ++ (T ++ Z))) v (pos 0) L (z.refs + n) here (bank_is refs _ _ (at v) a.refs));
      }

  -- nothing but NULL is at the end
  pub trailing : (T L N : List ℤ) (ints refs : ℕ → ℤ) (s : State) → AllNull N → Agree z T scope (L ++ N) ints refs s → Agree z T scope L ints refs s
  trailing T L N ints refs s h a =
      let P = pointers_among s.frame.variables in
      let B = below z.callers in
      let e : B ++ (P ++ (T ++ (L ++ N))) ≡ (B ++ (P ++ (T ++ L))) ++ N =
      sym (append_assoc B (P ++ (T ++ L)) N ∙ ap (λ l. B ++ l) (append_assoc P (T ++ L) N ∙ ap (λ l. P ++ l) (append_assoc T L N))) in
      record {
        callers = a.callers;
        temporaries = a.temporaries;
        shape = a.shape;
        ints = a.ints;
        refs = λ k. a.refs k ∙ ap (λ l. get_or l k (pos 0)) e ∙ null_behind (B ++ (P ++ (T ++ L))) N k h;
      }

  -- where the first of what is loose is given up, and others stay after it
  abbrev pub PoppedUnder : List ℤ → List ℤ → List ℤ → List ℤ → ℕ → ℕ → (ℕ → ℤ) → State → Fin → Type 0
  PoppedUnder L Z X T pc c ints s fin = (refs' : ℕ → ℤ) (N : List ℤ) → AllNull N → length N ≡ length Z + length L → (let u = record s { given_up = s.given_up ++ all_released L } in Agree z T scope (N ++ X) ints refs' u → Same z.flat s.fuel c fin s.answers (place z (pc + length L) ints refs' u))

  pub popping_under : (L Z X T : List ℤ) (r pc c : ℕ) (ints refs : ℕ → ℤ) (s : State) (fin : Fin) → AllNull Z → r ≡ ref_count scope + length T + length Z → HasAt z.flat.lines pc (pop_all r L) → Agree z T scope (Z ++ (L ++ X)) ints refs s
      → PoppedUnder L Z X T pc c ints s fin → Same z.flat s.fuel (c + length L) fin s.answers (place z pc ints refs s)
  popping_under [] Z X T r pc c ints refs s fin h e has a rest =
      let u : State = record s { given_up = s.given_up ++ [] } in
      let a1 : Agree z T scope (Z ++ X) ints refs u = same_frame z T scope (Z ++ X) ints refs s u refl refl a in
      let p : pc + 0 ≡ pc = omega arith in
      weaken z.flat s.fuel c (c + 0) fin s.answers _ (omega arith)
      (subst (λ w. Same z.flat s.fuel c fin s.answers w) (sym (given_place z pc ints refs u s.given_up (append-nil s.given_up))) (subst (λ q. Same z.flat s.fuel c fin s.answers (place z q ints refs u)) p (rest refs Z h (omega arith) a1)))
  popping_under (v ∷ L) Z X T r pc c ints refs s fin h e has a rest =
      let refs1 = put refs (z.refs + r) (pos 0) in
      let s1 : State = record s { given_up = s.given_up ++ Released (number_of v) ∷ [] } in
      let v_is : refs (z.refs + r) ≡ v = last_is z T scope Z v (L ++ X) r ints refs s e a in
      let a1 : Agree z T scope ((Z ++ pos 0 ∷ []) ++ (L ++ X)) ints refs1 s1 = same_frame z T scope ((Z ++ pos 0 ∷ []) ++ (L ++ X)) ints refs1 s s1 refl refl (replaced T Z v (L ++ X) r ints refs s e a) in
      let e1 : r + 1 ≡ ref_count scope + length T + length (Z ++ pos 0 ∷ []) = omega (arith, length-append Z (pos 0 ∷ [])) in
      let more : c + length L + 1 ≡ c + length (v ∷ L) = omega arith in
      let end : pc + length (v ∷ L) ≡ pc + 1 + length L = omega arith in
      let gs : s.given_up ++ all_released (v ∷ L) ≡ s1.given_up ++ all_released L = sym (append_assoc s.given_up (Released (number_of v) ∷ []) (all_released L)) in
      subst (λ q. Same z.flat s.fuel q fin s.answers (place z pc ints refs s)) more
      (step z.flat (Op.Pop r) s.fuel (c + length L) fin s.answers (place z pc ints refs s) _ has.0 refl
      (subst (λ w. Same z.flat s.fuel (c + length L) fin s.answers (record (place z (pc + 1) ints refs1 s) { given = s.given_up ++ Released (number_of w) ∷ [] })) (sym v_is)
      (popping_under L (Z ++ pos 0 ∷ []) X T (r + 1) (pc + 1) c ints refs1 s1 fin (null_more Z h) e1 has.1 a1
      (λ refs' N null len a2.
      let u : State = record s { given_up = s.given_up ++ all_released (v ∷ L) } in
      let u1 : State = record s1 { given_up = s1.given_up ++ all_released L } in
      let a3 : Agree z T scope (N ++ X) ints refs' u = same_frame z T scope (N ++ X) ints refs' u1 u refl refl a2 in
      let len1 : length N ≡ length Z + length (v ∷ L) = omega (arith, len, length-append Z (pos 0 ∷ [])) in
      subst (λ g. Same z.flat s.fuel c fin s.answers (record (place z (pc + 1 + length L) ints refs' s) { given = g })) gs
      (subst (λ q. Same z.flat s.fuel c fin s.answers (place z q ints refs' u)) end (rest refs' N null len1 a3))))))

  pub popping : (L T : List ℤ) (r pc c : ℕ) (ints refs : ℕ → ℤ) (s : State) (fin : Fin) → r ≡ ref_count scope + length T → HasAt z.flat.lines pc (pop_all r L) → Agree z T scope L ints refs s
      → ((refs' : ℕ → ℤ) → (let u = record s { given_up = s.given_up ++ all_released L } in Agree z T scope [] ints refs' u → Same z.flat s.fuel c fin s.answers (place z (pc + length L) ints refs' u)))
      → Same z.flat s.fuel (c + length L) fin s.answers (place z pc ints refs s)
  popping L T r pc c ints refs s fin e has a rest =
      popping_under L [] [] T r pc c ints refs s fin (λ k. refl) (omega arith) has (subst (λ l. Agree z T scope l ints refs s) (sym (append-nil L)) a)
      (λ refs' N null len a1. rest refs' (none_behind T (N ++ []) ints refs' _ (λ k. ap (λ l. get_or l k (pos 0)) (append-nil N) ∙ null k) a1))
