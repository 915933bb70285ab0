-- Comparisons of references.
use Rattle.sharc_flat.proofs.{Imports.{◌≡◌, ℕ, ◌+◌, ◌<◌, ◌≤◌, Bool, true, false, cond, List, [], ◌∷◌, ◌++◌, length, refl, sym, ap, ◌∙◌, subst, arith, append_assoc, length-append, append-nil, ℤ, not, Result, Ok, Site, Trap, Expression, Kind, Assignment, State, Run, ◌>>=◌, ◌>>◌, give, is_reference, all_released, temporarily, done, holds_reference, with_temporary, holds, is_zero, is_equal, truth, resulting, operand, Op, Spot, put, int_count, ref_count, Slot, kind_at}, Banks.{put_same, put_other}, Runs.{HasAt, has_front, has_back, Fin, fin_then, Same, weaken, step, bind, without}, Agreeing.{Standing, place, Agree, last_is, hold, with_int, same_frame, loose_of}, Values.{loosen, released, given_place, int_valued, RunsAs, temporarily_runs}, Popping.{popping, pop_all}, Computing.truth_same, Testing.zero_of}
use Rattle.sharc_code.specs.Arithmetic as code

module _ (m : Assignment) (z : Standing) (scope : List Slot) where
  -- the temporaries of a run end, in the order of their registers
  pub all_end : (T L : List ℤ) (r pc c : ℕ) (ints refs : ℕ → ℤ) (s : State) (fin : Fin) → r ≡ ref_count scope + length T → HasAt z.flat.lines pc (pop_all r L) → Agree z (T ++ L) scope [] ints refs s
      → ((refs' : ℕ → ℤ) → Agree z T scope [] ints refs' (without (length T) s) → Same z.flat s.fuel c fin s.answers (place z (pc + length L) ints refs' (without (length T) s)))
      → Same z.flat s.fuel (c + length L) fin s.answers (place z pc ints refs s)
  all_end T L r pc c ints refs s fin re has a rest =
      let s0 : State = record (without (length T) s) { given_up = s.given_up } in
      let a1 : Agree z T scope (L ++ []) ints refs (without (length T) s) = loosen z T scope L [] ints refs s a in
      let a2 : Agree z T scope L ints refs s0 = subst (λ l. Agree z T scope l ints refs s0) (append-nil L) (same_frame z T scope (L ++ []) ints refs (without (length T) s) s0 refl refl a1) in
      let is : (without (length T) s).given_up ≡ s.given_up ++ all_released L = released z T scope L [] ints refs s a in
      popping z scope L T r pc c ints refs s0 fin re has a2
      (λ refs' a3.
      let u : State = record s0 { given_up = s0.given_up ++ all_released L } in
      subst (λ w. Same z.flat s.fuel c fin s.answers w) (sym (given_place z (pc + length L) ints refs' (without (length T) s) (s.given_up ++ all_released L) is))
      (rest refs' (same_frame z T scope [] ints refs' u (without (length T) s) refl refl a3)))

  differ_by : (b t : Bool) (T : List ℤ) (i pc c : ℕ) (ints refs : ℕ → ℤ) (s : State) (fin : Fin) → int_count scope ≤ i → HasAt z.flat.lines pc (cond b (Op.IsFalse i i ∷ []) []) → Agree z T scope [] ints refs s → ints (z.ints + i) ≡ code.truth t
      → ((ints' : ℕ → ℤ) → Agree z T scope [] ints' refs s → ((n : ℕ) → n < z.ints + i → ints' n ≡ ints n) → ints' (z.ints + i) ≡ truth (cond b (not t) t) → Same z.flat s.fuel c fin s.answers (place z (pc + length (cond b (Op.IsFalse i i ∷ []) [])) ints' refs s))
      → Same z.flat s.fuel (c + 1) fin s.answers (place z pc ints refs s)
  differ_by true t T i pc c ints refs s fin le has a e rest =
      let t1 = code.truth (is_zero (ints (z.ints + i))) in
      let ints1 = put ints (z.ints + i) t1 in
      step z.flat (Op.IsFalse i i) s.fuel c fin s.answers (place z pc ints refs s) (place z (pc + 1) ints1 refs s) has.0 refl
      (rest ints1 (with_int z T scope [] i t1 ints refs s le a) (λ n lt. put_other ints (z.ints + i) _ n (λ q. omega arith)) (put_same ints (z.ints + i) t1 ∙ ap (λ x. code.truth (is_zero x)) e ∙ ap code.truth (zero_of t) ∙ truth_same (not t)))
  differ_by false t T i pc c ints refs s fin le has a e rest =
      let q0 : pc + 0 ≡ pc = omega arith in
      weaken z.flat s.fuel c (c + 1) fin s.answers _ (omega arith)
      (subst (λ q. Same z.flat s.fuel c fin s.answers (place z q ints refs s)) q0 (rest ints a (λ n lt. refl) (e ∙ truth_same t)))

  -- two references, which are given up after the comparison
  pub compare_runs : (b : Bool) (ka kb kind : Kind) (ea eb : Expression) (site : Site) (f : ℤ → ℤ → Result ℤ Trap) (of_a of_b : Run ℤ) (ca cb : ℕ → ℕ → List Op) → ((x y : ℤ) → f x y ≡ Ok (truth (cond b (not (is_equal x y)) (is_equal x y))))
      → ka ≡ kind_at m.typed ea → kb ≡ kind_at m.typed eb → is_reference ka ≡ true → is_reference kb ≡ true → is_reference kind ≡ false → RunsAs m z scope ka 0 of_a ca → RunsAs m z scope kb 0 of_b cb
      → RunsAs m z scope kind 0 (temporarily (operand m.typed ea of_a >>= λ x. operand m.typed eb of_b >>= λ y. resulting site (f x y)))
      (λ i r. ca i r ++ (cb i (r + 1) ++ (Op.SameReference i r (r + 1) ∷ (cond b (Op.IsFalse i i ∷ []) [] ++ (Op.Pop r ∷ Op.Pop (r + 1) ∷ [])))))
  compare_runs b ka kb kind xa xb site f of_a of_b ca cb f_is ia ib ra rb er runs_a runs_b T i r pc c ints refs s k has le re a rest =
      let C = ca i r in
      let B = cb i (r + 1) in
      let D = cond b (Op.IsFalse i i ∷ []) [] in
      let pops = Op.Pop r ∷ Op.Pop (r + 1) ∷ [] in
      let tail = Op.SameReference i r (r + 1) ∷ (D ++ pops) in
      let end : pc + length C + length B + 1 + length D + 2 ≡ pc + length (C ++ (B ++ tail)) = omega (arith, length-append C (B ++ tail), length-append B tail, length-append D pops) in
      let has_b = has_back z.flat.lines pc C (B ++ tail) has in
      let has_t = has_back z.flat.lines (pc + length C) B tail has_b in
      let K : ℤ → State → Fin = λ v u. k v (without (length T) u) in
      let ea : is_reference (kind_at m.typed xa) ≡ true = ap is_reference (sym ia) ∙ ra in
      let eb : is_reference (kind_at m.typed xb) ≡ true = ap is_reference (sym ib) ∙ rb in
      let run = operand m.typed xa of_a >>= λ x. operand m.typed xb of_b >>= λ y. resulting site (f x y) in
      temporarily_runs m z scope T s.fuel (c + 0) s.answers run s k (place z pc ints refs s) a.temporaries
      (bind z.flat s.fuel (c + 0) s.answers (operand m.typed xa of_a s) (λ x. operand m.typed xb of_b >>= λ y. resulting site (f x y)) K (place z pc ints refs s)
      (bind z.flat s.fuel (c + 0) s.answers (of_a s) (λ v. holds (kind_at m.typed xa) v >> give v) (λ x u. fin_then ((operand m.typed xb of_b >>= λ y. resulting site (f x y)) u) K) (place z pc ints refs s)
      (runs_a T i r pc c ints refs s _ (has_front z.flat.lines pc C (B ++ tail) has) le re a (λ x ints1 refs1 s1 w1.
      let a1 : Agree z T scope (x ∷ []) ints1 refs1 s1 = subst (λ b. Agree z T scope (loose_of b x) ints1 refs1 s1) ra w1.agree in
      let s1h : State = record s1 { frame = with_temporary x s1.frame } in
      let T1 = T ++ x ∷ [] in
      let a1h : Agree z T1 scope [] ints1 refs1 s1h = hold z T scope x ints1 refs1 s1 a1 in
      let r1 : r + 1 ≡ ref_count scope + length (T ++ x ∷ []) = omega (arith, length-append T (x ∷ [])) in
      let pc1 = pc + length C in
      subst (λ b. Same z.flat s1.fuel (c + 6) (fin_then ((cond b (holds_reference x) done >> give x) s1) (λ x u. fin_then ((operand m.typed xb of_b >>= λ y. resulting site (f x y)) u) K)) s1.answers (place z pc1 ints1 refs1 s1)) (sym ea)
      (bind z.flat s1.fuel (c + 6) s1.answers (operand m.typed xb of_b s1h) (λ y. resulting site (f x y)) K (place z pc1 ints1 refs1 s1)
      (bind z.flat s1.fuel (c + 6) s1.answers (of_b s1h) (λ v. holds (kind_at m.typed xb) v >> give v) (λ y u. fin_then (resulting site (f x y) u) K) (place z pc1 ints1 refs1 s1)
      (weaken z.flat s1.fuel (c + 4 + 0) (c + 6) _ s1.answers _ (omega arith)
      (runs_b T1 i (r + 1) pc1 (c + 4) ints1 refs1 s1h _ (has_front z.flat.lines pc1 B tail has_b) le r1 a1h (λ y ints2 refs2 s2 w2.
      let a2 : Agree z T1 scope (y ∷ []) ints2 refs2 s2 = subst (λ b. Agree z T1 scope (loose_of b y) ints2 refs2 s2) rb w2.agree in
      let u : State = record s2 { frame = with_temporary y s2.frame } in
      let a2h : Agree z (T1 ++ y ∷ []) scope [] ints2 refs2 u = hold z T1 scope y ints2 refs2 s2 a2 in
      let a3 : Agree z (T ++ x ∷ y ∷ []) scope [] ints2 refs2 u = subst (λ t. Agree z t scope [] ints2 refs2 u) (append_assoc T (x ∷ []) (y ∷ [])) a2h in
      let L = x ∷ y ∷ [] in
      let al : Agree z T scope L ints2 refs2 (without (length T) u) = loosen z T scope L [] ints2 refs2 u a3 in
      let pc2 = pc1 + length B in
      let r0 : r ≡ ref_count scope + length T + 0 = omega arith in
      let r2 : r + 1 ≡ ref_count scope + length T + length (x ∷ []) = omega arith in
      let x_is : refs2 (z.refs + r) ≡ x = last_is z T scope [] x (y ∷ []) r ints2 refs2 (without (length T) u) r0 al in
      let y_is : refs2 (z.refs + (r + 1)) ≡ y = last_is z T scope (x ∷ []) y [] (r + 1) ints2 refs2 (without (length T) u) r2 al in
      let t3 = code.truth (is_equal (refs2 (z.refs + r)) (refs2 (z.refs + (r + 1)))) in
      let ints3 = put ints2 (z.ints + i) t3 in
      let a4 : Agree z (T ++ L) scope [] ints3 refs2 u = with_int z (T ++ L) scope [] i t3 ints2 refs2 u le a3 in
      let e3 : ints3 (z.ints + i) ≡ code.truth (is_equal x y) = put_same ints2 (z.ints + i) t3 ∙ ap (λ q. code.truth (is_equal q (refs2 (z.refs + (r + 1))))) x_is ∙ ap (λ q. code.truth (is_equal x q)) y_is in
      let v = truth (cond b (not (is_equal x y)) (is_equal x y)) in
      let fin = k v (without (length T) u) in
      let has_d = has_t.1 in
      let four : c + 6 + 2 + 1 + 1 ≡ c + 4 + 6 = omega arith in
      subst (λ b. Same z.flat s2.fuel (c + 4 + 6) (fin_then ((cond b (holds_reference y) done >> give y) s2) (λ y u. fin_then (resulting site (f x y) u) K)) s2.answers (place z pc2 ints2 refs2 s2)) (sym eb)
      (subst (λ q. Same z.flat s2.fuel (c + 4 + 6) (fin_then (resulting site q u) K) s2.answers (place z pc2 ints2 refs2 u)) (sym (f_is x y))
      (subst (λ q. Same z.flat s2.fuel q fin s2.answers (place z pc2 ints2 refs2 u)) four
      (step z.flat (Op.SameReference i r (r + 1)) s2.fuel (c + 6 + 2 + 1) fin s2.answers (place z pc2 ints2 refs2 u) (place z (pc2 + 1) ints3 refs2 u) has_t.0 refl
      (differ_by b (is_equal x y) (T ++ L) i (pc2 + 1) (c + 6 + 2) ints3 refs2 u fin le (has_front z.flat.lines (pc2 + 1) D pops has_d) a4 e3 (λ ints4 a5 kept4 e4.
      all_end T L r (pc2 + 1 + length D) (c + 6) ints4 refs2 u fin re (has_back z.flat.lines (pc2 + 1) D pops has_d) a5 (λ refs5 a6.
      subst (λ q. Same z.flat s2.fuel (c + 6) fin s2.answers (place z q ints4 refs5 (without (length T) u))) (sym end)
      (rest v ints4 refs5 (without (length T) u) (int_valued m z scope kind T i v ints ints4 refs5 (without (length T) u) er a6
      (λ n lt. kept4 n lt ∙ put_other ints2 (z.ints + i) _ n (λ q. omega arith) ∙ w2.kept n lt ∙ w1.kept n lt) e4)))))))))))))))))
