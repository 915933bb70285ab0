-- The operators that look at the right operand only where the left one does not decide.
use Rattle.sharc_flat.proofs.{Imports.{◌≡◌, ℕ, ◌+◌, ◌<◌, ◌≤◌, Bool, true, false, cond, List, [], ◌∷◌, ◌++◌, length, Some, refl, sym, ap, ◌∙◌, subst, arith, length-append, ℤ, slice_get, not, Kind, Assignment, State, Run, ◌>>=◌, give, is_reference, is_zero, truth, Op, goes, put, on, over_lines, int_count, ref_count, Slot}, Banks.{put_same, put_other}, Runs.{HasAt, has_front, has_back, Fin, fin_then, Same, weaken, step, bind}, Agreeing.{Standing, place, Agree, with_int, Rest}, Values.{int_valued, RunsAs}, Computing.truth_same, Testing.{TestAs, not_not, zero_of}}
use Rattle.sharc_code.specs.Arithmetic as code

module _ (m : Assignment) (z : Standing) (scope : List Slot) where
  -- a register of a test becomes the truth value
  told_once : (b : Bool) (kind : Kind) (T : List ℤ) (i pc c : ℕ) (ints0 ints refs : ℕ → ℤ) (s : State) (k : ℤ → State → Fin) → is_reference kind ≡ false → int_count scope ≤ i → slice_get z.flat.lines pc ≡ Some (Op.IsFalse i i) → Agree z T scope [] ints refs s
      → ((n : ℕ) → n < z.ints + i → ints n ≡ ints0 n) → is_zero (ints (z.ints + i)) ≡ b → Rest z kind T scope i (pc + 1) (c + 6) ints0 k → Same z.flat s.fuel (c + 6 + 1) (k (truth b) s) s.answers (place z pc ints refs s)
  told_once b kind T i pc c ints0 ints refs s k er le at a kept e rest =
      let t1 = code.truth (is_zero (ints (z.ints + i))) in
      let ints1 = put ints (z.ints + i) t1 in
      let a1 : Agree z T scope [] ints1 refs s = with_int z T scope [] i t1 ints refs s le a in
      step z.flat (Op.IsFalse i i) s.fuel (c + 6) (k (truth b) s) s.answers (place z pc ints refs s) (place z (pc + 1) ints1 refs s) at refl
      (rest (truth b) ints1 refs s (int_valued m z scope kind T i (truth b) ints0 ints1 refs s er a1 (λ n lt. put_other ints (z.ints + i) _ n (λ q. omega arith) ∙ kept n lt)
      (put_same ints (z.ints + i) t1 ∙ ap code.truth e ∙ truth_same b)))

  told : (b : Bool) (kind : Kind) (T : List ℤ) (i pc c : ℕ) (ints0 ints refs : ℕ → ℤ) (s : State) (k : ℤ → State → Fin) → is_reference kind ≡ false → int_count scope ≤ i → HasAt z.flat.lines pc (Op.IsFalse i i ∷ Op.IsFalse i i ∷ []) → Agree z T scope [] ints refs s
      → ((n : ℕ) → n < z.ints + i → ints n ≡ ints0 n) → is_zero (ints (z.ints + i)) ≡ not b → Rest z kind T scope i (pc + 1 + 1) (c + 6) ints0 k → Same z.flat s.fuel (c + 6 + 1 + 1) (k (truth b) s) s.answers (place z pc ints refs s)
  told b kind T i pc c ints0 ints refs s k er le has a kept e rest =
      let t1 = code.truth (is_zero (ints (z.ints + i))) in
      let ints1 = put ints (z.ints + i) t1 in
      let a1 : Agree z T scope [] ints1 refs s = with_int z T scope [] i t1 ints refs s le a in
      step z.flat (Op.IsFalse i i) s.fuel (c + 6 + 1) (k (truth b) s) s.answers (place z pc ints refs s) (place z (pc + 1) ints1 refs s) has.0 refl
      (told_once b kind T i (pc + 1) c ints0 ints1 refs s k er le has.1.0 a1 (λ n lt. put_other ints (z.ints + i) _ n (λ q. omega arith) ∙ kept n lt)
      (ap is_zero (put_same ints (z.ints + i) t1) ∙ zero_of (is_zero (ints (z.ints + i))) ∙ ap not e ∙ not_not b) rest)

  -- ---- `&&`
  and_by : (left : Bool) (kind : Kind) (of_b : Run Bool) (cb : ℕ → ℕ → List Op) (T : List ℤ) (i r pc c : ℕ) (ints0 ints refs : ℕ → ℤ) (s : State) (k : ℤ → State → Fin) → is_reference kind ≡ false → TestAs m z scope of_b cb
      → HasAt z.flat.lines pc (Op.SkipIfZero i (length (cb i r)) ∷ (cb i r ++ (Op.IsFalse i i ∷ Op.IsFalse i i ∷ []))) → int_count scope ≤ i → r ≡ ref_count scope + length T → Agree z T scope [] ints refs s
      → ((n : ℕ) → n < z.ints + i → ints n ≡ ints0 n) → is_zero (ints (z.ints + i)) ≡ not left → Rest z kind T scope i (pc + 1 + length (cb i r) + 1 + 1) (c + 6) ints0 k
      → Same z.flat s.fuel (c + 7 + 2) (fin_then ((cond left of_b (give false) >>= λ right. give (truth right)) s) k) s.answers (place z pc ints refs s)
  and_by true kind of_b cb T i r pc c ints0 ints refs s k er runs_b has le re a kept e rest =
      let B = cb i r in
      let tail = Op.IsFalse i i ∷ Op.IsFalse i i ∷ [] in
      let m0 = place z pc ints refs s in
      let m1 = place z (pc + 1) ints refs s in
      let fin = fin_then ((of_b >>= λ right. give (truth right)) s) k in
      weaken z.flat s.fuel (c + 6 + 1) (c + 7 + 2) fin s.answers m0 (omega arith)
      (step z.flat (Op.SkipIfZero i (length B)) s.fuel (c + 6) fin s.answers m0 m1 has.0 (ap (λ b. goes (cond b (over_lines (length B) m0) (on m0))) e)
      (bind z.flat s.fuel (c + 6) s.answers (of_b s) (λ right. give (truth right)) k m1
      (runs_b T i r (pc + 1) (c + 6) ints refs s (λ right u. k (truth right) u) (has_front z.flat.lines (pc + 1) B tail has.1) le re a (λ right ints1 refs1 s1 a1 kept1 e1.
      weaken z.flat s1.fuel (c + 6 + 1 + 1) (c + 6 + 2) (k (truth right) s1) s1.answers _ (omega arith)
      (told right kind T i (pc + 1 + length B) c ints0 ints1 refs1 s1 k er le (has_back z.flat.lines (pc + 1) B tail has.1) a1 (λ n lt. kept1 n lt ∙ kept n lt) e1 rest)))))
  and_by false kind of_b cb T i r pc c ints0 ints refs s k er runs_b has le re a kept e rest =
      let B = cb i r in
      let tail = Op.IsFalse i i ∷ Op.IsFalse i i ∷ [] in
      let m0 = place z pc ints refs s in
      let m1 = place z (pc + 1 + length B) ints refs s in
      let fin = k (truth false) s in
      weaken z.flat s.fuel (c + 6 + 1 + 1 + 1) (c + 7 + 2) fin s.answers m0 (omega arith)
      (step z.flat (Op.SkipIfZero i (length B)) s.fuel (c + 6 + 1 + 1) fin s.answers m0 m1 has.0 (ap (λ b. goes (cond b (over_lines (length B) m0) (on m0))) e)
      (told false kind T i (pc + 1 + length B) c ints0 ints refs s k er le (has_back z.flat.lines (pc + 1) B tail has.1) a kept e rest))

  pub and_runs : (kind : Kind) (of_a of_b : Run Bool) (ca cb : ℕ → ℕ → List Op) → is_reference kind ≡ false → TestAs m z scope of_a ca → TestAs m z scope of_b cb
      → RunsAs m z scope kind 7 (of_a >>= λ left. cond left of_b (give false) >>= λ right. give (truth right)) (λ i r. ca i r ++ (Op.SkipIfZero i (length (cb i r)) ∷ (cb i r ++ (Op.IsFalse i i ∷ Op.IsFalse i i ∷ []))))
  and_runs kind of_a of_b ca cb er runs_a runs_b T i r pc c ints refs s k has le re a rest =
      let A = ca i r in
      let B = cb i r in
      let tail = Op.IsFalse i i ∷ Op.IsFalse i i ∷ [] in
      let behind = Op.SkipIfZero i (length B) ∷ (B ++ tail) in
      let end : pc + length A + 1 + length B + 1 + 1 ≡ pc + length (A ++ behind) = omega (arith, length-append A behind, length-append B tail) in
      bind z.flat s.fuel (c + 7) s.answers (of_a s) (λ left. cond left of_b (give false) >>= λ right. give (truth right)) k (place z pc ints refs s)
      (runs_a T i r pc (c + 7) ints refs s (λ left u. fin_then ((cond left of_b (give false) >>= λ right. give (truth right)) u) k) (has_front z.flat.lines pc A behind has) le re a (λ left ints1 refs1 s1 a1 kept1 e1.
      and_by left kind of_b cb T i r (pc + length A) c ints ints1 refs1 s1 k er runs_b (has_back z.flat.lines pc A behind has) le re a1 kept1 e1 (subst (λ q. Rest z kind T scope i q (c + 6) ints k) (sym end) rest)))

  -- ---- `||`
  or_by : (left : Bool) (kind : Kind) (of_b : Run Bool) (cb : ℕ → ℕ → List Op) (T : List ℤ) (i r pc c : ℕ) (ints0 ints refs : ℕ → ℤ) (s : State) (k : ℤ → State → Fin) → is_reference kind ≡ false → TestAs m z scope of_b cb
      → HasAt z.flat.lines pc (Op.SkipIfZero i (length (cb i r) + 1) ∷ (cb i r ++ (Op.IsFalse i i ∷ Op.IsFalse i i ∷ []))) → int_count scope ≤ i → r ≡ ref_count scope + length T → Agree z T scope [] ints refs s
      → ((n : ℕ) → n < z.ints + i → ints n ≡ ints0 n) → is_zero (ints (z.ints + i)) ≡ left → Rest z kind T scope i (pc + 1 + length (cb i r) + 1 + 1) (c + 6) ints0 k
      → Same z.flat s.fuel (c + 8) (fin_then ((cond left (give true) of_b >>= λ right. give (truth right)) s) k) s.answers (place z pc ints refs s)
  or_by false kind of_b cb T i r pc c ints0 ints refs s k er runs_b has le re a kept e rest =
      let B = cb i r in
      let tail = Op.IsFalse i i ∷ Op.IsFalse i i ∷ [] in
      let m0 = place z pc ints refs s in
      let m1 = place z (pc + 1) ints refs s in
      let fin = fin_then ((of_b >>= λ right. give (truth right)) s) k in
      weaken z.flat s.fuel (c + 6 + 1) (c + 8) fin s.answers m0 (omega arith)
      (step z.flat (Op.SkipIfZero i (length B + 1)) s.fuel (c + 6) fin s.answers m0 m1 has.0 (ap (λ b. goes (cond b (over_lines (length B + 1) m0) (on m0))) e)
      (bind z.flat s.fuel (c + 6) s.answers (of_b s) (λ right. give (truth right)) k m1
      (runs_b T i r (pc + 1) (c + 6) ints refs s (λ right u. k (truth right) u) (has_front z.flat.lines (pc + 1) B tail has.1) le re a (λ right ints1 refs1 s1 a1 kept1 e1.
      weaken z.flat s1.fuel (c + 6 + 1 + 1) (c + 6 + 2) (k (truth right) s1) s1.answers _ (omega arith)
      (told right kind T i (pc + 1 + length B) c ints0 ints1 refs1 s1 k er le (has_back z.flat.lines (pc + 1) B tail has.1) a1 (λ n lt. kept1 n lt ∙ kept n lt) e1 rest)))))
  or_by true kind of_b cb T i r pc c ints0 ints refs s k er runs_b has le re a kept e rest =
      let B = cb i r in
      let tail = Op.IsFalse i i ∷ Op.IsFalse i i ∷ [] in
      let m0 = place z pc ints refs s in
      let m1 = place z (pc + 1 + (length B + 1)) ints refs s in
      let fin = k (truth true) s in
      let there : pc + 1 + length B + 1 ≡ pc + 1 + (length B + 1) = omega arith in
      let has_t = has_back z.flat.lines (pc + 1) B tail has.1 in
      weaken z.flat s.fuel (c + 6 + 1 + 1) (c + 8) fin s.answers m0 (omega arith)
      (step z.flat (Op.SkipIfZero i (length B + 1)) s.fuel (c + 6 + 1) fin s.answers m0 m1 has.0 (ap (λ b. goes (cond b (over_lines (length B + 1) m0) (on m0))) e)
      (subst (λ q. Same z.flat s.fuel (c + 6 + 1) fin s.answers (place z q ints refs s)) there
      (told_once true kind T i (pc + 1 + length B + 1) c ints0 ints refs s k er le has_t.1.0 a kept e rest)))

  pub or_runs : (kind : Kind) (of_a of_b : Run Bool) (ca cb : ℕ → ℕ → List Op) → is_reference kind ≡ false → TestAs m z scope of_a ca → TestAs m z scope of_b cb
      → RunsAs m z scope kind 7 (of_a >>= λ left. cond left (give true) of_b >>= λ right. give (truth right)) (λ i r. ca i r ++ (Op.IsFalse i i ∷ Op.SkipIfZero i (length (cb i r) + 1) ∷ (cb i r ++ (Op.IsFalse i i ∷ Op.IsFalse i i ∷ []))))
  or_runs kind of_a of_b ca cb er runs_a runs_b T i r pc c ints refs s k has le re a rest =
      let A = ca i r in
      let B = cb i r in
      let tail = Op.IsFalse i i ∷ Op.IsFalse i i ∷ [] in
      let behind = Op.IsFalse i i ∷ Op.SkipIfZero i (length B + 1) ∷ (B ++ tail) in
      let end : pc + length A + 1 + 1 + length B + 1 + 1 ≡ pc + length (A ++ behind) = omega (arith, length-append A behind, length-append B tail) in
      let has_t = has_back z.flat.lines pc A behind has in
      bind z.flat s.fuel (c + 7) s.answers (of_a s) (λ left. cond left (give true) of_b >>= λ right. give (truth right)) k (place z pc ints refs s)
      (runs_a T i r pc (c + 7) ints refs s (λ left u. fin_then ((cond left (give true) of_b >>= λ right. give (truth right)) u) k) (has_front z.flat.lines pc A behind has) le re a (λ left ints1 refs1 s1 a1 kept1 e1.
      let t1 = code.truth (is_zero (ints1 (z.ints + i))) in
      let ints2 = put ints1 (z.ints + i) t1 in
      let a2 : Agree z T scope [] ints2 refs1 s1 = with_int z T scope [] i t1 ints1 refs1 s1 le a1 in
      let m1 = place z (pc + length A) ints1 refs1 s1 in
      let fin = fin_then ((cond left (give true) of_b >>= λ right. give (truth right)) s1) k in
      weaken z.flat s1.fuel (c + 8 + 1) (c + 7 + 2) fin s1.answers m1 (omega arith)
      (step z.flat (Op.IsFalse i i) s1.fuel (c + 8) fin s1.answers m1 (place z (pc + length A + 1) ints2 refs1 s1) has_t.0 refl
      (or_by left kind of_b cb T i r (pc + length A + 1) c ints ints2 refs1 s1 k er runs_b has_t.1 le re a2 (λ n lt. put_other ints1 (z.ints + i) _ n (λ q. omega arith) ∙ kept1 n lt)
      (ap is_zero (put_same ints1 (z.ints + i) t1) ∙ zero_of (is_zero (ints1 (z.ints + i))) ∙ ap not e1 ∙ not_not left) (subst (λ q. Rest z kind T scope i q (c + 6) ints k) (sym end) rest)))))
