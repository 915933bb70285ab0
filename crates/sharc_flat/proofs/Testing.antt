-- Tests, and values that go to something of a type.
use Rattle.sharc_flat.proofs.{Imports.{◌≡◌, ℕ, zero, suc, ◌+◌, ◌<◌, ◌≤◌, Bool, true, false, cond, List, [], ◌∷◌, ◌++◌, length, Some, refl, sym, ap, ◌∙◌, subst, arith, length-append, nat_tests, append-nil, nat_le, ℤ, pos, slice_get, not, ◌&&◌, ◌||◌, Site, Expression, span_of, Trap, Kind, is_integer, Assignment, Released, number_of, State, Run, ◌>>◌, give, is_reference, all_released, done, gives_up as source_gives_up, stopped, unless_stop, holds, drops, bits_of, is_zero, is_equal, is_held_by, fits, tested, fitting, Op, goes, put, op_turn, asserts, int_count, ref_count, at_site, Slot, width_of, width_code, truth_code, kind_at}, Banks.{put_same, put_other}, Runs.{HasAt, has_front, has_back, Fin, fin_then, Same, weaken, step, Holds, bind, ends}, Agreeing.{Standing, place, Agree, holding, push, drop_last, last_is, with_int, same_frame, loose_of}, Values.{integer_is, RunsAs}, Popping.{AllNull, trailing}, Computing.{holds_same, bits_same}}
use Rattle.sharc_code.specs.Arithmetic as code

-- what is compared with NULL
le_zero : (n : ℕ) → nat_le (suc n) 0 ≡ false
le_zero n = grind (arith, nat_tests)

pub equal_null : (v : ℤ) → is_equal v (pos 0) ≡ is_zero v
equal_null (pos (suc n)) = ap (λ b. b && nat_le 0 (suc n)) (le_zero n)
equal_null _ = refl

pub zero_of : (b : Bool) → is_zero (code.truth b) ≡ not b
zero_of true = refl
zero_of false = refl

pub not_not : (b : Bool) → not (not b) ≡ b
not_not true = refl
not_not false = refl

module _ (m : Assignment) (z : Standing) (scope : List Slot) where
  -- a test, and the register that holds its result
  abbrev pub RestTest : List ℤ → ℕ → ℕ → ℕ → (ℕ → ℤ) → (Bool → State → Fin) → Type 0
  RestTest T i pc c ints k = (b : Bool) (ints' refs' : ℕ → ℤ) (s' : State) → Agree z T scope [] ints' refs' s' → ((n : ℕ) → n < z.ints + i → ints' n ≡ ints n) → is_zero (ints' (z.ints + i)) ≡ not b → Same z.flat s'.fuel c (k b s') s'.answers (place z pc ints' refs' s')

  abbrev pub TestAs : Run Bool → (ℕ → ℕ → List Op) → Type 0
  TestAs run code = (T : List ℤ) (i r pc c : ℕ) (ints refs : ℕ → ℤ) (s : State) (k : Bool → State → Fin) → HasAt z.flat.lines pc (code i r) → int_count scope ≤ i → r ≡ ref_count scope + length T → Agree z T scope [] ints refs s
      → RestTest T i (pc + length (code i r)) (c + 2) ints k → Same z.flat s.fuel c (fin_then (run s) k) s.answers (place z pc ints refs s)

  tested_by : (b : Bool) (ka : Kind) (e : Expression) (run : Run ℤ) (ce : ℕ → ℕ → List Op) → ka ≡ kind_at m.typed e → is_reference ka ≡ b → (is_reference ka ≡ false → is_integer ka ≡ true) → RunsAs m z scope ka 0 run ce → TestAs (tested m.typed e run) (λ i r. ce i r ++ truth_code b i r)
  tested_by false ka e run ce ek eb scalar of_run T i r pc c ints refs s k has le re a rest =
      let end : pc + length (ce i r) ≡ pc + length (ce i r ++ []) = ap (λ l. pc + length l) (sym (append-nil (ce i r))) in
      let eb' : is_reference (kind_at m.typed e) ≡ false = ap is_reference (sym ek) ∙ eb in
      bind z.flat s.fuel c s.answers (run s) (λ v. drops (kind_at m.typed e) v >> give (not (is_zero v))) k (place z pc ints refs s)
      (weaken z.flat s.fuel (c + 0) c _ s.answers _ (omega arith)
      (of_run T i r pc c ints refs s _ (has_front z.flat.lines pc (ce i r) [] has) le re a (λ v ints1 refs1 s1 w.
      let a1 : Agree z T scope [] ints1 refs1 s1 = subst (λ b. Agree z T scope (loose_of b v) ints1 refs1 s1) eb w.agree in
      subst (λ b. Same z.flat s1.fuel (c + 6) (fin_then ((cond b (source_gives_up (all_released (v ∷ []))) done >> give (not (is_zero v))) s1) k) s1.answers (place z (pc + length (ce i r)) ints1 refs1 s1)) (sym eb')
      (weaken z.flat s1.fuel (c + 2) (c + 6) _ s1.answers _ (omega arith)
      (subst (λ q. Same z.flat s1.fuel (c + 2) (k (not (is_zero v)) s1) s1.answers (place z q ints1 refs1 s1)) (sym end)
      (rest (not (is_zero v)) ints1 refs1 s1 a1 w.kept (ap is_zero (w.value (scalar eb)) ∙ sym (not_not (is_zero v)))))))))
  tested_by true ka e run ce ek eb scalar of_run T i r pc c ints refs s k has le re a rest =
      let tc = truth_code true i r in
      let end : pc + length (ce i r) + 1 + 1 + 1 + 1 ≡ pc + length (ce i r ++ tc) = omega (arith, length-append (ce i r) tc) in
      let eb' : is_reference (kind_at m.typed e) ≡ true = ap is_reference (sym ek) ∙ eb in
      let has_t = has_back z.flat.lines pc (ce i r) tc has in
      let r0 : r ≡ ref_count scope + length T + 0 = omega arith in
      bind z.flat s.fuel c s.answers (run s) (λ v. drops (kind_at m.typed e) v >> give (not (is_zero v))) k (place z pc ints refs s)
      (weaken z.flat s.fuel (c + 0) c _ s.answers _ (omega arith)
      (of_run T i r pc c ints refs s _ (has_front z.flat.lines pc (ce i r) tc has) le re a (λ v ints1 refs1 s1 w.
      let a1 : Agree z T scope (v ∷ []) ints1 refs1 s1 = subst (λ b. Agree z T scope (loose_of b v) ints1 refs1 s1) eb w.agree in
      let r1 : r + 1 ≡ ref_count scope + length T + length (v ∷ []) = omega arith in
      let refs2 = put refs1 (z.refs + (r + 1)) (pos 0) in
      let a2 : Agree z T scope (v ∷ pos 0 ∷ []) ints1 refs2 s1 = push z T scope (v ∷ []) (pos 0) (r + 1) ints1 refs1 s1 r1 a1 in
      let v2 : refs2 (z.refs + r) ≡ v = last_is z T scope [] v (pos 0 ∷ []) r ints1 refs2 s1 r0 a2 in
      let w2 : refs2 (z.refs + (r + 1)) ≡ pos 0 = put_same refs1 (z.refs + (r + 1)) (pos 0) in
      let t3 = code.truth (is_equal (refs2 (z.refs + r)) (refs2 (z.refs + (r + 1)))) in
      let ints3 = put ints1 (z.ints + i) t3 in
      let a3 : Agree z T scope (v ∷ pos 0 ∷ []) ints3 refs2 s1 = with_int z T scope (v ∷ pos 0 ∷ []) i t3 ints1 refs2 s1 le a2 in
      let a4 : Agree z T scope (v ∷ []) ints3 refs2 s1 = trailing z scope T (v ∷ []) (pos 0 ∷ []) ints3 refs2 s1 null_one a3 in
      let u : State = record s1 { given_up = s1.given_up ++ Released (number_of v) ∷ [] } in
      let refs4 = put refs2 (z.refs + r) (pos 0) in
      let a5 : Agree z T scope [] ints3 refs4 u = same_frame z T scope [] ints3 refs4 s1 u refl refl (drop_last z T scope [] v r ints3 refs2 s1 r0 a4) in
      let t6 = code.truth (is_zero (ints3 (z.ints + i))) in
      let ints6 = put ints3 (z.ints + i) t6 in
      let a6 : Agree z T scope [] ints6 refs4 u = with_int z T scope [] i t6 ints3 refs4 u le a5 in
      let value : is_zero (ints6 (z.ints + i)) ≡ not (not (is_zero v)) =
      ap is_zero (put_same ints3 (z.ints + i) t6) ∙ zero_of (is_zero (ints3 (z.ints + i))) ∙ ap (λ x. not (is_zero x)) (put_same ints1 (z.ints + i) t3) ∙ ap not (zero_of (is_equal (refs2 (z.refs + r)) (refs2 (z.refs + (r + 1)))))
      ∙ ap (λ x. not (not (is_equal x (refs2 (z.refs + (r + 1)))))) v2 ∙ ap (λ x. not (not (is_equal v x))) w2 ∙ ap (λ x. not (not x)) (equal_null v) in
      let four : c + 2 + 1 + 1 + 1 + 1 ≡ c + 6 = omega arith in
      subst (λ b. Same z.flat s1.fuel (c + 6) (fin_then ((cond b (source_gives_up (all_released (v ∷ []))) done >> give (not (is_zero v))) s1) k) s1.answers (place z (pc + length (ce i r)) ints1 refs1 s1)) (sym eb')
      (subst (λ q. Same z.flat s1.fuel q (k (not (is_zero v)) u) s1.answers (place z (pc + length (ce i r)) ints1 refs1 s1)) four
      (step z.flat (Op.Null (r + 1)) s1.fuel (c + 2 + 1 + 1 + 1) _ s1.answers _ (place z (pc + length (ce i r) + 1) ints1 refs2 s1) has_t.0 refl
      (step z.flat (Op.SameReference i r (r + 1)) s1.fuel (c + 2 + 1 + 1) _ s1.answers _ (place z (pc + length (ce i r) + 1 + 1) ints3 refs2 s1) has_t.1.0 refl
      (step z.flat (Op.Pop r) s1.fuel (c + 2 + 1) _ s1.answers _ (place z (pc + length (ce i r) + 1 + 1 + 1) ints3 refs4 u) has_t.1.1.0
      (ap (λ x. goes (record (place z (pc + length (ce i r) + 1 + 1 + 1) ints3 refs4 s1) { given = s1.given_up ++ Released (number_of x) ∷ [] })) v2)
      (step z.flat (Op.IsFalse i i) s1.fuel (c + 2) _ s1.answers _ (place z (pc + length (ce i r) + 1 + 1 + 1 + 1) ints6 refs4 u) has_t.1.1.1.0 refl
      (subst (λ q. Same z.flat s1.fuel (c + 2) (k (not (is_zero v)) u) s1.answers (place z q ints6 refs4 u)) (sym end)
      (rest (not (is_zero v)) ints6 refs4 u a6
      (λ n lt. put_other ints3 (z.ints + i) _ n (λ q. omega arith) ∙ put_other ints1 (z.ints + i) _ n (λ q. omega arith) ∙ w.kept n lt) value)))))))))
      )
    where
      null_one : AllNull (pos 0 ∷ [])
      null_one zero = refl
      null_one (suc n) = refl

  pub tested_runs : (ka : Kind) (e : Expression) (run : Run ℤ) (ce : ℕ → ℕ → List Op) → ka ≡ kind_at m.typed e → (is_reference ka ≡ false → is_integer ka ≡ true) → RunsAs m z scope ka 0 run ce → TestAs (tested m.typed e run) (λ i r. ce i r ++ truth_code (is_reference ka) i r)
  tested_runs ka e run ce ek scalar of_run = tested_by (is_reference ka) ka e run ce ek refl scalar of_run

  fits_by : (b : Bool) (kind : Kind) (v : ℤ) → is_integer kind ≡ b → fits kind v ≡ (not b || is_held_by (bits_of kind) v)
  fits_by b kind v e = ap (λ x. not x || is_held_by (bits_of kind) v) e

  -- a value that what it goes to has to hold
  fitting_by : (b : Bool) (kind ka : Kind) (e : Expression) (run : Run ℤ) (ce : ℕ → ℕ → List Op) → is_integer kind ≡ b → (b ≡ true → is_integer ka ≡ true) → RunsAs m z scope ka 0 run ce
      → RunsAs m z scope ka 1 (fitting kind e run) (λ i r. ce i r ++ cond b (Op.ChkWidth (width_of kind) i (at_site (span_of e).first) ∷ []) [])
  fitting_by false kind ka e run ce eb ints of_run T i r pc c ints0 refs s k has le re a rest =
      let end : pc + length (ce i r) ≡ pc + length (ce i r ++ []) = ap (λ l. pc + length l) (sym (append-nil (ce i r))) in
      bind z.flat s.fuel (c + 1) s.answers (run s) (λ v. unless_stop (fits kind v) Trap.OutOfRange (span_of e).first >> give v) k (place z pc ints0 refs s)
      (weaken z.flat s.fuel (c + 0) (c + 1) _ s.answers _ (omega arith)
      (of_run T i r pc c ints0 refs s _ (has_front z.flat.lines pc (ce i r) [] has) le re a (λ v ints1 refs1 s1 w.
      subst (λ b. Same z.flat s1.fuel (c + 6) (fin_then ((unless_stop b Trap.OutOfRange (span_of e).first >> give v) s1) k) s1.answers (place z (pc + length (ce i r)) ints1 refs1 s1)) (sym (fits_by false kind v eb))
      (subst (λ q. Same z.flat s1.fuel (c + 6) (k v s1) s1.answers (place z q ints1 refs1 s1)) (sym end) (rest v ints1 refs1 s1 w)))))
  fitting_by true kind ka e run ce eb ints of_run T i r pc c ints0 refs s k has le re a rest =
      let site = (span_of e).first in
      let o = Op.ChkWidth (width_of kind) i (at_site site) in
      let end : pc + length (ce i r) + 1 ≡ pc + length (ce i r ++ o ∷ []) = omega (arith, length-append (ce i r) (o ∷ [])) in
      let has_o = (has_back z.flat.lines pc (ce i r) (o ∷ []) has).0 in
      bind z.flat s.fuel (c + 1) s.answers (run s) (λ v. unless_stop (fits kind v) Trap.OutOfRange site >> give v) k (place z pc ints0 refs s)
      (weaken z.flat s.fuel (c + 1 + 0) (c + 1) _ s.answers _ (omega arith)
      (of_run T i r pc (c + 1) ints0 refs s _ (has_front z.flat.lines pc (ce i r) (o ∷ []) has) le re a (λ v ints1 refs1 s1 w.
      let pc1 = pc + length (ce i r) in
      let a1 : Agree z T scope [] ints1 refs1 s1 = subst (λ b. Agree z T scope (loose_of b v) ints1 refs1 s1) (integer_is ka (ints refl)) w.agree in
      let held_same : code.holds (width_of kind) (ints1 (z.ints + i)) ≡ is_held_by (bits_of kind) v = ap (code.holds (width_of kind)) (w.value (ints refl)) ∙ holds_same (width_of kind) v ∙ ap (λ n. is_held_by n v) (bits_same kind) in
      subst (λ b. Same z.flat s1.fuel (c + 1 + 6) (fin_then ((unless_stop b Trap.OutOfRange site >> give v) s1) k) s1.answers (place z pc1 ints1 refs1 s1)) (sym (fits_by true kind v eb))
      (by (is_held_by (bits_of kind) v) v pc1 c o site ints1 refs1 s1 k has_o (ap (λ b. asserts b Trap.OutOfRange (at_site site) (place z pc1 ints1 refs1 s1)) held_same) (holding z T scope ints1 refs1 s1 a1)
      (subst (λ q. Same z.flat s1.fuel (c + 6) (k v s1) s1.answers (place z q ints1 refs1 s1)) (sym end) (rest v ints1 refs1 s1 w))))))
    where
      by : (b : Bool) (v : ℤ) (pc c : ℕ) (o : Op) (site : Site) (ints refs : ℕ → ℤ) (s : State) (k : ℤ → State → Fin) → slice_get z.flat.lines pc ≡ Some o → op_turn z.flat o (place z pc ints refs s) ≡ asserts b Trap.OutOfRange (at_site site) (place z pc ints refs s) → Holds refs s
          → Same z.flat s.fuel (c + 6) (k v s) s.answers (place z (pc + 1) ints refs s)
          → Same z.flat s.fuel (c + 1 + 6) (fin_then ((unless_stop b Trap.OutOfRange site >> give v) s) k) s.answers (place z pc ints refs s)
      by true v pc c o site ints refs s k at is holds rest = weaken z.flat s.fuel (c + 6 + 1) (c + 1 + 6) _ s.answers _ (omega arith) (step z.flat o s.fuel (c + 6) (k v s) s.answers _ _ at is rest)
      by false v pc c o site ints refs s k at is holds rest = weaken z.flat s.fuel (c + 6 + 1) (c + 1 + 6) _ s.answers _ (omega arith) (ends z.flat o (stopped Trap.OutOfRange site) (c + 6) s _ holds refl refl at is)

  pub fitting_runs : (kind ka : Kind) (e : Expression) (run : Run ℤ) (ce : ℕ → ℕ → List Op) → (is_integer kind ≡ true → is_integer ka ≡ true) → RunsAs m z scope ka 0 run ce
      → RunsAs m z scope ka 1 (fitting kind e run) (λ i r. ce i r ++ width_code i kind (span_of e).first)
  fitting_runs kind ka e run ce ints of_run = fitting_by (is_integer kind) kind ka e run ce refl ints of_run
