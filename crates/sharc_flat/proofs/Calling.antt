-- Arguments, calls and functions.
use Rattle.sharc_flat.proofs.{Imports.{◌≡◌, ℕ, zero, suc, ◌+◌, ◌<◌, ◌≤◌, Bool, true, false, cond, List, [], ◌∷◌, ◌++◌, length, get_or, refl, sym, ap, ◌∙◌, subst, arith, append_assoc, length-append, append-nil, ℤ, pos, Kind, is_integer, is_pointer, Assignment, State, Run, ◌>>=◌, ◌>>◌, give, is_reference, done, holds_reference, with_temporary, holds, fitting, passed, Op, int_count, ref_count, Slot, passed_code, behind_int, behind_ref, Expression, span_of, kind_at}, Runs.{HasAt, has_front, has_back, Fin, fin_then, Same, weaken, bind}, Agreeing.{Standing, place, Agree, hold, loose_of}, Values.RunsAs, Testing.fitting_runs}

-- the references among the arguments, and the integers
abbrev pub refs_of : List Kind → List ℤ → List ℤ
refs_of [] vs = []
refs_of (kind ∷ kinds) [] = []
refs_of (kind ∷ kinds) (v ∷ vs) = cond (is_pointer kind) (v ∷ refs_of kinds vs) (refs_of kinds vs)

abbrev pub ints_of : List Kind → List ℤ → List ℤ
ints_of [] vs = []
ints_of (kind ∷ kinds) [] = []
ints_of (kind ∷ kinds) (v ∷ vs) = cond (is_pointer kind) (ints_of kinds vs) (v ∷ ints_of kinds vs)

module _ (m : Assignment) (z : Standing) (scope : List Slot) where
  abbrev pub RestArguments : List Kind → List ℤ → ℕ → ℕ → ℕ → (ℕ → ℤ) → (List ℤ → State → Fin) → Type 0
  RestArguments kinds T i pc c ints k = (vs : List ℤ) (ints' refs' : ℕ → ℤ) (s' : State) → length vs ≡ length kinds → Agree z (T ++ refs_of kinds vs) scope [] ints' refs' s' → ((n : ℕ) → n < z.ints + i → ints' n ≡ ints n)
      → ((j : ℕ) → j < length (ints_of kinds vs) → ints' (z.ints + (i + j)) ≡ get_or (ints_of kinds vs) j (pos 0)) → Same z.flat s'.fuel (c + 1 + length (refs_of kinds vs)) (k vs s') s'.answers (place z pc ints' refs' s')

  abbrev pub ArgumentsAs : List Kind → Run (List ℤ) → (ℕ → ℕ → List Op) → Type 0
  ArgumentsAs kinds run code = (T : List ℤ) (i r pc c : ℕ) (ints refs : ℕ → ℤ) (s : State) (k : List ℤ → State → Fin) → HasAt z.flat.lines pc (code i r) → int_count scope ≤ i → r ≡ ref_count scope + length T → Agree z T scope [] ints refs s
      → RestArguments kinds T i (pc + length (code i r)) c ints k → Same z.flat s.fuel (c + 1) (fin_then (run s) k) s.answers (place z pc ints refs s)

  pub no_arguments_run : ArgumentsAs [] (give []) (λ i r. [])
  no_arguments_run T i r pc c ints refs s k has le re a rest =
      let p : pc + 0 ≡ pc = omega arith in
      weaken z.flat s.fuel (c + 1 + 0) (c + 1) _ s.answers _ (omega arith)
      (subst (λ q. Same z.flat s.fuel (c + 1 + 0) (k [] s) s.answers (place z q ints refs s)) p
      (rest [] ints refs s refl (subst (λ t. Agree z t scope [] ints refs s) (sym (append-nil T)) a) (λ n lt. refl) (λ j lt. absurd (omega arith))))

  -- what comes after one argument more, by whether it is a reference
  abbrev Behind : Bool → List Kind → List ℤ → ℕ → ℕ → ℕ → (ℕ → ℤ) → (List ℤ → State → Fin) → Type 0
  Behind b kinds T i pc c ints k = (v : ℤ) (vs : List ℤ) (ints' refs' : ℕ → ℤ) (s' : State) → length vs ≡ length kinds → Agree z (T ++ cond b (v ∷ refs_of kinds vs) (refs_of kinds vs)) scope [] ints' refs' s' → ((n : ℕ) → n < z.ints + i → ints' n ≡ ints n)
      → ((j : ℕ) → j < length (cond b (ints_of kinds vs) (v ∷ ints_of kinds vs)) → ints' (z.ints + (i + j)) ≡ get_or (cond b (ints_of kinds vs) (v ∷ ints_of kinds vs)) j (pos 0))
      → Same z.flat s'.fuel (c + 1 + length (cond b (v ∷ refs_of kinds vs) (refs_of kinds vs))) (k (v ∷ vs) s') s'.answers (place z pc ints' refs' s')

  argument_by : (b : Bool) (kind ka : Kind) (kinds : List Kind) (e : Expression) (of_a : Run ℤ) (ca : ℕ → ℕ → List Op) (more : Run (List ℤ)) (cs : ℕ → ℕ → List Op) → ka ≡ kind_at m.typed e → is_pointer kind ≡ b → is_reference ka ≡ b → (b ≡ false → is_integer ka ≡ true)
      → RunsAs m z scope ka 1 of_a ca → ArgumentsAs kinds more cs
      → ArgumentsAs (kind ∷ kinds) ((of_a >>= λ v. holds (kind_at m.typed e) v >> give v) >>= λ v. more >>= λ vs. give (v ∷ vs)) (λ i r. ca i r ++ cs (behind_int b i) (behind_ref b r))
  argument_by true kind ka kinds e of_a ca more cs ek eb er scalar runs_a runs_more T i r pc c ints refs s k has le re a rest =
      let C = ca i r in
      let D = cs i (r + 1) in
      let eb' : is_reference (kind_at m.typed e) ≡ true = ap is_reference (sym ek) ∙ er in
      let end : pc + length C + length D ≡ pc + length (C ++ D) = omega (arith, length-append C D) in
      let behind_all : Behind true kinds T i (pc + length (C ++ D)) c ints k = subst (λ q. Behind q kinds T i (pc + length (C ++ D)) c ints k) eb (λ v vs ints' refs' s' l. rest (v ∷ vs) ints' refs' s' (ap suc l)) in
      let G : ℤ → Run (List ℤ) = λ v. more >>= λ vs. give (v ∷ vs) in
      let H : ℤ → Run ℤ = λ v. holds (kind_at m.typed e) v >> give v in
      bind z.flat s.fuel (c + 1) s.answers ((of_a >>= H) s) G k (place z pc ints refs s)
      (bind z.flat s.fuel (c + 1) s.answers (of_a s) H (λ v u. fin_then (G v u) k) (place z pc ints refs s)
      (runs_a T i r pc c ints refs s (λ v u. fin_then (H v u) (λ v u. fin_then (G v u) k)) (has_front z.flat.lines pc C D has) le re a (λ v ints1 refs1 s1 w.
      let u1 : State = record s1 { frame = with_temporary v s1.frame } in
      let a1 : Agree z (T ++ v ∷ []) scope [] ints1 refs1 u1 = hold z T scope v ints1 refs1 s1 (subst (λ b. Agree z T scope (loose_of b v) ints1 refs1 s1) er w.agree) in
      let re1 : r + 1 ≡ ref_count scope + length (T ++ v ∷ []) = omega (arith, length-append T (v ∷ [])) in
      subst (λ b. Same z.flat s1.fuel (c + 6) (fin_then ((cond b (holds_reference v) done >> give v) s1) (λ v u. fin_then (G v u) k)) s1.answers (place z (pc + length C) ints1 refs1 s1)) (sym eb')
      (bind z.flat s1.fuel (c + 6) s1.answers (more u1) (λ vs. give (v ∷ vs)) k (place z (pc + length C) ints1 refs1 u1)
      (weaken z.flat s1.fuel (c + 1 + 1) (c + 6) _ s1.answers _ (omega arith)
      (runs_more (T ++ v ∷ []) i (r + 1) (pc + length C) (c + 1) ints1 refs1 u1 (λ vs u. k (v ∷ vs) u) (has_back z.flat.lines pc C D has) le re1 a1 (λ vs ints2 refs2 s2 l a2 kept values.
      let a3 : Agree z (T ++ v ∷ refs_of kinds vs) scope [] ints2 refs2 s2 = subst (λ t. Agree z t scope [] ints2 refs2 s2) (append_assoc T (v ∷ []) (refs_of kinds vs)) a2 in
      let credit : c + 1 + 1 + length (refs_of kinds vs) ≡ c + 1 + length (v ∷ refs_of kinds vs) = omega arith in
      subst (λ q. Same z.flat s2.fuel q (k (v ∷ vs) s2) s2.answers (place z (pc + length C + length D) ints2 refs2 s2)) (sym credit)
      (subst (λ q. Same z.flat s2.fuel (c + 1 + length (v ∷ refs_of kinds vs)) (k (v ∷ vs) s2) s2.answers (place z q ints2 refs2 s2)) (sym end)
      (behind_all v vs ints2 refs2 s2 l a3 (λ n lt. kept n lt ∙ w.kept n lt) values)))))))))
  argument_by false kind ka kinds e of_a ca more cs ek eb er scalar runs_a runs_more T i r pc c ints refs s k has le re a rest =
      let C = ca i r in
      let D = cs (i + 1) r in
      let eb' : is_reference (kind_at m.typed e) ≡ false = ap is_reference (sym ek) ∙ er in
      let end : pc + length C + length D ≡ pc + length (C ++ D) = omega (arith, length-append C D) in
      let behind_all : Behind false kinds T i (pc + length (C ++ D)) c ints k = subst (λ q. Behind q kinds T i (pc + length (C ++ D)) c ints k) eb (λ v vs ints' refs' s' l. rest (v ∷ vs) ints' refs' s' (ap suc l)) in
      let G : ℤ → Run (List ℤ) = λ v. more >>= λ vs. give (v ∷ vs) in
      let H : ℤ → Run ℤ = λ v. holds (kind_at m.typed e) v >> give v in
      bind z.flat s.fuel (c + 1) s.answers ((of_a >>= H) s) G k (place z pc ints refs s)
      (bind z.flat s.fuel (c + 1) s.answers (of_a s) H (λ v u. fin_then (G v u) k) (place z pc ints refs s)
      (runs_a T i r pc c ints refs s (λ v u. fin_then (H v u) (λ v u. fin_then (G v u) k)) (has_front z.flat.lines pc C D has) le re a (λ v ints1 refs1 s1 w.
      let a1 : Agree z T scope [] ints1 refs1 s1 = subst (λ b. Agree z T scope (loose_of b v) ints1 refs1 s1) er w.agree in
      subst (λ b. Same z.flat s1.fuel (c + 6) (fin_then ((cond b (holds_reference v) done >> give v) s1) (λ v u. fin_then (G v u) k)) s1.answers (place z (pc + length C) ints1 refs1 s1)) (sym eb')
      (bind z.flat s1.fuel (c + 6) s1.answers (more s1) (λ vs. give (v ∷ vs)) k (place z (pc + length C) ints1 refs1 s1)
      (weaken z.flat s1.fuel (c + 1) (c + 6) _ s1.answers _ (omega arith)
      (runs_more T (i + 1) r (pc + length C) c ints1 refs1 s1 (λ vs u. k (v ∷ vs) u) (has_back z.flat.lines pc C D has) (omega arith) re a1 (λ vs ints2 refs2 s2 l a2 kept values.
      subst (λ q. Same z.flat s2.fuel (c + 1 + length (refs_of kinds vs)) (k (v ∷ vs) s2) s2.answers (place z q ints2 refs2 s2)) (sym end)
      (behind_all v vs ints2 refs2 s2 l a2 (λ n lt. kept n (omega arith) ∙ w.kept n lt) (values_more i v (ints_of kinds vs) ints2 (kept (z.ints + i) (omega arith) ∙ w.value (scalar refl)) values)))))))))
    where
      values_more : (i : ℕ) (v : ℤ) (xs : List ℤ) (bank : ℕ → ℤ) → bank (z.ints + i) ≡ v → ((j : ℕ) → j < length xs → bank (z.ints + (i + 1 + j)) ≡ get_or xs j (pos 0)) → (j : ℕ) → j < length (v ∷ xs) → bank (z.ints + (i + j)) ≡ get_or (v ∷ xs) j (pos 0)
      values_more i v xs bank e h zero lt = let q : i + 0 ≡ i = omega arith in ap (λ n. bank (z.ints + n)) q ∙ e
      values_more i v xs bank e h (suc j) lt = let q : i + suc j ≡ i + 1 + j = omega arith in ap (λ n. bank (z.ints + n)) q ∙ h j (omega arith)

  -- an argument for a parameter of this type, and those after it
  pub argument_runs : (kind ka : Kind) (kinds : List Kind) (e : Expression) (of_a : Run ℤ) (ca : ℕ → ℕ → List Op) (more : Run (List ℤ)) (cs : ℕ → ℕ → List Op) → ka ≡ kind_at m.typed e → is_reference ka ≡ is_pointer kind → (is_pointer kind ≡ false → is_integer ka ≡ true) → (is_integer kind ≡ true → is_integer ka ≡ true)
      → RunsAs m z scope ka 0 of_a ca → ArgumentsAs kinds more cs
      → ArgumentsAs (kind ∷ kinds) (passed m.typed (kind ∷ kinds) e of_a >>= λ v. more >>= λ vs. give (v ∷ vs))
      (λ i r. ca i r ++ (passed_code i (kind ∷ kinds) (span_of e).first ++ cs (behind_int (is_reference ka) i) (behind_ref (is_reference ka) r)))
  argument_runs kind ka kinds e of_a ca more cs ek same scalar ints_same runs_a runs_more T i r pc c ints refs s k has le re a rest =
      let C = ca i r in
      let W = passed_code i (kind ∷ kinds) (span_of e).first in
      let D = cs (behind_int (is_reference ka) i) (behind_ref (is_reference ka) r) in
      let code_is : C ++ (W ++ D) ≡ (C ++ W) ++ D = sym (append_assoc C W D) in
      argument_by (is_reference ka) kind ka kinds e (fitting kind e of_a) (λ i r. ca i r ++ passed_code i (kind ∷ kinds) (span_of e).first) more cs ek (sym same) refl (λ h. scalar (sym same ∙ h)) (fitting_runs m z scope kind ka e of_a ca ints_same runs_a) runs_more T i r pc c ints refs s k
      (subst (HasAt z.flat.lines pc) code_is has) le re a (subst (λ l. RestArguments (kind ∷ kinds) T i (pc + length l) c ints k) code_is rest)
