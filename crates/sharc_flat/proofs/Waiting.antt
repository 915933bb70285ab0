-- Condition variables.
use Rattle.sharc_flat.proofs.{Imports.{◌≡◌, ℕ, zero, suc, ◌+◌, ◌<◌, ◌≤◌, Bool, true, false, cond, List, [], ◌∷◌, ◌++◌, length, Some, refl, sym, ap, ◌∙◌, subst, arith, append_assoc, length-append, append-nil, ℤ, pos, slice_get, not, codes, get_or as slice_index_or, bytes_eq, CellAt, Made, Site, Act, Expression, Arguments, Kind, is_integer, Trap, Assignment, cell_of, pointee, number_of, is_null, NULL, State, Out, go, over, Run, then_on, ◌>>=◌, ◌>>◌, give, happens, answer_of, value_in, is_reference, temporarily, Step, done, performs, holds_reference, moves_on, with_temporary, without_temporaries, unless_stop, holds, event_of, looks_at, operand, Calls, called, cell_at_place, wait_call, signal_call, broadcast_call, holds_mutex, Op, Spot, At, asks, put, cell_at, on, set_ref, op_turn, asserts, base_of, int_count, ref_count, at_site, Slot, behind_int, behind_ref, wait_code, with_words, argument_words, condition_code, first_cell_of, kind_at, Named, Text}, Banks.{put_same, put_other}, Runs.{HasAt, has_front, has_back, Fin, fin_then, Same, weaken, Holds, bind, without, after_event, asks_at}, Agreeing.{Standing, place, Agree, holding, push, last_is, hold, same_frame, loose_of, Rest}, Values.{loosen, base_ends, RunsAs, temporarily_runs}, Storing.{performs_then, moved_on}, Locking.chk_by, Comparing.all_end}

-- what the references of a call leave to spend
abbrev pub earned : ℕ → ℕ
earned zero = 0
earned (suc n) = earned n + 6

module _ (m : Assignment) (z : Standing) (scope : List Slot) where
  abbrev pub RestRefs : ℕ → List ℤ → ℕ → ℕ → ℕ → (ℕ → ℤ) → (List ℤ → State → Fin) → Type 0
  RestRefs n T i pc c ints k = (vs : List ℤ) (ints' refs' : ℕ → ℤ) (s' : State) → length vs ≡ n → Agree z (T ++ vs) scope [] ints' refs' s' → ((j : ℕ) → j < z.ints + i → ints' j ≡ ints j) → Same z.flat s'.fuel c (k vs s') s'.answers (place z pc ints' refs' s')

  abbrev pub RefsAs : ℕ → Run (List ℤ) → (ℕ → ℕ → List Op) → Type 0
  RefsAs n run code = (T : List ℤ) (i r pc c : ℕ) (ints refs : ℕ → ℤ) (s : State) (k : List ℤ → State → Fin) → HasAt z.flat.lines pc (code i r) → int_count scope ≤ i → r ≡ ref_count scope + length T → Agree z T scope [] ints refs s
      → RestRefs n T i (pc + length (code i r)) (c + earned n) ints k → Same z.flat s.fuel c (fin_then (run s) k) s.answers (place z pc ints refs s)

  pub no_refs_run : RefsAs 0 (give []) (λ i r. [])
  no_refs_run T i r pc c ints refs s k has le re a rest =
      let p : pc + 0 ≡ pc = omega arith in
      let c0 : c + 0 ≡ c = omega arith in
      subst (λ q. Same z.flat s.fuel q (k [] s) s.answers (place z pc ints refs s)) c0
      (subst (λ q. Same z.flat s.fuel (c + 0) (k [] s) s.answers (place z q ints refs s)) p
      (rest [] ints refs s refl (subst (λ t. Agree z t scope [] ints refs s) (sym (append-nil T)) a) (λ n lt. refl)))

  ref_first : (n : ℕ) (e : Expression) (of_a : Run ℤ) (ca : ℕ → ℕ → List Op) (more : Run (List ℤ)) (cs : ℕ → ℕ → List Op) → is_reference (kind_at m.typed e) ≡ true → RunsAs m z scope (kind_at m.typed e) 0 of_a ca → RefsAs n more cs
      → RefsAs (suc n) (operand m.typed e of_a >>= λ v. more >>= λ vs. give (v ∷ vs)) (λ i r. ca i r ++ cs i (r + 1))
  ref_first n e of_a ca more cs er runs_a runs_more T i r pc c ints refs s k has le re a rest =
      let C = ca i r in
      let D = cs i (r + 1) in
      let end : pc + length C + length D ≡ pc + length (C ++ D) = omega (arith, length-append C D) in
      let G : ℤ → Run (List ℤ) = λ v. more >>= λ vs. give (v ∷ vs) in
      let H : ℤ → Run ℤ = λ v. holds (kind_at m.typed e) v >> give v in
      let credit : c + 6 + earned n ≡ c + (earned n + 6) = omega arith in
      bind z.flat s.fuel c s.answers ((of_a >>= H) s) G k (place z pc ints refs s)
      (bind z.flat s.fuel c s.answers (of_a s) H (λ v u. fin_then (G v u) k) (place z pc ints refs s)
      (weaken z.flat s.fuel (c + 0) c _ s.answers _ (omega arith)
      (runs_a T i r pc c ints refs s (λ v u. fin_then (H v u) (λ v u. fin_then (G v u) k)) (has_front z.flat.lines pc C D has) le re a (λ v ints1 refs1 s1 w.
      let u1 : State = record s1 { frame = with_temporary v s1.frame } in
      let a1 : Agree z (T ++ v ∷ []) scope [] ints1 refs1 u1 = hold z T scope v ints1 refs1 s1 (subst (λ b. Agree z T scope (loose_of b v) ints1 refs1 s1) er w.agree) in
      let re1 : r + 1 ≡ ref_count scope + length (T ++ v ∷ []) = omega (arith, length-append T (v ∷ [])) in
      subst (λ b. Same z.flat s1.fuel (c + 6) (fin_then ((cond b (holds_reference v) done >> give v) s1) (λ v u. fin_then (G v u) k)) s1.answers (place z (pc + length C) ints1 refs1 s1)) (sym er)
      (bind z.flat s1.fuel (c + 6) s1.answers (more u1) (λ vs. give (v ∷ vs)) k (place z (pc + length C) ints1 refs1 u1)
      (runs_more (T ++ v ∷ []) i (r + 1) (pc + length C) (c + 6) ints1 refs1 u1 (λ vs u. k (v ∷ vs) u) (has_back z.flat.lines pc C D has) le re1 a1 (λ vs ints2 refs2 s2 l a2 kept.
      subst (λ q. Same z.flat s2.fuel q (k (v ∷ vs) s2) s2.answers (place z (pc + length C + length D) ints2 refs2 s2)) (sym credit)
      (subst (λ q. Same z.flat s2.fuel (c + (earned n + 6)) (k (v ∷ vs) s2) s2.answers (place z q ints2 refs2 s2)) (sym end)
      (rest (v ∷ vs) ints2 refs2 s2 (ap suc l) (subst (λ t. Agree z t scope [] ints2 refs2 s2) (append_assoc T (v ∷ []) vs) a2) (λ j lt. kept j lt ∙ w.kept j lt))))))))))

  pub ref_run : (n : ℕ) (e : Expression) (of_a : Run ℤ) (ca : ℕ → ℕ → List Op) (more : Run (List ℤ)) (cs : ℕ → ℕ → List Op) → is_reference (kind_at m.typed e) ≡ true → RunsAs m z scope (kind_at m.typed e) 0 of_a ca → RefsAs n more cs
      → RefsAs (suc n) (operand m.typed e of_a >>= λ v. more >>= λ vs. give (v ∷ vs)) (λ i r. ca i r ++ cs (behind_int (is_reference (kind_at m.typed e)) i) (behind_ref (is_reference (kind_at m.typed e)) r))
  ref_run n e of_a ca more cs er runs_a runs_more =
      subst (λ b. RefsAs (suc n) (operand m.typed e of_a >>= λ v. more >>= λ vs. give (v ∷ vs)) (λ i r. ca i r ++ cs (behind_int b i) (behind_ref b r))) (sym er) (ref_first n e of_a ca more cs er runs_a runs_more)

  -- ---- single events
  abbrev Plain : Act → Type 0
  Plain act = (f g : ℕ → ℤ) (x : ℤ) → answer_of f act x ≡ answer_of g act x

  event_step : (o : Op) (site : Site) (act : Act) (f : At → At) (pc c : ℕ) (ints refs : ℕ → ℤ) (s : State) (g : Step) (k : Unit {0} → State → Fin) → Plain act → slice_get z.flat.lines pc ≡ Some o
      → op_turn z.flat o (place z pc ints refs s) ≡ asks (place z pc ints refs s) site act (pos 0) (λ v w. on (f w)) → Holds refs s
      → ((answers : List ℤ) (x : ℤ) → Same z.flat s.fuel c (fin_then (g (after_event s answers (s.events ++ event_of site act x ∷ []))) k) answers (on (f (place z pc ints refs (after_event s answers (s.events ++ event_of site act x ∷ []))))))
      → Same z.flat s.fuel (c + 1) (fin_then ((performs site act >> g) s) k) s.answers (place z pc ints refs s)
  event_step o site act f pc c ints refs s g k plain at is h rest =
      let m0 = place z pc ints refs s in
      subst (λ q. Same z.flat s.fuel (c + 1) q s.answers m0) (sym (performs_then (happens s.answers site act s) g k))
      (asks_at z.flat o site act (pos 0) (λ v w. on (f w)) c s.answers s m0 m0 (λ x u. fin_then (g u) k) h refl refl at is (λ x. plain (value_in s.frame.variables) (λ token. pos 0) x) (λ x answers. rest answers x))

  -- ---- `signal` and `broadcast`
  tell_by : (o : Op) (mk : CellAt → Act) (T : List ℤ) (v : ℤ) (kind : Kind) (site : Site) (i r pc c : ℕ) (ints0 ints refs : ℕ → ℤ) (s : State) (k : ℤ → State → Fin) → ((c : CellAt) → Plain (mk c)) → ((w : At) → op_turn z.flat o w ≡ asks w site (mk (cell_at z.flat.globals w (first_cell_of r))) (pos 0) (λ v n. on n))
      → is_reference kind ≡ false → is_integer kind ≡ false → HasAt z.flat.lines pc (Op.ChkNull r (at_site site) ∷ o ∷ Op.Pop r ∷ []) → r ≡ ref_count scope + length T → Agree z (T ++ v ∷ []) scope [] ints refs s → ((n : ℕ) → n < z.ints + i → ints n ≡ ints0 n) → Rest z kind T scope i (pc + 3) (c + 6) ints0 k
      → Same z.flat s.fuel (c + 6 + 1 + 1 + 1) (fin_then ((unless_stop (not (is_null v)) Trap.NullPointer site >> (performs site (mk (cell_at_place (pointee v))) >> done)) s) (λ x u. k (pos 0) (without (length T) u))) s.answers (place z pc ints refs s)
  tell_by o mk T v kind site i r pc c ints0 ints refs s k plain is er ei has re a kept rest =
      let r0 : r ≡ ref_count scope + length T + 0 = omega arith in
      let al : Agree z T scope (v ∷ []) ints refs (without (length T) s) = loosen z T scope (v ∷ []) [] ints refs s a in
      let v_is : refs (z.refs + r) ≡ v = last_is z T scope [] v [] r ints refs (without (length T) s) r0 al in
      let K : Unit {0} → State → Fin = λ x u. k (pos 0) (without (length T) u) in
      let m0 = place z pc ints refs s in
      let held = holding z (T ++ v ∷ []) scope ints refs s a in
      let three : pc + 1 + 1 + 1 ≡ pc + 3 = omega arith in
      bind z.flat s.fuel (c + 6 + 1 + 1 + 1) s.answers (unless_stop (not (is_null v)) Trap.NullPointer site s) (λ _. performs site (mk (cell_at_place (pointee v))) >> done) K m0
      (chk_by m z scope (not (is_null v)) (Op.ChkNull r (at_site site)) Trap.NullPointer site pc (c + 6 + 1 + 1) ints refs s _ has.0 (ap (λ q. asserts (not (is_null q)) Trap.NullPointer (at_site site) m0) v_is) held
      (event_step o site (mk (cell_at_place (pointee v))) (λ w. w) (pc + 1) (c + 6 + 1) ints refs s done K (plain (cell_at_place (pointee v))) has.1.0
      (is (place z (pc + 1) ints refs s) ∙ ap (λ q. asks (place z (pc + 1) ints refs s) site (mk (cell_of (Made (number_of q)) 0)) (pos 0) (λ v n. on n)) v_is) held
      (λ answers x.
      let u = after_event s answers (s.events ++ event_of site (mk (cell_at_place (pointee v))) x ∷ []) in
      base_ends m z scope true (v ∷ []) T r (pc + 1 + 1) (c + 6) ints refs u (K tt u) (v, refl) has.1.1 re (same_frame z (T ++ v ∷ []) scope [] ints refs s u refl refl a)
      (λ refs2 a2. subst (λ q. Same z.flat s.fuel (c + 6) (K tt u) answers (place z q ints refs2 (without (length T) u))) (sym three)
      (rest (pos 0) ints refs2 (without (length T) u) (record { agree = subst (λ b. Agree z T scope (loose_of b (pos 0)) ints refs2 (without (length T) u)) (sym er) a2; kept = kept; value = λ h. absurd (cc) }))))))

  -- ---- `wait`
  wait_by : (wc wm : Text) (T : List ℤ) (a b : ℤ) (kind : Kind) (site : Site) (i r pc c : ℕ) (ints0 ints refs : ℕ → ℤ) (s : State) (k : ℤ → State → Fin) → is_reference kind ≡ false → is_integer kind ≡ false → HasAt z.flat.lines pc (wait_code r (at_site site) (with_words (at_site site) wc) (with_words (at_site site) wm)) → r ≡ ref_count scope + length T
      → Agree z (T ++ a ∷ b ∷ []) scope [] ints refs s → ((n : ℕ) → n < z.ints + i → ints n ≡ ints0 n) → Rest z kind T scope i (pc + 9) (c + 6) ints0 k
      → Same z.flat s.fuel (c + 6 + 2 + 1 + 1 + 1 + 1 + 1 + 1 + 1) (fin_then (wait_call site a b s) (λ x u. k (pos 0) (without (length T) u))) s.answers (place z pc ints refs s)
  wait_by wc wm T a b kind site i r pc c ints0 ints refs s k er ei has re ag kept rest =
      let spot = at_site site in
      let L = a ∷ b ∷ [] in
      let r0 : r ≡ ref_count scope + length T + 0 = omega arith in
      let r1 : r + 1 ≡ ref_count scope + length T + length (a ∷ []) = omega arith in
      let r2 : r + 2 ≡ ref_count scope + length (T ++ L) = omega (arith, length-append T L) in
      let r3 : r + 2 ≡ ref_count scope + length (T ++ L) + 0 = omega (arith, r2) in
      let al : Agree z T scope L ints refs (without (length T) s) = loosen z T scope L [] ints refs s ag in
      let a_is : refs (z.refs + r) ≡ a = last_is z T scope [] a (b ∷ []) r ints refs (without (length T) s) r0 al in
      let b_is : refs (z.refs + (r + 1)) ≡ b = last_is z T scope (a ∷ []) b [] (r + 1) ints refs (without (length T) s) r1 al in
      let K : Unit {0} → State → Fin = λ x u. k (pos 0) (without (length T) u) in
      let m0 = place z pc ints refs s in
      let held = holding z (T ++ L) scope ints refs s ag in
      let ca = cell_at_place (pointee a) in
      let cb = cell_at_place (pointee b) in
      let refs2 = put refs (z.refs + (r + 2)) b in
      let refs3 = put refs2 (z.refs + (r + 2)) (pos 0) in
      let a2_is : refs2 (z.refs + r) ≡ a = put_other refs (z.refs + (r + 2)) b (z.refs + r) (λ q. omega arith) ∙ a_is in
      let b2_is : refs2 (z.refs + (r + 2)) ≡ b = put_same refs (z.refs + (r + 2)) b in
      let g4 : Step = performs site (Act.Lock cb) >> moves_on 1 in
      let g3 : Step = holds_reference b >> (performs site (Act.Woken ca) >> g4) in
      let g2 : Step = performs site (Act.Unlock cb) >> g3 in
      let g1 : Step = performs site (Act.Enter ca) >> g2 in
      let test : Step = looks_at (λ v. v.events) >>= λ own. unless_stop (holds_mutex own cb) Trap.MutexNotHeld site >> g1 in
      let p1 = pc + 1 in
      let p2 = p1 + 1 in
      let p3 = p2 + 1 in
      let p4 = p3 + 1 in
      let p5 = p4 + 1 in
      let p6 = p5 + 1 in
      let p7 = p6 + 1 in
      let nine : p7 + 2 ≡ pc + 9 = omega arith in
      bind z.flat s.fuel (c + 6 + 2 + 1 + 1 + 1 + 1 + 1 + 1 + 1) s.answers (unless_stop (not (is_null a)) Trap.NullPointer site s) (λ _. unless_stop (not (is_null b)) Trap.NullPointer site >> test) K m0
      (chk_by m z scope (not (is_null a)) (Op.ChkNull r spot) Trap.NullPointer site pc (c + 6 + 2 + 1 + 1 + 1 + 1 + 1 + 1) ints refs s _ has.0 (ap (λ q. asserts (not (is_null q)) Trap.NullPointer spot m0) a_is) held
      (bind z.flat s.fuel (c + 6 + 2 + 1 + 1 + 1 + 1 + 1 + 1) s.answers (unless_stop (not (is_null b)) Trap.NullPointer site s) (λ _. test) K (place z p1 ints refs s)
      (chk_by m z scope (not (is_null b)) (Op.ChkNull (r + 1) spot) Trap.NullPointer site p1 (c + 6 + 2 + 1 + 1 + 1 + 1 + 1) ints refs s _ has.1.0 (ap (λ q. asserts (not (is_null q)) Trap.NullPointer spot (place z p1 ints refs s)) b_is) held
      (bind z.flat s.fuel (c + 6 + 2 + 1 + 1 + 1 + 1 + 1) s.answers (unless_stop (holds_mutex s.events cb) Trap.MutexNotHeld site s) (λ _. g1) K (place z p2 ints refs s)
      (chk_by m z scope (holds_mutex s.events cb) (Op.ChkHeld (first_cell_of (r + 1)) spot) Trap.MutexNotHeld site p2 (c + 6 + 2 + 1 + 1 + 1 + 1) ints refs s _ has.1.1.0 (ap (λ q. asserts (holds_mutex s.events (cell_of (Made (number_of q)) 0)) Trap.MutexNotHeld spot (place z p2 ints refs s)) b_is) held
      (event_step (Op.CondEnter (first_cell_of r) spot) site (Act.Enter ca) (λ w. w) p3 (c + 6 + 2 + 1 + 1 + 1) ints refs s g2 K (λ f g x. refl) has.1.1.1.0 (ap (λ q. asks (place z p3 ints refs s) site (Act.Enter (cell_of (Made (number_of q)) 0)) (pos 0) (λ v n. on n)) a_is) held
      (λ answers4 x4.
      let s4 = after_event s answers4 (s.events ++ event_of site (Act.Enter ca) x4 ∷ []) in
      let ag4 : Agree z (T ++ L) scope [] ints refs s4 = same_frame z (T ++ L) scope [] ints refs s s4 refl refl ag in
      let m4 = place z p4 ints refs s4 in
      event_step (Op.Unlock (r + 2) (first_cell_of (r + 1)) spot) site (Act.Unlock cb) (λ w. set_ref (r + 2) (base_of w (first_cell_of (r + 1))) w) p4 (c + 6 + 2 + 1 + 1) ints refs s4 g3 K (λ f g x. refl) has.1.1.1.1.0
      (ap (λ q. asks m4 site (Act.Unlock (cell_of (Made (number_of q)) 0)) (pos 0) (λ v w. on (set_ref (r + 2) (base_of w (first_cell_of (r + 1))) w))) b_is) (holding z (T ++ L) scope ints refs s4 ag4)
      (λ answers5 x5.
      let s5 = after_event s4 answers5 (s4.events ++ event_of site (Act.Unlock cb) x5 ∷ []) in
      let ag5 : Agree z (T ++ L) scope (b ∷ []) ints refs2 s5 = push z (T ++ L) scope [] b (r + 2) ints refs s5 r3 (same_frame z (T ++ L) scope [] ints refs s4 s5 refl refl ag4) in
      let h5 : State = record s5 { frame = with_temporary b s5.frame } in
      let ah5 : Agree z ((T ++ L) ++ b ∷ []) scope [] ints refs2 h5 = hold z (T ++ L) scope b ints refs2 s5 ag5 in
      let m5 = place z p5 ints refs2 h5 in
      subst (λ q. Same z.flat s.fuel (c + 6 + 2 + 1 + 1) (fin_then ((performs site (Act.Woken ca) >> g4) h5) K) answers5 (on (set_ref (r + 2) q (place z p4 ints refs s5)))) (sym b_is)
      (event_step (Op.CondWait (first_cell_of r) (with_words spot wc)) site (Act.Woken ca) (λ w. w) p5 (c + 6 + 2 + 1) ints refs2 h5 g4 K (λ f g x. refl) has.1.1.1.1.1.0
      (ap (λ q. asks m5 site (Act.Woken (cell_of (Made (number_of q)) 0)) (pos 0) (λ v n. on n)) a2_is) (holding z ((T ++ L) ++ b ∷ []) scope ints refs2 h5 ah5)
      (λ answers6 x6.
      let s6 = after_event h5 answers6 (h5.events ++ event_of site (Act.Woken ca) x6 ∷ []) in
      let ag6 : Agree z ((T ++ L) ++ b ∷ []) scope [] ints refs2 s6 = same_frame z ((T ++ L) ++ b ∷ []) scope [] ints refs2 h5 s6 refl refl ah5 in
      let m6 = place z p6 ints refs2 s6 in
      event_step (Op.Lock (first_cell_of (r + 2)) (with_words spot wm)) site (Act.Lock cb) (λ w. set_ref (r + 2) (pos 0) w) p6 (c + 6 + 2) ints refs2 s6 (moves_on 1) K (λ f g x. refl) has.1.1.1.1.1.1.0
      (ap (λ q. asks m6 site (Act.Lock (cell_of (Made (number_of q)) 0)) (pos 0) (λ v w. on (set_ref (r + 2) (pos 0) w))) b2_is) (holding z ((T ++ L) ++ b ∷ []) scope ints refs2 s6 ag6)
      (λ answers7 x7.
      let s7 = after_event s6 answers7 (s6.events ++ event_of site (Act.Lock cb) x7 ∷ []) in
      let u : State = record s7 { frame = without_temporaries 1 s7.frame } in
      let ag7 : Agree z (T ++ L) scope [] ints refs3 u = moved_on m z scope (T ++ L) b (r + 2) ints refs2 s7 r2 (same_frame z ((T ++ L) ++ b ∷ []) scope [] ints refs2 s6 s7 refl refl ag6) in
      all_end m z scope T L r p7 (c + 6) ints refs3 u (K tt u) re has.1.1.1.1.1.1.1 ag7 (λ refs8 ag8.
      subst (λ q. Same z.flat s.fuel (c + 6) (K tt u) answers7 (place z q ints refs8 (without (length T) u))) (sym nine)
      (rest (pos 0) ints refs8 (without (length T) u) (record { agree = subst (λ b. Agree z T scope (loose_of b (pos 0)) ints refs8 (without (length T) u)) (sym er) ag8; kept = kept; value = λ h. absurd (cc) }))))))))))))))

  two_of : (vs : List ℤ) → length vs ≡ 2 → (a : ℤ) × (b : ℤ) × (vs ≡ a ∷ b ∷ [])
  two_of [] h = absurd (omega (arith, h))
  two_of (a ∷ []) h = absurd (omega (arith, h))
  two_of (a ∷ b ∷ []) h = (a, b, refl)
  two_of (a ∷ b ∷ x ∷ rest) h = absurd (omega (arith, h))

  one_of : (vs : List ℤ) → length vs ≡ 1 → (a : ℤ) × (vs ≡ a ∷ [])
  one_of (a ∷ []) h = (a, refl)
  one_of _ h = absurd (omega (arith, h))

  abbrev calls_by : Bool → Bool → Site → List ℤ → Step
  calls_by b1 b2 site vs = cond b1 (wait_call site (slice_index_or vs 0 NULL) (slice_index_or vs 1 NULL)) (cond b2 (signal_call site (slice_index_or vs 0 NULL)) (broadcast_call site (slice_index_or vs 0 NULL)))

  abbrev code_by : Text → Text → Bool → Bool → Site → ℕ → List Op
  code_by wc wm b1 b2 site r = cond b1 (wait_code r (at_site site) (with_words (at_site site) wc) (with_words (at_site site) wm)) (cond b2 (Op.ChkNull r (at_site site) ∷ Op.CondSignal (first_cell_of r) (at_site site) ∷ Op.Pop r ∷ []) (Op.ChkNull r (at_site site) ∷ Op.CondBroadcast (first_cell_of r) (at_site site) ∷ Op.Pop r ∷ []))

  by_out : (o : Out ℤ) (k : Unit {0} → State → Fin) → fin_then (then_on o (λ _. done)) k ≡ fin_then (then_on (then_on o (λ _. done)) (λ _. done)) k
  by_out (go x s) k = refl
  by_out (over o s) k = refl

  tell_done : (mk : CellAt → Act) (b : Bool) (site : Site) (v : ℤ) (s : State) (k : Unit {0} → State → Fin) → fin_then ((unless_stop b Trap.NullPointer site >> performs site (mk (cell_at_place (pointee v)))) s) k ≡ fin_then ((unless_stop b Trap.NullPointer site >> (performs site (mk (cell_at_place (pointee v))) >> done)) s) k
  tell_done mk true site v s k = by_out (happens s.answers site (mk (cell_at_place (pointee v))) s) k
  tell_done mk false site v s k = refl

  condition_by : (wc wm : Text) (b1 b2 : Bool) (T vs : List ℤ) (kind : Kind) (site : Site) (i r pc c : ℕ) (ints0 ints refs : ℕ → ℤ) (s : State) (k : ℤ → State → Fin) → is_reference kind ≡ false → is_integer kind ≡ false → length vs ≡ cond b1 2 1 → HasAt z.flat.lines pc (code_by wc wm b1 b2 site r) → r ≡ ref_count scope + length T
      → Agree z (T ++ vs) scope [] ints refs s → ((n : ℕ) → n < z.ints + i → ints n ≡ ints0 n) → Rest z kind T scope i (pc + length (code_by wc wm b1 b2 site r)) (c + 6) ints0 k
      → Same z.flat s.fuel (c + 7 + earned (cond b1 2 1)) (fin_then (calls_by b1 b2 site vs s) (λ x u. k (pos 0) (without (length T) u))) s.answers (place z pc ints refs s)
  condition_by wc wm true b2 T vs kind site i r pc c ints0 ints refs s k er ei l has re a kept rest =
      let w = two_of vs l in
      let e : earned 2 ≡ 12 = refl in
      subst (λ vs. Same z.flat s.fuel (c + 7 + earned 2) (fin_then (calls_by true b2 site vs s) (λ x u. k (pos 0) (without (length T) u))) s.answers (place z pc ints refs s)) (sym w.2)
      (weaken z.flat s.fuel (c + 6 + 2 + 1 + 1 + 1 + 1 + 1 + 1 + 1) (c + 7 + earned 2) _ s.answers _ (omega (arith, e))
      (wait_by wc wm T w.0 w.1 kind site i r pc c ints0 ints refs s k er ei has re (subst (λ vs. Agree z (T ++ vs) scope [] ints refs s) w.2 a) kept rest))
  condition_by wc wm false true T vs kind site i r pc c ints0 ints refs s k er ei l has re a kept rest =
      let w = one_of vs l in
      let e : earned 1 ≡ 6 = refl in
      subst (λ vs. Same z.flat s.fuel (c + 7 + earned 1) (fin_then (calls_by false true site vs s) (λ x u. k (pos 0) (without (length T) u))) s.answers (place z pc ints refs s)) (sym w.1)
      (weaken z.flat s.fuel (c + 6 + 1 + 1 + 1) (c + 7 + earned 1) _ s.answers _ (omega (arith, e))
      (subst (λ o. Same z.flat s.fuel (c + 6 + 1 + 1 + 1) o s.answers (place z pc ints refs s)) (sym (tell_done Act.Signal (not (is_null w.0)) site w.0 s (λ x u. k (pos 0) (without (length T) u))))
      (tell_by (Op.CondSignal (first_cell_of r) (at_site site)) Act.Signal T w.0 kind site i r pc c ints0 ints refs s k (λ c f g x. refl) (λ w. refl) er ei has re (subst (λ vs. Agree z (T ++ vs) scope [] ints refs s) w.1 a) kept rest)))
  condition_by wc wm false false T vs kind site i r pc c ints0 ints refs s k er ei l has re a kept rest =
      let w = one_of vs l in
      let e : earned 1 ≡ 6 = refl in
      subst (λ vs. Same z.flat s.fuel (c + 7 + earned 1) (fin_then (calls_by false false site vs s) (λ x u. k (pos 0) (without (length T) u))) s.answers (place z pc ints refs s)) (sym w.1)
      (weaken z.flat s.fuel (c + 6 + 1 + 1 + 1) (c + 7 + earned 1) _ s.answers _ (omega (arith, e))
      (subst (λ o. Same z.flat s.fuel (c + 6 + 1 + 1 + 1) o s.answers (place z pc ints refs s)) (sym (tell_done Act.Broadcast (not (is_null w.0)) site w.0 s (λ x u. k (pos 0) (without (length T) u))))
      (tell_by (Op.CondBroadcast (first_cell_of r) (at_site site)) Act.Broadcast T w.0 kind site i r pc c ints0 ints refs s k (λ c f g x. refl) (λ w. refl) er ei has re (subst (λ vs. Agree z (T ++ vs) scope [] ints refs s) w.1 a) kept rest)))

  known_by : (wc wm : Text) (b1 b2 : Bool) (kind : Kind) (site : Site) (all : Run (List ℤ)) (ca : ℕ → ℕ → List Op) → is_reference kind ≡ false → is_integer kind ≡ false → RefsAs (cond b1 2 1) all ca
      → RunsAs m z scope kind 7 (temporarily (all >>= λ vs. calls_by b1 b2 site vs >> give (pos 0))) (λ i r. ca i r ++ code_by wc wm b1 b2 site r)
  known_by wc wm b1 b2 kind site all ca er ei of_all T i r pc c ints refs s k has le re a rest =
      let C = ca i r in
      let D = code_by wc wm b1 b2 site r in
      let end : pc + length C + length D ≡ pc + length (C ++ D) = omega (arith, length-append C D) in
      let K : ℤ → State → Fin = λ v u. k v (without (length T) u) in
      let m0 = place z pc ints refs s in
      temporarily_runs m z scope T s.fuel (c + 7) s.answers (all >>= λ vs. calls_by b1 b2 site vs >> give (pos 0)) s k m0 a.temporaries
      (bind z.flat s.fuel (c + 7) s.answers (all s) (λ vs. calls_by b1 b2 site vs >> give (pos 0)) K m0
      (of_all T i r pc (c + 7) ints refs s (λ vs u. fin_then ((calls_by b1 b2 site vs >> give (pos 0)) u) K) (has_front z.flat.lines pc C D has) le re a (λ vs ints1 refs1 s1 l a1 kept.
      bind z.flat s1.fuel (c + 7 + earned (cond b1 2 1)) s1.answers (calls_by b1 b2 site vs s1) (λ _. give (pos 0)) K (place z (pc + length C) ints1 refs1 s1)
      (condition_by wc wm b1 b2 T vs kind site i r (pc + length C) c ints ints1 refs1 s1 k er ei l (has_back z.flat.lines pc C D has) re a1 kept (subst (λ q. Rest z kind T scope i q (c + 6) ints k) (sym end) rest)))))

  pub known_runs : (on_call : Calls) (kind : Kind) (site : Site) (name : List ℕ) (written : Arguments) (all : Run (List ℤ)) (ca : ℕ → ℕ → List Op) → is_reference kind ≡ false → is_integer kind ≡ false → RefsAs (cond (bytes_eq name (codes "wait")) 2 1) all ca
      → RunsAs m z scope kind 7 (temporarily (all >>= λ vs. called on_call site Named.Known name vs)) (λ i r. ca i r ++ condition_code r (at_site site) name written)
  known_runs on_call kind site name written all ca er ei of_all = known_by (argument_words 0 written) (argument_words 1 written) (bytes_eq name (codes "wait")) (bytes_eq name (codes "signal")) kind site all ca er ei of_all
