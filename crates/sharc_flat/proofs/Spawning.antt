-- New threads.
use Rattle.sharc_flat.proofs.{Imports.{◌≡◌, ℕ, ◌+◌, Bool, true, false, cond, List, [], ◌∷◌, ◌++◌, length, refl, sym, ap, ◌∙◌, subst, arith, append_assoc, length-append, ℤ, pos, Act, Site, Expression, span_of, Kind, is_integer, int, Int, Reference, Assignment, State, Run, ◌>>=◌, ◌>>◌, give, answered, is_reference, temporarily, done, holds_reference, moves_on, with_temporary, without_temporaries, holds, moves, event_of, operand, fitting, passed, Op, Spot, asks, put, on, set_int, handed, ref_count, at_site, Slot, passed_code, spawn_code, HandsOn, kind_at, Register}, Banks.{put_same, put_other}, Runs.{HasAt, has_front, has_back, Fin, fin_then, Same, weaken, bind, without, after_event, asks_at}, Agreeing.{Standing, place, Agree, holding, last_is, hold, with_int, same_frame, loose_of, Rest}, Values.{int_valued, RunsAs, temporarily_runs}, Computing.none_end, Testing.fitting_runs, Storing.moved_on, Taking.need_more}

module _ (m : Assignment) (z : Standing) (scope : List Slot) where
  abbrev spawns : Expression → Site → ℕ → Run ℤ → Run ℤ
  spawns e site f run = temporarily (run >>= λ v. answered site (Act.Spawn f v) >>= λ t. moves (kind_at m.typed e) >> give t)

  spawn_by : (b : Bool) (ka : Kind) (e : Expression) (site : Site) (f : ℕ) (run : Run ℤ) (code : ℕ → ℕ → List Op) → ka ≡ kind_at m.typed e → is_reference ka ≡ b → (b ≡ false → is_integer ka ≡ true) → RunsAs m z scope ka 1 run code
      → RunsAs m z scope int 7 (spawns e site f (operand m.typed e run)) (λ i r. code i r ++ Op.Spawn i f (cond b (Register.Reference r) (Register.Int i)) (at_site site) ∷ [])
  spawn_by true ka e site f run code ek er scalar of_run T i r pc c ints refs s k has le re a rest =
      let C = code i r in
      let o = Op.Spawn i f (Register.Reference r) (at_site site) in
      let end : pc + length C + 1 ≡ pc + length (C ++ o ∷ []) = omega (arith, length-append C (o ∷ [])) in
      let K : ℤ → State → Fin = λ v u. k v (without (length T) u) in
      let ee : is_reference (kind_at m.typed e) ≡ true = ap is_reference (sym ek) ∙ er in
      let then_run : ℤ → Run ℤ = λ v. answered site (Act.Spawn f v) >>= λ t. moves (kind_at m.typed e) >> give t in
      let m0 = place z pc ints refs s in
      weaken z.flat s.fuel (c + 1 + 1) (c + 7) _ s.answers _ (omega arith)
      (temporarily_runs m z scope T s.fuel (c + 1 + 1) s.answers (operand m.typed e run >>= then_run) s k m0 a.temporaries
      (bind z.flat s.fuel (c + 1 + 1) s.answers (operand m.typed e run s) then_run K m0
      (bind z.flat s.fuel (c + 1 + 1) s.answers (run s) (λ v. holds (kind_at m.typed e) v >> give v) (λ v u. fin_then (then_run v u) K) m0
      (of_run T i r pc (c + 1) ints refs s _ (has_front z.flat.lines pc C (o ∷ []) has) le re a (λ v ints1 refs1 s1 w.
      let a1 : Agree z T scope (v ∷ []) ints1 refs1 s1 = subst (λ b. Agree z T scope (loose_of b v) ints1 refs1 s1) er w.agree in
      let s1h : State = record s1 { frame = with_temporary v s1.frame } in
      let a1h : Agree z (T ++ v ∷ []) scope [] ints1 refs1 s1h = hold z T scope v ints1 refs1 s1 a1 in
      let r0 : r ≡ ref_count scope + length T + 0 = omega arith in
      let v_is : refs1 (z.refs + r) ≡ v = last_is z T scope [] v [] r ints1 refs1 s1 r0 a1 in
      let pc1 = pc + length C in
      let m1 = place z pc1 ints1 refs1 s1h in
      let refs2 = put refs1 (z.refs + r) (pos 0) in
      let credit : c + 6 + 1 ≡ c + 1 + 6 = omega arith in
      subst (λ b. Same z.flat s1.fuel (c + 1 + 6) (fin_then ((cond b (holds_reference v) done >> give v) s1) (λ v u. fin_then (then_run v u) K)) s1.answers (place z pc1 ints1 refs1 s1)) (sym ee)
      (subst (λ q. Same z.flat s1.fuel q (fin_then (then_run v s1h) K) s1.answers m1) credit
      (bind z.flat s1.fuel (c + 6 + 1) s1.answers (answered site (Act.Spawn f v) s1h) (λ t. moves (kind_at m.typed e) >> give t) K m1
      (asks_at z.flat o site (Act.Spawn f v) (pos 0) (λ x n. on (set_int i x (handed (Register.Reference r) n))) (c + 6) s1.answers s1h m1 m1 (λ t u. fin_then ((moves (kind_at m.typed e) >> give t) u) K) (holding z (T ++ v ∷ []) scope ints1 refs1 s1h a1h) refl refl (has_back z.flat.lines pc C (o ∷ []) has).0
      (ap (λ q. asks m1 site (Act.Spawn f q) (pos 0) (λ x n. on (set_int i x (handed (Register.Reference r) n)))) v_is)
      (λ x. refl)
      (λ t answers.
      let u = after_event s1h answers (s1h.events ++ event_of site (Act.Spawn f v) t ∷ []) in
      let u1 : State = record u { frame = without_temporaries 1 u.frame } in
      let ints2 = put ints1 (z.ints + i) t in
      let a2 : Agree z T scope [] ints1 refs2 u1 = moved_on m z scope T v r ints1 refs1 u re (same_frame z (T ++ v ∷ []) scope [] ints1 refs1 s1h u refl refl a1h) in
      let a3 : Agree z T scope [] ints2 refs2 u1 = with_int z T scope [] i t ints1 refs2 u1 le a2 in
      let n3 = none_end m z scope T [] (pc1 + 1) ints2 refs2 u1 a3 in
      subst (λ b. Same z.flat s1.fuel (c + 6) (fin_then ((cond b (moves_on 1) done >> give t) u) K) answers (place z (pc1 + 1) ints2 refs2 u1)) (sym ee)
      (subst (λ q. Same z.flat s1.fuel (c + 6) (k t (without (length T) u1)) answers q) n3.1
      (subst (λ q. Same z.flat s1.fuel (c + 6) (k t (without (length T) u1)) answers (place z q ints2 refs2 (without (length T) u1))) (sym end)
      (rest t ints2 refs2 (without (length T) u1) (int_valued m z scope int T i t ints ints2 refs2 (without (length T) u1) refl n3.0
      (λ n lt. put_other ints1 (z.ints + i) _ n (λ q. omega arith) ∙ w.kept n lt) (put_same ints1 (z.ints + i) t))))))))))))))
  spawn_by false ka e site f run code ek er scalar of_run T i r pc c ints refs s k has le re a rest =
      let C = code i r in
      let o = Op.Spawn i f (Register.Int i) (at_site site) in
      let end : pc + length C + 1 ≡ pc + length (C ++ o ∷ []) = omega (arith, length-append C (o ∷ [])) in
      let K : ℤ → State → Fin = λ v u. k v (without (length T) u) in
      let ee : is_reference (kind_at m.typed e) ≡ false = ap is_reference (sym ek) ∙ er in
      let then_run : ℤ → Run ℤ = λ v. answered site (Act.Spawn f v) >>= λ t. moves (kind_at m.typed e) >> give t in
      let m0 = place z pc ints refs s in
      weaken z.flat s.fuel (c + 1 + 1) (c + 7) _ s.answers _ (omega arith)
      (temporarily_runs m z scope T s.fuel (c + 1 + 1) s.answers (operand m.typed e run >>= then_run) s k m0 a.temporaries
      (bind z.flat s.fuel (c + 1 + 1) s.answers (operand m.typed e run s) then_run K m0
      (bind z.flat s.fuel (c + 1 + 1) s.answers (run s) (λ v. holds (kind_at m.typed e) v >> give v) (λ v u. fin_then (then_run v u) K) m0
      (of_run T i r pc (c + 1) ints refs s _ (has_front z.flat.lines pc C (o ∷ []) has) le re a (λ v ints1 refs1 s1 w.
      let a1 : Agree z T scope [] ints1 refs1 s1 = subst (λ b. Agree z T scope (loose_of b v) ints1 refs1 s1) er w.agree in
      let v_is : ints1 (z.ints + i) ≡ v = w.value (scalar refl) in
      let pc1 = pc + length C in
      let m1 = place z pc1 ints1 refs1 s1 in
      let credit : c + 6 + 1 ≡ c + 1 + 6 = omega arith in
      subst (λ b. Same z.flat s1.fuel (c + 1 + 6) (fin_then ((cond b (holds_reference v) done >> give v) s1) (λ v u. fin_then (then_run v u) K)) s1.answers (place z pc1 ints1 refs1 s1)) (sym ee)
      (subst (λ q. Same z.flat s1.fuel q (fin_then (then_run v s1) K) s1.answers m1) credit
      (bind z.flat s1.fuel (c + 6 + 1) s1.answers (answered site (Act.Spawn f v) s1) (λ t. moves (kind_at m.typed e) >> give t) K m1
      (asks_at z.flat o site (Act.Spawn f v) (pos 0) (λ x n. on (set_int i x (handed (Register.Int i) n))) (c + 6) s1.answers s1 m1 m1 (λ t u. fin_then ((moves (kind_at m.typed e) >> give t) u) K) (holding z T scope ints1 refs1 s1 a1) refl refl (has_back z.flat.lines pc C (o ∷ []) has).0
      (ap (λ q. asks m1 site (Act.Spawn f q) (pos 0) (λ x n. on (set_int i x (handed (Register.Int i) n)))) v_is)
      (λ x. refl)
      (λ t answers.
      let u = after_event s1 answers (s1.events ++ event_of site (Act.Spawn f v) t ∷ []) in
      let ints2 = put ints1 (z.ints + i) t in
      let a3 : Agree z T scope [] ints2 refs1 u = with_int z T scope [] i t ints1 refs1 u le (same_frame z T scope [] ints1 refs1 s1 u refl refl a1) in
      let n3 = none_end m z scope T [] (pc1 + 1) ints2 refs1 u a3 in
      subst (λ b. Same z.flat s1.fuel (c + 6) (fin_then ((cond b (moves_on 1) done >> give t) u) K) answers (place z (pc1 + 1) ints2 refs1 u)) (sym ee)
      (subst (λ q. Same z.flat s1.fuel (c + 6) (k t (without (length T) u)) answers q) n3.1
      (subst (λ q. Same z.flat s1.fuel (c + 6) (k t (without (length T) u)) answers (place z q ints2 refs1 (without (length T) u))) (sym end)
      (rest t ints2 refs1 (without (length T) u) (int_valued m z scope int T i t ints ints2 refs1 (without (length T) u) refl n3.0
      (λ n lt. put_other ints1 (z.ints + i) _ n (λ q. omega arith) ∙ w.kept n lt) (put_same ints1 (z.ints + i) t))))))))))))))

  pub spawn_runs : (kinds : List Kind) (e : Expression) (site : Site) (f : ℕ) (run : Run ℤ) (ce : ℕ → ℕ → List Op) → HandsOn kinds (kind_at m.typed e) → RunsAs m z scope (kind_at m.typed e) 0 run ce
      → RunsAs m z scope int 7 (spawns e site f (passed m.typed kinds e run)) (λ i r. ce i r ++ (passed_code i kinds (span_of e).first ++ spawn_code (is_reference (kind_at m.typed e)) i r f (at_site site)))
  spawn_runs [] e site f run ce h of_run T i r pc c ints refs s k has le re a more =
      spawn_by (is_reference (kind_at m.typed e)) (kind_at m.typed e) e site f run ce refl refl h (need_more m z scope (kind_at m.typed e) 0 1 run ce (omega arith) of_run) T i r pc c ints refs s k has le re a more
  spawn_runs (kind ∷ rest) e site f run ce h of_run T i r pc c ints refs s k has le re a more =
      let ka = kind_at m.typed e in
      let W = passed_code i (kind ∷ rest) (span_of e).first in
      let S = spawn_code (is_reference ka) i r f (at_site site) in
      let code_is : ce i r ++ (W ++ S) ≡ (ce i r ++ W) ++ S = sym (append_assoc (ce i r) W S) in
      spawn_by (is_reference ka) ka e site f (fitting kind e run) (λ i r. ce i r ++ passed_code i (kind ∷ rest) (span_of e).first) refl refl h.0 (fitting_runs m z scope kind ka e run ce h.1 of_run) T i r pc c ints refs s k
      (subst (λ l. HasAt z.flat.lines pc l) code_is has) le re a (subst (λ l. Rest z int T scope i (pc + length l) (c + 6) ints k) code_is more)
