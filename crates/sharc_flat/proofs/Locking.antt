-- Mutexes.
use Rattle.sharc_flat.proofs.{Imports.{◌≡◌, ℕ, zero, suc, ◌+◌, Bool, true, false, cond, List, [], ◌∷◌, ◌++◌, length, Option, Some, None, refl, sym, ap, ◌∙◌, subst, ⊎_elim, arith, length-append, inl, inr, append-nil, ℤ, pos, slice_get, not, nat_lt, ◌⊎◌, Act, Site, Span, Trap, Kind, is_integer, Assignment, Released, cell_of, StorePlace, number_of, State, Run, ◌>>=◌, ◌>>◌, give, happens, is_reference, temporarily, performs, without_temporaries, stopped, unless_stop, event_of, lock_call, unlock_call, moves_base, gives_up_base, cell_at_place, holds_mutex, held_mutexes, Op, Spot, At, goes, asks, put, cell_at, on, set_ref, op_turn, asserts, without_base, base_of, at_words, Context, ref_count, at_site, Slot, Target, in_global, in_global_at, in_object, in_object_at, has_base, base_width, field_of, guard_field, guard_cell, guard_code, spot_of, drop_base, settle_base, settle_code, cell_value_code, cell_store_code, store_code, cell_take_code, take_code, target, own_field, global_of, bounds_code, index_code, pointee_code, width_of, base_as_width, width_code, guard_width, index_width, object_mode, object_mode_named, object_spot, is_cell, unlocked_code, Other}, Banks.put_same, Runs.{HasAt, has_front, has_back, Fin, fin_then, Same, weaken, step, Holds, bind, without, after_event, ends, asks_at}, Agreeing.{Standing, place, Agree, holding, push, drop_last, last_is, same_frame, loose_of}, Accessing.context, Values.{loosen, BasesOf, base_ends, RunsAs, Lies, PlaceAs, at_cell, temporarily_runs}, Popping.{AllNull, trailing}, Computing.none_end, Storing.{performs_then, moved_on}}
use Rattle.sharc_flat.specs.Places as targets

module _ (m : Assignment) (z : Standing) (scope : List Slot) where
  abbrev ctx : Context
  ctx = context m z scope

  -- whether the base of a mutex is a reference
  record BaseAs (b : Bool) (t : Target) (i r : ℕ) (p : StorePlace) (bases : List ℤ) : Type 0 where
    has : has_base t ≡ b
    count : BasesOf b bases
    moves : (u : State) (k : Unit {0} → State → Fin) → fin_then (moves_base p u) k ≡ cond b (k tt (record u { frame = without_temporaries 1 u.frame })) (k tt u)
    without_is : (w : At) → without_base (targets.cell_of z.flat.globals i r t) w ≡ cond b (set_ref r (pos 0) w) w
    base_is : (w : At) → base_of w (targets.cell_of z.flat.globals i r t) ≡ cond b (w.refs (w.ref_base + r)) (pos 0)
    gives : (v : ℤ) (u : State) (k : Unit {0} → State → Fin) → b ≡ false ⊎ (bases ≡ v ∷ []) → fin_then (gives_up_base p u) k ≡ cond b (k tt (record u { given_up = u.given_up ++ Released (number_of v) ∷ [] })) (k tt u)

  same_head : (a b : ℤ) → a ∷ [] ≡ b ∷ [] → a ≡ b
  same_head a b h = cc

  base_as : (t : Target) (guard : Option ℕ) (i r : ℕ) (bank : ℕ → ℤ) (bases : List ℤ) (p : StorePlace) → is_cell t ≡ true → Lies m z scope t guard i bank bases p → BaseAs (has_base t) t i r p bases
  base_as (targets.variable x) guard i r bank bases p c h = absurd (cc)
  base_as (in_global g f) guard i r bank bases p c h = record {
    has = refl;
    count = h.0;
    moves = λ u k. ap (λ q. fin_then (moves_base q u) k) h.1;
    without_is = λ w. refl;
    base_is = λ w. refl;
    gives = λ v u k e. ap (λ q. fin_then (gives_up_base q u) k) h.1;
  }
  base_as (in_global_at g f) guard i r bank bases p c h = record {
    has = refl;
    count = h.1;
    moves = λ u k. ap (λ q. fin_then (moves_base q u) k) h.2;
    without_is = λ w. refl;
    base_is = λ w. refl;
    gives = λ v u k e. ap (λ q. fin_then (gives_up_base q u) k) h.2;
  }
  base_as (in_object f) guard i r bank bases p c h = record {
    has = refl;
    count = (h.0, h.1);
    moves = λ u k. ap (λ q. fin_then (moves_base q u) k) h.2;
    without_is = λ w. refl;
    base_is = λ w. refl;
    gives = λ v u k e. ap (λ q. fin_then (gives_up_base q u) k) h.2 ∙ ap (λ q. k tt (record u { given_up = u.given_up ++ Released (number_of q) ∷ [] })) (⊎_elim (λ (x : true ≡ false). absurd (cc)) (λ (x : bases ≡ v ∷ []). same_head h.0 v (sym h.1 ∙ x)) e);
  }
  base_as (in_object_at f) guard i r bank bases p c h = record {
    has = refl;
    count = (h.0, h.2);
    moves = λ u k. ap (λ q. fin_then (moves_base q u) k) h.3;
    without_is = λ w. refl;
    base_is = λ w. refl;
    gives = λ v u k e. ap (λ q. fin_then (gives_up_base q u) k) h.3 ∙ ap (λ q. k tt (record u { given_up = u.given_up ++ Released (number_of q) ∷ [] })) (⊎_elim (λ (x : true ≡ false). absurd (cc)) (λ (x : bases ≡ v ∷ []). same_head h.0 v (sym h.2 ∙ x)) e);
  }

  -- a test of the mutexes that are held
  pub chk_by : (b : Bool) (o : Op) (trap : Trap) (site : Site) (pc c : ℕ) (ints refs : ℕ → ℤ) (s : State) (k : Unit {0} → State → Fin) → slice_get z.flat.lines pc ≡ Some o → op_turn z.flat o (place z pc ints refs s) ≡ asserts b trap (at_site site) (place z pc ints refs s) → Holds refs s
      → Same z.flat s.fuel c (k tt s) s.answers (place z (pc + 1) ints refs s) → Same z.flat s.fuel (c + 1) (fin_then (unless_stop b trap site s) k) s.answers (place z pc ints refs s)
  chk_by true o trap site pc c ints refs s k at is h rest = step z.flat o s.fuel c (k tt s) s.answers (place z pc ints refs s) (place z (pc + 1) ints refs s) at is rest
  chk_by false o trap site pc c ints refs s k at is h rest = ends z.flat o (stopped trap site) c s (place z pc ints refs s) h refl refl at is

  -- `lock`, after its tests
  lock_by : (b : Bool) (T bases : List ℤ) (t : Target) (i r pc c : ℕ) (p : StorePlace) (site : Site) (words : Span) (ints refs : ℕ → ℤ) (s : State) (k : Unit {0} → State → Fin) → BaseAs b t i r p bases → r ≡ ref_count scope + length T
      → ((pc : ℕ) (u : State) → cell_at z.flat.globals (place z pc ints refs u) (targets.cell_of z.flat.globals i r t) ≡ cell_at_place p) → slice_get z.flat.lines pc ≡ Some (Op.Lock (targets.cell_of z.flat.globals i r t) (at_words site words Other)) → Agree z (T ++ bases) scope [] ints refs s
      → ((refs' : ℕ → ℤ) (u : State) → Agree z T scope [] ints refs' u → Same z.flat u.fuel c (k tt u) u.answers (place z (pc + 1) ints refs' u))
      → Same z.flat s.fuel (c + 1) (fin_then ((performs site (Act.Lock (cell_at_place p)) >> moves_base p) s) k) s.answers (place z pc ints refs s)
  lock_by b T bases t i r pc c p site words ints refs s k ba re cell_is at a rest =
      let m0 = place z pc ints refs s in
      let C = targets.cell_of z.flat.globals i r t in
      subst (λ q. Same z.flat s.fuel (c + 1) q s.answers m0) (sym (performs_then (happens s.answers site (Act.Lock (cell_at_place p)) s) (moves_base p) k))
      (asks_at z.flat (Op.Lock C (at_words site words Other)) site (Act.Lock (cell_at_place p)) (pos 0) (λ v w. on (without_base C w)) c s.answers s m0 m0 (λ x u. fin_then (moves_base p u) k) (holding z (T ++ bases) scope ints refs s a) refl refl at
      (ap (λ q. asks m0 site (Act.Lock q) (pos 0) (λ v w. on (without_base C w))) (cell_is pc s)) (λ x. refl)
      (λ x answers.
      let u = after_event s answers (s.events ++ event_of site (Act.Lock (cell_at_place p)) x ∷ []) in
      subst (λ q. Same z.flat s.fuel c q answers (on (without_base C (place z pc ints refs u)))) (sym (ba.moves u k))
      (subst (λ q. Same z.flat s.fuel c (cond b (k tt (record u { frame = without_temporaries 1 u.frame })) (k tt u)) answers (on q)) (sym (ba.without_is (place z pc ints refs u)))
      (by b ba.count u refl refl (same_frame z (T ++ bases) scope [] ints refs s u refl refl a)))))
    where
      by : (b : Bool) → BasesOf b bases → (u : State) → u.fuel ≡ u.fuel → u.frame ≡ u.frame → Agree z (T ++ bases) scope [] ints refs u → Same z.flat u.fuel c (cond b (k tt (record u { frame = without_temporaries 1 u.frame })) (k tt u)) u.answers (on (cond b (set_ref r (pos 0) (place z pc ints refs u)) (place z pc ints refs u)))
      by true is u e1 e2 h = rest (put refs (z.refs + r) (pos 0)) (record u { frame = without_temporaries 1 u.frame }) (moved_on m z scope T is.0 r ints refs u re (subst (λ bs. Agree z (T ++ bs) scope [] ints refs u) is.1 h))
      by false is u e1 e2 h = rest refs u (subst (λ t. Agree z t scope [] ints refs u) (append-nil T) (subst (λ bs. Agree z (T ++ bs) scope [] ints refs u) is h))

  pub lock_runs : (kv : Kind) (t : Target) (run : Run StorePlace) (pcode : ℕ → ℕ → List Op) (site : Site) (words : Span) → PlaceAs m z scope t None None 0 run pcode → is_cell t ≡ true → is_reference kv ≡ false → is_integer kv ≡ false
      → RunsAs m z scope kv 4 (temporarily (run >>= λ p. lock_call site p) >> give (pos 0))
      (λ i r. pcode i r ++ (Op.ChkNotHeld (targets.cell_of z.flat.globals i r t) (at_site site) ∷ Op.ChkRoom (at_site site) ∷ Op.Lock (targets.cell_of z.flat.globals i r t) (at_words site words Other) ∷ []))
  lock_runs kv t run pcode site words found cell_t er ei T i r pc c ints refs s k has le re a rest =
      let P = pcode i r in
      let C = targets.cell_of z.flat.globals i r t in
      let tail = Op.ChkNotHeld C (at_site site) ∷ Op.ChkRoom (at_site site) ∷ Op.Lock C (at_words site words Other) ∷ [] in
      let end : pc + length P + 1 + 1 + 1 ≡ pc + length (P ++ tail) = omega (arith, length-append P tail) in
      let K0 : Unit {0} → State → Fin = λ x u. k (pos 0) u in
      let K : Unit {0} → State → Fin = λ x u. K0 x (without (length T) u) in
      bind z.flat s.fuel (c + 4) s.answers (temporarily (run >>= λ p. lock_call site p) s) (λ _. give (pos 0)) k (place z pc ints refs s)
      (temporarily_runs m z scope T s.fuel (c + 4) s.answers (run >>= λ p. lock_call site p) s K0 (place z pc ints refs s) a.temporaries
      (bind z.flat s.fuel (c + 4) s.answers (run s) (λ p. lock_call site p) K (place z pc ints refs s)
      (weaken z.flat s.fuel (c + 3 + 0) (c + 4) _ s.answers _ (omega arith)
      (found T i r pc (c + 3) ints refs s (λ p u. fin_then (lock_call site p u) K) (has_front z.flat.lines pc P tail has) le re a (λ p bases ints1 refs1 s1 w.
      let has_t = has_back z.flat.lines pc P tail has in
      let at = at_cell m z scope t None T [] i r bases p ints1 refs1 s1 cell_t re w.agree w.lies in
      let ba = base_as t None i r ints1 bases p cell_t w.lies in
      let place_is : cell_at_place p ≡ cell_of at.object (at.first + field_of t) = ap cell_at_place at.is in
      let cell_is : (pc : ℕ) (u : State) → cell_at z.flat.globals (place z pc ints1 refs1 u) C ≡ cell_at_place p = λ pc u. at.cell_is pc (pos 0) u ∙ sym place_is in
      let pc1 = pc + length P in
      let held = holding z (T ++ bases) scope ints1 refs1 s1 w.agree in
      let three : c + 6 + 1 + 1 + 1 ≡ c + 3 + 6 = omega arith in
      subst (λ q. Same z.flat s1.fuel q (fin_then (lock_call site p s1) K) s1.answers (place z pc1 ints1 refs1 s1)) three
      (bind z.flat s1.fuel (c + 6 + 1 + 1 + 1) s1.answers (unless_stop (not (holds_mutex s1.events (cell_at_place p))) Trap.MutexAlreadyHeld site s1) (λ _. unless_stop (nat_lt (length (held_mutexes s1.events)) 16) Trap.TooManyLocks site >> (performs site (Act.Lock (cell_at_place p)) >> moves_base p)) K (place z pc1 ints1 refs1 s1)
      (chk_by (not (holds_mutex s1.events (cell_at_place p))) (Op.ChkNotHeld C (at_site site)) Trap.MutexAlreadyHeld site pc1 (c + 6 + 1 + 1) ints1 refs1 s1 _ has_t.0 (ap (λ q. asserts (not (holds_mutex s1.events q)) Trap.MutexAlreadyHeld (at_site site) (place z pc1 ints1 refs1 s1)) (cell_is pc1 s1)) held
      (bind z.flat s1.fuel (c + 6 + 1 + 1) s1.answers (unless_stop (nat_lt (length (held_mutexes s1.events)) 16) Trap.TooManyLocks site s1) (λ _. performs site (Act.Lock (cell_at_place p)) >> moves_base p) K (place z (pc1 + 1) ints1 refs1 s1)
      (chk_by (nat_lt (length (held_mutexes s1.events)) 16) (Op.ChkRoom (at_site site)) Trap.TooManyLocks site (pc1 + 1) (c + 6 + 1) ints1 refs1 s1 _ has_t.1.0 refl held
      (lock_by (has_base t) T bases t i r (pc1 + 1 + 1) (c + 6) p site words ints1 refs1 s1 K ba re cell_is has_t.1.1.0 w.agree
      (λ refs2 u a2.
      let n3 = none_end m z scope T [] (pc1 + 1 + 1 + 1) ints1 refs2 u a2 in
      subst (λ q. Same z.flat u.fuel (c + 6) (k (pos 0) (without (length T) u)) u.answers q) n3.1
      (subst (λ q. Same z.flat u.fuel (c + 6) (k (pos 0) (without (length T) u)) u.answers (place z q ints1 refs2 (without (length T) u))) (sym end)
      (rest (pos 0) ints1 refs2 (without (length T) u) (record { agree = subst (λ b. Agree z T scope (loose_of b (pos 0)) ints1 refs2 (without (length T) u)) (sym er) n3.0; kept = w.kept; value = λ h. absurd (cc) }))))))))))))))

  null_one : AllNull (pos 0 ∷ [])
  null_one zero = refl
  null_one (suc n) = refl

  -- `unlock`, after its test
  unlock_by : (b : Bool) (T bases : List ℤ) (t : Target) (i r pc c : ℕ) (p : StorePlace) (site : Site) (ints refs : ℕ → ℤ) (s : State) (k : Unit {0} → State → Fin) → BaseAs b t i r p bases → r ≡ ref_count scope + length T
      → ((pc : ℕ) (u : State) → cell_at z.flat.globals (place z pc ints refs u) (targets.cell_of z.flat.globals i r t) ≡ cell_at_place p)
      → HasAt z.flat.lines pc (Op.Unlock (r + cond b 1 0) (targets.cell_of z.flat.globals i r t) (at_site site) ∷ cond b (Op.Pop (r + 1) ∷ Op.Pop r ∷ []) []) → Agree z (T ++ bases) scope [] ints refs s
      → ((refs' : ℕ → ℤ) (u : State) → Agree z T scope [] ints refs' (without (length T) u) → Same z.flat u.fuel c (k tt u) u.answers (place z (pc + 1 + length (cond b (Op.Pop (r + 1) ∷ Op.Pop r ∷ []) [])) ints refs' (without (length T) u)))
      → Same z.flat s.fuel (c + 3) (fin_then ((performs site (Act.Unlock (cell_at_place p)) >> gives_up_base p) s) k) s.answers (place z pc ints refs s)
  unlock_by true T bases t i r pc c p site ints refs s k ba re cell_is has a rest =
      let v = ba.count.0 in
      let m0 = place z pc ints refs s in
      let C = targets.cell_of z.flat.globals i r t in
      let a0 : Agree z (T ++ v ∷ []) scope [] ints refs s = subst (λ bs. Agree z (T ++ bs) scope [] ints refs s) ba.count.1 a in
      let r0 : r ≡ ref_count scope + length T + 0 = omega arith in
      let r1 : r + 1 ≡ ref_count scope + length (T ++ v ∷ []) + 0 = omega (arith, length-append T (v ∷ [])) in
      let al : Agree z T scope (v ∷ []) ints refs (without (length T) s) = loosen z T scope (v ∷ []) [] ints refs s a0 in
      let v_is : refs (z.refs + r) ≡ v = last_is z T scope [] v [] r ints refs (without (length T) s) r0 al in
      let refs2 = put refs (z.refs + (r + 1)) v in
      let refs3 = put refs2 (z.refs + (r + 1)) (pos 0) in
      let three : c + 1 + 1 + 1 ≡ c + 3 = omega arith in
      let two : pc + 1 + 1 + 1 ≡ pc + 1 + 2 = omega arith in
      subst (λ q. Same z.flat s.fuel (c + 3) q s.answers m0) (sym (performs_then (happens s.answers site (Act.Unlock (cell_at_place p)) s) (gives_up_base p) k))
      (subst (λ q. Same z.flat s.fuel q (fin_then (happens s.answers site (Act.Unlock (cell_at_place p)) s) (λ x u. fin_then (gives_up_base p u) k)) s.answers m0) three
      (asks_at z.flat (Op.Unlock (r + 1) C (at_site site)) site (Act.Unlock (cell_at_place p)) (pos 0) (λ x w. on (set_ref (r + 1) (base_of w C) w)) (c + 1 + 1) s.answers s m0 m0 (λ x u. fin_then (gives_up_base p u) k) (holding z (T ++ bases) scope ints refs s a) refl refl has.0
      (ap (λ q. asks m0 site (Act.Unlock q) (pos 0) (λ x w. on (set_ref (r + 1) (base_of w C) w))) (cell_is pc s)) (λ x. refl)
      (λ x answers.
      let u = after_event s answers (s.events ++ event_of site (Act.Unlock (cell_at_place p)) x ∷ []) in
      let u1 : State = record u { given_up = u.given_up ++ Released (number_of v) ∷ [] } in
      let a2 : Agree z (T ++ v ∷ []) scope (v ∷ []) ints refs2 u = push z (T ++ v ∷ []) scope [] v (r + 1) ints refs u r1 (same_frame z (T ++ v ∷ []) scope [] ints refs s u refl refl a0) in
      let w_is : refs2 (z.refs + (r + 1)) ≡ v = put_same refs (z.refs + (r + 1)) v in
      let a3 : Agree z (T ++ v ∷ []) scope [] ints refs3 u1 = same_frame z (T ++ v ∷ []) scope [] ints refs3 u u1 refl refl (drop_last z (T ++ v ∷ []) scope [] v (r + 1) ints refs2 u r1 a2) in
      subst (λ q. Same z.flat s.fuel (c + 1 + 1) q answers (on (set_ref (r + 1) (base_of (place z pc ints refs u) C) (place z pc ints refs u)))) (sym (ba.gives v u k (inr ba.count.1)))
      (subst (λ q. Same z.flat s.fuel (c + 1 + 1) (k tt u1) answers (on (set_ref (r + 1) q (place z pc ints refs u)))) (sym (ba.base_is (place z pc ints refs u) ∙ v_is))
      (step z.flat (Op.Pop (r + 1)) s.fuel (c + 1) (k tt u1) answers (place z (pc + 1) ints refs2 u) (place z (pc + 1 + 1) ints refs3 u1) has.1.0
      (ap (λ q. goes (record (place z (pc + 1 + 1) ints refs3 u) { given = u.given_up ++ Released (number_of q) ∷ [] })) w_is)
      (base_ends m z scope true (v ∷ []) T r (pc + 1 + 1) c ints refs3 u1 (k tt u1) (v, refl) has.1.1 re a3
      (λ refs4 a4. subst (λ q. Same z.flat s.fuel c (k tt u1) answers (place z q ints refs4 (without (length T) u1))) (sym two) (rest refs4 u1 a4))))))))
  unlock_by false T bases t i r pc c p site ints refs s k ba re cell_is has a rest =
      let m0 = place z pc ints refs s in
      let C = targets.cell_of z.flat.globals i r t in
      let a0 : Agree z T scope [] ints refs s = subst (λ t. Agree z t scope [] ints refs s) (append-nil T) (subst (λ bs. Agree z (T ++ bs) scope [] ints refs s) ba.count a) in
      let r0 : r + 0 ≡ ref_count scope + length T + 0 = omega arith in
      let refs2 = put refs (z.refs + (r + 0)) (pos 0) in
      let q0 : pc + 1 ≡ pc + 1 + 0 = omega arith in
      subst (λ q. Same z.flat s.fuel (c + 3) q s.answers m0) (sym (performs_then (happens s.answers site (Act.Unlock (cell_at_place p)) s) (gives_up_base p) k))
      (weaken z.flat s.fuel (c + 1) (c + 3) _ s.answers m0 (omega arith)
      (asks_at z.flat (Op.Unlock (r + 0) C (at_site site)) site (Act.Unlock (cell_at_place p)) (pos 0) (λ x w. on (set_ref (r + 0) (base_of w C) w)) c s.answers s m0 m0 (λ x u. fin_then (gives_up_base p u) k) (holding z (T ++ bases) scope ints refs s a) refl refl has.0
      (ap (λ q. asks m0 site (Act.Unlock q) (pos 0) (λ x w. on (set_ref (r + 0) (base_of w C) w))) (cell_is pc s)) (λ x. refl)
      (λ x answers.
      let u = after_event s answers (s.events ++ event_of site (Act.Unlock (cell_at_place p)) x ∷ []) in
      let a2 : Agree z T scope (pos 0 ∷ []) ints refs2 u = push z T scope [] (pos 0) (r + 0) ints refs u r0 (same_frame z T scope [] ints refs s u refl refl a0) in
      let a3 : Agree z T scope [] ints refs2 u = trailing z scope T [] (pos 0 ∷ []) ints refs2 u null_one a2 in
      let n3 = none_end m z scope T [] (pc + 1) ints refs2 u a3 in
      subst (λ q. Same z.flat s.fuel c q answers (on (set_ref (r + 0) (base_of (place z pc ints refs u) C) (place z pc ints refs u)))) (sym (ba.gives (pos 0) u k (inl refl)))
      (subst (λ q. Same z.flat s.fuel c (k tt u) answers (on (set_ref (r + 0) q (place z pc ints refs u)))) (sym (ba.base_is (place z pc ints refs u)))
      (subst (λ q. Same z.flat s.fuel c (k tt u) answers q) n3.1
      (subst (λ q. Same z.flat s.fuel c (k tt u) answers (place z q ints refs2 (without (length T) u))) (sym q0) (rest refs2 u n3.0)))))))

  pub unlock_runs : (kv : Kind) (t : Target) (run : Run StorePlace) (pcode : ℕ → ℕ → List Op) (site : Site) → PlaceAs m z scope t None None 0 run pcode → is_cell t ≡ true → is_reference kv ≡ false → is_integer kv ≡ false
      → RunsAs m z scope kv 4 (temporarily (run >>= λ p. unlock_call site p) >> give (pos 0))
      (λ i r. pcode i r ++ (Op.ChkHeld (targets.cell_of z.flat.globals i r t) (at_site site) ∷ Op.Unlock (r + base_width t) (targets.cell_of z.flat.globals i r t) (at_site site) ∷ unlocked_code r t))
  unlock_runs kv t run pcode site found cell_t er ei T i r pc c ints refs s k has le re a rest =
      let P = pcode i r in
      let C = targets.cell_of z.flat.globals i r t in
      let pops = unlocked_code r t in
      let tail = Op.ChkHeld C (at_site site) ∷ Op.Unlock (r + base_width t) C (at_site site) ∷ pops in
      let end : pc + length P + 1 + 1 + length pops ≡ pc + length (P ++ tail) = omega (arith, length-append P tail) in
      let K0 : Unit {0} → State → Fin = λ x u. k (pos 0) u in
      let K : Unit {0} → State → Fin = λ x u. K0 x (without (length T) u) in
      bind z.flat s.fuel (c + 4) s.answers (temporarily (run >>= λ p. unlock_call site p) s) (λ _. give (pos 0)) k (place z pc ints refs s)
      (temporarily_runs m z scope T s.fuel (c + 4) s.answers (run >>= λ p. unlock_call site p) s K0 (place z pc ints refs s) a.temporaries
      (bind z.flat s.fuel (c + 4) s.answers (run s) (λ p. unlock_call site p) K (place z pc ints refs s)
      (weaken z.flat s.fuel (c + 4 + 0) (c + 4) _ s.answers _ (omega arith)
      (found T i r pc (c + 4) ints refs s (λ p u. fin_then (unlock_call site p u) K) (has_front z.flat.lines pc P tail has) le re a (λ p bases ints1 refs1 s1 w.
      let has_t = has_back z.flat.lines pc P tail has in
      let at = at_cell m z scope t None T [] i r bases p ints1 refs1 s1 cell_t re w.agree w.lies in
      let ba = base_as t None i r ints1 bases p cell_t w.lies in
      let place_is : cell_at_place p ≡ cell_of at.object (at.first + field_of t) = ap cell_at_place at.is in
      let cell_is : (pc : ℕ) (u : State) → cell_at z.flat.globals (place z pc ints1 refs1 u) C ≡ cell_at_place p = λ pc u. at.cell_is pc (pos 0) u ∙ sym place_is in
      let pc1 = pc + length P in
      let held = holding z (T ++ bases) scope ints1 refs1 s1 w.agree in
      let four : c + 6 + 3 + 1 ≡ c + 4 + 6 = omega arith in
      subst (λ q. Same z.flat s1.fuel q (fin_then (unlock_call site p s1) K) s1.answers (place z pc1 ints1 refs1 s1)) four
      (bind z.flat s1.fuel (c + 6 + 3 + 1) s1.answers (unless_stop (holds_mutex s1.events (cell_at_place p)) Trap.MutexNotHeld site s1) (λ _. performs site (Act.Unlock (cell_at_place p)) >> gives_up_base p) K (place z pc1 ints1 refs1 s1)
      (chk_by (holds_mutex s1.events (cell_at_place p)) (Op.ChkHeld C (at_site site)) Trap.MutexNotHeld site pc1 (c + 6 + 3) ints1 refs1 s1 _ has_t.0 (ap (λ q. asserts (holds_mutex s1.events q) Trap.MutexNotHeld (at_site site) (place z pc1 ints1 refs1 s1)) (cell_is pc1 s1)) held
      (unlock_by (has_base t) T bases t i r (pc1 + 1) (c + 6) p site ints1 refs1 s1 K ba re cell_is has_t.1 w.agree
      (λ refs2 u a2.
      subst (λ q. Same z.flat u.fuel (c + 6) (k (pos 0) (without (length T) u)) u.answers (place z q ints1 refs2 (without (length T) u))) (sym end)
      (rest (pos 0) ints1 refs2 (without (length T) u) (record { agree = subst (λ b. Agree z T scope (loose_of b (pos 0)) ints1 refs2 (without (length T) u)) (sym er) a2; kept = w.kept; value = λ h. absurd (cc) })))))))))))
