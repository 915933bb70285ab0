-- What goes to places, and what is taken from them.
use Rattle.sharc_flat.proofs.{Imports.{◌≡◌, ℕ, ◌+◌, ◌-◌, ◌<◌, ◌≤◌, Bool, true, false, cond, List, [], ◌∷◌, ◌++◌, length, get_or, take, Option, Some, refl, sym, ap, ◌∙◌, subst, ⊎_elim, arith, length-append, take_at, set-append_left, set-append_right, get_or-set_same, get_or-set_other, cases_eq, set, ℤ, pos, Act, Object, Site, Span, Kind, Use, Int, Reference, Assignment, Sharing, Released, Replaced, cell_of, StorePlace, variable, access_mode, stored, number_of, State, Out, go, over, Run, then_on, ◌>>=◌, ◌>>◌, happens, value_of, is_reference, pointers_among, all_released, writes, Step, done, performs, holds_reference, moves_on, gives_up, with_value, with_temporary, without_temporaries, Op, Spot, asks, put, accessed, on, set_ref, also, Lvalue, Context, ref_count, register_of, number_in, slot_kind, Slot, Target, in_global, in_global_at, in_object, in_object_at, has_base, base_width, field_of, guard_field, beside_field, guard_cell, guard_code, spot_of, drop_base, settle_base, settle_code, cell_store_code, store_code, cell_take_code, take_code, PathStands}, Under.{under, mutex_of, accesses_under}, Banks.{bank_is, bank_set, put_at, put_other}, Runs.{HasAt, has_back, Fin, fin_then, Same, step, without, after_event}, Agreeing.{int_values, PointerAt, pointer_at, IntAt, int_at, Standing, place, Agree, below, drop_last, last_is, hold, same_frame, loose_of}, Accessing.{variable_ref, context, access_runs, pending_place}, Values.{bases_count, loosen, BasesOf, base_ends, AtCell, open_at}}
use Rattle.sharc_flat.specs.Places as targets

pub performs_then : {B : Type 0} (o : Out ℤ) (g : Run B) (k : B → State → Fin) → fin_then (then_on (then_on o (λ _. done)) (λ _. g)) k ≡ fin_then o (λ x u. fin_then (g u) k)
performs_then (go x s) g k = refl
performs_then (over o s) g k = refl

module _ (m : Assignment) (z : Standing) (scope : List Slot) where
  abbrev ctx : Context
  ctx = context m z scope

  -- the last temporary has gone elsewhere
  pub moved_on : (T : List ℤ) (v : ℤ) (n : ℕ) (ints refs : ℕ → ℤ) (s : State) → n ≡ ref_count scope + length T → Agree z (T ++ v ∷ []) scope [] ints refs s
      → Agree z T scope [] ints (put refs (z.refs + n) (pos 0)) (record s { frame = without_temporaries 1 s.frame })
  moved_on T v n ints refs s e a =
      let l : length s.frame.temporaries - 1 ≡ length T = omega (arith, ap length a.temporaries, length-append T (v ∷ [])) in
      let n0 : n ≡ ref_count scope + length T + 0 = omega arith in
      let a1 : Agree z T scope (v ∷ []) ints refs (without (length T) s) = loosen z T scope (v ∷ []) [] ints refs s a in
      let a2 = drop_last z T scope [] v n ints refs (without (length T) s) n0 a1 in
      record {
        callers = a2.callers;
        shape = a2.shape;
        ints = a2.ints;
        refs = a2.refs;
        temporaries = ap (λ q. take q s.frame.temporaries) l ∙ ap (take (length T)) a.temporaries ∙ take_at T (v ∷ []) (length T) refl;
      }

  -- ---- a value goes to a cell
  -- what is done, by whether the value is a reference
  abbrev pub stores : Bool → Bool → Site → Sharing → Object → ℕ → ℕ → ℤ → Step
  stores b bp site mode o first n v =
      (cond b (holds_reference v) done) >> (access_mode m.typed site mode o first >>= λ under. performs site (Act.Write (cell_of o n) under v) >> ((cond b (moves_on 1) done) >> (cond bp (gives_up (Replaced (cell_of o n) ∷ [])) done)))

  module _ (T bases : List ℤ) (t : Target) (guard : Option ℕ) (i r vi vr : ℕ) (ints refs : ℕ → ℤ) (p : StorePlace) (w : AtCell m z scope t guard i r ints refs p)
      (site : Site) (lvalue : Lvalue) (mode : Sharing) (guard_as : guard ≡ beside_field m.typed mode) (path : PathStands m.typed scope mode) (vr_is : vr ≡ r + base_width t) (r_is : r ≡ ref_count scope + length T) (count : BasesOf (has_base t) bases) where
    pub store_cell : (b : Bool) (v : ℤ) (pc c : ℕ) (s : State) (k : Unit {0} → State → Fin) → HasAt z.flat.lines pc (cell_store_code ctx i r vi vr site lvalue mode b t)
        → Agree z (T ++ bases) scope (loose_of b v) ints refs s → (b ≡ false → ints (z.ints + vi) ≡ v)
        → ((refs' : ℕ → ℤ) (u : State) → Agree z T scope [] ints refs' u → Same z.flat u.fuel c (k tt u) u.answers (place z (pc + length (cell_store_code ctx i r vi vr site lvalue mode b t)) ints refs' u))
        → Same z.flat s.fuel (c + 3) (fin_then (stores b b site mode w.object w.first (w.first + field_of t) v s) (λ x u. k x (without (length T) u))) s.answers (place z pc ints refs s)
    store_cell false v pc c s k has a value rest =
        let gc = guard_code ctx i r site lvalue t (guard_field m.typed mode) in
        let at = targets.cell_of z.flat.globals i r t in
        let spot = spot_of ctx i r site lvalue Use.Write mode t in
        let o = Op.Store vi at spot in
        let here = cell_of w.object (w.first + field_of t) in
        let two : c + 1 + 2 ≡ c + 3 = omega arith in
        let k1 : Unit {0} → State → Fin = λ x u. k x (without (length T) u) in
        subst (λ n. Same z.flat s.fuel n (fin_then (stores false false site mode w.object w.first (w.first + field_of t) v s) k1) s.answers (place z pc ints refs s)) two
        (access_runs m z scope (T ++ bases) site spot refl ints refs s a o here (λ mode. Act.Write here mode v) (λ v n. n) (λ q v u. place z (q + 1) ints refs u)
        (λ q pending u. accesses_under z.flat.globals at spot (λ c mode. Act.Write c mode (ints (z.ints + vi))) (λ c v n. n) (pending_place z q ints refs u pending) (open_at m z scope t guard i r ints refs p w (beside_field m.typed mode) q pending u) ∙ ap (λ x. under spot.mode (mutex_of z.flat.globals (pending_place z q ints refs u pending) x spot.mode) spot (λ mode. asks (pending_place z q ints refs u pending) spot.site (Act.Write x mode (ints (z.ints + vi))) (pos 0) (λ v n. accessed (on n)))) (w.cell_is q pending u)
        ∙ ap (λ y. under spot.mode (mutex_of z.flat.globals (pending_place z q ints refs u pending) here spot.mode) spot (λ mode. asks (pending_place z q ints refs u pending) spot.site (Act.Write here mode y) (pos 0) (λ v n. accessed (on n)))) (value refl))
        (λ q pending v u. refl) (λ mode x. refl)
        (λ mode. performs site (Act.Write here mode v) >> (done >> done)) k1 (λ x u. k1 tt u) (λ mode u. performs_then (happens u.answers site (Act.Write here mode v) u) (done >> done) k1)
        i r w.first 0 lvalue t refl guard w.guard_is mode pc (c + 1) (drop_base r t) guard_as refl path has
        (λ v answers events.
        let u = after_event s answers events in
        let a1 : Agree z (T ++ bases) scope [] ints refs u = same_frame z (T ++ bases) scope [] ints refs s u refl refl a in
        base_ends m z scope (has_base t) bases T r (pc + length gc + 1) c ints refs u _ count (has_back z.flat.lines pc gc (o ∷ drop_base r t) has).1 r_is a1
        (λ refs' a2.
        let end : pc + length gc + 1 + length (drop_base r t) ≡ pc + length (gc ++ o ∷ drop_base r t) = omega (arith, length-append gc (o ∷ drop_base r t)) in
        subst (λ q. Same z.flat s.fuel c (k tt (without (length T) u)) answers (place z q ints refs' (without (length T) u))) (sym end) (rest refs' (without (length T) u) a2))))
    store_cell true v pc c s k has a value rest =
        let gc = guard_code ctx i r site lvalue t (guard_field m.typed mode) in
        let at = targets.cell_of z.flat.globals i r t in
        let spot = spot_of ctx i r site lvalue Use.Write mode t in
        let o = Op.StoreRef vr at spot in
        let here = cell_of w.object (w.first + field_of t) in
        let two : c + 1 + 2 ≡ c + 3 = omega arith in
        let k1 : Unit {0} → State → Fin = λ x u. k x (without (length T) u) in
        let dn : vr ≡ ref_count scope + length (T ++ bases) = omega (arith, r_is, vr_is, length-append T bases, bases_count (has_base t) bases count) in
        let dn0 : vr ≡ ref_count scope + length (T ++ bases) + 0 = omega arith in
        let value_is : refs (z.refs + vr) ≡ v = last_is z (T ++ bases) scope [] v [] vr ints refs s dn0 a in
        let s1 : State = record s { frame = with_temporary v s.frame } in
        let a0 : Agree z ((T ++ bases) ++ v ∷ []) scope [] ints refs s1 = hold z (T ++ bases) scope v ints refs s a in
        let refs1 = put refs (z.refs + vr) (pos 0) in
        subst (λ n. Same z.flat s.fuel n (fin_then (stores true true site mode w.object w.first (w.first + field_of t) v s) k1) s.answers (place z pc ints refs s)) two
        (access_runs m z scope ((T ++ bases) ++ v ∷ []) site spot refl ints refs s1 a0 o here (λ mode. Act.Write here mode v) (λ v n. also (Replaced here) (set_ref vr (pos 0) n)) (λ q v u. place z (q + 1) ints refs1 (record u { given_up = u.given_up ++ Replaced here ∷ [] }))
        (λ q pending u. accesses_under z.flat.globals at spot (λ c mode. Act.Write c mode (refs (z.refs + vr))) (λ c v n. also (Replaced c) (set_ref vr (pos 0) n)) (pending_place z q ints refs u pending) (open_at m z scope t guard i r ints refs p w (beside_field m.typed mode) q pending u) ∙ ap (λ x. under spot.mode (mutex_of z.flat.globals (pending_place z q ints refs u pending) x spot.mode) spot (λ mode. asks (pending_place z q ints refs u pending) spot.site (Act.Write x mode (refs (z.refs + vr))) (pos 0) (λ v n. accessed (on (also (Replaced x) (set_ref vr (pos 0) n)))))) (w.cell_is q pending u)
        ∙ ap (λ y. under spot.mode (mutex_of z.flat.globals (pending_place z q ints refs u pending) here spot.mode) spot (λ mode. asks (pending_place z q ints refs u pending) spot.site (Act.Write here mode y) (pos 0) (λ v n. accessed (on (also (Replaced here) (set_ref vr (pos 0) n)))))) value_is)
        (λ q pending v u. refl) (λ mode x. refl)
        (λ mode. performs site (Act.Write here mode v) >> (moves_on 1 >> gives_up (Replaced here ∷ []))) k1 (λ x u. fin_then ((moves_on 1 >> gives_up (Replaced here ∷ [])) u) k1)
        (λ mode u. performs_then (happens u.answers site (Act.Write here mode v) u) (moves_on 1 >> gives_up (Replaced here ∷ [])) k1)
        i r w.first 0 lvalue t refl guard w.guard_is mode pc (c + 1) (drop_base r t) guard_as refl path has
        (λ x answers events.
        let u = after_event s1 answers events in
        let u1 : State = record u { frame = without_temporaries 1 u.frame } in
        let u2 : State = record u1 { given_up = u1.given_up ++ Replaced here ∷ [] } in
        let a1 : Agree z (T ++ bases) scope [] ints refs1 u1 = moved_on (T ++ bases) v vr ints refs u dn (same_frame z ((T ++ bases) ++ v ∷ []) scope [] ints refs s1 u refl refl a0) in
        let a2 : Agree z (T ++ bases) scope [] ints refs1 u2 = same_frame z (T ++ bases) scope [] ints refs1 u1 u2 refl refl a1 in
        base_ends m z scope (has_base t) bases T r (pc + length gc + 1) c ints refs1 u2 _ count (has_back z.flat.lines pc gc (o ∷ drop_base r t) has).1 r_is a2
        (λ refs' a3.
        let end : pc + length gc + 1 + length (drop_base r t) ≡ pc + length (gc ++ o ∷ drop_base r t) = omega (arith, length-append gc (o ∷ drop_base r t)) in
        subst (λ q. Same z.flat s.fuel c (k tt (without (length T) u2)) answers (place z q ints refs' (without (length T) u2))) (sym end) (rest refs' (without (length T) u2) a3))))

  -- ---- a value goes to a variable
  -- an integer
  pub store_int : (T : List ℤ) (x : ℕ) (kind : Kind) (site : Site) (mode : Sharing) (v : ℤ) (vi vr pc c : ℕ) (ints refs : ℕ → ℤ) (s : State) (k : Unit {0} → State → Fin) → slot_kind scope x ≡ Some false → is_reference kind ≡ false
      → HasAt z.flat.lines pc (settle_code vi vr (register_of scope x)) → Agree z T scope [] ints refs s → ints (z.ints + vi) ≡ v
      → ((ints' : ℕ → ℤ) (u : State) → Agree z T scope [] ints' refs u → ((q : ℕ) → q < z.ints → ints' q ≡ ints q) → Same z.flat u.fuel c (k tt u) u.answers (place z (pc + 1) ints' refs u))
      → Same z.flat s.fuel (c + 1) (fin_then (stored m.typed site kind mode (variable x) v s) k) s.answers (place z pc ints refs s)
  store_int T x kind site mode v vi vr pc c ints refs s k stands e has a value rest =
      let w : IntAt 0 0 s.frame.variables x = int_at s.frame.variables x 0 0 (subst (λ sc. slot_kind sc x ≡ Some false) (sym a.shape) stands) in
      let n0 : 0 + w.n ≡ w.n = omega arith in
      let reg : register_of scope x ≡ Int w.n = subst (λ sc. register_of sc x ≡ Int (0 + w.n)) a.shape w.register ∙ ap Int n0 in
      let has1 : HasAt z.flat.lines pc (Op.Move w.n vi ∷ []) = subst (λ g. HasAt z.flat.lines pc (settle_code vi vr g)) reg has in
      let u1 : State = record s { trace = s.trace ++ record { use_made = writes; variable = x; site = site; call = s.frame.call } ∷ [] } in
      let u : State = record u1 { frame = record s.frame { variables = with_value s.frame.variables x v } } in
      let ints1 = put ints (z.ints + w.n) (ints (z.ints + vi)) in
      let a1 : Agree z T scope [] ints1 refs u = record {
        callers = a.callers;
        temporaries = a.temporaries;
        shape = w.shape v ∙ a.shape;
        ints = λ j lt. ⊎_elim
            (λ (is : j ≡ w.n). put_at ints (z.ints + w.n) (z.ints + j) _ (ap (λ q. z.ints + q) is) ∙ value
            ∙ sym (ap (λ l. get_or l j (pos 0)) (w.set_is v) ∙ ap (λ q. get_or (set (int_values s.frame.variables) w.n v) q (pos 0)) is ∙ get_or-set_same (int_values s.frame.variables) w.n v (pos 0) w.within))
            (λ (ne : j ≡ w.n → ⊥). put_other ints (z.ints + w.n) _ (z.ints + j) (λ q. ne (omega arith)) ∙ a.ints j lt
            ∙ sym (ap (λ l. get_or l j (pos 0)) (w.set_is v) ∙ get_or-set_other (int_values s.frame.variables) w.n j v (pos 0) ne))
            (cases_eq j w.n);
        refs = bank_is refs _ _ (ap (λ l. below z.callers ++ (l ++ (T ++ []))) (sym (w.refs_stay v))) a.refs;
      } in
      subst (λ b. Same z.flat s.fuel (c + 1) (fin_then ((cond b (gives_up (all_released (value_of s x ∷ []))) done) u) k) s.answers (place z pc ints refs s)) (sym e)
      (step z.flat (Op.Move w.n vi) s.fuel c (k tt u) s.answers (place z pc ints refs s) (place z (pc + 1) ints1 refs u) has1.0 refl (rest ints1 u a1 (λ q lt. put_other ints (z.ints + w.n) _ q (λ h. omega arith))))

  -- a reference
  pub store_reference : (T : List ℤ) (x : ℕ) (kind : Kind) (site : Site) (mode : Sharing) (v : ℤ) (vi vr pc c : ℕ) (ints refs : ℕ → ℤ) (s : State) (k : Unit {0} → State → Fin) → slot_kind scope x ≡ Some true → is_reference kind ≡ true
      → HasAt z.flat.lines pc (settle_code vi vr (register_of scope x)) → Agree z T scope (v ∷ []) ints refs s → vr ≡ ref_count scope + length T
      → ((refs' : ℕ → ℤ) (u : State) → Agree z T scope [] ints refs' u → Same z.flat u.fuel c (k tt u) u.answers (place z (pc + 1) ints refs' u))
      → Same z.flat s.fuel (c + 1) (fin_then (stored m.typed site kind mode (variable x) v s) k) s.answers (place z pc ints refs s)
  store_reference T x kind site mode v vi vr pc c ints refs s k stands e has a vr_is rest =
      let w : PointerAt 0 0 s.frame.variables x = pointer_at s.frame.variables x 0 0 (subst (λ sc. slot_kind sc x ≡ Some true) (sym a.shape) stands) in
      let g = variable_ref z T scope (v ∷ []) ints refs s x stands a in
      let n0 : 0 + w.n ≡ w.n = omega arith in
      let reg : register_of scope x ≡ Reference w.n = subst (λ sc. register_of sc x ≡ Reference (0 + w.n)) a.shape w.register ∙ ap Reference n0 in
      let same_n : g.n ≡ w.n = ap number_in (sym g.register ∙ reg) in
      let old_is : refs (z.refs + w.n) ≡ value_of s x = subst (λ q. refs (z.refs + q) ≡ value_of s x) same_n g.value in
      let has1 : HasAt z.flat.lines pc (Op.Settle w.n vr ∷ []) = subst (λ g. HasAt z.flat.lines pc (settle_code vi vr g)) reg has in
      let u1 : State = record s { trace = s.trace ++ record { use_made = writes; variable = x; site = site; call = s.frame.call } ∷ [] } in
      let u2 : State = record u1 { frame = record s.frame { variables = with_value s.frame.variables x v } } in
      let u : State = record u2 { given_up = s.given_up ++ Released (number_of (value_of s x)) ∷ [] } in
      let vr0 : vr ≡ ref_count scope + length T + 0 = omega arith in
      let v_is : refs (z.refs + vr) ≡ v = last_is z T scope [] v [] vr ints refs s vr0 a in
      let refs0 = put refs (z.refs + vr) (pos 0) in
      let a0 : Agree z T scope [] ints refs0 s = drop_last z T scope [] v vr ints refs s vr0 a in
      let refs1 = put refs0 (z.refs + w.n) (refs (z.refs + vr)) in
      let P = pointers_among s.frame.variables in
      let B = below z.callers in
      let first = z.first in
      let wn = w.within in
      let le : length B ≤ z.refs + w.n = omega arith in
      let sub_is : z.refs + w.n - length B ≡ w.n = omega arith in
      let lt : z.refs + w.n < length (B ++ (P ++ (T ++ []))) = omega (arith, length-append B (P ++ (T ++ [])), length-append P (T ++ [])) in
      let set_is : set (B ++ (P ++ (T ++ []))) (z.refs + w.n) (refs (z.refs + vr)) ≡ B ++ (pointers_among (with_value s.frame.variables x v) ++ (T ++ [])) =
      set-append_right B (P ++ (T ++ [])) (length B) (z.refs + w.n) (refs (z.refs + vr)) refl le
      ∙ ap (λ q. B ++ set (P ++ (T ++ [])) q (refs (z.refs + vr))) sub_is
      ∙ ap (λ l. B ++ l) (set-append_left P (T ++ []) w.n (refs (z.refs + vr)) w.within)
      ∙ ap (λ q. B ++ (set P w.n q ++ (T ++ []))) v_is
      ∙ ap (λ l. B ++ (l ++ (T ++ []))) (sym (w.set_is v)) in
      let a1 : Agree z T scope [] ints refs1 u = record {
        callers = a.callers;
        temporaries = a.temporaries;
        shape = w.shape v ∙ a.shape;
        ints = λ j lt. a.ints j lt ∙ ap (λ l. get_or l j (pos 0)) (sym (w.ints_stay v));
        refs = bank_is refs1 _ _ set_is (bank_set refs0 (B ++ (P ++ (T ++ []))) (z.refs + w.n) (refs (z.refs + vr)) lt a0.refs);
      } in
      let gp : record (place z (pc + 1) ints refs1 u) { given = s.given_up ++ Released (number_of (refs (z.refs + w.n))) ∷ [] } ≡ place z (pc + 1) ints refs1 u =
      ap (λ q. record (place z (pc + 1) ints refs1 u) { given = s.given_up ++ Released (number_of q) ∷ [] }) old_is in
      subst (λ b. Same z.flat s.fuel (c + 1) (fin_then ((cond b (gives_up (all_released (value_of s x ∷ []))) done) u2) k) s.answers (place z pc ints refs s)) (sym e)
      (step z.flat (Op.Settle w.n vr) s.fuel c (k tt u) s.answers (place z pc ints refs s) _ has1.0 refl
      (subst (λ q. Same z.flat s.fuel c (k tt u) s.answers q) (sym gp) (rest refs1 u a1)))
