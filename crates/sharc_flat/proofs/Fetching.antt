-- What is done at places: reads, writes and takes of cells and variables.
use Rattle.sharc_flat.proofs.{Imports.{◌≡◌, ℕ, ◌+◌, ◌<◌, ◌≤◌, Bool, true, false, List, [], ◌∷◌, ◌++◌, length, Option, Some, None, refl, sym, ap, ◌∙◌, subst, arith, length-append, ℤ, pos, CellAt, CellMode, Site, Span, Act, Kind, Use, Assignment, Sharing, cell_of, StorePlace, cell, fetched, access_mode, State, Run, then_on, ◌>>=◌, answered, answer_of, value_in, value_of, is_reference, temporarily, reads_variable, reads, Op, Spot, At, asks, put, accesses, accessed, on, set_int, set_ref, op_turn, Lvalue, Context, int_count, ref_count, register_of, slot_kind, Slot, Target, has_base, base_width, field_of, guard_field, beside_field, guard_cell, guard_code, spot_of, drop_base, settle_base, copy_code, value_code, cell_value_code, PathStands, is_cell}, Under.{under, mutex_of, accesses_under}, Banks.{put_same, put_other}, Runs.{HasAt, has_front, has_back, Fin, fin_then, Same, step, bind, without, after_event}, Agreeing.{Standing, place, Agree, push, with_int, same_frame, Rest}, Accessing.{variable_ref, context, access_runs, pending_place}, Values.{bases_count, variable_int, BasesOf, base_ends, base_settles, int_valued, ref_valued, RunsAs, bases_are, PlaceAs, AtCell, at_cell, open_at, temporarily_runs}}
use Rattle.sharc_flat.specs.Places as targets

module _ (m : Assignment) (z : Standing) (scope : List Slot) where
  abbrev ctx : Context
  ctx = context m z scope

  -- the value of a cell
  module _ (T bases : List ℤ) (t : Target) (guard : Option ℕ) (i r : ℕ) (ints refs : ℕ → ℤ) (p : StorePlace) (w : AtCell m z scope t guard i r ints refs p)
      (site : Site) (lvalue : Lvalue) (mode : Sharing) (guard_as : guard ≡ beside_field m.typed mode) (path : PathStands m.typed scope mode) (below_i : int_count scope ≤ i) (r_is : r ≡ ref_count scope + length T) (count : BasesOf (has_base t) bases) where
    -- what reads a reference from a cell, or takes it
    pub ref_cell_by : (o : Op) (use_made : Use) (act : CellAt → CellMode → Act)
        → ((x : At) → op_turn z.flat o x ≡ accesses z.flat.globals (targets.cell_of z.flat.globals i r t) (spot_of ctx i r site lvalue use_made mode t) act (λ c v. set_ref (r + base_width t) v) x)
        → ((s : State) (mode : CellMode) (x : ℤ) → answer_of (value_in s.frame.variables) (act (cell_of w.object (w.first + field_of t)) mode) x ≡ answer_of (λ token. pos 0) (act (cell_of w.object (w.first + field_of t)) mode) x)
        → (kind : Kind) (pc c : ℕ) (ints0 : ℕ → ℤ) (s : State) (k : ℤ → State → Fin) → is_reference kind ≡ true
        → HasAt z.flat.lines pc (guard_code ctx i r site lvalue t (guard_field m.typed mode) ++ o ∷ settle_base r t) → Agree z (T ++ bases) scope [] ints refs s
        → ((n : ℕ) → n < z.ints + i → ints n ≡ ints0 n) → Rest z kind T scope i (pc + length (guard_code ctx i r site lvalue t (guard_field m.typed mode) ++ o ∷ settle_base r t)) c ints0 k
        → Same z.flat s.fuel (c + 3) (fin_then (then_on (access_mode m.typed site mode w.object w.first s) (λ mode. answered site (act (cell_of w.object (w.first + field_of t)) mode))) (λ x u. k x (without (length T) u))) s.answers (place z pc ints refs s)
    ref_cell_by o use_made act o_is plain kind pc c ints0 s k e has a kept rest =
        let gc = guard_code ctx i r site lvalue t (guard_field m.typed mode) in
        let spot = spot_of ctx i r site lvalue use_made mode t in
        let d = r + base_width t in
        let here = cell_of w.object (w.first + field_of t) in
        let two : c + 1 + 2 ≡ c + 3 = omega arith in
        subst (λ n. Same z.flat s.fuel n (fin_then (then_on (access_mode m.typed site mode w.object w.first s) (λ mode. answered site (act (cell_of w.object (w.first + field_of t)) mode))) (λ x u. k x (without (length T) u))) s.answers (place z pc ints refs s)) two
        (access_runs m z scope (T ++ bases) site spot refl ints refs s a o here (act here) (set_ref d) (λ q v u. place z (q + 1) ints (put refs (z.refs + d) v) u)
        (λ q pending u. o_is (pending_place z q ints refs u pending) ∙ accesses_under z.flat.globals (targets.cell_of z.flat.globals i r t) spot act (λ c v. set_ref (r + base_width t) v) (pending_place z q ints refs u pending) (open_at m z scope t guard i r ints refs p w (beside_field m.typed mode) q pending u) ∙ ap (λ x. under spot.mode (mutex_of z.flat.globals (pending_place z q ints refs u pending) x spot.mode) spot (λ mode. asks (pending_place z q ints refs u pending) spot.site (act x mode) (pos 0) (λ v n. accessed (on (set_ref d v n))))) (w.cell_is q pending u))
        (λ q pending v u. refl) (plain s)
        (λ mode. answered site (act here mode)) (λ x u. k x (without (length T) u)) (λ x u. k x (without (length T) u)) (λ mode u. refl)
        i r w.first 0 lvalue t refl guard w.guard_is mode pc (c + 1) (settle_base r t) guard_as refl path has
        (λ v answers events.
        let u = after_event s answers events in
        let refs1 = put refs (z.refs + d) v in
        let dn : d ≡ ref_count scope + length (T ++ bases) + 0 = omega (arith, r_is, length-append T bases, bases_count (has_base t) bases count) in
        let a1 : Agree z (T ++ bases) scope (v ∷ []) ints refs1 u = push z (T ++ bases) scope [] v d ints refs u dn (same_frame z (T ++ bases) scope [] ints refs s u refl refl a) in
        base_settles m z scope (has_base t) bases T v r (pc + length gc + 1) c ints refs1 u _ count (has_back z.flat.lines pc gc (o ∷ settle_base r t) has).1 r_is a1
        (λ refs' a2.
        let end : pc + length gc + 1 + length (settle_base r t) ≡ pc + length (gc ++ o ∷ settle_base r t) = omega (arith, length-append gc (o ∷ settle_base r t)) in
        subst (λ q. Same z.flat s.fuel c (k v (without (length T) u)) answers (place z q ints refs' (without (length T) u))) (sym end)
        (rest v ints refs' (without (length T) u) (ref_valued m z scope kind T i v ints0 ints refs' (without (length T) u) e a2 kept)))))

    cell_value_by : (b : Bool) (kind : Kind) (pc c : ℕ) (ints0 : ℕ → ℤ) (s : State) (k : ℤ → State → Fin) → is_reference kind ≡ b → HasAt z.flat.lines pc (cell_value_code ctx i r site lvalue mode b t) → Agree z (T ++ bases) scope [] ints refs s
        → ((n : ℕ) → n < z.ints + i → ints n ≡ ints0 n) → Rest z kind T scope i (pc + length (cell_value_code ctx i r site lvalue mode b t)) c ints0 k
        → Same z.flat s.fuel (c + 3) (fin_then (fetched m.typed site mode (cell w.object w.first (w.first + field_of t)) s) (λ x u. k x (without (length T) u))) s.answers (place z pc ints refs s)
    cell_value_by false kind pc c ints0 s k e has a kept rest =
        let gc = guard_code ctx i r site lvalue t (guard_field m.typed mode) in
        let at = targets.cell_of z.flat.globals i r t in
        let spot = spot_of ctx i r site lvalue Use.Read mode t in
        let o = Op.Load i at spot in
        let here = cell_of w.object (w.first + field_of t) in
        let two : c + 1 + 2 ≡ c + 3 = omega arith in
        subst (λ n. Same z.flat s.fuel n (fin_then (fetched m.typed site mode (cell w.object w.first (w.first + field_of t)) s) (λ x u. k x (without (length T) u))) s.answers (place z pc ints refs s)) two
        (access_runs m z scope (T ++ bases) site spot refl ints refs s a o here (Act.Read here) (set_int i) (λ q v u. place z (q + 1) (put ints (z.ints + i) v) refs u)
        (λ q pending u. accesses_under z.flat.globals at spot Act.Read (λ c v. set_int i v) (pending_place z q ints refs u pending) (open_at m z scope t guard i r ints refs p w (beside_field m.typed mode) q pending u) ∙ ap (λ x. under spot.mode (mutex_of z.flat.globals (pending_place z q ints refs u pending) x spot.mode) spot (λ mode. asks (pending_place z q ints refs u pending) spot.site (Act.Read x mode) (pos 0) (λ v n. accessed (on (set_int i v n))))) (w.cell_is q pending u))
        (λ q pending v u. refl) (λ mode x. refl)
        (λ mode. answered site (Act.Read here mode)) (λ x u. k x (without (length T) u)) (λ x u. k x (without (length T) u)) (λ mode u. refl)
        i r w.first 0 lvalue t refl guard w.guard_is mode pc (c + 1) (drop_base r t) guard_as refl path has
        (λ v answers events.
        let u = after_event s answers events in
        let ints' = put ints (z.ints + i) v in
        let a1 : Agree z (T ++ bases) scope [] ints' refs u = with_int z (T ++ bases) scope [] i v ints refs u below_i (same_frame z (T ++ bases) scope [] ints refs s u refl refl a) in
        base_ends m z scope (has_base t) bases T r (pc + length gc + 1) c ints' refs u _ count (has_back z.flat.lines pc gc (o ∷ drop_base r t) has).1 r_is a1
        (λ refs' a2.
        let end : pc + length gc + 1 + length (drop_base r t) ≡ pc + length (gc ++ o ∷ drop_base r t) = omega (arith, length-append gc (o ∷ drop_base r t)) in
        subst (λ q. Same z.flat s.fuel c (k v (without (length T) u)) answers (place z q ints' refs' (without (length T) u))) (sym end)
        (rest v ints' refs' (without (length T) u) (int_valued m z scope kind T i v ints0 ints' refs' (without (length T) u) e a2
        (λ n lt. put_other ints (z.ints + i) v n (λ q. omega arith) ∙ kept n lt) (put_same ints (z.ints + i) v))))))
    cell_value_by true kind pc c ints0 s k e has a kept rest =
        ref_cell_by (Op.LoadRef (r + base_width t) (targets.cell_of z.flat.globals i r t) (spot_of ctx i r site lvalue Use.Read mode t)) Use.Read Act.Read (λ x. refl) (λ c mode x. refl) kind pc c ints0 s k e has a kept rest

  -- ---- variables
  pub copy_runs : (kind : Kind) (x : ℕ) (site : Site) → slot_kind scope x ≡ Some (is_reference kind) → RunsAs m z scope kind 7 (reads_variable site x) (λ i r. copy_code i r (register_of scope x))
  copy_runs kind x site stands = by (is_reference kind) refl
    where
      by : (b : Bool) → is_reference kind ≡ b → RunsAs m z scope kind 7 (reads_variable site x) (λ i r. copy_code i r (register_of scope x))
      by false e T i r pc c ints refs s k has le re a rest =
          let w = variable_int z T scope [] ints refs s x (stands ∙ ap Some e) a in
          let u : State = record s { trace = s.trace ++ record { use_made = reads; variable = x; site = site; call = s.frame.call } ∷ [] } in
          let has1 : HasAt z.flat.lines pc (Op.Move i w.n ∷ []) = subst (λ g. HasAt z.flat.lines pc (copy_code i r g)) w.register has in
          let end : pc + length (copy_code i r (register_of scope x)) ≡ pc + 1 = ap (λ g. pc + length (copy_code i r g)) w.register in
          let ints1 = put ints (z.ints + i) (ints (z.ints + w.n)) in
          let seven : c + 6 + 1 ≡ c + 7 = omega arith in
          subst (λ n. Same z.flat s.fuel n (k (value_of s x) u) s.answers (place z pc ints refs s)) seven
          (step z.flat (Op.Move i w.n) s.fuel (c + 6) (k (value_of s x) u) s.answers (place z pc ints refs s) (place z (pc + 1) ints1 refs u) has1.0 refl
          (subst (λ q. Same z.flat s.fuel (c + 6) (k (value_of s x) u) s.answers (place z q ints1 refs u)) end
          (rest (value_of s x) ints1 refs u (int_valued m z scope kind T i (value_of s x) ints ints1 refs u e
          (with_int z T scope [] i (ints (z.ints + w.n)) ints refs u le (same_frame z T scope [] ints refs s u refl refl a))
          (λ n lt. put_other ints (z.ints + i) _ n (λ q. omega arith)) (put_same ints (z.ints + i) _ ∙ w.value)))))
      by true e T i r pc c ints refs s k has le re a rest =
          let w = variable_ref z T scope [] ints refs s x (stands ∙ ap Some e) a in
          let u : State = record s { trace = s.trace ++ record { use_made = reads; variable = x; site = site; call = s.frame.call } ∷ [] } in
          let has1 : HasAt z.flat.lines pc (Op.Local r w.n ∷ []) = subst (λ g. HasAt z.flat.lines pc (copy_code i r g)) w.register has in
          let end : pc + length (copy_code i r (register_of scope x)) ≡ pc + 1 = ap (λ g. pc + length (copy_code i r g)) w.register in
          let refs1 = put refs (z.refs + r) (refs (z.refs + w.n)) in
          let seven : c + 6 + 1 ≡ c + 7 = omega arith in
          let n : r ≡ ref_count scope + length T + 0 = omega arith in
          let a1 : Agree z T scope (refs (z.refs + w.n) ∷ []) ints refs1 u = push z T scope [] (refs (z.refs + w.n)) r ints refs u n (same_frame z T scope [] ints refs s u refl refl a) in
          subst (λ n. Same z.flat s.fuel n (k (value_of s x) u) s.answers (place z pc ints refs s)) seven
          (step z.flat (Op.Local r w.n) s.fuel (c + 6) (k (value_of s x) u) s.answers (place z pc ints refs s) (place z (pc + 1) ints refs1 u) has1.0 refl
          (subst (λ q. Same z.flat s.fuel (c + 6) (k (value_of s x) u) s.answers (place z q ints refs1 u)) end
          (rest (value_of s x) ints refs1 u (ref_valued m z scope kind T i (value_of s x) ints ints refs1 u e
          (subst (λ v. Agree z T scope (v ∷ []) ints refs1 u) w.value a1) (λ n lt. refl)))))

  -- ---- what is where a place lies
  value_code_is : (i r : ℕ) (site : Site) (lvalue : Lvalue) (mode : Sharing) (b : Bool) (t : Target) → is_cell t ≡ true → value_code ctx i r site lvalue mode b t ≡ cell_value_code ctx i r site lvalue mode b t
  value_code_is i r site lvalue mode b (targets.variable x) e = absurd (cc)
  value_code_is i r site lvalue mode b _ e = refl

  -- the value of a cell that an lvalue names
  pub fetch_runs : (kind : Kind) (t : Target) (need : ℕ) (run : Run StorePlace) (pcode : ℕ → ℕ → List Op) (site : Site) (lvalue : Lvalue) (mode : Sharing) → PlaceAs m z scope t None (beside_field m.typed mode) need run pcode
      → is_cell t ≡ true → PathStands m.typed scope mode → RunsAs m z scope kind (need + 3) (temporarily (run >>= λ p. fetched m.typed site mode p)) (λ i r. pcode i r ++ value_code ctx i r site lvalue mode (is_reference kind) t)
  fetch_runs kind t need run pcode site lvalue mode found cell_t path T i r pc c ints refs s k has le re a rest =
      let vc = value_code ctx i r site lvalue mode (is_reference kind) t in
      let cv = cell_value_code ctx i r site lvalue mode (is_reference kind) t in
      let same = value_code_is i r site lvalue mode (is_reference kind) t cell_t in
      let all : c + 3 + need ≡ c + (need + 3) = omega arith in
      let some : c + 6 + 3 ≡ c + 3 + 6 = omega arith in
      let end : pc + length (pcode i r) + length cv ≡ pc + length (pcode i r ++ vc) = omega (arith, length-append (pcode i r) vc, ap length same) in
      let k1 : ℤ → State → Fin = λ x u. k x (without (length T) u) in
      subst (λ n. Same z.flat s.fuel n (fin_then (temporarily (run >>= λ p. fetched m.typed site mode p) s) k) s.answers (place z pc ints refs s)) all
      (temporarily_runs m z scope T s.fuel (c + 3 + need) s.answers (run >>= λ p. fetched m.typed site mode p) s k (place z pc ints refs s) a.temporaries
      (bind z.flat s.fuel (c + 3 + need) s.answers (run s) (λ p. fetched m.typed site mode p) k1 (place z pc ints refs s)
      (found T i r pc (c + 3) ints refs s (λ p u. fin_then (fetched m.typed site mode p u) k1) (has_front z.flat.lines pc (pcode i r) vc has) le re a
      (λ p bases ints1 refs1 s1 w.
      let at = at_cell m z scope t (beside_field m.typed mode) T [] i r bases p ints1 refs1 s1 cell_t re w.agree w.lies in
      subst (λ q. Same z.flat s1.fuel (c + 3 + 6) (fin_then (fetched m.typed site mode q s1) k1) s1.answers (place z (pc + length (pcode i r)) ints1 refs1 s1)) (sym at.is)
      (subst (λ n. Same z.flat s1.fuel n (fin_then (fetched m.typed site mode (cell at.object at.first (at.first + field_of t)) s1) k1) s1.answers (place z (pc + length (pcode i r)) ints1 refs1 s1)) some
      (cell_value_by T bases t (beside_field m.typed mode) i r ints1 refs1 p at site lvalue mode refl path le re (bases_are m z scope t (beside_field m.typed mode) i ints1 bases p w.lies) (is_reference kind) kind (pc + length (pcode i r)) (c + 6) ints s1 k refl
      (subst (λ l. HasAt z.flat.lines (pc + length (pcode i r)) l) same (has_back z.flat.lines pc (pcode i r) vc has)) w.agree w.kept
      (subst (λ q. Rest z kind T scope i q (c + 6) ints k) (sym end) rest)))))))
