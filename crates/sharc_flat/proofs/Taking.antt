-- What is taken, given and freed, and what is made.
use Rattle.sharc_flat.proofs.{Imports.{◌≡◌, ℕ, zero, suc, ◌+◌, ◌-◌, ◌<◌, ◌≤◌, Bool, true, false, cond, List, [], ◌∷◌, ◌++◌, length, get_or, take, Option, Some, None, refl, sym, ap, ◌∙◌, subst, arith, length-append, append-nil, take_at, set-append_left, set-append_right, set, ℤ, pos, slice_get, unsigned_abs, Act, Global, Site, Span, TakeKind, Kind, is_integer, Named, Use, Reference, Text, elements_made, Assignment, Sharing, locked, cell_of, instance_mode, mutex_named, through, field_place_behind, StorePlace, variable, cell, taken_from, nulled, cast_to, freed, number_of, is_null, NULL, State, Run, then_on, ◌>>=◌, ◌>>◌, give, entered, happens, answered, value_of, is_reference, pointers_among, temporarily, nulls, done, moves_on, with_value, with_temporary, without_temporaries, stopped, unless_stop, event_of, Emptied, is_positive, Op, Spot, goes, asks, put, accesses, first_cell, on, set_ref, asserts, over_lines, take_kind_of, variable_of, mode_of_object, takes_local, moved, at_words, Context, ref_count, register_of, number_in, slot_kind, at_site, Lvalue, Slot, Target, in_global, in_global_at, in_object, in_object_at, has_base, base_width, field_of, guard_field, beside_field, guard_cell, guard_code, spot_of, drop_base, settle_base, settle_code, cell_value_code, cell_store_code, store_code, cell_take_code, take_code, target, own_field, global_of, bounds_code, index_code, pointee_code, width_of, base_as_width, width_code, guard_width, index_width, object_mode, object_mode_named, object_spot, PathStands, is_cell, PathNamed, Taken, named_at, CellMode, Trap}, Banks.{Bank, bank_is, bank_set}, Runs.{HasAt, has_front, has_back, Fin, fin_then, Same, weaken, step, bind, without, enters_at, after_event, ends, asks_at}, Agreeing.{slots_of, int_values, PointerAt, pointer_at, Standing, place, Agree, below, holding, push, last_is, hold, same_frame, loose_of, Rest}, Accessing.{variable_ref, context}, Values.{integer_is, loosen, ref_valued, RunsAs, bases_are, PlaceAs, at_cell, temporarily_runs}, Fetching.ref_cell_by, Popping.{AllNull, trailing}, Computing.none_end, Storing.{performs_then, moved_on}, Under.positive_elements}
use Rattle.sharc_flat.specs.Places as targets

null_is : (v : ℤ) → is_null v ≡ true → v ≡ pos 0
null_is (pos zero) h = refl
null_is _ h = absurd (cc)

module _ (m : Assignment) (z : Standing) (scope : List Slot) where
  abbrev ctx : Context
  ctx = context m z scope

  -- a pointer variable has another value
  set_variable : (T L : List ℤ) (x : ℕ) (w : ℤ) (ints refs : ℕ → ℤ) (s u : State) → slot_kind scope x ≡ Some true → Agree z T scope L ints refs s
      → u.callers ≡ s.callers → u.frame.temporaries ≡ s.frame.temporaries → u.frame.variables ≡ with_value s.frame.variables x w
      → Agree z T scope L ints (put refs (z.refs + number_in (register_of scope x)) w) u
  set_variable T L x w ints refs s u stands a ec et ev =
      let p : PointerAt 0 0 s.frame.variables x = pointer_at s.frame.variables x 0 0 (subst (λ sc. slot_kind sc x ≡ Some true) (sym a.shape) stands) in
      let n0 : 0 + p.n ≡ p.n = omega arith in
      let reg : number_in (register_of scope x) ≡ p.n = ap number_in (subst (λ sc. register_of sc x ≡ Reference (0 + p.n)) a.shape p.register) ∙ n0 in
      let P = pointers_among s.frame.variables in
      let B = below z.callers in
      let first = z.first in
      let wn = p.within in
      let le : length B ≤ z.refs + p.n = omega arith in
      let sub_is : z.refs + p.n - length B ≡ p.n = omega arith in
      let lt : z.refs + p.n < length (B ++ (P ++ (T ++ L))) = omega (arith, length-append B (P ++ (T ++ L)), length-append P (T ++ L)) in
      let set_is : set (B ++ (P ++ (T ++ L))) (z.refs + p.n) w ≡ B ++ (pointers_among u.frame.variables ++ (T ++ L)) =
      set-append_right B (P ++ (T ++ L)) (length B) (z.refs + p.n) w refl le ∙ ap (λ q. B ++ set (P ++ (T ++ L)) q w) sub_is ∙ ap (λ l. B ++ l) (set-append_left P (T ++ L) p.n w p.within)
      ∙ ap (λ l. B ++ (l ++ (T ++ L))) (sym (p.set_is w)) ∙ ap (λ l. B ++ (pointers_among l ++ (T ++ L))) (sym ev) in
      record {
        callers = ec ∙ a.callers;
        temporaries = et ∙ a.temporaries;
        shape = ap slots_of ev ∙ p.shape w ∙ a.shape;
        ints = λ j jl. a.ints j jl ∙ ap (λ l. get_or l j (pos 0)) (sym (ap int_values ev ∙ p.ints_stay w));
        refs = subst (λ q. Bank (put refs (z.refs + q) w) (B ++ (pointers_among u.frame.variables ++ (T ++ L)))) (sym reg)
            (bank_is (put refs (z.refs + p.n) w) _ _ set_is (bank_set refs (B ++ (P ++ (T ++ L))) (z.refs + p.n) w lt a.refs));
      }

  -- the last temporary is no longer one, and is still in its register
  let_go : (T : List ℤ) (v : ℤ) (ints refs : ℕ → ℤ) (s : State) → Agree z (T ++ v ∷ []) scope [] ints refs s → Agree z T scope (v ∷ []) ints refs (record s { frame = without_temporaries 1 s.frame })
  let_go T v ints refs s a =
      let l : length s.frame.temporaries - 1 ≡ length T = omega (arith, ap length a.temporaries, length-append T (v ∷ [])) in
      let a1 : Agree z T scope (v ∷ []) ints refs (without (length T) s) = loosen z T scope (v ∷ []) [] ints refs s a in
      record { callers = a1.callers; shape = a1.shape; ints = a1.ints; refs = a1.refs; temporaries = ap (λ q. take q s.frame.temporaries) l ∙ ap (take (length T)) a.temporaries ∙ take_at T (v ∷ []) (length T) refl }

  -- ---- what is taken from a cell
  pub take_cell_runs : (ka : Kind) (t : Target) (need : ℕ) (run : Run StorePlace) (pcode : ℕ → ℕ → List Op) (token site : Site) (lvalue : Lvalue) (mode : Sharing) (form : Option ℕ → Use) (kind : TakeKind) → PlaceAs m z scope t None (beside_field m.typed mode) need run pcode
      → is_cell t ≡ true → PathStands m.typed scope mode → is_reference ka ≡ true → take_kind_of (form None) ≡ kind
      → RunsAs m z scope ka (need + 3) (temporarily (run >>= λ p. taken_from m.typed token site mode kind p)) (λ i r. pcode i r ++ cell_take_code ctx i r site lvalue mode form t)
  take_cell_runs ka t need run pcode token site lvalue mode form kind found cell_t path er ek T i r pc c ints refs s k has le re a rest =
      let cv = cell_take_code ctx i r site lvalue mode form t in
      let all : c + 3 + need ≡ c + (need + 3) = omega arith in
      let some : c + 6 + 3 ≡ c + 3 + 6 = omega arith in
      let end : pc + length (pcode i r) + length cv ≡ pc + length (pcode i r ++ cv) = omega (arith, length-append (pcode i r) cv) in
      let k1 : ℤ → State → Fin = λ x u. k x (without (length T) u) in
      subst (λ n. Same z.flat s.fuel n (fin_then (temporarily (run >>= λ p. taken_from m.typed token site mode kind p) s) k) s.answers (place z pc ints refs s)) all
      (temporarily_runs m z scope T s.fuel (c + 3 + need) s.answers (run >>= λ p. taken_from m.typed token site mode kind p) s k (place z pc ints refs s) a.temporaries
      (bind z.flat s.fuel (c + 3 + need) s.answers (run s) (λ p. taken_from m.typed token site mode kind p) k1 (place z pc ints refs s)
      (found T i r pc (c + 3) ints refs s (λ p u. fin_then (taken_from m.typed token site mode kind p u) k1) (has_front z.flat.lines pc (pcode i r) cv has) le re a
      (λ p bases ints1 refs1 s1 w.
      let at = at_cell m z scope t (beside_field m.typed mode) T [] i r bases p ints1 refs1 s1 cell_t re w.agree w.lies in
      let d = r + base_width t in
      let cell_op = targets.cell_of z.flat.globals i r t in
      let spot = spot_of ctx i r site lvalue (form None) mode t in
      subst (λ q. Same z.flat s1.fuel (c + 3 + 6) (fin_then (taken_from m.typed token site mode kind q s1) k1) s1.answers (place z (pc + length (pcode i r)) ints1 refs1 s1)) (sym at.is)
      (subst (λ n. Same z.flat s1.fuel n (fin_then (taken_from m.typed token site mode kind (cell at.object at.first (at.first + field_of t)) s1) k1) s1.answers (place z (pc + length (pcode i r)) ints1 refs1 s1)) some
      (ref_cell_by m z scope T bases t (beside_field m.typed mode) i r ints1 refs1 p at site lvalue mode refl path le re (bases_are m z scope t (beside_field m.typed mode) i ints1 bases p w.lies)
      (Op.TakeCell d cell_op spot) (form None) (λ c mode. Act.Take (Taken.Cell c mode) kind)
      (λ x. ap (λ q. accesses z.flat.globals cell_op spot (λ c mode. Act.Take (Taken.Cell c mode) q) (λ c v. set_ref d v) x) ek) (λ s mode x. refl)
      ka (pc + length (pcode i r)) (c + 6) ints s1 k er (has_back z.flat.lines pc (pcode i r) cv has) w.agree w.kept
      (subst (λ q. Rest z ka T scope i q (c + 6) ints k) (sym end) rest)))))))

  -- ---- what is taken from a variable
  abbrev null_state : ℕ → Site → State → State
  null_state x token u = record u {
    trace = u.trace ++ record { use_made = nulls; variable = x; site = token; call = u.frame.call } ∷ [];
    frame = record u.frame { variables = with_value u.frame.variables x NULL };
  }

  nulled_agrees : (T : List ℤ) (x : ℕ) (v : ℤ) (token : Site) (r : ℕ) (ints refs : ℕ → ℤ) (s u : State) → slot_kind scope x ≡ Some true → r ≡ ref_count scope + length T → Agree z T scope [] ints refs s → refs (z.refs + number_in (register_of scope x)) ≡ v → u.frame ≡ s.frame → u.callers ≡ s.callers
      → Agree z T scope (v ∷ []) ints (put (put refs (z.refs + number_in (register_of scope x)) (pos 0)) (z.refs + r) (refs (z.refs + number_in (register_of scope x)))) (null_state x token u)
  nulled_agrees T x v token r ints refs s u stands re a v_is ef ec =
      let n = number_in (register_of scope x) in
      let r0 : r ≡ ref_count scope + length T + 0 = omega arith in
      subst (λ q. Agree z T scope (q ∷ []) ints (put (put refs (z.refs + n) (pos 0)) (z.refs + r) (refs (z.refs + n))) (null_state x token u)) v_is
      (push z T scope [] (refs (z.refs + n)) r ints (put refs (z.refs + n) (pos 0)) (null_state x token u) r0
      (set_variable T [] x (pos 0) ints refs u (null_state x token u) stands (same_frame z T scope [] ints refs s u ef ec a) refl refl refl))

  held_is : (T : List ℤ) (x : ℕ) (ints refs : ℕ → ℤ) (s : State) → slot_kind scope x ≡ Some true → Agree z T scope [] ints refs s → refs (z.refs + number_in (register_of scope x)) ≡ value_of s x
  held_is T x ints refs s stands a = let w = variable_ref z T scope [] ints refs s x stands a in ap (λ q. refs (z.refs + q)) (ap number_in w.register) ∙ w.value

  take_local_by : (b : Bool) (T : List ℤ) (x : ℕ) (token site : Site) (lvalue : Lvalue) (mode : Sharing) (form : Option ℕ → Use) (kind : TakeKind) (r pc c : ℕ) (ints refs : ℕ → ℤ) (s : State) (k : ℤ → State → Fin)
      → slot_kind scope x ≡ Some true → take_kind_of (form (Some x)) ≡ kind → variable_of (form (Some x)) ≡ x → is_null (value_of s x) ≡ b → r ≡ ref_count scope + length T
      → slice_get z.flat.lines pc ≡ Some (Op.TakeLocal r (number_in (register_of scope x)) (spot_of ctx 0 0 site lvalue (form (Some x)) mode (targets.variable x))) → Agree z T scope [] ints refs s
      → ((refs' : ℕ → ℤ) (u : State) → Agree z T scope (value_of s x ∷ []) ints refs' u → Same z.flat u.fuel c (k (value_of s x) u) u.answers (place z (pc + 1) ints refs' u))
      → Same z.flat s.fuel (c + 1) (fin_then (then_on ((cond b (give (value_of s x)) (answered site (Act.Take (Taken.Local x) kind))) s) (λ _. nulled token x >> give (value_of s x))) k) s.answers (place z pc ints refs s)
  take_local_by true T x token site lvalue mode form kind r pc c ints refs s k stands ek ex eb re at a rest =
      let n = number_in (register_of scope x) in
      let v = value_of s x in
      let spot = spot_of ctx 0 0 site lvalue (form (Some x)) mode (targets.variable x) in
      let v_is = held_is T x ints refs s stands a in
      let bank = put (put refs (z.refs + n) (pos 0)) (z.refs + r) (refs (z.refs + n)) in
      step z.flat (Op.TakeLocal r n spot) s.fuel c _ s.answers (place z pc ints refs s) (place z (pc + 1) ints bank s) at
      (ap (λ q. takes_local r n spot (place z pc ints refs s) (is_null q)) v_is ∙ ap (takes_local r n spot (place z pc ints refs s)) eb)
      (rest bank (null_state x token s) (nulled_agrees T x v token r ints refs s s stands re a v_is refl refl))
  take_local_by false T x token site lvalue mode form kind r pc c ints refs s k stands ek ex eb re at a rest =
      let n = number_in (register_of scope x) in
      let v = value_of s x in
      let spot = spot_of ctx 0 0 site lvalue (form (Some x)) mode (targets.variable x) in
      let v_is = held_is T x ints refs s stands a in
      let bank = put (put refs (z.refs + n) (pos 0)) (z.refs + r) (refs (z.refs + n)) in
      let m0 = place z pc ints refs s in
      bind z.flat s.fuel (c + 1) s.answers (answered site (Act.Take (Taken.Local x) kind) s) (λ _. nulled token x >> give v) k m0
      (asks_at z.flat (Op.TakeLocal r n spot) site (Act.Take (Taken.Local x) kind) (refs (z.refs + n)) (λ v w. on (moved r n w)) c s.answers s m0 m0 (λ y u. k v (null_state x token u)) (holding z T scope ints refs s a) refl refl at
      (ap (λ q. takes_local r n spot m0 (is_null q)) v_is ∙ ap (takes_local r n spot m0) eb
      ∙ ap (λ q. asks m0 site (Act.Take (Taken.Local q) (take_kind_of (form (Some x)))) (refs (z.refs + n)) (λ v w. on (moved r n w))) ex ∙ ap (λ q. asks m0 site (Act.Take (Taken.Local x) q) (refs (z.refs + n)) (λ v w. on (moved r n w))) ek)
      (λ y. sym v_is)
      (λ y answers.
      let u = after_event s answers (s.events ++ event_of site (Act.Take (Taken.Local x) kind) y ∷ []) in
      rest bank (null_state x token u) (nulled_agrees T x v token r ints refs s u stands re a v_is refl refl)))

  pub take_variable_runs : (ka : Kind) (x : ℕ) (need : ℕ) (run : Run StorePlace) (pcode : ℕ → ℕ → List Op) (token site : Site) (lvalue : Lvalue) (mode : Sharing) (form : Option ℕ → Use) (kind : TakeKind) (guard : Option ℕ) → PlaceAs m z scope (targets.variable x) None guard need run pcode
      → slot_kind scope x ≡ Some true → is_reference ka ≡ true → take_kind_of (form (Some x)) ≡ kind → variable_of (form (Some x)) ≡ x
      → RunsAs m z scope ka (need + 3) (temporarily (run >>= λ p. taken_from m.typed token site mode kind p)) (λ i r. pcode i r ++ Op.TakeLocal r (number_in (register_of scope x)) (spot_of ctx 0 0 site lvalue (form (Some x)) mode (targets.variable x)) ∷ [])
  take_variable_runs ka x need run pcode token site lvalue mode form kind guard found stands er ek ex T i r pc c ints refs s k has le re a rest =
      let o = Op.TakeLocal r (number_in (register_of scope x)) (spot_of ctx 0 0 site lvalue (form (Some x)) mode (targets.variable x)) in
      let end : pc + length (pcode i r) + 1 ≡ pc + length (pcode i r ++ o ∷ []) = omega (arith, length-append (pcode i r) (o ∷ [])) in
      let k1 : ℤ → State → Fin = λ x u. k x (without (length T) u) in
      weaken z.flat s.fuel (c + 1 + need) (c + (need + 3)) _ s.answers _ (omega arith)
      (temporarily_runs m z scope T s.fuel (c + 1 + need) s.answers (run >>= λ p. taken_from m.typed token site mode kind p) s k (place z pc ints refs s) a.temporaries
      (bind z.flat s.fuel (c + 1 + need) s.answers (run s) (λ p. taken_from m.typed token site mode kind p) k1 (place z pc ints refs s)
      (found T i r pc (c + 1) ints refs s (λ p u. fin_then (taken_from m.typed token site mode kind p u) k1) (has_front z.flat.lines pc (pcode i r) (o ∷ []) has) le re a
      (λ p bases ints1 refs1 s1 w.
      let a0 : Agree z (T ++ []) scope [] ints1 refs1 s1 = subst (λ bs. Agree z (T ++ bs) scope [] ints1 refs1 s1) w.lies.0 w.agree in
      let a1 : Agree z T scope [] ints1 refs1 s1 = subst (λ t. Agree z t scope [] ints1 refs1 s1) (append-nil T) a0 in
      let credit : c + 6 + 1 ≡ c + 1 + 6 = omega arith in
      subst (λ q. Same z.flat s1.fuel (c + 1 + 6) (fin_then (taken_from m.typed token site mode kind q s1) k1) s1.answers (place z (pc + length (pcode i r)) ints1 refs1 s1)) (sym w.lies.1)
      (subst (λ q. Same z.flat s1.fuel q (fin_then (taken_from m.typed token site mode kind (variable x) s1) k1) s1.answers (place z (pc + length (pcode i r)) ints1 refs1 s1)) credit
      (take_local_by (is_null (value_of s1 x)) T x token site lvalue mode form kind r (pc + length (pcode i r)) (c + 6) ints1 refs1 s1 k1 stands ek ex refl re (has_back z.flat.lines pc (pcode i r) (o ∷ []) has).0 a1
      (λ refs2 u a2.
      let n3 = none_end m z scope T (value_of s1 x ∷ []) (pc + length (pcode i r) + 1) ints1 refs2 u a2 in
      subst (λ q. Same z.flat u.fuel (c + 6) (k (value_of s1 x) (without (length T) u)) u.answers q) n3.1
      (subst (λ q. Same z.flat u.fuel (c + 6) (k (value_of s1 x) (without (length T) u)) u.answers (place z q ints1 refs2 (without (length T) u))) (sym end)
      (rest (value_of s1 x) ints1 refs2 (without (length T) u) (ref_valued m z scope ka T i (value_of s1 x) ints ints1 refs2 (without (length T) u) er n3.0 w.kept))))))))))

  -- ---- the mode of an object that is made or given
  mode_by : (T L : List ℤ) (what : Named) (second : Option (List ℕ)) (pc : ℕ) (ints refs : ℕ → ℤ) (s : State) → PathNamed scope what second → Agree z T scope L ints refs s
      → mode_of_object z.flat.globals (place z pc ints refs s) (object_mode_named ctx what second) ≡ CellMode.Locked (mutex_named m.typed (value_of s) what second)
  mode_by T L (Named.Global g) second pc ints refs s h a = ap (λ n. CellMode.Locked (Some (cell_of (Global g) n))) (let q : first_cell z.flat.globals g - first_cell z.flat.globals g ≡ 0 = omega arith in q)
  mode_by T L (Named.Variable x) (Some f) pc ints refs s h a =
      let w = variable_ref z T scope L ints refs s x h a in
      ap (λ v. CellMode.Locked (through v (field_place_behind m.typed x f))) (ap (λ q. refs (z.refs + q)) (ap number_in w.register) ∙ w.value)
  mode_by T L _ _ pc ints refs s h a = refl

  pub object_mode_is : (T L : List ℤ) (mode : Sharing) (pc : ℕ) (ints refs : ℕ → ℤ) (s : State) → PathStands m.typed scope mode → Agree z T scope L ints refs s
      → mode_of_object z.flat.globals (place z pc ints refs s) (object_mode ctx mode) ≡ instance_mode m.typed (value_of s) mode
  object_mode_is T L (locked l) pc ints refs s h a = mode_by T L (named_at m.typed l.first) l.second pc ints refs s h a
  object_mode_is T L _ pc ints refs s h a = refl

  -- ---- a sharing cast: what was taken is given, where it is not NULL
  cast_by : (b : Bool) (cells : ℕ) (T : List ℤ) (v : ℤ) (site : Site) (words : Text) (use_made : Use) (mode : Sharing) (r pc c : ℕ) (ints refs : ℕ → ℤ) (s : State) (k : ℤ → State → Fin) → is_null v ≡ b → PathStands m.typed scope mode → r ≡ ref_count scope + length T
      → HasAt z.flat.lines pc (Op.SkipIfNull r 1 ∷ Op.Give r cells (object_spot ctx site words use_made mode) ∷ []) → Agree z T scope (v ∷ []) ints refs s
      → ((u : State) → Agree z T scope (v ∷ []) ints refs u → Same z.flat u.fuel c (k v u) u.answers (place z (pc + 2) ints refs u))
      → Same z.flat s.fuel (c + 2) (fin_then ((cond b (give v) (cast_to m.typed site mode v)) s) k) s.answers (place z pc ints refs s)
  cast_by true cells T v site words use_made mode r pc c ints refs s k e path re has a rest =
      let r0 : r ≡ ref_count scope + length T + 0 = omega arith in
      let v_is : refs (z.refs + r) ≡ v = last_is z T scope [] v [] r ints refs s r0 a in
      let two : pc + 1 + 1 ≡ pc + 2 = omega arith in
      weaken z.flat s.fuel (c + 1) (c + 2) _ s.answers _ (omega arith)
      (step z.flat (Op.SkipIfNull r 1) s.fuel c _ s.answers (place z pc ints refs s) (place z (pc + 1 + 1) ints refs s) has.0
      (ap (λ q. goes (cond (is_null q) (over_lines 1 (place z pc ints refs s)) (on (place z pc ints refs s)))) v_is ∙ ap (λ b. goes (cond b (over_lines 1 (place z pc ints refs s)) (on (place z pc ints refs s)))) e)
      (subst (λ q. Same z.flat s.fuel c (k v s) s.answers (place z q ints refs s)) (sym two) (rest s a)))
  cast_by false cells T v site words use_made mode r pc c ints refs s k e path re has a rest =
      let r0 : r ≡ ref_count scope + length T + 0 = omega arith in
      let v_is : refs (z.refs + r) ≡ v = last_is z T scope [] v [] r ints refs s r0 a in
      let two : pc + 1 + 1 ≡ pc + 2 = omega arith in
      let credit : c + 1 + 1 ≡ c + 2 = omega arith in
      let s1 : State = record s { frame = with_temporary v s.frame } in
      let a1 : Agree z (T ++ v ∷ []) scope [] ints refs s1 = hold z T scope v ints refs s a in
      let m1 = place z (pc + 1) ints refs s1 in
      let M = instance_mode m.typed (value_of s1) mode in
      subst (λ q. Same z.flat s.fuel q (fin_then (cast_to m.typed site mode v s) k) s.answers (place z pc ints refs s)) credit
      (step z.flat (Op.SkipIfNull r 1) s.fuel (c + 1) _ s.answers (place z pc ints refs s) (place z (pc + 1) ints refs s) has.0
      (ap (λ q. goes (cond (is_null q) (over_lines 1 (place z pc ints refs s)) (on (place z pc ints refs s)))) v_is ∙ ap (λ b. goes (cond b (over_lines 1 (place z pc ints refs s)) (on (place z pc ints refs s)))) e)
      (subst (λ q. Same z.flat s.fuel (c + 1) q s.answers m1) (sym (performs_then (happens s1.answers site (Act.Give v M) s1) (moves_on 1 >> give v) k))
      (asks_at z.flat (Op.Give r cells (object_spot ctx site words use_made mode)) site (Act.Give v M) (pos 0) (λ v w. on w) c s.answers s1 m1 m1 (λ x u. k v (record u { frame = without_temporaries 1 u.frame })) (holding z (T ++ v ∷ []) scope ints refs s1 a1) refl refl has.1.0
      (ap (λ q. asks m1 site (Act.Give q (mode_of_object z.flat.globals m1 (object_mode ctx mode))) (pos 0) (λ v w. on w)) v_is ∙ ap (λ q. asks m1 site (Act.Give v q) (pos 0) (λ v w. on w)) (object_mode_is (T ++ v ∷ []) [] mode (pc + 1) ints refs s1 path a1))
      (λ x. refl)
      (λ x answers.
      let u = after_event s1 answers (s1.events ++ event_of site (Act.Give v M) x ∷ []) in
      let u1 : State = record u { frame = without_temporaries 1 u.frame } in
      subst (λ q. Same z.flat s.fuel c (k v u1) answers (place z q ints refs u1)) (sym two)
      (rest u1 (let_go T v ints refs u (same_frame z (T ++ v ∷ []) scope [] ints refs s1 u refl refl a1)))))))

  pub cast_runs : (cells : ℕ) (ka kc : Kind) (take_run : Run ℤ) (tcode : ℕ → ℕ → List Op) (site : Site) (words : Text) (use_made : Use) (mode : Sharing) → is_reference ka ≡ true → is_reference kc ≡ true → PathStands m.typed scope mode → RunsAs m z scope ka 3 take_run tcode
      → RunsAs m z scope kc 5 (take_run >>= λ v. cond (is_null v) (give v) (cast_to m.typed site mode v)) (λ i r. tcode i r ++ (Op.SkipIfNull r 1 ∷ Op.Give r cells (object_spot ctx site words use_made mode) ∷ []))
  cast_runs cells ka kc take_run tcode site words use_made mode ea ec path of_take T i r pc c ints refs s k has le re a rest =
      let C = tcode i r in
      let tail = Op.SkipIfNull r 1 ∷ Op.Give r cells (object_spot ctx site words use_made mode) ∷ [] in
      let end : pc + length C + 2 ≡ pc + length (C ++ tail) = omega (arith, length-append C tail) in
      bind z.flat s.fuel (c + 5) s.answers (take_run s) (λ v. cond (is_null v) (give v) (cast_to m.typed site mode v)) k (place z pc ints refs s)
      (weaken z.flat s.fuel (c + 2 + 3) (c + 5) _ s.answers _ (omega arith)
      (of_take T i r pc (c + 2) ints refs s (λ v u. fin_then ((cond (is_null v) (give v) (cast_to m.typed site mode v)) u) k) (has_front z.flat.lines pc C tail has) le re a (λ v ints1 refs1 s1 w.
      let a1 : Agree z T scope (v ∷ []) ints1 refs1 s1 = subst (λ b. Agree z T scope (loose_of b v) ints1 refs1 s1) ea w.agree in
      weaken z.flat s1.fuel (c + 6 + 2) (c + 2 + 6) _ s1.answers _ (omega arith)
      (cast_by (is_null v) cells T v site words use_made mode r (pc + length C) (c + 6) ints1 refs1 s1 k refl path re (has_back z.flat.lines pc C tail has) a1
      (λ u a2. subst (λ q. Same z.flat u.fuel (c + 6) (k v u) u.answers (place z q ints1 refs1 u)) (sym end) (rest v ints1 refs1 u (ref_valued m z scope kc T i v ints ints1 refs1 u ec a2 w.kept)))))))

  -- ---- `free`: what was taken ends, where it is not NULL
  free_by : (b : Bool) (T : List ℤ) (v : ℤ) (site : Site) (words : Span) (use_made : Use) (layout r pc c : ℕ) (ints refs : ℕ → ℤ) (s : State) (k : Unit {0} → State → Fin) → is_null v ≡ b → r ≡ ref_count scope + length T
      → HasAt z.flat.lines pc (Op.SkipIfNull r 1 ∷ Op.Free r layout (at_words site words use_made) ∷ []) → Agree z T scope (v ∷ []) ints refs s
      → ((refs' : ℕ → ℤ) (u : State) → Agree z T scope [] ints refs' u → Same z.flat u.fuel c (k tt u) u.answers (place z (pc + 2) ints refs' u))
      → Same z.flat s.fuel (c + 2) (fin_then ((cond b done (freed site v)) s) k) s.answers (place z pc ints refs s)
  free_by true T v site words use_made layout r pc c ints refs s k e re has a rest =
      let r0 : r ≡ ref_count scope + length T + 0 = omega arith in
      let v_is : refs (z.refs + r) ≡ v = last_is z T scope [] v [] r ints refs s r0 a in
      let two : pc + 1 + 1 ≡ pc + 2 = omega arith in
      weaken z.flat s.fuel (c + 1) (c + 2) _ s.answers _ (omega arith)
      (step z.flat (Op.SkipIfNull r 1) s.fuel c _ s.answers (place z pc ints refs s) (place z (pc + 1 + 1) ints refs s) has.0
      (ap (λ q. goes (cond (is_null q) (over_lines 1 (place z pc ints refs s)) (on (place z pc ints refs s)))) v_is ∙ ap (λ b. goes (cond b (over_lines 1 (place z pc ints refs s)) (on (place z pc ints refs s)))) e)
      (subst (λ q. Same z.flat s.fuel c (k tt s) s.answers (place z q ints refs s)) (sym two) (rest refs s (trailing z scope T [] (v ∷ []) ints refs s (one_null v (null_is v e)) a))))
    where
      one_null : (v : ℤ) → v ≡ pos 0 → AllNull (v ∷ [])
      one_null v e zero = e
      one_null v e (suc n) = refl
  free_by false T v site words use_made layout r pc c ints refs s k e re has a rest =
      let r0 : r ≡ ref_count scope + length T + 0 = omega arith in
      let v_is : refs (z.refs + r) ≡ v = last_is z T scope [] v [] r ints refs s r0 a in
      let two : pc + 1 + 1 ≡ pc + 2 = omega arith in
      let credit : c + 1 + 1 ≡ c + 2 = omega arith in
      let s0 : State = record s { given_up = s.given_up ++ Emptied (number_of v) ∷ [] } in
      let s1 : State = record s0 { frame = with_temporary v s.frame } in
      let a1 : Agree z (T ++ v ∷ []) scope [] ints refs s1 = hold z T scope v ints refs s0 (same_frame z T scope (v ∷ []) ints refs s s0 refl refl a) in
      let m1 = place z (pc + 1) ints refs s in
      let m2 = place z (pc + 1) ints refs s1 in
      let refs2 = put refs (z.refs + r) (pos 0) in
      subst (λ q. Same z.flat s.fuel q (fin_then (freed site v s) k) s.answers (place z pc ints refs s)) credit
      (step z.flat (Op.SkipIfNull r 1) s.fuel (c + 1) _ s.answers (place z pc ints refs s) m1 has.0
      (ap (λ q. goes (cond (is_null q) (over_lines 1 (place z pc ints refs s)) (on (place z pc ints refs s)))) v_is ∙ ap (λ b. goes (cond b (over_lines 1 (place z pc ints refs s)) (on (place z pc ints refs s)))) e)
      (subst (λ q. Same z.flat s.fuel (c + 1) q s.answers m1) (sym (performs_then (happens s1.answers site (Act.Freed v) s1) (moves_on 1) k))
      (asks_at z.flat (Op.Free r layout (at_words site words use_made)) site (Act.Freed v) (pos 0) (λ v w. on (set_ref r (pos 0) w)) c s.answers s1 m1 m2 (λ x u. fin_then (moves_on 1 u) k) (holding z (T ++ v ∷ []) scope ints refs s1 a1) refl refl has.1.0
      (ap (λ q. asks (record m1 { given = s.given_up ++ Emptied (number_of q) ∷ [] }) site (Act.Freed q) (pos 0) (λ v w. on (set_ref r (pos 0) w))) v_is)
      (λ x. refl)
      (λ x answers.
      let u = after_event s1 answers (s1.events ++ event_of site (Act.Freed v) x ∷ []) in
      let u1 : State = record u { frame = without_temporaries 1 u.frame } in
      subst (λ q. Same z.flat s.fuel c (k tt u1) answers (place z q ints refs2 u1)) (sym two)
      (rest refs2 u1 (moved_on m z scope T v r ints refs u re (same_frame z (T ++ v ∷ []) scope [] ints refs s1 u refl refl a1)))))))

  pub free_runs : (ka kv : Kind) (take_run : Run ℤ) (tcode : ℕ → ℕ → List Op) (site : Site) (words : Span) (use_made : Use) (layout : ℕ) → is_reference ka ≡ true → is_reference kv ≡ false → is_integer kv ≡ false → RunsAs m z scope ka 3 take_run tcode
      → RunsAs m z scope kv 5 ((take_run >>= λ v. cond (is_null v) done (freed site v)) >> give (pos 0)) (λ i r. tcode i r ++ (Op.SkipIfNull r 1 ∷ Op.Free r layout (at_words site words use_made) ∷ []))
  free_runs ka kv take_run tcode site words use_made layout ea er ei of_take T i r pc c ints refs s k has le re a rest =
      let C = tcode i r in
      let tail = Op.SkipIfNull r 1 ∷ Op.Free r layout (at_words site words use_made) ∷ [] in
      let end : pc + length C + 2 ≡ pc + length (C ++ tail) = omega (arith, length-append C tail) in
      let K : Unit {0} → State → Fin = λ x u. k (pos 0) u in
      bind z.flat s.fuel (c + 5) s.answers ((take_run >>= λ v. cond (is_null v) done (freed site v)) s) (λ _. give (pos 0)) k (place z pc ints refs s)
      (bind z.flat s.fuel (c + 5) s.answers (take_run s) (λ v. cond (is_null v) done (freed site v)) K (place z pc ints refs s)
      (weaken z.flat s.fuel (c + 2 + 3) (c + 5) _ s.answers _ (omega arith)
      (of_take T i r pc (c + 2) ints refs s (λ v u. fin_then ((cond (is_null v) done (freed site v)) u) K) (has_front z.flat.lines pc C tail has) le re a (λ v ints1 refs1 s1 w.
      let a1 : Agree z T scope (v ∷ []) ints1 refs1 s1 = subst (λ b. Agree z T scope (loose_of b v) ints1 refs1 s1) ea w.agree in
      weaken z.flat s1.fuel (c + 6 + 2) (c + 2 + 6) _ s1.answers _ (omega arith)
      (free_by (is_null v) T v site words use_made layout r (pc + length C) (c + 6) ints1 refs1 s1 K refl re (has_back z.flat.lines pc C tail has) a1
      (λ refs2 u a2. subst (λ q. Same z.flat u.fuel (c + 6) (k (pos 0) u) u.answers (place z q ints1 refs2 u)) (sym end)
      (rest (pos 0) ints1 refs2 u (record { agree = subst (λ b. Agree z T scope (loose_of b (pos 0)) ints1 refs2 u) (sym er) a2; kept = w.kept; value = λ h. absurd (cc) }))))))))

  -- ---- a new object
  positive_by : (b : Bool) (T : List ℤ) (v : ℤ) (site : Site) (words : Text) (use_made : Use) (mode : Sharing) (cells i r pc c : ℕ) (ints refs : ℕ → ℤ) (s : State) (k : ℤ → State → Fin) → is_positive v ≡ b → PathStands m.typed scope mode → r ≡ ref_count scope + length T → ints (z.ints + i) ≡ v
      → HasAt z.flat.lines pc (Op.ChkPositive i (at_site site) ∷ Op.New r i cells (object_spot ctx site words use_made mode) ∷ []) → Agree z T scope [] ints refs s
      → ((x : ℤ) (refs' : ℕ → ℤ) (u : State) → Agree z T scope (x ∷ []) ints refs' u → Same z.flat u.fuel c (k x u) u.answers (place z (pc + 2) ints refs' u))
      → Same z.flat s.fuel (c + 2) (fin_then ((unless_stop b Trap.SizeNotPositive site >> (λ u. answered site (Act.New cells (unsigned_abs v) (instance_mode m.typed (value_of u) mode)) u)) s) k) s.answers (place z pc ints refs s)
  positive_by false T v site words use_made mode cells i r pc c ints refs s k e path re v_is has a rest =
      weaken z.flat s.fuel (c + 1) (c + 2) _ s.answers _ (omega arith)
      (ends z.flat (Op.ChkPositive i (at_site site)) (stopped Trap.SizeNotPositive site) c s (place z pc ints refs s) (holding z T scope ints refs s a) refl refl has.0 (ap (λ q. asserts (is_positive q) Trap.SizeNotPositive (at_site site) (place z pc ints refs s)) v_is ∙ ap (λ b. asserts b Trap.SizeNotPositive (at_site site) (place z pc ints refs s)) e))
  positive_by true T v site words use_made mode cells i r pc c ints refs s k e path re v_is has a rest =
      let m1 = place z (pc + 1) ints refs s in
      let M = instance_mode m.typed (value_of s) mode in
      let two : pc + 1 + 1 ≡ pc + 2 = omega arith in
      let credit : c + 1 + 1 ≡ c + 2 = omega arith in
      let r0 : r ≡ ref_count scope + length T + 0 = omega arith in
      subst (λ q. Same z.flat s.fuel q (fin_then (happens s.answers site (Act.New cells (unsigned_abs v) M) s) k) s.answers (place z pc ints refs s)) credit
      (step z.flat (Op.ChkPositive i (at_site site)) s.fuel (c + 1) _ s.answers (place z pc ints refs s) m1 has.0 (ap (λ q. asserts (is_positive q) Trap.SizeNotPositive (at_site site) (place z pc ints refs s)) v_is ∙ ap (λ b. asserts b Trap.SizeNotPositive (at_site site) (place z pc ints refs s)) e)
      (asks_at z.flat (Op.New r i cells (object_spot ctx site words use_made mode)) site (Act.New cells (unsigned_abs v) M) (pos 0) (λ x w. on (set_ref r x w)) c s.answers s m1 m1 k (holding z T scope ints refs s a) refl refl has.1.0
      (ap (λ q. asks m1 site (Act.New cells (elements_made q) (mode_of_object z.flat.globals m1 (object_mode ctx mode))) (pos 0) (λ x w. on (set_ref r x w))) v_is ∙ ap (λ q. asks m1 site (Act.New cells q (mode_of_object z.flat.globals m1 (object_mode ctx mode))) (pos 0) (λ x w. on (set_ref r x w))) (positive_elements v e) ∙ ap (λ q. asks m1 site (Act.New cells (unsigned_abs v) q) (pos 0) (λ x w. on (set_ref r x w))) (object_mode_is T [] mode (pc + 1) ints refs s path a))
      (λ x. refl)
      (λ x answers.
      let u = after_event s answers (s.events ++ event_of site (Act.New cells (unsigned_abs v) M) x ∷ []) in
      subst (λ q. Same z.flat s.fuel c (k x u) answers (place z q ints (put refs (z.refs + r) x) u)) (sym two)
      (rest x (put refs (z.refs + r) x) u (push z T scope [] x r ints refs u r0 (same_frame z T scope [] ints refs s u refl refl a))))))

  pub new_runs : (ke kn : Kind) (need : ℕ) (count : Run ℤ) (counts : ℕ → ℕ → List Op) (site : Site) (words : Text) (use_made : Use) (mode : Sharing) (cells : ℕ) → is_integer ke ≡ true → is_reference kn ≡ true → PathStands m.typed scope mode → RunsAs m z scope ke need count counts
      → RunsAs m z scope kn (need + 2) (count >>= λ v. unless_stop (is_positive v) Trap.SizeNotPositive site >> (λ u. answered site (Act.New cells (unsigned_abs v) (instance_mode m.typed (value_of u) mode)) u))
      (λ i r. counts i r ++ (Op.ChkPositive i (at_site site) ∷ Op.New r i cells (object_spot ctx site words use_made mode) ∷ []))
  new_runs ke kn need count counts site words use_made mode cells ie rn path of_count T i r pc c ints refs s k has le re a rest =
      let C = counts i r in
      let tail = Op.ChkPositive i (at_site site) ∷ Op.New r i cells (object_spot ctx site words use_made mode) ∷ [] in
      let end : pc + length C + 2 ≡ pc + length (C ++ tail) = omega (arith, length-append C tail) in
      let then_run : ℤ → Run ℤ = λ v. unless_stop (is_positive v) Trap.SizeNotPositive site >> (λ u. answered site (Act.New cells (unsigned_abs v) (instance_mode m.typed (value_of u) mode)) u) in
      bind z.flat s.fuel (c + (need + 2)) s.answers (count s) then_run k (place z pc ints refs s)
      (weaken z.flat s.fuel (c + 2 + need) (c + (need + 2)) _ s.answers _ (omega arith)
      (of_count T i r pc (c + 2) ints refs s (λ v u. fin_then (then_run v u) k) (has_front z.flat.lines pc C tail has) le re a (λ v ints1 refs1 s1 w.
      let a1 : Agree z T scope [] ints1 refs1 s1 = subst (λ b. Agree z T scope (loose_of b v) ints1 refs1 s1) (integer_is ke ie) w.agree in
      weaken z.flat s1.fuel (c + 6 + 2) (c + 2 + 6) _ s1.answers _ (omega arith)
      (positive_by (is_positive v) T v site words use_made mode cells i r (pc + length C) (c + 6) ints1 refs1 s1 k refl path re (w.value ie) (has_back z.flat.lines pc C tail has) a1
      (λ x refs2 u a2. subst (λ q. Same z.flat u.fuel (c + 6) (k x u) u.answers (place z q ints1 refs2 u)) (sym end) (rest x ints1 refs2 u (ref_valued m z scope kn T i x ints ints1 refs2 u rn a2 w.kept)))))))

  pub entered_more : (kind : Kind) (need e : ℕ) (run : Run ℤ) (code : ℕ → ℕ → List Op) → need ≤ 7 + e → RunsAs m z scope kind need run code → RunsAs m z scope kind e (entered run) (λ i r. Op.Enter ∷ code i r)
  entered_more kind need e run code few of_run T i r pc c ints refs s k has le re a rest =
      let end : pc + 1 + length (code i r) ≡ pc + length (Op.Enter ∷ code i r) = omega arith in
      enters_at z.flat s.fuel (c + e) run k s (place z pc ints refs s) (place z (pc + 1) ints refs s) refl (holding z T scope ints refs s a) refl refl has.0 refl
      (λ f. weaken z.flat f (c + need) (c + e + 7) _ s.answers _ (omega arith)
      (of_run T i r (pc + 1) c ints refs (record s { fuel = f }) k has.1 le re (same_frame z T scope [] ints refs s (record s { fuel = f }) refl refl a)
      (subst (λ q. Rest z kind T scope i q (c + 6) ints k) (sym end) rest)))

  pub need_more : (kind : Kind) (need e : ℕ) (run : Run ℤ) (code : ℕ → ℕ → List Op) → need ≤ e → RunsAs m z scope kind need run code → RunsAs m z scope kind e run code
  need_more kind need e run code few of_run T i r pc c ints refs s k has le re a rest = weaken z.flat s.fuel (c + need) (c + e) _ s.answers _ (omega arith) (of_run T i r pc c ints refs s k has le re a rest)
