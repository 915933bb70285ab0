-- Constants, names, calls and other single expressions.
use Rattle.sharc_flat.proofs.{Imports.{◌≡◌, ℕ, ◌+◌, ◌-◌, Bool, true, false, List, [], ◌∷◌, ◌++◌, length, Option, Some, None, refl, sym, ap, ◌∙◌, subst, arith, append_assoc, length-append, length-map, ℤ, pos, not, Global, Site, Span, Act, Expression, Function, Constant, Number, Character, Null, ValueCall, Join, Print, NumberType, Kind, null, is_integer, int, long, declared_kind, declared_kinds, Use, Assignment, Sharing, cell_of, cell, fetched, State, Run, ◌>>=◌, ◌>>◌, give, happens, answered, answer_of, value_in, is_reference, temporarily, performs, event_of, is_zero, truth, tested, Calls, value_called, constant_value, Op, Spot, At, is_of_null, asks, put, global_cell, first_cell, accessed, on, set_int, set_ref, op_turn, Lvalue, Context, ref_count, at_site, Slot, Target, in_global, in_global_at, in_object, in_object_at, has_base, base_width, field_of, guard_field, beside_field, guard_cell, guard_code, lock_beside, spot_of, drop_base, settle_base, settle_code, cell_value_code, cell_store_code, store_code, cell_take_code, take_code, target, own_field, global_of, bounds_code, index_code, pointee_code, width_of, base_as_width, width_code, guard_width, index_width, PathStands, truth_code, IsFlattened, constant_code, value_call_code, kind_at, function_at, constant_kind, number_kind}, Under.{under, mutex_of, accesses_under}, Banks.{put_same, put_other}, Runs.{HasAt, has_front, has_back, Fin, fin_then, Same, weaken, step, bind, without, after_event, asks_at}, Agreeing.{Standing, place, Agree, holding, push, with_int, same_frame, loose_of}, Accessing.{context, pending_place, access_exact}, Values.{integer_is, int_valued, ref_valued, RunsAs, temporarily_runs}, Computing.{truth_same, none_end}, Linking.CallsAs, Storing.performs_then, Calling.ArgumentsAs, Testing.tested_runs}
use Rattle.sharc_flat.specs.Places as targets
use Rattle.sharc_code.specs.Arithmetic as code

module _ (m : Assignment) (z : Standing) (scope : List Slot) where
  abbrev ctx : Context
  ctx = context m z scope

  -- ---- constants
  pub give_int : (kind : Kind) (v : ℤ) → is_reference kind ≡ false → RunsAs m z scope kind 7 (give v) (λ i r. Op.Constant i v ∷ [])
  give_int kind v e T i r pc c ints refs s k has le re a rest =
      let ints1 = put ints (z.ints + i) v in
      let seven : c + 6 + 1 ≡ c + 7 = omega arith in
      subst (λ q. Same z.flat s.fuel q (k v s) s.answers (place z pc ints refs s)) seven
      (step z.flat (Op.Constant i v) s.fuel (c + 6) (k v s) s.answers (place z pc ints refs s) (place z (pc + 1) ints1 refs s) has.0 refl
      (rest v ints1 refs s (int_valued m z scope kind T i v ints ints1 refs s e (with_int z T scope [] i v ints refs s le a) (λ n lt. put_other ints (z.ints + i) v n (λ q. omega arith)) (put_same ints (z.ints + i) v))))

  give_null : (kind : Kind) → is_reference kind ≡ true → RunsAs m z scope kind 7 (give (pos 0)) (λ i r. Op.Null r ∷ [])
  give_null kind e T i r pc c ints refs s k has le re a rest =
      let refs1 = put refs (z.refs + r) (pos 0) in
      let r0 : r ≡ ref_count scope + length T + 0 = omega arith in
      let seven : c + 6 + 1 ≡ c + 7 = omega arith in
      subst (λ q. Same z.flat s.fuel q (k (pos 0) s) s.answers (place z pc ints refs s)) seven
      (step z.flat (Op.Null r) s.fuel (c + 6) (k (pos 0) s) s.answers (place z pc ints refs s) (place z (pc + 1) ints refs1 s) has.0 refl
      (rest (pos 0) ints refs1 s (ref_valued m z scope kind T i (pos 0) ints ints refs1 s e (push z T scope [] (pos 0) r ints refs s r0 a) (λ n lt. refl))))

  number_runs : (t : NumberType) (v : ℤ) (k : Constant) → constant_value k ≡ v → RunsAs m z scope (number_kind t) 7 (give (constant_value k)) (λ i r. constant_code (is_reference (number_kind t)) i r k)
  number_runs NumberType.Int v k e = give_int int (constant_value k) refl
  number_runs NumberType.Long v k e = give_int long (constant_value k) refl

  pub constant_runs : (k : Constant) → RunsAs m z scope (constant_kind k) 7 (give (constant_value k)) (λ i r. constant_code (is_reference (constant_kind k)) i r k)
  constant_runs (Number n) = number_runs n.number_type n.value (Number n) refl
  constant_runs (Character byte) = give_int int (pos byte) refl
  constant_runs Null = give_null null refl

  -- a name that has no value
  pub nothing_runs : (kind : Kind) → is_reference kind ≡ false → is_integer kind ≡ false → RunsAs m z scope kind 7 (give (pos 0)) (λ i r. [])
  nothing_runs kind er ei T i r pc c ints refs s k has le re a rest =
      let p : pc + 0 ≡ pc = omega arith in
      weaken z.flat s.fuel (c + 6) (c + 7) _ s.answers _ (omega arith)
      (subst (λ q. Same z.flat s.fuel (c + 6) (k (pos 0) s) s.answers (place z q ints refs s)) p
      (rest (pos 0) ints refs s (record { agree = subst (λ b. Agree z T scope (loose_of b (pos 0)) ints refs s) (sym er) a; kept = λ n lt. refl; value = λ h. absurd (cc) })))

  -- ---- the value of a global
  open_beside : (g i r : ℕ) (o : Option ℕ) (w : At) → is_of_null w (lock_beside z.flat.globals i r (in_global g 0) o) ≡ false
  open_beside g i r None w = refl
  open_beside g i r (Some mutex) w = refl

  global_by : (b : Bool) (g : ℕ) (kind : Kind) (site : Site) (lvalue : Lvalue) (mode : Sharing) → is_reference kind ≡ b → guard_field m.typed mode ≡ None → PathStands m.typed scope mode
      → RunsAs m z scope kind 7 (fetched m.typed site mode (cell (Global g) 0 0)) (λ i r. cell_value_code ctx i r site lvalue mode b (in_global g 0))
  global_by false g kind site lvalue mode e none path T i r pc c ints refs s k has le re a rest =
      let t = in_global g 0 in
      let gc = guard_code ctx i r site lvalue t (guard_field m.typed mode) in
      let spot = spot_of ctx i r site lvalue Use.Read mode t in
      let here = cell_of (Global g) 0 in
      let o = Op.Load i (targets.cell_of z.flat.globals i r t) spot in
      let no_guard : length gc ≡ 0 = ap (λ x. length (guard_code ctx i r site lvalue t x)) none in
      let cell_is : global_cell z.flat.globals g (first_cell z.flat.globals g + 0) ≡ here = ap (λ n. cell_of (Global g) n) (let q : first_cell z.flat.globals g + 0 - first_cell z.flat.globals g ≡ 0 = omega arith in q) in
      let end : pc + length gc + 1 ≡ pc + length (gc ++ o ∷ []) = omega (arith, length-append gc (o ∷ [])) in
      weaken z.flat s.fuel (c + 6 + 1 + length gc) (c + 7) _ s.answers _ (omega (arith, no_guard))
      (access_exact m z scope T site spot refl ints refs s a o here (Act.Read here) (set_int i) (λ q v u. place z (q + 1) (put ints (z.ints + i) v) refs u)
      (λ q pending u. accesses_under z.flat.globals (targets.cell_of z.flat.globals i r t) spot Act.Read (λ c v. set_int i v) (pending_place z q ints refs u pending) (open_beside g i r (beside_field m.typed mode) (pending_place z q ints refs u pending)) ∙ ap (λ x. under spot.mode (mutex_of z.flat.globals (pending_place z q ints refs u pending) x spot.mode) spot (λ mode. asks (pending_place z q ints refs u pending) spot.site (Act.Read x mode) (pos 0) (λ v n. accessed (on (set_int i v n))))) cell_is)
      (λ q pending v u. refl) (λ mode x. refl)
      (λ mode. answered site (Act.Read here mode)) k k (λ mode u. refl)
      i r 0 0 lvalue t refl (beside_field m.typed mode) (λ mutex u h. ap (λ n. cell_of (Global g) n) (let q : first_cell z.flat.globals g + mutex - first_cell z.flat.globals g ≡ 0 + mutex = omega arith in q)) mode pc (c + 6) [] refl refl path has
      (λ v answers events.
      let u = after_event s answers events in
      let ints1 = put ints (z.ints + i) v in
      subst (λ q. Same z.flat s.fuel (c + 6) (k v u) answers (place z q ints1 refs u)) (sym end)
      (rest v ints1 refs u (int_valued m z scope kind T i v ints ints1 refs u e (with_int z T scope [] i v ints refs u le (same_frame z T scope [] ints refs s u refl refl a)) (λ n lt. put_other ints (z.ints + i) v n (λ q. omega arith)) (put_same ints (z.ints + i) v)))))
  global_by true g kind site lvalue mode e none path T i r pc c ints refs s k has le re a rest =
      let t = in_global g 0 in
      let gc = guard_code ctx i r site lvalue t (guard_field m.typed mode) in
      let spot = spot_of ctx i r site lvalue Use.Read mode t in
      let here = cell_of (Global g) 0 in
      let o = Op.LoadRef (r + 0) (targets.cell_of z.flat.globals i r t) spot in
      let no_guard : length gc ≡ 0 = ap (λ x. length (guard_code ctx i r site lvalue t x)) none in
      let cell_is : global_cell z.flat.globals g (first_cell z.flat.globals g + 0) ≡ here = ap (λ n. cell_of (Global g) n) (let q : first_cell z.flat.globals g + 0 - first_cell z.flat.globals g ≡ 0 = omega arith in q) in
      let end : pc + length gc + 1 ≡ pc + length (gc ++ o ∷ []) = omega (arith, length-append gc (o ∷ [])) in
      let r0 : r + 0 ≡ ref_count scope + length T + 0 = omega arith in
      weaken z.flat s.fuel (c + 6 + 1 + length gc) (c + 7) _ s.answers _ (omega (arith, no_guard))
      (access_exact m z scope T site spot refl ints refs s a o here (Act.Read here) (set_ref (r + 0)) (λ q v u. place z (q + 1) ints (put refs (z.refs + (r + 0)) v) u)
      (λ q pending u. accesses_under z.flat.globals (targets.cell_of z.flat.globals i r t) spot Act.Read (λ c v. set_ref (r + 0) v) (pending_place z q ints refs u pending) (open_beside g i r (beside_field m.typed mode) (pending_place z q ints refs u pending)) ∙ ap (λ x. under spot.mode (mutex_of z.flat.globals (pending_place z q ints refs u pending) x spot.mode) spot (λ mode. asks (pending_place z q ints refs u pending) spot.site (Act.Read x mode) (pos 0) (λ v n. accessed (on (set_ref (r + 0) v n))))) cell_is)
      (λ q pending v u. refl) (λ mode x. refl)
      (λ mode. answered site (Act.Read here mode)) k k (λ mode u. refl)
      i r 0 0 lvalue t refl (beside_field m.typed mode) (λ mutex u h. ap (λ n. cell_of (Global g) n) (let q : first_cell z.flat.globals g + mutex - first_cell z.flat.globals g ≡ 0 + mutex = omega arith in q)) mode pc (c + 6) [] refl refl path has
      (λ v answers events.
      let u = after_event s answers events in
      let refs1 = put refs (z.refs + (r + 0)) v in
      subst (λ q. Same z.flat s.fuel (c + 6) (k v u) answers (place z q ints refs1 u)) (sym end)
      (rest v ints refs1 u (ref_valued m z scope kind T i v ints ints refs1 u e (push z T scope [] v (r + 0) ints refs u r0 (same_frame z T scope [] ints refs s u refl refl a)) (λ n lt. refl)))))

  pub global_runs : (g : ℕ) (kind : Kind) (site : Site) (lvalue : Lvalue) (mode : Sharing) → guard_field m.typed mode ≡ None → PathStands m.typed scope mode
      → RunsAs m z scope kind 7 (fetched m.typed site mode (cell (Global g) 0 0)) (λ i r. cell_value_code ctx i r site lvalue mode (is_reference kind) (in_global g 0))
  global_runs g kind site lvalue mode none path = global_by (is_reference kind) g kind site lvalue mode refl none path

  -- ---- `!a`
  pub denied_runs : (ka : Kind) (e : Expression) (run : Run ℤ) (ce : ℕ → ℕ → List Op) → ka ≡ kind_at m.typed e → (is_reference ka ≡ false → is_integer ka ≡ true) → RunsAs m z scope ka 0 run ce
      → RunsAs m z scope int 5 (tested m.typed e run >>= λ is_true. give (truth (not is_true))) (λ i r. ce i r ++ (truth_code (is_reference ka) i r ++ Op.IsFalse i i ∷ []))
  denied_runs ka e run ce ek scalar of_run T i r pc c ints refs s k has le re a rest =
      let C = ce i r ++ truth_code (is_reference ka) i r in
      let o = Op.IsFalse i i in
      let code_is : ce i r ++ (truth_code (is_reference ka) i r ++ o ∷ []) ≡ C ++ o ∷ [] = sym (append_assoc (ce i r) (truth_code (is_reference ka) i r) (o ∷ [])) in
      let has1 = subst (HasAt z.flat.lines pc) code_is has in
      let end : pc + length (ce i r ++ (truth_code (is_reference ka) i r ++ o ∷ [])) ≡ pc + length C + 1 = ap (λ l. pc + length l) code_is ∙ (let q : pc + length (C ++ o ∷ []) ≡ pc + length C + 1 = omega (arith, length-append C (o ∷ [])) in q) in
      let five : c + 5 + 2 ≡ c + 6 + 1 = omega arith in
      bind z.flat s.fuel (c + 5) s.answers (tested m.typed e run s) (λ is_true. give (truth (not is_true))) k (place z pc ints refs s)
      (tested_runs m z scope ka e run ce ek scalar of_run T i r pc (c + 5) ints refs s (λ b u. k (truth (not b)) u) (has_front z.flat.lines pc C (o ∷ []) has1) le re a
      (λ b ints1 refs1 s1 a1 kept value.
      let v = code.truth (is_zero (ints1 (z.ints + i))) in
      let ints2 = put ints1 (z.ints + i) v in
      let v_is : v ≡ truth (not b) = ap code.truth value ∙ truth_same (not b) in
      subst (λ q. Same z.flat s1.fuel q (k (truth (not b)) s1) s1.answers (place z (pc + length C) ints1 refs1 s1)) (sym five)
      (step z.flat o s1.fuel (c + 6) (k (truth (not b)) s1) s1.answers (place z (pc + length C) ints1 refs1 s1) (place z (pc + length C + 1) ints2 refs1 s1) (has_back z.flat.lines pc C (o ∷ []) has1).0 refl
      (subst (λ q. Same z.flat s1.fuel (c + 6) (k (truth (not b)) s1) s1.answers (place z q ints2 refs1 s1)) end
      (rest (truth (not b)) ints2 refs1 s1 (int_valued m z scope int T i (truth (not b)) ints ints2 refs1 s1 refl (with_int z T scope [] i v ints1 refs1 s1 le a1)
      (λ n lt. put_other ints1 (z.ints + i) v n (λ q. omega arith) ∙ kept n lt) (put_same ints1 (z.ints + i) v ∙ v_is)))))))

  -- ---- what asks for an event of an integer
  event_runs : (ka kind : Kind) (site : Site) (act : ℤ → Act) (o : ℕ → Op) (run : Run ℤ) (ce : ℕ → ℕ → List Op) → is_integer ka ≡ true → is_reference kind ≡ false → is_integer kind ≡ false
      → ((i pc : ℕ) (ints refs : ℕ → ℤ) (s : State) → op_turn z.flat (o i) (place z pc ints refs s) ≡ asks (place z pc ints refs s) site (act (ints (z.ints + i))) (pos 0) (λ v n. on n))
      → ((v x : ℤ) (held : ℕ → ℤ) → answer_of held (act v) x ≡ answer_of (λ token. pos 0) (act v) x)
      → RunsAs m z scope ka 0 run ce → RunsAs m z scope kind 1 (run >>= λ v. performs site (act v) >> give (pos 0)) (λ i r. ce i r ++ o i ∷ [])
  event_runs ka kind site act o run ce ia ek ik turn_is plain of_run T i r pc c ints refs s k has le re a rest =
      let C = ce i r in
      let end : pc + length C + 1 ≡ pc + length (C ++ o i ∷ []) = omega (arith, length-append C (o i ∷ [])) in
      bind z.flat s.fuel (c + 1) s.answers (run s) (λ v. performs site (act v) >> give (pos 0)) k (place z pc ints refs s)
      (weaken z.flat s.fuel (c + 1 + 0) (c + 1) _ s.answers _ (omega arith)
      (of_run T i r pc (c + 1) ints refs s (λ v u. fin_then ((performs site (act v) >> give (pos 0)) u) k) (has_front z.flat.lines pc C (o i ∷ []) has) le re a (λ v ints1 refs1 s1 w.
      let a1 : Agree z T scope [] ints1 refs1 s1 = subst (λ b. Agree z T scope (loose_of b v) ints1 refs1 s1) (integer_is ka ia) w.agree in
      subst (λ q. Same z.flat s1.fuel (c + 1 + 6) q s1.answers (place z (pc + length C) ints1 refs1 s1)) (sym (performs_then (happens s1.answers site (act v) s1) (give (pos 0)) k))
      (weaken z.flat s1.fuel (c + 6 + 1) (c + 1 + 6) _ s1.answers _ (omega arith)
      (asks_at z.flat (o i) site (act v) (pos 0) (λ v n. on n) (c + 6) s1.answers s1 (place z (pc + length C) ints1 refs1 s1) (place z (pc + length C) ints1 refs1 s1) (λ x u. k (pos 0) u) (holding z T scope ints1 refs1 s1 a1) refl refl (has_back z.flat.lines pc C (o i ∷ []) has).0
      (turn_is i (pc + length C) ints1 refs1 s1 ∙ ap (λ y. asks (place z (pc + length C) ints1 refs1 s1) site (act y) (pos 0) (λ v n. on n)) (w.value ia)) (λ x. plain v x (value_in s1.frame.variables))
      (λ x answers.
      let u = after_event s1 answers (s1.events ++ event_of site (act v) x ∷ []) in
      subst (λ q. Same z.flat s1.fuel (c + 6) (k (pos 0) u) answers (place z q ints1 refs1 u)) (sym end)
      (rest (pos 0) ints1 refs1 u (record { agree = subst (λ b. Agree z T scope (loose_of b (pos 0)) ints1 refs1 u) (sym ek) (same_frame z T scope [] ints1 refs1 s1 u refl refl a1); kept = w.kept; value = λ h. absurd (cc) }))))))))

  pub value_call_runs : (ka kind : Kind) (w : ValueCall) (site : Site) (run : Run ℤ) (ce : ℕ → ℕ → List Op) → is_integer ka ≡ true → is_reference kind ≡ false → is_integer kind ≡ false → RunsAs m z scope ka 0 run ce
      → RunsAs m z scope kind 1 (value_called site w run) (λ i r. ce i r ++ value_call_code w i (at_site site))
  value_call_runs ka kind Join site run ce ia ek ik of_run = event_runs ka kind site (λ v. Act.Join v) (λ i. Op.Join i (at_site site)) run ce ia ek ik (λ i pc ints refs s. refl) (λ v x held. refl) of_run
  value_call_runs ka kind Print site run ce ia ek ik of_run = event_runs ka kind site (λ v. Act.Print v) (λ i. Op.Print i (at_site site)) run ce ia ek ik (λ i pc ints refs s. refl) (λ v x held. refl) of_run

  -- ---- a call of a function of the program
  pub function_call_runs : (on_call : Calls) (n : ℕ) → CallsAs m on_call n → IsFlattened m z.flat → length z.frames + n ≡ 255 → (f : ℕ) (fn : Function) (site : Site) (all : Run (List ℤ)) (ca : ℕ → ℕ → List Op) → function_at m.typed f ≡ Some fn
      → ArgumentsAs m z scope (declared_kinds fn.parameters) all ca
      → RunsAs m z scope (declared_kind fn.result) 7 (temporarily (all >>= λ vs. on_call f site vs)) (λ i r. ca i r ++ Op.Call f i r (at_site site) ∷ [])
  function_call_runs on_call n calls_as is room f fn site all ca fn_at of_all T i r pc c ints refs s k has le re a rest =
      let C = ca i r in
      let o = Op.Call f i r (at_site site) in
      let kind = declared_kind fn.result in
      let end : pc + length C + 1 ≡ pc + length (C ++ o ∷ []) = omega (arith, length-append C (o ∷ [])) in
      let seven : c + 6 + 1 ≡ c + 7 = omega arith in
      let K : ℤ → State → Fin = λ v u. k v (without (length T) u) in
      temporarily_runs m z scope T s.fuel (c + 7) s.answers (all >>= λ vs. on_call f site vs) s k (place z pc ints refs s) a.temporaries
      (bind z.flat s.fuel (c + 7) s.answers (all s) (λ vs. on_call f site vs) K (place z pc ints refs s)
      (subst (λ q. Same z.flat s.fuel q (fin_then (all s) (λ vs u. fin_then (on_call f site vs u) K)) s.answers (place z pc ints refs s)) seven
      (of_all T i r pc (c + 6) ints refs s (λ vs u. fin_then (on_call f site vs u) K) (has_front z.flat.lines pc C (o ∷ []) has) le re a
      (λ vs ints1 refs1 s1 l a1 kept values.
      calls_as z is room scope T f fn vs i r (pc + length C) (c + 6) ints1 refs1 s1 site K fn_at (l ∙ length-map fn.parameters (λ d. declared_kind d.written)) (has_back z.flat.lines pc C (o ∷ []) has).0 le re a1 values
      (λ v ints2 refs2 s2 w2.
      let n3 = none_end m z scope T (loose_of (is_reference kind) v) (pc + length C + 1) ints2 refs2 s2 w2.agree in
      subst (λ q. Same z.flat s2.fuel (c + 6) (k v (without (length T) s2)) s2.answers q) n3.1
      (subst (λ q. Same z.flat s2.fuel (c + 6) (k v (without (length T) s2)) s2.answers (place z q ints2 refs2 (without (length T) s2))) (sym end)
      (rest v ints2 refs2 (without (length T) s2) (record { agree = n3.0; kept = λ q lt. w2.kept q lt ∙ kept q lt; value = w2.value }))))))))
