-- A call of a function of the program.
use Rattle.sharc_flat.proofs.{Imports.{◌≡◌, ℕ, zero, suc, ◌+◌, ◌-◌, ◌<◌, ◌≤◌, Bool, true, false, cond, List, [], ◌∷◌, ◌++◌, length, get_or, take, Some, refl, sym, ap, ◌∙◌, subst, arith, append_assoc, length-append, nat_tests, append-nil, take_at, flat_map_more, slice_get-get_or, get_or-append_seam, sum_by-cons, ℤ, pos, slice_get, nat_lt, reverse, flat_map, count_by, Site, Declaration, Function, is_pointer, declared_kind, declared_kinds, Assignment, Frame, State, Out, go, over, ◌>>=◌, ◌>>◌, give, entered, is_reference, pointers_among, without_temporaries, stopped, ends_variables, held_by_frame, Variable, Calls, parameters_begin, left_at, pointers_passed, with_frame, back_in, run_function, call_value, calls, exec_all, Op, Spot, Flat, At, goes, halts, function_of, called_at, int_count, ref_count, at_site, Slot, around_body, function_code, in_function, statements_code, behind_statements, parameters_scope, functions_code, AreRows, IsFlattened, parameter_of, Trap, Row, no_function, GlobalCells, function_at, functions_in, reverse-cons}, Banks.bank_is, Runs.{HasAt, has_front, Fin, fin_then, Same, weaken, step, bind, ends}, Agreeing.{slots_of, int_values, refs_length, Standing, place, Agree, below, holding, loose_of, Rest}, Executing.{Beyond, StatementAs}, Calling.{refs_of, ints_of}, Functions.{begun, begun_slots, begun_refs, begun_ints, function_runs}}

pub has_all : (os pre : List Op) → HasAt (pre ++ os) (length pre) os
has_all [] pre = tt
has_all (o ∷ os) pre =
    let within : length pre < length (pre ++ o ∷ os) = omega (arith, length-append pre (o ∷ os)) in
    let here = slice_get-get_or (pre ++ o ∷ os) (length pre) o within ∙ ap Some (get_or-append_seam pre o os o) in
    let n : length (pre ++ o ∷ []) ≡ length pre + 1 = omega (arith, length-append pre (o ∷ [])) in
    let rest = has_all os (pre ++ o ∷ []) in
    let rest' = subst (λ l. HasAt l (length (pre ++ o ∷ [])) os) (append_assoc pre (o ∷ []) os) rest in
    (here, subst (λ k. HasAt (pre ++ o ∷ os) k os) n rest')

-- where the code of a function lies
pub record Linked (m : Assignment) (globals : List GlobalCells) (code : List Op) (f : Function) (row : Row) : Type 0 where
  pub stands : HasAt code row.entry (function_code m globals row.entry f)
  pub parameter : row.parameter ≡ parameter_of f.parameters
  pub site : row.site ≡ f.name.site

linked_at : (m : Assignment) (globals : List GlobalCells) (fs : List Function) (rows : List Row) (pc f : ℕ) (pre : List Op) (fn : Function) → length pre ≡ pc → AreRows m globals pc fs rows → slice_get fs f ≡ Some fn
    → Linked m globals (pre ++ functions_code m globals pc fs) fn (get_or rows f no_function)
linked_at m globals [] rows pc f pre fn e are at = absurd (cc)
linked_at m globals (g ∷ fs) [] pc f pre fn e are at = absurd are
linked_at m globals (g ∷ fs) (row ∷ rows) pc zero pre fn e are at =
    let same : g ≡ fn = cc in
    let C = function_code m globals pc g in
    let rest = functions_code m globals (pc + length C) fs in
    let here : HasAt (pre ++ (C ++ rest)) pc C = has_front (pre ++ (C ++ rest)) pc C rest (subst (λ q. HasAt (pre ++ (C ++ rest)) q (C ++ rest)) e (has_all (C ++ rest) pre)) in
    subst (λ h. Linked m globals (pre ++ (C ++ rest)) h row) same
    (record { stands = subst (λ q. HasAt (pre ++ (C ++ rest)) q (function_code m globals q g)) (sym are.0.entry) here; parameter = are.0.parameter; site = are.0.site })
linked_at m globals (g ∷ fs) (row ∷ rows) pc (suc f) pre fn e are at =
    let C = function_code m globals pc g in
    let rest = functions_code m globals (pc + length C) fs in
    let n : length (pre ++ C) ≡ pc + length C = omega (arith, length-append pre C) in
    subst (λ code. Linked m globals code fn (get_or rows f no_function)) (append_assoc pre C rest) (linked_at m globals fs rows (pc + length C) f (pre ++ C) fn n are.1 at)

pub linked : (m : Assignment) (flat : Flat) → IsFlattened m flat → (f : ℕ) (fn : Function) → function_at m.typed f ≡ Some fn → Linked m flat.globals flat.lines fn (function_of flat f)
linked m flat is f fn at = subst (λ code. Linked m flat.globals code fn (function_of flat f)) (sym is.lines) (linked_at m flat.globals (functions_in m.typed.program.items) flat.functions 0 f [] fn refl is.functions at)

-- what the frames below hold, with one frame more
pub below_more : (f : Frame) (callers : List Frame) → below (f ∷ callers) ≡ below callers ++ held_by_frame f
below_more f callers = ap (flat_map held_by_frame) (reverse-cons f callers) ∙ sym (flat_map_more held_by_frame [] (reverse callers) f)

-- a caller's frame again
pub unframe : (flat : Flat) {A : Type 0} (fuel c : ℕ) (answers : List ℤ) (caller : Frame) (others : List Frame) (o : Out A) (k : A → State → Fin) (w : At) → Same flat fuel c (fin_then o (λ x u. k x (record u { frame = caller; callers = others }))) answers w → Same flat fuel c (fin_then (back_in caller others o) k) answers w
unframe flat fuel c answers caller others (go x s) k w h = h
unframe flat fuel c answers caller others (over o s) k w h = h

pub passed_count : (ds : List Declaration) (vs : List ℤ) → length vs ≡ length ds → count_by (λ d. is_pointer (declared_kind d.written)) ds ≡ length (refs_of (declared_kinds ds) vs)
passed_count [] vs h = refl
passed_count (d ∷ ds) [] h = absurd (omega arith)
passed_count (d ∷ ds) (v ∷ vs) h = sum_by-cons (λ d. cond (is_pointer (declared_kind d.written)) 1 0) d ds ∙ by (is_pointer (declared_kind d.written)) v (refs_of (declared_kinds ds) vs) _ (passed_count ds vs (omega arith))
  where
    by : (b : Bool) (v : ℤ) (xs : List ℤ) (n : ℕ) → n ≡ length xs → cond b 1 0 + n ≡ length (cond b (v ∷ xs) xs)
    by true v xs n e = omega arith
    by false v xs n e = omega arith

module _ (m : Assignment) where
  -- calls of functions of the program, where this many more frames may be open
  abbrev pub CallsAs : Calls → ℕ → Type 0
  CallsAs call n = (z : Standing) → IsFlattened m z.flat → length z.frames + n ≡ 255 → (scope : List Slot) (T : List ℤ) (f : ℕ) (fn : Function) (vs : List ℤ) (i r pc c : ℕ) (ints refs : ℕ → ℤ) (s : State) (site : Site) (k : ℤ → State → Fin)
      → function_at m.typed f ≡ Some fn → length vs ≡ length fn.parameters → slice_get z.flat.lines pc ≡ Some (Op.Call f i r (at_site site)) → int_count scope ≤ i → r ≡ ref_count scope + length T
      → Agree z (T ++ refs_of (declared_kinds fn.parameters) vs) scope [] ints refs s → ((j : ℕ) → j < length (ints_of (declared_kinds fn.parameters) vs) → ints (z.ints + (i + j)) ≡ get_or (ints_of (declared_kinds fn.parameters) vs) j (pos 0))
      → Rest z (declared_kind fn.result) T scope i (pc + 1) c ints k → Same z.flat s.fuel (c + 1 + length (refs_of (declared_kinds fn.parameters) vs)) (fin_then (call f site vs s) k) s.answers (place z pc ints refs s)

  abbrev pub inner_scope : Standing → Function → List Slot
  inner_scope z f = (behind_statements (in_function m z.flat.globals f) f.statements).scope

  -- the bodies of the functions of the program, where this many more frames may be open
  abbrev pub BodiesAs : Calls → ℕ → Type 0
  BodiesAs call n = (z : Standing) → IsFlattened m z.flat → length z.frames + n ≡ 255 → (f : ℕ) (fn : Function) (ints0 : ℕ → ℤ) → function_at m.typed f ≡ Some fn
      → (Beyond m z (declared_kind fn.result) ints0 (parameters_scope fn.parameters) (inner_scope z fn))
      × StatementAs m z (declared_kind fn.result) ints0 (around_body fn) (Beyond m z (declared_kind fn.result) ints0 (parameters_scope fn.parameters)) (parameters_scope fn.parameters) (inner_scope z fn) 1
      (exec_all call m (declared_kind fn.result) fn.statements) (λ pc. statements_code (in_function m z.flat.globals fn) (around_body fn) pc fn.statements)

  pub no_room : CallsAs (calls m zero) zero
  no_room z is room scope T f fn vs i r pc c ints refs s site k fn_at len at le re a values rest =
      let full : nat_lt (length z.frames) 255 ≡ false = grind (arith, nat_tests, room) in
      weaken z.flat s.fuel (c + 1) (c + 1 + length (refs_of (declared_kinds fn.parameters) vs)) _ s.answers _ (omega arith)
      (ends z.flat (Op.Call f i r (at_site site)) (stopped Trap.CallDepth site) c s (place z pc ints refs s) (holding z (T ++ refs_of (declared_kinds fn.parameters) vs) scope ints refs s a) refl refl at
      (ap (λ b. cond b (goes (called_at z.flat f i r (place z pc ints refs s))) (halts (stopped Trap.CallDepth site))) full))

  pub one_call : (n : ℕ) → BodiesAs (calls m n) n → CallsAs (calls m (suc n)) (suc n)
  one_call n bodies z is room scope T f fn vs i r pc c ints refs s site k fn_at len at le re a values rest =
      let ds = fn.parameters in
      let kinds = declared_kinds ds in
      let P = refs_of kinds vs in
      let V = s.frame.variables in
      let caller = without_temporaries (pointers_passed fn) s.frame in
      let moved : pointers_passed fn ≡ length P = passed_count ds vs len in
      let keep : length s.frame.temporaries - pointers_passed fn ≡ length T = omega (arith, moved, ap length a.temporaries, length-append T P) in
      let T_is : caller.temporaries ≡ T = ap (λ q. take q s.frame.temporaries) keep ∙ ap (take (length T)) a.temporaries ∙ take_at T P (length T) refl in
      let held_is : held_by_frame caller ≡ pointers_among V ++ T = ap (λ t. pointers_among V ++ t) T_is in
      let below_is : below (caller ∷ z.callers) ≡ below z.callers ++ (pointers_among V ++ T) = below_more caller z.callers ∙ ap (λ l. below z.callers ++ l) held_is in
      let ptrs = refs_length V ∙ ap ref_count a.shape in
      let zf = z.first in
      let first_is : z.refs + r ≡ length (below (caller ∷ z.callers)) = omega (arith, ap length below_is, length-append (below z.callers) (pointers_among V ++ T), length-append (pointers_among V) T) in
      let z1 : Standing = record { flat = z.flat; function = z.function; frames = record { pc = pc + 1; ints = z.ints; refs = z.refs } ∷ z.frames; ints = z.ints + i; refs = z.refs + r; callers = caller ∷ z.callers; first = first_is } in
      let s1 = with_frame caller s in
      let room1 : length z1.frames + n ≡ 255 = omega arith in
      let link = linked m z.flat is f fn fn_at in
      let entry = (function_of z.flat f).entry in
      let body = bodies z1 is room1 f fn ints fn_at in
      let refs_are = begun_refs ds vs len in
      let ints_are = begun_ints ds vs len in
      let stack_is : below z.callers ++ (pointers_among V ++ ((T ++ P) ++ [])) ≡ below (caller ∷ z.callers) ++ pointers_among (begun ds vs) =
      ap (λ l. below z.callers ++ (pointers_among V ++ l)) (append-nil (T ++ P)) ∙ ap (λ l. below z.callers ++ l) (sym (append_assoc (pointers_among V) T P)) ∙ sym (append_assoc (below z.callers) (pointers_among V ++ T) P)
      ∙ ap (λ l. l ++ P) (sym below_is) ∙ ap (λ l. below (caller ∷ z.callers) ++ l) (sym refs_are) in
      let a1 : Agree z1 [] [] (pointers_among (begun ds vs)) ints refs s1 = record {
        callers = ap (λ l. caller ∷ l) a.callers;
        temporaries = refl;
        shape = refl;
        ints = λ q lt. absurd (omega arith);
        refs = bank_is refs _ _ stack_is a.refs;
      } in
      let values1 : (j : ℕ) → j < length (int_values (begun ds vs)) → ints (z1.ints + j) ≡ get_or (int_values (begun ds vs)) j (pos 0) =
      λ j lt. (let q : z.ints + i + j ≡ z.ints + (i + j) = omega arith in ap ints q) ∙ values j (omega (arith, ap length ints_are)) ∙ ap (λ l. get_or l j (pos 0)) (sym ints_are) in
      let K : Site × ℤ → State → Fin = λ left u. k left.1 u in
      let K1 : Site × ℤ → State → Fin = λ left u. K left (record u { frame = caller; callers = s.callers }) in
      let count : ref_count (parameters_scope ds) ≡ length P = sym (ap ref_count (begun_slots ds vs)) ∙ sym (refs_length (begun ds vs)) ∙ ap length refs_are in
      let lt_is : nat_lt (length z.frames) 255 ≡ true = grind (arith, nat_tests, room) in
      subst (λ o. Same z.flat s.fuel (c + 1 + length P) (fin_then (call_value (calls m n) m o vs s) k) s.answers (place z pc ints refs s)) (sym fn_at)
      (bind z.flat s.fuel (c + 1 + length P) s.answers (run_function (calls m n) m fn vs s) (λ left. give left.1) k (place z pc ints refs s)
      (unframe z.flat s.fuel (c + 1 + length P) s.answers caller s.callers (ends_variables 0 ((parameters_begin ds vs >> (entered (exec_all (calls m n) m (declared_kind fn.result) fn.statements) >>= λ flow. give (left_at fn flow))) s1)) (λ x u. k x.1 u) (place z pc ints refs s)
      (subst (λ q. Same z.flat s.fuel q (fin_then (ends_variables 0 ((parameters_begin ds vs >> (entered (exec_all (calls m n) m (declared_kind fn.result) fn.statements) >>= λ flow. give (left_at fn flow))) s1)) K1) s.answers (place z pc ints refs s)) (let q : c + length P + 1 ≡ c + 1 + length P = omega arith in q)
      (step z.flat (Op.Call f i r (at_site site)) s.fuel (c + length P) _ s.answers (place z pc ints refs s) (place z1 entry ints refs s1) at
      (ap (λ b. cond b (goes (called_at z.flat f i r (place z pc ints refs s))) (halts (stopped Trap.CallDepth site))) lt_is)
      (subst (λ q. Same z.flat s.fuel (c + q) (fin_then (ends_variables 0 ((parameters_begin ds vs >> (entered (exec_all (calls m n) m (declared_kind fn.result) fn.statements) >>= λ flow. give (left_at fn flow))) s1)) K1) s.answers (place z1 entry ints refs s1)) count
      (function_runs m z1 fn ints vs entry c refs (exec_all (calls m n) m (declared_kind fn.result) fn.statements) (inner_scope z1 fn) (λ q. statements_code (in_function m z.flat.globals fn) (around_body fn) q fn.statements) body.0 body.1 link.stands s1 K1 refl a1 values1
      (λ left v pc1 ints1 refs1 u at1 st value.
      let u1 : State = record u { frame = caller; callers = s.callers } in
      let back_stack : below (caller ∷ z.callers) ++ (pointers_among u.frame.variables ++ loose_of (is_reference (declared_kind fn.result)) v) ≡ below z.callers ++ (pointers_among V ++ (T ++ loose_of (is_reference (declared_kind fn.result)) v)) =
      ap (λ l. below (caller ∷ z.callers) ++ (l ++ loose_of (is_reference (declared_kind fn.result)) v)) (no_variables u.frame.variables st.agree.shape) ∙ ap (λ l. l ++ loose_of (is_reference (declared_kind fn.result)) v) below_is
      ∙ append_assoc (below z.callers) (pointers_among V ++ T) _ ∙ ap (λ l. below z.callers ++ l) (append_assoc (pointers_among V) T _) in
      let a2 : Agree z T scope (loose_of (is_reference (declared_kind fn.result)) v) ints1 refs1 u1 = record {
        callers = a.callers;
        temporaries = T_is;
        shape = a.shape;
        ints = λ q lt. st.kept (z.ints + q) (omega arith) ∙ a.ints q lt;
        refs = bank_is refs1 _ _ back_stack st.agree.refs;
      } in
      let i0 : z.ints + i ≡ z.ints + i + 0 = omega arith in
      (step z.flat (Op.Return (at_site left)) u.fuel c (k v u1) u.answers (place z1 pc1 ints1 refs1 u) (place z (pc + 1) ints1 refs1 u1) at1 refl
      (rest v ints1 refs1 u1 (record { agree = a2; kept = λ q lt. st.kept q lt; value = λ h. ap ints1 i0 ∙ value h }))))))))))
    where
      no_variables : (vs : List Variable) → slots_of vs ≡ [] → pointers_among vs ≡ []
      no_variables [] e = refl
      no_variables (x ∷ vs) e = absurd (cc)
