-- A thread, from its start to its end, and both directions.
use Rattle.sharc_flat.proofs.{Imports.{slice_get_past, ◌≡◌, ℕ, zero, suc, ◌+◌, ◌-◌, ◌<◌, ◌≤◌, Bool, true, false, cond, List, [], ◌∷◌, ◌++◌, length, get_or, take, map, Some, None, refl, sym, ap, ◌∙◌, subst, ⊎_elim, arith, inl, inr, cases_lt, ℤ, pos, slice_get, not, nat_lt, ◌⊎◌, ◌≢◌, Site, Act, Declaration, is_pointer, declared_kind, Assignment, Frame, State, Out, go, over, then_on, ◌>>=◌, ◌>>◌, give, entered, happens, answer_of, value_in, is_reference, pointers_among, done, performs, without_temporaries, stopped, unless_stop, holds, spent, ends_variables, event_of, Outcome, wants, ended, held_references, turns, exec_all, Variable, parameters_begin, left_at, pointers_passed, with_frame, run_function, calls, run_thread, goes_away, source_asks, source_start, no_frame, held_mutexes, SpentIsNone, Op, Flat, At, goes, asks, put, on, halts, function_of, Turn, Came, exec, on_turn, on_answer, turn, line_turn, end_turn, start as start_at, first_at, begun as begun_at, with_event, ref_count, at_site, slot_of, around_body, in_function, statements_code, parameters_scope, IsFlattened, parameter_of, SameAs, ProgramSuits, MayStart, Forth, Back, AsksTheSame, Trap, function_at, Parameter}, Banks.{Bank, bank_is, bank_push}, Runs.{Fin, fin_of, fin_then, Same, weaken, step, Holds, bind, after_event, ends, Tells}, Agreeing.{slots_of, int_values, Standing, place, Agree, below, loose_of}, Declaring.declared_reference, Functions.{begun, function_runs}, Linking.{CallsAs, BodiesAs, inner_scope, no_room, one_call, linked, unframe, below_more}, Storing.performs_then, Program.{statements_run, beyond_all}}
use Rattle.sharc_meaning.specs.Meaning.{asked_by}

-- one event, also at a place after the code
asks_turn : (flat : Flat) (site : Site) (act : Act) (c : ℕ) (s : State) (w : At) (k : ℤ → State → Fin) → Holds w.refs s → w.events ≡ s.events → w.given ≡ s.given_up → turn flat w ≡ asks w site act (pos 0) (λ v n. on n)
    → ((x : ℤ) → answer_of (value_in s.frame.variables) act x ≡ answer_of (λ token. pos 0) act x)
    → ((x : ℤ) (rest : List ℤ) → Same flat s.fuel c (k x (after_event s rest (s.events ++ event_of site act x ∷ []))) rest (on (with_event (event_of site act x) w)))
    → (answers : List ℤ) → Same flat s.fuel (c + 1) (fin_then (happens answers site act s) k) answers w
asks_turn flat site act c s w k holds ev gi is same h [] = record {
  turns = 1;
  tells = subst (λ (z : Came). Tells z (fin_of (wants (event_of site act (pos 0))) s)) (sym (ap (λ t. on_turn t [] w (exec flat 0)) is)) (record { events = ev; outcome = refl; held = holds; given = gi });
  low = omega arith;
  high = omega arith;
}
asks_turn flat site act c s w k holds ev gi is same h (x ∷ rest) =
    let y = answer_of (value_in s.frame.variables) act x in
    let r = h y rest in
    let told : on_answer (x ∷ rest) w site act (pos 0) (λ v n. on n) (exec flat r.turns) ≡ exec flat r.turns rest (on (with_event (event_of site act y) w)) = ap (λ q. exec flat r.turns rest (on (with_event (event_of site act q) w))) (sym (same x)) in
    record {
      turns = suc r.turns;
      tells = subst (λ (z : Came). Tells z (k y (after_event s rest (s.events ++ event_of site act y ∷ [])))) (sym (ap (λ t. on_turn t (x ∷ rest) w (exec flat r.turns)) is ∙ told)) r.tells;
      low = omega (arith, r.low);
      high = omega (arith, r.high);
    }

ends_turn : (flat : Flat) (out : Outcome) (c : ℕ) (s : State) (w : At) → Holds w.refs s → w.events ≡ s.events → w.given ≡ s.given_up → turn flat w ≡ halts out → Same flat s.fuel (c + 1) (fin_of out s) s.answers w
ends_turn flat out c s w holds ev gi is = record {
  turns = 1;
  tells = subst (λ (z : Came). Tells z (fin_of out s)) (sym (ap (λ t. on_turn t s.answers w (exec flat 0)) is)) (record { events = ev; outcome = refl; held = holds; given = gi });
  low = omega arith;
  high = omega arith;
}

-- ---- what stays
on_list : (flat : Flat) (n d : ℕ) (answers : List ℤ) (m1 : At) (site : Site) (act : Act) (held : ℤ) (f : ℤ → At → At) → ((answers : List ℤ) (w : At) → (exec flat n answers w).outcome ≢ spent → exec flat (n + d) answers w ≡ exec flat n answers w)
    → (on_answer answers m1 site act held f (exec flat n)).outcome ≢ spent → on_answer answers m1 site act held f (exec flat (n + d)) ≡ on_answer answers m1 site act held f (exec flat n)
on_list flat n d [] m1 site act held f ih ne = refl
on_list flat n d (x ∷ rest) m1 site act held f ih ne = ih rest _ ne

on_turns : (flat : Flat) (n d : ℕ) (t : Turn) (answers : List ℤ) (w : At) → ((answers : List ℤ) (w : At) → (exec flat n answers w).outcome ≢ spent → exec flat (n + d) answers w ≡ exec flat n answers w)
    → (on_turn t answers w (exec flat n)).outcome ≢ spent → on_turn t answers w (exec flat (n + d)) ≡ on_turn t answers w (exec flat n)
on_turns flat n d (goes m2) answers w ih ne = ih answers m2 ne
on_turns flat n d (asks m1 site act held f) answers w ih ne = on_list flat n d answers m1 site act held f ih ne
on_turns flat n d (halts o) answers w ih ne = refl

pub stays_come : (flat : Flat) (n d : ℕ) (answers : List ℤ) (w : At) → (exec flat n answers w).outcome ≢ spent → exec flat (n + d) answers w ≡ exec flat n answers w
stays_come flat zero d answers w ne = absurd (ne refl)
stays_come flat (suc n) d answers w ne =
    let e : suc n + d ≡ suc (n + d) = omega arith in
    ap (λ k. exec flat k answers w) e ∙ on_turns flat n d (turn flat w) answers w (λ answers w ne. stays_come flat n d answers w ne) ne

-- ---- the whole program
module _ (m : Assignment) (suits : ProgramSuits m) where
  bodies : (n : ℕ) → CallsAs m (calls m n) n → BodiesAs m (calls m n) n
  bodies n calls_as z is room f fn ints0 at = (
    beyond_all m z (declared_kind fn.result) ints0 (calls m n) n calls_as is room (parameters_scope fn.parameters) fn.statements,
    statements_run m z (declared_kind fn.result) ints0 (calls m n) n calls_as is room fn.statements (around_body fn) (parameters_scope fn.parameters) false refl (λ h. absurd (cc)) (suits z.flat.globals f fn at),
  )

  pub calls_run : (n : ℕ) → CallsAs m (calls m n) n
  calls_run zero = no_room m
  calls_run (suc n) = one_call m n (bodies n (calls_run n))

  -- ---- the end of a thread
  module _ (flat : Flat) (f : ℕ) (name site : Site) (name_is : (function_of flat f).site ≡ name) (caller : Frame) (base_is : 0 ≡ length (below (caller ∷ []))) where
    abbrev pub z0 : Standing
    z0 = record { flat = flat; function = f; frames = []; ints = 0; refs = 0; callers = caller ∷ []; first = base_is }

    gone_at : (pc d : ℕ) (ints refs : ℕ → ℤ) (s : State) → pc ≡ length flat.lines + d → turn flat (place z0 pc ints refs s) ≡ end_turn flat (place z0 pc ints refs s) d
    gone_at pc d ints refs s e =
        let none : slice_get flat.lines pc ≡ None = ap (slice_get flat.lines) e ∙ slice_get_past flat.lines (length flat.lines + d) (omega arith) in
        let diff : pc - length flat.lines ≡ d = omega arith in
        ap (λ o. line_turn flat o (place z0 pc ints refs s)) none ∙ ap (end_turn flat (place z0 pc ints refs s)) diff

    goes_by : (b : Bool) (pc c : ℕ) (ints refs : ℕ → ℤ) (s : State) → not (nat_lt 0 (length (held_mutexes s.events))) ≡ b → Holds refs s → slice_get flat.lines pc ≡ Some (Op.Return (at_site site))
        → Same flat s.fuel (c + 4) (fin_then ((unless_stop b Trap.ReturnWithLockHeld site >> (performs name Act.Return >> performs name Act.Gone)) s) (λ _ u. fin_of ended u)) s.answers (place z0 pc ints refs s)
    goes_by false pc c ints refs s e h at =
        weaken flat s.fuel (c + 1) (c + 4) _ s.answers _ (omega arith)
        (ends flat (Op.Return (at_site site)) (stopped Trap.ReturnWithLockHeld site) c s (place z0 pc ints refs s) h refl refl at (ap (λ b. cond b (goes (record (place z0 pc ints refs s) { pc = length flat.lines })) (halts (stopped Trap.ReturnWithLockHeld site))) e))
    goes_by true pc c ints refs s e h at =
        let n = length flat.lines in
        let four : c + 1 + 1 + 1 + 1 ≡ c + 4 = omega arith in
        let n0 : n ≡ n + 0 = omega arith in
        subst (λ q. Same flat s.fuel q (fin_then ((performs name Act.Return >> performs name Act.Gone) s) (λ _ u. fin_of ended u)) s.answers (place z0 pc ints refs s)) four
        (step flat (Op.Return (at_site site)) s.fuel (c + 1 + 1 + 1) _ s.answers (place z0 pc ints refs s) (place z0 n ints refs s) at (ap (λ b. cond b (goes (place z0 n ints refs s)) (halts (stopped Trap.ReturnWithLockHeld site))) e)
        (subst (λ q. Same flat s.fuel (c + 1 + 1 + 1) q s.answers (place z0 n ints refs s)) (sym (performs_then (happens s.answers name Act.Return s) (performs name Act.Gone) (λ _ u. fin_of ended u)))
        (asks_turn flat name Act.Return (c + 1 + 1) s (place z0 n ints refs s) (λ x u. fin_then (performs name Act.Gone u) (λ _ u. fin_of ended u)) h refl refl
        (gone_at n 0 ints refs s n0 ∙ ap (λ q. asks (place z0 n ints refs s) q Act.Return (pos 0) (λ v n. on n)) name_is) (λ x. refl)
        (λ x rest.
        let u = after_event s rest (s.events ++ event_of name Act.Return x ∷ []) in
        subst (λ q. Same flat s.fuel (c + 1 + 1) q rest (place z0 (n + 1) ints refs u)) (sym (last_then (happens u.answers name Act.Gone u)))
        (asks_turn flat name Act.Gone (c + 1) u (place z0 (n + 1) ints refs u) (λ y v. fin_of ended v) h refl refl
        (gone_at (n + 1) 1 ints refs u refl ∙ ap (λ q. asks (place z0 (n + 1) ints refs u) q Act.Gone (pos 0) (λ v n. on n)) name_is) (λ y. refl)
        (λ y rest2.
        let v = after_event u rest2 (u.events ++ event_of name Act.Gone y ∷ []) in
        let n2 : n + 1 + 1 ≡ n + 2 = omega arith in
        ends_turn flat ended c v (place z0 (n + 1 + 1) ints refs v) h refl refl (gone_at (n + 1 + 1) 2 ints refs v n2)) rest)) s.answers)))
      where
        last_then : (o : Out ℤ) → fin_then (then_on o (λ _. done)) (λ _ u. fin_of ended u) ≡ fin_then o (λ y v. fin_of ended v)
        last_then (go x s) = refl
        last_then (over o s) = refl

  take_none : (n : ℕ) → (let none : List ℤ = [] in take n none ≡ none)
  take_none zero = refl
  take_none (suc n) = refl

  -- ---- the start of a thread
  record Started (flat : Flat) (f : ℕ) (v : ℤ) (ds : List Declaration) : Type 0 where
    ints : ℕ → ℤ
    refs : ℕ → ℤ
    at : start_at flat f v ≡ record (first_at flat f) { ints = ints; refs = refs }
    pointers : Bank refs (pointers_among (begun ds (v ∷ [])))
    values : (j : ℕ) → j < length (int_values (begun ds (v ∷ []))) → ints (0 + j) ≡ get_or (int_values (begun ds (v ∷ []))) j (pos 0)

  started_by : (b : Bool) (flat : Flat) (f : ℕ) (v : ℤ) (d : Declaration) → is_pointer (declared_kind d.written) ≡ b → (function_of flat f).parameter ≡ cond b Parameter.Reference Parameter.Int → Started flat f v (d ∷ [])
  started_by true flat f v d e pe = record {
    ints = λ k. pos 0;
    refs = put (λ k. pos 0) 0 v;
    at = ap (λ q. begun_at q v (first_at flat f)) pe;
    pointers = subst (λ b. Bank (put (λ k. pos 0) 0 v) (cond b (v ∷ []) [])) (sym e) (bank_push (λ k. pos 0) [] 0 v refl (λ k. refl));
    values = subst (λ b. (j : ℕ) → j < length (cond b [] (v ∷ [])) → pos 0 ≡ get_or (cond b [] (v ∷ [])) j (pos 0)) (sym e) (λ j lt. absurd (omega arith));
  }
  started_by false flat f v d e pe = record {
    ints = put (λ k. pos 0) 0 v;
    refs = λ k. pos 0;
    at = ap (λ q. begun_at q v (first_at flat f)) pe;
    pointers = subst (λ b. Bank (λ k. pos 0) (cond b (v ∷ []) [])) (sym e) (λ k. refl);
    values = subst (λ b. (j : ℕ) → j < length (cond b [] (v ∷ [])) → put (λ k. pos 0) 0 v (0 + j) ≡ get_or (cond b [] (v ∷ [])) j (pos 0)) (sym e) one_int;
  }
    where
      one_int : (j : ℕ) → j < length (v ∷ []) → put (λ k. pos 0) 0 v (0 + j) ≡ get_or (v ∷ []) j (pos 0)
      one_int zero lt = refl
      one_int (suc j) lt = absurd (omega arith)

  started : (flat : Flat) (f : ℕ) (v : ℤ) (ds : List Declaration) → (function_of flat f).parameter ≡ parameter_of ds → length ds ≤ 1 → Started flat f v ds
  started flat f v [] pe le = record { ints = λ k. pos 0; refs = λ k. pos 0; at = ap (λ q. begun_at q v (first_at flat f)) pe; pointers = λ k. refl; values = λ j lt. absurd (omega arith) }
  started flat f v (d ∷ []) pe le = started_by (is_pointer (declared_kind d.written)) flat f v d refl (pe ∙ ap (λ b. cond b Parameter.Reference Parameter.Int) (declared_reference d.written))
  started flat f v (d ∷ e ∷ ds) pe le = absurd (omega arith)

  no_pointers : (vs : List Variable) → slots_of vs ≡ [] → pointers_among vs ≡ []
  no_pointers [] e = refl
  no_pointers (x ∷ vs) e = absurd (cc)

  ref_count_few : (ds : List Declaration) → length ds ≤ 1 → ref_count (map slot_of ds) ≤ 1
  ref_count_few [] le = omega arith
  ref_count_few (d ∷ []) le = by (is_pointer (declared_kind d.written))
    where
      by : (b : Bool) → cond b (0 + 1) 0 ≤ 1
      by true = omega arith
      by false = omega arith
  ref_count_few (d ∷ e ∷ ds) le = absurd (omega arith)

  pub thread_runs : (flat : Flat) → IsFlattened m flat → (f : ℕ) → MayStart m f → (v : ℤ) (answers : List ℤ) (fuel : ℕ)
      → Same flat fuel 8 (fin_then (run_thread m (function_at m.typed f) v (source_start answers fuel)) (λ _ u. fin_of ended u)) answers (start_at flat f v)
  thread_runs flat is f may v answers fuel =
      let fn = may.function in
      let ds = fn.parameters in
      let kind = declared_kind fn.result in
      let link = linked m flat is f fn may.at in
      let entry = (function_of flat f).entry in
      let s0 = source_start answers fuel in
      let caller = without_temporaries (pointers_passed fn) no_frame in
      let empty_is : caller.temporaries ≡ [] = take_none (length no_frame.temporaries - pointers_passed fn) in
      let below_is : below (caller ∷ []) ≡ [] = below_more caller [] ∙ empty_is in
      let base_is : 0 ≡ length (below (caller ∷ [])) = sym (ap length below_is) in
      let z1 : Standing = z0 flat f fn.name.site fn.body.last link.site caller base_is in
      let s1 = with_frame caller s0 in
      let st = started flat f v ds link.parameter may.parameters in
      let P = pointers_among (begun ds (v ∷ [])) in
      let room : length z1.frames + 255 ≡ 255 = refl in
      let body = bodies 255 (calls_run 255) z1 is room f fn st.ints may.at in
      let run = exec_all (calls m 255) m kind fn.statements in
      let a1 : Agree z1 [] [] P st.ints st.refs s1 = record {
        callers = refl;
        temporaries = refl;
        shape = refl;
        ints = λ q lt. absurd (omega arith);
        refs = bank_is st.refs _ _ (ap (λ l. l ++ P) (sym below_is)) st.pointers;
      } in
      let K : Site × ℤ → State → Fin = λ left u. fin_then (goes_away fn.name.site left.0 u) (λ _ u. fin_of ended u) in
      let K1 : Site × ℤ → State → Fin = λ left u. K left (record u { frame = caller; callers = [] }) in
      let few = ref_count_few ds may.parameters in
      subst (λ o. Same flat fuel 8 (fin_then (run_thread m o v s0) (λ _ u. fin_of ended u)) answers (start_at flat f v)) (sym may.at)
      (subst (λ w. Same flat fuel 8 (fin_then (run_thread m (Some fn) v s0) (λ _ u. fin_of ended u)) answers w) (sym st.at)
      (weaken flat fuel (3 + ref_count (parameters_scope ds)) 8 _ answers _ (omega arith)
      (bind flat fuel (3 + ref_count (parameters_scope ds)) answers (run_function (calls m 255) m fn (v ∷ []) s0) (λ left. goes_away fn.name.site left.0) (λ _ u. fin_of ended u) (place z1 entry st.ints st.refs s1)
      (unframe flat fuel (3 + ref_count (parameters_scope ds)) answers caller [] (ends_variables 0 ((parameters_begin ds (v ∷ []) >> (entered run >>= λ flow. give (left_at fn flow))) s1)) K (place z1 entry st.ints st.refs s1)
      (function_runs m z1 fn st.ints (v ∷ []) entry 3 st.refs run (inner_scope m z1 fn) (λ q. statements_code (in_function m flat.globals fn) (around_body fn) q fn.statements) body.0 body.1 link.stands s1 K1 refl a1 st.values
      (λ site v2 pc ints refs u at h value.
      let u1 : State = record u { frame = caller; callers = [] } in
      let all_is : below (caller ∷ []) ++ (pointers_among u.frame.variables ++ loose_of (is_reference kind) v2) ≡ held_references u1 =
      ap (λ l. below (caller ∷ []) ++ (l ++ loose_of (is_reference kind) v2)) (no_pointers u.frame.variables h.agree.shape) ∙ ap (λ b. below (caller ∷ []) ++ loose_of b v2) may.result ∙ ap (λ l. l ++ []) below_is ∙ sym empty_is in
      goes_by flat f fn.name.site site link.site caller base_is (not (nat_lt 0 (length (held_mutexes u.events)))) pc 0 ints refs u1 refl (bank_is refs _ _ all_is h.agree.refs) at))))))

  same_fin : (o : Out (Unit {0})) (c : Came) → Tells c (fin_then o (λ _ u. fin_of ended u)) → SameAs c (asked_by o)
  same_fin (go x s) c h = record { events = h.events; outcome = h.outcome; held = h.held; given_up = h.given }
  same_fin (over out s) c h = record { events = h.events; outcome = h.outcome; held = h.held; given_up = h.given }

  -- where fuel is spent, none is left
  left_none : (laws : SpentIsNone) (f : ℕ) (v : ℤ) (answers : List ℤ) (fuel : ℕ) (o : Out (Unit {0})) → run_thread m (function_at m.typed f) v (source_start answers fuel) ≡ o → (asked_by o).outcome ≡ spent → (fin_then o (λ _ u. fin_of ended u)).left ≡ 0
  left_none laws f v answers fuel (go x s) e h = absurd (cc)
  left_none laws f v answers fuel (over out s) e h = laws m f v answers fuel s (e ∙ ap (λ q. over q s) h)

  pub forth_runs : SpentIsNone → (flat : Flat) → IsFlattened m flat → (f : ℕ) → MayStart m f → (v : ℤ) (answers : List ℤ) (fuel : ℕ) → Forth m flat f v answers fuel
  forth_runs laws flat is f may v answers fuel =
      let o = run_thread m (function_at m.typed f) v (source_start answers fuel) in
      let r = thread_runs flat is f may v answers fuel in
      let left = (fin_then o (λ _ u. fin_of ended u)).left in
      let low = r.low in
      let high = r.high in
      record {
        turns = r.turns;
        entered = fuel - left;
        same = same_fin o (exec flat r.turns answers (start_at flat f v)) r.tells;
        few = omega arith;
        all = λ h. let zero_left = left_none laws f v answers fuel o refl h in omega (arith, zero_left);
        low = omega (arith, low);
        high = omega (arith, high);
      }

  back_by : SpentIsNone → (flat : Flat) → IsFlattened m flat → (f : ℕ) → MayStart m f → (v : ℤ) (answers : List ℤ) (turns : ℕ) (o : Outcome) → (source_asks m f v answers turns).outcome ≡ o → Back m flat f v answers turns
  back_by laws flat is f may v answers turns o e =
      let run = run_thread m (function_at m.typed f) v (source_start answers turns) in
      let r = thread_runs flat is f may v answers turns in
      let same = same_fin run (exec flat r.turns answers (start_at flat f v)) r.tells in
      let low = r.low in
      record {
        fuel = turns;
        later = r.turns;
        same = same;
        reached = ⊎_elim
            (λ (lt : r.turns < turns). ⊎_elim (λ (is_spent : o ≡ spent). let zero_left = left_none laws f v answers turns run refl (e ∙ is_spent) in inl (omega (arith, zero_left, low)))
            (λ (not_spent : o ≡ spent → ⊥).
            let d : r.turns + (turns - r.turns) ≡ turns = omega arith in
            inr (ap (λ k. exec flat k answers (start_at flat f v)) (sym d) ∙ stays_come flat r.turns (turns - r.turns) answers (start_at flat f v) (λ h. not_spent (sym e ∙ sym same.outcome ∙ h))))
            (spent_or_not o))
            (λ (le : turns ≤ r.turns). inl le)
            (cases_lt r.turns turns);
      }
    where
      spent_or_not : (o : Outcome) → (o ≡ spent) ⊎ (o ≡ spent → ⊥)
      spent_or_not spent = inl refl
      spent_or_not _ = inr (λ h. absurd (cc))

  -- flat code asks for what the source asks for, in both directions
  pub asks_the_same : SpentIsNone → (flat : Flat) → IsFlattened m flat → AsksTheSame m flat
  asks_the_same laws flat is = record {
    forth = λ f may v answers fuel. forth_runs laws flat is f may v answers fuel;
    back = λ f may v answers turns. back_by laws flat is f may v answers turns (source_asks m f v answers turns).outcome refl;
  }
