-- Calls and threads of a typed program lose no reference.
use Rattle.sharc_wants_laws.proofs.{Imports.{◌≡◌, ℕ, zero, suc, ◌+◌, ◌-◌, ◌≤◌, Bool, true, false, not, cond, List, [], ◌∷◌, ◌++◌, refl, sym, ap, ◌∙◌, subst, arith, length, length-append, take, take_at, drop, count_by, nat_lt, Option, Some, None, sum_by-cons, ℤ, pos, AllByRecursion, Act, Site, Declaration, Function, Trap, is_pointer, declared_kind, declared_kinds, Resolution, function_at, variable_kind, locals_in_all, Assignment, MeetsRules, held_mutexes, Variable, Frame, State, writes, Out, go, over, Run, then_on, ◌>>=◌, give, entered, all_released, pointers_among, ends_variables, without_temporaries, new_variable, Calls, exec_all, parameters_begin, left_at, pointers_passed, with_frame, back_in, run_function, call_value, calls, goes_away, run_thread, front, back}, Counts.{Declared, total, outer, refs, rel, vars, one, refs_append, vars_append, cut_variables}, Runs.{Same, up_level, up_on, state_of}, Steps.slot, Typed.Facts, Expressions.{Kept, CallsKeep, passed_in, kept_give}, Statements.{AreTyped, Own, exec_all_kept}}
use Rattle.sharc_tree.specs.Measures.{in_function}
use Rattle.sharc_meaning.specs.Meaning.{start}
use Rattle.sharc_wants_laws.proofs.Runs as runs
use Rattle.sharc_wants_laws.proofs.Steps as steps

-- what is known of a function
pub record Known (r : Resolution) (f : Function) : Type 0 where
  pub typed : AreTyped r (in_function f)
  pub rules : MeetsRules r f
  pub own : Own r (f.parameters ++ locals_in_all f.statements)

-- ---- parameters begin

abbrev stood : Declaration → ℤ → State → State
stood x v s = record s {
  frame = record s.frame { variables = s.frame.variables ++ new_variable x v ∷ [] };
  trace = s.trace ++ record { use_made = writes; variable = x.name.site.token; site = x.name.site; call = s.frame.call } ∷ [];
}

abbrev begun : List Declaration → List ℤ → State → State
begun [] vs s = s
begun (x ∷ rest) [] s = begun rest [] (stood x (pos 0) s)
begun (x ∷ rest) (v ∷ vs) s = begun rest vs (stood x v s)

begins : (xs : List Declaration) (vs : List ℤ) (s : State) → parameters_begin xs vs s ≡ go tt (begun xs vs s)
begins [] vs s = refl
begins (x ∷ rest) [] s = begins rest [] (stood x (pos 0) s)
begins (x ∷ rest) (v ∷ vs) s = begins rest vs (stood x v s)

slot_refs : (n : ℕ) (q : Bool) (v : ℤ) → refs n (slot q v) ≡ cond q (one n v) 0
slot_refs n true v = omega arith
slot_refs n false v = refl

-- the parameters hold what the temporaries of the arguments held
record Begun (r : Resolution) (n : ℕ) (xs : List Declaration) (vs : List ℤ) (s t : State) : Type 0 where
  callers : t.callers ≡ s.callers
  events : t.events ≡ s.events
  given : t.given_up ≡ s.given_up
  temporaries : t.frame.temporaries ≡ s.frame.temporaries
  variables : vars n s.frame.variables + refs n (passed_in (declared_kinds xs) vs) ≤ vars n t.frame.variables
  declared : AllByRecursion (Declared r) t.frame.variables

one_declared : (r : Resolution) (xs : List Variable) (x : Variable) → AllByRecursion (Declared r) xs → Declared r x → AllByRecursion (Declared r) (xs ++ x ∷ [])
one_declared r [] x h own = (own, tt)
one_declared r (y ∷ xs) x h own = (h.0, one_declared r xs x h.1 own)

begun_is : (r : Resolution) (n : ℕ) (xs : List Declaration) (vs : List ℤ) (s : State) → Own r xs → AllByRecursion (Declared r) s.frame.variables → Begun r n xs vs s (begun xs vs s)
begun_is r n [] vs s own h = record { callers = refl; events = refl; given = refl; temporaries = refl; variables = omega arith; declared = h }
begun_is r n (x ∷ rest) [] s own h =
    let k = begun_is r n rest [] (stood x (pos 0) s) own.1 (one_declared r s.frame.variables (new_variable x (pos 0)) h (ap (λ o. is_pointer (variable_kind o)) (sym own.0.1))) in
    record {
      callers = k.callers;
      events = k.events;
      given = k.given;
      temporaries = k.temporaries;
      variables =
          let more : vars n (s.frame.variables ++ new_variable x (pos 0) ∷ []) ≡ vars n s.frame.variables + vars n (new_variable x (pos 0) ∷ []) = vars_append n s.frame.variables (new_variable x (pos 0) ∷ []) in
          let le : vars n (s.frame.variables ++ new_variable x (pos 0) ∷ []) + refs n (passed_in (declared_kinds rest) []) ≤ vars n (begun rest [] (stood x (pos 0) s)).frame.variables = k.variables in
          omega arith;
      declared = k.declared;
    }
begun_is r n (x ∷ rest) (v ∷ vs) s own h =
    let k = begun_is r n rest vs (stood x v s) own.1 (one_declared r s.frame.variables (new_variable x v) h (ap (λ o. is_pointer (variable_kind o)) (sym own.0.1))) in
    record {
      callers = k.callers;
      events = k.events;
      given = k.given;
      temporaries = k.temporaries;
      variables =
          let more : vars n (s.frame.variables ++ new_variable x v ∷ []) ≡ vars n s.frame.variables + (cond (is_pointer (declared_kind x.written)) (one n v) 0 + 0) = vars_append n s.frame.variables (new_variable x v ∷ []) in
          let le : vars n (s.frame.variables ++ new_variable x v ∷ []) + refs n (passed_in (declared_kinds rest) vs) ≤ vars n (begun rest vs (stood x v s)).frame.variables = k.variables in
          let parts : refs n (slot (is_pointer (declared_kind x.written)) v ++ passed_in (declared_kinds rest) vs) ≡ refs n (slot (is_pointer (declared_kind x.written)) v) + refs n (passed_in (declared_kinds rest) vs) = refs_append n (slot (is_pointer (declared_kind x.written)) v) (passed_in (declared_kinds rest) vs) in
          let first : refs n (slot (is_pointer (declared_kind x.written)) v) ≡ cond (is_pointer (declared_kind x.written)) (one n v) 0 = slot_refs n (is_pointer (declared_kind x.written)) v in
          omega arith;
      declared = k.declared;
    }

-- as many temporaries are taken away as hold arguments

slot_length : (q : Bool) (v : ℤ) → length (slot q v) ≡ cond q 1 0
slot_length true v = refl
slot_length false v = refl

passed_length : (xs : List Declaration) (vs : List ℤ) → length vs ≡ length (declared_kinds xs) → length (passed_in (declared_kinds xs) vs) ≡ count_by (λ x. is_pointer (declared_kind x.written)) xs
passed_length [] vs h = refl
passed_length (x ∷ xs) [] h = absurd (omega arith)
passed_length (x ∷ xs) (v ∷ vs) h =
    let shorter : length vs ≡ length (declared_kinds xs) = omega arith in
    let rest : length (passed_in (declared_kinds xs) vs) ≡ count_by (λ x. is_pointer (declared_kind x.written)) xs = passed_length xs vs shorter in
    let parts : length (slot (is_pointer (declared_kind x.written)) v ++ passed_in (declared_kinds xs) vs) ≡ length (slot (is_pointer (declared_kind x.written)) v) + length (passed_in (declared_kinds xs) vs) = length-append (slot (is_pointer (declared_kind x.written)) v) (passed_in (declared_kinds xs) vs) in
    let first : length (slot (is_pointer (declared_kind x.written)) v) ≡ cond (is_pointer (declared_kind x.written)) 1 0 = slot_length (is_pointer (declared_kind x.written)) v in
    let count : count_by (λ x. is_pointer (declared_kind x.written)) (x ∷ xs) ≡ cond (is_pointer (declared_kind x.written)) 1 0 + count_by (λ x. is_pointer (declared_kind x.written)) xs = sum_by-cons (λ (x : Declaration). cond (is_pointer (declared_kind x.written)) 1 0) x xs in
    omega arith

taken_away : (ts ws : List ℤ) (k : ℕ) → length ws ≡ k → take (length (ts ++ ws) - k) (ts ++ ws) ≡ ts
taken_away ts ws k h = let long : length (ts ++ ws) ≡ length ts + length ws = length-append ts ws in take_at ts ws (length (ts ++ ws) - k) (omega arith)

take_none : (k : ℕ) → take {A = ℤ} k [] ≡ []
take_none zero = refl
take_none (suc k) = refl

module _ (m : Assignment) (n d : ℕ) where
  -- ---- the frame of a call: its variables end, it has no temporaries, and what is behind it is the caller's

  closed : {A : Type 0} → Frame → List Frame → Out A → Out A
  closed caller callers o = back_in caller callers (ends_variables 0 o)

  ended : Frame → List Frame → State → State
  ended caller callers t = record t { frame = caller; callers = callers; given_up = t.given_up ++ all_released (pointers_among (drop 0 t.frame.variables)) }

  ended_le : (caller : Frame) (callers : List Frame) (t : State) → t.callers ≡ caller ∷ callers → t.frame.temporaries ≡ [] → total n t ≤ total n (ended caller callers t)
  unfolding ended
  ended_le caller callers t c h =
      let others : outer n t.callers ≡ outer n callers + (vars n caller.variables + refs n caller.temporaries) = ap (outer n) c in
      let none : refs n t.frame.temporaries ≡ 0 = ap (refs n) h in
      let cut : vars n t.frame.variables + rel n t.given_up ≤ vars n (take 0 t.frame.variables) + rel n (t.given_up ++ all_released (pointers_among (drop 0 t.frame.variables))) = cut_variables n 0 t.frame.variables t.given_up in
      omega arith

  closed_up : {A : Type 0} (e w : ℕ) (caller : Frame) (callers : List Frame) (o : Out A) → runs.RanBy m.typed n false false e w (caller ∷ callers) (Same []) o → runs.Up m.typed n (state_of o) (state_of (closed caller callers o))
  unfolding closed ended
  closed_up e w caller callers (go x t) h = up_level _ _ _ (ended_le caller callers t h.callers_same h.after)
  closed_up e w caller callers (over o t) h = up_level _ _ _ (omega arith)

  closed_ran : {A : Type 0} (e w v : ℕ) (caller : Frame) (callers : List Frame) (o : Out A) → v ≤ w → AllByRecursion (Declared m.typed) caller.variables → runs.RanBy m.typed n false false e w (caller ∷ callers) (Same []) o
      → runs.RanBy m.typed n false false e v callers (Same caller.temporaries) (closed caller callers o)
  unfolding closed ended
  closed_ran e w v caller callers (go x t) le own h = record {
    moves = up_on e v e w _ _ (up_level e v w le) (up_on e w _ _ _ _ h.moves (up_level _ _ _ (ended_le caller callers t h.callers_same h.after)));
    callers_same = refl;
    declared = own;
    after = refl;
  }
  closed_ran e w v caller callers (over o t) le own h = up_on e v e w _ _ (up_level e v w le) h

  closed_goes : {A : Type 0} (e w : ℕ) (caller : Frame) (callers : List Frame) (o o' : Out A) → runs.RanBy m.typed n false false e w (caller ∷ callers) (Same []) o' → runs.Goes m.typed n d o o' → runs.Goes m.typed n d (closed caller callers o) (closed caller callers o')
  unfolding closed
  closed_goes e w caller callers o o' h k = runs.goes_after m.typed n d (closed caller callers) (λ t. record t { frame = caller; callers = callers; given_up = t.given_up ++ all_released (pointers_among (drop 0 t.frame.variables)) }) o o'
      (λ x t. refl) (λ z t. refl) (λ t. refl) (closed_up e w caller callers o' h) k

  module _ (on_call : Calls) (hc : CallsKeep m n d on_call) (w : Facts m.typed) (f : Function) (known : Known m.typed f) where
    -- what stands behind the parameters
    abbrev body : Run (Site × ℤ)
    body = entered (exec_all on_call m (declared_kind f.result) f.statements) >>= λ flow. give (left_at f flow)

    body_kept : Kept m n d [] body (Same [])
    body_kept = runs.kept_next m.typed n d [] [] _ _ (Same []) (runs.kept_entered m.typed n d [] _ (Same []) (exec_all_kept m n d on_call hc w (declared_kind f.result) f.result false f.statements known.typed known.rules (back _ f.parameters (locals_in_all f.statements) known.own) []))
        (λ flow. kept_give m n d [] (left_at f flow) (Same []) refl)

    -- where it begins
    abbrev inside : List ℤ → State → State
    inside vs s = begun f.parameters vs (with_frame (without_temporaries (pointers_passed f) s.frame) s)

    runs_so : (vs : List ℤ) (s : State) → run_function on_call m f vs s ≡ closed (without_temporaries (pointers_passed f) s.frame) s.callers (body (inside vs s))
    unfolding closed
    runs_so vs s = ap (λ z. back_in (without_temporaries (pointers_passed f) s.frame) s.callers (ends_variables 0 (then_on z (λ _. body)))) (begins f.parameters vs (with_frame (without_temporaries (pointers_passed f) s.frame) s))

    more_inside : (xs : List Declaration) (vs : List ℤ) (s : State) → begun xs vs (runs.more m.typed n d s) ≡ runs.more m.typed n d (begun xs vs s)
    more_inside [] vs s = refl
    more_inside (x ∷ rest) [] s = more_inside rest [] (stood x (pos 0) s)
    more_inside (x ∷ rest) (v ∷ vs) s = more_inside rest vs (stood x v s)

    -- the temporaries that are taken away held no more than the parameters
    abbrev Takes : List ℤ → State → Type 0
    Takes vs s = refs n s.frame.temporaries ≤ refs n (take (length s.frame.temporaries - pointers_passed f) s.frame.temporaries) + refs n (passed_in (declared_kinds f.parameters) vs)

    inside_le : (vs : List ℤ) (s t : State) → Takes vs s → Begun m.typed n f.parameters vs (with_frame (without_temporaries (pointers_passed f) s.frame) s) t → total n s ≤ total n t
    inside_le vs s t h b =
        let others : outer n t.callers ≡ outer n s.callers + (vars n s.frame.variables + refs n (take (length s.frame.temporaries - pointers_passed f) s.frame.temporaries)) = ap (outer n) b.callers in
        let given : rel n t.given_up ≡ rel n s.given_up = ap (rel n) b.given in
        let none : refs n t.frame.temporaries ≡ 0 = ap (refs n) b.temporaries in
        let held : 0 + refs n (passed_in (declared_kinds f.parameters) vs) ≤ vars n t.frame.variables = b.variables in
        omega arith

    function_ran : (vs : List ℤ) (s : State) → Takes vs s → AllByRecursion (Declared m.typed) s.frame.variables
        → runs.Ran m.typed n false false s (Same (without_temporaries (pointers_passed f) s.frame).temporaries) (run_function on_call m f vs s)
    function_ran vs s h own =
        let caller = without_temporaries (pointers_passed f) s.frame in
        let b = begun_is m.typed n f.parameters vs (with_frame caller s) (front _ f.parameters (locals_in_all f.statements) known.own) tt in
        let ran = (body_kept.runs (inside vs s) (b.temporaries, b.declared)).ran in
        subst (λ z. runs.Ran m.typed n false false s (Same caller.temporaries) z) (sym (runs_so vs s))
        (closed_ran (length s.events) (total n (inside vs s)) (total n s) caller s.callers (body (inside vs s)) (inside_le vs s (inside vs s) h b) own
        (subst (λ e. runs.RanBy m.typed n false false (length e) (total n (inside vs s)) (caller ∷ s.callers) (Same []) (body (inside vs s))) b.events
        (subst (λ c. runs.RanBy m.typed n false false (length (inside vs s).events) (total n (inside vs s)) c (Same []) (body (inside vs s))) b.callers ran)))

    function_goes : (vs : List ℤ) (s : State) → runs.Goes m.typed n d (run_function on_call m f vs s) (run_function on_call m f vs (runs.more m.typed n d s))
    function_goes vs s =
        let caller = without_temporaries (pointers_passed f) s.frame in
        let b = begun_is m.typed n f.parameters vs (with_frame caller s) (front _ f.parameters (locals_in_all f.statements) known.own) tt in
        let kept = body_kept.runs (inside vs s) (b.temporaries, b.declared) in
        let ran = (body_kept.runs (runs.more m.typed n d (inside vs s)) (b.temporaries, b.declared)).ran in
        let longer : inside vs (runs.more m.typed n d s) ≡ runs.more m.typed n d (inside vs s) = more_inside f.parameters vs (with_frame caller s) in
        subst (λ z. runs.Goes m.typed n d z (run_function on_call m f vs (runs.more m.typed n d s))) (sym (runs_so vs s))
        (subst (λ z. runs.Goes m.typed n d (closed caller s.callers (body (inside vs s))) z) (sym (runs_so vs (runs.more m.typed n d s)))
        (subst (λ z. runs.Goes m.typed n d (closed caller s.callers (body (inside vs s))) (closed caller s.callers (body z))) (sym longer)
        (closed_goes (length (inside vs s).events) (total n (inside vs s)) caller s.callers (body (inside vs s)) (body (runs.more m.typed n d (inside vs s)))
        (subst (λ c. runs.RanBy m.typed n false false (length (inside vs s).events) (total n (inside vs s)) c (Same []) (body (runs.more m.typed n d (inside vs s)))) b.callers ran) kept.past)))

    pub function_kept : (vs : List ℤ) (s : State) → Takes vs s → AllByRecursion (Declared m.typed) s.frame.variables
        → runs.KeptAt m.typed n d s (run_function on_call m f vs) (Same (without_temporaries (pointers_passed f) s.frame).temporaries)
    function_kept vs s h own = record { ran = function_ran vs s h own; past = function_goes vs s }

    -- with its arguments in the last temporaries
    passes_all : (ts vs : List ℤ) → length vs ≡ length (declared_kinds f.parameters) → (us : List ℤ) → us ≡ ts ++ passed_in (declared_kinds f.parameters) vs → take (length us - pointers_passed f) us ≡ ts
    passes_all ts vs long us is = ap (λ z. take (length z - pointers_passed f) z) is ∙ taken_away ts (passed_in (declared_kinds f.parameters) vs) (pointers_passed f) (passed_length f.parameters vs long)

    takes_all : (ts vs : List ℤ) → length vs ≡ length (declared_kinds f.parameters) → (s : State) → s.frame.temporaries ≡ ts ++ passed_in (declared_kinds f.parameters) vs → Takes vs s
    takes_all ts vs long s is =
        let parts : refs n s.frame.temporaries ≡ refs n ts + refs n (passed_in (declared_kinds f.parameters) vs) = ap (refs n) is ∙ refs_append n ts (passed_in (declared_kinds f.parameters) vs) in
        let left : refs n (take (length s.frame.temporaries - pointers_passed f) s.frame.temporaries) ≡ refs n ts = ap (refs n) (passes_all ts vs long s.frame.temporaries is) in
        omega arith

    pub called_kept : (vs : List ℤ) → length vs ≡ length (declared_kinds f.parameters) → (ts : List ℤ) → Kept m n d (ts ++ passed_in (declared_kinds f.parameters) vs) (run_function on_call m f vs) (Same ts)
    called_kept vs long ts = record {
      runs = λ s at.
          subst (λ z. runs.KeptAt m.typed n d s (run_function on_call m f vs) (Same z)) (passes_all ts vs long s.frame.temporaries at.0) (function_kept vs s (takes_all ts vs long s at.0) at.1);
    }

  -- ---- calls, and threads

  module _ (w : Facts m.typed) (known : (k : ℕ) (f : Function) → function_at m.typed k ≡ Some f → Known m.typed f) where
    calls_kept : (k : ℕ) → CallsKeep m n d (calls m k)
    calls_kept zero j f is site vs long ts = runs.kept_atom m.typed n d _ _ (Same ts) (steps.atom_stop m.typed n d false false _ Trap.CallDepth site (Same ts))
    calls_kept (suc k) j f is site vs long ts = subst (λ z. Kept m n d (ts ++ passed_in (declared_kinds f.parameters) vs) (call_value (calls m k) m z vs) (Same ts)) (sym is)
        (runs.kept_next m.typed n d _ ts _ _ (Same ts) (called_kept (calls m k) (calls_kept k) w f (known j f is) vs long ts) (λ left. kept_give m n d ts left.1 (Same ts) refl))

    away_kept : (ts : List ℤ) (name site : Site) → Kept m n d ts (goes_away name site) (Same ts)
    away_kept ts name site = runs.kept_atom m.typed n d ts _ (Same ts) (runs.atom_next m.typed n d false false false ts ts _ _ (Same ts) (steps.atom_events m.typed n d false ts) (λ own.
        runs.atom_next m.typed n d false false false ts ts _ _ (Same ts) (steps.atom_unless m.typed n d (not (nat_lt 0 (length (held_mutexes own)))) false ts Trap.ReturnWithLockHeld site) (λ _.
        runs.atom_weak m.typed n d ts _ (Same ts) (runs.atom_next m.typed n d false true true ts ts _ _ (Same ts) (steps.atom_performs m.typed n d false ts name Act.Return) (λ _. steps.atom_performs m.typed n d true ts name Act.Gone)))))

    thread_by : (j : ℕ) (f : Option Function) → function_at m.typed j ≡ f → (v : ℤ) (answers : List ℤ) (fuel : ℕ) → runs.KeptAt m.typed n d (start answers fuel) (run_thread m f v) (Same [])
    thread_by j None is v answers fuel = (kept_give m n d [] tt (Same []) refl).runs (start answers fuel) (refl, tt)
    thread_by j (Some f) is v answers fuel = runs.then_at m.typed n d (start answers fuel) _ _ (Same []) (Same []) (first fuel) (first (fuel + d)) (λ left us same. subst (λ z. Kept m n d us (goes_away f.name.site left.0) (Same z)) same (away_kept us f.name.site left.0))
      where
        first : (fuel : ℕ) → runs.KeptAt m.typed n d (start answers fuel) (run_function (calls m 255) m f (v ∷ [])) (Same [])
        first fuel = subst (λ z. runs.KeptAt m.typed n d (start answers fuel) (run_function (calls m 255) m f (v ∷ [])) (Same z)) (take_none (0 - pointers_passed f))
            (function_kept (calls m 255) (calls_kept 255) w f (known j f is) (v ∷ []) (start answers fuel) (omega arith) tt)

    pub thread_kept : (j : ℕ) (v : ℤ) (answers : List ℤ) (fuel : ℕ) → runs.KeptAt m.typed n d (start answers fuel) (run_thread m (function_at m.typed j) v) (Same [])
    thread_kept j v answers fuel = thread_by j (function_at m.typed j) refl v answers fuel
