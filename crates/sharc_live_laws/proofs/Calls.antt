-- Calls and threads: a call is a frame of its own, with a way through its function.
use Rattle.sharc_live_laws.proofs.{Imports.{◌≡◌, ℕ, zero, suc, ◌+◌, ◌<◌, false, ◌==◌, List, [], ◌∷◌, ◌⊎◌, inl, inr, Contains, Option, Some, None, refl, sym, subst, arith, cases_eq, ℤ, pos, Site, Declaration, Function, Trap, declared_kind, functions_in, function_at, Assignment, To, Next, Ends, Code, goes_on, parameters_flow, function_flow, Frame, Traced, State, Out, go, over, Run, then_on, ◌>>=◌, ◌>>◌, give, entered, in_block, without_temporaries, Calls, exec_all, parameters_begin, left_at, pointers_passed, with_frame, back_in, in_frame, run_function, call_value, calls, goes_away, run_thread, start, asked_by, asks, in_list}, Ways.{Way, way_goes, way_stays}, Along.{Any, onward, shown, Other, Moved, Reached, Along, along_cut, binds, blocked}, Calm.{idle, calm_give, calm_done, calm_stop, calm_away, Kept, Same}, Locals.begins_along, Places.{entered_along, then_calm}, Values.Runs, Statements.exec_all_along}

-- what a trace shows of each call is a way through a function
pub record Told (m : Assignment) (x : ℕ) (trace : List Traced) : Type 0 where
  pub calls : ℕ
  pub each : (j : ℕ) → Other m.typed x 0 calls j (shown x j trace)

module _ (m : Assignment) (x : ℕ) where
  -- ---- the frame of a call

  -- of a new call and those that it makes: each from lo on has a way through its function
  module _ (f : Function) (among : Contains (functions_in m.typed.program.items) f) (lo hi : ℕ) (l0 l1 : List Traced) (p : Moved m.typed x (function_flow m.typed f) Ends lo (lo + 1) hi l0 l1) where
    own_call : (j : ℕ) → j ≡ lo → Other m.typed x lo hi j (shown x j p.more)
    own_call j e = let more = p.calls in inr (record { low = omega arith; high = omega arith; function = f; among = among; way = subst (λ z. Way x (function_flow m.typed f) Ends (shown x z p.more)) (sym e) p.way })

    lower : (j : ℕ) → Other m.typed x (lo + 1) hi j (shown x j p.more) → Other m.typed x lo hi j (shown x j p.more)
    lower j (inl e) = inl e
    lower j (inr t) = let low = t.low in inr (record { low = omega arith; high = t.high; function = t.function; among = t.among; way = t.way })

    each_call : (j : ℕ) → Other m.typed x lo hi j (shown x j p.more)
    each_call j = by_number (cases_eq j lo)
      where
        by_number : (j ≡ lo) ⊎ (j ≡ lo → ⊥) → Other m.typed x lo hi j (shown x j p.more)
        by_number (inl e) = own_call j e
        by_number (inr n) = lower j (p.others j n)

    -- an earlier call does nothing meanwhile
    earlier_call : (j : ℕ) → j < lo → shown x j p.more ≡ []
    earlier_call j h = none (each_call j)
      where
        none : Other m.typed x lo hi j (shown x j p.more) → shown x j p.more ≡ []
        none (inl e) = e
        none (inr t) = let low = t.low in absurd (omega arith)

    moved_back : (call : ℕ) (to : To) → call < lo → Way x goes_on to [] → Moved m.typed x goes_on to call lo hi l0 l1
    moved_back call to h way = let more = p.calls in record {
      more = p.more;
      trace = p.trace;
      calls = omega arith;
      way = subst (λ z. Way x goes_on to z) (sym (earlier_call call h)) way;
      others = λ j n. each_call j;
    }

  framed_along : (f : Function) → Contains (functions_in m.typed.program.items) f → (n : ℕ) (body : Run (Site × ℤ)) → Along m.typed x (function_flow m.typed f) (λ v. Ends) Any body → Runs m x goes_on (in_frame n body)
  framed_along f among n body h = record { from_state = λ s ready. back s ready (body (with_frame (without_temporaries n s.frame) s)) (h.from_state (with_frame (without_temporaries n s.frame) s) (omega arith)) }
    where
      back : (s : State) → s.frame.call < s.calls → (o : Out (Site × ℤ)) → Reached m.typed x (function_flow m.typed f) (λ v. Ends) Any (with_frame (without_temporaries n s.frame) s) o
          → Reached m.typed x goes_on onward Any s (back_in (without_temporaries n s.frame) s.callers o)
      back s ready (go v t) k = (refl, moved_back f among s.calls t.calls s.trace t.trace k.1 s.frame.call Next ready (way_goes x Next), tt)
      back s ready (over o t) k = moved_back f among s.calls t.calls s.trace t.trace k s.frame.call Ends ready (way_stays x goes_on)

  gives_behind : {A B : Type 0} {c : Code} {n : Run A} (h : A → B) → Along m.typed x c (λ v. Ends) Any n → Along m.typed x c (λ v. Ends) Any (n >>= λ v. give (h v))
  gives_behind {A = A} {B = B} {c = c} {n = n} h k = record { from_state = λ s ready. seen s (n s) (k.from_state s ready) }
    where
      seen : (s : State) (o : Out A) → Reached m.typed x c (λ v. Ends) Any s o → Reached m.typed x c (λ v. Ends) Any s (then_on o (λ v. give (h v)))
      seen s (go v t) l = (l.0, l.1, tt)
      seen s (over o t) l = l

  parameters_along : (ds : List Declaration) (vs : List ℤ) → Runs m x (parameters_flow ds) (parameters_begin ds vs)
  parameters_along [] vs = idle m.typed x calm_done
  parameters_along (d ∷ rest) [] = binds m.typed x (begins_along m.typed x d (pos 0)) (λ v k. parameters_along rest [])
  parameters_along (d ∷ rest) (v ∷ vs) = binds m.typed x (begins_along m.typed x d v) (λ w k. parameters_along rest vs)

  module _ (is_local : (0 == x) ≡ false) where
    module _ (on_call : Calls) (called_quietly : (f : ℕ) (site : Site) (vs : List ℤ) → Runs m x goes_on (on_call f site vs)) where
      body_along : (f : Function) (vs : List ℤ) → Along m.typed x (function_flow m.typed f) (λ v. Ends) Any
          (in_block (parameters_begin f.parameters vs >> (entered (exec_all on_call m (declared_kind f.result) f.statements) >>= λ flow. give (left_at f flow))))
      body_along f vs = blocked m.typed x (binds m.typed x (parameters_along f.parameters vs) (λ v k.
          gives_behind (left_at f) (along_cut m.typed x (entered_along m.typed x (exec_all_along m x is_local on_call called_quietly (declared_kind f.result) f.statements)))))

      function_along : (f : Function) → Contains (functions_in m.typed.program.items) f → (vs : List ℤ) → Runs m x goes_on (run_function on_call m f vs)
      function_along f among vs = framed_along f among (pointers_passed f) _ (body_along f vs)

      call_value_along : (o : Option Function) → ((f : Function) → o ≡ Some f → Contains (functions_in m.typed.program.items) f) → (vs : List ℤ) → Runs m x goes_on (call_value on_call m o vs)
      call_value_along None h vs = idle m.typed x (calm_give (pos 0))
      call_value_along (Some f) h vs = then_calm m.typed x (function_along f (h f refl) vs) (λ left. calm_give left.1)

    calls_along : (n f : ℕ) (site : Site) (vs : List ℤ) → Runs m x goes_on (calls m n f site vs)
    calls_along zero f site vs = idle m.typed x (calm_stop Trap.CallDepth site)
    calls_along (suc n) f site vs = call_value_along (calls m n) (calls_along n) (function_at m.typed f) (λ g e. in_list (functions_in m.typed.program.items) f g e) vs

    -- ---- a thread

    told_none : Told m x []
    told_none = record { calls = 0; each = λ j. inl refl }

    told_same : (a b : List Traced) → a ≡ b → Told m x b → Told m x a
    told_same a b e t = subst (λ z. Told m x z) (sym e) t

    thread_told : (f : Function) → Contains (functions_in m.typed.program.items) f → (v : ℤ) (answers : List ℤ) (fuel : ℕ) → Told m x (asked_by (run_thread m (Some f) v (start answers fuel))).trace
    thread_told f among v answers fuel = from_body (body (with_frame caller s)) ((body_along (calls m 255) (calls_along 255) f (v ∷ [])).from_state (with_frame caller s) (omega arith))
      where
        s : State
        s = start answers fuel

        caller : Frame
        caller = without_temporaries (pointers_passed f) s.frame

        body : Run (Site × ℤ)
        body = in_block (parameters_begin f.parameters (v ∷ []) >> (entered (exec_all (calls m 255) m (declared_kind f.result) f.statements) >>= λ flow. give (left_at f flow)))

        told_by : (t : State) → Moved m.typed x (function_flow m.typed f) Ends 0 1 t.calls [] t.trace → Told m x t.trace
        told_by t p = record { calls = t.calls; each = λ j. subst (λ z. Other m.typed x 0 t.calls j (shown x j z)) (sym p.trace) (each_call f among 0 t.calls [] t.trace p j) }

        away : (t u : State) → Told m x t.trace → Same t u → Told m x u.trace
        away t u h k = told_same u.trace t.trace k.0 h

        from_away : (t : State) (o : Out (Unit {0})) → Told m x t.trace → Kept t o → Told m x (asked_by o).trace
        from_away t (go w u) h k = away t u h k
        from_away t (over w u) h k = away t u h k

        from_body : (o : Out (Site × ℤ)) → Reached m.typed x (function_flow m.typed f) (λ w. Ends) Any (with_frame caller s) o → Told m x (asked_by (then_on (back_in caller s.callers o) (λ left. goes_away f.name.site left.0))).trace
        from_body (go w t) k = from_away (record t { frame = caller; callers = s.callers }) (goes_away f.name.site w.0 (record t { frame = caller; callers = s.callers })) (told_by t k.1) ((calm_away f.name.site w.0).keeps (record t { frame = caller; callers = s.callers }))
        from_body (over w t) k = told_by t k

    pub asked_told : (f : ℕ) (v : ℤ) (answers : List ℤ) (fuel : ℕ) → Told m x (asks m f v answers fuel).trace
    asked_told f v answers fuel = by_function (function_at m.typed f) (λ g e. in_list (functions_in m.typed.program.items) f g e)
      where
        by_function : (o : Option Function) → ((g : Function) → o ≡ Some g → Contains (functions_in m.typed.program.items) g) → Told m x (asked_by (run_thread m o v (start answers fuel))).trace
        by_function None h = told_none
        by_function (Some g) h = thread_told g (h g refl) v answers fuel
