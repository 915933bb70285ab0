-- A path of code comes to where a path of guarded code is.
use Rattle.sharc_compile.proofs.{Imports.{◌≡◌, ℕ, zero, suc, ℤ, pos, ◌+◌, ◌*◌, ◌<◌, ◌≤◌, ◌⊎◌, inl, inr, Bool, true, false, ◌||◌, List, [], ◌∷◌, ◌++◌, length, map, replicate, refl, sym, ap, ◌∙◌, subst, ⊎_elim, arith, Option, Some, None, slice_index, get_or as slice_index_or, slice_set, lt-ltb, cases_eq, cases_lt, append-nil, map-append, length-replicate, length-set, get_or-set_same, get_or-set_other, get_or-replicate, get_or_past, if◌then◌else◌, option_map, option_to_list, SourceEvent, Code, Layout, Parameter, Instr, Shape, Frame, TurnState, Runs, Tries, Stopped, Ended, Rests, Enters, FRAMES, int_of, Machine, ref, set_ref, goes, act, at_stage, instr_at, free, freed, layout_at, entered, called, with_parameter, function_of, no_frame, begun, after, machine_after, may_go, IsPath, asked_by, most_ints, most_refs, is_left_out, is_failed_try, repeats, paced_in, said, speaks_of, reference, started_with, in_free, ThreadLaws, IsGuarded, HasParameter, Program, Thread, statement_at, started, fresh, thread_after, weight_in, weight, NULL, instr_of, generated, program_over, Elements, elements_told, said_now, said_in, Has, IsConsistentTurn, IsConsistent, MayFind, IsArgument, IsArgumentAt, Same, IsReference, IsAt, IsLinking, MatchesThread, IsAtStage, phase_of, phase_at, IsOver, spent_at, by, begins, stop_turn, IsBeginning, HasCome, lowered_by, unless_told, lowered_in, all_null}, Registers.no_reference, Lowering.{lowered_same, lowers_next, is_lower, lower_goes}, Sames.{number_at, all_ints, all_refs, set_int_same, set_ref_same, same_retabled}, Turns.{Turned, Moved, Stayed, left_at}, OneTurn.{phase_now, by_kind, at_exit}}
use Rattle.sharc_code.specs.{declared.state.At.At, Layout.function_at, Path.turn}
use Rattle.sharc_guard.specs.Logged.{TurnsLeave, lowered_of}
use Rattle.sharc_guard.specs.Machine as Form
use Rattle.sharc_guard.specs.Path as Guarded
use Rattle.sharc_compile.proofs.Inside as Inner

-- ---- instructions
mapped_at : (f : Instr → Instr) (xs : List Instr) (n : ℕ) → f Instr.Exit ≡ Instr.Exit → slice_index_or (map f xs) n Instr.Exit ≡ f (slice_index_or xs n Instr.Exit)
mapped_at f [] n e = sym e
mapped_at f (x ∷ xs) zero e = refl
mapped_at f (x ∷ xs) (suc n) e = mapped_at f xs n e

all_zero : (n i : ℕ) → slice_index_or (replicate n (pos 0)) i (pos 0) ≡ pos 0
all_zero n i = ⊎_elim
    (λ (lt : i < n). get_or-replicate n i (pos 0) (pos 0) lt)
    (λ (le : n ≤ i). get_or_past (replicate n (pos 0)) i (pos 0) (let e = length-replicate n (pos 0) in omega arith))
    (cases_lt i n)

module _ (code : Code) (s : Shape) (statements : List Instr) (is : code.instrs.items ≡ generated code.functions.items statements) (good : IsGuarded (program_over code statements)) (laws : ThreadLaws) (turns_leave : TurnsLeave) where
  abbrev p : Program
  p = program_over code statements

  instr_is : (pc : ℕ) → instr_at code pc ≡ instr_of code.functions.items (statement_at p pc)
  instr_is pc = ap (λ xs. slice_index_or xs pc Instr.Exit) is ∙ mapped_at (instr_of code.functions.items) statements pc refl

  -- ---- with the elements before the next turn
  freed_has : (m : Machine) (r : ℕ) (l : Layout) (elements n : ℕ) → 0 < n → Has (freed m r l elements) n → Has m n
  freed_has m r l elements n some (inl h) = ⊎_elim
      (λ (e : h.0 ≡ m.at.refs + r). absurd (let z = null_there h.0 e in let q = h.1 in omega arith))
      (λ (ne : h.0 ≡ m.at.refs + r → ⊥). inl (h.0, sym (get_or-set_other m.refs (m.at.refs + r) h.0 0 0 ne) ∙ h.1))
      (cases_eq h.0 (m.at.refs + r))
    where
      null_there : (i : ℕ) → i ≡ m.at.refs + r → slice_index (slice_set m.refs (m.at.refs + r) 0) i ≡ 0
      null_there i e = ⊎_elim
          (λ (lt : i < length m.refs). subst (λ k. slice_index (slice_set m.refs k 0) i ≡ 0) e (get_or-set_same m.refs i 0 0 lt))
          (λ (le : length m.refs ≤ i). get_or_past (slice_set m.refs (m.at.refs + r) 0) i 0 (let q = length-set m.refs (m.at.refs + r) 0 in omega arith))
          (cases_lt i (length m.refs))
  freed_has m r l elements n some (inr h) = inr h

  restood : (T T' : Elements) (m : Machine) (a : Thread) → ((n : ℕ) → 0 < n → Has m n → T' n ≡ T n) → MatchesThread code s p T m a → MatchesThread code s p T' m a
  restood T T' m a k (inl h) = inl (record {
    same = same_retabled code s T m a h.same T' k;
    pc_is = h.pc_is;
    stage = h.stage;
    phase_is = h.phase_is;
    over = h.over;
  })
  restood T T' m a k (inr h) = inr (record {
    register = h.register;
    layout = h.layout;
    site = h.site;
    elements = h.elements;
    statement = h.statement;
    stage = h.stage;
    same = same_retabled code s T (freed m h.register (layout_at code h.layout) h.elements) a h.same T' (λ n some has. k n some (freed_has m h.register (layout_at code h.layout) h.elements n some has));
    pc_is = h.pc_is;
    phase_is = h.phase_is;
    state_is = h.state_is;
  })

  -- ---- one turn
  abbrev cost_by : Bool → ℕ
  cost_by b = if b then 0 else 1

  abbrev cost : Machine → ℕ → ℕ
  cost m found = cost_by (is_left_out code s m found)

  cost_one : (b : Bool) → cost_by b ≤ 1
  cost_one true = omega arith
  cost_one false = omega arith

  cost_tried : (x y : Bool) → x ≡ true → cost_by (x || y) ≡ 0
  cost_tried true y e = refl
  cost_tried false y e = absurd (cc)

  cost_repeated : (x y : Bool) → y ≡ true → cost_by (x || y) ≡ 0
  cost_repeated true y e = refl
  cost_repeated false true e = refl
  cost_repeated false false e = absurd (cc)

  module _ (T later : Elements) (m : Machine) (a : Thread) (found : ℕ) (on : may_go m.at.state ≡ true) (turns : IsConsistentTurn code s T later m found) where
    abbrev m2 : Machine
    m2 = after (turn code s m) found

    tried : is_failed_try m2.at.state ≡ true → cost m found ≡ 0
    tried e = cost_tried (is_failed_try m2.at.state) (repeats m.own.stage found) e

    repeated : repeats m.own.stage found ≡ true → cost m found ≡ 0
    repeated e = cost_repeated (is_failed_try m2.at.state) (repeats m.own.stage found) e

    -- by the statement, and then by the instruction
    abbrev TurnedBy : Instr → Instr → Type 0
    TurnedBy i j = Turned code s statements T m a (cost m found) (Form.step p i a) (weight i) (after (act code s j m) found) (said code j m found (T (speaks_of j m found)))

    turned : IsAt code s p T m a → Inner.Inside p good a → Turned code s statements T m a (cost m found) (Form.turn p a) (weight (statement_at p a.pc)) m2 (said_now code T m found)
    turned h w = subst (TurnedBy (statement_at p a.pc)) (sym here) (each w)
      where
        i : Instr
        i = statement_at p a.pc

        here : instr_at code m.at.pc ≡ instr_of code.functions.items (statement_at p a.pc)
        here = instr_is m.at.pc ∙ ap (λ pc. instr_of code.functions.items (statement_at p pc)) (sym h.pc_is)

        phase : a.phase ≡ phase_at m.own.stage
        phase = h.phase_is ∙ phase_now m.at.state m.own.stage on

        finds : MayFind code s T m found (instr_of code.functions.items (statement_at p a.pc))
        finds = subst (MayFind code s T m found) here turns.finds

        quiet : asked_by (act code s (instr_of code.functions.items (statement_at p a.pc)) m) ≡ None → found ≡ 0
        quiet = subst (λ j. asked_by (act code s j m) ≡ None → found ≡ 0) here turns.quiet

        tries : is_failed_try (after (act code s (instr_of code.functions.items (statement_at p a.pc)) m) found).at.state ≡ true → cost m found ≡ 0
        tries = subst (λ j. is_failed_try (after (act code s j m) found).at.state ≡ true → cost m found ≡ 0) here tried

        each : Inner.Inside p good a → TurnedBy (statement_at p a.pc) (instr_of code.functions.items (statement_at p a.pc))
        each (inl w) =
            by_kind code s statements good T m a found (cost m found) (cost_one (is_left_out code s m found)) h.same h.pc_is w phase repeated (statement_at p a.pc) refl (Inner.at_place p good a w) h.stage finds quiet tries
        each (inr w) =
            let e = Inner.at_exit p good a w in
            subst (λ i. TurnedBy i (instr_of code.functions.items i)) (sym e)
            (at_exit code s statements good T m a found (cost m found) (cost_one (is_left_out code s m found)) h.same h.pc_is e phase repeated (subst (λ i. IsAtStage m i m.own.stage) e h.stage))

  running_stop : (st : TurnState) → may_go st ≡ true → stop_turn st ≡ 0
  running_stop Runs e = refl
  running_stop Tries e = refl
  running_stop Stopped e = absurd (cc)
  running_stop Ended e = absurd (cc)

  -- ---- the path
  -- where a thread is that has begun, with what is left to be counted
  record Come (T : Elements) (thread : ℕ) (m : Machine) (events : List SourceEvent) (low : List ℕ) (paced : ℕ) : Type 0 where
    function : ℕ
    known : function < length p.functions
    argument : ℤ
    answers : List ℤ
    path : Guarded.IsPath p (started p function argument) answers
    number : m.own.number ≡ thread
    stands : MatchesThread code s p T m (thread_after p (started p function argument) answers)
    told : events ≡ by thread (begins p function argument) ∷ map (by thread) (thread_after p (started p function argument) answers).events
    lowers : low ≡ (thread_after p (started p function argument) answers).lowered
    pace : paced + left_at m.own.stage ≤ 2 + weight_in p (started p function argument) answers + spent_at m.own.stage + stop_turn m.at.state

  path_inside : (a : Thread) (answers : List ℤ) → Inner.Inside p good a → Inner.Inside p good (thread_after p a answers)
  path_inside a [] w = w
  path_inside a (x ∷ earlier) w = Inner.turned_inside p good (thread_after p a earlier) x (path_inside a earlier w)

  module _ (T later : Elements) (thread : ℕ) (m : Machine) (found : ℕ) (events : List SourceEvent) (low : List ℕ) (paced : ℕ) (on : may_go m.at.state ≡ true) (turns : IsConsistentTurn code s T later m found) (h : Come T thread m events low paced) where
    abbrev after_it : Machine
    after_it = after (turn code s m) found

    abbrev begun_at : Thread
    begun_at = started p h.function h.argument

    abbrev there : Thread
    there = thread_after p begun_at h.answers

    abbrev e : Option SourceEvent
    e = said_now code T m found

    -- what is lowered after the turn
    abbrev low_after : List ℕ
    low_after = unless_told (said_now code T m found) (low ++ lowered_by m (instr_at code m.at.pc))

    inside : Inner.Inside p good there
    inside = path_inside begun_at h.answers (inl (Inner.started_inside p good h.function h.argument h.known))

    number_after : after_it.own.number ≡ thread
    number_after = laws.number code s m found ∙ h.number

    -- the instruction lowers what its statement does
    same_low : IsAt code s p T m there → lowered_by m (instr_at code m.at.pc) ≡ lowered_of there (statement_at p there.pc)
    same_low at =
        ap (lowered_by m) (instr_is m.at.pc ∙ ap (λ pc. instr_of code.functions.items (statement_at p pc)) (sym at.pc_is))
        ∙ lowered_same code.functions.items m there (number_at code s T m there at.same) (statement_at p there.pc)

    moves : Moved code s statements T m there (cost m found) (Form.turn p there) (weight (statement_at p there.pc)) after_it e → IsAt code s p T m there → Come later thread after_it (events ++ option_to_list e) low_after (paced + cost m found)
    moves x at = record {
      function = h.function;
      known = h.known;
      argument = h.argument;
      answers = x.answer ∷ h.answers;
      path = (h.path, x.go);
      number = number_after;
      stands = restood (elements_told e T) later after_it _ turns.kept x.stands;
      told = ap (λ ev. events ++ option_to_list ev) x.said ∙ ap (λ xs. xs ++ option_to_list (option_map (by m.own.number) x.event)) h.told ∙ ap (λ xs. by thread (begins p h.function h.argument) ∷ xs) (joined x.event ∙ ap (map (by thread)) (sym x.events));
      lowers =
          ap (λ ev. unless_told ev (low ++ lowered_by m (instr_at code m.at.pc))) x.said ∙ by_number x.event (low ++ lowered_by m (instr_at code m.at.pc))
          ∙ ap (λ xs. unless_told x.event (xs ++ lowered_by m (instr_at code m.at.pc))) h.lowers ∙ ap (λ xs. unless_told x.event (there.lowered ++ xs)) (same_low at)
          ∙ sym (lowers_next (Form.turn p there) there (lowered_of there (statement_at p there.pc)) x.answer x.event x.go (turns_leave p (statement_at p there.pc) there) x.events);
      pace = let q1 = h.pace in let q2 = x.pace in let q3 = running_stop m.at.state on in omega arith;
    }
      where
        by_number : (ev : Option SourceEvent) (xs : List ℕ) → unless_told (option_map (by m.own.number) ev) xs ≡ unless_told ev xs
        by_number None xs = refl
        by_number (Some ev) xs = refl

        joined : (ev : Option SourceEvent) → map (by thread) there.events ++ option_to_list (option_map (by m.own.number) ev) ≡ map (by thread) (there.events ++ option_to_list ev)
        joined None = append-nil (map (by thread) there.events) ∙ ap (map (by thread)) (sym (append-nil there.events))
        joined (Some ev) = ap (λ n. map (by thread) there.events ++ by n ev ∷ []) h.number ∙ sym (map-append (by thread) there.events (ev ∷ []))

    stays : Stayed code s statements T m there (cost m found) after_it e → lowered_by m (instr_at code m.at.pc) ≡ [] → Come later thread after_it (events ++ option_to_list e) low_after (paced + cost m found)
    stays x none = record {
      function = h.function;
      known = h.known;
      argument = h.argument;
      answers = h.answers;
      path = h.path;
      number = number_after;
      stands = restood T later after_it there (λ n some has. turns.kept n some has ∙ ap (λ ev. elements_told ev T n) x.said) x.stands;
      told = ap (λ ev. events ++ option_to_list ev) x.said ∙ append-nil events ∙ h.told;
      lowers = ap (λ ev. unless_told ev (low ++ lowered_by m (instr_at code m.at.pc))) x.said ∙ ap (λ xs. low ++ xs) none ∙ append-nil low ∙ h.lowers;
      pace = let q1 = h.pace in let q2 = x.pace in let q3 = running_stop m.at.state on in omega arith;
    }

    -- the block of a Free is linked
    links : IsLinking code s p T m there → Stayed code s statements T m there (cost m found) after_it e
    links l =
        let j = instr_is m.at.pc ∙ ap (instr_of code.functions.items) l.statement in
        let said_is : e ≡ None = ap (λ i. said code i m found (T (speaks_of i m found))) j ∙ ap (in_free code m l.register l.site (T (ref m l.register))) l.stage in
        let to : after_it ≡ freed m l.register (layout_at code l.layout) l.elements = ap (λ i. after (act code s i m) found) j ∙ ap (λ st. after (free code s m l.register (layout_at code l.layout) st) found) l.stage in
        record {
          said = said_is;
          stands = subst (λ x. MatchesThread code s p T x there) (sym to) (inl (record {
            same = l.same;
            pc_is = l.pc_is;
            stage = tt;
            phase_is = l.phase_is;
            over = tt;
          }));
          pace = subst (λ x. cost m found + spent_at m.own.stage + left_at x.own.stage ≤ spent_at x.own.stage + left_at m.own.stage + stop_turn x.at.state) (sym to)
              (let q1 = cost_one (is_left_out code s m found) in let q2 = ap left_at l.stage in let q3 = ap spent_at l.stage in omega arith);
        }

    -- a Lower leaves its place
    stays_at : IsAt code s p T m there → Stayed code s statements T m there (cost m found) after_it e → lowered_by m (instr_at code m.at.pc) ≡ []
    stays_at at x = same_low at ∙ each (is_lower there (statement_at p there.pc))
      where
        leaves : (r : ℕ) → statement_at p there.pc ≡ Instr.Lower r → after_it ≡ goes (set_ref m r 0) → MatchesThread code s p T after_it there → lowered_of there (statement_at p there.pc) ≡ []
        leaves r e to (inl y) = let q1 = y.pc_is in let q2 = at.pc_is in let q3 = ap (λ (m : Machine). m.at.pc) to in absurd (omega arith)
        leaves r e to (inr y) =
            absurd (subst (IsAtStage m (Instr.Lower r)) (sym (ap (λ (m : Machine). m.own.stage) to) ∙ y.stage) (subst (λ i. IsAtStage m i m.own.stage) e at.stage))

        each : ((r : ℕ) × (statement_at p there.pc ≡ Instr.Lower r)) ⊎ (lowered_of there (statement_at p there.pc) ≡ []) → lowered_of there (statement_at p there.pc) ≡ []
        each (inr none) = none
        each (inl l) =
            let here : instr_at code m.at.pc ≡ Instr.Lower l.0 = instr_is m.at.pc ∙ ap (λ pc. instr_of code.functions.items (statement_at p pc)) (sym at.pc_is) ∙ ap (instr_of code.functions.items) l.1 in
            let to : after_it ≡ goes (set_ref m l.0 0) = ap (λ i. after (act code s i m) found) here ∙ lower_goes s (ref m l.0) (goes (set_ref m l.0 0)) found in
            leaves l.0 l.1 to x.stands

    comes_on : Come later thread after_it (events ++ option_to_list e) low_after (paced + cost m found)
    comes_on = by_place h.stands
      where
        by_place : MatchesThread code s p T m there → Come later thread after_it (events ++ option_to_list e) low_after (paced + cost m found)
        by_place (inr l) = stays (links l) (ap (lowered_by m) (instr_is m.at.pc ∙ ap (instr_of code.functions.items) l.statement))
        by_place (inl x) = by_turn (turned T later m there found on turns x inside)
          where
            by_turn : Turned code s statements T m there (cost m found) (Form.turn p there) (weight (statement_at p there.pc)) after_it e → Come later thread after_it (events ++ option_to_list e) low_after (paced + cost m found)
            by_turn (inl y) = moves y x
            by_turn (inr y) = stays y (stays_at x y)

  -- ---- the beginning
  module _ (thread : ℕ) where
    abbrev first : Machine
    first = begun code s thread

    abbrev entering : ℕ → Machine
    entering f = at_stage first (Enters f)

    abbrev bottom : Frame
    bottom = record { pc = 1; ints = 0; refs = 0 }

    -- the machine in the function, but for its parameter
    abbrev called_first : ℕ → Machine
    called_first f = record first {
      at = record { pc = (function_of code f).entry; ints = 0; refs = 0; depth = 1; state = Runs };
      frames = slice_set first.frames 0 bottom;
      own = record first.own { function = f; stage = Rests };
    }

    fresh_same : (T : Elements) (f : ℕ) → Same code s T (called_first f) (fresh p f)
    fresh_same T f = record {
      from_ints = refl;
      from_refs = refl;
      in_ints = record { count = length-replicate (FRAMES * most_ints code.functions.items) (pos 0); are = λ i. sym (all_zero (FRAMES * most_ints code.functions.items) i) };
      in_refs = record {
        count = length-replicate {A = ℕ} (FRAMES * most_refs code.functions.items) 0;
        are = λ i. subst (λ n. IsReference T n NULL) (sym (all_null (FRAMES * most_refs code.functions.items) i)) (no_reference T);
      };
      loaded = no_reference T;
      slot_count = length-set (replicate FRAMES no_frame) 0 bottom ∙ length-replicate FRAMES no_frame;
      in_frames = (refl, get_or-set_same (replicate FRAMES no_frame) 0 bottom no_frame (let e = length-replicate FRAMES no_frame in omega arith), refl);
      in_log = tt;
      function_is = refl;
    }

    -- the argument as the source has it
    abbrev argued : Elements → ℕ → ℕ → ℤ
    argued T f found = started_with (function_of code f).parameter found (T found)

    abbrev begun_with : Elements → ℕ → ℕ → Thread
    begun_with T f found = started p f (argued T f found)

    int_room : (f : ℕ) → 0 < (function_of code f).ints → 0 < all_ints code
    int_room f lt = let m = Inner.ints_most p good f in omega arith

    ref_room : (f : ℕ) → 0 < (function_of code f).refs → 0 < all_refs code
    ref_room f lt = let m = Inner.refs_most p good f in omega arith

    -- after the call
    entered_is : (T : Elements) (f found site : ℕ) (q : Parameter) → HasParameter (function_of code f) q → IsArgument q found
        → let m2 = called (with_parameter (record (entering f) { own = record (entering f).own { stage = Rests; function = f } }) q found) (function_of code f).entry 0 0 site in
        Same code s T m2 (Guarded.with_parameter (fresh p f) q (started_with q found (T found))) × (m2.at ≡ (called_first f).at) × (m2.own.stage ≡ Rests)
    entered_is T f found site Parameter.None has arg = (fresh_same T f, refl, refl)
    entered_is T f found site Parameter.Int has arg =
        (set_int_same code s T (called_first f) (fresh p f) (fresh_same T f) 0 (int_of found) (int_of found) refl (let q = int_room f has in omega arith), refl, refl)
    entered_is T f found site Parameter.Reference has arg =
        (set_ref_same code s T (called_first f) (fresh p f) (fresh_same T f) 0 found (reference found (T found)) (record { is = refl; small = arg }) (let q = ref_room f has in omega arith), refl, refl)

    -- ---- all of a path
    record IsEntering (m : Machine) (events : List SourceEvent) (paced : ℕ) : Type 0 where
      function : ℕ
      known : function < length p.functions
      machine : m ≡ entering function
      told : events ≡ []
      pace : paced ≤ 1

    record IsFirst (m : Machine) (events : List SourceEvent) (paced : ℕ) : Type 0 where
      machine : m ≡ first
      told : events ≡ []
      pace : paced ≡ 0

    abbrev Where : Elements → Machine → List SourceEvent → List ℕ → ℕ → Type 0
    Where T m events low paced = IsFirst m events paced ⊎ (IsEntering m events paced ⊎ Come T thread m events low paced)

    start_is : instr_at code 0 ≡ Instr.Start good.start
    start_is = instr_is 0 ∙ ap (instr_of code.functions.items) (Inner.at_start p good)

    module _ (T later : Elements) (m : Machine) (found : ℕ) (events : List SourceEvent) (low : List ℕ) (paced : ℕ) (on : may_go m.at.state ≡ true) (turns : IsConsistentTurn code s T later m found) where
      abbrev next_one : Machine
      next_one = after (turn code s m) found

      abbrev said_one : Option SourceEvent
      said_one = said_now code T m found

      abbrev Next : Type 0
      Next = Where later next_one (events ++ option_to_list said_one) (unless_told said_one (low ++ lowered_by m (instr_at code m.at.pc))) (paced + cost m found)

      from_first : IsFirst m events paced → Next
      from_first h =
          let here : instr_at code m.at.pc ≡ Instr.Start good.start = ap (λ (m : Machine). instr_at code m.at.pc) h.machine ∙ start_is in
          let lt : found < length code.functions.items = subst (λ (m : Machine). IsArgumentAt code m.own.stage found) h.machine (subst (MayFind code s T m found) here turns.finds) in
          let to : next_one ≡ entering (function_at code found) = ap (λ i. after (act code s i m) found) here ∙ ap (λ (m : Machine). after (act code s (Instr.Start good.start) m) found) h.machine in
          let f : function_at code found ≡ found = rw (lt-ltb found (length code.functions.items) lt) refl in
          let none : said_one ≡ None = ap (λ i. said code i m found (T (speaks_of i m found))) here ∙ ap (λ (m : Machine). said code (Instr.Start good.start) m found (T found)) h.machine in
          inr (inl (record {
            function = found;
            known = lt;
            machine = to ∙ ap entering f;
            told = ap (λ ev. events ++ option_to_list ev) none ∙ append-nil events ∙ h.told;
            pace = let q1 = h.pace in let q2 = cost_one (is_left_out code s m found) in omega arith;
          }))

      from_entering : IsEntering m events paced → Next
      from_entering h =
          let f = h.function in
          let q = (function_of code f).parameter in
          let here : instr_at code m.at.pc ≡ Instr.Start good.start = ap (λ (m : Machine). instr_at code m.at.pc) h.machine ∙ start_is in
          let arg : IsArgument q found = subst (λ (m : Machine). IsArgumentAt code m.own.stage found) h.machine (subst (MayFind code s T m found) here turns.finds) in
          let m2 = entered code (entering f) f good.start found in
          let to : next_one ≡ m2 = ap (λ i. after (act code s i m) found) here ∙ ap (λ (m : Machine). after (act code s (Instr.Start good.start) m) found) h.machine in
          let says_it : said_one ≡ Some (by thread (begins p f (argued T f found))) = ap (λ i. said code i m found (T (speaks_of i m found))) here ∙ ap (λ (m : Machine). said code (Instr.Start good.start) m found (T found)) h.machine in
          let en = entered_is T f found good.start q (good.entries f h.known).parameter arg in
          let run : m2.at.state ≡ Runs = ap (λ (at : At). at.state) en.1 in
          let at_pc : m2.at.pc ≡ (function_of code f).entry = ap (λ (at : At). at.pc) en.1 in
          let stands : MatchesThread code s p T m2 (begun_with T f found) = inl (record {
            same = en.0;
            pc_is = (begun (fresh p f) (argued T f found) q).0 ∙ sym at_pc;
            stage = subst (IsAtStage m2 (statement_at p (begun_with T f found).pc)) (sym en.2) tt;
            phase_is = (begun (fresh p f) (argued T f found) q).1 ∙ sym (ap (λ st. phase_of st m2.own.stage) run ∙ ap phase_at en.2);
            over = subst (λ st. IsOver p (begun_with T f found) st m2.own.stop) (sym run) tt;
          }) in
          inr (inr (record {
            function = f;
            known = h.known;
            argument = argued T f found;
            answers = [];
            path = tt;
            number = laws.number code s m found ∙ ap (λ (m : Machine). m.own.number) h.machine;
            stands = restood T later next_one (begun_with T f found) (λ n some has. turns.kept n some has ∙ ap (λ ev. elements_told ev T n) says_it) (subst (λ x. MatchesThread code s p T x (begun_with T f found)) (sym to) stands);
            told = ap (λ ev. events ++ option_to_list ev) says_it ∙ ap (λ xs. xs ++ by thread (begins p f (argued T f found)) ∷ []) h.told
                ∙ ap (λ xs. by thread (begins p f (argued T f found)) ∷ map (by thread) xs) (sym ((begun (fresh p f) (argued T f found) q).3));
            lowers = ap (λ ev. unless_told ev (low ++ lowered_by m (instr_at code m.at.pc))) says_it ∙ sym ((begun (fresh p f) (argued T f found) q).2);
            pace = subst (λ (x : Machine). paced + cost m found + left_at x.own.stage ≤ 2 + 0 + spent_at x.own.stage + stop_turn x.at.state) (sym to)
                (let q1 = h.pace in let q2 = cost_one (is_left_out code s m found) in let q3 = ap left_at en.2 in omega arith);
          }))
        where
          -- what a parameter leaves as it was
          begun : (a : Thread) (v : ℤ) (q : Parameter) → let b = Guarded.with_parameter a q v in (b.pc ≡ a.pc) × (b.phase ≡ a.phase) × (b.lowered ≡ a.lowered) × (b.events ≡ a.events)
          begun a v Parameter.None = (refl, refl, refl, refl)
          begun a v _ = (refl, refl, refl, refl)

      from_any : Where T m events low paced → Next
      from_any (inl h) = from_first h
      from_any (inr (inl h)) = from_entering h
      from_any (inr (inr h)) = inr (inr (comes_on T later thread m found events low paced on turns h))

    all_of : (elements : ℕ → Elements) (founds : List ℕ) → IsPath code s first founds → IsConsistent code s first elements founds
        → Where (elements (length founds)) (machine_after code s first founds) (said_in code s first elements founds) (lowered_in code s first elements founds) (paced_in code s first founds)
    all_of elements [] path cons = inl (record { machine = refl; told = refl; pace = refl })
    all_of elements (found ∷ earlier) path cons =
        subst (λ k. Where (elements k) (machine_after code s first (found ∷ earlier)) (said_in code s first elements (found ∷ earlier)) (lowered_in code s first elements (found ∷ earlier)) (paced_in code s first (found ∷ earlier))) (omega arith)
        (from_any (elements (length earlier)) (elements (length earlier + 1)) (machine_after code s first earlier) found (said_in code s first elements earlier) (lowered_in code s first elements earlier) (paced_in code s first earlier) path.1 cons.1
        (all_of elements earlier path.0 cons.0))

    pub comes : (elements : ℕ → Elements) (founds : List ℕ) → IsPath code s first founds → IsConsistent code s first elements founds
        → IsBeginning (machine_after code s first founds) (said_in code s first elements founds) (paced_in code s first founds)
        ⊎ HasCome code s p (elements (length founds)) thread (machine_after code s first founds) (said_in code s first elements founds) (lowered_in code s first elements founds) (paced_in code s first founds)
    comes elements founds path cons = told (all_of elements founds path cons)
      where
        told : Where (elements (length founds)) (machine_after code s first founds) (said_in code s first elements founds) (lowered_in code s first elements founds) (paced_in code s first founds)
            → IsBeginning (machine_after code s first founds) (said_in code s first elements founds) (paced_in code s first founds)
            ⊎ HasCome code s p (elements (length founds)) thread (machine_after code s first founds) (said_in code s first elements founds) (lowered_in code s first elements founds) (paced_in code s first founds)
        told (inl h) = inl (record { pc_is = ap (λ (m : Machine). m.at.pc) h.machine; nothing = h.told; pace = let q = h.pace in omega arith })
        told (inr (inl h)) = inl (record { pc_is = ap (λ (m : Machine). m.at.pc) h.machine; nothing = h.told; pace = h.pace })
        told (inr (inr h)) = inr (record {
          function = h.function;
          known = h.known;
          argument = h.argument;
          answers = h.answers;
          path = h.path;
          stands = h.stands;
          events = h.told;
          lowers = h.lowers;
          pace = let q = h.pace in omega arith;
        })
