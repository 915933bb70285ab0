-- A thread that has its argument to read has had no event, and a Spawn has answered its number that gave it what it is to read.
use Rattle.sharc_history_laws.proofs.{Imports.{◌≡◌, ◌≢◌, ℕ, ◌+◌, ◌<◌, inl, inr, Bool, true, false, ◌&&◌, length, List, [], ◌∷◌, ◌++◌, reverse, Option, Some, None, if◌then◌else◌, refl, sym, ap, ◌∙◌, subst, ⊎_elim, arith, eqb-true, cases_eq, nat_tests, slice_index, nat_lt, ◌==◌, ◌^◌, THREADS, SourceEvent, Code, Parameter, Instr, Shape, Stage, Rests, Enters, Withdraws, WithdrawsFrom, Leaves, FRAMES, RunLaws, Fits, state_word, function_word, Machine, instr_at, act, start, exit, withdraws, has_room, called, entered, with_parameter, function_of, opening_words, turn, after, Turn, Global, IsRun, MayTurn, put, state_now, result_of, opening_of, said, reference, started_with, in_start, SpawnsStart, one_thread, bounds, place_after, table_of, events_of, Targets, Labels, IsWellTyped, ArgumentOf, In, is_unread, is_first, if_reference, argument_of, IsSmall, StageStands, FramesStand, view_of, IsOn, Keeps, CodeBegins, CellsAreThere, PointersAreThere, AccessesAreAllowed, history_of, IsGivenTo, is_below as less, yes, put_same, put_other}, TurnAt.{turn_at, told_at}, Consists.Consists, Finds.low_slot, Holding.own_push, Lists.Newest, Locking.is_others, Past.arriving, Rules.{pushed, newest, newest_now}, Started.{Unheard, SpawnedIn, WasGiven, function_given, argument_given, spawned_any, begun_runs}, Threaded.and_parts as parts}

some_none : (f : ℕ) → Some f ≡ None → ⊥
some_none f e = cc

-- who is to read its argument has had no event
abbrev pub Quiet : Newest → Global Machine → Type 0
Quiet L g = (t : ℕ) → is_unread (g.threads t) ≡ true → Unheard L t

none_of : (L : Newest) (t : ℕ) → Unheard L t → events_of t (reverse L) ≡ []
none_of [] t k = refl
none_of (d ∷ L) t k = own_push d L t ∙ ap (λ b. if b then events_of t (reverse L) ++ d ∷ [] else events_of t (reverse L)) k.0 ∙ none_of L t k.1

-- ---- a function is entered
picks : (b : Bool) (y n : Machine) → b ≡ true → (if b then y else n).at.pc ≡ y.at.pc
picks true y n e = refl
picks false y n e = absurd (yes (sym e))

four : (a b c d : Bool) → a ≡ true → b ≡ true → c ≡ true → d ≡ true → ((a && b) && (c && d)) ≡ true
four true true true true p q r e = refl
four true true true false p q r e = absurd (yes (sym e))
four true true false d p q r e = absurd (yes (sym r))
four true false c d p q r e = absurd (yes (sym q))
four false b c d p q r e = absurd (yes (sym p))

pc_called : (z : Machine) (pc site : ℕ) → z.at.depth ≡ 0 → z.at.refs ≡ 0 → z.at.ints ≡ 0 → length z.frames ≡ FRAMES → (called z pc 0 0 site).at.pc ≡ pc
pc_called z pc site d r n long = picks (has_room z 0 0) _ _
    (four (nat_lt z.at.depth (length z.frames)) (nat_lt (z.at.depth + 1) (2 ^ 32)) (nat_lt (z.at.ints + 0) (2 ^ 32)) (nat_lt (z.at.refs + 0) (2 ^ 32))
    (less z.at.depth (length z.frames) (omega arith)) (less (z.at.depth + 1) (2 ^ 32) (omega arith)) (less (z.at.ints + 0) (2 ^ 32) (omega arith)) (less (z.at.refs + 0) (2 ^ 32) (omega arith)))

pc_entered : (code : Code) (m : Machine) (f site found : ℕ) → m.at.depth ≡ 0 → m.at.refs ≡ 0 → m.at.ints ≡ 0 → length m.frames ≡ FRAMES → (entered code m f site found).at.pc ≡ (function_of code f).entry
pc_entered code m f site found d r n long = by (function_of code f).parameter
  where
    by : (p : Parameter) → (called (with_parameter (record m { own = record m.own { stage = Rests; function = f } }) p found) (function_of code f).entry 0 0 site).at.pc ≡ (function_of code f).entry
    by Parameter.None = pc_called (record m { own = record m.own { stage = Rests; function = f } }) (function_of code f).entry site d r n long
    by Parameter.Int = pc_called (with_parameter (record m { own = record m.own { stage = Rests; function = f } }) Parameter.Int found) (function_of code f).entry site d r n long
    by Parameter.Reference = pc_called (with_parameter (record m { own = record m.own { stage = Rests; function = f } }) Parameter.Reference found) (function_of code f).entry site d r n long

-- an Exit stays at its place
same_pc : (b : Bool) (m y n : Machine) → y.at.pc ≡ m.at.pc → n.at.pc ≡ m.at.pc → (if b then y else n).at.pc ≡ m.at.pc
same_pc true m y n e f = e
same_pc false m y n e f = f

withdraws_stays : (m : Machine) (row : ℕ) → (withdraws m row).at.pc ≡ m.at.pc
withdraws_stays m row = same_pc (nat_lt row (length m.own.table.order)) m _ _ refl refl

exit_stays : (s : Shape) (m : Machine) (stage : Stage) (found : ℕ) → (after (exit s m stage) found).at.pc ≡ m.at.pc
exit_stays s m (Withdraws row) found = refl
exit_stays s m (WithdrawsFrom row seen) found = same_pc (found == seen) m _ _ (withdraws_stays m (row + 1)) refl
exit_stays s m Leaves found = refl
exit_stays s m _ found = withdraws_stays m 0

-- ---- one turn
module _ (cell_laws : CellsAreThere) (pointers : PointersAreThere) (rights : AccessesAreAllowed) (laws : RunLaws) (keeps : Keeps) (x : Targets) (code : Code) (s : Shape) (ls : Labels) (wt : IsWellTyped x code ls) (fits : Fits code s) (few : IsSmall code s)
    (one : Turn) (earlier : List Turn) (h : Consists x code s ls earlier) (may : MayTurn bounds (one_thread code s) (place_after code s earlier) one) where
  open turn_at code s (place_after code s earlier) one use {g, t as u, m, i, found}
  open told_at code s earlier one use {elements, event}

  abbrev y : Machine
  y = after (turn code s ((place_after code s earlier).threads one.thread)) (result_of one.event)

  on : IsOn (place_after code s earlier) one.thread
  on = (may.started, may.next.runs)

  -- no function has the place where threads begin
  nowhere : (to f : ℕ) → (ls.at to).function ≡ Some f → to ≢ 0
  nowhere to f is e = some_none f (sym is ∙ ap (λ n. (ls.at n).function) e ∙ wt.first.0)

  module _ (zero_then : (after (turn code s ((place_after code s earlier).threads one.thread)) (result_of one.event)).at.pc ≡ 0) where
    -- then the thread was there
    before_function : (o : Option ℕ) → (ls.at ((place_after code s earlier).threads one.thread).at.pc).function ≡ o → ((place_after code s earlier).threads one.thread).at.pc ≡ 0
    before_function (Some f) is = ⊎_elim
        (λ (same : y.at.pc ≡ m.at.pc). sym same ∙ zero_then)
        (λ (other : y.at.pc ≢ 0). absurd (other zero_then))
        (arriving x code s ls wt m f is u (view_of h.state.elements h.world u m) ((h.state.threads u).runs on.0 on.1).below i found (wt.fine m.at.pc)).place
    before_function None is = ⊎_elim
        (λ (z : m.at.pc ≡ 0). z)
        (λ (out : i ≡ Instr.Exit). sym (ap (λ j. (after (act code s j m) found).at.pc) out ∙ exit_stays s m m.own.stage found) ∙ zero_then)
        (wt.placed m.at.pc is)

    was_zero : ((place_after code s earlier).threads one.thread).at.pc ≡ 0
    was_zero = before_function (ls.at m.at.pc).function refl

    at_start : instr_at code ((place_after code s earlier).threads one.thread).at.pc ≡ Instr.Start wt.begin.0
    at_start = ap (instr_at code) was_zero ∙ wt.begin.1

    unread_first : is_first ((place_after code s earlier).threads one.thread).own.stage ≡ true → is_unread ((place_after code s earlier).threads one.thread) ≡ true
    unread_first e = ap (λ b. b && is_first m.own.stage) (ap (λ n. n == 0) was_zero) ∙ e

    nothing_stands : FramesStand x code ls one.thread (view_of h.state.elements h.world one.thread ((place_after code s earlier).threads one.thread)) ((place_after code s earlier).threads one.thread) None
    nothing_stands = subst (FramesStand x code ls u (view_of h.state.elements h.world u m) m) (ap (λ n. (ls.at n).function) was_zero ∙ wt.first.0) ((h.state.threads u).runs on.0 on.1).below

    -- it has not entered its function
    enters : (f : ℕ) → ((place_after code s earlier).threads one.thread).own.stage ≡ Enters f → ⊥
    enters f at =
        let lt : u < THREADS = h.state.begins.few u on.0 in
        let unread : is_unread m ≡ true = unread_first (ap is_first at) in
        let state : slice_index g.words (state_word u) ≡ 1 = h.state.firsts.unread u lt on.0 unread in
        let f_is : slice_index g.words (function_word u) ≡ f = subst (StageStands code s h.state.elements h.world h.state.heap g.words u m (Instr.Start wt.begin.0)) at
        (subst (λ j. StageStands code s h.state.elements h.world h.state.heap g.words u m j m.own.stage) at_start ((h.state.threads u).runs on.0 on.1).stage) in
        let is = (wt.starts f (subst (λ f. ls.starts f ≡ true) f_is (h.state.begins.function u lt state))).is in
        let q : y.at.pc ≡ (after (start code m wt.begin.0 (Enters f)) found).at.pc = ap (λ j. (after (act code s j m) found).at.pc) at_start ∙ ap (λ z. (after (start code m wt.begin.0 z) found).at.pc) at in
        nowhere (function_of code f).entry f (wt.entries f is).function
        (sym (q ∙ pc_entered code m f wt.begin.0 found nothing_stands.0 nothing_stands.1 nothing_stands.2 (h.state.threads u).has.frames) ∙ zero_then)

    quiet_own : (L : Newest) → Quiet L (place_after code s earlier) → Unheard (pushed event L) one.thread
    quiet_own L old = by m.own.stage refl (subst (λ j. StageStands code s h.state.elements h.world h.state.heap g.words u m j m.own.stage) at_start ((h.state.threads u).runs on.0 on.1).stage)
      where
        by : (stage : Stage) → ((place_after code s earlier).threads one.thread).own.stage ≡ stage
            → StageStands code s h.state.elements h.world h.state.heap (place_after code s earlier).words one.thread ((place_after code s earlier).threads one.thread) (Instr.Start wt.begin.0) ((place_after code s earlier).threads one.thread).own.stage → Unheard (pushed event L) one.thread
        by Rests at k =
            let none : event ≡ None = ap (λ j. said code j m found elements) at_start ∙ ap (in_start code m found elements) at in
            subst (λ ev. Unheard (pushed ev L) u) (sym none) (old u (unread_first (ap is_first at)))
        by (Enters f) at k = absurd (enters f at)
        by stage at k = absurd (subst (StageStands code s h.state.elements h.world h.state.heap g.words u m (Instr.Start wt.begin.0)) at k)

  quiet_other : (L : Newest) (ev : Option SourceEvent) → event ≡ ev → (t : ℕ) → (t ≡ one.thread → ⊥) → Unheard L t → Unheard (pushed ev L) t
  quiet_other L None is t ne k = k
  quiet_other L (Some e) is t ne k = (is_others cell_laws pointers rights laws keeps x code s ls wt fits few one earlier h may e is t ne, k)

  pub quiet_then : (L : Newest) → Quiet L (place_after code s earlier) → Quiet (pushed event L) (place_after code s (one ∷ earlier))
  quiet_then L old t e =
      let now = state_now (one_thread code s) g one in
      ⊎_elim
      (λ (same : t ≡ u).
      let mine : is_unread y ≡ true = subst (λ (y : Machine). is_unread y ≡ true) (put_same g.threads u now) (subst (λ t. is_unread (put g.threads u now t) ≡ true) same e) in
      subst (Unheard (pushed event L)) (sym same) (quiet_own (eqb-true y.at.pc 0 (parts (y.at.pc == 0) (is_first y.own.stage) mine).0) L old))
      (λ (ne : t ≡ u → ⊥). quiet_other L event refl t ne (old t (subst (λ (y : Machine). is_unread y ≡ true) (put_other g.threads u t now ne) e)))
      (cases_eq t u)

-- ---- runs
opened : (a b c : Bool) (p : Parameter) (v o : ℕ) → o ≢ 0 → (if (a && b) && c then if_reference p v else 0) ≡ o → (a ≡ true) × (b ≡ true) × (c ≡ true) × (p ≡ Parameter.Reference) × (v ≡ o)
opened true true true Parameter.Reference v o nz e = (refl, refl, refl, refl, e)
opened true true true Parameter.None v o nz e = absurd (nz (sym e))
opened true true true Parameter.Int v o nz e = absurd (nz (sym e))
opened true true false p v o nz e = absurd (nz (sym e))
opened true false c p v o nz e = absurd (nz (sym e))
opened false b c p v o nz e = absurd (nz (sym e))

module _ (cell_laws : CellsAreThere) (pointers : PointersAreThere) (rights : AccessesAreAllowed) (laws : RunLaws) (starts : SpawnsStart) (begins_law : CodeBegins) (keeps : Keeps) (x : Targets) (code : Code) (s : Shape) (ls : Labels) (wt : IsWellTyped x code ls) (fits : Fits code s) (few : IsSmall code s) where
  quiet_runs : (run : List Turn) → IsRun bounds (one_thread code s) (opening_of bounds (one_thread code s) (opening_words code s)) run → Quiet (newest code s run) (place_after code s run)
  quiet_runs [] run = λ t e. tt
  quiet_runs (one ∷ earlier) run =
      let old = begun_runs cell_laws pointers rights laws starts begins_law keeps x code s ls wt fits few earlier run.0 in
      subst (λ (L : Newest). Quiet L (place_after code s (one ∷ earlier))) (sym (newest_now code s one earlier))
      (quiet_then cell_laws pointers rights laws keeps x code s ls wt fits few one earlier old.consists run.1 (newest code s earlier) (quiet_runs earlier run.0))

  pub arguments_given : (run : List Turn) → IsRun bounds (one_thread code s) (opening_of bounds (one_thread code s) (opening_words code s)) run
      → (u o : ℕ) → o ≢ 0 → argument_of code (place_after code s run) u ≡ o → IsGivenTo code (history_of code s run) u o
  arguments_given run is_run u o nz e =
      let g = place_after code s run in
      let L = newest code s run in
      let T = table_of code s run in
      let f = function_given g u in
      let a = argument_given g u in
      let k = opened (nat_lt u THREADS) (slice_index g.words (state_word u) == 1) (is_unread (g.threads u)) (function_of code f).parameter a o nz e in
      let quiet : Unheard L u = quiet_runs run is_run u k.2 in
      let state : slice_index g.words (state_word u) ≡ 1 = eqb-true (slice_index g.words (state_word u)) 1 k.1 in
      let told = begun_runs cell_laws pointers rights laws starts begins_law keeps x code s ls wt fits few run is_run in
      let low : o < 2 ^ 32 = subst (λ n. n < 2 ^ 32) (told.consists.state.sim.args u ∙ e) (low_slot cell_laws x code s ls wt fits g told.consists.world told.consists.state (In (ArgumentOf u))) in
      by low k.3 k.4 quiet (told.told.given u (under u k.0) quiet state)
    where
      under : (t : ℕ) → nat_lt t THREADS ≡ true → t < THREADS
      under t e = grind (arith, nat_tests)

      by : o < 2 ^ 32 → (function_of code (function_given (place_after code s run) u)).parameter ≡ Parameter.Reference → argument_given (place_after code s run) u ≡ o → Unheard (newest code s run) u
          → WasGiven code (newest code s run) (table_of code s run) (place_after code s run) u → IsGivenTo code (history_of code s run) u o
      by low p v quiet (inl z) = absurd (nz (sym v ∙ z.2))
      by low p v quiet (inr z) =
          let g = place_after code s run in
          let L = newest code s run in
          let T = table_of code s run in
          let f = function_given g u in
          let a = argument_given g u in
          let typed : SpawnedIn L u f (reference a (T a)) = subst (λ p. SpawnedIn L u f (started_with p a (T a))) p z.2 in
          record {
            number = low;
            unread = none_of L u quiet;
            function = f;
            elements = T o;
            takes = p;
            spawned = record { other = z.0; spawned = spawned_any L u f (reference o (T o)) (subst (λ n. SpawnedIn L u f (reference n (T n))) v typed) };
          }
