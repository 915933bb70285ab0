-- Each turn keeps the invariant.
use Rattle.sharc_invariant.proofs.{Imports.{◌≡◌, refl, ap, Bool, true, false, sym, ◌∙◌, subst, ShadowLaws, Read, Write, NewLaws, Code, Instr, Shape, Fits, Machine, instr_at, act, TurnsComeOut, is_exit, Turn, Global, MayTurn, result_of, one_thread, bounds, Stage, Withdraws, WithdrawsFrom, Leaves, after, Register, Targets, is_pointer, Labels, IsWellTyped, World, State, IsSmall, StageStands, OnExit, Turned, Followed, Keeps, is_withdrawing, has_returned, changes_objects, objects_now, put_same}, Own.fine, Counts.{Raise_keeps, Lower_keeps}, Steps.{of_turn, Constant_keeps, Move_keeps, Negate_int_keeps, Negate_long_keeps, Not_keeps, Same_keeps, Width_keeps, Jump_keeps, Jump_zero_keeps, Jump_null_keeps, Null_check_keeps, Not_held_keeps, Positive_keeps, Room_keeps}, Held.{Held_keeps, Lock_check_keeps, Lock_check_loaded_keeps}, Checked.check_keeps, Loads.Raise_loaded_keeps, Swaps.{Exchange_keeps, Take_cell_keeps}, Sole.{Test_sole_keeps, Null_keeps}, Indexes.{Bounds_keeps, Global_bounds_keeps}, Waits.{Cond_enter_keeps, Join_keeps, Cond_wait_keeps, Cond_broadcast_keeps}, Moves.{Move_reference_keeps, Take_local_keeps}, Calls.Call_keeps, Returns.Return_keeps, Computes.{fits_now, Compute_int_keeps, Compute_long_keeps, Complement_keeps}, Locked.{Lock_keeps, Unlock_keeps}, Signals.Cond_signal_keeps, Prints.Print_keeps, Gives.Give_keeps, ClearTurns.Clear_keeps, Starts.Start_keeps, Spawns.{Spawn_number_keeps, Spawn_reference_keeps}, Accesses.{Load_keeps, Store_keeps, LoadRef_keeps}, Makings.New_keeps, Links.Free_keeps, Exits.Exit_follows, Ends.goes_on, Owned.unchanged}

-- an instruction that may make, give or free an object
abbrev is_of_objects : Instr → Bool
is_of_objects (Instr.New r count cells site) = true
is_of_objects (Instr.Give r site) = true
is_of_objects (Instr.Free r layout site) = true
is_of_objects _ = false

module _ (x : Targets) (code : Code) (s : Shape) (ls : Labels) (wt : IsWellTyped x code ls) (fits : Fits code s) (few : IsSmall code s) (outs : TurnsComeOut) (laws : ShadowLaws) (blocks : NewLaws) (g : Global Machine) (world : World) (st : State x code s ls g world) (tr : Turn)
    (may : MayTurn bounds (one_thread code s) g tr) where
  one : (i : Instr) → instr_at code (g.threads tr.thread).at.pc ≡ i → is_exit i ≡ false → is_of_objects i ≡ false → Turned x code s ls g world tr
  one (Instr.Constant r v) is k o = Constant_keeps x code s ls wt g world st tr may r v is
  one (Instr.Move r from) is k o = Move_keeps x code s ls wt g world st tr may r from is
  one (Instr.NegateInt r a site) is k o = Negate_int_keeps x code s ls wt g world st tr may r a site is
  one (Instr.NegateLong r a site) is k o = Negate_long_keeps x code s ls wt g world st tr may r a site is
  one (Instr.Not r a) is k o = Not_keeps x code s ls wt g world st tr may r a is
  one (Instr.SameReference r a b) is k o = Same_keeps x code s ls wt g world st tr may r a b is
  one (Instr.ChkWidth w r site) is k o = Width_keeps x code s ls wt g world st tr may w r site is
  one (Instr.Jump to) is k o = Jump_keeps x code s ls wt g world st tr may to is
  one (Instr.JumpIfZero r to) is k o = Jump_zero_keeps x code s ls wt g world st tr may r to is
  one (Instr.JumpIfNull r to) is k o = Jump_null_keeps x code s ls wt g world st tr may r to is
  one (Instr.ChkNull r site) is k o = Null_check_keeps x code s ls wt g world st tr may r site is
  one (Instr.ChkHeld c site) is k o = Held_keeps x code s ls wt fits g world st tr may c site is
  one (Instr.ChkNotHeld c site) is k o = Not_held_keeps x code s ls wt g world st tr may c site is
  one (Instr.ChkPositive r site) is k o = Positive_keeps x code s ls wt g world st tr may r site is
  one (Instr.ChkRoom site) is k o = Room_keeps x code s ls wt g world st tr may site is
  one (Instr.ChkLock c site) is k o = Lock_check_keeps x code s ls wt fits g world st tr may c site is
  one (Instr.ChkLockLoaded site) is k o = Lock_check_loaded_keeps x code s ls wt fits g world st tr may site is
  one (Instr.ChkRead c site) is k o =
      let i = Instr.ChkRead c site in
      let f = fine x code s ls wt g world st tr.thread may.started may.next.runs i is refl in
      check_keeps x code s ls wt fits laws g world st tr may Read c site i is refl (of_turn x code s ls wt g world st tr may i is refl _ refl) f.0 f.1.0 f.1.1 f.1.2 f.2
  one (Instr.ChkWrite c site) is k o =
      let i = Instr.ChkWrite c site in
      let f = fine x code s ls wt g world st tr.thread may.started may.next.runs i is refl in
      check_keeps x code s ls wt fits laws g world st tr may Write c site i is refl (of_turn x code s ls wt g world st tr may i is refl _ refl) f.0 f.1.0 f.1.1 f.1.2 f.2
  one (Instr.Load r c site) is k o =
      let i = Instr.Load r c site in
      let f = fine x code s ls wt g world st tr.thread may.started may.next.runs i is refl in
      Load_keeps x code s ls wt fits g world st tr may i is refl r c site f.1.0 f.1.1 (of_turn x code s ls wt g world st tr may i is refl _ refl) f.1.2 f.1.3 f.0 f.1.4
  one (Instr.Store r c site) is k o =
      let i = Instr.Store r c site in
      let f = fine x code s ls wt g world st tr.thread may.started may.next.runs i is refl in
      Store_keeps x code s ls wt fits g world st tr may i is refl r c site f.0 f.1 (of_turn x code s ls wt g world st tr may i is refl _ refl) f.2 f.3 (fits_now x code s ls wt g world st tr may i is refl r f.1 f.4) f.5
  one (Instr.LoadRef c site) is k o =
      let i = Instr.LoadRef c site in
      let f = fine x code s ls wt g world st tr.thread may.started may.next.runs i is refl in
      LoadRef_keeps x code s ls wt fits g world st tr may i is refl c site f.0 (of_turn x code s ls wt g world st tr may i is refl _ refl) f.2 (ap is_pointer f.3) f.4
  one (Instr.Raise d from) is k o = Raise_keeps x code s ls wt few g world st tr may d from is
  one (Instr.Lower r) is k o = Lower_keeps x code s ls wt few g world st tr may r is
  one (Instr.RaiseLoaded r) is k o = Raise_loaded_keeps x code s ls wt fits few g world st tr may r is
  one (Instr.Exchange r c site) is k o = Exchange_keeps x code s ls wt fits g world st tr may r c site is
  one (Instr.TakeCell r c site) is k o = Take_cell_keeps x code s ls wt fits g world st tr may r c site is
  one (Instr.TestSole r site) is k o = Test_sole_keeps x code s ls wt fits few g world st tr may r site is
  one (Instr.Null r) is k o = Null_keeps x code s ls wt fits few g world st tr may r is
  one (Instr.Bounds r base count field site) is k o = Bounds_keeps x code s ls wt fits g world st tr may r base count field site is
  one (Instr.GlobalBounds r elements count field site) is k o = Global_bounds_keeps x code s ls wt fits g world st tr may r elements count field site is
  one (Instr.Join r site) is k o = Join_keeps x code s ls wt fits g world st tr may r site is
  one (Instr.CondWait c site) is k o = Cond_wait_keeps x code s ls wt fits g world st tr may c site is
  one (Instr.CondBroadcast c site) is k o = Cond_broadcast_keeps x code s ls wt fits g world st tr may c site is
  one (Instr.MoveReference r from) is k o = Move_reference_keeps x code s ls wt fits g world st tr may r from is
  one (Instr.TakeLocal r from site) is k o = Take_local_keeps x code s ls wt fits g world st tr may r from site is
  one (Instr.Call to ints refs site) is k o = Call_keeps x code s ls wt fits g world st tr may to ints refs site is
  one (Instr.Return site) is k o = Return_keeps x code s ls wt fits g world st tr may site is
  one (Instr.ComputeInt operator r a b site) is k o = Compute_int_keeps x code s ls wt g world st tr may operator r a b site is
  one (Instr.ComputeLong operator r a b site) is k o = Compute_long_keeps x code s ls wt g world st tr may operator r a b site is
  one (Instr.Complement r a) is k o = Complement_keeps x code s ls wt g world st tr may r a is
  one (Instr.Print r site) is k o = Print_keeps x code s ls wt fits g world st tr may r site is
  one (Instr.CondEnter c site) is k o = Cond_enter_keeps x code s ls wt fits g world st tr may c site is
  one (Instr.CondSignal c site) is k o = Cond_signal_keeps x code s ls wt fits g world st tr may c site is
  one (Instr.Lock c site) is k o = Lock_keeps x code s ls wt fits g world st tr may c site is
  one (Instr.Unlock r c site) is k o = Unlock_keeps x code s ls wt fits g world st tr may r c site is
  one (Instr.Clear r n) is k o = Clear_keeps x code s ls wt laws g world st tr may r n is
  one (Instr.Start site) is k o = Start_keeps x code s ls wt fits g world st tr may site is
  one (Instr.Spawn r f (Register.Int i) site) is k o = Spawn_number_keeps x code s ls wt fits few g world st tr may r f i site is
  one (Instr.Spawn r f (Register.Reference q) site) is k o = Spawn_reference_keeps x code s ls wt fits few g world st tr may r f q site is
  one _ is k o = absurd (cc)

  -- with what becomes of the objects
  abbrev Done : Type 0
  Done = (k : Turned x code s ls g world tr) × (k.0.obj ≡ objects_now code s ls g tr world.obj)

  changes_none : (i : Instr) (m : Machine) → is_of_objects i ≡ false → changes_objects i m ≡ false
  changes_none (Instr.New r count cells site) m e = cc
  changes_none _ m e = cc

  plain : (i : Instr) → instr_at code (g.threads tr.thread).at.pc ≡ i → is_of_objects i ≡ false → Turned x code s ls g world tr → Done
  plain i is e k = unchanged x code s ls g world tr (ap (λ i. changes_objects i (g.threads tr.thread)) is ∙ changes_none i (g.threads tr.thread) e) k

  each : (i : Instr) → instr_at code (g.threads tr.thread).at.pc ≡ i → is_exit i ≡ false → Done
  each (Instr.New r count cells site) is k = New_keeps x code s ls wt fits blocks g world st tr may r count cells site is
  each (Instr.Give r site) is k = Give_keeps x code s ls wt fits g world st tr may r site is
  each (Instr.Free r layout site) is k = Free_keeps x code s ls wt fits few laws g world st tr may r layout site is
  each i is k = plain i is refl (one i is k refl)

  -- a thread that executes another instruction has not returned
  not_exit : (P : Type 0) (i : Instr) → is_exit i ≡ false → OnExit P i → ⊥
  not_exit P Instr.Exit e h = absurd (cc)
  not_exit P _ e h = h

  staged : (i : Instr) → is_exit i ≡ false → (y : Stage) → StageStands code s st.elements world st.heap g.words tr.thread (g.threads tr.thread) i y → is_withdrawing y ≡ false
  staged i e (Withdraws row) h = absurd (not_exit _ i e h)
  staged i e (WithdrawsFrom row seen) h = absurd (not_exit _ i e h)
  staged i e Leaves h = absurd (not_exit _ i e h)
  staged i e _ h = refl

  follows : (i : Instr) → instr_at code (g.threads tr.thread).at.pc ≡ i → is_exit i ≡ false → Followed x code s ls g world tr
  follows i is e =
      let m = g.threads tr.thread in
      let w = staged i e m.own.stage (subst (λ i. StageStands code s st.elements world st.heap g.words tr.thread m i m.own.stage) is ((st.threads tr.thread).runs may.started may.next.runs).stage) in
      let now = put_same g.threads tr.thread ((one_thread code s).goes m (result_of tr.event)) in
      let on = subst (λ i. has_returned (after (act code s i m) (result_of tr.event)) ≡ false) (sym is) (goes_on s i (result_of tr.event) m _ (outs code s i m (result_of tr.event)) w e) in
      let d = each i is e in record { turned = d.0; objects = d.1; ends = λ r. let z : true ≡ false = sym r ∙ ap has_returned now ∙ on in absurd (cc) }

  all_follow : (b : Bool) → is_exit (instr_at code (g.threads tr.thread).at.pc) ≡ b → Followed x code s ls g world tr
  all_follow true e = Exit_follows x code s ls wt fits laws g world st tr may (exit_is (instr_at code (g.threads tr.thread).at.pc) e)
    where
      exit_is : (i : Instr) → is_exit i ≡ true → i ≡ Instr.Exit
      exit_is Instr.Exit e = refl
      exit_is _ e = absurd (cc)
  all_follow false e = follows (instr_at code (g.threads tr.thread).at.pc) refl e

pub kept : TurnsComeOut → ShadowLaws → NewLaws → Keeps
kept outs laws blocks x code s ls wt fits few g world st tr may = all_follow x code s ls wt fits few outs laws blocks g world st tr may (is_exit (instr_at code (g.threads tr.thread).at.pc)) refl
