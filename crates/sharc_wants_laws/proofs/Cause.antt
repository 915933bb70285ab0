-- The reference besides the one that was tested, by where the words tell of it.
use Rattle.sharc_wants_laws.proofs.{Imports.{◌≡◌, ℕ, ◌+◌, ◌⊎◌, inl, inr, Bool, true, false, List, [], ◌∷◌, ◌++◌, if◌then◌else◌, refl, sym, ap, ◌∙◌, subst, arith, eq-eqb, eqb-true, false≢true, Contains-append_right, ◌==◌, Some, Contains, slice_index, CellAt, GlobalNumber, Made, SourceEvent, Assignment, GivenUp, Emptied, events_of, Asked, is_live, Begun, asked_with, in_argument, in_cell, in_mutex, in_thread, is_taken_to_free, IsBeingTaken, TakenAreBeingTaken, ThreadsHaveBegun, CellsSee, IsSeenInCell, in_global, in_made, in_freed, IsEmptying, is_emptying, FreesEmpty, HandsFly, IsPastEvents, TestersGive, ArgumentsSee, LogsSee, SilentHaveNothing, NothingIsInFlight, ShowsReference, AreQuiet, HaveBegun, IsSeen, RegistersAreSeen, Free, TestSole, Stage, Empties, Lowers, FreeLooks, FreeClears, Uncounts, Links, begun, Code, Shape, NotSole, Fits, Machine, instr_at, ref, Global, Turn, turns_of, CheckedRun, place_after, MayStart, Flattens, FlatCode, IsConsistent, elements_before, founds_of, IsCodeOf, IsGivenAway, targets_of, cell_refers, hand_refers, is_freed, register_of, staged_of, ObjectState, Labels, IsWellTyped, IsSmall, first_world, first_place, objects_after, history_of, PathsAreConsistent, CastReportsShow, FindsOthers, OtherReference, InRegister, InArgument, InLog, InHand, InCell, RunsBegin, IsBeingFreed, is_clearing, BeginsWith, yes}, Tables.has_tables}

no_thread : (c : CellAt) (t i : ℕ) → in_mutex c ≡ in_thread t i → ⊥
no_thread c t i h = cc

no_argument : (u t i : ℕ) → in_argument u ≡ in_thread t i → ⊥
no_argument u t i h = cc

no_cell : (c : CellAt) (t i : ℕ) → in_cell c ≡ in_thread t i → ⊥
no_cell c t i h = cc

pub no_free : (register site r layout at : ℕ) → TestSole register site ≡ Free r layout at → ⊥
no_free register site r layout at h = cc

-- who has something in hand is emptying an object
hand_empties : (stage : Stage) (n : ℕ) → staged_of stage ≡ n → (n ≡ 0 → ⊥) → is_emptying stage ≡ true
hand_empties (Lowers i elements found) n e some = refl
hand_empties _ n e some = absurd (some (sym e))

-- ---- an object that is being freed
pub clearing_empties : (stage : Stage) → is_clearing stage ≡ true → is_emptying stage ≡ true
clearing_empties (Empties i elements) e = refl
clearing_empties (Lowers i elements found) e = refl
clearing_empties (FreeLooks done elements) e = refl
clearing_empties (FreeClears done elements seen) e = refl
clearing_empties (Uncounts elements) e = refl
clearing_empties _ e = absurd (false≢true e)

-- its register is still one
not_freed : (r layout at : ℕ) (stage : Stage) (base i : ℕ) → is_clearing stage ≡ true → is_freed (Free r layout at) stage base i ≡ false
not_freed r layout at (Links elements) base i e = absurd (false≢true e)
not_freed r layout at _ base i e = refl

pub register_there : (code : Code) (at : Machine) (r layout site i : ℕ) → instr_at code at.at.pc ≡ Free r layout site → is_clearing at.own.stage ≡ true → register_of code at i ≡ slice_index at.refs i
register_there code at r layout site i is clearing =
    ap (λ j. if is_freed j at.own.stage at.at.refs i then 0 else slice_index at.refs i) is ∙ ap (λ b. if b then 0 else slice_index at.refs i) (not_freed r layout site at.own.stage at.at.refs i clearing)

pub same_register : (r layout site q k at : ℕ) → Free r layout site ≡ Free q k at → r ≡ q
same_register r layout site q k at h = cc

is_given_last : (gs before : List GivenUp) (p : ℕ) → gs ≡ before ++ Emptied p ∷ [] → Contains gs (Emptied p)
is_given_last gs before p is = subst (λ gs. Contains gs (Emptied p)) (sym is) (Contains-append_right before (Emptied p ∷ []) (Emptied p) (0, omega arith, refl))

-- the program gives up the cells of that object
gives_up : (code : Code) (a : Asked) (at : Machine) → IsEmptying code a at → (r layout site p : ℕ) → instr_at code at.at.pc ≡ Free r layout site → ref at r ≡ p → Contains a.given_up (Emptied p)
gives_up code a at e r layout site p is object =
    let same : e.register ≡ r = same_register e.register e.layout e.site r layout site (sym e.next ∙ is) in
    let number : slice_index at.refs (at.at.refs + e.register) ≡ p = ap (λ r. ref at r) same ∙ object in
    is_given_last a.given_up e.before p (e.given_is ∙ ap (λ k. e.before ++ Emptied k ∷ []) number)

module _ (paths : PathsAreConsistent) (reports : CastReportsShow) (begins : RunsBegin) (logs : LogsSee) (arguments : ArgumentsSee) (cells : CellsSee) (taken : TakenAreBeingTaken)
    (m : Assignment) (flat : FlatCode) (flattens : Flattens m flat) (code : Code) (is_code : IsCodeOf flat code)
    (registers : RegistersAreSeen m code) (have_begun : ThreadsHaveBegun m code) (silent : SilentHaveNothing m code) (fly : HandsFly m code) (empty : FreesEmpty m code) (testers : TestersGive m code)
    (s : Shape) (ls : Labels) (wt : IsWellTyped (targets_of m) code ls) (fits : Fits code s) (small : IsSmall code s) (initial : BeginsWith m.typed code)
    (run : List Turn) (checked : CheckedRun code s run) (t site count : ℕ) where
  module _ (f : FindsOthers (targets_of m) code s ls run t site count) where
    abbrev g : Global Machine
    g = place_after code s f.earlier

    abbrev obj : ℕ → ObjectState
    obj = objects_after code s ls (first_place code s) (first_world (targets_of m)).obj f.earlier

    abbrev n : ℕ
    n = ref (g.threads t) f.register

    abbrev R : List SourceEvent
    R = history_of code s f.earlier

    was_checked : CheckedRun code s f.earlier
    was_checked = begins code s (f.test ∷ []) f.earlier (begins code s f.later (f.test ∷ f.earlier) (subst (CheckedRun code s) f.parts checked))

    consistent : (thread : ℕ) → IsConsistent code s (begun code s thread) (elements_before code s thread f.earlier) (founds_of (turns_of thread f.earlier))
    consistent = paths (targets_of m) code s ls wt fits small f.earlier was_checked

    have : HaveBegun m R
    have = have_begun (targets_of m) s ls wt fits small f.earlier was_checked

    quiet : AreQuiet code R g
    quiet = record {
      registers = λ thread i none. (silent s f.earlier was_checked consistent thread none).registers i;
      hands = λ thread none. (silent s f.earlier was_checked consistent thread none).hand;
    }

    no_null : n ≡ 0 → ⊥
    no_null z = let some = f.some in omega (arith, z, some)

    -- the thread that tests is at no Free
    tests_there : (u : ℕ) → u ≡ t → instr_at code (g.threads u).at.pc ≡ TestSole f.register site
    tests_there u same = subst (λ v. instr_at code (g.threads v).at.pc ≡ TestSole f.register site) (sym same) f.is_test

    not_at_free : (u r layout at : ℕ) → u ≡ t → instr_at code (g.threads u).at.pc ≡ Free r layout at → ⊥
    not_at_free u r layout at same is = no_free f.register site r layout at (sym (tests_there u same) ∙ is)

    module _ (rests : NothingIsInFlight m code s ls f.earlier t n) where
      -- nobody has it in hand: of other threads it would be in flight
      no_hand : (u : ℕ) → hand_refers g u ≡ n → ⊥
      no_hand u here = by (u == t) refl (have u)
        where
          own : u ≡ t → (b : Begun m R u) × MayStart m b.own.function → ⊥
          own same k = let e = (empty s f.earlier was_checked consistent u k.0 k.1 (hand_empties (g.threads u).own.stage n here no_null)).2 in not_at_free u e.register e.layout e.site same e.next

          by : (b : Bool) → (u == t) ≡ b → (events_of u R ≡ []) ⊎ ((b : Begun m R u) × MayStart m b.own.function) → ⊥
          by b e (inl none) = no_null (sym here ∙ quiet.hands u none)
          by true e (inr k) = own (eqb-true u t e) k
          by false e (inr k) = rests.given_up u (λ same. yes (sym (eq-eqb u t same) ∙ e)) k.0 (fly s f.earlier was_checked consistent u k.0 k.1 n here f.some)

      module _ (p i : ℕ) (here : cell_refers (targets_of m) s g obj p i ≡ n) where
        -- nor does another thread give up the cells of the object
        no_other : (u : ℕ) → (u == t) ≡ false → (b : Begun m R u) (fuel : ℕ) → IsPastEvents b fuel → Contains (asked_with b fuel).given_up (Emptied p) → ⊥
        no_other u e b fuel past given = rests.freed u (λ same. yes (sym (eq-eqb u t same) ∙ e)) b (record { fuel = fuel; past = past; object = p; cell = i; given = given; refers_there = here })

        -- so no `free` has taken it, or the thread that tests is about to free it
        by_taker : (k : IsBeingTaken m R p) → (b : Bool) → (k.thread == t) ≡ b → (events_of k.thread R ≡ []) ⊎ ((b : Begun m R k.thread) × MayStart m b.own.function) → p ≡ n
        by_taker k b e (inl none) = absurd (k.has_events none)
        by_taker k true e (inr b) =
            let same : k.thread ≡ t = eqb-true k.thread t e in
            let wants = k.empties b.0 in
            sym wants.number ∙ testers s f.earlier was_checked consistent k.thread b.0 b.1 f.register site (tests_there k.thread same) b.0.fuel wants.event wants.reference wants.wanted (subst (IsGivenAway wants.reference) (sym wants.act) refl)
            ∙ ap (λ v. ref (g.threads v) f.register) same
        by_taker k false e (inr b) = absurd (no_other k.thread e b.0 b.0.fuel b.0.own.asked (is_given_last (asked_with b.0 b.0.fuel).given_up (k.empties b.0).before p (k.empties b.0).given_is))

        not_taken : is_live R (Made p) ≡ true → (p ≡ n) ⊎ (is_taken_to_free R p ≡ false)
        not_taken live = by (is_taken_to_free R p) refl
          where
            by : (b : Bool) → is_taken_to_free R p ≡ b → (p ≡ n) ⊎ (is_taken_to_free R p ≡ false)
            by true e = let k = taken m R p live e in inl (by_taker k (k.thread == t) refl (have k.thread))
            by false e = inr e

        -- and no thread is in the middle of a Free of it
        not_freeing : IsBeingFreed code g p → ⊥
        not_freeing y = by (y.thread == t) refl (have y.thread)
          where
            by : (b : Bool) → (y.thread == t) ≡ b → (events_of y.thread R ≡ []) ⊎ ((b : Begun m R y.thread) × MayStart m b.own.function) → ⊥
            by b e (inl none) =
                let at = g.threads y.thread in
                y.some (sym y.object ∙ sym (register_there code at y.register y.layout y.site (at.at.refs + y.register) y.is_free y.clearing) ∙ quiet.registers y.thread (at.at.refs + y.register) none)
            by true e (inr b) = not_at_free y.thread y.register y.layout y.site (eqb-true y.thread t e) y.is_free
            by false e (inr b) =
                let at = g.threads y.thread in
                let k = empty s f.earlier was_checked consistent y.thread b.0 b.1 (clearing_empties at.own.stage y.clearing) in
                no_other y.thread e b.0 k.0 k.1 (gives_up code (asked_with b.0 k.0) at k.2 y.register y.layout y.site p y.is_free y.object)

        cell : IsSeenInCell m code g R p i n → IsSeen m R t n
        cell (in_global k c refers_there) = record { holder = in_cell (record { object = GlobalNumber k; cell = c }); other = no_cell (record { object = GlobalNumber k; cell = c }) t 0; refers_there = refers_there }
        cell (in_made k) = record { holder = in_cell (record { object = Made p; cell = i }); other = no_cell (record { object = Made p; cell = i }) t 0; refers_there = k.among (not_taken k.live) }
        cell (in_freed k) = absurd (not_freeing k)

      other : OtherReference (targets_of m) code s g obj t ((g.threads t).at.refs + f.register) n → IsSeen m R t n
      other (InRegister u i apart here) = registers s f.earlier was_checked consistent have quiet t f.register site f.is_test n refl f.some rests.given_up u i apart here
      other (InArgument u here) = record { holder = in_argument u; other = no_argument u t 0; refers_there = arguments m flat flattens code is_code (targets_of m) s ls wt fits small f.earlier was_checked u n no_null here }
      other (InLog u word here) =
          let k = logs m code (targets_of m) s ls wt fits small initial f.earlier was_checked u word n no_null here in
          record { holder = in_mutex k.0; other = no_thread k.0 t 0; refers_there = k.1 }
      other (InHand u here) = absurd (no_hand u here)
      other (InCell p i here) = cell p i here (cells m code s ls (has_tables m flat flattens code is_code) wt fits small initial f.earlier was_checked p i n no_null here)

  pub cause_shown : ((place_after code s run).threads t).own.stop ≡ Some (NotSole site count) → ShowsReference m code s ls run t site count
  cause_shown stop =
      let f = reports (targets_of m) code s ls wt fits small run checked t site count stop in
      record { finds = f; cause = λ rests. other f rests f.counts.other }
