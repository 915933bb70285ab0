-- A turn in the middle of an instruction that walks over an object: the world keeps its objects and mutexes.
use Rattle.sharc_invariant.proofs.{Imports.{◌≡◌, ℕ, ◌+◌, ◌<◌, ◌≤◌, Bool, true, false, cond, List, None, refl, sym, ap, ◌∙◌, arith, fun_ext, slice_index, ◌==◌, THREADS, Read, Write, Kind, note_of, epoch_of, Code, Shape, RunsOn, Tries, Stopped, Ended, Stage, Rests, Looks, Clears, Makes, Empties, Lowers, FreeLooks, FreeClears, Uncounts, Links, Names, Hands, Begins, Withdraws, WithdrawsFrom, Leaves, top_word, granules, first_cell, Machine, to, instr_at, may_go, Global, put, sum_to, Targets, Labels, IsWellTyped, ArgumentOf, In, World, WorldInvariant, Kept, note_number, making_of, conc_of, Shows, register_of, staged_of, noted_by, is_ended, has_withdrawn, lang_of, made_turn, KeepsOthers, State, Runs, SpawnsNow, size_of_run}, TurnAt.thread_at, Others.OnHold, Quiet.{heap_now, head_same, freed_held, put_self, sizes_kept}, Changes.{KeepsPart, KeepsLow, lower, conc_now, alike_state}}

-- the stages of an instruction that walks over an object, but for that in which the object is dead
abbrev pub IsWalk : Stage → Type 0
IsWalk Rests = Unit {0}
IsWalk (Looks done all) = Unit {0}
IsWalk (Clears done all seen) = Unit {0}
IsWalk (Empties i all) = Unit {0}
IsWalk (Lowers i all found) = Unit {0}
IsWalk (FreeLooks done all) = Unit {0}
IsWalk (FreeClears done all seen) = Unit {0}
IsWalk (Uncounts all) = Unit {0}
IsWalk _ = ⊥

pub walk_hold : (y : Stage) → IsWalk y → OnHold y
walk_hold (Links all) h = absurd h
walk_hold _ h = tt

pub walk_making : (y : Stage) → IsWalk y → making_of y ≡ None
walk_making (Makes v) h = absurd h
walk_making _ h = refl

walk_spawns : (y : Stage) → IsWalk y → (n : ℕ) → SpawnsNow y n → ⊥
walk_spawns (Names k) h n z = h
walk_spawns (Hands k) h n z = h
walk_spawns (Begins k) h n z = h
walk_spawns _ h n z = z

walk_withdrawn : (y : Stage) → IsWalk y → (order : List ℕ) (b : Bool) (p : ℕ) → has_withdrawn y order b p ≡ b
walk_withdrawn (Withdraws row) h order b p = absurd h
walk_withdrawn (WithdrawsFrom row seen) h order b p = absurd h
walk_withdrawn Leaves h order b p = absurd h
walk_withdrawn _ h order b p = refl

module _ (x : Targets) (code : Code) (s : Shape) (ls : Labels) (wt : IsWellTyped x code ls) (g : Global Machine) (world : World) (st : State x code s ls g world) (t : ℕ) (on : g.started t ≡ true) (go : may_go (g.threads t).at.state ≡ true)
    (begun : ((g.threads t).at.pc == 0) ≡ false) (walk : IsWalk (g.threads t).own.stage) where
  open thread_at st t use {m}

  -- the machine at this place and stage
  abbrev pub walked : ℕ → Stage → Machine
  walked pc y = record (g.threads t) { at = to (g.threads t).at pc; own = record (g.threads t).own { stage = y } }

  going : is_ended (g.threads t).at.state ≡ false
  going = elim (g.threads t).at.state as (λ y. may_go y ≡ true → is_ended y ≡ false) [ RunsOn ↦ λ e. refl | Tries ↦ λ e. refl | Stopped ↦ λ e. refl | Ended ↦ λ e. absurd (cc) ] go

  pub walk_register : (j : ℕ) → register_of code (g.threads t) j ≡ slice_index (g.threads t).refs j
  walk_register j = ap (λ b. cond b 0 (slice_index m.refs j)) (freed_held (instr_at code m.at.pc) m.own.stage m.at.refs j (walk_hold m.own.stage walk))

  module _ (pc : ℕ) (y : Stage) (walk' : IsWalk y) (begun' : (pc == 0) ≡ false) (words : List ℕ) (kw : KeepsLow g.words words) where
    abbrev m' : Machine
    m' = walked pc y

    own : KeepsPart (g.threads t) (walked pc y)
    own = record {
      sizes = sizes_kept (g.threads t) (walked pc y) (st.threads t).has.table refl refl refl refl;
      held = refl;
      heads = refl;
      spawns = λ n h. absurd (walk_spawns y walk' n h);
      begun_before = begun;
      begun = begun';
    }

    noted : (kind : Kind) (p : ℕ) → noted_by (walked pc y) kind p ≡ noted_by m kind p
    noted kind p =
        let f : Bool → ℕ = λ b. cond b 0 (note_number (note_of m.own.table p kind)) in
        ap f (walk_withdrawn y walk' m.own.table.order false p ∙ sym going ∙ sym (walk_withdrawn m.own.stage walk m.own.table.order (is_ended m.at.state) p))

    -- the reference that a Free has found and not lowered is that of the stage
    pub conc_held : conc_of code (made_turn g t words (walked pc y)) ≡ record (conc_of code g) { words = λ j. slice_index words j; staged = put (λ u. staged_of (g.threads u).own.stage) t (staged_of y) }
    conc_held =
        let rs = fun_ext (put_self (λ u. register_of code (g.threads u)) t (register_of code m')
        (fun_ext (λ j. ap (λ b. cond b 0 (slice_index m.refs j)) (freed_held (instr_at code pc) y m.at.refs j (walk_hold y walk')) ∙ sym (walk_register j)))) in
        let n : (kind : Kind) → put (λ u. noted_by (g.threads u) kind) t (noted_by m' kind) ≡ (λ u. noted_by (g.threads u) kind) = λ kind. fun_ext (put_self (λ u. noted_by (g.threads u) kind) t (noted_by m' kind) (fun_ext (noted kind))) in
        let a = n Read in
        let b = n Write in
        conc_now x code s ls wt g world st t on words m' own (lower kw)
        ∙ (λ i. record (conc_of code g) { words = λ j. slice_index words j; regs = rs i; staged = put (λ u. staged_of (g.threads u).own.stage) t (staged_of y); read_notes = a i; write_notes = b i })

    pub conc_walked : staged_of y ≡ staged_of (g.threads t).own.stage → conc_of code (made_turn g t words (walked pc y)) ≡ record (conc_of code g) { words = λ j. slice_index words j }
    conc_walked e =
        let sg = fun_ext (put_self (λ u. staged_of (g.threads u).own.stage) t (staged_of y) e) in
        conc_held ∙ (λ i. record (conc_of code g) { words = λ j. slice_index words j; staged = sg i })

    pub walk_state : (w' : World) → Kept (record { first = 1 + s.globals; words = first_cell s }) (record st.heap { words = λ i. slice_index words i }) → w'.obj ≡ world.obj → w'.mutex ≡ world.mutex
        → KeepsOthers s world w' st.heap (heap_now st.heap words) g.words words t → ((u : ℕ) → w'.slots (In (ArgumentOf u)) ≡ world.slots (In (ArgumentOf u)))
        → WorldInvariant (size_of_run code s) (lang_of x) w' → Shows x s st.cells st.elements (conc_of code (made_turn g t words (walked pc y))) w'
        → ((i : ℕ) → i < granules s → epoch_of (slice_index words (97 + i)) ≤ sum_to THREADS (put g.made t (g.made t + 1)))
        → Runs x code s ls st.elements w' (heap_now st.heap words) (made_turn g t words (walked pc y)) t (walked pc y) → g.made t + 1 ≤ 100000000
        → State x code s ls (made_turn g t words (walked pc y)) w'
    walk_state w' kept eo em others args inv sim epochs runs few =
        alike_state x code s ls wt g world st t on words m' own (lower kw) w' eo em kept (kw.low top_word (omega arith) (λ e. absurd (omega arith)))
        (λ b. head_same m m' b (walk_making y walk' ∙ sym (walk_making m.own.stage walk)) refl) others args inv sim epochs (λ _. runs) (λ q. absurd (cc)) few
