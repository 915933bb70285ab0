-- Whoever waits by the events stands where it waits, and the words of conditions have the bits of those who wait.
use Rattle.sharc_history_laws.proofs.{Imports.{◌≡◌, ℕ, pos, zero, suc, ◌+◌, ◌^◌, ◌<◌, ◌≢◌, ◌⊎◌, inl, inr, Bool, true, false, not, ◌||◌, ◌&&◌, cond, List, ◌∷◌, Option, Some, None, if◌then◌else◌, refl, sym, ap, ◌∙◌, subst, ⊎_elim, arith, eqb-true, cases_eq, not_true, get_or-set_other, slice_index, ◌==◌, THREADS, WordOp, word_after, Act, CellAt, Object, SourceEvent, WaitersLaws, waits_in, lowest_of, without_lowest, Code, Cell, Instr, Shape, Stage, Links, Wakes, word_of, RunLaws, Fits, Machine, instr_at, int, ref, word, act, signal, is_of_null, step_of, goes, fails, turn, after, asked_by, Turn, Global, MayTurn, after_turn, put, state_now, words_now, said, cell_at, nobody, in_signal, event_at, one_thread, bounds, place_after, is_cell, same_cell, takes_away, Targets, Field, Content, Waiters, field_in, Gate, Closed, Labels, IsWellTyped, Accesses, HasCell, IsNotSole, In, RegisterOf, World, IsSmall, StageStands, EntryStands, OnHold, object_of_cell, number_in, view_of, refs_at, types_at, Keeps, CellsAreThere, PointersAreThere, AccessesAreAllowed, StateStands, WaitsFollow, same_is, ne_of as other_is, yes, is_condition, is_enter, put_same, put_other, single}, TurnAt.{turn_at, told_at, turn_stands}, Acts.thread_said, Born.born, Consists.{Consists, consists_then, after_set, found_is, headed, live_not_built}, Contents.{IsCellOf, content_of, word_of_cell, one_cell}, Emptying.{IsFreeing, IsEmptied, begins_freeing}, Holding.cell_eq, Lists.Newest, Locking.cell_refl, ModesKept.word_spared, OneMode.{place_of, numbers_now}, Queued.{waits_by, waits_behind, waiter_behind, other_event, no_condition, condition_elsewhere, no_enter, woken_leaves, enterless}, Outcomes.wakes_nobody, Rules.{pushed, about_now, decide}, Shared.number_of, Single.rests_hold, Sparing.{holds_waiters, spares_cell}, Touches.{is_mutex, waited_cell, written_cell}, Stands.{register_is, live_slot, some_base, there, top, reads_ref}, Tables.header_of, Unemptied.not_emptied, Valued.{cell_named, header_some, emptied_still}, Values.{Kept, kept}, Logged.above as positive}
use Rattle.sharc_meaning.specs.Store.{entered}
use Rattle.sharc_history_laws.proofs.Placed as Placed

-- ---- who waits by the events
-- where a thread waits at a cell, or unlocks its mutex before that
pub data IsAtWait (code : Code) (pc : ℕ) (k : Cell) : Type 0 where
  Waits : (site : ℕ) → instr_at code pc ≡ Instr.CondWait k site → IsAtWait code pc k
  Unlocks : (q : ℕ) (mutex : Cell) (unlock_site site : ℕ) → instr_at code pc ≡ Instr.Unlock q mutex unlock_site → instr_at code (pc + 1) ≡ Instr.CondWait k site → IsAtWait code pc k

pub record StandsWaiting (code : Code) (m : Machine) (c : CellAt) : Type 0 where
  pub cell : Cell
  pub is : cell_at code m cell ≡ c
  pub based : is_of_null m cell ≡ false
  pub hold : OnHold m.own.stage
  pub at : IsAtWait code m.at.pc cell

abbrev pub WaitersStand : Code → Newest → Global Machine → Type 0
WaitersStand code L g = (c : CellAt) (u : ℕ) → waits_by L c u ≡ true → StandsWaiting code (g.threads u) c

-- the bits of the word of a condition, but where a Free empties its object
abbrev pub WordsTell : Targets → Code → Shape → Newest → Global Machine → World → (ℕ → ℕ) → Type 0
WordsTell x code s L g w cells = (c : CellAt) → IsCellOf code w cells c → holds_waiters (content_of x code w c) ≡ true
    → ((u : ℕ) → waits_by L c u ≡ waits_in (slice_index g.words (word_of_cell code s c)) u) ⊎ IsEmptied code g (number_of c.object)

-- ---- bits
module _ (bits : WaitersLaws) where
  enter_bits : (w t u : ℕ) → t < THREADS → (was : Bool) → was ≡ waits_in w u → cond ((t == u) || false) (t == u) was ≡ waits_in (word_after (WordOp.Or (2 ^ t)) w) u
  enter_bits w t u lt was e = ⊎_elim
      (λ (same : t ≡ u). ap (λ b. cond (b || false) b was) (ap (λ n. t == n) (sym same) ∙ same_is t) ∙ sym (bits.waits w t lt) ∙ ap (waits_in (word_after (WordOp.Or (2 ^ t)) w)) same)
      (λ (ne : t ≡ u → ⊥). ap (λ b. cond (b || false) b was) (other_is t u ne) ∙ e ∙ sym (bits.others w t u lt (λ z. ne (sym z))))
      (cases_eq t u)

  wake_bits : (w u : ℕ) → 0 < w → w < 2 ^ 64 → (was : Bool) → was ≡ waits_in w u → cond ((u + 1 == lowest_of w + 1) || false) false was ≡ waits_in (without_lowest w) u
  wake_bits w u some small was e =
      let k = bits.lowest w some small in
      let l = lowest_of w in
      ⊎_elim
      (λ (same : u ≡ l). ap (λ b. cond (b || false) false was) (ap (λ n. n + 1 == l + 1) same ∙ same_is (l + 1))
      ∙ sym (k.left u ∙ ap (λ b. waits_in w u && not b) (ap (λ n. n == l) same ∙ same_is l) ∙ and_false (waits_in w u)))
      (λ (ne : u ≡ l → ⊥). ap (λ b. cond (b || false) false was) (other_is (u + 1) (l + 1) (λ z. ne (omega arith))) ∙ e
      ∙ sym (k.left u ∙ ap (λ b. waits_in w u && not b) (other_is u l ne) ∙ and_true (waits_in w u)))
      (cases_eq u l)
    where
      and_false : (b : Bool) → (b && false) ≡ false
      and_false true = refl
      and_false false = refl

      and_true : (b : Bool) → (b && true) ≡ b
      and_true true = refl
      and_true false = refl

-- an event of another thread makes nobody a waiter
of_other : (ev : Option SourceEvent) (c : CellAt) (u t : ℕ) (was : Bool) → thread_said t ev ≡ t → (u ≡ t → ⊥) → waits_behind ev c u was ≡ true → was ≡ true
of_other None c u t was thread ne h = h
of_other (Some e) c u t was thread ne h = by (is_cell c (entered e.act)) (takes_away c u e) (sym (ap (λ b. cond ((is_cell c (entered e.act) && b) || takes_away c u e) (is_cell c (entered e.act) && b) was) (other_is e.thread u (λ z. ne (sym z ∙ thread)))) ∙ h)
  where
    by : (a b : Bool) → cond ((a && false) || b) (a && false) was ≡ true → was ≡ true
    by true true h = absurd (yes (sym h))
    by true false h = h
    by false true h = absurd (yes (sym h))
    by false false h = h

abbrev pub is_waiting : Instr → Bool
is_waiting (Instr.CondWait k site) = true
is_waiting (Instr.Unlock q k site) = true
is_waiting _ = false

-- a waiter stands at one of these
pub at_waiting : (code : Code) (pc : ℕ) (k : Cell) → IsAtWait code pc k → is_waiting (instr_at code pc) ≡ true
at_waiting code pc k (Waits site w) = ap is_waiting w
at_waiting code pc k (Unlocks q mutex a b w v) = ap is_waiting w

-- ---- one turn
module _ (bits : WaitersLaws) (cell_laws : CellsAreThere) (pointers : PointersAreThere) (rights : AccessesAreAllowed) (laws : RunLaws) (keeps : Keeps) (x : Targets) (code : Code) (s : Shape) (ls : Labels) (wt : IsWellTyped x code ls) (fits : Fits code s) (few : IsSmall code s)
    (one : Turn) (earlier : List Turn) (h : Consists x code s ls earlier) (may : MayTurn bounds (one_thread code s) (place_after code s earlier) one) where
  open turn_at code s (place_after code s earlier) one use {g, t, m, i, found, g'}
  open told_at code s earlier one use {elements, event}

  abbrev words : List ℕ
  words = words_now (place_after code s earlier).words one.event

  abbrev then_ : Consists x code s ls (one ∷ earlier)
  then_ = consists_then laws keeps cell_laws pointers x code s ls wt fits few one earlier h may

  open turn_stands wt h.state one may use {on, number, fine, stage_here}

  few_threads : one.thread < THREADS
  few_threads = h.state.begins.few t on.0

  held_by : (j : Instr) → i ≡ j → single j ≡ true → OnHold ((place_after code s earlier).threads one.thread).own.stage
  held_by j is one = rests_hold code s h.state.elements h.world h.state.heap g.words t m j m.own.stage one (stage_here j is)

  -- the cell of a condition that the turn is at
  pub record Here (k : Cell) : Type 0 where
    pub field : Field
    pub has : HasCell x code (ls.at ((place_after code s earlier).threads one.thread).at.pc) k field
    pub holds : field.holds ≡ Waiters
    pub hold : OnHold ((place_after code s earlier).threads one.thread).own.stage
    pub apart : IsNotSole (ls.at ((place_after code s earlier).threads one.thread).at.pc).gate

  closed : (b : Gate) → b ≡ Closed → IsNotSole b
  closed b e = subst IsNotSole (sym e) tt

  pub here_at_wait : (k : Cell) (site : ℕ) → i ≡ Instr.CondWait k site → Here k
  here_at_wait k site is = let f = fine (Instr.CondWait k site) is in record { field = f.1.0; has = f.1.1; holds = f.1.2; hold = held_by (Instr.CondWait k site) is refl; apart = closed _ f.0 }

  pub here : (k : Cell) → waited_cell i ≡ Some k → Here k
  here k w = by i refl w
    where
      open_gate : (b : Gate) → (b ≡ Closed) ⊎ ((mutex : Cell) × (b ≡ Gate.Holds mutex)) → IsNotSole b
      open_gate b (inl e) = closed b e
      open_gate b (inr e) = subst IsNotSole (sym e.1) tt

      signal_hold : (d : Cell) (site : ℕ) (stage : Stage) → StageStands code s h.state.elements h.world h.state.heap (place_after code s earlier).words one.thread ((place_after code s earlier).threads one.thread) (Instr.CondSignal d site) stage → OnHold stage
      signal_hold d site (Links all) h = absurd h
      signal_hold d site _ h = tt

      by : (j : Instr) → i ≡ j → waited_cell j ≡ Some k → Here k
      by (Instr.CondEnter d site) is w = subst Here (let e : d ≡ k = cc in e) (let f = fine (Instr.CondEnter d site) is in record { field = f.1.0; has = f.1.1; holds = f.1.2; hold = held_by (Instr.CondEnter d site) is refl; apart = open_gate _ f.0 })
      by (Instr.CondSignal d site) is w = subst Here (let e : d ≡ k = cc in e) (let f = fine (Instr.CondSignal d site) is in record { field = f.1.0; has = f.1.1; holds = f.1.2; hold = signal_hold d site m.own.stage (stage_here (Instr.CondSignal d site) is); apart = closed _ f.0 })
      by (Instr.CondBroadcast d site) is w = subst Here (let e : d ≡ k = cc in e) (let f = fine (Instr.CondBroadcast d site) is in record { field = f.1.0; has = f.1.1; holds = f.1.2; hold = held_by (Instr.CondBroadcast d site) is refl; apart = closed _ f.0 })
      by _ is w = absurd (cc)

  module _ (k : Cell) (at : Here k) where
    numbers : (number_of (cell_at code ((place_after code s earlier).threads one.thread) k).object ≡ object_of_cell ((place_after code s earlier).threads one.thread) k)
        × (place_of code (cell_at code ((place_after code s earlier).threads one.thread) k).object (cell_at code ((place_after code s earlier).threads one.thread) k).cell ≡ number_in ((place_after code s earlier).threads one.thread) k)
    numbers = Placed.numbers cell_laws x code s ls wt fits g h.world h.state t on at.hold k at.field at.has

    pub content_here : content_of x code h.world (cell_at code ((place_after code s earlier).threads one.thread) k) ≡ Waiters
    content_here = Placed.content cell_laws x code s ls wt fits g h.world h.state t on at.hold k at.field at.has ∙ at.holds

    pub cell_here : IsCellOf code h.world h.state.cells (cell_at code ((place_after code s earlier).threads one.thread) k)
    cell_here = Placed.cell cell_laws x code s ls wt fits g h.world h.state t on at.hold k at.field at.has

    pub word_here : word_of_cell code s (cell_at code ((place_after code s earlier).threads one.thread) k) ≡ word s ((place_after code s earlier).threads one.thread) k
    word_here = Placed.word_is cell_laws x code s ls wt fits g h.world h.state t on at.hold k at.field at.has

  -- what it finds is the word of the condition
  found_at : (k : Cell) (op : WordOp) → asked_by (turn code s ((place_after code s earlier).threads one.thread)) ≡ Some (step_of (word s ((place_after code s earlier).threads one.thread) k) op)
      → found ≡ slice_index (place_after code s earlier).words (word s ((place_after code s earlier).threads one.thread) k)
  found_at k op asked = found_is g.words one.event (step_of (word s m k) op) (may.next.asks ∙ asked) may.answered

  -- and leaves this
  left_at : (k : Cell) (op : WordOp) → asked_by (turn code s ((place_after code s earlier).threads one.thread)) ≡ Some (step_of (word s ((place_after code s earlier).threads one.thread) k) op)
      → slice_index words (word s ((place_after code s earlier).threads one.thread) k) ≡ word_after op (slice_index (place_after code s earlier).words (word s ((place_after code s earlier).threads one.thread) k))
  left_at k op asked = after_set g.words one.event (step_of (word s m k) op) (may.next.asks ∙ asked) may.answered

  -- ---- with what is known of the events before it
  module _ (L : Newest) (stand : WaitersStand code L (place_after code s earlier)) (old : WordsTell x code s L (place_after code s earlier) h.world h.state.cells) (wake : (u : ℕ) → wakes_nobody ((place_after code s earlier).threads u).own.stage ≡ false) where
    -- the object of a cell at which somebody waits is live
    waited_live : (c : CellAt) (u : ℕ) → number_of c.object ≢ 0 → StandsWaiting code ((place_after code s earlier).threads u) c → (h.world.obj (number_of c.object)).live ≡ true
    waited_live c u nz w = by w.cell w.is w.based
      where
        of_register : (r cell : ℕ) → (made : CellAt) → number_of made.object ≡ ref ((place_after code s earlier).threads u) r → made ≡ c → (h.world.obj (number_of c.object)).live ≡ true
        of_register r cell made o is =
            let mu = g.threads u in
            let e = register_is x code s ls wt fits g h.world h.state u (mu.at.refs + r) w.hold in
            let same : ref mu r ≡ number_of c.object = sym o ∙ ap (λ (c : CellAt). number_of c.object) is in
            subst (λ n. (h.world.obj n).live ≡ true) (e ∙ same) (live_slot x code s ls wt fits g h.world h.state (In (RegisterOf u (mu.at.refs + r))) (λ z. nz (sym same ∙ sym e ∙ z)))

        by : (k : Cell) → cell_at code ((place_after code s earlier).threads u) k ≡ c → is_of_null ((place_after code s earlier).threads u) k ≡ false → (h.world.obj (number_of c.object)).live ≡ true
        by (Cell.Global q p) is b = absurd (nz (sym (ap (λ (c : CellAt). number_of c.object) is)))
        by (Cell.GlobalAt q p) is b = absurd (nz (sym (ap (λ (c : CellAt). number_of c.object) is)))
        by (Cell.Object r p) is b = of_register r p (cell_at code (g.threads u) (Cell.Object r p)) refl is
        by (Cell.ObjectAt r p) is b = of_register r p (cell_at code (g.threads u) (Cell.ObjectAt r p)) refl is

    module _ (c : CellAt) (cell : IsCellOf code then_.world then_.state.cells c) (holds : holds_waiters (content_of x code then_.world c) ≡ true) where
      abbrev o : ℕ
      o = number_of c.object

      abbrev j : ℕ
      j = place_of code c.object c.cell

      -- what is to be shown
      abbrev Tells : Newest → Type 0
      Tells L' = ((u : ℕ) → waits_by L' c u ≡ waits_in (slice_index words (word_of_cell code s c)) u) ⊎ IsEmptied code g' o

      -- ---- an object that the turn makes
      made_plain : (n : ℕ) → header_of i ((place_after code s earlier).threads one.thread).own.stage ≡ Some n → is_condition i ≡ false
      made_plain n = by i
        where
          by : (j : Instr) → header_of j ((place_after code s earlier).threads one.thread).own.stage ≡ Some n → is_condition j ≡ false
          by (Instr.CondWait k site) e = cc
          by _ e = cc

      made_cell : (n : ℕ) → c.object ≡ Object.Made n → header_of i ((place_after code s earlier).threads one.thread).own.stage ≡ Some n → Tells (pushed event L)
      made_cell n is made =
          let same : o ≡ n = ap number_of is in
          let nz = header_some cell_laws pointers rights laws keeps x code s ls wt fits few one earlier h may n made in
          let made_o : header_of i m.own.stage ≡ Some o = made ∙ ap (λ k. Some k) (sym same) in
          let word_zero : slice_index words (word_of_cell code s c) ≡ 0 = born laws keeps cell_laws pointers x code s ls wt fits few one earlier h may o (λ z. nz (sym same ∙ z)) made_o j cell.inside in
          let nobody : (u : ℕ) → waits_by L c u ≡ false = λ u. not_true (waits_by L c u) (λ w.
          let live = waited_live c u (λ z. nz (sym same ∙ z)) (stand c u w) in
          live_not_built x code s ls wt fits g h.world h.state n t nz (subst (λ n. (h.world.obj n).live ≡ true) same live) (headed laws keeps cell_laws pointers x code s ls wt fits few one earlier h may n nz made)) in
          inl (λ u. waiter_behind event L c u ∙ other_event event c u (waits_by L c u) (ap (is_cell c) (no_condition code m laws.turns.tells i found elements (made_plain n made))) ∙ nobody u
          ∙ sym (ap (λ v. waits_in v u) word_zero ∙ bits.empty u))

      -- ---- one that was there
      module _ (was : Kept laws keeps cell_laws pointers x code s ls wt fits few one earlier h may o j) where
        old_holds : holds_waiters (content_of x code h.world c) ≡ true
        old_holds = was.content.waiters ∙ holds

        old_cell : IsCellOf code h.world h.state.cells c
        old_cell = record { live = was.live; inside = was.inside; named = cell.named }

        no_mutex : (k : Content) → holds_waiters k ≡ true → is_mutex k ≡ false
        no_mutex Waiters e = refl
        no_mutex _ e = absurd (yes (sym e))

        -- the turn changes its waiters, or empties its object
        abbrev Own : Type 0
        Own = (k : Cell) × (waited_cell i ≡ Some k) × (c ≡ cell_at code ((place_after code s earlier).threads one.thread) k)

        is_own : (k : Cell) → waited_cell i ≡ Some k → OnHold ((place_after code s earlier).threads one.thread).own.stage → (f : Field) → HasCell x code (ls.at ((place_after code s earlier).threads one.thread).at.pc) k f → f.holds ≡ Waiters
            → object_of_cell ((place_after code s earlier).threads one.thread) k ≡ o → number_in ((place_after code s earlier).threads one.thread) k ≡ j → Own ⊎ IsFreeing code ((place_after code s earlier).threads one.thread) o
        is_own k w hold f has waiters eo ej =
            let n = numbers_now cell_laws x code s ls wt fits g h.world h.state t on hold k f has in
            inl (k, w, one_cell x code ls wt c (cell_at code m k) cell.named (cell_named cell_laws pointers rights laws keeps x code s ls wt fits few one earlier h may k f hold has) (sym (n.0 ∙ eo)) (sym (n.1 ∙ ej)))

        -- what is written is a value
        not_written : (k : Cell) → written_cell i ≡ Some k → (site : ℕ) (f : Field) → Accesses x code ls (ls.at ((place_after code s earlier).threads one.thread).at.pc) true k site f
            → object_of_cell ((place_after code s earlier).threads one.thread) k ≡ o → number_in ((place_after code s earlier).threads one.thread) k ≡ j → Own ⊎ IsFreeing code ((place_after code s earlier).threads one.thread) o
        not_written k w site f acc eo ej = absurd (by i refl w)
          where
            of_field : (d : Cell) (e : Field) → OnHold ((place_after code s earlier).threads one.thread).own.stage → HasCell x code (ls.at ((place_after code s earlier).threads one.thread).at.pc) d e → d ≡ k → holds_waiters e.holds ≡ false → ⊥
            of_field d e hold has same plain =
                let n = there x code s ls wt fits g h.world h.state t on hold cell_laws d e has in
                let q : holds_waiters e.holds ≡ true = ap (λ (f : Field). holds_waiters f.holds) (sym n.field)
                ∙ ap (λ k. holds_waiters (field_in x (h.world.obj (object_of_cell m k)).ty (number_in m k)).holds) same
                ∙ ap (λ p. holds_waiters (field_in x (h.world.obj p).ty (number_in m k)).holds) eo
                ∙ ap (λ p. holds_waiters (field_in x (h.world.obj o).ty p).holds) ej ∙ old_holds in
                yes (sym q ∙ plain)

            by : (n : Instr) → i ≡ n → written_cell n ≡ Some k → ⊥
            by (Instr.Store q d site) is e = let f = fine (Instr.Store q d site) is in of_field d f.0 (held_by (Instr.Store q d site) is refl) f.2.cell (let q : d ≡ k = cc in q) (ap holds_waiters f.3)
            by (Instr.Exchange q d site) is e = let f = fine (Instr.Exchange q d site) is in of_field d f.1.0 (held_by (Instr.Exchange q d site) is refl) f.1.2.cell (let q : d ≡ k = cc in q) (ap holds_waiters f.1.3.holds)
            by (Instr.TakeCell q d site) is e = let f = fine (Instr.TakeCell q d site) is in of_field d f.1.0 (held_by (Instr.TakeCell q d site) is refl) f.1.2.cell (let q : d ≡ k = cc in q) (ap holds_waiters f.1.3.holds)
            by _ is e = cc

        spared : (slice_index words (word_of_cell code s c) ≡ slice_index (place_after code s earlier).words (word_of_cell code s c)) ⊎ (Own ⊎ IsFreeing code ((place_after code s earlier).threads one.thread) o)
        spared = word_spared (word_of_cell code s c) (Own ⊎ IsFreeing code m o) g.words one.event (turn code s m) may.next.asks
            (spares_cell cell_laws pointers x code s ls wt fits g h.world h.state t on o j was.live was.inside (no_mutex (content_of x code h.world c) old_holds) (Own ⊎ IsFreeing code m o) not_written is_own (λ q layout site n all is at e. inr (begins_freeing code m o may.next.runs q layout site n all is at e)))

        -- ---- the turn changes the waiters of another cell, or of none
        module _ (other : (u : ℕ) (was : Bool) → waits_behind event c u was ≡ was) (never : Own → ⊥) where
          told_kept : Tells (pushed event L)
          told_kept = ⊎_elim
              (λ (same : slice_index words (word_of_cell code s c) ≡ slice_index g.words (word_of_cell code s c)). ⊎_elim
              (λ (v : (u : ℕ) → waits_by L c u ≡ waits_in (slice_index g.words (word_of_cell code s c)) u).
              inl (λ u. waiter_behind event L c u ∙ other u (waits_by L c u) ∙ v u ∙ ap (λ w. waits_in w u) (sym same)))
              (λ (k : IsEmptied code g o). inr (emptied_still cell_laws pointers rights laws keeps x code s ls wt fits few one earlier h may o cell.live k))
              (old c old_cell old_holds))
              (λ (k : Own ⊎ IsFreeing code m o). ⊎_elim (λ (q : Own). absurd (never q)) (λ (q : IsFreeing code m o). inr (emptied_still cell_laws pointers rights laws keeps x code s ls wt fits few one earlier h may o cell.live (t, (may.started, q)))) k)
              spared

        -- ---- the turn changes its waiters
        module _ (k : Cell) (w : waited_cell i ≡ Some k) (same : c ≡ cell_at code ((place_after code s earlier).threads one.thread) k) where
          abbrev seen : ℕ
          seen = slice_index (place_after code s earlier).words (word s ((place_after code s earlier).threads one.thread) k)

          at_word : word_of_cell code s c ≡ word s ((place_after code s earlier).threads one.thread) k
          at_word = ap (word_of_cell code s) same ∙ word_here k (here k w)

          hit : is_cell c (Some (cell_at code ((place_after code s earlier).threads one.thread) k)) ≡ true
          hit = ap (λ d. same_cell d (cell_at code m k)) same ∙ cell_refl (cell_at code m k)

          -- from the bits before it
          told_from : ((u : ℕ) → (was : Bool) → was ≡ waits_in seen u → waits_behind event c u was ≡ waits_in (slice_index words (word s ((place_after code s earlier).threads one.thread) k)) u) → Tells (pushed event L)
          told_from step = ⊎_elim
              (λ (v : (u : ℕ) → waits_by L c u ≡ waits_in (slice_index g.words (word_of_cell code s c)) u).
              inl (λ u. waiter_behind event L c u ∙ step u (waits_by L c u) (v u ∙ ap (λ n. waits_in (slice_index g.words n) u) at_word) ∙ ap (λ n. waits_in (slice_index words n) u) (sym at_word)))
              (λ (q : IsEmptied code g o). inr (emptied_still cell_laws pointers rights laws keeps x code s ls wt fits few one earlier h may o cell.live q))
              (old c old_cell old_holds)

          at_enter : (site : ℕ) → i ≡ Instr.CondEnter k site → Tells (pushed event L)
          at_enter site is = told_from (λ u was e.
              let asked = ap (λ j. asked_by (act code s j m)) is in
              let left = left_at k (WordOp.Or (2 ^ m.own.number)) asked in
              let now = ap (λ j. said code j m found elements) is in
              let word_is : word_after (WordOp.Or (2 ^ m.own.number)) seen ≡ word_after (WordOp.Or (2 ^ t)) seen = ap (λ n. word_after (WordOp.Or (2 ^ n)) seen) number in
              ap (λ ev. waits_behind ev c u was) now
              ∙ ap (λ b. cond ((b && (m.own.number == u)) || false) (b && (m.own.number == u)) was) hit
              ∙ ap (λ n. cond ((n == u) || false) (n == u) was) number
              ∙ enter_bits bits seen t u few_threads was e
              ∙ ap (λ n. waits_in n u) (sym (left ∙ word_is)))

          at_broadcast : (site : ℕ) → i ≡ Instr.CondBroadcast k site → Tells (pushed event L)
          at_broadcast site is = told_from (λ u was e.
              let asked = ap (λ j. asked_by (act code s j m)) is in
              let left = left_at k (WordOp.Swap 0) asked in
              let now = ap (λ j. said code j m found elements) is in
              ap (λ ev. waits_behind ev c u was) now
              ∙ ap (λ b. cond b false was) hit
              ∙ sym (ap (λ n. waits_in n u) left ∙ bits.empty u))

          -- a turn that finds nobody, or something that has changed
          nobody_behind : (site n u : ℕ) (was : Bool) → waits_behind (nobody code ((place_after code s earlier).threads one.thread) k site n) c u was ≡ was
          nobody_behind site zero u was =
              ap (λ b. cond (false || ((b && (u + 1 == 0)) || false)) false was) hit ∙ ap (λ b. cond (b || false) false was) (other_is (u + 1) 0 (λ z. omega arith))
          nobody_behind site (suc n) u was = refl

          -- it makes no change
          module _ (site : ℕ) (is : i ≡ Instr.CondSignal k site) where
            at_look : (stage : Stage) → ((place_after code s earlier).threads one.thread).own.stage ≡ stage → in_signal code ((place_after code s earlier).threads one.thread) k site found stage ≡ nobody code ((place_after code s earlier).threads one.thread) k site found
                → asked_by (signal ((place_after code s earlier).threads one.thread) (word s ((place_after code s earlier).threads one.thread) k) stage) ≡ Some (step_of (word s ((place_after code s earlier).threads one.thread) k) WordOp.Load)
                → Tells (pushed event L)
            at_look stage at said_is asks = told_from (λ u was e.
                let asked = ap (λ j. asked_by (act code s j m)) is ∙ ap (λ y. asked_by (signal m (word s m k) y)) at ∙ asks in
                let left = left_at k WordOp.Load asked in
                let now = ap (λ j. said code j m found elements) is ∙ ap (in_signal code m k site found) at ∙ said_is in
                ap (λ ev. waits_behind ev c u was) now ∙ nobody_behind site found u was ∙ e ∙ ap (λ n. waits_in n u) (sym left))

            at_wakes : (was_seen : ℕ) → ((place_after code s earlier).threads one.thread).own.stage ≡ Wakes was_seen → (b : Bool) → (found == was_seen) ≡ b → Tells (pushed event L)
            at_wakes was_seen at b eq = told_from (λ u was e. by b eq u was e)
              where
                asked : asked_by (turn code s ((place_after code s earlier).threads one.thread)) ≡ Some (step_of (word s ((place_after code s earlier).threads one.thread) k) (WordOp.Cas was_seen (without_lowest was_seen)))
                asked = ap (λ j. asked_by (act code s j m)) is ∙ ap (λ y. asked_by (signal m (word s m k) y)) at

                now : event ≡ in_signal code ((place_after code s earlier).threads one.thread) k site found (Wakes was_seen)
                now = ap (λ j. said code j m found elements) is ∙ ap (in_signal code m k site found) at

                found_is_seen : found ≡ seen
                found_is_seen = found_at k (WordOp.Cas was_seen (without_lowest was_seen)) asked

                some : 0 < was_seen
                some = positive was_seen (sym (ap wakes_nobody at) ∙ wake t)

                left : slice_index words (word s ((place_after code s earlier).threads one.thread) k) ≡ (if seen == was_seen then without_lowest was_seen else seen)
                left = left_at k (WordOp.Cas was_seen (without_lowest was_seen)) asked

                by : (b : Bool) → (found == was_seen) ≡ b → (u : ℕ) (was : Bool) → was ≡ waits_in seen u → waits_behind event c u was ≡ waits_in (slice_index words (word s ((place_after code s earlier).threads one.thread) k)) u
                by true eq u was e =
                    let same_word : seen ≡ was_seen = sym found_is_seen ∙ eqb-true found was_seen eq in
                    let small : was_seen < 2 ^ 64 = subst (λ n. n < 2 ^ 64) same_word (h.state.are_words (word s m k)) in
                    let left' : slice_index words (word s m k) ≡ without_lowest was_seen = left ∙ ap (λ b. if b then without_lowest was_seen else seen) (ap (λ n. n == was_seen) (sym found_is_seen) ∙ eq) in
                    ap (λ ev. waits_behind ev c u was) (now ∙ ap (λ b. if b then event_at code m site (pos (lowest_of was_seen + 1)) (Act.Signal (cell_at code m k)) else nobody code m k site found) eq)
                    ∙ ap (λ b. cond (false || ((b && (u + 1 == lowest_of was_seen + 1)) || false)) false was) hit
                    ∙ wake_bits bits was_seen u some small was (e ∙ ap (λ n. waits_in n u) same_word)
                    ∙ ap (λ n. waits_in n u) (sym left')
                by false eq u was e =
                    let left' : slice_index words (word s m k) ≡ seen = left ∙ ap (λ b. if b then without_lowest was_seen else seen) (ap (λ n. n == was_seen) (sym found_is_seen) ∙ eq) in
                    ap (λ ev. waits_behind ev c u was) (now ∙ ap (λ b. if b then event_at code m site (pos (lowest_of was_seen + 1)) (Act.Signal (cell_at code m k)) else nobody code m k site found) eq)
                    ∙ nobody_behind site found u was ∙ e ∙ ap (λ n. waits_in n u) (sym left')

            at_signal : (stage : Stage) → ((place_after code s earlier).threads one.thread).own.stage ≡ stage → Tells (pushed event L)
            at_signal (Wakes was_seen) at = at_wakes was_seen at (found == was_seen) refl
            at_signal stage at = at_look stage at refl refl

          told_own : Tells (pushed event L)
          told_own = by i refl w
            where
              by : (j : Instr) → i ≡ j → waited_cell j ≡ Some k → Tells (pushed event L)
              by (Instr.CondEnter d site) is e = at_enter site (is ∙ ap (λ d. Instr.CondEnter d site) (let q : d ≡ k = cc in q))
              by (Instr.CondSignal d site) is e = at_signal site (is ∙ ap (λ d. Instr.CondSignal d site) (let q : d ≡ k = cc in q)) m.own.stage refl
              by (Instr.CondBroadcast d site) is e = at_broadcast site (is ∙ ap (λ d. Instr.CondBroadcast d site) (let q : d ≡ k = cc in q))
              by _ is e = absurd (cc)

        -- ---- both
        told_old : Tells (pushed event L)
        told_old = by (waited_cell i) refl
          where
            of_wait : (d : Cell) (site : ℕ) (b : Bool) (e : SourceEvent) → (if b then None else event_at code ((place_after code s earlier).threads one.thread) site (pos 0) (Act.Woken (cell_at code ((place_after code s earlier).threads one.thread) d))) ≡ Some e
                → e.act ≡ Act.Woken (cell_at code ((place_after code s earlier).threads one.thread) d)
            of_wait d site true e q = absurd (cc)
            of_wait d site false e q = sym (ap act_of q)
              where
                act_of : Option SourceEvent → Act
                act_of None = Act.Gone
                act_of (Some e) = e.act

            plain : (j : Instr) → i ≡ j → waited_cell j ≡ None → (u : ℕ) (was : Bool) → waits_behind event c u was ≡ was
            plain (Instr.CondWait d site) is e = λ u was. ap (λ j. waits_behind (said code j m found elements) c u was) is ∙ woken_leaves (said code (Instr.CondWait d site) m found elements) (cell_at code m d) c u was (of_wait d site (waits_in found m.own.number))
            plain j is e = λ u was. other_event event c u was (ap (is_cell c) (no_condition code m laws.turns.tells i found elements (ap is_condition is ∙ (let q : is_condition j ≡ false = cc in q))))

            split : (k : Cell) → waited_cell i ≡ Some k → (b : Bool) → same_cell c (cell_at code ((place_after code s earlier).threads one.thread) k) ≡ b → Tells (pushed event L)
            split k w true e = told_own k w (cell_eq c (cell_at code m k) e)
            split k w false e = told_kept (λ u was. other_event event c u was (condition_elsewhere code m i found elements c k w e))
                (λ (q : Own). yes (sym (ap (λ d. same_cell d (cell_at code m k)) q.2 ∙ ap (λ d. same_cell (cell_at code m d) (cell_at code m k)) (let z : Some q.0 ≡ Some k = sym q.1 ∙ w in let y : q.0 ≡ k = cc in y) ∙ cell_refl (cell_at code m k)) ∙ e))

            by : (o : Option Cell) → waited_cell i ≡ o → Tells (pushed event L)
            by None w = told_kept (plain i refl w) (λ (q : Own). let z : None ≡ Some q.0 = sym w ∙ q.1 in cc)
            by (Some k) w = split k w (same_cell c (cell_at code m k)) refl

      pub told_cell : Tells (pushed event L)
      told_cell = by c.object refl
        where
          old_one : (header_of i ((place_after code s earlier).threads one.thread).own.stage ≡ Some o → ⊥) → Tells (pushed event L)
          old_one unmade = told_old (kept laws keeps cell_laws pointers x code s ls wt fits few one earlier h may o j cell.live cell.inside unmade)

          by : (b : Object) → c.object ≡ b → Tells (pushed event L)
          by (Object.Global q) is = old_one (λ made. header_some cell_laws pointers rights laws keeps x code s ls wt fits few one earlier h may o made (ap number_of is))
          by (Object.Made n) is = ⊎_elim
              (λ (made : header_of i m.own.stage ≡ Some n). made_cell n is made)
              (λ (never : header_of i m.own.stage ≡ Some n → ⊥). old_one (λ made. never (made ∙ ap (λ (b : Object). Some (number_of b)) is)))
              (decide (header_of i m.own.stage) n)

    pub words_then : WordsTell x code s (pushed event L) (after_turn bounds (one_thread code s) (place_after code s earlier) one) then_.world then_.state.cells
    words_then c cell holds = told_cell c cell holds

    -- a thread that waits has its bit, where the turn is at the cell
    pub bit_here : (state_law : StateStands) (k : Cell) (at : Here k) (u : ℕ)
        → waits_by L (cell_at code ((place_after code s earlier).threads one.thread) k) u ≡ waits_in (slice_index (place_after code s earlier).words (word s ((place_after code s earlier).threads one.thread) k)) u
    bit_here state_law k at u = ⊎_elim
        (λ (v : (u : ℕ) → waits_by L (cell_at code m k) u ≡ waits_in (slice_index g.words (word_of_cell code s (cell_at code m k))) u). v u ∙ ap (λ n. waits_in (slice_index g.words n) u) (word_here k at))
        (λ (z : IsEmptied code g (number_of (cell_at code m k).object)). absurd (not_emptied state_law x code s ls wt fits g h.world h.state t on at.hold k at.apart (subst (IsEmptied code g) (numbers k at).0 z)))
        (old (cell_at code m k) (cell_here k at) (ap holds_waiters (content_here k at)))

    -- ---- whoever waits stands there
    module _ (state_law : StateStands) (follow : WaitsFollow code) (c : CellAt) where
      abbrev Stand : Machine → Type 0
      Stand y = StandsWaiting code y c

      -- the thread itself
      was_waiting : is_enter i ≡ false → waits_by (pushed event L) c one.thread ≡ true → Stand ((place_after code s earlier).threads one.thread)
      was_waiting plain w = stand c t (no_enter event c t (waits_by L c t) (enterless code m laws.turns.tells i found elements plain) (sym (waiter_behind event L c t) ∙ w))

      stays_not : is_waiting i ≡ false → Stand ((place_after code s earlier).threads one.thread) → ⊥
      stays_not plain w = yes (sym (at_waiting code m.at.pc w.cell w.at) ∙ plain)

      -- it enters
      enters_now : (k : Cell) (site : ℕ) → i ≡ Instr.CondEnter k site → waits_by (pushed event L) c one.thread ≡ true → Stand (after (act code s (Instr.CondEnter k site) ((place_after code s earlier).threads one.thread)) found)
      enters_now k site is w = split (same_cell c (cell_at code m k)) refl
        where
          at : Here k
          at = here k (ap waited_cell is)

          split : (b : Bool) → same_cell c (cell_at code ((place_after code s earlier).threads one.thread) k) ≡ b → Stand (after (act code s (Instr.CondEnter k site) ((place_after code s earlier).threads one.thread)) found)
          split true e = let f = follow m.at.pc site k is in record {
            cell = k;
            is = sym (cell_eq c (cell_at code m k) e);
            based = some_base x code s ls wt fits g h.world h.state t on at.hold k at.has.base;
            hold = at.hold;
            at = Unlocks f.register f.mutex f.unlock_site f.wait_site f.unlocks f.waits;
          }
          split false e = absurd (stays_not (ap is_waiting is)
              (stand c t (sym (other_event event c t (waits_by L c t) (condition_elsewhere code m i found elements c k (ap waited_cell is) e)) ∙ sym (waiter_behind event L c t) ∙ w)))

      -- it waits on, or is no waiter
      waits_on : (k : Cell) (site : ℕ) → i ≡ Instr.CondWait k site → waits_by (pushed event L) c one.thread ≡ true → Stand (after (act code s (Instr.CondWait k site) ((place_after code s earlier).threads one.thread)) found)
      waits_on k site is w = split (waits_in found m.own.number) refl
        where
          st : Stand ((place_after code s earlier).threads one.thread)
          st = was_waiting (ap is_enter is) w

          own_cell : IsAtWait code ((place_after code s earlier).threads one.thread).at.pc st.cell → st.cell ≡ k
          own_cell (Waits a e) = let z : Instr.CondWait st.cell a ≡ Instr.CondWait k site = sym e ∙ is in cc
          own_cell (Unlocks q mutex a b e v) = absurd (let z : Instr.Unlock q mutex a ≡ Instr.CondWait k site = sym e ∙ is in cc)

          here_is : c ≡ cell_at code ((place_after code s earlier).threads one.thread) k
          here_is = sym st.is ∙ ap (cell_at code m) (own_cell st.at)

          bit : waits_in found ((place_after code s earlier).threads one.thread).own.number ≡ true
          bit =
              let f = found_at k WordOp.Load (ap (λ j. asked_by (act code s j m)) is) in
              ap (λ n. waits_in found n) number ∙ ap (λ n. waits_in n t) f ∙ sym (bit_here state_law k (here_at_wait k site is) t) ∙ ap (λ d. waits_by L d t) (sym here_is)
              ∙ no_enter event c t (waits_by L c t) (enterless code m laws.turns.tells i found elements (ap is_enter is)) (sym (waiter_behind event L c t) ∙ w)

          split : (b : Bool) → waits_in found ((place_after code s earlier).threads one.thread).own.number ≡ b → Stand (if b then fails ((place_after code s earlier).threads one.thread) else goes ((place_after code s earlier).threads one.thread))
          split true e = record { cell = st.cell; is = st.is; based = st.based; hold = st.hold; at = st.at }
          split false e = absurd (yes (sym bit ∙ e))

      -- it unlocks the mutex
      module _ (q : ℕ) (mutex : Cell) (site : ℕ) (is : i ≡ Instr.Unlock q mutex site) where
        abbrev released : Machine
        released = after (act code s (Instr.Unlock q mutex site) ((place_after code s earlier).threads one.thread)) found

        -- the register that takes the reference had none
        vacant : ref ((place_after code s earlier).threads one.thread) q ≡ 0
        vacant =
            let hold = held_by (Instr.Unlock q mutex site) is refl in
            let f = fine (Instr.Unlock q mutex site) is in
            reads_ref x code s ls wt fits g h.world h.state t on hold q
            ∙ subst (EntryStands (refs_at (view_of h.state.elements h.world t m) m.at.refs) (types_at (view_of h.state.elements h.world t m) m.at.refs) q) f.1.empty ((top x code s ls wt fits g h.world h.state t on hold (suc q) 0).env q (omega arith))

        same_ref : (r : ℕ) → (ref ((place_after code s earlier).threads one.thread) r == 0) ≡ false → ref released r ≡ ref ((place_after code s earlier).threads one.thread) r
        same_ref r some = get_or-set_other m.refs (m.at.refs + q) (m.at.refs + r) _ 0 (λ e.
            let same : r ≡ q = omega arith in
            yes (sym (ap (λ r. ref m r == 0) same ∙ ap (λ n. n == 0) vacant) ∙ some))

        same_cell_at : (k : Cell) → is_of_null ((place_after code s earlier).threads one.thread) k ≡ false → (cell_at code released k ≡ cell_at code ((place_after code s earlier).threads one.thread) k) × (is_of_null released k ≡ false)
        same_cell_at (Cell.Global h p) b = (refl, refl)
        same_cell_at (Cell.GlobalAt h p) b = (refl, refl)
        same_cell_at (Cell.Object r p) b = (ap (λ n. record { object = Object.Made n; cell = p }) (same_ref r b), ap (λ n. n == 0) (same_ref r b) ∙ b)
        same_cell_at (Cell.ObjectAt r p) b = (ap (λ n. record { object = Object.Made n; cell = word_of (int m p) }) (same_ref r b), ap (λ n. n == 0) (same_ref r b) ∙ b)

        unlocks_now : waits_by (pushed event L) c one.thread ≡ true → Stand released
        unlocks_now w = by st.at
          where
            st : Stand ((place_after code s earlier).threads one.thread)
            st = was_waiting (ap is_enter is) w

            by : IsAtWait code ((place_after code s earlier).threads one.thread).at.pc st.cell → Stand released
            by (Waits a e) = absurd (let z : Instr.Unlock q mutex site ≡ Instr.CondWait st.cell a = sym is ∙ e in cc)
            by (Unlocks p d a b e v) =
                let k = same_cell_at st.cell st.based in
                record { cell = st.cell; is = k.0 ∙ st.is; based = k.1; hold = st.hold; at = Waits b v }

      own_then : waits_by (pushed event L) c one.thread ≡ true → Stand (after (turn code s ((place_after code s earlier).threads one.thread)) found)
      own_then w = by i refl
        where
          by : (j : Instr) → i ≡ j → Stand (after (act code s i ((place_after code s earlier).threads one.thread)) found)
          by (Instr.CondEnter k site) is = subst (λ j. Stand (after (act code s j m) found)) (sym is) (enters_now k site is w)
          by (Instr.CondWait k site) is = subst (λ j. Stand (after (act code s j m) found)) (sym is) (waits_on k site is w)
          by (Instr.Unlock q k site) is = subst (λ j. Stand (after (act code s j m) found)) (sym is) (unlocks_now q k site is w)
          by _ is = absurd (stays_not (ap is_waiting is) (was_waiting (ap is_enter is) w))

      pub stands_then : (u : ℕ) → waits_by (pushed event L) c u ≡ true → StandsWaiting code ((after_turn bounds (one_thread code s) (place_after code s earlier) one).threads u) c
      stands_then u w =
          let now = state_now (one_thread code s) g one in
          ⊎_elim
          (λ (same : u ≡ t). subst (λ u. Stand (put g.threads t now u)) (sym same) (subst Stand (sym (put_same g.threads t now)) (own_then (ap (waits_by (pushed event L) c) (sym same) ∙ w))))
          (λ (ne : u ≡ t → ⊥). subst Stand (sym (put_other g.threads t u now ne))
          (stand c u (of_other event c u t (waits_by L c u) (subst (λ n. thread_said n event ≡ n) number (about_now cell_laws pointers rights laws keeps x code s ls wt fits few one earlier h may).thread) ne (sym (waiter_behind event L c u) ∙ w))))
          (cases_eq u t)
