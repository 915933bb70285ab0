-- The source events of each run of typed code that tell who waits may come after those before them.
use Rattle.sharc_history_laws.proofs.{Imports.{◌≡◌, ℕ, pos, zero, suc, ◌+◌, ◌<◌, ◌^◌, ◌⊎◌, inl, inr, Bool, true, false, List, [], reverse, Option, Some, None, if◌then◌else◌, refl, sym, ap, ◌∙◌, subst, ⊎_elim, eqb-true, cases_eq, not_true, slice_index, ◌==◌, WordOp, Act, Object, CellAt, SourceEvent, Resolution, WaitersLaws, waits_in, lowest_of, without_lowest, Code, Cell, Instr, Shape, Stage, Wakes, RunLaws, Fits, Machine, word, act, signal, step_of, opening_words, turn, after, asked_by, Turn, IsRun, MayTurn, after_turn, put, state_now, result_of, opening_of, said, cell_at, nobody, in_signal, event_at, one_thread, bounds, place_after, said_now, table_of, History, MayCome, is_waiter, Targets, Labels, IsWellTyped, IsSmall, Keeps, CodeBegins, CellsAreThere, PointersAreThere, AccessesAreAllowed, StateStands, history_of, BeginsWith, is_about_waiters, WaitsFollow, yes, is_condition, put_same, put_other}, TurnAt.{turn_at, told_at}, Consists.{Consists, at_first, found_is}, Contents.{IsCellOf, content_of, word_of_cell}, Emptying.IsEmptied, Outcomes.{wakes_still, wakes_nobody}, Lists.{Newest, Each, no_event}, Opening.{waiters_first, only_globals}, Queued.{waits_by, waiter_is, condition_of, condition_said, no_condition}, Rules.{over_runs, each_pushed, newest}, Shared.number_of, Sparing.holds_waiters, Touches.waited_cell, Waiting.{WaitersStand, WordsTell, Here, here, here_at_wait, bit_here, words_then, stands_then}, Logged.above as positive}

-- what tells who waits may come
abbrev pub IsTold : Resolution → History → SourceEvent → Type 0
IsTold r before e = is_about_waiters e.act ≡ true → MayCome r before e e.act

-- ---- one turn
module _ (bits : WaitersLaws) (state_law : StateStands) (cell_laws : CellsAreThere) (pointers : PointersAreThere) (rights : AccessesAreAllowed) (laws : RunLaws) (keeps : Keeps) (x : Targets) (code : Code) (s : Shape) (ls : Labels) (wt : IsWellTyped x code ls) (fits : Fits code s) (few : IsSmall code s)
    (one : Turn) (earlier : List Turn) (h : Consists x code s ls earlier) (may : MayTurn bounds (one_thread code s) (place_after code s earlier) one)
    (r : Resolution) (L : Newest) (stand : WaitersStand code L (place_after code s earlier)) (old : WordsTell x code s L (place_after code s earlier) h.world h.state.cells) (wake : (u : ℕ) → wakes_nobody ((place_after code s earlier).threads u).own.stage ≡ false) where
  open turn_at code s (place_after code s earlier) one use {g, t, m, i, found}
  open told_at code s earlier one use {elements, event}

  -- ---- stages
  own_wakes : wakes_nobody (after (turn code s ((place_after code s earlier).threads one.thread)) found).own.stage ≡ false
  own_wakes = not_true _ (λ w. yes (sym (wakes_still s i found m _ (laws.turns.outcomes code s i m found) w) ∙ wake t))

  pub wakes_then : (u : ℕ) → wakes_nobody ((after_turn bounds (one_thread code s) (place_after code s earlier) one).threads u).own.stage ≡ false
  wakes_then u =
      let now = state_now (one_thread code s) g one in
      ⊎_elim
      (λ (same : u ≡ t). ap (λ u. wakes_nobody (put g.threads t now u).own.stage) same ∙ ap (λ (y : Machine). wakes_nobody y.own.stage) (put_same g.threads t now) ∙ own_wakes)
      (λ (ne : u ≡ t → ⊥). ap (λ (y : Machine). wakes_nobody y.own.stage) (put_other g.threads t u now ne) ∙ wake u)
      (cases_eq u t)

  -- ---- events
  abbrev Legal : Option SourceEvent → Type 0
  Legal None = Unit {0}
  Legal (Some e) = IsTold r (reverse L) e

  plain_legal : (ev : Option SourceEvent) → condition_said ev ≡ None → Legal ev
  plain_legal None e = tt
  plain_legal (Some d) e = λ w. absurd (by d.act e w)
    where
      by : (a : Act) → condition_of a ≡ None → is_about_waiters a ≡ true → ⊥
      by (Act.Woken c) e w = let z : Some c ≡ None = e in cc
      by (Act.Signal c) e w = let z : Some c ≡ None = e in cc
      by _ e w = yes (sym w)

  -- what the turn finds at a condition
  module _ (k : Cell) (at : Here bits cell_laws pointers rights laws keeps x code s ls wt fits few one earlier h may k) (op : WordOp)
      (asked : asked_by (turn code s ((place_after code s earlier).threads one.thread)) ≡ Some (step_of (word s ((place_after code s earlier).threads one.thread) k) op)) where
    found_here : found ≡ slice_index (place_after code s earlier).words (word s ((place_after code s earlier).threads one.thread) k)
    found_here = found_is g.words one.event (step_of (word s m k) op) (may.next.asks ∙ asked) may.answered

    waits_there : (u : ℕ) → is_waiter (reverse L) (cell_at code ((place_after code s earlier).threads one.thread) k) u ≡ waits_in found u
    waits_there u = waiter_is L (cell_at code m k) u ∙ bit_here bits cell_laws pointers rights laws keeps x code s ls wt fits few one earlier h may L stand old wake state_law k at u ∙ ap (λ n. waits_in n u) (sym found_here)

    nobody_legal : (site n : ℕ) → found ≡ n → Legal (nobody code ((place_after code s earlier).threads one.thread) k site n)
    nobody_legal site zero e = λ w. inl (refl, λ u. waits_there u ∙ ap (λ n. waits_in n u) e ∙ bits.empty u)
    nobody_legal site (suc n) e = tt

    wakes_legal : (site seen : ℕ) → ((place_after code s earlier).threads one.thread).own.stage ≡ Wakes seen → (b : Bool) → (found == seen) ≡ b
        → Legal (if b then event_at code ((place_after code s earlier).threads one.thread) site (pos (lowest_of seen + 1)) (Act.Signal (cell_at code ((place_after code s earlier).threads one.thread) k)) else nobody code ((place_after code s earlier).threads one.thread) k site found)
    wakes_legal site seen stage true e =
        let same : found ≡ seen = eqb-true found seen e in
        let small : seen < 2 ^ 64 = subst (λ n. n < 2 ^ 64) (sym found_here ∙ same) (h.state.are_words (word s m k)) in
        let lowest = bits.lowest seen (positive seen (sym (ap wakes_nobody stage) ∙ wake t)) small in
        λ w. inr (record {
          thread = lowest_of seen;
          tells = refl;
          waits = waits_there (lowest_of seen) ∙ ap (λ n. waits_in n (lowest_of seen)) same ∙ lowest.waited;
          lowest = λ lower lt. waits_there lower ∙ ap (λ n. waits_in n lower) same ∙ lowest.lowest lower lt;
        })
    wakes_legal site seen stage false e = nobody_legal site found refl

    woken_legal : (site : ℕ) (b : Bool) → waits_in found ((place_after code s earlier).threads one.thread).own.number ≡ b
        → Legal (if b then None else event_at code ((place_after code s earlier).threads one.thread) site (pos 0) (Act.Woken (cell_at code ((place_after code s earlier).threads one.thread) k)))
    woken_legal site true e = tt
    woken_legal site false e = λ w. waits_there m.own.number ∙ e

  signal_legal : (k : Cell) (site : ℕ) → i ≡ Instr.CondSignal k site → (stage : Stage) → ((place_after code s earlier).threads one.thread).own.stage ≡ stage → Legal (in_signal code ((place_after code s earlier).threads one.thread) k site found stage)
  signal_legal k site is (Wakes seen) at =
      wakes_legal k (here bits cell_laws pointers rights laws keeps x code s ls wt fits few one earlier h may k (ap waited_cell is)) (WordOp.Cas seen (without_lowest seen))
      (ap (λ j. asked_by (act code s j m)) is ∙ ap (λ y. asked_by (signal m (word s m k) y)) at) site seen at (found == seen) refl
  signal_legal k site is stage at =
      nobody_legal k (here bits cell_laws pointers rights laws keeps x code s ls wt fits few one earlier h may k (ap waited_cell is)) WordOp.Load
      (ap (λ j. asked_by (act code s j m)) is ∙ ap (λ y. asked_by (signal m (word s m k) y)) at) site found refl

  pub legal_now : Legal event
  legal_now = by i refl
    where
      by : (j : Instr) → i ≡ j → Legal event
      by (Instr.CondEnter k site) is = subst (λ j. Legal (said code j m found elements)) (sym is) (λ w. absurd (yes (sym w)))
      by (Instr.CondBroadcast k site) is = subst (λ j. Legal (said code j m found elements)) (sym is) (λ w. absurd (yes (sym w)))
      by (Instr.CondSignal k site) is = subst (λ j. Legal (said code j m found elements)) (sym is) (signal_legal k site is m.own.stage refl)
      by (Instr.CondWait k site) is = subst (λ j. Legal (said code j m found elements)) (sym is)
          (woken_legal k (here_at_wait bits cell_laws pointers rights laws keeps x code s ls wt fits few one earlier h may k site is) WordOp.Load (ap (λ j. asked_by (act code s j m)) is) site (waits_in found m.own.number) refl)
      by _ is = plain_legal event (no_condition code m laws.turns.tells i found elements (ap is_condition is))

-- ---- runs
pub record Awaited (r : Resolution) (x : Targets) (code : Code) (s : Shape) (ls : Labels) (run : List Turn) : Type 0 where
  pub consists : Consists x code s ls run
  pub stand : WaitersStand code (newest code s run) (place_after code s run)
  pub words : WordsTell x code s (newest code s run) (place_after code s run) consists.world consists.state.cells
  pub wakes : (u : ℕ) → wakes_nobody ((place_after code s run).threads u).own.stage ≡ false
  pub legal : Each (IsTold r) (history_of code s run)

module _ (bits : WaitersLaws) (state_law : StateStands) (cell_laws : CellsAreThere) (pointers : PointersAreThere) (rights : AccessesAreAllowed) (laws : RunLaws) (begins_law : CodeBegins) (keeps : Keeps) (x : Targets) (code : Code) (s : Shape) (ls : Labels) (wt : IsWellTyped x code ls) (fits : Fits code s) (few : IsSmall code s)
    (follow : WaitsFollow code) (r : Resolution) (first : BeginsWith r code) where
  pub awaited : (run : List Turn) → IsRun bounds (one_thread code s) (opening_of bounds (one_thread code s) (opening_words code s)) run → Awaited r x code s ls run
  awaited run is =
      let k = over_runs cell_laws pointers laws begins_law keeps x code s ls wt fits few
      (λ run h L. record {
        stand : WaitersStand code L (place_after code s run);
        words : WordsTell x code s L (place_after code s run) h.world h.state.cells;
        wakes : (u : ℕ) → wakes_nobody ((place_after code s run).threads u).own.stage ≡ false;
        legal : Each (IsTold r) (reverse L);
      })
      (record { stand = λ c u w. absurd (yes (sym w)); words = λ c cell holds. opened c c.object refl cell holds; wakes = λ u. refl; legal = no_event (IsTold r) })
      (λ one earlier h may _ old.
      let L = newest code s earlier in
      let ev = said_now code (table_of code s earlier) ((place_after code s earlier).threads one.thread) (result_of one.event) in
      record {
        stand = λ c u w. stands_then bits cell_laws pointers rights laws keeps x code s ls wt fits few one earlier h may L old.stand old.words old.wakes state_law follow c u w;
        words = words_then bits cell_laws pointers rights laws keeps x code s ls wt fits few one earlier h may L old.stand old.words old.wakes;
        wakes = wakes_then bits state_law cell_laws pointers rights laws keeps x code s ls wt fits few one earlier h may r L old.stand old.words old.wakes;
        legal = each_pushed (IsTold r) ev L old.legal (λ e is. subst (Legal bits state_law cell_laws pointers rights laws keeps x code s ls wt fits few one earlier h may r L old.stand old.words old.wakes) is
            (legal_now bits state_law cell_laws pointers rights laws keeps x code s ls wt fits few one earlier h may r L old.stand old.words old.wakes));
      }) run is in
      record { consists = k.0; stand = k.1.stand; words = k.1.words; wakes = k.1.wakes; legal = k.1.legal }
    where
      opened : (c : CellAt) (b : Object) → c.object ≡ b → IsCellOf code (at_first begins_law x code s ls wt fits).world (at_first begins_law x code s ls wt fits).state.cells c
          → holds_waiters (content_of x code (at_first begins_law x code s ls wt fits).world c) ≡ true
          → ((u : ℕ) → waits_by [] c u ≡ waits_in (slice_index (place_after code s []).words (word_of_cell code s c)) u) ⊎ IsEmptied code (place_after code s []) (number_of c.object)
      opened c (Object.Global q) is cell holds = inl (λ u. sym (ap (λ n. waits_in n u) (waiters_first begins_law x code s ls wt fits r first q c is cell holds) ∙ bits.empty u))
      opened c (Object.Made n) is cell holds = absurd (only_globals begins_law x code s ls wt fits r first n c is cell)
