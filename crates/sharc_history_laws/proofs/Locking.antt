-- The held logs of threads are those that their events tell, so an access under a lock comes while the thread holds the mutex.
use Rattle.sharc_history_laws.proofs.{Imports.{◌≡◌, ℕ, zero, suc, ◌+◌, ◌<◌, ◌≢◌, ◌⊎◌, inl, Bool, true, false, not, ◌||◌, ◌&&◌, length, List, [], ◌∷◌, ◌++◌, reverse, Option, Some, None, if◌then◌else◌, refl, sym, ap, ◌∙◌, subst, ⊎_elim, arith, cases_eq, nat_tests, nat_lt, ◌==◌, Act, SourceEvent, CellAt, Object, CellMode, HeldMutex, with_mutex, without, Code, PlaceMode, Cell, Instr, Shape, RunLaws, Fits, first_cell, words_of, cell_of, Machine, place, object, word, is_held, taken, act, locked, goes, fails, opening_words, is_locking, turn, after, Turn, IsRun, MayTurn, after_turn, put, state_now, result_of, opening_of, one_thread, bounds, place_after, said, cell_at, mode_of, place_at, event_at, lock_through, said_now, IsMutex, table_of, Access, same_object, same_cell, is_cell, locks, unlocks, is_of, History, IsAccess, Targets, FieldMode, Labels, IsWellTyped, MayAccess, IsMode, IsSmall, GateStands, OnHold, Keeps, CodeBegins, CellsAreThere, PointersAreThere, AccessesAreAllowed, history_of, is_below, eqb-true, not_true, is_access, put_same, put_other}, TurnAt.{turn_at, told_at, turn_stands}, Single.rests_hold, Stands.gate, Finds.{mutex_cell, pending_apart}, Consists.Consists, Acts.{access_said, thread_said, no_access, access_at, IsAccess as TellsAccess, access_of}, Lists.{Newest, Each, OfAccess, no_event}, Rules.{over_runs, pushed, newest, number_is, about_now, hold_access, each_pushed}, Holding.{cell_eq, holds_in, holds_other, holds_own}, Outcomes.logs, Mutexless.{mutex_said, no_mutex, not_locked}, Locked.{IsIn, in_append, in_without, Names, names_one, names_cell, one_place, LogTold, held_told, lock_eq, through_is}, LockModes.mutex_names}

object_refl : (a : Object) → same_object a a ≡ true
object_refl (Object.Global g) = let e : (g == g) ≡ true = grind (arith, nat_tests) in e
object_refl (Object.Made n) = let e : (n == n) ≡ true = grind (arith, nat_tests) in e

pub cell_refl : (c : CellAt) → same_cell c c ≡ true
cell_refl c = ap (λ b. b && (c.cell == c.cell)) (object_refl c.object) ∙ (let e : (c.cell == c.cell) ≡ true = grind (arith, nat_tests) in e)

-- ---- one turn
module _ (cell_laws : CellsAreThere) (pointers : PointersAreThere) (rights : AccessesAreAllowed) (laws : RunLaws) (keeps : Keeps) (x : Targets) (code : Code) (s : Shape) (ls : Labels) (wt : IsWellTyped x code ls) (fits : Fits code s) (few : IsSmall code s)
    (one : Turn) (earlier : List Turn) (h : Consists x code s ls earlier) (may : MayTurn bounds (one_thread code s) (place_after code s earlier) one) where
  open turn_at code s (place_after code s earlier) one use {g, t, m, i, found}
  open told_at code s earlier one use {elements, event}
  open h use {world}
  open turn_stands wt h.state one may use {on, stage_here, fine}

  thread_is : (e : SourceEvent) → event ≡ Some e → e.thread ≡ one.thread
  thread_is e is = ap (thread_said m.own.number) (sym is) ∙ (about_now cell_laws pointers rights laws keeps x code s ls wt fits few one earlier h may).thread ∙ number_is cell_laws pointers rights laws keeps x code s ls wt fits few one earlier h may

  pub is_own : (e : SourceEvent) → event ≡ Some e → is_of one.thread e ≡ true
  is_own e is = let q = thread_is e is in let f : (e.thread == t) ≡ true = grind (arith, nat_tests) in f

  pub is_others : (e : SourceEvent) → event ≡ Some e → (u : ℕ) → (u ≡ one.thread → ⊥) → is_of u e ≡ false
  is_others e is u ne = let q = thread_is e is in let other : e.thread ≡ u → ⊥ = λ z. ne (sym z ∙ q) in let f : (e.thread == u) ≡ false = grind (arith, nat_tests) in f

  -- ---- the log of the thread
  abbrev mine : List HeldMutex
  mine = ((place_after code s earlier).threads one.thread).own.held

  -- an event that is neither Lock nor Unlock
  told_quiet : (L : Newest) → LogTold code s L one.thread mine → (ev : Option SourceEvent) → event ≡ ev → mutex_said ev ≡ false → LogTold code s (pushed ev L) one.thread mine
  told_quiet L old None e quiet = old
  told_quiet L old (Some d) e quiet = λ k is c at w names.
      let a = not_locked d.act quiet in
      let l : locks c d ≡ false = ap (is_cell c) a.0 in
      let u : unlocks c d ≡ false = ap (is_cell c) a.1 in
      holds_own d L t c (is_own d e) ∙ ap (λ b. b || (holds_in L t c && not (unlocks c d))) l ∙ ap (λ b. holds_in L t c && not b) u ∙ ap (λ b. b && true) (old k is c at w names)

  -- a Lock
  lock_mutex : (c : Cell) (site : ℕ) → i ≡ Instr.Lock c site → IsMutex code s ((place_after code s earlier).threads one.thread) c
  lock_mutex c site is =
      let f = fine (Instr.Lock c site) is in
      mutex_cell cell_laws x code s ls wt fits g world h.state t on (rests_hold code s h.state.elements world h.state.heap g.words t m (Instr.Lock c site) m.own.stage refl (stage_here (Instr.Lock c site) is)) c f.2.0 f.2.1

  unlock_mutex : (r : ℕ) (c : Cell) (site : ℕ) → i ≡ Instr.Unlock r c site → IsMutex code s ((place_after code s earlier).threads one.thread) c
  unlock_mutex r c site is =
      let f = fine (Instr.Unlock r c site) is in
      mutex_cell cell_laws x code s ls wt fits g world h.state t on (rests_hold code s h.state.elements world h.state.heap g.words t m (Instr.Unlock r c site) m.own.stage refl (stage_here (Instr.Unlock r c site) is)) c f.2.0 f.2.1

  pub word_is : (c : Cell) → IsMutex code s ((place_after code s earlier).threads one.thread) c → word s ((place_after code s earlier).threads one.thread) c ≡ first_cell s + place ((place_after code s earlier).threads one.thread) c
  word_is c k = ap (λ b. if b then first_cell s + place m c else 0) (is_below (first_cell s + place m c) (words_of s) k.apart.inside)

  in_taken : (c : Cell) (k : HeldMutex) → IsIn k (taken ((place_after code s earlier).threads one.thread) (word s ((place_after code s earlier).threads one.thread) c) (object ((place_after code s earlier).threads one.thread) c))
      → IsIn k mine ⊎ (k ≡ record { word = word s ((place_after code s earlier).threads one.thread) c; object = object ((place_after code s earlier).threads one.thread) c })
  in_taken c k = elim (is_held m (word s m c)) as (λ b. IsIn k (if b then m.own.held else with_mutex m.own.held (word s m c) (object m c)) → IsIn k m.own.held ⊎ (k ≡ record { word = word s m c; object = object m c })) [
    | true ↦ λ z. inl z
    | false ↦ elim (nat_lt (length m.own.held) 16) as (λ b. IsIn k (if b then m.own.held ++ record { word = word s m c; object = object m c } ∷ [] else m.own.held) → IsIn k m.own.held ⊎ (k ≡ record { word = word s m c; object = object m c })) [
      | true ↦ λ z. in_append m.own.held (record { word = word s m c; object = object m c }) k z
      | false ↦ λ z. inl z
    ]
  ]

  told_lock : (L : Newest) → LogTold code s L one.thread mine → (c : Cell) → IsMutex code s ((place_after code s earlier).threads one.thread) c → (d : SourceEvent) → event ≡ Some d → d.act ≡ Act.Lock (cell_at code ((place_after code s earlier).threads one.thread) c)
      → LogTold code s (d ∷ L) one.thread (taken ((place_after code s earlier).threads one.thread) (word s ((place_after code s earlier).threads one.thread) c) (object ((place_after code s earlier).threads one.thread) c))
  told_lock L old c mutex d e act_is k is named at w names =
      let l : locks named d ≡ same_cell named (cell_at code m c) = ap (λ a. is_cell named (Rattle.sharc_meaning.specs.Events.locked_by a)) act_is in
      let u : unlocks named d ≡ false = ap (λ a. is_cell named (Rattle.sharc_meaning.specs.Events.unlocked_by a)) act_is in
      holds_own d L t named (is_own d e) ∙ ⊎_elim
      (λ (before : IsIn k m.own.held). ap (λ b. locks named d || (holds_in L t named && not b)) u ∙ ap (λ b. locks named d || (b && true)) (old k before named at w names) ∙ or_true (locks named d))
      (λ (new : k ≡ record { word = word s m c; object = object m c }).
      let same_at : at ≡ place m c = let a : k.word ≡ word s m c = ap (λ (k : HeldMutex). k.word) new in let b = word_is c mutex in omega arith in
      let there = subst (λ o. Names code named o at) (ap (λ (k : HeldMutex). k.object) new) names in
      let one_cell : named ≡ cell_at code m c = names_one x code ls wt named (cell_at code m c) (object m c) (place m c) (subst (λ at. Names code named (object m c) at) same_at there) (names_cell code m c mutex.there) in
      ap (λ b. b || (holds_in L t named && not (unlocks named d))) (l ∙ ap (λ c'. same_cell c' (cell_at code m c)) one_cell ∙ cell_refl (cell_at code m c)))
      (in_taken c k is)
    where
      or_true : (b : Bool) → (b || (true && true)) ≡ true
      or_true true = refl
      or_true false = refl

  told_unlock : (L : Newest) → LogTold code s L one.thread mine → (c : Cell) → IsMutex code s ((place_after code s earlier).threads one.thread) c → (d : SourceEvent) → event ≡ Some d → d.act ≡ Act.Unlock (cell_at code ((place_after code s earlier).threads one.thread) c)
      → LogTold code s (d ∷ L) one.thread (without mine (word s ((place_after code s earlier).threads one.thread) c))
  told_unlock L old c mutex d e act_is k is named at w names =
      let r = in_without m.own.held (word s m c) k is in
      let l : locks named d ≡ false = ap (λ a. is_cell named (Rattle.sharc_meaning.specs.Events.locked_by a)) act_is in
      let u : unlocks named d ≡ same_cell named (cell_at code m c) = ap (λ a. is_cell named (Rattle.sharc_meaning.specs.Events.unlocked_by a)) act_is in
      let other : same_cell named (cell_at code m c) ≡ false = not_true (same_cell named (cell_at code m c)) (λ z.
      let same = cell_eq named (cell_at code m c) z in
      let there : Names code (cell_at code m c) k.object at = subst (λ c'. Names code c' k.object at) same names in
      let q : at ≡ place m c = one_place code (cell_at code m c).object (cell_at code m c).cell k.object (object m c) at (place m c) there (names_cell code m c mutex.there) in
      r.1 (w ∙ ap (λ n. first_cell s + n) q ∙ sym (word_is c mutex))) in
      holds_own d L t named (is_own d e)
      ∙ ap (λ b. b || (holds_in L t named && not (unlocks named d))) l
      ∙ ap (λ b. holds_in L t named && not b) (u ∙ other)
      ∙ ap (λ b. b && true) (old k r.0 named at w names)

  abbrev pub lock_event : Cell → ℕ → SourceEvent
  lock_event c site = record { thread = m.own.number; site = (place_at code site).site; answer = Rattle.std.specs.Prelude.pos 0; act = Act.Lock (cell_at code m c) }

  abbrev pub unlock_event : Cell → ℕ → SourceEvent
  unlock_event c site = record { thread = m.own.number; site = (place_at code site).site; answer = Rattle.std.specs.Prelude.pos 0; act = Act.Unlock (cell_at code m c) }

  -- what stands of the events and of the log stands after the turn, where a quiet event, a Lock and an Unlock keep it
  module _ (P : Newest → List HeldMutex → Type 0) (L : Newest) (old : P L mine) (quiet : (ev : Option SourceEvent) → event ≡ ev → mutex_said ev ≡ false → P (pushed ev L) mine)
      (with_lock : (c : Cell) (site : ℕ) → i ≡ Instr.Lock c site → found ≡ 0 → event ≡ Some (lock_event c site)
      → P (lock_event c site ∷ L) (taken ((place_after code s earlier).threads one.thread) (word s ((place_after code s earlier).threads one.thread) c) (object ((place_after code s earlier).threads one.thread) c)))
      (with_unlock : (r : ℕ) (c : Cell) (site : ℕ) → i ≡ Instr.Unlock r c site → event ≡ Some (unlock_event c site) → P (unlock_event c site ∷ L) (without mine (word s ((place_after code s earlier).threads one.thread) c))) where
    pub log_then : (ev : Option SourceEvent) → event ≡ ev → P (pushed ev L) (after (turn code s ((place_after code s earlier).threads one.thread)) found).own.held
    log_then ev e = by i refl
      where
        at_lock : (c : Cell) (site : ℕ) → i ≡ Instr.Lock c site → P (pushed ev L) (after (turn code s ((place_after code s earlier).threads one.thread)) found).own.held
        at_lock c site is =
            let held_is : (after (turn code s m) found).own.held ≡ (locked m c (word s m c) found).own.held = ap (λ j. (after (act code s j m) found).own.held) is in
            let said_is : event ≡ (if found == 0 then event_at code m site (Rattle.std.specs.Prelude.pos 0) (Act.Lock (cell_at code m c)) else None) = ap (λ j. said code j m found elements) is in
            subst (P (pushed ev L)) (sym held_is) (choose (found == 0) refl (sym e ∙ said_is))
          where
            choose : (b : Bool) → (found == 0) ≡ b → ev ≡ (if (found == 0) then event_at code ((place_after code s earlier).threads one.thread) site (Rattle.std.specs.Prelude.pos 0) (Act.Lock (cell_at code ((place_after code s earlier).threads one.thread) c)) else None)
                → P (pushed ev L) (locked ((place_after code s earlier).threads one.thread) c (word s ((place_after code s earlier).threads one.thread) c) found).own.held
            choose true z q =
                let now : ev ≡ event_at code m site (Rattle.std.specs.Prelude.pos 0) (Act.Lock (cell_at code m c)) = q ∙ ap (λ b. if b then event_at code m site (Rattle.std.specs.Prelude.pos 0) (Act.Lock (cell_at code m c)) else None) z in
                let held : (locked m c (word s m c) found).own.held ≡ taken m (word s m c) (object m c) = ap (λ b. (if b then goes (record (Rattle.sharc_code.specs.Machine.without_base m c) { own = record m.own { held = taken m (word s m c) (object m c) } }) else fails m).own.held) z in
                subst (λ ev. P (pushed ev L) (locked m c (word s m c) found).own.held) (sym now) (subst (P (lock_event c site ∷ L)) (sym held) (with_lock c site is (eqb-true found 0 z) (e ∙ now)))
            choose false z q =
                let now : ev ≡ None = q ∙ ap (λ b. if b then event_at code m site (Rattle.std.specs.Prelude.pos 0) (Act.Lock (cell_at code m c)) else None) z in
                let held : (locked m c (word s m c) found).own.held ≡ m.own.held = ap (λ b. (if b then goes (record (Rattle.sharc_code.specs.Machine.without_base m c) { own = record m.own { held = taken m (word s m c) (object m c) } }) else fails m).own.held) z in
                subst (λ ev. P (pushed ev L) (locked m c (word s m c) found).own.held) (sym now) (subst (P L) (sym held) old)

        at_unlock : (r : ℕ) (c : Cell) (site : ℕ) → i ≡ Instr.Unlock r c site → P (pushed ev L) (after (turn code s ((place_after code s earlier).threads one.thread)) found).own.held
        at_unlock r c site is =
            let held_is : (after (turn code s m) found).own.held ≡ without m.own.held (word s m c) = ap (λ j. (after (act code s j m) found).own.held) is in
            let said_is : event ≡ event_at code m site (Rattle.std.specs.Prelude.pos 0) (Act.Unlock (cell_at code m c)) = ap (λ j. said code j m found elements) is in
            subst (λ ev. P (pushed ev L) (after (turn code s m) found).own.held) (sym said_is ∙ e) (subst (P (unlock_event c site ∷ L)) (sym held_is) (with_unlock r c site is said_is))

        others : is_locking i ≡ false → P (pushed ev L) (after (turn code s ((place_after code s earlier).threads one.thread)) found).own.held
        others never =
            let held = logs s i found m _ (laws.turns.outcomes code s i m found) never in
            let silent : mutex_said ev ≡ false = ap mutex_said (sym e) ∙ no_mutex code m laws.turns.tells i found elements never in
            subst (P (pushed ev L)) (sym held) (quiet ev e silent)

        by : (j : Instr) → i ≡ j → P (pushed ev L) (after (turn code s ((place_after code s earlier).threads one.thread)) found).own.held
        by (Instr.Lock c site) is = at_lock c site is
        by (Instr.Unlock r c site) is = at_unlock r c site is
        by _ is = others (ap is_locking is)

  -- the log of the thread
  own_log : (L : Newest) → LogTold code s L one.thread mine → (ev : Option SourceEvent) → event ≡ ev → LogTold code s (pushed ev L) one.thread (after (turn code s ((place_after code s earlier).threads one.thread)) found).own.held
  own_log L old = log_then (λ L. LogTold code s L t) L old (told_quiet L old)
      (λ c site is zero said_is. told_lock L old c (lock_mutex c site is) (lock_event c site) said_is refl)
      (λ r c site is said_is. told_unlock L old c (unlock_mutex r c site is) (unlock_event c site) said_is refl)

  -- the logs of all threads
  other_log : (L : Newest) (u : ℕ) → (u ≡ one.thread → ⊥) → (log : List HeldMutex) → LogTold code s L u log → (ev : Option SourceEvent) → event ≡ ev → LogTold code s (pushed ev L) u log
  other_log L u ne log old None e = old
  other_log L u ne log old (Some d) e = λ k is c at w names. holds_other d L u c (is_others d e u ne) ∙ old k is c at w names

  pub logs_then : (L : Newest) → ((u : ℕ) → LogTold code s L u ((place_after code s earlier).threads u).own.held) → (ev : Option SourceEvent) → event ≡ ev
      → (u : ℕ) → LogTold code s (pushed ev L) u ((after_turn bounds (one_thread code s) (place_after code s earlier) one).threads u).own.held
  logs_then L old ev e u =
      let now = state_now (one_thread code s) g one in
      ⊎_elim
      (λ (same : u ≡ t). subst (λ u. LogTold code s (pushed ev L) u (put g.threads t now u).own.held) (sym same)
      (subst (λ (y : Machine). LogTold code s (pushed ev L) t y.own.held) (sym (put_same g.threads t now)) (own_log L (old t) ev e)))
      (λ (ne : u ≡ t → ⊥). subst (λ (y : Machine). LogTold code s (pushed ev L) u y.own.held) (sym (put_other g.threads t u now ne)) (other_log L u ne (g.threads u).own.held (old u) ev e))
      (cases_eq u t)

  -- ---- the rule
  module _ (hold : OnHold ((place_after code s earlier).threads one.thread).own.stage) (k : TellsAccess x code ls ((place_after code s earlier).threads one.thread) i found elements) (L : Newest) (told : LogTold code s L one.thread mine) (mutex : CellAt)
      (mode_is : mode_of code ((place_after code s earlier).threads one.thread) (cell_at code ((place_after code s earlier).threads one.thread) k.cell) (place_at code k.site).mode ≡ CellMode.Locked (Some mutex)) where
    abbrev mode : PlaceMode
    mode = (place_at code k.site).mode

    gate_now : GateStands s h.world one.thread ((place_after code s earlier).threads one.thread) (ls.at ((place_after code s earlier).threads one.thread).at.pc).gate
    gate_now = gate x code s ls wt fits g world h.state t on hold

    not_locked_mode : (p : PlaceMode) → mode ≡ p → (mode_of code ((place_after code s earlier).threads one.thread) (cell_at code ((place_after code s earlier).threads one.thread) k.cell) p ≡ CellMode.Locked (Some mutex) → ⊥) → ⊥
    not_locked_mode p e no_lock = no_lock (ap (mode_of code m (cell_at code m k.cell)) (sym e) ∙ mode_is)

    at_mode : (f : FieldMode) → MayAccess x code ls (ls.at ((place_after code s earlier).threads one.thread).at.pc) k.write k.cell k.field.holds f → IsMode code (ls.at ((place_after code s earlier).threads one.thread).at.pc) k.cell f mode → holds_in L one.thread mutex ≡ true
    at_mode FieldMode.Private may_do is = absurd (not_locked_mode _ is (λ e. let z : CellMode.Private ≡ CellMode.Locked (Some mutex) = e in cc))
    at_mode FieldMode.Readonly may_do is = absurd (not_locked_mode _ is (λ e. let z : CellMode.Readonly ≡ CellMode.Locked (Some mutex) = e in cc))
    at_mode FieldMode.Racy may_do is = absurd (not_locked_mode _ is (λ e. let z : CellMode.Racy ≡ CellMode.Locked (Some mutex) = e in cc))
    at_mode FieldMode.Dynamic may_do is = absurd (not_locked_mode _ is (λ e. let z : CellMode.Dynamic ≡ CellMode.Locked (Some mutex) = e in cc))
    at_mode (FieldMode.Under lock) may_do is =
        let d = may_do.0 in
        let there = mutex_cell cell_laws x code s ls wt fits g world h.state t on hold d may_do.1 may_do.3 in
        let held = (subst (GateStands s world t m) may_do.2 gate_now).1 in
        let names = mutex_names x code s ls wt fits g world h.state t on hold k.cell d lock mode mutex may_do.5 is mode_is there.there in
        held_told code s L t m.own.held (object m d) (place m d) mutex told there.apart held names
    at_mode (FieldMode.Behind field pointer) may_do is =
        let gt = subst (GateStands s world t m) may_do.2 gate_now in
        let q = through_is m.pending 0 mutex (lock_eq (lock_through m.pending 0) mutex (sym (ap (mode_of code m (cell_at code m k.cell)) is) ∙ mode_is)) in
        let apart = pending_apart cell_laws x code s ls wt fits g world h.state t on hold may_do.0 may_do.1 gt.0 may_do.3 may_do.4 (above m.pending q.1) in
        held_told code s L t m.own.held m.pending (cell_of m.pending 0) mutex told apart gt.2 (subst (λ c. Names code c m.pending (cell_of m.pending 0)) (sym q.0) (refl, q.1, refl))
      where
        above : (n : ℕ) → n ≢ 0 → 0 < n
        above zero ne = absurd (ne refl)
        above (suc n) ne = omega arith

    held_now : holds_in L one.thread mutex ≡ true
    held_now = at_mode k.field.mode k.accesses.may k.accesses.mode

  pub under_now : (L : Newest) → LogTold code s L one.thread mine → (e : SourceEvent) → event ≡ Some e → (a : Access) → IsAccess e a → (mutex : CellAt) → a.mode ≡ CellMode.Locked (Some mutex) → holds_in L e.thread mutex ≡ true
  under_now L told e said_is a is mutex mode_is =
      let q : access_said event ≡ Some a = ap access_said said_is ∙ is in
      elim (is_access i) as (λ b. is_access i ≡ b → holds_in L e.thread mutex ≡ true) [
        | true ↦ λ yes_.
            let hold = hold_access cell_laws pointers rights laws keeps x code s ls wt fits few one earlier h may yes_ in
            let k = access_of x code ls m i found elements yes_ (wt.fine m.at.pc) in
            let same : access_at code m k.cell k.site k.write ≡ a = let both : Some (access_at code m k.cell k.site k.write) ≡ Some a = sym k.said_is ∙ q in cc in
            ap (λ u. holds_in L u mutex) (thread_is e said_is) ∙ held_now hold k L told mutex (ap (λ (a : Access). a.mode) same ∙ mode_is)
        | false ↦ λ never. absurd (let f : None ≡ Some a = sym (no_access code m laws.turns.tells i found elements never) ∙ q in cc)
      ] refl

-- ---- runs
-- at each access under a lock the thread holds the mutex
abbrev pub UnderItsLock : History → SourceEvent → Access → Type 0
UnderItsLock before e a = (mutex : CellAt) → a.mode ≡ CellMode.Locked (Some mutex) → Rattle.sharc_meaning.specs.Events.holds_mutex (Rattle.sharc_meaning.specs.Events.events_of e.thread before) mutex ≡ true

pub record Locks (x : Targets) (code : Code) (s : Shape) (ls : Labels) (run : List Turn) : Type 0 where
  pub consists : Consists x code s ls run
  pub logs : (u : ℕ) → LogTold code s (newest code s run) u ((place_after code s run).threads u).own.held
  pub under : Each (OfAccess UnderItsLock) (history_of code s run)

module _ (cell_laws : CellsAreThere) (pointers : PointersAreThere) (rights : AccessesAreAllowed) (laws : RunLaws) (begins_law : CodeBegins) (keeps : Keeps) (x : Targets) (code : Code) (s : Shape) (ls : Labels) (wt : IsWellTyped x code ls) (fits : Fits code s) (few : IsSmall code s) where
  pub lock_runs : (run : List Turn) → IsRun bounds (one_thread code s) (opening_of bounds (one_thread code s) (opening_words code s)) run → Locks x code s ls run
  lock_runs run is =
      let k = over_runs cell_laws pointers laws begins_law keeps x code s ls wt fits few
      (λ run h L. record { logs : (u : ℕ) → LogTold code s L u ((place_after code s run).threads u).own.held; under : Each (OfAccess UnderItsLock) (reverse L) })
      (record { logs = λ u k is. absurd is; under = no_event (OfAccess UnderItsLock) })
      (λ one earlier h may _ old.
      let ev = said_now code (table_of code s earlier) ((place_after code s earlier).threads one.thread) (result_of one.event) in
      let L = newest code s earlier in
      record {
        logs = logs_then cell_laws pointers rights laws keeps x code s ls wt fits few one earlier h may L old.logs ev refl;
        under = each_pushed (OfAccess UnderItsLock) ev L old.under (λ e is a access mutex mode. under_now cell_laws pointers rights laws keeps x code s ls wt fits few one earlier h may L (old.logs one.thread) e is a access mutex mode);
      }) run is in
      record { consists = k.0; logs = k.1.logs; under = k.1.under }
