-- What a thread holds by its events is in its held log, so where a lock check is refused it does not hold the mutex.
use Rattle.sharc_history_laws.proofs.{Imports.{◌≡◌, ℕ, zero, suc, ◌+◌, ◌<◌, ◌⊎◌, inl, inr, Bool, true, false, not, cond, ◌||◌, ◌&&◌, length, List, [], ◌∷◌, ◌++◌, reverse, Option, Some, None, is_some, if◌then◌else◌, refl, sym, ap, ◌∙◌, subst, ⊎_elim, arith, eqb-true, cases_eq, nat_tests, nat_lt, ◌==◌, Act, SourceEvent, CellAt, HeldMutex, with_mutex, without, object_of, Code, Cell, Instr, Shape, NoLock, RunLaws, Fits, first_cell, words_of, cell_of, cell_word, Machine, ref, place, object, word, is_held, is_of_null, taken, stopped, MayStop, turn, after, may_go, Turn, MayTurn, after_turn, put, state_now, result_of, one_thread, bounds, place_after, said, cell_at, made_cell, said_now, MayFind, IsLock, IsMutex, IsApart, IsFree, table_of, same_cell, is_cell, locks, unlocks, is_of, Targets, Labels, IsWellTyped, IsSmall, Keeps, CodeBegins, CellsAreThere, PointersAreThere, AccessesAreAllowed, IsLockCheck, LacksLock, is_below, yes, not_true, put_same, put_other}, TurnAt.{RunOf, turn_at, told_at}, Consists.{Consists, own_turn}, Lists.Newest, Rules.{over_runs, pushed, newest}, Holding.{cell_eq, holds_in, holds_other, holds_own}, Mutexless.{mutex_said, not_locked}, Locked.{IsIn, all_in, Names, names_one, names_cell, one_place}, Locking.{cell_refl, is_own, is_others, word_is, lock_event, unlock_event, log_then}, Outcomes.{reports, halts}, Sole.stop_none, Threaded.{ThreadsTold, threads_then, nobody_yet}}

pub above : (n : ℕ) → (n == 0) ≡ false → 0 < n
above zero e = absurd (yes e)
above (suc n) e = omega arith

-- ---- entries of a log
pub is_logged : (log : List HeldMutex) (h : HeldMutex) → IsIn h log → is_some (object_of log h.word) ≡ true
is_logged [] h is = absurd is
is_logged (k ∷ log) h is = ⊎_elim
    (λ (e : k ≡ h). let w : k.word ≡ h.word = ap (λ (k : HeldMutex). k.word) e in let q : (k.word == h.word) ≡ true = grind (arith, nat_tests) in ap (λ b. is_some (if b then Some k.object else object_of log h.word)) q)
    (λ rest. or_later (k.word == h.word) (is_logged log h rest))
    is
  where
    or_later : (b : Bool) → is_some (object_of log h.word) ≡ true → is_some (if b then Some k.object else object_of log h.word) ≡ true
    or_later true e = refl
    or_later false e = e

in_kept : (log : List HeldMutex) (word : ℕ) (h : HeldMutex) → IsIn h log → (h.word ≡ word → ⊥) → IsIn h (without log word)
in_kept [] word h is ne = absurd is
in_kept (k ∷ log) word h is ne = elim (k.word == word) as (λ b. (k.word == word) ≡ b → IsIn h (cond (not b) (k ∷ without log word) (without log word))) [
  | true ↦ λ q. ⊎_elim (λ (e : k ≡ h). absurd (ne (ap (λ (k : HeldMutex). k.word) (sym e) ∙ eqb-true k.word word q))) (λ rest. in_kept log word h rest ne) is
  | false ↦ λ q. ⊎_elim (λ (e : k ≡ h). inl e) (λ rest. inr (in_kept log word h rest ne)) is
] refl

in_front : (log : List HeldMutex) (k h : HeldMutex) → IsIn h log → IsIn h (log ++ k ∷ [])
in_front [] k h is = absurd is
in_front (y ∷ log) k h is = ⊎_elim (λ (e : y ≡ h). inl e) (λ rest. inr (in_front log k h rest)) is

in_last : (log : List HeldMutex) (k : HeldMutex) → IsIn k (log ++ k ∷ [])
in_last [] k = inl refl
in_last (y ∷ log) k = inr (in_last log k)

parts : (l h u : Bool) → (l || (h && not u)) ≡ true → (l ≡ true) ⊎ ((h ≡ true) × (u ≡ false))
parts true h u e = inl refl
parts false true true e = absurd (yes (sym e))
parts false true false e = inr (refl, refl)
parts false false u e = absurd (yes (sym e))

-- ---- what the events say of the log
abbrev pub LogHas : Code → Shape → Newest → ℕ → List HeldMutex → Type 0
LogHas code s L t log = (c : CellAt) → holds_in L t c ≡ true → (h : HeldMutex) × IsIn h log × ((at : ℕ) × (h.word ≡ first_cell s + at) × Names code c h.object at)

-- ---- one turn
module _ (cell_laws : CellsAreThere) (pointers : PointersAreThere) (rights : AccessesAreAllowed) (laws : RunLaws) (keeps : Keeps) (x : Targets) (code : Code) (s : Shape) (ls : Labels) (wt : IsWellTyped x code ls) (fits : Fits code s) (few : IsSmall code s)
    (one : Turn) (earlier : List Turn) (h : Consists x code s ls earlier) (may : MayTurn bounds (one_thread code s) (place_after code s earlier) one) where
  open turn_at code s (place_after code s earlier) one use {g, t, m, i, found}
  open told_at code s earlier one use {elements, event}

  abbrev mine : List HeldMutex
  mine = ((place_after code s earlier).threads one.thread).own.held

  may_find : (j : Instr) → i ≡ j → MayFind code s (table_of code s earlier) ((place_after code s earlier).threads one.thread) found j
  may_find j e = subst (MayFind code s (table_of code s earlier) m found) e (own_turn laws keeps cell_laws pointers x code s ls wt fits few one earlier h may).finds

  own_event : (d : SourceEvent) → event ≡ Some d → is_of one.thread d ≡ true
  own_event d e = is_own cell_laws pointers rights laws keeps x code s ls wt fits few one earlier h may d e

  word_at : (c : Cell) → IsMutex code s ((place_after code s earlier).threads one.thread) c → word s ((place_after code s earlier).threads one.thread) c ≡ first_cell s + place ((place_after code s earlier).threads one.thread) c
  word_at c k = word_is cell_laws pointers rights laws keeps x code s ls wt fits few one earlier h may c k

  -- what is held after an event of the thread
  held_parts : (d : SourceEvent) → event ≡ Some d → (L : Newest) (c : CellAt) → holds_in (d ∷ L) one.thread c ≡ true → (locks c d ≡ true) ⊎ ((holds_in L one.thread c ≡ true) × (unlocks c d ≡ false))
  held_parts d e L c is = parts (locks c d) (holds_in L t c) (unlocks c d) (sym (holds_own d L t c (own_event d e)) ∙ is)

  has_quiet : (L : Newest) → LogHas code s L one.thread mine → (ev : Option SourceEvent) → event ≡ ev → mutex_said ev ≡ false → LogHas code s (pushed ev L) one.thread mine
  has_quiet L old None e quiet = old
  has_quiet L old (Some d) e quiet = λ c is.
      let a = not_locked d.act quiet in
      let l : locks c d ≡ false = ap (is_cell c) a.0 in
      ⊎_elim (λ (q : locks c d ≡ true). absurd (yes (sym q ∙ l))) (λ (k : (holds_in L t c ≡ true) × (unlocks c d ≡ false)). old c k.0) (held_parts d e L c is)

  has_lock : (L : Newest) → LogHas code s L one.thread mine → (c : Cell) → IsFree code s ((place_after code s earlier).threads one.thread) c → (d : SourceEvent) → event ≡ Some d → d.act ≡ Act.Lock (cell_at code ((place_after code s earlier).threads one.thread) c)
      → LogHas code s (d ∷ L) one.thread (taken ((place_after code s earlier).threads one.thread) (word s ((place_after code s earlier).threads one.thread) c) (object ((place_after code s earlier).threads one.thread) c))
  has_lock L old c free d e act_is named is =
      let new : HeldMutex = record { word = word s m c; object = object m c } in
      let room : nat_lt (length m.own.held) 16 ≡ true = is_below (length m.own.held) 16 free.room in
      let log_is : taken m (word s m c) (object m c) ≡ m.own.held ++ new ∷ [] =
      ap (λ b. if b then m.own.held else with_mutex m.own.held (word s m c) (object m c)) free.other ∙ ap (λ b. if b then m.own.held ++ new ∷ [] else m.own.held) room in
      let l : locks named d ≡ same_cell named (cell_at code m c) = ap (λ a. is_cell named (Rattle.sharc_meaning.specs.Events.locked_by a)) act_is in
      ⊎_elim
      (λ (q : locks named d ≡ true).
      let same : named ≡ cell_at code m c = cell_eq named (cell_at code m c) (sym l ∙ q) in
      (new, subst (IsIn new) (sym log_is) (in_last m.own.held new), (place m c, word_at c free.mutex, subst (λ y. Names code y (object m c) (place m c)) (sym same) (names_cell code m c free.mutex.there))))
      (λ (k : (holds_in L t named ≡ true) × (unlocks named d ≡ false)).
      let was = old named k.0 in
      (was.0, subst (IsIn was.0) (sym log_is) (in_front m.own.held new was.0 was.1), was.2))
      (held_parts d e L named is)

  -- an entry with the word of a mutex is that mutex's
  same_mutex : (c : Cell) → IsMutex code s ((place_after code s earlier).threads one.thread) c → (named : CellAt) (k : HeldMutex) → IsIn k mine → (at : ℕ) → k.word ≡ first_cell s + at → Names code named k.object at → k.word ≡ word s ((place_after code s earlier).threads one.thread) c
      → named ≡ cell_at code ((place_after code s earlier).threads one.thread) c
  same_mutex c mutex named k is at w names e =
      let b = word_at c mutex in
      let same_at : at ≡ place m c = omega arith in
      let o : k.object ≡ object m c = all_in (λ (k : HeldMutex). k.word ≡ first_cell s + place m c → k.object ≡ object m c) m.own.held k mutex.apart.apart is (e ∙ b) in
      names_one x code ls wt named (cell_at code m c) (object m c) (place m c) (subst (λ at. Names code named (object m c) at) same_at (subst (λ o. Names code named o at) o names)) (names_cell code m c mutex.there)

  has_unlock : (L : Newest) → LogHas code s L one.thread mine → (c : Cell) → IsMutex code s ((place_after code s earlier).threads one.thread) c → (d : SourceEvent) → event ≡ Some d → d.act ≡ Act.Unlock (cell_at code ((place_after code s earlier).threads one.thread) c)
      → LogHas code s (d ∷ L) one.thread (without mine (word s ((place_after code s earlier).threads one.thread) c))
  has_unlock L old c mutex d e act_is named is =
      let l : locks named d ≡ false = ap (λ a. is_cell named (Rattle.sharc_meaning.specs.Events.locked_by a)) act_is in
      let u : unlocks named d ≡ same_cell named (cell_at code m c) = ap (λ a. is_cell named (Rattle.sharc_meaning.specs.Events.unlocked_by a)) act_is in
      ⊎_elim
      (λ (q : locks named d ≡ true). absurd (yes (sym q ∙ l)))
      (λ (k : (holds_in L t named ≡ true) × (unlocks named d ≡ false)).
      let was = old named k.0 in
      let other : was.0.word ≡ word s m c → ⊥ = λ w.
      let same = same_mutex c mutex named was.0 was.1 was.2.0 was.2.1 was.2.2 w in
      yes (sym (ap (λ y. same_cell y (cell_at code m c)) same ∙ cell_refl (cell_at code m c)) ∙ sym u ∙ k.1) in
      (was.0, in_kept m.own.held (word s m c) was.0 was.1 other, was.2))
      (held_parts d e L named is)

  own_has : (L : Newest) → LogHas code s L one.thread mine → (ev : Option SourceEvent) → event ≡ ev → LogHas code s (pushed ev L) one.thread (after (turn code s ((place_after code s earlier).threads one.thread)) found).own.held
  own_has L old = log_then cell_laws pointers rights laws keeps x code s ls wt fits few one earlier h may (λ L. LogHas code s L t) L old (has_quiet L old)
      (λ c site is zero said_is. has_lock L old c (may_find (Instr.Lock c site) is zero) (lock_event cell_laws pointers rights laws keeps x code s ls wt fits few one earlier h may c site) said_is refl)
      (λ r c site is said_is. has_unlock L old c (may_find (Instr.Unlock r c site) is).mutex (unlock_event cell_laws pointers rights laws keeps x code s ls wt fits few one earlier h may c site) said_is refl)

  others_same : (ev : Option SourceEvent) → event ≡ ev → (L : Newest) (u : ℕ) → (u ≡ one.thread → ⊥) → (c : CellAt) → holds_in (pushed ev L) u c ≡ holds_in L u c
  others_same None e L u ne c = refl
  others_same (Some d) e L u ne c = holds_other d L u c (is_others cell_laws pointers rights laws keeps x code s ls wt fits few one earlier h may d e u ne)

  abbrev now : Machine
  now = after (turn code s ((place_after code s earlier).threads one.thread)) found

  abbrev machines : ℕ → Machine
  machines = (after_turn bounds (one_thread code s) (place_after code s earlier) one).threads

  -- a property of all threads
  all_then : (P : ℕ → Machine → Type 0) → P one.thread now → ((u : ℕ) → (u ≡ one.thread → ⊥) → P u ((place_after code s earlier).threads u)) → (u : ℕ) → P u ((after_turn bounds (one_thread code s) (place_after code s earlier) one).threads u)
  all_then P mine theirs u =
      let now = state_now (one_thread code s) g one in
      ⊎_elim
      (λ (same : u ≡ t). subst (λ u. P u (put g.threads t now u)) (sym same) (subst (P t) (sym (put_same g.threads t now)) mine))
      (λ (ne : u ≡ t → ⊥). subst (P u) (sym (put_other g.threads t u now ne)) (theirs u ne))
      (cases_eq u t)

  pub has_then : (L : Newest) → ((u : ℕ) → LogHas code s L u ((place_after code s earlier).threads u).own.held) → (ev : Option SourceEvent) → event ≡ ev
      → (u : ℕ) → LogHas code s (pushed ev L) u ((after_turn bounds (one_thread code s) (place_after code s earlier) one).threads u).own.held
  has_then L old ev e = all_then (λ u (y : Machine). LogHas code s (pushed ev L) u y.own.held) (own_has L (old t) ev e) (λ u ne c is. old u c (sym (others_same ev e L u ne c) ∙ is))

  -- ---- a refused check
  unheld : (L : Newest) → LogHas code s L one.thread mine → (c : Cell) → IsMutex code s ((place_after code s earlier).threads one.thread) c → is_held ((place_after code s earlier).threads one.thread) (word s ((place_after code s earlier).threads one.thread) c) ≡ false
      → holds_in L one.thread (cell_at code ((place_after code s earlier).threads one.thread) c) ≡ false
  unheld L old c mutex refused = not_true (holds_in L t (cell_at code m c)) (λ is.
      let k = old (cell_at code m c) is in
      let at = k.2.0 in
      let q : at ≡ place m c = one_place code (cell_at code m c).object (cell_at code m c).cell k.0.object (object m c) at (place m c) k.2.2 (names_cell code m c mutex.there) in
      let w : k.0.word ≡ word s m c = k.2.1 ∙ ap (λ n. first_cell s + n) q ∙ sym (word_at c mutex) in
      yes (sym (ap (λ n. is_some (object_of m.own.held n)) (sym w) ∙ is_logged m.own.held k.0 k.1) ∙ refused))

  unheld_pending : (L : Newest) → LogHas code s L one.thread mine → (n : ℕ) → IsApart s mine n (cell_of n 0) → is_held ((place_after code s earlier).threads one.thread) (cell_word s (cell_of n 0)) ≡ false
      → holds_in L one.thread (made_cell n 0) ≡ false
  unheld_pending L old n apart refused = not_true (holds_in L t (made_cell n 0)) (λ is.
      let k = old (made_cell n 0) is in
      let q = k.2.2.2 in
      let inside : nat_lt (first_cell s + cell_of n 0) (words_of s) ≡ true = is_below (first_cell s + cell_of n 0) (words_of s) apart.inside in
      let w : k.0.word ≡ cell_word s (cell_of n 0) = k.2.1 ∙ ap (λ n. first_cell s + n) q ∙ sym (ap (λ b. if b then first_cell s + cell_of n 0 else 0) inside) in
      yes (sym (ap (λ n. is_some (object_of m.own.held n)) (sym w) ∙ is_logged m.own.held k.0 k.1) ∙ refused))

  -- ---- the stop of the turn
  module _ (L : Newest) (old : LogHas code s L one.thread mine) (fresh : ((place_after code s earlier).threads one.thread).own.stop ≡ None) where
    abbrev Shows : Machine → Type 0
    Shows y = (site word : ℕ) → y.own.stop ≡ Some (NoLock site word) → LacksLock code (reverse (pushed event L)) one.thread y site

    mutex_of : (c : Cell) → IsLock code s ((place_after code s earlier).threads one.thread) c → is_of_null ((place_after code s earlier).threads one.thread) c ≡ false → IsMutex code s ((place_after code s earlier).threads one.thread) c
    mutex_of (Cell.Global q p) k e = k
    mutex_of (Cell.GlobalAt q r) k e = k
    mutex_of (Cell.Object r p) k e = k (above (ref m r) e)
    mutex_of (Cell.ObjectAt r q) k e = k (above (ref m r) e)

    lacks_cell : (c : Cell) (at mutex : ℕ) → i ≡ Instr.ChkLock c at → IsMutex code s ((place_after code s earlier).threads one.thread) c → is_held ((place_after code s earlier).threads one.thread) (word s ((place_after code s earlier).threads one.thread) c) ≡ false
        → LacksLock code (reverse (pushed event L)) one.thread (stopped ((place_after code s earlier).threads one.thread) (NoLock at mutex)) at
    lacks_cell c at mutex is k refused =
        let none : event ≡ None = ap (λ j. said code j m found elements) is in
        record {
          mutex = cell_at code m c;
          check = subst (λ j. IsLockCheck code (stopped m (NoLock at mutex)) j at (cell_at code m c)) (sym is) (refl, same_cell_at c);
          unheld = ap (λ ev. holds_in (pushed ev L) t (cell_at code m c)) none ∙ unheld L old c k refused;
        }
      where
        same_cell_at : (c : Cell) → cell_at code ((place_after code s earlier).threads one.thread) c ≡ cell_at code (stopped ((place_after code s earlier).threads one.thread) (NoLock at mutex)) c
        same_cell_at (Cell.Global q p) = refl
        same_cell_at _ = refl

    lacks_loaded : (at mutex : ℕ) → i ≡ Instr.ChkLockLoaded at → IsApart s mine ((place_after code s earlier).threads one.thread).pending (cell_of ((place_after code s earlier).threads one.thread).pending 0)
        → is_held ((place_after code s earlier).threads one.thread) (cell_word s (cell_of ((place_after code s earlier).threads one.thread).pending 0)) ≡ false
        → LacksLock code (reverse (pushed event L)) one.thread (stopped ((place_after code s earlier).threads one.thread) (NoLock at mutex)) at
    lacks_loaded at mutex is k refused =
        let none : event ≡ None = ap (λ j. said code j m found elements) is in
        record {
          mutex = made_cell m.pending 0;
          check = subst (λ j. IsLockCheck code (stopped m (NoLock at mutex)) j at (made_cell m.pending 0)) (sym is) (refl, refl);
          unheld = ap (λ ev. holds_in (pushed ev L) t (made_cell m.pending 0)) none ∙ unheld_pending L old m.pending k refused;
        }

    pub shows : Shows now
    shows site word is =
        let k = reports s i found m now (laws.turns.outcomes code s i m found) (NoLock site word) refl fresh is in
        subst (λ y. LacksLock code (reverse (pushed event L)) t y site) (sym k.1) (by k.0)
      where
        by : MayStop s i ((place_after code s earlier).threads one.thread) found (NoLock site word) → LacksLock code (reverse (pushed event L)) one.thread (stopped ((place_after code s earlier).threads one.thread) (NoLock site word)) site
        by (inl k) = lacks_cell k.0 site word k.1 (mutex_of k.0 (may_find (Instr.ChkLock k.0 site) k.1) k.2) (subst (λ w. is_held m w ≡ false) k.3 k.4)
        by (inr k) = lacks_loaded site word k.0 (may_find (Instr.ChkLockLoaded site) k.0 (above m.pending k.1)) (subst (λ w. is_held m w ≡ false) k.2 k.3)

  -- all threads
  abbrev ShowsOf : Newest → ℕ → Machine → Type 0
  ShowsOf L u y = (site word : ℕ) → y.own.stop ≡ Some (NoLock site word) → LacksLock code (reverse L) u y site

  pub shows_then : (L : Newest) → ((u : ℕ) → LogHas code s L u ((place_after code s earlier).threads u).own.held) → ((place_after code s earlier).threads one.thread).own.stop ≡ None
      → ((u : ℕ) → ShowsOf L u ((place_after code s earlier).threads u)) → (u : ℕ) → ShowsOf (pushed event L) u ((after_turn bounds (one_thread code s) (place_after code s earlier) one).threads u)
  shows_then L has fresh old = all_then (ShowsOf (pushed event L)) (shows L (has t) fresh) (λ u ne site word is.
      let k = old u site word is in
      record { mutex = k.mutex; check = k.check; unheld = others_same event refl L u ne k.mutex ∙ k.unheld })

  pub halts_then : ((place_after code s earlier).threads one.thread).own.stop ≡ None
      → ((u : ℕ) → is_some ((place_after code s earlier).threads u).own.stop ≡ true → may_go ((place_after code s earlier).threads u).at.state ≡ false)
      → (u : ℕ) → is_some ((after_turn bounds (one_thread code s) (place_after code s earlier) one).threads u).own.stop ≡ true → may_go ((after_turn bounds (one_thread code s) (place_after code s earlier) one).threads u).at.state ≡ false
  halts_then fresh old = all_then (λ u (y : Machine). is_some y.own.stop ≡ true → may_go y.at.state ≡ false) (halts s i found m now (laws.turns.outcomes code s i m found) fresh) (λ u ne. old u)

-- ---- runs
-- what the logs, the stops and the threads of a run say of the events so far
pub record Lacking (code : Code) (s : Shape) (run : List Turn) (L : Newest) : Type 0 where
  pub has : (u : ℕ) → LogHas code s L u ((place_after code s run).threads u).own.held
  pub halts : (u : ℕ) → is_some ((place_after code s run).threads u).own.stop ≡ true → may_go ((place_after code s run).threads u).at.state ≡ false
  pub shows : (u site word : ℕ) → ((place_after code s run).threads u).own.stop ≡ Some (NoLock site word) → LacksLock code (reverse L) u ((place_after code s run).threads u) site
  pub threads : ThreadsTold L (place_after code s run)

module _ (cell_laws : CellsAreThere) (pointers : PointersAreThere) (rights : AccessesAreAllowed) (laws : RunLaws) (begins_law : CodeBegins) (keeps : Keeps) (x : Targets) (code : Code) (s : Shape) (ls : Labels) (wt : IsWellTyped x code ls) (fits : Fits code s) (few : IsSmall code s) where
  pub lacking : (run : List Turn) → RunOf code s run → (h : Consists x code s ls run) × Lacking code s run (newest code s run)
  lacking = over_runs cell_laws pointers laws begins_law keeps x code s ls wt fits few (λ run h L. Lacking code s run L)
      (record {
        has = λ u c is. absurd (yes (sym is));
        halts = λ u is. absurd (yes (sym is));
        shows = λ u site word is. absurd (let f : None ≡ Some (NoLock site word) = is in cc);
        threads = nobody_yet (place_after code s []) (λ t is. yes (sym is));
      })
      (λ one earlier h may _ old.
      let L = newest code s earlier in
      let ev = said_now code (table_of code s earlier) ((place_after code s earlier).threads one.thread) (result_of one.event) in
      let fresh = stop_none ((place_after code s earlier).threads one.thread).own.stop (λ is. yes (sym may.next.runs ∙ old.halts one.thread is)) in
      record {
        has = has_then cell_laws pointers rights laws keeps x code s ls wt fits few one earlier h may L old.has ev refl;
        halts = halts_then cell_laws pointers rights laws keeps x code s ls wt fits few one earlier h may fresh old.halts;
        shows = shows_then cell_laws pointers rights laws keeps x code s ls wt fits few one earlier h may L old.has fresh old.shows;
        threads = threads_then cell_laws pointers rights laws keeps x code s ls wt fits few one earlier h may L old.threads;
      })
