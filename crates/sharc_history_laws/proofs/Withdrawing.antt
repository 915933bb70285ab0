-- From which granules a thread has withdrawn, after each turn.
use Rattle.sharc_history_laws.proofs.{Imports.{◌≡◌, ℕ, zero, suc, ◌+◌, ◌<◌, ◌≤◌, Bool, true, false, ◌||◌, length, List, [], ◌∷◌, Option, Some, None, is_some, if◌then◌else◌, refl, sym, ap, ◌∙◌, subst, ⊎_elim, arith, eqb-true, cases_eq, not_true as unset, nat_tests, slice_index, slice_index_or, take, nat_lt, ◌==◌, list_any, Kind, Read, Write, Note, GranuleNotes, blank, has_note, of_kind, ListsNoted, note_of, site_at, Code, Instr, Shape, Stage, Clears, FreeClears, Withdraws, WithdrawsFrom, Leaves, granules, granule_at, Machine, act, exit, withdraws, withdrew, at_stage, row_of, ref, TurnsComeOut, is_exit, turn, after, Turn, Global, MayTurn, state_now, result_of, one_thread, bounds, Touch, Untouched, CheckOf, WithdrawOf, cleared_by, freed_by, withdrawn_by, touch_of, Heap, Labels, touch_at, State, StageStands, OnExit, Targets, has_withdrawn, is_withdrawing, is_ended, World, same_is, yes, same_or, or_right, put_same, row_low, at_low}, TurnAt.turn_at, Outcomes.{unended, withdraws_still, going_on}}
use Rattle.sharc_heap.specs.Accesses.{Accesses}

-- the thread has withdrawn from the granule
abbrev pub has_left : Machine → ℕ → Bool
has_left m p = has_withdrawn m.own.stage m.own.table.order (is_ended m.at.state) p

-- ---- rows
abbrev among : ℕ → ℕ → List ℕ → Bool
among p n order = list_any (λ h. p == h) (take n order)

in_first : (order : List ℕ) (n i p : ℕ) → i < n → i < length order → slice_index order i ≡ p → among p n order ≡ true
in_first [] n i p lt on e = absurd (omega arith)
in_first (h ∷ order) zero i p lt on e = absurd (omega arith)
in_first (h ∷ order) (suc n) zero p lt on e = let q : (p == h) ≡ true = ap (λ h. p == h) e ∙ same_is p in rw q refl
in_first (h ∷ order) (suc n) (suc i) p lt on e =
    let r = in_first order n i p (omega arith) (omega arith) e in
    elim (p == h) as (λ b. (b || among p n order) ≡ true) [ true ↦ refl | false ↦ r ]

pub record IsAmong (order : List ℕ) (n p : ℕ) : Type 0 where
  pub row : ℕ
  pub before : row < n
  pub on : row < length order
  pub is : slice_index order row ≡ p

of_first : (order : List ℕ) (n p : ℕ) → among p n order ≡ true → IsAmong order n p
of_first [] zero p e = absurd (yes (sym e))
of_first [] (suc n) p e = absurd (yes (sym e))
of_first (h ∷ order) zero p e = absurd (yes (sym e))
of_first (h ∷ order) (suc n) p e = elim (p == h) as (λ b. (p == h) ≡ b → (b || among p n order) ≡ true → IsAmong (h ∷ order) (suc n) p) [
  | true ↦ λ q _. record { row = 0; before = omega arith; on = omega arith; is = sym (eqb-true p h q) }
  | false ↦ λ _ r. let k = of_first order n p r in let a = k.before in let b = k.on in record { row = suc k.row; before = omega arith; on = omega arith; is = k.is }
] refl e

more_first : (order : List ℕ) (n p : ℕ) → among p n order ≡ true → among p (n + 1) order ≡ true
more_first order n p e = let k = of_first order n p e in let a = k.before in in_first order (n + 1) k.row p (omega arith) k.on k.is

-- ---- notes are listed
some_read : (a : GranuleNotes) (n : Note) → of_kind Read a ≡ Some n → has_note a ≡ true
some_read a n e = ap (λ (o : Option Note). is_some o || is_some a.write) e

some_write : (a : GranuleNotes) (n : Note) → of_kind Write a ≡ Some n → has_note a ≡ true
some_write a n e = ap (λ (o : Option Note). is_some a.read || is_some o) e ∙ or_right (is_some a.read) true refl

some_note : (a : GranuleNotes) (kind : Kind) (n : Note) → of_kind kind a ≡ Some n → has_note a ≡ true
some_note a Read n e = some_read a n e
some_note a Write n e = some_write a n e

of_site : (o : Option Note) (e z : ℕ) → site_at o e ≡ Some z → (n : Note) × (o ≡ Some n)
of_site None e z h = absurd (let f : None ≡ Some z = h in cc)
of_site (Some n) e z h = (n, refl)

-- a granule with a note is in a row
listed : (table : Accesses) → ListsNoted table → (p : ℕ) (kind : Kind) (e z : ℕ) → site_at (note_of table p kind) e ≡ Some z → IsAmong table.order (length table.order) p
listed table lists p kind e z h =
    let n = of_site (note_of table p kind) e z h in
    let c = lists.all p (some_note (slice_index_or table.notes p blank) kind n.0 n.1) in
    record { row = c.0; before = c.1; on = c.1; is = same_or table.order c.0 0 p c.1 ∙ c.2 }

-- ---- stages of other instructions
not_exit : (P : Type 0) (i : Instr) → is_exit i ≡ false → OnExit P i → ⊥
not_exit P Instr.Exit e h = yes e
not_exit P _ e h = h

calm_stage : (code : Code) (s : Shape) (elements : ℕ → ℕ) (w : World) (heap : Heap) (words : List ℕ) (t : ℕ) (m : Machine) (i : Instr) (y : Stage) → is_exit i ≡ false → StageStands code s elements w heap words t m i y → is_withdrawing y ≡ false
calm_stage code s elements w heap words t m i (Withdraws row) e h = absurd (not_exit _ i e h)
calm_stage code s elements w heap words t m i (WithdrawsFrom row seen) e h = absurd (not_exit _ i e h)
calm_stage code s elements w heap words t m i Leaves e h = absurd (not_exit _ i e h)
calm_stage code s elements w heap words t m i _ e h = refl

calm_left : (y : Stage) (order : List ℕ) (ended : Bool) (p : ℕ) → is_withdrawing y ≡ false → has_withdrawn y order ended p ≡ ended
calm_left (Withdraws row) order ended p e = absurd (yes e)
calm_left (WithdrawsFrom row seen) order ended p e = absurd (yes e)
calm_left Leaves order ended p e = absurd (yes e)
calm_left _ order ended p e = refl

-- ---- one turn
module _ (outs : TurnsComeOut) (x : Targets) (code : Code) (s : Shape) (ls : Labels) (g : Global Machine) (world : World) (st : State x code s ls g world) (tr : Turn) (may : MayTurn bounds (one_thread code s) g tr) where
  open turn_at code s g tr use {t, m, i, found, m'}

  abbrev order : List ℕ
  order = (g.threads tr.thread).own.table.order

  lists : ListsNoted (g.threads tr.thread).own.table
  lists = (st.threads t).has.table

  going' : is_ended (g.threads tr.thread).at.state ≡ false
  going' = going_on m.at.state may.next.runs

  -- a thread with notes there
  abbrev pub Noted : ℕ → Type 0
  Noted p = (kind : Kind) × (e : ℕ) × (z : ℕ) × (site_at (note_of (g.threads tr.thread).own.table p kind) e ≡ Some z)

  -- what the turn does, to the machine y and to the shadow words
  pub record Leaving (touch : Touch) (y : Machine) : Type 0 where
    -- a thread that has withdrawn has so still
    pub still : (p : ℕ) → has_left (g.threads tr.thread) p ≡ true → has_left y p ≡ true
    -- the granule from which it withdraws is none from which it had
    pub once : (q : ℕ) → touch ≡ WithdrawOf q → has_left (g.threads tr.thread) q ≡ false
    pub then_ : (q : ℕ) → touch ≡ WithdrawOf q → has_left y q ≡ true
    -- from others that it has notes of it has withdrawn only where it had
    pub others : (p : ℕ) → (touch ≡ WithdrawOf p → ⊥) → Noted p → has_left (g.threads tr.thread) p ≡ false → has_left y p ≡ false
    -- a thread that makes a check has withdrawn from none
    pub checks : (kind : Kind) (q : ℕ) (ok : Bool) → touch ≡ CheckOf kind q ok → (p : ℕ) → has_left y p ≡ false

  plain : (touch : Touch) (y : Machine) → ((q : ℕ) → touch ≡ WithdrawOf q → ⊥) → ((p : ℕ) → has_left (g.threads tr.thread) p ≡ false) → ((p : ℕ) → has_left y p ≡ false) → Leaving touch y
  plain touch y never before then_ = record {
    still = λ p e. absurd (yes (sym e ∙ before p));
    once = λ q e. absurd (never q e);
    then_ = λ q e. absurd (never q e);
    others = λ p _ _ _. then_ p;
    checks = λ _ _ _ _ p. then_ p;
  }

  alike : (touch : Touch) (y : Machine) → ((q : ℕ) → touch ≡ WithdrawOf q → ⊥) → ((kind : Kind) (q : ℕ) (ok : Bool) → touch ≡ CheckOf kind q ok → ⊥) → ((p : ℕ) → has_left y p ≡ has_left (g.threads tr.thread) p) → Leaving touch y
  alike touch y never unchecked same = record {
    still = λ p e. same p ∙ e;
    once = λ q e. absurd (never q e);
    then_ = λ q e. absurd (never q e);
    others = λ p _ _ e. same p ∙ e;
    checks = λ kind q ok e. absurd (unchecked kind q ok e);
  }

  -- the row that comes next
  module _ (row : ℕ) (le : row ≤ length order) where
    to_row : (p : ℕ) → among p row order ≡ true → has_left (withdraws (g.threads tr.thread) row) p ≡ true
    to_row p e = elim (nat_lt row (length order)) as (λ b. has_left (if b then at_stage m (Withdraws row) else at_stage m Leaves) p ≡ true) [ true ↦ e | false ↦ refl ]

    from_row : (p : ℕ) → Noted p → among p row order ≡ false → has_left (withdraws (g.threads tr.thread) row) p ≡ false
    from_row p noted e = elim (nat_lt row (length order)) as (λ b. nat_lt row (length order) ≡ b → has_left (if b then at_stage m (Withdraws row) else at_stage m Leaves) p ≡ false) [
      | true ↦ λ _. e
      | false ↦ λ q.
          let k = listed m.own.table lists p noted.0 noted.1 noted.2 noted.3 in
          let lt = k.on in
          let all : row ≡ length order = last row (length order) le q in
          absurd (yes (sym (in_first order row k.row p (subst (λ n. k.row < n) (sym all) k.on) k.on k.is) ∙ e))
    ] refl
      where
        last : (a b : ℕ) → a ≤ b → nat_lt a b ≡ false → a ≡ b
        last a b le e = grind (arith, nat_tests)

  is_at : (y : Machine) → after (turn code s (g.threads tr.thread)) (result_of tr.event) ≡ y → m' ≡ y
  is_at y e = put_same g.threads tr.thread (state_now (one_thread code s) g tr) ∙ e

  -- a turn of Exit
  abbrev StageAt : Stage → Type 0
  StageAt y = StageStands code s st.elements world st.heap g.words tr.thread (g.threads tr.thread) Instr.Exit y

  at_stage_left : (y : Stage) → (g.threads tr.thread).own.stage ≡ y → (p : ℕ) → has_left (g.threads tr.thread) p ≡ has_withdrawn y order (is_ended (g.threads tr.thread).at.state) p
  at_stage_left y e p = ap (λ y. has_withdrawn y order (is_ended m.at.state) p) e

  to_withdrew : (row seen : ℕ) → (g.threads tr.thread).own.stage ≡ WithdrawsFrom row seen → row < length order → Leaving (withdrawn_by s (g.threads tr.thread) found (WithdrawsFrom row seen)) (withdrew (g.threads tr.thread) row seen found)
  to_withdrew row seen at lt =
      let n = row_of m row in
      let low : n < granules s = subst (λ k. n < k) (st.threads t).has.notes (row_low m.own.table lists row lt) in
      let q = granule_at s n in
      let q_is : q ≡ n = at_low s n low in
      let here : (p : ℕ) → has_left m p ≡ among p row order = at_stage_left (WithdrawsFrom row seen) at in
      elim (found == seen) as (λ b. Leaving (if b then WithdrawOf q else Untouched) (if b then withdraws m (row + 1) else at_stage m (WithdrawsFrom row found))) [
        | true ↦ record {
          still = λ p e. to_row (row + 1) (omega arith) p (more_first order row p (sym (here p) ∙ e));
          once = λ p e.
              let same : p ≡ n = cc in
              here p ∙ unset (among p row order) (λ z.
              let k = of_first order row p z in
              lists.once k.row row 0 k.before lt (k.is ∙ same));
          then_ = λ p e. let same : p ≡ n = cc in to_row (row + 1) (omega arith) p (in_first order (row + 1) row p (omega arith) lt (sym same));
          others = λ p ne noted e. from_row (row + 1) (omega arith) p noted (unset (among p (row + 1) order) (λ z.
              let k = of_first order (row + 1) p z in
              let before = k.before in
              ⊎_elim
              (λ (last : k.row ≡ row). ne (ap WithdrawOf (q_is ∙ sym (ap (slice_index order) last) ∙ k.is)))
              (λ (other : k.row ≡ row → ⊥). yes (sym (in_first order row k.row p (less k.row row before other) k.on k.is) ∙ sym (here p) ∙ e))
              (cases_eq k.row row)));
          checks = λ kind p ok e _. cc;
        }
        | false ↦ alike Untouched (at_stage m (WithdrawsFrom row found)) (λ q e. cc) (λ kind q ok e. cc) (λ p. sym (here p))
      ]
    where
      less : (a b : ℕ) → a < b + 1 → (a ≡ b → ⊥) → a < b
      less a b lt ne = grind (arith, nat_tests)

  to_first : (y : Stage) → (g.threads tr.thread).own.stage ≡ y → is_withdrawing y ≡ false → Leaving Untouched (withdraws (g.threads tr.thread) 0)
  to_first y at calm =
      let none : (p : ℕ) → has_left m p ≡ false = λ p. at_stage_left y at p ∙ calm_left y order (is_ended m.at.state) p calm ∙ going' in
      record {
        still = λ p e. absurd (yes (sym e ∙ none p));
        once = λ q e. cc;
        then_ = λ q e. cc;
        others = λ p _ noted _. from_row 0 (omega arith) p noted (nothing p order);
        checks = λ kind q ok e p. cc;
      }
    where
      nothing : (p : ℕ) (xs : List ℕ) → among p 0 xs ≡ false
      nothing p [] = refl
      nothing p (h ∷ xs) = refl

  to_exit : (y : Stage) → (g.threads tr.thread).own.stage ≡ y → StageAt y → Leaving (withdrawn_by s (g.threads tr.thread) found y) (after (exit s (g.threads tr.thread) y) found)
  to_exit (Withdraws row) at h = alike Untouched (at_stage m (WithdrawsFrom row found)) (λ q e. cc) (λ kind q ok e. cc) (λ p. sym (at_stage_left (Withdraws row) at p))
  to_exit (WithdrawsFrom row seen) at h = to_withdrew row seen at h
  to_exit Leaves at h = record {
    still = λ p e. refl;
    once = λ q e. cc;
    then_ = λ q e. cc;
    others = λ p _ _ e. absurd (yes (sym (at_stage_left Leaves at p) ∙ e));
    checks = λ kind q ok e p. cc;
  }
  to_exit y at h = to_first y at refl

  other_touch : (j : Instr) → is_exit j ≡ false → (q : ℕ) → touch_of s j (g.threads tr.thread) found m' ≡ WithdrawOf q → ⊥
  other_touch (Instr.Clear r count) e q h = cleared m.own.stage h
    where
      cleared : (y : Stage) → cleared_by s (ref (g.threads tr.thread) r) y ≡ WithdrawOf q → ⊥
      cleared (Clears done all seen) h = cc
      cleared _ h = cc
  other_touch (Instr.Free r layout site) e q h = freed m.own.stage h
    where
      freed : (y : Stage) → freed_by s (ref (g.threads tr.thread) r) y ≡ WithdrawOf q → ⊥
      freed (FreeClears done all seen) h = cc
      freed _ h = cc
  other_touch Instr.Exit e q h = yes e
  other_touch _ e q h = cc

  other : is_exit i ≡ false → Leaving (touch_at code s g tr) m'
  other e =
      let calm = calm_stage code s st.elements world st.heap g.words t m i m.own.stage e ((st.threads t).runs may.started may.next.runs).stage in
      let out = outs code s i m found in
      let y = after (turn code s m) found in
      let y_calm : is_withdrawing y.own.stage ≡ false = unset (is_withdrawing y.own.stage) (λ z. yes (sym (withdraws_still s i found m _ out e z) ∙ calm)) in
      plain (touch_at code s g tr) m' (other_touch i e)
      (λ p. calm_left m.own.stage order (is_ended m.at.state) p calm ∙ going')
      (λ p. ap (λ (z : Machine). has_left z p) (is_at y refl) ∙ calm_left y.own.stage y.own.table.order (is_ended y.at.state) p y_calm ∙ unended s i found m _ out e)

  pub leaving : Leaving (touch_at code s g tr) m'
  leaving = by i refl
    where
      by : (j : Instr) → i ≡ j → Leaving (touch_at code s g tr) m'
      by Instr.Exit is =
          let k = to_exit m.own.stage refl (subst (λ j. StageStands code s st.elements world st.heap g.words t m j m.own.stage) is ((st.threads t).runs may.started may.next.runs).stage) in
          subst (λ (y : Machine). Leaving (touch_at code s g tr) y) (sym (is_at (after (exit s m m.own.stage) found) (ap (λ j. after (act code s j m) found) is)))
          (subst (λ touch. Leaving touch (after (exit s m m.own.stage) found)) (sym (ap (λ j. touch_of s j m found m') is)) k)
      by j is = other (ap is_exit is)
