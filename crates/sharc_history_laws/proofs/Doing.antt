-- What a turn does to the access table of its thread and whether it stops the thread at the check of an access.
use Rattle.sharc_history_laws.proofs.{Imports.{◌≡◌, ℕ, zero, suc, ◌+◌, ◌<◌, ◌⊎◌, inl, inr, Bool, true, false, length, List, [], ◌∷◌, Option, Some, None, is_some, if◌then◌else◌, refl, sym, ap, ◌∙◌, ⊎_elim, arith, cases_eq, get_or-set_other, slice_index, slice_index_or, slice_set, ◌==◌, Kind, Read, Write, Note, GranuleNotes, blank, of_kind, note_of, site_at, epoch_of, bits_of, conflicts_in, noted, WordOp, Code, Cell, Instr, Shape, ConflictAt, Stage, Clears, FreeClears, WithdrawsFrom, Conflict, granules, first_shadow, granule_at, granule_of, shadow_word, TurnsComeOut, check_of, Machine, Own, instr_at, act, place, ref, row_of, checked, stopped, with_own, wrote, step_of, turn, after, may_go, asked_by, Turn, Global, MayTurn, after_turn, state_now, result_of, one_thread, bounds, Touch, Untouched, CheckOf, WithdrawOf, cleared_by, freed_by, withdrawn_by, touch_of, touch_at, yes, same_is, put_same, granule_low}, TurnAt.turn_at, Consists.found_is, Outcomes.{is_access_check, is_check, tabled, reports}}
use Rattle.sharc_heap.specs.{Notes.with_note, Accesses.Accesses}
use Rattle.sharc_code.specs.Machine as machines

-- ---- tables
pub set_most : (xs : List GranuleNotes) (q : ℕ) (v : GranuleNotes) → (slice_index_or (slice_set xs q v) q blank ≡ v) ⊎ (slice_index_or (slice_set xs q v) q blank ≡ slice_index_or xs q blank)
set_most [] q v = inr refl
set_most (x ∷ xs) zero v = inl refl
set_most (x ∷ xs) (suc q) v = set_most xs q v

set_there : (xs : List GranuleNotes) (q : ℕ) (v : GranuleNotes) → q < length xs → slice_index_or (slice_set xs q v) q blank ≡ v
set_there [] q v lt = absurd (omega arith)
set_there (x ∷ xs) zero v lt = refl
set_there (x ∷ xs) (suc q) v lt = set_there xs q v (omega arith)

kind_own : (k : Kind) (n : Note) (row : GranuleNotes) → of_kind k (with_note k n row) ≡ Some n
kind_own Read n row = refl
kind_own Write n row = refl

kind_other : (k kind : Kind) (n : Note) (row : GranuleNotes) → (kind ≡ k → ⊥) → of_kind kind (with_note k n row) ≡ of_kind kind row
kind_other Read Read n row ne = absurd (ne refl)
kind_other Read Write n row ne = refl
kind_other Write Read n row ne = refl
kind_other Write Write n row ne = absurd (ne refl)

same_kinds : (a b : Kind) → (a ≡ b) ⊎ (a ≡ b → ⊥)
same_kinds Read Read = inl refl
same_kinds Read Write = inr (λ e. cc)
same_kinds Write Read = inr (λ e. cc)
same_kinds Write Write = inl refl

note_there : (table : Accesses) (q : ℕ) (k : Kind) (n : Note) → q < length table.notes → note_of (noted table q k n) q k ≡ Some n
unfolding noted
note_there table q k n lt = ap (of_kind k) (set_there table.notes q (with_note k n (slice_index_or table.notes q blank)) lt) ∙ kind_own k n (slice_index_or table.notes q blank)

note_else : (table : Accesses) (q p : ℕ) (k kind : Kind) (n : Note) → (p ≡ q → kind ≡ k → ⊥) → note_of (noted table q k n) p kind ≡ note_of table p kind
unfolding noted
note_else table q p k kind n ne = ⊎_elim
    (λ (same : p ≡ q).
    let row = slice_index_or table.notes q blank in
    let at : of_kind kind (slice_index_or (slice_set table.notes q (with_note k n row)) q blank) ≡ of_kind kind row = ⊎_elim
    (λ (new : slice_index_or (slice_set table.notes q (with_note k n row)) q blank ≡ with_note k n row). ap (of_kind kind) new ∙ kind_other k kind n row (ne same))
    (λ (was : slice_index_or (slice_set table.notes q (with_note k n row)) q blank ≡ row). ap (of_kind kind) was)
    (set_most table.notes q (with_note k n row)) in
    ap (λ p. of_kind kind (slice_index_or (slice_set table.notes q (with_note k n row)) p blank)) same ∙ at ∙ ap (λ p. of_kind kind (slice_index_or table.notes p blank)) (sym same))
    (λ (other : p ≡ q → ⊥). ap (of_kind kind) (get_or-set_other table.notes q p (with_note k n (slice_index_or table.notes q blank)) blank other))
    (cases_eq p q)

note_here : (table : Accesses) (q : ℕ) (k : Kind) (n note : Note) → note_of (noted table q k n) q k ≡ Some note → (n ≡ note) ⊎ (note_of table q k ≡ Some note)
unfolding noted
note_here table q k n note is =
    let row = slice_index_or table.notes q blank in
    ⊎_elim
    (λ (new : slice_index_or (slice_set table.notes q (with_note k n row)) q blank ≡ with_note k n row).
    let f : Some n ≡ Some note = sym (kind_own k n row) ∙ sym (ap (of_kind k) new) ∙ is in inl (let y : n ≡ note = cc in y))
    (λ (was : slice_index_or (slice_set table.notes q (with_note k n row)) q blank ≡ row). inr (sym (ap (of_kind k) was) ∙ is))
    (set_most table.notes q (with_note k n row))

-- ---- a check that passed and is noted
module _ (own : Own) (q : ℕ) (k : Kind) (e site : ℕ) where
  abbrev new_note : Note
  new_note = record { epoch = e; site = site }

  abbrev has : Bool
  has = is_some (site_at (note_of own.table q k) e)

  abbrev with_it : Bool → Own
  with_it b = if b then own else record own { table = noted own.table q k new_note }

  none_some : (o : Option ℕ) (z : ℕ) → is_some o ≡ false → o ≡ Some z → ⊥
  none_some None z b is = let f : None ≡ Some z = is in cc
  none_some (Some y) z b is = yes b

  -- a note of the epoch stays
  pub site_still : (p : ℕ) (kind : Kind) (ep z : ℕ) → (p ≡ q → ep ≡ e) → site_at (note_of own.table p kind) ep ≡ Some z → site_at (note_of (machines.with_note own q k e site).table p kind) ep ≡ Some z
  site_still p kind ep z epoch is = elim has as (λ b. has ≡ b → site_at (note_of (with_it b).table p kind) ep ≡ Some z) [
    | true ↦ λ _. is
    | false ↦ λ none.
        let differ : p ≡ q → kind ≡ k → ⊥ = λ same kinds.
        none_some (site_at (note_of own.table q k) e) z none (ap (λ k. site_at (note_of own.table q k) e) (sym kinds) ∙ ap (λ e. site_at (note_of own.table q kind) e) (sym (epoch same)) ∙ ap (λ p. site_at (note_of own.table p kind) ep) (sym same) ∙ is) in
        ap (λ n. site_at n ep) (note_else own.table q p k kind new_note differ) ∙ is
  ] refl

  some_of : (o : Option ℕ) → is_some o ≡ true → (z : ℕ) × (o ≡ Some z)
  some_of None b = absurd (yes (sym b))
  some_of (Some z) b = (z, refl)

  -- and there is one of the check
  pub site_new : q < length own.table.notes → (z : ℕ) × (site_at (note_of (machines.with_note own q k e site).table q k) e ≡ Some z)
  site_new lt = elim has as (λ b. has ≡ b → (z : ℕ) × (site_at (note_of (with_it b).table q k) e ≡ Some z)) [
    | true ↦ λ some. some_of (site_at (note_of own.table q k) e) some
    | false ↦ λ _. (site, ap (λ n. site_at n e) (note_there own.table q k new_note lt) ∙ ap (λ b. if b then Some site else None) (same_is e))
  ] refl

  -- each note was there, or is that of the check
  pub note_from : (p : ℕ) (kind : Kind) (n : Note) → note_of (machines.with_note own q k e site).table p kind ≡ Some n → (note_of own.table p kind ≡ Some n) ⊎ ((p ≡ q) × ((kind ≡ k) × (n.epoch ≡ e)))
  note_from p kind n is = elim has as (λ b. note_of (with_it b).table p kind ≡ Some n → (note_of own.table p kind ≡ Some n) ⊎ ((p ≡ q) × ((kind ≡ k) × (n.epoch ≡ e)))) [
    | true ↦ λ z. inl z
    | false ↦ λ z. ⊎_elim
        (λ (same : p ≡ q). ⊎_elim
        (λ (kinds : kind ≡ k). at_new same kinds z)
        (λ (other : kind ≡ k → ⊥). inl (sym (note_else own.table q p k kind new_note (λ _ e. other e)) ∙ z))
        (same_kinds kind k))
        (λ (other : p ≡ q → ⊥). inl (sym (note_else own.table q p k kind new_note (λ e _. other e)) ∙ z))
        (cases_eq p q)
  ] is
    where
      at_new : p ≡ q → kind ≡ k → note_of (noted own.table q k new_note) p kind ≡ Some n → (note_of own.table p kind ≡ Some n) ⊎ ((p ≡ q) × ((kind ≡ k) × (n.epoch ≡ e)))
      at_new same kinds z = ⊎_elim
          (λ (new : new_note ≡ n). inr (same, (kinds, ap (λ (n : Note). n.epoch) (sym new))))
          (λ (was : note_of own.table q k ≡ Some n). inl (ap (λ p. note_of own.table p kind) same ∙ ap (note_of own.table q) kinds ∙ was))
          (note_here own.table q k new_note n (ap (note_of (noted own.table q k new_note) q) (sym kinds) ∙ ap (λ p. note_of (noted own.table q k new_note) p kind) (sym same) ∙ z))

-- ---- one turn
-- a touch that is no check
abbrev pub IsNoCheck : Touch → Type 0
IsNoCheck (CheckOf kind q ok) = ⊥
IsNoCheck y = Unit {0}

clear_no : (s : Shape) (h : ℕ) (stage : Stage) → IsNoCheck (cleared_by s h stage)
clear_no s h (Clears done all seen) = tt
clear_no s h _ = tt

free_no : (s : Shape) (h : ℕ) (stage : Stage) → IsNoCheck (freed_by s h stage)
free_no s h (FreeClears done all seen) = tt
free_no s h _ = tt

exit_no : (s : Shape) (m : Machine) (found : ℕ) (stage : Stage) → IsNoCheck (withdrawn_by s m found stage)
exit_no s m found (WithdrawsFrom row seen) = elim (found == seen) as (λ b. IsNoCheck (if b then WithdrawOf (granule_at s (row_of m row)) else Untouched)) [ true ↦ tt | false ↦ tt ]
exit_no s m found _ = tt

no_check : (s : Shape) (i : Instr) (m : Machine) (found : ℕ) (m' : Machine) → is_access_check i ≡ false → IsNoCheck (touch_of s i m found m')
no_check s (Instr.ChkRead c site) m found m' e = absurd (yes e)
no_check s (Instr.ChkWrite c site) m found m' e = absurd (yes e)
no_check s (Instr.Clear r count) m found m' e = clear_no s (ref m r) m.own.stage
no_check s (Instr.Free r layout site) m found m' e = free_no s (ref m r) m.own.stage
no_check s Instr.Exit m found m' e = exit_no s m found m.own.stage
no_check s _ m found m' e = tt

-- the check of a cell of this granule
pub record IsCheckAt (s : Shape) (m : Machine) (i : Instr) (kind : Kind) (q site : ℕ) : Type 0 where
  pub cell : Cell
  pub is : i ≡ check_of kind cell site
  pub granule : q ≡ granule_at s (granule_of (place m cell))
  pub low : q < granules s

-- what the turn of a thread did, where it found shadow words as they were
pub data Does (s : Shape) (words : ℕ → ℕ) (m : Machine) (i : Instr) (touch : Touch) (m' : Machine) : Type 0 where
  Plain : IsNoCheck touch → m'.own.table ≡ m.own.table → ((d : ConflictAt) → m'.own.stop ≡ Some (Conflict d) → ⊥) → Does s words m i touch m'
  Passes : (kind : Kind) (q site : ℕ) → IsCheckAt s m i kind q site → touch ≡ CheckOf kind q true → conflicts_in (words q) m.own.number kind (wrote m q (words q)) ≡ false
      → m' ≡ with_own m (machines.with_note m.own q kind (epoch_of (words q)) site) → Does s words m i touch m'
  Refuses : (kind : Kind) (q site : ℕ) → IsCheckAt s m i kind q site → touch ≡ CheckOf kind q false → conflicts_in (words q) m.own.number kind (wrote m q (words q)) ≡ true
      → m' ≡ stopped m (Conflict record { kind = kind; site = site; granule = q; epoch = epoch_of (words q); old = words q }) → Does s words m i touch m'

module _ (outs : TurnsComeOut) (code : Code) (s : Shape) (g : Global Machine) (tr : Turn) (may : MayTurn bounds (one_thread code s) g tr) (fresh : (g.threads tr.thread).own.stop ≡ None) where
  open turn_at code s g tr use {m, i, found, m'}

  abbrev words : ℕ → ℕ
  words q = slice_index g.words (first_shadow + q)

  now_is : m' ≡ after (turn code s (g.threads tr.thread)) (result_of tr.event)
  now_is = put_same g.threads tr.thread (state_now (one_thread code s) g tr)

  -- a check
  module _ (kind : Kind) (c : Cell) (site : ℕ) where
    abbrev q : ℕ
    q = granule_at s (granule_of (place (g.threads tr.thread) c))

    abbrev result : Bool → ℕ → Machine
    result b v = if b then stopped (g.threads tr.thread) (Conflict record { kind = kind; site = site; granule = q; epoch = epoch_of v; old = v }) else with_own (g.threads tr.thread) (machines.with_note (g.threads tr.thread).own q kind (epoch_of v) site)

    checks : i ≡ check_of kind c site → touch_of s i m found m' ≡ CheckOf kind q (may_go m'.at.state) → after (turn code s m) found ≡ checked m kind q site found → asked_by (turn code s m) ≡ Some (step_of (shadow_word s (granule_of (place m c))) (WordOp.Or (bits_of m.own.number kind)))
        → Does s words m i (touch_of s i m found m') m'
    checks is touched then_ asked =
        let step = step_of (shadow_word s (granule_of (place m c))) (WordOp.Or (bits_of m.own.number kind)) in
        let found_q : found ≡ words q = found_is g.words tr.event step (may.next.asks ∙ asked) may.answered in
        let now : m' ≡ checked m kind q site (words q) = now_is ∙ then_ ∙ ap (checked m kind q site) found_q in
        let at : IsCheckAt s m i kind q site = record { cell = c; is = is; granule = refl; low = granule_low s (granule_of (place m c)) } in
        elim (conflicts_in (words q) m.own.number kind (wrote m q (words q))) as (λ b. conflicts_in (words q) m.own.number kind (wrote m q (words q)) ≡ b → m' ≡ result b (words q) → Does s words m i (touch_of s i m found m') m') [
          | true ↦ λ e y. Refuses kind q site at (touched ∙ ap (λ (n : Machine). CheckOf kind q (may_go n.at.state)) y) e y
          | false ↦ λ e y. Passes kind q site at (touched ∙ ap (λ (n : Machine). CheckOf kind q (may_go n.at.state)) y) e y
        ] refl now

  plain : is_access_check i ≡ false → Does s words m i (touch_of s i m found m') m'
  plain other =
      let out = outs code s i m found in
      Plain (no_check s i m found m' other) (ap (λ (n : Machine). n.own.table) now_is ∙ tabled s i found m _ out other) (λ d is.
      let k = (reports s i found m _ out (Conflict d) refl fresh (ap (λ (n : Machine). n.own.stop) (sym now_is) ∙ is)).0 in
      yes (sym (is_check d.kind k.0 d.site) ∙ ap is_access_check (sym k.1) ∙ other))

  by_instr : (j : Instr) → i ≡ j → Does s words m i (touch_of s i m found m') m'
  by_instr (Instr.ChkRead c site) is = checks Read c site is (ap (λ j. touch_of s j m found m') is) (ap (λ j. after (act code s j m) found) is) (ap (λ j. asked_by (act code s j m)) is)
  by_instr (Instr.ChkWrite c site) is = checks Write c site is (ap (λ j. touch_of s j m found m') is) (ap (λ j. after (act code s j m) found) is) (ap (λ j. asked_by (act code s j m)) is)
  by_instr j is = plain (ap is_access_check is)

  pub does : Does s (λ q. slice_index g.words (first_shadow + q)) (g.threads tr.thread) (instr_at code (g.threads tr.thread).at.pc) (touch_at code s g tr) ((after_turn bounds (one_thread code s) g tr).threads tr.thread)
  does = by_instr i refl
