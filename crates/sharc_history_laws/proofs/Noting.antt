-- Each note in the access table of a thread is of a check that the thread made in the run, and that passed.
use Rattle.sharc_history_laws.proofs.{Imports.{◌≡◌, ℕ, zero, suc, ◌+◌, ◌⊎◌, inl, inr, Bool, true, false, List, [], ◌∷◌, Some, None, is_some, if◌then◌else◌, refl, sym, ap, ◌∙◌, subst, ⊎_elim, cases_eq, get_or-set_other, slice_index, slice_index_or, slice_set, replicate, Kind, Read, Write, Note, GranuleNotes, blank, of_kind, note_of, site_at, epoch_of, bits_of, conflicts_in, noted, WordOp, Code, Cell, Instr, Shape, Conflict, granules, granule_at, granule_of, shadow_word, Machine, act, place, checked, stopped, with_own, wrote, step_of, TurnsComeOut, turn, after, may_go, asked_by, Turn, MayTurn, after_turn, state_now, result_of, one_thread, bounds, place_after, CheckOf, touch_of, site_of_check, IsNoted, put_same}, TurnAt.{turn_at, RunOf}, Conflicting.granule_same, Consists.found_is, Outcomes.{is_access_check, tabled}, Sole.by_last_turn, Doing.set_most as set_at_most}
use Rattle.sharc_heap.specs.{Notes.with_note, Accesses.Accesses}
use Rattle.sharc_code.specs.Machine as machines

-- ---- tables
row_parts : (k kind : Kind) (n note : Note) (row : GranuleNotes) → of_kind kind (with_note k n row) ≡ Some note → ((kind ≡ k) × (n ≡ note)) ⊎ (of_kind kind row ≡ Some note)
row_parts Read Read n note row e = inl (refl, (let f : Some n ≡ Some note = e in cc))
row_parts Write Write n note row e = inl (refl, (let f : Some n ≡ Some note = e in cc))
row_parts Read Write n note row e = inr e
row_parts Write Read n note row e = inr e

table_parts : (table : Accesses) (q p : ℕ) (k kind : Kind) (n note : Note) → note_of (noted table q k n) p kind ≡ Some note → ((p ≡ q) × ((kind ≡ k) × (n ≡ note))) ⊎ (note_of table p kind ≡ Some note)
unfolding noted
table_parts table q p k kind n note e = ⊎_elim
    (λ (same : p ≡ q).
    let row = slice_index_or table.notes q blank in
    let e' : of_kind kind (slice_index_or (slice_set table.notes q (with_note k n row)) q blank) ≡ Some note = ap (λ p. of_kind kind (slice_index_or (slice_set table.notes q (with_note k n row)) p blank)) (sym same) ∙ e in
    let old : of_kind kind row ≡ Some note → note_of table p kind ≡ Some note = λ z. ap (λ p. of_kind kind (slice_index_or table.notes p blank)) same ∙ z in
    ⊎_elim
    (λ (new : slice_index_or (slice_set table.notes q (with_note k n row)) q blank ≡ with_note k n row). ⊎_elim
    (λ (z : (kind ≡ k) × (n ≡ note)). inl (same, z))
    (λ (z : of_kind kind row ≡ Some note). inr (old z))
    (row_parts k kind n note row (ap (of_kind kind) (sym new) ∙ e')))
    (λ (was : slice_index_or (slice_set table.notes q (with_note k n row)) q blank ≡ row). inr (old (ap (of_kind kind) (sym was) ∙ e')))
    (set_at_most table.notes q (with_note k n row)))
    (λ (ne : p ≡ q → ⊥). inr (ap (of_kind kind) (sym (get_or-set_other table.notes q p (with_note k n (slice_index_or table.notes q blank)) blank ne)) ∙ e))
    (cases_eq p q)

pub blank_at : (n p : ℕ) → slice_index_or (replicate n blank) p blank ≡ blank
blank_at zero p = refl
blank_at (suc n) zero = refl
blank_at (suc n) (suc p) = blank_at n p

pub blank_none : (kind : Kind) (note : Note) → of_kind kind blank ≡ Some note → ⊥
blank_none Read note e = let f : None ≡ Some note = e in cc
blank_none Write note e = let f : None ≡ Some note = e in cc

-- ---- runs
module _ (outs : TurnsComeOut) (code : Code) (s : Shape) where
  module _ (one : Turn) (earlier : List Turn) (run : RunOf code s (one ∷ earlier)) (p : ℕ) (kind : Kind) (note : Note) where
    open turn_at code s (place_after code s earlier) one use {g, m, i, found}

    may : MayTurn bounds (one_thread code s) (place_after code s earlier) one
    may = run.1

    abbrev now : Machine
    now = after (turn code s ((place_after code s earlier).threads one.thread)) (result_of one.event)

    abbrev Has : Machine → Type 0
    Has y = note_of y.own.table p kind ≡ Some note

    abbrev New : Type 0
    New = IsNoted code s (one ∷ earlier) one.thread p kind note

    -- a check that passed
    module _ (k : Kind) (cell : Cell) (site : ℕ) where
      abbrev q : ℕ
      q = granule_at s (granule_of (place m cell))

      abbrev fresh : Note
      fresh = record { epoch = epoch_of found; site = site }

      abbrev Result : Bool → Machine
      Result b = if b then stopped m (Conflict record { kind = k; site = site; granule = q; epoch = epoch_of found; old = found }) else with_own m (machines.with_note m.own q k (epoch_of found) site)

      noted_parts : (own : machines.Own) → note_of (machines.with_note own q k (epoch_of found) site).table p kind ≡ Some note → (note_of own.table p kind ≡ Some note) ⊎ ((p ≡ q) × ((kind ≡ k) × (fresh ≡ note)))
      noted_parts own e = elim (is_some (site_at (note_of own.table q k) (epoch_of found))) as (λ b. note_of (if b then own else record own { table = noted own.table q k fresh }).table p kind ≡ Some note → (note_of own.table p kind ≡ Some note) ⊎ ((p ≡ q) × ((kind ≡ k) × (fresh ≡ note)))) [
        | true ↦ λ z. inl z
        | false ↦ λ z. ⊎_elim (λ (y : (p ≡ q) × ((kind ≡ k) × (fresh ≡ note))). inr y) (λ (y : note_of own.table p kind ≡ Some note). inl y) (table_parts own.table q p k kind fresh note z)
      ] e

      module _ (site_is : site_of_check i ≡ Some site) (touched : touch_of s i m found ((after_turn bounds (one_thread code s) (place_after code s earlier) one).threads one.thread) ≡ CheckOf k q (may_go ((after_turn bounds (one_thread code s) (place_after code s earlier) one).threads one.thread).at.state))
          (asked : asked_by (turn code s m) ≡ Some (step_of (shadow_word s (granule_of (place m cell))) (WordOp.Or (bits_of m.own.number k)))) where
        made : may_go now.at.state ≡ true → p ≡ q → kind ≡ k → fresh ≡ note → New
        made goes same kind_is note_is =
            let x' = (after_turn bounds (one_thread code s) g one).threads one.thread in
            let goes' : may_go x'.at.state ≡ true = ap (λ (y : Machine). may_go y.at.state) (put_same g.threads one.thread (state_now (one_thread code s) g one)) ∙ goes in
            let touch : touch_of s i m found x' ≡ CheckOf kind p true = touched ∙ ap (CheckOf k q) goes' ∙ ap (λ k. CheckOf k q true) (sym kind_is) ∙ ap (λ q. CheckOf kind q true) (sym same) in
            let at_p : shadow_word s p ≡ shadow_word s (granule_of (place m cell)) = ap (shadow_word s) same ∙ ap (λ n. Rattle.sharc_code.specs.Layout.first_shadow + n) (granule_same s (granule_of (place m cell))) in
            let found' : found ≡ slice_index g.words (shadow_word s (granule_of (place m cell))) = found_is g.words one.event (step_of (shadow_word s (granule_of (place m cell))) (WordOp.Or (bits_of m.own.number k))) (may.next.asks ∙ asked) may.answered in
            record {
              later = [];
              check = one;
              earlier = earlier;
              parts = refl;
              is_check = record { thread = refl; touch = touch; site_is = site_is ∙ ap (λ (n : Note). Some n.site) note_is };
              epoch = ap (λ w. epoch_of (slice_index g.words w)) at_p ∙ ap epoch_of (sym found') ∙ ap (λ (n : Note). n.epoch) note_is;
            }

        choose : (b : Bool) → now ≡ Result b → Has (Result b) → Has m ⊎ New
        choose true e z = inl z
        choose false e z = ⊎_elim
            (λ (y : note_of m.own.table p kind ≡ Some note). inl y)
            (λ (y : (p ≡ q) × ((kind ≡ k) × (fresh ≡ note))). inr (made (ap (λ (y : Machine). may_go y.at.state) e) y.0 y.1.0 y.1.1))
            (noted_parts m.own z)

        at_check : now ≡ checked m k q site found → Has now → Has m ⊎ New
        at_check now_is has = choose (conflicts_in found m.own.number k (wrote m q found)) now_is (subst Has now_is has)

    noted_now : Has now → Has m ⊎ New
    noted_now has = by i refl
      where
        by : (j : Instr) → i ≡ j → Has m ⊎ New
        by (Instr.ChkRead cell site) is = at_check Read cell site (ap site_of_check is) (ap (λ j. touch_of s j m found ((after_turn bounds (one_thread code s) g one).threads one.thread)) is) (ap (λ j. asked_by (act code s j m)) is) (ap (λ j. after (act code s j m) found) is) has
        by (Instr.ChkWrite cell site) is = at_check Write cell site (ap site_of_check is) (ap (λ j. touch_of s j m found ((after_turn bounds (one_thread code s) g one).threads one.thread)) is) (ap (λ j. asked_by (act code s j m)) is) (ap (λ j. after (act code s j m) found) is) has
        by _ is = inl (ap (λ (t : Accesses). note_of t p kind) (sym (tabled s i found m _ (outs code s i m found) (ap is_access_check is))) ∙ has)

  further : (one : Turn) (earlier : List Turn) (j p : ℕ) (kind : Kind) (note : Note) → IsNoted code s earlier j p kind note → IsNoted code s (one ∷ earlier) j p kind note
  further one earlier j p kind note k = record {
    later = one ∷ k.later;
    check = k.check;
    earlier = k.earlier;
    parts = ap (λ (l : List Turn). one ∷ l) k.parts;
    is_check = k.is_check;
    epoch = k.epoch;
  }

  pub notes_told : (run : List Turn) → RunOf code s run → (j p : ℕ) (kind : Kind) (note : Note) → note_of ((place_after code s run).threads j).own.table p kind ≡ Some note → IsNoted code s run j p kind note
  notes_told run is_run j p kind note = by_last_turn code s (λ y. note_of y.own.table p kind ≡ Some note) (λ run j. IsNoted code s run j p kind note)
      (λ j is. absurd (blank_none kind note (ap (of_kind kind) (sym (blank_at (granules s) p)) ∙ is))) (λ one earlier j _ k. further one earlier j p kind note k)
      (λ one earlier run old is. ⊎_elim
      (λ (was : note_of ((place_after code s earlier).threads one.thread).own.table p kind ≡ Some note). further one earlier one.thread p kind note (old was))
      (λ (new : IsNoted code s (one ∷ earlier) one.thread p kind note). new)
      (noted_now one earlier run p kind note is)) run is_run j
