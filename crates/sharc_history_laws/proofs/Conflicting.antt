-- A refused check of an access comes from checks that others made, in a run of typed code.
use Rattle.sharc_history_laws.proofs.{Imports.{◌≡◌, ℕ, ◌+◌, inl, inr, Bool, true, false, List, [], ◌∷◌, Option, Some, None, is_some, nat_lt, if◌then◌else◌, refl, sym, ap, ◌∙◌, subst, ⊎_elim, cases_eq, slice_index, ◌==◌, Kind, Read, Write, epoch_of, stands, bits_of, WordOp, Code, Cell, Instr, Shape, ConflictAt, Stage, Clears, FreeClears, WithdrawsFrom, Stop, Conflict, Fits, granules, granule_at, granule_of, shadow_word, Machine, instr_at, act, place, ref, step_of, opening_words, TurnsComeOut, MayStop, check_of, turn, after, may_go, asked_by, Turn, IsRun, MayTurn, after_turn, put, state_now, result_of, opening_of, one_thread, bounds, place_after, Targets, Labels, IsWellTyped, IsSmall, first_place, Touch, Untouched, CheckOf, ClearOf, WithdrawOf, Marks, cleared_by, freed_by, withdrawn_by, touch_of, with_check, without_thread, marks_by, marks_after, RunsConflict, CheckStands, touch_at, RunsBits, site_of_check, Past, MadeSince, Opposes, ShowsConflict, yes, is_below, put_same, put_other, granule_low}, TurnAt.{turn_at, RunOf}, Consists.found_is, Outcomes.reports, Sole.{Halting, by_last_turn, stop_none}}

-- ---- a turn that is a check has a site
module _ (s : Shape) (kind : Kind) (p : ℕ) (ok : Bool) where
  not_cleared : (h : ℕ) (stage : Stage) → cleared_by s h stage ≡ CheckOf kind p ok → ⊥
  not_cleared h (Clears done all seen) e = cc
  not_cleared h _ e = cc

  not_freed : (h : ℕ) (stage : Stage) → freed_by s h stage ≡ CheckOf kind p ok → ⊥
  not_freed h (FreeClears done all seen) e = cc
  not_freed h _ e = cc

  not_withdrawn : (m : Machine) (found : ℕ) (stage : Stage) → withdrawn_by s m found stage ≡ CheckOf kind p ok → ⊥
  not_withdrawn m found (WithdrawsFrom row seen) e = elim (found == seen) as (λ b. (if b then WithdrawOf (granule_at s (Rattle.sharc_code.specs.Machine.row_of m row)) else Untouched) ≡ CheckOf kind p ok → ⊥) [
    | true ↦ λ z. cc
    | false ↦ λ z. cc
  ] e
  not_withdrawn m found _ e = cc

  check_site : (i : Instr) (m : Machine) (found : ℕ) (m' : Machine) → touch_of s i m found m' ≡ CheckOf kind p ok → (site : ℕ) × (site_of_check i ≡ Some site)
  check_site (Instr.ChkRead c site) m found m' e = (site, refl)
  check_site (Instr.ChkWrite c site) m found m' e = (site, refl)
  check_site (Instr.Clear r cells) m found m' e = absurd (not_cleared (ref m r) m.own.stage e)
  check_site (Instr.Free r layout site) m found m' e = absurd (not_freed (ref m r) m.own.stage e)
  check_site Instr.Exit m found m' e = absurd (not_withdrawn m found m.own.stage e)
  check_site _ m found m' e = absurd (let f : Untouched ≡ CheckOf kind p ok = e in cc)

-- ---- marks are of checks
module _ (code : Code) (s : Shape) (j p : ℕ) where
  abbrev marks : List Turn → Marks
  marks run = marks_after code s (first_place code s) run p

  Made : List Turn → Type 0
  Made run = (kind : Kind) × MadeSince code s run j p kind

  module _ (one : Turn) (earlier : List Turn) where
    abbrev touch : Touch
    touch = touch_at code s (place_after code s earlier) one

    -- an earlier one, which this turn leaves
    older : (kind : Kind) (y : Touch) → touch ≡ y → Past y one.thread j p → MadeSince code s earlier j p kind → MadeSince code s (one ∷ earlier) j p kind
    older kind y e past k = inr (subst (λ y. Past y one.thread j p) (sym e) past, k)

    -- this one
    newer : (kind : Kind) (q : ℕ) (ok : Bool) → touch ≡ CheckOf kind q ok → p ≡ q → j ≡ one.thread → MadeSince code s (one ∷ earlier) j p kind
    newer kind q ok e same thread =
        let g = place_after code s earlier in
        let at = check_site s kind q ok (instr_at code (g.threads one.thread).at.pc) (g.threads one.thread) (result_of one.event) ((after_turn bounds (one_thread code s) g one).threads one.thread) e in
        inl (at.0, (ok, record { thread = sym thread; touch = e ∙ ap (λ q. CheckOf kind q ok) (sym same); site_is = at.1 }))

    module _ (f : ℕ → Marks) where
      by_check : (kind : Kind) (q : ℕ) (ok : Bool) → touch ≡ CheckOf kind q ok → ((f p).made j ≡ true → (k : Kind) × MadeSince code s earlier j p k) → (marks_by (CheckOf kind q ok) one.thread f p).made j ≡ true → (k : Kind) × MadeSince code s (one ∷ earlier) j p k
      by_check kind q ok e back is = ⊎_elim
          (λ (same : p ≡ q).
          let now : (with_check kind ok one.thread (f q)).made j ≡ true = ap (λ (y : Marks). y.made j) (sym (put_same f q (with_check kind ok one.thread (f q)))) ∙ ap (λ p. (put f q (with_check kind ok one.thread (f q)) p).made j) (sym same) ∙ is in
          let made : put (f q).made one.thread true j ≡ true = made_is kind ok (f q) j ∙ now in
          ⊎_elim
          (λ (mine : j ≡ one.thread). (kind, newer kind q ok e same mine))
          (λ (other : j ≡ one.thread → ⊥).
          let k = back (ap (λ p. (f p).made j) same ∙ sym (put_other (f q).made one.thread j true other) ∙ made) in
          (k.0, older k.0 (CheckOf kind q ok) e tt k.1))
          (cases_eq j one.thread))
          (λ (ne : p ≡ q → ⊥).
          let k = back (ap (λ (y : Marks). y.made j) (sym (put_other f q p (with_check kind ok one.thread (f q)) ne)) ∙ is) in
          (k.0, older k.0 (CheckOf kind q ok) e tt k.1))
          (cases_eq p q)
        where
          made_is : (kind : Kind) (ok : Bool) (y : Marks) (j : ℕ) → put y.made one.thread true j ≡ (with_check kind ok one.thread y).made j
          made_is Read ok y j = refl
          made_is Write ok y j = refl

      by_touch : (y : Touch) → touch ≡ y → ((f p).made j ≡ true → (k : Kind) × MadeSince code s earlier j p k) → (marks_by y one.thread f p).made j ≡ true → (k : Kind) × MadeSince code s (one ∷ earlier) j p k
      by_touch Untouched e back is = let k = back is in (k.0, older k.0 Untouched e tt k.1)
      by_touch (CheckOf kind q ok) e back is = by_check kind q ok e back is
      by_touch (ClearOf q) e back is = ⊎_elim
          (λ (same : p ≡ q). absurd (let z : false ≡ true = ap (λ (y : Marks). y.made j) (sym (put_same f q Rattle.sharc_invariant.specs.Bits.no_marks)) ∙ ap (λ p. (put f q Rattle.sharc_invariant.specs.Bits.no_marks p).made j) (sym same) ∙ is in cc))
          (λ (ne : p ≡ q → ⊥). let k = back (ap (λ (y : Marks). y.made j) (sym (put_other f q p Rattle.sharc_invariant.specs.Bits.no_marks ne)) ∙ is) in (k.0, older k.0 (ClearOf q) e ne k.1))
          (cases_eq p q)
      by_touch (WithdrawOf q) e back is = ⊎_elim
          (λ (same : p ≡ q).
          let now : put (f q).made one.thread false j ≡ true = ap (λ (y : Marks). y.made j) (sym (put_same f q (without_thread one.thread (f q)))) ∙ ap (λ p. (put f q (without_thread one.thread (f q)) p).made j) (sym same) ∙ is in
          ⊎_elim
          (λ (mine : j ≡ one.thread). absurd (let z : false ≡ true = sym (put_same (f q).made one.thread false) ∙ ap (put (f q).made one.thread false) (sym mine) ∙ now in cc))
          (λ (other : j ≡ one.thread → ⊥).
          let k = back (ap (λ p. (f p).made j) same ∙ sym (put_other (f q).made one.thread j false other) ∙ now) in
          (k.0, older k.0 (WithdrawOf q) e (λ _ z. other (sym z)) k.1))
          (cases_eq j one.thread))
          (λ (ne : p ≡ q → ⊥). let k = back (ap (λ (y : Marks). y.made j) (sym (put_other f q p (without_thread one.thread (f q)) ne)) ∙ is) in (k.0, older k.0 (WithdrawOf q) e (λ z. absurd (ne z)) k.1))
          (cases_eq p q)

      -- of kind Write
      write_check : (kind : Kind) (q : ℕ) (ok : Bool) → touch ≡ CheckOf kind q ok → ((f p).writes j ≡ true → MadeSince code s earlier j p Write) → (marks_by (CheckOf kind q ok) one.thread f p).writes j ≡ true → MadeSince code s (one ∷ earlier) j p Write
      write_check kind q ok e back is = ⊎_elim
          (λ (same : p ≡ q).
          let now : (with_check kind ok one.thread (f q)).writes j ≡ true = ap (λ (y : Marks). y.writes j) (sym (put_same f q (with_check kind ok one.thread (f q)))) ∙ ap (λ p. (put f q (with_check kind ok one.thread (f q)) p).writes j) (sym same) ∙ is in
          of_kind kind e same now)
          (λ (ne : p ≡ q → ⊥). older Write (CheckOf kind q ok) e tt (back (ap (λ (y : Marks). y.writes j) (sym (put_other f q p (with_check kind ok one.thread (f q)) ne)) ∙ is)))
          (cases_eq p q)
        where
          of_kind : (kind : Kind) → touch ≡ CheckOf kind q ok → p ≡ q → (with_check kind ok one.thread (f q)).writes j ≡ true → MadeSince code s (one ∷ earlier) j p Write
          of_kind Read e same now = older Write (CheckOf Read q ok) e tt (back (ap (λ p. (f p).writes j) same ∙ now))
          of_kind Write e same now = ⊎_elim
              (λ (mine : j ≡ one.thread). newer Write q ok e same mine)
              (λ (other : j ≡ one.thread → ⊥). older Write (CheckOf Write q ok) e tt (back (ap (λ p. (f p).writes j) same ∙ sym (put_other (f q).writes one.thread j true other) ∙ now)))
              (cases_eq j one.thread)

      write_touch : (y : Touch) → touch ≡ y → ((f p).writes j ≡ true → MadeSince code s earlier j p Write) → (marks_by y one.thread f p).writes j ≡ true → MadeSince code s (one ∷ earlier) j p Write
      write_touch Untouched e back is = older Write Untouched e tt (back is)
      write_touch (CheckOf kind q ok) e back is = write_check kind q ok e back is
      write_touch (ClearOf q) e back is = ⊎_elim
          (λ (same : p ≡ q). absurd (let z : false ≡ true = ap (λ (y : Marks). y.writes j) (sym (put_same f q Rattle.sharc_invariant.specs.Bits.no_marks)) ∙ ap (λ p. (put f q Rattle.sharc_invariant.specs.Bits.no_marks p).writes j) (sym same) ∙ is in cc))
          (λ (ne : p ≡ q → ⊥). older Write (ClearOf q) e ne (back (ap (λ (y : Marks). y.writes j) (sym (put_other f q p Rattle.sharc_invariant.specs.Bits.no_marks ne)) ∙ is)))
          (cases_eq p q)
      write_touch (WithdrawOf q) e back is = ⊎_elim
          (λ (same : p ≡ q).
          let now : put (f q).writes one.thread false j ≡ true = ap (λ (y : Marks). y.writes j) (sym (put_same f q (without_thread one.thread (f q)))) ∙ ap (λ p. (put f q (without_thread one.thread (f q)) p).writes j) (sym same) ∙ is in
          ⊎_elim
          (λ (mine : j ≡ one.thread). absurd (let z : false ≡ true = sym (put_same (f q).writes one.thread false) ∙ ap (put (f q).writes one.thread false) (sym mine) ∙ now in cc))
          (λ (other : j ≡ one.thread → ⊥). older Write (WithdrawOf q) e (λ _ z. other (sym z)) (back (ap (λ p. (f p).writes j) same ∙ sym (put_other (f q).writes one.thread j false other) ∙ now)))
          (cases_eq j one.thread))
          (λ (ne : p ≡ q → ⊥). older Write (WithdrawOf q) e (λ z. absurd (ne z)) (back (ap (λ (y : Marks). y.writes j) (sym (put_other f q p (without_thread one.thread (f q)) ne)) ∙ is)))
          (cases_eq p q)

  pub made_since : (run : List Turn) → (marks_after code s (first_place code s) run p).made j ≡ true → (kind : Kind) × MadeSince code s run j p kind
  made_since [] is = absurd (yes (sym is))
  made_since (one ∷ earlier) is = by_touch one earlier (marks_after code s (first_place code s) earlier) (touch_at code s (place_after code s earlier) one) refl (made_since earlier) is

  pub write_since : (run : List Turn) → (marks_after code s (first_place code s) run p).writes j ≡ true → MadeSince code s run j p Write
  write_since [] is = absurd (yes (sym is))
  write_since (one ∷ earlier) is = write_touch one earlier (marks_after code s (first_place code s) earlier) (touch_at code s (place_after code s earlier) one) refl (write_since earlier) is

-- ---- the turn that stopped there
pub granule_same : (s : Shape) (g : ℕ) → granule_at s (granule_at s g) ≡ granule_at s g
granule_same s g = let lt = granule_low s g in let e : nat_lt (granule_at s g) (granules s) ≡ true = is_below (granule_at s g) (granules s) lt in ap (λ b. if b then granule_at s g else 0) e

-- ---- runs
module _ (outs : TurnsComeOut) (conflicts : RunsConflict) (bits : RunsBits) (x : Targets) (code : Code) (s : Shape) (ls : Labels) (wt : IsWellTyped x code ls) (fits : Fits code s) (few : IsSmall code s)
    (all : (run : List Turn) → IsRun bounds (one_thread code s) (opening_of bounds (one_thread code s) (opening_words code s)) run → Halting code s run) where
  module _ (one : Turn) (earlier : List Turn) (run : RunOf code s (one ∷ earlier)) (c : ConflictAt) (is : (after (turn code s ((place_after code s earlier).threads one.thread)) (result_of one.event)).own.stop ≡ Some (Conflict c)) where
    open turn_at code s (place_after code s earlier) one use {g, m, i, m'}

    may : MayTurn bounds (one_thread code s) (place_after code s earlier) one
    may = run.1

    fresh : ((place_after code s earlier).threads one.thread).own.stop ≡ None
    fresh = stop_none m.own.stop (λ z. yes (sym may.next.runs ∙ (all earlier run.0).halts one.thread z))

    stopped_now : may_go ((after_turn bounds (one_thread code s) (place_after code s earlier) one).threads one.thread).at.state ≡ false
    stopped_now = (all (one ∷ earlier) run).halts one.thread (ap (λ (y : Machine). is_some y.own.stop) (put_same g.threads one.thread (state_now (one_thread code s) g one)) ∙ ap (λ (o : Option Stop). is_some o) is)

    -- the check, whose kind is this
    shows_of : (kind : Kind) (cell : Cell) → touch_of s i m (result_of one.event) m' ≡ CheckOf kind (granule_at s (granule_of (place m cell))) (may_go m'.at.state) → site_of_check i ≡ Some c.site
        → asked_by (turn code s m) ≡ Some (step_of (shadow_word s (granule_of (place m cell))) (WordOp.Or (bits_of m.own.number kind)))
        → c.kind ≡ kind → c.granule ≡ granule_at s (granule_of (place m cell)) → c.old ≡ result_of one.event → c.epoch ≡ epoch_of (result_of one.event) → ShowsConflict code s (one ∷ earlier) one.thread c
    shows_of kind cell touched site_is asked kind_is granule_is old_is epoch_is =
        let q = granule_of (place m cell) in
        let p = granule_at s q in
        let touch : touch_of s i m (result_of one.event) m' ≡ CheckOf kind p false = touched ∙ ap (CheckOf kind p) stopped_now in
        let found : result_of one.event ≡ slice_index g.words (shadow_word s q) = found_is g.words one.event (step_of (shadow_word s q) (WordOp.Or (bits_of m.own.number kind))) (may.next.asks ∙ asked) may.answered in
        let at_p : shadow_word s p ≡ shadow_word s q = ap (λ n. Rattle.sharc_code.specs.Layout.first_shadow + n) (granule_same s q) in
        let word : slice_index g.words (shadow_word s p) ≡ c.old = ap (slice_index g.words) at_p ∙ sym found ∙ sym old_is in
        let k : CheckStands one.thread kind (slice_index g.words (shadow_word s p)) (marks_after code s (first_place code s) earlier p) false = conflicts x code s ls wt fits few earlier one run kind p false touch in
        let b = bits x code s ls wt fits few earlier run.0 p (granule_low s q) in
        let cause = k.cause refl in
        let j = cause.0 in
        let others : (j : ℕ) → stands c.old j ≡ true → (kind : Kind) × MadeSince code s earlier j p kind = λ j bit. made_since code s j p earlier (b.made j (ap (λ w. stands w j) word ∙ bit)) in
        let bit : stands c.old j ≡ true = ap (λ w. stands w j) (sym word) ∙ cause.2 in
        let opposes : Opposes code s earlier one.thread c.old p kind = ⊎_elim
        (λ (w : kind ≡ Write). let y = others j bit in record { other = j; apart = cause.1; bit = bit; other_kind = y.0; made = y.1; write = inl w })
        (λ (w : (marks_after code s (first_place code s) earlier p).writes j ≡ true). record { other = j; apart = cause.1; bit = bit; other_kind = Write; made = write_since code s j p earlier w; write = inr refl })
        cause.4 in
        record {
          later = [];
          check = one;
          earlier = earlier;
          parts = refl;
          is_check = record { thread = refl; touch = touch ∙ ap (λ k. CheckOf k p false) (sym kind_is) ∙ ap (λ p. CheckOf c.kind p false) (sym granule_is); site_is = site_is };
          word = ap (λ p. slice_index g.words (shadow_word s p)) granule_is ∙ word;
          epoch = ap epoch_of old_is ∙ sym epoch_is;
          others = subst (λ p. (j : ℕ) → stands c.old j ≡ true → (kind : Kind) × MadeSince code s earlier j p kind) (sym granule_is) others;
          cause = subst (λ p. Opposes code s earlier one.thread c.old p c.kind) (sym granule_is) (subst (Opposes code s earlier one.thread c.old p) (sym kind_is) opposes);
        }

    pub shows_conflict : ShowsConflict code s (one ∷ earlier) one.thread c
    shows_conflict = by c.kind refl
      where
        k : MayStop s i m (result_of one.event) (Conflict c)
        k = (reports s i (result_of one.event) m _ (outs code s i m (result_of one.event)) (Conflict c) refl fresh is).0

        by : (kind : Kind) → c.kind ≡ kind → ShowsConflict code s (one ∷ earlier) one.thread c
        by Read e = let at = k.1 ∙ ap (λ kind. check_of kind k.0 c.site) e in shows_of Read k.0 (ap (λ j. touch_of s j m (result_of one.event) m') at) (ap site_of_check at) (ap (λ j. asked_by (act code s j m)) at) e k.2 k.4 k.3
        by Write e = let at = k.1 ∙ ap (λ kind. check_of kind k.0 c.site) e in shows_of Write k.0 (ap (λ j. touch_of s j m (result_of one.event) m') at) (ap site_of_check at) (ap (λ j. asked_by (act code s j m)) at) e k.2 k.4 k.3

  further : (one : Turn) (earlier : List Turn) (t : ℕ) (c : ConflictAt) → ShowsConflict code s earlier t c → ShowsConflict code s (one ∷ earlier) t c
  further one earlier t c k = record {
    later = one ∷ k.later;
    check = k.check;
    earlier = k.earlier;
    parts = ap (λ (l : List Turn). one ∷ l) k.parts;
    is_check = k.is_check;
    word = k.word;
    epoch = k.epoch;
    others = k.others;
    cause = k.cause;
  }

  pub accesses_show : (run : List Turn) → RunOf code s run → (t : ℕ) (c : ConflictAt) → ((place_after code s run).threads t).own.stop ≡ Some (Conflict c) → ShowsConflict code s run t c
  accesses_show run is_run t c = by_last_turn code s (λ y. y.own.stop ≡ Some (Conflict c)) (λ run t. ShowsConflict code s run t c) (λ t is. absurd (let f : None ≡ Some (Conflict c) = is in cc))
      (λ one earlier t _ k. further one earlier t c k) (λ one earlier run _ is. shows_conflict one earlier run c is) run is_run t
