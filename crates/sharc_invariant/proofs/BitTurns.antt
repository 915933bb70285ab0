-- The bits of shadow words behind each turn, and at each place of a run.
use Rattle.sharc_invariant.proofs.{Imports.{◌≡◌, ℕ, suc, ◌+◌, ◌*◌, ◌<◌, ◌⊎◌, ◌||◌, Bool, true, false, cond, List, [], ◌∷◌, refl, sym, ap, ◌∙◌, subst, inl, inr, ⊎_elim, arith, cases_eq, cases_Bool, ltb-true, lt-ltb, true_from_ne_false, length, take, slice_index, slice_set, nat_lt, nat_eq, is_some, bit_or, ◌==◌, if◌then◌else◌, THREADS, Load, Swap, Or, Cas, WordStep, MayFollow, word_after, Kind, Read, Write, note_of, site_at, epoch_of, is_of, is_written, stands, WithdrawsWord, AddsAccess, bits_of, cleared_of, withdrawn_of, conflicts_in, noted, ShadowLaws, Code, Layout, Instr, Register, Shape, Stage, Rests, Looks, Clears, Makes, FreeLooks, FreeClears, Uncounts, Names, Hands, Begins, Withdraws, WithdrawsFrom, Leaves, StateOf as PlaceState, Ended, Stop, Conflict, Fits, granules, granule_at, granule_of, first_shadow, first_cell, shadow_word, state_word, Machine, Own, StepTurn, Local, Asks, step_of, act, instr_at, ref, at_stage, ends, stopped, with_own, with_note, wrote, checked, check, clear, looks, free, free_looks, layout_at, data_granule, data_granules, rests, exit, withdraws, withdrew, row_of, without_own, TurnsComeOut, may_go, turn, asked_by, after as after_step, Turn, Global, put, at, MayTurn, IsRun, Answered, after_turn, result_of, one_thread, bounds, put_same, put_other, put_all, Touch, Untouched, CheckOf, ClearOf, WithdrawOf, Marks, no_marks, with_check, without_thread, cleared_by, freed_by, withdrawn_by, touch_of, marks_by, marks_now, marks_after, BitsStand, AllBitsStand, Passed, Targets, Labels, IsWellTyped, World, Heap, shadow_at, is_ended, is_withdrawing, has_withdrawn, note_number, noted_by, first_place, made_turn, State, IsSmall, StageStands, OnNew, OnSpawn, OnExit, RunsFromTheBeginning, RunsBits, ne_eq, eq_refl, or_false}, TurnAt.{turn_at, turn_stands}, Stores.index_put, Turns.{local_turn, asks_turn, some_step}, Checks.{noted_numbers, same_kind, other_put}, Withdrawn.{is_row, one_more, row_low, first_row, noted_withdraws, wrote_now}, Opened.shadow_zero, Marked.{MarkedAt, at_same, at_clear, at_read, at_write, at_withdraw}, Touched.{IsFit, fit_calm, IsPlain, KeepsNotes, LeavesWords, leaves, keeps_notes}}
use Rattle.sharc_code.specs.Machine.{place}

-- ---- numbers
pub in_low : (s : Shape) (p : ℕ) → p < granules s → granule_at s p ≡ p
in_low s p lt = ap (λ b. cond b p 0) (lt-ltb p (granules s) lt)

pub at_low : (s : Shape) (p : ℕ) → granule_at s p < granules s
at_low s p = ⊎_elim
    (λ (e : nat_lt p (granules s) ≡ true). subst (λ n. n < granules s) (sym (ap (λ b. cond b p 0) e)) (ltb-true p (granules s) e))
    (λ (e : nat_lt p (granules s) ≡ false). subst (λ n. n < granules s) (sym (ap (λ b. cond b p 0) e)) (let z : 0 < 1 + s.globals + s.heap = omega arith in z))
    (cases_Bool (nat_lt p (granules s)))

-- ---- notes
pub going_on : (y : PlaceState) → may_go y ≡ true → is_ended y ≡ false
going_on Ended e = absurd (cc)
going_on _ e = refl

calm_withdrawn : (y : Stage) → is_withdrawing y ≡ false → (order : List ℕ) (ended : Bool) (p : ℕ) → has_withdrawn y order ended p ≡ ended
calm_withdrawn (Withdraws row) e order ended p = absurd (cc)
calm_withdrawn (WithdrawsFrom row seen) e order ended p = absurd (cc)
calm_withdrawn Leaves e order ended p = absurd (cc)
calm_withdrawn _ e order ended p = refl

pub noted_calm : (n : Machine) → is_withdrawing n.own.stage ≡ false → is_ended n.at.state ≡ false → (kind : Kind) (p : ℕ) → noted_by n kind p ≡ note_number (note_of n.own.table p kind)
noted_calm n calm going kind p = ap (λ b. cond b 0 (note_number (note_of n.own.table p kind))) (calm_withdrawn n.own.stage calm n.own.table.order (is_ended n.at.state) p ∙ going)

keeps_noted : (m m' : Machine) → is_withdrawing m.own.stage ≡ false → is_ended m.at.state ≡ false → KeepsNotes m m' → (kind : Kind) (p : ℕ) → noted_by m' kind p ≡ noted_by m kind p
keeps_noted m m' calm going h kind p =
    noted_calm m' h.stage h.ended kind p ∙ ap (λ tb. note_number (note_of tb p kind)) h.table ∙ sym (noted_calm m calm going kind p)

pub with_note_stage : (o : Own) (p : ℕ) (kind : Kind) (e site : ℕ) → (with_note o p kind e site).stage ≡ o.stage
with_note_stage o p kind e site = elim (is_some (site_at (note_of o.table p kind) e)) as (λ b. (cond b o (record o { table = noted o.table p kind record { epoch = e; site = site } })).stage ≡ o.stage) [ true ↦ refl | false ↦ refl ]

still_is : (k kind : Kind) (f : ℕ → ℕ) (p n : ℕ) → f p ≡ n → (if same_kind k kind then put f p n p else f p) ≡ n
still_is Read Read f p n h = put_same f p n
still_is Read Write f p n h = h
still_is Write Read f p n h = h
still_is Write Write f p n h = put_same f p n

fresh_is : (kind : Kind) (f : ℕ → ℕ) (p n : ℕ) → (if same_kind kind kind then put f p n p else f p) ≡ n
fresh_is Read f p n = put_same f p n
fresh_is Write f p n = put_same f p n

-- what a check of granule p leaves of the notes
record Noted (m m' : Machine) (kind : Kind) (p e : ℕ) : Type 0 where
  pub still : (k : Kind) → noted_by m k p ≡ suc e → noted_by m' k p ≡ suc e
  pub fresh : may_go m'.at.state ≡ true → noted_by m' kind p ≡ suc e
  pub others : (k : Kind) (q : ℕ) → (q ≡ p → ⊥) → noted_by m' k q ≡ noted_by m k q

-- ---- stages
from_new : (P : ℕ → ℕ → ℕ → Type 0) (Q : Type 0) (i : Instr) → ((r count cells : ℕ) → P r count cells → Q) → OnNew P i → Q
from_new P Q (Instr.New r count cells site) f h = f r count cells h
from_new P Q _ f h = absurd h

pub from_spawn : (P : ℕ → Register → Type 0) (Q : Type 0) (i : Instr) → ((f : ℕ) (from : Register) → P f from → Q) → OnSpawn P i → Q
from_spawn P Q (Instr.Spawn r f from site) k h = k f from h
from_spawn P Q _ k h = absurd h

abbrev pub IsNoExit : Instr → Type 0
IsNoExit Instr.Exit = ⊥
IsNoExit _ = Unit {0}

no_exit : (P : Type 0) (i : Instr) → IsNoExit i → OnExit P i → ⊥
no_exit P Instr.Exit n h = n
no_exit P _ n h = h

fit_of : (code : Code) (s : Shape) (elements : ℕ → ℕ) (w : World) (heap : Heap) (words : List ℕ) (t : ℕ) (m : Machine) (i : Instr) (y : Stage) → IsNoExit i → StageStands code s elements w heap words t m i y → IsFit s y
fit_of code s elements w heap words t m i (Makes v) n h = from_new _ (v.arguments.first ≡ first_cell s) i (λ r count cells k. ap (λ (a : Rattle.sharc_heap.specs.declared.arguments.NewArguments.NewArguments). a.first) k.0) h
fit_of code s elements w heap words t m i (Names k) n h = from_spawn _ (k < THREADS) i (λ f from z. z.few) h
fit_of code s elements w heap words t m i (Hands k) n h = from_spawn _ (k < THREADS) i (λ f from z. z.0.few) h
fit_of code s elements w heap words t m i (Begins k) n h = from_spawn _ (k < THREADS) i (λ f from z. z.0.few) h
fit_of code s elements w heap words t m i (Withdraws row) n h = no_exit _ i n h
fit_of code s elements w heap words t m i (WithdrawsFrom row seen) n h = no_exit _ i n h
fit_of code s elements w heap words t m i Leaves n h = no_exit _ i n h
fit_of code s elements w heap words t m i _ n h = tt

-- ---- all granules
abbrev pub AllMarked : Shape → Global Machine → (ℕ → Marks) → Type 0
AllMarked s g marks = (p : ℕ) → p < granules s
    → MarkedAt (slice_index g.words (shadow_at s p)) (λ k. noted_by (g.threads k) Read p) (λ k. noted_by (g.threads k) Write p) (λ k. may_go (g.threads k).at.state) (marks p)

-- the turn of thread t leaves them
left_marked : (s : Shape) (g : Global Machine) (t : ℕ) (words : List ℕ) (m' : Machine) (marks : ℕ → Marks) → may_go (g.threads t).at.state ≡ true → ((p : ℕ) → p < granules s → slice_index words (shadow_at s p) ≡ slice_index g.words (shadow_at s p))
    → ((kind : Kind) (p : ℕ) → noted_by m' kind p ≡ noted_by (g.threads t) kind p) → AllMarked s g marks → AllMarked s (made_turn g t words m') marks
left_marked s g t words m' marks go same notes h p lt =
    let kept : (kind : Kind) (k : ℕ) → noted_by (put g.threads t m' k) kind p ≡ noted_by (g.threads k) kind p = λ kind. put_all (λ k (n : Machine). noted_by n kind p ≡ noted_by (g.threads k) kind p) g.threads t m' (notes kind p) (λ k _. refl) in
    at_same (slice_index g.words (shadow_at s p)) (slice_index words (shadow_at s p)) (λ k. noted_by (g.threads k) Read p) (λ k. noted_by (g.threads k) Write p) (λ k. noted_by (put g.threads t m' k) Read p) (λ k. noted_by (put g.threads t m' k) Write p)
    (λ k. may_go (g.threads k).at.state) (λ k. may_go (put g.threads t m' k).at.state) (marks p) (same p lt) (kept Read) (kept Write)
    (put_all (λ k (n : Machine). may_go n.at.state ≡ true → may_go (g.threads k).at.state ≡ true) g.threads t m' (λ _. go) (λ k _ z. z)) (h p lt)

-- or it leaves all but that of one granule
set_marked : (s : Shape) (g : Global Machine) (t d v : ℕ) (m' : Machine) (marks : ℕ → Marks) (f : Marks) → may_go (g.threads t).at.state ≡ true → d < granules s → shadow_at s d < length g.words
    → ((kind : Kind) (p : ℕ) → (p ≡ d → ⊥) → noted_by m' kind p ≡ noted_by (g.threads t) kind p)
    → MarkedAt v (λ k. noted_by (put g.threads t m' k) Read d) (λ k. noted_by (put g.threads t m' k) Write d) (λ k. may_go (put g.threads t m' k).at.state) f
    → AllMarked s g marks → AllMarked s (made_turn g t (slice_set g.words (shadow_at s d) v) m') (put marks d f)
set_marked s g t d v m' marks f go low long notes here h =
    let words = slice_set g.words (shadow_at s d) v in
    let at = index_put g.words (shadow_at s d) v long in
    let P : ℕ → Marks → Type 0 = λ p f. p < granules s → MarkedAt (slice_index words (shadow_at s p)) (λ k. noted_by (put g.threads t m' k) Read p) (λ k. noted_by (put g.threads t m' k) Write p) (λ k. may_go (put g.threads t m' k).at.state) f in
    put_all P marks d f
    (λ lt. subst (λ v. MarkedAt v (λ k. noted_by (put g.threads t m' k) Read d) (λ k. noted_by (put g.threads t m' k) Write d) (λ k. may_go (put g.threads t m' k).at.state) f)
    (sym (at (shadow_at s d) ∙ put_same (λ i. slice_index g.words i) (shadow_at s d) v)) here)
    (λ p ne lt.
    let kept : (kind : Kind) (k : ℕ) → noted_by (put g.threads t m' k) kind p ≡ noted_by (g.threads k) kind p = λ kind. put_all (λ k (n : Machine). noted_by n kind p ≡ noted_by (g.threads k) kind p) g.threads t m' (notes kind p ne) (λ k _. refl) in
    let same : slice_index words (shadow_at s p) ≡ slice_index g.words (shadow_at s p) = at (shadow_at s p) ∙ put_other (λ i. slice_index g.words i) (shadow_at s d) (shadow_at s p) v (λ e. ne (apart p d e)) in
    at_same (slice_index g.words (shadow_at s p)) (slice_index words (shadow_at s p)) (λ k. noted_by (g.threads k) Read p) (λ k. noted_by (g.threads k) Write p) (λ k. noted_by (put g.threads t m' k) Read p) (λ k. noted_by (put g.threads t m' k) Write p)
    (λ k. may_go (g.threads k).at.state) (λ k. may_go (put g.threads t m' k).at.state) (marks p) same (kept Read) (kept Write)
    (put_all (λ k (n : Machine). may_go n.at.state ≡ true → may_go (g.threads k).at.state ≡ true) g.threads t m' (λ _. go) (λ k _ z. z)) (h p lt))
  where
    apart : (p d : ℕ) → first_shadow + p ≡ first_shadow + d → p ≡ d
    apart p d e = omega (arith, e)

-- what a turn found
pub found_at : (code : Code) (s : Shape) (g : Global Machine) (tr : Turn) → MayTurn bounds (one_thread code s) g tr → (step : WordStep) (next : ℕ → Machine) → turn code s (g.threads tr.thread) ≡ Asks step next → result_of tr.event ≡ slice_index g.words step.word
found_at code s g tr may step next e =
    let some = some_step tr.event step (may.next.asks ∙ ap (λ (tr : StepTurn). asked_by tr) e) in
    let a : MayFollow g.words some.0 = subst (Answered g.words) some.1.0 may.answered in
    ap result_of some.1.0 ∙ a.result_is ∙ ap (λ (y : WordStep). slice_index g.words y.word) some.1.1

-- ---- one turn
module _ (x : Targets) (code : Code) (s : Shape) (ls : Labels) (laws : ShadowLaws) (g : Global Machine) (world : World) (st : State x code s ls g world) (tr : Turn) (may : MayTurn bounds (one_thread code s) g tr) (marks : ℕ → Marks) (h : AllMarked s g marks) where
  open turn_at st tr use {t, m, after}
  open turn_stands st tr may use {number}

  go : may_go (g.threads tr.thread).at.state ≡ true
  go = may.next.runs

  going : is_ended (g.threads tr.thread).at.state ≡ false
  going = going_on m.at.state go

  few : tr.thread < THREADS
  few = st.begins.few t may.started

  stage_here : StageStands code s st.elements world st.heap g.words tr.thread (g.threads tr.thread) (instr_at code (g.threads tr.thread).at.pc) (g.threads tr.thread).own.stage
  stage_here = ((st.threads t).runs may.started go).stage

  -- what the turn found
  found_is : (step : WordStep) (next : ℕ → Machine) → turn code s (g.threads tr.thread) ≡ Asks step next → result_of tr.event ≡ slice_index g.words step.word
  found_is = found_at code s g tr may

  -- it leaves the shadow words
  same_word : (k v p : ℕ) → k < length g.words → v ≡ slice_index g.words k → slice_index (slice_set g.words k v) p ≡ slice_index g.words p
  same_word k v p long e = index_put g.words k v long p ∙ put_all (λ j y. y ≡ slice_index g.words j) (λ i. slice_index g.words i) k v e (λ j _. refl) p

  off_word : (k v p : ℕ) → k < length g.words → (p ≡ k → ⊥) → slice_index (slice_set g.words k v) p ≡ slice_index g.words p
  off_word k v p long ne = index_put g.words k v long p ∙ put_other (λ i. slice_index g.words i) k p v ne

  abbrev Kept : Touch → Type 0
  Kept y = AllMarked s (after_turn bounds (one_thread code s) g tr) (marks_by y tr.thread marks)

  left : (words : List ℕ) (m' : Machine) → after_turn bounds (one_thread code s) g tr ≡ made_turn g tr.thread words m' → ((p : ℕ) → p < granules s → slice_index words (shadow_at s p) ≡ slice_index g.words (shadow_at s p))
      → ((kind : Kind) (p : ℕ) → noted_by m' kind p ≡ noted_by (g.threads tr.thread) kind p) → Kept Untouched
  left words m' done same notes = subst (λ y. AllMarked s y marks) (sym done) (left_marked s g t words m' marks go same notes h)

  plain_turn : (T : StepTurn) → turn code s (g.threads tr.thread) ≡ T → is_withdrawing (g.threads tr.thread).own.stage ≡ false → LeavesWords s T → ((found : ℕ) → KeepsNotes (g.threads tr.thread) (after_step T found)) → Kept Untouched
  plain_turn (Local m') e calm k notes = left g.words m' (local_turn code s g tr may m' e) (λ p lt. refl) (keeps_noted m m' calm going (notes 0))
  plain_turn (Asks step next) e calm k notes =
      let done = asks_turn code s g tr may step next e in
      let found = slice_index g.words step.word in
      left (slice_set g.words step.word (word_after step.op found)) (next found) done.0
      (λ p lt. ⊎_elim
      (λ (q : step.word ≡ shadow_at s p). same_word step.word (word_after step.op found) (shadow_at s p) done.1 (k p lt q found))
      (λ (ne : step.word ≡ shadow_at s p → ⊥). off_word step.word (word_after step.op found) (shadow_at s p) done.1 (λ q. ne (sym q)))
      (cases_eq step.word (shadow_at s p)))
      (keeps_noted m (next found) calm going (notes found))

  plain_kept : TurnsComeOut → (i : Instr) → instr_at code (g.threads tr.thread).at.pc ≡ i → IsNoExit i → IsPlain i (g.threads tr.thread).own.stage → Kept Untouched
  plain_kept outs i is n p =
      let fit = fit_of code s st.elements world st.heap g.words t m i m.own.stage n (subst (λ i. StageStands code s st.elements world st.heap g.words t m i m.own.stage) is stage_here) in
      let calm = fit_calm s m.own.stage fit in
      plain_turn (act code s i m) (ap (λ i. act code s i m) is) calm (leaves code s m i fit p) (λ found. keeps_notes s i found m _ (outs code s i m found) calm p)

  -- ---- a Swap to `cleared`
  swapped : (d seen : ℕ) (m' : Machine) → turn code s (g.threads tr.thread) ≡ Asks (step_of (shadow_word s d) (Swap (cleared_of seen))) (λ found. m') → ((kind : Kind) (p : ℕ) → noted_by m' kind p ≡ noted_by (g.threads tr.thread) kind p)
      → Kept (ClearOf (granule_at s d))
  swapped d seen m' e notes =
      let d0 = granule_at s d in
      let v = cleared_of seen in
      let done = asks_turn code s g tr may (step_of (shadow_word s d) (Swap v)) (λ found. m') e in
      let c = laws.clears seen in
      subst (λ y. AllMarked s y (put marks d0 no_marks)) (sym done.0)
      (set_marked s g t d0 v m' marks no_marks go (at_low s d) done.1 (λ kind p _. notes kind p)
      (at_clear v (λ k. noted_by (put g.threads t m' k) Read d0) (λ k. noted_by (put g.threads t m' k) Write d0) (λ k. may_go (put g.threads t m' k).at.state) c.threads c.written) h)

  staged_notes : (stage : Stage) → is_withdrawing stage ≡ false → KeepsNotes (g.threads tr.thread) (at_stage (g.threads tr.thread) stage)
  staged_notes stage calm = record { table = refl; stage = calm; ended = refl }

  cleared_notes : (done all : ℕ) → KeepsNotes (g.threads tr.thread) (looks (g.threads tr.thread) done all)
  cleared_notes done all = elim (nat_lt done all) as (λ b. KeepsNotes m (if b then at_stage m (Looks done all) else rests m)) [ true ↦ staged_notes (Looks done all) refl | false ↦ record { table = refl; stage = refl; ended = refl } ]

  freed_notes : (l : Layout) (done elements : ℕ) → KeepsNotes (g.threads tr.thread) (free_looks (g.threads tr.thread) l done elements)
  freed_notes l done elements = elim (nat_lt done (data_granules elements l.cells)) as (λ b. KeepsNotes m (if b then at_stage m (FreeLooks done elements) else at_stage m (Uncounts elements))) [ true ↦ staged_notes (FreeLooks done elements) refl | false ↦ staged_notes (Uncounts elements) refl ]

  clear_kept : TurnsComeOut → (r cells : ℕ) → instr_at code (g.threads tr.thread).at.pc ≡ Instr.Clear r cells → (y : Stage) → (g.threads tr.thread).own.stage ≡ y → Kept (cleared_by s (ref (g.threads tr.thread) r) y)
  clear_kept outs r cells is (Clears done all seen) e =
      let calm : is_withdrawing m.own.stage ≡ false = ap is_withdrawing e in
      swapped (data_granule (ref m r) done) seen (looks m (done + 1) all) (ap (λ i. act code s i m) is ∙ ap (clear s m (ref m r) cells) e) (keeps_noted m (looks m (done + 1) all) calm going (cleared_notes (done + 1) all))
  clear_kept outs r cells is y e = plain_kept outs (Instr.Clear r cells) is tt (subst (IsPlain (Instr.Clear r cells)) (sym e) (refl, refl))

  free_kept : TurnsComeOut → (r layout site : ℕ) → instr_at code (g.threads tr.thread).at.pc ≡ Instr.Free r layout site → (y : Stage) → (g.threads tr.thread).own.stage ≡ y → Kept (freed_by s (ref (g.threads tr.thread) r) y)
  free_kept outs r layout site is (FreeClears done elements seen) e =
      let calm : is_withdrawing m.own.stage ≡ false = ap is_withdrawing e in
      let l = layout_at code layout in
      swapped (data_granule (ref m r) done) seen (free_looks m l (done + 1) elements) (ap (λ i. act code s i m) is ∙ ap (free code s m r l) e) (keeps_noted m (free_looks m l (done + 1) elements) calm going (freed_notes l (done + 1) elements))
  free_kept outs r layout site is y e = plain_kept outs (Instr.Free r layout site) is tt (subst (IsPlain (Instr.Free r layout site)) (sym e) (refl, refl))

  -- ---- a check
  checked_notes : (kind : Kind) (p old site : ℕ) (stop : Stop) → is_withdrawing (g.threads tr.thread).own.stage ≡ false → p < granules s → (b : Bool)
      → Noted (g.threads tr.thread) (if b then stopped (g.threads tr.thread) stop else with_own (g.threads tr.thread) (with_note (g.threads tr.thread).own p kind (epoch_of old) site)) kind p (epoch_of old)
  checked_notes kind p old site stop calm low true = record {
    still = λ k z. keeps_noted m (stopped m stop) calm going record { table = refl; stage = calm; ended = refl } k p ∙ z;
    fresh = λ z. absurd (cc);
    others = λ k q _. keeps_noted m (stopped m stop) calm going record { table = refl; stage = calm; ended = refl } k q;
  }
  checked_notes kind p old site stop calm low false =
      let e = epoch_of old in
      let m' = with_own m (with_note m.own p kind e site) in
      let long : p < length m.own.table.notes = subst (λ n. p < n) (sym (st.threads t).has.notes) low in
      let f : Kind → ℕ → ℕ = λ k q. note_number (note_of m.own.table q k) in
      let now : (k : Kind) (q : ℕ) → noted_by m' k q ≡ (if same_kind k kind then put (f k) p (suc e) q else f k q) = λ k q. noted_calm m' (ap is_withdrawing (with_note_stage m.own p kind e site) ∙ calm) refl k q ∙ noted_numbers m.own p kind e site long k q in
      record {
        still = λ k z. now k p ∙ still_is k kind (f k) p (suc e) (sym (noted_calm m calm going k p) ∙ z);
        fresh = λ _. now kind p ∙ fresh_is kind (f kind) p (suc e);
        others = λ k q ne. now k q ∙ sym (other_put (same_kind k kind) (f k) p (suc e) q ne) ∙ sym (noted_calm m calm going k q);
      }

  marked_check : (kind : Kind) (v v' : ℕ) (rn wn rn' wn' : ℕ → ℕ) (goes goes' : ℕ → Bool) (f : Marks) (u : ℕ) (ok : Bool) → ((k : ℕ) → rn k ≡ suc (epoch_of v) → rn' k ≡ suc (epoch_of v)) → ((k : ℕ) → wn k ≡ suc (epoch_of v) → wn' k ≡ suc (epoch_of v))
      → goes' u ≡ ok → goes u ≡ true → ((k : ℕ) → (k ≡ u → ⊥) → goes' k ≡ goes k) → MarkedAt v rn wn goes f → AddsAccess v v' u kind → (kind ≡ Read → ok ≡ true → rn' u ≡ suc (epoch_of v)) → (kind ≡ Write → ok ≡ true → wn' u ≡ suc (epoch_of v))
      → MarkedAt v' rn' wn' goes' (with_check kind ok u f)
  marked_check Read v v' rn wn rn' wn' goes goes' f u ok a b c d e h adds nr nw = at_read v v' rn wn rn' wn' goes goes' f u ok a b c d e h adds (nr refl)
  marked_check Write v v' rn wn rn' wn' goes goes' f u ok a b c d e h adds nr nw = at_write v v' rn wn rn' wn' goes goes' f u ok a b c d e h adds (nw refl)

  check_kept : (kind : Kind) (granule site : ℕ) → is_withdrawing (g.threads tr.thread).own.stage ≡ false → turn code s (g.threads tr.thread) ≡ check s (g.threads tr.thread) kind granule site
      → Kept (CheckOf kind (granule_at s granule) (may_go ((after_turn bounds (one_thread code s) g tr).threads tr.thread).at.state))
  check_kept kind granule site calm e =
      let d = granule_at s granule in
      let old = slice_index g.words (shadow_at s d) in
      let bits = bits_of m.own.number kind in
      let v = bit_or old bits in
      let m' = checked m kind d site old in
      let done = asks_turn code s g tr may (step_of (shadow_word s granule) (Or bits)) (checked m kind d site) e in
      let notes : Noted m m' kind d (epoch_of old) =
      checked_notes kind d old site (Conflict record { kind = kind; site = site; granule = d; epoch = epoch_of old; old = old }) calm (at_low s granule) (conflicts_in old m.own.number kind (wrote m d old)) in
      let adds : AddsAccess old v t kind = subst (λ n. AddsAccess old (bit_or old (bits_of n kind)) t kind) (sym number) (laws.or_adds old t kind few) in
      let ok = may_go (put g.threads t m' t).at.state in
      let ok_is : put g.threads t m' t ≡ m' = put_same g.threads t m' in
      let kept : (kind : Kind) (k : ℕ) → noted_by (g.threads k) kind d ≡ suc (epoch_of old) → noted_by (put g.threads t m' k) kind d ≡ suc (epoch_of old) = λ kind. put_all (λ k (n : Machine). noted_by (g.threads k) kind d ≡ suc (epoch_of old) → noted_by n kind d ≡ suc (epoch_of old)) g.threads t m' (notes.still kind) (λ k _ z. z) in
      let new : ok ≡ true → noted_by (put g.threads t m' t) kind d ≡ suc (epoch_of old) = λ z. ap (λ (n : Machine). noted_by n kind d) ok_is ∙ notes.fresh (ap (λ (n : Machine). may_go n.at.state) (sym ok_is) ∙ z) in
      let here = marked_check kind old v (λ k. noted_by (g.threads k) Read d) (λ k. noted_by (g.threads k) Write d) (λ k. noted_by (put g.threads t m' k) Read d) (λ k. noted_by (put g.threads t m' k) Write d)
      (λ k. may_go (g.threads k).at.state) (λ k. may_go (put g.threads t m' k).at.state) (marks d) t ok (kept Read) (kept Write) refl go (λ k ne. ap (λ (n : Machine). may_go n.at.state) (put_other g.threads t k m' ne)) (h d (at_low s granule)) adds
      (λ q z. ap (λ k. noted_by (put g.threads t m' t) k d) (sym q) ∙ new z) (λ q z. ap (λ k. noted_by (put g.threads t m' t) k d) (sym q) ∙ new z) in
      subst (λ (y : Global Machine). AllMarked s y (put marks d (with_check kind (may_go (y.threads t).at.state) t (marks d)))) (sym done.0)
      (set_marked s g t d v m' marks (with_check kind ok t (marks d)) go (at_low s granule) done.1 notes.others here h)

  -- ---- an Exit
  abbrev N : Kind → ℕ → ℕ
  N kind p = note_number (note_of (g.threads tr.thread).own.table p kind)

  noted_at_stage : (y : Stage) → (g.threads tr.thread).own.stage ≡ y → (kind : Kind) (p : ℕ) → noted_by (g.threads tr.thread) kind p ≡ cond (has_withdrawn y (g.threads tr.thread).own.table.order (is_ended (g.threads tr.thread).at.state) p) 0 (N kind p)
  noted_at_stage y e kind p = ap (λ y. cond (has_withdrawn y m.own.table.order (is_ended m.at.state) p) 0 (N kind p)) e

  act_exit : instr_at code (g.threads tr.thread).at.pc ≡ Instr.Exit → (y : Stage) → (g.threads tr.thread).own.stage ≡ y → turn code s (g.threads tr.thread) ≡ exit s (g.threads tr.thread) y
  act_exit is y e = ap (λ i. act code s i m) is ∙ ap (exit s m) e

  -- a turn on the state word
  says : (v : ℕ) (next : ℕ → Machine) → turn code s (g.threads tr.thread) ≡ Asks (step_of (state_word (g.threads tr.thread).own.number) (Swap v)) next → ((found : ℕ) (kind : Kind) (p : ℕ) → noted_by (next found) kind p ≡ noted_by (g.threads tr.thread) kind p) → Kept Untouched
  says v next e notes =
      let k = state_word m.own.number in
      let done = asks_turn code s g tr may (step_of k (Swap v)) next e in
      let found = slice_index g.words k in
      let low : m.own.number < THREADS = subst (λ n. n < THREADS) (sym number) few in
      left (slice_set g.words k v) (next found) done.0 (λ p lt. off_word k v (shadow_at s p) done.1 (apart m.own.number p low)) (notes found)
    where
      apart : (n p : ℕ) → n < THREADS → first_shadow + p ≡ state_word n → ⊥
      apart n p lt e = omega (arith, lt, e)

  -- the Cas of a row
  withdraw_kept : (row seen : ℕ) → instr_at code (g.threads tr.thread).at.pc ≡ Instr.Exit → (g.threads tr.thread).own.stage ≡ WithdrawsFrom row seen → row < length (g.threads tr.thread).own.table.order
      → Kept (withdrawn_by s (g.threads tr.thread) (result_of tr.event) (WithdrawsFrom row seen))
  withdraw_kept row seen is e lt =
      let q = row_of m row in
      let order = m.own.table.order in
      let lists = (st.threads t).has.table in
      let d = granule_at s q in
      let d_is : d ≡ q = in_low s q (subst (λ n. q < n) (st.threads t).has.notes (row_low m.own.table lists row lt)) in
      let k = shadow_at s d in
      let old = slice_index g.words k in
      let v = without_own m row seen in
      let te = act_exit is (WithdrawsFrom row seen) e in
      let done = asks_turn code s g tr may (step_of (shadow_word s q) (Cas seen v)) (withdrew m row seen) te in
      let found : result_of tr.event ≡ old = found_is (step_of (shadow_word s q) (Cas seen v)) (withdrew m row seen) te in
      let Q : Bool → Type 0 = λ b. AllMarked s after (marks_by (cond b (WithdrawOf d) Untouched) t marks) in
      subst (λ n. Q (n == seen)) (sym found) (⊎_elim
      (λ (same : old ≡ seen).
      let yes : (old == seen) ≡ true = ap (λ n. n == seen) same ∙ eq_refl seen in
      let m' = withdraws m (row + 1) in
      let done' : after ≡ made_turn g t (slice_set g.words k v) m' = done.0 ∙ ap (λ b. made_turn g t (slice_set g.words k (cond b v old)) (cond b (withdraws m (row + 1)) (at_stage m (WithdrawsFrom row old)))) yes in
      let now : (kind : Kind) (p : ℕ) → noted_by m' kind p ≡ cond (is_row (take row order) p || p == q) 0 (N kind p) = λ kind p.
      noted_withdraws m lists (row + 1) (omega arith) kind p ∙ ap (λ n. cond (is_row (take n order) p) 0 (N kind p)) (let z : row + 1 ≡ suc row = omega arith in z) ∙ ap (λ b. cond b 0 (N kind p)) (one_more order row p lt) in
      let was : (kind : Kind) (p : ℕ) → noted_by m kind p ≡ cond (is_row (take row order) p) 0 (N kind p) = noted_at_stage (WithdrawsFrom row seen) e in
      let others : (kind : Kind) (p : ℕ) → (p ≡ d → ⊥) → noted_by m' kind p ≡ noted_by m kind p = λ kind p ne.
      now kind p ∙ ap (λ b. cond (is_row (take row order) p || b) 0 (N kind p)) (ne_eq p q (λ z. ne (z ∙ sym d_is))) ∙ ap (λ b. cond b 0 (N kind p)) (or_false (is_row (take row order) p)) ∙ sym (was kind p) in
      let w = wrote m q seen in
      let v_is : v ≡ withdrawn_of old t w = ap (λ n. withdrawn_of seen n w) number ∙ ap (λ n. withdrawn_of n t w) (sym same) in
      let wd : WithdrawsWord old v t w = subst (λ n. WithdrawsWord old n t w) (sym v_is) (laws.withdraws old t w (st.are_words k) few) in
      let own_note : noted_by m Write d ≡ N Write q = ap (noted_by m Write) d_is ∙ was Write q ∙ ap (λ b. cond b 0 (N Write q)) (first_row m.own.table lists row lt) in
      let own : is_of w (epoch_of old) ≡ nat_eq (noted_by m Write d) (suc (epoch_of old)) =
      ap (λ n. is_of w (epoch_of n)) same ∙ wrote_now m q seen ∙ ap (λ n. nat_eq n (suc (epoch_of seen))) (sym own_note) ∙ ap (λ n. nat_eq (noted_by m Write d) (suc (epoch_of n))) (sym same) in
      let kept : (kind : Kind) (k : ℕ) → (k ≡ t → ⊥) → noted_by (put g.threads t m' k) kind d ≡ noted_by (g.threads k) kind d = λ kind k ne. ap (λ (n : Machine). noted_by n kind d) (put_other g.threads t k m' ne) in
      let here = at_withdraw old v (λ k. noted_by (g.threads k) Read d) (λ k. noted_by (g.threads k) Write d) (λ k. noted_by (put g.threads t m' k) Read d) (λ k. noted_by (put g.threads t m' k) Write d)
      (λ k. may_go (g.threads k).at.state) (λ k. may_go (put g.threads t m' k).at.state) (marks d) t w wd own (kept Read) (kept Write) go
      (put_all (λ k (n : Machine). may_go n.at.state ≡ true → may_go (g.threads k).at.state ≡ true) g.threads t m' (λ _. go) (λ k _ z. z)) (h d (at_low s q)) in
      subst Q (sym yes) (subst (λ y. AllMarked s y (put marks d (without_thread t (marks d)))) (sym done') (set_marked s g t d v m' marks (without_thread t (marks d)) go (at_low s q) done.1 others here h)))
      (λ (ne : old ≡ seen → ⊥).
      let no' : (old == seen) ≡ false = ne_eq old seen ne in
      let m' = at_stage m (WithdrawsFrom row old) in
      let done' : after ≡ made_turn g t (slice_set g.words k old) m' = done.0 ∙ ap (λ b. made_turn g t (slice_set g.words k (cond b v old)) (cond b (withdraws m (row + 1)) (at_stage m (WithdrawsFrom row old)))) no' in
      subst Q (sym no') (left (slice_set g.words k old) m' done' (λ p lt. same_word k old (shadow_at s p) done.1 refl) (λ kind p. sym (noted_at_stage (WithdrawsFrom row seen) e kind p))))
      (cases_eq old seen))

  abbrev StageHere : Stage → Type 0
  StageHere y = StageStands code s st.elements world st.heap g.words tr.thread (g.threads tr.thread) Instr.Exit y

  first_says : instr_at code (g.threads tr.thread).at.pc ≡ Instr.Exit → turn code s (g.threads tr.thread) ≡ Asks (step_of (state_word (g.threads tr.thread).own.number) (Swap 2)) (λ found. withdraws (g.threads tr.thread) 0) → is_withdrawing (g.threads tr.thread).own.stage ≡ false → Kept Untouched
  first_says is e calm = says 2 (λ found. withdraws m 0) e (λ found kind p. noted_withdraws m (st.threads t).has.table 0 (omega arith) kind p ∙ sym (noted_calm m calm going kind p))

  exit_kept : instr_at code (g.threads tr.thread).at.pc ≡ Instr.Exit → (y : Stage) → (g.threads tr.thread).own.stage ≡ y → StageHere y → Kept (withdrawn_by s (g.threads tr.thread) (result_of tr.event) y)
  exit_kept is (Withdraws row) e stands' =
      let k = shadow_word s (row_of m row) in
      let found = slice_index g.words k in
      let m' = at_stage m (WithdrawsFrom row found) in
      let done = asks_turn code s g tr may (step_of k Load) (λ found. at_stage m (WithdrawsFrom row found)) (act_exit is (Withdraws row) e) in
      left (slice_set g.words k found) m' done.0 (λ p lt. same_word k found (shadow_at s p) done.1 refl) (λ kind p. sym (noted_at_stage (Withdraws row) e kind p))
  exit_kept is (WithdrawsFrom row seen) e stands' = withdraw_kept row seen is e stands'
  exit_kept is Leaves e stands' =
      says 3 (λ found. record m { at = ends m.at; own = record m.own { stage = Rests } }) (act_exit is Leaves e) (λ found kind p. sym (noted_at_stage Leaves e kind p))
  exit_kept is y e stands' = first_says is (act_exit is y e) (ap is_withdrawing e)

  pub check_calm : (i : Instr) → instr_at code (g.threads tr.thread).at.pc ≡ i → IsNoExit i → is_withdrawing (g.threads tr.thread).own.stage ≡ false
  check_calm i is n = fit_calm s m.own.stage (fit_of code s st.elements world st.heap g.words t m i m.own.stage n (subst (λ i. StageStands code s st.elements world st.heap g.words t m i m.own.stage) is stage_here))

  by_instr : TurnsComeOut → (i : Instr) → instr_at code (g.threads tr.thread).at.pc ≡ i → Kept (touch_of s i (g.threads tr.thread) (result_of tr.event) ((after_turn bounds (one_thread code s) g tr).threads tr.thread))
  by_instr outs (Instr.ChkRead cell site) is = check_kept Read (granule_of (place m cell)) site (check_calm (Instr.ChkRead cell site) is tt) (ap (λ i. act code s i m) is)
  by_instr outs (Instr.ChkWrite cell site) is = check_kept Write (granule_of (place m cell)) site (check_calm (Instr.ChkWrite cell site) is tt) (ap (λ i. act code s i m) is)
  by_instr outs (Instr.Clear r cells) is = clear_kept outs r cells is m.own.stage refl
  by_instr outs (Instr.Free r layout site) is = free_kept outs r layout site is m.own.stage refl
  by_instr outs Instr.Exit is = exit_kept is m.own.stage refl (subst (λ i. StageStands code s st.elements world st.heap g.words t m i m.own.stage) is stage_here)
  by_instr outs i is = plain_kept outs i is tt (refl, refl)

  pub marked_turn : TurnsComeOut → AllMarked s (after_turn bounds (one_thread code s) g tr) (marks_now code s g tr marks)
  marked_turn outs = by_instr outs (instr_at code m.at.pc) refl

-- ---- what stands of the bits
module _ (x : Targets) (code : Code) (s : Shape) (ls : Labels) (g : Global Machine) (world : World) (st : State x code s ls g world) (marks : ℕ → Marks) (h : AllMarked s g marks) where
  -- a thread with a note of the word's epoch has passed a check on a granule of a live object
  pub owned : (p k : ℕ) → p < granules s → (noted_by (g.threads k) Read p ≡ suc (epoch_of (slice_index g.words (shadow_at s p)))) ⊎ (noted_by (g.threads k) Write p ≡ suc (epoch_of (slice_index g.words (shadow_at s p)))) → (b : Bool)
      → ((o q : ℕ) → (world.obj o).live ≡ true → 2 * q < st.cells o → p ≡ o + 1 + q → b ≡ true) → b ≡ true
  owned p k lt notes b f = true_from_ne_false b (λ e.
      let e' = epoch_of (slice_index g.words (shadow_at s p)) in
      let old = st.sim.stale p lt (λ o q lv lq pe. let z = f o q lv lq pe in absurd (cc)) k in
      ⊎_elim
      (λ (a : noted_by (g.threads k) Read p ≡ suc e'). let z = old.0 in absurd (omega arith))
      (λ (a : noted_by (g.threads k) Write p ≡ suc e'). let z = old.1 in absurd (omega arith))
      notes)

  pub bit_here : (p k o q : ℕ) → (noted_by (g.threads k) Read p ≡ suc (epoch_of (slice_index g.words (shadow_at s p)))) ⊎ (noted_by (g.threads k) Write p ≡ suc (epoch_of (slice_index g.words (shadow_at s p))))
      → (world.obj o).live ≡ true → 2 * q < st.cells o → p ≡ o + 1 + q → stands (slice_index g.words (shadow_at s p)) k ≡ true
  bit_here p k o q notes lv lq pe =
      let r = st.sim.shadows o q lv lq in
      let gr = world.gran o q in
      let epoch : gr.epoch ≡ epoch_of (slice_index g.words (shadow_at s p)) = r.epoch ∙ ap (λ n. epoch_of (slice_index g.words (shadow_at s n))) (sym pe) in
      let passed : Passed gr k false = ⊎_elim
      (λ (a : noted_by (g.threads k) Read p ≡ suc (epoch_of (slice_index g.words (shadow_at s p)))). inl (r.read_note k ∙ ap (noted_by (g.threads k) Read) (sym pe) ∙ a ∙ ap suc (sym epoch)))
      (λ (a : noted_by (g.threads k) Write p ≡ suc (epoch_of (slice_index g.words (shadow_at s p)))). inr (r.write_note k ∙ ap (noted_by (g.threads k) Write) (sym pe) ∙ a ∙ ap suc (sym epoch)))
      notes in
      ap (λ n. stands (slice_index g.words (shadow_at s n)) k) pe ∙ sym (r.has k) ∙ (st.inv.bits o q).bit k passed

  pub written_here : (p k o q : ℕ) → noted_by (g.threads k) Write p ≡ suc (epoch_of (slice_index g.words (shadow_at s p)))
      → (world.obj o).live ≡ true → 2 * q < st.cells o → p ≡ o + 1 + q → is_written (slice_index g.words (shadow_at s p)) ≡ true
  written_here p k o q a lv lq pe =
      let r = st.sim.shadows o q lv lq in
      let gr = world.gran o q in
      let epoch : gr.epoch ≡ epoch_of (slice_index g.words (shadow_at s p)) = r.epoch ∙ ap (λ n. epoch_of (slice_index g.words (shadow_at s n))) (sym pe) in
      let passed : Passed gr k true = r.write_note k ∙ ap (noted_by (g.threads k) Write) (sym pe) ∙ a ∙ ap suc (sym epoch) in
      ap (λ n. is_written (slice_index g.words (shadow_at s n))) pe ∙ sym r.wrote ∙ (st.inv.bits o q).written k passed

  bits_at : (p : ℕ) → p < granules s → BitsStand (slice_index g.words (shadow_at s p)) (marks p)
  bits_at p lt =
      let z = h p lt in
      let v = slice_index g.words (shadow_at s p) in
      record {
        passed = λ k e. owned p k lt (z.read k e) (stands v k) (λ o q lv lq pe. bit_here p k o q (z.read k e) lv lq pe);
        written = λ k e. owned p k lt (inr (z.write k e)) (is_written v) (λ o q lv lq pe. written_here p k o q (z.write k e) lv lq pe);
        made = z.made;
        wrote = z.wrote;
      }

  pub bits_stand : AllBitsStand s g.words marks
  bits_stand p lt = subst (λ n. BitsStand (slice_index g.words (first_shadow + n)) (marks p)) (sym (in_low s p lt)) (bits_at p lt)

-- ---- runs
first_marked : (x : Targets) (code : Code) (s : Shape) (ls : Labels) → IsWellTyped x code ls → Fits code s → ShadowLaws → AllMarked s (first_place code s) (λ p. no_marks)
first_marked x code s ls wt fits laws p lt =
    let g0 = first_place code s in
    let zero' : slice_index g0.words (shadow_at s p) ≡ 0 = shadow_zero x code s ls wt fits laws.empty p lt in
    at_clear (slice_index g0.words (shadow_at s p)) (λ k. noted_by (g0.threads k) Read p) (λ k. noted_by (g0.threads k) Write p) (λ k. may_go (g0.threads k).at.state)
    (λ k. ap (λ v. stands v k) zero' ∙ laws.empty.threads k) (ap is_written zero' ∙ laws.empty.written)

pub marked_after : TurnsComeOut → ShadowLaws → RunsFromTheBeginning → (x : Targets) (code : Code) (s : Shape) (ls : Labels) → IsWellTyped x code ls → Fits code s → IsSmall code s
    → (turns : List Turn) → IsRun bounds (one_thread code s) (first_place code s) turns → AllMarked s (at bounds (one_thread code s) (first_place code s) turns) (marks_after code s (first_place code s) turns)
marked_after outs laws runs x code s ls wt fits small [] run = first_marked x code s ls wt fits laws
marked_after outs laws runs x code s ls wt fits small (tr ∷ earlier) run =
    let r = runs x code s ls wt fits small earlier run.0 in
    let g = at bounds (one_thread code s) (first_place code s) earlier in
    marked_turn x code s ls laws g r.stands.world r.stands.state tr run.1 (marks_after code s (first_place code s) earlier) (marked_after outs laws runs x code s ls wt fits small earlier run.0) outs

pub runs_bits : TurnsComeOut → ShadowLaws → RunsFromTheBeginning → RunsBits
runs_bits outs laws runs x code s ls wt fits small turns run =
    let r = runs x code s ls wt fits small turns run in
    let g = at bounds (one_thread code s) (first_place code s) turns in
    bits_stand x code s ls g r.stands.world r.stands.state (marks_after code s (first_place code s) turns) (marked_after outs laws runs x code s ls wt fits small turns run)
