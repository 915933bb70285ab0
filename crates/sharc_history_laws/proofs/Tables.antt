-- The elements of objects by the source events are those that the length words of live objects hold.
use Rattle.sharc_history_laws.proofs.{Imports.{◌≡◌, ℕ, zero, suc, ◌+◌, ◌*◌, ◌%◌, ◌^◌, ◌<◌, ◌≤◌, ◌≢◌, ◌⊎◌, inl, inr, Bool, true, false, List, Option, Some, None, if◌then◌else◌, refl, sym, ap, ◌∙◌, subst, ⊎_elim, arith, eqb-true, cases_eq, cases_lt, nat_tests, get_or-set_other, slice_index, nat_eq, ◌==◌, ◌||◌, WordStep, WordEvent, word_after, words_after_step, SourceEvent, NewView, NewStage, waits_in, Code, Cell, Register, Instr, Shape, Stage, Makes, Uncounts, Begins, Enters, Withdraws, WithdrawsFrom, Leaves as Leaving, Wakes, first_cell, Machine, StepTurn as Turn, Local, Asks, ref, asked_by, Global, put, words_now, said, reference, number_of, take_local, nobody, in_signal, in_exit, in_spawn, in_start, in_free, in_new, new_event, Elements, elements_told, Targets, Labels, ObjectState, World, length_at, Built, Live, objects_behind, made_behind, new_behind, freed_behind, owned, gone, type_held, State, set_same, lt_of_le-ne}, Writes.{Wrote, Leaves, Low, CountOf, InCell, InBlock, Writes}}
use Rattle.sharc_code.specs.Runs.{step_of}
use Rattle.sharc_invariant.specs.Words.{cell_at}

-- ---- the object that a turn makes
abbrev pub header_at : NewStage → Option ℕ
header_at (NewStage.Length header) = Some header
header_at _ = None

abbrev pub header_in : Stage → Option ℕ
header_in (Makes v) = header_at v.stage
header_in _ = None

abbrev pub header_of : Instr → Stage → Option ℕ
header_of (Instr.New r count cells site) stage = header_in stage
header_of _ stage = None

abbrev pub elements_in_stage : Stage → ℕ
elements_in_stage (Makes v) = v.arguments.elements
elements_in_stage _ = 0

-- ---- what its event says
number_back : (header elements : ℕ) → header < 2 ^ 32 → number_of (reference header elements) ≡ header
number_back zero elements lt = refl
number_back (suc k) elements lt = let e : (suc k + 2 ^ 32 * elements) % 2 ^ 32 ≡ suc k = omega arith in e

module _ (T : Elements) (n : ℕ) where
  abbrev Kept : Option SourceEvent → Type 0
  Kept e = elements_told e T n ≡ T n

  either : (b : Bool) (x y : Option SourceEvent) → Kept x → Kept y → Kept (if b then x else y)
  either true x y h k = h
  either false x y h k = k

  at_local : (code : Code) (m : Machine) (site number elements : ℕ) → Kept (take_local code m site number elements)
  at_local code m site zero elements = refl
  at_local code m site (suc k) elements = refl

  at_free : (code : Code) (m : Machine) (r site elements : ℕ) (stage : Stage) → Kept (in_free code m r site elements stage)
  at_free code m r site elements (Uncounts all) = refl
  at_free code m r site elements _ = refl

  at_spawn : (code : Code) (m : Machine) (function : ℕ) (from : Register) (site elements : ℕ) (stage : Stage) → Kept (in_spawn code m function from site elements stage)
  at_spawn code m function from site elements (Begins k) = refl
  at_spawn code m function from site elements _ = refl

  at_start : (code : Code) (m : Machine) (found elements : ℕ) (stage : Stage) → Kept (in_start code m found elements stage)
  at_start code m found elements (Enters function) = refl
  at_start code m found elements _ = refl

  at_exit : (code : Code) (m : Machine) (stage : Stage) → Kept (in_exit code m stage)
  at_exit code m (Withdraws row) = refl
  at_exit code m (WithdrawsFrom row seen) = refl
  at_exit code m Leaving = refl
  at_exit code m _ = refl

  at_nobody : (code : Code) (m : Machine) (cell : Cell) (site found : ℕ) → Kept (nobody code m cell site found)
  at_nobody code m cell site zero = refl
  at_nobody code m cell site (suc k) = refl

  at_signal : (code : Code) (m : Machine) (cell : Cell) (site found : ℕ) (stage : Stage) → Kept (in_signal code m cell site found stage)
  at_signal code m cell site found (Wakes seen) = either (found == seen) _ _ refl (at_nobody code m cell site found)
  at_signal code m cell site found _ = at_nobody code m cell site found

  at_new_stage : (code : Code) (m : Machine) (site cells : ℕ) (v : NewView) (stage : NewStage) → ((header : ℕ) → header_at stage ≡ Some header → (header < 2 ^ 32) × (header ≢ n)) → Kept (new_event code m site cells v stage)
  at_new_stage code m site cells v (NewStage.Length header) h =
      let k = h header refl in
      let e : (number_of (reference header v.arguments.elements) == n) ≡ false = ap (λ j. j == n) (number_back header v.arguments.elements k.0) ∙ (let ne = k.1 in grind (arith, nat_tests)) in
      ap (λ b. if b then v.arguments.elements else T n) e
  at_new_stage code m site cells v _ h = refl

  at_new : (code : Code) (m : Machine) (site cells : ℕ) (stage : Stage) → ((header : ℕ) → header_in stage ≡ Some header → (header < 2 ^ 32) × (header ≢ n)) → Kept (in_new code m site cells stage)
  at_new code m site cells (Makes v) h = at_new_stage code m site cells v v.stage h
  at_new code m site cells _ h = refl

  -- a turn that does not make the object tells no other number of elements
  pub told_other : (code : Code) (i : Instr) (m : Machine) (found elements : ℕ) → ((header : ℕ) → header_of i m.own.stage ≡ Some header → (header < 2 ^ 32) × (header ≢ n)) → Kept (said code i m found elements)
  told_other code (Instr.New r count cells site) m found elements h = at_new code m site cells m.own.stage h
  told_other code (Instr.TakeLocal r from site) m found elements h = at_local code m site (ref m from) elements
  told_other code (Instr.Free r layout site) m found elements h = at_free code m r site elements m.own.stage
  told_other code (Instr.Lock c site) m found elements h = either (found == 0) _ _ refl refl
  told_other code (Instr.Spawn r function from site) m found elements h = at_spawn code m function from site elements m.own.stage
  told_other code (Instr.Join r site) m found elements h = either (found == 0 || (found == 1 || found == 2)) _ _ refl refl
  told_other code (Instr.Start site) m found elements h = at_start code m found elements m.own.stage
  told_other code Instr.Exit m found elements h = at_exit code m m.own.stage
  told_other code (Instr.CondWait c site) m found elements h = either (waits_in found m.own.number) _ _ refl refl
  told_other code (Instr.CondSignal c site) m found elements h = at_signal code m c site found m.own.stage
  told_other code _ m found elements h = refl

  made_stage : (code : Code) (m : Machine) (site cells : ℕ) (v : NewView) (stage : NewStage) → header_at stage ≡ Some n → n < 2 ^ 32 → elements_told (new_event code m site cells v stage) T n ≡ v.arguments.elements
  made_stage code m site cells v (NewStage.Length header) e lt =
      let same : header ≡ n = cc in
      let q : (number_of (reference header v.arguments.elements) == n) ≡ true = ap (λ j. j == n) (number_back header v.arguments.elements (subst (λ j. j < 2 ^ 32) (sym same) lt) ∙ same) ∙ (grind (arith, nat_tests)) in
      ap (λ b. if b then v.arguments.elements else T n) q
  made_stage code m site cells v _ e lt = absurd (cc)

  made_in : (code : Code) (m : Machine) (site cells : ℕ) (stage : Stage) → header_in stage ≡ Some n → n < 2 ^ 32 → elements_told (in_new code m site cells stage) T n ≡ elements_in_stage stage
  made_in code m site cells (Makes v) e lt = made_stage code m site cells v v.stage e lt
  made_in code m site cells _ e lt = absurd (cc)

  -- one that makes it tells its own
  pub told_made : (code : Code) (i : Instr) (m : Machine) (found elements : ℕ) → header_of i m.own.stage ≡ Some n → n < 2 ^ 32 → elements_told (said code i m found elements) T n ≡ elements_in_stage m.own.stage
  told_made code (Instr.New r count cells site) m found elements e lt = made_in code m site cells m.own.stage e lt
  told_made code _ m found elements e lt = absurd (cc)

-- ---- the objects that there are
module _ (ls : Labels) (t : ℕ) (m m' : Machine) (f : ℕ → ObjectState) (o : ℕ) where
  put_live : (at : ℕ) (y : ObjectState) → (put f at y o).live ≡ true → ((f o).live ≡ true) ⊎ ((o ≡ at) × (y.live ≡ true))
  put_live at y = elim (nat_eq o at) as (λ b. nat_eq o at ≡ b → (if b then y else f o).live ≡ true → ((f o).live ≡ true) ⊎ ((o ≡ at) × (y.live ≡ true))) [
    | true ↦ λ e h. inr (eqb-true o at e, h)
    | false ↦ λ e h. inl h
  ] refl

  at_made : (r : ℕ) (stage : NewStage) → (new_behind ls t r m' stage f o).live ≡ true → ((f o).live ≡ true) ⊎ (header_at stage ≡ Some o)
  at_made r (NewStage.Length header) h = ⊎_elim (λ (old : (f o).live ≡ true). inl old) (λ z. inr (ap (λ k. Some k) (sym z.0))) (put_live header (owned t (type_held ls m' r)) h)
  at_made r _ h = inl h

  at_makes : (r : ℕ) (stage : Stage) → (made_behind ls t r m' stage f o).live ≡ true → ((f o).live ≡ true) ⊎ (header_in stage ≡ Some o)
  at_makes r (Makes v) h = at_made r v.stage h
  at_makes r _ h = inl h

  at_freed : (at : ℕ) (stage : Stage) → (freed_behind at stage f o).live ≡ true → (f o).live ≡ true
  at_freed at (Uncounts all) h = ⊎_elim (λ (old : (f o).live ≡ true). old) (λ z. absurd (let e : false ≡ true = z.1 in cc)) (put_live at gone h)
  at_freed at _ h = h

  -- an object that there is after a turn was there before, or the turn makes it
  pub was_live : (i : Instr) → ((r site : ℕ) → i ≡ Instr.Give r site → (f (ref m r)).live ≡ true) → (objects_behind ls t i m m' f o).live ≡ true → ((f o).live ≡ true) ⊎ (header_of i m.own.stage ≡ Some o)
  was_live (Instr.New r count cells site) given h = at_makes r m.own.stage h
  was_live (Instr.Give r site) given h = ⊎_elim (λ (old : (f o).live ≡ true). inl old) (λ z. inl (ap (λ k. (f k).live) z.0 ∙ given r site refl)) (put_live (ref m r) (owned t (type_held ls m' r)) h)
  was_live (Instr.Free r layout site) given h = inl (at_freed (ref m r) m.own.stage h)
  was_live _ given h = inl h

-- ---- length words
pub step_leaves : (words : List ℕ) (step : WordStep) (w : ℕ) → ((v : ℕ) → word_after step.op v ≡ v) → slice_index (words_after_step words step) w ≡ slice_index words w
step_leaves words step w keeps =
    ⊎_elim
    (λ (e : w ≡ step.word).
    let here = set_same words step.word (word_after step.op (slice_index words step.word)) (keeps (slice_index words step.word)) in
    ap (λ n. slice_index (words_after_step words step) n) e ∙ here ∙ ap (λ n. slice_index words n) (sym e))
    (λ (ne : w ≡ step.word → ⊥). get_or-set_other words step.word w (word_after step.op (slice_index words step.word)) 0 ne)
    (cases_eq w step.word)

module _ (x : Targets) (code : Code) (s : Shape) (ls : Labels) (g : Global Machine) (world : World) (st : State x code s ls g world) (t o : ℕ) (nz : o ≢ 0) (live : (world.obj o).live ≡ true) where
  live_state : st.heap.state o ≡ Live
  live_state = (st.heap_stands.live o nz).0 live

  some_size : st.heap.size o ≢ 0
  some_size z = let e = st.heap_stands.kept.blocks.known o z in let f : Live ≡ Rattle.sharc_invariant.specs.Blocks.Unused = sym live_state ∙ e in cc

  -- a block that a thread builds is another's
  pub not_built : (b u : ℕ) → st.heap.state b ≡ Built u → b ≡ o → ⊥
  not_built b u built e = let f : Built u ≡ Live = sym built ∙ ap st.heap.state e ∙ live_state in cc

  apart_cell : (p j : ℕ) → (world.obj p).live ≡ true → j < st.cells p → length_at s o ≡ cell_at s p j → ⊥
  apart_cell p j there lt e = ⊎_elim
      (λ (z : o ≡ p). omega arith)
      (λ (ne : o ≡ p → ⊥). ⊎_elim
      (λ (less : o < p). omega arith)
      (λ (more : p ≤ o). let a = st.apart.apart p o there live (lt_of_le-ne more (λ z. ne (sym z))) in omega arith)
      (cases_lt o p))
      (cases_eq o p)

  apart_block : (b word : ℕ) → st.heap.state b ≡ Built t → st.heap.size b ≢ 0 → first_cell s + 2 * b ≤ word → word < first_cell s + 2 * (b + st.heap.size b) → length_at s o ≡ word → ⊥
  apart_block b word built nzb low high e = ⊎_elim
      (λ (z : b ≡ o). not_built b t built z)
      (λ (ne : b ≡ o → ⊥). ⊎_elim
      (λ (less : b < o). let a = st.heap_stands.kept.blocks.apart b o nzb some_size less in omega arith)
      (λ (more : o ≤ b). past b (lt_of_le-ne more (λ z. ne (sym z))) word low e)
      (cases_lt b o))
      (cases_eq b o)
    where
      past : (b : ℕ) → o < b → (word : ℕ) → first_cell s + 2 * b ≤ word → length_at s o ≡ word → ⊥
      past b lt word low e = omega arith

  built_some : (b : ℕ) → st.heap.state b ≡ Built t → st.heap.size b ≢ 0
  built_some b built z = let e = st.heap_stands.kept.blocks.known b z in let f : Built t ≡ Rattle.sharc_invariant.specs.Blocks.Unused = sym built ∙ e in cc

  other_word : (words : List ℕ) (step : WordStep) → (length_at s o ≡ step.word → ⊥) → slice_index (words_after_step words step) (length_at s o) ≡ slice_index words (length_at s o)
  other_word words step ne = get_or-set_other words step.word (length_at s o) (word_after step.op (slice_index words step.word)) 0 ne

  step_kept : (words : List ℕ) (step : WordStep) → Wrote s world.obj st.cells st.heap t step → slice_index (words_after_step words step) (length_at s o) ≡ slice_index words (length_at s o)
  step_kept words step (Leaves keeps) = step_leaves words step (length_at s o) keeps
  step_kept words step (Low lt) = other_word words step (λ e. omega arith)
  step_kept words step (CountOf h e) = other_word words step (λ q. omega arith)
  step_kept words step (InCell p j there lt e) = other_word words step (λ q. apart_cell p j there lt (q ∙ e))
  step_kept words step (InBlock b built low high) = other_word words step (λ q. apart_block b step.word built (built_some b built) low high q)

  -- the length word of a live object stays
  pub length_kept : (event : Option WordEvent) (a : Turn) → step_of event ≡ asked_by a → Writes s world.obj st.cells st.heap t a → slice_index (words_now g.words event) (length_at s o) ≡ slice_index g.words (length_at s o)
  length_kept None a asks h = refl
  length_kept (Some e) (Local y) asks h = absurd (let f : Some e.step ≡ None = asks in cc)
  length_kept (Some e) (Asks step go) asks h = let same : e.step ≡ step = cc in step_kept g.words e.step (subst (Wrote s world.obj st.cells st.heap t) (sym same) h)
