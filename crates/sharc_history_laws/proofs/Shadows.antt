-- What a turn does to the shadow word of each granule.
use Rattle.sharc_history_laws.proofs.{Imports.{◌≡◌, ℕ, suc, ◌+◌, ◌*◌, ◌%◌, ◌^◌, ◌<◌, ◌≤◌, ◌≢◌, Bool, true, false, Option, Some, None, if◌then◌else◌, refl, sym, ap, ◌∙◌, subst, ⊎_elim, arith, eqb-true, cases_eq, nat_tests, get_or-set_other, slice_index, bit_or, ◌==◌, THREADS, WordEvent, WordOp, WordStep, word_after, words_after_step, Kind, Read, Write, bits_of, cleared_of, withdrawn_of, ShadowLaws, epoch_of, is_written, stands, AddsAccess, WithdrawsWord, Code, Instr, Shape, Stage, Clears, FreeClears, WithdrawsFrom, Fits, granules, first_cell, first_shadow, granule_at, granule_of, shadow_word, Machine, StepTurn, Local, Asks, act, instr_at, step_of, ref, place, new, clear, free, layout_at, data_granules, data_granule, exit, row_of, without_own, withdrew, wrote, turn, asked_by, may_go, Turn, Global, MayTurn, Answered, words_now, result_of, one_thread, bounds, Touch, Untouched, CheckOf, ClearOf, WithdrawOf, cleared_by, freed_by, withdrawn_by, touch_of, sum_to, Labels, touch_at, State, StageStands, OnHold, IsWellTyped, Targets, cells_of, World, set_here as set_at, inl, inr, drawn_of, Names, Hands, Begins, Aim, TurnAim, TurnsAim, changes_shadow, yes, row_low, at_low, in_cells, sum_bound}, TurnAt.{turn_at, turn_stands}, Consists.found_is, Stands.{sole_ref, live_ref, target_ref}, Tables.step_leaves, Aims.{drawn_is, typed_aim}}
use Rattle.sharc_code.specs.Runs as runs

-- ---- words by what a turn is to them
-- no bit stands, and the epoch is one more
pub record IsNext (old new : ℕ) : Type 0 where
  pub threads : (k : ℕ) → stands new k ≡ false
  pub written : is_written new ≡ false
  pub epoch : epoch_of new ≡ suc (epoch_of old)

-- what a turn of thread t makes of the word of granule p, where this is the epoch of the thread's own note of kind Write
abbrev pub WordBy : Touch → (t p old new : ℕ) → Option ℕ → Type 0
WordBy Untouched t p old new w = new ≡ old
WordBy (CheckOf kind q ok) t p old new w = (p ≡ q → AddsAccess old new t kind) × ((p ≡ q → ⊥) → new ≡ old)
WordBy (ClearOf q) t p old new w = (p ≡ q → IsNext old new) × ((p ≡ q → ⊥) → new ≡ old)
WordBy (WithdrawOf q) t p old new w = (p ≡ q → WithdrawsWord old new t w) × ((p ≡ q → ⊥) → new ≡ old)

-- ---- steps that leave the shadow words
data Spares (s : Shape) (step : WordStep) : Type 0 where
  Leaves : ((v : ℕ) → word_after step.op v ≡ v) → Spares s step
  Below : step.word < first_shadow → Spares s step
  Above : first_cell s ≤ step.word → Spares s step

abbrev SparesAll : Shape → StepTurn → Type 0
SparesAll s (Local x) = Unit {0}
SparesAll s (Asks step go) = Spares s step

-- ---- one turn
module _ (aims : TurnsAim) (laws : ShadowLaws) (x : Targets) (code : Code) (s : Shape) (ls : Labels) (wt : IsWellTyped x code ls) (fits : Fits code s) (g : Global Machine) (world : World) (st : State x code s ls g world) (tr : Turn)
    (may : MayTurn bounds (one_thread code s) g tr) where
  open turn_at code s g tr use {t, m, i, found, m'}

  abbrev old_word : ℕ → ℕ
  old_word p = slice_index g.words (first_shadow + p)

  abbrev new_word : ℕ → ℕ
  new_word p = slice_index (words_now g.words tr.event) (first_shadow + p)

  open turn_stands wt st tr may use {on, number, stage_here, fine as fine_here}

  few_threads : tr.thread < THREADS
  few_threads = st.begins.few t may.started

  -- ---- the words after the turn
  asked : (y : StepTurn) → turn code s (g.threads tr.thread) ≡ y → runs.step_of tr.event ≡ asked_by y
  asked y e = may.next.asks ∙ ap asked_by e

  none_now : (event : Option WordEvent) → runs.step_of event ≡ None → (w : ℕ) → slice_index (words_now g.words event) w ≡ slice_index g.words w
  none_now None e w = refl
  none_now (Some a) e w = absurd (let f : Some a.step ≡ None = e in cc)

  here_now : (event : Option WordEvent) (step : WordStep) → runs.step_of event ≡ Some step → Answered g.words event → slice_index (words_now g.words event) step.word ≡ word_after step.op (slice_index g.words step.word)
  here_now None step q a = absurd (let f : None ≡ Some step = q in cc)
  here_now (Some e) step q a =
      let same : e.step ≡ step = cc in
      subst (λ (x : WordStep). slice_index (words_after_step g.words e.step) x.word ≡ word_after x.op (slice_index g.words x.word)) same
      (set_at g.words e.step.word (word_after e.step.op (slice_index g.words e.step.word)) a.on_a_word)

  other_now : (event : Option WordEvent) (step : WordStep) → runs.step_of event ≡ Some step → (w : ℕ) → (w ≡ step.word → ⊥) → slice_index (words_now g.words event) w ≡ slice_index g.words w
  other_now None step q w ne = absurd (let f : None ≡ Some step = q in cc)
  other_now (Some e) step q w ne =
      let same : e.step ≡ step = cc in
      get_or-set_other g.words e.step.word w (word_after e.step.op (slice_index g.words e.step.word)) 0 (λ z. ne (z ∙ ap (λ (y : WordStep). y.word) same))

  left_now : (event : Option WordEvent) (step : WordStep) → runs.step_of event ≡ Some step → ((v : ℕ) → word_after step.op v ≡ v) → (w : ℕ) → slice_index (words_now g.words event) w ≡ slice_index g.words w
  left_now None step q keeps w = absurd (let f : None ≡ Some step = q in cc)
  left_now (Some e) step q keeps w =
      let same : e.step ≡ step = cc in
      step_leaves g.words e.step w (subst (λ (y : WordStep). (v : ℕ) → word_after y.op v ≡ v) (sym same) keeps)

  spared : (p : ℕ) → p < granules s → (y : StepTurn) → turn code s (g.threads tr.thread) ≡ y → SparesAll s y → new_word p ≡ old_word p
  spared p lt (Local z) e h = none_now tr.event (asked (Local z) e) (first_shadow + p)
  spared p lt (Asks step go) e (Leaves keeps) = left_now tr.event step (asked (Asks step go) e) keeps (first_shadow + p)
  spared p lt (Asks step go) e (Below low) = other_now tr.event step (asked (Asks step go) e) (first_shadow + p) (λ q. omega arith)
  spared p lt (Asks step go) e (Above high) = other_now tr.event step (asked (Asks step go) e) (first_shadow + p) (λ q. omega arith)

  -- a step of the word of granule q
  record AtWord (q : ℕ) (op : WordOp) : Type 0 where
    pub here : new_word q ≡ word_after op (old_word q)
    pub others : (p : ℕ) → (p ≡ q → ⊥) → new_word p ≡ old_word p
    pub found_is : result_of tr.event ≡ old_word q

  at_word : (q : ℕ) (op : WordOp) (go : ℕ → Machine) → turn code s (g.threads tr.thread) ≡ Asks (step_of (first_shadow + q) op) go → AtWord q op
  at_word q op go e =
      let step = step_of (first_shadow + q) op in
      let k = asked (Asks step go) e in
      record {
        here = here_now tr.event step k may.answered;
        others = λ p ne. other_now tr.event step k (first_shadow + p) (λ z. ne (omega (arith, z)));
        found_is = found_is g.words tr.event step k may.answered;
      }

  -- ---- a check
  by_check : (kind : Kind) (granule site : ℕ) (ok : Bool) → turn code s (g.threads tr.thread) ≡ Rattle.sharc_code.specs.Machine.check s (g.threads tr.thread) kind granule site → (p : ℕ) → WordBy (CheckOf kind (granule_at s granule) ok) tr.thread p (old_word p) (new_word p) (wrote (g.threads tr.thread) p (old_word p))
  by_check kind granule site ok e p =
      let q = granule_at s granule in
      let k = at_word q (WordOp.Or (bits_of m.own.number kind)) (Rattle.sharc_code.specs.Machine.checked m kind q site) e in
      let adds : AddsAccess (old_word q) (new_word q) t kind = subst (λ v. AddsAccess (old_word q) v t kind) (sym (k.here ∙ ap (λ n. bit_or (old_word q) (bits_of n kind)) number)) (laws.or_adds (old_word q) t kind few_threads) in
      (λ same. subst (λ p. AddsAccess (old_word p) (new_word p) t kind) (sym same) adds, k.others p)

  -- ---- a Swap to `cleared`
  by_swap : (h done seen : ℕ) (go : ℕ → Machine) → turn code s (g.threads tr.thread) ≡ Asks (step_of (shadow_word s (data_granule h done)) (WordOp.Swap (cleared_of seen))) go
      → epoch_of seen ≡ epoch_of (old_word (granule_at s (data_granule h done))) → epoch_of (old_word (granule_at s (data_granule h done))) ≤ 3100000000
      → (p : ℕ) → WordBy (ClearOf (granule_at s (data_granule h done))) tr.thread p (old_word p) (new_word p) (wrote (g.threads tr.thread) p (old_word p))
  by_swap h done seen go e seen_is low p =
      let q = granule_at s (data_granule h done) in
      let k = at_word q (WordOp.Swap (cleared_of seen)) go e in
      let c = laws.clears seen in
      let ep : epoch_of (cleared_of seen) ≡ (epoch_of seen + 1) % 2 ^ 32 = c.epoch in
      let next : IsNext (old_word q) (new_word q) = subst (IsNext (old_word q)) (sym k.here) (record { threads = c.threads; written = c.written; epoch = ep ∙ numbers (epoch_of seen) (epoch_of (old_word q)) seen_is low }) in
      (λ same. subst (λ p. IsNext (old_word p) (new_word p)) (sym same) next, k.others p)
    where
      numbers : (a b : ℕ) → a ≡ b → b ≤ 3100000000 → (a + 1) % 2 ^ 32 ≡ suc b
      numbers a b e le = omega arith

  -- what is seen of the granule, of an object that the thread has alone
  record Seen (h done seen : ℕ) : Type 0 where
    pub is : epoch_of seen ≡ epoch_of (old_word (granule_at s (data_granule h done)))
    pub low : epoch_of (old_word (granule_at s (data_granule h done))) ≤ 3100000000

  seen_at : (r count done seen : ℕ) → ref (g.threads tr.thread) r ≢ 0 → (world.obj (ref (g.threads tr.thread) r)).live ≡ true → cells_of x (world.obj (ref (g.threads tr.thread) r)).ty.target ≡ count
      → done < data_granules (st.elements (ref (g.threads tr.thread) r)) count → epoch_of seen ≡ (world.gran (ref (g.threads tr.thread) r) done).epoch → Seen (ref (g.threads tr.thread) r) done seen
  seen_at r count done seen nz live same lt ep =
      let o = ref m r in
      let cells : st.cells o ≡ st.elements o * count = (st.whole o nz live).1 ∙ ap (λ c. st.elements o * c) same in
      let inside : 2 * done < st.cells o = subst (λ n. 2 * done < n) (sym cells) (in_cells (st.elements o * count) done lt) in
      let within = st.apart.within o done live inside in
      let rd = st.sim.shadows o done live inside in
      let q : granule_at s (data_granule o done) ≡ o + 1 + done = at_low s (o + 1 + done) within in
      let made = sum_bound THREADS 100000000 g.made st.few in
      let top = st.epochs (o + 1 + done) within in
      record {
        is = ep ∙ rd.epoch ∙ ap (λ p. epoch_of (old_word p)) (sym q);
        low = subst (λ p. epoch_of (old_word p) ≤ 3100000000) (sym q) (bound (epoch_of (old_word (o + 1 + done))) (sum_to THREADS g.made) top made);
      }
    where
      bound : (a b : ℕ) → a ≤ b → b ≤ 31 * 100000000 → a ≤ 3100000000
      bound a b p q = omega arith

  clear_seen : (r count done all seen : ℕ) → i ≡ Instr.Clear r count → (g.threads tr.thread).own.stage ≡ Clears done all seen → Seen (ref (g.threads tr.thread) r) done seen
  clear_seen r count done all seen is at =
      let f = fine_here (Instr.Clear r count) is in
      let hold : OnHold m.own.stage = subst OnHold (sym at) tt in
      let h = subst (StageStands code s st.elements world st.heap g.words t m (Instr.Clear r count)) at (stage_here (Instr.Clear r count) is) in
      let nz = sole_ref x code s ls wt fits g world st t on hold r false f.0 in
      let live = live_ref x code s ls wt fits g world st t on hold r nz in
      let target = target_ref x code s ls wt fits g world st t on hold r f.2.0 f.2.1 nz in
      seen_at r count done seen nz live (ap (cells_of x) target ∙ sym f.2.2) (subst (λ n. done < n) h.0 h.1.0) h.1.2

  free_seen : (r layout site done all seen : ℕ) → i ≡ Instr.Free r layout site → (g.threads tr.thread).own.stage ≡ FreeClears done all seen → Seen (ref (g.threads tr.thread) r) done seen
  free_seen r layout site done all seen is at =
      let f = fine_here (Instr.Free r layout site) is in
      let hold : OnHold m.own.stage = subst OnHold (sym at) tt in
      let h = subst (StageStands code s st.elements world st.heap g.words t m (Instr.Free r layout site)) at (stage_here (Instr.Free r layout site) is) in
      let nz = sole_ref x code s ls wt fits g world st t on hold r f.0.0 f.0.1 in
      let live = live_ref x code s ls wt fits g world st t on hold r nz in
      let target = target_ref x code s ls wt fits g world st t on hold r f.3.0 f.3.1 nz in
      seen_at r (layout_at code layout).cells done seen nz live (ap (cells_of x) target ∙ sym f.3.2.cells) (subst (λ n. done < data_granules n (layout_at code layout).cells) h.0.0 h.1.0) h.1.2

  abbrev By : Touch → ℕ → Type 0
  By y p = WordBy y tr.thread p (old_word p) (new_word p) (wrote (g.threads tr.thread) p (old_word p))

  -- ---- turns that change no shadow word
  low_number : (g.threads tr.thread).own.number < THREADS
  low_number = subst (λ n. n < THREADS) (sym number) few_threads

  abbrev AtStage : Instr → Type 0
  AtStage j = StageStands code s st.elements world st.heap g.words tr.thread (g.threads tr.thread) j (g.threads tr.thread).own.stage

  low_drawn : (j : Instr) (stage : Stage) (n : ℕ) → AtStage j → (g.threads tr.thread).own.stage ≡ stage → drawn_of stage ≡ Some n → n < THREADS
  low_drawn j stage n h at drawn = (drawn_is code s st.elements world st.heap g.words t m j stage n h at drawn).0

  step_spares : (j : Instr) (step : WordStep) → AtStage j → changes_shadow j (g.threads tr.thread).own.stage ≡ false → Aim s j (g.threads tr.thread) step → Spares s step
  step_spares j step h plain (Aim.Looks keeps) = Leaves keeps
  step_spares j step h plain (Aim.Draws spawns at) = Below (omega (arith, at))
  step_spares j step h plain (Aim.Prints prints at) = Below (omega (arith, at))
  step_spares j step h plain (Aim.Names n is at) = let lt = low_drawn j (Names n) n h is refl in Below (omega (arith, at, lt))
  step_spares j step h plain (Aim.Hands n is at) = let lt = low_drawn j (Hands n) n h is refl in Below (omega (arith, at, lt))
  step_spares j step h plain (Aim.Begins n spawns is at op) = let lt = low_drawn j (Begins n) n h is refl in Below (omega (arith, at, lt))
  step_spares j step h plain (Aim.Returns exits at op) = Below (omega (arith, at, low_number))
  step_spares j step h plain (Aim.Ends exits at op) = Below (omega (arith, at, low_number))
  step_spares j step h plain (Aim.Shadows granule changes at) = absurd (yes (sym changes ∙ plain))
  step_spares j step h plain (Aim.Stores (inl low)) = Below (omega (arith, low))
  step_spares j step h plain (Aim.Stores (inr high)) = Above high

  by_turn : (j : Instr) (y : StepTurn) → AtStage j → changes_shadow j (g.threads tr.thread).own.stage ≡ false → TurnAim s j (g.threads tr.thread) y → SparesAll s y
  by_turn j (Local y) h plain aim = tt
  by_turn j (Asks step go) h plain aim = step_spares j step h plain aim

  rest_spared : (j : Instr) → i ≡ j → changes_shadow j (g.threads tr.thread).own.stage ≡ false → (p : ℕ) → p < granules s → By Untouched p
  rest_spared j is plain p lt =
      let h = stage_here j is in
      spared p lt (act code s j m) (ap (λ j. act code s j m) is) (by_turn j (act code s j m) h plain (typed_aim code s st.elements world st.heap g.words t m aims j h))

  to_clear : (r count : ℕ) → i ≡ Instr.Clear r count → (stage : Stage) → (g.threads tr.thread).own.stage ≡ stage → (p : ℕ) → p < granules s → By (cleared_by s (ref (g.threads tr.thread) r) stage) p
  to_clear r count is (Clears done all seen) at p lt =
      let k = clear_seen r count done all seen is at in
      by_swap (ref m r) done seen (λ found. Rattle.sharc_code.specs.Machine.looks m (done + 1) all) (ap (λ j. act code s j m) is ∙ ap (clear s m (ref m r) count) at) k.is k.low p
  to_clear r count is stage at p lt = rest_spared (Instr.Clear r count) is (ap (changes_shadow (Instr.Clear r count)) at) p lt

  to_free : (r layout site : ℕ) → i ≡ Instr.Free r layout site → (stage : Stage) → (g.threads tr.thread).own.stage ≡ stage → (p : ℕ) → p < granules s → By (freed_by s (ref (g.threads tr.thread) r) stage) p
  to_free r layout site is (FreeClears done all seen) at p lt =
      let k = free_seen r layout site done all seen is at in
      by_swap (ref m r) done seen (λ found. Rattle.sharc_code.specs.Machine.free_looks m (layout_at code layout) (done + 1) all) (ap (λ j. act code s j m) is ∙ ap (free code s m r (layout_at code layout)) at) k.is k.low p
  to_free r layout site is stage at p lt = rest_spared (Instr.Free r layout site) is (ap (changes_shadow (Instr.Free r layout site)) at) p lt

  -- ---- a withdrawal
  to_withdraw : (row seen : ℕ) → i ≡ Instr.Exit → (g.threads tr.thread).own.stage ≡ WithdrawsFrom row seen → (p : ℕ) → By (withdrawn_by s (g.threads tr.thread) (result_of tr.event) (WithdrawsFrom row seen)) p
  to_withdraw row seen is at p =
      let h = subst (StageStands code s st.elements world st.heap g.words t m Instr.Exit) at (stage_here Instr.Exit is) in
      let n = row_of m row in
      let low : n < granules s = subst (λ k. n < k) (st.threads t).has.notes (row_low m.own.table (st.threads t).has.table row h) in
      let q = granule_at s n in
      let q_is : q ≡ n = at_low s n low in
      let k = at_word q (WordOp.Cas seen (without_own m row seen)) (withdrew m row seen) (ap (λ j. act code s j m) is ∙ ap (exit s m) at) in
      elim (result_of tr.event == seen) as (λ b. (result_of tr.event == seen) ≡ b → By (if b then WithdrawOf q else Untouched) p) [
        | true ↦ λ e.
            let same : old_word q ≡ seen = sym k.found_is ∙ eqb-true (result_of tr.event) seen e in
            let here : new_word q ≡ without_own m row seen = k.here ∙ ap (λ v. if v == seen then without_own m row seen else v) same ∙ yes_is seen (without_own m row seen) in
            let w = wrote m q (old_word q) in
            let value : without_own m row seen ≡ withdrawn_of (old_word q) t w =
            ap (λ k. withdrawn_of seen k (wrote m n seen)) number ∙ ap (λ v. withdrawn_of v t (wrote m n v)) (sym same) ∙ ap (λ n. withdrawn_of (old_word q) t (wrote m n (old_word q))) (sym q_is) in
            let all : WithdrawsWord (old_word q) (new_word q) t w = subst (λ v. WithdrawsWord (old_word q) v t w) (sym (here ∙ value)) (laws.withdraws (old_word q) t w (st.are_words (first_shadow + q)) few_threads) in
            (λ z. subst (λ p. WithdrawsWord (old_word p) (new_word p) t (wrote m p (old_word p))) (sym z) all, k.others p)
        | false ↦ λ e. ⊎_elim
            (λ (z : p ≡ q). subst (λ p. new_word p ≡ old_word p) (sym z) (k.here ∙ ap (λ b. if b then without_own m row seen else old_word q) (ap (λ v. v == seen) (sym k.found_is) ∙ e)))
            (λ (ne : p ≡ q → ⊥). k.others p ne)
            (cases_eq p q)
      ] refl
    where
      yes_is : (n v : ℕ) → (if n == n then v else n) ≡ v
      yes_is n v = let e : (n == n) ≡ true = grind (arith, nat_tests) in ap (λ b. if b then v else n) e

  to_exit : i ≡ Instr.Exit → (stage : Stage) → (g.threads tr.thread).own.stage ≡ stage → (p : ℕ) → p < granules s → By (withdrawn_by s (g.threads tr.thread) (result_of tr.event) stage) p
  to_exit is (WithdrawsFrom row seen) at p lt = to_withdraw row seen is at p
  to_exit is stage at p lt = rest_spared Instr.Exit is (ap (changes_shadow Instr.Exit) at) p lt

  -- ---- each instruction
  by_instr : (j : Instr) → i ≡ j → (p : ℕ) → p < granules s → By (touch_of s j (g.threads tr.thread) (result_of tr.event) m') p
  by_instr (Instr.ChkRead c site) is p lt = by_check Read (granule_of (place m c)) site (may_go m'.at.state) (ap (λ j. act code s j m) is) p
  by_instr (Instr.ChkWrite c site) is p lt = by_check Write (granule_of (place m c)) site (may_go m'.at.state) (ap (λ j. act code s j m) is) p
  by_instr (Instr.Clear r count) is p lt = to_clear r count is m.own.stage refl p lt
  by_instr (Instr.Free r layout site) is p lt = to_free r layout site is m.own.stage refl p lt
  by_instr Instr.Exit is p lt = to_exit is m.own.stage refl p lt
  by_instr j is p lt = rest_spared j is refl p lt

  pub word_by : (p : ℕ) → p < granules s → WordBy (touch_at code s g tr) tr.thread p (slice_index g.words (first_shadow + p)) (slice_index (words_now g.words tr.event) (first_shadow + p)) (wrote (g.threads tr.thread) p (slice_index g.words (first_shadow + p)))
  word_by p lt = by_instr (instr_at code m.at.pc) refl p lt
