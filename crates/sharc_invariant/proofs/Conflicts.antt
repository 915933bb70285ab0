-- What checks find.
use Rattle.sharc_invariant.proofs.{Imports.{◌≡◌, ℕ, suc, ◌+◌, ◌<◌, ◌≢◌, ◌⊎◌, Bool, true, false, cond, refl, sym, ap, ◌∙◌, subst, inl, inr, ⊎_elim, cases_Bool, eqb-true, slice_index, nat_eq, if◌then◌else◌, Or, Kind, Read, Write, epoch_of, is_of, is_written, stands, Conflicts, bits_of, conflicts_in, ShadowLaws, Code, Instr, Shape, Stage, Clears, FreeClears, WithdrawsFrom, Stop, Conflict, granules, granule_at, granule_of, shadow_word, Machine, Own, step_of, act, instr_at, stopped, with_own, with_note, wrote, checked, check, row_of, ref, TurnsComeOut, may_go, turn, Turn, Global, at, MayTurn, after_turn, result_of, one_thread, bounds, put_same, Touch, Untouched, CheckOf, WithdrawOf, Marks, cleared_by, freed_by, withdrawn_by, touch_of, marks_after, CheckStands, RunsConflict, touch_at, Passed, Targets, Labels, World, shadow_at, is_withdrawing, noted_by, first_place, State, RunsFromTheBeginning, eq_refl}, TurnAt.{turn_at, turn_stands}, Turns.asks_turn, Withdrawn.wrote_now, BitTurns.{AllMarked, IsNoExit, in_low, at_low, going_on, noted_calm, check_calm, owned, bit_here, written_here, marked_after}}
use Rattle.sharc_code.specs.Machine.{place}

-- a check goes on where it finds no conflict
checked_goes : (m : Machine) (stop : Stop) (own : Own) (b : Bool) → may_go (if b then stopped m stop else with_own m own).at.state ≡ cond b false true
checked_goes m stop own true = refl
checked_goes m stop own false = refl

refused_is : (b : Bool) → cond b false true ≡ false → b ≡ true
refused_is true e = refl
refused_is false e = absurd (cc)

abbrev pub Parts : Touch → Kind → ℕ → Bool → Type 0
Parts (CheckOf kind' p' ok') kind p ok = (kind' ≡ kind) × (p' ≡ p) × (ok' ≡ ok)
Parts _ kind p ok = ⊥

pub parts : (y : Touch) (kind : Kind) (p : ℕ) (ok : Bool) → y ≡ CheckOf kind p ok → Parts y kind p ok
parts y kind p ok e = subst (λ y. Parts y kind p ok) (sym e) (refl, refl, refl)

pub no_clear : (s : Shape) (h : ℕ) (y : Stage) (kind : Kind) (p : ℕ) (ok : Bool) → Parts (cleared_by s h y) kind p ok → ⊥
no_clear s h (Clears done all seen) kind p ok z = z
no_clear s h _ kind p ok z = z

pub no_free : (s : Shape) (h : ℕ) (y : Stage) (kind : Kind) (p : ℕ) (ok : Bool) → Parts (freed_by s h y) kind p ok → ⊥
no_free s h (FreeClears done elements seen) kind p ok z = z
no_free s h _ kind p ok z = z

pub no_exit : (s : Shape) (m : Machine) (found : ℕ) (y : Stage) (kind : Kind) (p : ℕ) (ok : Bool) → Parts (withdrawn_by s m found y) kind p ok → ⊥
no_exit s m found (WithdrawsFrom row seen) kind p ok z =
    ⊎_elim
    (λ (e : nat_eq found seen ≡ true). subst (λ b. Parts (cond b (WithdrawOf (granule_at s (row_of m row))) Untouched) kind p ok) e z)
    (λ (e : nat_eq found seen ≡ false). subst (λ b. Parts (cond b (WithdrawOf (granule_at s (row_of m row))) Untouched) kind p ok) e z)
    (cases_Bool (nat_eq found seen))
no_exit s m found _ kind p ok z = z

module _ (x : Targets) (code : Code) (s : Shape) (ls : Labels) (laws : ShadowLaws) (g : Global Machine) (world : World) (st : State x code s ls g world) (tr : Turn) (may : MayTurn bounds (one_thread code s) g tr) (marks : ℕ → Marks) (h : AllMarked s g marks) where
  open turn_at st tr use {t, m}
  open turn_stands st tr may use {number}

  -- a bit of a thread that has passed a check, and the written bit
  stands_here : (p j : ℕ) → p < granules s → (marks p).passed j ≡ true → stands (slice_index g.words (shadow_at s p)) j ≡ true
  stands_here p j lt e =
      let n = (h p lt).read j e in
      owned x code s ls g world st marks h p j lt n (stands (slice_index g.words (shadow_at s p)) j) (λ o q lv lq pe. bit_here x code s ls g world st marks h p j o q n lv lq pe)

  write_stands : (p j : ℕ) → p < granules s → (marks p).passed_write j ≡ true → stands (slice_index g.words (shadow_at s p)) j ≡ true
  write_stands p j lt e =
      let n = (h p lt).write j e in
      owned x code s ls g world st marks h p j lt (inr n) (stands (slice_index g.words (shadow_at s p)) j) (λ o q lv lq pe. bit_here x code s ls g world st marks h p j o q (inr n) lv lq pe)

  written_stands : (p j : ℕ) → p < granules s → (marks p).passed_write j ≡ true → is_written (slice_index g.words (shadow_at s p)) ≡ true
  written_stands p j lt e =
      let n = (h p lt).write j e in
      owned x code s ls g world st marks h p j lt (inr n) (is_written (slice_index g.words (shadow_at s p))) (λ o q lv lq pe. written_here x code s ls g world st marks h p j o q n lv lq pe)

  -- of two threads with notes of the word's epoch, one of them of kind Write, there is one
  one_writer : (p j k : ℕ) → p < granules s → noted_by (g.threads j) Write p ≡ suc (epoch_of (slice_index g.words (shadow_at s p))) → noted_by (g.threads k) Write p ≡ suc (epoch_of (slice_index g.words (shadow_at s p))) → j ≢ k → ⊥
  one_writer p j k lt a b ne =
      let z : false ≡ true = owned x code s ls g world st marks h p j lt (inr a) false (λ o q lv lq pe.
      let r = st.sim.shadows o q lv lq in
      let gr = world.gran o q in
      let epoch : gr.epoch ≡ epoch_of (slice_index g.words (shadow_at s p)) = r.epoch ∙ ap (λ n. epoch_of (slice_index g.words (shadow_at s n))) (sym pe) in
      let pa : Passed gr j true = r.write_note j ∙ ap (noted_by (g.threads j) Write) (sym pe) ∙ a ∙ ap suc (sym epoch) in
      let pb : Passed gr k true = r.write_note k ∙ ap (noted_by (g.threads k) Write) (sym pe) ∙ b ∙ ap suc (sym epoch) in
      absurd (ne ((st.inv.bits o q).alone j k pa (inr pb)))) in
      absurd (cc)

  module _ (calm : is_withdrawing (g.threads tr.thread).own.stage ≡ false) (p : ℕ) (lt : p < granules s) where
    abbrev old : ℕ
    old = slice_index g.words (shadow_at s p)

    abbrev w : Rattle.std.specs.Prelude.Option ℕ
    w = wrote (g.threads tr.thread) p (slice_index g.words (shadow_at s p))

    own_note : is_of w (epoch_of old) ≡ nat_eq (noted_by (g.threads tr.thread) Write p) (suc (epoch_of old))
    own_note = wrote_now m p old ∙ ap (λ n. nat_eq n (suc (epoch_of old))) (sym (noted_calm m calm (going_on m.at.state may.next.runs) Write p))

    cause_of : (kind : Kind) → Conflicts old tr.thread kind w → (j : ℕ) × (j ≢ tr.thread) × (stands old j ≡ true) × ((marks p).made j ≡ true) × ((kind ≡ Write) ⊎ ((marks p).writes j ≡ true))
    cause_of Write c = (c.0, c.1.another, c.1.stood, (h p lt).made c.0 c.1.stood, inl refl)
    cause_of Read c =
        let k = (h p lt).wrote c.1 in
        let other : k.0 ≢ t = λ e.
        let n = (h p lt).write t ((h p lt).all t may.next.runs (ap (marks p).writes (sym e) ∙ k.2)) in
        let same : is_of w (epoch_of old) ≡ true = own_note ∙ ap (λ n. nat_eq n (suc (epoch_of old))) n ∙ eq_refl (suc (epoch_of old)) in
        let none = c.2 in
        absurd (cc) in
        (k.0, other, k.1, (h p lt).made k.0 k.1, inr k.2)

    conflict_of : (kind : Kind) (j : ℕ) → j ≢ tr.thread → ((kind ≡ Write) × ((marks p).passed j ≡ true)) ⊎ ((marks p).passed_write j ≡ true) → Conflicts old tr.thread kind w
    conflict_of Write j ne (inl a) = (j, record { another = ne; stood = stands_here p j lt a.1 })
    conflict_of Write j ne (inr a) = (j, record { another = ne; stood = write_stands p j lt a })
    conflict_of Read j ne (inl a) = let z = a.0 in absurd (cc)
    conflict_of Read j ne (inr a) = (
      (j, record { another = ne; stood = write_stands p j lt a }),
      written_stands p j lt a,
      ⊎_elim
          (λ (e : is_of w (epoch_of old) ≡ true). absurd (one_writer p j t lt ((h p lt).write j a) (eqb-true (noted_by m Write p) (suc (epoch_of old)) (sym own_note ∙ e)) ne))
          (λ (e : is_of w (epoch_of old) ≡ false). e)
          (cases_Bool (is_of w (epoch_of old))),
    )

  check_stands : (i : Instr) (kind : Kind) (granule site : ℕ) → instr_at code (g.threads tr.thread).at.pc ≡ i → IsNoExit i → turn code s (g.threads tr.thread) ≡ check s (g.threads tr.thread) kind granule site
      → CheckStands tr.thread kind (slice_index g.words (shadow_word s (granule_at s granule))) (marks (granule_at s granule)) (may_go ((after_turn bounds (one_thread code s) g tr).threads tr.thread).at.state)
  check_stands i kind granule site is n e =
      let d = granule_at s granule in
      let lt = at_low s granule in
      let calm = check_calm x code s ls laws g world st tr may marks h i is n in
      let word_is : shadow_word s d ≡ shadow_at s d = ap (λ n. 97 + n) (in_low s d lt) in
      let v = slice_index g.words (shadow_at s d) in
      let c = conflicts_in v m.own.number kind (wrote m d v) in
      let m' = checked m kind d site v in
      let done = asks_turn code s g tr may (step_of (shadow_word s granule) (Or (bits_of m.own.number kind))) (checked m kind d site) e in
      let ok : may_go ((after_turn bounds (one_thread code s) g tr).threads t).at.state ≡ cond c false true =
      ap (λ (y : Global Machine). may_go (y.threads t).at.state) done.0 ∙ ap (λ (n : Machine). may_go n.at.state) (put_same g.threads t m')
      ∙ checked_goes m (Conflict record { kind = kind; site = site; granule = d; epoch = epoch_of v; old = v }) (with_note m.own d kind (epoch_of v) site) c in
      let law = laws.conflicts v t kind (wrote m d v) in
      let c_is : c ≡ conflicts_in v t kind (wrote m d v) = ap (λ n. conflicts_in v n kind (wrote m d v)) number in
      subst (λ k. CheckStands t kind (slice_index g.words k) (marks d) (may_go ((after_turn bounds (one_thread code s) g tr).threads t).at.state)) (sym word_is) (record {
        cause = λ z. cause_of calm d lt kind (law.0 (sym c_is ∙ refused_is c (sym ok ∙ z)));
        found = λ j ne a. ok ∙ ap (λ b. cond b false true) (c_is ∙ law.1 (conflict_of calm d lt kind j ne a));
      })

  abbrev Stands : ℕ → Kind → Bool → Type 0
  Stands p kind ok = CheckStands tr.thread kind (slice_index g.words (shadow_word s p)) (marks p) ok

  moved : (kind kind' : Kind) (p p' : ℕ) (ok ok' : Bool) → (kind ≡ kind') × (p ≡ p') × (ok ≡ ok') → Stands p kind ok → Stands p' kind' ok'
  moved kind kind' p p' ok ok' e z = subst (λ k. Stands p' k ok') e.0 (subst (λ q. Stands q kind ok') e.1 (subst (λ b. Stands p kind b) e.2 z))

  by_instr : (i : Instr) → instr_at code (g.threads tr.thread).at.pc ≡ i → (kind : Kind) (p : ℕ) (ok : Bool)
      → Parts (touch_of s i (g.threads tr.thread) (result_of tr.event) ((after_turn bounds (one_thread code s) g tr).threads tr.thread)) kind p ok → Stands p kind ok
  by_instr (Instr.ChkRead cell site) is kind p ok e =
      moved Read kind (granule_at s (granule_of (place m cell))) p (may_go ((after_turn bounds (one_thread code s) g tr).threads t).at.state) ok e (check_stands (Instr.ChkRead cell site) Read (granule_of (place m cell)) site is tt (ap (λ i. act code s i m) is))
  by_instr (Instr.ChkWrite cell site) is kind p ok e =
      moved Write kind (granule_at s (granule_of (place m cell))) p (may_go ((after_turn bounds (one_thread code s) g tr).threads t).at.state) ok e (check_stands (Instr.ChkWrite cell site) Write (granule_of (place m cell)) site is tt (ap (λ i. act code s i m) is))
  by_instr (Instr.Clear r cells) is kind p ok e = absurd (no_clear s (ref m r) m.own.stage kind p ok e)
  by_instr (Instr.Free r layout site) is kind p ok e = absurd (no_free s (ref m r) m.own.stage kind p ok e)
  by_instr Instr.Exit is kind p ok e = absurd (no_exit s m (result_of tr.event) m.own.stage kind p ok e)
  by_instr _ is kind p ok e = absurd e

  pub conflict_turn : (kind : Kind) (p : ℕ) (ok : Bool) → touch_at code s g tr ≡ CheckOf kind p ok → CheckStands tr.thread kind (slice_index g.words (shadow_word s p)) (marks p) ok
  conflict_turn kind p ok e = by_instr (instr_at code m.at.pc) refl kind p ok (parts (touch_at code s g tr) kind p ok e)

pub runs_conflict : TurnsComeOut → ShadowLaws → RunsFromTheBeginning → RunsConflict
runs_conflict outs laws runs x code s ls wt fits small turns tr run =
    let r = runs x code s ls wt fits small turns run.0 in
    let g = at bounds (one_thread code s) (first_place code s) turns in
    conflict_turn x code s ls laws g r.stands.world r.stands.state tr run.1 (marks_after code s (first_place code s) turns) (marked_after outs laws runs x code s ls wt fits small turns run.0)
