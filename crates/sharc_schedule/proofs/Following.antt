-- The turns for one event of the journal are those of the schedule.
use Rattle.sharc_schedule.proofs.{Imports.{dite, ◌≡◌, ℕ, suc, ◌<◌, ◌≤◌, Bool, true, false, List, [], ◌∷◌, ◌++◌, length, refl, sym, ap, ◌∙◌, subst, arith, append_assoc, ⊎_elim, ◌⊎◌, inl, inr, if◌then◌else◌, dec_le, Code, Shape, TurnState, Tries, Machine, counted, Turn, Owns, MayTurn, state_now, RunLaws, ThreadLaws, one_thread, bounds, place_after, is_enabled, has_event, is_try, without_tries, SameEnds, Quiet, Loud, AllCount, Stepped, no_both}, Trying.{may_kept, state_same, NoTries, without}, Among.{Last, cut}, Replaying.{Few, few_before, enabled_turn}, Matching.{Run, quiet_kept, as_many}}

-- ---- lists
pub record Split (xs : List Turn) (n : ℕ) : Type 0 where
  pub high : List Turn
  pub low : List Turn
  pub is : xs ≡ high ++ low
  pub many : length low ≡ n

pub split : (xs : List Turn) (n : ℕ) → n ≤ length xs → Split xs n
split [] n le = record { high = []; low = []; is = refl; many = omega (arith, le) }
split (x ∷ xs) n le = dite (dec_le n (length xs))
    (λ h. let s = split xs n h in record { high = x ∷ s.high; low = s.low; is = ap (λ (ts : List Turn). x ∷ ts) s.is; many = s.many })
    (λ h. record { high = []; low = x ∷ xs; is = refl; many = omega (arith, le, h) })

abbrev pub head_event : List Turn → Bool
head_event [] = false
head_event (x ∷ xs) = has_event x.event

quiet_low : (high low : List Turn) → Quiet (high ++ low) → Quiet low
quiet_low [] low q = q
quiet_low (x ∷ high) low q = quiet_low high low q.0

pub owns_low : (t : ℕ) (high low : List Turn) → Owns t (high ++ low) → Owns t low
owns_low t [] low o = o
owns_low t (x ∷ high) low o = owns_low t high low o.1

loud_quiet : (more other before : List Turn) → length more ≡ length other → more ++ before ≡ other ++ before → Loud more → Quiet other → ⊥
loud_quiet [] other before many e loud quiet = loud
loud_quiet (m ∷ more) [] before many e loud quiet = absurd (omega (arith, many))
loud_quiet (m ∷ more) (o ∷ other) before many e loud quiet = no_both (has_event m.event) loud.1 (ap head_event e ∙ quiet.1)

-- a turn with an event among more than the last is none of these
loud_later : (x : Turn) (later low : List Turn) (m : Turn) → Quiet (later ++ m ∷ low) → has_event m.event ≡ true → ⊥
loud_later x later low m quiet on = no_both (has_event m.event) on (quiet_low later (m ∷ low) quiet).1

pub no_count : (state : TurnState) → is_try state ≡ true → counted state ≡ 1 → ⊥
no_count Tries e one = absurd (omega (arith, one))
no_count _ e one = absurd cc

module _ (laws : RunLaws) (threads : ThreadLaws) (code : Code) (s : Shape) (limit : ℕ) where
  abbrev pub Runs_to : List Turn → Type 0
  Runs_to turns = Run laws threads code s turns

  pub run_low : (high low : List Turn) → Runs_to (high ++ low) → Runs_to low
  run_low [] low run = run
  run_low (x ∷ high) low run = run_low high low run.0

  tried_low : (high low : List Turn) → NoTries threads code s (high ++ low) → NoTries threads code s low
  tried_low [] low h = h
  tried_low (x ∷ high) low h = tried_low high low h.0

  pub few_low : (high low : List Turn) → Few laws threads code s limit (high ++ low) → Few laws threads code s limit low
  few_low [] low h = h
  few_low (x ∷ high) low h = few_low high low (few_before laws threads code s limit x (high ++ low) h)

  -- fewer turns than the quiet ones of the schedule were not made
  module _ (t : ℕ) (quiet before turns : List Turn) (step : Stepped code s limit t before turns) (run : Runs_to turns) (is_quiet : Quiet quiet) (own : Owns t quiet)
      (there : Runs_to (quiet ++ before)) (tried : NoTries threads code s (quiet ++ before)) (few : Few laws threads code s limit (quiet ++ before)) where
    run_more : Runs_to (step.more ++ before)
    run_more = subst Runs_to step.is run

    pub enough : length step.more < length quiet → ⊥
    enough less = by (cut part.high) where
      part : Split quiet (length step.more)
      part = split quiet (length step.more) (omega (arith, less))

      by : (part.high ≡ []) ⊎ Last part.high → ⊥
      by (inl none) =
          let e : length quiet ≡ length part.low = ap (λ (ts : List Turn). length ts) (part.is ∙ ap (λ (ts : List Turn). ts ++ part.low) none) in
          absurd (omega (arith, e, part.many, less))
      by (inr last) =
          let whole : quiet ≡ last.before ++ last.last ∷ part.low = part.is ∙ (ap (λ (ts : List Turn). ts ++ part.low) last.is ∙ append_assoc last.before (last.last ∷ []) part.low) in
          let all : quiet ++ before ≡ last.before ++ last.last ∷ (part.low ++ before) = ap (λ (ts : List Turn). ts ++ before) whole ∙ append_assoc last.before (last.last ∷ part.low) before in
          let run_here = run_low last.before (last.last ∷ (part.low ++ before)) (subst Runs_to all there) in
          let tried_here = tried_low last.before (last.last ∷ (part.low ++ before)) (subst (NoTries threads code s) all tried) in
          let few_here = few_low last.before (last.last ∷ (part.low ++ before)) (subst (Few laws threads code s limit) all few) in
          let own_here = owns_low t last.before (last.last ∷ part.low) (subst (Owns t) whole own) in
          let quiet_here = quiet_low last.before (last.last ∷ part.low) (subst Quiet whole is_quiet) in
          let same : step.more ++ before ≡ part.low ++ before = as_many laws threads code s t step.more part.low before run_more run_here.0 step.own own_here.1 (sym part.many) in
          let on : is_enabled code s limit (place_after code s (part.low ++ before)) last.last.thread ≡ true = enabled_turn laws threads code s limit last.last (part.low ++ before) run_here.1 tried_here.1 few_here in
          ⊎_elim
          (λ loud. loud_quiet step.more part.low before (sym part.many) same loud quiet_here.0)
          (λ r. no_both (is_enabled code s limit (place_after code s turns) t)
          (ap (λ (ts : List Turn). is_enabled code s limit (place_after code s ts) t) (step.is ∙ same) ∙ (ap (is_enabled code s limit (place_after code s (part.low ++ before))) (sym own_here.0) ∙ on))
          r.1)
          step.ends

  -- the turns for one event
  module _ (t : ℕ) (quiet spec turns : List Turn) (one : Turn) (step : Stepped code s limit t (without_tries code s spec) turns) (run : Runs_to turns) (is_quiet : Quiet quiet) (own : Owns t (one ∷ quiet))
      (on : has_event one.event ≡ true) (whole : Runs_to (one ∷ (quiet ++ spec))) where
    abbrev before : List Turn
    before = without_tries code s spec

    kept : without_tries code s (quiet ++ spec) ≡ quiet ++ before
    kept = quiet_kept laws threads code s quiet spec is_quiet whole.0

    there : Runs_to (quiet ++ before)
    there = subst Runs_to kept (without threads code s (quiet ++ spec) whole.0).0

    same : SameEnds (place_after code s (quiet ++ before)) (place_after code s (quiet ++ spec))
    same = subst (λ ts. SameEnds (place_after code s ts) (place_after code s (quiet ++ spec))) kept (without threads code s (quiet ++ spec) whole.0).1

    tried : NoTries threads code s (quiet ++ before)
    tried = subst (NoTries threads code s) kept (without threads code s (quiet ++ spec) whole.0).2

    may : MayTurn bounds (one_thread code s) (place_after code s (quiet ++ before)) one
    may = may_kept threads code s (place_after code s (quiet ++ spec)) (place_after code s (quiet ++ before)) same one whole.1

    alike : state_now (one_thread code s) (place_after code s (quiet ++ before)) one ≡ state_now (one_thread code s) (place_after code s (quiet ++ spec)) one
    alike = state_same threads code s (place_after code s (quiet ++ spec)) (place_after code s (quiet ++ before)) same one whole.1

    more_run : Runs_to (step.more ++ before)
    more_run = subst Runs_to step.is run

    abbrev Outcome : Type 0
    Outcome = ((turns ≡ quiet ++ before) × (is_enabled code s limit (place_after code s (quiet ++ before)) t ≡ false)) ⊎ (turns ≡ one ∷ (quiet ++ before))

    outcome : Few laws threads code s limit (quiet ++ before) → Outcome
    outcome few = by (dec_le (length quiet) (length step.more)) where
      longer : (part : Split step.more (length quiet)) → (part.high ≡ []) ⊎ Last part.high → Outcome
      longer part (inl none) =
          let is : step.more ≡ part.low = part.is ∙ ap (λ (ts : List Turn). ts ++ part.low) none in
          let many : length step.more ≡ length quiet = ap (λ (ts : List Turn). length ts) is ∙ part.many in
          let e : step.more ++ before ≡ quiet ++ before = as_many laws threads code s t step.more quiet before more_run there step.own own.1 many in
          ⊎_elim
          (λ loud. absurd (loud_quiet step.more quiet before many e loud is_quiet))
          (λ r. inl (step.is ∙ e, ap (λ (ts : List Turn). is_enabled code s limit (place_after code s ts) t) (sym (step.is ∙ e)) ∙ r.1))
          step.ends
      longer part (inr last) =
          let is : step.more ≡ last.before ++ last.last ∷ part.low = part.is ∙ (ap (λ (ts : List Turn). ts ++ part.low) last.is ∙ append_assoc last.before (last.last ∷ []) part.low) in
          let all : step.more ++ before ≡ last.before ++ last.last ∷ (part.low ++ before) = ap (λ (ts : List Turn). ts ++ before) is ∙ append_assoc last.before (last.last ∷ part.low) before in
          let run_here = run_low last.before (last.last ∷ (part.low ++ before)) (subst Runs_to all more_run) in
          let own_here = owns_low t last.before (last.last ∷ part.low) (subst (Owns t) is step.own) in
          let e : last.last ∷ (part.low ++ before) ≡ one ∷ (quiet ++ before) = as_many laws threads code s t (last.last ∷ part.low) (one ∷ quiet) before run_here (there, may) own_here own (ap suc part.many) in
          let loud : has_event last.last.event ≡ true = ap head_event e ∙ on in
          inr (step.is ∙ (all ∙ first last.before (last.last) part.low (⊎_elim (λ l. inl (subst Loud is l)) (λ r. inr (subst Quiet is r.0)) step.ends) loud ∙ e)) where
            first : (later : List Turn) (m : Turn) (low : List Turn) → Loud (later ++ m ∷ low) ⊎ Quiet (later ++ m ∷ low) → has_event m.event ≡ true → later ++ m ∷ (low ++ before) ≡ m ∷ (low ++ before)
            first [] m low h loud = refl
            first (x ∷ later) m low h loud = absurd (⊎_elim (λ l. loud_later x later low m l.0 loud) (λ q. loud_later x later low m q.0 loud) h)

      by : Dec (length quiet ≤ length step.more) → Outcome
      by (yes le) = longer (split step.more (length quiet) le) (cut (split step.more (length quiet) le).high)
      by (no gt) = absurd (enough t quiet before turns step run is_quiet own.1 there tried few (omega (arith, gt)))

    pub follow_event : AllCount code s turns → Few laws threads code s limit (without_tries code s (one ∷ (quiet ++ spec))) → turns ≡ without_tries code s (one ∷ (quiet ++ spec))
    follow_event counts few = by (is_try (state_now (one_thread code s) (place_after code s (quiet ++ spec)) one).at.state) refl few where
      by : (b : Bool) → is_try (state_now (one_thread code s) (place_after code s (quiet ++ spec)) one).at.state ≡ b
          → Few laws threads code s limit (if b then without_tries code s (quiet ++ spec) else one ∷ without_tries code s (quiet ++ spec))
          → turns ≡ (if b then without_tries code s (quiet ++ spec) else one ∷ without_tries code s (quiet ++ spec))
      by true e few =
          ⊎_elim
          (λ r. r.0 ∙ sym kept)
          (λ r. absurd (no_count (state_now (one_thread code s) (place_after code s (quiet ++ before)) one).at.state (ap (λ (m : Machine). is_try m.at.state) alike ∙ e) (let all : AllCount code s (one ∷ (quiet ++ before)) = subst (AllCount code s) r counts in all.1)))
          (outcome (subst (Few laws threads code s limit) kept few))
      by false e few =
          let few_here : Few laws threads code s limit (one ∷ (quiet ++ before)) = subst (λ ts. Few laws threads code s limit (one ∷ ts)) kept few in
          let enabled = enabled_turn laws threads code s limit one (quiet ++ before) may (ap (λ (m : Machine). is_try m.at.state) alike ∙ e) few_here in
          ⊎_elim
          (λ r. absurd (no_both (is_enabled code s limit (place_after code s (quiet ++ before)) t) (ap (is_enabled code s limit (place_after code s (quiet ++ before))) (sym own.0) ∙ enabled) r.1))
          (λ r. r ∙ ap (λ (ts : List Turn). one ∷ ts) (sym kept))
          (outcome (few_before laws threads code s limit one (quiet ++ before) few_here))
