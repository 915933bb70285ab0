-- The code of choices and of loops at a line, of typed code at the lines of its parts.
use Rattle.std.specs.Prelude.{ℕ, ◌+◌, ◌≡◌, List, [], ◌∷◌, ◌++◌, length, Bool, Some}
use Rattle.sharc_flat.specs.{declared.op.Op.Op, Flattened.{if_code, choice_code, loop_code, body_at}}
use Rattle.sharc_flat.specs.declared.op.Op.TheVariants as op
use Rattle.sharc_invariant.specs.Labels.{Label}
use Rattle.sharc_typed_laws.specs.{Stretches.{Mark, Setting, Way, LeadsFrom}, Places.{RegistersStand, mark}}

-- a test that leads over so many statements where it is not met
abbrev pub turn_by : List Op → ℕ → ℕ → List Op
turn_by test i over = test ++ op.SkipIfZero i over ∷ []

-- to the way out, to the step and to what decides
abbrev pub loop_ways : ℕ → Mark → List Way → List Way
loop_ways pc s ways =
    record { line = pc + 1; mark = s } ∷ record { line = pc + 2; mark = s } ∷ record { line = pc + 3; mark = s } ∷ ways

module _ (z : Setting) (f : ℕ) (ways : List Way) (named : ℕ → Bool) (from i r : ℕ) (l : Label) where
  abbrev pub here : Mark
  here = mark l from i

  -- one piece of code after another
  abbrev pub JoinLeads : Type 0
  JoinLeads = (pc : ℕ) (s m e : Mark) (xs ys : List Op) → LeadsFrom z f ways pc s xs m
      → LeadsFrom z f ways (pc + length xs) m ys e → LeadsFrom z f ways pc s (xs ++ ys) e

  abbrev pub IfLeads : Type 0
  IfLeads = (pc : ℕ) (test : List Op) (body : ℕ → List Op) → LeadsFrom z f ways pc here test here
      → LeadsFrom z f ways (pc + length (turn_by test i 0)) here (body (pc + length (turn_by test i 0))) here
      → LeadsFrom z f ways pc here (if_code pc (turn_by test i) body) here

  abbrev pub ChoiceLeads : Type 0
  ChoiceLeads = (pc : ℕ) (test : List Op) (first second : ℕ → List Op) → LeadsFrom z f ways pc here test here
      → LeadsFrom z f ways (pc + length (turn_by test i 0)) here (first (pc + length (turn_by test i 0))) here
      → LeadsFrom z f ways (pc + length (turn_by test i 0) + length (first (pc + length (turn_by test i 0))) + 1) here
      (second (pc + length (turn_by test i 0) + length (first (pc + length (turn_by test i 0))) + 1)) here
      → LeadsFrom z f ways pc here (choice_code pc (turn_by test i) first second) here

  -- while a test is met
  abbrev pub LoopLeads : Type 0
  LoopLeads = (pc : ℕ) (test step : List Op) (body : ℕ → List Op)
      → LeadsFrom z f (loop_ways pc here ways) (pc + 3) here test here → LeadsFrom z f (loop_ways pc here ways)
      (body_at pc (turn_by test i)) here (body (body_at pc (turn_by test i))) here
      → LeadsFrom z f (loop_ways pc here ways)
      (body_at pc (turn_by test i) + length (body (body_at pc (turn_by test i)))) here step here
      → LeadsFrom z f ways pc here (loop_code pc step (turn_by test i) body) here

  -- always
  abbrev pub EverLeads : Type 0
  EverLeads = (pc : ℕ) (step : List Op) (body : ℕ → List Op)
      → LeadsFrom z f (loop_ways pc here ways) (body_at pc (λ over. [])) here (body (body_at pc (λ over. []))) here
      → LeadsFrom z f (loop_ways pc here ways)
      (body_at pc (λ over. []) + length (body (body_at pc (λ over. [])))) here step here
      → LeadsFrom z f ways pc here (loop_code pc step (λ over. []) body) here

  pub record DecisionsLead : Type 0 where
    pub join : JoinLeads
    pub if_then : IfLeads
    pub choice : ChoiceLeads
    pub loop : LoopLeads
    pub ever : EverLeads

-- Choices and loops where the first registers of a frame are taken: before each turn is known what is known before the
-- first.
abbrev pub DecisionsAreTyped : Type 0
DecisionsAreTyped = (z : Setting) (f : ℕ) (ways : List Way) (named : ℕ → Bool) (from i r : ℕ) (l : Label)
    → RegistersStand named i r l → l.function ≡ Some f → DecisionsLead z f ways named from i r l
