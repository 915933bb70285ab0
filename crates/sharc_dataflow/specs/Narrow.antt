-- The steps that matter to some variables: what is left out, and what takes its place. It retraces the code.
use Rattle.std.specs.Prelude.{◌≡◌, ℕ, ◌≤◌, nat_le, List, Contains, [], ◌∷◌, ◌++◌, Option, Bool, true, false, ◌&&◌, ◌||◌}
use Rattle.sharc_dataflow.specs.{declared.step.Step.Step, declared.exits.Exits.Exits}
use Rattle.sharc_dataflow.specs.Flow.{To, Next, Broken, Continued, Ends}
use Rattle.sharc_dataflow.specs.{Code.{Code, goes_to, first_then, one_of, listing}, Sums.{ways, warns}}
use Rattle.sharc_dataflow.specs.Passes.{last_or, front}
use Rattle.sharc_dataflow.specs.declared.step.Step.TheVariants as steps

-- ---- what is asked of them

-- the variables from the first to the last
pub record IsBetween (first last x : ℕ) : Type 0 where
  pub from : first ≤ x
  pub to : x ≤ last

abbrev pub AreBetween : ℕ → ℕ → List ℕ → Type 0
AreBetween first last list = (x : ℕ) → Contains list x → IsBetween first last x

-- both do the same to each of these variables, and warn of the same reads of it
pub record Same (first last : ℕ) (c d : Code) : Type 0 where
  pub does : (x : ℕ) → IsBetween first last x → ways x c ≡ ways x d
  pub warned : (x : ℕ) → IsBetween first last x → (v : Option ℕ) → warns x c v ≡ warns x d v

-- steps of code that is the same for these variables
pub record IsSame (first last : ℕ) (list : List Step) (c : Code) : Type 0 where
  pub code : Code
  pub lists : list ≡ listing code
  pub same : Same first last code c

-- ---- what is left out

abbrev pub exits_of : Bool → Bool → Bool → Exits
exits_of n b c = record { next = n; broken = b; continued = c }

abbrev pub exits_to : To → Exits
exits_to Next = exits_of true false false
exits_to Broken = exits_of false true false
exits_to Continued = exits_of false false true
exits_to Ends = exits_of false false false

abbrev pub then_exits : Exits → Exits → Exits
then_exits a b = exits_of (a.next && b.next) (a.broken || (a.next && b.broken)) (a.continued || (a.next && b.continued))

abbrev pub either_exits : Exits → Exits → Exits
either_exits a b = exits_of (a.next || b.next) (a.broken || b.broken) (a.continued || b.continued)

abbrev pub caught_exits : Exits → Exits
caught_exits a = exits_of (a.next || a.continued) a.broken a.continued

abbrev pub loop_exits : Exits → Exits
loop_exits a = exits_of a.broken false false

-- code that leads to these exits and does nothing

abbrev pub may_go : Bool → To → Code
may_go true t = one_of (goes_to t) (goes_to Next)
may_go false t = goes_to Next

abbrev pub on_or_ends : Bool → Code
on_or_ends true = goes_to Next
on_or_ends false = goes_to Ends

abbrev pub leading : Exits → Code
leading e = first_then (may_go e.broken Broken) (first_then (may_go e.continued Continued) (on_or_ends e.next))

-- ---- what is kept of a piece, and where what is left out after it leads

pub record Kept : Type 0 where
  pub steps : List Step
  pub behind : Exits

abbrev pub kept : List Step → Exits → Kept
kept l e = record { steps = l; behind = e }

abbrev pub whole : Kept → List Step
whole k = k.steps ++ listing (leading k.behind)

abbrev pub nothing_kept : Kept
nothing_kept = kept [] (exits_to Next)

-- where no step is kept of the second, it only leads on from the first
abbrev pub put_behind : Kept → List Step → Exits → Kept
put_behind a [] e = kept a.steps (then_exits a.behind e)
put_behind a (s ∷ l) e = kept (whole a ++ s ∷ l) e

abbrev pub then_kept : Kept → Kept → Kept
then_kept a b = put_behind a b.steps b.behind

-- steps around a piece of which some are kept; of which none is, what it leads to is left out as well
abbrev pub unless_none : List Step → List Step → Exits → Kept
unless_none [] around e = kept [] e
unless_none (s ∷ l) around e = kept around (exits_to Next)

abbrev pub either_kept : Kept → Kept → Kept
either_kept a b = unless_none (a.steps ++ b.steps)
    (steps.Fork ∷ (whole a ++ steps.Other ∷ (whole b ++ steps.Join ∷ []))) (either_exits a.behind b.behind)

abbrev pub caught_kept : Kept → Kept
caught_kept a = unless_none a.steps (steps.Catch ∷ (whole a ++ steps.Caught ∷ [])) (caught_exits a.behind)

abbrev pub loop_kept : Kept → Kept
loop_kept a = unless_none a.steps (steps.Head ∷ (whole a ++ steps.Again ∷ [])) (loop_exits a.behind)

-- ---- a pass over the steps: what is kept of the innermost open piece, and what of those around it

pub record AllKept : Type 0 where
  pub now : Kept
  pub waiting : List Kept

abbrev pub all_kept : Kept → List Kept → AllKept
all_kept k waiting = record { now = k; waiting = waiting }

abbrev pub goes_behind : Kept → AllKept → AllKept
goes_behind k s = all_kept (then_kept s.now k) s.waiting

abbrev pub is_between : ℕ → ℕ → ℕ → Bool
is_between first last x = nat_le first x && nat_le x last

abbrev pub acts_if : Bool → Step → AllKept → AllKept
acts_if true a s = goes_behind (kept (a ∷ []) (exits_to Next)) s
acts_if false a s = s

abbrev pub opens : AllKept → AllKept
opens s = all_kept nothing_kept (s.waiting ++ s.now ∷ [])

abbrev pub joins : AllKept → AllKept
joins s =
    all_kept (then_kept (last_or nothing_kept (front s.waiting)) (either_kept (last_or nothing_kept s.waiting) s.now))
    (front (front s.waiting))

abbrev pub closes : Kept → AllKept → AllKept
closes k s = all_kept (then_kept (last_or nothing_kept s.waiting) k) (front s.waiting)

abbrev pub narrows : ℕ → ℕ → Step → AllKept → AllKept
narrows first last (steps.Read y r) s = acts_if (is_between first last y) (steps.Read y r) s
narrows first last (steps.Null y k) s = acts_if (is_between first last y) (steps.Null y k) s
narrows first last (steps.Write y) s = acts_if (is_between first last y) (steps.Write y) s
narrows first last steps.Break s = goes_behind (kept [] (exits_to Broken)) s
narrows first last steps.Continue s = goes_behind (kept [] (exits_to Continued)) s
narrows first last steps.Return s = goes_behind (kept [] (exits_to Ends)) s
narrows first last steps.Fork s = opens s
narrows first last steps.Other s = opens s
narrows first last steps.Join s = joins s
narrows first last steps.Catch s = opens s
narrows first last steps.Caught s = closes (caught_kept s.now) s
narrows first last steps.Head s = opens s
narrows first last steps.Again s = closes (loop_kept s.now) s

abbrev pub narrowed : ℕ → ℕ → List Step → AllKept → AllKept
narrowed first last [] s = s
narrowed first last (a ∷ rest) s = narrowed first last rest (narrows first last a s)

abbrev pub narrow_start : AllKept
narrow_start = all_kept nothing_kept []
