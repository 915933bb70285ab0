-- What a turn of flat code leaves as it was, and its paths by what their own events answer.
use Rattle.std.specs.Prelude.{◌≡◌, ℕ, ℤ, suc, ◌+◌, ◌≤◌, ◌⊎◌, true, List, [], ◌∷◌, ◌++◌, length}
use Rattle.sharc_tree.specs.{declared.event.Act.{Act, TheVariants.Freed}, declared.event.SourceEvent.SourceEvent}
use Rattle.sharc_meaning.specs.{declared.given.GivenUp.{GivenUp, TheVariants.Emptied}, Reference.number_of}
use Rattle.sharc_meaning.specs.{References.refers, Runs.answers_of, State.{answer_of, spent}}
use Rattle.sharc_flat.specs.Machine.{Flat, At, Came, Turn, goes, asks, halts, turn, exec, start}
use Rattle.sharc_flat.specs.Path.{at_after, IsPath, asked, PathsAreRuns}

-- ---- one turn
-- no event is told, and nothing is taken back of what was given up
abbrev pub IsStill : At → At → Type 0
IsStill m m2 = (m2.events ≡ m.events) × (extra : List GivenUp) × (m2.given ≡ m.given ++ extra)

-- each reference was there before, in one register or another
abbrev pub AreFrom : At → At → Type 0
AreFrom m m2 = (k n : ℕ) → refers n (m2.refs k) ≡ true → (j : ℕ) × (refers n (m.refs j) ≡ true)

-- The same by a turn before it is answered; what comes with the answer tells no other event; and a turn that asks for
-- the Freed of a reference gives up the cells of its object before.
abbrev pub IsQuiet : At → Turn → Type 0
IsQuiet m (goes m2) = IsStill m m2 × AreFrom m m2
IsQuiet m (asks m2 site act held go) = IsStill m m2 × (m2.refs ≡ m.refs)
    × ((v : ℤ) (n : At) → (go v n).events ≡ n.events)
    × ((v : ℤ) → act ≡ Freed v → m2.given ≡ m.given ++ Emptied (number_of v) ∷ [])
IsQuiet m (halts o) = Unit {0}

-- ---- a path
-- what a turn answers, by what it was told
abbrev pub given_by : Turn → ℤ → ℤ
given_by (asks m2 site act held go) x = answer_of (λ token. held) act x
given_by _ x = x

abbrev pub given_in : Flat → At → List ℤ → List ℤ
given_in flat m [] = []
given_in flat m (x ∷ earlier) = given_by (turn flat (at_after flat m earlier)) x ∷ given_in flat m earlier

-- so many turns, by the answers of a path, lead one turn beyond the path at least
pub record IsBeyond (flat : Flat) (m : At) (answers : List ℤ) (later : ℕ) : Type 0 where
  pub more : ℕ
  pub is : exec flat later (asked flat m answers) m ≡ exec flat (suc more) [] (at_after flat m answers)

-- A path is the beginning of what the code makes of its answers. Turns are quiet, one or more without an answer. By
-- what its turns answer a path is the same one; and that is what its events have as answers, from a thread's start. No
-- more turns than it has are spent, and what more or other turns come to lies beyond it.
pub record PathLaws : Type 0 where
  pub runs : PathsAreRuns
  pub quiet : (flat : Flat) (m : At) → IsQuiet m (turn flat m)
  pub still : (flat : Flat) (turns : ℕ) (m : At) → IsStill m (exec flat turns [] m).at
  pub same : (flat : Flat) (m : At) (answers : List ℤ)
      → at_after flat m (given_in flat m answers) ≡ at_after flat m answers
  pub path : (flat : Flat) (m : At) (answers : List ℤ) → IsPath flat m answers
      → IsPath flat m (given_in flat m answers)
  pub count : (flat : Flat) (m : At) (answers : List ℤ) → length (given_in flat m answers) ≡ length answers
  pub own : (flat : Flat) (f : ℕ) (v : ℤ) (answers : List ℤ) → let m = start flat f v in
      asked flat m (given_in flat m answers) ≡ answers_of (at_after flat m answers).events
  pub within : (flat : Flat) (m : At) (answers : List ℤ) → IsPath flat m answers → (n : ℕ) → n ≤ length answers
      → (exec flat n (asked flat m answers) m).outcome ≡ spent
  pub beyond : (flat : Flat) (m : At) (answers : List ℤ) → IsPath flat m answers → (later : ℕ)
      → (length answers + 1 ≤ later)
      ⊎ (exec flat (length answers + 1) (asked flat m answers) m ≡ exec flat later (asked flat m answers) m)
      → IsBeyond flat m answers later
