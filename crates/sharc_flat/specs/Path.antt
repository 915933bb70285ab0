-- Paths of flat code, by what each turn was answered: the last answer comes first. Of a turn that asks for nothing the
-- answer is not looked at.
use Rattle.std.specs.Prelude.{◌≡◌, ℕ, ℤ, ◌+◌, Bool, true, false, List, [], ◌∷◌, ◌++◌, length}
use Rattle.sharc_meaning.specs.State.{event_of, answer_of}
use Rattle.sharc_flat.specs.Machine.{Flat, At, Turn, goes, asks, halts, turn, with_event, exec}

-- where a thread is after a turn that was answered so; an end changes nothing
abbrev pub after : At → Turn → ℤ → At
after m (goes m2) x = m2
after m (asks m2 site act held f) x =
    let answer = answer_of (λ token. held) act x in f answer (with_event (event_of site act answer) m2)
after m (halts o) x = m

abbrev pub may_go : Turn → Bool
may_go (goes m2) = true
may_go (asks m2 site act held f) = true
may_go (halts o) = false

abbrev pub at_after : Flat → At → List ℤ → At
at_after flat m [] = m
at_after flat m (x ∷ earlier) = let now = at_after flat m earlier in after now (turn flat now) x

abbrev pub IsPath : Flat → At → List ℤ → Type 0
IsPath flat m [] = Unit {0}
IsPath flat m (x ∷ earlier) = IsPath flat m earlier × (may_go (turn flat (at_after flat m earlier)) ≡ true)

-- those of the answers that were asked for, the first one first
abbrev pub asked_by : Turn → ℤ → List ℤ
asked_by (goes m2) x = []
asked_by (asks m2 site act held f) x = x ∷ []
asked_by (halts o) x = []

abbrev pub asked : Flat → At → List ℤ → List ℤ
asked flat m [] = []
asked flat m (x ∷ earlier) = asked flat m earlier ++ asked_by (turn flat (at_after flat m earlier)) x

-- A path is the beginning of what the code makes of the answers that were asked for on it, with any answers and turns
-- after them.
abbrev pub PathsAreRuns : Type 0
PathsAreRuns = (flat : Flat) (m : At) (answers : List ℤ) → IsPath flat m answers → (more : ℕ) (rest : List ℤ)
    → exec flat (length answers + more) (asked flat m answers ++ rest) m ≡ exec flat more rest (at_after flat m answers)
