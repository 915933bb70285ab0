-- How many workers a round needs, up to how many events a thread may come in it, and how the turns of a stint are
-- shared among its goes.
use Rattle.std.specs.Prelude.{ℕ, zero, suc, ◌+◌, ◌-◌, ◌*◌, ◌/◌, min, max, List, [], ◌∷◌, Option, Some, None}
use Rattle.std.specs.Prelude.{if◌then◌else◌, nat_le}
use Rattle.sharc_cpu.specs.Thread.{ThreadView}
use Rattle.sharc_rounds.specs.declared.stint.TheConstants.{KEPT, FURTHER}

-- a place more, if there is a thread behind it
abbrev pub one_before : ℕ → ℕ
one_before zero = zero
one_before (suc n) = suc (suc n)

-- the number behind that of the last thread that is there, 0 where none is
abbrev pub behind_last : List (Option ThreadView) → ℕ
behind_last [] = zero
behind_last (Some thread ∷ seats) = suc (behind_last seats)
behind_last (None ∷ seats) = one_before (behind_last seats)

-- the workers up to the last one that has a thread, where thread n is at worker n modulo their number; one where there
-- is no thread
abbrev pub needed : List (Option ThreadView) → ℕ → ℕ
needed seats workers = min workers (max 1 (behind_last seats))

-- a sixteenth of the events that are left to a thread, but at least 1,000, on top of those that it has made, and none
-- above its limit
abbrev pub share_until : ℕ → ℕ → ℕ
share_until made limit = min limit (made + max 1000 ((limit - made) / 16))

-- a stint of many turns keeps some of them back from its first go
abbrev pub first_turns : ℕ → ℕ
first_turns turns = if nat_le turns (2 * KEPT) then turns else turns - KEPT

-- the turns of a further go: some, and an eighth of those that are left
abbrev pub further_turns : ℕ → ℕ
further_turns left = min left (FURTHER + left / 8)
