-- The room that a journal has for events.
use Rattle.std.specs.Prelude.{ℕ, ◌+◌, ◌*◌, ◌≤◌, vec_len, vec_capacity}
use Rattle.sharc_record.specs.{declared.journal.Journal.Journal, declared.journal.TheConstants.QUANTUM}

-- room for the events of a quantum of each of this many ports
abbrev pub HasRoomFor : ℕ → Journal → Type 0
HasRoomFor ports journal = vec_len journal.events + ports * QUANTUM ≤ vec_capacity journal.events
