-- How many bytes are read at most.
use Rattle.std.specs.Prelude.{ℕ}

-- of a source
abbrev pub source_limit : ℕ
source_limit = 1048576

-- of an event file
abbrev pub file_limit : ℕ
file_limit = 16777216

-- of a recorded file
abbrev pub recording_limit : ℕ
recording_limit = 1073741824
