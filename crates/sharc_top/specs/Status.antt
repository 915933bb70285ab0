-- The exit statuses.
use Rattle.std.specs.Prelude.{ℕ, ◌≡◌, ◌≤◌, ◌⊎◌}
use Rattle.sharc_top.specs.declared.status.Status.{Status}
use Rattle.sharc_top.specs.declared.status.Status.TheVariants as status

abbrev pub code_of : Status → ℕ
code_of status.Done = 0
code_of status.ModesRefused = 1
code_of status.SourceRefused = 2
code_of status.Reported = 3
code_of status.Stopped = 4
code_of status.Stuck = 5
code_of status.Limit = 6
code_of status.Usage = 8
code_of status.ReadFault = 9
code_of status.WriteFault = 10
code_of status.NoMemory = 11
code_of status.EventsRefused = 12
code_of status.FuelSpent = 13

-- the reply was written whole
abbrev pub IsOfReply : ℕ → Type 0
IsOfReply code = (code ≤ 8) ⊎ (code ≡ 12) ⊎ (code ≡ 13)

-- nothing was written
abbrev pub IsOfSilence : ℕ → Type 0
IsOfSilence code = (code ≡ 9) ⊎ (code ≡ 11)
