-- The line that is written of a verdict, and of a text that is no event file that can be audited.
use Rattle.std.specs.Prelude.{ℕ, List, ◌++◌, codes, decimal, Option, Some, None}
use Rattle.sharc_judge.specs.Judged.{number}
use Rattle.sharc_audit.specs.{declared.audit.EventFault.EventFault, declared.audit.Verdict.Verdict}
use Rattle.sharc_audit.specs.declared.file.FileFault.{FileFault}
use Rattle.sharc_audit.specs.declared.audit.EventFault.TheVariants as fault
use Rattle.sharc_audit.specs.declared.audit.Verdict.TheVariants as verdict
use Rattle.sharc_audit.specs.declared.file.FileFault.TheVariants as file

-- why an event is not accepted
abbrev pub fault_words : EventFault → List ℕ
fault_words fault.NotAsked = codes "E1 not asked for"
fault_words fault.NotLegal = codes "E2 not legal"
fault_words (fault.Rule rule) = codes "E3 rule " ++ decimal (number rule)

-- of a verdict at this fuel
abbrev pub verdict_words : ℕ → Verdict → List ℕ
verdict_words fuel (verdict.Obeys n) = codes "obeys " ++ decimal n ++ codes " events"
verdict_words fuel (verdict.Fails n why) = codes "event " ++ decimal n ++ codes ": " ++ fault_words why
verdict_words fuel (verdict.Fuel n) =
    codes "event " ++ decimal n ++ codes ": U1 fuel " ++ decimal fuel ++ codes " spent"

abbrev pub verdict_line : ℕ → Verdict → List ℕ
verdict_line fuel v = verdict_words fuel v ++ codes "\n"

-- of a text whose first line that continues no event file is this
abbrev pub bad_line : ℕ → List ℕ
bad_line n = codes "V2 not an event file at line " ++ decimal n ++ codes "\n"

abbrev pub many_line : List ℕ
many_line = codes "V3 over 4096 events\n"

-- being out of memory has no line
abbrev pub file_fault_line : FileFault → Option (List ℕ)
file_fault_line (file.Line n) = Some (bad_line n)
file_fault_line file.Many = Some many_line
file_fault_line file.Memory = None
