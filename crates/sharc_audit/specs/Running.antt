-- What is answered of the lines of a run.
use Rattle.std.specs.Prelude.{ℕ, List}
use Rattle.sharc_tree.specs.declared.event.SourceEvent.{SourceEvent}
use Rattle.sharc_ctype.specs.Resolved.{IsResolved}
use Rattle.sharc_mode.specs.Moded.{Assignment}
use Rattle.sharc_meaning.specs.{Obeys.{Obeys, until_return}, Runs.SourceRun}
use Rattle.sharc_audit.specs.{declared.audit.EventFault.EventFault, declared.line.EventLine.EventLine, Audited.Audits}
use Rattle.sharc_audit.specs.Lines.{AreLines}
use Rattle.sharc_audit.specs.declared.audit.Verdict.TheVariants as verdict

-- the lines of a source run that obeys never fail: with each fuel they obey, or the fuel of a thread is spent
abbrev pub RunsNeverFail : Type 0
RunsNeverFail = (m : Assignment) (fuel : ℕ) (R : List SourceEvent) (lines : List EventLine) (n : ℕ) (why : EventFault)
    → IsResolved m.typed → SourceRun m R → Obeys R until_return → AreLines m.typed lines R
    → Audits m fuel lines (verdict.Fails n why) → ⊥
