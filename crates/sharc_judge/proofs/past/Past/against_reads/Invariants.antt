use Rattle.std.proofs.Common.{◌≡◌, drop}
use Rattle.std.specs.List.{list_any}
use Rattle.sharc_judge.specs.Reads.{is_against, against_reads}
use Rattle.sharc_judge.proofs.past.Past.against_reads.Given as goal

abbrev pub invariant-loop-noted : goal.invariant-loop-noted
invariant-loop-noted l = list_any (is_against l.thread l.a l.self) (drop l.noted-index l.noted-items) ≡ against_reads l.thread l.a l.self
