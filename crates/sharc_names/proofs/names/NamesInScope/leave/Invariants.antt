use Rattle.sharc_names.proofs.Imports.{◌≡◌, ◌-◌, ◌≤◌, length, drop}
use Rattle.sharc_names.proofs.names.NamesInScope.leave.Given as goal

abbrev pub invariant-loop-self : goal.invariant-loop-self
invariant-loop-self l = record {
  within : l.mark ≤ length l.self;
  left : drop (length l.self - l.mark) l.self ≡ drop (length l.fn.self - l.mark) l.fn.self;
}

abbrev pub decreases-loop-self : goal.decreases-loop-self
decreases-loop-self l = length l.self
