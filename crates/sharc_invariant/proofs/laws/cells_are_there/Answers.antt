use Rattle.sharc_invariant.proofs.{Emptied.pointer_there, Located.{allowed, located}}
use Rattle.sharc_invariant.proofs.laws.cells_are_there.Goals as goal

pub returns-clause-cells : goal.returns-clause-cells
returns-clause-cells c = λ x code s ls wt fits g world st t on hold cell f field some. located x code s ls wt fits g world st t on hold cell f field some

pub returns-clause-pointers : goal.returns-clause-pointers
returns-clause-pointers c = λ x code s ls wt fits g world st o layout target i some live type lay lt. (pointer_there x code s ls wt fits g world st o layout target i some live type lay lt).0

pub returns-clause-rights : goal.returns-clause-rights
returns-clause-rights c = λ x code s ls wt fits g world st t on hold write cell site f access. allowed x code s ls wt fits g world st t on hold write cell site f access
