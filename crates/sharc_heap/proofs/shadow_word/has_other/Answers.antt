use Rattle.sharc_heap.proofs.{Imports.{◌-◌, w64, not, ◌==◌, IsTrue, ◌↔◌, trailing_zeros, HasOther}, Conflict.{first_other, some_of_other, test_of_some, some_of_test}, Lowest.has_other_is}
use Rattle.sharc_heap.proofs.shadow_word.has_other.Goals as goal

pub returns : goal.returns
returns c =
    let there : IsTrue (not (c.others.result == 0)) ↔ HasOther c.args.old c.args.thread = (
      λ test. (trailing_zeros w64 c.others.result - 1, (first_other c.args.old c.args.thread c.others.result c.others.ensures (some_of_test c.others.result test) c.others.type_inv).first.is),
      λ there. test_of_some c.others.result (some_of_other c.args.old c.args.thread c.others.result there.0 c.others.ensures there.1),
    ) in
    record { other = there; is = has_other_is c.args.old c.args.thread (not (c.others.result == 0)) there }
