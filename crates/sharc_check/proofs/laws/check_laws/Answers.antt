use Rattle.sharc_check.proofs.{Imports.{◌≡◌, List, subst, ModeError, IsInOrder}, OnlyLemmas.only}
use Rattle.sharc_check.proofs.laws.check_laws.Goals as goal

pub returns : goal.returns
returns c = record {
  order = only;
  list = λ m a b all others.
      let one : others.found ≡ all.found = c.mode_laws.ensures.one m others.found all.found others.arise all.arise in
      only all.found a b all.ordered (subst (λ (l : List ModeError). IsInOrder l b) one others.ordered);
}
