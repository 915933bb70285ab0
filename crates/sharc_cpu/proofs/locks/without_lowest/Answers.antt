use Rattle.sharc_cpu.proofs.Imports.{◌≡◌, refl, sym, ap, ◌∙◌, lowest_of, without_lowest}
use Rattle.sharc_cpu.proofs.locks.without_lowest.Goals as goal

none : 0 ≡ without_lowest 0
unfolding without_lowest lowest_of
none = refl

pub returns-in-None : goal.returns-in-None
returns-in-None c = let zero : c.args.waiters ≡ 0 = c.in-None.ensures.nobody.0 refl in none ∙ ap without_lowest (sym zero)
