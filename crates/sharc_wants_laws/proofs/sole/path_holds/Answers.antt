use Rattle.sharc_wants_laws.proofs.{Imports.{inl, inr, ⊎_elim}, Coming.paths_come, Holding.held_there}
use Rattle.sharc_wants_laws.proofs.sole.path_holds.Goals as goal

pub returns : goal.returns
returns c = λ m p flat flattens fits code is s thread elements founds path consistent. ⊎_elim
    (λ h. inl h)
    (λ w. inr (held_there w))
    (paths_come c.typed_asks_the_same.ensures c.typed_is_framed.ensures c.made_counts.ensures c.accepted_levels.ensures c.functions_are_named.ensures.named c.framed_law.ensures c.paths_law.ensures c.path_laws.ensures m p flat flattens fits code is s thread elements founds path consistent)
