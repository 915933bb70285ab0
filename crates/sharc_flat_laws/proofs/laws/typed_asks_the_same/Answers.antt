use Rattle.sharc_flat_laws.proofs.laws.typed_asks_the_same.Goals as goal

pub returns : goal.returns
returns c = λ m resolved placed low least well code is. c.made_asks_the_same.ensures m (c.typed_suits.ensures m resolved placed low least well) code is
