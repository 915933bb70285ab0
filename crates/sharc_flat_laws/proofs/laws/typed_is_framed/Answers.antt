use Rattle.sharc_flat_laws.proofs.laws.typed_is_framed.Goals as goal

pub returns : goal.returns
returns c = λ m resolved placed low least well code is fits. c.made_is_framed.ensures m (c.typed_suits.ensures m resolved placed low least well) code is fits
