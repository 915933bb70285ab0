use Rattle.sharc_ctype.proofs.Imports.{◌≡◌, ℕ, ◌||◌, ◌&&◌, not, drop, is_among}
use Rattle.sharc_ctype.proofs.constants.set_without.Given as goal

abbrev pub invariant-loop-token : goal.invariant-loop-token
invariant-loop-token l = (q : ℕ) → (is_among q l.set.keys || (is_among q (drop l.token-index l.tokens) && not (is_among q l.others.keys))) ≡ (is_among q l.tokens && not (is_among q l.others.keys))
