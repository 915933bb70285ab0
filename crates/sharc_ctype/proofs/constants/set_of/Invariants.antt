use Rattle.sharc_ctype.proofs.Imports.{◌≡◌, ℕ, ◌||◌, drop, is_among}
use Rattle.sharc_ctype.proofs.constants.set_of.Given as goal

abbrev pub invariant-loop-token : goal.invariant-loop-token
invariant-loop-token l = (q : ℕ) → (is_among q l.set.keys || is_among q (drop l.token-index l.tokens)) ≡ is_among q l.tokens
