use Rattle.sharc_flatten.proofs.Imports.{◌≡◌, ◌++◌, length, tokens_text, places_from}
use Rattle.sharc_flatten.proofs.tokens.lay_tokens.Given as goal

abbrev pub invariant-loop-rest : goal.invariant-loop-rest
invariant-loop-rest l = record {
  places : l.places.items ++ places_from (length l.bytes.items) l.rest ≡ places_from (length l.fn.bytes.items) l.tokens;
  bytes : l.bytes.items ++ tokens_text l.rest ≡ l.fn.bytes.items ++ tokens_text l.tokens;
}

abbrev pub decreases-loop-rest : goal.decreases-loop-rest
decreases-loop-rest l = length l.rest
