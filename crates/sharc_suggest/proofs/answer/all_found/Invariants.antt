use Rattle.sharc_suggest.proofs.Imports.{◌≡◌, map, take, row_for}
use Rattle.sharc_suggest.proofs.answer.all_found.Given as goal

abbrev pub invariant-loop-error : goal.invariant-loop-error
invariant-loop-error l = l.answer.items ≡ map (row_for l.first.entries) (take l.error-index l.errors)
