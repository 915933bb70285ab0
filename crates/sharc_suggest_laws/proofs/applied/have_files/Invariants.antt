use Rattle.sharc_suggest_laws.proofs.Imports.{◌<◌, take, All}
use Rattle.sharc_suggest_laws.proofs.applied.have_files.Given as goal

abbrev pub invariant-loop-token : goal.invariant-loop-token
invariant-loop-token l = All (λ t. t.file < l.files) (take l.token-index l.tokens)
