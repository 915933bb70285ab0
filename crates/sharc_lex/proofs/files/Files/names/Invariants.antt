use Rattle.sharc_lex.proofs.Imports.{◌≡◌, take, map}
use Rattle.sharc_lex.proofs.files.Files.names.Given as goal

abbrev pub invariant-loop-name : goal.invariant-loop-name
invariant-loop-name l = l.list.items ≡ map (λ n. n.now) (take l.name-index l.name-items)
