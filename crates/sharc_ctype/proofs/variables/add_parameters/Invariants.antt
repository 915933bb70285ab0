use Rattle.sharc_ctype.proofs.Imports.{◌≡◌, ◌++◌, drop, map}
use Rattle.sharc_ctype.proofs.variables.add_parameters.Given as goal

abbrev pub invariant-loop-parameter : goal.invariant-loop-parameter
invariant-loop-parameter l = l.tokens.items ++ map (λ d. d.name.site.token) (drop l.parameter-index l.parameters) ≡ l.fn.tokens.items ++ map (λ d. d.name.site.token) l.parameters
