use Rattle.sharc_suggest_laws.proofs.Imports.{◌≡◌, drop, base_site}
use Rattle.sharc_suggest_laws.proofs.applied.base_site.Given as goal

abbrev pub invariant-loop-one : goal.invariant-loop-one
invariant-loop-one l = base_site (drop l.one-index l.types) l.base l.site ≡ base_site l.types l.base l.site
