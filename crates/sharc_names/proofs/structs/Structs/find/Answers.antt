use Rattle.sharc_names.proofs.{Imports.{ap, ◌∙◌, struct_of}, StructLemmas.{found_is, seen_at, found_lookup}}
use Rattle.sharc_names.proofs.structs.Structs.find.Goals as goal

pub returns : goal.returns
returns c =
    found_is c.get.result
    ∙ ap seen_at c.get.ensures.value
    ∙ found_lookup c.args.name.now c.self.inside.by_name.entries
    ∙ ap (λ s. struct_of s c.args.name.now) c.self.view_is
