use Rattle.sharc_ctype.proofs.{Imports.{ap, ◌∙◌, view_program, is_constant, Resolution}, AssignedLemmas.table_tells}
use Rattle.sharc_ctype.proofs.typed.Typed.is_constant.Goals as goal

pub returns : goal.returns
returns c =
    let r : Resolution = record { program = view_program c.self.inside.program; named = c.self.inside.named.items } in
    c.contains.ensures ∙ table_tells r c.args.token c.self.inside.tables.constants.keys c.self.invariant.1.constants ∙ ap (λ (x : Resolution). is_constant x c.args.token) c.self.view_is
