use Rattle.sharc_ctype.proofs.{Imports.{◌≡◌, ◌∙◌, sym, None, row_at}, EntityLemmas.{row_written, none_copied}}
use Rattle.sharc_ctype.proofs.entities.note_first.Goals as goal

pub returns-clause-written : goal.returns-clause-written
returns-clause-written c =
    let none : row_at c.args.first.now.entries c.args.token c.args.last ≡ None = sym c.get.ensures.value ∙ none_copied c.get.result (sym c.is_some.ensures ∙ c.if-is_some.false) in
    row_written c.args.first.now.entries c.insert.new.self.entries c.args.token c.args.last c.args.place none c.in_ok-insert.ensures.updates.0
