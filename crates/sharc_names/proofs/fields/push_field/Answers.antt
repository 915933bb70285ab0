use Rattle.sharc_names.proofs.{Imports.{◌≡◌, ◌∷◌, [], ◌++◌, ap, sym, subst, ◌∙◌, HasFirstFields}, FieldLemmas.first_pushed}
use Rattle.sharc_names.proofs.fields.push_field.Goals as goal

pub returns-clause-first : goal.returns-clause-first
returns-clause-first c =
    let list : c.push.new.self.items ≡ c.args.list.now.items ++ c.args.field ∷ [] = c.in_ok-push.ensures.items ∙ ap (λ l. l ++ c.args.field ∷ []) c.reserve.ensures.items in
    subst (λ l. HasFirstFields l c.note_first.new.by_name.entries) (sym list)
    (first_pushed c.args.list.now.items c.args.field c.args.known c.args.by_name.now.entries c.note_first.new.by_name.entries c.requires.first c.requires.known c.in_ok-note_first.ensures.written)
