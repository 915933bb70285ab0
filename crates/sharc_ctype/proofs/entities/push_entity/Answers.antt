use Rattle.sharc_ctype.proofs.{Imports.{◌≡◌, ◌∷◌, [], ◌++◌, ap, sym, subst, ◌∙◌, length, arith, HasFirstEntities}, EntityLemmas.entity_pushed}
use Rattle.sharc_ctype.proofs.entities.push_entity.Goals as goal

pub returns-clause-first : goal.returns-clause-first
returns-clause-first c =
    let list : c.push.new.self.items ≡ c.args.list.now.items ++ c.args.entity ∷ [] = c.in_ok-push.ensures.items ∙ ap (λ l. l ++ c.args.entity ∷ []) c.reserve.ensures.items in
    let last : c.len.result ≡ length c.args.list.now.items = omega arith in
    subst (λ l. HasFirstEntities l c.note_first.new.first.entries) (sym list)
    (entity_pushed c.args.list.now.items c.args.entity c.len.result c.args.first.now.entries c.note_first.new.first.entries last c.requires c.in_ok-note_first.ensures.written)
