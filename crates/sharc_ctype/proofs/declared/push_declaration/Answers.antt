use Rattle.sharc_ctype.proofs.{Imports.{◌≡◌, ◌∷◌, [], ◌++◌, ap, sym, subst, ◌∙◌, length, arith, HasFirstPlaces}, DeclaredLemmas.first_pushed}
use Rattle.sharc_ctype.proofs.declared.push_declaration.Goals as goal

pub returns-clause-first : goal.returns-clause-first
returns-clause-first c =
    let list : c.push.new.self.items ≡ c.args.list.now.items ++ c.args.declaration ∷ [] = c.in_ok-push.ensures.items ∙ ap (λ l. l ++ c.args.declaration ∷ []) c.reserve.ensures.items in
    let last : c.len.result ≡ length c.args.list.now.items = omega arith in
    subst (λ l. HasFirstPlaces l c.note_first.new.first.entries) (sym list)
    (first_pushed c.args.list.now.items c.args.declaration c.len.result c.args.first.now.entries c.note_first.new.first.entries last c.requires c.in_ok-note_first.ensures.written)
