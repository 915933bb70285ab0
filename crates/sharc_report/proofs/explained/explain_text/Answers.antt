use Rattle.sharc_report.proofs.{Imports.{◌≡◌, ◌<◌, length, get_or, ap, ◌∙◌, subst, entities_in, numbered}, OwnerLemmas.numbered_ends}
use Rattle.sharc_report.proofs.explained.explain_text.Goals as goal

pub put_explanation-requires-clause-within : goal.put_explanation-requires-clause-within
put_explanation-requires-clause-within c =
    let list = entities_in c.args.program.now.typed.program.items in
    let i = c.loop-n.n-index in
    let n = c.n-item.result in
    let are : c.entities-n-items.result.now ≡ numbered list = c.entities-n-items.ensures ∙ ap (λ r. numbered (entities_in r.program.items)) c.typed-2.ensures in
    let inside = subst (λ l. i < length l) are c.loop-n-test.true in
    numbered_ends list i n inside (c.n-item.is ∙ ap (λ l. get_or l i n) are)
