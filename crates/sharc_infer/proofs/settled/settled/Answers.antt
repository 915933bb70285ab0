use Rattle.sharc_infer.proofs.{Imports.{◌++◌, map, ap, ◌∙◌, entities_in, numbered, Numbered, settled_in}, LinkLemmas.numbered_entities}
use Rattle.sharc_infer.proofs.settled.settled.Goals as goal

pub loop-numbered-init : goal.loop-numbered-init
loop-numbered-init c =
    let list = entities_in c.args.typed.now.program.items in
    ap (λ l. l ++ settled_in (map (λ (n : Numbered). n.entity) (numbered list))) c.new-list.ensures.items ∙ ap settled_in (numbered_entities 0 list)
