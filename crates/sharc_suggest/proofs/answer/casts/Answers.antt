use Rattle.sharc_suggest.proofs.{Imports.{ap, ◌∙◌, view_items, told}, CallLemmas.casts_are}
use Rattle.sharc_suggest.proofs.answer.casts.Goals as goal

pub returns : goal.returns
returns c =
    let flags = c.args.named.now in
    record {
      named = told flags;
      tells = c.requires;
      are = casts_are c.args.program.now flags c.new-casts.result.items c.items.new.casts.items (view_items c.as_slice.result.now) c.new-casts.ensures.items
          (ap view_items c.as_slice.ensures ∙ ap (λ p. p.items) c.program-tree.ensures.program ∙ ap (λ r. r.program.items) c.typed.ensures)
          c.in_ok-items.ensures;
    }
