use Rattle.sharc_check.proofs.{Imports.{ap, ◌∙◌, refl, marks}, SettleLemmas.all_settled}
use Rattle.sharc_check.proofs.moved_variables.settle.Goals as goal

pub returns : goal.returns
returns c =
    record {
      errors = all_settled c.args.typed.now c.args.notes.items c.args.notes.items c.as_slice.result.now c.in_ok-named.named c.in_ok-errors.errors.items c.reverse.new.self.items c.as_slice.ensures.value refl c.in_ok-named.ensures
          c.in_ok-errors.ensures
          c.reverse.ensures.items;
      named = c.in_ok-named.ensures ∙ ap marks c.as_slice.ensures.value;
    }
