use Rattle.sharc_check.proofs.{Imports.{◌≡◌, ap, sym, ◌∙◌, subst, List, ModeError, errors_of, notes_about, IsInOrder, touched_by}, NamedLemmas.told_by, TouchedLemmas.all_arise}
use Rattle.sharc_check.proofs.answer.errors.Goals as goal

pub returns : goal.returns
returns c =
    let m = c.args.program.now in
    let a = c.args.reached.now in
    let typed = c.typed-typed.ensures in
    let found = c.in_ok-errors.errors.items in
    let sorted = subst (λ (l : List ModeError). IsInOrder found l) (sym c.of.ensures) c.in_ok-put_in_order.ensures in
    let are : found ≡ errors_of m.typed (notes_about m (touched_by a)) =
    c.in_ok-errors.ensures.errors ∙ ap (λ r. errors_of r c.in_ok-notes.notes.items) typed ∙ ap (errors_of m.typed) c.in_ok-notes.ensures in
    record {
      errors = record {
        found = errors_of m.typed (notes_about m (touched_by a));
        arise = all_arise m a c.requires;
        ordered = subst (λ (l : List ModeError). IsInOrder l c.of.result) are sorted;
      };
      named = told_by m (touched_by a) c.in_ok-errors.named c.in_ok-notes.notes.items c.in_ok-errors.ensures.named c.in_ok-notes.ensures;
    }
