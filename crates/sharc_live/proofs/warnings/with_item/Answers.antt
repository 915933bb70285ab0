use Rattle.sharc_live.proofs.{Imports.{[], ◌∷◌, sym, subst, view_function, view_items, functions_in, AddsAll}, Warned.{adds_one, adds_none}}
use Rattle.sharc_live.proofs.warnings.with_item.Goals as goal

pub returns-in_ok-more-in-Function : goal.returns-in_ok-more-in-Function
returns-in_ok-more-in-Function c =
    subst (λ i. AddsAll c.args.typed.now (functions_in (view_items (i ∷ []))) c.args.found.items c.in_ok-more-in-Function.more.items) (sym c.in-Function.is)
    (adds_one c.args.typed.now (view_function c.in-Function.definition) c.args.found.items c.in_ok-more-in-Function.more.items c.in_ok-more-in-Function.ensures)

pub returns-in-Struct : goal.returns-in-Struct
returns-in-Struct c = subst (λ i. AddsAll c.args.typed.now (functions_in (view_items (i ∷ []))) c.args.found.items c.args.found.items) (sym c.in-Struct.is) (adds_none c.args.typed.now c.args.found.items)

pub returns-in-Global : goal.returns-in-Global
returns-in-Global c = subst (λ i. AddsAll c.args.typed.now (functions_in (view_items (i ∷ []))) c.args.found.items c.args.found.items) (sym c.in-Global.is) (adds_none c.args.typed.now c.args.found.items)
