use Rattle.sharc_ask.proofs.{Imports.{view_expr, view_option, Expr, ap, sym, ◌∙◌, Some, view_kind, return_with, gives, flow}, Stating.return_begins}
use Rattle.sharc_ask.proofs.statements.return_plan.Goals as goal

pub returns-in-None-clause-means : goal.returns-in-None-clause-means
returns-in-None-clause-means c = λ on_call m s. ap (λ o. gives flow (return_with on_call m (view_kind c.args.kind) c.args.site (view_option (λ b. view_expr b.value) o)) s) c.in-None.is

pub returns-in-Some-clause-means : goal.returns-in-Some-clause-means
returns-in-Some-clause-means c = λ on_call m s.
    let kind = view_kind c.args.kind in
    ap (λ o. gives flow (return_with on_call m kind c.args.site (view_option (λ b. view_expr b.value) o)) s) c.in-Some.is
    ∙ ap (λ (x : Expr). gives flow (return_with on_call m kind c.args.site (Some (view_expr x))) s) (sym c.deref-e.ensures)
    ∙ return_begins on_call m kind c.args.site (view_expr c.deref-e.result.now) s
