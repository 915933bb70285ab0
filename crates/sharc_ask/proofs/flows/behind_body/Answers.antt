use Rattle.sharc_ask.proofs.Imports.{◌≡◌, sym, ap, ◌∙◌, to_z, of_z, w64, rules, ℤ, go, returned, view_flow, flow, gives, left_body}
use Rattle.sharc_ask.proofs.flows.behind_body.Goals as goal

pub returns-in-Next-clause-means : goal.returns-in-Next-clause-means
returns-in-Next-clause-means c = λ on_call m s. ap (λ f. gives flow (left_body on_call m c.args.l c.args.number (view_flow f)) s) c.in-Next.is ∙ c.next_turn.ensures.means on_call m s

pub returns-in-Continued-clause-means : goal.returns-in-Continued-clause-means
returns-in-Continued-clause-means c = λ on_call m s. ap (λ f. gives flow (left_body on_call m c.args.l c.args.number (view_flow f)) s) c.in-Continued.is ∙ c.next_turn-in-Continued.ensures.means on_call m s
