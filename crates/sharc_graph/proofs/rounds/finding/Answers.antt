use Rattle.sharc_graph.proofs.{Imports.{◌≡◌, ℕ, suc, ◌-◌, ◌<◌, false, length, Some, sym, ap, ◌∙◌, subst, arith, flow_of, link_of, IsInferredReason, link_at}, RoundPaths.{none_leads, source_of, is_rank_of, reason_of}}
use Rattle.sharc_graph.proofs.rounds.finding.Goals as goal

pub returns-in-None : goal.returns-in-None
returns-in-None c = λ unwritten. none_leads (flow_of c.args.places.now c.args.links.now) c.args.ranks.now c.requires.ranks c.args.position unwritten c.in-None.is

pub returns-then-rank-eq0 : goal.returns-then-rank-eq0
returns-then-rank-eq0 c = λ unwritten. source_of (flow_of c.args.places.now c.args.links.now) c.args.ranks.now c.requires.ranks c.args.position (c.in-Some.is ∙ ap (λ n. Some n) c.if-rank-eq0.true)

pub returns-else-rank-eq0 : goal.returns-else-rank-eq0
returns-else-rank-eq0 c = λ unwritten.
    let f = flow_of c.args.places.now c.args.links.now in
    let ranks = c.args.ranks.now in
    let below = c.in-Some.rank - 1 in
    let not = c.if-rank-eq0.false in
    let is : c.in-Some.rank ≡ suc below = omega arith in
    let few = c.requires.few in
    let small : (i : ℕ) → i < length c.args.links.now → (link_at c.args.links.now i).edge.from < 4294967295 = λ i inside. let within = (c.requires.within i (link_of 0 0 false) inside).0 in omega arith in (
      is_rank_of f ranks c.requires.ranks c.args.position c.in-Some.rank unwritten c.in-Some.is,
      subst (λ n. IsInferredReason f c.args.position n c.lowest.result) (sym is)
          (reason_of f ranks c.requires.ranks c.args.position below c.lowest.result 4294967295 small (c.in-Some.is ∙ ap (λ n. Some n) is) c.lowest.ensures.lowest c.lowest.ensures.some),
    )
