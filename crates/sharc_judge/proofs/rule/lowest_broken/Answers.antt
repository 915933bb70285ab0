use Rattle.sharc_judge.specs.Deciding.{view_until}
use Rattle.sharc_judge.proofs.Lowest.{broken_by, kept_by, lowest_2, lowest_3, lowest_4, lowest_5, lowest_6, obeys_all}
use Rattle.sharc_judge.proofs.rule.lowest_broken.Goals as goal

pub returns-then-not-holds-2 : goal.returns-then-not-holds-2
returns-then-not-holds-2 c = lowest_2 c.args.events.now (view_until c.args.until) (kept_by c.holds.ensures c.if-not-holds.false) (broken_by c.holds-else-not-holds.ensures c.if-not-holds-2.true)

pub returns-then-not-holds-3 : goal.returns-then-not-holds-3
returns-then-not-holds-3 c = lowest_3 c.args.events.now (view_until c.args.until) (kept_by c.holds.ensures c.if-not-holds.false) (kept_by c.holds-else-not-holds.ensures c.if-not-holds-2.false) (broken_by c.holds-else-not-holds-2.ensures c.if-not-holds-3.true)

pub returns-then-not-holds-4 : goal.returns-then-not-holds-4
returns-then-not-holds-4 c = lowest_4 c.args.events.now (view_until c.args.until) (kept_by c.holds.ensures c.if-not-holds.false) (kept_by c.holds-else-not-holds.ensures c.if-not-holds-2.false) (kept_by c.holds-else-not-holds-2.ensures c.if-not-holds-3.false) (broken_by c.holds-else-not-holds-3.ensures c.if-not-holds-4.true)

pub returns-then-not-holds-5 : goal.returns-then-not-holds-5
returns-then-not-holds-5 c = lowest_5 c.args.events.now (view_until c.args.until) (kept_by c.holds.ensures c.if-not-holds.false) (kept_by c.holds-else-not-holds.ensures c.if-not-holds-2.false) (kept_by c.holds-else-not-holds-2.ensures c.if-not-holds-3.false) (kept_by c.holds-else-not-holds-3.ensures c.if-not-holds-4.false) (broken_by c.holds-else-not-holds-4.ensures c.if-not-holds-5.true)

pub returns-then-not-holds-6 : goal.returns-then-not-holds-6
returns-then-not-holds-6 c = lowest_6 c.args.events.now (view_until c.args.until) (kept_by c.holds.ensures c.if-not-holds.false) (kept_by c.holds-else-not-holds.ensures c.if-not-holds-2.false) (kept_by c.holds-else-not-holds-2.ensures c.if-not-holds-3.false) (kept_by c.holds-else-not-holds-3.ensures c.if-not-holds-4.false) (kept_by c.holds-else-not-holds-4.ensures c.if-not-holds-5.false) (broken_by c.holds-else-not-holds-5.ensures c.if-not-holds-6.true)

pub returns-else-not-holds-6 : goal.returns-else-not-holds-6
returns-else-not-holds-6 c = obeys_all c.args.events.now (view_until c.args.until) (kept_by c.holds.ensures c.if-not-holds.false) (kept_by c.holds-else-not-holds.ensures c.if-not-holds-2.false) (kept_by c.holds-else-not-holds-2.ensures c.if-not-holds-3.false) (kept_by c.holds-else-not-holds-3.ensures c.if-not-holds-4.false) (kept_by c.holds-else-not-holds-4.ensures c.if-not-holds-5.false) (kept_by c.holds-else-not-holds-5.ensures c.if-not-holds-6.false)
