use Rattle.std.proofs.Common.{◌≡◌, ◌<◌, List, Option, true, false, length, sym, ◌∙◌, arith}
use Rattle.sharc_cpu.specs.Thread.{ThreadView}
use Rattle.sharc_rounds.proofs.{Needing.{gone_over, behind_all, below_behind, same_worker}, worker.workers_needed.Goals.{then-is_some, else-is_some}}
use Rattle.sharc_rounds.proofs.worker.workers_needed.Goals as goal

pub loop-n-preserved : goal.loop-n-preserved
loop-n-preserved c =
    let xs : List (Option ThreadView) = c.args.seats.now in
    let n = c.loop-n.n in
    let x : Option ThreadView = c.index-seats-n.result in
    let old = c.loop-n.invariant in
    let low : n < length xs = omega (arith, c.loop-n-test.true) in
    elim c.if-is_some.branch [
      | then-is_some w ↦ record {
        behind = gone_over xs n c.loop-n.behind c.if-is_some.behind x c.is_some.result low c.index-seats-n.is c.is_some.ensures old.behind (λ e. w.behind-is)
            (λ e. absurd (let f : true ≡ false = sym w.if-is_some.true ∙ e in cc));
        few = omega (arith, w.behind-is, old.few);
      }
      | else-is_some w ↦ record {
        behind = gone_over xs n c.loop-n.behind c.if-is_some.behind x c.is_some.result low c.index-seats-n.is c.is_some.ensures old.behind
            (λ e. absurd (let f : true ≡ false = sym e ∙ w.if-is_some.false in cc)) (λ e. w.behind-is);
        few = omega (arith, w.behind-is, old.few);
      }
    ]

pub returns-then-behind-workers-clause-same : goal.returns-then-behind-workers-clause-same
returns-then-behind-workers-clause-same c = λ n there.
    let all = behind_all c.args.seats.now c.loop-n.n (omega (arith, c.loop-n-test.false)) in
    let before = below_behind c.args.seats.now n there in
    let low : n < c.loop-n.behind = omega (arith, before, all, c.loop-n.invariant.behind) in
    let is : c.max.result ≡ c.loop-n.behind = omega (arith, c.max.ensures, low) in
    same_worker c.args.workers c.loop-n.behind c.max.result n low is (omega (arith, is, c.if-behind-workers.true))
