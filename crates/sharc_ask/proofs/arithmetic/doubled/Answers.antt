use Rattle.sharc_ask.proofs.{Imports.{◌-◌, ◌/◌, sym, subst, FitsSigned, w64, arith}, Doubling.{in_halves, past_half}}
use Rattle.sharc_ask.proofs.arithmetic.doubled.Goals as goal

pub returns-in-Some : goal.returns-in-Some
returns-in-Some c =
    let half = c.args.by / 2 in
    in_halves c.args.width c.args.value c.power.result c.power-in-Some.result c.in-Some.product_so_far c.product.result c.args.by half (c.args.by - half) c.ranges.value (subst (FitsSigned w64) (sym c.in-Some.ensures.1) c.in-Some.ensures.0) c.power.ensures c.power-in-Some.ensures (omega arith) (omega arith) (omega arith) c.in-Some.ensures.1 c.product.ensures

pub returns-in-None : goal.returns-in-None
returns-in-None c =
    let half = c.args.by / 2 in
    past_half c.args.width c.args.value c.power.result c.args.by half (c.args.by - half) c.ranges.value c.power.ensures (omega arith) (omega arith) c.in-None.ensures
