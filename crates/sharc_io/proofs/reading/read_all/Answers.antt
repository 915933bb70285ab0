use Rattle.std.proofs.{Common.{arith, ◌-◌, ◌+◌}, lemmas.Result.err_from_is_err_and}
use Rattle.sharc_io.proofs.Parts.{takes_front_more, takes_at_most_more}
use Rattle.sharc_io.proofs.reading.read_all.Goals as goal

pub returns-in_err-append_some-clause-too_long : goal.returns-in_err-append_some-clause-too_long
returns-in_err-append_some-clause-too_long g c = λ h.
    let passed = err_from_is_err_and c.from_residual.result c.from_residual.ensures.1 in
    takes_front_more _ _ _ c.loop-bytes.bytes.items (c.args.limit - c.len.result + 1) _
    (c.in_err-append_some.ensures.too_long (cc (passed.1, passed.2, h))) c.loop-bytes.invariant.taken (omega (arith, c.loop-bytes.bytes.ok))

pub returns-in_err-append_some-clause-memory_in_limit :
    goal.returns-in_err-append_some-clause-memory_in_limit
returns-in_err-append_some-clause-memory_in_limit g c = λ h.
    let passed = err_from_is_err_and c.from_residual.result c.from_residual.ensures.1 in
    takes_at_most_more _ _ _ c.loop-bytes.bytes.items (c.args.limit - c.len.result) _
    (c.in_err-append_some.ensures.memory_in_room (cc (passed.1, passed.2, h))) c.loop-bytes.invariant.taken (omega (arith, c.loop-bytes.bytes.ok))
