use Rattle.sharc_ctype.proofs.{Imports.{◌-◌, ◌+◌, ap, sym, ◌∙◌, drop, length, fold, view_block, view_stmt, view_statements, noted, beyond, locals_in, locals_in_all, first_of_rest}, LocalLemmas.{beyond_both, room_both}}
use Rattle.sharc_ctype.proofs.locals.+locals.Goals as goal

pub locals-returns-in-Block-clause-room : goal.locals-returns-in-Block-clause-room
locals-returns-in-Block-clause-room t c =
    c.all_locals.ensures.room
    ∙ ap (λ l. c.args.room - length (locals_in_all (view_statements l))) c.as_slice.ensures.value
    ∙ ap (λ x. c.args.room - length (locals_in x)) (sym (view_block c.args.stmt.now c.in-Block.field-0 c.in-Block.list c.in-Block.is))

pub locals-returns-in-Block-clause-found : goal.locals-returns-in-Block-clause-found
locals-returns-in-Block-clause-found t c =
    c.all_locals.ensures.found
    ∙ ap (λ l. fold noted c.args.found.now (beyond c.args.room (locals_in_all (view_statements l)))) c.as_slice.ensures.value
    ∙ ap (λ x. fold noted c.args.found.now (beyond c.args.room (locals_in x))) (sym (view_block c.args.stmt.now c.in-Block.field-0 c.in-Block.list c.in-Block.is))

pub all_locals-loop-stmt-preserved : goal.all_locals-loop-stmt-preserved
all_locals-loop-stmt-preserved t c =
    let list = c.args.list.now in
    let i = c.loop-stmt.stmt-index in
    let e = c.stmt-item.result in
    let here = locals_in (view_stmt e) in
    let rest = locals_in_all (view_statements (drop (i + 1) list)) in
    let next = sym (first_of_rest list i e c.loop-stmt-test.true c.stmt-item.is) in
    record {
      room =
          room_both c.loop-stmt.left c.locals-left.result here rest c.locals-left.ensures.room
          ∙ ap (λ l. c.loop-stmt.left - length (locals_in_all (view_statements l))) next
          ∙ c.loop-stmt.invariant.room;
      found =
          beyond_both c.loop-stmt.left c.locals-left.result here rest c.loop-stmt.found c.locals-left.new.found c.locals-left.ensures.room c.locals-left.ensures.found
          ∙ ap (λ l. fold noted c.loop-stmt.found (beyond c.loop-stmt.left (locals_in_all (view_statements l)))) next
          ∙ c.loop-stmt.invariant.found;
    }
