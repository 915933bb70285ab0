use Rattle.sharc_flatten.proofs.{Imports.{◌≡◌, ℕ, ◌+◌, ◌-◌, ◌++◌, ◌∷◌, [], length, set, take, ap, ◌∙◌, arith, on_ok_weaker, option_map, view_block, if_then_else, view_expr, view_simple, view_stmt, view_statements, Op, behind_statements, looping, statement_code, context, around_of, block_code, finished}, BodyLemmas.{around_within, choice_lines, turns_lines, block_at, sides_at}, StatementLemmas.{grown_all, kept}}
use Rattle.sharc_flatten.proofs.bodies.+statement.Goals as goal

pub block-returns-clause-slots : goal.block-returns-clause-slots
block-returns-clause-slots t c =
    let xs = c.args.slots.now.items in
    let con = context c.args.source.now xs in
    let size : c.len-began.result ≡ length xs = omega (arith, c.len-began.ensures, c.args.slots.now.ok.0) in
    on_ok_weaker c.emit.result
    (λ (e : c.emit.new.lines.items ≡ c.end_block.new.lines.items ++ Op.BlockEnd ∷ []).
    c.truncate-2.ensures.items ∙ ap (λ n. take n c.statements.new.slots.items) size ∙ kept c.args.source.now xs c.statements.new.slots.items (behind_statements con (view_statements c.args.all.now)) (grown_all con (view_statements c.args.all.now)) c.in_ok-statements.ensures.slots)
    c.emit.ensures

pub choice-returns-clause-code : goal.choice-returns-clause-code
choice-returns-clause-code t c =
    let p = c.args.source.now in
    let con = context p c.args.slots.now.items in
    let a = around_of c.args.around c.args.marks.now.items in
    let l2 = c.inner.new.lines.items in
    let l3 = c.skip_if_zero.new.lines.items in
    let h = c.in_ok-hole.hole in
    on_ok_weaker c.skip_if_zero.result
    (λ (e3 : l3 ≡ set l2 h.line (Op.SkipIfZero h.register (length l2 - h.line - 1 + 0))).
    choice_lines con (context p c.as_slice.result.now) (view_expr c.args.test.now) c.args.lines.now.items c.turn.new.lines.items l2 l3 h (λ at. statement_code con a at (view_stmt c.args.then.now))
    (ap (context p) c.as_slice.ensures.value) c.in_ok-hole.ensures.code c.in_ok-hole.ensures.hole c.in_ok-inner.ensures.code e3)
    c.skip_if_zero.ensures

pub statement-returns-in_ok-inner-in-IfElse-2-clause-code : goal.statement-returns-in_ok-inner-in-IfElse-2-clause-code
statement-returns-in_ok-inner-in-IfElse-2-clause-code t c =
    let con = context c.args.source.now c.args.slots.now.items in
    let a = around_of c.args.around c.args.marks.now.items in
    let y = view_stmt c.in-IfElse.otherwise.value in
    let l5 = c.inner-in-IfElse.new.lines.items in
    let l6 = c.skip.new.lines.items in
    let over = c.in_ok-over-in-IfElse.over in
    let form : view_stmt c.args.stmt.now ≡ if_then_else c.in-IfElse.span (view_expr c.in-IfElse.test.value) (view_stmt c.in-IfElse.then.value) y = ap view_stmt c.in-IfElse.is in
    on_ok_weaker c.skip.result
    (λ (e6 : l6 ≡ set l5 over (Op.Skip (length l5 - over - 1 + 0))).
    sides_at c.args.source.now c.args.slots.now.items c.inner.new.slots.items c.as_slice-in-IfElse.result.now c.args.around c.args.marks.now.items c.inner.new.marks.items c.in-IfElse.span (view_stmt c.args.stmt.now) (view_expr c.in-IfElse.test.value) (view_expr c.deref-in-IfElse.result.now)
    (view_stmt c.in-IfElse.then.value) (view_stmt c.deref-in-IfElse-2.result.now) y (view_stmt c.deref-in-IfElse-3.result.now) c.args.lines.now.items c.emit.new.lines.items c.turn.new.lines.items c.inner.new.lines.items c.other_side.new.lines.items l5 l6 c.in_ok-hole-in-IfElse.hole over
    form (ap view_expr c.deref-in-IfElse.ensures) (ap view_stmt c.deref-in-IfElse-2.ensures) (ap view_stmt c.deref-in-IfElse-3.ensures)
    c.as_slice-in-IfElse.ensures.value c.in_ok-inner-in-IfElse.ensures.slots c.in_ok-inner-in-IfElse.ensures.marks
    c.in_ok-emit.ensures c.in_ok-hole-in-IfElse.ensures.code c.in_ok-hole-in-IfElse.ensures.hole c.in_ok-inner-in-IfElse.ensures.code c.in_ok-over-in-IfElse.ensures.code c.in_ok-over-in-IfElse.ensures.line
    c.in_ok-inner-in-IfElse-2.ensures.code e6)
    c.skip.ensures

pub statement-returns-in-Block-clause-code : goal.statement-returns-in-Block-clause-code
statement-returns-in-Block-clause-code t c =
    let con = context c.args.source.now c.args.slots.now.items in
    let a = around_of c.args.around c.args.marks.now.items in
    let l1 = c.emit.new.lines.items in
    let l2 = c.block.new.lines.items in
    on_ok_weaker c.block.result
    (λ (e2 : l2 ≡ l1 ++ block_code con a (length l1) (view_statements c.as_slice.result.now)).
    block_at con a c.in-Block.field-0 (view_stmt c.args.stmt.now) (view_statements c.in-Block.all.items) (view_statements c.as_slice.result.now) c.args.lines.now.items l1 l2
    (view_block c.args.stmt.now c.in-Block.field-0 c.in-Block.all c.in-Block.is) (ap view_statements c.as_slice.ensures.value) c.in_ok-emit.ensures e2)
    c.block.ensures.code

pub turns-returns-clause-code : goal.turns-returns-clause-code
turns-returns-clause-code t c =
    let p = c.args.source.now in
    let con = context p c.args.slots.now.items in
    let around = c.args.around in
    let marks = c.args.marks.now.items in
    let old = c.args.lines.now.items in
    let pc = length old in
    let test = option_map (λ e. view_expr e.now) c.args.test in
    let step = option_map (λ x. view_simple x.now) c.args.after in
    let l4 = c.decision.new.lines.items in
    let l7 = c.step.new.lines.items in
    let l8 = c.finish.new.lines.items in
    let head = c.len-head.result in
    let hole = c.in_ok-hole.hole in
    let at : head ≡ length old = omega (arith, c.len-head.ensures, c.args.lines.now.ok.0) in
    let broken : c.in_ok-line_at.field-0 ≡ pc + 1 = omega (arith, c.in_ok-line_at.ensures, at) in
    let continued : c.in_ok-line_at-2.field-0 ≡ pc + 2 = omega (arith, c.in_ok-line_at-2.ensures, at) in
    let outer : c.len.result ≡ length marks = omega (arith, c.len.ensures, c.args.marks.now.ok.0) in
    let within = around_within around.result c.in_ok-line_at.field-0 c.in_ok-line_at-2.field-0 c.len.result around.broken around.continued around.outer pc marks broken continued outer in
    let F = λ (n : ℕ). statement_code con (looping (around_of around marks) (pc + 1) (pc + 2)) n (view_stmt c.args.body.now) in
    on_ok_weaker c.finish.result
    (λ (e8 : l8 ≡ finished head hole l7).
    turns_lines con (context p c.as_slice.result.now) (context p c.as_slice-2.result.now) test step old c.emit.new.lines.items c.emit-2.new.lines.items c.emit-3.new.lines.items l4 c.inner.new.lines.items c.skip.new.lines.items l7 l8 head hole F
    (ap (context p) c.as_slice.ensures.value) (ap (context p) (c.as_slice-2.ensures.value ∙ c.in_ok-inner.ensures.slots)) at
    c.in_ok-emit.ensures c.in_ok-emit-2.ensures c.in_ok-emit-3.ensures c.in_ok-hole.ensures.code c.in_ok-hole.ensures.hole
    (c.in_ok-inner.ensures.code ∙ ap (λ k. l4 ++ statement_code con k (length l4) (view_stmt c.args.body.now)) within) c.in_ok-skip.ensures c.in_ok-step.ensures e8)
    c.finish.ensures
