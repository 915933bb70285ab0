use Rattle.sharc_check.proofs.{Imports.{◌≡◌, ◌<◌, ◌++◌, length, is_some, ap, ◌∙◌, arith, globals_in, global_at, touched_notes, touched_by, global_notes}, ThreadLemmas.touched_one}
use Rattle.sharc_check.proofs.threads.touched.Goals as goal

pub loop-n-preserved : goal.loop-n-preserved
loop-n-preserved c =
    let typed = c.typed-typed.ensures in
    let gs = globals_in c.args.program.now.typed.program.items in
    let n = c.loop-n.n in
    let count : c.global_count-count.result ≡ length gs = c.global_count-count.ensures ∙ ap (λ r. length (globals_in r.program.items)) typed in
    let below : n < length gs = omega (arith, c.loop-n-test.true, count) in
    touched_one (touched_by c.args.reached.now) gs n c.is_some.result c.loop-n.notes.items c.global.new.notes.items (c.args.notes.now.items ++ touched_notes (touched_by c.args.reached.now) 0 gs) below
    (c.is_some.ensures ∙ ap is_some c.touched.ensures)
    (c.in_ok-global.ensures ∙ ap (λ o. c.loop-n.notes.items ++ global_notes c.is_some.result o) (c.global_at.ensures ∙ ap (λ r. global_at r n) typed))
    c.loop-n.invariant
