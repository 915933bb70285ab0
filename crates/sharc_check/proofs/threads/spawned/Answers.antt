use Rattle.sharc_check.proofs.{Imports.{◌≡◌, ◌<◌, ◌++◌, length, ap, ◌∙◌, arith, functions_in, function_at, spawned_notes, function_notes}, SpawnLemmas.is_told, ThreadLemmas.spawned_one}
use Rattle.sharc_check.proofs.threads.spawned.Goals as goal

pub loop-n-preserved : goal.loop-n-preserved
loop-n-preserved c =
    let m = c.args.program.now in
    let typed = c.typed-typed.ensures in
    let fs = functions_in m.typed.program.items in
    let n = c.loop-n.n in
    let count : c.function_count-count.result ≡ length fs = c.function_count-count.ensures ∙ ap (λ r. length (functions_in r.program.items)) typed in
    let below : n < length fs = omega (arith, c.loop-n-test.true, count) in
    spawned_one m fs n c.spawned.result c.loop-n.notes.items c.function.new.notes.items (c.args.notes.now.items ++ spawned_notes m 0 fs) below
    (c.spawned.ensures ∙ is_told c.spawned_are_told.ensures m.typed c.args.reached.now c.requires n below)
    (c.in_ok-function.ensures ∙ ap (λ o. c.loop-n.notes.items ++ function_notes m c.spawned.result o) (c.function_at.ensures ∙ ap (λ r. function_at r n) typed))
    c.loop-n.invariant
