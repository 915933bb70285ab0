use Rattle.sharc_ask.proofs.{Imports.{IfOk, ◌≡◌, Err, w64, to_z, of_z, sym, subst, function_at, asked_by, run_thread, start, RunEnd, view_state, Over, Does}, Telling.held_over}
use Rattle.std.proofs.lemmas.Int.{to_z-of_z}
use Rattle.sharc_ask.proofs.thread.held.Goals as goal

pub returns-in-Err-Stopped : goal.returns-in-Err-Stopped
returns-in-Err-Stopped c =
    let m = c.args.program.now in
    let k = view_state c.run_thread.new.st in
    let e : RunEnd = RunEnd.Stopped c.in-Err-Stopped.field-0-0 c.in-Err-Stopped.field-0-1 in
    let whole : to_z w64 (of_z w64 c.args.argument) ≡ c.args.argument = to_z-of_z w64 c.args.argument c.ranges.argument in
    let s = start c.args.answers.now c.args.fuel in
    let told : Does (view_state c.started-st.result) (Err e) k (run_thread m (function_at m.typed c.args.function) (to_z w64 (of_z w64 c.args.argument))) = subst (λ e. Does (view_state c.started-st.result) (Err e) k (run_thread m (function_at m.typed c.args.function) (to_z w64 (of_z w64 c.args.argument)))) c.in-Err-Stopped.field-0-is c.in-Err-Stopped.ensures in
    let run = run_thread m (function_at m.typed c.args.function) c.args.argument s in
    let over : Over e k run = subst (λ z. Over e k (run_thread m (function_at m.typed c.args.function) z s)) whole (told s (sym c.started-st.ensures)) in
    subst (λ z. IfOk c.held_in.result (λ all. all ≡ z)) (held_over e k run over) c.held_in.ensures
