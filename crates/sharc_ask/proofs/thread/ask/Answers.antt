use Rattle.sharc_ask.proofs.{Imports.{◌≡◌, ◌++◌, Err, w64, to_z, of_z, refl, ap, ◌∙◌, subst, function_at, run_thread, start, pointers_among, RunEnd, Known, known, view_state, Over, Does, Wants, StoppedX}, Telling.{held_of, tells_stopped, tells_wants}}
use Rattle.std.proofs.lemmas.Int.{to_z-of_z}
use Rattle.sharc_ask.proofs.thread.ask.Goals as goal

pub returns-in-Some : goal.returns-in-Some
returns-in-Some c =
    let m = c.args.program.now in
    let st = c.run_thread.new.st in
    let k = view_state st in
    let event = c.in-Err-Wants.event in
    let whole : to_z w64 (of_z w64 c.args.argument) ≡ c.args.argument = to_z-of_z w64 c.args.argument c.ranges.argument in
    let s = start c.args.answers.now c.args.fuel in
    let k0 : Known = record { variables = c.new.result.items; temporaries = c.new-2.result.items; below = c.new-3.result.items; answers = c.args.answers.now; events = c.new-4.result.items; held = c.new-5.result.items; fuel = c.args.fuel; given_up = c.new-6.result.items } in
    let begins : known s ≡ k0 = rw (c.new.ensures.items, c.new-2.ensures.items, c.new-3.ensures.items, c.new-4.ensures.items, c.new-5.ensures.items, c.new-6.ensures.items) refl in
    let told : Does k0 (Err (RunEnd.Wants event)) k (run_thread m (function_at m.typed c.args.function) (to_z w64 (of_z w64 c.args.argument))) = subst (λ e. Does k0 (Err e) k (run_thread m (function_at m.typed c.args.function) (to_z w64 (of_z w64 c.args.argument)))) c.in-Err-Wants.field-0-is c.in-Err-Wants.ensures in
    let run = run_thread m (function_at m.typed c.args.function) c.args.argument s in
    let over : Over (RunEnd.Wants event) k run = subst (λ z. Over (RunEnd.Wants event) k (run_thread m (function_at m.typed c.args.function) z s)) whole (told s begins) in
    let held : c.in-Some.held.items ≡ held_of k = c.in-Some.ensures ∙ ap (λ z. z ++ (pointers_among st.frame.variables.items ++ st.frame.temporaries.items)) c.as_slice.ensures.value in
    tells_wants event k run c.told-in-Some.result over c.told-in-Some.ensures.events (c.told-in-Some.ensures.outcome ∙ ap (λ z. Wants event z) (c.of.ensures ∙ held)) c.told-in-Some.ensures.given_up

pub returns-in-Err-Stopped : goal.returns-in-Err-Stopped
returns-in-Err-Stopped c =
    let m = c.args.program.now in
    let k = view_state c.run_thread.new.st in
    let trap = c.in-Err-Stopped.trap in
    let site = c.in-Err-Stopped.site in
    let whole : to_z w64 (of_z w64 c.args.argument) ≡ c.args.argument = to_z-of_z w64 c.args.argument c.ranges.argument in
    let s = start c.args.answers.now c.args.fuel in
    let k0 : Known = record { variables = c.new.result.items; temporaries = c.new-2.result.items; below = c.new-3.result.items; answers = c.args.answers.now; events = c.new-4.result.items; held = c.new-5.result.items; fuel = c.args.fuel; given_up = c.new-6.result.items } in
    let begins : known s ≡ k0 = rw (c.new.ensures.items, c.new-2.ensures.items, c.new-3.ensures.items, c.new-4.ensures.items, c.new-5.ensures.items, c.new-6.ensures.items) refl in
    let told : Does k0 (Err (RunEnd.Stopped trap site)) k (run_thread m (function_at m.typed c.args.function) (to_z w64 (of_z w64 c.args.argument))) = subst (λ e. Does k0 (Err e) k (run_thread m (function_at m.typed c.args.function) (to_z w64 (of_z w64 c.args.argument)))) c.in-Err-Stopped.field-0-is c.in-Err-Stopped.ensures in
    let run = run_thread m (function_at m.typed c.args.function) c.args.argument s in
    let over : Over (RunEnd.Stopped trap site) k run = subst (λ z. Over (RunEnd.Stopped trap site) k (run_thread m (function_at m.typed c.args.function) z s)) whole (told s begins) in
    tells_stopped trap site k run c.told-in-Err-Stopped.result over c.told-in-Err-Stopped.ensures.events (c.told-in-Err-Stopped.ensures.outcome ∙ ap (λ n. StoppedX n site) c.number.ensures) c.told-in-Err-Stopped.ensures.given_up
