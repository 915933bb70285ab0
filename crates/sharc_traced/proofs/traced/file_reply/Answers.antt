use Rattle.std.proofs.Common.{List, take, ap, subst, ◌∙◌}
use Rattle.sharc_traced.specs.{Cut.IsFront, Writing.file_text}
use Rattle.sharc_history.specs.declared.event.Event.{Event}
use Rattle.sharc_mode.specs.Moded.{Assignment}
use Rattle.sharc_traced.proofs.Filing.{file_of}
use Rattle.sharc_traced.proofs.traced.file_reply.Goals as goal

pub returns : goal.returns
returns c = λ s turns account.
    let m : Assignment = c.args.built.now.checked in
    let code = c.args.built.now.code in
    let source = c.args.source.now in
    let front = c.in_ok-front.front in
    let events : List Event = c.args.run.now.events.items in
    file_of c.lines_are_of_sources.ensures m code source s turns events front _ account.events account.references
    (subst (λ es. IsFront m es front) c.as_slice-events.ensures.value c.in_ok-front.ensures)
    (c.in_ok-text.ensures
    ∙ ap (λ r. file_text r source (take front.count c.as_slice-events.result.now)) (c.typed-typed.ensures ∙ ap (λ (x : Assignment). x.typed) c.moded.ensures.moded)
    ∙ ap (λ (es : List Event). file_text m.typed source (take front.count es)) c.as_slice-events.ensures.value)
    c.status_of.ensures c.why_of.ensures
