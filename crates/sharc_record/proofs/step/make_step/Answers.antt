-- The part goes through the four steps.
use Rattle.sharc_record.proofs.{Imports.{◌≡◌, ap, ◌∙◌, sym, subst, Me, Part, View, Slot, Made}, Kept.one_part}
use Rattle.sharc_record.proofs.step.make_step.Goals as goal

pub wait-requires-clause-waits : goal.wait-requires-clause-waits
wait-requires-clause-waits g c = let idle' = c.requires.idle in (idle'.0, c.draw-ticket.ensures.drawn idle'.0 idle'.3)

pub write-found-requires-clause-turn : goal.write-found-requires-clause-turn
write-found-requires-clause-turn g c =
    let idle' = c.requires.idle in
    let turn = c.wait.ensures.turn idle'.0 (c.draw-ticket.ensures.drawn idle'.0 idle'.3) in
    (idle'.0, turn.0, idle'.2, turn.1, turn.2)

pub pass_on-requires-clause-made : goal.pass_on-requires-clause-made
pass_on-requires-clause-made g c =
    let idle' = c.requires.idle in
    let turn = c.wait.ensures.turn idle'.0 (c.draw-ticket.ensures.drawn idle'.0 idle'.3) in
    let made = c.write-found.ensures.made idle'.0 turn.0 turn.2 in record {
      part = idle'.0;
      old = turn.0;
      now = made.0;
      me_is = made.2;
      step = c.args.step;
      found = c.write-found.result;
      made = subst (λ n. Made turn.0 n c.args.step c.write-found.result made.0) (sym idle'.1) made.1;
    }

pub returns-clause-appended : goal.returns-clause-appended
returns-clause-appended g c = λ part is.
    let idle' = c.requires.idle in
    let same : part ≡ idle'.0 = one_part part idle'.0 (ap (λ (m : Me Slot View). m.0.parts) (sym is ∙ idle'.3)) in
    let number : part.number ≡ c.args.thread = ap (λ (p : Part). p.number) same ∙ idle'.1 in
    let turn = c.wait.ensures.turn part (c.draw-ticket.ensures.drawn part is) in
    let made = c.write-found.ensures.made part turn.0 turn.2 in
    c.pass_on.ensures.passed part turn.0 made.0 c.args.step c.write-found.result made.2 (subst (λ n. Made turn.0 n c.args.step c.write-found.result made.0) (sym number) made.1)
