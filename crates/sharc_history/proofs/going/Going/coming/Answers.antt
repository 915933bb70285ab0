use Rattle.std.proofs.Common.{◌≡◌, ℕ, Some, ap, sym, subst, ◌∙◌}
use Rattle.std.specs.Option.{option_copied}
use Rattle.sharc_code.specs.Machine.{Machine, instr_at}
use Rattle.sharc_cpu.specs.Thread.{ThreadView}
use Rattle.sharc_seq.specs.Walk.{IsThreadThere}
use Rattle.sharc_history.specs.{Origins.origin_at, References.{next_refers, refers_at}, Told.IsComing}
use Rattle.sharc_history.proofs.going.Going.coming.Goals as goal

pub thread-requires-clause-walk : goal.thread-requires-clause-walk
thread-requires-clause-walk c = (c.args.code.now, c.args.shape.now, (c.requires.may.0, c.requires.may.1))

pub returns : goal.returns
returns c = λ turns goes.
    let code = c.args.code.now in
    let t : ℕ = c.args.number in
    let thread : ThreadView = c.in-Some.thread.now in
    let there : IsThreadThere code c.args.shape.now turns t (Some thread) =
    subst (λ o. IsThreadThere code c.args.shape.now turns t (option_copied o)) c.in-Some.is (c.thread.ensures code c.args.shape.now turns goes.stands) in
    record {
      number = ap (λ (m : Machine). m.own.number) (sym there.1.machine) ∙ there.1.number;
      is = subst (λ (m : Machine). IsComing code (instr_at code m.at.pc) m c.next_of.result) there.1.machine c.next_of.ensures.coming;
      origin = subst (λ (m : Machine). c.next_of.result.origin ≡ origin_at code m) there.1.machine c.next_of.ensures.origin;
      refers = subst (λ (m : Machine). (found : ℕ) → next_refers c.next_of.result.next found ≡ refers_at code m found) there.1.machine c.next_of.ensures.refers;
    }
