use Rattle.sharc_seq.proofs.Imports.{ℕ, ◌<◌, List, Option, None, length, sym, ◌∙◌, subst, arith, ThreadView, IsThreadThere, any_default}
use Rattle.sharc_seq.proofs.walk.Walk.thread.Goals as goal

pub index-requires : goal.index-requires
index-requires c = omega (arith, c.requires.number, c.requires.walk.2.1.seats.count)

pub returns : goal.returns
returns c = λ code s turns stands.
    let seats : List (Option ThreadView) = c.args.self.now.threads.seats.items in
    let number : ℕ = c.args.number in
    let low : number < length seats = omega (arith, c.requires.number, stands.seats.count) in
    let x : Option ThreadView = c.index.result.now in
    subst (IsThreadThere code s turns number) (sym (c.as_ref.ensures.value ∙ c.index.ensures ∙ any_default seats number x None low)) (stands.seats.each number c.requires.number)
