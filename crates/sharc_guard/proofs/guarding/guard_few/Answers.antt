use Rattle.sharc_guard.proofs.Imports.{fun_ext, ◌≡◌, ℕ, Bool, IfOk, subst, ap, ◌∙◌, flat_of, dropped, IsMade, marked}
use Rattle.sharc_guard.proofs.guarding.guard_few.Goals as goal

pub returns : goal.returns
returns c =
    let are : marked c.deref.result.now ≡ dropped (flat_of c.args.flat) = ap marked c.deref.ensures.value ∙ fun_ext c.in_ok-marks.ensures.are in
    subst (λ (d : ℕ → Bool). IfOk c.guard_marked.result (λ g. IsMade d c.args.flat g)) are c.guard_marked.ensures
