use Rattle.sharc_flatten.proofs.Imports.{◌≡◌, true, Some, sym, subst, ◌∙◌, bytes_eq-Decides, bytes_eq, view_function, Resolution, function_at}
use Rattle.sharc_flatten.proofs.program.main_of.Goals as goal

pub returns-then-eq : goal.returns-then-eq
returns-then-eq c =
    let same : bytes_eq c.as_slice.result.now c.as_slice-in-Some.result.now ≡ true = sym c.eq.ensures ∙ c.if-eq.true in (
      (view_function c.in-Some.of.now),
      subst (λ (r : Resolution). function_at r c.loop-number.number ≡ Some (view_function c.in-Some.of.now)) c.typed-t.ensures (sym c.in-Some.ensures),
      sym c.as_slice.ensures ∙ ((bytes_eq-Decides c.as_slice.result.now c.as_slice-in-Some.result.now).0 same ∙ c.as_slice-in-Some.ensures),
    )
