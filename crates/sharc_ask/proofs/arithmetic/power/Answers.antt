use Rattle.sharc_ask.proofs.Imports.{◌≡◌, ℕ, pos, ◌*◌, ◌%◌, ◌^◌, ◌<◌, ap, ◌∙◌, to_z, w64, FitsSigned, arith, mod-eq_of_lt, pow-lt}
use Rattle.std.proofs.lemmas.Int.{to_z-of_z}
use Rattle.sharc_ask.proofs.arithmetic.power.Goals as goal

pub returns : goal.returns
returns c =
    let n = 2 ^ c.args.by in
    let one : 1 * n ≡ n = omega arith in
    let low : n < 2 ^ 64 = pow-lt {i = c.args.by} {j = 64} (omega (arith, c.requires)) in
    let fits : FitsSigned w64 (pos n) = record { sfits = pow-lt {i = c.args.by} {j = 63} c.requires } in
    ap (λ (k : ℕ). to_z w64 (k % 2 ^ 64)) one ∙ ap (to_z w64) (mod-eq_of_lt low) ∙ to_z-of_z w64 (pos n) fits
