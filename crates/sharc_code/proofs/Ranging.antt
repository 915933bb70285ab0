-- What follows of the ranges of a code's numbers.
use Rattle.sharc_code.proofs.Imports.{◌≡◌, ℕ, ◌+◌, ◌*◌, ◌<◌, ◌≤◌, ◌^◌, List, arith, ⊎_elim, cases_lt, mul-le, Code, GlobalCells, Shape, FRAMES, Fits, granules, words_of, most_refs, IsInGlobal, GlobalsFit, NumbersFit, first_place, end_place, most_references}

not_before : (globals : List GlobalCells) (granules g h place : ℕ) → GlobalsFit globals granules → IsInGlobal globals g place → IsInGlobal globals h place → g < h → ⊥
not_before globals granules g h place fit at_g at_h less =
    let apart : end_place globals g ≤ first_place globals h = fit.apart g h less at_h.known in
    omega (arith, apart, at_g.high, at_h.low)

pub one_global : (globals : List GlobalCells) (granules g h place : ℕ) → GlobalsFit globals granules → IsInGlobal globals g place → IsInGlobal globals h place → g ≡ h
one_global globals granules g h place fit at_g at_h =
    ⊎_elim
    (λ (less : g < h). absurd (not_before globals granules g h place fit at_g at_h less))
    (λ (more : h ≤ g). ⊎_elim
    (λ (less : h < g). absurd (not_before globals granules h g place fit at_h at_g less))
    (λ (same : g ≤ h). omega (arith, more, same))
    (cases_lt h g))
    (cases_lt g h)

pub counts_fit : (code : Code) (s : Shape) → NumbersFit code → Fits code s → most_references code s + 1 < 2 ^ 64
counts_fit code s fit fits =
    let few : granules s ≤ 131073 = omega (arith, fit.few, fits.globals, fits.most) in
    let twice : 2 * granules s ≤ 262146 = omega (arith, few) in
    let cells : granules s * (2 * granules s) ≤ 131073 * 262146 = mul-le (granules s) (2 * granules s) 131073 262146 few twice in
    let words : words_of s ≤ 393316 = omega (arith, few) in
    let refs : FRAMES * most_refs code.functions.items < 4294967296 = fit.frames.refs in
    omega (arith, cells, words, refs)
