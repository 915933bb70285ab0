use Rattle.sharc_sound_laws.proofs.Imports.{ℕ, ◌<◌, ◌^◌, arith, IsSmall}
use Rattle.sharc_sound_laws.proofs.sound.built_reports_show_if_typed.Goals as goal

narrow : (n : ℕ) → n < 2 ^ 32 → n < 2 ^ 64
narrow n h = omega arith

pub returns : goal.returns
returns c = λ source built is x ls wt s fits run checked t stop stopped at report.
    let m = built.checked in
    let few : IsSmall built.code s = record { counts = c.range_laws.ensures.counts built.code s is.numbers fits; functions = narrow _ is.numbers.functions } in
    let made = is.compiled in
    c.reports_show_if_typed.ensures m (c.built_is_source.ensures source built is) made.flat made.flattens made.fits built.code made.coded x ls wt s fits few run checked t stop stopped at report
