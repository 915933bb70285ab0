use Rattle.sharc_sound_laws.proofs.Imports.{ℕ, ◌<◌, ◌^◌, arith, IsSmall}
use Rattle.sharc_sound_laws.proofs.built.built_casts_show.Goals as goal

narrow : (n : ℕ) → n < 2 ^ 32 → n < 2 ^ 64
narrow n h = omega arith

pub returns : goal.returns
returns c = λ source built is s fits run checked t site count stop.
    let m = built.checked in
    let made = is.compiled in
    let p = c.built_is_source.ensures source built is in
    let w = c.built_is_typed.ensures source built is in
    let few : IsSmall built.code s = record { counts = c.range_laws.ensures.counts built.code s is.numbers fits; functions = narrow _ is.numbers.functions } in
    let begins = c.made_code_begins.ensures m p.typed.resolved p.unsigned made.flat made.flattens built.code made.coded in
    (w.0, w.1, c.reports_show_cause.ensures m p made.flat made.flattens made.fits built.code made.coded s w.0 w.1 fits few begins run checked t site count stop)
