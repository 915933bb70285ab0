use Rattle.sharc_sound_laws.proofs.Imports.{IsAccepted}
use Rattle.sharc_sound_laws.proofs.built.built_is_typed.Goals as goal

pub returns : goal.returns
returns c = λ source built is.
    let m = built.checked in
    let p = c.built_is_source.ensures source built is in
    let made = is.compiled in
    let accepted : IsAccepted m = record { resolved = p.typed.resolved; placed = p.typed.placed; low = p.typed.low; least = p.typed.least; well = p.typed.well_moded } in
    c.accepted_law.ensures m accepted p.constants p.unsigned made.flat made.flattens made.fits built.code made.coded
