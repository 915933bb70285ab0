use Rattle.sharc_sound_laws.proofs.Imports.{ℕ, ◌<◌, ◌^◌, arith, IsSmall}
use Rattle.sharc_sound_laws.proofs.built.built_runs_stand.Goals as goal

narrow : (n : ℕ) → n < 2 ^ 32 → n < 2 ^ 64
narrow n h = omega arith

pub returns : goal.returns
returns c = λ source built is.
    let m = built.checked in
    let made = is.compiled in
    let w = c.built_is_typed.ensures source built is in (
      w.0,
      w.1,
      λ s fits run checked.
          let few : IsSmall built.code s = record { counts = c.range_laws.ensures.counts built.code s is.numbers fits; functions = narrow _ is.numbers.functions } in
          c.typed_runs_stand.ensures m (c.fronts_are_typed.ensures source m is.front is.accepted) made.flat made.flattens made.fits built.code made.coded _ _ w.1 s fits few run checked,
    )
