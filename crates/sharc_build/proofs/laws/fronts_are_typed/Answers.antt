use Rattle.sharc_build.proofs.laws.fronts_are_typed.Goals as goal

pub returns : goal.returns
returns c = λ source m front meets.
    record {
      resolved = front.typed.resolved;
      placed = c.programs_are_placed.ensures front.typed.tokens m.typed.program front.typed.reads;
      low = c.programs_are_low.ensures front.typed.tokens m.typed.program front.typed.reads;
      least = front.least;
      well_moded = (c.rules_are_met.ensures m).1 meets;
    }
