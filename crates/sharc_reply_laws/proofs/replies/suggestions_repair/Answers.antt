use Rattle.sharc_reply_laws.proofs.Suggested.{ReadPrograms, refusals_repair, checks_repair}
use Rattle.sharc_reply_laws.proofs.replies.suggestions_repair.Goals as goal

pub returns : goal.returns
returns c =
    let reading : ReadPrograms = record { low = c.programs_are_low.ensures; placed = c.programs_are_placed.ensures } in
    record {
      refusals = refusals_repair reading c.least_is_repaired.ensures;
      checks = checks_repair c.sources_are_one.ensures reading c.least_is_repaired.ensures;
    }
