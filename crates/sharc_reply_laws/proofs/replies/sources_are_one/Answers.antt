use Rattle.sharc_reply_laws.proofs.Sources.{ReadingLaws, one_front, no_fault, one_fault}
use Rattle.sharc_reply_laws.proofs.replies.sources_are_one.Goals as goal

pub returns : goal.returns
returns c =
    let laws : ReadingLaws = record { one = c.one_reading.ensures; low = c.programs_are_low.ensures; placed = c.programs_are_placed.ensures; faultless = c.programs_have_no_fault.ensures; fault = c.one_fault.ensures } in
    record {
      program = λ source a b left right. one_front laws source c.least_is_one.ensures a b left right;
      faultless = λ source m front fault is. no_fault laws source m front fault is;
      fault = λ source x y a b. one_fault laws source x y a b;
    }
