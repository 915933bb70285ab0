use Rattle.sharc_schedule.proofs.{Imports.{inl, inr, arith}, Scanning.{too_long, no_digit}, read.value.Goals.{then-b-lt48-via-then-b-lt48, then-b-lt48-via-else-b-lt48+then-b-gt57}}
use Rattle.sharc_schedule.proofs.read.value.Goals as goal

pub returns-then-word-gt10-clause-none : goal.returns-then-word-gt10-clause-none
returns-then-word-gt10-clause-none c = λ n small. too_long c.args.word.now n (omega arith) small

pub returns-then-b-lt48-clause-none : goal.returns-then-b-lt48-clause-none
returns-then-b-lt48-clause-none c = λ n small.
    elim c.then-b-lt48.branch [
      | then-b-lt48-via-then-b-lt48 w ↦ no_digit c.args.word.now c.loop-i.i n (omega arith) (inl (omega arith)) small
      | then-b-lt48-via-else-b-lt48+then-b-gt57 w ↦ no_digit c.args.word.now c.loop-i.i n (omega arith) (inr (omega arith)) small
    ]
