use Rattle.std.proofs.Common.{◌≡◌, length}
use Rattle.sharc_code.specs.Layout.{words_of}
use Rattle.sharc_cpu.specs.Thread.{IsThread}
use Rattle.sharc_machine_tests.proofs.seq.bench.run_in.Given as goal

abbrev pub invariant-loop-turn : goal.invariant-loop-turn
invariant-loop-turn l = record {
  first : IsThread l.code l.shape l.first;
  second : IsThread l.code l.shape l.second;
  words : length l.port ≡ words_of l.shape;
}
