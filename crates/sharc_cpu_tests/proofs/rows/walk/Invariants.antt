use Rattle.std.proofs.Common.{◌≡◌, length}
use Rattle.sharc_code.specs.Layout.{words_of}
use Rattle.sharc_cpu.specs.Thread.{IsThread}
use Rattle.sharc_cpu_tests.proofs.rows.walk.Given as goal

abbrev pub invariant-loop-turn : goal.invariant-loop-turn
invariant-loop-turn g l = record {
  thread : IsThread l.code l.shape l.thread;
  words : length l.port ≡ words_of l.shape;
}
