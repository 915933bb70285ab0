use Rattle.sharc_cpu.specs.Thread.{IsThread}
use Rattle.sharc_cpu_tests.proofs.bench.turns.Given as goal

abbrev pub invariant-loop-turn : goal.invariant-loop-turn
invariant-loop-turn l = record {
  thread : IsThread l.code l.shape l.thread;
}
