use Rattle.sharc_cpu.proofs.Imports.{◌≡◌, ◌-◌, true, vec_capacity, may_go, machine_of, KeepsPort, Advanced}
use Rattle.sharc_cpu.proofs.quantum.go.Given as goal

abbrev pub invariant-loop-turn : goal.invariant-loop-turn
invariant-loop-turn g l = record {
  advanced : Advanced (g.P.Port.serves l.fn.port l.fn.parts.number) g.P.Port.leads l.code l.shape (machine_of l.fn.start l.fn.parts) (machine_of l.at l.parts) (g.P.Port.place l.fn.port) (g.P.Port.place l.port) l.turns l.turn l.turn;
  may : may_go l.at.state ≡ true;
  capacity : vec_capacity l.parts.prints ≡ vec_capacity l.fn.parts.prints;
  port : KeepsPort g.P.Port.count g.P.Port.name g.P.Port.serves l.fn.port l.port;
}

abbrev pub decreases-loop-turn : goal.decreases-loop-turn
decreases-loop-turn g l = l.turns - l.turn
