use Rattle.sharc_cpu.proofs.Imports.{◌≡◌, ◌≤◌, ◌+◌, ◌-◌, true, vec_len, vec_capacity, may_go, machine_of, rest_of, IsWithin, KeepsPort, GoesWhere}
use Rattle.sharc_cpu.proofs.quantum.go_on.Given as goal

abbrev pub invariant-tries : goal.invariant-tries
invariant-tries g l = record {
  goes : GoesWhere (g.P.Port.serves l.fn.port l.fn.parts.number) g.P.Port.leads l.code l.shape (machine_of l.fn.start l.fn.parts) (machine_of l.went.at l.parts) (g.P.Port.place l.fn.port) (g.P.Port.place l.port) l.went.turns l.went.made;
  few : l.went.turns ≤ l.turns;
  events : l.went.made ≤ l.events;
  may : may_go l.went.at.state ≡ true;
  failed : l.failed ≤ l.tries;
  within : IsWithin l.shape (rest_of l.parts).own;
  number : l.parts.number ≡ l.fn.parts.number;
  prints : vec_len l.parts.prints ≤ vec_len l.fn.parts.prints + l.went.turns;
  capacity : vec_capacity l.parts.prints ≡ vec_capacity l.fn.parts.prints;
  port : KeepsPort g.P.Port.count g.P.Port.name g.P.Port.serves l.fn.port l.port;
}

abbrev pub decreases-tries : goal.decreases-tries
decreases-tries g l = l.turns - l.went.turns
