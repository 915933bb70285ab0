use Rattle.sharc_load.proofs.{Imports.{◌≡◌, ◌+◌, ◌-◌, arith, spawn_line}, Text.{next_line, no_line, spawn_line_is}}
use Rattle.sharc_load.proofs.source.write_spawns.Goals as goal

pub loop-k-init : goal.loop-k-init
loop-k-init g c = no_line spawn_line 1 _

pub loop-k-preserved : goal.loop-k-preserved
loop-k-preserved g c =
    next_line spawn_line 1 (c.loop-k.k-counter - 1) (c.loop-k.k-counter + 1 - 1) c.loop-k.k-counter _ _ _ _ (omega arith) (omega arith) c.loop-k.invariant c.in_ok-writeln.ensures.bytes (spawn_line_is c.loop-k.k-counter)

pub returns : goal.returns
returns g c = let all : c.loop-k.k-counter - 1 ≡ 8 = omega arith in rw all at c.loop-k.invariant
