-- Instructions of one turn: a thread that stands at one is in the middle of nothing.
use Rattle.sharc_history_laws.proofs.Imports.{◌≡◌, ℕ, true, List, refl, sym, subst, Code, Instr, Shape, Stage, Machine, World, Heap, StageStands, OnHold, Kind, Read, Write, Cell, check_of, single, single_rests}

-- so its block is not to be linked
pub rests_hold : (code : Code) (s : Shape) (elements : ℕ → ℕ) (w : World) (heap : Heap) (words : List ℕ) (t : ℕ) (m : Machine) (i : Instr) (stage : Stage) → single i ≡ true → StageStands code s elements w heap words t m i stage → OnHold stage
rests_hold code s elements w heap words t m i stage one h = subst OnHold (sym (single_rests code s elements w heap words t m i stage one h)) tt

-- a check is one turn
pub single_check : (kind : Kind) (c : Cell) (site : ℕ) → single (check_of kind c site) ≡ true
single_check Read c site = refl
single_check Write c site = refl
