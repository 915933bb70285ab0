-- Equations, pairs and choices.
use Rattle.std.proofs.Common.{Contains, [], arith}

pub none_there : {A : Type 0} (x : A) → Contains [] x → ⊥
none_there x (k, low, is) = omega (arith, low)
