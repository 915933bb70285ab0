-- What plans weigh, and what they are come to from.
use Rattle.sharc_ask.proofs.Imports.{◌≡◌, ℕ, ◌+◌, ◌*◌, ◌<◌, ◌≤◌, Result, arith, IfOk-weaker, IfOk, RunEnd, Plan, Fits, Starts}

pub fits_start : (n k : ℕ) (r : Result Plan RunEnd) → n + 1 ≤ k → IfOk r (Fits n) → IfOk r (Starts k)
fits_start n k r less h = IfOk-weaker r (Fits n) (Starts k) (λ p f. record { falls = omega (arith, less, f.within) }) h
