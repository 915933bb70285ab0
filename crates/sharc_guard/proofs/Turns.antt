-- Where flat code is after a turn.
use Rattle.sharc_guard.proofs.Imports.{ℤ, At, Turn, after}

abbrev pub behind : Turn → At → ℤ → At
behind t m x = after m t x
