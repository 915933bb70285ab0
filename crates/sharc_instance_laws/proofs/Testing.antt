-- Tests of numbers and of lists.
use Rattle.sharc_instance_laws.proofs.Imports.{◌≡◌, ◌<◌, ◌≤◌, Bool, true, ◌&&◌, List, [], ◌∷◌}

-- each of a list meets a test
abbrev pub all_pass : {X : Type 0} → (X → Bool) → List X → Bool
all_pass test [] = true
all_pass test (x ∷ xs) = test x && all_pass test xs
