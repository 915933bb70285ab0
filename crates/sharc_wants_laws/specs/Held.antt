-- What a thread of a typed program holds is held on, or given up.
use Rattle.std.specs.Prelude.{◌≡◌, ℕ, ℤ, ◌+◌, ◌≤◌, ◌==◌, Bool, false, List, count_by}
use Rattle.sharc_tree.specs.{Low.IsLow, Placed.IsPlaced}
use Rattle.sharc_ctype.specs.Resolved.{IsResolved}
use Rattle.sharc_mode.specs.Moded.{Assignment}
use Rattle.sharc_meaning.specs.{declared.given.GivenUp.GivenUp, declared.given.GivenUp.TheVariants.Released}
use Rattle.sharc_meaning.specs.{Meaning.asks, References.held_count}

-- how often a temporary, a variable or the log of held mutexes gave up a reference to the object of this number

abbrev pub releases : ℕ → GivenUp → Bool
releases n (Released k) = k == n
releases n _ = false

abbrev pub released : ℕ → List GivenUp → ℕ
released n = count_by (releases n)

-- With more fuel and the same events, each reference that a thread holds is held then, or was given up: for each
-- object, those that it holds and those that it gave up since its last event are no fewer. What was given up stands in
-- front of what is given up then (a law of sharc_meaning), so what is held no more was given up since. Of a program
-- that is not typed this does not hold: where `f` has a pointer as its parameter, the call in `p == f(1)` takes the
-- temporary that holds `p` for that of its argument.
abbrev pub HeldAreHeldOn : Type 0
HeldAreHeldOn = (m : Assignment) → IsResolved m.typed → IsPlaced m.typed.program → IsLow m.typed.program
    → (f : ℕ) (argument : ℤ) (answers : List ℤ) (fuel more n : ℕ) →
    let a = asks m f argument answers fuel in
    let b = asks m f argument answers (fuel + more) in
    b.events ≡ a.events → held_count a n + released n a.given_up ≤ held_count b n + released n b.given_up
