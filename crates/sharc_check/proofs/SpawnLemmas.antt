-- What is answered of which functions are spawned is what the rules ask.
use Rattle.sharc_check.proofs.Imports.{◌≡◌, ℕ, ◌<◌, length, arith, Resolution, functions_in, Reaching, AreReached, is_chosen, is_spawned, SpawnedAreTold, same_test}

pub is_told : (laws : SpawnedAreTold) (r : Resolution) (a : Reaching) → AreReached r a → (n : ℕ) → n < length (functions_in r.program.items) → is_chosen a.spawned n ≡ is_spawned r n
is_told laws r a reached n below =
    let count = reached.spawned_count in
    let told = reached.spawned n (omega (arith, count, below)) in
    same_test (is_chosen a.spawned n) (is_spawned r n) (λ chosen. (laws r n).1 (told.0 chosen)) (λ is. told.1 ((laws r n).0 is))
