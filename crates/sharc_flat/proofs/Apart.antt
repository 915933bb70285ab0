-- Globals lie one after the other.
use Rattle.sharc_flat.proofs.Imports.{◌≡◌, ℕ, zero, suc, ◌+◌, ◌*◌, ◌/◌, ◌<◌, ◌≤◌, List, [], ◌∷◌, length, refl, ap, arith, get_or as slice_index_or, GlobalDefinition, no_global, Resolution, globals_in, IsInGlobal, GlobalsLieApart, cells_in, granules_in, globals_from, half}

-- the cells of a global lie after the first
behind : (r : Resolution) (at : ℕ) (gs : List GlobalDefinition) (g : ℕ) → g < length (globals_from r at gs) → at ≤ (slice_index_or (globals_from r at gs) g no_global).granule
behind r at [] g lt = absurd (omega arith)
behind r at (x ∷ rest) zero lt = omega arith
behind r at (x ∷ rest) (suc g) lt = let b = behind r (at + granules_in r x) rest g (omega arith) in omega arith

apart_from : (r : Resolution) (at : ℕ) (gs : List GlobalDefinition) (g h place : ℕ) → IsInGlobal (globals_from r at gs) g place → IsInGlobal (globals_from r at gs) h place → g ≡ h
apart_from r at [] g h place a b = let lt = a.known in absurd (omega arith)
apart_from r at (x ∷ rest) zero zero place a b = refl
apart_from r at (x ∷ rest) zero (suc h) place a b =
    let lt = b.known in
    let low = b.low in
    let high = a.high in
    let far = behind r (at + granules_in r x) rest h (omega arith) in
    let whole = half (cells_in r x) in
    absurd (omega arith)
apart_from r at (x ∷ rest) (suc g) zero place a b =
    let lt = a.known in
    let low = a.low in
    let high = b.high in
    let far = behind r (at + granules_in r x) rest g (omega arith) in
    let whole = half (cells_in r x) in
    absurd (omega arith)
apart_from r at (x ∷ rest) (suc g) (suc h) place a b =
    let la = a.known in
    let lb = b.known in
    ap suc (apart_from r (at + granules_in r x) rest g h place (record { known = omega arith; low = a.low; high = a.high }) (record { known = omega arith; low = b.low; high = b.high }))

pub apart : GlobalsLieApart
apart r g h place a b = apart_from r 1 (globals_in r.program.items) g h place a b
