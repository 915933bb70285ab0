-- Guarded code that was made, as a program.
use Rattle.sharc_compile.proofs.Imports.{◌≡◌, ℕ, Bool, FlatCode, flat_of, Guarded, guarded, IsMade, program_of}

pub same : (d : ℕ → Bool) (flat : FlatCode) (g : Guarded) → IsMade d flat g → program_of g ≡ guarded d (flat_of flat)
same d flat g made = λ i. record { statements = made.statements i; functions = made.functions i; globals = (made.globals i).items; sites = made.sites i }
