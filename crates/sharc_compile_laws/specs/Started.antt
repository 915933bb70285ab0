-- Which functions threads have: `main`, and what some function spawns. Each may be started.
use Rattle.std.specs.Prelude.{◌≡◌, ℕ, ◌⊎◌}
use Rattle.sharc_tree.specs.{Low.IsLow, Placed.IsPlaced}
use Rattle.sharc_ctype.specs.{Reaches.Spawns, Resolved.IsResolved}
use Rattle.sharc_mode.specs.Moded.{Assignment}
use Rattle.sharc_code.specs.{declared.code.Code.Code, declared.instr.Instr.TheVariants.Spawn}
use Rattle.sharc_code.specs.{declared.instr.Register.Register, Machine.instr_at}
use Rattle.sharc_flat.specs.{declared.flat.Flat.{Flat as FlatCode}, Correct.MayStart, Flattens.{Flattens, IsMainOf}}
use Rattle.sharc_compile.specs.Made.{IsCodeOf}

abbrev pub HasThread : Assignment → ℕ → Type 0
HasThread m f = IsMainOf m f ⊎ ((n : ℕ) × Spawns m.typed n f)

-- in a typed program
abbrev pub ThreadsMayStart : Type 0
ThreadsMayStart = (m : Assignment) → IsResolved m.typed → IsPlaced m.typed.program → IsLow m.typed.program
    → (f : ℕ) → HasThread m f → MayStart m f

-- An instruction of the code of a typed program spawns what some function of the program spawns.
abbrev pub SpawnedAreThreads : Type 0
SpawnedAreThreads = (m : Assignment) → IsResolved m.typed → IsPlaced m.typed.program → IsLow m.typed.program
    → (flat : FlatCode) → Flattens m flat → (code : Code) → IsCodeOf flat code
    → (pc to function site : ℕ) (from : Register) → instr_at code pc ≡ Spawn to function from site
    → (n : ℕ) × Spawns m.typed n function
