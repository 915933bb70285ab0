-- What flattening makes of a typed program spawns functions of the program, waits where it enters a condition, and has
-- its tables in their ranges.
use Rattle.std.specs.{Prelude.{◌≡◌, ℕ, ◌<◌, ◌≤◌, true, None, List, [], ◌∷◌, length}, List.AllByRecursion}
use Rattle.sharc_tree.specs.{Low.IsLow, Measures.{expressions, in_function}, Placed.IsPlaced}
use Rattle.sharc_tree.specs.Tree.{Expression, identifier}
use Rattle.sharc_names.specs.Kinds.{is_array}
use Rattle.sharc_names.specs.declared.fault.Named.TheVariants as named
use Rattle.sharc_ctype.specs.Reaches.{Spawns}
use Rattle.sharc_ctype.specs.Resolved.{Resolution, IsResolved, functions_in, globals_in, kind_at, named_at}
use Rattle.sharc_mode.specs.Moded.{Assignment}
use Rattle.sharc_flat.specs.{declared.flat.Flat.{Flat as FlatCode}, declared.op.{Op.Op, Spot.Spot}, Flattens.Flattens}
use Rattle.sharc_code.specs.declared.instr.Cell.{Cell}
use Rattle.sharc_flat.specs.{Machine.first_cell, Places.{global_of, target}, Tables.globals_of}
use Rattle.sharc_flat.specs.declared.op.Op.TheVariants as op
use Rattle.sharc_guard.specs.Tables.{FlatTablesFit}

-- the number of the function that an operation spawns, if it spawns one, meets a test
abbrev pub SpawnMeets : (ℕ → Type 0) → Op → Type 0
SpawnMeets Q (op.Spawn to function from spot) = Q function
SpawnMeets Q _ = Unit {0}

-- some function of the program spawns it
abbrev pub IsSpawned : Resolution → ℕ → Type 0
IsSpawned r function = (f : ℕ) × Spawns r f function

abbrev pub MadeSpawns : Type 0
MadeSpawns = (m : Assignment) → IsResolved m.typed → IsPlaced m.typed.program → IsLow m.typed.program
    → (code : FlatCode) → Flattens m code → AllByRecursion (SpawnMeets (IsSpawned m.typed)) code.lines.items

-- a mutex is unlocked, and then the thread waits at the cell
pub record IsWaited (c : Cell) (os : List Op) : Type 0 where
  pub register : ℕ
  pub mutex : Cell
  pub unlock_spot : Spot
  pub wait_spot : Spot
  pub rest : List Op
  pub is : os ≡ op.Unlock register mutex unlock_spot ∷ op.CondWait c wait_spot ∷ rest

-- so it is after each CondEnter
abbrev pub IsEntered : Op → List Op → Type 0
IsEntered (op.CondEnter c spot) os = IsWaited c os
IsEntered _ os = Unit {0}

abbrev pub AllWait : List Op → Type 0
AllWait [] = Unit {0}
AllWait (o ∷ os) = IsEntered o os × AllWait os

abbrev pub MadeWaits : Type 0
MadeWaits = (m : Assignment) (code : FlatCode) → Flattens m code → AllWait code.lines.items

-- ---- what is found by an index
-- the global that an identifier names is there
abbrev pub NamesGlobal : Resolution → Expression → Type 0
NamesGlobal r (identifier s x) = (g : ℕ) → named_at r x.site.token ≡ named.Global g
    → g < length (globals_in r.program.items)
NamesGlobal r _ = Unit {0}

abbrev pub GlobalsAreThere : Resolution → Type 0
GlobalsAreThere r =
    AllByRecursion (λ f. AllByRecursion (NamesGlobal r) (in_function f)) (functions_in r.program.items)

-- no cell of an array is one of granule 0
abbrev pub ArraysArePast : Resolution → Type 0
ArraysArePast r = (a : Expression) → AllByRecursion (NamesGlobal r) (expressions a) → is_array (kind_at r a) ≡ true
    → 2 ≤ first_cell (globals_of r) (global_of (target r None a))

-- nor one that is found by an index
abbrev pub OpPast : Op → Type 0
OpPast (op.GlobalBounds i elements cells field spot) = 2 ≤ field
OpPast _ = Unit {0}

abbrev pub MadeIsPast : Type 0
MadeIsPast = (m : Assignment) → GlobalsAreThere m.typed → ArraysArePast m.typed
    → (code : FlatCode) → Flattens m code → AllByRecursion OpPast code.lines.items

abbrev pub MadeTablesFit : Type 0
MadeTablesFit = (m : Assignment) → IsResolved m.typed → IsPlaced m.typed.program → IsLow m.typed.program
    → (code : FlatCode) → Flattens m code → FlatTablesFit code
