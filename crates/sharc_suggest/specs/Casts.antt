-- The casts that are suggested in a program, each where the M1 that it repairs is reported.
use Rattle.std.specs.Prelude.{◌≡◌, ℕ, ◌==◌, Bool, List, [], ◌∷◌, map, Option, Some, None, if◌then◌else◌}
use Rattle.std.specs.List.{flat_map}
use Rattle.sharc_mode.specs.{declared.error.Cast.Cast, declared.error.ModeError.ModeError, Errors.is_mismatch}
use Rattle.sharc_mode.specs.{Moded.Assignment, Notes.is_named}
use Rattle.sharc_check.specs.Named.{said_of_paths}
use Rattle.sharc_suggest.specs.{Givings.{Giving, wanted, items_givings}, Repairs.repair}

-- of what is given, by a test of which variables lock paths name
abbrev pub suggested_for : Assignment → (ℕ → Bool) → Giving → List Cast
suggested_for m named g = repair m named g.scope (wanted m g.receiver) g.given

abbrev pub suggested_in : Assignment → (ℕ → Bool) → List Giving → List Cast
suggested_in m named gs = flat_map (suggested_for m named) gs

-- these are the casts that are suggested in a program, in source order
pub record AreCasts (m : Assignment) (casts : List Cast) : Type 0 where
  pub named : ℕ → Bool
  pub tells : (x : ℕ) → named x ≡ is_named x (said_of_paths m)
  pub are : casts ≡ suggested_in m named (items_givings m.typed.program.items)

-- the first of them at a token
abbrev pub cast_at : List Cast → ℕ → Option Cast
cast_at [] token = None
cast_at (c ∷ rest) token = if c.site.token == token then Some c else cast_at rest token

-- the one for an error: of an M1, at its place, which is the first token of the expression found
abbrev pub cast_for : List Cast → ModeError → Option Cast
cast_for casts e = if is_mismatch e.code then cast_at casts e.site.token else None

-- a program's cast for an error
pub record IsSuggested (m : Assignment) (e : ModeError) (answer : Option Cast) : Type 0 where
  pub casts : List Cast
  pub are : AreCasts m casts
  pub says : answer ≡ cast_for casts e

-- and beside each of a list of errors its own
pub record AreSuggested (m : Assignment) (errors : List ModeError) (answer : List (Option Cast)) : Type 0 where
  pub casts : List Cast
  pub are : AreCasts m casts
  pub says : answer ≡ map (cast_for casts) errors
