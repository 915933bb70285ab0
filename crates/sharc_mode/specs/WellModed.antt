-- What is wrong with the modes of a program, and the programs in which nothing is.
use Rattle.std.specs.Prelude.{◌≡◌, ◌↔◌, IsTrue, ℕ, ◌+◌, ◌==◌, Bool, false, ◌&&◌, List, [], ◌∷◌, ◌++◌, if◌then◌else◌}
use Rattle.std.specs.List.{flat_map, list_any}
use Rattle.sharc_tree.specs.declared.tree.declaration.Declaration.{Declaration}
use Rattle.sharc_tree.specs.{declared.tree.item.GlobalDefinition.GlobalDefinition, Measures.in_function, Tree.Function}
use Rattle.sharc_names.specs.declared.fault.Named.{Named}
use Rattle.sharc_names.specs.declared.fault.Named.TheVariants as named
use Rattle.sharc_ctype.specs.Reaches.{of_all, spawns, IsTouched}
use Rattle.sharc_ctype.specs.Resolved.{Resolution, named_at, globals_in, functions_in}
use Rattle.sharc_ctype.specs.Entities.{entities_in, numbered}
use Rattle.sharc_mode.specs.declared.error.ErrorCode.TheVariants.{PrivateReachesThread}
use Rattle.sharc_mode.specs.{declared.error.ModeError.ModeError, declared.finding.Finding.Finding, Cells.top_of}
use Rattle.sharc_mode.specs.{Expressions.items_notes, Moded.Assignment}
use Rattle.sharc_mode.specs.Notes.{error_where, type_notes, errors_of, is_private_level}
use Rattle.sharc_mode.specs.{Rows.{written, declared_row, modes_of}, Sharings.{Sharing, is_private}}

-- M7: the target of a spawned function's parameter is private, or a touched global has the written top mode private

abbrev pub names_function : ℕ → Named → Bool
names_function n (named.Function k) = n == k
names_function n _ = false

-- the name tokens that are spawned anywhere
abbrev pub all_spawned : List Function → List ℕ
all_spawned = flat_map (λ f. of_all spawns (in_function f))

abbrev pub is_spawned : Resolution → ℕ → Bool
is_spawned r n = list_any (λ token. names_function n (named_at r token)) (all_spawned (functions_in r.program.items))

-- what is no pointer has no target
abbrev pub has_private_target : List Sharing → Bool
has_private_target [] = false
has_private_target (s ∷ below) = is_private s

abbrev pub parameter_notes : Assignment → List ℕ → Declaration → List Finding
parameter_notes m name d =
    error_where (has_private_target (modes_of m (declared_row m.typed written d.name.site.token)))
    PrivateReachesThread d.written.span name

abbrev pub spawned_notes : Assignment → ℕ → List Function → List Finding
spawned_notes m n [] = []
spawned_notes m n (f ∷ rest) =
    (if is_spawned m.typed n then flat_map (parameter_notes m f.name.text) f.parameters else [])
    ++ spawned_notes m (n + 1) rest

-- by a test of which globals are touched
abbrev pub touched_notes : (ℕ → Bool) → ℕ → List GlobalDefinition → List Finding
touched_notes touched n [] = []
touched_notes touched n (g ∷ rest) =
    error_where (touched n && is_private_level (top_of g.declaration.written.ctype.levels)) PrivateReachesThread
    g.declaration.written.span g.declaration.name.text
    ++ touched_notes touched (n + 1) rest

-- of all types, of what threads get, and of all expressions and statements
abbrev pub notes_about : Assignment → (ℕ → Bool) → List Finding
notes_about m touched = flat_map (type_notes m) (numbered (entities_in m.typed.program.items))
    ++ spawned_notes m 0 (functions_in m.typed.program.items)
    ++ touched_notes touched 0 (globals_in m.typed.program.items)
    ++ items_notes m m.typed.program.items

-- the cases that arise, in the order of the constructs
abbrev pub mode_errors : Assignment → (ℕ → Bool) → List ModeError
mode_errors m touched = errors_of m.typed (notes_about m touched)

-- a test of which globals are touched
abbrev pub TellsTouched : Resolution → (ℕ → Bool) → Type 0
TellsTouched r touched = (g : ℕ) → IsTrue (touched g) ↔ IsTouched r g

-- these are the cases that arise, in the order of the constructs
pub record AreModeErrors (m : Assignment) (errors : List ModeError) : Type 0 where
  pub touched : ℕ → Bool
  pub tells : TellsTouched m.typed touched
  pub are : errors ≡ mode_errors m touched

-- none of them arises
abbrev pub WellModed : Assignment → Type 0
WellModed m = AreModeErrors m []
