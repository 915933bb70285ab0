-- Which variables and globals lock paths name.
use Rattle.std.specs.{Prelude.{◌≡◌, ℕ, Bool, false, List, ◌++◌, slice_index_or}, List.flat_map}
use Rattle.sharc_ctype.specs.Entities.{entities_in, numbered}
use Rattle.sharc_mode.specs.{declared.finding.Finding.Finding, Expressions.items_notes, Moded.Assignment}
use Rattle.sharc_mode.specs.Notes.{type_notes, is_named}

-- what is said of types, expressions and statements: all paths are named in it, those that are written, those that a
-- call substitutes and those that a field makes
abbrev pub said_of_paths : Assignment → List Finding
said_of_paths m =
    flat_map (type_notes m) (numbered (entities_in m.typed.program.items)) ++ items_notes m m.typed.program.items

-- a flag for each token; none past the last one
abbrev pub TellNamed : Assignment → List Bool → Type 0
TellNamed m flags = (x : ℕ) → slice_index_or flags x false ≡ is_named x (said_of_paths m)
