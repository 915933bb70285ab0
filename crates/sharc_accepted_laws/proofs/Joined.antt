-- The code of a program that is accepted is typed, by the laws of its functions and of its tables.
use Rattle.sharc_accepted_laws.proofs.Imports.{ℕ, Bool, length, sym, subst, Code, Assignment, FlatCode, flat_of, globals_of, CodeIsWellTyped, typing, GlobalsAreNamed, AcceptedIsTyped, CellsAreTyped, CellsTyped, AllCellsTyped, ProgramsAreTypable, CodeIsSet, Setting, setting_of}
use Rattle.sharc_flat_laws.specs.Stands.{TypedIsFramed}
use Rattle.sharc_typed_laws.specs.Programs.{ProgramsAreLevel, TypableProgram}
use Rattle.sharc_accepted_laws.specs.{Accepted.AcceptedIsLevel, Programs.IsSetting}

-- wherever variables stand in a function
everywhere : CellsAreTyped → (m : Assignment) (code : Code) (alone : ℕ → Bool) (lines : ℕ) → AllCellsTyped m code alone lines
everywhere cells m code alone lines n g c here = subst (λ z. CellsTyped z c n g) (sym here.setting) (cells c code alone lines here.set n g)

-- ---- in the setting of its code
abbrev in_code : (m : Assignment) (flat : FlatCode) (code : Code) → IsSetting m flat code → Setting
in_code m flat code s = setting_of m (globals_of m.typed) code s.alone (length (flat_of flat).lines)

typable : ProgramsAreTypable → CellsAreTyped → (m : Assignment) (flat : FlatCode) (code : Code) (s : IsSetting m flat code) → TypableProgram (in_code m flat code s) typing m
typable programs cells m flat code s = let lines = length (flat_of flat).lines in programs m code s.alone lines s.set (everywhere cells m code s.alone lines)

pub accepted_typed : ProgramsAreTypable → CodeIsSet → CodeIsWellTyped → CellsAreTyped → GlobalsAreNamed → AcceptedIsTyped
accepted_typed programs sets typed cells named m a constants unsigned flat made fits code is =
    let s = sets m a constants unsigned flat made code is in typed m flat made fits (named m a) (in_code m flat code s) s.setting typing (typable programs cells m flat code s)

pub accepted_level : ProgramsAreTypable → CodeIsSet → ProgramsAreLevel → TypedIsFramed → CellsAreTyped → GlobalsAreNamed → AcceptedIsLevel
accepted_level programs sets levels framed cells named m a constants unsigned flat made fits code is =
    let s = sets m a constants unsigned flat made code is in
    levels m flat made fits (named m a) (in_code m flat code s) s.setting typing (typable programs cells m flat code s) (framed m a.resolved a.placed a.low a.least a.well flat made fits).0
