-- Programs that are accepted: they are typable where their expressions are, and their code has what sharc_typed_laws
-- asks of it.
use Rattle.std.specs.Prelude.{ℕ, ◌≡◌, Bool, pos, length, Some}
use Rattle.sharc_tree.specs.{declared.token.Number.Number, declared.token.Span.Span}
use Rattle.sharc_tree.specs.declared.tree.item.GlobalDefinition.{GlobalDefinition}
use Rattle.sharc_tree.specs.{declared.tree.item.GlobalForm.TheVariants.Initial, Tree.Function}
use Rattle.sharc_tree.specs.declared.tree.expression.Constant.TheVariants as constants
use Rattle.sharc_code.specs.declared.code.Code.{Code}
use Rattle.sharc_ctype.specs.Resolved.{Resolution, global_at}
use Rattle.sharc_flat.specs.{Scope.Context, Flattens.Flattens, Tables.globals_of, declared.flat.Flat.{Flat as FlatCode}}
use Rattle.sharc_flat.specs.Made.{flat_of}
use Rattle.sharc_mode.specs.Moded.{Assignment}
use Rattle.sharc_compile.specs.Made.{IsCodeOf}
use Rattle.sharc_typed_laws.specs.Programs.{IsSettingOf, TypableProgram}
use Rattle.sharc_accepted_laws.specs.{StaticLaws.IsAccepted, Typing.typing, Setting.{ConstantsHold, IsSet, setting_of}}
use Rattle.sharc_accepted_laws.specs.{Statements.IsPlaceIn, Expressions.CellsTyped}

-- ---- functions
-- in this setting the cells of each function are accessed as their types say, wherever its variables stand
abbrev pub AllCellsTyped : Assignment → Code → (ℕ → Bool) → ℕ → Type 0
AllCellsTyped m code alone lines = (n : ℕ) (g : Function) (c : Context)
    → IsPlaceIn (setting_of m (globals_of m.typed) code alone lines) alone n g c
    → CellsTyped (setting_of m (globals_of m.typed) code alone lines) c n g

-- so its functions are typable, a thread may begin with those that are spawned and with main, and types name variables
-- that stand
abbrev pub ProgramsAreTypable : Type 0
ProgramsAreTypable = (m : Assignment) (code : Code) (alone : ℕ → Bool) (lines : ℕ)
    → IsSet m (globals_of m.typed) code alone → AllCellsTyped m code alone lines
    → TypableProgram (setting_of m (globals_of m.typed) code alone lines) typing m

-- ---- code
-- a number in a token has no sign, so no global begins at one that has
abbrev pub AreUnsigned : Resolution → Type 0
AreUnsigned r = (g : ℕ) (d : GlobalDefinition) → global_at r g ≡ Some d → (span : Span) (minus : Bool) (k : Number)
    → d.form ≡ Initial span minus (constants.Number k) → (n : ℕ) × (k.value ≡ pos n)

-- Code that is made of an accepted program: it has the program's tables, and a test tells the functions that thread 0
-- alone runs.
pub record IsSetting (m : Assignment) (flat : FlatCode) (code : Code) : Type 0 where
  pub alone : ℕ → Bool
  pub set : IsSet m (globals_of m.typed) code alone
  pub setting : IsSettingOf (setting_of m (globals_of m.typed) code alone (length (flat_of flat).lines)) flat

-- Of a program whose constants are held by their types, as those of each program that a source is.
abbrev pub CodeIsSet : Type 0
CodeIsSet = (m : Assignment) → IsAccepted m → ConstantsHold m → AreUnsigned m.typed
    → (flat : FlatCode) → Flattens m flat → (code : Code) → IsCodeOf flat code → IsSetting m flat code
