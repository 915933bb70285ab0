-- Laws of sources that are programs, for the crates above.
use Rattle.std.specs.Prelude.{ℕ, ◌≡◌, ◌≢◌, List, ◌∷◌, ◌++◌, codes, Ok, Some, Bool, pos, slice_get}
use Rattle.sharc_tree.specs.{declared.token.Number.Number, declared.token.Span.Span, declared.token.Tokens.Tokens}
use Rattle.sharc_tree.specs.declared.tree.item.GlobalDefinition.{GlobalDefinition}
use Rattle.sharc_tree.specs.{declared.tree.item.GlobalForm.TheVariants.Initial, Tree.Program}
use Rattle.sharc_tree.specs.declared.tree.expression.Constant.TheVariants as constants
use Rattle.sharc_ctype.specs.Resolved.{globals_in}
use Rattle.sharc_lex.specs.Grammar.{reading}
use Rattle.sharc_parse.specs.Places.{Reads}
use Rattle.sharc_schedule.specs.File.{HoldsNoSchedule}

-- no newline of a program is followed by the word that begins the schedule in a recorded file
abbrev pub ProgramsHoldNoSchedule : Type 0
ProgramsHoldNoSchedule = (source : List ℕ) (tokens : Tokens) (p : Program) → reading source ≡ Ok tokens → Reads tokens p
    → HoldsNoSchedule source

-- no newline of the source is followed by the word that begins the events in an event file
abbrev pub HoldsNoEvents : List ℕ → Type 0
HoldsNoEvents source = (before after : List ℕ) → source ≢ before ++ 10 ∷ (codes "%%events " ++ after)

-- nor is any of a program
abbrev pub ProgramsHoldNoEvents : Type 0
ProgramsHoldNoEvents = (source : List ℕ) (tokens : Tokens) (p : Program) → reading source ≡ Ok tokens → Reads tokens p
    → HoldsNoEvents source

-- a number in a token has no sign of its own, so none at which a global of a program begins has one
abbrev pub NumbersHaveNoSign : Type 0
NumbersHaveNoSign = (source : List ℕ) (tokens : Tokens) (p : Program) → reading source ≡ Ok tokens → Reads tokens p
    → (g : ℕ) (d : GlobalDefinition) → slice_get (globals_in p.items) g ≡ Some d
    → (span : Span) (minus : Bool) (k : Number) → d.form ≡ Initial span minus (constants.Number k)
    → (n : ℕ) × (k.value ≡ pos n)
