-- What the tokens of a program name with a cast written in it.
use Rattle.std.specs.Prelude.{◌≡◌, ◌⊎◌, ℕ, Bool, true, false, Some}
use Rattle.sharc_tree.specs.{Low.IsLow, Placed.IsPlaced}
use Rattle.sharc_names.specs.declared.fault.Named.{Named}
use Rattle.sharc_names.specs.declared.fault.Named.TheVariants as named
use Rattle.sharc_ctype.specs.{Items.IsTyped, Resolved.{IsResolved, named_at}}
use Rattle.sharc_mode.specs.{declared.error.Cast.Cast, declared.error.ModeError.ModeError, Moded.{Assignment, IsWhole}}
use Rattle.sharc_mode.specs.Sharings.{is_field}
use Rattle.sharc_infer_laws.specs.Locks.{HasWrittenLocks}
use Rattle.sharc_suggest_laws.specs.Applied.{program_with, resolution_with}
use Rattle.sharc_suggest.specs.Casts.{IsSuggested}

-- no variable, no global and no function
abbrev pub is_dull : Named → Bool
is_dull (named.Struct n) = true
is_dull (named.Global n) = false
is_dull (named.Function n) = false
is_dull (named.Variable token) = false
is_dull (named.Field token) = true
is_dull named.Known = true

-- what named a variable, a global or a function names it still; what did not does not, and what named a field names one
abbrev pub KeepsName : Named → Named → Type 0
KeepsName old new = (old ≡ new)
    ⊎ ((is_dull old ≡ true) × (is_dull new ≡ true) × (is_field old ≡ true → is_field new ≡ true))

-- where the program with the cast is typed
abbrev pub NamesStayWhereTyped : Type 0
NamesStayWhereTyped = (m : Assignment) (e : ModeError) (c : Cast) → IsResolved m.typed → IsPlaced m.typed.program
    → IsLow m.typed.program → IsSuggested m e (Some c) → IsTyped (program_with c m.typed)
    → (token : ℕ) → KeepsName (named_at m.typed token) (named_at (resolution_with c m.typed) token)

-- as it is where the lock paths of the modes are written ones
abbrev pub NamesStay : Type 0
NamesStay = (m : Assignment) (e : ModeError) (c : Cast) → IsResolved m.typed → IsPlaced m.typed.program
    → IsLow m.typed.program → IsWhole m → HasWrittenLocks m → IsSuggested m e (Some c)
    → (token : ℕ) → KeepsName (named_at m.typed token) (named_at (resolution_with c m.typed) token)
