-- The code of typed flat code is typed.
use Rattle.std.specs.{Prelude.{ℕ, ◌≡◌, Bool, map}, List.AllByRecursion}
use Rattle.sharc_code.specs.{declared.code.Code.Code, Says.place_at}
use Rattle.sharc_flat.specs.{declared.flat.{Flat.Flat as FlatCode, LineTexts.LineTexts}, declared.op.Op.Op}
use Rattle.sharc_flat.specs.Machine.{Flat}
use Rattle.sharc_flat.specs.Made.{flat_of}
use Rattle.sharc_flat.specs.declared.op.Op.TheVariants as op
use Rattle.sharc_compile.specs.{Generated.instr_of, Made.IsCodeOf}
use Rattle.sharc_guard.specs.{Guard.{expand, source_of, with_texts}, Known.dropped}
use Rattle.sharc_invariant.specs.{Types.{Targets, StaticType}, Labels.{Label, Labels, IsScoped}}
use Rattle.sharc_invariant.specs.Typed.{IsWellTyped, ints_in, refs_in}
use Rattle.sharc_typed_laws.specs.{Steps.Chain, Inside.{FlatLabels, inside, labels_of}, Lines.{TypedLine, IsTypedFlat}}
use Rattle.sharc_typed_laws.specs.Passes.{IsTypedAnyhow, with_checks}

-- an operation that leads to the next line alone
abbrev pub LeadsOn : Op → Type 0
LeadsOn (op.Skip over) = ⊥
LeadsOn (op.SkipIfZero i over) = ⊥
LeadsOn (op.SkipIfNull r over) = ⊥
LeadsOn (op.Jump to) = ⊥
LeadsOn o = Unit {0}

-- The statements that it becomes are typed one after the other, from what is known before its line to what may be known
-- before the next one.
abbrev pub PiecesAreTyped : Type 0
PiecesAreTyped = (x : Targets) (code : Code) (ls : Labels) (lines : ℕ) (dropped : Bool) (type : StaticType) (n : ℕ)
    (l k : Label) (o : Op) (pl : ℕ → ℕ) (told : LineTexts)
    → LeadsOn o → place_at code n ≡ with_texts told (source_of o) → TypedLine x code ls lines dropped type n l k o
    → Chain x code ls (inside x dropped type o l) (map (instr_of code.functions.items) (expand pl dropped n o)) k

-- and what is known at each of its places names registers of its frame that hold something
abbrev pub PiecesAreScoped : Type 0
PiecesAreScoped = (x : Targets) (code : Code) (ls : Labels) (lines : ℕ) (dropped : Bool) (type : StaticType) (n : ℕ)
    (l k : Label) (o : Op)
    → IsScoped (ints_in code l.function) (refs_in code l.function) l → TypedLine x code ls lines dropped type n l k o
    → AllByRecursion (IsScoped (ints_in code l.function) (refs_in code l.function)) (inside x dropped type o l)

-- so code that is made of typed flat code is typed
abbrev pub TypedFlatIsTyped : Type 0
TypedFlatIsTyped = (x : Targets) (flat : FlatCode) (code : Code) (fl : FlatLabels) → IsCodeOf flat code
    → IsTypedFlat x code (dropped (flat_of flat)) fl (flat_of flat)
    → IsWellTyped x code (labels_of x (dropped (flat_of flat)) fl (flat_of flat).lines)

-- Flat code that is typed whatever checks are remembered is typed with those that are, and without the checks that
-- repeat one.
abbrev pub AnyhowIsTyped : Type 0
AnyhowIsTyped = (x : Targets) (code : Code) (fl : FlatLabels) (flat : Flat) → IsTypedAnyhow x code fl flat
    → IsTypedFlat x code (dropped flat) (with_checks flat fl) flat

-- So is the code that is made of it.
abbrev pub CodeIsTyped : Type 0
CodeIsTyped = (x : Targets) (flat : FlatCode) (code : Code) (fl : FlatLabels) → IsCodeOf flat code
    → IsTypedAnyhow x code fl (flat_of flat)
    → IsWellTyped x code (labels_of x (dropped (flat_of flat)) (with_checks (flat_of flat) fl) (flat_of flat).lines)
