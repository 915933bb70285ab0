-- What the types of a source have to say of a whole program, so that its code is typed.
use Rattle.std.specs.Prelude.{ℕ, ◌^◌, ◌≡◌, ◌<◌, true, length, None}
use Rattle.sharc_tree.specs.{declared.token.Span.Span, declared.tree.declaration.Identifier.Identifier, Tree.identifier}
use Rattle.sharc_names.specs.declared.fault.Named.TheVariants as named
use Rattle.sharc_ctype.specs.Resolved.{globals_in, named_at, function_at}
use Rattle.sharc_mode.specs.Moded.{Assignment}
use Rattle.sharc_check.specs.Constructs.{IsExpression}
use Rattle.sharc_flat.specs.{declared.flat.Flat.{Flat as FlatCode}, Made.flat_of, Correct.MayStart, Framed.IsFlat}
use Rattle.sharc_flat.specs.{Flattens.{Flattens, IsMainOf}, Laws.FitsMade, Tables.globals_of}
use Rattle.sharc_guard.specs.Level.{IsLevel}
use Rattle.sharc_compile.specs.Made.{IsCodeOf}
use Rattle.sharc_invariant.specs.{Types.AreTargets, Labels.{Anything, Labels, EntryMentions}}
use Rattle.sharc_invariant.specs.Typed.{IsPlain, AreGlobals, IsWellTyped}
use Rattle.sharc_typed_laws.specs.{Inside.FlatLabels, Passes.IsTypedAnyhow, Stretches.Setting, Premises.Typing}
use Rattle.sharc_typed_laws.specs.Functions.{IsLowTyping, ProgramTypable}

-- what a function names as a global is one of the program
abbrev pub AreGlobalsNamed : Assignment → Type 0
AreGlobalsNamed m = (s : Span) (i : Identifier) → IsExpression m (identifier s i)
    → (g : ℕ) → named_at m.typed i.site.token ≡ named.Global g → g < length (globals_in m.typed.program.items)

-- a function with which a thread may begin is handed one argument at most, whose type names no register, and gives no
-- reference back
pub record StartTypable (z : Setting) (m : Assignment) (n : ℕ) : Type 0 where
  pub may : MayStart m n
  pub closed : (q : ℕ) → EntryMentions ((z.signature n).takes 0) q → ⊥

-- thread 0 begins with main, and nobody hands it a number
pub record MainTypable (z : Setting) (n : ℕ) : Type 0 where
  pub starts : z.starts n ≡ true
  pub few : n < 2 ^ 64
  pub number : (z.signature n).takes_ints 0 ≡ Anything

-- a program of which these are the types, and whose functions have these signatures
pub record TypableProgram (z : Setting) (y : Typing) (m : Assignment) : Type 0 where
  pub low : IsLowTyping y
  pub functions : ProgramTypable z y m (globals_of m.typed)
  -- a number that is that of no function has a signature that names nothing
  pub others : (n : ℕ) → function_at m.typed n ≡ None → IsPlain (z.signature n)
  pub starts : (n : ℕ) → z.starts n ≡ true → StartTypable z m n
  pub main : (n : ℕ) → IsMainOf m n → MainTypable z n

-- the code is made of this flat code, and its globals have fields of the targets
pub record IsSettingOf (z : Setting) (flat : FlatCode) : Type 0 where
  pub code : IsCodeOf flat z.code
  pub lines : z.lines ≡ length (flat_of flat).lines
  pub targets : AreTargets z.targets
  pub globals : AreGlobals z.targets z.code

-- The flat code of such a program is typed whatever checks are remembered, with these signatures.
abbrev pub ProgramsAreTyped : Type 0
ProgramsAreTyped = (m : Assignment) (flat : FlatCode) → Flattens m flat → FitsMade (flat_of flat) → AreGlobalsNamed m
    → (z : Setting) → IsSettingOf z flat → (y : Typing) → TypableProgram z y m
    → (fl : FlatLabels) × IsTypedAnyhow z.targets z.code fl (flat_of flat) × (fl.lines.signature ≡ z.signature)

-- And it overwrites no reference, where no line leads past the last one.
abbrev pub ProgramsAreLevel : Type 0
ProgramsAreLevel = (m : Assignment) (flat : FlatCode) → Flattens m flat → FitsMade (flat_of flat) → AreGlobalsNamed m
    → (z : Setting) → IsSettingOf z flat → (y : Typing) → TypableProgram z y m → IsFlat (flat_of flat)
    → IsLevel (flat_of flat)

-- So its code is typed.
abbrev pub CodeIsWellTyped : Type 0
CodeIsWellTyped = (m : Assignment) (flat : FlatCode) → Flattens m flat → FitsMade (flat_of flat) → AreGlobalsNamed m
    → (z : Setting) → IsSettingOf z flat → (y : Typing) → TypableProgram z y m
    → (ls : Labels) × IsWellTyped z.targets z.code ls
