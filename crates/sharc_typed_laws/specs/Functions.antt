-- What the types of a source have to say of a function and of a program, so that their code is typed.
use Rattle.std.specs.Prelude.{ℕ, ◌+◌, ◌≡◌, ◌<◌, ◌≤◌, false, List, length, Some}
use Rattle.sharc_tree.specs.Tree.{Function}
use Rattle.sharc_names.specs.Kinds.{declared_kind}
use Rattle.sharc_code.specs.declared.code.GlobalCells.{GlobalCells}
use Rattle.sharc_ctype.specs.Resolved.{function_at}
use Rattle.sharc_mode.specs.Moded.{Assignment}
use Rattle.sharc_flat.specs.{declared.op.Op.Op, Scope.{Context, int_count, ref_count}}
use Rattle.sharc_flat.specs.Flattened.{in_function, function_code}
use Rattle.sharc_flat_lemmas.specs.Pieces.{Agrees, first}
use Rattle.sharc_invariant.specs.Typed.{ints_in, refs_in}
use Rattle.sharc_typed_laws.specs.Stretches.{Mark, Setting, Fits, AreLines, AreWithin}
use Rattle.sharc_typed_laws.specs.{Places.{IsNamed, AreLow}, Premises.Typing, Declared.before, Begun.label_of}
use Rattle.sharc_typed_laws.specs.{Returned.GivesBack, Statements.StatementsTypable}

-- constants have registers of variables
abbrev pub IsLowTyping : Typing → Type 0
IsLowTyping y = (c : Context) → AreLow (y.named c) (ref_count c.scope)

-- Function n, where c is the context of its parameters: it begins with what its signature says in the first registers.
pub record FunctionTypable (z : Setting) (n : ℕ) (y : Typing) (c : Context) (g : Function) : Type 0 where
  pub variables : (q : ℕ) → q < ref_count c.scope → IsNamed (y.named c) (ref_count c.scope) (y.pointer c q)
  pub takes : (q : ℕ) → (z.signature n).takes q ≡ (label_of y c n).env q
  pub takes_ints : (j : ℕ) → (z.signature n).takes_ints j ≡ (label_of y c n).ints j
  pub gives : GivesBack z n y (declared_kind g.result)
  pub statements : StatementsTypable z n y c (declared_kind g.result) false g.statements

abbrev pub ProgramTypable : Setting → Typing → Assignment → List GlobalCells → Type 0
ProgramTypable z y m globals = (n : ℕ) (g : Function) → function_at m.typed n ≡ Some g
    → FunctionTypable z n y (in_function m globals g) g

-- Lines of a function that begin at this one, before the first of which this is known; nothing leads on from the last
-- of them.
pub record FunctionLines (z : Setting) (n pc : ℕ) (s : Mark) (os : List Op) : Type 0 where
  pub marks : List Mark
  pub many : length marks ≡ length os
  pub begins : Fits z.targets s (first marks s)
  pub runs : (table : ℕ → Mark) → pc + length os ≤ z.lines → Agrees table pc marks → AreLines z n table pc os

-- The code of a typable function is typed, wherever it is.
abbrev pub FunctionsAreTyped : Type 0
FunctionsAreTyped = (z : Setting) (n : ℕ) (y : Typing) → IsLowTyping y
    → (m : Assignment) (globals : List GlobalCells) (g : Function) → FunctionTypable z n y (in_function m globals g) g
    → int_count (in_function m globals g).scope ≤ ints_in z.code (Some n)
    → ref_count (in_function m globals g).scope ≤ refs_in z.code (Some n)
    → (pc : ℕ) → AreWithin (ints_in z.code (Some n)) (refs_in z.code (Some n)) (function_code m globals pc g)
    → FunctionLines z n pc (before (in_function m globals g) (label_of y (in_function m globals g) n))
    (function_code m globals pc g)
