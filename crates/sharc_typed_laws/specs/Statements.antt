-- What the types of a source have to say of its statements, so that their code is typed: one clause for each form.
use Rattle.std.specs.Prelude.{ℕ, ◌≡◌, Bool, true, false, Option, Some, None}
use Rattle.sharc_tree.specs.Tree.{Expression, Simple, Local, First, nothing, declares, does, Statement, empty, block}
use Rattle.sharc_tree.specs.Tree.{declare, simple, jump, return, if_then, if_then_else, while, for, Statements}
use Rattle.sharc_tree.specs.Tree.{no_statements, statement}
use Rattle.sharc_names.specs.Kinds.{Kind}
use Rattle.sharc_flat.specs.{Scope.Context, Flattened.{behind_first, behind_statement}, Suits.is_declaration}
use Rattle.sharc_invariant.specs.Types.{StaticType}
use Rattle.sharc_typed_laws.specs.{Stretches.Setting, Premises.Typing, Typable.{HasType, IsTypable}}
use Rattle.sharc_typed_laws.specs.{Stated.SimpleTypable, Declared.LocalTypable, Returned.ReturnTypable}

module _ (z : Setting) (f : ℕ) (y : Typing) where
  -- ---- parts
  abbrev pub TestTypable : Context → Option Expression → Type 0
  TestTypable c None = Unit {0}
  TestTypable c (Some e) = IsTypable z f y c e × HasType z f y c e

  abbrev pub StepTypable : Context → Option Simple → Type 0
  StepTypable c None = Unit {0}
  StepTypable c (Some x) = SimpleTypable z f y c x

  abbrev pub DeclaredTypable : Context → Local → Type 0
  DeclaredTypable c l = (s : StaticType) × LocalTypable z f y c l s

  abbrev pub FirstTypable : Context → First → Type 0
  FirstTypable c nothing = Unit {0}
  FirstTypable c (declares l) = DeclaredTypable c l
  FirstTypable c (does x) = SimpleTypable z f y c x

  -- ---- statements
  -- in a function with a result of this type, and in a loop or not; what is chosen and what is done again declares no
  -- variable
  abbrev mutual
    pub StatementTypable : Context → Kind → Bool → Statement → Type 0
    StatementTypable c kind looped (empty s) = Unit {0}
    StatementTypable c kind looped (block s all) = StatementsTypable c kind looped all
    StatementTypable c kind looped (declare s l) = DeclaredTypable c l
    StatementTypable c kind looped (simple s x) = SimpleTypable z f y c x
    StatementTypable c kind looped (jump s j) = looped ≡ true
    StatementTypable c kind looped (return s e) = ReturnTypable z f y c kind e
    StatementTypable c kind looped (if_then s e a) =
        TestTypable c (Some e) × StatementTypable c kind looped a × (is_declaration a ≡ false)
    StatementTypable c kind looped (if_then_else s e a b) = TestTypable c (Some e) × StatementTypable c kind looped a
        × (is_declaration a ≡ false) × StatementTypable c kind looped b × (is_declaration b ≡ false)
    StatementTypable c kind looped (while s e a) =
        TestTypable c (Some e) × StatementTypable c kind true a × (is_declaration a ≡ false)
    StatementTypable c kind looped (for s h a) = FirstTypable c h.first × TestTypable (behind_first c h.first) h.test
        × StepTypable (behind_first c h.first) h.step × StatementTypable (behind_first c h.first) kind true a
        × (is_declaration a ≡ false)

    pub StatementsTypable : Context → Kind → Bool → Statements → Type 0
    StatementsTypable c kind looped no_statements = Unit {0}
    StatementsTypable c kind looped (statement a rest) =
        StatementTypable c kind looped a × StatementsTypable (behind_statement c a) kind looped rest
