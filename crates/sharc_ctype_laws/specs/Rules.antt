-- The constraints of C11 6.8 as a relation: what the statements of a function ask of the expressions in them.
use Rattle.std.specs.Prelude.{◌≡◌, ◌⊎◌, IsTrue, Bool, true, false, Option, Some, None, IfSome}
use Rattle.sharc_tree.specs.{declared.tree.declaration.WrittenType.WrittenType, Forms.is_lvalue}
use Rattle.sharc_tree.specs.Tree.{Expression, Right, value, malloc, Simple, assign, does_call, Local, First, nothing}
use Rattle.sharc_tree.specs.Tree.{declares, does, Head, Statement, empty, block, declare, simple, jump, return, if_then}
use Rattle.sharc_tree.specs.Tree.{if_then_else, while, for, Statements, no_statements, statement, Function}
use Rattle.sharc_names.specs.Kinds.{Kind, void, declared_kind}
use Rattle.sharc_ctype.specs.Resolved.{Resolution, kind_at}
use Rattle.sharc_ctype_laws.specs.Constraints.{IsInteger, IsPointer, IsScalar}

-- 6.2.5p18 and p20: what a cell holds
abbrev pub IsHeld : Kind → Type 0
IsHeld k = IsInteger k ⊎ IsPointer k

-- a value (own: NULL is one), and an integer as the count of a malloc
abbrev pub MeetsRight : Resolution → Right → Type 0
MeetsRight r (value e) = IsScalar (kind_at r e)
MeetsRight r (malloc s n w) = IfSome n (λ e. IsInteger (kind_at r e))

-- 6.5.16p2: the left side is an lvalue that is no array, struct or mutex
abbrev pub MeetsSimple : Resolution → Simple → Type 0
MeetsSimple r (assign s u x) = IsTrue (is_lvalue u) × IsHeld (kind_at r u) × MeetsRight r x
MeetsSimple r (does_call e) = Unit {0}

-- 6.7.9p11: what has an initialiser is no struct or mutex
abbrev pub MeetsLocal : Resolution → Local → Type 0
MeetsLocal r l = IfSome l.initial (λ x. IsHeld (declared_kind l.declaration.written) × MeetsRight r x)

-- 6.8.4.1p1 and 6.8.5p2
abbrev pub MeetsTest : Resolution → Expression → Type 0
MeetsTest r e = IsScalar (kind_at r e)

abbrev pub MeetsFirst : Resolution → First → Type 0
MeetsFirst r nothing = Unit {0}
MeetsFirst r (declares l) = MeetsLocal r l
MeetsFirst r (does x) = MeetsSimple r x

abbrev pub MeetsHead : Resolution → Head → Type 0
MeetsHead r h = MeetsFirst r h.first × IfSome h.test (MeetsTest r) × IfSome h.step (MeetsSimple r)

-- 6.8.6.4p1: a value is returned exactly where the result is not void
abbrev pub MeetsReturn : Resolution → WrittenType → Option Expression → Type 0
MeetsReturn r w None = declared_kind w ≡ void
MeetsReturn r w (Some e) = (declared_kind w ≡ void → ⊥) × IsScalar (kind_at r e)

-- 6.8.6.2p1 and 6.8.6.3p1: `break` and `continue` are in loops
abbrev mutual
  pub Meets : Resolution → WrittenType → Bool → Statement → Type 0
  Meets r w in_loop (empty s) = Unit {0}
  Meets r w in_loop (block s all) = AllMeet r w in_loop all
  Meets r w in_loop (declare s l) = MeetsLocal r l
  Meets r w in_loop (simple s x) = MeetsSimple r x
  Meets r w in_loop (jump s j) = IsTrue in_loop
  Meets r w in_loop (return s e) = MeetsReturn r w e
  Meets r w in_loop (if_then s e a) = MeetsTest r e × Meets r w in_loop a
  Meets r w in_loop (if_then_else s e a b) = MeetsTest r e × Meets r w in_loop a × Meets r w in_loop b
  Meets r w in_loop (while s e a) = MeetsTest r e × Meets r w true a
  Meets r w in_loop (for s h a) = MeetsHead r h × Meets r w true a

  pub AllMeet : Resolution → WrittenType → Bool → Statements → Type 0
  AllMeet r w in_loop no_statements = Unit {0}
  AllMeet r w in_loop (statement a rest) = Meets r w in_loop a × AllMeet r w in_loop rest

abbrev pub MeetsRules : Resolution → Function → Type 0
MeetsRules r f = AllMeet r f.result false f.statements
