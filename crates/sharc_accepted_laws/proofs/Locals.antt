-- What holds of the declarations of a function's locals holds of the locals.
use Rattle.sharc_accepted_laws.proofs.Imports.{List, AllByRecursion, Declaration, Local, First, declares, Statement, Statements, no_statements, statement, first_locals, locals_in_first, locals_in, front, back, both}
use Rattle.sharc_tree.specs.Tree as tree
use Rattle.sharc_ctype.specs.Statements as declared
use Rattle.sharc_check.specs.Constructs.{locals_in_all}

module _ (P : Declaration → Type 0) where
  abbrev pub OfLocal : Local → Type 0
  OfLocal l = P l.declaration

  abbrev All : List Local → Type 0
  All list = AllByRecursion OfLocal list

  in_first : (x : First) → AllByRecursion P (first_locals x) → All (locals_in_first x)
  in_first (declares l) h = (h.0, tt)
  in_first _ h = tt

  mutual
    in_one : (a : Statement) → AllByRecursion P (declared.locals_in a) → All (locals_in a)
    in_one (tree.block s all) h = in_each all h
    in_one (tree.declare s l) h = (h.0, tt)
    in_one (tree.if_then s e a) h = in_one a h
    in_one (tree.if_then_else s e a b) h =
        both OfLocal (locals_in a) (locals_in b)
        (in_one a (front P (declared.locals_in a) (declared.locals_in b) h)) (in_one b (back P (declared.locals_in a) (declared.locals_in b) h))
    in_one (tree.while s e a) h = in_one a h
    in_one (tree.for s x a) h =
        both OfLocal (locals_in_first x.first) (locals_in a)
        (in_first x.first (front P (first_locals x.first) (declared.locals_in a) h)) (in_one a (back P (first_locals x.first) (declared.locals_in a) h))
    in_one _ h = tt

    pub in_each : (a : Statements) → AllByRecursion P (declared.locals_in_all a) → All (locals_in_all a)
    in_each no_statements h = tt
    in_each (statement a rest) h =
        both OfLocal (locals_in a) (locals_in_all rest)
        (in_one a (front P (declared.locals_in a) (declared.locals_in_all rest) h)) (in_each rest (back P (declared.locals_in a) (declared.locals_in_all rest) h))
