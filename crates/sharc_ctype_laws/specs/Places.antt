-- Each expression of a program with what is in scope where it is written.
use Rattle.std.specs.Prelude.{false, List, [], ◌∷◌, ◌++◌, length, map}
use Rattle.sharc_tree.specs.Tree.{Expression, Local, First, nothing, declares, does, Statement, empty, block, declare}
use Rattle.sharc_tree.specs.Tree.{simple, jump, return, if_then, if_then_else, while, for, Statements, no_statements}
use Rattle.sharc_tree.specs.Tree.{statement, Function}
use Rattle.sharc_tree.specs.Measures.{expressions, in_right, in_simple, in_option}
use Rattle.sharc_names.specs.{declared.scope.Scope.Scope, Kinds.declared_kind}
use Rattle.sharc_ctype.specs.Statements.{Around, opened, looping, with_names, declared, behind_first, in_head, after}
use Rattle.sharc_ctype.specs.Items.{in_body}

pub record Placing : Type 0 where
  pub scope : Scope
  pub expression : Expression

abbrev pub at : Scope → List Expression → List Placing
at scope = map (λ e. record { scope = scope; expression = e })

-- a local is in scope in its own initialiser
abbrev pub places_in_local : Around → Scope → Local → List Placing
places_in_local around scope l =
    at (with_names scope (declared around.block l.declaration scope.names)) (in_option in_right l.initial)

abbrev pub places_in_first : Around → Scope → First → List Placing
places_in_first around scope nothing = []
places_in_first around scope (declares l) = places_in_local around scope l
places_in_first around scope (does x) = at scope (in_simple x)

abbrev mutual
  pub places_in : Around → Scope → Statement → List Placing
  places_in around scope (empty s) = []
  places_in around scope (block s all) = places_in_all (opened around scope.names) scope all
  places_in around scope (declare s l) = places_in_local around scope l
  places_in around scope (simple s x) = at scope (in_simple x)
  places_in around scope (jump s j) = []
  places_in around scope (return s e) = at scope (in_option expressions e)
  places_in around scope (if_then s e a) = at scope (expressions e) ++ places_in (opened around scope.names) scope a
  places_in around scope (if_then_else s e a b) = at scope (expressions e)
      ++ places_in (opened around scope.names) scope a ++ places_in (opened around scope.names) scope b
  places_in around scope (while s e a) =
      at scope (expressions e) ++ places_in (looping (opened around scope.names)) scope a
  places_in around scope (for s h a) = places_in_first (opened around scope.names) scope h.first
      ++ at (in_head (opened around scope.names) scope h) (in_option expressions h.test ++ in_option in_simple h.step)
      ++ places_in (looping (opened around (behind_first (opened around scope.names) scope.names h.first)))
      (in_head (opened around scope.names) scope h) a

  pub places_in_all : Around → Scope → Statements → List Placing
  places_in_all around scope no_statements = []
  places_in_all around scope (statement a rest) =
      places_in around scope a ++ places_in_all around (with_names scope (after around scope.names a)) rest

abbrev pub places_of : Scope → Function → List Placing
places_of file f =
    places_in_all (record { result = declared_kind f.result; in_loop = false; block = length file.names })
    (in_body file f) f.statements

abbrev pub places_of_all : Scope → List Function → List Placing
places_of_all file [] = []
places_of_all file (f ∷ rest) = places_of file f ++ places_of_all file rest
