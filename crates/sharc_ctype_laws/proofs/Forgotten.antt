-- What holds of the expressions of a function at their places holds of them.
use Rattle.sharc_ctype_laws.proofs.Imports.{List, [], ◌∷◌, ◌++◌, AllByRecursion, Expression, First, nothing, declares, does, Statement, Statements, no_statements, statement, Function, expressions, in_option, in_simple, in_local, in_first, in_statement, in_statements, in_function, Scope, Around, opened, looping, with_names, behind_first, in_head, after, Placing, at, places_in_first, places_in, places_in_all, places_of, front, back, both}
use Rattle.sharc_tree.specs.Tree as tree

abbrev Of : (Expression → Type 0) → Placing → Type 0
Of Q p = Q p.expression

plain : (Q : Expression → Type 0) (scope : Scope) (list : List Expression) → AllByRecursion (Of Q) (at scope list) → AllByRecursion Q list
plain Q scope [] h = tt
plain Q scope (e ∷ rest) h = (h.0, plain Q scope rest h.1)

plain_first : (Q : Expression → Type 0) (around : Around) (scope : Scope) (f : First) → AllByRecursion (Of Q) (places_in_first around scope f) → AllByRecursion Q (in_first f)
plain_first Q around scope nothing h = tt
plain_first Q around scope (declares l) h = plain Q _ (in_local l) h
plain_first Q around scope (does x) h = plain Q scope (in_simple x) h

mutual
  forget : (Q : Expression → Type 0) (around : Around) (scope : Scope) (a : Statement) → AllByRecursion (Of Q) (places_in around scope a) → AllByRecursion Q (in_statement a)
  forget Q around scope (tree.block s all) h = forget_all Q (opened around scope.names) scope all h
  forget Q around scope (tree.declare s l) h = plain Q _ (in_local l) h
  forget Q around scope (tree.simple s x) h = plain Q scope (in_simple x) h
  forget Q around scope (tree.return s e) h = plain Q scope (in_option expressions e) h
  forget Q around scope (tree.if_then s e a) h =
      both Q (expressions e) (in_statement a) (plain Q scope (expressions e) (front (Of Q) (at scope (expressions e)) _ h)) (forget Q (opened around scope.names) scope a (back (Of Q) (at scope (expressions e)) _ h))
  forget Q around scope (tree.if_then_else s e a b) h =
      let first = front (Of Q) (at scope (expressions e) ++ places_in (opened around scope.names) scope a) (places_in (opened around scope.names) scope b) h in
      both Q (expressions e ++ in_statement a) (in_statement b)
      (both Q (expressions e) (in_statement a) (plain Q scope (expressions e) (front (Of Q) (at scope (expressions e)) _ first)) (forget Q (opened around scope.names) scope a (back (Of Q) (at scope (expressions e)) _ first)))
      (forget Q (opened around scope.names) scope b (back (Of Q) (at scope (expressions e) ++ places_in (opened around scope.names) scope a) (places_in (opened around scope.names) scope b) h))
  forget Q around scope (tree.while s e a) h =
      both Q (expressions e) (in_statement a) (plain Q scope (expressions e) (front (Of Q) (at scope (expressions e)) _ h)) (forget Q (looping (opened around scope.names)) scope a (back (Of Q) (at scope (expressions e)) _ h))
  forget Q around scope (tree.for s x a) h =
      let inner = in_head (opened around scope.names) scope x in
      let begin = places_in_first (opened around scope.names) scope x.first in
      let later = in_option expressions x.test ++ in_option in_simple x.step in
      let head = front (Of Q) (begin ++ at inner later) (places_in (looping (opened around (behind_first (opened around scope.names) scope.names x.first))) inner a) h in
      let rest = plain Q inner later (back (Of Q) begin (at inner later) head) in
      both Q (in_first x.first ++ in_option expressions x.test ++ in_option in_simple x.step) (in_statement a)
      (both Q (in_first x.first ++ in_option expressions x.test) (in_option in_simple x.step)
      (both Q (in_first x.first) (in_option expressions x.test) (plain_first Q (opened around scope.names) scope x.first (front (Of Q) begin (at inner later) head)) (front Q (in_option expressions x.test) (in_option in_simple x.step) rest))
      (back Q (in_option expressions x.test) (in_option in_simple x.step) rest))
      (forget Q (looping (opened around (behind_first (opened around scope.names) scope.names x.first))) (in_head (opened around scope.names) scope x) a
      (back (Of Q) (begin ++ at inner later) (places_in (looping (opened around (behind_first (opened around scope.names) scope.names x.first))) inner a) h))
  forget Q around scope _ h = tt

  forget_all : (Q : Expression → Type 0) (around : Around) (scope : Scope) (all : Statements) → AllByRecursion (Of Q) (places_in_all around scope all) → AllByRecursion Q (in_statements all)
  forget_all Q around scope no_statements h = tt
  forget_all Q around scope (statement a rest) h =
      both Q (in_statement a) (in_statements rest) (forget Q around scope a (front (Of Q) (places_in around scope a) _ h))
      (forget_all Q around (with_names scope (after around scope.names a)) rest (back (Of Q) (places_in around scope a) (places_in_all around (with_names scope (after around scope.names a)) rest) h))

pub in_function_all : (Q : Expression → Type 0) (file : Scope) (f : Function) → AllByRecursion (λ p. Q p.expression) (places_of file f) → AllByRecursion Q (in_function f)
in_function_all Q file f h = forget_all Q _ _ f.statements h
