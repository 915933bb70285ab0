-- Whether a `malloc` at a token makes objects with a pointer in a cell, by the form of what it is in.
use Rattle.std.specs.{Prelude.{ℕ, ◌==◌, Bool, false, ◌&&◌, ◌||◌, List, Option, Some, None}, List.list_any}
use Rattle.sharc_tree.specs.Tree.{Right, value, malloc, Simple, assign, does_call, Local, First, nothing, declares}
use Rattle.sharc_tree.specs.Tree.{does, Head, Statement, empty, block, declare, simple, jump, return, if_then}
use Rattle.sharc_tree.specs.Tree.{if_then_else, while, for, Statements, no_statements, statement, Item, structure}
use Rattle.sharc_tree.specs.Tree.{global, function}
use Rattle.sharc_ctype.specs.Resolved.{Resolution}
use Rattle.sharc_meaning.specs.References.{is_pointer_in}

abbrev pub right_makes : Resolution → ℕ → ℕ → Right → Bool
right_makes r token cell (value e) = false
right_makes r token cell (malloc s n w) = (s.first.token == token) && is_pointer_in r w cell

abbrev pub simple_makes : Resolution → ℕ → ℕ → Simple → Bool
simple_makes r token cell (assign s u x) = right_makes r token cell x
simple_makes r token cell (does_call e) = false

abbrev pub initial_makes : Resolution → ℕ → ℕ → Option Right → Bool
initial_makes r token cell None = false
initial_makes r token cell (Some x) = right_makes r token cell x

abbrev pub first_makes : Resolution → ℕ → ℕ → First → Bool
first_makes r token cell nothing = false
first_makes r token cell (declares l) = initial_makes r token cell l.initial
first_makes r token cell (does x) = simple_makes r token cell x

abbrev pub step_makes : Resolution → ℕ → ℕ → Option Simple → Bool
step_makes r token cell None = false
step_makes r token cell (Some x) = simple_makes r token cell x

abbrev pub head_makes : Resolution → ℕ → ℕ → Head → Bool
head_makes r token cell h = first_makes r token cell h.first || step_makes r token cell h.step

abbrev mutual
  pub statement_makes : Resolution → ℕ → ℕ → Statement → Bool
  statement_makes r token cell (empty s) = false
  statement_makes r token cell (block s all) = statements_make r token cell all
  statement_makes r token cell (declare s l) = initial_makes r token cell l.initial
  statement_makes r token cell (simple s x) = simple_makes r token cell x
  statement_makes r token cell (jump s j) = false
  statement_makes r token cell (return s e) = false
  statement_makes r token cell (if_then s e a) = statement_makes r token cell a
  statement_makes r token cell (if_then_else s e a b) = statement_makes r token cell a || statement_makes r token cell b
  statement_makes r token cell (while s e a) = statement_makes r token cell a
  statement_makes r token cell (for s h a) = head_makes r token cell h || statement_makes r token cell a

  pub statements_make : Resolution → ℕ → ℕ → Statements → Bool
  statements_make r token cell no_statements = false
  statements_make r token cell (statement a rest) = statement_makes r token cell a || statements_make r token cell rest

abbrev pub item_makes : Resolution → ℕ → ℕ → Item → Bool
item_makes r token cell (structure s) = false
item_makes r token cell (global g) = false
item_makes r token cell (function f) = statements_make r token cell f.statements

abbrev pub items_make : Resolution → ℕ → ℕ → List Item → Bool
items_make r token cell = list_any (item_makes r token cell)
