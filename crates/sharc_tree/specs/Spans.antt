-- Where things are: the tokens of each node.
use Rattle.sharc_tree.specs.declared.token.Span.{Span}
use Rattle.sharc_tree.specs.Tree.{Expression, identifier, constant, parentheses, call, spawn, on_value, on_place, cast}
use Rattle.sharc_tree.specs.Tree.{index, field, unary, binary, Right, value, malloc, Simple, assign, does_call, Item}
use Rattle.sharc_tree.specs.Tree.{structure, global, function, Statement, empty, block, declare, simple, jump, return}
use Rattle.sharc_tree.specs.Tree.{if_then, if_then_else, while, for}

abbrev pub span_of : Expression → Span
span_of (identifier s _) = s
span_of (constant s _) = s
span_of (parentheses s _) = s
span_of (call s _ _) = s
span_of (spawn s _ _) = s
span_of (on_value s _ _) = s
span_of (on_place s _ _) = s
span_of (cast s _ _) = s
span_of (index s _ _) = s
span_of (field s _ _ _) = s
span_of (unary s _ _) = s
span_of (binary s _ _ _ _) = s

abbrev pub span_of_statement : Statement → Span
span_of_statement (empty s) = s
span_of_statement (block s _) = s
span_of_statement (declare s _) = s
span_of_statement (simple s _) = s
span_of_statement (jump s _) = s
span_of_statement (return s _) = s
span_of_statement (if_then s _ _) = s
span_of_statement (if_then_else s _ _ _) = s
span_of_statement (while s _ _) = s
span_of_statement (for s _ _) = s

abbrev pub span_of_right : Right → Span
span_of_right (value e) = span_of e
span_of_right (malloc s _ _) = s

abbrev pub span_of_simple : Simple → Span
span_of_simple (assign s _ _) = s
span_of_simple (does_call e) = span_of e

abbrev pub span_of_item : Item → Span
span_of_item (structure x) = x.span
span_of_item (global x) = x.span
span_of_item (function x) = x.span
