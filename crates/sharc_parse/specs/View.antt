-- The phrase of a tree: what is left of it without the places of its tokens.
use Rattle.std.specs.Prelude.{List, map, Option, Some, None}
use Rattle.sharc_tree.specs.Tree as tree
use Rattle.sharc_tree.specs.{View.{view_expr, view_arguments}, declared.ctype.Mode.Mode, declared.ctype.Path.Path}
use Rattle.sharc_tree.specs.declared.ctype.Path.TheVariants.{One, Through}
use Rattle.sharc_tree.specs.declared.tree.declaration.WrittenType.{WrittenType}
use Rattle.sharc_tree.specs.{declared.tree.declaration.Declaration.Declaration, declared.tree.expression.Expr.Expr}
use Rattle.sharc_tree.specs.declared.ctype.Mode.TheVariants as mode
use Rattle.sharc_parse.specs.Grammar.{Sharing, private, readonly, racy, dynamic, locked, locked_through, Typing}
use Rattle.sharc_parse.specs.Grammar.{Declaring, parenthesis, of_spawn, of_value, of_place, of_cast, Phrase, identifier}
use Rattle.sharc_parse.specs.Grammar.{constant, enclosed, call, index, field, unary, binary, Phrases, none, more}

abbrev pub bare_path : Path → Sharing
bare_path (One m t) = locked m
bare_path (Through x t m) = locked_through x m

abbrev pub bare_mode : Mode → Sharing
bare_mode mode.Private = private
bare_mode mode.Readonly = readonly
bare_mode mode.Racy = racy
bare_mode mode.Dynamic = dynamic
bare_mode (mode.Locked p) = bare_path p

abbrev pub bare_level : Option Mode → Option Sharing
bare_level None = None
bare_level (Some m) = Some (bare_mode m)

abbrev pub bare_type : WrittenType → Typing
bare_type t = record { mode_first = t.mode_first; base = t.ctype.base; levels = map bare_level t.ctype.levels }

abbrev pub bare_declaration : Declaration → Declaring
bare_declaration d = record { typing = bare_type d.written; named = d.name.text }

abbrev mutual
  pub bare : tree.Expression → Phrase
  bare (tree.identifier s i) = identifier i.text
  bare (tree.constant s c) = constant c
  bare (tree.parentheses s a) = enclosed parenthesis (bare a)
  bare (tree.call s f all) = call f.text (bare_all all)
  bare (tree.spawn s f a) = enclosed (of_spawn f.text) (bare a)
  bare (tree.on_value s w a) = enclosed (of_value w) (bare a)
  bare (tree.on_place s w a) = enclosed (of_place w) (bare a)
  bare (tree.cast s t a) = enclosed (of_cast (bare_type t)) (bare a)
  bare (tree.index s a i) = index (bare a) (bare i)
  bare (tree.field s a w n) = field (bare a) w n.text
  bare (tree.unary s o a) = unary o (bare a)
  bare (tree.binary s o at a b) = binary o (bare a) (bare b)

  pub bare_all : tree.Arguments → Phrases
  bare_all tree.no_arguments = none
  bare_all (tree.argument a rest) = more (bare a) (bare_all rest)

abbrev pub phrase_of : Expr → Phrase
phrase_of e = bare (view_expr e)

abbrev pub phrases_of : List Expr → Phrases
phrases_of list = bare_all (view_arguments list)
