-- What is declared in a program with a cast written in it.
use Rattle.sharc_suggest_laws.proofs.Imports.{◌≡◌, List, [], ◌∷◌, ◌++◌, map, refl, ap, ap₂, Declaration, GlobalDefinition, StructDefinition, First, does, Statement, Statements, no_statements, statement, Function, Item, structure, global, function, Recast, first_with_cast, statement_with_cast, statements_with_cast, item_with_cast, function_with_cast, DeclarationsStay, first_locals, locals_in, locals_in_all, structs_in, globals_in, functions_in, declarations_of, declarations_in}
use Rattle.sharc_tree.specs.Tree as tree

both : (a b x y : List Declaration) → a ≡ x → b ≡ y → a ++ b ≡ x ++ y
both a b x y left right = ap₂ (λ (s t : List Declaration). s ++ t) left right

first_same : (c : Recast) (f : First) → first_locals (first_with_cast c f) ≡ first_locals f
first_same c (does x) = refl
first_same c _ = refl

mutual
  locals_same : (c : Recast) (s : Statement) → locals_in (statement_with_cast c s) ≡ locals_in s
  locals_same c (tree.block s all) = all_locals_same c all
  locals_same c (tree.if_then s e a) = locals_same c a
  locals_same c (tree.if_then_else s e a b) = both (locals_in (statement_with_cast c a)) (locals_in (statement_with_cast c b)) (locals_in a) (locals_in b) (locals_same c a) (locals_same c b)
  locals_same c (tree.while s e a) = locals_same c a
  locals_same c (tree.for s h a) = both (first_locals (first_with_cast c h.first)) (locals_in (statement_with_cast c a)) (first_locals h.first) (locals_in a) (first_same c h.first) (locals_same c a)
  locals_same c _ = refl

  pub all_locals_same : (c : Recast) (all : Statements) → locals_in_all (statements_with_cast c all) ≡ locals_in_all all
  all_locals_same c no_statements = refl
  all_locals_same c (statement a rest) =
      both (locals_in (statement_with_cast c a)) (locals_in_all (statements_with_cast c rest)) (locals_in a) (locals_in_all rest) (locals_same c a) (all_locals_same c rest)

declarations_same : (c : Recast) (i : Item) → declarations_of (item_with_cast c i) ≡ declarations_of i
declarations_same c (function f) = ap (λ (locals : List Declaration). f.parameters ++ locals) (all_locals_same c f.statements)
declarations_same c _ = refl

same_structs : (c : Recast) (items : List Item) → structs_in (map (item_with_cast c) items) ≡ structs_in items
same_structs c [] = refl
same_structs c (structure s ∷ rest) = ap (λ (all : List StructDefinition). s ∷ all) (same_structs c rest)
same_structs c (global g ∷ rest) = same_structs c rest
same_structs c (function f ∷ rest) = same_structs c rest

pub same_globals : (c : Recast) (items : List Item) → globals_in (map (item_with_cast c) items) ≡ globals_in items
same_globals c [] = refl
same_globals c (structure s ∷ rest) = same_globals c rest
same_globals c (global g ∷ rest) = ap (λ (all : List GlobalDefinition). g ∷ all) (same_globals c rest)
same_globals c (function f ∷ rest) = same_globals c rest

pub same_functions : (c : Recast) (items : List Item) → functions_in (map (item_with_cast c) items) ≡ map (function_with_cast c) (functions_in items)
same_functions c [] = refl
same_functions c (structure s ∷ rest) = same_functions c rest
same_functions c (global g ∷ rest) = same_functions c rest
same_functions c (function f ∷ rest) = ap (λ (all : List Function). function_with_cast c f ∷ all) (same_functions c rest)

pub same_declarations : (c : Recast) (items : List Item) → declarations_in (map (item_with_cast c) items) ≡ declarations_in items
same_declarations c [] = refl
same_declarations c (i ∷ rest) =
    both (declarations_of (item_with_cast c i)) (declarations_in (map (item_with_cast c) rest)) (declarations_of i) (declarations_in rest) (declarations_same c i) (same_declarations c rest)

pub declarations_stay : DeclarationsStay
declarations_stay c p = record {
  structs = same_structs c p.items;
  globals = same_globals c p.items;
  declarations = same_declarations c p.items;
  functions = same_functions c p.items;
}
