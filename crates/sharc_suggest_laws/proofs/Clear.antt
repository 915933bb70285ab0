-- Nothing that is given begins where something is declared.
use Rattle.sharc_suggest_laws.proofs.{Imports.{◌≡◌, ℕ, ◌+◌, ◌<◌, ◌≤◌, List, [], ◌∷◌, refl, arith, AllByRecursion, Token, Declaration, GlobalDefinition, Follow, item_spans, PlacedItem, PlacedItems, span_of_item, Function, Item, structure, global, function, globals_in, functions_in, declarations_of, declarations_in, locals_in_all, met_in_statements, met_in_item, met_in_items, begins_at, joint, each}, Apart.{Between, named_between, HasParts, parts_of}, Few.at_token, Follows.named_in, Spread.{IsClear, none_before, none_behind, of_statements, of_item, of_items}}
use Rattle.sharc_tree.specs.Tree as tree

-- ---- in items

abbrev pub IsClearAt : ℕ → ℕ → (ℕ → ℕ) → ℕ → Type 0
IsClearAt from until n t = (from ≤ t) × (t < until) × (n t ≡ 0)

abbrev pub begun_in : List Item → ℕ → ℕ
begun_in items t = met_in_items (begins_at t) items

-- each name that the items declare is at a token of which this holds
pub record AreNamed (P : ℕ → Type 0) (items : List Item) : Type 0 where
  pub declarations : AllByRecursion (λ (d : Declaration). P d.name.site.token) (declarations_in items)
  pub globals : AllByRecursion (λ (g : GlobalDefinition). P g.declaration.name.site.token) (globals_in items)
  pub functions : AllByRecursion (λ (f : Function). P f.name.site.token) (functions_in items)
  pub parameters : AllByRecursion (λ (f : Function). AllByRecursion (λ (d : Declaration). P d.name.site.token) f.parameters) (functions_in items)

abbrev pub AreClear : List Item → ℕ → ℕ → Type 0
AreClear items from until = AreNamed (IsClearAt from until (begun_in items)) items

all_named : (P Q : ℕ → Type 0) → ((t : ℕ) → P t → Q t) → (items : List Item) → AreNamed P items → AreNamed Q items
all_named P Q also items h = record {
  declarations = named (declarations_in items) h.declarations;
  globals = each (λ (g : GlobalDefinition). P g.declaration.name.site.token) (λ (g : GlobalDefinition). Q g.declaration.name.site.token) (λ g. also g.declaration.name.site.token) (globals_in items) h.globals;
  functions = each (λ (f : Function). P f.name.site.token) (λ (f : Function). Q f.name.site.token) (λ f. also f.name.site.token) (functions_in items) h.functions;
  parameters = each (λ (f : Function). AllByRecursion (λ (d : Declaration). P d.name.site.token) f.parameters) (λ (f : Function). AllByRecursion (λ (d : Declaration). Q d.name.site.token) f.parameters)
      (λ f. named f.parameters) (functions_in items) h.parameters;
}
  where
    named : (ds : List Declaration) → AllByRecursion (λ (d : Declaration). P d.name.site.token) ds → AllByRecursion (λ (d : Declaration). Q d.name.site.token) ds
    named ds all = each (λ (d : Declaration). P d.name.site.token) (λ (d : Declaration). Q d.name.site.token) (λ d. also d.name.site.token) ds all

-- what is clear in an item, and after it, is clear among both
record Lifts (all : List Token) (i : Item) (rest : List Item) (from until : ℕ) : Type 0 where
  own : (t : ℕ) → IsClearAt (span_of_item i).first.token ((span_of_item i).last.token + 1) (λ t. met_in_item (begins_at t) i) t → IsClearAt from until (begun_in (i ∷ rest)) t
  later : (t : ℕ) → IsClearAt ((span_of_item i).last.token + 1) until (begun_in rest) t → IsClearAt from until (begun_in (i ∷ rest)) t

lifts : (all : List Token) (i : Item) (rest : List Item) (from until : ℕ) → Follow all from until (item_spans (i ∷ rest)) → PlacedItems all (i ∷ rest) → Lifts all i rest from until
lifts all i rest from until (span, begins, ends, follow) (placed, more) =
    let le : from ≤ (span_of_item i).last.token + 1 = omega (arith, span.order, begins) in
    let ge : (span_of_item i).last.token + 1 ≤ until = omega (arith, ends) in
    record {
      own = λ t h.
          let none : met_in_item (begins_at t) i ≡ 0 = h.2 in
          let other : met_in_items (begins_at t) rest ≡ 0 =
          none_before t ((span_of_item i).last.token + 1) until (met_in_items (begins_at t) rest) ((of_items all rest more).few (at_token t) ((span_of_item i).last.token + 1) until ge follow) h.1 in
          let sum : met_in_item (begins_at t) i + met_in_items (begins_at t) rest ≡ 0 = omega (arith, none, other) in
          (omega (arith, begins, h.0), omega (arith, h.1, ge), sum);
      later = λ t h.
          let none : met_in_items (begins_at t) rest ≡ 0 = h.2 in
          let other : met_in_item (begins_at t) i ≡ 0 =
          none_behind t from ((span_of_item i).last.token + 1) (met_in_item (begins_at t) i) ((of_item all i placed).few (at_token t) from ((span_of_item i).last.token + 1) le (span, begins, omega arith, tt)) h.0 in
          let sum : met_in_item (begins_at t) i + met_in_items (begins_at t) rest ≡ 0 = omega (arith, none, other) in
          (omega (arith, le, h.0), h.1, sum);
    }

item_clear : (all : List Token) (i : Item) (rest : List Item) (from until : ℕ) → PlacedItem all i → Lifts all i rest from until → AreNamed (IsClearAt from until (begun_in (i ∷ rest))) rest → AreClear (i ∷ rest) from until
item_clear all (structure s) rest from until ((_, (_, named, _, follow)), _, placed) both more =
    let P : Declaration → Type 0 = λ (d : Declaration). IsClearAt from until (begun_in (structure s ∷ rest)) d.name.site.token in
    record {
      declarations = joint P s.fields (declarations_in rest)
          (each (Between (s.name.site.token + 1) (s.span.last.token + 1)) P (λ d h. both.own d.name.site.token (omega (arith, named, h.0), h.1, refl)) s.fields (named_between all (s.name.site.token + 1) (s.span.last.token + 1) s.fields follow placed)) more.declarations;
      globals = more.globals;
      functions = more.functions;
      parameters = more.parameters;
    }
item_clear all (global g) rest from until ((_, (_, begins, ends, _)), placed) both more =
    let here = named_in all g.declaration placed in
    record {
      declarations = more.declarations;
      globals = (both.own g.declaration.name.site.token (omega (arith, begins, here.0), omega (arith, here.1, ends), refl), more.globals);
      functions = more.functions;
      parameters = more.parameters;
    }
item_clear all (function f) rest from until placed both more =
    let parts : HasParts f = parts_of all f placed in
    let named : f.name.site.token < f.body.first.token = parts.named in
    let body = of_statements all f.statements placed.5 in
    let ordered : f.body.first.token ≤ f.body.last.token + 1 = omega (arith, parts.order) in
    let before_body : (t : ℕ) → t < f.body.first.token → met_in_statements (begins_at t) f.statements ≡ 0 =
    λ t less. none_before t f.body.first.token (f.body.last.token + 1) (met_in_statements (begins_at t) f.statements) (body.few (at_token t) f.body.first.token (f.body.last.token + 1) ordered placed.4.1) less in
    let P : Declaration → Type 0 = λ (d : Declaration). IsClearAt from until (begun_in (function f ∷ rest)) d.name.site.token in
    let own_parameters : AllByRecursion P f.parameters =
    each (Between f.span.first.token f.body.first.token) P (λ d h. both.own d.name.site.token (h.0, omega (arith, h.1, parts.order, parts.high), before_body d.name.site.token h.1)) f.parameters parts.parameters in
    let own_locals : AllByRecursion P (locals_in_all f.statements) =
    each (IsClear f.body.first.token (f.body.last.token + 1) (λ t. met_in_statements (begins_at t) f.statements)) P
    (λ d h. both.own d.name.site.token (omega (arith, parts.low, h.0), omega (arith, h.1, parts.high), h.2)) (locals_in_all f.statements) (body.clear f.body.first.token (f.body.last.token + 1) ordered placed.4.1) in
    record {
      declarations = joint P (declarations_of (function f)) (declarations_in rest) (joint P f.parameters (locals_in_all f.statements) own_parameters own_locals) more.declarations;
      globals = more.globals;
      functions = (both.own f.name.site.token (omega (arith, placed.0.1.0.order, placed.0.1.1, placed.0.1.3.1), omega (arith, named, parts.order, parts.high), before_body f.name.site.token named), more.functions);
      parameters = (own_parameters, more.parameters);
    }

clear_items : (all : List Token) (items : List Item) (from until : ℕ) → Follow all from until (item_spans items) → PlacedItems all items → AreClear items from until
clear_items all [] from until follow placed = record { declarations = tt; globals = tt; functions = tt; parameters = tt }
clear_items all (i ∷ rest) from until follow placed =
    let both : Lifts all i rest from until = lifts all i rest from until follow placed in
    item_clear all i rest from until placed.0 both
    (all_named (IsClearAt ((span_of_item i).last.token + 1) until (begun_in rest)) (IsClearAt from until (begun_in (i ∷ rest))) both.later rest (clear_items all rest ((span_of_item i).last.token + 1) until follow.3 placed.1))

pub all_clear : (all : List Token) (items : List Item) (until : ℕ) → Follow all 0 until (item_spans items) → PlacedItems all items → AreClear items 0 until
all_clear all items until follow placed = clear_items all items 0 until follow placed
