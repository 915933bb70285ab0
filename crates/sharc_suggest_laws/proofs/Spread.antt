-- What is in spans that follow one another: at most one value begins at a token, none where something is declared, and a cast is added to what has a type: one walk.
use Rattle.sharc_suggest_laws.proofs.{Imports.{Bool, IfSome, Some, List, None, Option, [], arith, eqb-true, if◌then◌else◌, inl, inr, length, map, option_map, refl, subst, sym, ℕ, ◌++◌, ◌+◌, ◌<◌, ◌∙◌, ◌∷◌, ◌≡◌, ◌≤◌, AllByRecursion, joint, each, front, statement, value, expressions, function, in_option, in_right, in_simple, Placed, Follow, PlacedDeclaration, Declaration, PlacedFirst, First, PlacedHead, Head, PlacedItem, Item, PlacedItems, PlacedLocal, Local, PlacedRight, Right, PlacedSimple, Simple, PlacedStatement, Statement, PlacedStatements, Statements, declaration_spans, first_spans, form_spans, head_spans, item_spans, option_spans, point, statement_spans, Span, span_of, span_of_item, span_of_right, span_of_simple, span_of_statement, Expression, Function, assign, declares, does, does_call, global, malloc, no_statements, nothing, structure, declared, Token, Role, casts, entities_in, first_entities, head_entities, item_entities, local_entities, result_of, statement_entities, statements_entities, first_locals, locals_in, locals_in_all, Entity, Recast, with_cast, around, first_with_cast, head_with_cast, is_there, item_with_cast, local_with_cast, right_with_cast, simple_with_cast, statement_with_cast, statements_with_cast, ValuesBeginApart, begins_at, met_at, met_in_first, met_in_head, met_in_item, met_in_items, met_in_local, met_in_right, met_in_simple, met_in_statement, met_in_statements, met_inside, of_option}, Few.{Test, at_token, AtMostOnce, Few, few_both, few_in, few_value, whole as few_whole, none as few_none, behind_span as few_behind, alone, at_most_one}, Follows.{split, named_in}, Grown.{Grown, Grows, joined as grown_joined, whole as grown_whole, none as grown_none, behind_span as grown_behind, before_spans as grown_before, again as grown_again, one_in, one_declared, all_declared, joined_casts, grown_in, grown_value}}
use Rattle.sharc_tree.specs.Placed.{IsWhole}
use Rattle.sharc_tree.specs.Tree as tree

-- it is named in a stretch, and the number of what begins there is 0
abbrev pub IsClear : ℕ → ℕ → (ℕ → ℕ) → Declaration → Type 0
IsClear from until n d = (from ≤ d.name.site.token) × (d.name.site.token < until) × (n d.name.site.token ≡ 0)

abbrev ClearIn : List Token → List Span → List Declaration → (ℕ → ℕ) → Type 0
ClearIn all spans ds n = (from until : ℕ) → from ≤ until → Follow all from until spans → AllByRecursion (IsClear from until n) ds

abbrev FewIn : List Token → List Span → (ℕ → ℕ) → Type 0
FewIn all spans n = (t : ℕ) → Few all (at_token t) spans (n t)

pub none_before : (t from until n : ℕ) → AtMostOnce (at_token t) from until n → t < from → n ≡ 0
none_before t from until n (inl none) low = none
none_before t from until n (inr w) low = let at : from ≤ t = w.1 in absurd (omega (arith, low, at))

pub none_behind : (t from until n : ℕ) → AtMostOnce (at_token t) from until n → until ≤ t → n ≡ 0
none_behind t from until n (inl none) high = none
none_behind t from until n (inr w) high = let at : t < until = w.2 in absurd (omega (arith, high, at))

clear_wider : (from until low high : ℕ) (n : ℕ → ℕ) (ds : List Declaration) → low ≤ from → until ≤ high → AllByRecursion (IsClear from until n) ds → AllByRecursion (IsClear low high n) ds
clear_wider from until low high n ds le ge h = each (IsClear from until n) (IsClear low high n) (λ d w. (omega (arith, le, w.0), omega (arith, w.1, ge), w.2)) ds h

clear_joined : (all : List Token) (xs ys : List Span) (ds es : List Declaration) (n k : ℕ → ℕ) → FewIn all xs n → FewIn all ys k → ClearIn all xs ds n → ClearIn all ys es k → ClearIn all (xs ++ ys) (ds ++ es) (λ t. n t + k t)
clear_joined all xs ys ds es n k few more left right from until le follow =
    let w = split all from until xs ys le follow in
    joint (IsClear from until (λ t. n t + k t)) ds es
    (each (IsClear from w.0 n) (IsClear from until (λ t. n t + k t))
    (λ d h.
    let none : n d.name.site.token ≡ 0 = h.2 in
    let other : k d.name.site.token ≡ 0 = none_before d.name.site.token w.0 until (k d.name.site.token) (more d.name.site.token w.0 until w.2 w.4) h.1 in
    (h.0, omega (arith, h.1, w.2), omega (arith, none, other))) ds (left from w.0 w.1 w.3))
    (each (IsClear w.0 until k) (IsClear from until (λ t. n t + k t))
    (λ d h.
    let none : k d.name.site.token ≡ 0 = h.2 in
    let other : n d.name.site.token ≡ 0 = none_behind d.name.site.token from w.0 (n d.name.site.token) (few d.name.site.token from w.0 w.1 w.3) h.0 in
    (omega (arith, w.1, h.0), h.1, omega (arith, none, other))) es (right w.0 until w.2 w.4))

clear_whole : (all : List Token) (s : Span) (parts : List Span) (ds : List Declaration) (n : ℕ → ℕ) → IsWhole all s parts → ClearIn all parts ds n → ClearIn all (s ∷ []) ds n
clear_whole all s parts ds n (span, follows) inner from until le (_, begins, ends, _) =
    clear_wider s.first.token (s.last.token + 1) from until n ds begins (omega (arith, ends)) (inner s.first.token (s.last.token + 1) (omega (arith, span.order)) follows)

nothing_declared : (all : List Token) (spans : List Span) (n : ℕ → ℕ) → ClearIn all spans [] n
nothing_declared all spans n from until le follow = tt

-- ---- a declaration: nothing in its span

one_clear : (all : List Token) (d : Declaration) → PlacedDeclaration all d → ClearIn all (d.span ∷ []) (d ∷ []) (λ t. 0)
one_clear all d placed from until le (_, begins, ends, _) = let here = named_in all d placed in ((omega (arith, begins, here.0), omega (arith, here.1, ends), refl), tt)

clear_again : (all : List Token) (spans : List Span) (ds : List Declaration) (n k : ℕ → ℕ) → ((t : ℕ) → k t ≡ n t) → ClearIn all spans ds n → ClearIn all spans ds k
clear_again all spans ds n k same inner from until le follow = each (IsClear from until n) (IsClear from until k) (λ d h. (h.0, h.1, same d.name.site.token ∙ h.2)) ds (inner from until le follow)

-- ---- all three, of as many that meet each test, of what is declared, and of what has a type, before and with a cast

pub record Spread (all : List Token) (spans : List Span) (met : (Expression → Bool) → ℕ) (ds : List Declaration) (old : List Entity) (new : Recast → List Entity) : Type 0 where
  pub few : (t : Test) → Few all t spans (met t.test)
  pub clear : ClearIn all spans ds (λ t. met (begins_at t))
  pub grown : (c : Recast) → Grows all c spans (met (is_there c)) old (new c)

joined : {all : List Token} {xs ys : List Span} {n k : (Expression → Bool) → ℕ} {ds es : List Declaration} {old more : List Entity} {new too : Recast → List Entity}
    → Spread all xs n ds old new → Spread all ys k es more too → Spread all (xs ++ ys) (λ test. n test + k test) (ds ++ es) (old ++ more) (λ c. new c ++ too c)
joined {all} {xs} {ys} {n} {k} {ds} {es} {old} {more} {new} {too} one two = record {
  few = λ t. few_both all t xs ys (n t.test) (k t.test) (one.few t) (two.few t);
  clear = clear_joined all xs ys ds es (λ t. n (begins_at t)) (λ t. k (begins_at t)) (λ t. one.few (at_token t)) (λ t. two.few (at_token t)) one.clear two.clear;
  grown = λ c. grown_joined all c xs ys (n (is_there c)) (k (is_there c)) old (new c) more (too c) (one.grown c) (two.grown c);
}

whole : {all : List Token} {s : Span} {parts : List Span} {n : (Expression → Bool) → ℕ} {ds : List Declaration} {old : List Entity} {new : Recast → List Entity}
    → Spread all parts n ds old new → IsWhole all s parts → Spread all (s ∷ []) n ds old new
whole {all} {s} {parts} {n} {ds} {old} {new} h placed = record {
  few = λ t. few_whole all t s parts (n t.test) placed (h.few t);
  clear = clear_whole all s parts ds (λ t. n (begins_at t)) placed h.clear;
  grown = λ c. grown_whole all c s parts (n (is_there c)) old (new c) placed (h.grown c);
}

-- with what is declared forgotten: after a span that has none, and before spans that have none
forget : {all : List Token} {spans : List Span} {n : (Expression → Bool) → ℕ} {ds : List Declaration} {old : List Entity} {new : Recast → List Entity} → Spread all spans n ds old new → Spread all spans n [] old new
forget {all} {spans} {n} h = record { few = h.few; clear = nothing_declared all spans (λ t. n (begins_at t)); grown = h.grown }

behind : {all : List Token} {spans : List Span} {n : (Expression → Bool) → ℕ} {ds : List Declaration} {old : List Entity} {new : Recast → List Entity} (s : Span) → Spread all spans n ds old new → Spread all (s ∷ spans) n [] old new
behind {all} {spans} {n} {ds} {old} {new} s h = record {
  few = λ t. few_behind all t s spans (n t.test) (h.few t);
  clear = nothing_declared all (s ∷ spans) (λ t. n (begins_at t));
  grown = λ c. grown_behind all c s spans (n (is_there c)) old (new c) (h.grown c);
}

before : {all : List Token} {spans : List Span} {n : (Expression → Bool) → ℕ} {ds : List Declaration} {old : List Entity} {new : Recast → List Entity} (rest : List Span) → Spread all spans n ds old new → Spread all (spans ++ rest) n [] old new
before {all} {spans} {n} {ds} {old} {new} rest h = record {
  few = λ t. alone all t spans rest (n t.test) (h.few t);
  clear = nothing_declared all (spans ++ rest) (λ t. n (begins_at t));
  grown = λ c. grown_before all c spans rest (n (is_there c)) old (new c) (h.grown c);
}

again : {all : List Token} {spans : List Span} {n k : (Expression → Bool) → ℕ} {ds : List Declaration} {old : List Entity} {new : Recast → List Entity}
    → ((test : Expression → Bool) → n test ≡ k test) → Spread all spans n ds old new → Spread all spans k ds old new
again {all} {spans} {n} {k} {ds} {old} {new} same h = record {
  few = λ t. subst (Few all t spans) (same t.test) (h.few t);
  clear = clear_again all spans ds (λ t. n (begins_at t)) (λ t. k (begins_at t)) (λ t. sym (same (begins_at t))) h.clear;
  grown = λ c. grown_again all c spans (n (is_there c)) (k (is_there c)) old (new c) (same (is_there c)) (h.grown c);
}

zero_more : (n : ℕ) → 0 + n ≡ n
zero_more n = omega arith

none_more : (n : ℕ) → 0 + 0 + n ≡ n
none_more n = omega arith

-- no value, and nothing declared but what has a type in both
silent : {all : List Token} {spans : List Span} {old : List Entity} → ((c : Recast) → Grows all c spans 0 old old) → Spread all spans (λ test. 0) [] old (λ c. old)
silent {all} {spans} grown = record { few = λ t. few_none all t spans; clear = nothing_declared all spans (λ t. 0); grown = grown }

none : (all : List Token) (spans : List Span) → Spread all spans (λ test. 0) [] [] (λ c. [])
none all spans = silent (λ c. grown_none all c spans)

of_declaration : (all : List Token) (what : Role) (d : Declaration) → PlacedDeclaration all d → Spread all (d.span ∷ []) (λ test. 0) (d ∷ []) (declared what d ∷ []) (λ c. declared what d ∷ [])
of_declaration all what d placed = record { few = λ t. few_none all t (d.span ∷ []); clear = one_clear all d placed; grown = λ c. one_declared all c what d placed }

-- ---- in each production

of_expression : (all : List Token) (e : Expression) → Placed all e → Spread all (span_of e ∷ []) (λ test. met_inside test e) [] (casts (expressions e)) (λ c. casts (expressions (with_cast c e)))
of_expression all e placed = record { few = λ t. few_in all t e placed; clear = nothing_declared all (span_of e ∷ []) (λ t. met_inside (begins_at t) e); grown = λ c. grown_in all c e placed }

of_value : (all : List Token) (e : Expression) → Placed all e → Spread all (span_of e ∷ []) (λ test. met_at test e) [] (casts (expressions e)) (λ c. casts (expressions (around c (with_cast c e))))
of_value all e placed = record { few = λ t. few_value all t e placed; clear = nothing_declared all (span_of e ∷ []) (λ t. met_at (begins_at t) e); grown = λ c. grown_value all c e placed }

of_test : (all : List Token) (e : Option Expression) → IfSome e (Placed all)
    → Spread all (option_spans span_of e) (λ test. of_option (met_inside test) e) [] (casts (in_option expressions e)) (λ c. casts (in_option expressions (option_map (with_cast c) e)))
of_test all None placed = none all []
of_test all (Some e) placed = of_expression all e placed

of_returned : (all : List Token) (e : Option Expression) → IfSome e (Placed all)
    → Spread all (option_spans span_of e) (λ test. of_option (met_at test) e) [] (casts (in_option expressions e)) (λ c. casts (in_option expressions (option_map (λ a. around c (with_cast c a)) e)))
of_returned all None placed = none all []
of_returned all (Some e) placed = of_value all e placed

of_right : (all : List Token) (r : Right) → PlacedRight all r → Spread all (span_of_right r ∷ []) (λ test. met_in_right test r) [] (casts (in_right r)) (λ c. casts (in_right (right_with_cast c r)))
of_right all (value e) placed = of_value all e placed
of_right all (malloc s n t) placed = whole (before (t.span ∷ []) (of_test all n placed.1)) placed.0

of_simple : (all : List Token) (x : Simple) → PlacedSimple all x → Spread all (span_of_simple x ∷ []) (λ test. met_in_simple test x) [] (casts (in_simple x)) (λ c. casts (in_simple (simple_with_cast c x)))
of_simple all (assign s u r) placed =
    let one = of_expression all u placed.1 in
    let two = of_right all r placed.2 in
    let parts : Spread all (span_of u ∷ (span_of_right r ∷ [])) (λ test. met_inside test u + met_in_right test r) [] (casts (expressions u ++ in_right r)) (λ c. casts (expressions (with_cast c u) ++ in_right (right_with_cast c r))) =
    record {
      few = λ t. few_both all t (span_of u ∷ []) (span_of_right r ∷ []) (met_inside t.test u) (met_in_right t.test r) (one.few t) (two.few t);
      clear = nothing_declared all (span_of u ∷ (span_of_right r ∷ [])) (λ t. met_inside (begins_at t) u + met_in_right (begins_at t) r);
      grown = λ c. joined_casts all c (span_of u ∷ []) (span_of_right r ∷ []) (met_inside (is_there c) u) (met_in_right (is_there c) r) (expressions u) (expressions (with_cast c u)) (in_right r) (in_right (right_with_cast c r)) (one.grown c) (two.grown c);
    } in
    whole parts placed.0
of_simple all (does_call e) placed = of_expression all e placed

of_step : (all : List Token) (x : Option Simple) → IfSome x (PlacedSimple all)
    → Spread all (option_spans span_of_simple x) (λ test. of_option (met_in_simple test) x) [] (casts (in_option in_simple x)) (λ c. casts (in_option in_simple (option_map (simple_with_cast c) x)))
of_step all None placed = none all []
of_step all (Some x) placed = of_simple all x placed

of_initial : (all : List Token) (x : Option Right) → IfSome x (PlacedRight all)
    → Spread all (option_spans span_of_right x) (λ test. of_option (met_in_right test) x) [] (casts (in_option in_right x)) (λ c. casts (in_option in_right (option_map (right_with_cast c) x)))
of_initial all None placed = none all []
of_initial all (Some r) placed = of_right all r placed

of_local : (all : List Token) (l : Local) → PlacedLocal all l → Spread all (l.span ∷ []) (λ test. met_in_local test l) (l.declaration ∷ []) (local_entities l) (λ c. local_entities (local_with_cast c l))
of_local all l placed = whole (again (λ test. zero_more (met_in_local test l)) (joined (of_declaration all Role.Local l.declaration placed.1) (of_initial all l.initial placed.2))) placed.0

of_first : (all : List Token) (f : First) → PlacedFirst all f → Spread all (first_spans f) (λ test. met_in_first test f) (first_locals f) (first_entities f) (λ c. first_entities (first_with_cast c f))
of_first all nothing placed = none all []
of_first all (declares l) placed = of_local all l placed
of_first all (does x) placed = of_simple all x placed

without_ends : (P : Declaration → Type 0) (ds : List Declaration) → AllByRecursion P (ds ++ [] ++ []) → AllByRecursion P ds
without_ends P ds h = front P ds [] (front P (ds ++ []) [] h)

-- what is declared in the first of three parts
of_head : (all : List Token) (h : Head) → PlacedHead all h → Spread all (head_spans h) (λ test. met_in_head test h) (first_locals h.first) (head_entities h) (λ c. head_entities (head_with_cast c h))
of_head all h placed =
    let parts = joined (joined (of_first all h.first placed.0) (of_test all h.test placed.1)) (of_step all h.step placed.2) in
    record { few = parts.few; clear = λ from until le follow. without_ends (IsClear from until (λ t. met_in_head (begins_at t) h)) (first_locals h.first) (parts.clear from until le follow); grown = parts.grown }

mutual
  of_statement : (all : List Token) (s : Statement) → PlacedStatement all s
      → Spread all (span_of_statement s ∷ []) (λ test. met_in_statement test s) (locals_in s) (statement_entities s) (λ c. statement_entities (statement_with_cast c s))
  of_statement all (tree.empty s) placed = none all (s ∷ [])
  of_statement all (tree.block s inner) placed = whole (of_statements all inner placed.1) placed.0
  of_statement all (tree.declare s l) placed = whole (of_local all l placed.1) placed.0
  of_statement all (tree.simple s x) placed = whole (of_simple all x placed.1) placed.0
  of_statement all (tree.jump s j) placed = none all (s ∷ [])
  of_statement all (tree.return s e) placed = whole (of_returned all e placed.1) placed.0
  of_statement all (tree.if_then s e a) placed = whole (joined (of_expression all e placed.1) (of_statement all a placed.2)) placed.0
  of_statement all (tree.if_then_else s e a b) placed = whole (joined (joined (of_expression all e placed.1) (of_statement all a placed.2)) (of_statement all b placed.3)) placed.0
  of_statement all (tree.while s e a) placed = whole (joined (of_expression all e placed.1) (of_statement all a placed.2)) placed.0
  of_statement all (tree.for s h a) placed = whole (joined (of_head all h placed.1) (of_statement all a placed.2)) placed.0

  pub of_statements : (all : List Token) (inner : Statements) → PlacedStatements all inner
      → Spread all (statement_spans inner) (λ test. met_in_statements test inner) (locals_in_all inner) (statements_entities inner) (λ c. statements_entities (statements_with_cast c inner))
  of_statements all no_statements placed = none all []
  of_statements all (statement a rest) placed = joined (of_statement all a placed.0) (of_statements all rest placed.1)

-- a function: its result, its parameters, and its body
of_function : (all : List Token) (f : Function) → PlacedItem all (function f)
    → Spread all (f.span ∷ []) (λ test. met_in_statements test f.statements) [] (item_entities (function f)) (λ c. item_entities (item_with_cast c (function f)))
of_function all f placed =
    let low : f.name.site.token ≤ f.name.site.token = omega arith in
    let name : Spread all (point f.name.site ∷ []) (λ test. 0) [] (result_of f ∷ []) (λ c. result_of f ∷ []) = silent (λ c. one_in all c (point f.name.site) (result_of f) low low) in
    let parameters : Spread all (declaration_spans f.parameters) (λ test. 0) [] (map (declared Role.Parameter) f.parameters) (λ c. map (declared Role.Parameter) f.parameters) =
    silent (λ c. all_declared all c Role.Parameter f.parameters placed.3) in
    whole (behind f.result.span (again (λ test. none_more (met_in_statements test f.statements)) (joined (joined name parameters) (forget (whole (of_statements all f.statements placed.5) placed.4))))) placed.0

pub of_item : (all : List Token) (i : Item) → PlacedItem all i → Spread all (span_of_item i ∷ []) (λ test. met_in_item test i) [] (item_entities i) (λ c. item_entities (item_with_cast c i))
of_item all (structure s) placed =
    let fields : List Entity = map (declared Role.Field) s.fields in
    silent (λ c. grown_whole all c s.span (point s.name.site ∷ declaration_spans s.fields) 0 fields fields placed.0
    (grown_behind all c (point s.name.site) (declaration_spans s.fields) 0 fields fields (all_declared all c Role.Field s.fields placed.2)))
of_item all (global g) placed =
    let one : List Entity = declared Role.Global g.declaration ∷ [] in
    silent (λ c. grown_whole all c g.span (g.declaration.span ∷ form_spans g.form) 0 one one placed.0
    (grown_before all c (g.declaration.span ∷ []) (form_spans g.form) 0 one one (one_declared all c Role.Global g.declaration placed.1)))
of_item all (function f) placed = of_function all f placed

pub of_items : (all : List Token) (items : List Item) → PlacedItems all items → Spread all (item_spans items) (λ test. met_in_items test items) [] (entities_in items) (λ c. entities_in (map (item_with_cast c) items))
of_items all [] placed = none all []
of_items all (i ∷ rest) placed = joined (of_item all i placed.0) (of_items all rest placed.1)

-- ---- so

pub begins_once : (all : List Token) (c : Test) (items : List Item) (until : ℕ) → Follow all 0 until (item_spans items) → PlacedItems all items → AtMostOnce c 0 until (met_in_items c.test items)
begins_once all c items until follow placed = (of_items all items placed).few c 0 until (omega arith) follow

pub values_begin_apart : ValuesBeginApart
values_begin_apart p placed token =
    let c : Test = record { token = token; test = begins_at token; begins = λ e is. eqb-true (span_of e).first.token token is } in
    at_most_one c 0 (length p.tokens.list) (met_in_items (begins_at token) p.items) (begins_once p.tokens.list c p.items (length p.tokens.list) placed.follow placed.items)

pub grown_items : (all : List Token) (c : Recast) (items : List Item) (until : ℕ) → Follow all 0 until (item_spans items) → PlacedItems all items
    → Grown c (met_in_items (is_there c) items) 0 until (entities_in items) (entities_in (map (item_with_cast c) items))
grown_items all c items until follow placed = (of_items all items placed).grown c 0 until (omega arith) follow
