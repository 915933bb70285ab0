-- In a tree at its tokens what has a type begins at a token of its own, so it is found by its tokens.
use Rattle.sharc_ctype_laws.proofs.{Imports.{◌≡◌, ℕ, ◌+◌, ◌≤◌, ◌==◌, ◌&&◌, cond, List, [], ◌∷◌, ◌++◌, map, refl, ap, sym, ◌∙◌, subst, arith, Option, Some, None, eq-eqb, ne_eqb, and_from, and_left, cond-false, AllByRecursion, find, Declaration, WrittenType, Mark, a_name, a_cast, name_marks, type_marks, declaration_marks, declarations_marks, marks, arguments_marks, option_marks, right_marks, simple_marks, local_marks, first_marks, head_marks, statement_marks, statements_marks, item_marks, items_marks, expressions, in_arguments, in_option, in_right, in_simple, IsPlaced, Expression, Arguments, no_arguments, argument, Right, value, malloc, Simple, assign, does_call, Local, First, nothing, declares, does, Head, Statement, Statements, no_statements, statement, Item, Program, Role, Entity, Numbered, cast_entity, casts, local_entities, first_entities, head_entities, statement_entities, statements_entities, result_of, item_entities, entities_in, positions_of, numbered_from, is_told_by, Resolution, IsFound, types_in, types_in_arguments, types_in_option, types_in_right, types_in_simple, types_in_local, types_in_first, types_in_head, types_in_statement, types_in_statements, types_in_declarations, types_in_item, types_in_items, IsNamedType, front, back, both, together, first_locals, locals_in, locals_in_all, declarations_of, declarations_in}, Counts.one, OwnTokens.{one_same, times, one_written, none_most, side, behind, before, apart, token_of, found_by_token, HasOwnTokens, own_tokens}, Walked.AreDeclared}
use Rattle.sharc_tree.specs.Marks.{number_of}
use Rattle.sharc_tree.specs.Tree as tree
use Rattle.sharc_ctype.specs.Entities.{declared}

-- ---- what has a type begins at a mark

abbrev start : Entity → ℕ
start e = e.token

headed : (t : ℕ) (e : Entity) (m : Mark) (b : List Entity) (y : List Mark) → e.token ≡ number_of m → times start t b ≤ times number_of t y → times start t (e ∷ b) ≤ times number_of t (m ∷ y)
unfolding times
headed t e m b y is h = let q = ap (one t) is in omega (arith, q, h)

casts-append : (a b : List Expression) → casts (a ++ b) ≡ casts a ++ casts b
casts-append [] b = refl
casts-append (tree.cast s t a ∷ rest) b = ap (λ l. cast_entity s t ∷ l) (casts-append rest b)
casts-append (_ ∷ rest) b = casts-append rest b

-- ---- one walk: what has a type begins at a mark, its type is one that is written, and what is declared has a name there

module _ (P : WrittenType → Type 0) where
  abbrev Q : Entity → Type 0
  Q e = P e.written

  record Stand (es : List Entity) (ms : List Mark) (ws : List WrittenType) (ds : List Declaration) : Type 0 where
    most : (t : ℕ) → times start t es ≤ times number_of t ms
    types : AllByRecursion P ws → AllByRecursion Q es
    names : (t : ℕ) → times token_of t ds ≤ times number_of t ms

  none : {ms : List Mark} {ws : List WrittenType} → Stand [] ms ws []
  none {ms} = record { most = λ t. none_most start t (times number_of t ms); types = λ h. tt; names = λ t. none_most token_of t (times number_of t ms) }

  two : {a b : List Entity} {x y : List Mark} {u v : List WrittenType} {ds es : List Declaration} → Stand a x u ds → Stand b y v es → Stand (a ++ b) (x ++ y) (u ++ v) (ds ++ es)
  two {a} {b} {x} {y} {u} {v} {ds} {es} one more = record {
    most = λ t. side start t a b x y (one.most t) (more.most t);
    types = λ h. both Q a b (one.types (front P u v h)) (more.types (back P u v h));
    names = λ t. side token_of t ds es x y (one.names t) (more.names t);
  }

  -- behind marks, and before marks and types
  after : {b : List Entity} {y : List Mark} {v : List WrittenType} {ds : List Declaration} (x : List Mark) → Stand b y v ds → Stand b (x ++ y) v ds
  after {b} {y} {v} {ds} x h = record { most = λ t. behind start t b x y (h.most t); types = h.types; names = λ t. behind token_of t ds x y (h.names t) }

  ahead : {b : List Entity} {x : List Mark} {u : List WrittenType} {ds : List Declaration} (y : List Mark) (v : List WrittenType) → Stand b x u ds → Stand b (x ++ y) (u ++ v) ds
  ahead {b} {x} {u} {ds} y v h = record { most = λ t. before start t b x y (h.most t); types = λ all. h.types (front P u v all); names = λ t. before token_of t ds x y (h.names t) }

  begins : {b : List Entity} {y : List Mark} {v : List WrittenType} {ds : List Declaration} (e : Entity) (m : Mark) → e.token ≡ number_of m → Stand b y v ds → Stand (e ∷ b) (m ∷ y) (e.written ∷ v) ds
  begins {b} {y} {v} {ds} e m is h = record { most = λ t. headed t e m b y is (h.most t); types = λ all. (all.0, h.types all.1); names = λ t. behind token_of t ds (m ∷ []) y (h.names t) }

  -- of casts among expressions
  two_casts : (a b : List Expression) {x y : List Mark} {u v : List WrittenType} → Stand (casts a) x u [] → Stand (casts b) y v [] → Stand (casts (a ++ b)) (x ++ y) (u ++ v) []
  two_casts a b {x} {y} {u} {v} one more = subst (λ l. Stand l (x ++ y) (u ++ v) []) (sym (casts-append a b)) (two one more)

  mutual
    in_expression : (e : Expression) → Stand (casts (expressions e)) (marks e) (types_in e) []
    in_expression (tree.parentheses s a) = in_expression a
    in_expression (tree.call s f all) = after (name_marks f) (in_all all)
    in_expression (tree.spawn s f a) = after (name_marks f) (in_expression a)
    in_expression (tree.on_value s w a) = in_expression a
    in_expression (tree.on_place s w a) = in_expression a
    in_expression (tree.cast s w a) = begins (cast_entity s w) (a_cast s.first.token) refl (after (type_marks w) (in_expression a))
    in_expression (tree.index s a i) = two_casts (expressions a) (expressions i) (in_expression a) (in_expression i)
    in_expression (tree.field s a w n) = record { most = λ t. before start t (casts (expressions a)) (marks a) (name_marks n) ((in_expression a).most t); types = (in_expression a).types; names = λ t. none_most token_of t (times number_of t (marks a ++ name_marks n)) }
    in_expression (tree.unary s o a) = in_expression a
    in_expression (tree.binary s o at a b) = two_casts (expressions a) (expressions b) (in_expression a) (in_expression b)
    in_expression _ = none

    in_all : (all : Arguments) → Stand (casts (in_arguments all)) (arguments_marks all) (types_in_arguments all) []
    in_all no_arguments = none
    in_all (argument a rest) = two_casts (expressions a) (in_arguments rest) (in_expression a) (in_all rest)

  in_test : (x : Option Expression) → Stand (casts (in_option expressions x)) (option_marks marks x) (types_in_option types_in x) []
  in_test None = none
  in_test (Some e) = in_expression e

  in_right_side : (x : Right) → Stand (casts (in_right x)) (right_marks x) (types_in_right x) []
  in_right_side (value e) = in_expression e
  in_right_side (malloc s n w) = ahead (type_marks w) (w ∷ []) (in_test n)

  in_initial : (x : Option Right) → Stand (casts (in_option in_right x)) (option_marks right_marks x) (types_in_option types_in_right x) []
  in_initial None = none
  in_initial (Some x) = in_right_side x

  in_simple_statement : (x : Simple) → Stand (casts (in_simple x)) (simple_marks x) (types_in_simple x) []
  in_simple_statement (assign s u x) = two_casts (expressions u) (in_right x) (in_expression u) (in_right_side x)
  in_simple_statement (does_call e) = in_expression e

  in_step : (x : Option Simple) → Stand (casts (in_option in_simple x)) (option_marks simple_marks x) (types_in_option types_in_simple x) []
  in_step None = none
  in_step (Some x) = in_simple_statement x

  in_declaration : (where_ : Role) (d : Declaration) → Stand (declared where_ d ∷ []) (declaration_marks d) (d.written ∷ []) (d ∷ [])
  in_declaration where_ d =
      let marked_there : Stand (declared where_ d ∷ []) (declaration_marks d) (d.written ∷ []) [] = after (type_marks d.written) (begins (declared where_ d) (a_name d.name.site.token d.name.text) refl none) in
      record { most = marked_there.most; types = marked_there.types; names = λ t. one_written t d }

  in_declarations : (where_ : Role) (list : List Declaration) → Stand (map (declared where_) list) (declarations_marks list) (types_in_declarations list) list
  in_declarations where_ [] = none
  in_declarations where_ (d ∷ rest) = two (in_declaration where_ d) (in_declarations where_ rest)

  in_local : (l : Local) → Stand (local_entities l) (local_marks l) (types_in_local l) (l.declaration ∷ [])
  in_local l = two (in_declaration Role.Local l.declaration) (in_initial l.initial)

  in_first_part : (f : First) → Stand (first_entities f) (first_marks f) (types_in_first f) (first_locals f)
  in_first_part nothing = none
  in_first_part (declares l) = in_local l
  in_first_part (does x) = in_simple_statement x

  in_head : (h : Head) → Stand (head_entities h) (head_marks h) (types_in_head h) (first_locals h.first)
  in_head h =
      let parts = two (two (in_first_part h.first) (in_test h.test)) (in_step h.step) in
      let first : (t : ℕ) → times token_of t (first_locals h.first) ≤ times number_of t (first_marks h.first ++ option_marks marks h.test) = λ t. before token_of t (first_locals h.first) (first_marks h.first) (option_marks marks h.test) ((in_first_part h.first).names t) in
      record { most = parts.most; types = parts.types; names = λ t. before token_of t (first_locals h.first) (first_marks h.first ++ option_marks marks h.test) (option_marks simple_marks h.step) (first t) }

  mutual
    in_statement : (a : Statement) → Stand (statement_entities a) (statement_marks a) (types_in_statement a) (locals_in a)
    in_statement (tree.block s all) = in_statements all
    in_statement (tree.declare s l) = in_local l
    in_statement (tree.simple s x) = in_simple_statement x
    in_statement (tree.return s e) = in_test e
    in_statement (tree.if_then s e a) = two (in_expression e) (in_statement a)
    in_statement (tree.if_then_else s e a b) = two (two (in_expression e) (in_statement a)) (in_statement b)
    in_statement (tree.while s e a) = two (in_expression e) (in_statement a)
    in_statement (tree.for s h a) = two (in_head h) (in_statement a)
    in_statement _ = none

    in_statements : (all : Statements) → Stand (statements_entities all) (statements_marks all) (types_in_statements all) (locals_in_all all)
    in_statements no_statements = none
    in_statements (statement a rest) = two (in_statement a) (in_statements rest)

  in_item : (i : Item) → Stand (item_entities i) (item_marks i) (types_in_item i) (declarations_of i)
  in_item (tree.structure s) = after (name_marks s.name) (in_declarations Role.Field s.fields)
  in_item (tree.global g) =
      let one = in_declaration Role.Global g.declaration in
      record { most = one.most; types = one.types; names = λ t. none_most token_of t (times number_of t (declaration_marks g.declaration)) }
  in_item (tree.function f) =
      let result : Stand (result_of f ∷ []) (type_marks f.result ++ name_marks f.name) (f.result ∷ []) [] = after (type_marks f.result) (begins (result_of f) (a_name f.name.site.token f.name.text) refl none) in
      two (two result (in_declarations Role.Parameter f.parameters)) (in_statements f.statements)

  in_items : (items : List Item) → Stand (entities_in items) (items_marks items) (types_in_items items) (declarations_in items)
  in_items [] = none
  in_items (i ∷ rest) = two (in_item i) (in_items rest)

at_most_one : (p : Program) → IsPlaced p → (t : ℕ) → times start t (entities_in p.items) ≤ 1
at_most_one p placed t = let e = (in_items (λ w. Unit {0}) p.items).most t in let o = (own_tokens p placed).all t in omega (arith, e, o)

-- so each is found

record FoundIn (k : ℕ) (list : List Entity) (e : Entity) : Type 0 where
  numbered : Numbered
  itself : numbered.entity ≡ e
  found : find (is_told_by e.token e.last) (numbered_from k list) ≡ Some numbered

found_all : (k : ℕ) (list : List Entity) → ((t : ℕ) → times start t list ≤ 1) → AllByRecursion (FoundIn k list) list
unfolding times
found_all k [] once = tt
found_all k (x ∷ rest) once = (
  record {
    numbered = record { entity = x; first = k };
    itself = refl;
    found = ap (λ b. cond b (Some (record { entity = x; first = k })) (find (is_told_by x.token x.last) (numbered_from (k + positions_of x) rest)))
        (and_from (x.token == x.token) (x.last == x.last) (eq-eqb x.token x.token refl) (eq-eqb x.last x.last refl));
  },
  together (λ (e : Entity). x.token ≡ e.token → ⊥) (FoundIn (k + positions_of x) rest) (FoundIn k (x ∷ rest))
      (λ e other w. record {
        numbered = w.numbered;
        itself = w.itself;
        found = cond-false (x.token == e.token && x.last == e.last) (Some (record { entity = x; first = k })) (find (is_told_by e.token e.last) (numbered_from (k + positions_of x) rest))
            (and_left (x.token == e.token) (x.last == e.last) (ne_eqb x.token e.token other)) ∙ w.found;
      })
      rest (apart start x.token rest (let o = once x.token in let s = one_same x.token in omega (arith, o, s)))
      (found_all (k + positions_of x) rest (λ t. let o = once t in omega (arith, o))),
)

pub each_found : (r : Resolution) → IsPlaced r.program → AllByRecursion (IsNamedType r) (types_in_items r.program.items) → AllByRecursion (IsFound r) (entities_in r.program.items)
each_found r placed named =
    together (FoundIn 0 (entities_in r.program.items)) (λ (e : Entity). IsNamedType r e.written) (IsFound r)
    (λ e w n. record { numbered = w.numbered; itself = w.itself; found = w.found; named = n }) (entities_in r.program.items)
    (found_all 0 (entities_in r.program.items) (at_most_one r.program placed)) ((in_items (IsNamedType r) r.program.items).types named)

pub all_declared : (r : Resolution) → HasOwnTokens r.program → AreDeclared r (declarations_in r.program.items)
all_declared r own = found_by_token (declarations_in r.program.items) (λ t. let e = (in_items (λ w. Unit {0}) r.program.items).names t in let o = own.all t in omega (arith, e, o))
