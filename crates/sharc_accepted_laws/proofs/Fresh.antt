-- No two variables of a function are declared at one token: where a local is declared, no variable with its token stands.
use Rattle.sharc_accepted_laws.proofs.{Imports.{◌≡◌, ℕ, ◌+◌, ◌<◌, ◌≤◌, ◌==◌, Bool, true, false, cond, List, [], ◌∷◌, ◌++◌, refl, sym, subst, arith, eqb-true, Some, None, AllByRecursion, Span, Token, Declaration, Follow, declaration_spans, first_spans, option_spans, statement_spans, PlacedDeclaration, PlacedDeclarations, PlacedLocal, PlacedFirst, PlacedStatement, PlacedStatements, PlacedItem, PlacedItems, span_of, span_of_simple, span_of_statement, Local, First, nothing, declares, does, Statement, Statements, no_statements, statement, Function, Item, structure, global, function, functions_in, Slot, with_variable, flat_behind_first as behind_first, behind_statement, parameters_scope, Context, slot_of, slot_kind, both, each}, Owners.named_within}
use Rattle.sharc_tree.specs.Tree as tree

-- ---- in each statement
abbrev pub LocalFresh : Context → Local → Type 0
LocalFresh c l = slot_kind c.scope l.declaration.name.site.token ≡ None

abbrev pub FirstFresh : Context → First → Type 0
FirstFresh c (declares l) = LocalFresh c l
FirstFresh c _ = Unit {0}

abbrev mutual
  pub StatementFresh : Context → Statement → Type 0
  StatementFresh c (tree.block s all) = StatementsFresh c all
  StatementFresh c (tree.declare s l) = LocalFresh c l
  StatementFresh c (tree.if_then s e a) = StatementFresh c a
  StatementFresh c (tree.if_then_else s e a b) = StatementFresh c a × StatementFresh c b
  StatementFresh c (tree.while s e a) = StatementFresh c a
  StatementFresh c (tree.for s h a) = FirstFresh c h.first × StatementFresh (behind_first c h.first) a
  StatementFresh c _ = Unit {0}

  pub StatementsFresh : Context → Statements → Type 0
  StatementsFresh c no_statements = Unit {0}
  StatementsFresh c (statement a rest) = StatementFresh c a × StatementsFresh (behind_statement c a) rest

-- ---- tokens
-- the variables that stand were declared before this token
abbrev Below : ℕ → List Slot → Type 0
Below k scope = AllByRecursion (λ (s : Slot). s.token < k) scope

raised : (k n : ℕ) → k ≤ n → (scope : List Slot) → Below k scope → Below n scope
raised k n low scope h = each (λ (s : Slot). s.token < k) (λ (s : Slot). s.token < n) (λ s below. omega (arith, low, below)) scope h

fresh_below : (k t : ℕ) → k ≤ t → (scope : List Slot) → Below k scope → slot_kind scope t ≡ None
fresh_below k t low [] h = refl
fresh_below k t low (x ∷ rest) h = by (x.token == t) refl (fresh_below k t low rest h.1)
  where
    by : (b : Bool) → (x.token == t) ≡ b → slot_kind rest t ≡ None → cond b (Some x.is_pointer) (slot_kind rest t) ≡ None
    by true is later = let e = eqb-true x.token t is in let below = h.0 in absurd (omega (arith, e, below, low))
    by false is later = later

-- what follows others begins behind where they begin
last_follows : (all : List Token) (from until : ℕ) (xs : List Span) (b : Span) → Follow all from until (xs ++ b ∷ []) → from ≤ b.first.token
last_follows all from until [] b h = h.1
last_follows all from until (x ∷ xs) b (span, first, _, follow) = omega (arith, span.order, first, last_follows all (x.last.token + 1) until xs b follow)

module _ (all : List Token) where
  record Between (from until : ℕ) (l : Local) : Type 0 where
    low : from ≤ l.declaration.name.site.token
    high : l.declaration.name.site.token < until

  declared_between : (d : Declaration) → PlacedDeclaration all d → (d.span.first.token ≤ d.name.site.token) × (d.name.site.token < d.span.last.token + 1)
  declared_between d p = let w = named_within all d p in (w.0, omega (arith, w.1))

  local_between : (l : Local) → PlacedLocal all l → Between l.span.first.token (l.span.last.token + 1) l
  local_between l ((_, (_, from, until, _)), p, _) = let d = declared_between l.declaration p in record { low = omega (arith, from, d.0); high = omega (arith, until, d.1) }

  -- one variable more
  with_local : (k n : ℕ) (c : Context) (l : Local) → k ≤ n → Below k c.scope → l.declaration.name.site.token < n → Below n (c.scope ++ slot_of l.declaration ∷ [])
  with_local k n c l low below high = both (λ (s : Slot). s.token < n) c.scope (slot_of l.declaration ∷ []) (raised k n low c.scope below) (high, tt)

  fresh_local : (k : ℕ) (c : Context) (l : Local) → Below k c.scope → k ≤ l.span.first.token → PlacedLocal all l → LocalFresh c l
  fresh_local k c l below low p = fresh_below k l.declaration.name.site.token (omega (arith, low, (local_between l p).low)) c.scope below

  -- the head of a loop and its body
  fresh_loop : (k from until : ℕ) (c : Context) (x : First) (tests steps : List Span) (a : Statement) → Below k c.scope → k ≤ from → Follow all from until (((first_spans x ++ tests) ++ steps) ++ span_of_statement a ∷ [])
      → PlacedFirst all x → ((n : ℕ) (d : Context) → Below n d.scope → n ≤ (span_of_statement a).first.token → StatementFresh d a) → FirstFresh c x × StatementFresh (behind_first c x) a
  fresh_loop k from until c nothing tests steps a below low f q body = (tt, body k c below (omega (arith, low, last_follows all from until (tests ++ steps) (span_of_statement a) f)))
  fresh_loop k from until c (declares l) tests steps a below low (span, first, _, follow) q body = (
    fresh_local k c l below (omega (arith, first, low)) q,
    body (l.span.last.token + 1) (with_variable c l.declaration) (with_local k (l.span.last.token + 1) c l (omega (arith, first, low, span.order)) below (local_between l q).high) (last_follows all (l.span.last.token + 1) until (tests ++ steps) (span_of_statement a) follow),
  )
  fresh_loop k from until c (does x) tests steps a below low f q body = (tt, body k c below (omega (arith, low, last_follows all from until (span_of_simple x ∷ (tests ++ steps)) (span_of_statement a) f)))

  mutual
    fresh_statement : (k : ℕ) (c : Context) (a : Statement) → Below k c.scope → k ≤ (span_of_statement a).first.token → PlacedStatement all a → StatementFresh c a
    fresh_statement k c (tree.block s inner) below low p = fresh_statements s.first.token (s.last.token + 1) c inner (raised k s.first.token low c.scope below) p.0.1 p.1
    fresh_statement k c (tree.declare s l) below low ((_, (_, first, _, _)), p) = fresh_local k c l below (omega (arith, first, low)) p
    fresh_statement k c (tree.if_then s e a) below low ((_, follow), _, p) = fresh_statement k c a below (omega (arith, low, last_follows all s.first.token (s.last.token + 1) (span_of e ∷ []) (span_of_statement a) follow)) p
    fresh_statement k c (tree.if_then_else s e a b) below low ((_, follow), _, p, q) = (
      fresh_statement k c a below (omega (arith, follow.0.order, follow.1, follow.3.1, low)) p,
      fresh_statement k c b below (omega (arith, low, last_follows all s.first.token (s.last.token + 1) (span_of e ∷ span_of_statement a ∷ []) (span_of_statement b) follow)) q,
    )
    fresh_statement k c (tree.while s e a) below low ((_, follow), _, p) = fresh_statement k c a below (omega (arith, low, last_follows all s.first.token (s.last.token + 1) (span_of e ∷ []) (span_of_statement a) follow)) p
    fresh_statement k c (tree.for s h a) below low p = fresh_loop k s.first.token (s.last.token + 1) c h.first (option_spans span_of h.test) (option_spans span_of_simple h.step) a below low p.0.1 p.1.0 (λ n d b2 low2. fresh_statement n d a b2 low2 p.2)
    fresh_statement k c _ below low p = tt

    fresh_statements : (k until : ℕ) (c : Context) (a : Statements) → Below k c.scope → Follow all k until (statement_spans a) → PlacedStatements all a → StatementsFresh c a
    fresh_statements k until c no_statements below f p = tt
    fresh_statements k until c (statement a rest) below f p =
        (fresh_statement k c a below f.1 p.0, fresh_statements ((span_of_statement a).last.token + 1) until (behind_statement c a) rest (after k c a below f.1 f.0.order p.0) f.3 p.1)

    -- behind a statement
    after : (k : ℕ) (c : Context) (a : Statement) → Below k c.scope → k ≤ (span_of_statement a).first.token → (span_of_statement a).first.token ≤ (span_of_statement a).last.token → PlacedStatement all a
        → Below ((span_of_statement a).last.token + 1) (behind_statement c a).scope
    after k c (tree.declare s l) below low order ((_, (_, _, inner, _)), p) = with_local k (s.last.token + 1) c l (omega (arith, low, order)) below (omega (arith, inner, (local_between l p).high))
    after k c a below low order p = raised k ((span_of_statement a).last.token + 1) (omega (arith, low, order)) c.scope below

  -- ---- functions
  parameters_below : (from until : ℕ) (ds : List Declaration) (b : Span) → Follow all from until (declaration_spans ds ++ b ∷ []) → PlacedDeclarations all ds → Below b.first.token (parameters_scope ds)
  parameters_below from until [] b f p = tt
  parameters_below from until (d ∷ rest) b (_, _, _, follow) p =
      (omega (arith, (declared_between d p.0).1, last_follows all (d.span.last.token + 1) until (declaration_spans rest) b follow), parameters_below (d.span.last.token + 1) until rest b follow p.1)

  fresh_function : (f : Function) → PlacedItem all (function f) → (c : Context) → c.scope ≡ parameters_scope f.parameters → StatementsFresh c f.statements
  fresh_function f p c is =
      fresh_statements f.body.first.token (f.body.last.token + 1) c f.statements
      (subst (Below f.body.first.token) (sym is) (parameters_below (f.name.site.token + 1) (f.span.last.token + 1) f.parameters f.body p.0.1.3.3 p.3)) p.4.1 p.5

  pub fresh_functions : (items : List Item) → PlacedItems all items → AllByRecursion (λ f. (c : Context) → c.scope ≡ parameters_scope f.parameters → StatementsFresh c f.statements) (functions_in items)
  fresh_functions [] p = tt
  fresh_functions (structure s ∷ rest) p = fresh_functions rest p.1
  fresh_functions (global g ∷ rest) p = fresh_functions rest p.1
  fresh_functions (function f ∷ rest) p = (fresh_function f p.0, fresh_functions rest p.1)
