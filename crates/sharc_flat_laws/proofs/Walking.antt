-- Each statement of a typed program suits.
use Rattle.sharc_flat_laws.proofs.{Imports.{◌≡◌, ℕ, Bool, true, false, List, ◌++◌, refl, ap, sym, ◌∙◌, Option, Some, None, IfSome, false≢true, AllByRecursion, Declaration, WrittenType, LowStatement, LowStatements, is_statement, expressions, in_option, in_right, in_simple, in_first, in_statement, in_statements, Expression, Right, value, malloc, Simple, assign, does_call, First, nothing, declares, does, Statement, Statements, no_statements, statement, Scope, Kind, is_pointer, same_kind, declared_kind, Entry, Resolution, kind_at, variable_kind, Around, opened, looping, with_names, declared, behind_first, in_head, after, made, first_locals, locals_in, locals_in_all, Agrees, IsFair, gives, result, transfers, option_transfers, right_transfers, simple_transfers, first_transfers, statement_transfers, statements_transfers, cell_at, pointed, Assignment, row_at, Sharing, NamesFound, HasType, Placing, at, places_in_first, places_in, places_in_all, IsHeld, MeetsRight, MeetsSimple, MeetsFirst, MeetsTest, MeetsReturn, Meets, AllMeet, is_reference, target, Context, Suits, Goes, RightSuits, SimpleSuits, InitialSuits, FirstSuits, TestSuits, IfThere, StatementSuits, StatementsSuit, PathStands, behind_declaration, flat_first, flat_statement, is_declaration, kind_in, LocksAt, LocksOf, FirstLocks, LocalLocks, AllLocalLocks, front, back, both}, Sorts.{integer_yes, pointer_reference, pointer_wanted, goes_to, scalar, declared_reference}, Expressions.{Facts, Stand, target_fits, lefts, no_function_held}, Suiting.{suits, place, first}, Scoped.{Same, Own, Known, stand, with_variable, new_here, path_stands}}
use Rattle.sharc_tree.specs.Tree as tree
use Rattle.sharc_ctype.specs.Transfers.{variable}

abbrev Has : Resolution → Expression → Type 0
Has r e = HasType r e (kind_at r e)

abbrev AreTyped : Resolution → List Expression → Type 0
AreTyped r list = AllByRecursion (Has r) list

abbrev AreKnown : Context → List Placing → Type 0
AreKnown c list = AllByRecursion (Known c) list

made_reference : (want : Kind) (w : WrittenType) → same_kind want (made w) ≡ true → is_reference want ≡ true
made_reference want w h = pointer_reference want (pointer_wanted want (made w) (w.ctype.base, _, refl) h)

right_suits : (c : Context) → Facts c.program → (kind : Kind) (mode : Sharing) (x : Right) → Stand c (in_right x) → MeetsRight c.program.typed x → Agrees c.program.typed kind x → PathStands c.program.typed c.scope mode → RightSuits c kind mode x
right_suits c w kind mode (value e) st m a p = (suits c w e st, goes_to kind _ m a)
right_suits c w kind mode (malloc s None t) st m a p = (made_reference kind t a, p, tt)
right_suits c w kind mode (malloc s (Some e) t) st m a p = (made_reference kind t a, p, (suits c w e st, integer_yes _ m))

simple_suits : (c : Context) → Facts c.program → (x : Simple) → Stand c (in_simple x) → MeetsSimple c.program.typed x → AllByRecursion (IsFair c.program.typed) (simple_transfers c.program.typed x) → SimpleSuits c x
simple_suits c w (assign s u x) st m f =
    let su = front _ (expressions u) (in_right x) st in
    let own = first c u su in (
      place c w u su,
      lefts c (cell_at c.program u) (kind_at c.program.typed u) (target c.program.typed None u) m.1 (target_fits c w u _ own.has m.0 (no_function_held _ m.1) su) own.cell,
      right_suits c w (kind_at c.program.typed u) (pointed c.program (row_at c.program.typed u)) x (back _ (expressions u) (in_right x) st) m.2 f.0 own.row,
    )
simple_suits c w (does_call e) st m f = suits c w e st

test_suits : (c : Context) → Facts c.program → (e : Expression) → Stand c (expressions e) → MeetsTest c.program.typed e → TestSuits c e
test_suits c w e st m = (suits c w e st, scalar _ m)

-- a declaration

initial_suits : (c : Context) → Facts c.program → (scope : Scope) (block : ℕ) → Same c scope.names → (d : Declaration) (x : Option Right) → Own c.program.typed d
    → AreKnown c (at (with_names scope (declared block d scope.names)) (in_option in_right x)) → AreTyped c.program.typed (in_option in_right x)
    → IfSome x (λ y. IsHeld (declared_kind d.written) × MeetsRight c.program.typed y) → AllByRecursion (IsFair c.program.typed) (option_transfers (λ y. gives (variable d) y ++ right_transfers c.program.typed y) x)
    → LocksOf c.program (declared block d scope.names) d → InitialSuits c d x
initial_suits c w scope block same d None own k h m f l = tt
initial_suits c w scope block same d (Some x) own k h m f l =
    let c2 = behind_declaration c d in
    let inner = with_variable c block d scope.names same own in (
      right_suits c2 w (declared_kind d.written) _ x (stand c2 (with_names scope (declared block d scope.names)) inner.names (in_right x) k h) m.1 f.0 (path_stands c2 _ inner.names _ l),
      (new_here c d same.slots own).slot ∙ ap (λ o. Some (is_pointer (variable_kind o))) own.is ∙ ap Some (sym (declared_reference d.written)),
    )

no_declaration : (a : Statement) → is_statement a ≡ true → is_declaration a ≡ false
no_declaration (tree.declare s l) h = absurd (false≢true h)
no_declaration _ h = refl

first_suits : (c : Context) → Facts c.program → (around : Around) (scope : Scope) → Same c scope.names → (x : First) → AllByRecursion (Own c.program.typed) (first_locals x) → AreKnown c (places_in_first around scope x) → AreTyped c.program.typed (in_first x)
    → MeetsFirst c.program.typed x → AllByRecursion (IsFair c.program.typed) (first_transfers c.program.typed x) → FirstLocks c.program around scope.names x → FirstSuits c x
first_suits c w around scope same nothing own k h m f l = tt
first_suits c w around scope same (declares d) own k h m f l = initial_suits c w scope around.block same d.declaration d.initial own.0 k h m f l
first_suits c w around scope same (does x) own k h m f l = simple_suits c w x (stand c scope same.names (in_simple x) k h) m f

behind_head : (c : Context) (around : Around) (names : List Entry) → Same c names → (x : First) → AllByRecursion (Own c.program.typed) (first_locals x) → Same (flat_first c x) (behind_first around names x)
behind_head c around names same (declares l) own = with_variable c around.block l.declaration names same own.0
behind_head c around names same _ own = same

behind_one : (c : Context) (around : Around) (names : List Entry) → Same c names → (a : Statement) → AllByRecursion (Own c.program.typed) (locals_in a) → Same (flat_statement c a) (after around names a)
behind_one c around names same (tree.declare s l) own = with_variable c around.block l.declaration names same own.0
behind_one c around names same _ own = same

tests_suit : (c : Context) → Facts c.program → (e : Option Expression) → Stand c (in_option expressions e) → IfSome e (MeetsTest c.program.typed) → IfThere (TestSuits c) e
tests_suit c w None st m = tt
tests_suit c w (Some e) st m = test_suits c w e st m

step_suits : (c : Context) → Facts c.program → (x : Option Simple) → Stand c (in_option in_simple x) → IfSome x (MeetsSimple c.program.typed) → AllByRecursion (IsFair c.program.typed) (option_transfers (simple_transfers c.program.typed) x) → IfThere (SimpleSuits c) x
step_suits c w None st m f = tt
step_suits c w (Some x) st m f = simple_suits c w x st m f

return_suits : (c : Context) → Facts c.program → (t : WrittenType) (e : Option Expression) → Stand c (in_option expressions e) → MeetsReturn c.program.typed t e
    → AllByRecursion (IsFair c.program.typed) (option_transfers (λ x. gives (result t) (value x) ++ transfers c.program.typed x) e) → IfThere (λ x. Suits c x × Goes (declared_kind t) (kind_in c x)) e
return_suits c w t None st m f = tt
return_suits c w t (Some e) st m f = (suits c w e st, goes_to (declared_kind t) _ m.1 f.0)

-- the program stays the same

first_program : (P : Assignment → Type 0) (c : Context) (x : First) → P c.program → P (flat_first c x).program
first_program P c (does x) h = h
first_program P c _ h = h

statement_program : (P : Assignment → Type 0) (c : Context) (a : Statement) → P c.program → P (flat_statement c a).program
statement_program P c (tree.empty s) h = h
statement_program P c _ h = h

-- what is known of a statement
record Given (m : Assignment) (around : Around) (scope : Scope) (t : WrittenType) (in_loop : Bool) (a : Statement) : Type 0 where
  facts : Facts m
  own : AllByRecursion (Own m.typed) (locals_in a)
  known : AllByRecursion (λ p. NamesFound m.typed p p.expression × LocksAt m p) (places_in around scope a)
  typed : AllByRecursion (λ e. HasType m.typed e (kind_at m.typed e)) (in_statement a)
  meets : Meets m.typed t in_loop a
  low : LowStatement a
  fair : AllByRecursion (IsFair m.typed) (statement_transfers m.typed t a)
  locks : LocalLocks m around scope.names a

pub record AllGiven (m : Assignment) (around : Around) (scope : Scope) (t : WrittenType) (in_loop : Bool) (a : Statements) : Type 0 where
  pub facts : Facts m
  pub own : AllByRecursion (Own m.typed) (locals_in_all a)
  pub known : AllByRecursion (λ p. NamesFound m.typed p p.expression × LocksAt m p) (places_in_all around scope a)
  pub typed : AllByRecursion (λ e. HasType m.typed e (kind_at m.typed e)) (in_statements a)
  pub meets : AllMeet m.typed t in_loop a
  pub low : LowStatements a
  pub fair : AllByRecursion (IsFair m.typed) (statements_transfers m.typed t a)
  pub locks : AllLocalLocks m around scope.names a

mutual
  statement_suits : (c : Context) (around : Around) (scope : Scope) → Same c scope.names → (t : WrittenType) (b : Bool) (a : Statement) → Given c.program around scope t b a → StatementSuits c (declared_kind t) b a
  statement_suits c around scope same t b (tree.empty s) g = tt
  statement_suits c around scope same t b (tree.block s all) g =
      statements_suit c (opened around scope.names) scope same t b all (record { facts = g.facts; own = g.own; known = g.known; typed = g.typed; meets = g.meets; low = g.low; fair = g.fair; locks = g.locks })
  statement_suits c around scope same t b (tree.declare s l) g = initial_suits c g.facts scope around.block same l.declaration l.initial g.own.0 g.known g.typed g.meets g.fair g.locks
  statement_suits c around scope same t b (tree.simple s x) g = simple_suits c g.facts x (stand c scope same.names (in_simple x) g.known g.typed) g.meets g.fair
  statement_suits c around scope same t b (tree.jump s j) g = g.meets
  statement_suits c around scope same t b (tree.return s e) g = return_suits c g.facts t e (stand c scope same.names (in_option expressions e) g.known g.typed) g.meets g.fair
  statement_suits c around scope same t b (tree.if_then s e a) g =
      let r = c.program.typed in (
        test_suits c g.facts e (stand c scope same.names (expressions e) (front _ (at scope (expressions e)) (places_in (opened around scope.names) scope a) g.known) (front _ (expressions e) (in_statement a) g.typed)) g.meets.0,
        statement_suits c (opened around scope.names) scope same t b a
            (record {
              facts = g.facts;
              own = g.own;
              known = back _ (at scope (expressions e)) (places_in (opened around scope.names) scope a) g.known;
              typed = back _ (expressions e) (in_statement a) g.typed;
              meets = g.meets.1;
              low = g.low.2;
              fair = back _ (transfers r e) (statement_transfers r t a) g.fair;
              locks = g.locks;
            }),
        no_declaration a g.low.1,
      )
  statement_suits c around scope same t b (tree.if_then_else s e a z) g =
      let r = c.program.typed in
      let o = opened around scope.names in
      let k = front _ (at scope (expressions e) ++ places_in o scope a) (places_in o scope z) g.known in
      let y = front _ (expressions e ++ in_statement a) (in_statement z) g.typed in
      let f = front _ (transfers r e ++ statement_transfers r t a) (statement_transfers r t z) g.fair in (
        test_suits c g.facts e (stand c scope same.names (expressions e) (front _ (at scope (expressions e)) (places_in o scope a) k) (front _ (expressions e) (in_statement a) y)) g.meets.0,
        statement_suits c o scope same t b a
            (record {
              facts = g.facts;
              own = front _ (locals_in a) (locals_in z) g.own;
              known = back _ (at scope (expressions e)) (places_in o scope a) k;
              typed = back _ (expressions e) (in_statement a) y;
              meets = g.meets.1;
              low = g.low.2;
              fair = back _ (transfers r e) (statement_transfers r t a) f;
              locks = g.locks.0;
            }),
        statement_suits c o scope same t b z
            (record {
              facts = g.facts;
              own = back _ (locals_in a) (locals_in z) g.own;
              known = back _ (at scope (expressions e) ++ places_in o scope a) (places_in o scope z) g.known;
              typed = back _ (expressions e ++ in_statement a) (in_statement z) g.typed;
              meets = g.meets.2;
              low = g.low.4;
              fair = back _ (transfers r e ++ statement_transfers r t a) (statement_transfers r t z) g.fair;
              locks = g.locks.1;
            }),
        no_declaration a g.low.1,
        no_declaration z g.low.3,
      )
  statement_suits c around scope same t b (tree.while s e a) g =
      let r = c.program.typed in
      let o = looping (opened around scope.names) in (
        test_suits c g.facts e (stand c scope same.names (expressions e) (front _ (at scope (expressions e)) (places_in o scope a) g.known) (front _ (expressions e) (in_statement a) g.typed)) g.meets.0,
        statement_suits c o scope same t true a
            (record {
              facts = g.facts;
              own = g.own;
              known = back _ (at scope (expressions e)) (places_in o scope a) g.known;
              typed = back _ (expressions e) (in_statement a) g.typed;
              meets = g.meets.1;
              low = g.low.2;
              fair = back _ (transfers r e) (statement_transfers r t a) g.fair;
              locks = g.locks;
            }),
        no_declaration a g.low.1,
      )
  statement_suits c around scope same t b (tree.for s h a) g =
      let r = c.program.typed in
      let o = opened around scope.names in
      let inner = in_head o scope h in
      let o2 = looping (opened around (behind_first o scope.names h.first)) in
      let c2 = flat_first c h.first in
      let own = front _ (first_locals h.first) (locals_in a) g.own in
      let same2 = behind_head c o scope.names same h.first own in
      let k = front _ (places_in_first o scope h.first ++ at inner (in_option expressions h.test ++ in_option in_simple h.step)) (places_in o2 inner a) g.known in
      let y = front _ (in_first h.first ++ in_option expressions h.test ++ in_option in_simple h.step) (in_statement a) g.typed in
      let y1 = front _ (in_first h.first ++ in_option expressions h.test) (in_option in_simple h.step) y in
      let f = front _ (first_transfers r h.first ++ option_transfers (transfers r) h.test ++ option_transfers (simple_transfers r) h.step) (statement_transfers r t a) g.fair in
      let f1 = front _ (first_transfers r h.first ++ option_transfers (transfers r) h.test) (option_transfers (simple_transfers r) h.step) f in
      let rest = both _ (in_option expressions h.test) (in_option in_simple h.step) (back _ (in_first h.first) (in_option expressions h.test) y1) (back _ (in_first h.first ++ in_option expressions h.test) (in_option in_simple h.step) y) in
      let w2 = first_program Facts c h.first g.facts in
      let st = stand c2 inner same2.names (in_option expressions h.test ++ in_option in_simple h.step)
      (first_program (λ m. AllByRecursion (λ p. NamesFound m.typed p p.expression × LocksAt m p) (at inner (in_option expressions h.test ++ in_option in_simple h.step))) c h.first
      (back _ (places_in_first o scope h.first) (at inner (in_option expressions h.test ++ in_option in_simple h.step)) k))
      (first_program (λ m. AllByRecursion (λ e. HasType m.typed e (kind_at m.typed e)) (in_option expressions h.test ++ in_option in_simple h.step)) c h.first rest) in (
        first_suits c g.facts o scope same h.first own (front _ (places_in_first o scope h.first) (at inner (in_option expressions h.test ++ in_option in_simple h.step)) k) (front _ (in_first h.first) (in_option expressions h.test) y1) g.meets.0.0
            (front _ (first_transfers r h.first) (option_transfers (transfers r) h.test) f1) g.locks.0,
        tests_suit c2 w2 h.test (front _ (in_option expressions h.test) (in_option in_simple h.step) st) (first_program (λ m. IfSome h.test (MeetsTest m.typed)) c h.first g.meets.0.1),
        step_suits c2 w2 h.step (back _ (in_option expressions h.test) (in_option in_simple h.step) st) (first_program (λ m. IfSome h.step (MeetsSimple m.typed)) c h.first g.meets.0.2)
            (first_program (λ m. AllByRecursion (IsFair m.typed) (option_transfers (simple_transfers m.typed) h.step)) c h.first (back _ (first_transfers r h.first ++ option_transfers (transfers r) h.test) (option_transfers (simple_transfers r) h.step) f)),
        statement_suits c2 o2 inner same2 t true a
            (first_program (λ m. Given m o2 inner t true a) c h.first
            (record {
              facts = g.facts;
              own = back _ (first_locals h.first) (locals_in a) g.own;
              known = back _ (places_in_first o scope h.first ++ at inner (in_option expressions h.test ++ in_option in_simple h.step)) (places_in o2 inner a) g.known;
              typed = back _ (in_first h.first ++ in_option expressions h.test ++ in_option in_simple h.step) (in_statement a) g.typed;
              meets = g.meets.1;
              low = g.low.2;
              fair = back _ (first_transfers r h.first ++ option_transfers (transfers r) h.test ++ option_transfers (simple_transfers r) h.step) (statement_transfers r t a) g.fair;
              locks = g.locks.1;
            })),
        no_declaration a g.low.1,
      )

  pub statements_suit : (c : Context) (around : Around) (scope : Scope) → Same c scope.names → (t : WrittenType) (b : Bool) (a : Statements) → AllGiven c.program around scope t b a → StatementsSuit c (declared_kind t) b a
  statements_suit c around scope same t b no_statements g = tt
  statements_suit c around scope same t b (statement a rest) g =
      let r = c.program.typed in
      let inner = with_names scope (after around scope.names a) in
      let own = front _ (locals_in a) (locals_in_all rest) g.own in (
        statement_suits c around scope same t b a
            (record {
              facts = g.facts;
              own = own;
              known = front _ (places_in around scope a) (places_in_all around inner rest) g.known;
              typed = front _ (in_statement a) (in_statements rest) g.typed;
              meets = g.meets.0;
              low = g.low.0;
              fair = front _ (statement_transfers r t a) (statements_transfers r t rest) g.fair;
              locks = g.locks.0;
            }),
        statements_suit (flat_statement c a) around inner (behind_one c around scope.names same a own) t b rest
            (statement_program (λ m. AllGiven m around inner t b rest) c a
            (record {
              facts = g.facts;
              own = back _ (locals_in a) (locals_in_all rest) g.own;
              known = back _ (places_in around scope a) (places_in_all around inner rest) g.known;
              typed = back _ (in_statement a) (in_statements rest) g.typed;
              meets = g.meets.1;
              low = g.low.1;
              fair = back _ (statement_transfers r t a) (statements_transfers r t rest) g.fair;
              locks = g.locks.1;
            })),
      )
