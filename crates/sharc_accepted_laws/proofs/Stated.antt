-- Statements.
use Rattle.sharc_accepted_laws.proofs.{Imports.{declared_reference, ◌≡◌, ℕ, Bool, true, false, cond, List, ◌++◌, refl, ap, sym, ◌∙◌, subst, Option, Some, None, IfSome, Contains, AllByRecursion, Span, LowSimple, LowFirst, LowStatement, LowStatements, expressions, in_option, in_simple, in_local, in_first, in_head, in_statement, in_statements, in_function, Expression, Right, value, Simple, assign, does_call, Local, First, nothing, declares, does, Statement, Statements, no_statements, statement, Function, Named, Kind, is_integer, declared_kind, Transfer, variable, result, Agrees, IsFair, gives, transfers, option_transfers, right_transfers, simple_transfers, local_transfers, first_transfers, statement_transfers, statements_transfers, function_transfers, IsItself, MeetsSimple, MeetsFirst, Meets, AllMeet, is_reference, Assignment, IsAssigned, locals_in_first, locals_in, kind_of, parameters_scope, context_in as at_entry, flat_behind_first as behind_first, behind_statement, Context, Suits, SimpleSuits, InitialSuits, FirstSuits, TestSuits, IfThere, StatementSuits, StatementsSuit, suits_first, suits_statement, Empty, Refers, Signature, Setting, SimpleTypable, ReturnedBy, ReturnTypable, TestTypable, StepTypable, DeclaredTypable, FirstTypable, StatementTypable, StatementsTypable, ResultLaws, ExpressionsStand, LocalStands, FirstStands, StatementStands, StatementsStand, result_type, VariablesFound, typing, function_signature, signature_by, IsPlaceIn, IsThere, AreExpressionsTypable, front, back}, Assigned.{Laws, function_there, at_there, SimpleGiven, simple_is}, Begun.{IsBegun, here_with, local_is}, Fresh.{LocalFresh, FirstFresh, StatementFresh, StatementsFresh}, Sorts.integer_want, Wholes.Facts, Forms.{integer_no_reference as integer_is}}
use Rattle.sharc_tree.specs.Tree as tree
use Rattle.sharc_check.specs.Constructs.{locals_in_all}
use Rattle.sharc_flat.specs.Suits.{Goes}

-- ---- contexts
same_first : (c : Context) (x : First) → suits_first c x ≡ behind_first c x
same_first c (does x) = refl
same_first c _ = refl

same_behind : (c : Context) (a : Statement) → suits_statement c a ≡ behind_statement c a
same_behind c (tree.empty s) = refl
same_behind c _ = refl

-- the program stays the same
first_program : (P : Assignment → Type 0) (c : Context) (x : First) → P c.program → P (behind_first c x).program
first_program P c (does x) h = h
first_program P c _ h = h

statement_program : (P : Assignment → Type 0) (c : Context) (a : Statement) → P c.program → P (behind_statement c a).program
statement_program P c (tree.empty s) h = h
statement_program P c _ h = h

-- ---- what is known of the parts of a function
module _ (g : Function) (m : Assignment) where
  abbrev pub Inside : List Expression → Type 0
  Inside list = AllByRecursion (Contains (in_function g)) list

  pub record Does (t : Transfer) : Type 0 where
    pub among : Contains (function_transfers m.typed g) t
    pub fair : IsFair m.typed t

  pub record Own (l : Local) : Type 0 where
    pub among : Contains (locals_in_all g.statements) l
    pub itself : IsItself m.typed Named.Variable l.declaration

  pub record Given (looped : Bool) (a : Statement) : Type 0 where
    pub inside : AllByRecursion (Contains (in_function g)) (in_statement a)
    pub meets : Meets m.typed g.result looped a
    pub low : LowStatement a
    pub transfers : AllByRecursion Does (statement_transfers m.typed g.result a)
    pub locals : AllByRecursion Own (locals_in a)

  pub record AllGiven (looped : Bool) (a : Statements) : Type 0 where
    pub inside : AllByRecursion (Contains (in_function g)) (in_statements a)
    pub meets : AllMeet m.typed g.result looped a
    pub low : LowStatements a
    pub transfers : AllByRecursion Does (statements_transfers m.typed g.result a)
    pub locals : AllByRecursion Own (locals_in_all a)

module _ (laws : Laws) (results : ResultLaws) (variables : VariablesFound) (z : Setting) (alone : ℕ → Bool) (n : ℕ) (g : Function) (typable : AreExpressionsTypable z alone n g)
    (facts : (c : Context) → IsPlaceIn z alone n g c → Facts c.program.typed g) where
  abbrev Here : Context → Type 0
  Here c = IsPlaceIn z alone n g c

  abbrev kind : Kind
  kind = declared_kind g.result

  -- ---- simple statements
  simple_given : (c : Context) (x : Simple) → Inside g c.program (in_simple x) → ExpressionsStand c (in_simple x) → AllByRecursion (Does g c.program) (simple_transfers c.program.typed x) → (h : Here c) → SimpleGiven laws z alone n g typable c h x
  simple_given c (assign s u y) inside stands acts h = record {
    inside = inside;
    stands = stands;
    does = λ u2 y2 s2 is. by u2 y2 s2 is;
  }
    where
      by : (u2 : Expression) (y2 : Right) (s2 : Span) → assign s u y ≡ assign s2 u2 y2 → IsAssigned c.program u2 y2 × Agrees c.program.typed (kind_of c u2) y2
      by u2 y2 s2 is =
          let same_u : u ≡ u2 = cc in
          let same_y : y ≡ y2 = cc in
          subst (λ v. IsAssigned c.program v y2 × Agrees c.program.typed (kind_of c v) y2) same_u
          (subst (λ v. IsAssigned c.program u v × Agrees c.program.typed (kind_of c u) v) same_y
          (record { owner = g; stands = function_there z alone n g c h; does = acts.0.among }, acts.0.fair))
  simple_given c (does_call e) inside stands acts h = record { inside = inside; stands = stands; does = λ u2 y2 s2 is. absurd (let k : does_call e ≡ assign s2 u2 y2 = is in cc) }

  simple_typable : (c : Context) → Here c → (x : Simple) → Inside g c.program (in_simple x) → ExpressionsStand c (in_simple x) → AllByRecursion (Does g c.program) (simple_transfers c.program.typed x) → MeetsSimple c.program.typed x → LowSimple x → SimpleSuits c x → SimpleTypable z n typing c x
  simple_typable c h x inside stands acts meets low suits = simple_is laws z alone n g typable c h (facts c h) x (simple_given c x inside stands acts h) meets low suits

  -- ---- tests
  test_typable : (c : Context) → Here c → (e : Expression) → Inside g c.program (expressions e) → ExpressionsStand c (expressions e) → TestSuits c e → TestTypable z n typing c (Some e)
  test_typable c h e inside stands suits =
      let there : IsThere g c e = record { inside = inside; stands = stands } in
      (typable.value c h e there suits.0 (λ l. suits.1), laws.values.values z n c h.set.accepted e (at_there z alone n g c h e there) suits.1)

  test_option : (c : Context) → Here c → (e : Option Expression) → Inside g c.program (in_option expressions e) → ExpressionsStand c (in_option expressions e) → IfThere (TestSuits c) e → TestTypable z n typing c e
  test_option c h None inside stands suits = tt
  test_option c h (Some e) inside stands suits = test_typable c h e inside stands suits

  step_option : (c : Context) → Here c → (x : Option Simple) → Inside g c.program (in_option in_simple x) → ExpressionsStand c (in_option in_simple x) → AllByRecursion (Does g c.program) (option_transfers (simple_transfers c.program.typed) x)
      → IfSome x (MeetsSimple c.program.typed) → IfSome x LowSimple → IfThere (SimpleSuits c) x → StepTypable z n typing c x
  step_option c h None inside stands acts meets low suits = tt
  step_option c h (Some x) inside stands acts meets low suits = simple_typable c h x inside stands acts meets low suits

  -- ---- returns
  pub signature_is : (c : Context) → Here c → z.signature n ≡ function_signature (at_entry c.program c.globals g) (alone n) g
  signature_is c h = ap (λ (x : Setting). x.signature n) h.setting ∙ ap (signature_by c.program c.globals (alone n)) h.function

  pub result_is : (c : Context) → Here c → is_reference kind ≡ true → (z.signature n).result ≡ Refers (result_type c g)
  result_is c h ref =
      ap (λ (x : Signature). x.result) (signature_is c h) ∙ ap (λ b. cond b (Refers (result_type (at_entry c.program c.globals g) g)) Empty) ref
      ∙ ap Refers (results.stay c h.set.accepted g (function_there z alone n g c h) (parameters_scope g.parameters) c.scope)

  return_typable : (c : Context) → Here c → (e : Option Expression) → Inside g c.program (in_option expressions e) → ExpressionsStand c (in_option expressions e)
      → AllByRecursion (Does g c.program) (option_transfers (λ x. gives (result g.result) (value x) ++ transfers c.program.typed x) e) → IfThere (λ x. Suits c x × Goes kind (kind_of c x)) e → ReturnTypable z n typing c kind e
  return_typable c h None inside stands acts suits = tt
  return_typable c h (Some e) inside stands acts suits =
      (typable.value c h e (record { inside = inside; stands = stands }) suits.0 (λ l no. suits.1.1 (sym suits.1.0 ∙ no)), by (is_reference kind) refl)
    where
      by : (b : Bool) → is_reference kind ≡ b → ReturnedBy z n typing c kind e b
      by true is = (suits.1.0 ∙ is, (result_type c g, laws.given.returned c h.set.accepted g e (function_there z alone n g c h) acts.0.among (sym (declared_reference g.result) ∙ is), result_is c h is))
      by false is = let number : is_integer (kind_of c e) ≡ true = suits.1.1 is in ((integer_is (kind_of c e) number, number), integer_want kind (kind_of c e) acts.0.fair number)

  -- ---- locals
  declared_typable : (c : Context) → Here c → (l : Local) → Inside g c.program (in_local l) → LocalStands c l → AllByRecursion (Does g c.program) (local_transfers c.program.typed l) → Own g c.program l → LocalFresh c l → InitialSuits c l.declaration l.initial
      → DeclaredTypable z n typing c l
  declared_typable c h l inside stands acts own fresh suits = local_is laws variables z alone n g typable c h l stands own.itself fresh own.among inside (begun l.initial acts) suits
    where
      begun : (x : Option Right) → AllByRecursion (Does g c.program) (option_transfers (λ y. gives (variable l.declaration) y ++ right_transfers c.program.typed y) x) → IfSome x (IsBegun c.program g l.declaration)
      begun None all = tt
      begun (Some y) all = (all.0.fair, all.0.among)

  first_typable : (c : Context) → Here c → (x : First) → Inside g c.program (in_first x) → FirstStands c x → AllByRecursion (Does g c.program) (first_transfers c.program.typed x) → AllByRecursion (Own g c.program) (locals_in_first x)
      → MeetsFirst c.program.typed x → LowFirst x → FirstFresh c x → FirstSuits c x → FirstTypable z n typing c x
  first_typable c h nothing inside stands acts own meets low fresh suits = tt
  first_typable c h (declares l) inside stands acts own meets low fresh suits = declared_typable c h l inside stands acts own.0 fresh suits
  first_typable c h (does x) inside stands given own meets low fresh suits = simple_typable c h x inside stands given meets low suits

  here_first : (c : Context) → Here c → (x : First) → FirstStands c x → Here (behind_first c x)
  here_first c h (declares l) stands = here_with laws z alone n g c h l stands
  here_first c h _ stands = h

  here_behind : (c : Context) → Here c → (a : Statement) → StatementStands c a → Here (behind_statement c a)
  here_behind c h (tree.declare s l) stands = here_with laws z alone n g c h l stands
  here_behind c h _ stands = h

  -- ---- statements
  -- of what stands behind a test
  behind_test : (c : Context) (looped : Bool) (e : Expression) (a : Statement) → AllByRecursion (Contains (in_function g)) (expressions e ++ in_statement a) → Meets c.program.typed g.result looped a → LowStatement a
      → AllByRecursion (Does g c.program) (transfers c.program.typed e ++ statement_transfers c.program.typed g.result a) → AllByRecursion (Own g c.program) (locals_in a) → Given g c.program looped a
  behind_test c looped e a inside meets low moves locals = record {
    inside = back (Contains (in_function g)) (expressions e) (in_statement a) inside;
    meets = meets;
    low = low;
    transfers = back (Does g c.program) (transfers c.program.typed e) (statement_transfers c.program.typed g.result a) moves;
    locals = locals;
  }

  mutual
    pub statement_is : (c : Context) → Here c → (looped : Bool) (a : Statement) → StatementStands c a → StatementFresh c a → StatementSuits c kind looped a → Given g c.program looped a → StatementTypable z n typing c kind looped a
    statement_is c h looped (tree.empty s) stands fresh suits given = tt
    statement_is c h looped (tree.block s all) stands fresh suits given = statements_are c h looped all stands fresh suits (record { inside = given.inside; meets = given.meets; low = given.low; transfers = given.transfers; locals = given.locals })
    statement_is c h looped (tree.declare s l) stands fresh suits given = declared_typable c h l given.inside stands given.transfers given.locals.0 fresh suits
    statement_is c h looped (tree.simple s x) stands fresh suits given = simple_typable c h x given.inside stands given.transfers given.meets given.low suits
    statement_is c h looped (tree.jump s j) stands fresh suits given = suits
    statement_is c h looped (tree.return s e) stands fresh suits given = return_typable c h e given.inside stands given.transfers suits
    statement_is c h looped (tree.if_then s e a) stands fresh suits given = (
      test_typable c h e (front (Contains (in_function g)) (expressions e) (in_statement a) given.inside) stands.0 suits.0,
      statement_is c h looped a stands.1 fresh suits.1 (behind_test c looped e a given.inside given.meets.1 given.low.2 given.transfers given.locals),
      suits.2,
    )
    statement_is c h looped (tree.if_then_else s e a b) stands fresh suits given =
        let r = c.program.typed in
        let inside_front = front (Contains (in_function g)) (expressions e ++ in_statement a) (in_statement b) given.inside in
        let transfers_front = front (Does g c.program) (transfers r e ++ statement_transfers r g.result a) (statement_transfers r g.result b) given.transfers in (
          test_typable c h e (front (Contains (in_function g)) (expressions e) (in_statement a) inside_front) stands.0 suits.0,
          statement_is c h looped a stands.1 fresh.0 suits.1 (behind_test c looped e a inside_front given.meets.1 given.low.2 transfers_front (front (Own g c.program) (locals_in a) (locals_in b) given.locals)),
          suits.3,
          statement_is c h looped b stands.2 fresh.1 suits.2
              (record {
                inside = back (Contains (in_function g)) (expressions e ++ in_statement a) (in_statement b) given.inside;
                meets = given.meets.2;
                low = given.low.4;
                transfers = back (Does g c.program) (transfers r e ++ statement_transfers r g.result a) (statement_transfers r g.result b) given.transfers;
                locals = back (Own g c.program) (locals_in a) (locals_in b) given.locals;
              }),
          suits.4,
        )
    statement_is c h looped (tree.while s e a) stands fresh suits given = (
      test_typable c h e (front (Contains (in_function g)) (expressions e) (in_statement a) given.inside) stands.0 suits.0,
      statement_is c h true a stands.1 fresh suits.1 (behind_test c true e a given.inside given.meets.1 given.low.2 given.transfers given.locals),
      suits.2,
    )
    statement_is c h looped (tree.for s x a) stands fresh suits given =
        let r = c.program.typed in
        let c2 = behind_first c x.first in
        let h2 = here_first c h x.first stands.0 in
        let firsts = first_transfers r x.first in
        let tests = option_transfers (transfers r) x.test in
        let steps = option_transfers (simple_transfers r) x.step in
        let inside_head = front (Contains (in_function g)) (in_head x) (in_statement a) given.inside in
        let inside_front = front (Contains (in_function g)) (in_first x.first ++ in_option expressions x.test) (in_option in_simple x.step) inside_head in
        let transfers_head = front (Does g c.program) (firsts ++ tests ++ steps) (statement_transfers r g.result a) given.transfers in
        let suits2 = subst (λ d. IfThere (TestSuits d) x.test × IfThere (SimpleSuits d) x.step × StatementSuits d kind true a) (same_first c x.first) (suits.1, suits.2, suits.3) in (
          first_typable c h x.first (front (Contains (in_function g)) (in_first x.first) (in_option expressions x.test) inside_front) stands.0
              (front (Does g c.program) firsts tests (front (Does g c.program) (firsts ++ tests) steps transfers_head))
              (front (Own g c.program) (locals_in_first x.first) (locals_in a) given.locals) given.meets.0.0 given.low.0.0 fresh.0 suits.0,
          test_option c2 h2 x.test (first_program (λ m. Inside g m (in_option expressions x.test)) c x.first (back (Contains (in_function g)) (in_first x.first) (in_option expressions x.test) inside_front)) stands.1 suits2.0,
          step_option c2 h2 x.step (first_program (λ m. Inside g m (in_option in_simple x.step)) c x.first (back (Contains (in_function g)) (in_first x.first ++ in_option expressions x.test) (in_option in_simple x.step) inside_head)) stands.2
              (first_program (λ m. AllByRecursion (Does g m) (option_transfers (simple_transfers m.typed) x.step)) c x.first (back (Does g c.program) (firsts ++ tests) steps transfers_head))
              (first_program (λ m. IfSome x.step (MeetsSimple m.typed)) c x.first given.meets.0.2) given.low.0.2 suits2.1,
          statement_is c2 h2 true a stands.3 fresh.1 suits2.2
              (first_program (λ m. Given g m true a) c x.first
              (record {
                inside = back (Contains (in_function g)) (in_head x) (in_statement a) given.inside;
                meets = given.meets.1;
                low = given.low.2;
                transfers = back (Does g c.program) (firsts ++ tests ++ steps) (statement_transfers r g.result a) given.transfers;
                locals = back (Own g c.program) (locals_in_first x.first) (locals_in a) given.locals;
              })),
          suits.4,
        )

    pub statements_are : (c : Context) → Here c → (looped : Bool) (a : Statements) → StatementsStand c a → StatementsFresh c a → StatementsSuit c kind looped a → AllGiven g c.program looped a → StatementsTypable z n typing c kind looped a
    statements_are c h looped no_statements stands fresh suits given = tt
    statements_are c h looped (statement a rest) stands fresh suits given =
        let r = c.program.typed in (
          statement_is c h looped a stands.0 fresh.0 suits.0
              (record {
                inside = front (Contains (in_function g)) (in_statement a) (in_statements rest) given.inside;
                meets = given.meets.0;
                low = given.low.0;
                transfers = front (Does g c.program) (statement_transfers r g.result a) (statements_transfers r g.result rest) given.transfers;
                locals = front (Own g c.program) (locals_in a) (locals_in_all rest) given.locals;
              }),
          statements_are (behind_statement c a) (here_behind c h a stands.0) looped rest stands.1 fresh.1 (subst (λ d. StatementsSuit d kind looped rest) (same_behind c a) suits.1)
              (statement_program (λ m. AllGiven g m looped rest) c a
              (record {
                inside = back (Contains (in_function g)) (in_statement a) (in_statements rest) given.inside;
                meets = given.meets.1;
                low = given.low.1;
                transfers = back (Does g c.program) (statement_transfers r g.result a) (statements_transfers r g.result rest) given.transfers;
                locals = back (Own g c.program) (locals_in a) (locals_in_all rest) given.locals;
              })),
        )
