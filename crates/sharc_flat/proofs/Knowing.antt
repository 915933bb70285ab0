-- What a program that suits says of its calls: each names a function. And break and continue are in loops.
use Rattle.sharc_flat.proofs.{Imports.{◌≡◌, ℕ, zero, suc, Bool, true, false, List, [], ◌∷◌, Option, Some, None, FieldOperator, Dot, Arrow, Negate, Not, Complement, Dereference, Declaration, Expression, parentheses, call, spawn, on_value, on_place, cast, index, field, unary, binary, Arguments, no_arguments, argument, Right, value, malloc, Simple, assign, does_call, First, nothing, declares, does, Statement, empty, block, declare, simple, jump, return, if_then, if_then_else, while, for, Statements, no_statements, statement, Function, Named, Kind, is_array, declared_kind, Resolution, function_at, kind_at, named_at, pointed, written, row_at, declared_row, Sharing, Context, kind_in, Either, CallSuits, FieldSuits, Suits, ArgumentsSuit, ReferencesSuit, PlaceSuits, CountSuits, RightSuits, SimpleSuits, InitialSuits, FirstSuits, IfThere, TestSuits, StatementSuits, StatementsSuit, behind_declaration, in_first, in_statement}, Staying.{KnownName, ByAccess, Knows, KnowsAll, KnowsPlace, either_map}, Keeping.{KnowsRight, KnowsSimple, KnowsFirst, InLoops, InLoopsAll}}

module _ (F : ℕ → Type 0) where
  -- what is a function of this program is one that is known
  abbrev pub Known : Context → Type 0
  Known c = (n : ℕ) (f : Function) → function_at c.program.typed n ≡ Some f → F n

  call_know : (c : Context) → Known c → (kind : Kind) (what : Named) (arguments : List Kind → Type 0) (known X : Type 0) → CallSuits c kind what arguments known → ((kinds : List Kind) → arguments kinds → X) → (known → X) → KnownName F what × X
  call_know c k kind (Named.Function n) arguments known X h f g = (k n h.0 h.1, f _ h.3)
  call_know c k kind Named.Known arguments known X h f g = (tt, g h.0)
  call_know c k kind _ arguments known X h f g = absurd h

  field_know : {A B X Y : Type 0} (c : Context) (w : FieldOperator) (a : Expression) → FieldSuits c w a A B → (A → X) → (B → Y) → ByAccess w X Y
  field_know c Dot a h f g = f h
  field_know c Arrow a h f g = g h.0

  mutual
    suits_know : (c : Context) → Known c → (e : Expression) → Suits c e → Knows F c.program.typed e
    suits_know c k (parentheses s a) h = suits_know c k a h
    suits_know c k (call s f all) h = call_know c k _ (named_at c.program.typed f.site.token) _ _ (KnowsAll F c.program.typed all) h (λ kinds w. arguments_know c k kinds all w) (λ w. references_know c k _ all w)
    suits_know c k (spawn s f a) h = suits_know c k a h.0
    suits_know c k (on_value s w a) h = suits_know c k a h.0
    suits_know c k (on_place s w a) h = places_know c k a h.0
    suits_know c k (cast s t a) h = places_know c k a h.0
    suits_know c k (index s a n) h = (either_map (is_array (kind_at c.program.typed a)) (λ w. places_know c k a w.0) (λ w. suits_know c k a w.0) h.0.0, suits_know c k n h.0.1)
    suits_know c k (field s a w n) h = field_know c w a h.0 (λ w. places_know c k a w) (λ w. suits_know c k a w)
    suits_know c k (unary s Negate a) h = suits_know c k a h.0
    suits_know c k (unary s Not a) h = suits_know c k a h.0
    suits_know c k (unary s Complement a) h = suits_know c k a h.0
    suits_know c k (unary s Dereference a) h = suits_know c k a h.0
    suits_know c k (binary s o at a b) h = (suits_know c k a h.0, suits_know c k b h.1)
    suits_know c k _ h = tt

    arguments_know : (c : Context) → Known c → (kinds : List Kind) (all : Arguments) → ArgumentsSuit c kinds all → KnowsAll F c.program.typed all
    arguments_know c k [] no_arguments h = tt
    arguments_know c k [] (argument a rest) h = absurd h
    arguments_know c k (kind ∷ kinds) no_arguments h = absurd h
    arguments_know c k (kind ∷ kinds) (argument a rest) h = (suits_know c k a h.0, arguments_know c k kinds rest h.2)

    references_know : (c : Context) → Known c → (n : ℕ) (all : Arguments) → ReferencesSuit c n all → KnowsAll F c.program.typed all
    references_know c k zero no_arguments h = tt
    references_know c k zero (argument a rest) h = absurd h
    references_know c k (suc n) no_arguments h = absurd h
    references_know c k (suc n) (argument a rest) h = (suits_know c k a h.0, references_know c k n rest h.2)

    places_know : (c : Context) → Known c → (e : Expression) → PlaceSuits c e → KnowsPlace F c.program.typed e
    places_know c k (parentheses s a) h = places_know c k a h
    places_know c k (index s a n) h = (either_map (is_array (kind_at c.program.typed a)) (λ w. places_know c k a w.0) (λ w. suits_know c k a w.0) h.0, suits_know c k n h.1)
    places_know c k (field s a w n) h = field_know c w a h (λ w. places_know c k a w) (λ w. suits_know c k a w)
    places_know c k (unary s Dereference a) h = suits_know c k a h.0
    places_know c k _ h = tt

  count_know : (c : Context) → Known c → (n : Option Expression) → CountSuits c n → IfThere (Knows F c.program.typed) n
  count_know c k None h = tt
  count_know c k (Some n) h = suits_know c k n h.0

  right_know : (c : Context) → Known c → (kind : Kind) (mode : Sharing) (x : Right) → RightSuits c kind mode x → KnowsRight F c.program.typed x
  right_know c k kind mode (value e) h = suits_know c k e h.0
  right_know c k kind mode (malloc s n w) h = count_know c k n h.2

  simple_know : (c : Context) → Known c → (x : Simple) → SimpleSuits c x → KnowsSimple F c.program.typed x
  simple_know c k (assign s u x) h = (places_know c k u h.0, right_know c k (kind_in c u) (pointed c.program (row_at c.program.typed u)) x h.2)
  simple_know c k (does_call e) h = suits_know c k e h

  initial_know : (c : Context) → Known c → (d : Declaration) (x : Option Right) → InitialSuits c d x → IfThere (KnowsRight F c.program.typed) x
  initial_know c k d None h = tt
  initial_know c k d (Some x) h = right_know (behind_declaration c d) k (declared_kind d.written) (pointed c.program (Some (declared_row c.program.typed written d.name.site.token))) x h.0

  first_know : (c : Context) → Known c → (x : First) → FirstSuits c x → KnowsFirst F c.program.typed x
  first_know c k nothing h = tt
  first_know c k (declares l) h = initial_know c k l.declaration l.initial h
  first_know c k (does x) h = simple_know c k x h

  test_know : (c : Context) → Known c → (e : Option Expression) → IfThere (TestSuits c) e → IfThere (Knows F c.program.typed) e
  test_know c k None h = tt
  test_know c k (Some e) h = suits_know c k e h.0

  step_know : (c : Context) → Known c → (x : Option Simple) → IfThere (SimpleSuits c) x → IfThere (KnowsSimple F c.program.typed) x
  step_know c k None h = tt
  step_know c k (Some x) h = simple_know c k x h

  -- after what comes first in the head of a `for` the program is the same
  loops_in : (c : Context) (f : First) (b : Bool) (test : Option Expression) (step : Option Simple) → Known c → IfThere (TestSuits (in_first c f)) test → IfThere (SimpleSuits (in_first c f)) step
      → IfThere (Knows F c.program.typed) test × IfThere (KnowsSimple F c.program.typed) step
  loops_in c (declares l) b test step k t h = (test_know (behind_declaration c l.declaration) k test t, step_know (behind_declaration c l.declaration) k step h)
  loops_in c _ b test step k t h = (test_know c k test t, step_know c k step h)

  first_known : (c : Context) (f : First) → Known c → Known (in_first c f)
  first_known c (does x) k = k
  first_known c _ k = k

  first_back : (P : Resolution → Type 0) (c : Context) (f : First) → P (in_first c f).program.typed → P c.program.typed
  first_back P c (does x) h = h
  first_back P c _ h = h

  statement_known : (c : Context) (x : Statement) → Known c → Known (in_statement c x)
  statement_known c (empty s) k = k
  statement_known c _ k = k

  statement_back : (P : Resolution → Type 0) (c : Context) (x : Statement) → P (in_statement c x).program.typed → P c.program.typed
  statement_back P c (empty s) h = h
  statement_back P c _ h = h

  mutual
    pub loops_of : (c : Context) → Known c → (result : Kind) (b : Bool) (x : Statement) → StatementSuits c result b x → InLoops F c.program.typed b x
    loops_of c k result b (block s all) h = all_loops c k result b all h
    loops_of c k result b (declare s l) h = initial_know c k l.declaration l.initial h
    loops_of c k result b (simple s x) h = simple_know c k x h
    loops_of c k result b (jump s j) h = h
    loops_of c k result b (return s (Some e)) h = suits_know c k e h.0
    loops_of c k result b (if_then s e x) h = (suits_know c k e h.0.0, loops_of c k result b x h.1)
    loops_of c k result b (if_then_else s e x y) h = (suits_know c k e h.0.0, loops_of c k result b x h.1, loops_of c k result b y h.2)
    loops_of c k result b (while s e x) h = (suits_know c k e h.0.0, loops_of c k result true x h.1)
    loops_of c k result b (for s hd x) h =
        let w = loops_in c hd.first b hd.test hd.step k h.1 h.2 in
        (first_know c k hd.first h.0, w.0, w.1, first_back (λ r. InLoops F r true x) c hd.first (loops_of (in_first c hd.first) (first_known c hd.first k) result true x h.3))
    loops_of c k result b _ h = tt

    pub all_loops : (c : Context) → Known c → (result : Kind) (b : Bool) (all : Statements) → StatementsSuit c result b all → InLoopsAll F c.program.typed b all
    all_loops c k result b no_statements h = tt
    all_loops c k result b (statement x rest) h =
        (loops_of c k result b x h.0, statement_back (λ r. InLoopsAll F r b rest) c x (all_loops (in_statement c x) (statement_known c x k) result b rest h.1))
