-- What is said of expressions and statements, by the constructs in them: one clause for each production, there and back.
use Rattle.sharc_check.proofs.Imports.{ℕ, subst, append-nil, List, [], ◌∷◌, ◌++◌, drop, Option, Some, None, AllByRecursion, Declaration, WrittenType, expressions, in_arguments, in_right, in_simple, in_local, in_first, in_head, in_statement, in_statements, in_function, Expression, Arguments, no_arguments, argument, Right, value, malloc, Simple, assign, does_call, Local, First, nothing, declares, does, Head, Statement, Statements, no_statements, statement, Function, Item, functions_in, named_at, Receiver, lvalue, variable, result, Transfer, passed, parameters_named, transfers, argument_transfers, right_transfers, simple_transfers, local_transfers, first_transfers, statement_transfers, statements_transfers, function_transfers, Finding, expected, place_notes, notes_of, notes_of_all, option_notes, right_notes, simple_notes, local_notes, return_notes, first_notes, head_notes, notes_in, notes_in_all, item_notes, items_notes, Assignment, agree_notes, write_notes, call_notes, cast_notes, source_notes, field_notes, written, base_use, declared_row, cast_row, named_row, modes_of, modes_at, Sharing, locals_in_first, locals_in, locals_in_all, front, back, both}
use Rattle.sharc_tree.specs.Measures as measures
use Rattle.sharc_tree.specs.Tree as tree
use Rattle.sharc_ctype.specs.Transfers as given

-- what is said of an expression itself, without those in it

abbrev pub argument_notes : Assignment → List Declaration → Arguments → List Declaration → Arguments → List Finding
argument_notes m ds all left no_arguments = []
argument_notes m ds all left (argument a rest) = agree_notes m (expected m ds all left) a ++ argument_notes m ds all (drop 1 left) rest

abbrev pub own_notes : Assignment → Expression → List Finding
own_notes m (tree.call s f all) = argument_notes m (parameters_named m.typed (named_at m.typed f.site.token)) all (parameters_named m.typed (named_at m.typed f.site.token)) all
    ++ call_notes m s (parameters_named m.typed (named_at m.typed f.site.token)) all
own_notes m (tree.spawn s f a) = agree_notes m (expected m (parameters_named m.typed (named_at m.typed f.site.token)) (argument a no_arguments) (parameters_named m.typed (named_at m.typed f.site.token))) a
    ++ call_notes m s (parameters_named m.typed (named_at m.typed f.site.token)) (argument a no_arguments)
own_notes m (tree.on_place s w a) = place_notes m w a
own_notes m (tree.cast s t a) = source_notes m a ++ cast_notes m.typed t.span t.ctype.base (modes_of m (cast_row m.typed s)) (modes_at m a)
own_notes m (tree.field s a w n) = field_notes m.typed s (base_use m.typed w a) (modes_of m (named_row m.typed written (named_at m.typed n.site.token)))
own_notes m _ = []

-- of the right side of `=`, given to these modes
abbrev pub given_notes : Assignment → Option (List Sharing) → Right → List Finding
given_notes m want (value e) = agree_notes m want e
given_notes m want (malloc s n t) = []

module _ (m : Assignment) (P : Finding → Type 0) where
  abbrev pub OwnSaid : Expression → Type 0
  OwnSaid e = AllByRecursion P (own_notes m e)

  -- in the function whose name is this token; what is passed and begun with is reported elsewhere
  abbrev pub ReceiverSaid : ℕ → Receiver → Right → Type 0
  ReceiverSaid f (lvalue u) x = AllByRecursion P (write_notes m u) × AllByRecursion P (given_notes m (modes_at m u) x)
  ReceiverSaid f (variable d) x = Unit {0}
  ReceiverSaid f (result w) x = AllByRecursion P (given_notes m (Some (modes_of m (declared_row m.typed written f))) x)

  abbrev pub TransferSaid : ℕ → Transfer → Type 0
  TransferSaid f t = ReceiverSaid f t.receiver t.source

  abbrev pub InitialSaid : Declaration → Option Right → Type 0
  InitialSaid d o = AllByRecursion P (option_notes (given_notes m (Some (modes_of m (declared_row m.typed written d.name.site.token)))) o)

  abbrev pub LocalSaid : Local → Type 0
  LocalSaid l = InitialSaid l.declaration l.initial

  -- of these expressions, transfers and locals
  abbrev pub Three : ℕ → List Expression → List Transfer → List Local → Type 0
  Three f es ts ls = AllByRecursion OwnSaid es × AllByRecursion (TransferSaid f) ts × AllByRecursion LocalSaid ls

  -- the same, and of notes that are not yet an expression's, a transfer's or a local's own
  record Parts (f : ℕ) (own : List Finding) (es : List Expression) (ts : List Transfer) (ls : List Local) : Type 0 where
    own_said : AllByRecursion P own
    each : AllByRecursion OwnSaid es
    moves : AllByRecursion (TransferSaid f) ts
    begun : AllByRecursion LocalSaid ls

  -- what notes say is said of these parts, there and back
  record Says (f : ℕ) (notes own : List Finding) (es : List Expression) (ts : List Transfer) (ls : List Local) : Type 0 where
    there : AllByRecursion P notes → Parts f own es ts ls
    again : Parts f own es ts ls → AllByRecursion P notes

  no_notes : {f : ℕ} → Says f [] [] [] [] []
  no_notes = record { there = λ h. record { own_said = tt; each = tt; moves = tt; begun = tt }; again = λ p. tt }

  module _ {f : ℕ} {x o : List Finding} {es : List Expression} {ts : List Transfer} {ls : List Local} where
    join : {y q : List Finding} {ds : List Expression} {us : List Transfer} {ks : List Local}
        → Says f x o es ts ls → Says f y q ds us ks → Says f (x ++ y) (o ++ q) (es ++ ds) (ts ++ us) (ls ++ ks)
    join {y = y} {q = q} {ds = ds} {us = us} {ks = ks} s t = record {
      there = λ h.
          let a = s.there (front P x y h) in
          let b = t.there (back P x y h) in
          record {
            own_said = both P o q a.own_said b.own_said;
            each = both OwnSaid es ds a.each b.each;
            moves = both (TransferSaid f) ts us a.moves b.moves;
            begun = both LocalSaid ls ks a.begun b.begun;
          };
      again = λ p.
          let a : Parts f o es ts ls = record { own_said = front P o q p.own_said; each = front OwnSaid es ds p.each; moves = front (TransferSaid f) ts us p.moves; begun = front LocalSaid ls ks p.begun } in
          let b : Parts f q ds us ks = record { own_said = back P o q p.own_said; each = back OwnSaid es ds p.each; moves = back (TransferSaid f) ts us p.moves; begun = back LocalSaid ls ks p.begun } in
          both P x y (s.again a) (t.again b);
    }

    -- with more notes behind
    and_own : Says f x o es ts ls → (n : List Finding) → Says f (x ++ n) (o ++ n) es ts ls
    and_own s n = record {
      there = λ h. let a = s.there (front P x n h) in record { own_said = both P o n a.own_said (back P x n h); each = a.each; moves = a.moves; begun = a.begun };
      again = λ p. both P x n (s.again (record { own_said = front P o n p.own_said; each = p.each; moves = p.moves; begun = p.begun })) (back P o n p.own_said);
    }

    -- with transfers of which nothing is said
    and_quiet : (qs : List Transfer) → AllByRecursion (TransferSaid f) qs → Says f x o es ts ls → Says f x o es (qs ++ ts) ls
    and_quiet qs quiet s = record {
      there = λ h. let a = s.there h in record { own_said = a.own_said; each = a.each; moves = both (TransferSaid f) qs ts quiet a.moves; begun = a.begun };
      again = λ p. s.again (record { own_said = p.own_said; each = p.each; moves = back (TransferSaid f) qs ts p.moves; begun = p.begun });
    }

    -- those notes are a transfer's own
    gives_to : (t : Transfer) → (AllByRecursion P o → TransferSaid f t) → (TransferSaid f t → AllByRecursion P o) → Says f x o es ts ls → Says f x [] es (t ∷ ts) ls
    gives_to t to from s = record {
      there = λ h. let a = s.there h in record { own_said = tt; each = a.each; moves = (to a.own_said, a.moves); begun = a.begun };
      again = λ p. s.again (record { own_said = from p.moves.0; each = p.each; moves = p.moves.1; begun = p.begun });
    }

    no_more_locals : Says f x o es ts (ls ++ []) → Says f x o es ts ls
    no_more_locals s = subst (Says f x o es ts) (append-nil ls) s

  -- those notes are an expression's own, or a local's
  whole : {f : ℕ} {x : List Finding} {es : List Expression} {ts : List Transfer} (e : Expression) → Says f x (own_notes m e) es ts [] → Says f x [] (e ∷ es) ts []
  whole e s = record {
    there = λ h. let a = s.there h in record { own_said = tt; each = (a.own_said, a.each); moves = a.moves; begun = tt };
    again = λ p. s.again (record { own_said = p.each.0; each = p.each.1; moves = p.moves; begun = tt });
  }

  begins : {f : ℕ} {x : List Finding} {es : List Expression} {ts : List Transfer} (l : Local)
      → Says f x (option_notes (given_notes m (Some (modes_of m (declared_row m.typed written l.declaration.name.site.token)))) l.initial) es ts [] → Says f x [] es ts (l ∷ [])
  begins l s = record {
    there = λ h. let a = s.there h in record { own_said = tt; each = a.each; moves = a.moves; begun = (a.own_said, tt) };
    again = λ p. s.again (record { own_said = p.begun.0; each = p.each; moves = p.moves; begun = tt });
  }

  -- ---- expressions

  quiet_passed : (f : ℕ) (ds : List Declaration) (all : Arguments) → AllByRecursion (TransferSaid f) (passed ds all)
  quiet_passed f [] all = tt
  quiet_passed f (d ∷ rest) no_arguments = tt
  quiet_passed f (d ∷ rest) (argument a more) = (tt, quiet_passed f rest more)

  mutual
    expression : (f : ℕ) (e : Expression) → Says f (notes_of m e) [] (expressions e) (transfers m.typed e) []
    expression f (tree.identifier s i) = whole (tree.identifier s i) no_notes
    expression f (tree.constant s c) = whole (tree.constant s c) no_notes
    expression f (tree.parentheses s a) = whole (tree.parentheses s a) (expression f a)
    expression f (tree.call s g all) =
        let ds = parameters_named m.typed (named_at m.typed g.site.token) in
        whole (tree.call s g all) (and_own (and_quiet (passed ds all) (quiet_passed f ds all) (arguments f ds all ds all)) (call_notes m s ds all))
    expression f (tree.spawn s g a) =
        let ds = parameters_named m.typed (named_at m.typed g.site.token) in
        let one = argument a no_arguments in
        whole (tree.spawn s g a)
        (and_own (and_own (and_quiet (passed ds one) (quiet_passed f ds one) (expression f a)) (agree_notes m (expected m ds one ds) a)) (call_notes m s ds one))
    expression f (tree.on_value s w a) = whole (tree.on_value s w a) (expression f a)
    expression f (tree.on_place s w a) = whole (tree.on_place s w a) (and_own (expression f a) (place_notes m w a))
    expression f (tree.cast s t a) =
        whole (tree.cast s t a) (and_own (and_own (expression f a) (source_notes m a)) (cast_notes m.typed t.span t.ctype.base (modes_of m (cast_row m.typed s)) (modes_at m a)))
    expression f (tree.index s a i) = whole (tree.index s a i) (join (expression f a) (expression f i))
    expression f (tree.field s a w n) =
        whole (tree.field s a w n) (and_own (expression f a) (field_notes m.typed s (base_use m.typed w a) (modes_of m (named_row m.typed written (named_at m.typed n.site.token)))))
    expression f (tree.unary s o a) = whole (tree.unary s o a) (expression f a)
    expression f (tree.binary s o at a b) = whole (tree.binary s o at a b) (join (expression f a) (expression f b))

    arguments : (f : ℕ) (ds : List Declaration) (all : Arguments) (left : List Declaration) (args : Arguments)
        → Says f (notes_of_all m ds all left args) (argument_notes m ds all left args) (in_arguments args) (argument_transfers m.typed args) []
    arguments f ds all left no_arguments = no_notes
    arguments f ds all left (argument a rest) = join (and_own (expression f a) (agree_notes m (expected m ds all left) a)) (arguments f ds all (drop 1 left) rest)

  -- ---- what is in statements

  option : (f : ℕ) (o : Option Expression) → Says f (option_notes (notes_of m) o) [] (measures.in_option expressions o) (given.in_option (transfers m.typed) o) []
  option f None = no_notes
  option f (Some e) = expression f e

  right : (f : ℕ) (want : Option (List Sharing)) (x : Right) → Says f (right_notes m want x) (given_notes m want x) (in_right x) (right_transfers m.typed x) []
  right f want (value e) = and_own (expression f e) (agree_notes m want e)
  right f want (malloc s n t) = option f n

  in_one : (f : ℕ) (x : Simple) → Says f (simple_notes m x) [] (in_simple x) (simple_transfers m.typed x) []
  in_one f (assign s u x) =
      let writes = write_notes m u in
      let given_to = given_notes m (modes_at m u) x in
      gives_to (record { receiver = lvalue u; source = x }) (λ h. (front P writes given_to h, back P writes given_to h)) (λ t. both P writes given_to t.0 t.1)
      (join (and_own (expression f u) writes) (right f (modes_at m u) x))
  in_one f (does_call e) = expression f e

  in_step : (f : ℕ) (o : Option Simple) → Says f (option_notes (simple_notes m) o) [] (measures.in_option in_simple o) (given.in_option (simple_transfers m.typed) o) []
  in_step f None = no_notes
  in_step f (Some x) = in_one f x

  initial : (f : ℕ) (d : Declaration) (o : Option Right)
      → Says f (option_notes (right_notes m (Some (modes_of m (declared_row m.typed written d.name.site.token)))) o) (option_notes (given_notes m (Some (modes_of m (declared_row m.typed written d.name.site.token)))) o)
      (measures.in_option in_right o) (given.in_option (λ x. record { receiver = variable d; source = x } ∷ right_transfers m.typed x) o) []
  initial f d None = no_notes
  initial f d (Some x) = and_quiet (record { receiver = variable d; source = x } ∷ []) (tt, tt) (right f (Some (modes_of m (declared_row m.typed written d.name.site.token))) x)

  local : (f : ℕ) (l : Local) → Says f (local_notes m l) [] (in_local l) (local_transfers m.typed l) (l ∷ [])
  local f l = begins l (initial f l.declaration l.initial)

  in_begin : (f : ℕ) (x : First) → Says f (first_notes m x) [] (in_first x) (first_transfers m.typed x) (locals_in_first x)
  in_begin f nothing = no_notes
  in_begin f (declares l) = local f l
  in_begin f (does x) = in_one f x

  loop_head : (f : ℕ) (x : Head) → Says f (head_notes m x) [] (in_head x) (first_transfers m.typed x.first ++ given.in_option (transfers m.typed) x.test ++ given.in_option (simple_transfers m.typed) x.step) (locals_in_first x.first)
  loop_head f x = no_more_locals (join (no_more_locals (join (in_begin f x.first) (option f x.test))) (in_step f x.step))

  returned : (f : ℕ) (w : WrittenType) (o : Option Expression)
      → Says f (option_notes (return_notes m f) o) [] (measures.in_option expressions o) (given.in_option (λ x. record { receiver = result w; source = value x } ∷ transfers m.typed x) o) []
  returned f w None = no_notes
  returned f w (Some e) =
      gives_to (record { receiver = result w; source = value e }) (λ h. h) (λ t. t) (and_own (expression f e) (agree_notes m (Some (modes_of m (declared_row m.typed written f))) e))

  mutual
    in_one_statement : (f : ℕ) (w : WrittenType) (a : Statement) → Says f (notes_in m f a) [] (in_statement a) (statement_transfers m.typed w a) (locals_in a)
    in_one_statement f w (tree.empty s) = no_notes
    in_one_statement f w (tree.block s all) = in_all_statements f w all
    in_one_statement f w (tree.declare s l) = local f l
    in_one_statement f w (tree.simple s x) = in_one f x
    in_one_statement f w (tree.jump s j) = no_notes
    in_one_statement f w (tree.return s e) = returned f w e
    in_one_statement f w (tree.if_then s e a) = join (expression f e) (in_one_statement f w a)
    in_one_statement f w (tree.if_then_else s e a b) = join (join (expression f e) (in_one_statement f w a)) (in_one_statement f w b)
    in_one_statement f w (tree.while s e a) = join (expression f e) (in_one_statement f w a)
    in_one_statement f w (tree.for s x a) = join (loop_head f x) (in_one_statement f w a)

    in_all_statements : (f : ℕ) (w : WrittenType) (all : Statements) → Says f (notes_in_all m f all) [] (in_statements all) (statements_transfers m.typed w all) (locals_in_all all)
    in_all_statements f w no_statements = no_notes
    in_all_statements f w (statement a rest) = join (in_one_statement f w a) (in_all_statements f w rest)

  -- ---- functions

  abbrev pub FunctionSaid : Function → Type 0
  FunctionSaid f = Three f.name.site.token (in_function f) (function_transfers m.typed f) (locals_in_all f.statements)

  pub items_said : (items : List Item) → AllByRecursion P (items_notes m items) → AllByRecursion FunctionSaid (functions_in items)
  items_said [] h = tt
  items_said (tree.structure s ∷ rest) h = items_said rest h
  items_said (tree.global g ∷ rest) h = items_said rest h
  items_said (tree.function f ∷ rest) h =
      let p = (in_all_statements f.name.site.token f.result f.statements).there (front P (item_notes m (tree.function f)) (items_notes m rest) h) in
      ((p.each, p.moves, p.begun), items_said rest (back P (item_notes m (tree.function f)) (items_notes m rest) h))

  pub items_back : (items : List Item) → AllByRecursion FunctionSaid (functions_in items) → AllByRecursion P (items_notes m items)
  items_back [] h = tt
  items_back (tree.structure s ∷ rest) h = items_back rest h
  items_back (tree.global g ∷ rest) h = items_back rest h
  items_back (tree.function f ∷ rest) h =
      let mine = (in_all_statements f.name.site.token f.result f.statements).again (record { own_said = tt; each = h.0.0; moves = h.0.1; begun = h.0.2 }) in
      both P (item_notes m (tree.function f)) (items_notes m rest) mine (items_back rest h.1)
