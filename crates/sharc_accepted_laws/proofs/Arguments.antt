-- Arguments: what they are, where they go, and the registers that they take.
use Rattle.sharc_accepted_laws.proofs.{Imports.{◌≡◌, ℕ, zero, suc, ◌+◌, ◌<◌, Bool, true, false, cond, List, [], ◌∷◌, ◌++◌, map, drop, slice_get, refl, ap, sym, ◌∙◌, subst, arith, Some, Contains, false≢true, AllByRecursion, Declaration, is_lvalue, expressions, in_function, Expression, Arguments, no_arguments, argument, value, Function, Named, Kind, is_pointer, declared_kind, declared_kinds, Resolution, functions_in, function_at, declaration_at, variable_kind, kind_at, locals_in_all, Transfer, variable, passed, HasType, HaveTypes, one_more, Assignable, IsItself, EachNamesItself, Assignment, IsFunction, IsCall, kind_of, is_ref, behind_int, behind_ref, width_of, Context, slot_of, int_count, ref_count, IsScalar, Suits, ArgumentsSuit, StaticType, Within, Label, Setting, ArgumentAt, ArgumentsAt, refs_behind, Goes, IsOf, argument_type, AreStanding, ArgumentsFit, IsAccepted, ExpressionStands, ExpressionsStand, type_for, integers, width_named, typing, front, back, each, head_there, of_each, tail_there}, Forms.{pointer_no_integer, to_integer}}
use Rattle.sharc_flat.specs.Suits.{Passes}

-- ---- parts of an expression
module _ (c : Context) (n : ℕ) (g : Function) where
  -- expressions of the function, where the variables of their lock paths stand
  abbrev pub Parts : List Expression → Type 0
  Parts list = AllByRecursion (λ x. Contains (in_function g) x) list × ExpressionsStand c list

  pub part_of : function_at c.program.typed n ≡ Some g → (e : Expression) → Parts (expressions e) → IsOf c n g e
  part_of is e p = record { function = is; parts = p.0; stand = p.1 }

  pub first_part : (a b : List Expression) → Parts (a ++ b) → Parts a
  first_part a b p = (front (λ x. Contains (in_function g) x) a b p.0, front (ExpressionStands c) a b p.1)

  pub second_part : (a b : List Expression) → Parts (a ++ b) → Parts b
  second_part a b p = (back (λ x. Contains (in_function g) x) a b p.0, back (ExpressionStands c) a b p.1)

  abbrev pub IsValued : Expression → Type 0
  IsValued e = is_lvalue e ≡ true → IsScalar (kind_of c e)

  abbrev pub AllSuit : Arguments → Type 0
  AllSuit no_arguments = Unit {0}
  AllSuit (argument a rest) = (Suits c a × IsValued a) × AllSuit rest

-- ---- kinds
pub passes_scalar : (want k : Kind) → Passes want k → IsScalar k
passes_scalar want k p other = p.1 (sym p.0 ∙ other)

pub suit_all : (c : Context) (n : ℕ) (g : Function) (kinds : List Kind) (all : Arguments) → ArgumentsSuit c kinds all → AllSuit c n g all
suit_all c n g [] (argument a rest) s = absurd s
suit_all c n g (kind ∷ kinds) (argument a rest) s = ((s.0, λ l. passes_scalar kind (kind_of c a) s.1), suit_all c n g kinds rest s.2)
suit_all c n g _ no_arguments s = tt

-- ---- parameters
pub parameters_declared : EachNamesItself → (m : Assignment) → IsAccepted m → (f : Function) → IsFunction m f → AllByRecursion (λ d. declaration_at m.typed d.name.site.token ≡ Some d) f.parameters
parameters_declared themselves m a f there =
    let r = m.typed in
    each (IsItself r Named.Variable) (λ d. declaration_at r d.name.site.token ≡ Some d) (λ d h. h.1) f.parameters
    (front (IsItself r Named.Variable) f.parameters (locals_in_all f.statements)
    (of_each (λ f. AllByRecursion (IsItself r Named.Variable) (f.parameters ++ locals_in_all f.statements)) (functions_in r.program.items) f (themselves r a.resolved a.placed a.low).variables there))

module _ (z : Setting) (n : ℕ) (c : Context) where
  abbrev r : Resolution
  r = c.program.typed

  -- ---- where arguments go
  abbrev pub AllGo : List Kind → (ℕ → StaticType) → Arguments → Type 0
  AllGo kinds wants no_arguments = Unit {0}
  AllGo kinds wants (argument a rest) = Goes z n typing c kinds a (is_ref c a) (wants 0) × AllGo (drop 1 kinds) (λ p. wants (p + 1)) rest

  module _ (fit : ArgumentsFit) (accepted : IsAccepted c.program) (one : (e : Expression) (k : Kind) → HasType r e k → kind_at r e ≡ k) (whole : List Declaration) (given : Arguments) (call : IsCall c.program whole given) (standing : AreStanding c whole given) where
    -- one that goes to this parameter
    goes_to : (d : Declaration) (kinds : List Kind) (a : Expression) → Passes (declared_kind d.written) (kind_of c a) → Assignable (declared_kind d.written) (kind_of c a) → Contains (passed whole given) record { receiver = variable d; source = value a }
        → Goes z n typing c (declared_kind d.written ∷ kinds) a (is_ref c a) (argument_type c whole given d)
    goes_to d kinds a passes fits there = by (is_ref c a) refl
      where
        by : (b : Bool) → is_ref c a ≡ b → Goes z n typing c (declared_kind d.written ∷ kinds) a b (argument_type c whole given d)
        by true ref =
            let pointer : is_pointer (declared_kind d.written) ≡ true = sym passes.0 ∙ ref in
            let f = fit c accepted whole given d a call there pointer in
            (f.goes, f.names standing, pointer_no_integer (declared_kind d.written) pointer)
        by false other = (passes.1 (sym passes.0 ∙ other), to_integer (declared_kind d.written) (kind_of c a) fits other)

    pub all_go : (ds : List Declaration) (all : Arguments) (wants : ℕ → StaticType) → ArgumentsSuit c (declared_kinds ds) all → HaveTypes r all (declared_kinds ds) → ((p : ℕ) → wants p ≡ type_for c whole given (slice_get ds p))
        → ((t : Transfer) → Contains (passed ds all) t → Contains (passed whole given) t) → AllGo (declared_kinds ds) wants all
    all_go [] (argument a rest) wants suits typed types inside = absurd suits
    all_go (d ∷ ds) (argument a rest) wants suits (one_more {k = k} t fits more) types inside = (
      subst (Goes z n typing c (declared_kinds (d ∷ ds)) a (is_ref c a)) (sym (types 0))
          (goes_to d (declared_kinds ds) a suits.1 (subst (Assignable (declared_kind d.written)) (sym (one a k t)) fits) (inside record { receiver = variable d; source = value a } (head_there record { receiver = variable d; source = value a } (passed ds rest)))),
      all_go ds rest (λ p. wants (p + 1)) suits.2 more (λ p. types (p + 1) ∙ next p) (λ t has. inside t (tail_there record { receiver = variable d; source = value a } t (passed ds rest) has)),
    )
      where
        next : (p : ℕ) → type_for c whole given (slice_get (d ∷ ds) (p + 1)) ≡ type_for c whole given (slice_get ds p)
        next p = let same : p + 1 ≡ suc p = omega arith in ap (λ q. type_for c whole given (slice_get (d ∷ ds) q)) same
    all_go _ no_arguments wants suits typed types inside = tt

  -- ---- the registers that they take
  counted_by : (e b : Bool) (rest : Arguments) (count : ℕ) → e ≡ b → ((k : ℕ) → refs_behind c rest k ≡ k + count) → (k : ℕ) → refs_behind c rest (behind_ref e k) ≡ k + cond b (count + 1) count
  counted_by true true rest count same later k = let more : k + 1 + count ≡ k + (count + 1) = omega arith in later (k + 1) ∙ more
  counted_by false false rest count same later k = later k
  counted_by true false rest count same later k = absurd (false≢true (sym same))
  counted_by false true rest count same later k = absurd (false≢true same)

  pub refs_counted : (ds : List Declaration) (all : Arguments) → ArgumentsSuit c (declared_kinds ds) all → (k : ℕ) → refs_behind c all k ≡ k + ref_count (map slot_of ds)
  refs_counted [] no_arguments suits k = let same : k ≡ k + 0 = omega arith in same
  refs_counted [] (argument a rest) suits k = absurd suits
  refs_counted (d ∷ ds) no_arguments suits k = absurd suits
  refs_counted (d ∷ ds) (argument a rest) suits k = counted_by (is_ref c a) (is_pointer (declared_kind d.written)) rest (ref_count (map slot_of ds)) suits.1.0 (refs_counted ds rest suits.2) k

  -- ---- integers
  module _ (l : Label) where
    abbrev Given : List Declaration → (ℕ → StaticType) → Arguments → ℕ → ℕ → Type 0
    Given ds wants all i k = ArgumentsAt z n typing c (declared_kinds ds) wants all i k l

    -- each is one of the type of its parameter
    pub integer_passed : (ds : List Declaration) (wants : ℕ → StaticType) (all : Arguments) (i k : ℕ) → ArgumentsSuit c (declared_kinds ds) all → Given ds wants all i k → AllByRecursion (λ d. declaration_at r d.name.site.token ≡ Some d) ds
        → (j : ℕ) → j < int_count (map slot_of ds) → l.ints (i + j) ≡ Within (width_named c (slice_get (integers (map slot_of ds)) j))
    integer_passed [] wants all i k suits h declared j low = absurd (omega (arith, low))
    integer_passed (d ∷ ds) wants no_arguments i k suits h declared j low = absurd suits
    integer_passed (d ∷ ds) wants (argument a rest) i k suits h declared j low =
        by (is_pointer (declared_kind d.written)) (is_ref c a) suits.1.0 j low h (λ i k j low g. integer_passed ds (λ p. wants (p + 1)) rest i k suits.2 g declared.1 j low)
      where
        by : (b e : Bool) → e ≡ b → (j : ℕ) → j < cond b (int_count (map slot_of ds)) (int_count (map slot_of ds) + 1)
            → ArgumentAt z n typing c (declared_kinds (d ∷ ds)) a e (wants 0) i k l × Given ds (λ p. wants (p + 1)) rest (behind_int e i) (behind_ref e k)
            → ((i k j : ℕ) → j < int_count (map slot_of ds) → Given ds (λ p. wants (p + 1)) rest i k → l.ints (i + j) ≡ Within (width_named c (slice_get (integers (map slot_of ds)) j)))
            → l.ints (i + j) ≡ Within (width_named c (slice_get (cond b (integers (map slot_of ds)) (d.name.site.token ∷ integers (map slot_of ds))) j))
        by true true same j low h later = later i (k + 1) j low h.1
        by false false same zero low h later =
            let here : i + 0 ≡ i = omega arith in
            ap l.ints here ∙ h.0 ∙ ap (λ o. Within (width_of (variable_kind o))) (sym declared.0)
        by false false same (suc j) low h later =
            let there : i + suc j ≡ i + 1 + j = omega arith in
            let lower : j < int_count (map slot_of ds) = omega (arith, low) in
            ap l.ints there ∙ later (i + 1) k j lower h.1
        by true false same j low h later = absurd (false≢true same)
        by false true same j low h later = absurd (false≢true (sym same))
