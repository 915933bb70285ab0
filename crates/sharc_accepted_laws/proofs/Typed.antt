-- The cells of lvalues are typed, by the laws of their accesses.
use Rattle.sharc_accepted_laws.proofs.{Imports.{◌≡◌, ℕ, ◌<◌, ◌==◌, ◌&&◌, Bool, true, false, cond, refl, ap, sym, ◌∙◌, subst, arith, Option, Some, None, Contains, false≢true, ltb-true, ne_eqb, AllByRecursion, Base, expressions, in_function, Span, Identifier, Dot, Arrow, Dereference, Expression, identifier, parentheses, index, field, unary, Function, Named, Kind, object, mutex, is_integer, is_pointer, is_array, is_struct_behind, Code, Resolution, named_at, functions_in, is_reference, cell_at, is_constant_named, constant_use, IsExpression, kind_of, target_of, lvalue_in, in_global, global_of, target, Context, slot_kind, is_cell, NameSuits, Either, Suits, PlaceSuits, Signature, Typing, Setting, ground_of, entry_of, pointer_of, IsCellLvalue, IsCodeOf, BaseStands, IsFairUse, setting, IsTypingOf, IsGroundOf, IntegersFit, ReferencesFit, MutexesFit, GroundsFit, PathsLead, IsOf, CellTyped, LvalueTyped, BasesStand, LvaluesAreTyped, AreFair, UsesAreFair, same_some, none_some, and_false, each, place_there as there_at}, Members.first_of as self}
use Rattle.sharc_names.specs.Kinds as kinds

-- ---- what is an integer, a pointer or a mutex is no struct and no array
pub record IsPlainKind (k : Kind) : Type 0 where
  pub no_struct : is_struct_behind 0 k ≡ false
  pub no_array : is_array k ≡ false

integral_plain : (b : Base) (stars : ℕ) → is_integer (object b stars) ≡ true → is_struct_behind 0 (object b stars) ≡ false
integral_plain (Base.Struct name) stars h = absurd (false≢true (sym (and_false (stars == 0)) ∙ h))
integral_plain _ stars h = and_false (stars == 0)

integer_plain : (k : Kind) → is_integer k ≡ true → IsPlainKind k
integer_plain (object b stars) h = record { no_struct = integral_plain b stars h; no_array = refl }
integer_plain _ h = absurd (false≢true h)

pub pointer_plain : (k : Kind) → is_pointer k ≡ true → IsPlainKind k
pointer_plain (object b stars) h =
    let low : 0 < stars = ltb-true 0 stars h in
    record { no_struct = ap (λ z. z && kinds.is_struct_base b) (ne_eqb stars 0 (λ none. omega (arith, low, none))); no_array = refl }
pointer_plain _ h = absurd (false≢true h)

mutex_plain : (k : Kind) → k ≡ mutex → IsPlainKind k
mutex_plain k is = record { no_struct = ap (is_struct_behind 0) is; no_array = ap is_array is }

module _ (integers_fit : IntegersFit) (references_fit : ReferencesFit) (mutexes_fit : MutexesFit) (grounds_fit : GroundsFit) (c : Context) (code : Code) (is : IsCodeOf c code) (signature : ℕ → Signature) (starts : ℕ → Bool) (lines : ℕ)
    (y : Typing) (typing : IsTypingOf y c) (entries : (p : Expression) → y.entry c p ≡ entry_of c p) (n : ℕ) (f : Function) (e : Expression) (at : IsOf c n f e) (cell : is_cell (target_of c e) ≡ true) (bases : BaseStands c e) where
  abbrev z : Setting
  z = setting c code signature starts lines

  pub inside : AllByRecursion (IsExpression c.program) (expressions e)
  inside =
      each (λ x. Contains (in_function f) x) (IsExpression c.program) (λ x has. record { owner = f; stands = there_at (functions_in c.program.typed.program.items) n f at.function; inside = has }) (expressions e) at.parts

  lvalue : IsPlainKind (kind_of c e) → IsCellLvalue c.program e
  lvalue plain = record {
    stands = self (IsExpression c.program) e inside;
    no_struct = plain.no_struct;
    no_array = plain.no_array;
    no_variable = λ x names. false≢true (sym (ap is_cell names) ∙ cell);
  }

  ground : IsPlainKind (kind_of c e) → IsGroundOf c e (ground_of z n y c e)
  ground plain = grounds_fit c code is z n y entries e (lvalue plain) inside

  cell_typed : (write : Bool) → IsFairUse c (signature n).alone write e → CellTyped z y c n e write
  cell_typed write fair = record {
    integer = λ kind site use_made. let plain = integer_plain (kind_of c e) kind in
        integers_fit c code is signature starts lines y typing n e (lvalue plain) (ground_of z n y c e) (ground plain) kind write fair site (lvalue_in c e) use_made;
    reference = λ kind modes found site use_made. let plain = pointer_plain (kind_of c e) kind in
        references_fit c code is signature starts lines y typing n e (lvalue plain) (ground_of z n y c e) (ground plain) kind modes found write fair inside bases site (lvalue_in c e) use_made;
  }

  lvalue_typed : AreFair c (signature n).alone e → LvalueTyped z y c n e
  lvalue_typed fair = record {
    read = cell_typed false fair.reads;
    assigned = λ x does. cell_typed true (fair.assigned x does);
    taken = λ does. cell_typed true (fair.taken does);
    mutex = λ kind. let plain = mutex_plain (kind_of c e) kind in mutexes_fit c code is signature starts lines y n e (lvalue plain) (ground_of z n y c e) (ground plain) kind;
  }

-- ---- the pointer through which an lvalue leads
same_site : (r : Resolution) (s : Span) (i : Identifier) (token : ℕ) → constant_use r (identifier s i) ≡ Some token → i.site.token ≡ token
same_site r s i token is = by (is_constant_named r (named_at r i.site.token)) is
  where
    by : (b : Bool) → cond b (Some i.site.token) None ≡ Some token → i.site.token ≡ token
    by true h = same_some i.site.token token h
    by false h = absurd (none_some token h)

module _ (c : Context) where
  -- it suits, and is a reference
  abbrev IsGoodPointer : Option Expression → Type 0
  IsGoodPointer None = Unit {0}
  IsGoodPointer (Some p) = Suits c p × (is_reference (kind_of c p) ≡ true)

  place_pointer : (e : Expression) → PlaceSuits c e → IsGoodPointer (pointer_of c.program.typed e)
  place_pointer (parentheses s a) h = place_pointer a h
  place_pointer (index s a i) h = by (is_array (kind_of c a)) h.0
    where
      by : (b : Bool) → Either b (PlaceSuits c a × (target c.program.typed None a ≡ in_global (global_of (target c.program.typed None a)) 0)) (Suits c a × (is_reference (kind_of c a) ≡ true)) → IsGoodPointer (cond b None (Some a))
      by true k = tt
      by false k = k
  place_pointer (field s a Dot n) h = place_pointer a h
  place_pointer (field s a Arrow n) h = h
  place_pointer (unary s Dereference a) h = h
  place_pointer _ h = tt

  value_pointer : (e : Expression) → Suits c e → IsGoodPointer (pointer_of c.program.typed e)
  value_pointer (parentheses s a) h = value_pointer a h
  value_pointer (index s a i) h = place_pointer (index s a i) h.0
  value_pointer (field s a Dot n) h = place_pointer a h.0
  value_pointer (field s a Arrow n) h = h.0
  value_pointer (unary s Dereference a) h = (h.0, h.1)
  value_pointer _ h = tt

  -- a name
  pointer_stands : (p : Expression) (token x : ℕ) → Suits c p × (is_reference (kind_of c p) ≡ true) → constant_use c.program.typed p ≡ Some token → named_at c.program.typed token ≡ Named.Variable x → slot_kind c.scope x ≡ Some true
  pointer_stands (identifier s i) token x h use_there names =
      let here : named_at c.program.typed i.site.token ≡ Named.Variable x = ap (named_at c.program.typed) (same_site c.program.typed s i token use_there) ∙ names in
      subst (NameSuits c (kind_of c (identifier s i)) (cell_at c.program (identifier s i))) here h.0 ∙ ap Some h.1
  pointer_stands _ token x h use_there names = absurd (none_some token use_there)

  base_stands : (e : Expression) → IsGoodPointer (pointer_of c.program.typed e) → BaseStands c e
  base_stands e h p token x leads use_there names = pointer_stands p token x (subst IsGoodPointer leads h) use_there names

pub bases_stand : BasesStand
bases_stand = record { values = λ c e h. base_stands c e (value_pointer c e h); places = λ c e h. base_stands c e (place_pointer c e h) }

pub lvalues_are_typed : IntegersFit → ReferencesFit → MutexesFit → GroundsFit → UsesAreFair → PathsLead → LvaluesAreTyped
lvalues_are_typed integers_fit references_fit mutexes_fit grounds_fit fair lead c code is signature starts lines alone y typing entries n f e at bases cell =
    let all = inside integers_fit references_fit mutexes_fit grounds_fit c code is signature starts lines y typing entries n f e at cell bases in
    lvalue_typed integers_fit references_fit mutexes_fit grounds_fit c code is signature starts lines y typing entries n f e at cell bases
    (fair c is.accepted (λ k. (signature k).alone) alone n f at.function e at.parts (lead c is.accepted e all at.stand))
