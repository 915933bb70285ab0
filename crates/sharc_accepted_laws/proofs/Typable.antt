-- Each expression and each lvalue of a function of an accepted program is typable, by their forms.
use Rattle.sharc_accepted_laws.proofs.{Imports.{is_struct_base, ◌≡◌, ℕ, zero, suc, ◌+◌, ◌==◌, ◌&&◌, eqb-true, arith, drop, Bool, true, false, cond, List, ◌++◌, refl, ap, sym, ◌∙◌, subst, Option, Some, None, bytes_eq, codes, if◌then◌else◌, false≢true, Base, Site, Span, Identifier, Dot, Arrow, BinaryOperator, LogicalOr, LogicalAnd, Equal, NotEqual, Unlock, Free, UnaryOperator, Negate, Not, Complement, Dereference, is_lvalue, expressions, in_arguments, Expression, identifier, constant, parentheses, call, spawn, on_value, on_place, cast, index, field, unary, binary, Arguments, no_arguments, argument, Function, Named, Kind, object, null, mutex, is_integer, is_pointer, is_array, is_struct_behind, declared_kinds, element_kind, Code, Use, Resolution, named_at, function_at, global_at, kind_at, parameters_of, HasType as IsOfType, element_cells, field_place_named, is_reference, is_mutex_kind, cell_at, Assignment, IsTaken, cast_away, freed, kind_of, is_ref, target_of, mode_of, guard_of, what_names, in_global, in_global_at, in_object_at, global_of, named_target, target, own_field, Context, IsScalar, Either, is_cell, NameSuits, CallSuits, IndexSuits, TakeSuits, OperandsSuit, Suits, ArgumentsSuit, ReferencesSuit, PlaceSuits, StaticType, cells_of, Setting, type_by, IsPointer, ValueTyped, NameTyped, UnaryTyped, ElementTyped, IndexTypable, Takes, CallTyped, CallTypable, IsTypable, IsPlaceTypable, AreTypable, cells_in_each, IsOf, ExpressionStands, entry_of, pointer_of, wants_of, OperandSuits, typing, CellsTyped, ExpressionsAreTypable, setting_of, IsSet}, Arguments.{IsValued, AllSuit, AllGo, Parts, part_of, first_part, second_part, suit_all}, Calls.{call_goes, call_is_typed}, Conditions.known_call, Facts.Laws, Fields.{Inside, TopFits, IsGuard, no_guard, own_guard, top_fits}, Forms.{integer_no_reference, integer_scalar, pointer_reference, reference_scalar, index_pointer, arrow_pointer, star_pointer, cast_operand, free_operand, lock_operand, unlock_operand}, Members.first_of, Spawns.{handed_scalar, spawn_is_typed}, Wholes.either_cell}
use Rattle.sharc_tree.specs.declared.tree.expression.PlaceCall.TheVariants.{Lock}
use Rattle.sharc_flat.specs.Suits as suits
use Rattle.sharc_typed_laws.specs.Typable.{CellTyped, HasType}
use Rattle.sharc_accepted_laws.proofs.Facts as facts

-- ---- operands
same_sort_scalars : (j k : Kind) → suits.SameSort j k → IsScalar j × IsScalar k
same_sort_scalars j k = by (is_reference j) refl
  where
    by : (b : Bool) → is_reference j ≡ b → Either b (is_reference k ≡ true) ((is_integer j ≡ true) × (is_integer k ≡ true)) → IsScalar j × IsScalar k
    by true ref h = (reference_scalar j ref, reference_scalar k h)
    by false other h = (integer_scalar j h.0, integer_scalar k h.1)

both_integers : (j k : Kind) → (is_integer j ≡ true) × (is_integer k ≡ true) → IsScalar j × IsScalar k
both_integers j k h = (integer_scalar j h.0, integer_scalar k h.1)

operand_scalars : (o : BinaryOperator) (j k : Kind) → OperandsSuit o j k → IsScalar j × IsScalar k
operand_scalars LogicalOr j k h = h
operand_scalars LogicalAnd j k h = h
operand_scalars Equal j k h = same_sort_scalars j k h
operand_scalars NotEqual j k h = same_sort_scalars j k h
operand_scalars _ j k h = both_integers j k h

more_stars : (n : ℕ) → (suc n == 0) ≡ false
more_stars n = by (suc n == 0) refl
  where
    by : (z : Bool) → (suc n == 0) ≡ z → z ≡ false
    by true h = let e = eqb-true (suc n) 0 h in absurd (omega (arith, e))
    by false h = refl

-- a value is no struct, no array and no mutex
scalar_plain : (k : Kind) → IsScalar k → (is_struct_behind 0 k ≡ false) × (is_array k ≡ false) × (is_mutex_kind k ≡ false)
scalar_plain (object Base.Int zero) h = (refl, refl, refl)
scalar_plain (object Base.Char zero) h = (refl, refl, refl)
scalar_plain (object Base.Long zero) h = (refl, refl, refl)
scalar_plain (object Base.Mutex (suc n)) h = (ap (λ z. z && false) (more_stars n), refl, more_stars n)
scalar_plain (object b (suc n)) h = (ap (λ z. z && is_struct_base b) (more_stars n), refl, refl)
scalar_plain null h = (refl, refl, refl)
scalar_plain _ h = absurd (false≢true (h refl))

module _ (laws : Laws) (c : Context) (code : Code) (alone : ℕ → Bool) (lines : ℕ) (set : IsSet c.program c.globals code alone) (n : ℕ) (g : Function)
    (cells : CellsTyped (setting_of c.program c.globals code alone lines) c n g) where
  abbrev m : Assignment
  m = c.program

  abbrev r : Resolution
  r = c.program.typed

  abbrev z : Setting
  z = setting_of c.program c.globals code alone lines

  abbrev At : Expression → Type 0
  At e = IsOf c n g e

  abbrev Fits : Option ℕ → Option ℕ → Expression → Type 0
  Fits own guard e = TopFits z n c (target r own e) (pointer_of r e) guard

  one : (e : Expression) (k : Kind) → IsOfType r e k → kind_at r e ≡ k
  one = laws.one_type r set.accepted.resolved set.accepted.placed set.accepted.low

  has_type : (e : Expression) → At e → IsOfType r e (kind_of c e)
  has_type e at = facts.has_type laws c code alone lines set n g e at

  pointer_typed : (e : Expression) → At e → is_pointer (kind_of c e) ≡ true → IsPointer z n typing c e
  pointer_typed e at pointer = facts.pointer_of laws c code alone lines set n g e at pointer

  -- the field that is accessed is one of its element
  fits_with : (e : Expression) → At e → (guard : Option ℕ) → IsGuard z n c e guard → is_struct_behind 0 (kind_of c e) ≡ false → is_array (kind_of c e) ≡ false → Fits None guard e
  fits_with e at guard is no_struct no_array =
      top_fits laws.fit laws.found laws.beside laws.globals_are laws.meets_globals z n c set.accepted e (facts.expression_of laws c code alone lines set n g e at) (cells.paths e at) guard is no_struct no_array

  fits_own : (e : Expression) → At e → IsScalar (kind_of c e) → Fits None (guard_of c e) e
  fits_own e at scalar = let p = scalar_plain (kind_of c e) scalar in fits_with e at (guard_of c e) (own_guard p.2) p.0 p.1

  value_typed : (e : Expression) → At e → Suits c e → is_lvalue e ≡ true → is_cell (target_of c e) ≡ true → IsScalar (kind_of c e) → (site : Site) → ValueTyped z n typing c e site
  value_typed e at suits lvalue cell scalar site = facts.value_typed laws c code alone lines set n g e at cells (laws.bases.values c e suits) lvalue cell scalar site

  -- ---- names
  name_typed : (s : Span) (i : Identifier) → At (identifier s i) → Suits c (identifier s i) → IsValued c n g (identifier s i) → NameTyped z n typing c (identifier s i) i.site (what_names c i.site.token)
  name_typed s i at suits value = by (named_at r i.site.token) refl suits
    where
      by : (what : Named) → named_at r i.site.token ≡ what → NameSuits c (kind_of c (identifier s i)) (cell_at m (identifier s i)) what → NameTyped z n typing c (identifier s i) i.site what
      by (Named.Variable x) names h = laws.values.variables z n c set.accepted s i x (facts.is_at laws c code alone lines set n g (identifier s i) at) names h (value refl)
      by (Named.Global k) names h =
          let to : target_of c (identifier s i) ≡ in_global k 0 = ap (λ w. named_target w 0) names in
          subst (λ t. CellTyped z n typing c (identifier s i) i.site t (is_ref c (identifier s i))) to (facts.cell_typed laws c code alone lines set n g (identifier s i) at cells (laws.bases.values c (identifier s i) suits) refl (ap is_cell to) (value refl) i.site)
      by _ names h = h

  -- ---- calls
  call_typable : (s : Span) (i : Identifier) (all : Arguments) → At (call s i all) → Suits c (call s i all)
      → ((kinds : List Kind) (wants : ℕ → StaticType) → AllSuit c n g all → AllGo z n c kinds wants all → AreTypable z n typing c kinds wants all)
      → IsTypable z n typing c (call s i all)
  call_typable s i all at suits args = by (named_at r i.site.token) refl suits
    where
      by : (what : Named) → named_at r i.site.token ≡ what
          → CallSuits c (kind_of c (call s i all)) what (λ kinds. ArgumentsSuit c kinds all) (ReferencesSuit c (if bytes_eq i.text (codes "wait") then 2 else 1) all)
          → CallTypable z n typing c (call s i all) what i.text all (λ kinds wants. AreTypable z n typing c kinds wants all)
      by (Named.Function k) names (f, there, kind_is, suit) =
          subst (λ o. (wants : ℕ → StaticType) × AreTypable z n typing c (declared_kinds (parameters_of o)) wants all × CallTyped z n typing c (call s i all) k (declared_kinds (parameters_of o)) wants all) (sym there) (
            wants_of c f.parameters all,
            args (declared_kinds f.parameters) (wants_of c f.parameters all) (suit_all c n g (declared_kinds f.parameters) all suit) (call_goes laws c code alone lines set n g s i all at k f names there kind_is suit),
            call_is_typed laws c code alone lines set n g s i all at k f names there kind_is suit,
          )
      by Named.Known names h = known_call laws c code alone lines set n g (cells.known s i all at names) s i all at names h.0 args (h.1, h.2)
      by _ names h = absurd h

  -- ---- elements
  index_typable : (own guard : Option ℕ) (s : Span) (x i : Expression) → At (index s x i) → At x → IndexSuits c x i (PlaceSuits c x) (Suits c x) (Suits c i) → Fits own guard (index s x i)
      → (PlaceSuits c x → Fits None None x → IsPlaceTypable z n typing c None None x) → (Suits c x → IsValued c n g x → IsTypable z n typing c x) → (Suits c i → IsValued c n g i → IsTypable z n typing c i)
      → IndexTypable z n typing c own guard x i (IsPlaceTypable z n typing c None None x) (IsTypable z n typing c x) (IsTypable z n typing c i)
  index_typable own guard s x i at at_x suits fits place value number =
      let top = by (is_array (kind_of c x)) refl suits.0 fits in
      (top.0, number suits.1 (λ l. integer_scalar (kind_of c i) suits.2), (integer_no_reference (kind_of c i) suits.2, suits.2), top.1)
    where
      by : (b : Bool) → is_array (kind_of c x) ≡ b → Either b (PlaceSuits c x × (target r None x ≡ in_global (global_of (target r None x)) 0)) (Suits c x × (is_reference (kind_of c x) ≡ true))
          → TopFits z n c (cond b (in_global_at (global_of (target r None x)) (own_field own 0)) (in_object_at (own_field own 0))) (cond b None (Some x)) guard
          → Either b (IsPlaceTypable z n typing c None None x × (target r None x ≡ in_global (global_of (target r None x)) 0))
          (IsTypable z n typing c x × IsPointer z n typing c x × (element_cells r (element_kind (kind_of c x)) ≡ cells_of z.targets (type_by (entry_of c x)).target))
          × ElementTyped z n typing c x (own_field own 0) guard
      by true indexed h f =
          let a = set.accepted in
          let w = laws.arrays m a.resolved a.placed a.low a.least a.well x (facts.expression_of laws c code alone lines set n g x at_x) indexed in
          let count : cells_in_each r (global_at r (global_of (target r None x))) ≡ element_cells r (element_kind (kind_of c x)) =
          ap (λ t. cells_in_each r (global_at r (global_of t))) w.place ∙ ap (cells_in_each r) w.defined ∙ ap (element_cells r) (sym w.element) in
          ((place h.0 (subst (λ t. TopFits z n c t (pointer_of r x) None) (sym w.place) tt), h.1), subst (λ count. Inside z n c count (own_field own 0) guard) count f)
      by false other h f =
          let pointer = index_pointer r one s x i (kind_of c (index s x i)) (has_type (index s x i) at) other in
          let count = facts.cells_are laws c code alone lines set n g x at_x pointer in
          ((value h.0 (λ l. reference_scalar (kind_of c x) h.1), pointer_typed x at_x pointer, count), subst (λ count. Inside z n c count (own_field own 0) guard) (sym count) f)

  index_cell : (s : Span) (x i : Expression) → is_cell (target_of c (index s x i)) ≡ true
  index_cell s x i = either_cell (is_array (kind_of c x)) _ _ _

  -- ---- what is taken, locked and unlocked
  take : (x : Expression) → At x → PlaceSuits c x → IsTaken m x → is_lvalue x ≡ true → is_pointer (kind_of c x) ≡ true → (use_made : Use) → TakeSuits c (mode_of c x) (target_of c x)
      → Takes z n typing c x use_made (type_by (entry_of c x)) (target_of c x)
  take x at placed takes lvalue pointer use_made suits = facts.takes_typed laws c code alone lines set n g x at cells (laws.bases.places c x placed) takes lvalue pointer use_made suits

  pointer_scalar : (x : Expression) → is_pointer (kind_of c x) ≡ true → IsScalar (kind_of c x)
  pointer_scalar x pointer = reference_scalar (kind_of c x) (pointer_reference (kind_of c x) pointer)

  mutex_fits : (x : Expression) → At x → kind_of c x ≡ mutex → Fits None None x
  mutex_fits x at is = fits_with x at None no_guard (ap (is_struct_behind 0) is) (ap is_array is)

  -- ---- operands
  value_has_type : (x : Expression) → At x → IsScalar (kind_of c x) → HasType z n typing c x
  value_has_type x at scalar = laws.values.values z n c set.accepted x (facts.is_at laws c code alone lines set n g x at) scalar

  operand_typable : (s : Span) (o : UnaryOperator) (x : Expression) → At x → IsScalar (kind_of c x) → OperandSuits o (kind_of c x) → IsTypable z n typing c x
      → IsTypable z n typing c x × HasType z n typing c x × UnaryTyped z n typing c (unary s o x) o x
  operand_typable s o x at scalar suits typed = (typed, value_has_type x at scalar, laws.values.unaries z n c set.accepted s o x (facts.is_at laws c code alone lines set n g x at) suits)

  -- ---- by their forms
  mutual
    pub typable : (e : Expression) → At e → Suits c e → IsValued c n g e → IsTypable z n typing c e
    typable (identifier s i) at suits value = name_typed s i at suits value
    typable (constant s k) at suits value = laws.values.constants z n c s k (set.constants s k (facts.expression_of laws c code alone lines set n g (constant s k) at))
    typable (parentheses s x) at suits value = (typable x (record { function = at.function; parts = at.parts.1; stand = at.stand.1 }) suits value, refl)
    typable (call s i all) at suits value = call_typable s i all at suits (λ kinds wants suit go. arguments all (at.parts.1, at.stand.1) at.function kinds wants suit go)
    typable (spawn s i x) at suits value = (
      typable x (record { function = at.function; parts = at.parts.1; stand = at.stand.1 }) suits.0 (λ l. handed_scalar laws c code alone lines set n g s i x at),
      (refl, refl),
      spawn_is_typed laws c code alone lines set n g s i x at suits.0,
    )
    typable (on_value s w x) at suits value =
        (typable x (record { function = at.function; parts = at.parts.1; stand = at.stand.1 }) suits.0 (λ l. integer_scalar (kind_of c x) suits.1), (integer_no_reference (kind_of c x) suits.1, suits.1))
    typable (on_place s Lock x) at suits value =
        let below : At x = record { function = at.function; parts = at.parts.1; stand = at.stand.1 } in
        let operand = lock_operand r one s x (kind_of c (on_place s Lock x)) (has_type (on_place s Lock x) at) in
        (place x below suits.0 None None (mutex_fits x below operand.1), suits.1, (cells.lvalues x below (laws.bases.places c x suits.0) suits.1).mutex operand.1)
    typable (on_place s Unlock x) at suits value =
        let below : At x = record { function = at.function; parts = at.parts.1; stand = at.stand.1 } in
        let operand = unlock_operand r one s x (kind_of c (on_place s Unlock x)) (has_type (on_place s Unlock x) at) in
        (place x below suits.0 None None (mutex_fits x below operand.1), suits.1, (cells.lvalues x below (laws.bases.places c x suits.0) suits.1).mutex operand.1)
    typable (on_place s Free x) at suits value =
        let below : At x = record { function = at.function; parts = at.parts.1; stand = at.stand.1 } in
        let operand = free_operand r one s x (kind_of c (on_place s Free x)) (has_type (on_place s Free x) at) in
        let takes = take x below suits.0 (freed (facts.expression_of laws c code alone lines set n g (on_place s Free x) at)) operand.0 operand.1 (Use.Free None) suits.1.0 in (
          place x below suits.0 None (guard_of c x) (fits_own x below (pointer_scalar x operand.1)),
          laws.taking.frees z n c set.accepted refl set.tables x (facts.is_at laws c code alone lines set n g x below) operand.1 takes,
        )
    typable (cast s t x) at suits value =
        let below : At x = record { function = at.function; parts = at.parts.1; stand = at.stand.1 } in
        let operand = cast_operand r one s t x (kind_of c (cast s t x)) (has_type (cast s t x) at) in
        let takes = take x below suits.0 (cast_away (facts.expression_of laws c code alone lines set n g (cast s t x) at)) operand.0 operand.1 (Use.Cast None) suits.1 in (
          place x below suits.0 None (guard_of c x) (fits_own x below (pointer_scalar x operand.1)),
          laws.taking.casts z n c set.accepted refl s t x (facts.is_at laws c code alone lines set n g (cast s t x) at) (first_of (ExpressionStands c) x at.stand.1) takes,
        )
    typable (index s x i) at suits value =
        let both : Parts c n g (expressions x ++ expressions i) = (at.parts.1, at.stand.1) in
        let of_x : At x = part_of c n g at.function x (first_part c n g (expressions x) (expressions i) both) in
        let of_i : At i = part_of c n g at.function i (second_part c n g (expressions x) (expressions i) both) in (
          index_typable None (guard_of c (index s x i)) s x i at of_x suits.0 (fits_own (index s x i) at (value refl))
              (λ p f. place x of_x p None None f) (λ q v. typable x of_x q v) (λ q v. typable i of_i q v),
          value_typed (index s x i) at suits refl (index_cell s x i) (value refl) s.first,
        )
    typable (field s x Dot k) at suits value = (
      place x (record { function = at.function; parts = at.parts.1; stand = at.stand.1 }) suits.0 (Some (field_place_named r (what_names c k.site.token))) (guard_of c (field s x Dot k)) (fits_own (field s x Dot k) at (value refl)),
      value_typed (field s x Dot k) at suits refl suits.2 (value refl) s.first,
    )
    typable (field s x Arrow k) at suits value =
        let below : At x = record { function = at.function; parts = at.parts.1; stand = at.stand.1 } in (
          (typable x below suits.0.0 (λ l. reference_scalar (kind_of c x) suits.0.1), pointer_typed x below (arrow_pointer r one s x k (kind_of c (field s x Arrow k)) (has_type (field s x Arrow k) at))),
          value_typed (field s x Arrow k) at suits refl suits.2 (value refl) s.first,
        )
    typable (unary s Negate x) at suits value =
        let below : At x = record { function = at.function; parts = at.parts.1; stand = at.stand.1 } in
        operand_typable s Negate x below (integer_scalar (kind_of c x) suits.1) suits.1 (typable x below suits.0 (λ l. integer_scalar (kind_of c x) suits.1))
    typable (unary s Not x) at suits value =
        let below : At x = record { function = at.function; parts = at.parts.1; stand = at.stand.1 } in
        operand_typable s Not x below suits.1 tt (typable x below suits.0 (λ l. suits.1))
    typable (unary s Complement x) at suits value =
        let below : At x = record { function = at.function; parts = at.parts.1; stand = at.stand.1 } in
        operand_typable s Complement x below (integer_scalar (kind_of c x) suits.1) suits.1 (typable x below suits.0 (λ l. integer_scalar (kind_of c x) suits.1))
    typable (unary s Dereference x) at suits value =
        let below : At x = record { function = at.function; parts = at.parts.1; stand = at.stand.1 } in (
          typable x below suits.0 (λ l. reference_scalar (kind_of c x) suits.1),
          pointer_typed x below (star_pointer r one s x (kind_of c (unary s Dereference x)) (has_type (unary s Dereference x) at)),
          value_typed (unary s Dereference x) at suits refl refl (value refl) s.first,
        )
    typable (binary s o site x y) at suits value =
        let both : Parts c n g (expressions x ++ expressions y) = (at.parts.1, at.stand.1) in
        let of_x : At x = part_of c n g at.function x (first_part c n g (expressions x) (expressions y) both) in
        let of_y : At y = part_of c n g at.function y (second_part c n g (expressions x) (expressions y) both) in
        let scalars = operand_scalars o (kind_of c x) (kind_of c y) suits.2 in (
          typable x of_x suits.0 (λ l. scalars.0),
          value_has_type x of_x scalars.0,
          typable y of_y suits.1 (λ l. scalars.1),
          value_has_type y of_y scalars.1,
          laws.values.binaries z n c s o site x y suits.2,
        )

    pub place : (e : Expression) → At e → PlaceSuits c e → (own guard : Option ℕ) → Fits own guard e → IsPlaceTypable z n typing c own guard e
    place (parentheses s x) at suits own guard fits = place x (record { function = at.function; parts = at.parts.1; stand = at.stand.1 }) suits own guard fits
    place (index s x i) at suits own guard fits =
        let both : Parts c n g (expressions x ++ expressions i) = (at.parts.1, at.stand.1) in
        let of_x : At x = part_of c n g at.function x (first_part c n g (expressions x) (expressions i) both) in
        let of_i : At i = part_of c n g at.function i (second_part c n g (expressions x) (expressions i) both) in
        index_typable own guard s x i at of_x suits fits (λ p f. place x of_x p None None f) (λ q v. typable x of_x q v) (λ q v. typable i of_i q v)
    place (field s x Dot k) at suits own guard fits =
        place x (record { function = at.function; parts = at.parts.1; stand = at.stand.1 }) suits (Some (own_field own (field_place_named r (what_names c k.site.token)))) guard fits
    place (field s x Arrow k) at suits own guard fits =
        let below : At x = record { function = at.function; parts = at.parts.1; stand = at.stand.1 } in
        (typable x below suits.0 (λ l. reference_scalar (kind_of c x) suits.1), pointer_typed x below (arrow_pointer r one s x k (kind_of c (field s x Arrow k)) (has_type (field s x Arrow k) at)))
    place (unary s Dereference x) at suits own guard fits =
        let below : At x = record { function = at.function; parts = at.parts.1; stand = at.stand.1 } in
        (typable x below suits.0 (λ l. reference_scalar (kind_of c x) suits.1), pointer_typed x below (star_pointer r one s x (kind_of c (unary s Dereference x)) (has_type (unary s Dereference x) at)))
    place _ at suits own guard fits = tt

    arguments : (all : Arguments) → Parts c n g (in_arguments all) → function_at r n ≡ Some g → (kinds : List Kind) (wants : ℕ → StaticType) → AllSuit c n g all → AllGo z n c kinds wants all → AreTypable z n typing c kinds wants all
    arguments no_arguments parts is kinds wants suit go = tt
    arguments (argument x rest) parts is kinds wants suit go = (
      typable x (part_of c n g is x (first_part c n g (expressions x) (in_arguments rest) parts)) suit.0.0 suit.0.1,
      go.0,
      arguments rest (second_part c n g (expressions x) (in_arguments rest) parts) is (drop 1 kinds) (λ p. wants (p + 1)) suit.1 go.1,
    )

pub expressions_are_typable : Laws → ExpressionsAreTypable
expressions_are_typable laws c code alone lines set n g cells = record {
  values = λ e at suits value. typable laws c code alone lines set n g cells e at suits value;
  places = λ u at suits no_struct no_array. record {
    bare_place = place laws c code alone lines set n g cells u at suits None None (fits_with laws c code alone lines set n g cells u at None no_guard no_struct no_array);
    place = λ plain. place laws c code alone lines set n g cells u at suits None (guard_of c u) (fits_with laws c code alone lines set n g cells u at (guard_of c u) (own_guard plain) no_struct no_array);
  };
}
