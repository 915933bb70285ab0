-- The cell of an lvalue is there, with what stands beside it in its element.
use Rattle.sharc_accepted_laws.proofs.{Imports.{◌≡◌, inl, inr, ⊎_elim, ℕ, ◌+◌, ◌<◌, Bool, true, false, List, [], ◌∷◌, length, get_or as slice_index_or, refl, ap, sym, ◌∙◌, subst, arith, cond, option_map, Option, Some, None, Span, Dot, Arrow, Dereference, Expression, parentheses, index, field, unary, is_array, Code, Cell, elements_of, Resolution, named_at, global_at, globals_in, kind_at, MeetsGlobal, MeetsGlobals, global_elements, field_place_named, cell_at, Assignment, modes_of, Sharing, locked, first_cell, Context, Target, global_of, in_global, in_global_at, in_object, in_object_at, target, cell_of, guard_cell, own_field, beside_field, lock_beside, lock_cell, globals_of, StaticType, Field, no_field, row_of, Refers, Element, OfGlobal, Label, static_of, BesideFits, AreLockedBeside, LocksStandBeside, GlobalsAre, ExpressionsFound, FieldFits, IsBehindPointer, IsInFile, IsOfObject, IsOfGlobal, NamesCell, no_cell, of_object, of_global, LvaluesFit, pointer_of, expression_shape, number, global_element, targets_of, HasBaseIn, HasIndexOf, IsCellNumber, IsPlaceNumber, HaveTarget, list_or, modes_of_pointer, modes_behind, kind_of_pointer, base_type, cells_in_each, IsCellLvalue, IsCodeOf, CellsStand, AccessesFit, GuardsFit, each_at, place_there as there_at}, AccessCells.{IsCellOf, ArePairOf, object_cell, element_cell, object_pair, element_pair, global_cell_at, global_pair, place_cell, place_pair}, Modes.{reaches, around, guard_there, HasAround, IsOnBase}}
use Rattle.sharc_flat.specs.Places.{variable, field_of}

index_here : (i : ℕ) (beside : Option ℕ) (Is : ℕ → ℕ → Type 0) (n : ℕ) → HasIndexOf i beside Is n → Is i n
index_here i None Is n has = has
index_here i (Some k) Is n has = has.0

index_next : (i : ℕ) (beside : Option ℕ) (Is : ℕ → ℕ → Type 0) (n k : ℕ) → beside ≡ Some k → HasIndexOf i beside Is n → Is (i + 1) k
index_next i None Is n k is has = absurd (cc)
index_next i (Some j) Is n k is has = let same : j ≡ k = cc in subst (Is (i + 1)) same has.1

-- field n of an element with these fields, and each one beside it
record Stands (m : Assignment) (code : Code) (q : Label) (e : Expression) (beside : Option ℕ) (n : ℕ) (a : Cell) (guard : ℕ → Cell) (s : StaticType) : Type 0 where
  fields : List Field
  here : IsCellOf m code q n a (slice_index_or fields n no_field)
  pair : (k : ℕ) → beside ≡ Some k → k < length fields → ArePairOf m code q n k a (guard k) (slice_index_or fields n no_field) (slice_index_or fields k no_field)
  fits : FieldFits m e n (modes_behind m e) (slice_index_or fields n no_field)
  others : (k : ℕ) → BesideFits m fields (slice_index_or fields k no_field).mode
  typed : (x : Sharing) (below : List Sharing) → modes_behind m e ≡ x ∷ below → (r : ℕ) × IsOnBase a r × (q.env r ≡ Refers s)

-- ---- what leads to a global leads through no pointer
no_global_of_object : (n : ℕ) (g k : ℕ) → IsOfGlobal (in_object n) g k → ⊥
no_global_of_object n g k h = ⊎_elim (λ (a : in_object n ≡ in_global g k). cc) (λ (b : in_object n ≡ in_global_at g k). cc) h

no_global_of_place : (n : ℕ) (g k : ℕ) → IsOfGlobal (in_object_at n) g k → ⊥
no_global_of_place n g k h = ⊎_elim (λ (a : in_object_at n ≡ in_global g k). cc) (λ (b : in_object_at n ≡ in_global_at g k). cc) h

pub nothing_else : (t : Target) → ((x : ℕ) → t ≡ variable x → ⊥) → ((n : ℕ) → IsOfObject t n → ⊥) → ((g n : ℕ) → IsOfGlobal t g n → ⊥) → ⊥
nothing_else (variable x) no_variable no_object no_global = no_variable x refl
nothing_else (in_global g n) no_variable no_object no_global = no_global g n (inl refl)
nothing_else (in_global_at g n) no_variable no_object no_global = no_global g n (inr refl)
nothing_else (in_object n) no_variable no_object no_global = no_object n (inl refl)
nothing_else (in_object_at n) no_variable no_object no_global = no_object n (inr refl)

indexed : (r : Resolution) (s : Span) (a i : Expression) (z : Bool) (t n g k : ℕ) → is_array (kind_at r a) ≡ z → IsOfGlobal (cond z (in_global_at t n) (in_object_at n)) g k → cond (is_array (kind_at r a)) None (Some a) ≡ None
indexed r s a i true t n g k is h = ap (λ z. cond z None (Some a)) is
indexed r s a i false t n g k is h = absurd (no_global_of_place n g k h)

pub no_pointer : (r : Resolution) (f : Option ℕ) (e : Expression) (g k : ℕ) → IsOfGlobal (target r f e) g k → pointer_of r e ≡ None
no_pointer r f (parentheses s a) g k h = no_pointer r f a g k h
no_pointer r f (index s a i) g k h =
    indexed r s a i (is_array (kind_at r a)) (global_of (target r None a)) (own_field f 0) g k refl h
no_pointer r f (field s a Dot n) g k h = no_pointer r (Some (own_field f (field_place_named r (named_at r n.site.token)))) a g k h
no_pointer r f (field s a Arrow n) g k h = absurd (no_global_of_object (own_field f (field_place_named r (named_at r n.site.token))) g k h)
no_pointer r f (unary s Dereference a) g k h = absurd (no_global_of_object (own_field f 0) g k h)
no_pointer r f _ g k h = refl

module _ (globals_are : GlobalsAre) (meets : MeetsGlobals) (found : ExpressionsFound) (locked_beside : LocksStandBeside) (c : Context) (code : Code) (is : IsCodeOf c code) (q : Label) (e : Expression) where
  abbrev m : Assignment
  m = c.program

  abbrev r : Resolution
  r = c.program.typed

  beside_all : AreLockedBeside m
  beside_all = locked_beside m is.accepted.resolved is.accepted.placed is.accepted.low is.accepted.least is.accepted.well

  -- ---- behind a pointer
  module _ (n : ℕ) (w : IsBehindPointer m e n) where
    behind_is : modes_behind m e ≡ modes_of m w.row
    behind_is = ap (modes_of_pointer m) w.leads ∙ ap (λ o. list_or (option_map (modes_of m) o)) w.row_is

    base_is : base_type c e ≡ static_of c (kind_at r w.pointer) (modes_of m w.row)
    base_is = ap (λ o. static_of c (kind_of_pointer r o) (modes_behind m e)) w.leads ∙ ap (static_of c (kind_at r w.pointer)) behind_is

    abbrev number_is : ℕ
    number_is = number m (expression_shape m w.pointer w.row)

    abbrev row_fields : List Field
    row_fields = (row_of (targets_of m) number_is).fields

    row_others : (k : ℕ) → BesideFits m row_fields (slice_index_or row_fields k no_field).mode
    row_others k = beside_all.rows (expression_shape m w.pointer w.row) ((found m is.accepted.resolved is.accepted.placed is.accepted.low is.accepted.least.modes w.pointer w.stands w.row w.row_is).there w.some) k

    row_fits : FieldFits m e n (modes_behind m e) (slice_index_or row_fields n no_field)
    row_fits = subst (λ l. FieldFits m e n l (slice_index_or row_fields n no_field)) (sym behind_is) w.fits

    object_stands : (beside : Option ℕ) (b : ℕ) → HasBaseIn code q b (base_type c e) → Stands m code q e beside n (Cell.Object b n) (λ k. Cell.Object b k) (base_type c e)
    object_stands beside b base =
        let own = subst (HasBaseIn code q b) base_is base in
        record {
          fields = row_fields;
          here = object_cell m code q b (static_of c (kind_at r w.pointer) (modes_of m w.row)) n own w.inside;
          pair = λ k named inside. object_pair m code q b (static_of c (kind_at r w.pointer) (modes_of m w.row)) n k own w.inside inside;
          fits = row_fits;
          others = row_others;
          typed = λ x below starts. (b, refl, base.refers);
        }

    place_stands : (beside : Option ℕ) (i b : ℕ) (element : Element) → HasBaseIn code q b (base_type c e) → HasIndexOf i beside (IsCellNumber q b element) n
        → Stands m code q e beside n (Cell.ObjectAt b i) (λ k. Cell.ObjectAt b (i + 1)) (base_type c e)
    place_stands beside i b element base indexes =
        let own = subst (HasBaseIn code q b) base_is base in
        let one = index_here i beside (IsCellNumber q b element) n indexes in
        record {
          fields = row_fields;
          here = element_cell m code q i b element (static_of c (kind_at r w.pointer) (modes_of m w.row)) n own one w.inside;
          pair = λ k named inside. element_pair m code q i b element (static_of c (kind_at r w.pointer) (modes_of m w.row)) n k own one (index_next i beside (IsCellNumber q b element) n k named indexes) w.inside inside;
          fits = row_fits;
          others = row_others;
          typed = λ x below starts. (b, refl, base.refers);
        }

  -- ---- in a global
  module _ (g n : ℕ) (w : IsInFile m e g n) (no_modes : modes_behind m e ≡ []) where
    abbrev fields_of_global : List Field
    fields_of_global = global_element m w.global

    some_elements : 0 < elements_of w.global.form
    some_elements = let one = (each_at MeetsGlobal (globals_in r.program.items) g w.global (meets r.program is.accepted.resolved.typed) w.defined).elements in omega (arith, one)

    global_others : (k : ℕ) → BesideFits m fields_of_global (slice_index_or fields_of_global k no_field).mode
    global_others k = beside_all.globals w.global (there_at (globals_in r.program.items) g w.global w.defined) k

    global_fits : FieldFits m e n (modes_behind m e) (slice_index_or fields_of_global n no_field)
    global_fits = subst (λ l. FieldFits m e n l (slice_index_or fields_of_global n no_field)) (sym no_modes) w.fits

    file_stands : (beside : Option ℕ) → Stands m code q e beside n (Cell.Global g (first_cell c.globals g + n)) (λ k. Cell.Global g (first_cell c.globals g + k)) (base_type c e)
    file_stands beside = subst (λ l. Stands m code q e beside n (Cell.Global g (first_cell l g + n)) (λ k. Cell.Global g (first_cell l g + k)) (base_type c e)) (sym is.globals) (record {
      fields = fields_of_global;
      here = global_cell_at globals_are m code is.tables q g w.global w.defined n some_elements w.inside;
      pair = λ k named inside. global_pair globals_are m code is.tables q g w.global w.defined n k some_elements w.inside inside;
      fits = global_fits;
      others = global_others;
      typed = λ x below starts. absurd (cc);
    })

    abbrev count : ℕ
    count = cells_in_each r (global_at r g)

    abbrev elements : ℕ
    elements = global_elements (global_at r g)

    count_is : count ≡ length fields_of_global
    count_is = ap (cells_in_each r) w.defined ∙ sym (globals_are m g w.global w.defined 0 n some_elements w.inside).cells

    elements_are : elements ≡ elements_of w.global.form
    elements_are = ap global_elements w.defined

    number_at : (i k : ℕ) (element : Element) → IsPlaceNumber c q g element i k → q.ints i ≡ OfGlobal (first_cell (globals_of r) g + k) count elements element
    number_at i k element h = subst (λ l. q.ints i ≡ OfGlobal (first_cell l g + k) count elements element) is.globals h

    array_stands : (beside : Option ℕ) (i : ℕ) (element : Element) → HasIndexOf i beside (IsPlaceNumber c q g element) n
        → Stands m code q e beside n (Cell.GlobalAt g i) (λ k. Cell.GlobalAt g (i + 1)) (base_type c e)
    array_stands beside i element indexes =
        let one = number_at i n element (index_here i beside (IsPlaceNumber c q g element) n indexes) in
        record {
          fields = fields_of_global;
          here = place_cell globals_are m code is.tables q g w.global w.defined i count elements element n count_is elements_are one w.inside;
          pair = λ k named inside. place_pair globals_are m code is.tables q g w.global w.defined i count elements element n k count_is elements_are one
              (number_at (i + 1) k element (index_next i beside (IsPlaceNumber c q g element) n k named indexes)) w.inside inside;
          fits = global_fits;
          others = global_others;
          typed = λ x below starts. absurd (cc);
        }

  -- ---- each of them
  module _ (element : Element) (i b : ℕ) (beside : Option ℕ) where
    abbrev StandsAs : Target → Type 0
    StandsAs t = Stands m code q e beside (field_of t) (cell_of c.globals i b t) (λ k. guard_cell c.globals k i b t) (base_type c e)

    none_behind : (g n : ℕ) → IsOfGlobal (target r None e) g n → modes_behind m e ≡ []
    none_behind g n h = ap (modes_of_pointer m) (no_pointer r None e g n h)

    registers_as : (t u : Target) → t ≡ u → HaveTarget c code q t beside (base_type c e) element i b → HaveTarget c code q u beside (base_type c e) element i b
    registers_as t u same have = subst (λ z. HaveTarget c code q z beside (base_type c e) element i b) same have

    stands : (t : Target) → target r None e ≡ t → ((x : ℕ) → t ≡ variable x → ⊥) → HaveTarget c code q t beside (base_type c e) element i b → NamesCell m e t → StandsAs t
    stands t here no_variable have (no_cell _ no_object no_global) = absurd (nothing_else t no_variable no_object no_global)
    stands t here no_variable have (of_object _ n at w) =
        ⊎_elim (λ same. subst StandsAs (sym same) (object_stands n w beside b (registers_as t (in_object n) same have)))
        (λ same. let all = registers_as t (in_object_at n) same have in subst StandsAs (sym same) (place_stands n w beside i b element all.0 all.1)) at
    stands t here no_variable have (of_global _ g n at w) =
        ⊎_elim (λ same. subst StandsAs (sym same) (file_stands g n w (none_behind g n (inl (here ∙ same))) beside))
        (λ same. subst StandsAs (sym same) (array_stands g n w (none_behind g n (inr (here ∙ same))) beside i element (registers_as t (in_global_at g n) same have))) at

-- ---- the laws
pub lvalue_cells : LvaluesFit → (c : Context) (code : Code) → IsCodeOf c code → (e : Expression) → IsCellLvalue c.program e → NamesCell c.program e (target c.program.typed None e)
lvalue_cells fit c code is e lvalue = fit c.program is.accepted.resolved is.accepted.placed is.accepted.low is.accepted.least is.accepted.well e lvalue.stands lvalue.no_struct lvalue.no_array

pub cells_stand : GlobalsAre → MeetsGlobals → ExpressionsFound → LocksStandBeside → LvaluesFit → CellsStand
cells_stand globals_are meets found locked_beside fit c code is q e lvalue element i b beside have =
    let w = stands globals_are meets found locked_beside c code is q e element i b beside (target c.program.typed None e) refl lvalue.no_variable have (lvalue_cells fit c code is e lvalue) in
    record { field = slice_index_or w.fields (field_of (target c.program.typed None e)) no_field; there = w.here.there; before = w.here.before; fits = w.fits }

lock_is_beside : (c : Context) (i b : ℕ) (t : Target) (mode : Sharing) (k : ℕ) → beside_field c.program.typed mode ≡ Some k → lock_cell c i b t mode ≡ guard_cell c.globals k i b t
lock_is_beside c i b t mode k is = ap (lock_beside c.globals i b t) is

pub accesses_fit : GlobalsAre → MeetsGlobals → ExpressionsFound → LocksStandBeside → LvaluesFit → AccessesFit
accesses_fit globals_are meets found locked_beside fit c code is q e lvalue element i b have no_mutex gated ls write fair spot mode_is lock_is =
    let t = target c.program.typed None e in
    let beside = beside_field c.program.typed (cell_at c.program e) in
    let w = stands globals_are meets found locked_beside c code is q e element i b beside t refl lvalue.no_variable have (lvalue_cells fit c code is e lvalue) in
    let own = slice_index_or w.fields (field_of t) no_field in
    let mode_fits = w.fits.mode no_mutex in
    let has : HasAround globals_are c is.globals code is.tables ls q (field_of (target c.program.typed None e)) (modes_behind c.program e) (cell_at c.program e) (cell_of c.globals i b (target c.program.typed None e)) (λ k. guard_cell c.globals k i b (target c.program.typed None e)) w.fields spot.lock = record {
      gated = gated;
      lock_is = λ k named. lock_is ∙ lock_is_beside c i b t (cell_at c.program e) k named;
      pair = w.pair;
      path = fair.path;
      typed = λ l below starts. let on = w.typed (locked l) below starts in (on.0, base_type c e, on.1, on.2, refl);
    } in
    record {
      field = own;
      fits = w.fits;
      reaches = reaches globals_are c is.globals code is.tables ls q (field_of t) (modes_behind c.program e) (cell_at c.program e) (cell_of c.globals i b t) own w.here mode_fits write spot mode_is fair
          (around globals_are c is.globals code is.tables ls q (field_of t) (modes_behind c.program e) (cell_at c.program e) (cell_of c.globals i b t) (λ k. guard_cell c.globals k i b t) w.fields spot.lock has own.mode mode_fits (w.others (field_of t)));
    }

pub guards_fit : GlobalsAre → MeetsGlobals → ExpressionsFound → LocksStandBeside → LvaluesFit → GuardsFit
guards_fit globals_are meets found locked_beside fit c code is q e lvalue element i b have no_mutex path mutex guard_is =
    let t = target c.program.typed None e in
    let beside = beside_field c.program.typed (cell_at c.program e) in
    let w = stands globals_are meets found locked_beside c code is q e element i b beside t refl lvalue.no_variable have (lvalue_cells fit c code is e lvalue) in
    guard_there c code q (field_of t) (modes_behind c.program e) (cell_at c.program e) (cell_of c.globals i b t) (λ k. guard_cell c.globals k i b t) w.fields mutex guard_is
    w.pair path (slice_index_or w.fields (field_of t) no_field).mode (w.fits.mode no_mutex) (w.others (field_of t))
