-- The reference in the cell of an lvalue has the type that the source gives it.
use Rattle.sharc_accepted_laws.proofs.{Imports.{◌≡◌, ⊎_elim, ℕ, zero, suc, ◌==◌, Bool, true, false, cond, List, [], ◌∷◌, map, refl, ap, sym, ◌∙◌, subst, arith, eqb-true, option_map, Option, Some, None, false≢true, ltb-true, Base, Dot, Arrow, Dereference, Expression, identifier, parentheses, index, field, unary, Named, Kind, object, is_array, is_pointer, Code, named_at, kind_at, is_mutex_kind, cell_at, Assignment, base_of, Targets, row_at, modes_of, modes_at, constant_use, is_constant_named, Sharing, Context, Either, is_cell, Target, in_object, in_object_at, has_base, target, cell_of, guard_field, spot_of, Content, Field, Refers, Gate, Label, SameReference, Itself, IsCopy, HasCopy, Copies, Chained, gated, AreFieldLocks, PointsTo, Typing, IsCopyNamed, IsCopyOf, IsPointerCopy, Ground, HasBaseAt, ReachesReference, element_locks, pointee_locks, content_locks, BaseIs, IsBased, PlacesPoint, held_named, ScopeLaws, register, locks_at, static_of, IsOfObject, IsOfGlobal, NamesCell, no_cell, of_object, of_global, LvaluesFit, pointer_of, below_locks, locks_below, cell_locks, PointerFits, ContentFits, Form, form_of, shape_of, expression_shape, number, modes_of_pointer, kind_of_pointer, list_or, modes_behind, base_type, IsCellLvalue, CellsStand, AccessesFit, GuardsFit, BaseStands, setting, IsTypingOf, IsGroundOf, ReferencesFit, same_some, none_some}, Joining.{IsLike, through}, Standing.{no_pointer, nothing_else, lvalue_cells}}
use Rattle.sharc_flat.specs.Places.{variable, field_of}

-- ---- locks in the table
below_same : (fs : List Form) → below_locks fs ≡ element_locks fs
below_same [] = refl
below_same (f ∷ below) = refl

pointee_same : (m : Assignment) (o : Option (List Sharing)) → locks_below o ≡ pointee_locks o
pointee_same m None = refl
pointee_same m (Some modes) = below_same (map form_of modes)

locks_same : (m : Assignment) (e : Expression) → cell_locks m e ≡ content_locks m e
locks_same m (parentheses s a) = locks_same m a
locks_same m (index s a i) = by (is_array (kind_at m.typed a)) (locks_same m a)
  where
    by : (z : Bool) → cell_locks m a ≡ content_locks m a → cond z (cell_locks m a) (locks_below (modes_at m a)) ≡ cond z (content_locks m a) (pointee_locks (modes_at m a))
    by true h = h
    by false h = pointee_same m (modes_at m a)
locks_same m (unary s Dereference a) = pointee_same m (modes_at m a)
locks_same m _ = refl

-- ---- the base
-- by the pointer through which the lvalue leads
based : (c : Context) (l : Label) (r : ℕ) (e : Expression) → ((p : Expression) → pointer_of c.program.typed e ≡ Some p → BaseIs c l r p) → IsBased c l r e
based c l r (parentheses s a) h = based c l r a h
based c l r (index s a i) h = by (is_array (kind_at c.program.typed a)) refl
  where
    by : (z : Bool) → is_array (kind_at c.program.typed a) ≡ z → Either z (Unit {0}) (BaseIs c l r a)
    by true is = tt
    by false is = h a (ap (λ z. cond z None (Some a)) is)
based c l r (field s a Dot n) h = based c l r a h
based c l r (field s a Arrow n) h = h a refl
based c l r (unary s Dereference a) h = h a refl
based c l r _ h = tt

no_variable_cell : (t : Target) → ((x : ℕ) → t ≡ variable x → ⊥) → is_cell t ≡ true
no_variable_cell (variable x) none = absurd (none x refl)
no_variable_cell _ none = refl

object_base : (t : Target) (n : ℕ) → IsOfObject t n → has_base t ≡ true
object_base t n at = ⊎_elim (λ is. ap has_base is) (λ is. ap has_base is) at

-- the reference in its register
base_entry : (t : Target) (ground : Ground) (r : ℕ) (q : Label) (n : ℕ) → IsOfObject t n → HasBaseAt t ground r q → q.env r ≡ Refers ground.base
base_entry t ground r q n at h = ⊎_elim (λ is. first (subst (λ z. HasBaseAt z ground r q) is h)) (λ is. other (subst (λ z. HasBaseAt z ground r q) is h)) at
  where
    first : HasBaseAt (in_object n) ground r q → q.env r ≡ Refers ground.base
    first k = k.0

    other : HasBaseAt (in_object_at n) ground r q → q.env r ≡ Refers ground.base
    other k = k.0

-- what is said of copies, of a constant that types may name
copied : (y : Typing) (c : Context) (p : Expression) (copy : ℕ) → IsCopyOf y c p copy → (token x : ℕ) → constant_use c.program.typed p ≡ Some token → named_at c.program.typed token ≡ Named.Variable x → y.named c (register c x) ≡ true → copy ≡ register c x
copied y c (identifier s i) copy h token x of names is = by (is_constant_named c.program.typed (named_at c.program.typed i.site.token)) of
  where
    by : (b : Bool) → cond b (Some i.site.token) None ≡ Some token → copy ≡ register c x
    by true same =
        let there : named_at c.program.typed i.site.token ≡ Named.Variable x = ap (named_at c.program.typed) (same_some i.site.token token same) ∙ names in
        let k : IsCopyNamed y c (Named.Variable x) copy = subst (λ n. IsCopyNamed y c n copy) there h in
        k is
    by false same = absurd (none_some token same)
copied y c _ copy h token x of names is = absurd (none_some token of)

module _ (scopes : ScopeLaws) (c : Context) (code : Code) (y : Typing) (typing : IsTypingOf y c) (f : ℕ) (e : Expression) (lvalue : IsCellLvalue c.program e) (ground : Ground) (suits : IsGroundOf c e ground) (r : ℕ) (q : Label)
    (entry : HasBaseAt (target c.program.typed None e) ground r q) (copies : has_base (target c.program.typed None e) ≡ true → IsPointerCopy y c ground.pointer (q.same r)) (stand : BaseStands c e) where
  base_is : (p : Expression) (row : Targets) → pointer_of c.program.typed e ≡ Some p → row_at c.program.typed p ≡ Some row → base_type c e ≡ static_of c (kind_at c.program.typed p) (modes_of c.program row)
  base_is p row leads at =
      ap (λ o. static_of c (kind_of_pointer c.program.typed o) (modes_of_pointer c.program o)) leads ∙ ap (λ o. static_of c (kind_at c.program.typed p) (list_or (option_map (modes_of c.program) o))) at

  known_base : (t : Target) → target c.program.typed None e ≡ t → NamesCell c.program e t → (p : Expression) → pointer_of c.program.typed e ≡ Some p → BaseIs c q r p
  known_base t here (no_cell _ no_object no_global) p leads = absurd (nothing_else t (λ x is. lvalue.no_variable x (here ∙ is)) no_object no_global)
  known_base t here (of_object _ n at w) p leads =
      let same : w.pointer ≡ p = same_some w.pointer p (sym w.leads ∙ leads) in
      let own = subst (λ z. IsOfObject z n) (sym here) at in
      subst (BaseIs c q r) same (record {
        modes = modes_of c.program w.row;
        is = ap (option_map (modes_of c.program)) w.row_is;
        entry = base_entry (target c.program.typed None e) ground r q n own entry ∙ ap Refers (suits.base (object_base (target c.program.typed None e) n own)) ∙ ap Refers (base_is w.pointer w.row w.leads w.row_is);
        copy = λ token x of names held.
            let there = object_base (target c.program.typed None e) n own in
            let k : IsPointerCopy y c (Some w.pointer) (q.same r) = subst (λ o. IsPointerCopy y c o (q.same r)) (suits.pointer there ∙ w.leads) (copies there) in
            let in_scope = scopes.has c x (stand w.pointer token x w.leads of names) in
            IsCopy (copied y c w.pointer (q.same r) k token x of names (typing.names (register c x) (ap (held_named c.program.typed) in_scope.1 ∙ held)));
      })
  known_base t here (of_global _ g n at w) p leads = absurd (none_some p (sym (no_pointer c.program.typed None e g n (subst (λ z. IsOfGlobal z g n) (sym here) at)) ∙ leads))

-- it has modes
pub has_pointer_modes : (c : Context) (code : Code) (e : Expression) → IsCellLvalue c.program e → NamesCell c.program e (target c.program.typed None e) → (p : Expression) → pointer_of c.program.typed e ≡ Some p → (modes : List Sharing) × (modes_at c.program p ≡ Some modes)
has_pointer_modes c code e lvalue cell p leads = by (target c.program.typed None e) refl cell
  where
    by : (t : Target) → target c.program.typed None e ≡ t → NamesCell c.program e t → (modes : List Sharing) × (modes_at c.program p ≡ Some modes)
    by t here (no_cell _ no_object no_global) = absurd (nothing_else t (λ x is. lvalue.no_variable x (here ∙ is)) no_object no_global)
    by t here (of_object _ n at w) =
        let same : w.pointer ≡ p = same_some w.pointer p (sym w.leads ∙ leads) in
        (modes_of c.program w.row, ap (modes_at c.program) (sym same) ∙ ap (option_map (modes_of c.program)) w.row_is)
    by t here (of_global _ g n at w) = absurd (none_some p (sym (no_pointer c.program.typed None e g n (subst (λ z. IsOfGlobal z g n) (sym here) at)) ∙ leads))

reference_gated : (q : Label) (g : Gate) (a b : ℕ) → SameReference q a b → SameReference (gated q g) a b
reference_gated q g a b (Itself h) = Itself h
reference_gated q g a b (IsCopy h) = IsCopy h
reference_gated q g a b (HasCopy h) = HasCopy h
reference_gated q g a b (Copies h) = Copies h
reference_gated q g a b (Chained k h l) = Chained k (reference_gated q g a k h) (reference_gated q g k b l)

base_gated : (c : Context) (q : Label) (g : Gate) (r : ℕ) (p : Expression) → BaseIs c q r p → BaseIs c (gated q g) r p
base_gated c q g r p h = record { modes = h.modes; is = h.is; entry = h.entry; copy = λ token x of names held. reference_gated q g r (register c x) (h.copy token x of names held) }

-- ---- contents
no_pointer_base : (b : Base) → is_pointer (object b zero) ≡ true → ⊥
no_pointer_base b is = let low = ltb-true 0 0 is in omega (arith, low)

pointer_content : (m : Assignment) (e : Expression) (n : ℕ) (modes : List Sharing) (k : Kind) (holds : Content) → is_pointer k ≡ true → ContentFits m e n modes k holds → PointerFits m e n modes holds
pointer_content m e n modes (object b zero) holds is fits = absurd (no_pointer_base b is)
pointer_content m e n modes (object b (suc stars)) holds is fits = fits
pointer_content m e n modes _ holds is fits = absurd (false≢true is)

pointer_plain : (k : Kind) → is_pointer k ≡ true → is_mutex_kind k ≡ false
pointer_plain (object Base.Mutex zero) is = absurd (no_pointer_base Base.Mutex is)
pointer_plain (object Base.Mutex (suc stars)) is = no_mutex (suc stars == 0) refl
  where
    no_mutex : (z : Bool) → (suc stars == 0) ≡ z → (suc stars == 0) ≡ false
    no_mutex true same = let none = eqb-true (suc stars) 0 same in absurd (omega (arith, none))
    no_mutex false same = same
pointer_plain _ is = refl

-- ---- the law
pub references_fit : CellsStand → AccessesFit → GuardsFit → ScopeLaws → LvaluesFit → PlacesPoint → ReferencesFit
references_fit cells_stand accesses_fit guards_fit scopes fit points c code is signature starts lines y typing f e lvalue ground suits pointer modes modes_is write use_fair all stand site words use_made element i r q placed =
    through cells_stand accesses_fit guards_fit scopes c code is signature starts lines y f e lvalue ground suits typing (pointer_plain (kind_at c.program.typed e) pointer) write use_fair site words use_made element i r q placed
    (λ k. ReachesReference (setting c code signature starts lines) k write (cell_of c.globals i r (target c.program.typed None e)) (spot_of c i r site words use_made (cell_at c.program e) (target c.program.typed None e)) (static_of c (kind_at c.program.typed e) modes))
    (λ k like w. let way = w.reaches in record { field = w.field; may = record { cell = way.cell_there; mode = way.mode; may = way.may }; points = pointed k like w.field w.fits.content })
    (guard_field c.program.typed (cell_at c.program e)) refl
  where
    bases : (p : Expression) → pointer_of c.program.typed e ≡ Some p → BaseIs c q r p
    bases = known_base scopes c code y typing f e lvalue ground suits r q placed.base placed.copy stand (target c.program.typed None e) refl (lvalue_cells fit c code is e lvalue)

    locks_are : (l : Label) → ((p : Expression) → pointer_of c.program.typed e ≡ Some p → BaseIs c l r p) → AreFieldLocks l (cell_of c.globals i r (target c.program.typed None e)) (locks_at c modes) (content_locks c.program e)
    locks_are l h = points c is.accepted is.globals l i r e modes all modes_is (no_variable_cell (target c.program.typed None e) lvalue.no_variable) (based c l r e h)

    locks_like : (k : Label) → IsLike q k → AreFieldLocks k (cell_of c.globals i r (target c.program.typed None e)) (locks_at c modes) (content_locks c.program e)
    locks_like k like =
        ⊎_elim (λ same. subst (λ l. AreFieldLocks l (cell_of c.globals i r (target c.program.typed None e)) (locks_at c modes) (content_locks c.program e)) (sym same) (locks_are q bases))
        (λ at. subst (λ l. AreFieldLocks l (cell_of c.globals i r (target c.program.typed None e)) (locks_at c modes) (content_locks c.program e)) (sym at.1) (locks_are (gated q at.0) (λ p leads. base_gated c q at.0 r p (bases p leads)))) like

    pointed : (k : Label) → IsLike q k → (of : Field) → ContentFits c.program e (field_of (target c.program.typed None e)) (modes_behind c.program e) (kind_at c.program.typed e) of.holds
        → PointsTo k (cell_of c.globals i r (target c.program.typed None e)) of (static_of c (kind_at c.program.typed e) modes)
    pointed k like of content =
        let w = pointer_content c.program e (field_of (target c.program.typed None e)) (modes_behind c.program e) (kind_at c.program.typed e) of.holds pointer content in
        let same : modes ≡ modes_of c.program w.row = same_some modes (modes_of c.program w.row) (sym modes_is ∙ ap (option_map (modes_of c.program)) w.is) in
        record {
          to = record { target = number c.program (expression_shape c.program e w.row); locks = w.locks };
          holds = w.pointer;
          target = ap (λ l. number c.program (shape_of (base_of (kind_at c.program.typed e)) l)) same;
          locks = subst (AreFieldLocks k (cell_of c.globals i r (target c.program.typed None e)) (locks_at c modes)) (sym (w.told ∙ locks_same c.program e)) (locks_like k like);
        }
