-- What pointers refer to has the cells, the layout and the fields of the source, and a cast leaves its contents.
use Rattle.sharc_accepted_laws.proofs.{Imports.{◌≡◌, ℕ, zero, suc, ◌+◌, ◌-◌, ◌<◌, Bool, true, false, cond, List, [], ◌∷◌, length, map, drop, get_or as slice_index_or, refl, ap, sym, ◌∙◌, subst, arith, bytes_eq, false≢true, and_parts, AllByRecursion, Base, Declaration, StructDefinition, Named, Kind, object, is_pointer, element_kind, declared_kind, Resolution, named_at, structs_in, first_of, Assignment, base_of, Targets, written, declared_row, modes_of, Sharing, private, locked, same, same_all, element_cells, layout_of, FieldMode, Content, Pointer, Field, TableTarget as Target, no_field, field_at, IsRowOf, pointee, PointeeFits, PointeesFit, IsPlainLock, HasPlainLocks, IsRecast, is_same, of_types, RecastFits, RecastsFit, SameForms, form_of, shape_of, row_shape, number, stars_in, table_lock as lock_named, field_locks, lock_count, type_locks, own_mode, is_private_form, starts_private, base_content, pointer_content, declared_content, single, members, struct_fields, base_fields, shape_fields, targets_of, map_length, no_cons}, TargetCells.cells_are, TargetForms.row_length, Numbers.numbers_found}
use Rattle.sharc_mode.specs.Sharings as sharings
use Rattle.sharc_accepted_laws.specs.Shapes.{kind_of}

-- ---- kinds and forms
-- a pointer has a base and a star
pub record IsPointerKind (k : Kind) : Type 0 where
  pub base : Base
  pub below : ℕ
  pub is : k ≡ object base (suc below)

pub pointer_kind : (k : Kind) → is_pointer k ≡ true → IsPointerKind k
pointer_kind (object b (suc n)) h = record { base = b; below = n; is = refl }
pointer_kind _ h = absurd (false≢true h)

private_same : (q : Sharing) → is_private_form (form_of q) ≡ sharings.is_private q
private_same (locked l) = refl
private_same _ = refl

starts_same : (modes : List Sharing) → 0 < length modes → starts_private (map form_of modes) ≡ sharings.is_private (first_of modes)
starts_same [] some = absurd (omega (arith, some))
starts_same (q ∷ below) some = private_same q

pub many_modes : (m : Assignment) (k : Kind) (row : Targets) → IsRowOf m k row → length (modes_of m row) ≡ stars_in k
many_modes m k row w = sym (map_length form_of (modes_of m row)) ∙ row_length m row w.ends ∙ w.count

pub pointees_fit : PointeesFit
pointees_fit m k row w pointer = by (pointer_kind k pointer)
  where
    by : IsPointerKind k → PointeeFits m k row
    by p =
        let stars : stars_in k ≡ suc p.below = ap stars_in p.is in
        let has = w.there (omega (arith, w.count, stars)) in
        let found = numbers_found m (row_shape m (base_of k) row) has in
        let size : length (map form_of (modes_of m row)) ≡ suc p.below = map_length form_of (modes_of m row) ∙ many_modes m k row w ∙ stars in
        let modes_some = many_modes m k row w in
        let less : length (map form_of (modes_of m row)) - 1 ≡ p.below = omega (arith, size) in
        let again : suc p.below - 1 ≡ p.below = omega arith in
        let element : element_kind k ≡ object p.base p.below = ap element_kind p.is ∙ ap (object p.base) again in
        let shape_kind : kind_of (row_shape m (base_of k) row) ≡ object p.base p.below = ap (λ z. object (base_of z) (length (map form_of (modes_of m row)) - 1)) p.is ∙ ap (object p.base) less in
        record {
          shape = has;
          cells = cells_are m (row_shape m (base_of k) row) has ∙ ap (element_cells m.typed) (shape_kind ∙ sym element);
          layout = ap (layout_of (structs_in m.typed.program.items)) (element ∙ sym shape_kind);
          fields = ap (λ (t : Target). t.fields) found.row;
          private_data = ap (λ (t : Target). t.is_private) found.row ∙ starts_same (modes_of m row) (omega (arith, modes_some, stars));
        }

-- ---- contents, whatever the mode
plain_lock : (r : Resolution) (n : ℕ) (w : Named) → IsPlainLock (lock_named r n w)
plain_lock r n (Named.Field f) = tt
plain_lock r n _ = tt

plain_locks : (r : Resolution) (n : ℕ) (modes : List Sharing) → AllByRecursion IsPlainLock (field_locks r n modes)
plain_locks r n [] = tt
plain_locks r n (locked l ∷ below) = (plain_lock r n (named_at r l.first), plain_locks r n below)
plain_locks r n (_ ∷ below) = plain_locks r n below

base_plain : (b : Base) → HasPlainLocks (base_content b)
base_plain (Base.Struct name) = tt
base_plain _ = tt

content_plain : (m : Assignment) (n : ℕ) (d : Declaration) → HasPlainLocks (declared_content m n d)
content_plain m n d = by (is_pointer (declared_kind d.written))
  where
    by : (b : Bool) → HasPlainLocks (cond b (pointer_content m n d.written.ctype.base (modes_of m (declared_row m.typed written d.name.site.token))) (base_content d.written.ctype.base))
    by true = plain_locks m.typed n (modes_of m (declared_row m.typed written d.name.site.token))
    by false = base_plain d.written.ctype.base

-- two lists of fields with the same contents, which have no lock of a type
abbrev pub AreAlike : List Field → List Field → Type 0
AreAlike [] [] = Unit {0}
AreAlike (f ∷ fs) (g ∷ gs) = ((f.holds ≡ g.holds) × HasPlainLocks f.holds) × AreAlike fs gs
AreAlike _ _ = ⊥

single_alike : (p q : FieldMode) (b : Base) → AreAlike (single p b ∷ []) (single q b ∷ [])
single_alike p q (Base.Struct name) = ((refl, tt), tt)
single_alike p q _ = ((refl, tt), tt)

members_alike : (m : Assignment) (p q : FieldMode) (n : ℕ) (list : List Declaration) → AreAlike (members m p n list) (members m q n list)
members_alike m p q n [] = tt
members_alike m p q n (d ∷ rest) = ((refl, content_plain m n d), members_alike m p q (n + 1) rest)

structs_alike : (m : Assignment) (p q : FieldMode) (list : List StructDefinition) (name : List ℕ) → AreAlike (struct_fields m p list name) (struct_fields m q list name)
structs_alike m p q [] name = single_alike p q (Base.Struct name)
structs_alike m p q (s ∷ rest) name = by (bytes_eq s.name.text name) (structs_alike m p q rest name)
  where
    by : (b : Bool) → AreAlike (struct_fields m p rest name) (struct_fields m q rest name) → AreAlike (cond b (members m p 0 s.fields) (struct_fields m p rest name)) (cond b (members m q 0 s.fields) (struct_fields m q rest name))
    by true h = members_alike m p q 0 s.fields
    by false h = h

pub bases_alike : (m : Assignment) (p q : FieldMode) (b : Base) → AreAlike (base_fields m p b) (base_fields m q b)
bases_alike m p q (Base.Struct name) = structs_alike m p q (structs_in m.typed.program.items) name
bases_alike m p q k = single_alike p q k

pub alike_many : (fs gs : List Field) → AreAlike fs gs → length fs ≡ length gs
alike_many [] [] h = refl
alike_many (f ∷ fs) (g ∷ gs) h = ap suc (alike_many fs gs h.1)
alike_many [] (g ∷ gs) h = absurd h
alike_many (f ∷ fs) [] h = absurd h

-- what holds of a content without such a lock and itself holds of the contents at each place
pub alike_at : (R : Content → Content → Type 0) → ((x : Content) → HasPlainLocks x → R x x) → (fs gs : List Field) → AreAlike fs gs → (k : ℕ) → R (slice_index_or fs k no_field).holds (slice_index_or gs k no_field).holds
alike_at R same [] [] h k = same no_field.holds tt
alike_at R same (f ∷ fs) (g ∷ gs) h zero = subst (R f.holds) h.0.0 (same f.holds h.0.1)
alike_at R same (f ∷ fs) (g ∷ gs) h (suc k) = alike_at R same fs gs h.1 k
alike_at R same [] (g ∷ gs) h k = absurd h
alike_at R same (f ∷ fs) [] h k = absurd h

-- ---- the elements of two rows
record AreRecast (a b : List Sharing) (fs gs : List Field) : Type 0 where
  many : length fs ≡ length gs
  contents : (k : ℕ) → IsRecast a b (slice_index_or fs k no_field).holds (slice_index_or gs k no_field).holds

pointer_cells : (m : Assignment) (b : Base) (p q x y : Sharing) (below others : List Sharing) → map form_of (x ∷ below) ≡ map form_of (y ∷ others)
    → AreRecast (p ∷ x ∷ below) (q ∷ y ∷ others) (shape_fields m b (map form_of (p ∷ x ∷ below))) (shape_fields m b (map form_of (q ∷ y ∷ others)))
pointer_cells m b p q x y below others forms = record { many = refl; contents = at }
  where
    target_is : number m (shape_of b (x ∷ below)) ≡ number m (shape_of b (y ∷ others))
    target_is = ap (λ fs. number m (record { base = b; forms = fs })) forms

    at : (k : ℕ) → IsRecast (p ∷ x ∷ below) (q ∷ y ∷ others) (slice_index_or (shape_fields m b (map form_of (p ∷ x ∷ below))) k no_field).holds (slice_index_or (shape_fields m b (map form_of (q ∷ y ∷ others))) k no_field).holds
    at zero =
        subst (λ t. IsRecast (p ∷ x ∷ below) (q ∷ y ∷ others) (Pointer (record { target = number m (shape_of b (x ∷ below)); locks = type_locks (lock_count (form_of p)) (map form_of (x ∷ below)) }))
        (Pointer (record { target = t; locks = type_locks (lock_count (form_of q)) (map form_of (y ∷ others)) }))) target_is
        (of_types p q (x ∷ below) (y ∷ others) (number m (shape_of b (x ∷ below))) refl refl)
    at (suc k) = is_same no_field.holds tt

cells_recast : (m : Assignment) (b : Base) (xs ys : List Sharing) → 0 < length xs → 0 < length ys → map form_of (drop 1 xs) ≡ map form_of (drop 1 ys) → AreRecast xs ys (shape_fields m b (map form_of xs)) (shape_fields m b (map form_of ys))
cells_recast m b [] ys some other forms = absurd (omega (arith, some))
cells_recast m b (p ∷ below) [] some other forms = absurd (omega (arith, other))
cells_recast m b (p ∷ []) (q ∷ []) some other forms =
    let alike = bases_alike m (own_mode (form_of p)) (own_mode (form_of q)) b in
    record {
      many = alike_many (base_fields m (own_mode (form_of p)) b) (base_fields m (own_mode (form_of q)) b) alike;
      contents = alike_at (IsRecast (p ∷ []) (q ∷ [])) (λ x plain. is_same x plain) (base_fields m (own_mode (form_of p)) b) (base_fields m (own_mode (form_of q)) b) alike;
    }
cells_recast m b (p ∷ []) (q ∷ y ∷ others) some other forms = absurd (no_cons _ _ forms)
cells_recast m b (p ∷ x ∷ below) (q ∷ []) some other forms = absurd (no_cons _ _ (sym forms))
cells_recast m b (p ∷ x ∷ below) (q ∷ y ∷ others) some other forms = pointer_cells m b p q x y below others forms

pub recasts_fit : RecastsFit
recasts_fit m k from to a b pointer forms = by (pointees_fit m k from a pointer) (pointees_fit m k to b pointer) (pointer_kind k pointer)
  where
    by : PointeeFits m k from → PointeeFits m k to → IsPointerKind k → RecastFits m k from to
    by s t p =
        let stars : stars_in k ≡ suc p.below = ap stars_in p.is in
        let left = many_modes m k from a in
        let right = many_modes m k to b in
        let w = cells_recast m (base_of k) (modes_of m from) (modes_of m to) (omega (arith, left, stars)) (omega (arith, right, stars)) forms in
        record {
          cells = ap length s.fields ∙ w.many ∙ sym (ap length t.fields);
          contents = λ field.
              subst (λ fs. IsRecast (modes_of m from) (modes_of m to) (slice_index_or fs field no_field).holds (field_at (targets_of m) (pointee m k to) field).holds) (sym s.fields)
              (subst (λ gs. IsRecast (modes_of m from) (modes_of m to) (slice_index_or (shape_fields m (base_of k) (map form_of (modes_of m from))) field no_field).holds (slice_index_or gs field no_field).holds) (sym t.fields) (w.contents field));
        }

-- ---- modes that are the same
same_form : (r : Resolution) (a b : Sharing) → same r a b ≡ true → form_of a ≡ form_of b
same_form r (locked l) (locked k) h = refl
same_form r _ private h = cc
same_form r _ _ h = cc

pub same_modes : SameForms
same_modes r [] [] h = refl
same_modes r [] (b ∷ bs) h = absurd (false≢true h)
same_modes r (a ∷ more) [] h = absurd (false≢true h)
same_modes r (a ∷ more) (b ∷ bs) h = let p = and_parts (same r a b) (same_all r more bs) h in cc (same_form r a b p.0, same_modes r more bs p.1)
