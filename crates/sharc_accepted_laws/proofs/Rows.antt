-- The rows of a well-moded program are good.
use Rattle.sharc_accepted_laws.proofs.{Imports.{◌≡◌, ℕ, ◌+◌, ◌<◌, ◌≤◌, Bool, true, false, cond, List, [], ◌∷◌, length, map, refl, ap, sym, ◌∙◌, subst, arith, Option, Some, Contains, bytes_eq, false≢true, and_parts, AllByRecursion, slice_get, Base, Mode, Path, One, Through, Declaration, WrittenType, StructDefinition, Named, Role, is_pointer, is_struct_base, declared_kind, Numbered, declared, entities_in, positions_of, first_depth, Resolution, named_at, named_kind, declaration_at, structs_in, IsItself, IsFound, field_place, field_place_named, is_mutex_kind, is_behind_pointer, top_of, IsLeastAssignment, Assignment, written, entity_row, declared_row, modes_of, is_field, is_sibling_lock, lock_of, IsEntity, IsWritten, IsLockPointer, IsAllowed, global_mutex, sibling_mutex, sibling_pointer, through_constant, MeetsRules, FieldMode, Pointer, FieldMode as field, Form, private_form, Shape, form_of, shape_of, shapes, number, is_private_form, starts_private, own_mode, lock_count, type_locks, members, struct_fields, base_fields, shape_fields, shape_row, targets_of, same_some, none_some, head_there, place_of_element, of_each, to_each, tail_there, mapped_each}, Fits.{AreFit, IsFitShape, shapes_fit, entity_there, field_shared, private_form_is}, TargetForms.{entity_length, skipped}, Found.{IsThere, field_found}, Good.{IsOwn, AreGood, own_of, own_racy, single_are, none_are, one_good, pointer_good}, TargetMembers.{IsPartner, IsMember, levels_many, top_written, members_good}, Numbers.shapes_closed, Settling.{positioned, dropped_length}, TargetSiblings.IsSibling, Table.{IsGoodRow, no_row_good}}

-- what the laws of typed programs and of modes give
pub record IsKnown (m : Assignment) : Type 0 where
  pub least : IsLeastAssignment m
  pub rules : MeetsRules m
  pub found : AllByRecursion (IsFound m.typed) (entities_in m.typed.program.items)
  pub fields : AllByRecursion (λ (s : StructDefinition). AllByRecursion (IsItself m.typed Named.Field) s.fields) (structs_in m.typed.program.items)
  pub sibling : (s : StructDefinition) (d : Declaration) (path : Path) (f : ℕ) → Contains (structs_in m.typed.program.items) s → Contains s.fields d → Contains d.written.ctype.levels (Some (Mode.Locked path))
      → named_at m.typed (lock_of path).first ≡ Named.Field f → IsSibling s.fields f
  pub place : (s : StructDefinition) (k : ℕ) (d : Declaration) → Contains (structs_in m.typed.program.items) s → slice_get s.fields k ≡ Some d → field_place m.typed d.name.site.token ≡ k

-- ---- lists
pub starts_at : (fs : List Form) → starts_private fs ≡ true → slice_get fs 0 ≡ Some private_form
starts_at [] h = absurd (false≢true h)
starts_at (f ∷ below) h = ap Some (private_form_is f h)

pub top_there : (levels : List (Option Mode)) (x : Mode) → top_of levels ≡ Some x → Contains levels (Some x)
top_there [] x is = absurd (none_some x is)
top_there (y ∷ below) x is = subst (λ z. Contains (y ∷ below) z) is (head_there y below)

-- ---- a path that is a sibling pointer's
-- what a lock path behind a pointer names
record IsPointerPath (r : Resolution) (path : Path) : Type 0 where
  name : ℕ
  names : named_at r (lock_of path).first ≡ Named.Field name
  pointer : IsLockPointer r name

pointer_path : (r : Resolution) (e : _) (depth : ℕ) (path : Path) → IsAllowed r e depth path → is_behind_pointer r (lock_of path) ≡ true → IsPointerPath r path
pointer_path r e depth _ (global_mutex {text} {token} {g} names kind) is =
    let parts = and_parts (is_sibling_lock r (lock_of (One text token))) (is_pointer (named_kind r (named_at r token))) is in
    let field = and_parts (is_field (named_at r token)) true parts.0 in
    absurd (false≢true (sym (ap is_field names) ∙ field.0))
pointer_path r e depth _ (sibling_mutex {text} {token} {f} place names kind) is =
    let parts = and_parts (is_sibling_lock r (lock_of (One text token))) (is_pointer (named_kind r (named_at r token))) is in
    absurd (false≢true (sym (ap (λ w. is_pointer (named_kind r w)) names ∙ ap is_pointer kind) ∙ parts.1))
pointer_path r e depth _ (sibling_pointer {text} {token} {f} place top names lock targets) is = record { name = f; names = names; pointer = lock }
pointer_path r e depth _ (through_constant {text} {m} {token} {x} place names constant behind) is =
    let parts = and_parts (is_sibling_lock r (lock_of (Through text token m))) (is_pointer (named_kind r (named_at r token))) is in
    let field = and_parts (is_field (named_at r token)) false parts.0 in
    absurd (false≢true field.1)

module _ (m : Assignment) (known : IsKnown m) where
  -- the positions of an entity are some
  pub ends_within : (n : Numbered) → IsEntity m n → n.first + positions_of n.entity ≤ length m.modes
  ends_within n is =
      let ends = (positioned (entities_in m.typed.program.items) 0 n is).ends in
      omega (arith, ends, known.least.modes)

  pub targets_many : (n : Numbered) → IsEntity m n → is_pointer (declared_kind n.entity.written) ≡ true → 0 < length (map form_of (modes_of m (entity_row written (Some n))))
  targets_many n is pointer =
      let many = levels_many n.entity.written pointer in
      let positions = dropped_length (first_depth n.entity.role) n.entity.written.ctype.levels in
      let size = entity_length m n (ends_within n is) in
      let depth = one_more n.entity.role in
      omega (arith, many, positions, size, depth)
    where
      one_more : (w : _) → first_depth w + skipped w ≡ 1
      one_more Role.Cast = refl
      one_more _ = refl

  -- ---- fields of structs
  module _ (s : StructDefinition) (is_struct : Contains (structs_in m.typed.program.items) s) (d : Declaration) (is_member : Contains s.fields d) where
    there : IsThere m (declared Role.Field d)
    there = field_found m known.found s d is_struct is_member

    row_is : declared_row m.typed written d.name.site.token ≡ entity_row written (Some there.numbered)
    row_is = ap (entity_row written) there.found

    at_top : (x : Mode) → top_of d.written.ctype.levels ≡ Some x → IsWritten there.numbered.entity 0 x
    at_top x is = subst (λ (w : WrittenType). slice_get w.ctype.levels 0 ≡ Some (Some x)) (sym there.written) (top_written d.written.ctype.levels x is)

    is_pointer_there : is_pointer (declared_kind d.written) ≡ true → is_pointer (declared_kind there.numbered.entity.written) ≡ true
    is_pointer_there pointer = subst (λ (w : WrittenType). is_pointer (declared_kind w) ≡ true) (sym there.written) pointer

    partner : (path : Path) → top_of d.written.ctype.levels ≡ Some (Mode.Locked path) → is_behind_pointer m.typed (lock_of path) ≡ true → IsPartner s.fields (field_place_named m.typed (named_at m.typed (lock_of path).first))
    partner path top behind =
        let p = pointer_path m.typed there.numbered.entity 0 path (known.rules.m4.forms there.numbered 0 path there.is_entity (at_top (Mode.Locked path) top)) behind in
        let w = known.sibling s d path p.name is_struct is_member (top_there d.written.ctype.levels (Mode.Locked path) top) p.names in
        let k = place_of_element s.fields w.sibling w.has in
        let itself : IsItself m.typed Named.Field w.sibling = of_each (IsItself m.typed Named.Field) s.fields w.sibling (of_each (λ (z : StructDefinition). AllByRecursion (IsItself m.typed Named.Field) z.fields) (structs_in m.typed.program.items) s known.fields is_struct) w.has in
        let same : w.sibling ≡ p.pointer.field = same_some _ _ (sym itself.1 ∙ ap (declaration_at m.typed) w.is ∙ p.pointer.declared) in
        let place : field_place_named m.typed (named_at m.typed (lock_of path).first) ≡ k.0 = ap (field_place_named m.typed) p.names ∙ ap (field_place m.typed) (sym w.is) ∙ known.place s k.0 w.sibling is_struct k.1 in
        record {
          partner = w.sibling;
          at = ap (slice_get s.fields) place ∙ k.1;
          not_mutex = ap (λ (z : Declaration). is_mutex_kind (declared_kind z.written)) same ∙ ap is_mutex_kind p.pointer.pointer;
          readonly = ap (λ (z : Declaration). top_of z.written.ctype.levels) same ∙ p.pointer.readonly;
        }

    pub is_member_of : IsMember m s.fields d
    is_member_of = record {
      not_private = λ top. known.rules.m6 there.numbered 0 there.is_entity there.role (at_top Mode.Private top);
      not_racy = λ pointer top. (known.rules.m5 there.numbered 0 Mode.Racy there.is_entity (at_top Mode.Racy top)).pointer (let many = levels_many there.numbered.entity.written (is_pointer_there pointer) in omega (arith, many)) refl;
      shape = λ pointer.
          subst (λ row. Contains (shapes m) (shape_of d.written.ctype.base (modes_of m row))) (sym row_is)
          (subst (λ (w : WrittenType). Contains (shapes m) (shape_of w.ctype.base (modes_of m (entity_row written (Some there.numbered))))) there.written
          (entity_there m there.numbered there.is_entity (targets_many there.numbered there.is_entity (is_pointer_there pointer))));
      shared = λ h.
          field_shared m known.least known.rules there.numbered there.is_entity there.role 0 private_form
          (starts_at (map form_of (modes_of m (entity_row written (Some there.numbered)))) (subst (λ row. starts_private (map form_of (modes_of m row)) ≡ true) row_is h)) refl;
      beside = partner;
    }

  -- ---- elements
  pub struct_good : (list : List StructDefinition) → ((s : StructDefinition) → Contains list s → Contains (structs_in m.typed.program.items) s) → (shared : Bool) (q : FieldMode) → IsOwn q shared → (q ≡ field.Racy → ⊥) → (name : List ℕ)
      → AreGood (targets_of m) shared (struct_fields m q list name)
  struct_good [] all shared q own other name = single_are (targets_of m) shared q (Base.Struct name) own
  struct_good (s ∷ rest) all shared q own other name = by (bytes_eq s.name.text name) (struct_good rest (λ z has. all z (tail_there s z rest has)) shared q own other name)
    where
      by : (b : Bool) → AreGood (targets_of m) shared (struct_fields m q rest name) → AreGood (targets_of m) shared (cond b (members m q 0 s.fields) (struct_fields m q rest name))
      by true h = members_good m s.fields shared q own other (λ d has. is_member_of s (all s (head_there s rest)) d has)
      by false h = h

  pub base_good : (b : Base) (shared : Bool) (q : FieldMode) → IsOwn q shared → (is_struct_base b ≡ true → q ≡ field.Racy → ⊥) → AreGood (targets_of m) shared (base_fields m q b)
  base_good (Base.Struct name) shared q own other = struct_good (structs_in m.typed.program.items) (λ s has. has) shared q own (other refl) name
  base_good k shared q own other = single_are (targets_of m) shared q k own

  -- ---- rows
  shape_good : (b : Base) (fs : List Form) → Contains (shapes m) (record { base = b; forms = fs }) → AreFit b fs → AreGood (targets_of m) (starts_private fs) (shape_fields m b fs)
  shape_good b [] has fit = none_are (targets_of m) false
  shape_good b (f ∷ []) has fit = base_good b (is_private_form f) (own_mode f) (own_of f) (λ struct h. fit struct (own_racy f h))
  shape_good b (f ∷ g ∷ below) has fit =
      one_good (targets_of m) (is_private_form f) (record { mode = own_mode f; holds = Pointer (record { target = number m (record { base = b; forms = g ∷ below }); locks = type_locks (lock_count f) (g ∷ below) }) })
      (pointer_good m (is_private_form f) (own_mode f) (record { base = b; forms = g ∷ below }) (type_locks (lock_count f) (g ∷ below)) (shapes_closed m b f g below has) (own_of f).whole (λ h. ap own_mode (fit.1 h)) (λ h. fit.0 (own_racy f h)))
      (own_of f).not_behind

  row_good : (s : Shape) → Contains (shapes m) s → IsGoodRow (targets_of m) (shape_row m s)
  row_good s has =
      let good = shape_good s.base s.forms has (of_each IsFitShape (shapes m) s (shapes_fit m known.least known.rules) has) in
      record { fields = good.each; beside = good.beside }

  pub rows_good : AllByRecursion (IsGoodRow (targets_of m)) (targets_of m).rows
  rows_good = (no_row_good (targets_of m), mapped_each (IsGoodRow (targets_of m)) (shape_row m) (shapes m) (to_each (λ s. IsGoodRow (targets_of m) (shape_row m s)) (shapes m) row_good))
