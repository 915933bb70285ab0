-- What the cells of lvalues stand on, by the laws of typed programs and of modes.
use Rattle.sharc_accepted_laws.proofs.{Imports.{◌≡◌, ℕ, ◌+◌, ◌-◌, ◌<◌, ◌==◌, ◌&&◌, Bool, true, false, cond, length, map, get_or as slice_index_or, refl, ap, sym, ◌∙◌, subst, arith, Option, Some, None, Contains, false≢true, ne_eqb, ltb-true, AllByRecursion, slice_get, nat_lt, Base, Mode, Path, Declaration, WrittenType, GlobalDefinition, StructDefinition, IsLow, IsPlaced, in_function, Named, Role, Kind, object, array, is_array, element_kind, is_struct_base, is_struct_behind, mutex, is_allowed, allowed_there, Entity, Numbered, declared, entities_in, entity_at, positions_of, written_modes, first_depth, Resolution, IsResolved, named_at, kind_at, global_at, structs_in, globals_in, functions_in, named_kind, HasType, IsItself, EachTypeFound, EachNameOnce, OnlyNames, EachNamesItself, MeetsConstraints, OneType, Apart, top_of, first_mode, global_cell, IsLeastAssignment, mode_found, WellModed, Assignment, PathReading, written, targets_from, entity_row, modes_of, otherwise_of, Lock, locked, lock_of, sharing_of, place_of, Place, IsExpression, IsWritten, RulesAreMet, IsAllowed, global_mutex, sibling_mutex, sibling_pointer, through_constant, LvaluesFit, IsArrayOf, ArraysFit, form_of, or_false, and_false, none_some, of_each, place_there}, Expressing.expressions_found, TargetForms.same_forms, Found.{IsThere, field_found, global_found, global_low}, Laying.{named_there, members_are}, Lvalues.{AreReady, names_cell, array_base}, TargetMembers.top_written, Moding.{PathNames, field_or_global}, Rows.IsKnown, Settling.{positioned, settled_by, SettledBy, a_mutex, is_written, is_meant, settled_from, get_dropped, dropped_length}, TargetSiblings.field_allowed, Whole.known, Globals.index_get, Origins.same_lock, StaticSiblings.found_there as member_there}

plain_by : (b : Base) (n : ℕ) → (is_struct_base b ≡ true → nat_lt 0 n ≡ true) → is_struct_behind 0 (object b n) ≡ false
plain_by (Base.Struct name) n some = let low = ltb-true 0 n (some refl) in ap (λ z. z && true) (ne_eqb n 0 (λ none. omega (arith, low, none)))
plain_by _ n some = and_false (n == 0)

struct_allowed : (w : WrittenType) → allowed_there Role.Field w ≡ true → (b : Base) → w.ctype.base ≡ b → is_struct_base b ≡ true → nat_lt 0 (length w.ctype.levels - 1) ≡ true
struct_allowed w is (Base.Struct name) e struct = sym (or_false (nat_lt 0 (length w.ctype.levels - 1))) ∙ subst (λ b. is_allowed Role.Field b (length w.ctype.levels - 1) ≡ true) e is
struct_allowed w is _ e struct = absurd (false≢true struct)

-- ---- rows
row_forms : (m : Assignment) (first count : ℕ) (how : PathReading) (what : Role)
    → map form_of (modes_of m (targets_from what (record { first = first; count = count; reading = how }))) ≡ map form_of (modes_of m (targets_from what (record { first = first; count = count; reading = written })))
row_forms m first count how Role.Global = by (count == 0)
  where
    by : (b : Bool) → map form_of (modes_of m (cond b (record { first = first; count = count; reading = how }) (record { first = first + 1; count = count - 1; reading = how })))
        ≡ map form_of (modes_of m (cond b (record { first = first; count = count; reading = written }) (record { first = first + 1; count = count - 1; reading = written })))
    by true = same_forms m first count how written
    by false = same_forms m (first + 1) (count - 1) how written
row_forms m first count how _ = same_forms m first count how written

entity_forms : (m : Assignment) (how : PathReading) (o : Option Numbered) → map form_of (modes_of m (entity_row how o)) ≡ map form_of (modes_of m (entity_row written o))
entity_forms m how None = refl
entity_forms m how (Some n) = row_forms m n.first (positions_of n.entity) how n.entity.role

-- a mode that is locked is written
record IsLockedMode (x : Mode) (l : Lock) : Type 0 where
  path : Path
  is : x ≡ Mode.Locked path
  lock : lock_of path ≡ l

locked_mode_is : (x : Mode) (l : Lock) → sharing_of x ≡ locked l → IsLockedMode x l
locked_mode_is (Mode.Locked path) l h = record { path = path; is = refl; lock = same_lock _ _ h }
locked_mode_is _ l h = cc

found_locked : (level : Option Mode) (finding : _) (path : Path) → mode_found level finding ≡ Mode.Locked path → level ≡ Some (Mode.Locked path)
found_locked (Some x) finding path h = ap Some h
found_locked None Apart path h = cc
found_locked None _ path h = cc

field_no_local : (what : Role) → what ≡ Role.Field → place_of what ≡ Place.Local → ⊥
field_no_local what is local = cc (sym (ap place_of is) ∙ local)

-- in a global a path names a global mutex
global_names : (r : Resolution) (e : Entity) (depth : ℕ) (path : Path) → place_of e.role ≡ Place.Global → IsAllowed r e depth path → (k : ℕ) × (named_at r (lock_of path).first ≡ Named.Global k) × (named_kind r (Named.Global k) ≡ mutex)
global_names r e depth _ is (global_mutex {text} {token} {g} names kind) = (g, names, kind)
global_names r e depth _ is (sibling_mutex {text} {token} {f} stands names kind) = absurd (cc (sym is ∙ stands))
global_names r e depth _ is (sibling_pointer {text} {token} {f} stands top names lock targets) = absurd (cc (sym is ∙ stands))
global_names r e depth _ is (through_constant {text} {m} {token} {x} stands names constant behind) = absurd (cc (sym is ∙ stands))

module _ (m : Assignment) (k : IsKnown m) (low : IsLow m.typed.program) where
  pub global_lock : (g : ℕ) (d : GlobalDefinition) → global_at m.typed g ≡ Some d → (l : Lock) → global_cell m (Some d) ≡ locked l → (j : ℕ) × (named_at m.typed l.first ≡ Named.Global j) × (named_kind m.typed (Named.Global j) ≡ mutex)
  global_lock g d at l is = (named_global.0, subst (λ z. named_at m.typed z.first ≡ Named.Global named_global.0) w.lock named_global.1, named_global.2)
    where
      has : Contains (globals_in m.typed.program.items) d
      has = place_there (globals_in m.typed.program.items) g d at

      there : IsThere m (declared Role.Global d.declaration)
      there = global_found m k.found d has

      n : Numbered
      n = there.numbered

      w : IsLockedMode (slice_index_or m.modes there.numbered.first Mode.Private) l
      w = locked_mode_is (slice_index_or m.modes there.numbered.first Mode.Private) l (sym (ap (first_mode m) there.found) ∙ is)

      no_depth : first_depth there.numbered.entity.role ≡ 0
      no_depth = ap first_depth there.role

      position : 0 < positions_of there.numbered.entity
      position =
          let size = dropped_length (first_depth there.numbered.entity.role) there.numbered.entity.written.ctype.levels in
          let depth = no_depth in
          let many : 0 < length there.numbered.entity.written.ctype.levels = subst (λ (x : WrittenType). 0 < length x.ctype.levels) (sym there.written) (global_low m.typed.program.items low d has) in
          omega (arith, size, depth, many)

      mode_there : slice_get m.modes (there.numbered.first + 0) ≡ Some (Mode.Locked w.path)
      mode_there = let e : there.numbered.first + 0 ≡ there.numbered.first = omega arith in ap (slice_get m.modes) e ∙ index_get m.modes there.numbered.first (Mode.Locked w.path) w.is (λ e. cc)

      by : SettledBy there.numbered.entity.written.ctype.base (otherwise_of there.numbered.entity.role there.numbered.entity.written.ctype.levels) (written_modes there.numbered.entity) 0 (Mode.Locked w.path)
          → IsWritten there.numbered.entity (first_depth there.numbered.entity.role + 0) (Mode.Locked w.path)
      by (a_mutex same last) = absurd (cc)
      by (is_written h) = get_dropped (first_depth there.numbered.entity.role) there.numbered.entity.written.ctype.levels 0 (Some (Mode.Locked w.path)) h
      by (is_meant h) = absurd (none_some (Mode.Locked w.path) (sym (ap (λ z. otherwise_of z there.numbered.entity.written.ctype.levels) there.role) ∙ h))

      written_there : IsWritten there.numbered.entity (first_depth there.numbered.entity.role + 0) (Mode.Locked w.path)
      written_there =
          let s = settled_by m k.least there.numbered (positioned (entities_in m.typed.program.items) 0 there.numbered there.is_entity) 0 (Mode.Locked w.path) position mode_there in
          by (settled_from there.numbered.entity.written.ctype.base (otherwise_of there.numbered.entity.role there.numbered.entity.written.ctype.levels) (written_modes there.numbered.entity) 0 (Mode.Locked w.path) position (found_locked _ s.finding w.path s.found))

      named_global : (j : ℕ) × (named_at m.typed (lock_of w.path).first ≡ Named.Global j) × (named_kind m.typed (Named.Global j) ≡ mutex)
      named_global =
          global_names m.typed there.numbered.entity (first_depth there.numbered.entity.role + 0) w.path (ap place_of there.role)
          (k.rules.m4.forms there.numbered (first_depth there.numbered.entity.role + 0) w.path there.is_entity written_there)

  field_path : (s : StructDefinition) (d : Declaration) → Contains (structs_in m.typed.program.items) s → Contains s.fields d → (path : Path) → top_of d.written.ctype.levels ≡ Some (Mode.Locked path) → PathNames m.typed (lock_of path)
  field_path s d is_struct is_member path top =
      let there = field_found m k.found s d is_struct is_member in
      field_or_global m.typed there.numbered.entity 0 path (field_no_local there.numbered.entity.role there.role)
      (k.rules.m4.forms there.numbered 0 path there.is_entity (subst (λ (w : WrittenType). slice_get w.ctype.levels 0 ≡ Some (Some (Mode.Locked path))) (sym there.written) (top_written d.written.ctype.levels (Mode.Locked path) top)))

ready_of : EachNameOnce → OnlyNames → EachTypeFound → EachNamesItself → MeetsConstraints → OneType → RulesAreMet → (m : Assignment) → IsResolved m.typed → IsPlaced m.typed.program → IsLow m.typed.program → IsLeastAssignment m → WellModed m → AreReady m
ready_of once only found itself meets one met m resolved placed low least well = ready
  where
    k : IsKnown m
    k = known once only found itself met m resolved placed low least well

    types : (e : _) → IsExpression m e → HasType m.typed e (kind_at m.typed e)
    types e at =
        of_each (λ x. HasType m.typed x (kind_at m.typed x)) (in_function at.owner) e
        (of_each (λ f. AllByRecursion (λ x. HasType m.typed x (kind_at m.typed x)) (in_function f)) (functions_in m.typed.program.items) at.owner (meets m.typed resolved placed low) at.stands) at.inside

    ready : AreReady m
    ready = record {
      types = types;
      one = one m.typed resolved placed low;
      rows = λ e at row is. expressions_found found meets one m resolved placed low least.modes e at row is;
      members = members_are m placed;
      struct_found = named_there (structs_in m.typed.program.items);
      member_found = member_there;
      field_itself = λ s d is_struct is_member. (of_each (IsItself m.typed Named.Field) s.fields d (of_each (λ (z : StructDefinition). AllByRecursion (IsItself m.typed Named.Field) z.fields) (structs_in m.typed.program.items) s k.fields is_struct) is_member).1;
      field_path = field_path m k low;
      field_plain = λ s d is_struct is_member. plain_by d.written.ctype.base (length d.written.ctype.levels - 1) (λ struct. struct_allowed d.written (field_allowed once only m.typed resolved placed low s d is_struct is_member) d.written.ctype.base refl struct);
      field_forms = λ how token. entity_forms m how (entity_at m.typed token token);
      global_path = global_lock m k low;
    }

pub lvalues_fit : EachNameOnce → OnlyNames → EachTypeFound → EachNamesItself → MeetsConstraints → OneType → RulesAreMet → LvaluesFit
lvalues_fit once only found itself meets one met m resolved placed low least well e at plain single =
    let ready = ready_of once only found itself meets one met m resolved placed low least well in
    names_cell m ready e (kind_at m.typed e) (ready.types e at) at plain single

pub arrays_fit : EachNameOnce → OnlyNames → EachTypeFound → EachNamesItself → MeetsConstraints → OneType → RulesAreMet → ArraysFit
arrays_fit once only found itself meets one met m resolved placed low least well a at is_one =
    let ready = ready_of once only found itself meets one met m resolved placed low least well in
    by ready (kind_at m.typed a) refl is_one (ready.types a at)
  where
    by : AreReady m → (k : Kind) → kind_at m.typed a ≡ k → is_array k ≡ true → HasType m.typed a (kind_at m.typed a) → IsArrayOf m a
    by ready (array b n) same is typed =
        let w = array_base m ready a (kind_at m.typed a) typed b n same in
        record { number = w.number; global = w.global; defined = w.at; place = w.place; element = ap element_kind same ∙ sym w.declared_is }
    by ready _ same is typed = absurd (false≢true is)
