-- A lock path that leads through a variable leads to a mutex of the table.
use Rattle.sharc_accepted_laws.proofs.{Imports.{◌≡◌, ℕ, zero, suc, ◌+◌, ◌<◌, ◌≤◌, Bool, true, false, cond, not, List, [], ◌∷◌, length, map, take, drop, get_or as slice_index_or, slice_get, unwrap_or, refl, ap, sym, ◌∙◌, subst, arith, lt-ltb, nat_lt, bytes_eq, Some, None, position, position_or_len, Base, Mode, Declaration, object, mutex, is_pointer, declared_kind, field_of, Resolution, variable_kind, structs_in, struct_named, field_place, field_place_behind, Assignment, base_of, Targets, written, read, declared_row, modes_of, Sharing, sharing_of, fields_of, fields_named, fields_behind, IsMutexBehind, Context, MutexWord, Field, no_field, row_of, field_at, IsAccepted, static_of, variable_type, FieldsPlaced, VariablesFound, MembersAre, IsRowOf, IsMemberAt, PointeesFit, pointee, form_of, stars_in, own_mode, base_content, pointer_content, declared_content, base_fields, shape_fields, targets_of, IsMutexThere, MutexesBehind, none_some, place_there as there_at}, Laying.named_there as struct_there}

-- ---- a field by its name
abbrev pub place_of : List ℕ → List Declaration → ℕ
place_of name list = position_or_len (λ (e : Declaration). bytes_eq e.name.text name) list

pub record IsPlace (list : List Declaration) (name : List ℕ) (d : Declaration) : Type 0 where
  pub place : ℕ
  pub low : place < length list
  pub at : slice_get list place ≡ Some d
  pub first : position_or_len (λ (e : Declaration). bytes_eq e.name.text name) list ≡ place

pub place_named : (list : List Declaration) (name : List ℕ) (d : Declaration) → field_of list name ≡ Some d → IsPlace list name d
place_named [] name d is = absurd (none_some d is)
place_named (x ∷ rest) name d is = by (bytes_eq x.name.text name) refl is (place_named rest name d)
  where
    by : (b : Bool) → bytes_eq x.name.text name ≡ b → cond b (Some x) (field_of rest name) ≡ Some d → (field_of rest name ≡ Some d → IsPlace rest name d) → IsPlace (x ∷ rest) name d
    by true same is more = record { place = 0; low = omega arith; at = is; first = ap (λ b. cond (not b) (1 + place_of name rest) 0) same }
    by false other is more =
        let p = more is in
        let next : 1 + place_of name rest ≡ suc p.place = omega (arith, p.first) in
        record { place = suc p.place; low = omega (arith, p.low); at = p.at; first = ap (λ b. cond (not b) (1 + place_of name rest) 0) other ∙ next }

pub position_is : (list : List Declaration) (name : List ℕ) (d : Declaration) (p : IsPlace list name d) → position (λ (e : Declaration). bytes_eq e.name.text name) list ≡ Some p.place
position_is list name d p = ap (λ i. cond (nat_lt i (length list)) (Some i) None) p.first ∙ ap (λ b. cond b (Some p.place) None) (lt-ltb p.place (length list) p.low)

-- ---- one target
one_mode : (first : ℕ) (modes : List Mode) → first + 1 ≤ length modes → (x : Mode) × (take (suc zero) (drop first modes) ≡ x ∷ [])
one_mode zero (x ∷ rest) low = (x, refl)
one_mode (suc n) (x ∷ rest) low = one_mode n rest (omega (arith, low))
one_mode _ [] low = absurd (omega (arith, low))

pub one_sharing : (m : Assignment) (row : Targets) → row.count ≡ 1 → row.first + row.count ≤ length m.modes → (q : Sharing) × (modes_of m row ≡ q ∷ [])
one_sharing m row one ends =
    let inside : row.first + 1 ≤ length m.modes = omega (arith, one, ends) in
    let w = one_mode row.first m.modes inside in
    (read m.typed row.reading (sharing_of w.0), ap (λ n. map (λ mode. read m.typed row.reading (sharing_of mode)) (take n (drop row.first m.modes))) one ∙ ap (map (λ mode. read m.typed row.reading (sharing_of mode))) w.1)

-- a mutex is in the field
holds_mutex : (m : Assignment) (n : ℕ) (d : Declaration) → declared_kind d.written ≡ mutex → declared_content m n d ≡ MutexWord
holds_mutex m n d is = ap (λ z. cond (is_pointer z) (pointer_content m n d.written.ctype.base (modes_of m (declared_row m.typed written d.name.site.token))) (base_content (base_of z))) is

module _ (variables : VariablesFound) (members : MembersAre) (pointees : PointeesFit) (fields_placed : FieldsPlaced) (c : Context) (a : IsAccepted c.program) (x : ℕ) (name : List ℕ) (w : IsMutexBehind c.program.typed x name) (s : List ℕ)
    (kind : declared_kind w.variable.written ≡ object (Base.Struct s) 1) (struct : struct_named (structs_in c.program.typed.program.items) s ≡ Some w.struct) where
  abbrev m : Assignment
  m = c.program

  abbrev r : Resolution
  r = c.program.typed

  abbrev row : Targets
  row = declared_row c.program.typed written x

  row_is : IsRowOf m (declared_kind w.variable.written) row
  row_is = variables m a.resolved a.placed a.low a.least.modes x w.variable w.declared written

  mode : (q : Sharing) × (modes_of m row ≡ q ∷ [])
  mode = one_sharing m row (row_is.count ∙ ap stars_in kind) row_is.ends

  abbrev element : List Field
  element = base_fields m (own_mode (form_of mode.0)) (Base.Struct s)

  target_is : (variable_type c x).target ≡ pointee m (declared_kind w.variable.written) row
  target_is = ap (λ o. (static_of c (variable_kind o) (modes_of m row)).target) w.declared

  fields_are : (row_of (targets_of m) (pointee m (declared_kind w.variable.written) row)).fields ≡ base_fields m (own_mode (form_of mode.0)) (Base.Struct s)
  fields_are =
      (pointees m (declared_kind w.variable.written) row row_is (ap is_pointer kind)).fields ∙ ap (λ k. shape_fields m (base_of k) (map form_of (modes_of m row))) kind ∙ ap (λ l. shape_fields m (Base.Struct s) (map form_of l)) mode.1

  place : IsPlace w.struct.fields name w.member
  place = place_named w.struct.fields name w.member w.has

  place_is : field_place_behind r x name ≡ field_place r w.member.name.site.token
  place_is =
      ap (λ o. unwrap_or (position (λ (e : Declaration). bytes_eq e.name.text name) (fields_behind r o)) 0) w.declared
      ∙ ap (λ n. unwrap_or (position (λ (e : Declaration). bytes_eq e.name.text name) (fields_named r n)) 0) w.names
      ∙ ap (λ o. unwrap_or (position (λ (e : Declaration). bytes_eq e.name.text name) (fields_of o)) 0) w.defined
      ∙ ap (λ o. unwrap_or o 0) (position_is w.struct.fields name w.member place)
      ∙ sym (fields_placed r a.placed w.struct place.place w.member (struct_there (structs_in r.program.items) s w.struct struct) place.at)

  at : IsMemberAt m s w.member (own_mode (form_of mode.0))
  at = members m a.placed s w.struct struct w.member (there_at w.struct.fields place.place w.member place.at) (own_mode (form_of mode.0))

  there : IsMutexThere c x name
  there = record {
    inside = subst (λ k. field_place_behind r x name < length (row_of (targets_of m) k).fields) (sym target_is)
        (subst (λ l. field_place_behind r x name < length l) (sym fields_are) (subst (λ k. k < length (base_fields m (own_mode (form_of mode.0)) (Base.Struct s))) (sym place_is) at.inside));
    holds = ap (λ k. (field_at (targets_of m) k (field_place_behind r x name)).holds) target_is
        ∙ ap (λ l. (slice_index_or l (field_place_behind r x name) no_field).holds) fields_are
        ∙ ap (λ k. (slice_index_or (base_fields m (own_mode (form_of mode.0)) (Base.Struct s)) k no_field).holds) place_is
        ∙ ap (λ (f : Field). f.holds) at.at
        ∙ holds_mutex m (field_place r w.member.name.site.token) w.member w.mutex;
  }

pub mutexes_behind : VariablesFound → MembersAre → PointeesFit → FieldsPlaced → MutexesBehind
mutexes_behind variables members pointees fields_placed c a x name w s kind struct = there variables members pointees fields_placed c a x name w s kind struct
