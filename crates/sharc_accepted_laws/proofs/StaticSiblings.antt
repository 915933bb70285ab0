-- The name of a sibling in the type of a field names the field of that name of its struct, which stands there at the place that it has in the struct.
use Rattle.sharc_accepted_laws.proofs.{Imports.{◌≡◌, ⊎_elim, ℕ, zero, suc, ◌<◌, Bool, true, false, cond, List, [], ◌∷◌, ◌++◌, length, get_or, slice_get, refl, ap, sym, ◌∙◌, subst, arith, bytes_eq, Option, Some, None, Contains, unwrap_or, AllByRecursion, position, Base, Mode, Locked, One, Token, Declaration, StructDefinition, Mark, a_name, level_marks, levels_marks, base_marks, IsMark, AreMarks, IsPlaced, PlacedType, PlacedDeclarations, PlacedItems, Item, structure, global, function, Named, Scope, object, declared_kind, Entry, Meaning, defined, look_up, named_of, field_of, named_struct, Note, first_notes, name_notes, mode_notes, modes_notes, type_notes, Role, field_notes, fields_notes, item_notes, items_notes, file_scope, notes_about, Resolution, named_at, declaration_at, declarations_in, variable_kind, structs_in, IsMemberOf, struct_named, field_place, field_place_behind, text_of, text_at, fields_of, fields_named, fields_behind, FieldsPlaced, same_some, none_some, front, back, head_there, head_or_tail, of_each, tail_there, none_there}, Noted.{Says, AllSay, items_say, BaseSays, declarations_base, declared_has, named_by, base_of_kind}, Structs.in_file, Laying.{named_there as struct_there}, Paths.{IsPlace, place_named, position_is}}
use Rattle.sharc_names.specs.Names as meaning

abbrev pub SiblingsAre : Resolution → Type 0
SiblingsAre r = (x : ℕ) (struct name : List ℕ) (d : Declaration) (text : List ℕ) (token t : ℕ) → variable_kind (declaration_at r x) ≡ object (Base.Struct struct) 1 → IsMemberOf r struct name d
    → Contains d.written.ctype.levels (Some (Locked (One text token))) → named_at r token ≡ Named.Field t → field_place_behind r x (text_at r token) ≡ field_place r t

-- ---- the text of a name
text_in : (l : List Token) (n : ℕ) (text : List ℕ) → n < length l → ((d : Token) → (get_or l n d).text ≡ text) → text_of (slice_get l n) ≡ text
text_in [] n text low is = absurd (omega (arith, low))
text_in (t ∷ rest) zero text low is = is t
text_in (t ∷ rest) (suc n) text low is = text_in rest n text (omega (arith, low)) is

module _ (all : List Token) where
  marks_left : (a b : List Mark) → AreMarks all (a ++ b) → AreMarks all a
  marks_left [] b h = tt
  marks_left (x ∷ rest) b h = (h.0, marks_left rest b h.1)

  marks_right : (a b : List Mark) → AreMarks all (a ++ b) → AreMarks all b
  marks_right [] b h = h
  marks_right (x ∷ rest) b h = marks_right rest b h.1

  level_marked : (first : Bool) (written : List Mark) (levels : List (Option Mode)) (level : Option Mode) → AreMarks all (levels_marks first written levels) → Contains levels level → AreMarks all (level_marks level)
  level_marked first written [] level h has = absurd (none_there level has)
  level_marked true written (x ∷ []) level h has =
      ⊎_elim (λ is. subst (λ z. AreMarks all (level_marks z)) is (marks_left (level_marks x) written h)) (λ later. absurd (none_there level later)) (head_or_tail x level [] has)
  level_marked false written (x ∷ []) level h has =
      ⊎_elim (λ is. subst (λ z. AreMarks all (level_marks z)) is (marks_right written (level_marks x) h)) (λ later. absurd (none_there level later)) (head_or_tail x level [] has)
  level_marked true written (x ∷ (y ∷ below)) level h has =
      ⊎_elim (λ is. subst (λ z. AreMarks all (level_marks z)) is (marks_right (levels_marks true written (y ∷ below)) (level_marks x) h))
      (λ later. level_marked true written (y ∷ below) level (marks_left (levels_marks true written (y ∷ below)) (level_marks x) h) later) (head_or_tail x level (y ∷ below) has)
  level_marked false written (x ∷ (y ∷ below)) level h has =
      ⊎_elim (λ is. subst (λ z. AreMarks all (level_marks z)) is (marks_right (levels_marks false written (y ∷ below)) (level_marks x) h))
      (λ later. level_marked false written (y ∷ below) level (marks_left (levels_marks false written (y ∷ below)) (level_marks x) h) later) (head_or_tail x level (y ∷ below) has)

  -- ---- the types of fields at their tokens
  one_placed : (list : List Declaration) (d : Declaration) → PlacedDeclarations all list → Contains list d → PlacedType all d.written
  one_placed [] d h has = absurd (none_there d has)
  one_placed (x ∷ rest) d h has = ⊎_elim (λ is. subst (λ (z : Declaration). PlacedType all z.written) is h.0.1) (λ later. one_placed rest d h.1 later) (head_or_tail x d rest has)

  field_placed : (items : List Item) (s : StructDefinition) (d : Declaration) → PlacedItems all items → Contains (structs_in items) s → Contains s.fields d → PlacedType all d.written
  field_placed [] s d h has member = absurd (none_there s has)
  field_placed (structure x ∷ rest) s d h has member = ⊎_elim (λ is. one_placed s.fields d (subst (λ (z : StructDefinition). PlacedDeclarations all z.fields) is h.0.2) member) (λ later. field_placed rest s d h.1 later member) (head_or_tail x s (structs_in rest) has)
  field_placed (global g ∷ rest) s d h has member = field_placed rest s d h.1 has member
  field_placed (function f ∷ rest) s d h has member = field_placed rest s d h.1 has member

-- ---- fields by their names
pub found_there : (list : List Declaration) (name : List ℕ) (d : Declaration) → field_of list name ≡ Some d → Contains list d
found_there [] name d is = absurd (none_some d is)
found_there (x ∷ rest) name d is = by (bytes_eq x.name.text name) is (found_there rest name d)
  where
    by : (b : Bool) → cond b (Some x) (field_of rest name) ≡ Some d → (field_of rest name ≡ Some d → Contains rest d) → Contains (x ∷ rest) d
    by true is later = subst (Contains (x ∷ rest)) (same_some x d is) (head_there x rest)
    by false is later = tail_there x d rest (later is)

-- ---- what is said of the types of fields
module _ (r : Resolution) where
  abbrev P : Note → Type 0
  P = Says r

  structs_say : (file : Scope) (items : List Item) → AllSay r (items_notes file items) → AllByRecursion (λ s. AllSay r (fields_notes file s.fields [] s.fields)) (structs_in items)
  structs_say file [] h = tt
  structs_say file (structure s ∷ rest) h = (front P (item_notes file (structure s)) (items_notes file rest) h, structs_say file rest (back P (item_notes file (structure s)) (items_notes file rest) h))
  structs_say file (global g ∷ rest) h = structs_say file rest (back P (item_notes file (global g)) (items_notes file rest) h)
  structs_say file (function f ∷ rest) h = structs_say file rest (back P (item_notes file (function f)) (items_notes file rest) h)

  fields_say : (scope : Scope) (all earlier list : List Declaration) → AllSay r (fields_notes scope all earlier list) → AllByRecursion (λ d. AllSay r (type_notes scope all Role.Field d.written)) list
  fields_say scope all earlier [] h = tt
  fields_say scope all earlier (d ∷ rest) h = (
    front P (type_notes scope all Role.Field d.written) _ (front P (field_notes scope all earlier d) (fields_notes scope all (earlier ++ d ∷ []) rest) h),
    fields_say scope all (earlier ++ d ∷ []) rest (back P (field_notes scope all earlier d) (fields_notes scope all (earlier ++ d ∷ []) rest) h),
  )

  levels_say : (scope : Scope) (siblings : List Declaration) (levels : List (Option Mode)) → AllSay r (modes_notes scope siblings levels) → AllByRecursion (λ level. AllSay r (mode_notes scope siblings level)) levels
  levels_say scope siblings [] h = tt
  levels_say scope siblings (x ∷ rest) h = (front P (mode_notes scope siblings x) (modes_notes scope siblings rest) h, levels_say scope siblings rest (back P (mode_notes scope siblings x) (modes_notes scope siblings rest) h))

  pub not_field : (m : Meaning) (t : ℕ) → named_of m ≡ Named.Field t → ⊥
  not_field (meaning.variable d) t h = cc
  not_field _ t h = cc

  no_entry : (token t : ℕ) (o : Option Entry) → AllSay r (name_notes token o) → named_at r token ≡ Named.Field t → ⊥
  no_entry token t None h is = absurd h.0
  no_entry token t (Some e) h is = not_field e.meaning t (sym h.0 ∙ is)

  sibling : (fields : List Declaration) (text : List ℕ) (token t : ℕ) (o : Option Declaration) (e : Option Entry) → field_of fields text ≡ o → AllSay r (first_notes token o e) → named_at r token ≡ Named.Field t
      → (d : Declaration) × (field_of fields text ≡ Some d) × (t ≡ d.name.site.token)
  sibling fields text token t None e found h is = absurd (no_entry token t e h is)
  sibling fields text token t (Some d) e found h is = (d, found, cc (sym is ∙ h.0))

  module _ (fields_placed : FieldsPlaced) (placed : IsPlaced r.program) (say : AllSay r (notes_about r.program)) where
    abbrev file : Scope
    file = file_scope r.program.items

    of_items : AllSay r (items_notes file r.program.items)
    of_items = items_say r say

    declared : AllByRecursion (BaseSays r file.structs) (declarations_in r.program.items)
    declared = declarations_base r file r.program.items of_items

    -- the struct to which a variable points
    pub record PointsTo (d : Declaration) (s : StructDefinition) : Type 0 where
      pub number : ℕ
      pub names : named_at r d.written.base.token ≡ Named.Struct number
      pub is : slice_get (structs_in r.program.items) number ≡ Some s

    pub points_to : (x : ℕ) (d : Declaration) (struct : List ℕ) (s : StructDefinition) → declaration_at r x ≡ Some d → declared_kind d.written ≡ object (Base.Struct struct) 1 → struct_named (structs_in r.program.items) struct ≡ Some s → PointsTo d s
    points_to x d struct s at kind is =
        let f = in_file struct r.program.items s is in
        let b = named_by r file.structs d struct (base_of_kind r d struct 1 kind) (declared_has r (BaseSays r file.structs) (declarations_in r.program.items) x d declared at) in
        let same : b.0 ≡ defined f.0 s.fields = same_some b.0 (defined f.0 s.fields) (sym b.1 ∙ f.2) in
        record { number = f.0; names = b.2 ∙ ap named_struct same; is = f.1 }

    -- the sibling that a name in the type of a field names
    pub record IsBeside (s : StructDefinition) (text : List ℕ) (token t : ℕ) : Type 0 where
      pub found : Declaration
      pub has : field_of s.fields text ≡ Some found
      pub is : t ≡ found.name.site.token
      pub text_is : text_at r token ≡ text

    pub is_beside : (s : StructDefinition) (d : Declaration) (text : List ℕ) (token t : ℕ) → Contains (structs_in r.program.items) s → Contains s.fields d → Contains d.written.ctype.levels (Some (Locked (One text token))) → named_at r token ≡ Named.Field t → IsBeside s text token t
    is_beside s d text token t s_there d_there level names = record { found = beside.0; has = beside.1; is = beside.2; text_is = text_in r.program.tokens.list token text marked.0 (λ e. (marked.1 e).1) }
      where
        type_says : AllSay r (type_notes file s.fields Role.Field d.written)
        type_says =
            of_each (λ d. AllSay r (type_notes file s.fields Role.Field d.written)) s.fields d
            (fields_say file s.fields [] s.fields (of_each (λ s. AllSay r (fields_notes file s.fields [] s.fields)) (structs_in r.program.items) s (structs_say file r.program.items of_items) s_there)) d_there

        path_says : AllSay r (first_notes token (field_of s.fields text) (look_up file.names text))
        path_says = of_each (λ level. AllSay r (mode_notes file s.fields level)) d.written.ctype.levels (Some (Locked (One text token))) (levels_say file s.fields d.written.ctype.levels (back P _ (modes_notes file s.fields d.written.ctype.levels) type_says)) level

        beside : (e : Declaration) × (field_of s.fields text ≡ Some e) × (t ≡ e.name.site.token)
        beside = sibling s.fields text token t (field_of s.fields text) (look_up file.names text) refl path_says names

        marked : IsMark r.program.tokens.list (a_name token text)
        marked =
            (level_marked r.program.tokens.list d.written.mode_first (base_marks d.written.ctype.base d.written.base.token) d.written.ctype.levels (Some (Locked (One text token)))
            (field_placed r.program.tokens.list r.program.items s d placed.items s_there d_there).1 level).0

    pub siblings_are : SiblingsAre r
    siblings_are x struct name d text token t kind member level names = by (declaration_at r x) refl kind
      where
        s : StructDefinition
        s = member.0

        s_there : Contains (structs_in r.program.items) s
        s_there = struct_there (structs_in r.program.items) struct s member.1

        beside : IsBeside s text token t
        beside = is_beside s d text token t s_there (found_there s.fields name d member.2) level names

        there : IsPlace s.fields text beside.found
        there = place_named s.fields text beside.found beside.has

        fields_are : (e : Declaration) → declaration_at r x ≡ Some e → variable_kind (Some e) ≡ object (Base.Struct struct) 1 → fields_behind r (declaration_at r x) ≡ s.fields
        fields_are e at kind =
            let to = points_to x e struct s at kind member.1 in
            ap (fields_behind r) at ∙ ap (fields_named r) to.names ∙ ap fields_of to.is

        by : (o : Option Declaration) → declaration_at r x ≡ o → variable_kind o ≡ object (Base.Struct struct) 1 → field_place_behind r x (text_at r token) ≡ field_place r t
        by None at kind = absurd (let k : variable_kind None ≡ object (Base.Struct struct) 1 = kind in cc)
        by (Some e) at kind =
            ap (λ list. unwrap_or (position (λ (y : Declaration). bytes_eq y.name.text (text_at r token)) list) 0) (fields_are e at kind)
            ∙ ap (λ z. unwrap_or (position (λ (y : Declaration). bytes_eq y.name.text z) s.fields) 0) beside.text_is
            ∙ ap (λ o. unwrap_or o 0) (position_is s.fields text beside.found there)
            ∙ sym (ap (field_place r) beside.is ∙ fields_placed r placed s there.place beside.found s_there there.at)
