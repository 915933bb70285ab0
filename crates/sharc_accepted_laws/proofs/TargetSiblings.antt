-- A lock path in the type of a field that names a field names one of the same struct.
use Rattle.sharc_accepted_laws.proofs.{Imports.{◌≡◌, ⊎_elim, ℕ, Bool, true, false, List, [], ◌∷◌, ◌++◌, length, refl, sym, ◌∙◌, subst, Option, Some, None, Contains, Mode, Locked, Path, One, Through, Declaration, WrittenType, StructDefinition, IsLow, IsPlaced, Item, structure, global, function, UnknownName, TypeNotAllowed, Named, Scope, Entry, look_up, field_of, named_of, Note, fault, refers, fault_unless, first_notes, main_notes, name_notes, path_notes, mode_notes, modes_notes, base_notes, allowed_there, type_notes, Role, sizes_notes, heads_notes, no_heads, field_notes, fields_notes, item_notes, items_notes, main_missing, file_scope, notes_about, Resolution, IsResolved, named_at, structs_in, lock_of, EachNameOnce, OnlyNames, head_there, head_or_tail, none_there, left_there, right_there}, StaticSiblings.{found_there, not_field}, Noted.{no_faults, told}}

-- ---- what a note of the program says is so
-- the field of this token is one of these
pub record IsSibling (fields : List Declaration) (f : ℕ) : Type 0 where
  pub sibling : Declaration
  pub has : Contains fields sibling
  pub is : sibling.name.site.token ≡ f

module _ (once : EachNameOnce) (only : OnlyNames) (r : Resolution) (resolved : IsResolved r) (placed : IsPlaced r.program) (low : IsLow r.program) where
  -- ---- the notes of a field's type are notes of the program
  abbrev file : Scope
  file = file_scope r.program.items

  in_modes : (siblings : List Declaration) (levels : List (Option Mode)) (path : Path) (note : Note) → Contains levels (Some (Locked path)) → Contains (path_notes file siblings path) note → Contains (modes_notes file siblings levels) note
  in_modes siblings [] path note has at = absurd (none_there _ has)
  in_modes siblings (level ∷ below) path note has at =
      ⊎_elim (λ is. left_there (mode_notes file siblings level) (modes_notes file siblings below) note (subst (λ z. Contains (mode_notes file siblings z) note) (sym is) at))
      (λ later. right_there (mode_notes file siblings level) (modes_notes file siblings below) note (in_modes siblings below path note later at)) (head_or_tail level _ below has)

  in_type : (siblings : List Declaration) (w : WrittenType) (path : Path) (note : Note) → Contains w.ctype.levels (Some (Locked path)) → Contains (path_notes file siblings path) note → Contains (type_notes file siblings Role.Field w) note
  in_type siblings w path note has at =
      right_there (base_notes file.structs w.base.token w.ctype.base ++ fault_unless (allowed_there Role.Field w) w.span.first.token TypeNotAllowed) (modes_notes file siblings w.ctype.levels) note
      (in_modes siblings w.ctype.levels path note has at)

  in_fields : (all earlier rest : List Declaration) (d : Declaration) (note : Note) → Contains rest d → Contains (type_notes file all Role.Field d.written) note → Contains (fields_notes file all earlier rest) note
  in_fields all earlier [] d note has at = absurd (none_there _ has)
  in_fields all earlier (x ∷ rest) d note has at =
      ⊎_elim (λ is. left_there (field_notes file all earlier x) (fields_notes file all (earlier ++ x ∷ []) rest) note (left_there (type_notes file all Role.Field x.written) _ note (subst (λ (z : Declaration). Contains (type_notes file all Role.Field z.written) note) (sym is) at)))
      (λ later. right_there (field_notes file all earlier x) (fields_notes file all (earlier ++ x ∷ []) rest) note (in_fields all (earlier ++ x ∷ []) rest d note later at)) (head_or_tail x d rest has)

  in_items : (items : List Item) (s : StructDefinition) (note : Note) → Contains (structs_in items) s → Contains (fields_notes file s.fields [] s.fields) note → Contains (items_notes file items) note
  in_items [] s note has at = absurd (none_there _ has)
  in_items (structure x ∷ rest) s note has at =
      ⊎_elim (λ is. left_there (fields_notes file x.fields [] x.fields) (items_notes file rest) note (subst (λ (z : StructDefinition). Contains (fields_notes file z.fields [] z.fields) note) (sym is) at))
      (λ later. right_there (fields_notes file x.fields [] x.fields) (items_notes file rest) note (in_items rest s note later at)) (head_or_tail x s (structs_in rest) has)
  in_items (global g ∷ rest) s note has at = right_there (item_notes file (global g)) (items_notes file rest) note (in_items rest s note has at)
  in_items (function f ∷ rest) s note has at = right_there (item_notes file (function f)) (items_notes file rest) note (in_items rest s note has at)

  in_program : (note : Note) → Contains (items_notes file r.program.items) note → Contains (notes_about r.program) note
  in_program note at =
      left_there _ (main_missing (length r.program.tokens.list) file.names) note
      (left_there _ (sizes_notes file.structs 0 r.program.items) note (right_there (heads_notes no_heads r.program.items) (items_notes file r.program.items) note at))

  -- ---- the first name of a path
  by_name : (token : ℕ) (o : Option Entry) (f : ℕ) → ((note : Note) → Contains (name_notes token o) note → Contains (notes_about r.program) note) → named_at r token ≡ Named.Field f → ⊥
  by_name token None f inside is = no_faults (notes_about r.program) token UnknownName (inside _ (head_there _ [])) resolved.typed
  by_name token (Some e) f inside is = not_field r e.meaning f (sym (told once only r resolved placed low (refers token (named_of e.meaning)) token (named_of e.meaning) (inside _ (head_there _ (main_notes token e.meaning))) (refl, refl)) ∙ is)

  by_first : (fields : List Declaration) (token : ℕ) (name : List ℕ) (o : Option Declaration) (e : Option Entry) → field_of fields name ≡ o → (f : ℕ)
      → ((note : Note) → Contains (first_notes token o e) note → Contains (notes_about r.program) note) → named_at r token ≡ Named.Field f → IsSibling fields f
  by_first fields token name None e found f inside is = absurd (by_name token e f inside is)
  by_first fields token name (Some d) e found f inside is =
      let n = told once only r resolved placed low (refers token (Named.Field d.name.site.token)) token (Named.Field d.name.site.token) (inside _ (head_there _ [])) (refl, refl) in
      record { sibling = d; has = found_there fields name d found; is = cc (sym n ∙ is) }

  by_path : (fields : List Declaration) (path : Path) (f : ℕ) → ((note : Note) → Contains (path_notes file fields path) note → Contains (notes_about r.program) note) → named_at r (lock_of path).first ≡ Named.Field f → IsSibling fields f
  by_path fields (One m token) f inside is = by_first fields token m (field_of fields m) (look_up file.names m) refl f inside is
  by_path fields (Through x token m) f inside is =
      by_first fields token x (field_of fields x) (look_up file.names x) refl f
      (λ note at. inside note (left_there (first_notes token (field_of fields x) (look_up file.names x)) _ note at)) is

  pub sibling_named : (s : StructDefinition) (d : Declaration) (path : Path) (f : ℕ) → Contains (structs_in r.program.items) s → Contains s.fields d → Contains d.written.ctype.levels (Some (Locked path))
      → named_at r (lock_of path).first ≡ Named.Field f → IsSibling s.fields f
  sibling_named s d path f is_struct is_member is_level is =
      by_path s.fields path f (λ note at. in_program note (in_items r.program.items s note is_struct (in_fields s.fields [] s.fields d note is_member (in_type s.fields d.written path note is_level at)))) is

  -- ---- a field may stand in a struct
  pub field_allowed : (s : StructDefinition) (d : Declaration) → Contains (structs_in r.program.items) s → Contains s.fields d → allowed_there Role.Field d.written ≡ true
  field_allowed s d is_struct is_member = by (allowed_there Role.Field d.written) refl
    where
      noted : allowed_there Role.Field d.written ≡ false → Contains (type_notes file s.fields Role.Field d.written) (fault d.written.span.first.token TypeNotAllowed)
      noted is =
          left_there (base_notes file.structs d.written.base.token d.written.ctype.base ++ fault_unless (allowed_there Role.Field d.written) d.written.span.first.token TypeNotAllowed) (modes_notes file s.fields d.written.ctype.levels) (fault d.written.span.first.token TypeNotAllowed)
          (right_there (base_notes file.structs d.written.base.token d.written.ctype.base) (fault_unless (allowed_there Role.Field d.written) d.written.span.first.token TypeNotAllowed) (fault d.written.span.first.token TypeNotAllowed)
          (subst (λ b. Contains (fault_unless b d.written.span.first.token TypeNotAllowed) (fault d.written.span.first.token TypeNotAllowed)) (sym is) (head_there (fault d.written.span.first.token TypeNotAllowed) [])))

      by : (b : Bool) → allowed_there Role.Field d.written ≡ b → allowed_there Role.Field d.written ≡ true
      by true is = is
      by false is =
          absurd (no_faults (notes_about r.program) d.written.span.first.token TypeNotAllowed (in_program _ (in_items r.program.items s _ is_struct (in_fields s.fields [] s.fields d _ is_member (noted is)))) resolved.typed)
