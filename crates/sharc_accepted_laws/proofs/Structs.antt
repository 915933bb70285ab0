-- A struct of the program is known by its name in the file, the first of that name.
use Rattle.sharc_accepted_laws.proofs.{Imports.{◌≡◌, ℕ, suc, ◌+◌, Bool, true, false, cond, List, [], ◌∷◌, ◌++◌, slice_get, refl, ap, sym, ◌∙◌, arith, Some, None, is_some, bytes_eq, true≢false, false_from_ne_true, bytes_eq-Decides, StructDefinition, Item, structure, global, function, Scope, StructTable, StructMeaning, defined, struct_of, defines_condition, with_conditions, Heads, with_struct, behind_all, no_heads, file_scope, structs_in, struct_named, same_some, none_some, bytes_same}}
use Rattle.sharc_ctype.specs.Heads.{behind}

module _ (name : List ℕ) where
  kept : (table : StructTable) (e : List ℕ × StructMeaning) (m : StructMeaning) → struct_of table name ≡ Some m → struct_of (table ++ e ∷ []) name ≡ Some m
  kept [] e m h = absurd (none_some m h)
  kept (x ∷ rest) e m h = by (bytes_eq name x.0) h (kept rest e m)
    where
      by : (b : Bool) → cond b (Some x.1) (struct_of rest name) ≡ Some m → (struct_of rest name ≡ Some m → struct_of (rest ++ e ∷ []) name ≡ Some m) → cond b (Some x.1) (struct_of (rest ++ e ∷ []) name) ≡ Some m
      by true h later = h
      by false h later = later h

  added : (table : StructTable) (x : StructMeaning) → struct_of table name ≡ None → struct_of (table ++ (name, x) ∷ []) name ≡ Some x
  added [] x h = ap (λ b. cond b (Some x) None) (bytes_same name)
  added (y ∷ rest) x h = by (bytes_eq name y.0) h (added rest x)
    where
      by : (b : Bool) → cond b (Some y.1) (struct_of rest name) ≡ None → (struct_of rest name ≡ None → struct_of (rest ++ (name, x) ∷ []) name ≡ Some x) → cond b (Some y.1) (struct_of (rest ++ (name, x) ∷ []) name) ≡ Some x
      by true h later = absurd (cc)
      by false h later = later h

  passed : (table : StructTable) (e : List ℕ × StructMeaning) → struct_of table name ≡ None → bytes_eq name e.0 ≡ false → struct_of (table ++ e ∷ []) name ≡ None
  passed [] e h is = ap (λ b. cond b (Some e.1) None) is
  passed (y ∷ rest) e h is = by (bytes_eq name y.0) h (λ k. passed rest e k is)
    where
      by : (b : Bool) → cond b (Some y.1) (struct_of rest name) ≡ None → (struct_of rest name ≡ None → struct_of (rest ++ e ∷ []) name ≡ None) → cond b (Some y.1) (struct_of (rest ++ e ∷ []) name) ≡ None
      by true h later = absurd (cc)
      by false h later = later h

  -- a struct more
  module _ (table : StructTable) (n : ℕ) (s : StructDefinition) where
    abbrev entry : List ℕ × StructMeaning
    entry = (s.name.text, defined n s.fields)

    with_kept : (m : StructMeaning) → struct_of table name ≡ Some m → struct_of (with_struct table n s) name ≡ Some m
    with_kept m h = by (is_some (struct_of table s.name.text))
      where
        by : (b : Bool) → struct_of (cond b table (table ++ entry ∷ [])) name ≡ Some m
        by true = h
        by false = kept table entry m h

    with_new : struct_of table name ≡ None → s.name.text ≡ name → struct_of (with_struct table n s) name ≡ Some (defined n s.fields)
    with_new none is =
        let new : is_some (struct_of table s.name.text) ≡ false = ap is_some (ap (struct_of table) is ∙ none) in
        ap (λ b. struct_of (cond b table (table ++ entry ∷ [])) name) new ∙ ap (λ y. struct_of (table ++ (y, defined n s.fields) ∷ []) name) is ∙ added table (defined n s.fields) none

    with_other : struct_of table name ≡ None → bytes_eq s.name.text name ≡ false → struct_of (with_struct table n s) name ≡ None
    with_other none other = by (is_some (struct_of table s.name.text))
      where
        apart : bytes_eq name s.name.text ≡ false
        apart = false_from_ne_true (bytes_eq name s.name.text) (λ t. true≢false (sym ((bytes_eq-Decides s.name.text name).1 (sym ((bytes_eq-Decides name s.name.text).0 t))) ∙ other))

        by : (b : Bool) → struct_of (cond b table (table ++ entry ∷ [])) name ≡ None
        by true = none
        by false = passed table entry none apart

  all_kept : (h : Heads) (items : List Item) (m : StructMeaning) → struct_of h.scope.structs name ≡ Some m → struct_of (behind_all h items).scope.structs name ≡ Some m
  all_kept h [] m is = is
  all_kept h (structure s ∷ rest) m is = all_kept (behind h (structure s)) rest m (with_kept h.scope.structs h.structs s m is)
  all_kept h (global g ∷ rest) m is = all_kept (behind h (global g)) rest m is
  all_kept h (function f ∷ rest) m is = all_kept (behind h (function f)) rest m is

  pub record IsFirst (h : Heads) (items : List Item) (s : StructDefinition) : Type 0 where
    pub place : ℕ
    pub at : slice_get (structs_in items) place ≡ Some s
    pub is : struct_of (behind_all h items).scope.structs name ≡ Some (defined (h.structs + place) s.fields)

  pub first : (h : Heads) (items : List Item) (s : StructDefinition) → struct_of h.scope.structs name ≡ None → struct_named (structs_in items) name ≡ Some s → IsFirst h items s
  first h [] s none is = absurd (none_some s is)
  first h (structure x ∷ rest) s none is = by (bytes_eq x.name.text name) refl is (first (behind h (structure x)) rest s)
    where
      by : (b : Bool) → bytes_eq x.name.text name ≡ b → cond b (Some x) (struct_named (structs_in rest) name) ≡ Some s
          → (struct_of (with_struct h.scope.structs h.structs x) name ≡ None → struct_named (structs_in rest) name ≡ Some s → IsFirst (behind h (structure x)) rest s) → IsFirst h (structure x ∷ rest) s
      by true same is later =
          let here : h.structs ≡ h.structs + 0 = omega arith in
          record {
            place = 0;
            at = is;
            is = all_kept (behind h (structure x)) rest (defined h.structs x.fields) (with_new h.scope.structs h.structs x none ((bytes_eq-Decides x.name.text name).0 same))
                ∙ ap (λ n. Some (defined n x.fields)) here ∙ ap (λ (y : StructDefinition). Some (defined (h.structs + 0) y.fields)) (same_some x s is);
          }
      by false other is later =
          let f = later (with_other h.scope.structs h.structs x none other) is in
          let there : h.structs + 1 + f.place ≡ h.structs + suc f.place = omega arith in
          record { place = suc f.place; at = f.at; is = f.is ∙ ap (λ n. Some (defined n s.fields)) there }
  first h (global g ∷ rest) s none is = let f = first (behind h (global g)) rest s none is in record { place = f.place; at = f.at; is = f.is }
  first h (function g ∷ rest) s none is = let f = first (behind h (function g)) rest s none is in record { place = f.place; at = f.at; is = f.is }

  known_kept : (scope : Scope) (b : Bool) (m : StructMeaning) → struct_of scope.structs name ≡ Some m → struct_of (cond b scope (with_conditions scope)).structs name ≡ Some m
  known_kept scope true m is = is
  known_kept scope false m is = kept scope.structs _ m is

  -- it has its number
  pub in_file : (items : List Item) (s : StructDefinition) → struct_named (structs_in items) name ≡ Some s → (n : ℕ) × (slice_get (structs_in items) n ≡ Some s) × (struct_of (file_scope items).structs name ≡ Some (defined n s.fields))
  in_file items s is =
      let f = first no_heads items s refl is in
      let scope = (behind_all no_heads items).scope in
      let zero_more : 0 + f.place ≡ f.place = omega arith in
      (f.place, f.at, known_kept scope (defines_condition scope) (defined f.place s.fields) (f.is ∙ ap (λ n. Some (defined n s.fields)) zero_more))
