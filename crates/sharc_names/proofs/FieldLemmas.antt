-- The table of fields has the first of each name.
use Rattle.sharc_names.proofs.Imports.{◌≡◌, ℕ, Bool, true, false, cond, List, [], ◌∷◌, ◌++◌, refl, ap, sym, ◌∙◌, Option, Some, None, is_some, Bor, lookup, bytes_eq, Declaration, field_of, fields_seen, found_field, FieldRows, field_at, HasAlso, HasFirstFields, same_name}

abbrev or_else : Option Declaration → Option Declaration → Option Declaration
or_else None o = o
or_else (Some d) o = Some d

or_else_cond : (b : Bool) (d : Declaration) (o p : Option Declaration) → cond b (Some d) (or_else o p) ≡ or_else (cond b (Some d) o) p
or_else_cond true d o p = refl
or_else_cond false d o p = refl

field_of_end : (list : List Declaration) (d : Declaration) (name : List ℕ) → field_of (list ++ d ∷ []) name ≡ or_else (field_of list name) (cond (bytes_eq d.name.text name) (Some d) None)
field_of_end [] d name = refl
field_of_end (e ∷ rest) d name =
    ap (cond (bytes_eq e.name.text name) (Some e)) (field_of_end rest d name)
    ∙ or_else_cond (bytes_eq e.name.text name) e (field_of rest name) (cond (bytes_eq d.name.text name) (Some d) None)

seen_push : (list : List (Bor Declaration)) (d : Bor Declaration) → fields_seen (list ++ d ∷ []) ≡ fields_seen list ++ d.now ∷ []
seen_push [] d = refl
seen_push (e ∷ rest) d = ap (λ l. e.now ∷ l) (seen_push rest d)

choice : (known e : Bool) (f : Option Declaration) (d : Declaration) → (e ≡ true → known ≡ is_some f) → cond known f (cond e (Some d) f) ≡ or_else f (cond e (Some d) None)
choice true true None d h = let no : true ≡ false = h refl in cc
choice true true (Some x) d h = refl
choice true false None d h = refl
choice true false (Some x) d h = refl
choice false true None d h = refl
choice false true (Some x) d h = let no : false ≡ true = h refl in cc
choice false false None d h = refl
choice false false (Some x) d h = refl

-- one field more, at the end
pub first_pushed : (list : List (Bor Declaration)) (d : Bor Declaration) (known : Bool) (old new : FieldRows) → HasFirstFields list old → known ≡ is_some (field_of (fields_seen list) d.now.name.text)
    → HasAlso known d.now old new → HasFirstFields (list ++ d ∷ []) new
first_pushed list d known old new first known_is also name =
    let e = bytes_eq d.now.name.text name in
    also name
    ∙ ap (λ f. cond known f (cond e (Some d.now) f)) (first name)
    ∙ choice known e (field_of (fields_seen list) name) d.now (λ same. known_is ∙ ap (λ n. is_some (field_of (fields_seen list) n)) (same_name d.now.name.text name same))
    ∙ sym (ap (λ l. field_of l name) (seen_push list d) ∙ field_of_end (fields_seen list) d.now name)

found_either : (b : Bool) (d : Bor Declaration) (o : Option (Bor Declaration)) → found_field (cond b (Some d) o) ≡ cond b (Some d.now) (found_field o)
found_either true d o = refl
found_either false d o = refl

-- a table after a write: what `insert` ensures, read by bytes
abbrev pub Writes : List ℕ → Bor Declaration → FieldRows → FieldRows → Type 0
Writes name d old new = (q : List ℕ) → lookup (λ k. bytes_eq q k.now) new ≡ cond (bytes_eq name q) (Some d) (lookup (λ k. bytes_eq q k.now) old)

pub also_written : (key : List ℕ) (d : Bor Declaration) (known : Bool) (old new : FieldRows) → key ≡ d.now.name.text → known ≡ false → Writes key d old new → HasAlso known d.now old new
also_written key d known old new key_is unknown writes name =
    let before = field_at old name in
    ap found_field (writes name)
    ∙ found_either (bytes_eq key name) d (lookup (λ k. bytes_eq name k.now) old)
    ∙ ap (λ k. cond (bytes_eq k name) (Some d.now) before) key_is
    ∙ sym (ap (λ b. cond b before (cond (bytes_eq d.now.name.text name) (Some d.now) before)) unknown)
