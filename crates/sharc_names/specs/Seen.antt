-- What the tables of structs and of fields stand for.
use Rattle.std.specs.{Prelude.{◌≡◌, ℕ, Bool, cond, List, [], map, Option, Some, None}, Borrow.Bor, Map.lookup}
use Rattle.std.specs.Str.{bytes_eq}
use Rattle.sharc_tree.specs.declared.tree.declaration.Declaration.{Declaration}
use Rattle.sharc_names.specs.Names.{field_of}

abbrev pub fields_seen : List (Bor Declaration) → List Declaration
fields_seen = map (λ d. d.now)

abbrev pub found_field : Option (Bor Declaration) → Option Declaration
found_field None = None
found_field (Some d) = Some d.now

-- the fields that the type of a field sees; every other type sees none
abbrev pub siblings_seen : Option (Bor (List Declaration)) → List Declaration
siblings_seen None = []
siblings_seen (Some fields) = fields.now

abbrev pub found_field_in : Option (Option (Bor Declaration)) → Option (Option Declaration)
found_field_in None = None
found_field_in (Some f) = Some (found_field f)

abbrev pub FieldRows : Type 0
FieldRows = List (Bor (List ℕ) × Bor Declaration)

-- what the table has for a name
abbrev pub field_at : FieldRows → List ℕ → Option Declaration
field_at rows name = found_field (lookup (λ k. bytes_eq name k.now) rows)

-- a table that has one field more, unless its name was known
abbrev pub HasAlso : Bool → Declaration → FieldRows → FieldRows → Type 0
HasAlso known d old new = (name : List ℕ)
    → field_at new name ≡ cond known (field_at old name) (cond (bytes_eq d.name.text name) (Some d) (field_at old name))

-- the table has the first field of each name
abbrev pub HasFirstFields : List (Bor Declaration) → FieldRows → Type 0
HasFirstFields list rows = (name : List ℕ) → field_at rows name ≡ field_of (fields_seen list) name
