-- The table of structs, read by bytes.
use Rattle.sharc_names.proofs.Imports.{◌≡◌, ℕ, Bool, true, false, cond, List, [], ◌∷◌, ◌++◌, refl, ap, ◌∙◌, Option, Some, None, Bor, lookup, option_copied, bytes_eq, StructMeaning, view_struct, structs_seen, found_struct}
use Rattle.sharc_names.specs.Names as names

abbrev Rows : Type 0
Rows = List (Bor (List ℕ) × StructMeaning)

-- what the rows have for a name, seen
abbrev pub seen_at : Option StructMeaning → Option names.StructMeaning
seen_at None = None
seen_at (Some s) = Some (view_struct s)

pub found_is : (o : Option (Bor StructMeaning)) → found_struct o ≡ seen_at (option_copied o)
found_is None = refl
found_is (Some s) = refl

seen_either : (b : Bool) (s : StructMeaning) (o : Option StructMeaning) → seen_at (cond b (Some s) o) ≡ cond b (Some (view_struct s)) (seen_at o)
seen_either true s o = refl
seen_either false s o = refl

pub found_lookup : (name : List ℕ) (rows : Rows) → seen_at (lookup (λ k. bytes_eq name k.now) rows) ≡ lookup (bytes_eq name) (structs_seen rows)
found_lookup name [] = refl
found_lookup name (e ∷ rest) =
    seen_either (bytes_eq name e.0.now) e.1 (lookup (λ k. bytes_eq name k.now) rest)
    ∙ ap (cond (bytes_eq name e.0.now) (Some (view_struct e.1))) (found_lookup name rest)

pub seen_push : (rows : Rows) (k : Bor (List ℕ)) (s : StructMeaning) → structs_seen (rows ++ (k, s) ∷ []) ≡ structs_seen rows ++ (k.now, view_struct s) ∷ []
seen_push [] k s = refl
seen_push (e ∷ rest) k s = ap (λ l. (e.0.now, view_struct e.1) ∷ l) (seen_push rest k s)

pub none_found : (o : Option StructMeaning) → seen_at o ≡ None → o ≡ None
none_found None e = refl
none_found (Some s) e = cc
