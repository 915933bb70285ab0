-- The table of structs says of each struct what its definition says, so the cells of globals are counted by either.
use Rattle.sharc_ctype_laws.proofs.{Imports.{◌≡◌, ℕ, ◌*◌, ◌==◌, ◌≤◌, Bool, true, false, cond, List, [], ◌∷◌, ◌++◌, length, refl, ap, sym, ◌∙◌, subst, Option, Some, None, is_some, bytes_eq, codes, arith, append_assoc, true≢false, false_from_ne_true, bytes_eq-Decides, Base, WrittenType, StructDefinition, Item, structure, global, function, Role, declared_kind, stars_of, StructTable, StructMeaning, defined, known, struct_of, defines_condition, with_conditions, elements_of, struct_cells, base_cells, type_cells, cells_of_all, Heads, with_struct, behind, behind_all, no_heads, item_notes, items_notes, file_scope, Resolution, structs_in, globals_in, struct_named, struct_size, base_size, global_size, all_sizes, CellsAreFew}, Held.{Held, left, right}, OwnTokens.own_tokens, Scenes.{Stands, IsSolid, type_solid}, TypedLaws.{sound, within_limits}}

-- ---- the first that is found
abbrev or_else : {A : Type 0} → Option A → Option A → Option A
or_else (Some x) later = Some x
or_else None later = later

first_or : {A : Type 0} (b : Bool) (x : A) (o later : Option A) → cond b (Some x) (or_else o later) ≡ or_else (cond b (Some x) o) later
first_or true x o later = refl
first_or false x o later = refl

table_append : (T : StructTable) (e : List ℕ × StructMeaning) (y : List ℕ) → struct_of (T ++ e ∷ []) y ≡ or_else (struct_of T y) (cond (bytes_eq y e.0) (Some e.1) None)
table_append [] e y = refl
table_append (x ∷ T) e y = ap (cond (bytes_eq y x.0) (Some x.1)) (table_append T e y) ∙ first_or (bytes_eq y x.0) x.1 (struct_of T y) (cond (bytes_eq y e.0) (Some e.1) None)

named_append : (seen : List StructDefinition) (s : StructDefinition) (y : List ℕ) → struct_named (seen ++ s ∷ []) y ≡ or_else (struct_named seen y) (cond (bytes_eq s.name.text y) (Some s) None)
named_append [] s y = refl
named_append (x ∷ seen) s y = ap (cond (bytes_eq x.name.text y) (Some x)) (named_append seen s y) ∙ first_or (bytes_eq x.name.text y) x (struct_named seen y) (cond (bytes_eq s.name.text y) (Some s) None)

-- ---- a struct of the table, and its definition
abbrev Same : Option StructMeaning → Option StructDefinition → Type 0
Same None None = Unit {0}
Same None (Some s) = ⊥
Same (Some m) None = ⊥
Same (Some (defined n fields)) (Some s) = s.fields ≡ fields
Same (Some known) (Some s) = ⊥

abbrev AreSame : StructTable → List StructDefinition → Type 0
AreSame T seen = (y : List ℕ) → Same (struct_of T y) (struct_named seen y)

same_or : (a b : Option StructMeaning) (c d : Option StructDefinition) → Same a c → Same b d → Same (or_else a b) (or_else c d)
same_or None b None d h k = k
same_or None b (Some s) d h k = absurd h
same_or (Some m) b None d h k = absurd h
same_or (Some (defined n fields)) b (Some s) d h k = h
same_or (Some known) b (Some s) d h k = absurd h

bytes_turned : (a b : List ℕ) → bytes_eq a b ≡ bytes_eq b a
bytes_turned a b = by (bytes_eq a b) (bytes_eq b a) refl refl
  where
    by : (x y : Bool) → bytes_eq a b ≡ x → bytes_eq b a ≡ y → x ≡ y
    by true true e f = refl
    by false false e f = refl
    by true false e f = absurd (true≢false (sym ((bytes_eq-Decides b a).1 (sym ((bytes_eq-Decides a b).0 e))) ∙ f))
    by false true e f = absurd (true≢false (sym ((bytes_eq-Decides a b).1 (sym ((bytes_eq-Decides b a).0 f))) ∙ e))

itself : (b : Bool) (n : ℕ) (s : StructDefinition) → Same (cond b (Some (defined n s.fields)) None) (cond b (Some s) None)
itself true n s = refl
itself false n s = tt

-- one that is there already is determined by its first definition
again : (a : Option StructMeaning) (c d : Option StructDefinition) → (a ≡ None → d ≡ None) → Same a c → Same a (or_else c d)
again None None d none h = subst (Same None) (sym (none refl)) tt
again None (Some s) d none h = absurd h
again (Some m) None d none h = absurd h
again (Some (defined n fields)) (Some s) d none h = h
again (Some known) (Some s) d none h = absurd h

one_more : (T : StructTable) (seen : List StructDefinition) (n : ℕ) (s : StructDefinition) → AreSame T seen → AreSame (with_struct T n s) (seen ++ s ∷ [])
one_more T seen n s h y = subst (Same (struct_of (with_struct T n s) y)) (sym (named_append seen s y)) (by (is_some (struct_of T s.name.text)) refl)
  where
    by : (b : Bool) → is_some (struct_of T s.name.text) ≡ b → Same (struct_of (cond b T (T ++ (s.name.text, defined n s.fields) ∷ [])) y) (or_else (struct_named seen y) (cond (bytes_eq s.name.text y) (Some s) None))
    by true e = again (struct_of T y) (struct_named seen y) (cond (bytes_eq s.name.text y) (Some s) None)
        (λ none. ap (λ b. cond b (Some s) None) (false_from_ne_true (bytes_eq s.name.text y) (λ t. true≢false (sym e ∙ ap is_some (ap (struct_of T) ((bytes_eq-Decides s.name.text y).0 t) ∙ none))))) (h y)
    by false e = subst (λ o. Same o (or_else (struct_named seen y) (cond (bytes_eq s.name.text y) (Some s) None))) (sym (table_append T (s.name.text, defined n s.fields) y))
        (same_or (struct_of T y) (cond (bytes_eq y s.name.text) (Some (defined n s.fields)) None) (struct_named seen y) (cond (bytes_eq s.name.text y) (Some s) None) (h y)
        (subst (λ b. Same (cond b (Some (defined n s.fields)) None) (cond (bytes_eq s.name.text y) (Some s) None)) (bytes_turned s.name.text y) (itself (bytes_eq s.name.text y) n s)))

all_same : (items : List Item) (h : Heads) (seen : List StructDefinition) → AreSame h.scope.structs seen → AreSame (behind_all h items).scope.structs (seen ++ structs_in items)
all_same [] h seen a = subst (AreSame h.scope.structs) (sym (nothing_more seen)) a
  where
    nothing_more : (xs : List StructDefinition) → xs ++ [] ≡ xs
    nothing_more [] = refl
    nothing_more (x ∷ xs) = ap (λ l. x ∷ l) (nothing_more xs)
all_same (structure s ∷ rest) h seen a =
    subst (AreSame (behind_all (behind h (structure s)) rest).scope.structs) (append_assoc seen (s ∷ []) (structs_in rest)) (all_same rest (behind h (structure s)) (seen ++ s ∷ []) (one_more h.scope.structs seen h.structs s a))
all_same (global g ∷ rest) h seen a = all_same rest (behind h (global g)) seen a
all_same (function f ∷ rest) h seen a = all_same rest (behind h (function f)) seen a

-- ---- sizes
-- a struct of the table has the cells of its definition
abbrev HasSize : Option StructMeaning → Option StructDefinition → Type 0
HasSize a c = (m : StructMeaning) → a ≡ Some m → struct_size c ≡ struct_cells a

sized_or : (a : Option StructMeaning) (c : Option StructDefinition) (b : Bool) → Same a c → HasSize (or_else a (cond b (Some known) None)) c
sized_or None None true h m e = refl
sized_or None None false h m e = absurd (true≢false (sym (ap is_some e)))
sized_or None (Some s) b h m e = absurd h
sized_or (Some x) None b h m e = absurd h
sized_or (Some (defined n fields)) (Some s) b h m e = ap length h
sized_or (Some known) (Some s) b h m e = absurd h

sized : (a : Option StructMeaning) (c : Option StructDefinition) → Same a c → HasSize a c
sized None None h m e = absurd (true≢false (sym (ap is_some e)))
sized None (Some s) h m e = absurd h
sized (Some x) None h m e = absurd h
sized (Some (defined n fields)) (Some s) h m e = ap length h
sized (Some known) (Some s) h m e = absurd h

file_sized : (items : List Item) (y : List ℕ) → HasSize (struct_of (file_scope items).structs y) (struct_named (structs_in items) y)
file_sized items y = by (defines_condition (behind_all no_heads items).scope)
  where
    found : AreSame (behind_all no_heads items).scope.structs (structs_in items)
    found = all_same items no_heads [] (λ y. tt)

    by : (b : Bool) → HasSize (struct_of (cond b (behind_all no_heads items).scope (with_conditions (behind_all no_heads items).scope)).structs y) (struct_named (structs_in items) y)
    by true = sized (struct_of (behind_all no_heads items).scope.structs y) (struct_named (structs_in items) y) (found y)
    by false = subst (λ o. HasSize o (struct_named (structs_in items) y)) (sym (table_append (behind_all no_heads items).scope.structs (codes "cond", known) y))
        (sized_or (struct_of (behind_all no_heads items).scope.structs y) (struct_named (structs_in items) y) (bytes_eq y (codes "cond")) (found y))

base_sized : (items : List Item) (b : Base) → Stands (file_scope items).structs b → base_size (structs_in items) b ≡ base_cells (file_scope items).structs b
base_sized items (Base.Struct name) s = file_sized items name s.0 s.1
base_sized items _ s = refl

type_sized : (items : List Item) (w : WrittenType) (b : Bool) → Stands (file_scope items).structs w.ctype.base → cond b (base_size (structs_in items) w.ctype.base) 1 ≡ cond b (base_cells (file_scope items).structs w.ctype.base) 1
type_sized items w b s = ap (λ n. cond b n 1) (base_sized items w.ctype.base s)

items_sized : (r : Resolution) (items rest : List Item) → Held r (items_notes (file_scope items) rest) → all_sizes (structs_in items) (globals_in rest) ≤ cells_of_all (file_scope items).structs rest
items_sized r items [] h = omega arith
items_sized r items (structure s ∷ rest) h = let later = items_sized r items rest (right _ (item_notes (file_scope items) (structure s)) (items_notes (file_scope items) rest) h) in omega (arith, later)
items_sized r items (function f ∷ rest) h = let later = items_sized r items rest (right _ (item_notes (file_scope items) (function f)) (items_notes (file_scope items) rest) h) in omega (arith, later)
items_sized r items (global x ∷ rest) h =
    let later = items_sized r items rest (right _ (item_notes (file_scope items) (global x)) (items_notes (file_scope items) rest) h) in
    let solid : IsSolid (file_scope items).structs (declared_kind x.declaration.written) = type_solid r (file_scope items) [] Role.Global x.declaration.written refl (left _ _ _ (left _ _ _ (left _ _ _ h))) in
    let same : global_size (structs_in items) x ≡ elements_of x.form * type_cells (file_scope items).structs x.declaration.written = ap (λ n. elements_of x.form * n) (type_sized items x.declaration.written (stars_of x.declaration.written == 0) solid) in
    omega (arith, later, same)

pub cells_are_few : CellsAreFew
cells_are_few r resolved placed low =
    let s = sound r resolved (own_tokens r.program placed) low in
    let most = (within_limits r.program resolved.typed).cells in
    let counted = items_sized r r.program.items r.program.items s.items in
    omega (arith, most, counted)
