-- In the type of a field a path that names a sibling by its name alone has that name, and the struct has a field of it.
use Rattle.sharc_suggest_laws.proofs.{Imports.{◌≡◌, ℕ, Bool, true, false, List, [], ◌∷◌, ◌++◌, Option, Some, None, refl, ap, sym, ◌∙◌, false≢true, AllByRecursion, Mode, Locked, Path, One, Through, Declaration, StructDefinition, WrittenType, Mark, path_marks, level_marks, levels_marks, base_marks, AreMarks, PlacedDeclarations, PlacedItems, PlacedType, Item, structure, global, function, Scope, Entry, Meaning, look_up, field_of, named_of, Note, fault, refers, yields, fault_unless, name_notes, path_notes, mode_notes, modes_notes, base_notes, allowed_there, type_notes, TypeNotAllowed, Role, fields_notes, item_notes, items_notes, Resolution, structs_in, named_at, is_field, text_at, front, back}, Folded.IsOwnAt, Noted.{Clean, no_fault, behind_head, behind_yields}, Spelled.{text_is, front_marks, back_marks}}
use Rattle.sharc_names.specs.Types.{first_notes}
use Rattle.sharc_names.specs.Names as meaning
use Rattle.sharc_ctype.specs.Items.{field_notes}

-- ---- notes without a fault that say of each token what it names

abbrev pub IsTrueOf : Resolution → Note → Type 0
IsTrueOf r (fault place code) = ⊥
IsTrueOf r (refers token what) = named_at r token ≡ what
IsTrueOf r (yields token what) = Unit {0}

abbrev pub AreTrueOf : Resolution → List Note → Type 0
AreTrueOf r l = AllByRecursion (IsTrueOf r) l

pub true_from : (r : Resolution) (l : List Note) → Clean l → ((t : ℕ) → AllByRecursion (IsOwnAt t (named_at r t)) l) → AreTrueOf r l
true_from r [] clean own = tt
true_from r (fault place code ∷ rest) clean own = absurd (no_fault place code rest clean)
true_from r (refers token what ∷ rest) clean own = (sym ((own token).0 refl), true_from r rest (behind_head token what rest clean) (λ t. (own t).1))
true_from r (yields token what ∷ rest) clean own = (tt, true_from r rest (behind_yields token what rest clean) (λ t. (own t).1))

-- ---- the levels of the type of a field

abbrev pub IsSiblingPath : Resolution → List Declaration → Path → Type 0
IsSiblingPath r fields (One m token) = is_field (named_at r token) ≡ true → (text_at r token ≡ m) × (d : Declaration) × (field_of fields m ≡ Some d)
IsSiblingPath r fields (Through x token m) = Unit {0}

abbrev pub IsSiblingLevel : Resolution → List Declaration → Option Mode → Type 0
IsSiblingLevel r fields (Some (Locked path)) = IsSiblingPath r fields path
IsSiblingLevel r fields _ = Unit {0}

means_no_field : (m : Meaning) → is_field (named_of m) ≡ true → ⊥
means_no_field (meaning.variable d) is = false≢true is
means_no_field _ is = false≢true is

name_no_field : (r : Resolution) (token : ℕ) (o : Option Entry) → AreTrueOf r (name_notes token o) → is_field (named_at r token) ≡ true → ⊥
name_no_field r token None holds is = holds.0
name_no_field r token (Some e) holds is = means_no_field e.meaning (ap is_field (sym holds.0) ∙ is)

sibling_by : (r : Resolution) (token : ℕ) (o : Option Declaration) (entry : Option Entry) → AreTrueOf r (first_notes token o entry) → is_field (named_at r token) ≡ true → (d : Declaration) × (o ≡ Some d)
sibling_by r token (Some d) entry holds is = (d, refl)
sibling_by r token None entry holds is = absurd (name_no_field r token entry holds is)

path_sibling : (r : Resolution) (scope : Scope) (fields : List Declaration) (p : Path) → AreMarks r.program.tokens.list (path_marks p) → AreTrueOf r (path_notes scope fields p) → IsSiblingPath r fields p
path_sibling r scope fields (One m token) marks holds = λ is.
    let found = sibling_by r token (field_of fields m) (look_up scope.names m) holds is in
    (text_is r token m marks.0, found.0, found.1)
path_sibling r scope fields (Through x token m) marks holds = tt

level_sibling : (r : Resolution) (scope : Scope) (fields : List Declaration) (l : Option Mode) → AreMarks r.program.tokens.list (level_marks l) → AreTrueOf r (mode_notes scope fields l) → IsSiblingLevel r fields l
level_sibling r scope fields (Some (Locked path)) marks holds = path_sibling r scope fields path marks holds
level_sibling r scope fields _ marks holds = tt

levels_sibling : (r : Resolution) (scope : Scope) (fields : List Declaration) (first : Bool) (bases : List Mark) (l : List (Option Mode)) → AreMarks r.program.tokens.list (levels_marks first bases l) → AreTrueOf r (modes_notes scope fields l)
    → AllByRecursion (IsSiblingLevel r fields) l
levels_sibling r scope fields first bases [] marks holds = tt
levels_sibling r scope fields true bases (x ∷ []) marks holds =
    (level_sibling r scope fields x (front_marks r.program.tokens.list (level_marks x) bases marks) (front (IsTrueOf r) (mode_notes scope fields x) [] holds), tt)
levels_sibling r scope fields false bases (x ∷ []) marks holds =
    (level_sibling r scope fields x (back_marks r.program.tokens.list bases (level_marks x) marks) (front (IsTrueOf r) (mode_notes scope fields x) [] holds), tt)
levels_sibling r scope fields first bases (x ∷ (y ∷ below)) marks holds = (
  level_sibling r scope fields x (back_marks r.program.tokens.list (levels_marks first bases (y ∷ below)) (level_marks x) marks) (front (IsTrueOf r) (mode_notes scope fields x) (modes_notes scope fields (y ∷ below)) holds),
  levels_sibling r scope fields first bases (y ∷ below) (front_marks r.program.tokens.list (levels_marks first bases (y ∷ below)) (level_marks x) marks)
      (back (IsTrueOf r) (mode_notes scope fields x) (modes_notes scope fields (y ∷ below)) holds),
)

abbrev pub HasSiblings : Resolution → List Declaration → Declaration → Type 0
HasSiblings r fields d = AllByRecursion (IsSiblingLevel r fields) d.written.ctype.levels

type_siblings : (r : Resolution) (scope : Scope) (fields : List Declaration) (w : WrittenType) → PlacedType r.program.tokens.list w → AreTrueOf r (type_notes scope fields Role.Field w) → AllByRecursion (IsSiblingLevel r fields) w.ctype.levels
type_siblings r scope fields w placed holds =
    levels_sibling r scope fields w.mode_first (base_marks w.ctype.base w.base.token) w.ctype.levels placed.1
    (back (IsTrueOf r) (base_notes scope.structs w.base.token w.ctype.base ++ fault_unless (allowed_there Role.Field w) w.span.first.token TypeNotAllowed) (modes_notes scope fields w.ctype.levels) holds)

fields_siblings : (r : Resolution) (scope : Scope) (fields earlier ds : List Declaration) → PlacedDeclarations r.program.tokens.list ds → AreTrueOf r (fields_notes scope fields earlier ds) → AllByRecursion (HasSiblings r fields) ds
fields_siblings r scope fields earlier [] placed holds = tt
fields_siblings r scope fields earlier (d ∷ rest) placed holds =
    let own : AreTrueOf r (field_notes scope fields earlier d) = front (IsTrueOf r) (field_notes scope fields earlier d) (fields_notes scope fields (earlier ++ d ∷ []) rest) holds in (
      type_siblings r scope fields d.written placed.0.1 (front (IsTrueOf r) (type_notes scope fields Role.Field d.written) _ own),
      fields_siblings r scope fields (earlier ++ d ∷ []) rest placed.1 (back (IsTrueOf r) (field_notes scope fields earlier d) (fields_notes scope fields (earlier ++ d ∷ []) rest) holds),
    )

-- ---- in each struct

abbrev pub AreSiblings : Resolution → StructDefinition → Type 0
AreSiblings r s = AllByRecursion (HasSiblings r s.fields) s.fields

pub all_siblings : (r : Resolution) (file : Scope) (items : List Item) → PlacedItems r.program.tokens.list items → AreTrueOf r (items_notes file items) → AllByRecursion (AreSiblings r) (structs_in items)
all_siblings r file [] placed holds = tt
all_siblings r file (structure s ∷ rest) placed holds = (
  fields_siblings r file s.fields [] s.fields placed.0.2 (front (IsTrueOf r) (item_notes file (structure s)) (items_notes file rest) holds),
  all_siblings r file rest placed.1 (back (IsTrueOf r) (item_notes file (structure s)) (items_notes file rest) holds),
)
all_siblings r file (global g ∷ rest) placed holds = all_siblings r file rest placed.1 (back (IsTrueOf r) (item_notes file (global g)) (items_notes file rest) holds)
all_siblings r file (function f ∷ rest) placed holds = all_siblings r file rest placed.1 (back (IsTrueOf r) (item_notes file (function f)) (items_notes file rest) holds)
