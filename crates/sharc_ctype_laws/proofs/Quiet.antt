-- Notes that refer to nothing, and the marks of a type and of an item.
use Rattle.sharc_ctype_laws.proofs.{Imports.{◌≡◌, ℕ, ◌+◌, ◌-◌, ◌<◌, ◌==◌, Bool, true, false, List, [], ◌∷◌, ◌++◌, length, arith, Option, Some, None, is_some, Base, Mode, Identifier, WrittenType, Declaration, Constant, GlobalDefinition, GlobalForm, Array, Initial, PlaceCall, LowType, Mark, name_marks, level_marks, base_marks, levels_marks, type_marks, declarations_marks, marks, statements_marks, item_marks, Expression, Item, NoLvalue, Named, Kind, is_pointer, stars_of, StructTable, Entry, Meaning, look_up, struct_of, place, Note, refers, main_notes, OperatorClass, Heads, item_head_notes, twice, Standing, AsValue, AsLvalue, uncalled_notes, is_place, place_notes, place_call_notes, cast_notes, arguments_count_notes, binary_notes, length_notes, constant_notes, base_initial_notes, item_size_notes, sizes_notes, item_cells, beyond}, Counts.{one, told, written, written-append, told_refers, told_none, written_one, written_none, quiet_fault, quiet_unless, quiet_where, quiet_if, quiet_both}}
use Rattle.sharc_tree.specs.Tree as tree

pub quiet_main : (t token : ℕ) (m : Meaning) → told t (main_notes token m) ≡ 0
quiet_main t token m = quiet_where t _ _ _

pub quiet_place : (t : ℕ) (names : List Entry) (e : Expression) → told t (place_notes names e) ≡ 0
quiet_place t names e = quiet_unless t (is_place names e) (place e) NoLvalue

pub quiet_place_call : (t word : ℕ) (w : PlaceCall) (k : Option Kind) → told t (place_call_notes word w k) ≡ 0
quiet_place_call t word w None = told_none t
quiet_place_call t word w (Some k) = quiet_unless t _ _ _

pub quiet_cast : (t word : ℕ) (fine : Bool) (w : WrittenType) (e : Expression) (k : Option Kind) → told t (cast_notes word fine w e k) ≡ 0
quiet_cast t word fine w e None = told_none t
quiet_cast t word fine w e (Some k) = quiet_if t (is_pointer k) _ _ (quiet_unless t _ _ _) (quiet_fault t _ _)

pub quiet_binary : (t : ℕ) (c : OperatorClass) (e : Expression) (j k : Option Kind) → told t (binary_notes c e j k) ≡ 0
quiet_binary t c e None k = told_none t
quiet_binary t c e (Some j) None = told_none t
quiet_binary t c e (Some j) (Some k) = quiet_unless t _ _ _

quiet_uncalled : (stands : Standing) (t token : ℕ) → told t (uncalled_notes stands token) ≡ 0
quiet_uncalled AsValue t token = quiet_fault t _ _
quiet_uncalled AsLvalue t token = told_none t

pub quiet_count : (stands : Standing) (t token n : ℕ) (o : Option (List Kind)) → told t (arguments_count_notes stands token n o) ≡ 0
quiet_count stands t token n None = quiet_uncalled stands t token
quiet_count stands t token n (Some list) = quiet_unless t _ _ _

-- the marks of all levels
abbrev pub all_levels : List (Option Mode) → List Mark
all_levels [] = []
all_levels (m ∷ below) = level_marks m ++ all_levels below

-- however they are written, the marks of a type are those of its base and of its levels
pub levels_written : (t : ℕ) (first : Bool) (at : List Mark) (m : Option Mode) (below : List (Option Mode)) → written t (levels_marks first at (m ∷ below)) ≡ written t at + written t (all_levels (m ∷ below))
levels_written t true at m [] = let e = written-append t (level_marks m) at in let f = written-append t (level_marks m) [] in let n = written_none t in omega (arith, e, f, n)
levels_written t false at m [] = let e = written-append t at (level_marks m) in let f = written-append t (level_marks m) [] in let n = written_none t in omega (arith, e, f, n)
levels_written t first at m (n ∷ below) =
    let e = levels_written t first at n below in
    let f = written-append t (levels_marks first at (n ∷ below)) (level_marks m) in
    let g = written-append t (level_marks m) (all_levels (n ∷ below)) in
    omega (arith, e, f, g)

pub type_written : (t : ℕ) (w : WrittenType) → LowType w → written t (type_marks w) ≡ written t (base_marks w.ctype.base w.base.token) + written t (all_levels w.ctype.levels)
type_written t w low = by w.ctype.levels low.0
  where
    by : (levels : List (Option Mode)) → 0 < length levels → written t (levels_marks w.mode_first (base_marks w.ctype.base w.base.token) levels) ≡ written t (base_marks w.ctype.base w.base.token) + written t (all_levels levels)
    by [] h = absurd (omega (arith, h))
    by (m ∷ below) h = levels_written t w.mode_first (base_marks w.ctype.base w.base.token) m below

pub quiet_twice : (t : ℕ) (known : Bool) (token : ℕ) → told t (twice known token) ≡ 0
quiet_twice t known token = quiet_where t _ _ _

pub quiet_beyond : (t room : ℕ) (list : List Declaration) → told t (beyond room list) ≡ 0
quiet_beyond t room [] = told_none t
quiet_beyond t room (d ∷ rest) = quiet_both t _ _ (quiet_where t (room == 0) _ _) (quiet_beyond t (room - 1) rest)

quiet_base_initial : (t : ℕ) (b : Base) (name at : ℕ) (minus : Bool) (c : Constant) → told t (base_initial_notes b name at minus c) ≡ 0
quiet_base_initial t Base.Mutex name at minus c = quiet_fault t _ _
quiet_base_initial t Base.Void name at minus c = told_none t
quiet_base_initial t (Base.Struct s) name at minus c = quiet_fault t _ _
quiet_base_initial t _ name at minus c = quiet_unless t _ _ _

pub quiet_constant : (t : ℕ) (g : GlobalDefinition) (f : GlobalForm) → told t (constant_notes g f) ≡ 0
quiet_constant t g (Initial span minus c) = quiet_if t (stars_of g.declaration.written == 0) _ _ (quiet_base_initial t g.declaration.written.ctype.base g.declaration.name.site.token span.first.token minus c) (quiet_unless t _ _ _)
quiet_constant t g _ = told_none t

pub quiet_length : (t : ℕ) (f : GlobalForm) → told t (length_notes f) ≡ 0
quiet_length t (Array at n) = quiet_where t _ _ _
quiet_length t _ = told_none t

-- the name of an item, which is noted with the heads of the file
abbrev pub item_name : Item → Identifier
item_name (tree.structure s) = s.name
item_name (tree.global g) = g.declaration.name
item_name (tree.function f) = f.name

-- the marks of an item without its name
abbrev pub other_marks : Item → List Mark
other_marks (tree.structure s) = declarations_marks s.fields
other_marks (tree.global g) = type_marks g.declaration.written
other_marks (tree.function f) = type_marks f.result ++ declarations_marks f.parameters ++ statements_marks f.statements

pub item_written : (t : ℕ) (i : Item) → written t (item_marks i) ≡ one t (item_name i).site.token + written t (other_marks i)
item_written t (tree.structure s) = let e = written-append t (name_marks s.name) (declarations_marks s.fields) in let f = written_one t s.name.site.token s.name.text in omega (arith, e, f)
item_written t (tree.global g) = let e = written-append t (type_marks g.declaration.written) (name_marks g.declaration.name) in let f = written_one t g.declaration.name.site.token g.declaration.name.text in omega (arith, e, f)
item_written t (tree.function f) =
    let a = written-append t (type_marks f.result ++ name_marks f.name ++ declarations_marks f.parameters) (statements_marks f.statements) in
    let b = written-append t (type_marks f.result ++ name_marks f.name) (declarations_marks f.parameters) in
    let c = written-append t (type_marks f.result) (name_marks f.name) in
    let d = written_one t f.name.site.token f.name.text in
    let x = written-append t (type_marks f.result ++ declarations_marks f.parameters) (statements_marks f.statements) in
    let y = written-append t (type_marks f.result) (declarations_marks f.parameters) in
    omega (arith, a, b, c, d, x, y)

pub quiet_sizes : (t : ℕ) (structs : StructTable) (n : ℕ) (items : List Item) → told t (sizes_notes structs n items) ≡ 0
quiet_sizes t structs n [] = told_none t
quiet_sizes t structs n (i ∷ rest) = quiet_both t _ _ (by i) (quiet_sizes t structs (n + item_cells structs i) rest)
  where
    by : (i : Item) → told t (item_size_notes structs n i) ≡ 0
    by (tree.global g) = quiet_unless t _ _ _
    by _ = told_none t

-- ---- notes that refer to one name
pub one_is : (t n : ℕ) (what : Named) (rest : List Note) → told t rest ≡ 0 → told t (refers n what ∷ rest) ≡ one t n
one_is t n what rest h = let e = told_refers t n what rest in omega (arith, e, h)

pub head_told : (t : ℕ) (h : Heads) (i : Item) → told t (item_head_notes h i) ≡ one t (item_name i).site.token
head_told t h (tree.structure s) = one_is t s.name.site.token _ _ (quiet_both t _ _ (quiet_twice t (is_some (struct_of h.scope.structs s.name.text)) s.name.site.token) (quiet_unless t _ _ _))
head_told t h (tree.global g) = one_is t g.declaration.name.site.token _ _ (quiet_both t _ _ (quiet_twice t (is_some (look_up h.scope.names g.declaration.name.text)) g.declaration.name.site.token) (quiet_unless t _ _ _))
head_told t h (tree.function f) = one_is t f.name.site.token _ _ (quiet_both t _ _ (quiet_twice t (is_some (look_up h.scope.names f.name.text)) f.name.site.token) (quiet_unless t _ _ _))
