-- A token that names a global or a function in a program at its tokens has the text of what the file knows as that; and one that names what the program does not define
-- shows that the file knows the calls of condition variables.
use Rattle.sharc_suggest_laws.proofs.{Imports.{◌≡◌, ◌⊎◌, inl, inr, ⊎_elim, ℕ, zero, suc, ◌+◌, ◌<◌, Bool, true, false, cond, List, [], ◌∷◌, ◌++◌, length, drop, get_or, Option, Some, None, slice_get, bytes_eq, refl, ap, sym, ◌∙◌, arith, false≢true, AllByRecursion, Base, Mode, Locked, Path, One, Through, Token, WrittenType, Declaration, Mark, a_name, path_marks, level_marks, levels_marks, base_marks, IsMark, AreMarks, PlacedType, Placed, AllPlaced, Expression, identifier, constant, parentheses, call, spawn, on_value, on_place, cast, index, field, unary, binary, Arguments, no_arguments, argument, Named, Scope, Role, Kind, Entry, Meaning, StructMeaning, StructTable, look_up, named_of, struct_of, field_of, Note, fault, refers, yields, met, first_wanted, Value, Integer, Indexed, is_fine, field_in, name_notes, main_notes, field_notes, first_kind, second_in, second_notes, path_notes, mode_notes, modes_notes, struct_note, base_notes, type_notes, Standing, AsValue, AsLvalue, access_need, operand_need, class_of, operands_need, place_kind, count, spawn_wanted, callee_notes, spawn_notes, type_of, notes_at, notes_of_all, Resolution, with_names, is_here, is_field, text_of, text_at, joint, one_some}, Calls.KnowsCalls, Mild.is_filed, Noted.{AreFaults, IsFault, unless_faults, unmet_faults, unagreed_faults, place_faults, place_call_faults, cast_faults, count_faults, main_faults, binary_faults}}
use Rattle.sharc_names.specs.Types.{first_notes}
use Rattle.sharc_names.specs.Names as meaning
use Rattle.sharc_ctype.specs.{Expressions.wanted, Statements.declared}

-- ---- of one note

abbrev pub IsFiledAs : Resolution → List Entry → ℕ → Named → Type 0
IsFiledAs r file token what = is_filed what ≡ true → (e : Entry) × (look_up file (text_at r token) ≡ Some e) × (named_of e.meaning ≡ what)

-- what a token is determined to be is said of it: what names nothing of the program is what the file knows
abbrev pub IsSaid : Resolution → Scope → ℕ → Named → Type 0
IsSaid r file token what = IsFiledAs r file.names token what × (what ≡ Named.Known → KnowsCalls file)

abbrev pub IsSpelt : Resolution → Scope → Note → Type 0
IsSpelt r file (fault place code) = Unit {0}
IsSpelt r file (refers token what) = IsSaid r file token what
IsSpelt r file (yields token what) = is_field what ≡ true

abbrev pub AreSpelt : Resolution → Scope → List Note → Type 0
AreSpelt r file l = AllByRecursion (IsSpelt r file) l

-- what is no global and no function
pub not_filed : (r : Resolution) (file : List Entry) (token : ℕ) (what : Named) → is_filed what ≡ false → IsFiledAs r file token what
not_filed r file token what not_so is = absurd (false≢true (sym not_so ∙ is))

-- a variable, a field or a struct of the program
abbrev pub is_plain : Named → Bool
is_plain (Named.Global n) = false
is_plain (Named.Function n) = false
is_plain Named.Known = false
is_plain _ = true

pub plainly : (r : Resolution) (file : Scope) (token : ℕ) (what : Named) → is_plain what ≡ true → IsSaid r file token what
plainly r file token (Named.Struct n) plain = ((λ filed. absurd (false≢true filed)), λ known. absurd (other known))
  where
    other : Named.Struct n ≡ Named.Known → ⊥
    other h = cc
plainly r file token (Named.Variable x) plain = ((λ filed. absurd (false≢true filed)), λ known. absurd (other known))
  where
    other : Named.Variable x ≡ Named.Known → ⊥
    other h = cc
plainly r file token (Named.Field f) plain = ((λ filed. absurd (false≢true filed)), λ known. absurd (other known))
  where
    other : Named.Field f ≡ Named.Known → ⊥
    other h = cc
plainly r file token _ plain = absurd (false≢true plain)

fault_spelt : (r : Resolution) (file : Scope) (n : Note) → IsFault n → IsSpelt r file n
fault_spelt r file (fault place code) f = tt
fault_spelt r file (refers token what) f = absurd f
fault_spelt r file (yields token what) f = absurd f

pub faults_spelt : (r : Resolution) (file : Scope) (l : List Note) → AreFaults l → AreSpelt r file l
faults_spelt r file [] f = tt
faults_spelt r file (n ∷ rest) f = (fault_spelt r file n f.0, faults_spelt r file rest f.1)

-- ---- the text of a name

text_in : (l : List Token) (n : ℕ) (text : List ℕ) → n < length l → ((d : Token) → (get_or l n d).text ≡ text) → text_of (slice_get l n) ≡ text
text_in [] n text low is = absurd (omega (arith, low))
text_in (t ∷ rest) zero text low is = is t
text_in (t ∷ rest) (suc n) text low is = text_in rest n text (omega (arith, low)) is

pub text_is : (r : Resolution) (n : ℕ) (text : List ℕ) → IsMark r.program.tokens.list (a_name n text) → text_at r n ≡ text
text_is r n text is = text_in r.program.tokens.list n text is.0 (λ d. (is.1 d).1)

-- ---- the names in scope: what is no variable is what the file has

abbrev is_variable : Meaning → Bool
is_variable (meaning.variable d) = true
is_variable _ = false

abbrev pub IsOver : List Entry → List Entry → Type 0
IsOver file names = (text : List ℕ) (e : Entry) → look_up names text ≡ Some e → (is_variable e.meaning ≡ true) ⊎ (look_up file text ≡ Some e)

pub over_file : (file : List Entry) → IsOver file file
over_file file text e is = inr is

over_by : (file names : List Entry) (d : Declaration) (from : ℕ) → IsOver file names → (text : List ℕ) (e : Entry) (b : Bool) → cond b (Some (record { name = d.name.text; block = from; meaning = meaning.variable d })) (look_up names text) ≡ Some e
    → (is_variable e.meaning ≡ true) ⊎ (look_up file text ≡ Some e)
over_by file names d from over text e true is = inl (ap (λ (x : Entry). is_variable x.meaning) (sym (one_some _ e is)))
over_by file names d from over text e false is = over text e is

over_if : (file names : List Entry) (d : Declaration) (from : ℕ) (b : Bool) → IsOver file names → IsOver file (cond b names (record { name = d.name.text; block = from; meaning = meaning.variable d } ∷ names))
over_if file names d from true over = over
over_if file names d from false over = λ text e is. over_by file names d from over text e (bytes_eq d.name.text text) is

pub over_with : (file names : List Entry) (d : Declaration) (from : ℕ) → IsOver file names → IsOver file (declared from d names)
over_with file names d from over = over_if file names d from (is_here from names d) over

variable_not_filed : (m : Meaning) → is_variable m ≡ true → is_filed (named_of m) ≡ true → ⊥
variable_not_filed (meaning.variable d) is filed = false≢true filed
variable_not_filed _ is filed = false≢true is

variable_not_known : (m : Meaning) → is_variable m ≡ true → named_of m ≡ Named.Known → ⊥
variable_not_known (meaning.variable d) is known = cc
variable_not_known _ is known = false≢true is

-- a name that is found in scope
found_spelt : (r : Resolution) (file : Scope) (names : List Entry) → IsOver file.names names → (token : ℕ) (text : List ℕ) → text_at r token ≡ text → (e : Entry) → look_up names text ≡ Some e → IsSaid r file token (named_of e.meaning)
found_spelt r file names over token text is e found = (
  (λ filed. ⊎_elim (λ v. absurd (variable_not_filed e.meaning v filed)) (λ there. (e, ap (look_up file.names) is ∙ there, refl)) (over text e found)),
  (λ known. ⊎_elim (λ v. absurd (variable_not_known e.meaning v known)) (λ there. inl (text, e, there, known)) (over text e found)),
)

name_by : (r : Resolution) (file : Scope) (token : ℕ) (o : Option Entry) → ((e : Entry) → o ≡ Some e → IsSaid r file token (named_of e.meaning)) → AreSpelt r file (name_notes token o)
name_by r file token None is = (tt, tt)
name_by r file token (Some e) is = (is e refl, faults_spelt r file (main_notes token e.meaning) (main_faults token e.meaning))

name_spelt : (r : Resolution) (file : Scope) (names : List Entry) → IsOver file.names names → (token : ℕ) (text : List ℕ) → text_at r token ≡ text → AreSpelt r file (name_notes token (look_up names text))
name_spelt r file names over token text is = name_by r file token (look_up names text) (found_spelt r file names over token text is)

callee_by : (r : Resolution) (file : Scope) (stands : Standing) (token n : ℕ) (o : Option Entry) → ((e : Entry) → o ≡ Some e → IsSaid r file token (named_of e.meaning)) → AreSpelt r file (callee_notes stands token n o)
callee_by r file stands token n None is = (tt, tt)
callee_by r file stands token n (Some e) is =
    (is e refl, joint (IsSpelt r file) (main_notes token e.meaning) _ (faults_spelt r file _ (main_faults token e.meaning)) (faults_spelt r file _ (count_faults stands token n (meaning.parameters_of e.meaning))))

spawned_by : (r : Resolution) (file : Scope) (word token : ℕ) (o : Option Entry) → ((e : Entry) → o ≡ Some e → IsSaid r file token (named_of e.meaning)) → AreSpelt r file (spawn_notes word token o)
spawned_by r file word token None is = (tt, tt)
spawned_by r file word token (Some e) is = (is e refl, joint (IsSpelt r file) (main_notes token e.meaning) _ (faults_spelt r file _ (main_faults token e.meaning)) (faults_spelt r file _ (unless_faults _ word _)))

field_spelt : (r : Resolution) (file : Scope) (token : ℕ) (o : Option (Option Declaration)) → AreSpelt r file (field_notes token o)
field_spelt r file token None = tt
field_spelt r file token (Some None) = (tt, tt)
field_spelt r file token (Some (Some d)) = (plainly r file token (Named.Field d.name.site.token) refl, tt)

-- ---- in types

first_by : (r : Resolution) (file : Scope) (names : List Entry) → IsOver file.names names → (token : ℕ) (text : List ℕ) → text_at r token ≡ text → (sibling : Option Declaration) → AreSpelt r file (first_notes token sibling (look_up names text))
first_by r file names over token text is (Some d) = (plainly r file token (Named.Field d.name.site.token) refl, tt)
first_by r file names over token text is None = name_spelt r file names over token text is

second_spelt : (r : Resolution) (file : Scope) (token : ℕ) (o : Option (Option Declaration)) → AreSpelt r file (second_notes token o)
second_spelt r file token None = tt
second_spelt r file token (Some None) = (tt, tt)
second_spelt r file token (Some (Some d)) = (refl, tt)

path_spelt : (r : Resolution) (file scope : Scope) → IsOver file.names scope.names → (siblings : List Declaration) (p : Path) → AreMarks r.program.tokens.list (path_marks p) → AreSpelt r file (path_notes scope siblings p)
path_spelt r file scope over siblings (One m token) marks = first_by r file scope.names over token m (text_is r token m marks.0) (field_of siblings m)
path_spelt r file scope over siblings (Through x token m) marks =
    joint (IsSpelt r file) (first_notes token (field_of siblings x) (look_up scope.names x)) _ (first_by r file scope.names over token x (text_is r token x marks.0) (field_of siblings x))
    (second_spelt r file (token + 2) (second_in scope.structs m (first_kind (field_of siblings x) (look_up scope.names x))))

mode_spelt : (r : Resolution) (file scope : Scope) → IsOver file.names scope.names → (siblings : List Declaration) (m : Option Mode) → AreMarks r.program.tokens.list (level_marks m) → AreSpelt r file (mode_notes scope siblings m)
mode_spelt r file scope over siblings (Some (Locked path)) marks = path_spelt r file scope over siblings path marks
mode_spelt r file scope over siblings _ marks = tt

pub front_marks : (all : List Token) (a b : List Mark) → AreMarks all (a ++ b) → AreMarks all a
front_marks all [] b h = tt
front_marks all (m ∷ rest) b h = (h.0, front_marks all rest b h.1)

pub back_marks : (all : List Token) (a b : List Mark) → AreMarks all (a ++ b) → AreMarks all b
back_marks all [] b h = h
back_marks all (m ∷ rest) b h = back_marks all rest b h.1

modes_spelt : (r : Resolution) (file scope : Scope) → IsOver file.names scope.names → (siblings : List Declaration) (first : Bool) (bases : List Mark) (l : List (Option Mode)) → AreMarks r.program.tokens.list (levels_marks first bases l)
    → AreSpelt r file (modes_notes scope siblings l)
modes_spelt r file scope over siblings first bases [] marks = tt
modes_spelt r file scope over siblings true bases (m ∷ []) marks =
    joint (IsSpelt r file) (mode_notes scope siblings m) [] (mode_spelt r file scope over siblings m (front_marks r.program.tokens.list (level_marks m) bases marks)) tt
modes_spelt r file scope over siblings false bases (m ∷ []) marks =
    joint (IsSpelt r file) (mode_notes scope siblings m) [] (mode_spelt r file scope over siblings m (back_marks r.program.tokens.list bases (level_marks m) marks)) tt
modes_spelt r file scope over siblings first bases (m ∷ (n ∷ below)) marks =
    joint (IsSpelt r file) (mode_notes scope siblings m) (modes_notes scope siblings (n ∷ below))
    (mode_spelt r file scope over siblings m (back_marks r.program.tokens.list (levels_marks first bases (n ∷ below)) (level_marks m) marks))
    (modes_spelt r file scope over siblings first bases (n ∷ below) (front_marks r.program.tokens.list (levels_marks first bases (n ∷ below)) (level_marks m) marks))

struct_spelt : (r : Resolution) (file : Scope) (token : ℕ) (name : List ℕ) (o : Option StructMeaning) → struct_of file.structs name ≡ o → AreSpelt r file (struct_note token o)
struct_spelt r file token name None at = (tt, tt)
struct_spelt r file token name (Some (meaning.defined n fields)) at = (plainly r file token (Named.Struct n) refl, tt)
struct_spelt r file token name (Some meaning.known) at = (((λ filed. absurd (false≢true filed)), λ known. inr (name, at)), tt)

-- the structs in scope are those of the file
base_spelt : (r : Resolution) (file scope : Scope) → scope.structs ≡ file.structs → (token : ℕ) (b : Base) → AreSpelt r file (base_notes scope.structs token b)
base_spelt r file scope same token (Base.Struct name) = struct_spelt r file token name (struct_of scope.structs name) (ap (λ (t : StructTable). struct_of t name) (sym same))
base_spelt r file scope same token _ = tt

pub type_spelt : (r : Resolution) (file scope : Scope) → IsOver file.names scope.names → scope.structs ≡ file.structs → (siblings : List Declaration) (where_it_stands : Role) (w : WrittenType) → PlacedType r.program.tokens.list w → AreSpelt r file (type_notes scope siblings where_it_stands w)
type_spelt r file scope over same siblings where_it_stands w placed =
    joint (IsSpelt r file) _ (modes_notes scope siblings w.ctype.levels)
    (joint (IsSpelt r file) (base_notes scope.structs w.base.token w.ctype.base) _ (base_spelt r file scope same w.base.token w.ctype.base) (faults_spelt r file _ (unless_faults _ w.span.first.token _)))
    (modes_spelt r file scope over siblings w.mode_first (base_marks w.ctype.base w.base.token) w.ctype.levels placed.1)

-- ---- in expressions

pub behind_faults : (r : Resolution) (file : Scope) (a b : List Note) → AreSpelt r file a → AreFaults b → AreSpelt r file (a ++ b)
behind_faults r file a b h f = joint (IsSpelt r file) a b h (faults_spelt r file b f)

mutual
  pub inside : (r : Resolution) (file : Scope) (names : List Entry) → IsOver file.names names → (stands : Standing) (e : Expression) → Placed r.program.tokens.list e → AreSpelt r file (notes_at stands (with_names file names) e)
  inside r file names over stands (identifier s i) placed = name_spelt r file names over i.site.token i.text (text_is r i.site.token i.text placed.1)
  inside r file names over stands (constant s c) placed = tt
  inside r file names over stands (parentheses s a) placed = inside r file names over stands a placed.1
  inside r file names over stands (call s f all) placed =
      joint (IsSpelt r file) _ _
      (callee_by r file stands f.site.token (count all) (look_up names f.text) (found_spelt r file names over f.site.token f.text (text_is r f.site.token f.text placed.1)))
      (inside_all r file names over (wanted (count all) (look_up names f.text)) all placed.2)
  inside r file names over stands (spawn s f a) placed =
      behind_faults r file _ _
      (joint (IsSpelt r file) _ _ (behind_faults r file _ _ (inside r file names over AsValue a placed.2) (unmet_faults Value a (type_of (with_names file names) a)))
      (spawned_by r file s.first.token f.site.token (look_up names f.text) (found_spelt r file names over f.site.token f.text (text_is r f.site.token f.text placed.1))))
      (unagreed_faults (spawn_wanted (look_up names f.text)) a (met Value (type_of (with_names file names) a)))
  inside r file names over stands (on_value s w a) placed = behind_faults r file _ _ (inside r file names over AsValue a placed.1) (unmet_faults Integer a (type_of (with_names file names) a))
  inside r file names over stands (on_place s w a) placed =
      behind_faults r file _ _ (behind_faults r file _ _ (inside r file names over AsLvalue a placed.1) (place_faults names a)) (place_call_faults s.first.token w (place_kind names a (type_of (with_names file names) a)))
  inside r file names over stands (cast s t a) placed =
      behind_faults r file _ _
      (behind_faults r file _ _
      (joint (IsSpelt r file) (type_notes (with_names file names) [] Role.Cast t) _ (type_spelt r file (with_names file names) over refl [] Role.Cast t placed.1) (inside r file names over AsLvalue a placed.2)) (place_faults names a))
      (cast_faults s.first.token (is_fine file.structs Role.Cast t) t a (place_kind names a (type_of (with_names file names) a)))
  inside r file names over stands (index s a i) placed =
      behind_faults r file _ _
      (joint (IsSpelt r file) _ _ (behind_faults r file _ _ (inside r file names over AsValue a placed.1) (unmet_faults Indexed a (type_of (with_names file names) a))) (inside r file names over AsValue i placed.2)) (unmet_faults Integer i (type_of (with_names file names) i))
  inside r file names over stands (field s a w n) placed =
      joint (IsSpelt r file) _ _ (behind_faults r file _ _ (inside r file names over AsValue a placed.1) (unmet_faults (access_need w) a (type_of (with_names file names) a))) (field_spelt r file n.site.token (field_in file.structs n.text (met (access_need w) (type_of (with_names file names) a))))
  inside r file names over stands (unary s o a) placed = behind_faults r file _ _ (inside r file names over AsValue a placed.1) (unmet_faults (operand_need o) a (type_of (with_names file names) a))
  inside r file names over stands (binary s o at a b) placed =
      behind_faults r file _ _
      (behind_faults r file _ _
      (joint (IsSpelt r file) _ _ (behind_faults r file _ _ (inside r file names over AsValue a placed.1) (unmet_faults (operands_need (class_of o)) a (type_of (with_names file names) a))) (inside r file names over AsValue b placed.2)) (unmet_faults (operands_need (class_of o)) b (type_of (with_names file names) b)))
      (binary_faults (class_of o) b (met (operands_need (class_of o)) (type_of (with_names file names) a)) (met (operands_need (class_of o)) (type_of (with_names file names) b)))

  inside_all : (r : Resolution) (file : Scope) (names : List Entry) → IsOver file.names names → (wants : List Kind) (all : Arguments) → AllPlaced r.program.tokens.list all → AreSpelt r file (notes_of_all (with_names file names) wants all)
  inside_all r file names over wants no_arguments placed = tt
  inside_all r file names over wants (argument a rest) placed =
      joint (IsSpelt r file) _ _
      (behind_faults r file _ _ (behind_faults r file _ _ (inside r file names over AsValue a placed.0) (unmet_faults Value a (type_of (with_names file names) a))) (unagreed_faults (first_wanted wants) a (met Value (type_of (with_names file names) a))))
      (inside_all r file names over (drop 1 wants) rest placed.1)
