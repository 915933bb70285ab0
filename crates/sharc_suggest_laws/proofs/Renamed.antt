-- What tokens name in a program with a suggested cast written in it.
use Rattle.sharc_suggest_laws.proofs.{Imports.{◌≡◌, ◌⊎◌, inl, inr, ℕ, ◌+◌, ◌==◌, zero, suc, Bool, true, false, cond, List, [], ◌∷◌, Some, slice_get, refl, ap, sym, subst, ◌∙◌, false≢true, bytes_eq-Decides, AllByRecursion, Base, Site, WrittenType, Declaration, GlobalDefinition, GlobalForm, Array, Constant, Number, Character, Null, UnaryOperator, Not, Dereference, NumberType, expressions, Expression, identifier, constant, parentheses, call, spawn, cast, index, field, unary, binary, Function, Named, Kind, array, is_long, declared_kind, element_kind, int, long, global_kind, Entity, OperatorClass, Shift, Arithmetic, entities_in, numbered, numbered_from, positions_of, number_kind, constant_kind, unary_result, class_of, binary_result, Resolution, named_at, globals_in, functions_in, declarations_in, declared_at, variable_kind, global_kind_of, result_kind_of, named_kind, called_kind, kind_at, base_of, is_field, NamesStruct, IsNamedBase, IsNamedType, names_struct, base_site, is_dull}, Bases.{Have, HaveCasts, HoldInAll, in_all, AreDeclared, first_casts}, Mild.NamesBase}

-- ---- a base that something has, and where it is named

abbrev pub HasStruct : List Entity → Base → Type 0
HasStruct [] b = ⊥
HasStruct (e ∷ rest) b = (names_struct e.written.ctype.base b ≡ true) ⊎ HasStruct rest b

-- if the base of a type is a struct, something has it
abbrev pub HasBase : List Entity → Base → Type 0
HasBase all b = (name : List ℕ) → b ≡ Base.Struct name → HasStruct all (Base.Struct name)

named_itself : (b : Base) (name : List ℕ) → b ≡ Base.Struct name → names_struct b (Base.Struct name) ≡ true
named_itself b name is = ap (λ (x : Base). names_struct x (Base.Struct name)) is ∙ (bytes_eq-Decides name name).1 refl

pub each_has : (all l : List Entity) → ((b : Base) → HasStruct l b → HasStruct all b) → Have (λ (w : WrittenType). HasBase all w.ctype.base) l
each_has all [] up = tt
each_has all (e ∷ rest) up = ((λ name is. up (Base.Struct name) (inl (named_itself e.written.ctype.base name is))), each_has all rest (λ b h. up b (inr h)))

-- the first that has it shows where it is named
record IsSiteOf (Q : WrittenType → Type 0) (b : Base) (s : Site) : Type 0 where
  written : WrittenType
  holds : Q written
  has : names_struct written.ctype.base b ≡ true
  is : s ≡ written.base

site_by : (Q : WrittenType → Type 0) (e : Entity) (b : Base) (other : Site) (c : Bool) → names_struct e.written.ctype.base b ≡ c → Q e.written → (c ≡ false → IsSiteOf Q b other) → IsSiteOf Q b (cond c e.written.base other)
site_by Q e b other true has holds more = record { written = e.written; holds = holds; has = has; is = refl }
site_by Q e b other false has holds more = more refl

later_has : (c : Bool) (rest : List Entity) (b : Base) → (c ≡ true) ⊎ HasStruct rest b → c ≡ false → HasStruct rest b
later_has c rest b (inl is) other = absurd (false≢true (sym other ∙ is))
later_has c rest b (inr h) other = h

site_of : (Q : WrittenType → Type 0) (k : ℕ) (l : List Entity) (b : Base) (s : Site) → Have Q l → HasStruct l b → IsSiteOf Q b (base_site (numbered_from k l) b s)
site_of Q k [] b s have has = absurd has
site_of Q k (e ∷ rest) b s have has =
    site_by Q e b (base_site (numbered_from (k + positions_of e) rest) b s) (names_struct e.written.ctype.base b) refl have.0
    (λ other. site_of Q (k + positions_of e) rest b s have.1 (later_has (names_struct e.written.ctype.base b) rest b has other))

struct_named_dull : (r : Resolution) (token : ℕ) (name : List ℕ) → NamesStruct r token name → (is_dull (named_at r token) ≡ true) × (is_field (named_at r token) ≡ false)
struct_named_dull r token name (inl s) = (ap is_dull s.2, ap is_field s.2)
struct_named_dull r token name (inr s) = (ap is_dull s.0, ap is_field s.0)

dull_by : (r : Resolution) (token : ℕ) (b : Base) (name : List ℕ) → names_struct b (Base.Struct name) ≡ true → IsNamedBase r token b → (is_dull (named_at r token) ≡ true) × (is_field (named_at r token) ≡ false)
dull_by r token (Base.Struct other) name is h = struct_named_dull r token other h
dull_by r token _ name is h = absurd (false≢true is)

-- the token of the base of a cast names a struct
pub base_named : (r : Resolution) (b : Base) (s : Site) → Have (IsNamedType r) (entities_in r.program.items) → HasBase (entities_in r.program.items) b → NamesBase r (base_site (numbered (entities_in r.program.items)) b s).token b
base_named r (Base.Struct name) s have has =
    let at : IsSiteOf (IsNamedType r) (Base.Struct name) (base_site (numbered_from 0 (entities_in r.program.items)) (Base.Struct name) s) = site_of (IsNamedType r) 0 (entities_in r.program.items) (Base.Struct name) s have (has name refl) in
    let dull = dull_by r at.written.base.token at.written.ctype.base name at.has at.holds.base in
    subst (λ (x : Site). (is_dull (named_at r x.token) ≡ true) × (is_field (named_at r x.token) ≡ false)) (sym at.is) dull
base_named r _ s have has = tt

-- ---- the base of the type of an expression is that of a type that something has

abbrev IsBased : Resolution → Kind → Type 0
IsBased r k = HasBase (entities_in r.program.items) (base_of k)

-- no struct is Void, Int or Long
void_based : (r : Resolution) → HasBase (entities_in r.program.items) Base.Void
void_based r name is = absurd (cc)

int_based : (r : Resolution) → HasBase (entities_in r.program.items) Base.Int
int_based r name is = absurd (cc)

long_based : (r : Resolution) → HasBase (entities_in r.program.items) Base.Long
long_based r name is = absurd (cc)

-- the base of the type is that of a type that something has
abbrev HasItsBase : Resolution → WrittenType → Type 0
HasItsBase r w = HasBase (entities_in r.program.items) w.ctype.base

of_declaration : (r : Resolution) (ds : List Declaration) (token : ℕ) → AreDeclared (HasItsBase r) ds → IsBased r (variable_kind (declared_at ds token))
of_declaration r [] token all = void_based r
of_declaration r (d ∷ rest) token all = by (d.name.site.token == token) (of_declaration r rest token all.1)
  where
    by : (b : Bool) → IsBased r (variable_kind (declared_at rest token)) → IsBased r (variable_kind (cond b (Some d) (declared_at rest token)))
    by true more = all.0
    by false more = more

global_base : (f : GlobalForm) (k : Kind) → base_of (global_kind f k) ≡ base_of k
global_base (Array at n) (array b stars) = refl
global_base _ _ = refl

of_global : (r : Resolution) (gs : List GlobalDefinition) (n : ℕ) → AllByRecursion (λ (g : GlobalDefinition). HasBase (entities_in r.program.items) g.declaration.written.ctype.base) gs → IsBased r (global_kind_of (slice_get gs n))
of_global r [] n all = void_based r
of_global r (g ∷ rest) zero all = subst (HasBase (entities_in r.program.items)) (sym (global_base g.form (declared_kind g.declaration.written))) all.0
of_global r (g ∷ rest) (suc n) all = of_global r rest n all.1

of_result : (r : Resolution) (fs : List Function) (n : ℕ) → AllByRecursion (λ (f : Function). HasBase (entities_in r.program.items) f.result.ctype.base) fs → IsBased r (result_kind_of (slice_get fs n))
of_result r [] n all = void_based r
of_result r (f ∷ rest) zero all = all.0
of_result r (f ∷ rest) (suc n) all = of_result r rest n all.1

abbrev AllBased : Resolution → Type 0
AllBased r = HoldInAll (HasItsBase r) r.program.items

name_based : (r : Resolution) → AllBased r → (n : Named) → IsBased r (named_kind r n)
name_based r all (Named.Global n) = of_global r (globals_in r.program.items) n all.globals
name_based r all (Named.Variable token) = of_declaration r (declarations_in r.program.items) token all.declarations
name_based r all (Named.Field token) = of_declaration r (declarations_in r.program.items) token all.declarations
name_based r all _ = void_based r

called_based : (r : Resolution) → AllBased r → (n : Named) → IsBased r (called_kind r n)
called_based r all (Named.Function n) = of_result r (functions_in r.program.items) n all.results
called_based r all _ = void_based r

either_int : (r : Resolution) (b : Bool) → IsBased r (cond b long int)
either_int r true = long_based r
either_int r false = int_based r

number_based : (r : Resolution) (w : NumberType) → IsBased r (number_kind w)
number_based r NumberType.Int = int_based r
number_based r NumberType.Long = long_based r

constant_based : (r : Resolution) (c : Constant) → IsBased r (constant_kind c)
constant_based r (Number n) = number_based r n.number_type
constant_based r (Character byte) = int_based r
constant_based r Null = void_based r

element_based : (r : Resolution) (k : Kind) → IsBased r k → IsBased r (element_kind k)
element_based r (array b n) h = h
element_based r _ h = h

unary_based : (r : Resolution) (o : UnaryOperator) (k : Kind) → IsBased r k → IsBased r (unary_result o k)
unary_based r Not k h = int_based r
unary_based r Dereference k h = element_based r k h
unary_based r _ k h = either_int r (is_long k)

binary_based : (r : Resolution) (o : OperatorClass) (j k : Kind) → IsBased r (binary_result o j k)
binary_based r Shift j k = either_int r (is_long j)
binary_based r Arithmetic j k = either_int r _
binary_based r _ j k = int_based r

expression_based : (r : Resolution) → AllBased r → (e : Expression) → HaveCasts (HasItsBase r) (expressions e) → IsBased r (kind_at r e)
expression_based r all (identifier s i) h = name_based r all (named_at r i.site.token)
expression_based r all (constant s c) h = constant_based r c
expression_based r all (parentheses s a) h = expression_based r all a h
expression_based r all (call s f args) h = called_based r all (named_at r f.site.token)
expression_based r all (spawn s f a) h = int_based r
expression_based r all (cast s t a) h = h.0
expression_based r all (index s a i) h = element_based r (kind_at r a) (expression_based r all a (first_casts (HasItsBase r) (expressions a) (expressions i) h))
expression_based r all (field s a w n) h = name_based r all (named_at r n.site.token)
expression_based r all (unary s o a) h = unary_based r o (kind_at r a) (expression_based r all a h)
expression_based r all (binary s o at a b) h = binary_based r (class_of o) (kind_at r a) (kind_at r b)
expression_based r all _ h = void_based r

pub given_based : (r : Resolution) (e : Expression) → HaveCasts (HasItsBase r) (expressions e) → HasBase (entities_in r.program.items) (base_of (kind_at r e))
given_based r e h = expression_based r (in_all (HasItsBase r) r (each_has (entities_in r.program.items) (entities_in r.program.items) (λ b has. has))) e h
