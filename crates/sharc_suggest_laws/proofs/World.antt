-- What the laws of typed programs say of one: what has a type is found, and what is given to what is known.
use Rattle.sharc_suggest_laws.proofs.{Imports.{◌≡◌, ℕ, ◌==◌, Bool, true, false, cond, List, [], ◌∷◌, ◌++◌, Some, bytes_eq, refl, subst, eqb-true, AllByRecursion, Declaration, GlobalDefinition, StructDefinition, IsLow, in_function, IsPlaced, Expression, Function, Item, Scope, field_of, Note, Named, Role, declared, result_of, sizes_notes, heads_notes, no_heads, file_scope, items_notes, main_missing, notes_about, Resolution, IsResolved, structs_in, globals_in, functions_in, declarations_in, declared_at, named_at, kind_at, locals_in_all, IsFair, function_transfers, HasType, struct_named, IsItself, NameThemselves, IsFound, EachTypeFound, EachNameOnce, OnlyNames, EachNamesItself, MeetsConstraints, OneType, AllFair, front, back, at_place, together, none_some, one_some}, Folded.IsOwnAt, Given.{IsKnown, IsOwnLocal, IsWellFunction}, Holders.{IsCastOf, IsLocalOf, IsDeclaredAs, HasFields, InBody, IsHeldBy, held_by}, Noted.clean_from, Owned.all_own, Siblings.{IsTrueOf, AreTrueOf, true_from, HasSiblings, AreSiblings, all_siblings}, Targets.IsKnownProgram}

-- ---- the laws

pub record TypedLaws : Type 0 where
  pub once : EachNameOnce
  pub only : OnlyNames
  pub itself : EachNamesItself
  pub found : EachTypeFound
  pub types : MeetsConstraints
  pub one : OneType
  pub fair : AllFair

-- ---- of what is found in a list

declared_there : (P : Declaration → Type 0) (ds : List Declaration) (token : ℕ) (d : Declaration) → AllByRecursion P ds → declared_at ds token ≡ Some d → (d.name.site.token ≡ token) × P d
declared_there P [] token d h is = absurd (none_some d is)
declared_there P (x ∷ rest) token d h is = by (x.name.site.token == token) refl is (declared_there P rest token d h.1)
  where
    by : (b : Bool) → x.name.site.token == token ≡ b → cond b (Some x) (declared_at rest token) ≡ Some d → (declared_at rest token ≡ Some d → (d.name.site.token ≡ token) × P d) → (d.name.site.token ≡ token) × P d
    by true same at more = subst (λ (y : Declaration). (y.name.site.token ≡ token) × P y) (one_some x d at) (eqb-true x.name.site.token token same, h.0)
    by false other at more = more at

struct_there : (P : StructDefinition → Type 0) (l : List StructDefinition) (name : List ℕ) (s : StructDefinition) → AllByRecursion P l → struct_named l name ≡ Some s → P s
struct_there P [] name s h is = absurd (none_some s is)
struct_there P (x ∷ rest) name s h is = by (bytes_eq x.name.text name) is (struct_there P rest name s h.1)
  where
    by : (b : Bool) → cond b (Some x) (struct_named rest name) ≡ Some s → (struct_named rest name ≡ Some s → P s) → P s
    by true at more = subst P (one_some x s at) h.0
    by false at more = more at

field_there : (P : Declaration → Type 0) (ds : List Declaration) (name : List ℕ) (d : Declaration) → AllByRecursion P ds → field_of ds name ≡ Some d → P d
field_there P [] name d h is = absurd (none_some d is)
field_there P (x ∷ rest) name d h is = by (bytes_eq x.name.text name) is (field_there P rest name d h.1)
  where
    by : (b : Bool) → cond b (Some x) (field_of rest name) ≡ Some d → (field_of rest name ≡ Some d → P d) → P d
    by true at more = subst P (one_some x d at) h.0
    by false at more = more at

-- ---- the program

held : TypedLaws → (r : Resolution) → IsResolved r → IsPlaced r.program → IsLow r.program → IsHeldBy (IsFound r) r.program.items
held laws r resolved placed low = held_by (IsFound r) r.program.items (laws.found r resolved placed low)

pub own_notes : TypedLaws → (r : Resolution) → IsResolved r → IsPlaced r.program → IsLow r.program → (t : ℕ) → AllByRecursion (IsOwnAt t (named_at r t)) (notes_about r.program)
own_notes laws r resolved placed low t = all_own r t (laws.only r resolved placed low t) (laws.once r resolved placed low t)

siblings : TypedLaws → (r : Resolution) → IsResolved r → IsPlaced r.program → IsLow r.program → AllByRecursion (AreSiblings r) (structs_in r.program.items)
siblings laws r resolved placed low =
    let items : List Item = r.program.items in
    let file : Scope = file_scope items in
    let all : AreTrueOf r (notes_about r.program) = true_from r (notes_about r.program) (clean_from (notes_about r.program) resolved.typed) (own_notes laws r resolved placed low) in
    let heads : List Note = heads_notes no_heads items in
    let sizes : List Note = sizes_notes file.structs 0 items in
    let of_items : AreTrueOf r (items_notes file items) =
    back (IsTrueOf r) heads (items_notes file items) (front (IsTrueOf r) (heads ++ items_notes file items) sizes (front (IsTrueOf r) (heads ++ items_notes file items ++ sizes) (main_missing _ file.names) all)) in
    all_siblings r file items placed.items of_items

pub known_program : TypedLaws → (r : Resolution) → IsResolved r → IsPlaced r.program → IsLow r.program → IsKnownProgram r
known_program laws r resolved placed low =
    let all : IsHeldBy (IsFound r) r.program.items = held laws r resolved placed low in
    let siblings_of : AllByRecursion (AreSiblings r) (structs_in r.program.items) = siblings laws r resolved placed low in
    record {
      declarations = λ token d is.
          let there = declared_there (IsDeclaredAs (IsFound r)) (declarations_in r.program.items) token d all.declarations is in
          (there.1.0, there.1.1, there.0, there.1.2);
      globals = λ n g is. at_place (λ (x : GlobalDefinition). IsFound r (declared Role.Global x.declaration)) (globals_in r.program.items) n g all.globals is;
      results = λ n f is. at_place (λ (x : Function). IsFound r (result_of x)) (functions_in r.program.items) n f all.results is;
      members = λ struct name s d is has. (
        field_there (λ (x : Declaration). IsFound r (declared Role.Field x)) s.fields name d (struct_there (HasFields (IsFound r)) (structs_in r.program.items) struct s all.fields is) has,
        field_there (HasSiblings r s.fields) s.fields name d (struct_there (AreSiblings r) (structs_in r.program.items) struct s siblings_of is) has,
      );
      one = laws.one r resolved placed low;
    }

-- ---- its functions

own_locals : (r : Resolution) (ds : List Declaration) → AllByRecursion (IsItself r Named.Variable) ds → AllByRecursion (IsLocalOf (IsFound r)) ds → AllByRecursion (IsOwnLocal r) ds
own_locals r ds f g = together (IsItself r Named.Variable) (IsLocalOf (IsFound r)) (IsOwnLocal r) (λ d a b. (a, b)) ds f g

functions_well : (r : Resolution) (fs : List Function) → AllByRecursion (λ (f : Function). IsFound r (result_of f)) fs
    → AllByRecursion (λ (f : Function). AllByRecursion (IsItself r Named.Variable) (f.parameters ++ locals_in_all f.statements)) fs → AllByRecursion (λ (f : Function). InBody (IsFound r) (in_function f) (locals_in_all f.statements)) fs
    → AllByRecursion (λ (f : Function). AllByRecursion (λ (e : Expression). HasType r e (kind_at r e)) (in_function f)) fs → AllByRecursion (λ (f : Function). AllByRecursion (IsFair r) (function_transfers r f)) fs → AllByRecursion (IsWellFunction r) fs
functions_well r [] results names bodies types fair = tt
functions_well r (f ∷ rest) results names bodies types fair = (
  record {
    result = results.0;
    parameters = front (IsItself r Named.Variable) f.parameters (locals_in_all f.statements) names.0;
    locals = own_locals r (locals_in_all f.statements) (back (IsItself r Named.Variable) f.parameters (locals_in_all f.statements) names.0) bodies.0.locals;
    known = together (λ (e : Expression). HasType r e (kind_at r e)) (IsCastOf (IsFound r)) (IsKnown r) (λ e a b. (a, b)) (in_function f) types.0 bodies.0.casts;
    fair = fair.0;
  },
  functions_well r rest results.1 names.1 bodies.1 types.1 fair.1,
)

pub known_functions : TypedLaws → (r : Resolution) → IsResolved r → IsPlaced r.program → IsLow r.program → AllByRecursion (IsWellFunction r) (functions_in r.program.items)
known_functions laws r resolved placed low =
    let all : IsHeldBy (IsFound r) r.program.items = held laws r resolved placed low in
    let names : NameThemselves r = laws.itself r resolved placed low in
    functions_well r (functions_in r.program.items) all.results names.variables all.bodies (laws.types r resolved placed low) (laws.fair r resolved placed low)
