-- What expressions are: C types without modes.
use Rattle.std.specs.Prelude.{ℕ, ◌==◌, ◌-◌, Bool, true, false, ◌&&◌, ◌||◌, nat_lt, List, map, length, if◌then◌else◌}
use Rattle.std.specs.Prelude.{codes}
use Rattle.std.specs.Str.{bytes_eq}
use Rattle.sharc_tree.specs.declared.ctype.Base.{Base}
use Rattle.sharc_tree.specs.declared.ctype.Base.TheVariants.{Int, Char, Long, Mutex, Void, Struct}
use Rattle.sharc_tree.specs.declared.tree.declaration.WrittenType.{WrittenType}
use Rattle.sharc_tree.specs.declared.tree.declaration.Declaration.{Declaration}

-- an object or a value of a base with this many stars, a global array of such objects, `NULL`, or the name of a
-- function
pub data Kind : Type 0 where
  object : Base → ℕ → Kind
  array : Base → ℕ → Kind
  null : Kind
  function : Kind

abbrev pub int : Kind
int = object Int 0

abbrev pub long : Kind
long = object Long 0

abbrev pub void : Kind
void = object Void 0

abbrev pub mutex : Kind
mutex = object Mutex 0

-- what `lock` is handed, and what `wait`, `signal` and `broadcast` are: a pointer to a mutex, and one to a condition
-- variable
abbrev pub mutex_pointer : Kind
mutex_pointer = object Mutex 1

abbrev pub condition_pointer : Kind
condition_pointer = object (Struct (codes "cond")) 1

abbrev pub is_integral : Base → Bool
is_integral Int = true
is_integral Char = true
is_integral Long = true
is_integral Mutex = false
is_integral Void = false
is_integral (Struct name) = false

abbrev pub is_struct_base : Base → Bool
is_struct_base Int = false
is_struct_base Char = false
is_struct_base Long = false
is_struct_base Mutex = false
is_struct_base Void = false
is_struct_base (Struct name) = true

abbrev pub same_base : Base → Base → Bool
same_base Int Int = true
same_base Char Char = true
same_base Long Long = true
same_base Mutex Mutex = true
same_base Void Void = true
same_base (Struct a) (Struct b) = bytes_eq a b
same_base _ _ = false

-- 6.2.5p17
abbrev pub is_integer : Kind → Bool
is_integer (object base stars) = stars == 0 && is_integral base
is_integer (array base stars) = false
is_integer null = false
is_integer function = false

abbrev pub is_pointer : Kind → Bool
is_pointer (object base stars) = nat_lt 0 stars
is_pointer (array base stars) = false
is_pointer null = false
is_pointer function = false

abbrev pub is_null : Kind → Bool
is_null (object base stars) = false
is_null (array base stars) = false
is_null null = true
is_null function = false

abbrev pub is_array : Kind → Bool
is_array (object base stars) = false
is_array (array base stars) = true
is_array null = false
is_array function = false

-- a struct behind this many stars
abbrev pub is_struct_behind : ℕ → Kind → Bool
is_struct_behind n (object base stars) = stars == n && is_struct_base base
is_struct_behind n (array base stars) = false
is_struct_behind n null = false
is_struct_behind n function = false

abbrev pub is_long : Kind → Bool
is_long (object Long stars) = stars == 0
is_long _ = false

-- one C type (6.2.7; the modes are no part of it)
abbrev pub same_kind : Kind → Kind → Bool
same_kind (object a m) (object b n) = same_base a b && m == n
same_kind _ _ = false

-- 6.5.16.1: what may be assigned, passed or returned: any integer as an integer, NULL as any pointer, a pointer as one
-- of the same C type
abbrev pub agrees : Kind → Kind → Bool
agrees want kind =
    if is_null kind then is_pointer want else if is_integer kind then is_integer want else same_kind want kind

-- 6.5.9p2: what `==` compares: integers, pointers of one C type, a pointer and NULL
abbrev pub comparable : Kind → Kind → Bool
comparable a b =
    if is_null a || is_null b then is_pointer a || is_pointer b
    else if is_integer a && is_integer b then true
    else same_kind a b

-- the stars of a written type: a type with n stars has n + 1 levels
abbrev pub stars_of : WrittenType → ℕ
stars_of w = length w.ctype.levels - 1

-- the kind of what a type declares
abbrev pub declared_kind : WrittenType → Kind
declared_kind w = object w.ctype.base (stars_of w)

abbrev pub declared_kinds : List Declaration → List Kind
declared_kinds = map (λ d. declared_kind d.written)

-- the kind of what a pointer or an array leads to
abbrev pub element_kind : Kind → Kind
element_kind (object base stars) = object base (stars - 1)
element_kind (array base stars) = object base stars
element_kind null = null
element_kind function = function

-- 6.3.1.1: `char` is promoted to `int`
abbrev pub promoted : Kind → Kind
promoted kind = if is_long kind then long else int

-- 6.3.1.8
abbrev pub common : Kind → Kind → Kind
common a b = if is_long a || is_long b then long else int
