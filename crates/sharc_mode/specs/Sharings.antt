-- Sharing modes with what their lock paths name, and when two are the same.
use Rattle.std.specs.Prelude.{ℕ, ◌==◌, Bool, true, false, ◌&&◌, List, [], ◌∷◌, slice_get, Option, Some, None, is_none}
use Rattle.std.specs.Str.{bytes_eq}
use Rattle.sharc_tree.specs.{declared.ctype.Path.Path, declared.ctype.Path.TheVariants.{One, Through}}
use Rattle.sharc_tree.specs.declared.ctype.Mode.{Mode}
use Rattle.sharc_tree.specs.declared.ctype.Mode.TheVariants.{Private, Readonly, Locked, Racy, Dynamic}
use Rattle.sharc_tree.specs.{declared.token.Token.Token, declared.tree.item.GlobalDefinition.GlobalDefinition}
use Rattle.sharc_names.specs.declared.fault.Named.{Named}
use Rattle.sharc_names.specs.declared.fault.Named.TheVariants as named
use Rattle.sharc_ctype.specs.Resolved.{Resolution, named_at, global_at}

-- a lock path: the token of its first name, which shows what that names, and its second name, where it has one
pub record Lock : Type 0 where
  pub first : ℕ
  pub second : Option (List ℕ)

-- a sharing mode (the SharC paper)
pub data Sharing : Type 0 where
  private : Sharing
  readonly : Sharing
  locked : Lock → Sharing
  racy : Sharing
  dynamic : Sharing

abbrev pub lock_of : Path → Lock
lock_of (One m token) = record { first = token; second = None }
lock_of (Through x token m) = record { first = token; second = Some m }

abbrev pub sharing_of : Mode → Sharing
sharing_of Private = private
sharing_of Readonly = readonly
sharing_of (Locked path) = locked (lock_of path)
sharing_of Racy = racy
sharing_of Dynamic = dynamic

-- what is written at a token; nothing past the last one
abbrev pub text_of : Option Token → List ℕ
text_of None = []
text_of (Some t) = t.text

abbrev pub text_at : Resolution → ℕ → List ℕ
text_at r token = text_of (slice_get r.program.tokens.list token)

-- the mode as it is printed: the first name of its path is what is written at that token

abbrev pub path_with : ℕ → List ℕ → Option (List ℕ) → Path
path_with token text None = One text token
path_with token text (Some m) = Through text token m

abbrev pub path_of : Resolution → Lock → Path
path_of r l = path_with l.first (text_at r l.first) l.second

abbrev pub mode_of : Resolution → Sharing → Mode
mode_of r private = Private
mode_of r readonly = Readonly
mode_of r (locked l) = Locked (path_of r l)
mode_of r racy = Racy
mode_of r dynamic = Dynamic

-- Two paths are equal where they name the same global, or the same variable and the same field; a field's own paths
-- where they name the same sibling. A path that names what no path may name is equal to one that names the same. The
-- fields behind one variable, and what the program does not define, are determined by their names.

abbrev pub same_named : Named → Named → Bool
same_named (named.Struct n) (named.Struct k) = n == k
same_named (named.Global g) (named.Global h) = g == h
same_named (named.Function f) (named.Function g) = f == g
same_named (named.Variable x) (named.Variable y) = x == y
same_named (named.Field f) (named.Field g) = f == g
same_named named.Known named.Known = true
same_named _ _ = false

abbrev pub same_text : Named → List ℕ → List ℕ → Bool
same_text named.Known a b = bytes_eq a b
same_text _ a b = true

-- the first names of two paths
abbrev pub same_first : Resolution → ℕ → ℕ → Bool
same_first r a b = same_named (named_at r a) (named_at r b) && same_text (named_at r a) (text_at r a) (text_at r b)

abbrev pub same_second : Option (List ℕ) → Option (List ℕ) → Bool
same_second None None = true
same_second None (Some n) = false
same_second (Some m) None = false
same_second (Some m) (Some n) = bytes_eq m n

abbrev pub same_lock : Resolution → Lock → Lock → Bool
same_lock r l k = same_first r l.first k.first && same_second l.second k.second

abbrev pub is_private : Sharing → Bool
is_private private = true
is_private _ = false

abbrev pub is_readonly : Sharing → Bool
is_readonly readonly = true
is_readonly _ = false

abbrev pub is_racy : Sharing → Bool
is_racy racy = true
is_racy _ = false

abbrev pub is_dynamic : Sharing → Bool
is_dynamic dynamic = true
is_dynamic _ = false

abbrev pub is_locked_by : Resolution → Lock → Sharing → Bool
is_locked_by r l (locked k) = same_lock r l k
is_locked_by r l _ = false

abbrev pub same : Resolution → Sharing → Sharing → Bool
same r private b = is_private b
same r readonly b = is_readonly b
same r (locked l) b = is_locked_by r l b
same r racy b = is_racy b
same r dynamic b = is_dynamic b

-- level by level
abbrev pub same_all : Resolution → List Sharing → List Sharing → Bool
same_all r [] [] = true
same_all r [] (b ∷ bs) = false
same_all r (a ∷ more) [] = false
same_all r (a ∷ more) (b ∷ bs) = same r a b && same_all r more bs

-- where a mode may be unknown: both are, or both are known and the same
abbrev pub same_level : Resolution → Option Mode → Option Mode → Bool
same_level r None None = true
same_level r None (Some b) = false
same_level r (Some a) None = false
same_level r (Some a) (Some b) = same r (sharing_of a) (sharing_of b)

abbrev pub same_levels : Resolution → List (Option Mode) → List (Option Mode) → Bool
same_levels r [] [] = true
same_levels r [] (b ∷ bs) = false
same_levels r (a ∷ more) [] = false
same_levels r (a ∷ more) (b ∷ bs) = same_level r a b && same_levels r more bs

-- What a path names.

abbrev pub is_field : Named → Bool
is_field (named.Field f) = true
is_field _ = false

-- a sibling of the field in whose type it is written
abbrev pub is_sibling_lock : Resolution → Lock → Bool
is_sibling_lock r l = is_field (named_at r l.first) && is_none l.second

abbrev pub is_sibling : Resolution → Sharing → Bool
is_sibling r (locked l) = is_sibling_lock r l
is_sibling r _ = false

abbrev pub variable_named : Named → Option ℕ
variable_named (named.Variable x) = Some x
variable_named _ = None

-- the variable that its first name names
abbrev pub variable_of : Resolution → Lock → Option ℕ
variable_of r l = variable_named (named_at r l.first)

-- the token that declares a global
abbrev pub global_token : Option GlobalDefinition → Option ℕ
global_token None = None
global_token (Some g) = Some g.declaration.name.site.token

-- the variable or the global that a name names, by the token that declares it
abbrev pub object_named : Resolution → Named → Option ℕ
object_named r (named.Struct n) = None
object_named r (named.Global n) = global_token (global_at r n)
object_named r (named.Function n) = None
object_named r (named.Variable x) = Some x
object_named r (named.Field f) = None
object_named r named.Known = None

-- the variable or the global that its first name names
abbrev pub object_of : Resolution → Lock → Option ℕ
object_of r l = object_named r (named_at r l.first)
