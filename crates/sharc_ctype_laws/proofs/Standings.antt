-- Where an lvalue is needed and no fault is noted, there is none where the value is needed.
use Rattle.sharc_ctype_laws.proofs.{Imports.{◌≡◌, true, Expression, NoLvalue, Scope, place, AsLvalue, notes_at, notes_of, is_place, place_notes, Resolution, no_call}, Held.{Held, well}}
use Rattle.sharc_tree.specs.Tree as tree

as_value : (r : Resolution) (scope : Scope) (a : Expression) → is_place scope.names a ≡ true → Held r (notes_at AsLvalue scope a) → Held r (notes_of scope a)
as_value r scope (tree.parentheses s a) is h = as_value r scope a is h
as_value r scope (tree.call s f all) is h = absurd (no_call is)
as_value r scope _ is h = h

pub lvalue_held : (r : Resolution) (scope : Scope) (a : Expression) → Held r (notes_at AsLvalue scope a) → Held r (place_notes scope.names a) → Held r (notes_of scope a)
lvalue_held r scope a h p = as_value r scope a (well _ (is_place scope.names a) (place a) NoLvalue p) h
