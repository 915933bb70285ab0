-- What the rules of statements ask of an lvalue, and of a local with a value.
use Rattle.sharc_ctype_laws.proofs.{Imports.{◌≡◌, inl, inr, ℕ, zero, suc, true, false, refl, lt-ltb, arith, false≢true, true≢false, Base, GlobalForm, Array, is_lvalue, Expression, Kind, object, array, null, StructTable, global_kind, Resolution, is_aggregate, HasType, IsScalar, a_variable, a_global, a_function, in_parentheses, element_of_pointer, element_of_array, a_field, a_field_behind, pointed_to, IsHeld}, KindLemmas.{integer_is, pointer_is}, Scenes.Stands}
use Rattle.sharc_tree.specs.Tree as tree
use Rattle.sharc_names.specs.Kinds as kinds

-- an lvalue is no NULL

object_not_null : (b : Base) (n : ℕ) → object b n ≡ null → ⊥
object_not_null b n h = cc

global_not_null : (f : GlobalForm) (b : Base) (n : ℕ) → global_kind f (object b n) ≡ null → ⊥
global_not_null (Array at count) b n h = array_not_null b n h
  where
    array_not_null : (c : Base) (m : ℕ) → array c m ≡ null → ⊥
    array_not_null c m i = cc
global_not_null _ b n h = object_not_null b n h

function_not_null : kinds.function ≡ null → ⊥
function_not_null h = cc

pub lvalue_not_null : (r : Resolution) (e : Expression) (k : Kind) → HasType r e k → is_lvalue e ≡ true → k ≡ null → ⊥
lvalue_not_null r _ _ (a_variable is at spelled) l h = object_not_null _ _ h
lvalue_not_null r _ _ (a_global {g = g} is at spelled) l h = global_not_null g.form _ _ h
lvalue_not_null r _ _ (a_function c) l h = function_not_null h
lvalue_not_null r _ _ (in_parentheses a) l h = lvalue_not_null r _ _ a l h
lvalue_not_null r _ _ (element_of_pointer a i t) l h = object_not_null _ _ h
lvalue_not_null r _ _ (element_of_array a i t) l h = object_not_null _ _ h
lvalue_not_null r _ _ (a_field a m is) l h = object_not_null _ _ h
lvalue_not_null r _ _ (a_field_behind a m is) l h = object_not_null _ _ h
lvalue_not_null r _ _ (pointed_to a) l h = object_not_null _ _ h
lvalue_not_null r _ _ _ l h = false≢true l

pub held_scalar : (k : Kind) → IsScalar k → (k ≡ null → ⊥) → IsHeld k
held_scalar k (inl i) n = inl i
held_scalar k (inr (inl p)) n = inr p
held_scalar k (inr (inr z)) n = absurd (n z)

-- what a local holds that is no struct and no mutex

pub held_object : (structs : StructTable) (b : Base) (n : ℕ) → Stands structs b → is_aggregate (object b n) ≡ false → IsHeld (object b n)
held_object structs b (suc n) s h = inr (pointer_is (object b (suc n)) (lt-ltb 0 (suc n) (omega arith)))
held_object structs Base.Mutex zero s h = absurd (true≢false h)
held_object structs Base.Void zero s h = absurd s
held_object structs (Base.Struct x) zero s h = absurd (true≢false h)
held_object structs k zero s h = inl (integer_is (object k 0) refl)
