-- The casts of expressions that follow others.
use Rattle.sharc_ctype.proofs.Imports.{◌≡◌, List, [], ◌∷◌, ◌++◌, refl, ap, sym, subst, ◌∙◌, append_assoc, OnOk, Result, Expression, identifier, constant, parentheses, call, spawn, on_value, on_place, cast, index, field, unary, binary, Entity, casts, cast_entity}

pub casts_both : (a b : List Expression) → casts (a ++ b) ≡ casts a ++ casts b
casts_both [] b = refl
casts_both (cast s t e ∷ rest) b = ap (λ l. cast_entity s t ∷ l) (casts_both rest b)
casts_both (identifier s i ∷ rest) b = casts_both rest b
casts_both (constant s c ∷ rest) b = casts_both rest b
casts_both (parentheses s a ∷ rest) b = casts_both rest b
casts_both (call s f all ∷ rest) b = casts_both rest b
casts_both (spawn s f a ∷ rest) b = casts_both rest b
casts_both (on_value s w a ∷ rest) b = casts_both rest b
casts_both (on_place s w a ∷ rest) b = casts_both rest b
casts_both (index s a i ∷ rest) b = casts_both rest b
casts_both (field s a w n ∷ rest) b = casts_both rest b
casts_both (unary s o a ∷ rest) b = casts_both rest b
casts_both (binary s o at l r ∷ rest) b = casts_both rest b

two : (old mid : List Entity) (a b : List Expression) → mid ≡ old ++ casts a → mid ++ casts b ≡ old ++ casts (a ++ b)
two old mid a b is = ap (λ l. l ++ casts b) is ∙ append_assoc old (casts a) (casts b) ∙ ap (λ l. old ++ l) (sym (casts_both a b))

-- the casts of both are added in turn
pub both_added : {T E : Type 0} (r : Result T E) (old mid new : List Entity) (a b : List Expression) → mid ≡ old ++ casts a → OnOk r (new ≡ mid ++ casts b) → OnOk r (new ≡ old ++ casts (a ++ b))
both_added r old mid new a b is behind = subst (λ l. OnOk r (new ≡ l)) (two old mid a b is) behind

pub first_added : (old mid all : List Entity) (a b : List Expression) → mid ≡ old ++ casts a → old ++ casts (a ++ b) ≡ all → mid ++ casts b ≡ all
first_added old mid all a b is whole = two old mid a b is ∙ whole
