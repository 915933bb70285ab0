-- Going over a row from its first target down.
use Rattle.sharc_check.proofs.Imports.{◌≡◌, ℕ, ◌+◌, ◌<◌, ◌≤◌, Bool, false, ◌||◌, cond, List, [], ◌∷◌, ◌++◌, length, drop, Option, Some, None, refl, ap, sym, ◌∙◌, subst, append_assoc, arith, flat_map, list_any, option_map, option_or, Base, Span, Declaration, Arguments, Resolution, CastChangesInnerMode, pointed, Assignment, cast_notes, mismatch, shown, unmet, unmet_in, RowLaws, position_count, Targets, deeper, modes_of, Lock, Sharing, same_all}

-- a row and what is below its first target
pub step_on : (laws : RowLaws) (m : Assignment) (row next : Targets) (s : Sharing) → length m.modes ≡ position_count m.typed → 0 < row.count → row.first + row.count ≤ position_count m.typed → s ≡ pointed m (Some row) → next ≡ deeper row
    → (next.first + next.count ≤ position_count m.typed) × (modes_of m row ≡ s ∷ modes_of m next)
step_on laws m row next s whole some ends s_is next_is = (
  subst (λ (r : Targets). r.first + r.count ≤ position_count m.typed) (sym next_is) (laws.ends (position_count m.typed) row ends),
  laws.begins m row some (omega (arith, ends, whole)) ∙ ap (λ x. x ∷ modes_of m (deeper row)) (sym s_is) ∙ ap (λ r. s ∷ modes_of m r) (sym next_is),
)

pub said_one : {A B : Type 0} (f : A → List B) (all rest : List A) (s : A) (before after whole : List B) → all ≡ s ∷ rest → after ≡ before ++ f s → before ++ flat_map f all ≡ whole → after ++ flat_map f rest ≡ whole
said_one f all rest s before after whole all_is after_is were =
    ap (λ l. l ++ flat_map f rest) after_is ∙ append_assoc before (f s) (flat_map f rest) ∙ ap (λ l. before ++ flat_map f l) (sym all_is) ∙ were

pub none_of_one : {A : Type 0} (f : A → Bool) (all rest : List A) (s : A) (whole : Bool) → all ≡ s ∷ rest → f s ≡ false → list_any f all ≡ whole → list_any f rest ≡ whole
none_of_one f all rest s whole all_is none were = ap (λ b. b || list_any f rest) (sym none) ∙ ap (list_any f) (sym all_is) ∙ were

or_assoc : {A : Type 0} (a b c : Option A) → option_or (option_or a b) c ≡ option_or a (option_or b c)
or_assoc None b c = refl
or_assoc (Some x) b c = refl

pub unmet_one : (r : Resolution) (ds : List Declaration) (args : Arguments) (all rest : List Sharing) (s : Sharing) (found next whole : Option Lock) → all ≡ s ∷ rest → next ≡ option_or (unmet r ds args s) found
    → option_or (unmet_in r ds args all) found ≡ whole → option_or (unmet_in r ds args rest) next ≡ whole
unmet_one r ds args all rest s found next whole all_is next_is were =
    ap (option_or (unmet_in r ds args rest)) next_is
    ∙ sym (or_assoc (unmet_in r ds args rest) (unmet r ds args s) found)
    ∙ ap (λ l. option_or (unmet_in r ds args l) found) (sym all_is) ∙ were

pub cast_said : (laws : RowLaws) (m : Assignment) (s : Span) (b : Base) (to from below_to below_from : Targets) (row : Option Targets) (same : Bool) → row ≡ Some from
    → to.first + to.count ≤ length m.modes → from.first + from.count ≤ length m.modes → below_to ≡ deeper to → below_from ≡ deeper from → same ≡ same_all m.typed (modes_of m below_to) (modes_of m below_from)
    → cast_notes m.typed s b (modes_of m to) (option_map (modes_of m) row) ≡ cond same [] (mismatch CastChangesInnerMode s (shown m.typed b (modes_of m to)) (shown m.typed b (modes_of m from)) ∷ [])
cast_said laws m s b to from below_to below_from row same row_is ends_to ends_from to_is from_is same_is =
    ap (λ x. cast_notes m.typed s b (modes_of m to) (option_map (modes_of m) x)) row_is
    ∙ ap (λ x. cond x [] (mismatch CastChangesInnerMode s (shown m.typed b (modes_of m to)) (shown m.typed b (modes_of m from)) ∷ []))
    (ap (λ l. same_all m.typed l (drop 1 (modes_of m from))) (laws.drops m to ends_to ∙ ap (modes_of m) (sym to_is))
    ∙ ap (same_all m.typed (modes_of m below_to)) (laws.drops m from ends_from ∙ ap (modes_of m) (sym from_is)) ∙ sym same_is)
