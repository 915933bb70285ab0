-- What is passed at a call agrees, and so does the right side of `=`, where no fault is noted.
use Rattle.sharc_ctype_laws.proofs.{Imports.{◌≡◌, ◌⊎◌, inl, inr, Bool, true, false, not, ◌||◌, List, [], ◌∷◌, refl, ap, sym, ◌∙◌, subst, Option, Some, false≢true, AllByRecursion, Span, Identifier, Declaration, Expression, Arguments, no_arguments, argument, Right, value, malloc, TypeMismatch, Scope, Kind, same_kind, agrees, declared_kind, declared_kinds, met, unagreed, fault_unless, is_fine, Need, Role, type_of, notes_of, notes_of_all, Resolution, named_at, kind_at, declared, made, is_made, right_notes, parameters_named, passed, Agrees, IsFair}, Held.{Held, left, right, well}, Judged.{judged, met_by, argument_agrees, spawn_callee, spawn_agrees}, Scenes.{IsScene, type_fine}}
use Rattle.sharc_tree.specs.Tree as tree

-- calls

fair_passed : (r : Resolution) (scope : Scope) → IsScene r scope → (list : List Declaration) (all : Arguments) → Held r (notes_of_all scope (declared_kinds list) all) → AllByRecursion (IsFair r) (passed list all)
fair_passed r scope scene [] all h = tt
fair_passed r scope scene (d ∷ rest) no_arguments h = tt
fair_passed r scope scene (d ∷ rest) (argument a more) h = (
  argument_agrees r scope (Some (declared_kind d.written)) a (met_by r scope Need.Value a (judged r scope scene a (left _ _ _ (left _ _ _ (left _ _ _ h)))) (right _ _ _ (left _ _ _ (left _ _ _ h)))) (right _ _ _ (left _ _ _ h)),
  fair_passed r scope scene rest more (right _ _ _ h),
)

pub fair_call : (r : Resolution) (scope : Scope) → IsScene r scope → (list : List Declaration) (parameters : List Kind) (all : Arguments) → (list ≡ []) ⊎ (declared_kinds list ≡ parameters) → Held r (notes_of_all scope parameters all) → AllByRecursion (IsFair r) (passed list all)
fair_call r scope scene list parameters all (inl none) h = subst (λ l. AllByRecursion (IsFair r) (passed l all)) (sym none) tt
fair_call r scope scene list parameters all (inr is) h = fair_passed r scope scene list all (subst (λ l. Held r (notes_of_all scope l all)) (sym is) h)

pub fair_spawn : (r : Resolution) (scope : Scope) → IsScene r scope → (s : Span) (f : Identifier) (a : Expression) → Held r (notes_of scope (tree.spawn s f a))
    → AllByRecursion (IsFair r) (passed (parameters_named r (named_at r f.site.token)) (argument a no_arguments))
fair_spawn r scope scene s f a h =
    let c = spawn_callee r scope scene s f a h in
    let m = met_by r scope Need.Value a (judged r scope scene a (left _ _ _ (left _ _ _ (left _ _ _ h)))) (right _ _ _ (left _ _ _ (left _ _ _ h))) in
    let agree : agrees (declared_kind c.declared.written) (kind_at r a) ≡ true = ap (λ k. agrees k (kind_at r a)) c.is ∙ spawn_agrees r scope s f a c m h in
    subst (λ l. AllByRecursion (IsFair r) (passed l (argument a no_arguments))) (sym c.names) (agree, tt)

-- the right side of `=`

made_agrees : (made_it fine : Bool) → fine ≡ true → (made_it || not fine) ≡ true → made_it ≡ true
made_agrees true fine w h = refl
made_agrees false fine w h = absurd (false≢true (sym (ap not w) ∙ h))

pub right_agrees : (r : Resolution) (scope : Scope) → IsScene r scope → (want : Kind) (given : Option Kind) (x : Right) → given ≡ Some want → Held r (right_notes scope given x) → Agrees r want x
right_agrees r scope scene want given (value e) is h =
    argument_agrees r scope (Some want) e (met_by r scope Need.Value e (judged r scope scene e (left _ _ _ (left _ _ _ h))) (right _ _ _ (left _ _ _ h)))
    (subst (λ g. Held r (unagreed g e (met Need.Value (type_of scope e)))) is (right _ _ _ h))
right_agrees r scope scene want given (malloc s n w) is h =
    made_agrees (same_kind want (made w)) (is_fine scope.structs Role.Made w) (type_fine r scope [] Role.Made w (right _ _ _ (left _ _ _ h)))
    (well _ _ s.first.token TypeMismatch (subst (λ g. Held r (fault_unless (is_made g w || not (is_fine scope.structs Role.Made w)) s.first.token TypeMismatch)) is (right _ _ _ h)))
