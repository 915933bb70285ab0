-- The lock path of the type of an element leads to a mutex: it is that of the type of the pointer through which the lvalue leads.
use Rattle.sharc_accepted_laws.proofs.{Imports.{◌≡◌, Bool, true, false, cond, List, ◌∷◌, refl, subst, Option, Some, None, AllByRecursion, Dot, Arrow, Dereference, expressions, Expression, parentheses, index, field, unary, is_array, Resolution, named_at, kind_at, modes_at, Lock, Sharing, locked, IsExpression, Context, PathNamed, IfThere, IsAccepted, LeadsToMutex, by_global, by_variable, AllLead, ExpressionsLead, AllStand, ExpressionStands, pointer_of, list_or, modes_of_pointer, LockLeads, to_global, to_variable, MutexesBehind, PathsLead, same_some, none_some, front}, Members.{first_of as self}}

-- the pointer is a part of the lvalue
module _ (r : Resolution) (P : Expression → Type 0) where
  pointer_inside : (e p : Expression) → pointer_of r e ≡ Some p → AllByRecursion P (expressions e) → AllByRecursion P (expressions p)
  pointer_inside (parentheses s a) p is all = pointer_inside a p is all.1
  pointer_inside (index s a i) p is all = by (is_array (kind_at r a)) is
    where
      by : (b : Bool) → cond b None (Some a) ≡ Some p → AllByRecursion P (expressions p)
      by true k = absurd (none_some p k)
      by false k = subst (λ x. AllByRecursion P (expressions x)) (same_some a p k) (front P (expressions a) (expressions i) all.1)
  pointer_inside (field s a Dot n) p is all = pointer_inside a p is all.1
  pointer_inside (field s a Arrow n) p is all = subst (λ x. AllByRecursion P (expressions x)) (same_some a p is) all.1
  pointer_inside (unary s Dereference a) p is all = subst (λ x. AllByRecursion P (expressions x)) (same_some a p is) all.1
  pointer_inside _ p is all = absurd (none_some p is)

module _ (behind : MutexesBehind) (c : Context) (a : IsAccepted c.program) where
  one_leads : (l : Lock) → LeadsToMutex c.program.typed l → PathNamed c.scope (named_at c.program.typed l.first) l.second → LockLeads c l
  one_leads l (by_global g names kind) stands = to_global g names kind
  one_leads l (by_variable x name struct names second w kind is) stands =
      let there = behind c a x name w struct kind is in
      to_variable x name names second (subst (λ n. PathNamed c.scope n (Some name)) names (subst (λ o. PathNamed c.scope (named_at c.program.typed l.first) o) second stands)) there.inside there.holds

pub paths_lead : ExpressionsLead → MutexesBehind → PathsLead
paths_lead lead behind c a e all stand l below modes mode = by (pointer_of c.program.typed e) refl modes
  where
    by_modes : (p : Expression) → AllByRecursion (IsExpression c.program) (expressions p) → (o : Option (List Sharing)) → modes_at c.program p ≡ o → IfThere (AllStand c.program c.scope) o → list_or o ≡ locked l ∷ below → LockLeads c l
    by_modes p inside None none stands h = absurd (cc)
    by_modes p inside (Some found) some stands h = one_leads behind c a l ((subst (AllLead c.program) h (lead c.program a p found inside some)).0 l refl) (subst (AllStand c.program c.scope) h stands).0

    by : (o : Option Expression) → pointer_of c.program.typed e ≡ o → modes_of_pointer c.program o ≡ locked l ∷ below → LockLeads c l
    by None is h = absurd (cc)
    by (Some p) is h =
        by_modes p (pointer_inside c.program.typed (IsExpression c.program) e p is all) (modes_at c.program p) refl
        (self (ExpressionStands c) p (pointer_inside c.program.typed (ExpressionStands c) e p is stand)) h
