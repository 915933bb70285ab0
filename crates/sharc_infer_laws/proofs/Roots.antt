-- A root is one thing to one function.
use Rattle.sharc_infer_laws.proofs.{Imports.{◌≡◌, ℕ, ◌<◌, ◌==◌, [], ◌∷◌, ◌++◌, length, Some, ap, sym, ◌∙◌, subst, arith, eqb-true, Contains, and_parts, All-from_recursion, All-contains, Contains-append_left, AllByRecursion, Declaration, GlobalDefinition, IsPlaced, Function, Named, Numbered, entities_in, is_told_by, numbered, entity_at, positions_of, Resolution, named_at, functions_in, function_at, global_at, locals_in_all, IsItself, NameThemselves, IsFirst, Touches, IsTouchedIn, IsPassedTo, some_and, at_get}, Numbers.{passes, one_at}, Owners.one_owner}

same_global : (n m : ℕ) → Named.Global n ≡ Named.Global m → n ≡ m
same_global n m is = cc

not_variable : (n m : ℕ) → Named.Global n ≡ Named.Variable m → ⊥
not_variable n m is = cc

module _ (r : Resolution) where
  -- two tokens whose declarations begin at one position are one
  one_token : (p s t : ℕ) → IsFirst r s p → IsFirst r t p → s ≡ t
  one_token p s t a b =
      let P : Numbered → Type 0 = λ n. (0 < positions_of n.entity) × (n.first ≡ p) in
      let left = some_and (entity_at r s s) P a in
      let right = some_and (entity_at r t t) P b in
      let same = one_at (is_told_by s s) (is_told_by t t) 0 (entities_in r.program.items) left.0 right.0 left.1 right.1 left.2.0 right.2.0 (left.2.1 ∙ sym right.2.1) in
      let first = passes (is_told_by s s) (numbered (entities_in r.program.items)) left.0 left.1 in
      let second = passes (is_told_by t t) (numbered (entities_in r.program.items)) right.0 right.1 in
      let here = eqb-true left.0.entity.token s (and_parts (left.0.entity.token == s) (left.0.entity.last == s) first).0 in
      let there = eqb-true right.0.entity.token t (and_parts (right.0.entity.token == t) (right.0.entity.last == t) second).0 in
      sym here ∙ ap (λ (n : Numbered). n.entity.token) same ∙ there

  -- a global with its place
  global_of : (p f : ℕ) (is : IsTouchedIn r p f) → (g : GlobalDefinition) × (global_at r is.global ≡ Some g) × IsFirst r g.declaration.name.site.token p
  global_of p f is = some_and (global_at r is.global) (λ (g : GlobalDefinition). IsFirst r g.declaration.name.site.token p) is.top

  pub touched : NameThemselves r → (p f g : ℕ) → IsTouchedIn r p f → IsTouchedIn r p g → f ≡ g
  touched names p f g a b =
      let left = global_of p f a in
      let right = global_of p g b in
      let token = one_token p left.0.declaration.name.site.token right.0.declaration.name.site.token left.2 right.2 in
      let same = same_global a.global b.global (sym (names.globals a.global left.0 left.1) ∙ ap (named_at r) token ∙ names.globals b.global right.0 right.1) in
      let low = a.least g (subst (Touches r g) (sym same) b.touches) in
      let high = b.least f (subst (Touches r f) same a.touches) in
      omega (arith, low, high)

  -- a parameter with its function and its place
  record HasParameter (p f : ℕ) : Type 0 where
    owner : Function
    declaration : Declaration
    is : function_at r f ≡ Some owner
    has : Contains owner.parameters declaration
    first : IsFirst r declaration.name.site.token p

  parameter_of : (p f : ℕ) → IsPassedTo r p f → HasParameter p f
  parameter_of p f is =
      let found = some_and (function_at r f) (λ (d : Function). (q : Declaration) × Contains d.parameters q × IsFirst r q.name.site.token p) is.parameter in
      record { owner = found.0; declaration = found.2.0; is = found.1; has = found.2.1; first = found.2.2 }

  pub passed : IsPlaced r.program → (p f g : ℕ) → IsPassedTo r p f → IsPassedTo r p g → f ≡ g
  passed placed p f g a b =
      let left = parameter_of p f a in
      let right = parameter_of p g b in
      let token = one_token p left.declaration.name.site.token right.declaration.name.site.token left.first right.first in
      one_owner r.program.tokens.list 0 (length r.program.tokens.list) r.program.items placed.follow placed.items f g left.declaration right.declaration
      (record { owner = left.owner; is = left.is; has = left.has }) (record { owner = right.owner; is = right.is; has = right.has }) token

  -- the name of a parameter names a variable
  is_variable : NameThemselves r → (p f : ℕ) (has : HasParameter p f) → named_at r has.declaration.name.site.token ≡ Named.Variable has.declaration.name.site.token
  is_variable names p f has =
      let Own : Function → Type 0 = λ d. AllByRecursion (IsItself r Named.Variable) (d.parameters ++ locals_in_all d.statements) in
      let own = at_get Own (functions_in r.program.items) f has.owner names.variables has.is in
      let all = All-from_recursion (IsItself r Named.Variable) (has.owner.parameters ++ locals_in_all has.owner.statements) own in
      (All-contains (IsItself r Named.Variable) (has.owner.parameters ++ locals_in_all has.owner.statements) has.declaration all (Contains-append_left has.owner.parameters (locals_in_all has.owner.statements) has.declaration has.has)).0

  pub apart : NameThemselves r → (p f g : ℕ) → IsTouchedIn r p f → IsPassedTo r p g → ⊥
  apart names p f g a b =
      let left = global_of p f a in
      let right = parameter_of p g b in
      let token = one_token p left.0.declaration.name.site.token right.declaration.name.site.token left.2 right.first in
      not_variable a.global right.declaration.name.site.token (sym (names.globals a.global left.0 left.1) ∙ ap (named_at r) token ∙ is_variable names p g right)
