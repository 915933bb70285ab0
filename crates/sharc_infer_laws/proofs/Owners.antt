-- The name of a parameter lies in one function.
use Rattle.sharc_infer_laws.proofs.Imports.{◌≡◌, ℕ, zero, suc, ◌+◌, ◌<◌, ◌≤◌, List, [], ◌∷◌, ◌++◌, length, get_or, Some, None, refl, ap, sym, subst, arith, Contains, slice_get, Span, Token, Declaration, Follow, declaration_spans, item_spans, PlacedDeclaration, PlacedDeclarations, PlacedItem, PlacedItems, Function, Item, structure, global, function, functions_in}

-- the name of a declaration lies in its span
named_within : (all : List Token) (d : Declaration) → PlacedDeclaration all d → (d.span.first.token ≤ d.name.site.token) × (d.name.site.token ≤ d.span.last.token)
named_within all d placed =
    let parts = placed.0.1 in
    let order = parts.0.order in
    let type_from = parts.1 in
    let name = parts.3 in
    let from = name.1 in
    let until = name.2 in
    (omega (arith, order, type_from, from), omega (arith, until))

-- one of declarations that follow one another lies from where they begin on, and below their end
one_within : (all : List Token) (from until : ℕ) (list : List Declaration) (behind : List Span) → Follow all from until (declaration_spans list ++ behind) → PlacedDeclarations all list
    → (k : ℕ) (d : Declaration) → k < length list → get_or list k d ≡ d → (from ≤ d.name.site.token) × (d.name.site.token < until)
one_within all from until [] behind follow placed k d low is = absurd (omega (arith, low))
one_within all from until (x ∷ rest) behind follow placed zero d low is =
    let P : Declaration → Type 0 = λ e. (from ≤ e.name.site.token) × (e.name.site.token < until) in
    let inside = named_within all x placed.0 in
    let left = inside.0 in
    let right = inside.1 in
    let begins = follow.1 in
    let ends = follow.2 in
    subst P is (omega (arith, left, begins), omega (arith, right, ends))
one_within all from until (x ∷ rest) behind follow placed (suc k) d low is =
    let more = one_within all (x.span.last.token + 1) until rest behind follow.3 placed.1 k d (omega (arith, low)) is in
    let left = more.0 in
    let order = follow.0.order in
    let begins = follow.1 in
    (omega (arith, left, order, begins), more.1)

-- a parameter lies in its function
parameter_within : (all : List Token) (f : Function) (d : Declaration) → PlacedItem all (function f) → Contains f.parameters d → (f.span.first.token ≤ d.name.site.token) × (d.name.site.token ≤ f.span.last.token)
parameter_within all f d placed has =
    let parts = placed.0.1 in
    let result = parts.3 in
    let inside = one_within all (f.name.site.token + 1) (f.span.last.token + 1) f.parameters (f.body ∷ []) result.3 placed.3 has.0 d has.1 has.2 in
    let left = inside.0 in
    let right = inside.1 in
    let begins = parts.1 in
    let order = parts.0.order in
    let named = result.1 in
    (omega (arith, left, begins, order, named), omega (arith, right))

no_function : (f : Function) → None ≡ Some f → ⊥
no_function f is = cc

one_function : (f g : Function) → Some f ≡ Some g → f ≡ g
one_function f g is = cc

-- one of these functions has the parameter
pub record Owns (items : List Item) (n : ℕ) (d : Declaration) : Type 0 where
  pub owner : Function
  pub is : slice_get (functions_in items) n ≡ Some owner
  pub has : Contains owner.parameters d

head_within : (all : List Token) (from until : ℕ) (f : Function) (rest : List Item) (d : Declaration) → Follow all from until (item_spans (function f ∷ rest)) → PlacedItems all (function f ∷ rest)
    → Owns (function f ∷ rest) 0 d → (from ≤ d.name.site.token) × (d.name.site.token ≤ f.span.last.token)
head_within all from until f rest d follow placed own =
    let inside = parameter_within all f d placed.0 (subst (λ (g : Function). Contains g.parameters d) (sym (one_function f own.owner own.is)) own.has) in
    let left = inside.0 in
    let begins = follow.1 in
    (omega (arith, left, begins), inside.1)

behind_head : (f : Function) (rest : List Item) (n : ℕ) (d : Declaration) → Owns (function f ∷ rest) (suc n) d → Owns rest n d
behind_head f rest n d own = record { owner = own.owner; is = own.is; has = own.has }

-- what a function among them owns lies from where they begin on
owned_from : (all : List Token) (from until : ℕ) (items : List Item) → Follow all from until (item_spans items) → PlacedItems all items → (n : ℕ) (d : Declaration) → Owns items n d → from ≤ d.name.site.token
owned_from all from until [] follow placed n d own = absurd (no_function own.owner own.is)
owned_from all from until (structure s ∷ rest) follow placed n d own =
    let more = owned_from all (s.span.last.token + 1) until rest follow.3 placed.1 n d (record { owner = own.owner; is = own.is; has = own.has }) in
    let order = follow.0.order in
    let begins = follow.1 in
    omega (arith, more, order, begins)
owned_from all from until (global g ∷ rest) follow placed n d own =
    let more = owned_from all (g.span.last.token + 1) until rest follow.3 placed.1 n d (record { owner = own.owner; is = own.is; has = own.has }) in
    let order = follow.0.order in
    let begins = follow.1 in
    omega (arith, more, order, begins)
owned_from all from until (function f ∷ rest) follow placed zero d own = (head_within all from until f rest d follow placed own).0
owned_from all from until (function f ∷ rest) follow placed (suc n) d own =
    let more = owned_from all (f.span.last.token + 1) until rest follow.3 placed.1 n d (behind_head f rest n d own) in
    let order = follow.0.order in
    let begins = follow.1 in
    omega (arith, more, order, begins)

-- so two functions have no parameter at one token
pub one_owner : (all : List Token) (from until : ℕ) (items : List Item) → Follow all from until (item_spans items) → PlacedItems all items
    → (n m : ℕ) (d e : Declaration) → Owns items n d → Owns items m e → d.name.site.token ≡ e.name.site.token → n ≡ m
one_owner all from until [] follow placed n m d e own other same = absurd (no_function own.owner own.is)
one_owner all from until (structure s ∷ rest) follow placed n m d e own other same =
    one_owner all (s.span.last.token + 1) until rest follow.3 placed.1 n m d e (record { owner = own.owner; is = own.is; has = own.has }) (record { owner = other.owner; is = other.is; has = other.has }) same
one_owner all from until (global g ∷ rest) follow placed n m d e own other same =
    one_owner all (g.span.last.token + 1) until rest follow.3 placed.1 n m d e (record { owner = own.owner; is = own.is; has = own.has }) (record { owner = other.owner; is = other.is; has = other.has }) same
one_owner all from until (function f ∷ rest) follow placed zero zero d e own other same = refl
one_owner all from until (function f ∷ rest) follow placed zero (suc m) d e own other same =
    let near = (head_within all from until f rest d follow placed own).1 in
    let far = owned_from all (f.span.last.token + 1) until rest follow.3 placed.1 m e (behind_head f rest m e other) in
    absurd (omega (arith, near, far, same))
one_owner all from until (function f ∷ rest) follow placed (suc n) zero d e own other same =
    let near = (head_within all from until f rest e follow placed other).1 in
    let far = owned_from all (f.span.last.token + 1) until rest follow.3 placed.1 n d (behind_head f rest n d own) in
    absurd (omega (arith, near, far, same))
one_owner all from until (function f ∷ rest) follow placed (suc n) (suc m) d e own other same =
    ap suc (one_owner all (f.span.last.token + 1) until rest follow.3 placed.1 n m d e (behind_head f rest n d own) (behind_head f rest m e other) same)
