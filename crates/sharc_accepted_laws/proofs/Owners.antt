-- The place of a field: its name stands in one struct alone, and there once.
use Rattle.sharc_accepted_laws.proofs.Imports.{◌≡◌, ⊎_elim, ℕ, zero, suc, ◌+◌, ◌<◌, ◌≤◌, ◌==◌, not, cond, List, [], ◌∷◌, length, refl, ap, sym, ◌∙◌, subst, arith, eq-eqb, Some, None, Contains, lt-ltb, le-ltb, ne_eqb, nat_lt, slice_get, unwrap_or, position_or_len, Token, Declaration, StructDefinition, Follow, declaration_spans, item_spans, PlacedDeclaration, PlacedDeclarations, PlacedItem, PlacedItems, Item, structure, global, function, structs_in, place_in, field_place_in, FieldsPlaced, same_some, none_some, head_or_tail, none_there, below_there}

-- the name of a declaration stands in its span
pub named_within : (all : List Token) (d : Declaration) → PlacedDeclaration all d → (d.span.first.token ≤ d.name.site.token) × (d.name.site.token ≤ d.span.last.token)
named_within all d ((_, (of_type, typed, _, (_, from, until, _))), _, _) = (omega (arith, of_type.order, typed, from), omega (arith, until))

-- one of declarations that follow one another stands from where they begin on, and below their end
one_within : (all : List Token) (from until : ℕ) (list : List Declaration) → Follow all from until (declaration_spans list) → PlacedDeclarations all list
    → (k : ℕ) (d : Declaration) → slice_get list k ≡ Some d → (from ≤ d.name.site.token) × (d.name.site.token < until)
one_within all from until [] follow placed k d is = absurd (none_some d is)
one_within all from until (x ∷ rest) (_, begins, ends, _) placed zero d is =
    let inside = named_within all x placed.0 in
    subst (λ (e : Declaration). (from ≤ e.name.site.token) × (e.name.site.token < until)) (same_some x d is) (omega (arith, inside.0, begins), omega (arith, inside.1, ends))
one_within all from until (x ∷ rest) (span, begins, _, follow) placed (suc k) d is =
    let more = one_within all (x.span.last.token + 1) until rest follow placed.1 k d is in
    (omega (arith, more.0, span.order, begins), more.1)

-- and no other of them has its token
first_named : (all : List Token) (from until : ℕ) (list : List Declaration) → Follow all from until (declaration_spans list) → PlacedDeclarations all list
    → (k : ℕ) (d : Declaration) → slice_get list k ≡ Some d → position_or_len (λ (e : Declaration). e.name.site.token == d.name.site.token) list ≡ k
first_named all from until [] follow placed k d is = absurd (none_some d is)
first_named all from until (x ∷ rest) follow placed zero d is =
    ap (λ b. cond (not b) (1 + position_or_len (λ (e : Declaration). e.name.site.token == d.name.site.token) rest) 0) (eq-eqb x.name.site.token d.name.site.token (ap (λ (e : Declaration). e.name.site.token) (same_some x d is)))
first_named all from until (x ∷ rest) follow placed (suc k) d is =
    let more = first_named all (x.span.last.token + 1) until rest follow.3 placed.1 k d is in
    let inside = (named_within all x placed.0).1 in
    let later = (one_within all (x.span.last.token + 1) until rest follow.3 placed.1 k d is).0 in
    let next : 1 + position_or_len (λ (e : Declaration). e.name.site.token == d.name.site.token) rest ≡ suc k = omega (arith, more) in
    ap (λ b. cond (not b) (1 + position_or_len (λ (e : Declaration). e.name.site.token == d.name.site.token) rest) 0) (ne_eqb x.name.site.token d.name.site.token (λ same. omega (arith, inside, later, same))) ∙ next

place_of : (all : List Token) (from until : ℕ) (list : List Declaration) → Follow all from until (declaration_spans list) → PlacedDeclarations all list
    → (k : ℕ) (d : Declaration) → slice_get list k ≡ Some d → place_in list d.name.site.token ≡ Some k
place_of all from until list follow placed k d is =
    ap (λ i. cond (nat_lt i (length list)) (Some i) None) (first_named all from until list follow placed k d is) ∙ ap (λ b. cond b (Some k) None) (lt-ltb k (length list) (below_there list k d is))

none_named : (list : List Declaration) (token : ℕ) → ((k : ℕ) (d : Declaration) → slice_get list k ≡ Some d → d.name.site.token < token) → position_or_len (λ (e : Declaration). e.name.site.token == token) list ≡ length list
none_named [] token low = refl
none_named (x ∷ rest) token low =
    let first = low zero x refl in
    let more = none_named rest token (λ k d is. low (suc k) d is) in
    let next : 1 + position_or_len (λ (e : Declaration). e.name.site.token == token) rest ≡ suc (length rest) = omega (arith, more) in
    ap (λ b. cond (not b) (1 + position_or_len (λ (e : Declaration). e.name.site.token == token) rest) 0) (ne_eqb x.name.site.token token (λ same. omega (arith, first, same))) ∙ next

none_of : (list : List Declaration) (token : ℕ) → ((k : ℕ) (d : Declaration) → slice_get list k ≡ Some d → d.name.site.token < token) → place_in list token ≡ None
none_of list token low =
    ap (λ i. cond (nat_lt i (length list)) (Some i) None) (none_named list token low) ∙ ap (λ b. cond b (Some (length list)) None) (le-ltb (length list) (length list) (omega arith))

-- a field stands in its struct
struct_within : (all : List Token) (s : StructDefinition) (k : ℕ) (d : Declaration) → PlacedItem all (structure s) → slice_get s.fields k ≡ Some d → (s.span.first.token ≤ d.name.site.token) × (d.name.site.token ≤ s.span.last.token)
struct_within all s k d ((_, (_, begins, _, follow)), _, placed) is =
    let inside = one_within all (s.name.site.token + 1) (s.span.last.token + 1) s.fields follow placed k d is in
    (omega (arith, inside.0, begins), omega (arith, inside.1))

-- from where the items begin on
owned_from : (all : List Token) (from until : ℕ) (items : List Item) → Follow all from until (item_spans items) → PlacedItems all items → (s : StructDefinition) (k : ℕ) (d : Declaration) → Contains (structs_in items) s → slice_get s.fields k ≡ Some d → from ≤ d.name.site.token
owned_from all from until [] follow placed s k d has is = absurd (none_there s has)
owned_from all from until (structure x ∷ rest) (span, begins, _, follow) placed s k d has is =
    ⊎_elim (λ same. omega (arith, begins, (struct_within all x k d placed.0 (subst (λ (z : StructDefinition). slice_get z.fields k ≡ Some d) (sym same) is)).0))
    (λ later. omega (arith, span.order, begins, owned_from all (x.span.last.token + 1) until rest follow placed.1 s k d later is)) (head_or_tail x s (structs_in rest) has)
owned_from all from until (global g ∷ rest) (span, begins, _, follow) placed s k d has is = omega (arith, span.order, begins, owned_from all (g.span.last.token + 1) until rest follow placed.1 s k d has is)
owned_from all from until (function f ∷ rest) (span, begins, _, follow) placed s k d has is = omega (arith, span.order, begins, owned_from all (f.span.last.token + 1) until rest follow placed.1 s k d has is)

pub place_is : (all : List Token) (from until : ℕ) (items : List Item) → Follow all from until (item_spans items) → PlacedItems all items → (s : StructDefinition) (k : ℕ) (d : Declaration) → Contains (structs_in items) s → slice_get s.fields k ≡ Some d
    → field_place_in (structs_in items) d.name.site.token ≡ k
place_is all from until [] follow placed s k d has is = absurd (none_there s has)
place_is all from until (structure x ∷ rest) follow placed s k d has is =
    ⊎_elim (λ same. let at = subst (λ (z : StructDefinition). slice_get z.fields k ≡ Some d) (sym same) is in
    ap (λ o. unwrap_or o (field_place_in (structs_in rest) d.name.site.token)) (place_of all (x.name.site.token + 1) (x.span.last.token + 1) x.fields placed.0.0.1.3 placed.0.2 k d at))
    (λ later. ap (λ o. unwrap_or o (field_place_in (structs_in rest) d.name.site.token)) (none_of x.fields d.name.site.token (λ j e at.
    let near = (struct_within all x j e placed.0 at).1 in
    let far = owned_from all (x.span.last.token + 1) until rest follow.3 placed.1 s k d later is in
    omega (arith, near, far)))
    ∙ place_is all (x.span.last.token + 1) until rest follow.3 placed.1 s k d later is) (head_or_tail x s (structs_in rest) has)
place_is all from until (global g ∷ rest) follow placed s k d has is = place_is all (g.span.last.token + 1) until rest follow.3 placed.1 s k d has is
place_is all from until (function f ∷ rest) follow placed s k d has is = place_is all (f.span.last.token + 1) until rest follow.3 placed.1 s k d has is

pub fields_placed : FieldsPlaced
fields_placed r placed s k d has is = place_is r.program.tokens.list 0 (length r.program.tokens.list) r.program.items placed.follow placed.items s k d has is
