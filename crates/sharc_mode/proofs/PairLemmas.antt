-- Which positions the links join.
use Rattle.sharc_mode.proofs.{Imports.{◌≡◌, ◌⊎◌, ℕ, zero, suc, ◌+◌, ◌-◌, ◌<◌, min, Bool, true, false, List, [], ◌∷◌, Option, Some, None, refl, ap, sym, subst, inl, inr, arith, cases_lt, false≢true, Contains, flat_map, Link, link_of, equal_links, below_links, Span, WrittenType, in_function, Expression, identifier, constant, parentheses, call, spawn, on_value, on_place, cast, index, field, unary, binary, Function, Item, structure, global, function, entities_in, numbered, positions_of, Resolution, function_transfers, equal_rows, levels_down, receiver_row, source_row, transfer_links, cast_links, function_links, item_links, links_of, AreGiven, AreCast, AreLevel, AreEquated, IsBelow, Targets, cast_row, row_at, behind}, MemberLemmas.{Has, has_left, has_right, has_cases, has_contained, contained, has_source, has_made}}

-- among the links
abbrev pub HasLink : ℕ → ℕ → Bool → List Link → Type 0
HasLink x y below links = Has (λ z. z ≡ link_of x y below) links

record Same (a b : ℕ) (c : Bool) (x y : ℕ) (d : Bool) : Type 0 where
  from : a ≡ x
  to : b ≡ y
  below : c ≡ d

same_link : (a b : ℕ) (c : Bool) (x y : ℕ) (d : Bool) → link_of a b c ≡ link_of x y d → Same a b c x y d
same_link a b c x y d is = record { from = ap (λ (l : Link). l.edge.from) is; to = ap (λ (l : Link). l.edge.to) is; below = ap (λ (l : Link). l.below) is }

-- ---- from each level to the one below
record BelowIn (first depths x y : ℕ) (b : Bool) : Type 0 where
  depth : ℕ
  inside : depth < depths
  from : x ≡ first + depth
  to : y ≡ first + depth + 1
  below : b ≡ true

below_parts : (first depths x y : ℕ) (b : Bool) → HasLink x y b (below_links first depths) → BelowIn first depths x y b
below_parts first zero x y b h = absurd h
below_parts first (suc n) x y b h =
    elim (has_cases (λ z. z ≡ link_of x y b) (below_links first n) (link_of (first + n) (first + n + 1) true ∷ []) h) [
      | inl before ↦ let p = below_parts first n x y b before in let inside = p.inside in record { depth = p.depth; inside = omega arith; from = p.from; to = p.to; below = p.below }
      | inr last ↦ elim last [
        | inl is ↦ let s = same_link (first + n) (first + n + 1) true x y b is in record { depth = n; inside = omega arith; from = sym s.from; to = sym s.to; below = sym s.below }
        | inr none ↦ absurd none
      ]
    ]

below_made : (first depths depth : ℕ) → depth < depths → HasLink (first + depth) (first + depth + 1) true (below_links first depths)
below_made first zero depth inside = absurd (omega arith)
below_made first (suc n) depth inside =
    let P : Link → Type 0 = λ z. z ≡ link_of (first + depth) (first + depth + 1) true in
    let last : List Link = link_of (first + n) (first + n + 1) true ∷ [] in
    elim (cases_lt depth n) [
      | inl less ↦ has_left P (below_links first n) last (below_made first n depth less)
      | inr least ↦ let same : n ≡ depth = omega arith in has_right P (below_links first n) last (inl (ap (λ d. link_of (first + d) (first + d + 1) true) same))
    ]

-- ---- two types that are equal
record EqualIn (a b depths x y : ℕ) (below : Bool) : Type 0 where
  depth : ℕ
  inside : depth < depths
  ends : ((x ≡ a + depth) × (y ≡ b + depth)) ⊎ ((x ≡ b + depth) × (y ≡ a + depth))
  level : below ≡ false

equal_parts : (a b depths x y : ℕ) (c : Bool) → HasLink x y c (equal_links a b depths) → EqualIn a b depths x y c
equal_parts a b zero x y c h = absurd h
equal_parts a b (suc n) x y c h =
    elim (has_cases (λ z. z ≡ link_of x y c) (equal_links a b n) (link_of (a + n) (b + n) false ∷ link_of (b + n) (a + n) false ∷ []) h) [
      | inl before ↦ let p = equal_parts a b n x y c before in let inside = p.inside in record { depth = p.depth; inside = omega arith; ends = p.ends; level = p.level }
      | inr last ↦ elim last [
        | inl is ↦ let s = same_link (a + n) (b + n) false x y c is in record { depth = n; inside = omega arith; ends = inl (sym s.from, sym s.to); level = sym s.below }
        | inr second ↦ elim second [
          | inl is ↦ let s = same_link (b + n) (a + n) false x y c is in record { depth = n; inside = omega arith; ends = inr (sym s.from, sym s.to); level = sym s.below }
          | inr none ↦ absurd none
        ]
      ]
    ]

equal_made : (a b depths depth : ℕ) → depth < depths → HasLink (a + depth) (b + depth) false (equal_links a b depths) × HasLink (b + depth) (a + depth) false (equal_links a b depths)
equal_made a b zero depth inside = absurd (omega arith)
equal_made a b (suc n) depth inside =
    let P : Link → Type 0 = λ z. z ≡ link_of (a + depth) (b + depth) false in
    let Q : Link → Type 0 = λ z. z ≡ link_of (b + depth) (a + depth) false in
    let last : List Link = link_of (a + n) (b + n) false ∷ link_of (b + n) (a + n) false ∷ [] in
    elim (cases_lt depth n) [
      | inl less ↦ let p = equal_made a b n depth less in (has_left P (equal_links a b n) last p.0, has_left Q (equal_links a b n) last p.1)
      | inr least ↦
          let same : n ≡ depth = omega arith in
          (has_right P (equal_links a b n) last (inl (ap (λ d. link_of (a + d) (b + d) false) same)), has_right Q (equal_links a b n) last (inr (inl (ap (λ d. link_of (b + d) (a + d) false) same))))
    ]

-- ---- rows
record RowsJoin (a b : Option Targets) (x y : ℕ) (below : Bool) : Type 0 where
  left : Targets
  right : Targets
  is_left : a ≡ Some left
  is_right : b ≡ Some right
  ends : AreLevel left right x y ⊎ AreLevel left right y x
  level : below ≡ false

rows_parts : (a b : Option Targets) (x y : ℕ) (c : Bool) → HasLink x y c (equal_rows a b) → RowsJoin a b x y c
rows_parts None b x y c h = absurd h
rows_parts (Some a) None x y c h = absurd h
rows_parts (Some a) (Some b) x y c h =
    let p = equal_parts a.first b.first (min a.count b.count) x y c h in
    let inside = p.inside in
    let left : p.depth < a.count = omega arith in
    let right : p.depth < b.count = omega arith in
    record {
      left = a;
      right = b;
      is_left = refl;
      is_right = refl;
      ends = elim p.ends [
        | inl e ↦ inl (record { depth = p.depth; left = left; right = right; first = e.0; second = e.1 })
        | inr e ↦ inr (record { depth = p.depth; left = left; right = right; first = e.1; second = e.0 })
      ];
      level = p.level;
    }

rows_made : (a b : Option Targets) (left right : Targets) (x y : ℕ) → a ≡ Some left → b ≡ Some right → AreLevel left right x y → HasLink x y false (equal_rows a b) × HasLink y x false (equal_rows a b)
rows_made a b left right x y is_left is_right level =
    let inside : level.depth < min left.count right.count = let l = level.left in let r = level.right in omega arith in
    let made = equal_made left.first right.first (min left.count right.count) level.depth inside in
    let P : ℕ → ℕ → Type 0 = λ p q. HasLink p q false (equal_links left.first right.first (min left.count right.count)) × HasLink q p false (equal_links left.first right.first (min left.count right.count)) in
    let here : P x y = subst (λ p. P p y) (sym level.first) (subst (P (left.first + level.depth)) (sym level.second) made) in
    let Q : Option Targets → Option Targets → Type 0 = λ p q. HasLink x y false (equal_rows p q) × HasLink y x false (equal_rows p q) in
    subst (λ p. Q p b) (sym is_left) (subst (Q (Some left)) (sym is_right) here)

-- ---- casts
record CastOf (r : Resolution) (e : Expression) (x y : ℕ) (below : Bool) : Type 0 where
  span : Span
  written : WrittenType
  operand : Expression
  is : e ≡ cast span written operand
  join : RowsJoin (behind (Some (cast_row r span))) (behind (row_at r operand)) x y below

cast_parts : (r : Resolution) (e : Expression) (x y : ℕ) (c : Bool) → HasLink x y c (cast_links r e) → CastOf r e x y c
cast_parts r (identifier s i) x y c h = absurd h
cast_parts r (constant s k) x y c h = absurd h
cast_parts r (parentheses s a) x y c h = absurd h
cast_parts r (call s f all) x y c h = absurd h
cast_parts r (spawn s f a) x y c h = absurd h
cast_parts r (on_value s w a) x y c h = absurd h
cast_parts r (on_place s w a) x y c h = absurd h
cast_parts r (cast s t a) x y c h = record { span = s; written = t; operand = a; is = refl; join = rows_parts (behind (Some (cast_row r s))) (behind (row_at r a)) x y c h }
cast_parts r (index s a i) x y c h = absurd h
cast_parts r (field s a w n) x y c h = absurd h
cast_parts r (unary s o a) x y c h = absurd h
cast_parts r (binary s o at a b) x y c h = absurd h

-- ---- one program
module _ (r : Resolution) (x y : ℕ) where
  in_levels : (c : Bool) → HasLink x y c (flat_map levels_down (numbered (entities_in r.program.items))) → IsBelow r x y × (c ≡ true)
  in_levels c h =
      let found = contained (λ n. HasLink x y c (levels_down n)) (numbered (entities_in r.program.items)) (has_source (λ z. z ≡ link_of x y c) levels_down (numbered (entities_in r.program.items)) h) in
      let n = found.0 in
      let p = below_parts n.first (positions_of n.entity - 1) x y c found.2 in
      let inside = p.inside in
      (record { of = n; stands = found.1; depth = p.depth; inside = omega arith; first = p.from; second = p.to }, p.below)

  levels_in : IsBelow r x y → HasLink x y true (flat_map levels_down (numbered (entities_in r.program.items)))
  levels_in is =
      let n = is.of in
      let inside = is.inside in
      let made = below_made n.first (positions_of n.entity - 1) is.depth (omega arith) in
      let here : HasLink x y true (levels_down n) = subst (λ p. HasLink p y true (levels_down n)) (sym is.first) (subst (λ q. HasLink (n.first + is.depth) q true (levels_down n)) (sym is.second) made) in
      has_made (λ z. z ≡ link_of x y true) levels_down (numbered (entities_in r.program.items)) (has_contained (λ k. HasLink x y true (levels_down k)) (numbered (entities_in r.program.items)) n is.stands here)

  equated : (a b : Targets) → AreGiven r a b ⊎ AreCast r a b → AreLevel a b x y ⊎ AreLevel a b y x → AreEquated r x y
  equated a b types (inl level) = inl (record { a = a; b = b; types = types; level = level })
  equated a b types (inr level) = inr (record { a = a; b = b; types = types; level = level })

  in_function_links : (f : Function) → Contains r.program.items (function f) → (c : Bool) → HasLink x y c (function_links r f) → AreEquated r x y × (c ≡ false)
  in_function_links f stands c h =
      elim (has_cases (λ z. z ≡ link_of x y c) (flat_map (transfer_links r f) (function_transfers r f)) (flat_map (cast_links r) (in_function f)) h) [
        | inl given ↦
            let found = contained (λ t. HasLink x y c (transfer_links r f t)) (function_transfers r f) (has_source (λ z. z ≡ link_of x y c) (transfer_links r f) (function_transfers r f) given) in
            let t = found.0 in
            let p = rows_parts (receiver_row r f t.receiver) (source_row r t.source) x y c found.2 in
            (equated p.left p.right (inl (record { owner = f; stands = stands; transfer = t; does = found.1; receiver = p.is_left; source = p.is_right })) p.ends, p.level)
        | inr casts ↦
            let found = contained (λ e. HasLink x y c (cast_links r e)) (in_function f) (has_source (λ z. z ≡ link_of x y c) (cast_links r) (in_function f) casts) in
            let q = cast_parts r found.0 x y c found.2 in
            let p = q.join in
            (equated p.left p.right (inr (record { owner = f; stands = stands; span = q.span; written = q.written; operand = q.operand; does = subst (Contains (in_function f)) q.is found.1; receiver = p.is_left; source = p.is_right })) p.ends, p.level)
      ]

  in_item : (i : Item) → Contains r.program.items i → (c : Bool) → HasLink x y c (item_links r i) → AreEquated r x y × (c ≡ false)
  in_item (structure s) stands c h = absurd h
  in_item (global g) stands c h = absurd h
  in_item (function f) stands c h = in_function_links f stands c h

  in_items : (c : Bool) → HasLink x y c (flat_map (item_links r) r.program.items) → AreEquated r x y × (c ≡ false)
  in_items c h =
      let found = contained (λ i. HasLink x y c (item_links r i)) r.program.items (has_source (λ z. z ≡ link_of x y c) (item_links r) r.program.items h) in
      in_item found.0 found.1 c found.2

  from_links : (c : Bool) → HasLink x y c (links_of r) → (IsBelow r x y × (c ≡ true)) ⊎ (AreEquated r x y × (c ≡ false))
  from_links c h =
      elim (has_cases (λ z. z ≡ link_of x y c) (flat_map levels_down (numbered (entities_in r.program.items))) (flat_map (item_links r) r.program.items) h) [
        | inl levels ↦ inl (in_levels c levels)
        | inr items ↦ inr (in_items c items)
      ]

  of_item : (f : Function) → Contains r.program.items (function f) → (p q : ℕ) → HasLink p q false (function_links r f) → HasLink p q false (links_of r)
  of_item f stands p q h =
      has_right (λ z. z ≡ link_of p q false) (flat_map levels_down (numbered (entities_in r.program.items))) (flat_map (item_links r) r.program.items)
      (has_made (λ z. z ≡ link_of p q false) (item_links r) r.program.items (has_contained (λ i. HasLink p q false (item_links r i)) r.program.items (function f) stands h))

  types_in : (a b : Targets) → AreGiven r a b ⊎ AreCast r a b → AreLevel a b x y → HasLink x y false (links_of r) × HasLink y x false (links_of r)
  types_in a b (inl given) level =
      let f = given.owner in
      let t = given.transfer in
      let both = rows_made (receiver_row r f t.receiver) (source_row r t.source) a b x y given.receiver given.source level in
      let lift : (p q : ℕ) → HasLink p q false (transfer_links r f t) → HasLink p q false (links_of r) =
      λ p q h. of_item f given.stands p q
      (has_left (λ z. z ≡ link_of p q false) (flat_map (transfer_links r f) (function_transfers r f)) (flat_map (cast_links r) (in_function f))
      (has_made (λ z. z ≡ link_of p q false) (transfer_links r f) (function_transfers r f) (has_contained (λ u. HasLink p q false (transfer_links r f u)) (function_transfers r f) t given.does h))) in
      (lift x y both.0, lift y x both.1)
  types_in a b (inr casts) level =
      let f = casts.owner in
      let e = cast casts.span casts.written casts.operand in
      let both = rows_made (behind (Some (cast_row r casts.span))) (behind (row_at r casts.operand)) a b x y casts.receiver casts.source level in
      let lift : (p q : ℕ) → HasLink p q false (cast_links r e) → HasLink p q false (links_of r) =
      λ p q h. of_item f casts.stands p q
      (has_right (λ z. z ≡ link_of p q false) (flat_map (transfer_links r f) (function_transfers r f)) (flat_map (cast_links r) (in_function f))
      (has_made (λ z. z ≡ link_of p q false) (cast_links r) (in_function f) (has_contained (λ u. HasLink p q false (cast_links r u)) (in_function f) e casts.does h))) in
      (lift x y both.0, lift y x both.1)

contains_link : (links : List Link) (x y : ℕ) (c : Bool) → HasLink x y c links → Contains links (link_of x y c)
contains_link links x y c h = let found = contained (λ z. z ≡ link_of x y c) links h in subst (Contains links) found.2 found.1

has_link : (links : List Link) (x y : ℕ) (c : Bool) → Contains links (link_of x y c) → HasLink x y c links
has_link links x y c h = has_contained (λ z. z ≡ link_of x y c) links (link_of x y c) h refl

pub below_from : (r : Resolution) (x y : ℕ) → Contains (links_of r) (link_of x y true) → IsBelow r x y
below_from r x y h = elim (from_links r x y true (has_link (links_of r) x y true h)) [ inl is ↦ is.0 | inr not ↦ absurd (false≢true (sym not.1)) ]

pub below_to : (r : Resolution) (x y : ℕ) → IsBelow r x y → Contains (links_of r) (link_of x y true)
below_to r x y is =
    contains_link (links_of r) x y true (has_left (λ z. z ≡ link_of x y true) (flat_map levels_down (numbered (entities_in r.program.items))) (flat_map (item_links r) r.program.items) (levels_in r x y is))

pub equal_from : (r : Resolution) (x y : ℕ) → Contains (links_of r) (link_of x y false) → AreEquated r x y
equal_from r x y h = elim (from_links r x y false (has_link (links_of r) x y false h)) [ inl not ↦ absurd (false≢true not.1) | inr is ↦ is.0 ]

pub equal_to : (r : Resolution) (x y : ℕ) → AreEquated r x y → Contains (links_of r) (link_of x y false)
equal_to r x y (inl p) = contains_link (links_of r) x y false (types_in r x y p.a p.b p.types p.level).0
equal_to r x y (inr p) = contains_link (links_of r) x y false (types_in r y x p.a p.b p.types p.level).1
