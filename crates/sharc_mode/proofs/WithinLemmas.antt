-- The links join positions of the program.
use Rattle.sharc_mode.proofs.{Imports.{◌≡◌, ℕ, zero, suc, ◌+◌, ◌-◌, ◌<◌, ◌≤◌, min, Bool, true, false, cond, List, [], ◌∷◌, ◌++◌, Option, Some, None, subst, arith, ne_eqb, All-nil, All-cons, All-append, flat_map, All, IsWithin, Link, link_of, equal_links, below_links, Constant, Number, Character, Null, UnaryOperator, Negate, Not, Complement, Dereference, GlobalDefinition, in_function, Expression, identifier, constant, parentheses, call, spawn, on_value, on_place, cast, index, field, unary, binary, Right, value, malloc, Function, Item, structure, global, function, Named, Role, is_array, entities_in, entity_at, numbered_from, positions_of, positions_in, is_told_by, Resolution, named_at, global_at, function_at, kind_at, Receiver, lvalue, variable, result, function_transfers, Entity, Numbered, equal_rows, levels_down, receiver_row, source_row, transfer_links, cast_links, item_links, links_of, position_count, PathReading, written, Targets, no_row, deeper, targets_from, entity_row, declared_row, cast_row, global_row, named_row, result_row, called_row, behind, constant_row, reading_through, base_use, unary_row, row_at}, RowLemmas.{EndsBy, ends_by}}

abbrev pub AllWithin : ℕ → List Link → Type 0
AllWithin limit links = All (λ (link : Link). IsWithin limit link.edge) links

nothing : (limit : ℕ) → AllWithin limit []
nothing limit = All-nil (λ (link : Link). IsWithin limit link.edge)

one : (limit x y : ℕ) (below : Bool) (rest : List Link) → x < limit → y < limit → AllWithin limit rest → AllWithin limit (link_of x y below ∷ rest)
one limit x y below rest first second all = All-cons (λ (link : Link). IsWithin limit link.edge) (link_of x y below) rest (first, second) all

both : (limit : ℕ) (xs ys : List Link) → AllWithin limit xs → AllWithin limit ys → AllWithin limit (xs ++ ys)
both limit xs ys first second = All-append (λ (link : Link). IsWithin limit link.edge) xs ys first second

mapped : {A : Type 0} (limit : ℕ) (f : A → List Link) (xs : List A) → ((x : A) → AllWithin limit (f x)) → AllWithin limit (flat_map f xs)
mapped limit f [] each = nothing limit
mapped limit f (x ∷ xs) each = both limit (f x) (flat_map f xs) (each x) (mapped limit f xs each)

-- ---- levels
below_within : (limit first depths : ℕ) → first + depths < limit → AllWithin limit (below_links first depths)
below_within limit first zero ends = nothing limit
below_within limit first (suc n) ends =
    both limit (below_links first n) (link_of (first + n) (first + n + 1) true ∷ []) (below_within limit first n (omega arith)) (one limit (first + n) (first + n + 1) true [] (omega arith) (omega arith) (nothing limit))

level_within : (limit first positions : ℕ) → first + positions ≤ limit → AllWithin limit (below_links first (positions - 1))
level_within limit first zero ends = nothing limit
level_within limit first (suc n) ends = let e : suc n - 1 ≡ n = omega arith in rw e (below_within limit first n (omega arith))

levels_within : (limit k : ℕ) (list : List Entity) → k + positions_in list ≤ limit → AllWithin limit (flat_map levels_down (numbered_from k list))
levels_within limit k [] ends = nothing limit
levels_within limit k (e ∷ rest) ends =
    both limit (below_links k (positions_of e - 1)) (flat_map levels_down (numbered_from (k + positions_of e) rest)) (level_within limit k (positions_of e) (omega arith)) (levels_within limit (k + positions_of e) rest (omega arith))

-- ---- rows
abbrev pub Ends : ℕ → Targets → Type 0
Ends limit row = row.first + row.count ≤ limit

abbrev pub EndsIn : ℕ → Option Targets → Type 0
EndsIn limit None = Unit {0}
EndsIn limit (Some row) = Ends limit row

either : (limit : ℕ) (b : Bool) (x y : Targets) → Ends limit x → Ends limit y → Ends limit (cond b x y)
either limit true x y p q = p
either limit false x y p q = q

either_in : (limit : ℕ) (b : Bool) (x y : Option Targets) → EndsIn limit x → EndsIn limit y → EndsIn limit (cond b x y)
either_in limit true x y p q = p
either_in limit false x y p q = q

deeper_by : (limit first count : ℕ) (how : PathReading) → first + count ≤ limit → Ends limit (deeper (record { first = first; count = count; reading = how }))
deeper_by limit first zero how ends = ends
deeper_by limit first (suc n) how ends = rw (ne_eqb (suc n) 0 (λ is. omega (arith, is))) (omega arith)

deeper_ends : (limit : ℕ) (row : Targets) → Ends limit row → Ends limit (deeper row)
deeper_ends limit row ends = deeper_by limit row.first row.count row.reading ends

behind_ends : (limit : ℕ) (row : Option Targets) → EndsIn limit row → EndsIn limit (behind row)
behind_ends limit None ends = tt
behind_ends limit (Some row) ends = deeper_ends limit row ends

targets_end : (limit : ℕ) (what : Role) (row : Targets) → Ends limit row → Ends limit (targets_from what row)
targets_end limit Role.Global row ends = deeper_ends limit row ends
targets_end limit Role.Field row ends = ends
targets_end limit Role.Result row ends = ends
targets_end limit Role.Parameter row ends = ends
targets_end limit Role.Local row ends = ends
targets_end limit Role.Cast row ends = ends
targets_end limit Role.Made row ends = ends

no_row_ends : (limit : ℕ) → Ends limit no_row
no_row_ends limit = omega arith

entity_ends : (limit : ℕ) (how : PathReading) (found : Option Numbered) → EndsBy limit found → Ends limit (entity_row how found)
entity_ends limit how None ends = no_row_ends limit
entity_ends limit how (Some n) ends = targets_end limit n.entity.role (record { first = n.first; count = positions_of n.entity; reading = how }) ends

module _ (r : Resolution) where
  found_ends : (token last : ℕ) → EndsBy (position_count r) (entity_at r token last)
  found_ends token last =
      let same : 0 + positions_in (entities_in r.program.items) ≡ position_count r = omega arith in
      subst (λ n. EndsBy n (entity_at r token last)) same (ends_by (is_told_by token last) 0 (entities_in r.program.items))

  declared_ends : (how : PathReading) (token : ℕ) → Ends (position_count r) (declared_row r how token)
  declared_ends how token = entity_ends (position_count r) how (entity_at r token token) (found_ends token token)

  global_ends : (how : PathReading) (g : Option GlobalDefinition) → Ends (position_count r) (global_row r how g)
  global_ends how None = no_row_ends (position_count r)
  global_ends how (Some g) = declared_ends how g.declaration.name.site.token

  named_ends : (how : PathReading) (what : Named) → Ends (position_count r) (named_row r how what)
  named_ends how (Named.Struct n) = no_row_ends (position_count r)
  named_ends how (Named.Global n) = global_ends how (global_at r n)
  named_ends how (Named.Function n) = no_row_ends (position_count r)
  named_ends how (Named.Variable token) = declared_ends how token
  named_ends how (Named.Field token) = declared_ends how token
  named_ends how Named.Known = no_row_ends (position_count r)

  result_ends : (f : Option Function) → Ends (position_count r) (result_row r f)
  result_ends None = no_row_ends (position_count r)
  result_ends (Some f) = declared_ends written f.name.site.token

  called_ends : (what : Named) → Ends (position_count r) (called_row r what)
  called_ends (Named.Struct n) = no_row_ends (position_count r)
  called_ends (Named.Global n) = no_row_ends (position_count r)
  called_ends (Named.Function n) = result_ends (function_at r n)
  called_ends (Named.Variable token) = no_row_ends (position_count r)
  called_ends (Named.Field token) = no_row_ends (position_count r)
  called_ends Named.Known = no_row_ends (position_count r)

  constant_ends : (k : Constant) → EndsIn (position_count r) (constant_row k)
  constant_ends (Number n) = no_row_ends (position_count r)
  constant_ends (Character b) = no_row_ends (position_count r)
  constant_ends Null = tt

  unary_ends : (o : UnaryOperator) (row : Option Targets) → EndsIn (position_count r) row → EndsIn (position_count r) (unary_row o row)
  unary_ends Negate row ends = no_row_ends (position_count r)
  unary_ends Not row ends = no_row_ends (position_count r)
  unary_ends Complement row ends = no_row_ends (position_count r)
  unary_ends Dereference row ends = behind_ends (position_count r) row ends

  row_ends : (e : Expression) → EndsIn (position_count r) (row_at r e)
  row_ends (identifier s i) = named_ends written (named_at r i.site.token)
  row_ends (constant s k) = constant_ends k
  row_ends (parentheses s a) = row_ends a
  row_ends (call s f all) = called_ends (named_at r f.site.token)
  row_ends (spawn s f a) = no_row_ends (position_count r)
  row_ends (on_value s w a) = no_row_ends (position_count r)
  row_ends (on_place s w a) = no_row_ends (position_count r)
  row_ends (cast s t a) = entity_ends (position_count r) written (entity_at r s.first.token s.last.token) (found_ends s.first.token s.last.token)
  row_ends (index s a i) = either_in (position_count r) (is_array (kind_at r a)) (row_at r a) (behind (row_at r a)) (row_ends a) (behind_ends (position_count r) (row_at r a) (row_ends a))
  row_ends (field s a w n) = named_ends (reading_through (base_use r w a)) (named_at r n.site.token)
  row_ends (unary s o a) = unary_ends o (row_at r a) (row_ends a)
  row_ends (binary s o at a b) = no_row_ends (position_count r)

  -- ---- equal types
  equal_within : (a b depths : ℕ) → a + depths ≤ position_count r → b + depths ≤ position_count r → AllWithin (position_count r) (equal_links a b depths)
  equal_within a b zero left right = nothing (position_count r)
  equal_within a b (suc n) left right =
      let limit = position_count r in
      let first : a + n < limit = omega arith in
      let second : b + n < limit = omega arith in
      both limit (equal_links a b n) (link_of (a + n) (b + n) false ∷ link_of (b + n) (a + n) false ∷ []) (equal_within a b n (omega arith) (omega arith))
      (one limit (a + n) (b + n) false (link_of (b + n) (a + n) false ∷ []) first second (one limit (b + n) (a + n) false [] second first (nothing limit)))

  rows_within : (a b : Option Targets) → EndsIn (position_count r) a → EndsIn (position_count r) b → AllWithin (position_count r) (equal_rows a b)
  rows_within None b left right = nothing (position_count r)
  rows_within (Some a) None left right = nothing (position_count r)
  rows_within (Some a) (Some b) left right = equal_within a.first b.first (min a.count b.count) (omega arith) (omega arith)

  receiver_ends : (f : Function) (to : Receiver) → EndsIn (position_count r) (receiver_row r f to)
  receiver_ends f (lvalue u) = row_ends u
  receiver_ends f (variable d) = declared_ends written d.name.site.token
  receiver_ends f (result w) = declared_ends written f.name.site.token

  source_ends : (from : Right) → EndsIn (position_count r) (source_row r from)
  source_ends (value e) = row_ends e
  source_ends (malloc s n w) = tt

  cast_within : (e : Expression) → AllWithin (position_count r) (cast_links r e)
  cast_within (identifier s i) = nothing (position_count r)
  cast_within (constant s k) = nothing (position_count r)
  cast_within (parentheses s a) = nothing (position_count r)
  cast_within (call s f all) = nothing (position_count r)
  cast_within (spawn s f a) = nothing (position_count r)
  cast_within (on_value s w a) = nothing (position_count r)
  cast_within (on_place s w a) = nothing (position_count r)
  cast_within (cast s t a) =
      rows_within (behind (Some (cast_row r s))) (behind (row_at r a))
      (behind_ends (position_count r) (Some (cast_row r s)) (entity_ends (position_count r) written (entity_at r s.first.token s.last.token) (found_ends s.first.token s.last.token)))
      (behind_ends (position_count r) (row_at r a) (row_ends a))
  cast_within (index s a i) = nothing (position_count r)
  cast_within (field s a w n) = nothing (position_count r)
  cast_within (unary s o a) = nothing (position_count r)
  cast_within (binary s o at a b) = nothing (position_count r)

  item_within : (i : Item) → AllWithin (position_count r) (item_links r i)
  item_within (structure s) = nothing (position_count r)
  item_within (global g) = nothing (position_count r)
  item_within (function f) =
      both (position_count r) (flat_map (transfer_links r f) (function_transfers r f)) (flat_map (cast_links r) (in_function f))
      (mapped (position_count r) (transfer_links r f) (function_transfers r f) (λ t. rows_within (receiver_row r f t.receiver) (source_row r t.source) (receiver_ends f t.receiver) (source_ends t.source)))
      (mapped (position_count r) (cast_links r) (in_function f) cast_within)

  pub links_within : AllWithin (position_count r) (links_of r)
  links_within =
      both (position_count r) (flat_map levels_down (numbered_from 0 (entities_in r.program.items))) (flat_map (item_links r) r.program.items)
      (levels_within (position_count r) 0 (entities_in r.program.items) (omega arith)) (mapped (position_count r) (item_links r) r.program.items item_within)
