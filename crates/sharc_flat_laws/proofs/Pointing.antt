-- The modes of what has a type: what their lock paths name is in scope where that of the type's own paths is.
use Rattle.sharc_flat_laws.proofs.Imports.{◌≡◌, ℕ, zero, suc, ◌+◌, ◌-◌, ◌<◌, ◌==◌, Bool, true, false, cond, List, [], ◌∷◌, ◌++◌, length, map, take, drop, refl, ap, sym, ◌∙◌, subst, arith, lt-ltb, Option, Some, None, slice_index_or, AllByRecursion, find, option_or, Base, One, Through, Mode, Private, Locked, Racy, WrittenType, Named, Role, Kind, is_pointer, Entry, Entity, Numbered, entities_in, entity_at, is_told_by, numbered_from, positions_of, written_modes, first_depth, Resolution, named_at, declaration_at, variable_kind, IsFound, IsAmong, LevelStands, TypeStands, FirstNames, a_known_call, IsNamedLevel, IsNamedType, NodeFinding, Apart, finding_at, first_of, pointed, IsLeastAssignment, mode_found, Assignment, mode_at, PathReading, written, through, Targets, deeper, targets_from, entity_row, read, is_mutex, settled, field_target, otherwise_of, settled_modes, settled_in, settled_at, Sharing, private, locked, sharing_of, text_at, is_sibling_lock, PathNamedIn, PathIn, same_some, none_some}
use Rattle.sharc_ctype_laws.specs.WrittenTypes.{a_field, a_variable, a_global, a_function}

-- ---- levels
abbrev pub LevelGood : Resolution → List Entry → Option Mode → Type 0
LevelGood r names None = Unit {0}
LevelGood r names (Some mode) = PathIn r names (sharing_of mode)

abbrev pub TypeGood : Resolution → List Entry → WrittenType → Type 0
TypeGood r names w = AllByRecursion (LevelGood r names) w.ctype.levels

pub same_token : (t u : ℕ) → Named.Variable t ≡ Named.Variable u → t ≡ u
same_token t u e = cc

no_field : (t u : ℕ) → Named.Field t ≡ Named.Variable u → ⊥
no_field t u e = cc

pub no_global : (t u : ℕ) → Named.Global t ≡ Named.Variable u → ⊥
no_global t u e = cc

pub no_function : (t u : ℕ) → Named.Function t ≡ Named.Variable u → ⊥
no_function t u e = cc

pub no_known : (u : ℕ) → Named.Known ≡ Named.Variable u → ⊥
no_known u e = cc

-- the type of the variable that a first name names
first_kind : (r : Resolution) (token : ℕ) (text : List ℕ) (k : Kind) → FirstNames r token text k → (t : ℕ) → named_at r token ≡ Named.Variable t → variable_kind (declaration_at r t) ≡ k
first_kind r token text _ (a_field is at same) t n = absurd (no_field _ _ (sym is ∙ n))
first_kind r token text _ (a_variable is at same) t n = ap (λ x. variable_kind (declaration_at r x)) (same_token _ _ (sym n ∙ is)) ∙ ap variable_kind at
first_kind r token text _ (a_global is at same) t n = absurd (no_global _ _ (sym is ∙ n))
first_kind r token text _ (a_function is at same other) t n = absurd (no_function _ _ (sym is ∙ n))
first_kind r token text _ (a_known_call c is same) t n = absurd (no_known _ (sym is ∙ n))

named_in : (r : Resolution) (names : List Entry) (m : List ℕ) (w : Named) → IsAmong names w → ((t : ℕ) → w ≡ Named.Variable t → is_pointer (variable_kind (declaration_at r t)) ≡ true) → PathNamedIn r names w (Some m)
named_in r names m (Named.Variable t) s p = (s, p t refl)
named_in r names m _ s p = tt

pub alone_in : (r : Resolution) (names : List Entry) (w : Named) → PathNamedIn r names w None
alone_in r names (Named.Field t) = tt
alone_in r names _ = tt

level_good : (r : Resolution) (names : List Entry) (level : Option Mode) → LevelStands r names level → IsNamedLevel r level → LevelGood r names level
level_good r names (Some (Locked (One m token))) s n = alone_in r names (named_at r token)
level_good r names (Some (Locked (Through x token m))) s n = named_in r names m (named_at r token) s (λ t is. ap is_pointer (first_kind r token x _ n.2 t is) ∙ lt-ltb 0 1 (omega arith))
level_good r names _ s n = tt

levels_good : (r : Resolution) (names : List Entry) (levels : List (Option Mode)) → AllByRecursion (LevelStands r names) levels → AllByRecursion (IsNamedLevel r) levels → AllByRecursion (LevelGood r names) levels
levels_good r names [] s n = tt
levels_good r names (x ∷ rest) s n = (level_good r names x s.0 n.0, levels_good r names rest s.1 n.1)

pub type_good : (r : Resolution) (names : List Entry) (w : WrittenType) → TypeStands r names w → IsNamedType r w → TypeGood r names w
type_good r names w s n = levels_good r names w.ctype.levels s n.levels

-- ---- what is settled
module _ (r : Resolution) (names : List Entry) where
  abbrev Good : Option Mode → Type 0
  Good = LevelGood r names

  settled_one : (b : Bool) (level otherwise : Option Mode) → Good level → Good otherwise → Good (cond b (Some Racy) (option_or level otherwise))
  settled_one true level otherwise h o = tt
  settled_one false None otherwise h o = o
  settled_one false (Some m) otherwise h o = h

  settled_all : (b : Base) (otherwise : Option Mode) (levels : List (Option Mode)) → Good otherwise → AllByRecursion Good levels → AllByRecursion Good (settled b otherwise levels)
  settled_all b otherwise [] o h = tt
  settled_all b otherwise (level ∷ below) o h = (settled_one (is_mutex b below) level otherwise h.0 o, settled_all b otherwise below o h.1)

  target_good : (levels : List (Option Mode)) → AllByRecursion Good levels → Good (Some (field_target levels))
  target_good (Some m ∷ below) h = h.0
  target_good _ h = tt

  otherwise_good : (where_ : Role) (levels : List (Option Mode)) → AllByRecursion Good levels → Good (otherwise_of where_ levels)
  otherwise_good Role.Field levels h = target_good levels h
  otherwise_good _ levels h = tt

  dropped : (n : ℕ) (levels : List (Option Mode)) → AllByRecursion Good levels → AllByRecursion Good (drop n levels)
  dropped zero levels h = h
  dropped (suc n) [] h = tt
  dropped (suc n) (x ∷ rest) h = dropped n rest h.1

  pub entity_good : (e : Entity) → TypeGood r names e.written → AllByRecursion Good (settled_modes e)
  entity_good e h = settled_all e.written.ctype.base (otherwise_of e.role e.written.ctype.levels) (written_modes e) (otherwise_good e.role e.written.ctype.levels h) (dropped (first_depth e.role) e.written.ctype.levels h)

  one_good : (list : List (Option Mode)) (k : ℕ) → AllByRecursion Good list → Good (slice_index_or list k (Some Private))
  one_good [] k h = tt
  one_good (x ∷ rest) zero h = h.0
  one_good (x ∷ rest) (suc k) h = one_good rest k h.1

  found_good : (level : Option Mode) (finding : NodeFinding) → Good level → PathIn r names (sharing_of (mode_found level finding))
  found_good (Some mode) finding h = h
  found_good None Apart h = tt
  found_good None _ h = tt

-- ---- positions
settled_length : (b : Base) (otherwise : Option Mode) (levels : List (Option Mode)) → length (settled b otherwise levels) ≡ length levels
settled_length b otherwise [] = refl
settled_length b otherwise (x ∷ below) = ap suc (settled_length b otherwise below)

in_left : (a b : List (Option Mode)) (k : ℕ) → k < length a → slice_index_or (a ++ b) k (Some Private) ≡ slice_index_or a k (Some Private)
in_left [] b k low = absurd (omega (arith, low))
in_left (x ∷ a) b zero low = refl
in_left (x ∷ a) b (suc k) low = in_left a b k (omega (arith, low))

in_right : (a b : List (Option Mode)) (j k : ℕ) → j ≡ length a + k → slice_index_or (a ++ b) j (Some Private) ≡ slice_index_or b k (Some Private)
in_right [] b j k e = let z : j ≡ k = omega (arith, e) in ap (λ i. slice_index_or b i (Some Private)) z
in_right (x ∷ a) b zero k e = absurd (omega (arith, e))
in_right (x ∷ a) b (suc j) k e = in_right a b j k (omega (arith, e))

-- an entity is at its positions
pub record Position (list : List Entity) (s : ℕ) (n : Numbered) : Type 0 where
  pub skip : ℕ
  pub first : n.first ≡ s + skip
  pub levels : (k : ℕ) → k < positions_of n.entity → slice_index_or (settled_in list) (skip + k) (Some Private) ≡ slice_index_or (settled_modes n.entity) k (Some Private)

pub position_of : (test : Numbered → Bool) (list : List Entity) (s : ℕ) (n : Numbered) → find test (numbered_from s list) ≡ Some n → Position list s n
position_of test [] s n h = absurd (none_some n h)
position_of test (e ∷ rest) s n h = by (test (record { entity = e; first = s })) (position_of test rest (s + positions_of e) n) h
  where
    size : length (settled_modes e) ≡ positions_of e
    size = settled_length e.written.ctype.base (otherwise_of e.role e.written.ctype.levels) (written_modes e)

    here : Position (e ∷ rest) s (record { entity = e; first = s })
    here = record {
      skip = 0;
      first = omega arith;
      levels = λ k low. let z : 0 + k ≡ k = omega arith in ap (λ i. slice_index_or (settled_modes e ++ settled_in rest) i (Some Private)) z ∙ in_left (settled_modes e) (settled_in rest) k (omega (arith, low, size));
    }

    later : Position rest (s + positions_of e) n → Position (e ∷ rest) s n
    later w = let first = w.first in record {
      skip = positions_of e + w.skip;
      first = omega (arith, first);
      levels = λ k low. in_right (settled_modes e) (settled_in rest) (positions_of e + w.skip + k) (w.skip + k) (omega (arith, size)) ∙ w.levels k low;
    }

    by : (b : Bool) → (find test (numbered_from (s + positions_of e) rest) ≡ Some n → Position rest (s + positions_of e) n)
        → cond b (Some (record { entity = e; first = s })) (find test (numbered_from (s + positions_of e) rest)) ≡ Some n → Position (e ∷ rest) s n
    by true more h = subst (Position (e ∷ rest) s) (same_some _ _ h) here
    by false more h = later (more h)

at_one : (Q : Mode → Type 0) (list : List Mode) (p : ℕ) → Q Private → (p < length list → Q (slice_index_or list p Private)) → Q (slice_index_or list p Private)
at_one Q [] p q f = q
at_one Q (x ∷ rest) zero q f = f (omega arith)
at_one Q (x ∷ rest) (suc p) q f = at_one Q rest p q (λ low. f (omega (arith, low)))

pub mode_good : (m : Assignment) → IsLeastAssignment m → (names : List Entry) (n : Numbered) → Position (entities_in m.typed.program.items) 0 n → TypeGood m.typed names n.entity.written
    → (k : ℕ) → k < positions_of n.entity → PathIn m.typed names (mode_at m (n.first + k))
mode_good m least names n w good k low =
    let first = w.first in
    let z : n.first + k ≡ w.skip + k = omega (arith, first) in
    at_one (λ mode. PathIn m.typed names (sharing_of mode)) m.modes (n.first + k) tt
    (λ inside. let size = least.modes in
    subst (λ mode. PathIn m.typed names (sharing_of mode)) (sym (least.mode (n.first + k) (omega (arith, inside, size))))
    (found_good m.typed names (settled_at m.typed (n.first + k)) (finding_at least.findings (n.first + k))
    (subst (LevelGood m.typed names) (sym (ap (λ p. slice_index_or (settled_in (entities_in m.typed.program.items)) p (Some Private)) z ∙ w.levels k low))
    (one_good m.typed names (settled_modes n.entity) k (entity_good m.typed names n.entity good)))))

-- ---- rows
abbrev pub GoodRow : Assignment → List Entry → Targets → Type 0
GoodRow m names row = (k : ℕ) → k < row.count → PathIn m.typed names (read m.typed row.reading (mode_at m (row.first + k)))

pub deeper_good : (m : Assignment) (names : List Entry) (row : Targets) → GoodRow m names row → GoodRow m names (deeper row)
deeper_good m names row g = by (row.count == 0)
  where
    by : (b : Bool) → GoodRow m names (cond b row (record { first = row.first + 1; count = row.count - 1; reading = row.reading }))
    by true = g
    by false = λ k low. let z : row.first + (k + 1) ≡ row.first + 1 + k = omega arith in subst (λ p. PathIn m.typed names (read m.typed row.reading (mode_at m p))) z (g (k + 1) (omega (arith, low)))

first_taken : (Q : Sharing → Type 0) (f : Mode → Sharing) (count first : ℕ) (list : List Mode) → Q private → (0 < count → Q (f (slice_index_or list first Private))) → Q (first_of (map f (take count (drop first list))))
first_taken Q f zero zero [] q h = q
first_taken Q f (suc c) zero (x ∷ xs) q h = h (omega arith)
first_taken Q f zero (suc n) (x ∷ xs) q h = first_taken Q f zero n xs q h
first_taken Q f (suc c) (suc n) (x ∷ xs) q h = first_taken Q f (suc c) n xs q h
first_taken Q f _ _ _ q h = q

pub pointed_good : (m : Assignment) (names : List Entry) (row : Targets) → GoodRow m names row → PathIn m.typed names (pointed m (Some row))
pointed_good m names row g =
    first_taken (PathIn m.typed names) (λ mode. read m.typed row.reading (sharing_of mode)) row.count row.first m.modes tt
    (λ low. let z : row.first + 0 ≡ row.first = omega arith in subst (λ p. PathIn m.typed names (read m.typed row.reading (mode_at m p))) z (g 0 low))

-- what a reading leaves in scope
abbrev pub Reads : Resolution → List Entry → PathReading → Type 0
Reads r names how = (s : Sharing) → PathIn r names s → PathIn r names (read r how s)

pub reads_written : (r : Resolution) (names : List Entry) → Reads r names written
reads_written r names (locked l) h = h
reads_written r names _ h = tt

pub reads_through : (r : Resolution) (names : List Entry) (at : ℕ) → ((m : List ℕ) → PathNamedIn r names (named_at r at) (Some m)) → Reads r names (through at)
reads_through r names at p (locked l) h = by (is_sibling_lock r l)
  where
    by : (b : Bool) → PathIn r names (locked (cond b (record { first = at; second = Some (text_at r l.first) }) l))
    by true = p (text_at r l.first)
    by false = h
reads_through r names at p _ h = tt

pub entity_row_good : (m : Assignment) → IsLeastAssignment m → (names : List Entry) (how : PathReading) → Reads m.typed names how → (n : Numbered) → Position (entities_in m.typed.program.items) 0 n → TypeGood m.typed names n.entity.written
    → GoodRow m names (entity_row how (Some n))
entity_row_good m least names how reads n w good = by n.entity.role
  where
    whole : Targets
    whole = record { first = n.first; count = positions_of n.entity; reading = how }

    all : GoodRow m names whole
    all k low = reads (mode_at m (n.first + k)) (mode_good m least names n w good k low)

    by : (where_ : Role) → GoodRow m names (targets_from where_ whole)
    by Role.Global = deeper_good m names whole all
    by _ = all

-- what has this type is found at these tokens
pub record HasEntity (r : Resolution) (first last : ℕ) (w : WrittenType) : Type 0 where
  pub numbered : Numbered
  pub found : entity_at r first last ≡ Some numbered
  pub written : numbered.entity.written ≡ w

pub has_entity : (r : Resolution) (e : Entity) → IsFound r e → HasEntity r e.token e.last e.written
has_entity r e f = record { numbered = f.numbered; found = f.found; written = ap (λ (x : Entity). x.written) f.itself }

pub good_row : (m : Assignment) → IsLeastAssignment m → (names : List Entry) (how : PathReading) → Reads m.typed names how → (first last : ℕ) (w : WrittenType) → HasEntity m.typed first last w → TypeGood m.typed names w
    → GoodRow m names (entity_row how (entity_at m.typed first last))
good_row m least names how reads first last w h good =
    subst (λ o. GoodRow m names (entity_row how o)) (sym h.found)
    (entity_row_good m least names how reads h.numbered (position_of (is_told_by first last) (entities_in m.typed.program.items) 0 h.numbered h.found) (subst (TypeGood m.typed names) (sym h.written) good))
