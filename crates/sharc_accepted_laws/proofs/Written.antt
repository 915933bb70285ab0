-- What holds of the modes that are written in a type, and of those that are never written, holds of the modes of all its positions.
use Rattle.sharc_accepted_laws.proofs.{Imports.{◌≡◌, ℕ, zero, suc, ◌+◌, ◌-◌, ◌<◌, ◌==◌, Bool, true, false, cond, not, ◌||◌, List, [], ◌∷◌, length, take, drop, refl, ap, sym, ◌∙◌, subst, arith, Option, Some, None, Contains, eqb-false, or_right, get_or as slice_index_or, AllByRecursion, find, option_or, Base, Mode, Private, Racy, Dynamic, Role, Entity, Numbered, entities_in, positions_of, written_modes, first_depth, NodeFinding, Apart, finding_at, IsLeastAssignment, mode_found, Assignment, PathReading, Targets, deeper, targets_from, entity_row, is_mutex, settled, field_target, otherwise_of, settled_modes, settled_in, settled_at, leaves_open, IsEntity, none_some}, Settling.{IsPositioned, positioned}}

-- ---- rows of modes
abbrev pub raw : Assignment → Targets → List Mode
raw m row = take row.count (drop row.first m.modes)

module _ {A : Type 0} (P : A → Type 0) where
  first_dropped : (c : ℕ) (xs : List A) → AllByRecursion P (take (suc c) xs) → AllByRecursion P (take c (drop 1 xs))
  first_dropped zero [] h = tt
  first_dropped (suc c) [] h = tt
  first_dropped zero (x ∷ xs) h = tt
  first_dropped (suc c) (x ∷ xs) h = h.1

  deeper_dropped : (f c : ℕ) (xs : List A) → AllByRecursion P (take (suc c) (drop f xs)) → AllByRecursion P (take c (drop (suc f) xs))
  deeper_dropped zero c xs h = first_dropped c xs h
  deeper_dropped (suc f) zero [] h = tt
  deeper_dropped (suc f) (suc c) [] h = tt
  deeper_dropped (suc f) c (x ∷ xs) h = deeper_dropped f c xs h

  taken : (c f : ℕ) (xs : List A) (d : A) → ((k : ℕ) → k < c → f + k < length xs → P (slice_index_or xs (f + k) d)) → AllByRecursion P (take c (drop f xs))
  taken (suc c) zero (x ∷ xs) d h =
      (h 0 (omega arith) (omega arith), taken c zero xs d (λ k low inside. let e : 0 + suc k ≡ suc (0 + k) = omega arith in subst (λ i. P (slice_index_or (x ∷ xs) i d)) e (h (suc k) (omega (arith, low)) (omega (arith, inside)))))
  taken (suc c) (suc f) (x ∷ xs) d h =
      taken (suc c) f xs d (λ k low inside. let e : suc f + k ≡ suc (f + k) = omega arith in subst (λ i. P (slice_index_or (x ∷ xs) i d)) e (h k low (omega (arith, inside))))
  taken _ _ _ d h = tt

pub deeper_raw : (m : Assignment) (P : Mode → Type 0) (row : Targets) → AllByRecursion P (raw m row) → AllByRecursion P (raw m (deeper row))
deeper_raw m P row h = by (row.count == 0) refl
  where
    by : (b : Bool) → (row.count == 0) ≡ b → AllByRecursion P (raw m (cond b row (record { first = row.first + 1; count = row.count - 1; reading = row.reading })))
    by true is = h
    by false is =
        let apart = eqb-false row.count 0 is in
        let less : row.count ≡ suc (row.count - 1) = omega (arith, apart) in
        let more : row.first + 1 ≡ suc row.first = omega arith in
        subst (λ f. AllByRecursion P (take (row.count - 1) (drop f m.modes))) (sym more) (deeper_dropped P row.first (row.count - 1) m.modes (subst (λ n. AllByRecursion P (take n (drop row.first m.modes))) less h))

-- ---- what is written
module _ (Good : Mode → Type 0) (private_good : Good Private) (racy_good : Good Racy) (dynamic_good : Good Dynamic) where
  abbrev pub LevelGood : Option Mode → Type 0
  LevelGood None = Unit {0}
  LevelGood (Some mode) = Good mode

  settled_one : (b : Bool) (level otherwise : Option Mode) → LevelGood level → LevelGood otherwise → LevelGood (cond b (Some Racy) (option_or level otherwise))
  settled_one true level otherwise h o = racy_good
  settled_one false None otherwise h o = o
  settled_one false (Some m) otherwise h o = h

  settled_all : (b : Base) (otherwise : Option Mode) (levels : List (Option Mode)) → LevelGood otherwise → AllByRecursion LevelGood levels → AllByRecursion LevelGood (settled b otherwise levels)
  settled_all b otherwise [] o h = tt
  settled_all b otherwise (level ∷ below) o h = (settled_one (is_mutex b below) level otherwise h.0 o, settled_all b otherwise below o h.1)

  target_good : (levels : List (Option Mode)) → AllByRecursion LevelGood levels → Good (field_target levels)
  target_good (Some m ∷ below) h = h.0
  target_good _ h = dynamic_good

  otherwise_good : (where_ : Role) (levels : List (Option Mode)) → AllByRecursion LevelGood levels → LevelGood (otherwise_of where_ levels)
  otherwise_good Role.Field levels h = target_good levels h
  otherwise_good _ levels h = tt

  dropped : (n : ℕ) (levels : List (Option Mode)) → AllByRecursion LevelGood levels → AllByRecursion LevelGood (drop n levels)
  dropped zero levels h = h
  dropped (suc n) [] h = tt
  dropped (suc n) (x ∷ rest) h = dropped n rest h.1

  entity_good : (e : Entity) → AllByRecursion LevelGood e.written.ctype.levels → AllByRecursion LevelGood (settled_modes e)
  entity_good e h = settled_all e.written.ctype.base (otherwise_of e.role e.written.ctype.levels) (written_modes e) (otherwise_good e.role e.written.ctype.levels h) (dropped (first_depth e.role) e.written.ctype.levels h)

  one_good : (list : List (Option Mode)) (k : ℕ) → AllByRecursion LevelGood list → LevelGood (slice_index_or list k (Some Private))
  one_good [] k h = private_good
  one_good (x ∷ rest) zero h = h.0
  one_good (x ∷ rest) (suc k) h = one_good rest k h.1

  found_good : (level : Option Mode) (finding : NodeFinding) → LevelGood level → Good (mode_found level finding)
  found_good (Some mode) finding h = h
  found_good None Apart h = private_good
  found_good None _ h = dynamic_good

  positions_good : (m : Assignment) → IsLeastAssignment m → (n : Numbered) → IsPositioned (entities_in m.typed.program.items) 0 n → AllByRecursion LevelGood (settled_modes n.entity)
      → (k : ℕ) → k < positions_of n.entity → n.first + k < length m.modes → Good (slice_index_or m.modes (n.first + k) Private)
  positions_good m least n w good k low inside =
      let z : n.first + k ≡ w.skip + k = omega (arith, w.first) in
      subst Good (sym (least.mode (n.first + k) (omega (arith, inside, least.modes))))
      (found_good (settled_at m.typed (n.first + k)) (finding_at least.findings (n.first + k))
      (subst LevelGood (sym (ap (λ p. slice_index_or (settled_in (entities_in m.typed.program.items)) p (Some Private)) z ∙ w.levels k low))
      (one_good (settled_modes n.entity) k good)))

  -- of the row of what has a type, by what is settled of its positions
  pub row_settled : (m : Assignment) → IsLeastAssignment m → (how : PathReading) (n : Numbered) → IsEntity m n → AllByRecursion LevelGood (settled_modes n.entity) → AllByRecursion Good (raw m (entity_row how (Some n)))
  row_settled m least how n is good = by n.entity.role
    where
      whole : Targets
      whole = record { first = n.first; count = positions_of n.entity; reading = how }

      all : AllByRecursion Good (raw m whole)
      all = taken Good (positions_of n.entity) n.first m.modes Private (positions_good m least n (positioned (entities_in m.typed.program.items) 0 n is) good)

      by : (where_ : Role) → AllByRecursion Good (raw m (targets_from where_ whole))
      by Role.Global = deeper_raw m Good whole all
      by _ = all

  -- by what is written
  pub row_good : (m : Assignment) → IsLeastAssignment m → (how : PathReading) (n : Numbered) → IsEntity m n → AllByRecursion LevelGood n.entity.written.ctype.levels → AllByRecursion Good (raw m (entity_row how (Some n)))
  row_good m least how n is good = row_settled m least how n is (entity_good n.entity good)

  -- What is meant where nothing is written is to be good where some target has no mode of its own.
  pub open_good : (b : Base) (otherwise : Option Mode) (levels : List (Option Mode)) → AllByRecursion LevelGood levels → (leaves_open b levels ≡ true → LevelGood otherwise) → AllByRecursion LevelGood (settled b otherwise levels)
  open_good b otherwise [] h o = tt
  open_good b otherwise (Some mode ∷ below) h o = (by (is_mutex b below), open_good b otherwise below h.1 o)
    where
      by : (z : Bool) → LevelGood (cond z (Some Racy) (option_or (Some mode) otherwise))
      by true = racy_good
      by false = h.0
  open_good b otherwise (None ∷ below) h o = (by (is_mutex b below) o, open_good b otherwise below h.1 (λ free. o (or_right (not (is_mutex b below)) (leaves_open b below) free)))
    where
      by : (z : Bool) → ((not z || leaves_open b below) ≡ true → LevelGood otherwise) → LevelGood (cond z (Some Racy) (option_or None otherwise))
      by true k = racy_good
      by false k = k refl

pub found_there : {A : Type 0} (test : A → Bool) (list : List A) (x : A) → find test list ≡ Some x → Contains list x
found_there test [] x h = absurd (none_some x h)
found_there test (y ∷ rest) x h = by (test y) h (found_there test rest x)
  where
    by : (b : Bool) → cond b (Some y) (find test rest) ≡ Some x → (find test rest ≡ Some x → Contains rest x) → Contains (y ∷ rest) x
    by true k later = let e : y ≡ x = cc in (zero, omega arith, e)
    by false k later = let has = later k in let low = has.1 in (suc has.0, omega (arith, low), has.2)
