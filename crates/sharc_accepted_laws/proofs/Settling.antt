-- What is settled at the positions of a type: where a level is racy or private.
use Rattle.sharc_accepted_laws.proofs.Imports.{◌≡◌, ◌⊎◌, inl, inr, ⊎_elim, ℕ, zero, suc, ◌+◌, ◌-◌, ◌<◌, ◌≤◌, Bool, true, false, cond, List, [], ◌∷◌, ◌++◌, length, drop, get_or as slice_index_or, refl, ap, sym, ◌∙◌, subst, arith, Option, Some, None, Contains, false≢true, slice_get, option_or, Base, Mode, Private, Racy, Dynamic, Role, Entity, Numbered, entities_in, numbered_from, positions_of, positions_in, written_modes, NodeFinding, Apart, finding_at, IsLeastAssignment, mode_found, Assignment, is_mutex, settled, field_target, otherwise_of, settled_modes, settled_in, settled_at, same_some, none_some, head_or_tail, none_there, get_or_append_left, get_or-append-add}

-- ---- an entity is at its positions
settled_length : (b : Base) (otherwise : Option Mode) (levels : List (Option Mode)) → length (settled b otherwise levels) ≡ length levels
settled_length b otherwise [] = refl
settled_length b otherwise (x ∷ below) = ap suc (settled_length b otherwise below)

pub record IsPositioned (list : List Entity) (s : ℕ) (n : Numbered) : Type 0 where
  pub skip : ℕ
  pub first : n.first ≡ s + skip
  pub ends : n.first + positions_of n.entity ≤ s + positions_in list
  pub levels : (k : ℕ) → k < positions_of n.entity → slice_index_or (settled_in list) (skip + k) (Some Private) ≡ slice_index_or (settled_modes n.entity) k (Some Private)

pub positioned : (list : List Entity) (s : ℕ) (n : Numbered) → Contains (numbered_from s list) n → IsPositioned list s n
positioned [] s n has = absurd (none_there n has)
positioned (e ∷ rest) s n has = ⊎_elim (λ is. subst (IsPositioned (e ∷ rest) s) is here) (λ more. later (positioned rest (s + positions_of e) n more)) (head_or_tail (record { entity = e; first = s }) n (numbered_from (s + positions_of e) rest) has)
  where
    size : length (settled_modes e) ≡ positions_of e
    size = settled_length e.written.ctype.base (otherwise_of e.role e.written.ctype.levels) (written_modes e)

    here : IsPositioned (e ∷ rest) s (record { entity = e; first = s })
    here = record {
      skip = 0;
      first = omega arith;
      ends = omega arith;
      levels = λ k low. let z : 0 + k ≡ k = omega arith in ap (λ i. slice_index_or (settled_modes e ++ settled_in rest) i (Some Private)) z ∙ get_or_append_left (settled_modes e) (settled_in rest) (Some Private) k (omega (arith, low, size));
    }

    later : IsPositioned rest (s + positions_of e) n → IsPositioned (e ∷ rest) s n
    later w = let first = w.first in let ends = w.ends in record {
      skip = positions_of e + w.skip;
      first = omega (arith, first);
      ends = omega (arith, ends);
      levels = λ k low. let at : positions_of e + w.skip + k ≡ length (settled_modes e) + (w.skip + k) = omega (arith, size) in
          ap (λ i. slice_index_or (settled_modes e ++ settled_in rest) i (Some Private)) at ∙ get_or-append-add (settled_modes e) (settled_in rest) (w.skip + k) (Some Private) ∙ w.levels k low;
    }

-- ---- the mode of a position
pub racy_found : (level : Option Mode) (finding : NodeFinding) → mode_found level finding ≡ Racy → level ≡ Some Racy
racy_found (Some mode) finding h = ap Some h
racy_found None Apart h = cc
racy_found None _ h = cc

pub private_found : (level : Option Mode) (finding : NodeFinding) → mode_found level finding ≡ Private → (level ≡ Some Private) ⊎ (level ≡ None)
private_found (Some mode) finding h = inl (ap Some h)
private_found None finding h = inr refl

pub get_index : (list : List Mode) (k : ℕ) (x d : Mode) → slice_get list k ≡ Some x → (k < length list) × (slice_index_or list k d ≡ x)
get_index [] k x d is = absurd (none_some x is)
get_index (y ∷ rest) zero x d is = (omega arith, same_some y x is)
get_index (y ∷ rest) (suc k) x d is = let w = get_index rest k x d is in let low = w.0 in (omega (arith, low), w.1)

-- what is settled where this mode is
pub record SettledAt (m : Assignment) (n : Numbered) (k : ℕ) (mode : Mode) : Type 0 where
  pub finding : NodeFinding
  pub found : mode_found (slice_index_or (settled_modes n.entity) k (Some Private)) finding ≡ mode

pub settled_by : (m : Assignment) → IsLeastAssignment m → (n : Numbered) → IsPositioned (entities_in m.typed.program.items) 0 n → (k : ℕ) (mode : Mode) → k < positions_of n.entity → slice_get m.modes (n.first + k) ≡ Some mode → SettledAt m n k mode
settled_by m least n w k mode low at =
    let z : n.first + k ≡ w.skip + k = omega (arith, w.first) in
    let g = get_index m.modes (n.first + k) mode Private at in
    let same : settled_at m.typed (n.first + k) ≡ slice_index_or (settled_modes n.entity) k (Some Private) = ap (λ p. slice_index_or (settled_in (entities_in m.typed.program.items)) p (Some Private)) z ∙ w.levels k low in
    record {
      finding = finding_at least.findings (n.first + k);
      found = ap (λ o. mode_found o (finding_at least.findings (n.first + k))) (sym same) ∙ sym (least.mode (n.first + k) (omega (arith, g.0, least.modes))) ∙ g.1;
    }

-- ---- what is settled by what is written
pub record IsLast (b : Base) (levels : List (Option Mode)) (k : ℕ) : Type 0 where
  pub mutex : b ≡ Base.Mutex
  pub last : suc k ≡ length levels

last_mutex : (b : Base) (x : Option Mode) (below : List (Option Mode)) → is_mutex b below ≡ true → IsLast b (x ∷ below) zero
last_mutex Base.Mutex x [] h = record { mutex = refl; last = refl }
last_mutex _ x _ h = absurd (false≢true h)

next_last : (b : Base) (x : Option Mode) (below : List (Option Mode)) (k : ℕ) → IsLast b below k → IsLast b (x ∷ below) (suc k)
next_last b x below k w = record { mutex = w.mutex; last = ap suc w.last }

-- a mode is settled as that of a mutex, as what is written, or as what is meant where nothing is
pub data SettledBy (b : Base) (otherwise : Option Mode) (levels : List (Option Mode)) (k : ℕ) (mode : Mode) : Type 0 where
  a_mutex : mode ≡ Racy → IsLast b levels k → SettledBy b otherwise levels k mode
  is_written : slice_get levels k ≡ Some (Some mode) → SettledBy b otherwise levels k mode
  is_meant : otherwise ≡ Some mode → SettledBy b otherwise levels k mode

settled_one : (b : Base) (otherwise level : Option Mode) (below : List (Option Mode)) (mode : Mode) (t : Bool) → is_mutex b below ≡ t → cond t (Some Racy) (option_or level otherwise) ≡ Some mode → SettledBy b otherwise (level ∷ below) zero mode
settled_one b otherwise level below mode true is h = a_mutex (sym (same_some _ _ h)) (last_mutex b level below is)
settled_one b otherwise None below mode false is h = is_meant h
settled_one b otherwise (Some x) below mode false is h = is_written (ap Some h)

later_settled : (b : Base) (otherwise level : Option Mode) (below : List (Option Mode)) (k : ℕ) (mode : Mode) → SettledBy b otherwise below k mode → SettledBy b otherwise (level ∷ below) (suc k) mode
later_settled b otherwise level below k mode (a_mutex is last) = a_mutex is (next_last b level below k last)
later_settled b otherwise level below k mode (is_written is) = is_written is
later_settled b otherwise level below k mode (is_meant is) = is_meant is

pub settled_from : (b : Base) (otherwise : Option Mode) (levels : List (Option Mode)) (k : ℕ) (mode : Mode) → k < length levels → slice_index_or (settled b otherwise levels) k (Some Private) ≡ Some mode → SettledBy b otherwise levels k mode
settled_from b otherwise [] k mode low h = absurd (omega (arith, low))
settled_from b otherwise (level ∷ below) zero mode low h = settled_one b otherwise level below mode (is_mutex b below) refl h
settled_from b otherwise (level ∷ below) (suc k) mode low h = later_settled b otherwise level below k mode (settled_from b otherwise below k mode (omega (arith, low)) h)

-- where something is meant, something is settled
never_open_one : (t : Bool) (level : Option Mode) (meant : Mode) → cond t (Some Racy) (option_or level (Some meant)) ≡ None → ⊥
never_open_one true level meant h = cc
never_open_one false None meant h = cc
never_open_one false (Some x) meant h = cc

pub never_open : (b : Base) (meant : Mode) (levels : List (Option Mode)) (k : ℕ) → slice_index_or (settled b (Some meant) levels) k (Some Private) ≡ None → ⊥
never_open b meant [] k h = cc
never_open b meant (level ∷ below) zero h = never_open_one (is_mutex b below) level meant h
never_open b meant (level ∷ below) (suc k) h = never_open b meant below k h

-- ---- the levels of a type
pub get_dropped : (c : ℕ) (levels : List (Option Mode)) (k : ℕ) (x : Option Mode) → slice_get (drop c levels) k ≡ Some x → slice_get levels (c + k) ≡ Some x
get_dropped zero levels k x is = let e : zero + k ≡ k = omega arith in ap (slice_get levels) e ∙ is
get_dropped (suc c) [] k x is = absurd (none_some x is)
get_dropped (suc c) (y ∷ rest) k x is = let e : suc c + k ≡ suc (c + k) = omega arith in ap (slice_get (y ∷ rest)) e ∙ get_dropped c rest k x is

pub dropped_length : (c : ℕ) (levels : List (Option Mode)) → length (drop c levels) ≡ length levels - c
dropped_length zero levels = omega arith
dropped_length (suc c) [] = omega arith
dropped_length (suc c) (y ∷ rest) = let e = dropped_length c rest in omega (arith, e)

target_top : (levels : List (Option Mode)) (mode : Mode) → field_target levels ≡ mode → (mode ≡ Dynamic → ⊥) → slice_get levels 0 ≡ Some (Some mode)
target_top (Some x ∷ below) mode is other = ap (λ y. Some (Some y)) is
target_top _ mode is other = absurd (other (sym is))

-- what is meant where nothing is written is the mode of a field's top
pub otherwise_top : (what : Role) (levels : List (Option Mode)) (mode : Mode) → otherwise_of what levels ≡ Some mode → (mode ≡ Dynamic → ⊥) → (what ≡ Role.Field) × (slice_get levels 0 ≡ Some (Some mode))
otherwise_top Role.Field levels mode is other = (refl, target_top levels mode (same_some _ _ is) other)
otherwise_top _ levels mode is other = absurd (none_some mode is)
