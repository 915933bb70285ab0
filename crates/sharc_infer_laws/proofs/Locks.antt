-- The lock paths among the modes of a type are those that are written in it.
use Rattle.sharc_infer_laws.proofs.{Imports.{◌≡◌, ℕ, zero, suc, ◌+◌, ◌<◌, ◌≤◌, Bool, true, false, cond, List, [], ◌∷◌, ◌++◌, length, drop, get_or, Option, Some, None, Contains, ◌⊎◌, inl, inr, ⊎_elim, refl, ap, sym, ◌∙◌, subst, arith, get_or-append-add, get_or_append_left, length-append, option_or, Base, Mode, Private, Locked, Racy, Dynamic, Path, NodeFinding, Apart, finding_at, Role, Entity, Numbered, entities_in, first_depth, numbered, numbered_from, positions_of, written_modes, IsLeastAssignment, mode_found, SettledAreCounted, Assignment, position_count, is_mutex, settled, field_target, otherwise_of, settled_modes, settled_in, IsWrittenLock, HasWrittenLocks, LeastHasWrittenLocks, contains_behind, head_there}, Types.modes_size}

-- ---- what is settled of a position is what is settled of it in its type

record IsSettledIn (k place : ℕ) (es : List Entity) (n : Numbered) (depth : ℕ) : Type 0 where
  index : ℕ
  at : k + index ≡ place
  low : index < length (settled_in es)
  is : get_or (settled_in es) index (Some Private) ≡ get_or (settled_modes n.entity) depth (Some Private)

in_entity : (k : ℕ) (es : List Entity) (n : Numbered) (depth i : ℕ) → i < length (numbered_from k es) → get_or (numbered_from k es) i n ≡ n → depth < positions_of n.entity → IsSettledIn k (n.first + depth) es n depth
in_entity k [] n depth i low is within = absurd (omega (arith, low))
in_entity k (e ∷ rest) n depth zero low is within =
    subst (λ (x : Numbered). depth < positions_of x.entity → IsSettledIn k (x.first + depth) (e ∷ rest) x depth) is here within
  where
    here : depth < positions_of e → IsSettledIn k (k + depth) (e ∷ rest) (record { entity = e; first = k }) depth
    here inside =
        let size : length (settled_modes e) ≡ positions_of e = modes_size e in
        let shorter : depth < length (settled_modes e) = omega (arith, inside, size) in
        let sum : length (settled_modes e ++ settled_in rest) ≡ length (settled_modes e) + length (settled_in rest) = length-append (settled_modes e) (settled_in rest) in
        record { index = depth; at = refl; low = omega (arith, shorter, sum); is = get_or_append_left (settled_modes e) (settled_in rest) (Some Private) depth shorter }
in_entity k (e ∷ rest) n depth (suc i) low is within =
    let more : IsSettledIn (k + positions_of e) (n.first + depth) rest n depth = in_entity (k + positions_of e) rest n depth i (omega (arith, low)) is within in
    let size : length (settled_modes e) ≡ positions_of e = modes_size e in
    let at : k + positions_of e + more.index ≡ n.first + depth = more.at in
    let short : more.index < length (settled_in rest) = more.low in
    let sum : length (settled_modes e ++ settled_in rest) ≡ length (settled_modes e) + length (settled_in rest) = length-append (settled_modes e) (settled_in rest) in
    record {
      index = length (settled_modes e) + more.index;
      at = omega (arith, at, size);
      low = omega (arith, short, sum);
      is = get_or-append-add (settled_modes e) (settled_in rest) more.index (Some Private) ∙ more.is;
    }

-- ---- a lock path that is settled is written

one_mode : (a b : Mode) → Some a ≡ Some b → a ≡ b
one_mode a b is = cc

no_mode : (b : Mode) → None ≡ Some b → ⊥
no_mode b is = cc

racy_apart : (path : Path) → Racy ≡ Locked path → ⊥
racy_apart path is = cc

dynamic_apart : (path : Path) → Dynamic ≡ Locked path → ⊥
dynamic_apart path is = cc

private_apart : (path : Path) → Private ≡ Locked path → ⊥
private_apart path is = cc

-- it is one of these levels, or what is meant where nothing is written
settled_by : (mutex : Bool) (level otherwise : Option Mode) (below : List (Option Mode)) (path : Path) → cond mutex (Some Racy) (option_or level otherwise) ≡ Some (Locked path)
    → Contains (level ∷ below) (Some (Locked path)) ⊎ (otherwise ≡ Some (Locked path))
settled_by true level otherwise below path is = absurd (racy_apart path (one_mode Racy (Locked path) is))
settled_by false None otherwise below path is = inr is
settled_by false (Some x) otherwise below path is = inl (subst (λ (o : Option Mode). Contains (Some x ∷ below) o) is (head_there (Some x) below))

settled_written : (b : Base) (otherwise : Option Mode) (levels : List (Option Mode)) (depth : ℕ) (path : Path) → get_or (settled b otherwise levels) depth (Some Private) ≡ Some (Locked path)
    → Contains levels (Some (Locked path)) ⊎ (otherwise ≡ Some (Locked path))
settled_written b otherwise [] depth path is = absurd (private_apart path (one_mode Private (Locked path) is))
settled_written b otherwise (level ∷ below) zero path is = settled_by (is_mutex b below) level otherwise below path is
settled_written b otherwise (level ∷ below) (suc depth) path is =
    ⊎_elim (λ c. inl (contains_behind level below (Some (Locked path)) c)) (λ o. inr o) (settled_written b otherwise below depth path is)

behind_drop : (k : ℕ) (levels : List (Option Mode)) (x : Option Mode) → Contains (drop k levels) x → Contains levels x
behind_drop zero levels x c = c
behind_drop (suc k) [] x c = c
behind_drop (suc k) (level ∷ below) x c = contains_behind level below x (behind_drop k below x c)

target_written : (levels : List (Option Mode)) (path : Path) → field_target levels ≡ Locked path → Contains levels (Some (Locked path))
target_written (Some x ∷ below) path is = subst (λ (o : Mode). Contains (Some x ∷ below) (Some o)) is (head_there (Some x) below)
target_written _ path is = absurd (dynamic_apart path is)

otherwise_written : (what : Role) (levels : List (Option Mode)) (path : Path) → otherwise_of what levels ≡ Some (Locked path) → Contains levels (Some (Locked path))
otherwise_written Role.Field levels path is = target_written levels path (one_mode (field_target levels) (Locked path) is)
otherwise_written _ levels path is = absurd (no_mode (Locked path) is)

of_entity : (e : Entity) (depth : ℕ) (path : Path) → get_or (settled_modes e) depth (Some Private) ≡ Some (Locked path) → Contains e.written.ctype.levels (Some (Locked path))
of_entity e depth path is =
    ⊎_elim (λ c. behind_drop (first_depth e.role) e.written.ctype.levels (Some (Locked path)) c) (λ o. otherwise_written e.role e.written.ctype.levels path o)
    (settled_written e.written.ctype.base (otherwise_of e.role e.written.ctype.levels) (written_modes e) depth path is)

-- what is inferred is no lock path
found_written : (levels : List (Option Mode)) (o : Option Mode) (f : NodeFinding) → ((path : Path) → o ≡ Some (Locked path) → Contains levels (Some (Locked path))) → IsWrittenLock levels (mode_found o f)
found_written levels None Apart written = tt
found_written levels (Some (Locked path)) f written = written path refl
found_written levels _ _ written = tt

pub least_has_written_locks : SettledAreCounted → LeastHasWrittenLocks
least_has_written_locks counted m least n at depth within =
    let es : List Entity = entities_in m.typed.program.items in
    let settled_there : IsSettledIn 0 (n.first + depth) es n depth = in_entity 0 es n depth at.0 at.1 at.2 within in
    let place : 0 + settled_there.index ≡ n.first + depth = settled_there.at in
    let low : settled_there.index < length (settled_in es) = settled_there.low in
    let total : length (settled_in es) ≡ position_count m.typed = counted m.typed in
    let same : settled_there.index ≡ n.first + depth = omega (arith, place) in
    let inside : n.first + depth < position_count m.typed = omega (arith, same, low, total) in
    let o : Option Mode = get_or (settled_in es) (n.first + depth) (Some Private) in
    let is : o ≡ get_or (settled_modes n.entity) depth (Some Private) = ap (λ (k : ℕ). get_or (settled_in es) k (Some Private)) (sym same) ∙ settled_there.is in
    subst (IsWrittenLock n.entity.written.ctype.levels) (sym (least.mode (n.first + depth) inside))
    (found_written n.entity.written.ctype.levels o (finding_at least.findings (n.first + depth)) (λ path written. of_entity n.entity depth path (sym is ∙ written)))
