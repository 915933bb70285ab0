-- The modes of targets whose lock paths are written in their type: as many as the targets, with lock paths that lead to
-- something.
use Rattle.sharc_suggest_laws.proofs.{Imports.{◌≡◌, ◌⊎◌, inl, inr, ⊎_elim, ℕ, zero, suc, ◌+◌, ◌-◌, ◌<◌, ◌≤◌, true, false, List, [], ◌∷◌, length, map, take, drop, get_or, Contains, Some, ap, sym, subst, ◌∙◌, arith, false≢true, and_parts, get_or-drop, length-drop, length-take-le, AllByRecursion, Mode, Private, Locked, Path, One, Through, Declaration, WrittenType, Entity, Numbered, entities_in, numbered_from, positions_in, positions_of, Resolution, named_at, IsNamedPath, IsNamedLevel, IsNamedType, IsWrittenLock, HasWrittenLocks, Assignment, IsWhole, PathReading, written, through, at_call, Targets, read, modes_of, Sharing, sharing_of, lock_of, is_field, is_sibling_lock, text_at, of_each, head_or_tail, map_length, mapped_each}, Leads.{IsSoundSharing, Leads, written_sound, through_sound, call_sound}, Siblings.{IsSiblingPath, IsSiblingLevel}, Targets.{IsReadThrough, IsReading, IsOf, IsRow}}

-- ---- a lock path that is written in a type, as it is read

sibling_leads : (r : Resolution) (e : Entity) (at : ℕ) → IsReadThrough r e at → (path : Path) → Contains e.written.ctype.levels (Some (Locked path)) → is_sibling_lock r (lock_of path) ≡ true → Leads r (named_at r at) (text_at r (lock_of path).first)
sibling_leads r e at through_it (One m token) has is =
    let fields : List Declaration = through_it.1 in
    let d : Declaration = through_it.2 in
    let there : Contains d.written.ctype.levels (Some (Locked (One m token))) = subst (λ (w : WrittenType). Contains w.ctype.levels (Some (Locked (One m token)))) through_it.3 has in
    let sibling : IsSiblingPath r fields (One m token) = of_each (IsSiblingLevel r fields) d.written.ctype.levels (Some (Locked (One m token))) through_it.4 there in
    let found = sibling (and_parts (is_field (named_at r token)) true is).0 in
    subst (Leads r (named_at r at)) (sym found.0) (through_it.5 m found.1 found.2)
sibling_leads r e at through_it (Through x token m) has is = absurd (false≢true (and_parts (is_field (named_at r token)) false is).1)

lock_read : (r : Resolution) (e : Entity) → IsNamedType r e.written → (how : PathReading) → IsReading r e how → (path : Path) → Contains e.written.ctype.levels (Some (Locked path)) → IsSoundSharing r (read r how (sharing_of (Locked path)))
lock_read r e names how reading path has = by how reading
  where
    named_path : IsNamedPath r path
    named_path = of_each (IsNamedLevel r) e.written.ctype.levels (Some (Locked path)) names.levels has

    by : (how : PathReading) → IsReading r e how → IsSoundSharing r (read r how (sharing_of (Locked path)))
    by written reading = written_sound r path named_path
    by (through at) reading = through_sound r at path named_path reading.0 (sibling_leads r e at reading path has)
    by (at_call ds all) reading = call_sound r ds all path named_path reading

mode_read : (r : Resolution) (e : Entity) → IsNamedType r e.written → (how : PathReading) → IsReading r e how → (mode : Mode) → IsWrittenLock e.written.ctype.levels mode → IsSoundSharing r (read r how (sharing_of mode))
mode_read r e names how reading (Locked path) has = lock_read r e names how reading path has
mode_read r e names how reading _ has = tt

-- ---- the modes of targets

each_mode : (P : Mode → Type 0) (count : ℕ) (l : List Mode) → ((k : ℕ) → k < count → P (get_or l k Private)) → AllByRecursion P (take count l)
each_mode P zero l h = tt
each_mode P (suc count) [] h = tt
each_mode P (suc count) (x ∷ rest) h = (h zero (omega arith), each_mode P count rest (λ k low. h (suc k) (omega (arith, low))))

sound_of : (m : Assignment) → HasWrittenLocks m → (row : Targets) → IsOf m.typed row → AllByRecursion (IsSoundSharing m.typed) (modes_of m row)
sound_of m locks row of =
    let r : Resolution = m.typed in
    let e : Entity = of.holder.entity in
    mapped_each (IsSoundSharing r) (λ (mode : Mode). read r row.reading (sharing_of mode)) (take row.count (drop row.first m.modes))
    (each_mode (λ (mode : Mode). IsSoundSharing r (read r row.reading (sharing_of mode))) row.count (drop row.first m.modes) (λ k low.
    let there : of.skipped + k < positions_of e = omega (arith, low, of.within) in
    let place : of.holder.first + (of.skipped + k) ≡ row.first + k = omega (arith, of.first) in
    let here : IsWrittenLock e.written.ctype.levels (get_or m.modes (row.first + k) Private) =
    subst (λ (n : ℕ). IsWrittenLock e.written.ctype.levels (get_or m.modes n Private)) place (locks of.holder of.stands (of.skipped + k) there) in
    mode_read r e of.names row.reading of.reading (get_or (drop row.first m.modes) k Private)
    (subst (IsWrittenLock e.written.ctype.levels) (sym (get_or-drop row.first m.modes k Private)) here)))

-- ---- as many

in_positions : (k : ℕ) (es : List Entity) (n : Numbered) → Contains (numbered_from k es) n → n.first + positions_of n.entity ≤ k + positions_in es
in_positions k [] n has = absurd (none has)
  where
    none : Contains [] n → ⊥
    none h = let low = h.1 in omega (arith, low)
in_positions k (e ∷ rest) n has =
    ⊎_elim (λ is. subst (λ (x : Numbered). x.first + positions_of x.entity ≤ k + positions_in (e ∷ rest)) is (here k (positions_of e) (positions_in rest)))
    (λ later. further k (positions_of e) (positions_in rest) (n.first + positions_of n.entity) (in_positions (k + positions_of e) rest n later)) (head_or_tail (record { entity = e; first = k }) n (numbered_from (k + positions_of e) rest) has)
  where
    here : (k a b : ℕ) → k + a ≤ k + (a + b)
    here k a b = omega arith

    further : (k a b c : ℕ) → c ≤ (k + a) + b → c ≤ k + (a + b)
    further k a b c h = omega (arith, h)

many_of : (m : Assignment) → IsWhole m → (row : Targets) → IsOf m.typed row → length (modes_of m row) ≡ row.count
many_of m whole row of =
    let inside : of.holder.first + positions_of of.holder.entity ≤ 0 + positions_in (entities_in m.typed.program.items) = in_positions 0 (entities_in m.typed.program.items) of.holder of.stands in
    let rest : length (drop row.first m.modes) ≡ length m.modes - row.first = length-drop row.first m.modes in
    map_length (λ (mode : Mode). read m.typed row.reading (sharing_of mode)) (take row.count (drop row.first m.modes))
    ∙ length-take-le row.count (drop row.first m.modes) (omega (arith, of.first, of.within, inside, whole.modes, rest))

pub record HasModes (m : Assignment) (n : ℕ) (modes : List Sharing) : Type 0 where
  pub many : length modes ≡ n
  pub sound : AllByRecursion (IsSoundSharing m.typed) modes

pub modes_of_row : (m : Assignment) → IsWhole m → HasWrittenLocks m → (n : ℕ) (row : Targets) → IsRow m.typed n row → HasModes m n (modes_of m row)
modes_of_row m whole locks n row is = by is.from
  where
    none : row.count ≡ 0 → modes_of m row ≡ []
    none count = ap (λ (k : ℕ). map (λ (mode : Mode). read m.typed row.reading (sharing_of mode)) (take k (drop row.first m.modes))) count

    by : (n ≡ 0) ⊎ IsOf m.typed row → HasModes m n (modes_of m row)
    by (inl zero_so) =
        let empty : modes_of m row ≡ [] = none (is.count ∙ zero_so) in
        record { many = ap length empty ∙ sym zero_so; sound = subst (AllByRecursion (IsSoundSharing m.typed)) (sym empty) tt }
    by (inr of) = record { many = many_of m whole row of ∙ is.count; sound = sound_of m locks row of }
