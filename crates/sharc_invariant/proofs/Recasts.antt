-- What a cast leaves of the cells: what they are, and what they refer to.
use Rattle.sharc_invariant.proofs.{Imports.{◌≡◌, ℕ, zero, suc, ◌+◌, ◌-◌, ◌%◌, ◌<◌, List, [], ◌∷◌, refl, sym, ap, ◌∙◌, subst, ⊎_elim, arith, cases_eq, length, map, slice_index_or, Targets, Field, ObjectType, StaticType, Mutex, FieldLock, Content, cells_of, field_at, field_in, field_of_cell, no_field, no_mutex, lock_number, mutex_of, field_mutex, type_in, type_at, type_of, is_mutex, is_pointer, OfType, OfGlobals, OfSameElement, Pointer, Label, Recasts, IsSameContent, IsSameFieldLock, no_lock, FitsContent}, Frames.{same_lock, map_same}, Emptied.mod_low, Cells.field_row}
use Rattle.sharc_invariant.specs.Types.{row_of}

map_at : {A B : Type 0} (f : A → B) (xs : List A) (j : ℕ) (d : B) (e : A) → j < length xs → slice_index_or (map f xs) j d ≡ f (slice_index_or xs j e)
map_at f [] j d e lt = absurd (omega arith)
map_at f (x ∷ xs) zero d e lt = refl
map_at f (x ∷ xs) (suc j) d e lt = map_at f xs j d e (omega arith)

none_at : {A : Type 0} (xs : List A) (j : ℕ) (d : A) → length xs ≡ 0 → slice_index_or xs j d ≡ d
none_at [] j d e = refl
none_at (x ∷ xs) j d e = absurd (omega arith)

-- two contents that a word cannot tell apart
pub record IsAlike (a b : Content) : Type 0 where
  pub pointer : is_pointer b ≡ is_pointer a
  pub mutex : is_mutex b ≡ is_mutex a
  pub fits : (v : ℕ) → FitsContent a v → FitsContent b v

module _ (x : Targets) (l : Label) (refs : ℕ → ℕ) (same : (r : ℕ) → refs (l.same r) ≡ refs r) (r : ℕ) (s t : StaticType) (rc : Recasts x l r s t) (row : s.target < length x.rows) where
  abbrev S : ObjectType
  S = type_of refs (refs r) s

  abbrev T : ObjectType
  T = type_of refs (refs r) t

  lock_at : (a : StaticType) (j : ℕ) → j < length a.locks → lock_number (type_of refs (refs r) a) j ≡ mutex_of refs (refs r) (slice_index_or a.locks j no_lock)
  lock_at a j lt = map_at (mutex_of refs (refs r)) a.locks j no_mutex no_lock lt

  abbrev at_cell : ℕ → ℕ → Mutex
  at_cell o j = record { object = o; cell = j }

  same_mutex : (o i : ℕ) (a b : FieldLock) → IsSameFieldLock l r s t a b → field_mutex S o i a ≡ field_mutex T o i b
  same_mutex o i (OfGlobals j) (OfGlobals k) h = ap (at_cell 0) h
  same_mutex o i (OfSameElement f m) (OfSameElement g n) h = ap (λ f. at_cell o (i - f + m)) h.0 ∙ ap (λ m. at_cell o (i - g + m)) h.1
  same_mutex o i (OfType j) (OfType k) h = lock_at s j h.0 ∙ same_lock l refs same r (slice_index_or s.locks j no_lock) (slice_index_or t.locks k no_lock) h.2 ∙ sym (lock_at t k h.1)
  same_mutex o i _ _ h = absurd h

  abbrev with_locks : ℕ → List Mutex → ObjectType
  with_locks target locks = record { target = target; locks = locks }

  same_type_in : (o i : ℕ) (a b : Content) → IsSameContent l r s t a b → type_in T o i b ≡ type_in S o i a
  same_type_in o i (Pointer f) (Pointer g) h = sym (ap (λ n. with_locks n (map (field_mutex S o i) f.locks)) h.0 ∙ ap (with_locks g.target) (map_same (IsSameFieldLock l r s t) (field_mutex S o i) (field_mutex T o i) (same_mutex o i) f.locks g.locks h.1))
  same_type_in o i (Pointer f) _ h = absurd (cc)
  same_type_in o i _ b h = ap (type_in T o i) (sym h)

  alike : (a b : Content) → IsSameContent l r s t a b → IsAlike a b
  alike (Pointer f) (Pointer g) h = record { pointer = refl; mutex = refl; fits = λ v h. h }
  alike (Pointer f) _ h = absurd (cc)
  alike a b h = subst (IsAlike a) h (record { pointer = refl; mutex = refl; fits = λ v h. h })

  abbrev Same : Field → Field → Type 0
  Same a b = IsSameContent l r s t a.holds b.holds

  same_field : (i : ℕ) → Same (field_in x S i) (field_in x T i)
  same_field i =
      let c = cells_of x s.target in
      let at : Same (field_of_cell x s.target i) (field_of_cell x t.target i) = ⊎_elim
      (λ (z : c ≡ 0).
      let a = none_at (row_of x s.target).fields (i % c) no_field z in
      let b = none_at (row_of x t.target).fields (i % cells_of x t.target) no_field (sym rc.cells ∙ z) in
      subst (λ f. Same f (field_of_cell x t.target i)) (sym a) (subst (Same no_field) (sym b) refl))
      (λ (nz : c ≡ 0 → ⊥).
      let lt : i % c < c = mod_low i c nz in
      subst (λ d. Same (field_at x s.target (i % c)) (field_at x t.target (i % d))) rc.cells (rc.same (i % c) lt))
      (cases_eq c 0) in
      subst (λ f. Same f (field_in x T i)) (sym (field_row x S i row)) (subst (Same (field_of_cell x s.target i)) (sym (field_row x T i rc.is_row)) at)

  pub recast_types : (o i : ℕ) → type_at x T o i ≡ type_at x S o i
  recast_types o i = same_type_in o i (field_in x S i).holds (field_in x T i).holds (same_field i)

  pub recast_alike : (i : ℕ) → IsAlike (field_in x S i).holds (field_in x T i).holds
  recast_alike i = alike (field_in x S i).holds (field_in x T i).holds (same_field i)
