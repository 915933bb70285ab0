-- What holds of each note of a short list, by what the list is made of, there and back.
use Rattle.sharc_check.proofs.{Imports.{◌≡◌, ◌↔◌, ℕ, Bool, true, false, cond, List, [], ◌∷◌, refl, ap, ◌∙◌, subst, drop, Option, Some, None, Contains, AllByRecursion, flat_map, Base, Mode, Locked, Path, Span, Resolution, ErrorCode, ModeError, Finding, Wrong, Names, Takes, error_where, agree, path_notes, mode_notes, names_of, names_in, names_in_all, names_in_level, names_read, takes, unmet_notes, cast_notes, PathReading, read_lock, Lock, Sharing, locked, lock_of, same_all, object_of, same_some, none_some, of_each, to_each}, Lists.{spread, gather}}

-- where something is wrong, W; of what a path names, N; of what is taken, T
abbrev pub Said : Type 0 → (ℕ → Type 0) → (ℕ → Type 0) → Finding → Type 0
Said W N T (Wrong e) = W
Said W N T (Names x) = N x
Said W N T (Takes s x) = T x

module _ (W : Type 0) (N T : ℕ → Type 0) where
  abbrev pub Hold : List Finding → Type 0
  Hold notes = AllByRecursion (Said W N T) notes

  pub where_is : (b : Bool) (code : ErrorCode) (s : Span) (text : List ℕ) → Hold (error_where b code s text) ↔ (b ≡ true → W)
  where_is true code s text = (λ h is. h.0, λ h. (h refl, tt))
  where_is false code s text = (λ h is. absurd (cc), λ h. tt)

  unless_is : (b : Bool) (e : ModeError) → Hold (cond b [] (Wrong e ∷ [])) ↔ (b ≡ false → W)
  unless_is true e = (λ h is. absurd (cc), λ h. tt)
  unless_is false e = (λ h is. h.0, λ h. (h refl, tt))

  pub when_is : (b : Bool) (e : ModeError) → Hold (cond b (Wrong e ∷ []) []) ↔ (b ≡ true → W)
  when_is true e = (λ h is. h.0, λ h. (h refl, tt))
  when_is false e = (λ h is. absurd (cc), λ h. tt)

  pub agree_is : (r : Resolution) (s : Span) (b : Base) (want found : Option (List Sharing))
      → Hold (agree r s b want found) ↔ ((to from : List Sharing) → want ≡ Some to → found ≡ Some from → same_all r to from ≡ false → W)
  agree_is r s b None found = (λ h to from w f is. absurd (none_some to w), λ h. tt)
  agree_is r s b (Some x) None = (λ h to from w f is. absurd (none_some from f), λ h. tt)
  agree_is r s b (Some x) (Some y) = (
    λ h to from w f is. (unless_is (same_all r x y) _).0 h (ap (λ z. same_all r z y) (same_some x to w) ∙ ap (same_all r to) (same_some y from f) ∙ is),
    λ h. (unless_is (same_all r x y) _).1 (h x y refl refl),
  )

  pub path_is : (s : Span) (o : Option Path) → Hold (path_notes s o) ↔ ((path : Path) → o ≡ Some path → W)
  path_is s None = (λ h path is. absurd (none_some path is), λ h. tt)
  path_is s (Some x) = (λ h path is. h.0, λ h. (h x refl, tt))

  pub mode_is : (s : Span) (o : Option Mode) → Hold (mode_notes s o) ↔ ((mode : Mode) → o ≡ Some mode → W)
  mode_is s None = (λ h mode is. absurd (none_some mode is), λ h. tt)
  mode_is s (Some x) = (λ h mode is. h.0, λ h. (h x refl, tt))

  pub unmet_is : (r : Resolution) (s : Span) (o : Option Lock) → Hold (unmet_notes r s o) ↔ ((l : Lock) → o ≡ Some l → W)
  unmet_is r s None = (λ h l is. absurd (none_some l is), λ h. tt)
  unmet_is r s (Some x) = (λ h l is. h.0, λ h. (h x refl, tt))

  pub cast_is : (r : Resolution) (s : Span) (b : Base) (to : List Sharing) (o : Option (List Sharing))
      → Hold (cast_notes r s b to o) ↔ ((from : List Sharing) → o ≡ Some from → same_all r (drop 1 to) (drop 1 from) ≡ false → W)
  cast_is r s b to None = (λ h from f is. absurd (none_some from f), λ h. tt)
  cast_is r s b to (Some y) = (
    λ h from f is. (unless_is (same_all r (drop 1 to) (drop 1 y)) _).0 h (ap (λ z. same_all r (drop 1 to) (drop 1 z)) (same_some y from f) ∙ is),
    λ h. (unless_is (same_all r (drop 1 to) (drop 1 y)) _).1 (h y refl),
  )

  pub takes_is : (s : Span) (o : Option ℕ) → Hold (takes s o) ↔ ((x : ℕ) → o ≡ Some x → T x)
  takes_is s None = (λ h x is. absurd (none_some x is), λ h. tt)
  takes_is s (Some y) = (λ h x is. subst T (same_some y x is) h.0, λ h. (h y refl, tt))

  -- ---- what paths name

  pub names_are : (o : Option ℕ) → Hold (names_of o) ↔ ((x : ℕ) → o ≡ Some x → N x)
  names_are None = (λ h x is. absurd (none_some x is), λ h. tt)
  names_are (Some y) = (λ h x is. subst N (same_some y x is) h.0, λ h. (h y refl, tt))

  in_back : (r : Resolution) (s : Sharing) → ((l : Lock) (x : ℕ) → s ≡ locked l → object_of r l ≡ Some x → N x) → Hold (names_in r s)
  in_back r (locked k) h = (names_are (object_of r k)).1 (λ x. h k x refl)
  in_back r _ h = tt

  pub in_all_are : (r : Resolution) (modes : List Sharing) → Hold (names_in_all r modes) ↔ ((l : Lock) (x : ℕ) → Contains modes (locked l) → object_of r l ≡ Some x → N x)
  in_all_are r modes = (
    λ h l x has o. (names_are (object_of r l)).0 (of_each (λ s. Hold (names_in r s)) modes (locked l) (spread (Said W N T) (names_in r) modes h) has) x o,
    λ h. gather (Said W N T) (names_in r) modes (to_each (λ s. Hold (names_in r s)) modes (λ s has. in_back r s (λ l x is o. h l x (subst (Contains modes) is has) o))),
  )

  level_back : (r : Resolution) (o : Option Mode) → ((path : Path) (x : ℕ) → o ≡ Some (Locked path) → object_of r (lock_of path) ≡ Some x → N x) → Hold (names_in_level r o)
  level_back r (Some (Locked path)) h = (names_are (object_of r (lock_of path))).1 (λ x. h path x refl)
  level_back r _ h = tt

  pub levels_are : (r : Resolution) (levels : List (Option Mode))
      → Hold (flat_map (names_in_level r) levels) ↔ ((path : Path) (x : ℕ) → Contains levels (Some (Locked path)) → object_of r (lock_of path) ≡ Some x → N x)
  levels_are r levels = (
    λ h path x has o. (names_are (object_of r (lock_of path))).0 (of_each (λ level. Hold (names_in_level r level)) levels (Some (Locked path)) (spread (Said W N T) (names_in_level r) levels h) has) x o,
    λ h. gather (Said W N T) (names_in_level r) levels
        (to_each (λ level. Hold (names_in_level r level)) levels (λ level has. level_back r level (λ path x is o. h path x (subst (Contains levels) is has) o))),
  )

  read_back : (r : Resolution) (how : PathReading) (o : Option Mode) → ((path : Path) (x : ℕ) → o ≡ Some (Locked path) → object_of r (read_lock r how (lock_of path)) ≡ Some x → N x) → Hold (names_read r how o)
  read_back r how (Some (Locked path)) h = (names_are (object_of r (read_lock r how (lock_of path)))).1 (λ x. h path x refl)
  read_back r how _ h = tt

  pub all_read_are : (r : Resolution) (how : PathReading) (levels : List (Option Mode))
      → Hold (flat_map (names_read r how) levels) ↔ ((path : Path) (x : ℕ) → Contains levels (Some (Locked path)) → object_of r (read_lock r how (lock_of path)) ≡ Some x → N x)
  all_read_are r how levels = (
    λ h path x has o. (names_are (object_of r (read_lock r how (lock_of path)))).0 (of_each (λ level. Hold (names_read r how level)) levels (Some (Locked path)) (spread (Said W N T) (names_read r how) levels h) has) x o,
    λ h. gather (Said W N T) (names_read r how) levels
        (to_each (λ level. Hold (names_read r how level)) levels (λ level has. read_back r how level (λ path x is o. h path x (subst (Contains levels) is has) o))),
  )
