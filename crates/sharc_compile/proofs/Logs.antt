-- The log of code beside that of guarded code.
use Rattle.sharc_compile.proofs.Imports.{◌&&◌, ◌||◌, ◌≡◌, ℕ, suc, ◌+◌, Bool, true, false, not, List, [], ◌∷◌, ◌++◌, length, All, refl, sym, ap, ◌∙◌, subst, arith, is_some, Some, ◌==◌, eqb-true, nat_tests, and_parts, if◌then◌else◌, Object, CellAt, HeldMutex, without, object_of, GlobalCells, reference_of, IsInGlobal, same_cell, is_held, without_mutex, place_in, number_in, IsKnown, IsCell, IsHeldAs, AreHeld, same_bool}

all_first : {X : Type 0} (P : X → Type 0) (x : X) (xs : List X) → All P (x ∷ xs) → P x
all_first P x xs h = h 0 x (omega arith)

all_rest : {X : Type 0} (P : X → Type 0) (x : X) (xs : List X) → All P (x ∷ xs) → All P xs
all_rest P x xs h = λ k d lt. h (suc k) d (omega arith)

eq_sym : (m n : ℕ) → (m == n) ≡ (n == m)
eq_sym m n = grind (arith, nat_tests)

cell_sym : (o o' : Object) (x x' : ℕ) → same_cell record { object = o; cell = x } record { object = o'; cell = x' } ≡ same_cell record { object = o'; cell = x' } record { object = o; cell = x }
cell_sym (Object.Global g) (Object.Global h) x y = ap (λ b. b && (x == y)) (eq_sym g h) ∙ ap (λ b. (h == g) && b) (eq_sym x y)
cell_sym (Object.Global g) (Object.Made h) x y = refl
cell_sym (Object.Made g) (Object.Global h) x y = refl
cell_sym (Object.Made g) (Object.Made h) x y = ap (λ b. b && (x == y)) (eq_sym g h) ∙ ap (λ b. (h == g) && b) (eq_sym x y)

abbrev pub Apart : List GlobalCells → Type 0
Apart globals = (g h place : ℕ) → IsInGlobal globals g place → IsInGlobal globals h place → g ≡ h

module _ (globals : List GlobalCells) (first : ℕ) (apart : Apart globals) where
  -- two cells have one word exactly where they are the same
  cells_from : (o o' : Object) (x x' number number' place place' : ℕ) → number_in o ≡ number → number_in o' ≡ number' → place_in globals o x ≡ place → place_in globals o' x' ≡ place'
      → IsKnown globals o x → IsKnown globals o' x' → (place ≡ place' → number ≡ number')
      → (place ≡ place' → same_cell record { object = o; cell = x } record { object = o'; cell = x' } ≡ true)
  cells_from (Object.Global g) (Object.Global h) x y n n' l l' en en' el el' k k' a q =
      let e : g ≡ h = apart g h l (subst (IsInGlobal globals g) el k) (subst (IsInGlobal globals h) (el' ∙ sym q) k') in
      let z : x ≡ y = let w = ap (λ g. place_in globals (Object.Global g) x) e in omega arith in
      grind (arith, nat_tests)
  cells_from (Object.Global g) (Object.Made h) x y n n' l l' en en' el el' k k' a q = let w = a q in absurd (omega arith)
  cells_from (Object.Made g) (Object.Global h) x y n n' l l' en en' el el' k k' a q = let w = a q in absurd (omega arith)
  cells_from (Object.Made g) (Object.Made h) x y n n' l l' en en' el el' k k' a q =
      let w = a q in
      let e : g ≡ h = omega arith in
      let z : x ≡ y = omega arith in
      grind (arith, nat_tests)

  places_from : (o o' : Object) (x x' : ℕ) → same_cell record { object = o; cell = x } record { object = o'; cell = x' } ≡ true → place_in globals o x ≡ place_in globals o' x'
  places_from (Object.Global g) (Object.Global h) x y q =
      let w = and_parts (g == h) (x == y) q in
      ap (λ g. place_in globals (Object.Global g) x) (eqb-true g h w.0) ∙ ap (place_in globals (Object.Global h)) (eqb-true x y w.1)
  places_from (Object.Global g) (Object.Made h) x y q = absurd (cc)
  places_from (Object.Made g) (Object.Global h) x y q = absurd (cc)
  places_from (Object.Made g) (Object.Made h) x y q =
      let w = and_parts (g == h) (x == y) q in
      ap (λ g. place_in globals (Object.Made g) x) (eqb-true g h w.0) ∙ ap (place_in globals (Object.Made h)) (eqb-true x y w.1)

  module _ (number place : ℕ) (c : CellAt) (is : IsCell globals number place c) where
    abbrev Only : HeldMutex → Type 0
    Only e = e.word ≡ first + place → e.object ≡ number

    same_test : (d : CellAt) (e : HeldMutex) → IsHeldAs globals first d e → (e.word ≡ first + place → e.object ≡ number) → same_cell d c ≡ (e.word == first + place)
    same_test d e at a =
        let w = at.word in
        same_bool (same_cell d c) (e.word == first + place)
        (λ q. let l = places_from d.object c.object d.cell c.cell q in
        let l1 = at.cell.place_is in
        let l2 = is.place_is in
        let t : e.word ≡ first + place = omega arith in
        subst (λ n. (e.word == n) ≡ true) t (grind (arith, nat_tests)))
        (λ q. let t : e.word ≡ first + place = eqb-true e.word (first + place) q in
        cells_from d.object c.object d.cell c.cell e.object number at.place place at.cell.number_is is.number_is at.cell.place_is is.place_is at.cell.known is.known
        (λ r. a t) (omega arith))

    is_held_same : (hs : List CellAt) (es : List HeldMutex) → AreHeld globals first hs es → All Only es
        → is_held hs c ≡ is_some (object_of es (first + place))
    is_held_same [] [] h a = refl
    is_held_same [] (e ∷ es) h a = absurd h
    is_held_same (x ∷ hs) [] h a = absurd h
    is_held_same (x ∷ hs) (e ∷ es) h a =
        subst (λ b. (b || is_held hs c) ≡ is_some (if e.word == first + place then Some e.object else object_of es (first + place)))
        (sym (cell_sym c.object x.object c.cell x.cell ∙ same_test x e h.0 (all_first Only e es a))) (split (e.word == first + place) (is_held_same hs es h.1 (all_rest Only e es a)))
      where
        split : (b : Bool) → is_held hs c ≡ is_some (object_of es (first + place)) → (b || is_held hs c) ≡ is_some (if b then Some e.object else object_of es (first + place))
        split true q = refl
        split false q = q

    without_same : (hs : List CellAt) (es : List HeldMutex) → AreHeld globals first hs es → All Only es
        → AreHeld globals first (without_mutex hs c) (without es (first + place))
    without_same [] [] h a = tt
    without_same [] (e ∷ es) h a = absurd h
    without_same (x ∷ hs) [] h a = absurd h
    without_same (x ∷ hs) (e ∷ es) h a =
        rw (same_test x e h.0 (all_first Only e es a)) (split (e.word == first + place) (without_same hs es h.1 (all_rest Only e es a)))
      where
        split : (b : Bool) → AreHeld globals first (without_mutex hs c) (without es (first + place))
            → AreHeld globals first (if not b then x ∷ without_mutex hs c else without_mutex hs c) (if not b then e ∷ without es (first + place) else without es (first + place))
        split true q = q
        split false q = (h.0, q)

-- ---- one more mutex
pub log_pushed : (globals : List GlobalCells) (first : ℕ) (hs : List CellAt) (es : List HeldMutex) (c : CellAt) (e : HeldMutex) → AreHeld globals first hs es → IsHeldAs globals first c e → AreHeld globals first (hs ++ c ∷ []) (es ++ e ∷ [])
log_pushed globals first [] [] x e h k = (k, tt)
log_pushed globals first [] (y ∷ es) x e h k = absurd h
log_pushed globals first (y ∷ hs) [] x e h k = absurd h
log_pushed globals first (y ∷ hs) (z ∷ es) x e h k = (h.0, log_pushed globals first hs es x e h.1 k)

pub log_length : (globals : List GlobalCells) (first : ℕ) (hs : List CellAt) (es : List HeldMutex) → AreHeld globals first hs es → length hs ≡ length es
log_length globals first [] [] h = refl
log_length globals first [] (e ∷ es) h = absurd h
log_length globals first (x ∷ hs) [] h = absurd h
log_length globals first (x ∷ hs) (e ∷ es) h = ap suc (log_length globals first hs es h.1)

-- the object that the log has for a mutex that is held
pub object_held : (number w : ℕ) (es : List HeldMutex) → All (λ e. e.word ≡ w → e.object ≡ number) es → is_some (object_of es w) ≡ true → reference_of (object_of es w) ≡ number
object_held number w [] a h = absurd (cc)
object_held number w (e ∷ es) a h = split (e.word == w) refl (object_held number w es (λ k d lt. a (suc k) d (omega arith))) h
  where
    split : (b : Bool) → (e.word == w) ≡ b → (is_some (object_of es w) ≡ true → reference_of (object_of es w) ≡ number) → is_some (if b then Some e.object else object_of es w) ≡ true → reference_of (if b then Some e.object else object_of es w) ≡ number
    split true q more h = a 0 e (omega arith) (eqb-true e.word w q)
    split false q more h = more h

module _ (globals : List GlobalCells) (first : ℕ) (apart : Apart globals) (number place : ℕ) (c : CellAt) (is : IsCell globals number place c) (hs : List CellAt) (es : List HeldMutex) (h : AreHeld globals first hs es) (a : All (λ e. e.word ≡ first + place → e.object ≡ number) es) where
  pub held_is : is_held hs c ≡ is_some (object_of es (first + place))
  held_is = is_held_same globals first apart number place c is hs es h a

  pub without_is : AreHeld globals first (without_mutex hs c) (without es (first + place))
  without_is = without_same globals first apart number place c is hs es h a
