-- What cells hold by the events of a run, and as words.
use Rattle.sharc_history_laws.proofs.{Imports.{◌≡◌, ℕ, ℤ, ◌+◌, ◌*◌, ◌<◌, ◌⊎◌, true, false, cond, ◌∷◌, reverse, Some, sym, ap, subst, arith, slice_index, find, CellAt, SourceEvent, Resolution, Code, Width, Shape, int_of, holds, Machine, Global, reference, Elements, changes, value_left, value_by, value_after, initial_value, Targets, ObjectType, Content, Pointer, field_in, Labels, Number, Exactly, Within, LessNumber, IsWellTyped, World, NumberStands, wider}, Emptying.IsEmptied, Lists.{Newest, latest_is}, Locked.{Names, names_one}, OneMode.place_of, Shared.number_of, Sparing.is_value}
use Rattle.sharc_invariant.specs.Words.{cell_at}

-- ---- values by the events, the newest event first
abbrev pub newest_value : Resolution → Newest → CellAt → ℤ
newest_value r L c = value_by (initial_value r c.object) (find (changes c) L)

pub value_is : (r : Resolution) (L : Newest) (c : CellAt) → value_after r (reverse L) c ≡ newest_value r L c
value_is r L c = ap (value_by (initial_value r c.object)) (latest_is (changes c) L)

pub value_changed : (r : Resolution) (e : SourceEvent) (L : Newest) (c : CellAt) → changes c e ≡ true → newest_value r (e ∷ L) c ≡ value_left e.act
value_changed r e L c is = ap (λ b. value_by (initial_value r c.object) (cond b (Some e) (find (changes c) L))) is

pub value_kept : (r : Resolution) (e : SourceEvent) (L : Newest) (c : CellAt) → changes c e ≡ false → newest_value r (e ∷ L) c ≡ newest_value r L c
value_kept r e L c is = ap (λ b. value_by (initial_value r c.object) (cond b (Some e) (find (changes c) L))) is

-- ---- values of words
-- what a word is as the content of a cell: an integer, or a reference to an object with its elements
abbrev pub value_held : Content → Elements → ℕ → ℤ
value_held (Pointer f) T v = reference v (T v)
value_held _ T v = int_of v

-- a cell of a live object of this world
pub record IsCellOf (code : Code) (w : World) (cells : ℕ → ℕ) (c : CellAt) : Type 0 where
  pub live : (w.obj (number_of c.object)).live ≡ true
  pub inside : place_of code c.object c.cell < cells (number_of c.object)
  pub named : Names code c (number_of c.object) (2 * (number_of c.object + 1) + place_of code c.object c.cell)

abbrev pub content_of : Targets → Code → World → CellAt → Content
content_of x code w c = (field_in x (w.obj (number_of c.object)).ty (place_of code c.object c.cell)).holds

-- the word of a cell
abbrev pub word_of_cell : Code → Shape → CellAt → ℕ
word_of_cell code s c = cell_at s (number_of c.object) (place_of code c.object c.cell)

-- each cell of a live object that holds a value holds what the events left there, but where a Free empties its object
abbrev pub Contents : Resolution → Targets → Code → Shape → Newest → Elements → Global Machine → World → (ℕ → ℕ) → Type 0
Contents r x code s L T g w cells = (c : CellAt) → IsCellOf code w cells c → is_value (content_of x code w c) ≡ true
    → (newest_value r L c ≡ value_held (content_of x code w c) T (slice_index g.words (word_of_cell code s c))) ⊎ IsEmptied code g (number_of c.object)

-- one cell has these numbers
pub one_cell : (x : Targets) (code : Code) (ls : Labels) (wt : IsWellTyped x code ls) (c d : CellAt) → Names code c (number_of c.object) (2 * (number_of c.object + 1) + place_of code c.object c.cell) → Names code d (number_of d.object) (2 * (number_of d.object + 1) + place_of code d.object d.cell)
    → number_of c.object ≡ number_of d.object → place_of code c.object c.cell ≡ place_of code d.object d.cell → c ≡ d
one_cell x code ls wt c d p q o j =
    let at : 2 * (number_of d.object + 1) + place_of code d.object d.cell ≡ 2 * (number_of c.object + 1) + place_of code c.object c.cell = omega arith in
    names_one x code ls wt c d (number_of c.object) (2 * (number_of c.object + 1) + place_of code c.object c.cell) p
    (subst (λ n. Names code d n (2 * (number_of c.object + 1) + place_of code c.object c.cell)) (sym o) (subst (Names code d (number_of d.object)) at q))

-- a number that fits a type is held by it
pub fits_in : (x : Targets) (elements refs : ℕ → ℕ) (types : ℕ → ObjectType) (names : ℕ → ℤ) (z : ℤ) (a : Number) (w : Width) → LessNumber a (Within w) → NumberStands x elements refs types names z a → holds w z ≡ true
fits_in x elements refs types names z (Within v) w h k = wider v w z h k
fits_in x elements refs types names z (Exactly y) w h k = subst (λ (y : ℤ). holds w y ≡ true) (sym k) h
fits_in x elements refs types names z _ w h k = absurd (cc)
