-- What the cells of the globals hold at first is what their definitions say.
use Rattle.sharc_history_laws.proofs.{Imports.{◌≡◌, ℕ, ◌+◌, ◌-◌, ◌*◌, ◌<◌, ◌≤◌, ◌≢◌, ◌⊎◌, inl, Bool, true, false, [], refl, sym, ap, ◌∙◌, subst, arith, nat_tests, get_or-map-range_with_len, slice_index, nat_lt, nat_le, ◌==◌, CellAt, Object, Resolution, Code, Shape, int_of, Fits, words_of, opening_words, opens_with, opening_cell, first_global, first_heap_word, IsInGlobal, place_after, table_of, initial_value, Targets, Field, Content, Integer, MutexWord, Waiters, Pointer, field_in, global_field, globals_target, Labels, IsWellTyped, Initial, first_world, the_globals, CodeBegins, BeginsWith}, Consists.{Consists, at_first, none_live}, Contents.{newest_value, value_held, IsCellOf, content_of, word_of_cell, Contents}, Emptying.IsEmptied, Locked.Names, OneMode.place_of, Shared.number_of, Sparing.{is_value, holds_waiters}}
use Rattle.sharc_invariant.specs.Words.{cell_at}

module _ (code : Code) (s : Shape) where
  other : (a b : ℕ) → (a ≡ b → ⊥) → (a == b) ≡ false
  other a b ne = grind (arith, nat_tests)

  -- the word of cell j of the globals
  opens : (i : ℕ) → first_global s ≤ i → i < first_heap_word s → i < words_of s → slice_index (opening_words code s) i ≡ slice_index code.initial.items (i - first_global s)
  opens i low high lt =
      let a : (i == 1) ≡ false = other i 1 (λ e. omega arith) in
      let b : (i == 2) ≡ false = other i 2 (λ e. omega arith) in
      let c : (i == 4) ≡ false = other i 4 (λ e. omega arith) in
      let d : (i == 5) ≡ false = other i 5 (λ e. omega arith) in
      let p : nat_le (first_global s) i ≡ true = grind (arith, nat_tests) in
      let q : nat_lt i (first_heap_word s) ≡ true = grind (arith, nat_tests) in
      let e : opens_with code s i ≡ opening_cell code s i = rw (a, b, c, d) refl in
      let f : opening_cell code s i ≡ slice_index code.initial.items (i - first_global s) = rw (p, q) refl in
      get_or-map-range_with_len (opens_with code s) 0 (words_of s) i i 0 lt (omega arith) ∙ e ∙ f

module _ (begins : CodeBegins) (x : Targets) (code : Code) (s : Shape) (ls : Labels) (wt : IsWellTyped x code ls) (fits : Fits code s) (r : Resolution) (first : BeginsWith r code) where
  abbrev start : Consists x code s ls []
  start = at_first begins x code s ls wt fits

  -- the field of a cell of the globals
  global_is : (j : ℕ) → field_in x (the_globals x).ty j ≡ global_field x j
  global_is j = by (globals_target x == globals_target x) (same (globals_target x))
    where
      same : (n : ℕ) → (n == n) ≡ true
      same n = grind (arith, nat_tests)

      by : (b : Bool) → b ≡ true → (elim b as (λ b. Field) [ true ↦ global_field x j | false ↦ Rattle.sharc_invariant.specs.Types.field_of_cell x (globals_target x) j ]) ≡ global_field x j
      by true e = refl
      by false e = absurd (let z : false ≡ true = e in cc)

  -- the place of a cell of a global is one of that global
  inside_global : (q : ℕ) (c : CellAt) → c.object ≡ Object.Global q → IsCellOf code (first_world x) start.state.cells c → IsInGlobal code.globals.items q (2 * (0 + 1) + place_of code c.object c.cell)
  inside_global q c is k =
      let o : number_of c.object ≡ 0 = ap number_of is in
      let j = place_of code c.object c.cell in
      let named : Names code (record { object = Object.Global q; cell = c.cell }) 0 (2 * (0 + 1) + j) = subst (λ b. Names code (record { object = b; cell = c.cell }) 0 (2 * (0 + 1) + j)) is (subst (λ n. Names code c n (2 * (n + 1) + j)) o k.named) in
      named.1

  held : (k : Content) (v : ℕ) → is_value k ≡ true → Initial k v → int_of v ≡ value_held k (table_of code s []) v
  held (Integer w) v is e = refl
  held (Pointer f) v is e = subst (λ v. int_of v ≡ value_held (Pointer f) (table_of code s []) v) (sym e) refl
  held MutexWord v is e = absurd (let z : false ≡ true = is in cc)
  held Waiters v is e = absurd (let z : false ≡ true = is in cc)

  -- the word of a cell of a global
  pub record Opened (c : CellAt) : Type 0 where
    pub word : slice_index (place_after code s []).words (word_of_cell code s c) ≡ slice_index code.initial.items (place_of code c.object c.cell)
    pub content : content_of x code (first_world x) c ≡ (global_field x (place_of code c.object c.cell)).holds

  pub opened : (q : ℕ) (c : CellAt) → c.object ≡ Object.Global q → IsCellOf code (first_world x) start.state.cells c → Opened c
  opened q c is k =
      let o : number_of c.object ≡ 0 = ap number_of is in
      let j = place_of code c.object c.cell in
      let inside = inside_global q c is k in
      let word : word_of_cell code s c ≡ cell_at s 0 j = ap (λ o. cell_at s o j) o in
      let low = inside.low in
      let high = inside.high in
      let range = wt.globals.high q inside.known in
      let begun = wt.globals.low q inside.known in
      let few = fits.globals in
      let below : cell_at s 0 j < words_of s = omega arith in
      let index : cell_at s 0 j - first_global s ≡ j = omega arith in
      let opened : slice_index (opening_words code s) (cell_at s 0 j) ≡ slice_index code.initial.items j = opens code s (cell_at s 0 j) (omega arith) (omega arith) below ∙ ap (slice_index code.initial.items) index in
      record {
        word = ap (slice_index (opening_words code s)) word ∙ opened;
        content = ap (λ o. (field_in x ((first_world x).obj o).ty j).holds) o ∙ ap (λ (f : Field). f.holds) (global_is j);
      }

  at_global : (q : ℕ) (c : CellAt) → c.object ≡ Object.Global q → IsCellOf code (first_world x) start.state.cells c → is_value (content_of x code (first_world x) c) ≡ true
      → newest_value r [] c ≡ value_held (content_of x code (first_world x) c) (table_of code s []) (slice_index (place_after code s []).words (word_of_cell code s c))
  at_global q c is k value =
      let j = place_of code c.object c.cell in
      let inside = inside_global q c is k in
      let low = inside.low in
      let value_is : int_of (slice_index code.initial.items (2 * (0 + 1) + j - 2)) ≡ initial_value r (Object.Global q) = first q (2 * (0 + 1) + j) inside in
      let place : 2 * (0 + 1) + j - 2 ≡ j = omega arith in
      let there = opened q c is k in
      let v = slice_index code.initial.items j in
      ap (initial_value r) is ∙ sym value_is ∙ ap (λ n. int_of (slice_index code.initial.items n)) place
      ∙ held (global_field x j).holds v (ap is_value (sym there.content) ∙ value) (wt.globals.initial j)
      ∙ ap (λ k. value_held k (table_of code s []) v) (sym there.content)
      ∙ ap (value_held (content_of x code (first_world x) c) (table_of code s [])) (sym there.word)

  -- nobody waits in a word of waiters
  pub waiters_first : (q : ℕ) (c : CellAt) → c.object ≡ Object.Global q → IsCellOf code (first_world x) start.state.cells c → holds_waiters (content_of x code (first_world x) c) ≡ true → slice_index (place_after code s []).words (word_of_cell code s c) ≡ 0
  waiters_first q c is k holds =
      let there = opened q c is k in
      there.word ∙ zero_word (global_field x (place_of code c.object c.cell)).holds _ (ap holds_waiters (sym there.content) ∙ holds) (wt.globals.initial (place_of code c.object c.cell))
    where
      zero_word : (k : Content) (v : ℕ) → holds_waiters k ≡ true → Initial k v → v ≡ 0
      zero_word Waiters v e h = h
      zero_word _ v e h = absurd (let z : false ≡ true = e in cc)

  -- no other object is there
  pub only_globals : (n : ℕ) (c : CellAt) → c.object ≡ Object.Made n → IsCellOf code (first_world x) start.state.cells c → ⊥
  only_globals n c is k =
      let named : (n ≡ number_of c.object) × (number_of c.object ≢ 0) × (2 * (number_of c.object + 1) + place_of code c.object c.cell ≡ Rattle.sharc_code.specs.Layout.cell_of n c.cell) =
      subst (λ b. Names code (record { object = b; cell = c.cell }) (number_of c.object) (2 * (number_of c.object + 1) + place_of code c.object c.cell)) is k.named in
      none_live begins x code s ls wt fits (number_of c.object) named.1 k.live

  pub contents_first : Contents r x code s [] (table_of code s []) (place_after code s []) start.world start.state.cells
  contents_first c k value = by c.object refl
    where
      by : (b : Object) → c.object ≡ b → (newest_value r [] c ≡ value_held (content_of x code (first_world x) c) (table_of code s []) (slice_index (place_after code s []).words (word_of_cell code s c))) ⊎ IsEmptied code (place_after code s []) (number_of c.object)
      by (Object.Global q) is = inl (at_global q c is k value)
      by (Object.Made n) is = absurd (only_globals n c is k)
