-- The first words of the globals, one after the other, are those that their definitions say.
use Rattle.sharc_sound_laws.proofs.Imports.{◌≡◌, ℕ, ℤ, pos, negsuc, zero, suc, ◌+◌, ◌-◌, ◌*◌, ◌^◌, ◌<◌, ◌≤◌, inl, inr, Bool, true, false, cond, length, List, [], ◌∷◌, ◌++◌, take, Some, None, refl, sym, ap, ◌∙◌, subst, arith, nat_tests, ◌==◌, nat_lt, slice_index, slice_get, replicate, neg_ℤ, unsigned_abs, AllByRecursion, Base, Void, Struct, WrittenType, Constant, Number, Character, Null, GlobalDefinition, GlobalForm, Initial, declared_kind, Resolution, globals_in, IsHeldBy, MeetsInitial, MeetsGlobal, MeetsGlobals, GlobalCells, word_of, int_of, IsInGlobal, element_cells, constant_value, form_value, global_value, cells_in, granules_in, globals_from, first_words, all_first_words, MadeCodeBegins, zeros}
use Rattle.sharc_tree.specs.declared.ctype.Base.TheVariants.{Mutex}

-- ---- lists
front : (n : ℕ) (xs ys : List ℕ) (k : ℕ) → k < n → n ≤ length xs → slice_index (take n xs ++ ys) k ≡ slice_index xs k
front zero xs ys k lt le = absurd (omega arith)
front (suc n) [] ys k lt le = absurd (omega arith)
front (suc n) (x ∷ xs) ys zero lt le = refl
front (suc n) (x ∷ xs) ys (suc k) lt le = front n xs ys k (omega arith) (omega arith)

behind : (n : ℕ) (xs ys : List ℕ) (k : ℕ) → n ≤ length xs → slice_index (take n xs ++ ys) (n + k) ≡ slice_index ys k
behind zero xs ys k le = let e : 0 + k ≡ k = omega arith in ap (slice_index ys) e
behind (suc n) [] ys k le = absurd (omega arith)
behind (suc n) (x ∷ xs) ys k le = let e : suc n + k ≡ suc (n + k) = omega arith in ap (slice_index (x ∷ (take n xs ++ ys))) e ∙ behind n xs ys k (omega arith)

so_many : (n : ℕ) → length {A = ℕ} (replicate n 0) ≡ n
so_many zero = refl
so_many (suc n) = ap suc (so_many n)

-- ---- values
-- an integer that 63 bits and a sign hold goes into a word and comes back
abbrev sign_of : Bool → ℤ → ℤ → ℤ
sign_of true a b = a
sign_of false a b = b

plus_back : (n : ℕ) → n < 2 ^ 63 → int_of (word_of (pos n)) ≡ pos n
plus_back n lt = let e : nat_lt n (2 ^ 63) ≡ true = grind (arith, nat_tests) in ap (λ b. sign_of b (pos n) (negsuc (2 ^ 64 - suc n))) e

minus_back : (n : ℕ) → n ≤ 2 ^ 63 → int_of (word_of (neg_ℤ (pos n))) ≡ neg_ℤ (pos n)
minus_back zero le = refl
minus_back (suc n) le =
    let v = 2 ^ 64 - suc n in
    let e : nat_lt (2 ^ 64 - suc n) (2 ^ 63) ≡ false = grind (arith, nat_tests) in
    let q : 2 ^ 64 - suc (2 ^ 64 - suc n) ≡ n = omega arith in
    ap (λ b. sign_of b (pos (2 ^ 64 - suc n)) (negsuc (2 ^ 64 - suc (2 ^ 64 - suc n)))) e ∙ ap negsuc q

held_plus : (b : Base) (n : ℕ) → IsHeldBy b false n → n < 2 ^ 63
held_plus (Struct s) n h = omega arith
held_plus _ n h = omega arith

held_minus : (b : Base) (n : ℕ) → IsHeldBy b true n → n ≤ 2 ^ 63
held_minus (Struct s) n h = omega arith
held_minus _ n h = omega arith

signed_back : (b : Base) (minus : Bool) (n : ℕ) → IsHeldBy b minus n → int_of (word_of (cond minus (neg_ℤ (pos n)) (pos n))) ≡ cond minus (neg_ℤ (pos n)) (pos n)
signed_back b true n h = minus_back n (held_minus b n h)
signed_back b false n h = plus_back n (held_plus b n h)

abbrev IsUnsigned : GlobalForm → Type 0
IsUnsigned (Initial span minus (Number k)) = (n : ℕ) × (k.value ≡ pos n)
IsUnsigned _ = Unit {0}

constant_back : (b : Base) (minus : Bool) (c : Constant) (n : ℕ) → constant_value c ≡ pos n → IsHeldBy b minus n → int_of (word_of (cond minus (neg_ℤ (constant_value c)) (constant_value c))) ≡ cond minus (neg_ℤ (constant_value c)) (constant_value c)
constant_back b minus c n e h = subst (λ z. int_of (word_of (cond minus (neg_ℤ z) z)) ≡ cond minus (neg_ℤ z) z) (sym e) (signed_back b minus n h)

null_back : (minus : Bool) → int_of (word_of (cond minus (neg_ℤ (pos 0)) (pos 0))) ≡ cond minus (neg_ℤ (pos 0)) (pos 0)
null_back true = refl
null_back false = refl

form_back : (w : WrittenType) (form : GlobalForm) → IsUnsigned form → MeetsInitial w form → int_of (word_of (form_value form)) ≡ form_value form
form_back w (Initial span minus (Number k)) u (inl h) =
    let same : unsigned_abs k.value ≡ h.1 = cc in
    let n : u.0 ≡ h.1 = ap unsigned_abs (sym u.1) ∙ same in
    constant_back w.ctype.base minus (Number k) u.0 u.1 (subst (IsHeldBy w.ctype.base minus) (sym n) h.3)
form_back w (Initial span minus (Character byte)) u (inl h) = let same : byte ≡ h.1 = cc in constant_back w.ctype.base minus (Character byte) byte refl (subst (IsHeldBy w.ctype.base minus) (sym same) h.3)
form_back w (Initial span minus Null) u (inl h) = absurd (let f : None ≡ Some h.1 = h.2 in cc)
form_back w (Initial span minus c) u (inr h) = subst (λ c. int_of (word_of (cond minus (neg_ℤ (constant_value c)) (constant_value c))) ≡ cond minus (neg_ℤ (constant_value c)) (constant_value c)) (sym h.1) (null_back minus)
form_back w _ u h = refl

-- ---- one global
-- but for the first cell it begins at 0: one that has an initial value has one cell
module _ (r : Resolution) (g : GlobalDefinition) (unsigned : IsUnsigned g.form) (meets : MeetsGlobal g) where
  one_or_zero : (k : ℕ) → 0 < k → k < cells_in r g → form_value g.form ≡ pos 0
  one_or_zero k lt below = by g.form refl meets.initial
    where
      single : (span : _) (minus : Bool) (c : Constant) → g.form ≡ Initial span minus c → element_cells r (declared_kind g.declaration.written) ≡ 1 → ⊥
      single span minus c is one =
          let all : cells_in r g ≡ 1 = ap (λ f. Rattle.sharc_ctype.specs.Globals.elements_of f * element_cells r (declared_kind g.declaration.written)) is ∙ ap (λ n. 1 * n) one in
          omega arith

      by : (f : GlobalForm) → g.form ≡ f → MeetsInitial g.declaration.written f → form_value g.form ≡ pos 0
      by (Initial span minus c) is (inl h) = absurd (single span minus c is (integer_cells h.0))
        where
          integer_cells : Rattle.sharc_ctype_laws.specs.Constraints.IsInteger (declared_kind g.declaration.written) → element_cells r (declared_kind g.declaration.written) ≡ 1
          integer_cells k = ap (element_cells r) k.2 ∙ integral k.0 k.1
            where
              integral : (b : Base) → Rattle.std.specs.Prelude.IsTrue (Rattle.sharc_names.specs.Kinds.is_integral b) → element_cells r (Rattle.sharc_names.specs.Kinds.object b 0) ≡ 1
              integral Mutex h = absurd (let f : false ≡ true = h in cc)
              integral Void h = absurd (let f : false ≡ true = h in cc)
              integral (Struct s) h = absurd (let f : false ≡ true = h in cc)
              integral _ h = refl
      by (Initial span minus c) is (inr h) = absurd (single span minus c is (pointer_cells h.0))
        where
          pointer_cells : Rattle.sharc_ctype_laws.specs.Constraints.IsPointer (declared_kind g.declaration.written) → element_cells r (declared_kind g.declaration.written) ≡ 1
          pointer_cells k = ap (element_cells r) k.2 ∙ (let e : (k.1 + 1 == 0) ≡ false = some k.1 in ap (λ b. cond b (Rattle.sharc_meaning.specs.Cells.base_cells r k.0) 1) e)
            where
              some : (n : ℕ) → (n + 1 == 0) ≡ false
              some n = grind (arith, nat_tests)
      by _ is h = ap form_value is

  granules_hold : cells_in r g ≤ 2 * granules_in r g
  granules_hold = omega arith

  long_enough : (w : ℕ) → 2 * granules_in r g ≤ length (w ∷ replicate (2 * granules_in r g) 0)
  long_enough w = let e = so_many (2 * granules_in r g) in omega arith

  first_at : (ws : List ℕ) (k : ℕ) → k < cells_in r g → int_of (slice_index (first_words r g ++ ws) k) ≡ form_value g.form
  first_at ws k lt = ap int_of (front (2 * granules_in r g) (word_of (form_value g.form) ∷ replicate (2 * granules_in r g) 0) ws k (omega (arith, granules_hold)) (long_enough (word_of (form_value g.form)))) ∙ at k lt
    where
      at : (k : ℕ) → k < cells_in r g → int_of (slice_index (word_of (form_value g.form) ∷ replicate (2 * granules_in r g) 0) k) ≡ form_value g.form
      at zero lt = form_back g.declaration.written g.form unsigned meets.initial
      at (suc n) lt = ap int_of (zeros (2 * granules_in r g) n) ∙ sym (one_or_zero (suc n) (omega arith) lt)

  next_at : (ws : List ℕ) (k : ℕ) → slice_index (first_words r g ++ ws) (2 * granules_in r g + k) ≡ slice_index ws k
  next_at ws k = behind (2 * granules_in r g) (word_of (form_value g.form) ∷ replicate (2 * granules_in r g) 0) ws k (long_enough (word_of (form_value g.form)))

-- ---- all of them
abbrev AllUnsigned : List GlobalDefinition → Type 0
AllUnsigned gs = (n : ℕ) (d : GlobalDefinition) → slice_get gs n ≡ Some d → IsUnsigned d.form

module _ (r : Resolution) where
  low_of : (at : ℕ) (gs : List GlobalDefinition) (n place : ℕ) → IsInGlobal (globals_from r at gs) n place → 2 * at ≤ place
  low_of at [] n place h = let k = h.known in absurd (omega arith)
  low_of at (g ∷ rest) zero place h = let l = h.low in omega arith
  low_of at (g ∷ rest) (suc n) place h = let k = h.known in let l = low_of (at + granules_in r g) rest n place (record { known = omega arith; low = h.low; high = h.high }) in omega arith

  all_begin : (at : ℕ) (gs : List GlobalDefinition) → AllUnsigned gs → AllByRecursion MeetsGlobal gs → (n place : ℕ) → IsInGlobal (globals_from r at gs) n place
      → int_of (slice_index (all_first_words r gs) (place - 2 * at)) ≡ global_value (slice_get gs n)
  all_begin at [] u meets n place h = let k = h.known in absurd (omega arith)
  all_begin at (g ∷ rest) u meets zero place h = let l = h.low in let k = h.high in first_at r g (u 0 g refl) meets.0 (all_first_words r rest) (place - 2 * at) (omega arith)
  all_begin at (g ∷ rest) u meets (suc n) place h =
      let k = h.known in
      let inside : IsInGlobal (globals_from r (at + granules_in r g) rest) n place = record { known = omega arith; low = h.low; high = h.high } in
      let l = low_of (at + granules_in r g) rest n place inside in
      let split : place - 2 * at ≡ 2 * granules_in r g + (place - 2 * (at + granules_in r g)) = omega arith in
      ap (λ j. int_of (slice_index (all_first_words r (g ∷ rest)) j)) split
      ∙ ap int_of (next_at r g (u 0 g refl) meets.0 (all_first_words r rest) (place - 2 * (at + granules_in r g)))
      ∙ all_begin (at + granules_in r g) rest (λ n d e. u (suc n) d e) meets.1 n place inside

unsigned_form : (f : GlobalForm) → ((span : _) (minus : Bool) (k : _) → f ≡ Initial span minus (Number k) → (n : ℕ) × (k.value ≡ pos n)) → IsUnsigned f
unsigned_form (Initial span minus (Number k)) h = h span minus k refl
unsigned_form _ h = tt

pub begins_with : MeetsGlobals → MadeCodeBegins
begins_with meets m resolved unsigned flat flattens code is g place inside =
    let gs = globals_in m.typed.program.items in
    let initial : code.initial.items ≡ all_first_words m.typed gs = ap (λ v. v.items) (is.generated.initial ∙ is.made.initial) ∙ flattens.initial in
    let globals : code.globals.items ≡ globals_from m.typed 1 gs = ap (λ v. v.items) (is.generated.globals ∙ is.made.globals) ∙ flattens.globals in
    let u : AllUnsigned gs = λ n d e. unsigned_form d.form (λ span minus k q. unsigned n d e span minus k q) in
    ap (λ (ws : List ℕ). int_of (slice_index ws (place - 2))) initial
    ∙ all_begin m.typed 1 gs u (meets m.typed.program resolved.typed) g place (subst (λ (gs : List GlobalCells). IsInGlobal gs g place) globals inside)
