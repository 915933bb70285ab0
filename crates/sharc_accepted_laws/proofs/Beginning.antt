-- What the cells of globals hold at first is a value of their content.
use Rattle.sharc_accepted_laws.proofs.{Imports.{◌≡◌, inl, inr, ℕ, zero, suc, ℤ, pos, negsuc, ◌-◌, ◌*◌, ◌^◌, ◌<◌, ◌≤◌, Bool, true, false, cond, List, [], ◌∷◌, ◌++◌, length, take, replicate, get_or as slice_index_or, refl, ap, sym, ◌∙◌, subst, arith, Some, to_z-of_z, lt-ltb, false≢true, w64, AllByRecursion, FitsSigned, neg_ℤ, slice_index, Base, Constant, Number, Character, Null, GlobalDefinition, GlobalForm, object, is_pointer, is_integral, declared_kind, Char, Long, word_of, holds, elements_of, Resolution, globals_in, IsInteger, IsHeldBy, MeetsInitial, MeetsGlobal, number_of, MeetsGlobals, constant_value, form_value, Assignment, base_as_width, cells_in, granules_in, first_words, all_first_words, FieldMode, Content, Integer, Pointer, Field, no_field, Initial, IsCounted, CountedForm, GlobalsBegin, declared_content, base_fields, top_mode, global_element, repeated, global_fields, all_global_fields, same_some, none_some}, Laying.global_count}

abbrev Starts : List Field → List ℕ → Type 0
Starts fields words = (j : ℕ) → Initial (slice_index_or fields j no_field).holds (slice_index words j)

-- ---- all that is 0
zero_fits : (c : Content) → Initial c 0
zero_fits (Integer Char) = refl
zero_fits (Pointer to) = refl
zero_fits _ = refl

joined : (a b : List Field) (x y : List ℕ) → length a ≡ length x → Starts a x → Starts b y → Starts (a ++ b) (x ++ y)
joined [] b [] y same left right j = right j
joined [] b (w ∷ x) y same left right j = absurd (omega (arith, same))
joined (f ∷ a) b [] y same left right j = absurd (omega (arith, same))
joined (f ∷ a) b (w ∷ x) y same left right zero = left zero
joined (f ∷ a) b (w ∷ x) y same left right (suc j) = joined a b x y (omega (arith, same)) (λ k. left (suc k)) right j

zero_at : (n k j : ℕ) → slice_index (take n (replicate k 0)) j ≡ 0
zero_at (suc n) (suc k) (suc j) = zero_at n k j
zero_at _ _ _ = refl

-- all but the first are
first_alone : (fields : List Field) (w n k : ℕ) → Initial (slice_index_or fields 0 no_field).holds w → Starts fields (take n (w ∷ replicate k 0))
first_alone fields w zero k first j = zero_fits (slice_index_or fields j no_field).holds
first_alone fields w (suc n) k first zero = first
first_alone fields w (suc n) k first (suc j) = subst (Initial (slice_index_or fields (suc j) no_field).holds) (sym (zero_at n k j)) (zero_fits (slice_index_or fields (suc j) no_field).holds)

-- ---- integers
counted_value : (c : Constant) (n : ℕ) → number_of c ≡ Some n → IsCounted c → constant_value c ≡ pos n
counted_value (Number k) n is counted = counted ∙ ap pos (same_some _ _ is)
counted_value (Character byte) n is counted = ap pos (same_some _ _ is)
counted_value Null n is counted = absurd (none_some n is)

record IsHeld (b : Base) (z : ℤ) : Type 0 where
  held : holds (base_as_width b) z ≡ true
  fits : FitsSigned w64 z

held_pos : (b : Base) (n : ℕ) → is_integral b ≡ true → n < 2 ^ 63 → holds (base_as_width b) (pos n) ≡ true → IsHeld b (pos n)
held_pos b n is low held = record { held = held; fits = record { sfits = low } }

held_neg : (b : Base) (n : ℕ) → is_integral b ≡ true → n < 2 ^ 63 → holds (base_as_width b) (negsuc n) ≡ true → IsHeld b (negsuc n)
held_neg b n is low held = record { held = held; fits = record { sfits = low } }

is_held : (b : Base) (minus : Bool) (n : ℕ) → is_integral b ≡ true → IsHeldBy b minus n → IsHeld b (cond minus (neg_ℤ (pos n)) (pos n))
is_held Base.Int false n is h = held_pos Base.Int n is (omega (arith, h)) (lt-ltb n (2 ^ 31) h)
is_held Base.Char false n is h = held_pos Base.Char n is (omega (arith, h)) (lt-ltb n (2 ^ 7) h)
is_held Base.Long false n is h = held_pos Base.Long n is (omega (arith, h)) (lt-ltb n (2 ^ 63) h)
is_held Base.Int true (suc n) is h = held_neg Base.Int n is (omega (arith, h)) (lt-ltb n (2 ^ 31) (omega (arith, h)))
is_held Base.Char true (suc n) is h = held_neg Base.Char n is (omega (arith, h)) (lt-ltb n (2 ^ 7) (omega (arith, h)))
is_held Base.Long true (suc n) is h = held_neg Base.Long n is (omega (arith, h)) (lt-ltb n (2 ^ 63) (omega (arith, h)))
is_held Base.Mutex minus n is h = absurd (false≢true is)
is_held Base.Void minus n is h = absurd (false≢true is)
is_held (Base.Struct name) minus n is h = absurd (false≢true is)
is_held k true zero is h = held_pos k zero is (omega arith) refl

-- an integer that is held begins at a value of its width
integer_begins : (b : Base) (z : ℤ) → IsHeld b z → Initial (Integer (base_as_width b)) (word_of z)
integer_begins b z h = ap (holds (base_as_width b)) (to_z-of_z h.fits) ∙ h.held

signed_value : (c : Constant) (minus : Bool) (n : ℕ) → constant_value c ≡ pos n → cond minus (neg_ℤ (constant_value c)) (constant_value c) ≡ cond minus (neg_ℤ (pos n)) (pos n)
signed_value c minus n is = ap (λ z. cond minus (neg_ℤ z) z) is

-- ---- the first cell of a global
-- of an element that is an integer
integer_fields : (m : Assignment) (q : FieldMode) (b : Base) → is_integral b ≡ true → (slice_index_or (base_fields m q b) 0 no_field).holds ≡ Integer (base_as_width b)
integer_fields m q Base.Mutex is = absurd (false≢true is)
integer_fields m q _ is = cc

pub is_some_base : (b c : Base) (n k : ℕ) → object b n ≡ object c k → b ≡ c
is_some_base b c n k h = cc

integer_element : (m : Assignment) (g : GlobalDefinition) → IsInteger (declared_kind g.declaration.written)
    → (is_integral g.declaration.written.ctype.base ≡ true) × ((slice_index_or (global_element m g) 0 no_field).holds ≡ Integer (base_as_width g.declaration.written.ctype.base))
integer_element m g (b, is, kind) =
    let same : g.declaration.written.ctype.base ≡ b = is_some_base _ b _ 0 kind in
    let integral : is_integral g.declaration.written.ctype.base ≡ true = ap is_integral same ∙ is in
    let plain : is_pointer (declared_kind g.declaration.written) ≡ false = ap is_pointer kind in (
      integral,
      ap (λ z. (slice_index_or (cond z (record { mode = top_mode m g; holds = declared_content m 0 g.declaration } ∷ []) (base_fields m (top_mode m g) g.declaration.written.ctype.base)) 0 no_field).holds) plain
          ∙ integer_fields m (top_mode m g) g.declaration.written.ctype.base integral,
    )

first_holds : (m : Assignment) (g : GlobalDefinition) (c : Content) (n : ℕ) → elements_of g.form ≡ 1 → (slice_index_or (global_element m g) 0 no_field).holds ≡ c → (slice_index_or (repeated 1 (global_element m g) ++ replicate n no_field) 0 no_field).holds ≡ c
first_holds m g c n one is = by (global_element m g) n is
  where
    padded : (n : ℕ) → (slice_index_or (replicate n no_field) 0 no_field) ≡ no_field
    padded zero = refl
    padded (suc n) = refl

    by : (element : List Field) (n : ℕ) → (slice_index_or element 0 no_field).holds ≡ c → (slice_index_or (repeated 1 element ++ replicate n no_field) 0 no_field).holds ≡ c
    by [] n is = ap (λ (f : Field). f.holds) (padded n) ∙ is
    by (f ∷ rest) n is = is

begins_by : (m : Assignment) (g : GlobalDefinition) (f : GlobalForm) → g.form ≡ f → MeetsInitial g.declaration.written f → CountedForm f → Initial (slice_index_or (global_fields m g) 0 no_field).holds (word_of (form_value f))
begins_by m g (GlobalForm.Initial span minus c) is (inl integer) counted =
    let element = integer_element m g integer.0 in
    let value = signed_value c minus integer.1 (counted_value c integer.1 integer.2 counted) in
    let one : elements_of g.form ≡ 1 = ap elements_of is in
    let holds_is : (slice_index_or (global_fields m g) 0 no_field).holds ≡ Integer (base_as_width g.declaration.written.ctype.base) =
    ap (λ k. (slice_index_or (repeated k (global_element m g) ++ replicate (2 * granules_in m.typed g - cells_in m.typed g) no_field) 0 no_field).holds) one
    ∙ first_holds m g (Integer (base_as_width g.declaration.written.ctype.base)) (2 * granules_in m.typed g - cells_in m.typed g) one element.1 in
    subst (λ k. Initial k (word_of (form_value (GlobalForm.Initial span minus c)))) (sym holds_is)
    (subst (λ z. Initial (Integer (base_as_width g.declaration.written.ctype.base)) (word_of z)) (sym value)
    (integer_begins g.declaration.written.ctype.base (cond minus (neg_ℤ (pos integer.1)) (pos integer.1)) (is_held g.declaration.written.ctype.base minus integer.1 element.0 integer.3)))
begins_by m g (GlobalForm.Initial span minus c) is (inr pointer) counted =
    subst (λ w. Initial (slice_index_or (global_fields m g) 0 no_field).holds w) (sym (ap (λ x. word_of (cond minus (neg_ℤ (constant_value x)) (constant_value x))) pointer.1 ∙ null minus)) (zero_fits (slice_index_or (global_fields m g) 0 no_field).holds)
  where
    null : (b : Bool) → word_of (cond b (neg_ℤ (constant_value Null)) (constant_value Null)) ≡ 0
    null true = refl
    null false = refl
begins_by m g _ is meets counted = zero_fits (slice_index_or (global_fields m g) 0 no_field).holds

-- ---- all globals
words_count : (r : Resolution) (g : GlobalDefinition) → length (first_words r g) ≡ 2 * granules_in r g
words_count r g = taken (2 * granules_in r g) (2 * granules_in r g) (word_of (form_value g.form)) (omega arith)
  where
    zeros : (n k : ℕ) → n ≤ k → length {A = ℕ} (take n (replicate k 0)) ≡ n
    zeros zero k low = refl
    zeros (suc n) zero low = absurd (omega (arith, low))
    zeros (suc n) (suc k) low = ap suc (zeros n k (omega (arith, low)))

    taken : (n k : ℕ) (w : ℕ) → n ≤ k → length {A = ℕ} (take n (w ∷ replicate k 0)) ≡ n
    taken zero k w low = refl
    taken (suc n) k w low = ap suc (zeros n k (omega (arith, low)))

all_begin : (m : Assignment) (list : List GlobalDefinition) → AllByRecursion MeetsGlobal list → AllByRecursion (λ g. CountedForm g.form) list → Starts (all_global_fields m list) (all_first_words m.typed list)
all_begin m [] meets counted = λ j. zero_fits (Integer Long)
all_begin m (g ∷ rest) meets counted =
    joined (global_fields m g) (all_global_fields m rest) (first_words m.typed g) (all_first_words m.typed rest) (global_count m g ∙ sym (words_count m.typed g))
    (first_alone (global_fields m g) (word_of (form_value g.form)) (2 * granules_in m.typed g) (2 * granules_in m.typed g) (begins_by m g g.form refl meets.0.initial counted.0)) (all_begin m rest meets.1 counted.1)

pub globals_begin : MeetsGlobals → GlobalsBegin
globals_begin meets m typed counted j = all_begin m (globals_in m.typed.program.items) (meets m.typed.program typed) counted j
