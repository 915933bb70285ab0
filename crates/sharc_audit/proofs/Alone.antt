-- A text is one event line at most.
use Rattle.sharc_audit.proofs.{Imports.{◌≡◌, inl, inr, ℕ, suc, ◌<◌, ◌≤◌, ◌^◌, Bool, cond, false, List, [], ◌∷◌, ◌++◌, length, drop, refl, ap, sym, subst, ◌∙◌, arith, or_from, or_parts, ltb-true, ℤ, pos, negsuc, nat_eq, decimal, codes, list_any, bytes_eq, CellAt, Object, Global, Made, reference, EventLine, LineAct, Text, read_on, IsNumber, thread_most, IsObject, IsPair, IsSigned, Behind, Both, HasCell, HasValue, HasReference, IsThread, IsFunctionName, IsAct, IsEventLine, AreEventLines}, Numerals.{value_back, decimal_free_above, one_cut, no_cut}, Parts.{held_small, digits_no_minus, object_free}, Blanks.{word_of, cell_blank, value_blank, name_blank, number_blank}}

-- ---- numbers, cells and values

one_decimal : (a b : ℕ) → a < 2 ^ 64 → b < 2 ^ 64 → decimal a ≡ decimal b → a ≡ b
one_decimal a b h k e = sym (value_back a h) ∙ ap (read_on 0) e ∙ value_back b k

pub one_number : (low high : ℕ) (text : Text) (a b : ℕ) → high < 2 ^ 64 → IsNumber low high text a → IsNumber low high text b → a ≡ b
one_number low high text a b bound h k = one_decimal a b (let s = h.below in omega (arith, s, bound)) (let s = k.below in omega (arith, s, bound)) (sym h.is ∙ k.is)

abbrev first_byte : Text → ℕ
first_byte [] = 0
first_byte (x ∷ text) = x

one_object : (text : Text) (o p : Object) → IsObject o text → IsObject p text → o ≡ p
one_object text (Global i) (Global j) h k =
    let same : decimal i ≡ decimal j = ap (drop 1) (sym h.1 ∙ k.1) in
    ap Global (one_decimal i j (let s = h.0 in omega (arith, s)) (let s = k.0 in omega (arith, s)) same)
one_object text (Global i) (Made n) h k = absurd (let z : 103 ≡ 111 = ap first_byte (sym h.1 ∙ k.2) in omega (arith, z))
one_object text (Made n) (Global i) h k = absurd (let z : 111 ≡ 103 = ap first_byte (sym h.2 ∙ k.1) in omega (arith, z))
one_object text (Made n) (Made m) h k =
    let same : decimal n ≡ decimal m = ap (drop 1) (sym h.2 ∙ k.2) in
    ap Made (one_decimal n m (let s = h.1 in omega (arith, s)) (let s = k.1 in omega (arith, s)) same)

same_cell : (c d : CellAt) → c.object ≡ d.object → c.cell ≡ d.cell → c ≡ d
same_cell c d object cell =
    let first : c ≡ record { object = d.object; cell = c.cell } = ap (λ (o : Object). record { object = o; cell = c.cell }) object in
    let second : record { object = d.object; cell = c.cell } ≡ d = ap (λ (n : ℕ). record { object = d.object; cell = n }) cell in
    first ∙ second

one_cell : (text : Text) (c d : CellAt) → HasCell c text → HasCell d text → c ≡ d
one_cell text c d h k =
    let cuts = one_cut 46 h.object_text (decimal c.cell) k.object_text (decimal d.cell) (object_free c.object h.object_text h.object) (object_free d.object k.object_text k.object) (sym h.is ∙ k.is) in
    same_cell c d
    (one_object k.object_text c.object d.object (subst (IsObject c.object) cuts.0 h.object) k.object)
    (one_decimal c.cell d.cell (let s = h.cell in omega (arith, s)) (let s = k.cell in omega (arith, s)) cuts.1)

number_colon : (n : ℕ) → n ≤ thread_most → list_any (nat_eq 58) (decimal n) ≡ false
number_colon n h = decimal_free_above 58 n (omega arith) (omega (arith, h))

one_pair : (text : Text) (v w : ℤ) → IsPair text v → IsPair text w → v ≡ w
one_pair text v w h k =
    let cuts = one_cut 58 (decimal h.number) (decimal h.elements) (decimal k.number) (decimal k.elements) (number_colon h.number h.number_most) (number_colon k.number k.number_most) (sym h.is ∙ k.is) in
    let numbers = one_decimal h.number k.number (let s = h.number_most in omega (arith, s)) (let s = k.number_most in omega (arith, s)) cuts.0 in
    let elements = one_decimal h.elements k.elements (let s = h.elements_most in omega (arith, s)) (let s = k.elements_most in omega (arith, s)) cuts.1 in
    h.value ∙ ap (λ n. reference n h.elements) numbers ∙ ap (λ n. reference k.number n) elements ∙ sym k.value

-- a text without a colon is no pair
no_pair : (text : Text) (v : ℤ) → list_any (nat_eq 58) text ≡ false → IsPair text v → ⊥
no_pair text v free h = no_cut 58 (decimal h.number) (decimal h.elements) (sym (ap (list_any (nat_eq 58)) h.is) ∙ free)

signed_colon : (text : Text) (v : ℤ) → IsSigned text v → list_any (nat_eq 58) text ≡ false
signed_colon text (pos n) h = ap (list_any (nat_eq 58)) h.0 ∙ decimal_free_above 58 n (omega arith) (let s = held_small n h.1 in omega (arith, s))
signed_colon text (negsuc n) h =
    ap (list_any (nat_eq 58)) h.0
    ∙ or_from (nat_eq 58 45) (list_any (nat_eq 58) (decimal (suc n))) refl (decimal_free_above 58 (suc n) (omega arith) (let s = ltb-true n (2 ^ 63) h.1 in omega (arith, s)))

one_signed : (text : Text) (v w : ℤ) → IsSigned text v → IsSigned text w → v ≡ w
one_signed text (pos n) (pos m) h k = ap pos (one_decimal n m (let s = held_small n h.1 in omega (arith, s)) (let s = held_small m k.1 in omega (arith, s)) (sym h.0 ∙ k.0))
one_signed text (pos n) (negsuc m) h k = absurd (digits_no_minus n (decimal (suc m)) (let s = held_small n h.1 in omega (arith, s)) (sym h.0 ∙ k.0))
one_signed text (negsuc n) (pos m) h k = absurd (digits_no_minus m (decimal (suc n)) (let s = held_small m k.1 in omega (arith, s)) (sym k.0 ∙ h.0))
one_signed text (negsuc n) (negsuc m) h k =
    let tails : decimal (suc n) ≡ decimal (suc m) = ap (drop 1) (sym h.0 ∙ k.0) in
    let same = one_decimal (suc n) (suc m) (let s = ltb-true n (2 ^ 63) h.1 in omega (arith, s)) (let s = ltb-true m (2 ^ 63) k.1 in omega (arith, s)) tails in
    ap negsuc (omega (arith, same))

one_value : (text : Text) (v w : ℤ) → HasValue v text → HasValue w text → v ≡ w
one_value text v w (inl h) (inl k) = one_signed text v w h k
one_value text v w (inl h) (inr k) = absurd (no_pair text w (signed_colon text v h) k)
one_value text v w (inr h) (inl k) = absurd (no_pair text v (signed_colon text w k) h)
one_value text v w (inr h) (inr k) = one_pair text v w h k

zero_colon : (text : Text) → text ≡ codes "0" → list_any (nat_eq 58) text ≡ false
zero_colon text e = ap (list_any (nat_eq 58)) e

one_reference : (text : Text) (v w : ℤ) → HasReference v text → HasReference w text → v ≡ w
one_reference text v w (inl h) (inl k) = h.1 ∙ sym k.1
one_reference text v w (inl h) (inr k) = absurd (no_pair text w (zero_colon text h.0) k)
one_reference text v w (inr h) (inl k) = absurd (no_pair text v (zero_colon text k.0) h)
one_reference text v w (inr h) (inr k) = one_pair text v w h k

one_thread : (text : Text) (v w : ℤ) → IsThread v text → IsThread w text → v ≡ w
one_thread text v w h k = h.value ∙ ap pos (one_number 0 thread_most text h.number k.number (omega arith) h.is k.is) ∙ sym k.value

-- ---- acts by their parts

data Shape : Type 0 where
  cell_and_value : Shape
  a_reference : Shape
  a_cell : Shape
  a_spawn : Shape
  a_value : Shape
  a_thread : Shape
  nothing : Shape

abbrev no_cell : CellAt
no_cell = record { object = Global 0; cell = 0 }

abbrev cell_of : LineAct → CellAt
cell_of (LineAct.Read c v) = c
cell_of (LineAct.Write c v) = c
cell_of (LineAct.Lock c) = c
cell_of (LineAct.Unlock c) = c
cell_of _ = no_cell

abbrev value_of : LineAct → ℤ
value_of (LineAct.Read c v) = v
value_of (LineAct.Write c v) = v
value_of (LineAct.New r) = r
value_of (LineAct.Take r) = r
value_of (LineAct.Give r) = r
value_of (LineAct.Freed r) = r
value_of (LineAct.Spawn name v n) = v
value_of (LineAct.Started v) = v
value_of (LineAct.Join n) = n
value_of (LineAct.Print v) = v
value_of _ = pos 0

abbrev name_of : LineAct → Text
name_of (LineAct.Spawn name v n) = name
name_of _ = []

abbrev number_of : LineAct → ℤ
number_of (LineAct.Spawn name v n) = n
number_of _ = pos 0

-- the shape of the word's act, and that act of these parts
abbrev is_word : Text → Text → Bool
is_word w text = bytes_eq text w

abbrev shape_of : Text → Shape
shape_of w =
    cond (is_word (codes "read") w) cell_and_value (cond (is_word (codes "write") w) cell_and_value (cond (is_word (codes "new") w) a_reference (cond (is_word (codes "take") w) a_reference
    (cond (is_word (codes "give") w) a_reference (cond (is_word (codes "freed") w) a_reference (cond (is_word (codes "lock") w) a_cell (cond (is_word (codes "unlock") w) a_cell
    (cond (is_word (codes "spawn") w) a_spawn (cond (is_word (codes "started") w) a_value (cond (is_word (codes "join") w) a_thread (cond (is_word (codes "print") w) a_value nothing)))))))))))

abbrev made_of : Text → CellAt → ℤ → Text → ℤ → LineAct
made_of w c v name n =
    cond (is_word (codes "read") w) (LineAct.Read c v) (cond (is_word (codes "write") w) (LineAct.Write c v) (cond (is_word (codes "new") w) (LineAct.New v) (cond (is_word (codes "take") w) (LineAct.Take v)
    (cond (is_word (codes "give") w) (LineAct.Give v) (cond (is_word (codes "freed") w) (LineAct.Freed v) (cond (is_word (codes "lock") w) (LineAct.Lock c) (cond (is_word (codes "unlock") w) (LineAct.Unlock c)
    (cond (is_word (codes "spawn") w) (LineAct.Spawn name v n) (cond (is_word (codes "started") w) (LineAct.Started v) (cond (is_word (codes "join") w) (LineAct.Join v) (cond (is_word (codes "print") w) (LineAct.Print v)
    (cond (is_word (codes "return") w) LineAct.Return LineAct.Gone))))))))))))

made_again : (a : LineAct) → made_of (word_of a) (cell_of a) (value_of a) (name_of a) (number_of a) ≡ a
made_again (LineAct.Read c v) = refl
made_again _ = refl

-- what the text after the word says
abbrev Says : Shape → CellAt → ℤ → Text → ℤ → Text → Type 0
Says cell_and_value c v name n rest = Both (HasCell c) (HasValue v) rest × (name ≡ []) × (n ≡ pos 0)
Says a_reference c v name n rest = HasReference v rest × (c ≡ no_cell) × (name ≡ []) × (n ≡ pos 0)
Says a_cell c v name n rest = HasCell c rest × (v ≡ pos 0) × (name ≡ []) × (n ≡ pos 0)
Says a_spawn c v name n rest = Both (IsFunctionName name) (Both (HasValue v) (IsThread n)) rest × (c ≡ no_cell)
Says a_value c v name n rest = HasValue v rest × (c ≡ no_cell) × (name ≡ []) × (n ≡ pos 0)
Says a_thread c v name n rest = IsThread v rest × (c ≡ no_cell) × (name ≡ []) × (n ≡ pos 0)
Says nothing c v name n rest = (c ≡ no_cell) × (v ≡ pos 0) × (name ≡ []) × (n ≡ pos 0)

pub record SameParts (c d : CellAt) (v w : ℤ) (name other : Text) (n m : ℤ) : Type 0 where
  pub cells : c ≡ d
  pub values : v ≡ w
  pub names : name ≡ other
  pub numbers : n ≡ m

-- two parts with a blank between are two parts once
both_once : (P Q R S : Text → Type 0) (text : Text) → ((t : Text) → P t → list_any (nat_eq 32) t ≡ false) → ((t : Text) → R t → list_any (nat_eq 32) t ≡ false)
    → (h : Both P Q text) → (k : Both R S text) → P k.first × Q k.second
both_once P Q R S text p r h k =
    let cuts = one_cut 32 h.first h.second k.first k.second (p h.first h.left) (r k.first k.left) (sym h.is ∙ k.is) in
    (subst P cuts.0 h.left, subst Q cuts.1 h.right)

said_once : (s : Shape) (c d : CellAt) (v w : ℤ) (name other : Text) (n m : ℤ) (rest : Text) → Says s c v name n rest → Says s d w other m rest → SameParts c d v w name other n m
said_once cell_and_value c d v w name other n m rest h k =
    let both = both_once (HasCell c) (HasValue v) (HasCell d) (HasValue w) rest (cell_blank c) (cell_blank d) h.0 k.0 in
    record { cells = one_cell k.0.first c d both.0 k.0.left; values = one_value k.0.second v w both.1 k.0.right; names = h.1 ∙ sym k.1; numbers = h.2 ∙ sym k.2 }
said_once a_reference c d v w name other n m rest h k = record { cells = h.1 ∙ sym k.1; values = one_reference rest v w h.0 k.0; names = h.2 ∙ sym k.2; numbers = h.3 ∙ sym k.3 }
said_once a_cell c d v w name other n m rest h k = record { cells = one_cell rest c d h.0 k.0; values = h.1 ∙ sym k.1; names = h.2 ∙ sym k.2; numbers = h.3 ∙ sym k.3 }
said_once a_spawn c d v w name other n m rest h k =
    let both = both_once (IsFunctionName name) (Both (HasValue v) (IsThread n)) (IsFunctionName other) (Both (HasValue w) (IsThread m)) rest (name_blank name) (name_blank other) h.0 k.0 in
    let more = both_once (HasValue v) (IsThread n) (HasValue w) (IsThread m) k.0.second (value_blank v) (value_blank w) both.1 k.0.right in
    record {
      cells = h.1 ∙ sym k.1;
      values = one_value k.0.right.first v w more.0 k.0.right.left;
      names = sym both.0.0 ∙ k.0.left.0;
      numbers = one_thread k.0.right.second n m more.1 k.0.right.right;
    }
said_once a_value c d v w name other n m rest h k = record { cells = h.1 ∙ sym k.1; values = one_value rest v w h.0 k.0; names = h.2 ∙ sym k.2; numbers = h.3 ∙ sym k.3 }
said_once a_thread c d v w name other n m rest h k = record { cells = h.1 ∙ sym k.1; values = one_thread rest v w h.0 k.0; names = h.2 ∙ sym k.2; numbers = h.3 ∙ sym k.3 }
said_once nothing c d v w name other n m rest h k = record { cells = h.0 ∙ sym k.0; values = h.1 ∙ sym k.1; names = h.2 ∙ sym k.2; numbers = h.3 ∙ sym k.3 }

-- ---- the word that a text begins with, and what follows it

abbrev first_word : Text → Text
first_word [] = []
first_word (x ∷ text) = cond (nat_eq 32 x) [] (x ∷ first_word text)

word_first : (w rest : Text) → list_any (nat_eq 32) w ≡ false → first_word (w ++ 32 ∷ rest) ≡ w
word_first [] rest free = refl
word_first (x ∷ w) rest free =
    let p = or_parts (nat_eq 32 x) (list_any (nat_eq 32) w) free in
    ap (λ b. cond b [] (x ∷ first_word (w ++ 32 ∷ rest))) p.0 ∙ ap (λ t. x ∷ t) (word_first w rest p.1)

word_alone : (w : Text) → list_any (nat_eq 32) w ≡ false → first_word w ≡ w
word_alone [] free = refl
word_alone (x ∷ w) free =
    let p = or_parts (nat_eq 32 x) (list_any (nat_eq 32) w) free in
    ap (λ b. cond b [] (x ∷ first_word w)) p.0 ∙ ap (λ t. x ∷ t) (word_alone w p.1)

abbrev after_word : Text → Text → Text
after_word w text = drop (suc (length w)) text

word_dropped : (w rest : Text) → drop (suc (length w)) (w ++ 32 ∷ rest) ≡ rest
word_dropped [] rest = refl
word_dropped (x ∷ w) rest = word_dropped w rest

pub record Spelt (w text : Text) (P : Text → Type 0) : Type 0 where
  pub word : first_word text ≡ w
  pub rest : P (after_word w text)

behind_spelt : {w : Text} {P : Text → Type 0} {text : Text} → Behind w P text → (Q : Text → Type 0) → list_any (nat_eq 32) w ≡ false → ((t : Text) → P t → Q t) → Spelt w text Q
behind_spelt {w = w} {P = P} {text = text} h Q free more = record {
  word = ap first_word h.is ∙ word_first w h.rest free;
  rest = more (drop (suc (length w)) text) (subst P (sym (ap (drop (suc (length w))) h.is ∙ word_dropped w h.rest)) h.holds);
}

abbrev AsParts : LineAct → Text → Type 0
AsParts a text = Spelt (word_of a) text (Says (shape_of (word_of a)) (cell_of a) (value_of a) (name_of a) (number_of a))

parts_of_act : (a : LineAct) (text : Text) → IsAct a text → AsParts a text
parts_of_act (LineAct.Read c v) text h = behind_spelt h _ refl (λ t p. (p, refl, refl))
parts_of_act (LineAct.Write c v) text h = behind_spelt h _ refl (λ t p. (p, refl, refl))
parts_of_act (LineAct.Spawn name v n) text h = behind_spelt h _ refl (λ t p. (p, refl))
parts_of_act LineAct.Return text h = record { word = ap first_word h ∙ word_alone (codes "return") refl; rest = (refl, refl, refl, refl) }
parts_of_act LineAct.Gone text h = record { word = ap first_word h ∙ word_alone (codes "gone") refl; rest = (refl, refl, refl, refl) }
parts_of_act _ text h = behind_spelt h _ refl (λ t p. (p, refl, refl, refl))

one_act : (a b : LineAct) (text : Text) → IsAct a text → IsAct b text → a ≡ b
one_act a b text h k =
    let p = parts_of_act a text h in
    let q = parts_of_act b text k in
    let words : word_of a ≡ word_of b = sym p.word ∙ q.word in
    let moved : Says (shape_of (word_of b)) (cell_of a) (value_of a) (name_of a) (number_of a) (after_word (word_of b) text) =
    subst (λ w. Says (shape_of w) (cell_of a) (value_of a) (name_of a) (number_of a) (after_word w text)) words p.rest in
    let same = said_once (shape_of (word_of b)) (cell_of a) (cell_of b) (value_of a) (value_of b) (name_of a) (name_of b) (number_of a) (number_of b) (after_word (word_of b) text) moved q.rest in
    sym (made_again a)
    ∙ ap (λ w. made_of w (cell_of a) (value_of a) (name_of a) (number_of a)) words
    ∙ ap (λ c. made_of (word_of b) c (value_of a) (name_of a) (number_of a)) same.cells
    ∙ ap (λ v. made_of (word_of b) (cell_of b) v (name_of a) (number_of a)) same.values
    ∙ ap (λ name. made_of (word_of b) (cell_of b) (value_of b) name (number_of a)) same.names
    ∙ ap (λ n. made_of (word_of b) (cell_of b) (value_of b) (name_of b) n) same.numbers
    ∙ made_again b

-- ---- lines

same_line : (l k : EventLine) → l.thread ≡ k.thread → l.act ≡ k.act → l ≡ k
same_line l k thread act =
    let first : l ≡ record { thread = k.thread; act = l.act } = ap (λ (n : ℕ). record { thread = n; act = l.act }) thread in
    let second : record { thread = k.thread; act = l.act } ≡ k = ap (λ (a : LineAct). record { thread = k.thread; act = a }) act in
    first ∙ second

pub one_line : (text : Text) (l k : EventLine) → IsEventLine text l → IsEventLine text k → l ≡ k
one_line text l k h j =
    let small = h.small in
    let least = j.small in
    let cuts = one_cut 32 (decimal l.thread) h.rest (decimal k.thread) j.rest (number_blank l.thread (omega (arith, small))) (number_blank k.thread (omega (arith, least))) (sym h.is ∙ j.is) in
    same_line l k (one_decimal l.thread k.thread (omega (arith, small)) (omega (arith, least)) cuts.0) (one_act l.act k.act j.rest (subst (IsAct l.act) cuts.1 h.act) j.act)

pub one_listing : (texts : List Text) (a b : List EventLine) → AreEventLines texts a → AreEventLines texts b → a ≡ b
one_listing [] [] [] h k = refl
one_listing [] [] (l ∷ b) h k = absurd k
one_listing [] (l ∷ a) b h k = absurd h
one_listing (t ∷ texts) [] b h k = absurd h
one_listing (t ∷ texts) (l ∷ a) [] h k = absurd k
one_listing (t ∷ texts) (l ∷ a) (m ∷ b) h k = ap (λ z. z ∷ a) (one_line t l m h.0 k.0) ∙ ap (λ z. m ∷ z) (one_listing texts a b h.1 k.1)
