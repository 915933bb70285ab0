-- Lines of events, by their parts.
use Rattle.sharc_audit.proofs.{Imports.{◌≡◌, inl, inr, ℕ, ◌<◌, ◌^◌, true, false, [], ◌∷◌, ◌++◌, ◌||◌, suc, refl, ap, sym, subst, ◌∙◌, arith, bytes_eq-Decides, or_from, or_parts, and_parts, eqb-true, ltb-true, false≢true, Option, Some, None, MatchOption, ℤ, pos, negsuc, nat_eq, decimal, codes, Bool, list_any, list_all, bytes_eq, CellAt, Object, Global, Made, EventLine, LineAct, Text, IsCut, IsNumber, thread_most, IsObject, IsPair, IsSigned, is_letter, is_digit, Behind, Both, HasCell, HasValue, HasReference, IsThread, IsFunctionName, IsPlain, IsAct, IsEventLine}, Numerals.{decimal_free, parts_of, no_cut}, Parts.held_small}

free_append : (x : ℕ) (a b : Text) → list_any (nat_eq x) a ≡ false → list_any (nat_eq x) b ≡ false → list_any (nat_eq x) (a ++ b) ≡ false
free_append x [] b p q = q
free_append x (y ∷ a) b p q = let s = or_parts (nat_eq x y) (list_any (nat_eq x) a) p in or_from (nat_eq x y) (list_any (nat_eq x) (a ++ b)) s.0 (free_append x a b s.1 q)

-- ---- no cell, value or name has a blank in it

pub number_blank : (n : ℕ) → n < 2 ^ 64 → list_any (nat_eq 32) (decimal n) ≡ false
number_blank n h = decimal_free 32 n (omega arith) h

behind_byte : (x n : ℕ) → nat_eq 32 x ≡ false → n < 2 ^ 64 → list_any (nat_eq 32) (x ∷ decimal n) ≡ false
behind_byte x n e h = or_from (nat_eq 32 x) (list_any (nat_eq 32) (decimal n)) e (number_blank n h)

object_blank : (o : Object) (text : Text) → IsObject o text → list_any (nat_eq 32) text ≡ false
object_blank (Global i) text h = ap (list_any (nat_eq 32)) h.1 ∙ behind_byte 103 i refl (let b = h.0 in omega (arith, b))
object_blank (Made n) text h = ap (list_any (nat_eq 32)) h.2 ∙ behind_byte 111 n refl (let b = h.1 in omega (arith, b))

pub cell_blank : (c : CellAt) (text : Text) → HasCell c text → list_any (nat_eq 32) text ≡ false
cell_blank c text h = ap (list_any (nat_eq 32)) h.is ∙ free_append 32 h.object_text (46 ∷ decimal c.cell) (object_blank c.object h.object_text h.object) (behind_byte 46 c.cell refl (let s = h.cell in omega (arith, s)))

pair_blank : (v : ℤ) (text : Text) → IsPair text v → list_any (nat_eq 32) text ≡ false
pair_blank v text h = ap (list_any (nat_eq 32)) h.is ∙ free_append 32 (decimal h.number) (58 ∷ decimal h.elements) (number_blank h.number (let s = h.number_most in omega (arith, s))) (behind_byte 58 h.elements refl (let s = h.elements_most in omega (arith, s)))

signed_blank : (v : ℤ) (text : Text) → IsSigned text v → list_any (nat_eq 32) text ≡ false
signed_blank (pos n) text h = ap (list_any (nat_eq 32)) h.0 ∙ number_blank n (let s = held_small n h.1 in omega (arith, s))
signed_blank (negsuc n) text h = ap (list_any (nat_eq 32)) h.0 ∙ behind_byte 45 (suc n) refl (let s = ltb-true n (2 ^ 63) h.1 in omega (arith, s))

pub value_blank : (v : ℤ) (text : Text) → HasValue v text → list_any (nat_eq 32) text ≡ false
value_blank v text (inl s) = signed_blank v text s
value_blank v text (inr p) = pair_blank v text p

letters_blank : (text : Text) → list_all (λ b. is_letter b || is_digit b) text ≡ true → list_any (nat_eq 32) text ≡ false
letters_blank [] h = refl
letters_blank (x ∷ text) h =
    let p = and_parts (is_letter x || is_digit x) (list_all (λ b. is_letter b || is_digit b) text) h in
    or_from (nat_eq 32 x) (list_any (nat_eq 32) text) (by_case (nat_eq 32 x) refl p.0) (letters_blank text p.1)
  where
    by_case : (b : Bool) → nat_eq 32 x ≡ b → (is_letter x || is_digit x) ≡ true → nat_eq 32 x ≡ false
    by_case false e l = e
    by_case true e l = let same : 32 ≡ x = eqb-true 32 x e in let z : false ≡ true = ap (λ b. is_letter b || is_digit b) same ∙ l in absurd (cc)

pub name_blank : (name text : Text) → IsFunctionName name text → list_any (nat_eq 32) text ≡ false
name_blank name text h = letters_blank text (let n = h.1 in n.letters)

-- ---- two parts

pub both_parts : (P Q : Text → Type 0) (text a b : Text) → ((t : Text) → P t → list_any (nat_eq 32) t ≡ false) → IsCut 32 text a b → Both P Q text → P a × Q b
both_parts P Q text a b free cut h = let p = parts_of 32 text a b h.first h.second cut h.is (free h.first h.left) in (subst P (sym p.0) h.left, subst Q (sym p.1) h.right)

pub both_cut : (P Q : Text → Type 0) (text : Text) → list_any (nat_eq 32) text ≡ false → Both P Q text → ⊥
both_cut P Q text free h = no_cut 32 h.first h.second (sym (ap (list_any (nat_eq 32)) h.is) ∙ free)

behind_of : (w : Text) (P : Text → Type 0) (text a b : Text) → IsCut 32 text a b → a ≡ w → P b → Behind w P text
behind_of w P text a b cut e p = record { rest = b; is = cut.is ∙ ap (λ z. z ++ 32 ∷ b) e; holds = p }

-- ---- words

differ : (a b : Text) → bytes_eq a b ≡ false → a ≡ b → ⊥
differ a b d e = false≢true (sym d ∙ (bytes_eq-Decides a b).1 e)

abbrev pub word_of : LineAct → Text
word_of (LineAct.Read c v) = codes "read"
word_of (LineAct.Write c v) = codes "write"
word_of (LineAct.New r) = codes "new"
word_of (LineAct.Take r) = codes "take"
word_of (LineAct.Give r) = codes "give"
word_of (LineAct.Freed r) = codes "freed"
word_of (LineAct.Lock c) = codes "lock"
word_of (LineAct.Unlock c) = codes "unlock"
word_of (LineAct.Spawn name v n) = codes "spawn"
word_of (LineAct.Started v) = codes "started"
word_of (LineAct.Join n) = codes "join"
word_of (LineAct.Print v) = codes "print"
word_of LineAct.Return = codes "return"
word_of LineAct.Gone = codes "gone"

has_word : (kind text : Text) (a : LineAct) → IsPlain kind a text → kind ≡ word_of a
has_word kind text (LineAct.Spawn name v n) h = absurd h
has_word kind text LineAct.Return h = absurd h
has_word kind text LineAct.Gone h = absurd h
has_word kind text _ h = h.0

-- no act with another word than its kind
other_word : (kind text w : Text) (a : LineAct) → kind ≡ w → bytes_eq w (word_of a) ≡ false → IsPlain kind a text → ⊥
other_word kind text w a e other h = differ w (word_of a) other (sym e ∙ has_word kind text a h)

pub none_read : (kind text : Text) → kind ≡ codes "read" → ((c : CellAt) (v : ℤ) → Both (HasCell c) (HasValue v) text → ⊥) → (a : LineAct) → IsPlain kind a text → ⊥
none_read kind text e none (LineAct.Read c v) h = none c v h.1
none_read kind text e none a h = other_word kind text (codes "read") a e refl h

pub none_write : (kind text : Text) → kind ≡ codes "write" → ((c : CellAt) (v : ℤ) → Both (HasCell c) (HasValue v) text → ⊥) → (a : LineAct) → IsPlain kind a text → ⊥
none_write kind text e none (LineAct.Write c v) h = none c v h.1
none_write kind text e none a h = other_word kind text (codes "write") a e refl h

pub none_new : (kind text : Text) → kind ≡ codes "new" → ((r : ℤ) → HasReference r text → ⊥) → (a : LineAct) → IsPlain kind a text → ⊥
none_new kind text e none (LineAct.New r) h = none r h.1
none_new kind text e none a h = other_word kind text (codes "new") a e refl h

pub none_take : (kind text : Text) → kind ≡ codes "take" → ((r : ℤ) → HasReference r text → ⊥) → (a : LineAct) → IsPlain kind a text → ⊥
none_take kind text e none (LineAct.Take r) h = none r h.1
none_take kind text e none a h = other_word kind text (codes "take") a e refl h

pub none_give : (kind text : Text) → kind ≡ codes "give" → ((r : ℤ) → HasReference r text → ⊥) → (a : LineAct) → IsPlain kind a text → ⊥
none_give kind text e none (LineAct.Give r) h = none r h.1
none_give kind text e none a h = other_word kind text (codes "give") a e refl h

pub none_freed : (kind text : Text) → kind ≡ codes "freed" → ((r : ℤ) → HasReference r text → ⊥) → (a : LineAct) → IsPlain kind a text → ⊥
none_freed kind text e none (LineAct.Freed r) h = none r h.1
none_freed kind text e none a h = other_word kind text (codes "freed") a e refl h

pub none_lock : (kind text : Text) → kind ≡ codes "lock" → ((c : CellAt) → HasCell c text → ⊥) → (a : LineAct) → IsPlain kind a text → ⊥
none_lock kind text e none (LineAct.Lock c) h = none c h.1
none_lock kind text e none a h = other_word kind text (codes "lock") a e refl h

pub none_unlock : (kind text : Text) → kind ≡ codes "unlock" → ((c : CellAt) → HasCell c text → ⊥) → (a : LineAct) → IsPlain kind a text → ⊥
none_unlock kind text e none (LineAct.Unlock c) h = none c h.1
none_unlock kind text e none a h = other_word kind text (codes "unlock") a e refl h

pub none_started : (kind text : Text) → kind ≡ codes "started" → ((v : ℤ) → HasValue v text → ⊥) → (a : LineAct) → IsPlain kind a text → ⊥
none_started kind text e none (LineAct.Started v) h = none v h.1
none_started kind text e none a h = other_word kind text (codes "started") a e refl h

pub none_print : (kind text : Text) → kind ≡ codes "print" → ((v : ℤ) → HasValue v text → ⊥) → (a : LineAct) → IsPlain kind a text → ⊥
none_print kind text e none (LineAct.Print v) h = none v h.1
none_print kind text e none a h = other_word kind text (codes "print") a e refl h

-- ---- acts

-- the word before the first blank, and what follows it
cut_parts : {w : Text} {P : Text → Type 0} {text kind rest : Text} → IsCut 32 text kind rest → Behind w P text → list_any (nat_eq 32) w ≡ false → (kind ≡ w) × P rest
cut_parts {w = w} {P = P} {text = text} {kind = kind} {rest = rest} cut h free = let p = parts_of 32 text kind rest w h.rest cut h.is free in (p.0, subst P (sym p.1) h.holds)

pub act_of : (text kind rest : Text) → IsCut 32 text kind rest → (a : LineAct) → IsPlain kind a rest → IsAct a text
act_of text kind rest cut (LineAct.Spawn name v n) h = absurd h
act_of text kind rest cut LineAct.Return h = absurd h
act_of text kind rest cut LineAct.Gone h = absurd h
act_of text kind rest cut _ h = behind_of _ _ text kind rest cut h.0 h.1

pub spawn_of : (text kind rest name : Text) (v n : ℤ) → IsCut 32 text kind rest → kind ≡ codes "spawn" → Both (IsFunctionName name) (Both (HasValue v) (IsThread n)) rest → IsAct (LineAct.Spawn name v n) text
spawn_of text kind rest name v n cut e h = behind_of (codes "spawn") (Both (IsFunctionName name) (Both (HasValue v) (IsThread n))) text kind rest cut e h

pub no_act_spawn : (text kind rest : Text) → (text ≡ codes "return" → ⊥) → (text ≡ codes "gone" → ⊥) → IsCut 32 text kind rest → kind ≡ codes "spawn" → ((name : Text) (v n : ℤ) → Both (IsFunctionName name) (Both (HasValue v) (IsThread n)) rest → ⊥) → (a : LineAct) → IsAct a text → ⊥
no_act_spawn text kind rest no_return no_gone cut e none (LineAct.Spawn name v n) h = none name v n (cut_parts cut h refl).1
no_act_spawn text kind rest no_return no_gone cut e none LineAct.Return h = no_return h
no_act_spawn text kind rest no_return no_gone cut e none LineAct.Gone h = no_gone h
no_act_spawn text kind rest no_return no_gone cut e none a h = differ (codes "spawn") (word_of a) refl (sym e ∙ (cut_parts cut h refl).0)

pub no_act_plain : (text kind rest : Text) → (text ≡ codes "return" → ⊥) → (text ≡ codes "gone" → ⊥) → IsCut 32 text kind rest → (kind ≡ codes "spawn" → ⊥) → ((a : LineAct) → IsPlain kind a rest → ⊥) → (a : LineAct) → IsAct a text → ⊥
no_act_plain text kind rest no_return no_gone cut no_spawn none (LineAct.Spawn name v n) h = no_spawn (cut_parts cut h refl).0
no_act_plain text kind rest no_return no_gone cut no_spawn none LineAct.Return h = no_return h
no_act_plain text kind rest no_return no_gone cut no_spawn none LineAct.Gone h = no_gone h
no_act_plain text kind rest no_return no_gone cut no_spawn none a h = none a (cut_parts cut h refl)

pub act_by : (text kind rest : Text) → (text ≡ codes "return" → ⊥) → (text ≡ codes "gone" → ⊥) → IsCut 32 text kind rest → (kind ≡ codes "spawn" → ⊥) → (r : Option LineAct) → MatchOption r ((a : LineAct) → IsPlain kind a rest → ⊥) (λ a. IsPlain kind a rest) → MatchOption r ((a : LineAct) → IsAct a text → ⊥) (λ a. IsAct a text)
act_by text kind rest no_return no_gone cut no_spawn None h = no_act_plain text kind rest no_return no_gone cut no_spawn h
act_by text kind rest no_return no_gone cut no_spawn (Some a) h = act_of text kind rest cut a h

-- ---- lines

pub line_parts : (text n rest : Text) → IsCut 32 text n rest → (l : EventLine) → IsEventLine text l → IsNumber 0 thread_most n l.thread × IsAct l.act rest
line_parts text n rest cut l h =
    let p = parts_of 32 text n rest (decimal l.thread) h.rest cut h.is (number_blank l.thread (let s = h.small in omega (arith, s))) in
    (record { is = p.0; above = omega arith; below = h.small }, subst (IsAct l.act) (sym p.1) h.act)
