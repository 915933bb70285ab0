-- What is known behind a change is scoped where it was before, and a label says no more than itself.
use Rattle.sharc_invariant.proofs.{Imports.{◌≡◌, ℕ, ◌<◌, ◌≤◌, ◌⊎◌, ◌≢◌, Bool, true, false, cond, List, [], ◌∷◌, refl, sym, ap, ◌∙◌, subst, inl, inr, ⊎_elim, arith, eqb-false, nat_eq, Width, Int, put, put_same, put_other, put_all, Lock, StaticType, Mentions, Through, Entry, Empty, Refers, Number, Anything, Within, OfElement, Gate, Closed, SoleGate as Sole, Label, Itself, IsCopy, SameLock, AllSame, LessEntry, Narrower, LessNumber, LessGate, Less, EntryMentions, HasBase, IsScoped, set_number, fill, empty, gated, without_copies, without_index}, Frames.kept_pass}

-- ---- less than itself
same_lock_refl : (l : Label) (r : ℕ) (a : Lock) → SameLock l r a a
same_lock_refl l r (Through q j) = (refl, Itself refl)
same_lock_refl l r _ = refl

all_same_refl : (l : Label) (r : ℕ) (xs : List Lock) → AllSame (SameLock l r) xs xs
all_same_refl l r [] = tt
all_same_refl l r (x ∷ xs) = (same_lock_refl l r x, all_same_refl l r xs)

pub less_entry_refl : (l : Label) (r : ℕ) (e : Entry) → LessEntry l r e e
less_entry_refl l r (Refers s) = record { target = refl; locks = all_same_refl l r s.locks }
less_entry_refl l r _ = refl

narrower_refl : (w : Width) → Narrower w w
narrower_refl Int = tt
narrower_refl _ = tt

pub less_number_refl : (n : Number) → LessNumber n n
less_number_refl Anything = tt
less_number_refl (Within w) = narrower_refl w
less_number_refl _ = refl

pub less_gate_refl : (g : Gate) → LessGate g g
less_gate_refl Closed = tt
less_gate_refl (Sole r true) = refl
less_gate_refl _ = refl

pub less_refl : (l : Label) → Less l l
less_refl l = record {
  function = refl;
  env = λ r. less_entry_refl l r (l.env r);
  same = λ r. IsCopy refl;
  known = λ r e. e;
  ints = λ r. less_number_refl (l.ints r);
  gate = less_gate_refl l.gate;
  passed = λ p h. h;
  room = λ e. e;
}

-- ---- scoped as before
pub scoped_gate : (ints refs : ℕ) (l : Label) (g : Gate) → IsScoped ints refs l → IsScoped ints refs (gated l g)
scoped_gate ints refs l g h = record { few = h.few; paths = h.paths; copies = h.copies; bases = h.bases; known = h.known; passes = h.passes; numbers = h.numbers }

pub scoped_number : (ints refs : ℕ) (l : Label) (r : ℕ) (n : Number) → r < ints → ((b : ℕ) → HasBase n b → l.env b ≢ Empty) → IsScoped ints refs l → IsScoped ints refs (set_number l r n)
scoped_number ints refs l r n lt base h = record {
  few = h.few;
  paths = h.paths;
  copies = h.copies;
  known = h.known;
  passes = h.passes;
  bases = put_all (λ i y. (b : ℕ) → HasBase y b → l.env b ≢ Empty) l.ints r n base (λ i _. h.bases i);
  numbers = put_all (λ i y. ints ≤ i → y ≡ Anything) l.ints r n (λ le. absurd (omega arith)) (λ i _. h.numbers i);
}

pub scoped_fill : (ints refs : ℕ) (l : Label) (d : ℕ) (s : StaticType) (c : ℕ) (b : Bool) → d < refs → ((q : ℕ) → Mentions s q → l.env q ≢ Empty) → (c ≡ d) ⊎ (l.env c ≢ Empty) → IsScoped ints refs l → IsScoped ints refs (fill l d (Refers s) c b)
scoped_fill ints refs l d s c b lt paths copy h =
    let keeps : (q : ℕ) → l.env q ≢ Empty → put l.env d (Refers s) q ≢ Empty = λ q. put_all (λ q y. l.env q ≢ Empty → y ≢ Empty) l.env d (Refers s) (λ _ e. cc) (λ q _ k. k) q in
    let full : put l.env d (Refers s) d ≢ Empty = λ e. let z : Refers s ≡ Empty = sym (put_same l.env d (Refers s)) ∙ e in cc in
    record {
      few = put_all (λ r y. refs ≤ r → y ≡ Empty) l.env d (Refers s) (λ le. absurd (omega arith)) (λ r _. h.few r);
      paths = λ r q. put_all (λ r y. EntryMentions y q → put l.env d (Refers s) q ≢ Empty) l.env d (Refers s) (λ m. keeps q (paths q m)) (λ r _ m. keeps q (h.paths r q m)) r;
      copies = λ r. put_all (λ r y. (y ≡ r) ⊎ (put l.env d (Refers s) y ≢ Empty)) l.same d c (⊎_elim (λ (e : c ≡ d). inl e) (λ (ne : l.env c ≢ Empty). inr (keeps c ne)) copy)
          (λ r _. ⊎_elim (λ (e : l.same r ≡ r). inl e) (λ (ne : l.env (l.same r) ≢ Empty). inr (keeps (l.same r) ne)) (h.copies r)) r;
      bases = λ i q k. keeps q (h.bases i q k);
      known = put_all (λ r y. y ≡ true → put l.env d (Refers s) r ≢ Empty) l.known d b (λ _. full) (λ r _ e. keeps r (h.known r e));
      passes = λ p r k e. keeps r (h.passes p r k e);
      numbers = h.numbers;
    }

base_without : (d : ℕ) (n : Number) (b : ℕ) → HasBase (without_index d n) b → HasBase n b × (b ≡ d → ⊥)
base_without d (OfElement c f e) b = elim (nat_eq c d) as (λ y. nat_eq c d ≡ y → HasBase (cond y Anything (OfElement c f e)) b → (c ≡ b) × (b ≡ d → ⊥)) [
  | true ↦ λ _ h. absurd h
  | false ↦ λ q h. (h, λ z. eqb-false c d q (h ∙ z))
] refl
base_without d _ b = λ h. absurd h

any_without : (d : ℕ) (n : Number) → n ≡ Anything → without_index d n ≡ Anything
any_without d n e = ap (without_index d) e

pub scoped_empty : (ints refs : ℕ) (l : Label) (d : ℕ) → ((r : ℕ) → r ≢ d → EntryMentions (l.env r) d → ⊥) → IsScoped ints refs l → IsScoped ints refs (empty l d)
scoped_empty ints refs l d free h =
    let keeps : (q : ℕ) → (q ≡ d → ⊥) → l.env q ≢ Empty → put l.env d Empty q ≢ Empty = λ q nd ne e. ne (sym (put_other l.env d q Empty nd) ∙ e) in
    record {
      few = put_all (λ r y. refs ≤ r → y ≡ Empty) l.env d Empty (λ _. refl) (λ r _. h.few r);
      paths = λ r q. put_all (λ r y. EntryMentions y q → put l.env d Empty q ≢ Empty) l.env d Empty (λ m. absurd m) (λ r ne m. keeps q (λ z. free r ne (subst (EntryMentions (l.env r)) z m)) (h.paths r q m)) r;
      copies = λ r. put_all (λ r y. (y ≡ r) ⊎ (put l.env d Empty y ≢ Empty)) (without_copies l.same d) d d (inl refl)
          (λ r ne. elim (nat_eq (l.same r) d) as (λ y. nat_eq (l.same r) d ≡ y → (cond y r (l.same r) ≡ r) ⊎ (put l.env d Empty (cond y r (l.same r)) ≢ Empty)) [
            | true ↦ λ _. inl refl
            | false ↦ λ q. ⊎_elim (λ (e : l.same r ≡ r). inl e) (λ (k : l.env (l.same r) ≢ Empty). inr (keeps (l.same r) (eqb-false (l.same r) d q) k)) (h.copies r)
          ] refl) r;
      bases = λ i b k. let w = base_without d (l.ints i) b k in keeps b w.1 (h.bases i b w.0);
      known = put_all (λ r y. y ≡ true → put l.env d Empty r ≢ Empty) l.known d false (λ e. absurd (cc)) (λ r ne e. keeps r ne (h.known r e));
      passes = λ p r k e. let w = kept_pass d l.passed p k in keeps r (w.1 r e) (h.passes p r w.0 e);
      numbers = λ i le. any_without d (l.ints i) (h.numbers i le);
    }
