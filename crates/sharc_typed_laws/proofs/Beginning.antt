-- What is known before a statement is what the types of the variables say.
use Rattle.sharc_typed_laws.proofs.Imports.{◌≡◌, ◌≢◌, ℕ, ◌<◌, ◌≤◌, true, false, cond, refl, sym, ap, ◌∙◌, subst, ⊎_elim, arith, false≢true, cases_lt, nat_tests, nat_lt, Context, int_count, ref_count, Entry, Empty, Refers, Anything, Within, HasBase, EntryMentions, IsNamed, Typing, StandsBefore, label_of, LabelsStand}

inside : {A : Type 0} (q n : ℕ) (a b : A) → q < n → cond (nat_lt q n) a b ≡ a
inside q n a b lt = let e : nat_lt q n ≡ true = grind (arith, nat_tests, lt) in ap (λ z. cond z a b) e

outside : {A : Type 0} (q n : ℕ) (a b : A) → n ≤ q → cond (nat_lt q n) a b ≡ b
outside q n a b ge = let e : nat_lt q n ≡ false = grind (arith, nat_tests, ge) in ap (λ z. cond z a b) e

refers_full : (e : Entry) (y : Typing) (c : Context) (q : ℕ) → e ≡ Refers (y.pointer c q) → e ≢ Empty
refers_full e y c q is none = let w : Refers (y.pointer c q) ≡ Empty = sym is ∙ none in cc

module _ (y : Typing) (c : Context) (f : ℕ) (names : (q : ℕ) → q < ref_count c.scope → IsNamed (y.named c) (ref_count c.scope) (y.pointer c q)) where
  abbrev r : ℕ
  r = ref_count c.scope

  abbrev i : ℕ
  i = int_count c.scope

  holds : (q : ℕ) → q < r → (label_of y c f).env q ≡ Refers (y.pointer c q)
  holds q lt = inside q r (Refers (y.pointer c q)) Empty lt

  free : (q : ℕ) → r ≤ q → (label_of y c f).env q ≡ Empty
  free q ge = outside q r (Refers (y.pointer c q)) Empty ge

  below : (q p : ℕ) → EntryMentions ((label_of y c f).env q) p → q < r
  below q p h = ⊎_elim (λ (lt : q < r). lt) (λ (ge : r ≤ q). absurd (subst (λ e. EntryMentions e p) (free q ge) h)) (cases_lt q r)

  paths : (q p : ℕ) → EntryMentions ((label_of y c f).env q) p → (p < r) × (y.named c p ≡ true)
  paths q p h = let lt = below q p h in names q lt p (subst (λ e. EntryMentions e p) (holds q lt) h)

  based : (j q : ℕ) → HasBase ((label_of y c f).ints j) q → ⊥
  based j q = elim (nat_lt j i) as (λ b. HasBase (cond b (Within (y.width c j)) Anything) q → ⊥) [ true ↦ λ h. h | false ↦ λ h. h ]

  begun : StandsBefore y c f (label_of y c f)
  begun = record {
    stands = record {
      stands = record {
        closed = refl;
        free = free;
        full = λ q lt. refers_full ((label_of y c f).env q) y c q (holds q lt);
        alone = λ q _. refl;
        copies = λ q lt. lt;
        known = λ q e. absurd (false≢true e);
        paths = paths;
        numbers = λ j ge. outside j i (Within (y.width c j)) Anything ge;
        bases = λ j q h. absurd (based j q h);
        nothing_passed = refl;
        no_room = refl;
      };
      owned = refl;
      holds = record { references = holds; copies = λ q _. refl; integers = λ j lt. inside j i (Within (y.width c j)) Anything lt };
      high = omega arith;
      wide = omega arith;
      early = omega arith;
    };
    bare = (λ q. refl, λ q e. false≢true e, based);
  }

pub labels_stand : LabelsStand
labels_stand y c f names = begun y c f names
