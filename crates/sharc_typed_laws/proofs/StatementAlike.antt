-- What is known before a statement is told by the types of the variables, so two labels there are the same; and where nothing is known but that, frames are large enough.
use Rattle.sharc_typed_laws.proofs.Imports.{◌≡◌, ℕ, ◌<◌, ◌≤◌, sym, ◌∙◌, subst, inl, ⊎_elim, arith, cases_lt, Context, int_count, ref_count, IsIn, Label, IsScoped, Typing, StandsBefore}
use Rattle.std.proofs.lemmas.Bool.{false_from_ne_true as never}

module _ (y : Typing) (c : Context) (f : ℕ) where
  abbrev i : ℕ
  i = int_count c.scope

  abbrev r : ℕ
  r = ref_count c.scope

  entries : (l k : Label) → StandsBefore y c f l → StandsBefore y c f k → (q : ℕ) → l.env q ≡ k.env q
  entries l k a b q = ⊎_elim (λ (lt : q < r). a.stands.holds.references q lt ∙ sym (b.stands.holds.references q lt)) (λ (over : r ≤ q). a.stands.stands.free q over ∙ sym (b.stands.stands.free q over)) (cases_lt q r)

  integers : (l k : Label) → StandsBefore y c f l → StandsBefore y c f k → (j : ℕ) → l.ints j ≡ k.ints j
  integers l k a b j = ⊎_elim (λ (lt : j < i). a.stands.holds.integers j lt ∙ sym (b.stands.holds.integers j lt)) (λ (over : i ≤ j). a.stands.stands.numbers j over ∙ sym (b.stands.stands.numbers j over)) (cases_lt j i)

  pub same_label : (l k : Label) → StandsBefore y c f l → StandsBefore y c f k → l ≡ k
  same_label l k a b =
      let function : l.function ≡ k.function = a.stands.owned ∙ sym b.stands.owned in
      let env : (q : ℕ) → l.env q ≡ k.env q = entries l k a b in
      let same : (q : ℕ) → l.same q ≡ k.same q = λ q. a.bare.0 q ∙ sym (b.bare.0 q) in
      let known : (q : ℕ) → l.known q ≡ k.known q = λ q. never (l.known q) (a.bare.1 q) ∙ sym (never (k.known q) (b.bare.1 q)) in
      let ints : (j : ℕ) → l.ints j ≡ k.ints j = integers l k a b in
      let gate : l.gate ≡ k.gate = a.stands.stands.closed ∙ sym b.stands.stands.closed in
      let passed : l.passed ≡ k.passed = a.stands.stands.nothing_passed ∙ sym b.stands.stands.nothing_passed in
      let room : l.room ≡ k.room = a.stands.stands.no_room ∙ sym b.stands.stands.no_room in
      λ t. record { function = function t; env = λ q. env q t; same = λ q. same q t; known = λ q. known q t; ints = λ j. ints j t; gate = gate t; passed = passed t; room = room t }

  -- in a frame with the registers of the variables
  pub scoped_in : (ints refs : ℕ) (l : Label) → i ≤ ints → r ≤ refs → StandsBefore y c f l → IsScoped ints refs l
  scoped_in ints refs l wide high a = record {
    few = λ q ge. a.stands.stands.free q (omega (arith, ge, high));
    paths = λ q p m. a.stands.stands.full p (a.stands.stands.paths q p m).0;
    copies = λ q. inl (a.bare.0 q);
    bases = λ j q b. absurd (a.bare.2 j q b);
    known = λ q e. absurd (a.bare.1 q e);
    passes = λ p q b _. absurd (subst (IsIn p) a.stands.stands.nothing_passed b);
    numbers = λ j ge. a.stands.stands.numbers j (omega (arith, ge, wide));
  }
