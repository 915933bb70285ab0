-- The code of lvalues: the base of what is named, and the index of its cell, come to their registers.
use Rattle.sharc_typed_laws.proofs.{Imports.{◌≡◌, ℕ, ◌+◌, ◌*◌, ◌<◌, ◌≤◌, true, Option, Some, None, refl, sym, ap, ◌∙◌, subst, arith, put_other, Op, Spot, OpWrites, Context, ref_count, guard_width, bounds_code, StaticType, cells_of, Empty, Refers, Element, Number, OfElement, OfGlobal, Closed, Label, Fresh, set_number, ints_in, refs_in, Mark, Setting, IsPlain, mark, Typing}, Rules.{on_bounds, on_global_bounds}, Parts.{with_number}, Indexes.{FindsElement, element_of, fresh_name, is_fresh, bound_at, beside_at}, Accessed.indexed, Words.words}

module _ (around : Setting) (f : ℕ) (D : (ℕ → Mark) → Type 0) (y : Typing) (c : Context) (low : (p : ℕ) → y.named c p ≡ true → p < ref_count c.scope) (from : ℕ) where
  open words around f D (y.named c) (ref_count c.scope) low from use {named, top, Q, Here}

  -- ---- which element it is
  -- the fields that are accessed are some of an element's
  abbrev pub AreFew : ℕ → ℕ → Option ℕ → Type 0
  AreFew count n None = n < count
  AreFew count n (Some mutex) = (n < count) × (mutex < count)

  module _ (i r : ℕ) (l : Label) (at : Here i r l) (o : ℕ → ℕ → Op) (place : ℕ → Element → Number) (count : ℕ) (finds : FindsElement around f l o place count) (early : from ≤ i) (m : Number) (plain : IsPlain m) where
    abbrev pub which : Element
    which = element_of m (fresh_name (set_number l i m) (i + 1))

    fresh : Fresh (set_number l i m) (fresh_name (set_number l i m) (i + 1))
    fresh = is_fresh (set_number l i m) (i + 1) (λ j le. put_other l.ints i j m (λ e. omega (arith, e, le)) ∙ at.stands.numbers j (omega (arith, le)))

    pub bounds_at : (n : ℕ) (guard : Option ℕ) → AreFew count n guard → Q (with_number around f D named top low from l i m) (bounds_code o i n guard) (mark (record l { ints = indexed around f D y c low from l.ints i guard (λ n. place n which) n; gate = Closed }) from (i + guard_width guard))
    bounds_at n None few = bound_at around f D named top low from i r l at o place count finds early m n (fresh_name (set_number l i m) (i + 1)) few plain fresh
    bounds_at n (Some mutex) few =
        let z : i + 1 + 1 ≡ i + 2 = omega arith in
        subst (λ until. Q (with_number around f D named top low from l i m) (bounds_code o i n (Some mutex)) (mark (set_number (set_number l i (place n which)) (i + 1) (place mutex which)) from until)) z
        (beside_at around f D named top low from i r l at o place count finds early m n mutex (fresh_name (set_number l i m) (i + 1)) few.0 few.1 plain fresh)

  -- ---- of an object, whose base is known
  pub finds_object : (base : ℕ) (s : StaticType) (count : ℕ) (spot : Spot) (l : Label) → l.function ≡ Some f → base < refs_in around.code (Some f) → l.env base ≡ Refers s → l.known base ≡ true → count ≡ cells_of around.targets s.target
      → FindsElement around f l (λ i n. Op.Bounds i base count n spot) (λ n e. OfElement base n e) count
  finds_object base s count spot l owned ref is known size = record {
    refs = λ i n q. refl;
    ints = λ i n j. refl;
    offset = λ n. n;
    given = λ i n k. refl;
    within = λ i n w. w;
    is = λ g n e m h. (s, is, h ∙ ap (λ k. e * k + n) size);
    based = λ n e q b z. let w : Refers s ≡ Empty = sym is ∙ ap l.env b ∙ z in absurd (cc);
    rule = λ table pc g from until e next i n elem few plain in_it is_elem less told. on_bounds around f table pc (mark (record l { ints = g; gate = Closed }) from until) e next i base count n spot s elem plain
        (subst (λ o. i < ints_in around.code o) (sym owned) in_it) (subst (λ o. base < refs_in around.code o) (sym owned) ref) known is size few is_elem less (λ _. told);
  }

  -- ---- of a global
  pub finds_global : (elements count first : ℕ) (spot : Spot) (l : Label) → l.function ≡ Some f → FindsElement around f l (λ i n. Op.GlobalBounds i elements count (first + n) spot) (λ n e. OfGlobal (first + n) count elements e) count
  finds_global elements count first spot l owned = record {
    refs = λ i n q. refl;
    ints = λ i n j. refl;
    offset = λ n. first + n;
    given = λ i n k. refl;
    within = λ i n w. w.0;
    is = λ g n e m h. omega (arith, h);
    based = λ n e q b. absurd b;
    rule = λ table pc g from until e next i n elem few plain in_it is_elem less told. on_global_bounds around f table pc (mark (record l { ints = g; gate = Closed }) from until) e next i elements count (first + n) spot elem plain
        (subst (λ o. OpWrites (ints_in around.code o) (refs_in around.code o) (Op.GlobalBounds i elements count (first + n) spot)) (sym owned) in_it) is_elem less (λ _. told);
  }
