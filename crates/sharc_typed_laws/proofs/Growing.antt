-- Contexts in which more variables stand, and blocks that are open one in the other.
use Rattle.sharc_typed_laws.proofs.Imports.{◌≡◌, ℕ, ◌+◌, ◌<◌, Bool, true, false, cond, List, [], ◌∷◌, ◌++◌, length, take, drop, refl, sym, ap, ◌∙◌, subst, arith, append_assoc, append-nil, take_all, take-append-le, drop_at, Slot, Context, int_count, ref_count, pops, ends_from, Label, IsNamed, AreLow, Typing, StandsBefore, label_of, LabelsStand, Grows, back, AreNested, IsLowTyping}

-- ---- counts
refs_both : (a b : List Slot) → ref_count (a ++ b) ≡ ref_count a + ref_count b
refs_both [] b = omega arith
refs_both (x ∷ rest) b = by x.is_pointer (refs_both rest b)
  where
    by : (p : Bool) → ref_count (rest ++ b) ≡ ref_count rest + ref_count b → cond p (ref_count (rest ++ b) + 1) (ref_count (rest ++ b)) ≡ cond p (ref_count rest + 1) (ref_count rest) + ref_count b
    by true e = omega (arith, e)
    by false e = e

ints_both : (a b : List Slot) → int_count (a ++ b) ≡ int_count a + int_count b
ints_both [] b = omega arith
ints_both (x ∷ rest) b = by x.is_pointer (ints_both rest b)
  where
    by : (p : Bool) → int_count (rest ++ b) ≡ int_count rest + int_count b → cond p (int_count (rest ++ b)) (int_count (rest ++ b) + 1) ≡ cond p (int_count rest) (int_count rest + 1) + int_count b
    by true e = e
    by false e = omega (arith, e)

-- ---- more variables
pub record Extends (y : Typing) (c d : Context) : Type 0 where
  pub more : List Slot
  pub is : d ≡ record c { scope = c.scope ++ more }
  pub pointers : (q : ℕ) → q < ref_count c.scope → y.pointer d q ≡ y.pointer c q
  pub widths : (j : ℕ) → j < int_count c.scope → y.width d j ≡ y.width c j

-- the types of the variables name constants that stand
abbrev pub AreNamed : Typing → Context → Type 0
AreNamed y c = (q : ℕ) → q < ref_count c.scope → IsNamed (y.named c) (ref_count c.scope) (y.pointer c q)

-- contexts in which blocks that are open began, each with so many variables, the innermost first, up to the context around them
abbrev pub Nest : Typing → Context → List ℕ → Context → Type 0
Nest y c [] d = c ≡ d
Nest y c (n ∷ outer) d = (b : Context) × (n ≡ length b.scope) × Extends y b c × AreNamed y b × Nest y b outer d

module _ (y : Typing) where
  pub extends_same : (c : Context) → Extends y c c
  extends_same c = record { more = []; is = ap (λ s. record c { scope = s }) (sym (append-nil c.scope)); pointers = λ q lt. refl; widths = λ j lt. refl }

  pub refs_grow : (c d : Context) (e : Extends y c d) → ref_count c.scope + ref_count e.more ≡ ref_count d.scope
  refs_grow c d e = sym (ap (λ (k : Context). ref_count k.scope) e.is ∙ refs_both c.scope e.more)

  pub ints_grow : (c d : Context) (e : Extends y c d) → int_count c.scope + int_count e.more ≡ int_count d.scope
  ints_grow c d e = sym (ap (λ (k : Context). int_count k.scope) e.is ∙ ints_both c.scope e.more)

  pub extends_through : (b c d : Context) → Extends y b c → Extends y c d → Extends y b d
  extends_through b c d e h =
      let n1 = refs_grow b c e in
      let n2 = ints_grow b c e in
      record {
        more = e.more ++ h.more;
        is = h.is ∙ (ap (λ (k : Context). record k { scope = k.scope ++ h.more }) e.is ∙ ap (λ s. record b { scope = s }) (append_assoc b.scope e.more h.more));
        pointers = λ q lt. h.pointers q (omega (arith, n1, lt)) ∙ e.pointers q lt;
        widths = λ j lt. h.widths j (omega (arith, n2, lt)) ∙ e.widths j lt;
      }

  pub grows_by : (c d : Context) (e : Extends y c d) → Grows y c d e.more
  grows_by c d e = let n = ints_grow c d e in record { pointers = e.pointers; widths = e.widths; ints = omega (arith, n); refs = refs_grow c d e }

  -- what stood before is found again
  pub back_is : (c d : Context) → Extends y c d → back d (length c.scope) ≡ c
  back_is c d e = ap (λ (k : Context). back k (length c.scope)) e.is ∙ ap (λ s. record c { scope = s }) (front c.scope e.more)
    where
      front : (a b : List Slot) → take (length a) (a ++ b) ≡ a
      front a b = take-append-le (length a) a b (omega arith) ∙ take_all (length a) a (omega arith)

  pub rest_is : (c d : Context) (e : Extends y c d) → drop (length c.scope) d.scope ≡ e.more
  rest_is c d e = ap (λ (k : Context). drop (length c.scope) k.scope) e.is ∙ drop_at c.scope e.more (length c.scope) refl

  pub ends_are : (c d : Context) (e : Extends y c d) → ends_from d.scope (length c.scope) ≡ pops (ref_count c.scope) e.more
  ends_are c d e = ap (λ (k : Context). pops (ref_count k.scope) (drop (length c.scope) d.scope)) (back_is c d e) ∙ ap (pops (ref_count c.scope)) (rest_is c d e)

  -- ---- open blocks
  pub nest_both : (c : Context) (xs ys : List ℕ) (d e : Context) → Nest y c xs d → Nest y d ys e → Nest y c (xs ++ ys) e
  nest_both c [] ys d e h k = subst (λ b. Nest y b ys e) (sym h) k
  nest_both c (n ∷ xs) ys d e h k = (h.0, h.1, h.2, h.3, nest_both h.0 xs ys d e h.4 k)

  pub nest_named : (c : Context) (ns : List ℕ) (d : Context) → AreNamed y c → Nest y c ns d → AreNamed y d
  nest_named c [] d names h = subst (AreNamed y) h names
  nest_named c (n ∷ outer) d names h = nest_named h.0 outer d h.3 h.4

  pub nested : (f : ℕ) → IsLowTyping y → LabelsStand → (c : Context) (ns : List ℕ) (d : Context) → Nest y c ns d → AreNested y f c (label_of y c f) ns d (label_of y d f)
  nested f lows labels c [] d h = (h, ap (λ b. label_of y b f) h)
  nested f lows labels c (n ∷ outer) d h =
      let b = h.0 in
      let is : back c n ≡ b = ap (back c) h.1 ∙ back_is b c h.2 in
      let rest : h.2.more ≡ drop n c.scope = sym (ap (λ k. drop k c.scope) h.1 ∙ rest_is b c h.2) in
      subst (λ k. (m : Label) × StandsBefore y k f m × Grows y k c (drop n c.scope) × AreLow (y.named k) (ref_count k.scope) × AreNested y f k m outer d (label_of y d f)) (sym is)
      (label_of y b f, labels y b f h.3, subst (Grows y b c) rest (grows_by b c h.2), lows b, nested f lows labels b outer d h.4)
