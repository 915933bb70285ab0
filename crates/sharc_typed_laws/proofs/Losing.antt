-- Labels where some registers are copies no more: of variables that are taken away, which no type names.
use Rattle.sharc_typed_laws.proofs.Imports.{◌≡◌, ℕ, ◌≤◌, ◌⊎◌, Bool, true, false, cond, Option, Some, None, refl, sym, ap, ◌∙◌, inl, inr, ⊎_elim, arith, false≢true, cases_eq, nat_tests, nat_eq, fun_ext, Expression, identifier, Name as Named, put, put_same, put_other, Context, number_in, register_of, what_names, Entry, Label, Less, Itself, IsCopy, fill, without_copies, less_entry_refl, less_number_refl, less_gate_refl, RegistersStand, Typing, HoldsVariables, IsCopyIn, IsCopyNamed, IsCopyOf, IsPointerCopy, IsBare}

-- the registers are copies of these
abbrev pub with_copies : Label → (ℕ → ℕ) → Label
with_copies l same = record l { same = same }

-- each register is a copy of what it was a copy of, or of nothing else any more if that is none that types name
pub record Loses (named : ℕ → Bool) (same lost : ℕ → ℕ) : Type 0 where
  pub each : (q : ℕ) → (lost q ≡ same q) ⊎ ((lost q ≡ q) × (named (same q) ≡ false))

pub loses_none : (named : ℕ → Bool) (same : ℕ → ℕ) → Loses named same same
loses_none named same = record { each = λ q. inl refl }

pub loses_both : (named : ℕ → Bool) (a b d : ℕ → ℕ) → Loses named a b → Loses named b d → Loses named a d
loses_both named a b d g h = record {
  each = λ q. ⊎_elim
      (λ (e : d q ≡ b q). ⊎_elim (λ (z : b q ≡ a q). inl (e ∙ z)) (λ (z : (b q ≡ q) × (named (a q) ≡ false)). inr (e ∙ z.0, z.1)) (g.each q))
      (λ (e : (d q ≡ q) × (named (b q) ≡ false)). ⊎_elim (λ (z : b q ≡ a q). inr (e.0, ap named (sym z) ∙ e.1)) (λ (z : (b q ≡ q) × (named (a q) ≡ false)). inr (e.0, z.1)) (g.each q)) (h.each q);
}

-- what is lost where a variable is taken away
pub loses_taken : (named : ℕ → Bool) (same : ℕ → ℕ) (x : ℕ) → named x ≡ false → Loses named same (without_copies same x)
loses_taken named same x unnamed = record { each = λ q. by q (nat_eq (same q) x) refl }
  where
    by : (q : ℕ) (b : Bool) → nat_eq (same q) x ≡ b → (cond b q (same q) ≡ same q) ⊎ ((cond b q (same q) ≡ q) × (named (same q) ≡ false))
    by q true e = let z : same q ≡ x = grind (arith, nat_tests, e) in inr (refl, ap named z ∙ unnamed)
    by q false e = inl refl

-- ---- labels with fewer copies
module _ (named : ℕ → Bool) (l : Label) (lost : ℕ → ℕ) (h : Loses named l.same lost) where
  pub stands_lost : (i r : ℕ) → RegistersStand named i r l → RegistersStand named i r (with_copies l lost)
  stands_lost i r s = record {
    closed = s.closed;
    free = s.free;
    full = s.full;
    alone = λ q le. ⊎_elim (λ (e : lost q ≡ l.same q). e ∙ s.alone q le) (λ (e : (lost q ≡ q) × (named (l.same q) ≡ false)). e.0) (h.each q);
    copies = λ q lt. ⊎_elim (λ (e : lost q ≡ l.same q). let z = s.copies q lt in omega (arith, e, z)) (λ (e : (lost q ≡ q) × (named (l.same q) ≡ false)). let z = e.0 in omega (arith, z, lt)) (h.each q);
    known = s.known;
    paths = s.paths;
    numbers = s.numbers;
    bases = s.bases;
    nothing_passed = s.nothing_passed;
    no_room = s.no_room;
  }

  pub less_lost : Less l (with_copies l lost)
  less_lost = record {
    function = refl;
    env = λ q. less_entry_refl l q (l.env q);
    same = λ q. ⊎_elim (λ (e : lost q ≡ l.same q). IsCopy (sym e)) (λ (e : (lost q ≡ q) × (named (l.same q) ≡ false)). Itself (sym e.0)) (h.each q);
    known = λ q e. e;
    ints = λ j. less_number_refl (l.ints j);
    gate = less_gate_refl l.gate;
    passed = λ p m. m;
    room = λ e. e;
  }

  pub holds_lost : (y : Typing) (c : Context) → HoldsVariables y c l → HoldsVariables y c (with_copies l lost)
  holds_lost y c v = record {
    references = v.references;
    copies = λ q lt. ⊎_elim (λ (e : lost q ≡ l.same q). e ∙ v.copies q lt) (λ (e : (lost q ≡ q) × (named (l.same q) ≡ false)). e.0) (h.each q);
    integers = v.integers;
  }

  -- nothing is lost where nothing but variables is at hand
  pub kept : IsBare l → with_copies l lost ≡ l
  kept alone = ap (λ same. with_copies l same) (fun_ext (λ q. ⊎_elim (λ (e : lost q ≡ l.same q). e) (λ (e : (lost q ≡ q) × (named (l.same q) ≡ false)). e.0 ∙ sym (alone.0 q)) (h.each q)))

-- ---- with one register more
-- what is lost of the registers below
abbrev pub below : (ℕ → ℕ) → ℕ → (ℕ → ℕ) → ℕ → ℕ
below same r lost = put lost r (same r)

module _ (named : ℕ → Bool) (same : ℕ → ℕ) (r v : ℕ) (lost : ℕ → ℕ) (h : Loses named (put same r v) lost) where
  pub loses_below : Loses named same (below same r lost)
  loses_below = record {
    each = λ q. ⊎_elim (λ (z : q ≡ r). inl (ap (put lost r (same r)) z ∙ put_same lost r (same r) ∙ ap same (sym z)))
        (λ (ne : q ≡ r → ⊥). let p : put lost r (same r) q ≡ lost q = put_other lost r q (same r) ne in let there : put same r v q ≡ same q = put_other same r q v ne in
        ⊎_elim (λ (e : lost q ≡ put same r v q). inl (p ∙ e ∙ there)) (λ (e : (lost q ≡ q) × (named (put same r v q) ≡ false)). inr (p ∙ e.0, ap named (sym there) ∙ e.1)) (h.each q)) (cases_eq q r);
  }

  -- of what the register itself is a copy
  pub loses_there : (lost r ≡ v) ⊎ ((lost r ≡ r) × (named v ≡ false))
  loses_there = ⊎_elim (λ (e : lost r ≡ put same r v r). inl (e ∙ put_same same r v)) (λ (e : (lost r ≡ r) × (named (put same r v r) ≡ false)). inr (e.0, ap named (sym (put_same same r v)) ∙ e.1)) (h.each r)

  pub small_there : v ≤ r → lost r ≤ r
  small_there small = ⊎_elim (λ (e : lost r ≡ v). omega (arith, e, small)) (λ (e : (lost r ≡ r) × (named v ≡ false)). let z = e.0 in omega (arith, z)) loses_there

pub lost_fill : (l : Label) (r : ℕ) (e : Entry) (v : ℕ) (b : Bool) (lost : ℕ → ℕ) → with_copies (fill l r e v b) lost ≡ fill (with_copies l (below l.same r lost)) r e (lost r) b
lost_fill l r e v b lost = ap (λ same. with_copies (fill l r e v b) same) (fun_ext back)
  where
    back : (q : ℕ) → lost q ≡ put (below l.same r lost) r (lost r) q
    back q = sym (⊎_elim (λ (z : q ≡ r). ap (put (below l.same r lost) r (lost r)) z ∙ put_same (below l.same r lost) r (lost r) ∙ ap lost (sym z)) (λ (ne : q ≡ r → ⊥). put_other (below l.same r lost) r q (lost r) ne ∙ put_other lost r q (l.same r) ne) (cases_eq q r))

-- ---- copies of variables that types name are kept
module _ (y : Typing) (c : Context) (v w r : ℕ) (g : (w ≡ v) ⊎ ((w ≡ r) × (y.named c v ≡ false))) where
  copy_in : (q : ℕ) → IsCopyIn y c q v → IsCopyIn y c q w
  copy_in q h = λ n. ⊎_elim (λ (e : w ≡ v). e ∙ h n) (λ (e : (w ≡ r) × (y.named c v ≡ false)). absurd (false≢true (sym e.1 ∙ ap (y.named c) (h n) ∙ n))) g

  copy_named : (n : Named) → IsCopyNamed y c n v → IsCopyNamed y c n w
  copy_named (Named.Variable x) h = copy_in (number_in (register_of c.scope x)) h
  copy_named _ h = tt

  pub copy_kept : (e : Expression) → IsCopyOf y c e v → IsCopyOf y c e w
  copy_kept (identifier s x) h = copy_named (what_names c x.site.token) h
  copy_kept _ h = tt

  pub pointer_kept : (p : Option Expression) → IsPointerCopy y c p v → IsPointerCopy y c p w
  pointer_kept None h = tt
  pointer_kept (Some p) h = copy_kept p h
