-- What checks, clears and withdrawals keep of a granule.
use Rattle.sharc_invariant.proofs.{Imports.{◌≡◌, ℕ, suc, ◌+◌, ◌-◌, ◌<◌, ◌≤◌, ◌⊎◌, Bool, true, false, cond, refl, sym, ◌∙◌, subst, inl, inr, ⊎_elim, arith, cases_eq, put, put_same, put_other, put_all, GranuleState, one, Passed, Bits, cleared, marked, passed, withdrawn, Alone, Clean, ne_eq}, Sums.{one_same, one_other}}

pub up : (f : ℕ → ℕ) (v o : ℕ) → put f v (f v + 1) o ≡ f o + one v o
up f v = put_all (λ o n. n ≡ f o + one v o) f v (f v + 1) (let e = one_same v in omega arith) (λ o ne. let e = one_other v o (λ i. ne (sym i)) in omega arith)

pub down : (f : ℕ → ℕ) (v o : ℕ) → 1 ≤ f v → put f v (f v - 1) o + one v o ≡ f o
down f v o le = put_all (λ o n. n + one v o ≡ f o) f v (f v - 1) (let e = one_same v in omega arith) (λ o ne. let e = one_other v o (λ i. ne (sym i)) in omega arith) o

-- the sets of a granule
pub bits_cleared : (n : ℕ) (g : GranuleState) → Bits n g → Bits n (cleared g)
bits_cleared n g b = record {
  low = λ t. ⊎_elim (λ e. let l = b.read_low t in absurd (omega arith)) (λ e. let l = b.write_low t in absurd (omega arith));
  read_low = λ t. let l = b.read_low t in omega arith;
  write_low = λ t. let l = b.write_low t in omega arith;
  bit = λ t. ⊎_elim (λ e. let l = b.read_low t in absurd (omega arith)) (λ e. let l = b.write_low t in absurd (omega arith));
  written = λ t e. let l = b.write_low t in absurd (omega arith);
  alone = λ t u e _. let l = b.write_low t in absurd (omega arith);
}

pub bits_marked : (n : ℕ) (g : GranuleState) (t : ℕ) (k : Bool) → Bits n g → Bits n (marked g t k)
bits_marked n g t k b = record {
  low = b.low;
  read_low = b.read_low;
  write_low = b.write_low;
  bit = λ u p. put_all (λ v (x : Bool). Passed g v false → x ≡ true) g.has t true (λ _. refl) (λ v _. b.bit v) u p;
  written = λ u p. elim k as (λ k. cond k true g.wrote ≡ true) [ true ↦ refl | false ↦ b.written u p ];
  alone = b.alone;
}

bits_read : (n : ℕ) (g : GranuleState) (t : ℕ) → t < n → Clean n g t false → Bits n g → Bits n (passed g t false)
bits_read n g t lt c b =
    -- who has passed now has passed before, or is t
    let was : (u : ℕ) → Passed (passed g t false) u false → (u ≡ t) ⊎ Passed g u false =
    λ u. ⊎_elim (λ e. ⊎_elim (λ (i : u ≡ t). inl i) (λ (ne : u ≡ t → ⊥). inr (inl (sym (put_other g.read_note t u (suc g.epoch) ne) ∙ e))) (cases_eq u t)) (λ e. inr (inr e)) in
    record {
      low = λ u p. ⊎_elim (λ (e : u ≡ t). subst (λ v. v < n) (sym e) lt) (b.low u) (was u p);
      read_low = put_all (λ v n. n ≤ suc g.epoch) g.read_note t (suc g.epoch) (omega arith) (λ v _. b.read_low v);
      write_low = b.write_low;
      bit = λ u p. put_all (λ v (x : Bool). (v ≡ t) ⊎ Passed g v false → x ≡ true) g.has t true (λ _. refl) (λ v ne. ⊎_elim (λ e. absurd (ne e)) (b.bit v)) u (was u p);
      written = b.written;
      alone = λ a u pa pu. ⊎_elim
          (λ (e : u ≡ t). ⊎_elim
          (λ (no : g.wrote ≡ false). let yes = b.written a pa in absurd (cc))
          (⊎_elim
          (λ (none' : Alone n g t). ⊎_elim
          (λ (i : a ≡ t). i ∙ sym e)
          (λ (ne : a ≡ t → ⊥). let no = none' a (b.low a (inr pa)) ne in let yes = b.bit a (inr pa) in absurd (cc))
          (cases_eq a t))
          (λ (own : g.write_note t ≡ suc g.epoch). b.alone a t pa (inr own) ∙ sym e))
          c)
          (λ (h : Passed g u false). b.alone a u pa h)
          (was u pu);
    }

bits_write : (n : ℕ) (g : GranuleState) (t : ℕ) → t < n → Clean n g t true → Bits n g → Bits n (passed g t true)
bits_write n g t lt c b =
    let was : (u : ℕ) → Passed (passed g t true) u true → (u ≡ t) ⊎ Passed g u true =
    λ u e. ⊎_elim (λ (i : u ≡ t). inl i) (λ (ne : u ≡ t → ⊥). inr (sym (put_other g.write_note t u (suc g.epoch) ne) ∙ e)) (cases_eq u t) in
    let was_read : (u : ℕ) → Passed (passed g t true) u false → (u ≡ t) ⊎ Passed g u false =
    λ u. ⊎_elim (λ e. inr (inl e)) (λ e. ⊎_elim (λ i. inl i) (λ h. inr (inr h)) (was u e)) in
    -- nobody else has passed
    let only : (u : ℕ) → (u ≡ t) ⊎ Passed g u false → u ≡ t =
    λ u. ⊎_elim (λ e. e) (λ h. ⊎_elim (λ (i : u ≡ t). i) (λ (ne : u ≡ t → ⊥). let no = c u (b.low u h) ne in let yes = b.bit u h in absurd (cc)) (cases_eq u t)) in
    record {
      low = λ u p. ⊎_elim (λ (e : u ≡ t). subst (λ v. v < n) (sym e) lt) (b.low u) (was_read u p);
      read_low = b.read_low;
      write_low = put_all (λ v n. n ≤ suc g.epoch) g.write_note t (suc g.epoch) (omega arith) (λ v _. b.write_low v);
      bit = λ u p. let P : ℕ → Type 0 = λ v. put g.has t true v ≡ true in subst P (sym (only u (was_read u p))) (put_same g.has t true);
      written = λ u p. refl;
      alone = λ a u pa pu. only a (was_read a (inr pa)) ∙ sym (only u (was_read u pu));
    }

pub bits_passed : (n : ℕ) (g : GranuleState) (t : ℕ) (k : Bool) → t < n → Clean n g t k → Bits n g → Bits n (passed g t k)
bits_passed n g t true = bits_write n g t
bits_passed n g t false = bits_read n g t

pub bits_withdrawn : (n : ℕ) (g : GranuleState) (t : ℕ) → Bits n g → Bits n (withdrawn g t)
bits_withdrawn n g t b =
    let not_t : (f : ℕ → ℕ) (u : ℕ) → put f t 0 u ≡ suc g.epoch → (f u ≡ suc g.epoch) × (u ≡ t → ⊥) =
    λ f. put_all (λ u n. n ≡ suc g.epoch → (f u ≡ suc g.epoch) × (u ≡ t → ⊥)) f t 0 (λ e. absurd (omega arith)) (λ u ne e. (e, ne)) in
    let was : (u : ℕ) → Passed (withdrawn g t) u false → Passed g u false × (u ≡ t → ⊥) =
    λ u. ⊎_elim (λ e. let x = not_t g.read_note u e in (inl x.0, x.1)) (λ e. let x = not_t g.write_note u e in (inr x.0, x.1)) in
    record {
      low = λ u p. b.low u (was u p).0;
      read_low = put_all (λ v n. n ≤ suc g.epoch) g.read_note t 0 (omega arith) (λ v _. b.read_low v);
      write_low = put_all (λ v n. n ≤ suc g.epoch) g.write_note t 0 (omega arith) (λ v _. b.write_low v);
      bit = λ u p. let x = was u p in put_other g.has t u false x.1 ∙ b.bit u x.0;
      written = λ u p.
          let x = not_t g.write_note u p in
          rw (ne_eq (g.write_note t) (suc g.epoch) (λ e. x.1 (b.alone u t x.0 (inr e)))) (b.written u x.0);
      alone = λ a u pa pu. b.alone a u (not_t g.write_note a pa).0 (was u pu).0;
    }
