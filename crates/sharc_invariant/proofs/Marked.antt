-- The bits of one shadow word, with the notes of threads, behind each kind of turn on it.
use Rattle.sharc_invariant.proofs.Imports.{◌≡◌, ℕ, suc, ◌⊎◌, ◌||◌, ◌&&◌, Bool, true, false, sym, ap, ◌∙◌, inl, inr, ⊎_elim, cases_eq, and_parts, or_second, or_first, nat_eq, not, ◌==◌, Option, Kind, Read, Write, epoch_of, is_of, is_written, stands, AddsAccess, WithdrawsWord as Withdraws, put, put_same, put_other, put_all, Marks, no_marks, with_check, without_thread, or_true, not_true, ne_eq, eq_refl}

-- a word, and by thread the numbers of its notes and whether it may go on
pub record MarkedAt (v : ℕ) (rn wn : ℕ → ℕ) (goes : ℕ → Bool) (f : Marks) : Type 0 where
  pub read : (k : ℕ) → f.passed k ≡ true → (rn k ≡ suc (epoch_of v)) ⊎ (wn k ≡ suc (epoch_of v))
  pub write : (k : ℕ) → f.passed_write k ≡ true → wn k ≡ suc (epoch_of v)
  pub made : (k : ℕ) → stands v k ≡ true → f.made k ≡ true
  pub wrote : is_written v ≡ true → (k : ℕ) × (stands v k ≡ true) × (f.writes k ≡ true)
  -- of a thread that was not stopped each check was passed
  pub all : (k : ℕ) → goes k ≡ true → f.writes k ≡ true → f.passed_write k ≡ true

-- nothing is done to it
pub at_same : (v v' : ℕ) (rn wn rn' wn' : ℕ → ℕ) (goes goes' : ℕ → Bool) (f : Marks) → v' ≡ v → ((k : ℕ) → rn' k ≡ rn k) → ((k : ℕ) → wn' k ≡ wn k) → ((k : ℕ) → goes' k ≡ true → goes k ≡ true)
    → MarkedAt v rn wn goes f → MarkedAt v' rn' wn' goes' f
at_same v v' rn wn rn' wn' goes goes' f ev er ew eg h = record {
  read = λ k p. ⊎_elim (λ (a : rn k ≡ suc (epoch_of v)). inl (er k ∙ a ∙ ap (λ v. suc (epoch_of v)) (sym ev))) (λ (a : wn k ≡ suc (epoch_of v)). inr (ew k ∙ a ∙ ap (λ v. suc (epoch_of v)) (sym ev))) (h.read k p);
  write = λ k p. ew k ∙ h.write k p ∙ ap (λ v. suc (epoch_of v)) (sym ev);
  made = λ k p. h.made k (ap (λ v. stands v k) (sym ev) ∙ p);
  wrote = λ p. let z = h.wrote (ap is_written (sym ev) ∙ p) in (z.0, ap (λ v. stands v z.0) ev ∙ z.1, z.2);
  all = λ k p. h.all k (eg k p);
}

-- a Clear
pub at_clear : (v : ℕ) (rn wn : ℕ → ℕ) (goes : ℕ → Bool) → ((k : ℕ) → stands v k ≡ false) → is_written v ≡ false → MarkedAt v rn wn goes no_marks
at_clear v rn wn goes none unwritten = record {
  read = λ k p. absurd (cc);
  write = λ k p. absurd (cc);
  made = λ k p. let z = none k in absurd (cc);
  wrote = λ p. absurd (cc);
  all = λ k g p. absurd (cc);
}

-- a check
module _ (v v' : ℕ) (rn wn rn' wn' : ℕ → ℕ) (goes goes' : ℕ → Bool) (f : Marks) (t : ℕ) (ok : Bool) (reads : (k : ℕ) → rn k ≡ suc (epoch_of v) → rn' k ≡ suc (epoch_of v)) (writes : (k : ℕ) → wn k ≡ suc (epoch_of v) → wn' k ≡ suc (epoch_of v))
    (go_now : goes' t ≡ ok) (go_on : goes t ≡ true) (go_others : (k : ℕ) → (k ≡ t → ⊥) → goes' k ≡ goes k) (h : MarkedAt v rn wn goes f) where
  abbrev Passes : ℕ → Type 0
  Passes k = (rn' k ≡ suc (epoch_of v')) ⊎ (wn' k ≡ suc (epoch_of v'))

  old_read : epoch_of v' ≡ epoch_of v → (k : ℕ) → f.passed k ≡ true → Passes k
  old_read e k p = ⊎_elim (λ (a : rn k ≡ suc (epoch_of v)). inl (reads k a ∙ ap suc (sym e))) (λ (a : wn k ≡ suc (epoch_of v)). inr (writes k a ∙ ap suc (sym e))) (h.read k p)

  old_write : epoch_of v' ≡ epoch_of v → (k : ℕ) → f.passed_write k ≡ true → wn' k ≡ suc (epoch_of v')
  old_write e k p = writes k (h.write k p) ∙ ap suc (sym e)

  now_read : epoch_of v' ≡ epoch_of v → (ok ≡ true → Passes t) → (k : ℕ) → put f.passed t (ok || f.passed t) k ≡ true → Passes k
  now_read e new k = put_all (λ k b. b ≡ true → Passes k) f.passed t (ok || f.passed t)
      (λ p. ⊎_elim (λ (a : ok ≡ true). new a) (λ (a : f.passed t ≡ true). old_read e t a) (or_true ok (f.passed t) p))
      (λ k _ p. old_read e k p) k

  now_made : (kind : Kind) → AddsAccess v v' t kind → (k : ℕ) → stands v' k ≡ true → put f.made t true k ≡ true
  now_made kind a k p = ⊎_elim
      (λ (e : k ≡ t). ap (put f.made t true) e ∙ put_same f.made t true)
      (λ (ne : k ≡ t → ⊥). put_other f.made t k true ne ∙ h.made k (⊎_elim
      (λ (q : stands v k ≡ true). q)
      (λ (q : (k == t) ≡ true). let z : (k == t) ≡ false = ne_eq k t ne in absurd (cc))
      (or_true (stands v k) (k == t) (sym (a.threads k) ∙ p))))
      (cases_eq k t)

  goes_before : (k : ℕ) → goes' k ≡ true → goes k ≡ true
  goes_before k p = ⊎_elim (λ (e : k ≡ t). ap goes e ∙ go_on) (λ (ne : k ≡ t → ⊥). sym (go_others k ne) ∙ p) (cases_eq k t)

  pub at_read : AddsAccess v v' t Read → (ok ≡ true → rn' t ≡ suc (epoch_of v)) → MarkedAt v' rn' wn' goes' (with_check Read ok t f)
  at_read a new = record {
    read = now_read a.epoch (λ o. inl (new o ∙ ap suc (sym a.epoch)));
    write = old_write a.epoch;
    made = now_made Read a;
    wrote = λ p.
        let was : is_written v ≡ true = ⊎_elim (λ (q : is_written v ≡ true). q) (λ (q : false ≡ true). absurd (cc)) (or_true (is_written v) false (sym a.written ∙ p)) in
        let z = h.wrote was in
        (z.0, a.threads z.0 ∙ or_first (stands v z.0) (z.0 == t) z.1, z.2);
    all = λ k g p. h.all k (goes_before k g) p;
  }

  pub at_write : AddsAccess v v' t Write → (ok ≡ true → wn' t ≡ suc (epoch_of v)) → MarkedAt v' rn' wn' goes' (with_check Write ok t f)
  at_write a new = record {
    read = now_read a.epoch (λ o. inr (new o ∙ ap suc (sym a.epoch)));
    write = put_all (λ k b. b ≡ true → wn' k ≡ suc (epoch_of v')) f.passed_write t (ok || f.passed_write t)
        (λ p. ⊎_elim (λ (o : ok ≡ true). new o ∙ ap suc (sym a.epoch)) (λ (q : f.passed_write t ≡ true). old_write a.epoch t q) (or_true ok (f.passed_write t) p))
        (λ k _ p. old_write a.epoch k p);
    made = now_made Write a;
    wrote = λ p. (t, a.threads t ∙ or_second (stands v t) (t == t) (eq_refl t), put_same f.writes t true);
    all = λ k g p. ⊎_elim
        (λ (e : k ≡ t). ap (put f.passed_write t (ok || f.passed_write t)) e ∙ put_same f.passed_write t (ok || f.passed_write t) ∙ or_first ok (f.passed_write t) (sym go_now ∙ ap goes' (sym e) ∙ g))
        (λ (ne : k ≡ t → ⊥). put_other f.passed_write t k (ok || f.passed_write t) ne ∙ h.all k (sym (go_others k ne) ∙ g) (sym (put_other f.writes t k true ne) ∙ p))
        (cases_eq k t);
  }

-- a withdrawal
pub at_withdraw : (v v' : ℕ) (rn wn rn' wn' : ℕ → ℕ) (goes goes' : ℕ → Bool) (f : Marks) (t : ℕ) (w : Option ℕ) → Withdraws v v' t w → is_of w (epoch_of v) ≡ nat_eq (wn t) (suc (epoch_of v))
    → ((k : ℕ) → (k ≡ t → ⊥) → rn' k ≡ rn k) → ((k : ℕ) → (k ≡ t → ⊥) → wn' k ≡ wn k) → goes t ≡ true → ((k : ℕ) → goes' k ≡ true → goes k ≡ true)
    → MarkedAt v rn wn goes f → MarkedAt v' rn' wn' goes' (without_thread t f)
at_withdraw v v' rn wn rn' wn' goes goes' f t w wd own er ew on eg h = record {
  read = put_all (λ k b. b ≡ true → (rn' k ≡ suc (epoch_of v')) ⊎ (wn' k ≡ suc (epoch_of v'))) f.passed t false (λ p. absurd (cc))
      (λ k ne p. ⊎_elim (λ (a : rn k ≡ suc (epoch_of v)). inl (er k ne ∙ a ∙ ap suc (sym wd.epoch))) (λ (a : wn k ≡ suc (epoch_of v)). inr (ew k ne ∙ a ∙ ap suc (sym wd.epoch))) (h.read k p));
  write = put_all (λ k b. b ≡ true → wn' k ≡ suc (epoch_of v')) f.passed_write t false (λ p. absurd (cc)) (λ k ne p. ew k ne ∙ h.write k p ∙ ap suc (sym wd.epoch));
  made = λ k p. let z = both k p in put_other f.made t k false z.0 ∙ h.made k z.1;
  wrote = λ p.
      let q = and_parts (is_written v) (not (is_of w (epoch_of v))) (sym wd.written ∙ p) in
      let k = h.wrote q.0 in
      let other : k.0 ≡ t → ⊥ = λ e.
      let pw : wn t ≡ suc (epoch_of v) = h.write t (h.all t on (ap f.writes (sym e) ∙ k.2)) in
      let same : is_of w (epoch_of v) ≡ true = own ∙ ap (λ n. nat_eq n (suc (epoch_of v))) pw ∙ eq_refl (suc (epoch_of v)) in
      let none = not_true (is_of w (epoch_of v)) q.1 in
      absurd (cc) in
      (k.0, wd.threads k.0 ∙ ap (λ b. b && not (k.0 == t)) k.1 ∙ ap not (ne_eq k.0 t other), put_other f.writes t k.0 false other ∙ k.2);
  all = λ k g. put_all (λ k b. goes k ≡ true → b ≡ true → put f.passed_write t false k ≡ true) f.writes t false (λ _ p. absurd (cc)) (λ k ne g p. put_other f.passed_write t k false ne ∙ h.all k g p) k (eg k g);
}
  where
    both : (k : ℕ) → stands v' k ≡ true → (k ≡ t → ⊥) × (stands v k ≡ true)
    both k p =
        let q = and_parts (stands v k) (not (k == t)) (sym (wd.threads k) ∙ p) in
        ((λ e. let z = not_true (k == t) q.1 in let y : (k == t) ≡ true = ap (λ k. k == t) e ∙ eq_refl t in absurd (cc)), q.0)
