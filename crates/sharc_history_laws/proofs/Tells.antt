-- What a turn keeps of the state words: stated of their values, of the numbers that are drawn, and of who was started and who has ended.
use Rattle.sharc_history_laws.proofs.Imports.{◌≡◌, ℕ, ◌<◌, ◌≤◌, ◌⊎◌, Bool, true, false, Option, Some, None, sym, ap, ◌∙◌, ⊎_elim, arith, cases_eq, not_true, THREADS, not_ended as both}

pub record Tells (next : ℕ) (state : ℕ → ℕ) (drawn : ℕ → Option ℕ) (ended started : ℕ → Bool) : Type 0 where
  pub low : (t : ℕ) → started t ≡ true → t < THREADS
  pub undrawn : (t : ℕ) → started t ≡ false → drawn t ≡ None
  pub unended : (t : ℕ) → started t ≡ false → ended t ≡ false
  pub number : (u n : ℕ) → drawn u ≡ Some n → (n < THREADS) × (n < next) × (state n ≡ 0)
  pub one : (u v n : ℕ) → drawn u ≡ Some n → drawn v ≡ Some n → u ≡ v
  pub fresh : (n : ℕ) → n < THREADS → next ≤ n → state n ≡ 0
  pub few : (t : ℕ) → t < THREADS → state t ≤ 3
  pub waits : (t : ℕ) → t < THREADS → state t ≡ 0 → started t ≡ false
  pub begun : (t : ℕ) → t < THREADS → started t ≡ false → state t ≡ 0
  pub ends : (t : ℕ) → t < THREADS → ended t ≡ true → state t ≡ 3
  pub end : (t : ℕ) → t < THREADS → state t ≡ 3 → ended t ≡ true

-- what a turn of thread k makes of the state word of thread t
pub data StateChange (k : ℕ) (old new : ℕ) (drawn drawn' : Option ℕ) (t : ℕ) : Type 0 where
  Same : new ≡ old → StateChange k old new drawn drawn' t
  Begins : drawn ≡ Some t → new ≡ 1 → drawn' ≡ None → StateChange k old new drawn drawn' t
  Own : t ≡ k → (new ≡ 2) ⊎ (new ≡ 3) → StateChange k old new drawn drawn' t

pub record Changes (k next next' : ℕ) (state state' : ℕ → ℕ) (drawn drawn' : ℕ → Option ℕ) (ended ended' started started' : ℕ → Bool) : Type 0 where
  pub was : started k ≡ true
  pub on : ended k ≡ false
  pub drawn_others : (u : ℕ) → (u ≡ k → ⊥) → drawn' u ≡ drawn u
  pub ended_others : (u : ℕ) → (u ≡ k → ⊥) → ended' u ≡ ended u
  pub states : (t : ℕ) → t < THREADS → StateChange k (state t) (state' t) (drawn k) (drawn' k) t
  pub grows : next ≤ next'
  pub drawn_own : (n : ℕ) → drawn' k ≡ Some n → (drawn k ≡ Some n) ⊎ ((next ≤ n) × (n < next') × (n < THREADS))
  pub started_is : (t : ℕ) → started' t ≡ true → (started t ≡ true) ⊎ ((t < THREADS) × (state' t ≡ 1))
  pub started_old : (t : ℕ) → started t ≡ true → started' t ≡ true
  pub started_new : (t : ℕ) → t < THREADS → state' t ≡ 1 → started' t ≡ true
  pub ends_own : ended' k ≡ true → state' k ≡ 3
  pub end_own : state' k ≡ 3 → ended' k ≡ true

some_none : (x : Option ℕ) (n : ℕ) → x ≡ Some n → x ≡ None → ⊥
some_none x n e f = let g : Some n ≡ None = sym e ∙ f in cc

module _ (k next next' : ℕ) (state state' : ℕ → ℕ) (drawn drawn' : ℕ → Option ℕ) (ended ended' started started' : ℕ → Bool)
    (h : Tells next state drawn ended started) (c : Changes k next next' state state' drawn drawn' ended ended' started started') where
  k_low : k < THREADS
  k_low = h.low k c.was

  k_some : state k ≡ 0 → ⊥
  k_some e = both (started k) c.was (h.waits k k_low e)

  k_on : state k ≡ 3 → ⊥
  k_on e = both (ended k) (h.end k k_low e) c.on

  zero_stays : (n : ℕ) → n < THREADS → state n ≡ 0 → (drawn k ≡ Some n → drawn' k ≡ None → ⊥) → state' n ≡ 0
  zero_stays n low z other = by (c.states n low)
    where
      by : StateChange k (state n) (state' n) (drawn k) (drawn' k) n → state' n ≡ 0
      by (Same e) = e ∙ z
      by (Begins d e none) = absurd (other d none)
      by (Own e new) = absurd (k_some (ap state (sym e) ∙ z))

  number : (u n : ℕ) → drawn' u ≡ Some n → (n < THREADS) × (n < next') × (state' n ≡ 0)
  number u n d = ⊎_elim
      (λ (e : u ≡ k).
      let mine : drawn' k ≡ Some n = ap drawn' (sym e) ∙ d in
      ⊎_elim
      (λ (old : drawn k ≡ Some n). let o = h.number k n old in let g = c.grows in let lt = o.1 in (o.0, omega arith, zero_stays n o.0 o.2 (λ x none. some_none (drawn' k) n mine none)))
      (λ (new : (next ≤ n) × (n < next') × (n < THREADS)).
      (new.2, new.1, zero_stays n new.2 (h.fresh n new.2 new.0) (λ x none. let o = h.number k n x in let lt = o.1 in let le = new.0 in omega arith)))
      (c.drawn_own n mine))
      (λ (ne : u ≡ k → ⊥).
      let old : drawn u ≡ Some n = sym (c.drawn_others u ne) ∙ d in
      let o = h.number u n old in let g = c.grows in let lt = o.1 in
      (o.0, omega arith, zero_stays n o.0 o.2 (λ x none. ne (h.one u k n old x))))
      (cases_eq u k)

  -- the number of one that did not make the turn
  apart : (v n : ℕ) → (v ≡ k → ⊥) → drawn' k ≡ Some n → drawn' v ≡ Some n → ⊥
  apart v n ne mine other =
      let old : drawn v ≡ Some n = sym (c.drawn_others v ne) ∙ other in
      ⊎_elim
      (λ (d : drawn k ≡ Some n). ne (h.one v k n old d))
      (λ (new : (next ≤ n) × (n < next') × (n < THREADS)). let o = h.number v n old in let lt = o.1 in let le = new.0 in omega arith)
      (c.drawn_own n mine)

  one : (u v n : ℕ) → drawn' u ≡ Some n → drawn' v ≡ Some n → u ≡ v
  one u v n a b = ⊎_elim
      (λ (e : u ≡ k). ⊎_elim
      (λ (f : v ≡ k). e ∙ sym f)
      (λ (ne : v ≡ k → ⊥). absurd (apart v n ne (ap drawn' (sym e) ∙ a) b))
      (cases_eq v k))
      (λ (ne : u ≡ k → ⊥). ⊎_elim
      (λ (f : v ≡ k). absurd (apart u n ne (ap drawn' (sym f) ∙ b) a))
      (λ (other : v ≡ k → ⊥). h.one u v n (sym (c.drawn_others u ne) ∙ a) (sym (c.drawn_others v other) ∙ b))
      (cases_eq v k))
      (cases_eq u k)

  fresh : (n : ℕ) → n < THREADS → next' ≤ n → state' n ≡ 0
  fresh n low le =
      let g = c.grows in
      zero_stays n low (h.fresh n low (omega arith)) (λ x none. let o = h.number k n x in let lt = o.1 in omega arith)

  few : (t : ℕ) → t < THREADS → state' t ≤ 3
  few t low = by (c.states t low)
    where
      by : StateChange k (state t) (state' t) (drawn k) (drawn' k) t → state' t ≤ 3
      by (Same e) = let old = h.few t low in omega arith
      by (Begins d e none) = omega arith
      by (Own e new) = ⊎_elim (λ (two : state' t ≡ 2). omega arith) (λ (three : state' t ≡ 3). omega arith) new

  waits : (t : ℕ) → t < THREADS → state' t ≡ 0 → started' t ≡ false
  waits t low z = not_true (started' t) (λ is. ⊎_elim
      (λ (old : started t ≡ true). by old (c.states t low))
      (λ (new : (t < THREADS) × (state' t ≡ 1)). let one = new.1 in omega arith)
      (c.started_is t is))
    where
      by : started t ≡ true → StateChange k (state t) (state' t) (drawn k) (drawn' k) t → ⊥
      by old (Same e) = both (started t) old (h.waits t low (sym e ∙ z))
      by old (Begins d e none) = omega arith
      by old (Own e new) = ⊎_elim (λ (two : state' t ≡ 2). omega arith) (λ (three : state' t ≡ 3). omega arith) new

  begun : (t : ℕ) → t < THREADS → started' t ≡ false → state' t ≡ 0
  begun t low is = by (not_true (started t) (λ old. both (started' t) (c.started_old t old) is)) (c.states t low)
    where
      by : started t ≡ false → StateChange k (state t) (state' t) (drawn k) (drawn' k) t → state' t ≡ 0
      by old (Same e) = e ∙ h.begun t low old
      by old (Begins d e none) = absurd (both (started' t) (c.started_new t low e) is)
      by old (Own e new) = absurd (both (started k) c.was (ap started (sym e) ∙ old))

  ends : (t : ℕ) → t < THREADS → ended' t ≡ true → state' t ≡ 3
  ends t low is = ⊎_elim
      (λ (e : t ≡ k). ap state' e ∙ c.ends_own (ap ended' (sym e) ∙ is))
      (λ (ne : t ≡ k → ⊥). by ne (h.ends t low (sym (c.ended_others t ne) ∙ is)) (c.states t low))
      (cases_eq t k)
    where
      by : (t ≡ k → ⊥) → state t ≡ 3 → StateChange k (state t) (state' t) (drawn k) (drawn' k) t → state' t ≡ 3
      by ne three (Same e) = e ∙ three
      by ne three (Begins d e none) = absurd (let o = h.number k t d in let z = o.2 in omega arith)
      by ne three (Own e new) = absurd (ne e)

  end : (t : ℕ) → t < THREADS → state' t ≡ 3 → ended' t ≡ true
  end t low is = ⊎_elim
      (λ (e : t ≡ k). ap ended' e ∙ c.end_own (ap state' (sym e) ∙ is))
      (λ (ne : t ≡ k → ⊥). c.ended_others t ne ∙ by ne (c.states t low))
      (cases_eq t k)
    where
      by : (t ≡ k → ⊥) → StateChange k (state t) (state' t) (drawn k) (drawn' k) t → ended t ≡ true
      by ne (Same e) = h.end t low (sym e ∙ is)
      by ne (Begins d e none) = absurd (omega arith)
      by ne (Own e new) = absurd (ne e)

  other_waits : (t : ℕ) → started' t ≡ false → (started t ≡ false) × (t ≡ k → ⊥)
  other_waits t is =
      let old : started t ≡ false = not_true (started t) (λ x. both (started' t) (c.started_old t x) is) in
      (old, λ e. both (started k) c.was (ap started (sym e) ∙ old))

  pub tells_still : Tells next' state' drawn' ended' started'
  tells_still = record {
    low = λ t is. ⊎_elim (λ (old : started t ≡ true). h.low t old) (λ (new : (t < THREADS) × (state' t ≡ 1)). new.0) (c.started_is t is);
    undrawn = λ t is. let o = other_waits t is in c.drawn_others t o.1 ∙ h.undrawn t o.0;
    unended = λ t is. let o = other_waits t is in c.ended_others t o.1 ∙ h.unended t o.0;
    number = number;
    one = one;
    fresh = fresh;
    few = few;
    waits = waits;
    begun = begun;
    ends = ends;
    end = end;
  }
