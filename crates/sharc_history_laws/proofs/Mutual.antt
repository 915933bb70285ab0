-- At each time one thread at most holds a mutex by the events of a run, and it is the one that locked it last.
use Rattle.sharc_history_laws.proofs.{Imports.{◌≡◌, ℕ, Bool, true, false, not, ◌||◌, ◌&&◌, cond, [], ◌∷◌, reverse, Option, Some, None, refl, sym, ap, ◌∙◌, eqb-true, ◌==◌, find, SourceEvent, CellAt, locks, unlocks, is_of, meets, is_locked, was_locked_by, same_is, yes}, Holding.{holds_in, holds_own, holds_other}, Lists.{Newest, latest_is}}

-- ---- the newest event first
abbrev pub locked_in : Newest → CellAt → Bool
locked_in L c = meets (locks c) (find (λ e. locks c e || unlocks c e) L)

abbrev pub locked_by_in : Newest → CellAt → ℕ → Bool
locked_by_in L c t = meets (λ e. e.thread == t) (find (locks c) L)

pub locked_is : (L : Newest) (c : CellAt) → is_locked (reverse L) c ≡ locked_in L c
locked_is L c = ap (meets (locks c)) (latest_is (λ e. locks c e || unlocks c e) L)

pub locked_by_is : (L : Newest) (c : CellAt) (t : ℕ) → was_locked_by (reverse L) c t ≡ locked_by_in L c t
locked_by_is L c t = ap (meets (λ e. e.thread == t)) (latest_is (locks c) L)

locked_now : (e : SourceEvent) (L : Newest) (c : CellAt) (a b : Bool) → locks c e ≡ a → unlocks c e ≡ b → locked_in (e ∷ L) c ≡ cond (a || b) a (locked_in L c)
locked_now e L c true b p q = ap (λ l. meets (locks c) (cond (l || unlocks c e) (Some e) (find (λ e. locks c e || unlocks c e) L))) p ∙ p
locked_now e L c false true p q = ap (λ l. meets (locks c) (cond (l || unlocks c e) (Some e) (find (λ e. locks c e || unlocks c e) L))) p
    ∙ ap (λ u. meets (locks c) (cond u (Some e) (find (λ e. locks c e || unlocks c e) L))) q ∙ p
locked_now e L c false false p q = ap (λ l. meets (locks c) (cond (l || unlocks c e) (Some e) (find (λ e. locks c e || unlocks c e) L))) p
    ∙ ap (λ u. meets (locks c) (cond u (Some e) (find (λ e. locks c e || unlocks c e) L))) q

by_now : (e : SourceEvent) (L : Newest) (c : CellAt) (t : ℕ) (a : Bool) → locks c e ≡ a → locked_by_in (e ∷ L) c t ≡ cond a (e.thread == t) (locked_by_in L c t)
by_now e L c t true p = ap (λ l. meets (λ d. d.thread == t) (cond l (Some e) (find (locks c) L))) p
by_now e L c t false p = ap (λ l. meets (λ d. d.thread == t) (cond l (Some e) (find (locks c) L))) p

holds_now : (e : SourceEvent) (L : Newest) (t : ℕ) (c : CellAt) (own a b : Bool) → is_of t e ≡ own → locks c e ≡ a → unlocks c e ≡ b → holds_in (e ∷ L) t c ≡ cond own (a || (holds_in L t c && not b)) (holds_in L t c)
holds_now e L t c true a b o p q = holds_own e L t c o ∙ ap (λ l. l || (holds_in L t c && not (unlocks c e))) p ∙ ap (λ u. a || (holds_in L t c && not u)) q
holds_now e L t c false a b o p q = holds_other e L t c o

-- ---- what holds of mutexes
-- who holds it locked it last, and nobody has unlocked it since; where it is locked somebody holds it
pub record Mutual (L : Newest) : Type 0 where
  pub last : (t : ℕ) (c : CellAt) → holds_in L t c ≡ true → (locked_in L c ≡ true) × (locked_by_in L c t ≡ true)
  pub held : (c : CellAt) → locked_in L c ≡ true → (t : ℕ) × (holds_in L t c ≡ true)

-- a mutex is locked where it was not, and unlocked by who holds it
pub record MayMutex (L : Newest) (e : SourceEvent) : Type 0 where
  pub free : (c : CellAt) → locks c e ≡ true → locked_in L c ≡ false
  pub own : (c : CellAt) → unlocks c e ≡ true → holds_in L e.thread c ≡ true
  pub one : (c : CellAt) → locks c e ≡ true → unlocks c e ≡ false

-- one thread locked it last
one_last : (L : Newest) (c : CellAt) (t u : ℕ) → locked_by_in L c t ≡ true → locked_by_in L c u ≡ true → t ≡ u
one_last L c t u = by (find (locks c) L)
  where
    by : (o : Option SourceEvent) → meets (λ e. e.thread == t) o ≡ true → meets (λ e. e.thread == u) o ≡ true → t ≡ u
    by None p q = absurd (let f : false ≡ true = p in cc)
    by (Some e) p q = sym (eqb-true e.thread t p) ∙ eqb-true e.thread u q

module _ (L : Newest) (old : Mutual L) (e : SourceEvent) (may : MayMutex L e) where
  -- what an event makes of one mutex and one thread
  last_by : (t : ℕ) (c : CellAt) (own a b : Bool) → is_of t e ≡ own → locks c e ≡ a → unlocks c e ≡ b → holds_in (e ∷ L) t c ≡ true → (locked_in (e ∷ L) c ≡ true) × (locked_by_in (e ∷ L) c t ≡ true)
  last_by t c true true b o p q h = (locked_now e L c true b p q, by_now e L c t true p ∙ o)
  last_by t c true false true o p q h = absurd (let f : holds_in (e ∷ L) t c ≡ (false || (holds_in L t c && not true)) = holds_now e L t c true false true o p q in yes (sym h ∙ f ∙ and_no (holds_in L t c)))
    where
      and_no : (b : Bool) → (false || (b && not true)) ≡ false
      and_no true = refl
      and_no false = refl
  last_by t c true false false o p q h =
      let was : holds_in L t c ≡ true = sym (and_yes (holds_in L t c)) ∙ sym (holds_now e L t c true false false o p q) ∙ h in
      let k = old.last t c was in
      (locked_now e L c false false p q ∙ k.0, by_now e L c t false p ∙ k.1)
    where
      and_yes : (b : Bool) → (false || (b && not false)) ≡ b
      and_yes true = refl
      and_yes false = refl
  last_by t c false true b o p q h =
      let was : holds_in L t c ≡ true = sym (holds_now e L t c false true b o p q) ∙ h in
      absurd (yes (sym ((old.last t c was).0) ∙ may.free c p))
  last_by t c false false true o p q h =
      let was : holds_in L t c ≡ true = sym (holds_now e L t c false false true o p q) ∙ h in
      let same : e.thread ≡ t = one_last L c e.thread t ((old.last e.thread c (may.own c q)).1) ((old.last t c was).1) in
      absurd (yes (sym (ap (λ u. u == t) same ∙ same_is t) ∙ o))
  last_by t c false false false o p q h =
      let was : holds_in L t c ≡ true = sym (holds_now e L t c false false false o p q) ∙ h in
      let k = old.last t c was in
      (locked_now e L c false false p q ∙ k.0, by_now e L c t false p ∙ k.1)

  held_by : (c : CellAt) (a b : Bool) → locks c e ≡ a → unlocks c e ≡ b → locked_in (e ∷ L) c ≡ true → (t : ℕ) × (holds_in (e ∷ L) t c ≡ true)
  held_by c true b p q h = (e.thread, holds_now e L e.thread c true true b (same_is e.thread) p q)
  held_by c false true p q h = absurd (yes (sym h ∙ locked_now e L c false true p q))
  held_by c false false p q h =
      let k = old.held c (sym (locked_now e L c false false p q) ∙ h) in
      let t = k.0 in
      (t, keeps (is_of t e) refl k.1)
    where
      keeps : (own : Bool) → is_of (old.held c (sym (locked_now e L c false false p q) ∙ h)).0 e ≡ own → holds_in L (old.held c (sym (locked_now e L c false false p q) ∙ h)).0 c ≡ true → holds_in (e ∷ L) (old.held c (sym (locked_now e L c false false p q) ∙ h)).0 c ≡ true
      keeps true o was = holds_now e L _ c true false false o p q ∙ ap (λ b. false || (b && not false)) was
      keeps false o was = holds_now e L _ c false false false o p q ∙ was

  pub mutual_then : Mutual (e ∷ L)
  mutual_then = record {
    last = λ t c h. last_by t c (is_of t e) (locks c e) (unlocks c e) refl refl refl h;
    held = λ c h. held_by c (locks c e) (unlocks c e) refl refl h;
  }

-- an event of no mutex
pub no_lock : (L : Newest) (e : SourceEvent) → ((c : CellAt) → locks c e ≡ false) → ((c : CellAt) → unlocks c e ≡ false) → MayMutex L e
no_lock L e a b = record {
  free = λ c p. absurd (yes (sym p ∙ a c));
  own = λ c p. absurd (yes (sym p ∙ b c));
  one = λ c p. b c;
}

pub nobody_holds : Mutual []
nobody_holds = record { last = λ t c h. absurd (yes (sym h)); held = λ c h. absurd (yes (sym h)) }
