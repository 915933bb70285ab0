-- By the history a `free` has taken an object that a Free is emptying: the thread took it by its last event, and has held
-- it since, so nobody made it again.
use Rattle.sharc_wants_laws.proofs.Imports.{◌≡◌, ◌≢◌, ◌⊎◌, ⊎_elim, ℕ, Bool, true, false, ◌||◌, ◌&&◌, cond, List, [], ◌∷◌, ◌++◌, Some, refl, sym, ap, ◌∙◌, subst, append-nil, reverse-append, filter-append, find, reverse, Made, SourceEvent, events_of, is_of, makes, is_taken_to_free, refers, taken_to_free, takes_to_free, meets, TakesLast, Code, Shape, Turn, CheckedRun, ObjectState, history_of, Grows, RunsBegin, yes}

no_last : (before : List SourceEvent) (e : SourceEvent) → [] ≡ before ++ e ∷ [] → ⊥
no_last [] e h = cc
no_last (x ∷ before) e h = cc

last_same : (a b : List SourceEvent) (x y : SourceEvent) → a ++ x ∷ [] ≡ b ++ y ∷ [] → x ≡ y
last_same a b x y h = let ends : x ∷ reverse a ≡ y ∷ reverse b = sym (reverse-append a (x ∷ [])) ∙ ap reverse h ∙ reverse-append b (y ∷ []) in cc

-- ---- one event more
module _ (R : List SourceEvent) (e : SourceEvent) where
  -- a thread has it too, if it is its own
  own_events : (u : ℕ) (b : Bool) → is_of u e ≡ b → events_of u (R ++ e ∷ []) ≡ events_of u R ++ cond b (e ∷ []) []
  own_events u b is = filter-append (is_of u) R (e ∷ []) ∙ ap (λ b. events_of u R ++ cond b (e ∷ []) []) is

  module _ (n : ℕ) where
    abbrev test : SourceEvent → Bool
    test d = makes (Made n) d || takes_to_free (Made n) d

    pushed : is_taken_to_free (R ++ e ∷ []) n ≡ meets (takes_to_free (Made n)) (cond (makes (Made n) e || takes_to_free (Made n) e) (Some e) (find test (reverse R)))
    pushed = ap (λ L. meets (takes_to_free (Made n)) (find test L)) (reverse-append R (e ∷ []))

    or_right : (a b : Bool) → b ≡ true → (a || b) ≡ true
    or_right true b h = refl
    or_right false b h = h

    takes_it : takes_to_free (Made n) e ≡ true → is_taken_to_free (R ++ e ∷ []) n ≡ true
    takes_it h = pushed ∙ ap (λ b. meets (takes_to_free (Made n)) (cond b (Some e) (find test (reverse R)))) (or_right (makes (Made n) e) (takes_to_free (Made n) e) h) ∙ h

    leaves_it : makes (Made n) e ≡ false → takes_to_free (Made n) e ≡ false → is_taken_to_free (R ++ e ∷ []) n ≡ is_taken_to_free R n
    leaves_it a b = pushed ∙ ap (λ z. meets (takes_to_free (Made n)) (cond (z || takes_to_free (Made n) e) (Some e) (find test (reverse R)))) a ∙ ap (λ z. meets (takes_to_free (Made n)) (cond z (Some e) (find test (reverse R)))) b

    -- the object was taken before, and is live, so that the event does not make it
    stays_taken : is_taken_to_free R n ≡ true → (makes (Made n) e ≡ true → ⊥) → is_taken_to_free (R ++ e ∷ []) n ≡ true
    stays_taken was never = by (takes_to_free (Made n) e) refl (makes (Made n) e) refl
      where
        by : (a : Bool) → takes_to_free (Made n) e ≡ a → (b : Bool) → makes (Made n) e ≡ b → is_taken_to_free (R ++ e ∷ []) n ≡ true
        by true a b is = takes_it a
        by false a true is = absurd (never is)
        by false a false is = leaves_it is a ∙ was

-- ---- runs
module _ (code : Code) (s : Shape) (objects : List Turn → ℕ → ObjectState) (begins : RunsBegin)
    (grows : (one : Turn) (earlier : List Turn) → CheckedRun code s (one ∷ earlier) → (history_of code s (one ∷ earlier) ≡ history_of code s earlier) ⊎ Grows code s (objects earlier) one earlier)
    (live : (run : List Turn) → CheckedRun code s run → (u n : ℕ) → n ≢ 0 → TakesLast (history_of code s run) u n → (objects run n).live ≡ true) where
  pub last_taken : (run : List Turn) → CheckedRun code s run → (u n : ℕ) → n ≢ 0 → TakesLast (history_of code s run) u n → is_taken_to_free (history_of code s run) n ≡ true
  last_taken [] checked u n some t = absurd (no_last t.before t.event t.last)
  last_taken (one ∷ earlier) checked u n some t = ⊎_elim
      (λ (same : history_of code s (one ∷ earlier) ≡ history_of code s earlier).
      subst (λ R. is_taken_to_free R n ≡ true) (sym same) (last_taken earlier was u n some (subst (λ R. TakesLast R u n) same t)))
      (λ (g : Grows code s (objects earlier) one earlier). subst (λ R. is_taken_to_free R n ≡ true) (sym g.is) (by_event g (subst (λ R. TakesLast R u n) g.is t) (is_of u g.event) refl (last_taken earlier was u n some)))
      (grows one earlier checked)
    where
      was : CheckedRun code s earlier
      was = begins code s (one ∷ []) earlier checked

      by_event : (g : Grows code s (objects earlier) one earlier) → TakesLast (history_of code s earlier ++ g.event ∷ []) u n → (b : Bool) → is_of u g.event ≡ b
          → (TakesLast (history_of code s earlier) u n → is_taken_to_free (history_of code s earlier) n ≡ true) → is_taken_to_free (history_of code s earlier ++ g.event ∷ []) n ≡ true
      by_event g t true own before =
          let same : g.event ≡ t.event = last_same (events_of u (history_of code s earlier)) t.before g.event t.event (sym (own_events (history_of code s earlier) g.event u true own) ∙ t.last) in
          takes_it (history_of code s earlier) g.event n (subst (λ (e : SourceEvent). (taken_to_free e.act && refers n e.answer) ≡ true) (sym same) (ap (λ b. b && refers n t.event.answer) t.kind ∙ t.refers_there))
      by_event g t false other before =
          let old : TakesLast (history_of code s earlier) u n = record {
            before = t.before;
            event = t.event;
            last = sym (own_events (history_of code s earlier) g.event u false other ∙ append-nil (events_of u (history_of code s earlier))) ∙ t.last;
            kind = t.kind;
            refers_there = t.refers_there;
          } in
          stays_taken (history_of code s earlier) g.event n (before old) (λ makes_it. yes (sym (live earlier was u n some old) ∙ g.fresh n some makes_it))
