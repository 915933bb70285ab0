-- A run with its turns without a word operation moved: the word events and the turns of each thread are as they were.
use Rattle.sharc_schedule.proofs.Imports.{no_both, Owns, eqb-true, ◌≡◌, ◌≢◌, ℕ, zero, suc, ◌<◌, ◌≤◌, Bool, true, false, nat_eq, List, [], ◌∷◌, ◌++◌, Option, Some, None, length, refl, sym, ap, ◌∙◌, arith, append_assoc, eq-eqb, ne_eqb, if◌then◌else◌, append-nil, dec_le, ℕ_discrete, dite, WordEvent, Turn, word_events, event_list, turns_of, loose, loose_by, firm, firm_by, all_loose}

-- ---- word events
pub events-append : (later earlier : List Turn) → word_events (later ++ earlier) ≡ word_events earlier ++ word_events later
events-append [] earlier = sym (append-nil (word_events earlier))
events-append (turn ∷ later) earlier =
    ap (λ es. es ++ event_list turn.event) (events-append later earlier) ∙ append_assoc (word_events earlier) (word_events later) (event_list turn.event)

-- turns without a word operation
pub loose_events : (t : ℕ) (turns : List Turn) → word_events (loose t turns) ≡ []
loose_events t [] = refl
loose_events t (turn ∷ earlier) = by (nat_eq t turn.thread) turn.event refl (loose_events t earlier) where
  by : (b : Bool) (event : Option WordEvent) → turn.event ≡ event → word_events (loose t earlier) ≡ []
      → word_events (if b then loose_by event turn (loose t earlier) else loose t earlier) ≡ []
  by true None e r = ap (λ (es : List WordEvent). es ++ event_list turn.event) r ∙ ap event_list e
  by true (Some event) e r = refl
  by false event e r = r

pub firm_events : (turns : List Turn) → word_events (firm turns) ≡ word_events turns
firm_events [] = refl
firm_events (turn ∷ earlier) = by turn.event refl (firm_events earlier) where
  by : (event : Option WordEvent) → turn.event ≡ event → word_events (firm earlier) ≡ word_events earlier
      → word_events (firm_by event turn (loose turn.thread earlier) (firm earlier)) ≡ word_events earlier ++ event_list turn.event
  by None e r = r ∙ (sym (append-nil (word_events earlier)) ∙ ap (λ o. word_events earlier ++ event_list o) (sym e))
  by (Some event) e r =
      ap (λ (es : List WordEvent). es ++ event_list turn.event)
      (events-append (loose turn.thread earlier) (firm earlier) ∙ (ap (λ (es : List WordEvent). word_events (firm earlier) ++ es) (loose_events turn.thread earlier) ∙ (append-nil (word_events (firm earlier)) ∙ r)))

pub all_loose_events : (n : ℕ) (turns : List Turn) → word_events (all_loose n turns) ≡ []
all_loose_events zero turns = refl
all_loose_events (suc t) turns =
    events-append (loose t turns) (all_loose t turns) ∙ (ap (λ (es : List WordEvent). es ++ word_events (loose t turns)) (all_loose_events t turns) ∙ loose_events t turns)

pub arranged_events : (n : ℕ) (turns : List Turn) → word_events (all_loose n turns ++ firm turns) ≡ word_events turns
arranged_events n turns =
    events-append (all_loose n turns) (firm turns)
    ∙ (ap (λ (es : List WordEvent). word_events (firm turns) ++ es) (all_loose_events n turns) ∙ (append-nil (word_events (firm turns)) ∙ firm_events turns))

-- ---- turns of one thread
pub turns-append : (t : ℕ) (later earlier : List Turn) → turns_of t (later ++ earlier) ≡ turns_of t later ++ turns_of t earlier
turns-append t [] earlier = refl
turns-append t (turn ∷ later) earlier = by (nat_eq t turn.thread) (turns-append t later earlier) where
  by : (b : Bool) → turns_of t (later ++ earlier) ≡ turns_of t later ++ turns_of t earlier
      → (if b then turn ∷ turns_of t (later ++ earlier) else turns_of t (later ++ earlier)) ≡ (if b then turn ∷ turns_of t later else turns_of t later) ++ turns_of t earlier
  by true r = ap (λ ts. turn ∷ ts) r
  by false r = r

-- the loose turns of a thread are its own
pub loose_own : (t : ℕ) (turns : List Turn) → turns_of t (loose t turns) ≡ loose t turns
loose_own t [] = refl
loose_own t (turn ∷ earlier) = by (nat_eq t turn.thread) turn.event refl (loose_own t earlier) where
  by : (b : Bool) (event : Option WordEvent) → nat_eq t turn.thread ≡ b → turns_of t (loose t earlier) ≡ loose t earlier
      → turns_of t (if b then loose_by event turn (loose t earlier) else loose t earlier) ≡ (if b then loose_by event turn (loose t earlier) else loose t earlier)
  by true None e r = rw e (ap (λ (ts : List Turn). turn ∷ ts) r)
  by true (Some event) e r = refl
  by false event e r = r

pub loose_owned : (t : ℕ) (turns : List Turn) → Owns t (loose t turns)
loose_owned t [] = tt
loose_owned t (turn ∷ earlier) = by (nat_eq t turn.thread) turn.event refl (loose_owned t earlier) where
  by : (b : Bool) (event : Option WordEvent) → nat_eq t turn.thread ≡ b → Owns t (loose t earlier) → Owns t (if b then loose_by event turn (loose t earlier) else loose t earlier)
  by true None e r = (sym (eqb-true t turn.thread e), r)
  by true (Some event) e r = tt
  by false event e r = r

pub loose_other : (t u : ℕ) (turns : List Turn) → t ≢ u → turns_of t (loose u turns) ≡ []
loose_other t u [] apart = refl
loose_other t u (turn ∷ earlier) apart = by (nat_eq u turn.thread) turn.event refl (loose_other t u earlier apart) where
  by : (b : Bool) (event : Option WordEvent) → nat_eq u turn.thread ≡ b → turns_of t (loose u earlier) ≡ [] → turns_of t (if b then loose_by event turn (loose u earlier) else loose u earlier) ≡ []
  by true None e r = rw (ne_eqb t turn.thread (λ h. apart (h ∙ sym (eqb-true u turn.thread e)))) r
  by true (Some event) e r = refl
  by false event e r = r

-- the turns of a thread are those that stay in their place, and after them its loose ones
pub in_two : (t : ℕ) (turns : List Turn) → turns_of t turns ≡ loose t turns ++ turns_of t (firm turns)
in_two t [] = refl
in_two t (turn ∷ earlier) = by (nat_eq t turn.thread) turn.event refl (in_two t earlier) where
  by : (b : Bool) (event : Option WordEvent) → nat_eq t turn.thread ≡ b → turns_of t earlier ≡ loose t earlier ++ turns_of t (firm earlier)
      → (if b then turn ∷ turns_of t earlier else turns_of t earlier) ≡ (if b then loose_by event turn (loose t earlier) else loose t earlier) ++ turns_of t (firm_by event turn (loose turn.thread earlier) (firm earlier))
  by true None e r = ap (λ (ts : List Turn). turn ∷ ts) r
  by true (Some event) e r =
      let own : loose t earlier ≡ turns_of t (loose turn.thread earlier) = sym (ap (λ u. turns_of t (loose u earlier)) (sym (eqb-true t turn.thread e)) ∙ loose_own t earlier) in
      rw e (ap (λ (ts : List Turn). turn ∷ ts) (r ∙ (ap (λ (ts : List Turn). ts ++ turns_of t (firm earlier)) own ∙ sym (turns-append t (loose turn.thread earlier) (firm earlier)))))
  by false None e r = r
  by false (Some event) e r =
      let none : [] ≡ turns_of t (loose turn.thread earlier) = sym (loose_other t turn.thread earlier (λ same. no_both (nat_eq t turn.thread) (eq-eqb t turn.thread same) e)) in
      rw e (r ∙ ap (λ (ts : List Turn). loose t earlier ++ ts) (ap (λ (ts : List Turn). ts ++ turns_of t (firm earlier)) none ∙ sym (turns-append t (loose turn.thread earlier) (firm earlier))))

pub all_loose_past : (n t : ℕ) (turns : List Turn) → n ≤ t → turns_of t (all_loose n turns) ≡ []
all_loose_past zero t turns le = refl
all_loose_past (suc n) t turns le =
    let apart : t ≢ n = (λ e. omega arith) in
    turns-append t (loose n turns) (all_loose n turns)
    ∙ (ap (λ (ts : List Turn). ts ++ turns_of t (all_loose n turns)) (loose_other t n turns apart) ∙ all_loose_past n t turns (omega arith))

pub all_loose_below : (n t : ℕ) (turns : List Turn) → t < n → turns_of t (all_loose n turns) ≡ loose t turns
all_loose_below zero t turns lt = absurd (omega arith)
all_loose_below (suc n) t turns lt =
    dite (ℕ_discrete t n)
    (λ e. turns-append t (loose n turns) (all_loose n turns)
    ∙ (ap (λ (ts : List Turn). turns_of t (loose n turns) ++ ts) (all_loose_past n t turns (omega (arith, e)))
    ∙ (append-nil (turns_of t (loose n turns)) ∙ (ap (λ u. turns_of t (loose u turns)) (sym e) ∙ loose_own t turns))))
    (λ apart. turns-append t (loose n turns) (all_loose n turns)
    ∙ (ap (λ (ts : List Turn). ts ++ turns_of t (all_loose n turns)) (loose_other t n turns apart) ∙ all_loose_below n t turns (omega (arith, lt, apart))))

no_loose : (t : ℕ) (xs ys : List Turn) → [] ≡ xs ++ ys → xs ≡ []
no_loose t [] ys e = refl
no_loose t (x ∷ xs) ys e = absurd (let none : List Turn = [] in let h : length none ≡ length (x ∷ (xs ++ ys)) = ap (λ (ts : List Turn). length ts) e in omega arith)

-- each thread makes the same turns
pub arranged_turns : (n t : ℕ) (turns : List Turn) → (n ≤ t → turns_of t turns ≡ []) → turns_of t (all_loose n turns ++ firm turns) ≡ turns_of t turns
arranged_turns n t turns few =
    turns-append t (all_loose n turns) (firm turns) ∙ (ap (λ (ts : List Turn). ts ++ turns_of t (firm turns)) (same (dec_le n t)) ∙ sym (in_two t turns)) where
      same : Dec (n ≤ t) → turns_of t (all_loose n turns) ≡ loose t turns
      same (yes le) = all_loose_past n t turns le ∙ sym (no_loose t (loose t turns) (turns_of t (firm turns)) (sym (few le) ∙ in_two t turns))
      same (no gt) = all_loose_below n t turns (omega arith)
