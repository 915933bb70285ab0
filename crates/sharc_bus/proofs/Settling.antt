-- A seat that has the parts of all numbers begins a new round, and finds the words while no part has begun.
use Rattle.sharc_bus.proofs.{Imports.{◌≡◌, ℕ, zero, suc, ◌+◌, ◌<◌, ◌≤◌, Bool, true, false, ◌==◌, ◌⊎◌, ⊎_elim, inl, inr, List, [], ◌∷◌, length, slice_index, slice_set, refl, sym, ap, ◌∙◌, subst, arith, eq-eqb, cond, cases_lt, some, get_elem?, Me, Allows, keeps, at_set, set_again, WordEvent, words_after, LegalHistory, events_of, HistoryLaws, Part, IsAmong, BusRule, unbegun, words_known, Settled}, Seats.{St, among_unbegun}}

-- a word that is written as it is changes nothing
pub set_same : (words : List ℕ) (i : ℕ) → slice_set words i (slice_index words i) ≡ words
set_same [] i = refl
set_same (w ∷ ws) zero = refl
set_same (w ∷ ws) (suc i) = ap (λ xs. w ∷ xs) (set_same ws i)

pub length-unbegun : (words : List ℕ) (first more : ℕ) → length (unbegun words first more) ≡ more
length-unbegun words first zero = refl
length-unbegun words first (suc more) = ap suc (length-unbegun words (suc first) more)

-- what all of some parts know of, they know of
known : (base : List ℕ) (parts : List Part) → 0 < length parts → ((q : Part) → IsAmong q parts → q.words ≡ base) → words_known parts ≡ base
known base [] one all = absurd (omega (arith, one))
known base (p ∷ ps) one all = all p (inl refl)

-- one of the parts has this number
pub record HasNumber (parts : List Part) (number : ℕ) : Type 0 where
  pub part : Part
  pub among : IsAmong part parts
  pub is : part.number ≡ number

pub number_among : (words : List ℕ) (first more n : ℕ) → n < more → HasNumber (unbegun words first more) (first + n)
number_among words first zero n lt = absurd (omega (arith, lt))
number_among words first (suc more) zero lt = record { part = record { number = first; words = words; events = [] }; among = inl refl; is = omega arith }
number_among words first (suc more) (suc n) lt =
    let r = number_among words (suc first) more n (omega (arith, lt)) in
    record { part = r.part; among = inr r.among; is = r.is ∙ omega arith }

module _ (opening : List ℕ) (numbers id : ℕ) (parts : List Part) (one : 0 < length parts) (s : St) (kept : BusRule opening numbers s) (at : get_elem? s.views id ≡ some parts) where
  base_known : words_known parts ≡ kept.base
  base_known = known kept.base parts one (λ q among. (kept.parts_are id parts q at among).3)

  module _ (laws : HistoryLaws) (each : (n : ℕ) → n < numbers → HasNumber parts n) (as_many : length parts ≡ numbers) where
    abbrev fresh : List Part
    fresh = unbegun s.words 0 numbers

    settled_parts : (seat : ℕ) (ps : List Part) (part : Part) → get_elem? (slice_set s.views id fresh) seat ≡ some ps → IsAmong part ps
        → (part.events ≡ events_of part.number []) × (id ≡ seat) × (part.number < numbers) × (part.words ≡ s.words)
    settled_parts seat ps part there among =
        ⊎_elim
        (λ same.
        let r = among_unbegun s.words 0 numbers part (subst (λ qs. IsAmong part qs) (sym same.1) among) in
        (r.0, sym same.0, omega (arith, r.2), r.3))
        (λ other.
        let old = kept.parts_are seat ps part other.1 among in
        let mine = each part.number old.2 in
        let own = kept.parts_are id parts mine.part at mine.among in
        absurd (other.0 (sym old.1 ∙ ap kept.owner (sym mine.is) ∙ own.1)))
        (at_set s.views id seat fresh ps there)

    pub settle_keeps : BusRule opening numbers record { words = s.words; homes = s.homes; views = slice_set s.views id fresh }
    settle_keeps = record {
      base = s.words;
      as_many = ap (λ (ws : List ℕ). length ws) kept.words_are ∙ laws.count kept.base kept.history ∙ kept.as_many;
      history = [];
      legal = laws.nothing s.words;
      words_are = refl;
      owner = (λ _. id);
      parts_are = settled_parts;
      no_others = (λ number _. refl);
    }

    pub settled : Settled parts fresh
    settled = record {
      history = kept.history;
      now = s.words;
      legal = subst (λ (ws : List ℕ). LegalHistory ws kept.history) (sym base_known) kept.legal;
      parts_are = (λ q among. (kept.parts_are id parts q at among).0);
      no_others = (λ number le. kept.no_others number (omega (arith, le, as_many)));
      now_is = kept.words_are ∙ ap (λ (ws : List ℕ). words_after ws kept.history) (sym base_known);
      new_is = ap (λ n. unbegun s.words 0 n) (sym as_many);
    }

-- the table allows a seat that has the parts of all numbers to begin a round
pub settle_allowed : (laws : HistoryLaws) (opening : List ℕ) (numbers slots id word : ℕ) (me : Me (Unit {0}) (List Part)) → 0 < length me.0 → ((n : ℕ) → n < numbers → HasNumber me.0 n) → length me.0 ≡ numbers
    → Allows (BusRule opening numbers) slots id me word (λ n. n) (λ n after. Settled me.0 after.0 × (after.1 ≡ me.1))
settle_allowed laws opening numbers slots id word me one each as_many s kept _ at _ =
    let fresh : List Part = unbegun s.words 0 numbers in
    let k : BusRule opening numbers record { words = s.words; homes = s.homes; views = slice_set s.views id fresh } = settle_keeps opening numbers id me.0 one s kept at laws each as_many in (
      fresh,
      keeps,
      tt,
      subst (λ (ws : List ℕ). BusRule opening numbers record { words = ws; homes = s.homes; views = slice_set s.views id fresh }) (sym (set_same s.words word)) k,
      (settled opening numbers id me.0 one s kept at laws each as_many, refl),
    )

-- ---- while no part has begun
cond_true : {A : Type 0} (b : Bool) (m n : A) → b ≡ true → cond b m n ≡ m
cond_true true m n e = refl
cond_true false m n e = absurd cc

no_events : (history : List WordEvent) → ((n : ℕ) → events_of n history ≡ []) → history ≡ []
no_events [] none = refl
no_events (e ∷ es) none =
    let is : events_of e.thread (e ∷ es) ≡ e ∷ events_of e.thread es = cond_true (e.thread == e.thread) (e ∷ events_of e.thread es) (events_of e.thread es) (eq-eqb e.thread e.thread refl) in
    absurd (let no : e ∷ events_of e.thread es ≡ [] = sym is ∙ none e.thread in cc)

module _ (opening : List ℕ) (ports id : ℕ) (parts : List Part) (is : parts ≡ unbegun (words_known parts) 0 (suc ports)) (s : St) (kept : BusRule opening (suc ports) s) (at : get_elem? s.views id ≡ some parts) where
  no_event : (n : ℕ) → (n < suc ports) ⊎ (suc ports ≤ n) → events_of n kept.history ≡ []
  no_event n (inl low) =
      let q = number_among (words_known parts) 0 (suc ports) n low in
      let among : IsAmong q.part parts = subst (λ ps. IsAmong q.part ps) (sym is) q.among in
      let mine = kept.parts_are id parts q.part at among in
      let none = among_unbegun (words_known parts) 0 (suc ports) q.part q.among in
      let number : q.part.number ≡ n = q.is ∙ (let zero_on : 0 + n ≡ n = omega arith in zero_on) in
      ap (λ m. events_of m kept.history) (sym number) ∙ sym mine.0 ∙ none.0
  no_event n (inr high) = kept.no_others n high

  -- the words are those of which the parts know
  pub words_stand : s.words ≡ words_known parts
  words_stand =
      let none : kept.history ≡ [] = no_events kept.history (λ n. no_event n (cases_lt n (suc ports))) in
      let one : 0 < length parts = omega (arith, ap (λ (ps : List Part). length ps) is, length-unbegun (words_known parts) 0 (suc ports)) in
      kept.words_are ∙ ap (λ (es : List WordEvent). words_after kept.base es) none ∙ sym (base_known opening (suc ports) id parts one s kept at)

pub look_allowed : (opening : List ℕ) (ports slots id word : ℕ) (me : Me (Unit {0}) (List Part)) → me.0 ≡ unbegun (words_known me.0) 0 (suc ports)
    → Allows (BusRule opening (suc ports)) slots id me word (λ n. n) (λ n after. (after ≡ me) × (n ≡ slice_index (words_known me.0) word))
look_allowed opening ports slots id word me is s kept _ at _ =
    let found : slice_index s.words word ≡ slice_index (words_known me.0) word = ap (λ (ws : List ℕ). slice_index ws word) (words_stand opening ports id me.0 is s kept at) in
    let R : List ℕ → List (List Part) → Type 0 = λ ws vs. BusRule opening (suc ports) record { words = ws; homes = s.homes; views = vs } in
    (me.0, keeps, tt, subst (λ ws. R ws (slice_set s.views id me.0)) (sym (set_same s.words word)) (subst (λ vs. R s.words vs) (sym (set_again s.views id me.0 at)) kept), (refl, found))
