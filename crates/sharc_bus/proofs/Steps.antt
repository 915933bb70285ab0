-- A step of any operation keeps the rule: its event goes to the end of the history, and of its seat's part.
use Rattle.sharc_bus.proofs.{Imports.{◌≡◌, ◌≢◌, ℕ, ◌<◌, ◌≤◌, ◌==◌, Bool, true, false, bit_or, if◌then◌else◌, ⊎_elim, inl, List, [], ◌∷◌, ◌++◌, length, slice_index, slice_set, refl, sym, ap, ◌∙◌, subst, arith, eq-eqb, ne_eqb, eqb-true, append-nil, filter-append, some, get_elem?, Me, Allows, keeps, at_set, set_again, Or, WordStep, WordEvent, word_after, words_after_step, words_after, MayFollow, events_of, event_of, HistoryLaws, Part, IsAmong, BusRule, with_step}, Members.among_one, Seats.{St, Kept}, Settling.set_same}

pub events_push_same : (thread : ℕ) (history : List WordEvent) (e : WordEvent) → e.thread ≡ thread → events_of thread (history ++ e ∷ []) ≡ events_of thread history ++ e ∷ []
events_push_same thread history e is = rw (filter-append, eq-eqb e.thread thread is)

pub events_push_other : (thread : ℕ) (history : List WordEvent) (e : WordEvent) → e.thread ≢ thread → events_of thread (history ++ e ∷ []) ≡ events_of thread history
events_push_other thread history e not = rw (filter-append, ne_eqb e.thread thread not) (append-nil (events_of thread history))

module _ (laws : HistoryLaws) (opening : List ℕ) (numbers : ℕ) (s : St) (kept : BusRule opening numbers s) (id : ℕ) (p : Part) (at : get_elem? s.views id ≡ some (p ∷ [])) (step : WordStep) (inside : step.word < length opening) where
  abbrev found : ℕ
  found = slice_index s.words step.word

  abbrev made : WordEvent
  made = event_of p.number step found

  abbrev stepped_part : Part
  stepped_part = record { number = p.number; words = p.words; events = p.events ++ made ∷ [] }

  abbrev after : St
  after = record { words = words_after_step s.words step; homes = s.homes; views = slice_set s.views id (stepped_part ∷ []) }

  may : MayFollow (words_after kept.base kept.history) made
  may = record { on_a_word = omega (arith, laws.count kept.base kept.history, kept.as_many); result_is = ap (λ (ws : List ℕ). slice_index ws step.word) kept.words_are }

  here : Kept kept.base kept.history kept.owner numbers id p
  here = kept.parts_are id (p ∷ []) p at (inl refl)

  here_after : Kept kept.base (kept.history ++ made ∷ []) kept.owner numbers id stepped_part
  here_after = (ap (λ es. es ++ made ∷ []) here.0 ∙ sym (events_push_same p.number kept.history made refl), here.1, here.2, here.3)

  parts_after : (seat : ℕ) (parts : List Part) (part : Part) → get_elem? after.views seat ≡ some parts → IsAmong part parts → Kept kept.base (kept.history ++ made ∷ []) kept.owner numbers seat part
  parts_after seat parts part there among =
      ⊎_elim
      (λ same.
      let is : part ≡ stepped_part = among_one part stepped_part (subst (λ ps. IsAmong part ps) (sym same.1) among) in
      let there' : Kept kept.base (kept.history ++ made ∷ []) kept.owner numbers seat stepped_part = subst (λ n. Kept kept.base (kept.history ++ made ∷ []) kept.owner numbers n stepped_part) (sym same.0) here_after in
      subst (λ q. Kept kept.base (kept.history ++ made ∷ []) kept.owner numbers seat q) (sym is) there')
      (λ other.
      let old : Kept kept.base kept.history kept.owner numbers seat part = kept.parts_are seat parts part other.1 among in
      let apart : p.number ≢ part.number = (λ e. other.0 (sym old.1 ∙ (ap kept.owner (sym e) ∙ here.1))) in
      (old.0 ∙ sym (events_push_other part.number kept.history made apart), old.1, old.2, old.3))
      (at_set s.views id seat (stepped_part ∷ []) parts there)

  no_others_after : (number : ℕ) → numbers ≤ number → events_of number (kept.history ++ made ∷ []) ≡ []
  no_others_after number beyond =
      let small : p.number < numbers = here.2 in
      let apart : p.number ≢ number = (λ e. omega arith) in
      events_push_other number kept.history made apart ∙ kept.no_others number beyond

  pub step_keeps : BusRule opening numbers after
  step_keeps = record {
    base = kept.base;
    as_many = kept.as_many;
    history = kept.history ++ made ∷ [];
    legal = (laws.goes_on kept.base kept.history made).1 (kept.legal, may);
    words_are = ap (λ (ws : List ℕ). words_after_step ws step) kept.words_are ∙ sym (laws.parts kept.base kept.history (made ∷ []));
    owner = kept.owner;
    parts_are = parts_after;
    no_others = no_others_after;
  }

-- the table allows a step that does what the operation says, by a seat with one part
pub step_allowed : (laws : HistoryLaws) (opening : List ℕ) (numbers slots id : ℕ) (me : Me (Unit {0}) (List Part)) (step : WordStep) (f : ℕ → ℕ)
    → (part : Part) × (me.0 ≡ part ∷ []) → ((n : ℕ) → f n ≡ word_after step.op n) → step.word < length opening
    → Allows (BusRule opening numbers) slots id me step.word f (λ n after. after ≡ (with_step me.0 step n, me.1))
step_allowed laws opening numbers slots id me step f one same inside s kept _ at _ =
    let n : ℕ = slice_index s.words step.word in
    let at' : get_elem? s.views id ≡ some (one.0 ∷ []) = subst (λ v. get_elem? s.views id ≡ some v) one.1 at in
    let R : ℕ → List Part → Type 0 = λ m v. BusRule opening numbers record { words = slice_set s.words step.word m; homes = s.homes; views = slice_set s.views id (with_step v step n) } in
    let k : R (word_after step.op n) (one.0 ∷ []) = step_keeps laws opening numbers s kept id one.0 at' step inside in
    (with_step me.0 step n, keeps, tt, subst (λ v. R (f n) v) (sym one.1) (subst (λ m. R m (one.0 ∷ [])) (sym (same n)) k), refl)

-- a seat whose load did not find the bits is as it was
pub not_standing : (me new : Me (Unit {0}) (List Part)) (stepped : List Part) (n own bits : ℕ) → new ≡ (if bit_or n own == n then stepped else me.0, me.1) → bits ≡ own → (bit_or n bits ≡ n → ⊥) → new ≡ me
not_standing me new stepped n own bits told is not =
    let off : (bit_or n own == n) ≡ false = ne_eqb (bit_or n own) n (λ e. not (ap (λ (b : ℕ). bit_or n b) is ∙ e)) in
    told ∙ ap (λ (b : Bool). let m : Me (Unit {0}) (List Part) = (if b then stepped else me.0, me.1) in m) off

-- an Or of bits that stand leaves the words as they are, and where they do not stand nothing is done
module _ (laws : HistoryLaws) (opening : List ℕ) (numbers slots id : ℕ) (me : Me (Unit {0}) (List Part)) (word bits : ℕ) (one : (part : Part) × (me.0 ≡ part ∷ [])) (inside : word < length opening) where
  abbrev or_step : WordStep
  or_step = record { word = word; op = Or bits }

  -- what is kept where the seat's parts are these
  abbrev Stands : St → List Part → Type 0
  Stands s parts = BusRule opening numbers record { words = slice_set s.words word (slice_index s.words word); homes = s.homes; views = slice_set s.views id parts }

  stands_by : (s : St) → BusRule opening numbers s → get_elem? s.views id ≡ some me.0 → (b : Bool) → (bit_or (slice_index s.words word) bits == slice_index s.words word) ≡ b → Stands s (if b then with_step me.0 or_step (slice_index s.words word) else me.0)
  stands_by s kept at true e =
      let n : ℕ = slice_index s.words word in
      let at' : get_elem? s.views id ≡ some (one.0 ∷ []) = subst (λ v. get_elem? s.views id ≡ some v) one.1 at in
      let R : ℕ → List Part → Type 0 = λ m v. BusRule opening numbers record { words = slice_set s.words word m; homes = s.homes; views = slice_set s.views id (with_step v or_step n) } in
      let k : R (bit_or n bits) (one.0 ∷ []) = step_keeps laws opening numbers s kept id one.0 at' or_step inside in
      subst (λ v. R n v) (sym one.1) (subst (λ m. R m (one.0 ∷ [])) (eqb-true (bit_or n bits) n e) k)
  stands_by s kept at false e =
      let R : List ℕ → List (List Part) → Type 0 = λ ws vs. BusRule opening numbers record { words = ws; homes = s.homes; views = vs } in
      subst (λ ws. R ws (slice_set s.views id me.0)) (sym (set_same s.words word)) (subst (λ vs. R s.words vs) (sym (set_again s.views id me.0 at)) kept)

  -- the table allows a load that reports the one or the other
  pub standing_allowed : Allows (BusRule opening numbers) slots id me word (λ n. n) (λ n after. after ≡ (if bit_or n bits == n then with_step me.0 or_step n else me.0, me.1))
  standing_allowed s kept _ at _ =
      let n : ℕ = slice_index s.words word in
      (if bit_or n bits == n then with_step me.0 or_step n else me.0, keeps, tt, stands_by s kept at (bit_or n bits == n) refl, refl)
