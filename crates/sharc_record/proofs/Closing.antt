-- Once all parts are in one seat, the journal is in its slot, and the lists of the seats are the parts of its events.
use Rattle.sharc_record.proofs.{Imports.{◌≡◌, ℕ, zero, suc, ◌<◌, ◌≤◌, List, [], ◌∷◌, ◌++◌, length, refl, sym, ap, ◌∙◌, subst, arith, All, get_or as slice_index_or, length-append, ⊎_elim, inl, get_or_append_left, get_or_push, get_or-map, get_or_past, length-map, Some, dite, some, some-injective, dec_le, get_elem?, Seen, events_of, Journal, Part, Idle, Has, View, IsAmong, IsRight, TurnIs, JournalRule, SharedView, SeatView, AreSeatsOf, OneJournal, lists_of, HasAll, part_of}, Members.among_left, Kept.{St, Homes, idle_not_had}}

module _ {X : Type 0} (P : X → Type 0) where
  pub all_left : (xs : List X) (x : X) → All P (xs ++ x ∷ []) → All P xs
  all_left xs x all k d lt = subst P (get_or_append_left xs (x ∷ []) d k lt) (all k d (omega (arith, length-append xs (x ∷ []))))

  pub all_last : (xs : List X) (x : X) → All P (xs ++ x ∷ []) → P x
  all_last xs x all = subst P (get_or_push xs x x (length xs) refl) (all (length xs) x (omega (arith, length-append xs (x ∷ []))))

pub has_more : (ss : List SeatView) (ps qs : List Part) → HasAll ss ps → HasAll ss (ps ++ qs)
has_more [] ps qs h = tt
has_more (s ∷ ss) ps qs h = (among_left (part_of s) ps qs h.0, has_more ss ps qs h.1)

has_at : (ss : List SeatView) (ps : List Part) (n : ℕ) (d : SeatView) → HasAll ss ps → n < length ss → IsAmong (part_of (slice_index_or ss n d)) ps
has_at [] ps n d h lt = absurd (omega arith)
has_at (s ∷ ss) ps zero d h lt = h.0
has_at (s ∷ ss) ps (suc n) d h lt = has_at ss ps n d h.1 (omega arith)

module _ (shared : SharedView) (seats : List SeatView) (are : AreSeatsOf shared seats) (id : ℕ) (v : View) (has : HasAll seats v.parts) (idle : v.turn ≡ Idle) (s : St)
    (seen : Seen (JournalRule shared.opened shared.ports) id v s) where
  nobody : SeatView
  nobody = record { id = shared.id; count = 0; number = 0; events = [] }

  abbrev kept : JournalRule shared.opened shared.ports s
  kept = seen.0

  -- the part of a port is with this seat
  mine : (thread : ℕ) → thread < length seats → kept.owner thread ≡ id
  mine thread lt =
      let seat : SeatView = slice_index_or seats thread nobody in
      let part = kept.parts_are id v (part_of seat) seen.1 (has_at seats v.parts thread nobody has lt) in
      ap kept.owner (sym (are.number_is thread nobody lt)) ∙ part.1

  list_at : (thread : ℕ) → thread < length seats → events_of thread kept.history ≡ slice_index_or (lists_of seats) thread []
  list_at thread lt =
      let seat : SeatView = slice_index_or seats thread nobody in
      let part = kept.parts_are id v (part_of seat) seen.1 (has_at seats v.parts thread nobody has lt) in
      let number : seat.number ≡ thread = are.number_is thread nobody lt in
      ap (λ n. events_of n kept.history) (sym number) ∙ (sym part.0 ∙ sym (get_or-map (λ (z : SeatView). z.events) seats thread nobody [] lt))

  list_past : (thread : ℕ) → length seats ≤ thread → events_of thread kept.history ≡ slice_index_or (lists_of seats) thread []
  list_past thread le =
      let none : slice_index_or (lists_of seats) thread [] ≡ [] = get_or_past (lists_of seats) thread [] (omega (arith, length-map seats (λ (z : SeatView). z.events))) in
      kept.no_others thread (omega (arith, are.all)) ∙ sym none

  -- no seat has the turn: its port's part is with this seat, which has none
  nobody_has : (seat : ℕ) (w : View) (journal : Journal) → get_elem? s.views seat ≡ some w → w.turn ≡ Has journal → ⊥
  nobody_has seat w journal there had =
      let turn : TurnIs shared.opened kept.history kept.served kept.queue s.homes w.parts (Has journal) =
      subst (λ t. TurnIs shared.opened kept.history kept.served kept.queue s.homes w.parts t) had (kept.turns_are seat w there) in
      let part = kept.parts_are seat w turn.0 there (subst (λ ps. IsAmong turn.0 ps) (sym turn.1) (inl refl)) in
      let small : turn.0.number < length seats = subst (λ n. turn.0.number < n) (sym are.all) part.2 in
      let same : seat ≡ id = sym part.1 ∙ mine turn.0.number small in
      let views : w ≡ v = some-injective w v (sym there ∙ (ap (λ n. get_elem? s.views n) same ∙ seen.1)) in
      idle_not_had journal (sym idle ∙ (sym (ap (λ (u : View). u.turn) views) ∙ had))

  pub home : (journal : Journal) × (s.homes ≡ some (Some journal) ∷ []) × IsRight shared.opened kept.history journal
  home = ⊎_elim (λ h. h) (λ had. absurd (nobody_has had.0 had.1 had.2 had.3 had.4)) kept.stands

  pub at_home : get_elem? s.homes 0 ≡ some (some (Some home.0))
  at_home = ap (λ (hs : Homes). get_elem? hs 0) home.1

  pub one_journal : OneJournal shared.opened (lists_of seats) home.0
  one_journal = record {
    history = kept.history;
    events_are = home.2.events_are;
    legal = kept.legal;
    parts = (λ thread. dite (dec_le (length seats) thread) (λ le. list_past thread le) (λ not. list_at thread (omega arith)));
    words_are = home.2.words_are;
  }
