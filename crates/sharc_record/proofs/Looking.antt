-- A port may look whether its ticket is served. If so it is the first of the queue, nobody has the turn, and it takes the journal.
use Rattle.sharc_record.proofs.{Imports.{◌≡◌, ℕ, zero, suc, ◌+◌, ◌%◌, ◌^◌, ◌<◌, inl, inr, ⊎_elim, List, [], ◌∷◌, length, slice_index, set as slice_set, refl, sym, ap, ◌∙◌, subst, arith, Some, some, none, some-injective, ℕ_discrete, get_elem?, Me, Allows, keeps, takes, Act, Valid, carried_after, at_set, set_again, one_turn, set_here, HistoryLaws, Journal, Part, Has, View, Slot, IsAmong, IsRight, PartIs, TurnIs, JournalRule, waiting, having, Looked}, Kept.{St, Homes, with_views, one_part_stays, among_one, one_part, turn_away, drawn_not_had}, Queue.{few_new, place_within}}
use mathlib.Core.Option.{Option}
use Rattle.atomic_table.specs.Table.{stepped}

module _ (opened : Journal) (ports : ℕ) (s : St) (kept : JournalRule opened ports s) (id : ℕ) (p : Part) (ticket : ℕ) (at : get_elem? s.views id ≡ some (waiting p ticket).0) where
  abbrev found : ℕ
  found = slice_index s.words 1

  here : PartIs opened ports kept.history kept.owner id p
  here = kept.parts_are id (waiting p ticket).0 p at (inl refl)

  found_is : found ≡ kept.served % 2 ^ 64
  found_is = ap (λ (ws : List ℕ). slice_index ws 1) kept.words_are

  words_same : slice_set s.words 1 found ≡ s.words
  words_same =
      ap (λ (ws : List ℕ). slice_set ws 1 found) kept.words_are
      ∙ (ap (λ (n : ℕ). (kept.served + length kept.queue) % 2 ^ 64 ∷ n ∷ []) found_is ∙ sym kept.words_are)

  -- nothing changed
  pub misses : JournalRule opened ports record { words = slice_set s.words 1 found; homes = s.homes; views = slice_set s.views id (waiting p ticket).0 }
  misses =
      let R : List ℕ → List View → Type 0 = λ ws vs. JournalRule opened ports record { words = ws; homes = s.homes; views = vs } in
      subst (λ ws. R ws (slice_set s.views id (waiting p ticket).0)) (sym words_same) (subst (λ vs. R s.words vs) (sym (set_again s.views id (waiting p ticket).0 at)) kept)

  module _ (served : found ≡ ticket) where
    -- the place of the port in the queue
    mine : (part : Part) × (p ∷ [] ≡ part ∷ []) × ((place : ℕ) × (get_elem? kept.queue place ≡ some part.number) × (ticket ≡ (kept.served + place) % 2 ^ 64))
    mine = kept.turns_are id (waiting p ticket).0 at

    place_is : mine.2.0 ≡ 0
    place_is =
        let place : ℕ = mine.2.0 in
        let within = place_within kept.queue mine.0.number place mine.2.1 in
        let few = few_new ports kept.queue kept.once kept.few in
        let bound = kept.bound in
        let same : kept.served % 2 ^ 64 ≡ (kept.served + place) % 2 ^ 64 = sym found_is ∙ (served ∙ mine.2.2) in
        let one = one_turn kept.served (kept.served + place) (2 ^ 64) (omega arith) (omega arith) same in
        omega arith

    pub first : get_elem? kept.queue 0 ≡ some p.number
    first = ap (λ n. get_elem? kept.queue n) (sym place_is) ∙ (mine.2.1 ∙ ap (λ (q : Part). some q.number) (sym (one_part p mine.0 mine.1)))

    nobody : (seat : ℕ) (v : View) (journal : Journal) → get_elem? s.views seat ≡ some v → v.turn ≡ Has journal → ⊥
    nobody seat v journal there had =
        let turn : TurnIs opened kept.history kept.served kept.queue s.homes v.parts (Has journal) =
        subst (λ t. TurnIs opened kept.history kept.served kept.queue s.homes v.parts t) had (kept.turns_are seat v there) in
        let number : p.number ≡ turn.0.number = some-injective p.number turn.0.number (sym first ∙ turn.2) in
        let other = kept.parts_are seat v turn.0 there (subst (λ ps. IsAmong turn.0 ps) (sym turn.1) (inl refl)) in
        let seats : seat ≡ id = sym other.1 ∙ (ap kept.owner (sym number) ∙ here.1) in
        let views : v ≡ (waiting p ticket).0 = some-injective v (waiting p ticket).0 (sym there ∙ (ap (λ n. get_elem? s.views n) seats ∙ at)) in
        drawn_not_had ticket journal (sym (ap (λ (w : View). w.turn) views) ∙ had)

    pub home : (journal : Journal) × (s.homes ≡ some (Some journal) ∷ []) × IsRight opened kept.history journal
    home = ⊎_elim (λ h. h) (λ had. absurd (nobody had.0 had.1 had.2 had.3 had.4)) kept.stands

    abbrev view : View
    view = (having p home.0 (Some home.0)).0

    abbrev after : St
    after = record { words = slice_set s.words 1 found; homes = slice_set s.homes 0 none; views = slice_set s.views id view }

    emptied : after.homes ≡ none ∷ []
    emptied = ap (λ (hs : Homes). slice_set hs 0 none) home.1

    pub there : get_elem? s.homes 0 ≡ some (some (Some home.0))
    there = ap (λ (hs : Homes). get_elem? hs 0) home.1

    turns_after : (seat : ℕ) (v : View) → get_elem? after.views seat ≡ some v → TurnIs opened kept.history kept.served kept.queue after.homes v.parts v.turn
    turns_after seat v found =
        ⊎_elim
        (λ same. subst (λ (w : View). TurnIs opened kept.history kept.served kept.queue after.homes w.parts w.turn) same.1 (p, refl, first, home.2, emptied))
        (λ other. turn_away opened kept.history kept.served kept.queue s.homes after.homes (Some home.0) v.parts v.turn home.1 (kept.turns_are seat v other.1))
        (at_set s.views id seat view v found)

    within : (views : List View) (v : View) (i : ℕ) → get_elem? views i ≡ some v → i < length views
    within [] v i e = absurd (mathlib.Core.Option.some-ne-none v (sym e))
    within (x ∷ xs) v zero e = omega arith
    within (x ∷ xs) v (suc i) e = omega (arith, within xs v i e)

    pub hits : JournalRule opened ports after
    hits = with_views opened ports s after kept kept.owner words_same (one_part_stays opened ports s kept id p (Has home.0) here) turns_after
        (inr (id, view, home.0, set_here s.views id view (within s.views (waiting p ticket).0 id at), refl))

    pub counts : (laws : HistoryLaws) (part : Part) → IsAmong part (p ∷ []) → length home.0.words ≡ part.count
    counts laws part among =
        ap (λ (ws : List ℕ). length ws) home.2.words_are ∙ (laws.count opened.words kept.history ∙ (sym here.3 ∙ ap (λ (q : Part). q.count) (sym (among_one part p among))))

  pub look_keeps : (laws : HistoryLaws) → Dec (found ≡ ticket)
      → (w : View) × (a : Act Slot) × Valid s.homes [] a × JournalRule opened ports (stepped s 1 found id [] w a) × Looked (waiting p ticket) found (w, carried_after [] a)
  look_keeps laws (yes e) = (view e, takes 0 (Some (home e).0), there e, hits e, inr (e, ((home e).0, counts e laws, refl)))
  look_keeps laws (no apart) = ((waiting p ticket).0, keeps, tt, misses, inl (apart, refl))

pub look_allowed : (laws : HistoryLaws) (opened : Journal) (ports slots id : ℕ) (me : Me Slot View) (ticket : ℕ) → (part : Part) × (me ≡ waiting part ticket)
    → Allows (JournalRule opened ports) slots id me 1 (λ n. n) (λ n after. Looked me n after)
look_allowed laws opened ports slots id me ticket one =
    subst (λ m. Allows (JournalRule opened ports) slots id m 1 (λ n. n) (λ n after. Looked m n after)) (sym one.1)
    (λ s kept _ at _. look_keeps opened ports s kept id one.0 ticket at laws (ℕ_discrete (slice_index s.words 1) ticket))
