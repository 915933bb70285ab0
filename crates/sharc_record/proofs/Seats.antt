-- The rule holds where a journal is taken in, and is kept where a seat is cut in two and where two become one.
use Rattle.sharc_record.proofs.{Imports.{◌≡◌, ◌≢◌, ℕ, zero, suc, ◌+◌, ◌<◌, ◌≤◌, ◌^◌, ◌==◌, ◌⊎◌, ⊎_elim, inl, inr, List, [], ◌∷◌, ◌++◌, length, set as slice_set, refl, sym, ap, ◌∙◌, subst, arith, if◌then◌else◌, eq-eqb, ne_eqb, length-set, append-nil, Some, some, some-injective, some-ne-none, get_elem?, Splits, Joins, opening, at_set, at_longer, set_else, HistoryLaws, Journal, Part, Turn, Idle, View, IsAmong, IsNew, PartIs, TurnIs, JournalStands, JournalRule, unbegun, unbegun_view, first_of, others_of, joined, spent_view, if_false, if_true}, Kept.{St, with_views, idle_not_had, had_stays}, Members.{among_one, among_append}}

-- a part of a port that has not begun
pub among_unbegun : (count first more : ℕ) (part : Part) → IsAmong part (unbegun count first more) → (part.events ≡ []) × (first ≤ part.number) × (part.number < first + more) × (part.count ≡ count)
among_unbegun count first zero part h = absurd h
among_unbegun count first (suc more) part h =
    ⊎_elim
    (λ is. let n : part.number ≡ first = ap (λ (q : Part). q.number) is in (ap (λ (q : Part). q.events) is, omega arith, omega arith, ap (λ (q : Part). q.count) is))
    (λ rest. let r = among_unbegun count (suc first) more part rest in (r.0, omega (arith, r.1), omega (arith, r.2), r.3))
    h

module _ (laws : HistoryLaws) (opened : Journal) (ports : ℕ) (bound : ports < 2 ^ 64) where
  abbrev start : St
  start = opening (0 ∷ 0 ∷ []) (Some opened ∷ []) (unbegun_view opened ports)

  only : (seat : ℕ) (v : View) (part : Part) → get_elem? start.views seat ≡ some v → IsAmong part v.parts → PartIs opened ports [] (λ _. 0) seat part
  only zero v part there among =
      let r = among_unbegun (length opened.words) 0 ports part (subst (λ (w : View). IsAmong part w.parts) (sym (some-injective (unbegun_view opened ports) v there)) among) in
      (r.0, refl, omega (arith, r.2), r.3)
  only (suc seat) v part there among = absurd (some-ne-none v (sym there))

  turns : (seat : ℕ) (v : View) → get_elem? start.views seat ≡ some v → TurnIs opened [] 0 [] start.homes v.parts v.turn
  turns zero v there = subst (λ (w : View). TurnIs opened [] 0 [] start.homes w.parts w.turn) (some-injective (unbegun_view opened ports) v there) (λ part among. tt)
  turns (suc seat) v there = absurd (some-ne-none v (sym there))

  -- the rule holds of a table whose one seat has the parts of all ports, none of which has begun
  pub opening_keeps : JournalRule opened ports start
  opening_keeps = record {
    history = [];
    legal = laws.nothing opened.words;
    owner = (λ _. 0);
    parts_are = only;
    no_others = (λ number _. refl);
    served = 0;
    queue = [];
    words_are = refl;
    once = tt;
    few = tt;
    bound = bound;
    turns_are = turns;
    stands = inl (opened, refl, record { words_are = refl; events_are = sym (append-nil opened.events.items) });
  }

-- where a view is in a list with one more
at_snoc : (l : List View) (last v : View) (i : ℕ) → get_elem? (l ++ last ∷ []) i ≡ some v → (get_elem? l i ≡ some v) ⊎ ((i ≡ length l) × (last ≡ v))
at_snoc [] last v zero e = inr (refl, some-injective last v e)
at_snoc [] last v (suc i) e = absurd (some-ne-none v (sym e))
at_snoc (x ∷ xs) last v zero e = inl e
at_snoc (x ∷ xs) last v (suc i) e = ⊎_elim (λ l. inl l) (λ r. inr (ap suc r.0, r.1)) (at_snoc xs last v i e)

-- a seat keeps its first part, and a new seat has the others, of ports that have other numbers
module _ (opened : Journal) (ports id : ℕ) (p : Part) (ps : List Part) (others : (q : Part) → IsAmong q ps → q.number ≢ p.number) (s : St) (kept : JournalRule opened ports s)
    (at : get_elem? s.views id ≡ some record { parts = p ∷ ps; turn = Idle }) where
  abbrev whole : View
  whole = record { parts = p ∷ ps; turn = Idle }

  abbrev one : View
  one = record { parts = p ∷ []; turn = Idle }

  abbrev rest : View
  rest = record { parts = ps; turn = Idle }

  abbrev Kept : (ℕ → ℕ) → ℕ → Part → Type 0
  Kept owner seat part = PartIs opened ports kept.history owner seat part

  abbrev Turns : View → Type 0
  Turns v = TurnIs opened kept.history kept.served kept.queue s.homes v.parts v.turn

  -- who has the part of a port then
  abbrev split_owner : ℕ → ℕ
  split_owner n = if n == p.number then id else (if kept.owner n == id then length s.views else kept.owner n)

  abbrev split : St
  split = record { words = s.words; homes = s.homes; views = slice_set s.views id one ++ rest ∷ [] }

  split_first : Kept split_owner id p
  split_first =
      let old = kept.parts_are id whole p at (inl refl) in
      (old.0, if_true (p.number == p.number) id (if kept.owner p.number == id then length s.views else kept.owner p.number) (eq-eqb p.number p.number refl), old.2, old.3)

  split_new : (q : Part) → IsAmong q ps → Kept split_owner (length s.views) q
  split_new q among =
      let old = kept.parts_are id whole q at (inr among) in
      (old.0, rw (ne_eqb q.number p.number (others q among), eq-eqb (kept.owner q.number) id old.1) refl, old.2, old.3)

  split_else : (seat : ℕ) (v : View) (q : Part) → seat ≢ id → get_elem? s.views seat ≡ some v → IsAmong q v.parts → Kept split_owner seat q
  split_else seat v q away there among =
      let old = kept.parts_are seat v q there among in
      let first = kept.parts_are id whole p at (inl refl) in
      let apart : q.number ≢ p.number = (λ e. away (sym old.1 ∙ (ap kept.owner e ∙ first.1))) in
      let gone : kept.owner q.number ≢ id = (λ e. away (sym old.1 ∙ e)) in
      (old.0, rw (ne_eqb q.number p.number apart, ne_eqb (kept.owner q.number) id gone) old.1, old.2, old.3)

  split_parts : (seat : ℕ) (v : View) (q : Part) → get_elem? split.views seat ≡ some v → IsAmong q v.parts → Kept split_owner seat q
  split_parts seat v q there among =
      ⊎_elim
      (λ old.
      ⊎_elim
      (λ same.
      let is : q ≡ p = among_one q p (subst (λ (w : View). IsAmong q w.parts) (sym same.1) among) in
      let first : Kept split_owner seat p = subst (λ n. Kept split_owner n p) (sym same.0) split_first in
      subst (λ r. Kept split_owner seat r) (sym is) first)
      (λ apart. split_else seat v q apart.0 apart.1 among)
      (at_set s.views id seat one v old))
      (λ new.
      let end : seat ≡ length s.views = new.0 ∙ length-set s.views id one in
      subst (λ n. Kept split_owner n q) (sym end) (split_new q (subst (λ (w : View). IsAmong q w.parts) (sym new.1) among)))
      (at_snoc (slice_set s.views id one) rest v seat there)

  split_turns : (seat : ℕ) (v : View) → get_elem? split.views seat ≡ some v → Turns v
  split_turns seat v there =
      let all : (part : Part) → IsAmong part (p ∷ ps) → IsNew part.number kept.queue = kept.turns_are id whole at in
      ⊎_elim
      (λ old.
      ⊎_elim
      (λ same. subst Turns same.1 (λ part among. all part (inl (among_one part p among))))
      (λ apart. kept.turns_are seat v apart.1)
      (at_set s.views id seat one v old))
      (λ new. subst Turns new.1 (λ part among. all part (inr among)))
      (at_snoc (slice_set s.views id one) rest v seat there)

  split_stands : JournalStands opened kept.history split
  split_stands =
      ⊎_elim
      (λ home. inl home)
      (λ had. inr (had.0, had.1, had.2, at_longer (slice_set s.views id one) (rest ∷ []) had.0 had.1 (had_stays s.views id whole one had.1 had.0 had.2 at (idle_not_had had.2) had.3 had.4), had.4))
      kept.stands

  pub split_keeps : JournalRule opened ports split
  split_keeps = with_views opened ports s split kept split_owner refl split_parts split_turns split_stands

pub split_allowed : (opened : Journal) (ports id : ℕ) (v : View) (p : Part) (ps : List Part) → v ≡ record { parts = p ∷ ps; turn = Idle } → ((q : Part) → IsAmong q ps → q.number ≢ p.number)
    → Splits (JournalRule opened ports) id v (first_of v) (others_of v)
split_allowed opened ports id v p ps is others =
    subst (λ w. Splits (JournalRule opened ports) id w (first_of w) (others_of w)) (sym is) (λ s kept at. split_keeps opened ports id p ps others s kept at)

-- a seat takes in the parts of another, which has none then
module _ (opened : Journal) (ports id : ℕ) (vs : List Part) (other : ℕ) (ws : List Part) (s : St) (kept : JournalRule opened ports s) (at : get_elem? s.views id ≡ some record { parts = vs; turn = Idle }) (away : other ≢ id)
    (there : get_elem? s.views other ≡ some record { parts = ws; turn = Idle }) where
  abbrev left : View
  left = record { parts = vs; turn = Idle }

  abbrev right : View
  right = record { parts = ws; turn = Idle }

  abbrev both : View
  both = record { parts = vs ++ ws; turn = Idle }

  abbrev Has' : (ℕ → ℕ) → ℕ → Part → Type 0
  Has' owner seat part = PartIs opened ports kept.history owner seat part

  abbrev Goes : View → Type 0
  Goes v = TurnIs opened kept.history kept.served kept.queue s.homes v.parts v.turn

  abbrev join_owner : ℕ → ℕ
  join_owner n = if kept.owner n == other then id else kept.owner n

  abbrev after : St
  after = record { words = s.words; homes = s.homes; views = slice_set (slice_set s.views id both) other spent_view }

  join_here : (q : Part) → IsAmong q (vs ++ ws) → Has' join_owner id q
  join_here q among =
      ⊎_elim
      (λ l. let old = kept.parts_are id left q at l in
      let gone : kept.owner q.number ≢ other = (λ e. away (sym e ∙ old.1)) in
      (old.0, if_false (kept.owner q.number == other) id (kept.owner q.number) (ne_eqb (kept.owner q.number) other gone) ∙ old.1, old.2, old.3))
      (λ r. let old = kept.parts_are other right q there r in
      (old.0, if_true (kept.owner q.number == other) id (kept.owner q.number) (eq-eqb (kept.owner q.number) other old.1), old.2, old.3))
      (among_append q vs ws among)

  join_else : (seat : ℕ) (v : View) (q : Part) → seat ≢ other → get_elem? s.views seat ≡ some v → IsAmong q v.parts → Has' join_owner seat q
  join_else seat v q far where' among =
      let old = kept.parts_are seat v q where' among in
      let gone : kept.owner q.number ≢ other = (λ e. far (sym old.1 ∙ e)) in
      (old.0, if_false (kept.owner q.number == other) id (kept.owner q.number) (ne_eqb (kept.owner q.number) other gone) ∙ old.1, old.2, old.3)

  join_parts : (seat : ℕ) (v : View) (q : Part) → get_elem? after.views seat ≡ some v → IsAmong q v.parts → Has' join_owner seat q
  join_parts seat v q found among =
      ⊎_elim
      (λ spent. absurd (subst (λ (w : View). IsAmong q w.parts) (sym spent.1) among))
      (λ apart.
      ⊎_elim
      (λ same. subst (λ n. Has' join_owner n q) (sym same.0) (join_here q (subst (λ (w : View). IsAmong q w.parts) (sym same.1) among)))
      (λ old. join_else seat v q apart.0 old.1 among)
      (at_set s.views id seat both v apart.1))
      (at_set (slice_set s.views id both) other seat spent_view v found)

  join_turns : (seat : ℕ) (v : View) → get_elem? after.views seat ≡ some v → Goes v
  join_turns seat v found =
      let mine : (part : Part) → IsAmong part vs → IsNew part.number kept.queue = kept.turns_are id left at in
      let theirs : (part : Part) → IsAmong part ws → IsNew part.number kept.queue = kept.turns_are other right there in
      ⊎_elim
      (λ spent. subst Goes spent.1 (λ part among. absurd among))
      (λ apart.
      ⊎_elim
      (λ same. subst Goes same.1 (λ part among. ⊎_elim (λ l. mine part l) (λ r. theirs part r) (among_append part vs ws among)))
      (λ old. kept.turns_are seat v old.1)
      (at_set s.views id seat both v apart.1))
      (at_set (slice_set s.views id both) other seat spent_view v found)

  join_stands : JournalStands opened kept.history after
  join_stands =
      ⊎_elim
      (λ home. inl home)
      (λ had.
      let first = had_stays s.views id left both had.1 had.0 had.2 at (idle_not_had had.2) had.3 had.4 in
      let beside = set_else s.views id other both away ∙ there in
      inr (had.0, had.1, had.2, had_stays (slice_set s.views id both) other right spent_view had.1 had.0 had.2 beside (idle_not_had had.2) first had.4, had.4))
      kept.stands

  pub join_keeps : JournalRule opened ports after
  join_keeps = with_views opened ports s after kept join_owner refl join_parts join_turns join_stands

pub join_allowed : (opened : Journal) (ports id : ℕ) (v : View) (other : ℕ) (w : View) → v.turn ≡ Idle → w.turn ≡ Idle → Joins (JournalRule opened ports) id v other w (joined v w) spent_view
join_allowed opened ports id v other w mine theirs s kept at away there =
    let at' : get_elem? s.views id ≡ some record { parts = v.parts; turn = Idle } = at ∙ ap (λ (t : Turn). let u : View = record { parts = v.parts; turn = t } in some u) mine in
    let there' : get_elem? s.views other ≡ some record { parts = w.parts; turn = Idle } =
    sym (set_else s.views id other (joined v w) away) ∙ (there ∙ ap (λ (t : Turn). let u : View = record { parts = w.parts; turn = t } in some u) theirs) in
    subst (λ (t : Turn). JournalRule opened ports record { words = s.words; homes = s.homes; views = slice_set (slice_set s.views id record { parts = v.parts ++ w.parts; turn = t }) other spent_view })
    (sym mine) (join_keeps opened ports id v.parts other w.parts s kept at' away there')
