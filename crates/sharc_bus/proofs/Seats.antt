-- The rule holds where a bus is opened, and is kept where a seat is cut in two and where two become one.
use Rattle.sharc_bus.proofs.{Imports.{◌≡◌, ◌≢◌, ℕ, zero, suc, ◌+◌, ◌<◌, ◌≤◌, ◌==◌, ◌⊎◌, ⊎_elim, inl, inr, List, [], ◌∷◌, ◌++◌, length, slice_set, take, drop, refl, sym, ap, ◌∙◌, subst, arith, if◌then◌else◌, eq-eqb, ne_eqb, length-set, some, some-injective, some-ne-none, get_elem?, State, Splits, Joins, opening, at_set, set_else, WordEvent, events_of, HistoryLaws, Part, IsAmong, BusRule, unbegun, if_false, if_true}, Members.{among_one, among_append}}

abbrev pub St : Type 0
St = State (Unit {0}) (List Part)

-- what the rule says of one part of a seat
abbrev pub Kept : List ℕ → List WordEvent → (ℕ → ℕ) → ℕ → ℕ → Part → Type 0
Kept base history owner numbers seat part = (part.events ≡ events_of part.number history) × (owner part.number ≡ seat) × (part.number < numbers) × (part.words ≡ base)

-- a part of a port that has not begun
pub among_unbegun : (words : List ℕ) (first more : ℕ) (part : Part) → IsAmong part (unbegun words first more) → (part.events ≡ []) × (first ≤ part.number) × (part.number < first + more) × (part.words ≡ words)
among_unbegun words first zero part h = absurd h
among_unbegun words first (suc more) part h =
    ⊎_elim
    (λ is. let n : part.number ≡ first = ap (λ (q : Part). q.number) is in (ap (λ (q : Part). q.events) is, omega arith, omega arith, ap (λ (q : Part). q.words) is))
    (λ rest. let r = among_unbegun words (suc first) more part rest in (r.0, omega (arith, r.1), omega (arith, r.2), r.3))
    h

-- the rule holds of a table whose one seat has the parts of all ports, none of which has begun
pub opening_keeps : (laws : HistoryLaws) (words : List ℕ) (ports : ℕ) → BusRule words ports (opening words [] (unbegun words 0 ports))
opening_keeps laws words ports = record {
  base = words;
  as_many = refl;
  history = [];
  legal = laws.nothing words;
  words_are = refl;
  owner = (λ _. 0);
  parts_are = only words ports;
  no_others = (λ number _. refl);
} where
  only : (words : List ℕ) (ports seat : ℕ) (parts : List Part) (part : Part) → get_elem? (unbegun words 0 ports ∷ []) seat ≡ some parts → IsAmong part parts → Kept words [] (λ _. 0) ports seat part
  only words ports zero parts part there among =
      let r = among_unbegun words 0 ports part (subst (λ ps. IsAmong part ps) (sym (some-injective (unbegun words 0 ports) parts there)) among) in
      (r.0, refl, omega (arith, r.2), r.3)
  only words ports (suc seat) parts part there among = absurd (some-ne-none parts (sym there))

-- where a view is in a list with one more
at_snoc : (l : List (List Part)) (last v : List Part) (i : ℕ) → get_elem? (l ++ last ∷ []) i ≡ some v → (get_elem? l i ≡ some v) ⊎ ((i ≡ length l) × (last ≡ v))
at_snoc [] last v zero e = inr (refl, some-injective last v e)
at_snoc [] last v (suc i) e = absurd (some-ne-none v (sym e))
at_snoc (x ∷ xs) last v zero e = inl e
at_snoc (x ∷ xs) last v (suc i) e = ⊎_elim (λ l. inl l) (λ r. inr (ap suc r.0, r.1)) (at_snoc xs last v i e)

-- a seat keeps its first part, and a new seat has the others, of ports that have other numbers
module _ (opening : List ℕ) (ports id : ℕ) (p : Part) (ps : List Part) (others : (q : Part) → IsAmong q ps → q.number ≢ p.number) (s : St) (kept : BusRule opening ports s) (at : get_elem? s.views id ≡ some (p ∷ ps)) where
  -- who has the part of a port then
  abbrev split_owner : ℕ → ℕ
  split_owner n = if n == p.number then id else (if kept.owner n == id then length s.views else kept.owner n)

  abbrev split : St
  split = record { words = s.words; homes = s.homes; views = slice_set s.views id (p ∷ []) ++ ps ∷ [] }

  split_first : Kept kept.base kept.history split_owner ports id p
  split_first = let old = kept.parts_are id (p ∷ ps) p at (inl refl) in (old.0, if_true (p.number == p.number) id (if kept.owner p.number == id then length s.views else kept.owner p.number) (eq-eqb p.number p.number refl), old.2, old.3)

  split_new : (q : Part) → IsAmong q ps → Kept kept.base kept.history split_owner ports (length s.views) q
  split_new q among =
      let old = kept.parts_are id (p ∷ ps) q at (inr among) in
      (old.0, rw (ne_eqb q.number p.number (others q among), eq-eqb (kept.owner q.number) id old.1) refl, old.2, old.3)

  split_else : (seat : ℕ) (parts : List Part) (q : Part) → seat ≢ id → get_elem? s.views seat ≡ some parts → IsAmong q parts → Kept kept.base kept.history split_owner ports seat q
  split_else seat parts q away there among =
      let old = kept.parts_are seat parts q there among in
      let first = kept.parts_are id (p ∷ ps) p at (inl refl) in
      let apart : q.number ≢ p.number = (λ e. away (sym old.1 ∙ (ap kept.owner e ∙ first.1))) in
      let gone : kept.owner q.number ≢ id = (λ e. away (sym old.1 ∙ e)) in
      (old.0, rw (ne_eqb q.number p.number apart, ne_eqb (kept.owner q.number) id gone) old.1, old.2, old.3)

  split_parts : (seat : ℕ) (parts : List Part) (q : Part) → get_elem? split.views seat ≡ some parts → IsAmong q parts → Kept kept.base kept.history split_owner ports seat q
  split_parts seat parts q there among =
      ⊎_elim
      (λ old.
      ⊎_elim
      (λ same.
      let is : q ≡ p = among_one q p (subst (λ v. IsAmong q v) (sym same.1) among) in
      let first : Kept kept.base kept.history split_owner ports seat p = subst (λ n. Kept kept.base kept.history split_owner ports n p) (sym same.0) split_first in
      subst (λ r. Kept kept.base kept.history split_owner ports seat r) (sym is) first)
      (λ apart. split_else seat parts q apart.0 apart.1 among)
      (at_set s.views id seat (p ∷ []) parts old))
      (λ new.
      let end : seat ≡ length s.views = new.0 ∙ length-set s.views id (p ∷ []) in
      subst (λ n. Kept kept.base kept.history split_owner ports n q) (sym end) (split_new q (subst (λ v. IsAmong q v) (sym new.1) among)))
      (at_snoc (slice_set s.views id (p ∷ [])) ps parts seat there)

  pub split_keeps : BusRule opening ports split
  split_keeps = record { base = kept.base; as_many = kept.as_many; history = kept.history; legal = kept.legal; words_are = kept.words_are; owner = split_owner; parts_are = split_parts; no_others = kept.no_others }

pub split_allowed : (opening : List ℕ) (ports id : ℕ) (v : List Part) (p : Part) (ps : List Part) → v ≡ p ∷ ps → ((q : Part) → IsAmong q ps → q.number ≢ p.number)
    → Splits (BusRule opening ports) id v (take 1 v) (drop 1 v)
split_allowed opening ports id v p ps is others =
    subst (λ w. Splits (BusRule opening ports) id w (take 1 w) (drop 1 w)) (sym is) (λ s kept at. split_keeps opening ports id p ps others s kept at)

-- a seat takes in the parts of another, which has none then
module _ (opening : List ℕ) (ports id : ℕ) (v : List Part) (other : ℕ) (w : List Part) (s : St) (kept : BusRule opening ports s) (at : get_elem? s.views id ≡ some v) (away : other ≢ id) (there : get_elem? s.views other ≡ some w) where
  abbrev join_owner : ℕ → ℕ
  join_owner n = if kept.owner n == other then id else kept.owner n

  abbrev joined : St
  joined = record { words = s.words; homes = s.homes; views = slice_set (slice_set s.views id (v ++ w)) other [] }

  join_here : (q : Part) → IsAmong q (v ++ w) → Kept kept.base kept.history join_owner ports id q
  join_here q among =
      ⊎_elim
      (λ l. let old = kept.parts_are id v q at l in
      let gone : kept.owner q.number ≢ other = (λ e. away (sym e ∙ old.1)) in
      (old.0, if_false (kept.owner q.number == other) id (kept.owner q.number) (ne_eqb (kept.owner q.number) other gone) ∙ old.1, old.2, old.3))
      (λ r. let old = kept.parts_are other w q there r in
      (old.0, if_true (kept.owner q.number == other) id (kept.owner q.number) (eq-eqb (kept.owner q.number) other old.1), old.2, old.3))
      (among_append q v w among)

  join_else : (seat : ℕ) (parts : List Part) (q : Part) → seat ≢ other → get_elem? s.views seat ≡ some parts → IsAmong q parts → Kept kept.base kept.history join_owner ports seat q
  join_else seat parts q far where' among =
      let old = kept.parts_are seat parts q where' among in
      let gone : kept.owner q.number ≢ other = (λ e. far (sym old.1 ∙ e)) in
      (old.0, if_false (kept.owner q.number == other) id (kept.owner q.number) (ne_eqb (kept.owner q.number) other gone) ∙ old.1, old.2, old.3)

  join_parts : (seat : ℕ) (parts : List Part) (q : Part) → get_elem? joined.views seat ≡ some parts → IsAmong q parts → Kept kept.base kept.history join_owner ports seat q
  join_parts seat parts q found among =
      ⊎_elim
      (λ spent. absurd (subst (λ ps. IsAmong q ps) (sym spent.1) among))
      (λ apart.
      ⊎_elim
      (λ same. subst (λ n. Kept kept.base kept.history join_owner ports n q) (sym same.0) (join_here q (subst (λ ps. IsAmong q ps) (sym same.1) among)))
      (λ old. join_else seat parts q apart.0 old.1 among)
      (at_set s.views id seat (v ++ w) parts apart.1))
      (at_set (slice_set s.views id (v ++ w)) other seat [] parts found)

  pub join_keeps : BusRule opening ports joined
  join_keeps = record { base = kept.base; as_many = kept.as_many; history = kept.history; legal = kept.legal; words_are = kept.words_are; owner = join_owner; parts_are = join_parts; no_others = kept.no_others }

pub join_allowed : (opening : List ℕ) (ports id : ℕ) (v : List Part) (other : ℕ) (w : List Part) → Joins (BusRule opening ports) id v other w (v ++ w) []
join_allowed opening ports id v other w s kept at away there =
    join_keeps opening ports id v other w s kept at away (sym (set_else s.views id other (v ++ w) away) ∙ there)
