-- A ticket may be drawn: its port goes to the end of the queue.
use Rattle.sharc_record.proofs.{Imports.{Drawn, ◌≡◌, ℕ, ◌+◌, ◌%◌, ◌^◌, inl, inr, ⊎_elim, List, [], ◌∷◌, ◌++◌, length, slice_index, set as slice_set, refl, sym, ap, ◌∙◌, subst, arith, length-append, mod-add-mod, some, get_elem?, Me, Allows, keeps, at_set, at_last, Journal, Part, View, Slot, PartIs, TurnIs, JournalStands, JournalRule, idle, waiting, drawn}, Kept.{St, one_part_stays, turn_longer, had_stays, idle_not_had}, Queue.{are_new_snoc, below_snoc}}

module _ (opened : Journal) (ports : ℕ) (s : St) (kept : JournalRule opened ports s) (id : ℕ) (p : Part) (at : get_elem? s.views id ≡ some (idle p).0) where
  abbrev found : ℕ
  found = slice_index s.words 0

  abbrev view : View
  view = (waiting p found).0

  abbrev after : St
  after = record { words = slice_set s.words 0 ((found + 1) % 2 ^ 64); homes = s.homes; views = slice_set s.views id view }

  abbrev longer : List ℕ
  longer = kept.queue ++ p.number ∷ []

  here : PartIs opened ports kept.history kept.owner id p
  here = kept.parts_are id (idle p).0 p at (inl refl)

  found_is : found ≡ (kept.served + length kept.queue) % 2 ^ 64
  found_is = ap (λ (ws : List ℕ). slice_index ws 0) kept.words_are

  next_is : (found + 1) % 2 ^ 64 ≡ (kept.served + length longer) % 2 ^ 64
  next_is =
      ap (λ n. (n + 1) % 2 ^ 64) found_is
      ∙ (mod-add-mod (kept.served + length kept.queue) (2 ^ 64) 1
      ∙ ap (λ n. n % 2 ^ 64) (omega (arith, length-append kept.queue (p.number ∷ []))))

  words_after : after.words ≡ (kept.served + length longer) % 2 ^ 64 ∷ kept.served % 2 ^ 64 ∷ []
  words_after = ap (λ (ws : List ℕ). slice_set ws 0 ((found + 1) % 2 ^ 64)) kept.words_are ∙ ap (λ (n : ℕ). n ∷ kept.served % 2 ^ 64 ∷ []) next_is

  turns_after : (seat : ℕ) (v : View) → get_elem? after.views seat ≡ some v → TurnIs opened kept.history kept.served longer s.homes v.parts v.turn
  turns_after seat v there =
      ⊎_elim
      (λ same. subst (λ (w : View). TurnIs opened kept.history kept.served longer s.homes w.parts w.turn) same.1
      (p, refl, (length kept.queue, at_last kept.queue p.number (length kept.queue) refl, found_is)))
      (λ other.
      turn_longer opened kept.history kept.served kept.queue s.homes p.number v.parts v.turn
      (λ part among e. other.0 (sym (kept.parts_are seat v part other.1 among).1 ∙ (ap kept.owner e ∙ here.1)))
      (kept.turns_are seat v other.1))
      (at_set s.views id seat view v there)

  stands_after : JournalStands opened kept.history after
  stands_after =
      ⊎_elim
      (λ home. inl home)
      (λ had. inr (had.0, had.1, had.2, had_stays s.views id (idle p).0 view had.1 had.0 had.2 at (idle_not_had had.2) had.3 had.4, had.4))
      kept.stands

  pub draw_keeps : JournalRule opened ports after
  draw_keeps = record {
    history = kept.history;
    legal = kept.legal;
    owner = kept.owner;
    parts_are = one_part_stays opened ports s kept id p (Drawn found) here;
    no_others = kept.no_others;
    served = kept.served;
    queue = longer;
    words_are = words_after;
    once = are_new_snoc p.number kept.queue (kept.turns_are id (idle p).0 at p (inl refl)) kept.once;
    few = below_snoc ports p.number kept.queue here.2 kept.few;
    bound = kept.bound;
    turns_are = turns_after;
    stands = stands_after;
  }

pub draw_allowed : (opened : Journal) (ports slots id : ℕ) (me : Me Slot View) → (part : Part) × (me ≡ idle part)
    → Allows (JournalRule opened ports) slots id me 0 (λ n. (n + 1) % 2 ^ 64) (λ n after. after ≡ drawn me n)
draw_allowed opened ports slots id me one =
    subst (λ m. Allows (JournalRule opened ports) slots id m 0 (λ n. (n + 1) % 2 ^ 64) (λ n after. after ≡ drawn m n)) (sym one.1)
    (λ s kept _ at _. let n : ℕ = slice_index s.words 0 in ((waiting one.0 n).0, keeps, tt, draw_keeps opened ports s kept id one.0 at, refl))
