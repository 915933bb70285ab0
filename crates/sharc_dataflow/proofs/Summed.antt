-- What the backward pass finds of code.
use Rattle.sharc_dataflow.proofs.{Imports.{◌≡◌, ℕ, List, [], ◌∷◌, ◌++◌, Option, refl, ap, sym, ◌∙◌, append_assoc, append-nil, Step, Way, Ways, Reads, Nulls, Writes, Next, Broken, Continued, Ends, Code, goes_to, acts, first_then, one_of, catches, repeats, listing, follow, either, then_of, either_of, caught_of, loop_of, ways, last_or, front, heads, Summing, summing, nothing, back, summed}, Laws.{follow_free, free_follow, follow_closed, follow_assoc, follow_either, either_assoc, either_closed}}

pub last_pushed : {A : Type 0} (d a : A) (l : List A) → last_or d (l ++ a ∷ []) ≡ a
last_pushed d a (b ∷ (c ∷ l)) = last_pushed d a (c ∷ l)
last_pushed d a _ = refl

pub front_pushed : {A : Type 0} (a : A) (l : List A) → front (l ++ a ∷ []) ≡ l
front_pushed a (b ∷ (c ∷ l)) = ap (λ z. b ∷ z) (front_pushed a (c ∷ l))
front_pushed a _ = refl

abbrev pub ways_of : Way → Way → Way → Ways
ways_of n b c = record { next = n; broken = b; continued = c }

pub same_ways : (n n2 b b2 c c2 : Way) → n ≡ n2 → b ≡ b2 → c ≡ c2 → ways_of n b c ≡ ways_of n2 b2 c2
same_ways n n2 b b2 c c2 e f g = rw (e, f, g) refl

exit_assoc : (a n b m c : Way) → either (either a (follow n b)) (follow (follow n m) c) ≡ either a (follow n (either b (follow m c)))
exit_assoc a n b m c = either_assoc a (follow n b) (follow (follow n m) c) ∙ ap (either a) (ap (either (follow n b)) (follow_assoc n m c) ∙ sym (follow_either n b (follow m c)))

pub then_assoc : (a b c : Ways) → then_of (then_of a b) c ≡ then_of a (then_of b c)
then_assoc a b c = same_ways _ _ _ _ _ _ (follow_assoc a.next b.next c.next) (exit_assoc a.broken a.next b.broken b.next c.broken) (exit_assoc a.continued a.next b.continued b.next c.continued)

pub nothing_then : (a : Ways) → then_of nothing a ≡ a
nothing_then a = same_ways _ _ _ _ _ _ (free_follow a.next) (free_follow a.broken) (free_follow a.continued)

pub then_nothing : (a : Ways) → then_of a nothing ≡ a
then_nothing a = same_ways _ _ _ _ _ _ (follow_free a.next) (ap (either a.broken) (follow_closed a.next) ∙ either_closed a.broken) (ap (either a.continued) (follow_closed a.next) ∙ either_closed a.continued)

-- what a piece does goes before, and what holds at the end of its turns comes after
abbrev pub with_piece : ℕ → Code → Summing → Summing
with_piece x c s = summing (then_of (ways x c) s.now) s.waiting (s.heads ++ heads x c)

same_sums : (w v : Ways) (o p : List Ways) (h g : List (Option ℕ)) → w ≡ v → o ≡ p → h ≡ g → summing w o h ≡ summing v p g
same_sums w v o p h g e f i = rw (e, f, i) refl

pub regroup : (a b : Step) (l rest : List Step) → (a ∷ (l ++ b ∷ [])) ++ rest ≡ a ∷ (l ++ b ∷ rest)
regroup a b l rest = ap (λ z. a ∷ z) (append_assoc l (b ∷ []) rest)

pub regroup_two : (a b c : Step) (l m rest : List Step) → (a ∷ (l ++ b ∷ (m ++ c ∷ []))) ++ rest ≡ a ∷ (l ++ b ∷ (m ++ c ∷ rest))
regroup_two a b c l m rest = ap (λ z. a ∷ z) (append_assoc l (b ∷ (m ++ c ∷ [])) rest ∙ ap (λ z. l ++ b ∷ z) (append_assoc m (c ∷ []) rest))

no_heads : (x : ℕ) (w : Ways) (s : Summing) → summing (then_of w s.now) s.waiting s.heads ≡ summing (then_of w s.now) s.waiting (s.heads ++ [])
no_heads x w s = ap (summing (then_of w s.now) s.waiting) (sym (append-nil s.heads))

unchanged : (s : Summing) → s ≡ summing (then_of nothing s.now) s.waiting (s.heads ++ [])
unchanged s = same_sums s.now (then_of nothing s.now) s.waiting s.waiting s.heads (s.heads ++ []) (sym (nothing_then s.now)) refl (sym (append-nil s.heads))

module _ (x : ℕ) where
  either_back : (a b : Code) (s : Summing) → back x Step.Fork (with_piece x a (back x Step.Other (with_piece x b (back x Step.Join s)))) ≡ with_piece x (one_of a b) s
  either_back a b s =
      let one = s.waiting ++ s.now ∷ [] in
      let two = one ++ then_of (ways x b) nothing ∷ [] in
      same_sums (then_of (either_of (then_of (ways x a) nothing) (last_or nothing two)) (last_or nothing (front two))) (then_of (either_of (ways x a) (ways x b)) s.now) (front (front two)) s.waiting ((s.heads ++ heads x b) ++ heads x a) (s.heads ++ (heads x b ++ heads x a))
      (ap (λ z. then_of (either_of z (last_or nothing two)) (last_or nothing (front two))) (then_nothing (ways x a))
      ∙ ap (λ z. then_of (either_of (ways x a) z) (last_or nothing (front two))) (last_pushed nothing (then_of (ways x b) nothing) one ∙ then_nothing (ways x b))
      ∙ ap (λ z. then_of (either_of (ways x a) (ways x b)) (last_or nothing z)) (front_pushed (then_of (ways x b) nothing) one)
      ∙ ap (then_of (either_of (ways x a) (ways x b))) (last_pushed nothing s.now s.waiting))
      (ap front (front_pushed (then_of (ways x b) nothing) one) ∙ front_pushed s.now s.waiting)
      (append_assoc s.heads (heads x b) (heads x a))

  caught_back : (a : Code) (s : Summing) → back x Step.Catch (with_piece x a (back x Step.Caught s)) ≡ with_piece x (catches a) s
  caught_back a s = same_sums _ (then_of (caught_of (ways x a)) s.now) _ s.waiting _ _
      (ap (λ z. then_of (caught_of z) (last_or nothing (s.waiting ++ s.now ∷ []))) (then_nothing (ways x a)) ∙ ap (then_of (caught_of (ways x a))) (last_pushed nothing s.now s.waiting))
      (front_pushed s.now s.waiting)
      refl

  loop_back : (a : Code) (s : Summing) → back x Step.Head (with_piece x a (back x Step.Again s)) ≡ with_piece x (repeats a) s
  loop_back a s = same_sums _ (then_of (loop_of (ways x a)) s.now) _ s.waiting _ _
      (ap (λ z. then_of (loop_of z) (last_or nothing (s.waiting ++ s.now ∷ []))) (then_nothing (ways x a)) ∙ ap (then_of (loop_of (ways x a))) (last_pushed nothing s.now s.waiting))
      (front_pushed s.now s.waiting)
      (ap (λ (z : Ways). (s.heads ++ heads x a) ++ z.next.least ∷ []) (then_nothing (ways x a)) ∙ append_assoc s.heads (heads x a) ((ways x a).next.least ∷ []))

  pub summed_piece : (c : Code) (rest : List Step) (s : Summing) → summed x (listing c ++ rest) s ≡ with_piece x c (summed x rest s)
  summed_piece (goes_to Broken) rest s = no_heads x (ways x (goes_to Broken)) (summed x rest s)
  summed_piece (goes_to Continued) rest s = no_heads x (ways x (goes_to Continued)) (summed x rest s)
  summed_piece (goes_to Ends) rest s = no_heads x (ways x (goes_to Ends)) (summed x rest s)
  summed_piece (acts (Nulls y k)) rest s = no_heads x (ways x (acts (Nulls y k))) (summed x rest s)
  summed_piece (acts (Writes y)) rest s = no_heads x (ways x (acts (Writes y))) (summed x rest s)
  summed_piece (first_then a b) rest s =
      let t = summed x rest s in
      ap (λ z. summed x z s) (append_assoc (listing a) (listing b) rest) ∙ summed_piece a (listing b ++ rest) s ∙ ap (with_piece x a) (summed_piece b rest s)
      ∙ same_sums _ _ t.waiting t.waiting _ _ (sym (then_assoc (ways x a) (ways x b) t.now)) refl (append_assoc t.heads (heads x b) (heads x a))
  summed_piece (one_of a b) rest s =
      ap (λ z. summed x z s) (regroup_two Step.Fork Step.Other Step.Join (listing a) (listing b) rest)
      ∙ ap (back x Step.Fork) (summed_piece a (Step.Other ∷ (listing b ++ Step.Join ∷ rest)) s)
      ∙ ap (λ z. back x Step.Fork (with_piece x a (back x Step.Other z))) (summed_piece b (Step.Join ∷ rest) s)
      ∙ either_back a b (summed x rest s)
  summed_piece (catches a) rest s =
      ap (λ z. summed x z s) (regroup Step.Catch Step.Caught (listing a) rest) ∙ ap (back x Step.Catch) (summed_piece a (Step.Caught ∷ rest) s) ∙ caught_back a (summed x rest s)
  summed_piece (repeats a) rest s =
      ap (λ z. summed x z s) (regroup Step.Head Step.Again (listing a) rest) ∙ ap (back x Step.Head) (summed_piece a (Step.Again ∷ rest) s) ∙ loop_back a (summed x rest s)
  summed_piece _ rest s = unchanged (summed x rest s)
