-- What the forward pass reports of code.
use Rattle.sharc_dataflow.proofs.{Imports.{◌≡◌, ℕ, List, [], ◌∷◌, ◌++◌, Option, None, true, nat_eq, refl, ap, sym, ◌∙◌, append_assoc, append-nil, Step, Way, Ways, StandingNullings, FlowWarning, Reads, Nulls, Writes, Next, Broken, Continued, Ends, Code, goes_to, acts, first_then, one_of, catches, repeats, listing, lower, behind, closed, free, follow, either, only, goes_of, then_of, nulled, written, ways, warns, last_or, front, heads, Telling, telling, forth, told, turning}, Laws.{lower_none, lower_turned, lower_assoc, follow_assoc, follow_either}, Summed.{last_pushed, front_pushed, regroup, regroup_two}}

-- what a piece does to all that holds
abbrev pub passed : Ways → StandingNullings → StandingNullings
passed w s = record { next = behind w.next s.next; broken = lower s.broken (behind w.broken s.next); continued = lower s.continued (behind w.continued s.next) }

abbrev standing_of : Option ℕ → Option ℕ → Option ℕ → StandingNullings
standing_of n b c = record { next = n; broken = b; continued = c }

same_standing : (n n2 b b2 c c2 : Option ℕ) → n ≡ n2 → b ≡ b2 → c ≡ c2 → standing_of n b c ≡ standing_of n2 b2 c2
same_standing n n2 b b2 c c2 e f g = rw (e, f, g) refl

abbrev from : Option ℕ → Way
from v = record { least = v; clear = true }

pub behind_follow : (p q : Way) (v : Option ℕ) → behind (follow p q) v ≡ behind q (behind p v)
behind_follow p q v = ap (λ (z : Way). z.least) (sym (follow_assoc (from v) p q))

behind_either : (p q : Way) (v : Option ℕ) → behind (either p q) v ≡ lower (behind p v) (behind q v)
behind_either p q v = ap (λ (z : Way). z.least) (follow_either (from v) p q)

exit_on : (o v : Option ℕ) (a n b : Way) → lower o (behind (either a (follow n b)) v) ≡ lower (lower o (behind a v)) (behind b (behind n v))
exit_on o v a n b = ap (lower o) (behind_either a (follow n b) v ∙ ap (lower (behind a v)) (behind_follow n b v)) ∙ sym (lower_assoc o (behind a v) (behind b (behind n v)))

passed_then : (a b : Ways) (s : StandingNullings) → passed b (passed a s) ≡ passed (then_of a b) s
passed_then a b s = same_standing _ _ _ _ _ _ (sym (behind_follow a.next b.next s.next)) (sym (exit_on s.broken s.next a.broken a.next b.broken)) (sym (exit_on s.continued s.next a.continued a.next b.continued))

passed_only : (w : Way) (s : StandingNullings) → passed (only w) s ≡ standing_of (behind w s.next) s.broken s.continued
passed_only w s = same_standing _ _ _ _ _ _ refl (lower_none s.broken) (lower_none s.continued)

passed_nothing : (s : StandingNullings) → passed (only free) s ≡ s
passed_nothing s = passed_only free s

passed_break : (s : StandingNullings) → passed (goes_of Broken) s ≡ standing_of None (lower s.broken s.next) s.continued
passed_break s = same_standing _ _ _ _ _ _ refl refl (lower_none s.continued)

passed_continue : (s : StandingNullings) → passed (goes_of Continued) s ≡ standing_of None s.broken (lower s.continued s.next)
passed_continue s = same_standing _ _ _ _ _ _ refl (lower_none s.broken) refl

same_telling : (s s2 : StandingNullings) (o o2 h h2 : List (Option ℕ)) (f f2 : List FlowWarning) → s ≡ s2 → o ≡ o2 → h ≡ h2 → f ≡ f2 → telling s o h f ≡ telling s2 o2 h2 f2
same_telling s s2 o o2 h h2 f f2 a b c d = rw (a, b, c, d) refl

module _ (x : ℕ) where
  -- the state after a piece
  abbrev pub behind_piece : Code → StandingNullings → List (Option ℕ) → List (Option ℕ) → List FlowWarning → Telling
  behind_piece c s o hs f = telling (passed (ways x c) s) o hs (f ++ warns x c s.next)

  plain : (c : Code) (s s2 : StandingNullings) (o hs : List (Option ℕ)) (f : List FlowWarning) → s2 ≡ passed (ways x c) s → warns x c s.next ≡ [] → telling s2 o (hs ++ []) f ≡ behind_piece c s o hs f
  plain c s s2 o hs f e q = same_telling _ _ _ _ _ _ _ _ e refl (append-nil hs) (sym (ap (λ z. f ++ z) q ∙ append-nil f))

  after_other : (a b : Code) (s : StandingNullings) (o hs : List (Option ℕ)) (f : List FlowWarning)
      → forth x Step.Other (behind_piece a s (o ++ s.next ∷ []) (hs ++ heads x b) f) ≡ telling (standing_of s.next (passed (ways x a) s).broken (passed (ways x a) s).continued) (o ++ (passed (ways x a) s).next ∷ []) (hs ++ heads x b) (f ++ warns x a s.next)
  after_other a b s o hs f = let s1 = passed (ways x a) s in same_telling _ _ _ _ _ _ _ _ (ap (λ z. standing_of z s1.broken s1.continued) (last_pushed None s.next o)) (ap (λ z. z ++ s1.next ∷ []) (front_pushed s.next o)) refl refl

  after_join : (a b : Code) (s : StandingNullings) (o hs : List (Option ℕ)) (f : List FlowWarning)
      → forth x Step.Join (behind_piece b (standing_of s.next (passed (ways x a) s).broken (passed (ways x a) s).continued) (o ++ (passed (ways x a) s).next ∷ []) hs (f ++ warns x a s.next)) ≡ behind_piece (one_of a b) s o hs f
  after_join a b s o hs f =
      let s1 = passed (ways x a) s in
      let wa = ways x a in
      let wb = ways x b in
      same_telling _ _ _ _ _ _ _ _
      (same_standing _ _ _ _ _ _
      (ap (λ z. lower z (behind wb.next s.next)) (last_pushed None s1.next o) ∙ sym (behind_either wa.next wb.next s.next))
      (lower_assoc s.broken (behind wa.broken s.next) (behind wb.broken s.next) ∙ ap (lower s.broken) (sym (behind_either wa.broken wb.broken s.next)))
      (lower_assoc s.continued (behind wa.continued s.next) (behind wb.continued s.next) ∙ ap (lower s.continued) (sym (behind_either wa.continued wb.continued s.next))))
      (front_pushed s1.next o) refl (append_assoc f (warns x a s.next) (warns x b s.next))

  after_caught : (a : Code) (s : StandingNullings) (o hs : List (Option ℕ)) (f : List FlowWarning)
      → forth x Step.Caught (behind_piece a (standing_of s.next s.broken None) (o ++ s.continued ∷ []) hs f) ≡ behind_piece (catches a) s o hs f
  after_caught a s o hs f =
      let wa = ways x a in
      same_telling _ _ _ _ _ _ _ _
      (same_standing _ _ _ _ _ _ (sym (behind_either wa.next wa.continued s.next)) refl (ap (λ z. lower z (behind wa.continued s.next)) (last_pushed None s.continued o)))
      (front_pushed s.continued o) refl refl

  after_again : (a : Code) (s : StandingNullings) (o hs : List (Option ℕ)) (f : List FlowWarning)
      → forth x Step.Again (behind_piece a (turning (ways x a).next.least s) ((o ++ s.broken ∷ []) ++ s.continued ∷ []) hs f) ≡ behind_piece (repeats a) s o hs f
  after_again a s o hs f =
      let wa = ways x a in
      let k = wa.next.least in
      let one = o ++ s.broken ∷ [] in
      same_telling _ _ _ _ _ _ _ _
      (same_standing _ _ _ _ _ _
      (ap (behind wa.broken) (lower_turned s.next k) ∙ sym (behind_follow (from k) wa.broken s.next))
      (ap (last_or None) (front_pushed s.continued one) ∙ last_pushed None s.broken o ∙ sym (lower_none s.broken))
      (last_pushed None s.continued one ∙ sym (lower_none s.continued)))
      (ap front (front_pushed s.continued one) ∙ front_pushed s.broken o) refl refl

  pub told_piece : (c : Code) (rest : List Step) (s : StandingNullings) (o hs : List (Option ℕ)) (f : List FlowWarning) → told x (listing c ++ rest) (telling s o (hs ++ heads x c) f) ≡ told x rest (behind_piece c s o hs f)
  told_piece (goes_to Next) rest s o hs f = ap (told x rest) (plain (goes_to Next) s s o hs f (sym (passed_nothing s)) refl)
  told_piece (goes_to Broken) rest s o hs f = ap (told x rest) (plain (goes_to Broken) s (standing_of None (lower s.broken s.next) s.continued) o hs f (sym (passed_break s)) refl)
  told_piece (goes_to Continued) rest s o hs f = ap (told x rest) (plain (goes_to Continued) s (standing_of None s.broken (lower s.continued s.next)) o hs f (sym (passed_continue s)) refl)
  told_piece (goes_to Ends) rest s o hs f = ap (told x rest) (plain (goes_to Ends) s (standing_of None s.broken s.continued) o hs f (sym (passed_only closed s)) refl)
  told_piece (acts (Reads y r)) rest s o hs f = ap (told x rest) (same_telling _ _ _ _ _ _ _ _ (sym (passed_nothing s)) refl (append-nil hs) refl)
  told_piece (acts (Nulls y k)) rest s o hs f = ap (told x rest) (plain (acts (Nulls y k)) s (standing_of (behind (nulled (nat_eq y x) k) s.next) s.broken s.continued) o hs f (sym (passed_only (nulled (nat_eq y x) k) s)) refl)
  told_piece (acts (Writes y)) rest s o hs f = ap (told x rest) (plain (acts (Writes y)) s (standing_of (behind (written (nat_eq y x)) s.next) s.broken s.continued) o hs f (sym (passed_only (written (nat_eq y x)) s)) refl)
  told_piece (first_then a b) rest s o hs f =
      let s1 = passed (ways x a) s in
      ap (λ z. told x z (telling s o (hs ++ (heads x b ++ heads x a)) f)) (append_assoc (listing a) (listing b) rest)
      ∙ ap (λ z. told x (listing a ++ (listing b ++ rest)) (telling s o z f)) (sym (append_assoc hs (heads x b) (heads x a)))
      ∙ told_piece a (listing b ++ rest) s o (hs ++ heads x b) f
      ∙ told_piece b rest s1 o hs (f ++ warns x a s.next)
      ∙ ap (told x rest) (same_telling _ _ _ _ _ _ _ _ (passed_then (ways x a) (ways x b) s) refl refl (append_assoc f (warns x a s.next) (warns x b s1.next)))
  told_piece (one_of a b) rest s o hs f =
      let s1 = passed (ways x a) s in
      ap (λ z. told x z (telling s o (hs ++ (heads x b ++ heads x a)) f)) (regroup_two Step.Fork Step.Other Step.Join (listing a) (listing b) rest)
      ∙ ap (λ z. told x (listing a ++ Step.Other ∷ (listing b ++ Step.Join ∷ rest)) (telling s (o ++ s.next ∷ []) z f)) (sym (append_assoc hs (heads x b) (heads x a)))
      ∙ told_piece a (Step.Other ∷ (listing b ++ Step.Join ∷ rest)) s (o ++ s.next ∷ []) (hs ++ heads x b) f
      ∙ ap (told x (listing b ++ Step.Join ∷ rest)) (after_other a b s o hs f)
      ∙ told_piece b (Step.Join ∷ rest) (standing_of s.next s1.broken s1.continued) (o ++ s1.next ∷ []) hs (f ++ warns x a s.next)
      ∙ ap (told x rest) (after_join a b s o hs f)
  told_piece (catches a) rest s o hs f =
      ap (λ z. told x z (telling s o (hs ++ heads x a) f)) (regroup Step.Catch Step.Caught (listing a) rest)
      ∙ told_piece a (Step.Caught ∷ rest) (standing_of s.next s.broken None) (o ++ s.continued ∷ []) hs f
      ∙ ap (told x rest) (after_caught a s o hs f)
  told_piece (repeats a) rest s o hs f =
      let k = (ways x a).next.least in
      ap (λ z. told x z (telling s o (hs ++ (heads x a ++ k ∷ [])) f)) (regroup Step.Head Step.Again (listing a) rest)
      ∙ ap (λ z. told x (Step.Head ∷ (listing a ++ Step.Again ∷ rest)) (telling s o z f)) (sym (append_assoc hs (heads x a) (k ∷ [])))
      ∙ ap (told x (listing a ++ Step.Again ∷ rest)) (same_telling _ _ _ _ _ _ _ _ (ap (λ z. turning z s) (last_pushed None k (hs ++ heads x a))) refl (front_pushed k (hs ++ heads x a)) refl)
      ∙ told_piece a (Step.Again ∷ rest) (turning k s) ((o ++ s.broken ∷ []) ++ s.continued ∷ []) hs f
      ∙ ap (told x rest) (after_again a s o hs f)
