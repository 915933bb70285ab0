-- Lists of events in parts.
use Rattle.sharc_audit.proofs.Imports.{◌≡◌, ℕ, ◌+◌, ◌<◌, true, false, cond, List, [], ◌∷◌, ◌++◌, refl, ap, sym, ◌∙◌, length, take, slice_index_or, append-nil, add-one, take-suc, SourceEvent, events_of, is_of, pick}

pub take_next : {A : Type 0} (l : List A) (i : ℕ) (a : A) → i < length l → a ≡ slice_index_or l i a → take (i + 1) l ≡ take i l ++ a ∷ []
take_next l i a h is = rw (add-one) (take-suc l i a h ∙ ap (λ z. take i l ++ z ∷ []) (sym is))

pub events_append : (t : ℕ) (a b : List SourceEvent) → events_of t (a ++ b) ≡ events_of t a ++ events_of t b
events_append t [] b = refl
events_append t (x ∷ a) b = pick (is_of t x) x (events_of t (a ++ b)) (events_of t a) (events_of t b) (events_append t a b)

-- the events of a thread, with one more at the end of the list
module _ (e : SourceEvent) (u : ℕ) where
  pub one_own : is_of u e ≡ true → (l : List SourceEvent) → events_of u (l ++ e ∷ []) ≡ events_of u l ++ e ∷ []
  one_own h l = events_append u l (e ∷ []) ∙ ap (λ b. events_of u l ++ cond b (e ∷ []) []) h

  pub one_other : is_of u e ≡ false → (l : List SourceEvent) → events_of u (l ++ e ∷ []) ≡ events_of u l
  one_other h l = events_append u l (e ∷ []) ∙ ap (λ b. events_of u l ++ cond b (e ∷ []) []) h ∙ append-nil (events_of u l)
