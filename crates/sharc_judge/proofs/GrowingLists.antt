-- Lists that grow at their end.
use Rattle.std.proofs.Common.{List, [], ◌∷◌, ◌++◌, sym, subst, append_assoc, append-nil}

-- what holds of no element, and of one element more, holds of every list
pub by_growing : {A : Type 0} (P : List A → Type 0) → P [] → ((l : List A) (x : A) → P l → P (l ++ x ∷ [])) → (l : List A) → P l
by_growing {A} P none more l = behind [] l none
  where
    behind : (front l : List A) → P front → P (front ++ l)
    behind front [] h = subst P (sym (append-nil front)) h
    behind front (x ∷ l) h = subst P (append_assoc front (x ∷ []) l) (behind (front ++ x ∷ []) l (more front x h))
