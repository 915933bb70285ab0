-- The element of a list at a place, and what is left after it.
use Rattle.sharc_flatten.proofs.Imports.{◌≡◌, ℕ, ◌+◌, List, [], ◌∷◌, ◌++◌, take, drop, get_or, set, Some, ap, sym, ◌∙◌, arith, add-zero, take_more, drop-drop, drop-set-lt, get_or-drop, slice_get_within, get_or_from_slice_get, slice_get}

pub take_got : {X : Type 0} (xs : List X) (n : ℕ) (x : X) → slice_get xs n ≡ Some x → take (n + 1) xs ≡ take n xs ++ x ∷ []
take_got xs n x at = take_more xs n x (slice_get_within xs n x at) ∙ ap (λ y. take n xs ++ y ∷ []) (get_or_from_slice_get xs n x x at)

-- where the rest of two lists is the same, so is the element there, and the rest after it
pub same_at : {X : Type 0} (xs ys : List X) (n : ℕ) (d : X) → drop n xs ≡ drop n ys → get_or xs n d ≡ get_or ys n d
same_at xs ys n d same =
    ap (λ k. get_or xs k d) (sym (add-zero n)) ∙ (sym (get_or-drop n xs 0 d) ∙ (ap (λ l. get_or l 0 d) same ∙ (get_or-drop n ys 0 d ∙ ap (λ k. get_or ys k d) (add-zero n))))

pub left_more : {X : Type 0} (told lines : List X) (n : ℕ) (p : X) → drop n lines ≡ drop n told → drop (n + 1) (set lines n p) ≡ drop (n + 1) told
left_more told lines n p same = drop-set-lt (n + 1) lines n p (omega arith) ∙ (sym (drop-drop 1 n lines) ∙ (ap (λ l. drop 1 l) same ∙ drop-drop 1 n told))
