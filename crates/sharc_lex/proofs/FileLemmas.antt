-- The names of files in a set of slices.
use Rattle.sharc_lex.proofs.Imports.{◌≡◌, ℕ, ◌+◌, Bool, true, false, not, cond, eqb as nat_eq, List, [], ◌∷◌, ◌++◌, map, refl, ap, ◌∙◌, ◌||◌, map-append, Bor, list_any, position_or_len, pointwise, bytes_eq, insert_key, with_file, place_of}

abbrev Slice : Type 0
Slice = Bor (List ℕ)

abbrev pub texts : List Slice → List (List ℕ)
texts ks = map (λ k. k.now) ks

abbrev same : Slice → Slice → Bool
same x y = pointwise nat_eq x.now y.now

list_any-texts : (k : Slice) (ks : List Slice) → list_any (same k) ks ≡ list_any (bytes_eq k.now) (texts ks)
list_any-texts k [] = refl
list_any-texts k (x ∷ ks) = ap (λ b. bytes_eq k.now x.now || b) (list_any-texts k ks)

pub position-texts : (k : Slice) (ks : List Slice) → position_or_len (same k) ks ≡ place_of (texts ks) k.now
position-texts k [] = refl
position-texts k (x ∷ ks) = ap (λ n. cond (not (bytes_eq k.now x.now)) (1 + n) 0) (position-texts k ks)

either_way : (b : Bool) (k : Slice) (ks : List Slice) → texts (cond b ks (ks ++ k ∷ [])) ≡ cond b (texts ks) (texts ks ++ k.now ∷ [])
either_way true k ks = refl
either_way false k ks = map-append (λ (x : Slice). x.now) ks (k ∷ [])

pub texts-insert_key : (k : Slice) (ks : List Slice) → texts (insert_key same ks k) ≡ with_file (texts ks) k.now
texts-insert_key k ks = either_way (list_any (same k) ks) k ks ∙ ap (λ b. cond b (texts ks) (texts ks ++ k.now ∷ [])) (list_any-texts k ks)
