-- The threads that wait or were stopped at the end of a run.
use Rattle.std.proofs.{Common.{◌≡◌, ℕ, ◌+◌, false, List, [], ◌∷◌, ◌++◌, map, filter, All, refl, sym, ap, ◌∙◌, subst}, lemmas.List.append-nil, lemmas.List.Elements.All-push}
use Rattle.std.specs.{Prelude.{if◌then◌else◌}, List.range_with_len}
use Rattle.sharc_code.specs.{declared.code.Code.Code, declared.shape.Shape.Shape}
use Rattle.sharc_threads.specs.Ends.{Standing}
use Rattle.sharc_history.specs.{declared.last.Last.Last, Lasts.{is_last, IsHalt, IsLast, IsHaltAt, AreLastsUpTo}}
use Rattle.sharc_lemmas.proofs.Lists.{fails, passes, up_to}

-- ---- one number more
map_push : {A B : Type 0} (f : A → B) (xs : List A) (x : A) → map f (xs ++ x ∷ []) ≡ map f xs ++ f x ∷ []
map_push f [] x = refl
map_push f (y ∷ xs) x = ap (λ z. f y ∷ z) (map_push f xs x)

pub listed : (code : Code) (s : Shape) (g : Standing) (n : ℕ) (lasts more : List Last) (last : Last) → AreLastsUpTo code s g n lasts → last.thread ≡ n → IsHaltAt code s g n last.halt → more ≡ lasts ++ last ∷ []
    → AreLastsUpTo code s g (n + 1) more
listed code s g n lasts more last are own is same = record {
  numbers =
      ap (map (λ (l : Last). l.thread)) same
      ∙ map_push (λ (l : Last). l.thread) lasts last
      ∙ ap (λ ns. ns ++ last.thread ∷ []) are.numbers
      ∙ ap (λ k. filter (is_last code s g) (range_with_len 0 n) ++ k ∷ []) own
      ∙ ap (λ ns. filter (is_last code s g) (range_with_len 0 n) ++ ns) (sym (passes (is_last code s g n) n is.some))
      ∙ sym (up_to (is_last code s g) n);
  each = subst (All (IsLast code g)) (sym same) (All-push (IsLast code g) lasts last are.each (subst (λ t. IsHalt code (g.threads t) last.halt) (sym own) is.is));
}

pub skipped : (code : Code) (s : Shape) (g : Standing) (n : ℕ) (lasts : List Last) → AreLastsUpTo code s g n lasts → is_last code s g n ≡ false → AreLastsUpTo code s g (n + 1) lasts
skipped code s g n lasts are other = record {
  numbers =
      are.numbers
      ∙ sym (append-nil (filter (is_last code s g) (range_with_len 0 n)))
      ∙ ap (λ ns. filter (is_last code s g) (range_with_len 0 n) ++ ns) (sym (fails (is_last code s g n) n other))
      ∙ sym (up_to (is_last code s g) n);
  each = are.each;
}
