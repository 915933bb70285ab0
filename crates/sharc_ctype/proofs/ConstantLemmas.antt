-- Sets of tokens that lists are written into.
use Rattle.sharc_ctype.proofs.Imports.{◌≡◌, ℕ, ◌+◌, ◌<◌, ◌==◌, ◌||◌, Bool, true, cond, List, ◌∷◌, drop, length, get_or, add-one, drop-cons, ap, sym, ◌∙◌, arith, nat_tests, is_among}

turned : (e q : ℕ) (old rest : Bool) → (cond (e == q) true old || rest) ≡ (old || ((q == e) || rest))
turned e q old rest = grind (arith, nat_tests)

-- the next token of the list is written into the set
pub one_more : (tokens : List ℕ) (i q : ℕ) (old new all : Bool) → i < length tokens → new ≡ cond (get_or tokens i 0 == q) true old
    → (old || is_among q (drop i tokens)) ≡ all → (new || is_among q (drop (i + 1) tokens)) ≡ all
one_more tokens i q old new all below is before =
    let e = get_or tokens i 0 in
    let next : drop i tokens ≡ e ∷ drop (i + 1) tokens = drop-cons tokens i 0 below ∙ ap (λ n. e ∷ drop n tokens) (sym (add-one i)) in
    ap (λ b. b || is_among q (drop (i + 1) tokens)) is
    ∙ turned e q old (is_among q (drop (i + 1) tokens))
    ∙ ap (λ l. old || is_among q l) (sym next)
    ∙ before
