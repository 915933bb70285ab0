-- The limit on locals over two lists, one after the other.
use Rattle.sharc_ctype.proofs.Imports.{◌≡◌, ℕ, ◌+◌, ◌-◌, ◌<◌, ◌==◌, List, [], ◌∷◌, ◌++◌, length, fold, ap, sym, ◌∙◌, arith, append_assoc, length-append, fold-append, Declaration, LimitPassed, Findings, noted, fault_where, beyond}

pub beyond_append : (room : ℕ) (a b : List Declaration) → beyond room (a ++ b) ≡ beyond room a ++ beyond (room - length a) b
beyond_append room [] b = ap (λ n. beyond n b) (let e : room ≡ room - 0 = omega arith in e)
beyond_append room (d ∷ rest) b =
    ap (λ l. fault_where (room == 0) d.name.site.token LimitPassed ++ l) (beyond_append (room - 1) rest b)
    ∙ sym (append_assoc (fault_where (room == 0) d.name.site.token LimitPassed) (beyond (room - 1) rest) (beyond ((room - 1) - length rest) b))
    ∙ ap (λ n. (fault_where (room == 0) d.name.site.token LimitPassed ++ beyond (room - 1) rest) ++ beyond n b) (let e : (room - 1) - length rest ≡ room - length (d ∷ rest) = omega arith in e)

pub beyond_both : (room left : ℕ) (a b : List Declaration) (f0 f1 : Findings) → left ≡ room - length a → f1 ≡ fold noted f0 (beyond room a) → fold noted f1 (beyond left b) ≡ fold noted f0 (beyond room (a ++ b))
beyond_both room left a b f0 f1 left_is one =
    ap (λ n. fold noted f1 (beyond n b)) left_is
    ∙ ap (λ f. fold noted f (beyond (room - length a) b)) one
    ∙ sym (fold-append noted f0 (beyond room a) (beyond (room - length a) b))
    ∙ ap (fold noted f0) (sym (beyond_append room a b))

pub room_both : (room left : ℕ) (a b : List Declaration) → left ≡ room - length a → left - length b ≡ room - length (a ++ b)
room_both room left a b is = omega (arith, is, length-append a b)
