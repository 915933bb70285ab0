-- What a sink holds after some lines of a text.
use Rattle.sharc_top.proofs.Imports.{take-add, ℕ, ◌≡◌, ◌≤◌, ◌<◌, ◌+◌, ◌-◌, List, length, take, drop, Option, subst, arith, length-take, take-take, Appends, appends_front_more}

-- one more line of a text, after those before it
pub appends_line : (a b c : Option (List ℕ)) (text : List ℕ) (from end : ℕ) → from ≤ end
    → Appends a b (take from text) → Appends b c (take (end - from) (drop from text)) → Appends a c (take end text)
appends_line a b c text from end h before more =
    let P : ℕ → Type 0 = λ n. Appends a c (take n text) in
    let e : from + (end - from) ≡ end = omega arith in
    subst P e (appends_front_more a b c text from (end - from) before more)

-- a front part of one more line
pub appends_part : (a b c : Option (List ℕ)) (text : List ℕ) (from end count : ℕ) → from ≤ end
    → count < length (take (end - from) (drop from text))
    → Appends a b (take from text) → Appends b c (take count (take (end - from) (drop from text))) → Appends a c (take (from + count) text)
appends_part a b c text from end count h short before more =
    let l : length (take (end - from) (drop from text)) ≤ end - from = omega (arith, length-take (end - from) (drop from text)) in
    let e : take count (take (end - from) (drop from text)) ≡ take count (drop from text) = take-take count (end - from) (drop from text) (omega arith) in
    appends_front_more a b c text from count before (subst (Appends b c) e more)
