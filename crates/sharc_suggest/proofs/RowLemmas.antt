-- Going over a row from its first target down.
use Rattle.sharc_suggest.proofs.Imports.{◌≡◌, ℕ, ◌+◌, ◌<◌, ◌≤◌, Bool, true, false, ◌&&◌, List, ◌∷◌, length, drop, not, Some, ap, sym, ◌∙◌, subst, arith, Entry, Resolution, pointed, Assignment, RowLaws, position_count, Targets, deeper, modes_of, Sharing, same_all, keeps, keeps_all, differ_first}

-- a row and what is below its first target
pub step_on : (laws : RowLaws) (m : Assignment) (row next : Targets) (s : Sharing) → length m.modes ≡ position_count m.typed → 0 < row.count → row.first + row.count ≤ position_count m.typed → s ≡ pointed m (Some row) → next ≡ deeper row
    → (next.first + next.count ≤ position_count m.typed) × (modes_of m row ≡ s ∷ modes_of m next)
step_on laws m row next s whole some ends s_is next_is = (
  subst (λ (r : Targets). r.first + r.count ≤ position_count m.typed) (sym next_is) (laws.ends (position_count m.typed) row ends),
  laws.begins m row some (omega (arith, ends, whole)) ∙ ap (λ x. x ∷ modes_of m (deeper row)) (sym s_is) ∙ ap (λ r. s ∷ modes_of m r) (sym next_is),
)

pub kept_one : (r : Resolution) (scope : List Entry) (all rest : List Sharing) (s : Sharing) (whole : Bool) → all ≡ s ∷ rest → keeps r scope s ≡ true → keeps_all r scope all ≡ whole → keeps_all r scope rest ≡ whole
kept_one r scope all rest s whole all_is kept were = ap (λ b. b && keeps_all r scope rest) (sym kept) ∙ ap (keeps_all r scope) (sym all_is) ∙ were

-- what a row points to in turn has all its modes but the first
pub below_same : (laws : RowLaws) (m : Assignment) (expected found below_expected below_found : Targets) → expected.first + expected.count ≤ length m.modes → found.first + found.count ≤ length m.modes
    → below_expected ≡ deeper expected → below_found ≡ deeper found
    → same_all m.typed (drop 1 (modes_of m expected)) (drop 1 (modes_of m found)) ≡ same_all m.typed (modes_of m below_expected) (modes_of m below_found)
below_same laws m expected found below_expected below_found ends_expected ends_found expected_is found_is =
    ap (λ l. same_all m.typed l (drop 1 (modes_of m found))) (laws.drops m expected ends_expected ∙ ap (modes_of m) (sym expected_is))
    ∙ ap (same_all m.typed (modes_of m below_expected)) (laws.drops m found ends_found ∙ ap (modes_of m) (sym found_is))

pub differ_is : (laws : RowLaws) (m : Assignment) (expected found below_expected below_found : Targets) (same below : Bool) → expected.first + expected.count ≤ length m.modes → found.first + found.count ≤ length m.modes
    → below_expected ≡ deeper expected → below_found ≡ deeper found → same ≡ same_all m.typed (modes_of m expected) (modes_of m found) → same ≡ false → below ≡ same_all m.typed (modes_of m below_expected) (modes_of m below_found)
    → below ≡ differ_first m.typed (modes_of m expected) (modes_of m found)
differ_is laws m expected found below_expected below_found same below ends_expected ends_found expected_is found_is same_is differ below_is =
    below_is
    ∙ sym (below_same laws m expected found below_expected below_found ends_expected ends_found expected_is found_is)
    ∙ ap (λ b. not b && same_all m.typed (drop 1 (modes_of m expected)) (drop 1 (modes_of m found))) (sym differ ∙ same_is)
