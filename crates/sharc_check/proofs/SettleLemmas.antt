-- What is settled when all is said.
use Rattle.sharc_check.proofs.Imports.{◌≡◌, ℕ, ◌+◌, ◌<◌, ◌≤◌, ◌==◌, max, Bool, true, false, ◌||◌, List, [], ◌∷◌, ◌++◌, length, fold, replicate, get_or, refl, ap, sym, ◌∙◌, subst, set, arith, reverse, get_or-set_other, get_or-replicate, length-set, length-replicate, common_steps, get_or-set_at, nat_tests, get_or as slice_index_or, flat_map, Resolution, ModeError, Finding, Wrong, Names, Takes, is_named, errors_by, errors_of, past, past_all, marked, marks, taken_errors, settled, or_assoc}
use Rattle.sharc_lemmas.proofs.Bools.{or_false2 as or_false}

one_flag : (flags : List Bool) (y x : ℕ) → y < length flags → get_or (set flags y true) x false ≡ (get_or flags x false || (x == y))
one_flag flags y x below = grind (arith, nat_tests, get_or-set_at, get_or-set_other, common_steps)

-- what is past all is past what went before
grows : (n : ℕ) (notes : List Finding) → n ≤ fold past n notes
grows n [] = omega arith
grows n (Wrong e ∷ rest) = grows n rest
grows n (Takes s x ∷ rest) = grows n rest
grows n (Names x ∷ rest) = let h : max n (x + 1) ≤ fold past (max n (x + 1)) rest = grows (max n (x + 1)) rest in omega (arith, h)

-- the flags say what is named
flag_is : (flags : List Bool) (notes : List Finding) (n x : ℕ) → fold past n notes ≤ length flags → get_or (fold marked flags notes) x false ≡ (get_or flags x false || is_named x notes)
flag_is flags [] n x all = or_false (get_or flags x false)
flag_is flags (Wrong e ∷ rest) n x all = flag_is flags rest n x all
flag_is flags (Takes s y ∷ rest) n x all = flag_is flags rest n x all
flag_is flags (Names y ∷ rest) n x all =
    let below : max n (y + 1) ≤ fold past (max n (y + 1)) rest = grows (max n (y + 1)) rest in
    let first : y < length flags = omega (arith, below, all) in
    flag_is (set flags y true) rest (max n (y + 1)) x (subst (λ k. fold past (max n (y + 1)) rest ≤ k) (sym (length-set flags y true)) all)
    ∙ ap (λ b. b || is_named x rest) (one_flag flags y x first)
    ∙ or_assoc (get_or flags x false) (x == y) (is_named x rest)

none_at_first : (n x : ℕ) → get_or (replicate n false) x false ≡ false
none_at_first n x = grind (arith, get_or-replicate, common_steps)

pub marks_are : (notes : List Finding) (x : ℕ) → slice_index_or (marks notes) x false ≡ is_named x notes
marks_are notes x =
    let size = length-replicate (past_all notes) false in
    flag_is (replicate (past_all notes) false) notes 0 x (omega (arith, size))
    ∙ ap (λ b. b || is_named x notes) (none_at_first (past_all notes) x)

settled_are : (r : Resolution) (notes part : List Finding) → flat_map (settled r (marks notes)) part ≡ flat_map (errors_by r notes) part
settled_are r notes [] = refl
settled_are r notes (Wrong e ∷ rest) = ap (λ l. e ∷ l) (settled_are r notes rest)
settled_are r notes (Names x ∷ rest) = settled_are r notes rest
settled_are r notes (Takes s x ∷ rest) =
    ap (λ b. taken_errors r b s x ++ flat_map (settled r (marks notes)) rest) (marks_are notes x)
    ∙ ap (λ l. taken_errors r (is_named x notes) s x ++ l) (settled_are r notes rest)

pub all_settled : (r : Resolution) (notes list seen : List Finding) (flags : List Bool) (back errors : List ModeError) → seen ≡ notes → list ≡ notes → flags ≡ marks seen
    → reverse back ≡ flat_map (settled r flags) list → errors ≡ reverse back → errors ≡ errors_of r notes
all_settled r notes list seen flags back errors seen_is list_is flags_is back_is errors_is =
    errors_is ∙ back_is ∙ ap (λ f. flat_map (settled r f) list) (flags_is ∙ ap marks seen_is) ∙ ap (λ l. flat_map (settled r (marks notes)) l) list_is ∙ settled_are r notes notes
