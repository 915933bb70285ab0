-- At each place one mismatch of modes at most: each is reported of a giving, at its first token.
use Rattle.sharc_suggest_laws.proofs.{Imports.{◌≡◌, ℕ, ◌+◌, ◌≤◌, ◌==◌, Bool, true, false, cond, List, [], ◌∷◌, ◌++◌, length, Option, Some, None, refl, ap, ◌∙◌, arith, flat_map, filter, Base, Span, span_of, Expression, Resolution, kind_at, ModeMismatch, NamedByLockPath, ModeError, Finding, Wrong, Names, Takes, Assignment, agree, agree_notes, base_of, error_where, error_of, errors_by, is_named, mismatch, shown, modes_at, Sharing, same_all, text_at, is_mismatch_at, OneMismatch, count_of, met_by, met_in_items, begins_at, Giving, items_givings, wanted, least}, Agreed.{told_of, told_in}, Beside.{in_program, items_counted}, Counted.counted, Spread.values_begin_apart, Quiet.{one, ones}}
use Rattle.sharc_mode.specs.WellModed.{notes_about}

-- ---- of a value: one at its first token

one_by : (b : Bool) → cond b 1 0 + 0 ≤ count_of b
one_by true = let fits : 1 + 0 ≤ 1 = omega arith in fits
one_by false = let fits : 0 + 0 ≤ 0 = omega arith in fits

unless_by : (t : ℕ) (r : Resolution) (s : Span) (b : Base) (want found : List Sharing) (same : Bool) → ones t (cond same [] (mismatch ModeMismatch s (shown r b want) (shown r b found) ∷ [])) ≤ count_of (s.first.token == t)
unless_by t r s b want found true = least (count_of (s.first.token == t))
unless_by t r s b want found false = one_by (s.first.token == t)

agree_by : (t : ℕ) (r : Resolution) (s : Span) (b : Base) (want found : Option (List Sharing)) → ones t (agree r s b want found) ≤ count_of (s.first.token == t)
agree_by t r s b None found = least (count_of (s.first.token == t))
agree_by t r s b (Some w) None = least (count_of (s.first.token == t))
agree_by t r s b (Some w) (Some f) = unless_by t r s b w f (same_all r w f)

pub at_value : (t : ℕ) (m : Assignment) (want : Option (List Sharing)) (e : Expression) → ones t (agree_notes m want e) ≤ met_by (begins_at t) e
at_value t m want e = agree_by t m.typed (span_of e) (base_of (kind_at m.typed e)) want (modes_at m e)

pub told_few : (t : ℕ) (m : Assignment) (gs : List Giving) → told_in t m gs ≤ counted (begins_at t) gs
told_few t m [] = least 0
told_few t m (g ∷ rest) =
    let here : told_of t m g ≤ met_by (begins_at t) g.given = at_value t m (wanted m g.receiver) g.given in
    let more : told_in t m rest ≤ counted (begins_at t) rest = told_few t m rest in
    let sum : told_of t m g + told_in t m rest ≤ met_by (begins_at t) g.given + counted (begins_at t) rest = omega (arith, here, more) in
    sum

-- ---- of a program

-- how many of the errors are mismatches there
abbrev pub told_at : ℕ → List ModeError → ℕ
told_at t errors = length (filter (is_mismatch_at t) errors)

filter_by : (b : Bool) (e : ModeError) (rest : List ModeError) → length (cond b (e ∷ rest) rest) ≡ cond b 1 0 + length rest
filter_by true e rest = let more : length (e ∷ rest) ≡ 1 + length rest = omega arith in more
filter_by false e rest = let same : length rest ≡ 0 + length rest = omega arith in same

told_more : (t : ℕ) (e : ModeError) (rest : List ModeError) → told_at t (e ∷ rest) ≡ cond (is_mismatch_at t e) 1 0 + told_at t rest
told_more t e rest = filter_by (is_mismatch_at t e) e (filter (is_mismatch_at t) rest)

told_append : (t : ℕ) (xs ys : List ModeError) → told_at t (xs ++ ys) ≡ told_at t xs + told_at t ys
told_append t [] ys = let same : told_at t ys ≡ 0 + told_at t ys = omega arith in same
told_append t (e ∷ xs) ys =
    let here : told_at t (e ∷ (xs ++ ys)) ≡ cond (is_mismatch_at t e) 1 0 + told_at t (xs ++ ys) = told_more t e (xs ++ ys) in
    let more : told_at t (xs ++ ys) ≡ told_at t xs + told_at t ys = told_append t xs ys in
    let first : told_at t (e ∷ xs) ≡ cond (is_mismatch_at t e) 1 0 + told_at t xs = told_more t e xs in
    let sum : told_at t (e ∷ (xs ++ ys)) ≡ told_at t (e ∷ xs) + told_at t ys = omega (arith, here, more, first) in
    sum

taken_by : (t : ℕ) (r : Resolution) (s : Span) (x : ℕ) (b : Bool) → told_at t (flat_map error_of (error_where b NamedByLockPath s (text_at r x))) ≡ 0
taken_by t r s x true = refl
taken_by t r s x false = refl

told_note : (t : ℕ) (r : Resolution) (all : List Finding) (n : Finding) → told_at t (errors_by r all n) ≡ one t n
told_note t r all (Wrong e) =
    let here : told_at t (e ∷ []) ≡ cond (is_mismatch_at t e) 1 0 + 0 = told_more t e [] in
    let same : told_at t (e ∷ []) ≡ cond (is_mismatch_at t e) 1 0 = omega (arith, here) in
    same
told_note t r all (Names x) = refl
told_note t r all (Takes s x) = taken_by t r s x (is_named x all)

pub told_all : (t : ℕ) (r : Resolution) (all notes : List Finding) → told_at t (flat_map (errors_by r all) notes) ≡ ones t notes
told_all t r all [] = refl
told_all t r all (n ∷ rest) =
    let both : told_at t (errors_by r all n ++ flat_map (errors_by r all) rest) ≡ told_at t (errors_by r all n) + told_at t (flat_map (errors_by r all) rest) = told_append t (errors_by r all n) (flat_map (errors_by r all) rest) in
    let here : told_at t (errors_by r all n) ≡ one t n = told_note t r all n in
    let more : told_at t (flat_map (errors_by r all) rest) ≡ ones t rest = told_all t r all rest in
    let sum : told_at t (errors_by r all n ++ flat_map (errors_by r all) rest) ≡ one t n + ones t rest = omega (arith, both, here, more) in
    sum

pub one_mismatch : OneMismatch
one_mismatch m errors placed says t =
    let notes : List Finding = notes_about m says.touched in
    let gs : List Giving = items_givings m.typed.program.items in
    let told : told_at t errors ≡ ones t notes = ap (told_at t) says.are ∙ told_all t m.typed notes notes in
    let of_all : ones t notes ≡ told_in t m gs = in_program t m says.touched in
    let few : told_in t m gs ≤ counted (begins_at t) gs = told_few t m gs in
    let many : met_in_items (begins_at t) m.typed.program.items ≡ counted (begins_at t) gs = items_counted m (begins_at t) m.typed.program.items in
    let most : met_in_items (begins_at t) m.typed.program.items ≤ 1 = values_begin_apart m.typed.program placed t in
    omega (arith, told, of_all, few, many, most)
