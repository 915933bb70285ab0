-- Lines of bytes from a place on.
use Rattle.sharc_schedule.proofs.{Imports.{◌≡◌, ◌≢◌, ℕ, zero, suc, ◌+◌, ◌-◌, ◌<◌, ◌≤◌, ◌==◌, ◌⊎◌, ⊎_elim, List, [], ◌∷◌, ◌++◌, length, get_or, take, drop, decimal, refl, sym, ap, ◌∙◌, subst, arith, ne_eqb, length-drop, take-append-drop, take-suc, take-add, drop-nil, drop-cons, get_or-drop, take_rest, drop_all, length-decimal-le, decimal_is_IsNumeral, digit_from_value, AllDigits, digit_value, None, Result, Ok, Err, begin_with, lines_in, schedule_word, rest_after, at_schedule, read_source, read_lines, if_no}, Numbers.{Lacks, lacks-append}, Written.one_line}

-- ---- words that are no numbers
pub too_long : (word : List ℕ) (n : ℕ) → 10 < length word → n ≤ 4294967295 → word ≢ decimal n
too_long word n long small e =
    let few = length-decimal-le 10 n (omega arith) (omega arith) (omega arith) in
    let same : length word ≡ length (decimal n) = ap length e in omega arith

digit_at : (ds : List ℕ) (i : ℕ) → AllDigits 10 ds → i < length ds → digit_value (get_or ds i 0) < 10
digit_at [] i h lt = absurd (omega arith)
digit_at (d ∷ ds) zero h lt = h.0
digit_at (d ∷ ds) (suc i) h lt = digit_at ds i h.1 (omega arith)

pub no_digit : (word : List ℕ) (i n : ℕ) → i < length word → (get_or word i 0 < 48) ⊎ (57 < get_or word i 0) → n ≤ 4294967295 → word ≢ decimal n
no_digit word i n lt bad small e =
    let all = (decimal_is_IsNumeral n (omega arith)).0.1 in
    let here = digit_at word i (subst (λ w. AllDigits 10 w) (sym e) all) lt in
    let range = digit_from_value (get_or word i 0) here in
    let low = range.0 in
    let high = range.1 in
    ⊎_elim (λ less. omega arith) (λ more. omega arith) bad

-- ---- lines
drop_twice : (n m k : ℕ) (l : List ℕ) → n + m ≡ k → drop m (drop n l) ≡ drop k l
drop_twice zero m k l e = ap (λ j. drop j l) (omega arith)
drop_twice (suc n) m k [] e = drop-nil m ∙ sym (drop-nil k)
drop_twice (suc n) m zero (x ∷ xs) e = absurd (omega arith)
drop_twice (suc n) m (suc k) (x ∷ xs) e = drop_twice n m k xs (omega arith)

pub lacks_next : (bytes : List ℕ) (start end : ℕ) → start ≤ end → end < length bytes → get_or bytes end 0 ≢ 10
    → Lacks 10 (take (end - start) (drop start bytes)) → Lacks 10 (take (end + 1 - start) (drop start bytes))
lacks_next bytes start end low high other lacks =
    let rest : List ℕ = drop start bytes in
    let j : ℕ = end - start in
    let inside : j < length rest = omega (arith, length-drop start bytes) in
    let byte : get_or rest j 0 ≡ get_or bytes end 0 = get_or-drop start bytes j 0 ∙ ap (λ k. get_or bytes k 0) (omega arith) in
    let more : end + 1 - start ≡ suc j = omega arith in
    subst (λ xs. Lacks 10 xs) (sym (ap (λ k. take k rest) more ∙ take-suc rest j 0 inside))
    (lacks-append 10 (take j rest) (get_or rest j 0 ∷ []) lacks ((λ e. other (sym byte ∙ e)), tt))

last_line : (line : List ℕ) → Lacks 10 line → 0 < length line → lines_in line ≡ line ∷ []
last_line [] h some = absurd (omega arith)
last_line (b ∷ []) h some = if_no (b == 10) ([] ∷ []) ((b ∷ []) ∷ []) (ne_eqb b 10 h.0)
last_line (b ∷ c ∷ line) h some =
    if_no (b == 10) ([] ∷ lines_in (c ∷ line)) (begin_with b (lines_in (c ∷ line))) (ne_eqb b 10 h.0) ∙ ap (begin_with b) (last_line (c ∷ line) h.1 (omega arith))

pub line_at : (bytes : List ℕ) (start end : ℕ) → start ≤ end → end < length bytes → get_or bytes end 0 ≡ 10 → Lacks 10 (take (end - start) (drop start bytes))
    → lines_in (drop start bytes) ≡ take (end - start) (drop start bytes) ∷ lines_in (drop (end + 1) bytes)
line_at bytes start end low high newline lacks =
    let rest : List ℕ = drop start bytes in
    let j : ℕ = end - start in
    let after : suc end ≡ end + 1 = omega arith in
    let after_it : drop j rest ≡ 10 ∷ drop (end + 1) bytes =
    drop_twice start j end bytes (omega arith) ∙ (drop-cons bytes end 0 high ∙ (ap (λ b. b ∷ drop (suc end) bytes) newline ∙ ap (λ k. 10 ∷ drop k bytes) after)) in
    let split : rest ≡ take j rest ++ 10 ∷ drop (end + 1) bytes = sym (take-append-drop j rest) ∙ ap (λ xs. take j rest ++ xs) after_it in
    ap lines_in split ∙ one_line (take j rest) (drop (end + 1) bytes) lacks

pub line_to_end : (bytes : List ℕ) (start end : ℕ) → start < length bytes → end ≤ length bytes → length bytes ≤ end → Lacks 10 (take (end - start) (drop start bytes))
    → lines_in (drop start bytes) ≡ take (end - start) (drop start bytes) ∷ lines_in (drop (end + 1) bytes)
line_to_end bytes start end low high past lacks =
    let rest : List ℕ = drop start bytes in
    let same : end ≡ length bytes = omega arith in
    let whole : take (end - start) rest ≡ rest = ap (λ e. take (e - start) rest) same ∙ take_rest bytes start in
    let none : drop (end + 1) bytes ≡ [] = drop_all (end + 1) bytes (omega arith) in
    last_line rest (subst (λ xs. Lacks 10 xs) whole lacks) (omega (arith, length-drop start bytes))
    ∙ (ap (λ xs. xs ∷ []) (sym whole) ∙ ap (λ xs. take (end - start) rest ∷ lines_in xs) (sym none))

-- ---- places that were read before
abbrev pub with_front : List (ℕ × ℕ) → Result (List (ℕ × ℕ)) ℕ → Result (List (ℕ × ℕ)) ℕ
with_front front (Ok places) = Ok (front ++ places)
with_front front (Err n) = Err n

-- ---- a source so far
take_on : (bytes : List ℕ) (end next : ℕ) → end < next → next ≤ length bytes → get_or bytes end 0 ≡ 10 → take next bytes ≡ take end bytes ++ 10 ∷ take (next - (end + 1)) (drop (end + 1) bytes)
take_on bytes end next low high newline =
    let more : next ≡ end + suc (next - (end + 1)) = omega arith in
    let after : suc end ≡ end + 1 = omega arith in
    let small : end < length bytes = omega arith in
    ap (λ k. take k bytes) more
    ∙ (take-add end (suc (next - (end + 1))) bytes
    ∙ ap (λ xs. take end bytes ++ xs)
    (ap (λ xs. take (suc (next - (end + 1))) xs) (drop-cons bytes end 0 small)
    ∙ (ap (λ b. b ∷ take (next - (end + 1)) (drop (suc end) bytes)) newline ∙ ap (λ k. 10 ∷ take (next - (end + 1)) (drop k bytes)) after)))

pub source_goes_on : (bytes : List ℕ) (end next n : ℕ) → end < next → next ≤ length bytes → get_or bytes end 0 ≡ 10
    → lines_in (drop (end + 1) bytes) ≡ take (next - (end + 1)) (drop (end + 1) bytes) ∷ lines_in (drop (next + 1) bytes)
    → rest_after schedule_word (take (next - (end + 1)) (drop (end + 1) bytes)) ≡ None
    → read_source (take end bytes) (lines_in (drop (end + 1) bytes)) n ≡ read_source (take next bytes) (lines_in (drop (next + 1) bytes)) (n + 1)
source_goes_on bytes end next n low high newline line other =
    let text : List ℕ = take (next - (end + 1)) (drop (end + 1) bytes) in
    let lines : List (List ℕ) = lines_in (drop (next + 1) bytes) in
    ap (λ ls. read_source (take end bytes) ls n) line
    ∙ (ap (λ o. at_schedule o (take end bytes) lines n (read_source (take end bytes ++ 10 ∷ text) lines (n + 1))) other
    ∙ ap (λ s. read_source s lines (n + 1)) (sym (take_on bytes end next low high newline)))

pub source_ends : (bytes : List ℕ) (end n : ℕ) → length bytes ≤ end + 1 → read_source (take end bytes) (lines_in (drop (end + 1) bytes)) n ≡ Err n
source_ends bytes end n past = ap (λ xs. read_source (take end bytes) (lines_in xs) n) (drop_all (end + 1) bytes past)

pub nothing_read : (bytes : List ℕ) → length bytes ≡ 0 → read_lines (lines_in bytes) ≡ Err 1
nothing_read [] e = refl
nothing_read (b ∷ bytes) e = absurd (omega arith)
