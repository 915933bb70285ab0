-- The plain reader answers what the lines say, and else the first line at fault.
use Rattle.sharc_schedule.proofs.{Imports.{◌≡◌, ◌≢◌, ℕ, suc, ◌+◌, ◌<◌, ◌≤◌, ◌^◌, Bool, true, false, List, [], ◌∷◌, ◌++◌, Option, Some, None, length, map, take, decimal, refl, sym, ap, ◌∙◌, subst, arith, if◌then◌else◌, decimal_is_IsNumeral, Result, Ok, Err, bytes_eq, place_line, text_line, IsPlace, ArePlaces, place_read, after_word, with_place, read_places, if_no, bytes_same}, Numbers.{bytes_differ, decimal_lacks_blank, word_after, place_sound, place_complete}}

-- what a result is
abbrev pub Same : (A : Type 0) → Result A ℕ → Result A ℕ → Type 0
Same A a b = a ≡ b

pub err_not_ok : {A : Type 0} (n : ℕ) (x : A) → Same A (Err n) (Ok x) → ⊥
err_not_ok n x e = cc

pub ok_is : {A : Type 0} (x y : A) → Same A (Ok x) (Ok y) → x ≡ y
ok_is x y e = cc

pub err_is : (A : Type 0) (a b : ℕ) → Same A (Err a) (Err b) → a ≡ b
err_is A a b e = cc

-- ---- places
-- no place is the line of the text
pub place_not_text : (place : ℕ × ℕ) → IsPlace place → place_line place ≢ text_line
place_not_text place is e =
    let most_a = is.0 in
    let most_b = is.2 in
    let small_a : place.0 < 2 ^ 64 = omega arith in
    let small_b : place.1 < 2 ^ 64 = omega arith in
    let some = (decimal_is_IsNumeral place.1 small_b).0.0 in
    let none : decimal place.1 ≡ [] = sym (word_after (decimal place.0) (decimal place.1) (decimal_lacks_blank place.0 small_a)) ∙ ap after_word e in
    let h : length (decimal place.1) ≡ 0 = ap length none in omega arith

abbrev pub PlacesAre : List (List ℕ) → List (ℕ × ℕ) → Type 0
PlacesAre lines places = (text : List (List ℕ)) × (lines ≡ map place_line places ++ text_line ∷ text) × ArePlaces places

pub places_sound : (lines : List (List ℕ)) (n : ℕ) (places : List (ℕ × ℕ)) → read_places lines n ≡ Ok places → PlacesAre lines places
places_sound [] n places e = absurd (err_not_ok n places e)
places_sound (line ∷ lines) n places e = by (bytes_eq line text_line) refl e (places_sound lines (n + 1)) where
  by : (b : Bool) → bytes_eq line text_line ≡ b → (if b then Ok [] else with_place (place_read line) n (read_places lines (n + 1))) ≡ Ok places
      → ((more : List (ℕ × ℕ)) → read_places lines (n + 1) ≡ Ok more → PlacesAre lines more) → PlacesAre (line ∷ lines) places
  by true is e r =
      let none : List (ℕ × ℕ) = [] in
      subst (λ ps. PlacesAre (line ∷ lines) ps) (ok_is none places e) (lines, ap (λ l. l ∷ lines) (bytes_same line text_line is), tt)
  by false is e r = one (place_read line) refl (read_places lines (n + 1)) refl e where
    one : (o : Option (ℕ × ℕ)) → place_read line ≡ o → (rest : Result (List (ℕ × ℕ)) ℕ) → read_places lines (n + 1) ≡ rest → with_place o n rest ≡ Ok places → PlacesAre (line ∷ lines) places
    one None p rest q e = absurd (err_not_ok n places e)
    one (Some place) p (Err fault) q e = absurd (err_not_ok fault places e)
    one (Some place) p (Ok more) q e =
        let first = place_sound line place p in
        let later = r more q in
        subst (λ ps. PlacesAre (line ∷ lines) ps) (ok_is (place ∷ more) places e)
        (later.0, ap (λ l. l ∷ lines) first.0 ∙ ap (λ ls. place_line place ∷ ls) later.1, (first.1, later.2))

pub places_complete : (places : List (ℕ × ℕ)) (text : List (List ℕ)) (n : ℕ) → ArePlaces places → read_places (map place_line places ++ text_line ∷ text) n ≡ Ok places
places_complete [] text n are = refl
places_complete (place ∷ places) text n are =
    let rest : List (List ℕ) = map place_line places ++ text_line ∷ text in
    let none : List (ℕ × ℕ) = [] in
    if_no (bytes_eq (place_line place) text_line) (Ok none) (with_place (place_read (place_line place)) n (read_places rest (n + 1))) (bytes_differ (place_line place) text_line (place_not_text place are.0))
    ∙ (ap (λ o. with_place o n (read_places rest (n + 1))) (place_complete place are.0) ∙ ap (λ r. with_place (Some place) n r) (places_complete places text (n + 1) are.1))

-- ---- faults
-- a reader of lines answers this fault: it is that of a line after lines that it reads to the end with others after them, and it
-- answers it of all lines that begin so
pub record Faults {A : Type 0} (read : List (List ℕ) → ℕ → Result A ℕ) (lines : List (List ℕ)) (n k : ℕ) : Type 0 where
  pub i : ℕ
  pub k_is : k ≡ n + i
  pub within : i ≤ length lines
  pub more : List (List ℕ)
  pub answer : A
  pub before : read (take i lines ++ more) n ≡ Ok answer
  pub here : i < length lines → (others : List (List ℕ)) → read (take (suc i) lines ++ others) n ≡ Err k

-- it is that of the first line, or of none
pub first_fault : {A : Type 0} (read : List (List ℕ) → ℕ → Result A ℕ) (lines : List (List ℕ)) (n k : ℕ) (more : List (List ℕ)) (answer : A) → Same A (Err n) (Err k) → read more n ≡ Ok answer
    → (0 < length lines → (others : List (List ℕ)) → read (take 1 lines ++ others) n ≡ Err k) → Faults read lines n k
first_fault {A} read lines n k more answer e before here = record { i = 0; k_is = sym (err_is A n k e) ∙ omega arith; within = omega arith; more = more; answer = answer; before = before; here = here }

pub places_fault : (lines : List (List ℕ)) (n k : ℕ) → read_places lines n ≡ Err k → Faults read_places lines n k
places_fault [] n k e = first_fault read_places [] n k (text_line ∷ []) [] e refl (λ lt. absurd (omega arith))
places_fault (line ∷ lines) n k e = by (bytes_eq line text_line) refl e (places_fault lines (n + 1)) where
  by : (b : Bool) → bytes_eq line text_line ≡ b → (if b then Ok [] else with_place (place_read line) n (read_places lines (n + 1))) ≡ Err k
      → ((f : ℕ) → read_places lines (n + 1) ≡ Err f → Faults read_places lines (n + 1) f) → Faults read_places (line ∷ lines) n k
  by true is e r = let none : List (ℕ × ℕ) = [] in absurd (err_not_ok k none (sym e))
  by false is e r = one (place_read line) refl (read_places lines (n + 1)) refl e where
    step : (others : List (List ℕ)) → read_places (line ∷ others) n ≡ with_place (place_read line) n (read_places others (n + 1))
    step others = let none : List (ℕ × ℕ) = [] in if_no (bytes_eq line text_line) (Ok none) (with_place (place_read line) n (read_places others (n + 1))) is

    one : (o : Option (ℕ × ℕ)) → place_read line ≡ o → (rest : Result (List (ℕ × ℕ)) ℕ) → read_places lines (n + 1) ≡ rest → with_place o n rest ≡ Err k → Faults read_places (line ∷ lines) n k
    one None p rest q e = first_fault read_places (line ∷ lines) n k (text_line ∷ []) [] e refl (λ lt others. step others ∙ (ap (λ o. with_place o n (read_places others (n + 1))) p ∙ e))
    one (Some place) p (Ok more) q e = absurd (err_not_ok k (place ∷ more) (sym e))
    one (Some place) p (Err f) q e =
        let same : f ≡ k = err_is (List (ℕ × ℕ)) f k e in
        let later = r f q in
        let is_k = later.k_is in
        let inside = later.within in record {
          i = suc later.i;
          k_is = sym same ∙ (is_k ∙ omega arith);
          within = omega arith;
          more = later.more;
          answer = place ∷ later.answer;
          before = step (take later.i lines ++ later.more) ∙ (ap (λ o. with_place o n (read_places (take later.i lines ++ later.more) (n + 1))) p ∙ ap (λ x. with_place (Some place) n x) later.before);
          here = λ lt others.
              step (take (suc later.i) lines ++ others)
              ∙ (ap (λ o. with_place o n (read_places (take (suc later.i) lines ++ others) (n + 1))) p
              ∙ (ap (λ x. with_place (Some place) n x) (later.here (omega arith) others) ∙ ap Err same));
        }
