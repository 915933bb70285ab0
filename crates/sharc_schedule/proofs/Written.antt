-- What was written has the lines of its parts.
use Rattle.sharc_schedule.proofs.{Imports.{◌≡◌, ℕ, ◌<◌, ◌^◌, ◌==◌, Bool, true, false, List, [], ◌∷◌, ◌++◌, map, decimal, refl, sym, ap, ◌∙◌, subst, arith, append_assoc, ne_eqb, eqb-true, begin_with, lines_in, place_line, places_text, schedule_line, schedule_word, text_line, joined_by, NoneBegins, HoldsNoSchedule, IsPlace, ArePlaces, AreNumbers, WrittenIsRead, if_no, if_yes}, Numbers.{Lacks, lacks-append, decimal_lacks_newline}}

pub one_line : (line rest : List ℕ) → Lacks 10 line → lines_in (line ++ 10 ∷ rest) ≡ line ∷ lines_in rest
one_line [] rest h = refl
one_line (b ∷ line) rest h =
    if_no (b == 10) ([] ∷ lines_in (line ++ 10 ∷ rest)) (begin_with b (lines_in (line ++ 10 ∷ rest))) (ne_eqb b 10 h.0) ∙ ap (begin_with b) (one_line line rest h.1)

-- a source in lines
record Cut (source : List ℕ) : Type 0 where
  first : List ℕ
  others : List (List ℕ)
  joined : joined_by first others ≡ source
  lines : (rest : List ℕ) → lines_in (source ++ 10 ∷ rest) ≡ (first ∷ others) ++ lines_in rest

joined_first : (b : ℕ) (first : List ℕ) (others : List (List ℕ)) → joined_by (b ∷ first) others ≡ b ∷ joined_by first others
joined_first b first [] = refl
joined_first b first (line ∷ lines) = refl

cut : (source : List ℕ) → Cut source
cut [] = record { first = []; others = []; joined = refl; lines = λ rest. refl }
cut (b ∷ source) = by (b == 10) refl (cut source) where
  by : (t : Bool) → (b == 10) ≡ t → Cut source → Cut (b ∷ source)
  by true e c = record {
    first = [];
    others = c.first ∷ c.others;
    joined = (λ i. sym (eqb-true b 10 e) i ∷ c.joined i);
    lines = λ rest. if_yes (b == 10) ([] ∷ lines_in (source ++ 10 ∷ rest)) (begin_with b (lines_in (source ++ 10 ∷ rest))) e ∙ ap (λ ls. [] ∷ ls) (c.lines rest);
  }
  by false e c = record {
    first = b ∷ c.first;
    others = c.others;
    joined = joined_first b c.first c.others ∙ ap (λ s. b ∷ s) c.joined;
    lines = λ rest. if_no (b == 10) ([] ∷ lines_in (source ++ 10 ∷ rest)) (begin_with b (lines_in (source ++ 10 ∷ rest))) e ∙ ap (begin_with b) (c.lines rest);
  }

joined_after : (word rest : List ℕ) (lines : List (List ℕ)) → joined_by (word ++ rest) lines ≡ word ++ joined_by rest lines
joined_after word rest [] = refl
joined_after word rest (line ∷ lines) = append_assoc word rest (10 ∷ joined_by line lines)

none_begins : (first : List ℕ) (others : List (List ℕ)) → HoldsNoSchedule (joined_by first others) → NoneBegins others
none_begins first [] holds = tt
none_begins first (line ∷ lines) holds = (
  (λ begins. holds first (joined_by begins.0 lines) (ap (λ s. first ++ 10 ∷ s) (ap (λ l. joined_by l lines) begins.1 ∙ joined_after schedule_word begins.0 lines))),
  none_begins line lines (λ before after e. holds (first ++ 10 ∷ before) after (ap (λ s. first ++ 10 ∷ s) e ∙ sym (append_assoc first (10 ∷ before) (10 ∷ (schedule_word ++ after))))),
)

schedule_lacks : (heap limit : ℕ) → AreNumbers heap limit → Lacks 10 (schedule_line heap limit)
schedule_lacks heap limit are =
    let most_a = are.most in
    let most_b = are.few in
    let a : heap < 2 ^ 64 = omega arith in
    let b : limit < 2 ^ 64 = omega arith in
    lacks-append 10 schedule_word (decimal heap ++ 32 ∷ decimal limit) word
    (lacks-append 10 (decimal heap) (32 ∷ decimal limit) (decimal_lacks_newline heap a) ((λ e. omega arith), decimal_lacks_newline limit b)) where
      word : Lacks 10 schedule_word
      word = ((λ e. omega arith), ((λ e. omega arith), ((λ e. omega arith), ((λ e. omega arith), ((λ e. omega arith), ((λ e. omega arith), ((λ e. omega arith), ((λ e. omega arith), ((λ e. omega arith), ((λ e. omega arith), ((λ e. omega arith), tt)))))))))))

place_lacks : (place : ℕ × ℕ) → IsPlace place → Lacks 10 (place_line place)
place_lacks place is =
    let most_a = is.0 in
    let most_b = is.2 in
    let a : place.0 < 2 ^ 64 = omega arith in
    let b : place.1 < 2 ^ 64 = omega arith in
    lacks-append 10 (decimal place.0) (32 ∷ decimal place.1) (decimal_lacks_newline place.0 a) ((λ e. omega arith), decimal_lacks_newline place.1 b)

places_lines : (places : List (ℕ × ℕ)) (rest : List ℕ) → ArePlaces places → lines_in (places_text places ++ rest) ≡ map place_line places ++ lines_in rest
places_lines [] rest are = refl
places_lines (place ∷ places) rest are =
    ap lines_in (append_assoc (place_line place) (10 ∷ places_text places) rest)
    ∙ (one_line (place_line place) (places_text places ++ rest) (place_lacks place are.0) ∙ ap (λ ls. place_line place ∷ ls) (places_lines places rest are.1))

pub again : WrittenIsRead
again file text holds numbers are =
    let c = cut file.source in
    let tail : List ℕ = places_text file.places ++ (text_line ++ 10 ∷ text) in record {
      first = c.first;
      others = c.others;
      text = lines_in text;
      lines_are =
          c.lines (schedule_line file.heap file.limit ++ 10 ∷ tail)
          ∙ ap (λ ls. (c.first ∷ c.others) ++ ls)
          (one_line (schedule_line file.heap file.limit) tail (schedule_lacks file.heap file.limit numbers)
          ∙ ap (λ ls. schedule_line file.heap file.limit ∷ ls) (places_lines file.places (text_line ++ 10 ∷ text) are));
      source_is = sym c.joined;
      others_are = none_begins c.first c.others (subst HoldsNoSchedule (sym c.joined) holds);
      numbers = numbers;
      places = are;
    }
