-- The plain reader on whole files.
use Rattle.sharc_schedule.proofs.{Imports.{◌≡◌, ℕ, suc, ◌+◌, ◌-◌, List, [], ◌∷◌, ◌++◌, Option, Some, None, map, take, decimal, refl, sym, ap, ◌∙◌, subst, arith, append_assoc, Result, Ok, Err, FileView, place_line, schedule_line, schedule_word, text_line, joined_by, NoneBegins, ArePlaces, AreNumbers, AreLinesOf, numbers_in, rest_after, read_places, with_places, at_schedule, read_source, read_lines, ReadsFiles, ReadsAll, ReadsFaults}, Numbers.{numbers_sound, numbers_complete, rest_after_sound, rest_after_complete, rest_after_none, none_after}, PlaceLines.{err_not_ok, ok_is, err_is, PlacesAre, places_sound, places_complete, Faults, first_fault, places_fault}}

joined_more : (a b : List ℕ) (lines : List (List ℕ)) → joined_by (a ++ 10 ∷ b) lines ≡ a ++ 10 ∷ joined_by b lines
joined_more a b [] = refl
joined_more a b (line ∷ lines) = append_assoc a (10 ∷ b) (10 ∷ joined_by line lines)

abbrev file_of : List ℕ → ℕ → ℕ → List (ℕ × ℕ) → FileView
file_of source heap limit places = record { source = source; heap = heap; limit = limit; places = places }

-- the lines after a source so far
pub record Behind (source : List ℕ) (lines : List (List ℕ)) (file : FileView) : Type 0 where
  pub others : List (List ℕ)
  pub text : List (List ℕ)
  pub lines_are : lines ≡ others ++ schedule_line file.heap file.limit ∷ (map place_line file.places ++ text_line ∷ text)
  pub source_is : file.source ≡ joined_by source others
  pub others_are : NoneBegins others
  pub numbers : AreNumbers file.heap file.limit
  pub places : ArePlaces file.places

at_once : (source line rest : List ℕ) (lines : List (List ℕ)) (numbers : ℕ × ℕ) (places : List (ℕ × ℕ)) → line ≡ schedule_word ++ rest → numbers_in rest ≡ Some numbers → PlacesAre lines places
    → Behind source (line ∷ lines) (file_of source numbers.0 numbers.1 places)
at_once source line rest lines numbers places word is are =
    let both = numbers_sound rest numbers is in record {
      others = [];
      text = are.0;
      lines_are = ap (λ l. l ∷ lines) (word ∙ ap (λ r. schedule_word ++ r) both.0) ∙ ap (λ ls. schedule_line numbers.0 numbers.1 ∷ ls) are.1;
      source_is = refl;
      others_are = tt;
      numbers = both.1;
      places = are.2;
    }

pub source_sound : (source : List ℕ) (lines : List (List ℕ)) (n : ℕ) (file : FileView) → read_source source lines n ≡ Ok file → Behind source lines file
source_sound source [] n file e = absurd (err_not_ok n file e)
source_sound source (line ∷ lines) n file e = by (rest_after schedule_word line) refl e (source_sound (source ++ 10 ∷ line) lines (n + 1) file) where
  by : (o : Option (List ℕ)) → rest_after schedule_word line ≡ o → at_schedule o source lines n (read_source (source ++ 10 ∷ line) lines (n + 1)) ≡ Ok file
      → (read_source (source ++ 10 ∷ line) lines (n + 1) ≡ Ok file → Behind (source ++ 10 ∷ line) lines file) → Behind source (line ∷ lines) file
  by None is e r = let later = r e in record {
    others = line ∷ later.others;
    text = later.text;
    lines_are = ap (λ ls. line ∷ ls) later.lines_are;
    source_is = later.source_is ∙ joined_more source line later.others;
    others_are = (rest_after_none schedule_word line is, later.others_are);
    numbers = later.numbers;
    places = later.places;
  }
  by (Some rest) is e r = one (numbers_in rest) refl (read_places lines (n + 1)) refl e where
    one : (o : Option (ℕ × ℕ)) → numbers_in rest ≡ o → (p : Result (List (ℕ × ℕ)) ℕ) → read_places lines (n + 1) ≡ p → with_places source o n p ≡ Ok file → Behind source (line ∷ lines) file
    one None o p q e = absurd (err_not_ok n file e)
    one (Some numbers) o (Err f) q e = absurd (err_not_ok f file e)
    one (Some numbers) o (Ok places) q e =
        subst (λ f. Behind source (line ∷ lines) f) (ok_is (file_of source numbers.0 numbers.1 places) file e)
        (at_once source line rest lines numbers places (rest_after_sound schedule_word line rest is) o (places_sound lines (n + 1) places q))

pub source_complete : (source : List ℕ) (others text : List (List ℕ)) (n heap limit : ℕ) (places : List (ℕ × ℕ)) → NoneBegins others → AreNumbers heap limit → ArePlaces places
    → read_source source (others ++ schedule_line heap limit ∷ (map place_line places ++ text_line ∷ text)) n ≡ Ok (file_of (joined_by source others) heap limit places)
source_complete source [] text n heap limit places none numbers are =
    let lines : List (List ℕ) = map place_line places ++ text_line ∷ text in
    let later : Result FileView ℕ = read_source (source ++ 10 ∷ schedule_line heap limit) lines (n + 1) in
    ap (λ o. at_schedule o source lines n later) (rest_after_complete schedule_word (decimal heap ++ 32 ∷ decimal limit))
    ∙ (ap (λ o. with_places source o n (read_places lines (n + 1))) (numbers_complete heap limit numbers)
    ∙ ap (λ p. with_places source (Some (heap, limit)) n p) (places_complete places text (n + 1) are))
source_complete source (line ∷ others) text n heap limit places none numbers are =
    let lines : List (List ℕ) = others ++ schedule_line heap limit ∷ (map place_line places ++ text_line ∷ text) in
    ap (λ o. at_schedule o source lines n (read_source (source ++ 10 ∷ line) lines (n + 1))) (none_after schedule_word line none.0)
    ∙ (source_complete (source ++ 10 ∷ line) others text (n + 1) heap limit places none.1 numbers are
    ∙ ap (λ s. let r : Result FileView ℕ = Ok (file_of s heap limit places) in r) (joined_more source line others))

least_numbers : AreNumbers 16 1
least_numbers = record { least = omega arith; most = omega arith; some = omega arith; few = omega arith }

-- what a source so far may be continued with
abbrev ending : List (List ℕ)
ending = schedule_line 16 1 ∷ text_line ∷ []

pub source_fault : (source : List ℕ) (lines : List (List ℕ)) (n k : ℕ) → read_source source lines n ≡ Err k → Faults (λ ls m. read_source source ls m) lines n k
source_fault source [] n k e = first_fault (λ ls m. read_source source ls m) [] n k ending (file_of source 16 1 []) e (source_complete source [] [] n 16 1 [] tt least_numbers tt) (λ lt. absurd (omega arith))
source_fault source (line ∷ lines) n k e = by (rest_after schedule_word line) refl e (source_fault (source ++ 10 ∷ line) lines (n + 1) k) where
  by : (o : Option (List ℕ)) → rest_after schedule_word line ≡ o → at_schedule o source lines n (read_source (source ++ 10 ∷ line) lines (n + 1)) ≡ Err k
      → (read_source (source ++ 10 ∷ line) lines (n + 1) ≡ Err k → Faults (λ ls m. read_source (source ++ 10 ∷ line) ls m) lines (n + 1) k) → Faults (λ ls m. read_source source ls m) (line ∷ lines) n k
  by None is e r =
      let later = r e in
      let is_k = later.k_is in
      let inside = later.within in record {
        i = suc later.i;
        k_is = is_k ∙ omega arith;
        within = omega arith;
        more = later.more;
        answer = later.answer;
        before = ap (λ o. at_schedule o source (take later.i lines ++ later.more) n (read_source (source ++ 10 ∷ line) (take later.i lines ++ later.more) (n + 1))) is ∙ later.before;
        here = λ lt others.
            ap (λ o. at_schedule o source (take (suc later.i) lines ++ others) n (read_source (source ++ 10 ∷ line) (take (suc later.i) lines ++ others) (n + 1))) is
            ∙ later.here (omega arith) others;
      }
  by (Some rest) is e r = one (numbers_in rest) refl (read_places lines (n + 1)) refl e where
    step : (others : List (List ℕ)) → read_source source (line ∷ others) n ≡ with_places source (numbers_in rest) n (read_places others (n + 1))
    step others = ap (λ o. at_schedule o source others n (read_source (source ++ 10 ∷ line) others (n + 1))) is

    one : (o : Option (ℕ × ℕ)) → numbers_in rest ≡ o → (p : Result (List (ℕ × ℕ)) ℕ) → read_places lines (n + 1) ≡ p → with_places source o n p ≡ Err k → Faults (λ ls m. read_source source ls m) (line ∷ lines) n k
    one None o p q e = first_fault (λ ls m. read_source source ls m) (line ∷ lines) n k ending (file_of source 16 1 []) e (source_complete source [] [] n 16 1 [] tt least_numbers tt)
        (λ lt others. step others ∙ (ap (λ x. with_places source x n (read_places others (n + 1))) o ∙ e))
    one (Some numbers) o (Ok places) q e = absurd (err_not_ok k (file_of source numbers.0 numbers.1 places) (sym e))
    one (Some numbers) o (Err f) q e =
        let same : f ≡ k = err_is FileView f k e in
        let later = places_fault lines (n + 1) f q in
        let is_k = later.k_is in
        let inside = later.within in record {
          i = suc later.i;
          k_is = sym same ∙ (is_k ∙ omega arith);
          within = omega arith;
          more = later.more;
          answer = file_of source numbers.0 numbers.1 later.answer;
          before = step (take later.i lines ++ later.more) ∙ (ap (λ x. with_places source x n (read_places (take later.i lines ++ later.more) (n + 1))) o ∙ ap (λ p. with_places source (Some numbers) n p) later.before);
          here = λ lt others.
              step (take (suc later.i) lines ++ others)
              ∙ (ap (λ x. with_places source x n (read_places (take (suc later.i) lines ++ others) (n + 1))) o
              ∙ (ap (λ p. with_places source (Some numbers) n p) (later.here (omega arith) others) ∙ ap (λ x. let r : Result FileView ℕ = Err x in r) same));
        }

-- ---- whole files
pub reads : ReadsFiles
reads [] file e = absurd (err_not_ok 1 file e)
reads (first ∷ lines) file e = let b = source_sound first lines 2 file e in record {
  first = first;
  others = b.others;
  text = b.text;
  lines_are = ap (λ ls. first ∷ ls) b.lines_are;
  source_is = b.source_is;
  others_are = b.others_are;
  numbers = b.numbers;
  places = b.places;
}

pub reads_all : ReadsAll
reads_all lines file are =
    ap read_lines are.lines_are
    ∙ (source_complete are.first are.others are.text 2 file.heap file.limit file.places are.others_are are.numbers are.places
    ∙ ap (λ s. let r : Result FileView ℕ = Ok (file_of s file.heap file.limit file.places) in r) (sym are.source_is))

least_file : AreLinesOf ([] ∷ ending) (file_of [] 16 1 [])
least_file = record { first = []; others = []; text = []; lines_are = refl; source_is = refl; others_are = tt; numbers = least_numbers; places = tt }

not_both : (lines : List (List ℕ)) (k : ℕ) (file : FileView) → read_lines lines ≡ Err k → ¬ AreLinesOf lines file
not_both lines k file e are = err_not_ok k file (sym e ∙ reads_all lines file are)

pub faults : ReadsFaults
faults [] n e =
    let one : 1 ≡ n = err_is FileView 1 n e in record {
      some = omega arith;
      within = omega arith;
      before = ([] ∷ ending, file_of [] 16 1 [], subst (λ k. AreLinesOf (take (k - 1) [] ++ ([] ∷ ending)) (file_of [] 16 1 [])) one least_file);
      here = λ lt. absurd (omega arith);
      none = λ file. not_both [] n file e;
    }
faults (first ∷ lines) n e =
    let f = source_fault first lines 2 n e in
    let is_n = f.k_is in
    let inside = f.within in
    let before : n - 1 ≡ suc f.i = omega arith in
    let here : n ≡ suc (suc f.i) = omega arith in record {
      some = omega arith;
      within = omega arith;
      before = (f.more, f.answer, subst (λ k. AreLinesOf (take k (first ∷ lines) ++ f.more) f.answer) (sym before) (reads (first ∷ (take f.i lines ++ f.more)) f.answer f.before));
      here = λ lt continues.
          let all : AreLinesOf (take (suc (suc f.i)) (first ∷ lines) ++ continues.0) continues.1 = subst (λ k. AreLinesOf (take k (first ∷ lines) ++ continues.0) continues.1) here continues.2 in
          not_both (first ∷ (take (suc f.i) lines ++ continues.0)) n continues.1 (f.here (omega arith) continues.0) all;
      none = λ file. not_both (first ∷ lines) n file e;
    }
