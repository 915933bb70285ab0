-- Histories begin with an event, come in parts, go on, and are determined by their steps.
use Rattle.std.proofs.{Common.{◌≡◌, ℕ, List, [], ◌∷◌, ◌++◌, length, slice_index, refl, sym, ap, ◌∙◌, subst, arith, zero, suc, get_or, take, drop}, Math.Seq.drop-cons, lemmas.List.{take-append-drop, length-set}, lemmas.List.Elements.{All-set, All-take}, lemmas.Nat.{or_lt, and_le_l}, lemmas.List.Sums.fold-append}
use Rattle.std.specs.Prelude.{map, All, ◌==◌, Bool, true, false, if◌then◌else◌}
use Rattle.sharc_word.specs.{declared.step.WordOp.WordOp, declared.step.WordOp.TheVariants.{Load, Swap, Add, Sub, Or, And, Cas}, declared.step.WordStep.WordStep, declared.step.WordEvent.WordEvent, Words.{word_after, words_after_step, words_after, IsWord, IsOfWords}, History.{MayFollow, LegalHistory}}

pub length-words_after : (opening : List ℕ) (events : List WordEvent) → length (words_after opening events) ≡ length opening
length-words_after opening [] = refl
length-words_after opening (e ∷ es) = length-words_after (words_after_step opening e.step) es ∙ length-set opening e.step.word (word_after e.step.op (slice_index opening e.step.word))

pub words_after-append : (opening : List ℕ) (earlier later : List WordEvent) → words_after opening (earlier ++ later) ≡ words_after (words_after opening earlier) later
words_after-append opening earlier later = fold-append (λ now (event : WordEvent). words_after_step now event.step) opening earlier later

-- no event is a legal history
pub legal_none : (opening : List ℕ) → LegalHistory opening []
legal_none opening = record { each = none opening } where
  none : (opening : List ℕ) (earlier later : List WordEvent) (event : WordEvent) → [] ≡ earlier ++ event ∷ later → MayFollow (words_after opening earlier) event
  none opening [] later event is = absurd cc
  none opening (x ∷ xs) later event is = absurd cc

-- the first event of a legal history can come next
pub legal_first : (opening : List ℕ) (e : WordEvent) (es : List WordEvent) → LegalHistory opening (e ∷ es) → MayFollow opening e
legal_first opening e es h = h.each [] es e refl

-- the rest of a legal history is one from the words that the first event leaves
pub legal_rest : (opening : List ℕ) (e : WordEvent) (es : List WordEvent) → LegalHistory opening (e ∷ es) → LegalHistory (words_after_step opening e.step) es
legal_rest opening e es h = record { each = λ earlier later event is. h.each (e ∷ earlier) later event (ap (λ events. e ∷ events) is) }

pub legal_cons : (opening : List ℕ) (e : WordEvent) (es : List WordEvent) → MayFollow opening e → LegalHistory (words_after_step opening e.step) es → LegalHistory opening (e ∷ es)
legal_cons opening e es first rest = record { each = at opening e es first rest } where
  at : (opening : List ℕ) (e : WordEvent) (es : List WordEvent) → MayFollow opening e → LegalHistory (words_after_step opening e.step) es
      → (earlier later : List WordEvent) (event : WordEvent) → e ∷ es ≡ earlier ++ event ∷ later → MayFollow (words_after opening earlier) event
  at opening e es first rest [] later event is = let same : e ≡ event = cc in subst (λ f. MayFollow opening f) same first
  at opening e es first rest (g ∷ earlier) later event is =
      let same : e ≡ g = cc in
      let there : MayFollow (words_after (words_after_step opening e.step) earlier) event = rest.each earlier later event cc in
      subst (λ (f : WordEvent). MayFollow (words_after (words_after_step opening f.step) earlier) event) same there

pub legal_earlier : (opening : List ℕ) (earlier later : List WordEvent) → LegalHistory opening (earlier ++ later) → LegalHistory opening earlier
legal_earlier opening [] later h = legal_none opening
legal_earlier opening (e ∷ es) later h =
    legal_cons opening e es (legal_first opening e (es ++ later) h) (legal_earlier (words_after_step opening e.step) es later (legal_rest opening e (es ++ later) h))

pub legal_later : (opening : List ℕ) (earlier later : List WordEvent) → LegalHistory opening (earlier ++ later) → LegalHistory (words_after opening earlier) later
legal_later opening [] later h = h
legal_later opening (e ∷ es) later h = legal_later (words_after_step opening e.step) es later (legal_rest opening e (es ++ later) h)

pub legal_append : (opening : List ℕ) (earlier later : List WordEvent) → LegalHistory opening earlier → LegalHistory (words_after opening earlier) later → LegalHistory opening (earlier ++ later)
legal_append opening [] later h k = k
legal_append opening (e ∷ es) later h k =
    legal_cons opening e (es ++ later) (legal_first opening e es h) (legal_append (words_after_step opening e.step) es later (legal_rest opening e es h) k)

-- a legal history goes on with an event that can come next
pub legal_push : (opening : List ℕ) (events : List WordEvent) (event : WordEvent) → LegalHistory opening events → MayFollow (words_after opening events) event → LegalHistory opening (events ++ event ∷ [])
legal_push opening events event h may =
    let after : List ℕ = words_after opening events in
    legal_append opening events (event ∷ []) h (legal_cons after event [] may (legal_none (words_after_step after event.step)))

-- and with no other
pub legal_last : (opening : List ℕ) (events : List WordEvent) (event : WordEvent) → LegalHistory opening (events ++ event ∷ []) → MayFollow (words_after opening events) event
legal_last opening events event h = h.each events [] event refl

-- the steps determine the results
pub same_results : (opening : List ℕ) (one other : List WordEvent) → LegalHistory opening one → LegalHistory opening other
    → map (λ (e : WordEvent). e.step) one ≡ map (λ (e : WordEvent). e.step) other → map (λ (e : WordEvent). e.result) one ≡ map (λ (e : WordEvent). e.result) other
same_results opening [] [] h k same = refl
same_results opening [] (y ∷ ys) h k same = absurd cc
same_results opening (x ∷ xs) [] h k same = absurd cc
same_results opening (x ∷ xs) (y ∷ ys) h k same =
    let step : x.step ≡ y.step = cc in
    let first : x.result ≡ y.result =
    (legal_first opening x xs h).result_is ∙ (ap (λ (s : WordStep). slice_index opening s.word) step ∙ sym (legal_first opening y ys k).result_is) in
    let k' : LegalHistory (words_after_step opening x.step) ys = subst (λ (s : WordStep). LegalHistory (words_after_step opening s) ys) (sym step) (legal_rest opening y ys k) in
    let rest = same_results (words_after_step opening x.step) xs ys (legal_rest opening x xs h) k' cc in
    cc

-- and the last words, whatever the results
pub same_words : (opening : List ℕ) (one other : List WordEvent) → map (λ (e : WordEvent). e.step) one ≡ map (λ (e : WordEvent). e.step) other
    → words_after opening one ≡ words_after opening other
same_words opening [] [] same = refl
same_words opening [] (y ∷ ys) same = absurd cc
same_words opening (x ∷ xs) [] same = absurd cc
same_words opening (x ∷ xs) (y ∷ ys) same =
    let step : x.step ≡ y.step = cc in
    let rest = same_words (words_after_step opening x.step) xs ys (cc (same)) in
    rest ∙ ap (λ (s : WordStep). words_after (words_after_step opening s) ys) step

word_of : (words : List ℕ) (i : ℕ) → All IsWord words → IsWord (slice_index words i)
word_of [] i all = omega arith
word_of (x ∷ xs) zero all = all 0 0 (omega arith)
word_of (x ∷ xs) (suc i) all = word_of xs i (λ k d lt. all (suc k) d (omega arith))

chosen_word : (b : Bool) (m n : ℕ) → IsWord m → IsWord n → IsWord (if b then m else n)
chosen_word true m n p q = p
chosen_word false m n p q = q

word_left : (op : WordOp) (found : ℕ) → IsOfWords op → IsWord found → IsWord (word_after op found)
word_left Load found o f = f
word_left (Swap new) found o f = o
word_left (Add number) found o f = omega arith
word_left (Sub number) found o f = omega arith
word_left (Or bits) found o f = or_lt 64 found bits f o
word_left (And bits) found o f = omega (arith, and_le_l found bits)
word_left (Cas expected new) found o f = chosen_word (found == expected) new found o.1 f

pub words_stay : (opening : List ℕ) (events : List WordEvent) → All IsWord opening → All (λ (e : WordEvent). IsOfWords e.step.op) events → All IsWord (words_after opening events)
words_stay opening [] all ops = all
words_stay opening (e ∷ es) all ops =
    let left : IsWord (word_after e.step.op (slice_index opening e.step.word)) = word_left e.step.op (slice_index opening e.step.word) (ops 0 e (omega arith)) (word_of opening e.step.word all) in
    words_stay (words_after_step opening e.step) es (All-set IsWord opening e.step.word (word_after e.step.op (slice_index opening e.step.word)) left all) (λ k d lt. ops (suc k) d (omega arith))

-- each result is a word that was there
pub results_are_words : (opening : List ℕ) (events : List WordEvent) → All IsWord opening → All (λ (e : WordEvent). IsOfWords e.step.op) events → LegalHistory opening events → All (λ (e : WordEvent). IsWord e.result) events
results_are_words opening events all ops h = λ k d lt.
    let e : WordEvent = get_or events k d in
    let split : events ≡ take k events ++ e ∷ drop (suc k) events = sym (take-append-drop k events) ∙ ap (λ rest. take k events ++ rest) (drop-cons events k d lt) in
    let may : MayFollow (words_after opening (take k events)) e = h.each (take k events) (drop (suc k) events) e split in
    let before : All (λ (f : WordEvent). IsOfWords f.step.op) (take k events) = All-take (λ (f : WordEvent). IsOfWords f.step.op) k events ops in
    let words : All IsWord (words_after opening (take k events)) = words_stay opening (take k events) all before in
    let word = word_of (words_after opening (take k events)) e.step.word words in
    subst IsWord (sym may.result_is) word
