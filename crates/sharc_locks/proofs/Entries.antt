-- What taking the entry at a place out of a held log leaves.
use Rattle.std.proofs.{Common.{◌≡◌, ◌≢◌, ◌==◌, ℕ, ◌+◌, ◌<◌, Some, List, ◌∷◌, ◌++◌, length, get_or, take, drop, zero, suc, refl, sym, ap, ◌∙◌, arith, rules, tests, inl, inr}, Math.Seq.drop-cons, lemmas.List.{take-append-drop, get_or_default}, lemmas.List.Quantifiers.{position-Some, all_pairs_remove}, lemmas.List.Edits.{length-remove, get_or-remove_below, get_or-remove_above}, lemmas.Bool.{cases_lt, eq-eqb, ne_eqb}}
use Rattle.std.specs.{List.{remove, position}, Prelude.{None, []}}
use Rattle.sharc_locks.specs.{HeldLog.{Holds, HoldsEachOnce, IsHeldLog, GivesUp, without, object_of}, declared.held_log.HeldMutex.HeldMutex}

-- a list is what lies before a place, the element there, and what lies after it
split_at : {X : Type 0} (xs : List X) (i : ℕ) (x : X) → i < length xs → x ≡ get_or xs i x → xs ≡ take i xs ++ x ∷ drop (suc i) xs
split_at xs i x within is =
    sym (take-append-drop i xs) ∙ ap (λ rest. take i xs ++ rest) (drop-cons xs i x within ∙ ap (λ y. y ∷ drop (suc i) xs) (sym is))

-- what is at the first place of a word
pub record IsPlaceOf (log : List HeldMutex) (word place : ℕ) : Type 0 where
  pub within : place < length log
  pub there : (d : HeldMutex) → (get_or log place d).word ≡ word

pub place_is : (log : List HeldMutex) (word place : ℕ) → position (λ h. h.word == word) log ≡ Some place → IsPlaceOf log word place
place_is log word place found = record {
  within = (position-Some (λ h. h.word == word) log place record { word = 0; object = 0 } found).0;
  there = λ d. let p = position-Some (λ h. h.word == word) log place d found in search (rules, tests);
}

-- the entry at the place is the one that is given up
pub gives_up : (log : List HeldMutex) (word place : ℕ) (held : HeldMutex) → IsPlaceOf log word place → held ≡ get_or log place held → GivesUp log (remove log place) record { word = word; object = held.object }
gives_up log word place held at is =
    let named : held.word ≡ word = ap (λ (h : HeldMutex). h.word) is ∙ at.there held in
    let same : held ≡ record { word = word; object = held.object } = ap (λ (w : ℕ). record { word = w; object = held.object }) named in
    record {
      before = take place log;
      after = drop (suc place) log;
      stood = split_at log place held at.within is ∙ ap (λ (h : HeldMutex). take place log ++ h ∷ drop (suc place) log) same;
      left = refl;
    }

-- a log without one of its entries is a log
pub stays_log : (log : List HeldMutex) (place : ℕ) → place < length log → IsHeldLog log → IsHeldLog (remove log place)
stays_log log place within is = record {
  few = let shorter = length-remove log place within in let most = is.few in omega arith;
  each_once = all_pairs_remove (λ (a b : HeldMutex). a.word ≢ b.word) log place within is.each_once;
}

-- no other entry is of the word
pub released : (log : List HeldMutex) (word place : ℕ) → IsPlaceOf log word place → IsHeldLog log → Holds (remove log place) word → ⊥
released log word place at is (k, held, within, is_there, named) =
    let shorter = length-remove log place at.within in
    elim (cases_lt k place) [
      | inl below ↦ is.each_once k place held below at.within (ap (λ (h : HeldMutex). h.word) (sym (get_or-remove_below log place held k below at.within) ∙ is_there) ∙ named ∙ sym (at.there held))
      | inr above ↦ is.each_once place (k + 1) held (omega arith) (omega arith) (at.there held ∙ sym named ∙ ap (λ (h : HeldMutex). h.word) (sym is_there ∙ get_or-remove_above log place held k above at.within))
    ]

-- ---- the functions
none_out : (log : List HeldMutex) (word : ℕ) → ((k : ℕ) (d : HeldMutex) → k < length log → (get_or log k d).word ≢ word) → without log word ≡ log
none_out [] word none = refl
none_out (h ∷ hs) word none =
    rw (ne_eqb h.word word (none 0 h (omega arith))) (ap (λ rest. h ∷ rest) (none_out hs word (λ k d lt. none (suc k) d (omega arith))))

no_object : (log : List HeldMutex) (word : ℕ) → ((k : ℕ) (d : HeldMutex) → k < length log → (get_or log k d).word ≢ word) → object_of log word ≡ None
no_object [] word none = refl
no_object (h ∷ hs) word none =
    rw (ne_eqb h.word word (none 0 h (omega arith))) (no_object hs word (λ k d lt. none (suc k) d (omega arith)))

none_held : (log : List HeldMutex) (word : ℕ) → ¬ Holds log word → (k : ℕ) (d : HeldMutex) → k < length log → (get_or log k d).word ≢ word
none_held log word absent k d lt is = absent (k, get_or log k d, lt, sym (get_or_default log k d (get_or log k d) lt), is)

pub left_alone : (log : List HeldMutex) (word : ℕ) → ¬ Holds log word → log ≡ without log word
left_alone log word absent = sym (none_out log word (none_held log word absent))

pub no_object_of : (log : List HeldMutex) (word : ℕ) → ¬ Holds log word → None ≡ object_of log word
no_object_of log word absent = sym (no_object log word (none_held log word absent))

rest_once : (h : HeldMutex) (hs : List HeldMutex) → HoldsEachOnce (h ∷ hs) → HoldsEachOnce hs
rest_once h hs once = λ i j d lt within. once (suc i) (suc j) d (omega arith) (omega arith)

later_other : (h : HeldMutex) (hs : List HeldMutex) → HoldsEachOnce (h ∷ hs) → (k : ℕ) (d : HeldMutex) → k < length hs → (get_or hs k d).word ≢ h.word
later_other h hs once k d lt is = once 0 (suc k) d (omega arith) (omega arith) (sym is)

rest_place : (h : HeldMutex) (hs : List HeldMutex) (word place : ℕ) → IsPlaceOf (h ∷ hs) word (suc place) → IsPlaceOf hs word place
rest_place h hs word place at = record { within = let w = at.within in omega arith; there = at.there }

first_other : (h : HeldMutex) (hs : List HeldMutex) (word place : ℕ) → IsPlaceOf (h ∷ hs) word (suc place) → HoldsEachOnce (h ∷ hs) → h.word ≢ word
first_other h hs word place at once is = once 0 (suc place) h (omega arith) at.within (is ∙ sym (at.there h))

pub left_is : (log : List HeldMutex) (word place : ℕ) → IsPlaceOf log word place → HoldsEachOnce log → remove log place ≡ without log word
left_is [] word place at once = let w = at.within in absurd (omega arith)
left_is (h ∷ hs) word zero at once =
    let is : h.word ≡ word = at.there h in
    rw (eq-eqb h.word word is) (sym (none_out hs word (λ k d lt e. later_other h hs once k d lt (e ∙ sym is))))
left_is (h ∷ hs) word (suc place) at once =
    rw (ne_eqb h.word word (first_other h hs word place at once)) (ap (λ rest. h ∷ rest) (left_is hs word place (rest_place h hs word place at) (rest_once h hs once)))

pub object_is : (log : List HeldMutex) (word place : ℕ) (held : HeldMutex) → IsPlaceOf log word place → HoldsEachOnce log → held ≡ get_or log place held → Some held.object ≡ object_of log word
object_is [] word place held at once is = let w = at.within in absurd (omega arith)
object_is (h ∷ hs) word zero held at once is =
    let named : h.word ≡ word = at.there h in
    rw (eq-eqb h.word word named) (ap (λ (x : HeldMutex). Some x.object) is)
object_is (h ∷ hs) word (suc place) held at once is =
    rw (ne_eqb h.word word (first_other h hs word place at once)) (object_is hs word place held (rest_place h hs word place at) (rest_once h hs once) is)
