-- The thread whose turn is next.
use Rattle.std.proofs.Common.{◌≡◌, ℕ, ◌<◌, true, List, length, get_or, ap, sym, subst, ◌∙◌, arith}
use Rattle.sharc_word.specs.declared.step.TheConstants.{THREADS}
use Rattle.sharc_code.specs.{declared.code.Code.Code, declared.shape.Shape.Shape, Runs.Turn, Whole.place_after}
use Rattle.sharc_schedule.specs.Schedule.{stored, Stored}
use Rattle.sharc_seq.specs.{Laws.EnabledLaws, Run.{enabled, IsChosen}, Walk.StandsAt}
use Rattle.sharc_threads.specs.Ends.{Standing, is_enabled}
use Rattle.sharc_lemmas.proofs.Lists.{any_default}
use Rattle.sharc_history.specs.{declared.going.Going.Going, Going.IsTraced}

pub record Chose (places : List (ℕ × ℕ)) (code : Code) (s : Shape) (limit : ℕ) (g : Standing) (count t : ℕ) : Type 0 where
  pub chosen : IsChosen (Stored places) count (enabled code s limit g) t
  pub low : t < s.threads
  pub yes : is_enabled code s limit g t ≡ true

pub chose : (laws : EnabledLaws) (places : List (ℕ × ℕ)) (code : Code) (s : Shape) (limit : ℕ) (g : Standing) (among : List ℕ) (count turn many place t : ℕ) → among ≡ enabled code s limit g
    → turn ≡ count → many ≡ length among → place < many → t ≡ get_or among place t → place ≡ stored places turn many → Chose places code s limit g count t
chose laws places code s limit g among count turn many place t all of_turns of_among low is answered =
    let within : place < length among = omega (arith, low, of_among) in
    let there : place < length (enabled code s limit g) = subst (λ (xs : List ℕ). place < length xs) all within in
    let named : t ≡ get_or (enabled code s limit g) place 0 = is ∙ any_default among place t 0 within ∙ ap (λ (xs : List ℕ). get_or xs place 0) all in
    let one = laws.listed code s limit g place there in
    record {
      chosen = record {
        place = place;
        answered = answered ∙ ap (λ n. stored places n many) of_turns ∙ ap (stored places count) (of_among ∙ ap (λ (xs : List ℕ). length xs) all);
        within = there;
        is = named;
      };
      low = subst (λ n. n < s.threads) (sym named) one.low;
      yes = subst (λ n. is_enabled code s limit g n ≡ true) (sym named) one.yes;
    }

-- the same behind a run so far, of which these are enabled
pub chose_next : (laws : EnabledLaws) (code : Code) (s : Shape) (places : List (ℕ × ℕ)) (limit : ℕ) (going : Going) (traced : IsTraced code s places limit going) (among : List ℕ) (turn many place t : ℕ) → s.threads ≡ THREADS
    → ((code : Code) (s : Shape) (turns : List Turn) → s.threads ≡ THREADS → StandsAt code s turns going.walk → among ≡ enabled code s limit (place_after code s turns))
    → turn ≡ length going.schedule.items → many ≡ length among → place < many → t ≡ get_or among place t → place ≡ stored places turn many → Chose places code s limit (place_after code s traced.turns) (length traced.turns) t
chose_next laws code s places limit going traced among turn many place t fits listed of_turns of_among low is answered =
    let goes = traced.goes in
    chose laws places code s limit (place_after code s traced.turns) among (length traced.turns) turn many place t (listed code s traced.turns fits goes.stands) (of_turns ∙ goes.count) of_among low is answered
