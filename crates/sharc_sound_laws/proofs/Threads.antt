-- Runs of threads that do the same: whole runs, and where they are.
use Rattle.sharc_sound_laws.proofs.{Imports.{◌≡◌, ℕ, ◌+◌, ◌≤◌, ◌||◌, cond, List, [], ◌∷◌, nat_eq, refl, sym, ap, ◌∙◌, subst, words_after, OneThread, Bounds, Turn, result_of, word_events, turns_of, put, state_after, IsNext, Global, is_started, opening_of, was_started, CheckedRunOf, words_now, state_now, made_now, after_turn, at}, Lists.ap2}
use Rattle.sharc_code.specs.Runs.{IsPath, made_in}

-- both threads begin at the same states, and do the same in each
pub record DoTheSame {S E : Type 0} (m n : OneThread S E) : Type 0 where
  pub start : (t : ℕ) → m.start t ≡ n.start t
  pub runs : (x : S) → m.runs x ≡ n.runs x
  pub asks : (x : S) → m.asks x ≡ n.asks x
  pub goes : (x : S) (found : ℕ) → m.goes x found ≡ n.goes x found
  pub counts : (x : S) → m.counts x ≡ n.counts x

-- two places of runs
pub record AreTheSame {S : Type 0} (g h : Global S) : Type 0 where
  pub words : g.words ≡ h.words
  pub threads : (t : ℕ) → g.threads t ≡ h.threads t
  pub started : (t : ℕ) → g.started t ≡ h.started t
  pub made : (t : ℕ) → g.made t ≡ h.made t

put_same : {A : Type 0} (f g : ℕ → A) (i : ℕ) (v w : A) (j : ℕ) → ((k : ℕ) → f k ≡ g k) → v ≡ w → put f i v j ≡ put g i w j
put_same f g i v w j same is = ap2 (cond (nat_eq j i)) is (same j)

module _ {S E : Type 0} (m n : OneThread S E) (does : DoTheSame m n) (b : Bounds) where
  -- ---- paths
  state_same : (x : S) (turns : List Turn) → state_after m x turns ≡ state_after n x turns
  state_same x [] = refl
  state_same x (turn ∷ earlier) = does.goes (state_after m x earlier) (result_of turn.event) ∙ ap (λ z. n.goes z (result_of turn.event)) (state_same x earlier)

  next_same : (x y : S) (turn : Turn) → x ≡ y → IsNext m x turn → IsNext n y turn
  next_same x y turn is next = subst (λ z. IsNext n z turn) is (record { runs = sym (does.runs x) ∙ next.runs; asks = next.asks ∙ does.asks x; own = next.own })

  path_same : (x : S) (turns : List Turn) → IsPath m x turns → IsPath n x turns
  path_same x [] path = tt
  path_same x (turn ∷ earlier) path = (path_same x earlier path.0, next_same (state_after m x earlier) (state_after n x earlier) turn (state_same x earlier) path.1)

  made_same : (x : S) (turns : List Turn) → made_in m x turns ≡ made_in n x turns
  made_same x [] = refl
  made_same x (turn ∷ earlier) = ap2 (λ k c. k + c) (made_same x earlier) (does.counts (state_after m x (turn ∷ earlier)) ∙ ap n.counts (state_same x (turn ∷ earlier)))

  -- ---- runs from words
  started_same : (words : List ℕ) (t : ℕ) (turns : List Turn) → was_started b (opening_of b m words) t turns ≡ was_started b (opening_of b n words) t turns
  started_same words t [] = refl
  started_same words t (turn ∷ earlier) = ap (λ z. is_started b (words_after words (word_events (turn ∷ earlier))) t || z) (started_same words t earlier)

  pub run_same : (words : List ℕ) (turns : List Turn) → CheckedRunOf b m words turns → CheckedRunOf b n words turns
  run_same words turns run = record {
    legal = run.legal;
    paths = λ t. subst (λ x. IsPath n x (turns_of t turns)) (does.start t) (path_same (m.start t) (turns_of t turns) (run.paths t));
    begun = λ later earlier turn is. sym (started_same words turn.thread earlier) ∙ run.begun later earlier turn is;
    few = λ t. subst (λ k. 0 + k ≤ b.limit) (made_same (m.start t) (turns_of t turns) ∙ ap (λ x. made_in n x (turns_of t turns)) (does.start t)) (run.few t);
  }

  -- ---- where they are
  state_now_same : (g h : Global S) → AreTheSame g h → (turn : Turn) → state_now m g turn ≡ state_now n h turn
  state_now_same g h same turn = does.goes (g.threads turn.thread) (result_of turn.event) ∙ ap (λ x. n.goes x (result_of turn.event)) (same.threads turn.thread)

  after_same : (g h : Global S) → AreTheSame g h → (turn : Turn) → AreTheSame (after_turn b m g turn) (after_turn b n h turn)
  after_same g h same turn =
      let now = state_now_same g h same turn in
      record {
        words = ap (λ w. words_now w turn.event) same.words;
        threads = λ t. put_same g.threads h.threads turn.thread (state_now m g turn) (state_now n h turn) t same.threads now;
        started = λ t. ap2 (λ w z. is_started b (words_now w turn.event) t || z) same.words (same.started t);
        made = λ t. put_same g.made h.made turn.thread (made_now m g turn) (made_now n h turn) t same.made (ap2 (λ k c. k + c) (same.made turn.thread) (does.counts (state_now m g turn) ∙ ap n.counts now));
      }

  pub at_same : (words : List ℕ) (turns : List Turn) → AreTheSame (at b m (opening_of b m words) turns) (at b n (opening_of b n words) turns)
  at_same words [] = record { words = refl; threads = does.start; started = λ t. refl; made = λ t. refl }
  at_same words (turn ∷ earlier) = after_same (at b m (opening_of b m words) earlier) (at b n (opening_of b n words) earlier) (at_same words earlier) turn
