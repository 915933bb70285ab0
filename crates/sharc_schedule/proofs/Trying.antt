-- A checked run without its failed tries is a checked run with the same ends.
use Rattle.sharc_schedule.proofs.Imports.{◌≡◌, ◌≢◌, ℕ, ◌+◌, ◌≤◌, Bool, true, false, ◌||◌, nat_eq, List, [], ◌∷◌, refl, sym, ap, ◌∙◌, subst, arith, eq-eqb, ne_eqb, if◌then◌else◌, ℕ_discrete, dite, SourceEvent, Code, Shape, TurnState, Runs, Tries, Machine, fails, opening_words, turn, after, asked_by, may_go, counted, Turn, Global, OneThread, MayTurn, IsRun, Answered, is_started, result_of, put, state_now, made_now, words_now, after_turn, opening_of, ThreadLaws, settle, settled, one_thread, bounds, place_after, is_try, without_tries, SameEnds, if_no, if_yes, or_known}

-- ---- one thread
pub tries_where : (state : TurnState) → is_try state ≡ true → state ≡ Tries
tries_where Tries e = refl
tries_where _ e = absurd cc

goes_settled : (state : TurnState) → may_go state ≡ true → settle state ≡ Runs
goes_settled Runs e = refl
goes_settled Tries e = refl
goes_settled _ e = absurd cc

pub may_settle : (state : TurnState) → may_go (settle state) ≡ may_go state
may_settle Tries = refl
may_settle _ = refl

pub same_may : (m n : Machine) → settled m ≡ settled n → may_go m.at.state ≡ may_go n.at.state
same_may m n e = sym (may_settle m.at.state) ∙ (ap (λ (x : Machine). may_go x.at.state) e ∙ may_settle n.at.state)

pub turns_alike : ThreadLaws → (code : Code) (s : Shape) (m n : Machine) → settled m ≡ settled n → turn code s m ≡ turn code s n
turns_alike laws code s m n e = sym (laws.forgets code s m) ∙ (ap (λ x. turn code s x) e ∙ laws.forgets code s n)

-- a failed try leaves the thread as it was
try_settled : (m x : Machine) → may_go m.at.state ≡ true → x ≡ fails m → settled m ≡ settled x
try_settled m x goes is = (λ i. record m { at = record m.at { state = goes_settled m.at.state goes i } }) ∙ ap settled (sym is)

pub put_other : {A : Type 0} (f : ℕ → A) (i : ℕ) (v : A) (j : ℕ) → j ≢ i → put f i v j ≡ f j
put_other f i v j apart = if_no (nat_eq j i) v (f j) (ne_eqb j i apart)

pub put_own : {A : Type 0} (f : ℕ → A) (i : ℕ) (v : A) (j : ℕ) → j ≡ i → put f i v j ≡ v
put_own f i v j same = if_yes (nat_eq j i) v (f j) (eq-eqb j i same)

-- where a value was put into each of two functions, they agree if these values and all others do
puts_agree : {A B : Type 0} (h : A → B) (f g : ℕ → A) (i : ℕ) (v w : A) → h v ≡ h w → ((j : ℕ) → h (f j) ≡ h (g j)) → (j : ℕ) → h (put f i v j) ≡ h (put g i w j)
puts_agree h f g i v w this others j = dite (ℕ_discrete j i) (λ e. rw (eq-eqb j i e) this) (λ apart. rw (ne_eqb j i apart) (others j))

-- and where one was put into the second alone
put_agrees : {A B : Type 0} (h : A → B) (f g : ℕ → A) (i : ℕ) (w : A) → h (f i) ≡ h w → ((j : ℕ) → h (f j) ≡ h (g j)) → (j : ℕ) → h (f j) ≡ h (put g i w j)
put_agrees h f g i w this others j = dite (ℕ_discrete j i) (λ e. rw (eq-eqb j i e) (ap (λ k. h (f k)) e ∙ this)) (λ apart. rw (ne_eqb j i apart) (others j))

module _ (laws : ThreadLaws) (code : Code) (s : Shape) where
  abbrev m : OneThread Machine SourceEvent
  m = one_thread code s

  -- a thread whose state word is 1 was started
  pub now_started : (t : ℕ) (turns : List Turn) → is_started bounds (place_after code s turns).words t ≡ true → (place_after code s turns).started t ≡ true
  now_started t [] e = e
  now_started t (turn ∷ earlier) e = ap (λ b. b || (place_after code s earlier).started t) e

  -- ---- one turn
  module _ (g h : Global Machine) (same : SameEnds h g) (one : Turn) (may : MayTurn bounds m g one) where
    abbrev t : ℕ
    t = one.thread

    abbrev old : Machine
    old = g.threads one.thread

    alike : turn code s (h.threads t) ≡ turn code s old
    alike = turns_alike laws code s (h.threads t) old (same.threads t)

    pub state_same : state_now m h one ≡ state_now m g one
    state_same = ap (λ a. after a (result_of one.event)) alike

    made_same : made_now m h one ≡ made_now m g one
    made_same = ap (λ n. n + counted (state_now m h one).at.state) (same.made t) ∙ ap (λ (y : Machine). g.made t + counted y.at.state) state_same

    pub may_kept : MayTurn bounds m h one
    may_kept = record {
      started = same.started t ∙ may.started;
      next = record {
        runs = same_may (h.threads t) old (same.threads t) ∙ may.next.runs;
        asks = may.next.asks ∙ ap asked_by (sym alike);
        own = may.next.own;
      };
      answered = subst (λ ws. Answered ws one.event) (sym same.words) may.answered;
      room = subst (λ n. n ≤ 100000000) (sym made_same) may.room;
    }

    pub kept_same : SameEnds (after_turn bounds m h one) (after_turn bounds m g one)
    kept_same = record {
      words = ap (λ (ws : List ℕ). words_now ws one.event) same.words;
      threads = puts_agree settled h.threads g.threads t (state_now m h one) (state_now m g one) (ap settled state_same) same.threads;
      started = (λ u. ap (λ (ws : List ℕ). is_started bounds (words_now ws one.event) u || h.started u) same.words ∙ ap (λ b. is_started bounds (words_now g.words one.event) u || b) (same.started u));
      made = puts_agree (λ (n : ℕ). n) h.made g.made t (made_now m h one) (made_now m g one) made_same same.made;
    }

    module _ (try : is_try (state_now m g one).at.state ≡ true) (now : (u : ℕ) → is_started bounds g.words u ≡ true → g.started u ≡ true) where
      tries : (state_now m g one).at.state ≡ Tries
      tries = tries_where (state_now m g one).at.state try

      words_stay : words_now g.words one.event ≡ g.words
      words_stay = laws.words code s g.words old one.event may.next.asks may.answered tries

      made_stays : g.made t ≡ made_now m g one
      made_stays = sym (ap (λ state. g.made t + counted state) tries ∙ omega arith)

      started_dropped : (u : ℕ) → h.started u ≡ (is_started bounds (words_now g.words one.event) u || g.started u)
      started_dropped u =
          same.started u ∙ sym (ap (λ (ws : List ℕ). is_started bounds ws u || g.started u) words_stay ∙ or_known (is_started bounds g.words u) (g.started u) (now u))

      pub dropped_same : SameEnds h (after_turn bounds m g one)
      dropped_same = record {
        words = same.words ∙ sym words_stay;
        threads = put_agrees settled h.threads g.threads t (state_now m g one) (same.threads t ∙ try_settled old (state_now m g one) may.next.runs (laws.tries code s old (result_of one.event) tries)) same.threads;
        started = started_dropped;
        made = put_agrees (λ (n : ℕ). n) h.made g.made t (made_now m g one) (same.made t ∙ made_stays) same.made;
      }

  -- ---- all turns
  abbrev Run : List Turn → Type 0
  Run turns = IsRun bounds m (opening_of bounds m (opening_words code s)) turns

  -- no turn is a failed try
  abbrev pub NoTries : List Turn → Type 0
  NoTries [] = Unit {0}
  NoTries (one ∷ earlier) = NoTries earlier × (is_try (state_now m (place_after code s earlier) one).at.state ≡ false)

  abbrev Alike : List Turn → List Turn → Type 0
  Alike kept turns = Run kept × SameEnds (place_after code s kept) (place_after code s turns) × NoTries kept

  pub without : (turns : List Turn) → Run turns → Alike (without_tries code s turns) turns
  without [] run = (tt, record { words = refl; threads = (λ t. refl); started = (λ t. refl); made = (λ t. refl) }, tt)
  without (one ∷ earlier) run = by (is_try (state_now m (place_after code s earlier) one).at.state) refl (without earlier run.0) where
    by : (b : Bool) → is_try (state_now m (place_after code s earlier) one).at.state ≡ b → Alike (without_tries code s earlier) earlier
        → Alike (if b then without_tries code s earlier else one ∷ without_tries code s earlier) (one ∷ earlier)
    by true e r =
        (r.0, dropped_same (place_after code s earlier) (place_after code s (without_tries code s earlier)) r.1 one run.1 e (λ u on. now_started u earlier on), r.2)
    by false e r = (
      (r.0, may_kept (place_after code s earlier) (place_after code s (without_tries code s earlier)) r.1 one run.1),
      kept_same (place_after code s earlier) (place_after code s (without_tries code s earlier)) r.1 one run.1,
      (r.2, ap (λ (x : Machine). is_try x.at.state) (state_same (place_after code s earlier) (place_after code s (without_tries code s earlier)) r.1 one run.1) ∙ e),
    )
