-- Where runs of codes that are alike are: what may go on there, who is chosen, and which threads there are.
use Rattle.sharc_sound_laws.proofs.{Imports.{◌≡◌, ℕ, ◌&&◌, not, List, [], ◌∷◌, length, get_or, nat_lt, refl, sym, ap, ◌∙◌, subst, range_with_len, Code, Shape, Machine, begun, turn, may_go, machine_after, made_in, Turn, CheckedRunOf, opening_of, at, waits_now, held_up, one_thread, bounds, CheckedRun, place_after, IsStuck, opening_words, ThreadView, IsThread, Standing, is_enabled, AreStarted, IsChosen, AreChosen, AreAlike}, Lists.{ap2, filter_same}, Threads.{DoTheSame, AreTheSame, run_same, at_same}, Turns.{turn_same, begun_same, opening_same, machine_same, made_same, code_path_same, wait_same}}

module _ (a b : Code) (alike : AreAlike a b) (s : Shape) where
  does : DoTheSame (one_thread a s) (one_thread b s)
  does = record {
    start = begun_same a b alike s;
    runs = λ m. refl;
    asks = λ m. (turn_same a b alike s m).asked;
    goes = λ m found. (turn_same a b alike s m).leads found;
    counts = λ m. refl;
  }

  pub checked_same : (turns : List Turn) → CheckedRun a s turns → CheckedRun b s turns
  checked_same turns run = run_same (one_thread a s) (one_thread b s) does bounds (opening_words b s) turns
      (subst (λ words. CheckedRunOf bounds (one_thread a s) words turns) (opening_same a b alike s) run)

  pub place_same : (turns : List Turn) → AreTheSame (place_after a s turns) (place_after b s turns)
  place_same turns = subst (λ words. AreTheSame (at bounds (one_thread a s) (opening_of bounds (one_thread a s) words) turns) (place_after b s turns))
      (sym (opening_same a b alike s)) (at_same (one_thread a s) (one_thread b s) does bounds (opening_words b s) turns)

  -- ---- going on
  waits_same : (g h : Standing) → AreTheSame g h → (t : ℕ) → waits_now a s g.words (g.threads t) ≡ waits_now b s h.words (h.threads t)
  waits_same g h same t =
      ap (held_up g.words (g.threads t).own.number) (wait_same a b alike s (g.threads t))
      ∙ ap2 (λ words (m : Machine). waits_now b s words m) same.words (same.threads t)

  pub enabled_same : (limit : ℕ) (g h : Standing) → AreTheSame g h → (t : ℕ) → is_enabled a s limit g t ≡ is_enabled b s limit h t
  enabled_same limit g h same t =
      ap2 (λ x y. x && y) (same.started t) (ap2 (λ x y. x && y) (ap (λ (m : Machine). may_go m.at.state) (same.threads t))
      (ap2 (λ k w. nat_lt k limit && not w) (same.made t) (waits_same g h same t)))

  pub chosen_same : (answers : ℕ → ℕ → ℕ → Type 0) (limit : ℕ) (turns : List Turn) → AreChosen answers a s limit turns → AreChosen answers b s limit turns
  chosen_same answers limit [] chosen = tt
  chosen_same answers limit (turn ∷ earlier) chosen = (
    chosen_same answers limit earlier chosen.0,
    subst (λ among. IsChosen answers (length earlier) among turn.thread)
        (filter_same (is_enabled a s limit (place_after a s earlier)) (is_enabled b s limit (place_after b s earlier)) (enabled_same limit (place_after a s earlier) (place_after b s earlier) (place_same earlier)) (range_with_len 0 s.threads)) chosen.1,
  )

  pub stuck_same : (g h : Standing) → AreTheSame g h → IsStuck a s g → IsStuck b s h
  stuck_same g h same stuck = record {
    some = (stuck.some.0, (sym (same.started stuck.some.0) ∙ stuck.some.1.0, ap (λ (m : Machine). may_go m.at.state) (sym (same.threads stuck.some.0)) ∙ stuck.some.1.1));
    all = λ t on. sym (waits_same g h same t) ∙ stuck.all t (same.started t ∙ on.0, ap (λ (m : Machine). may_go m.at.state) (same.threads t) ∙ on.1);
  }

  -- ---- threads
  thread_same : (t : ThreadView) → IsThread a s t → IsThread b s t
  thread_same t is = record {
    number = is.number;
    founds = is.founds;
    path = code_path_same a b alike s t.machine.own.number is.founds is.path;
    stands = is.stands ∙ machine_same a b alike s (begun a s t.machine.own.number) is.founds ∙ ap (λ m. machine_after b s m is.founds) (begun_same a b alike s t.machine.own.number);
    events = is.events ∙ made_same a b alike s (begun a s t.machine.own.number) is.founds ∙ ap (λ m. made_in b s m is.founds) (begun_same a b alike s t.machine.own.number);
    waits = is.waits ∙ wait_same a b alike s t.machine;
  }

  pub threads_same : (g h : Standing) → AreTheSame g h → (threads : List ThreadView) → AreStarted a s g threads → AreStarted b s h threads
  threads_same g h same threads are = record {
    numbers = are.numbers ∙ filter_same g.started h.started same.started (range_with_len 0 s.threads);
    each = λ k d within. let is = are.each k d within in record {
      thread = thread_same (get_or threads k d) is.thread;
      machine = is.machine ∙ same.threads (get_or threads k d).machine.own.number;
      made = is.made ∙ same.made (get_or threads k d).machine.own.number;
    };
  }
