-- Runs with the same word operations tell the same: between two word operations each thread goes on by itself.
use Rattle.std.proofs.Common.{◌≡◌, ℕ, zero, suc, Bool, true, false, nat_eq, List, [], ◌∷◌, ◌++◌, append-nil, map, Option, Some, None, if◌then◌else◌, refl, sym, ap, ◌∙◌, subst, eqb-true}
use Rattle.sharc_tree.specs.declared.event.SourceEvent.{SourceEvent}
use Rattle.sharc_word.specs.{declared.step.WordEvent.WordEvent, declared.step.WordStep.WordStep}
use Rattle.sharc_code.specs.{declared.code.Code.Code, declared.shape.Shape.Shape, Laws.RunLaws, Machine.{Machine, instr_at}, Opening.opening_words, Path.{after, asked_by, begun, turn}, Runs.{Said, OneThread, Turn, Global, MayTurn, IsOf, IsRun, event_list, opening_of, result_of, state_now, step_of, with_told, word_events}, Says.{elements_in, says, speaks_of}, Whole.{Erase, bounds, one_thread, place_after}}
use Rattle.sharc_history.specs.Laws.{OneHistory}
use Rattle.sharc_history.proofs.Silent.{local_silent}

-- ---- lists of word events
one_more_ends : (xs ys : List WordEvent) (x y : WordEvent) → xs ++ x ∷ [] ≡ ys ++ y ∷ [] → (x ≡ y) × (xs ≡ ys)
one_more_ends [] [] x y e = ((let f : x ≡ y = cc in f), refl)
one_more_ends [] (z ∷ []) x y e = absurd (cc)
one_more_ends [] (z ∷ (w ∷ ys)) x y e = absurd (cc)
one_more_ends (z ∷ []) [] x y e = absurd (cc)
one_more_ends (z ∷ (w ∷ xs)) [] x y e = absurd (cc)
one_more_ends (z ∷ xs) (w ∷ ys) x y e =
    let first : z ≡ w = cc in
    let rest : xs ++ x ∷ [] ≡ ys ++ y ∷ [] = cc in
    let p = one_more_ends xs ys x y rest in
    (p.0, ap (λ a. a ∷ xs) first ∙ ap (λ l. w ∷ l) p.1)

none_at_end : {A : Type 0} (xs : List WordEvent) (x : WordEvent) → xs ++ x ∷ [] ≡ [] → A
none_at_end [] x e = absurd (cc)
none_at_end (z ∷ xs) x e = absurd (cc)

no_step_made : {A : Type 0} (step : WordStep) → None ≡ Some step → A
no_step_made step e = absurd (cc)

module _ (code : Code) (s : Shape) where
  abbrev m : OneThread Machine SourceEvent
  m = one_thread code s

  abbrev Run : List Turn → Type 0
  Run turns = IsRun bounds m (opening_of bounds m (opening_words code s)) turns

  -- the step of a machine's next turn, and where that leads
  abbrev asks : Machine → Option WordStep
  asks x = asked_by (turn code s x)

  abbrev goes : Machine → ℕ → Machine
  goes x found = after (turn code s x) found

  -- ---- one thread by itself
  -- so many turns that ask for no step lead from one machine to another
  abbrev Steps : ℕ → Machine → Machine → Type 0
  Steps zero x y = x ≡ y
  Steps (suc k) x y = (asks x ≡ None) × Steps k (goes x 0) y

  record Reaches (x y : Machine) : Type 0 where
    count : ℕ
    steps : Steps count x y

  one_further : (k : ℕ) (x y : Machine) → Steps k x y → asks y ≡ None → Steps (suc k) x (goes y 0)
  one_further zero x y same quiet = (ap asks same ∙ quiet, ap (λ z. goes z 0) same)
  one_further (suc k) x y steps quiet = (steps.0, one_further k (goes x 0) y steps.1 quiet)

  further : (x y : Machine) → Reaches x y → asks y ≡ None → Reaches x (goes y 0)
  further x y r quiet = record { count = suc r.count; steps = one_further r.count x y r.steps quiet }

  here : (x : Machine) → Reaches x x
  here x = record { count = 0; steps = refl }

  -- to one machine that asks for a step
  same_end : (j k : ℕ) (x y z : Machine) (a b : WordStep) → Steps j x y → Steps k x z → asks y ≡ Some a → asks z ≡ Some b → y ≡ z
  same_end zero zero x y z a b p q ya zb = sym p ∙ q
  same_end zero (suc k) x y z a b p q ya zb = no_step_made a (sym q.0 ∙ (ap asks p ∙ ya))
  same_end (suc j) zero x y z a b p q ya zb = no_step_made b (sym p.0 ∙ (ap asks q ∙ zb))
  same_end (suc j) (suc k) x y z a b p q ya zb = same_end j k (goes x 0) y z a b p.1 q.1 ya zb

  -- where a thread was behind its last word operation
  abbrev based : Option WordEvent → Bool → Machine → Machine → Machine
  based None own now old = old
  based (Some e) own now old = if own then now else old

  abbrev base : ℕ → List Turn → Machine
  base t [] = begun code s t
  base t (turn ∷ earlier) = based turn.event (nat_eq t turn.thread) (state_now m (place_after code s earlier) turn) (base t earlier)

  reaches_by : (event : Option WordEvent) (own : Bool) (now old at : Machine) → Reaches old at → (own ≡ true → event ≡ None → Reaches old now) → Reaches (based event own now old) (if own then now else at)
  reaches_by None true now old at r quiet = quiet refl refl
  reaches_by None false now old at r quiet = r
  reaches_by (Some e) true now old at r quiet = here now
  reaches_by (Some e) false now old at r quiet = r

  reach : (turns : List Turn) → Run turns → (t : ℕ) → Reaches (base t turns) ((place_after code s turns).threads t)
  reach [] run t = here (begun code s t)
  reach (turn ∷ earlier) run t =
      let g : Global Machine = place_after code s earlier in
      reaches_by turn.event (nat_eq t turn.thread) (state_now m g turn) (base t earlier) (g.threads t) (reach earlier run.0 t)
      (λ own none.
      let same : g.threads t ≡ g.threads turn.thread = ap g.threads (eqb-true t turn.thread own) in
      let quiet : asks (g.threads turn.thread) ≡ None = sym run.1.next.asks ∙ ap step_of none in
      subst (λ (found : ℕ). Reaches (base t earlier) (goes (g.threads turn.thread) found)) (sym (ap result_of none))
      (further (base t earlier) (g.threads turn.thread) (subst (Reaches (base t earlier)) same (reach earlier run.0 t)) quiet))

  -- ---- one turn
  -- what it tells after these events, where its thread is there
  abbrev elements_there : List (Said SourceEvent) → Machine → ℕ → ℕ
  elements_there earlier x found = elements_in (map (λ (told : Said SourceEvent). told.told) earlier) (speaks_of (instr_at code x.at.pc) x found)

  abbrev tells : List (Said SourceEvent) → Machine → ℕ → Option SourceEvent
  tells earlier x found = says code x found (elements_there earlier x found)

  quiet_tells : (one : Turn) (earlier : List Turn) → MayTurn bounds m (place_after code s earlier) one → one.event ≡ None → Erase code s (one ∷ earlier) ≡ Erase code s earlier
  quiet_tells one earlier may none =
      let x : Machine = (place_after code s earlier).threads one.thread in
      let quiet : asks x ≡ None = sym may.next.asks ∙ ap step_of none in
      let told : tells (Erase code s earlier) x (result_of one.event) ≡ None = ap (λ found. tells (Erase code s earlier) x found) (ap result_of none) ∙ local_silent code s x (elements_there (Erase code s earlier) x 0) quiet in
      ap (λ o. with_told one.thread o (Erase code s earlier)) told

  quiet_base : (turn : Turn) (earlier : List Turn) (t : ℕ) → turn.event ≡ None → base t (turn ∷ earlier) ≡ base t earlier
  quiet_base turn earlier t none = ap (λ o. based o (nat_eq t turn.thread) (state_now m (place_after code s earlier) turn) (base t earlier)) none

  quiet_events : (turn : Turn) (earlier : List Turn) → turn.event ≡ None → word_events (turn ∷ earlier) ≡ word_events earlier
  quiet_events turn earlier none = ap (λ o. word_events earlier ++ event_list o) none ∙ append-nil (word_events earlier)

  loud_events : (turn : Turn) (earlier : List Turn) (e : WordEvent) → turn.event ≡ Some e → word_events (turn ∷ earlier) ≡ word_events earlier ++ e ∷ []
  loud_events turn earlier e is = ap (λ o. word_events earlier ++ event_list o) is

  -- ---- two runs
  record Alike (a b : List Turn) : Type 0 where
    erased : Erase code s a ≡ Erase code s b
    bases : (t : ℕ) → base t a ≡ base t b

  -- a turn on the left, or on the right, that asks for no step
  left_quiet : (x : Turn) (a b : List Turn) → Run (x ∷ a) → x.event ≡ None → Alike a b → Alike (x ∷ a) b
  left_quiet x a b run none h = record { erased = quiet_tells x a run.1 none ∙ h.erased; bases = λ t. quiet_base x a t none ∙ h.bases t }

  right_quiet : (y : Turn) (a b : List Turn) → Run (y ∷ b) → y.event ≡ None → Alike a b → Alike a (y ∷ b)
  right_quiet y a b run none h = record { erased = h.erased ∙ sym (quiet_tells y b run.1 none); bases = λ t. h.bases t ∙ sym (quiet_base y b t none) }

  -- one word operation more
  thread_of : (x : Turn) (a : List Turn) (e : WordEvent) → Run (x ∷ a) → x.event ≡ Some e → x.thread ≡ e.thread
  thread_of x a e run is = sym (subst (λ (o : Option WordEvent). IsOf x.thread o) is run.1.next.own)

  module _ (x y : Turn) (a b : List Turn) (ra : Run (x ∷ a)) (rb : Run (y ∷ b)) (e : WordEvent) (xe : x.event ≡ Some e) (ye : y.event ≡ Some e) (h : Alike a b) where
    same_thread : x.thread ≡ y.thread
    same_thread = thread_of x a e ra xe ∙ sym (thread_of y b e rb ye)

    abbrev left : Machine
    left = (place_after code s a).threads x.thread

    abbrev right : Machine
    right = (place_after code s b).threads y.thread

    same_machine : left ≡ right
    same_machine =
        let p : Reaches (base x.thread a) left = reach a ra.0 x.thread in
        let q : Reaches (base x.thread a) right = subst (λ z. Reaches z right) (sym (h.bases x.thread ∙ ap (λ t. base t b) same_thread)) (reach b rb.0 y.thread) in
        same_end p.count q.count (base x.thread a) left right e.step e.step p.steps q.steps (sym ra.1.next.asks ∙ ap step_of xe) (sym rb.1.next.asks ∙ ap step_of ye)

    same_found : result_of x.event ≡ result_of y.event
    same_found = ap result_of (xe ∙ sym ye)

    same_now : state_now m (place_after code s a) x ≡ state_now m (place_after code s b) y
    same_now = ap (λ z. goes z (result_of x.event)) same_machine ∙ ap (goes right) same_found

    loud_erased : Erase code s (x ∷ a) ≡ Erase code s (y ∷ b)
    loud_erased =
        ap (λ (earlier : List (Said SourceEvent)). with_told x.thread (tells earlier left (result_of x.event)) earlier) h.erased
        ∙ ap (λ z. with_told x.thread (tells (Erase code s b) z (result_of x.event)) (Erase code s b)) same_machine
        ∙ ap (λ found. with_told x.thread (tells (Erase code s b) right found) (Erase code s b)) same_found
        ∙ ap (λ t. with_told t (tells (Erase code s b) right (result_of y.event)) (Erase code s b)) same_thread

    loud_bases : (t : ℕ) → base t (x ∷ a) ≡ base t (y ∷ b)
    loud_bases t =
        ap (λ o. based o (nat_eq t x.thread) (state_now m (place_after code s a) x) (base t a)) xe
        ∙ ap (λ now. if nat_eq t x.thread then now else base t a) same_now
        ∙ ap (λ old. if nat_eq t x.thread then state_now m (place_after code s b) y else old) (h.bases t)
        ∙ ap (λ u. if nat_eq t u then state_now m (place_after code s b) y else base t b) same_thread
        ∙ sym (ap (λ o. based o (nat_eq t y.thread) (state_now m (place_after code s b) y) (base t b)) ye)

    both_loud : Alike (x ∷ a) (y ∷ b)
    both_loud = record { erased = loud_erased; bases = loud_bases }

  -- nothing on the left
  empty_left : (b : List Turn) → Run b → [] ≡ word_events b → Alike [] b
  empty_left [] run same = record { erased = refl; bases = λ t. refl }
  empty_left (y ∷ b) run same = by_event y.event refl (λ none. empty_left b run.0 (same ∙ quiet_events y b none))
    where
      by_event : (o : Option WordEvent) → y.event ≡ o → (y.event ≡ None → Alike [] b) → Alike [] (y ∷ b)
      by_event None is h = right_quiet y [] b run is (h is)
      by_event (Some e) is h = none_at_end (word_events b) e (sym (same ∙ loud_events y b e is))

  -- a word operation last on the left
  loud_left : (x : Turn) (a : List Turn) → Run (x ∷ a) → (e : WordEvent) → x.event ≡ Some e → ((c : List Turn) → Run c → word_events a ≡ word_events c → Alike a c)
      → (b : List Turn) → Run b → word_events a ++ e ∷ [] ≡ word_events b → Alike (x ∷ a) b
  loud_left x a ra e xe h [] rb same = none_at_end (word_events a) e same
  loud_left x a ra e xe h (y ∷ b) rb same = by_event y.event refl (λ none. loud_left x a ra e xe h b rb.0 (same ∙ quiet_events y b none))
    where
      by_event : (o : Option WordEvent) → y.event ≡ o → (y.event ≡ None → Alike (x ∷ a) b) → Alike (x ∷ a) (y ∷ b)
      by_event None is more = right_quiet y (x ∷ a) b rb is (more is)
      by_event (Some d) is more =
          let ends = one_more_ends (word_events a) (word_events b) e d (same ∙ loud_events y b d is) in
          both_loud x y a b ra rb e xe (is ∙ ap Some (sym ends.0)) (h b rb.0 ends.1)

  alike : (a b : List Turn) → Run a → Run b → word_events a ≡ word_events b → Alike a b
  alike [] b ra rb same = empty_left b rb same
  alike (x ∷ a) b ra rb same = by_event x.event refl (λ c rc also. alike a c ra.0 rc also)
    where
      by_event : (o : Option WordEvent) → x.event ≡ o → ((c : List Turn) → Run c → word_events a ≡ word_events c → Alike a c) → Alike (x ∷ a) b
      by_event None is h = left_quiet x a b ra is (h b rb (sym (quiet_events x a is) ∙ same))
      by_event (Some e) is h = loud_left x a ra e is h b rb (sym (loud_events x a e is) ∙ same)

pub one_history : RunLaws → OneHistory
one_history laws code s one other r1 r2 same = (alike code s one other ((laws.checked code s one).0 r1) ((laws.checked code s other).0 r2) same).erased
