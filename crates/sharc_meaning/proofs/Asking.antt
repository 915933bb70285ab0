-- The laws of what a thread asks for.
use Rattle.sharc_meaning.proofs.{Imports.{◌≡◌, ℕ, suc, ◌+◌, ◌≤◌, List, [], ◌∷◌, ◌++◌, refl, sym, ap, ◌∙◌, subst, arith, append-nil, length, length-append, ℤ, ◌≢◌, SourceEvent, function_at, Assignment, IsPrefix, GoesOn, MoreIsGivenUp, MoreFuel, MoreFuelChangesNothing, MoreAnswers, MoreAnswersChangeNothing, NoMoreThanAnswers, WantsBehindAnswers, Comes, OneAnswerMore, Asked, asked_by, asks, run_thread, start, Outcome, wants, ended, spent, Out, go, over}, Closed.thread_kept, Growing.prefix_refl, Going.{with_more, NoMore, ComesIn}, Counting.{Counting, counting, Counts, NoneLeft}}
use Rattle.sharc_meaning.proofs.Going as going

abbrev outcome_of : {A : Type 0} → Out A → Outcome
outcome_of (go x s) = ended
outcome_of (over o s) = o

-- what a run is with more, by what it is without
grown : {A : Type 0} (d : ℕ) (ys : List ℤ) (o o' : Out A) → going.GoesOn d ys o o' → GoesOn (asked_by o) (asked_by o')
grown d ys (go x s) o' h = subst (λ z. GoesOn (asked_by (go x s)) (asked_by z)) (sym h) (record { events = prefix_refl s.events; trace = prefix_refl s.trace })
grown d ys (over o s) (go x t) h = record { events = h.grows.events; trace = h.grows.trace }
grown d ys (over o s) (over o2 t) h = record { events = h.grows.events; trace = h.grows.trace }

same : {A : Type 0} (d : ℕ) (ys : List ℤ) (o o' : Out A) → going.GoesOn d ys o o' → NoMore (asked_by o).outcome d ys → asked_by o' ≡ asked_by o
same d ys (go x s) o' h n = ap asked_by h
same d ys (over o s) o' h n = ap asked_by (h.same n)

ran : (m : Assignment) (f : ℕ) (v : ℤ) (answers more : List ℤ) (fuel d : ℕ) → going.GoesOn d more (run_thread m (function_at m.typed f) v (start answers fuel)) (run_thread m (function_at m.typed f) v (start (answers ++ more) (fuel + d)))
ran m f v answers more fuel d = (thread_kept (going.Going d more) (going.going d more) m (function_at m.typed f) v).1 (start answers fuel)

no_more_fuel : (o : Outcome) (d : ℕ) → o ≢ spent → NoMore o d []
no_more_fuel (wants e) d n = refl
no_more_fuel spent d n = absurd (n refl)
no_more_fuel _ d n = tt

no_more_answers : (o : Outcome) (ys : List ℤ) → ((e : SourceEvent) → o ≢ wants e) → NoMore o 0 ys
no_more_answers (wants e) ys n = absurd (n e refl)
no_more_answers spent ys n = refl
no_more_answers _ ys n = tt

pub more_fuel : MoreFuel
more_fuel m f v answers fuel more = subst (λ l. GoesOn (asks m f v answers fuel) (asks m f v l (fuel + more))) (append-nil answers) (grown more [] _ _ (ran m f v answers [] fuel more))

pub more_fuel_same : MoreFuelChangesNothing
more_fuel_same m f v answers fuel more n = subst (λ l. asks m f v l (fuel + more) ≡ asks m f v answers fuel) (append-nil answers)
    (same more [] _ _ (ran m f v answers [] fuel more) (no_more_fuel _ more n))

given : {A : Type 0} (d : ℕ) (ys : List ℤ) (o o' : Out A) → going.GoesOn d ys o o' → (asked_by o').events ≡ (asked_by o).events → IsPrefix (asked_by o).given_up (asked_by o').given_up
given d ys (go x s) o' h e = subst (λ z. IsPrefix s.given_up (asked_by z).given_up) (sym h) (prefix_refl s.given_up)
given d ys (over o s) (go x t) h e = h.grows.given e
given d ys (over o s) (over o2 t) h e = h.grows.given e

pub more_given_up : MoreIsGivenUp
more_given_up m f v answers fuel more = subst (λ l. (asks m f v l (fuel + more)).events ≡ (asks m f v answers fuel).events → IsPrefix (asks m f v answers fuel).given_up (asks m f v l (fuel + more)).given_up) (append-nil answers)
    (given more [] _ _ (ran m f v answers [] fuel more))

pub more_answers : MoreAnswers
more_answers m f v answers more fuel = let e : fuel + 0 ≡ fuel = omega arith in subst (λ k. GoesOn (asks m f v answers fuel) (asks m f v (answers ++ more) k)) e (grown 0 more _ _ (ran m f v answers more fuel 0))

pub more_answers_same : MoreAnswersChangeNothing
more_answers_same m f v answers more fuel n = let e : fuel + 0 ≡ fuel = omega arith in subst (λ k. asks m f v (answers ++ more) k ≡ asks m f v answers fuel) e
    (same 0 more _ _ (ran m f v answers more fuel 0) (no_more_answers _ more n))

came : {A : Type 0} (d : ℕ) (y : ℤ) (e : SourceEvent) (o o' : Out A) → going.GoesOn d (y ∷ []) o o' → (asked_by o).outcome ≡ wants e → ComesIn e y (asked_by o).events (asked_by o').events
came d y e (go x s) o' h w = absurd (cc)
came d y e (over o s) (go x t) h w = subst (λ z. going.Comes z (y ∷ []) s.events t.events) w h.comes
came d y e (over o s) (over o2 t) h w = subst (λ z. going.Comes z (y ∷ []) s.events t.events) w h.comes

counted : {A : Type 0} (n : ℕ) (o : Out A) → Counts n o → length (asked_by o).events ≤ n
counted n (go x s) h = omega arith
counted n (over o s) h = let e = h.0 in omega arith

pub no_more_than_answers : NoMoreThanAnswers
no_more_than_answers m f v answers fuel = let h : length (asks m f v answers fuel).events ≤ 0 + length answers = counted _ _ (thread_kept Counting counting m (function_at m.typed f) v (start answers fuel)) in omega arith

used : {A : Type 0} (n : ℕ) (o : Out A) (e : SourceEvent) → Counts n o → (asked_by o).outcome ≡ wants e → length (asked_by o).events ≡ n
used n (go x s) e h w = absurd (cc)
used n (over o s) e h w = let l : length s.answers ≡ 0 = ap length (subst (λ z. NoneLeft z s.answers) w h.1) in let k = h.0 in omega arith

pub wants_behind_answers : WantsBehindAnswers
wants_behind_answers m f v answers fuel e w = let h : length (asks m f v answers fuel).events ≡ 0 + length answers = used _ _ e (thread_kept Counting counting m (function_at m.typed f) v (start answers fuel)) w in omega arith

-- a list that is no longer than its prefix is it
nothing_more : {A : Type 0} (a all rest : List A) → all ≡ a ++ rest → length all ≤ length a → all ≡ a
nothing_more a all [] h le = h ∙ append-nil a
nothing_more a all (x ∷ rest) h le = let l : length all ≡ length (a ++ x ∷ rest) = ap length h in let k : length (a ++ x ∷ rest) ≡ length a + suc (length rest) = length-append a (x ∷ rest) in absurd (omega arith)

came_alone : (e : SourceEvent) (y : ℤ) (a b : Asked) → ComesIn e y a.events b.events → length b.events ≤ length a.events + 1 → Comes e y a b
came_alone e y a b h le = record {
  answer = h.answer;
  is = h.is;
  events = nothing_more (a.events ++ record e { answer = h.answer } ∷ []) b.events h.events.0 h.events.1
      (let k : length (a.events ++ record e { answer = h.answer } ∷ []) ≡ length a.events + 1 = length-append a.events (record e { answer = h.answer } ∷ []) in omega arith);
}

pub one_answer_more : OneAnswerMore
one_answer_more m f v answers answer fuel e w =
    let z : fuel + 0 ≡ fuel = omega arith in
    let used : length (asks m f v answers fuel).events ≡ length answers = wants_behind_answers m f v answers fuel e w in
    let few : length (asks m f v (answers ++ answer ∷ []) (fuel + 0)).events ≤ length (answers ++ answer ∷ []) = no_more_than_answers m f v (answers ++ answer ∷ []) (fuel + 0) in
    let one : length (answers ++ answer ∷ []) ≡ length answers + 1 = length-append answers (answer ∷ []) in
    subst (λ k. Comes e answer (asks m f v answers fuel) (asks m f v (answers ++ answer ∷ []) k)) z
    (came_alone e answer (asks m f v answers fuel) (asks m f v (answers ++ answer ∷ []) (fuel + 0)) (came 0 answer e _ _ (ran m f v answers (answer ∷ []) fuel 0) w) (omega arith))
