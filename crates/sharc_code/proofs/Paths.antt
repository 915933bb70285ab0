-- The found words of a path are turns, with the same events.
use Rattle.sharc_code.proofs.Imports.{◌≡◌, ℕ, ◌+◌, List, [], ◌∷◌, ◌++◌, true, refl, sym, ap, ◌∙◌, subst, Code, Shape, Machine, Act, Local, Asks, turn, after, asked_by, events_of_turn, machine_after, events_of_path, may_go, counted, IsCodePath, made_in_path, turn_with, result_of, step_in as step_of, event_list, IsOf, word_events, IsPath, IsNext, Owns, made_in, one_thread, event_in, turns_by, IsPathOf}
use Rattle.sharc_code.specs.Runs.{state_after}

-- ---- one turn
after_found : (t : ℕ) (a : Act) (found : ℕ) → after a (result_of (event_in t a found)) ≡ after a found
after_found t (Local m) found = refl
after_found t (Asks step go) found = refl

asked : (t : ℕ) (a : Act) (found : ℕ) → step_of (event_in t a found) ≡ asked_by a
asked t (Local m) found = refl
asked t (Asks step go) found = refl

own : (t : ℕ) (a : Act) (found : ℕ) → IsOf t (event_in t a found)
own t (Local m) found = tt
own t (Asks step go) found = refl

events : (t : ℕ) (a : Act) (found : ℕ) → event_list (event_in t a found) ≡ events_of_turn t a found
events t (Local m) found = refl
events t (Asks step go) found = refl

-- ---- all turns
module _ (code : Code) (s : Shape) (t : ℕ) (m : Machine) where
  machine_is : (founds : List ℕ) → state_after (one_thread code s) m (turns_by code s t m founds) ≡ machine_after code s m founds
  machine_is [] = refl
  machine_is (found ∷ earlier) =
      let now = machine_after code s m earlier in
      ap (λ x. after (turn code s x) (result_of (event_in t (turn code s now) found))) (machine_is earlier) ∙ after_found t (turn code s now) found

  next : (found : ℕ) (earlier : List ℕ) → may_go (machine_after code s m earlier).at.state ≡ true
      → IsNext (one_thread code s) (state_after (one_thread code s) m (turns_by code s t m earlier)) (turn_with t (event_in t (turn code s (machine_after code s m earlier)) found))
  next found earlier go =
      let now = machine_after code s m earlier in
      subst (λ x. IsNext (one_thread code s) x (turn_with t (event_in t (turn code s now) found))) (sym (machine_is earlier))
      record { runs = go; asks = asked t (turn code s now) found; own = own t (turn code s now) found }

  is_path : (founds : List ℕ) → IsCodePath code s m founds → IsPath (one_thread code s) m (turns_by code s t m founds)
  is_path [] p = tt
  is_path (found ∷ earlier) p = (is_path earlier p.0, next found earlier p.1)

  owns : (founds : List ℕ) → Owns t (turns_by code s t m founds)
  owns [] = tt
  owns (found ∷ earlier) = (refl, owns earlier)

  events_are : (founds : List ℕ) → t ≡ m.own.number → word_events (turns_by code s t m founds) ≡ events_of_path code s m founds
  events_are [] is = refl
  events_are (found ∷ earlier) is =
      let now = turn code s (machine_after code s m earlier) in
      ap (λ xs. xs ++ event_list (event_in t now found)) (events_are earlier is)
      ∙ ap (λ xs. events_of_path code s m earlier ++ xs) (events t now found ∙ ap (λ n. events_of_turn n now found) is)

  made_is : (founds : List ℕ) → made_in (one_thread code s) m (turns_by code s t m founds) ≡ made_in_path code s m founds
  made_is [] = refl
  made_is (found ∷ earlier) =
      let all = found ∷ earlier in
      ap (λ n. n + counted (state_after (one_thread code s) m (turns_by code s t m all)).at.state) (made_is earlier)
      ∙ ap (λ (x : Machine). made_in_path code s m earlier + counted x.at.state) (machine_is all)

  pub path_of : (founds : List ℕ) → IsCodePath code s m founds → IsPathOf code s t m founds (turns_by code s t m founds)
  path_of founds p = record { path = is_path founds p; own = owns founds; machine = machine_is founds; events = events_are founds; made = made_is founds }
