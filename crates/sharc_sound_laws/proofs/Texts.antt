-- Codes that are alike report a run in the same words.
use Rattle.sharc_sound_laws.proofs.{Imports.{◌≡◌, ℕ, ◌-◌, cond, List, [], ◌++◌, codes, decimal, slice_index, flat_map, get_or, Option, Some, None, refl, ap, ◌∙◌, trap_number, Kind, Code, Use, Stop, Conflict, NoLock, NotSole, Trap, Wait, Mutex, Cond, place_at, is_held_up, ThreadView, NotedCheck, number_of, other_access, lock_path, at_site, lvalue_at, access_text, code_of, other_text, of_use, of_taking, trap_words, stop_text, wait_text, made_text, unstopped_text, why_text, thread_line, print_line, IsRunText, AreAlike, flat_same}, Lists.ap2}
use Rattle.sharc_code.specs.declared.state.Wait.TheVariants.{Join}
use Rattle.sharc_run.specs.RunText.{of_kind, is_gone}

module _ (a b : Code) (alike : AreAlike a b) where
  -- ---- sites
  at_same : (site : ℕ) → at_site a site ≡ at_site b site
  at_same site = ap2 (λ files place. codes " at " ++ (get_or files place.file [] ++ codes ":" ++ decimal place.line)) alike.files (alike.sites site).site

  lvalue_same : (site : ℕ) → lvalue_at a site ≡ lvalue_at b site
  lvalue_same site = ap2 (λ x y. x ++ y) (alike.sites site).lvalue (at_same site)

  -- ---- stops
  access_same : (kind : Kind) (site : ℕ) → access_text a kind site ≡ access_text b kind site
  access_same kind site = ap (λ x. of_kind kind ++ x) (lvalue_same site)

  other_same : (other : Option NotedCheck) → other_text a other ≡ other_text b other
  other_same None = refl
  other_same (Some x) = ap (λ t. codes " conflicts with " ++ t ++ codes " by thread " ++ decimal x.thread) (access_same x.kind x.site)

  stop_same : (threads : List ThreadView) (thread : ℕ) (stop : Stop) → stop_text a threads thread stop ≡ stop_text b threads thread stop
  stop_same threads thread (Conflict c) = ap2 (λ x y. code_of c.kind ++ x ++ y) (access_same c.kind c.site) (other_same (other_access c threads thread))
  stop_same threads thread (NoLock site word) =
      ap2 (λ (u : Use) x. codes "A3 " ++ of_use u ++ x ++ codes " without lock " ++ lock_path a site) (alike.sites site).at (lvalue_same site)
      ∙ ap (λ x. codes "A3 " ++ of_use (place_at b site).at ++ lvalue_at b site ++ codes " without lock " ++ x) (alike.sites site).lock
  stop_same threads thread (NotSole site count) = ap2 (λ (u : Use) x. of_taking u ++ x ++ codes " with " ++ decimal count ++ codes " references") (alike.sites site).at (lvalue_same site)
  stop_same threads thread (Trap trap site) = ap (λ x. codes "X" ++ decimal (trap_number trap) ++ codes " " ++ trap_words trap ++ x) (at_same site)

  -- ---- threads
  wait_text_same : (words : List ℕ) (wait : Wait) → wait_text a words wait ≡ wait_text b words wait
  wait_text_same words (Mutex word site) = ap (λ x. codes "waits for mutex " ++ x ++ codes " held by thread " ++ decimal (slice_index words word - 1)) (lvalue_same site)
  wait_text_same words (Join thread site) = ap (λ x. codes "waits for thread " ++ decimal thread ++ x) (at_same site)
  wait_text_same words (Cond word site) = ap (λ x. codes "waits for signal of " ++ x) (lvalue_same site)

  unstopped_same : (words : List ℕ) (t : ThreadView) (wait : Option Wait) → unstopped_text a words t wait ≡ unstopped_text b words t wait
  unstopped_same words t None = refl
  unstopped_same words t (Some wait) = ap (λ x. cond (is_held_up words (number_of t) wait) x (made_text t.made)) (wait_text_same words wait)

  why_same : (words : List ℕ) (threads : List ThreadView) (t : ThreadView) (stop : Option Stop) → why_text a words threads t stop ≡ why_text b words threads t stop
  why_same words threads t None = unstopped_same words t t.wait
  why_same words threads t (Some stop) = stop_same threads (number_of t) stop

  line_same : (words : List ℕ) (threads : List ThreadView) (t : ThreadView) → thread_line a words threads t ≡ thread_line b words threads t
  line_same words threads t = ap (λ x. cond (is_gone t.machine.at.state) [] (codes "thread " ++ decimal (number_of t) ++ codes ": " ++ x ++ codes "\n")) (why_same words threads t t.machine.own.stop)

  pub text_same : (words : List ℕ) (threads : List ThreadView) (text : List ℕ) → IsRunText a words threads text → IsRunText b words threads text
  text_same words threads text is = record {
    prints = is.prints;
    in_order = is.in_order;
    is = is.is ∙ ap (λ x. flat_map print_line is.prints ++ x) (flat_same (thread_line a words threads) (thread_line b words threads) (line_same words threads) threads);
  }
