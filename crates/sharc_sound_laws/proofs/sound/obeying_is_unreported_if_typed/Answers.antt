use Rattle.sharc_sound_laws.proofs.{Imports.{◌≡◌, ℕ, Some, List, ◌∷◌, ◌++◌, refl, subst, ConflictAt, Stop, Conflict, NoLock, opening_words, IsRun, Turn, opening_of, CheckedRun, bounds, one_thread, place_after, IsAccessReport}, Starts.first_is, Unreported.{unbroken, unlocked}}
use Rattle.sharc_sound_laws.proofs.sound.obeying_is_unreported_if_typed.Goals as goal

pub returns : goal.returns
returns c = λ m p flat flattens fits code is x ls wt always s shape few run checked t stop stopped report.
    let laws = c.run_laws-2.ensures in
    let first = first_is flat code is in
    let placed = λ (run : List Turn) (checked : CheckedRun code s run) (t : ℕ). c.threads_stand_if_typed.ensures m p flat flattens fits code is x ls wt s shape few run checked t in
    let source = λ (run : List Turn) (checked : CheckedRun code s run). (c.sound_if_typed.ensures m p.typed p.unsigned flat flattens fits code is x ls wt s shape few run checked).source in
    let of_access : (d : ConflictAt) → stop ≡ Conflict d → ⊥ = λ d same.
    let h = c.causes_law.ensures.rules x code s ls wt shape few (c.followed_law.ensures flat code is) run checked t d (subst (λ (v : Stop). ((place_after code s run).threads t).own.stop ≡ Some v) same stopped) in
    let from = opening_of bounds (one_thread code s) (opening_words code s) in
    let all : IsRun bounds (one_thread code s) from (h.later ++ h.report ∷ h.before) = subst (IsRun bounds (one_thread code s) from) h.parts ((laws.checked code s run).0 checked) in
    let earlier = (laws.checked code s h.before).1 ((laws.join bounds code s from h.later (h.report ∷ h.before)).0 all).0.0 in
    unbroken c.ask_laws.ensures c.run_laws.ensures m always code first s (c.followed_law.ensures flat code is) run h (placed h.before earlier) (source h.before earlier)
    in
    let of_lock : (site word : ℕ) → stop ≡ NoLock site word → ⊥ = λ site word same.
    let here = subst (λ (v : Stop). ((place_after code s run).threads t).own.stop ≡ Some v) same stopped in
    unlocked c.ask_laws.ensures c.run_laws.ensures m always code first s run t site word here ((c.threads_law.ensures x code s ls wt shape few run checked).stopped t (NoLock site word) here)
    (c.reports_law.ensures.locks x code s ls wt shape few run checked t site word here) (placed run checked t) (source run checked)
    in
    by_stop stop of_access of_lock report
  where
    by_stop : (stop : Stop) → ((d : ConflictAt) → stop ≡ Conflict d → ⊥) → ((site word : ℕ) → stop ≡ NoLock site word → ⊥) → IsAccessReport stop → ⊥
    by_stop (Conflict d) a b h = a d refl
    by_stop (NoLock site word) a b h = b site word refl
    by_stop _ a b h = h
