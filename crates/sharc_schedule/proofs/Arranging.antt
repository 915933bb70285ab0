-- A checked run with its turns without a word operation moved is a checked run that ends in the same place.
use Rattle.sharc_schedule.proofs.{Imports.{◌≡◌, ℕ, ◌+◌, ◌≤◌, List, sym, ap, ◌∙◌, subst, THREADS, LegalHistory, words_after, SourceEvent, Machine, opening_words, IsPath, Global, OneThread, word_events, turns_of, made_in, state_after, opening_of, RunLaws, StandsWhere, settled, one_thread, bounds, arranged, ArrangedRuns}, Arranged.{arranged_events, arranged_turns}, Started.{all_begun, begun, all_loose_begun, no_turn_past, same_started}}

pub arrange : RunLaws → ArrangedRuns
arrange laws code s turns run =
    let m : OneThread Machine SourceEvent = one_thread code s in
    let opening : List ℕ = opening_words code s in
    let from : Global Machine = opening_of bounds m opening in
    let all = all_begun bounds m opening turns run.begun in
    let events : word_events (arranged turns) ≡ word_events turns = arranged_events THREADS turns in
    let each : (t : ℕ) → turns_of t (arranged turns) ≡ turns_of t turns = (λ t. arranged_turns THREADS t turns (λ le. no_turn_past bounds m opening t turns all le)) in
    let one : StandsWhere bounds m from (arranged turns) = laws.stands bounds code s from (arranged turns) in
    let other : StandsWhere bounds m from turns = laws.stands bounds code s from turns in (
      record {
        legal = subst (λ es. LegalHistory opening es) (sym events) run.legal;
        paths = (λ t. subst (λ ts. IsPath m (from.threads t) ts) (sym (each t)) (run.paths t));
        begun = begun bounds m opening (arranged turns) (all_loose_begun bounds m opening THREADS turns all);
        few = (λ t. subst (λ ts. from.made t + made_in m (from.threads t) ts ≤ 100000000) (sym (each t)) (run.few t));
      },
      events,
      record {
        words = one.words ∙ (ap (λ es. words_after opening es) events ∙ sym other.words);
        threads = (λ t. ap settled (one.threads t ∙ (ap (λ ts. state_after m (from.threads t) ts) (each t) ∙ sym (other.threads t))));
        started = (λ t. one.started t ∙ (same_started bounds m opening t (arranged turns) turns events ∙ sym (other.started t)));
        made = (λ t. one.made t ∙ (ap (λ ts. from.made t + made_in m (from.threads t) ts) (each t) ∙ sym (other.made t)));
      },
    )
