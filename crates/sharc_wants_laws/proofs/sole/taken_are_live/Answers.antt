use Rattle.sharc_wants_laws.proofs.{Imports.{◌≡◌, ◌≢◌, ⊎_elim, ℕ, ◌+◌, ◌==◌, true, not, ◌&&◌, List, [], ◌∷◌, ◌++◌, sym, ap, ◌∙◌, arith, eq-eqb, get_or, pos, SourceEvent, events_of, Asked, number_of, Begun, asked_with, refers, answers_of, Outcome, spent, wants, place_after, MayStart, history_of, objects_there}, Only.registered_live}
use Rattle.sharc_wants_laws.proofs.sole.taken_are_live.Goals as goal

no_last : (before : List SourceEvent) (e : SourceEvent) → before ++ e ∷ [] ≡ [] → ⊥
no_last [] e h = cc
no_last (x ∷ before) e h = cc

not_spent : (o : Outcome) (e : SourceEvent) → o ≡ wants e → o ≢ spent
not_spent o e is h = let z : wants e ≡ spent = sym is ∙ h in cc

pub returns : goal.returns
returns c = λ m p flat flattens fits code is x s ls wt fits_code small run checked thread n some t.
    let R = history_of code s run in
    ⊎_elim
    (λ (none : events_of thread R ≡ []). absurd (no_last t.before t.event (sym t.last ∙ none)))
    (λ (k : (b : Begun m R thread) × MayStart m b.own.function).
    let b = k.0 in
    let e = c.last_takers.ensures.free m R thread n t b in
    let registered = c.held_registered.ensures m p flat flattens fits code is s run checked (c.paths_law.ensures x code s ls wt fits_code small run checked) thread b k.1 in
    let later : ℕ = b.fuel + registered.fuel in
    let same : asked_with b later ≡ asked_with b b.fuel =
    c.ask_laws.ensures.fuel_same m b.own.function b.own.argument (answers_of (events_of thread b.own.after)) b.fuel registered.fuel (not_spent (asked_with b b.fuel).outcome e.event e.wanted) in
    let there : refers n (get_or (asked_with b later).held e.held.0 (pos 0)) ≡ true =
    ap (λ (a : Asked). refers n (get_or a.held e.held.0 (pos 0))) same ∙ ap (refers n) e.held.1
    ∙ ap (λ b. not b && (number_of e.reference == n)) e.some ∙ eq-eqb (number_of e.reference) n e.number in
    registered_live x code s ls wt (place_after code s run) (objects_there x code s ls run) (c.runs_stand.ensures x code s ls wt fits_code small run ((c.run_laws.ensures.checked code s run).0 checked))
    (λ u off. c.causes_law.ensures.unstarted x code s ls wt fits_code small run checked u off) thread n some
    (registered.held later (omega arith) e.held.0 n there))
    (c.threads_have_begun.ensures m p.typed flat flattens fits code is x s ls wt fits_code small run checked thread)
