use Rattle.sharc_record.proofs.Imports.{◌≡◌, ℕ, false, List, sym, ◌∙◌, subst, ThreadView, place_after, Standing, is_enabled, AreStarted, AreOf}
use Rattle.sharc_record.proofs.round.Rounds.finish.Goals as goal

pub make_places-requires-clause-run : goal.make_places-requires-clause-run
make_places-requires-clause-run c =
    let code = c.args.code.now in
    let s = c.args.shape.now in
    let r = c.requires.rounds in
    let place : Standing = place_after code s r.turns in
    let of : AreOf code s place c.args.self.port c.args.self.threads.seats.items = record { words_are = r.words; are = r.seats } in
    let over : (t : ℕ) → is_enabled code s c.args.limit place t ≡ false =
    (λ t. sym (c.table_laws.ensures.enabled code s c.args.limit place c.args.self.port c.args.self.threads.seats.items of t) ∙ c.requires.none t) in
    (r.turns, record { checked = (c.run_laws.ensures.checked code s r.turns).1 r.run; few = r.few; over = over; events = r.journal ∙ sym c.as_slice.ensures.value })

pub end-end-requires : goal.end-end-requires
end-end-requires c = λ t.
    let r = c.requires.rounds in
    let place : Standing = place_after c.args.code.now c.args.shape.now r.turns in
    c.table_laws.ensures.numbers c.args.code.now c.args.shape.now place.threads place.made place.started c.args.self.threads.seats.items r.seats t

pub returns : goal.returns
returns c =
    let code = c.args.code.now in
    let s = c.args.shape.now in
    let r = c.requires.rounds in
    let place : Standing = place_after code s r.turns in
    let of : AreOf code s place c.args.self.port c.args.self.threads.seats.items = record { words_are = r.words; are = r.seats } in
    let over : (t : ℕ) → is_enabled code s c.args.limit place t ≡ false =
    (λ t. sym (c.table_laws.ensures.enabled code s c.args.limit place c.args.self.port c.args.self.threads.seats.items of t) ∙ c.requires.none t) in
    let checked = (c.run_laws.ensures.checked code s r.turns).1 r.run in
    record {
      turns = r.turns;
      journal_is = record { checked = checked; few = r.few; over = over; events = r.journal };
      places_are = c.in_ok-places.ensures r.turns record { checked = checked; few = r.few; over = over; events = r.journal ∙ sym c.as_slice.ensures.value };
      words = c.into_words.ensures ∙ r.words;
      threads = subst (λ (threads : List ThreadView). AreStarted code s place threads) (sym c.in_ok-into_started.ensures) (c.table_laws.ensures.present code s place c.args.self.port c.args.self.threads.seats.items c.requires.fits.threads of);
      end_is = c.end-end.ensures code s place record { words_are = c.words.ensures ∙ r.words; are = r.seats };
    }
