use Rattle.std.proofs.Common.{List, sym, ◌∙◌, subst}
use Rattle.sharc_cpu.specs.Thread.{ThreadView}
use Rattle.sharc_code.specs.Whole.{place_after}
use Rattle.sharc_threads.specs.{Ends.{Standing, AreStarted}, Seats.AreOf}
use Rattle.sharc_rounds.proofs.round.Rounds.finish.Goals as goal

pub end-end-requires : goal.end-end-requires
end-end-requires c = λ t.
    let r = c.requires.rounds in
    let place : Standing = place_after c.args.code.now c.args.shape.now r.turns in
    c.table_laws.ensures.numbers c.args.code.now c.args.shape.now place.threads place.made place.started c.args.self.threads.seats.items r.seats t

pub returns : goal.returns
returns c =
    let code = c.args.code.now in
    let s = c.args.shape.now in
    let r = c.requires.rounds in
    let place : Standing = place_after code s r.turns in
    let of : AreOf code s place c.args.self.words.rest.words c.args.self.threads.seats.items = record { words_are = r.words; are = r.seats } in
    record {
      turns = r.turns;
      checked = (c.run_laws.ensures.checked code s r.turns).1 r.run;
      few = r.few;
      over = λ t. sym (c.table_laws.ensures.enabled code s c.args.limit place c.args.self.words.rest.words c.args.self.threads.seats.items of t) ∙ c.requires.none t;
      words = c.close-words.ensures ∙ r.words;
      threads = subst (λ (threads : List ThreadView). AreStarted code s place threads) (sym c.in_ok-into_started.ensures) (c.table_laws.ensures.present code s place c.args.self.words.rest.words c.args.self.threads.seats.items c.requires.fits.threads of);
      end_is = c.end-end.ensures code s place record { words_are = c.as_slice.ensures.value ∙ c.close-words.ensures ∙ r.words; are = r.seats };
    }
