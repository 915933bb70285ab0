use Rattle.sharc_record.proofs.{Imports.{◌++◌, ℕ, ◌<◌, List, None, get_or, sym, ap, ◌∙◌, subst, THREADS, WordEvent, word_events, HasBegun, GoneOn, Rounds}, Appending.events-append}
use Rattle.sharc_record.proofs.round.Rounds.next.Goals as goal

pub begin-requires-clause-count : goal.begin-requires-clause-count
begin-requires-clause-count g c = c.in_ok-threads.ensures.round.count ∙ c.requires.rounds.seats.count

-- the run goes on by the round
gone_on : (g : _) (c : goal.In_ok-begin g) → GoneOn c.args.code.now c.args.shape.now c.args.limit c.requires.rounds.turns c.args.self.port c.in_ok-threads.field-0.port c.args.self.threads.seats.items c.begin.new.self.seats.items c.in_ok-threads.ensures.round.history.history
gone_on g c =
    let code = c.args.code.now in
    let s = c.args.shape.now in
    let old : Rounds = c.args.self in
    let r = c.requires.rounds in
    let mid : Rounds = c.in_ok-threads.field-0 in
    let each = subst (λ (ws : List ℕ). (t : ℕ) → t < THREADS → HasBegun code s ws t (get_or mid.threads.seats.items t None) (get_or c.begin.new.self.seats.items t None)) c.words-words.ensures c.in_ok-begin.ensures.each in
    c.round_laws.ensures.goes_on code s c.args.limit r.turns old.port mid.port old.threads.seats.items mid.threads.seats.items c.begin.new.self.seats.items c.requires.limit
    record { run = r.run; few = r.few; words_are = r.words; seats_are = r.seats } c.in_ok-threads.ensures.round c.begin.ensures.count each

pub returns-clause-rounds : goal.returns-clause-rounds
returns-clause-rounds g c =
    let old : Rounds = c.args.self in
    let r = c.requires.rounds in
    let mid : Rounds = c.in_ok-threads.field-0 in
    let recorded = c.in_ok-threads.ensures in
    let gone = gone_on g c in
    record {
      turns = gone.more ++ r.turns;
      count = c.round_laws.ensures.length_stays c.args.code.now c.args.shape.now c.args.limit old.port mid.port old.threads.seats.items mid.threads.seats.items recorded.round ∙ r.count;
      run = gone.stands.run;
      few = gone.stands.few;
      words = gone.stands.words_are;
      journal = events-append gone.more r.turns
          ∙ (ap (λ (es : List WordEvent). es ++ word_events gone.more) r.journal ∙ (ap (λ (es : List WordEvent). old.events.items ++ es) gone.events_are ∙ sym recorded.appended));
      seats = gone.stands.seats_are;
    }

pub returns-clause-less : goal.returns-clause-less
returns-clause-less g c = (gone_on g c).fewer c.requires.one
