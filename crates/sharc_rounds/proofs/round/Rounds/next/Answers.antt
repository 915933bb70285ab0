use Rattle.std.proofs.Common.{◌++◌, ℕ, ◌<◌, List, None, length, get_or, ap, ◌∙◌, subst}
use Rattle.sharc_word.specs.declared.step.TheConstants.{THREADS}
use Rattle.sharc_threads.specs.Seats.{HasBegun}
use Rattle.sharc_bus.specs.Bus.{RestView}
use Rattle.sharc_rounds.specs.{declared.round.Rounds.Rounds, declared.words.Words.Words, Round.AreWords, Laws.GoneOn}
use Rattle.sharc_rounds.proofs.Looking.{begun_same, are_kept, are_same}
use Rattle.sharc_rounds.proofs.round.Rounds.next.Goals as goal

pub look_at_states-requires : goal.look_at_states-requires
look_at_states-requires g c =
    let old : Rounds = c.args.self in
    let mid : Rounds = c.in_ok-threads.field-0 in
    let told = c.in_ok-threads.ensures in
    let count = c.round_laws.ensures.length_stays c.args.code.now c.args.shape.now c.args.limit old.words.rest.words mid.words.rest.words old.threads.seats.items mid.threads.seats.items told.made in
    are_kept old.words mid.words c.requires.rounds.kept told.kept count

pub begin-requires-clause-count : goal.begin-requires-clause-count
begin-requires-clause-count g c = c.in_ok-threads.ensures.made.count ∙ c.requires.rounds.seats.count

-- the run goes on by the round
gone_on : (g : _) (c : goal.In_ok-begin g)
    → GoneOn c.args.code.now c.args.shape.now c.args.limit c.requires.rounds.turns c.args.self.words.rest.words c.in_ok-threads.field-0.words.rest.words c.args.self.threads.seats.items c.begin.new.self.seats.items c.in_ok-threads.ensures.made.history.history
gone_on g c =
    let code = c.args.code.now in
    let s = c.args.shape.now in
    let old : Rounds = c.args.self in
    let r = c.requires.rounds in
    let mid : Rounds = c.in_ok-threads.field-0 in
    let looked : Words = c.look_at_states.new.self in
    let now : List ℕ = mid.words.rest.words in
    let each : (t : ℕ) → t < THREADS → HasBegun code s now t (get_or mid.threads.seats.items t None) (get_or c.begin.new.self.seats.items t None) = λ t low.
    begun_same code s looked.seen.items now t (get_or mid.threads.seats.items t None) (get_or c.begin.new.self.seats.items t None) (c.look_at_states.ensures.states t low)
    (subst (λ (ws : List ℕ). HasBegun code s ws t (get_or mid.threads.seats.items t None) (get_or c.begin.new.self.seats.items t None)) c.as_slice.ensures.value (c.in_ok-begin.ensures.each t low)) in
    c.round_laws.ensures.goes_on code s c.args.limit r.turns old.words.rest.words now old.threads.seats.items mid.threads.seats.items c.begin.new.self.seats.items c.requires.limit
    record { run = r.run; few = r.few; words_are = r.words; seats_are = r.seats } c.in_ok-threads.ensures.made c.begin.ensures.count each

pub returns-clause-rounds : goal.returns-clause-rounds
returns-clause-rounds g c =
    let old : Rounds = c.args.self in
    let r = c.requires.rounds in
    let mid : Rounds = c.in_ok-threads.field-0 in
    let made = c.in_ok-threads.ensures.made in
    let same = c.look_at_states.ensures.same in
    let gone = gone_on g c in
    let count = c.round_laws.ensures.length_stays c.args.code.now c.args.shape.now c.args.limit old.words.rest.words mid.words.rest.words old.threads.seats.items mid.threads.seats.items made in
    let kept : AreWords mid.words = are_kept old.words mid.words r.kept c.in_ok-threads.ensures.kept count in
    record {
      turns = gone.more ++ r.turns;
      kept = are_same mid.words c.look_at_states.new.self kept same;
      count = ap (λ (v : RestView). length v.words) same.rest ∙ count ∙ r.count;
      run = gone.stands.run;
      few = gone.stands.few;
      words = ap (λ (v : RestView). v.words) same.rest ∙ gone.stands.words_are;
      seats = gone.stands.seats_are;
    }

pub returns-clause-less : goal.returns-clause-less
returns-clause-less g c = (gone_on g c).fewer c.requires.one
