use Rattle.sharc_seq.proofs.{Imports.{refl, with_item, Walk}, Grown.sits, Quieting.hurries}
use Rattle.sharc_seq.proofs.walk.Walk.quiet_turns.Goals as goal

pub quiet_turns_at-requires-clause-thread : goal.quiet_turns_at-requires-clause-thread
quiet_turns_at-requires-clause-thread c = (sits c.table_laws.ensures c.args.code.now c.args.shape.now c.args.limit c.args.number c.args.self.now c.requires.may c.index_mut.result.now c.index_mut.ensures.value).thread

pub quiet_turns_at-requires-clause-enabled : goal.quiet_turns_at-requires-clause-enabled
quiet_turns_at-requires-clause-enabled c = (sits c.table_laws.ensures c.args.code.now c.args.shape.now c.args.limit c.args.number c.args.self.now c.requires.may c.index_mut.result.now c.index_mut.ensures.value).may

pub returns-clause-went : goal.returns-clause-went
returns-clause-went c = λ turns stands.
    let new : Walk = record { threads = record { seats = with_item c.args.self.now.threads.seats c.args.number c.quiet_turns_at.new.seat }; started = c.args.self.now.started; port = c.quiet_turns_at.new.port } in
    (hurries c.standing_laws.ensures c.table_laws.ensures c.thread_laws.ensures c.args.code.now c.args.shape.now c.args.limit c.args.number c.requires.limit c.args.self.now new c.requires.may refl
    c.index_mut.result.now c.quiet_turns_at.new.seat c.quiet_turns_at.result c.index_mut.ensures.value c.quiet_turns_at.ensures refl turns stands).went

pub returns-clause-few : goal.returns-clause-few
returns-clause-few c =
    let new : Walk = record { threads = record { seats = with_item c.args.self.now.threads.seats c.args.number c.quiet_turns_at.new.seat }; started = c.args.self.now.started; port = c.quiet_turns_at.new.port } in
    (hurries c.standing_laws.ensures c.table_laws.ensures c.thread_laws.ensures c.args.code.now c.args.shape.now c.args.limit c.args.number c.requires.limit c.args.self.now new c.requires.may refl
    c.index_mut.result.now c.quiet_turns_at.new.seat c.quiet_turns_at.result c.index_mut.ensures.value c.quiet_turns_at.ensures refl c.requires.may.0 c.requires.may.1).few_are

pub returns-clause-left : goal.returns-clause-left
returns-clause-left c =
    let new : Walk = record { threads = record { seats = with_item c.args.self.now.threads.seats c.args.number c.quiet_turns_at.new.seat }; started = c.args.self.now.started; port = c.quiet_turns_at.new.port } in
    (hurries c.standing_laws.ensures c.table_laws.ensures c.thread_laws.ensures c.args.code.now c.args.shape.now c.args.limit c.args.number c.requires.limit c.args.self.now new c.requires.may refl
    c.index_mut.result.now c.quiet_turns_at.new.seat c.quiet_turns_at.result c.index_mut.ensures.value c.quiet_turns_at.ensures refl c.requires.may.0 c.requires.may.1).left_is
