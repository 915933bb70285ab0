use Rattle.sharc_seq.proofs.{Imports.{ℕ, ◌<◌, List, length, set, ◌∙◌, subst, arith, length-set, Walk, MadeTurnAt, FoundAt, Began, StandsAt}, Grown.{sits, seat_low, Grown, grown, enabled_too}}
use Rattle.sharc_code.specs.Runs.{Turn}
use Rattle.sharc_seq.proofs.walk.Walk.turn.Goals as goal

pub index_mut-requires : goal.index_mut-requires
index_mut-requires c =
    let walk : Walk = c.args.self.now in
    let low : c.args.number < length walk.threads.seats.items = seat_low c.table_laws.ensures c.args.code.now c.args.shape.now c.args.limit c.args.number walk c.requires.may in
    omega (arith, low)

pub turn_at-requires-clause-thread : goal.turn_at-requires-clause-thread
turn_at-requires-clause-thread c = (sits c.table_laws.ensures c.args.code.now c.args.shape.now c.args.limit c.args.number c.args.self.now c.requires.may c.index_mut.result.now c.index_mut.ensures.value).thread

pub turn_at-requires-clause-words : goal.turn_at-requires-clause-words
turn_at-requires-clause-words c = c.requires.may.1.count

pub turn_at-requires-clause-enabled : goal.turn_at-requires-clause-enabled
turn_at-requires-clause-enabled c = (sits c.table_laws.ensures c.args.code.now c.args.shape.now c.args.limit c.args.number c.args.self.now c.requires.may c.index_mut.result.now c.index_mut.ensures.value).may

pub begin-requires-clause-count : goal.begin-requires-clause-count
begin-requires-clause-count c = length-set c.args.self.now.threads.seats.items c.args.number c.turn_at.new.seat ∙ c.requires.may.1.seats.count

-- the walk after the turn
abbrev new : goal.In_ok-begin → Walk
new c = record { threads = c.begin.new.table; started = c.begin.new.started; port = c.turn_at.new.port }

grows : (c : goal.In_ok-begin) (turns : List Turn) → StandsAt c.args.code.now c.args.shape.now turns c.args.self.now → Grown c.args.code.now c.args.shape.now c.args.limit c.args.number turns c.args.self.now (new c)
grows c turns stands =
    let code = c.args.code.now in
    let s = c.args.shape.now in
    let walk : Walk = c.args.self.now in
    let x = c.index_mut.result.now in
    let y = c.turn_at.new.seat in
    let begins = c.in_ok-begins.begins in
    grown c.standing_laws.ensures c.table_laws.ensures code s c.args.limit turns walk (new c) c.args.number c.requires.limit stands
    (enabled_too c.table_laws.ensures code s c.args.limit c.args.number walk c.requires.may turns stands)
    x y begins (sits c.table_laws.ensures code s c.args.limit c.args.number walk c.requires.may x c.index_mut.ensures.value).is
    (subst (λ (ws : List ℕ). MadeTurnAt code s ws c.turn_at.new.port.port x y begins) stands.words c.in_ok-begins.ensures.turn)
    c.in_ok-begins.ensures.told
    (subst (λ (ws : List ℕ). FoundAt code s ws x c.turn_at.new.port.found) stands.words c.in_ok-begins.ensures.found)
    (subst (λ (ws : List ℕ). Began code s ws begins (set walk.threads.seats.items c.args.number y) c.begin.new.table.seats.items walk.started.items c.begin.new.started.items) c.words-now.ensures c.in_ok-begin.ensures)

pub returns-clause-went : goal.returns-clause-went
returns-clause-went c = λ turns stands. (grows c turns stands).went

pub returns-clause-less : goal.returns-clause-less
returns-clause-less c = (grows c c.requires.may.0 c.requires.may.1).less
