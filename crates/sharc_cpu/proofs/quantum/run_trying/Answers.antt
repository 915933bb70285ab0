use Rattle.sharc_cpu.proofs.{Imports.{rules, ◌≡◌, ◌+◌, ◌-◌, ◌≤◌, ℕ, vec_len, vec_capacity, sym, ap, ◌∙◌, subst, arith, TurnState, Machine, wait_of, ThreadView, ThreadParts, machine_of, rest_of, IsWithin, GoesWhere, pause_of}, Paths.no_turns, OnPath.{thread_within, goes_thread, stop_is_told}}
use Rattle.sharc_cpu.proofs.quantum.run_trying.Goals as goal

pub returns-in-Stopped-clause-quantum : goal.returns-in-Stopped-clause-quantum
returns-in-Stopped-clause-quantum g c =
    let t : ThreadView = c.args.thread.now in
    let is : t.machine.at.state ≡ TurnState.Stopped = ap (λ (v : ThreadView). v.machine.at.state) (sym c.thread.view_is) ∙ c.in-Stopped.is in
    no_turns g.P.Port.leads (g.P.Port.serves c.args.port.now) c.args.code.now c.args.shape.now c.args.turns c.args.limit t (g.P.Port.place c.args.port.now) _ c.requires.limit (ap (λ (x : TurnState). pause_of x 0 t.made c.args.limit) (sym is)) (λ e. cc)

pub returns-in-Ended-clause-quantum : goal.returns-in-Ended-clause-quantum
returns-in-Ended-clause-quantum g c =
    let t : ThreadView = c.args.thread.now in
    let is : t.machine.at.state ≡ TurnState.Ended = ap (λ (v : ThreadView). v.machine.at.state) (sym c.thread.view_is) ∙ c.in-Ended.is in
    no_turns g.P.Port.leads (g.P.Port.serves c.args.port.now) c.args.code.now c.args.shape.now c.args.turns c.args.limit t (g.P.Port.place c.args.port.now) _ c.requires.limit (ap (λ (x : TurnState). pause_of x 0 t.made c.args.limit) (sym is)) (λ e. cc)

pub go_on-went-requires-clause-shape : goal.go_on-went-requires-clause-shape
go_on-went-requires-clause-shape g c = record {
  shape = search rules;
  within =
      subst (λ (p : ThreadParts). IsWithin c.args.shape.now (rest_of p).own) (sym c.deref_mut.ensures.value)
      (subst (λ (v : ThreadView). IsWithin c.args.shape.now v.machine.own) (sym c.thread.view_is) (thread_within c.thread_laws.ensures c.args.code.now c.args.shape.now c.args.thread.now c.requires.thread));
  words = search rules;
}

pub returns-clause-thread : goal.returns-clause-thread
returns-clause-thread g c =
    let serves = g.P.Port.serves c.args.port.now c.thread.inside.parts.value.number in
    let same : c.deref_mut.result.now ≡ c.thread.inside.parts.value = c.deref_mut.ensures.value in
    let goes = subst (λ (p : ThreadParts). GoesWhere (g.P.Port.serves c.args.port.now p.number) g.P.Port.leads c.args.code.now c.args.shape.now (machine_of c.thread.inside.at p) (machine_of c.go_on-went.result.at c.go_on-went.new.parts) (g.P.Port.place c.args.port.now) (g.P.Port.place c.go_on-went.new.port) c.go_on-went.result.turns c.go_on-went.result.made) same c.go_on-went.ensures.goes in
    goes_thread serves g.P.Port.leads c.args.code.now c.args.shape.now c.args.thread.now _ (g.P.Port.place c.args.port.now) (g.P.Port.place c.go_on-went.new.port) c.go_on-went.result.turns c.go_on-went.result.made
    c.requires.thread
    (subst (λ (m : Machine). GoesWhere serves g.P.Port.leads c.args.code.now c.args.shape.now m (machine_of c.go_on-went.result.at c.go_on-went.new.parts) (g.P.Port.place c.args.port.now) (g.P.Port.place c.go_on-went.new.port) c.go_on-went.result.turns c.go_on-went.result.made) (ap (λ (v : ThreadView). v.machine) c.thread.view_is) goes)
    (c.go_on-went.ensures.number ∙ ap (λ (p : ThreadParts). p.number) same ∙ ap (λ (v : ThreadView). v.machine.own.number) c.thread.view_is)
    (ap (λ (n : ℕ). n + c.go_on-went.result.made) (ap (λ (v : ThreadView). v.made) c.thread.view_is))
    (subst (λ (p : ThreadParts). c.wait_of-thread-inside.result ≡ wait_of c.args.code.now c.args.shape.now (machine_of c.go_on-went.result.at p)) c.deref.ensures c.wait_of-thread-inside.ensures)

pub returns-in-Stopped-clause-stopped : goal.returns-in-Stopped-clause-stopped
returns-in-Stopped-clause-stopped g c =
    let t : ThreadView = c.args.thread.now in
    let is : t.machine.at.state ≡ TurnState.Stopped = ap (λ (v : ThreadView). v.machine.at.state) (sym c.thread.view_is) ∙ c.in-Stopped.is in
    stop_is_told c.thread_laws.ensures c.args.code.now c.args.shape.now t 0 c.args.limit _ c.requires.thread (ap (λ (x : TurnState). pause_of x 0 t.made c.args.limit) (sym is))

pub returns-in-Ended-clause-stopped : goal.returns-in-Ended-clause-stopped
returns-in-Ended-clause-stopped g c =
    let t : ThreadView = c.args.thread.now in
    let is : t.machine.at.state ≡ TurnState.Ended = ap (λ (v : ThreadView). v.machine.at.state) (sym c.thread.view_is) ∙ c.in-Ended.is in
    stop_is_told c.thread_laws.ensures c.args.code.now c.args.shape.now t 0 c.args.limit _ c.requires.thread (ap (λ (x : TurnState). pause_of x 0 t.made c.args.limit) (sym is))

pub returns-clause-stopped : goal.returns-clause-stopped
returns-clause-stopped g c =
    let serves = g.P.Port.serves c.args.port.now c.thread.inside.parts.value.number in
    let same : c.deref_mut.result.now ≡ c.thread.inside.parts.value = c.deref_mut.ensures.value in
    let goes = subst (λ (p : ThreadParts). GoesWhere (g.P.Port.serves c.args.port.now p.number) g.P.Port.leads c.args.code.now c.args.shape.now (machine_of c.thread.inside.at p) (machine_of c.go_on-went.result.at c.go_on-went.new.parts) (g.P.Port.place c.args.port.now) (g.P.Port.place c.go_on-went.new.port) c.go_on-went.result.turns c.go_on-went.result.made) same c.go_on-went.ensures.goes in
    let new : ThreadView = record { machine = machine_of c.go_on-went.result.at c.go_on-went.new.parts; made = c.thread.inside.made + c.go_on-went.result.made; wait = c.wait_of-thread-inside.result; room = 0 } in
    stop_is_told c.thread_laws.ensures c.args.code.now c.args.shape.now new c.go_on-went.result.turns c.args.limit c.answer.result
    (goes_thread serves g.P.Port.leads c.args.code.now c.args.shape.now c.args.thread.now new (g.P.Port.place c.args.port.now) (g.P.Port.place c.go_on-went.new.port) c.go_on-went.result.turns c.go_on-went.result.made
    c.requires.thread
    (subst (λ (m : Machine). GoesWhere serves g.P.Port.leads c.args.code.now c.args.shape.now m (machine_of c.go_on-went.result.at c.go_on-went.new.parts) (g.P.Port.place c.args.port.now) (g.P.Port.place c.go_on-went.new.port) c.go_on-went.result.turns c.go_on-went.result.made) (ap (λ (v : ThreadView). v.machine) c.thread.view_is) goes)
    (c.go_on-went.ensures.number ∙ ap (λ (p : ThreadParts). p.number) same ∙ ap (λ (v : ThreadView). v.machine.own.number) c.thread.view_is)
    (ap (λ (n : ℕ). n + c.go_on-went.result.made) (ap (λ (v : ThreadView). v.made) c.thread.view_is))
    (subst (λ (p : ThreadParts). c.wait_of-thread-inside.result ≡ wait_of c.args.code.now c.args.shape.now (machine_of c.go_on-went.result.at p)) c.deref.ensures c.wait_of-thread-inside.ensures))
    c.answer.ensures

pub returns-clause-room : goal.returns-clause-room
returns-clause-room g c =
    let same = c.deref_mut.ensures.value in
    let new : ThreadParts = c.go_on-went.new.parts in
    let was : ThreadParts = c.thread.inside.parts.value in
    let capacity : vec_capacity new.prints ≡ vec_capacity was.prints = c.go_on-went.ensures.capacity ∙ ap (λ (p : ThreadParts). vec_capacity p.prints) same in
    let prints : vec_len new.prints ≤ vec_len was.prints + c.go_on-went.result.turns = subst (λ (p : ThreadParts). vec_len new.prints ≤ vec_len p.prints + c.go_on-went.result.turns) same c.go_on-went.ensures.prints in
    let room : vec_capacity was.prints - vec_len was.prints ≡ c.args.thread.now.room = ap (λ (v : ThreadView). v.room) c.thread.view_is in
    omega (arith, capacity, prints, room, c.go_on-went.ensures.few)
