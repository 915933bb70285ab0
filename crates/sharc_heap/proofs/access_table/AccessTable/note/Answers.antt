use Rattle.sharc_heap.proofs.{Imports.{◌∙◌, sym, ◌<◌, length, arith, OnFalse_from}, Table.{room_for_new, test_is, step_keeps, step_notes, step_is}}
use Rattle.sharc_heap.proofs.access_table.AccessTable.note.Goals as goal

pub list_first-requires : goal.list_first-requires
list_first-requires g c =
    let within : c.args.granule < length c.self.inside.notes.items = rw (← c.self.view_is) at c.requires in
    OnFalse_from _ _ (λ new.
    let room = room_for_new c.self.inside.notes.items c.self.inside.order.items _ c.args.granule c.self.invariant within (sym (test_is c.self.inside.notes.items c.args.granule c.index.result.now c.is_noted.result within c.index.ensures c.is_noted.ensures) ∙ new) in
    let len = c.self.inside.order.ok.0 in
    omega arith)

pub invariant_of-self : goal.invariant_of-self
invariant_of-self g c =
    let within : c.args.granule < length c.self.inside.notes.items = rw (← c.self.view_is) at c.requires in
    step_keeps c.self.inside.notes.items c.self.inside.order.items _ _ c.args.granule c.args.kind record { epoch = c.args.epoch; site = c.args.site } c.index.result.now c.with.result c.is_noted.result c.list_first.new.order.items c.self.invariant c.list_first.ensures.capacity
    record { within = within; read = c.index.ensures; tested = c.is_noted.ensures; made = c.with.ensures; listed = c.list_first.ensures.items }

pub returns-clause-notes : goal.returns-clause-notes
returns-clause-notes g c =
    let within : c.args.granule < length c.self.inside.notes.items = rw (← c.self.view_is) at c.requires in
    rw (← c.self.view_is)
    (step_notes c.self.inside.notes.items c.self.inside.order.items c.args.granule c.args.kind record { epoch = c.args.epoch; site = c.args.site } c.index.result.now c.with.result c.is_noted.result c.list_first.new.order.items
    record { within = within; read = c.index.ensures; tested = c.is_noted.ensures; made = c.with.ensures; listed = c.list_first.ensures.items })

pub returns-clause-is : goal.returns-clause-is
returns-clause-is g c =
    let within : c.args.granule < length c.self.inside.notes.items = rw (← c.self.view_is) at c.requires in
    rw (← c.self.view_is)
    (step_is c.self.inside.notes.items c.self.inside.order.items c.args.granule c.args.kind record { epoch = c.args.epoch; site = c.args.site } c.index.result.now c.with.result c.is_noted.result c.list_first.new.order.items
    record { within = within; read = c.index.ensures; tested = c.is_noted.ensures; made = c.with.ensures; listed = c.list_first.ensures.items })
