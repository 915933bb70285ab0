use Rattle.sharc_guard.proofs.{Imports.{ap, sym, ◌∙◌, Some, Write, notes_of, of_cell, passed_at, place_from, stronger, with_place}, Noting.{variable_noted, global_noted}}
use Rattle.sharc_guard.proofs.marks.Knowledge.note_place.Goals as goal

pub returns-in_ok-insert-in-InVariable : goal.returns-in_ok-insert-in-InVariable
returns-in_ok-insert-in-InVariable c =
    let s = notes_of c.args.self.now in
    variable_noted s (of_cell c.insert.new.self.entries) c.in-InVariable.variable c.in-InVariable.number c.args.time c.args.kind
    c.stronger-kind.result (c.stronger-kind.ensures ∙ ap (λ p. stronger (passed_at s Write (place_from p)) c.args.kind) c.in-InVariable.is) c.in_ok-insert-in-InVariable.ensures.updates.0
    ∙ ap (λ p. with_place c.args.kind (Some (place_from p)) c.args.time s) (sym c.in-InVariable.is)

pub returns-in_ok-insert-in-InGlobal : goal.returns-in_ok-insert-in-InGlobal
returns-in_ok-insert-in-InGlobal c =
    let s = notes_of c.args.self.now in
    global_noted s (of_cell c.insert-in-InGlobal.new.self.entries) c.in-InGlobal.global c.in-InGlobal.number c.args.time c.args.kind
    c.stronger-kind.result (c.stronger-kind.ensures ∙ ap (λ p. stronger (passed_at s Write (place_from p)) c.args.kind) c.in-InGlobal.is) c.in_ok-insert-in-InGlobal.ensures.updates.0
    ∙ ap (λ p. with_place c.args.kind (Some (place_from p)) c.args.time s) (sym c.in-InGlobal.is)
