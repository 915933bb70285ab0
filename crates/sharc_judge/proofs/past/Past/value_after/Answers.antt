use Rattle.std.proofs.Common.{◌≡◌, true, ap, sym, ◌∙◌, to_z, of_z, w64, rules}
use Rattle.std.specs.Prelude.{if◌then◌else◌}
use mir.Syntax.{w128}
use Rattle.sharc_meaning.specs.Store.{initial_value, value_left, value_after}
use Rattle.sharc_judge.specs.{declared.keys.CellKey.CellKey, Latest.{latest_about, last_make, is_behind}}
use Rattle.sharc_judge.specs.declared.topics.Topic.TheVariants as topic
use Rattle.sharc_judge.proofs.{Storing.{value_of, value_is}, past.Past.value_after.Goals.{in_default-via-in-Some+else-is_behind, in_default-via-in_default}}
use Rattle.sharc_judge.proofs.past.Past.value_after.Goals as goal

pub returns-in-Some : goal.returns-in-Some
returns-in-Some c =
    let noted = c.in-Some.noted in
    let initial = initial_value c.args.typed.now c.args.cell.object in
    let make = last_make c.args.cell.object c.args.self.now in
    let behind : is_behind noted.place make ≡ true = sym (c.is_behind.ensures ∙ ap (is_behind noted.place) c.last_make.ensures) ∙ c.if-is_behind.true in
    let value : c.value_left.result ≡ value_after c.args.typed.now c.args.self.now c.args.cell =
    c.value_left.ensures
    ∙ sym (ap (λ b. if b then value_left noted.event.act else initial) behind)
    ∙ ap (λ z. value_of initial z make) (sym c.in-Some.is ∙ c.latest.ensures ∙ ap (λ (k : CellKey). latest_about (topic.Change k) c.args.self.now) c.cell_key.ensures)
    ∙ value_is c.args.typed.now c.args.cell c.args.self.now in
    let cast : to_z w128 (of_z w128 (to_z w64 (of_z w64 c.value_left.result))) ≡ c.value_left.result = search rules in
    cast ∙ value

pub returns-in_default : goal.returns-in_default
returns-in_default c =
    let initial = initial_value c.args.typed.now c.args.cell.object in
    let make = last_make c.args.cell.object c.args.self.now in
    let found = c.latest.ensures ∙ ap (λ (k : CellKey). latest_about (topic.Change k) c.args.self.now) c.cell_key.ensures in
    let value : initial ≡ value_after c.args.typed.now c.args.self.now c.args.cell =
    elim c.in_default.branch [
      | in_default-via-in-Some+else-is_behind w ↦
          sym (ap (λ b. if b then value_left w.in-Some.noted.event.act else initial) (sym (w.is_behind.ensures ∙ ap (is_behind w.in-Some.noted.place) w.last_make.ensures) ∙ w.if-is_behind.false))
          ∙ ap (λ z. value_of initial z make) (sym w.in-Some.is ∙ found)
          ∙ value_is c.args.typed.now c.args.cell c.args.self.now
      | in_default-via-in_default w ↦ ap (λ z. value_of initial z make) (sym w.in_default.is ∙ found) ∙ value_is c.args.typed.now c.args.cell c.args.self.now
    ] in
    let cast : to_z w128 (of_z w128 c.value_after.result) ≡ c.value_after.result = search rules in
    cast ∙ c.value_after.ensures ∙ value
