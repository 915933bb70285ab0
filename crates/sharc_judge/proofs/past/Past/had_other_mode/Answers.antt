use Rattle.std.proofs.{Common.{◌≡◌, ◌&&◌, true, false, ap, sym, ◌∙◌}, lemmas.Bool.and_parts}
use Rattle.sharc_meaning.specs.Events.{access_by}
use Rattle.sharc_judge.specs.declared.rule.Rule.TheVariants as rule
use Rattle.sharc_judge.specs.{Deciding.{disagrees, view_access}, declared.keys.CellKey.CellKey, Latest.{latest_about, last_period, is_behind}}
use Rattle.sharc_judge.specs.declared.topics.Topic.TheVariants as topic
use Rattle.sharc_judge.proofs.Moding.{other_mode, mode_is}
use Rattle.sharc_judge.proofs.past.Past.had_other_mode.Goals as goal
use Rattle.sharc_lemmas.proofs.Bools.{and_true as and_all}

pub returns-in-None : goal.returns-in-None
returns-in-None c =
    ap (λ z. other_mode c.args.a z (last_period c.args.a.cell.object c.args.self.now)) (sym c.in-None.is ∙ c.latest.ensures ∙ ap (λ (k : CellKey). latest_about (topic.Access k) c.args.self.now) c.cell_key.ensures)
    ∙ mode_is c.same_laws.ensures c.args.a c.args.self.now (c.requires rule.OneMode)

pub returns-then-is_met : goal.returns-then-is_met
returns-then-is_met c =
    let noted = c.in-Some.noted in
    let period = last_period c.args.a.cell.object c.args.self.now in
    let differs : disagrees (view_access c.args.a) (access_by noted.event.act) ≡ true = (and_parts _ true (sym c.is_met.ensures ∙ c.if-is_met.true)).0 in
    c.is_behind.ensures
    ∙ ap (is_behind noted.place) c.last_period.ensures
    ∙ sym (ap (λ b. b && is_behind noted.place period) differs)
    ∙ ap (λ z. other_mode c.args.a z period) (sym c.in-Some.is ∙ c.latest.ensures ∙ ap (λ (k : CellKey). latest_about (topic.Access k) c.args.self.now) c.cell_key.ensures)
    ∙ mode_is c.same_laws.ensures c.args.a c.args.self.now (c.requires rule.OneMode)

pub returns-else-is_met : goal.returns-else-is_met
returns-else-is_met c =
    let noted = c.in-Some.noted in
    let period = last_period c.args.a.cell.object c.args.self.now in
    let agrees : disagrees (view_access c.args.a) (access_by noted.event.act) ≡ false = sym (and_all _) ∙ sym c.is_met.ensures ∙ c.if-is_met.false in
    c.if-is_met.false
    ∙ sym (ap (λ b. b && is_behind noted.place period) agrees)
    ∙ ap (λ z. other_mode c.args.a z period) (sym c.in-Some.is ∙ c.latest.ensures ∙ ap (λ (k : CellKey). latest_about (topic.Access k) c.args.self.now) c.cell_key.ensures)
    ∙ mode_is c.same_laws.ensures c.args.a c.args.self.now (c.requires rule.OneMode)
