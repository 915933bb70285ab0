use Rattle.sharc_seq.proofs.Imports.{◌<◌, List, Option, None, length, sym, ap, ◌∙◌, subst, arith, place_after, ThreadView, Standing, has_number, may_turn_at, any_default}
use Rattle.sharc_seq.proofs.walk.Walk.may_turn.Goals as goal

pub index-requires : goal.index-requires
index-requires c = omega (arith, c.requires.number, c.requires.walk.2.1.seats.count)

pub may_turn_at-requires : goal.may_turn_at-requires
may_turn_at-requires c =
    let seats : List (Option ThreadView) = c.args.self.now.threads.seats.items in
    let code = c.requires.walk.0 in
    let s = c.requires.walk.1 in
    let stands = c.requires.walk.2.1 in
    let place : Standing = place_after code s c.requires.walk.2.0 in
    let low : c.args.number < length seats = omega (arith, c.requires.number, stands.seats.count) in
    let x : Option ThreadView = c.index.result.now in
    subst has_number (sym (c.index.ensures ∙ any_default seats c.args.number x None low))
    (c.table_laws.ensures.numbers code s place.threads place.made place.started seats stands.seats c.args.number)

pub returns : goal.returns
returns c = λ code s turns stands.
    let seats : List (Option ThreadView) = c.args.self.now.threads.seats.items in
    let low : c.args.number < length seats = omega (arith, c.requires.number, stands.seats.count) in
    let x : Option ThreadView = c.index.result.now in
    c.may_turn_at.ensures
    ∙ ap (may_turn_at c.words.result.now c.args.limit) (c.index.ensures ∙ any_default seats c.args.number x None low)
    ∙ c.table_laws.ensures.enabled code s c.args.limit (place_after code s turns) c.words.result.now seats record { words_are = c.words.ensures ∙ stands.words; are = stands.seats } c.args.number
