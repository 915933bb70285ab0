use Rattle.sharc_flatten.proofs.{Imports.{◌≡◌, Some, ap, sym, ◌∙◌, Resolution, global_at, globals_in, cells_in, globals_of, all_granules, all_first_words}, GlobalLemmas.{list_more, granules_more, words_more}}
use Rattle.sharc_flatten.proofs.globals.globals_of.Goals as goal

pub loop-number-preserved : goal.loop-number-preserved
loop-number-preserved c =
    let t = c.typed-t.result.now in
    let gs = globals_in t.program.items in
    let n = c.loop-number.number in
    let g = c.in-Some.global.now in
    let old = c.loop-number.all in
    let new = c.add.new.self in
    let inv = c.loop-number.invariant in
    let cells = c.in_ok-cells_in-in-Some.field-0 in
    let at : global_at t n ≡ Some g = sym c.in-Some.ensures in
    let count : cells ≡ cells_in t g = c.in_ok-cells_in-in-Some.ensures ∙ ap (λ (r : Resolution). cells_in r g) (sym c.typed-t.ensures) in
    let more = c.in_ok-add-in-Some.ensures in
    record {
      list = list_more t gs n old.granules cells new.granules g old.list.items new.list.items (globals_of t) at count more.granules more.list inv.list;
      granules = granules_more t gs n old.granules cells new.granules (all_granules t gs) g at count more.granules inv.granules;
      initial = words_more t gs n cells c.first_word.result g old.initial.items new.initial.items (all_first_words t gs) at count c.first_word.ensures more.initial inv.initial;
    }
