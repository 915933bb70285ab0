use Rattle.std.proofs.Common.{◌++◌, ap, ◌∙◌}
use Rattle.sharc_history.specs.Told.{site_of}
use Rattle.sharc_history.specs.Places.{name_of, place_text, deed_words, object_of, mode_of}
use Rattle.sharc_history.proofs.Joining.{line}
use Rattle.sharc_history.proofs.places.deeds.put_event.Goals as goal

pub returns : goal.returns
returns c = λ earlier names.
    let code = c.args.code.now in
    let e = c.args.event.now in
    line c.args.text.now.items c.put_place.new.text.items c.put_deed.new.text.items c.push.new.self.items c.put_object_of.new.text.items c.push-2.new.self.items c.extend_from_slice.new.self.items c.push-3.new.self.items
    (place_text code e.thread (site_of code e.origin)) (deed_words code e.origin (name_of code earlier e) e.deed) (object_of e.deed) (mode_of code e.origin e.deed)
    (c.in_ok-put_place.ensures ∙ ap (λ s. c.args.text.now.items ++ place_text code e.thread s) c.site_of.ensures)
    (c.in_ok-put_deed.ensures ∙ ap (λ n. c.put_place.new.text.items ++ deed_words code e.origin n e.deed) (c.name_of-lvalue.ensures earlier names))
    c.in_ok-push.ensures.items
    c.in_ok-put_object_of.ensures
    c.in_ok-push-2.ensures.items
    (c.in_ok-extend_from_slice.ensures.items ∙ ap (λ m. c.push-2.new.self.items ++ m) c.mode_of.ensures)
    c.in_ok-push-3.ensures.items
