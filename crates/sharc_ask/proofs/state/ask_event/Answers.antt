use Rattle.sharc_ask.proofs.{Imports.{rules, ◌≡◌, ◌<◌, ◌++◌, List, [], ◌∷◌, pos, ℤ, length, drop, take, ◌-◌, slice_index_or, to_z, of_z, w64, refl, sym, subst, CellAt, SourceEvent, GivenUp, answered, value_in, answer_of, event_of, Known, Went, view_state, held_after}, NextAnswer.{event_does, all_left}}
use Rattle.sharc_ask.proofs.state.ask_event.Goals as goal

pub returns-clause-does : goal.returns-clause-does
returns-clause-does c = λ s h.
    let k : Known = view_state c.args.st.now in
    let a : ℤ = c.answer_of-answer.result in
    let same : to_z w64 (of_z w64 a) ≡ a = search rules in
    let some : 0 < length k.answers = search rules in
    let told : a ≡ answer_of (value_in k.variables) c.args.act (slice_index_or k.answers 0 (pos 0)) = search rules in
    let e : c.push.new.self.items ≡ k.events ++ event_of c.args.site c.args.act a ∷ [] = search rules in
    let l : c.note_held.new.held.items ≡ held_after c.args.act k.held = search rules in
    let w : Went a (record k { answers = drop 1 k.answers; events = k.events ++ event_of c.args.site c.args.act a ∷ []; held = held_after c.args.act k.held; given_up = [] }) (answered c.args.site c.args.act s) = event_does s k c.args.site c.args.act a (drop 1 k.answers) h some told refl in
    let w2 : Went a (record k { answers = drop 1 k.answers; events = c.push.new.self.items; held = c.note_held.new.held.items; given_up = [] }) (answered c.args.site c.args.act s) =
    subst (λ (es : List SourceEvent). Went a (record k { answers = drop 1 k.answers; events = es; held = c.note_held.new.held.items; given_up = [] }) (answered c.args.site c.args.act s)) (sym e)
    (subst (λ (ls : List CellAt). Went a (record k { answers = drop 1 k.answers; events = k.events ++ event_of c.args.site c.args.act a ∷ []; held = ls; given_up = [] }) (answered c.args.site c.args.act s)) (sym l) w) in
    let w3 : Went a (record k { answers = take (length k.answers - 1) (drop 1 k.answers); events = c.push.new.self.items; held = c.note_held.new.held.items; given_up = [] }) (answered c.args.site c.args.act s) =
    subst (λ (left : List ℤ). Went a (record k { answers = left; events = c.push.new.self.items; held = c.note_held.new.held.items; given_up = [] }) (answered c.args.site c.args.act s)) (all_left k.answers) w2 in
    let w4 = subst (λ v. Went v (record k { answers = take (length k.answers - 1) (drop 1 k.answers); events = c.push.new.self.items; held = c.note_held.new.held.items; given_up = [] }) (answered c.args.site c.args.act s)) (sym same) w3 in
    subst (λ (gs : List GivenUp). Went (to_z w64 (of_z w64 a)) (record k { answers = take (length k.answers - 1) (drop 1 k.answers); events = c.push.new.self.items; held = c.note_held.new.held.items; given_up = gs }) (answered c.args.site c.args.act s)) (sym c.new.ensures.items) w4
