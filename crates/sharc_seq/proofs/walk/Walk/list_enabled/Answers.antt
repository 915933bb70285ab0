use Rattle.sharc_seq.proofs.{Imports.{ℕ, ◌<◌, List, Option, None, length, get_or, filter, ap, ◌∙◌, subst, arith, is_some, slice_index, THREADS, place_after, ThreadView, Standing, AreOf, may_turn_at}, Choosing.listed, Grown.enabled_are}
use Rattle.sharc_seq.proofs.walk.Walk.list_enabled.Goals as goal

pub collect-requires-clause-numbers : goal.collect-requires-clause-numbers
collect-requires-clause-numbers c = λ k.
    let code = c.requires.0 in
    let s = c.requires.1 in
    let place : Standing = place_after code s c.requires.2.0 in
    c.table_laws.ensures.numbers code s place.threads place.made place.started c.args.self.now.threads.seats.items c.requires.2.1.seats k

pub collect-requires-clause-within : goal.collect-requires-clause-within
collect-requires-clause-within c = λ i low.
    let seats : List (Option ThreadView) = c.args.self.now.threads.seats.items in
    let stands = c.requires.2.1 in
    let one = listed (λ n. is_some (get_or seats n None)) 0 THREADS i (subst (λ (xs : List ℕ). i < length xs) stands.numbers low) in
    let e = ap (λ (xs : List ℕ). slice_index xs i) stands.numbers in
    omega (arith, one.low, e, stands.seats.count)

pub returns : goal.returns
returns c = λ code s turns fits stands.
    let seats : List (Option ThreadView) = c.args.self.now.threads.seats.items in
    let place : Standing = place_after code s turns in
    let of : AreOf code s place c.words-words.result.now seats = record { words_are = c.words-words.ensures ∙ stands.words; are = stands.seats } in
    let p = λ (n : ℕ). may_turn_at c.words-words.result.now c.args.limit (get_or seats n None) in
    c.in_ok-collect.ensures ∙ ap (filter p) stands.numbers ∙ enabled_are c.table_laws.ensures code s c.args.limit place c.words-words.result.now seats fits of
