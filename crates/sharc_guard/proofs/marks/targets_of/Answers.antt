use Rattle.sharc_guard.proofs.{Imports.{◌≡◌, ◌+◌, ◌++◌, ◌∙◌, Bool, List, false, length, drop, take, replicate, ap, subst, sym, length-replicate, AreTargets}, Targets.{AreLed, AreEntered, all_targets, given_back}}
use Rattle.sharc_guard.proofs.marks.targets_of.Goals as goal

pub returns : goal.returns
returns c =
    let lines = c.args.lines.now in
    let functions = c.args.functions.now in
    let count = c.in_ok-targets.targets.len in
    let none = c.in_ok-targets.targets.items in
    let led = c.mark_led_to.new.targets in
    let all = c.mark_entries.new.targets in
    let none_is : none ≡ replicate (length lines + 1) false = c.in_ok-targets.ensures.items_if_clones_equal (λ y e. e) in
    let none_long : length none ≡ count = ap length none_is ∙ length-replicate (length lines + 1) false ∙ sym c.in_ok-targets.ensures.len in
    let led_long : length led ≡ length none = c.mark_led_to.ensures.count ∙ ap length c.deref_mut.ensures.value in
    let led_back : take count (led ++ drop (length led) none) ≡ led = given_back count led none led_long none_long in
    let lent : c.deref_mut-2.result.now ≡ led = c.deref_mut-2.ensures.value ∙ led_back in
    let all_back : take count (all ++ drop (length all) (take count (led ++ drop (length led) none))) ≡ all =
    ap (λ (xs : List Bool). take count (all ++ drop (length all) xs)) led_back ∙ given_back count all led (c.mark_entries.ensures.count ∙ ap length lent) (led_long ∙ none_long)
    in
    subst (AreTargets lines functions) (sym all_back)
    (all_targets lines functions none led all none_is
    (subst (λ (xs : List Bool). AreLed xs led lines (length lines)) c.deref_mut.ensures.value (record { count = c.mark_led_to.ensures.count; are = c.mark_led_to.ensures.are }))
    (subst (λ (xs : List Bool). AreEntered xs all functions) lent (record { count = c.mark_entries.ensures.count; are = c.mark_entries.ensures.are })))
