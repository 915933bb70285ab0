use Rattle.sharc_guard.proofs.{Imports.{slice_get-get_or, ◌≡◌, ◌+◌, ◌<◌, List, Bool, Some, length, get_or, slice_get, subst, sym, ap, ◌∙◌, arith, false, get_or_read, Op, flat_of, notes_of}, Targets.{IsAt, at_first, at_next, all_marked}}
use Rattle.sharc_flat.specs.declared.op.Op.TheVariants as op
use Rattle.sharc_guard.proofs.marks.mark_all.Goals as goal

pub loop-n-init : goal.loop-n-init
loop-n-init c =
    let flat = flat_of c.args.flat.now in
    subst (λ (xs : List Bool). IsAt flat 0 xs (notes_of c.args.knowledge.now)) (sym c.requires.none) (at_first flat (notes_of c.args.knowledge.now) c.requires.nothing)

pub loop-n-preserved : goal.loop-n-preserved
loop-n-preserved c =
    let flat = flat_of c.args.flat.now in
    let lines : List Op = c.args.flat.now.lines.items in
    let n = c.loop-n.n in
    let o = c.index-op.result.now in
    let here : n < length lines = omega (arith, c.loop-n-test.true, c.len-n-end.ensures) in
    let inside : n + 1 < length c.args.targets.now = omega (arith, c.loop-n-test.true, c.len-n-end.ensures, c.requires.targets.count) in
    let read : get_or lines n op.Enter ≡ o = sym (get_or_read lines n o here c.index-op.ensures op.Enter) in
    let at : slice_get lines n ≡ Some o = slice_get-get_or lines n op.Enter here ∙ ap Some read in
    subst (λ (xs : List Bool). IsAt flat (n + 1) xs (notes_of c.step.new.self)) (sym c.in_ok-push.ensures.items)
    (at_next flat n c.loop-n.marks.items (notes_of c.loop-n.knowledge) (notes_of c.step.new.self) o c.drops.result (get_or c.args.targets.now (n + 1) false) at c.loop-n.invariant c.drops.ensures
    (c.requires.targets.are (n + 1) inside) c.in_ok-step.ensures.known c.in_ok-step.ensures.before)

pub returns : goal.returns
returns c =
    let flat = flat_of c.args.flat.now in
    let all : c.loop-n.n ≡ length c.args.flat.now.lines.items = omega (arith, c.loop-n-test.false, c.loop-n.auto.n-end, c.len-n-end.ensures) in
    all_marked flat c.loop-n.marks.items (notes_of c.loop-n.knowledge) (subst (λ n. IsAt flat n c.loop-n.marks.items (notes_of c.loop-n.knowledge)) all c.loop-n.invariant)
