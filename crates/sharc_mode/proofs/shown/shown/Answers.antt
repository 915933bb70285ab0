use Rattle.sharc_mode.proofs.{Imports.{◌+◌, ◌≤◌, ◌∷◌, length, map, Option, Some, None, ap, sym, ◌∙◌, subst, arith, Mode, position_count, Targets, modes_of, Sharing, mode_of, view_row, view_sharing}, ShownLemmas.{one_shown, deeper_ends}}
use Rattle.sharc_mode.proofs.shown.shown.Goals as goal

pub loop-left-preserved : goal.loop-left-preserved
loop-left-preserved c =
    let m = c.args.program.now in
    let limit = position_count m.typed in
    let whole = c.position_count-all.ensures.whole.modes in
    let row = view_row c.loop-left.left in
    let ends = c.loop-left.invariant.ends in
    let f : Sharing → Option Mode = λ s. Some (mode_of m.typed s) in
    let ends_row : row.first + row.count ≤ length m.modes = omega (arith, ends, whole) in
    record {
      ends = subst (λ (r : Targets). r.first + r.count ≤ limit) (sym c.deeper-left.ensures) (deeper_ends limit row ends);
      levels = one_shown m row (view_row c.deeper-left.result) c.loop-left.levels.items c.push-in-loop-left.new.self.items (None ∷ map f (modes_of m (view_row c.args.row)))
          (view_sharing c.pointed.result) c.in_ok-mode.mode c.loop-left-test.true ends_row c.deeper-left.ensures c.pointed.ensures
          (c.in_ok-mode.ensures ∙ ap (λ r. mode_of r (view_sharing c.pointed.result)) c.typed-t.ensures) c.in_ok-push-2.ensures.items c.loop-left.invariant.levels;
    }
