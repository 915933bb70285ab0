use Rattle.sharc_ask.proofs.{Imports.{◌≡◌, sym, subst, to_z, of_z, w64, rules, to_z-of_z, IfOk, arith, ℤ, pos, view_expr, declared_kinds, promoted, view_kind, kind_at, view_sharing, bits_of, negated, tested, passed, value_called, resulting, fitting, eval, pointee_place, Run, ◌>>=◌, give, drops, view_state, Does, value_bits, made, number, number_in, gives, Starts, value_weight, Plans, value_means, ends_above, test_then, spawned_with, inverted_with, truth_with, returned_with, and_with, or_with, joined_with}, Outs.same_plans, Resuming.{and_goes, or_goes}, Weighing.fits_start}
use Rattle.sharc_ask.proofs.rests.with_value.Goals as goal

pub returns-in-Tested-clause-means : goal.returns-in-Tested-clause-means
returns-in-Tested-clause-means c = λ on_call.
    let fits = c.ranges.x in
    subst (λ z. Plans on_call c.args.program.now (view_state c.args.st.now) c.done_test.result (view_state c.tested_value.new.st) (value_means on_call c.args.program.now (view_expr c.args.expr.now) z c.args.x)) (sym c.in-Tested.is) (c.done_test.ensures.means on_call c.args.program.now (view_state c.args.st.now) (view_state c.tested_value.new.st) (tested c.args.program.now.typed (view_expr c.args.expr.now) (give c.args.x)) (simp to_z-of_z at c.tested_value.ensures.does))

pub returns-in-Passed-clause-means : goal.returns-in-Passed-clause-means
returns-in-Passed-clause-means c = λ on_call.
    let fits = c.ranges.x in
    subst (λ z. Plans on_call c.args.program.now (view_state c.args.st.now) c.done_number.result (view_state c.passed_value.new.st) (value_means on_call c.args.program.now (view_expr c.args.expr.now) z c.args.x)) (sym c.in-Passed.is) (c.done_number.ensures.means on_call c.args.program.now (view_state c.args.st.now) (view_state c.passed_value.new.st) (passed c.args.program.now.typed (declared_kinds c.in-Passed.declared.now) (view_expr c.args.expr.now) (give c.args.x)) (simp to_z-of_z at c.passed_value.ensures.does))

pub returns-in-Spawned-clause-means : goal.returns-in-Spawned-clause-means
returns-in-Spawned-clause-means c = λ on_call.
    let fits = c.ranges.x in
    subst (λ z. Plans on_call c.args.program.now (view_state c.args.st.now) c.done_number-in-Spawned.result (view_state c.spawned.new.st) (value_means on_call c.args.program.now (view_expr c.args.expr.now) z c.args.x)) (sym c.in-Spawned.is) (c.done_number-in-Spawned.ensures.means on_call c.args.program.now (view_state c.args.st.now) (view_state c.spawned.new.st) (ends_above c.in-Spawned.mark (spawned_with c.args.program.now.typed c.in-Spawned.site c.in-Spawned.named (view_expr c.args.expr.now) c.args.x)) (simp to_z-of_z at c.spawned.ensures.does))

pub returns-in-Performs-clause-means : goal.returns-in-Performs-clause-means
returns-in-Performs-clause-means c = λ on_call.
    let fits = c.ranges.x in
    subst (λ z. Plans on_call c.args.program.now (view_state c.args.st.now) c.done_number-in-Performs.result (view_state c.value_called.new.st) (value_means on_call c.args.program.now (view_expr c.args.expr.now) z c.args.x)) (sym c.in-Performs.is) (c.done_number-in-Performs.ensures.means on_call c.args.program.now (view_state c.args.st.now) (view_state c.value_called.new.st) (value_called c.in-Performs.site c.in-Performs.word (give c.args.x)) (simp to_z-of_z at c.value_called.ensures.does))

pub returns-in-Inverted-clause-means : goal.returns-in-Inverted-clause-means
returns-in-Inverted-clause-means c = λ on_call.
    let fits = c.ranges.x in
    subst (λ z. Plans on_call c.args.program.now (view_state c.args.st.now) c.done_number-in-Inverted.result (view_state c.inverted.new.st) (value_means on_call c.args.program.now (view_expr c.args.expr.now) z c.args.x)) (sym c.in-Inverted.is) (c.done_number-in-Inverted.ensures.means on_call c.args.program.now (view_state c.args.st.now) (view_state c.inverted.new.st) (inverted_with c.args.program.now.typed (view_expr c.args.expr.now) c.args.x) (simp to_z-of_z at c.inverted.ensures.does))

pub returns-in-TruthOf-clause-means : goal.returns-in-TruthOf-clause-means
returns-in-TruthOf-clause-means c = λ on_call.
    let fits = c.ranges.x in
    subst (λ z. Plans on_call c.args.program.now (view_state c.args.st.now) c.done_number-in-TruthOf.result (view_state c.truth_of.new.st) (value_means on_call c.args.program.now (view_expr c.args.expr.now) z c.args.x)) (sym c.in-TruthOf.is) (c.done_number-in-TruthOf.ensures.means on_call c.args.program.now (view_state c.args.st.now) (view_state c.truth_of.new.st) (truth_with c.args.program.now.typed (view_expr c.args.expr.now) c.args.x) (simp to_z-of_z at c.truth_of.ensures.does))

pub returns-in-Fitted-clause-means : goal.returns-in-Fitted-clause-means
returns-in-Fitted-clause-means c = λ on_call.
    let k1 = (view_state c.args.st.now) in
    let fits = c.ranges.x in
    subst (λ z. Plans on_call c.args.program.now (view_state c.args.st.now) c.done_number-in-Fitted.result k1 (value_means on_call c.args.program.now (view_expr c.args.expr.now) z c.args.x)) (sym c.in-Fitted.is) (c.done_number-in-Fitted.ensures.means on_call c.args.program.now (view_state c.args.st.now) k1 (fitting (view_kind c.in-Fitted.kind) (view_expr c.args.expr.now) (give c.args.x)) (simp to_z-of_z at c.fitted.ensures))

pub returns-in-Made-clause-means : goal.returns-in-Made-clause-means
returns-in-Made-clause-means c = λ on_call.
    let fits = c.ranges.x in
    subst (λ z. Plans on_call c.args.program.now (view_state c.args.st.now) c.done_number-in-Made.result (view_state c.made.new.st) (value_means on_call c.args.program.now (view_expr c.args.expr.now) z c.args.x)) (sym c.in-Made.is) (c.done_number-in-Made.ensures.means on_call c.args.program.now (view_state c.args.st.now) (view_state c.made.new.st) (made c.args.program.now.typed c.in-Made.site (view_sharing c.in-Made.target) c.args.x c.in-Made.written.now) (simp to_z-of_z at c.made.ensures.does))

pub returns-in-Based-clause-means : goal.returns-in-Based-clause-means
returns-in-Based-clause-means c = λ on_call.
    let fits = c.ranges.x in
    subst (λ z. Plans on_call c.args.program.now (view_state c.args.st.now) c.done_place.result (view_state c.first_behind.new.st) (value_means on_call c.args.program.now (view_expr c.args.expr.now) z c.args.x)) (sym c.in-Based.is) (c.done_place.ensures.means on_call c.args.program.now (view_state c.args.st.now) (view_state c.first_behind.new.st) (pointee_place c.args.program.now.typed c.in-Based.site (view_expr c.args.expr.now) (give c.args.x)) (simp to_z-of_z at c.first_behind.ensures.does))

pub returns-in-Dropped-clause-means : goal.returns-in-Dropped-clause-means
returns-in-Dropped-clause-means c = λ on_call.
    let fits = c.ranges.x in
    subst (λ z. Plans on_call c.args.program.now (view_state c.args.st.now) c.done_step.result (view_state c.let_go.new.st) (value_means on_call c.args.program.now (view_expr c.args.expr.now) z c.args.x)) (sym c.in-Dropped.is) (c.done_step.ensures.means on_call c.args.program.now (view_state c.args.st.now) (view_state c.let_go.new.st) (drops (kind_at c.args.program.now.typed (view_expr c.args.expr.now)) c.args.x) (simp to_z-of_z at c.let_go.ensures.does))

pub returns-in-Returns-clause-means : goal.returns-in-Returns-clause-means
returns-in-Returns-clause-means c = λ on_call.
    let k1 = (view_state c.args.st.now) in
    let fits = c.ranges.x in
    subst (λ z. Plans on_call c.args.program.now (view_state c.args.st.now) c.done_flow.result k1 (value_means on_call c.args.program.now (view_expr c.args.expr.now) z c.args.x)) (sym c.in-Returns.is) (c.done_flow.ensures.means on_call c.args.program.now (view_state c.args.st.now) k1 (returned_with (view_kind c.in-Returns.kind) c.in-Returns.site (view_expr c.args.expr.now) c.args.x) (simp to_z-of_z at c.returned.ensures))

pub returns-in-Negated-clause-means : goal.returns-in-Negated-clause-means
returns-in-Negated-clause-means c = λ on_call.
    let fits = c.ranges.x in
    let run = resulting c.in-Negated.site (negated (bits_of (promoted (kind_at c.args.program.now.typed (view_expr c.args.expr.now)))) c.args.x) in
    subst (λ z. Plans on_call c.args.program.now (view_state c.args.st.now) c.done_number-in-Negated.result (view_state c.args.st.now) (value_means on_call c.args.program.now (view_expr c.args.expr.now) z c.args.x)) (sym c.in-Negated.is)
    (c.done_number-in-Negated.ensures.means on_call c.args.program.now (view_state c.args.st.now) (view_state c.args.st.now) run (simp to_z-of_z at c.negative.ensures))

pub returns-in-AndLeft-clause-means : goal.returns-in-AndLeft-clause-means
returns-in-AndLeft-clause-means c = λ on_call.
    let m = c.args.program.now in
    let e = view_expr c.args.expr.now in
    let x = c.args.x in
    let fits = c.ranges.x in
    subst (λ z. Plans on_call m (view_state c.args.st.now) c.by_truth.result (view_state c.tested_value-in-AndLeft.new.st) (value_means on_call m e z x)) (sym c.in-AndLeft.is) (let b = view_expr c.in-AndLeft.right.now in
    same_plans on_call m (view_state c.args.st.now) (view_state c.tested_value-in-AndLeft.new.st) c.by_truth.result (gives number (and_with m.typed e b (eval on_call m b) x)) (test_then (tested m.typed e (give x)) (gives number (eval on_call m b) >>= (λ v. gives number (truth_with m.typed b (number_in v)))) (give (number (pos 0)))) (λ s is. and_goes m.typed e b (eval on_call m b) x s)
    (c.by_truth.ensures.means on_call m (view_state c.args.st.now) (view_state c.tested_value-in-AndLeft.new.st) (tested m.typed e (give x)) (simp to_z-of_z at c.tested_value-in-AndLeft.ensures.does)))

pub returns-in-OrLeft-clause-means : goal.returns-in-OrLeft-clause-means
returns-in-OrLeft-clause-means c = λ on_call.
    let m = c.args.program.now in
    let e = view_expr c.args.expr.now in
    let x = c.args.x in
    let fits = c.ranges.x in
    subst (λ z. Plans on_call m (view_state c.args.st.now) c.by_truth-in-OrLeft.result (view_state c.tested_value-in-OrLeft.new.st) (value_means on_call m e z x)) (sym c.in-OrLeft.is) (let b = view_expr c.in-OrLeft.right.now in
    same_plans on_call m (view_state c.args.st.now) (view_state c.tested_value-in-OrLeft.new.st) c.by_truth-in-OrLeft.result (gives number (or_with m.typed e b (eval on_call m b) x)) (test_then (tested m.typed e (give x)) (give (number (pos 1))) (gives number (eval on_call m b) >>= (λ v. gives number (truth_with m.typed b (number_in v))))) (λ s is. or_goes m.typed e b (eval on_call m b) x s)
    (c.by_truth-in-OrLeft.ensures.means on_call m (view_state c.args.st.now) (view_state c.tested_value-in-OrLeft.new.st) (tested m.typed e (give x)) (simp to_z-of_z at c.tested_value-in-OrLeft.ensures.does)))

pub returns-in-LeftOperand-clause-means : goal.returns-in-LeftOperand-clause-means
returns-in-LeftOperand-clause-means c = λ on_call.
    let fits = c.ranges.x in
    subst (λ z. Plans on_call c.args.program.now (view_state c.args.st.now) c.by_left.result (view_state c.by_left.new.st) (value_means on_call c.args.program.now (view_expr c.args.expr.now) z c.args.x)) (sym c.in-LeftOperand.is)
    (simp to_z-of_z at (c.by_left.ensures.means on_call))

pub returns-in-PointerBase-clause-means : goal.returns-in-PointerBase-clause-means
returns-in-PointerBase-clause-means c = λ on_call.
    let fits = c.ranges.x in
    subst (λ z. Plans on_call c.args.program.now (view_state c.args.st.now) c.by_pointer.result (view_state c.by_pointer.new.st) (value_means on_call c.args.program.now (view_expr c.args.expr.now) z c.args.x)) (sym c.in-PointerBase.is)
    (simp to_z-of_z at (c.by_pointer.ensures.means on_call))

pub returns-in-RightOperand-clause-means : goal.returns-in-RightOperand-clause-means
returns-in-RightOperand-clause-means c = λ on_call.
    let k = view_state c.args.st.now in
    let k1 = view_state c.joined.new.st in
    let fits = c.ranges.x in
    let w = c.in-RightOperand in
    let o = w.operation in
    let same : to_z w64 (of_z w64 w.left) ≡ w.left = search rules in
    let run : ℤ → ℤ → Run ℤ = λ y z. ends_above o.mark (joined_with c.args.program.now.typed (value_bits o.width) o.site o.operator (view_expr c.args.expr.now) y (give z)) in
    let done : Does k c.joined.result k1 (run w.left c.args.x) = subst (λ z. Does k c.joined.result k1 (run z c.args.x)) same (subst (λ z. Does k c.joined.result k1 (run (to_z w64 (of_z w64 w.left)) z)) (to_z-of_z fits) c.joined.ensures.does) in
    subst (λ z. Plans on_call c.args.program.now k c.done_number-in-RightOperand.result k1 (value_means on_call c.args.program.now (view_expr c.args.expr.now) z c.args.x)) (sym w.is) (c.done_number-in-RightOperand.ensures.means on_call c.args.program.now k k1 (run w.left c.args.x) done)

pub returns-in-AndLeft-clause-fits : goal.returns-in-AndLeft-clause-fits
returns-in-AndLeft-clause-fits c =
    subst (λ w. IfOk c.by_truth.result (Starts (value_weight w))) (sym c.in-AndLeft.is) (fits_start 2 3 c.by_truth.result (omega arith) (c.by_truth.ensures.fits 2 (record { within = omega arith }) (record { within = omega arith })))

pub returns-in-OrLeft-clause-fits : goal.returns-in-OrLeft-clause-fits
returns-in-OrLeft-clause-fits c =
    subst (λ w. IfOk c.by_truth-in-OrLeft.result (Starts (value_weight w))) (sym c.in-OrLeft.is) (fits_start 2 3 c.by_truth-in-OrLeft.result (omega arith) (c.by_truth-in-OrLeft.ensures.fits 2 (record { within = omega arith }) (record { within = omega arith })))

pub returns-in-LeftOperand-clause-fits : goal.returns-in-LeftOperand-clause-fits
returns-in-LeftOperand-clause-fits c =
    subst (λ w. IfOk c.by_left.result (Starts (value_weight w))) (sym c.in-LeftOperand.is) (fits_start 2 3 c.by_left.result (omega arith) c.by_left.ensures.fits)

pub returns-in-PointerBase-clause-fits : goal.returns-in-PointerBase-clause-fits
returns-in-PointerBase-clause-fits c =
    subst (λ w. IfOk c.by_pointer.result (Starts (value_weight w))) (sym c.in-PointerBase.is) (fits_start 2 3 c.by_pointer.result (omega arith) c.by_pointer.ensures.fits)
