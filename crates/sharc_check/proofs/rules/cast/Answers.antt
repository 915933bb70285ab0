use Rattle.sharc_check.proofs.{Imports.{◌≡◌, ◌+◌, ◌≤◌, ◌++◌, ◌∷◌, [], List, cond, length, ap, sym, ◌∙◌, subst, arith, OnOk, Some, append-nil, view_expr, Base, view_root, Resolution, CastChangesInnerMode, Finding, position_count, cast_notes, mismatch, shown, modes_of, modes_at, row_at, cast_row, view_row, view_rows}, RowLemmas.cast_said}
use Rattle.sharc_check.proofs.rules.cast.Goals as goal

pub returns-then-same_rows : goal.returns-then-same_rows
returns-then-same_rows c =
    let m = c.args.program.now in
    let e = view_expr c.args.from.now in
    let s = c.args.to.now.span in
    let b = c.args.to.now.ctype.base in
    let whole = c.position_count-all.ensures.whole.modes in
    let to = view_row c.cast_row-expected.result in
    let from = view_row c.in-Some.found in
    let typed = c.typed-typed.ensures in
    let to_within : to.first + to.count ≤ position_count m.typed = subst (λ (r : Resolution). to.first + to.count ≤ position_count r) typed c.cast_row-expected.ensures.within in
    let from_within : from.first + from.count ≤ position_count m.typed = subst (λ (r : Resolution). from.first + from.count ≤ position_count r) typed c.in-Some.ensures.within in
    let to_ends : to.first + to.count ≤ length m.modes = omega (arith, to_within, whole) in
    let from_ends : from.first + from.count ≤ length m.modes = omega (arith, from_within, whole) in
    let row_is : row_at m.typed e ≡ Some from = ap (λ r. row_at r e) (sym typed) ∙ sym c.row_of.ensures.row ∙ ap view_rows c.in-Some.is in
    let to_is : cast_row m.typed c.args.span ≡ to = ap (λ r. cast_row r c.args.span) (sym typed) ∙ sym c.cast_row-expected.ensures.row in
    let differs = mismatch CastChangesInnerMode s (shown m.typed b (modes_of m to)) (shown m.typed b (modes_of m from)) ∷ [] in
    let said =
    cast_said c.row_laws.ensures m s b to from (view_row c.deeper.result) (view_row c.deeper-in-Some.result) (row_at m.typed e) c.same_rows.result row_is to_ends from_ends c.deeper.ensures
    c.deeper-in-Some.ensures c.same_rows.ensures
    in
    sym (append-nil c.args.notes.now.items)
    ∙ ap (λ l. c.args.notes.now.items ++ l) (sym (ap (λ x. cast_notes m.typed s b (modes_of m x) (modes_at m e)) to_is ∙ said ∙ ap (λ x. cond x [] differs) c.if-same_rows.true))

pub returns-else-same_rows : goal.returns-else-same_rows
returns-else-same_rows c =
    let m = c.args.program.now in
    let e = view_expr c.args.from.now in
    let s = c.args.to.now.span in
    let b = c.args.to.now.ctype.base in
    let whole = c.position_count-all.ensures.whole.modes in
    let to = view_row c.cast_row-expected.result in
    let from = view_row c.in-Some.found in
    let typed = c.typed-typed.ensures in
    let to_within : to.first + to.count ≤ position_count m.typed = subst (λ (r : Resolution). to.first + to.count ≤ position_count r) typed c.cast_row-expected.ensures.within in
    let from_within : from.first + from.count ≤ position_count m.typed = subst (λ (r : Resolution). from.first + from.count ≤ position_count r) typed c.in-Some.ensures.within in
    let to_ends : to.first + to.count ≤ length m.modes = omega (arith, to_within, whole) in
    let from_ends : from.first + from.count ≤ length m.modes = omega (arith, from_within, whole) in
    let row_is : row_at m.typed e ≡ Some from = ap (λ r. row_at r e) (sym typed) ∙ sym c.row_of.ensures.row ∙ ap view_rows c.in-Some.is in
    let to_is : cast_row m.typed c.args.span ≡ to = ap (λ r. cast_row r c.args.span) (sym typed) ∙ sym c.cast_row-expected.ensures.row in
    let differs : Base → List Finding = λ x. mismatch CastChangesInnerMode s (shown m.typed x (modes_of m to)) (shown m.typed x (modes_of m from)) ∷ [] in
    let said =
    cast_said c.row_laws.ensures m s b to from (view_row c.deeper.result) (view_row c.deeper-in-Some.result) (row_at m.typed e) c.same_rows.result row_is to_ends from_ends c.deeper.ensures
    c.deeper-in-Some.ensures c.same_rows.ensures
    in
    let same : differs (view_root c.root_of-root.result) ≡ cast_notes m.typed s b (modes_of m (cast_row m.typed c.args.span)) (modes_at m e) =
    ap differs c.root_of-root.ensures
    ∙ sym (ap (λ x. cast_notes m.typed s b (modes_of m x) (modes_at m e)) to_is ∙ said ∙ ap (λ x. cond x [] (differs b)) c.if-same_rows.false) in
    subst (λ l. OnOk c.differ.result (c.differ.new.notes.items ≡ c.args.notes.now.items ++ l)) same c.differ.ensures
