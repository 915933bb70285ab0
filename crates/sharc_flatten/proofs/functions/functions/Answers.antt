use Rattle.sharc_flatten.proofs.{Imports.{◌≡◌, ◌∷◌, [], ◌++◌, length, Some, ap, sym, subst, ◌∙◌, view_function, Row, Resolution, function_at, functions_in, row_of, rows_of, functions_code}, RowLemmas.{code_more, rows_more}}
use Rattle.sharc_flatten.proofs.functions.functions.Goals as goal

pub loop-number-preserved : goal.loop-number-preserved
loop-number-preserved c =
    let m = c.args.source.now.m.now in
    let globals = c.args.source.now.globals.items in
    let fs = functions_in m.typed.program.items in
    let n = c.loop-number.number in
    let f = view_function c.in-Some.of.now in
    let at = subst (λ (r : Resolution). function_at r n ≡ Some f) c.typed-t.ensures (sym c.in-Some.ensures) in
    let lines = c.loop-number.lines.items in
    let rows = c.loop-number.rows.items in
    let made = c.in_ok-function-in-Some.ensures.code in
    let next : c.push.new.self.items ≡ rows ++ row_of m globals (length lines) f ∷ [] = c.in_ok-push-in-Some.ensures.items ∙ ap (λ (row : Row). rows ++ row ∷ []) c.in_ok-function-in-Some.ensures.row in
    record {
      rows = rows_more m globals fs n f lines c.function.new.lines.items rows c.push.new.self.items (rows_of m globals 0 fs) at made next c.loop-number.invariant.rows;
      code = code_more m globals fs n f lines c.function.new.lines.items (functions_code m globals 0 fs) at made c.loop-number.invariant.code;
    }
