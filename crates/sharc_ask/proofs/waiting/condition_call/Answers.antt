use Rattle.sharc_ask.proofs.{Imports.{rules, ◌≡◌, true, bytes_eq, codes, slice_index_or, to_z, of_z, w64, NULL, view_state}, Waits.wait_named}
use Rattle.sharc_ask.proofs.waiting.condition_call.Goals as goal

pub returns-then-eq-clause-does : goal.returns-then-eq-clause-does
returns-then-eq-clause-does c =
    let condition : to_z w64 (of_z w64 c.value_at.result) ≡ slice_index_or c.args.values.now 0 NULL = search rules in
    let mutex : to_z w64 (of_z w64 c.value_at-then-eq.result) ≡ slice_index_or c.args.values.now 1 NULL = search rules in
    let named : bytes_eq c.args.name.now (codes "wait") ≡ true = search rules in
    wait_named (view_state c.args.st.now) (view_state c.wait_call.new.st) c.args.site c.args.name.now c.args.values.now (to_z w64 (of_z w64 c.value_at.result)) (to_z w64 (of_z w64 c.value_at-then-eq.result)) c.wait_call.result named condition mutex c.wait_call.ensures.does
