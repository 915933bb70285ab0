use Rattle.sharc_heap.proofs.{Imports.{ℕ, ◌-◌, ◌+◌, ◌∙◌, ap, bit_and, sym, refl, arith}, OneBit.{without_bit, and_fits}, Sets.{withdraws_reader, withdraws_writer}, Computed.{withdrawn_writer, withdrawn_reader}}
use Rattle.sharc_heap.proofs.shadow_word.withdrawn.Goals as goal

pub returns-then-is_of_epoch-clause-withdraws : goal.returns-then-is_of_epoch-clause-withdraws
returns-then-is_of_epoch-clause-withdraws c =
    let left = without_bit c.args.old c.bit_of.result (1 + c.args.thread) c.ranges.old.fits (omega arith) c.bit_of.ensures in
    withdraws_writer c.args.old _ _ c.args.thread c.args.wrote c.requires (sym c.if-is_of_epoch.ensures) left (without_bit _ 1 0 (and_fits c.args.old _ c.ranges.old.fits) (omega arith) refl)

pub returns-else-is_of_epoch-clause-withdraws : goal.returns-else-is_of_epoch-clause-withdraws
returns-else-is_of_epoch-clause-withdraws c =
    withdraws_reader c.args.old _ c.args.thread c.args.wrote c.requires (sym c.if-is_of_epoch.ensures) (without_bit c.args.old c.bit_of.result (1 + c.args.thread) c.ranges.old.fits (omega arith) c.bit_of.ensures)

pub returns-then-is_of_epoch-clause-is : goal.returns-then-is_of_epoch-clause-is
returns-then-is_of_epoch-clause-is c =
    ap (λ (b : ℕ). bit_and (bit_and c.args.old (18446744073709551615 - b)) 18446744073709551614) c.bit_of.ensures ∙ sym (withdrawn_writer c.args.old c.args.thread c.args.wrote (sym c.if-is_of_epoch.ensures))

pub returns-else-is_of_epoch-clause-is : goal.returns-else-is_of_epoch-clause-is
returns-else-is_of_epoch-clause-is c =
    ap (λ (b : ℕ). bit_and c.args.old (18446744073709551615 - b)) c.bit_of.ensures ∙ sym (withdrawn_reader c.args.old c.args.thread c.args.wrote (sym c.if-is_of_epoch.ensures))
