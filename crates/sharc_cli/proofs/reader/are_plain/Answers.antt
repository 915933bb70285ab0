use Rattle.sharc_cli.proofs.{Imports.{◌∙◌, ap, sym, arith, string_bytes, is_plain}, Numbers.{fails_at, passes_at}}
use Rattle.sharc_cli.proofs.reader.are_plain.Goals as goal

pub returns-then-not-is_plain : goal.returns-then-not-is_plain
returns-then-not-is_plain c =
    fails_at is_plain string_bytes c.args.words.now c.loop-word.word-index c.word-item.result _ (omega arith) c.word-item.is
    (sym (ap is_plain c.as_str.ensures.value) ∙ sym c.if-not-is_plain.ensures) c.loop-word.invariant

pub loop-word-preserved : goal.loop-word-preserved
loop-word-preserved c =
    passes_at is_plain string_bytes c.args.words.now c.loop-word.word-index c.word-item.result _ (omega arith) c.word-item.is
    (sym (ap is_plain c.as_str.ensures.value) ∙ sym c.if-not-is_plain.ensures) c.loop-word.invariant
