use Rattle.sharc_cli.proofs.{Imports.{◌∙◌, sym, map, string_bytes}, Arms.{read_fails, read_matches}, Lines.unplain}
use Rattle.sharc_cli.proofs.reader.read_words.Goals as goal

pub returns-then-not-are_plain : goal.returns-then-not-are_plain
returns-then-not-are_plain c = unplain (map string_bytes c.args.words.now) (sym c.if-not-are_plain.ensures)

pub returns-in-Ok : goal.returns-in-Ok
returns-in-Ok c =
    c.command_in.ensures ∙ read_matches c.in_ok-line.line (map string_bytes c.args.words.now) c.in-Ok.matches c.in_ok-line.ensures (sym c.if-not-are_plain.ensures)
    c.in-Ok.ensures.matches c.in-Ok.ensures.kinds

pub returns : goal.returns
returns c =
    read_fails c.in_ok-line.line (map string_bytes c.args.words.now) c.in-Err.error c.in_ok-line.ensures (sym c.if-not-are_plain.ensures) c.in-Err.ensures.kinds
    (λ memory. c.in_default.not-OutOfMemory (c.kind.ensures ∙ memory))
