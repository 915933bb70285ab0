use Rattle.sharc_top.proofs.ending.ended.Goals as goal

pub returns-in-Ok-write_lines-clause-whole : goal.returns-in-Ok-write_lines-clause-whole
returns-in-Ok-write_lines-clause-whole g c = λ h.
    record { reply = c.in-Ok.reply; is = c.in-Ok.is; ends = c.code.ensures; written = rw c.deref.ensures.value at c.in-Ok-write_lines.ensures.all }

pub returns-in-Ok-clause-cut_short : goal.returns-in-Ok-clause-cut_short
returns-in-Ok-clause-cut_short g c = λ h. record {
  reply = c.in-Ok.reply;
  is = c.in-Ok.is;
  count = c.in-Err.field-0.written;
  short = rw c.deref.ensures.value at c.in-Err.ensures.short;
  written = rw c.deref.ensures.value at c.in-Err.ensures.part;
}
