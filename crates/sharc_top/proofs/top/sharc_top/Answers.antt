use Rattle.sharc_top.proofs.{Imports.{rules, map, string_bytes, sym, ◌∙◌, ap, Some, IfOk-weaker}, Replies.{reply_of, reply_recorded}}
use Rattle.sharc_top.proofs.top.sharc_top.Goals as goal

pub recorded-reply-requires-clause-workers : goal.recorded-reply-requires-clause-workers
recorded-reply-requires-clause-workers g c = λ k h.
    let is = c.in-Ok-Some-Record in
    (c.numbers_are_within.ensures (map string_bytes c.args.words.now) _ (sym is.ensures ∙ is.field-0-is ∙ ap Some is.field-0-0-is)).few_workers

pub recorded-reply-requires-clause-granules : goal.recorded-reply-requires-clause-granules
recorded-reply-requires-clause-granules g c = λ k h.
    let is = c.in-Ok-Some-Record in
    (c.numbers_are_within.ensures (map string_bytes c.args.words.now) _ (sym is.ensures ∙ is.field-0-is ∙ ap Some is.field-0-0-is)).some_granules

pub recorded-reply-requires-clause-events : goal.recorded-reply-requires-clause-events
recorded-reply-requires-clause-events g c = λ k h.
    let is = c.in-Ok-Some-Record in
    (c.numbers_are_within.ensures (map string_bytes c.args.words.now) _ (sym is.ensures ∙ is.field-0-is ∙ ap Some is.field-0-0-is)).few_events

pub ended-requires : goal.ended-requires
ended-requires g c =
    let is = c.in-Ok-Some-Record in
    IfOk-weaker c.recorded-reply.result _ _
    (λ reply told. reply_of (map string_bytes c.args.words.now) _ _ _ (reply_recorded _ _ is.workers is.granules is.events _ _ (sym is.ensures ∙ is.field-0-is ∙ ap Some is.field-0-0-is) told))
    c.recorded-reply.ensures.reply

pub returns-in-Ok-Some-Record-clause-replied : goal.returns-in-Ok-Some-Record-clause-replied
returns-in-Ok-Some-Record-clause-replied g c = λ h.
    let is = c.in-Ok-Some-Record in
    let all = c.ended.ensures.whole h in
    record {
      status = all.reply.status;
      ends = all.ends;
      text = all.reply.text.items;
      reply = reply_recorded _ _ is.workers is.granules is.events _ _ (sym is.ensures ∙ is.field-0-is ∙ ap Some is.field-0-0-is) (rw all.is at c.recorded-reply.ensures.reply);
      written = all.written;
    }

pub returns-in-Ok-Some-Record-clause-cut_short : goal.returns-in-Ok-Some-Record-clause-cut_short
returns-in-Ok-Some-Record-clause-cut_short g c = λ h.
    let is = c.in-Ok-Some-Record in
    let part = c.ended.ensures.cut_short h in
    record {
      status = part.reply.status;
      text = part.reply.text.items;
      reply = reply_recorded _ _ is.workers is.granules is.events _ _ (sym is.ensures ∙ is.field-0-is ∙ ap Some is.field-0-0-is) (rw part.is at c.recorded-reply.ensures.reply);
      count = part.count;
      short = part.short;
      written = part.written;
    }

pub returns-in-Ok-clause-replied : goal.returns-in-Ok-clause-replied
returns-in-Ok-clause-replied g c = λ h. c.without_waiting.ensures.replied h (map string_bytes c.args.words.now) (search rules)
