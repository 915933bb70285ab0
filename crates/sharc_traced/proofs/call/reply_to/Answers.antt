use Rattle.std.proofs.Common.{◌≡◌, ℕ, ◌<◌, ◌≤◌, List, length, None, IfSome, sym, ◌∙◌, arith, rules}
use Rattle.sharc_traced.proofs.Calling.{reply_usage, reply_long_recording, reply_read, usage_written, refusal_written, reply_written}
use Rattle.sharc_traced.proofs.call.reply_to.Goals as goal

pub returns-in_default-clause-reply : goal.returns-in_default-clause-reply
returns-in_default-clause-reply g c =
    let none : c.form_of.result ≡ None = first_of (cc, search rules) in
    reply_usage _ _ c.usage.result (sym c.form_of.ensures ∙ none) c.usage.ensures.plain

pub returns-in_default-clause-written : goal.returns-in_default-clause-written
returns-in_default-clause-written g c = usage_written c.usage.result c.usage.ensures.plain

pub returns-in-Ok-clause-reply : goal.returns-in-Ok-clause-reply
returns-in-Ok-clause-reply g c =
    let short : length c.in-Ok.bytes.items ≤ 1073741824 = first_of (omega arith, search rules) in
    reply_read _ c.in-Some.form _ c.in-Ok.bytes.items _ c.input_traced.result c.or_no_memory.result (sym c.form_of.ensures ∙ c.in-Some.is) c.in-Ok.ensures.all short c.deref.ensures.value c.input_traced.ensures
    c.or_no_memory.ensures.same

pub returns-in-Ok-clause-written : goal.returns-in-Ok-clause-written
returns-in-Ok-clause-written g c = reply_written c.in-Some.form _ c.input_traced.result c.or_no_memory.result c.input_traced.ensures c.or_no_memory.ensures.same

pub returns-in-Err-TooLong-clause-reply : goal.returns-in-Err-TooLong-clause-reply
returns-in-Err-TooLong-clause-reply g c =
    let over : IfSome (g.S.Source.left c.args.input.now) (λ (all : List ℕ). 1073741824 < length all) = c.in-Err-TooLong.ensures.longer (cc) in
    reply_long_recording _ c.in-Some.form _ c.too_long.result c.or_no_memory-in-Err-TooLong.result (sym c.form_of.ensures ∙ c.in-Some.is) over c.too_long.ensures c.or_no_memory-in-Err-TooLong.ensures.same

pub returns-in-Err-TooLong-clause-written : goal.returns-in-Err-TooLong-clause-written
returns-in-Err-TooLong-clause-written g c = refusal_written _ c.too_long.result c.or_no_memory-in-Err-TooLong.result c.too_long.ensures c.or_no_memory-in-Err-TooLong.ensures.same
