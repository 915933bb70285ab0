use Rattle.sharc_top.proofs.{Imports.{IfOk-weaker, ◌≡◌, None, Some, ap, ◌∙◌, rules, arith}, Replies.{reply_usage, reply_loaded, reply_replayed, reply_audited}}
use Rattle.sharc_top.proofs.words.reply_to.Goals as goal

pub overflow_cast-numbers : goal.overflow_cast-numbers
overflow_cast-numbers g c =
    let within = rw c.in-Run.is at (c.numbers_are_within.ensures c.requires.asked.words c.in-Some.command (c.requires.asked.are ∙ c.in-Some.is)) in
    let most = within.few_workers.most in omega (arith, most)

pub overflow_cast-numbers-in-Run : goal.overflow_cast-numbers-in-Run
overflow_cast-numbers-in-Run g c =
    let within = rw c.in-Run.is at (c.numbers_are_within.ensures c.requires.asked.words c.in-Some.command (c.requires.asked.are ∙ c.in-Some.is)) in
    let most = within.some_granules.most in omega (arith, most)

pub answered-requires-in-Run-after_bounds : goal.answered-requires-in-Run-after_bounds
answered-requires-in-Run-after_bounds g c = λ k h.
    let within = rw c.in-Run.is at (c.numbers_are_within.ensures c.requires.asked.words c.in-Some.command (c.requires.asked.are ∙ c.in-Some.is)) in
    record {
      some_worker = within.few_workers.least;
      few_workers = within.few_workers.most;
      least = within.some_granules.least;
      most = within.some_granules.most;
      few_events = within.few_events.most;
    }

pub overflow_cast-number : goal.overflow_cast-number
overflow_cast-number g c =
    let within = rw c.in-Load.is at (c.numbers_are_within.ensures c.requires.asked.words c.in-Some.command (c.requires.asked.are ∙ c.in-Some.is)) in
    let most = within.numbered.most in omega (arith, most)

pub overflow_cast-workers : goal.overflow_cast-workers
overflow_cast-workers g c =
    let within = rw c.in-Load.is at (c.numbers_are_within.ensures c.requires.asked.words c.in-Some.command (c.requires.asked.are ∙ c.in-Some.is)) in
    let most = within.few_workers.most in omega (arith, most)

pub loaded-requires-clause-least : goal.loaded-requires-clause-least
loaded-requires-clause-least g c = λ k h. (rw c.in-Load.is at (c.numbers_are_within.ensures c.requires.asked.words c.in-Some.command (c.requires.asked.are ∙ c.in-Some.is))).numbered.least

pub loaded-requires-clause-most : goal.loaded-requires-clause-most
loaded-requires-clause-most g c = λ k h. (rw c.in-Load.is at (c.numbers_are_within.ensures c.requires.asked.words c.in-Some.command (c.requires.asked.are ∙ c.in-Some.is))).numbered.most

pub loaded-requires-clause-some_worker : goal.loaded-requires-clause-some_worker
loaded-requires-clause-some_worker g c = λ k h. (rw c.in-Load.is at (c.numbers_are_within.ensures c.requires.asked.words c.in-Some.command (c.requires.asked.are ∙ c.in-Some.is))).few_workers.least

pub loaded-requires-clause-few_workers : goal.loaded-requires-clause-few_workers
loaded-requires-clause-few_workers g c = λ k h. (rw c.in-Load.is at (c.numbers_are_within.ensures c.requires.asked.words c.in-Some.command (c.requires.asked.are ∙ c.in-Some.is))).few_workers.most

pub returns-in_default-clause-reply : goal.returns-in_default-clause-reply
returns-in_default-clause-reply g c = λ words asked.
    let none : c.args.command ≡ None = search rules in
    reply_usage _ _ _ _ (asked ∙ none) c.in_ok-usage.ensures.0 c.in_ok-usage.ensures.1

pub returns-in_ok-reply-in-Load-clause-reply : goal.returns-in_ok-reply-in-Load-clause-reply
returns-in_ok-reply-in-Load-clause-reply g c = λ words asked.
    reply_loaded _ _ _ _ _ _ (asked ∙ c.in-Some.is ∙ ap Some c.in-Load.is) c.in_ok-reply-in-Load.ensures

pub returns-in-Replay-clause-reply : goal.returns-in-Replay-clause-reply
returns-in-Replay-clause-reply g c =
    IfOk-weaker c.replayed.result _ _ (λ reply told words asked. reply_replayed _ _ _ _ (asked ∙ c.in-Some.is ∙ ap Some c.in-Replay.is) told) c.replayed.ensures.reply

pub returns-in-Audit-clause-reply : goal.returns-in-Audit-clause-reply
returns-in-Audit-clause-reply g c =
    IfOk-weaker c.audited.result _ _ (λ reply told words asked. reply_audited _ _ _ _ (asked ∙ c.in-Some.is ∙ ap Some c.in-Audit.is) told) c.audited.ensures.reply
