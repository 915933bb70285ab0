use Rattle.sharc_top.proofs.Imports.{◌≡◌, ◌<◌, ◌≤◌, ◌++◌, ◌+◌, ap, sym, subst, ◌∙◌, arith, length, IfOk-weaker, source_of, SourceTask, Answers, size_lines, load_numbers, LoadReplies, long, loaded}
use Rattle.sharc_top.proofs.loaded.loaded.Goals as goal

pub returns-then-len-gt-SOURCE_LIMIT : goal.returns-then-len-gt-SOURCE_LIMIT
returns-then-len-gt-SOURCE_LIMIT g c =
    let over : 1048576 < length (source_of c.args.number) = let same = ap length c.in_ok-source.ensures in omega (arith, c.if-len-gt-SOURCE_LIMIT.true, c.len.ensures, same) in
    IfOk-weaker c.line_reply.result _ _ (λ reply is. rw (is.0, is.1) (long over)) c.line_reply.ensures

pub returns : goal.returns
returns g c =
    let n = c.args.number in
    let s = c.in_ok-reply.reply.status in
    let text = c.in_ok-reply.reply.text.items in
    let same = ap length c.in_ok-source.ensures in
    let short : length (source_of n) ≤ 1048576 = omega (arith, c.if-len-gt-SOURCE_LIMIT.false, c.len.ensures, same) in
    let count = c.len-2.ensures ∙ sym c.deref.ensures.len ∙ ap length c.deref.ensures.value ∙ same in
    let size = c.in_ok-text.ensures ∙ ap (λ bytes. size_lines bytes (n + 2)) count in
    let all = c.in_ok-extend_from_slice.ensures.items ∙ ap (λ first. first ++ c.deref-2.result.now) size ∙ ap (λ rest. size_lines (length (source_of n)) (n + 2) ++ rest) c.deref-2.ensures.value in
    let answers = subst (λ source. Answers (SourceTask.Run (load_numbers c.args.workers)) source s text) (c.deref.ensures.value ∙ c.in_ok-source.ensures) c.in_ok-reply.ensures in
    subst (λ t. LoadReplies n c.args.workers s t) (sym all) (loaded s text short answers)
