use Rattle.sharc_parse.proofs.{Imports.{rules, ◌≡◌, ◌<◌, ◌+◌, ◌-◌, arith, sym, subst, Global, Result, Ok, Err, true, Vec, Expr, ForHead, Stmt, if_then, if_then_else, while, for, view_expr, view_stmt, view_head, OpenBrace, ReadingFault, IsConditionPlaced, phrase_of, from, Past, is_yes, head_of, IsHeadPlaced, sentence_of, ReadsStatement, IsStatementPlaced, mark, for_of, site_in, size, sentence_size, opening_size, expression_at, statement_at}, NestedSteps.{rest_placed, if_stands, else_stands, while_stands, for_stands, block_wrong, block_reads, one_statement_more}}
use Rattle.sharc_parse.proofs.statement.+statement.Goals as goal

pub rest_of_if-returns-clause-placed : goal.rest_of_if-returns-clause-placed
rest_of_if-returns-clause-placed t c =
    let n = c.args.at.now - 1 in
    let behind : c.args.at.now ≡ n + 1 = omega (arith, c.requires.behind) in
    let all = c.in_ok-test-2 in
    let same : c.in_ok-test.test ≡ all.test = search rules in
    let read : c.statement.result ≡ Ok all.then = search rules in
    let e = subst (λ (x : Expr). IsConditionPlaced (Ok x) c.args.tokens.now c.args.at.now c.condition.new.at) same c.in_ok-test.ensures.placed in
    let a = subst (λ (r : Result Stmt ReadingFault). IsStatementPlaced r c.args.tokens.now c.condition.new.at c.statement.new.at) read c.statement.ensures.placed in
    let stays : c.take_keyword.new.at ≡ c.statement.new.at = search rules in
    let whole : c.take_keyword.new.at ≡ n + (size (phrase_of all.test) + 3 + sentence_size (sentence_of all.then)) = omega (arith, behind, e.1, a.1, stays) in
    rest_placed c.if_of.result c.args.tokens.now n c.args.at.now c.take_keyword.new.at (if_then c.span-2.result (view_expr all.test) (view_stmt all.then)) c.if_of.ensures behind
    (if_stands (site_in c.args.tokens.now) n c.condition.new.at c.span-2.result (view_expr all.test) (view_stmt all.then)
    (c.span-2.ensures (size (phrase_of all.test) + 3 + sentence_size (sentence_of all.then)) whole)
    (subst (λ i. view_expr all.test ≡ expression_at (site_in c.args.tokens.now) i (phrase_of all.test)) (omega (arith, behind)) e.0)
    a.0 (omega (arith, behind, e.1)))
    whole

pub rest_of_if-returns-then-take_keyword-clause-placed : goal.rest_of_if-returns-then-take_keyword-clause-placed
rest_of_if-returns-then-take_keyword-clause-placed t c =
    let n = c.args.at.now - 1 in
    let behind : c.args.at.now ≡ n + 1 = omega (arith, c.requires.behind) in
    let all = c.in_ok-test-3 in
    let same : c.in_ok-test.test ≡ all.test = search rules in
    let read : c.statement.result ≡ Ok all.then = search rules in
    let other : c.statement-otherwise.result ≡ Ok all.otherwise = search rules in
    let e = subst (λ (x : Expr). IsConditionPlaced (Ok x) c.args.tokens.now c.args.at.now c.condition.new.at) same c.in_ok-test.ensures.placed in
    let a = subst (λ (r : Result Stmt ReadingFault). IsStatementPlaced r c.args.tokens.now c.condition.new.at c.statement.new.at) read c.statement.ensures.placed in
    let b = subst (λ (r : Result Stmt ReadingFault). IsStatementPlaced r c.args.tokens.now c.take_keyword.new.at c.statement-otherwise.new.at) other c.statement-otherwise.ensures.placed in
    let took : c.take_keyword.new.at ≡ c.statement.new.at + 1 = search rules in
    let whole : c.statement-otherwise.new.at ≡ n + (size (phrase_of all.test) + sentence_size (sentence_of all.then) + 4 + sentence_size (sentence_of all.otherwise)) = omega (arith, behind, e.1, a.1, b.1, took) in
    rest_placed c.else_of.result c.args.tokens.now n c.args.at.now c.statement-otherwise.new.at (if_then_else c.span.result (view_expr all.test) (view_stmt all.then) (view_stmt all.otherwise)) c.else_of.ensures behind
    (else_stands (site_in c.args.tokens.now) n c.condition.new.at c.take_keyword.new.at c.span.result (view_expr all.test) (view_stmt all.then) (view_stmt all.otherwise)
    (c.span.ensures (size (phrase_of all.test) + sentence_size (sentence_of all.then) + 4 + sentence_size (sentence_of all.otherwise)) whole)
    (subst (λ i. view_expr all.test ≡ expression_at (site_in c.args.tokens.now) i (phrase_of all.test)) (omega (arith, behind)) e.0)
    a.0 (omega (arith, behind, e.1)) b.0 (omega (arith, behind, e.1, a.1, took)))
    whole

pub rest_of_while-returns-clause-placed : goal.rest_of_while-returns-clause-placed
rest_of_while-returns-clause-placed t c =
    let n = c.args.at.now - 1 in
    let behind : c.args.at.now ≡ n + 1 = omega (arith, c.requires.behind) in
    let all = c.in_ok-test-2 in
    let same : c.in_ok-test.test ≡ all.test = search rules in
    let read : c.statement.result ≡ Ok all.body = search rules in
    let e = subst (λ (x : Expr). IsConditionPlaced (Ok x) c.args.tokens.now c.args.at.now c.condition.new.at) same c.in_ok-test.ensures.placed in
    let a = subst (λ (r : Result Stmt ReadingFault). IsStatementPlaced r c.args.tokens.now c.condition.new.at c.statement.new.at) read c.statement.ensures.placed in
    let whole : c.statement.new.at ≡ n + (size (phrase_of all.test) + 3 + sentence_size (sentence_of all.body)) = omega (arith, behind, e.1, a.1) in
    rest_placed c.while_of.result c.args.tokens.now n c.args.at.now c.statement.new.at (while c.span.result (view_expr all.test) (view_stmt all.body)) c.while_of.ensures behind
    (while_stands (site_in c.args.tokens.now) n c.condition.new.at c.span.result (view_expr all.test) (view_stmt all.body)
    (c.span.ensures (size (phrase_of all.test) + 3 + sentence_size (sentence_of all.body)) whole)
    (subst (λ i. view_expr all.test ≡ expression_at (site_in c.args.tokens.now) i (phrase_of all.test)) (omega (arith, behind)) e.0)
    a.0 (omega (arith, behind, e.1)))
    whole

pub rest_of_for-returns-clause-placed : goal.rest_of_for-returns-clause-placed
rest_of_for-returns-clause-placed t c =
    let n = c.args.at.now - 1 in
    let behind : c.args.at.now ≡ n + 1 = omega (arith, c.requires.behind) in
    let all = c.in_ok-head-2 in
    let same : c.in_ok-head.head ≡ all.head = search rules in
    let read : c.statement.result ≡ Ok all.body = search rules in
    let h = subst (λ (x : ForHead). IsHeadPlaced (Ok x) c.args.tokens.now c.args.at.now c.head.new.at) same c.in_ok-head.ensures.placed n (sym behind) in
    let a = subst (λ (r : Result Stmt ReadingFault). IsStatementPlaced r c.args.tokens.now c.head.new.at c.statement.new.at) read c.statement.ensures.placed in
    let whole : c.statement.new.at ≡ n + (opening_size (for_of (head_of all.head)) + sentence_size (sentence_of all.body)) = omega (arith, behind, h.1, a.1) in
    rest_placed c.for_of.result c.args.tokens.now n c.args.at.now c.statement.new.at (for c.span.result (view_head all.head) (view_stmt all.body)) c.for_of.ensures behind
    (for_stands (site_in c.args.tokens.now) n c.head.new.at c.span.result (view_head all.head) (view_stmt all.body)
    (c.span.ensures (opening_size (for_of (head_of all.head)) + sentence_size (sentence_of all.body)) whole)
    h.0 a.0 h.1)
    whole

pub statement-returns-in_err-list-clause-reads : goal.statement-returns-in_err-list-clause-reads
statement-returns-in_err-list-clause-reads t c =
    let is : c.from_residual-in_err-list.result ≡ Err c.in_err-list.field-0.0 = search rules in
    let opens : Past (mark OpenBrace) c.args.tokens.now c.args.at.now c.enter.new.at = search rules in
    let room : 0 < c.args.room = search rules in
    subst (λ r. ReadsStatement (is_yes c.args.declares) c.args.room r (from c.args.tokens.now c.args.at.now) (from c.args.tokens.now c.statements.new.at)) (sym is)
    (block_wrong (λ (v : Vec Stmt Global). v.items) c.in_err-list.field-0.0 (is_yes c.args.declares) c.args.room c.args.tokens.now c.args.at.now c.enter.new.at c.statements.new.at opens room c.in_err-list.ensures.reads)

pub statement-returns-then-branch-clause-reads : goal.statement-returns-then-branch-clause-reads
statement-returns-then-branch-clause-reads t c =
    let opens : Past (mark OpenBrace) c.args.tokens.now c.args.at.now c.enter.new.at = search rules in
    let room : 0 < c.args.room = search rules in
    block_reads (λ v. v.items) c.in_ok-list.list c.block.result c.span.result (is_yes c.args.declares) c.args.room c.args.tokens.now c.args.at.now c.enter.new.at c.statements.new.at c.block.ensures opens room c.in_ok-list.ensures.reads

pub statements-loop-alloc-preserved : goal.statements-loop-alloc-preserved
statements-loop-alloc-preserved t c =
    let stays : c.take.new.at ≡ c.loop-alloc.at = search rules in
    let s = c.in_ok-statement.ensures in
    let reads : ReadsStatement true c.args.room (Ok c.in_ok-statement.statement) (from c.args.tokens.now c.loop-alloc.at) (from c.args.tokens.now c.statement.new.at) = subst (λ i. ReadsStatement true c.args.room (Ok c.in_ok-statement.statement) (from c.args.tokens.now i) (from c.args.tokens.now c.statement.new.at)) stays s.reads in
    record {
      so_far = one_statement_more c.args.room c.args.tokens.now c.args.at.now c.loop-alloc.at c.statement.new.at c.loop-alloc.list.items c.push.new.self.items c.in_ok-statement.statement c.in_ok-push.ensures.items c.loop-alloc.invariant.so_far reads
          (subst (λ i. view_stmt c.in_ok-statement.statement ≡ statement_at (site_in c.args.tokens.now) i (sentence_of c.in_ok-statement.statement)) stays s.placed.0)
          (omega (arith, s.placed.1, stays));
      onward = omega (arith, c.loop-alloc.invariant.onward, stays, s.onward.onward);
      within = s.onward.within;
    }
