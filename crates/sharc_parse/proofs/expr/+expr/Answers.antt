use Rattle.sharc_parse.proofs.{Imports.{◌≡◌, ◌+◌, sym, ap, ◌∙◌, subst, arith, ◌∷◌, [], rules, Result, Ok, mark, name, access_mark, Want, Have, At, reads_within, site_in, size, front_size, bare, phrase_of, phrases_of, ReadingFault, ParsedExpr, ParsedFront as Front, from, Builds, IsPlaced, bare_front, front_tree, view_expr}, Steps.{longer, last_argument, next_argument, binary_read, binary_stands, field_stands, field_goes, access_goes, front_placed}}
use Rattle.sharc_parse.specs.Machine as machine
use Rattle.sharc_parse.specs.Limits as Limits
use Rattle.sharc_parse.proofs.expr.+expr.Goals as goal

pub arguments-returns-then-take-2-clause-reads : goal.arguments-returns-then-take-2-clause-reads
arguments-returns-then-take-2-clause-reads t c = λ f k d w.
    let i = c.loop-arguments.invariant in
    let r = c.in_ok-argument.ensures in
    let list = c.loop-arguments.arguments.items in
    let e = c.in_ok-argument.argument.expr in
    let z = longer (site_in c.args.tokens.now) c.args.at.now c.loop-arguments.at list c.push.new.self.items e c.in_ok-push.ensures.items i.placed i.at r.placed.0 in
    i.reads f k d w
    ∙ r.reads (machine.arguments f (phrases_of list) k) (omega arith) (omega (arith, d)) w tt
    ∙ ap (λ ts. reads_within ts (At [] (Have (phrase_of e) (machine.arguments f (phrases_of list) k)))) c.if-take-2.ensures.0
    ∙ last_argument f k (from c.args.tokens.now c.take-in-loop-arguments.new.at) (phrases_of c.push.new.self.items) (phrases_of list) (phrase_of e) z.phrases w

pub arguments-returns-then-take-2-clause-height : goal.arguments-returns-then-take-2-clause-height
arguments-returns-then-take-2-clause-height t c =
    let i = c.loop-arguments.invariant in
    let r = c.in_ok-argument.ensures in
    let z = longer (site_in c.args.tokens.now) c.args.at.now c.loop-arguments.at c.loop-arguments.arguments.items c.push.new.self.items c.in_ok-argument.argument.expr c.in_ok-push.ensures.items i.placed i.at r.placed.0 in
    (omega (arith, z.highest_is, c.max-highest.ensures, i.height, r.height.0), omega (arith, c.max-highest.ensures, i.low, r.height.1))

pub arguments-returns-then-take-2-clause-placed : goal.arguments-returns-then-take-2-clause-placed
arguments-returns-then-take-2-clause-placed t c =
    let i = c.loop-arguments.invariant in
    let r = c.in_ok-argument.ensures in
    let z = longer (site_in c.args.tokens.now) c.args.at.now c.loop-arguments.at c.loop-arguments.arguments.items c.push.new.self.items c.in_ok-argument.argument.expr c.in_ok-push.ensures.items i.placed i.at r.placed.0 in
    (z.stands, omega (arith, z.rest_is, z.sizes_is, i.at, r.placed.1, c.if-take-2.ensures.1))

pub arguments-loop-arguments-preserved : goal.arguments-loop-arguments-preserved
arguments-loop-arguments-preserved t c =
    let i = c.loop-arguments.invariant in
    let r = c.in_ok-argument.ensures in
    let list = c.loop-arguments.arguments.items in
    let e = c.in_ok-argument.argument.expr in
    let z = longer (site_in c.args.tokens.now) c.args.at.now c.loop-arguments.at list c.push.new.self.items e c.in_ok-push.ensures.items i.placed i.at r.placed.0 in
    record {
      reads = λ f k d w.
          i.reads f k d w
          ∙ r.reads (machine.arguments f (phrases_of list) k) (omega arith) (omega (arith, d)) w tt
          ∙ ap (λ n. reads_within (from c.args.tokens.now n) (At [] (Have (phrase_of e) (machine.arguments f (phrases_of list) k)))) (sym c.if-take-2.ensures.0)
          ∙ ap (λ ts. reads_within ts (At [] (Have (phrase_of e) (machine.arguments f (phrases_of list) k)))) c.in_ok-expect.ensures.0
          ∙ next_argument f k (from c.args.tokens.now c.expect.new.at) (phrases_of c.push.new.self.items) (phrases_of list) (phrase_of e) z.phrases w (omega (arith, d));
      height = omega (arith, z.highest_is, c.max-highest.ensures, i.height, r.height.0);
      low = omega (arith, c.max-highest.ensures, i.low, r.height.1);
      placed = z.stands;
      at = omega (arith, z.rest_is, i.at, r.placed.1, c.if-take-2.ensures.0, c.in_ok-expect.ensures.1);
      within = search rules;
    }

pub binary-loop-left-preserved : goal.binary-loop-left-preserved
binary-loop-left-preserved t c =
    let i = c.loop-left.invariant in
    let va = view_expr c.loop-left.left.expr in
    let vb = view_expr c.in_ok-right.right.expr in
    let built = c.in_ok-left-2.ensures in
    let is = ap bare built.0 in
    let r = c.in_ok-right.ensures in
    let took : c.operator.new.at ≡ c.loop-left.at + 1 = search rules in
    record {
      reads = λ k f d w m.
          binary_read (reads_within (from c.args.tokens.now c.args.at.now) (At [] (Want k))) (from c.args.tokens.now c.operator.new.at) (from c.args.tokens.now c.binary.new.at) (bare va) (bare vb) (phrase_of c.in_ok-left-2.left.expr) c.in-Some.op k
          is (search rules) (search rules) w (search rules) (search rules) (search rules);
      height = omega (arith, built.1, i.height, r.height.0, ap Limits.height is);
      low = search rules;
      stands = binary_stands (site_in c.args.tokens.now) c.args.at.now c.operator.new.at c.in_ok-left-2.left.expr c.span.result c.in-Some.op c.site-place.result va vb built.0
          (c.span.ensures (size (bare va) + size (bare vb) + 1) (omega (arith, i.at, took, r.placed.1)))
          (c.site-place.ensures ∙ ap (site_in c.args.tokens.now) (omega (arith, i.at, took)))
          i.stands r.placed.0 (omega (arith, i.at, took));
      at = omega (arith, i.at, took, r.placed.1, ap size is);
      grip = search rules;
      within = search rules;
    }

pub postfix-loop-base-preserved : goal.postfix-loop-base-preserved
postfix-loop-base-preserved t c =
    let i = c.loop-base.invariant in
    let va = view_expr c.loop-base.base.expr in
    let built = c.in_ok-base-3.ensures in
    let is = ap bare built.0 in
    let took : c.access.new.at ≡ c.loop-base.at + 1 = search rules in
    let named : c.name.new.at ≡ c.access.new.at + 1 = search rules in
    let stays : c.enter.new.at ≡ c.loop-base.at = search rules in
    let dot : from c.args.tokens.now c.enter.new.at ≡ mark (access_mark c.in-Some.access) ∷ from c.args.tokens.now c.access.new.at = search rules in
    let text : from c.args.tokens.now c.access.new.at ≡ name c.in-Some-2.name.text ∷ from c.args.tokens.now c.name.new.at = search rules in
    record {
      reads = λ k f d w m.
          i.reads k f d w m
          ∙ ap (λ n. reads_within (from c.args.tokens.now n) (At [] (Have (bare va) k))) (sym stays)
          ∙ ap (λ ts. reads_within ts (At [] (Have (bare va) k))) dot
          ∙ access_goes c.in-Some.access (bare va) k (from c.args.tokens.now c.access.new.at) (search rules)
          ∙ ap (λ ts. reads_within ts (At [] (machine.Dotted (bare va) c.in-Some.access k))) text
          ∙ field_goes (bare va) c.in-Some.access c.in-Some-2.name.text k (from c.args.tokens.now c.name.new.at) w
          ∙ ap (λ z. reads_within (from c.args.tokens.now c.name.new.at) (At [] (Have z k))) (sym is);
      height = omega (arith, built.1, i.height, ap Limits.height is);
      low = search rules;
      stands = field_stands (site_in c.args.tokens.now) c.args.at.now c.access.new.at c.in_ok-base-3.base.expr c.span-in-Some.result va c.in-Some.access c.in-Some-2.name built.0
          (c.span-in-Some.ensures (size (bare va) + 2) (omega (arith, i.at, took, named)))
          i.stands (search rules) (omega (arith, i.at, took));
      at = omega (arith, i.at, took, named, ap size is);
      call = search rules;
      within = search rules;
    }

pub primary-returns-in_ok-front-3-clause-placed : goal.primary-returns-in_ok-front-3-clause-placed
primary-returns-in_ok-front-3-clause-placed t c =
    let f = c.in_ok-front.front in
    let inner = c.in_ok-front-2.inner in
    let last = c.in_ok-front-3 in
    let read : c.binary.result ≡ Ok inner = search rules in
    let same_front : last.front ≡ f = search rules in
    let same_inner : last.inner ≡ inner = search rules in
    let took : c.front_word.new.at ≡ c.args.at.now + 1 = search rules in
    let closes : c.expect_behind.new.at ≡ c.binary.new.at + 1 = search rules in
    let p = c.in_ok-front.ensures.placed c.args.at.now (sym took) in
    let r = subst (λ (x : Result ParsedExpr ReadingFault). IsPlaced x c.args.tokens.now c.rest_of_front.new.at c.binary.new.at) read c.binary.ensures.placed in
    let built = subst (λ (x : ParsedExpr). Builds c.front_of.result (front_tree c.span.result f (view_expr x.expr)) (x.height + 1)) same_inner (subst (λ (x : Front). Builds c.front_of.result (front_tree c.span.result x (view_expr last.inner.expr)) (last.inner.height + 1)) same_front c.front_of.ensures) in
    front_placed c.front_of.result c.args.tokens.now c.args.at.now c.rest_of_front.new.at c.expect_behind.new.at _ c.span.result f (view_expr inner.expr) built
    (c.span.ensures (front_size (bare_front f) + size (bare (view_expr inner.expr)) + 1) (omega (arith, p.1, r.1, closes)))
    p.0 p.1 r.0 (omega (arith, r.1, closes))
