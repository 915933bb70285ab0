use Rattle.sharc_ask.proofs.{Imports.{view_expr, Expression, ◌≡◌, length, arith, ap, sym, ◌∙◌, Known, value_bits, logic_of, joined, gives, number, ℕ, Bool, Option, Some, None, true, false, kind_at, bits_of, eval}, Expressing.{binary_is_by, joined_begins, and_begins, or_begins}}
use Rattle.sharc_ask.proofs.expressions.binary_plan.Goals as goal

abbrev some : Bool → Option Bool
some b = Some b

pub returns-in-None-clause-means : goal.returns-in-None-clause-means
returns-in-None-clause-means c = λ on_call s is.
    let m = c.args.program.now in
    let left = view_expr c.args.left.now in
    let right = view_expr c.args.right.now in
    let form = c.requires.form in
    let many : length s.frame.temporaries ≡ c.len-mark.result = ap (λ (z : Known). length z.temporaries) is ∙ omega (arith, c.len-mark.ensures) in
    let width : bits_of (kind_at m.typed (view_expr c.args.expr.now)) ≡ value_bits c.width_of.result = sym (c.width_of.ensures ∙ ap bits_of c.kind_of.ensures) in
    let same : value_bits c.width_of.result ≡ bits_of (kind_at m.typed (view_expr c.args.expr.now)) = sym width in
    binary_is_by on_call m (view_expr c.args.expr.now) form.0 c.args.operator c.args.site left right None form.1 (sym c.in-None.is ∙ c.logic_of.ensures) s
    ∙ ap (λ (b : ℕ). gives number (joined m.typed b c.args.site c.args.operator left right (eval on_call m left) (eval on_call m right)) s) (ap (λ (z : Expression). bits_of (kind_at m.typed z)) (sym form.1) ∙ width)
    ∙ joined_begins m.typed (value_bits c.width_of.result) c.args.site c.args.operator left right (eval on_call m left) (eval on_call m right) c.len-mark.result s many

pub returns-then-is_and-clause-means : goal.returns-then-is_and-clause-means
returns-then-is_and-clause-means c = λ on_call s is.
    let m = c.args.program.now in
    let left = view_expr c.args.left.now in
    let right = view_expr c.args.right.now in
    let form = c.requires.form in
    let logic : Some true ≡ logic_of c.args.operator = ap (λ (b : Bool). some b) (sym c.if-is_and.true) ∙ sym c.in-Some.is ∙ c.logic_of.ensures in
    binary_is_by on_call m (view_expr c.args.expr.now) form.0 c.args.operator c.args.site left right (Some true) form.1 logic s ∙ and_begins m.typed c.args.site left right (eval on_call m left) (eval on_call m right) s

pub returns-else-is_and-clause-means : goal.returns-else-is_and-clause-means
returns-else-is_and-clause-means c = λ on_call s is.
    let m = c.args.program.now in
    let left = view_expr c.args.left.now in
    let right = view_expr c.args.right.now in
    let form = c.requires.form in
    let logic : Some false ≡ logic_of c.args.operator = ap (λ (b : Bool). some b) (sym c.if-is_and.false) ∙ sym c.in-Some.is ∙ c.logic_of.ensures in
    binary_is_by on_call m (view_expr c.args.expr.now) form.0 c.args.operator c.args.site left right (Some false) form.1 logic s ∙ or_begins m.typed c.args.site left right (eval on_call m left) (eval on_call m right) s
