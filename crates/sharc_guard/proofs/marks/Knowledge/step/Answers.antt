use Rattle.sharc_guard.proofs.{Imports.{◌≡◌, ◌+◌, ◌∙◌, ap, sym, cond, subst, Some, know_after, know_next, nothing, notes_of, know_of, AreBefore}, Marking.{ended, ended_before}, Noting.on_ok}
use Rattle.sharc_guard.proofs.marks.Knowledge.step.Goals as goal

pub returns-then-enters-clause-known : goal.returns-then-enters-clause-known
returns-then-enters-clause-known c =
    let s = notes_of c.args.self.now in
    ap know_of c.end_piece.ensures ∙ ended c.args.time s c.requires.before ∙ ap (λ z. cond z nothing (know_after (Some c.args.op) (know_of s))) (sym c.if-enters.true)

pub returns-then-enters-clause-before : goal.returns-then-enters-clause-before
returns-then-enters-clause-before c =
    let s = notes_of c.args.self.now in
    subst (AreBefore (c.args.time + 1)) (sym c.end_piece.ensures) (ended_before c.args.time s c.requires.before)

pub returns-then-is_straight-clause-known : goal.returns-then-is_straight-clause-known
returns-then-is_straight-clause-known c =
    let k = know_of (notes_of c.args.self.now) in
    on_ok (know_of (notes_of c.go_on.new.self) ≡ know_next c.args.op k) (know_of (notes_of c.go_on.new.self) ≡ cond c.args.enters nothing (know_after (Some c.args.op) k)) c.go_on.result
    (λ e. e ∙ ap (λ z. cond z (know_next c.args.op k) nothing) (sym c.if-is_straight.true ∙ c.is_straight.ensures) ∙ ap (λ z. cond z nothing (know_after (Some c.args.op) k)) (sym c.if-enters.false))
    c.go_on.ensures.known

pub returns-else-is_straight-clause-known : goal.returns-else-is_straight-clause-known
returns-else-is_straight-clause-known c =
    let s = notes_of c.args.self.now in
    let k = know_of s in
    ap know_of c.end_piece-else-is_straight.ensures ∙ ended c.args.time s c.requires.before ∙ ap (λ z. cond z (know_next c.args.op k) nothing) (sym c.if-is_straight.false ∙ c.is_straight.ensures) ∙ ap (λ z. cond z nothing (know_after (Some c.args.op) k)) (sym c.if-enters.false)

pub returns-else-is_straight-clause-before : goal.returns-else-is_straight-clause-before
returns-else-is_straight-clause-before c =
    let s = notes_of c.args.self.now in
    subst (AreBefore (c.args.time + 1)) (sym c.end_piece-else-is_straight.ensures) (ended_before c.args.time s c.requires.before)
