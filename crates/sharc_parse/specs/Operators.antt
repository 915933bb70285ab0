-- Laws of operators: how tightly they bind, and what the machine makes of what is around them.
use Rattle.std.specs.Prelude.{◌≡◌, ℕ, ◌≤◌, ◌<◌, cond}
use Rattle.std.proofs.{Common.{refl, ap}, Math.Dec.{lit<, lit≤}, Math.Nat.{lt_trans, not-le_of_lt}}
use Rattle.std.proofs.lemmas.Bool.{le-leb, lt-leb}
use Rattle.sharc_tree.specs.declared.tree.expression.BinaryOperator.{BinaryOperator}
use Rattle.sharc_tree.specs.declared.tree.expression.UnaryOperator.{UnaryOperator}
use Rattle.sharc_tree.specs.declared.tree.expression.BinaryOperator.TheVariants as op
use Rattle.sharc_parse.specs.Grammar.{Word, mark, parenthesis, Phrase, unary}
use Rattle.sharc_parse.specs.Grammar.{binary, operator_mark, strength}
use Rattle.sharc_parse.specs.Machine.{condition, Cont, part, beneath}
use Rattle.sharc_parse.specs.Machine.{right_of, fronted, Role}
use Rattle.sharc_parse.specs.Machine.{Operating, Ending, role, grip_of, floor, settle, end_at, shift, have}

-- no operator binds as tightly as one before its operand
pub weak : (o : BinaryOperator) → strength o < 11
weak op.LogicalOr = lit< tt
weak _ = lit< tt

-- after an operand its mark is that operator
pub operating : (o : BinaryOperator) → role (mark (operator_mark o)) ≡ Operating o
operating op.LogicalOr = refl
operating _ = refl

-- an operator takes nothing of what is around an operand that holds together as tightly
pub settle_stops : (l : ℕ) (x : Phrase) (k : Cont) → l < 11 → floor k ≤ l → settle l x k ≡ (x, k)
settle_stops l x (beneath u k) w h = absurd (not-le_of_lt w h)
settle_stops l x (right_of a o k) w h =
    ap (λ b. cond b (settle l (binary o a x) k) (x, right_of a o k)) (lt-leb l (strength o) h)
settle_stops l x _ w h = refl

settle_binary : (l : ℕ) (a b : Phrase) (o : BinaryOperator) (k : Cont) → l ≤ strength o
    → settle l b (right_of a o k) ≡ settle l (binary o a b) k
settle_binary l a b o k h = ap (λ t. cond t (settle l (binary o a b) k) (b, right_of a o k)) (le-leb l (strength o) h)

tight_not : (o : BinaryOperator) → 12 ≤ strength o → ⊥
tight_not o = not-le_of_lt (lt_trans (weak o) (lit< tt))

-- what binds no tighter than the operator finds the whole operation
pub role_binary : (r : Role) (t : Word) (a b : Phrase) (o : BinaryOperator) (k : Cont) → grip_of r ≤ strength o
    → have r b (right_of a o k) t ≡ have r (binary o a b) k t
role_binary (Operating q) t a b o k h =
    ap (λ (s : Phrase × Cont). shift q s.0 s.1) (settle_binary (strength q) a b o k h)
role_binary Ending t a b o k h = ap (λ (s : Phrase × Cont). end_at s.0 s.1 t) (settle_binary 0 a b o k h)
role_binary _ t a b o k h = absurd (tight_not o h)

tightest_not : 12 ≤ 11 → ⊥
tightest_not = not-le_of_lt (lit< tt)

-- so does what binds no tighter than an operator before its operand
pub role_unary : (r : Role) (t : Word) (u : UnaryOperator) (a : Phrase) (k : Cont) → grip_of r ≤ 11
    → have r a (beneath u k) t ≡ have r (unary u a) k t
role_unary (Operating q) t u a k h = refl
role_unary Ending t u a k h = refl
role_unary _ t u a k h = absurd (tightest_not h)

-- an operand is never asked to hold together more tightly than one with an operator before it
pub floor_most : (k : Cont) → floor k ≤ 11
floor_most (right_of a o k) = weak o
floor_most (part (condition q) o) = lit≤ tt
floor_most (fronted parenthesis k) = lit≤ tt
floor_most _ = lit≤ tt
