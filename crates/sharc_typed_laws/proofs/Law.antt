-- The laws of parts of expressions, of expressions and of simple statements.
use Rattle.sharc_typed_laws.proofs.{Imports.{ℕ, ◌+◌, Bool, true, false, List, ◌++◌, subst, Expression, is_integer, Op, Context, ref_count, kind_of, is_ref, truth_code, expression_code, Refers, Label, fill, set_number, less_refl, Setting, Way, AreOpen, LeadsAmong, AreLow, mark, Typing, IsBare, StretchesJoin, PartsAreTyped, ValueComes, ExpressionsAreTyped, SimplesAreTyped, TestsAreTyped}, Expressing.{bare_frame, Value, expressions, truth_of}, Losing.kept, Simple.{simples, all_kept}, Parts.{At, then_do, truth_at, pop_at, compare_at, logical_at, either_at, pointee_at}}

pub stretches_join : StretchesJoin
stretches_join z f ways s m e xs ys p q = then_do z f (AreOpen z ways) (λ q. false) 0 (λ p e. absurd (cc)) 0 s m e xs ys p q

pub parts_typed : PartsAreTyped
parts_typed z f ways named top from i r l low le stands owned =
    let at : At z f (AreOpen z ways) named top low from i r l = record { stands = stands; owned = owned } in
    record {
      truth = λ t v b fits copy. truth_at z f (AreOpen z ways) named top low from i r l at le t v b fits copy;
      drop = λ t v b fits. pop_at z f (AreOpen z ways) named top low from i r l at le t v b fits i;
      comparison = λ t s v w x y fits fits2 copy other o. compare_at z f (AreOpen z ways) named top low from i r l at le t s v w x y fits fits2 copy other o;
      logical = λ xs ys p q. logical_at z f (AreOpen z ways) named top low from i r l l at at (less_refl l) (mark l from i) xs ys p q;
      either = λ xs ys p q. either_at z f (AreOpen z ways) named top low from i r l l at at (less_refl l) (mark l from i) xs ys p q;
      pointee = λ t v b fits copy s site xs p. pointee_at z f (AreOpen z ways) named top low from i r l at t v b fits copy s i site xs p;
    }

-- ---- expressions
-- nothing is at hand but variables
module _ (z : Setting) (f : ℕ) (ways : List Way) (y : Typing) (c : Context) (low : AreLow (y.named c) (ref_count c.scope)) (from i r : ℕ) (l : Label) (alone : IsBare l) where
  comes : (e : Expression) (os : List Op) (a b : Bool) → Value z f ways y c low from i r l os e a b → ValueComes z f ways y c from i r l os e a b
  comes e os true b v = λ s goes fits.
      let w = v s goes fits in
      record { copy = w.copy; of_variable = w.copies; is = w.small; leads = subst (λ k. LeadsAmong z f ways (mark l from i) os (mark (fill k r (Refers s) w.copy false) from i)) (kept (y.named c) l w.lost w.loses alone) w.piece }
  comes e os false true v = record {
    number = v.number;
    plain = v.plain;
    fits = v.fits;
    leads = subst (λ k. LeadsAmong z f ways (mark l from i) os (mark (set_number k i v.number) from (i + 1))) (kept (y.named c) l v.lost v.loses alone) v.piece;
  }
  comes e os false false v = all_kept z f ways y c low from i l alone os v

pub expressions_typed : ExpressionsAreTyped
expressions_typed z f ways y c low from i r l in_it alone e h =
    comes z f ways y c low from i r l alone e (expression_code c i r e) (is_ref c e) (is_integer (kind_of c e)) (expressions z f ways y c low from i r l (bare_frame z f ways y c low from i r l in_it alone) e h)

-- ---- simple statements
pub simples_typed : SimplesAreTyped
simples_typed z f ways y c low from i r l in_it alone whole x h = simples z f ways y c low from i r l (bare_frame z f ways y c low from i r l in_it alone) alone whole x h

pub tests_typed : TestsAreTyped
tests_typed z f ways y c low from i r l in_it alone e h type =
    let fr = bare_frame z f ways y c low from i r l in_it alone in
    all_kept z f ways y c low from i l alone (expression_code c i r e ++ truth_code (is_ref c e) i r) (truth_of z f ways y c low from i r l fr e (expression_code c i r e) type (expressions z f ways y c low from i r l fr e h))
