use Rattle.sharc_guard.proofs.Imports.{◌≡◌, true, false, refl, subst, Op, is_straight}
use Rattle.sharc_guard.proofs.guarding.straight_statement.Goals as goal

pub unreachable-requires : goal.unreachable-requires
unreachable-requires k = none k.args.op refl
  where
    none : (o : Op) → k.args.op ≡ o → ⊥
    none Op.Enter is = k.in_default.not-Enter is
    none (Op.Constant a b) is = k.in_default.not-Constant a b is
    none (Op.Move a b) is = k.in_default.not-Move a b is
    none (Op.Compute a b c d e f) is = k.in_default.not-Compute a b c d e f is
    none (Op.Negate a b c d) is = k.in_default.not-Negate a b c d is
    none (Op.Complement a b) is = k.in_default.not-Complement a b is
    none (Op.IsFalse a b) is = k.in_default.not-IsFalse a b is
    none (Op.SameReference a b c) is = k.in_default.not-SameReference a b c is
    none (Op.ChkWidth a b c) is = k.in_default.not-ChkWidth a b c is
    none (Op.Null a) is = k.in_default.not-Null a is
    none (Op.Local a b) is = k.in_default.not-Local a b is
    none (Op.MoveReference a b) is = k.in_default.not-MoveReference a b is
    none (Op.Pop a) is = k.in_default.not-Pop a is
    none (Op.Settle a b) is = k.in_default.not-Settle a b is
    none (Op.ChkNull a b) is = k.in_default.not-ChkNull a b is
    none (Op.ChkPositive a b) is = k.in_default.not-ChkPositive a b is
    none (Op.ChkHeld a b) is = k.in_default.not-ChkHeld a b is
    none (Op.ChkNotHeld a b) is = k.in_default.not-ChkNotHeld a b is
    none (Op.ChkRoom a) is = k.in_default.not-ChkRoom a is
    none (Op.Bounds a b c d e) is = k.in_default.not-Bounds a b c d e is
    none (Op.GlobalBounds a b c d e) is = k.in_default.not-GlobalBounds a b c d e is
    none (Op.Load a b c) is = k.in_default.not-Load a b c is
    none (Op.Store a b c) is = k.in_default.not-Store a b c is
    none (Op.LoadRef a b c) is = k.in_default.not-LoadRef a b c is
    none (Op.LoadGuard a b) is = k.in_default.not-LoadGuard a b is
    none (Op.StoreRef a b c) is = k.in_default.not-StoreRef a b c is
    none (Op.New a b c d) is = k.in_default.not-New a b c d is
    none (Op.CondSignal a b) is = k.in_default.not-CondSignal a b is
    none (Op.CondBroadcast a b) is = k.in_default.not-CondBroadcast a b is
    none (Op.Print a b) is = k.in_default.not-Print a b is
    none _ is = let h : false ≡ true = subst (λ o. is_straight o ≡ true) is k.requires.straight in cc
