use Rattle.sharc_code.proofs.Imports.{◌≡◌, ◌++◌, refl, sym, ap, ◌∙◌, on_ok_weaker, Instr, line_of, shared_line_of}
use Rattle.sharc_code.proofs.lines.put_instr.Goals as goal

pub returns-in_default : goal.returns-in_default
returns-in_default k =
    on_ok_weaker k.put_shared.result
    (λ (e : k.put_shared.new.text.items ≡ k.args.text.now.items ++ shared_line_of k.args.instr).
    e ∙ ap (λ l. k.args.text.now.items ++ l) (sym (other k.args.instr refl)))
    k.put_shared.ensures
  where
    other : (i : Instr) → k.args.instr ≡ i → line_of i ≡ shared_line_of i
    other (Instr.Constant a b) is = absurd (k.in_default.not-Constant a b is)
    other (Instr.Move a b) is = absurd (k.in_default.not-Move a b is)
    other (Instr.MoveReference a b) is = absurd (k.in_default.not-MoveReference a b is)
    other (Instr.Null a) is = absurd (k.in_default.not-Null a is)
    other (Instr.ComputeInt a b c d e) is = absurd (k.in_default.not-ComputeInt a b c d e is)
    other (Instr.ComputeLong a b c d e) is = absurd (k.in_default.not-ComputeLong a b c d e is)
    other (Instr.NegateInt a b c) is = absurd (k.in_default.not-NegateInt a b c is)
    other (Instr.NegateLong a b c) is = absurd (k.in_default.not-NegateLong a b c is)
    other (Instr.Complement a b) is = absurd (k.in_default.not-Complement a b is)
    other (Instr.Not a b) is = absurd (k.in_default.not-Not a b is)
    other (Instr.SameReference a b c) is = absurd (k.in_default.not-SameReference a b c is)
    other (Instr.ChkWidth a b c) is = absurd (k.in_default.not-ChkWidth a b c is)
    other (Instr.Jump a) is = absurd (k.in_default.not-Jump a is)
    other (Instr.JumpIfZero a b) is = absurd (k.in_default.not-JumpIfZero a b is)
    other (Instr.JumpIfNull a b) is = absurd (k.in_default.not-JumpIfNull a b is)
    other (Instr.Call a b c d) is = absurd (k.in_default.not-Call a b c d is)
    other (Instr.Return a) is = absurd (k.in_default.not-Return a is)
    other (Instr.ChkNull a b) is = absurd (k.in_default.not-ChkNull a b is)
    other (Instr.ChkHeld a b) is = absurd (k.in_default.not-ChkHeld a b is)
    other (Instr.ChkNotHeld a b) is = absurd (k.in_default.not-ChkNotHeld a b is)
    other (Instr.ChkPositive a b) is = absurd (k.in_default.not-ChkPositive a b is)
    other (Instr.ChkRoom a) is = absurd (k.in_default.not-ChkRoom a is)
    other (Instr.ChkLock a b) is = absurd (k.in_default.not-ChkLock a b is)
    other (Instr.ChkLockLoaded a) is = absurd (k.in_default.not-ChkLockLoaded a is)
    other _ is = refl
