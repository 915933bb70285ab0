use Rattle.sharc_code.proofs.Imports.{◌≡◌, ◌++◌, [], append-nil, refl, sym, ap, ◌∙◌, Instr, shared_line_of}
use Rattle.sharc_code.proofs.lines.put_shared.Goals as goal

pub returns-in_default : goal.returns-in_default
returns-in_default k =
    sym (ap (λ l. k.args.text.now.items ++ l) (none k.args.instr refl) ∙ append-nil k.args.text.now.items)
  where
    none : (i : Instr) → k.args.instr ≡ i → shared_line_of i ≡ []
    none (Instr.Bounds a b c d e) is = absurd (k.in_default.not-Bounds a b c d e is)
    none (Instr.GlobalBounds a b c d e) is = absurd (k.in_default.not-GlobalBounds a b c d e is)
    none (Instr.ChkRead a b) is = absurd (k.in_default.not-ChkRead a b is)
    none (Instr.ChkWrite a b) is = absurd (k.in_default.not-ChkWrite a b is)
    none (Instr.Load a b c) is = absurd (k.in_default.not-Load a b c is)
    none (Instr.Store a b c) is = absurd (k.in_default.not-Store a b c is)
    none (Instr.LoadRef a b) is = absurd (k.in_default.not-LoadRef a b is)
    none (Instr.Exchange a b c) is = absurd (k.in_default.not-Exchange a b c is)
    none (Instr.Raise a b) is = absurd (k.in_default.not-Raise a b is)
    none (Instr.RaiseLoaded a) is = absurd (k.in_default.not-RaiseLoaded a is)
    none (Instr.Lower a) is = absurd (k.in_default.not-Lower a is)
    none (Instr.New a b c d) is = absurd (k.in_default.not-New a b c d is)
    none (Instr.TakeCell a b c) is = absurd (k.in_default.not-TakeCell a b c is)
    none (Instr.TakeLocal a b c) is = absurd (k.in_default.not-TakeLocal a b c is)
    none (Instr.TestSole a b) is = absurd (k.in_default.not-TestSole a b is)
    none (Instr.Clear a b) is = absurd (k.in_default.not-Clear a b is)
    none (Instr.Give a b) is = absurd (k.in_default.not-Give a b is)
    none (Instr.Free a b c) is = absurd (k.in_default.not-Free a b c is)
    none (Instr.Lock a b) is = absurd (k.in_default.not-Lock a b is)
    none (Instr.Unlock a b c) is = absurd (k.in_default.not-Unlock a b c is)
    none (Instr.Spawn a b c d) is = absurd (k.in_default.not-Spawn a b c d is)
    none (Instr.Join a b) is = absurd (k.in_default.not-Join a b is)
    none (Instr.Print a b) is = absurd (k.in_default.not-Print a b is)
    none (Instr.Start a) is = absurd (k.in_default.not-Start a is)
    none Instr.Exit is = absurd (k.in_default.not-Exit is)
    none (Instr.CondEnter a b) is = absurd (k.in_default.not-CondEnter a b is)
    none (Instr.CondWait a b) is = absurd (k.in_default.not-CondWait a b is)
    none (Instr.CondSignal a b) is = absurd (k.in_default.not-CondSignal a b is)
    none (Instr.CondBroadcast a b) is = absurd (k.in_default.not-CondBroadcast a b is)
    none _ is = refl
