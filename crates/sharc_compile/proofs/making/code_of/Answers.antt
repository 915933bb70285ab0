use Rattle.sharc_compile.proofs.{Imports.{IfOk, Result, Ok, Err, subst, sym, Code, NumbersFit, IsFramed, flat_of, IsGenerated, program_of, IsCodeOf, dropped, FlatTablesFit, IsGuarded, TablesFit}, Same.same}
use Rattle.sharc_compile.proofs.making.code_of.Goals as goal

pub returns-clause-is : goal.returns-clause-is
returns-clause-is c = all c.generate.result c.generate.ensures.is
  where
    all : {E : Type 0} (r : Result Code E) → IfOk r (λ code. IsGenerated c.in_ok-guarded.guarded code) → IfOk r (λ code. IsCodeOf c.args.flat code)
    all (Ok code) h = record { g = c.in_ok-guarded.guarded; made = c.in_ok-guarded.ensures; generated = h }
    all (Err e) h = tt

pub returns-clause-numbers : goal.returns-clause-numbers
returns-clause-numbers c = all c.generate.result c.generate.ensures.numbers
  where
    all : {E : Type 0} (r : Result Code E) → IfOk r (λ code. IsGuarded (program_of c.in_ok-guarded.guarded) → TablesFit c.in_ok-guarded.guarded → NumbersFit code)
        → IfOk r (λ code. IsFramed (flat_of c.args.flat) → FlatTablesFit c.args.flat → NumbersFit code)
    all (Ok code) h = λ framed tables.
        let d = dropped (flat_of c.args.flat) in
        let g = c.in_ok-guarded.guarded in
        h (subst IsGuarded (sym (same d c.args.flat g c.in_ok-guarded.ensures)) (c.framed_law.ensures (flat_of c.args.flat) d framed)) (c.tables_law.ensures d c.args.flat g c.in_ok-guarded.ensures tables)
    all (Err e) h = tt
