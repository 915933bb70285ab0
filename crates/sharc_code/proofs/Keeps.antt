-- What every turn keeps: the number of the thread, the rows of its table, a stage of the shape, and the prints but for one more.
use Rattle.sharc_code.proofs.{Imports.{◌≡◌, ℕ, length, refl, sym, subst, [], ◌∷◌, length-append, arith, length-set, noted, Code, Instr, Shape, Stage, Makes, Names, Hands, Begins, Machine, Own, instr_at, TurnOutcome, Stays, Rested, Notes, Prints, Begun, Refused, Gone, own_after, IsNextStage, MayComeOut, after, turn, IsStageOf, Keeps}, Outcomes.comes_out}

next : (s : Shape) (found : ℕ) (old stage : Stage) → IsNextStage s found old stage → IsStageOf s old → IsStageOf s stage
next s found old (Makes view) comes is = comes is
next s found old (Names n) comes is = comes.1
next s found old (Hands n) comes is = subst (IsStageOf s) comes is
next s found old (Begins n) comes is = subst (IsStageOf s) comes is
next s found old _ comes is = tt

module _ (s : Shape) (m : Machine) where
  changed : (new : Own) → length new.table.notes ≡ length m.own.table.notes → new.number ≡ m.own.number → length new.prints ≡ length m.own.prints → (IsStageOf s m.own.stage → IsStageOf s new.stage) → Keeps (IsStageOf s) m.own new
  changed new rows number prints stage = record { rows = rows; number = number; prints = omega (arith, prints); stage = stage }

  own_keeps : (i : Instr) (found : ℕ) (o : TurnOutcome) → MayComeOut s i m found o → Keeps (IsStageOf s) m.own (own_after o m.own)
  unfolding noted
  own_keeps i found (Stays stage) may = changed _ refl refl refl (next s found m.own.stage stage may.1)
  own_keeps i found (Notes granule kind note) may = changed _ (length-set m.own.table.notes granule _) refl refl (λ is. is)
  own_keeps i found (Prints print) may = record { rows = refl; number = refl; prints = omega (arith, length-append m.own.prints (print ∷ [])); stage = λ is. is }
  own_keeps i found (Rested heads) may = changed _ refl refl refl (λ is. tt)
  own_keeps i found (Begun function) may = changed _ refl refl refl (λ is. tt)
  own_keeps i found (Refused function site) may = changed _ refl refl refl (λ is. tt)
  own_keeps i found Gone may = changed _ refl refl refl (λ is. tt)
  own_keeps i found _ may = changed _ refl refl refl (λ is. is)

pub keeps_turn : (code : Code) (s : Shape) (m : Machine) (found : ℕ) → Keeps (IsStageOf s) m.own (after (turn code s m) found).own
keeps_turn code s m found =
    let i = instr_at code m.at.pc in
    let out = comes_out code s m i found in
    subst (Keeps (IsStageOf s) m.own) (sym out.own) (own_keeps s m i found out.outcome out.may)
