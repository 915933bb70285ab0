-- No turn but that of Lock, Join and CondWait is a failed try.
use Rattle.sharc_code.proofs.{Imports.{◌≡◌, ℕ, Bool, true, false, None, refl, sym, ap, ◌∙◌, Code, Cell, Instr, Shape, TurnState, Runs, Tries, Stopped, Ended, Machine, act, TurnOutcome, Fails, state_after, is_trying, MayComeOut, after, asks_for}, Outcomes.comes_out}

abbrev pub is_try : TurnState → Bool
is_try Runs = false
is_try Tries = true
is_try Stopped = false
is_try Ended = false

no_try : (s : Shape) (i : Instr) (m : Machine) (found : ℕ) (o : TurnOutcome) → is_trying i ≡ false → MayComeOut s i m found o → is_try (state_after o) ≡ false
no_try s i m found Fails other may = absurd (let e : true ≡ false = sym may ∙ other in cc)
no_try s i m found _ other may = refl

module _ (code : Code) (s : Shape) (m : Machine) where
  moves : (i : Instr) → is_trying i ≡ false → (found : ℕ) → is_try (after (act code s i m) found).at.state ≡ false
  moves i other found = let out = comes_out code s m i found in ap is_try out.state ∙ no_try s i m found out.outcome other out.may

  -- ---- the kinds of instructions
  pub data Sorted (i : Instr) : Type 0 where
    Other : asks_for s i m ≡ None → ((found : ℕ) → is_try (after (act code s i m) found).at.state ≡ false) → Sorted i
    Locks : (cell : Cell) (site : ℕ) → i ≡ Instr.Lock cell site → Sorted i
    Joins : (r site : ℕ) → i ≡ Instr.Join r site → Sorted i
    Conds : (cell : Cell) (site : ℕ) → i ≡ Instr.CondWait cell site → Sorted i

  pub sorted : (i : Instr) → Sorted i
  sorted (Instr.Lock cell site) = Locks cell site refl
  sorted (Instr.Join r site) = Joins r site refl
  sorted (Instr.CondWait cell site) = Conds cell site refl
  sorted i = Other refl (moves i refl)
