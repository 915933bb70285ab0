-- Arithmetic gives what its width holds.
use Rattle.sharc_invariant.proofs.{Imports.{◌≡◌, ℕ, suc, arith, ℤ, pos, negsuc, ◌+◌, ◌^◌, Bool, true, false, cond, not, Result, Ok, Err, refl, subst, int_rem, ◌+ℤ◌, ◌-ℤ◌, ◌*ℤ◌, int_div, int_le, int_lt, nat_lt, ◌&&◌, int_shr, Code, Operator, Subtract, Multiply, Divide, Remainder, ShiftLeft, ShiftRight, And, Xor, Equal, NotEqual, Greater, AtMost, AtLeast, Width, Char, Int, Long, Instr, Shape, holds, in_range, divided, computed, truth, is_zero, value_bits, complement, Machine, instr_at, int, Turn, Global, MayTurn, one_thread, bounds, Targets, Labels, Within, IsWellTyped, is_shift, is_comparison, FitsWidth, World, State, view_of, refs_at, types_at, Turned}, TurnAt.turn_at, Frames.less_number, Own.{is_single, runs, top, fine}, Operators.{rem_holds, shr_holds, and_holds, or_holds, xor_holds, not_holds}, Steps.{results, numbers, of_turn}}
use Rattle.sharc_code.specs.declared.instr.Operator.TheVariants.{Add, Or, Less}
use Rattle.sharc_tree.specs.declared.trap.Trap.{Trap}

-- a stop, or a value that the width holds
abbrev Gives : Width → Result ℤ Trap → Type 0
Gives w (Ok v) = holds w v ≡ true
Gives w (Err c) = Unit {0}

gives_value : (w : Width) (z : Result ℤ Trap) (v : ℤ) → Gives w z → z ≡ Ok v → holds w v ≡ true
gives_value w z v h e = subst (Gives w) e h

range_gives : (w : Width) (z : ℤ) → Gives w (in_range w z)
range_gives w z = elim (holds w z) as (λ b. holds w z ≡ b → Gives w (cond b (Ok z) (Err Trap.OutOfRange))) [ true ↦ λ h. h | false ↦ λ h. tt ] refl

divide_gives : (w : Width) (a b : ℤ) → Gives w (divided w a b (int_div a b))
divide_gives w a b = elim (is_zero b) as (λ z. Gives w (cond z (Err Trap.DivisionByZero) (cond (holds w (int_div a b)) (Ok (int_div a b)) (Err Trap.OutOfRange)))) [
  | true ↦ tt
  | false ↦ elim (holds w (int_div a b)) as (λ c. holds w (int_div a b) ≡ c → Gives w (cond c (Ok (int_div a b)) (Err Trap.OutOfRange))) [ true ↦ λ h. h | false ↦ λ h. tt ] refl
]

shift_gives : (w : Width) (a b : ℤ) → Gives w (computed w ShiftLeft a b)
shift_gives w a (pos n) = elim (nat_lt n (value_bits w + 1)) as (λ c. Gives w (cond c (in_range w (a *ℤ pos (2 ^ n))) (Err Trap.OutOfRange))) [ true ↦ range_gives w (a *ℤ pos (2 ^ n)) | false ↦ tt ]
shift_gives w a (negsuc n) = tt

truth_gives : (w : Width) (b : Bool) → holds w (truth b) ≡ true
truth_gives Char true = refl
truth_gives _ true = refl
truth_gives _ _ = refl

rem_gives : (w : Width) (a b : ℤ) → holds w a ≡ true → Gives w (divided w a b (int_rem a b))
rem_gives w a b h = elim (is_zero b) as (λ z. Gives w (cond z (Err Trap.DivisionByZero) (cond (holds w (int_div a b)) (Ok (int_rem a b)) (Err Trap.OutOfRange)))) [
  | true ↦ tt
  | false ↦ elim (holds w (int_div a b)) as (λ c. Gives w (cond c (Ok (int_rem a b)) (Err Trap.OutOfRange))) [ true ↦ rem_holds w a b h | false ↦ tt ]
]

right_gives : (w : Width) (a b : ℤ) → holds w a ≡ true → Gives w (computed w ShiftRight a b)
right_gives w a (pos n) h = elim (nat_lt n (value_bits w + 1)) as (λ c. Gives w (cond c (Ok (int_shr a n)) (Err Trap.OutOfRange))) [ true ↦ shr_holds w a n h | false ↦ tt ]
right_gives w a (negsuc n) h = tt

-- of values of the width an operator gives one of it, or a stop; a comparison does so of any values
pub operator_gives : (w : Width) (operator : Operator) (a b : ℤ) → (is_comparison operator ≡ false → holds w a ≡ true) → (is_shift operator ≡ false → is_comparison operator ≡ false → holds w b ≡ true) → Gives w (computed w operator a b)
operator_gives w Add a b ha hb = range_gives w (a +ℤ b)
operator_gives w Subtract a b ha hb = range_gives w (a -ℤ b)
operator_gives w Multiply a b ha hb = range_gives w (a *ℤ b)
operator_gives w Divide a b ha hb = divide_gives w a b
operator_gives w Remainder a b ha hb = rem_gives w a b (ha refl)
operator_gives w ShiftLeft a b ha hb = shift_gives w a b
operator_gives w ShiftRight a b ha hb = right_gives w a b (ha refl)
operator_gives w And a b ha hb = and_holds w a b (ha refl) (hb refl refl)
operator_gives w Or a b ha hb = or_holds w a b (ha refl) (hb refl refl)
operator_gives w Xor a b ha hb = xor_holds w a b (ha refl) (hb refl refl)
operator_gives w Equal a b ha hb = truth_gives w (int_le a b && int_le b a)
operator_gives w NotEqual a b ha hb = truth_gives w (not (int_le a b && int_le b a))
operator_gives w Less a b ha hb = truth_gives w (int_lt a b)
operator_gives w Greater a b ha hb = truth_gives w (int_lt b a)
operator_gives w AtMost a b ha hb = truth_gives w (int_le a b)
operator_gives w AtLeast a b ha hb = truth_gives w (int_le b a)

module _ (x : Targets) (code : Code) (s : Shape) (ls : Labels) (wt : IsWellTyped x code ls) (g : Global Machine) (world : World) (st : State x code s ls g world) (tr : Turn) (may : MayTurn bounds (one_thread code s) g tr) where
  open turn_at st tr use {t, m as mm}

  -- an integer of which a width is known
  pub fits_now : (i : Instr) (is : instr_at code (g.threads tr.thread).at.pc ≡ i) (single : is_single i ≡ true) (r : ℕ) (w : Width) → FitsWidth ((ls.at (g.threads tr.thread).at.pc).ints r) w → holds w (int (g.threads tr.thread) r) ≡ true
  fits_now i is single r w fit =
      let rn = runs x code s ls wt g world st t may.started may.next.runs i is single in
      let tp = top x code s ls wt g world st t may.started may.next.runs i is single in
      let view = view_of st.elements world t mm in
      less_number x st.elements (refs_at view mm.at.refs) (types_at view mm.at.refs) rn.names (int mm r) ((ls.at mm.at.pc).ints r) (Within w) fit ((tp 0 (suc r)).numbers r (omega arith))

  pub Compute_int_keeps : (operator : Operator) (r a b site : ℕ) → instr_at code (g.threads tr.thread).at.pc ≡ Instr.ComputeInt operator r a b site → Turned x code s ls g world tr
  Compute_int_keeps operator r a b site is = let i = Instr.ComputeInt operator r a b site in
      let z = computed Int operator (int mm a) (int mm b) in
      let f = fine x code s ls wt g world st tr.thread may.started may.next.runs i is refl in
      results x code s ls wt g world st tr may i is refl r site z (Within Int) (of_turn x code s ls wt g world st tr may i is refl _ refl) f.1
      (λ v e. gives_value Int z v (operator_gives Int operator (int mm a) (int mm b) (λ c. fits_now i is refl a Int (f.0.left c)) (λ q c. fits_now i is refl b Int (f.0.right q c))) e)

  pub Compute_long_keeps : (operator : Operator) (r a b site : ℕ) → instr_at code (g.threads tr.thread).at.pc ≡ Instr.ComputeLong operator r a b site → Turned x code s ls g world tr
  Compute_long_keeps operator r a b site is = let i = Instr.ComputeLong operator r a b site in
      let z = computed Long operator (int mm a) (int mm b) in
      let f = fine x code s ls wt g world st tr.thread may.started may.next.runs i is refl in
      results x code s ls wt g world st tr may i is refl r site z (Within Long) (of_turn x code s ls wt g world st tr may i is refl _ refl) f.1
      (λ v e. gives_value Long z v (operator_gives Long operator (int mm a) (int mm b) (λ c. fits_now i is refl a Long (f.0.left c)) (λ q c. fits_now i is refl b Long (f.0.right q c))) e)

  pub Complement_keeps : (r a : ℕ) → instr_at code (g.threads tr.thread).at.pc ≡ Instr.Complement r a → Turned x code s ls g world tr
  Complement_keeps r a is = let i = Instr.Complement r a in
      let f = fine x code s ls wt g world st tr.thread may.started may.next.runs i is refl in
      numbers x code s ls wt g world st tr may i is refl r (complement (int mm a)) (Within f.0) (of_turn x code s ls wt g world st tr may i is refl _ refl) f.2
      (not_holds f.0 (int mm a) (fits_now i is refl a f.0 f.1))
