-- Operators and constants.
use Rattle.sharc_flat.proofs.{Imports.{◌≡◌, ℕ, suc, ◌+◌, ◌<◌, ◌≤◌, Bool, true, false, cond, List, [], ◌∷◌, ◌++◌, length, Option, Some, refl, sym, ap, ◌∙◌, subst, arith, length-append, append-nil, ℤ, pos, negsuc, slice_get, not, nat_lt, Result, Ok, Err, int_div, int_lt, int_le, Base, BinaryOperator, LogicalOr, LogicalAnd, Equal, NotEqual, Less, Greater, LessOrEqual, GreaterOrEqual, ShiftLeft, ShiftRight, Add, Subtract, Multiply, Divide, Remainder, Trap, Expression, Kind, object, array, is_integer, int, long, promoted, is_long, Assignment, StorePlace, State, Run, ◌>>=◌, ◌>>◌, give, entered, is_reference, temporarily, done, holds_reference, stopped, holds, bits_of, bits_of_base, is_zero, is_equal, truth, operated, in_range, is_held_by, divided, shifted, resulting, operand, Op, Spot, put, op_turn, with_result, int_count, Slot, Target, width_of, base_as_width, operator_of, Width, kind_at}, Banks.{put_same, put_other}, Runs.{has_front, has_back, Fin, fin_then, Same, weaken, step, bind, without, enters_at, ends}, Agreeing.{Standing, place, Agree, holding, with_int, same_frame, loose_of, Rest}, Values.{integer_is, loosen, released, given_place, int_valued, RunsAs, RestAt, PlaceAs, temporarily_runs}}
use Rattle.sharc_code.specs.Arithmetic as code

-- ---- arithmetic: the two sides say the same
pub holds_same : (w : Width) (v : ℤ) → code.holds w v ≡ is_held_by (code.value_bits w) v
holds_same w (pos n) = refl
holds_same w (negsuc n) = refl

pub range_same : (w : Width) (v : ℤ) → code.in_range w v ≡ in_range (code.value_bits w) v
range_same w v = ap (λ b. cond b (Ok v) (Err Trap.OutOfRange)) (holds_same w v)

pub zero_same : (v : ℤ) → code.is_zero v ≡ is_zero v
zero_same (pos (suc n)) = refl
zero_same _ = refl

pub truth_same : (b : Bool) → code.truth b ≡ truth b
truth_same true = refl
truth_same false = refl

divided_same : (w : Width) (a b v : ℤ) → code.divided w a b v ≡ divided (code.value_bits w) a b v
divided_same w a b v = ap (λ x. cond x (Err Trap.DivisionByZero) (cond (code.holds w (int_div a b)) (Ok v) (Err Trap.OutOfRange))) (zero_same b) ∙ ap (λ x. cond (is_zero b) (Err Trap.DivisionByZero) (cond x (Ok v) (Err Trap.OutOfRange))) (holds_same w (int_div a b))

shifted_same : (w : Width) (b : ℤ) (f g : ℕ → Result ℤ Trap) → ((n : ℕ) → f n ≡ g n) → code.shifted w b f ≡ shifted (code.value_bits w) b g
shifted_same w (pos n) f g h = ap (λ x. cond (nat_lt n (code.value_bits w + 1)) x (Err Trap.OutOfRange)) (h n)
shifted_same w (negsuc n) f g h = refl

-- an operator that looks at both of its operands
abbrev pub is_strict : BinaryOperator → Bool
is_strict LogicalOr = false
is_strict LogicalAnd = false
is_strict _ = true

pub computed_same : (w : Width) (o : BinaryOperator) (a b : ℤ) → is_strict o ≡ true → code.computed w (operator_of o) a b ≡ operated (code.value_bits w) o a b
computed_same w LogicalOr a b h = absurd (cc)
computed_same w LogicalAnd a b h = absurd (cc)
computed_same w Equal a b h = ap Ok (truth_same (is_equal a b))
computed_same w NotEqual a b h = ap Ok (truth_same (not (is_equal a b)))
computed_same w Less a b h = ap Ok (truth_same (int_lt a b))
computed_same w Greater a b h = ap Ok (truth_same (int_lt b a))
computed_same w LessOrEqual a b h = ap Ok (truth_same (int_le a b))
computed_same w GreaterOrEqual a b h = ap Ok (truth_same (int_le b a))
computed_same w ShiftLeft a b h = shifted_same w b _ _ (λ n. range_same w _)
computed_same w ShiftRight a b h = shifted_same w b _ _ (λ n. refl)
computed_same w Add a b h = range_same w _
computed_same w Subtract a b h = range_same w _
computed_same w Multiply a b h = range_same w _
computed_same w Divide a b h = divided_same w a b _
computed_same w Remainder a b h = divided_same w a b _
computed_same w _ a b h = refl

base_bits : (b : Base) → code.value_bits (base_as_width b) ≡ bits_of_base b
base_bits (Base.Struct name) = refl
base_bits _ = refl

pub bits_same : (kind : Kind) → code.value_bits (width_of kind) ≡ bits_of kind
bits_same (object b stars) = base_bits b
bits_same (array b stars) = base_bits b
bits_same _ = refl

pub promoted_by : (b : Bool) → (is_reference (cond b long int) ≡ false) × (is_integer (cond b long int) ≡ true)
promoted_by true = (refl, refl)
promoted_by false = (refl, refl)

pub promoted_int : (kind : Kind) → is_reference (promoted kind) ≡ false
promoted_int kind = (promoted_by (is_long kind)).0

module _ (m : Assignment) (z : Standing) (scope : List Slot) where
  -- one more is entered
  pub entered_runs : (kind : Kind) (need : ℕ) (run : Run ℤ) (code : ℕ → ℕ → List Op) → need ≤ 7 → RunsAs m z scope kind need run code → RunsAs m z scope kind 0 (entered run) (λ i r. Op.Enter ∷ code i r)
  entered_runs kind need run code few of_run T i r pc c ints refs s k has le re a rest =
      let end : pc + 1 + length (code i r) ≡ pc + length (Op.Enter ∷ code i r) = omega arith in
      weaken z.flat s.fuel c (c + 0) _ s.answers _ (omega arith)
      (enters_at z.flat s.fuel c run k s (place z pc ints refs s) (place z (pc + 1) ints refs s) refl (holding z T scope ints refs s a) refl refl has.0 refl
      (λ f. weaken z.flat f (c + need) (c + 7) _ s.answers _ (omega arith)
      (of_run T i r (pc + 1) c ints refs (record s { fuel = f }) k has.1 le re (same_frame z T scope [] ints refs s (record s { fuel = f }) refl refl a)
      (subst (λ q. Rest z kind T scope i q (c + 6) ints k) (sym end) rest))))

  pub entered_place : (t : Target) (f guard : Option ℕ) (need : ℕ) (run : Run StorePlace) (code : ℕ → ℕ → List Op) → need ≤ 7 → PlaceAs m z scope t f guard need run code → PlaceAs m z scope t f guard 0 (entered run) (λ i r. Op.Enter ∷ code i r)
  entered_place t f guard need run code few of_run T i r pc c ints refs s k has le re a rest =
      let end : pc + 1 + length (code i r) ≡ pc + length (Op.Enter ∷ code i r) = omega arith in
      weaken z.flat s.fuel c (c + 0) _ s.answers _ (omega arith)
      (enters_at z.flat s.fuel c run k s (place z pc ints refs s) (place z (pc + 1) ints refs s) refl (holding z T scope ints refs s a) refl refl has.0 refl
      (λ f0. weaken z.flat f0 (c + need) (c + 7) _ s.answers _ (omega arith)
      (of_run T i r (pc + 1) c ints refs (record s { fuel = f0 }) k has.1 le re (same_frame z T scope [] ints refs s (record s { fuel = f0 }) refl refl a)
      (subst (λ q. RestAt m z scope t f guard T i q (c + 6) ints k) (sym end) rest))))

  -- what an operation makes goes to the register
  pub result_runs : (kind : Kind) (o : Op) (spot : Spot) (res : Result ℤ Trap) (T : List ℤ) (i pc c : ℕ) (ints0 ints refs : ℕ → ℤ) (s : State) (k : ℤ → State → Fin) → is_reference kind ≡ false → slice_get z.flat.lines pc ≡ Some o
      → op_turn z.flat o (place z pc ints refs s) ≡ with_result i spot (place z pc ints refs s) res → int_count scope ≤ i → Agree z T scope [] ints refs s → ((n : ℕ) → n < z.ints + i → ints n ≡ ints0 n) → Rest z kind T scope i (pc + 1) c ints0 k
      → Same z.flat s.fuel (c + 1) (fin_then (resulting spot.site res s) k) s.answers (place z pc ints refs s)
  result_runs kind o spot (Ok v) T i pc c ints0 ints refs s k e at is le a kept rest =
      step z.flat o s.fuel c (k v s) s.answers (place z pc ints refs s) (place z (pc + 1) (put ints (z.ints + i) v) refs s) at is
      (rest v (put ints (z.ints + i) v) refs s (int_valued m z scope kind T i v ints0 (put ints (z.ints + i) v) refs s e (with_int z T scope [] i v ints refs s le a)
      (λ n lt. put_other ints (z.ints + i) v n (λ q. omega arith) ∙ kept n lt) (put_same ints (z.ints + i) v)))
  result_runs kind o spot (Err x) T i pc c ints0 ints refs s k e at is le a kept rest =
      ends z.flat o (stopped x spot.site) c s (place z pc ints refs s) (holding z T scope ints refs s a) refl refl at is

  -- an operation on one integer
  pub unary_runs : (ka kind : Kind) (run : Run ℤ) (code : ℕ → ℕ → List Op) (o : ℕ → Op) (spot : Spot) (f : ℤ → Result ℤ Trap) → is_integer ka ≡ true → is_reference kind ≡ false
      → ((i pc : ℕ) (ints refs : ℕ → ℤ) (s : State) → op_turn z.flat (o i) (place z pc ints refs s) ≡ with_result i spot (place z pc ints refs s) (f (ints (z.ints + i))))
      → RunsAs m z scope ka 0 run code → RunsAs m z scope kind 1 (run >>= λ v. resulting spot.site (f v)) (λ i r. code i r ++ o i ∷ [])
  unary_runs ka kind run code o spot f ea e turn_is of_run T i r pc c ints refs s k has le re a rest =
      let end : pc + length (code i r) + 1 ≡ pc + length (code i r ++ o i ∷ []) = omega (arith, length-append (code i r) (o i ∷ [])) in
      bind z.flat s.fuel (c + 1) s.answers (run s) (λ v. resulting spot.site (f v)) k (place z pc ints refs s)
      (weaken z.flat s.fuel (c + 1 + 0) (c + 1) _ s.answers _ (omega arith)
      (of_run T i r pc (c + 1) ints refs s (λ v u. fin_then (resulting spot.site (f v) u) k) (has_front z.flat.lines pc (code i r) (o i ∷ []) has) le re a (λ v ints1 refs1 s1 w.
      let a1 : Agree z T scope [] ints1 refs1 s1 = subst (λ b. Agree z T scope (loose_of b v) ints1 refs1 s1) (integer_is ka ea) w.agree in
      weaken z.flat s1.fuel (c + 6 + 1) (c + 1 + 6) _ s1.answers _ (omega arith)
      (result_runs kind (o i) spot (f v) T i (pc + length (code i r)) (c + 6) ints ints1 refs1 s1 k e (has_back z.flat.lines pc (code i r) (o i ∷ []) has).0
      (turn_is i (pc + length (code i r)) ints1 refs1 s1 ∙ ap (λ x. with_result i spot (place z (pc + length (code i r)) ints1 refs1 s1) (f x)) (w.value ea)) le a1 w.kept
      (subst (λ q. Rest z kind T scope i q (c + 6) ints k) (sym end) rest)))))

  -- where no temporaries end
  pub none_end : (T L : List ℤ) (pc : ℕ) (ints refs : ℕ → ℤ) (s : State) → Agree z T scope L ints refs s → Agree z T scope L ints refs (without (length T) s) × (place z pc ints refs (without (length T) s) ≡ place z pc ints refs s)
  none_end T L pc ints refs s a =
      let a1 : Agree z (T ++ []) scope L ints refs s = subst (λ t. Agree z t scope L ints refs s) (sym (append-nil T)) a in
      (loosen z T scope [] L ints refs s a1, sym (given_place z pc ints refs (without (length T) s) s.given_up (released z T scope [] L ints refs s a1 ∙ append-nil s.given_up)))

  -- an operation on two integers, in a scope of temporaries that holds none
  pub binary_runs : (ka kb kind : Kind) (ea eb : Expression) (of_a of_b : Run ℤ) (ca cb : ℕ → ℕ → List Op) (o : ℕ → Op) (spot : Spot) (f : ℤ → ℤ → Result ℤ Trap) → ka ≡ kind_at m.typed ea → kb ≡ kind_at m.typed eb → is_integer ka ≡ true → is_integer kb ≡ true → is_reference kind ≡ false
      → ((i pc : ℕ) (ints refs : ℕ → ℤ) (s : State) → op_turn z.flat (o i) (place z pc ints refs s) ≡ with_result i spot (place z pc ints refs s) (f (ints (z.ints + i)) (ints (z.ints + (i + 1)))))
      → RunsAs m z scope ka 0 of_a ca → RunsAs m z scope kb 0 of_b cb
      → RunsAs m z scope kind 0 (temporarily (operand m.typed ea of_a >>= λ x. operand m.typed eb of_b >>= λ y. resulting spot.site (f x y))) (λ i r. ca i r ++ (cb (i + 1) r ++ o i ∷ []))
  binary_runs ka kb kind xa xb of_a of_b ca cb o spot f ia ib ea eb e turn_is runs_a runs_b T i r pc c ints refs s k has le re a rest =
      let tail = cb (i + 1) r ++ o i ∷ [] in
      let end : pc + length (ca i r) + length (cb (i + 1) r) + 1 ≡ pc + length (ca i r ++ tail) = omega (arith, length-append (ca i r) tail, length-append (cb (i + 1) r) (o i ∷ [])) in
      let has_t = has_back z.flat.lines pc (ca i r) tail has in
      let K : ℤ → State → Fin = λ v u. k v (without (length T) u) in
      let ra : is_reference (kind_at m.typed xa) ≡ false = ap is_reference (sym ia) ∙ integer_is ka ea in
      let rb : is_reference (kind_at m.typed xb) ≡ false = ap is_reference (sym ib) ∙ integer_is kb eb in
      let run = operand m.typed xa of_a >>= λ x. operand m.typed xb of_b >>= λ y. resulting spot.site (f x y) in
      temporarily_runs m z scope T s.fuel (c + 0) s.answers run s k (place z pc ints refs s) a.temporaries
      (bind z.flat s.fuel (c + 0) s.answers (operand m.typed xa of_a s) (λ x. operand m.typed xb of_b >>= λ y. resulting spot.site (f x y)) K (place z pc ints refs s)
      (bind z.flat s.fuel (c + 0) s.answers (of_a s) (λ v. holds (kind_at m.typed xa) v >> give v) (λ x u. fin_then ((operand m.typed xb of_b >>= λ y. resulting spot.site (f x y)) u) K) (place z pc ints refs s)
      (runs_a T i r pc c ints refs s _ (has_front z.flat.lines pc (ca i r) tail has) le re a (λ x ints1 refs1 s1 w1.
      let a1 : Agree z T scope [] ints1 refs1 s1 = subst (λ b. Agree z T scope (loose_of b x) ints1 refs1 s1) (integer_is ka ea) w1.agree in
      let le1 : int_count scope ≤ i + 1 = omega arith in
      subst (λ b. Same z.flat s1.fuel (c + 6) (fin_then ((cond b (holds_reference x) done >> give x) s1) (λ x u. fin_then ((operand m.typed xb of_b >>= λ y. resulting spot.site (f x y)) u) K)) s1.answers (place z (pc + length (ca i r)) ints1 refs1 s1)) (sym ra)
      (bind z.flat s1.fuel (c + 6) s1.answers (operand m.typed xb of_b s1) (λ y. resulting spot.site (f x y)) K (place z (pc + length (ca i r)) ints1 refs1 s1)
      (bind z.flat s1.fuel (c + 6) s1.answers (of_b s1) (λ v. holds (kind_at m.typed xb) v >> give v) (λ y u. fin_then (resulting spot.site (f x y) u) K) (place z (pc + length (ca i r)) ints1 refs1 s1)
      (weaken z.flat s1.fuel (c + 1 + 0) (c + 6) _ s1.answers _ (omega arith)
      (runs_b T (i + 1) r (pc + length (ca i r)) (c + 1) ints1 refs1 s1 _ (has_front z.flat.lines (pc + length (ca i r)) (cb (i + 1) r) (o i ∷ []) has_t) le1 re a1 (λ y ints2 refs2 s2 w2.
      let a2 : Agree z T scope [] ints2 refs2 s2 = subst (λ b. Agree z T scope (loose_of b y) ints2 refs2 s2) (integer_is kb eb) w2.agree in
      let pc2 = pc + length (ca i r) + length (cb (i + 1) r) in
      let x_is : ints2 (z.ints + i) ≡ x = w2.kept (z.ints + i) (omega arith) ∙ w1.value ea in
      subst (λ b. Same z.flat s2.fuel (c + 1 + 6) (fin_then ((cond b (holds_reference y) done >> give y) s2) (λ y u. fin_then (resulting spot.site (f x y) u) K)) s2.answers (place z pc2 ints2 refs2 s2)) (sym rb)
      (weaken z.flat s2.fuel (c + 6 + 1) (c + 1 + 6) _ s2.answers _ (omega arith)
      (result_runs kind (o i) spot (f x y) T i pc2 (c + 6) ints ints2 refs2 s2 K e (has_back z.flat.lines (pc + length (ca i r)) (cb (i + 1) r) (o i ∷ []) has_t).0
      (turn_is i pc2 ints2 refs2 s2 ∙ ap (λ q. with_result i spot (place z pc2 ints2 refs2 s2) (f q (ints2 (z.ints + (i + 1))))) x_is ∙ ap (λ q. with_result i spot (place z pc2 ints2 refs2 s2) (f x q)) (w2.value eb)) le a2
      (λ n lt. w2.kept n (omega arith) ∙ w1.kept n lt)
      (λ v ints3 refs3 s3 w3.
      let n3 = none_end T (loose_of (is_reference kind) v) (pc2 + 1) ints3 refs3 s3 w3.agree in
      subst (λ w. Same z.flat s3.fuel (c + 6) (k v (without (length T) s3)) s3.answers w) n3.1
      (subst (λ q. Same z.flat s3.fuel (c + 6) (k v (without (length T) s3)) s3.answers (place z q ints3 refs3 (without (length T) s3))) (sym end)
      (rest v ints3 refs3 (without (length T) s3) (record { agree = n3.0; kept = w3.kept; value = w3.value })))))))))))))))
