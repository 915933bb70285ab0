-- Lines that are made one after the other.
use Rattle.sharc_flatten.proofs.Imports.{◌≡◌, ℕ, ◌+◌, ◌-◌, ◌<◌, List, [], ◌∷◌, ◌++◌, length, set, take, Some, None, refl, ap, sym, ◌∙◌, arith, append_assoc, length-append, set-append_right, length_push, take_at, Op, Enter, IsFalse, Jump, Skip, SkipIfZero, if_code, choice_code, turns_code, loop_code, decided_code, finished}

set_at : (xs ys : List Op) (n k : ℕ) (v : Op) → n ≡ length xs + k → set (xs ++ ys) n v ≡ xs ++ set ys k v
set_at xs ys n k v e =
    let d : n - length xs ≡ k = omega arith in
    set-append_right xs ys (length xs) n v refl (omega arith) ∙ ap (λ j. xs ++ set ys j v) d

set_between : (xs ys : List Op) (x v : Op) (n : ℕ) → n ≡ length xs → set (xs ++ x ∷ ys) n v ≡ xs ++ v ∷ ys
set_between xs ys x v n e = set_at xs (x ∷ ys) n 0 v (omega arith)

-- a line that leads over the lines after it, and over this many more
pub filled : (old body : List Op) (h : Op) (make : ℕ → Op) (more n : ℕ) → n ≡ length old
    → set ((old ++ h ∷ []) ++ body) n (make (length ((old ++ h ∷ []) ++ body) - n - 1 + more)) ≡ old ++ make (length body + more) ∷ body
filled old body h make more n e =
    let same : (old ++ h ∷ []) ++ body ≡ old ++ h ∷ body = append_assoc old (h ∷ []) body in
    let count : length (old ++ h ∷ body) - n - 1 + more ≡ length body + more = omega (arith, length-append old (h ∷ body)) in
    ap (λ l. set l n (make (length l - n - 1 + more))) same ∙ ap (λ k. set (old ++ h ∷ body) n (make k)) count ∙ set_between old body h (make (length body + more)) n e

-- the right operand of `&&` or `||`
pub decided : (old e t filled_in l1 l2 l3 l5 l6 : List Op) (i more n : ℕ) → n ≡ length old → l1 ≡ old ++ SkipIfZero i 0 ∷ [] → l2 ≡ l1 ++ e → l3 ≡ l2 ++ t
    → filled_in ≡ set l3 n (SkipIfZero i (length l3 - n - 1 + more)) → l5 ≡ filled_in ++ IsFalse i i ∷ [] → l6 ≡ l5 ++ IsFalse i i ∷ []
    → l6 ≡ old ++ decided_code i more (e ++ t)
decided old e t filled_in l1 l2 l3 l5 l6 i more n at e1 e2 e3 e4 e5 e6 =
    let f = IsFalse i i in
    let h = SkipIfZero i 0 in
    let parts : l3 ≡ (old ++ h ∷ []) ++ (e ++ t) = e3 ∙ ap (λ l. l ++ t) (e2 ∙ ap (λ l. l ++ e) e1) ∙ append_assoc (old ++ h ∷ []) e t in
    let made : filled_in ≡ old ++ SkipIfZero i (length (e ++ t) + more) ∷ (e ++ t) =
    e4 ∙ ap (λ l. set l n (SkipIfZero i (length l - n - 1 + more))) parts ∙ filled old (e ++ t) h (SkipIfZero i) more n at in
    e6 ∙ ap (λ l. l ++ f ∷ []) (e5 ∙ ap (λ l. l ++ f ∷ []) made)
    ∙ append_assoc (old ++ SkipIfZero i (length (e ++ t) + more) ∷ (e ++ t)) (f ∷ []) (f ∷ [])
    ∙ append_assoc old (SkipIfZero i (length (e ++ t) + more) ∷ (e ++ t)) (f ∷ f ∷ [])

-- ---- statements one after the other, each by its place

-- the lines after an Enter
pub entered : (old begun new : List Op) (F : ℕ → List Op) → begun ≡ old ++ Enter ∷ [] → new ≡ begun ++ F (length begun) → new ≡ old ++ Enter ∷ F (length old + 1)
entered old begun new F e1 e2 =
    let size : length begun ≡ length old + 1 = ap length e1 ∙ length_push old Enter in
    e2 ∙ ap (λ n. begun ++ F n) size ∙ ap (λ l. l ++ F (length old + 1)) e1 ∙ append_assoc old (Enter ∷ []) (F (length old + 1))

-- ---- a test, and what it leads over
abbrev led : List Op → ℕ → ℕ → List Op
led test i over = test ++ SkipIfZero i over ∷ []

pub tested : (old test body : List Op) (i more n : ℕ) → n ≡ length (old ++ led test i 0) - 1
    → (let lines = (old ++ led test i 0) ++ body in
    set lines n (SkipIfZero i (length lines - n - 1 + more)) ≡ old ++ (led test i (length body + more) ++ body))
tested old test body i more n e =
    let h = SkipIfZero i 0 in
    let v = SkipIfZero i (length body + more) in
    let same : (old ++ (test ++ h ∷ [])) ++ body ≡ ((old ++ test) ++ h ∷ []) ++ body = ap (λ l. l ++ body) (sym (append_assoc old test (h ∷ []))) in
    let at : n ≡ length (old ++ test) = omega (arith, length-append old (test ++ h ∷ []), length-append test (h ∷ []), length-append old test) in
    ap (λ l. set l n (SkipIfZero i (length l - n - 1 + more))) same
    ∙ filled (old ++ test) body h (SkipIfZero i) more n at
    ∙ append_assoc old test (v ∷ body)
    ∙ ap (λ l. old ++ l) (sym (append_assoc test (v ∷ []) body))

pub chosen : (old test l1 l2 l3 : List Op) (i n : ℕ) (F : ℕ → List Op) → l1 ≡ old ++ led test i 0 → l2 ≡ l1 ++ F (length l1) → n ≡ length l1 - 1
    → l3 ≡ set l2 n (SkipIfZero i (length l2 - n - 1 + 0)) → l3 ≡ old ++ if_code (length old) (led test i) F
chosen old test l1 l2 l3 i n F e1 e2 at e3 =
    let t0 = led test i 0 in
    let here : length l1 ≡ length old + length t0 = ap length e1 ∙ length-append old t0 in
    let body = F (length old + length t0) in
    let l2_is : l2 ≡ (old ++ t0) ++ body = e2 ∙ ap (λ n. l1 ++ F n) here ∙ ap (λ l. l ++ body) e1 in
    let at_is : n ≡ length (old ++ t0) - 1 = at ∙ ap (λ l. length l - 1) e1 in
    let over : length body + 0 ≡ length body = omega arith in
    e3 ∙ ap (λ l. set l n (SkipIfZero i (length l - n - 1 + 0))) l2_is ∙ tested old test body i 0 n at_is ∙ ap (λ k. old ++ (led test i k ++ body)) over

pub chosen_sides : (old test l1 l2 l3 l4 l5 l6 : List Op) (i n over : ℕ) (F G : ℕ → List Op) → l1 ≡ old ++ led test i 0 → l2 ≡ l1 ++ F (length l1) → n ≡ length l1 - 1
    → l3 ≡ set l2 n (SkipIfZero i (length l2 - n - 1 + 1)) → over ≡ length l3 → l4 ≡ l3 ++ Skip 0 ∷ [] → l5 ≡ l4 ++ G (length l4)
    → l6 ≡ set l5 over (Skip (length l5 - over - 1 + 0)) → l6 ≡ old ++ choice_code (length old) (led test i) F G
chosen_sides old test l1 l2 l3 l4 l5 l6 i n over F G e1 e2 at e3 over_at e4 e5 e6 =
    let t0 = led test i 0 in
    let here : length l1 ≡ length old + length t0 = ap length e1 ∙ length-append old t0 in
    let first = F (length old + length t0) in
    let l2_is : l2 ≡ (old ++ t0) ++ first = e2 ∙ ap (λ n. l1 ++ F n) here ∙ ap (λ l. l ++ first) e1 in
    let at_is : n ≡ length (old ++ t0) - 1 = at ∙ ap (λ l. length l - 1) e1 in
    let t1 = led test i (length first + 1) in
    let l3_is : l3 ≡ old ++ (t1 ++ first) = e3 ∙ ap (λ l. set l n (SkipIfZero i (length l - n - 1 + 1))) l2_is ∙ tested old test first i 1 n at_is in
    let l4_is : l4 ≡ (old ++ (t1 ++ first)) ++ Skip 0 ∷ [] = e4 ∙ ap (λ l. l ++ Skip 0 ∷ []) l3_is in
    let there : length l4 ≡ length old + length t0 + length first + 1 =
    omega (arith, ap length l4_is, length-append (old ++ (t1 ++ first)) (Skip 0 ∷ []), length-append old (t1 ++ first), length-append t1 first, length-append test (SkipIfZero i 0 ∷ []), length-append test (SkipIfZero i (length first + 1) ∷ [])) in
    let second = G (length old + length t0 + length first + 1) in
    let l5_is : l5 ≡ ((old ++ (t1 ++ first)) ++ Skip 0 ∷ []) ++ second = e5 ∙ ap (λ n. l4 ++ G n) there ∙ ap (λ l. l ++ second) l4_is in
    let over_is : over ≡ length (old ++ (t1 ++ first)) = over_at ∙ ap length l3_is in
    let none : length second + 0 ≡ length second = omega arith in
    e6 ∙ ap (λ l. set l over (Skip (length l - over - 1 + 0))) l5_is
    ∙ filled (old ++ (t1 ++ first)) second (Skip 0) Skip 0 over over_is
    ∙ append_assoc old (t1 ++ first) (Skip (length second + 0) ∷ second)
    ∙ ap (λ l. old ++ l) (append_assoc t1 first (Skip (length second + 0) ∷ second))
    ∙ ap (λ k. old ++ (t1 ++ (first ++ Skip k ∷ second))) none

-- ---- a loop, whose lines are made one after the other
module _ (old T T0 body step : List Op) (same : length T ≡ length T0) where
  abbrev pc : ℕ
  pc = length old

  abbrev s2 : Op
  s2 = Skip 2

  abbrev z : Op
  z = Skip 0

  abbrev begun : List Op
  begun = (((old ++ s2 ∷ []) ++ z ∷ []) ++ z ∷ []) ++ T0

  abbrev way : Op
  way = Skip (length T + length body)

  -- after the body, with the way to the step
  pub with_way : (lines : List Op) → lines ≡ begun ++ body → set lines (pc + 2) (Skip (length lines - (pc + 2) - 1 + 0)) ≡ old ++ (s2 ∷ z ∷ way ∷ (T0 ++ body))
  with_way lines e =
      let parts : lines ≡ old ++ (s2 ∷ z ∷ z ∷ (T0 ++ body)) =
      e ∙ append_assoc ((((old ++ s2 ∷ []) ++ z ∷ []) ++ z ∷ [])) T0 body ∙ append_assoc ((old ++ s2 ∷ []) ++ z ∷ []) (z ∷ []) (T0 ++ body)
      ∙ append_assoc (old ++ s2 ∷ []) (z ∷ []) (z ∷ (T0 ++ body)) ∙ append_assoc old (s2 ∷ []) (z ∷ z ∷ (T0 ++ body)) in
      let count : length (old ++ (s2 ∷ z ∷ z ∷ (T0 ++ body))) - (pc + 2) - 1 + 0 ≡ length T + length body =
      omega (arith, length-append old (s2 ∷ z ∷ z ∷ (T0 ++ body)), length-append T0 body, same) in
      ap (λ l. set l (pc + 2) (Skip (length l - (pc + 2) - 1 + 0))) parts ∙ ap (λ k. set (old ++ (s2 ∷ z ∷ z ∷ (T0 ++ body))) (pc + 2) (Skip k)) count
      ∙ set_at old (s2 ∷ z ∷ z ∷ (T0 ++ body)) (pc + 2) 2 way refl

  -- with its test, the way back and the way out
  pub with_out : (lines : List Op) → lines ≡ old ++ (s2 ∷ z ∷ way ∷ (T ++ (body ++ step)))
      → (let all = lines ++ Jump (pc + 3) ∷ [] in set all (pc + 1) (Skip (length all - (pc + 1) - 1 + 0)) ≡ old ++ turns_code pc step T body)
  with_out lines e =
      let J = Jump (pc + 3) ∷ [] in
      let parts : lines ++ J ≡ old ++ (s2 ∷ z ∷ way ∷ (T ++ (body ++ (step ++ J)))) =
      ap (λ l. l ++ J) e ∙ append_assoc old (s2 ∷ z ∷ way ∷ (T ++ (body ++ step))) J
      ∙ ap (λ l. old ++ (s2 ∷ z ∷ way ∷ l)) (append_assoc T (body ++ step) J ∙ ap (λ l. T ++ l) (append_assoc body step J)) in
      let count : length (old ++ (s2 ∷ z ∷ way ∷ (T ++ (body ++ (step ++ J))))) - (pc + 1) - 1 + 0 ≡ length T + length body + length step + 2 =
      omega (arith, length-append old (s2 ∷ z ∷ way ∷ (T ++ (body ++ (step ++ J)))), length-append T (body ++ (step ++ J)), length-append body (step ++ J), length-append step J) in
      ap (λ l. set l (pc + 1) (Skip (length l - (pc + 1) - 1 + 0))) parts ∙ ap (λ k. set (old ++ (s2 ∷ z ∷ way ∷ (T ++ (body ++ (step ++ J))))) (pc + 1) (Skip k)) count
      ∙ set_at old (s2 ∷ z ∷ way ∷ (T ++ (body ++ (step ++ J)))) (pc + 1) 1 (Skip (length T + length body + length step + 2)) refl

-- the test of a loop leads over the body, the step and the way back
pub with_test : (old test body step : List Op) (s z way : Op) (i n : ℕ) → n ≡ length old + 3 + length test + 1
    → (let lines = (old ++ (s ∷ z ∷ way ∷ ((test ++ SkipIfZero i 0 ∷ []) ++ body))) ++ step in
    set lines (n - 1) (SkipIfZero i (length lines - (n - 1) - 1 + 1)) ≡ old ++ (s ∷ z ∷ way ∷ ((test ++ SkipIfZero i (length body + length step + 1) ∷ []) ++ (body ++ step))))
with_test old test body step s z way i n e =
    let h = SkipIfZero i 0 in
    let v = SkipIfZero i (length body + length step + 1) in
    let front = old ++ (s ∷ z ∷ way ∷ test) in
    let inner : (test ++ h ∷ []) ++ body ≡ test ++ h ∷ body = append_assoc test (h ∷ []) body in
    let parts : (old ++ (s ∷ z ∷ way ∷ ((test ++ h ∷ []) ++ body))) ++ step ≡ front ++ h ∷ (body ++ step) =
    ap (λ l. (old ++ (s ∷ z ∷ way ∷ l)) ++ step) inner ∙ ap (λ l. l ++ step) (sym (append_assoc old (s ∷ z ∷ way ∷ test) (h ∷ body))) ∙ append_assoc front (h ∷ body) step in
    let at : n - 1 ≡ length front = omega (arith, length-append old (s ∷ z ∷ way ∷ test)) in
    let count : length (front ++ h ∷ (body ++ step)) - (n - 1) - 1 + 1 ≡ length body + length step + 1 = omega (arith, length-append front (h ∷ (body ++ step)), length-append body step) in
    ap (λ l. set l (n - 1) (SkipIfZero i (length l - (n - 1) - 1 + 1))) parts ∙ ap (λ k. set (front ++ h ∷ (body ++ step)) (n - 1) (SkipIfZero i k)) count
    ∙ set_between front (body ++ step) h v (n - 1) at
    ∙ append_assoc old (s ∷ z ∷ way ∷ test) (v ∷ (body ++ step))
    ∙ ap (λ l. old ++ (s ∷ z ∷ way ∷ l)) (sym (append_assoc test (v ∷ []) (body ++ step)))

-- ---- a loop with its lines: the ways, what decides, the body, the step, the way back
begun_at : (old l1 l2 l3 : List Op) → l1 ≡ old ++ Skip 2 ∷ [] → l2 ≡ l1 ++ Skip 0 ∷ [] → l3 ≡ l2 ++ Skip 0 ∷ [] → l3 ≡ ((old ++ Skip 2 ∷ []) ++ Skip 0 ∷ []) ++ Skip 0 ∷ []
begun_at old l1 l2 l3 e1 e2 e3 = e3 ∙ ap (λ l. l ++ Skip 0 ∷ []) (e2 ∙ ap (λ l. l ++ Skip 0 ∷ []) e1)

-- the lines before the step, with the way to it
with_body : (old T T0 step l1 l2 l3 l4 l5 l6 : List Op) (F : ℕ → List Op) → length T ≡ length T0 → l1 ≡ old ++ Skip 2 ∷ [] → l2 ≡ l1 ++ Skip 0 ∷ [] → l3 ≡ l2 ++ Skip 0 ∷ [] → l4 ≡ l3 ++ T0
    → l5 ≡ l4 ++ F (length l4) → l6 ≡ set l5 (length old + 2) (Skip (length l5 - (length old + 2) - 1 + 0))
    → (length l4 ≡ length old + 3 + length T0) × (l6 ≡ old ++ (Skip 2 ∷ Skip 0 ∷ Skip (length T + length (F (length old + 3 + length T0))) ∷ (T0 ++ F (length old + 3 + length T0))))
with_body old T T0 step l1 l2 l3 l4 l5 l6 F same e1 e2 e3 e4 e5 e6 =
    let l4_is : l4 ≡ (((old ++ Skip 2 ∷ []) ++ Skip 0 ∷ []) ++ Skip 0 ∷ []) ++ T0 = e4 ∙ ap (λ l. l ++ T0) (begun_at old l1 l2 l3 e1 e2 e3) in
    let here : length l4 ≡ length old + 3 + length T0 =
    omega (arith, ap length l4_is, length-append (((old ++ Skip 2 ∷ []) ++ Skip 0 ∷ []) ++ Skip 0 ∷ []) T0, length_push ((old ++ Skip 2 ∷ []) ++ Skip 0 ∷ []) (Skip 0), length_push (old ++ Skip 2 ∷ []) (Skip 0), length_push old (Skip 2)) in
    let body = F (length old + 3 + length T0) in
    let l5_is : l5 ≡ ((((old ++ Skip 2 ∷ []) ++ Skip 0 ∷ []) ++ Skip 0 ∷ []) ++ T0) ++ body = e5 ∙ ap (λ n. l4 ++ F n) here ∙ ap (λ l. l ++ body) l4_is in
    (here, e6 ∙ with_way old T T0 body step same l5 l5_is)

pub looped_always : (old step l1 l2 l3 l4 l5 l6 l7 l8 : List Op) (F : ℕ → List Op) → l1 ≡ old ++ Skip 2 ∷ [] → l2 ≡ l1 ++ Skip 0 ∷ [] → l3 ≡ l2 ++ Skip 0 ∷ [] → l4 ≡ l3 ++ []
    → l5 ≡ l4 ++ F (length l4) → l6 ≡ set l5 (length old + 2) (Skip (length l5 - (length old + 2) - 1 + 0)) → l7 ≡ l6 ++ step → l8 ≡ finished (length old) None l7
    → l8 ≡ old ++ loop_code (length old) step (λ over. []) F
looped_always old step l1 l2 l3 l4 l5 l6 l7 l8 F e1 e2 e3 e4 e5 e6 e7 e8 =
    let p = with_body old [] [] step l1 l2 l3 l4 l5 l6 F refl e1 e2 e3 e4 e5 e6 in
    let body = F (length old + 3 + 0) in
    let way = Skip (0 + length body) in
    let l7_is : l7 ≡ old ++ (Skip 2 ∷ Skip 0 ∷ way ∷ (body ++ step)) = e7 ∙ ap (λ l. l ++ step) p.1 ∙ append_assoc old (Skip 2 ∷ Skip 0 ∷ way ∷ body) step in
    e8 ∙ with_out old [] [] body step refl l7 l7_is

pub looped_while : (old test step l1 l2 l3 l4 l5 l6 l7 l8 : List Op) (i : ℕ) (F : ℕ → List Op) → l1 ≡ old ++ Skip 2 ∷ [] → l2 ≡ l1 ++ Skip 0 ∷ [] → l3 ≡ l2 ++ Skip 0 ∷ [] → l4 ≡ l3 ++ led test i 0
    → l5 ≡ l4 ++ F (length l4) → l6 ≡ set l5 (length old + 2) (Skip (length l5 - (length old + 2) - 1 + 0)) → l7 ≡ l6 ++ step → l8 ≡ finished (length old) (Some (record { line = length l4 - 1; register = i })) l7
    → l8 ≡ old ++ loop_code (length old) step (led test i) F
looped_while old test step l1 l2 l3 l4 l5 l6 l7 l8 i F e1 e2 e3 e4 e5 e6 e7 e8 =
    let T0 = led test i 0 in
    let body = F (length old + 3 + length T0) in
    let over = length body + length step + 1 in
    let T = led test i over in
    let same : length T ≡ length T0 = omega (arith, length-append test (SkipIfZero i over ∷ []), length-append test (SkipIfZero i 0 ∷ [])) in
    let p = with_body old T T0 step l1 l2 l3 l4 l5 l6 F same e1 e2 e3 e4 e5 e6 in
    let way = Skip (length T + length body) in
    let l7_is : l7 ≡ (old ++ (Skip 2 ∷ Skip 0 ∷ way ∷ (T0 ++ body))) ++ step = e7 ∙ ap (λ l. l ++ step) p.1 in
    let at : length l4 ≡ length old + 3 + length test + 1 = omega (arith, p.0, length-append test (SkipIfZero i 0 ∷ [])) in
    let filled_in : set l7 (length l4 - 1) (SkipIfZero i (length l7 - (length l4 - 1) - 1 + 1)) ≡ old ++ (Skip 2 ∷ Skip 0 ∷ way ∷ (T ++ (body ++ step))) =
    ap (λ l. set l (length l4 - 1) (SkipIfZero i (length l - (length l4 - 1) - 1 + 1))) l7_is
    ∙ with_test old test body step (Skip 2) (Skip 0) way i (length l4) at in
    e8 ∙ with_out old T T0 body step same (set l7 (length l4 - 1) (SkipIfZero i (length l7 - (length l4 - 1) - 1 + 1))) filled_in

-- ---- variables that begin stay those before them
pub kept_first : {A : Type 0} (xs ys zs : List A) → ys ≡ xs ++ zs → take (length xs) ys ≡ xs
kept_first xs ys zs e = ap (take (length xs)) e ∙ take_at xs zs (length xs) refl
