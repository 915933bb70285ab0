-- The code of a loop, by what is known before it and before each of its turns.
use Rattle.sharc_compile_laws.proofs.Imports.{◌≡◌, ℕ, ◌+◌, List, ◌∷◌, [], ◌++◌, length, subst, arith, length-append, Option, Some, None, refl, Expression, Op, Context, ints_of, test_code, turn_code, body_at, turns_code}
use Rattle.sharc_flat_lemmas.proofs.Flow as flow

pub test_length : (c : Context) (e : Expression) (over : ℕ) → length (turn_code c (Some e) over) ≡ length (test_code c e) + 1
test_length c e over = length-append (test_code c e) (Op.SkipIfZero (ints_of c) over ∷ [])

-- of the table D is known around it, and E in it
module _ (k : flow.Knowledge) (D E : (ℕ → k.St) → Type 0) (s : k.St) (plain : k.Plain s) (c : Context) (pc : ℕ) (step code : List Op) (back : (q : ℕ) → flow.Piece k E s q (step ++ Op.Jump (pc + 3) ∷ []) s) where
  abbrev S : List Op
  S = step ++ Op.Jump (pc + 3) ∷ []

  inner : (e : Option Expression) → ((x : Expression) → e ≡ Some x → flow.Piece k E s (pc + 3) (test_code c x) s) → flow.Piece k E s (body_at pc (turn_code c e)) code s
      → flow.Inner k E s (pc + 3) (turn_code c e (length code + length step + 1)) code S
  inner None tests body = flow.always k E s (pc + 3) code S (flow.moved k E s (body_at pc (turn_code c None)) (pc + 3) code s (omega arith) body) (back (pc + 3 + length code))
  inner (Some e) tests body =
      let X = test_code c e in
      let at = pc + 3 + length X + 1 in
      let z : body_at pc (turn_code c (Some e)) ≡ at = omega (arith, test_length c e 0) in
      let count : length (code ++ S) ≡ length code + length step + 1 = omega (arith, length-append code S, length-append step (Op.Jump (pc + 3) ∷ [])) in
      subst (λ n. flow.Inner k E s (pc + 3) (X ++ Op.SkipIfZero (ints_of c) n ∷ []) code S) count
      (flow.decided k E s (pc + 3) (ints_of c) X code S plain (tests e refl) (flow.moved k E s (body_at pc (turn_code c (Some e))) at code s z body) (back (at + length code)))

  pub loop : ((table : ℕ → k.St) → D table → flow.Leads k table s (pc + 1) → flow.Leads k table s (pc + 2) → flow.Leads k table s (pc + 3) → E table) → (e : Option Expression)
      → ((x : Expression) → e ≡ Some x → flow.Piece k E s (pc + 3) (test_code c x) s) → flow.Piece k E s (body_at pc (turn_code c e)) code s → flow.Piece k D s pc (turns_code pc step (turn_code c e (length code + length step + 1)) code) s
  loop into e tests body =
      let T = turn_code c e (length code + length step + 1) in
      flow.looped k D E s pc T code S (length T + length code + length step + 2) plain into (omega (arith, length-append step (Op.Jump (pc + 3) ∷ []))) (inner e tests body)
