-- What is given to a parameter is an argument of its call, and at most this many of its arguments meet a test.
use Rattle.sharc_suggest_laws.proofs.Imports.{◌≡◌, ℕ, zero, suc, ◌+◌, ◌<◌, ◌≤◌, Bool, true, List, Option, Some, None, ap, sym, ◌∙◌, arith, AllByRecursion, Expression, Arguments, no_arguments, argument, Receiver, of_parameter, Giving, count_of, met_by, met_inside, met_inside_all, none_some, one_some}

abbrev pub nth : ℕ → Arguments → Option Expression
nth k no_arguments = None
nth zero (argument a rest) = Some a
nth (suc k) (argument a rest) = nth k rest

abbrev pub args_met : (Expression → Bool) → Arguments → ℕ
args_met test no_arguments = 0
args_met test (argument a rest) = met_by test a + args_met test rest

pub args_few : (test : Expression → Bool) (all : Arguments) → args_met test all ≤ met_inside_all test all
args_few test no_arguments = let none : 0 ≤ 0 = omega arith in none
args_few test (argument a rest) =
    let more : args_met test rest ≤ met_inside_all test rest = args_few test rest in
    let sum : met_by test a + args_met test rest ≤ met_inside test a + met_by test a + met_inside_all test rest = omega (arith, more) in
    sum

-- ---- of at most one that meets it

met_one : (test : Expression → Bool) (a : Expression) → test a ≡ true → met_by test a ≡ 1
met_one test a is = ap count_of is

some_met : (test : Expression → Bool) (all : Arguments) (k : ℕ) (a : Expression) → nth k all ≡ Some a → test a ≡ true → 0 < args_met test all
some_met test no_arguments k a is holds = absurd (none_some a is)
some_met test (argument x rest) zero a is holds =
    let one : met_by test a ≡ 1 = met_one test a holds in
    let same : met_by test x ≡ met_by test a = ap (met_by test) (one_some x a is) in
    let sum : 0 < met_by test x + args_met test rest = omega (arith, one, same) in
    sum
some_met test (argument x rest) (suc k) a is holds =
    let more : 0 < args_met test rest = some_met test rest k a is holds in
    let sum : 0 < met_by test x + args_met test rest = omega (arith, more) in
    sum

pub one_nth : (test : Expression → Bool) (all : Arguments) → args_met test all ≤ 1 → (j k : ℕ) (a b : Expression) → nth j all ≡ Some a → nth k all ≡ Some b → test a ≡ true → test b ≡ true → a ≡ b
one_nth test no_arguments few j k a b at there holds_a holds_b = absurd (none_some a at)
one_nth test (argument x rest) few zero zero a b at there holds_a holds_b = sym (one_some x a at) ∙ one_some x b there
one_nth test (argument x rest) few zero (suc k) a b at there holds_a holds_b =
    let sum : met_by test x + args_met test rest ≤ 1 = few in
    let one : met_by test x ≡ 1 = ap (met_by test) (one_some x a at) ∙ met_one test a holds_a in
    let more : 0 < args_met test rest = some_met test rest k b there holds_b in
    absurd (omega (arith, sum, one, more))
one_nth test (argument x rest) few (suc j) zero a b at there holds_a holds_b =
    let sum : met_by test x + args_met test rest ≤ 1 = few in
    let one : met_by test x ≡ 1 = ap (met_by test) (one_some x b there) ∙ met_one test b holds_b in
    let more : 0 < args_met test rest = some_met test rest j a at holds_a in
    absurd (omega (arith, sum, one, more))
one_nth test (argument x rest) few (suc j) (suc k) a b at there holds_a holds_b =
    let sum : met_by test x + args_met test rest ≤ 1 = few in
    one_nth test rest (omega (arith, sum)) j k a b at there holds_a holds_b

-- ---- what is given to a parameter

abbrev pub IsArgument : (Expression → Bool) → ℕ → Receiver → Expression → Type 0
IsArgument test n (of_parameter f args k) e = (args_met test args ≤ n) × (j : ℕ) × (nth j args ≡ Some e)
IsArgument test n _ e = Unit {0}

abbrev pub IsGivenTo : (Expression → Bool) → ℕ → Giving → Type 0
IsGivenTo test n g = IsArgument test n g.receiver g.given

abbrev pub AreGivenTo : (Expression → Bool) → ℕ → List Giving → Type 0
AreGivenTo test n gs = AllByRecursion (IsGivenTo test n) gs
