-- The lines of statements, made one after the other.
use Rattle.sharc_flatten.proofs.{Imports.{◌≡◌, ℕ, ◌+◌, ◌-◌, ◌<◌, ◌≤◌, Bool, List, [], ◌∷◌, ◌++◌, length, set, Option, Some, None, refl, ap, sym, ◌∙◌, append_assoc, length-set, Span, Expression, Simple, Statement, Statements, block, if_then_else, Site, span_of, RustKind, Op, Enter, Return, Skip, SkipIfZero, Spot, Slot, width_code, Context, at_site, leaves, Around, refs_of, expression_code, return_code, result_code, zero_code, looping, ints_of, test_code, turn_code, step_code, if_code, choice_code, loop_code, statement_code, is_reference, RustAround, Hole, PlacedProgram, context, outermost, around_of, hole_at, hole_of, finished, block_code}, ScopeLemmas.{innermost_none, outermost_whole}, WalkLemmas.{entered, chosen, chosen_sides, looped_always, looped_while}}

-- ---- choices, where the code of the test is over an equal context
pub choice_lines : (c d : Context) (e : Expression) (old l1 l2 l3 : List Op) (h : Hole) (F : ℕ → List Op) → d ≡ c → l1 ≡ old ++ turn_code d (Some e) 0 → h ≡ hole_at d (length l1)
    → l2 ≡ l1 ++ F (length l1) → l3 ≡ set l2 h.line (SkipIfZero h.register (length l2 - h.line - 1 + 0)) → l3 ≡ old ++ if_code (length old) (turn_code c (Some e)) F
choice_lines c d e old l1 l2 l3 h F same e1 at e2 e3 =
    chosen old (test_code c e) l1 l2 l3 (ints_of c) h.line F
    (e1 ∙ ap (λ k. old ++ turn_code k (Some e) 0) same) e2 (ap (λ k. k.line) at)
    (e3 ∙ ap (λ r. set l2 h.line (SkipIfZero r (length l2 - h.line - 1 + 0))) (ap (λ k. k.register) at ∙ ap ints_of same))

pub sides_lines : (c d : Context) (e : Expression) (old l1 l2 l3 l4 l5 l6 : List Op) (h : Hole) (over : ℕ) (F G : ℕ → List Op) → d ≡ c → l1 ≡ old ++ turn_code d (Some e) 0 → h ≡ hole_at d (length l1)
    → l2 ≡ l1 ++ F (length l1) → l3 ≡ set l2 h.line (SkipIfZero h.register (length l2 - h.line - 1 + 1)) → over ≡ length l3 → l4 ≡ l3 ++ Skip 0 ∷ [] → l5 ≡ l4 ++ G (length l4)
    → l6 ≡ set l5 over (Skip (length l5 - over - 1 + 0)) → l6 ≡ old ++ choice_code (length old) (turn_code c (Some e)) F G
sides_lines c d e old l1 l2 l3 l4 l5 l6 h over F G same e1 at e2 e3 over_at e4 e5 e6 =
    chosen_sides old (test_code c e) l1 l2 l3 l4 l5 l6 (ints_of c) h.line over F G
    (e1 ∙ ap (λ k. old ++ turn_code k (Some e) 0) same) e2 (ap (λ k. k.line) at)
    (e3 ∙ ap (λ r. set l2 h.line (SkipIfZero r (length l2 - h.line - 1 + 1))) (ap (λ k. k.register) at ∙ ap ints_of same))
    over_at e4 e5 e6

-- ---- a return
pub returned_nothing : (c : Context) (a : Around) (site : Site) (spot : Spot) (all : List ℕ) (g : Bool) (old l1 l2 l3 : List Op) → all ≡ a.inside ++ a.outside → g ≡ is_reference a.result → spot ≡ at_site site
    → l1 ≡ old ++ leaves c.scope all → l2 ≡ l1 ++ zero_code g 0 0 → l3 ≡ l2 ++ Return spot ∷ [] → l3 ≡ old ++ return_code c a site None
returned_nothing c a site spot all g old l1 l2 l3 ea eg es e1 e2 e3 =
    let L = leaves c.scope (a.inside ++ a.outside) in
    let Z = zero_code (is_reference a.result) 0 0 in
    let R = Return (at_site site) ∷ [] in
    let first : l1 ≡ old ++ L = e1 ∙ ap (λ l. old ++ leaves c.scope l) ea in
    let second : l2 ≡ (old ++ L) ++ Z = e2 ∙ ap (λ b. l1 ++ zero_code b 0 0) eg ∙ ap (λ l. l ++ Z) first in
    e3 ∙ ap (λ s. l2 ++ Return s ∷ []) es ∙ ap (λ l. l ++ R) second ∙ append_assoc (old ++ L) Z R ∙ append_assoc old L (Z ++ R)

pub returned_value : (c : Context) (a : Around) (e : Expression) (site : Site) (spot : Spot) (all : List ℕ) (g : Bool) (i r : ℕ) (old l1 l2 l3 l4 l5 : List Op)
    → all ≡ a.inside ++ a.outside → g ≡ is_reference a.result → spot ≡ at_site site → i ≡ ints_of c → r ≡ refs_of c
    → l1 ≡ old ++ expression_code c i r e → l2 ≡ l1 ++ width_code i a.result (span_of e).first → l3 ≡ l2 ++ leaves c.scope all → l4 ≡ l3 ++ result_code g i r → l5 ≡ l4 ++ Return spot ∷ []
    → l5 ≡ old ++ return_code c a site (Some e)
returned_value c a e site spot all g i r old l1 l2 l3 l4 l5 ea eg es ei er e1 e2 e3 e4 e5 =
    let E = expression_code c (ints_of c) (refs_of c) e in
    let W = width_code (ints_of c) a.result (span_of e).first in
    let L = leaves c.scope (a.inside ++ a.outside) in
    let G = result_code (is_reference a.result) (ints_of c) (refs_of c) in
    let R = Return (at_site site) ∷ [] in
    let first : l1 ≡ old ++ E = e1 ∙ ap (λ n. old ++ expression_code c n r e) ei ∙ ap (λ n. old ++ expression_code c (ints_of c) n e) er in
    let second : l2 ≡ (old ++ E) ++ W = e2 ∙ ap (λ n. l1 ++ width_code n a.result (span_of e).first) ei ∙ ap (λ l. l ++ W) first in
    let third : l3 ≡ ((old ++ E) ++ W) ++ L = e3 ∙ ap (λ l. l2 ++ leaves c.scope l) ea ∙ ap (λ l. l ++ L) second in
    let fourth : l4 ≡ (((old ++ E) ++ W) ++ L) ++ G = e4 ∙ ap (λ b. l3 ++ result_code b i r) eg ∙ ap (λ n. l3 ++ result_code (is_reference a.result) n r) ei ∙ ap (λ n. l3 ++ result_code (is_reference a.result) (ints_of c) n) er ∙ ap (λ l. l ++ G) third in
    e5 ∙ ap (λ s. l4 ++ Return s ∷ []) es ∙ ap (λ l. l ++ R) fourth
    ∙ append_assoc (((old ++ E) ++ W) ++ L) G R ∙ append_assoc ((old ++ E) ++ W) L (G ++ R) ∙ append_assoc (old ++ E) W (L ++ (G ++ R)) ∙ append_assoc old E (W ++ (L ++ (G ++ R)))

-- ---- loops
pub turns_lines : (c d f : Context) (test : Option Expression) (step : Option Simple) (old l1 l2 l3 l4 l5 l6 l7 l8 : List Op) (head : ℕ) (hole : Option Hole) (F : ℕ → List Op) → d ≡ c → f ≡ c
    → head ≡ length old → l1 ≡ old ++ Skip 2 ∷ [] → l2 ≡ l1 ++ Skip 0 ∷ [] → l3 ≡ l2 ++ Skip 0 ∷ [] → l4 ≡ l3 ++ turn_code d test 0 → hole ≡ hole_of d test (length l4)
    → l5 ≡ l4 ++ F (length l4) → l6 ≡ set l5 (head + 2) (Skip (length l5 - (head + 2) - 1 + 0)) → l7 ≡ l6 ++ step_code f step → l8 ≡ finished head hole l7
    → l8 ≡ old ++ loop_code (length old) (step_code c step) (turn_code c test) F
turns_lines c d f None step old l1 l2 l3 l4 l5 l6 l7 l8 head hole F dc fc at e1 e2 e3 e4 eh e5 e6 e7 e8 =
    looped_always old (step_code c step) l1 l2 l3 l4 l5 l6 l7 l8 F e1 e2 e3 e4 e5
    (e6 ∙ ap (λ n. set l5 (n + 2) (Skip (length l5 - (n + 2) - 1 + 0))) at)
    (e7 ∙ ap (λ k. l6 ++ step_code k step) fc)
    (e8 ∙ ap (λ n. finished n hole l7) at ∙ ap (λ o. finished (length old) o l7) eh)
turns_lines c d f (Some e) step old l1 l2 l3 l4 l5 l6 l7 l8 head hole F dc fc at e1 e2 e3 e4 eh e5 e6 e7 e8 =
    looped_while old (test_code c e) (step_code c step) l1 l2 l3 l4 l5 l6 l7 l8 (ints_of c) F e1 e2 e3
    (e4 ∙ ap (λ k. l3 ++ turn_code k (Some e) 0) dc) e5
    (e6 ∙ ap (λ n. set l5 (n + 2) (Skip (length l5 - (n + 2) - 1 + 0))) at)
    (e7 ∙ ap (λ k. l6 ++ step_code k step) fc)
    (e8 ∙ ap (λ n. finished n hole l7) at ∙ ap (λ o. finished (length old) o l7) (eh ∙ ap (λ k. hole_of k (Some e) (length l4)) dc))

pub around_within : (result : RustKind) (b k n broken continued outer pc : ℕ) (marks : List ℕ) → b ≡ pc + 1 → k ≡ pc + 2 → n ≡ length marks
    → around_of (record { result = result; broken = b; continued = k; outer = n }) marks ≡ looping (around_of (record { result = result; broken = broken; continued = continued; outer = outer }) marks) (pc + 1) (pc + 2)
around_within result b k n broken continued outer pc marks eb ek en =
    let a = around_of (record { result = result; broken = broken; continued = continued; outer = outer }) marks in
    ap (λ x. around_of (record { result = result; broken = x; continued = k; outer = n }) marks) eb
    ∙ ap (λ x. around_of (record { result = result; broken = pc + 1; continued = x; outer = n }) marks) ek
    ∙ ap (λ x. around_of (record { result = result; broken = pc + 1; continued = pc + 2; outer = x }) marks) en
    ∙ ap (λ l. record { result = a.result; broken = pc + 1; continued = pc + 2; inside = l; outside = outermost (length marks) marks }) (innermost_none marks)
    ∙ ap (λ l. record { result = a.result; broken = pc + 1; continued = pc + 2; inside = []; outside = l }) (outermost_whole outer marks)

-- ---- blocks

-- ---- statements with equal parts, after their Enter
pub block_at : (c : Context) (a : Around) (s : Span) (x : Statement) (all again : Statements) (old l1 l2 : List Op) → x ≡ block s all → again ≡ all → l1 ≡ old ++ Enter ∷ [] → l2 ≡ l1 ++ block_code c a (length l1) again
    → l2 ≡ old ++ statement_code c a (length old) x
block_at c a s x all again old l1 l2 ex ea e1 e2 =
    entered old l1 l2 (λ n. block_code c a n all) e1 (e2 ∙ ap (λ k. l1 ++ block_code c a (length l1) k) ea) ∙ ap (λ k. old ++ statement_code c a (length old) k) (sym ex)

pub sides_at : (p : PlacedProgram) (xs begun told : List Slot) (around : RustAround) (marks after : List ℕ) (s : Span) (stmt : Statement) (e test : Expression) (x then y otherwise : Statement) (old l0 l1 l2 l4 l5 l6 : List Op) (h : Hole) (over : ℕ)
    → stmt ≡ if_then_else s e x y → test ≡ e → then ≡ x → otherwise ≡ y → told ≡ xs → begun ≡ xs → after ≡ marks
    → l0 ≡ old ++ Enter ∷ [] → l1 ≡ l0 ++ turn_code (context p told) (Some test) 0 → h ≡ hole_at (context p told) (length l1)
    → l2 ≡ l1 ++ statement_code (context p xs) (around_of around marks) (length l1) then
    → l4 ≡ set l2 h.line (SkipIfZero h.register (length l2 - h.line - 1 + 1)) ++ Skip 0 ∷ [] → over ≡ length l2
    → l5 ≡ l4 ++ statement_code (context p begun) (around_of around after) (length l4) otherwise → l6 ≡ set l5 over (Skip (length l5 - over - 1 + 0))
    → l6 ≡ old ++ statement_code (context p xs) (around_of around marks) (length old) stmt
sides_at p xs begun told around marks after s stmt e test x then y otherwise old l0 l1 l2 l4 l5 l6 h over es et ex ey eo eb em e0 e1 eh e2 e4 el e5 e6 =
    let c = context p xs in
    let a = around_of around marks in
    let F = λ (n : ℕ). statement_code c a n x in
    let G = λ (n : ℕ). statement_code c a n y in
    let l3 = set l2 h.line (SkipIfZero h.register (length l2 - h.line - 1 + 1)) in
    entered old l0 l6 (λ n. choice_code n (turn_code c (Some e)) F G) e0
    (sides_lines c (context p told) e l0 l1 l2 l3 l4 l5 l6 h over F G (ap (context p) eo)
    (e1 ∙ ap (λ k. l0 ++ turn_code (context p told) (Some k) 0) et) eh
    (e2 ∙ ap (λ k. l1 ++ statement_code c a (length l1) k) ex) refl
    (el ∙ sym (length-set l2 h.line (SkipIfZero h.register (length l2 - h.line - 1 + 1)))) e4
    (e5 ∙ ap (λ k. l4 ++ statement_code (context p k) (around_of around after) (length l4) otherwise) eb
    ∙ ap (λ k. l4 ++ statement_code c (around_of around k) (length l4) otherwise) em
    ∙ ap (λ k. l4 ++ statement_code c a (length l4) k) ey) e6)
    ∙ ap (λ k. old ++ statement_code c a (length old) k) (sym es)
