-- What statements are begun with, and what goes on behind that.
use Rattle.sharc_ask.proofs.{Imports.{◌≡◌, ℕ, zero, suc, ◌-◌, ◌≤◌, List, [], ◌∷◌, length, take, Err, refl, sym, ap, ◌∙◌, subst, arith, take_all, Bool, true, slice_index_or, drop, Stmt, view_stmt, view_statements, Kind, Assignment, Calls, State, Run, Step, then_on, ◌>>=◌, ◌>>◌, give, ends_variables, in_block, Flow, exec, exec_all, RunEnd, Known, Loop, loop_test, loop_body, test, flow, test_in, flow_in, gives, as_nothing, ends_block, turns_of, others_done, tested_done, left_body, Plans}, Outs.begun}

pub flow_then : (run : Run Flow) (f : Flow → Run Flow) (s : State) → gives flow (run >>= f) s ≡ then_on (gives flow run s) (λ v. gives flow (f (flow_in v)))
flow_then run f s = begun flow (λ v. gives flow (f (flow_in v))) (run s) (λ out. then_on (then_on out f) (λ x. give (flow x))) (λ o t. refl) (λ x t. refl)

pub test_then : (run : Run Bool) (f : Bool → Run Flow) (s : State) → gives flow (run >>= f) s ≡ then_on (gives test run s) (λ v. gives flow (f (test_in v)))
test_then run f s = begun test (λ v. gives flow (f (test_in v))) (run s) (λ out. then_on (then_on out f) (λ x. give (flow x))) (λ o t. refl) (λ x t. refl)

pub step_then : (run : Step) (more : Run Flow) (s : State) → gives flow (run >> more) s ≡ then_on (gives as_nothing run s) (λ v. gives flow more)
step_then run more s = begun as_nothing (λ v. gives flow more) (run s) (λ out. then_on (then_on out (λ u. more)) (λ x. give (flow x))) (λ o t. refl) (λ x t. refl)

-- ---- blocks

pub ends_then : (run : Run Flow) (n : ℕ) (s : State) → gives flow (ends_block n run) s ≡ then_on (gives flow run s) (λ v. gives flow (ends_block n (give (flow_in v))))
ends_then run n s = begun flow (λ v. gives flow (ends_block n (give (flow_in v)))) (run s) (λ out. then_on (ends_variables n out) (λ x. give (flow x))) (λ o t. refl) (λ x t. refl)

pub block_begins : (run : Run Flow) (mark : ℕ) (s : State) → length s.frame.variables ≡ mark → gives flow (in_block run) s ≡ then_on (gives flow run s) (λ v. gives flow (ends_block mark (give (flow_in v))))
block_begins run mark s same = subst (λ (n : ℕ). gives flow (in_block run) s ≡ then_on (gives flow run s) (λ v. gives flow (ends_block n (give (flow_in v))))) same (ends_then run (length s.frame.variables) s)

for_begins_at : (first : Step) (more : Run Flow) (n : ℕ) (s : State) → gives flow (ends_block n (first >> more)) s ≡ then_on (gives as_nothing first s) (λ v. gives flow (ends_block n more))
for_begins_at first more n s = begun as_nothing (λ v. gives flow (ends_block n more)) (first s) (λ out. then_on (ends_variables n (then_on out (λ u. more))) (λ x. give (flow x))) (λ o t. refl) (λ x t. refl)

pub for_begins : (first : Step) (more : Run Flow) (mark : ℕ) (s : State) → length s.frame.variables ≡ mark → gives flow (in_block (first >> more)) s ≡ then_on (gives as_nothing first s) (λ v. gives flow (ends_block mark more))
for_begins first more mark s same = subst (λ (n : ℕ). gives flow (in_block (first >> more)) s ≡ then_on (gives as_nothing first s) (λ v. gives flow (ends_block n more))) same (for_begins_at first more (length s.frame.variables) s)

-- ---- lists

pub first_and_rest : {A : Type 0} (list : List A) (a : A) → 1 ≤ length list → a ≡ slice_index_or list 0 a → list ≡ a ∷ take (length list - 1) (drop 1 list)
first_and_rest [] a some is = absurd (omega (arith, some))
first_and_rest (b ∷ l) a some is =
    let all : take (length (b ∷ l) - 1) l ≡ l = take_all (length (b ∷ l) - 1) l (omega arith) in
    ap (λ z. z ∷ l) (sym is) ∙ ap (λ z. a ∷ z) (sym all)

pub all_begins : (on_call : Calls) (m : Assignment) (kind : Kind) (list : List Stmt) (a : Stmt) (more : List Stmt) (s : State) → list ≡ a ∷ more
    → gives flow (exec_all on_call m kind (view_statements list)) s ≡ then_on (gives flow (exec on_call m kind (view_stmt a)) s) (λ v. gives flow (others_done on_call m kind more (flow_in v)))
all_begins on_call m kind list a more s same = ap (λ l. gives flow (exec_all on_call m kind (view_statements l)) s) same ∙ flow_then (exec on_call m kind (view_stmt a)) (others_done on_call m kind more) s

-- ---- loops

pub turns_none : (on_call : Calls) (m : Assignment) (l : Loop) (n : ℕ) (k : Known) → n ≡ 0 → Plans on_call m k (Err RunEnd.Spent) k (gives flow (turns_of on_call m l n))
turns_none on_call m l n k none = subst (λ j. Plans on_call m k (Err RunEnd.Spent) k (gives flow (turns_of on_call m l j))) (sym none) (λ s is. record { outcome = _; state = s; is = refl; ends_so = refl; looks = is })

pub turns_begin : (on_call : Calls) (m : Assignment) (l : Loop) (n : ℕ) (s : State) → (n ≡ 0 → ⊥) → gives flow (turns_of on_call m l n) s ≡ then_on (gives test (loop_test on_call m l) s) (λ v. gives flow (tested_done on_call m l (n - 1) (test_in v)))
turns_begin on_call m l zero s some = absurd (some refl)
turns_begin on_call m l (suc n) s some =
    let e : suc n - 1 ≡ n = omega arith in
    test_then (loop_test on_call m l) (tested_done on_call m l n) s ∙ ap (λ j. then_on (gives test (loop_test on_call m l) s) (λ v. gives flow (tested_done on_call m l j (test_in v)))) (sym e)

pub turn_begins : (on_call : Calls) (m : Assignment) (l : Loop) (n : ℕ) (b : Bool) (s : State) → b ≡ true → gives flow (tested_done on_call m l n b) s ≡ then_on (gives flow (loop_body on_call m l) s) (λ v. gives flow (left_body on_call m l n (flow_in v)))
turn_begins on_call m l n b s goes = ap (λ z. gives flow (tested_done on_call m l n z) s) goes ∙ flow_then (loop_body on_call m l) (left_body on_call m l n) s
