-- What a thread of a typed program holds is held on, or given up.
use Rattle.sharc_wants_laws.proofs.{Imports.{◌≡◌, ℕ, ◌+◌, ◌≤◌, refl, sym, ap, ◌∙◌, subst, arith, length, Some, Function, is_struct_behind, declared_kind, Resolution, functions_in, function_at, EachNamesItself, MeetsConstraints, OneType, MeetsStatements, ArePlain, asked_by, run_thread, held_count, wants, ended, stopped, spent, Out, go, over, released, HeldAreHeldOn, no_struct, at_place}, Counts.{total, total_is}, Runs.state_of, Typed.Facts, Calls.{Known, thread_kept}}
use Rattle.sharc_meaning.specs.Meaning.{start}
use Rattle.sharc_wants_laws.proofs.Runs as runs

-- of an end and of one with more fuel
module _ (r : Resolution) (n d : ℕ) where
  words : {A : Type 0} (o : Out A) → held_count (asked_by o) n + released n (asked_by o).given_up ≡ total n (state_of o)
  words (go x t) = total_is n t
  words (over o t) = total_is n t

  events_are : {A : Type 0} (o : Out A) → (asked_by o).events ≡ (state_of o).events
  events_are (go x t) = refl
  events_are (over o t) = refl

  held_by : {A : Type 0} (o o' : Out A) → runs.Goes r n d o o' → (state_of o').events ≡ (state_of o).events → total n (state_of o) ≤ total n (state_of o')
  held_by (go x t) o' h e = subst (λ z. total n t ≤ total n (state_of z)) (sym h) (omega arith)
  held_by (over spent t) o' h e = let same : length (state_of o').events ≡ length t.events = ap length e in h.total (omega arith)
  held_by (over (wants x) t) o' h e = subst (λ z. total n t ≤ total n (state_of z)) (sym h) (omega arith)
  held_by (over ended t) o' h e = subst (λ z. total n t ≤ total n (state_of z)) (sym h) (omega arith)
  held_by (over (stopped trap site) t) o' h e = subst (λ z. total n t ≤ total n (state_of z)) (sym h) (omega arith)

  pub held : {A : Type 0} (o o' : Out A) → runs.Goes r n d o o' → (asked_by o').events ≡ (asked_by o).events
      → held_count (asked_by o) n + released n (asked_by o).given_up ≤ held_count (asked_by o') n + released n (asked_by o').given_up
  held o o' h e =
      let a : held_count (asked_by o) n + released n (asked_by o).given_up ≡ total n (state_of o) = words o in
      let b : held_count (asked_by o') n + released n (asked_by o').given_up ≡ total n (state_of o') = words o' in
      let le : total n (state_of o) ≤ total n (state_of o') = held_by o o' h (sym (events_are o') ∙ e ∙ events_are o) in
      omega arith

pub held_are_held_on : EachNamesItself → OneType → MeetsConstraints → MeetsStatements → ArePlain → HeldAreHeldOn
held_are_held_on itself one constraints statements plain m resolved placed low f v answers fuel more n e =
    let names = itself m.typed resolved placed low in
    let facts : Facts m.typed = record {
      one = one m.typed resolved placed low;
      results = λ k g is. no_struct (is_struct_behind 0 (declared_kind g.result)) _ ((at_place _ (functions_in m.typed.program.items) k g (plain m.typed resolved placed low) is).1);
    } in
    let known : (k : ℕ) (g : Function) → function_at m.typed k ≡ Some g → Known m.typed g = λ k g is. record {
      typed = at_place _ (functions_in m.typed.program.items) k g (constraints m.typed resolved placed low) is;
      rules = at_place _ (functions_in m.typed.program.items) k g (statements m.typed resolved placed low) is;
      own = at_place _ (functions_in m.typed.program.items) k g names.variables is;
    } in
    held m.typed n more (run_thread m (function_at m.typed f) v (start answers fuel)) (run_thread m (function_at m.typed f) v (start answers (fuel + more))) (thread_kept m n more facts known f v answers fuel).past e
