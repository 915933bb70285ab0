-- Functions with which a thread begins, main among them; and a whole program.
use Rattle.sharc_accepted_laws.proofs.{Imports.{◌≡◌, ⊎_elim, ℕ, ◌<◌, ◌≤◌, Bool, true, cond, List, [], ◌∷◌, length, nat_lt, slice_get, refl, ap, sym, ◌∙◌, subst, arith, eqb-true, Option, Some, None, codes, false≢true, or_cases, or_right, bytes_eq-Decides, IsSomeAnd, list_any, Declaration, in_function, Function, Named, int, declared_kind, GlobalCells, Code, spawns, of_all, Names, Spawns, Resolution, functions_in, function_at, named_at, SpawnsThreads, HasMain, OneFunctionOfName, WithinLimits, is_reference, Assignment, IsMainOf, parameters_scope, int_count, ref_count, globals_of, Anything, Within, EntryMentions, BasesStand, held_named, ResultLaws, FunctionsStand, SpawnedBegin, pointers, variable_entry, VariablesFound, typing, signature_by, is_numbered, is_spawned, is_main, is_start, setting_of, IsSet, ExpressionsAreTypable, ProgramsAreTypable, Setting, IsLowTyping, StartTypable, MainTypable, TypedSuits, place_of_element, below_there, place_there, passes_there}, Assigned.Laws, Functions.{TypeLaws, function_typable}, Linked.linked, StaticRegisters.pointer_count}
use Rattle.sharc_flat.specs.Flattened as flat
use Rattle.sharc_invariant.specs.Typed.{IsPlain}

-- what is held is in the register of a variable
low_typing : IsLowTyping typing
low_typing c p held = by (slice_get (pointers c.scope) p) refl held
  where
    by : (o : Option ℕ) → slice_get (pointers c.scope) p ≡ o → held_named c.program.typed o ≡ true → p < ref_count c.scope
    by None is h = absurd (false≢true h)
    by (Some x) is h = let low = below_there (pointers c.scope) p x is in let n = pointer_count c.scope in omega (arith, low, n)

-- ---- what is spawned
names_it : (n : ℕ) (w : Named) → is_numbered n w ≡ true → w ≡ Named.Function n
names_it n (Named.Function k) h = ap Named.Function (eqb-true k n h)
names_it n _ h = absurd (false≢true h)

spawned_by : (r : Resolution) (n : ℕ) → is_spawned r n ≡ true → (k : ℕ) × Spawns r k n
spawned_by r n h =
    let f = passes_there (λ f. list_any (λ token. is_numbered n (named_at r token)) (of_all spawns (in_function f))) (functions_in r.program.items) h in
    let t = passes_there (λ token. is_numbered n (named_at r token)) (of_all spawns (in_function f.0)) f.2 in
    let k = place_of_element (functions_in r.program.items) f.0 f.1 in
    (k.0, subst (λ o. IsSomeAnd o (λ g. Names r (Named.Function n) (of_all spawns (in_function g)))) (sym k.1) (t.0, t.1, names_it n (named_at r t.0) t.2))

-- the laws of threads that are used
pub record ThreadLaws : Type 0 where
  pub threads : SpawnsThreads
  pub begin : SpawnedBegin
  pub main : HasMain
  pub one : OneFunctionOfName
  pub limits : WithinLimits

module _ (starts : ThreadLaws) (stand : FunctionsStand) (m : Assignment) (globals : List GlobalCells) (code : Code) (alone : ℕ → Bool) (lines : ℕ) (set : IsSet m globals code alone) where
  abbrev z : Setting
  z = setting_of m globals code alone lines

  one_at_most : (list : List Declaration) (d : Declaration) → list ≡ d ∷ [] → length list ≤ 1
  one_at_most list d is = subst (λ (l : List Declaration). length l ≤ 1) (sym is) (omega arith)

  none_at_all : (list : List Declaration) → list ≡ [] → length list ≤ 1
  none_at_all list is = subst (λ (l : List Declaration). length l ≤ 1) (sym is) (omega arith)

  takes_of : (n : ℕ) (g : Function) → function_at m.typed n ≡ Some g → (p : ℕ) → ((setting_of m globals code alone lines).signature n).takes p ≡ variable_entry (flat.in_function m globals g) p
  takes_of n g at p = ap (λ o. (signature_by m globals (alone n) o).takes p) at

  spawned_start : (n : ℕ) → is_spawned m.typed n ≡ true → StartTypable (setting_of m globals code alone lines) m n
  spawned_start n h =
      let s = spawned_by m.typed n h in
      let t = starts.threads m.typed set.accepted.resolved set.accepted.placed set.accepted.low s.0 n s.1 in
      let at = t.1.callable.at in
      let begins = starts.begin m set.accepted globals s.0 n t.0 s.1 at (stand m set.accepted globals t.0 (place_there (functions_in m.typed.program.items) n t.0 at)).parameters in
      record {
        may = record { function = t.0; at = at; parameters = one_at_most t.0.parameters t.1.parameter t.1.parameters; result = ap is_reference t.1.result };
        closed = λ q mentions. begins.closed q (subst (λ e. EntryMentions e q) (takes_of n t.0 at 0) mentions);
      }

  -- `int main(void)`
  record IsMainAt (n : ℕ) : Type 0 where
    function : Function
    at : function_at m.typed n ≡ Some function
    result : declared_kind function.result ≡ int
    parameters : function.parameters ≡ []

  main_at : (n : ℕ) (g : Function) → function_at m.typed n ≡ Some g → g.name.text ≡ codes "main" → IsMainAt n
  main_at n g at name =
      let k = starts.main m.typed set.accepted.resolved set.accepted.placed set.accepted.low in
      let same : n ≡ k.0 = starts.one m.typed set.accepted.resolved n k.0 g k.1 at k.2.at (name ∙ sym k.2.name) in
      record { function = k.1; at = ap (function_at m.typed) same ∙ k.2.at; result = k.2.result; parameters = k.2.parameters }

  no_register : (n : ℕ) → IsMainAt n → (q : ℕ) → EntryMentions (((setting_of m globals code alone lines).signature n).takes 0) q → ⊥
  no_register n x q mentions = absurd (subst (λ ds. EntryMentions (variable_entry (record { program = m; globals = globals; scope = parameters_scope ds }) 0) q) x.parameters (subst (λ e. EntryMentions e q) (takes_of n x.function x.at 0) mentions))

  main_start : (n : ℕ) → is_main (function_at m.typed n) ≡ true → StartTypable (setting_of m globals code alone lines) m n
  main_start n h = by (function_at m.typed n) refl h
    where
      by : (o : Option Function) → function_at m.typed n ≡ o → is_main o ≡ true → StartTypable (setting_of m globals code alone lines) m n
      by None at h = absurd (false≢true h)
      by (Some g) at h =
          let x = main_at n g at ((bytes_eq-Decides g.name.text (codes "main")).0 h) in
          record {
            may = record { function = x.function; at = x.at; parameters = none_at_all x.function.parameters x.parameters; result = ap is_reference x.result };
            closed = no_register n x;
          }

  start_is : (n : ℕ) → is_start m.typed n ≡ true → StartTypable (setting_of m globals code alone lines) m n
  start_is n h = ⊎_elim (λ s. spawned_start n s) (λ k. main_start n k) (or_cases (is_spawned m.typed n) (is_main (function_at m.typed n)) h)

  main_is : (n : ℕ) → IsMainOf m n → MainTypable (setting_of m globals code alone lines) n
  main_is n k =
      let x = main_at n k.0 k.1 k.2 in
      let named : is_main (function_at m.typed n) ≡ true = ap is_main k.1 ∙ (bytes_eq-Decides k.0.name.text (codes "main")).1 k.2 in
      let low = below_there (functions_in m.typed.program.items) n k.0 k.1 in
      let few = (starts.limits m.typed.program set.accepted.resolved.typed).functions in
      record {
        starts = or_right (is_spawned m.typed n) (is_main (function_at m.typed n)) named;
        few = omega (arith, low, few);
        number = ap (λ o. (signature_by m globals (alone n) o).takes_ints 0) x.at ∙ ap (λ ds. cond (nat_lt 0 (int_count (parameters_scope ds))) (Within (typing.width (flat.in_function m globals x.function) 0)) Anything) x.parameters;
      }

  no_function : (n : ℕ) → function_at m.typed n ≡ None → IsPlain ((setting_of m globals code alone lines).signature n)
  no_function n at = subst (λ o. IsPlain (signature_by m globals (alone n) o)) (sym at)
      (record { bases = λ i b h. absurd h; names = λ i name h. absurd h; result = λ q h. absurd h; result_base = λ b h. absurd h; result_name = λ name h. absurd h })

-- ---- a whole program
pub programs_typable : ExpressionsAreTypable → BasesStand → Laws → TypeLaws → ResultLaws → VariablesFound → TypedSuits → FunctionsStand → ThreadLaws → ProgramsAreTypable
programs_typable expressions bases laws types results variables suits stand starts m code alone lines set cells =
    let z : Setting = setting_of m (globals_of m.typed) code alone lines in
    record {
      low = low_typing;
      functions = λ n g at. function_typable laws types results variables suits stand m (globals_of m.typed) z alone set refl n g at (linked expressions bases z alone n g (cells n g) laws);
      others = no_function starts stand m (globals_of m.typed) code alone lines set;
      starts = start_is starts stand m (globals_of m.typed) code alone lines set;
      main = main_is starts stand m (globals_of m.typed) code alone lines set;
    }
