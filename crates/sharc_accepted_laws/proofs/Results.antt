-- Results.
use Rattle.sharc_accepted_laws.proofs.{Imports.{◌≡◌, ℕ, List, [], ap, sym, ◌∙◌, subst, arith, declared_kind, result_of, functions_in, called_kind, result_kind_of, EachTypeFound, EachPathFound, written, declared_row, result_row, called_row, modes_of, Slot, Context, Mentions, Refers, IsFunction, IsAccepted, where_stand, ResultsStay, CallsGive, ResultLaws, ScopeLaws, AllStand, static_of, result_type, Function, of_each}, Places.{InFile, file_known, file_stands, reads_written}}

module _ (scopes : ScopeLaws) (found : EachTypeFound) (paths : EachPathFound) (c : Context) (a : IsAccepted c.program) (f : Function) (is : IsFunction c.program f) where
  stands : AllStand c.program [] (modes_of c.program (declared_row c.program.typed written f.name.site.token))
  stands =
      let r = c.program.typed in
      let known = file_known r r.program.items (found r a.resolved a.placed a.low) (paths r a.resolved a.placed a.low).types in
      let h = of_each (λ f. InFile r (result_of f)) (functions_in r.program.items) f known.results is in
      file_stands (where_stand c []) a.least written (reads_written (where_stand c [])) (result_of f) h.0 h.1

  with_scope : (scope : List Slot) → result_type (where_stand c scope) f ≡ result_type (where_stand c []) f
  with_scope scope = scopes.types (where_stand c []) scope (declared_kind f.result) (modes_of c.program (declared_row c.program.typed written f.name.site.token)) stands

  names_none : (p : ℕ) → Mentions (result_type c f) p → ⊥
  names_none p mentions =
      let low = scopes.named (where_stand c []) (declared_kind f.result) (modes_of c.program (declared_row c.program.typed written f.name.site.token)) p stands (subst (λ s. Mentions s p) (with_scope c.scope) mentions) in
      omega (arith, low)

results_stay : ScopeLaws → EachTypeFound → EachPathFound → ResultsStay
results_stay scopes found paths c a f is one other = with_scope scopes found paths c a f is one ∙ sym (with_scope scopes found paths c a f is other)

calls_give : CallsGive
calls_give c s i all n f names at =
    ap (λ what. Refers (static_of c (called_kind c.program.typed what) (modes_of c.program (called_row c.program.typed what)))) names
    ∙ ap (λ o. Refers (static_of c (result_kind_of o) (modes_of c.program (result_row c.program.typed o)))) at

pub result_laws : ScopeLaws → EachTypeFound → EachPathFound → ResultLaws
result_laws scopes found paths = record { stay = results_stay scopes found paths; give = calls_give; none = λ c a f is p mentions. names_none scopes found paths c a f is p mentions }
