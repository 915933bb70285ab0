-- The flat code of a typable program overwrites no reference.
use Rattle.sharc_typed_laws.proofs.{Imports.{◌≡◌, ◌≢◌, ℕ, ◌<◌, true, cond, length, map, sym, ap, ◌∙◌, subst, arith, nat_tests, nat_lt, same_Some, found, Function, Code, Parameter, function_of, functions_in, Assignment, Flat, FlatCode, Flattens, flat_of, flat_function, globals_of, in_function, parameter_of, ref_count, slot_of, entered_at, place, dropped, Targets, StaticType, Empty, Refers, Labels, Signature, IsWellTyped, labels_of, with_checks, IsSettingOf, TypableProgram, Setting, Typing}, Level.level_flat, Starting.handed_some}
use Rattle.sharc_flat.specs.{Flattened.AreRows, Laws.MadeIsFlattened}
use Rattle.sharc_flat_lemmas.proofs.Functions.{row_of, rows_as_many}
use Rattle.sharc_lemmas.proofs.Lists.{map_length}
use Rattle.sharc_typed_laws.specs.{Programs.{ProgramsAreTyped, ProgramsAreLevel}, TypedLaws.{AnyhowIsTyped, TypedFlatIsTyped}}

-- each place is one of one function, so no two functions begin there
same_entry : (x : Targets) (code : Code) (ls : Labels) → IsWellTyped x code ls → (f g : ℕ) → f < length code.functions.items → g < length code.functions.items
    → (function_of code f).entry ≡ (function_of code g).entry → f ≡ g
same_entry x code ls t f g known known2 same = same_Some f g (sym (t.entries f known).function ∙ ap (λ pc. (ls.at pc).function) same ∙ (t.entries g known2).function)

refers : (n : ℕ) (s : StaticType) → 0 < n → cond (nat_lt 0 n) (Refers s) Empty ≢ Empty
refers n s lt = let e : nat_lt 0 n ≡ true = grind (arith, nat_tests, lt) in subst (λ b. cond b (Refers s) Empty ≢ Empty) (sym e) (λ (h : Refers s ≡ Empty). absurd (cc))

module _ (made_flat : MadeIsFlattened) (m : Assignment) (flat : FlatCode) (flattens : Flattens m flat) (z : Setting) (of : IsSettingOf z flat) (y : Typing) (t : TypableProgram z y m) where
  abbrev made : Flat
  made = flat_of flat

  many : length z.code.functions.items ≡ length made.functions
  many = let enter = entered_at (place (dropped made) made.lines) in ap length ((λ i. (of.code.generated.functions i).items) ∙ of.code.made.functions) ∙ map_length enter made.functions

  -- a function that is handed a reference takes one
  takes : (f : ℕ) → f < length made.functions → (flat_function made f).parameter ≡ Parameter.Reference → (z.signature f).takes 0 ≢ Empty
  takes f few is =
      let globals = globals_of m.typed in
      let fs = functions_in m.typed.program.items in
      let are : AreRows m globals 0 fs made.functions = subst (λ g. AreRows m g 0 fs made.functions) flattens.globals (made_flat m flat flattens).functions in
      let g = found fs f (subst (λ n. f < n) (sym (rows_as_many m globals 0 fs made.functions are)) few) in
      let row = row_of m globals 0 fs made.functions are f g.0 g.1 in
      let c = in_function m globals g.0 in
      subst (λ e. e ≢ Empty) (sym ((t.functions f g.0 g.1).takes 0)) (refers (ref_count c.scope) (y.pointer c 0) (handed_some g.0.parameters (sym row.parameter ∙ is)))

pub programs_level : ProgramsAreTyped → AnyhowIsTyped → TypedFlatIsTyped → MadeIsFlattened → ProgramsAreLevel
programs_level programs anyhow typed made_flat m flat flattens fits named z of y t is_flat =
    let w = programs m flat flattens fits named z of y t in
    let fl = with_checks (flat_of flat) w.0 in
    let d = dropped (flat_of flat) in
    let a = anyhow z.targets z.code w.0 (flat_of flat) w.1 in
    let well = typed z.targets flat z.code fl of.code a in
    let count = many made_flat m flat flattens z of y t in
    level_flat z.targets z.code fl (flat_of flat) d a is_flat
    (λ f g known known2 same. same_entry z.targets z.code (labels_of z.targets d fl (flat_of flat).lines) well f g known (omega (arith, known2, count)) same)
    (λ f few is. subst (λ (s : ℕ → Signature). (s f).takes 0 ≢ Empty) (sym w.2) (takes made_flat m flat flattens z of y t f few is))
