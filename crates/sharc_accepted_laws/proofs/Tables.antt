-- The tables of code that is made of a program.
use Rattle.sharc_accepted_laws.proofs.Imports.{◌≡◌, ℕ, pos, ◌^◌, ◌<◌, ◌≤◌, Bool, List, length, map, slice_index, get_or as slice_index_or, refl, ap, sym, ◌∙◌, subst, arith, Some, length-map, unsigned_abs, Span, GlobalDefinition, GlobalForm, Function, Constant, Code, Row, no_function, GlobalsFit, globals_in, functions_in, function_at, Assignment, FlatCode, flat_of, rows_of, Flattens, names_of, globals_of, entered_at, place, dropped, MadeTablesFit, AreGlobals, SomeAreAlone, IsAccepted, GranulesAreFew, IsCounted, CountedForm, HasTables, TargetsAre, GlobalsHold, targets_of, AreUnsigned, CodeIsSet, HasRow, place_of_element, to_each}
use Rattle.sharc_tree.specs.{declared.token.Number.Number, declared.tree.item.GlobalForm.TheVariants.Initial}
use Rattle.sharc_compile.specs.Made.{IsCodeOf}
use Rattle.sharc_flat_lemmas.proofs.{Functions.{are_rows, row_of, rows_as_many}, Laid.{mapped_same, rows_many, rows_same}}
use Rattle.sharc_lemmas.proofs.Lists.{there_is}

-- ---- constants
counted : (k : Number) (n : ℕ) → k.value ≡ pos n → IsCounted (Constant.Number k)
counted k n is = is ∙ ap (λ z. pos (unsigned_abs z)) (sym is)

counted_form : (form : GlobalForm) → ((span : Span) (minus : Bool) (k : Number) → form ≡ Initial span minus (Constant.Number k) → (n : ℕ) × (k.value ≡ pos n)) → CountedForm form
counted_form (Initial span minus (Constant.Number k)) unsigned = let n = unsigned span minus k refl in counted k n.0 n.1
counted_form _ unsigned = tt

module _ (alone : SomeAreAlone) (targets : TargetsAre) (globals_hold : GlobalsHold) (fit : MadeTablesFit) (granules : GranulesAreFew) (m : Assignment) (a : IsAccepted m) (flat : FlatCode) (made : Flattens m flat) (code : Code) (is : IsCodeOf flat code) where
  tables : HasTables m code
  tables = record {
    globals = ap (λ v. v.items) (is.generated.globals ∙ is.made.globals) ∙ made.globals;
    granules = is.generated.granules ∙ is.made.granules ∙ made.granules;
    initial = ap (λ v. v.items) (is.generated.initial ∙ is.made.initial) ∙ made.initial;
    layouts = ap (λ v. v.items) (is.generated.layouts ∙ is.made.layouts) ∙ made.layouts;
    pointers = ap (λ v. v.items) (is.generated.pointers ∙ is.made.pointers) ∙ made.pointers;
  }

  rows_are : code.functions.items ≡ map (entered_at (place (dropped (flat_of flat)) flat.lines.items)) flat.functions.items
  rows_are = ap (λ v. v.items) is.generated.functions ∙ is.made.functions

  rows : (n : ℕ) (g : Function) → function_at m.typed n ≡ Some g → HasRow code n g
  rows n g at =
      let fs = functions_in m.typed.program.items in
      let gs = globals_of m.typed in
      let told = rows_of m gs 0 fs in
      let are = are_rows m gs 0 fs in
      let pl = place (dropped (flat_of flat)) flat.lines.items in
      let count : length code.functions.items ≡ length flat.functions.items = ap (λ (list : List Row). length list) rows_are ∙ length-map flat.functions.items (entered_at pl) in
      record {
        low = omega (arith, there_is fs n g at, rows_as_many m gs 0 fs told are, rows_many flat.texts.items told (names_of fs) flat.functions.items made.functions, count);
        parameter = ap (λ (list : List Row). (slice_index_or list n no_function).parameter) rows_are ∙ mapped_same (λ row. row.parameter) (entered_at pl) (λ row. refl) flat.functions.items n
            ∙ rows_same (λ row. row.parameter) (λ row name. refl) flat.texts.items told (names_of fs) flat.functions.items made.functions n ∙ (row_of m gs 0 fs told are n g at).parameter;
      }

  globals_are : AreUnsigned m.typed → AreGlobals (targets_of m) code
  globals_are unsigned =
      let f = fit m a.resolved a.placed a.low flat made in
      globals_hold m a.resolved.typed
      (to_each (λ (g : GlobalDefinition). CountedForm g.form) (globals_in m.typed.program.items)
      (λ g has. let k = place_of_element (globals_in m.typed.program.items) g has in counted_form g.form (λ span minus n form. unsigned k.0 g k.1 span minus n form)))
      code tables (subst (λ n. n ≤ 65536) (sym tables.granules) (granules m.typed a.resolved a.placed a.low))
      (subst (λ n. GlobalsFit code.globals.items n) (sym (is.generated.granules ∙ is.made.granules))
      (subst (λ list. GlobalsFit list flat.granules) (sym (ap (λ v. v.items) (is.generated.globals ∙ is.made.globals))) f.globals))
      (λ j. subst (λ list. slice_index list j < 2 ^ 64) (sym (ap (λ v. v.items) (is.generated.initial ∙ is.made.initial))) (f.words j))

pub code_is_set : SomeAreAlone → TargetsAre → GlobalsHold → MadeTablesFit → GranulesAreFew → CodeIsSet
code_is_set some targets hold fit granules m a constants unsigned flat made code is =
    let alone = some m a in
    record {
      alone = alone.0;
      set = record { accepted = a; globals_are = refl; tables = tables some targets hold fit granules m a flat made code is; rows = rows some targets hold fit granules m a flat made code is; alone_are = alone.1; constants = constants };
      setting = record { code = is; lines = refl; targets = targets m a.resolved a.placed a.low a.least a.well; globals = globals_are some targets hold fit granules m a flat made code is unsigned };
    }
