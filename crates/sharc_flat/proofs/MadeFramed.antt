-- What flattening makes is flat code of its program: names are all that its functions have beside.
use Rattle.sharc_flat.proofs.Imports.{◌≡◌, ℕ, ◌+◌, List, [], ◌∷◌, length, refl, ap, sym, ◌∙◌, subst, arith, Row, Assignment, GlobalCells, Function, functions_in, AreRows, AreNamed, IsFlattened, IsFlat, IsFramed, FlatCode, Flattens, FitsMade, ProgramSuits, flat_of, functions_code, function_code, globals_of, names_of, rows_of, IsInGlobal}
use Rattle.sharc_flat.proofs.{Framed.flattened_is_framed, Apart.apart, Flattening.is_flattened}

rows_named : (m : Assignment) (globals : List GlobalCells) (bytes : List ℕ) (pc : ℕ) (fs : List Function) (xs ys : List Row) (ns : List (List ℕ)) → AreRows m globals pc fs xs → AreNamed bytes xs ns ys → AreRows m globals pc fs ys
rows_named m globals bytes pc [] [] [] [] are named = refl
rows_named m globals bytes pc [] [] [] (n ∷ ns) are named = absurd named
rows_named m globals bytes pc [] [] (y ∷ ys) [] are named = absurd named
rows_named m globals bytes pc [] [] (y ∷ ys) (n ∷ ns) are named = absurd named
rows_named m globals bytes pc [] (x ∷ xs) ys ns are named = absurd (let e = ap length are in omega arith)
rows_named m globals bytes pc (f ∷ fs) [] ys ns are named = absurd are
rows_named m globals bytes pc (f ∷ fs) (x ∷ xs) [] [] are named = absurd named
rows_named m globals bytes pc (f ∷ fs) (x ∷ xs) (y ∷ ys) [] are named = absurd named
rows_named m globals bytes pc (f ∷ fs) (x ∷ xs) [] (n ∷ ns) are named = absurd named
rows_named m globals bytes pc (f ∷ fs) (x ∷ xs) (y ∷ ys) (n ∷ ns) are named = (
  record {
    entry = ap (λ (r : Row). r.entry) named.0.is ∙ are.0.entry;
    parameter = ap (λ (r : Row). r.parameter) named.0.is ∙ are.0.parameter;
    site = ap (λ (r : Row). r.site) named.0.is ∙ are.0.site;
    ints = ap (λ (r : Row). r.ints) named.0.is ∙ are.0.ints;
    refs = ap (λ (r : Row). r.refs) named.0.is ∙ are.0.refs;
  },
  rows_named m globals bytes (pc + length (function_code m globals pc f)) fs xs ys ns are.1 named.1,
)

pub made_is_flattened : (m : Assignment) (code : FlatCode) → Flattens m code → IsFlattened m (flat_of code)
made_is_flattened m code h =
    let fs : List Function = functions_in m.typed.program.items in
    let globals = globals_of m.typed in
    record {
      lines = h.lines ∙ ap (λ g. functions_code m g 0 fs) (sym h.globals);
      functions = subst (λ g. AreRows m g 0 fs code.functions.items) (sym h.globals)
          (rows_named m globals code.texts.items 0 fs (rows_of m globals 0 fs) code.functions.items (names_of fs) (is_flattened m globals).functions h.functions);
    }

pub made_is_framed : (m : Assignment) → ProgramSuits m → (code : FlatCode) → Flattens m code → FitsMade (flat_of code) → IsFlat (flat_of code) × IsFramed (flat_of code)
made_is_framed m suits code is fits = flattened_is_framed m suits (flat_of code) (made_is_flattened m code is) (record {
  few_ints = fits.few_ints;
  few_refs = fits.few_refs;
  apart = λ g x place a b. subst (λ globals. (g x place : ℕ) → IsInGlobal globals g place → IsInGlobal globals x place → g ≡ x) (sym is.globals) (apart m.typed) g x place a b;
  few_cells = fits.few_cells;
})
