-- The code of a program: as a value, by computing, and that it is what the program is compiled to.
use Rattle.sharc_instance_laws.proofs.{Imports.{◌≡◌, ℕ, ◌^◌, true, List, [], length, refl, le_refl, Vec, nat_lt, nat_le, null_ptr, functions_in, globals_in, Assignment, Code, Row, GlobalCells, FlatCode, LineTexts, Op, flat_of, flattened, Flattens, IsMainOf, names_of, FitsMade, globals_of, all_granules, all_first_words, layouts_of, pointers_of, guarded, dropped, Guarded, generated, IsCodeOf, IsCompiled, below, within}, Laying.{are_laid, are_named, behind_lines, behind_names, laid, named, further_names as names_behind}}
use Rattle.std.specs.Global.{Global}
use Rattle.sharc_guard.specs.Machine.{Program}

module _ (alloc : Global) where
  -- a list as the program holds it
  abbrev pub held : {X : Type 0} (items : List X) → nat_lt (length items) (2 ^ 63) ≡ true → Vec X Global
  held items few = record { ptr = null_ptr; len = length items; cap = length items; alloc = alloc; items = items; ok = (refl, le_refl (length items)); small = below (length items) (2 ^ 63) few }

-- ---- the tables of a program
module _ (m : Assignment) where
  abbrev pub globals : List GlobalCells
  globals = globals_of m.typed

  abbrev names : List (List ℕ)
  names = names_of (functions_in m.typed.program.items)

  abbrev pub lines : List Op
  lines = (flattened m globals).lines

  abbrev pub told : List LineTexts
  told = laid m.typed [] lines

  abbrev behind : List ℕ
  behind = behind_lines m.typed [] lines

  abbrev pub functions : List Row
  functions = named behind (flattened m globals).functions names

  abbrev pub texts : List ℕ
  texts = behind_names behind names

  -- sizes that a program holds
  pub record AreSmall : Type 0 where
    pub lines : nat_lt (length lines) (2 ^ 63) ≡ true
    pub told : nat_lt (length told) (2 ^ 63) ≡ true
    pub functions : nat_lt (length functions) (2 ^ 63) ≡ true
    pub globals : nat_lt (length globals) (2 ^ 63) ≡ true
    pub granules : nat_le (all_granules m.typed (globals_in m.typed.program.items)) 65536 ≡ true
    pub initial : nat_lt (length (all_first_words m.typed (globals_in m.typed.program.items))) (2 ^ 63) ≡ true
    pub layouts : nat_lt (length (layouts_of m.typed)) (2 ^ 63) ≡ true
    pub pointers : nat_lt (length (pointers_of m.typed)) (2 ^ 63) ≡ true
    pub texts : nat_lt (length texts) (2 ^ 63) ≡ true

  module _ (alloc : Global) (small : AreSmall) (main : ℕ) where
    abbrev pub flat : FlatCode
    flat = record {
      lines = held alloc lines small.lines;
      told = held alloc told small.told;
      functions = held alloc functions small.functions;
      main = main;
      globals = held alloc globals small.globals;
      granules = all_granules m.typed (globals_in m.typed.program.items);
      initial = held alloc (all_first_words m.typed (globals_in m.typed.program.items)) small.initial;
      layouts = held alloc (layouts_of m.typed) small.layouts;
      pointers = held alloc (pointers_of m.typed) small.pointers;
      texts = held alloc texts small.texts;
      files = m.typed.program.files;
      few_granules = within (all_granules m.typed (globals_in m.typed.program.items)) 65536 small.granules;
    }

    pub flattens : IsMainOf m main → Flattens m flat
    flattens is = record {
      lines = refl;
      told = let w = names_behind behind names in are_laid m.typed texts [] lines w.0 w.1;
      functions = are_named m globals texts behind 0 (functions_in m.typed.program.items) refl;
      globals = refl;
      main = is;
      granules = refl;
      initial = refl;
      layouts = refl;
      pointers = refl;
      files = refl;
    }

    abbrev checked : Program
    checked = guarded (dropped (flat_of flat)) (flat_of flat)

    module _ (few_statements : nat_lt (length checked.statements) (2 ^ 63) ≡ true) (few_functions : nat_lt (length checked.functions) (2 ^ 63) ≡ true)
        (few_sites : nat_lt (length checked.sites) (2 ^ 63) ≡ true) (few_instrs : nat_lt (length (generated checked.functions checked.statements)) (2 ^ 63) ≡ true) where
      abbrev guarded_code : Guarded
      guarded_code = record {
        statements = held alloc checked.statements few_statements;
        functions = held alloc checked.functions few_functions;
        main = main;
        globals = flat.globals;
        granules = flat.granules;
        initial = flat.initial;
        layouts = flat.layouts;
        pointers = flat.pointers;
        sites = held alloc checked.sites few_sites;
        texts = flat.texts;
        files = flat.files;
        few_granules = flat.few_granules;
      }

      abbrev pub code : Code
      code = record {
        instrs = held alloc (generated checked.functions checked.statements) few_instrs;
        functions = guarded_code.functions;
        main = main;
        globals = flat.globals;
        granules = flat.granules;
        initial = flat.initial;
        layouts = flat.layouts;
        pointers = flat.pointers;
        sites = guarded_code.sites;
        texts = flat.texts;
        files = flat.files;
        few_granules = flat.few_granules;
      }

      coded : IsCodeOf flat code
      coded = record {
        g = guarded_code;
        made = record { statements = refl; functions = refl; sites = refl; globals = refl; main = refl; granules = refl; initial = refl; layouts = refl; pointers = refl; texts = refl; files = refl };
        generated = record { instrs = refl; functions = refl; main = refl; globals = refl; granules = refl; initial = refl; layouts = refl; pointers = refl; sites = refl; texts = refl; files = refl };
      }

      pub compiled : IsMainOf m main → FitsMade (flat_of flat) → IsCompiled m code
      compiled is fits = record { flat = flat; flattens = flattens is; fits = fits; coded = coded }
