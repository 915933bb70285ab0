-- The flat code of a typable program is typed whatever checks are remembered.
use Rattle.sharc_typed_laws.proofs.{Imports.{AllByRecursion, ◌≡◌, ℕ, zero, suc, ◌+◌, ◌<◌, true, false, List, [], ◌∷◌, length, map, Option, Some, None, refl, sym, ap, ◌∙◌, subst, arith, same_Some, none-some, slice_get_within, slice_get, slice_index_or, Function, declared_kind, Row, GlobalCells, no_function, function_of, functions_in, function_at, Assignment, FlatCode, Op, Flat, flat_function, flat_of, in_function, function_code, functions_code, Flattens, FitsMade, int_count, globals_of, place, entered_at, dropped, Less, Closed, IsScoped, MayStart, ints_in, refs_in, entry_label, FlatLabels, outside, To, IsTypedAnyhow, Mark, Setting, IsLine, flat_labels, labels_by, mark, Typing, label_of, AreAllLines, LinesAreTyped, LinesTell, LinesKnow, FunctionTypable, FunctionsAreTyped, AreGlobalsNamed, TypableProgram, IsSettingOf, found, Agrees, Fits, agrees_all, before, first, get_or_past}, Framing.{AreFew, are_within}, Arrays.{arrays_low, globals_there}, Remembered.{variables, low}, Starting.{signature_plain, starts_by}}
use Rattle.sharc_flat.specs.{Flattened.AreRows, Laws.MadeIsFlattened}
use Rattle.sharc_flat_lemmas.proofs.{Functions.{Parts, Whole, begin_of, is_there, owner_of, row_of, rows_as_many, whole}, Laid.mapped_same}
use Rattle.sharc_lemmas.proofs.Lists.{map_length}
use Rattle.sharc_flat_laws.specs.Tables.{MadeIsPast, OpPast}
use Rattle.sharc_invariant.specs.{Typed.IsPlain, Types.Targets}

past_at : (os : List Op) → AllByRecursion OpPast os → (n : ℕ) (o : Op) → slice_get os n ≡ Some o → OpPast o
past_at [] h n o at = absurd (none-some o at)
past_at (x ∷ os) h zero o at = subst OpPast (same_Some x o at) h.0
past_at (x ∷ os) h (suc n) o at = past_at os h.1 n o at

-- what is said before the first of some lines
first_there : (targets : Targets) (table : ℕ → Mark) (pc : ℕ) (marks : List Mark) (s : Mark) → 0 < length marks → Agrees table pc marks → Fits targets s (first marks s) → Fits targets s (table pc)
first_there targets table pc [] s some agrees fits = absurd (omega (arith, some))
first_there targets table pc (x ∷ marks) s some agrees fits = subst (Fits targets s) (sym agrees.0) fits

-- ---- the whole
module _ (typed_lines : LinesAreTyped) (tell : LinesTell) (know : LinesKnow) (functions_typed : FunctionsAreTyped) (made_past : MadeIsPast) (made_flat : MadeIsFlattened) (m : Assignment) (flat : FlatCode) (flattens : Flattens m flat) (fits : FitsMade (flat_of flat)) (known : AreGlobalsNamed m)
    (z : Setting) (of : IsSettingOf z flat) (y : Typing) (t : TypableProgram z y m) where
  abbrev globals : List GlobalCells
  globals = globals_of m.typed

  abbrev fs : List Function
  fs = functions_in m.typed.program.items

  abbrev made : Flat
  made = flat_of flat

  abbrev L : List Op
  L = functions_code m globals 0 fs

  are : AreRows m globals 0 fs made.functions
  are = subst (λ g. AreRows m g 0 fs made.functions) flattens.globals (made_flat m flat flattens).functions

  functions_made : length fs ≡ length made.functions
  functions_made = rows_as_many m globals 0 fs made.functions are

  many : length made.lines ≡ length L
  many = ap length flattens.lines

  line_made : (n : ℕ) → slice_get made.lines n ≡ slice_get L n
  line_made n = ap (λ lines. slice_get lines n) flattens.lines

  few : AreFew L
  few n o at = λ i elements cells field spot e. fits.few_cells n i elements cells field spot (line_made n ∙ at ∙ ap Some e)

  -- ---- the table of functions
  abbrev pl : ℕ → ℕ
  pl = place (dropped made) made.lines

  code_functions : z.code.functions.items ≡ map (entered_at pl) made.functions
  code_functions = (λ i. (of.code.generated.functions i).items) ∙ of.code.made.functions

  functions_many : length z.code.functions.items ≡ length fs
  functions_many = ap length code_functions ∙ map_length (entered_at pl) made.functions ∙ sym functions_made

  in_code : {A : Type 0} (of : Row → A) → ((row : Row) (pc : ℕ) → of (record row { entry = pc }) ≡ of row) → (n : ℕ) → of (function_of z.code n) ≡ of (flat_function made n)
  in_code of entered n = ap (λ rows. of (slice_index_or rows n no_function)) code_functions ∙ mapped_same of (entered_at pl) (λ row. entered row (pl row.entry)) made.functions n

  ints_are : (n : ℕ) → (function_of z.code n).ints ≡ (flat_function made n).ints
  ints_are = in_code (λ row. row.ints) (λ row pc. refl)

  refs_are : (n : ℕ) → (function_of z.code n).refs ≡ (flat_function made n).refs
  refs_are = in_code (λ row. row.refs) (λ row pc. refl)

  parameter_is : (n : ℕ) → (function_of z.code n).parameter ≡ (flat_function made n).parameter
  parameter_is = in_code (λ row. row.parameter) (λ row pc. refl)

  -- ---- what is said before each line
  abbrev begins_with : ℕ → Function → Mark
  begins_with n f = before (in_function m globals f) (label_of y (in_function m globals f) n)

  all_inside : length L ≡ z.lines
  all_inside = sym many ∙ sym of.lines

  part : Parts m globals (λ (table : ℕ → Mark). Unit {0}) (IsLine z) (λ n f. Fits z.targets (begins_with n f)) 0 fs
  part n f at =
      let pc = begin_of m globals 0 fs n in
      let C = function_code m globals pc f in
      let there = is_there m globals 0 fs n f at in
      let row = row_of m globals 0 fs made.functions are n f at in
      let ints = ints_are n in
      let refs = refs_are n in
      let some : 0 < length C = omega arith in
      let l = functions_typed z n y t.low m globals f (t.functions n f at) (omega (arith, ints, row.ints)) (omega (arith, refs, row.refs)) pc
      (are_within (function_of z.code n).ints (function_of z.code n).refs C (omega (arith, ints, row.ints)) (omega (arith, refs, row.refs)) (λ j o e. let w = there.line j o e in few w.0 o w.1)) in
      record {
        states = l.marks;
        many = l.many;
        begins = λ table agrees. first_there z.targets table pc l.marks (begins_with n f) (omega (arith, some, l.many)) agrees l.begins;
        runs = λ table d agrees. l.runs table (omega (arith, there.high, all_inside)) agrees;
      }

  pub functions : Whole m globals (λ (table : ℕ → Mark). Unit {0}) (IsLine z) (λ n f. Fits z.targets (begins_with n f)) 0 fs
  functions = whole m globals (λ (table : ℕ → Mark). Unit {0}) (IsLine z) (λ n f. Fits z.targets (begins_with n f)) 0 fs part

  abbrev none : Mark
  none = mark outside 0 0

  abbrev pub table : ℕ → Mark
  table n = slice_index_or functions.states n none

  agrees : Agrees table 0 functions.states
  agrees = agrees_all [] functions.states none 0 refl

  abbrev owner : ℕ → ℕ
  owner = owner_of m globals 0 fs

  lines : AreAllLines z owner table made
  lines n o at = let e : 0 + n ≡ n = omega arith in subst (λ q. IsLine z (owner q) table q (table q) o) e (functions.runs table tt agrees n o (sym (line_made n) ∙ at))

  past : (n : ℕ) (o : Op) → slice_get made.lines n ≡ Some o → OpPast o
  past n o at = past_at made.lines (made_past m (globals_there m known fs (λ f c. c)) (arrays_low m.typed) flat flattens) n o at

  -- ---- where functions begin
  entry_is : (f : ℕ) (g : Function) → FunctionTypable z f y (in_function m globals g) g → entry_label (labels_by z table) f ≡ label_of y (in_function m globals g) f
  entry_is f g h = λ i. record { function = Some f; env = λ q. h.takes q i; same = λ r. r; known = λ r. false; ints = λ j. h.takes_ints j i; gate = Closed; passed = []; room = false }

  entries : (f : ℕ) → f < length made.functions → To (labels_by z table) (length made.lines) (flat_function made f).entry (entry_label (labels_by z table) f)
  entries f lt =
      let lt2 : f < length fs = subst (λ n. f < n) (sym functions_made) lt in
      let g = found fs f lt2 in
      let row = row_of m globals 0 fs made.functions are f g.0 g.1 in
      let there = is_there m globals 0 fs f g.0 g.1 in
      let fits = functions.begins table agrees f g.0 g.1 in
      subst (λ pc. To (labels_by z table) (length made.lines) pc (entry_label (labels_by z table) f)) (sym row.entry)
      (omega (arith, there.high, many), subst (λ l. Less l (table (begin_of m globals 0 fs f)).label) (sym (entry_is f g.0 (t.functions f g.0 g.1))) fits.less)

  plain : (f : ℕ) → IsPlain (z.signature f)
  plain f = by (function_at m.typed f) refl
    where
      by : (g : Option Function) → function_at m.typed f ≡ g → IsPlain (z.signature f)
      by None e = t.others f e
      by (Some g) e =
          let h = t.functions f g e in
          let c = in_function m globals g in
          signature_plain z f y (declared_kind g.result) h.gives (int_count c.scope) (y.width c) h.takes_ints

  starts : (f : ℕ) → z.starts f ≡ true → MayStart z.code (labels_by z table) f
  starts f e =
      let s = t.starts f e in
      let g = s.may.function in
      let h = t.functions f g s.may.at in
      let c = in_function m globals g in
      let row = row_of m globals 0 fs made.functions are f g s.may.at in
      let ints = ints_are f in
      let refs = refs_are f in
      let row_ints = row.ints in
      let row_refs = row.refs in
      let inside = slice_get_within fs f g s.may.at in
      starts_by z f y (labels_by z table) refl (declared_kind g.result) h.gives s.may.result g.parameters s.may.parameters (omega (arith, inside, functions_many)) (y.pointer c) h.takes (y.width c) h.takes_ints s.closed (parameter_is f ∙ row.parameter)
      (omega (arith, refs, row_refs)) (omega (arith, ints, row_ints))

  main_is : z.code.main ≡ flat.main
  main_is = of.code.generated.main ∙ of.code.made.main

  pub program : IsTypedAnyhow z.targets z.code (flat_labels z table) made
  program = record {
    targets = of.targets;
    globals = of.globals;
    lines = typed_lines z owner table made of.lines lines;
    knows = know z owner table made lines;
    variables = variables z owner table made lines past (tell z owner table made lines) (know z owner table made lines);
    low = low z owner table made lines past (tell z owner table made lines) (know z owner table made lines) of.globals;
    functions = record {
      end = ap (λ (s : Mark). s.label) (get_or_past functions.states (length made.lines) none (omega (arith, functions.many, many)));
      owned = λ n lt. let w = found made.lines n lt in (owner n, (lines n w.0 w.1).owned);
      scoped = λ n lt. let w = found made.lines n lt in
          let l = lines n w.0 w.1 in
          subst (λ f. IsScoped (ints_in z.code f) (refs_in z.code f) (table n).label) (sym l.owned) l.scoped;
      entries = entries;
      plain = plain;
      starts = starts;
      main = subst (λ n. z.starts n ≡ true) (sym main_is) (t.main flat.main flattens.main).starts;
      main_is = let few = (t.main flat.main flattens.main).few in omega (arith, few, main_is);
      main_number = ap (λ n. (z.signature n).takes_ints 0) main_is ∙ (t.main flat.main flattens.main).number;
    };
  }

pub programs_typed : LinesAreTyped → LinesTell → LinesKnow → FunctionsAreTyped → MadeIsPast → MadeIsFlattened → (m : Assignment) (flat : FlatCode) → Flattens m flat → FitsMade (flat_of flat) → AreGlobalsNamed m → (z : Setting) → IsSettingOf z flat → (y : Typing) → TypableProgram z y m
    → (fl : FlatLabels) × IsTypedAnyhow z.targets z.code fl (flat_of flat) × (fl.lines.signature ≡ z.signature)
programs_typed typed_lines tell know functions made_past made_flat m flat flattens fits known z of y t =
    (flat_labels z (table typed_lines tell know functions made_past made_flat m flat flattens fits known z of y t), program typed_lines tell know functions made_past made_flat m flat flattens fits known z of y t, refl)
