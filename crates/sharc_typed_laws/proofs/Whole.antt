-- Code that is made of typed flat code is typed.
use Rattle.sharc_typed_laws.proofs.{Imports.{◌≡◌, ℕ, zero, suc, ◌+◌, ◌<◌, ◌⊎◌, Bool, List, [], ◌∷◌, length, map, Some, None, refl, sym, ap, ◌∙◌, subst, inl, inr, arith, AllByRecursion, slice_get, slice_index_or, Code, Row as Function, Instr, Start, Exit, instr_at, function_of, no_function, place_at, no_place, IsCodeOf, instr_of, generated, FlatCode, Op, flat_function, flat_of, expanded, place, source_of, sites_of, with_texts, LineTexts, entered_at, dropped, Targets, Label, Labels, IsScoped, Leads, Fine, IsWellTyped, ints_in, refs_in, entry_label, less_refl, FlatLabels, outside, labels_from, labels_of, IsTypedFlat}, TypedPlacing.{IsPlaced, FineList, There, LineStands, AllStand, all_stand, all_places, fine_at, lines_fine, goes_to}, Lines.{starts_alike, within as line_within}}

-- ---- lists
source_there : (os : List Op) (ts : List LineTexts) (n : ℕ) (o : Op) → slice_get os n ≡ Some o → (told : LineTexts) × (slice_index_or (sites_of os ts) n no_place ≡ with_texts told (source_of o))
source_there [] ts n o e = absurd (cc)
source_there (p ∷ os) [] zero o e = let h : p ≡ o = cc in (record { lvalue = (source_of o).lvalue; lock = (source_of o).lock }, ap source_of h)
source_there (p ∷ os) (t ∷ ts) zero o e = let h : p ≡ o = cc in (t, ap (λ o. with_texts t (source_of o)) h)
source_there (p ∷ os) [] (suc n) o e = source_there os [] n o e
source_there (p ∷ os) (t ∷ ts) (suc n) o e = source_there os ts n o e

function_there : (h : Function → Function) (fs : List Function) (f : ℕ) → f < length (map h fs) → slice_index_or (map h fs) f no_function ≡ h (slice_index_or fs f no_function)
function_there h [] f lt = absurd (omega arith)
function_there h (x ∷ fs) zero lt = refl
function_there h (x ∷ fs) (suc f) lt = function_there h fs f (omega arith)

same_length : (h : Function → Function) (fs : List Function) → length (map h fs) ≡ length fs
same_length h [] = refl
same_length h (x ∷ fs) = ap suc (same_length h fs)

each_there : (P : Label → Type 0) (labels : List Label) → AllByRecursion P labels → P outside → (j : ℕ) → P (slice_index_or labels j outside)
each_there P [] h o j = o
each_there P (l ∷ labels) h o zero = h.0
each_there P (l ∷ labels) h o (suc j) = each_there P labels h.1 o j

all_of : (P Q : Label → Type 0) → ((l : Label) → P l → Q l) → (labels : List Label) → AllByRecursion P labels → AllByRecursion Q labels
all_of P Q each [] h = tt
all_of P Q each (l ∷ labels) h = (each l h.0, all_of P Q each labels h.1)

outside_scoped : IsScoped 0 0 outside
outside_scoped = record {
  few = λ r _. refl;
  paths = λ r q m. absurd m;
  copies = λ r. inl refl;
  bases = λ i r h. absurd h;
  known = λ r e. absurd (cc);
  passes = λ p r h. absurd h;
  numbers = λ i _. refl;
}

module _ (x : Targets) (flat : FlatCode) (code : Code) (fl : FlatLabels) (is : IsCodeOf flat code) (t : IsTypedFlat x code (dropped (flat_of flat)) fl (flat_of flat)) where
  abbrev d : ℕ → Bool
  d = dropped (flat_of flat)

  abbrev lines : List Op
  lines = flat.lines.items

  abbrev pl : ℕ → ℕ
  pl = place d lines

  abbrev ls : Labels
  ls = labels_of x d fl lines

  functions_are : code.functions.items ≡ is.g.functions.items
  functions_are = λ i. (is.generated.functions i).items

  sites_are : code.sites.items ≡ is.g.sites.items
  sites_are = λ i. (is.generated.sites i).items

  abbrev statements : List Instr
  statements = Start 0 ∷ Exit ∷ expanded pl d 0 lines

  abbrev instrs : List Instr
  instrs = Start 0 ∷ Exit ∷ map (instr_of code.functions.items) (expanded pl d 0 lines)

  instrs_are : code.instrs.items ≡ instrs
  instrs_are = is.generated.instrs ∙ ap (λ fs. generated fs is.g.statements.items) (sym functions_are) ∙ ap (generated code.functions.items) is.made.statements

  site : (n : ℕ) (o : Op) → slice_get lines n ≡ Some o → (told : LineTexts) × (place_at code n ≡ with_texts told (source_of o))
  site n o e = let w = source_there lines flat.told.items n o e in (w.0, ap (λ sites. slice_index_or sites n no_place) (sites_are ∙ is.made.sites) ∙ w.1)

  line_stands : (n : ℕ) (o : Op) → slice_get lines n ≡ Some o → LineStands x code d fl (length lines) n o
  line_stands n o e = let lt = line_within lines n o e in let s = site n o e in record { typed = t.lines n o e; told = s.0; site = s.1; placed = (t.functions.scoped n lt, t.functions.owned n lt) }

  all_lines : AllStand x code d fl (length lines) 0 lines
  all_lines = all_stand x code d fl (length lines) 0 lines
      (λ j o e. let z : j ≡ 0 + j = omega arith in subst (λ n. LineStands x code d fl (length lines) n o) z (line_stands j o e))
      (let z : 0 + length lines ≡ length lines = omega arith in ap fl.lines.at z ∙ t.functions.end)

  abbrev whole : List Label
  whole = outside ∷ outside ∷ labels_from x d fl 0 lines

  lines_there : There x code fl.lines ls.at 2 (labels_from x d fl 0 lines)
  lines_there j = let e : 2 + j ≡ suc (suc j) = omega arith in ap ls.at e

  whole_fine : FineList x code fl.lines ls.at 0 whole instrs
  whole_fine = ((refl, refl, less_refl outside), ((refl, refl, refl), lines_fine x code d fl (length lines) lines all_lines refl 2 0 lines all_lines lines_there))

  fine : (pc : ℕ) → Fine x code ls pc (ls.at pc) (instr_at code pc)
  fine pc =
      let e : 0 + pc ≡ pc = omega arith in
      subst (λ is. Fine x code ls pc (ls.at pc) (slice_index_or is pc Exit)) (sym instrs_are)
      (subst (λ n. Fine x code ls n (ls.at pc) (slice_index_or instrs pc Exit)) e (fine_at x code fl.lines ls.at 0 whole instrs whole_fine pc))

  places : AllByRecursion (IsPlaced code) (labels_from x d fl 0 lines)
  places = all_places x code d fl (length lines) 0 lines all_lines

  abbrev Scoped : Label → Type 0
  Scoped l = IsScoped (ints_in code l.function) (refs_in code l.function) l

  scoped : (pc : ℕ) → Scoped (ls.at pc)
  scoped pc = each_there Scoped whole (outside_scoped, (outside_scoped, all_of (IsPlaced code) Scoped (λ l h. h.0) (labels_from x d fl 0 lines) places)) outside_scoped pc

  -- past the last statement there is an Exit
  exits : (pc : ℕ) (labels : List Label) (js : List Instr) → FineList x code fl.lines ls.at pc labels js → AllByRecursion (IsPlaced code) labels → (j : ℕ) → (slice_index_or labels j outside).function ≡ None → slice_index_or js j Exit ≡ Exit
  exits pc [] [] f h j e = refl
  exits pc (l ∷ labels) (i ∷ js) f h zero e = let s : l.function ≡ Some h.0.1.0 = h.0.1.1 in absurd (cc)
  exits pc (l ∷ labels) (i ∷ js) f h (suc j) e = exits (pc + 1) labels js f.1 h.1 j e
  exits pc [] (i ∷ js) f h j e = absurd f
  exits pc (l ∷ labels) [] f h j e = absurd f

  instr_is : (pc : ℕ) → slice_index_or instrs pc Exit ≡ Exit → instr_at code pc ≡ Exit
  instr_is pc e = ap (λ is. slice_index_or is pc Exit) instrs_are ∙ e

  placed : (pc : ℕ) → (ls.at pc).function ≡ None → (pc ≡ 0) ⊎ (instr_at code pc ≡ Exit)
  placed zero e = inl refl
  placed (suc zero) e = inr (instr_is 1 refl)
  placed (suc (suc j)) e = inr (instr_is (suc (suc j)) (exits 2 (labels_from x d fl 0 lines) (map (instr_of code.functions.items) (expanded pl d 0 lines)) whole_fine.1.1 places j e))

  -- where functions begin
  entries : (f : ℕ) → f < length code.functions.items → Leads ls (function_of code f).entry (entry_label ls f)
  entries f lt =
      let all : code.functions.items ≡ map (entered_at pl) flat.functions.items = functions_are ∙ is.made.functions in
      let few : f < length (map (entered_at pl) flat.functions.items) = subst (λ fs. f < length fs) all lt in
      let known : f < length flat.functions.items = subst (λ n. f < n) (same_length (entered_at pl) flat.functions.items) few in
      let entry : (function_of code f).entry ≡ pl (flat_function (flat_of flat) f).entry = ap (λ fs. (slice_index_or fs f no_function).entry) all ∙ ap (λ (h : Function). h.entry) (function_there (entered_at pl) flat.functions.items f few) in
      subst (λ pc. Leads ls pc (entry_label ls f)) (sym entry)
      (goes_to x code d fl (length lines) lines all_lines refl (flat_function (flat_of flat) f).entry (entry_label fl.lines f) (t.functions.entries f known))

  pub well_typed : IsWellTyped x code ls
  well_typed = record {
    targets = t.targets;
    globals = t.globals;
    fine = fine;
    scoped = scoped;
    entries = entries;
    plain = t.functions.plain;
    starts = λ f e. starts_alike code fl.lines ls.at f (t.functions.starts f e);
    main = t.functions.main;
    main_is = t.functions.main_is;
    main_number = t.functions.main_number;
    begin = (0, ap (λ is. slice_index_or is 0 Exit) instrs_are);
    placed = placed;
    first = (refl, refl, refl);
    second = instr_is 1 refl;
  }
