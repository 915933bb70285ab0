-- Flat code that is typed whatever checks are remembered is typed with those that are.
use Rattle.sharc_typed_laws.proofs.{Imports.{◌⊎◌, ◌≡◌, ℕ, zero, suc, ◌+◌, ◌<◌, ◌≤◌, Bool, true, false, ◌||◌, List, [], ◌∷◌, length, Option, Some, None, refl, sym, ap, ◌∙◌, subst, inl, inr, ⊎_elim, arith, cases_lt, or_right, nat_tests, same_Some, none-some, slice_get, slice_index_or, nat_lt, ◌==◌, if◌then◌else◌, Read, Write, Code, Row as Function, Cell, no_function, Op, Flat, flat_function, leads_to, is_target, is_led_to, line_leads, is_entry, SimplePlace, in_variable, Access, access, tells, Know, place_of, known, has_passed, drops, drops_at, dropped, Targets, StaticType, Field, Pass, IsIn, Label, Labels, Less, IsScoped, HasField, Covers, ints_in, refs_in, entry_label, FlatLabels, TypedLine, IsTypedFlat, To, is_write, pass_at, passes_next, passes_after, passes_before, passes_in, with_passes, with_all, with_checks, remembered, IsPassed, RepeatsCheck, Knows, IsTypedAnyhow, eq_refl, and_right}, Checking.pass_is, Passing.{was_passed, covers, pass_eq, goes_on}, Lines.{starts_alike, within as line_within}}
use Rattle.sharc_heap.specs.declared.shadow_word.Kind.{Kind}
use Rattle.sharc_guard.specs.Known.{in_global}

-- ---- targets
led_to : (lines : List Op) (m n t : ℕ) (o : Op) → n < m → slice_get lines n ≡ Some o → leads_to n o t ≡ true → is_led_to lines m t ≡ true
led_to lines zero n t o lt at leads = absurd (omega arith)
led_to lines (suc m) n t o lt at leads =
    elim (is_led_to lines m t) as (λ b. is_led_to lines m t ≡ b → (b || line_leads m (slice_get lines m) t) ≡ true) [
      | true ↦ λ _. refl
      | false ↦ λ z. ⊎_elim
          (λ (e : n ≡ m). let here : line_leads n (slice_get lines n) t ≡ true = ap (λ o. line_leads n o t) at ∙ leads in subst (λ q. line_leads q (slice_get lines q) t ≡ true) e here)
          (λ (low : n < m). let y = led_to lines m n t o low at leads in absurd (cc))
          (last n m lt)
    ] refl
  where
    last : (n m : ℕ) → n < suc m → (n ≡ m) ⊎ (n < m)
    last n m lt = ⊎_elim (λ (l : n < m). inr l) (λ (ge : m ≤ n). let e : n ≡ m = omega arith in inl e) (cases_lt n m)

entry_at : (fs : List Function) (f : ℕ) → f < length fs → is_entry fs (slice_index_or fs f no_function).entry ≡ true
entry_at [] f lt = absurd (omega arith)
entry_at (x ∷ fs) zero lt = ap (λ b. b || is_entry fs x.entry) (eq_refl x.entry)
entry_at (x ∷ fs) (suc f) lt = either ((slice_index_or fs f no_function).entry == x.entry) (is_entry fs (slice_index_or fs f no_function).entry) (entry_at fs f (omega arith))
  where
    either : (a b : Bool) → b ≡ true → (a || b) ≡ true
    either true b e = refl
    either false b e = e

-- ---- what a line that is typed says of the cell that it accesses
field_over : (x : Targets) (code : Code) (l : Label) (ps qs : List Pass) (c : Cell) (f : Field) → HasField x code (with_passes l ps) c f → HasField x code (with_passes l qs) c f
field_over x code l ps qs (Cell.Global g p) f h = h
field_over x code l ps qs _ f h = h

pub fields_of : (x : Targets) (code : Code) (ls : Labels) (lines : ℕ) (type : StaticType) (n : ℕ) (l k : Label) (o : Op) → TypedLine x code ls lines false type n l k o → (a : Access) → access o ≡ Some a → (f : Field) × HasField x code l a.cell f
fields_of x code ls lines type n l k (Op.Load i c spot) h a e = let same = same_Some _ a e in subst (λ (a : Access). (f : Field) × HasField x code l a.cell f) same (h.field, h.access.cell.field)
fields_of x code ls lines type n l k (Op.Store i c spot) h a e = let same = same_Some _ a e in subst (λ (a : Access). (f : Field) × HasField x code l a.cell f) same (h.field, h.access.cell.field)
fields_of x code ls lines type n l k (Op.LoadRef r c spot) h a e = let same = same_Some _ a e in subst (λ (a : Access). (f : Field) × HasField x code l a.cell f) same (h.field, h.access.cell.field)
fields_of x code ls lines type n l k (Op.StoreRef r c spot) h a e = let same = same_Some _ a e in subst (λ (a : Access). (f : Field) × HasField x code l a.cell f) same (h.field, h.access.cell.field)
fields_of x code ls lines type n l k o h a e = absurd (none-some a e)

less_none : (l k : Label) → Less l k → Less l (with_passes k [])
less_none l k h = record { function = h.function; env = h.env; same = h.same; known = h.known; ints = h.ints; gate = h.gate; passed = λ p i. absurd i; room = h.room }

module _ (x : Targets) (code : Code) (fl : FlatLabels) (flat : Flat) (t : IsTypedAnyhow x code fl flat) where
  abbrev passes : ℕ → List Pass
  passes = passes_in flat

  abbrev lines : ℕ
  lines = length flat.lines

  abbrev label : ℕ → Label
  label n = fl.lines.at n

  inside : (n : ℕ) → n < lines → passes n ≡ passes_before flat n
  inside n lt = let e : nat_lt n lines ≡ true = grind (arith, nat_tests, lt) in ap (λ b. if b then passes_before flat n else []) e

  past : (n : ℕ) → lines ≤ n → passes n ≡ []
  past n le = let e : nat_lt n lines ≡ false = grind (arith, nat_tests, le) in ap (λ b. if b then passes_before flat n else []) e

  none_before : (n : ℕ) → is_target flat n ≡ true → passes_before flat n ≡ []
  none_before zero e = refl
  none_before (suc n) e = ap (λ b. if b then [] else passes_after (slice_get flat.lines n) (known flat n) (passes_before flat n)) e

  target_none : (n : ℕ) → is_target flat n ≡ true → passes n ≡ []
  target_none n e = elim (nat_lt n lines) as (λ b. (if b then passes_before flat n else []) ≡ []) [ true ↦ none_before n e | false ↦ refl ]

  module _ (n : ℕ) (o : Op) (at : slice_get flat.lines n ≡ Some o) where
    abbrev k : Know
    k = known flat n

    abbrev l : Label
    l = label n

    within : n < lines
    within = line_within flat.lines n o at

    jumps : (to : ℕ) → leads_to n o to ≡ true → passes to ≡ []
    jumps to leads = target_none to (ap (λ b. b || is_entry flat.functions to) (led_to flat.lines lines n to o within at leads))

    -- with nothing remembered and no check dropped
    bare : TypedLine x code (with_all fl.lines (λ n. [])) lines false (fl.replaced n) n (with_passes l []) (with_passes (label (n + 1)) []) o
    bare = t.lines n o at false (λ n. []) (λ e. absurd (cc)) (λ to _. refl) (λ p h. absurd h)

    fields : (ps : List Pass) (a : Access) → access o ≡ Some a → (f : Field) × HasField x code (with_passes l ps) a.cell f
    fields ps a e = let h = fields_of x code (with_all fl.lines (λ n. [])) lines (fl.replaced n) n (with_passes l []) (with_passes (label (n + 1)) []) o bare a e in (h.0, field_over x code l [] ps a.cell h.0 h.1)

    low : (a : Access) (g place : ℕ) → access o ≡ Some a → place_of k a.cell ≡ Some (in_global g place) → 2 ≤ place
    low a g place e is = t.low n o a g place at e is

    drops_is : dropped flat n ≡ drops k o
    drops_is = ap (drops_at k) at

    next : (p : Pass) → IsIn p (passes (n + 1)) → IsIn p (remembered x (dropped flat n) l o (passes n))
    next p =
        let z : n + 1 ≡ suc n = omega arith in
        λ h. by (nat_lt (suc n) lines) (is_target flat (suc n)) (subst (λ q. IsIn p (passes q)) z h)
      where
        to_line : IsIn p (passes_after (slice_get flat.lines n) k (passes_before flat n)) → IsIn p (remembered x (dropped flat n) l o (passes n))
        to_line h =
            let a : IsIn p (passes_next o k (passes_before flat n)) = subst (λ o. IsIn p (passes_after o k (passes_before flat n))) at h in
            let b : IsIn p (passes_next o k (passes n)) = subst (λ ps. IsIn p (passes_next o k ps)) (sym (inside n within)) a in
            goes_on x code l k (passes n) o (dropped flat n) (sym drops_is) (fields (passes n)) (λ a e. t.knows n o a at e) low p b

        by : (b c : Bool) → IsIn p (if b then (if c then [] else passes_after (slice_get flat.lines n) k (passes_before flat n)) else []) → IsIn p (remembered x (dropped flat n) l o (passes n))
        by false c h = absurd h
        by true true h = absurd h
        by true false h = to_line h

    -- a check that was passed is of this cell
    passed_at : (kind : Kind) (c : Cell) (f : Field) → HasField x code l c f → Knows x k l c → ((g place : ℕ) → place_of k c ≡ Some (in_global g place) → 2 ≤ place) → has_passed k kind (place_of k c) ≡ true → IsPassed x l (passes n) (is_write kind) c
    passed_at kind c f has knows low h = by (place_of k c) refl h
      where
        covered : (by : Kind) (place : SimplePlace) → Covers (is_write by) (is_write kind) → Covers (pass_at by place).write (is_write kind)
        covered by (in_variable v m) h = h
        covered by (in_global g m) h = h

        by : (place : Option SimplePlace) → place_of k c ≡ place → has_passed k kind place ≡ true → IsPassed x l (passes n) (is_write kind) c
        by None e h = absurd (cc)
        by (Some place) e h =
            let w = was_passed flat n kind place h in
            let q = pass_eq x code l k c f has knows w.by place e (λ g m z. low g m (e ∙ ap Some z)) in
            record {
              pass = pass_at w.by place;
              among = subst (IsIn (pass_at w.by place)) (sym (inside n within)) w.among;
              covers = covered w.by place (covers w.by kind w.counted);
              place = (pass_is x code l (is_write w.by) c f has (pass_at w.by place) q).place;
            }

    whole_field : (a : Access) → access o ≡ Some a → (f : Field) × HasField x code l a.cell f
    whole_field a e = fields l.passed a e

  repeats : (n : ℕ) (o : Op) → slice_get flat.lines n ≡ Some o → drops (known flat n) o ≡ true → RepeatsCheck x (label n) (passes n) o
  repeats n (Op.Load i c spot) at d =
      let a : Access = record { kind = Read; cell = c; spot = spot } in
      let f = whole_field n (Op.Load i c spot) at a refl in
      passed_at n (Op.Load i c spot) at Read c f.0 f.1 (t.knows n (Op.Load i c spot) a at refl) (λ g p e. low n (Op.Load i c spot) at a g p refl e) (and_right (tells spot) (has_passed (known flat n) Read (place_of (known flat n) c)) d)
  repeats n (Op.Store i c spot) at d =
      let a : Access = record { kind = Write; cell = c; spot = spot } in
      let f = whole_field n (Op.Store i c spot) at a refl in
      passed_at n (Op.Store i c spot) at Write c f.0 f.1 (t.knows n (Op.Store i c spot) a at refl) (λ g p e. low n (Op.Store i c spot) at a g p refl e) (and_right (tells spot) (has_passed (known flat n) Write (place_of (known flat n) c)) d)
  repeats n o at d = absurd (cc)

  line : (n : ℕ) (o : Op) → slice_get flat.lines n ≡ Some o → TypedLine x code (with_all fl.lines passes) lines (dropped flat n) (fl.replaced n) n (with_passes (label n) (passes n)) (with_passes (label (n + 1)) (passes (n + 1))) o
  line n o at = t.lines n o at (dropped flat n) passes (λ d. repeats n o at (sym (drops_is n o at) ∙ d)) (jumps n o at) (next n o at)

  scoped : (n : ℕ) → n < lines → IsScoped (ints_in code (label n).function) (refs_in code (label n).function) (with_passes (label n) (passes n))
  scoped n lt = let h = t.functions.scoped n lt in record { few = h.few; paths = h.paths; copies = h.copies; bases = h.bases; known = h.known; numbers = h.numbers; passes = λ p v among base. t.variables n p v among base }

  entries : (f : ℕ) → f < length flat.functions → To (with_all fl.lines passes) lines (flat_function flat f).entry (entry_label (with_all fl.lines passes) f)
  entries f lt =
      let pc = (flat_function flat f).entry in
      let h = t.functions.entries f lt in
      let none : passes pc ≡ [] = target_none pc (or_right (is_led_to flat.lines lines pc) (is_entry flat.functions pc) (entry_at flat.functions f lt)) in
      (h.0, subst (λ ps. Less (entry_label fl.lines f) (with_passes (label pc) ps)) (sym none) (less_none (entry_label fl.lines f) (label pc) h.1))

  pub typed : IsTypedFlat x code (dropped flat) (with_checks flat fl) flat
  typed = record {
    targets = t.targets;
    globals = t.globals;
    lines = line;
    functions = record {
      end = ap (λ ps. with_passes (label lines) ps) (past lines (omega arith)) ∙ ap (λ l. with_passes l []) t.functions.end;
      owned = t.functions.owned;
      scoped = scoped;
      entries = entries;
      plain = t.functions.plain;
      starts = λ f e. starts_alike code fl.lines (with_checks flat fl).lines.at f (t.functions.starts f e);
      main = t.functions.main;
      main_is = t.functions.main_is;
      main_number = t.functions.main_number;
    };
  }
