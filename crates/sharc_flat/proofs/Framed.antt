-- Flattened code is framed: each line writes in the frame of its function and leads to lines of it.
use Rattle.sharc_flat.proofs.{Imports.{rules, same_some, none_some, front_got, ◌≡◌, ℕ, zero, suc, ◌+◌, ◌-◌, ◌*◌, ◌^◌, ◌<◌, ◌≤◌, Bool, true, false, cond, List, [], ◌∷◌, ◌++◌, length, map, max, get_or, Some, refl, sym, ap, ◌∙◌, subst, arith, length-append, nat_lt, nat_tests, slice_get, Declaration, Function, is_pointer, declared_kind, Row, Cell, Register, no_function, Width, GlobalCells, Parameter, function_at, functions_in, Assignment, Op, Spot, Flat, function_of, BaseWithin, HandedWithin, HasParameter, OpWrites, InLine, OpLeads, IsFramedAt, IsFramed, IsWide, Leads, IsFlat, FitsFrames, int_count, ref_count, slot_of, at_site, int_need, ref_need, base_need, handed_need, ints_in, refs_in, IsRow, AreRows, IsFlattened, parameter_of, function_code, functions_code, in_function, ProgramSuits, inside_list}, Declaring.declared_reference, Staying.{Wide, OpStays, Stays}, Keeping.{InLoopsAll, front, front_is, function_keeps}, Knowing.all_loops}

-- ---- lists
get_right : (xs ys : List Op) (j : ℕ) → slice_get (xs ++ ys) (length xs + j) ≡ slice_get ys j
get_right [] ys j = let e : 0 + j ≡ j = omega arith in ap (slice_get ys) e
get_right (x ∷ xs) ys j = let e : length (x ∷ xs) + j ≡ suc (length xs + j) = omega arith in ap (slice_get (x ∷ (xs ++ ys))) e ∙ get_right xs ys j

record Stands (A Fn : ℕ → Type 0) (os : List Op) (j : ℕ) (o : Op) : Type 0 where
  rest : ℕ
  count : j + 1 + rest ≡ length os
  stays : OpStays A Fn rest o

stands : (A Fn : ℕ → Type 0) (os : List Op) (j : ℕ) (o : Op) → Stays A Fn os → slice_get os j ≡ Some o → Stands A Fn os j o
stands A Fn [] j o s e = absurd (cc)
stands A Fn (x ∷ os) zero o s e = let same : x ≡ o = cc in record { rest = length os; count = omega arith; stays = subst (OpStays A Fn (length os)) same s.0 }
stands A Fn (x ∷ os) (suc j) o s e = let w = stands A Fn os j o s.1 e in let n = w.count in record { rest = w.rest; count = omega arith; stays = w.stays }

int_small : (os : List Op) (j : ℕ) (o : Op) → slice_get os j ≡ Some o → int_need o ≤ ints_in os
int_small [] j o e = absurd (cc)
int_small (x ∷ os) zero o e = let same : x ≡ o = cc in subst (λ o. int_need o ≤ max (int_need x) (ints_in os)) same (omega arith)
int_small (x ∷ os) (suc j) o e = let le = int_small os j o e in omega arith

ref_small : (os : List Op) (j : ℕ) (o : Op) → slice_get os j ≡ Some o → ref_need o ≤ refs_in os
ref_small [] j o e = absurd (cc)
ref_small (x ∷ os) zero o e = let same : x ≡ o = cc in subst (λ o. ref_need o ≤ max (ref_need x) (refs_in os)) same (omega arith)
ref_small (x ∷ os) (suc j) o e = let le = ref_small os j o e in omega arith

-- ---- what an operation writes, and where it leads
base_within : (refs : ℕ) (cell : Cell) → base_need cell ≤ refs → BaseWithin refs cell
base_within refs (Cell.Object r n) le = omega arith
base_within refs (Cell.ObjectAt r i) le = omega arith
base_within refs _ le = tt

handed_within : (refs : ℕ) (from : Register) → handed_need from ≤ refs → HandedWithin refs from
handed_within refs (Register.Int i) le = tt
handed_within refs (Register.Reference r) le = omega arith

writes : (I R : ℕ) (o : Op) → int_need o ≤ I → ref_need o ≤ R → ((i elements cells field : ℕ) (spot : Spot) → o ≡ Op.GlobalBounds i elements cells field spot → elements * cells + field < 2 ^ 63) → OpWrites I R o
writes I R (Op.GlobalBounds a b c d e) p q few = (omega arith, few a b c d e refl)
writes I R (Op.Lock a b) p q few = base_within R a q
writes I R (Op.Spawn a b c d) p q few = (omega arith, handed_within R c q)
writes I R _ p q few = search rules

leads : (A Fn : ℕ → Type 0) (flat : Flat) (owner : ℕ → ℕ) (n rest : ℕ) (o : Op) → OpStays A Fn rest o → ((k : ℕ) → k ≤ rest → InLine flat owner (owner n) (n + 1 + k)) → ((q : ℕ) → A q → InLine flat owner (owner n) q) → InLine flat owner (owner n) (n + 1)
    → ((f : ℕ) → Fn f → f < length flat.functions) → OpLeads flat owner n o
leads A Fn flat owner n rest (Op.Skip a) s over at next calls = over a s
leads A Fn flat owner n rest (Op.SkipIfZero a b) s over at next calls = (over b s, next)
leads A Fn flat owner n rest (Op.SkipIfNull a b) s over at next calls = (over b s, next)
leads A Fn flat owner n rest (Op.Jump a) s over at next calls = at a s
leads A Fn flat owner n rest (Op.Call a b c d) s over at next calls = (calls a s, next)
leads A Fn flat owner n rest (Op.Return a) s over at next calls = tt
leads A Fn flat owner n rest _ s over at next calls = next

wide_is : (w : Width) → Wide w → IsWide w
wide_is Width.Char h = h
wide_is _ h = tt

flat_leads : (A Fn : ℕ → Type 0) (flat : Flat) (owner : ℕ → ℕ) (n rest : ℕ) (o : Op) → OpStays A Fn rest o → OpLeads flat owner n o → Leads flat n o
flat_leads A Fn flat owner n rest (Op.Compute a b c d e f) s l = (wide_is a s, l.inside)
flat_leads A Fn flat owner n rest (Op.Negate a b c d) s l = (wide_is a s, l.inside)
flat_leads A Fn flat owner n rest (Op.SkipIfZero a b) s l = (l.0.inside, l.1.inside)
flat_leads A Fn flat owner n rest (Op.SkipIfNull a b) s l = (l.0.inside, l.1.inside)
flat_leads A Fn flat owner n rest (Op.Call a b c d) s l = (l.0, l.1.inside)
flat_leads A Fn flat owner n rest (Op.Return a) s l = tt
flat_leads A Fn flat owner n rest (Op.Settle a b) s l = (s, l.inside)
flat_leads A Fn flat owner n rest _ s l = l.inside

parameter_by : (row : Row) (b : Bool) (n r : ℕ) → cond b n (n + 1) ≤ row.ints → cond b (r + 1) r ≤ row.refs → HasParameter row (cond b Parameter.Reference Parameter.Int)
parameter_by row true n r p q = omega arith
parameter_by row false n r p q = omega arith

has_parameter : (row : Row) (ds : List Declaration) → int_count (map slot_of ds) ≤ row.ints → ref_count (map slot_of ds) ≤ row.refs → HasParameter row (parameter_of ds)
has_parameter row [] p q = tt
has_parameter row (d ∷ rest) p q = subst (λ b. HasParameter row (cond b Parameter.Reference Parameter.Int)) (sym (declared_reference d.written)) (parameter_by row (is_pointer (declared_kind d.written)) (int_count (map slot_of rest)) (ref_count (map slot_of rest)) p q)

-- ---- the functions one after the other
module _ (Fn : ℕ → Type 0) (m : Assignment) (globals : List GlobalCells) where
  abbrev code : ℕ → Function → List Op
  code = function_code m globals

  abbrev owner_from : ℕ → ℕ → List Function → ℕ → ℕ
  owner_from k pc [] n = k
  owner_from k pc (f ∷ fs) n = cond (nat_lt n (pc + length (code pc f))) k (owner_from (k + 1) (pc + length (code pc f)) fs n)

  abbrev AllLoop : List Function → Type 0
  AllLoop fs = (f : ℕ) (fn : Function) → slice_get fs f ≡ Some fn → InLoopsAll Fn m.typed false fn.statements

  record RowAt (k pc : ℕ) (fs : List Function) (rows : List Row) (d : ℕ) : Type 0 where
    function : Function
    begin : ℕ
    is : IsRow m globals begin function (get_or rows d no_function)
    loop : InLoopsAll Fn m.typed false function.statements
    behind : pc ≤ begin
    inside : begin + length (code begin function) ≤ pc + length (functions_code m globals pc fs)
    owned : (q : ℕ) → begin ≤ q → q < begin + length (code begin function) → owner_from k pc fs q ≡ k + d

  first_row : (k pc : ℕ) (f : Function) (fs : List Function) (row : Row) (rows : List Row) → IsRow m globals pc f row → InLoopsAll Fn m.typed false f.statements → RowAt k pc (f ∷ fs) (row ∷ rows) zero
  first_row k pc f fs row rows is l = record {
    function = f;
    begin = pc;
    is = is;
    loop = l;
    behind = omega arith;
    inside = omega (arith, length-append (code pc f) (functions_code m globals (pc + length (code pc f)) fs));
    owned = λ q low high. let e : nat_lt q (pc + length (code pc f)) ≡ true = grind (arith, nat_tests, high) in let z : k ≡ k + zero = omega arith in ap (λ b. cond b k (owner_from (k + 1) (pc + length (code pc f)) fs q)) e ∙ z;
  }

  later_row : (k pc : ℕ) (f : Function) (fs : List Function) (row : Row) (rows : List Row) (d : ℕ) → RowAt (k + 1) (pc + length (code pc f)) fs rows d → RowAt k pc (f ∷ fs) (row ∷ rows) (suc d)
  later_row k pc f fs row rows d w =
      let behind = w.behind in
      let inside = w.inside in
      record {
        function = w.function;
        begin = w.begin;
        is = w.is;
        loop = w.loop;
        behind = omega (arith, behind);
        inside = omega (arith, inside, length-append (code pc f) (functions_code m globals (pc + length (code pc f)) fs));
        owned = λ q low high. let e : nat_lt q (pc + length (code pc f)) ≡ false = grind (arith, nat_tests, behind, low) in let z : k + 1 + d ≡ k + suc d = omega arith in ap (λ b. cond b k (owner_from (k + 1) (pc + length (code pc f)) fs q)) e ∙ w.owned q low high ∙ z;
      }

  row_at : (k pc : ℕ) (fs : List Function) (rows : List Row) → AreRows m globals pc fs rows → AllLoop fs → (d : ℕ) → d < length rows → RowAt k pc fs rows d
  row_at k pc [] rows are l d lt = absurd (let e = ap length are in omega arith)
  row_at k pc (f ∷ fs) [] are l d lt = absurd are
  row_at k pc (f ∷ fs) (row ∷ rows) are l zero lt = first_row k pc f fs row rows are.0 (l zero f refl)
  row_at k pc (f ∷ fs) (row ∷ rows) are l (suc d) lt = later_row k pc f fs row rows d (row_at (k + 1) (pc + length (code pc f)) fs rows are.1 (λ g fn e. l (suc g) fn e) d (omega arith))

  record FoundAt (k pc : ℕ) (fs : List Function) (rows : List Row) (n : ℕ) (o : Op) : Type 0 where
    number : ℕ
    row : RowAt k pc fs rows number
    place : ℕ
    place_is : n ≡ row.begin + place
    at : slice_get (code row.begin row.function) place ≡ Some o

  -- the function of a line
  finds : (k pc : ℕ) (fs : List Function) (rows : List Row) → AreRows m globals pc fs rows → AllLoop fs → (j : ℕ) (o : Op) → slice_get (functions_code m globals pc fs) j ≡ Some o → FoundAt k pc fs rows (pc + j) o
  unfolding later_row first_row
  finds k pc [] rows are l j o at = absurd (cc)
  finds k pc (f ∷ fs) [] are l j o at = absurd are
  finds k pc (f ∷ fs) (row ∷ rows) are l j o at = by (nat_lt j (length C)) refl (finds (k + 1) (pc + length C) fs rows are.1 (λ g fn e. l (suc g) fn e) (j - length C) o)
    where
      C : List Op
      C = function_code m globals pc f

      R : List Op
      R = functions_code m globals (pc + length C) fs

      by : (b : Bool) → nat_lt j (length C) ≡ b → (slice_get R (j - length C) ≡ Some o → FoundAt (k + 1) (pc + length C) fs rows (pc + length C + (j - length C)) o) → FoundAt k pc (f ∷ fs) (row ∷ rows) (pc + j) o
      by true e ih =
          let lt : j < length C = grind (arith, nat_tests, e) in
          record { number = zero; row = first_row k pc f fs row rows are.0 (l zero f refl); place = j; place_is = refl; at = sym (front_got C R j lt) ∙ at }
      by false e ih =
          let ge : length C ≤ j = grind (arith, nat_tests, e) in
          let z : length C + (j - length C) ≡ j = omega arith in
          let w = ih (sym (get_right C R (j - length C)) ∙ ap (slice_get (C ++ R)) z ∙ at) in
          let y : pc + j ≡ pc + length C + (j - length C) = omega arith in
          record { number = suc w.number; row = later_row k pc f fs row rows w.number w.row; place = w.place; place_is = y ∙ w.place_is; at = w.at }

-- ---- the whole
module _ (m : Assignment) (flat : Flat) (is : IsFlattened m flat) (loops : (f : ℕ) (fn : Function) → function_at m.typed f ≡ Some fn → InLoopsAll (λ g. g < length flat.functions) m.typed false fn.statements) (fits : FitsFrames flat) where
  abbrev Fn : ℕ → Type 0
  Fn g = g < length flat.functions

  abbrev T : (List GlobalCells)
  T = flat.globals

  abbrev fs : List Function
  fs = functions_in m.typed.program.items

  abbrev owner : ℕ → ℕ
  owner = owner_from Fn m T 0 0 fs

  lines_length : length (functions_code m T 0 fs) ≡ length flat.lines
  lines_length = ap length (sym is.lines)

  in_line : (d : ℕ) (row : RowAt Fn m T 0 0 fs flat.functions d) (q : ℕ) → row.begin ≤ q → q < row.begin + length (function_code m T row.begin row.function) → InLine flat owner d q
  in_line d row q low high =
      let inside = row.inside in
      let z : 0 + d ≡ d = omega arith in
      record { inside = omega (arith, inside, lines_length); owned = row.owned q low high ∙ z }

  entry_of : (f : ℕ) → f < length flat.functions → InLine flat owner f (function_of flat f).entry × HasParameter (function_of flat f) (function_of flat f).parameter
  entry_of f lt =
      let row = row_at Fn m T 0 0 fs flat.functions is.functions loops f lt in
      let fn = row.function in
      let some = ap length (front_is m T row.begin fn) ∙ length-append (front m T row.begin fn) (Op.Return (at_site fn.body.last) ∷ []) in
      let ints = row.is.ints in
      let refs = row.is.refs in (
        subst (InLine flat owner f) (sym row.is.entry) (in_line f row row.begin (omega arith) (omega (arith, some))),
        subst (HasParameter (function_of flat f)) (sym row.is.parameter) (has_parameter (function_of flat f) fn.parameters (omega (arith, ints)) (omega (arith, refs))),
      )

  line_is : (n : ℕ) (o : Op) → slice_get flat.lines n ≡ Some o → IsFramedAt flat owner n o × Leads flat n o
  line_is n o at = by (nat_lt w.place (length F)) refl
    where
      z0 : 0 + n ≡ n
      z0 = omega arith

      w : FoundAt Fn m T 0 0 fs flat.functions (0 + n) o
      w = finds Fn m T 0 0 fs flat.functions is.functions loops n o (ap (λ l. slice_get l n) (sym is.lines) ∙ at)

      fn : Function
      fn = w.row.function

      F : List Op
      F = front m T w.row.begin fn

      R : List Op
      R = Op.Return (at_site fn.body.last) ∷ []

      C : List Op
      C = function_code m T w.row.begin fn

      n_is : n ≡ w.row.begin + w.place
      n_is = sym z0 ∙ w.place_is

      count : length C ≡ length F + 1
      count = ap length (front_is m T w.row.begin fn) ∙ length-append F R

      get_in : slice_get (F ++ R) w.place ≡ Some o
      get_in = ap (λ l. slice_get l w.place) (sym (front_is m T w.row.begin fn)) ∙ w.at

      A : ℕ → Type 0
      A q = (w.row.begin ≤ q) × (q < w.row.begin + length F)

      framed_at : w.place < length C → OpLeads flat owner n o → IsFramedAt flat owner n o
      framed_at lt l =
          let d_is : owner n ≡ w.number = (in_line w.number w.row n (omega (arith, n_is)) (omega (arith, n_is))).owned in
          let ints = w.row.is.ints in
          let refs = w.row.is.refs in
          let i = int_small C w.place o w.at in
          let r = ref_small C w.place o w.at in
          record {
            writes = subst (λ d. OpWrites (function_of flat d).ints (function_of flat d).refs o) (sym d_is)
                (writes (function_of flat w.number).ints (function_of flat w.number).refs o (omega (arith, ints, i)) (omega (arith, refs, r)) (λ i elements cells field spot e. fits.few_cells n i elements cells field spot (at ∙ ap Some e)));
            leads = l;
          }

      by : (b : Bool) → nat_lt w.place (length F) ≡ b → IsFramedAt flat owner n o × Leads flat n o
      by true e =
          let lt : w.place < length F = grind (arith, nat_tests, e) in
          let s = stands A Fn F w.place o (function_keeps A Fn m T w.row.begin fn w.row.loop (λ q a b. (a, b))) (sym (front_got F R w.place lt) ∙ get_in) in
          let sc = s.count in
          let d_is : owner n ≡ w.number = (in_line w.number w.row n (omega (arith, n_is)) (omega (arith, n_is, count))).owned in
          let to : (q : ℕ) → w.row.begin ≤ q → q < w.row.begin + length C → InLine flat owner (owner n) q = λ q a b. subst (λ d. InLine flat owner d q) (sym d_is) (in_line w.number w.row q a b) in
          let l = (leads A Fn flat owner n s.rest o s.stays (λ k le. to (n + 1 + k) (omega (arith, n_is)) (omega (arith, n_is, count, sc))) (λ q h. let h0 = h.0 in let h1 = h.1 in to q h0 (omega (arith, count, h1))) (to (n + 1) (omega (arith, n_is)) (omega (arith, n_is, count)))
          (λ f h. h)) in
          (framed_at (omega (arith, count)) l, flat_leads A Fn flat owner n s.rest o s.stays l)
      by false e = last (w.place - length F) (let ge : length F ≤ w.place = grind (arith, nat_tests, e) in let z : w.place ≡ length F + (w.place - length F) = omega arith in z)
        where
          last : (j : ℕ) → w.place ≡ length F + j → IsFramedAt flat owner n o × Leads flat n o
          last zero z =
              let same : Op.Return (at_site fn.body.last) ≡ o = same_some (Op.Return (at_site fn.body.last)) o (sym (get_right F R zero) ∙ ap (slice_get (F ++ R)) (sym z) ∙ get_in) in
              (framed_at (omega (arith, count, z)) (subst (OpLeads flat owner n) same tt), subst (Leads flat n) same tt)
          last (suc j) z = absurd (none_some _ (sym (get_right F R (suc j)) ∙ ap (slice_get (F ++ R)) (sym z) ∙ get_in))

  pub framed : IsFramed flat
  framed = record { owner = owner; entries = entry_of; each = λ n o at. (line_is n o at).0; few_ints = fits.few_ints; few_refs = fits.few_refs; apart = fits.apart }

  pub is_flat : IsFlat flat
  is_flat = record { entries = λ f lt. (entry_of f lt).0.inside; each = λ n o at. (line_is n o at).1 }

rows_as_many : (m : Assignment) (globals : List GlobalCells) (pc : ℕ) (functions : List Function) (rows : List Row) → AreRows m globals pc functions rows → length functions ≡ length rows
rows_as_many m globals pc [] [] are = refl
rows_as_many m globals pc [] (row ∷ rows) are = absurd (let e = ap length are in omega arith)
rows_as_many m globals pc (f ∷ rest) [] are = absurd are
rows_as_many m globals pc (f ∷ rest) (row ∷ rows) are = ap suc (rows_as_many m globals (pc + length (function_code m globals pc f)) rest rows are.1)

pub flattened_is_framed : (m : Assignment) → ProgramSuits m → (flat : Flat) → IsFlattened m flat → FitsFrames flat → IsFlat flat × IsFramed flat
flattened_is_framed m suits flat is fits =
    let many = rows_as_many m flat.globals 0 (functions_in m.typed.program.items) flat.functions is.functions in
    let known : (n : ℕ) (f : Function) → function_at m.typed n ≡ Some f → n < length flat.functions = λ n f at. let lt = inside_list (functions_in m.typed.program.items) n f at in omega (arith, lt, many) in
    let loops : (f : ℕ) (fn : Function) → function_at m.typed f ≡ Some fn → InLoopsAll (λ g. g < length flat.functions) m.typed false fn.statements =
    λ f fn at. all_loops (λ g. g < length flat.functions) (in_function m flat.globals fn) known (declared_kind fn.result) false fn.statements (suits flat.globals f fn at) in
    (is_flat m flat is loops fits, framed m flat is loops fits)
