-- What an argument that is not read refers to, a Spawn has given.
use Rattle.sharc_wants_laws.proofs.Imports.{◌≡◌, ◌≢◌, ℕ, zero, suc, pos, ◌+◌, ◌^◌, ◌<◌, Bool, true, false, ◌&&◌, ◌||◌, length, List, [], ◌∷◌, if◌then◌else◌, refl, sym, ap, ◌∙◌, arith, false≢true, nat_tests, get_or as slice_index_or, slice_get, Spawn, SourceEvent, Declaration, Function, declared_kind, is_pointer, functions_in, function_at, Assignment, History, number_of, References, refers, has_pointer, takes_reference, passes, in_argument, is_spawn, is_natural, spawns, Code, Row, function_of, no_function, reference, GlobalCells, Parameter, function_code, parameter_of, rows_of, names_of, Flattens, globals_of, FlatCode, flat_of, entered_at, place, dropped, IsCodeOf, IsGivenTo}
use Rattle.sharc_flat_lemmas.proofs.Laid.{mapped_same, rows_same}

-- ---- what the function of a row takes
takes_first : (ds : List Declaration) → parameter_of ds ≡ Parameter.Reference → takes_reference ds ≡ true
takes_first [] e = absurd (let z : Parameter.None ≡ Parameter.Reference = e in cc)
takes_first (d ∷ rest) e = by (is_pointer (declared_kind d.written)) e
  where
    by : (b : Bool) → (if b || false then Parameter.Reference else Parameter.Int) ≡ Parameter.Reference → b ≡ true
    by true q = refl
    by false q = absurd (let z : Parameter.Int ≡ Parameter.Reference = q in cc)

row_reference : (m : Assignment) (globals : List GlobalCells) (pc : ℕ) (fs : List Function) (n : ℕ) → (slice_index_or (rows_of m globals pc fs) n no_function).parameter ≡ Parameter.Reference → has_pointer (slice_get fs n) ≡ true
row_reference m globals pc [] n e = absurd (let z : Parameter.None ≡ Parameter.Reference = e in cc)
row_reference m globals pc (f ∷ rest) zero e = takes_first f.parameters e
row_reference m globals pc (f ∷ rest) (suc n) e = row_reference m globals (pc + length (function_code m globals pc f)) rest n e

row_parameter : (m : Assignment) (flat : FlatCode) → Flattens m flat → (code : Code) → IsCodeOf flat code → (f : ℕ)
    → (function_of code f).parameter ≡ (slice_index_or (rows_of m (globals_of m.typed) 0 (functions_in m.typed.program.items)) f no_function).parameter
row_parameter m flat made code is f =
    let fs = functions_in m.typed.program.items in
    let gs = globals_of m.typed in
    let pl = place (dropped (flat_of flat)) flat.lines.items in
    ap (λ v. (slice_index_or v.items f no_function).parameter) is.generated.functions
    ∙ ap (λ (rows : List Row). (slice_index_or rows f no_function).parameter) is.made.functions ∙ mapped_same (λ row. row.parameter) (entered_at pl) (λ row. refl) flat.functions.items f
    ∙ rows_same (λ row. row.parameter) (λ row name. refl) flat.texts.items (rows_of m gs 0 fs) (names_of fs) flat.functions.items made.functions f

takes_pointer : (m : Assignment) (flat : FlatCode) → Flattens m flat → (code : Code) → IsCodeOf flat code → (f : ℕ) → (function_of code f).parameter ≡ Parameter.Reference → has_pointer (function_at m.typed f) ≡ true
takes_pointer m flat made code is f e = row_reference m (globals_of m.typed) 0 (functions_in m.typed.program.items) f (sym (row_parameter m flat made code is f) ∙ e)

-- the other way round
first_taken : (ds : List Declaration) → takes_reference ds ≡ true → parameter_of ds ≡ Parameter.Reference
first_taken [] e = absurd (false≢true e)
first_taken (d ∷ rest) e = ap (λ b. if b || false then Parameter.Reference else Parameter.Int) e

row_pointer : (m : Assignment) (globals : List GlobalCells) (pc : ℕ) (fs : List Function) (n : ℕ) → has_pointer (slice_get fs n) ≡ true → (slice_index_or (rows_of m globals pc fs) n no_function).parameter ≡ Parameter.Reference
row_pointer m globals pc [] n e = absurd (false≢true e)
row_pointer m globals pc (f ∷ rest) zero e = first_taken f.parameters e
row_pointer m globals pc (f ∷ rest) (suc n) e = row_pointer m globals (pc + length (function_code m globals pc f)) rest n e

pub pointer_taken : (m : Assignment) (flat : FlatCode) → Flattens m flat → (code : Code) → IsCodeOf flat code → (f : ℕ) → has_pointer (function_at m.typed f) ≡ true → (function_of code f).parameter ≡ Parameter.Reference
pointer_taken m flat made code is f e = row_parameter m flat made code is f ∙ row_pointer m (globals_of m.typed) 0 (functions_in m.typed.program.items) f e

-- ---- the Spawn
number_back : (n e : ℕ) → n ≢ 0 → n < 2 ^ 32 → refers n (reference n e) ≡ true
number_back zero e nz lt = absurd (nz refl)
number_back (suc n) e nz lt =
    let k : number_of (reference (suc n) e) ≡ suc n = omega arith in
    grind (arith, nat_tests)

natural_is : (n : ℕ) → is_natural n (pos n) ≡ true
natural_is n = grind (arith, nat_tests)

pub argument_seen : (m : Assignment) (flat : FlatCode) → Flattens m flat → (code : Code) → IsCodeOf flat code → (R : History) (u o : ℕ) → o ≢ 0 → IsGivenTo code R u o → References m R o (in_argument u)
argument_seen m flat made code is R u o nz k =
    let h = k.spawned.spawned in
    record { unread = k.unread; spawned = (h.0, h.1, h.2, h.3, gives h.1 h.4) }
  where
    gives : (e : SourceEvent) → (e.act ≡ Spawn k.function (reference o k.elements)) × (e.answer ≡ pos u) → (spawns u e ≡ true) × (passes m.typed o e.act ≡ true)
    gives e h = (
      ap (λ a. is_spawn a && is_natural u e.answer) h.0 ∙ ap (is_natural u) h.1 ∙ natural_is u,
      ap (passes m.typed o) h.0 ∙ ap (λ b. b && refers o (reference o k.elements)) (takes_pointer m flat made code is k.function k.takes) ∙ number_back o k.elements nz k.number,
    )
