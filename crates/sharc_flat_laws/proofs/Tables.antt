-- What flattened code spawns, where it waits, and its tables.
use Rattle.sharc_flat_laws.proofs.{Imports.{◌≡◌, ℕ, zero, suc, ◌+◌, ◌^◌, ◌<◌, ◌≤◌, List, [], ◌∷◌, length, Option, Some, refl, sym, ap, ◌∙◌, subst, arith, slice_get, Contains-append_right, IsSomeAnd, slice_index, AllByRecursion, Contains, expressions_in, Expression, spawn, Function, Named, Row, GlobalCells, GlobalsFit, of_all, spawns, Resolution, function_at, functions_in, globals_in, named_at, MeetsGlobals, SpawnsByName, SpawnsNameFunctions, SpawnsThreads, WithinLimits, number_named, Assignment, Op, functions_code, rows_of, function_code, names_of, AreNamed, globals_of, SpawnMeets, IsSpawned, MadeSpawns, MadeTablesFit, inside}, Spawning.{AllMeet, functions_meet}, Words.{words, globals_fit}}
use Rattle.sharc_flat_laws.specs.Tables.{AllWait, MadeIsPast, MadeWaits, NamesGlobal, OpPast}

-- ---- lists
named_count : (bytes : List ℕ) (told : List Row) (names : List (List ℕ)) (made : List Row) → AreNamed bytes told names made → length made ≡ length told
named_count bytes [] [] [] h = refl
named_count bytes (x ∷ xs) (n ∷ ns) (y ∷ ys) h = ap suc (named_count bytes xs ns ys h.1)
named_count bytes _ _ _ h = absurd h

row_count : (m : Assignment) (globals : List GlobalCells) (pc : ℕ) (fs : List Function) → length (rows_of m globals pc fs) ≡ length fs
row_count m globals pc [] = refl
row_count m globals pc (f ∷ rest) = ap suc (row_count m globals (pc + length (function_code m globals pc f)) rest)

-- ---- what all operations meet
module _ (Q L : ℕ → Type 0) where
  all_spawn : (os : List Op) → AllMeet Q L os → AllByRecursion (SpawnMeets Q) os
  all_spawn [] h = tt
  all_spawn (Op.Spawn i f from spot ∷ os) h = (h.0, all_spawn os h.1)
  all_spawn (_ ∷ os) h = (tt, all_spawn os h.1)

  all_wait : (os : List Op) → AllMeet Q L os → AllWait os
  all_wait [] h = tt
  all_wait (Op.CondEnter c spot ∷ os) h = (h.0, all_wait os h.1)
  all_wait (_ ∷ os) h = (tt, all_wait os h.1)

  all_past : ((n : ℕ) → L n → 2 ≤ n) → (os : List Op) → AllMeet Q L os → AllByRecursion OpPast os
  all_past low [] h = tt
  all_past low (Op.GlobalBounds i elements cells field spot ∷ os) h = (low field h.0, all_past low os h.1)
  all_past low (_ ∷ os) h = (tt, all_past low os h.1)

meets_at : (Q : ℕ → Type 0) (lines : List Op) (n : ℕ) (o : Op) → AllByRecursion (SpawnMeets Q) lines → slice_get lines n ≡ Some o → SpawnMeets Q o
meets_at Q [] n o h e = absurd (cc)
meets_at Q (x ∷ lines) zero o h e = let s : x ≡ o = cc in subst (SpawnMeets Q) s h.0
meets_at Q (x ∷ lines) (suc n) o h e = meets_at Q lines n o h.1 e

-- ---- what the expressions of each function spawn
abbrev SpawnsOne : (ℕ → Type 0) → Resolution → Expression → Type 0
SpawnsOne Q r (spawn s f a) = Q (number_named (named_at r f.site.token))
SpawnsOne Q r _ = Unit {0}

module _ (r : Resolution) where
  each_named : (es : List Expression) → AllByRecursion (SpawnsByName r) es → ((token k : ℕ) → Contains (of_all spawns es) token → named_at r token ≡ Named.Function k → IsSpawned r k) → AllByRecursion (SpawnsOne (IsSpawned r) r) es
  each_named [] all h = tt
  each_named (spawn s f a ∷ es) all h = (
    subst (λ what. IsSpawned r (number_named what)) (sym all.0.1) (h f.site.token all.0.0 (0, omega arith, refl) all.0.1),
    each_named es all.1 (λ token k has e. h token k (Contains-append_right (f.site.token ∷ []) (of_all spawns es) token has) e),
  )
  each_named (_ ∷ es) all h = (tt, each_named es all.1 h)

  each_from : (fs : List Function) (k : ℕ) → ((n : ℕ) (f : Function) → slice_get fs n ≡ Some f → function_at r (k + n) ≡ Some f) → AllByRecursion (λ f. AllByRecursion (SpawnsByName r) (expressions_in f)) fs
      → AllByRecursion (λ f. AllByRecursion (SpawnsOne (IsSpawned r) r) (expressions_in f)) fs
  each_from [] k h all = tt
  each_from (f ∷ rest) k h all = (
    each_named (expressions_in f) all.0 (λ token j has e. (k + 0, subst (λ (o : Option Function). IsSomeAnd o (λ f. (t : ℕ) × Contains (of_all spawns (expressions_in f)) t × (named_at r t ≡ Named.Function j))) (sym (h 0 f refl)) (token, has, e))),
    each_from rest (k + 1) (λ n g e. let z : k + suc n ≡ k + 1 + n = omega arith in ap (function_at r) (sym z) ∙ h (suc n) g e) all.1,
  )

-- ---- all together
pub made_spawns : SpawnsNameFunctions → MadeSpawns
made_spawns law m resolved placed low code made =
    let r = m.typed in
    let fs = functions_in r.program.items in
    let gs = globals_of r in
    let named_all = each_from r fs 0 (λ n f e. let z : 0 + n ≡ n = omega arith in ap (function_at r) z ∙ e) (law r resolved placed low) in
    subst (AllByRecursion (SpawnMeets (IsSpawned r))) (sym made.lines) (all_spawn (IsSpawned r) (λ n. Unit {0}) (functions_code m gs 0 fs)
    (functions_meet (IsSpawned r) (λ n. Unit {0}) (SpawnsOne (IsSpawned r)) (λ q s f a h. h) m gs 0 fs (λ f a h e n. tt) named_all))

pub made_waits : MadeWaits
made_waits m code made =
    let any : ℕ → Type 0 = λ n. Unit {0} in
    let fs = functions_in m.typed.program.items in
    let gs = globals_of m.typed in
    subst AllWait (sym made.lines) (all_wait any any (functions_code m gs 0 fs) (functions_meet any any (λ r e. Unit {0}) (λ r s f a h. tt) m gs 0 fs (λ f a h e n. tt) (all_any fs)))
  where
    each_any : (es : List Expression) → AllByRecursion (λ e. Unit {0}) es
    each_any [] = tt
    each_any (e ∷ es) = (tt, each_any es)

    all_any : (fs : List Function) → AllByRecursion (λ f. AllByRecursion (λ e. Unit {0}) (expressions_in f)) fs
    all_any [] = tt
    all_any (f ∷ rest) = (each_any (expressions_in f), all_any rest)

pub made_is_past : MadeIsPast
made_is_past m there past code made =
    let any : ℕ → Type 0 = λ n. Unit {0} in
    let low : ℕ → Type 0 = λ n. 2 ≤ n in
    let fs = functions_in m.typed.program.items in
    let gs = globals_of m.typed in
    subst (AllByRecursion OpPast) (sym made.lines) (all_past any low (λ n h. h) (functions_code m gs 0 fs)
    (functions_meet any low NamesGlobal (λ r s f a h. tt) m gs 0 fs (λ f a h e n. let le = past a h e in omega (arith, le)) there))

pub fits : WithinLimits → MeetsGlobals → SpawnsThreads → MadeSpawns → MadeTablesFit
fits limits globals_meet threads spawned m resolved placed low code made =
    let r = m.typed in
    let fs = functions_in r.program.items in
    let gs = globals_of r in
    let count : length code.functions.items ≡ length fs = named_count code.texts.items (rows_of m gs 0 fs) (names_of fs) code.functions.items made.functions ∙ row_count m gs 0 fs in
    let few = (limits r.program resolved.typed).functions in
    let main = inside fs code.main made.main.0 made.main.1 in
    let thread : (function : ℕ) → IsSpawned r function → function < length fs = λ function by. let t = threads r resolved placed low by.0 function by.1 in inside fs function t.0 t.1.callable.at in
    record {
      functions = omega arith;
      main = omega arith;
      globals = subst (λ (xs : List GlobalCells). GlobalsFit xs code.granules) (sym made.globals)
          (subst (GlobalsFit gs) (sym made.granules) (globals_fit r (globals_in r.program.items)));
      words = λ j. subst (λ (xs : List ℕ). slice_index xs j < 2 ^ 64) (sym made.initial) (words r (globals_in r.program.items) (globals_meet r.program resolved.typed) j);
      spawned = λ n to function from spot e. subst (λ k. function < k) (sym count)
          (thread function (meets_at (IsSpawned r) code.lines.items n (Op.Spawn to function from spot) (spawned m resolved placed low code made) e));
    }
