-- So it is in the code that is made of flat code.
use Rattle.sharc_wants_laws.proofs.{Imports.{◌≡◌, ℕ, zero, suc, ◌+◌, Bool, true, false, List, [], ◌∷◌, ◌++◌, map, refl, sym, ap, ◌∙◌, subst, arith, map-append, get_or as slice_index_or, Row as Function, PlaceMode, Private, Racy, Dynamic, Cell, Operator, Width, Int, Instr, Op, Spot, flat_of, instr_of, generated, check_under, compute, negate, expand, expanded, place, dropped, CodeWaits}}
use Rattle.sharc_code.specs.declared.code.PlaceMode.TheVariants.{Readonly}
use Rattle.sharc_flat_laws.specs.Tables.{AllWait, IsEntered, MadeWaits}

-- a mutex is unlocked, and then the thread waits at the cell
record IsNext (c : Cell) (is : List Instr) : Type 0 where
  register : ℕ
  mutex : Cell
  unlock_site : ℕ
  wait_site : ℕ
  rest : List Instr
  is_so : is ≡ Instr.Unlock register mutex unlock_site ∷ Instr.CondWait c wait_site ∷ rest

abbrev IsEnteredBy : Instr → List Instr → Type 0
IsEnteredBy (Instr.CondEnter c site) is = IsNext c is
IsEnteredBy _ is = Unit {0}

abbrev AllNext : List Instr → Type 0
AllNext [] = Unit {0}
AllNext (i ∷ is) = IsEnteredBy i is × AllNext is

record IsNextAt (is : List Instr) (j : ℕ) (c : Cell) : Type 0 where
  register : ℕ
  mutex : Cell
  unlock_site : ℕ
  wait_site : ℕ
  unlocks : slice_index_or is (j + 1) Instr.Exit ≡ Instr.Unlock register mutex unlock_site
  waits : slice_index_or is (j + 1 + 1) Instr.Exit ≡ Instr.CondWait c wait_site

next_at : (is : List Instr) → AllNext is → (j site : ℕ) (c : Cell) → slice_index_or is j Instr.Exit ≡ Instr.CondEnter c site → IsNextAt is j c
next_at [] h j site c e = absurd (let z : Instr.Exit ≡ Instr.CondEnter c site = e in cc)
next_at (i ∷ is) h zero site c e =
    let n : IsNext c is = subst (λ i. IsEnteredBy i is) e h.0 in
    record {
      register = n.register;
      mutex = n.mutex;
      unlock_site = n.unlock_site;
      wait_site = n.wait_site;
      unlocks = ap (λ is. slice_index_or is 0 Instr.Exit) n.is_so;
      waits = ap (λ is. slice_index_or is 1 Instr.Exit) n.is_so;
    }
next_at (i ∷ is) h (suc j) site c e =
    let n = next_at is h.1 j site c e in
    let a : suc (j + 1) ≡ suc j + 1 = omega arith in
    let b : suc (j + 1 + 1) ≡ suc j + 1 + 1 = omega arith in
    record {
      register = n.register;
      mutex = n.mutex;
      unlock_site = n.unlock_site;
      wait_site = n.wait_site;
      unlocks = sym (ap (λ k. slice_index_or (i ∷ is) k Instr.Exit) a) ∙ n.unlocks;
      waits = sym (ap (λ k. slice_index_or (i ∷ is) k Instr.Exit) b) ∙ n.waits;
    }

module _ (fs : List Function) where
  abbrev f : Instr → Instr
  f = instr_of fs

  -- an access after its check, if it has one
  under : (drop : Bool) (dynamic : Instr) (spot : Spot) (n : ℕ) (mode : PlaceMode) (it tail rest : List Instr) → ((is : List Instr) → IsEnteredBy (f dynamic) is) → AllNext (map f (it ++ tail) ++ rest)
      → AllNext (map f ((check_under drop dynamic spot n mode ++ it) ++ tail) ++ rest)
  under true dynamic spot n Private it tail rest d h = h
  under true dynamic spot n Readonly it tail rest d h = h
  under true dynamic spot n Racy it tail rest d h = h
  under true dynamic spot n Dynamic it tail rest d h = h
  under false dynamic spot n Private it tail rest d h = h
  under false dynamic spot n Readonly it tail rest d h = h
  under false dynamic spot n Racy it tail rest d h = h
  under false dynamic spot n Dynamic it tail rest d h = (d _, h)
  under _ dynamic spot n _ it tail rest d h = (tt, h)

  computed : (w : Width) (operator : Operator) (i a b n : ℕ) (rest : List Instr) → AllNext rest → AllNext (f (compute w operator i a b n) ∷ rest)
  computed Int operator i a b n rest h = (tt, h)
  computed _ operator i a b n rest h = (tt, h)

  negated : (w : Width) (i a n : ℕ) (rest : List Instr) → AllNext rest → AllNext (f (negate w i a n) ∷ rest)
  negated Int i a n rest h = (tt, h)
  negated _ i a n rest h = (tt, h)

  abbrev Waited : Op → List Instr → Type 0
  Waited (Op.CondEnter c spot) is = IsNext c is
  Waited _ is = Unit {0}

  -- what an operation becomes
  piece : (drop : Bool) (pl : ℕ → ℕ) (n : ℕ) (o : Op) (rest : List Instr) → Waited o rest → AllNext rest → AllNext (map f (expand pl drop n o) ++ rest)
  piece drop pl n (Op.Load i c spot) rest w h = under drop (Instr.ChkRead c n) spot n spot.mode (Instr.Load i c n ∷ []) [] rest (λ is. tt) (tt, h)
  piece drop pl n (Op.Store i c spot) rest w h = under drop (Instr.ChkWrite c n) spot n spot.mode (Instr.Store i c n ∷ []) [] rest (λ is. tt) (tt, h)
  piece drop pl n (Op.LoadRef r c spot) rest w h = under false (Instr.ChkRead c n) spot n spot.mode (Instr.LoadRef c n ∷ []) (Instr.RaiseLoaded r ∷ []) rest (λ is. tt) (tt, (tt, h))
  piece drop pl n (Op.StoreRef r c spot) rest w h = under false (Instr.ChkWrite c n) spot n spot.mode (Instr.Exchange r c n ∷ []) (Instr.Lower r ∷ []) rest (λ is. tt) (tt, (tt, h))
  piece drop pl n (Op.TakeCell r c spot) rest w h = under false (Instr.ChkWrite c n) spot n spot.mode (Instr.TakeCell r c n ∷ []) [] rest (λ is. tt) (tt, h)
  piece drop pl n (Op.Give r cells spot) rest w h = (tt, (tt, (tt, h)))
  piece drop pl n (Op.Free r layout spot) rest w h = (tt, (tt, h))
  piece drop pl n (Op.Settle to from) rest w h = (tt, (tt, h))
  piece drop pl n (Op.Compute width operator i a b spot) rest w h = computed width operator i a b n rest h
  piece drop pl n (Op.Negate width i a spot) rest w h = negated width i a n rest h
  piece drop pl n (Op.CondEnter c spot) rest w h = (w, h)
  piece drop pl n Op.Enter rest w h = h
  piece drop pl n Op.BlockEnd rest w h = h
  piece drop pl n o rest w h = (tt, h)

  module _ (drop : ℕ → Bool) (pl : ℕ → ℕ) where
    abbrev lines_from : ℕ → List Op → List Instr
    lines_from k os = map f (expanded pl drop k os)

    waited : (k : ℕ) (o : Op) (os : List Op) → IsEntered o os → Waited o (map f (expanded pl drop k os))
    waited k (Op.CondEnter c spot) os h = subst (λ os. IsNext c (lines_from k os)) (sym h.is) (record {
      register = h.register;
      mutex = h.mutex;
      unlock_site = k;
      wait_site = k + 1;
      rest = lines_from (k + 1 + 1) h.rest;
      is_so = refl;
    })
    waited k _ os h = tt

    lines : (k : ℕ) (os : List Op) → AllWait os → AllNext (map f (expanded pl drop k os))
    lines k [] h = tt
    lines k (o ∷ os) h =
        subst AllNext (sym (map-append f (expand pl (drop k) k o) (expanded pl drop (k + 1) os)))
        (piece (drop k) pl k o (map f (expanded pl drop (k + 1) os)) (waited (k + 1) o os h.0) (lines (k + 1) os h.1))

pub code_waits : MadeWaits → CodeWaits
code_waits made m flat flattens code is pc site c e =
    let d = dropped (flat_of flat) in
    let all = flat.lines.items in
    let pl = place d all in
    let fs = code.functions.items in
    let functions_are : code.functions.items ≡ is.g.functions.items = λ i. (is.generated.functions i).items in
    let instrs_are : code.instrs.items ≡ Instr.Start 0 ∷ Instr.Exit ∷ map (instr_of fs) (expanded pl d 0 all) =
    is.generated.instrs ∙ ap (λ fs. generated fs is.g.statements.items) (sym functions_are) ∙ ap (generated fs) is.made.statements in
    let waits : AllWait all = made m flat flattens in
    let whole : AllNext (Instr.Start 0 ∷ Instr.Exit ∷ map (instr_of fs) (expanded pl d 0 all)) = (tt, (tt, lines fs d pl 0 all waits)) in
    let n = next_at code.instrs.items (subst AllNext (sym instrs_are) whole) pc site c e in
    record { register = n.register; mutex = n.mutex; unlock_site = n.unlock_site; wait_site = n.wait_site; unlocks = n.unlocks; waits = n.waits }
