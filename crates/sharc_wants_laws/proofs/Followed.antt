-- In guarded code a check is directly before its access, and so in the code that is made of it.
use Rattle.sharc_wants_laws.proofs.Imports.{◌≡◌, ℕ, zero, suc, ◌+◌, Bool, true, false, List, [], ◌∷◌, ◌++◌, map, refl, sym, ap, ◌∙◌, subst, arith, map-append, get_or as slice_index_or, Code, Row as Function, PlaceMode, Dynamic, LockedGlobal, LockedSibling, LockedThrough, LockedLoaded, Cell, Operator, Width, Int, Instr, place_at, no_place, FlatCode, Op, Spot, flat_of, instr_of, generated, IsCodeOf, check_under, compute, negate, expand, expanded, place, sites_of, source_of, LineTexts, slice_get, Some, dropped, IsLocked, IsFollowed, ChecksAreFollowed}
use Rattle.sharc_history_laws.specs.Followed.{Accesses}

abbrev next_of : List Instr → Instr
next_of [] = Instr.Exit
next_of (i ∷ is) = i

-- ---- lists of instructions
module _ (code : Code) where
  abbrev AllFollowed : List Instr → Type 0
  AllFollowed [] = Unit {0}
  AllFollowed (i ∷ is) = IsFollowed code i (next_of is) × AllFollowed is

  followed_at : (is : List Instr) → AllFollowed is → (j : ℕ) → IsFollowed code (slice_index_or is j Instr.Exit) (slice_index_or is (j + 1) Instr.Exit)
  followed_at [] h j = tt
  followed_at (i ∷ []) h zero = h.0
  followed_at (i ∷ (k ∷ is)) h zero = h.0
  followed_at (i ∷ is) h (suc j) =
      let e : suc (j + 1) ≡ suc j + 1 = omega arith in
      subst (λ n. IsFollowed code (slice_index_or is j Instr.Exit) (slice_index_or (i ∷ is) n Instr.Exit)) e (followed_at is h.1 j)

  module _ (fs : List Function) where
    abbrev f : Instr → Instr
    f = instr_of fs

    -- an access after its check, if it has one
    under : (drop : Bool) (dynamic : Instr) (spot : Spot) (n : ℕ) (mode : PlaceMode) (it tail rest : List Instr) → (place_at code n).mode ≡ mode → (write : Bool) (c : Cell) → Accesses write c n (next_of (map f (it ++ tail) ++ rest))
        → (mode ≡ Dynamic → IsFollowed code (f dynamic) (next_of (map f (it ++ tail) ++ rest))) → AllFollowed (map f (it ++ tail) ++ rest)
        → AllFollowed (map f ((check_under drop dynamic spot n mode ++ it) ++ tail) ++ rest)
    under true dynamic spot n (LockedGlobal g p) it tail rest e write c a d h = ((subst IsLocked (sym e) tt, (write, c, a)), h)
    under true dynamic spot n (LockedSibling q m) it tail rest e write c a d h = ((subst IsLocked (sym e) tt, (write, c, a)), h)
    under true dynamic spot n (LockedThrough r p) it tail rest e write c a d h = ((subst IsLocked (sym e) tt, (write, c, a)), h)
    under true dynamic spot n LockedLoaded it tail rest e write c a d h = ((e, (write, c, a)), h)
    under false dynamic spot n Dynamic it tail rest e write c a d h = (d refl, h)
    under false dynamic spot n (LockedGlobal g p) it tail rest e write c a d h = ((subst IsLocked (sym e) tt, (write, c, a)), h)
    under false dynamic spot n (LockedSibling q m) it tail rest e write c a d h = ((subst IsLocked (sym e) tt, (write, c, a)), h)
    under false dynamic spot n (LockedThrough r p) it tail rest e write c a d h = ((subst IsLocked (sym e) tt, (write, c, a)), h)
    under false dynamic spot n LockedLoaded it tail rest e write c a d h = ((e, (write, c, a)), h)
    under _ dynamic spot n _ it tail rest e write c a d h = h

    computed : (w : Width) (operator : Operator) (i a b n : ℕ) (rest : List Instr) → AllFollowed rest → AllFollowed (f (compute w operator i a b n) ∷ rest)
    computed Int operator i a b n rest h = (tt, h)
    computed _ operator i a b n rest h = (tt, h)

    negated : (w : Width) (i a n : ℕ) (rest : List Instr) → AllFollowed rest → AllFollowed (f (negate w i a n) ∷ rest)
    negated Int i a n rest h = (tt, h)
    negated _ i a n rest h = (tt, h)

    -- what an operation becomes
    piece : (drop : Bool) (pl : ℕ → ℕ) (n : ℕ) (o : Op) (rest : List Instr) → (place_at code n).mode ≡ (source_of o).mode → AllFollowed rest → AllFollowed (map f (expand pl drop n o) ++ rest)
    piece drop pl n (Op.Load i c spot) rest e h = under drop (Instr.ChkRead c n) spot n spot.mode (Instr.Load i c n ∷ []) [] rest e false c (refl, refl) (λ d. (e ∙ d, (refl, refl))) (tt, h)
    piece drop pl n (Op.Store i c spot) rest e h = under drop (Instr.ChkWrite c n) spot n spot.mode (Instr.Store i c n ∷ []) [] rest e true c (refl, refl) (λ d. (e ∙ d, (refl, refl))) (tt, h)
    piece drop pl n (Op.LoadRef r c spot) rest e h = under false (Instr.ChkRead c n) spot n spot.mode (Instr.LoadRef c n ∷ []) (Instr.RaiseLoaded r ∷ []) rest e false c (refl, refl) (λ d. (e ∙ d, (refl, refl))) (tt, (tt, h))
    piece drop pl n (Op.StoreRef r c spot) rest e h = under false (Instr.ChkWrite c n) spot n spot.mode (Instr.Exchange r c n ∷ []) (Instr.Lower r ∷ []) rest e true c (refl, refl) (λ d. (e ∙ d, (refl, refl))) (tt, (tt, h))
    piece drop pl n (Op.TakeCell r c spot) rest e h = under false (Instr.ChkWrite c n) spot n spot.mode (Instr.TakeCell r c n ∷ []) [] rest e true c (refl, refl) (λ d. (e ∙ d, (refl, refl))) (tt, h)
    piece drop pl n (Op.Give r cells spot) rest e h = (tt, (tt, (tt, h)))
    piece drop pl n (Op.Free r layout spot) rest e h = (tt, (tt, h))
    piece drop pl n (Op.Settle to from) rest e h = (tt, (tt, h))
    piece drop pl n (Op.Compute w operator i a b spot) rest e h = computed w operator i a b n rest h
    piece drop pl n (Op.Negate w i a spot) rest e h = negated w i a n rest h
    piece drop pl n Op.Enter rest e h = h
    piece drop pl n Op.BlockEnd rest e h = h
    piece drop pl n o rest e h = (tt, h)

    -- the sites of the lines from this one on have these modes
    abbrev SitesFrom : ℕ → List Op → Type 0
    SitesFrom k os = (j : ℕ) (o : Op) → slice_get os j ≡ Some o → (place_at code (k + j)).mode ≡ (source_of o).mode

    next_sites : (k : ℕ) (o : Op) (os : List Op) → SitesFrom k (o ∷ os) → SitesFrom (k + 1) os
    next_sites k o os h j p at = let e : k + suc j ≡ k + 1 + j = omega arith in sym (ap (λ n. (place_at code n).mode) e) ∙ h (suc j) p at

    lines : (drop : ℕ → Bool) (pl : ℕ → ℕ) (k : ℕ) (os : List Op) → SitesFrom k os → AllFollowed (map f (expanded pl drop k os))
    lines drop pl k [] sites = tt
    lines drop pl k (o ∷ os) sites =
        let e : k + 0 ≡ k = omega arith in
        let site : (place_at code k).mode ≡ (source_of o).mode = ap (λ n. (place_at code n).mode) (sym e) ∙ sites 0 o refl in
        subst AllFollowed (sym (map-append f (expand pl (drop k) k o) (expanded pl drop (k + 1) os)))
        (piece (drop k) pl k o (map f (expanded pl drop (k + 1) os)) site (lines drop pl (k + 1) os (next_sites k o os sites)))

-- ---- the code
mode_there : (os : List Op) (ts : List LineTexts) (n : ℕ) (o : Op) → slice_get os n ≡ Some o → (slice_index_or (sites_of os ts) n no_place).mode ≡ (source_of o).mode
mode_there [] ts n o e = absurd (cc)
mode_there (p ∷ os) [] zero o e = let h : p ≡ o = cc in ap (λ o. (source_of o).mode) h
mode_there (p ∷ os) (t ∷ ts) zero o e = let h : p ≡ o = cc in ap (λ o. (source_of o).mode) h
mode_there (p ∷ os) [] (suc n) o e = mode_there os [] n o e
mode_there (p ∷ os) (t ∷ ts) (suc n) o e = mode_there os ts n o e

pub code_followed : (flat : FlatCode) (code : Code) → IsCodeOf flat code → ChecksAreFollowed code
code_followed flat code is pc =
    let d = dropped (flat_of flat) in
    let all = flat.lines.items in
    let pl = place d all in
    let fs = code.functions.items in
    let functions_are : code.functions.items ≡ is.g.functions.items = λ i. (is.generated.functions i).items in
    let sites_are : code.sites.items ≡ sites_of all flat.told.items = (λ i. (is.generated.sites i).items) ∙ is.made.sites in
    let instrs_are : code.instrs.items ≡ Instr.Start 0 ∷ Instr.Exit ∷ map (instr_of fs) (expanded pl d 0 all) =
    is.generated.instrs ∙ ap (λ fs. generated fs is.g.statements.items) (sym functions_are) ∙ ap (generated fs) is.made.statements in
    let sites : (j : ℕ) (o : Op) → slice_get all j ≡ Some o → (place_at code (0 + j)).mode ≡ (source_of o).mode =
    λ j o at. let e : 0 + j ≡ j = omega arith in ap (λ n. (place_at code n).mode) e ∙ ap (λ sites. (slice_index_or sites j no_place).mode) sites_are ∙ mode_there all flat.told.items j o at
    in
    let whole : AllFollowed code (Instr.Start 0 ∷ Instr.Exit ∷ map (instr_of fs) (expanded pl d 0 all)) = (tt, (tt, lines code fs d pl 0 all sites)) in
    subst (λ is. IsFollowed code (slice_index_or is pc Instr.Exit) (slice_index_or is (pc + 1) Instr.Exit)) (sym instrs_are)
    (followed_at code (Instr.Start 0 ∷ Instr.Exit ∷ map (instr_of fs) (expanded pl d 0 all)) whole pc)
