-- Where the statements of lines lie.
use Rattle.sharc_guard.proofs.Imports.{get_or-map, get_or_from_slice_get, ◌≡◌, ℕ, zero, suc, ◌+◌, ◌<◌, Bool, List, [], ◌∷◌, ◌++◌, length, map, refl, sym, ap, ◌∙◌, subst, arith, Some, slice_get, get_or as slice_index_or, length-append, Function, no_function, function_at, function_of, entered_at, Instr, SourcePlace, Op, Flat, Program, statement_at, source_at, expand, width, offset, place, expanded, guarded, source_of, head, own, body, tail, LineTexts, with_texts, sites_of}

-- the statements lie in the list from a place on
abbrev pub HasAt : List Instr → ℕ → List Instr → Type 0
HasAt g pc [] = Unit {0}
HasAt g pc (i ∷ is) = (slice_get g pc ≡ Some i) × HasAt g (pc + 1) is

shifted : (x : Instr) (g : List Instr) (pc : ℕ) (is : List Instr) → HasAt g pc is → HasAt (x ∷ g) (suc pc) is
shifted x g pc [] h = tt
shifted x g pc (i ∷ is) h = (h.0, subst (λ n. HasAt (x ∷ g) n is) (omega arith) (shifted x g (pc + 1) is h.1))

behind : (xs g : List Instr) (pc : ℕ) (is : List Instr) → HasAt g pc is → HasAt (xs ++ g) (length xs + pc) is
behind [] g pc is h = subst (λ n. HasAt g n is) (omega arith) h
behind (x ∷ xs) g pc is h = subst (λ n. HasAt (x ∷ (xs ++ g)) n is) (omega arith) (shifted x (xs ++ g) (length xs + pc) is (behind xs g pc is h))

first : (xs g : List Instr) → HasAt (xs ++ g) 0 xs
first [] g = tt
first (x ∷ xs) g = (refl, subst (λ n. HasAt (x ∷ (xs ++ g)) n xs) (omega arith) (shifted x (xs ++ g) 0 xs (first xs g)))

-- where the lines have gone does not change how many statements an operation becomes
own_length : (pl : ℕ → ℕ) (n : ℕ) (o : Op) → length (own (body pl n o)) ≡ length (own (body (λ k. 0) n o))
own_length pl n Op.Enter = refl
own_length pl n _ = refl

pub width_is : (pl : ℕ → ℕ) (dropped : Bool) (n : ℕ) (o : Op) → length (expand pl dropped n o) ≡ width dropped n o
width_is pl dropped n o =
    length-append (head dropped n o ++ own (body pl n o)) (tail o) ∙ ap (λ k. k + length (tail o)) (length-append (head dropped n o) (own (body pl n o)) ∙ ap (λ k. length (head dropped n o) + k) (own_length pl n o) ∙ sym (length-append (head dropped n o) (own (body (λ k. 0) n o))))
    ∙ sym (length-append (head dropped n o ++ own (body (λ k. 0) n o)) (tail o))

pub stands_in : (pl : ℕ → ℕ) (dropped : ℕ → Bool) (k : ℕ) (lines : List Op) (n : ℕ) (o : Op) → slice_get lines n ≡ Some o
    → HasAt (expanded pl dropped k lines) (offset dropped k lines n) (expand pl (dropped (k + n)) (k + n) o)
stands_in pl dropped k [] n o e = absurd (cc)
stands_in pl dropped k (x ∷ os) zero o e =
    let same : x ≡ o = cc in
    let h = first (expand pl (dropped k) k x) (expanded pl dropped (k + 1) os) in
    subst (λ z. HasAt (expanded pl dropped k (x ∷ os)) 0 (expand pl (dropped z) z o)) (omega arith) (subst (λ y. HasAt (expanded pl dropped k (x ∷ os)) 0 (expand pl (dropped k) k y)) same h)
stands_in pl dropped k (x ∷ os) (suc n) o e =
    let h = stands_in pl dropped (k + 1) os n o e in
    let b = behind (expand pl (dropped k) k x) (expanded pl dropped (k + 1) os) (offset dropped (k + 1) os n) (expand pl (dropped (k + 1 + n)) (k + 1 + n) o) h in
    subst (λ z. HasAt (expanded pl dropped k (x ∷ os)) (width (dropped k) k x + offset dropped (k + 1) os n) (expand pl (dropped z) z o)) (omega arith)
    (subst (λ w. HasAt (expanded pl dropped k (x ∷ os)) (w + offset dropped (k + 1) os n) (expand pl (dropped (k + 1 + n)) (k + 1 + n) o)) (width_is pl (dropped k) k x) b)

pub offset_next : (dropped : ℕ → Bool) (k : ℕ) (lines : List Op) (n : ℕ) (o : Op) → slice_get lines n ≡ Some o → offset dropped k lines n + width (dropped (k + n)) (k + n) o ≡ offset dropped k lines (n + 1)
offset_next dropped k [] n o e = absurd (cc)
offset_next dropped k (x ∷ os) zero o e =
    let same : x ≡ o = cc in
    subst (λ y. 0 + width (dropped (k + 0)) (k + 0) y ≡ offset dropped k (x ∷ os) 1) same
    (subst (λ z. 0 + width (dropped z) z x ≡ offset dropped k (x ∷ os) 1) (omega arith) (zero_there (k + 1) os))
  where
    nothing : (j : ℕ) (os : List Op) → offset dropped j os 0 ≡ 0
    nothing j [] = refl
    nothing j (y ∷ os) = refl

    zero_there : (j : ℕ) (os : List Op) → 0 + width (dropped k) k x ≡ width (dropped k) k x + offset dropped j os 0
    zero_there j os = let e = nothing j os in omega arith
offset_next dropped k (x ∷ os) (suc n) o e =
    let h = offset_next dropped (k + 1) os n o e in
    let z : suc n + 1 ≡ suc (n + 1) = omega arith in
    let q : k + 1 + n ≡ k + suc n = omega arith in
    let w = ap (λ j. width (dropped j) j o) q in
    ap (λ y. width (dropped k) k x + offset dropped (k + 1) os n + y) (sym w) ∙ plus (width (dropped k) k x) (offset dropped (k + 1) os n) (width (dropped (k + 1 + n)) (k + 1 + n) o) _ h ∙ ap (offset dropped k (x ∷ os)) (sym z)
  where
    plus : (a b c d : ℕ) → b + c ≡ d → a + b + c ≡ a + d
    plus a b c d e = omega arith

-- where the texts of a line lie, if the table has that
abbrev pub texts_at : List LineTexts → ℕ → SourcePlace → LineTexts
texts_at [] n place = record { lvalue = place.lvalue; lock = place.lock }
texts_at (t ∷ ts) zero place = t
texts_at (t ∷ ts) (suc n) place = texts_at ts n place

source_there : (lines : List Op) (told : List LineTexts) (n : ℕ) (o : Op) (d : SourcePlace) → slice_get lines n ≡ Some o → slice_index_or (sites_of lines told) n d ≡ with_texts (texts_at told n (source_of o)) (source_of o)
source_there [] told n o d e = absurd (cc)
source_there (x ∷ os) [] zero o d e = let s : x ≡ o = cc in ap source_of s
source_there (x ∷ os) (t ∷ ts) zero o d e = let s : x ≡ o = cc in ap (λ o. with_texts t (source_of o)) s
source_there (x ∷ os) [] (suc n) o d e = source_there os [] n o d e
source_there (x ∷ os) (t ∷ ts) (suc n) o d e = source_there os ts n o d e

part_in : {A : Type 0} (part : Function → A) (pl : ℕ → ℕ) → ((g : Function) → part (entered_at pl g) ≡ part g) → (fs : List Function) (f : ℕ) → part (slice_index_or (map (entered_at pl) fs) f no_function) ≡ part (slice_index_or fs f no_function)
part_in part pl same [] f = refl
part_in part pl same (g ∷ fs) zero = same g
part_in part pl same (g ∷ fs) (suc f) = part_in part pl same fs f

module _ (dropped : ℕ → Bool) (flat : Flat) where
  abbrev pub pl : ℕ → ℕ
  pl = place dropped flat.lines

  abbrev pub p : Program
  p = guarded dropped flat

  pub stands : (n : ℕ) (o : Op) → slice_get flat.lines n ≡ Some o → HasAt p.statements (pl n) (expand pl (dropped n) n o)
  stands n o e = behind (Instr.Start 0 ∷ Instr.Exit ∷ []) (expanded pl dropped 0 flat.lines) (offset dropped 0 flat.lines n) (expand pl (dropped n) n o)
      (subst (λ z. HasAt (expanded pl dropped 0 flat.lines) (offset dropped 0 flat.lines n) (expand pl (dropped z) z o)) (omega arith) (stands_in pl dropped 0 flat.lines n o e))

  pub place_next : (n : ℕ) (o : Op) → slice_get flat.lines n ≡ Some o → pl n + length (expand pl (dropped n) n o) ≡ pl (n + 1)
  place_next n o e =
      let w = width_is pl (dropped n) n o in
      let h = offset_next dropped 0 flat.lines n o e in
      let z : 0 + n ≡ n = omega arith in
      let q = ap (λ j. width (dropped j) j o) z in
      omega arith

  pub statement_is : (pc : ℕ) (i : Instr) → slice_get p.statements pc ≡ Some i → statement_at p pc ≡ i
  statement_is pc i e = get_or_from_slice_get p.statements pc i Instr.Exit e

  pub source_is : (n : ℕ) (o : Op) → slice_get flat.lines n ≡ Some o → source_at p n ≡ with_texts (texts_at flat.told n (source_of o)) (source_of o)
  source_is n o e = source_there flat.lines flat.told n o _ e

  -- a function is that of flat code, entered where its first line has gone
  pub entered_is : (f : ℕ) → f < length flat.functions → function_at p f ≡ entered_at pl (function_of flat f)
  entered_is f lt = get_or-map (entered_at pl) flat.functions f no_function no_function lt

  pub part_is : {A : Type 0} (part : Function → A) → ((g : Function) → part (entered_at pl g) ≡ part g) → (f : ℕ) → part (function_at p f) ≡ part (function_of flat f)
  part_is part same f = part_in part pl same flat.functions f
