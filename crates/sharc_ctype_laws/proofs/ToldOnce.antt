-- From how often notes refer to a token to the one note that does.
use Rattle.sharc_ctype_laws.proofs.{Imports.{◌≡◌, ⊎_elim, ℕ, zero, suc, ◌<◌, List, [], ◌∷◌, ◌++◌, length, get_or, refl, ap, sym, ◌∙◌, arith, Contains, cases_eq, Mark, a_name, a_cast, Named, Note, fault, refers, yields, referred, notes_about, name_tokens, Resolution, named_at, Tells, IsToldOnce, later}, Counts.{one, told, written, told-append, told_refers, told_yields, told_fault, told_none, written_name, written_cast, written_none}, Held.{Held, no_fault, head_named, behind_head, yielded, behind_yielded}, OwnTokens.{one_same, one_other}}

-- what is in a list is counted in it, and what is counted is in it

in_referred : (t : ℕ) (list : List Note) (k : ℕ) → k < length (referred list) → get_or (referred list) k t ≡ t → 0 < told t list
in_referred t [] k low is = absurd (omega (arith, low))
in_referred t (fault place code ∷ rest) k low is = let e = told_fault t place code rest in let f = in_referred t rest k low is in omega (arith, e, f)
in_referred t (refers n what ∷ rest) zero low is = let e = told_refers t n what rest in let f = one_same t in let g = ap (one t) is in omega (arith, e, f, g)
in_referred t (refers n what ∷ rest) (suc k) low is = let e = told_refers t n what rest in let f = in_referred t rest k (omega (arith, low)) is in omega (arith, e, f)
in_referred t (yields n what ∷ rest) zero low is = let e = told_yields t n what rest in let f = one_same t in let g = ap (one t) is in omega (arith, e, f, g)
in_referred t (yields n what ∷ rest) (suc k) low is = let e = told_yields t n what rest in let f = in_referred t rest k (omega (arith, low)) is in omega (arith, e, f)

pub counted : (t : ℕ) (list : List Note) → Contains (referred list) t → 0 < told t list
counted t list (k, low, is) = in_referred t list k low is

pub not_counted : (t : ℕ) (list : List Note) → told t list ≡ 0 → Contains (referred list) t → ⊥
not_counted t list none c = let e = counted t list c in omega (arith, none, e)

in_names : (t : ℕ) (list : List Mark) (k : ℕ) → k < length (name_tokens list) → get_or (name_tokens list) k t ≡ t → 0 < written t list
in_names t [] k low is = absurd (omega (arith, low))
in_names t (a_name n text ∷ rest) zero low is = let e = written_name t n text rest in let f = one_same t in let g = ap (one t) is in omega (arith, e, f, g)
in_names t (a_name n text ∷ rest) (suc k) low is = let e = written_name t n text rest in let f = in_names t rest k (omega (arith, low)) is in omega (arith, e, f)
in_names t (a_cast n ∷ rest) k low is = let e = written_cast t n rest in let f = in_names t rest k low is in omega (arith, e, f)

pub name_counted : (t : ℕ) (list : List Mark) → Contains (name_tokens list) t → 0 < written t list
name_counted t list (k, low, is) = in_names t list k low is

pub name_there : (t : ℕ) (list : List Mark) → 0 < written t list → Contains (name_tokens list) t
name_there t [] h = let e = written_none t in absurd (omega (arith, e, h))
name_there t (a_name n text ∷ rest) h =
    let e = written_name t n text rest in
    ⊎_elim (λ is. (0, omega arith, is)) (λ other. let z = one_other t n other in later n t (name_tokens rest) (name_there t rest (omega (arith, e, z, h)))) (cases_eq n t)
name_there t (a_cast n ∷ rest) h = let e = written_cast t n rest in name_there t rest (omega (arith, e, h))

-- the one note

record IsSplit (r : Resolution) (t : ℕ) (list : List Note) : Type 0 where
  what : Named
  note : Note
  tells : Tells note t what
  before : List Note
  after : List Note
  notes : list ≡ before ++ note ∷ after
  none_before : told t before ≡ 0
  none_after : told t after ≡ 0
  named : named_at r t ≡ what

-- after a note that says nothing of the token
further : (r : Resolution) (t : ℕ) (n : Note) (rest : List Note) → told t (n ∷ []) ≡ 0 → IsSplit r t rest → IsSplit r t (n ∷ rest)
further r t n rest none p = record {
  what = p.what;
  note = p.note;
  tells = p.tells;
  before = n ∷ p.before;
  after = p.after;
  notes = ap (λ l. n ∷ l) p.notes;
  none_before = told-append t (n ∷ []) p.before ∙ (let y = p.none_before in omega (arith, y, none));
  none_after = p.none_after;
  named = p.named;
}

-- at the first note that says something of it
here : (r : Resolution) (t : ℕ) (what : Named) (n : Note) (rest : List Note) → Tells n t what → told t rest ≡ 0 → named_at r t ≡ what → IsSplit r t (n ∷ rest)
here r t what n rest tells none is = record {
  what = what;
  note = n;
  tells = tells;
  before = [];
  after = rest;
  notes = refl;
  none_before = told_none t;
  none_after = none;
  named = is;
}

split : (r : Resolution) (t : ℕ) (list : List Note) → Held r list → told t list ≡ 1 → IsSplit r t list
split r t [] held h = let e = told_none t in absurd (omega (arith, e, h))
split r t (fault place code ∷ rest) held h = absurd (no_fault _ _ _ _ held)
split r t (refers n what ∷ rest) held h =
    let e = told_refers t n what rest in
    let s = one_same t in
    ⊎_elim (λ is. let g = ap (one t) is in here r t what (refers n what) rest (is, refl) (omega (arith, e, s, g, h)) (ap (named_at r) (sym is) ∙ head_named _ n what rest held))
    (λ other.
    let z = one_other t n other in
    let x = told_refers t n what [] in
    let y = told_none t in
    further r t (refers n what) rest (omega (arith, x, y, z)) (split r t rest (behind_head _ n what rest held) (omega (arith, e, z, h))))
    (cases_eq n t)
split r t (yields n what ∷ rest) held h =
    let e = told_yields t n what rest in
    let s = one_same t in
    ⊎_elim (λ is. let g = ap (one t) is in here r t what (yields n what) rest (is, refl) (omega (arith, e, s, g, h)) (ap (named_at r) (sym is) ∙ yielded _ n what rest held))
    (λ other.
    let z = one_other t n other in
    let x = told_yields t n what [] in
    let y = told_none t in
    further r t (yields n what) rest (omega (arith, x, y, z)) (split r t rest (behind_yielded _ n what rest held) (omega (arith, e, z, h))))
    (cases_eq n t)

pub told_once : (r : Resolution) (t : ℕ) → Held r (notes_about r.program) → told t (notes_about r.program) ≡ 1 → IsToldOnce r t
told_once r t held h =
    let p = split r t (notes_about r.program) held h in
    record {
      what = p.what;
      note = p.note;
      tells = p.tells;
      before = p.before;
      after = p.after;
      notes = p.notes;
      not_before = not_counted t p.before p.none_before;
      not_after = not_counted t p.after p.none_after;
      named = p.named;
    }
