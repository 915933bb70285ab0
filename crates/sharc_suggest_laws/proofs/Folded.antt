-- What tokens name by notes with others among them.
use Rattle.sharc_suggest_laws.proofs.{Imports.{◌≡◌, ◌⊎◌, inl, inr, ⊎_elim, ℕ, ◌<◌, ◌≤◌, ◌==◌, Bool, true, false, cond, List, [], ◌∷◌, length, get_or, set, refl, ap, sym, subst, ◌∙◌, eqb-true, arith, false≢true, eqb-false, cases_lt, length-set, length-replicate, get_or-set_same, get_or-set_other, get_or_past, get_or-replicate, fold, AllByRecursion, Program, Named, Note, fault, refers, yields, Findings, is_free, set_if_free, noted, notes_about, nothing_found, named_in, Resolution, IsResolved, named_at, is_field, is_dull, KeepsName}, Noted.{Noted, done, kept, added, old_fault, new_fault}}

-- ---- what one token names by notes

abbrev pub seen : ℕ → List Note → Named → Named
seen t [] x = x
seen t (fault place code ∷ rest) x = seen t rest x
seen t (refers n w ∷ rest) x = seen t rest (cond (n == t) w x)
seen t (yields n w ∷ rest) x = seen t rest (cond (n == t) (cond (is_free x) w x) x)

set_at : (t n : ℕ) (l : List Named) (w : Named) (b : Bool) → (n == t) ≡ b → t < length l → get_or (set l n w) t Named.Known ≡ cond b w (get_or l t Named.Known)
set_at t n l w true is low = ap (λ (k : ℕ). get_or (set l k w) t Named.Known) (eqb-true n t is) ∙ get_or-set_same l t w Named.Known low
set_at t n l w false is low = get_or-set_other l n t w Named.Known (λ same. eqb-false n t is (sym same))

-- the token is free in the list exactly where it is here
free_at : (t n : ℕ) (l : List Named) (w : Named) (b c : Bool) → (n == t) ≡ b → is_free (get_or l n Named.Known) ≡ c → t < length l
    → get_or (cond c (set l n w) l) t Named.Known ≡ cond b (cond (is_free (get_or l t Named.Known)) w (get_or l t Named.Known)) (get_or l t Named.Known)
free_at t n l w true true is free low =
    let same : n ≡ t = eqb-true n t is in
    let here : is_free (get_or l t Named.Known) ≡ true = ap (λ (k : ℕ). is_free (get_or l k Named.Known)) (sym same) ∙ free in
    set_at t n l w true is low ∙ ap (λ (b : Bool). cond b w (get_or l t Named.Known)) (sym here)
free_at t n l w true false is free low =
    let same : n ≡ t = eqb-true n t is in
    let here : is_free (get_or l t Named.Known) ≡ false = ap (λ (k : ℕ). is_free (get_or l k Named.Known)) (sym same) ∙ free in
    ap (λ (b : Bool). cond b w (get_or l t Named.Known)) (sym here)
free_at t n l w false true is free low = set_at t n l w false is low
free_at t n l w false false is free low = refl

free_length : (l : List Named) (n : ℕ) (w : Named) (b : Bool) → length (cond b (set l n w) l) ≡ length l
free_length l n w true = length-set l n w
free_length l n w false = refl

found_is : (t : ℕ) (f : Findings) (l : List Note) → t < length f.named → get_or (fold noted f l).named t Named.Known ≡ seen t l (get_or f.named t Named.Known)
found_is t f [] low = refl
found_is t f (fault place code ∷ rest) low = found_is t (noted f (fault place code)) rest low
found_is t f (refers n w ∷ rest) low =
    let many : length (set f.named n w) ≡ length f.named = length-set f.named n w in
    found_is t (noted f (refers n w)) rest (omega (arith, low, many)) ∙ ap (seen t rest) (set_at t n f.named w (n == t) refl low)
found_is t f (yields n w ∷ rest) low =
    let many : length (set_if_free f.named n w) ≡ length f.named = free_length f.named n w (is_free (get_or f.named n Named.Known)) in
    found_is t (noted f (yields n w)) rest (omega (arith, low, many)) ∙ ap (seen t rest) (free_at t n f.named w (n == t) (is_free (get_or f.named n Named.Known)) refl refl low)

found_length : (f : Findings) (l : List Note) → length (fold noted f l).named ≡ length f.named
found_length f [] = refl
found_length f (fault place code ∷ rest) = found_length (noted f (fault place code)) rest
found_length f (refers n w ∷ rest) = found_length (noted f (refers n w)) rest ∙ length-set f.named n w
found_length f (yields n w ∷ rest) = found_length (noted f (yields n w)) rest ∙ free_length f.named n w (is_free (get_or f.named n Named.Known))

-- of a token that there is, and of one that there is not
pub named_seen : (p : Program) (t : ℕ) → t < length p.tokens.list → get_or (named_in p) t Named.Known ≡ seen t (notes_about p) Named.Known
named_seen p t low =
    let many : length (nothing_found (length p.tokens.list)).named ≡ length p.tokens.list = length-replicate (length p.tokens.list) Named.Known in
    found_is t (nothing_found (length p.tokens.list)) (notes_about p) (omega (arith, low, many)) ∙ ap (seen t (notes_about p)) (get_or-replicate (length p.tokens.list) t Named.Known Named.Known low)

pub named_past : (p : Program) (t : ℕ) → length p.tokens.list ≤ t → get_or (named_in p) t Named.Known ≡ Named.Known
named_past p t past =
    let many : length (named_in p) ≡ length p.tokens.list = found_length (nothing_found (length p.tokens.list)) (notes_about p) ∙ length-replicate (length p.tokens.list) Named.Known in
    get_or_past (named_in p) t Named.Known (omega (arith, past, many))

-- ---- side by side

-- before it is determined, and after
abbrev Early : Named → Named → Type 0
Early v y = (y ≡ v) ⊎ ((is_dull y ≡ true) × (is_field v ≡ true → ((is_field y ≡ true) ⊎ (y ≡ Named.Known))))

data Beside (v x y : Named) : Type 0 where
  early : x ≡ Named.Known → Early v y → Beside v x y
  told : x ≡ v → KeepsName v y → Beside v x y

abbrev pub IsOwnAt : ℕ → Named → Note → Type 0
IsOwnAt t v (fault place code) = Unit {0}
IsOwnAt t v (refers n w) = n ≡ t → w ≡ v
IsOwnAt t v (yields n w) = n ≡ t → w ≡ v

field_dull : (v : Named) → is_field v ≡ true → is_dull v ≡ true
field_dull (Named.Global n) is = absurd (false≢true is)
field_dull (Named.Function n) is = absurd (false≢true is)
field_dull (Named.Variable x) is = absurd (false≢true is)
field_dull _ is = refl

pub field_taken : (v : Named) → is_field v ≡ true → is_free v ≡ false
field_taken Named.Known is = absurd (false≢true is)
field_taken _ is = refl

free_known : (v : Named) → is_free v ≡ true → v ≡ Named.Known
free_known Named.Known is = refl
free_known _ is = absurd (false≢true is)

-- a note of both
kept_refers : (v w x y : Named) (b : Bool) → (b ≡ true → w ≡ v) → Beside v x y → Beside v (cond b w x) (cond b w y)
kept_refers v w x y true own h = told (own refl) (inl (sym (own refl)))
kept_refers v w x y false own h = h

stays_field : (v y : Named) (w : Named) → is_field y ≡ true → cond (is_free y) w y ≡ y
stays_field v y w is = ap (λ (b : Bool). cond b w y) (field_taken y is)

yields_early : (v y : Named) → is_field v ≡ true → Early v y → KeepsName v (cond (is_free y) v y)
yields_early v y is (inl same) = inl (sym (ap (λ (z : Named). cond (is_free z) v z) same ∙ ap (λ (b : Bool). cond b v v) (field_taken v is)))
yields_early v y is (inr p) = by (p.1 is)
  where
    by : (is_field y ≡ true) ⊎ (y ≡ Named.Known) → KeepsName v (cond (is_free y) v y)
    by (inl f) = subst (KeepsName v) (sym (stays_field v y v f)) (inr (field_dull v is, p.0, λ old. f))
    by (inr known) = inl (sym (ap (λ (z : Named). cond (is_free z) v z) known))

yields_told : (v y : Named) → is_field v ≡ true → KeepsName v y → KeepsName v (cond (is_free y) v y)
yields_told v y is (inl same) = inl (sym (ap (λ (z : Named). cond (is_free z) v z) (sym same) ∙ ap (λ (b : Bool). cond b v v) (field_taken v is)))
yields_told v y is (inr p) = subst (KeepsName v) (sym (stays_field v y v (p.2 is))) (inr p)

kept_yields_own : (v x y : Named) → is_field v ≡ true → Beside v x y → Beside v (cond (is_free x) v x) (cond (is_free y) v y)
kept_yields_own v x y is (early known h) = told (ap (λ (z : Named). cond (is_free z) v z) known) (yields_early v y is h)
kept_yields_own v x y is (told same h) = told (ap (λ (z : Named). cond (is_free z) v z) same ∙ ap (λ (b : Bool). cond b v v) (field_taken v is)) (yields_told v y is h)

kept_yields : (v w x y : Named) (b : Bool) → (b ≡ true → w ≡ v) → is_field w ≡ true → Beside v x y → Beside v (cond b (cond (is_free x) w x) x) (cond b (cond (is_free y) w y) y)
kept_yields v w x y true own is h =
    subst (λ (z : Named). Beside v (cond (is_free x) z x) (cond (is_free y) z y)) (sym (own refl)) (kept_yields_own v x y (ap is_field (sym (own refl)) ∙ is) h)
kept_yields v w x y false own is h = h

-- a note of the new ones alone

abbrev IsMeant : Named → Named → Type 0
IsMeant v w = (v ≡ w) ⊎ ((is_dull v ≡ true) × (is_field v ≡ false) × (is_dull w ≡ true) × (is_field w ≡ false))

no_field : (v : Named) {A : Type 0} → is_field v ≡ false → is_field v ≡ true → A
no_field v not_so is = absurd (false≢true (sym not_so ∙ is))

added_refers : (v w x y : Named) (b : Bool) → (b ≡ true → IsMeant v w) → Beside v x y → Beside v x (cond b w y)
added_refers v w x y true meant (early known h) = early known (by (meant refl))
  where
    by : IsMeant v w → Early v w
    by (inl same) = inl (sym same)
    by (inr p) = inr (p.2, λ is. no_field v p.1 is)
added_refers v w x y true meant (told same h) = told same (by (meant refl))
  where
    by : IsMeant v w → KeepsName v w
    by (inl is) = inl is
    by (inr p) = inr (p.0, p.2, λ is. no_field v p.1 is)
added_refers v w x y false meant h = h

keeps_known : (v w : Named) → is_field w ≡ true → KeepsName v Named.Known → KeepsName v w
keeps_known v w is (inl same) = inr (ap is_dull same, field_dull w is, λ old. is)
keeps_known v w is (inr p) = inr (p.0, field_dull w is, λ old. is)

added_free : (v w x y : Named) (c : Bool) → is_free y ≡ c → is_field w ≡ true → Beside v x y → Beside v x (cond c w y)
added_free v w x y true free is (early known h) = early known (inr (field_dull w is, λ old. inl is))
added_free v w x y true free is (told same h) = told same (keeps_known v w is (subst (KeepsName v) (free_known y free) h))
added_free v w x y false free is h = h

added_yields : (v w x y : Named) (b : Bool) → is_field w ≡ true → Beside v x y → Beside v x (cond b (cond (is_free y) w y) y)
added_yields v w x y true is h = added_free v w x y (is_free y) refl is h
added_yields v w x y false is h = h

-- ---- in all

beside : (r : Resolution) (t : ℕ) (x y : Named) (old new : List Note) → AllByRecursion (IsOwnAt t (named_at r t)) old → Noted r old new → Beside (named_at r t) x y → Beside (named_at r t) (seen t old x) (seen t new y)
beside r t x y _ _ own done h = h
beside r t x y _ _ own (kept {n = fault place code} {old = old} {new = new} tame more) h = beside r t x y old new own.1 more h
beside r t x y _ _ own (kept {n = refers n w} {old = old} {new = new} tame more) h =
    beside r t (cond (n == t) w x) (cond (n == t) w y) old new own.1 more (kept_refers (named_at r t) w x y (n == t) (λ is. own.0 (eqb-true n t is)) h)
beside r t x y _ _ own (kept {n = yields n w} {old = old} {new = new} tame more) h =
    beside r t (cond (n == t) (cond (is_free x) w x) x) (cond (n == t) (cond (is_free y) w y) y) old new own.1 more (kept_yields (named_at r t) w x y (n == t) (λ is. own.0 (eqb-true n t is)) tame h)
beside r t x y _ _ own (added {n = fault place code} {old = old} {new = new} harmless more) h = absurd harmless
beside r t x y _ _ own (added {n = refers n w} {old = old} {new = new} harmless more) h =
    beside r t x (cond (n == t) w y) old new own more (added_refers (named_at r t) w x y (n == t) (λ is. subst (λ (k : ℕ). IsMeant (named_at r k) w) (eqb-true n t is) harmless) h)
beside r t x y _ _ own (added {n = yields n w} {old = old} {new = new} harmless more) h =
    beside r t x (cond (n == t) (cond (is_free y) w y) y) old new own more (added_yields (named_at r t) w x y (n == t) harmless.0 h)
beside r t x y _ _ own (old_fault {old = old} {new = new} more) h = beside r t x y old new own.1 more h
beside r t x y _ _ own (new_fault {old = old} {new = new} more) h = beside r t x y old new own more h

keeps_by : (v y : Named) → Beside v v y → KeepsName v y
keeps_by v y (early known (inl same)) = inl (sym same)
keeps_by v y (early known (inr p)) = inr (ap is_dull known, p.0, λ is. absurd (false≢true (sym (ap is_field known) ∙ is)))
keeps_by v y (told same h) = h

-- the notes of a resolved program, which say one thing of each token, and those of another with the same tokens
pub keeps : (r : Resolution) (p : Program) (t : ℕ) → IsResolved r → length p.tokens.list ≡ length r.program.tokens.list → AllByRecursion (IsOwnAt t (named_at r t)) (notes_about r.program) → Noted r (notes_about r.program) (notes_about p)
    → KeepsName (named_at r t) (get_or (named_in p) t Named.Known)
keeps r p t resolved many own said = ⊎_elim inside outside (cases_lt t (length r.program.tokens.list))
  where
    old : named_at r t ≡ get_or (named_in r.program) t Named.Known
    old = ap (λ (l : List Named). get_or l t Named.Known) resolved.named

    inside : t < length r.program.tokens.list → KeepsName (named_at r t) (get_or (named_in p) t Named.Known)
    inside low =
        let v : Named = named_at r t in
        let was : seen t (notes_about r.program) Named.Known ≡ v = sym (old ∙ named_seen r.program t low) in
        let at : Beside v (seen t (notes_about r.program) Named.Known) (seen t (notes_about p) Named.Known) =
        beside r t Named.Known Named.Known (notes_about r.program) (notes_about p) own said (early refl (inr (refl, λ is. inr refl))) in
        let now : t < length p.tokens.list = omega (arith, low, many) in
        subst (KeepsName v) (sym (named_seen p t now)) (keeps_by v _ (subst (λ (z : Named). Beside v z (seen t (notes_about p) Named.Known)) was at))

    outside : length r.program.tokens.list ≤ t → KeepsName (named_at r t) (get_or (named_in p) t Named.Known)
    outside past =
        let now : length p.tokens.list ≤ t = omega (arith, past, many) in
        inl (old ∙ named_past r.program t past ∙ sym (named_past p t now))
