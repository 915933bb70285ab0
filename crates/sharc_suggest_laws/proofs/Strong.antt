-- A token that is determined to be a field by its own name still names that field.
use Rattle.sharc_suggest_laws.proofs.{Imports.{◌≡◌, ◌⊎◌, inl, inr, ℕ, ◌<◌, ◌≤◌, ◌==◌, Bool, true, false, cond, List, [], ◌∷◌, length, get_or, refl, ap, sym, ◌∙◌, eqb-true, eq-eqb, arith, false≢true, cases_lt, AllByRecursion, Named, Note, fault, refers, yields, is_free, notes_about, named_in, Resolution, IsResolved, named_at, is_field, is_dull, KeepsName}, Folded.{seen, named_seen, named_past, IsOwnAt, field_taken}, Noted.{Clean, no_fault, behind_head, behind_yields, IsHarmless, Noted, done, kept, added, old_fault, new_fault}}

-- after its own name a field stays
chosen : (b : Bool) (w y v : Named) → (b ≡ true → w ≡ v) → y ≡ v → cond b w y ≡ v
chosen true w y v first later = first refl
chosen false w y v first later = later

taken : (b : Bool) (w y v : Named) → is_field v ≡ true → y ≡ v → cond b (cond (is_free y) w y) y ≡ v
taken true w y v is same = ap (λ (c : Bool). cond c w y) (ap is_free same ∙ field_taken v is) ∙ same
taken false w y v is same = same

harmless_same : (r : Resolution) (t n : ℕ) (w : Named) → is_field (named_at r t) ≡ true → n ≡ t → IsHarmless r (refers n w) → w ≡ named_at r t
harmless_same r t n w is same (inl told) = sym told ∙ ap (named_at r) same
harmless_same r t n w is same (inr p) = absurd (false≢true (sym p.1 ∙ ap (λ (k : ℕ). is_field (named_at r k)) same ∙ is))

stays : (r : Resolution) (t : ℕ) (y : Named) (old new : List Note) → is_field (named_at r t) ≡ true → AllByRecursion (IsOwnAt t (named_at r t)) old → Noted r old new → y ≡ named_at r t → seen t new y ≡ named_at r t
stays r t y _ _ is own done same = same
stays r t y _ _ is own (kept {n = fault place code} {old = old} {new = new} tame more) same = stays r t y old new is own.1 more same
stays r t y _ _ is own (kept {n = refers n w} {old = old} {new = new} tame more) same =
    stays r t (cond (n == t) w y) old new is own.1 more (chosen (n == t) w y (named_at r t) (λ at. own.0 (eqb-true n t at)) same)
stays r t y _ _ is own (kept {n = yields n w} {old = old} {new = new} tame more) same =
    stays r t (cond (n == t) (cond (is_free y) w y) y) old new is own.1 more (taken (n == t) w y (named_at r t) is same)
stays r t y _ _ is own (added {n = fault place code} {old = old} {new = new} harmless more) same = absurd harmless
stays r t y _ _ is own (added {n = refers n w} {old = old} {new = new} harmless more) same =
    stays r t (cond (n == t) w y) old new is own more (chosen (n == t) w y (named_at r t) (λ at. harmless_same r t n w is (eqb-true n t at) harmless) same)
stays r t y _ _ is own (added {n = yields n w} {old = old} {new = new} harmless more) same =
    stays r t (cond (n == t) (cond (is_free y) w y) y) old new is own more (taken (n == t) w y (named_at r t) is same)
stays r t y _ _ is own (old_fault {old = old} {new = new} more) same = stays r t y old new is own.1 more same
stays r t y _ _ is own (new_fault {old = old} {new = new} more) same = stays r t y old new is own more same

-- what a name says of its token, whatever that named before
abbrev IsFieldAt : List Note → Note → Type 0
IsFieldAt new (refers t v) = is_field v ≡ true → (y : Named) → seen t new y ≡ v
IsFieldAt new _ = Unit {0}

lift : (n m : Note) (new : List Note) → IsFieldAt new n → IsFieldAt (m ∷ new) n
lift (refers t v) (fault place code) new h = λ is y. h is y
lift (refers t v) (refers k w) new h = λ is y. h is (cond (k == t) w y)
lift (refers t v) (yields k w) new h = λ is y. h is (cond (k == t) (cond (is_free y) w y) y)
lift _ m new h = tt

lift_all : (m : Note) (new old : List Note) → AllByRecursion (IsFieldAt new) old → AllByRecursion (IsFieldAt (m ∷ new)) old
lift_all m new [] h = tt
lift_all m new (n ∷ rest) h = (lift n m new h.0, lift_all m new rest h.1)

abbrev AllOwn : Resolution → List Note → Type 0
AllOwn r l = (t : ℕ) → AllByRecursion (IsOwnAt t (named_at r t)) l

here : (r : Resolution) (n : Note) (old new : List Note) → AllOwn r (n ∷ old) → Noted r old new → IsFieldAt (n ∷ new) n
here r (refers t v) old new own more = λ is y.
    let same : v ≡ named_at r t = (own t).0 refl in
    stays r t (cond (t == t) v y) old new (ap is_field (sym same) ∙ is) (own t).1 more (ap (λ (b : Bool). cond b v y) (eq-eqb t t refl) ∙ same) ∙ sym same
here r _ old new own more = tt

fields_at : (r : Resolution) (old new : List Note) → AllOwn r old → Noted r old new → AllByRecursion (IsFieldAt new) old
fields_at r _ _ own done = tt
fields_at r _ _ own (kept {n = n} {old = old} {new = new} tame more) = (here r n old new own more, lift_all n new old (fields_at r old new (λ t. (own t).1) more))
fields_at r _ _ own (added {n = n} {old = old} {new = new} harmless more) = lift_all n new old (fields_at r old new own more)
fields_at r _ _ own (old_fault {place = place} {code = code} {old = old} {new = new} more) = (tt, fields_at r old new (λ t. (own t).1) more)
fields_at r _ _ own (new_fault {place = place} {code = code} {old = old} {new = new} more) = lift_all (fault place code) new old (fields_at r old new own more)

-- ---- what is said of a token is what it names, and what it names now

abbrev pub IsStrong : Resolution → Resolution → Note → Type 0
IsStrong r now (fault place code) = ⊥
IsStrong r now (refers t v) = (named_at r t ≡ v) × (is_dull v ≡ false → named_at now t ≡ v) × (is_field v ≡ true → named_at now t ≡ v)
IsStrong r now (yields t v) = Unit {0}

abbrev pub AreStrong : Resolution → Resolution → List Note → Type 0
AreStrong r now l = AllByRecursion (IsStrong r now) l

sharp : (v w : Named) → KeepsName v w → is_dull v ≡ false → w ≡ v
sharp v w (inl same) other = sym same
sharp v w (inr p) other = absurd (false≢true (sym other ∙ p.0))

strong_by : (r now : Resolution) → IsResolved r → now.named ≡ named_in now.program → length now.program.tokens.list ≡ length r.program.tokens.list → ((t : ℕ) → KeepsName (named_at r t) (named_at now t))
    → (l : List Note) → Clean l → AllOwn r l → AllByRecursion (IsFieldAt (notes_about now.program)) l → AreStrong r now l
strong_by r now resolved names many keeping [] clean own fields = tt
strong_by r now resolved names many keeping (fault place code ∷ rest) clean own fields = absurd (no_fault place code rest clean)
strong_by r now resolved names many keeping (refers t v ∷ rest) clean own fields =
    let same : v ≡ named_at r t = (own t).0 refl in (
      (
        sym same,
        (λ other. sharp (named_at r t) (named_at now t) (keeping t) (ap is_dull (sym same) ∙ other) ∙ sym same),
        λ is. still t v same is (cases_lt t (length r.program.tokens.list)) (fields.0 is),
      ),
      strong_by r now resolved names many keeping rest (behind_head t v rest clean) (λ k. (own k).1) fields.1,
    )
  where
    still : (t : ℕ) (v : Named) → v ≡ named_at r t → is_field v ≡ true → (t < length r.program.tokens.list) ⊎ (length r.program.tokens.list ≤ t) → ((y : Named) → seen t (notes_about now.program) y ≡ v) → named_at now t ≡ v
    still t v same is (inl low) told =
        let there : t < length now.program.tokens.list = omega (arith, low, many) in
        ap (λ (l : List Named). get_or l t Named.Known) names ∙ named_seen now.program t there ∙ told Named.Known
    still t v same is (inr past) told =
        let known : named_at r t ≡ Named.Known = ap (λ (l : List Named). get_or l t Named.Known) resolved.named ∙ named_past r.program t past in
        absurd (false≢true (sym (ap is_field (same ∙ known)) ∙ is))
strong_by r now resolved names many keeping (yields t v ∷ rest) clean own fields =
    (tt, strong_by r now resolved names many keeping rest (behind_yields t v rest clean) (λ k. (own k).1) fields.1)

pub all_strong : (r now : Resolution) → IsResolved r → now.named ≡ named_in now.program → length now.program.tokens.list ≡ length r.program.tokens.list → ((t : ℕ) → KeepsName (named_at r t) (named_at now t))
    → Clean (notes_about r.program) → ((t : ℕ) → AllByRecursion (IsOwnAt t (named_at r t)) (notes_about r.program)) → Noted r (notes_about r.program) (notes_about now.program) → AreStrong r now (notes_about r.program)
all_strong r now resolved names many keeping clean own said =
    strong_by r now resolved names many keeping (notes_about r.program) clean own (fields_at r (notes_about r.program) (notes_about now.program) own said)
