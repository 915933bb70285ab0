-- What is determined by two tokens, where one more that has a type is in the list.
use Rattle.sharc_suggest_laws.proofs.Imports.{◌≡◌, ℕ, ◌+◌, ◌<◌, ◌≤◌, ◌==◌, ◌&&◌, Bool, true, false, cond, ◌⊎◌, inl, inr, List, [], ◌∷◌, ◌++◌, Option, Some, None, refl, ap, sym, subst, ◌∙◌, arith, cond-false, and_left, ne_eqb, true≢false, false≢true, find, AllByRecursion, Entity, Numbered, positions_of, positions_in, numbered_from, is_told_by, none_some}

-- the same is there, before the positions that were added, or after them and that many further on
pub record IsMoved (first count : ℕ) (old new : Numbered) : Type 0 where
  pub entity : new.entity ≡ old.entity
  pub place : ((old.first + positions_of old.entity ≤ first) × (new.first ≡ old.first)) ⊎ ((first ≤ old.first) × (new.first ≡ old.first + count))

-- or nothing does, neither before nor now
abbrev pub AreMoved : ℕ → ℕ → Option Numbered → Option Numbered → Type 0
AreMoved first count None None = Unit {0}
AreMoved first count None (Some n) = ⊥
AreMoved first count (Some o) None = ⊥
AreMoved first count (Some o) (Some n) = IsMoved first count o n

-- of tests that look at what has a type, whatever its number
abbrev pub OfEntity : (Numbered → Bool) → Type 0
OfEntity test = (e : Entity) (j k : ℕ) → test (record { entity = e; first = j }) ≡ test (record { entity = e; first = k })

either_moved : (first count : ℕ) (b d : Bool) (o n : Numbered) (found later : Option Numbered) → d ≡ b → IsMoved first count o n → AreMoved first count found later → AreMoved first count (cond b (Some o) found) (cond d (Some n) later)
either_moved first count true true o n found later same is rest = is
either_moved first count true false o n found later same is rest = absurd (false≢true same)
either_moved first count false true o n found later same is rest = absurd (true≢false same)
either_moved first count false false o n found later same is rest = rest

-- those after
all_behind : (test : Numbered → Bool) → OfEntity test → (first count j k : ℕ) (list : List Entity) → first ≤ j → k ≡ j + count → AreMoved first count (find test (numbered_from j list)) (find test (numbered_from k list))
all_behind test of first count j k [] low far = tt
all_behind test of first count j k (e ∷ rest) low far =
    either_moved first count (test (record { entity = e; first = j })) (test (record { entity = e; first = k })) (record { entity = e; first = j }) (record { entity = e; first = k })
    (find test (numbered_from (j + positions_of e) rest)) (find test (numbered_from (k + positions_of e) rest)) (of e k j) (record { entity = refl; place = inr (low, far) })
    (all_behind test of first count (j + positions_of e) (k + positions_of e) rest (omega (arith, low)) (omega (arith, far)))

-- after one that is not the one determined
pass_by : (b : Bool) (n : Numbered) (found : Option Numbered) (P : Option Numbered → Type 0) → b ≡ false → P found → P (cond b (Some n) found)
pass_by b n found P not_so is = subst P (sym (cond-false b (Some n) found not_so)) is

pub all_moved : (test : Numbered → Bool) → OfEntity test → (x : Entity) → ((k : ℕ) → test (record { entity = x; first = k }) ≡ false) → (first k : ℕ) (before behind : List Entity) → first ≡ k + positions_in before
    → AreMoved first (positions_of x) (find test (numbered_from k (before ++ behind))) (find test (numbered_from k (before ++ x ∷ behind)))
all_moved test of x not_so first k [] behind at =
    let is : first ≡ k + 0 = at in
    let low : first ≤ k = omega (arith, is) in
    pass_by (test (record { entity = x; first = k })) (record { entity = x; first = k }) (find test (numbered_from (k + positions_of x) behind))
    (λ (found : Option Numbered). AreMoved first (positions_of x) (find test (numbered_from k behind)) found) (not_so k) (all_behind test of first (positions_of x) k (k + positions_of x) behind low refl)
all_moved test of x not_so first k (e ∷ before) behind at =
    let here : Numbered = record { entity = e; first = k } in
    let ends : first ≡ k + (positions_of e + positions_in before) = at in
    let fits : k + positions_of e ≤ first = omega (arith, ends) in
    either_moved first (positions_of x) (test here) (test here) here here
    (find test (numbered_from (k + positions_of e) (before ++ behind))) (find test (numbered_from (k + positions_of e) (before ++ x ∷ behind))) refl (record { entity = refl; place = inl (fits, refl) })
    (all_moved test of x not_so first (k + positions_of e) before behind (omega (arith, ends)))

abbrev numbered_of : Entity → ℕ → Numbered
numbered_of e n = record { entity = e; first = n }

abbrev numbered_as : Entity → ℕ → Option Numbered
numbered_as e n = Some (numbered_of e n)

-- ---- and what was added is found itself, where nothing before it is

nothing_by : (b : Bool) (n : Numbered) (found : Option Numbered) → cond b (Some n) found ≡ None → (b ≡ false) × (found ≡ None)
nothing_by true n found is = absurd (none_some n (sym is))
nothing_by false n found is = (refl, is)

found_by : (b : Bool) (n : Numbered) (found : Option Numbered) → b ≡ true → cond b (Some n) found ≡ Some n
found_by b n found is_so = ap (λ (t : Bool). cond t (Some n) found) is_so

pub found_itself : (test : Numbered → Bool) (x : Entity) → ((k : ℕ) → test (record { entity = x; first = k }) ≡ true) → (k : ℕ) (before behind : List Entity) → find test (numbered_from k before) ≡ None
    → find test (numbered_from k (before ++ x ∷ behind)) ≡ Some (record { entity = x; first = k + positions_in before })
found_itself test x is_so k [] behind none =
    let here : Numbered = record { entity = x; first = k } in
    let at : k ≡ k + 0 = omega arith in
    found_by (test here) here (find test (numbered_from (k + positions_of x) behind)) (is_so k) ∙ ap (λ (n : ℕ). numbered_as x n) at
found_itself test x is_so k (e ∷ before) behind none =
    let here : Numbered = record { entity = e; first = k } in
    let parts : (test here ≡ false) × (find test (numbered_from (k + positions_of e) before) ≡ None) = nothing_by (test here) here (find test (numbered_from (k + positions_of e) before)) none in
    let rest : find test (numbered_from (k + positions_of e) (before ++ x ∷ behind)) ≡ Some (record { entity = x; first = k + positions_of e + positions_in before }) = found_itself test x is_so (k + positions_of e) before behind parts.1 in
    let far : k + positions_of e + positions_in before ≡ k + (positions_of e + positions_in before) = omega arith in
    cond-false (test here) (Some here) (find test (numbered_from (k + positions_of e) (before ++ x ∷ behind))) parts.0 ∙ rest ∙ ap (λ (n : ℕ). numbered_as x n) far

-- nothing that begins before a token is determined by that token
pub none_told : (from until k : ℕ) (list : List Entity) → AllByRecursion (λ (e : Entity). e.token < from) list → find (is_told_by from until) (numbered_from k list) ≡ None
none_told from until k [] all = refl
none_told from until k (e ∷ rest) all =
    let other : (e.token == from && e.last == until) ≡ false = and_left (e.token == from) (e.last == until) (ne_eqb e.token from (λ same. omega (arith, same, all.0))) in
    cond-false (e.token == from && e.last == until) (Some (numbered_of e k)) (find (is_told_by from until) (numbered_from (k + positions_of e) rest)) other ∙ none_told from until (k + positions_of e) rest all.1
