-- Indexes: the number of a cell of an element, and beside it that of the mutex of the same element.
use Rattle.sharc_typed_laws.proofs.{Imports.{◌≡◌, ◌≢◌, ℕ, zero, suc, ◌+◌, ◌*◌, ◌^◌, ◌<◌, ◌≤◌, Bool, true, false, cond, List, [], ◌∷◌, Option, Some, None, refl, sym, ap, ◌∙◌, subst, ⊎_elim, arith, pos, negsuc, max, false≢true, cases_eq, cases_lt, same_Some, nat_eq, nat_lt, put, put_same, put_other, put_all, Op, OpWrites, Know, know_next, writes_ref, writes_int, number_given, with_element, Targets, Empty, Element, Named, Nth, Number, Anything, Exactly, Within, Indexes, OfElement, OfGlobal, Closed, Pass, Label, Less, LessNumber, HasBase, HasName, IsNameOf, Fresh, IsScoped, set_number, IsElement, ints_in, refs_in, less_entry_refl, less_number_refl, with_passes, IsNumberOf, Mark, Setting, Tells, Fits, IsLine, IsPlain, mark, none_some}, Standing.{less_by, scoped_frame, stands_number}, Telling.{told, other_than, same_as}, Rules.{Plain, on_move, on_move_named}, Parts.{does, before, at_number, same_number, number_op, with_number}, Words.words}

-- ---- a name that no number has
name_after : Element → ℕ
name_after (Named n) = n + 1
name_after (Nth e) = 0

number_after : Number → ℕ
number_after (Indexes n) = n + 1
number_after (OfElement base field e) = name_after e
number_after (OfGlobal first count elements e) = name_after e
number_after _ = 0

names_after : (ℕ → Number) → ℕ → ℕ
names_after ints zero = 0
names_after ints (suc i) = max (number_after (ints i)) (names_after ints i)

name_below : (e : Element) (name : ℕ) → IsNameOf e name → name < name_after e
unfolding name_after
name_below (Named n) name h = omega (arith, h)
name_below (Nth e) name h = absurd h

number_below_name : (n : Number) (name : ℕ) → HasName n name → name < number_after n
unfolding number_after
number_below_name (Indexes n) name h = omega (arith, h)
number_below_name (OfElement base field e) name h = name_below e name h
number_below_name (OfGlobal first count elements e) name h = name_below e name h
number_below_name _ name h = absurd h

names_below : (ints : ℕ → Number) (i j name : ℕ) → j < i → HasName (ints j) name → name < names_after ints i
unfolding names_after
names_below ints zero j name lt h = absurd (omega (arith, lt))
names_below ints (suc i) j name lt h = ⊎_elim
    (λ (e : j ≡ i). let z = number_below_name (ints i) name (subst (λ q. HasName (ints q) name) e h) in omega (arith, z))
    (λ (ne : j ≡ i → ⊥). let z = names_below ints i j name (omega (arith, lt, ne)) h in omega (arith, z)) (cases_eq j i)

-- none is from this register on
pub fresh_name : Label → ℕ → ℕ
fresh_name l i = names_after l.ints i

pub is_fresh : (l : Label) (i : ℕ) → ((j : ℕ) → i ≤ j → l.ints j ≡ Anything) → Fresh l (fresh_name l i)
unfolding fresh_name
is_fresh l i none j h = ⊎_elim
    (λ (lt : j < i). let z = names_below l.ints i j (names_after l.ints i) lt h in omega (arith, z))
    (λ (ge : i ≤ j). subst (λ n. HasName n (names_after l.ints i)) (none j ge) h) (cases_lt j i)

-- ---- the element that an index is of
-- that of a number that is known, or of a new name
abbrev pub element_of : Number → ℕ → Element
element_of (Exactly (pos n)) name = Nth n
element_of _ name = Named name

-- a number that is no place
abbrev pub IsValue : Number → Type 0
IsValue (OfElement base field e) = ⊥
IsValue (OfGlobal first count elements e) = ⊥
IsValue _ = Unit {0}

plain_value : (n : Number) → IsPlain n → IsValue n
plain_value (OfElement base field e) h = absurd h
plain_value (OfGlobal first count elements e) h = absurd h
plain_value _ h = tt

-- where it is to be used twice
abbrev pub named_number : Number → ℕ → Number
named_number (Exactly (pos n)) name = Exactly (pos n)
named_number _ name = Indexes name

named_value : (n : Number) (name : ℕ) → IsValue (named_number n name)
named_value (Exactly (pos n)) name = tt
named_value _ name = tt

is_element_named : (l : Label) (n : Number) (name : ℕ) → IsElement l (named_number n name) (element_of n name)
is_element_named l (Exactly (pos n)) name = refl
is_element_named l _ name = refl

same_nth : (n e : ℕ) → Exactly (pos n) ≡ Exactly (pos e) → Nth n ≡ Nth e
same_nth n e z = let y : n ≡ e = cc in ap Nth y

value_base : (n : Number) (r q : ℕ) → IsValue n → HasBase n q → q < r
value_base (OfElement base field e) r q value h = absurd value
value_base _ r q value h = absurd h

pub is_element : (l : Label) (n : Number) (name : ℕ) → IsPlain n → Fresh l name → IsElement l n (element_of n name)
is_element l (Exactly (pos n)) name plain fresh = refl
is_element l (Indexes m) name plain fresh = absurd plain
is_element l (OfElement base field e) name plain fresh = absurd plain
is_element l (OfGlobal first count elements e) name plain fresh = absurd plain
is_element l _ name plain fresh = fresh

-- what is then remembered of the cell's number
with_element_is : (x : Targets) (l : Label) (cells field m : ℕ) (k : Option ℕ) (n : Number) (name : ℕ) → ((q : ℕ) → k ≡ Some q → IsNumberOf x l q n) → IsValue n → with_element cells field k ≡ Some m → (e : ℕ) × (n ≡ Exactly (pos e)) × (m ≡ e * cells + field)
with_element_is x l cells field m None n name known value e = absurd (none_some m e)
with_element_is x l cells field m (Some q) Anything name known value e = absurd (known q refl)
with_element_is x l cells field m (Some q) (Within w) name known value e = absurd (known q refl)
with_element_is x l cells field m (Some q) (Indexes w) name known value e = absurd (known q refl)
with_element_is x l cells field m (Some q) (Exactly z) name known value e = (q, ap Exactly (known q refl), by (nat_lt q (2 ^ 32)) e)
  where
    by : (b : Bool) → cond b (Some (q * cells + field)) None ≡ Some m → m ≡ q * cells + field
    by true e = sym (same_Some (q * cells + field) m e)
    by false e = absurd (none_some m e)
with_element_is x l cells field m (Some q) _ name known value e = absurd value

-- ---- checks of bounds, of elements of objects and of globals
-- an operation that finds the number of a field of that element, where the label's references are these
pub record FindsElement (around : Setting) (f : ℕ) (l : Label) (o : ℕ → ℕ → Op) (place : ℕ → Element → Number) (count : ℕ) : Type 0 where
  pub refs : (i n q : ℕ) → writes_ref (o i n) q ≡ false
  pub ints : (i n j : ℕ) → writes_int (o i n) j ≡ nat_eq j i
  pub offset : ℕ → ℕ
  pub given : (i n : ℕ) (k : Option ℕ) → number_given (o i n) k ≡ with_element count (offset n) k
  pub within : (i n : ℕ) → OpWrites (ints_in around.code (Some f)) (refs_in around.code (Some f)) (o i n) → i < ints_in around.code (Some f)
  pub is : (g : ℕ → Number) (n e m : ℕ) → m ≡ e * count + offset n → IsNumberOf around.targets (record l { ints = g; gate = Closed }) m (place n (Nth e))
  pub based : (n : ℕ) (e : Element) (q : ℕ) → HasBase (place n e) q → l.env q ≢ Empty
  pub rule : (table : ℕ → Mark) (pc : ℕ) (g : ℕ → Number) (from until : ℕ) (e : Mark) (next : Fits around.targets e (table (pc + 1))) (i n : ℕ) (elem : Element) → n < count → Plain around f (mark (record l { ints = g; gate = Closed }) from until)
      → OpWrites (ints_in around.code (Some f)) (refs_in around.code (Some f)) (o i n) → ((ps : List Pass) → IsElement (with_passes (record l { ints = g; gate = Closed }) ps) (g i) elem) → Less (set_number (record l { ints = g; gate = Closed }) i (place n elem)) e.label
      → ((k : Know) → Tells around.targets k (mark (record l { ints = g; gate = Closed }) from until) → Tells around.targets (know_next (o i n) k) e) → IsLine around f table pc (mark (record l { ints = g; gate = Closed }) from until) (o i n)

module _ (around : Setting) (f : ℕ) (D : (ℕ → Mark) → Type 0) (named : ℕ → Bool) (top : ℕ) (low : (p : ℕ) → named p ≡ true → p < top) (from : ℕ) where
  open words around f D named top low from use {fi, fr, Q, Here}

  module _ (i r : ℕ) (l : Label) (at : Here i r l) (o : ℕ → ℕ → Op) (place : ℕ → Element → Number) (count : ℕ) (finds : FindsElement around f l o place count) (early : from ≤ i) where
    abbrev V : Label → ℕ → Number → Mark
    V = with_number around f D named top low from

    below_refs : (n : ℕ) (e : Element) (q : ℕ) → HasBase (place n e) q → q < r
    below_refs n e q h = ⊎_elim (λ (lt : q < r). lt) (λ (ge : r ≤ q). absurd (finds.based n e q h (at.stands.free q ge))) (cases_lt q r)

    -- what is remembered of it
    remembered : (k : Know) (g : ℕ → Number) (j : ℕ) (m : Number) (n name : ℕ) (until : ℕ) → g j ≡ m → from ≤ j → j < until → IsValue m → Tells around.targets k (mark (record l { ints = g; gate = Closed }) from until) → (elem : Element) → ((e : ℕ) → m ≡ Exactly (pos e) → elem ≡ Nth e) → (g2 : ℕ → Number)
        → (q : ℕ) → number_given (o j n) (k.number j) ≡ Some q → IsNumberOf around.targets (record l { ints = g2; gate = Closed }) q (place n elem)
    remembered k g j m n name until is early2 late value h elem known g2 q given =
        let w = with_element_is around.targets (record l { ints = g; gate = Closed }) count (finds.offset n) q (k.number j) m name (λ p z. subst (IsNumberOf around.targets (record l { ints = g; gate = Closed }) p) is (h.numbers j p early2 late z)) value (sym (finds.given j n (k.number j)) ∙ given) in
        subst (λ y. IsNumberOf around.targets (record l { ints = g2; gate = Closed }) q (place n y)) (sym (known w.0 w.1)) (finds.is g2 n w.0 q w.2)

    element_known : (n : Number) (name e : ℕ) → n ≡ Exactly (pos e) → element_of n name ≡ Nth e
    element_known n name e z = ap (λ y. element_of y name) z

    -- with no mutex beside it
    pub bound_at : (m : Number) (n name : ℕ) → n < count → IsPlain m → Fresh (set_number l i m) name → Q (V l i m) (o i n ∷ []) (V l i (place n (element_of m name)))
    bound_at m n name few plain_m fresh =
        let g : ℕ → Number = put l.ints i m in
        let elem = element_of m name in
        number_op around f D named top low from i r l at g Closed (i + 1) refl (λ j lt. put_other l.ints i j m (λ e. omega (arith, e, lt))) (omega arith) (place n elem) (below_refs n elem) (o i n) (finds.refs i n) (finds.ints i n)
        (λ k h q is. remembered k g i m n name (i + 1) (put_same l.ints i m) early (omega arith) (plain_value m plain_m) h elem (λ e z. element_known m name e z) (put l.ints i (place n elem)) q is)
        (finds.within i n)
        (λ table pc in_it plain next less tells. finds.rule table pc g from (i + 1) (V l i (place n elem)) next i n elem few plain in_it
        (λ ps. subst (λ y. IsElement (with_passes (record l { ints = g; gate = Closed }) ps) y elem) (sym (put_same l.ints i m)) (is_element (with_passes (record l { ints = g; gate = Closed }) ps) m name plain_m fresh)) less tells)

    -- ---- with the number of the mutex beside it
    scoped_two : (a b : Number) → ((q : ℕ) → HasBase a q → q < r) → ((q : ℕ) → HasBase b q → q < r) → i + 1 < fi → ((q : ℕ) → fr ≤ q → l.env q ≡ Empty) → IsScoped fi fr (set_number (set_number l i a) (i + 1) b)
    scoped_two a b base base2 lt few =
        let at1 = at_number around f D named top low from i r l at a base in
        scoped_frame named (i + 1 + 1) r (set_number (set_number l i a) (i + 1) b) (stands_number named (i + 1) r (set_number l i a) at1.stands b base2) fi fr few
        (put_all (λ j y. fi ≤ j → y ≡ Anything) (put l.ints i a) (i + 1) b (λ ge. absurd (omega (arith, ge, lt))) (λ j _ ge. put_other l.ints i j a (λ e. omega (arith, e, ge, lt)) ∙ at.stands.numbers j (omega (arith, ge, lt))))

    in_ints : (j : ℕ) → j < fi → j < ints_in around.code l.function
    in_ints j lt = subst (λ o. j < ints_in around.code o) (sym at.owned) lt

    abbrev two : Number → Number → Mark
    two a b = mark (set_number (set_number l i a) (i + 1) b) from (i + 1 + 1)

    same_ints : (a b : ℕ → Number) → ((j : ℕ) → a j ≡ b j) → Less (record l { ints = a; gate = Closed }) (record l { ints = b; gate = Closed })
    same_ints a b e = less_by (record l { ints = a; gate = Closed }) (record l { ints = b; gate = Closed }) refl (λ q. less_entry_refl (record l { ints = a; gate = Closed }) q (l.env q)) (λ q. refl) (λ q z. z) (λ j. subst (LessNumber (a j)) (e j) (less_number_refl (a j))) tt at.stands.nothing_passed (λ z. z)

    -- the number is copied, and has the name
    moved_told : (m m2 : Number) → IsValue m → IsValue m2 → ((x : Targets) (k : Label) (q : ℕ) → IsNumberOf x k q m → IsNumberOf x k q m2) → (k : Know) → Tells around.targets k (V l i m) → Tells around.targets (know_next (Op.Move (i + 1) i) k) (two m2 m2)
    moved_told m m2 value value2 known k h = told around.targets (Op.Move (i + 1) i) k (V l i m) (two m2 m2) h (λ q v w _. absurd (false≢true w)) (λ q _ _. refl) (λ j n _ _ _ e. absurd (none_some n e))
        (λ j n a b w e.
        let ne : j ≡ i + 1 → ⊥ = other_than j (i + 1) w in
        let lt : j < i + 1 = omega (arith, ne, b) in
        let z : IsNumberOf around.targets (set_number l i m) n (put l.ints i m j) = h.numbers j n a lt e in
        subst (IsNumberOf around.targets (two m2 m2).label n) (sym (put_other (put l.ints i m2) (i + 1) j m2 ne)) (below_or j n z))
      where
        below_or : (j n : ℕ) → IsNumberOf around.targets (set_number l i m) n (put l.ints i m j) → IsNumberOf around.targets (two m2 m2).label n (put l.ints i m2 j)
        below_or j n z = ⊎_elim
            (λ (e : j ≡ i). subst (IsNumberOf around.targets (two m2 m2).label n) (sym (ap (put l.ints i m2) e ∙ put_same l.ints i m2))
            (same_number around f D named top low from (set_number l i m) (two m2 m2).label n m2 (λ q _. refl) (known around.targets (set_number l i m) n (subst (IsNumberOf around.targets (set_number l i m) n) (ap (put l.ints i m) e ∙ put_same l.ints i m) z))))
            (λ (ne : j ≡ i → ⊥). subst (IsNumberOf around.targets (two m2 m2).label n) (put_other l.ints i j m ne ∙ sym (put_other l.ints i j m2 ne)) (same_number around f D named top low from (set_number l i m) (two m2 m2).label n (put l.ints i m j) (λ q _. refl) z)) (cases_eq j i)

    moved_same : (m : Number) → IsValue m → Q (V l i m) (Op.Move (i + 1) i ∷ []) (two m m)
    moved_same m value =
        does around f D named top low from (V l i m) (Op.Move (i + 1) i) (two m m) (λ in_it h. scoped_two m m (λ q b. value_base m r q value b) (λ q b. value_base m r q value b) in_it h.few)
        (λ table pc in_it h next. on_move around f table pc (V l i m) (two m m) next (i + 1) i (record { owned = at.owned; scoped = h; closed = refl }) (in_ints (i + 1) in_it)
        (same_ints (put (put l.ints i m) (i + 1) (put l.ints i m i)) (put (put l.ints i m) (i + 1) m) (λ j. ap (λ n. put (put l.ints i m) (i + 1) n j) (put_same l.ints i m))) (λ _ k t. moved_told m m value value (λ x k q z. z) k t))

    moved_named : (m : Number) (name : ℕ) → IsPlain m → Fresh (set_number l i m) name → ((x : Targets) (k : Label) (q : ℕ) → IsNumberOf x k q m → ⊥) → Q (V l i m) (Op.Move (i + 1) i ∷ []) (two (Indexes name) (Indexes name))
    moved_named m name plain fresh none =
        let I = Indexes name in
        does around f D named top low from (V l i m) (Op.Move (i + 1) i) (two I I) (λ in_it h. scoped_two I I (λ q b. absurd b) (λ q b. absurd b) in_it h.few)
        (λ table pc in_it h next. on_move_named around f table pc (V l i m) (two I I) next (i + 1) i name (record { owned = at.owned; scoped = h; closed = refl }) (in_ints (i + 1) in_it) (in_ints i (omega (arith, in_it))) fresh
        (same_ints (put (put (put l.ints i m) i I) (i + 1) I) (put (put l.ints i I) (i + 1) I) (λ j. twice m I j)) (λ _ k t. moved_told m I (plain_value m plain) tt (λ x k q z. absurd (none x k q z)) k t))
      where
        twice : (m I : Number) (j : ℕ) → put (put (put l.ints i m) i I) (i + 1) I j ≡ put (put l.ints i I) (i + 1) I j
        twice m I j = ⊎_elim (λ (e : j ≡ i + 1). ap (put (put (put l.ints i m) i I) (i + 1) I) e ∙ put_same (put (put l.ints i m) i I) (i + 1) I ∙ sym (ap (put (put l.ints i I) (i + 1) I) e ∙ put_same (put l.ints i I) (i + 1) I))
            (λ (ne : j ≡ i + 1 → ⊥). put_other (put (put l.ints i m) i I) (i + 1) j I ne ∙ ⊎_elim (λ (e : j ≡ i). ap (put (put l.ints i m) i I) e ∙ put_same (put l.ints i m) i I ∙ sym (ap (put l.ints i I) e ∙ put_same l.ints i I))
            (λ (no : j ≡ i → ⊥). put_other (put l.ints i m) i j I no ∙ put_other l.ints i j m no ∙ sym (put_other l.ints i j I no)) (cases_eq j i) ∙ sym (put_other (put l.ints i I) (i + 1) j I ne)) (cases_eq j (i + 1))

    moves : (m : Number) (name : ℕ) → IsPlain m → Fresh (set_number l i m) name → Q (V l i m) (Op.Move (i + 1) i ∷ []) (two (named_number m name) (named_number m name))
    moves (Exactly (pos n)) name plain fresh = moved_same (Exactly (pos n)) tt
    moves (Exactly (negsuc n)) name plain fresh = moved_named (Exactly (negsuc n)) name plain fresh (λ x k q z. cc)
    moves Anything name plain fresh = moved_named Anything name plain fresh (λ x k q z. z)
    moves (Within w) name plain fresh = moved_named (Within w) name plain fresh (λ x k q z. z)
    moves _ name plain fresh = absurd plain

    -- the first one becomes a place
    first_at : (m2 : Number) (n name : ℕ) (elem : Element) → n < count → IsValue m2 → ((ps : List Pass) (g : ℕ → Number) → IsElement (with_passes (record l { ints = g; gate = Closed }) ps) m2 elem) → ((e : ℕ) → m2 ≡ Exactly (pos e) → elem ≡ Nth e) → Q (two m2 m2) (o i n ∷ []) (two (place n elem) m2)
    first_at m2 n name elem few value is_elem known =
        let g : ℕ → Number = put (put l.ints i m2) (i + 1) m2 in
        let E = place n elem in
        let g2 : ℕ → Number = put (put l.ints i E) (i + 1) m2 in
        let at_i : g i ≡ m2 = put_other (put l.ints i m2) (i + 1) i m2 (λ e. omega (arith, e)) ∙ put_same l.ints i m2 in
        does around f D named top low from (two m2 m2) (o i n) (two E m2) (λ in_it h. record {
          few = h.few;
          paths = h.paths;
          copies = h.copies;
          known = h.known;
          passes = h.passes;
          bases = put_all (λ j y. (q : ℕ) → HasBase y q → l.env q ≢ Empty) (put l.ints i E) (i + 1) m2 (λ q b. at.stands.full q (value_base m2 r q value b)) (λ j _. put_all (λ j y. (q : ℕ) → HasBase y q → l.env q ≢ Empty) l.ints i E (λ q b. at.stands.full q (below_refs n elem q b)) (λ j _ q b. at.stands.full q (at.stands.bases j q b)) j);
          numbers = λ j ge. swapped E m2 j (finds.within i n in_it) (h.numbers j ge) ge;
        })
        (λ table pc in_it h next. finds.rule table pc g from (i + 1 + 1) (two E m2) next i n elem few (record { owned = at.owned; scoped = h; closed = refl }) in_it
        (λ ps. subst (λ y. IsElement (with_passes (record l { ints = g; gate = Closed }) ps) y elem) (sym at_i) (is_elem ps g))
        (same_ints (put g i E) g2 (λ j. again E m2 j))
        (λ k t. told around.targets (o i n) k (two m2 m2) (two E m2) t (λ q v w _. absurd (false≢true (sym (finds.refs i n q) ∙ w))) (λ q _ _. refl)
        (λ j q a b w e. let z : j ≡ i = same_as j i (sym (finds.ints i n j) ∙ w) in
        subst (λ p. IsNumberOf around.targets (two E m2).label q (g2 p)) (sym z) (subst (IsNumberOf around.targets (two E m2).label q) (sym (put_other (put l.ints i E) (i + 1) i m2 (λ e. omega (arith, e)) ∙ put_same l.ints i E))
        (remembered k g i m2 n name (i + 1 + 1) at_i early (omega arith) value t elem known g2 q (ap (λ p. number_given (o i n) (k.number p)) (sym z) ∙ e))))
        (λ j q a b w e. let ne : j ≡ i → ⊥ = other_than j i (sym (finds.ints i n j) ∙ w) in
        subst (IsNumberOf around.targets (two E m2).label q) (unchanged E m2 j ne) (same_number around f D named top low from (two m2 m2).label (two E m2).label q (g j) (λ q _. refl) (t.numbers j q a b e)))))
      where
        unchanged : (E m2 : Number) (j : ℕ) → (j ≡ i → ⊥) → put (put l.ints i m2) (i + 1) m2 j ≡ put (put l.ints i E) (i + 1) m2 j
        unchanged E m2 j ne = ⊎_elim (λ (e : j ≡ i + 1). ap (put (put l.ints i m2) (i + 1) m2) e ∙ put_same (put l.ints i m2) (i + 1) m2 ∙ sym (ap (put (put l.ints i E) (i + 1) m2) e ∙ put_same (put l.ints i E) (i + 1) m2))
            (λ (no : j ≡ i + 1 → ⊥). put_other (put l.ints i m2) (i + 1) j m2 no ∙ put_other l.ints i j m2 ne ∙ sym (put_other (put l.ints i E) (i + 1) j m2 no ∙ put_other l.ints i j E ne)) (cases_eq j (i + 1))

        again : (E m2 : Number) (j : ℕ) → put (put (put l.ints i m2) (i + 1) m2) i E j ≡ put (put l.ints i E) (i + 1) m2 j
        again E m2 j = ⊎_elim (λ (e : j ≡ i). ap (put (put (put l.ints i m2) (i + 1) m2) i E) e ∙ put_same (put (put l.ints i m2) (i + 1) m2) i E ∙ sym (ap (put (put l.ints i E) (i + 1) m2) e ∙ put_other (put l.ints i E) (i + 1) i m2 (λ z. omega (arith, z)) ∙ put_same l.ints i E))
            (λ (ne : j ≡ i → ⊥). put_other (put (put l.ints i m2) (i + 1) m2) i j E ne ∙ unchanged E m2 j ne) (cases_eq j i)

        swapped : (E m2 : Number) (j : ℕ) → i < fi → put (put l.ints i m2) (i + 1) m2 j ≡ Anything → fi ≤ j → put (put l.ints i E) (i + 1) m2 j ≡ Anything
        swapped E m2 j lt e ge = sym (unchanged E m2 j (λ z. omega (arith, z, lt, ge))) ∙ e

    -- and the second one
    second_at : (m2 a : Number) (n name : ℕ) (elem : Element) → n < count → ((q : ℕ) → HasBase a q → q < r) → IsValue m2 → ((ps : List Pass) (g : ℕ → Number) → IsElement (with_passes (record l { ints = g; gate = Closed }) ps) m2 elem) → ((e : ℕ) → m2 ≡ Exactly (pos e) → elem ≡ Nth e) → Q (two a m2) (o (i + 1) n ∷ []) (two a (place n elem))
    second_at m2 a n name elem few base value is_elem known =
        let l2 = set_number l i a in
        let g : ℕ → Number = put (put l.ints i a) (i + 1) m2 in
        let at2 = at_number around f D named top low from i r l at a base in
        number_op around f D named top low from (i + 1) r l2 at2 g Closed (i + 1 + 1) refl (λ j lt. put_other (put l.ints i a) (i + 1) j m2 (λ e. omega (arith, e, lt))) (omega arith) (place n elem) (below_refs n elem) (o (i + 1) n) (finds.refs (i + 1) n) (finds.ints (i + 1) n)
        (λ k h q is. remembered k g (i + 1) m2 n name (i + 1 + 1) (put_same (put l.ints i a) (i + 1) m2) (omega (arith, early)) (omega arith) value h elem known (put (put l.ints i a) (i + 1) (place n elem)) q is)
        (finds.within (i + 1) n)
        (λ table pc in_it plain next less tells. finds.rule table pc g from (i + 1 + 1) (two a (place n elem)) next (i + 1) n elem few plain in_it
        (λ ps. subst (λ y. IsElement (with_passes (record l { ints = g; gate = Closed }) ps) y elem) (sym (put_same (put l.ints i a) (i + 1) m2)) (is_elem ps g)) less tells)

    pub beside_at : (m : Number) (n k name : ℕ) → n < count → k < count → IsPlain m → Fresh (set_number l i m) name → Q (V l i m) (Op.Move (i + 1) i ∷ o i n ∷ o (i + 1) k ∷ []) (two (place n (element_of m name)) (place k (element_of m name)))
    beside_at m n k name few few2 plain fresh =
        let elem = element_of m name in
        let m2 = named_number m name in
        let value = named_value m name in
        before around f D named top low from (V l i m) (two m2 m2) (Op.Move (i + 1) i) (o i n ∷ o (i + 1) k ∷ []) (two (place n elem) (place k elem)) (moves m name plain fresh)
        (before around f D named top low from (two m2 m2) (two (place n elem) m2) (o i n) (o (i + 1) k ∷ []) (two (place n elem) (place k elem))
        (first_at m2 n name elem few value (λ ps g. is_element_named (with_passes (record l { ints = g; gate = Closed }) ps) m name) (λ e z. named_nth m name e z))
        (second_at m2 (place n elem) k name elem few2 (below_refs n elem) value (λ ps g. is_element_named (with_passes (record l { ints = g; gate = Closed }) ps) m name) (λ e z. named_nth m name e z)))
      where
        named_nth : (m : Number) (name e : ℕ) → named_number m name ≡ Exactly (pos e) → element_of m name ≡ Nth e
        named_nth (Exactly (pos n)) name e z = same_nth n e z
        named_nth _ name e z = absurd (cc)
