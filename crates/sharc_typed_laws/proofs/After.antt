-- What a typed operation of a straight piece leaves: registers that it does not write hold what they held, and indexes of globals are past granule 0.
use Rattle.sharc_typed_laws.proofs.Imports.{◌≡◌, ◌≢◌, ℕ, ◌≤◌, Bool, true, false, cond, Option, Some, refl, sym, ◌∙◌, subst, ⊎_elim, false≢true, none-some, nat_eq, Code, Char, Int, Long, put, Op, is_straight, writes_ref, writes_int, number_given, Targets, StaticType, Entry, Empty, Refers, Unknown, Number, Anything, Exactly, Within, Indexes, OfElement, OfGlobal, Closed, Label, Labels, LessEntry, LessNumber, Less, set_number, fill, empty, forgets, forgotten, without_index, some_names, gated, behind, TypedLine, not_left, not_right}
use Rattle.sharc_flat_laws.specs.Tables.{OpPast}

-- the number of a cell of a global is none of granule 0
abbrev pub IsPast : Number → Type 0
IsPast (OfGlobal first count elements e) = 2 ≤ first
IsPast _ = Unit {0}

-- nor does an operation make one that is

-- ---- knowing less
less_past : (a b : Number) → LessNumber a b → IsPast a → IsPast b
less_past Anything (OfGlobal first count elements e) h p = subst IsPast h p
less_past _ (OfGlobal first count elements e) h p = subst IsPast h p
less_past a _ h p = tt

less_full : (a b : Label) → Less a b → (v : ℕ) → a.env v ≢ Empty → b.env v ≢ Empty
less_full a b h v full e = full (subst (λ y. LessEntry a v (a.env v) y) e (h.env v))

-- ---- one register
env_other : (env : ℕ → Entry) (r : ℕ) (e : Entry) (v : ℕ) → nat_eq v r ≡ false → env v ≢ Empty → put env r e v ≢ Empty
env_other env r e v apart full = subst (λ b. cond b e (env v) ≢ Empty) (sym apart) full

number_other : (ints : ℕ → Number) (j : ℕ) (n : Number) (i : ℕ) → nat_eq i j ≡ false → IsPast (ints i) → IsPast (put ints j n i)
number_other ints j n i apart past = subst (λ b. IsPast (cond b n (ints i))) (sym apart) past

number_own : (ints : ℕ → Number) (j : ℕ) (n : Number) (i : ℕ) → nat_eq i j ≡ true → IsPast n → IsPast (put ints j n i)
number_own ints j n i own past = subst (λ b. IsPast (cond b n (ints i))) (sym own) past

number_any : (ints : ℕ → Number) (j : ℕ) (n : Number) (i : ℕ) → IsPast n → IsPast (ints i) → IsPast (put ints j n i)
number_any ints j n i new old = elim (nat_eq i j) as (λ b. IsPast (cond b n (ints i))) [ true ↦ new | false ↦ old ]

index_past : (r : ℕ) (n : Number) → IsPast n → IsPast (without_index r n)
index_past r (OfElement b field e) p = elim (nat_eq b r) as (λ c. IsPast (cond c Anything (OfElement b field e))) [ true ↦ tt | false ↦ tt ]
index_past r (OfGlobal first count elements e) p = p
index_past r _ p = tt

pub forgotten_full : (r : ℕ) (e : Entry) → e ≢ Empty → forgotten r e ≢ Empty
forgotten_full r (Refers s) full = elim (some_names r s.locks) as (λ b. cond b Unknown (Refers s) ≢ Empty) [ true ↦ λ e. absurd (let z : Unknown ≡ Empty = e in cc) | false ↦ full ]
forgotten_full r _ full = full

-- ---- what an operation leaves
pub record After (o : Op) (l m : Label) : Type 0 where
  pub full : (v : ℕ) → writes_ref o v ≡ false → l.env v ≢ Empty → m.env v ≢ Empty
  pub past : (i : ℕ) → writes_int o i ≡ false → IsPast (l.ints i) → IsPast (m.ints i)
  pub given : (i v : ℕ) (old : Option ℕ) → writes_int o i ≡ true → number_given o old ≡ Some v → OpPast o → IsPast (m.ints i)

module _ (o : Op) where
  on : (l m k : Label) → Less m k → After o l m → After o l k
  on l m k less h = record {
    full = λ v w f. less_full m k less v (h.full v w f);
    past = λ i w p. less_past (m.ints i) (k.ints i) (less.ints i) (h.past i w p);
    given = λ i v old w g p. less_past (m.ints i) (k.ints i) (less.ints i) (h.given i v old w g p);
  }

  -- it gives no number that is remembered
  abbrev GivesNone : Type 0
  GivesNone = (i v : ℕ) (old : Option ℕ) → writes_int o i ≡ true → number_given o old ≡ Some v → ⊥

  abbrev WritesInt : ℕ → Type 0
  WritesInt j = (i : ℕ) → writes_int o i ≡ nat_eq i j

  -- nothing changes but what is known of NULL, the gate and the checks
  same : GivesNone → (l k : Label) → Less l k → After o l k
  same none l k less = on l l k less (record { full = λ v w f. f; past = λ i w p. p; given = λ i v old w g p. absurd (none i v old w g) })

  sets_plain : GivesNone → (l k : Label) (j : ℕ) (n : Number) → IsPast n → Less (set_number l j n) k → After o l k
  sets_plain none l k j n new less = on l (set_number l j n) k less (record { full = λ v w f. f; past = λ i w p. number_any l.ints j n i new p; given = λ i v old w g p. absurd (none i v old w g) })

  sets_own : (j : ℕ) → WritesInt j → (l k : Label) (n : Number) → (OpPast o → IsPast n) → Less (set_number l j n) k → After o l k
  sets_own j writes l k n new less = on l (set_number l j n) k less (record {
    full = λ v w f. f;
    past = λ i w p. number_other l.ints j n i (sym (writes i) ∙ w) p;
    given = λ i v old w g p. number_own l.ints j n i (sym (writes i) ∙ w) (new p);
  })

  sets_other : GivesNone → (j : ℕ) → WritesInt j → (l k : Label) (n : Number) → Less (set_number l j n) k → After o l k
  sets_other none j writes l k n less = on l (set_number l j n) k less (record {
    full = λ v w f. f;
    past = λ i w p. number_other l.ints j n i (sym (writes i) ∙ w) p;
    given = λ i v old w g p. absurd (none i v old w g);
  })

  through : GivesNone → (l m k : Label) → After o l m → After o m k → After o l k
  through none l m k a b = record { full = λ v w f. b.full v w (a.full v w f); past = λ i w p. b.past i w (a.past i w p); given = λ i v old w g p. absurd (none i v old w g) }

  abbrev WritesRef : ℕ → Type 0
  WritesRef r = (v : ℕ) → writes_ref o v ≡ false → nat_eq v r ≡ false

  empties : GivesNone → (l : Label) (r : ℕ) → WritesRef r → After o l (empty l r)
  empties none l r writes = record { full = λ v w f. env_other l.env r Empty v (writes v w) f; past = λ i w p. index_past r (l.ints i) p; given = λ i v old w g p. absurd (none i v old w g) }

  fills : GivesNone → (l : Label) (r : ℕ) (e : Entry) (s : ℕ) (known : Bool) → WritesRef r → After o l (fill l r e s known)
  fills none l r e s known writes = record { full = λ v w f. env_other l.env r e v (writes v w) f; past = λ i w p. p; given = λ i v old w g p. absurd (none i v old w g) }

  moves : GivesNone → (l k : Label) (to from : ℕ) (e : Entry) (s : ℕ) (known : Bool) → WritesRef to → WritesRef from → Less (fill (empty l from) to e s known) k → After o l k
  moves none l k to from e s known writes reads less =
      on l (fill (empty l from) to e s known) k less (through none l (empty l from) (fill (empty l from) to e s known) (empties none l from reads) (fills none (empty l from) to e s known writes))

  refills : GivesNone → (l k : Label) (r : ℕ) (e : Entry) (s : ℕ) (known : Bool) → WritesRef r → Less (fill l r e s known) k → After o l k
  refills none l k r e s known writes less = on l (fill l r e s known) k less (fills none l r e s known writes)

forgets_after : (o : Op) → GivesNone o → (l : Label) (r : ℕ) → After o l (forgets l r)
forgets_after o none l r = record { full = λ v w f. forgotten_full r (l.env v) f; past = λ i w p. p; given = λ i v old w g p. absurd (none i v old w g) }

stored : (o : Op) → GivesNone o → (l k : Label) (r : ℕ) (s : StaticType) → WritesRef o r → Less (empty (fill (empty l r) r (Refers s) r false) r) k → After o l k
stored o none l k r s writes less =
    let a = empty l r in
    let b = fill a r (Refers s) r false in
    on o l (empty b r) k less (through o none l b (empty b r) (through o none l a b (empties o none l r writes) (fills o none a r (Refers s) r false writes)) (empties o none b r writes))

pub after : (x : Targets) (code : Code) (ls : Labels) (lines : ℕ) (dropped : Bool) (type : StaticType) (n : ℕ) (l k : Label) (o : Op) → is_straight o ≡ true → TypedLine x code ls lines dropped type n l k o → After o l k
after x code ls lines dropped type n l k Op.Enter s h = same Op.Enter (λ i v old w g. false≢true w) l k h
after x code ls lines dropped type n l k (Op.Constant i v) s h = sets_own (Op.Constant i v) i (λ j. refl) l k (Exactly v) (λ _. tt) h.2
after x code ls lines dropped type n l k (Op.Move i from) s h =
    let o = Op.Move i from in
    ⊎_elim (λ a. sets_other o (λ j v old w g. none-some v g) i (λ j. refl) l k (l.ints from) a.2)
    (λ b. let m : Label = record l { ints = put l.ints from (Indexes b.0) } in
    through o (λ j v old w g. none-some v g) l m k (record { full = λ v w f. f; past = λ j w p. number_any l.ints from (Indexes b.0) j tt p; given = λ j v old w g p. absurd (none-some v g) })
    (sets_plain o (λ j v old w g. none-some v g) m k i (Indexes b.0) tt b.3.2)) h
after x code ls lines dropped type n l k (Op.Compute Char operator i a b spot) s h = sets_plain (Op.Compute Char operator i a b spot) (λ j v old w g. none-some v g) l k i (Within Int) tt h.1.2
after x code ls lines dropped type n l k (Op.Compute Int operator i a b spot) s h = sets_plain (Op.Compute Int operator i a b spot) (λ j v old w g. none-some v g) l k i (Within Int) tt h.1.2
after x code ls lines dropped type n l k (Op.Compute Long operator i a b spot) s h = sets_plain (Op.Compute Long operator i a b spot) (λ j v old w g. none-some v g) l k i (Within Long) tt h.1.2
after x code ls lines dropped type n l k (Op.Negate Char i a spot) s h = sets_plain (Op.Negate Char i a spot) (λ j v old w g. none-some v g) l k i (Within Int) tt h.2
after x code ls lines dropped type n l k (Op.Negate Int i a spot) s h = sets_plain (Op.Negate Int i a spot) (λ j v old w g. none-some v g) l k i (Within Int) tt h.2
after x code ls lines dropped type n l k (Op.Negate Long i a spot) s h = sets_plain (Op.Negate Long i a spot) (λ j v old w g. none-some v g) l k i (Within Long) tt h.2
after x code ls lines dropped type n l k (Op.Complement i a) s h = sets_plain (Op.Complement i a) (λ j v old w g. none-some v g) l k i (Within h.0) tt h.2.2
after x code ls lines dropped type n l k (Op.IsFalse i a) s h = sets_plain (Op.IsFalse i a) (λ j v old w g. none-some v g) l k i (Within Char) tt h.2
after x code ls lines dropped type n l k (Op.SameReference i a b) s h = sets_plain (Op.SameReference i a b) (λ j v old w g. none-some v g) l k i (Within Char) tt h.2
after x code ls lines dropped type n l k (Op.ChkWidth width i spot) s h =
    let o = Op.ChkWidth width i spot in
    ⊎_elim (λ a. same o (λ j v old w g. false≢true w) l k a.1) (λ b. sets_plain o (λ j v old w g. false≢true w) l k i (Within width) tt b.2) h
after x code ls lines dropped type n l k (Op.Null r) s h = same (Op.Null r) (λ j v old w g. false≢true w) l k h.2
after x code ls lines dropped type n l k (Op.Local r y) s h = refills (Op.Local r y) (λ j v old w g. false≢true w) l k r (l.env y) (l.same y) (l.known y) (λ v w. w) h.3
after x code ls lines dropped type n l k (Op.MoveReference r from) s h =
    let o = Op.MoveReference r from in
    ⊎_elim (λ a. same o (λ j v old w g. false≢true w) l k a.1)
    (λ b. moves o (λ j v old w g. false≢true w) l k r from _ _ _ (λ v w. not_left (nat_eq v r) (nat_eq v from) w) (λ v w. not_right (nat_eq v r) (nat_eq v from) w) b.5) h.1
after x code ls lines dropped type n l k (Op.Pop r) s h =
    let o = Op.Pop r in
    ⊎_elim (λ a. on o l (empty l r) k a.1 (empties o (λ j v old w g. false≢true w) l r (λ v w. w)))
    (λ (b : Less (empty (forgets l r) r) k). on o l (empty (forgets l r) r) k b
    (through o (λ j v old w g. false≢true w) l (forgets l r) (empty (forgets l r) r) (forgets_after o (λ j v old w g. false≢true w) l r) (empties o (λ j v old w g. false≢true w) (forgets l r) r (λ v w. w)))) h.2
after x code ls lines dropped type n l k (Op.Settle to from) s h =
    let o = Op.Settle to from in
    through o (λ j v old w g. false≢true w) l (empty l to) k (empties o (λ j v old w g. false≢true w) l to (λ v w. not_left (nat_eq v to) (nat_eq v from) w))
    (moves o (λ j v old w g. false≢true w) (empty l to) k to from _ _ _ (λ v w. not_left (nat_eq v to) (nat_eq v from) w) (λ v w. not_right (nat_eq v to) (nat_eq v from) w) h.next)
after x code ls lines dropped type n l k (Op.ChkNull r spot) s h = let a = same (Op.ChkNull r spot) (λ j v old w g. false≢true w) _ k h.1 in record { full = a.full; past = a.past; given = a.given }
after x code ls lines dropped type n l k (Op.ChkPositive i spot) s h = same (Op.ChkPositive i spot) (λ j v old w g. false≢true w) l k h.1
after x code ls lines dropped type n l k (Op.ChkHeld c spot) s h = let a = same (Op.ChkHeld c spot) (λ j v old w g. false≢true w) _ k h.2 in record { full = a.full; past = a.past; given = a.given }
after x code ls lines dropped type n l k (Op.ChkNotHeld c spot) s h = same (Op.ChkNotHeld c spot) (λ j v old w g. false≢true w) l k h.2
after x code ls lines dropped type n l k (Op.ChkRoom spot) s h = let a = same (Op.ChkRoom spot) (λ j v old w g. false≢true w) _ k h.1 in record { full = a.full; past = a.past; given = a.given }
after x code ls lines dropped type n l k (Op.Bounds i r cells field spot) s h = sets_own (Op.Bounds i r cells field spot) i (λ j. refl) l k (OfElement r field h.5.0) (λ _. tt) h.5.2
after x code ls lines dropped type n l k (Op.GlobalBounds i elements cells field spot) s h = sets_own (Op.GlobalBounds i elements cells field spot) i (λ j. refl) l k (OfGlobal field cells elements h.3.0) (λ p. p) h.3.2
after x code ls lines dropped type n l k (Op.Load i c spot) s h = let a = sets_plain (Op.Load i c spot) (λ j v old w g. none-some v g) (behind x dropped l false c spot) k i (Within h.width) tt h.next in record { full = a.full; past = a.past; given = a.given }
after x code ls lines dropped type n l k (Op.Store i c spot) s h = let a = same (Op.Store i c spot) (λ j v old w g. false≢true w) (gated (behind x dropped l true c spot) Closed) k h.next in record { full = a.full; past = a.past; given = a.given }
after x code ls lines dropped type n l k (Op.LoadRef r c spot) s h = let a = refills (Op.LoadRef r c spot) (λ j v old w g. false≢true w) (behind x false l false c spot) k r (Refers h.type) r false (λ v w. w) h.next in record { full = a.full; past = a.past; given = a.given }
after x code ls lines dropped type n l k (Op.StoreRef r c spot) s h = let a = stored (Op.StoreRef r c spot) (λ j v old w g. false≢true w) (behind x false l true c spot) k r type (λ v w. w) h.next in record { full = a.full; past = a.past; given = a.given }
after x code ls lines dropped type n l k (Op.LoadGuard c spot) s h = let a = same (Op.LoadGuard c spot) (λ j v old w g. false≢true w) _ k h.next in record { full = a.full; past = a.past; given = a.given }
after x code ls lines dropped type n l k (Op.New r count cells spot) s h = refills (Op.New r count cells spot) (λ j v old w g. false≢true w) l k r (Refers h.type) r true (λ v w. w) h.next
after x code ls lines dropped type n l k (Op.CondSignal c spot) s h = same (Op.CondSignal c spot) (λ j v old w g. false≢true w) l k h.2
after x code ls lines dropped type n l k (Op.CondBroadcast c spot) s h = same (Op.CondBroadcast c spot) (λ j v old w g. false≢true w) l k h.2
after x code ls lines dropped type n l k (Op.Print i spot) s h = same (Op.Print i spot) (λ j v old w g. false≢true w) l k h.1
after x code ls lines dropped type n l k o s h = absurd (false≢true s)
