-- Frames: what a label says of registers, when it says less, and when registers change.
use Rattle.sharc_invariant.proofs.Imports.{◌≡◌, ℕ, ℤ, pos, suc, ◌+◌, ◌<◌, ◌≤◌, ◌⊎◌, ◌≢◌, Bool, true, false, cond, List, [], ◌∷◌, Some, None, refl, sym, ap, ◌∙◌, subst, inl, inr, ⊎_elim, arith, eqb-false, ltb-true, nat_tests, map, nat_eq, nat_lt, ◌*◌, ◌/◌, ◌&&◌, not, filter, Width, Char, Int, Long, holds, Code, Frame, put, put_same, put_other, put_all, Passed, Targets, ObjectType, Mutex, Lock, StaticType, mutex_of, type_of, SomeNames, Mentions, cells_of, Through, Self, Entry, Empty, Refers, Unknown, Element, Number, Anything, Exactly, Within, Indexes, OfElement, OfGlobal, Pass, IsIn, Label, Labels, SameReference, Itself, IsCopy, HasCopy, Copies, Chained, SameLock, AllSame, SameType, LessEntry, Narrower, LessNumber, Less, EntryMentions, HasBase, IsScoped, fill, empty, without_copies, without_index, without_base, is_base, below, below_copy, below_number, below_pass, called_label, Calls, frame_at, BelowStands, View, EntryStands, NumberStands, PassStands, FrameStands, TopStands, refs_at, types_at, eq_refl, Machine, FRAMES, FramesStand, Option}
use Rattle.sharc_invariant.specs.Types.Lock.{Global}

-- ---- the same reference, lock, type
pub same_ref : (l : Label) (refs : ℕ → ℕ) → ((r : ℕ) → refs (l.same r) ≡ refs r) → (a b : ℕ) → SameReference l a b → refs a ≡ refs b
same_ref l refs st a b (Itself e) = ap refs e
same_ref l refs st a b (IsCopy e) = sym (st a) ∙ ap refs e
same_ref l refs st a b (HasCopy e) = sym (ap refs e) ∙ st b
same_ref l refs st a b (Copies e) = sym (st a) ∙ ap refs e ∙ st b
same_ref l refs st a b (Chained c p q) = same_ref l refs st a c p ∙ same_ref l refs st c b q

abbrev pub at_cell : ℕ → ℕ → Mutex
at_cell o j = record { object = o; cell = j }

pub same_lock : (l : Label) (refs : ℕ → ℕ) → ((r : ℕ) → refs (l.same r) ≡ refs r) → (r : ℕ) (a b : Lock) → SameLock l r a b → mutex_of refs (refs r) a ≡ mutex_of refs (refs r) b
same_lock l refs st r (Global i) (Global j) h = ap (at_cell 0) h
same_lock l refs st r (Through a i) (Through b j) h = ap (at_cell (refs a)) h.0 ∙ ap (λ o. at_cell o j) (same_ref l refs st a b h.1)
same_lock l refs st r (Self i) (Self j) h = ap (at_cell (refs r)) h
same_lock l refs st r (Self i) (Through b j) h = ap (at_cell (refs r)) h.0 ∙ ap (λ o. at_cell o j) (same_ref l refs st r b h.1)
same_lock l refs st r (Through a i) (Self j) h = ap (at_cell (refs a)) h.0 ∙ ap (λ o. at_cell o j) (sym (same_ref l refs st r a h.1))
same_lock l refs st r _ _ h = absurd h

pub map_same : {A B C : Type 0} (R : A → B → Type 0) (f : A → C) (g : B → C) → ((a : A) (b : B) → R a b → f a ≡ g b) → (xs : List A) (ys : List B) → AllSame R xs ys → map f xs ≡ map g ys
map_same R f g h [] [] k = refl
map_same R f g h (x ∷ xs) (y ∷ ys) k = let a = h x y k.0 in let b = map_same R f g h xs ys k.1 in cc
map_same R f g h [] (y ∷ ys) k = absurd k
map_same R f g h (x ∷ xs) [] k = absurd k

abbrev pub with_locks : ℕ → List Mutex → ObjectType
with_locks target locks = record { target = target; locks = locks }

pub same_type : (l : Label) (refs : ℕ → ℕ) → ((r : ℕ) → refs (l.same r) ≡ refs r) → (r : ℕ) (a b : StaticType) → SameType l r a b → type_of refs (refs r) a ≡ type_of refs (refs r) b
same_type l refs st r a b h =
    ap (λ t. with_locks t (map (mutex_of refs (refs r)) a.locks)) h.target
    ∙ ap (with_locks b.target) (map_same (SameLock l r) (mutex_of refs (refs r)) (mutex_of refs (refs r)) (same_lock l refs st r) a.locks b.locks h.locks)

-- ---- less is known
pub less_entry : (l : Label) (refs : ℕ → ℕ) (types : ℕ → ObjectType) → ((r : ℕ) → refs (l.same r) ≡ refs r) → (r : ℕ) (a b : Entry) → LessEntry l r a b → EntryStands refs types r a → EntryStands refs types r b
less_entry l refs types st r a Empty h k = subst (EntryStands refs types r) h k
less_entry l refs types st r a Unknown h k = tt
less_entry l refs types st r Unknown (Refers s) h k = absurd h
less_entry l refs types st r Empty (Refers s) h k = λ ne. absurd (ne k)
less_entry l refs types st r (Refers a) (Refers b) h k = λ ne. k ne ∙ same_type l refs st r a b h

pub wider : (v w : Width) (z : ℤ) → Narrower v w → holds v z ≡ true → holds w z ≡ true
wider Char Char z n h = h
wider Char Int (pos k) n h = grind (arith, nat_tests)
wider Char Long (pos k) n h = grind (arith, nat_tests)
wider Int Char z n h = absurd n
wider Int Int z n h = h
wider Int Long (pos k) n h = grind (arith, nat_tests)
wider Long Char z n h = absurd n
wider Long Int z n h = absurd n
wider Long Long z n h = h
wider _ _ _ n h = grind (arith, nat_tests)

pub less_number : (x : Targets) (elements refs : ℕ → ℕ) (types : ℕ → ObjectType) (names : ℕ → ℤ) (z : ℤ) (a b : Number) → LessNumber a b → NumberStands x elements refs types names z a → NumberStands x elements refs types names z b
less_number x elements refs types names z a Anything h k = tt
less_number x elements refs types names z (Within v) (Within w) h k = wider v w z h k
less_number x elements refs types names z (Exactly y) (Within w) h k = subst (λ (y : ℤ). holds w y ≡ true) (sym k) h
less_number x elements refs types names z a (Exactly y) h k = subst (NumberStands x elements refs types names z) h k
less_number x elements refs types names z a (Indexes n) h k = subst (NumberStands x elements refs types names z) h k
less_number x elements refs types names z a (OfElement b f e) h k = subst (NumberStands x elements refs types names z) h k
less_number x elements refs types names z a (OfGlobal f c n e) h k = subst (NumberStands x elements refs types names z) h k
less_number x elements refs types names z _ (Within w) h k = absurd (cc)

pub less_stands : (x : Targets) (t : ℕ) (v : View) (base ints : ℕ) (names : ℕ → ℤ) (l k : Label) → Less l k → TopStands x t v base ints names l → TopStands x t v base ints names k
less_stands x t v base ints names l k less top n m =
    let all : (r : ℕ) → refs_at v base (l.same r) ≡ refs_at v base r = λ r. (top (suc r) 0).same r (omega arith) in
    record {
      env = λ r _. less_entry l (refs_at v base) (types_at v base) all r (l.env r) (k.env r) (less.env r) ((top (suc r) 0).env r (omega arith));
      same = λ r _. sym (same_ref l (refs_at v base) all r (k.same r) (less.same r));
      known = λ r _ e. (top (suc r) 0).known r (omega arith) (less.known r e);
      numbers = λ i _. less_number x v.elements (refs_at v base) (types_at v base) names (v.vals (ints + i)) (l.ints i) (k.ints i) (less.ints i) ((top 0 (suc i)).numbers i (omega arith));
      passed = λ p h. (top 0 0).passed p (less.passed p h);
    }

-- ---- types and indexes that name no register that changes
pub names_kept : (f g : ℕ → ℕ) (o : ℕ) (ls : List Lock) → ((q : ℕ) → SomeNames q ls → f q ≡ g q) → map (mutex_of f o) ls ≡ map (mutex_of g o) ls
names_kept f g o [] h = refl
names_kept f g o (Global j ∷ ls) h = let b = names_kept f g o ls (λ q s. h q (inr s)) in cc
names_kept f g o (Self j ∷ ls) h = let b = names_kept f g o ls (λ q s. h q (inr s)) in cc
names_kept f g o (Through r j ∷ ls) h = let a = h r (inl refl) in let b = names_kept f g o ls (λ q s. h q (inr s)) in cc

pub type_kept : (f g : ℕ → ℕ) (o : ℕ) (s : StaticType) → ((q : ℕ) → Mentions s q → f q ≡ g q) → type_of f o s ≡ type_of g o s
type_kept f g o s h = ap (with_locks s.target) (names_kept f g o s.locks h)

pub entry_kept : (f g : ℕ → ℕ) (ty tz : ℕ → ObjectType) (r : ℕ) (e : Entry) → f r ≡ g r → ty r ≡ tz r → ((q : ℕ) → EntryMentions e q → f q ≡ g q) → EntryStands f ty r e → EntryStands g tz r e
entry_kept f g ty tz r Empty e et h k = sym e ∙ k
entry_kept f g ty tz r Unknown e et h k = tt
entry_kept f g ty tz r (Refers s) e et h k = λ ne. sym et ∙ k (λ z. ne (sym e ∙ z)) ∙ ap (λ o. type_of f o s) e ∙ type_kept f g (g r) s h

-- the base of an index, if it has one
pub number_kept : (x : Targets) (el el' : ℕ → ℕ) (f g : ℕ → ℕ) (ty tz : ℕ → ObjectType) (names : ℕ → ℤ) (z : ℤ) (n : Number)
    → ((b field : ℕ) (e : Element) → n ≡ OfElement b field e → (f b ≡ g b) × (ty b ≡ tz b) × (el (f b) ≡ el' (f b))) → NumberStands x el f ty names z n → NumberStands x el' g tz names z n
number_kept x el el' f g ty tz names z Anything h k = tt
number_kept x el el' f g ty tz names z (OfElement b field e) h k =
    let q = h b field e refl in
    let lt : k.0 < el' (g b) = let a : el (f b) ≡ el' (g b) = q.2 ∙ ap el' q.0 in let c = k.1 in omega arith in
    let is : z ≡ pos (k.0 * cells_of x (tz b).target + field) = k.2 ∙ ap (λ (t : ObjectType). pos (k.0 * cells_of x t.target + field)) q.1 in
    (k.0, lt, is, k.3)
number_kept x el el' f g ty tz names z _ h k = k

-- a pass that is left when those on a register are forgotten
pub kept_pass : (d : ℕ) (ps : List Pass) (p : Pass) → IsIn p (without_base d ps) → IsIn p ps × ((c : ℕ) → p.base ≡ Some c → c ≡ d → ⊥)
kept_pass d [] p = λ h. absurd h
kept_pass d (q ∷ ps) p = elim (is_base d q.base) as (λ y. is_base d q.base ≡ y → IsIn p (cond (not y) (q ∷ without_base d ps) (without_base d ps)) → IsIn p (q ∷ ps) × ((c : ℕ) → p.base ≡ Some c → c ≡ d → ⊥)) [
  | true ↦ λ e h. let r = kept_pass d ps p h in (inr r.0, r.1)
  | false ↦ λ e. ⊎_elim
      (λ (i : q ≡ p). (inl i, λ c eb ed. let x : is_base d (Some d) ≡ false = ap (is_base d) (ap Some (sym ed) ∙ sym eb ∙ ap (λ (y : Pass). y.base) (sym i)) ∙ e in let y = eq_refl d in cc))
      (λ h. let r = kept_pass d ps p h in (inr r.0, r.1))
] refl

-- ---- a register that held NULL is filled
abbrev pub filled : View → ℕ → ℕ → ObjectType → View
filled v i o ty = record v { refs = put v.refs i o; types = put v.types i ty }

pub put_base : {A : Type 0} (f : ℕ → A) (base d r : ℕ) (a : A) → (r ≡ d → ⊥) → put f (base + d) a (base + r) ≡ f (base + r)
put_base f base d r a ne = put_other f (base + d) (base + r) a (λ e. ne (omega arith))

-- what is held by a register that the label fills
abbrev pub FilledStands : (ℕ → ℕ) → ℕ → ObjectType → Entry → Type 0
FilledStands refs o ty Empty = o ≡ 0
FilledStands refs o ty (Refers s) = o ≢ 0 → ty ≡ type_of refs o s
FilledStands refs o ty Unknown = Unit {0}

pub fill_stands : (x : Targets) (t : ℕ) (v : View) (base ints : ℕ) (names : ℕ → ℤ) (l : Label) (lim_i lim : ℕ) (d : ℕ) (o : ℕ) (ty : ObjectType) (e : Entry) (s : ℕ) (b : Bool)
    → IsScoped lim_i lim l → l.env d ≡ Empty → (EntryMentions e d → ⊥) → FilledStands (refs_at v base) o ty e → (s ≡ d) ⊎ ((s ≡ d → ⊥) × (refs_at v base s ≡ o)) → (b ≡ true → o ≢ 0)
    → TopStands x t v base ints names l → TopStands x t (filled v (base + d) o ty) base ints names (fill l d e s b)
fill_stands x t v base ints names l lim_i lim d o ty e s b sc gone fresh here copy known top n m =
    let v' = filled v (base + d) o ty in
    let f = refs_at v base in
    let g = refs_at v' base in
    let at : (r : ℕ) → (r ≡ d → ⊥) → f r ≡ g r = λ r ne. sym (put_base v.refs base d r o ne) in
    let att : (r : ℕ) → (r ≡ d → ⊥) → types_at v base r ≡ types_at v' base r = λ r ne. sym (put_base v.types base d r ty ne) in
    let g_d : g d ≡ o = put_same v.refs (base + d) o in
    let t_d : types_at v' base d ≡ ty = put_same v.types (base + d) ty in
    let not_d : (r : ℕ) → l.env r ≢ Empty → r ≡ d → ⊥ = λ r ne q. ne (ap l.env q ∙ gone) in
    let new : EntryStands g (types_at v' base) d e = elim e as (λ e. (EntryMentions e d → ⊥) → FilledStands f o ty e → EntryStands g (types_at v' base) d e) [
      | Empty ↦ λ _ k. g_d ∙ k
      | Unknown ↦ λ _ k. k
      | Refers st ↦ λ fr k ne. t_d ∙ k (λ z. ne (g_d ∙ z)) ∙ ap (λ p. type_of f p st) (sym g_d) ∙ type_kept f g (g d) st (λ q mq. at q (λ i. fr (subst (Mentions st) i mq)))
    ] fresh here in
    record {
      env = λ r _. put_all (λ r (y : Entry). EntryStands g (types_at v' base) r y) l.env d e new
          (λ r ne. entry_kept f g (types_at v base) (types_at v' base) r (l.env r) (at r ne) (att r ne) (λ q mq. at q (not_d q (sc.paths r q mq))) ((top (suc r) 0).env r (omega arith))) r;
      same = λ r _. put_all (λ r y. g y ≡ g r) l.same d s
          (⊎_elim (λ (k : s ≡ d). ap g k) (λ (k : (s ≡ d → ⊥) × (f s ≡ o)). sym (at s k.0) ∙ k.1 ∙ sym g_d) copy)
          (λ r ne. ⊎_elim (λ (k : l.same r ≡ r). ap g k) (λ (k : l.env (l.same r) ≢ Empty). sym (at (l.same r) (not_d (l.same r) k)) ∙ (top (suc r) 0).same r (omega arith) ∙ at r ne) (sc.copies r)) r;
      known = λ r _. put_all (λ r y. y ≡ true → g r ≢ 0) l.known d b
          (λ k z. known k (sym g_d ∙ z))
          (λ r ne k z. (top (suc r) 0).known r (omega arith) k (at r ne ∙ z)) r;
      numbers = λ i _. number_kept x v.elements v.elements f g (types_at v base) (types_at v' base) names (v.vals (ints + i)) (l.ints i)
          (λ c field el q. let nd = not_d c (sc.bases i c (subst (λ n. HasBase n c) (sym q) refl)) in (at c nd, att c nd, refl)) ((top 0 (suc i)).numbers i (omega arith));
      passed = λ p h. elim p.base as (λ y. p.base ≡ y → PassStands v.gran t f p y → PassStands v.gran t g p y) [
        | None ↦ λ _ k. k
        | Some c ↦ λ q k. let nd = not_d c (sc.passes p c h q) in let P : ℕ → Type 0 = λ o. o ≢ 0 → Passed (v.gran o (p.cell / 2)) t p.write in subst P (at c nd) k
      ] refl ((top 0 0).passed p h);
    }

-- ---- a register that nothing names is emptied
pub empty_stands : (x : Targets) (t : ℕ) (v : View) (base ints : ℕ) (names : ℕ → ℤ) (l : Label) (d : ℕ) (ty : ObjectType)
    → ((q : ℕ) → q ≢ d → EntryMentions (l.env q) d → ⊥)
    → TopStands x t v base ints names l → TopStands x t (filled v (base + d) 0 ty) base ints names (empty l d)
empty_stands x t v base ints names l d ty free top n m =
    let v' = filled v (base + d) 0 ty in
    let f = refs_at v base in
    let g = refs_at v' base in
    let at : (r : ℕ) → (r ≡ d → ⊥) → f r ≡ g r = λ r ne. sym (put_base v.refs base d r 0 ne) in
    let att : (r : ℕ) → (r ≡ d → ⊥) → types_at v base r ≡ types_at v' base r = λ r ne. sym (put_base v.types base d r ty ne) in
    let g_d : g d ≡ 0 = put_same v.refs (base + d) 0 in
    record {
      env = λ r _. put_all (λ r (y : Entry). EntryStands g (types_at v' base) r y) l.env d Empty g_d
          (λ r ne. entry_kept f g (types_at v base) (types_at v' base) r (l.env r) (at r ne) (att r ne) (λ q mq. at q (λ i. free r ne (subst (EntryMentions (l.env r)) i mq))) ((top (suc r) 0).env r (omega arith))) r;
      same = λ r _. put_all (λ r y. g y ≡ g r) (without_copies l.same d) d d refl
          (λ r ne. elim (nat_eq (l.same r) d) as (λ y. nat_eq (l.same r) d ≡ y → g (cond y r (l.same r)) ≡ g r) [
            | true ↦ λ _. refl
            | false ↦ λ q. let nd : l.same r ≡ d → ⊥ = eqb-false (l.same r) d q in sym (at (l.same r) nd) ∙ (top (suc r) 0).same r (omega arith) ∙ at r ne
          ] refl) r;
      known = λ r _. put_all (λ r y. y ≡ true → g r ≢ 0) l.known d false (λ k. absurd (cc)) (λ r ne k z. (top (suc r) 0).known r (omega arith) k (at r ne ∙ z)) r;
      numbers = λ i _. elim (l.ints i) as (λ n. NumberStands x v.elements f (types_at v base) names (v.vals (ints + i)) n → NumberStands x v.elements g (types_at v' base) names (v.vals (ints + i)) (without_index d n)) [
        | Anything ↦ λ k. tt
        | Exactly y ↦ λ k. k
        | Within w ↦ λ k. k
        | Indexes name ↦ λ k. k
        | OfElement b field e ↦ λ k. elim (nat_eq b d) as (λ y. nat_eq b d ≡ y → NumberStands x v.elements g (types_at v' base) names (v.vals (ints + i)) (cond y Anything (OfElement b field e))) [
          | true ↦ λ _. tt
          | false ↦ λ q. let nd : b ≡ d → ⊥ = eqb-false b d q in number_kept x v.elements v.elements f g (types_at v base) (types_at v' base) names (v.vals (ints + i)) (OfElement b field e)
              (λ c h el w. let eb : c ≡ b = cc in let nc : c ≡ d → ⊥ = λ z. nd (sym eb ∙ z) in (at c nc, att c nc, refl)) k
        ] refl
        | OfGlobal first c all e ↦ λ k. k
      ] ((top 0 (suc i)).numbers i (omega arith));
      passed = λ p h. let w = kept_pass d l.passed p h in elim p.base as (λ y. p.base ≡ y → PassStands v.gran t f p y → PassStands v.gran t g p y) [
        | None ↦ λ _ k. k
        | Some c ↦ λ q k. let nd : c ≡ d → ⊥ = w.1 c q in let P : ℕ → Type 0 = λ o. o ≢ 0 → Passed (v.gran o (p.cell / 2)) t p.write in subst P (at c nd) k
      ] refl ((top 0 0).passed p w.0);
    }

-- ---- two views that agree
-- on the registers of which this holds
pub record Agrees (t : ℕ) (v v' : View) (On : ℕ → Type 0) (OnInt : ℕ → Type 0) : Type 0 where
  pub refs : (i : ℕ) → On i → v.refs i ≡ v'.refs i
  pub types : (i : ℕ) → On i → v.types i ≡ v'.types i
  pub vals : (i : ℕ) → OnInt i → v.vals i ≡ v'.vals i
  pub elements : (i : ℕ) → On i → v.elements (v.refs i) ≡ v'.elements (v.refs i)
  pub passed : (o g : ℕ) (k : Bool) → (o ≡ 0) ⊎ ((i : ℕ) × (On i × ((v.refs i ≡ o) × (o ≢ 0)))) → Passed (v.gran o g) t k → Passed (v'.gran o g) t k

-- what a label names of the first n registers and k integers is among them
pub record IsInside (l : Label) (n k : ℕ) : Type 0 where
  pub paths : (r q : ℕ) → r < n → EntryMentions (l.env r) q → q < n
  pub copies : (r : ℕ) → r < n → l.same r < n
  pub bases : (i b : ℕ) → i < k → HasBase (l.ints i) b → b < n
  pub passes : (p : Pass) (b : ℕ) → IsIn p l.passed → p.base ≡ Some b → b < n

frame_agrees : (x : Targets) (t : ℕ) (v v' : View) (On OnInt : ℕ → Type 0) (base ints : ℕ) (names : ℕ → ℤ) (l : Label) (n k : ℕ) → Agrees t v v' On OnInt
    → ((r : ℕ) → r < n → On (base + r)) → ((i : ℕ) → i < k → OnInt (ints + i))
    → ((r q : ℕ) → r < n → EntryMentions (l.env r) q → On (base + q)) → ((r : ℕ) → r < n → On (base + l.same r)) → ((i b : ℕ) → i < k → HasBase (l.ints i) b → On (base + b))
    → ((p : Pass) (b : ℕ) → IsIn p l.passed → p.base ≡ Some b → On (base + b))
    → FrameStands x t v base ints names l n k → FrameStands x t v' base ints names l n k
frame_agrees x t v v' On OnInt base ints names l n k a at at_int paths copies bases passes st =
    let f = refs_at v base in
    let g = refs_at v' base in
    record {
      env = λ r lt. entry_kept f g (types_at v base) (types_at v' base) r (l.env r) (a.refs (base + r) (at r lt)) (a.types (base + r) (at r lt)) (λ q mq. a.refs (base + q) (paths r q lt mq)) (st.env r lt);
      same = λ r lt. sym (a.refs (base + l.same r) (copies r lt)) ∙ st.same r lt ∙ a.refs (base + r) (at r lt);
      known = λ r lt e z. st.known r lt e (a.refs (base + r) (at r lt) ∙ z);
      numbers = λ i lt.
          let P : ℤ → Type 0 = λ z. NumberStands x v'.elements g (types_at v' base) names z (l.ints i) in
          subst P (a.vals (ints + i) (at_int i lt)) (number_kept x v.elements v'.elements f g (types_at v base) (types_at v' base) names (v.vals (ints + i)) (l.ints i)
          (λ b field e q. let on = bases i b lt (subst (λ y. HasBase y b) (sym q) refl) in (a.refs (base + b) on, a.types (base + b) on, a.elements (base + b) on)) (st.numbers i lt));
      passed = λ p h. elim p.base as (λ y. p.base ≡ y → PassStands v.gran t f p y → PassStands v'.gran t g p y) [
        | None ↦ λ _. a.passed 0 (p.cell / 2) p.write (inl refl)
        | Some b ↦ λ q w ne.
            let on = passes p b h q in
            let e = a.refs (base + b) on in
            let nz : f b ≢ 0 = λ z. ne (sym e ∙ z) in
            let P : ℕ → Type 0 = λ o. Passed (v'.gran o (p.cell / 2)) t p.write in
            subst P e (a.passed (f b) (p.cell / 2) p.write (inr (base + b, (on, (refl, nz)))) (w nz))
      ] refl (st.passed p h);
    }

abbrev pub Always : ℕ → Type 0
Always i = Unit {0}

pub top_agrees : (x : Targets) (t : ℕ) (v v' : View) (base ints : ℕ) (names : ℕ → ℤ) (l : Label) → Agrees t v v' Always Always → TopStands x t v base ints names l → TopStands x t v' base ints names l
top_agrees x t v v' base ints names l a top n k = frame_agrees x t v v' Always Always base ints names l n k a (λ r _. tt) (λ i _. tt) (λ r q _ _. tt) (λ r _. tt) (λ i b _ _. tt) (λ p b _ _. tt) (top n k)

-- ---- the callers
below_env : (k : ℕ) (f : ℕ → Entry) (a b : Entry) (r : ℕ) → r < k → below k f a b r ≡ f r
below_env k f a b r lt = let e : nat_lt r k ≡ true = grind (arith, nat_tests) in rw e refl

pub copy_inside : (k : ℕ) (f : ℕ → ℕ) (r : ℕ) → r < k → below_copy k f r < k
copy_inside k f r lt = elim (nat_lt r k && nat_lt (f r) k) as (λ y. (nat_lt r k && nat_lt (f r) k) ≡ y → cond y (f r) r < k) [ true ↦ λ e. grind (arith, nat_tests) | false ↦ λ e. lt ] refl

base_inside : (k : ℕ) (n : Number) (b : ℕ) → HasBase (below_number k n) b → b < k
base_inside k (OfElement c f e) b = elim (nat_lt c k) as (λ y. nat_lt c k ≡ y → HasBase (cond y (OfElement c f e) Anything) b → b < k) [
  | true ↦ λ q h. let lt : c < k = ltb-true c k q in subst (λ b. b < k) h lt
  | false ↦ λ q h. absurd h
] refl
base_inside k _ b = λ h. absurd h

pass_inside : (k : ℕ) (ps : List Pass) (p : Pass) (b : ℕ) → IsIn p (filter (λ p. below_pass k p.base) ps) → p.base ≡ Some b → b < k
pass_inside k [] p b = λ h. absurd h
pass_inside k (q ∷ ps) p b = elim (below_pass k q.base) as (λ y. below_pass k q.base ≡ y → IsIn p (cond y (q ∷ filter (λ p. below_pass k p.base) ps) (filter (λ p. below_pass k p.base) ps)) → p.base ≡ Some b → b < k) [
  | true ↦ λ e h eb. ⊎_elim
      (λ (i : q ≡ p). let z : nat_lt b k ≡ true = sym (ap (below_pass k) (ap (λ (y : Pass). y.base) i ∙ eb)) ∙ e in ltb-true b k z)
      (λ h. pass_inside k ps p b h eb) h
  | false ↦ λ e h eb. pass_inside k ps p b h eb
] refl

called_inside : (code : Code) (ls : Labels) (l : Label) (to ints refs f : ℕ) → Calls code ls l to ints refs f → IsInside (called_label ls l f ints refs) refs ints
called_inside code ls l to ints refs f c = record {
  paths = λ r q lt h. c.stays r q lt (subst (λ e. EntryMentions e q) (below_env refs l.env (ls.signature f).result Empty r lt) h);
  copies = λ r lt. copy_inside refs l.same r lt;
  bases = λ i b lt h. base_inside refs (below ints l.ints (ls.signature f).result_int Anything i) b h;
  passes = λ p b h e. pass_inside refs l.passed p b h e;
}

abbrev pub Low : ℕ → ℕ → Type 0
Low n i = i < n

agrees_below : (t : ℕ) (v v' : View) (a b c d : ℕ) → c ≤ a → d ≤ b → Agrees t v v' (Low a) (Low b) → Agrees t v v' (Low c) (Low d)
agrees_below t v v' a b c d le le' h = record {
  refs = λ i lt. h.refs i (omega arith);
  types = λ i lt. h.types i (omega arith);
  vals = λ i lt. h.vals i (omega arith);
  elements = λ i lt. h.elements i (omega arith);
  passed = λ o g k w p. h.passed o g k (⊎_elim (λ z. inl z) (λ z. let lt = z.1.0 in inr (z.0, (omega arith, z.1.1))) w) p;
}

pub callers_agree : (x : Targets) (code : Code) (ls : Labels) (t : ℕ) (v v' : View) (frames : List Frame) (d base ints f : ℕ) → Agrees t v v' (Low base) (Low ints)
    → BelowStands x code ls t v frames d base ints f → BelowStands x code ls t v' frames d base ints f
callers_agree x code ls t v v' frames (suc (suc d)) base ints f a h =
    let k = h.1 in
    let fr = frame_at frames (suc d) in
    let base_is = k.base_is in
    let ints_are = k.ints_are in
    let inside = called_inside code ls (ls.at k.call) k.to k.first k.refs f k.calls in (
      h.0,
      record {
        call = k.call;
        refs = k.refs;
        first = k.first;
        to = k.to;
        site = k.site;
        place = k.place;
        is_call = k.is_call;
        calls = k.calls;
        leads = k.leads;
        caller = k.caller;
        alone = k.alone;
        base_is = k.base_is;
        ints_are = k.ints_are;
        names = k.names;
        frame = frame_agrees x t v v' (Low base) (Low ints) fr.refs fr.ints k.names (called_label ls (ls.at k.call) f k.first k.refs) k.refs k.first a
            (λ r lt. omega arith) (λ i lt. omega arith)
            (λ r q lt h. let z = inside.paths r q lt h in omega arith) (λ r lt. let z = inside.copies r lt in omega arith) (λ i b lt h. let z = inside.bases i b lt h in omega arith)
            (λ p b h e. let z = inside.passes p b h e in omega arith) k.frame;
      },
      callers_agree x code ls t v v' frames (suc d) fr.refs fr.ints h.0 (agrees_below t v v' base ints fr.refs fr.ints (omega arith) (omega arith) a) h.2,
    )
callers_agree x code ls t v v' frames _ base ints f a h = h

-- the frames of a machine whose places on them are as before
pub frames_same : (x : Targets) (code : Code) (ls : Labels) (t : ℕ) (v : View) (m m' : Machine) → m'.frames ≡ m.frames → m'.at.depth ≡ m.at.depth → m'.at.refs ≡ m.at.refs → m'.at.ints ≡ m.at.ints
    → (f : Option ℕ) → FramesStand x code ls t v m f → FramesStand x code ls t v m' f
frames_same x code ls t v m m' ef ed er ei None h = (ed ∙ h.0, er ∙ h.1, ei ∙ h.2)
frames_same x code ls t v m m' ef ed er ei (Some f) h =
    let P : List Frame → ℕ → ℕ → ℕ → Type 0 = λ fs d b c. BelowStands x code ls t v fs d b c f in (
      subst (λ fs. P fs m'.at.depth m'.at.refs m'.at.ints) (sym ef) (subst (λ d. P m.frames d m'.at.refs m'.at.ints) (sym ed)
          (subst (λ b. P m.frames m.at.depth b m'.at.ints) (sym er) (subst (λ c. P m.frames m.at.depth m.at.refs c) (sym ei) h.0))),
      subst (λ d. d ≤ FRAMES) (sym ed) h.1,
      h.2,
    )

-- and where the views agree below the frame on top
pub frames_agree : (x : Targets) (code : Code) (ls : Labels) (t : ℕ) (v v' : View) (m m' : Machine) → Agrees t v v' (Low m.at.refs) (Low m.at.ints) → m'.frames ≡ m.frames → m'.at.depth ≡ m.at.depth → m'.at.refs ≡ m.at.refs → m'.at.ints ≡ m.at.ints
    → (f : Option ℕ) → FramesStand x code ls t v m f → FramesStand x code ls t v' m' f
frames_agree x code ls t v v' m m' a ef ed er ei None h = frames_same x code ls t v' m m' ef ed er ei None h
frames_agree x code ls t v v' m m' a ef ed er ei (Some f) h = frames_same x code ls t v' m m' ef ed er ei (Some f) (callers_agree x code ls t v v' m.frames m.at.depth m.at.refs m.at.ints f a h.0, h.1, h.2)
