-- What is remembered before each line goes on to the next one, and a check that is dropped repeats one that is remembered.
use Rattle.sharc_typed_laws.proofs.Imports.{◌≡◌, ℕ, zero, suc, ◌+◌, ◌-◌, ◌*◌, ◌≤◌, Bool, true, false, cond, ◌&&◌, ◌||◌, List, [], ◌∷◌, ◌++◌, Option, Some, None, refl, sym, ap, ◌∙◌, subst, inl, inr, ⊎_elim, arith, ◌⊎◌, nat_tests, same_Some, none-some, slice_get, nat_lt, not, filter, if◌then◌else◌, Read, Write, Code, PlaceMode, Cell, Op, Spot, Flat, is_straight, is_target, is_dynamic, SimplePlace, in_variable, assigns, same_place, counts, Access, access, tells, Know, variable_place, global_place, is_at, place_of, passes_by, know_next, known, has_passed, drops, Targets, Field, cells_of, Element, Named, Nth, Number, OfElement, OfGlobal, Pass, IsIn, Label, is_base, without_base, HasField, Covers, global_pass, global_element_pass, element_pass, pass_of, with_pass, passed_behind, is_write, pass_at, pass_of_place, pass_by, stays, passes_next, passes_before, with_passes, remembered, IsNumberOf, Knows, and_left, or_either, and_right, never as nothing_passed}
use Rattle.sharc_heap.specs.declared.shadow_word.Kind.{Kind}
use Rattle.sharc_guard.specs.Known.{in_global}

-- ---- lists
in_filter : (f : Pass → Bool) (ps : List Pass) (p : Pass) → IsIn p ps → f p ≡ true → IsIn p (filter f ps)
in_filter f [] p h e = h
in_filter f (q ∷ ps) p h e = elim (f q) as (λ b. f q ≡ b → IsIn p (cond b (q ∷ filter f ps) (filter f ps))) [
  | true ↦ λ _. ⊎_elim (λ (i : q ≡ p). inl i) (λ k. inr (in_filter f ps p k e)) h
  | false ↦ λ z. ⊎_elim (λ (i : q ≡ p). let y : false ≡ true = sym z ∙ ap f i ∙ e in absurd (cc)) (λ k. in_filter f ps p k e) h
] refl

pub of_filter : (f : Pass → Bool) (ps : List Pass) (p : Pass) → IsIn p (filter f ps) → IsIn p ps × (f p ≡ true)
of_filter f [] p = λ h. absurd h
of_filter f (q ∷ ps) p = elim (f q) as (λ b. f q ≡ b → IsIn p (cond b (q ∷ filter f ps) (filter f ps)) → IsIn p (q ∷ ps) × (f p ≡ true)) [
  | true ↦ λ z h. ⊎_elim (λ (i : q ≡ p). (inl i, sym (ap f i) ∙ z)) (λ k. let r = of_filter f ps p k in (inr r.0, r.1)) h
  | false ↦ λ z h. let r = of_filter f ps p h in (inr r.0, r.1)
] refl

in_left : (ps qs : List Pass) (p : Pass) → IsIn p ps → IsIn p (ps ++ qs)
in_left [] qs p h = absurd h
in_left (q ∷ ps) qs p h = ⊎_elim (λ (i : q ≡ p). inl i) (λ k. inr (in_left ps qs p k)) h

in_right : (ps qs : List Pass) (p : Pass) → IsIn p qs → IsIn p (ps ++ qs)
in_right [] qs p h = h
in_right (q ∷ ps) qs p h = inr (in_right ps qs p h)

pub of_both : (ps qs : List Pass) (p : Pass) → IsIn p (ps ++ qs) → IsIn p ps ⊎ IsIn p qs
of_both [] qs p h = inr h
of_both (q ∷ ps) qs p h = ⊎_elim (λ (i : q ≡ p). inl (inl i)) (λ k. ⊎_elim (λ (m : IsIn p ps). inl (inr m)) (λ m. inr m) (of_both ps qs p k)) h

-- ---- what is known was checked
pub record WasPassed (kind : Kind) (place : SimplePlace) (passes : List Pass) : Type 0 where
  pub by : Kind
  pub counted : counts by kind ≡ true
  pub among : IsIn (pass_at by place) passes

counts_through : (a b c : Kind) → counts a b ≡ true → counts b c ≡ true → counts a c ≡ true
counts_through Write b c g h = refl
counts_through Read Read c g h = h
counts_through Read Write c g h = absurd (cc)

pub covers : (a b : Kind) → counts a b ≡ true → Covers (is_write a) (is_write b)
covers Write b h = tt
covers Read Read h = refl
covers Read Write h = absurd (cc)

same_is : (a b : SimplePlace) → same_place a b ≡ true → b ≡ a
same_is (in_variable x n) (in_variable y m) h = let e : x ≡ y = grind (arith, nat_tests, h) in let f : m ≡ n = grind (arith, nat_tests, h) in (ap (λ z. in_variable z m) (sym e) ∙ ap (in_variable x) f)
same_is (in_global g n) (in_global k m) h = let e : g ≡ k = grind (arith, nat_tests, h) in let f : m ≡ n = grind (arith, nat_tests, h) in (ap (λ z. in_global z m) (sym e) ∙ ap (in_global g) f)
same_is (in_variable x n) (in_global g m) h = absurd (cc)
same_is (in_global g n) (in_variable x m) h = absurd (cc)

not_left : (a b : Bool) → not (a || b) ≡ true → not a ≡ true
not_left true b e = e
not_left false b e = refl

not_right : (a b : Bool) → not (a || b) ≡ true → not b ≡ true
not_right true b e = absurd (cc)
not_right false b e = e

stays_at : (o : Op) (kind : Kind) (place : SimplePlace) → not (assigns o place) ≡ true → stays o (pass_at kind place).base ≡ true
stays_at o kind (in_variable x n) e = e
stays_at o kind (in_global g n) e = refl

-- the check of an access that is dropped was passed before
drops_passed : (k : Know) (o : Op) (a : Access) → access o ≡ Some a → drops k o ≡ true → has_passed k a.kind (place_of k a.cell) ≡ true
drops_passed k (Op.Load i c spot) a e d = let same = same_Some _ a e in subst (λ (a : Access). has_passed k a.kind (place_of k a.cell) ≡ true) same (and_right (tells spot) (has_passed k Read (place_of k c)) d)
drops_passed k (Op.Store i c spot) a e d = let same = same_Some _ a e in subst (λ (a : Access). has_passed k a.kind (place_of k a.cell) ≡ true) same (and_right (tells spot) (has_passed k Write (place_of k c)) d)
drops_passed k o a e d = absurd (cc)

module _ (o : Op) (k : Know) (passes : List Pass) (old : (kind : Kind) (place : SimplePlace) → k.passed kind place ≡ true → WasPassed kind place passes) where
  abbrev News : Bool → Option Access → List Pass
  News d a = if d then [] else pass_by k a

  by_place : (d : Bool) (a : Access) (kind : Kind) (place : SimplePlace) (at : Option SimplePlace) → place_of k a.cell ≡ at → (d ≡ true → has_passed k a.kind at ≡ true) → tells a.spot ≡ true → counts a.kind kind ≡ true → is_at at place ≡ true → WasPassed kind place (News d (Some a) ++ passes)
  by_place d a kind place None e dropped tell count here = absurd (cc)
  by_place true a kind place (Some at) e dropped tell count here =
      let same : at ≡ place = same_is place at here in
      let w = old a.kind at (dropped refl) in
      record { by = w.by; counted = counts_through w.by a.kind kind w.counted count; among = subst (λ p. IsIn (pass_at w.by p) passes) same w.among }
  by_place false a kind place (Some at) e dropped tell count here =
      let same : at ≡ place = same_is place at here in
      let whole : pass_by k (Some a) ≡ pass_at a.kind at ∷ [] = ap (λ b. cond b (pass_of_place a.kind (place_of k a.cell)) []) tell ∙ ap (pass_of_place a.kind) e in
      record { by = a.kind; counted = count; among = in_left (pass_by k (Some a)) passes (pass_at a.kind place) (subst (IsIn (pass_at a.kind place)) (sym whole) (inl (ap (pass_at a.kind) same))) }

  by_access : (d : Bool) (acc : Option Access) → ((a : Access) → acc ≡ Some a → d ≡ true → has_passed k a.kind (place_of k a.cell) ≡ true) → (kind : Kind) (place : SimplePlace) → passes_by acc k kind place ≡ true → WasPassed kind place (News d acc ++ passes)
  by_access d None dropped kind place e = absurd (cc)
  by_access d (Some a) dropped kind place e =
      let tell = and_left (tells a.spot) (counts a.kind kind && is_at (place_of k a.cell) place) e in
      let rest = and_right (tells a.spot) (counts a.kind kind && is_at (place_of k a.cell) place) e in
      by_place d a kind place (place_of k a.cell) refl (dropped a refl) tell (and_left (counts a.kind kind) (is_at (place_of k a.cell) place) rest) (and_right (counts a.kind kind) (is_at (place_of k a.cell) place) rest)

  next_passed : (kind : Kind) (place : SimplePlace) → ((k.passed kind place || passes_by (access o) k kind place) && not (assigns o place)) ≡ true → WasPassed kind place (filter (λ p. stays o p.base) (News (drops k o) (access o) ++ passes))
  next_passed kind place e =
      let stay = and_right (k.passed kind place || passes_by (access o) k kind place) (not (assigns o place)) e in
      let w : WasPassed kind place (News (drops k o) (access o) ++ passes) =
      ⊎_elim (λ (h : k.passed kind place ≡ true). let w = old kind place h in record { by = w.by; counted = w.counted; among = in_right (News (drops k o) (access o)) passes (pass_at w.by place) w.among })
      (λ h. by_access (drops k o) (access o) (λ a is d. drops_passed k o a is d) kind place h)
      (or_either (k.passed kind place) (passes_by (access o) k kind place) (and_left (k.passed kind place || passes_by (access o) k kind place) (not (assigns o place)) e)) in
      record { by = w.by; counted = w.counted; among = in_filter (λ p. stays o p.base) (News (drops k o) (access o) ++ passes) (pass_at w.by place) w.among (stays_at o w.by place stay) }

pub was_passed : (flat : Flat) (n : ℕ) (kind : Kind) (place : SimplePlace) → (known flat n).passed kind place ≡ true → WasPassed kind place (passes_before flat n)
was_passed flat zero kind place = λ e. nothing_passed e
was_passed flat (suc n) kind place =
    elim (is_target flat (suc n)) as (λ b. (if b then Rattle.sharc_guard.specs.Known.nothing else Rattle.sharc_guard.specs.Known.know_after (slice_get flat.lines n) (known flat n)).passed kind place ≡ true
    → WasPassed kind place (if b then [] else Rattle.sharc_typed_laws.specs.Passes.passes_after (slice_get flat.lines n) (known flat n) (passes_before flat n))) [
      | true ↦ λ e. nothing_passed e
      | false ↦ by_line (was_passed flat n) (slice_get flat.lines n)
    ]
  where
    by_line : ((kind : Kind) (place : SimplePlace) → (known flat n).passed kind place ≡ true → WasPassed kind place (passes_before flat n)) → (o : Option Op) → (Rattle.sharc_guard.specs.Known.know_after o (known flat n)).passed kind place ≡ true → WasPassed kind place (Rattle.sharc_typed_laws.specs.Passes.passes_after o (known flat n) (passes_before flat n))
    by_line old None = λ e. nothing_passed e
    by_line old (Some o) =
        elim (is_straight o) as (λ b. (if b then know_next o (known flat n) else Rattle.sharc_guard.specs.Known.nothing).passed kind place ≡ true
        → WasPassed kind place (if b then filter (λ p. stays o p.base) ((if drops (known flat n) o then [] else pass_by (known flat n) (access o)) ++ passes_before flat n) else [])) [
          | true ↦ λ e. next_passed o (known flat n) (passes_before flat n) old kind place e
          | false ↦ λ e. nothing_passed e
        ]

-- ---- the pass of a place
low_pass : (w : Bool) (n : ℕ) → 2 ≤ n → global_pass w n ≡ Some (record { write = w; base = None; cell = n - 2 })
low_pass w n le = let e : nat_lt n 2 ≡ false = grind (arith, nat_tests, le) in ap (λ b. if b then None else Some (record { write = w; base = None; cell = n - 2 })) e

module _ (x : Targets) (code : Code) (l : Label) (k : Know) where
  abbrev IsPassOf : Cell → Kind → SimplePlace → Type 0
  IsPassOf c kind place = pass_of x l (is_write kind) c ≡ Some (pass_at kind place)

  abbrev IsLow : SimplePlace → Type 0
  IsLow place = (g n : ℕ) → place ≡ in_global g n → 2 ≤ n

  in_globals : (g i first count elements : ℕ) (e : Element) (v : ℕ) (kind : Kind) → l.ints i ≡ OfGlobal first count elements e → IsNumberOf x l v (OfGlobal first count elements e) → 2 ≤ v → IsPassOf (Cell.GlobalAt g i) kind (in_global g v)
  in_globals g i first count elements (Nth e) v kind is eq le = ap (global_element_pass (is_write kind)) is ∙ ap (global_pass (is_write kind)) (sym eq) ∙ low_pass (is_write kind) v le
  in_globals g i first count elements (Named m) v kind is eq le = absurd eq

  in_elements : (r i field : ℕ) (e : Element) (v n : ℕ) (kind : Kind) → l.ints i ≡ OfElement r field e → IsNumberOf x l n (OfElement r field e) → l.same r ≡ v → IsPassOf (Cell.ObjectAt r i) kind (in_variable v n)
  in_elements r i field (Nth e) v n kind is eq copy =
      ap (element_pass x l (is_write kind) r (l.env r)) is ∙ ap (λ entry. element_pass x l (is_write kind) r entry (OfElement r field (Nth e))) eq.1
      ∙ ap (λ b. Some (record { write = is_write kind; base = Some b; cell = e * cells_of x eq.0.target + field })) copy ∙ ap (λ c. Some (record { write = is_write kind; base = Some v; cell = c })) (sym eq.2)
  in_elements r i field (Named m) v n kind is eq copy = absurd eq

  pub pass_eq : (c : Cell) (f : Field) → HasField x code l c f → Knows x k l c → (kind : Kind) (place : SimplePlace) → place_of k c ≡ Some place → IsLow place → IsPassOf c kind place
  pass_eq (Cell.Global g q) f has knows kind place e low =
      let same : in_global g q ≡ place = same_Some (in_global g q) place e in
      subst (IsPassOf (Cell.Global g q) kind) same (low_pass (is_write kind) q (low g q (sym same)))
  pass_eq (Cell.GlobalAt g i) f has knows kind place e low = by (k.number i) refl e
    where
      by : (n : Option ℕ) → k.number i ≡ n → global_place g n ≡ Some place → IsPassOf (Cell.GlobalAt g i) kind place
      by None is e = absurd (none-some place e)
      by (Some v) is e =
          let same : in_global g v ≡ place = same_Some (in_global g v) place e in
          subst (IsPassOf (Cell.GlobalAt g i) kind) same (in_globals g i has.0 has.1 has.2 has.3 v kind has.4 (subst (IsNumberOf x l v) has.4 (knows v is)) (low g v (sym same)))
  pass_eq (Cell.Object r i) f has knows kind place e low = by (k.copy r) refl e
    where
      by : (v : Option ℕ) → k.copy r ≡ v → variable_place v (Some i) ≡ Some place → IsPassOf (Cell.Object r i) kind place
      by None is e = absurd (none-some place e)
      by (Some v) is e =
          let same : in_variable v i ≡ place = same_Some (in_variable v i) place e in
          subst (IsPassOf (Cell.Object r i) kind) same (ap (λ b. Some (record { write = is_write kind; base = Some b; cell = i })) (knows v is))
  pass_eq (Cell.ObjectAt r i) f has knows kind place e low = by (k.copy r) (k.number i) refl refl e
    where
      by : (v n : Option ℕ) → k.copy r ≡ v → k.number i ≡ n → variable_place v n ≡ Some place → IsPassOf (Cell.ObjectAt r i) kind place
      by None n is at e = absurd (none-some place e)
      by (Some v) None is at e = absurd (none-some place e)
      by (Some v) (Some n) is at e =
          let same : in_variable v n ≡ place = same_Some (in_variable v n) place e in
          subst (IsPassOf (Cell.ObjectAt r i) kind) same (in_elements r i has.1.1 has.1.2 v n kind has.1.4 (subst (IsNumberOf x l n) has.1.4 (knows.1 n at)) (knows.0 v is))

-- ---- what goes on to the next line
ps_in : (x : Targets) (d : Bool) (l : Label) (write : Bool) (c : Cell) (mode : PlaceMode) (p : Pass) → IsIn p l.passed → IsIn p (passed_behind x d l write c mode)
ps_in x false l write c PlaceMode.Dynamic p h = added (pass_of x l write c)
  where
    added : (o : Option Pass) → IsIn p (with_pass o l.passed)
    added None = h
    added (Some q) = inr h
ps_in x d l write c mode p h = h

new_in : (x : Targets) (d : Bool) (l : Label) (write : Bool) (c : Cell) (mode : PlaceMode) (p : Pass) → d ≡ false → is_dynamic mode ≡ true → pass_of x l write c ≡ Some p → IsIn p (passed_behind x d l write c mode)
new_in x false l write c PlaceMode.Dynamic p none is e = subst (λ o. IsIn p (with_pass o l.passed)) (sym e) (inl refl)
new_in x _ l write c mode p none is e = absurd (cc)

-- by the clauses of a list that is filtered, where it stands for anything
plain : (b : Bool) (f : Pass → Bool) (ps : List Pass) (p : Pass) → IsIn p (if b then filter f ps else []) → IsIn p (if b then ps else [])
plain true f ps p h = (of_filter f ps p h).0
plain false f ps p h = h

without : (o : Op) (r : ℕ) (ps : List Pass) (p : Pass) → ((b : Option ℕ) → stays o b ≡ true → not (is_base r b) ≡ true) → stays o p.base ≡ true → IsIn p ps → IsIn p (without_base r ps)
without o r ps p gone stay h = in_filter (λ p. not (is_base r p.base)) ps p h (gone p.base stay)

pop_stays : (r : ℕ) (b : Option ℕ) → stays (Op.Pop r) b ≡ true → not (is_base r b) ≡ true
pop_stays r None e = refl
pop_stays r (Some y) e = e

store_stays : (r : ℕ) (c : Cell) (spot : Spot) (b : Option ℕ) → stays (Op.StoreRef r c spot) b ≡ true → not (is_base r b) ≡ true
store_stays r c spot None e = refl
store_stays r c spot (Some y) e = e

move_stays : (r from : ℕ) (b : Option ℕ) → stays (Op.MoveReference r from) b ≡ true → not (is_base from b) ≡ true
move_stays r from None e = refl
move_stays r from (Some y) e = not_right _ _ e

settle_to : (to from : ℕ) (b : Option ℕ) → stays (Op.Settle to from) b ≡ true → not (is_base to b) ≡ true
settle_to to from None e = refl
settle_to to from (Some y) e = not_left _ _ e

settle_from : (to from : ℕ) (b : Option ℕ) → stays (Op.Settle to from) b ≡ true → not (is_base from b) ≡ true
settle_from to from None e = refl
settle_from to from (Some y) e = not_right _ _ e

module _ (x : Targets) (code : Code) (l : Label) (k : Know) (passes : List Pass) where
  number_too : (z : Number) (n : ℕ) → IsNumberOf x l n z → IsNumberOf x (with_passes l passes) n z
  number_too (OfElement r field (Nth e)) n h = h
  number_too (OfGlobal a b c (Nth e)) n h = h
  number_too _ n h = h

  known_too : (c : Cell) → Knows x k l c → Knows x k (with_passes l passes) c
  known_too (Cell.GlobalAt g i) h = λ n e. number_too (l.ints i) n (h n e)
  known_too (Cell.ObjectAt r i) h = (h.0, λ n e. number_too (l.ints i) n (h.1 n e))
  known_too _ h = h

  -- the check of an access itself
  access_in : (d : Bool) (kind : Kind) (c : Cell) (spot : Spot) (f : Field) → HasField x code (with_passes l passes) c f → Knows x k l c → ((g place : ℕ) → place_of k c ≡ Some (in_global g place) → 2 ≤ place)
      → (p : Pass) → IsIn p ((if d then [] else (if tells spot then pass_of_place kind (place_of k c) else [])) ++ passes) → IsIn p (passed_behind x d (with_passes l passes) (is_write kind) c spot.mode)
  access_in d kind c spot f has knows low p h =
      ⊎_elim (λ m. fresh d (tells spot) refl (place_of k c) refl m) (λ m. ps_in x d (with_passes l passes) (is_write kind) c spot.mode p m) (of_both (if d then [] else (if tells spot then pass_of_place kind (place_of k c) else [])) passes p h)
    where
      fresh : (d : Bool) (t : Bool) → tells spot ≡ t → (at : Option SimplePlace) → place_of k c ≡ at → IsIn p (if d then [] else (if t then pass_of_place kind at else [])) → IsIn p (passed_behind x d (with_passes l passes) (is_write kind) c spot.mode)
      fresh false true e (Some place) is h =
          let eq = pass_eq x code (with_passes l passes) k c f has (known_too c knows) kind place is (λ g n z. low g n (is ∙ ap Some z)) in
          let same : pass_at kind place ≡ p = ⊎_elim (λ (i : pass_at kind place ≡ p). i) (λ k. absurd k) h in
          new_in x false (with_passes l passes) (is_write kind) c spot.mode p refl (and_left (is_dynamic spot.mode) spot.is_simple e) (eq ∙ ap Some same)
      fresh _ _ e _ is h = absurd h

  abbrev Fields : Op → Type 0
  Fields o = (a : Access) → access o ≡ Some a → (f : Field) × HasField x code (with_passes l passes) a.cell f

  abbrev Known : Op → Type 0
  Known o = (a : Access) → access o ≡ Some a → Knows x k l a.cell

  abbrev Low : Op → Type 0
  Low o = (a : Access) (g place : ℕ) → access o ≡ Some a → place_of k a.cell ≡ Some (in_global g place) → 2 ≤ place

  pub goes_on : (o : Op) (d : Bool) → drops k o ≡ d → Fields o → Known o → Low o → (p : Pass) → IsIn p (passes_next o k passes) → IsIn p (remembered x d l o passes)
  goes_on (Op.Load i c spot) d e fields knows low p h =
      let a : Access = record { kind = Read; cell = c; spot = spot } in
      let f = fields a refl in
      access_in d Read c spot f.0 f.1 (knows a refl) (λ g n z. low a g n refl z) p
      (subst (λ b. IsIn p ((if b then [] else (if tells spot then pass_of_place Read (place_of k c) else [])) ++ passes)) e (of_filter (λ p. stays (Op.Load i c spot) p.base) ((if drops k (Op.Load i c spot) then [] else pass_by k (access (Op.Load i c spot))) ++ passes) p h).0)
  goes_on (Op.Store i c spot) d e fields knows low p h =
      let a : Access = record { kind = Write; cell = c; spot = spot } in
      let f = fields a refl in
      access_in d Write c spot f.0 f.1 (knows a refl) (λ g n z. low a g n refl z) p
      (subst (λ b. IsIn p ((if b then [] else (if tells spot then pass_of_place Write (place_of k c) else [])) ++ passes)) e (of_filter (λ p. stays (Op.Store i c spot) p.base) ((if drops k (Op.Store i c spot) then [] else pass_by k (access (Op.Store i c spot))) ++ passes) p h).0)
  goes_on (Op.LoadRef r c spot) d e fields knows low p h =
      let a : Access = record { kind = Read; cell = c; spot = spot } in
      let f = fields a refl in
      access_in false Read c spot f.0 f.1 (knows a refl) (λ g n z. low a g n refl z) p (of_filter (λ p. stays (Op.LoadRef r c spot) p.base) (pass_by k (access (Op.LoadRef r c spot)) ++ passes) p h).0
  goes_on (Op.StoreRef r c spot) d e fields knows low p h =
      let o = Op.StoreRef r c spot in
      let a : Access = record { kind = Write; cell = c; spot = spot } in
      let f = fields a refl in
      let w = of_filter (λ p. stays o p.base) (pass_by k (access o) ++ passes) p h in
      let inside = access_in false Write c spot f.0 f.1 (knows a refl) (λ g n z. low a g n refl z) p w.0 in
      let whole = passed_behind x false (with_passes l passes) true c spot.mode in
      without o r (without_base r whole) p (store_stays r c spot) w.1 (without o r whole p (store_stays r c spot) w.1 inside)
  goes_on (Op.Pop r) d e fields knows low p h =
      let w = of_filter (λ p. stays (Op.Pop r) p.base) passes p h in
      without (Op.Pop r) r passes p (pop_stays r) w.1 w.0
  goes_on (Op.MoveReference r from) d e fields knows low p h =
      let o = Op.MoveReference r from in
      let w = of_filter (λ p. stays o p.base) passes p h in
      without o from passes p (move_stays r from) w.1 w.0
  goes_on (Op.Settle to from) d e fields knows low p h =
      let o = Op.Settle to from in
      let w = of_filter (λ p. stays o p.base) passes p h in
      without o from (without_base to passes) p (settle_from to from) w.1 (without o to passes p (settle_to to from) w.1 w.0)
  goes_on o d e fields knows low p h = plain (is_straight o) (λ p. stays o p.base) passes p h
