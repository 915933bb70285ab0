-- Runs of values and places, and what is in the registers after them.
use Rattle.sharc_flat.proofs.{Imports.{◌≡◌, ℕ, ◌+◌, ◌-◌, ◌<◌, ◌≤◌, Bool, true, false, cond, List, [], ◌∷◌, ◌++◌, length, take, drop, Option, Some, None, refl, sym, ap, ◌∙◌, subst, arith, append_assoc, nat_tests, append-nil, take_at, drop_at, ℤ, pos, ◌&&◌, ◌||◌, nat_lt, ◌==◌, Object, Global, Made, Kind, object, is_integer, is_integral, Int, word_of, Assignment, GivenUp, Released, cell_of, StorePlace, variable, cell, field_in, is_null, number_of, State, Run, value_of, is_reference, pointers_among, all_released, temporarily, Op, Spot, At, put, cell_at, global_cell, is_of_null, first_cell, Context, int_count, ref_count, register_of, slot_kind, Slot, Target, in_global, in_global_at, in_object, in_object_at, has_base, base_width, field_of, guard_field, guard_cell, guard_code, lock_beside, spot_of, drop_base, settle_base, copy_code, value_code, cell_value_code, is_cell}, Banks.{bank_is, bank_put}, Runs.{HasAt, Fin, fin_then, Same, weaken, step, unhold, without}, Agreeing.{ints_length, IntAt, int_at, Standing, place, Agree, below, stack_length, drop_last, last_is, loose_of, Valued, Rest}, Accessing.{context, pending_place}}
use Rattle.sharc_flat.specs.Places as targets

-- ---- types
apart_at : (stars : ℕ) (b : Bool) → (nat_lt 0 stars || false) ≡ true → ((stars == 0) && b) ≡ true → ⊥
apart_at stars b h k = grind (arith, nat_tests)

pub apart : (kind : Kind) → is_reference kind ≡ true → is_integer kind ≡ true → ⊥
apart (object b stars) h k = apart_at stars (is_integral b) h k
apart _ h k = absurd (cc)

integer_by : (b : Bool) (kind : Kind) → is_reference kind ≡ b → is_integer kind ≡ true → b ≡ false
integer_by true kind h k = absurd (apart kind h k)
integer_by false kind h k = refl

pub integer_is : (kind : Kind) → is_integer kind ≡ true → is_reference kind ≡ false
integer_is kind k = integer_by (is_reference kind) kind refl k

-- ---- variables
pub record IntOf (z : Standing) (scope : List Slot) (bank : ℕ → ℤ) (s : State) (x : ℕ) : Type 0 where
  pub n : ℕ
  pub register : register_of scope x ≡ Int n
  pub value : bank (z.ints + n) ≡ value_of s x
  pub within : n < int_count scope

pub variable_int : (z : Standing) (T : List ℤ) (scope : List Slot) (L : List ℤ) (ints refs : ℕ → ℤ) (s : State) (x : ℕ) → slot_kind scope x ≡ Some false → Agree z T scope L ints refs s → IntOf z scope ints s x
variable_int z T scope L ints refs s x h a =
    let w : IntAt 0 0 s.frame.variables x = int_at s.frame.variables x 0 0 (subst (λ sc. slot_kind sc x ≡ Some false) (sym a.shape) h) in
    let reg : register_of scope x ≡ Int (0 + w.n) = subst (λ sc. register_of sc x ≡ Int (0 + w.n)) a.shape w.register in
    let e : 0 + w.n ≡ w.n = omega arith in
    let l = ints_length s.frame.variables ∙ ap int_count a.shape in
    let lt = w.within in
    let within : w.n < int_count scope = omega arith in
    record { n = w.n; register = reg ∙ ap Int e; value = a.ints w.n within ∙ sym w.value; within = within }

-- ---- what ends
-- temporaries that end are still in their registers
pub loosen : (z : Standing) (T : List ℤ) (scope : List Slot) (bases L : List ℤ) (ints refs : ℕ → ℤ) (s : State) → Agree z (T ++ bases) scope L ints refs s → Agree z T scope (bases ++ L) ints refs (without (length T) s)
loosen z T scope bases L ints refs s a = record {
  callers = a.callers;
  temporaries = ap (take (length T)) a.temporaries ∙ take_at T bases (length T) refl;
  shape = a.shape;
  ints = a.ints;
  refs = bank_is refs _ _ (ap (λ l. below z.callers ++ (pointers_among s.frame.variables ++ l)) (append_assoc T bases L)) a.refs;
}

pub released : (z : Standing) (T : List ℤ) (scope : List Slot) (bases L : List ℤ) (ints refs : ℕ → ℤ) (s : State) → Agree z (T ++ bases) scope L ints refs s → (without (length T) s).given_up ≡ s.given_up ++ all_released bases
released z T scope bases L ints refs s a = ap (λ l. s.given_up ++ all_released l) (ap (drop (length T)) a.temporaries ∙ drop_at T bases (length T) refl)

-- the place of a state with other references given up
pub given_place : (z : Standing) (pc : ℕ) (ints refs : ℕ → ℤ) (s : State) (gs : List GivenUp) → s.given_up ≡ gs → record (place z pc ints refs s) { given = gs } ≡ place z pc ints refs s
given_place z pc ints refs s gs e = ap (λ g. record (place z pc ints refs s) { given = g }) (sym e)

abbrev pub BasesOf : Bool → List ℤ → Type 0
BasesOf true bases = (b : ℤ) × (bases ≡ b ∷ [])
BasesOf false bases = bases ≡ []

pub bases_count : (b : Bool) (bs : List ℤ) → BasesOf b bs → length bs ≡ cond b 1 0
bases_count true bs h = ap length h.1
bases_count false bs h = ap length h

module _ (m : Assignment) (z : Standing) (scope : List Slot) where
  abbrev pub ctx : Context
  ctx = context m z scope

  -- the last of the loose is replaced
  replace_last : (T : List ℤ) (b v : ℤ) (n : ℕ) (ints refs : ℕ → ℤ) (s : State) → n ≡ ref_count scope + length T → Agree z T scope (b ∷ []) ints refs s → Agree z T scope (v ∷ []) ints (put refs (z.refs + n) v) s
  replace_last T b v n ints refs s e a =
      let ptrs = pointers_among s.frame.variables in
      let at : (w : ℤ) → (below z.callers ++ (ptrs ++ (T ++ []))) ++ w ∷ [] ≡ below z.callers ++ (ptrs ++ (T ++ w ∷ [])) =
      λ w. append_assoc (below z.callers) (ptrs ++ (T ++ [])) (w ∷ []) ∙ ap (λ l. below z.callers ++ l) (append_assoc ptrs (T ++ []) (w ∷ []) ∙ ap (λ l. ptrs ++ l) (ap (λ t. t ++ w ∷ []) (append-nil T))) in
      let here : z.refs + n ≡ length (below z.callers ++ (ptrs ++ (T ++ []))) = omega (arith, e, stack_length z T scope s.frame.variables [] a.shape) in
      record {
        callers = a.callers;
        temporaries = a.temporaries;
        shape = a.shape;
        ints = a.ints;
        refs = bank_is _ _ _ (at v) (bank_put refs (below z.callers ++ (ptrs ++ (T ++ []))) b v [] (z.refs + n) here (bank_is refs _ _ (sym (at b)) a.refs));
      }

  -- the base of a place ends
  pub base_ends : (b : Bool) (bases : List ℤ) (T : List ℤ) (r pc c : ℕ) (ints refs : ℕ → ℤ) (s : State) (fin : Fin) → BasesOf b bases → HasAt z.flat.lines pc (cond b (Op.Pop r ∷ []) []) → r ≡ ref_count scope + length T → Agree z (T ++ bases) scope [] ints refs s
      → ((refs' : ℕ → ℤ) → Agree z T scope [] ints refs' (without (length T) s) → Same z.flat s.fuel c fin s.answers (place z (pc + length (cond b (Op.Pop r ∷ []) [])) ints refs' (without (length T) s)))
      → Same z.flat s.fuel (c + 1) fin s.answers (place z pc ints refs s)
  base_ends true bases T r pc c ints refs s fin is has e a rest =
      let a1 : Agree z (T ++ is.0 ∷ []) scope [] ints refs s = subst (λ bs. Agree z (T ++ bs) scope [] ints refs s) is.1 a in
      let u = without (length T) s in
      let a2 : Agree z T scope (is.0 ∷ []) ints refs u = loosen z T scope (is.0 ∷ []) [] ints refs s a1 in
      let n : r ≡ ref_count scope + length T + 0 = omega arith in
      let a3 : Agree z T scope [] ints (put refs (z.refs + r) (pos 0)) u = drop_last z T scope [] is.0 r ints refs u n a2 in
      let v : refs (z.refs + r) ≡ is.0 = last_is z T scope [] is.0 [] r ints refs u n a2 in
      let g : u.given_up ≡ s.given_up ++ Released (number_of (refs (z.refs + r))) ∷ [] = released z T scope (is.0 ∷ []) [] ints refs s a1 ∙ ap (λ w. s.given_up ++ Released (number_of w) ∷ []) (sym v) in
      step z.flat (Op.Pop r) s.fuel c fin s.answers (place z pc ints refs s) _ has.0 refl
      (subst (λ w. Same z.flat s.fuel c fin s.answers w) (sym (given_place z (pc + 1) ints (put refs (z.refs + r) (pos 0)) u (s.given_up ++ Released (number_of (refs (z.refs + r))) ∷ []) g)) (rest (put refs (z.refs + r) (pos 0)) a3))
  base_ends false bases T r pc c ints refs s fin is has e a rest =
      let a1 : Agree z (T ++ []) scope [] ints refs s = subst (λ bs. Agree z (T ++ bs) scope [] ints refs s) is a in
      let u = without (length T) s in
      let a2 : Agree z T scope [] ints refs u = loosen z T scope [] [] ints refs s a1 in
      let g : u.given_up ≡ s.given_up = released z T scope [] [] ints refs s a1 ∙ append-nil s.given_up in
      let p : pc + 0 ≡ pc = omega arith in
      weaken z.flat s.fuel c (c + 1) fin s.answers _ (omega arith)
      (subst (λ w. Same z.flat s.fuel c fin s.answers w) (sym (given_place z pc ints refs u s.given_up g)) (subst (λ q. Same z.flat s.fuel c fin s.answers (place z q ints refs u)) p (rest refs a2)))

  -- or a reference takes its place
  pub base_settles : (b : Bool) (bases : List ℤ) (T : List ℤ) (v : ℤ) (r pc c : ℕ) (ints refs : ℕ → ℤ) (s : State) (fin : Fin) → BasesOf b bases → HasAt z.flat.lines pc (cond b (Op.Settle r (r + 1) ∷ []) []) → r ≡ ref_count scope + length T → Agree z (T ++ bases) scope (v ∷ []) ints refs s
      → ((refs' : ℕ → ℤ) → Agree z T scope (v ∷ []) ints refs' (without (length T) s) → Same z.flat s.fuel c fin s.answers (place z (pc + length (cond b (Op.Settle r (r + 1) ∷ []) [])) ints refs' (without (length T) s)))
      → Same z.flat s.fuel (c + 1) fin s.answers (place z pc ints refs s)
  base_settles true bases T v r pc c ints refs s fin is has e a rest =
      let a1 : Agree z (T ++ is.0 ∷ []) scope (v ∷ []) ints refs s = subst (λ bs. Agree z (T ++ bs) scope (v ∷ []) ints refs s) is.1 a in
      let u = without (length T) s in
      let a2 : Agree z T scope (is.0 ∷ v ∷ []) ints refs u = loosen z T scope (is.0 ∷ []) (v ∷ []) ints refs s a1 in
      let n : r ≡ ref_count scope + length T + 0 = omega arith in
      let n1 : r + 1 ≡ ref_count scope + length T + length (is.0 ∷ []) = omega arith in
      let v0 : refs (z.refs + r) ≡ is.0 = last_is z T scope [] is.0 (v ∷ []) r ints refs u n a2 in
      let v1 : refs (z.refs + (r + 1)) ≡ v = last_is z T scope (is.0 ∷ []) v [] (r + 1) ints refs u n1 a2 in
      let a3 : Agree z T scope (is.0 ∷ []) ints (put refs (z.refs + (r + 1)) (pos 0)) u = drop_last z T scope (is.0 ∷ []) v (r + 1) ints refs u n1 a2 in
      let bank = put (put refs (z.refs + (r + 1)) (pos 0)) (z.refs + r) (refs (z.refs + (r + 1))) in
      let a4 : Agree z T scope (v ∷ []) ints bank u = subst (λ w. Agree z T scope (v ∷ []) ints (put (put refs (z.refs + (r + 1)) (pos 0)) (z.refs + r) w) u) (sym v1) (replace_last T is.0 v r ints (put refs (z.refs + (r + 1)) (pos 0)) u e a3) in
      let g : u.given_up ≡ s.given_up ++ Released (number_of (refs (z.refs + r))) ∷ [] = released z T scope (is.0 ∷ []) (v ∷ []) ints refs s a1 ∙ ap (λ w. s.given_up ++ Released (number_of w) ∷ []) (sym v0) in
      step z.flat (Op.Settle r (r + 1)) s.fuel c fin s.answers (place z pc ints refs s) _ has.0 refl
      (subst (λ w. Same z.flat s.fuel c fin s.answers w) (sym (given_place z (pc + 1) ints bank u (s.given_up ++ Released (number_of (refs (z.refs + r))) ∷ []) g)) (rest bank a4))
  base_settles false bases T v r pc c ints refs s fin is has e a rest =
      let a1 : Agree z (T ++ []) scope (v ∷ []) ints refs s = subst (λ bs. Agree z (T ++ bs) scope (v ∷ []) ints refs s) is a in
      let u = without (length T) s in
      let a2 : Agree z T scope (v ∷ []) ints refs u = loosen z T scope [] (v ∷ []) ints refs s a1 in
      let g : u.given_up ≡ s.given_up = released z T scope [] (v ∷ []) ints refs s a1 ∙ append-nil s.given_up in
      let p : pc + 0 ≡ pc = omega arith in
      weaken z.flat s.fuel c (c + 1) fin s.answers _ (omega arith)
      (subst (λ w. Same z.flat s.fuel c fin s.answers w) (sym (given_place z pc ints refs u s.given_up g)) (subst (λ q. Same z.flat s.fuel c fin s.answers (place z q ints refs u)) p (rest refs a2)))

  -- ---- values and places
  pub int_valued : (kind : Kind) (T : List ℤ) (i : ℕ) (v : ℤ) (ints ints' refs' : ℕ → ℤ) (s' : State) → is_reference kind ≡ false → Agree z T scope [] ints' refs' s' → ((k : ℕ) → k < z.ints + i → ints' k ≡ ints k) → ints' (z.ints + i) ≡ v → Valued z kind T scope i v ints ints' refs' s'
  int_valued kind T i v ints ints' refs' s' e a kept value = record { agree = subst (λ b. Agree z T scope (loose_of b v) ints' refs' s') (sym e) a; kept = kept; value = λ _. value }

  pub ref_valued : (kind : Kind) (T : List ℤ) (i : ℕ) (v : ℤ) (ints ints' refs' : ℕ → ℤ) (s' : State) → is_reference kind ≡ true → Agree z T scope (v ∷ []) ints' refs' s' → ((k : ℕ) → k < z.ints + i → ints' k ≡ ints k) → Valued z kind T scope i v ints ints' refs' s'
  ref_valued kind T i v ints ints' refs' s' e a kept = record { agree = subst (λ b. Agree z T scope (loose_of b v) ints' refs' s') (sym e) a; kept = kept; value = λ h. absurd (apart kind e h) }

  -- From the first of these statements on the run is made, with this many turns more than it leaves; the value goes to its register.
  abbrev pub RunsAs : Kind → ℕ → Run ℤ → (ℕ → ℕ → List Op) → Type 0
  RunsAs kind need run code = (T : List ℤ) (i r pc c : ℕ) (ints refs : ℕ → ℤ) (s : State) (k : ℤ → State → Fin) → HasAt z.flat.lines pc (code i r) → int_count scope ≤ i → r ≡ ref_count scope + length T → Agree z T scope [] ints refs s
      → Rest z kind T scope i (pc + length (code i r)) (c + 6) ints k → Same z.flat s.fuel (c + need) (fin_then (run s) k) s.answers (place z pc ints refs s)

  abbrev pub within : Option ℕ → StorePlace → StorePlace
  within None p = p
  within (Some n) p = field_in n p

  -- where a place is found that an lvalue names
  abbrev pub Lies : Target → Option ℕ → ℕ → (ℕ → ℤ) → List ℤ → StorePlace → Type 0
  Lies (targets.variable x) guard i bank bases p = (bases ≡ []) × (p ≡ variable x)
  Lies (in_global g f) guard i bank bases p = (bases ≡ []) × (p ≡ cell (Global g) 0 (0 + f))
  Lies (in_global_at g f) guard i bank bases p = (first : ℕ) × (bases ≡ []) × (p ≡ cell (Global g) first (first + f)) × (bank (z.ints + i) ≡ pos (first + (first_cell z.flat.globals g + f)))
      × ((mutex : ℕ) → guard ≡ Some mutex → bank (z.ints + (i + 1)) ≡ pos (first + (first_cell z.flat.globals g + mutex)))
  Lies (in_object f) guard i bank bases p = (b : ℤ) × (bases ≡ b ∷ []) × (p ≡ cell (Made (number_of b)) 0 (0 + f)) × (is_null b ≡ false)
  Lies (in_object_at f) guard i bank bases p = (b : ℤ) × (first : ℕ) × (bases ≡ b ∷ []) × (p ≡ cell (Made (number_of b)) first (first + f)) × (bank (z.ints + i) ≡ pos (first + f))
      × ((mutex : ℕ) → guard ≡ Some mutex → bank (z.ints + (i + 1)) ≡ pos (first + mutex)) × (is_null b ≡ false)

  pub bases_are : (t : Target) (guard : Option ℕ) (i : ℕ) (bank : ℕ → ℤ) (bases : List ℤ) (p : StorePlace) → Lies t guard i bank bases p → BasesOf (has_base t) bases
  bases_are (in_global_at g f) guard i bank bases p h = h.1
  bases_are (in_object f) guard i bank bases p h = (h.0, h.1)
  bases_are (in_object_at f) guard i bank bases p h = (h.0, h.2)
  bases_are _ guard i bank bases p h = h.0

  pub record Located (t : Target) (f guard : Option ℕ) (T : List ℤ) (i : ℕ) (p : StorePlace) (bases : List ℤ) (ints ints' refs' : ℕ → ℤ) (s' : State) : Type 0 where
    pub agree : Agree z (T ++ bases) scope [] ints' refs' s'
    pub kept : (k : ℕ) → k < z.ints + i → ints' k ≡ ints k
    pub lies : Lies t guard i ints' bases (within f p)

  abbrev pub RestAt : Target → Option ℕ → Option ℕ → List ℤ → ℕ → ℕ → ℕ → (ℕ → ℤ) → (StorePlace → State → Fin) → Type 0
  RestAt t f guard T i pc c ints k = (p : StorePlace) (bases : List ℤ) (ints' refs' : ℕ → ℤ) (s' : State) → Located t f guard T i p bases ints ints' refs' s' → Same z.flat s'.fuel c (k p s') s'.answers (place z pc ints' refs' s')

  abbrev pub PlaceAs : Target → Option ℕ → Option ℕ → ℕ → Run StorePlace → (ℕ → ℕ → List Op) → Type 0
  PlaceAs t f guard need run code = (T : List ℤ) (i r pc c : ℕ) (ints refs : ℕ → ℤ) (s : State) (k : StorePlace → State → Fin) → HasAt z.flat.lines pc (code i r) → int_count scope ≤ i → r ≡ ref_count scope + length T → Agree z T scope [] ints refs s
      → RestAt t f guard T i (pc + length (code i r)) (c + 6) ints k → Same z.flat s.fuel (c + need) (fin_then (run s) k) s.answers (place z pc ints refs s)

  -- the cell that is found, and the one with the pointer to its mutex
  pub record AtCell (t : Target) (guard : Option ℕ) (i r : ℕ) (ints refs : ℕ → ℤ) (p : StorePlace) : Type 0 where
    pub object : Object
    pub first : ℕ
    pub is : p ≡ cell object first (first + field_of t)
    pub cell_is : (pc : ℕ) (w : ℤ) (u : State) → cell_at z.flat.globals (pending_place z pc ints refs u w) (targets.cell_of z.flat.globals i r t) ≡ cell_of object (first + field_of t)
    pub guard_is : (mutex : ℕ) (u : State) → guard ≡ Some mutex → cell_at z.flat.globals (place z 0 ints refs u) (guard_cell z.flat.globals mutex i r t) ≡ cell_of object (first + mutex)
    pub open_is : (mutex pc : ℕ) (w : ℤ) (u : State) → is_of_null (pending_place z pc ints refs u w) (guard_cell z.flat.globals mutex i r t) ≡ false

  minus : (a b : ℕ) → a + b - a ≡ b
  minus a b = omega arith

  minus_in : (n a b : ℕ) → n + (a + b) - a ≡ n + b
  minus_in n a b = omega arith

  pub at_cell : (t : Target) (guard : Option ℕ) (T L : List ℤ) (i r : ℕ) (bases : List ℤ) (p : StorePlace) (ints refs : ℕ → ℤ) (s : State) → is_cell t ≡ true → r ≡ ref_count scope + length T → Agree z (T ++ bases) scope L ints refs s → Lies t guard i ints bases p → AtCell t guard i r ints refs p
  at_cell (targets.variable x) guard T L i r bases p ints refs s c e a h = absurd (cc)
  at_cell (in_global g f) guard T L i r bases p ints refs s c e a h =
      let zero_of : (n : ℕ) → n ≡ 0 + n = λ n. omega arith in
      record {
        object = Global g;
        first = 0;
        is = h.1;
        cell_is = λ pc w u. ap (λ n. cell_of (Global g) n) (minus (first_cell z.flat.globals g) f ∙ zero_of f);
        guard_is = λ mutex u q. ap (λ n. cell_of (Global g) n) (minus (first_cell z.flat.globals g) mutex ∙ zero_of mutex);
        open_is = λ mutex pc w u. refl;
      }
  at_cell (in_global_at g f) guard T L i r bases p ints refs s c e a h = record {
    object = Global g;
    first = h.0;
    is = h.2;
    cell_is = λ pc w u. ap (λ v. global_cell z.flat.globals g (word_of v)) h.3 ∙ ap (λ n. cell_of (Global g) n) (minus_in h.0 (first_cell z.flat.globals g) f);
    guard_is = λ mutex u q. ap (λ v. global_cell z.flat.globals g (word_of v)) (h.4 mutex q) ∙ ap (λ n. cell_of (Global g) n) (minus_in h.0 (first_cell z.flat.globals g) mutex);
    open_is = λ mutex pc w u. refl;
  }
  at_cell (in_object f) guard T L i r bases p ints refs s c e a h =
      let a1 : Agree z (T ++ h.0 ∷ []) scope L ints refs s = subst (λ bs. Agree z (T ++ bs) scope L ints refs s) h.1 a in
      let a2 = loosen z T scope (h.0 ∷ []) L ints refs s a1 in
      let n : r ≡ ref_count scope + length T + 0 = omega arith in
      let v : refs (z.refs + r) ≡ h.0 = last_is z T scope [] h.0 L r ints refs (without (length T) s) n a2 in
      let zero_of : (n : ℕ) → n ≡ 0 + n = λ n. omega arith in
      record {
        object = Made (number_of h.0);
        first = 0;
        is = h.2;
        cell_is = λ pc w u. ap (λ b. cell_of (Made (number_of b)) f) v ∙ ap (λ n. cell_of (Made (number_of h.0)) n) (zero_of f);
        guard_is = λ mutex u q. ap (λ b. cell_of (Made (number_of b)) mutex) v ∙ ap (λ n. cell_of (Made (number_of h.0)) n) (zero_of mutex);
        open_is = λ mutex pc w u. ap is_null v ∙ h.3;
      }
  at_cell (in_object_at f) guard T L i r bases p ints refs s c e a h =
      let a1 : Agree z (T ++ h.0 ∷ []) scope L ints refs s = subst (λ bs. Agree z (T ++ bs) scope L ints refs s) h.2 a in
      let a2 = loosen z T scope (h.0 ∷ []) L ints refs s a1 in
      let n : r ≡ ref_count scope + length T + 0 = omega arith in
      let v : refs (z.refs + r) ≡ h.0 = last_is z T scope [] h.0 L r ints refs (without (length T) s) n a2 in
      record {
        object = Made (number_of h.0);
        first = h.1;
        is = h.3;
        cell_is = λ pc w u. ap (λ b. cell_of (Made (number_of b)) (word_of (ints (z.ints + i)))) v ∙ ap (λ n. cell_of (Made (number_of h.0)) (word_of n)) h.4;
        guard_is = λ mutex u q. ap (λ b. cell_of (Made (number_of b)) (word_of (ints (z.ints + (i + 1))))) v ∙ ap (λ n. cell_of (Made (number_of h.0)) (word_of n)) (h.5 mutex q);
        open_is = λ mutex pc w u. ap is_null v ∙ h.6;
      }

  -- the mutex beside it is not one of NULL
  pub open_at : (t : Target) (guard : Option ℕ) (i r : ℕ) (ints refs : ℕ → ℤ) (p : StorePlace) → AtCell t guard i r ints refs p → (o : Option ℕ) (pc : ℕ) (w : ℤ) (u : State) → is_of_null (pending_place z pc ints refs u w) (lock_beside z.flat.globals i r t o) ≡ false
  open_at t guard i r ints refs p a None pc w u = refl
  open_at t guard i r ints refs p a (Some mutex) pc w u = a.open_is mutex pc w u

  pub temporarily_runs : {A : Type 0} (T : List ℤ) (fuel c : ℕ) (answers : List ℤ) (run : Run A) (s : State) (k : A → State → Fin) (w : At) → s.frame.temporaries ≡ T → Same z.flat fuel c (fin_then (run s) (λ x u. k x (without (length T) u))) answers w → Same z.flat fuel c (fin_then (temporarily run s) k) answers w
  temporarily_runs T fuel c answers run s k w e h =
      unhold z.flat fuel c (length s.frame.temporaries) answers (run s) k w (subst (λ t. Same z.flat fuel c (fin_then (run s) (λ x u. k x (without (length t) u))) answers w) (sym e) h)
