-- The registers of variables: each pointer has its own, and keeps it where more variables stand.
use Rattle.sharc_accepted_laws.proofs.Imports.{front_got, ◌≡◌, ◌⊎◌, inl, inr, ℕ, zero, suc, ◌+◌, ◌<◌, ◌==◌, Bool, true, false, cond, List, [], ◌∷◌, ◌++◌, length, slice_get, refl, ap, sym, ◌∙◌, subst, arith, eqb-true, append_assoc, Option, Some, None, false≢true, got_none, Register, Int, Reference, Named, Kind, named_at, declaration_at, variable_kind, field_place_behind, Assignment, base_of, written, declared_row, modes_of, Lock, Sharing, locked, Slot, Context, slot_kind, ref_count, register_from, register_of, number_in, PathNamed, PathStands, shape_of, number, register, lock_named, lock_at, locks_at, static_of, variable_type, pointers, entry_named, AllStand, DeclaredStands, IsClosedScope, with_more, HasRegister, HasOneVariable, OthersAreEmpty, NamesVariables, NamesLower, EntriesStay, NoneIsClosed, OneMoreIsClosed, FewerAreClosed, ScopeLaws, SomeNames, Mentions, InRegister as Through, Refers, EntryMentions, same_some, none_some, below_there}
use Rattle.sharc_invariant.specs.Types.{Names}

-- ---- where a pointer is
record Found (i r : ℕ) (scope : List Slot) (x : ℕ) : Type 0 where
  at : ℕ
  is : register_from i r scope x ≡ Reference (r + at)
  token : slice_get (pointers scope) at ≡ Some x

abbrev chosen : ℕ → ℕ → Slot → Bool → Bool → List Slot → ℕ → Register
chosen i r z t p rest x = cond t (cond p (Reference r) (Int i)) (cond p (register_from i (r + 1) rest x) (register_from (i + 1) r rest x))

here : (i r : ℕ) (z : Slot) (rest : List Slot) (x : ℕ) → z.token ≡ x → z.is_pointer ≡ true → (z.token == x) ≡ true → Found i r (z ∷ rest) x
here i r z rest x same pointer test =
    let first : r ≡ r + 0 = omega arith in
    record {
      at = 0;
      is = ap (λ t. chosen i r z t z.is_pointer rest x) test ∙ ap (λ p. chosen i r z true p rest x) pointer ∙ ap Reference first;
      token = ap (λ b. slice_get (cond b (z.token ∷ pointers rest) (pointers rest)) 0) pointer ∙ ap Some same;
    }

behind : (i r : ℕ) (z : Slot) (rest : List Slot) (x : ℕ) → (z.token == x) ≡ false → z.is_pointer ≡ true → Found i (r + 1) rest x → Found i r (z ∷ rest) x
behind i r z rest x test pointer f =
    let one : r + 1 + f.at ≡ r + suc f.at = omega arith in
    record {
      at = suc f.at;
      is = ap (λ t. chosen i r z t z.is_pointer rest x) test ∙ ap (λ p. chosen i r z false p rest x) pointer ∙ f.is ∙ ap Reference one;
      token = ap (λ b. slice_get (cond b (z.token ∷ pointers rest) (pointers rest)) (suc f.at)) pointer ∙ f.token;
    }

beside : (i r : ℕ) (z : Slot) (rest : List Slot) (x : ℕ) → (z.token == x) ≡ false → z.is_pointer ≡ false → Found (i + 1) r rest x → Found i r (z ∷ rest) x
beside i r z rest x test pointer f = record {
  at = f.at;
  is = ap (λ t. chosen i r z t z.is_pointer rest x) test ∙ ap (λ p. chosen i r z false p rest x) pointer ∙ f.is;
  token = ap (λ b. slice_get (cond b (z.token ∷ pointers rest) (pointers rest)) f.at) pointer ∙ f.token;
}

found_by : (i r : ℕ) (z : Slot) (rest : List Slot) (x : ℕ) → (slot_kind rest x ≡ Some true → Found i (r + 1) rest x) → (slot_kind rest x ≡ Some true → Found (i + 1) r rest x)
    → (b : Bool) → (z.token == x) ≡ b → (p : Bool) → z.is_pointer ≡ p → cond b (Some z.is_pointer) (slot_kind rest x) ≡ Some true → Found i r (z ∷ rest) x
found_by i r z rest x later aside true test true pointer k = here i r z rest x (eqb-true z.token x test) pointer test
found_by i r z rest x later aside true test false pointer k = absurd (false≢true (sym pointer ∙ same_some z.is_pointer true k))
found_by i r z rest x later aside false test true pointer k = behind i r z rest x test pointer (later k)
found_by i r z rest x later aside false test false pointer k = beside i r z rest x test pointer (aside k)

found : (i r : ℕ) (scope : List Slot) (x : ℕ) → slot_kind scope x ≡ Some true → Found i r scope x
found i r [] x h = absurd (none_some true h)
found i r (z ∷ rest) x h = found_by i r z rest x (λ k. found i (r + 1) rest x k) (λ k. found (i + 1) r rest x k) (z.token == x) refl z.is_pointer refl h

-- its number
pub record At (scope : List Slot) (x : ℕ) : Type 0 where
  pub at : ℕ
  pub is : number_in (register_of scope x) ≡ at
  pub token : slice_get (pointers scope) at ≡ Some x

pub at_register : (scope : List Slot) (x : ℕ) → slot_kind scope x ≡ Some true → At scope x
at_register scope x h =
    let f = found 0 0 scope x h in
    let z : 0 + f.at ≡ f.at = omega arith in
    record { at = f.at; is = ap number_in f.is ∙ z; token = f.token }

pub pointer_count : (scope : List Slot) → length (pointers scope) ≡ ref_count scope
pointer_count [] = refl
pointer_count (z ∷ rest) = by z.is_pointer (pointer_count rest)
  where
    by : (b : Bool) → length (pointers rest) ≡ ref_count rest → length (cond b (z.token ∷ pointers rest) (pointers rest)) ≡ cond b (ref_count rest + 1) (ref_count rest)
    by true e = omega (arith, e)
    by false e = e

pub register_at : (c : Context) (x : ℕ) → slot_kind c.scope x ≡ Some true → slice_get (pointers c.scope) (register c x) ≡ Some x
register_at c x h = let f = at_register c.scope x h in ap (slice_get (pointers c.scope)) f.is ∙ f.token

pub register_low : (c : Context) (x : ℕ) → slot_kind c.scope x ≡ Some true → register c x < ref_count c.scope
register_low c x h = let low = below_there (pointers c.scope) (register c x) x (register_at c x h) in let n = pointer_count c.scope in omega (arith, low, n)

has_register : HasRegister
has_register c x h = (register_low c x h, register_at c x h, ap (entry_named c) (register_at c x h))

pub one_variable : HasOneVariable
one_variable c x y h k same = same_some x y (sym (register_at c x h) ∙ ap (slice_get (pointers c.scope)) same ∙ register_at c y k)

others_empty : OthersAreEmpty
others_empty c r low = ap (entry_named c) (got_none (pointers c.scope) r (let n = pointer_count c.scope in omega (arith, low, n)))

-- ---- more variables
module _ (more : List Slot) where
  pub kind_more : (scope : List Slot) (x : ℕ) (b : Bool) → slot_kind scope x ≡ Some b → slot_kind (scope ++ more) x ≡ Some b
  kind_more [] x b h = absurd (none_some b h)
  kind_more (z ∷ rest) x b h = by (z.token == x) h (kind_more rest x b)
    where
      by : (t : Bool) → cond t (Some z.is_pointer) (slot_kind rest x) ≡ Some b → (slot_kind rest x ≡ Some b → slot_kind (rest ++ more) x ≡ Some b) → cond t (Some z.is_pointer) (slot_kind (rest ++ more) x) ≡ Some b
      by true k later = k
      by false k later = later k

  from_more : (i r : ℕ) (scope : List Slot) (x : ℕ) (b : Bool) → slot_kind scope x ≡ Some b → register_from i r (scope ++ more) x ≡ register_from i r scope x
  from_more i r [] x b h = absurd (none_some b h)
  from_more i r (z ∷ rest) x b h = by (z.token == x) z.is_pointer h (from_more i (r + 1) rest x b) (from_more (i + 1) r rest x b)
    where
      by : (t p : Bool) → cond t (Some z.is_pointer) (slot_kind rest x) ≡ Some b
          → (slot_kind rest x ≡ Some b → register_from i (r + 1) (rest ++ more) x ≡ register_from i (r + 1) rest x)
          → (slot_kind rest x ≡ Some b → register_from (i + 1) r (rest ++ more) x ≡ register_from (i + 1) r rest x)
          → cond t (cond p (Reference r) (Int i)) (cond p (register_from i (r + 1) (rest ++ more) x) (register_from (i + 1) r (rest ++ more) x))
          ≡ cond t (cond p (Reference r) (Int i)) (cond p (register_from i (r + 1) rest x) (register_from (i + 1) r rest x))
      by true true k later aside = refl
      by true false k later aside = refl
      by false true k later aside = later k
      by false false k later aside = aside k

  pub pointers_more : (scope : List Slot) → pointers (scope ++ more) ≡ pointers scope ++ pointers more
  pointers_more [] = refl
  pointers_more (z ∷ rest) = by z.is_pointer (pointers_more rest)
    where
      by : (b : Bool) → pointers (rest ++ more) ≡ pointers rest ++ pointers more
          → cond b (z.token ∷ pointers (rest ++ more)) (pointers (rest ++ more)) ≡ cond b (z.token ∷ pointers rest) (pointers rest) ++ pointers more
      by true e = ap (λ l. z.token ∷ l) e
      by false e = e

  named_still : (scope : List Slot) (n : Named) (p : Option (List ℕ)) → PathNamed scope n p → PathNamed (scope ++ more) n p
  named_still scope (Named.Variable x) (Some p) h = kind_more scope x true h
  named_still scope _ _ h = tt

  mode_still : (m : Assignment) (scope : List Slot) (s : Sharing) → PathStands m.typed scope s → PathStands m.typed (scope ++ more) s
  mode_still m scope (locked l) h = named_still scope (named_at m.typed l.first) l.second h
  mode_still m scope _ h = tt

  pub all_still : (m : Assignment) (scope : List Slot) (modes : List Sharing) → AllStand m scope modes → AllStand m (scope ++ more) modes
  all_still m scope [] h = tt
  all_still m scope (s ∷ rest) h = (mode_still m scope s h.0, all_still m scope rest h.1)

  lock_stays : (c : Context) (n : Named) (p : Option (List ℕ)) → PathNamed c.scope n p → lock_named (with_more c more) n p ≡ lock_named c n p
  lock_stays c (Named.Variable x) (Some p) h = ap (λ g. Through (number_in g) (field_place_behind c.program.typed x p)) (from_more 0 0 c.scope x true h)
  lock_stays c _ _ h = refl

  pub locks_stay : (c : Context) (modes : List Sharing) → AllStand c.program c.scope modes → locks_at (with_more c more) modes ≡ locks_at c modes
  locks_stay c [] h = refl
  locks_stay c (locked l ∷ rest) h = ap (λ x. x ∷ locks_at (with_more c more) rest) (lock_stays c (named_at c.program.typed l.first) l.second h.0) ∙ ap (λ ls. lock_at c l ∷ ls) (locks_stay c rest h.1)
  locks_stay c (_ ∷ rest) h = locks_stay c rest h.1

  pub type_stays : (c : Context) (kind : Kind) (modes : List Sharing) → AllStand c.program c.scope modes → static_of (with_more c more) kind modes ≡ static_of c kind modes
  type_stays c kind modes h = ap (λ ls. record { target = number c.program (shape_of (base_of kind) modes); locks = ls }) (locks_stay c modes h)

  pub got_more : (scope : List Slot) (r : ℕ) → r < ref_count scope → slice_get (pointers (scope ++ more)) r ≡ slice_get (pointers scope) r
  got_more scope r low = ap (λ l. slice_get l r) (pointers_more scope) ∙ front_got (pointers scope) (pointers more) r (let n = pointer_count scope in omega (arith, low, n))

-- ---- what stands before a variable
-- the slot of a pointer, with those before it and those behind it
pub record Split (scope : List Slot) (r x : ℕ) : Type 0 where
  pub before : List Slot
  pub after : List Slot
  pub slot : Slot
  pub whole : scope ≡ before ++ slot ∷ after
  pub token : slot.token ≡ x
  pub count : ref_count before ≡ r

later_split : (z : Slot) (rest : List Slot) (n p x : ℕ) → cond z.is_pointer (n + 1) n ≡ p → Split rest n x → Split (z ∷ rest) p x
later_split z rest n p x e s = record {
  before = z ∷ s.before;
  after = s.after;
  slot = s.slot;
  whole = ap (λ l. z ∷ l) s.whole;
  token = s.token;
  count = ap (λ k. cond z.is_pointer (k + 1) k) s.count ∙ e;
}

split_by : (z : Slot) (rest : List Slot) (x : ℕ) → ((n : ℕ) → slice_get (pointers rest) n ≡ Some x → Split rest n x)
    → (b : Bool) → z.is_pointer ≡ b → (p : ℕ) → slice_get (cond b (z.token ∷ pointers rest) (pointers rest)) p ≡ Some x → Split (z ∷ rest) p x
split_by z rest x more true pointer zero k = record { before = []; after = rest; slot = z; whole = refl; token = same_some z.token x k; count = refl }
split_by z rest x more true pointer (suc p) k = let e : p + 1 ≡ suc p = omega arith in later_split z rest p (suc p) x (ap (λ b. cond b (p + 1) p) pointer ∙ e) (more p k)
split_by z rest x more false pointer p k = later_split z rest p p x (ap (λ b. cond b (p + 1) p) pointer) (more p k)

pub split : (scope : List Slot) (r x : ℕ) → slice_get (pointers scope) r ≡ Some x → Split scope r x
split [] r x h = absurd (none_some x h)
split (z ∷ rest) r x h = split_by z rest x (λ n k. split rest n x k) z.is_pointer refl r h

-- ---- what types name
-- the variable by which a type names a register
record NamedBy (c : Context) (scope : List Slot) (modes : List Sharing) (r : ℕ) : Type 0 where
  lock : Lock
  variable : ℕ
  stands : slot_kind scope variable ≡ Some true
  is : register c variable ≡ r

by_name : (c : Context) (scope : List Slot) (modes : List Sharing) (r : ℕ) (l : Lock) (n : Named) (p : Option (List ℕ)) → PathNamed scope n p → Names r (lock_named c n p) → NamedBy c scope modes r
by_name c scope modes r l (Named.Variable x) (Some p) s h = record { lock = l; variable = x; stands = s; is = h }
by_name c scope modes r l _ _ s h = absurd h

named_by : (c : Context) (scope : List Slot) (all modes : List Sharing) (r : ℕ) → AllStand c.program scope modes → SomeNames r (locks_at c modes) → NamedBy c scope all r
named_by c scope all [] r s h = absurd h
named_by c scope all (locked l ∷ rest) r s (inl h) = by_name c scope all r l (named_at c.program.typed l.first) l.second s.0 h
named_by c scope all (locked l ∷ rest) r s (inr h) = named_by c scope all rest r s.1 h
named_by c scope all (_ ∷ rest) r s h = named_by c scope all rest r s.1 h

names_variables : NamesVariables
names_variables c kind modes r s h =
    let n = named_by c c.scope modes modes r s h in
    let low = register_low c n.variable n.stands in
    subst (λ k. k < ref_count c.scope) n.is low

lower_type : (c : Context) (r q x : ℕ) → IsClosedScope c.program c.scope → slice_get (pointers c.scope) r ≡ Some x → Mentions (variable_type c x) q → q < r
lower_type c r q x closed got h =
    let s = split c.scope r x got in
    let m = c.program in
    let modes = modes_of m (declared_row m.typed written x) in
    let stands : AllStand m s.before modes = subst (DeclaredStands m s.before) s.token (closed s.before s.after s.slot s.whole) in
    let n = named_by c s.before modes modes q stands h in
    let inner : Context = record { program = m; globals = c.globals; scope = s.before } in
    let same : register inner n.variable ≡ register c n.variable =
    sym (ap number_in (ap (λ l. register_of l n.variable) s.whole ∙ from_more (s.slot ∷ s.after) 0 0 s.before n.variable true n.stands)) in
    let low = register_low inner n.variable n.stands in
    omega (arith, low, same, s.count, n.is)

pub names_lower : NamesLower
names_lower c r q closed h = by (slice_get (pointers c.scope) r) refl h
  where
    by : (o : Option ℕ) → slice_get (pointers c.scope) r ≡ o → EntryMentions (entry_named c o) q → q < r
    by None is k = absurd k
    by (Some x) is k = lower_type c r q x closed is k

entries_stay : EntriesStay
entries_stay c more r closed low = ap (entry_named (with_more c more)) (got_more more c.scope r low) ∙ by (slice_get (pointers c.scope) r) refl
  where
    m : Assignment
    m = c.program

    by : (o : Option ℕ) → slice_get (pointers c.scope) r ≡ o → entry_named (with_more c more) o ≡ entry_named c o
    by None is = refl
    by (Some x) is =
        let s = split c.scope r x is in
        let modes = modes_of m (declared_row m.typed written x) in
        let stands : AllStand m s.before modes = subst (DeclaredStands m s.before) s.token (closed s.before s.after s.slot s.whole) in
        let here : AllStand m c.scope modes = subst (λ l. AllStand m l modes) (sym s.whole) (all_still (s.slot ∷ s.after) m s.before modes stands) in
        ap Refers (type_stays more c (variable_kind (declaration_at m.typed x)) modes here)

-- ---- closed scopes
nothing_whole : (s : Slot) (before after : List Slot) → [] ≡ before ++ s ∷ after → ⊥
nothing_whole s [] after h = cc
nothing_whole s (x ∷ before) after h = cc

pub none_closed : NoneIsClosed
none_closed m before after s e = absurd (nothing_whole s before after e)

last_or_before : (scope : List Slot) (t : Slot) (before after : List Slot) (s : Slot) → scope ++ t ∷ [] ≡ before ++ s ∷ after
    → ((scope ≡ before) × (t ≡ s)) ⊎ ((rest : List Slot) × (scope ≡ before ++ s ∷ rest))
last_or_before [] t [] after s e = inl (refl, let h : t ∷ [] ≡ s ∷ after = e in cc)
last_or_before [] t (x ∷ before) after s e = absurd (nothing_whole s before after (let h : t ∷ [] ≡ x ∷ (before ++ s ∷ after) = e in cc))
last_or_before (y ∷ scope) t [] after s e = inr (scope, let h : y ∷ (scope ++ t ∷ []) ≡ s ∷ after = e in let same : y ≡ s = cc in ap (λ z. z ∷ scope) same)
last_or_before (y ∷ scope) t (x ∷ before) after s e = by (last_or_before scope t before after s (let h : y ∷ (scope ++ t ∷ []) ≡ x ∷ (before ++ s ∷ after) = e in cc))
  where
    head : y ≡ x
    head = let h : y ∷ (scope ++ t ∷ []) ≡ x ∷ (before ++ s ∷ after) = e in cc

    by : ((scope ≡ before) × (t ≡ s)) ⊎ ((rest : List Slot) × (scope ≡ before ++ s ∷ rest)) → ((y ∷ scope ≡ x ∷ before) × (t ≡ s)) ⊎ ((rest : List Slot) × (y ∷ scope ≡ x ∷ (before ++ s ∷ rest)))
    by (inl h) = inl (ap (λ z. z ∷ scope) head ∙ ap (λ l. x ∷ l) h.0, h.1)
    by (inr h) = inr (h.0, ap (λ z. z ∷ scope) head ∙ ap (λ l. x ∷ l) h.1)

pub more_closed : OneMoreIsClosed
more_closed m scope t closed stands before after s e = by (last_or_before scope t before after s e)
  where
    by : ((scope ≡ before) × (t ≡ s)) ⊎ ((rest : List Slot) × (scope ≡ before ++ s ∷ rest)) → DeclaredStands m before s.token
    by (inl h) = subst (λ (l : List Slot). DeclaredStands m l s.token) h.0 (subst (λ (z : Slot). DeclaredStands m scope z.token) h.1 stands)
    by (inr h) = closed before h.0 s h.1

fewer_closed : FewerAreClosed
fewer_closed m scope more closed before after s e = closed before (after ++ more) s (ap (λ l. l ++ more) e ∙ append_assoc before (s ∷ after) more)

pub scope_laws : ScopeLaws
scope_laws = record {
  has = has_register;
  one = one_variable;
  others = others_empty;
  named = names_variables;
  lower = names_lower;
  types = λ c more kind modes h. type_stays more c kind modes h;
  entries = entries_stay;
  still = λ m scope more modes h. all_still more m scope modes h;
  none = none_closed;
  more = more_closed;
  fewer = fewer_closed;
}
