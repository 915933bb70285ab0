-- The accesses of an accepted program, by the laws of lvalues' cells.
use Rattle.sharc_accepted_laws.proofs.Imports.{◌≡◌, ◌⊎◌, inl, inr, ℕ, zero, suc, ◌+◌, ◌<◌, ◌≤◌, ◌==◌, ◌&&◌, Bool, true, false, List, refl, ap, sym, ◌∙◌, subst, arith, eqb-true, Option, Some, None, false≢true, Base, Site, Expression, Kind, object, mutex, is_integer, Code, Use, Cell, global_at, kind_at, global_elements, is_mutex_kind, cell_at, Assignment, Lock, Sharing, first_cell, Lvalue, Context, ref_count, Target, in_global, in_global_at, in_object, in_object_at, has_base, target, cell_of, guard_cell, beside_field, guard_field, spot_of, width_of, StaticType, Content, Integer, Refers, Element, OfGlobal, Loaded, Gate, Label, Labels, Signature, gated, IsRef, IsAlone, refs_in, labels_by, mark, Typing, HoldsVariables, Ground, HasNumbers, number_in_global, HasIndex, HasBaseAt, ReachesInteger, HasMutex, ThroughGuard, IsInside, ScopeLaws, register, variable_type, ContentFits, base_content, HasBaseIn, HasIndexOf, IsCellNumber, IsPlaceNumber, HaveTarget, modes_behind, base_type, cells_in_each, LockStands, of_variable, IsFairAccess, IsGated, IsCellLvalue, IsCodeOf, AccessFits, CellsStand, AccessesFit, GuardsFit, LockLeads, to_global, to_variable, IsFairUse, setting, IsTypingOf, IsGroundOf, IntegersFit, MutexesFit}
use Rattle.sharc_names.specs.Kinds as kinds
use Rattle.sharc_flat.specs.Places.{variable, field_of}
use Rattle.sharc_invariant.specs.{Labels.OfElement, Typed.IsOwn}
use Rattle.sharc_typed_laws.specs.Premises.{IsPlaced}
use Rattle.sharc_accepted_laws.specs.Accesses.{of_global}

-- ---- contents
integer_by : (b : Base) → kinds.is_integral b ≡ true → base_content b ≡ Integer (width_of (object b 0))
integer_by Base.Mutex h = absurd (false≢true h)
integer_by _ h = cc

no_stars : (b : Base) (stars : ℕ) → is_integer (object b (suc stars)) ≡ true → ⊥
no_stars b stars is = by (suc stars == 0) refl is
  where
    by : (z : Bool) → (suc stars == 0) ≡ z → (z && kinds.is_integral b) ≡ true → ⊥
    by true same h = let none = eqb-true (suc stars) 0 same in omega (arith, none)
    by false same h = false≢true h

integer_content : (m : Assignment) (e : Expression) (n : ℕ) (modes : List Sharing) (k : Kind) (holds : Content) → is_integer k ≡ true → ContentFits m e n modes k holds → holds ≡ Integer (width_of k)
integer_content m e n modes (object b zero) holds is fits = fits ∙ integer_by b is
integer_content m e n modes (object b (suc stars)) holds is fits = absurd (no_stars b stars is)
integer_content m e n modes _ holds is fits = absurd (false≢true is)

integer_plain : (k : Kind) → is_integer k ≡ true → is_mutex_kind k ≡ false
integer_plain (object Base.Char zero) is = refl
integer_plain (object b (suc stars)) is = absurd (no_stars b stars is)
integer_plain _ is = cc

-- ---- registers
module _ (c : Context) (code : Code) (y : Typing) (f : ℕ) (e : Expression) (ground : Ground) (suits : IsGroundOf c e ground) (element : Element) (i r : ℕ) (q : Label) where
  cell_numbers : (beside : Option ℕ) (n : ℕ) → HasNumbers q i beside (λ field. OfElement r field element) n → HasIndexOf i beside (IsCellNumber q r element) n
  cell_numbers None n h = h
  cell_numbers (Some k) n h = h

  place_numbers : (g : ℕ) → ground.count ≡ cells_in_each c.program.typed (global_at c.program.typed g) → ground.elements ≡ global_elements (global_at c.program.typed g) → (beside : Option ℕ) (n : ℕ)
      → HasNumbers q i beside (number_in_global c.globals ground element g) n → HasIndexOf i beside (IsPlaceNumber c q g element) n
  place_numbers g count elements None n h = h ∙ ap (λ a. OfGlobal (first_cell c.globals g + n) a ground.elements element) count ∙ ap (λ b. OfGlobal (first_cell c.globals g + n) (cells_in_each c.program.typed (global_at c.program.typed g)) b element) elements
  place_numbers g count elements (Some k) n h = (
    h.0 ∙ ap (λ a. OfGlobal (first_cell c.globals g + n) a ground.elements element) count ∙ ap (λ b. OfGlobal (first_cell c.globals g + n) (cells_in_each c.program.typed (global_at c.program.typed g)) b element) elements,
    h.1 ∙ ap (λ a. OfGlobal (first_cell c.globals g + k) a ground.elements element) count ∙ ap (λ b. OfGlobal (first_cell c.globals g + k) (cells_in_each c.program.typed (global_at c.program.typed g)) b element) elements,
  )

  base_in : IsRef code q r → ground.base ≡ base_type c e → (q.env r ≡ Refers ground.base) × (q.known r ≡ true) → HasBaseIn code q r (base_type c e)
  base_in is_ref same h = record { is_ref = is_ref; refers = h.0 ∙ ap Refers same; known = h.1 }

  have : (t : Target) → target c.program.typed None e ≡ t → (beside : Option ℕ) → HasBaseAt t ground r q → HasIndex c.globals t beside ground element i r q → (has_base t ≡ true → IsRef code q r) → HaveTarget c code q t beside (base_type c e) element i r
  have (in_global_at g n) is beside b index in_it = place_numbers g (suits.count g n is) (suits.elements g n is) beside n index
  have (in_object n) is beside b index in_it = let there = ap has_base is in base_in (in_it refl) (suits.base there) b
  have (in_object_at n) is beside b index in_it = let there = ap has_base is in (base_in (in_it refl) (suits.base there) b, cell_numbers beside n index)
  have _ is beside b index in_it = tt

-- they are the same where the pointer to the mutex was loaded
regated : (c : Context) (code : Code) (q : Label) (g : Gate) (t : Target) (beside : Option ℕ) (s : StaticType) (element : Element) (i r : ℕ) → HaveTarget c code q t beside s element i r → HaveTarget c code (gated q g) t beside s element i r
regated c code q g (in_global_at k n) beside s element i r h = h
regated c code q g (in_object n) beside s element i r h = record { is_ref = h.is_ref; refers = h.refers; known = h.known }
regated c code q g (in_object_at n) beside s element i r h = let b = h.0 in (record { is_ref = b.is_ref; refers = b.refers; known = b.known }, h.1)
regated c code q g _ beside s element i r h = tt

-- the label where the lvalue is placed, or that behind the load of the pointer to its mutex
abbrev pub IsLike : Label → Label → Type 0
IsLike q k = (k ≡ q) ⊎ ((g : Gate) × (k ≡ gated q g))

-- ---- what the mode asks for
module _ (scopes : ScopeLaws) (c : Context) (code : Code) (signature : ℕ → Signature) (starts : ℕ → Bool) (lines : ℕ) (y : Typing) (typing : IsTypingOf y c) (f : ℕ) (e : Expression) where
  stands : (l : Lock) → LockLeads c l → (q : Label) → HoldsVariables y c q → ref_count c.scope ≤ refs_in code q.function → LockStands c code q l
  stands l (to_global g names kind) q holds low = of_global g names kind
  stands l (to_variable x name names second there inside mutex_there) q holds low =
      let has = scopes.has c x there in
      of_variable x name (variable_type c x) names second (omega (arith, low, has.0)) (holds.references (register c x) has.0 ∙ ap Refers (typing.pointers x there)) inside mutex_there

  own_cell : (ls : Labels) (q : Label) (i r : ℕ) (t : Target) → ((x : ℕ) → t ≡ variable x → ⊥) → ((g : ℕ) → IsInside t g → IsAlone ls q) → IsOwn ls q (cell_of c.globals i r t)
  own_cell ls q i r (variable x) none alone = absurd (none x refl)
  own_cell ls q i r (in_global g n) none alone = alone g refl
  own_cell ls q i r (in_global_at g n) none alone = alone g refl
  own_cell ls q i r _ none alone = tt

  fair : (write : Bool) → IsFairUse c (signature f).alone write e → IsCellLvalue c.program e → (q : Label) → q.function ≡ Some f → ((l : Lock) → LockLeads c l → LockStands c code q l) → (i r : ℕ)
      → IsFairAccess c code (labels_by (setting c code signature starts lines) (λ n. mark q 0 0)) q write (cell_of c.globals i r (target c.program.typed None e)) (modes_behind c.program e) (cell_at c.program e)
  fair write use_fair lvalue q owned leads i r = record {
    own = λ is. own_cell (labels_by (setting c code signature starts lines) (λ n. mark q 0 0)) q i r (target c.program.typed None e) lvalue.no_variable (λ g inside. (f, (owned, use_fair.own is g inside)));
    reads = use_fair.reads;
    path = λ l below modes mode. leads l (use_fair.path l below modes mode);
  }

-- ---- accesses
module _ (cells_stand : CellsStand) (accesses_fit : AccessesFit) (guards_fit : GuardsFit) (scopes : ScopeLaws) (c : Context) (code : Code) (is : IsCodeOf c code) (signature : ℕ → Signature) (starts : ℕ → Bool) (lines : ℕ) (y : Typing)
    (f : ℕ) (e : Expression) (lvalue : IsCellLvalue c.program e) (ground : Ground) (suits : IsGroundOf c e ground) where
  abbrev t : Target
  t = target c.program.typed None e

  mutexes : kind_at c.program.typed e ≡ mutex → (element : Element) (i r : ℕ) (q : Label) → IsPlaced (setting c code signature starts lines) y c f (target c.program.typed None e) None ground element i r q
      → HasMutex (setting c code signature starts lines) q (cell_of c.globals i r (target c.program.typed None e))
  mutexes kind element i r q placed =
      let w = cells_stand c code is q e lvalue element i r None (have c code y f e ground suits element i r q (target c.program.typed None e) refl None placed.base placed.index (λ there. subst (λ o. r < refs_in code o) (sym placed.owned) (placed.frame there))) in
      record { field = w.field; has = w.there; mutex = subst (λ k. ContentFits c.program e (field_of t) (modes_behind c.program e) k w.field.holds) kind w.fits.content }

  module _ (typing : IsTypingOf y c) (plain : is_mutex_kind (kind_at c.program.typed e) ≡ false) (write : Bool) (use_fair : IsFairUse c (signature f).alone write e) (site : Site) (words : Lvalue) (use_made : Use) (element : Element) (i r : ℕ) (q : Label)
      (placed : IsPlaced (setting c code signature starts lines) y c f (target c.program.typed None e) (beside_field c.program.typed (cell_at c.program e)) ground element i r q) where
    abbrev Fits : Label → Type 0
    Fits k = AccessFits c code (labels_by (setting c code signature starts lines) (λ n. mark k 0 0)) k write e (cell_of c.globals i r t) (spot_of c i r site words use_made (cell_at c.program e) t)

    registers : HaveTarget c code q t (beside_field c.program.typed (cell_at c.program e)) (base_type c e) element i r
    registers = have c code y f e ground suits element i r q t refl (beside_field c.program.typed (cell_at c.program e)) placed.base placed.index (λ there. subst (λ o. r < refs_in code o) (sym placed.owned) (placed.frame there))

    leads : (l : Lock) → LockLeads c l → LockStands c code q l
    leads l k = stands scopes c code signature starts lines y typing f e l k q placed.variables (subst (λ o. ref_count c.scope ≤ refs_in code o) (sym placed.owned) placed.variables_in)

    leads_on : (g : Gate) (l : Lock) → LockStands c code q l → LockStands c code (gated q g) l
    leads_on g l (of_global k names kind) = of_global k names kind
    leads_on g l (of_variable x name s names second is_ref refers inside there) = of_variable x name s names second is_ref refers inside there

    abbrev guard : ℕ → Cell
    guard k = guard_cell c.globals k i r t

    pub through : (Holds : Label → Type 0) → ((k : Label) → IsLike q k → Fits k → Holds k) → (o : Option ℕ) → guard_field c.program.typed (cell_at c.program e) ≡ o → ThroughGuard (setting c code signature starts lines) c t i r o Holds q
    through Holds each None none =
        each q (inl refl) (accesses_fit c code is q e lvalue element i r registers plain (subst (IsGated q guard) (sym none) placed.closed) (labels_by (setting c code signature starts lines) (λ n. mark q 0 0)) write
        (fair scopes c code signature starts lines y typing f e write use_fair lvalue q placed.owned leads i r) (spot_of c i r site words use_made (cell_at c.program e) t) refl refl)
    through Holds each (Some k) some =
        let w = guards_fit c code is q e lvalue element i r registers plain (λ l below modes mode. leads l (use_fair.path l below modes mode)) k some in (
          record { field = w.field; to = w.points.to; has = w.there; mode = w.points.mode; holds = w.points.holds },
          each (gated q (Loaded (guard_cell c.globals k i r t))) (inr (Loaded (guard_cell c.globals k i r t), refl))
              (accesses_fit c code is (gated q (Loaded (guard_cell c.globals k i r t))) e lvalue element i r (regated c code q (Loaded (guard_cell c.globals k i r t)) t (beside_field c.program.typed (cell_at c.program e)) (base_type c e) element i r registers) plain
              (subst (IsGated (gated q (Loaded (guard_cell c.globals k i r t))) guard) (sym some) refl) (labels_by (setting c code signature starts lines) (λ n. mark (gated q (Loaded (guard_cell c.globals k i r t))) 0 0)) write
              (fair scopes c code signature starts lines y typing f e write use_fair lvalue (gated q (Loaded (guard_cell c.globals k i r t))) placed.owned (λ l h. leads_on (Loaded (guard_cell c.globals k i r t)) l (leads l h)) i r)
              (spot_of c i r site words use_made (cell_at c.program e) t) refl refl),
        )

pub integers_fit : CellsStand → AccessesFit → GuardsFit → ScopeLaws → IntegersFit
integers_fit cells_stand accesses_fit guards_fit scopes c code is signature starts lines y typing f e lvalue ground suits integer write use_fair site words use_made element i r q placed =
    through cells_stand accesses_fit guards_fit scopes c code is signature starts lines y f e lvalue ground suits typing (integer_plain (kind_at c.program.typed e) integer) write use_fair site words use_made element i r q placed
    (λ k. ReachesInteger (setting c code signature starts lines) k write (cell_of c.globals i r (target c.program.typed None e)) (spot_of c i r site words use_made (cell_at c.program e) (target c.program.typed None e)) (width_of (kind_at c.program.typed e)))
    (λ k like w. let way = w.reaches in record {
      field = w.field;
      may = record { cell = way.cell_there; mode = way.mode; may = way.may };
      holds = integer_content c.program e (field_of (target c.program.typed None e)) (modes_behind c.program e) (kind_at c.program.typed e) w.field.holds integer w.fits.content;
    })
    (guard_field c.program.typed (cell_at c.program e)) refl

pub mutexes_fit : CellsStand → AccessesFit → GuardsFit → ScopeLaws → MutexesFit
mutexes_fit cells_stand accesses_fit guards_fit scopes c code is signature starts lines y f e lvalue ground suits kind element i r q placed =
    mutexes cells_stand accesses_fit guards_fit scopes c code is signature starts lines y f e lvalue ground suits kind element i r q placed
