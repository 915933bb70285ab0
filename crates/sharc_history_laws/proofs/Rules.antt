-- Each access of a run of typed code is to a live object, by its owner where the cell is private, and no write under mode readonly.
use Rattle.sharc_history_laws.proofs.{Imports.{◌≡◌, ℕ, ◌^◌, ◌<◌, ◌≢◌, ◌⊎◌, inl, inr, true, false, List, [], ◌∷◌, reverse, Option, Some, None, refl, sym, ap, ◌∙◌, subst, ⊎_elim, arith, cases_eq, nat_tests, ◌==◌, SourceEvent, CellMode, Object, NewStage, Code, Cell, Instr, Shape, Stage, Makes, Uncounts, RunLaws, Fits, Machine, ref, opening_words, Said, Turn, IsRun, MayTurn, after_turn, put, result_of, with_told, opening_of, one_thread, bounds, place_after, Erase, said, cell_at, place_at, said_now, told_in, table_of, Access, makes, gives, frees, begins, is_number, made_by, given_by, History, IsAccess, is_owner, Targets, Field, FieldMode, field_in, mode_in, Labels, IsWellTyped, ObjectState, CanBy, lang_of, CellIsThere, objects_behind, made_behind, new_behind, freed_behind, objects_now, owned, gone, type_held, IsSmall, OnHold, object_of_cell, number_in, IsOn, Keeps, CodeBegins, CellsAreThere, PointersAreThere, AccessesAreAllowed, history_of, same_is as eq_refl, or_left, or_right, or_no, is_access, put_same, put_other, single}, TurnAt.{turn_at, told_at, turn_stands, RunOf}, Single.rests_hold, Stands.{live_low, known_ref, there, live_ref, sole_ref}, Tables.{header_at, header_in, header_of, was_live}, Consists.{Consists, consists_then, objects_then, given, header_built, built_low}, Acts.{access_said, thread_said, given_at, freed_in, freed_at, About, about, AreLow, no_access, access_at, IsAccess as TellsAccess, access_of}, Lists.{Newest, Each, OfAccess, no_event, each_push, live_in, owned_in, is_live_in, owned_is, live_made, live_other, owned_begun, owned_other}, Modes.{private_field, readonly_field}}
use Rattle.sharc_meaning.specs.{Events.freed_by, Obeys.IsThere}

-- ---- numbers of objects
pub number_yes : (n : ℕ) → is_number n (Some n) ≡ true
number_yes n = let e : (n == n) ≡ true = grind (arith, nat_tests) in e

pub number_not : (n : ℕ) (o : Option ℕ) → (o ≡ Some n → ⊥) → is_number n o ≡ false
number_not n None h = refl
number_not n (Some k) h = let ne : n ≡ k → ⊥ = λ e. h (ap (λ j. Some j) (sym e)) in let e : (n == k) ≡ false = grind (arith, nat_tests) in e

-- an event makes no object but the one that its turn makes
pub makes_none : (c : Object) (header : Option ℕ) (e : SourceEvent) → made_by e e.act ≡ header → ((n : ℕ) → c ≡ Object.Made n → header ≡ Some n → ⊥) → makes c e ≡ false
makes_none (Object.Global q) header e made unmade = refl
makes_none (Object.Made n) header e made unmade = number_not n (made_by e e.act) (λ q. unmade n refl (sym made ∙ q))

-- ---- objects after a turn
module _ (ls : Labels) (t : ℕ) (m m' : Machine) (f : ℕ → ObjectState) (n : ℕ) where
  -- the thread owns it, and a register has its type
  abbrev IsOwned : ObjectState → Type 0
  IsOwned o = (r : ℕ) × (o ≡ owned t (type_held ls m' r))

  new_owned : (r : ℕ) (y : NewStage) → header_at y ≡ Some n → IsOwned (new_behind ls t r m' y f n)
  new_owned r (NewStage.Length header) e = let same : header ≡ n = cc in (r, ap (λ h. put f h (owned t (type_held ls m' r)) n) same ∙ put_same f n (owned t (type_held ls m' r)))
  new_owned r _ e = absurd (cc)

  makes_owned : (r : ℕ) (y : Stage) → header_in y ≡ Some n → IsOwned (made_behind ls t r m' y f n)
  makes_owned r (Makes v) e = new_owned r v.stage e
  makes_owned r _ e = absurd (cc)

  pub made_owned : (i : Instr) → header_of i m.own.stage ≡ Some n → IsOwned (objects_behind ls t i m m' f n)
  made_owned (Instr.New r count cells site) e = makes_owned r m.own.stage e
  made_owned _ e = absurd (cc)

  pub given_owned : (i : Instr) → given_at i m ≡ Some n → IsOwned (objects_behind ls t i m m' f n)
  given_owned (Instr.Give r site) e = let same : ref m r ≡ n = cc in (r, ap (λ h. put f h (owned t (type_held ls m' r)) n) same ∙ put_same f n (owned t (type_held ls m' r)))
  given_owned _ e = absurd (cc)

  freed_dead : (o : ℕ) (y : Stage) → freed_in y o ≡ Some n → (freed_behind o y f n).live ≡ false
  freed_dead o (Uncounts all) e = let same : o ≡ n = cc in ap (λ h. (put f h gone n).live) same ∙ ap (λ (y : ObjectState). y.live) (put_same f n gone)
  freed_dead o _ e = absurd (cc)

  pub freed_gone : (i : Instr) → freed_at i m ≡ Some n → (objects_behind ls t i m m' f n).live ≡ false
  freed_gone (Instr.Free r layout site) e = freed_dead (ref m r) m.own.stage e
  freed_gone _ e = absurd (cc)

  same_new : (r : ℕ) (y : NewStage) → (header_at y ≡ Some n → ⊥) → new_behind ls t r m' y f n ≡ f n
  same_new r (NewStage.Length header) never = put_other f header n (owned t (type_held ls m' r)) (λ e. never (ap (λ k. Some k) (sym e)))
  same_new r _ never = refl

  same_makes : (r : ℕ) (y : Stage) → (header_in y ≡ Some n → ⊥) → made_behind ls t r m' y f n ≡ f n
  same_makes r (Makes v) never = same_new r v.stage never
  same_makes r _ never = refl

  same_freed : (o : ℕ) (y : Stage) → (freed_in y o ≡ Some n → ⊥) → freed_behind o y f n ≡ f n
  same_freed o (Uncounts all) never = put_other f o n gone (λ e. never (ap (λ k. Some k) (sym e)))
  same_freed o _ never = refl

  pub same_behind : (i : Instr) → (header_of i m.own.stage ≡ Some n → ⊥) → (given_at i m ≡ Some n → ⊥) → (freed_at i m ≡ Some n → ⊥) → objects_behind ls t i m m' f n ≡ f n
  same_behind (Instr.New r count cells site) a b c = same_makes r m.own.stage a
  same_behind (Instr.Give r site) a b c = put_other f (ref m r) n (owned t (type_held ls m' r)) (λ e. b (ap (λ k. Some k) (sym e)))
  same_behind (Instr.Free r layout site) a b c = same_freed (ref m r) m.own.stage c
  same_behind _ a b c = refl

-- ---- what holds of each access
pub record AllowedAccess (before : History) (e : SourceEvent) (a : Access) : Type 0 where
  pub there : IsThere before a.cell.object
  pub owner : a.mode ≡ CellMode.Private → is_owner before a.cell.object e.thread ≡ true
  pub unwritten : a.mode ≡ CellMode.Readonly → a.is_write ≡ false

-- ---- the history of a run
abbrev pub newest : Code → Shape → List Turn → Newest
newest code s run = told_in (Erase code s run)

abbrev pub pushed : Option SourceEvent → Newest → Newest
pushed None L = L
pushed (Some e) L = e ∷ L

-- what holds of each event holds with one event more, if it holds of that
pub each_pushed : (P : History → SourceEvent → Type 0) (ev : Option SourceEvent) (L : Newest) → Each P (reverse L) → ((e : SourceEvent) → ev ≡ Some e → P (reverse L) e) → Each P (reverse (pushed ev L))
each_pushed P None L old new = old
each_pushed P (Some e) L old new = each_push P e L old (new e refl)

told_push : (t : ℕ) (e : Option SourceEvent) (says : List (Said SourceEvent)) → told_in (with_told t e says) ≡ pushed e (told_in says)
told_push t None says = refl
told_push t (Some e) says = refl

pub newest_now : (code : Code) (s : Shape) (one : Turn) (earlier : List Turn)
    → newest code s (one ∷ earlier) ≡ pushed (said_now code (table_of code s earlier) ((place_after code s earlier).threads one.thread) (result_of one.event)) (newest code s earlier)
newest_now code s one earlier = told_push one.thread (said_now code (table_of code s earlier) ((place_after code s earlier).threads one.thread) (result_of one.event)) (Erase code s earlier)

-- objects are live, and have the owners, that the events say
pub record ObjectsTold (L : Newest) (obj : ℕ → ObjectState) : Type 0 where
  pub live : (n : ℕ) → n ≢ 0 → (obj n).live ≡ true → live_in L n ≡ true
  pub owner : (n : ℕ) → n ≢ 0 → (obj n).live ≡ true → owned_in L n (obj n).owner ≡ true

pub decide : (o : Option ℕ) (n : ℕ) → (o ≡ Some n) ⊎ (o ≡ Some n → ⊥)
decide None n = inr (λ e. let f : None ≡ Some n = e in cc)
decide (Some k) n = ⊎_elim (λ (e : k ≡ n). inl (ap (λ j. Some j) e)) (λ (ne : k ≡ n → ⊥). inr (λ e. ne (let f : k ≡ n = cc in f))) (cases_eq k n)

-- an access is one turn
pub access_single : (j : Instr) → is_access j ≡ true → single j ≡ true
access_single (Instr.Load r c site) e = cc
access_single _ e = cc

-- ---- one turn
module _ (cell_laws : CellsAreThere) (pointers : PointersAreThere) (rights : AccessesAreAllowed) (laws : RunLaws) (keeps : Keeps) (x : Targets) (code : Code) (s : Shape) (ls : Labels) (wt : IsWellTyped x code ls) (fits : Fits code s) (few : IsSmall code s)
    (one : Turn) (earlier : List Turn) (h : Consists x code s ls earlier) (may : MayTurn bounds (one_thread code s) (place_after code s earlier) one) where
  open turn_at code s (place_after code s earlier) one use {g, t, m, i, found}
  open told_at code s earlier one use {elements}
  open h use {world}

  abbrev then_ : Consists x code s ls (one ∷ earlier)
  then_ = consists_then laws keeps cell_laws pointers x code s ls wt fits few one earlier h may

  pub is_on : IsOn (place_after code s earlier) one.thread
  is_on = (may.started, may.next.runs)

  pub number_is : ((place_after code s earlier).threads one.thread).own.number ≡ one.thread
  number_is = (h.state.threads t).has.number

  open turn_stands wt h.state one may use {stage_here, fine as fine_here}

  -- the numbers of objects that the turn tells of are of 32 bits
  low_live : (n : ℕ) → (h.world.obj n).live ≡ true → n < 2 ^ 32
  low_live n live = let lt = live_low x code s ls wt fits g world h.state n live in omega arith

  pub low_numbers : AreLow code ((place_after code s earlier).threads one.thread) i
  low_numbers = record {
    header = λ header e. (built_low x code s ls wt fits g world h.state header t (header_built x code s ls wt fits g world h.state t is_on header e)).1;
    given = λ r site e. low_live (ref m r) (given laws keeps cell_laws pointers x code s ls wt fits few one earlier h may r site e);
    freed = λ r layout site all e at.
        let hold : OnHold m.own.stage = subst OnHold (sym at) tt in
        let f = fine_here (Instr.Free r layout site) e in
        low_live (ref m r) (live_ref x code s ls wt fits g world h.state t is_on hold r (sole_ref x code s ls wt fits g world h.state t is_on hold r f.0.0 f.0.1));
  }

  -- what the event is about
  pub about_now : About ((place_after code s earlier).threads one.thread).own.number (header_of i ((place_after code s earlier).threads one.thread).own.stage) (given_at i ((place_after code s earlier).threads one.thread)) (freed_at i ((place_after code s earlier).threads one.thread)) (said code i ((place_after code s earlier).threads one.thread) found elements)
  about_now = about code m i found elements low_numbers

  -- ---- objects
  module _ (obj : ℕ → ObjectState) (obj_is : obj ≡ objects_now code s ls (place_after code s earlier) one h.world.obj) (L : Newest) (old : ObjectsTold L h.world.obj) (n : ℕ) (nz : n ≢ 0) (live : (obj n).live ≡ true) where
    abbrev m' : Machine
    m' = (after_turn bounds (one_thread code s) (place_after code s earlier) one).threads one.thread

    abbrev behind : ℕ → ObjectState
    behind = objects_behind ls one.thread i ((place_after code s earlier).threads one.thread) m' h.world.obj

    at_n : obj n ≡ behind n
    at_n = ap (λ (f : ℕ → ObjectState). f n) obj_is

    live' : (behind n).live ≡ true
    live' = ap (λ (y : ObjectState). y.live) (sym at_n) ∙ live

    unfreed : freed_at i ((place_after code s earlier).threads one.thread) ≡ Some n → ⊥
    unfreed e = let f : true ≡ false = sym live' ∙ freed_gone ls t m m' world.obj n i e in cc

    before : (header_of i ((place_after code s earlier).threads one.thread).own.stage ≡ Some n → ⊥) → (h.world.obj n).live ≡ true
    before never = ⊎_elim (λ (z : (world.obj n).live ≡ true). z) (λ z. absurd (never z)) (was_live ls t m m' world.obj n i (λ r site e. given laws keeps cell_laws pointers x code s ls wt fits few one earlier h may r site e) live')

    -- an event that is there
    module _ (e : SourceEvent) (tells : About ((place_after code s earlier).threads one.thread).own.number (header_of i ((place_after code s earlier).threads one.thread).own.stage) (given_at i ((place_after code s earlier).threads one.thread)) (freed_at i ((place_after code s earlier).threads one.thread)) (Some e)) where
      thread_is : e.thread ≡ one.thread
      thread_is = tells.thread ∙ number_is

      make_yes : header_of i ((place_after code s earlier).threads one.thread).own.stage ≡ Some n → makes (Object.Made n) e ≡ true
      make_yes is = ap (is_number n) (tells.makes ∙ is) ∙ number_yes n

      make_no : (header_of i ((place_after code s earlier).threads one.thread).own.stage ≡ Some n → ⊥) → makes (Object.Made n) e ≡ false
      make_no never = number_not n (made_by e e.act) (λ q. never (sym tells.makes ∙ q))

      give_yes : given_at i ((place_after code s earlier).threads one.thread) ≡ Some n → gives (Object.Made n) e ≡ true
      give_yes is = ap (is_number n) (tells.gives ∙ is) ∙ number_yes n

      give_no : (given_at i ((place_after code s earlier).threads one.thread) ≡ Some n → ⊥) → gives (Object.Made n) e ≡ false
      give_no never = number_not n (given_by e.act) (λ q. never (sym tells.gives ∙ q))

      free_no : frees (Object.Made n) e ≡ false
      free_no = number_not n (freed_by e.act) (λ q. unfreed (sym tells.frees ∙ q))

      live_still : live_in (e ∷ L) n ≡ true
      live_still = ⊎_elim
          (λ (made : header_of i m.own.stage ≡ Some n). live_made e L n (make_yes made))
          (λ (never : header_of i m.own.stage ≡ Some n → ⊥). live_other e L n (make_no never) free_no ∙ old.live n nz (before never))
          (decide (header_of i m.own.stage) n)

      mine : begins (Object.Made n) e ≡ true → (behind n).owner ≡ one.thread → owned_in (e ∷ L) n (obj n).owner ≡ true
      mine begun owner =
          let o : (obj n).owner ≡ e.thread = ap (λ (y : ObjectState). y.owner) at_n ∙ owner ∙ sym thread_is in
          ap (owned_in (e ∷ L) n) o ∙ owned_begun e L n begun ∙ eq_refl e.thread

      owner_still : owned_in (e ∷ L) n (obj n).owner ≡ true
      owner_still = ⊎_elim
          (λ (made : header_of i m.own.stage ≡ Some n). mine (or_left (makes (Object.Made n) e) (gives (Object.Made n) e) (make_yes made)) (ap (λ (o : ObjectState). o.owner) (made_owned ls t m m' world.obj n i made).1))
          (λ (never : header_of i m.own.stage ≡ Some n → ⊥). ⊎_elim
          (λ (gave : given_at i m ≡ Some n). mine (or_right (makes (Object.Made n) e) (gives (Object.Made n) e) (give_yes gave)) (ap (λ (o : ObjectState). o.owner) (given_owned ls t m m' world.obj n i gave).1))
          (λ (not : given_at i m ≡ Some n → ⊥).
          let same : obj n ≡ world.obj n = at_n ∙ same_behind ls t m m' world.obj n i never not unfreed in
          ap (λ (y : ObjectState). owned_in (e ∷ L) n y.owner) same
          ∙ owned_other e L n (world.obj n).owner (or_no (makes (Object.Made n) e) (gives (Object.Made n) e) (make_no never) (give_no not))
          ∙ old.owner n nz (before never))
          (decide (given_at i m) n))
          (decide (header_of i m.own.stage) n)

    -- no event: no object changes
    module _ (tells : About ((place_after code s earlier).threads one.thread).own.number (header_of i ((place_after code s earlier).threads one.thread).own.stage) (given_at i ((place_after code s earlier).threads one.thread)) (freed_at i ((place_after code s earlier).threads one.thread)) None) where
      nothing : obj n ≡ h.world.obj n
      nothing = at_n ∙ same_behind ls t m m' world.obj n i (λ e. let f : None ≡ Some n = tells.makes ∙ e in cc) (λ e. let f : None ≡ Some n = tells.gives ∙ e in cc) unfreed

      live_kept : live_in L n ≡ true
      live_kept = old.live n nz (ap (λ (y : ObjectState). y.live) (sym nothing) ∙ live)

      owner_kept : owned_in L n (obj n).owner ≡ true
      owner_kept = ap (λ (y : ObjectState). owned_in L n y.owner) nothing ∙ old.owner n nz (ap (λ (y : ObjectState). y.live) (sym nothing) ∙ live)

  pub objects_told : (obj : ℕ → ObjectState) → obj ≡ objects_now code s ls (place_after code s earlier) one h.world.obj → (L : Newest) → ObjectsTold L h.world.obj → (ev : Option SourceEvent)
      → About ((place_after code s earlier).threads one.thread).own.number (header_of i ((place_after code s earlier).threads one.thread).own.stage) (given_at i ((place_after code s earlier).threads one.thread)) (freed_at i ((place_after code s earlier).threads one.thread)) ev → ObjectsTold (pushed ev L) obj
  objects_told obj is L old None tells = record { live = λ n nz live. live_kept obj is L old n nz live tells; owner = λ n nz live. owner_kept obj is L old n nz live tells }
  objects_told obj is L old (Some e) tells = record { live = λ n nz live. live_still obj is L old n nz live e tells; owner = λ n nz live. owner_still obj is L old n nz live e tells }

  -- ---- accesses
  pub hold_access : is_access i ≡ true → OnHold ((place_after code s earlier).threads one.thread).own.stage
  hold_access e = rests_hold code s h.state.elements world h.state.heap g.words t m i m.own.stage (access_single i e) ((h.state.threads t).runs is_on.0 is_on.1).stage

  module _ (hold : OnHold ((place_after code s earlier).threads one.thread).own.stage) (k : TellsAccess x code ls ((place_after code s earlier).threads one.thread) i found elements) where
    pub cell_is : CellIsThere x s h.state.cells h.world one.thread ((place_after code s earlier).threads one.thread) k.cell k.field
    cell_is = there x code s ls wt fits g world h.state t is_on hold cell_laws k.cell k.field k.accesses.cell

    -- what the thread may do
    pub can : CanBy (lang_of x) h.world one.thread k.write (object_of_cell ((place_after code s earlier).threads one.thread) k.cell) (number_in ((place_after code s earlier).threads one.thread) k.cell)
        (mode_in (h.world.obj (object_of_cell ((place_after code s earlier).threads one.thread) k.cell)).ty (number_in ((place_after code s earlier).threads one.thread) k.cell) k.field.mode)
    can =
        let right = rights x code s ls wt fits g world h.state t is_on hold k.write k.cell k.site k.field k.accesses in
        let o = object_of_cell m k.cell in
        let j = number_in m k.cell in
        let a = subst (λ o. CanBy (lang_of x) world t k.write o j (mode_in (world.obj o).ty j (field_in x (world.obj o).ty j).mode)) cell_is.base right.can in
        subst (λ (f : Field). CanBy (lang_of x) world t k.write o j (mode_in (world.obj o).ty j f.mode)) cell_is.field a

    pub can_mode : (f : FieldMode) → k.field.mode ≡ f → CanBy (lang_of x) h.world one.thread k.write (object_of_cell ((place_after code s earlier).threads one.thread) k.cell) (number_in ((place_after code s earlier).threads one.thread) k.cell)
        (mode_in (h.world.obj (object_of_cell ((place_after code s earlier).threads one.thread) k.cell)).ty (number_in ((place_after code s earlier).threads one.thread) k.cell) f)
    can_mode f e = subst (λ f. CanBy (lang_of x) world t k.write (object_of_cell m k.cell) (number_in m k.cell) (mode_in (world.obj (object_of_cell m k.cell)).ty (number_in m k.cell) f)) e can

    some_base : (c : Cell) → Rattle.sharc_invariant.specs.Typed.HasBase (ls.at ((place_after code s earlier).threads one.thread).at.pc) c → (L : Newest) → ObjectsTold L h.world.obj → (h.world.obj (object_of_cell ((place_after code s earlier).threads one.thread) c)).live ≡ true
        → IsThere (reverse L) (cell_at code ((place_after code s earlier).threads one.thread) c).object
    some_base (Cell.Global q p) b L old live = tt
    some_base (Cell.GlobalAt q p) b L old live = tt
    some_base (Cell.Object r p) b L old live = is_live_in L (ref m r) ∙ old.live (ref m r) (known_ref x code s ls wt fits g world h.state t is_on hold r b) live
    some_base (Cell.ObjectAt r p) b L old live = is_live_in L (ref m r) ∙ old.live (ref m r) (known_ref x code s ls wt fits g world h.state t is_on hold r b) live

    owner_base : (c : Cell) → Rattle.sharc_invariant.specs.Typed.HasBase (ls.at ((place_after code s earlier).threads one.thread).at.pc) c → (L : Newest) → ObjectsTold L h.world.obj → (h.world.obj (object_of_cell ((place_after code s earlier).threads one.thread) c)).live ≡ true
        → (who : ℕ) → (h.world.obj (object_of_cell ((place_after code s earlier).threads one.thread) c)).owner ≡ who → is_owner (reverse L) (cell_at code ((place_after code s earlier).threads one.thread) c).object who ≡ true
    owner_base (Cell.Global q p) b L old live who e = let z : who ≡ 0 = sym e ∙ ap (λ (y : ObjectState). y.owner) h.state.globals in ap (λ n. n == 0) z
    owner_base (Cell.GlobalAt q p) b L old live who e = let z : who ≡ 0 = sym e ∙ ap (λ (y : ObjectState). y.owner) h.state.globals in ap (λ n. n == 0) z
    owner_base (Cell.Object r p) b L old live who e = owned_is L (ref m r) who ∙ ap (owned_in L (ref m r)) (sym e) ∙ old.owner (ref m r) (known_ref x code s ls wt fits g world h.state t is_on hold r b) live
    owner_base (Cell.ObjectAt r p) b L old live who e = owned_is L (ref m r) who ∙ ap (owned_in L (ref m r)) (sym e) ∙ old.owner (ref m r) (known_ref x code s ls wt fits g world h.state t is_on hold r b) live

    pub allowed : (L : Newest) → ObjectsTold L h.world.obj → (e : SourceEvent) → e.thread ≡ one.thread → AllowedAccess (reverse L) e (access_at code ((place_after code s earlier).threads one.thread) k.cell k.site k.write)
    allowed L old e thread =
        let at = cell_at code m k.cell in
        let mode = (place_at code k.site).mode in
        record {
          there = some_base k.cell k.accesses.cell.base L old cell_is.live;
          owner = λ q. owner_base k.cell k.accesses.cell.base L old cell_is.live e.thread
              (can_mode FieldMode.Private (private_field code m at (ls.at m.at.pc) k.cell k.field.mode mode k.accesses.mode q) ∙ sym thread);
          unwritten = λ q. can_mode FieldMode.Readonly (readonly_field code m at (ls.at m.at.pc) k.cell k.field.mode mode k.accesses.mode q);
        }

  -- the event of the turn, if it is an access, is one that is allowed
  pub allowed_now : (L : Newest) → ObjectsTold L h.world.obj → (e : SourceEvent) → said code i ((place_after code s earlier).threads one.thread) found elements ≡ Some e → (a : Access) → IsAccess e a → AllowedAccess (reverse L) e a
  allowed_now L old e said_is a is =
      let q : access_said (said code i m found elements) ≡ Some a = ap access_said said_is ∙ is in
      elim (is_access i) as (λ b. is_access i ≡ b → AllowedAccess (reverse L) e a) [
        | true ↦ λ yes.
            let hold = hold_access yes in
            let k = access_of x code ls m i found elements yes (wt.fine m.at.pc) in
            let same : access_at code m k.cell k.site k.write ≡ a = let both : Some (access_at code m k.cell k.site k.write) ≡ Some a = sym k.said_is ∙ q in cc in
            let thread : e.thread ≡ t = ap (thread_said m.own.number) (sym said_is) ∙ about_now.thread ∙ number_is in
            subst (AllowedAccess (reverse L) e) same (allowed hold k L old e thread)
        | false ↦ λ never. absurd (let f : None ≡ Some a = sym (no_access code m laws.turns.tells i found elements never) ∙ q in cc)
      ] refl

-- ---- runs
-- what holds of no turns, and behind each turn where it held before, by the events so far, holds of each run
module _ (cell_laws : CellsAreThere) (pointers : PointersAreThere) (laws : RunLaws) (begins_law : CodeBegins) (keeps : Keeps) (x : Targets) (code : Code) (s : Shape) (ls : Labels) (wt : IsWellTyped x code ls) (fits : Fits code s) (few : IsSmall code s)
    (P : (run : List Turn) → Consists x code s ls run → Newest → Type 0) (none : P [] (Rattle.sharc_history_laws.proofs.Consists.at_first begins_law x code s ls wt fits) [])
    (next : (one : Turn) (earlier : List Turn) (h : Consists x code s ls earlier) (may : MayTurn bounds (one_thread code s) (place_after code s earlier) one) → RunOf code s earlier → P earlier h (newest code s earlier)
    → P (one ∷ earlier) (consists_then laws keeps cell_laws pointers x code s ls wt fits few one earlier h may) (pushed (said_now code (table_of code s earlier) ((place_after code s earlier).threads one.thread) (result_of one.event)) (newest code s earlier))) where
  pub over_runs : (run : List Turn) → RunOf code s run → (h : Consists x code s ls run) × P run h (newest code s run)
  over_runs [] run = (Rattle.sharc_history_laws.proofs.Consists.at_first begins_law x code s ls wt fits, none)
  over_runs (one ∷ earlier) run =
      let old = over_runs earlier run.0 in
      let h = consists_then laws keeps cell_laws pointers x code s ls wt fits few one earlier old.0 run.1 in
      (h, subst (P (one ∷ earlier) h) (sym (newest_now code s one earlier)) (next one earlier old.0 run.1 run.0 old.1))

pub record Obeyed (x : Targets) (code : Code) (s : Shape) (ls : Labels) (run : List Turn) : Type 0 where
  pub consists : Consists x code s ls run
  pub objects : ObjectsTold (newest code s run) consists.world.obj
  pub allowed : Each (OfAccess AllowedAccess) (history_of code s run)

module _ (cell_laws : CellsAreThere) (pointers : PointersAreThere) (rights : AccessesAreAllowed) (laws : RunLaws) (begins_law : CodeBegins) (keeps : Keeps) (x : Targets) (code : Code) (s : Shape) (ls : Labels) (wt : IsWellTyped x code ls) (fits : Fits code s) (few : IsSmall code s) where
  nothing_live : (o : ℕ) → o ≢ 0 → ((Rattle.sharc_invariant.specs.Opened.first_world x).obj o).live ≡ true → ⊥
  nothing_live o nz live =
      let e : (o == 0) ≡ false = grind (arith, nat_tests) in
      let f : ((Rattle.sharc_invariant.specs.Opened.first_world x).obj o).live ≡ false = rw e refl in let g : true ≡ false = sym live ∙ f in cc

  pub obeyed : (run : List Turn) → IsRun bounds (one_thread code s) (opening_of bounds (one_thread code s) (opening_words code s)) run → Obeyed x code s ls run
  obeyed run is =
      let k = over_runs cell_laws pointers laws begins_law keeps x code s ls wt fits few
      (λ run h L. record { objects : ObjectsTold L h.world.obj; allowed : Each (OfAccess AllowedAccess) (reverse L) })
      (record { objects = record { live = λ n nz live. absurd (nothing_live n nz live); owner = λ n nz live. absurd (nothing_live n nz live) }; allowed = no_event (OfAccess AllowedAccess) })
      (λ one earlier h may _ old.
      let ev = said_now code (table_of code s earlier) ((place_after code s earlier).threads one.thread) (result_of one.event) in
      let L = newest code s earlier in
      let then' = consists_then laws keeps cell_laws pointers x code s ls wt fits few one earlier h may in
      record {
        objects = objects_told cell_laws pointers rights laws keeps x code s ls wt fits few one earlier h may then'.world.obj (objects_then laws keeps cell_laws pointers x code s ls wt fits few one earlier h may) L old.objects ev
            (about_now cell_laws pointers rights laws keeps x code s ls wt fits few one earlier h may);
        allowed = each_pushed (OfAccess AllowedAccess) ev L old.allowed (λ e is a access. allowed_now cell_laws pointers rights laws keeps x code s ls wt fits few one earlier h may L old.objects e is a access);
      }) run is in
      record { consists = k.0; objects = k.1.objects; allowed = k.1.allowed }
