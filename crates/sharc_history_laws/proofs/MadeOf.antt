-- The pointer cells of a made object are those that its last New made pointers.
use Rattle.sharc_history_laws.proofs.{Imports.{◌≡◌, ℕ, ◌%◌, ◌<◌, ◌≢◌, true, false, cond, length, List, [], ◌∷◌, Option, Some, None, refl, sym, ap, ◌∙◌, subst, ⊎_elim, arith, cases_eq, find, slice_index_or, SourceEvent, Object, NewView, NewStage, Code, Instr, Shape, Stage, Makes, RunLaws, Fits, ref, opening_words, Turn, IsRun, MayTurn, result_of, opening_of, said, in_new, new_event, place_at, one_thread, bounds, place_after, said_now, table_of, latest, makes, is_number, is_live, Targets, StaticType, Field, Content, Integer, MutexWord, Waiters, Pointer, cells_of, field_at, field_of_cell, field_in, is_pointer, no_field, Label, Labels, IsWellTyped, IsSameContent, Recasts, ObjectState, first_world, first_place, objects_after, objects_behind, objects_now, IsSmall, Keeps, CodeBegins, CellsAreThere, PointersAreThere, AccessesAreAllowed, history_of, yes}, TurnAt.{turn_at, told_at}, Acts.{About, made_said, given_at, freed_at}, Born.{fine as new_fine, target_is as new_target}, Consists.{Consists, consists_then, objects_then, none_live, given}, Lists.{Newest, latest_is, is_live_in}, Living.{LivesTold, lives_told}, Rules.{over_runs, pushed, newest, about_now, number_yes, number_not, same_behind, freed_gone, decide}, Tables.{header_at, header_in, header_of, was_live}, Valued.header_some, Values.{field_is, fine as give_fine, old_target, new_target as cast_target}}
use Rattle.sharc_invariant.specs.Types.{row_of}

-- ---- the last New of an object
-- it is this event, and a cell of an object of this target is a pointer where it is one of what is made there
pub record MadeAt (x : Targets) (L : Newest) (p target : ℕ) : Type 0 where
  pub event : SourceEvent
  pub last : find (makes (Object.Made p)) L ≡ Some event
  pub cells : (i : ℕ) → is_pointer (field_of_cell x target i).holds ≡ x.is_made_pointer event.site.token i

abbrev pub AreMade : Targets → Newest → (ℕ → ObjectState) → Type 0
AreMade x L obj = (p : ℕ) → p ≢ 0 → (obj p).live ≡ true → MadeAt x L p (obj p).ty.target

abbrev token_said : Option SourceEvent → ℕ
token_said None = 0
token_said (Some e) = e.site.token

module _ (x : Targets) (L : Newest) (p : ℕ) where
  -- a turn that makes the object
  made_begins : (target token : ℕ) (ev : Option SourceEvent) → made_said ev ≡ Some p → token_said ev ≡ token → ((i : ℕ) → is_pointer (field_of_cell x target i).holds ≡ x.is_made_pointer token i) → MadeAt x (pushed ev L) p target
  made_begins target token None made same cells = absurd (cc)
  made_begins target token (Some e) made same cells = record {
    event = e;
    last = ap (λ b. cond b (Some e) (find (makes (Object.Made p)) L)) (ap (is_number p) made ∙ number_yes p);
    cells = λ i. cells i ∙ ap (λ n. x.is_made_pointer n i) (sym same);
  }

  -- one that does not
  made_stays : (target : ℕ) (ev : Option SourceEvent) → (made_said ev ≡ Some p → ⊥) → MadeAt x L p target → MadeAt x (pushed ev L) p target
  made_stays target None never k = k
  made_stays target (Some e) never k = record {
    event = k.event;
    last = ap (λ b. cond b (Some e) (find (makes (Object.Made p)) L)) (number_not p (made_said (Some e)) never) ∙ k.last;
    cells = k.cells;
  }

  -- another target, of which the same cells are pointers
  made_as : (old new : ℕ) → ((i : ℕ) → is_pointer (field_of_cell x new i).holds ≡ is_pointer (field_of_cell x old i).holds) → MadeAt x L p old → MadeAt x L p new
  made_as old new same k = record { event = k.event; last = k.last; cells = λ i. same i ∙ k.cells i }

-- no New makes object 0, that of the globals
abbrev pub NoneIsGlobals : Newest → Type 0
NoneIsGlobals L = find (makes (Object.Made 0)) L ≡ None

-- ---- casts
same_kind : (l : Label) (r : ℕ) (s t : StaticType) (a b : Content) → IsSameContent l r s t a b → is_pointer b ≡ is_pointer a
same_kind l r s t (Pointer f) (Pointer g) same = refl
same_kind l r s t (Pointer f) (Integer w) same = ap is_pointer (sym same)
same_kind l r s t (Pointer f) MutexWord same = ap is_pointer (sym same)
same_kind l r s t (Pointer f) Waiters same = ap is_pointer (sym same)
same_kind l r s t (Integer w) b same = ap is_pointer (sym same)
same_kind l r s t MutexWord b same = ap is_pointer (sym same)
same_kind l r s t Waiters b same = ap is_pointer (sym same)

none_there : (fs : List Field) (k : ℕ) → length fs ≡ 0 → is_pointer (slice_index_or fs k no_field).holds ≡ false
none_there [] k e = refl
none_there (f ∷ fs) k e = absurd (omega arith)

module _ (x : Targets) (l : Label) (r : ℕ) (s t : StaticType) (k : Recasts x l r s t) where
  cast_pointer : (i : ℕ) → is_pointer (field_of_cell x t.target i).holds ≡ is_pointer (field_of_cell x s.target i).holds
  cast_pointer i = ⊎_elim
      (λ (z : cells_of x t.target ≡ 0).
      none_there (row_of x t.target).fields (i % cells_of x t.target) z ∙ sym (none_there (row_of x s.target).fields (i % cells_of x s.target) (k.cells ∙ z)))
      (λ (nz : cells_of x t.target ≡ 0 → ⊥).
      let within : i % cells_of x s.target < cells_of x s.target = rest i (cells_of x s.target) (λ z. nz (sym k.cells ∙ z)) in
      ap (λ n. is_pointer (field_at x t.target (i % n)).holds) (sym k.cells) ∙ same_kind l r s t _ _ (k.same (i % cells_of x s.target) within))
      (cases_eq (cells_of x t.target) 0)
    where
      rest : (a b : ℕ) → b ≢ 0 → a % b < b
      rest a b ne = grind arith

-- ---- one turn
module _ (cell_laws : CellsAreThere) (pointers : PointersAreThere) (rights : AccessesAreAllowed) (laws : RunLaws) (keeps : Keeps) (x : Targets) (code : Code) (s : Shape) (ls : Labels) (wt : IsWellTyped x code ls) (fits : Fits code s) (few : IsSmall code s)
    (one : Turn) (earlier : List Turn) (h : Consists x code s ls earlier) (may : MayTurn bounds (one_thread code s) (place_after code s earlier) one) where
  open turn_at code s (place_after code s earlier) one use {g, m, i, m'}
  open told_at code s earlier one use {elements}

  abbrev ev : Option SourceEvent
  ev = said_now code (table_of code s earlier) ((place_after code s earlier).threads one.thread) (result_of one.event)

  abbrev then_ : Consists x code s ls (one ∷ earlier)
  then_ = consists_then laws keeps cell_laws pointers x code s ls wt fits few one earlier h may

  tells : About ((place_after code s earlier).threads one.thread).own.number (header_of i ((place_after code s earlier).threads one.thread).own.stage) (given_at i ((place_after code s earlier).threads one.thread)) (freed_at i ((place_after code s earlier).threads one.thread)) ev
  tells = about_now cell_laws pointers rights laws keeps x code s ls wt fits few one earlier h may

  module _ (L : Newest) (old : AreMade x L h.world.obj) (p : ℕ) (nz : p ≢ 0) (live' : (then_.world.obj p).live ≡ true) where
    at_p : then_.world.obj p ≡ objects_behind ls one.thread i ((place_after code s earlier).threads one.thread) m' h.world.obj p
    at_p = ap (λ (f : ℕ → ObjectState). f p) (objects_then laws keeps cell_laws pointers x code s ls wt fits few one earlier h may)

    abbrev Made : Type 0
    Made = MadeAt x (pushed ev L) p (then_.world.obj p).ty.target

    -- the turn makes it
    at_length : (r count cells site : ℕ) (v : NewView) → i ≡ Instr.New r count cells site → ((place_after code s earlier).threads one.thread).own.stage ≡ Makes v → v.stage ≡ NewStage.Length p → made_said ev ≡ Some p → Made
    at_length r count cells site v is stage length_is made =
        let fine = new_fine laws keeps cell_laws pointers x code s ls wt fits few one earlier h may p nz r count cells site v is stage length_is in
        let token : token_said ev ≡ (place_at code site).site.token =
        ap (λ j. token_said (said code j m (result_of one.event) elements)) is
        ∙ ap (λ y. token_said (in_new code m site cells y)) stage
        ∙ ap (λ y. token_said (new_event code m site cells v y)) length_is in
        subst (MadeAt x (pushed ev L) p) (sym (new_target laws keeps cell_laws pointers x code s ls wt fits few one earlier h may p nz r count cells site v is stage length_is))
        (made_begins x L p fine.2.0.target (place_at code site).site.token ev made token fine.2.5)

    at_stage : (r count cells site : ℕ) (v : NewView) → i ≡ Instr.New r count cells site → ((place_after code s earlier).threads one.thread).own.stage ≡ Makes v → (y : NewStage) → v.stage ≡ y → header_at y ≡ Some p → made_said ev ≡ Some p → Made
    at_stage r count cells site v is stage (NewStage.Length header) length_is q made = let same : header ≡ p = cc in at_length r count cells site v is stage (length_is ∙ ap NewStage.Length same) made
    at_stage r count cells site v is stage _ length_is q made = absurd (cc)

    at_new : (r count cells site : ℕ) → i ≡ Instr.New r count cells site → (stage : Stage) → ((place_after code s earlier).threads one.thread).own.stage ≡ stage → header_in stage ≡ Some p → made_said ev ≡ Some p → Made
    at_new r count cells site is (Makes v) stage q made = at_stage r count cells site v is stage v.stage refl q made
    at_new r count cells site is _ stage q made = absurd (cc)

    begun : header_of i ((place_after code s earlier).threads one.thread).own.stage ≡ Some p → Made
    begun q = by i refl q
      where
        by : (k : Instr) → i ≡ k → header_of k ((place_after code s earlier).threads one.thread).own.stage ≡ Some p → Made
        by (Instr.New r count cells site) is z = at_new r count cells site is m.own.stage refl z (tells.makes ∙ q)
        by _ is z = absurd (cc)

    -- it was there
    module _ (never : header_of i ((place_after code s earlier).threads one.thread).own.stage ≡ Some p → ⊥) where
      unfreed : freed_at i ((place_after code s earlier).threads one.thread) ≡ Some p → ⊥
      unfreed e = yes (sym live' ∙ ap (λ (y : ObjectState). y.live) at_p ∙ freed_gone ls one.thread m m' h.world.obj p i e)

      was : (h.world.obj p).live ≡ true
      was = ⊎_elim (λ (z : (h.world.obj p).live ≡ true). z) (λ z. absurd (never z))
          (was_live ls one.thread m m' h.world.obj p i (λ r site e. given laws keeps cell_laws pointers x code s ls wt fits few one earlier h may r site e) (ap (λ (y : ObjectState). y.live) (sym at_p) ∙ live'))

      before : MadeAt x (pushed ev L) p (h.world.obj p).ty.target
      before = made_stays x L p (h.world.obj p).ty.target ev (λ e. never (sym tells.makes ∙ e)) (old p nz was)

      at_give : (r site : ℕ) → i ≡ Instr.Give r site → ref ((place_after code s earlier).threads one.thread) r ≡ p → Made
      at_give r site is object =
          let fine = give_fine laws keeps cell_laws pointers x code s ls wt fits few one earlier h may p r site is object in
          let was_target = old_target laws keeps cell_laws pointers x code s ls wt fits few one earlier h may p r site is object in
          let now_target = cast_target laws keeps cell_laws pointers x code s ls wt fits few one earlier h may p r site is object in
          subst (MadeAt x (pushed ev L) p) (sym now_target)
          (made_as x (pushed ev L) p fine.2.0.target fine.2.1.target (cast_pointer x (ls.at m.at.pc) r fine.2.0 fine.2.1 fine.2.3) (subst (MadeAt x (pushed ev L) p) was_target before))

      stayed : Made
      stayed = ⊎_elim
          (λ (gave : given_at i m ≡ Some p). by i refl gave)
          (λ (not : given_at i m ≡ Some p → ⊥). subst (λ (y : ObjectState). MadeAt x (pushed ev L) p y.ty.target) (sym (at_p ∙ same_behind ls one.thread m m' h.world.obj p i never not unfreed)) before)
          (decide (given_at i m) p)
        where
          by : (k : Instr) → i ≡ k → given_at k ((place_after code s earlier).threads one.thread) ≡ Some p → Made
          by (Instr.Give r site) is q = at_give r site is (let same : ref m r ≡ p = cc in same)
          by _ is q = absurd (cc)

    now_made : Made
    now_made = ⊎_elim begun stayed (decide (header_of i m.own.stage) p)

  none_pushed : (L : Newest) → NoneIsGlobals L → (o : Option SourceEvent) → ev ≡ o → NoneIsGlobals (pushed o L)
  none_pushed L old None is = old
  none_pushed L old (Some e) is =
      let other : makes (Object.Made 0) e ≡ false = number_not 0 (made_said (Some e)) (λ q. header_some cell_laws pointers rights laws keeps x code s ls wt fits few one earlier h may 0 (sym tells.makes ∙ ap made_said is ∙ q) refl) in
      ap (λ b. cond b (Some e) (find (makes (Object.Made 0)) L)) other ∙ old

  pub none_then : (L : Newest) → NoneIsGlobals L → NoneIsGlobals (pushed ev L)
  none_then L old = none_pushed L old ev refl

  pub made_then : (L : Newest) → AreMade x L h.world.obj → AreMade x (pushed ev L) then_.world.obj
  made_then L old p nz live' = now_made L old p nz live'

-- ---- runs
pub record MadeInRun (x : Targets) (code : Code) (s : Shape) (ls : Labels) (run : List Turn) : Type 0 where
  pub consists : Consists x code s ls run
  pub lives : LivesTold (newest code s run) consists.world.obj
  pub made : AreMade x (newest code s run) consists.world.obj
  pub none : NoneIsGlobals (newest code s run)
  pub same : consists.world.obj ≡ objects_after code s ls (first_place code s) (first_world x).obj run

module _ (cell_laws : CellsAreThere) (pointers : PointersAreThere) (rights : AccessesAreAllowed) (laws : RunLaws) (begins_law : CodeBegins) (keeps : Keeps) (x : Targets) (code : Code) (s : Shape) (ls : Labels) (wt : IsWellTyped x code ls) (fits : Fits code s) (few : IsSmall code s) where
  pub made_in : (run : List Turn) → IsRun bounds (one_thread code s) (opening_of bounds (one_thread code s) (opening_words code s)) run → MadeInRun x code s ls run
  made_in run is =
      let k = over_runs cell_laws pointers laws begins_law keeps x code s ls wt fits few
      (λ run h L. record { lives : LivesTold L h.world.obj; made : AreMade x L h.world.obj; none : NoneIsGlobals L; same : h.world.obj ≡ objects_after code s ls (first_place code s) (first_world x).obj run })
      (record { lives = λ n live. absurd (yes (sym live)); made = λ p nz live. absurd (none_live begins_law x code s ls wt fits p nz live); none = refl; same = refl })
      (λ one earlier h may _ old.
      let ev = said_now code (table_of code s earlier) ((place_after code s earlier).threads one.thread) (result_of one.event) in
      let L = newest code s earlier in
      let then' = consists_then laws keeps cell_laws pointers x code s ls wt fits few one earlier h may in
      let then_objects = objects_then laws keeps cell_laws pointers x code s ls wt fits few one earlier h may in
      record {
        lives = lives_told cell_laws pointers rights laws keeps x code s ls wt fits few one earlier h may then'.world.obj then_objects L old.lives ev (about_now cell_laws pointers rights laws keeps x code s ls wt fits few one earlier h may);
        made = made_then cell_laws pointers rights laws keeps x code s ls wt fits few one earlier h may L old.made;
        none = none_then cell_laws pointers rights laws keeps x code s ls wt fits few one earlier h may L old.none;
        same = then_objects ∙ ap (objects_now code s ls (place_after code s earlier) one) old.same;
      }) run is in
      record { consists = k.0; lives = k.1.lives; made = k.1.made; none = k.1.none; same = k.1.same }

  -- no object that is made is that of the globals
  pub some_made : (run : List Turn) → IsRun bounds (one_thread code s) (opening_of bounds (one_thread code s) (opening_words code s)) run → (p : ℕ) (e : SourceEvent) → latest (makes (Object.Made p)) (history_of code s run) ≡ Some e → p ≢ 0
  some_made run is_run p e last z =
      let none : find (makes (Object.Made 0)) (newest code s run) ≡ None = (made_in run is_run).none in
      let made : find (makes (Object.Made 0)) (newest code s run) ≡ Some e = sym (latest_is (makes (Object.Made 0)) (newest code s run)) ∙ ap (λ n. latest (makes (Object.Made n)) (history_of code s run)) (sym z) ∙ last in
      let f : None ≡ Some e = sym none ∙ made in
      absurd (cc)

  -- an object that is live by the events is so by the turns
  pub lives_in : (run : List Turn) → IsRun bounds (one_thread code s) (opening_of bounds (one_thread code s) (opening_words code s)) run → (p : ℕ) → is_live (history_of code s run) (Object.Made p) ≡ true
      → (objects_after code s ls (first_place code s) (first_world x).obj run p).live ≡ true
  lives_in run is_run p live =
      let k = made_in run is_run in
      ap (λ (f : ℕ → ObjectState). (f p).live) (sym k.same) ∙ k.lives p (sym (is_live_in (newest code s run) p) ∙ live)

  -- by the objects of the turns
  pub pointers_made : (run : List Turn) → IsRun bounds (one_thread code s) (opening_of bounds (one_thread code s) (opening_words code s)) run → (p i : ℕ) → p ≢ 0 → is_live (history_of code s run) (Object.Made p) ≡ true
      → (e : SourceEvent) × (latest (makes (Object.Made p)) (history_of code s run) ≡ Some e)
      × (is_pointer (field_in x (objects_after code s ls (first_place code s) (first_world x).obj run p).ty i).holds ≡ x.is_made_pointer e.site.token i)
  pointers_made run is_run p i nz live =
      let k = made_in run is_run in
      let st = k.consists.state in
      let world = k.consists.world in
      let L = newest code s run in
      let there : (world.obj p).live ≡ true = k.lives p (sym (is_live_in L p) ∙ live) in
      let made = k.made p nz there in
      let field = field_is x code s ls (place_after code s run) world st p i nz there in
      let same : is_pointer (field_in x (objects_after code s ls (first_place code s) (first_world x).obj run p).ty i).holds ≡ is_pointer (field_in x (world.obj p).ty i).holds =
      ap (λ (f : ℕ → ObjectState). is_pointer (field_in x (f p).ty i).holds) (sym k.same) in
      (made.event, latest_is (makes (Object.Made p)) L ∙ made.last, same ∙ ap (λ (f : Field). is_pointer f.holds) field ∙ made.cells i)
