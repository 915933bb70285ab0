-- A check of an access is directly before it, so where it passed its thread makes the access next.
use Rattle.sharc_history_laws.proofs.{Imports.{◌≡◌, ℕ, ◌+◌, Bool, true, false, List, [], ◌∷◌, ◌++◌, Some, is_some, if◌then◌else◌, refl, sym, ap, ◌∙◌, subst, ⊎_elim, cases_eq, nat_eq, SourceEvent, CellAt, Act, Taken, Kind, Read, Write, note_of, site_at, epoch_of, conflicts_in, noted, Code, PlaceMode, Cell, Instr, Shape, Stop, Conflict, int_of, granule_at, granule_of, Machine, Own, instr_at, act, place, ref, int, stopped, with_own, with_note, wrote, checked, turn, after, may_go, Turn, paired, state_now, result_of, turns_of, cell_at, mode_of, place_at, said, reference, kind_of, one_thread, place_after, Erase, Access, access_by, CheckOf, touch_of, site_of_check, IsCheck, IsFollowed, ChecksAreFollowed, access_to, access_of, TellsAccess, Follows, IsNext, IsMade, IsOfAccess, yes, TurnState, ne_eq, put_same, put_other, Parts, parts, no_clear, no_free, no_exit}, TurnAt.turn_at}
use Rattle.sharc_history_laws.specs.Followed.{Accesses}

-- the turn of this instruction, after which the machine is that one, is a check
pub data IsCheckBy (s : Shape) (m m' : Machine) (kind : Kind) (p : ℕ) (ok : Bool) (i : Instr) : Type 0 where
  OfRead : (c : Cell) (site : ℕ) → i ≡ Instr.ChkRead c site → kind ≡ Read → p ≡ granule_at s (granule_of (place m c)) → ok ≡ may_go m'.at.state → IsCheckBy s m m' kind p ok i
  OfWrite : (c : Cell) (site : ℕ) → i ≡ Instr.ChkWrite c site → kind ≡ Write → p ≡ granule_at s (granule_of (place m c)) → ok ≡ may_go m'.at.state → IsCheckBy s m m' kind p ok i

check_of : (s : Shape) (i : Instr) (m : Machine) (found : ℕ) (m' : Machine) (kind : Kind) (p : ℕ) (ok : Bool) → Parts (touch_of s i m found m') kind p ok → IsCheckBy s m m' kind p ok i
check_of s (Instr.ChkRead c site) m found m' kind p ok h = OfRead c site refl (sym h.0) (sym h.1) (sym h.2)
check_of s (Instr.ChkWrite c site) m found m' kind p ok h = OfWrite c site refl (sym h.0) (sym h.1) (sym h.2)
check_of s (Instr.Clear r cells) m found m' kind p ok h = absurd (no_clear s (ref m r) m.own.stage kind p ok h)
check_of s (Instr.Free r layout site) m found m' kind p ok h = absurd (no_free s (ref m r) m.own.stage kind p ok h)
check_of s Instr.Exit m found m' kind p ok h = absurd (no_exit s m found m.own.stage kind p ok h)
check_of s _ m found m' kind p ok h = absurd h

pub check_by : (s : Shape) (i : Instr) (m : Machine) (found : ℕ) (m' : Machine) (kind : Kind) (p : ℕ) (ok : Bool) → touch_of s i m found m' ≡ CheckOf kind p ok → IsCheckBy s m m' kind p ok i
check_by s i m found m' kind p ok e = check_of s i m found m' kind p ok (parts (touch_of s i m found m') kind p ok e)

-- ---- a check that passed changes what the thread has for itself, and no register
passed_is : (m : Machine) (b : Bool) (stop : Stop) (own : Own) → may_go (if b then stopped m stop else with_own m own).at.state ≡ true → (if b then stopped m stop else with_own m own) ≡ with_own m own
passed_is m true stop own go = absurd (yes (sym go))
passed_is m false stop own go = refl

note_number : (own : Own) (granule : ℕ) (kind : Kind) (epoch site : ℕ) → (with_note own granule kind epoch site).number ≡ own.number
note_number own granule kind epoch site =
    elim (is_some (site_at (note_of own.table granule kind) epoch)) as (λ b. (if b then own else record own { table = noted own.table granule kind record { epoch = epoch; site = site } }).number ≡ own.number) [ true ↦ refl | false ↦ refl ]

pub checked_is : (m : Machine) (kind : Kind) (granule site found : ℕ) → may_go (checked m kind granule site found).at.state ≡ true → checked m kind granule site found ≡ with_own m (with_note m.own granule kind (epoch_of found) site)
checked_is m kind granule site found go =
    passed_is m (conflicts_in found m.own.number kind (wrote m granule found)) (Conflict record { kind = kind; site = site; granule = granule; epoch = epoch_of found; old = found }) (with_note m.own granule kind (epoch_of found) site) go

-- a machine at another place and in another state, with another own state, names the same cells by the same registers
module _ (code : Code) (m : Machine) (pc : ℕ) (state : TurnState) (own : Own) where
  abbrev elsewhere : Machine
  elsewhere = record m { at = record m.at { pc = pc; state = state }; own = own }

  pub same_cell : (c : Cell) → cell_at code elsewhere c ≡ cell_at code m c
  same_cell (Cell.Global g p) = refl
  same_cell _ = refl

  same_mode : (at : CellAt) (mode : PlaceMode) → mode_of code elsewhere at mode ≡ mode_of code m at mode
  same_mode at PlaceMode.Private = refl
  same_mode at _ = refl

  pub same_access : (c : Cell) (site : ℕ) (write : Bool) → access_to code elsewhere c site write ≡ access_to code m c site write
  same_access c site write =
      let a = same_cell c in
      let b : mode_of code elsewhere (cell_at code elsewhere c) (place_at code site).mode ≡ mode_of code m (cell_at code m c) (place_at code site).mode =
      same_mode (cell_at code elsewhere c) (place_at code site).mode ∙ ap (λ at. mode_of code m at (place_at code site).mode) a in
      λ i. record { cell = a i; mode = b i; is_write = write }

-- ---- the access that an instruction makes
module _ (code : Code) (m : Machine) (c : Cell) (site : ℕ) where
  read_is : (i : Instr) → Accesses false c site i → access_of code m i ≡ Some (access_to code m c site false)
  read_is (Instr.Load r d at) h = ap (λ d. Some (access_to code m d at false)) (sym h.0) ∙ ap (λ at. Some (access_to code m c at false)) (sym h.1)
  read_is (Instr.LoadRef d at) h = ap (λ d. Some (access_to code m d at false)) (sym h.0) ∙ ap (λ at. Some (access_to code m c at false)) (sym h.1)
  read_is _ h = absurd h

  write_is : (i : Instr) → Accesses true c site i → access_of code m i ≡ Some (access_to code m c site true)
  write_is (Instr.Store r d at) h = ap (λ d. Some (access_to code m d at true)) (sym h.0) ∙ ap (λ at. Some (access_to code m c at true)) (sym h.1)
  write_is (Instr.Exchange r d at) h = ap (λ d. Some (access_to code m d at true)) (sym h.0) ∙ ap (λ at. Some (access_to code m c at true)) (sym h.1)
  write_is (Instr.TakeCell r d at) h = ap (λ d. Some (access_to code m d at true)) (sym h.0) ∙ ap (λ at. Some (access_to code m c at true)) (sym h.1)
  write_is _ h = absurd h

  pub accessed_is : (write : Bool) (i : Instr) → Accesses write c site i → access_of code m i ≡ Some (access_to code m c site write)
  accessed_is true i h = write_is i h
  accessed_is false i h = read_is i h

-- what its turn tells
record Tells (code : Code) (m : Machine) (i : Instr) (found elements site : ℕ) (a : Access) : Type 0 where
  pub event : SourceEvent
  pub told : said code i m found elements ≡ Some event
  pub thread : event.thread ≡ m.own.number
  pub at : event.site ≡ (place_at code site).site
  pub is : access_by event.act ≡ Some a

module _ (code : Code) (m : Machine) (found elements : ℕ) (c : Cell) (site : ℕ) where
  moved : (i : Instr) (d : Cell) (at : ℕ) (write : Bool) → c ≡ d → site ≡ at → Tells code m i found elements at (access_to code m d at write) → Tells code m i found elements site (access_to code m c site write)
  moved i d at write e f k = subst (λ at. Tells code m i found elements at (access_to code m c at write)) (sym f) (subst (λ d. Tells code m i found elements at (access_to code m d at write)) (sym e) k)

  read_told : (i : Instr) → Accesses false c site i → Tells code m i found elements site (access_to code m c site false)
  read_told (Instr.Load r d at) h = moved (Instr.Load r d at) d at false h.0 h.1
      (record { event = record { thread = m.own.number; site = (place_at code at).site; answer = int_of found; act = Act.Read (cell_at code m d) (mode_of code m (cell_at code m d) (place_at code at).mode) }; told = refl; thread = refl; at = refl; is = refl })
  read_told (Instr.LoadRef d at) h = moved (Instr.LoadRef d at) d at false h.0 h.1
      (record { event = record { thread = m.own.number; site = (place_at code at).site; answer = reference found elements; act = Act.Read (cell_at code m d) (mode_of code m (cell_at code m d) (place_at code at).mode) }; told = refl; thread = refl; at = refl; is = refl })
  read_told _ h = absurd h

  write_told : (i : Instr) → Accesses true c site i → Tells code m i found elements site (access_to code m c site true)
  write_told (Instr.Store r d at) h = moved (Instr.Store r d at) d at true h.0 h.1 (record {
    event = record { thread = m.own.number; site = (place_at code at).site; answer = Rattle.std.specs.Prelude.pos 0; act = Act.Write (cell_at code m d) (mode_of code m (cell_at code m d) (place_at code at).mode) (int m r) };
    told = refl;
    thread = refl;
    at = refl;
    is = refl;
  })
  write_told (Instr.Exchange r d at) h = moved (Instr.Exchange r d at) d at true h.0 h.1 (record {
    event = record { thread = m.own.number; site = (place_at code at).site; answer = Rattle.std.specs.Prelude.pos 0; act = Act.Write (cell_at code m d) (mode_of code m (cell_at code m d) (place_at code at).mode) (reference (ref m r) elements) };
    told = refl;
    thread = refl;
    at = refl;
    is = refl;
  })
  write_told (Instr.TakeCell r d at) h = moved (Instr.TakeCell r d at) d at true h.0 h.1 (record {
    event = record { thread = m.own.number; site = (place_at code at).site; answer = reference found elements; act = Act.Take (Taken.Cell (cell_at code m d) (mode_of code m (cell_at code m d) (place_at code at).mode)) (kind_of (place_at code at).at) };
    told = refl;
    thread = refl;
    at = refl;
    is = refl;
  })
  write_told _ h = absurd h

  access_told : (write : Bool) (i : Instr) → Accesses write c site i → Tells code m i found elements site (access_to code m c site write)
  access_told true i h = write_told i h
  access_told false i h = read_told i h

-- ---- the turns after a check
no_turn : (j : ℕ) (one : Turn) (later : List Turn) → (one.thread ≡ j → ⊥) → turns_of j later ≡ [] → turns_of j (one ∷ later) ≡ []
no_turn j one later ne h = let e : nat_eq j one.thread ≡ false = ne_eq j one.thread (λ z. ne (sym z)) in rw e h

module _ (code : Code) (s : Shape) (check : Turn) (earlier : List Turn) (c : Cell) (site : ℕ) (write : Bool) where
  abbrev m : Machine
  m = (place_after code s earlier).threads check.thread

  abbrev a : Access
  a = access_to code ((place_after code s earlier).threads check.thread) c site write

  module _ (number : ((place_after code s earlier).threads check.thread).own.number ≡ check.thread) (next : Accesses write c site (instr_at code (((place_after code s earlier).threads check.thread).at.pc + 1))) (own : Own) (own_number : own.number ≡ ((place_after code s earlier).threads check.thread).own.number)
      (now : (place_after code s (check ∷ earlier)).threads check.thread ≡ with_own ((place_after code s earlier).threads check.thread) own) where
    abbrev m1 : Machine
    m1 = with_own ((place_after code s earlier).threads check.thread) own

    record Made (later : List Turn) : Type 0 where
      pub after_it : List Turn
      pub turn : Turn
      pub between : List Turn
      pub parts : later ≡ after_it ++ turn ∷ between
      pub thread : turn.thread ≡ check.thread
      pub none : turns_of check.thread between ≡ []
      pub tells : TellsAccess code s (between ++ check ∷ earlier) turn site a

    -- the thread has made no turn, or one that tells the access
    data Since (later : List Turn) : Type 0 where
      NoneYet : turns_of check.thread later ≡ [] → (place_after code s (later ++ check ∷ earlier)).threads check.thread ≡ m1 → Since later
      HasMade : Made later → Since later

    makes : (one : Turn) (later : List Turn) → one.thread ≡ check.thread → turns_of check.thread later ≡ [] → (place_after code s (later ++ check ∷ earlier)).threads check.thread ≡ m1 → Made (one ∷ later)
    makes one later mine none is =
        let g = place_after code s (later ++ check ∷ earlier) in
        let at : g.threads one.thread ≡ m1 = ap g.threads mine ∙ is in
        let k : (found elements : ℕ) → Tells code m1 (instr_at code (m.at.pc + 1)) found elements site (access_to code m1 c site write) = λ found elements. access_told code m1 found elements c site write (instr_at code (m.at.pc + 1)) next in
        let y : (found elements : ℕ) → Tells code (g.threads one.thread) (instr_at code (g.threads one.thread).at.pc) found elements site a = λ found elements.
        subst (λ (y : Machine). Tells code y (instr_at code y.at.pc) found elements site a) (sym at) (subst (Tells code m1 (instr_at code (m.at.pc + 1)) found elements site) (same_access code m (m.at.pc + 1) TurnState.Runs own c site write) (k found elements)) in
        let z = y (result_of one.event) (paired (one_thread code s) (Erase code s (later ++ check ∷ earlier)) g one) in
        record {
          after_it = [];
          turn = one;
          between = later;
          parts = refl;
          thread = mine;
          none = none;
          tells = record {
            event = z.event;
            told = z.told;
            thread = z.thread ∙ ap (λ (y : Machine). y.own.number) at ∙ own_number ∙ number ∙ sym mine;
            at = z.at;
            is = z.is;
          };
        }

    longer : (one : Turn) (later : List Turn) → Made later → Made (one ∷ later)
    longer one later k = record { after_it = one ∷ k.after_it; turn = k.turn; between = k.between; parts = ap (λ (l : List Turn). one ∷ l) k.parts; thread = k.thread; none = k.none; tells = k.tells }

    since : (later : List Turn) → Since later
    since [] = NoneYet refl now
    since (one ∷ later) = by (since later)
      where
        by : Since later → Since (one ∷ later)
        by (NoneYet none is) = ⊎_elim
            (λ (mine : one.thread ≡ check.thread). HasMade (makes one later mine none is))
            (λ (ne : one.thread ≡ check.thread → ⊥). NoneYet (no_turn check.thread one later ne none)
            (put_other (place_after code s (later ++ check ∷ earlier)).threads one.thread check.thread (state_now (one_thread code s) (place_after code s (later ++ check ∷ earlier)) one) (λ z. ne (sym z)) ∙ is))
            (cases_eq one.thread check.thread)
        by (HasMade k) = HasMade (longer one later k)

    pub follows : (later : List Turn) → Follows code s later check earlier check.thread site a
    follows later = by (since later)
      where
        by : Since later → Follows code s later check earlier check.thread site a
        by (HasMade k) = IsMade k.after_it k.turn k.between k.parts k.thread k.none k.tells
        by (NoneYet none is) =
            let here : access_of code m1 (instr_at code (m.at.pc + 1)) ≡ Some a = accessed_is code m1 c site write (instr_at code (m.at.pc + 1)) next ∙ ap (λ a. Some a) (same_access code m (m.at.pc + 1) TurnState.Runs own c site write) in
            IsNext none (subst (λ (y : Machine). may_go y.at.state ≡ true) (sym is) refl) (subst (λ (y : Machine). access_of code y (instr_at code y.at.pc) ≡ Some a) (sym is) here)

-- ---- a check of a run
module _ (code : Code) (s : Shape) (followed : ChecksAreFollowed code) (check : Turn) (earlier : List Turn) (number : ((place_after code s earlier).threads check.thread).own.number ≡ check.thread) where
  open turn_at code s (place_after code s earlier) check use {g, m as checker, i, m' as checker'}

  module _ (kind : Kind) (p : ℕ) (c : Cell) (site : ℕ) (write : Bool) (dynamic : (place_at code site).mode ≡ PlaceMode.Dynamic) (next : Accesses write c site (instr_at code (((place_after code s earlier).threads check.thread).at.pc + 1)))
      (is : after (turn code s ((place_after code s earlier).threads check.thread)) (result_of check.event) ≡ checked ((place_after code s earlier).threads check.thread) kind p site (result_of check.event)) where
    of_access : (later : List Turn) (ok : Bool) → ok ≡ may_go checker'.at.state → IsOfAccess code s later check earlier check.thread site ok
    of_access later ok goes = record {
      access = access_to code checker c site write;
      is = accessed_is code checker c site write (instr_at code (checker.at.pc + 1)) next;
      dynamic = ap (mode_of code checker (cell_at code checker c)) dynamic;
      follows = λ passed.
          let found = result_of check.event in
          let own = with_note checker.own p kind (epoch_of found) site in
          let at : checker' ≡ checked checker kind p site found = put_same g.threads check.thread (state_now (one_thread code s) g check) ∙ is in
          let now : checker' ≡ with_own checker own = at ∙ checked_is checker kind p site found (ap (λ (y : Machine). may_go y.at.state) (sym at) ∙ sym goes ∙ passed) in
          follows code s check earlier c site write number next own (note_number checker.own p kind (epoch_of found) site) now later;
    }

  site_same : (c : Cell) (at site : ℕ) → i ≡ Instr.ChkRead c at → site_of_check i ≡ Some site → at ≡ site
  site_same c at site e is = let f : Some at ≡ Some site = sym (ap site_of_check e) ∙ is in cc

  write_site : (c : Cell) (at site : ℕ) → i ≡ Instr.ChkWrite c at → site_of_check i ≡ Some site → at ≡ site
  write_site c at site e is = let f : Some at ≡ Some site = sym (ap site_of_check e) ∙ is in cc

  by_parts : (later : List Turn) (kind : Kind) (p site : ℕ) (ok : Bool) → site_of_check i ≡ Some site → IsCheckBy s checker checker' kind p ok i → IsOfAccess code s later check earlier check.thread site ok
  by_parts later kind p site ok at (OfRead c own is kind_is granule goes) =
      let f : IsFollowed code (Instr.ChkRead c own) (instr_at code (checker.at.pc + 1)) = subst (λ j. IsFollowed code j (instr_at code (checker.at.pc + 1))) is (followed checker.at.pc) in
      subst (λ site. IsOfAccess code s later check earlier check.thread site ok) (site_same c own site is at)
      (of_access Read (granule_at s (granule_of (place checker c))) c own false f.0 f.1 (ap (λ j. after (act code s j checker) (result_of check.event)) is) later ok goes)
  by_parts later kind p site ok at (OfWrite c own is kind_is granule goes) =
      let f : IsFollowed code (Instr.ChkWrite c own) (instr_at code (checker.at.pc + 1)) = subst (λ j. IsFollowed code j (instr_at code (checker.at.pc + 1))) is (followed checker.at.pc) in
      subst (λ site. IsOfAccess code s later check earlier check.thread site ok) (write_site c own site is at)
      (of_access Write (granule_at s (granule_of (place checker c))) c own true f.0 f.1 (ap (λ j. after (act code s j checker) (result_of check.event)) is) later ok goes)

  pub of_check : (later : List Turn) (j : ℕ) (kind : Kind) (p site : ℕ) (ok : Bool) → IsCheck code s earlier check j kind p site ok → IsOfAccess code s later check earlier j site ok
  of_check later j kind p site ok k =
      subst (λ j. IsOfAccess code s later check earlier j site ok) k.thread
      (by_parts later kind p site ok k.site_is (check_by s i checker (result_of check.event) checker' kind p ok k.touch))
