-- The check that a report may name is its cause, and there is one.
use Rattle.sharc_history_laws.proofs.{Imports.{◌≡◌, ℕ, zero, suc, ◌+◌, ◌*◌, ◌/◌, ◌<◌, ◌≢◌, ◌⊎◌, inl, inr, Bool, true, false, ◌&&◌, List, [], ◌∷◌, ◌++◌, Option, Some, None, if◌then◌else◌, refl, sym, ap, ◌∙◌, subst, ⊎_elim, arith, cases_eq, or_right, nat_tests, slice_index, nat_lt, ◌==◌, CellAt, THREADS, Kind, Read, Write, Note, note_of, site_at, conflicts_in, epoch_of, stands, HasOther, Conflicts, Code, Cell, Shape, ConflictAt, Conflict, granules, first_shadow, shadow_word, Machine, instr_at, wrote, stopped, check_of, Turn, Global, cell_at, place_after, granule_in, CheckOf, Labels, touch_at, object_of_cell, number_in, Targets, noted_site, Stood, StoppedThere, IsNamed, OfWrite, OfRead, OfStop, OfFirst, NothingBetween, IsCause, HasNamed, site_of_check, IsCheck, ChecksAreFollowed, same_is, yes, some_or, eq_of, at_low}, TurnAt.{turn_at, RunOf}, Checks.{CheckCell, check_cell, cell_of_access, checked_here, adds, live_then, inside_then}, Conflicting.accesses_show, Doing.IsCheckAt, Followed.of_check, Noting.notes_told, Remaining.{word_at, site_now, Reason, Writes, Written, stop_is}, Spots.{Spot, SameSpot, same_spot, object_is}, Walking.along, Wholes.{TheLaws, Typed, Whole, whole, halting, fresh_of}, Finds.same_object}
use Rattle.sharc_heap.specs.ShadowWord.{is_of}
use Rattle.sharc_history_laws.proofs.Remaining as remaining

-- an earlier part of a run is one
pub base_of : (code : Code) (s : Shape) (between base : List Turn) → RunOf code s (between ++ base) → RunOf code s base
base_of code s [] base run = run
base_of code s (one ∷ between) base run = base_of code s between base run.0

same_numbers : (o j p q : ℕ) → o ≡ p → o + 1 + j ≡ p + 1 + q → j ≡ q
same_numbers o j p q a b = omega (arith, a, b)

site_of : (n : Note) (e z : ℕ) → site_at (Some n) e ≡ Some z → (n.site ≡ z) × (n.epoch ≡ e)
site_of n e z h = elim (n.epoch == e) as (λ b. (n.epoch == e) ≡ b → (if b then Some n.site else None) ≡ Some z → (n.site ≡ z) × (n.epoch ≡ e)) [
  | true ↦ λ q w. ((let f : n.site ≡ z = cc in f), eq_of n.epoch e q)
  | false ↦ λ _ w. absurd (let f : None ≡ Some z = w in cc)
] refl h

some_note : (o : Option Note) (e z : ℕ) → site_at o e ≡ Some z → (n : Note) × (o ≡ Some n) × (n.site ≡ z) × (n.epoch ≡ e)
some_note None e z h = absurd (let f : None ≡ Some z = h in cc)
some_note (Some n) e z h = let k = site_of n e z h in (n, refl, k.0, k.1)

module _ (laws : TheLaws) (x : Targets) (code : Code) (s : Shape) (ls : Labels) (typed : Typed x code s ls) where
  -- the object of this granule
  object_one : (run : List Turn) (is : RunOf code s run) (p q j k : ℕ) → ((whole laws x code s ls typed run is).consists.world.obj p).live ≡ true → ((whole laws x code s ls typed run is).consists.world.obj q).live ≡ true
      → 2 * j < (whole laws x code s ls typed run is).consists.state.cells p → 2 * k < (whole laws x code s ls typed run is).consists.state.cells q → p + 1 + j ≡ q + 1 + k → p ≡ q
  object_one run is p q j k lp lq a b e =
      let h = (whole laws x code s ls typed run is).consists in
      same_object laws.cells x code s ls typed.wt typed.fits (place_after code s run) h.world h.state p q (2 * j) (2 * k) lp lq a b (omega (arith, e))

  -- ---- a check that was refused
  module _ (report : Turn) (before : List Turn) (run : RunOf code s (report ∷ before)) (c : ConflictAt) (stop : ((place_after code s (report ∷ before)).threads report.thread).own.stop ≡ Some (Conflict c)) where
    open turn_at code s (place_after code s before) report use {g, m}

    abbrev w : Whole x code s ls before
    w = whole laws x code s ls typed before run.0

    fresh : ((place_after code s before).threads report.thread).own.stop ≡ None
    fresh = fresh_of laws x code s ls typed report before run w.halting

    number : ((place_after code s before).threads report.thread).own.number ≡ report.thread
    number = (w.consists.state.threads report.thread).has.number

    pub record Report : Type 0 where
      pub low : c.granule < granules s
      pub word : c.old ≡ word_at (place_after code s before) c.granule
      pub epoch : c.epoch ≡ epoch_of (word_at (place_after code s before) c.granule)
      pub is_check : IsCheck code s before report report.thread c.kind c.granule c.site false
      pub stopped_is : (place_after code s (report ∷ before)).threads report.thread ≡ stopped ((place_after code s before).threads report.thread) (Conflict c)
      pub conflicts : Conflicts (word_at (place_after code s before) c.granule) report.thread c.kind (wrote ((place_after code s before).threads report.thread) c.granule (word_at (place_after code s before) c.granule))

    pub the_report : Report
    the_report =
        let a = stop_is laws.run.turns laws.shadow laws.cells x code s ls typed.wt typed.fits g w.consists.world w.consists.state report run.1 fresh w.remains c stop in
        of a.0 a.1 a.2 a.3 a.4 a.5 a.6 a.7
      where
        site_now_is : (kind : Kind) (cell : Cell) (site : ℕ) → site_of_check (check_of kind cell site) ≡ Some site
        site_now_is Read cell site = refl
        site_now_is Write cell site = refl

        of : (kind : Kind) (q site : ℕ) → IsCheckAt s m (instr_at code ((place_after code s before).threads report.thread).at.pc) kind q site → touch_at code s (place_after code s before) report ≡ CheckOf kind q false
            → c ≡ record { kind = kind; site = site; granule = q; epoch = epoch_of (word_at (place_after code s before) q); old = word_at (place_after code s before) q }
            → conflicts_in (word_at (place_after code s before) q) ((place_after code s before).threads report.thread).own.number kind (wrote ((place_after code s before).threads report.thread) q (word_at (place_after code s before) q)) ≡ true
            → (place_after code s (report ∷ before)).threads report.thread ≡ stopped ((place_after code s before).threads report.thread) (Conflict record { kind = kind; site = site; granule = q; epoch = epoch_of (word_at (place_after code s before) q); old = word_at (place_after code s before) q })
            → Report
        of kind q site at touch is conflicts now =
            let qs : c.granule ≡ q = ap (λ (c : ConflictAt). c.granule) is in
            let ks : c.kind ≡ kind = ap (λ (c : ConflictAt). c.kind) is in
            let ss : c.site ≡ site = ap (λ (c : ConflictAt). c.site) is in
            let y : Conflicts (word_at g q) report.thread kind (wrote m q (word_at g q)) = (laws.shadow.conflicts (word_at g q) report.thread kind (wrote m q (word_at g q))).0 (ap (λ n. conflicts_in (word_at g q) n kind (wrote m q (word_at g q))) (sym number) ∙ conflicts) in
            record {
              low = subst (λ n. n < granules s) (sym qs) at.low;
              word = ap (λ (c : ConflictAt). c.old) is ∙ ap (word_at g) (sym qs);
              epoch = ap (λ (c : ConflictAt). c.epoch) is ∙ ap (λ q. epoch_of (word_at g q)) (sym qs);
              is_check = record {
                thread = refl;
                touch = touch ∙ ap (λ q. CheckOf kind q false) (sym qs) ∙ ap (λ k. CheckOf k c.granule false) (sym ks);
                site_is = ap site_of_check at.is ∙ site_now_is kind at.cell site ∙ ap (λ z. Some z) (sym ss);
              };
              stopped_is = now ∙ ap (λ (c : ConflictAt). stopped m (Conflict c)) (sym is);
              conflicts = subst (λ q. Conflicts (word_at g q) report.thread c.kind (wrote m q (word_at g q))) (sym qs) (subst (λ k. Conflicts (word_at g q) report.thread k (wrote m q (word_at g q))) (sym ks) y);
            }

  -- ---- a check before it
  module _ (followed : ChecksAreFollowed code) (report : Turn) (between : List Turn) (check : Turn) (earlier : List Turn) (run : RunOf code s (report ∷ (between ++ check ∷ earlier))) (c : ConflictAt)
      (stop : ((place_after code s (report ∷ (between ++ check ∷ earlier))).threads report.thread).own.stop ≡ Some (Conflict c)) (j : ℕ) (kind : Kind) (site : ℕ) (passed : Bool) (is_check : IsCheck code s earlier check j kind c.granule site passed) where
    abbrev base : List Turn
    base = check ∷ earlier

    abbrev here : List Turn
    here = between ++ check ∷ earlier

    abbrev p : ℕ
    p = c.granule

    the : Report report here run c stop
    the = the_report report here run c stop

    -- the two checks
    mine : CheckCell code s (place_after code s (between ++ check ∷ earlier)) report c.kind c.granule
    mine = check_cell code s (place_after code s here) report c.kind p false the.is_check.touch

    other : CheckCell code s (place_after code s earlier) check kind c.granule
    other = check_cell code s (place_after code s earlier) check kind p passed is_check.touch

    abbrev m1 : Machine
    m1 = (place_after code s earlier).threads check.thread

    abbrev m2 : Machine
    m2 = (place_after code s (between ++ check ∷ earlier)).threads report.thread

    abbrev o : ℕ
    o = object_of_cell ((place_after code s earlier).threads check.thread) other.cell

    abbrev k : ℕ
    k = number_in ((place_after code s earlier).threads check.thread) other.cell / 2

    base_run : RunOf code s (check ∷ earlier)
    base_run = base_of code s between base run.0

    is_p : c.granule ≡ o + 1 + k
    is_p = (checked_here laws x code s ls typed check earlier kind c.granule other base_run).is

    pub cause_at : j ≢ report.thread → (c.kind ≡ Write) ⊎ (kind ≡ Write) → epoch_of (word_at (place_after code s earlier) c.granule) ≡ c.epoch → stands (word_at (place_after code s (between ++ check ∷ earlier)) c.granule) j ≡ true
        → IsCause code s (between ++ check ∷ earlier) report c j kind site
    cause_at ne write epoch bit =
        let lt : o + 1 + k < granules s = subst (λ n. n < granules s) is_p the.low in
        let first = checked_here laws x code s ls typed check earlier kind p other base_run in
        let second = checked_here laws x code s ls typed report here c.kind p mine run in
        let added = adds laws x code s ls typed check earlier kind p other base_run passed is_check.touch in
        -- the bit and the epoch behind the first check and at the second one
        let bit_base : stands (word_at (place_after code s base) p) j ≡ true =
        added.threads j ∙ or_right (stands (word_at (place_after code s earlier) p) j) (j == check.thread) (ap (λ u. j == u) is_check.thread ∙ same_is j) in
        let epochs : epoch_of (word_at (place_after code s here) p) ≡ epoch_of (word_at (place_after code s base) p) = sym the.epoch ∙ sym epoch ∙ sym added.epoch in
        let named = of_check code s followed check earlier (((whole laws x code s ls typed earlier base_run.0).consists.state.threads check.thread).has.number) between j kind p site passed is_check in
        let refused = of_check code s followed report here (((whole laws x code s ls typed here run.0).consists.state.threads report.thread).has.number) [] report.thread c.kind p c.site false the.is_check in
        let named_is = cell_of_access laws x code s ls typed check earlier kind p other followed named.access (ap (λ u. Rattle.sharc_history_laws.specs.Followed.access_checked code ((place_after code s earlier).threads u)) is_check.thread ∙ named.is) in
        let refused_is = cell_of_access laws x code s ls typed report here c.kind p mine followed refused.access refused.is in
        let way = along laws x code s ls typed base o k j lt (cell_at code m1 other.cell).object (object_is code (cell_at code m1 other.cell) o k p first.spot)
        (λ is. let f = checked_here laws x code s ls typed check earlier kind p other is in live_then laws x code s ls typed check earlier kind p other is o k f.live f.inside)
        (λ is. let f = checked_here laws x code s ls typed check earlier kind p other is in inside_then laws x code s ls typed check earlier kind p other is o k f.live f.inside)
        between run.0
        (ap (λ p. epoch_of (word_at (place_after code s here) p)) (sym is_p) ∙ epochs ∙ ap (λ p. epoch_of (word_at (place_after code s base) p)) is_p)
        (ap (λ p. stands (word_at (place_after code s base) p) j) (sym is_p) ∙ bit_base)
        (ap (λ p. stands (word_at (place_after code s here) p) j) (sym is_p) ∙ bit) in
        let o2 = object_of_cell m2 mine.cell in
        let k2 = number_in m2 mine.cell / 2 in
        let both : o + 1 + k ≡ o2 + 1 + k2 = sym is_p ∙ second.is in
        let os : o ≡ o2 = object_one here run.0 o o2 k k2 way.is_live second.live way.is_inside second.inside both in
        let ks : k ≡ k2 = same_numbers o k o2 k2 os both in
        let spot2 : Spot code (cell_at code m2 mine.cell) o k p = subst (λ o. Spot code (cell_at code m2 mine.cell) o k p) (sym os) (subst (λ k. Spot code (cell_at code m2 mine.cell) o2 k p) (sym ks) second.spot) in
        let same : SameSpot (cell_at code m1 other.cell) (cell_at code m2 mine.cell) = same_spot x code typed.wt.globals (cell_at code m1 other.cell) (cell_at code m2 mine.cell) o k p first.spot spot2 in
        let object : (cell_at code m1 other.cell).object ≡ refused.access.cell.object = same.0 ∙ sym (ap (λ (y : CellAt). y.object) refused_is) in
        record {
          other = ne;
          write = write;
          is_report = the.is_check;
          refused = refused;
          between = between;
          check = check;
          earlier = earlier;
          parts = refl;
          passed = passed;
          is_check = is_check;
          named = named;
          object = ap (λ (y : CellAt). y.object) named_is ∙ object;
          granule = ap granule_in named_is ∙ same.1 ∙ sym (ap granule_in refused_is);
          nothing = subst (λ object. NothingBetween code s between base object j) object way.no_events;
        }

  -- ---- the checks that a report may name
  module _ (report : Turn) (before : List Turn) (run : RunOf code s (report ∷ before)) (c : ConflictAt) (stop : ((place_after code s (report ∷ before)).threads report.thread).own.stop ≡ Some (Conflict c)) where
    abbrev at_p : ℕ
    at_p = c.granule

    reports : Report report before run c stop
    reports = the_report report before run c stop

    abbrev CauseOf : List Turn → ℕ → Kind → ℕ → Type 0
    CauseOf run j kind site = IsCause code s run report c j kind site

    bit_of : (j : ℕ) → Stood c report.thread j → stands (word_at (place_after code s before) c.granule) j ≡ true
    bit_of j stood = ap (λ v. stands v j) (sym reports.word) ∙ stood.1

    stopped_at : (j : ℕ) (d : ConflictAt) → StoppedThere (place_after code s before) c j d → remaining.StoppedAt (place_after code s before) j c.granule d
    stopped_at j d at = record { is = at.is; granule = at.granule; epoch = at.epoch ∙ reports.epoch }

    -- the thread of the report has not stopped yet
    not_mine : (j : ℕ) (d : ConflictAt) → ((place_after code s before).threads j).own.stop ≡ Some (Conflict d) → j ≢ report.thread
    not_mine j d is mine = let f : None ≡ Some (Conflict d) = sym (fresh report before run c stop) ∙ ap (λ j. ((place_after code s before).threads j).own.stop) (sym mine) ∙ is in cc

    module _ (followed : ChecksAreFollowed code) where
      found : (between : List Turn) (check : Turn) (earlier : List Turn) → before ≡ between ++ check ∷ earlier → (j : ℕ) (kind : Kind) (site : ℕ) (passed : Bool) → IsCheck code s earlier check j kind c.granule site passed → j ≢ report.thread → (c.kind ≡ Write) ⊎ (kind ≡ Write)
          → epoch_of (slice_index (place_after code s earlier).words (shadow_word s c.granule)) ≡ c.epoch → stands (word_at (place_after code s before) c.granule) j ≡ true → IsCause code s before report c j kind site
      found between check earlier parts j kind site passed is_check ne write epoch bit =
          let now : epoch_of (word_at (place_after code s earlier) at_p) ≡ c.epoch = ap (λ q. epoch_of (slice_index (place_after code s earlier).words (first_shadow + q))) (sym (at_low s at_p reports.low)) ∙ epoch in
          subst Goal (sym parts) (λ run stop bit. cause_at followed report between check earlier run c stop j kind site passed is_check ne write now bit) run stop bit
        where
          Goal : List Turn → Type 0
          Goal l = (run : RunOf code s (report ∷ l)) → ((place_after code s (report ∷ l)).threads report.thread).own.stop ≡ Some (Conflict c) → stands (word_at (place_after code s l) c.granule) j ≡ true → IsCause code s l report c j kind site

      -- by a note
      by_note : (j : ℕ) (kind : Kind) (site : ℕ) → noted_site (place_after code s before) c j kind ≡ Some site → Stood c report.thread j → (c.kind ≡ Write) ⊎ (kind ≡ Write) → IsCause code s before report c j kind site
      by_note j kind site is stood write =
          let n = some_note (note_of ((place_after code s before).threads j).own.table at_p kind) c.epoch site is in
          let k = notes_told laws.run.turns.outcomes code s before run.0 j at_p kind n.0 n.1 in
          found k.later k.check k.earlier k.parts j kind site true (subst (λ z. IsCheck code s k.earlier k.check j kind at_p z true) n.2 k.is_check) stood.0 write (k.epoch ∙ n.3) (ap (λ v. stands v j) (sym reports.word) ∙ stood.1)

      -- by a stop
      by_stop : (j : ℕ) (d : ConflictAt) → StoppedThere (place_after code s before) c j d → (kind : Kind) (site : ℕ) → d.kind ≡ kind → d.site ≡ site → j ≢ report.thread → (c.kind ≡ Write) ⊎ (kind ≡ Write) → stands (word_at (place_after code s before) c.granule) j ≡ true
          → IsCause code s before report c j kind site
      by_stop j d at kind site kind_is site_is ne write bit =
          let k = accesses_show laws.run.turns.outcomes laws.conflicts laws.bits x code s ls typed.wt typed.fits typed.few (halting laws x code s ls typed) before run.0 j d at.is in
          let check = subst (λ q. IsCheck code s k.earlier k.check j kind q site false) at.granule (subst (λ z. IsCheck code s k.earlier k.check j kind d.granule z false) site_is (subst (λ y. IsCheck code s k.earlier k.check j y d.granule d.site false) kind_is k.is_check)) in
          found k.later k.check k.earlier k.parts j kind site false check ne write
          (ap (λ q. epoch_of (slice_index (place_after code s k.earlier).words (shadow_word s q))) (sym at.granule) ∙ ap epoch_of k.word ∙ k.epoch ∙ at.epoch) bit

      pub cause : (j : ℕ) (kind : Kind) (site : ℕ) → IsNamed (place_after code s before) report.thread c j kind site → IsCause code s before report c j kind site
      cause j kind site (OfWrite stood kind_is is) = by_note j kind site (ap (noted_site (place_after code s before) c j) kind_is ∙ is) stood (inr kind_is)
      cause j kind site (OfRead mine stood none kind_is is) = by_note j kind site (ap (noted_site (place_after code s before) c j) kind_is ∙ is) stood (inl mine)
      cause j kind site (OfStop mine stood none none' d at kind_is site_is) = by_stop j d at kind site kind_is site_is stood.0 (inl mine) (bit_of j stood)
      cause j kind site (OfFirst mine none d at d_kind old kind_is site_is) =
          by_stop j d at kind site (d_kind ∙ sym kind_is) site_is (not_mine j d at.is) (inr kind_is) ((whole laws x code s ls typed before run.0).remains.stop_bit j at_p d (stopped_at j d at))

    -- ---- and there is one
    named_at : (j : ℕ) (kind : Kind) (z : ℕ) → site_now (place_after code s before) j c.granule kind ≡ Some z → noted_site (place_after code s before) c j kind ≡ Some z
    named_at j kind z e = ap (site_at (note_of ((place_after code s before).threads j).own.table at_p kind)) reports.epoch ∙ e

    stopped_there : (j : ℕ) (d : ConflictAt) → remaining.StoppedAt (place_after code s before) j c.granule d → StoppedThere (place_after code s before) c j d
    stopped_there j d at = record { is = at.is; granule = at.granule; epoch = at.epoch ∙ sym reports.epoch }

    some_other : (kind : Kind) → Conflicts (word_at (place_after code s before) c.granule) report.thread kind (wrote ((place_after code s before).threads report.thread) c.granule (word_at (place_after code s before) c.granule)) → HasOther (word_at (place_after code s before) c.granule) report.thread
    some_other Write h = h
    some_other Read h = h.0

    abbrev SomeNamed : ℕ → Type 0
    SomeNamed j = (kind : Kind) × (site : ℕ) × IsNamed (place_after code s before) report.thread c j kind site

    of_write : c.kind ≡ Write → (j : ℕ) → Stood c report.thread j → SomeNamed j
    of_write mine j stood = ⊎_elim
        (λ (w : (z : ℕ) × (noted_site g' c j Write ≡ Some z)). (Write, w.0, OfWrite stood refl w.1))
        (λ (none : noted_site g' c j Write ≡ None). ⊎_elim
        (λ (r : (z : ℕ) × (noted_site g' c j Read ≡ Some z)). (Read, r.0, OfRead mine stood none refl r.1))
        (λ (none' : noted_site g' c j Read ≡ None). by none none' ((whole laws x code s ls typed before run.0).remains.reason j at_p reports.low (bit_of j stood)))
        (some_or (noted_site g' c j Read)))
        (some_or (noted_site g' c j Write))
      where
        g' : Global Machine
        g' = place_after code s before

        no_kind : (kind : Kind) (z : ℕ) → noted_site (place_after code s before) c j Write ≡ None → noted_site (place_after code s before) c j Read ≡ None → noted_site (place_after code s before) c j kind ≡ Some z → ⊥
        no_kind Write z a b e = let f : None ≡ Some z = sym a ∙ e in cc
        no_kind Read z a b e = let f : None ≡ Some z = sym b ∙ e in cc

        by : noted_site (place_after code s before) c j Write ≡ None → noted_site (place_after code s before) c j Read ≡ None → Reason (place_after code s before) j c.granule → SomeNamed j
        by a b (remaining.ByNote kind z e) = absurd (no_kind kind z a b (named_at j kind z e))
        by a b (remaining.ByStop d at) = (d.kind, d.site, OfStop mine stood a b d (stopped_there j d at) refl refl)

    -- a thread whose bit stood and that has written, below this number
    abbrev Writer : Type 0
    Writer = (u : ℕ) × (z : ℕ) × Stood c report.thread u × (noted_site (place_after code s before) c u Write ≡ Some z)

    abbrev NoWriter : ℕ → Type 0
    NoWriter n = (u : ℕ) → u < n → Stood c report.thread u → noted_site (place_after code s before) c u Write ≡ None

    decide_stood : (u : ℕ) → Stood c report.thread u ⊎ (Stood c report.thread u → ⊥)
    decide_stood u = ⊎_elim
        (λ (same : u ≡ report.thread). inr (λ z. z.0 same))
        (λ (ne : u ≡ report.thread → ⊥). bit (stands c.old u) refl ne)
        (cases_eq u report.thread)
      where
        bit : (b : Bool) → stands c.old u ≡ b → (u ≡ report.thread → ⊥) → Stood c report.thread u ⊎ (Stood c report.thread u → ⊥)
        bit true e ne = inl (ne, e)
        bit false e ne = inr (λ z. yes (sym z.1 ∙ e))

    search : (n : ℕ) → Writer ⊎ NoWriter n
    search zero = inr (λ u lt. absurd (omega arith))
    search (suc n) = ⊎_elim
        (λ w. inl w)
        (λ (none : NoWriter n). ⊎_elim
        (λ (stood : Stood c report.thread n). ⊎_elim
        (λ (w : (z : ℕ) × (noted_site (place_after code s before) c n Write ≡ Some z)). inl (n, w.0, stood, w.1))
        (λ (no : noted_site (place_after code s before) c n Write ≡ None). inr (λ u lt st. ⊎_elim (λ (same : u ≡ n). ap (λ u. noted_site (place_after code s before) c u Write) same ∙ no) (λ (ne : u ≡ n → ⊥). none u (below u n lt ne) st) (cases_eq u n)))
        (some_or (noted_site (place_after code s before) c n Write)))
        (λ never. inr (λ u lt st. ⊎_elim (λ (same : u ≡ n). absurd (never (subst (Stood c report.thread) same st))) (λ (ne : u ≡ n → ⊥). none u (below u n lt ne) st) (cases_eq u n)))
        (decide_stood n))
        (search n)
      where
        below : (u n : ℕ) → u < suc n → (u ≡ n → ⊥) → u < n
        below u n lt ne = grind (arith, nat_tests)

    few_stand : (v u : ℕ) → stands v u ≡ true → u < THREADS
    unfolding stands
    few_stand v u e = less u (nat_lt u THREADS) refl e
      where
        less : (u : ℕ) (b : Bool) → nat_lt u THREADS ≡ b → (b && (Rattle.std.specs.Int.bit_at v (1 + u) == 1)) ≡ true → u < THREADS
        less u true q e = grind (arith, nat_tests)
        less u false q e = absurd (yes (sym e))

    of_read : c.kind ≡ Read → (j : ℕ) × (j < THREADS) × (site : ℕ) × IsNamed (place_after code s before) report.thread c j Write site
    of_read mine = ⊎_elim
        (λ (w : Writer). (w.0, few_stand c.old w.0 w.2.1, w.1, OfWrite w.2 refl w.3))
        (λ (none : NoWriter THREADS).
        let all : (u : ℕ) → Stood c report.thread u → noted_site (place_after code s before) c u Write ≡ None = λ u st. none u (few_stand c.old u st.1) st in
        let h = subst (λ k. Conflicts (word_at (place_after code s before) at_p) report.thread k (wrote ((place_after code s before).threads report.thread) at_p (word_at (place_after code s before) at_p))) mine reports.conflicts in
        first all h.2 ((whole laws x code s ls typed before run.0).remains.written at_p reports.low h.1))
        (search THREADS)
      where
        first : ((u : ℕ) → Stood c report.thread u → noted_site (place_after code s before) c u Write ≡ None) → is_of (wrote ((place_after code s before).threads report.thread) c.granule (word_at (place_after code s before) c.granule)) (epoch_of (word_at (place_after code s before) c.granule)) ≡ false
            → Written (place_after code s before) c.granule → (j : ℕ) × (j < THREADS) × (site : ℕ) × IsNamed (place_after code s before) report.thread c j Write site
        first all own w = by w.why
          where
            note_mine : (z : ℕ) → w.thread ≡ report.thread → site_now (place_after code s before) w.thread c.granule Write ≡ Some z → ⊥
            note_mine z same e = yes (sym (remaining.wrote_is ((place_after code s before).threads report.thread) at_p (word_at (place_after code s before) at_p) z (ap (λ u. site_now (place_after code s before) u at_p Write) (sym same) ∙ e)) ∙ own)

            by : Writes (place_after code s before) w.thread c.granule → (j : ℕ) × (j < THREADS) × (site : ℕ) × IsNamed (place_after code s before) report.thread c j Write site
            by (remaining.NotedWrite z e) =
                let ne : w.thread ≢ report.thread = λ same. note_mine z same e in
                let f : None ≡ Some z = sym (all w.thread (ne, ap (λ v. stands v w.thread) reports.word ∙ w.bit)) ∙ named_at w.thread Write z e in
                absurd cc
            by (remaining.FirstRefused d at is) = (w.thread, few_stand (word_at (place_after code s before) c.granule) w.thread w.bit, d.site, OfFirst mine all d (stopped_there w.thread d at) is.kind is.old refl refl)

    pub has_named : HasNamed (place_after code s before) report.thread c
    has_named = record {
      stood = let o = some_other c.kind reports.conflicts in (o.0, (o.1.another, ap (λ v. stands v o.0) reports.word ∙ o.1.stood));
      of_write = of_write;
      of_read = of_read;
    }
