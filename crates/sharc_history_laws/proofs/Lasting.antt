-- After a check was refused: the epoch of its granule stays, its object is there, and the notes and stops of the epoch are those that were there.
use Rattle.sharc_history_laws.proofs.{Imports.{◌≡◌, ℕ, ◌+◌, ◌*◌, ◌/◌, ◌<◌, ◌≢◌, ◌⊎◌, inl, inr, true, false, List, [], ◌∷◌, ◌++◌, Option, Some, is_some, refl, sym, ap, ◌∙◌, subst, ⊎_elim, arith, cases_eq, nat_tests, ◌==◌, Kind, Write, Note, note_of, site_at, epoch_of, stands, Code, Cell, Shape, ConflictAt, Stop, Conflict, granules, Machine, ref, may_go, Turn, state_now, one_thread, place_after, Labels, OnHold, object_of_cell, number_in, Targets, yes, put_other}, TurnAt.{turn_at, RunOf}, Caused.{Report, the_report}, Checks.{CheckCell, check_cell, checked_here, hold as hold_check, adds, live_then, inside_then}, Consists.Consists, Keeping.{remains_there, uncleared}, Remaining.{word_at, site_now, StoppedAt, epoch_still, still_now, note_was, stop_was, refused, some_site}, Wholes.{TheLaws, Typed, Whole, whole, whole_next, fresh_of}}

module _ (laws : TheLaws) (x : Targets) (code : Code) (s : Shape) (ls : Labels) (typed : Typed x code s ls) where
  -- a thread that has stopped makes no turn
  pub not_turn : (one : Turn) (earlier : List Turn) (run : RunOf code s (one ∷ earlier)) (u : ℕ) → is_some ((place_after code s earlier).threads u).own.stop ≡ true → u ≢ one.thread
  not_turn one earlier run u stop same =
      let w = whole laws x code s ls typed earlier run.0 in
      yes (sym run.1.next.runs ∙ ap (λ u. may_go ((place_after code s earlier).threads u).at.state) (sym same) ∙ w.halting.halts u stop)

  -- so it stays as it is
  pub halted : (later base : List Turn) → RunOf code s (later ++ base) → (u : ℕ) → is_some ((place_after code s base).threads u).own.stop ≡ true → (place_after code s (later ++ base)).threads u ≡ (place_after code s base).threads u
  halted [] base run u stop = refl
  halted (one ∷ later) base run u stop =
      let old = halted later base run.0 u stop in
      let ne = not_turn one (later ++ base) run u (ap (λ (y : Machine). is_some y.own.stop) old ∙ stop) in
      put_other (place_after code s (later ++ base)).threads one.thread u (state_now (one_thread code s) (place_after code s (later ++ base)) one) ne ∙ old

  module _ (report : Turn) (before : List Turn) (run : RunOf code s (report ∷ before)) (c : ConflictAt) (stop : ((place_after code s (report ∷ before)).threads report.thread).own.stop ≡ Some (Conflict c)) where
    abbrev base : List Turn
    base = report ∷ before

    open turn_at code s (place_after code s before) report use {t, m}

    abbrev p : ℕ
    p = c.granule

    pub the : Report laws x code s ls typed report before run c stop
    the = the_report laws x code s ls typed report before run c stop

    pub mine : CheckCell code s (place_after code s before) report c.kind c.granule
    mine = check_cell code s (place_after code s before) report c.kind p false the.is_check.touch

    abbrev o : ℕ
    o = object_of_cell ((place_after code s before).threads report.thread) mine.cell

    abbrev k : ℕ
    k = number_in ((place_after code s before).threads report.thread) mine.cell / 2

    is_stopped : is_some ((place_after code s (report ∷ before)).threads report.thread).own.stop ≡ true
    is_stopped = ap (λ (q : Option Stop). is_some q) stop

    is_p : c.granule ≡ o + 1 + k
    is_p = (checked_here laws x code s ls typed report before c.kind p mine run).is

    low : o + 1 + k < granules s
    low = subst (λ n. n < granules s) is_p the.low

    hold_base : OnHold ((place_after code s (report ∷ before)).threads report.thread).own.stage
    hold_base = subst (λ (y : Machine). OnHold y.own.stage) (sym the.stopped_is) (hold_check laws x code s ls typed report before c.kind p mine run)

    refers_base : o ≢ 0 → (q : ℕ) × (ref ((place_after code s (report ∷ before)).threads report.thread) q ≡ o)
    refers_base nz = by mine.cell nz
      where
        by : (d : Cell) → object_of_cell ((place_after code s before).threads report.thread) d ≢ 0 → (q : ℕ) × (ref ((place_after code s (report ∷ before)).threads report.thread) q ≡ object_of_cell ((place_after code s before).threads report.thread) d)
        by (Cell.Global h a) nz = absurd (nz refl)
        by (Cell.GlobalAt h a) nz = absurd (nz refl)
        by (Cell.Object r a) nz = (r, ap (λ (y : Machine). ref y r) the.stopped_is)
        by (Cell.ObjectAt r a) nz = (r, ap (λ (y : Machine). ref y r) the.stopped_is)

    abbrev epoch_at : List Turn → ℕ
    epoch_at run = epoch_of (word_at (place_after code s run) (o + 1 + k))

    pub record Lasts (later : List Turn) (is : RunOf code s (later ++ report ∷ before)) : Type 0 where
      pub epoch : epoch_at (later ++ report ∷ before) ≡ epoch_at (report ∷ before)
      pub is_live : ((whole laws x code s ls typed (later ++ report ∷ before) is).consists.world.obj o).live ≡ true
      pub is_inside : 2 * k < (whole laws x code s ls typed (later ++ report ∷ before) is).consists.state.cells o

    -- one more turn
    module _ (one : Turn) (later : List Turn) (is : RunOf code s (one ∷ (later ++ report ∷ before))) (old : Lasts later is.0) where
      abbrev now : List Turn
      now = later ++ report ∷ before

      abbrev w : Whole x code s ls (later ++ report ∷ before)
      w = whole laws x code s ls typed (later ++ report ∷ before) is.0

      same : (place_after code s (later ++ report ∷ before)).threads report.thread ≡ (place_after code s (report ∷ before)).threads report.thread
      same = halted later base is.0 t is_stopped

      ne : report.thread ≢ one.thread
      ne = not_turn one now is t (ap (λ (y : Machine). is_some y.own.stop) same ∙ is_stopped)

      hold_now : OnHold ((place_after code s (later ++ report ∷ before)).threads report.thread).own.stage
      hold_now = subst (λ (y : Machine). OnHold y.own.stage) (sym same) hold_base

      refers_now : o ≢ 0 → (q : ℕ) × (ref ((place_after code s (later ++ report ∷ before)).threads report.thread) q ≡ o)
      refers_now nz = let q = refers_base nz in (q.0, ap (λ (y : Machine). ref y q.0) same ∙ q.1)

      lasts_then : Lasts (one ∷ later) is
      lasts_then =
          let still = remains_there laws x code s ls typed one now is w o k old.is_live old.is_inside t ne hold_now refers_now in
          let next = whole_next laws x code s ls typed one now is in
          record {
            epoch = epoch_still laws.run.turns laws.shadow laws.cells x code s ls typed.wt typed.fits (place_after code s now) w.consists.world w.consists.state one is.1 (fresh_of laws x code s ls typed one now is w.halting) w.remains (o + 1 + k) low
                (uncleared laws x code s ls typed one now is w o k old.is_live old.is_inside t ne hold_now refers_now) ∙ old.epoch;
            is_live = subst (λ (h : Consists x code s ls (one ∷ now)). (h.world.obj o).live ≡ true) (sym next) still.is_live;
            is_inside = subst (λ (h : Consists x code s ls (one ∷ now)). 2 * k < h.state.cells o) (sym next) still.is_inside;
          }

    pub lasts : (later : List Turn) (is : RunOf code s (later ++ report ∷ before)) → Lasts later is
    lasts [] is =
        let f = checked_here laws x code s ls typed report before c.kind p mine is in
        record { epoch = refl; is_live = live_then laws x code s ls typed report before c.kind p mine is o k f.live f.inside; is_inside = inside_then laws x code s ls typed report before c.kind p mine is o k f.live f.inside }
    lasts (one ∷ later) is = lasts_then one later is (lasts later is.0)

    -- the epoch of the report
    pub epoch_base : epoch_of (word_at (place_after code s (report ∷ before)) c.granule) ≡ epoch_of (word_at (place_after code s before) c.granule)
    epoch_base = (adds laws x code s ls typed report before c.kind p mine run false the.is_check.touch).epoch

    pub epoch_later : (later : List Turn) → RunOf code s (later ++ report ∷ before) → epoch_of (word_at (place_after code s (later ++ report ∷ before)) c.granule) ≡ epoch_of (word_at (place_after code s (report ∷ before)) c.granule)
    epoch_later later is = ap (λ p. epoch_of (word_at (place_after code s (later ++ report ∷ before)) p)) is_p ∙ (lasts later is).epoch ∙ ap (λ p. epoch_of (word_at (place_after code s (report ∷ before)) p)) (sym is_p)

    pub epoch_is : (later : List Turn) → RunOf code s (later ++ report ∷ before) → epoch_of (word_at (place_after code s (later ++ report ∷ before)) c.granule) ≡ c.epoch
    epoch_is later is = epoch_later later is ∙ epoch_base ∙ sym the.epoch

    -- the thread of the report stays stopped there, so its bit stands
    pub stopped_later : (later : List Turn) → RunOf code s (later ++ report ∷ before) → StoppedAt (place_after code s (later ++ report ∷ before)) report.thread c.granule c
    stopped_later later is = record { is = ap (λ (y : Machine). y.own.stop) (halted later base is t is_stopped) ∙ stop; granule = refl; epoch = sym (epoch_is later is) }

    pub bit_later : (later : List Turn) → RunOf code s (later ++ report ∷ before) → stands (word_at (place_after code s (later ++ report ∷ before)) c.granule) report.thread ≡ true
    bit_later later is = (whole laws x code s ls typed (later ++ report ∷ before) is).remains.stop_bit t p c (stopped_later later is)

    -- ---- notes
    -- from before the report on they stay
    from_before : (u : ℕ) (kind : Kind) (z : ℕ) → site_now (place_after code s before) u c.granule kind ≡ Some z → site_now (place_after code s (report ∷ before)) u c.granule kind ≡ Some z
    from_before u kind z e =
        let w = whole laws x code s ls typed before run.0 in
        still_now laws.run.turns laws.shadow laws.cells x code s ls typed.wt typed.fits (place_after code s before) w.consists.world w.consists.state report run.1 (fresh_of laws x code s ls typed report before run w.halting) w.remains u p kind z epoch_base e

    same_now : (one : Turn) (later : List Turn) → RunOf code s (one ∷ (later ++ report ∷ before)) → epoch_of (word_at (place_after code s (one ∷ (later ++ report ∷ before))) c.granule) ≡ epoch_of (word_at (place_after code s (later ++ report ∷ before)) c.granule)
    same_now one later is = epoch_later (one ∷ later) is ∙ sym (epoch_later later is.0)

    pub note_later : (later : List Turn) → RunOf code s (later ++ report ∷ before) → (u : ℕ) (kind : Kind) (z : ℕ) → site_now (place_after code s before) u c.granule kind ≡ Some z → site_now (place_after code s (later ++ report ∷ before)) u c.granule kind ≡ Some z
    note_later [] is u kind z e = from_before u kind z e
    note_later (one ∷ later) is u kind z e =
        let now = later ++ report ∷ before in
        let w = whole laws x code s ls typed now is.0 in
        still_now laws.run.turns laws.shadow laws.cells x code s ls typed.wt typed.fits (place_after code s now) w.consists.world w.consists.state one is.1 (fresh_of laws x code s ls typed one now is w.halting) w.remains u p kind z (same_now one later is) (note_later later is.0 u kind z e)

    -- and no other thread than that of the report writes
    site_of_note : (o : Option Note) (n : Note) (e : ℕ) → o ≡ Some n → n.epoch ≡ e → (z : ℕ) × (site_at o e ≡ Some z)
    site_of_note o n e is same = (n.site, ap (λ o. site_at o e) is ∙ here n e same)
      where
        here : (n : Note) (e : ℕ) → n.epoch ≡ e → site_at (Some n) e ≡ Some n.site
        here n e same = let q : (n.epoch == e) ≡ true = grind (arith, nat_tests) in rw q refl

    pub write_before : (later : List Turn) → RunOf code s (later ++ report ∷ before) → (u : ℕ) → u ≢ report.thread → (z : ℕ) → site_now (place_after code s (later ++ report ∷ before)) u c.granule Write ≡ Some z → (y : ℕ) × (site_now (place_after code s before) u c.granule Write ≡ Some y)
    write_before [] is u ne z e =
        let same = put_other (place_after code s before).threads t u (state_now (one_thread code s) (place_after code s before) report) ne in
        (z, ap (λ (y : Machine). site_at (note_of y.own.table p Write) (epoch_of (word_at (place_after code s before) p))) (sym same) ∙ ap (site_at (note_of ((place_after code s base).threads u).own.table p Write)) (sym epoch_base) ∙ e)
    write_before (one ∷ later) is u ne z e = ⊎_elim
        (λ (turns : u ≡ one.thread). back (λ z e. write_before later is.0 u ne z e) turns)
        (λ (other : u ≡ one.thread → ⊥).
        let same = put_other (place_after code s now).threads one.thread u (state_now (one_thread code s) (place_after code s now) one) other in
        write_before later is.0 u ne z (ap (λ (y : Machine). site_at (note_of y.own.table p Write) (epoch_of (word_at (place_after code s now) p))) (sym same) ∙ ap (site_at (note_of ((place_after code s (one ∷ now)).threads u).own.table p Write)) (sym epochs) ∙ e))
        (cases_eq u one.thread)
      where
        now : List Turn
        now = later ++ report ∷ before

        epochs : epoch_of (word_at (place_after code s (one ∷ (later ++ report ∷ before))) c.granule) ≡ epoch_of (word_at (place_after code s (later ++ report ∷ before)) c.granule)
        epochs = same_now one later is

        back : ((z : ℕ) → site_now (place_after code s (later ++ report ∷ before)) u c.granule Write ≡ Some z → (y : ℕ) × (site_now (place_after code s before) u c.granule Write ≡ Some y)) → u ≡ one.thread → (y : ℕ) × (site_now (place_after code s before) u c.granule Write ≡ Some y)
        back again turns =
            let w = whole laws x code s ls typed (later ++ report ∷ before) is.0 in
            let g = place_after code s (later ++ report ∷ before) in
            let g1 = place_after code s (one ∷ (later ++ report ∷ before)) in
            let fresh = fresh_of laws x code s ls typed one (later ++ report ∷ before) is w.halting in
            let n = some_site (note_of (g1.threads u).own.table p Write) (epoch_of (word_at g1 p)) z e in
            ⊎_elim
            (λ was.
            let y = site_of_note (note_of (g.threads u).own.table p Write) n.0 (epoch_of (word_at g p)) (ap (λ u. note_of (g.threads u).own.table p Write) turns ∙ was) (n.2 ∙ epochs) in
            again y.0 y.1)
            (λ new. absurd (refused laws.run.turns laws.shadow laws.cells x code s ls typed.wt typed.fits g w.consists.world w.consists.state one is.1 fresh w.remains t p (λ q. ne (turns ∙ sym q)) (bit_later later is.0) new.0))
            (note_was laws.run.turns laws.shadow laws.cells x code s ls typed.wt typed.fits g w.consists.world w.consists.state one is.1 fresh w.remains p Write n.0 (ap (λ u. note_of (g1.threads u).own.table p Write) (sym turns) ∙ n.1))

    -- ---- stops
    -- a stop in the epoch was there before the report, or it is that of the report, or it found the word as it was at a place behind it
    pub record FoundLater (later : List Turn) (d : ConflictAt) : Type 0 where
      pub after_it : List Turn
      pub is_run : RunOf code s (after_it ++ report ∷ before)
      pub old : d.old ≡ word_at (place_after code s (after_it ++ report ∷ before)) c.granule

    pub stop_from : (later : List Turn) → RunOf code s (later ++ report ∷ before) → (u : ℕ) → u ≢ report.thread → (d : ConflictAt) → StoppedAt (place_after code s (later ++ report ∷ before)) u c.granule d
        → StoppedAt (place_after code s before) u c.granule d ⊎ FoundLater later d
    stop_from [] is u ne d at =
        let same = put_other (place_after code s before).threads t u (state_now (one_thread code s) (place_after code s before) report) ne in
        inl (record { is = ap (λ (y : Machine). y.own.stop) (sym same) ∙ at.is; granule = at.granule; epoch = at.epoch ∙ epoch_base })
    stop_from (one ∷ later) is u ne d at =
        let now = later ++ report ∷ before in
        let w = whole laws x code s ls typed now is.0 in
        ⊎_elim
        (λ was. ⊎_elim (λ first. inl first) (λ (k : FoundLater later d). inr (record { after_it = k.after_it; is_run = k.is_run; old = k.old })) (stop_from later is.0 u ne d was.1))
        (λ new. inr (record { after_it = later; is_run = is.0; old = new.1.old_is }))
        (stop_was laws.run.turns laws.shadow laws.cells x code s ls typed.wt typed.fits (place_after code s now) w.consists.world w.consists.state one is.1 (fresh_of laws x code s ls typed one now is w.halting) w.remains u p d at)

    -- one that was there before stays
    pub stop_later : (later : List Turn) → RunOf code s (later ++ report ∷ before) → (u : ℕ) (d : ConflictAt) → StoppedAt (place_after code s before) u c.granule d → ((place_after code s (later ++ report ∷ before)).threads u ≡ (place_after code s before).threads u) × StoppedAt (place_after code s (later ++ report ∷ before)) u c.granule d
    stop_later later is u d at =
        let stopped : is_some ((place_after code s before).threads u).own.stop ≡ true = ap (λ (q : Option Stop). is_some q) at.is in
        let ne = not_turn report before run u stopped in
        let one = put_other (place_after code s before).threads t u (state_now (one_thread code s) (place_after code s before) report) ne in
        let all = halted later base is u (ap (λ (y : Machine). is_some y.own.stop) one ∙ stopped) ∙ one in
        (all, record { is = ap (λ (y : Machine). y.own.stop) all ∙ at.is; granule = at.granule; epoch = at.epoch ∙ sym epoch_base ∙ sym (epoch_later later is) })
