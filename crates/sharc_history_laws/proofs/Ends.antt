-- What a report may name by the notes and stops at the end of a run is what it may name by those that were there when the check was refused.
use Rattle.sharc_history_laws.proofs.{Imports.{◌≡◌, ℕ, ◌≢◌, true, false, List, [], ◌∷◌, ◌++◌, Option, Some, None, refl, sym, ap, ◌∙◌, subst, ⊎_elim, cases_eq, Kind, Read, Write, note_of, site_at, epoch_of, is_written, stands, Conflicts, Code, Shape, ConflictAt, Conflict, Machine, wrote, Turn, Global, state_now, one_thread, place_after, Labels, Targets, noted_site, Stood, StoppedThere, IsNamed, OfWrite, OfRead, OfStop, OfFirst, ShowsCause, HasNamed, ChecksAreFollowed, yes, some_or, put_other}, TurnAt.RunOf, Caused.{Report, the_report, cause, has_named, base_of as base_run}, Lasting.{epoch_is, note_later, write_before, FoundLater, stop_from, stop_later, stopped_later}, Remaining.{word_at, site_now, StoppedAt, Reason, Writes, Written}, Wholes.{TheLaws, Typed, whole}}
use Rattle.sharc_heap.specs.ShadowWord.{is_of}
use Rattle.sharc_history_laws.proofs.Remaining as remaining

not_both : (o : Option ℕ) (z : ℕ) → o ≡ None → o ≡ Some z → ⊥
not_both o z a b = let f : None ≡ Some z = sym a ∙ b in cc

-- ---- the turn with which a thread was stopped
pub record StopTurn (code : Code) (s : Shape) (run : List Turn) (t : ℕ) (c : ConflictAt) : Type 0 where
  pub later : List Turn
  pub report : Turn
  pub before : List Turn
  pub parts : run ≡ later ++ report ∷ before
  pub thread : report.thread ≡ t
  pub stop : ((place_after code s (report ∷ before)).threads report.thread).own.stop ≡ Some (Conflict c)

pub stop_turn : (code : Code) (s : Shape) (run : List Turn) (t : ℕ) (c : ConflictAt) → ((place_after code s run).threads t).own.stop ≡ Some (Conflict c) → StopTurn code s run t c
stop_turn code s [] t c is = absurd (let f : None ≡ Some (Conflict c) = is in cc)
stop_turn code s (one ∷ earlier) t c is = ⊎_elim
    (λ (same : t ≡ one.thread). record { later = []; report = one; before = earlier; parts = refl; thread = sym same; stop = ap (λ u. ((place_after code s (one ∷ earlier)).threads u).own.stop) (sym same) ∙ is })
    (λ (ne : t ≡ one.thread → ⊥).
    let g = place_after code s earlier in
    let k = stop_turn code s earlier t c (ap (λ (y : Machine). y.own.stop) (sym (put_other g.threads one.thread t (state_now (one_thread code s) g one) ne)) ∙ is) in
    record { later = one ∷ k.later; report = k.report; before = k.before; parts = ap (λ (l : List Turn). one ∷ l) k.parts; thread = k.thread; stop = k.stop })
    (cases_eq t one.thread)

module _ (laws : TheLaws) (x : Targets) (code : Code) (s : Shape) (ls : Labels) (typed : Typed x code s ls) (later : List Turn) (report : Turn) (before : List Turn) (all : RunOf code s (later ++ report ∷ before)) (run : RunOf code s (report ∷ before)) (c : ConflictAt)
    (stop : ((place_after code s (report ∷ before)).threads report.thread).own.stop ≡ Some (Conflict c)) where
  abbrev g : Global Machine
  g = place_after code s before

  abbrev end : Global Machine
  end = place_after code s (later ++ report ∷ before)

  abbrev t : ℕ
  t = report.thread

  abbrev p : ℕ
  p = c.granule

  the : Report laws x code s ls typed report before run c stop
  the = the_report laws x code s ls typed report before run c stop

  -- ---- notes
  now_of : (u : ℕ) (kind : Kind) (z : ℕ) → noted_site (place_after code s before) c u kind ≡ Some z → site_now (place_after code s before) u c.granule kind ≡ Some z
  now_of u kind z e = ap (site_at (note_of (g.threads u).own.table p kind)) (sym the.epoch) ∙ e

  of_now : (u : ℕ) (kind : Kind) (z : ℕ) → site_now (place_after code s before) u c.granule kind ≡ Some z → noted_site (place_after code s before) c u kind ≡ Some z
  of_now u kind z e = ap (site_at (note_of (g.threads u).own.table p kind)) the.epoch ∙ e

  end_of : (u : ℕ) (kind : Kind) (z : ℕ) → noted_site (place_after code s (later ++ report ∷ before)) c u kind ≡ Some z → site_now (place_after code s (later ++ report ∷ before)) u c.granule kind ≡ Some z
  end_of u kind z e = ap (site_at (note_of (end.threads u).own.table p kind)) (epoch_is laws x code s ls typed report before run c stop later all) ∙ e

  of_end : (u : ℕ) (kind : Kind) (z : ℕ) → site_now (place_after code s (later ++ report ∷ before)) u c.granule kind ≡ Some z → noted_site (place_after code s (later ++ report ∷ before)) c u kind ≡ Some z
  of_end u kind z e = ap (site_at (note_of (end.threads u).own.table p kind)) (sym (epoch_is laws x code s ls typed report before run c stop later all)) ∙ e

  forward : (u : ℕ) (kind : Kind) (z : ℕ) → noted_site (place_after code s before) c u kind ≡ Some z → noted_site (place_after code s (later ++ report ∷ before)) c u kind ≡ Some z
  forward u kind z e = of_end u kind z (note_later laws x code s ls typed report before run c stop later all u kind z (now_of u kind z e))

  none_back : (u : ℕ) (kind : Kind) → noted_site (place_after code s (later ++ report ∷ before)) c u kind ≡ None → noted_site (place_after code s before) c u kind ≡ None
  none_back u kind none = ⊎_elim
      (λ (w : (z : ℕ) × (noted_site (place_after code s before) c u kind ≡ Some z)). absurd (not_both (noted_site end c u kind) w.0 none (forward u kind w.0 w.1)))
      (λ no. no)
      (some_or (noted_site (place_after code s before) c u kind))

  some_write : (u : ℕ) → u ≢ report.thread → (z : ℕ) → noted_site (place_after code s (later ++ report ∷ before)) c u Write ≡ Some z → (y : ℕ) × (noted_site (place_after code s before) c u Write ≡ Some y)
  some_write u ne z e = let y = write_before laws x code s ls typed report before run c stop later all u ne z (end_of u Write z e) in (y.0, of_now u Write y.0 y.1)

  -- a note at both places is the same
  same_back : (u : ℕ) (kind : Kind) (y z : ℕ) → noted_site (place_after code s before) c u kind ≡ Some y → noted_site (place_after code s (later ++ report ∷ before)) c u kind ≡ Some z → noted_site (place_after code s before) c u kind ≡ Some z
  same_back u kind y z a b = a ∙ sym (forward u kind y a) ∙ b

  none_forward : (u : ℕ) → u ≢ report.thread → noted_site (place_after code s before) c u Write ≡ None → noted_site (place_after code s (later ++ report ∷ before)) c u Write ≡ None
  none_forward u ne none = ⊎_elim
      (λ (w : (z : ℕ) × (noted_site (place_after code s (later ++ report ∷ before)) c u Write ≡ Some z)). let y = some_write u ne w.0 w.1 in absurd (not_both (noted_site g c u Write) y.0 none y.1))
      (λ no. no)
      (some_or (noted_site (place_after code s (later ++ report ∷ before)) c u Write))

  -- ---- stops
  at_of : (u : ℕ) (d : ConflictAt) → StoppedThere (place_after code s before) c u d → StoppedAt (place_after code s before) u c.granule d
  at_of u d at = record { is = at.is; granule = at.granule; epoch = at.epoch ∙ the.epoch }

  of_at : (u : ℕ) (d : ConflictAt) → StoppedAt (place_after code s before) u c.granule d → StoppedThere (place_after code s before) c u d
  of_at u d at = record { is = at.is; granule = at.granule; epoch = at.epoch ∙ sym the.epoch }

  stop_then : (u : ℕ) (d : ConflictAt) → StoppedThere (place_after code s before) c u d → ((place_after code s (later ++ report ∷ before)).threads u ≡ (place_after code s before).threads u) × StoppedThere (place_after code s (later ++ report ∷ before)) c u d
  stop_then u d at =
      let k = stop_later laws x code s ls typed report before run c stop later all u d (at_of u d at) in
      (k.0, record { is = ap (λ (y : Machine). y.own.stop) k.0 ∙ at.is; granule = at.granule; epoch = at.epoch })

  bit_of : (j : ℕ) → Stood c report.thread j → stands (word_at (place_after code s before) c.granule) j ≡ true
  bit_of j stood = ap (λ v. stands v j) (sym the.word) ∙ stood.1

  reason_of : (j : ℕ) → Stood c report.thread j → Reason (place_after code s before) j c.granule
  reason_of j stood = (whole laws x code s ls typed before run.0).remains.reason j p the.low (bit_of j stood)

  -- ---- what was named before is named at the end
  to_end : (j : ℕ) (kind : Kind) (site : ℕ) → IsNamed (place_after code s before) report.thread c j kind site → IsNamed (place_after code s (later ++ report ∷ before)) report.thread c j kind site
  to_end j kind site (OfWrite stood k is) = OfWrite stood k (forward j Write site is)
  to_end j kind site (OfRead mine stood none k is) = OfRead mine stood (none_forward j stood.0 none) k (forward j Read site is)
  to_end j kind site (OfStop mine stood none none' d at k z) =
      let y = stop_then j d at in
      OfStop mine stood (ap (λ (y : Machine). site_at (note_of y.own.table p Write) c.epoch) y.0 ∙ none) (ap (λ (y : Machine). site_at (note_of y.own.table p Read) c.epoch) y.0 ∙ none') d y.1 k z
  to_end j kind site (OfFirst mine none d at dk old k z) = OfFirst mine (λ u st. none_forward u st.0 (none u st)) d ((stop_then j d at).1) dk old k z

  -- ---- and the other way round
  read_back : (j : ℕ) (z : ℕ) → Stood c report.thread j → noted_site (place_after code s before) c j Write ≡ None → noted_site (place_after code s (later ++ report ∷ before)) c j Read ≡ Some z → noted_site (place_after code s before) c j Read ≡ Some z
  read_back j z stood none is = by (reason_of j stood)
    where
      of_kind : (kind : Kind) (y : ℕ) → noted_site (place_after code s before) c j kind ≡ Some y → noted_site (place_after code s before) c j Read ≡ Some z
      of_kind Write y e = absurd (not_both (noted_site g c j Write) y none e)
      of_kind Read y e = same_back j Read y z e is

      by : Reason (place_after code s before) j c.granule → noted_site (place_after code s before) c j Read ≡ Some z
      by (remaining.ByNote kind y e) = of_kind kind y (of_now j kind y e)
      by (remaining.ByStop d at) = ap (λ (y : Machine). site_at (note_of y.own.table p Read) c.epoch) (sym ((stop_then j d (of_at j d at)).0)) ∙ is

  stop_back : (j : ℕ) (d : ConflictAt) → Stood c report.thread j → noted_site (place_after code s before) c j Write ≡ None → noted_site (place_after code s before) c j Read ≡ None → StoppedThere (place_after code s (later ++ report ∷ before)) c j d → StoppedThere (place_after code s before) c j d
  stop_back j d stood none none' at = by (reason_of j stood)
    where
      no_kind : (kind : Kind) (y : ℕ) → noted_site (place_after code s before) c j kind ≡ Some y → ⊥
      no_kind Write y e = not_both (noted_site g c j Write) y none e
      no_kind Read y e = not_both (noted_site g c j Read) y none' e

      by : Reason (place_after code s before) j c.granule → StoppedThere (place_after code s before) c j d
      by (remaining.ByNote kind y e) = absurd (no_kind kind y (of_now j kind y e))
      by (remaining.ByStop b was) = record { is = ap (λ (y : Machine). y.own.stop) (sym ((stop_then j b (of_at j b was)).0)) ∙ at.is; granule = at.granule; epoch = at.epoch }

  -- where none of those whose bit stood wrote, the first refused write was there, and the written bit stands on
  written_on : c.kind ≡ Read → ((u : ℕ) → Stood c report.thread u → noted_site (place_after code s before) c u Write ≡ None) → (after_it : List Turn) → RunOf code s (after_it ++ report ∷ before) → is_written (word_at (place_after code s (after_it ++ report ∷ before)) c.granule) ≡ true
  written_on mine none after_it is =
      let h = subst (λ k. Conflicts (word_at (place_after code s before) p) report.thread k (wrote ((place_after code s before).threads report.thread) p (word_at (place_after code s before) p))) mine the.conflicts in
      first h.2 ((whole laws x code s ls typed before run.0).remains.written p the.low h.1)
    where
      first : is_of (wrote ((place_after code s before).threads report.thread) c.granule (word_at (place_after code s before) c.granule)) (epoch_of (word_at (place_after code s before) c.granule)) ≡ false
          → Written (place_after code s before) c.granule → is_written (word_at (place_after code s (after_it ++ report ∷ before)) c.granule) ≡ true
      first own w = by w.why
        where
          by : Writes (place_after code s before) w.thread c.granule → is_written (word_at (place_after code s (after_it ++ report ∷ before)) c.granule) ≡ true
          by (remaining.NotedWrite z e) =
              let ne : w.thread ≢ report.thread = λ same. yes (sym (remaining.wrote_is ((place_after code s before).threads report.thread) p (word_at (place_after code s before) p) z (ap (λ u. site_now (place_after code s before) u p Write) (sym same) ∙ e)) ∙ own) in
              absurd (not_both (noted_site g c w.thread Write) z (none w.thread (ne, ap (λ v. stands v w.thread) the.word ∙ w.bit)) (of_now w.thread Write z e))
          by (remaining.FirstRefused d at k) =
              let then_ = stop_later laws x code s ls typed report before run c stop after_it is w.thread d at in
              ((whole laws x code s ls typed (after_it ++ report ∷ before) is).remains.first w.thread p d then_.1 k).0

  first_back : c.kind ≡ Read → ((u : ℕ) → Stood c report.thread u → noted_site (place_after code s before) c u Write ≡ None) → (j : ℕ) (d : ConflictAt) → StoppedThere (place_after code s (later ++ report ∷ before)) c j d → d.kind ≡ Write → is_written d.old ≡ false → StoppedThere (place_after code s before) c j d
  first_back mine none j d at dk old =
      let ne : j ≢ report.thread = λ same. differ same in
      ⊎_elim
      (λ was. of_at j d was)
      (λ (k : FoundLater laws x code s ls typed report before run c stop later d). absurd (yes (sym (written_on mine none k.after_it k.is_run) ∙ ap is_written (sym k.old) ∙ old)))
      (stop_from laws x code s ls typed report before run c stop later all j ne d (record { is = at.is; granule = at.granule; epoch = at.epoch ∙ sym (epoch_is laws x code s ls typed report before run c stop later all) }))
    where
      differ : j ≡ report.thread → ⊥
      differ same =
          let mine_end = (stopped_later laws x code s ls typed report before run c stop later all).is in
          let f : Some (Conflict d) ≡ Some (Conflict c) = sym at.is ∙ ap (λ u. ((place_after code s (later ++ report ∷ before)).threads u).own.stop) same ∙ mine_end in
          let e : d ≡ c = cc in
          let k : Read ≡ Write = sym mine ∙ ap (λ (d : ConflictAt). d.kind) (sym e) ∙ dk in
          cc

  from_end : (j : ℕ) (kind : Kind) (site : ℕ) → IsNamed (place_after code s (later ++ report ∷ before)) report.thread c j kind site → IsNamed (place_after code s before) report.thread c j kind site
  from_end j kind site (OfWrite stood k is) = let y = some_write j stood.0 site is in OfWrite stood k (same_back j Write y.0 site y.1 is)
  from_end j kind site (OfRead mine stood none k is) = let no = none_back j Write none in OfRead mine stood no k (read_back j site stood no is)
  from_end j kind site (OfStop mine stood none none' d at k z) =
      let a = none_back j Write none in
      let b = none_back j Read none' in
      OfStop mine stood a b d (stop_back j d stood a b at) k z
  from_end j kind site (OfFirst mine none d at dk old k z) =
      let no : (u : ℕ) → Stood c report.thread u → noted_site (place_after code s before) c u Write ≡ None = λ u st. none_back u Write (none u st) in
      OfFirst mine no d (first_back mine no j d at dk old) dk old k z

  pub cause_end : ChecksAreFollowed code → (j : ℕ) (kind : Kind) (site : ℕ) → IsNamed (place_after code s (later ++ report ∷ before)) report.thread c j kind site → ShowsCause code s (later ++ report ∷ before) report.thread c j kind site
  cause_end followed j kind site named = record { later = later; report = report; before = before; parts = refl; thread = refl; cause = cause laws x code s ls typed report before run c stop followed j kind site (from_end j kind site named) }

  pub named_end : HasNamed (place_after code s (later ++ report ∷ before)) report.thread c
  named_end =
      let h = has_named laws x code s ls typed report before run c stop in
      record {
        stood = h.stood;
        of_write = λ mine j stood. let k = h.of_write mine j stood in (k.0, k.1, to_end j k.0 k.1 k.2);
        of_read = λ mine. let k = h.of_read mine in (k.0, k.1, k.2, to_end k.0 Write k.2 k.3);
      }

-- ---- of each thread that has stopped
module _ (laws : TheLaws) (x : Targets) (code : Code) (s : Shape) (ls : Labels) (typed : Typed x code s ls) (run : List Turn) (is : RunOf code s run) (t : ℕ) (c : ConflictAt) (stop : ((place_after code s run).threads t).own.stop ≡ Some (Conflict c)) where
  abbrev k : StopTurn code s run t c
  k = stop_turn code s run t c stop

  abbrev parted : RunOf code s ((stop_turn code s run t c stop).later ++ (stop_turn code s run t c stop).report ∷ (stop_turn code s run t c stop).before)
  parted = subst (RunOf code s) (stop_turn code s run t c stop).parts is

  pub all_causes : ChecksAreFollowed code → (j : ℕ) (kind : Kind) (site : ℕ) → IsNamed (place_after code s run) t c j kind site → ShowsCause code s run t c j kind site
  all_causes followed j kind site named =
      let l = k.later ++ k.report ∷ k.before in
      let there : IsNamed (place_after code s l) k.report.thread c j kind site = subst (λ t. IsNamed (place_after code s l) t c j kind site) (sym k.thread) (subst (λ run. IsNamed (place_after code s run) t c j kind site) k.parts named) in
      let y = cause_end laws x code s ls typed k.later k.report k.before parted (base_run code s k.later (k.report ∷ k.before) parted) c k.stop followed j kind site there in
      subst (λ run. ShowsCause code s run t c j kind site) (sym k.parts) (subst (λ t. ShowsCause code s l t c j kind site) k.thread y)

  pub all_named : HasNamed (place_after code s run) t c
  all_named =
      let l = k.later ++ k.report ∷ k.before in
      let y = named_end laws x code s ls typed k.later k.report k.before parted (base_run code s k.later (k.report ∷ k.before) parted) c k.stop in
      subst (λ run. HasNamed (place_after code s run) t c) (sym k.parts) (subst (λ t. HasNamed (place_after code s l) t c) k.thread y)
