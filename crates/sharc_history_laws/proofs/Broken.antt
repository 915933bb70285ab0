-- With the access that was refused first no history goes on that keeps the rules.
use Rattle.sharc_history_laws.proofs.{Imports.{◌≡◌, ℕ, ◌+◌, ◌≢◌, ◌⊎◌, inl, inr, Bool, true, false, ◌||◌, List, [], ◌∷◌, ◌++◌, reverse, filter, Option, Some, None, is_some, if◌then◌else◌, refl, sym, ap, ◌∙◌, subst, ⊎_elim, eqb-true, cases_eq, not_true as unset, or_no, reverse-append, slice_index, list_any, Act, Object, SourceEvent, CellMode, Kind, Read, Write, epoch_of, is_write, Code, Shape, ConflictAt, Stop, Conflict, NoLock, NotSole, Trapped as Trap, first_shadow, Machine, instr_at, may_go, Turn, state_now, told_by, Erase, one_thread, place_after, Access, access_by, made_by, given_by, is_number, begins, frees, is_of, events_of, granule_in as granule_of, History, AccessSet, ends, until_gone, Obeys, is_gone, CheckOf, Labels, touch_at, Targets, NothingBetween, IsCause, IsNamed, GoesOn, WasMade, IsNextOf, BreaksRules, HasNamed, IsCheck, ChecksAreFollowed, Follows, IsNext, IsMade, TellsAccess, access_of, access_checked, history_of, yes, or_right, put_other}, TurnAt.RunOf, Caused.{cause, has_named, base_of as base_run}, Checks.{check_cell, write_of_access}, Doing.{Does, Plain, Passes, Refuses, IsNoCheck, does}, Lasting.halted, Lists.{Newest, reverse_push}, Rules.{pushed, newest, newest_now}, Wholes.{TheLaws, Typed, whole, fresh_of}, Threaded.or_left}

-- ---- lists
abbrev pub AllOf : (SourceEvent → Type 0) → History → Type 0
AllOf P [] = Unit {0}
AllOf P (e ∷ R) = P e × AllOf P R

all_snoc : (P : SourceEvent → Type 0) (R : History) (e : SourceEvent) → AllOf P R → P e → AllOf P (R ++ e ∷ [])
all_snoc P [] e h k = (k, tt)
all_snoc P (d ∷ R) e h k = (h.0, all_snoc P R e h.1 k)

pub all_reverse : (P : SourceEvent → Type 0) (L : Newest) → AllOf P L → AllOf P (reverse L)
all_reverse P [] h = tt
all_reverse P (e ∷ L) h = subst (AllOf P) (sym (reverse_push e L)) (all_snoc P (reverse L) e (all_reverse P L h.1) h.0)

pub none_any : (f : SourceEvent → Bool) (R : History) → AllOf (λ e. f e ≡ false) R → list_any f R ≡ false
none_any f [] h = refl
none_any f (e ∷ R) h = or_no (f e) (list_any f R) h.0 (none_any f R h.1)

none_of : (f g : SourceEvent → Bool) (R : History) → AllOf (λ e. g e ≡ true → f e ≡ false) R → list_any f (filter g R) ≡ false
none_of f g [] h = refl
none_of f g (e ∷ R) h = elim (g e) as (λ b. g e ≡ b → list_any f (if b then e ∷ filter g R else filter g R) ≡ false) [
  | true ↦ λ q. or_no (f e) (list_any f (filter g R)) (h.0 q) (none_of f g R h.1)
  | false ↦ λ _. none_of f g R h.1
] refl

all_map : (P Q : SourceEvent → Type 0) → ((e : SourceEvent) → P e → Q e) → (R : History) → AllOf P R → AllOf Q R
all_map P Q f [] h = tt
all_map P Q f (e ∷ R) h = (f e h.0, all_map P Q f R h.1)

append_nil : (R : History) → R ≡ R ++ []
append_nil [] = refl
append_nil (e ∷ R) = ap (λ l. e ∷ l) (append_nil R)

pub append_assoc : (xs ys zs : History) → (xs ++ ys) ++ zs ≡ xs ++ (ys ++ zs)
append_assoc [] ys zs = refl
append_assoc (x ∷ xs) ys zs = ap (λ l. x ∷ l) (append_assoc xs ys zs)

-- the history of a list with this event in it
turned : (L : Newest) (d : SourceEvent) (N : Newest) → reverse (L ++ d ∷ N) ≡ reverse N ++ d ∷ reverse L
turned L d N = reverse-append L (d ∷ N) ∙ ap (λ l. l ++ reverse L) (reverse_push d N) ∙ append_assoc (reverse N) (d ∷ []) (reverse L)

-- ---- events
-- the event neither makes nor gives the object, nor is it the end of the thread
abbrev Calm : Object → ℕ → SourceEvent → Type 0
Calm o j e = (begins o e ≡ false) × (is_gone e.act ≡ true → e.thread ≢ j)

same_gone : (act : Act) → ends until_gone act ≡ is_gone act
same_gone Act.Gone = refl
same_gone _ = refl

no_made : (e : SourceEvent) (act : Act) (a : Access) → access_by act ≡ Some a → made_by e act ≡ None
no_made e (Act.New cells elements mode) a h = absurd (let f : None ≡ Some a = h in cc)
no_made e _ a h = refl

no_given : (act : Act) (a : Access) → access_by act ≡ Some a → given_by act ≡ None
no_given (Act.Give r mode) a h = absurd (let f : None ≡ Some a = h in cc)
no_given _ a h = refl

no_gone : (act : Act) (a : Access) → access_by act ≡ Some a → is_gone act ≡ false
no_gone Act.Gone a h = absurd (let f : None ≡ Some a = h in cc)
no_gone _ a h = refl

-- an access is none of them
access_calm : (o : Object) (j : ℕ) (e : SourceEvent) (a : Access) → access_by e.act ≡ Some a → Calm o j e
access_calm (Object.Global g) j e a is = (refl, λ gone. absurd (yes (sym gone ∙ no_gone e.act a is)))
access_calm (Object.Made n) j e a is = (
  or_no (is_number n (made_by e e.act)) (is_number n (given_by e.act)) (ap (is_number n) (no_made e e.act a is)) (ap (is_number n) (no_given e.act a is)),
  λ gone. absurd (yes (sym gone ∙ no_gone e.act a is)),
)

begun_no : (o : Object) (j : ℕ) (R : History) → AllOf (Calm o j) R → list_any (begins o) R ≡ false
begun_no o j R h = none_any (begins o) R (all_map (Calm o j) (λ e. begins o e ≡ false) (λ e k. k.0) R h)

ended_no : (o : Object) (j : ℕ) (R : History) → AllOf (Calm o j) R → list_any (λ d. ends until_gone d.act) (events_of j R) ≡ false
ended_no o j R h = none_of (λ d. ends until_gone d.act) (is_of j) R
    (all_map (Calm o j) (λ e. is_of j e ≡ true → ends until_gone e.act ≡ false) (λ e k mine. unset (ends until_gone e.act) (λ z. k.1 (sym (same_gone e.act) ∙ z) (eqb-true e.thread j mine))) R h)

-- an access in a history, behind which all events are calm, stands in its access set
in_set : (R : History) (o : Object) (granule : ℕ) (before : History) (d : SourceEvent) (after : History) (a : Access) → R ≡ before ++ d ∷ after → access_by d.act ≡ Some a → a.cell.object ≡ o → granule_of a.cell ≡ granule → a.mode ≡ CellMode.Dynamic
    → AllOf (Calm o d.thread) after → AccessSet R o granule until_gone d a
in_set R o granule before d after a parts is object at mode calm = record {
  before = before;
  after = after;
  stands = parts;
  access = is;
  object = object;
  granule_is = at;
  is_dynamic = mode;
  begun = begun_no o d.thread after calm;
  ended = ended_no o d.thread after calm;
}

-- two accesses of different threads to one granule
pub record AreTwo (a b : Access) : Type 0 where
  pub object : a.cell.object ≡ b.cell.object
  pub granule : granule_of a.cell ≡ granule_of b.cell
  pub dynamic : (a.mode ≡ CellMode.Dynamic) × (b.mode ≡ CellMode.Dynamic)
  pub write : (a.is_write || b.is_write) ≡ true

two_break : (R : History) (d e : SourceEvent) (a b : Access) → AreTwo a b → access_by d.act ≡ Some a → access_by e.act ≡ Some b → d.thread ≢ e.thread
    → (before after : History) → R ≡ before ++ d ∷ (after ++ e ∷ []) → AllOf (Calm b.cell.object d.thread) after → Obeys R until_gone → ⊥
two_break R d e a b two is_a is_b ne before after parts calm obeys =
    let o = b.cell.object in
    let all = all_snoc (Calm o d.thread) after e calm (access_calm o d.thread e b is_b) in
    let first = in_set R o (granule_of b.cell) before d (after ++ e ∷ []) a parts is_a two.object two.granule two.dynamic.0 all in
    let second = in_set R o (granule_of b.cell) (before ++ d ∷ after) e [] b (parts ∙ sym (append_assoc before (d ∷ after) (e ∷ []))) is_b refl refl two.dynamic.1 tt in
    yes (sym two.write ∙ obeys.shared R [] o (granule_of b.cell) d e a b (append_nil R) first second ne)

-- ---- the events of turns
module _ (code : Code) (s : Shape) (base : List Turn) (o : Object) (j : ℕ) where
  abbrev Events : List Turn → List Turn → Type 0
  Events later earlier = (L : Newest) × (newest code s later ≡ L ++ newest code s earlier) × AllOf (Calm o j) L

  one_more : (one : Turn) (run : List Turn) (earlier : List Turn) → ((e : SourceEvent) → told_by (one_thread code s) (Erase code s run) (place_after code s run) one ≡ Some e → (begins o e ≡ false) × (frees o e ≡ false) × (is_gone e.act ≡ true → e.thread ≢ j))
      → Events run earlier → Events (one ∷ run) earlier
  one_more one run earlier calm old = by (told_by (one_thread code s) (Erase code s run) (place_after code s run) one) refl
    where
      by : (ev : Option SourceEvent) → told_by (one_thread code s) (Erase code s run) (place_after code s run) one ≡ ev → (L : Newest) × (newest code s (one ∷ run) ≡ L ++ newest code s earlier) × AllOf (Calm o j) L
      by None told = (old.0, newest_now code s one run ∙ ap (λ ev. pushed ev (newest code s run)) told ∙ old.1, old.2)
      by (Some e) told =
          let k = calm e told in
          (e ∷ old.0, newest_now code s one run ∙ ap (λ ev. pushed ev (newest code s run)) told ∙ ap (λ l. e ∷ l) old.1, ((k.0, k.2), old.2))

  events_after : (after : List Turn) (turn : Turn) (between : List Turn) → NothingBetween code s (after ++ turn ∷ between) base o j → Events ((after ++ turn ∷ between) ++ base) (turn ∷ (between ++ base))
  events_after [] turn between nothing = ([], refl, tt)
  events_after (one ∷ after) turn between nothing =
      one_more one ((after ++ turn ∷ between) ++ base) (turn ∷ (between ++ base)) (nothing [] one (after ++ turn ∷ between) refl)
      (events_after after turn between (λ a t b q. nothing (one ∷ a) t b (ap (λ l. one ∷ l) q)))

-- ---- the first report
pub record FirstReport (code : Code) (s : Shape) (run : List Turn) : Type 0 where
  pub later : List Turn
  pub report : Turn
  pub before : List Turn
  pub parts : run ≡ later ++ report ∷ before
  pub conflict : ConflictAt
  pub stop : ((place_after code s (report ∷ before)).threads report.thread).own.stop ≡ Some (Conflict conflict)
  pub first : (u : ℕ) (d : ConflictAt) → ((place_after code s before).threads u).own.stop ≡ Some (Conflict d) → ⊥

abbrev NoReport : Code → Shape → List Turn → Type 0
NoReport code s run = (u : ℕ) (d : ConflictAt) → ((place_after code s run).threads u).own.stop ≡ Some (Conflict d) → ⊥

is_conflict : (o : Option Stop) → ((d : ConflictAt) × (o ≡ Some (Conflict d))) ⊎ ((d : ConflictAt) → o ≡ Some (Conflict d) → ⊥)
is_conflict None = inr (λ d e. let f : None ≡ Some (Conflict d) = e in cc)
is_conflict (Some (Conflict d)) = inl (d, refl)
is_conflict (Some (NoLock site word)) = inr (λ d e. let f : Some (NoLock site word) ≡ Some (Conflict d) = e in cc)
is_conflict (Some (NotSole site count)) = inr (λ d e. let f : Some (NotSole site count) ≡ Some (Conflict d) = e in cc)
is_conflict (Some (Trap trap site)) = inr (λ d e. let f : Some (Trap trap site) ≡ Some (Conflict d) = e in cc)

first_report : (code : Code) (s : Shape) (run : List Turn) → NoReport code s run ⊎ FirstReport code s run
first_report code s [] = inl (λ u d e. let f : None ≡ Some (Conflict d) = e in cc)
first_report code s (one ∷ earlier) = ⊎_elim
    (λ (none : NoReport code s earlier). ⊎_elim
    (λ (k : (d : ConflictAt) × (((place_after code s (one ∷ earlier)).threads one.thread).own.stop ≡ Some (Conflict d))). inr (record { later = []; report = one; before = earlier; parts = refl; conflict = k.0; stop = k.1; first = none }))
    (λ no. inl (λ u d e. ⊎_elim
    (λ (same : u ≡ one.thread). no d (ap (λ u. ((place_after code s (one ∷ earlier)).threads u).own.stop) (sym same) ∙ e))
    (λ (ne : u ≡ one.thread → ⊥). none u d (ap (λ (y : Machine). y.own.stop) (sym (put_other (place_after code s earlier).threads one.thread u (state_now (one_thread code s) (place_after code s earlier) one) ne)) ∙ e))
    (cases_eq u one.thread)))
    (is_conflict ((place_after code s (one ∷ earlier)).threads one.thread).own.stop))
    (λ (k : FirstReport code s earlier). inr (record { later = one ∷ k.later; report = k.report; before = k.before; parts = ap (λ (l : List Turn). one ∷ l) k.parts; conflict = k.conflict; stop = k.stop; first = k.first }))
    (first_report code s earlier)

module _ (laws : TheLaws) (x : Targets) (code : Code) (s : Shape) (ls : Labels) (typed : Typed x code s ls) where
  -- a check that was refused has stopped its thread
  refused_stops : (one : Turn) (earlier : List Turn) (run : RunOf code s (one ∷ earlier)) (kind : Kind) (p : ℕ) → touch_at code s (place_after code s earlier) one ≡ CheckOf kind p false
      → (d : ConflictAt) × (((place_after code s (one ∷ earlier)).threads one.thread).own.stop ≡ Some (Conflict d))
  refused_stops one earlier run kind p touch = by (does laws.run.turns.outcomes code s (place_after code s earlier) one run.1 (fresh_of laws x code s ls typed one earlier run (whole laws x code s ls typed earlier run.0).halting))
    where
      by : Does s (λ q. slice_index (place_after code s earlier).words (first_shadow + q)) ((place_after code s earlier).threads one.thread) (instr_at code ((place_after code s earlier).threads one.thread).at.pc) (touch_at code s (place_after code s earlier) one) ((place_after code s (one ∷ earlier)).threads one.thread)
          → (d : ConflictAt) × (((place_after code s (one ∷ earlier)).threads one.thread).own.stop ≡ Some (Conflict d))
      by (Plain a b c) = absurd (subst IsNoCheck touch a)
      by (Passes k q site at a b c) = absurd (let f : CheckOf k q true ≡ CheckOf kind p false = sym a ∙ touch in cc)
      by (Refuses k q site at a b c) =
          let v = slice_index (place_after code s earlier).words (first_shadow + q) in
          (record { kind = k; site = site; granule = q; epoch = epoch_of v; old = v }, ap (λ (y : Machine). y.own.stop) c)

  pub record Broken (report : Turn) (before : List Turn) (c : ConflictAt) : Type 0 where
    pub is_check : IsCheck code s before report report.thread c.kind c.granule c.site false
    pub access : Access
    pub is : access_checked code ((place_after code s before).threads report.thread) ≡ Some access
    pub breaks : GoesOn code s before report.thread access

  module _ (followed : ChecksAreFollowed code) (report : Turn) (before : List Turn) (run : RunOf code s (report ∷ before)) (c : ConflictAt) (stop : ((place_after code s (report ∷ before)).threads report.thread).own.stop ≡ Some (Conflict c))
      (first : NoReport code s before) where
    module _ (j : ℕ) (kind : Kind) (site : ℕ) (k : IsCause code s before report c j kind site) where
      earlier_run : RunOf code s (k.check ∷ k.earlier)
      earlier_run = base_run code s k.between (k.check ∷ k.earlier) (subst (RunOf code s) k.parts run.0)

      passed : k.passed ≡ true
      passed = by k.passed refl
        where
          by : (b : Bool) → k.passed ≡ b → b ≡ true
          by true e = refl
          by false e =
              let stops = refused_stops k.check k.earlier earlier_run kind c.granule (k.is_check.touch ∙ ap (CheckOf kind c.granule) e) in
              let same = halted laws x code s ls typed k.between (k.check ∷ k.earlier) (subst (RunOf code s) k.parts run.0) k.check.thread (ap (λ (o : Option Stop). is_some o) stops.1) in
              absurd (first k.check.thread stops.0 (ap (λ l. ((place_after code s l).threads k.check.thread).own.stop) k.parts ∙ ap (λ (y : Machine). y.own.stop) same ∙ stops.1))

      -- the two accesses
      abbrev a : Access
      a = k.named.access

      abbrev b : Access
      b = k.refused.access

      write_a : k.named.access.is_write ≡ is_write kind
      write_a = write_of_access laws x code s ls typed k.check k.earlier kind c.granule (check_cell code s (place_after code s k.earlier) k.check kind c.granule k.passed k.is_check.touch) followed k.named.access
          (ap (λ u. access_checked code ((place_after code s k.earlier).threads u)) k.is_check.thread ∙ k.named.is)

      write_b : k.refused.access.is_write ≡ is_write c.kind
      write_b = write_of_access laws x code s ls typed report before c.kind c.granule (check_cell code s (place_after code s before) report c.kind c.granule false k.is_report.touch) followed k.refused.access k.refused.is

      two : AreTwo k.named.access k.refused.access
      two = record {
        object = k.object;
        granule = k.granule;
        dynamic = (k.named.dynamic, k.refused.dynamic);
        write = ⊎_elim
            (λ (w : c.kind ≡ Write). or_right a.is_write b.is_write (write_b ∙ ap is_write w))
            (λ (w : kind ≡ Write). or_left a.is_write b.is_write (write_a ∙ ap is_write w))
            k.write;
      }

      -- where it was made
      made : (after : List Turn) (turn : Turn) (between : List Turn) → k.between ≡ after ++ turn ∷ between → turn.thread ≡ j → TellsAccess code s (between ++ k.check ∷ k.earlier) turn site k.named.access → GoesOn code s before report.thread k.refused.access
      made after turn between parts thread tells = WasMade (λ e et is obeys.
          let base = k.check ∷ k.earlier in
          let d = tells.event in
          let dj : d.thread ≡ j = tells.thread ∙ thread in
          let o = b.cell.object in
          let events = events_after code s base o j after turn between (subst (λ l. NothingBetween code s l base o j) parts k.nothing) in
          let N = newest code s (between ++ base) in
          let told : newest code s (turn ∷ (between ++ base)) ≡ d ∷ N = newest_now code s turn (between ++ base) ∙ ap (λ ev. pushed ev N) tells.told in
          let all : newest code s before ≡ events.0 ++ d ∷ N = ap (newest code s) k.parts ∙ ap (λ l. newest code s (l ++ base)) parts ∙ events.1 ∙ ap (λ l. events.0 ++ l) told in
          let history : history_of code s before ≡ reverse N ++ d ∷ reverse events.0 = ap reverse all ∙ turned events.0 d N in
          let whole : history_of code s before ++ e ∷ [] ≡ reverse N ++ d ∷ (reverse events.0 ++ e ∷ []) = ap (λ l. l ++ e ∷ []) history ∙ append_assoc (reverse N) (d ∷ reverse events.0) (e ∷ []) in
          two_break (history_of code s before ++ e ∷ []) d e a b two tells.is is (λ same. k.other (sym dj ∙ same ∙ et)) (reverse N) (reverse events.0) whole
          (subst (λ j. AllOf (Calm o j) (reverse events.0)) (sym dj) (all_reverse (Calm o j) events.0 events.2)) obeys)

      goes_on : GoesOn code s before report.thread k.refused.access
      goes_on = by (k.named.follows passed)
        where
          by : Follows code s k.between k.check k.earlier j site k.named.access → GoesOn code s before report.thread k.refused.access
          by (IsNext none may is) = IsNextOf j
              (subst (λ l. may_go ((place_after code s l).threads j).at.state ≡ true) (sym k.parts) may) a
              (subst (λ l. access_of code ((place_after code s l).threads j) (instr_at code ((place_after code s l).threads j).at.pc) ≡ Some a) (sym k.parts) is)
              (λ d e dt is_a et is_b obeys. two_break (history_of code s before ++ d ∷ e ∷ []) d e a b two is_a is_b (λ same. k.other (sym dt ∙ same ∙ et)) (history_of code s before) [] refl tt obeys)
          by (IsMade after turn between parts thread none tells) = made after turn between parts thread tells

    the_cause : (j : ℕ) × (kind : Kind) × (site : ℕ) × IsCause code s before report c j kind site
    the_cause = by c.kind refl
      where
        named : HasNamed (place_after code s before) report.thread c
        named = has_named laws x code s ls typed report before run c stop

        of : (j : ℕ) (kind : Kind) (site : ℕ) → IsNamed (place_after code s before) report.thread c j kind site → (j : ℕ) × (kind : Kind) × (site : ℕ) × IsCause code s before report c j kind site
        of j kind site is = (j, kind, site, cause laws x code s ls typed report before run c stop followed j kind site is)

        by : (kind : Kind) → c.kind ≡ kind → (j : ℕ) × (kind : Kind) × (site : ℕ) × IsCause code s before report c j kind site
        by Write e = let j = named.stood in let k = named.of_write e j.0 j.1 in of j.0 k.0 k.1 k.2
        by Read e = let k = named.of_read e in of k.0 Write k.2 k.3

    pub first_breaks : Broken report before c
    first_breaks = let k = the_cause in record { is_check = k.3.is_report; access = k.3.refused.access; is = k.3.refused.is; breaks = goes_on k.0 k.1 k.2 k.3 }

  pub all_break : ChecksAreFollowed code → (run : List Turn) → RunOf code s run → (t : ℕ) (c : ConflictAt) → ((place_after code s run).threads t).own.stop ≡ Some (Conflict c) → BreaksRules code s run
  all_break followed run is t c stop = ⊎_elim
      (λ (none : NoReport code s run). absurd (none t c stop))
      (λ (k : FirstReport code s run).
      let at = base_run code s k.later (k.report ∷ k.before) (subst (RunOf code s) k.parts is) in
      let y = first_breaks followed k.report k.before at k.conflict k.stop k.first in
      record { later = k.later; report = k.report; before = k.before; parts = k.parts; conflict = k.conflict; is_check = y.is_check; first = k.first; access = y.access; is = y.is; breaks = y.breaks })
      (first_report code s run)
