-- The search of a report finds a check that may be named.
use Rattle.sharc_sound_laws.proofs.Imports.{◌≡◌, ℕ, zero, suc, ◌+◌, ◌<◌, ◌≤◌, ◌≢◌, ◌⊎◌, inl, inr, Bool, true, false, not, ◌&&◌, cond, map, List, [], ◌∷◌, filter, find, replicate, Option, Some, None, is_some, if◌then◌else◌, refl, sym, ap, ◌∙◌, subst, ⊎_elim, arith, eqb-true, cases_eq, nat_tests, ◌==◌, get_or as slice_index_or, range_with_len, All, THREADS, Kind, Read, Write, blank, of_kind, note_of, site_at, lowest_from, lowest_other, stands, is_written, Code, Shape, ConflictAt, Stop, Conflict, Fits, granules, Machine, begun, Global, ThreadView, IsAt, AreStarted, noted_site, Stood, IsNamed, OfWrite, OfRead, OfStop, OfFirst, HasNamed, NotedCheck, number_of, noted, is_same_place, refused_by, refused, check_by, or_refused, or_read, or_later, access_of_any, has_number, wrote_before, is_first_write, was_refused_first, refused_access, or_first_refused, against, other_access, yes, some_or}
use Rattle.sharc_run.specs.Others.{access_of}

-- ---- lists
abbrev AllR : (ThreadView → Type 0) → List ThreadView → Type 0
AllR P [] = Unit {0}
AllR P (v ∷ vs) = P v × AllR P vs

abbrev AnyR : (ThreadView → Type 0) → List ThreadView → Type 0
AnyR P [] = ⊥
AnyR P (v ∷ vs) = P v ⊎ AnyR P vs

all_rec : (P : ThreadView → Type 0) (vs : List ThreadView) → All P vs → AllR P vs
all_rec P [] h = tt
all_rec P (v ∷ vs) h = (h 0 v (omega arith), all_rec P vs (λ k d lt. h (suc k) d (omega (arith, lt))))

found : (P : ThreadView → Type 0) (test : ThreadView → Bool) (vs : List ThreadView) → AllR P vs → (v : ThreadView) → find test vs ≡ Some v → P v × (test v ≡ true)
found P test [] h v e = absurd (let f : None ≡ Some v = e in cc)
found P test (w ∷ vs) h v e = elim (test w) as (λ b. test w ≡ b → cond b (Some w) (find test vs) ≡ Some v → P v × (test v ≡ true)) [
  | true ↦ λ q z. let same : w ≡ v = cc in (subst P same h.0, ap test (sym same) ∙ q)
  | false ↦ λ _ z. found P test vs h.1 v z
] refl e

not_found : (test : ThreadView → Bool) (vs : List ThreadView) → find test vs ≡ None → AllR (λ v. test v ≡ false) vs
not_found test [] e = tt
not_found test (w ∷ vs) e = elim (test w) as (λ b. test w ≡ b → cond b (Some w) (find test vs) ≡ None → (test w ≡ false) × AllR (λ v. test v ≡ false) vs) [
  | true ↦ λ _ z. absurd (let f : Some w ≡ None = z in cc)
  | false ↦ λ q z. (q, not_found test vs z)
] refl e

both : (P Q : ThreadView → Type 0) (vs : List ThreadView) → AllR P vs → AnyR Q vs → (v : ThreadView) × P v × Q v
both P Q [] h k = absurd k
both P Q (v ∷ vs) h (inl q) = (v, h.0, q)
both P Q (v ∷ vs) h (inr k) = both P Q vs h.1 k

all_two : (P Q : ThreadView → Type 0) (vs : List ThreadView) → AllR P vs → AllR Q vs → AllR (λ v. P v × Q v) vs
all_two P Q [] h k = tt
all_two P Q (v ∷ vs) h k = ((h.0, k.0), all_two P Q vs h.1 k.1)

abbrev Mem : ℕ → List ℕ → Type 0
Mem u [] = ⊥
Mem u (y ∷ ys) = (y ≡ u) ⊎ Mem u ys

mem_range : (a n u : ℕ) → a ≤ u → u < a + n → Mem u (range_with_len a n)
mem_range a zero u le lt = absurd (omega arith)
mem_range a (suc n) u le lt = ⊎_elim (λ (e : a ≡ u). inl e) (λ (ne : a ≡ u → ⊥). inr (mem_range (a + 1) n u (more a u le ne) (omega arith))) (cases_eq a u)
  where
    more : (a u : ℕ) → a ≤ u → (a ≡ u → ⊥) → a + 1 ≤ u
    more a u le ne = grind (arith, nat_tests)

mem_filter : (p : ℕ → Bool) (u : ℕ) (ys : List ℕ) → p u ≡ true → Mem u ys → Mem u (filter p ys)
mem_filter p u [] e k = k
mem_filter p u (y ∷ ys) e (inl same) = let q : p y ≡ true = ap p same ∙ e in rw q (inl same)
mem_filter p u (y ∷ ys) e (inr k) = elim (p y) as (λ b. Mem u (cond b (y ∷ filter p ys) (filter p ys))) [ true ↦ inr (mem_filter p u ys e k) | false ↦ mem_filter p u ys e k ]

mem_map : (u : ℕ) (vs : List ThreadView) → Mem u (map (λ (t : ThreadView). t.machine.own.number) vs) → AnyR (λ v. number_of v ≡ u) vs
mem_map u [] k = k
mem_map u (v ∷ vs) (inl e) = inl e
mem_map u (v ∷ vs) (inr k) = inr (mem_map u vs k)

some_view : (o : Option ThreadView) → ((v : ThreadView) × (o ≡ Some v)) ⊎ (o ≡ None)
some_view None = inr refl
some_view (Some v) = inl (v, refl)

-- ---- the lowest other thread
lowest_some : (word t first more j : ℕ) → first ≤ j → j < first + more → stands word j ≡ true → j ≢ t → (n : ℕ) × (lowest_from word t first more ≡ Some n) × (stands word n ≡ true) × (n ≢ t)
unfolding lowest_from
lowest_some word t first zero j le lt bit ne = absurd (omega arith)
lowest_some word t first (suc more) j le lt bit ne = elim (stands word first && not (first == t)) as (λ b. (stands word first && not (first == t)) ≡ b → (n : ℕ) × ((if b then Some first else lowest_from word t (suc first) more) ≡ Some n) × (stands word n ≡ true) × (n ≢ t)) [
  | true ↦ λ e. let k = parts (stands word first) first t e in (first, refl, k.0, k.1)
  | false ↦ λ e. lowest_some word t (suc first) more j (⊎_elim (λ (same : first ≡ j). absurd (yes (sym (here same) ∙ e))) (λ (ne' : first ≡ j → ⊥). above first j le ne') (cases_eq first j)) (omega arith) bit ne
] refl
  where
    parts : (b : Bool) (a t : ℕ) → (b && not (a == t)) ≡ true → (b ≡ true) × (a ≢ t)
    parts true a t e = (refl, λ same. yes (sym e ∙ ap not (let q : (a == t) ≡ true = grind (arith, nat_tests) in q)))
    parts false a t e = absurd (yes (sym e))

    differ : (a t : ℕ) → a ≢ t → (a == t) ≡ false
    differ a t ne = grind (arith, nat_tests)

    here : first ≡ j → (stands word first && not (first == t)) ≡ true
    here same = ap (λ n. stands word n && not (n == t)) same ∙ ap (λ b. b && not (j == t)) bit ∙ ap not (differ j t ne)

    above : (a b : ℕ) → a ≤ b → (a ≡ b → ⊥) → suc a ≤ b
    above a b le ne = grind (arith, nat_tests)

lowest_is : (word t j : ℕ) → j < THREADS → stands word j ≡ true → j ≢ t → (n : ℕ) × (lowest_other word t ≡ Some n) × (stands word n ≡ true) × (n ≢ t)
unfolding lowest_other
lowest_is word t j lt bit ne = lowest_some word t 0 THREADS j (omega arith) (omega (arith, lt)) bit ne

few_stand : (v u : ℕ) → stands v u ≡ true → u < THREADS
unfolding stands
few_stand v u e = less u (Rattle.std.specs.Prelude.nat_lt u THREADS) refl e
  where
    less : (u : ℕ) (b : Bool) → Rattle.std.specs.Prelude.nat_lt u THREADS ≡ b → (b && (Rattle.std.specs.Int.bit_at v (1 + u) == 1)) ≡ true → u < THREADS
    less u true q e = grind (arith, nat_tests)
    less u false q e = absurd (yes (sym e))

-- ---- what a view says
module _ (c : ConflictAt) (v : ThreadView) where
  is_written_by : (z : ℕ) → noted c Write v ≡ Some z → access_of c v ≡ Some (check_by Write v z)
  is_written_by z e = ap (or_later c v) e

  is_read_by : (z : ℕ) → noted c Write v ≡ None → noted c Read v ≡ Some z → access_of c v ≡ Some (check_by Read v z)
  is_read_by z a e = ap (or_later c v) a ∙ ap (or_read c v) e

  is_refused : (d : ConflictAt) → noted c Write v ≡ None → noted c Read v ≡ None → refused c v ≡ Some d → access_of c v ≡ Some (check_by d.kind v d.site)
  is_refused d a b e = ap (or_later c v) a ∙ ap (or_read c v) b ∙ ap (or_refused v) e

same_place : (c d : ConflictAt) → d.granule ≡ c.granule → d.epoch ≡ c.epoch → is_same_place c d ≡ true
same_place c d a b = two d.granule c.granule d.epoch c.epoch a b
  where
    two : (a b p q : ℕ) → a ≡ b → p ≡ q → ((a == b) && (p == q)) ≡ true
    two a b p q e f = grind (arith, nat_tests)

refused_now : (c d : ConflictAt) (o : Option Stop) → o ≡ Some (Conflict d) → d.granule ≡ c.granule → d.epoch ≡ c.epoch → refused_by c o ≡ Some d
refused_now c d o is a b = ap (refused_by c) is ∙ ap (λ b. if b then Some d else None) (same_place c d a b)

refused_back : (c d : ConflictAt) (o : Option Stop) → refused_by c o ≡ Some d → (o ≡ Some (Conflict d)) × (d.granule ≡ c.granule) × (d.epoch ≡ c.epoch)
refused_back c d None e = absurd (let f : None ≡ Some d = e in cc)
refused_back c d (Some (Conflict b)) e = elim (is_same_place c b) as (λ y. is_same_place c b ≡ y → (if y then Some b else None) ≡ Some d → (Some (Conflict b) ≡ Some (Conflict d)) × (d.granule ≡ c.granule) × (d.epoch ≡ c.epoch)) [
  | true ↦ λ q z. let same : b ≡ d = cc in let k = places b.granule c.granule b.epoch c.epoch q in (ap (λ d. Some (Conflict d)) same, ap (λ (d : ConflictAt). d.granule) (sym same) ∙ k.0, ap (λ (d : ConflictAt). d.epoch) (sym same) ∙ k.1)
  | false ↦ λ _ z. absurd (let f : None ≡ Some d = z in cc)
] refl e
  where
    places : (a b p q : ℕ) → ((a == b) && (p == q)) ≡ true → (a ≡ b) × (p ≡ q)
    places a b p q e = ((grind (arith, nat_tests)), (grind (arith, nat_tests)))
refused_back c d _ e = absurd (let f : None ≡ Some d = e in cc)

-- ---- threads that were not started
blank_at : (n p : ℕ) → slice_index_or (replicate n blank) p blank ≡ blank
blank_at zero p = refl
blank_at (suc n) zero = refl
blank_at (suc n) (suc p) = blank_at n p

blank_none : (kind : Kind) (e : ℕ) → site_at (of_kind kind blank) e ≡ None
blank_none Read e = refl
blank_none Write e = refl

module _ (code : Code) (s : Shape) (g : Global Machine) (threads : List ThreadView) (started : AreStarted code s g threads) (fits : Fits code s) (unstarted : (u : ℕ) → g.started u ≡ false → g.threads u ≡ begun code s u) (t : ℕ) (c : ConflictAt) (named : HasNamed g t c) where
  views : AllR (IsAt code s g) threads
  views = all_rec (IsAt code s g) threads started.each

  has_view : (u : ℕ) → g.started u ≡ true → u < THREADS → AnyR (λ v. number_of v ≡ u) threads
  has_view u on lt = mem_map u threads (subst (Mem u) (sym started.numbers) (mem_filter g.started u (range_with_len 0 s.threads) on (mem_range 0 s.threads u (omega arith) (subst (λ n. u < 0 + n) (sym fits.threads) (omega (arith, lt))))))

  no_note : (u : ℕ) (kind : Kind) → g.started u ≡ false → noted_site g c u kind ≡ None
  no_note u kind off = ap (λ (m : Machine). site_at (note_of m.own.table c.granule kind) c.epoch) (unstarted u off) ∙ ap (λ n. site_at (of_kind kind n) c.epoch) (blank_at (granules s) c.granule) ∙ blank_none kind c.epoch

  no_stop : (u : ℕ) (d : ConflictAt) → g.started u ≡ false → (g.threads u).own.stop ≡ Some (Conflict d) → ⊥
  no_stop u d off is = let f : None ≡ Some (Conflict d) = sym (ap (λ (m : Machine). m.own.stop) (unstarted u off)) ∙ is in cc

  on_of : (u : ℕ) → (g.started u ≡ false → ⊥) → g.started u ≡ true
  on_of u h = by (g.started u) h
    where
      by : (b : Bool) → (b ≡ false → ⊥) → b ≡ true
      by true h = refl
      by false h = absurd (h refl)

  note_on : (u : ℕ) (kind : Kind) (z : ℕ) → noted_site g c u kind ≡ Some z → g.started u ≡ true
  note_on u kind z e = on_of u (λ off. let f : None ≡ Some z = sym (no_note u kind off) ∙ e in cc)

  named_on : (j : ℕ) (kind : Kind) (site : ℕ) → IsNamed g t c j kind site → g.started j ≡ true
  named_on j kind site (OfWrite stood k e) = note_on j Write site e
  named_on j kind site (OfRead mine stood none k e) = note_on j Read site e
  named_on j kind site (OfStop mine stood none none' d at k z) = on_of j (λ off. no_stop j d off at.is)
  named_on j kind site (OfFirst mine none d at dk old k z) = on_of j (λ off. no_stop j d off at.is)

  -- the view of a thread
  view_of : (u : ℕ) → g.started u ≡ true → u < THREADS → (v : ThreadView) × (find (has_number u) threads ≡ Some v) × IsAt code s g v × (number_of v ≡ u)
  view_of u on lt = ⊎_elim
      (λ (w : (v : ThreadView) × (find (has_number u) threads ≡ Some v)). let k = found (IsAt code s g) (has_number u) threads views w.0 w.1 in (w.0, w.1, k.0, eqb-true (number_of w.0) u k.1))
      (λ (none : find (has_number u) threads ≡ None).
      let k = both (λ v. has_number u v ≡ false) (λ v. number_of v ≡ u) threads (not_found (has_number u) threads none) (has_view u on lt) in
      absurd (yes (sym (same_number (number_of k.0) u k.2) ∙ k.1)))
      (some_view (find (has_number u) threads))
    where
      same_number : (a b : ℕ) → a ≡ b → (a == b) ≡ true
      same_number a b e = grind (arith, nat_tests)

  noted_is : (v : ThreadView) → IsAt code s g v → (kind : Kind) → noted c kind v ≡ noted_site g c (number_of v) kind
  noted_is v at kind = ap (λ (m : Machine). site_at (note_of m.own.table c.granule kind) c.epoch) at.machine

  abbrev Picks : Type 0
  Picks = (a : NotedCheck) × (other_access c threads t ≡ Some a) × IsNamed g t c a.thread a.kind a.site

  -- ---- of a refused write
  of_view : (v : ThreadView) → IsAt code s g v → (kind : Kind) (site : ℕ) → c.kind ≡ Write → IsNamed g t c (number_of v) kind site → access_of c v ≡ Some (record { kind = kind; site = site; thread = number_of v })
  of_view v at kind site mine (OfWrite stood k e) = is_written_by c v site (noted_is v at Write ∙ e) ∙ ap (λ kind. Some (check_by kind v site)) (sym k)
  of_view v at kind site mine (OfRead _ stood none k e) = is_read_by c v site (noted_is v at Write ∙ none) (noted_is v at Read ∙ e) ∙ ap (λ kind. Some (check_by kind v site)) (sym k)
  of_view v at kind site mine (OfStop _ stood none none' d stop k z) =
      is_refused c v d (noted_is v at Write ∙ none) (noted_is v at Read ∙ none') (refused_now c d v.machine.own.stop (ap (λ (m : Machine). m.own.stop) at.machine ∙ stop.is) stop.granule stop.epoch)
      ∙ ap (λ kind. Some (check_by kind v d.site)) k ∙ ap (λ site. Some (check_by kind v site)) z
  of_view v at kind site mine (OfFirst read none d stop dk old k z) = absurd (let f : Read ≡ Write = sym read ∙ mine in cc)

  at_write : c.kind ≡ Write → Picks
  at_write mine =
      let j = named.stood in
      let n = lowest_is c.old t j.0 (few_stand c.old j.0 j.1.1) j.1.1 j.1.0 in
      let k = named.of_write mine n.0 (n.3, n.2) in
      let v = view_of n.0 (named_on n.0 k.0 k.1 k.2) (few_stand c.old n.0 n.2) in
      let is : IsNamed g t c (number_of v.0) k.0 k.1 = subst (λ n. IsNamed g t c n k.0 k.1) (sym v.3) k.2 in (
        record { kind = k.0; site = k.1; thread = number_of v.0 },
        ap (λ k. against k c threads t) mine ∙ ap (Rattle.sharc_run.specs.Others.access_of_number c threads) n.1 ∙ ap (access_of_any c) v.1 ∙ of_view v.0 v.2 k.0 k.1 mine is,
        is,
      )

  -- ---- of a refused read
  wrote_parts : (v : ThreadView) → wrote_before c t v ≡ true → (number_of v ≢ t) × (stands c.old (number_of v) ≡ true) × ((z : ℕ) × (noted c Write v ≡ Some z))
  wrote_parts v e = by (number_of v == t) refl (stands c.old (number_of v)) refl (noted c Write v) refl e
    where
      by : (a : Bool) → (number_of v == t) ≡ a → (b : Bool) → stands c.old (number_of v) ≡ b → (o : Option ℕ) → noted c Write v ≡ o → (not a && (b && is_some o)) ≡ true → (number_of v ≢ t) × (stands c.old (number_of v) ≡ true) × ((z : ℕ) × (noted c Write v ≡ Some z))
      by false q true r (Some z) w e = ((λ same. yes (sym (same_number (number_of v) t same) ∙ q)), r, (z, w))
        where
          same_number : (a b : ℕ) → a ≡ b → (a == b) ≡ true
          same_number a b e = grind (arith, nat_tests)
      by _ q _ r _ w e = absurd (yes (sym e))

  wrote_yes : (v : ThreadView) (z : ℕ) → number_of v ≢ t → stands c.old (number_of v) ≡ true → noted c Write v ≡ Some z → wrote_before c t v ≡ true
  wrote_yes v z ne bit e = ap (λ b. not b && (stands c.old (number_of v) && is_some (noted c Write v))) (differ (number_of v) t ne) ∙ ap (λ b. b && is_some (noted c Write v)) bit ∙ ap (λ (o : Option ℕ). is_some o) e
    where
      differ : (a t : ℕ) → a ≢ t → (a == t) ≡ false
      differ a t ne = grind (arith, nat_tests)

  -- none of those whose bit stood wrote
  none_wrote : find (wrote_before c t) threads ≡ None → (u : ℕ) → Stood c t u → noted_site g c u Write ≡ None
  none_wrote none u stood = ⊎_elim
      (λ (w : (z : ℕ) × (noted_site g c u Write ≡ Some z)).
      let k = both (λ v. IsAt code s g v × (wrote_before c t v ≡ false)) (λ v. number_of v ≡ u) threads (all_two (IsAt code s g) (λ v. wrote_before c t v ≡ false) threads views (not_found (wrote_before c t) threads none)) (has_view u (note_on u Write w.0 w.1) (few_stand c.old u stood.1)) in
      absurd (yes (sym (wrote_yes k.0 w.0 (λ e. stood.0 (sym k.2 ∙ e)) (ap (stands c.old) k.2 ∙ stood.1) (noted_is k.0 k.1.0 Write ∙ ap (λ u. noted_site g c u Write) k.2 ∙ w.1)) ∙ k.1.1)))
      (λ no. no)
      (some_or (noted_site g c u Write))

  -- a view whose thread was refused first
  first_parts : (v : ThreadView) → was_refused_first c v ≡ true → (d : ConflictAt) × (refused c v ≡ Some d) × (d.kind ≡ Write) × (is_written d.old ≡ false)
  first_parts v e = by (refused c v) refl e
    where
      of : (kind : Kind) (b : Bool) → (Rattle.sharc_run.specs.Others.is_write kind && not b) ≡ true → (kind ≡ Write) × (b ≡ false)
      of Write false e = (refl, refl)
      of Write true e = absurd (yes (sym e))
      of Read b e = absurd (yes (sym e))

      by : (o : Option ConflictAt) → refused c v ≡ o → is_first_write o ≡ true → (d : ConflictAt) × (refused c v ≡ Some d) × (d.kind ≡ Write) × (is_written d.old ≡ false)
      by None q e = absurd (yes (sym e))
      by (Some d) q e = let k = of d.kind (is_written d.old) e in (d, q, k.0, k.1)

  first_yes : (v : ThreadView) (d : ConflictAt) → refused c v ≡ Some d → d.kind ≡ Write → is_written d.old ≡ false → was_refused_first c v ≡ true
  first_yes v d is k old = ap is_first_write is ∙ ap (λ k. Rattle.sharc_run.specs.Others.is_write k && not (is_written d.old)) k ∙ ap not old

  at_read : c.kind ≡ Read → Picks
  at_read mine = ⊎_elim
      (λ (w : (v : ThreadView) × (find (wrote_before c t) threads ≡ Some v)).
      let k = found (IsAt code s g) (wrote_before c t) threads views w.0 w.1 in
      let p = wrote_parts w.0 k.1 in (
        check_by Write w.0 p.2.0,
        start ∙ ap (or_first_refused c threads) w.1 ∙ is_written_by c w.0 p.2.0 p.2.1,
        OfWrite (p.0, p.1) refl (sym (noted_is w.0 k.0 Write) ∙ p.2.1),
      ))
      (λ (none : find (wrote_before c t) threads ≡ None). ⊎_elim
      (λ (w : (v : ThreadView) × (find (was_refused_first c) threads ≡ Some v)).
      let k = found (IsAt code s g) (was_refused_first c) threads views w.0 w.1 in
      let p = first_parts w.0 k.1 in
      let d = p.0 in
      let r = refused_back c d w.0.machine.own.stop p.1 in (
        check_by d.kind w.0 d.site,
        start ∙ ap (or_first_refused c threads) none ∙ ap (refused_access c) w.1 ∙ ap (or_refused w.0) p.1,
        OfFirst mine (none_wrote none) d (record { is = sym (ap (λ (m : Machine). m.own.stop) k.0.machine) ∙ r.0; granule = r.1; epoch = r.2 }) p.2 p.3 p.2 refl,
      ))
      (λ (no : find (was_refused_first c) threads ≡ None). let k = named.of_read mine in absurd (neither none no k.0 k.1 k.2 k.3))
      (some_view (find (was_refused_first c) threads)))
      (some_view (find (wrote_before c t) threads))
    where
      start : other_access c threads t ≡ or_first_refused c threads (find (wrote_before c t) threads)
      start = ap (λ k. against k c threads t) mine

      neither : find (wrote_before c t) threads ≡ None → find (was_refused_first c) threads ≡ None → (j : ℕ) → j < THREADS → (site : ℕ) → IsNamed g t c j Write site → ⊥
      neither none never j lt site (OfWrite stood k e) = let f : None ≡ Some site = sym (none_wrote none j stood) ∙ e in cc
      neither none never j lt site (OfRead write stood a k e) = let f : Read ≡ Write = sym mine ∙ write in cc
      neither none never j lt site (OfStop write stood a b d at k z) = let f : Read ≡ Write = sym mine ∙ write in cc
      neither none never j lt site (OfFirst read a d at dk old k z) =
          let y = both (λ v. IsAt code s g v × (was_refused_first c v ≡ false)) (λ v. number_of v ≡ j) threads (all_two (IsAt code s g) (λ v. was_refused_first c v ≡ false) threads views (not_found (was_refused_first c) threads never)) (has_view j (on_of j (λ off. no_stop j d off at.is)) lt) in
          let is : refused c y.0 ≡ Some d = refused_now c d y.0.machine.own.stop (ap (λ (m : Machine). m.own.stop) y.1.0.machine ∙ ap (λ u. (g.threads u).own.stop) y.2 ∙ at.is) at.granule at.epoch in
          yes (sym (first_yes y.0 d is dk old) ∙ y.1.1)

  pub picked : (a : NotedCheck) × (other_access c threads t ≡ Some a) × IsNamed g t c a.thread a.kind a.site
  picked = by c.kind refl
    where
      by : (kind : Kind) → c.kind ≡ kind → (a : NotedCheck) × (other_access c threads t ≡ Some a) × IsNamed g t c a.thread a.kind a.site
      by Write e = at_write e
      by Read e = at_read e
