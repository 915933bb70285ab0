-- The checks of reads and writes: one that passes, and one that is refused.
use Rattle.sharc_invariant.proofs.Imports.{◌≡◌, ℕ, zero, suc, ◌<◌, ◌≢◌, ◌||◌, ◌&&◌, not, Bool, true, false, cond, List, [], ◌∷◌, Option, Some, None, refl, sym, ap, ◌∙◌, subst, inl, inr, ⊎_elim, arith, eqb-true, cases_eq, get_or-set_same, get_or-set_other, length-set, Contains-append_left, Contains-append_right, Contains-get_or, all_pairs_push, length, slice_index_or, slice_set, nat_eq, is_some, bit_or, ◌++◌, Contains, if◌then◌else◌, THREADS, Kind, Read, Write, Note, GranuleNotes, blank, has_note, of_kind, Accesses, ListsNoted, is_noted, note_of, site_at, epoch_of, is_written, stands, is_write, is_of, HasOther, bits_of, conflicts_in, lowest_other, noted, ShadowLaws, Own, Machine, wrote, with_note as with_note_of, put, put_same, put_other, put_all, GranuleState, Alone, Clean, marked, passed, Reads, note_number, eq_refl, ne_eq}
use Rattle.sharc_heap.specs.Notes.{with_note}

-- ---- one granule
-- the word behind a refused check
pub marked_reads : (laws : ShadowLaws) (v : ℕ) (rn wn : ℕ → ℕ → ℕ) (p : ℕ) (x : GranuleState) (t : ℕ) (kind : Kind) → t < THREADS → Reads v rn wn p x → Reads (bit_or v (bits_of t kind)) rn wn p (marked x t (is_write kind))
marked_reads laws v rn wn p x t kind lt r =
    let a = laws.or_adds v t kind lt in
    record {
      epoch = r.epoch ∙ sym a.epoch;
      wrote = elim kind as (λ k. cond (is_write k) true x.wrote ≡ (is_written v || is_write k)) [
        | Read ↦ r.wrote ∙ (elim (is_written v) as (λ b. b ≡ (b || false)) [ true ↦ refl | false ↦ refl ])
        | Write ↦ elim (is_written v) as (λ b. true ≡ (b || true)) [ true ↦ refl | false ↦ refl ]
      ] ∙ sym a.written;
      has = λ u. put_all (λ u (b : Bool). b ≡ stands (bit_or v (bits_of t kind)) u) x.has t true
          (sym (a.threads t ∙ ap (λ b. stands v t || b) (eq_refl t) ∙ (elim (stands v t) as (λ b. (b || true) ≡ true) [ true ↦ refl | false ↦ refl ])))
          (λ u ne. r.has u ∙ sym (a.threads u ∙ ap (λ b. stands v u || b) (ne_eq u t ne) ∙ (elim (stands v u) as (λ b. (b || false) ≡ b) [ true ↦ refl | false ↦ refl ]))) u;
      read_note = r.read_note;
      write_note = r.write_note;
    }

-- and behind one that passes, with the note
pub passed_reads : (laws : ShadowLaws) (v : ℕ) (rn wn rn' wn' : ℕ → ℕ → ℕ) (p : ℕ) (x : GranuleState) (t : ℕ) (kind : Kind) → t < THREADS → Reads v rn wn p x
    → ((u : ℕ) → rn' u p ≡ cond (is_write kind) (rn u p) (put (λ u. rn u p) t (suc (epoch_of v)) u)) → ((u : ℕ) → wn' u p ≡ cond (is_write kind) (put (λ u. wn u p) t (suc (epoch_of v)) u) (wn u p))
    → Reads (bit_or v (bits_of t kind)) rn' wn' p (passed x t (is_write kind))
passed_reads laws v rn wn rn' wn' p x t Read lt r er ew =
    let m = marked_reads laws v rn wn p x t Read lt r in
    record {
      epoch = m.epoch;
      wrote = m.wrote;
      has = m.has;
      read_note = λ u. put_all (λ u n. n ≡ put (λ u. rn u p) t (suc (epoch_of v)) u) x.read_note t (suc x.epoch) (ap suc r.epoch ∙ sym (put_same (λ u. rn u p) t (suc (epoch_of v)))) (λ u ne. r.read_note u ∙ sym (put_other (λ u. rn u p) t u (suc (epoch_of v)) ne)) u ∙ sym (er u);
      write_note = λ u. r.write_note u ∙ sym (ew u);
    }
passed_reads laws v rn wn rn' wn' p x t Write lt r er ew =
    let m = marked_reads laws v rn wn p x t Write lt r in
    record {
      epoch = m.epoch;
      wrote = m.wrote;
      has = m.has;
      read_note = λ u. r.read_note u ∙ sym (er u);
      write_note = λ u. put_all (λ u n. n ≡ put (λ u. wn u p) t (suc (epoch_of v)) u) x.write_note t (suc x.epoch) (ap suc r.epoch ∙ sym (put_same (λ u. wn u p) t (suc (epoch_of v)))) (λ u ne. r.write_note u ∙ sym (put_other (λ u. wn u p) t u (suc (epoch_of v)) ne)) u ∙ sym (ew u);
    }

-- a note of the word's epoch
noted_number : (n : Option Note) (e : ℕ) → is_some (site_at n e) ≡ true → note_number n ≡ suc e
noted_number None e h = absurd (cc)
noted_number (Some n) e h = elim (nat_eq n.epoch e) as (λ b. nat_eq n.epoch e ≡ b → is_some (cond b (Some n.site) None) ≡ true → suc n.epoch ≡ suc e) [
  | true ↦ λ q _. ap suc (eqb-true n.epoch e q)
  | false ↦ λ q k. absurd (cc)
] refl h

-- where a check finds no conflict it may pass
pub clean_check : (laws : ShadowLaws) (v : ℕ) (rn wn : ℕ → ℕ → ℕ) (p : ℕ) (x : GranuleState) (t : ℕ) (kind : Kind) (m : Machine) → Reads v rn wn p x → wn t p ≡ note_number (note_of m.own.table p Write)
    → conflicts_in v t kind (wrote m p v) ≡ false → Clean THREADS x t (is_write kind)
unfolding conflicts_in
clean_check laws v rn wn p x t Write m r e h = λ u lt ne. r.has u ∙ elim (stands v u) as (λ b. stands v u ≡ b → b ≡ false) [
  | true ↦ λ q. let o : HasOther v t = (u, record { another = ne; stood = q }) in let z : conflicts_in v t Write (wrote m p v) ≡ true = (laws.conflicts v t Write (wrote m p v)).1 o in cc
  | false ↦ λ q. refl
] refl
clean_check laws v rn wn p x t Read m r e h =
    let others : is_some (lowest_other v t) ≡ false → Alone THREADS x t = λ none' u lt ne. r.has u ∙ elim (stands v u) as (λ b. stands v u ≡ b → b ≡ false) [
      | true ↦ λ q. let o : HasOther v t = (u, record { another = ne; stood = q }) in let z : conflicts_in v t Write None ≡ true = (laws.conflicts v t Write None).1 o in cc
      | false ↦ λ q. refl
    ] refl in
    let cases : (a b c : Bool) → is_some (lowest_other v t) ≡ a → is_written v ≡ b → is_of (wrote m p v) (epoch_of v) ≡ c → (a && (b && not c)) ≡ false → Clean THREADS x t false = λ a b c.
    elim b as (λ b. is_some (lowest_other v t) ≡ a → is_written v ≡ b → is_of (wrote m p v) (epoch_of v) ≡ c → (a && (b && not c)) ≡ false → Clean THREADS x t false) [
      | false ↦ λ ea eb ec _. inl (r.wrote ∙ eb)
      | true ↦ elim c as (λ c. is_some (lowest_other v t) ≡ a → is_written v ≡ true → is_of (wrote m p v) (epoch_of v) ≡ c → (a && (true && not c)) ≡ false → Clean THREADS x t false) [
        | true ↦ λ ea eb ec _. inr (inr (r.write_note t ∙ e ∙ noted_number (note_of m.own.table p Write) (epoch_of v) (own_note (is_some (site_at (note_of m.own.table p Write) (epoch_of v))) (epoch_of v) ec) ∙ ap suc (sym r.epoch)))
        | false ↦ elim a as (λ a. is_some (lowest_other v t) ≡ a → is_written v ≡ true → is_of (wrote m p v) (epoch_of v) ≡ false → (a && true) ≡ false → Clean THREADS x t false) [
          | true ↦ λ ea eb ec q. absurd (cc)
          | false ↦ λ ea eb ec q. inr (inl (others ea))
        ]
      ]
    ] in
    cases (is_some (lowest_other v t)) (is_written v) (is_of (wrote m p v) (epoch_of v)) refl refl refl h
  where
    own_note : (b : Bool) (e : ℕ) → is_of (cond b (Some e) None) e ≡ true → b ≡ true
    own_note true e h = refl
    own_note false e h = absurd (cc)

-- ---- the table of notes
has_with : (kind : Kind) (n : Note) (r : GranuleNotes) → has_note (with_note kind n r) ≡ true
has_with Read n r = refl
has_with Write n r = elim (is_some r.read) as (λ b. (b || true) ≡ true) [ true ↦ refl | false ↦ refl ]

noted_at : (notes : List GranuleNotes) (p : ℕ) (kind : Kind) (n : Note) → p < length notes → (q : ℕ) → is_noted (slice_set notes p (with_note kind n (slice_index_or notes p blank))) q ≡ put (is_noted notes) p true q
noted_at notes p kind n lt = put_all (λ q b. is_noted (slice_set notes p (with_note kind n (slice_index_or notes p blank))) q ≡ b) (is_noted notes) p true
    (ap has_note (get_or-set_same notes p (with_note kind n (slice_index_or notes p blank)) blank lt) ∙ has_with kind n (slice_index_or notes p blank))
    (λ q ne. ap has_note (get_or-set_other notes p q (with_note kind n (slice_index_or notes p blank)) blank ne))

in_front : (xs : List ℕ) (p q k : ℕ) → k < length (xs ++ p ∷ []) → slice_index_or (xs ++ p ∷ []) k q ≡ q → (q ≡ p → ⊥) → Contains xs q
in_front [] p q zero lt e ne = absurd (ne (sym e))
in_front [] p q (suc k) lt e ne = absurd (omega arith)
in_front (x ∷ xs) p q zero lt e ne = (0, omega arith, e)
in_front (x ∷ xs) p q (suc k) lt e ne = let r = in_front xs p q k (omega arith) e ne in (suc r.0, (let z = r.1 in omega arith), r.2)

pub noted_listed : (table : Accesses) (p : ℕ) (kind : Kind) (n : Note) → p < length table.notes → ListsNoted table → ListsNoted (noted table p kind n)
unfolding noted
noted_listed table p kind n lt h = elim (is_noted table.notes p) as (λ b. is_noted table.notes p ≡ b → ListsNoted (record { notes = slice_set table.notes p (with_note kind n (slice_index_or table.notes p blank)); order = cond b table.order (table.order ++ p ∷ []) })) [
  | true ↦ λ e. record {
    all = λ q k. h.all q (put_all (λ q b. b ≡ true → is_noted table.notes q ≡ true) (is_noted table.notes) p true (λ _. e) (λ q _ k. k) q (sym (noted_at table.notes p kind n lt q) ∙ k));
    only = λ q c. noted_at table.notes p kind n lt q ∙ put_all (λ q b. is_noted table.notes q ≡ true → b ≡ true) (is_noted table.notes) p true (λ _. refl) (λ q _ k. k) q (h.only q c);
    once = h.once;
  }
  | false ↦ λ e. record {
    all = λ q k. ⊎_elim
        (λ (z : q ≡ p). Contains-append_right table.order (p ∷ []) q (0, omega arith, sym z))
        (λ (ne : q ≡ p → ⊥). Contains-append_left table.order (p ∷ []) q (h.all q (sym (put_other (is_noted table.notes) p q true ne) ∙ sym (noted_at table.notes p kind n lt q) ∙ k)))
        (cases_eq q p);
    only = λ q c. noted_at table.notes p kind n lt q ∙ ⊎_elim
        (λ (z : q ≡ p). ap (put (is_noted table.notes) p true) z ∙ put_same (is_noted table.notes) p true)
        (λ (ne : q ≡ p → ⊥). put_other (is_noted table.notes) p q true ne ∙ h.only q (in_front table.order p q c.0 c.1 c.2 ne))
        (cases_eq q p);
    once = all_pairs_push (λ a b. a ≢ b) table.order p h.once (λ k d lk z. let q : is_noted table.notes p ≡ true = subst (λ y. is_noted table.notes y ≡ true) z (h.only (slice_index_or table.order k d) (Contains-get_or table.order k d lk)) in cc);
  }
] refl

abbrev pub same_kind : Kind → Kind → Bool
same_kind Read Read = true
same_kind Write Write = true
same_kind _ _ = false

new_number : (k kind : Kind) (n : Note) (row : GranuleNotes) (f : ℕ) → note_number (of_kind k (with_note kind n row)) ≡ (if same_kind k kind then suc n.epoch else note_number (of_kind k row))
new_number Read Read n row f = refl
new_number Read Write n row f = refl
new_number Write Read n row f = refl
new_number Write Write n row f = refl

same_put : (b : Bool) (f : ℕ → ℕ) (p v : ℕ) → (if b then v else f p) ≡ (if b then put f p v p else f p)
same_put true f p v = sym (put_same f p v)
same_put false f p v = refl

pub other_put : (b : Bool) (f : ℕ → ℕ) (p v q : ℕ) → (q ≡ p → ⊥) → f q ≡ (if b then put f p v q else f q)
other_put true f p v q ne = sym (put_other f p q v ne)
other_put false f p v q ne = refl

set_number_at : (table : Accesses) (p : ℕ) (kind : Kind) (n : Note) → p < length table.notes → (k : Kind) (q : ℕ)
    → note_number (of_kind k (slice_index_or (slice_set table.notes p (with_note kind n (slice_index_or table.notes p blank))) q blank))
    ≡ (if same_kind k kind then put (λ q. note_number (note_of table q k)) p (suc n.epoch) q else note_number (note_of table q k))
set_number_at table p kind n lt k q =
    let row = with_note kind n (slice_index_or table.notes p blank) in
    let f : ℕ → ℕ = λ q. note_number (note_of table q k) in
    ⊎_elim
    (λ (z : q ≡ p). ap (λ q. note_number (of_kind k (slice_index_or (slice_set table.notes p row) q blank))) z ∙ ap (λ r. note_number (of_kind k r)) (get_or-set_same table.notes p row blank lt)
    ∙ new_number k kind n (slice_index_or table.notes p blank) 0 ∙ same_put (same_kind k kind) f p (suc n.epoch) ∙ ap (λ q. if same_kind k kind then put f p (suc n.epoch) q else f q) (sym z))
    (λ (ne : q ≡ p → ⊥). ap (λ r. note_number (of_kind k r)) (get_or-set_other table.notes p q row blank ne) ∙ other_put (same_kind k kind) f p (suc n.epoch) q ne)
    (cases_eq q p)

kept_number : (table : Accesses) (p : ℕ) (kind : Kind) (e : ℕ) → is_some (site_at (note_of table p kind) e) ≡ true → (k : Kind) (q : ℕ)
    → note_number (note_of table q k) ≡ (if same_kind k kind then put (λ q. note_number (note_of table q k)) p (suc e) q else note_number (note_of table q k))
kept_number table p kind e h k q =
    let f : ℕ → ℕ = λ q. note_number (note_of table q k) in
    ⊎_elim
    (λ (z : q ≡ p). ap f z ∙ at k kind h ∙ same_put (same_kind k kind) f p (suc e) ∙ ap (λ q. if same_kind k kind then put f p (suc e) q else f q) (sym z))
    (λ (ne : q ≡ p → ⊥). other_put (same_kind k kind) f p (suc e) q ne)
    (cases_eq q p)
  where
    at : (k kind : Kind) → is_some (site_at (note_of table p kind) e) ≡ true → note_number (note_of table p k) ≡ (if same_kind k kind then suc e else note_number (note_of table p k))
    at Read Read h = noted_number (note_of table p Read) e h
    at Read Write h = refl
    at Write Read h = refl
    at Write Write h = noted_number (note_of table p Write) e h

-- the numbers of the notes of one thread behind a check that passes
pub noted_numbers : (o : Own) (p : ℕ) (kind : Kind) (e site : ℕ) → p < length o.table.notes → (k : Kind) (q : ℕ)
    → note_number (note_of (with_note_of o p kind e site).table q k) ≡ (if same_kind k kind then put (λ q. note_number (note_of o.table q k)) p (suc e) q else note_number (note_of o.table q k))
unfolding noted
noted_numbers o p kind e site lt k q =
    let f : ℕ → ℕ = λ q. note_number (note_of o.table q k) in
    let n : Note = record { epoch = e; site = site } in
    elim (is_some (site_at (note_of o.table p kind) e)) as (λ b. is_some (site_at (note_of o.table p kind) e) ≡ b
    → note_number (note_of (cond b o (record o { table = noted o.table p kind n })).table q k) ≡ (if same_kind k kind then put f p (suc e) q else f q)) [
      | true ↦ λ h. kept_number o.table p kind e h k q
      | false ↦ λ h. set_number_at o.table p kind n lt k q
    ] refl

-- and its table is one
pub noted_table : (o : Own) (p : ℕ) (kind : Kind) (e site : ℕ) → p < length o.table.notes → ListsNoted o.table → ListsNoted (with_note_of o p kind e site).table × (length (with_note_of o p kind e site).table.notes ≡ length o.table.notes)
unfolding noted
noted_table o p kind e site lt h =
    let n : Note = record { epoch = e; site = site } in
    elim (is_some (site_at (note_of o.table p kind) e)) as (λ b. ListsNoted (cond b o (record o { table = noted o.table p kind n })).table × (length (cond b o (record o { table = noted o.table p kind n })).table.notes ≡ length o.table.notes)) [
      | true ↦ (h, refl)
      | false ↦ (noted_listed o.table p kind n lt h, length-set o.table.notes p (with_note kind n (slice_index_or o.table.notes p blank)))
    ]
