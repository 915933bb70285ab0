-- The notes of a thread that withdraws row by row.
use Rattle.sharc_invariant.proofs.Imports.{◌≡◌, ℕ, zero, suc, ◌+◌, ◌<◌, ◌≤◌, ◌≢◌, ◌||◌, ◌&&◌, Bool, true, false, cond, List, [], ◌∷◌, Option, None, Some, refl, sym, ap, ◌∙◌, ⊎_elim, arith, ◌^◌, cases_lt, eqb-true, eqb-false, nat_tests, and_le_l, length, take, slice_index, slice_index_or, nat_lt, nat_eq, not, is_some, ◌==◌, bit_and, list_any, Kind, Read, Write, GranuleNotes, blank, has_note, of_kind, Accesses, ListsNoted, is_noted, note_of, site_at, withdrawn_of, all_but, ShadowLaws, epoch_of, is_of, is_written, stands, THREADS, Machine, wrote, withdraws, at_stage, Withdraws, Leaves, put, put_same, put_other, put_all, GranuleState, withdrawn, note_number, noted_by, Reads, ne_eq, eq_refl, same_or, or_assoc, and_false, and_true}

-- ---- the rows that were withdrawn from
abbrev pub is_row : List ℕ → ℕ → Bool
is_row rows p = list_any (λ h. p == h) rows

-- one more
pub one_more : (order : List ℕ) (row p : ℕ) → row < length order → is_row (take (suc row) order) p ≡ (is_row (take row order) p || p == slice_index order row)
one_more [] row p lt = absurd (omega arith)
one_more (h ∷ order) zero p lt = elim (p == h) as (λ b. (b || false) ≡ (false || b)) [ true ↦ refl | false ↦ refl ]
one_more (h ∷ order) (suc row) p lt =
    let a = one_more order row p (omega arith) in
    ap (λ b. (p == h) || b) a ∙ sym (or_assoc (p == h) (is_row (take row order) p) (p == slice_index order row))

-- all
pub all_rows : (order : List ℕ) (p : ℕ) → is_row (take (length order) order) p ≡ is_row order p
all_rows [] p = refl
all_rows (h ∷ order) p = ap (λ b. (p == h) || b) (all_rows order p)

pub in_rows : (order : List ℕ) (p k : ℕ) → k < length order → slice_index order k ≡ p → is_row order p ≡ true
in_rows [] p k lt e = absurd (omega arith)
in_rows (h ∷ order) p zero lt e = let q : (p == h) ≡ true = ap (λ h. p == h) e ∙ eq_refl p in rw q refl
in_rows (h ∷ order) p (suc k) lt e = let q = in_rows order p k (omega arith) e in elim (p == h) as (λ b. (b || is_row order p) ≡ true) [ true ↦ refl | false ↦ q ]

-- a row is none of those before it
pub not_before : (order : List ℕ) (row : ℕ) (p : ℕ) → row ≤ length order → ((i : ℕ) → i < row → slice_index order i ≢ p) → is_row (take row order) p ≡ false
not_before order zero p le h = refl
not_before [] (suc row) p le h = absurd (omega arith)
not_before (a ∷ order) (suc row) p le h =
    let q : (p == a) ≡ false = ne_eq p a (λ e. h 0 (omega arith) (sym e)) in
    rw (q, (not_before order row p (omega arith) (λ i lt. h (suc i) (omega arith)))) refl

-- ---- the table
-- a row is a granule
blank_past : (notes : List GranuleNotes) (p : ℕ) → length notes ≤ p → is_noted notes p ≡ false
blank_past [] p le = refl
blank_past (a ∷ notes) zero le = absurd (omega arith)
blank_past (a ∷ notes) (suc p) le = blank_past notes p (omega arith)

pub row_low : (table : Accesses) → ListsNoted table → (row : ℕ) → row < length table.order → slice_index table.order row < length table.notes
row_low table lists row lt =
    let p = slice_index table.order row in
    let n = lists.only p (row, lt, same_or table.order row p 0 lt) in
    ⊎_elim (λ (l : p < length table.notes). l) (λ (ge : length table.notes ≤ p). let z = blank_past table.notes p ge in absurd (cc)) (cases_lt p (length table.notes))

-- a granule that is in no row was not noted
no_notes : (kind : Kind) (a : GranuleNotes) → has_note a ≡ false → note_number (of_kind kind a) ≡ 0
no_notes Read a e = elim a.read as (λ n. (is_some n || is_some a.write) ≡ false → note_number n ≡ 0) [ None ↦ λ e. refl | Some n ↦ λ e. absurd (cc) ] e
no_notes Write a e = elim a.write as (λ n. (is_some a.read || is_some n) ≡ false → note_number n ≡ 0) [
  | None ↦ λ e. refl
  | Some n ↦ λ e. absurd (elim (is_some a.read) as (λ b. (b || true) ≡ false → ⊥) [ true ↦ λ e. cc | false ↦ λ e. cc ] e)
] e

pub unlisted : (table : Accesses) → ListsNoted table → (kind : Kind) (p : ℕ) → is_row table.order p ≡ false → note_number (note_of table p kind) ≡ 0
unlisted table lists kind p e =
    let a = slice_index_or table.notes p blank in
    elim (has_note a) as (λ b. has_note a ≡ b → note_number (of_kind kind a) ≡ 0) [
      | true ↦ λ h. let c = lists.all p h in let q = in_rows table.order p c.0 c.1 (same_or table.order c.0 0 p c.1 ∙ c.2) in absurd (cc)
      | false ↦ λ h. no_notes kind a h
    ] refl

-- a row stands once in the order
pub first_row : (table : Accesses) → ListsNoted table → (row : ℕ) → row < length table.order → is_row (take row table.order) (slice_index table.order row) ≡ false
first_row table lists row lt =
    not_before table.order row (slice_index table.order row) (omega arith) (λ i l e. lists.once i row 0 l lt e)

-- ---- the notes behind a row
pub noted_withdraws : (m : Machine) → ListsNoted m.own.table → (row : ℕ) → row ≤ length m.own.table.order → (kind : Kind) (p : ℕ)
    → noted_by (withdraws m row) kind p ≡ cond (is_row (take row m.own.table.order) p) 0 (note_number (note_of m.own.table p kind))
noted_withdraws m lists row le kind p =
    let order = m.own.table.order in
    let n = note_number (note_of m.own.table p kind) in
    elim (nat_lt row (length order)) as (λ b. nat_lt row (length order) ≡ b → noted_by (cond b (at_stage m (Withdraws row)) (at_stage m Leaves)) kind p ≡ cond (is_row (take row order) p) 0 n) [
      | true ↦ λ e. refl
      | false ↦ λ e.
          let same : row ≡ length order = all_of row (length order) le e in
          let rows : is_row (take row order) p ≡ is_row order p = ap (λ k. is_row (take k order) p) same ∙ all_rows order p in
          elim (is_row (take row order) p) as (λ b. is_row (take row order) p ≡ b → 0 ≡ cond b 0 n) [
            | true ↦ λ _. refl
            | false ↦ λ q. sym (unlisted m.own.table lists kind p (sym rows ∙ q))
          ] refl
    ] refl
  where
    all_of : (a b : ℕ) → a ≤ b → nat_lt a b ≡ false → a ≡ b
    all_of a b le e = grind (arith, nat_tests)

-- ---- a granule
-- the thread's own note of kind Write is of the epoch of the word
pub wrote_now : (m : Machine) (p seen : ℕ) → is_of (wrote m p seen) (epoch_of seen) ≡ nat_eq (note_number (note_of m.own.table p Write)) (suc (epoch_of seen))
wrote_now m p seen =
    let e = epoch_of seen in
    elim (note_of m.own.table p Write) as (λ n. is_of (cond (is_some (site_at n e)) (Some e) None) e ≡ nat_eq (note_number n) (suc e)) [
      | None ↦ sym (ne_eq 0 (suc e) (λ z. absurd (omega arith)))
      | Some n ↦ elim (n.epoch == e) as (λ b. (n.epoch == e) ≡ b → is_of (cond (is_some (cond b (Some n.site) None)) (Some e) None) e ≡ nat_eq (suc n.epoch) (suc e)) [
        | true ↦ λ q. let z : suc n.epoch ≡ suc e = ap suc (eqb-true n.epoch e q) in eq_refl e ∙ sym (ap (λ k. nat_eq k (suc e)) z ∙ eq_refl (suc e))
        | false ↦ λ q. sym (ne_eq (suc n.epoch) (suc e) (λ z. eqb-false n.epoch e q (let y : n.epoch ≡ e = omega arith in y)))
      ] refl
    ]

and_not : (a b : Bool) → (a && not b) ≡ cond b false a
and_not true true = refl
and_not true false = refl
and_not false true = refl
and_not false false = refl

pub withdrawn_reads : (laws : ShadowLaws) (v t p : ℕ) (w : Option ℕ) (rn wn : ℕ → ℕ → ℕ) (y : GranuleState) → v < 2 ^ 64 → t < THREADS → Reads v rn wn p y → is_of w (epoch_of v) ≡ nat_eq (wn t p) (suc (epoch_of v))
    → (rn' wn' : ℕ → ℕ → ℕ) → ((u : ℕ) → rn' u p ≡ put (λ u. rn u p) t 0 u) → ((u : ℕ) → wn' u p ≡ put (λ u. wn u p) t 0 u) → Reads (withdrawn_of v t w) rn' wn' p (withdrawn y t)
withdrawn_reads laws v t p w rn wn y small lt r own rn' wn' er ew =
    let l = laws.withdraws v t w small lt in
    record {
      epoch = r.epoch ∙ sym l.epoch;
      wrote =
          let a : nat_eq (y.write_note t) (suc y.epoch) ≡ is_of w (epoch_of v) = ap (λ n. nat_eq n (suc y.epoch)) (r.write_note t) ∙ ap (λ n. nat_eq (wn t p) (suc n)) r.epoch ∙ sym own in
          ap (λ b. cond b false y.wrote) a ∙ ap (λ b. cond (is_of w (epoch_of v)) false b) r.wrote ∙ sym (and_not (is_written v) (is_of w (epoch_of v))) ∙ sym l.written;
      has = λ u. put_all (λ u b. b ≡ stands (withdrawn_of v t w) u) y.has t false
          (sym (l.threads t ∙ ap (λ b. stands v t && not b) (eq_refl t) ∙ and_false (stands v t)))
          (λ u ne. r.has u ∙ sym (l.threads u ∙ ap (λ b. stands v u && not b) (ne_eq u t ne) ∙ and_true (stands v u))) u;
      read_note = λ u. put_all (λ u n. n ≡ rn' u p) y.read_note t 0 (sym (er t ∙ put_same (λ u. rn u p) t 0)) (λ u ne. r.read_note u ∙ sym (er u ∙ put_other (λ u. rn u p) t u 0 ne)) u;
      write_note = λ u. put_all (λ u n. n ≡ wn' u p) y.write_note t 0 (sym (ew t ∙ put_same (λ u. wn u p) t 0)) (λ u ne. r.write_note u ∙ sym (ew u ∙ put_other (λ u. wn u p) t u 0 ne)) u;
    }

pub withdrawn_small : (v t : ℕ) (w : Option ℕ) → v < 2 ^ 64 → withdrawn_of v t w < 2 ^ 64
unfolding withdrawn_of
withdrawn_small v t w small =
    let a = and_le_l v (all_but (1 + t)) in
    let b = and_le_l (bit_and v (all_but (1 + t))) (all_but 0) in
    elim (is_of w (epoch_of v)) as (λ c. cond c (bit_and (bit_and v (all_but (1 + t))) (all_but 0)) (bit_and v (all_but (1 + t))) < 2 ^ 64) [ true ↦ omega arith | false ↦ omega arith ]
