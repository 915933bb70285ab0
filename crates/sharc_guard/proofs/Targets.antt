-- The lists that marking fills: the lines that are led to, and the marks of the lines so far.
use Rattle.sharc_guard.proofs.Imports.{slice_get_past, fun_ext, ◌≡◌, ◌≤◌, ◌<◌, ◌⊎◌, inl, inr, ℕ, ◌+◌, Bool, false, ◌||◌, List, [], ◌∷◌, ◌++◌, length, drop, take, get_or, replicate, refl, sym, ap, ◌∙◌, subst, arith, cond, Option, Some, None, slice_get, append-nil, drop_all, length_push, get_or_push, get_or_append_left, get_or_past, get_or-replicate, length-replicate, take_all, cases_lt, ◌==◌, Kind, Function, Op, Flat, SimplePlace, in_variable, in_global, nothing, know_after, known, drops, drops_at, dropped, is_entry, is_led_to, is_target, leads_to, line_leads, AreBefore, AreMarks, AreTargets, Notes, is_one, know_of, no_notes, marked, or_false, or_assoc}
use Rattle.sharc_lemmas.proofs.Numbers.{next}

-- ---- lines that are led to
-- the first n lines are marked
pub record AreLed (old new : List Bool) (lines : List Op) (n : ℕ) : Type 0 where
  pub count : length new ≡ length old
  pub are : (to : ℕ) → to < length old → get_or new to false ≡ (get_or old to false || is_led_to lines n to)

pub none_led : (old : List Bool) (lines : List Op) → AreLed old old lines 0
none_led old lines = record { count = refl; are = λ to lt. sym (or_false (get_or old to false)) }

-- a list with one more mark
pub record IsMarked (old new : List Bool) (q : Option ℕ) : Type 0 where
  pub count : length new ≡ length old
  pub are : (k : ℕ) → k < length old → get_or new k false ≡ (get_or old k false || is_one q k)

pub more_led : (old new later : List Bool) (lines : List Op) (n : ℕ) (o : Op) (q : Option ℕ) → slice_get lines n ≡ Some o → ((to : ℕ) → is_one q to ≡ leads_to n o to)
    → AreLed old new lines n → IsMarked new later q → AreLed old later lines (n + 1)
more_led old new later lines n o q at led h m = record {
  count = m.count ∙ h.count;
  are = λ to lt.
      m.are to (subst (λ l. to < l) (sym h.count) lt) ∙ ap (λ z. z || is_one q to) (h.are to lt) ∙ or_assoc (get_or old to false) (is_led_to lines n to) (is_one q to)
      ∙ ap (λ z. get_or old to false || (is_led_to lines n to || z)) (led to ∙ sym (ap (λ o. line_leads n o to) at)) ∙ ap (λ k. get_or old to false || is_led_to lines k to) (next n);
}

-- ---- functions
pub record AreEntered (old new : List Bool) (functions : List Function) : Type 0 where
  pub count : length new ≡ length old
  pub are : (to : ℕ) → to < length old → get_or new to false ≡ (get_or old to false || is_entry functions to)

pub none_entered : (old : List Bool) → AreEntered old old []
none_entered old = record { count = refl; are = λ to lt. sym (or_false (get_or old to false)) }

entry_last : (fs : List Function) (f : Function) (to : ℕ) → is_entry (fs ++ f ∷ []) to ≡ (is_entry fs to || to == f.entry)
entry_last [] f to = or_false (to == f.entry)
entry_last (x ∷ fs) f to = ap (λ z. to == x.entry || z) (entry_last fs f to) ∙ sym (or_assoc (to == x.entry) (is_entry fs to) (to == f.entry))

pub more_entered : (old new later : List Bool) (fs : List Function) (f : Function) → AreEntered old new fs → IsMarked new later (Some f.entry) → AreEntered old later (fs ++ f ∷ [])
more_entered old new later fs f h m = record {
  count = m.count ∙ h.count;
  are = λ to lt.
      m.are to (subst (λ l. to < l) (sym h.count) lt) ∙ ap (λ z. z || to == f.entry) (h.are to lt) ∙ or_assoc (get_or old to false) (is_entry fs to) (to == f.entry)
      ∙ ap (λ z. get_or old to false || z) (sym (entry_last fs f to));
}

-- ---- all targets
-- a list that was lent as a slice is what was written there
pub given_back : (n : ℕ) (new old : List Bool) → length new ≡ length old → length old ≡ n → take n (new ++ drop (length new) old) ≡ new
given_back n new old e l =
    ap (λ xs. take n (new ++ xs)) (drop_all (length new) old (omega arith)) ∙ ap (take n) (append-nil new) ∙ take_all n new (omega arith)

pub all_targets : (lines : List Op) (functions : List Function) (none led all : List Bool) → none ≡ replicate (length lines + 1) false → AreLed none led lines (length lines) → AreEntered led all functions → AreTargets lines functions all
all_targets lines functions none led all e l a = record {
  count = a.count ∙ l.count ∙ ap length e ∙ length-replicate (length lines + 1) false;
  are = λ to lt.
      let in_led : to < length led = subst (λ n. to < n) a.count lt in
      let in_none : to < length none = subst (λ n. to < n) l.count in_led in
      let in_all : to < length lines + 1 = subst (λ n. to < n) (ap length e ∙ length-replicate (length lines + 1) false) in_none in
      a.are to in_led ∙ ap (λ z. z || is_entry functions to) (l.are to in_none ∙ ap (λ z. z || is_led_to lines (length lines) to) (ap (λ xs. get_or xs to false) e ∙ get_or-replicate (length lines + 1) to false false in_all));
}

-- ---- marks
-- the marks of the first n lines, and what is known before the next
pub record IsAt (flat : Flat) (n : ℕ) (marks : List Bool) (s : Notes) : Type 0 where
  pub count : length marks ≡ n
  pub are : (k : ℕ) → k < n → get_or marks k false ≡ dropped flat k
  pub known : know_of s ≡ known flat n
  pub before : AreBefore (n + 1) s

nothing_noted : know_of no_notes ≡ nothing
nothing_noted = λ i. record { copy = λ r. None; number = λ j. None; passed = fun_ext (λ kind. fun_ext (passes kind)) i }
  where
    passes : (kind : Kind) (place : SimplePlace) → (know_of no_notes).passed kind place ≡ false
    passes kind (in_variable x n) = refl
    passes kind (in_global g n) = refl

none_before : AreBefore 1 no_notes
none_before = record { floor = omega arith; written = λ k. omega arith; copies = λ k. tt; numbers = λ k. tt; in_variables = λ x n. tt; in_globals = λ g n. tt }

pub at_first : (flat : Flat) (s : Notes) → s ≡ no_notes → IsAt flat 0 [] s
at_first flat s e = record { count = refl; are = λ k lt. absurd (omega arith); known = ap know_of e ∙ nothing_noted; before = subst (AreBefore 1) (sym e) none_before }

pub at_next : (flat : Flat) (n : ℕ) (marks : List Bool) (s later : Notes) (o : Op) (mark target : Bool) → slice_get flat.lines n ≡ Some o → IsAt flat n marks s
    → mark ≡ drops (know_of s) o → target ≡ is_target flat (n + 1) → know_of later ≡ cond target nothing (know_after (Some o) (know_of s)) → AreBefore (n + 1 + 1) later
    → IsAt flat (n + 1) (marks ++ mark ∷ []) later
at_next flat n marks s later o mark target at h em et ek before = record {
  count = length_push marks mark ∙ ap (λ k. k + 1) h.count;
  are = λ k lt. by k lt (cases_lt k n);
  known = ek ∙ ap (λ z. cond z nothing (know_after (Some o) (know_of s))) et ∙ ap (λ q. cond (is_target flat (n + 1)) nothing (know_after q (know_of s))) (sym at)
      ∙ ap (λ k. cond (is_target flat (n + 1)) nothing (know_after (slice_get flat.lines n) k)) h.known ∙ ap (λ k. cond (is_target flat k) nothing (know_after (slice_get flat.lines n) (known flat n))) (sym (next n)) ∙ ap (known flat) (next n);
  before = before;
}
  where
    by : (k : ℕ) → k < n + 1 → (k < n) ⊎ (n ≤ k) → get_or (marks ++ mark ∷ []) k false ≡ dropped flat k
    by k lt (inl l) = get_or_append_left marks (mark ∷ []) false k (subst (λ m. k < m) (sym h.count) l) ∙ h.are k l
    by k lt (inr l) =
        let e : n ≡ k = omega arith in
        get_or_push marks mark false k (h.count ∙ e) ∙ em ∙ ap (λ w. drops w o) h.known ∙ ap (drops_at (known flat n)) (sym at) ∙ ap (dropped flat) e

pub all_marked : (flat : Flat) (marks : List Bool) (s : Notes) → IsAt flat (length flat.lines) marks s → AreMarks flat marks
all_marked flat marks s h = record { count = h.count; are = λ n. by n (cases_lt n (length flat.lines)) }
  where
    by : (n : ℕ) → (n < length flat.lines) ⊎ (length flat.lines ≤ n) → marked marks n ≡ dropped flat n
    by n (inl l) = h.are n l
    by n (inr l) = get_or_past marks n false (subst (λ m. m ≤ n) (sym h.count) l) ∙ sym (ap (drops_at (known flat n)) (slice_get_past flat.lines n l))
