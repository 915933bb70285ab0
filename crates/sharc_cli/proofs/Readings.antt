-- clap reads what follows a command as the definition does.
use Rattle.sharc_cli.proofs.{Imports.{◌≡◌, ◌∙◌, ◌⊎◌, inl, inr, ap, ap₂, sym, refl, ℕ, ◌<◌, Bool, true, false, ◌||◌, ◌==◌, nat_lt, List, [], ◌∷◌, ◌++◌, map, Option, Some, None, length, arith, lt-ltb, false≢true, true≢false, list_any-append, if◌then◌else◌, fold, option_map, list_all, bytes_eq, long_of, Row, Text, settled_rows, used, settle_fault, walk_fault, name_and_value, next_by, Entry, Form, Reading, Word, ended, has, has_hyphen, is_option, next, number, option_of, with_entry, with_option, is_plain, or_false, and_false, both as both_true}, Walks.{by_test, IsApart, IsBare, at_idle, at_option, by_id, dashes, entry_row, gate, gate_none, has_entry_row, held, no_index, not_number, number_id, option_rule, repeated, rows_by, rules_of, second_index, step_filled, step_number, step_option, step_stray, step_unfilled, step_unknown, step_value, use_repeats, used_adds}}

-- ---- what a plain word looks like

pub record IsFlag (w : Text) (o : Text × Option Text) : Type 0 where
  pub long : long_of w ≡ Some o
  pub written : option_of w ≡ Some o
  pub hyphen : has_hyphen w ≡ true
  pub dashed : bytes_eq w dashes ≡ false

pub record IsWord (w : Text) : Type 0 where
  pub bare : IsBare w
  pub hyphen : has_hyphen w ≡ false

pub data Look (w : Text) : Type 0 where
  as_flag : (o : Text × Option Text) → IsFlag w o → Look w
  as_word : IsWord w → Look w

no_hyphen : (x : ℕ) (rest : Text) → (x == 45) ≡ false → Look (x ∷ rest)
no_hyphen x rest e =
    as_word (record { bare = record { long = rw e refl; short = rw e refl; dashed = rw e refl }; hyphen = e })

long_flag : (x y z : ℕ) (rest : Text) → (x == 45) ≡ true → (y == 45) ≡ true → Look (x ∷ y ∷ z ∷ rest)
long_flag x y z rest first second =
    as_flag (name_and_value (z ∷ rest)) (record {
      long = rw (first, second) refl;
      written = rw (first, second) refl;
      hyphen = first;
      dashed = rw (first, second) refl;
    })

hyphened : (x : ℕ) (rest : Text) → (x == 45) ≡ true → is_plain (x ∷ rest) ≡ true → Look (x ∷ rest)
hyphened x (y ∷ z ∷ rest) first e =
    let some : nat_lt 0 (length (x ∷ y ∷ z ∷ rest)) ≡ true = lt-ltb 0 (length (x ∷ y ∷ z ∷ rest)) (omega arith) in
    long_flag x y z rest first (both_true _ _ (rw (some, first) at e)).1
hyphened x _ first e = absurd (false≢true (rw first at e))

pub look_of : (w : Text) → is_plain w ≡ true → Look w
look_of [] e = as_word (record { bare = record { long = refl; short = refl; dashed = refl }; hyphen = refl })
look_of (x ∷ rest) e = by_test (x == 45) (λ b. hyphened x rest b e) (λ b. no_hyphen x rest b)

not_long : (x y : ℕ) (rest : Text) → (x == 45) ≡ true → is_plain (x ∷ y ∷ rest) ≡ false → 0 < length rest → (y == 45) ≡ false
not_long x y rest first e more =
    let some : nat_lt 0 (length (x ∷ y ∷ rest)) ≡ true = lt-ltb 0 (length (x ∷ y ∷ rest)) (omega arith) in
    let third : nat_lt 2 (length (x ∷ y ∷ rest)) ≡ true = lt-ltb 2 (length (x ∷ y ∷ rest)) (omega arith) in
    rw (some, first, third) at e

no_option : (f : Form) (x : ℕ) (rest : Text) (entries : List Entry) → (x == 45) ≡ true → is_plain (x ∷ rest) ≡ false → is_option f [] ≡ false
    → with_option f (option_of (x ∷ rest)) entries ≡ None
no_option f x [] entries first e unnamed = rw first refl
no_option f x (y ∷ []) entries first e unnamed = by_test (y == 45) (λ b. rw (first, b, unnamed) refl) (λ b. rw (first, b) refl)
no_option f x (y ∷ z ∷ rest) entries first e unnamed = rw (first, not_long x y (z ∷ rest) first e (omega arith)) refl

next_flag : (f : Form) (w : Word) (entries : List Entry) → has_hyphen w ≡ true → next_by f None w entries ≡ with_option f (option_of w) entries
next_flag f w entries hyphen = rw hyphen refl

-- a word that is not plain is read by none
pub not_plain : (f : Form) (r : Option Reading) (w : Text) → is_plain w ≡ false → is_option f [] ≡ false → next f r w ≡ None
not_plain f None w e unnamed = refl
not_plain f (Some r) [] e unnamed = absurd (true≢false e)
not_plain f (Some r) (x ∷ rest) e unnamed = go (x == 45) refl r.waiting
  where
    go : (b : Bool) → (x == 45) ≡ b → (waiting : Option Word) → next_by f waiting (x ∷ rest) r.entries ≡ None
    go false b waiting = absurd (true≢false (rw (b, and_false (nat_lt 0 (length (x ∷ rest)))) at e))
    go true b (Some name) = rw b refl
    go true b None = next_flag f (x ∷ rest) r.entries b ∙ no_option f x rest r.entries b e unnamed

-- ---- the state between two words

-- how many words are by themselves so far
abbrev pub AtPosition : Form → List Entry → ℕ → Type 0
AtPosition f entries position = f.has_number ≡ true → position ≡ (if has number entries then 2 else 1)

abbrev pub rows : List Entry → List Row
rows = map entry_row

abbrev pub read_by : Form → Option Reading → List Word → Option (List Row)
read_by f r ws = option_map rows (ended (fold (next f) r ws))

pub none_ends : (f : Form) (ws : List Word) → ended (fold (next f) None ws) ≡ None
none_ends f [] = refl
none_ends f (w ∷ ws) = none_ends f ws

pub none_stays : (f : Form) (ws : List Word) → read_by f None ws ≡ None
none_stays f [] = refl
none_stays f (w ∷ ws) = none_stays f ws

map_more : (entries : List Entry) (e : Entry) → rows (entries ++ e ∷ []) ≡ rows entries ++ entry_row e ∷ []
map_more [] e = refl
map_more (x ∷ xs) e = ap (λ t. entry_row x ∷ t) (map_more xs e)

-- a value that is pending is as good as one that was used
module _ (f : Form) (name value : Text) (rs : List Row) (position : ℕ)
    (fault : settle_fault (rules_of f) false (held rs (Some (name, value ∷ []))) ≡ repeated name rs)
    (after : settled_rows (rules_of f) (Some (name, value ∷ [])) rs ≡ used (option_rule name) (value ∷ []) rs)
    (place : f.has_number ≡ true → (position ≡ 1) ⊎ (position ≡ 2)) where
  abbrev Settles : List Text → Type 0
  Settles ws = rows_by f (at_idle rs (Some (name, value ∷ [])) position) ws
      ≡ gate (repeated name rs) (rows_by f (at_idle (used (option_rule name) (value ∷ []) rs) None position) ws)

  stray_settles : (w : Text) (ws : List Text) → IsWord w → (b : Bool) → f.has_number ≡ b → Settles (w ∷ ws)
  stray_settles w ws plain false e =
      step_stray f w rs (Some (name, value ∷ [])) position ws plain.bare (no_index f position e)
      ∙ sym (ap (gate (repeated name rs)) (step_stray f w (used (option_rule name) (value ∷ []) rs) None position ws plain.bare (no_index f position e)) ∙ gate_none (repeated name rs))
  stray_settles w ws plain true e = elim (place e) [
    | inl first ↦ rw first (step_number f w rs (Some (name, value ∷ [])) ws plain.bare e
        ∙ ap₂ (λ k (v : List Row). gate k (rows_by f (at_idle v (Some (number, w ∷ [])) 2) ws)) fault after
        ∙ sym (ap (gate (repeated name rs)) (step_number f w (used (option_rule name) (value ∷ []) rs) None ws plain.bare e)))
    | inr second ↦ rw second (step_stray f w rs (Some (name, value ∷ [])) 2 ws plain.bare (second_index f e)
        ∙ sym (ap (gate (repeated name rs)) (step_stray f w (used (option_rule name) (value ∷ []) rs) None 2 ws plain.bare (second_index f e)) ∙ gate_none (repeated name rs)))
  ]

  flag_settles : (w other : Text) (v : Option Text) (ws : List Text) → IsFlag w (other, v) → (b : Bool) → is_option f other ≡ b → Settles (w ∷ ws)
  flag_settles w other v ws is false e =
      step_unknown f w other v rs (Some (name, value ∷ [])) position ws is.long is.dashed e
      ∙ sym (ap (gate (repeated name rs)) (step_unknown f w other v (used (option_rule name) (value ∷ []) rs) None position ws is.long is.dashed e) ∙ gate_none (repeated name rs))
  flag_settles w other None ws is true e =
      step_option f w other rs (Some (name, value ∷ [])) position ws is.long is.dashed e
      ∙ ap₂ (λ k (v : List Row). gate k (rows_by f (at_option v other position) ws)) fault after
      ∙ sym (ap (gate (repeated name rs)) (step_option f w other (used (option_rule name) (value ∷ []) rs) None position ws is.long is.dashed e))
  flag_settles w other (Some v) ws is true e =
      step_value f w other v rs (Some (name, value ∷ [])) position ws is.long is.dashed e
      ∙ ap₂ (λ k (x : List Row). gate k (gate (repeated other x) (rows_by f (at_idle (used (option_rule other) (v ∷ []) x) None position) ws))) fault after
      ∙ sym (ap (gate (repeated name rs)) (step_value f w other v (used (option_rule name) (value ∷ []) rs) None position ws is.long is.dashed e))

  pub settles : (ws : List Text) → list_all is_plain ws ≡ true → Settles ws
  unfolding walk_fault
  settles [] plain = ap₂ (λ k (v : List Row). gate k (Some v)) fault after
  settles (w ∷ ws) plain = elim (look_of w (both_true _ _ plain).0) [
    | as_flag o is ↦ flag_settles w o.0 o.1 ws is (is_option f o.0) refl
    | as_word is ↦ stray_settles w ws is f.has_number refl
  ]

-- ---- clap and the definition

position_stays : (f : Form) (entries : List Entry) (name value : Word) (position : ℕ) → bytes_eq name number ≡ false
    → AtPosition f entries position → AtPosition f (entries ++ (name, value) ∷ []) position
position_stays f entries name value position other at is =
    let same : has number (entries ++ (name, value) ∷ []) ≡ (has number entries || (bytes_eq name number || false)) =
    list_any-append (λ (e : Entry). bytes_eq e.0 number) entries ((name, value) ∷ []) in
    rw (same, other, or_false (has number entries)) (at is)

place_of : (f : Form) (entries : List Entry) (position : ℕ) → AtPosition f entries position → f.has_number ≡ true → (position ≡ 1) ⊎ (position ≡ 2)
place_of f entries position at is = by_test (has number entries) (λ b. inr (rw b at (at is))) (λ b. inl (rw b at (at is)))

next_number : (f : Form) (w : Word) (entries : List Entry) → has_hyphen w ≡ false → f.has_number ≡ true → next_by f None w entries ≡ with_entry number w entries
next_number f w entries hyphen e = rw (hyphen, e) refl

pub record IsProper (f : Form) : Type 0 where
  pub apart : IsApart f
  pub unnamed : is_option f [] ≡ false

module _ (f : Form) (proper : IsProper f) where
  abbrev FromIdle : List Word → Type 0
  FromIdle ws = (entries : List Entry) (position : ℕ) → AtPosition f entries position
      → rows_by f (at_idle (rows entries) None position) ws ≡ read_by f (Some (record { entries = entries; waiting = None })) ws

  abbrev FromOption : List Word → Type 0
  FromOption ws = (entries : List Entry) (name : Word) (position : ℕ) → AtPosition f entries position → is_option f name ≡ true
      → rows_by f (at_option (rows entries) name position) ws ≡ read_by f (Some (record { entries = entries; waiting = Some name })) ws

  -- one more entry
  added : (name value : Word) (ws : List Word) (entries : List Entry) (position : ℕ)
      → (rows_by f (at_idle (rows (entries ++ (name, value) ∷ [])) None position) ws ≡ read_by f (Some (record { entries = entries ++ (name, value) ∷ []; waiting = None })) ws)
      → gate (repeated name (rows entries)) (rows_by f (at_idle (used (option_rule name) (value ∷ []) (rows entries)) None position) ws)
      ≡ read_by f (with_entry name value entries) ws
  added name value ws entries position next =
      by_test (has name entries) (λ b. rw (has_entry_row name entries, b) (sym (none_stays f ws)))
      (λ b.
      let new = has_entry_row name entries ∙ b in
      rw (new, b) (ap (λ (v : List Row). rows_by f (at_idle v None position) ws) (used_adds name value (rows entries) new ∙ sym (map_more entries (name, value))) ∙ next))

  idle_flag : (w name : Word) (v : Option Word) (ws : List Word) → IsFlag w (name, v) → (b : Bool) → is_option f name ≡ b
      → FromIdle ws → FromOption ws → FromIdle (w ∷ ws)
  idle_flag w name v ws is false e idle option entries position at =
      step_unknown f w name v (rows entries) None position ws is.long is.dashed e ∙ rw (is.hyphen, is.written) (unknown v)
    where
      unknown : (v : Option Word) → None ≡ read_by f (with_option f (Some (name, v)) entries) ws
      unknown None = rw e (sym (none_stays f ws))
      unknown (Some value) = rw e (sym (none_stays f ws))
  idle_flag w name None ws is true e idle option entries position at =
      step_option f w name (rows entries) None position ws is.long is.dashed e ∙ option entries name position at e ∙ rw (is.hyphen, is.written, e) refl
  idle_flag w name (Some value) ws is true e idle option entries position at =
      step_value f w name value (rows entries) None position ws is.long is.dashed e
      ∙ added name value ws entries position (idle (entries ++ (name, value) ∷ []) position
      (position_stays f entries name value position (not_number f name proper.apart e) at))
      ∙ rw (is.hyphen, is.written, e) refl

  idle_word : (w : Word) (ws : List Word) → IsWord w → list_all is_plain ws ≡ true → (b : Bool) → f.has_number ≡ b → FromIdle ws → FromIdle (w ∷ ws)
  idle_word w ws plain rest false e idle entries position at =
      step_stray f w (rows entries) None position ws plain.bare (no_index f position e) ∙ rw (plain.hyphen, e) (sym (none_stays f ws))
  idle_word w ws plain rest true e idle entries position at =
      by_test (has number entries)
      (λ is.
      let second = rw is at (at e) in
      let twice : with_entry number w entries ≡ None = rw is refl in
      rw second (step_stray f w (rows entries) None 2 ws plain.bare (second_index f e)
      ∙ sym (ap (λ r. read_by f r ws) (next_number f w entries plain.hyphen e ∙ twice) ∙ none_stays f ws)))
      (λ is.
      let first = rw is at (at e) in
      let new : AtPosition f (entries ++ (number, w) ∷ []) 2 =
      λ _. rw (list_any-append (λ (x : Entry). bytes_eq x.0 number) entries ((number, w) ∷ []), is) refl in
      rw first (step_number f w (rows entries) None ws plain.bare e
      ∙ (settles f number w (rows entries) 2 (rw (number_id f e) (use_repeats number w (rows entries))) (rw (number_id f e) refl) (λ _. inr refl) ws rest
      ∙ (added number w ws entries 2 (idle (entries ++ (number, w) ∷ []) 2 new)
      ∙ ap (λ r. read_by f r ws) (sym (next_number f w entries plain.hyphen e))))))

  option_word : (w name : Word) (ws : List Word) → IsWord w → list_all is_plain ws ≡ true → FromIdle ws → (entries : List Entry) (position : ℕ)
      → AtPosition f entries position → is_option f name ≡ true
      → rows_by f (at_option (rows entries) name position) (w ∷ ws) ≡ read_by f (Some (record { entries = entries; waiting = Some name })) (w ∷ ws)
  option_word w name ws plain rest idle entries position at e =
      step_filled f w name (rows entries) position ws plain.bare proper.apart e
      ∙ settles f name w (rows entries) position
      (rw (by_id f name proper.apart e) (use_repeats name w (rows entries))) (rw (by_id f name proper.apart e) refl) (place_of f entries position at) ws rest
      ∙ added name w ws entries position (idle (entries ++ (name, w) ∷ []) position
      (position_stays f entries name w position (not_number f name proper.apart e) at))
      ∙ rw plain.hyphen refl

  pub reads : (ws : List Word) → list_all is_plain ws ≡ true → FromIdle ws × FromOption ws
  unfolding walk_fault
  reads [] plain = (λ entries position at. refl, λ entries name position at e. rw (by_id f name proper.apart e) refl)
  reads (w ∷ ws) plain =
      let parts = both_true (is_plain w) (list_all is_plain ws) plain in
      let rest = reads ws parts.1 in
      elim (look_of w parts.0) [
        | as_flag o is ↦ (
          idle_flag w o.0 o.1 ws is (is_option f o.0) refl rest.0 rest.1,
          λ entries name position at e. step_unfilled f w name o.0 o.1 (rows entries) position ws is.long is.dashed proper.apart e ∙ rw is.hyphen (sym (none_stays f ws)),
        )
        | as_word is ↦ (
          idle_word w ws is parts.1 f.has_number refl rest.0,
          λ entries name position at e. option_word w name ws is parts.1 rest.0 entries position at e,
        )
      ]
