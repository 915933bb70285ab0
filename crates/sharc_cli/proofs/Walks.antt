-- What clap makes of the words after a command.
use Rattle.sharc_cli.proofs.Imports.{◌≡◌, ◌∙◌, ap, ap₂, sym, subst, refl, ℕ, Bool, true, false, ◌||◌, List, [], ◌∷◌, ◌++◌, map, Option, Some, None, bytes_eq-Decides, false≢true, true≢false, append-nil, if◌then◌else◌, fold, codes, list_any, bytes_eq, long_of, short_of, is_pending, more_values, reading_by, Held, Row, Rule, Text, Walk, arg_by_id, arg_by_index, arg_by_long, at_row, has_row, idle, option, settled, settled_rows, used, walked, Shape, filled, is_simple, new_rule, new_shape, with_index, is_simple_and_free, settle_fault, turn_fault, use_fault, walk_fault, Kinds, or_else, CommandLine, clap_on_literals, Entry, Form, has, is_option, number, line, option_argument, and_false}
use Rattle.clap.specs.declared.error.kind.ErrorKind.TheVariants as kind

pub line_is_simple : is_simple line ≡ true
unfolding clap_on_literals
line_is_simple = refl

pub line_is_free : is_simple_and_free line ≡ true
unfolding clap_on_literals
line_is_free = refl

-- the two answers of a test
pub by_test : {G : Type 0} (b : Bool) → (b ≡ true → G) → (b ≡ false → G) → G
by_test true first second = first refl
by_test false first second = second refl

-- ---- the built subcommands

abbrev pub option_rule : Text → Rule
option_rule name = filled (option_argument name)

abbrev pub number_rule : Rule
number_rule = with_index 1 (filled (new_rule number))

abbrev pub rules_by : Bool → List Text → List Rule
rules_by true options = number_rule ∷ map option_rule options
rules_by false options = map option_rule options

abbrev pub rules_of : Form → List Rule
rules_of f = rules_by f.has_number f.options

abbrev pub leaf : Form → Shape
leaf f = record (new_shape f.name) {
  rules = rules_of f;
  is_built = true;
  no_binary_name = true;
  disable_help_flag = true;
  disable_help_subcommand = true;
  disable_version_flag = true;
}

-- ---- which argument a name finds

options_by_long : (options : List Text) (name : Text) (is : Bool) → list_any (λ n. bytes_eq n name) options ≡ is
    → arg_by_long (map option_rule options) name ≡ (if is then Some (option_rule name) else None)
options_by_long [] name is e = rw (← e) refl
options_by_long (n ∷ rest) name is e =
    by_test (bytes_eq n name) (λ b. let same = (bytes_eq-Decides n name).0 b in rw (← e, b) (ap (λ x. Some (option_rule x)) same))
    (λ b. rw b (options_by_long rest name is (rw b at e)))

pub by_long : (f : Form) (name : Text) (is : Bool) → is_option f name ≡ is → arg_by_long (rules_of f) name ≡ (if is then Some (option_rule name) else None)
by_long f name is e = go f.has_number
  where
    go : (b : Bool) → arg_by_long (rules_by b f.options) name ≡ (if is then Some (option_rule name) else None)
    go true = options_by_long f.options name is e
    go false = options_by_long f.options name is e

options_by_id : (options : List Text) (name : Text) → list_any (λ n. bytes_eq n name) options ≡ true
    → arg_by_id (map option_rule options) name ≡ Some (option_rule name)
options_by_id [] name e = absurd (false≢true e)
options_by_id (n ∷ rest) name e =
    by_test (bytes_eq n name) (λ b. let same = (bytes_eq-Decides n name).0 b in rw b (ap (λ x. Some (option_rule x)) same))
    (λ b. rw b (options_by_id rest name (rw b at e)))

-- no option of the form is called `number`
abbrev pub IsApart : Form → Type 0
IsApart f = is_option f number ≡ false

pub not_number : (f : Form) (name : Text) → IsApart f → is_option f name ≡ true → bytes_eq name number ≡ false
not_number f name apart e =
    by_test (bytes_eq name number) (λ b. absurd (false≢true (sym apart ∙ subst (λ n. is_option f n ≡ true) ((bytes_eq-Decides name number).0 b) e))) (λ b. b)

pub by_id : (f : Form) (name : Text) → IsApart f → is_option f name ≡ true → arg_by_id (rules_of f) name ≡ Some (option_rule name)
by_id f name apart e = go f.has_number
  where
    other : bytes_eq number name ≡ false
    other =
        by_test (bytes_eq number name)
        (λ b. absurd (false≢true (sym (not_number f name apart e) ∙ (bytes_eq-Decides name number).1 (sym ((bytes_eq-Decides number name).0 b))))) (λ b. b)

    go : (b : Bool) → arg_by_id (rules_by b f.options) name ≡ Some (option_rule name)
    go true = rw other (options_by_id f.options name e)
    go false = options_by_id f.options name e

options_by_index : (options : List Text) (i : ℕ) → arg_by_index (map option_rule options) i ≡ None
options_by_index [] i = refl
options_by_index (n ∷ rest) i = options_by_index rest i

pub no_index : (f : Form) (i : ℕ) → f.has_number ≡ false → arg_by_index (rules_of f) i ≡ None
no_index f i e = rw e (options_by_index f.options i)

pub first_index : (f : Form) → f.has_number ≡ true → arg_by_index (rules_of f) 1 ≡ Some number_rule
first_index f e = rw e refl

pub second_index : (f : Form) → f.has_number ≡ true → arg_by_index (rules_of f) 2 ≡ None
second_index f e = rw e (options_by_index f.options 2)

pub number_id : (f : Form) → f.has_number ≡ true → arg_by_id (rules_of f) number ≡ Some number_rule
number_id f e = rw e refl

-- ---- the rows

abbrev pub entry_row : Entry → Row
entry_row e = record { id = e.0; values = e.1 ∷ []; count = None; source = Some CommandLine; reading = reading_by (option_rule e.0) }

absent : (id : Text) (change : Row → List Row) (missing rows : List Row) → has_row id rows ≡ false → at_row id change missing rows ≡ rows ++ missing
absent id change missing [] e = refl
absent id change missing (r ∷ rs) e =
    by_test (bytes_eq r.id id) (λ b. absurd (true≢false (rw b at e))) (λ b. rw b (ap (λ t. r ∷ t) (absent id change missing rs (rw b at e))))

pub used_adds : (name value : Text) (rows : List Row) → has_row name rows ≡ false → used (option_rule name) (value ∷ []) rows ≡ rows ++ entry_row (name, value) ∷ []
used_adds name value rows e =
    let same = absent name (λ _. []) [] rows e ∙ append-nil rows in
    rw same (absent name (more_values CommandLine (value ∷ [])) (entry_row (name, value) ∷ []) rows e)

pub has_entry_row : (name : Text) (entries : List Entry) → has_row name (map entry_row entries) ≡ has name entries
has_entry_row name [] = refl
has_entry_row name (e ∷ es) = ap (λ b. bytes_eq e.0 name || b) (has_entry_row name es)

-- ---- faults

abbrev pub gate : Kinds → Option (List Row) → Option (List Row)
gate [] x = x
gate (k ∷ ks) x = None

pub gate_or : (a b : Kinds) (x : Option (List Row)) → gate (or_else a b) x ≡ gate a (gate b x)
gate_or [] b x = refl
gate_or (k ∷ ks) b x = refl

pub gate_none : (a : Kinds) → gate a None ≡ None
gate_none [] = refl
gate_none (k ∷ ks) = refl

abbrev pub repeated : Text → List Row → Kinds
repeated name rows = if has_row name rows then kind.ArgumentConflict ∷ [] else []

pub use_repeats : (name value : Text) (rows : List Row) → use_fault false (option_rule name) (value ∷ []) rows ≡ repeated name rows
use_repeats name value rows = by_test (has_row name rows) (λ b. rw b refl) (λ b. rw b refl)

-- ---- the steps of the walk

abbrev pub held : List Row → Option (Text × List Text) → Held
held rows pending = record { rows = rows; pending = pending; skip = 0 }

abbrev pub at_idle : List Row → Option (Text × List Text) → ℕ → Walk
at_idle rows pending position = record { held = held rows pending; waiting = idle; position = position; is_trailing = false; stopped = None }

abbrev pub at_option : List Row → Text → ℕ → Walk
at_option rows name position = record { held = held rows (Some (name, [])); waiting = option name; position = position; is_trailing = false; stopped = None }

-- the rows at the end of the walk over these words, where nothing fails
abbrev pub rows_by : Form → Walk → List Text → Option (List Row)
rows_by f w ws =
    let end = (fold (walked (rules_of f) []) w ws).held in
    gate (walk_fault (leaf f) [] w ws) (gate (settle_fault (rules_of f) false end) (Some (settled (rules_of f) end).rows))

gate_two : (a b : Kinds) (x : Option (List Row)) → gate (or_else (or_else a b) []) x ≡ gate a (gate b x)
gate_two (k ∷ ks) b x = refl
gate_two [] [] x = refl
gate_two [] (k ∷ ks) x = refl

-- one more word, by its fault and the walk after it
turned : (f : Form) (w after : Walk) (word : Text) (ws : List Text) (fault : Kinds)
    → turn_fault (leaf f) [] w word ≡ fault → walked (rules_of f) [] w word ≡ after → rows_by f w (word ∷ ws) ≡ gate fault (rows_by f after ws)
unfolding walk_fault
turned f w after word ws fault is to =
    gate_or (turn_fault (leaf f) [] w word) (walk_fault (leaf f) [] (walked (rules_of f) [] w word) ws) _
    ∙ ap₂ (λ (k : Kinds) (v : Walk). gate k (rows_by f v ws)) is to

abbrev pub dashes : Text
dashes = codes "--"

pub step_value : (f : Form) (w name value : Text) (rows : List Row) (p : Option (Text × List Text)) (position : ℕ) (ws : List Text)
    → long_of w ≡ Some (name, Some value) → bytes_eq w dashes ≡ false → is_option f name ≡ true
    → rows_by f (at_idle rows p position) (w ∷ ws)
    ≡ gate (settle_fault (rules_of f) false (held rows p))
    (gate (repeated name (settled_rows (rules_of f) p rows))
    (rows_by f (at_idle (used (option_rule name) (value ∷ []) (settled_rows (rules_of f) p rows)) None position) ws))
unfolding walked walk_fault
step_value f w name value rows p position ws long dashed known =
    turned f (at_idle rows p position) (at_idle (used (option_rule name) (value ∷ []) (settled_rows (rules_of f) p rows)) None position) w ws
    (or_else (or_else (settle_fault (rules_of f) false (held rows p)) (repeated name (settled_rows (rules_of f) p rows))) [])
    (rw (long, dashed, by_long f name true known, ← use_repeats name value (settled_rows (rules_of f) p rows)) refl)
    (rw (long, dashed, by_long f name true known) refl)
    ∙ gate_two (settle_fault (rules_of f) false (held rows p)) (repeated name (settled_rows (rules_of f) p rows)) _

pub step_option : (f : Form) (w name : Text) (rows : List Row) (p : Option (Text × List Text)) (position : ℕ) (ws : List Text)
    → long_of w ≡ Some (name, None) → bytes_eq w dashes ≡ false → is_option f name ≡ true
    → rows_by f (at_idle rows p position) (w ∷ ws)
    ≡ gate (settle_fault (rules_of f) false (held rows p)) (rows_by f (at_option (settled_rows (rules_of f) p rows) name position) ws)
unfolding walked walk_fault
step_option f w name rows p position ws long dashed known =
    turned f (at_idle rows p position) (at_option (settled_rows (rules_of f) p rows) name position) w ws (or_else (settle_fault (rules_of f) false (held rows p)) [])
    (rw (long, dashed, by_long f name true known) refl)
    (rw (long, dashed, by_long f name true known) refl)
    ∙ gate_or (settle_fault (rules_of f) false (held rows p)) [] _

pub step_unknown : (f : Form) (w name : Text) (value : Option Text) (rows : List Row) (p : Option (Text × List Text)) (position : ℕ) (ws : List Text)
    → long_of w ≡ Some (name, value) → bytes_eq w dashes ≡ false → is_option f name ≡ false
    → rows_by f (at_idle rows p position) (w ∷ ws) ≡ None
unfolding walked walk_fault
step_unknown f w name value rows p position ws long dashed unknown = rw (long, dashed, by_long f name false unknown) refl

-- a word that no flag could be
pub record IsBare (w : Text) : Type 0 where
  pub long : long_of w ≡ None
  pub short : short_of w ≡ None
  pub dashed : bytes_eq w dashes ≡ false

pub step_stray : (f : Form) (w : Text) (rows : List Row) (p : Option (Text × List Text)) (position : ℕ) (ws : List Text)
    → IsBare w → arg_by_index (rules_of f) position ≡ None
    → rows_by f (at_idle rows p position) (w ∷ ws) ≡ None
unfolding walked walk_fault
step_stray f w rows p position ws bare none = rw (bare.long, bare.short, bare.dashed, none) refl

pub step_number : (f : Form) (w : Text) (rows : List Row) (p : Option (Text × List Text)) (ws : List Text)
    → IsBare w → f.has_number ≡ true
    → rows_by f (at_idle rows p 1) (w ∷ ws)
    ≡ gate (settle_fault (rules_of f) false (held rows p)) (rows_by f (at_idle (settled_rows (rules_of f) p rows) (Some (number, w ∷ [])) 2) ws)
unfolding walked walk_fault
step_number f w rows p ws bare is =
    turned f (at_idle rows p 1) (at_idle (settled_rows (rules_of f) p rows) (Some (number, w ∷ [])) 2) w ws (settle_fault (rules_of f) false (held rows p))
    (rw (bare.long, bare.short, bare.dashed, first_index f is, and_false (is_pending number_rule p)) refl)
    (rw (bare.long, bare.short, bare.dashed, first_index f is, and_false (is_pending number_rule p)) refl)

pub step_filled : (f : Form) (w name : Text) (rows : List Row) (position : ℕ) (ws : List Text)
    → IsBare w → IsApart f → is_option f name ≡ true
    → rows_by f (at_option rows name position) (w ∷ ws) ≡ rows_by f (at_idle rows (Some (name, w ∷ [])) position) ws
unfolding walked walk_fault
step_filled f w name rows position ws bare apart known =
    turned f (at_option rows name position) (at_idle rows (Some (name, w ∷ [])) position) w ws []
    (rw (bare.long, bare.short, bare.dashed) refl)
    (rw (bare.long, bare.short, bare.dashed, by_id f name apart known, (bytes_eq-Decides name name).1 refl) refl)

pub step_unfilled : (f : Form) (w name other : Text) (value : Option Text) (rows : List Row) (position : ℕ) (ws : List Text)
    → long_of w ≡ Some (other, value) → bytes_eq w dashes ≡ false → IsApart f → is_option f name ≡ true
    → rows_by f (at_option rows name position) (w ∷ ws) ≡ None
unfolding walked walk_fault
step_unfilled f w name other value rows position ws long dashed apart known = go value long (is_option f other) refl
  where
    go : (v : Option Text) → long_of w ≡ Some (other, v) → (b : Bool) → is_option f other ≡ b → rows_by f (at_option rows name position) (w ∷ ws) ≡ None
    go v long false unknown = rw (long, dashed, by_long f other false unknown) refl
    go None long true is = rw (long, dashed, by_long f other true is, by_id f name apart known) refl
    go (Some v) long true is = rw (long, dashed, by_long f other true is, by_id f name apart known) refl
