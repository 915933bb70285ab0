-- clap reads the words of the command line as the definition does.
use Rattle.sharc_cli.proofs.{Imports.{◌≡◌, ◌∙◌, ap, ap₂, sym, subst, refl, Bool, true, false, not, ◌&&◌, List, [], ◌∷◌, map, Option, Some, None, is_some, codes, find, none-some, same_Some, bytes_eq-Decides, false≢true, true≢false, fold, option_map, option_and_then, list_any, list_all, option_map_or, bytes_eq, idle, Names, Row, Rule, Text, Walk, answers_to, finished, first_of, has_row, nothing_held, rows_after, settled, subcommand_met, walk, walk_from, walked, with_default, rows_at, Shape, built, entered, label_of, names_of, subcommand_of, turn_fault, check_fault, defaults_fault, entered_fault, fault_of, level_fault, settle_fault, walk_fault, Kinds, or_else, ErrorKind, is_given, stopped_fault, walk_stopped, Reading, command_of, ended, is_option, next, Entry, Form, Word, command_behind, commands, entries_of, forms, nothing_read, number, value_of, values_of, command_in, is_plain, line, values_in, and_false, both as both_true}, Walks.{by_test, gate_or, gate, leaf, number_rule, option_rule, rules_by, rules_of}, Readings.{none_ends, IsProper, as_flag, as_word, look_of, not_plain, reads, rows}}
use Rattle.clap.specs.declared.error.kind.ErrorKind.TheVariants as kind

-- ---- one subcommand

options_end : (options : List Text) (rs : List Row) → fold with_default rs (map option_rule options) ≡ rs
options_end [] rs = refl
options_end (n ∷ rest) rs = by_test {G = fold with_default (with_default rs (option_rule n)) (map option_rule rest) ≡ rs} (has_row n rs) (λ is. rw is (options_end rest rs)) (λ is. rw is (options_end rest rs))

rules_end : (b : Bool) (options : List Text) (rs : List Row) → fold with_default rs (rules_by b options) ≡ rs
rules_end false options rs = options_end options rs
rules_end true options rs = by_test {G = fold with_default (with_default rs number_rule) (map option_rule options) ≡ rs} (has_row number rs) (λ is. rw is (options_end options rs)) (λ is. rw is (options_end options rs))

options_default : (options : List Text) (rs : List Row) → defaults_fault rs (map option_rule options) ≡ []
unfolding defaults_fault
options_default [] rs = refl
options_default (n ∷ rest) rs = by_test (has_row n rs) (λ is. rw is (options_default rest rs)) (λ is. rw is (options_default rest rs))

rules_default : (b : Bool) (options : List Text) (rs : List Row) → defaults_fault rs (rules_by b options) ≡ []
unfolding defaults_fault
rules_default false options rs = options_default options rs
rules_default true options rs = by_test (has_row number rs) (λ is. rw is (options_default options rs)) (λ is. rw is (options_default options rs))

options_required : (given : Rule → Bool) (options : List Text) → list_any (λ a. a.required && given a) (map option_rule options) ≡ false
options_required given [] = refl
options_required given (n ∷ rest) = options_required given rest

rules_required : (given : Rule → Bool) (b : Bool) (options : List Text) → list_any (λ a. a.required && given a) (rules_by b options) ≡ false
rules_required given false options = options_required given options
rules_required given true options = options_required given options

rules_check : (f : Form) (rs : List Row) → check_fault (leaf f) rs false ≡ []
rules_check f rs = rw (rules_required (λ a. not (is_given a.id rs)) f.has_number f.options) refl

abbrev is_nil : Kinds → Bool
is_nil [] = true
is_nil (k ∷ ks) = false

pub cons_is_not : (k : ErrorKind) (ks : Kinds) → k ∷ ks ≡ [] → ⊥
cons_is_not k ks e = false≢true (ap is_nil e)

or_else_nil : (a : Kinds) → or_else a [] ≡ a
or_else_nil [] = refl
or_else_nil (k ∷ ks) = refl

-- the fault and the rows of a subcommand with these words
abbrev level : Form → List Text → Kinds
level f ws = level_fault (leaf f) [] nothing_held ws false []

level_is : (f : Form) (ws : List Text)
    → level f ws ≡ or_else (walk_fault (leaf f) [] (walk_from nothing_held) ws) (settle_fault (rules_of f) false (walk (rules_of f) [] nothing_held ws).held)
level_is f ws =
    let end = (walk (rules_of f) [] nothing_held ws).held in
    rw (rules_default f.has_number f.options (settled (rules_of f) end).rows, rules_check f (finished (rules_of f) end), or_else_nil (settle_fault (rules_of f) false end)) refl

level_reads : (f : Form) → IsProper f → (ws : List Text) → list_all is_plain ws ≡ true
    → gate (level f ws) (Some (rows_after (rules_of f) [] ws)) ≡ option_map rows (entries_of f ws)
level_reads f proper ws plain =
    let end = (walk (rules_of f) [] nothing_held ws).held in
    ap (λ k. gate k (Some (rows_after (rules_of f) [] ws))) (level_is f ws)
    ∙ (gate_or (walk_fault (leaf f) [] (walk_from nothing_held) ws) (settle_fault (rules_of f) false end) (Some (rows_after (rules_of f) [] ws))
    ∙ (ap (λ rs. gate (walk_fault (leaf f) [] (walk_from nothing_held) ws) (gate (settle_fault (rules_of f) false end) (Some rs))) (rules_end f.has_number f.options (settled (rules_of f) end).rows)
    ∙ (reads f proper ws plain).0 [] 1 (λ _. refl)))

-- ---- the name of the command

abbrev names : Names
names = names_of (built line)

abbrev form_of : Word → Option Form
form_of w = find (λ f. bytes_eq f.name w) forms

names_found : (fs : List Form) (w : Word) → option_map (λ (s : Text × List Text). s.0) (find (answers_to w) (map label_of (map leaf fs))) ≡ option_map (λ f. f.name) (find (λ f. bytes_eq f.name w) fs)
names_found [] w = refl
names_found (f ∷ fs) w = by_test (bytes_eq f.name w) (λ is. rw is refl) (λ is. rw is (names_found fs w))

leaves_found : (fs : List Form) (w : Word) → find (λ s. answers_to w (label_of s)) (map leaf fs) ≡ option_map leaf (find (λ f. bytes_eq f.name w) fs)
leaves_found [] w = refl
leaves_found (f ∷ fs) w = by_test (bytes_eq f.name w) (λ is. rw is refl) (λ is. rw is (leaves_found fs w))

named : (fs : List Form) (w : Word) (f : Form) → find (λ f. bytes_eq f.name w) fs ≡ Some f → f.name ≡ w
named [] w f e = absurd (none-some f e)
named (g ∷ gs) w f e =
    by_test (bytes_eq g.name w) (λ is. sym (ap (λ (h : Form). h.name) (same_Some g f (rw is at e))) ∙ (bytes_eq-Decides g.name w).0 is) (λ is. named gs w f (rw is at e))

leaf_found : (w : Word) (f : Form) → form_of w ≡ Some f → find (λ s. answers_to f.name (label_of s)) (built line).subs ≡ Some (leaf f)
leaf_found w f e =
    leaves_found forms f.name ∙ ap (option_map leaf) (ap (λ n. find (λ (g : Form). bytes_eq g.name n) forms) (named forms w f e) ∙ e)

is_met : (w : Word) (f : Form) → form_of w ≡ Some f → subcommand_met names idle w ≡ Some f.name
is_met w f e = names_found forms w ∙ ap (option_map (λ (g : Form). g.name)) e

is_not_met : (w : Word) → form_of w ≡ None → subcommand_met names idle w ≡ None
is_not_met w e = names_found forms w ∙ ap (option_map (λ (g : Form). g.name)) e

-- ---- the walk of the command itself

abbrev stopped_at : Text → List Text → Walk
stopped_at name rest = record (walk_from nothing_held) { stopped = Some (name, rest) }

stops : (c : List Rule) (ns : Names) (w name : Text) → subcommand_met ns idle w ≡ Some name → walked c ns (walk_from nothing_held) w ≡ stopped_at name []
unfolding walked
stops c ns w name met = rw met refl

walk_stops : (c : List Rule) (ns : Names) (w name : Text) (ws : List Text) → subcommand_met ns idle w ≡ Some name
    → walk c ns nothing_held (w ∷ ws) ≡ stopped_at name ws
walk_stops c ns w name ws met =
    ap (λ v. fold (walked c ns) v ws) (stops c ns w name met) ∙ sym (walk_stopped c ns (walk_from nothing_held) name [] ws)

turn_passes : (s : Shape) (ns : Names) (w name : Text) → s.disable_help_subcommand ≡ true → subcommand_met ns idle w ≡ Some name
    → turn_fault s ns (walk_from nothing_held) w ≡ []
turn_passes s ns w name off met = rw (met, off, and_false (bytes_eq name (codes "help"))) refl

walk_passes : (s : Shape) (ns : Names) (w name : Text) (ws : List Text) → s.disable_help_subcommand ≡ true → subcommand_met ns idle w ≡ Some name
    → walk_fault s ns (walk_from nothing_held) (w ∷ ws) ≡ []
unfolding walk_fault
walk_passes s ns w name ws off met =
    ap₂ or_else (turn_passes s ns w name off met)
    (ap (λ v. walk_fault s ns v ws) (stops s.rules ns w name met) ∙ stopped_fault s ns (walk_from nothing_held) (name, []) ws)

abbrev top : Shape
top = (built line).top

top_level : (w name : Text) (ws : List Text) (below : Kinds) → subcommand_met names idle w ≡ Some name
    → level_fault top names nothing_held (w ∷ ws) true below ≡ below
unfolding defaults_fault
top_level w name ws below met =
    ap₂ (λ (k : Kinds) (v : Walk). or_else k (or_else below (or_else (settle_fault top.rules top.args_override_self v.held)
    (or_else (defaults_fault (settled top.rules v.held).rows top.rules) (check_fault top (finished top.rules v.held) true)))))
    (walk_passes top names w name ws refl met) (walk_stops top.rules names w name ws met)
    ∙ or_else_nil below

top_fault : (w : Word) (ws : List Word) (f : Form) → form_of w ≡ Some f → fault_of line (w ∷ ws) ≡ level f ws
top_fault w ws f e =
    let met = is_met w f e in
    let found = leaf_found w f e in
    ap (λ (v : Walk). level_fault top names nothing_held (w ∷ ws) (is_some (entered (built line) v.stopped)) (entered_fault (built line) v.stopped))
    (walk_stops top.rules names w f.name ws met)
    ∙ (ap (λ (o : Option Shape). level_fault top names nothing_held (w ∷ ws) (is_some (option_map (λ s. rows_at s ws) o)) (option_map_or (λ s. level_fault s [] nothing_held ws false []) o [])) found
    ∙ top_level w f.name ws (level f ws) met)

top_rows : (w : Word) (ws : List Word) (f : Form) → form_of w ≡ Some f → subcommand_of line (w ∷ ws) ≡ Some (f.name, rows_after (rules_of f) [] ws)
top_rows w ws f e =
    ap (λ (v : Walk). entered (built line) v.stopped) (walk_stops top.rules names w f.name ws (is_met w f e))
    ∙ ap (option_map (λ s. rows_at s ws)) (leaf_found w f e)

or_else_first : (a b : Kinds) → or_else a b ≡ [] → a ≡ []
or_else_first [] b e = refl
or_else_first (k ∷ ks) b e = absurd (cons_is_not k ks e)

turn_first : (w : Word) (ws : List Word) (has : Bool) (below : Kinds) → level_fault top names nothing_held (w ∷ ws) has below ≡ []
    → turn_fault top names (walk_from nothing_held) w ≡ []
unfolding walk_fault
turn_first w ws has below e =
    or_else_first (turn_fault top names (walk_from nothing_held) w) (walk_fault top names (walked top.rules names (walk_from nothing_held) w) ws) (or_else_first _ _ e)

turn_refuses : (w : Word) → is_plain w ≡ true → form_of w ≡ None → turn_fault top names (walk_from nothing_held) w ≡ [] → ⊥
turn_refuses w plain e none = elim (look_of w plain) [
  | as_flag o is ↦ absurd (cons_is_not kind.UnknownArgument [] (rw (is_not_met w e, is.long, is.dashed) at none))
  | as_word is ↦ absurd (cons_is_not kind.UnknownArgument (kind.InvalidSubcommand ∷ []) (rw (is_not_met w e, is.bare.long, is.bare.short, is.bare.dashed) at none))
]

top_refuses : (w : Word) (ws : List Word) → is_plain w ≡ true → form_of w ≡ None → fault_of line (w ∷ ws) ≡ [] → ⊥
top_refuses w ws plain e none = turn_refuses w plain e (turn_first w ws _ _ none)

-- ---- clap and the definition

first_is : (id : Word) (entries : List Entry) → first_of id (rows entries) ≡ value_of id entries
first_is id [] = refl
first_is id (e ∷ es) = by_test (bytes_eq e.0 id) (λ is. rw is refl) (λ is. rw is (first_is id es))

values_same : (entries : List Entry) → values_in (rows entries) ≡ values_of entries
values_same entries =
    rw (
      first_is number entries,
      first_is (codes "workers") entries,
      first_is (codes "granules") entries,
      first_is (codes "events") entries,
      first_is (codes "seed") entries,
    ) refl

abbrev AreProper : List Form → Type 0
AreProper [] = Unit {0}
AreProper (f ∷ fs) = IsProper f × AreProper fs

forms_proper : AreProper forms
forms_proper =
    let it : (f : Form) → is_option f number ≡ false → is_option f [] ≡ false → IsProper f = λ f a u. record { apart = a; unnamed = u } in
    (it _ refl refl, (it _ refl refl, (it _ refl refl, (it _ refl refl, (it _ refl refl, (it _ refl refl, (it _ refl refl, tt)))))))

proper_of : (fs : List Form) → AreProper fs → (w : Word) (f : Form) → find (λ f. bytes_eq f.name w) fs ≡ Some f → IsProper f
proper_of [] all w f e = absurd (none-some f e)
proper_of (g ∷ gs) all w f e = by_test (bytes_eq g.name w) (λ is. subst IsProper (same_Some g f (rw is at e)) all.0) (λ is. proper_of gs all.1 w f (rw is at e))

read_as : (name : Word) (rs : List Row) (o : Option (List Entry)) → Some rs ≡ option_map rows o
    → command_of name (values_in rs) ≡ option_and_then (λ entries. command_of name (values_of entries)) o
read_as name rs None e = absurd (none-some rs (sym e))
read_as name rs (Some entries) e = ap (command_of name) (ap values_in (same_Some rs (rows entries) e) ∙ values_same entries)

not_read : (name : Word) (o : Option (List Entry)) → None ≡ option_map rows o → option_and_then (λ entries. command_of name (values_of entries)) o ≡ None
not_read name None e = refl
not_read name (Some entries) e = absurd (none-some (rows entries) e)

-- where clap takes the words, its matches give the command
pub accepted : (words : List Word) → list_all is_plain words ≡ true → fault_of line words ≡ [] → command_in (subcommand_of line words) ≡ commands words
accepted [] plain none = refl
accepted (w ∷ ws) plain none = go (form_of w) refl
  where
    go : (o : Option Form) → form_of w ≡ o → command_in (subcommand_of line (w ∷ ws)) ≡ commands (w ∷ ws)
    go None e = absurd (top_refuses w ws (both_true (is_plain w) (list_all is_plain ws) plain).0 e none)
    go (Some f) e =
        let passes : level f ws ≡ [] = sym (top_fault w ws f e) ∙ none in
        let given = ap (λ k. gate k (Some (rows_after (rules_of f) [] ws))) (sym passes)
        ∙ level_reads f (proper_of forms forms_proper w f e) ws (both_true (is_plain w) (list_all is_plain ws) plain).1 in
        ap command_in (top_rows w ws f e) ∙ (read_as f.name (rows_after (rules_of f) [] ws) (entries_of f ws) given ∙ sym (ap (option_and_then (command_behind ws)) e))

-- where it refuses them, they are no command
pub refused : (words : List Word) → list_all is_plain words ≡ true → (fault_of line words ≡ [] → ⊥) → None ≡ commands words
refused [] plain some = refl
refused (w ∷ ws) plain some = go (form_of w) refl
  where
    shut : (f : Form) (k : Kinds) → (k ≡ [] → ⊥) → gate k (Some (rows_after (rules_of f) [] ws)) ≡ None
    shut f [] some = absurd (some refl)
    shut f (k ∷ ks) some = refl

    go : (o : Option Form) → form_of w ≡ o → None ≡ commands (w ∷ ws)
    go None e = sym (ap (option_and_then (command_behind ws)) e)
    go (Some f) e =
        let given = sym (shut f (level f ws) (λ none. some (top_fault w ws f e ∙ none)))
        ∙ level_reads f (proper_of forms forms_proper w f e) ws (both_true (is_plain w) (list_all is_plain ws) plain).1 in
        sym (ap (option_and_then (command_behind ws)) e ∙ not_read f.name (entries_of f ws) given)

-- ---- words that are not plain

plain_names : (fs : List Form) → list_all (λ f. is_plain f.name) fs ≡ true → (w : Word) → is_plain w ≡ false → find (λ f. bytes_eq f.name w) fs ≡ None
plain_names [] all w not = refl
plain_names (f ∷ fs) all w not =
    by_test (bytes_eq f.name w)
    (λ is. absurd (true≢false (sym (both_true (is_plain f.name) _ all).0 ∙ (ap is_plain ((bytes_eq-Decides f.name w).0 is) ∙ not))))
    (λ is. rw is (plain_names fs (both_true (is_plain f.name) _ all).1 w not))

unread : (f : Form) → IsProper f → (r : Option Reading) (ws : List Word) → list_all is_plain ws ≡ false → ended (fold (next f) r ws) ≡ None
unread f proper r [] e = absurd (true≢false e)
unread f proper r (w ∷ ws) e =
    by_test (is_plain w) (λ is. unread f proper (next f r w) ws (rw is at e)) (λ is. ap (λ x. ended (fold (next f) x ws)) (not_plain f r w is proper.unnamed) ∙ none_ends f ws)

pub unplain : (words : List Word) → list_all is_plain words ≡ false → None ≡ commands words
unplain [] e = refl
unplain (w ∷ ws) e = by_test (is_plain w) (λ is. behind is (form_of w) refl) (λ is. sym (ap (option_and_then (command_behind ws)) (plain_names forms refl w is)))
  where
    behind : is_plain w ≡ true → (o : Option Form) → form_of w ≡ o → None ≡ commands (w ∷ ws)
    behind is None found = sym (ap (option_and_then (command_behind ws)) found)
    behind is (Some f) found =
        sym (ap (option_and_then (command_behind ws)) found
        ∙ ap (option_and_then (λ entries. command_of f.name (values_of entries))) (unread f (proper_of forms forms_proper w f found) (Some nothing_read) ws (rw is at e)))
