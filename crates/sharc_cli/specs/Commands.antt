-- Which lists of words are a command.
use Rattle.std.specs.Prelude.{ℕ, Bool, true, false, ◌&&◌, ◌==◌, nat_le, if◌then◌else◌, List, [], ◌∷◌, ◌++◌, length}
use Rattle.std.specs.Prelude.{fold, find, codes, Option, Some, None, option_map, option_and_then}
use Rattle.std.specs.{List.{list_any, before_first, after_first}, Str.{bytes_eq, all_ascii_digits}}
use Rattle.std.specs.Str.Parse.{digits_value}
use Rattle.sharc_cli.specs.declared.command.Command.{Command}
use Rattle.sharc_cli.specs.declared.command.Command.TheVariants as command

abbrev pub Word : Type 0
Word = List ℕ

-- ---- numbers

-- 1 to 20 decimal digits
abbrev pub is_number : Word → Bool
is_number w = nat_le 1 (length w) && (nat_le (length w) 20 && all_ascii_digits w)

-- the number that the word writes, where it lies within the bounds
abbrev pub number_in : ℕ → ℕ → Word → Option ℕ
number_in low high w =
    if is_number w && (nat_le low (digits_value 10 w) && nat_le (digits_value 10 w) high) then Some (digits_value 10 w)
    else None

-- the number of an option, which may be left out
abbrev pub number_or : ℕ → ℕ → ℕ → Option Word → Option ℕ
number_or default low high None = Some default
number_or default low high (Some w) = number_in low high w

-- ---- words

-- what follows this first byte
abbrev pub behind : ℕ → Word → Option Word
behind b [] = None
behind b (x ∷ xs) = if x == b then Some xs else None

abbrev pub has_hyphen : Word → Bool
has_hyphen [] = false
has_hyphen (x ∷ xs) = x == 45

abbrev pub is_equals : ℕ → Bool
is_equals x = x == 61

abbrev pub name_and_value : Word → Word × Option Word
name_and_value text =
    (before_first is_equals text, if list_any is_equals text then Some (after_first is_equals text) else None)

-- `--name` or `--name=value`: the name, and the value where there is one
abbrev pub option_of : Word → Option (Word × Option Word)
option_of w = option_map name_and_value (option_and_then (behind 45) (behind 45 w))

-- ---- what follows a command

-- a command's name, its options, and whether a number is written by itself after it
pub record Form : Type 0 where
  pub name : Word
  pub options : List Word
  pub has_number : Bool

-- a value under the name of its option, or under `number` a word that is by itself
abbrev pub Entry : Type 0
Entry = Word × Word

abbrev pub number : Word
number = codes "number"

abbrev pub has : Word → List Entry → Bool
has name entries = list_any (λ e. bytes_eq e.0 name) entries

abbrev pub is_option : Form → Word → Bool
is_option f name = list_any (λ n. bytes_eq n name) f.options

-- the entries so far, and the option whose value is to follow
pub record Reading : Type 0 where
  pub entries : List Entry
  pub waiting : Option Word

-- each name comes once at most
abbrev pub with_entry : Word → Word → List Entry → Option Reading
with_entry name value entries =
    if has name entries then None else Some (record { entries = entries ++ (name, value) ∷ []; waiting = None })

abbrev pub with_option : Form → Option (Word × Option Word) → List Entry → Option Reading
with_option f None entries = None
with_option f (Some (name, Some value)) entries = if is_option f name then with_entry name value entries else None
with_option f (Some (name, None)) entries =
    if is_option f name then Some (record { entries = entries; waiting = Some name }) else None

-- one more word: no value begins with a hyphen unless it is written after `=`
abbrev pub next_by : Form → Option Word → Word → List Entry → Option Reading
next_by f (Some name) w entries = if has_hyphen w then None else with_entry name w entries
next_by f None w entries =
    if has_hyphen w then with_option f (option_of w) entries
    else (if f.has_number then with_entry number w entries else None)

abbrev pub next : Form → Option Reading → Word → Option Reading
next f None w = None
next f (Some r) w = next_by f r.waiting w r.entries

abbrev pub ended : Option Reading → Option (List Entry)
ended None = None
ended (Some r) = ended_by r.waiting r.entries
  where
    ended_by : Option Word → List Entry → Option (List Entry)
    ended_by None entries = Some entries
    ended_by (Some name) entries = None

abbrev pub nothing_read : Reading
nothing_read = record { entries = []; waiting = None }

abbrev pub entries_of : Form → List Word → Option (List Entry)
entries_of f words = ended (fold (next f) (Some nothing_read) words)

-- ---- the commands

abbrev pub forms : List Form
forms =
    record { name = codes "check"; options = []; has_number = false }
    ∷ record { name = codes "explain"; options = []; has_number = false }
    ∷ record {
      name = codes "run";
      options = codes "workers" ∷ codes "granules" ∷ codes "events" ∷ codes "seed" ∷ [];
      has_number = false;
    }
    ∷ record { name = codes "load"; options = codes "workers" ∷ []; has_number = true }
    ∷ record {
      name = codes "record";
      options = codes "workers" ∷ codes "granules" ∷ codes "events" ∷ [];
      has_number = false;
    }
    ∷ record { name = codes "replay"; options = []; has_number = false }
    ∷ record { name = codes "audit"; options = []; has_number = false }
    ∷ []

abbrev pub value_of : Word → List Entry → Option Word
value_of name entries = option_map (λ e. e.1) (find (λ e. bytes_eq e.0 name) entries)

-- the values of a command's words
pub record Values : Type 0 where
  pub number : Option Word
  pub workers : Option Word
  pub granules : Option Word
  pub events : Option Word
  pub seed : Option Word

abbrev pub values_of : List Entry → Values
values_of entries = record {
  number = value_of number entries;
  workers = value_of (codes "workers") entries;
  granules = value_of (codes "granules") entries;
  events = value_of (codes "events") entries;
  seed = value_of (codes "seed") entries;
}

abbrev pub workers_of : Values → Option ℕ
workers_of v = number_or 4 1 16 v.workers

abbrev pub granules_of : Values → Option ℕ
granules_of v = number_or 4096 16 65536 v.granules

abbrev pub seed_of : Option Word → Option (Option ℕ)
seed_of None = Some None
seed_of (Some w) = option_map (λ n. Some n) (number_in 0 18446744073709551615 w)

abbrev pub run_of : Values → Option Command
run_of v = option_and_then (λ workers. option_and_then (λ granules. option_and_then (λ events.
    option_map (λ seed. command.Run workers granules events seed) (seed_of v.seed))
    (number_or 1000000 1 100000000 v.events)) (granules_of v)) (workers_of v)

abbrev pub load_of : Values → Option Command
load_of v = option_and_then (λ n. option_map (λ workers. command.Load n workers) (workers_of v))
    (option_and_then (number_in 1 10000) v.number)

abbrev pub record_of : Values → Option Command
record_of v = option_and_then (λ workers. option_and_then (λ granules.
    option_map (λ events. command.Record workers granules events) (number_or 100000 1 200000 v.events))
    (granules_of v)) (workers_of v)

-- the command of this name with these values
abbrev pub command_of : Word → Values → Option Command
command_of name v =
    if bytes_eq name (codes "check") then Some command.Check
    else (if bytes_eq name (codes "explain") then Some command.Explain
    else (if bytes_eq name (codes "run") then run_of v
    else (if bytes_eq name (codes "load") then load_of v
    else (if bytes_eq name (codes "record") then record_of v
    else (if bytes_eq name (codes "replay") then Some command.Replay
    else (if bytes_eq name (codes "audit") then Some command.Audit
    else None))))))

abbrev pub command_behind : List Word → Form → Option Command
command_behind words f = option_and_then (λ entries. command_of f.name (values_of entries)) (entries_of f words)

-- the command that the words are, or nothing
abbrev pub commands : List Word → Option Command
commands [] = None
commands (w ∷ words) = option_and_then (command_behind words) (find (λ f. bytes_eq f.name w) forms)
