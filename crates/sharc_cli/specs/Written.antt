-- The commands once more, by how they are written: a command's name, and after it its arguments in any order, each
-- once.
use Rattle.std.specs.{Prelude.{◌≡◌, true, false, List, [], ◌∷◌, ◌++◌, map, find, codes, Option, Some}, Str.bytes_eq}
use Rattle.sharc_cli.specs.Commands.{Word, Form, Entry, forms, number, has, has_hyphen, is_option, command_of}
use Rattle.sharc_cli.specs.Commands.{values_of}
use Rattle.sharc_cli.specs.declared.command.Command.{Command}

-- the number of a command by itself, `--name value`, or `--name=value`
pub data Argument : Type 0 where
  alone : Word → Argument
  apart : Word → Word → Argument
  joined : Word → Word → Argument

abbrev pub words_of : Argument → List Word
words_of (alone value) = value ∷ []
words_of (apart name value) = (codes "--" ++ name) ∷ value ∷ []
words_of (joined name value) = (codes "--" ++ name ++ codes "=" ++ value) ∷ []

abbrev pub all_words : List Argument → List Word
all_words [] = []
all_words (a ∷ rest) = words_of a ++ all_words rest

-- the name that an argument gives a value, and the value
abbrev pub entry_of : Argument → Entry
entry_of (alone value) = (number, value)
entry_of (apart name value) = (name, value)
entry_of (joined name value) = (name, value)

-- A command takes its options, and a number by itself if it has one. A value that is a word of its own does not begin
-- with a hyphen.
abbrev pub Takes : Form → Argument → Type 0
Takes f (alone value) = (f.has_number ≡ true) × (has_hyphen value ≡ false)
Takes f (apart name value) = (is_option f name ≡ true) × (has_hyphen value ≡ false)
Takes f (joined name value) = is_option f name ≡ true

abbrev pub TakesAll : Form → List Argument → Type 0
TakesAll f [] = Unit {0}
TakesAll f (a ∷ rest) = Takes f a × TakesAll f rest

-- no name is given a value again
abbrev pub Once : List Entry → List Argument → Type 0
Once before [] = Unit {0}
Once before (a ∷ rest) = (has (entry_of a).0 before ≡ false) × Once (before ++ entry_of a ∷ []) rest

abbrev pub form_of : Word → Option Form
form_of name = find (λ f. bytes_eq f.name name) forms

-- the words are this command, with the numbers that its arguments give it
pub record IsCommand (words : List Word) (command : Command) : Type 0 where
  pub name : Word
  pub form : Form
  pub arguments : List Argument
  pub spelled : words ≡ name ∷ all_words arguments
  pub known : form_of name ≡ Some form
  pub taken : TakesAll form arguments
  pub once : Once [] arguments
  pub numbers : command_of form.name (values_of (map entry_of arguments)) ≡ Some command
