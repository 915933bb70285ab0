-- The command line as clap's command.
use Rattle.std.specs.Prelude.{◌≡◌, option_and_then, option_map, Option, Bool, true, false, ◌&&◌, ◌==◌, nat_lt, length}
use Rattle.std.specs.Prelude.{slice_index, if◌then◌else◌, List, [], ◌∷◌, ◌++◌, map, codes, Some, None}
use Rattle.std.specs.Borrow.{Bor}
use Rattle.clap.specs.declared.builder.command.Command.{Command as ClapCommand}
use Rattle.clap.specs.declared.builder.command.Command.TheViews.{out-Command as fields_of}
use Rattle.clap.specs.Simple.{app_of, App, Shape, new_app, new_rule, new_shape, with_subcommand}
use Rattle.clap.specs.Walk.{Row, Rule, Text, first_of}
use Rattle.sharc_cli.specs.{Commands.{Form, Values, command_of, forms, number}, declared.command.Command.Command}

-- the argument of `--name`
abbrev pub option_argument : Text → Rule
option_argument name = record (new_rule name) { long = Some name }

abbrev pub arguments_of : Form → List Rule
arguments_of f = (if f.has_number then new_rule number ∷ [] else []) ++ map option_argument f.options

abbrev pub subcommand_of_form : Form → Shape
subcommand_of_form f = record (new_shape f.name) { rules = arguments_of f }

-- no hyphen first, or two and more: the other words clap would take as the end of the options or as short ones
abbrev pub is_plain : Text → Bool
is_plain w = if nat_lt 0 (length w) && slice_index w 0 == 45 then nat_lt 2 (length w) && slice_index w 1 == 45 else true

-- no help and no version
abbrev pub bare_line : App
bare_line = record (new_app (codes "sharc")) {
  top = record (new_shape (codes "sharc")) {
    no_binary_name = true;
    disable_help_flag = true;
    disable_help_subcommand = true;
    disable_version_flag = true;
  };
}

-- with seven subcommands
abbrev pub line : App
line = record {
  top = record bare_line.top { is_leaf = false };
  subs = map subcommand_of_form forms;
}

-- a subcommand with these options, and before them a number where it has one
abbrev pub number_argument : Option Text → List Rule
number_argument None = []
number_argument (Some n) = new_rule n ∷ []

abbrev pub subcommand_with : Text → Option Text → List Text → App
subcommand_with name number options = record {
  top = record (new_shape name) { rules = number_argument number ++ map option_argument options };
  subs = [];
}

-- a command line with that subcommand more
abbrev pub with_form : App → Text → Option Text → List Text → App
with_form a name number options = with_subcommand a (subcommand_with name number options).top

pub record IsSubcommand (c : ClapCommand) (name : Text) (number : Option Text) (options : List Text) : Type 0 where
  pub local : (fields_of c).has_globals ≡ false
  pub app : app_of c ≡ subcommand_with name number options

-- ---- what is read from the matches

-- the values behind references
abbrev pub seen : Option (Bor Text) → Option (Bor Text) → Option (Bor Text) → Option (Bor Text) → Option (Bor Text)
    → Values
seen number workers granules events seed = record {
  number = option_map (λ s. s.now) number;
  workers = option_map (λ s. s.now) workers;
  granules = option_map (λ s. s.now) granules;
  events = option_map (λ s. s.now) events;
  seed = option_map (λ s. s.now) seed;
}

abbrev pub values_in : List Row → Values
values_in rows = record {
  number = first_of number rows;
  workers = first_of (codes "workers") rows;
  granules = first_of (codes "granules") rows;
  events = first_of (codes "events") rows;
  seed = first_of (codes "seed") rows;
}

abbrev pub command_with : Text × List Row → Option Command
command_with p = command_of p.0 (values_in p.1)

abbrev pub command_in : Option (Text × List Row) → Option Command
command_in = option_and_then command_with
