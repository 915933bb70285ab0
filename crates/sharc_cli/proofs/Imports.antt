-- What the proofs cite of std, of other crates and of this crate's definitions, passed on from one place.
pub use Rattle.clap.proofs.{FaultLemmas.stopped_fault, WalkLemmas.{first_value-rows, walk_stopped}}
unfoldable pub use Rattle.clap.proofs.OnLiterals.{clap_on_literals}
pub use Rattle.clap.specs.{Built.AddsArg, Faults.{check_fault, entered_fault, fault_of, is_simple_and_free, level_fault, settle_fault, turn_fault, use_fault}, Kinds.{HasKind, Kinds, or_else}, Lexer.{long_of, short_of}, Matches.{first_value, found_of, subcommand_name_of}, Simple.{HasMatchesOf, Shape, app_of, built, entered, filled, is_simple, label_of, names_of, new_app, new_rule, new_shape, rows_at, subcommand_of, subcommand_rows_of, with_index, with_rule}, Takes.is_given, Values.kind_of, Walk.{Held, Names, Row, Rule, Text, Walk, answers_to, arg_by_id, arg_by_index, arg_by_long, at_row, finished, first_of, has_row, idle, is_pending, more_values, nothing_held, option, reading_by, rows_after, rows_of, rule_of, settled, settled_rows, subcommand_met, used, walk, walk_from, with_default}, declared.builder.arg.Arg.Arg, declared.builder.command.Command.Command, declared.builder.command.Command.TheViews.{out-Command as fields_of}, declared.error.Error.Error, declared.error.kind.ErrorKind.ErrorKind, declared.parser.matches.ArgMatches.ArgMatches, declared.parser.matches.ArgMatches.TheViews.out-ArgMatches, declared.parser.matches.Found.Found, declared.parser.matches.ValueSource.TheVariants.CommandLine}
unfoldable pub use Rattle.clap.specs.{Faults.{defaults_fault, walk_fault}, Walk.walked}
pub use Rattle.std.proofs.{Common.{Bool, Bor, Err, List, None, OkIff, Option, Result, Some, [], ap, append_assoc, ap₂, arith, codes, cond, drop, false, find, get_or, inl, inr, is_some, length, lt_of_le_of_lt, map, nat_le, nat_lt, not, one-add, refl, string_bytes, subst, suc, sym, take, take_all, true, zero, ℕ, ◌&&◌, ◌++◌, ◌+◌, ◌<◌, ◌==◌, ◌^◌, ◌||◌, ◌∙◌, ◌∷◌, ◌≡◌, ◌≤◌, ◌⊎◌}, lemmas.Bool.{and_parts, eqb-true, false≢true, leb-true, lt-ltb, true≢false}, lemmas.List.{append-nil, get_or_default}, lemmas.List.Folds.list_any-append, lemmas.Option.{none-some, same_Some}, lemmas.Result.IfOk-weaker, lemmas.Slice.Eq.bytes_eq-Decides, lemmas.Str.Parse.{IsNumeralModel, numerals_by_value, parse_digits, tells_all_ascii_digits}}
pub use Rattle.std.specs.{Char.is_ascii_digit, List.{after_first, before_first, list_all, list_any, position_or_len}, Option.option_map_or, Prelude.{IfSome, fold, if◌then◌else◌, option_and_then, option_map}, Str.{all_ascii_digits, bytes_eq}, Str.Parse.{ParsesUnsigned, digits_value}}
pub use Rattle.sharc_lemmas.proofs.{Bools.{and_false, and_left as and_first, and_right as and_second, both, not_true as opposite, or_false}, Numbers.le_true, Options.{bind_some as some_of}}
pub use Rattle.sharc_cli.specs.{Bounds.{AreWithin, IsWithin}, Commands.{Entry, Form, Reading, Values, Word, behind, command_behind, command_of, commands, ended, entries_of, forms, granules_of, has, has_hyphen, is_equals, is_number, is_option, load_of, name_and_value, next, next_by, nothing_read, number, number_in, number_or, option_of, record_of, run_of, seed_of, value_of, values_of, with_entry, with_option, workers_of}, Line.{IsSubcommand, command_in, is_plain, line, number_argument, option_argument, seen, subcommand_with, values_in}, Written.{Argument, IsCommand, Once, Takes, TakesAll, all_words, alone, apart, entry_of, form_of, joined, words_of}}
