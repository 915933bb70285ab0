-- What the proofs cite of std, of other crates and of this crate's definitions, passed on from one place.
pub use Rattle.std.proofs.{Common.{Bool, Err, List, None, Ok, Option, Result, Some, [], ap, arith, codes, drop, false, if◌then◌else◌, is_ok, length, ok_or, pos, refl, slice_index_or, subst, suc, sym, take, true, zero, ℕ, ◌&&◌, ◌++◌, ◌+◌, ◌-◌, ◌<◌, ◌==◌, ◌∙◌, ◌∷◌, ◌≡◌}, lemmas.Bool.Decides.nat_tests}
pub use Rattle.std.specs.{List.{AllByRecursion, prefix_len, starts_with}, Prelude.{nat_eq, nat_le, nat_lt, not, option_map, slice_get, unwrap_or, ◌^◌, ◌||◌}, Str.bytes_eq}
pub use Rattle.sharc_lemmas.proofs.Lists.{both, of_each, place_of_element}
pub use Rattle.sharc_tree.specs.{Measures.{expressions, in_arguments, in_first, in_function, in_head, in_option, in_right, in_simple, in_statement, in_statements}, Tree.{Arguments, Expression, First, Function, Head, Right, Simple, Statement, Statements, argument, cast, declare, does_call, for, if_then, if_then_else, no_arguments, no_statements, on_place, on_value, parentheses, simple, spawn, statement, while}, declared.ctype.Base.Base, declared.token.FaultAt.FaultAt, declared.token.Keyword.Keyword, declared.token.Number.Number, declared.token.NumberType.TheVariants.{Int, Long}, declared.token.Punctuator.Punctuator, declared.token.Punctuator.TheVariants.{Assign, CloseBrace, CloseBracket, CloseParenthesis, Comma, OpenBrace, OpenBracket, OpenParenthesis, Percent, Semicolon, Star}, declared.token.Site.Site, declared.token.Span.Span, declared.token.Token.Token, declared.token.TokenKind.TokenKind, declared.token.Tokens.Tokens, declared.tree.expression.BinaryOperator.BinaryOperator, declared.tree.expression.Constant.Constant, declared.tree.expression.FieldOperator.FieldOperator, declared.tree.expression.PlaceCall.PlaceCall, declared.tree.expression.UnaryOperator.UnaryOperator, declared.tree.expression.UnaryOperator.TheVariants.Not, declared.tree.expression.ValueCall.ValueCall, declared.tree.item.GlobalDefinition.GlobalDefinition, declared.tree.item.GlobalForm.GlobalForm, declared.tree.item.GlobalForm.TheVariants.Initial, declared.tree.statement.Jump.Jump}
pub use Rattle.sharc_lex.specs.{Bytes.{is_blank, is_digit, is_letter, is_printable, is_white_space, is_word_byte}, Characters.{behind_backslash, character, escaped, plain}, Grammar.{Read, at_offset, behind_tokens, in_front, line_read, lines_of, lines_read, marked, marker_line, opening, text_line, token, tokens_of, tokens_read, with_place, with_tokens, ◌>>=◌}, Markers.{is_marker_line, marker}, Numbers.{has_suffix, small_value, typed, without_suffix}, Punctuators.{first_begun, punctuator, punctuators}, TokenAt.{number_at, of_len, token_at, word_at}, Words.{entry_at, word}, declared.fault.LineFault.LineFault, declared.fault.SourceLine.SourceLine, declared.fault.TokenFault.TokenFault, declared.token_at.Lexeme.Lexeme}
unfoldable pub use Rattle.sharc_lex.specs.{Grammar.reading, Words.keywords}
pub use Rattle.sharc_parse.specs.{Grammar.{Callable, Declared, Declaring, Doing, Form, Front, Line, Loop, Opening, Part, Phrase, Phrases, Sentence, Sentences, Sharing, Typing, Value, Word, access_mark, array, assign, base_words, binary, block, bottom_words, call, constant, constant_word, count_words, declares, declaring_words, does, doing_words, else_of, enclosed, field, fields_words, for_of, form_words, front_words, function, further_words, global, identifier, if_of, index, initial_words, initially, invoke, jump, jump_word, keyword, level_words, levels_words, line, line_words, list_words, locked, locked_through, loop_words, malloc, mark, more, name, no_more, none, nothing, number, of_cast, of_place, of_spawn, of_value, opening_words, operator_mark, option_words, parameters_words, parenthesis, part_words, program_words, return, sentence, sharing_words, sign_words, single, step_words, structure, type_words, unary, unary_mark, under, value, value_words, while_of, words, words_of_all, words_of_rest, written, written_all}, Places.{arguments_at, declaring_size, doing_at, expression_at, first_at, form_at, front_at, front_size, function_at, head_at, initial_at, items_at, kind_word, line_at, line_size, local_at, opening_size, option_at, option_size, part_size, sentence_size, site_in, size, span_at, statement_at, statements_at, step_at, value_at, word_of, words_of}}
pub use Rattle.sharc_ctype.specs.Resolved.{functions_in, globals_in}
pub use Rattle.sharc_schedule.specs.File.{schedule_word}
pub use Rattle.sharc_source_laws.specs.{Constants.{ConstantsAreHeld, EachConstantIsHeld, HeldIn, HeldInAll, HeldInFirst, HeldInHead, HeldInInitial, HeldInOption, HeldInRight, HeldInSimple, HeldInStatement, HeldInStatements, HeldInStep, IsHeld}, Laws.{NumbersHaveNoSign, ProgramsHoldNoEvents, ProgramsHoldNoSchedule}}
