-- What the proofs cite of std, of other crates and of this crate's definitions, passed on from one place.
pub use Rattle.std.proofs.{Common.{Bool, Contains, Global, HoldsAt, IfSome, List, None, Option, Some, Vec, [], ap, append-nil, append_assoc, arith, cond, drop, false, get_or, inl, inr, length, length-append, length-drop, max, refl, rules, subst, subst₂, suc, sym, take, true, zero, ℕ, ⊎_elim, ◌*◌, ◌++◌, ◌+◌, ◌-◌, ◌<◌, ◌∙◌, ◌∷◌, ◌≡◌, ◌≤◌}, Math.Seq.{drop-append_seam, take-append_seam}, lemmas.Bool.{cases_lt, false≢true, le-leb, leb-false, leb-true, lt-leb, true_from_ne_false as must, true≢false}, lemmas.Bool.Decides.eqb_tells, lemmas.List.{at_drop_more, drop_all, drop_more, length-map, take-append-drop}, lemmas.List.Elements.Contains-append_right}
pub use Rattle.std.specs.{List.AllPairs, Prelude.{Err, Ok, Result, insert, map, nat_le, pos, replicate, ◌==◌, ◌≢◌, ◌⊎◌}}
pub use Rattle.sharc_lemmas.proofs.Numbers.{le_true2 as le_true, test_down}
pub use Rattle.sharc_tree.specs.{Children.{view_arguments-push, view_statements-push}, Low.{AllLowTypes, IsLow, LowDeclarations, LowExpression, LowFirst, LowForm, LowHead, LowItem, LowItems, LowLocal, LowRight, LowSimple, LowStatement, LowStatements, LowType, LowTypes, NoModes as NoModesOf, is_call as is_call_of, is_cast, is_statement, is_unary, low_height, low_highest, stars}, Marks.{AreMarks, Mark, Stand, a_cast, a_name, arguments_marks, base_marks, declaration_marks, declarations_marks, first_marks, head_marks, item_marks, items_marks, keyword_marks, kind_marks, level_marks, levels_marks, local_marks, marks, marks_from, mode_marks, name_marks, number_of, option_marks, right_marks, simple_marks, statement_marks, statements_marks, type_marks}, Placed.{AllPlaced, Follow, IsSite, IsSpan, IsWhole, Placed, PlacedDeclaration, PlacedDeclarations, PlacedFirst, PlacedHead, PlacedItem, PlacedItems, PlacedLocal, PlacedRight, PlacedSimple, PlacedStatement, PlacedStatements, PlacedType, argument_spans, declaration_spans, first_spans, form_spans, head_spans, item_spans, option_spans, point, site_of as site_of_token, statement_spans}, Spans.{span_of, span_of_item, span_of_right, span_of_simple, span_of_statement}, Tree.{Program, for, if_then, if_then_else, while}, View.{view_arguments, view_expr, view_first, view_head, view_item, view_items, view_option, view_program, view_simple, view_statements, view_stmt}, declared.ctype.Base.Base, declared.ctype.Mode.Mode, declared.token.FaultAt.FaultAt, declared.token.Keyword.Keyword, declared.token.Keyword.TheVariants.Scast, declared.token.Number.Number, declared.token.NumberType.TheVariants.Int, declared.token.Punctuator.TheVariants.{Ampersand, AndAnd, Arrow, Assign, CloseBrace, CloseBracket, CloseParenthesis, Comma, Dot, Exclamation, Less, Minus, OpenBrace, OpenBracket, OpenParenthesis, OrOr, Plus, Semicolon, Star, Tilde}, declared.token.Site.Site, declared.token.Span.Span, declared.token.Token.Token, declared.token.TokenKind.TokenKind, declared.token.Tokens.Tokens, declared.tree.declaration.Declaration.Declaration, declared.tree.declaration.Identifier.Identifier, declared.tree.declaration.WrittenType.WrittenType, declared.tree.expression.BinaryOperator.BinaryOperator, declared.tree.expression.Constant.Constant, declared.tree.expression.Expr.Expr, declared.tree.expression.FieldOperator.FieldOperator, declared.tree.expression.PlaceCall.PlaceCall, declared.tree.expression.UnaryOperator.UnaryOperator, declared.tree.expression.UnaryOperator.TheVariants.{Complement, Dereference, Negate, Not}, declared.tree.expression.ValueCall.ValueCall, declared.tree.item.Item.Item, declared.tree.statement.ForFirst.ForFirst, declared.tree.statement.ForHead.ForHead, declared.tree.statement.Jump.Jump, declared.tree.statement.Simple.Simple, declared.tree.statement.Stmt.Stmt}
pub use Rattle.sharc_parse.specs.{Faults.{IsFault, wrong_code}, Fields.declared, Forms.{IsSigned, NoNumber, NoSigned, with_form}, Goes.{Builds, Goes, IsAt, IsPlaced, LiesAtTokens, NoAccess, NoCall, NoConstant, NoFront, NoMalloc, NoName, NoUnary, NotAt, Past, StandsFront, after_front, bare_front, from, front_tree, front_word}, Grammar.{Callable, Declared, Declaring, Doing, EndsAt, FirstFault, FitAll, FitAllAs, FitAllDeclaring, Fits, FitsAs, FitsBottom, FitsCount, FitsDoing, FitsFields, FitsForm, FitsFront, FitsInitial, FitsLevels, FitsLine, FitsList, FitsOpening, FitsOption, FitsPart, FitsStep, FitsType, FitsValue, Form, Front, IsPlain, IsProgram, Line, Loop, NoModes, Opening, Part, Phrase, Phrases, Sentence, Sentences, Sharing, Typing, Value, Word, access_mark, array, assign, base_words, binary, block, bottom_words, call, character, constant, constant_word, count_words, declares, declaring_words, does, doing_words, dynamic, else_of, enclosed, field, fields_words, for_of, form_words, front_level, front_words, function, further_words, global, identifier, if_of, index, initial_words, initially, invoke, is_call, is_declaration, is_declaring, jump, jump_word, keyword, left_out, level, level_words, levels_words, line, line_words, list_words, locked, locked_through, loop_words, malloc, mark, more, name, no_more, none, nothing, number, of_cast, of_place, of_spawn, of_value, opening_words, operator_mark, option_words, parameters_words, parenthesis, part_words, private, program_words, racy, readonly, return, sentence, sharing_words, single, step_words, strength, structure, takes_else, type_words, unary, unary_mark, under, value, value_words, while_of, words, words_of_all, words_of_rest, written, written_all}, Heads.{IsHeadPlaced, IsStepPlaced, IsTailPlaced, ReadsHead, ReadsStep, ReadsTail, Tail, bare_head, before_tail, behind_tail, by_return, by_test, head_of, step_of, tail_place}, Items.{IsItemPlaced, OpensStruct, ReadsFunction, ReadsItem, ReadsNamed, part_of}, Limits.{BeginsWithin, Exceeds, Few, FewAll, FewFront, FewGiven, FewStars, FirstExcess, FirstWrong, Limited, Low, LowAll, LowDoing, LowInitial, LowLine, LowOpening, LowOption, LowPart, LowProgram, LowSentence, LowStep, LowValue, Over, ReadWithin, StuckAt, around_it, crowded, crowded_doing, crowded_line, crowded_place, deepest, depth, height, highest, lifted, line_nesting, nesting, nesting_before, next_within, over, over_at, over_cast, over_core, over_done, over_place, over_start, reads_within, stars_in}, Lines.{HasBase, IsLinePlaced, MeetsLocal, MeetsType, ReadsLine, is_yes, line_of, line_within, starts_line, starts_operand}, Locals.{EndsInitial, IsDeclarationPlaced, IsPlainAt, IsPlainPlace, ReadsDeclaration, initial_state, struct_type, void_type}, Machine.{Accessing, ArrayWant, Asked, At, Called, Calling, Cont, Core, DoingPlace, Done, Dotted, Ending, ExpressionPlace, Fields, Fixed, ForOpen, ForStep, ForTest, Have, Indexing, InitialNegative, InitialWant, LinePlace, Malloced, ModeFirst, ModePlace, NamePlace, Named, Operating, Outcome, Outer, PathNamed, PathThrough, PathWant, Read, Returning, Role, Spawning, Start, State, StructWant, Stuck, Top, TypePlace, TypeWant, Typed, ValuePlace, Valued, Want, a_brace, a_bracket, a_close, a_comma, a_semicolon, a_sizeof, an_ampersand, an_open, argument_end, arguments, array_want, as_first, as_statement, as_step, asked, at_level, base_step, based, before_base, begin_type, beneath, body, by_if, by_while, called, casting, close_block, close_type, comma_step, condition, condition_end, core_finish, core_step, counted, counting, declaring_of, doing_end, done, dotted, end_at, field_of, fields, finish, first_state, fixed_word, fixed_words, floor, for_step, for_test, front_end, fronted, function_of, grip, grip_of, have, holds_items, in_line, index_end, indexing, initial_negative, initial_want, inside, is_else, is_fixed, items, joined, leave, level_step, line_start, lined, local, local_end, local_line, loop, malloced, mallocs, may_declare, mode_step, moded, name_step, named, named_field, named_local, named_parameter, named_top, naming, of_doing, of_local, on_top, open_call, open_type, or_else, parameter_of, part, path_named, path_through, path_want, reads, reads_at, return_end, returned, returning, right_of, role, settle, shift, sizing, spawning, start, step, struct_want, subject, subject_end, takes_modes, test_end, testing, then_on, to, typed, typing_of, value_end, valued, want, with_declaring, with_item, with_last, with_part}, Nested.{IsOpen, ReadsStatements, closed, holding}, Operators.{floor_most, operating, role_binary, role_unary, settle_stops, weak}, Parameters.{AreParametersPlaced, IsFirstPlaced, ReadsFirst, ReadsParameters}, Places.{Reads, all_size, arguments_at, base_name, base_place, base_size, bottom_at, count_size, declaration_at, declarations_at, declaring_size, doing_at, doing_size, expression_at, fields_size, first_at, form_at, form_size, front_at, front_size, function_at, head_at, initial_at, initial_size, item_at, items_at, kind_word, level_at, level_size, levels_at, levels_size, line_at, line_size, local_at, local_size, mode_at, name_at, opening_size, option_at, option_size, parameters_size, part_size, rest_size, sentence_size, sharing_size, site_in, site_of, size, sizes, span_at, statement_at, statements_at, step_at, step_size, type_at, type_size, under_at, value_at, value_size, word_of, words_of}, Programs.{Completes, IsFaultOf, IsToldAt, Parses, ReadsItems, Refuses, code_of, parts_of, told_of}, Rights.{EndsValue, option_of, value_within, valued_state}, Simples.{EndsDoing, doing_state, doing_within}, Statements.{BuildsStatement, IsRestPlaced, IsStatementPlaced, ReadsReturn, ReadsStatement, bare_statement, sentence_of, sentences_of}, Types.{EndsBottom, EndsLevel, EndsLevels, EndsType, HasMode, IsBottomPlaced, IsModePlaced, IsModeRestPlaced, IsTypePlaced, NoBase, NoMode, ReadsBottom, ReadsCast, ReadsLevel, ReadsType, after_mode, base_within, base_word, may_stand, mode_within, mode_word, typed_levels, typed_state}, View.{bare, bare_declaration, bare_level, bare_type, phrase_of, phrases_of}, Words.{IsConditionPlaced, NoStatement, after_word, room_of, statement_word}, declared.expr.Front.{Front as ParsedFront}, declared.fault.GrammarFault.GrammarFault, declared.fault.GrammarFault.TheVariants.Deep, declared.program.ParseFault.ParseFault, declared.program.ParseFault.TheVariants.{At as FaultOf}, declared.program.TokenRefusal.TokenRefusal, declared.token.FrontWord.FrontWord, declared.token.ParsedExpr.ParsedExpr, declared.token.ReadingFault.ReadingFault, declared.token.ReadingFault.TheVariants.{Memory, Wrong}, declared.types.BaseWord.BaseWord, declared.types.Bottom.Bottom, declared.types.ModeWord.ModeWord, declared.word.StatementWord.StatementWord, declared.word.StatementWord.TheVariants.{Break, Continue, For, If, Return, While}}
