-- What the proofs cite of std, of other crates and of this crate's definitions, passed on from one place.
pub use Rattle.indexmap.specs.IndexSet.{insert_key}
pub use Rattle.std.proofs.{Common.{Bool, Err, List, None, Ok, Option, Result, Some, [], add-one, add-zero, ap, append_assoc, arith, codes, cond, drop, drop-cons, false, get_or, get_or-drop, inl, inr, leb, length, length-append, length-drop, length-take, length-take-le, ltb, map, min, nat_eq as eqb, not, one-add, refl, rules, slice_index, subst, suc, sym, take, true, zero, ℕ, ◌&&◌, ◌*◌, ◌++◌, ◌+◌, ◌-◌, ◌<◌, ◌==◌, ◌^◌, ◌||◌, ◌∙◌, ◌∷◌, ◌≡◌, ◌≢◌, ◌≤◌, ◌⊎◌}, Math.Nat.mul-le-mul_left, Math.Seq.get_or-append_seam, lemmas.Bool.{and_parts, cases_Bool, cases_lt, eq-eqb, eqb-false, eqb-true, false≢true, le-leb, le-ltb, leb-false, leb-true, lt-leb, ltb-false, ltb-true, ne_eqb, not-true}, lemmas.Grind.common_steps, lemmas.List.{drop-drop, get_or_append_left, map-append, take-append-drop, take-append-le, take_all}, lemmas.List.Elements.{All-append, All-cons, All-contains, All-nil, All-weaker}, lemmas.List.Sums.{AllPass-from_list_all, count_by_more_no, count_by_more_yes, fails_before_first, passes_at_first, prefix_len-le-length}, lemmas.Result.err_from_is_err_and, lemmas.Slice.Eq.bytes_eq-Decides}
pub use Rattle.std.specs.{Borrow.Bor, Cmp.Lexicographic.pointwise, List.{count_by, list_all, list_any, position_or_len, prefix_len, starts_with}, Prelude.{All, Contains, IfOk, filter, ok_or, option_and_then, option_map}, Str.bytes_eq}
pub use Rattle.sharc_lemmas.proofs.Options.{bind_some}
pub use Rattle.sharc_tree.specs.{declared.token.FaultAt.FaultAt, declared.token.Token.Token, declared.token.TokenKind.TokenKind, declared.token.Tokens.Tokens}
pub use Rattle.sharc_lex.specs.{Bytes.{behind, is_blank, is_digit, is_letter, is_white_space, is_word_byte}, Characters.{behind_backslash, character, constant, plain}, Faults.Refuses, Files.{place_of, with_file}, Grammar.{IsWithin, Read, Steps, at_offset, behind_tokens, fault_at, in_front, line_read, lines_of, lines_read, marked, marker_line, opening, text_line, token, tokens_of, tokens_read, with_place, with_tokens, ◌>>=◌}, Laws.{AreTokensOf, Covers, IsBetween, IsConstant, IsFaultIn, IsLongest, IsRun, IsSlice, IsToken, TellsPlace, name_in}, Lines.{BeginsLine, NoMarker, StandsIn, line_at, marker_of, newlines}, Markers.{file_name, is_flag, is_marker_line, is_name_byte, line_number, marker}, Numbers.{digit_value, number, small_value, value_behind, with_digit}, Punctuators.{first_begun, pairs, punctuator, punctuators, quadruples, singles, triples}, Seen.read_of, TokenAt.{LiesIn, number_at, of_len, token_at, word_at}, Words.{entry_at, word}, declared.fault.LexFault.LexFault, declared.fault.LineFault.LineFault, declared.fault.SourceLine.SourceLine, declared.fault.TokenFault.TokenFault, declared.token_at.Lexeme.Lexeme}
unfoldable pub use Rattle.sharc_lex.specs.{Grammar.reading, Words.keywords}
