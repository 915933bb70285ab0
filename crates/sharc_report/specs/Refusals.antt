-- The line that says where and why a source is refused.
use Rattle.std.specs.Prelude.{ℕ, ◌==◌, List, ◌++◌, length, codes, decimal, if◌then◌else◌}
use Rattle.sharc_lex.specs.declared.fault.TokenFault.{TokenFault as LexerFault}
use Rattle.sharc_lex.specs.declared.fault.TokenFault.TheVariants.{Byte, Number, Marker, Identifier, Character}
use Rattle.sharc_lex.specs.Faults as lexer
use Rattle.sharc_parse.specs.declared.fault.GrammarFault.{GrammarFault}
use Rattle.sharc_parse.specs.declared.fault.GrammarFault.TheVariants.{Unexpected, Deep, LeftOut}
use Rattle.sharc_parse.specs.Faults as parser
use Rattle.sharc_names.specs.declared.fault.FaultCode.{FaultCode}
use Rattle.sharc_names.specs.declared.fault.FaultCode.TheVariants.{UnknownName, DefinedTwice, TypeMismatch}
use Rattle.sharc_names.specs.declared.fault.FaultCode.TheVariants.{ArgumentCount, NoLvalue, TypeNotAllowed, BadForm}
use Rattle.sharc_names.specs.declared.fault.FaultCode.TheVariants.{NoMain, LimitPassed}
use Rattle.sharc_names.specs.Notes as typing
use Rattle.sharc_report.specs.declared.refusal.SourceFault.{SourceFault}
use Rattle.sharc_report.specs.declared.refusal.SourceFault.TheVariants.{Lexer, Parser, Typing}

-- in single quotes
abbrev pub quoted : List ℕ → List ℕ
quoted text = codes "'" ++ text ++ codes "'"

abbrev pub at_offset : ℕ → List ℕ
at_offset offset = codes " at offset " ++ decimal offset

-- L1 to L5 at an offset
abbrev pub lexer_message : LexerFault → ℕ → List ℕ
lexer_message (Byte b) offset = codes "byte " ++ decimal b ++ at_offset offset
lexer_message Number offset = codes "number" ++ at_offset offset
lexer_message Marker offset = codes "line marker" ++ at_offset offset
lexer_message Identifier offset = codes "identifier over 64 bytes" ++ at_offset offset
lexer_message Character offset = codes "character constant" ++ at_offset offset

-- a token, which has no text at the end of input
abbrev pub unexpected : List ℕ → List ℕ
unexpected token = codes "unexpected " ++ (if length token == 0 then codes "end of input" else quoted token)

-- P1 to P3 at a token
abbrev pub parser_message : GrammarFault → List ℕ → List ℕ
parser_message Unexpected token = unexpected token
parser_message Deep token = codes "nesting over 64"
parser_message LeftOut token = codes "left out " ++ quoted token

-- C1 to C9 of a name
abbrev pub typing_message : FaultCode → List ℕ → List ℕ
typing_message UnknownName name = codes "unknown name " ++ name
typing_message DefinedTwice name = name ++ codes " defined twice"
typing_message TypeMismatch name = codes "type mismatch"
typing_message ArgumentCount name = codes "wrong number of arguments for " ++ name
typing_message NoLvalue name = codes "not an lvalue"
typing_message TypeNotAllowed name = codes "type not allowed here"
typing_message BadForm name = codes "bad form of " ++ name
typing_message NoMain name = codes "no int main(void)"
typing_message LimitPassed name = codes "limit passed by " ++ name

-- file:line: code
abbrev pub head_of : List ℕ → ℕ → List ℕ → ℕ → List ℕ
head_of file line letter digit = file ++ codes ":" ++ decimal line ++ codes ": " ++ letter ++ decimal digit ++ codes " "

-- file:line: code message
abbrev pub refusal_line : SourceFault → List ℕ
refusal_line (Lexer at) =
    head_of at.file at.line (codes "L") (lexer.digit_of at.code) ++ lexer_message at.code at.offset ++ codes "\n"
refusal_line (Parser at) =
    head_of at.file at.line (codes "P") (parser.digit_of at.code) ++ parser_message at.code at.text ++ codes "\n"
refusal_line (Typing at) =
    head_of at.file at.line (codes "C") (typing.digit at.code) ++ typing_message at.code at.text ++ codes "\n"
