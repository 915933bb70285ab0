-- Words: keywords, left-out keywords and identifiers.
use Rattle.std.specs.Prelude.{ℕ, Bool, List, [], ◌∷◌, Option, Some, None, is_some, Result, Ok, Err, unwrap_or}
use Rattle.std.specs.Prelude.{if◌then◌else◌, nat_le, length, codes}
use Rattle.std.specs.Str.{bytes_eq}
use Rattle.sharc_tree.specs.declared.token.TokenKind.{TokenKind}
use Rattle.sharc_tree.specs.declared.token.TokenKind.TheVariants as kind
use Rattle.sharc_tree.specs.declared.token.Keyword.TheVariants as keyword
use Rattle.sharc_lex.specs.declared.fault.TokenFault.{TokenFault}
use Rattle.sharc_lex.specs.declared.fault.TokenFault.TheVariants as fault

-- what a table has at a text
abbrev pub entry_at : List (List ℕ × TokenKind) → List ℕ → Option TokenKind
entry_at [] text = None
entry_at (entry ∷ entries) text = if bytes_eq text entry.0 then Some entry.1 else entry_at entries text

-- the keywords of the subset, and those of C11 that it leaves out
unfoldable pub keywords : List (List ℕ × TokenKind)
keywords =
    (codes "int", kind.Keyword keyword.Int)
    ∷ (codes "char", kind.Keyword keyword.Char)
    ∷ (codes "long", kind.Keyword keyword.Long)
    ∷ (codes "void", kind.Keyword keyword.Void)
    ∷ (codes "struct", kind.Keyword keyword.Struct)
    ∷ (codes "if", kind.Keyword keyword.If)
    ∷ (codes "else", kind.Keyword keyword.Else)
    ∷ (codes "while", kind.Keyword keyword.While)
    ∷ (codes "for", kind.Keyword keyword.For)
    ∷ (codes "break", kind.Keyword keyword.Break)
    ∷ (codes "continue", kind.Keyword keyword.Continue)
    ∷ (codes "return", kind.Keyword keyword.Return)
    ∷ (codes "sizeof", kind.Keyword keyword.Sizeof)
    ∷ (codes "mutex", kind.Keyword keyword.Mutex)
    ∷ (codes "private", kind.Keyword keyword.Private)
    ∷ (codes "readonly", kind.Keyword keyword.Readonly)
    ∷ (codes "locked", kind.Keyword keyword.Locked)
    ∷ (codes "racy", kind.Keyword keyword.Racy)
    ∷ (codes "dynamic", kind.Keyword keyword.Dynamic)
    ∷ (codes "spawn", kind.Keyword keyword.Spawn)
    ∷ (codes "join", kind.Keyword keyword.Join)
    ∷ (codes "lock", kind.Keyword keyword.Lock)
    ∷ (codes "unlock", kind.Keyword keyword.Unlock)
    ∷ (codes "print", kind.Keyword keyword.Print)
    ∷ (codes "malloc", kind.Keyword keyword.Malloc)
    ∷ (codes "free", kind.Keyword keyword.Free)
    ∷ (codes "SCAST", kind.Keyword keyword.Scast)
    ∷ (codes "NULL", kind.Keyword keyword.Null)
    ∷ (codes "auto", kind.LeftOut)
    ∷ (codes "case", kind.LeftOut)
    ∷ (codes "const", kind.LeftOut)
    ∷ (codes "default", kind.LeftOut)
    ∷ (codes "do", kind.LeftOut)
    ∷ (codes "double", kind.LeftOut)
    ∷ (codes "enum", kind.LeftOut)
    ∷ (codes "extern", kind.LeftOut)
    ∷ (codes "float", kind.LeftOut)
    ∷ (codes "goto", kind.LeftOut)
    ∷ (codes "inline", kind.LeftOut)
    ∷ (codes "register", kind.LeftOut)
    ∷ (codes "restrict", kind.LeftOut)
    ∷ (codes "short", kind.LeftOut)
    ∷ (codes "signed", kind.LeftOut)
    ∷ (codes "static", kind.LeftOut)
    ∷ (codes "switch", kind.LeftOut)
    ∷ (codes "typedef", kind.LeftOut)
    ∷ (codes "union", kind.LeftOut)
    ∷ (codes "unsigned", kind.LeftOut)
    ∷ (codes "volatile", kind.LeftOut)
    ∷ (codes "_Alignas", kind.LeftOut)
    ∷ (codes "_Alignof", kind.LeftOut)
    ∷ (codes "_Atomic", kind.LeftOut)
    ∷ (codes "_Bool", kind.LeftOut)
    ∷ (codes "_Complex", kind.LeftOut)
    ∷ (codes "_Generic", kind.LeftOut)
    ∷ (codes "_Imaginary", kind.LeftOut)
    ∷ (codes "_Noreturn", kind.LeftOut)
    ∷ (codes "_Static_assert", kind.LeftOut)
    ∷ (codes "_Thread_local", kind.LeftOut)
    ∷ []

-- a text that no name is
abbrev pub is_keyword : List ℕ → Bool
is_keyword text = is_some (entry_at keywords text)

-- a word is a keyword where the table has it, and else an identifier, of at most 64 bytes
abbrev pub word : List ℕ → Result TokenKind TokenFault
word text =
    if nat_le (length text) 64 then Ok (unwrap_or (entry_at keywords text) kind.Identifier) else Err fault.Identifier
