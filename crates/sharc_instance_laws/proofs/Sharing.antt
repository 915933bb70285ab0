-- The program that the sharing source is: its tokens, its phrases, what its names name, and its modes.
use Rattle.sharc_instance_laws.proofs.{Imports.{ℕ, false, List, [], ◌∷◌, Some, None, codes, Base, Mode, Private, Keyword, Punctuator, Token, Tokens, Program, Constant, private, Typing, of_place, identifier, constant, enclosed, Value, value, malloc, assign, invoke, does, declares, Sentence, line, return, no_more, sentence, Part, function, items_at, site_in, Named, Resolution, Assignment}, Spelling.{int, keyword, mark, name, number}}
use Rattle.sharc_tree.specs.declared.tree.expression.PlaceCall.TheVariants.{Free}

-- ---- tokens
abbrev pub the_tokens : List Token
the_tokens =
    keyword Keyword.Int (codes "int") 0 3 1 ∷ name (codes "main") 4 8 1 ∷
    mark Punctuator.OpenParenthesis (codes "(") 8 9 1 ∷ keyword Keyword.Void (codes "void") 9 13 1 ∷
    mark Punctuator.CloseParenthesis (codes ")") 13 14 1 ∷ mark Punctuator.OpenBrace (codes "{") 15 16 1 ∷
    keyword Keyword.Int (codes "int") 21 24 2 ∷ keyword Keyword.Private (codes "private") 25 32 2 ∷
    mark Punctuator.Star (codes "*") 33 34 2 ∷ name (codes "p") 34 35 2 ∷
    mark Punctuator.Semicolon (codes ";") 35 36 2 ∷
    keyword Keyword.Int (codes "int") 41 44 3 ∷ keyword Keyword.Private (codes "private") 45 52 3 ∷
    mark Punctuator.Star (codes "*") 53 54 3 ∷ name (codes "q") 54 55 3 ∷
    mark Punctuator.Semicolon (codes ";") 55 56 3 ∷
    name (codes "p") 61 62 4 ∷ mark Punctuator.Assign (codes "=") 63 64 4 ∷
    keyword Keyword.Malloc (codes "malloc") 65 71 4 ∷ mark Punctuator.OpenParenthesis (codes "(") 71 72 4 ∷
    keyword Keyword.Sizeof (codes "sizeof") 72 78 4 ∷ mark Punctuator.OpenParenthesis (codes "(") 78 79 4 ∷
    keyword Keyword.Int (codes "int") 79 82 4 ∷ mark Punctuator.CloseParenthesis (codes ")") 82 83 4 ∷
    mark Punctuator.CloseParenthesis (codes ")") 83 84 4 ∷ mark Punctuator.Semicolon (codes ";") 84 85 4 ∷
    name (codes "q") 90 91 5 ∷ mark Punctuator.Assign (codes "=") 92 93 5 ∷ name (codes "p") 94 95 5 ∷
    mark Punctuator.Semicolon (codes ";") 95 96 5 ∷
    keyword Keyword.Free (codes "free") 101 105 6 ∷ mark Punctuator.OpenParenthesis (codes "(") 105 106 6 ∷
    name (codes "p") 106 107 6 ∷ mark Punctuator.CloseParenthesis (codes ")") 107 108 6 ∷
    mark Punctuator.Semicolon (codes ";") 108 109 6 ∷
    keyword Keyword.Return (codes "return") 114 120 7 ∷ number 0 (codes "0") 121 122 7 ∷
    mark Punctuator.Semicolon (codes ";") 122 123 7 ∷
    mark Punctuator.CloseBrace (codes "}") 124 125 8 ∷
    []

abbrev pub tokens : Tokens
tokens = record { list = the_tokens; files = codes "input" ∷ []; end = record { file = 0; line = 9; token = 39 } }

-- ---- phrases
abbrev plain : Base → Typing
plain b = record { mode_first = false; base = b; levels = None ∷ [] }

abbrev to_private : Base → Typing
to_private b = record { mode_first = false; base = b; levels = None ∷ Some private ∷ [] }

abbrev variable : List ℕ → Sentence
variable n = line (declares (record { declaring = record { typing = to_private Base.Int; named = n }; initial = None }))

abbrev assigns : List ℕ → Value → Sentence
assigns n v = line (does (assign (identifier n) v))

abbrev pub phrases : List Part
phrases =
    function (record {
      result = plain Base.Int;
      named = codes "main";
      parameters = [];
      body = sentence (variable (codes "p")) (sentence (variable (codes "q"))
          (sentence (assigns (codes "p") (malloc None (plain Base.Int))) (sentence (assigns (codes "q") (value (identifier (codes "p"))))
          (sentence (line (does (invoke (enclosed (of_place Free) (identifier (codes "p"))))))
          (sentence (return (Some (constant (Constant.Number (int 0))))) no_more)))));
    })
    ∷ []

abbrev pub program : Program
program = record { files = codes "input" ∷ []; items = items_at (site_in the_tokens) 0 phrases; tokens = tokens }

-- ---- names and modes
abbrev pub the_names : List Named
the_names =
    Named.Known ∷ Named.Function 0 ∷ Named.Known ∷ Named.Known ∷ Named.Known ∷ Named.Known ∷
    Named.Known ∷ Named.Known ∷ Named.Known ∷ Named.Variable 9 ∷ Named.Known ∷ Named.Known ∷
    Named.Known ∷ Named.Known ∷ Named.Variable 14 ∷ Named.Known ∷ Named.Variable 9 ∷ Named.Known ∷
    Named.Known ∷ Named.Known ∷ Named.Known ∷ Named.Known ∷ Named.Known ∷ Named.Known ∷
    Named.Known ∷ Named.Known ∷ Named.Variable 14 ∷ Named.Known ∷ Named.Variable 9 ∷ Named.Known ∷
    Named.Known ∷ Named.Known ∷ Named.Variable 9 ∷ Named.Known ∷ Named.Known ∷ Named.Known ∷
    Named.Known ∷ Named.Known ∷ Named.Known ∷
    []

abbrev pub resolution : Resolution
resolution = record { program = program; named = the_names }

abbrev pub modes : List Mode
modes = Private ∷ Private ∷ []

abbrev pub sharing : Assignment
sharing = record { typed = resolution; modes = modes; reasons = None ∷ None ∷ [] }
