-- The program that the locking source is: its tokens, its phrases, what its names name, and its modes.
use Rattle.sharc_instance_laws.proofs.{Imports.{ℕ, false, List, [], ◌∷◌, Option, Some, None, codes, Base, Mode, Racy, Locked, One, Keyword, Punctuator, Token, Tokens, PlaceCall, Program, Constant, Sharing, locked, Typing, Declaring, of_spawn, of_value, of_place, Phrase, identifier, constant, enclosed, value, assign, invoke, does, Sentence, line, return, no_more, sentence, single, Part, global, function, items_at, site_in, Named, Resolution, Assignment}, Spelling.{int, keyword, mark, name, number}}
use Rattle.sharc_tree.specs.{declared.tree.expression.PlaceCall.TheVariants.{Lock, Unlock}, declared.tree.expression.ValueCall.TheVariants.Join}

-- ---- tokens
abbrev pub the_tokens : List Token
the_tokens =
    keyword Keyword.Mutex (codes "mutex") 0 5 1 ∷ name (codes "m") 6 7 1 ∷ mark Punctuator.Semicolon (codes ";") 7 8 1 ∷
    keyword Keyword.Int (codes "int") 9 12 2 ∷ keyword Keyword.Locked (codes "locked") 13 19 2 ∷
    mark Punctuator.OpenParenthesis (codes "(") 19 20 2 ∷ name (codes "m") 20 21 2 ∷
    mark Punctuator.CloseParenthesis (codes ")") 21 22 2 ∷ name (codes "x") 23 24 2 ∷
    mark Punctuator.Semicolon (codes ";") 24 25 2 ∷
    keyword Keyword.Void (codes "void") 27 31 4 ∷ name (codes "worker") 32 38 4 ∷
    mark Punctuator.OpenParenthesis (codes "(") 38 39 4 ∷ keyword Keyword.Int (codes "int") 39 42 4 ∷
    name (codes "n") 43 44 4 ∷ mark Punctuator.CloseParenthesis (codes ")") 44 45 4 ∷
    mark Punctuator.OpenBrace (codes "{") 46 47 4 ∷
    keyword Keyword.Lock (codes "lock") 52 56 5 ∷ mark Punctuator.OpenParenthesis (codes "(") 56 57 5 ∷
    mark Punctuator.Ampersand (codes "&") 57 58 5 ∷ name (codes "m") 58 59 5 ∷
    mark Punctuator.CloseParenthesis (codes ")") 59 60 5 ∷ mark Punctuator.Semicolon (codes ";") 60 61 5 ∷
    name (codes "x") 66 67 6 ∷ mark Punctuator.Assign (codes "=") 68 69 6 ∷ number 2 (codes "2") 70 71 6 ∷
    mark Punctuator.Semicolon (codes ";") 71 72 6 ∷
    keyword Keyword.Unlock (codes "unlock") 77 83 7 ∷ mark Punctuator.OpenParenthesis (codes "(") 83 84 7 ∷
    mark Punctuator.Ampersand (codes "&") 84 85 7 ∷ name (codes "m") 85 86 7 ∷
    mark Punctuator.CloseParenthesis (codes ")") 86 87 7 ∷ mark Punctuator.Semicolon (codes ";") 87 88 7 ∷
    mark Punctuator.CloseBrace (codes "}") 89 90 8 ∷
    keyword Keyword.Int (codes "int") 92 95 10 ∷ name (codes "main") 96 100 10 ∷
    mark Punctuator.OpenParenthesis (codes "(") 100 101 10 ∷ keyword Keyword.Void (codes "void") 101 105 10 ∷
    mark Punctuator.CloseParenthesis (codes ")") 105 106 10 ∷ mark Punctuator.OpenBrace (codes "{") 107 108 10 ∷
    keyword Keyword.Lock (codes "lock") 113 117 11 ∷ mark Punctuator.OpenParenthesis (codes "(") 117 118 11 ∷
    mark Punctuator.Ampersand (codes "&") 118 119 11 ∷ name (codes "m") 119 120 11 ∷
    mark Punctuator.CloseParenthesis (codes ")") 120 121 11 ∷ mark Punctuator.Semicolon (codes ";") 121 122 11 ∷
    name (codes "x") 127 128 12 ∷ mark Punctuator.Assign (codes "=") 129 130 12 ∷ number 1 (codes "1") 131 132 12 ∷
    mark Punctuator.Semicolon (codes ";") 132 133 12 ∷
    keyword Keyword.Join (codes "join") 138 142 13 ∷ mark Punctuator.OpenParenthesis (codes "(") 142 143 13 ∷
    keyword Keyword.Spawn (codes "spawn") 143 148 13 ∷ mark Punctuator.OpenParenthesis (codes "(") 148 149 13 ∷
    name (codes "worker") 149 155 13 ∷ mark Punctuator.Comma (codes ",") 155 156 13 ∷ number 2 (codes "2") 157 158 13 ∷
    mark Punctuator.CloseParenthesis (codes ")") 158 159 13 ∷ mark Punctuator.CloseParenthesis (codes ")") 159 160 13 ∷
    mark Punctuator.Semicolon (codes ";") 160 161 13 ∷
    keyword Keyword.Unlock (codes "unlock") 166 172 14 ∷ mark Punctuator.OpenParenthesis (codes "(") 172 173 14 ∷
    mark Punctuator.Ampersand (codes "&") 173 174 14 ∷ name (codes "m") 174 175 14 ∷
    mark Punctuator.CloseParenthesis (codes ")") 175 176 14 ∷ mark Punctuator.Semicolon (codes ";") 176 177 14 ∷
    keyword Keyword.Return (codes "return") 182 188 15 ∷ number 0 (codes "0") 189 190 15 ∷
    mark Punctuator.Semicolon (codes ";") 190 191 15 ∷
    mark Punctuator.CloseBrace (codes "}") 192 193 16 ∷
    []

abbrev pub tokens : Tokens
tokens = record { list = the_tokens; files = codes "input" ∷ []; end = record { file = 0; line = 17; token = 70 } }

-- ---- phrases
abbrev with_mode : Base → Option Sharing → Typing
with_mode b mode = record { mode_first = false; base = b; levels = mode ∷ [] }

abbrev plain : Base → Typing
plain b = with_mode b None

abbrev declared : Typing → List ℕ → Declaring
declared t n = record { typing = t; named = n }

abbrev of_mutex : PlaceCall → Sentence
of_mutex w = line (does (invoke (enclosed (of_place w) (identifier (codes "m")))))

abbrev constant_of : ℕ → Phrase
constant_of n = constant (Constant.Number (int n))

abbrev assigns : ℕ → Sentence
assigns n = line (does (assign (identifier (codes "x")) (value (constant_of n))))

abbrev pub phrases : List Part
phrases =
    global (declared (plain Base.Mutex) (codes "m")) single
    ∷ global (declared (with_mode Base.Int (Some (locked (codes "m")))) (codes "x")) single
    ∷ function (record {
      result = plain Base.Void;
      named = codes "worker";
      parameters = declared (plain Base.Int) (codes "n") ∷ [];
      body = sentence (of_mutex Lock) (sentence (assigns 2) (sentence (of_mutex Unlock) no_more));
    })
    ∷ function (record {
      result = plain Base.Int;
      named = codes "main";
      parameters = [];
      body = sentence (of_mutex Lock) (sentence (assigns 1)
          (sentence (line (does (invoke (enclosed (of_value Join) (enclosed (of_spawn (codes "worker")) (constant_of 2))))))
          (sentence (of_mutex Unlock) (sentence (return (Some (constant_of 0))) no_more))));
    })
    ∷ []

abbrev pub program : Program
program = record { files = codes "input" ∷ []; items = items_at (site_in the_tokens) 0 phrases; tokens = tokens }

-- ---- names and modes
abbrev pub the_names : List Named
the_names =
    Named.Known ∷ Named.Global 0 ∷ Named.Known ∷ Named.Known ∷ Named.Known ∷ Named.Known ∷
    Named.Global 0 ∷ Named.Known ∷ Named.Global 1 ∷ Named.Known ∷ Named.Known ∷ Named.Function 0 ∷
    Named.Known ∷ Named.Known ∷ Named.Variable 14 ∷ Named.Known ∷ Named.Known ∷ Named.Known ∷
    Named.Known ∷ Named.Known ∷ Named.Global 0 ∷ Named.Known ∷ Named.Known ∷ Named.Global 1 ∷
    Named.Known ∷ Named.Known ∷ Named.Known ∷ Named.Known ∷ Named.Known ∷ Named.Known ∷
    Named.Global 0 ∷ Named.Known ∷ Named.Known ∷ Named.Known ∷ Named.Known ∷ Named.Function 1 ∷
    Named.Known ∷ Named.Known ∷ Named.Known ∷ Named.Known ∷ Named.Known ∷ Named.Known ∷
    Named.Known ∷ Named.Global 0 ∷ Named.Known ∷ Named.Known ∷ Named.Global 1 ∷ Named.Known ∷
    Named.Known ∷ Named.Known ∷ Named.Known ∷ Named.Known ∷ Named.Known ∷ Named.Known ∷
    Named.Function 0 ∷ Named.Known ∷ Named.Known ∷ Named.Known ∷ Named.Known ∷ Named.Known ∷
    Named.Known ∷ Named.Known ∷ Named.Known ∷ Named.Global 0 ∷ Named.Known ∷ Named.Known ∷
    Named.Known ∷ Named.Known ∷ Named.Known ∷ Named.Known ∷
    []

abbrev pub resolution : Resolution
resolution = record { program = program; named = the_names }

abbrev pub modes : List Mode
modes = Racy ∷ Locked (One (codes "m") 6) ∷ []

abbrev pub locking : Assignment
locking = record { typed = resolution; modes = modes; reasons = None ∷ None ∷ [] }
