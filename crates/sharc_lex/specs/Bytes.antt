-- The classes of bytes that tokens, white space and line markers are made of.
use Rattle.std.specs.{Prelude.{ℕ, Bool, ◌==◌, ◌||◌, ◌&&◌, nat_le, List, drop}, List.prefix_len}

-- a space or a tab
abbrev pub is_blank : ℕ → Bool
is_blank b = (b == 32) || (b == 9)

-- a space, or one of tab, newline, vertical tab, form feed and carriage return
abbrev pub is_white_space : ℕ → Bool
is_white_space b = (b == 32) || (nat_le 9 b && nat_le b 13)

abbrev pub is_digit : ℕ → Bool
is_digit b = nat_le 48 b && nat_le b 57

-- a letter, or the underscore, which counts as one
abbrev pub is_letter : ℕ → Bool
is_letter b = (nat_le 97 b && nat_le b 122) || (nat_le 65 b && nat_le b 90) || (b == 95)

-- what words and numbers go on with
abbrev pub is_word_byte : ℕ → Bool
is_word_byte b = is_letter b || is_digit b

-- from a space to a tilde
abbrev pub is_printable : ℕ → Bool
is_printable b = nat_le 32 b && nat_le b 126

-- what is left after the longest front that passes
abbrev pub behind : (ℕ → Bool) → List ℕ → List ℕ
behind p bytes = drop (prefix_len p bytes) bytes
