-- What operations make of words.
use Rattle.std.specs.Prelude.{ℕ, ◌+◌, ◌-◌, ◌%◌, ◌^◌, ◌==◌, ◌<◌, List, fold, slice_index, slice_set, bit_and, bit_or}
use Rattle.std.specs.Prelude.{if◌then◌else◌}
use Rattle.sharc_word.specs.declared.step.WordOp.{WordOp}
use Rattle.sharc_word.specs.declared.step.WordOp.TheVariants.{Load, Swap, Add, Sub, Or, And, Cas}
use Rattle.sharc_word.specs.{declared.step.WordStep.WordStep, declared.step.WordEvent.WordEvent}

-- the word that the operation leaves where it found this one
abbrev pub word_after : WordOp → ℕ → ℕ
word_after Load found = found
word_after (Swap new) found = new
word_after (Add number) found = (found + number) % 2 ^ 64
word_after (Sub number) found = (found + (2 ^ 64 - number)) % 2 ^ 64
word_after (Or bits) found = bit_or found bits
word_after (And bits) found = bit_and found bits
word_after (Cas expected new) found = if found == expected then new else found

-- the words after one step: its word is what the operation leaves, and the others are as they were
abbrev pub words_after_step : List ℕ → WordStep → List ℕ
words_after_step words step = slice_set words step.word (word_after step.op (slice_index words step.word))

-- the words after these events, the earliest first
abbrev pub words_after : List ℕ → List WordEvent → List ℕ
words_after words events = fold (λ now event. words_after_step now event.step) words events

-- a 64-bit word
abbrev pub IsWord : ℕ → Type 0
IsWord n = n < 2 ^ 64

-- the operation's numbers are words
abbrev pub IsOfWords : WordOp → Type 0
IsOfWords Load = Unit {0}
IsOfWords (Swap new) = IsWord new
IsOfWords (Add number) = IsWord number
IsOfWords (Sub number) = IsWord number
IsOfWords (Or bits) = IsWord bits
IsOfWords (And bits) = IsWord bits
IsOfWords (Cas expected new) = IsWord expected × IsWord new
