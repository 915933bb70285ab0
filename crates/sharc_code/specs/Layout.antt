-- The numbers of words, of granules and of cells.
use Rattle.std.specs.Prelude.{ℕ, ◌≡◌, ◌≤◌, ◌+◌, ◌*◌, ◌/◌, ◌^◌, ◌<◌, nat_lt, length, if◌then◌else◌}
use Rattle.sharc_word.specs.declared.step.TheConstants.{THREADS}
use Rattle.sharc_code.specs.{declared.code.Code.Code, declared.shape.Shape.Shape}

-- granule 0 is not used; then come the globals, and then the heap
abbrev pub granules : Shape → ℕ
granules s = 1 + s.globals + s.heap

-- the first word of a shadow, and of a cell
abbrev pub first_shadow : ℕ
first_shadow = 4 + 3 * THREADS

abbrev pub first_cell : Shape → ℕ
first_cell s = first_shadow + granules s

abbrev pub words_of : Shape → ℕ
words_of s = first_shadow + 3 * granules s

-- the shape is one of this code
pub record Fits (code : Code) (s : Shape) : Type 0 where
  pub threads : s.threads ≡ THREADS
  pub globals : s.globals ≡ code.granules
  pub least : 16 ≤ s.heap
  pub most : s.heap ≤ 65536

-- the words have numbers of 32 bits
pub record IsShape (s : Shape) : Type 0 where
  pub small : words_of s < 2 ^ 32

-- ---- what is not there
-- a granule number that is none is taken as 0
abbrev pub granule_at : Shape → ℕ → ℕ
granule_at s granule = if nat_lt granule (granules s) then granule else 0

-- so is a word number
abbrev pub word_at : Shape → ℕ → ℕ
word_at s word = if nat_lt word (words_of s) then word else 0

-- a function number that is none is taken as that of main
abbrev pub function_at : Code → ℕ → ℕ
function_at code function = if nat_lt function (length code.functions.items) then function else code.main

-- ---- words
abbrev pub top_word : ℕ
top_word = 1

abbrev pub next_thread_word : ℕ
next_thread_word = 2

abbrev pub prints_word : ℕ
prints_word = 3

-- of thread n
abbrev pub state_word : ℕ → ℕ
state_word n = 4 + 3 * n

abbrev pub function_word : ℕ → ℕ
function_word n = 5 + 3 * n

abbrev pub argument_word : ℕ → ℕ
argument_word n = 6 + 3 * n

-- of a granule
abbrev pub shadow_word : Shape → ℕ → ℕ
shadow_word s granule = first_shadow + granule_at s granule

-- of the object with this header granule
abbrev pub count_word : Shape → ℕ → ℕ
count_word s header = first_cell s + 2 * granule_at s header

abbrev pub length_word : Shape → ℕ → ℕ
length_word s header = first_cell s + 2 * granule_at s header + 1

-- of a cell that has this number, counted from the first cell of granule 0
abbrev pub cell_word : Shape → ℕ → ℕ
cell_word s place = word_at s (first_cell s + place)

-- ---- cells
-- cell j of the object with this header granule, counted from the first cell of granule 0
abbrev pub cell_of : ℕ → ℕ → ℕ
cell_of header j = 2 * (header + 1) + j

-- the granule of such a cell
abbrev pub granule_of : ℕ → ℕ
granule_of place = place / 2
