-- The ranges of the numbers of a code that its generator keeps, and what follows of them.
use Rattle.std.specs.Prelude.{ℕ, ◌≡◌, ◌<◌, ◌≤◌, ◌+◌, ◌*◌, ◌^◌, List, length, slice_index, slice_index_or}
use Rattle.sharc_word.specs.declared.step.TheConstants.{THREADS}
use Rattle.sharc_code.specs.{declared.code.Code.Code, declared.code.Function.Function}
use Rattle.sharc_code.specs.declared.code.GlobalCells.{GlobalCells}
use Rattle.sharc_code.specs.{declared.instr.Instr.TheVariants.{GlobalBounds, Spawn}, declared.instr.Register.Register}
use Rattle.sharc_code.specs.{declared.shape.Shape.Shape, declared.state.TheConstants.FRAMES}
use Rattle.sharc_code.specs.{Layout.{Fits, granules, words_of}, Machine.instr_at, Path.{most_ints, most_refs}}
use Rattle.sharc_code.specs.Says.{no_global}

-- ---- functions
-- all frames of the largest function have registers with numbers of 32 bits
pub record FramesFit (functions : List Function) : Type 0 where
  pub ints : FRAMES * most_ints functions < 2 ^ 32
  pub refs : FRAMES * most_refs functions < 2 ^ 32

-- ---- globals
-- where the cells of a global begin and end, counted from the first cell of granule 0
abbrev pub first_place : List GlobalCells → ℕ → ℕ
first_place globals g = 2 * (slice_index_or globals g no_global).granule

abbrev pub end_place : List GlobalCells → ℕ → ℕ
end_place globals g = first_place globals g + (slice_index_or globals g no_global).cells

-- the place is one of the cells of this global
pub record IsInGlobal (globals : List GlobalCells) (g place : ℕ) : Type 0 where
  pub known : g < length globals
  pub low : first_place globals g ≤ place
  pub high : place < end_place globals g

-- they lie from granule 1 on within this many granules, one after the other
pub record GlobalsFit (globals : List GlobalCells) (granules : ℕ) : Type 0 where
  pub low : (g : ℕ) → g < length globals → 2 ≤ first_place globals g
  pub high : (g : ℕ) → g < length globals → end_place globals g ≤ 2 * granules + 2
  pub apart : (g h : ℕ) → g < h → h < length globals → end_place globals g ≤ first_place globals h

-- ---- a code
-- its frames and globals fit, its numbers name what there is, what its globals hold at first are words, and no index
-- into a global passes what a register holds
pub record NumbersFit (code : Code) : Type 0 where
  pub frames : FramesFit code.functions.items
  pub functions : length code.functions.items < 2 ^ 32
  pub main : code.main < length code.functions.items
  pub few : code.granules ≤ 65536
  pub globals : GlobalsFit code.globals.items code.granules
  pub words : (j : ℕ) → slice_index code.initial.items j < 2 ^ 64
  pub spawned : (pc to function site : ℕ) (from : Register) → instr_at code pc ≡ Spawn to function from site
      → function < length code.functions.items
  pub indexes : (pc of elements cells field site : ℕ) → instr_at code pc ≡ GlobalBounds of elements cells field site
      → elements * cells + field < 2 ^ 63

-- ---- laws
-- no cell is one of two globals
abbrev pub GlobalsShareNoCell : Type 0
GlobalsShareNoCell = (globals : List GlobalCells) (granules g h place : ℕ) → GlobalsFit globals granules
    → IsInGlobal globals g place → IsInGlobal globals h place → g ≡ h

-- the most references that there may be at a time: in registers, as arguments, for mutexes that are held, in hand, and
-- in cells
abbrev pub most_references : Code → Shape → ℕ
most_references code s = THREADS * (FRAMES * most_refs code.functions.items)
    + (THREADS + (THREADS * words_of s + (THREADS + granules s * (2 * granules s))))

-- so no count passes a word
abbrev pub CountsFit : Type 0
CountsFit = (code : Code) (s : Shape) → NumbersFit code → Fits code s → most_references code s + 1 < 2 ^ 64

-- the laws of ranges together
pub record RangeLaws : Type 0 where
  pub globals : GlobalsShareNoCell
  pub counts : CountsFit
