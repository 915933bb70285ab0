-- What the steps make of a count, with no call at hand.
use Rattle.std.specs.Prelude.{◌≡◌, ℕ, ◌+◌, ◌^◌, ◌<◌}
use Rattle.sharc_word.specs.Words.{word_after}
use Rattle.sharc_heap.specs.Count.{raise_of, lower_of, test_of}

-- one reference more is counted
abbrev pub RaiseCounts : Type 0
RaiseCounts = (word count : ℕ) → count + 1 < 2 ^ 64 → word_after (raise_of word).op count ≡ count + 1

-- and one less, where there is one
abbrev pub LowerCounts : Type 0
LowerCounts = (word count : ℕ) → count + 1 < 2 ^ 64 → word_after (lower_of word).op (count + 1) ≡ count

-- a test leaves the count
abbrev pub TestLeaves : Type 0
TestLeaves = (word count : ℕ) → word_after (test_of word).op count ≡ count

-- the laws of counts together
pub record CountLaws : Type 0 where
  pub raise : RaiseCounts
  pub lower : LowerCounts
  pub test : TestLeaves
