-- What one call takes from a source or adds to a sink, after what the calls before it did.
use Rattle.std.proofs.{Common.{ℕ, ◌≡◌, ◌≤◌, ◌+◌, List, ◌++◌, length, Option, arith, length-append}, KnownBytes.Consumes-trans}
use lib.Seq.{take-add}
use Rattle.std.specs.Io.KnownBytes.{Consumes}
use Rattle.sharc_io.specs.Reading.{TakesFront, TakesAtMost}

-- a front part of n bytes after the bytes that were taken before
pub takes_front_more : (a b c : Option (List ℕ)) (bytes : List ℕ) (n all : ℕ)
    → TakesFront b c n → Consumes a b bytes → all ≡ length bytes + n → TakesFront a c all
takes_front_more a b c bytes n all more before joined = record {
  front = bytes ++ more.front;
  taken = Consumes-trans a b c bytes more.front before more.taken;
  long = omega (arith, length-append bytes more.front, more.long);
}

-- a front part of at most n bytes after the bytes that were taken before
pub takes_at_most_more : (a b c : Option (List ℕ)) (bytes : List ℕ) (n all : ℕ)
    → TakesAtMost b c n → Consumes a b bytes → length bytes + n ≤ all → TakesAtMost a c all
takes_at_most_more a b c bytes n all more before joined = record {
  front = bytes ++ more.front;
  taken = Consumes-trans a b c bytes more.front before more.taken;
  short = omega (arith, length-append bytes more.front, more.short);
}
