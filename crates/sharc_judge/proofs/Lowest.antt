-- The lowest rule that does not hold.
use Rattle.std.proofs.{Common.{◌≡◌, ◌↔◌, IsTrue, ◌<◌, Bool, true, false, List, arith}, lemmas.Bool.both_ways}
use Rattle.sharc_tree.specs.declared.event.SourceEvent.{SourceEvent}
use Rattle.sharc_meaning.specs.Obeys.{Until, Obeys}
use Rattle.sharc_judge.specs.{declared.rule.Rule.Rule, declared.rule.Rule.TheVariants.{Live, OneMode, Owner, NotWritten, UnderItsLock, ReadSharedOrOneThread}, Judged.{Holds, number, IsLowestBroken}, Laws.ObeysEach}

pub broken_by : {b : Bool} {P : Type 0} → (IsTrue b ↔ P) → b ≡ false → P → ⊥
broken_by {b = b} h e p = both_ways b e (h.1 p)

pub kept_by : {b : Bool} {P : Type 0} → (IsTrue b ↔ P) → b ≡ true → P
kept_by h e = h.0 e

module _ (R : List SourceEvent) (until : Until) where
  below_2 : (h1 : Holds R until Live) (other : Rule) → number other < 2 → Holds R until other
  below_2 h1 Live less = h1
  below_2 h1 _ less = absurd (omega (arith, less))

  pub lowest_2 : Holds R until Live → (Holds R until OneMode → ⊥) → IsLowestBroken R until OneMode
  lowest_2 h1 broken = record { broken = broken; lower = below_2 h1 }

  below_3 : (h1 : Holds R until Live) (h2 : Holds R until OneMode) (other : Rule) → number other < 3 → Holds R until other
  below_3 h1 h2 Live less = h1
  below_3 h1 h2 OneMode less = h2
  below_3 h1 h2 _ less = absurd (omega (arith, less))

  pub lowest_3 : Holds R until Live → Holds R until OneMode → (Holds R until Owner → ⊥) → IsLowestBroken R until Owner
  lowest_3 h1 h2 broken = record { broken = broken; lower = below_3 h1 h2 }

  below_4 : (h1 : Holds R until Live) (h2 : Holds R until OneMode) (h3 : Holds R until Owner) (other : Rule) → number other < 4 → Holds R until other
  below_4 h1 h2 h3 Live less = h1
  below_4 h1 h2 h3 OneMode less = h2
  below_4 h1 h2 h3 Owner less = h3
  below_4 h1 h2 h3 _ less = absurd (omega (arith, less))

  pub lowest_4 : Holds R until Live → Holds R until OneMode → Holds R until Owner → (Holds R until NotWritten → ⊥) → IsLowestBroken R until NotWritten
  lowest_4 h1 h2 h3 broken = record { broken = broken; lower = below_4 h1 h2 h3 }

  below_5 : (h1 : Holds R until Live) (h2 : Holds R until OneMode) (h3 : Holds R until Owner) (h4 : Holds R until NotWritten) (other : Rule) → number other < 5 → Holds R until other
  below_5 h1 h2 h3 h4 Live less = h1
  below_5 h1 h2 h3 h4 OneMode less = h2
  below_5 h1 h2 h3 h4 Owner less = h3
  below_5 h1 h2 h3 h4 NotWritten less = h4
  below_5 h1 h2 h3 h4 _ less = absurd (omega (arith, less))

  pub lowest_5 : Holds R until Live → Holds R until OneMode → Holds R until Owner → Holds R until NotWritten → (Holds R until UnderItsLock → ⊥) → IsLowestBroken R until UnderItsLock
  lowest_5 h1 h2 h3 h4 broken = record { broken = broken; lower = below_5 h1 h2 h3 h4 }

  below_6 : (h1 : Holds R until Live) (h2 : Holds R until OneMode) (h3 : Holds R until Owner) (h4 : Holds R until NotWritten) (h5 : Holds R until UnderItsLock) (other : Rule) → number other < 6 → Holds R until other
  below_6 h1 h2 h3 h4 h5 Live less = h1
  below_6 h1 h2 h3 h4 h5 OneMode less = h2
  below_6 h1 h2 h3 h4 h5 Owner less = h3
  below_6 h1 h2 h3 h4 h5 NotWritten less = h4
  below_6 h1 h2 h3 h4 h5 UnderItsLock less = h5
  below_6 h1 h2 h3 h4 h5 ReadSharedOrOneThread less = absurd (omega (arith, less))

  pub lowest_6 : Holds R until Live → Holds R until OneMode → Holds R until Owner → Holds R until NotWritten → Holds R until UnderItsLock → (Holds R until ReadSharedOrOneThread → ⊥) → IsLowestBroken R until ReadSharedOrOneThread
  lowest_6 h1 h2 h3 h4 h5 broken = record { broken = broken; lower = below_6 h1 h2 h3 h4 h5 }

  pub obeys_all : Holds R until Live → Holds R until OneMode → Holds R until Owner → Holds R until NotWritten → Holds R until UnderItsLock → Holds R until ReadSharedOrOneThread → Obeys R until
  obeys_all h1 h2 h3 h4 h5 h6 = record { live = h1; one_mode = h2; owner = h3; unwritten = h4; under_lock = h5; shared = h6 }

each_of : (R : List SourceEvent) (until : Until) → Obeys R until → (rule : Rule) → Holds R until rule
each_of R until o Live = o.live
each_of R until o OneMode = o.one_mode
each_of R until o Owner = o.owner
each_of R until o NotWritten = o.unwritten
each_of R until o UnderItsLock = o.under_lock
each_of R until o ReadSharedOrOneThread = o.shared

pub obeys_each : ObeysEach
obeys_each R until = (λ h. obeys_all R until (h Live) (h OneMode) (h Owner) (h NotWritten) (h UnderItsLock) (h ReadSharedOrOneThread), each_of R until)
