-- What is answered of a list of events that is no legal store, or breaks a rule.
use Rattle.std.specs.Prelude.{ℕ, ◌+◌, ◌<◌, List, length, take}
use Rattle.sharc_tree.specs.declared.event.SourceEvent.{SourceEvent}
use Rattle.sharc_ctype.specs.Resolved.{Resolution}
use Rattle.sharc_meaning.specs.Obeys.{Until, ToLive, UnderOneMode, ByOwner, Unwritten, UnderLock, ReadSharedOrOwn}
use Rattle.sharc_meaning.specs.Store.{LegalStore}
use Rattle.sharc_judge.specs.declared.rule.Rule.{Rule}
use Rattle.sharc_judge.specs.declared.rule.Rule.TheVariants.{Live, OneMode, Owner, NotWritten, UnderItsLock}
use Rattle.sharc_judge.specs.declared.rule.Rule.TheVariants.{ReadSharedOrOneThread}

-- the events before it are a legal store, and with it they are not
pub record IsFirstIllegal (r : Resolution) (R : List SourceEvent) (i : ℕ) : Type 0 where
  pub inside : i < length R
  pub legal : LegalStore r (take i R)
  pub illegal : LegalStore r (take (i + 1) R) → ⊥

abbrev pub Holds : List SourceEvent → Until → Rule → Type 0
Holds R until Live = ToLive R
Holds R until OneMode = UnderOneMode R
Holds R until Owner = ByOwner R
Holds R until NotWritten = Unwritten R
Holds R until UnderItsLock = UnderLock R
Holds R until ReadSharedOrOneThread = ReadSharedOrOwn R until

abbrev pub number : Rule → ℕ
number Live = 1
number OneMode = 2
number Owner = 3
number NotWritten = 4
number UnderItsLock = 5
number ReadSharedOrOneThread = 6

-- the rule does not hold, and those before it do
pub record IsLowestBroken (R : List SourceEvent) (until : Until) (rule : Rule) : Type 0 where
  pub broken : Holds R until rule → ⊥
  pub lower : (other : Rule) → number other < number rule → Holds R until other
