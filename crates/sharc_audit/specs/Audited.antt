-- What is answered of a list of event lines: whether they are a run at this fuel that obeys the modes until threads
-- return, else the first line that is not accepted, and why.
use Rattle.std.specs.Prelude.{◌≡◌, ℕ, suc, List, [], ◌∷◌, ◌++◌, length, take, slice_get, Some}
use Rattle.sharc_tree.specs.declared.event.SourceEvent.{SourceEvent}
use Rattle.sharc_ctype.specs.Resolved.{IsResolved}
use Rattle.sharc_mode.specs.Moded.{Assignment}
use Rattle.sharc_meaning.specs.{Laws.AskedFor, Obeys.{Obeys, until_return}, Runs.SourceRunWith, Store.MayCome}
use Rattle.sharc_judge.specs.{declared.rule.Rule.Rule, Judged.IsLowestBroken}
use Rattle.sharc_audit.specs.{declared.audit.EventFault.EventFault, declared.audit.Verdict.Verdict}
use Rattle.sharc_audit.specs.{declared.line.EventLine.EventLine, Asked.IsSpent, Lines.{IsLine, AreLines}}
use Rattle.sharc_audit.specs.declared.audit.EventFault.TheVariants as fault
use Rattle.sharc_audit.specs.declared.audit.Verdict.TheVariants as verdict

-- these lines are a source run at this fuel that obeys
pub record Accepted (m : Assignment) (fuel : ℕ) (lines : List EventLine) : Type 0 where
  pub events : List SourceEvent
  pub lines_are : AreLines m.typed lines events
  pub run : SourceRunWith fuel m events
  pub obeys : Obeys events until_return

-- the line with this place from 0 is the first that is not accepted
pub record IsFirstRefused (m : Assignment) (fuel : ℕ) (lines : List EventLine) (place : ℕ)
    (l : EventLine) : Type 0 where
  pub stands : slice_get lines place ≡ Some l
  pub before : Accepted m fuel (take place lines)
  pub refused : Accepted m fuel (take (suc place) lines) → ⊥

-- the event is asked for after these, and it is that of the line
pub record IsAsked (m : Assignment) (fuel : ℕ) (R : List SourceEvent) (l : EventLine) : Type 0 where
  pub event : SourceEvent
  pub asked : AskedFor m fuel R event
  pub line_is : IsLine m.typed l event

-- the fuel is not spent, and no event of the line is asked for
pub record IsNotAsked (m : Assignment) (fuel : ℕ) (R : List SourceEvent) (l : EventLine) : Type 0 where
  pub unspent : IsSpent m fuel R l.thread → ⊥
  pub none : IsAsked m fuel R l → ⊥

-- it is asked for, and the store refuses it
pub record IsNotLegal (m : Assignment) (fuel : ℕ) (R : List SourceEvent) (l : EventLine) : Type 0 where
  pub asked : IsAsked m fuel R l
  pub illegal : MayCome m.typed R asked.event asked.event.act → ⊥

-- it is asked for and legal, and this is the lowest rule that fails
pub record IsAgainst (m : Assignment) (fuel : ℕ) (R : List SourceEvent) (l : EventLine) (rule : Rule) : Type 0 where
  pub asked : IsAsked m fuel R l
  pub legal : MayCome m.typed R asked.event asked.event.act
  pub lowest : IsLowestBroken (R ++ asked.event ∷ []) until_return rule

abbrev pub FailsBy : Assignment → ℕ → List SourceEvent → EventLine → EventFault → Type 0
FailsBy m fuel R l fault.NotAsked = IsNotAsked m fuel R l
FailsBy m fuel R l fault.NotLegal = IsNotLegal m fuel R l
FailsBy m fuel R l (fault.Rule rule) = IsAgainst m fuel R l rule

pub record Refused (m : Assignment) (fuel : ℕ) (lines : List EventLine) (n : ℕ) : Type 0 where
  pub place : ℕ
  pub line_at : EventLine
  pub first : IsFirstRefused m fuel lines place line_at
  pub counted : n ≡ suc place

abbrev pub Audits : Assignment → ℕ → List EventLine → Verdict → Type 0
Audits m fuel lines (verdict.Obeys n) = (n ≡ length lines) × Accepted m fuel lines
Audits m fuel lines (verdict.Fails n why) =
    (h : Refused m fuel lines n) × FailsBy m fuel h.first.before.events h.line_at why
Audits m fuel lines (verdict.Fuel n) =
    (h : Refused m fuel lines n) × IsSpent m fuel h.first.before.events h.line_at.thread

-- no other verdict
abbrev pub OneVerdict : Type 0
OneVerdict = (m : Assignment) (fuel : ℕ) (lines : List EventLine) (v w : Verdict) → IsResolved m.typed
    → Audits m fuel lines v → Audits m fuel lines w → v ≡ w
