-- What an event is about.
use Rattle.std.specs.{Prelude.{ℕ, pos, Bool, List, [], ◌∷◌, Option}, HashMap.{get, HashMap}, List.list_any}
use Rattle.sharc_tree.specs.{declared.event.Act.Act, declared.event.CellAt.CellAt, declared.event.CellMode.CellMode}
use Rattle.sharc_tree.specs.{declared.event.CellMode.TheVariants.Dynamic, declared.event.Object.Object}
use Rattle.sharc_tree.specs.{declared.event.Object.TheVariants.{Global, Made}, declared.event.SourceEvent.SourceEvent}
use Rattle.sharc_tree.specs.declared.event.Taken.TheVariants.{Cell}
use Rattle.sharc_tree.specs.declared.event.Act.TheVariants as acts
use Rattle.sharc_meaning.specs.{Events.granule_of, Reference.number_of}
use Rattle.sharc_judge.specs.{declared.keys.CellKey.CellKey, declared.keys.GranuleKey.GranuleKey}
use Rattle.sharc_judge.specs.{declared.keys.ObjectKey.ObjectKey, declared.table.Noted.Noted}
use Rattle.sharc_judge.specs.declared.topics.Topic.{Topic}
use Rattle.sharc_judge.specs.declared.keys.ObjectKey.TheVariants as key
use Rattle.sharc_judge.specs.declared.topics.Topic.TheVariants as topic
use Rattle.sharc_judge.specs.contracts.topics.TopicPartialEq.TheImpl as topic_eq

-- ---- keys

abbrev pub object_key : Object → ObjectKey
object_key (Global n) = key.Global n
object_key (Made n) = key.Made n

abbrev pub cell_key : CellAt → CellKey
cell_key c = record { object = object_key c.object; cell = c.cell }

abbrev pub granule_key : CellAt → GranuleKey
granule_key c = record { object = object_key c.object; granule = granule_of c }

-- ---- topics

abbrev pub changing : CellAt → CellMode → List Topic
changing c Dynamic = topic.Access (cell_key c) ∷ topic.Change (cell_key c) ∷ topic.SharedWrite (granule_key c) ∷ []
changing c _ = topic.Access (cell_key c) ∷ topic.Change (cell_key c) ∷ []

abbrev pub made : ℕ → List Topic
made n = topic.Make n ∷ topic.Life n ∷ topic.Begin n ∷ topic.Period n ∷ []

abbrev pub given : ℕ → List Topic
given n = topic.Begin n ∷ topic.Period n ∷ []

abbrev pub freed : ℕ → List Topic
freed n = topic.Life n ∷ topic.Period n ∷ []

abbrev pub topics_by : SourceEvent → Act → List Topic
topics_by e (acts.Read c mode) = topic.Access (cell_key c) ∷ []
topics_by e (acts.Write c mode v) = changing c mode
topics_by e (acts.Take (Cell c mode) kind) = changing c mode
topics_by e (acts.New cells elements mode) = made (number_of e.answer)
topics_by e (acts.Give reference mode) = given (number_of reference)
topics_by e (acts.Freed reference) = freed (number_of reference)
topics_by e (acts.Lock c) = topic.Mutex (cell_key c) ∷ topic.Lock (cell_key c) ∷ topic.Hold e.thread (cell_key c) ∷ []
topics_by e (acts.Unlock c) = topic.Mutex (cell_key c) ∷ topic.Hold e.thread (cell_key c) ∷ []
topics_by e (acts.Spawn f v) = topic.Spawn e.answer ∷ []
topics_by e acts.Return = topic.Return e.thread ∷ []
topics_by e acts.Gone = topic.Gone (pos e.thread) ∷ []
topics_by e _ = []

abbrev pub topics_of : SourceEvent → List Topic
topics_of e = topics_by e e.act

abbrev pub same_topic : Topic → Topic → Bool
same_topic = topic_eq.ghosts.eq

abbrev pub is_about : Topic → SourceEvent → Bool
is_about t e = list_any (λ x. same_topic x t) (topics_of e)

-- what a table has for a topic
abbrev pub found : {S : Type 0} → HashMap Topic Noted S → Topic → Option Noted
found table t = get same_topic table t
