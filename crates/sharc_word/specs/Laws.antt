-- Laws of histories and of ports, for the crates above.
use Rattle.std.specs.Prelude.{ℕ, ◌≡◌, ◌↔◌, List, [], ◌∷◌, ◌++◌, length, map, All}
use Rattle.sharc_word.specs.{declared.step.WordEvent.WordEvent, Words.{words_after, IsWord, IsOfWords}}
use Rattle.sharc_word.specs.{History.{LegalHistory, MayFollow}, Place.{PortState, Leads, LeadsInWords, LeadsInEvents}}

-- a legal history goes on with an event exactly where that event can come next
abbrev pub HistoryGoesOn : Type 0
HistoryGoesOn = (opening : List ℕ) (events : List WordEvent) (event : WordEvent)
    → LegalHistory opening (events ++ event ∷ [])
    ↔ (LegalHistory opening events × MayFollow (words_after opening events) event)

-- a history in two parts is legal exactly where the first part is, and the second is from the words that the first
-- leaves
abbrev pub HistoriesJoin : Type 0
HistoriesJoin = (opening : List ℕ) (earlier later : List WordEvent)
    → LegalHistory opening (earlier ++ later)
    ↔ (LegalHistory opening earlier × LegalHistory (words_after opening earlier) later)

-- no event is a legal history
abbrev pub NothingIsLegal : Type 0
NothingIsLegal = (opening : List ℕ) → LegalHistory opening []

-- the opening words and the steps determine each result and the last words
abbrev pub HistoryIsDetermined : Type 0
HistoryIsDetermined = (opening : List ℕ) (one other : List WordEvent)
    → LegalHistory opening one → LegalHistory opening other → map (λ e. e.step) one ≡ map (λ e. e.step) other
    → (map (λ e. e.result) one ≡ map (λ e. e.result) other) × (words_after opening one ≡ words_after opening other)

-- no event changes the number of the words
abbrev pub WordsKeepTheirNumber : Type 0
WordsKeepTheirNumber = (opening : List ℕ) (events : List WordEvent)
    → length (words_after opening events) ≡ length opening

-- the words after events in two parts are those that the second part leaves of the words that the first leaves
abbrev pub WordsComeInParts : Type 0
WordsComeInParts = (opening : List ℕ) (earlier later : List WordEvent)
    → words_after opening (earlier ++ later) ≡ words_after (words_after opening earlier) later

-- events on words leave words
abbrev pub WordsStayWords : Type 0
WordsStayWords = (opening : List ℕ) (events : List WordEvent)
    → All IsWord opening → All (λ e. IsOfWords e.step.op) events → All IsWord (words_after opening events)

-- each result of a legal history on words is a word
abbrev pub ResultsAreWords : Type 0
ResultsAreWords = (opening : List ℕ) (events : List WordEvent)
    → All IsWord opening → All (λ e. IsOfWords e.step.op) events → LegalHistory opening events
    → All (λ e. IsWord e.result) events

-- the laws of histories together: a proof above has them where its function calls `history_laws`
pub record HistoryLaws : Type 0 where
  pub goes_on : HistoryGoesOn
  pub join : HistoriesJoin
  pub nothing : NothingIsLegal
  pub is_determined : HistoryIsDetermined
  pub count : WordsKeepTheirNumber
  pub parts : WordsComeInParts
  pub words : WordsStayWords
  pub results : ResultsAreWords

-- events in two parts lead from one place to another exactly where the first part leads to some place, and the second
-- on from there
abbrev pub LeadsJoin : (PortState → WordEvent → PortState → Type 0) → Type 0
LeadsJoin leads = (from to : PortState) (earlier later : List WordEvent)
    → Leads leads from (earlier ++ later) to
    ↔ ((between : PortState) × Leads leads from earlier between × Leads leads between later to)

-- the events of a port that has its words for itself are a legal history from these words, and leave the last words in
-- their place
abbrev pub WordsLeadByHistory : Type 0
WordsLeadByHistory = (from to : PortState) (events : List WordEvent)
    → Leads LeadsInWords from events to
    ↔ (LegalHistory from.words events × (to ≡ record { words = words_after from.words events; events = from.events }))

-- the events of a port that shares its words are added to those that it has made
abbrev pub EventsLeadByAppending : Type 0
EventsLeadByAppending = (from to : PortState) (events : List WordEvent)
    → Leads LeadsInEvents from events to ↔ (to ≡ record { words = from.words; events = from.events ++ events })

-- the laws of places together
pub record PlaceLaws : Type 0 where
  pub words : WordsLeadByHistory
  pub events : EventsLeadByAppending
