-- What a thread does with its locals: no read of a nulled one is without a warning.
use Rattle.std.specs.Prelude.{◌≡◌, ◌≢◌, ℕ, ℤ, List, ◌∷◌, ◌++◌, All}
use Rattle.sharc_tree.specs.{declared.token.Site.Site, declared.event.SourceEvent.SourceEvent}
use Rattle.sharc_mode.specs.{declared.error.Warning.Warning, Moded.Assignment}
use Rattle.sharc_meaning.specs.{Events.events_of, Runs.{answers_of, Follows}, State.{Traced, Use, reads, nulls}}
use Rattle.sharc_meaning.specs.Meaning.{asks}
use Rattle.sharc_live.specs.Uses.{AreWarnings, IsWarned}

abbrev pub traced : Use → ℕ → Site → ℕ → Traced
traced u x site call = record { use_made = u; variable = x; site = site; call = call }

-- what is done with this variable in this call is a read
abbrev pub Untouched : ℕ → ℕ → Traced → Type 0
Untouched call x t = t.call ≡ call → t.variable ≡ x → t.use_made ≡ reads

-- A trace has a read of a local in some call; of the earlier writes and nullings of it in that call the last is a
-- nulling. A variable is given by the token that declares it, which is never the first of a program.
pub record ReadsNulled (trace : List Traced) (nulling read : ℕ) : Type 0 where
  pub variable : ℕ
  pub is_local : variable ≢ 0
  pub call : ℕ
  pub null_site : Site
  pub read_site : Site
  pub nulled_at : null_site.token ≡ nulling
  pub read_at : read_site.token ≡ read
  pub earlier : List Traced
  pub between : List Traced
  pub later : List Traced
  pub untouched : All (Untouched call variable) between
  pub is : trace
      ≡ earlier ++ traced nulls variable null_site call ∷ (between ++ traced reads variable read_site call ∷ later)

-- each such read has a warning, which names this nulling or an earlier one of the source
abbrev pub SilentReadsAreSafe : Type 0
SilentReadsAreSafe =
    (m : Assignment) (f : ℕ) (argument : ℤ) (answers : List ℤ) (fuel : ℕ) (list : List Warning) (nulling read : ℕ)
    → AreWarnings m.typed list → ReadsNulled (asks m f argument answers fuel).trace nulling read
    → IsWarned list nulling read

-- so it is in a source run: whatever a thread of it does by the answers that it got there, with whatever fuel
abbrev pub SilentReadsInRunsAreSafe : Type 0
SilentReadsInRunsAreSafe = (m : Assignment) (R : List SourceEvent) (fuel thread : ℕ) (own : Follows m R fuel thread)
    (further : ℕ) (list : List Warning) (nulling read : ℕ) → AreWarnings m.typed list
    → ReadsNulled (asks m own.function own.argument (answers_of (events_of thread own.after)) further).trace nulling
    read → IsWarned list nulling read
