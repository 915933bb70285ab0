-- A thread asks for one event next, whatever it is answered.
use Rattle.std.specs.Prelude.{◌≡◌, ℕ, ℤ, List, [], ◌∷◌, ◌++◌, length}
use Rattle.sharc_tree.specs.declared.event.SourceEvent.{SourceEvent}
use Rattle.sharc_mode.specs.Moded.{Assignment}
use Rattle.sharc_meaning.specs.Meaning.{asks}

-- the same act at the same place
pub record IsSameAsked (w e : SourceEvent) : Type 0 where
  pub act : w.act ≡ e.act
  pub site : w.site ≡ e.site

-- behind as many events as there are answers before it
abbrev pub OneIsNext : Type 0
OneIsNext = (m : Assignment) (f : ℕ) (argument : ℤ) (answers : List ℤ) (a b : ℤ) (fuel more : ℕ)
    (told other : List SourceEvent) (w e : SourceEvent)
    → (asks m f argument (answers ++ a ∷ []) fuel).events ≡ told ++ w ∷ [] → length told ≡ length answers
    → (asks m f argument (answers ++ b ∷ []) more).events ≡ other ++ e ∷ [] → length other ≡ length answers
    → IsSameAsked w e
