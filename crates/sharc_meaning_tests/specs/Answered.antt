-- What is answered: the references to an object, each once.
use Rattle.std.specs.Prelude.{◌≡◌, ◌⊎◌, ◌↔◌, ℕ, List, [], ◌∷◌}
use Rattle.sharc_tree.specs.declared.event.SourceEvent.{SourceEvent}
use Rattle.sharc_mode.specs.Moded.{Assignment}
use Rattle.sharc_meaning.specs.References as meant
use Rattle.sharc_meaning.specs.References.{ReferencesWith}
use Rattle.sharc_meaning_tests.specs.declared.holder.Holder.{Holder}
use Rattle.sharc_meaning_tests.specs.declared.holder.Holder.TheVariants.{InCell, InArgument, InMutex, InThread}

abbrev pub view_holder : Holder → meant.Holder
view_holder (InCell c) = meant.in_cell c
view_holder (InArgument thread) = meant.in_argument thread
view_holder (InMutex c) = meant.in_mutex c
view_holder (InThread thread which) = meant.in_thread thread which

abbrev pub IsListed : Holder → List Holder → Type 0
IsListed h [] = ⊥
IsListed h (x ∷ rest) = (x ≡ h) ⊎ IsListed h rest

-- none is listed twice
abbrev pub AreDistinct : List Holder → Type 0
AreDistinct [] = Unit {0}
AreDistinct (x ∷ rest) = (IsListed x rest → ⊥) × AreDistinct rest

pub record AreReferences (fuel : ℕ) (m : Assignment) (R : List SourceEvent) (n : ℕ) (all : List Holder) : Type 0 where
  pub each : (h : Holder) → IsListed h all ↔ ReferencesWith fuel m R n (view_holder h)
  pub once : AreDistinct all
