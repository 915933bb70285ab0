-- A table of what the lines report to each thread.
use Rattle.std.specs.{Prelude.{◌≡◌, ℕ, ℤ, false, nat_eq, List, [], Option, Some, None}, HashMap.{get, HashMap}}
use Rattle.std.specs.declared.vec.Vec.{Vec}
use Rattle.sharc_tree.specs.declared.event.SourceEvent.{SourceEvent}
use Rattle.sharc_audit.specs.{declared.line.EventLine.EventLine, Judging.has_begun, Lines.told_to}

abbrev pub items_found : {A : Type 0} → Option (Vec ℤ A) → List ℤ
items_found None = []
items_found (Some v) = v.items

abbrev pub told_in : {S A : Type 0} → HashMap ℕ (Vec ℤ A) S → ℕ → List ℤ
told_in all thread = items_found (get nat_eq all thread)

-- of each thread that has not begun it has what the lines to come report to it
abbrev pub AreTold : {S A : Type 0} → HashMap ℕ (Vec ℤ A) S → List SourceEvent → List EventLine → Type 0
AreTold all R lines = (thread : ℕ) → has_begun R thread ≡ false → told_in all thread ≡ told_to thread lines
