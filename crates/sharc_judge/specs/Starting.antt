-- The function and the argument that a thread begins with, read off a list of events.
use Rattle.std.specs.Prelude.{◌≡◌, ◌⊎◌, ℕ, ℤ, pos, ◌+◌, ◌==◌, List, [], ◌∷◌, ◌++◌, find, Option, Some, None, codes}
use Rattle.std.specs.{Prelude.if◌then◌else◌, Str.bytes_eq}
use Rattle.sharc_tree.specs.{declared.event.Act.Act, declared.event.SourceEvent.SourceEvent, Tree.Function}
use Rattle.sharc_tree.specs.declared.event.Act.TheVariants as acts
use Rattle.sharc_ctype.specs.Resolved.{Resolution, IsResolved, functions_in}
use Rattle.sharc_meaning.specs.{Runs.{IsFirst, IsSpawned}, Store.{LegalStore, spawns}}

-- the first function that is called main, where these begin with this number
abbrev pub main_from : ℕ → List Function → Option ℕ
main_from n [] = None
main_from n (f ∷ rest) = if bytes_eq f.name.text (codes "main") then Some n else main_from (n + 1) rest

abbrev pub main_of : Resolution → Option ℕ
main_of r = main_from 0 (functions_in r.program.items)

abbrev pub with_zero : Option ℕ → Option (ℕ × ℤ)
with_zero None = None
with_zero (Some f) = Some (f, pos 0)

abbrev pub spawned_with : Act → Option (ℕ × ℤ)
spawned_with (acts.Spawn f v) = Some (f, v)
spawned_with _ = None

abbrev pub spawned_by_event : Option SourceEvent → Option (ℕ × ℤ)
spawned_by_event None = None
spawned_by_event (Some e) = spawned_with e.act

-- the function and the argument of a thread: thread 0 has main, every other one what its first Spawn says
abbrev pub entry : Resolution → List SourceEvent → ℕ → Option (ℕ × ℤ)
entry r R thread = if thread == 0 then with_zero (main_of r) else spawned_by_event (find (spawns thread) R)

-- a thread may begin with a function and an argument where they are its entry, and, in a legal store, only there
pub record FindsEntries (r : Resolution) : Type 0 where
  pub found : (R : List SourceEvent) → LegalStore r R → (thread f : ℕ) (v : ℤ) (before after : List SourceEvent)
      → R ≡ before ++ after → IsFirst r thread f v ⊎ IsSpawned before thread f v → entry r R thread ≡ Some (f, v)
  pub right : (R : List SourceEvent) (thread f : ℕ) (v : ℤ) → entry r R thread ≡ Some (f, v)
      → IsFirst r thread f v ⊎ IsSpawned R thread f v

abbrev pub EntryLaws : Type 0
EntryLaws = (r : Resolution) → IsResolved r → FindsEntries r
