-- What the tests of this crate are to those who argue with them.
use Rattle.std.specs.Prelude.{◌≡◌, ◌↔◌, true, false, List, [], ◌∷◌, ◌++◌}
use Rattle.sharc_tree.specs.{declared.event.CellAt.CellAt, declared.event.CellMode.CellMode}
use Rattle.sharc_tree.specs.{declared.event.Object.Object, declared.event.SourceEvent.SourceEvent}
use Rattle.sharc_meaning.specs.{Events.{same_object, same_cell, Access, Stands}, Obeys.{IsAccess, Obeys}}
use Rattle.sharc_meaning.specs.Obeys as obeys
use Rattle.sharc_judge.specs.{declared.pair.Until.Until, declared.rule.Rule.Rule}
use Rattle.sharc_judge.specs.{Deciding.{view_until, same_mode, of_access, breaks, breaks_by}, Judged.Holds}

-- ---- the rules

-- no access at any place breaks the rule
abbrev pub Unbroken : Rule → Until → List SourceEvent → Type 0
Unbroken rule u R = (before : List SourceEvent) (e : SourceEvent) (after : List SourceEvent) (a : Access)
    → Stands R before e after → IsAccess e a → breaks rule u before e.thread (of_access a) ≡ false

-- a rule holds exactly where no access breaks it
abbrev pub HoldsUnbroken : Type 0
HoldsUnbroken = (rule : Rule) (u : Until) (R : List SourceEvent) → Unbroken rule u R ↔ Holds R (view_until u) rule

-- one event more, which breaks it not
abbrev pub UnbrokenMore : Type 0
UnbrokenMore = (rule : Rule) (u : Until) (R : List SourceEvent) (e : SourceEvent)
    → Unbroken rule u R → breaks_by rule u R e ≡ false → Unbroken rule u (R ++ e ∷ [])

-- a list obeys exactly where each rule holds
abbrev pub ObeysEach : Type 0
ObeysEach = (R : List SourceEvent) (until : obeys.Until) → ((rule : Rule) → Holds R until rule) ↔ Obeys R until

pub record RuleLaws : Type 0 where
  pub unbroken : HoldsUnbroken
  pub more : UnbrokenMore
  pub each : ObeysEach

-- ---- what is found to be the same is equal

abbrev pub EqualObjects : Type 0
EqualObjects = (a b : Object) → (same_object a b ≡ true) ↔ (a ≡ b)

abbrev pub EqualCells : Type 0
EqualCells = (a b : CellAt) → (same_cell a b ≡ true) ↔ (a ≡ b)

abbrev pub EqualModes : Type 0
EqualModes = (a b : CellMode) → (same_mode a b ≡ true) ↔ (a ≡ b)

pub record SameLaws : Type 0 where
  pub objects : EqualObjects
  pub cells : EqualCells
  pub modes : EqualModes
