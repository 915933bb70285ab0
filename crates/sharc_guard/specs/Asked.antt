-- The answers that were asked for on a path of guarded code, and how many turns of a path of flat code have a
-- statement.
use Rattle.std.specs.Prelude.{ℕ, ℤ, ◌+◌, List, [], ◌∷◌, ◌++◌, slice_get, Option, Some}
use Rattle.sharc_flat.specs.{declared.op.Op.Op, Machine.{Flat, At}, Path.at_after}
use Rattle.sharc_flat.specs.declared.op.Op.TheVariants as op
use Rattle.sharc_guard.specs.Machine as Form
use Rattle.sharc_guard.specs.{Machine.{Program, Thread}, Path.thread_after}

-- those of the answers of a path of guarded code that were asked for, the first one first
abbrev pub guarded_asked_by : Form.Turn → ℤ → List ℤ
guarded_asked_by (Form.Goes b) x = []
guarded_asked_by (Form.Asks site act go) x = x ∷ []
guarded_asked_by (Form.Checks check site b) x = []
guarded_asked_by (Form.Halts o) x = []

abbrev pub guarded_asked : Program → Thread → List ℤ → List ℤ
guarded_asked p a [] = []
guarded_asked p a (x ∷ earlier) =
    guarded_asked p a earlier ++ guarded_asked_by (Form.turn p (thread_after p a earlier)) x

-- how many turns of a path of flat code have a statement of their own
abbrev pub is_enter : Option Op → ℕ
is_enter (Some op.Enter) = 0
is_enter (Some op.BlockEnd) = 0
is_enter _ = 1

abbrev pub moves : Flat → At → List ℤ → ℕ
moves flat m [] = 0
moves flat m (x ∷ earlier) = moves flat m earlier + is_enter (slice_get flat.lines (at_after flat m earlier).pc)
