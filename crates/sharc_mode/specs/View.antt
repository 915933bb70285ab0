-- What the code's values stand for.
use Rattle.std.specs.{Prelude.{ℕ, ◌+◌, ◌≤◌, List, Option, Some, None}, Borrow.Bor}
use Rattle.sharc_tree.specs.{Tree.{argument, no_arguments}, View.{view_expr, view_arguments}}
use Rattle.sharc_mode.specs.declared.sharing.Lock.{Lock as RustLock}
use Rattle.sharc_mode.specs.declared.sharing.Sharing.{Sharing as RustSharing}
use Rattle.sharc_mode.specs.declared.sharing.Sharing.TheVariants.{Private, Readonly, Locked, Racy, Dynamic}
use Rattle.sharc_mode.specs.declared.row.PathReading.{PathReading as RustReading}
use Rattle.sharc_mode.specs.declared.row.PathReading.TheVariants.{Written, Through, Call, Spawn}
use Rattle.sharc_mode.specs.{declared.row.Targets.{Targets as RustTargets}, Moded.position_count}
use Rattle.sharc_mode.specs.Rows.{PathReading, written, through, at_call, Targets}
use Rattle.sharc_mode.specs.Sharings.{Lock, Sharing, private, readonly, locked, racy, dynamic}
use Rattle.sharc_ctype.specs.Resolved.{Resolution}

abbrev pub view_name : Option (Bor (List ℕ)) → Option (List ℕ)
view_name None = None
view_name (Some m) = Some m.now

abbrev pub view_lock : RustLock → Lock
view_lock l = record { first = l.first; second = view_name l.second }

abbrev pub view_sharing : RustSharing → Sharing
view_sharing Private = private
view_sharing Readonly = readonly
view_sharing (Locked l) = locked (view_lock l)
view_sharing Racy = racy
view_sharing Dynamic = dynamic

abbrev pub view_reading : RustReading → PathReading
view_reading Written = written
view_reading (Through at) = through at
view_reading (Call parameters all) = at_call parameters.now (view_arguments all.now)
view_reading (Spawn parameters a) = at_call parameters.now (argument (view_expr a.now) no_arguments)

abbrev pub view_row : RustTargets → Targets
view_row row = record { first = row.first; count = row.count; reading = view_reading row.reading }

abbrev pub view_rows : Option RustTargets → Option Targets
view_rows None = None
view_rows (Some row) = Some (view_row row)

-- its positions are positions of the program
abbrev pub EndsWithin : Resolution → Option RustTargets → Type 0
EndsWithin r None = Unit {0}
EndsWithin r (Some row) = row.first + row.count ≤ position_count r
