-- An access whose check is dropped is entered from the line before it alone.
use Rattle.std.specs.Prelude.{ℕ, ◌≡◌, true, slice_get, Some}
use Rattle.sharc_code.specs.declared.instr.Instr.{Instr}
use Rattle.sharc_flat.specs.Machine.{Flat}
use Rattle.sharc_guard.specs.{Checked.{Access, access_of, IsNoTarget}, Guard.guarded, Known.dropped}

-- no jump and no call leads there
abbrev pub DroppedIsNoTarget : Type 0
DroppedIsNoTarget = (flat : Flat) (pc : ℕ) (i : Instr) (a : Access) → let p = guarded (dropped flat) flat in
    slice_get p.statements pc ≡ Some i → access_of i ≡ Some a → dropped flat a.site ≡ true → IsNoTarget p pc
