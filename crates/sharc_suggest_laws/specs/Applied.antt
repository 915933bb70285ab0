-- The program with a cast written in it, and its modes.
use Rattle.std.specs.Prelude.{ℕ, ◌+◌, nat_lt, Bool, false, List, [], ◌∷◌, ◌++◌, drop, take, map, replicate, length}
use Rattle.std.specs.Prelude.{Option, Some, None, if◌then◌else◌}
use Rattle.std.specs.Str.{bytes_eq}
use Rattle.sharc_tree.specs.{declared.ctype.Base.Base, declared.ctype.Base.TheVariants.Struct, declared.ctype.Mode.Mode}
use Rattle.sharc_tree.specs.{declared.ctype.Mode.TheVariants.Private, declared.token.Site.Site, Tree.Program}
use Rattle.sharc_ctype.specs.{declared.entity.Numbered.Numbered, Entities.{entities_in, numbered, entity_at}}
use Rattle.sharc_ctype.specs.{Items.named_in, Resolved.Resolution}
use Rattle.sharc_mode.specs.{declared.error.Cast.Cast, declared.position.Reason.Reason}
use Rattle.sharc_mode.specs.{declared.position.Reason.TheVariants.{Touched, Spawned, From}, Moded.Assignment}
use Rattle.sharc_suggest_laws.specs.{declared.written.Recast.Recast, Recast.program_with_cast}

-- ---- the program: the cast is around the expression of its tokens, wherever that is passed, assigned or returned, or
-- initialises a local

abbrev pub names_struct : Base → Base → Bool
names_struct (Struct a) (Struct b) = bytes_eq a b
names_struct _ _ = false

-- where the struct of the type is named: as in the first type of the program that names it
abbrev pub base_site : List Numbered → Base → Site → Site
base_site [] base site = site
base_site (n ∷ rest) base site =
    if names_struct n.entity.written.ctype.base base then n.entity.written.base else base_site rest base site

abbrev pub recast_of : Resolution → Cast → Recast
recast_of r c = record {
  from = c.from;
  until = c.until;
  base = base_site (numbered (entities_in r.program.items)) c.to.base c.site;
  to = c.to;
}

abbrev pub program_with : Cast → Resolution → Program
program_with c r = program_with_cast (recast_of r c) r.program

-- typed again: what each of its tokens names
abbrev pub resolution_with : Cast → Resolution → Resolution
resolution_with c r = record { program = program_with c r; named = named_in (program_with c r) }

-- ---- the modes: those of all old positions, in their order, and between them those of the cast's type

-- an unwritten target is private; of a suggested cast all are written
abbrev pub written_or : Option Mode → Mode
written_or None = Private
written_or (Some m) = m

abbrev pub targets : List (Option Mode) → List Mode
targets levels = map written_or (drop 1 levels)

abbrev pub first_of : Option Numbered → ℕ
first_of None = 0
first_of (Some n) = n.first

-- the number of the cast's first position
abbrev pub first_new : Cast → Resolution → ℕ
first_new c r = first_of (entity_at (resolution_with c r) c.from c.until)

abbrev pub inserted : {A : Type 0} → ℕ → List A → List A → List A
inserted first new old = take first old ++ new ++ drop first old

-- a reason that is a position is the same position under its new number
abbrev pub moved : ℕ → ℕ → Option Reason → Option Reason
moved first count None = None
moved first count (Some (Touched f)) = Some (Touched f)
moved first count (Some (Spawned f)) = Some (Spawned f)
moved first count (Some (From p)) = Some (From (if nat_lt p first then p else p + count))

abbrev pub assignment_with : Cast → Assignment → Assignment
assignment_with c m = record {
  typed = resolution_with c m.typed;
  modes = inserted (first_new c m.typed) (targets c.to.levels) m.modes;
  reasons = map (moved (first_new c m.typed) (length (targets c.to.levels)))
      (inserted (first_new c m.typed) (replicate (length (targets c.to.levels)) None) m.reasons);
}
