-- The least of the chosen functions that name a global, name by name.
use Rattle.std.specs.Prelude.{ℕ, min, Bool, true, false, List, Option, None, Some, slice_index_or, slice_set}
use Rattle.sharc_names.specs.declared.fault.Named.{Named}
use Rattle.sharc_names.specs.declared.fault.Named.TheVariants as named
use Rattle.sharc_ctype.specs.Resolved.{Resolution, named_at}
use Rattle.sharc_reach.specs.{declared.mention.Mention.Mention, Reaching.is_chosen}

abbrev pub global_named : Named → Option ℕ
global_named (named.Global n) = Some n
global_named (named.Struct n) = None
global_named (named.Function n) = None
global_named (named.Variable token) = None
global_named (named.Field token) = None
global_named named.Known = None

abbrev pub lower : Option ℕ → ℕ → ℕ
lower None function = function
lower (Some first) function = min first function

abbrev pub lowered : ℕ → ℕ → List (Option ℕ) → List (Option ℕ)
lowered global function firsts = slice_set firsts global (Some (lower (slice_index_or firsts global None) function))

-- one name more, of a function that is chosen or not
abbrev pub named_by : Bool → Option ℕ → ℕ → List (Option ℕ) → List (Option ℕ)
named_by false what function firsts = firsts
named_by true None function firsts = firsts
named_by true (Some global) function firsts = lowered global function firsts

abbrev pub lowered_by : Resolution → List Bool → List (Option ℕ) → Mention → List (Option ℕ)
lowered_by r chosen firsts m =
    named_by (is_chosen chosen m.function) (global_named (named_at r m.token)) m.function firsts
