-- The warnings of a program: its reads of locals that a sharing cast or `free` may have nulled.
use Rattle.std.specs.Prelude.{◌≡◌, ℕ, ◌<◌, ◌≤◌, List, [], ◌∷◌, Contains, Option, Some, None, slice_get}
use Rattle.sharc_tree.specs.{declared.token.Site.Site, declared.token.Token.Token, Tree.Function}
use Rattle.sharc_ctype.specs.Resolved.{Resolution, functions_in}
use Rattle.sharc_mode.specs.{declared.error.Warning.Warning, Sharings.text_at}
use Rattle.sharc_dataflow.specs.{Uses.IsUse, declared.way.FlowWarning.FlowWarning}
use Rattle.sharc_live.specs.Flows.{function_flow}

-- the place of a token, by its number

abbrev pub site_of : ℕ → Option Token → Site
site_of n None = record { file = 0; line = 0; token = n }
site_of n (Some t) = record { file = t.file; line = t.line; token = n }

abbrev pub site_at : Resolution → ℕ → Site
site_at r n = site_of n (slice_get r.program.tokens.list n)

-- the warning of the read at one token, of a local that is nulled at another
abbrev pub warning_at : Resolution → FlowWarning → Warning
warning_at r w = record { read = site_at r w.read; nulled = site_at r w.since; name = text_at r w.read }

-- in one of these functions a path leads from a nulling of a local at k to its read, with no write of it between
pub record IsUseAmong (r : Resolution) (functions : List Function) (k read : ℕ) : Type 0 where
  pub function : Function
  pub among : Contains functions function
  pub is_use : IsUse (function_flow r function) k read

-- in one of the program
abbrev pub IsUseIn : Resolution → ℕ → ℕ → Type 0
IsUseIn r k read = IsUseAmong r (functions_in r.program.items) k read

-- the read has a warning, which names the nulling at k or an earlier one
pub record IsWarned (list : List Warning) (k read : ℕ) : Type 0 where
  pub warning : Warning
  pub has : Contains list warning
  pub reads : warning.read.token ≡ read
  pub first : warning.nulled.token ≤ k

-- by the places of the reads, one for each read
abbrev pub InOrder : List Warning → Type 0
InOrder [] = Unit {0}
InOrder (a ∷ []) = Unit {0}
InOrder (a ∷ (b ∷ l)) = (a.read.token < b.read.token) × InOrder (b ∷ l)

pub record IsWarning (r : Resolution) (w : Warning) : Type 0 where
  pub is : w ≡ warning_at r (record { read = w.read.token; since = w.nulled.token })
  pub is_use : IsUseIn r w.nulled.token w.read.token

-- Each read to which such a path leads has one warning, and there are no others. It names the first nulling, in source
-- order, from which such a path leads.
pub record AreWarnings (r : Resolution) (list : List Warning) : Type 0 where
  pub ordered : InOrder list
  pub only : (w : Warning) → Contains list w → IsWarning r w
  pub all : (k read : ℕ) → IsUseIn r k read → IsWarned list k read
