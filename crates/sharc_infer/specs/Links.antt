-- The links of what is given, with the token of the function whose result is meant.
use Rattle.std.specs.{Prelude.{ℕ, List, Option, Some}, List.flat_map}
use Rattle.sharc_graph.specs.declared.place.Link.{Link}
use Rattle.sharc_tree.specs.Tree.{Expression}
use Rattle.sharc_ctype.specs.{Resolved.Resolution, Transfers.{Receiver, lvalue, variable, result, Transfer}}
use Rattle.sharc_mode.specs.{Flows.{equal_rows, source_row, cast_links}, Rows.{Targets, written, declared_row, row_at}}

abbrev pub given_row : Resolution → ℕ → Receiver → Option Targets
given_row r function (lvalue u) = row_at r u
given_row r function (variable d) = Some (declared_row r written d.name.site.token)
given_row r function (result w) = Some (declared_row r written function)

abbrev pub given_by : Resolution → ℕ → Transfer → List Link
given_by r function t = equal_rows (given_row r function t.receiver) (source_row r t.source)

abbrev pub given : Resolution → ℕ → List Transfer → List Link
given r function = flat_map (given_by r function)

abbrev pub casts_in : Resolution → List Expression → List Link
casts_in r = flat_map (cast_links r)
