-- Counts that rose, over several calls.
use Rattle.std.proofs.Common.{◌≤◌}
