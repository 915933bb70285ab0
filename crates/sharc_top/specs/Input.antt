-- The input, where it is within a limit.
use Rattle.std.specs.{Prelude.{◌≡◌, ℕ, ◌<◌, ◌≤◌, List, length, Option, IfSome, Result, Ok, Err, Vec}, Global.Global}
use Rattle.sharc_top.specs.{declared.reply.Reply.Reply, declared.status.Status.TheVariants.SourceRefused, Text.line}

-- all that a source had left, which is within the limit; or the line that says that it is over it, where it is
abbrev pub IsInput : Option (List ℕ) → ℕ → List ℕ → Result (Vec ℕ Global) Reply → Type 0
IsInput left limit over (Ok bytes) = IfSome left (λ all. bytes.items ≡ all) × (length bytes.items ≤ limit)
IsInput left limit over (Err reply) =
    IfSome left (λ all. limit < length all) × (reply.status ≡ SourceRefused) × (reply.text.items ≡ line over)
