-- What becomes of a reply where it is written.
use Rattle.std.specs.{Prelude.{◌≡◌, ℕ, ◌<◌, List, length, take, Option, Result, Ok}, Io.KnownBytes.Appends}
use Rattle.sharc_top.specs.{declared.refused.Failure.Failure, declared.reply.Reply.Reply, Status.code_of}

-- there is a reply, it was written whole, and this is its exit status
pub record WritesAll (found : Result Reply Failure) (old new : Option (List ℕ)) (code : ℕ) : Type 0 where
  pub reply : Reply
  pub is : found ≡ Ok reply
  pub ends : code ≡ code_of reply.status
  pub written : Appends old new reply.text.items

-- there is a reply, and a front part of it was written, not all
pub record WritesPart (found : Result Reply Failure) (old new : Option (List ℕ)) : Type 0 where
  pub reply : Reply
  pub is : found ≡ Ok reply
  pub count : ℕ
  pub short : count < length reply.text.items
  pub written : Appends old new (take count reply.text.items)
