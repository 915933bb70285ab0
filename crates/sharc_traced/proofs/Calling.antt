-- What the call writes is the reply to its words and its input, and how it ends.
use Rattle.std.proofs.{Common.{◌≡◌, ℕ, ◌+◌, ◌<◌, ◌≤◌, List, [], length, replicate, take, Option, Some, None, IfSome, unwrap_or, refl, sym, subst, arith}, lemmas.List.length-replicate}
use Rattle.std.specs.{Prelude.{codes, IfOk, Result, Ok, Err}, Io.KnownBytes.Appends, declared.alloc.AllocError.AllocError}
use Rattle.sharc_top.specs.declared.status.Status.TheVariants as answers
use Rattle.sharc_top.specs.{Limits.recording_limit, Text.line}
use Rattle.sharc_traced.specs.{declared.reply.Reply.Reply, declared.status.Status.Status, declared.words.Form.Form, Replies.{form_of, IsPlain, InputReplies, IsTraceReply, Replied, RepliedInPart, IsOfReply}}
use Rattle.sharc_traced.specs.declared.status.Status.TheVariants as status
use Rattle.sharc_traced.specs.Replies as replies
use Rattle.sharc_traced.proofs.Replying.{of_input}
use Rattle.sharc_lemmas.proofs.Lists.{told_left}

-- ---- the reply to the words and an input
-- an input that is longer than a number, and what a source had left where it reports it
record LongInput (left : Option (List ℕ)) (limit : ℕ) : Type 0 where
  input : List ℕ
  told : IfSome left (λ bytes. input ≡ bytes)
  long : limit < length input

input_over : (left : Option (List ℕ)) (limit : ℕ) → IfSome left (λ bytes. limit < length bytes) → LongInput left limit
input_over None limit h = record { input = replicate (limit + 1) 0; told = tt; long = omega (arith, length-replicate {A = ℕ} (limit + 1) 0) }
input_over (Some bytes) limit h = record { input = bytes; told = refl; long = h }

-- what was made is the reply, where memory was found for it
found : (t : Result Reply AllocError) (r : Result Reply Status) (P Q : Reply → Type 0) → IfOk r (λ (reply : Reply). t ≡ Ok reply) → IfOk t P → ((reply : Reply) → P reply → Q reply) → IfOk r Q
found t (Ok reply) P Q same of weaker = weaker reply (subst (λ (x : Result Reply AllocError). IfOk x P) same of)
found t (Err e) P Q same of weaker = tt

pub reply_usage : (words : List (List ℕ)) (left : Option (List ℕ)) (r : Result Reply Status) → form_of words ≡ None → IfOk r (λ (reply : Reply). IsPlain reply status.Usage (line (codes "usage: [--places]"))) → IfOk r (IsTraceReply words left)
reply_usage words left (Ok reply) none plain = record { input = unwrap_or left []; told = told_left left; reply_is = replies.usage none plain }
reply_usage words left (Err e) none plain = tt

pub reply_long_recording : (words : List (List ℕ)) (f : Form) (left : Option (List ℕ)) (t : Result Reply AllocError) (r : Result Reply Status) → form_of words ≡ Some f → IfSome left (λ bytes. 1073741824 < length bytes)
    → IfOk t (λ (reply : Reply). IsPlain reply (status.Refused answers.SourceRefused) (line (codes "file over 1073741824 bytes"))) → IfOk r (λ (reply : Reply). t ≡ Ok reply) → IfOk r (IsTraceReply words left)
reply_long_recording words f left t r is over plain same =
    let l = input_over left recording_limit over in
    found t r _ (IsTraceReply words left) same plain (λ reply p. record { input = l.input; told = l.told; reply_is = replies.long_recording f is l.long p })

pub reply_read : (words : List (List ℕ)) (f : Form) (left : Option (List ℕ)) (input bytes : List ℕ) (t : Result Reply AllocError) (r : Result Reply Status) → form_of words ≡ Some f → IfSome left (λ all. input ≡ all)
    → length input ≤ 1073741824 → bytes ≡ input → IfOk t (InputReplies f bytes) → IfOk r (λ (reply : Reply). t ≡ Ok reply) → IfOk r (IsTraceReply words left)
reply_read words f left input bytes t r is told short read of same =
    found t r (InputReplies f bytes) (IsTraceReply words left) same of
    (λ reply p. record { input = input; told = told; reply_is = replies.read f is short (subst (λ (xs : List ℕ). InputReplies f xs reply) read p) })

-- ---- its status
of_plain : (reply : Reply) (s : Status) (text : List ℕ) → IsOfReply s → IsPlain reply s text → IsOfReply reply.status
of_plain reply s text is plain = subst IsOfReply (sym plain.status) is

pub usage_written : (r : Result Reply Status) → IfOk r (λ (reply : Reply). IsPlain reply status.Usage (line (codes "usage: [--places]"))) → IfOk r (λ (reply : Reply). IsOfReply reply.status)
usage_written (Ok reply) plain = of_plain reply status.Usage _ tt plain
usage_written (Err e) plain = tt

pub refusal_written : (text : List ℕ) (t : Result Reply AllocError) (r : Result Reply Status) → IfOk t (λ (reply : Reply). IsPlain reply (status.Refused answers.SourceRefused) text) → IfOk r (λ (reply : Reply). t ≡ Ok reply)
    → IfOk r (λ (reply : Reply). IsOfReply reply.status)
refusal_written text t r plain same = found t r _ (λ (reply : Reply). IsOfReply reply.status) same plain (λ reply p. of_plain reply (status.Refused answers.SourceRefused) text tt p)

pub reply_written : (f : Form) (input : List ℕ) (t : Result Reply AllocError) (r : Result Reply Status) → IfOk t (InputReplies f input) → IfOk r (λ (reply : Reply). t ≡ Ok reply) → IfOk r (λ (reply : Reply). IsOfReply reply.status)
reply_written f input t r of same = found t r (InputReplies f input) (λ (reply : Reply). IsOfReply reply.status) same of (of_input f input)

-- ---- what is written of it
pub replied : (words : List (List ℕ)) (left old new : Option (List ℕ)) (reply : Reply) (bytes : List ℕ) → IsTraceReply words left reply → bytes ≡ reply.text.items → Appends old new bytes
    → Replied words left old new record { status = reply.status; why = reply.why }
replied words left old new reply bytes is same written = record { reply = reply; is = is; status = refl; why = refl; written = subst (Appends old new) same written }

pub replied_in_part : (words : List (List ℕ)) (left old new : Option (List ℕ)) (reply : Reply) (bytes : List ℕ) (count : ℕ) → IsTraceReply words left reply → bytes ≡ reply.text.items → count < length bytes
    → Appends old new (take count bytes) → RepliedInPart words left old new
replied_in_part words left old new reply bytes count is same short written = record {
  reply = reply;
  is = is;
  count = count;
  short = subst (λ (xs : List ℕ). count < length xs) same short;
  written = subst (λ (xs : List ℕ). Appends old new (take count xs)) same written;
}
