-- The reply to an event file whose source is a program with accepted modes is that of its verdict.
use Rattle.sharc_reply_laws.proofs.{Imports.{◌≡◌, ℕ, List, Option, Some, ap, ◌∙◌, subst, Appends, Assignment, Verdict, EventLine, Audits, verdict_line, Status, Replies, IsReply, Replied, code_of, IsAudited, IsVerdict}, Judged.{FileReplyLaws, file_only}, Replying.is_file_reply}
use Rattle.sharc_top.specs.EventFiles.{status_of}

module _ (laws : FileReplyLaws) (words : List (List ℕ)) (input : List ℕ) (m : Assignment) (fuel : ℕ) (events : List EventLine) where
  pub audit_only : IsAudited words input m fuel events → (s : Status) (text : List ℕ) → IsReply words (Some input) s text → IsVerdict m fuel events s text
  audit_only is s text reply =
      file_only laws input is.source m fuel events s text is.file is.within is.front is.meets (is_file_reply words input s text is.asked (subst (λ (l : List ℕ). Replies words l s text) reply.told reply.reply))

  pub audit_told : IsAudited words input m fuel events → (v : Verdict) → Audits m fuel events v → (old new : Option (List ℕ)) (code : ℕ) → Replied words (Some input) old new code
      → (code ≡ code_of (status_of v)) × Appends old new (verdict_line fuel v)
  audit_told is v audits old new code replied =
      let only = audit_only is replied.status replied.text replied.reply in
      let same : only.verdict ≡ v = laws.verdicts m fuel events only.verdict v is.front.typed.resolved only.audits audits in
      (replied.ends ∙ ap code_of (only.ends ∙ ap status_of same), subst (Appends old new) (only.written ∙ ap (verdict_line fuel) same) replied.written)
