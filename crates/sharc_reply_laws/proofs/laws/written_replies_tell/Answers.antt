use Rattle.sharc_reply_laws.proofs.Imports.{List, ℕ, subst, Replies}
use Rattle.sharc_reply_laws.proofs.laws.written_replies_tell.Goals as goal

pub returns-clause-whole : goal.returns-clause-whole
returns-clause-whole c = λ words input o asks m front meets old new code replied.
    let is = replied.reply in
    record {
      status = replied.status;
      reply = replied.text;
      tells = c.replies_tell.ensures words input o asks m front meets replied.status replied.text (subst (λ (l : List ℕ). Replies words l replied.status replied.text) is.told is.reply);
      ends = replied.ends;
      written = replied.written;
    }

pub returns-clause-cut : goal.returns-clause-cut
returns-clause-cut c = λ words input o asks m front meets old new part.
    let is = part.reply in
    record {
      status = part.status;
      reply = part.text;
      tells = c.replies_tell.ensures words input o asks m front meets part.status part.text (subst (λ (l : List ℕ). Replies words l part.status part.text) is.told is.reply);
      count = part.count;
      short = part.short;
      written = part.written;
    }
