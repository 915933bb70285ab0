-- What is written of a recorded file is its reply, and with which statuses that ends.
use Rattle.std.proofs.Common.{◌≡◌, ℕ, ◌<◌, List, length, sym, subst}
use Rattle.std.specs.{Prelude.{codes, IfOk, Result, Ok, Err}, declared.alloc.AllocError.AllocError}
use Rattle.sharc_build.specs.{declared.building.Built.Built, Built.IsBuilt}
use Rattle.sharc_code.specs.{declared.shape.Shape.Shape, Layout.Fits, Runs.Turn}
use Rattle.sharc_schedule.specs.{Schedule.Stored, File.{FileView, IsFile}}
use Rattle.sharc_seq.specs.Run.{AreChosen}
use Rattle.sharc_history.specs.{declared.history.History.History, History.{IsAccountOf, IsHistory}}
use Rattle.sharc_traced.specs.declared.cut.Cut.{Cut}
use Rattle.sharc_traced.specs.declared.cut.Cut.TheVariants as cuts
use Rattle.sharc_top.specs.{declared.reply.Reply.{Reply as Answer}, Limits.source_limit, Refused.IsBuiltOrRefused, Text.line}
use Rattle.sharc_top.specs.declared.status.Status.TheVariants as answers
use Rattle.sharc_traced.specs.{declared.reply.Reply.Reply, declared.words.Form.Form, Replies.{status_by, IsFileOfRun, IsPlacesOf, IsRunOf, IsOfRun, IsTraced, IsPlain, FileReplies, InputReplies, IsOfReply}}
use Rattle.sharc_traced.specs.declared.status.Status.TheVariants as status
use Rattle.sharc_traced.specs.declared.words.Form.TheVariants as form
use Rattle.sharc_traced.specs.Replies as replies

of_cut : (c : Cut) → IsOfReply (status_by c)
of_cut cuts.Whole = tt
of_cut cuts.NoLine = tt
of_cut cuts.Many = tt
of_cut cuts.Fuel = tt
of_cut (cuts.Refused fault) = tt

of_run : (f : Form) (file : FileView) (built : Built) (s : Shape) (turns : List Turn) (reply : Reply) → IsOfRun f file built s turns reply → IsOfReply reply.status
of_run form.File file built s turns reply is = subst IsOfReply (sym is.is.status) (of_cut is.is.front.cut)
of_run form.Places file built s turns reply is = subst IsOfReply (sym is.status) tt

of_file : (f : Form) (file : FileView) (reply : Reply) → FileReplies f file reply → IsOfReply reply.status
of_file f file reply (replies.long_source long plain) = subst IsOfReply (sym plain.status) tt
of_file f file reply (replies.refused s text refuses plain) = subst IsOfReply (sym plain.status) tt
of_file f file reply (replies.traced built is traced) = of_run f file built traced.shape traced.turns reply traced.is

-- a reply to an input ends with a status of replies
pub of_input : (f : Form) (input : List ℕ) (reply : Reply) → InputReplies f input reply → IsOfReply reply.status
of_input f input reply (replies.no_recording n fault plain) = subst IsOfReply (sym plain.status) tt
of_input f input reply (replies.recorded file is of) = of_file f file reply of

-- ---- the run of a file
-- the run of a history is the one that the file chooses
run_of : (file : FileView) (built : Built) (s : Shape) (places : List (ℕ × ℕ)) (h : History) → Fits built.code s → s.heap ≡ file.heap → places ≡ file.places → (his : IsHistory built.code s places file.limit h)
    → IsRunOf file built.code s his.turns
run_of file built s places h fits heap same his = record {
  fits = fits;
  heap = heap;
  checked = his.checked;
  chosen = subst (λ (ps : List (ℕ × ℕ)). AreChosen (Stored ps) built.code s file.limit his.turns) same his.chosen;
  over = his.over;
}

-- so the event file of it is what is written
pub file_traced : (f : Form) (file : FileView) (built : Built) (s : Shape) (places : List (ℕ × ℕ)) (source : List ℕ) (h : History) (r : Result Reply AllocError) → f ≡ form.File → Fits built.code s → s.heap ≡ file.heap
    → places ≡ file.places → source ≡ file.source → IsHistory built.code s places file.limit h
    → IfOk r (λ (reply : Reply). (s : Shape) (turns : List Turn) → IsAccountOf built.code s turns h → IsFileOfRun built.checked built.code source s turns reply)
    → IfOk r (IsTraced f file built)
file_traced form.File file built s places source h (Ok reply) is fits heap same text his given = record {
  shape = s;
  turns = his.turns;
  run = run_of file built s places h fits heap same his;
  is = subst (λ (bytes : List ℕ). IsFileOfRun built.checked built.code bytes s his.turns reply) text (given s his.turns his.account);
}
file_traced form.Places file built s places source h (Ok reply) is fits heap same text his given = absurd (cc)
file_traced f file built s places source h (Err e) is fits heap same text his given = tt

-- or its lines
pub places_traced : (f : Form) (file : FileView) (built : Built) (s : Shape) (places : List (ℕ × ℕ)) (h : History) (r : Result Reply AllocError) → f ≡ form.Places → Fits built.code s → s.heap ≡ file.heap
    → places ≡ file.places → IsHistory built.code s places file.limit h
    → IfOk r (λ (reply : Reply). (s : Shape) (turns : List Turn) → IsAccountOf built.code s turns h → IsPlacesOf built.code s turns reply)
    → IfOk r (IsTraced f file built)
places_traced form.Places file built s places h (Ok reply) is fits heap same his given = record {
  shape = s;
  turns = his.turns;
  run = run_of file built s places h fits heap same his;
  is = given s his.turns his.account;
}
places_traced form.File file built s places h (Ok reply) is fits heap same his given = absurd (cc)
places_traced f file built s places h (Err e) is fits heap same his given = tt

-- ---- a file
pub reply_built : (f : Form) (file : FileView) (source : List ℕ) (b : Result Built Answer) (built : Built) (r : Result Reply AllocError) → source ≡ file.source → b ≡ Ok built → IsBuiltOrRefused source b → IfOk r (IsTraced f file built)
    → IfOk r (FileReplies f file)
reply_built f file source b built (Ok reply) same is told traced =
    let of : IsBuilt source built = subst (IsBuiltOrRefused source) is told in
    replies.traced built (subst (λ (bytes : List ℕ). IsBuilt bytes built) same of) traced
reply_built f file source b built (Err e) same is told traced = tt

pub reply_refused : (f : Form) (file : FileView) (source : List ℕ) (b : Result Built Answer) (answer : Answer) (reply : Reply) → source ≡ file.source → b ≡ Err answer → IsBuiltOrRefused source b
    → IsPlain reply (status.Refused answer.status) answer.text.items → FileReplies f file reply
reply_refused f file source b answer reply same is told plain =
    replies.refused answer.status answer.text.items (subst (λ (bytes : List ℕ). IsBuiltOrRefused bytes (Err answer)) same (subst (IsBuiltOrRefused source) is told)) plain

-- ---- an input
pub reply_long_source : (f : Form) (input : List ℕ) (file : FileView) (r : Result Reply AllocError) → IsFile input file → source_limit < length file.source
    → IfOk r (λ (reply : Reply). IsPlain reply (status.Refused answers.SourceRefused) (line (codes "source over 1048576 bytes"))) → IfOk r (InputReplies f input)
reply_long_source f input file (Ok reply) is long plain = replies.recorded file is (replies.long_source long plain)
reply_long_source f input file (Err e) is long plain = tt

pub reply_recorded : (f : Form) (input : List ℕ) (file : FileView) (r : Result Reply AllocError) → IsFile input file → IfOk r (FileReplies f file) → IfOk r (InputReplies f input)
reply_recorded f input file (Ok reply) is of = replies.recorded file is of
reply_recorded f input file (Err e) is of = tt
