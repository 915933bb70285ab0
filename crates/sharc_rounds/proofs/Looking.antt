-- Words between two rounds, when some are looked at.
use Rattle.std.proofs.Common.{◌≡◌, ℕ, List, length, Option, Some, None, slice_index, sym, ap, ◌∙◌, subst}
use Rattle.std.specs.Prelude.{◌&&◌, nat_lt, nat_eq}
use Rattle.sharc_word.specs.declared.step.TheConstants.{THREADS}
use Rattle.sharc_code.specs.{declared.code.Code.Code, declared.shape.Shape.Shape, Layout.state_word, Runs.is_started, Whole.bounds}
use Rattle.sharc_cpu.specs.Thread.{ThreadView}
use Rattle.sharc_threads.specs.Seats.{HasBegun}
use Rattle.sharc_bus.specs.Bus.{BusView, RestView, IsOf}
use Rattle.sharc_rounds.specs.{declared.words.Words.Words, declared.round.Rounds.Rounds, Round.{AreWords, SameWords, KeptBus, AreRounds}}

started_same : (one other : List ℕ) (t : ℕ) → slice_index one (state_word t) ≡ slice_index other (state_word t) → is_started bounds one t ≡ is_started bounds other t
started_same one other t e = ap (λ k. nat_lt t THREADS && nat_eq k 1) e

-- who begins is determined by the state words alone
pub begun_same : (code : Code) (s : Shape) (one other : List ℕ) (t : ℕ) (old new : Option ThreadView) → slice_index one (state_word t) ≡ slice_index other (state_word t) → HasBegun code s one t old new → HasBegun code s other t old new
begun_same code s one other t (Some old) new e h = h
begun_same code s one other t None None e h = sym (started_same one other t e) ∙ h
begun_same code s one other t None (Some new) e h = (sym (started_same one other t e) ∙ h.0, h.1)

pub are_kept : (old new : Words) → AreWords old → KeptBus old new → length new.rest.words ≡ length old.rest.words → AreWords new
are_kept old new are kept count = record {
  of = kept.of;
  ports = ap (λ (b : BusView). b.ports) kept.bus ∙ are.ports;
  opening = ap (λ (b : BusView). length b.opening) kept.bus ∙ are.opening ∙ sym kept.count;
  count = count ∙ are.count ∙ sym kept.count;
}

pub are_same : (old new : Words) → AreWords old → SameWords old new → AreWords new
are_same old new are same = record {
  of = subst (λ (b : BusView). IsOf b new.rest) (sym same.bus) (subst (λ (r : RestView). IsOf old.bus r) (sym same.rest) are.of);
  ports = ap (λ (b : BusView). b.ports) same.bus ∙ are.ports;
  opening = ap (λ (b : BusView). length b.opening) same.bus ∙ are.opening ∙ sym same.count;
  count = ap (λ (r : RestView). length r.words) same.rest ∙ are.count ∙ sym same.count;
}

-- a look leaves the run where it is
pub rounds_same : (code : Code) (s : Shape) (limit : ℕ) (old : Rounds) (words : Words) → AreRounds code s limit old → SameWords old.words words → AreRounds code s limit record { threads = old.threads; words = words }
rounds_same code s limit old words r same = record {
  turns = r.turns;
  kept = are_same old.words words r.kept same;
  count = ap (λ (v : RestView). length v.words) same.rest ∙ r.count;
  run = r.run;
  few = r.few;
  words = ap (λ (v : RestView). v.words) same.rest ∙ r.words;
  seats = r.seats;
}
