-- A run of one code is a run of each code that is alike, with the same end, the same text and the same outcome.
use Rattle.sharc_sound_laws.proofs.{Imports.{ℕ, List, sym, ◌∙◌, subst, Code, Shape, place_after, ThreadView, Standing, Ran, HasOutcome, reported, stuck, limited, done, IsEnd, IsRunText, IsScheduledRun, Stored, AreAlike, RunsAreAlike}, Threads.AreTheSame, Places.{checked_same, place_same, enabled_same, chosen_same, stuck_same, threads_same}, Texts.text_same}
use Rattle.sharc_run.specs.{declared.outcome.Outcome.Outcome, Outcome.stopped}

other_way : (g h : Standing) → AreTheSame g h → AreTheSame h g
other_way g h same = record { words = sym same.words; threads = λ t. sym (same.threads t); started = λ t. sym (same.started t); made = λ t. sym (same.made t) }

module _ (a b : Code) (alike : AreAlike a b) (back : AreAlike b a) (s : Shape) where
  outcome_same : (limit : ℕ) (g h : Standing) → AreTheSame g h → (threads : List ThreadView) (outcome : Outcome) → HasOutcome a s limit g threads outcome → HasOutcome b s limit h threads outcome
  outcome_same limit g h same threads outcome (reported some) = reported some
  outcome_same limit g h same threads outcome (stopped none some) = stopped none some
  outcome_same limit g h same threads outcome (stuck none is) = stuck none (stuck_same a b alike s g h same is)
  outcome_same limit g h same threads outcome (limited none not_stuck some) = limited none (λ is. not_stuck (stuck_same b a back s h g (other_way g h same) is)) some
  outcome_same limit g h same threads outcome (done none all) = done none all

  end_same : (limit : ℕ) (g h : Standing) → AreTheSame g h → (ran : Ran) → IsEnd a s limit g ran → IsEnd b s limit h ran
  end_same limit g h same ran end = record {
    threads = end.threads;
    started = threads_same a b alike s g h same end.threads end.started;
    text = subst (λ words. IsRunText b words end.threads ran.text.items) same.words (text_same a b alike g.words end.threads ran.text.items end.text);
    outcome = outcome_same limit g h same end.threads ran.outcome end.outcome;
  }

  scheduled_same : (places : List (ℕ × ℕ)) (limit : ℕ) (ran : Ran) → IsScheduledRun a s places limit ran → IsScheduledRun b s places limit ran
  scheduled_same places limit ran run = record {
    turns = run.turns;
    checked = checked_same a b alike s run.turns run.checked;
    chosen = chosen_same a b alike s (Stored places) limit run.turns run.chosen;
    over = λ t. sym (enabled_same a b alike s limit (place_after a s run.turns) (place_after b s run.turns) (place_same a b alike s run.turns) t) ∙ run.over t;
    ends = end_same limit (place_after a s run.turns) (place_after b s run.turns) (place_same a b alike s run.turns) ran run.ends;
  }

turned : (a b : Code) → AreAlike a b → AreAlike b a
turned a b alike = record {
  instrs = sym alike.instrs;
  functions = sym alike.functions;
  main = sym alike.main;
  globals = sym alike.globals;
  granules = sym alike.granules;
  initial = sym alike.initial;
  layouts = sym alike.layouts;
  pointers = sym alike.pointers;
  sites = λ n. let place = alike.sites n in record { site = sym place.site; at = sym place.at; mode = sym place.mode; lvalue = sym place.lvalue; lock = sym place.lock };
  files = sym alike.files;
}

pub runs_are_alike : RunsAreAlike
runs_are_alike a b alike s places limit ran run = scheduled_same a b alike (turned a b alike) s places limit ran run
