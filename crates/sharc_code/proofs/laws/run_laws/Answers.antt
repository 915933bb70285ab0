use Rattle.sharc_code.proofs.{Imports.{arith, opening_words, one_thread, bounds, opening_of, made_now, state_now}, Places.{put_same, put_other}, ByTurns.{at_join, runs_join, runs_part, words_are, threads_are, started_are, made_are, checked_runs, runs_checked, room, erased, is_scheduled}, Merged.{merge, round_checked, round_words, round_threads}, Paths.path_of}
use Rattle.sharc_code.proofs.laws.run_laws.Goals as goal

pub returns : goal.returns
returns c = let laws = c.history_laws.ensures in record {
  checked = λ code s turns.
      let m = one_thread code s in
      let from = opening_of bounds m (opening_words code s) in
      (checked_runs laws bounds m from turns, runs_checked laws bounds m from (λ t. omega arith) turns);
  from_places = λ b code s from turns fits. (checked_runs laws b (one_thread code s) from turns, runs_checked laws b (one_thread code s) from fits turns);
  join = λ b code s from later earlier. ((λ h. runs_part b (one_thread code s) from later earlier h), (λ h. runs_join b (one_thread code s) from later earlier h.0 h.1));
  places_join = λ b code s from later earlier. at_join b (one_thread code s) from later earlier;
  stands = λ b code s from turns. record {
    words = words_are laws b (one_thread code s) from turns;
    threads = threads_are laws b (one_thread code s) from turns;
    started = started_are laws b (one_thread code s) from turns;
    made = made_are laws b (one_thread code s) from turns;
  };
  few = λ b code s from turns fits run. room laws b (one_thread code s) from fits turns run;
  counts = λ b code s g turn. put_same g.made turn.thread (made_now (one_thread code s) g turn);
  others = λ b code s g turn other ne.
      (put_other g.threads turn.thread other (state_now (one_thread code s) g turn) ne, put_other g.made turn.thread other (made_now (one_thread code s) g turn) ne);
  stopped = λ b code s g turn off may. absurd (cc);
  erased = λ b code s from turns t. erased laws b (one_thread code s) from turns t;
  is_scheduled = λ b code s from turns run. is_scheduled laws b (one_thread code s) from turns run;
  paths = λ code s t m founds path. path_of code s t m founds path;
  rounds = λ b code s from n paths history parts round.
      let m = one_thread code s in
      let x = merge n paths history parts in
      record {
        turns = x.turns;
        parts = x.parts;
        events = x.events;
        run = round_checked b m from paths history round x;
        words = round_words laws b m from paths history x;
        threads = round_threads laws b m from paths history x;
      };
  turns = c.thread_laws.ensures;
}
