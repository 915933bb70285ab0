use Rattle.sharc_reply_laws.proofs.{Imports.{ℕ, ◌<◌, ◌^◌, ◌∷◌, false, subst, arith, CheckedRun, IsSmall, targets_of}, Reported.reported}
use Rattle.sharc_reply_laws.proofs.laws.built_runs_tell.Goals as goal

narrow : (n : ℕ) → n < 2 ^ 32 → n < 2 ^ 64
narrow n h = omega arith

pub returns : goal.returns
returns c = λ source built is.
    let m = built.checked in
    let code = built.code in
    let x = targets_of m in
    let made = is.compiled in
    let p = c.built_is_source.ensures source built is in
    let w = c.built_is_typed.ensures source built is in
    let ls = w.0 in
    let wt = w.1 in
    let initial = c.made_code_begins.ensures m p.typed.resolved p.unsigned made.flat made.flattens code made.coded in
    record {
      ls = ls;
      typed = wt;
      runs = λ s fits run checked.
          let few : IsSmall code s = record { counts = c.range_laws.ensures.counts code s is.numbers fits; functions = narrow _ is.numbers.functions } in
          let sound = c.built_is_sound_if_typed.ensures source built is x ls wt s fits run checked in
          let stands = c.typed_runs_stand.ensures m p.typed made.flat made.flattens made.fits code made.coded x ls wt s fits few run checked in
          record {
            source = sound.source;
            obeys = sound.obeys;
            prints = λ threads are prints order. c.prints_law.ensures code s fits run checked threads are prints order;
            threads = λ thread. c.threads_tell.ensures m p.typed made.flat made.flattens made.fits code made.coded x s ls wt fits few run checked thread;
            reports = λ threads are t stop at report. reported c.seen_law.ensures.begins m code s ls run checked stands
                (λ before was check kind granule site made' a access. c.accesses_are_wanted.ensures m p made.flat made.flattens made.fits code made.coded x s ls wt fits few before was check kind granule site false made' a access)
                (λ t report stopped at j kind site shown. c.refused_are_wanted.ensures m p made.flat made.flattens made.fits code made.coded x s ls wt fits few run checked t report stopped at j kind site shown)
                (λ t site word stopped at shows. c.locks_are_wanted.ensures m p made.flat made.flattens made.fits code made.coded x s ls wt fits few run checked t site word stopped at shows)
                (λ t stop stopped at report. c.built_reports_show_if_typed.ensures source built is x ls wt s fits run checked t stop stopped at report)
                (λ t site count at. c.reports_show_cause.ensures m p made.flat made.flattens made.fits code made.coded s ls wt fits few initial run checked t site count at)
                (λ t site count wants_it finds. c.given_are_tested.ensures m p made.flat made.flattens made.fits code made.coded x s ls wt fits few run checked t site count wants_it finds)
                threads are t stop (c.stops_law.ensures code s run checked t stop at) at report;
            unreported = λ always. c.built_obeying_is_unreported_if_typed.ensures source built is x ls wt always s fits run checked;
            deadlock = λ stuck. c.built_stuck_is_deadlock_if_typed.ensures source built is x ls wt s fits run checked stuck;
            sole = λ later test earlier is register passes holder there.
                c.tested_are_only.ensures m p made.flat made.flattens made.fits code made.coded s ls wt fits few initial test earlier
                (c.seen_law.ensures.begins code s later (test ∷ earlier) (subst (CheckedRun code s) is checked)) register passes holder there;
            places = stands.places;
            checks = stands.checks;
          };
    }
