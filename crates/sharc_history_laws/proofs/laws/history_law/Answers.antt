use Rattle.sharc_history_laws.proofs.{Imports.history_of, Locking.lock_runs, ModesKept.keeps_modes, Rules.{newest, obeyed}, Sets.clean_shares, Shared.shares, Since.one_mode}
use Rattle.sharc_history_laws.proofs.laws.history_law.Goals as goal

pub returns : goal.returns
returns c = λ x code s ls wt fits few run checked.
    let laws = c.invariant_laws.ensures.runs in
    let there = c.invariant_laws.ensures in
    let is_run = (laws.checked code s run).0 checked in
    let h = obeyed there.cells there.pointers there.rights laws c.invariant_laws.ensures.opens c.invariant_laws.ensures.keeps x code s ls wt fits few run is_run in
    let k = shares c.invariant_laws.ensures.states there.cells there.pointers there.rights laws c.invariant_laws.ensures.opens c.invariant_laws.ensures.keeps x code s ls wt fits few run is_run in
    let l = lock_runs there.cells there.pointers there.rights laws c.invariant_laws.ensures.opens c.invariant_laws.ensures.keeps x code s ls wt fits few run is_run in
    let o = keeps_modes c.invariant_laws.ensures.states there.cells there.pointers there.rights laws c.invariant_laws.ensures.opens c.invariant_laws.ensures.keeps x code s ls wt fits few run is_run in
    record {
      live = λ before e after a stands is. (h.allowed before e after stands a is).there;
      one_mode = one_mode (history_of code s run) o.same;
      owner = λ before e after a stands is private. (h.allowed before e after stands a is).owner private;
      unwritten = λ before e after a stands is readonly. (h.allowed before e after stands a is).unwritten readonly;
      under_lock = λ before e after a mutex stands is mode. (l.under before e after stands a is) mutex mode;
      shared = clean_shares (newest code s run) k.1.clean;
    }
