use Rattle.sharc_history_laws.proofs.{Broken.all_break, Consists.consists, Ends.{all_causes, all_named}, Wholes.TheLaws}
use Rattle.sharc_history_laws.proofs.laws.causes_law.Goals as goal

-- the laws, as the calls promise them
laws_of : goal.After-shadow_laws → TheLaws
laws_of c = record {
  shadow = c.shadow_laws.ensures;
  state = c.invariant_laws.ensures.states;
  cells = c.invariant_laws.ensures.cells;
  pointers = c.invariant_laws.ensures.pointers;
  rights = c.invariant_laws.ensures.rights;
  run = c.invariant_laws.ensures.runs;
  begins = c.invariant_laws.ensures.opens;
  keeps = c.invariant_laws.ensures.keeps;
  bits = c.runs_bits.ensures;
  conflicts = c.runs_report.ensures.conflicts;
}

pub returns-clause-causes : goal.returns-clause-causes
returns-clause-causes c = λ x code s ls wt fits few followed run checked t conflict stop.
    let laws = laws_of c in
    all_causes laws x code s ls (record { wt = wt; fits = fits; few = few }) run ((laws.run.checked code s run).0 checked) t conflict stop followed

pub returns-clause-rules : goal.returns-clause-rules
returns-clause-rules c = λ x code s ls wt fits few followed run checked t conflict stop.
    let laws = laws_of c in
    all_break laws x code s ls (record { wt = wt; fits = fits; few = few }) followed run ((laws.run.checked code s run).0 checked) t conflict stop

pub returns-clause-named : goal.returns-clause-named
returns-clause-named c = λ x code s ls wt fits few run checked t conflict stop.
    let laws = laws_of c in
    all_named laws x code s ls (record { wt = wt; fits = fits; few = few }) run ((laws.run.checked code s run).0 checked) t conflict stop

pub returns-clause-unstarted : goal.returns-clause-unstarted
returns-clause-unstarted c = λ x code s ls wt fits few run checked u off.
    let there = c.invariant_laws.ensures in
    let laws = c.invariant_laws.ensures.runs in
    ((consists laws c.invariant_laws.ensures.opens c.invariant_laws.ensures.keeps there.cells there.pointers x code s ls wt fits few run ((laws.checked code s run).0 checked)).state.threads u).waits off
