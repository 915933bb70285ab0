use Rattle.sharc_history_laws.proofs.{Imports.{List, [], ◌∷◌, ◌++◌, subst, Code, Shape, opening_words, Turn, IsRun, opening_of, one_thread, bounds, place_after, history_of}, Consists.consists, Followed.of_check, Logged.lacking, LockShown.{locks_named, shows_lock, breaks}}
use Rattle.sharc_history_laws.proofs.laws.followed_law.Goals as goal

-- an earlier part of a run is one
earlier_run : (code : Code) (s : Shape) (later : List Turn) (check : Turn) (earlier : List Turn) → IsRun bounds (one_thread code s) (opening_of bounds (one_thread code s) (opening_words code s)) (later ++ check ∷ earlier)
    → IsRun bounds (one_thread code s) (opening_of bounds (one_thread code s) (opening_words code s)) earlier
earlier_run code s [] check earlier run = run.0
earlier_run code s (one ∷ later) check earlier run = earlier_run code s later check earlier run.0

pub returns-clause-accesses : goal.returns-clause-accesses
returns-clause-accesses c = λ x code s ls wt fits few followed run later check earlier checked parts j kind granule site passed is.
    let laws = c.invariant_laws.ensures.runs in
    let there = c.invariant_laws.ensures in
    let is_run = (laws.checked code s run).0 checked in
    let before = earlier_run code s later check earlier (subst (λ run. IsRun bounds (one_thread code s) (opening_of bounds (one_thread code s) (opening_words code s)) run) parts is_run) in
    let h = consists laws c.invariant_laws.ensures.opens c.invariant_laws.ensures.keeps there.cells there.pointers x code s ls wt fits few earlier before in
    of_check code s followed check earlier ((h.state.threads check.thread).has.number) later j kind granule site passed is

pub returns-clause-locks : goal.returns-clause-locks
returns-clause-locks c = λ x code s ls wt fits few followed run checked t site word stop.
    let laws = c.invariant_laws.ensures.runs in
    let there = c.invariant_laws.ensures in
    let is_run = (laws.checked code s run).0 checked in
    let lacks = lacking there.cells there.pointers there.rights laws c.invariant_laws.ensures.opens c.invariant_laws.ensures.keeps x code s ls wt fits few in
    let named = locks_named laws.turns.outcomes there.cells x code s ls wt fits followed (λ run is_run. record { halts = (lacks run is_run).1.halts }) (λ run is_run. (lacks run is_run).0) run is_run t site word stop in
    shows_lock code (history_of code s run) t ((place_after code s run).threads t) site ((lacks run is_run).1.shows t site word stop) named.mutex named.check named.access named.is named.mode

pub returns-clause-rules : goal.returns-clause-rules
returns-clause-rules c = λ x code s ls wt fits few followed run checked t site word stop e thread is until.
    let laws = c.invariant_laws.ensures.runs in
    let there = c.invariant_laws.ensures in
    let is_run = (laws.checked code s run).0 checked in
    let lacks = lacking there.cells there.pointers there.rights laws c.invariant_laws.ensures.opens c.invariant_laws.ensures.keeps x code s ls wt fits few in
    let named = locks_named laws.turns.outcomes there.cells x code s ls wt fits followed (λ run is_run. record { halts = (lacks run is_run).1.halts }) (λ run is_run. (lacks run is_run).0) run is_run t site word stop in
    breaks code (history_of code s run) t ((place_after code s run).threads t) site
    (shows_lock code (history_of code s run) t ((place_after code s run).threads t) site ((lacks run is_run).1.shows t site word stop) named.mutex named.check named.access named.is named.mode) e thread is until
