-- Each clause is a lemma about the log without the entry at the place found.
use Rattle.std.proofs.Common.{sym}
use Rattle.sharc_locks.proofs.Entries.{place_is, gives_up, stays_log, released, left_is, object_is, left_alone, no_object_of}
use Rattle.sharc_locks.proofs.held_log.HeldLog.give.Goals as goal

pub invariant_of-self : goal.invariant_of-self
invariant_of-self c =
    let at = place_is c.args.self.now c.args.word c.in_ok-place.place (sym c.in_ok-place.ensures.place) in
    rw (c.remove.ensures.items, c.self.view_is) (stays_log c.args.self.now c.in_ok-place.place at.within (rw c.self.view_is at c.self.invariant))

pub returns-clause-given : goal.returns-clause-given
returns-clause-given c =
    let at = place_is c.args.self.now c.args.word c.in_ok-place.place (sym c.in_ok-place.ensures.place) in
    rw (c.remove.ensures.items, c.self.view_is) (gives_up c.args.self.now c.args.word c.in_ok-place.place c.remove.result at (rw c.self.view_is at c.remove.ensures.value))

pub returns-clause-released : goal.returns-clause-released
returns-clause-released c =
    let at = place_is c.args.self.now c.args.word c.in_ok-place.place (sym c.in_ok-place.ensures.place) in
    rw (c.remove.ensures.items, c.self.view_is) (released c.args.self.now c.args.word c.in_ok-place.place at (rw c.self.view_is at c.self.invariant))

pub returns-clause-log : goal.returns-clause-log
returns-clause-log c =
    let at = place_is c.args.self.now c.args.word c.in_ok-place.place (sym c.in_ok-place.ensures.place) in
    rw (c.remove.ensures.items, c.self.view_is) (stays_log c.args.self.now c.in_ok-place.place at.within (rw c.self.view_is at c.self.invariant))

pub returns-clause-is : goal.returns-clause-is
returns-clause-is c =
    let at = place_is c.args.self.now c.args.word c.in_ok-place.place (sym c.in_ok-place.ensures.place) in
    object_is c.args.self.now c.args.word c.in_ok-place.place c.remove.result at (rw c.self.view_is at c.self.invariant).each_once (rw c.self.view_is at c.remove.ensures.value)

pub returns-clause-left : goal.returns-clause-left
returns-clause-left c =
    let at = place_is c.args.self.now c.args.word c.in_ok-place.place (sym c.in_ok-place.ensures.place) in
    rw (c.remove.ensures.items, c.self.view_is) (left_is c.args.self.now c.args.word c.in_ok-place.place at (rw c.self.view_is at c.self.invariant).each_once)

pub returns-in_err-place-clause-is : goal.returns-in_err-place-clause-is
returns-in_err-place-clause-is c = let absent = no_object_of c.args.self.now c.args.word c.in_err-place.ensures.absent in cc

pub returns-in_err-place-clause-left : goal.returns-in_err-place-clause-left
returns-in_err-place-clause-left c = left_alone c.args.self.now c.args.word c.in_err-place.ensures.absent
