use Rattle.sharc_audit.proofs.{Imports.{◌+◌, ◌-◌, suc, [], ◌∷◌, ◌++◌, length, drop, sym, subst, ◌∙◌, add-one, take, iff_false, IsLine, AreKnown, ArePlaces, IsFault, IsPassed, FindsEntries, AreTold, EventFault, Verdict}, Auditing.{Standing, at_place, of_read, says_spent, says_nothing, says_other, says_fault, stands_on, nothing_stands, nothing_known, told_so, lines_behind}, Breaking.unbroken_so, Placing.{once_if_legal, parts_at, told_on}}
use Rattle.sharc_audit.proofs.audit.audit.Goals as goal

pub fault_of-requires : goal.fault_of-requires
fault_of-requires c = unbroken_so c.rule_laws.ensures c.loop-i.past c.loop-i.invariant.standing.obeys

pub next_asked-requires-clause-once : goal.next_asked-requires-clause-once
next_asked-requires-clause-once c = once_if_legal c.moded-m.result.now.typed c.loop-i.past c.loop-i.invariant.standing.run.legal

pub accept-requires-clause-once : goal.accept-requires-clause-once
accept-requires-clause-once c = once_if_legal c.moded-m.result.now.typed c.loop-i.past c.loop-i.invariant.standing.run.legal

pub accept-requires-clause-told : goal.accept-requires-clause-told
accept-requires-clause-told c =
    subst (λ z. AreTold c.in_ok-reported.reported c.loop-i.past (c.index-all-i.result ∷ z)) (sym (lines_behind (c.loop-i.i + 1) c.as_slice-all.result.now)) (subst (AreTold c.in_ok-reported.reported c.loop-i.past) (parts_at c.as_slice-all.result.now c.loop-i.i c.index-all-i.result c.loop-i-test.true c.index-all-i.is) c.loop-i.invariant.told)

pub loop-i-init : goal.loop-i-init
loop-i-init c = record {
  standing = subst (Standing c.moded-m.result.now c.args.fuel []) (sym c.new-past.ensures) (nothing_stands c.rule_laws.ensures c.moded-m.result.now c.args.fuel);
  known = subst (λ z. AreKnown c.moded-m.result.now c.args.fuel z c.as_slice-all.result.now c.new-runs.result.runs.items) (sym c.new-past.ensures) (subst (AreKnown c.moded-m.result.now c.args.fuel [] c.as_slice-all.result.now) (sym c.new-runs.ensures.none) (nothing_known c.moded-m.result.now c.args.fuel c.as_slice-all.result.now));
  places = subst (ArePlaces c.new-runs.result.places) (sym c.new-runs.ensures.none) c.new-runs.ensures.places;
  told = λ t none. c.in_ok-reported.ensures t;
}

pub returns-in-Spent : goal.returns-in-Spent
returns-in-Spent c =
    let at = at_place c.as_slice-all.result.now c.loop-i.i c.index-all-i.result _ c.loop-i-test.true c.index-all-i.is in
    of_read c.args.fuel (Verdict.Fuel (c.loop-i.i + 1)) c.moded-m.ensures.moded c.as_slice-all.ensures
    (says_spent c.ask_laws.ensures c.store_laws.ensures c.run_laws.ensures c.rule_laws.ensures c.moded-m.result.now (subst FindsEntries c.typed.ensures c.in_ok-main.ensures.entries) c.args.fuel c.as_slice-all.result.now c.loop-i.i c.index-all-i.result at c.loop-i.past c.loop-i.invariant.standing (c.loop-i.i + 1) (add-one c.loop-i.i) (sym c.in_ok-next.ensures.next ∙ c.in-Spent.is))

pub returns-in-Nothing : goal.returns-in-Nothing
returns-in-Nothing c =
    let at = at_place c.as_slice-all.result.now c.loop-i.i c.index-all-i.result _ c.loop-i-test.true c.index-all-i.is in
    of_read c.args.fuel (Verdict.Fails (c.loop-i.i + 1) EventFault.NotAsked) c.moded-m.ensures.moded c.as_slice-all.ensures
    (says_nothing c.ask_laws.ensures c.store_laws.ensures c.run_laws.ensures c.rule_laws.ensures c.moded-m.result.now (subst FindsEntries c.typed.ensures c.in_ok-main.ensures.entries) c.args.fuel c.as_slice-all.result.now c.loop-i.i c.index-all-i.result at c.loop-i.past c.loop-i.invariant.standing (c.loop-i.i + 1) (add-one c.loop-i.i) (sym c.in_ok-next.ensures.next ∙ c.in-Nothing.is))

pub returns-then-not-is_line : goal.returns-then-not-is_line
returns-then-not-is_line c =
    let at = at_place c.as_slice-all.result.now c.loop-i.i c.index-all-i.result _ c.loop-i-test.true c.index-all-i.is in
    let other = iff_false c.is_line.ensures c.if-not-is_line.true in
    of_read c.args.fuel (Verdict.Fails (c.loop-i.i + 1) EventFault.NotAsked) c.moded-m.ensures.moded c.as_slice-all.ensures
    (says_other c.ask_laws.ensures c.store_laws.ensures c.run_laws.ensures c.rule_laws.ensures c.moded-m.result.now (subst FindsEntries c.typed.ensures c.in_ok-main.ensures.entries) c.args.fuel c.as_slice-all.result.now c.loop-i.i c.index-all-i.result at c.loop-i.past c.loop-i.invariant.standing (c.loop-i.i + 1) c.in-Wants.e (add-one c.loop-i.i) (sym c.in_ok-next.ensures.next ∙ c.in-Wants.is) (λ line. other (subst (λ z. IsLine z c.index-all-i.result c.in-Wants.e) (sym c.typed-in-Wants.ensures) line)))

pub returns-in-Some : goal.returns-in-Some
returns-in-Some c =
    let at = at_place c.as_slice-all.result.now c.loop-i.i c.index-all-i.result _ c.loop-i-test.true c.index-all-i.is in
    let next = sym c.in_ok-next.ensures.next ∙ c.in-Wants.is in
    let line : IsLine c.moded-m.result.now.typed c.index-all-i.result c.in-Wants.e = subst (λ z. IsLine z c.index-all-i.result c.in-Wants.e) c.typed-in-Wants.ensures (c.is_line.ensures.0 c.if-not-is_line.false) in
    let why : IsFault c.moded-m.result.now c.loop-i.past c.in-Wants.e c.in-Some.fault = c.in-Some.ensures in
    of_read c.args.fuel (Verdict.Fails (c.loop-i.i + 1) c.in-Some.fault) c.moded-m.ensures.moded c.as_slice-all.ensures
    (says_fault c.ask_laws.ensures c.store_laws.ensures c.run_laws.ensures c.rule_laws.ensures c.moded-m.result.now (subst FindsEntries c.typed.ensures c.in_ok-main.ensures.entries) c.args.fuel c.as_slice-all.result.now c.loop-i.i c.index-all-i.result at c.loop-i.past c.loop-i.invariant.standing (c.loop-i.i + 1) c.in-Wants.e c.in-Some.fault (add-one c.loop-i.i) next line why)

pub loop-i-preserved : goal.loop-i-preserved
loop-i-preserved c =
    let m = c.moded-m.result.now in
    let all = c.as_slice-all.result.now in
    let l = c.index-all-i.result in
    let found = c.in_ok-next.ensures.next in
    let at = at_place all c.loop-i.i l _ c.loop-i-test.true c.index-all-i.is in
    let one = subst FindsEntries c.typed.ensures c.in_ok-main.ensures.entries in
    let e = c.in-Wants.e in
    let next = sym found ∙ c.in-Wants.is in
    let line : IsLine m.typed l e = subst (λ z. IsLine z l e) c.typed-in-Wants.ensures (c.is_line.ensures.0 c.if-not-is_line.false) in
    let passed : IsPassed m c.loop-i.past e = c.in_default.ensures in
    let pushed = c.in_ok-past-in-Wants.ensures in
    let told_is = told_so c.ask_laws.ensures c.store_laws.ensures c.run_laws.ensures c.rule_laws.ensures m one c.args.fuel all c.loop-i.i l at c.loop-i.past c.loop-i.invariant.standing e next line in
    let behind = take (length all - (c.loop-i.i + 1)) (drop (c.loop-i.i + 1) all) in
    let on : AreKnown m c.args.fuel (c.loop-i.past ++ e ∷ []) behind c.accept.new.runs.runs.items = c.in_ok-accept-in-Wants.ensures.known e next line.thread told_is in
    let now_told = subst (AreTold c.in_ok-reported.reported c.loop-i.past) (parts_at all c.loop-i.i l c.loop-i-test.true c.index-all-i.is) c.loop-i.invariant.told in
    record {
      standing = subst (λ n. Standing m c.args.fuel (take n all) c.in_ok-past-in-Wants.past) (sym (add-one c.loop-i.i)) (subst (Standing m c.args.fuel (take (suc c.loop-i.i) all)) (sym pushed)
          (stands_on c.ask_laws.ensures c.store_laws.ensures c.run_laws.ensures c.rule_laws.ensures m one c.args.fuel all c.loop-i.i l at c.loop-i.past c.loop-i.invariant.standing e next line passed.legal passed.unbroken));
      known = subst (λ z. AreKnown m c.args.fuel z (drop (c.loop-i.i + 1) all) c.accept.new.runs.runs.items) (sym pushed)
          (subst (λ z. AreKnown m c.args.fuel (c.loop-i.past ++ e ∷ []) z c.accept.new.runs.runs.items) (lines_behind (c.loop-i.i + 1) all) on);
      places = c.in_ok-accept-in-Wants.ensures.places;
      told = subst (λ z. AreTold c.in_ok-reported.reported z (drop (c.loop-i.i + 1) all)) (sym pushed) (told_on c.in_ok-reported.reported c.loop-i.past l (drop (c.loop-i.i + 1) all) now_told e line.thread);
    }
