use Rattle.sharc_audit.proofs.{Imports.{◌≡◌, ◌≤◌, ◌+◌, [], ◌∷◌, ◌++◌, cond, not, true, length, length-append, arith, ap, ◌∙◌, subst, sym, is_ok, MatchOption-at_none, MatchOption-at_some, text_lines, IsEventLine}, Filing.{Listing, listing_next, listing_bad, further_fault}}
use Rattle.sharc_audit.proofs.file.events_of.Goals as goal

pub returns-in-None-clause-bad : goal.returns-in-None-clause-bad
returns-in-None-clause-bad c = listing_bad (text_lines c.args.bytes.now) c.loop-rest.rest.now c.args.first c.loop-rest.n c.loop-rest.events.items c.next_line.result.0.now c.next_line.result.1.now c.loop-rest.invariant.passed c.next_line.ensures (MatchOption-at_none _ _ c.in-None.is c.in_ok-event_line.ensures)

pub returns-then-len-eq-MOST_EVENTS-clause-bad : goal.returns-then-len-eq-MOST_EVENTS-clause-bad
returns-then-len-eq-MOST_EVENTS-clause-bad c =
    let line : IsEventLine c.next_line.result.0.now c.in-Some.event = MatchOption-at_some _ _ c.in-Some.event c.in-Some.is c.in_ok-event_line.ensures in
    let listing : Listing (text_lines c.args.bytes.now) c.next_line.result.1.now c.args.first (c.loop-rest.n + 1) (c.loop-rest.events.items ++ c.in-Some.event ∷ []) =
    listing_next (text_lines c.args.bytes.now) c.loop-rest.rest.now c.args.first c.loop-rest.n c.loop-rest.events.items c.next_line.result.0.now c.next_line.result.1.now c.in-Some.event c.loop-rest.invariant.passed c.next_line.ensures line in
    let full = c.if-len-eq-MOST_EVENTS.true in
    let size = c.len.ensures in
    let more = length-append c.loop-rest.events.items (c.in-Some.event ∷ []) in
    further_fault 4097 (text_lines c.args.bytes.now) c.next_line.result.1.now c.args.first (c.loop-rest.n + 1) (c.loop-rest.events.items ++ c.in-Some.event ∷ []) c.too_many.result listing (omega (arith, full, size, more)) c.too_many.ensures

pub loop-rest-preserved : goal.loop-rest-preserved
loop-rest-preserved c =
    let shorter = c.next_line.ensures.shorter in
    let before = c.loop-rest.invariant.room in
    let few = c.loop-rest.invariant.few in
    let size = c.len.ensures in
    let room = c.if-len-eq-MOST_EVENTS.false in
    let more = length-append c.loop-rest.events.items (c.in-Some.event ∷ []) in
    let done : is_ok c.push.result ≡ true = c.is_err.ensures.negation ∙ ap not c.if-is_err.false in
    let list : c.push.new.self.items ≡ c.loop-rest.events.items ++ c.in-Some.event ∷ [] = c.push.ensures.items ∙ ap (λ b. cond b (c.loop-rest.events.items ++ c.in-Some.event ∷ []) c.loop-rest.events.items) done in
    record {
      passed = rw list (listing_next (text_lines c.args.bytes.now) c.loop-rest.rest.now c.args.first c.loop-rest.n c.loop-rest.events.items c.next_line.result.0.now c.next_line.result.1.now c.in-Some.event c.loop-rest.invariant.passed c.next_line.ensures (MatchOption-at_some _ _ c.in-Some.event c.in-Some.is c.in_ok-event_line.ensures));
      room = omega (arith, shorter, before);
      few = subst (λ l. length l ≤ 4096) (sym list) (omega (arith, few, size, room, more));
    }
