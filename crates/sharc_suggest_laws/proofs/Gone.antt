-- The mismatch is gone where the same is expected of the cast as was of what was there.
use Rattle.sharc_suggest_laws.proofs.{Imports.{IsSuggested, cast_to, Giving, items_givings, wanted, ◌≡◌, ℕ, ◌+◌, ◌≤◌, ◌==◌, ◌&&◌, Bool, true, false, cond, List, [], ◌∷◌, ◌++◌, length, Some, refl, ap, subst, ◌∙◌, eq-eqb, arith, and_from, cond-true, map-append, filter, Span, WrittenType, IsPlaced, span_of, Expression, cast, Recast, type_at, is_there, around, with_cast, recast_of, assignment_with, IsCastAt, giving_with, receiver_with, IsGone, IsExpectedAgain, GoneWhereExpected, is_mismatch_at, count_of, met_by, met_in_items, begins_at, Cast, ModeError, Finding, Assignment, IsWhole, agree_notes, Sharing}, Agreed.{told_of, told_in, told_append}, Beside.{in_program, items_counted, items_written}, Counted.{counted, counted_append}, Expected.agrees, Spread.values_begin_apart, Grown.span_same, Mismatches.{at_value, told_at, told_all}, Quiet.ones, Site.{HasSite, has_site}, Stands.suggested_stands, Rewritten.givings_with}
use Rattle.sharc_mode.specs.WellModed.{notes_about}

around_by : (c : Recast) (e : Expression) (b : Bool) → span_of (cond b (cast (span_of e) (type_at c (span_of e)) e) e) ≡ span_of e
around_by c e true = refl
around_by c e false = refl

pub around_same : (c : Recast) (e : Expression) → span_of (around c (with_cast c e)) ≡ span_of e
around_same c e = around_by c (with_cast c e) (is_there c (with_cast c e)) ∙ span_same c e

-- ---- so no more is reported than begins there

told_few : (t : ℕ) (m : Assignment) (c : Recast) (g : Giving) → told_of t m (giving_with c g) ≤ met_by (begins_at t) g.given
told_few t m c g =
    let few : told_of t m (giving_with c g) ≤ met_by (begins_at t) (around c (with_cast c g.given)) = at_value t m (wanted m (receiver_with c g.receiver)) (around c (with_cast c g.given)) in
    let same : met_by (begins_at t) (around c (with_cast c g.given)) ≡ met_by (begins_at t) g.given = ap (λ (s : Span). count_of (s.first.token == t)) (around_same c g.given) in
    omega (arith, few, same)

told_few_in : (t : ℕ) (m : Assignment) (c : Recast) (gs : List Giving) → told_in t m (givings_with c gs) ≤ counted (begins_at t) gs
told_few_in t m c [] = let least : 0 ≤ 0 = omega arith in least
told_few_in t m c (g ∷ rest) =
    let one : told_of t m (giving_with c g) ≤ met_by (begins_at t) g.given = told_few t m c g in
    let more : told_in t m (givings_with c rest) ≤ counted (begins_at t) rest = told_few_in t m c rest in
    let sum : told_of t m (giving_with c g) + told_in t m (givings_with c rest) ≤ met_by (begins_at t) g.given + counted (begins_at t) rest = omega (arith, one, more) in
    sum

-- nothing is reported at a token where one giving begins, if nothing is reported of that one
alone : (t : ℕ) (m : Assignment) (c : Recast) (before behind : List Giving) (g : Giving) → counted (begins_at t) (before ++ g ∷ behind) ≤ 1 → (span_of g.given).first.token ≡ t → told_of t m (giving_with c g) ≡ 0
    → told_in t m (givings_with c (before ++ g ∷ behind)) ≡ 0
alone t m c before behind g few begins quiet =
    let sum : counted (begins_at t) (before ++ g ∷ behind) ≡ counted (begins_at t) before + counted (begins_at t) (g ∷ behind) = counted_append (begins_at t) before (g ∷ behind) in
    let rest : counted (begins_at t) (g ∷ behind) ≡ met_by (begins_at t) g.given + counted (begins_at t) behind = refl in
    let one : met_by (begins_at t) g.given ≡ 1 = ap count_of (eq-eqb (span_of g.given).first.token t begins) in
    let first : told_in t m (givings_with c before) ≤ counted (begins_at t) before = told_few_in t m c before in
    let last : told_in t m (givings_with c behind) ≤ counted (begins_at t) behind = told_few_in t m c behind in
    let parts : told_in t m (givings_with c (before ++ g ∷ behind)) ≡ told_in t m (givings_with c before) + told_in t m (givings_with c (g ∷ behind)) =
    ap (told_in t m) (map-append (giving_with c) before (g ∷ behind)) ∙ told_append t m (givings_with c before) (givings_with c (g ∷ behind)) in
    let here : told_in t m (givings_with c (g ∷ behind)) ≡ told_of t m (giving_with c g) + told_in t m (givings_with c behind) = refl in
    omega (arith, few, sum, rest, one, first, last, parts, here, quiet)

-- ---- the cast itself

-- it is written at its tokens
cast_there : (c : Recast) (e : Expression) → (span_of e).first.token ≡ c.from → (span_of e).last.token ≡ c.until → around c (with_cast c e) ≡ cast (span_of e) (type_at c (span_of e)) (with_cast c e)
cast_there c e first last =
    let same : span_of (with_cast c e) ≡ span_of e = span_same c e in
    let is_so : is_there c (with_cast c e) ≡ true =
    ap (λ (s : Span). s.first.token == c.from && s.last.token == c.until) same
    ∙ and_from ((span_of e).first.token == c.from) ((span_of e).last.token == c.until) (eq-eqb (span_of e).first.token c.from first) (eq-eqb (span_of e).last.token c.until last) in
    cond-true (is_there c (with_cast c e)) (cast (span_of (with_cast c e)) (type_at c (span_of (with_cast c e))) (with_cast c e)) (with_cast c e) is_so
    ∙ ap (λ (s : Span). cast s (type_at c s) (with_cast c e)) same

-- nothing is reported of it where the same is expected
cast_quiet : (m : Assignment) (e : Expression) (expected : List Sharing) (first : ℕ) (c : Cast) → cast_to m e expected ≡ c → IsCastAt m c first → (g : Giving) → g.given ≡ e → IsExpectedAgain m c g expected
    → agree_notes (assignment_with c m) (wanted (assignment_with c m) (receiver_with (recast_of m.typed c) g.receiver)) (around (recast_of m.typed c) (with_cast (recast_of m.typed c) g.given)) ≡ []
cast_quiet m e expected first c is at g same again =
    let r : Recast = recast_of m.typed c in
    let begins : (span_of e).first.token ≡ c.from = ap (λ (x : Cast). x.from) is in
    let ends : (span_of e).last.token ≡ c.until = ap (λ (x : Cast). x.until) is in
    let there : around r (with_cast r g.given) ≡ cast (span_of e) (type_at r (span_of e)) (with_cast r e) = ap (λ (x : Expression). around r (with_cast r x)) same ∙ cast_there r e begins ends in
    ap (λ want. agree_notes (assignment_with c m) want (around r (with_cast r g.given))) again
    ∙ ap (agree_notes (assignment_with c m) (Some expected)) there
    ∙ quiet_as m e expected first c is at (type_at r (span_of e)) (with_cast r e)
  where
    quiet_as : (m : Assignment) (e : Expression) (expected : List Sharing) (first : ℕ) (c : Cast) → cast_to m e expected ≡ c → IsCastAt m c first
        → (t : WrittenType) (source : Expression) → agree_notes (assignment_with c m) (Some expected) (cast (span_of e) t source) ≡ []
    quiet_as m e expected first c is at t source =
        subst (λ (x : Cast). IsCastAt m x first → agree_notes (assignment_with x m) (Some expected) (cast (span_of e) t source) ≡ []) is (λ there. agrees m e expected first there t source) at

-- ---- in the program

gone_by : (m : Assignment) (e : ModeError) (c : Cast) → IsPlaced m.typed.program → (before behind : List Giving) (g : Giving) → items_givings m.typed.program.items ≡ before ++ g ∷ behind
    → (span_of g.given).first.token ≡ e.site.token → told_of e.site.token (assignment_with c m) (giving_with (recast_of m.typed c) g) ≡ 0 → IsGone (assignment_with c m) e.site.token
gone_by m e c placed before behind g split begins quiet errors says =
    let t : ℕ = e.site.token in
    let now : Assignment = assignment_with c m in
    let r : Recast = recast_of m.typed c in
    let few : met_in_items (begins_at t) m.typed.program.items ≤ 1 = values_begin_apart m.typed.program placed t in
    let many : met_in_items (begins_at t) m.typed.program.items ≡ counted (begins_at t) (before ++ g ∷ behind) = items_counted m (begins_at t) m.typed.program.items ∙ ap (counted (begins_at t)) split in
    let low : counted (begins_at t) (before ++ g ∷ behind) ≤ 1 = omega (arith, few, many) in
    let notes : List Finding = notes_about now says.touched in
    let told : told_at t errors ≡ ones t notes = ap (told_at t) says.are ∙ told_all t now.typed notes notes in
    let sum : ones t notes ≡ told_in t now (givings_with r (before ++ g ∷ behind)) =
    in_program t now says.touched ∙ ap (told_in t now) (items_written m r m.typed.program.items ∙ ap (givings_with r) split) in
    let none : told_in t now (givings_with r (before ++ g ∷ behind)) ≡ 0 = alone t now r before behind g low begins quiet in
    nothing (filter (is_mismatch_at t) errors) (told ∙ sum ∙ none)
  where
    nothing : (l : List ModeError) → length l ≡ 0 → l ≡ []
    nothing [] is = refl
    nothing (x ∷ rest) is = absurd (omega (arith, is))

pub gone_again : (m : Assignment) (e : ModeError) (c : Cast) → IsWhole m → IsPlaced m.typed.program → (says : IsSuggested m e (Some c)) → IsExpectedAgain m c (has_site m e c says).for.giving (has_site m e c says).for.expected → IsGone (assignment_with c m) e.site.token
gone_again m e c whole placed says again =
    let site : HasSite m e c says = has_site m e c says in
    let g : Giving = site.for.giving in
    let stands = suggested_stands m e c whole placed says in
    let begins : (span_of g.given).first.token ≡ e.site.token = ap (λ (x : Cast). x.site.token) site.for.is ∙ site.there in
    gone_by m e c placed site.for.before site.for.behind g site.for.split begins
    (ap (ones e.site.token) (cast_quiet m g.given site.for.expected stands.0 c site.for.is stands.1 g refl again))

pub gone_where_expected : GoneWhereExpected
gone_where_expected m e c whole placed says =
    let site : HasSite m e c says = has_site m e c says in (
      site.for.giving,
      site.for.expected,
      record { before = site.for.before; behind = site.for.behind; given = site.for.split; wants = site.for.wants; is = site.for.is },
      gone_again m e c whole placed says,
    )
