-- Lines of events.
use Rattle.std.proofs.Common.{◌≡◌, ℕ, zero, suc, List, [], ◌∷◌, ◌++◌, map, take, refl, ap, sym, ◌∙◌}
use Rattle.std.specs.Prelude.{ℤ}
use Rattle.sharc_tree.specs.{declared.event.Act.Act, declared.event.SourceEvent.SourceEvent}
use Rattle.sharc_tree.specs.declared.event.Act.TheVariants as acts
use Rattle.sharc_ctype.specs.Resolved.{Resolution}
use Rattle.sharc_code.specs.declared.code.Code.{Code}
use Rattle.sharc_audit.specs.{declared.line.EventLine.EventLine, Lines.{written, IsLine, AreLines}}
use Rattle.sharc_history.specs.{declared.event.Event.Event, Told.{Told, bare, told, told_of_event}}
use Rattle.sharc_traced.specs.Writing.{line_of, IsLineOf, AreLinesOf}

pub lines_more : (r : Resolution) (lines : List EventLine) (l : EventLine) (events : List Event) (e : Event) → AreLinesOf r lines events → IsLineOf r l e → AreLinesOf r (lines ++ l ∷ []) (events ++ e ∷ [])
lines_more r [] l [] e h i = (i, tt)
lines_more r [] l (d ∷ events) e h i = absurd (h)
lines_more r (k ∷ lines) l [] e h i = absurd (h)
lines_more r (k ∷ lines) l (d ∷ events) e h i = (h.0, lines_more r lines l events e h.1 i)

pub front_lines : (r : Resolution) (n : ℕ) (lines : List EventLine) (events : List Event) → AreLinesOf r lines events → AreLinesOf r (take n lines) (take n events)
front_lines r zero lines events h = tt
front_lines r (suc n) [] [] h = tt
front_lines r (suc n) [] (e ∷ events) h = absurd (h)
front_lines r (suc n) (l ∷ lines) [] h = absurd (h)
front_lines r (suc n) (l ∷ lines) (e ∷ events) h = (h.0, front_lines r n lines events h.1)

-- what is written of a source event is what is written of it without its modes
written_is : (r : Resolution) (a : Act) (answer : ℤ) → written r a answer ≡ line_of r (bare a answer)
written_is r (acts.Read c mode) answer = refl
written_is r (acts.Write c mode v) answer = refl
written_is r (acts.New cells elements mode) answer = refl
written_is r (acts.Take taken kind) answer = refl
written_is r (acts.Give reference mode) answer = refl
written_is r (acts.Freed reference) answer = refl
written_is r (acts.Lock c) answer = refl
written_is r (acts.Unlock c) answer = refl
written_is r (acts.Spawn f v) answer = refl
written_is r (acts.Started v) answer = refl
written_is r (acts.Join thread) answer = refl
written_is r (acts.Print v) answer = refl
written_is r acts.Return answer = refl
written_is r acts.Gone answer = refl
written_is r (acts.Enter c) answer = refl
written_is r (acts.Woken c) answer = refl
written_is r (acts.Signal c) answer = refl
written_is r (acts.Broadcast c) answer = refl

line_is : (r : Resolution) (code : Code) (l : EventLine) (e : Event) (x : SourceEvent) → IsLineOf r l e → told code e ≡ told_of_event x → IsLine r l x
line_is r code l e x is same = record {
  thread = is.thread ∙ ap (λ (t : Told). t.thread) same;
  act = written_is r x.act x.answer ∙ ap (λ (t : Told). line_of r t.bare) (sym same) ∙ is.act.is;
}

pub lines_are : (r : Resolution) (code : Code) (lines : List EventLine) (events : List Event) (sources : List SourceEvent) → AreLinesOf r lines events → map (told code) events ≡ map told_of_event sources → AreLines r lines sources
lines_are r code [] [] [] h same = tt
lines_are r code [] [] (x ∷ sources) h same = absurd (cc)
lines_are r code [] (e ∷ events) sources h same = absurd (h)
lines_are r code (l ∷ lines) [] sources h same = absurd (h)
lines_are r code (l ∷ lines) (e ∷ events) [] h same = absurd (cc)
lines_are r code (l ∷ lines) (e ∷ events) (x ∷ sources) h same =
    let one : told code e ≡ told_of_event x = cc in
    let rest : map (told code) events ≡ map told_of_event sources = cc in
    (line_is r code l e x h.0 one, lines_are r code lines events sources h.1 rest)
