use Rattle.sharc_history_laws.proofs.{Imports.{◌≡◌, true, false, refl, sym, ap, ◌∙◌, TurnState, Tries, Stopped, Ended, place_after, is_ended}, Standing.holds}
use Rattle.sharc_code.specs.declared.state.TurnState.TheVariants.{Runs}
use Rattle.sharc_history_laws.proofs.words.states_law.Goals as goal

ended_is : (state : TurnState) → is_ended state ≡ true → state ≡ Ended
ended_is Runs e = absurd cc
ended_is Tries e = absurd cc
ended_is Stopped e = absurd cc
ended_is Ended e = refl

pub returns-clause-told : goal.returns-clause-told
returns-clause-told c = λ code s turns checked t low.
    let h = (holds c.run_laws.ensures c.standing_laws.ensures code s turns ((c.run_laws.ensures.checked code s turns).0 checked)).tells in
    record {
      few = h.few t low;
      waits = (h.waits t low, h.begun t low);
      ended = ((λ three. ended_is ((place_after code s turns).threads t).at.state (h.end t low three)), (λ is. h.ends t low (ap is_ended is)));
    }

pub returns-clause-new : goal.returns-clause-new
returns-clause-new c = λ code s turns checked t n drawn.
    let all = holds c.run_laws.ensures c.standing_laws.ensures code s turns ((c.run_laws.ensures.checked code s turns).0 checked) in
    let h = all.tells in
    let o = h.number t n drawn in
    let g = place_after code s turns in
    record {
      few = o.0;
      some = λ e. let f : true ≡ false = sym all.first ∙ ap g.started (sym e) ∙ h.waits n o.0 o.2 in cc;
      waits = h.waits n o.0 o.2;
      one = λ u e. h.one u t n e drawn;
    }
