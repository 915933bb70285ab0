-- A thread has a stop exactly where its state is Stopped.
use Rattle.sharc_cpu.proofs.Imports.{◌≡◌, ℕ, false, is_some, refl, sym, ap, ◌∙◌, true, List, [], ◌∷◌, Code, Shape, TurnState, Runs, Tries, Stopped, Ended, Machine, Own, instr_at, TurnOutcome, Stops, Refused, TurnsComeOut, own_after, state_after, IsPath, machine_after, may_go, is_stop}

abbrev pub Settled : Machine → Type 0
Settled x = is_some x.own.stop ≡ is_stop x.at.state

settles : (o : TurnOutcome) (own : Own) → is_some own.stop ≡ false → is_some (own_after o own).stop ≡ is_stop (state_after o)
settles (Stops why) own none = refl
settles (Refused function site) own none = refl
settles _ own none = none

on : (state : TurnState) → may_go state ≡ true → is_stop state ≡ false
on Runs may = refl
on Tries may = refl
on Stopped may = cc
on Ended may = cc

pub settled_path : TurnsComeOut → (code : Code) (s : Shape) (m : Machine) (founds : List ℕ) → Settled m → IsPath code s m founds → Settled (machine_after code s m founds)
settled_path outs code s m [] first path = first
settled_path outs code s m (found ∷ earlier) first path =
    let at : Machine = machine_after code s m earlier in
    let out = outs code s (instr_at code at.at.pc) at found in
    let none : is_some at.own.stop ≡ false = settled_path outs code s m earlier first path.0 ∙ on at.at.state path.1 in
    ap (λ (o : Own). is_some o.stop) out.own ∙ settles out.outcome at.own none ∙ sym (ap is_stop out.state)
