-- The rules of the modes, for the accesses of a function.
use Rattle.sharc_accepted_laws.proofs.Imports.{refl, RulesAreMet, UsesAreFair}

pub uses_are_fair : RulesAreMet → UsesAreFair
uses_are_fair rules c a alone told n f is e all path =
    let met = (rules c.program).0 a.well in
    record {
      reads = record { own = λ mode g inside. told.own n f is e all g inside mode; reads = λ mode. refl; path = path };
      assigned = λ x does. record { own = λ mode g inside. told.own n f is e all g inside mode; reads = λ mode. absurd (met.m2 e x does mode); path = path };
      taken = λ does. record { own = λ mode g inside. told.own n f is e all g inside mode; reads = λ mode. absurd (met.m9 e does mode); path = path };
    }
