-- The table of a well-moded program is one of targets.
use Rattle.sharc_accepted_laws.proofs.{Imports.{length, IsLow, IsPlaced, IsResolved, EachTypeFound, EachNameOnce, OnlyNames, EachNamesItself, IsLeastAssignment, Assignment, WellModed, RulesAreMet, TargetsAre}, Owners.place_is, Rows.IsKnown, TargetSiblings.sibling_named}
use Rattle.sharc_accepted_laws.proofs.Globals as globals

pub known : EachNameOnce → OnlyNames → EachTypeFound → EachNamesItself → RulesAreMet
    → (m : Assignment) → IsResolved m.typed → IsPlaced m.typed.program → IsLow m.typed.program → IsLeastAssignment m → WellModed m → IsKnown m
known once only found itself met m resolved placed low least well = record {
  least = least;
  rules = (met m).0 well;
  found = found m.typed resolved placed low;
  fields = (itself m.typed resolved placed low).fields;
  sibling = sibling_named once only m.typed resolved placed low;
  place = λ s k d is at. place_is m.typed.program.tokens.list 0 (length m.typed.program.tokens.list) m.typed.program.items placed.follow placed.items s k d is at;
}

pub targets_are : EachNameOnce → OnlyNames → EachTypeFound → EachNamesItself → RulesAreMet → TargetsAre
targets_are once only found itself met m resolved placed low least well = globals.targets_are m (known once only found itself met m resolved placed low least well) low
