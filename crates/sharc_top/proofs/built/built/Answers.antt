use Rattle.sharc_top.proofs.{Imports.{◌∙◌, ap, refusal_line}, Building.{refuses_source, refuses_modes}}
use Rattle.sharc_top.proofs.built.built.Goals as goal

pub returns-in_ok-refusal-in-Err-Source : goal.returns-in_ok-refusal-in-Err-Source
returns-in_ok-refusal-in-Err-Source c =
    let told = rw c.in-Err-Source.field-0-is at c.in-Err-Source.ensures in
    let is = c.in_ok-refusal-in-Err-Source.ensures in
    refuses_source _ _ _ _ told is.0 (is.1 ∙ ap refusal_line c.in-Err-Source.fault-is)

pub mode_refusal-requires-clause-refused : goal.mode_refusal-requires-clause-refused
mode_refusal-requires-clause-refused c =
    let told = rw c.in-Err-Modes.field-0-is at c.in-Err-Modes.ensures in told.refused

pub mode_refusal-requires-clause-named : goal.mode_refusal-requires-clause-named
mode_refusal-requires-clause-named c =
    let told = rw c.in-Err-Modes.field-0-is at c.in-Err-Modes.ensures in told.paths

pub returns-in_ok-refusal-in-Err-Modes : goal.returns-in_ok-refusal-in-Err-Modes
returns-in_ok-refusal-in-Err-Modes c =
    let told = rw c.in-Err-Modes.field-0-is at c.in-Err-Modes.ensures in
    let is = c.in_ok-refusal-in-Err-Modes.ensures in
    refuses_modes _ _ _ _ told.front is.0 is.1
