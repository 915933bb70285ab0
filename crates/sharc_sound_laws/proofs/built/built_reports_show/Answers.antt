use Rattle.sharc_sound_laws.proofs.built.built_reports_show.Goals as goal

pub returns : goal.returns
returns c = λ source built is s fits run checked t stop stopped at report.
    let w = c.built_is_typed.ensures source built is in
    (w.0, c.built_reports_show_if_typed.ensures source built is _ _ w.1 s fits run checked t stop stopped at report)
