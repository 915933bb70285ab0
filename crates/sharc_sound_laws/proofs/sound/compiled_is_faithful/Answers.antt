use Rattle.sharc_sound_laws.proofs.sound.compiled_is_faithful.Goals as goal

pub returns : goal.returns
returns c = λ source m code front meets is.
    let p = c.fronts_are_typed.ensures source m front meets in
    record {
      paths = c.typed_paths_tell.ensures.paths m p is.flat is.flattens is.fits code is.coded;
      threads = c.typed_paths_tell.ensures.threads m p is.flat is.flattens is.fits code is.coded;
      runs = c.typed_threads_tell.ensures m p is.flat is.flattens is.fits code is.coded;
      started = c.threads_may_start.ensures m p.resolved p.placed p.low;
    }
