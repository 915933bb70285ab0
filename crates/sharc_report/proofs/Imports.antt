-- What the proofs cite of std, of other crates and of this crate's definitions, passed on from one place.
pub use Rattle.std.proofs.{Common.{List, OnOk, Option, Result, [], ap, append_assoc, arith, codes, drop, get_or, length, map, replicate, subst, suc, sym, zero, ℕ, ◌++◌, ◌+◌, ◌<◌, ◌∙◌, ◌∷◌, ◌≡◌, ◌≤◌}, lemmas.List.drop_more}
pub use Rattle.std.specs.List.{flat_map}
pub use Rattle.sharc_lemmas.proofs.Lists.{taken}
pub use Rattle.sharc_ctype.specs.{Entities.{entities_in, numbered, numbered_from, positions_in, positions_of}, Resolved.Resolution, declared.entity.Entity.Entity, declared.entity.Numbered.Numbered}
pub use Rattle.sharc_mode.specs.{declared.error.Cast.Cast, declared.error.ModeError.ModeError}
pub use Rattle.sharc_report.specs.{Explanations.{explanation, owners, reason_lines}, Places.{site_text, tokens_between}, Verdicts.{beside, check_text, refusal, target_text, warning_line}}
