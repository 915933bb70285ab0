-- What the proofs cite of std, of other crates and of this crate's definitions, passed on from one place.
pub use Rattle.std.proofs.{Common.{List, [], ap, append-nil, append_assoc, arith, codes, decimal, map, refl, string_bytes, sym, ℕ, ◌++◌, ◌+◌, ◌-◌, ◌∙◌, ◌∷◌, ◌≡◌}, lemmas.List.Concat.flat_map-append, lemmas.List.FromFn.map-range_with_len_more}
pub use Rattle.std.specs.List.{range_with_len}
unfoldable pub use Rattle.sharc_load.specs.Source.{call_line, globals, join_line, main_function, source_of, spawn_line, step_line, step_numbers, text_of, thread_numbers, worker}
