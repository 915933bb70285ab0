-- What the proofs cite of std, of other crates and of this crate's definitions, passed on from one place.
pub use Rattle.indexmap.proofs.CallerLemmas.{insert_entry-new}
pub use Rattle.std.proofs.{Common.{Bool, List, None, Option, Some, [], ap, arith, cond, drop, false, fold, get_or, inl, inr, is_some, length, nat_lt, refl, reverse, subst, suc, sym, take, true, ℕ, ◌&&◌, ◌++◌, ◌-◌, ◌<◌, ◌==◌, ◌||◌, ◌∙◌, ◌∷◌, ◌≡◌, ◌≤◌, ◌⊎◌}, lemmas.Bool.Decides.nat_tests, lemmas.List.reverse-append, lemmas.Map.Text.hash_map_updates_str}
pub use Rattle.std.specs.{Borrow.Bor, List.AllByRecursion, Map.lookup, Option.{option_copied, option_to_list}, Str.bytes_eq}
pub use Rattle.sharc_lemmas.proofs.Lists.{same_name}
pub use Rattle.sharc_tree.specs.declared.tree.declaration.Declaration.{Declaration}
pub use Rattle.sharc_names.specs.{Names.{Entry, field_of, look_up, struct_of}, Notes.{Findings, IsAmong, IsAnswer, Note, digit, fault, faults, first_of, is_before, noted, refers, yields}, Seen.{FieldRows, HasAlso, HasFirstFields, field_at, fields_seen, found_field, siblings_seen}, Table.{HidesOlder, IsKept, entries, in_scope, newest_of, table_at}, Types.modes_notes, View.{found_struct, structs_seen, view_bound, view_bounds, view_struct}, declared.fault.Fault.Fault, declared.meaning.Binding.Binding, declared.names.Shadow.Shadow, declared.structs.StructMeaning.StructMeaning}
