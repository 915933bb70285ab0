-- What is read from the matches.
use Rattle.sharc_cli.proofs.{Imports.{◌≡◌, ◌∙◌, inl, inr, true, List, [], ◌∷◌, ap, ap₂, sym, refl, Bor, Option, Some, None, option_map, codes, none-some, same_Some, list_all, first_value, subcommand_name_of, HasMatchesOf, app_of, is_simple, subcommand_of, subcommand_rows_of, fault_of, is_simple_and_free, HasKind, Kinds, kind_of, Error, Command, Row, Text, rows_of, ArgMatches, out-ArgMatches, Found, first_value-rows, commands, command_of, load_of, record_of, run_of, command_in, is_plain, line, seen, values_in}, Walks.{line_is_free, line_is_simple}, Lines.{accepted, cons_is_not, refused}}
use Rattle.clap.specs.declared.error.kind.ErrorKind.TheVariants as kind

module _ (m : Found) (name : Text) where
  abbrev Reads : Option (Bor Text) → Text → Type 0
  Reads value id = option_map (λ s. s.now) value ≡ first_value m id

  pub run_arm : (workers granules events seed : Option (Bor Text)) → name ≡ codes "run"
      → Reads workers (codes "workers") → Reads granules (codes "granules") → Reads events (codes "events") → Reads seed (codes "seed")
      → run_of (seen None workers granules events seed) ≡ command_of name (values_in (rows_of m))
  run_arm workers granules events seed is w g e s =
      rw (
        is,
        w ∙ first_value-rows m (codes "workers"),
        g ∙ first_value-rows m (codes "granules"),
        e ∙ first_value-rows m (codes "events"),
        s ∙ first_value-rows m (codes "seed"),
      ) refl

  pub load_arm : (number workers : Option (Bor Text)) → name ≡ codes "load" → Reads number (codes "number") → Reads workers (codes "workers")
      → load_of (seen number workers None None None) ≡ command_of name (values_in (rows_of m))
  load_arm number workers is n w = rw (is, n ∙ first_value-rows m (codes "number"), w ∙ first_value-rows m (codes "workers")) refl

  pub record_arm : (workers granules events : Option (Bor Text)) → name ≡ codes "record"
      → Reads workers (codes "workers") → Reads granules (codes "granules") → Reads events (codes "events")
      → record_of (seen None workers granules events None) ≡ command_of name (values_in (rows_of m))
  record_arm workers granules events is w g e =
      rw (is, w ∙ first_value-rows m (codes "workers"), g ∙ first_value-rows m (codes "granules"), e ∙ first_value-rows m (codes "events")) refl

name_of : {B : Type 0} (f : B → Text) (g : B → List Row) (o : Option B) → option_map f o ≡ option_map (λ (p : Text × List Row). p.0) (option_map (λ b. (f b, g b)) o)
name_of f g None = refl
name_of f g (Some b) = refl

pair_of : (o : Option (Text × List Row)) (name : Text) (rs : List Row) → Some name ≡ option_map (λ (p : Text × List Row). p.0) o → Some rs ≡ option_map (λ (p : Text × List Row). p.1) o → o ≡ Some (name, rs)
pair_of None name rs n r = absurd (none-some name (sym n))
pair_of (Some p) name rs n r = ap₂ (λ (x : Text) (y : List Row). Some (x, y)) (sym (same_Some name p.0 n)) (sym (same_Some rs p.1 r))

-- the subcommand that was met, by its name and its rows
pub met : (m : ArgMatches) (name : Text) (rs : List Row) → Some name ≡ subcommand_name_of m → Some rs ≡ option_map (λ p. p.1) (subcommand_rows_of m)
    → subcommand_rows_of m ≡ Some (name, rs)
met m name rs n r = pair_of (subcommand_rows_of m) name rs (n ∙ name_of _ _ (out-ArgMatches m).subcommand) r

-- where the parse succeeds
pub read_matches : (c : Command) (words : List Text) (m : ArgMatches) → app_of c ≡ line → list_all is_plain words ≡ true → HasMatchesOf (app_of c) words m
    → (is_simple_and_free (app_of c) ≡ true → fault_of (app_of c) words ≡ []) → command_in (subcommand_rows_of m) ≡ commands words
read_matches c words m is plain matches kinds =
    ap command_in ((matches (ap is_simple is ∙ line_is_simple)).1 ∙ ap (λ a. subcommand_of a words) is)
    ∙ accepted words plain (sym (ap (λ a. fault_of a words) is) ∙ kinds (ap is_simple_and_free is ∙ line_is_free))

-- where it fails, and not for memory
pub read_fails : (c : Command) (words : List Text) (e : Error) → app_of c ≡ line → list_all is_plain words ≡ true
    → (is_simple_and_free (app_of c) ≡ true → HasKind (fault_of (app_of c) words) e) → (kind_of e ≡ kind.OutOfMemory → ⊥) → None ≡ commands words
read_fails c words e is plain kinds other =
    refused words plain (λ none. among (fault_of (app_of c) words) (ap (λ a. fault_of a words) is ∙ none) (kinds (ap is_simple_and_free is ∙ line_is_free)))
  where
    among : (ks : Kinds) → ks ≡ [] → HasKind ks e → ⊥
    among ks none (inl h) = other h
    among [] none (inr h) = h
    among (k ∷ ks) none (inr h) = cons_is_not k ks none
