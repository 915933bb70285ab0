-- How clap's commands are made.
use Rattle.sharc_cli.proofs.Imports.{◌≡◌, ◌∙◌, ap, ap₂, sym, refl, subst, ℕ, zero, suc, ◌+◌, ◌<◌, ◌≤◌, false, ◌||◌, List, [], ◌∷◌, ◌++◌, append_assoc, map, take, take_all, get_or, length, Option, Some, arith, Bor, Rule, Text, rule_of, app_of, new_app, new_rule, new_shape, with_rule, AddsArg, Arg, Command, fields_of, IsSubcommand, number_argument, option_argument, subcommand_with}

pub one_number : (start c : Command) (name n : Text) (a : Arg) → AddsArg start a c → a.global ≡ false → (fields_of start).has_globals ≡ false
    → app_of start ≡ new_app name → rule_of a ≡ new_rule n → IsSubcommand c name (Some n) []
one_number start c name n a adds global local is rule = record {
  local = adds.globals ∙ ap₂ (λ x y. x || y) local global;
  app = adds.shape global ∙ ap₂ with_rule is rule;
}

options_more : (xs : List (Bor Text)) (i : ℕ) (d : Bor Text) → i < length xs
    → map (λ s. s.now) (take (i + 1) xs) ≡ map (λ s. s.now) (take i xs) ++ (get_or xs i d).now ∷ []
options_more [] i d l = absurd (omega arith)
options_more (x ∷ xs) zero d l = refl
options_more (x ∷ xs) (suc i) d l =
    let next : suc i + 1 ≡ suc (i + 1) = omega arith in
    rw next (ap (λ t. x.now ∷ t) (options_more xs i d (omega arith)))

map_last : (xs : List Text) (n : Text) → map option_argument (xs ++ n ∷ []) ≡ map option_argument xs ++ option_argument n ∷ []
map_last [] n = refl
map_last (x ∷ xs) n = ap (λ t. option_argument x ∷ t) (map_last xs n)

pub one_option : (old c : Command) (name : Text) (number : Option Text) (options : List (Bor Text)) (i : ℕ) (d : Bor Text) (a : Arg)
    → AddsArg old a c → a.global ≡ false → rule_of a ≡ option_argument (get_or options i d).now → i < length options
    → IsSubcommand old name number (map (λ s. s.now) (take i options)) → IsSubcommand c name number (map (λ s. s.now) (take (i + 1) options))
one_option old c name number options i d a adds global rule l is =
    let done = map (λ (s : Bor Text). s.now) (take i options) in
    record {
      local = adds.globals ∙ ap₂ (λ x y. x || y) is.local global;
      app = adds.shape global ∙ (ap₂ with_rule is.app rule
          ∙ (ap (λ rs. record { top = record (new_shape name) { rules = rs }; subs = [] })
          (append_assoc (number_argument number) (map option_argument done) (option_argument (get_or options i d).now ∷ []) ∙ ap (λ rs. number_argument number ++ rs) (sym (map_last done (get_or options i d).now)))
          ∙ ap (subcommand_with name number) (sym (options_more options i d l))));
    }

pub all_options : (c : Command) (name : Text) (number : Option Text) (options : List (Bor Text)) (i : ℕ) → length options ≤ i
    → IsSubcommand c name number (map (λ s. s.now) (take i options)) → IsSubcommand c name number (map (λ s. s.now) options)
all_options c name number options i past is = subst (λ xs. IsSubcommand c name number (map (λ s. s.now) xs)) (take_all i options past) is

pub long_rule : (a b : Arg) (n : Bor Text) → b ≡ record a { long = Some n } → rule_of a ≡ new_rule n.now → rule_of b ≡ option_argument n.now
long_rule a b n is rule = ap rule_of is ∙ ap (λ (r : Rule). record r { long = Some n.now }) rule

pub long_global : (a b : Arg) (n : Bor Text) → b ≡ record a { long = Some n } → a.global ≡ false → b.global ≡ false
long_global a b n is global = ap (λ (x : Arg). x.global) is ∙ global
