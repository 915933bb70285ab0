-- No case in order is no case.
use Rattle.sharc_check.proofs.Imports.{◌≡◌, ℕ, ◌==◌, Bool, true, false, List, [], ◌∷◌, length, refl, ap, sym, ◌∙◌, subst, arith, nat_tests, length_permutation, ModeError, ModeLaws, Assignment, AreModeErrors, WellModed, RulesAreMet, MeetsRules, AreAll, IsRefused}

empty_of_length : (l : List ModeError) → length l ≡ 0 → l ≡ []
empty_of_length [] h = refl
empty_of_length (e ∷ rest) h = grind arith

-- where none is listed, none arises, and the rules are met
pub met : (rules : RulesAreMet) (m : Assignment) (errors : List ModeError) → AreAll m errors → length errors ≡ 0 → MeetsRules m
met rules m errors all none =
    let same = length_permutation all.found errors all.ordered.each_once in
    let well : WellModed m = subst (AreModeErrors m) (empty_of_length all.found (sym same ∙ none)) all.arise in
    (rules m).0 well

-- where some are listed, the program is refused
pub refused : (rules : RulesAreMet) (laws : ModeLaws) (m : Assignment) (errors : List ModeError) → AreAll m errors → (length errors ≡ 0 → ⊥) → IsRefused m errors
refused rules laws m errors all some =
    let same = length_permutation all.found errors all.ordered.each_once in
    record {
      all = all;
      some = λ h. some (ap length h);
      breaks_rules = λ meets. some (same ∙ ap length (laws.one m all.found [] all.arise ((rules m).1 meets)));
    }

pub none_listed : (empty : Bool) (n : ℕ) → empty ≡ (n == 0) → empty ≡ true → n ≡ 0
none_listed empty n is holds = let e : (n == 0) ≡ true = sym is ∙ holds in grind (arith, nat_tests, e)

pub some_listed : (empty : Bool) (n : ℕ) → empty ≡ (n == 0) → empty ≡ false → n ≡ 0 → ⊥
some_listed empty n is holds none = let e : (n == 0) ≡ false = sym is ∙ holds in grind (arith, nat_tests, e, none)
