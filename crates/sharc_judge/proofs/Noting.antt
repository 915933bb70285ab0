-- An event noted under one topic after another.
use Rattle.std.proofs.{Common.{◌≡◌, ◌-◌, ◌≤◌, length, take, drop, slice_index_or, arith, Bool, true, false, ◌||◌, cond, List, [], ◌∷◌, Option, Some, Ok, Err, refl, ap, sym, ◌∙◌}, lemmas.List.take_all}
use Rattle.std.specs.{Prelude.{Result, OnOk, if◌then◌else◌}, List.list_any}
use Rattle.sharc_judge.specs.{declared.table.Noted.Noted, declared.topics.Topic.Topic, Topics.same_topic}

pub on_ok : {A E : Type 0} (r : Result A E) {P Q : Type 0} → (P → Q) → OnOk r P → OnOk r Q
on_ok (Ok a) f h = f h
on_ok (Err e) f h = h

pub noted_first : (topics rest : List Topic) (key q : Topic) (noted : Noted) (old middle new : Option Noted) → topics ≡ key ∷ rest → middle ≡ cond (same_topic key q) (Some noted) old
    → new ≡ (if list_any (λ x. same_topic x q) rest then Some noted else middle) → new ≡ (if list_any (λ x. same_topic x q) topics then Some noted else old)
noted_first topics rest key q noted old middle new is first more =
    more
    ∙ ap (λ z. if list_any (λ x. same_topic x q) rest then Some noted else z) first
    ∙ by_case (list_any (λ x. same_topic x q) rest) (same_topic key q)
    ∙ ap (λ (l : List Topic). if list_any (λ x. same_topic x q) l then Some noted else old) (sym is)
  where
    by_case : (b k : Bool) → (if b then Some noted else cond k (Some noted) old) ≡ (if k || b then Some noted else old)
    by_case true true = refl
    by_case true false = refl
    by_case false true = refl
    by_case false false = refl

pub first_and_rest : (list : List Topic) (a : Topic) → 1 ≤ length list → a ≡ slice_index_or list 0 a → list ≡ a ∷ take (length list - 1) (drop 1 list)
first_and_rest [] a some is = absurd (omega (arith, some))
first_and_rest (b ∷ l) a some is =
    let all : take (length (b ∷ l) - 1) l ≡ l = take_all (length (b ∷ l) - 1) l (omega arith) in
    ap (λ z. z ∷ l) (sym is) ∙ ap (λ z. a ∷ z) (sym all)
