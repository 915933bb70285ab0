-- Each cast that is suggested for an error of the program that a source is repairs it.
use Rattle.sharc_reply_laws.proofs.{Imports.{◌≡◌, ℕ, List, [], ◌∷◌, map, Option, Some, None, refl, sym, subst, Tokens, IsLow, Program, Reads, Cast, ModeError, IsLeastAssignment, Assignment, MeetsRules, IsTypedAtTokens, AreCasts, cast_for, LeastIsRepaired, IsFront, Status, IsModeRefusal, IsReply, Checks, accepted, refused, SourceTask, SourceLaws, IsAsked, Repairs, EachRepairs, IsRepairing}, ProgramAsked.does_reply}
use Rattle.sharc_tree.specs.Placed.{IsPlaced}

module _ (repaired : LeastIsRepaired) (m : Assignment) (at : IsTypedAtTokens m.typed) (least : IsLeastAssignment m) (casts : List Cast) (are : AreCasts m casts) where
  one_repairs : (e : ModeError) (o : Option Cast) → o ≡ cast_for casts e → Repairs m e o
  one_repairs e None is = tt
  one_repairs e (Some c) is = repaired m e c at least (record { casts = casts; are = are; says = is })

  each_repairs : (errors : List ModeError) → EachRepairs m errors (map (cast_for casts) errors)
  each_repairs [] = tt
  each_repairs (e ∷ rest) = (one_repairs e (cast_for casts e) refl, each_repairs rest)

-- what the grammar reads has its tokens and the forms of the grammar
pub record ReadPrograms : Type 0 where
  pub low : (tokens : Tokens) (p : Program) → Reads tokens p → IsLow p
  pub placed : (tokens : Tokens) (p : Program) → Reads tokens p → IsPlaced p

pub refusals_repair : ReadPrograms → LeastIsRepaired → (source : List ℕ) (m : Assignment) → IsFront source m → (text : List ℕ) (refusal : IsModeRefusal m text) → EachRepairs m refusal.errors refusal.casts
refusals_repair reading repaired source m front text refusal =
    let at : IsTypedAtTokens m.typed = record {
      resolved = front.typed.resolved;
      placed = reading.placed front.typed.tokens m.typed.program front.typed.reads;
      low = reading.low front.typed.tokens m.typed.program front.typed.reads;
    } in
    subst (EachRepairs m refusal.errors) (sym refusal.suggested.says) (each_repairs repaired m at front.least refusal.suggested.casts refusal.suggested.are refusal.errors)

only_repairing : ReadPrograms → LeastIsRepaired → (source : List ℕ) (m : Assignment) → IsFront source m → ¬ (MeetsRules m) → (s : Status) (text : List ℕ) → Checks m s text → (s ≡ Status.ModesRefused) × IsRepairing m text
only_repairing reading repaired source m front ill s text (accepted w meets are) = absurd (ill meets)
only_repairing reading repaired source m front ill s text (refused t refusal) = (refl, record { refusal = refusal; repairs = refusals_repair reading repaired source m front t refusal })

pub checks_repair : SourceLaws → ReadPrograms → LeastIsRepaired → (words : List (List ℕ)) (input : List ℕ) (m : Assignment) → IsAsked words SourceTask.Check input m → ¬ (MeetsRules m) → (s : Status) (text : List ℕ) → IsReply words (Some input) s text
    → (s ≡ Status.ModesRefused) × IsRepairing m text
checks_repair laws reading repaired words input m asked ill s text reply =
    only_repairing reading repaired input m asked.front ill s text (does_reply laws words input m SourceTask.Check asked s text reply)
