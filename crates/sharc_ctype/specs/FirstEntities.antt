-- Where the first entity that two tokens determine is in a list, and a table that has these places.
use Rattle.std.specs.{Prelude.{◌≡◌, ℕ, ◌==◌, ◌&&◌, List, Option, Some, None, map, if◌then◌else◌}, List.position_from}
use Rattle.std.specs.{Map.lookup, Option.option_or}
use Rattle.sharc_ctype.specs.{declared.entity.Entity.Entity, declared.entity.Numbered.Numbered}
use Rattle.sharc_ctype.specs.Entities.{is_told_by, numbered, positions_in}

-- the place of the first entity that begins at this token and ends at that one
abbrev pub entity_place : List Numbered → ℕ → ℕ → Option ℕ
entity_place list token last = position_from (is_told_by token last) 0 list

abbrev pub EntityRows : Type 0
EntityRows = List ((ℕ × ℕ) × ℕ)

abbrev pub row_at : EntityRows → ℕ → ℕ → Option ℕ
row_at rows token last = lookup (λ k. token == k.0 && last == k.1) rows

-- rows that have that place too, unless its tokens have one
abbrev pub HasEntityPlace : ℕ → ℕ → ℕ → EntityRows → EntityRows → Type 0
HasEntityPlace token last place old new = (q p : ℕ)
    → row_at new q p ≡ option_or (row_at old q p) (if token == q && last == p then Some place else None)

-- the rows have the place of the first entity of each two tokens
abbrev pub HasFirstEntities : List Numbered → EntityRows → Type 0
HasFirstEntities list rows = (token last : ℕ) → row_at rows token last ≡ entity_place list token last

abbrev pub entities_of : List Numbered → List Entity
entities_of = map (λ n. n.entity)

-- the entities have the numbers of their first positions, and there are this many positions
pub record AreNumbered (list : List Numbered) (n : ℕ) : Type 0 where
  pub numbers : list ≡ numbered (entities_of list)
  pub count : n ≡ positions_in (entities_of list)
