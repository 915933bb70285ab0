-- What is built of the two sources, with a run of each code.
use Rattle.sharc_instance_laws.proofs.{Imports.{◌≡◌, ℕ, zero, suc, ◌+◌, ◌*◌, ◌<◌, ◌≤◌, true, List, [], ◌∷◌, ◌++◌, replicate, refl, sym, subst, ◌∙◌, append_assoc, arith, Code, GlobalCells, Shape, RunLaws, Fits, GlobalsFit, NumbersFit, end_place, first_place, Owns, Turn, place_after, NumbersAreOwn, block_of, doubled, RulesAreMet, Built, IsBuilt, flat_of, GetsStuck, IsObeying, ReportsAlone, locking_source, sharing_source, within}, Alone.{alone, earlier_owns}, Building.AreSmall, Going.{ends, ends_alone, from, passes}, Locking.locking, Numbers.{fits_made, numbers_fit}, Sharing.sharing, Stopping.{has_reported, is_stuck, reported, stuck}, SharedFront.beyond}
use Rattle.std.specs.Global.{Global}
use lib.Count.{count_trailing_zeros}
use Rattle.sharc_instance_laws.proofs.Asked as asked
use Rattle.sharc_instance_laws.proofs.Building as building
use Rattle.sharc_instance_laws.proofs.Front as locking_front
use Rattle.sharc_instance_laws.proofs.SharedFront as sharing_front
use Rattle.sharc_instance_laws.proofs.Touching as touching

-- ---- the globals of the locking program lie one behind the other
abbrev the_globals : List GlobalCells
the_globals = record { granule = 1; cells = 1 } ∷ record { granule = 2; cells = 1 } ∷ []

lows : (g : ℕ) → g < 2 → 2 ≤ first_place the_globals g
lows zero less = within 2 2 refl
lows (suc zero) less = within 2 4 refl
lows (suc (suc n)) less = beyond n less

highs : (g : ℕ) → g < 2 → end_place the_globals g ≤ 6
highs zero less = within 3 6 refl
highs (suc zero) less = within 5 6 refl
highs (suc (suc n)) less = beyond n less

aparts : (g h : ℕ) → g < h → h < 2 → end_place the_globals g ≤ first_place the_globals h
aparts g zero less few = absurd (omega (arith, less))
aparts zero (suc zero) less few = within 3 4 refl
aparts (suc g) (suc zero) less few = absurd (omega (arith, less))
aparts g (suc (suc h)) less few = beyond h few

globals_fit : GlobalsFit the_globals 2
globals_fit = record { low = lows; high = highs; apart = aparts }

no_globals_fit : GlobalsFit [] 0
no_globals_fit = record {
  low = λ g less. absurd (none g less);
  high = λ g less. absurd (none g less);
  apart = λ g h less few. absurd (none h few);
}
  where
    none : (g : ℕ) → g < 0 → ⊥
    none g less = omega (arith, less)

-- ---- shapes: sixteen granules of heap
abbrev shape_of : ℕ → Shape
shape_of globals = record { threads = 31; globals = globals; heap = 16 }

module _ (alloc : Global) (rules : RulesAreMet) (laws : RunLaws) where
  -- ---- the locking program
  locking_small : AreSmall locking
  locking_small = record { lines = refl; told = refl; functions = refl; globals = refl; granules = refl; initial = refl; layouts = refl; pointers = refl; texts = refl }

  abbrev locking_code : Code
  locking_code = building.code locking alloc locking_small 1 refl refl refl refl

  locking_numbers : NumbersFit locking_code
  locking_numbers = numbers_fit locking_code
      (record { ints = refl; refs = refl; functions = refl; main = refl; few = refl; words = refl; spawned = refl; indexes = refl }) globals_fit

  abbrev locking_built : Built
  locking_built = record { checked = locking; code = locking_code }

  locking_is : IsBuilt locking_source locking_built
  locking_is = record {
    front = locking_front.front;
    accepted = (rules locking).0 touching.well_moded;
    compiled = building.compiled locking alloc locking_small 1 refl refl refl refl (_, refl, refl)
        (fits_made (flat_of (building.flat locking alloc locking_small 1)) (record { ints = refl; refs = refl; indexes = refl }));
    numbers = locking_numbers;
  }

  pub obeying : IsObeying locking_source
  obeying = record { built = locking_built; is = locking_is; obeys = asked.obeys }

  -- main locks, writes and spawns; the thread begins, and waits for the mutex; main waits for it
  locking_shape : Fits locking_code (shape_of 2)
  locking_shape = record { threads = refl; globals = refl; least = within 16 16 refl; most = within 16 65536 refl }

  pub stuck_run : GetsStuck locking_source
  stuck_run =
      let e = ends locking_code (shape_of 2) (is_stuck locking_code (shape_of 2)) (replicate 15 0 ++ replicate 15 1) refl in
      record {
        built = locking_built;
        is = locking_is;
        shape = shape_of 2;
        fits = locking_shape;
        run = e.turns;
        checked = (laws.checked locking_code (shape_of 2) e.turns).1 e.run;
        stuck = stuck locking_code (shape_of 2) e.turns e.passed;
      }

  -- ---- the sharing program
  sharing_small : AreSmall sharing
  sharing_small = record { lines = refl; told = refl; functions = refl; globals = refl; granules = refl; initial = refl; layouts = refl; pointers = refl; texts = refl }

  abbrev sharing_code : Code
  sharing_code = building.code sharing alloc sharing_small 0 refl refl refl refl

  abbrev sharing_built : Built
  sharing_built = record { checked = sharing; code = sharing_code }

  sharing_is : IsBuilt sharing_source sharing_built
  sharing_is = record {
    front = sharing_front.front;
    accepted = (rules sharing).0 sharing_front.well_moded;
    compiled = building.compiled sharing alloc sharing_small 0 refl refl refl refl (_, refl, refl)
        (fits_made (flat_of (building.flat sharing alloc sharing_small 0)) (record { ints = refl; refs = refl; indexes = refl }));
    numbers = numbers_fit sharing_code
        (record { ints = refl; refs = refl; functions = refl; main = refl; few = refl; words = refl; spawned = refl; indexes = refl }) no_globals_fit;
  }

  sharing_runs : passes sharing_code (shape_of 0) has_reported (from sharing_code (shape_of 0)) (replicate 18 0) ≡ true
  unfolding count_trailing_zeros block_of doubled
  sharing_runs = refl

  pub reporting : NumbersAreOwn → ReportsAlone sharing_source
  reporting numbers =
      let e = ends_alone sharing_code (shape_of 0) has_reported 18 sharing_runs in
      let g = place_after sharing_code (shape_of 0) e.turns in
      let r = reported (g.threads 0).own.stop e.passed in
      record {
        built = sharing_built;
        is = sharing_is;
        shape = shape_of 0;
        fits = record { threads = refl; globals = refl; least = within 16 16 refl; most = within 16 65536 refl };
        run = e.turns;
        checked = (laws.checked sharing_code (shape_of 0) e.turns).1 e.run;
        thread = 0;
        site = r.site;
        count = r.count;
        stop = r.stop;
        nothing = λ ls finds. alone laws.turns.tells numbers sharing_code (shape_of 0) sharing ls finds.earlier
            (earlier_owns (finds.later ++ finds.test ∷ []) finds.earlier (subst (λ (l : List Turn). Owns 0 l) (finds.parts ∙ sym (append_assoc finds.later (finds.test ∷ []) finds.earlier)) e.own)) _;
      }
