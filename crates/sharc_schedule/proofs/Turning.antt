-- One more turn of the run that makes a schedule.
use Rattle.sharc_schedule.proofs.{Imports.{dite, ◌≡◌, ℕ, zero, suc, ◌<◌, ◌≤◌, Bool, true, false, List, [], ◌∷◌, ◌++◌, length, replicate, get_or, sym, ap, ◌∙◌, subst, arith, inl, true_or_false, nat_lt, ℕ_discrete, THREADS, Code, Shape, RunLaws, may_go, counted, Turn, state_now, made_now, ThreadLaws, one_thread, place_after, Standing, is_enabled, TableLaws, Walk, enabled, StandsAt, WentOn, Going, is_try, place_in, places_of, counted_together, AllCount, GoesAt, OneMore, Walked, Reached, both, lt_true}, Fitting.{Counted, sum_bound, all_counted, places_small, made_all}, Following.no_count, Replaying.{Run, Few, places_length}, Trying.{NoTries, put_own, put_other}}

-- ---- who is enabled
-- it does not matter by which run it is determined who is enabled
pub enabled_too : (laws : TableLaws) (code : Code) (s : Shape) (limit : ℕ) (one other : List Turn) (walk : Walk) (t : ℕ) → StandsAt code s one walk → StandsAt code s other walk
    → is_enabled code s limit (place_after code s one) t ≡ true → is_enabled code s limit (place_after code s other) t ≡ true
enabled_too laws code s limit one other walk t a b on =
    sym (laws.enabled code s limit (place_after code s other) walk.port.port walk.threads.seats.items record { words_are = b.words; are = b.seats } t)
    ∙ laws.enabled code s limit (place_after code s one) walk.port.port walk.threads.seats.items record { words_are = a.words; are = a.seats } t ∙ on

-- ---- there is room for one more turn of each place
counted_at : (most : ℕ) (places : List (ℕ × ℕ)) (i : ℕ) (d : ℕ × ℕ) → Counted most places → i < length places → (get_or places i d).1 ≤ most
counted_at most [] i d h low = absurd (omega (arith, low))
counted_at most (first ∷ more) zero d h low = h.0.2
counted_at most (first ∷ more) (suc i) d h low = counted_at most more i d h.1 (omega (arith, low))

module _ (laws : RunLaws) (threads : ThreadLaws) (code : Code) (s : Shape) (limit : ℕ) where
  pub no_tries : (turns : List Turn) → AllCount code s turns → NoTries threads code s turns
  no_tries [] h = tt
  no_tries (one ∷ earlier) h =
      let state = (state_now (one_thread code s) (place_after code s earlier) one).at.state in
      (no_tries earlier h.0, true_or_false (is_try state) (λ on. no_count state on h.1))

  pub room : s.threads ≡ THREADS → limit ≤ 100000000 → (turns : List Turn) → Run laws threads code s limit turns → AllCount code s turns → Few laws threads code s limit turns
      → (i : ℕ) (d : ℕ × ℕ) → i < length (counted_together (places_of code s limit turns)) → (get_or (counted_together (places_of code s limit turns)) i d).1 ≤ 3100000000
  room shape small turns run counts few i d low =
      let tried = no_tries turns counts in
      let all = made_all laws threads code s limit shape turns run tried in
      let most = sum_bound THREADS (place_after code s turns).made 100000000 (λ t. let a = few t in omega (arith, a, small)) in
      let many = places_length laws threads code s limit turns in
      let at = counted_at (length (places_of code s limit turns)) (counted_together (places_of code s limit turns)) i d (all_counted (places_of code s limit turns) (places_small laws threads code s limit shape turns run tried few)) low in
      omega (arith, all, most, many, at)

  -- no thread makes more events than it may
  pub few_after : (one : Turn) (turns : List Turn) → Few laws threads code s limit turns → is_enabled code s limit (place_after code s turns) one.thread ≡ true
      → counted (state_now (one_thread code s) (place_after code s turns) one).at.state ≡ 1 → Few laws threads code s limit (one ∷ turns)
  few_after one turns few on once u =
      let g : Standing = place_after code s turns in
      dite (ℕ_discrete u one.thread)
      (λ e.
      let parts = both (g.started one.thread) _ on in
      let goes = both (may_go (g.threads one.thread).at.state) _ parts.1 in
      let left = both (nat_lt (g.made one.thread) limit) _ goes.1 in
      let less : g.made one.thread < limit = lt_true (g.made one.thread) limit left.0 in
      let is : made_now (one_thread code s) g one ≤ limit = omega (arith, less, once) in
      subst (λ n. n ≤ limit) (sym (put_own g.made one.thread (made_now (one_thread code s) g one) u e)) is)
      (λ apart. subst (λ n. n ≤ limit) (sym (put_other g.made one.thread (made_now (one_thread code s) g one) u apart)) (few u))

  -- ---- one more turn
  module _ (t : ℕ) (turns : List Turn) (old new : Going) (h : GoesAt code s limit turns old) where
    pub one_more : (told : Bool) (place : ℕ) → is_enabled code s limit (place_after code s turns) t ≡ true → WentOn code s t turns told new.walk
        → place ≡ place_in t (enabled code s limit (place_after code s turns))
        → ((before : List ℕ) → old.places.items ≡ counted_together before → new.places.items ≡ counted_together (before ++ replicate 1 place))
        → OneMore code s limit t turns told new
    one_more told place on went is places =
        let here : is_enabled code s limit (place_after code s turns) went.one.thread ≡ true = ap (is_enabled code s limit (place_after code s turns)) went.own ∙ on in
        let among : List ℕ = enabled code s limit (place_after code s turns) in
        record {
          one = went.one;
          own = went.own;
          told_is = went.told_is;
          goes = record {
            stands = went.stands;
            counts = (h.counts, went.counts);
            few = few_after went.one turns h.few here went.counts;
            places_are = places (places_of code s limit turns) h.places_are ∙ ap (λ p. counted_together (places_of code s limit turns ++ p ∷ [])) (is ∙ ap (λ u. place_in u among) (sym went.own));
          };
        }

-- ---- turns without a word operation
pub walked_none : (code : Code) (s : Shape) (limit t : ℕ) (turns : List Turn) (going : Going) → GoesAt code s limit turns going → Walked code s limit t turns going
walked_none code s limit t turns going h = record { more = []; own = tt; goes = h; quiet = tt }

pub walked_more : (code : Code) (s : Shape) (limit t : ℕ) (turns : List Turn) (told : Bool) (old new : Going) → (w : Walked code s limit t turns old) → OneMore code s limit t (w.more ++ turns) told new → told ≡ false
    → Walked code s limit t turns new
walked_more code s limit t turns told old new w one off = record { more = one.one ∷ w.more; own = (one.own, w.own); goes = one.goes; quiet = (w.quiet, sym one.told_is ∙ off) }

pub reached_step : (code : Code) (s : Shape) (limit t : ℕ) (turns : List Turn) (told : Bool) (old new : Going) → (w : Walked code s limit t turns old) → OneMore code s limit t (w.more ++ turns) told new → told ≡ true
    → Reached code s limit t turns new
reached_step code s limit t turns told old new w one on = record { more = one.one ∷ w.more; own = (one.own, w.own); goes = one.goes; ends = inl (w.quiet, sym one.told_is ∙ on) }
