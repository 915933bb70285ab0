-- Several turns of the run that makes a schedule at once, none of which has a word operation.
use Rattle.sharc_schedule.proofs.{Imports.{◌≡◌, ℕ, Bool, true, List, [], ◌∷◌, ◌++◌, length, replicate, refl, sym, ap, ◌∙◌, subst, append_assoc, arith, append-nil, Code, Shape, RunLaws, Turn, Owns, ThreadLaws, place_after, is_enabled, TableLaws, enabled, StandsAt, IsQuietTurn, AreQuietTurns, WentQuietly, Going, place_in, places_of, counted_together, AllCount, GoesAt, Hurried, HurriedOn, Quiet, Walked}, Lasts.one_after, Placing.{enabled_kept, enabled_there}, Replaying.Few, Turning.few_after}

owns_both : (t : ℕ) (more before : List Turn) → Owns t more → Owns t before → Owns t (more ++ before)
owns_both t [] before h low = low
owns_both t (one ∷ more) before h low = (h.0, owns_both t more before h.1 low)

quiet_both : (more before : List Turn) → Quiet more → Quiet before → Quiet (more ++ before)
quiet_both [] before h low = low
quiet_both (one ∷ more) before h low = (quiet_both more before h.0 low, h.1)

module _ (laws : RunLaws) (threads : ThreadLaws) (code : Code) (s : Shape) (limit t : ℕ) where
  pub owned : (turns more : List Turn) → AreQuietTurns code s limit t turns more → Owns t more
  owned turns [] h = tt
  owned turns (one ∷ more) h = (h.1.own, owned turns more h.0)

  pub all_quiet : (turns more : List Turn) → AreQuietTurns code s limit t turns more → Quiet more
  all_quiet turns [] h = tt
  all_quiet turns (one ∷ more) h = (all_quiet turns more h.0, h.1.none)

  all_count : (turns more : List Turn) → AllCount code s turns → AreQuietTurns code s limit t turns more → AllCount code s (more ++ turns)
  all_count turns [] before h = before
  all_count turns (one ∷ more) before h = (all_count turns more before h.0, h.1.counts)

  few_still : (turns more : List Turn) → Few laws threads code s limit turns → AreQuietTurns code s limit t turns more → Few laws threads code s limit (more ++ turns)
  few_still turns [] few h = few
  few_still turns (one ∷ more) few h =
      few_after laws threads code s limit one (more ++ turns) (few_still turns more few h.0) (ap (is_enabled code s limit (place_after code s (more ++ turns))) h.1.own ∙ h.1.on) h.1.counts

  -- each has the place that the thread had at first
  places_more : (turns more : List Turn) (place : ℕ) → is_enabled code s limit (place_after code s turns) t ≡ true → place ≡ place_in t (enabled code s limit (place_after code s turns))
      → AreQuietTurns code s limit t turns more → places_of code s limit (more ++ turns) ≡ places_of code s limit turns ++ replicate (length more) place
  places_more turns [] place was is h = sym (append-nil (places_of code s limit turns))
  places_more turns (one ∷ more) place was is h =
      let before : List ℕ = places_of code s limit turns in
      let same : enabled code s limit (place_after code s (more ++ turns)) ≡ enabled code s limit (place_after code s turns) = enabled_kept laws threads code s limit t more turns (all_quiet turns more h.0) (owned turns more h.0) was h.1.on in
      let here : place_in one.thread (enabled code s limit (place_after code s (more ++ turns))) ≡ place =
      ap (λ u. place_in u (enabled code s limit (place_after code s (more ++ turns)))) h.1.own ∙ (ap (place_in t) same ∙ sym is) in
      ap (λ p. places_of code s limit (more ++ turns) ++ p ∷ []) here
      ∙ (ap (λ ps. ps ++ place ∷ []) (places_more turns more place was is h.0)
      ∙ (append_assoc before (replicate (length more) place) (place ∷ []) ∙ ap (λ ps. before ++ ps) (one_after (length more) place)))

  pub hurried : (turns : List Turn) (old new : Going) (made place : ℕ) → GoesAt code s limit turns old → (went : WentQuietly code s limit t turns made new.walk)
      → is_enabled code s limit (place_after code s turns) t ≡ true → place ≡ place_in t (enabled code s limit (place_after code s turns))
      → ((before : List ℕ) → old.places.items ≡ counted_together before → new.places.items ≡ counted_together (before ++ replicate made place))
      → Hurried code s limit t turns made new
  hurried turns old new made place h went was is places = record {
    more = went.more;
    many = went.many;
    quiet = went.quiet;
    goes = record {
      stands = went.stands;
      counts = all_count turns went.more h.counts went.quiet;
      few = few_still turns went.more h.few went.quiet;
      places_are =
          places (places_of code s limit turns) h.places_are
          ∙ (ap (λ n. counted_together (places_of code s limit turns ++ replicate n place)) (sym went.many)
          ∙ ap counted_together (sym (places_more turns went.more place was is went.quiet)));
    };
  }

  both_quiet : (turns before more : List Turn) → AreQuietTurns code s limit t turns before → AreQuietTurns code s limit t (before ++ turns) more → AreQuietTurns code s limit t turns (more ++ before)
  both_quiet turns before [] h low = h
  both_quiet turns before (one ∷ more) h low =
      (both_quiet turns before more h low.0, subst (λ (ts : List Turn). IsQuietTurn code s limit t ts one) (sym (append_assoc more before turns)) low.1)

  -- such turns, and then more of them
  pub hurried_on : (turns : List Turn) (made : ℕ) (was on : Bool) (old new : Going) → (w : HurriedOn code s limit t turns was old) → (h : Hurried code s limit t (w.more ++ turns) made new)
      → on ≡ is_enabled code s limit (place_after code s (h.more ++ (w.more ++ turns))) t → HurriedOn code s limit t turns on new
  hurried_on turns made was on old new w h is = record {
    more = h.more ++ w.more;
    quiet = both_quiet turns w.more h.more w.quiet h.quiet;
    goes = subst (λ (ts : List Turn). GoesAt code s limit ts new) (sym (append_assoc h.more w.more turns)) h.goes;
    on_is = is ∙ ap (λ (ts : List Turn). is_enabled code s limit (place_after code s ts) t) (sym (append_assoc h.more w.more turns));
  }

  -- and then none
  none_more : (more : List Turn) → length more ≡ 0 → more ≡ []
  none_more [] e = refl
  none_more (one ∷ more) e = absurd (omega (arith, e))

  pub hurried_none : (turns : List Turn) (made : ℕ) (on : Bool) (old new : Going) → (w : HurriedOn code s limit t turns on old) → Hurried code s limit t (w.more ++ turns) made new → made ≡ 0
      → HurriedOn code s limit t turns on new
  hurried_none turns made on old new w h e =
      let none : h.more ≡ [] = none_more h.more (h.many ∙ e) in
      hurried_on turns made on on old new w h (w.on_is ∙ ap (λ (ts : List Turn). is_enabled code s limit (place_after code s (ts ++ (w.more ++ turns))) t) (sym none))

  -- turns that go on so
  pub record WalkedOn (turns : List Turn) (on : Bool) (going : Going) : Type 0 where
    pub walked : Walked code s limit t turns going
    pub on_is : on ≡ is_enabled code s limit (place_after code s (walked.more ++ turns)) t

  pub walked_hurried : (turns : List Turn) (on : Bool) (old new : Going) → (w : Walked code s limit t turns old) → HurriedOn code s limit t (w.more ++ turns) on new → WalkedOn turns on new
  walked_hurried turns on old new w h = record {
    walked = record {
      more = h.more ++ w.more;
      own = owns_both t h.more w.more (owned (w.more ++ turns) h.more h.quiet) w.own;
      goes = subst (λ (ts : List Turn). GoesAt code s limit ts new) (sym (append_assoc h.more w.more turns)) h.goes;
      quiet = quiet_both h.more w.more (all_quiet (w.more ++ turns) h.more h.quiet) w.quiet;
    };
    on_is = h.on_is ∙ ap (λ (ts : List Turn). is_enabled code s limit (place_after code s ts) t) (sym (append_assoc h.more w.more turns));
  }

  -- the place stays the same
  pub place_kept : (tables : TableLaws) (first : List Turn) (place : ℕ) → is_enabled code s limit (place_after code s first) t ≡ true → place ≡ place_in t (enabled code s limit (place_after code s first))
      → (going : Going) (w : Walked code s limit t first going) → is_enabled code s limit (place_after code s (w.more ++ first)) t ≡ true
      → (turns : List Turn) → StandsAt code s turns going.walk → place ≡ place_in t (enabled code s limit (place_after code s turns))
  place_kept tables first place was is going w still turns h =
      let kept = enabled_kept laws threads code s limit t w.more first w.quiet w.own was still in
      let same = enabled_there tables code s limit turns (w.more ++ first) going.walk h w.goes.stands in
      is ∙ ap (λ (xs : List ℕ). place_in t xs) (sym (same ∙ kept))

  pub place_still : (tables : TableLaws) (first : List Turn) (place : ℕ) → is_enabled code s limit (place_after code s first) t ≡ true → place ≡ place_in t (enabled code s limit (place_after code s first))
      → (going : Going) → HurriedOn code s limit t first true going
      → (turns : List Turn) → StandsAt code s turns going.walk → place ≡ place_in t (enabled code s limit (place_after code s turns))
  place_still tables first place was is going h turns stands =
      let w : Walked code s limit t first going = record { more = h.more; own = owned first h.more h.quiet; goes = h.goes; quiet = all_quiet first h.more h.quiet } in
      place_kept tables first place was is going w (sym h.on_is) turns stands
