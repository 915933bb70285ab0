-- Where a thread of a source run stands: by its events it has come to this outcome. What then may come next of it, and how the run goes on.
use Rattle.sharc_sound_laws.proofs.{Imports.{◌≡◌, ◌≢◌, ℕ, suc, ℤ, pos, ◌+◌, ⊎_elim, cond, List, [], ◌∷◌, ◌++◌, length, map, Some, refl, sym, ap, ◌∙◌, subst, arith, append_assoc, map-append, append-nil, filter-append, ◌==◌, Act, SourceEvent, Site, Taken, function_at, AreOneByName, Assignment, Access, Stands, access_by, events_of, is_of, AskLaws, IsAnswer, Next, Asked, asks, History, Follows, IsNamedAt, SourceRun, answers_of, by, wants, spent, event_of, MayCome, value_after, IsSameAsked, StandsAt, same_is, other_is}, Next.{wanted, comes_as}}
use Rattle.sharc_meaning.specs.Laws.{RunLaws}

-- ---- events of a thread
one_of : (t : ℕ) (e : SourceEvent) → e.thread ≡ t → events_of t (e ∷ []) ≡ e ∷ []
one_of t e own = ap (λ b. cond b (e ∷ []) []) (ap (λ n. n == t) own ∙ same_is t)

none_of : (t : ℕ) (e : SourceEvent) → e.thread ≢ t → events_of t (e ∷ []) ≡ []
none_of t e ne = ap (λ b. cond b (e ∷ []) []) (other_is e.thread t ne)

pub behind_own : (t : ℕ) (R : History) (e : SourceEvent) → e.thread ≡ t → events_of t (R ++ e ∷ []) ≡ events_of t R ++ e ∷ []
behind_own t R e own = filter-append (is_of t) R (e ∷ []) ∙ ap (λ es. events_of t R ++ es) (one_of t e own)

behind_other : (t : ℕ) (R : History) (e : SourceEvent) → e.thread ≢ t → events_of t (R ++ e ∷ []) ≡ events_of t R
behind_other t R e ne = filter-append (is_of t) R (e ∷ []) ∙ ap (λ es. events_of t R ++ es) (none_of t e ne) ∙ append-nil (events_of t R)

-- those of a thread, where its first one stands
pub from_first : (t : ℕ) (R before after : History) (e : SourceEvent) → Stands R before e after → e.thread ≡ t → events_of t before ≡ [] → events_of t R ≡ e ∷ events_of t after
from_first t R before after e stands own none =
    ap (events_of t) stands ∙ filter-append (is_of t) before (e ∷ after) ∙ ap (λ es. es ++ events_of t (e ∷ after)) none
    ∙ ap (λ b. cond b (e ∷ events_of t after) (events_of t after)) (ap (λ n. n == t) own ∙ same_is t)

-- ---- the run goes on by another thread
module _ (m : Assignment) (R : History) (t : ℕ) (come : Asked) (h : StandsAt m R t come) where
  pub stays : (d : SourceEvent) → d.thread ≢ t → StandsAt m (R ++ d ∷ []) t come
  stays d ne =
      let own = h.own in
      let same : events_of t (own.after ++ d ∷ []) ≡ events_of t own.after = behind_other t own.after d ne in
      record {
        fuel = h.fuel;
        own = record {
          function = own.function;
          argument = own.argument;
          before = own.before;
          begins = own.begins;
          after = own.after ++ d ∷ [];
          stands = ap (λ (R : History). R ++ d ∷ []) own.stands ∙ append_assoc own.before (own.begins ∷ own.after) (d ∷ []);
          own = own.own;
          first = own.first;
          act = own.act;
          answer = own.answer;
          site = own.site;
          by_right = own.by_right;
          asked = ap (λ es. map (by t) (asks m own.function own.argument (answers_of es) h.fuel).events) same ∙ own.asked ∙ sym same;
        };
        is = ap (λ es. asks m own.function own.argument (answers_of es) h.fuel) same ∙ h.is;
      }

  -- ---- it goes on with an access that the thread wants
  module _ (ask : AskLaws) (laws : RunLaws) (run : SourceRun m R) (site : Site) (act : Act) (a : Access) (wanted_is : come.outcome ≡ wants (event_of site act (pos 0))) (is : access_by act ≡ Some a) where
    -- what a Read or a Take finds, and what a Write answers
    abbrev found : Act → ℤ
    found (Act.Read c mode) = value_after m.typed R c
    found (Act.Take (Taken.Cell c mode) kind) = value_after m.typed R c
    found _ = pos 0

    abbrev event : SourceEvent
    event = record { thread = t; site = site; answer = found act; act = act }

    may_come : MayCome m.typed R event act
    may_come = by_act act is
      where
        by_act : (b : Act) → access_by b ≡ Some a → MayCome m.typed R (record { thread = t; site = site; answer = found b; act = act }) b
        by_act (Act.Read c mode) e = refl
        by_act (Act.Write c mode v) e = tt
        by_act (Act.Take (Taken.Cell c mode) kind) e = refl
        by_act _ e = cc

    answers_it : (b : Act) → access_by b ≡ Some a → (answer : ℤ) → IsAnswer b (found b) answer → answer ≡ found b
    answers_it (Act.Read c mode) e answer q = q
    answers_it (Act.Write c mode v) e answer q = q
    answers_it (Act.Take (Taken.Cell c mode) kind) e answer q = q
    answers_it _ e answer q = cc

    next : Next m R event
    next =
        let own = h.own in
        let answers = answers_of (events_of t own.after) in
        let c = ask.comes m own.function own.argument answers (found act) h.fuel (event_of site act (pos 0)) (ap (λ (k : Asked). k.outcome) h.is ∙ wanted_is) in
        let same : c.answer ≡ found act = answers_it act is c.answer c.is in
        record {
          fuel = h.fuel;
          own = own;
          comes = ap (map (by t)) c.events ∙ map-append (by t) (asks m own.function own.argument answers h.fuel).events (record (event_of site act (pos 0)) { answer = c.answer } ∷ [])
              ∙ ap (λ es. es ++ record { thread = t; site = site; answer = c.answer; act = act } ∷ []) own.asked
              ∙ ap (λ v. events_of t own.after ++ record { thread = t; site = site; answer = v; act = act } ∷ []) same;
        }

    pub grows : (e : SourceEvent) × (e.thread ≡ t) × (e.act ≡ act) × SourceRun m (R ++ e ∷ [])
    grows = (event, refl, refl, laws.grow m R event run may_come next)

-- ---- the last event of a list that was mapped
record IsLast (t : ℕ) (xs ys : List SourceEvent) (e : SourceEvent) : Type 0 where
  front : List SourceEvent
  last : SourceEvent
  is : xs ≡ front ++ last ∷ []
  long : length front ≡ length ys
  same : by t last ≡ e

last_of : (t : ℕ) (xs ys : List SourceEvent) (e : SourceEvent) → map (by t) xs ≡ ys ++ e ∷ [] → IsLast t xs ys e
last_of t [] [] e q = absurd (cc)
last_of t [] (y ∷ ys) e q = absurd (cc)
last_of t (x ∷ []) [] e q = record { front = []; last = x; is = refl; long = refl; same = cc }
last_of t (x ∷ y ∷ xs) [] e q = absurd (let tail : by t y ∷ map (by t) xs ≡ [] = cc in cc)
last_of t (x ∷ xs) (y ∷ ys) e q =
    let tail : map (by t) xs ≡ ys ++ e ∷ [] = cc in
    let r = last_of t xs ys e tail in
    record { front = x ∷ r.front; last = r.last; is = ap (λ es. x ∷ es) r.is; long = ap (λ n. suc n) r.long; same = r.same }

-- ---- no other event of the thread may come next than the one that it wants
pub record IsNextBy (come : Asked) (e : SourceEvent) : Type 0 where
  pub event : SourceEvent
  pub is : come.outcome ≡ wants event
  pub same : IsSameAsked e event

module _ (ask : AskLaws) (m : Assignment) (names : AreOneByName m.typed) (R : History) (t : ℕ) (come : Asked) (h : StandsAt m R t come) (known : come.outcome ≢ spent) (e : SourceEvent) (mine : e.thread ≡ t) where
  started_eq : (v w : ℤ) → Act.Started v ≡ Act.Started w → v ≡ w
  started_eq v w q = cc

  head_eq : (a b : SourceEvent) (xs ys : List SourceEvent) → a ∷ xs ≡ b ∷ ys → a ≡ b
  head_eq a b xs ys q = cc

  tail_eq : (a b : SourceEvent) (xs ys : List SourceEvent) → a ∷ xs ≡ b ∷ ys → xs ≡ ys
  tail_eq a b xs ys q = cc

  -- the thread asks for its events and for this one
  asked_next : (function : ℕ) (argument : ℤ) (fuel : ℕ) (told : List SourceEvent) → map (by t) (asks m function argument (answers_of told ++ e.answer ∷ []) fuel).events ≡ told ++ e ∷ []
      → (more : ℕ) → map (by t) (asks m function argument (answers_of told) more).events ≡ told → asks m function argument (answers_of told) more ≡ come → IsNextBy come e
  asked_next function argument fuel told asked more before is =
      let last = last_of t (asks m function argument (answers_of told ++ e.answer ∷ []) fuel).events told e asked in
      let answers = answers_of told in
      let turned : more + fuel ≡ fuel + more = omega arith in
      let same : asks m function argument answers (fuel + more) ≡ come =
      ap (asks m function argument answers) (sym turned) ∙ ask.fuel_same m function argument answers more fuel (λ z. known (sym (ap (λ (k : Asked). k.outcome) is) ∙ z)) ∙ is
      in
      let long : length last.front ≡ length answers = last.long ∙ sym (count told) in
      let w = wanted ask m function argument answers e.answer fuel more last.front last.last last.is long (asks m function argument answers (fuel + more)).outcome refl in
      let c = comes_as ask m function argument answers e.answer fuel more last.front last.last last.is long w.0 w.1 in
      record {
        event = w.0;
        is = ap (λ (k : Asked). k.outcome) (sym same) ∙ w.1;
        same = record { act = ap (λ (d : SourceEvent). d.act) (sym last.same) ∙ c.act; site = ap (λ (d : SourceEvent). d.site) (sym last.same) ∙ c.site };
      }
    where
      count : (es : List SourceEvent) → length (answers_of es) ≡ length es
      count [] = refl
      count (x ∷ es) = ap (λ n. suc n) (count es)

  pub next_by : SourceRun m (R ++ e ∷ []) → IsNextBy come e
  next_by run = ⊎_elim
      (λ (none : events_of t (R ++ e ∷ []) ≡ []). absurd (some (events_of t R) (sym (behind_own t R e mine) ∙ none)))
      (λ (k : (fuel : ℕ) × Follows m (R ++ e ∷ []) fuel t). follows_next k.0 k.1)
      (run.threads t)
    where
      some : (es : List SourceEvent) → es ++ e ∷ [] ≡ [] → ⊥
      some [] q = cc
      some (x ∷ es) q = cc

      follows_next : (fuel : ℕ) → Follows m (R ++ e ∷ []) fuel t → IsNextBy come e
      follows_next fuel f =
          let own = h.own in
          let mine_now : events_of t (R ++ e ∷ []) ≡ own.begins ∷ (events_of t own.after ++ e ∷ []) =
          behind_own t R e mine ∙ ap (λ es. es ++ e ∷ []) (from_first t R own.before own.after own.begins own.stands own.own own.first)
          in
          let both : own.begins ∷ (events_of t own.after ++ e ∷ []) ≡ f.begins ∷ events_of t f.after = sym mine_now ∙ from_first t (R ++ e ∷ []) f.before f.after f.begins f.stands f.own f.first in
          let begins = head_eq own.begins f.begins (events_of t own.after ++ e ∷ []) (events_of t f.after) both in
          let after = tail_eq own.begins f.begins (events_of t own.after ++ e ∷ []) (events_of t f.after) both in
          let function : own.function ≡ f.function = names own.function f.function own.begins.site own.site (subst (λ (d : SourceEvent). IsNamedAt (function_at m.typed f.function) d.site) (sym begins) f.site) in
          let argument : own.argument ≡ f.argument = started_eq own.argument f.argument (sym own.act ∙ ap (λ (d : SourceEvent). d.act) begins ∙ f.act) in
          let told = events_of t own.after in
          let asked : map (by t) (asks m f.function f.argument (answers_of (told ++ e ∷ [])) fuel).events ≡ told ++ e ∷ [] =
          ap (λ es. map (by t) (asks m f.function f.argument (answers_of es) fuel).events) after ∙ f.asked ∙ sym after
          in
          let asked' : map (by t) (asks m own.function own.argument (answers_of told ++ e.answer ∷ []) fuel).events ≡ told ++ e ∷ [] =
          ap (λ n. map (by t) (asks m n own.argument (answers_of told ++ e.answer ∷ []) fuel).events) function
          ∙ ap (λ v. map (by t) (asks m f.function v (answers_of told ++ e.answer ∷ []) fuel).events) argument
          ∙ ap (λ xs. map (by t) (asks m f.function f.argument xs fuel).events) (sym (map-append (λ (d : SourceEvent). d.answer) told (e ∷ []))) ∙ asked
          in
          asked_next own.function own.argument fuel told asked' h.fuel own.asked h.is
