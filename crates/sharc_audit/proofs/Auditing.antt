-- Verdicts.
use Rattle.sharc_audit.proofs.{Imports.{◌≡◌, ◌⊎◌, inl, inr, ℕ, zero, suc, ◌-◌, ◌<◌, ◌≤◌, ◌==◌, cond, true, false, List, [], ◌∷◌, ◌++◌, length, length-drop, take, drop, Option, Some, None, refl, ap, sym, subst, ◌∙◌, arith, append_assoc, cases_order, slice_get, slice_index_or, SourceEvent, Resolution, Assignment, AskLaws, StoreLaws, RunLaws, AskedFor, Obeys, until_return, SourceRunWith, MayCome, LegalStore, Rule, Live, OneMode, Owner, NotWritten, UnderItsLock, ReadSharedOrOneThread, Holds, number, RuleLaws, Return, IsLowestAt, EventFault, Verdict, EventLine, NextEvent, Wants, Spent, Nothing, IsSpent, Accepted, IsFirstRefused, IsAsked, IsNotLegal, IsAgainst, FailsBy, Refused, Audits, IsFault, next_asked, IsLine, AreLines, told, FindsEntries, AreKnown}, Answering.{told_asked, asked_is, computed_asked, spent_is, is_spent_at}, Breaking.{obeys_more, lowest_broken_last, broken_is}}

-- ---- rules

-- the rule with this number
rule_of : ℕ → Rule
rule_of n = cond (n == 1) Live (cond (n == 2) OneMode (cond (n == 3) Owner (cond (n == 4) NotWritten (cond (n == 5) UnderItsLock ReadSharedOrOneThread))))

rule_back : (r : Rule) → rule_of (number r) ≡ r
unfolding rule_of
rule_back Live = refl
rule_back OneMode = refl
rule_back Owner = refl
rule_back NotWritten = refl
rule_back UnderItsLock = refl
rule_back ReadSharedOrOneThread = refl

-- ---- lines

pub record LastLine (r : Resolution) (lines : List EventLine) (l : EventLine) (S : List SourceEvent) : Type 0 where
  pub front : List SourceEvent
  pub event : SourceEvent
  pub parts : S ≡ front ++ event ∷ []
  pub lines_are : AreLines r lines front
  pub line_is : IsLine r l event

pub last_line : (r : Resolution) (lines : List EventLine) (l : EventLine) (S : List SourceEvent) → AreLines r (lines ++ l ∷ []) S → LastLine r lines l S
last_line r [] l (e ∷ []) h = record { front = []; event = e; parts = refl; lines_are = tt; line_is = h.0 }
last_line r [] l (e ∷ (d ∷ S)) h = absurd (h.1)
last_line r (k ∷ lines) l (e ∷ S) h = let p = last_line r lines l S h.1 in
    record { front = e ∷ p.front; event = p.event; parts = ap (λ z. e ∷ z) p.parts; lines_are = (h.0, p.lines_are); line_is = p.line_is }
last_line r [] l [] h = absurd (h)
last_line r (k ∷ lines) l [] h = absurd (h)

pub lines_more : (r : Resolution) (lines : List EventLine) (l : EventLine) (R : List SourceEvent) (e : SourceEvent) → AreLines r lines R → IsLine r l e → AreLines r (lines ++ l ∷ []) (R ++ e ∷ [])
lines_more r [] l [] e h i = (i, tt)
lines_more r [] l (d ∷ R) e h i = absurd (h)
lines_more r (k ∷ lines) l [] e h i = absurd (h)
lines_more r (k ∷ lines) l (d ∷ R) e h i = (h.0, lines_more r lines l R e h.1 i)

pub record FrontLines (r : Resolution) (n : ℕ) (lines : List EventLine) (S : List SourceEvent) : Type 0 where
  pub front : List SourceEvent
  pub rest : List SourceEvent
  pub parts : S ≡ front ++ rest
  pub lines_are : AreLines r (take n lines) front

pub front_lines : (r : Resolution) (n : ℕ) (lines : List EventLine) (S : List SourceEvent) → AreLines r lines S → FrontLines r n lines S
front_lines r zero lines S h = record { front = []; rest = S; parts = refl; lines_are = tt }
front_lines r (suc n) [] [] h = record { front = []; rest = []; parts = refl; lines_are = tt }
front_lines r (suc n) [] (e ∷ S) h = absurd (h)
front_lines r (suc n) (k ∷ lines) [] h = absurd (h)
front_lines r (suc n) (k ∷ lines) (e ∷ S) h = let p = front_lines r n lines S h.1 in
    record { front = e ∷ p.front; rest = p.rest; parts = ap (λ z. e ∷ z) p.parts; lines_are = (h.0, p.lines_are) }

pub take_one : (lines : List EventLine) (place : ℕ) (l : EventLine) → slice_get lines place ≡ Some l → take (suc place) lines ≡ take place lines ++ l ∷ []
take_one (k ∷ lines) zero l h = let same : k ≡ l = cc in ap (λ z. z ∷ []) same
take_one (k ∷ lines) (suc place) l h = ap (λ z. k ∷ z) (take_one lines place l h)
take_one [] zero l h = absurd (cc)
take_one [] (suc place) l h = absurd (cc)

-- what follows a place
pub lines_behind : (n : ℕ) (l : List EventLine) → take (length l - n) (drop n l) ≡ drop n l
lines_behind n l = ap (λ z. take z (drop n l)) (sym (length-drop n l)) ∙ whole (drop n l)
  where
    whole : (k : List EventLine) → take (length k) k ≡ k
    whole [] = refl
    whole (x ∷ k) = ap (λ z. x ∷ z) (whole k)

pub at_place : (lines : List EventLine) (i : ℕ) (l d : EventLine) → i < length lines → l ≡ slice_index_or lines i d → slice_get lines i ≡ Some l
at_place [] i l d h e = absurd (omega (arith, h))
at_place (k ∷ lines) zero l d h e = ap Some (sym e)
at_place (k ∷ lines) (suc i) l d h e = at_place lines i l d (omega (arith, h)) e

take_more : (lines : List EventLine) (i j : ℕ) → i ≤ j → take i (take j lines) ≡ take i lines
take_more lines zero j h = refl
take_more (k ∷ lines) (suc i) zero h = absurd (omega (arith, h))
take_more (k ∷ lines) (suc i) (suc j) h = ap (λ z. k ∷ z) (take_more lines i j (omega (arith, h)))
take_more [] (suc i) zero h = refl
take_more [] (suc i) (suc j) h = refl

-- ---- runs of lines

-- the events of these lines are a run that obeys
pub record Standing (m : Assignment) (fuel : ℕ) (lines : List EventLine) (R : List SourceEvent) : Type 0 where
  pub lines_are : AreLines m.typed lines R
  pub run : SourceRunWith fuel m R
  pub obeys : Obeys R until_return

-- the verdict on what was read is that on what was given
pub of_read : {m n : Assignment} {all lines : List EventLine} (fuel : ℕ) (v : Verdict) → m ≡ n → all ≡ lines → Audits m fuel all v → Audits n fuel lines v
of_read {m = m} {lines = lines} fuel v p q h = subst (λ z. Audits z fuel lines v) p (subst (λ z. Audits m fuel z v) q h)

module _ (ask : AskLaws) (store : StoreLaws) (runs : RunLaws) (rules : RuleLaws) (m : Assignment) (one : FindsEntries m.typed) (fuel : ℕ) where
  -- one list of events at most is that of the lines

  pub one_event : (R : List SourceEvent) (l : EventLine) (d e : SourceEvent) → LegalStore m.typed R → IsLine m.typed l d → AskedFor m fuel R d → IsLine m.typed l e → AskedFor m fuel R e → d ≡ e
  one_event R l d e legal dl da el ea =
      let z : Wants d ≡ Wants e = sym (asked_is ask m one fuel R legal l d dl da) ∙ asked_is ask m one fuel R legal l e el ea in
      cc

  same_behind : (P : List SourceEvent) (lines : List EventLine) (R S : List SourceEvent) → AreLines m.typed lines R → AreLines m.typed lines S → SourceRunWith fuel m (P ++ R) → SourceRunWith fuel m (P ++ S) → R ≡ S
  same_behind P [] [] [] hr hs rr rs = refl
  same_behind P [] [] (e ∷ S) hr hs rr rs = absurd (hs)
  same_behind P [] (d ∷ R) S hr hs rr rs = absurd (hr)
  same_behind P (l ∷ lines) [] S hr hs rr rs = absurd (hr)
  same_behind P (l ∷ lines) (d ∷ R) [] hr hs rr rs = absurd (hs)
  same_behind P (l ∷ lines) (d ∷ R) (e ∷ S) hr hs rr rs =
      let rr1 : SourceRunWith fuel m ((P ++ d ∷ []) ++ R) = subst (SourceRunWith fuel m) (sym (append_assoc P (d ∷ []) R)) rr in
      let rs1 : SourceRunWith fuel m ((P ++ e ∷ []) ++ S) = subst (SourceRunWith fuel m) (sym (append_assoc P (e ∷ []) S)) rs in
      let da = runs.last_asked m fuel P d (runs.prefixes_with fuel m (P ++ d ∷ []) R rr1) in
      let ea = runs.last_asked m fuel P e (runs.prefixes_with fuel m (P ++ e ∷ []) S rs1) in
      let legal = (runs.prefixes_with fuel m P (d ∷ R) rr).legal in
      let same : e ≡ d = one_event P l e d legal hs.0 ea hr.0 da in
      let rs2 : SourceRunWith fuel m ((P ++ d ∷ []) ++ S) = subst (λ z. SourceRunWith fuel m ((P ++ z ∷ []) ++ S)) same rs1 in
      ap (λ z. d ∷ z) (same_behind (P ++ d ∷ []) lines R S hr.1 hs.1 rr1 rs2) ∙ ap (λ z. z ∷ S) (sym same)

  pub same_events : (lines : List EventLine) (R S : List SourceEvent) → AreLines m.typed lines R → AreLines m.typed lines S → SourceRunWith fuel m R → SourceRunWith fuel m S → R ≡ S
  same_events lines R S hr hs rr rs = same_behind [] lines R S hr hs rr rs

  pub accepted_front : (n : ℕ) (lines : List EventLine) → Accepted m fuel lines → Accepted m fuel (take n lines)
  accepted_front n lines a =
      let p = front_lines m.typed n lines a.events a.lines_are in
      record {
        events = p.front;
        lines_are = p.lines_are;
        run = runs.prefixes_with fuel m p.front p.rest (subst (SourceRunWith fuel m) p.parts a.run);
        obeys = runs.obeying until_return p.front p.rest (subst (λ z. Obeys z until_return) p.parts a.obeys);
      }

  -- ---- one line more

  module _ (lines : List EventLine) (place : ℕ) (l : EventLine) (stands : slice_get lines place ≡ Some l) (R : List SourceEvent) (s : Standing m fuel (take place lines) R) where
    accepted_so : Accepted m fuel (take place lines)
    accepted_so = record { events = R; lines_are = s.lines_are; run = s.run; obeys = s.obeys }

    pub stands_on : (e : SourceEvent) → next_asked m fuel R l ≡ Wants e → IsLine m.typed l e → MayCome m.typed R e e.act → IsLowestAt R e None → Standing m fuel (take (suc place) lines) (R ++ e ∷ [])
    stands_on e next line may unbroken = record {
      lines_are = subst (λ z. AreLines m.typed z (R ++ e ∷ [])) (sym (take_one lines place l stands)) (lines_more m.typed (take place lines) l R e s.lines_are line);
      run = runs.grow_with m fuel R e s.run may (computed_asked ask m one fuel R s.run.legal s.run l e next line);
      obeys = obeys_more rules R e s.obeys unbroken;
    }

    -- the line is refused where no event of it is asked for, legal and obeys
    pub refused_by : ((e : SourceEvent) → IsLine m.typed l e → AskedFor m fuel R e → MayCome m.typed R e e.act → Obeys (R ++ e ∷ []) until_return → ⊥) → Accepted m fuel (take (suc place) lines) → ⊥
    refused_by none a =
        let p = last_line m.typed (take place lines) l a.events (subst (λ z. AreLines m.typed z a.events) (take_one lines place l stands) a.lines_are) in
        let run1 : SourceRunWith fuel m (p.front ++ p.event ∷ []) = subst (SourceRunWith fuel m) p.parts a.run in
        let same : p.front ≡ R = same_events (take place lines) p.front R p.lines_are s.lines_are (runs.prefixes_with fuel m p.front (p.event ∷ []) run1) s.run in
        let run2 : SourceRunWith fuel m (R ++ p.event ∷ []) = subst (λ z. SourceRunWith fuel m (z ++ p.event ∷ [])) same run1 in
        let obeys2 : Obeys (R ++ p.event ∷ []) until_return = subst (λ z. Obeys (z ++ p.event ∷ []) until_return) same (subst (λ z. Obeys z until_return) p.parts a.obeys) in
        none p.event p.line_is (runs.last_asked m fuel R p.event run2) (run2.legal R p.event [] refl) obeys2

    abbrev pub first_refused : ((e : SourceEvent) → IsLine m.typed l e → AskedFor m fuel R e → MayCome m.typed R e e.act → Obeys (R ++ e ∷ []) until_return → ⊥) → IsFirstRefused m fuel lines place l
    first_refused none = record { stands = stands; before = record { events = R; lines_are = s.lines_are; run = s.run; obeys = s.obeys }; refused = refused_by none }

    abbrev refused_at : (n : ℕ) → n ≡ suc place → ((e : SourceEvent) → IsLine m.typed l e → AskedFor m fuel R e → MayCome m.typed R e e.act → Obeys (R ++ e ∷ []) until_return → ⊥) → Refused m fuel lines n
    refused_at n count none = record { place = place; line_at = l; first = first_refused none; counted = count }

    abbrev pub is_asked_by : (e : SourceEvent) → next_asked m fuel R l ≡ Wants e → IsLine m.typed l e → IsAsked m fuel R l
    is_asked_by e next line = record { event = e; asked = computed_asked ask m one fuel R s.run.legal s.run l e next line; line_is = line }

    abbrev pub Next_is : NextEvent → Type 0
    Next_is n = next_asked m fuel R l ≡ n

    same_next : (e d : SourceEvent) → Next_is (Wants e) → IsLine m.typed l d → AskedFor m fuel R d → e ≡ d
    same_next e d next line asked = let z : Wants e ≡ Wants d = sym next ∙ asked_is ask m one fuel R s.run.legal l d line asked in cc

    -- a fault that was found
    pub says_spent : (n : ℕ) → n ≡ suc place → Next_is Spent → Audits m fuel lines (Verdict.Fuel n)
    says_spent n count next = (
      refused_at n count (λ e line asked may obeys. let z : Spent ≡ Wants e = sym next ∙ asked_is ask m one fuel R s.run.legal l e line asked in absurd (cc)),
      is_spent_at ask m one fuel R s.run.legal l.thread (told l) s.run next,
    )

    pub says_nothing : (n : ℕ) → n ≡ suc place → Next_is Nothing → Audits m fuel lines (Verdict.Fails n EventFault.NotAsked)
    says_nothing n count next = (
      refused_at n count (λ e line asked may obeys. none e line asked),
      record {
        unspent = λ spent. let z : Nothing ≡ Spent = sym next ∙ spent_is ask m one fuel R s.run.legal l.thread (told l) spent in absurd (cc);
        none = λ a. none a.event a.line_is a.asked;
      },
    )
      where
        none : (e : SourceEvent) → IsLine m.typed l e → AskedFor m fuel R e → ⊥
        none e line asked = let z : Nothing ≡ Wants e = sym next ∙ asked_is ask m one fuel R s.run.legal l e line asked in absurd (cc)

    pub says_other : (n : ℕ) (e : SourceEvent) → n ≡ suc place → Next_is (Wants e) → (IsLine m.typed l e → ⊥) → Audits m fuel lines (Verdict.Fails n EventFault.NotAsked)
    says_other n e count next other = (
      refused_at n count (λ d line asked may obeys. none d line asked),
      record {
        unspent = λ spent. let z : Wants e ≡ Spent = sym next ∙ spent_is ask m one fuel R s.run.legal l.thread (told l) spent in absurd (cc);
        none = λ a. none a.event a.line_is a.asked;
      },
    )
      where
        none : (d : SourceEvent) → IsLine m.typed l d → AskedFor m fuel R d → ⊥
        none d line asked = other (subst (IsLine m.typed l) (sym (same_next e d next line asked)) line)

    pub says_illegal : (n : ℕ) (e : SourceEvent) → n ≡ suc place → Next_is (Wants e) → IsLine m.typed l e → (MayCome m.typed R e e.act → ⊥) → Audits m fuel lines (Verdict.Fails n EventFault.NotLegal)
    says_illegal n e count next line illegal = (
      refused_at n count (λ d line2 asked may obeys. illegal (subst (λ (z : SourceEvent). MayCome m.typed R z z.act) (sym (same_next e d next line2 asked)) may)),
      record { asked = is_asked_by e next line; illegal = illegal },
    )

    pub says_against : (n : ℕ) (e : SourceEvent) (rule : Rule) → n ≡ suc place → Next_is (Wants e) → IsLine m.typed l e → MayCome m.typed R e e.act → IsLowestAt R e (Some rule) → Audits m fuel lines (Verdict.Fails n (EventFault.Rule rule))
    says_against n e rule count next line may lowest = (
      refused_at n count (λ d line2 asked may obeys. broken_is rules R e rule lowest (subst (λ z. Obeys (R ++ z ∷ []) until_return) (sym (same_next e d next line2 asked)) obeys)),
      record { asked = is_asked_by e next line; legal = may; lowest = lowest_broken_last rules R e rule s.obeys lowest },
    )

    pub says_fault : (n : ℕ) (e : SourceEvent) (why : EventFault) → n ≡ suc place → Next_is (Wants e) → IsLine m.typed l e → IsFault m R e why → Audits m fuel lines (Verdict.Fails n why)
    says_fault n e EventFault.NotAsked count next line f = absurd (f)
    says_fault n e EventFault.NotLegal count next line f = says_illegal n e count next line f
    says_fault n e (EventFault.Rule rule) count next line f = says_against n e rule count next line f.legal f.lowest

    pub told_so : (e : SourceEvent) → Next_is (Wants e) → IsLine m.typed l e → told l ≡ e.answer
    told_so e next line = told_asked ask m one fuel R s.run.legal l e line (computed_asked ask m one fuel R s.run.legal s.run l e next line)

  -- ---- one verdict

  -- a refused line is at one place
  same_place : (lines : List EventLine) (i j : ℕ) (k l : EventLine) → IsFirstRefused m fuel lines i k → IsFirstRefused m fuel lines j l → i ≡ j
  same_place lines i j k l a b = by_order (cases_order i j)
    where
      by_order : (i ≡ j) ⊎ ((i < j) ⊎ (j < i)) → i ≡ j
      by_order (inl e) = e
      by_order (inr (inl less)) = absurd (a.refused (subst (Accepted m fuel) (take_more lines (suc i) j (omega (arith, less))) (accepted_front (suc i) (take j lines) b.before)))
      by_order (inr (inr less)) = absurd (b.refused (subst (Accepted m fuel) (take_more lines (suc j) i (omega (arith, less))) (accepted_front (suc j) (take i lines) a.before)))

  abbrev pub Here : List EventLine → ℕ → EventLine → List SourceEvent → Type 0
  Here lines place l R = (slice_get lines place ≡ Some l) × Standing m fuel (take place lines) R

  abbrev here_of : (lines : List EventLine) (place : ℕ) (l : EventLine) → (f : IsFirstRefused m fuel lines place l) → Here lines place l f.before.events
  here_of lines place l f = (f.stands, record { lines_are = f.before.lines_are; run = f.before.run; obeys = f.before.obeys })

  -- the same lines and events at the same place
  same_here : (lines : List EventLine) (place : ℕ) (k l : EventLine) (R S : List SourceEvent) → Here lines place k R → Here lines place l S → (k ≡ l) × (R ≡ S)
  same_here lines place k l R S a b =
      ((let z : Some k ≡ Some l = sym a.0 ∙ b.0 in cc), same_events (take place lines) R S a.1.lines_are b.1.lines_are a.1.run b.1.run)

  abbrev Said : List SourceEvent → EventLine → Option EventFault → Type 0
  Said R l None = IsSpent m fuel R l.thread
  Said R l (Some why) = FailsBy m fuel R l why

  module _ (R : List SourceEvent) (run : SourceRunWith fuel m R) (l : EventLine) where
    same_asked : (a b : IsAsked m fuel R l) → a.event ≡ b.event
    same_asked a b = one_event R l a.event b.event run.legal a.line_is a.asked b.line_is b.asked

    spent_or_asked : IsSpent m fuel R l.thread → IsAsked m fuel R l → ⊥
    spent_or_asked s a = let z : Spent ≡ Wants a.event = sym (spent_is ask m one fuel R run.legal l.thread (told l) s) ∙ asked_is ask m one fuel R run.legal l a.event a.line_is a.asked in absurd (cc)

    illegal_or_not : IsNotLegal m fuel R l → (rule : Rule) → IsAgainst m fuel R l rule → ⊥
    illegal_or_not a rule b = a.illegal (subst (λ (z : SourceEvent). MayCome m.typed R z z.act) (sym (same_asked a.asked b.asked)) b.legal)

    one_rule : (c d : Rule) → IsAgainst m fuel R l c → IsAgainst m fuel R l d → c ≡ d
    one_rule c d a b = sym (rule_back c) ∙ ap rule_of (by_order (cases_order (number c) (number d))) ∙ rule_back d
      where
        same : a.asked.event ≡ b.asked.event
        same = same_asked a.asked b.asked

        by_order : (number c ≡ number d) ⊎ ((number c < number d) ⊎ (number d < number c)) → number c ≡ number d
        by_order (inl e) = e
        by_order (inr (inl less)) = absurd (a.lowest.broken (subst (λ z. Holds (R ++ z ∷ []) until_return c) (sym same) (b.lowest.lower c less)))
        by_order (inr (inr less)) = absurd (b.lowest.broken (subst (λ z. Holds (R ++ z ∷ []) until_return d) same (a.lowest.lower d less)))

    one_reason : (v w : Option EventFault) → Said R l v → Said R l w → v ≡ w
    one_reason None None a b = refl
    one_reason None (Some EventFault.NotAsked) a b = absurd (b.unspent a)
    one_reason (Some EventFault.NotAsked) None a b = absurd (a.unspent b)
    one_reason (Some EventFault.NotAsked) (Some EventFault.NotAsked) a b = refl
    one_reason (Some EventFault.NotAsked) (Some EventFault.NotLegal) a b = absurd (a.none b.asked)
    one_reason (Some EventFault.NotAsked) (Some (EventFault.Rule d)) a b = absurd (a.none b.asked)
    one_reason (Some EventFault.NotLegal) None a b = absurd (spent_or_asked b a.asked)
    one_reason (Some EventFault.NotLegal) (Some EventFault.NotAsked) a b = absurd (b.none a.asked)
    one_reason (Some EventFault.NotLegal) (Some EventFault.NotLegal) a b = refl
    one_reason (Some EventFault.NotLegal) (Some (EventFault.Rule d)) a b = absurd (illegal_or_not a d b)
    one_reason (Some (EventFault.Rule c)) None a b = absurd (spent_or_asked b a.asked)
    one_reason (Some (EventFault.Rule c)) (Some EventFault.NotAsked) a b = absurd (b.none a.asked)
    one_reason (Some (EventFault.Rule c)) (Some EventFault.NotLegal) a b = absurd (illegal_or_not b c a)
    one_reason (Some (EventFault.Rule c)) (Some (EventFault.Rule d)) a b = ap (λ z. Some (EventFault.Rule z)) (one_rule c d a b)
    one_reason None _ a b = absurd (spent_or_asked a b.asked)

  said_there : (lines : List EventLine) (i j : ℕ) (k l : EventLine) (R S : List SourceEvent) (v w : Option EventFault) → i ≡ j → Here lines i k R → Here lines j l S → Said R k v → Said S l w → v ≡ w
  said_there lines i j k l R S v w same a b p q =
      let a2 = subst (λ z. Here lines z k R) same a in
      let both = same_here lines j k l R S a2 b in
      one_reason S b.1.run l v w (subst (λ z. Said S z v) both.0 (subst (λ z. Said z k v) both.1 p)) q

  -- where it is accepted as a whole, nothing is refused
  all_or_refused : (lines : List EventLine) (n : ℕ) → Accepted m fuel lines → Refused m fuel lines n → ⊥
  all_or_refused lines n a h = h.first.refused (accepted_front (suc h.place) lines a)

  two_refused : (lines : List EventLine) (n k : ℕ) (a : Refused m fuel lines n) (b : Refused m fuel lines k) (v w : Option EventFault) → Said a.first.before.events a.line_at v → Said b.first.before.events b.line_at w → (n ≡ k) × (v ≡ w)
  two_refused lines n k a b v w p q =
      let same = same_place lines a.place b.place a.line_at b.line_at a.first b.first in (
        a.counted ∙ ap suc same ∙ sym b.counted,
        said_there lines a.place b.place a.line_at b.line_at a.first.before.events b.first.before.events v w same (here_of lines a.place a.line_at a.first) (here_of lines b.place b.line_at b.first) p q,
      )

  pub one_verdict : (lines : List EventLine) (v w : Verdict) → Audits m fuel lines v → Audits m fuel lines w → v ≡ w
  one_verdict lines (Verdict.Obeys n) (Verdict.Obeys k) a b = ap Verdict.Obeys (a.0 ∙ sym b.0)
  one_verdict lines (Verdict.Obeys n) (Verdict.Fails k why) a b = absurd (all_or_refused lines k a.1 b.0)
  one_verdict lines (Verdict.Obeys n) (Verdict.Fuel k) a b = absurd (all_or_refused lines k a.1 b.0)
  one_verdict lines (Verdict.Fails n why) (Verdict.Obeys k) a b = absurd (all_or_refused lines n b.1 a.0)
  one_verdict lines (Verdict.Fuel n) (Verdict.Obeys k) a b = absurd (all_or_refused lines n b.1 a.0)
  one_verdict lines (Verdict.Fails n why) (Verdict.Fails k other) a b = let h = two_refused lines n k a.0 b.0 (Some why) (Some other) a.1 b.1 in
      let s : why ≡ other = let z = h.1 in cc in ap (λ z. Verdict.Fails z why) h.0 ∙ ap (Verdict.Fails k) s
  one_verdict lines (Verdict.Fails n why) (Verdict.Fuel k) a b = let h = two_refused lines n k a.0 b.0 (Some why) None a.1 b.1 in let z = h.1 in absurd (cc)
  one_verdict lines (Verdict.Fuel n) (Verdict.Fails k why) a b = let h = two_refused lines n k a.0 b.0 None (Some why) a.1 b.1 in let z = h.1 in absurd (cc)
  one_verdict lines (Verdict.Fuel n) (Verdict.Fuel k) a b = let h = two_refused lines n k a.0 b.0 None None a.1 b.1 in ap Verdict.Fuel h.0

-- ---- no line

none_stands : (before : List SourceEvent) (e : SourceEvent) (after : List SourceEvent) → [] ≡ before ++ e ∷ after → ⊥
none_stands [] e after h = cc
none_stands (d ∷ before) e after h = cc

pub nothing_stands : RuleLaws → (m : Assignment) (fuel : ℕ) → Standing m fuel [] []
nothing_stands laws m fuel = record {
  lines_are = tt;
  run = record { legal = λ before e after stands. absurd (none_stands before e after stands); threads = λ thread. inl refl };
  obeys = (laws.each [] until_return).0 (λ rule. (laws.unbroken rule Return []).0 (λ before e after a stands is. absurd (none_stands before e after stands)));
}

pub nothing_known : (m : Assignment) (fuel : ℕ) (lines : List EventLine) → AreKnown m fuel [] lines []
nothing_known m fuel lines = record { each = tt; all = λ t h. absurd (let z : false ≡ true = h in cc) }
