-- The reply to an event file is one.
use Rattle.sharc_reply_laws.proofs.{Imports.{◌≡◌, ℕ, ◌<◌, ◌≤◌, List, length, refl, ap, ◌∙◌, subst, arith, IsResolved, Assignment, MeetsRules, CheckLaws, SuggestLaws, EventLine, OneVerdict, FileLaws, text_lines, IsFirstBad, HasMany, verdict_line, bad_line, refusal_line, IsFront, Status, Judges, not_judged, judged, JudgesSource, faulty_source, of_program, IsFewIn, FileReplies, long_file, no_file, many_events, long_source, source_judged, source_limit, file_limit, WarningsAreOne, SourceLaws, IsVerdict}, Verdicts.one_refusal}
use Rattle.sharc_top.specs.EventFiles.{status_of}

pub record FileReplyLaws : Type 0 where
  pub warnings : WarningsAreOne
  pub sources : SourceLaws
  pub checks : CheckLaws
  pub suggests : SuggestLaws
  pub files : FileLaws
  pub verdicts : OneVerdict

abbrev Same : Status → Status → List ℕ → List ℕ → Type 0
Same s z text other = (s ≡ z) × (text ≡ other)

not_long : (limit : ℕ) (input : List ℕ) → limit < length input → length input ≤ limit → ⊥
not_long limit input long short = omega (arith, long, short)

module _ (laws : FileReplyLaws) where
  one_judging : (m : Assignment) → IsResolved m.typed → (fuel : ℕ) (events : List EventLine) (s z : Status) (text other : List ℕ) → Judges m fuel events s text → Judges m fuel events z other → Same s z text other
  one_judging m typed fuel events s z text other (not_judged t is) (not_judged u also) = (refl, one_refusal laws.warnings laws.checks laws.suggests m t u is also)
  one_judging m typed fuel events s z text other (not_judged t is) (judged v meets a) = absurd (is.breaks_rules meets)
  one_judging m typed fuel events s z text other (judged v meets a) (not_judged t is) = absurd (is.breaks_rules meets)
  one_judging m typed fuel events s z text other (judged v meets a) (judged w also b) = let same = laws.verdicts m fuel events v w typed a b in (ap status_of same, ap (verdict_line fuel) same)

  one_source : (source : List ℕ) (fuel : ℕ) (events : List EventLine) (s z : Status) (text other : List ℕ) → JudgesSource source fuel events s text → JudgesSource source fuel events z other → Same s z text other
  one_source source fuel events s z text other (faulty_source x is) (faulty_source y also) = (refl, ap refusal_line (laws.sources.fault source x y is also))
  one_source source fuel events s z text other (faulty_source x is) (of_program m y t front does) = absurd (laws.sources.faultless source m front x is)
  one_source source fuel events s z text other (of_program m y t front does) (faulty_source x is) = absurd (laws.sources.faultless source m front x is)
  one_source source fuel events s z text other (of_program m y t front does) (of_program n x u also acts) =
      one_judging n also.typed.resolved fuel events y x t u (subst (λ (k : Assignment). Judges k fuel events y t) (laws.sources.program source m n front also) does) acts

  -- two event files of one input are one
  many_or_few : (input source : List ℕ) (fuel : ℕ) (events : List EventLine) → HasMany (text_lines input) → IsFewIn input source fuel events → ⊥
  many_or_few input source fuel events h f =
      let same = laws.files.file (text_lines input) h.source source h.fuel fuel h.events events h.file f.file in
      let many = subst (λ (l : List EventLine). 4096 < length l) same.2 h.many in
      not_long_list events many f.few
    where
      not_long_list : (l : List EventLine) → 4096 < length l → length l ≤ 4096 → ⊥
      not_long_list l long short = omega (arith, long, short)

  bad_or_few : (input source : List ℕ) (fuel : ℕ) (events : List EventLine) (n : ℕ) → IsFirstBad (text_lines input) n → IsFewIn input source fuel events → ⊥
  bad_or_few input source fuel events n bad f = laws.files.faultless (text_lines input) source fuel events n f.file bad

  long_or_short : (input source other : List ℕ) (fuel more : ℕ) (events others : List EventLine) → IsFewIn input source fuel events → IsFewIn input other more others → source_limit < length source → length other ≤ source_limit → ⊥
  long_or_short input source other fuel more events others f g long short =
      let same = laws.files.file (text_lines input) source other fuel more events others f.file g.file in
      not_long source_limit other (subst (λ (l : List ℕ). source_limit < length l) same.0 long) short

  -- the source, the fuel and the events of a file are what is judged
  moved : (input source other : List ℕ) (fuel more : ℕ) (events others : List EventLine) (s : Status) (text : List ℕ) → IsFewIn input source fuel events → IsFewIn input other more others
      → JudgesSource source fuel events s text → JudgesSource other more others s text
  moved input source other fuel more events others s text f g is =
      let same = laws.files.file (text_lines input) source other fuel more events others f.file g.file in
      subst (λ (l : List EventLine). JudgesSource other more l s text) same.2
      (subst (λ (n : ℕ). JudgesSource other n events s text) same.1 (subst (λ (l : List ℕ). JudgesSource l fuel events s text) same.0 is))

  pub one_file_reply : (input : List ℕ) (s z : Status) (text other : List ℕ) → FileReplies input s text → FileReplies input z other → Same s z text other
  one_file_reply input s z text other (long_file long) (no_file n short bad) = absurd (not_long file_limit input long short)
  one_file_reply input s z text other (long_file long) (many_events short many) = absurd (not_long file_limit input long short)
  one_file_reply input s z text other (long_file long) (long_source source fuel events f big) = absurd (not_long file_limit input long f.short)
  one_file_reply input s z text other (long_file long) (source_judged source fuel events f small y t is) = absurd (not_long file_limit input long f.short)
  one_file_reply input s z text other (no_file n short bad) (long_file long) = absurd (not_long file_limit input long short)
  one_file_reply input s z text other (no_file n short bad) (no_file k short' bad') = (refl, ap bad_line (laws.files.fault (text_lines input) n k bad bad'))
  one_file_reply input s z text other (no_file n short bad) (many_events short' many) = absurd (laws.files.faultless (text_lines input) many.source many.fuel many.events n many.file bad)
  one_file_reply input s z text other (no_file n short bad) (long_source source fuel events f big) = absurd (bad_or_few input source fuel events n bad f)
  one_file_reply input s z text other (no_file n short bad) (source_judged source fuel events f small y t is) = absurd (bad_or_few input source fuel events n bad f)
  one_file_reply input s z text other (many_events short many) (long_file long) = absurd (not_long file_limit input long short)
  one_file_reply input s z text other (many_events short many) (no_file n short' bad) = absurd (laws.files.faultless (text_lines input) many.source many.fuel many.events n many.file bad)
  one_file_reply input s z text other (many_events short many) (long_source source fuel events f big) = absurd (many_or_few input source fuel events many f)
  one_file_reply input s z text other (many_events short many) (source_judged source fuel events f small y t is) = absurd (many_or_few input source fuel events many f)
  one_file_reply input s z text other (long_source source fuel events f big) (long_file long) = absurd (not_long file_limit input long f.short)
  one_file_reply input s z text other (long_source source fuel events f big) (no_file n short bad) = absurd (bad_or_few input source fuel events n bad f)
  one_file_reply input s z text other (long_source source fuel events f big) (many_events short many) = absurd (many_or_few input source fuel events many f)
  one_file_reply input s z text other (long_source source fuel events f big) (source_judged source' fuel' events' f' small y t is) = absurd (long_or_short input source source' fuel fuel' events events' f f' big small)
  one_file_reply input s z text other (source_judged source fuel events f small y t is) (long_file long) = absurd (not_long file_limit input long f.short)
  one_file_reply input s z text other (source_judged source fuel events f small y t is) (no_file n short bad) = absurd (bad_or_few input source fuel events n bad f)
  one_file_reply input s z text other (source_judged source fuel events f small y t is) (many_events short many) = absurd (many_or_few input source fuel events many f)
  one_file_reply input s z text other (source_judged source fuel events f small y t is) (long_source source' fuel' events' f' big) = absurd (long_or_short input source' source fuel' fuel events' events f' f big small)
  one_file_reply input s z text other (source_judged source fuel events f small y t is) (source_judged source' fuel' events' f' small' x u also) =
      one_source source' fuel' events' y x t u (moved input source source' fuel fuel' events events' y t f f' is) also
  one_file_reply input s z text other _ _ = (refl, refl)

  -- ---- of a program whose modes are accepted
  judged_only : (m : Assignment) (fuel : ℕ) (events : List EventLine) (s : Status) (text : List ℕ) → MeetsRules m → Judges m fuel events s text → IsVerdict m fuel events s text
  judged_only m fuel events s text meets (not_judged t is) = absurd (is.breaks_rules meets)
  judged_only m fuel events s text meets (judged v also a) = record { verdict = v; audits = a; ends = refl; written = refl }

  source_only : (source : List ℕ) (m : Assignment) (fuel : ℕ) (events : List EventLine) (s : Status) (text : List ℕ) → IsFront source m → MeetsRules m → JudgesSource source fuel events s text → IsVerdict m fuel events s text
  source_only source m fuel events s text front meets (faulty_source fault is) = absurd (laws.sources.faultless source m front fault is)
  source_only source m fuel events s text front meets (of_program n y t also does) = judged_only m fuel events y t meets (subst (λ (k : Assignment). Judges k fuel events y t) (laws.sources.program source n m also front) does)

  pub file_only : (input source : List ℕ) (m : Assignment) (fuel : ℕ) (events : List EventLine) (s : Status) (text : List ℕ) → IsFewIn input source fuel events → length source ≤ source_limit → IsFront source m → MeetsRules m
      → FileReplies input s text → IsVerdict m fuel events s text
  file_only input source m fuel events s text f small front meets (long_file long) = absurd (not_long file_limit input long f.short)
  file_only input source m fuel events s text f small front meets (no_file n short bad) = absurd (bad_or_few input source fuel events n bad f)
  file_only input source m fuel events s text f small front meets (many_events short many) = absurd (many_or_few input source fuel events many f)
  file_only input source m fuel events s text f small front meets (long_source source' fuel' events' f' big) = absurd (long_or_short input source' source fuel' fuel events' events f' f big small)
  file_only input source m fuel events s text f small front meets (source_judged source' fuel' events' f' small' y t is) =
      source_only source m fuel events y t front meets (moved input source' source fuel' fuel events' events y t f' f is)
