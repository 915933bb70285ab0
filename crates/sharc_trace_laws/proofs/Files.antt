-- The text that is written of a run is an event file, within the limits.
use Rattle.sharc_trace_laws.proofs.{Imports.{◌≡◌, ℕ, ◌*◌, ◌<◌, ◌≤◌, Bool, true, false, List, [], ◌∷◌, ◌++◌, length, length-append, All, refl, ap, sym, subst, ◌∙◌, arith, append_assoc, eqb-true, or_from, and_parts, decimal-digits_value, All-nil, All-cons, nat_eq, codes, decimal, list_any, AllByRecursion, join_with_byte, starts_with, Resolution, EventLine, Text, mark, text_lines, LinesAreCut, AreEventLines, IsEventFile, Event, IsLineOf, AreLinesOf, event_text, events_text, file_text, HoldsNoEvents}, Pieces.{IsPiece, own, join, byte_on, decimal_piece, deed_piece}, Grammar.event_line}

-- ---- a source in lines
abbrev HasNone : Text → Type 0
HasNone line = list_any (nat_eq 10) line ≡ false

record Cut (source : Text) : Type 0 where
  first : Text
  more : List Text
  joined : join_with_byte 10 (first ∷ more) ≡ source
  free : AllByRecursion HasNone (first ∷ more)

joined_first : (b : ℕ) (first : Text) (more : List Text) → join_with_byte 10 ((b ∷ first) ∷ more) ≡ b ∷ join_with_byte 10 (first ∷ more)
joined_first b first [] = refl
joined_first b first (t ∷ more) = refl

cut : (source : Text) → Cut source
cut [] = record { first = []; more = []; joined = refl; free = (refl, tt) }
cut (b ∷ source) = by (nat_eq 10 b) refl (cut source)
  where
    by : (t : Bool) → nat_eq 10 b ≡ t → Cut source → Cut (b ∷ source)
    by true e c = record {
      first = [];
      more = c.first ∷ c.more;
      joined = ap (λ x. x ∷ join_with_byte 10 (c.first ∷ c.more)) (eqb-true 10 b e) ∙ ap (λ z. b ∷ z) c.joined;
      free = (refl, c.free);
    }
    by false e c = record {
      first = b ∷ c.first;
      more = c.more;
      joined = joined_first b c.first c.more ∙ ap (λ z. b ∷ z) c.joined;
      free = (or_from (nat_eq 10 b) (list_any (nat_eq 10) c.first) e c.free.0, c.free.1);
    }

lines_of : LinesAreCut → (first : Text) (more : List Text) (rest : Text) → AllByRecursion HasNone (first ∷ more) → text_lines (join_with_byte 10 (first ∷ more) ++ 10 ∷ rest) ≡ (first ∷ more) ++ text_lines rest
lines_of law first [] rest free = law first rest free.0
lines_of law first (t ∷ more) rest free =
    ap text_lines (append_assoc first (10 ∷ join_with_byte 10 (t ∷ more)) (10 ∷ rest)) ∙ law first (join_with_byte 10 (t ∷ more) ++ 10 ∷ rest) free.0
    ∙ ap (λ z. first ∷ z) (lines_of law t more rest free.1)

-- a line that begins so is the word and a rest
begins : (word t : Text) → starts_with nat_eq t word ≡ true → (rest : Text) × (t ≡ word ++ rest)
begins [] t h = (t, refl)
begins (w ∷ word) [] h = absurd (cc)
begins (w ∷ word) (b ∷ t) h =
    let p = and_parts (nat_eq w b) (starts_with nat_eq t word) h in
    let rest = begins word t p.1 in
    (rest.0, ap (λ x. x ∷ t) (sym (eqb-true w b p.0)) ∙ ap (λ z. w ∷ z) rest.1)

joined_after : (word rest : Text) (more : List Text) → join_with_byte 10 ((word ++ rest) ∷ more) ≡ word ++ join_with_byte 10 (rest ∷ more)
joined_after word rest [] = refl
joined_after word rest (t ∷ more) = append_assoc word rest (10 ∷ join_with_byte 10 (t ∷ more))

no_begin : (first t : Text) (more : List Text) → HoldsNoEvents (join_with_byte 10 (first ∷ (t ∷ more))) → (b : Bool) → starts_with nat_eq t mark ≡ b → b ≡ false
no_begin first t more holds false e = refl
no_begin first t more holds true e =
    let rest = begins mark t e in
    absurd (holds first (join_with_byte 10 (rest.0 ∷ more)) (ap (λ z. first ++ 10 ∷ z) (ap (λ l. join_with_byte 10 (l ∷ more)) rest.1 ∙ joined_after mark rest.0 more)))

plain : (first : Text) (more : List Text) → HoldsNoEvents (join_with_byte 10 (first ∷ more)) → All (λ t. starts_with nat_eq t mark ≡ false) more
plain first [] holds = All-nil (λ t. starts_with nat_eq t mark ≡ false)
plain first (t ∷ more) holds =
    All-cons (λ z. starts_with nat_eq z mark ≡ false) t more (no_begin first t more holds (starts_with nat_eq t mark) refl)
    (plain t more (λ before after e. holds (first ++ 10 ∷ before) after (ap (λ z. first ++ 10 ∷ z) e ∙ sym (append_assoc first (10 ∷ before) (10 ∷ (mark ++ after))))))

-- ---- the events
event_piece : (r : Resolution) (l : EventLine) (e : Event) → IsLineOf r l e → IsPiece (event_text r e) 154
event_piece r l e is = join (decimal_piece e.thread (let s = is.small in omega (arith, s))) (byte_on 32 refl (deed_piece r e.deed is.act.writable))

lines_in : LinesAreCut → (r : Resolution) (lines : List EventLine) (events : List Event) → AreLinesOf r lines events → AreEventLines (text_lines (events_text r events)) lines
lines_in law r [] [] h = tt
lines_in law r [] (e ∷ events) h = absurd (h)
lines_in law r (l ∷ lines) [] h = absurd (h)
lines_in law r (l ∷ lines) (e ∷ events) h =
    subst (λ z. AreEventLines z (l ∷ lines)) (sym (law (event_text r e) (events_text r events) (event_piece r l e h.0).free)) (event_line r l e h.0, lines_in law r lines events h.1)

length_events : (r : Resolution) (lines : List EventLine) (events : List Event) → AreLinesOf r lines events → length (events_text r events) ≤ 155 * length lines
length_events r [] [] h = omega arith
length_events r [] (e ∷ events) h = absurd (h)
length_events r (l ∷ lines) [] h = absurd (h)
length_events r (l ∷ lines) (e ∷ events) h =
    let one = (event_piece r l e h.0).short in
    let rest = length_events r lines events h.1 in
    omega (arith, length-append (event_text r e) (10 ∷ events_text r events), one, rest)

-- ---- the file
no_zero : ◌≡◌ {A = ℕ} 54 48 → length (codes "65536") ≡ 1
no_zero e = absurd (omega (arith, e))

fuel_text : codes "65536" ≡ decimal 65536
fuel_text = sym (decimal-digits_value own (codes "65536") refl (omega arith) no_zero (omega arith))

abbrev header : Text
header = codes "%%events 65536"

pub file_is : LinesAreCut → (r : Resolution) (source : Text) (lines : List EventLine) (events : List Event) → HoldsNoEvents source → AreLinesOf r lines events → IsEventFile (text_lines (file_text r source events)) source 65536 lines
file_is law r source lines events holds are =
    let c = cut source in
    let behind : Text = header ++ 10 ∷ events_text r events in
    record {
      first = c.first;
      more = c.more;
      header = codes "65536";
      behind = text_lines (events_text r events);
      parts =
          ap (λ z. text_lines (z ++ 10 ∷ behind)) (sym c.joined) ∙ lines_of law c.first c.more behind c.free
          ∙ ap (λ z. (c.first ∷ c.more) ++ z) (law header (events_text r events) refl);
      plain = plain c.first c.more (subst HoldsNoEvents (sym c.joined) holds);
      fuel_is = record { is = fuel_text; above = omega arith; below = omega arith };
      events_are = lines_in law r lines events are;
      source_is = sym c.joined;
    }

pub file_short : (r : Resolution) (source : Text) (lines : List EventLine) (events : List Event) → length source ≤ 1048576 → length lines ≤ 4096 → AreLinesOf r lines events → length (file_text r source events) ≤ 16777216
file_short r source lines events small few are =
    let more = length_events r lines events are in
    omega (arith, length-append source (10 ∷ (header ++ 10 ∷ events_text r events)), length-append header (10 ∷ events_text r events), more, small, few)
