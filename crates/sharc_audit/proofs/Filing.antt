-- Event files, read line by line.
use Rattle.sharc_audit.proofs.{Imports.{append-nil, take-append-add, take-append_seam, ◌≡◌, inl, inr, ℕ, suc, ◌+◌, ◌-◌, ◌<◌, ◌≤◌, Bool, cond, true, false, List, [], ◌∷◌, ◌++◌, length, length-append, take, drop, All, refl, ap, sym, subst, ◌∙◌, arith, append_assoc, or_parts, false≢true, All-push, All-head, All-tail, nat_eq, codes, list_any, slice_split, join_with_byte, onto_first, EventLine, FileFault, Text, IsCut, IsNumber, mark, without_empty_end, text_lines, AreEventLines, IsEventLine, IsEventFile, Continues, IsFirstBad, HasMany, IsFirstLine, IsNoHeader, IsHead, IsBadEvent, IsEventsFault, length_push}, Numerals.is_decimal}
use Rattle.sharc_audit.specs.Files.{IsFault}

-- ---- a line

split_free : (t : Text) → list_any (nat_eq 10) t ≡ false → slice_split (nat_eq 10) t ≡ t ∷ []
split_free [] h = refl
split_free (x ∷ t) h =
    let p = or_parts (nat_eq 10 x) (list_any (nat_eq 10) t) h in
    ap (λ b. cond b ([] ∷ slice_split (nat_eq 10) t) (onto_first x (slice_split (nat_eq 10) t))) p.0 ∙ ap (onto_first x) (split_free t p.1)

split_at : (t rest : Text) → list_any (nat_eq 10) t ≡ false → slice_split (nat_eq 10) (t ++ 10 ∷ rest) ≡ t ∷ slice_split (nat_eq 10) rest
split_at [] rest h = refl
split_at (x ∷ t) rest h =
    let p = or_parts (nat_eq 10 x) (list_any (nat_eq 10) t) h in
    ap (λ b. cond b ([] ∷ slice_split (nat_eq 10) (t ++ 10 ∷ rest)) (onto_first x (slice_split (nat_eq 10) (t ++ 10 ∷ rest)))) p.0 ∙ ap (onto_first x) (split_at t rest p.1)

some_onto : (x : ℕ) (l : List Text) → 0 < length (onto_first x l)
some_onto x [] = omega arith
some_onto x (t ∷ l) = omega arith

some_part : (t : Text) → 0 < length (slice_split (nat_eq 10) t)
some_part [] = omega arith
some_part (x ∷ t) = by_case (nat_eq 10 x)
  where
    by_case : (b : Bool) → 0 < length (cond b ([] ∷ slice_split (nat_eq 10) t) (onto_first x (slice_split (nat_eq 10) t)))
    by_case true = omega arith
    by_case false = some_onto x (slice_split (nat_eq 10) t)

past_first : (t : Text) (l : List Text) → 0 < length l → without_empty_end (t ∷ l) ≡ t ∷ without_empty_end l
past_first t [] h = absurd (omega (arith, h))
past_first [] (u ∷ l) h = refl
past_first (x ∷ t) (u ∷ l) h = refl

alone : (t : Text) → 0 < length t → without_empty_end (t ∷ []) ≡ t ∷ []
alone [] h = absurd (omega (arith, h))
alone (x ∷ t) h = refl

longer : (t rest : Text) → length rest < length (t ++ 10 ∷ rest)
longer [] rest = omega arith
longer (x ∷ t) rest = let h = longer t rest in omega (arith, h)

pub line_cut : (text line behind : Text) → IsCut 10 text line behind → IsFirstLine text line behind
line_cut text line behind cut = record {
  lines = ap text_lines cut.is ∙ ap without_empty_end (split_at line behind cut.free) ∙ past_first line (slice_split (nat_eq 10) behind) (some_part behind);
  ends = λ h. cut.is;
  shorter = subst (λ z. length behind < length z) (sym cut.is) (longer line behind);
}

pub line_whole : (text : Text) → 0 < length text → list_any (nat_eq 10) text ≡ false → IsFirstLine text text []
line_whole text some free = record {
  lines = ap without_empty_end (split_free text free) ∙ alone text some;
  ends = λ h. absurd (omega (arith, h));
  shorter = some;
}

-- ---- lists

abbrev pub behind_first : List Text → List Text
behind_first [] = []
behind_first (t ∷ texts) = texts

-- lines with the newlines at their ends
abbrev pub ended : List Text → Text
ended [] = []
ended (t ∷ texts) = t ++ 10 ∷ ended texts

ended_push : (passed : List Text) (t : Text) → ended (passed ++ t ∷ []) ≡ ended passed ++ (t ++ 10 ∷ [])
ended_push [] t = refl
ended_push (u ∷ passed) t = ap (λ z. u ++ 10 ∷ z) (ended_push passed t) ∙ sym (append_assoc u (10 ∷ ended passed) (t ++ 10 ∷ []))

ended_join : (t : Text) (texts : List Text) → ended (t ∷ texts) ≡ join_with_byte 10 (t ∷ texts) ++ 10 ∷ []
ended_join t [] = refl
ended_join t (u ∷ texts) = ap (λ z. t ++ 10 ∷ z) (ended_join u texts) ∙ sym (append_assoc t (10 ∷ join_with_byte 10 (u ∷ texts)) (10 ∷ []))

take_one_more : {X : Type 0} (a : List X) (x : X) (b : List X) → take (suc (length a)) (a ++ x ∷ b) ≡ a ++ x ∷ []
take_one_more a x b = let e : suc (length a) ≡ length a + 1 = omega arith in ap (λ n. take n (a ++ x ∷ b)) e ∙ take-append-add a (x ∷ b) 1

-- ---- the header

pub no_plain_mark : (h : Text) → IsNoHeader (mark ++ h) → ⊥
no_plain_mark h e = false≢true (sym e)

-- two texts cut at a header: neither header comes before the other, and the parts are the same
pub record OneHeader (a b : List Text) (h : Text) (c d : List Text) (t : Text) : Type 0 where
  pub before : a ≡ b
  pub header : mark ++ h ≡ mark ++ t
  pub behind : c ≡ d

pub one_header : (a b : List Text) (h : Text) (c d : List Text) (t : Text) → All IsNoHeader a → All IsNoHeader b → a ++ (mark ++ h) ∷ c ≡ b ++ (mark ++ t) ∷ d → OneHeader a b h c d t
one_header [] [] h c d t p q e = record { before = refl; header = cc; behind = cc }
one_header [] (y ∷ b) h c d t p q e = let z : mark ++ h ≡ y = cc in absurd (no_plain_mark h (subst IsNoHeader (sym z) (All-head IsNoHeader y b q)))
one_header (x ∷ a) [] h c d t p q e = let z : x ≡ mark ++ t = cc in absurd (no_plain_mark t (subst IsNoHeader z (All-head IsNoHeader x a p)))
one_header (x ∷ a) (y ∷ b) h c d t p q e =
    let first : x ≡ y = cc in
    let tails : a ++ (mark ++ h) ∷ c ≡ b ++ (mark ++ t) ∷ d = cc in
    let rest = one_header a b h c d t (All-tail IsNoHeader x a p) (All-tail IsNoHeader y b q) tails in
    record { before = ap (λ z. z ∷ a) first ∙ ap (λ z. y ∷ z) rest.before; header = rest.header; behind = rest.behind }

-- plain lines have no header
none_there : (a b : List Text) (t : Text) (d : List Text) → All IsNoHeader a → a ≡ b ++ (mark ++ t) ∷ d → ⊥
none_there [] [] t d p e = absurd (let z : [] ≡ (mark ++ t) ∷ d = e in cc)
none_there [] (y ∷ b) t d p e = absurd (let z : [] ≡ y ∷ (b ++ (mark ++ t) ∷ d) = e in cc)
none_there (x ∷ a) [] t d p e = let z : x ≡ mark ++ t = cc in no_plain_mark t (subst IsNoHeader z (All-head IsNoHeader x a p))
none_there (x ∷ a) (y ∷ b) t d p e = none_there a b t d (All-tail IsNoHeader x a p) (let z : a ≡ b ++ (mark ++ t) ∷ d = cc in z)

pub behind_mark : (h t : Text) → mark ++ h ≡ mark ++ t → h ≡ t
behind_mark h t e = ap (drop 9) e

-- ---- before the header

pub record Heading (bytes rest : Text) (n : ℕ) : Type 0 where
  pub passed : List Text
  pub parts : text_lines bytes ≡ passed ++ text_lines rest
  pub counted : n ≡ suc (length passed)
  pub text : 0 < length rest → bytes ≡ ended passed ++ rest
  pub plain : All IsNoHeader (behind_first passed)

plain_push : (passed : List Text) (line : Text) → All IsNoHeader (behind_first passed) → (0 < length passed → IsNoHeader line) → All IsNoHeader (behind_first (passed ++ line ∷ []))
plain_push [] line p q = λ k d h. absurd (omega (arith, h))
plain_push (t ∷ passed) line p q = All-push IsNoHeader passed line p (q (omega arith))

pub heading_next : (bytes rest : Text) (n : ℕ) (line behind : Text) → Heading bytes rest n → IsFirstLine rest line behind → (1 < n → IsNoHeader line) → Heading bytes behind (n + 1)
heading_next bytes rest n line behind h l other = record {
  passed = h.passed ++ line ∷ [];
  parts = h.parts ∙ ap (λ z. h.passed ++ z) l.lines ∙ sym (append_assoc h.passed (line ∷ []) (text_lines behind));
  counted = (let a = h.counted in let b = length_push h.passed line in omega (arith, a, b));
  text = λ some. h.text (let s = l.shorter in omega (arith, s)) ∙ ap (λ z. ended h.passed ++ z) (l.ends some) ∙ joined (ended h.passed) line behind ∙ ap (λ z. z ++ behind) (sym (ended_push h.passed line));
  plain = plain_push h.passed line h.plain (λ some. other (let a = h.counted in omega (arith, a, some)));
}
  where
    joined : (a b c : Text) → a ++ (b ++ 10 ∷ c) ≡ (a ++ (b ++ 10 ∷ [])) ++ c
    joined a b c = ap (λ z. a ++ z) (sym (append_assoc b (10 ∷ []) c)) ∙ sym (append_assoc a (b ++ 10 ∷ []) c)

one_is : IsNumber 1 65536 (codes "1") 1
one_is = record { is = is_decimal (49 ∷ []) refl (omega arith) (λ z. refl) (omega arith); above = omega arith; below = omega arith }

continues_source : (passed : List Text) → All IsNoHeader (behind_first passed) → Continues passed
continues_source [] p = record {
  rest = [] ∷ (mark ++ codes "1") ∷ [];
  source = [];
  fuel = 1;
  events = [];
  file = record { first = []; more = []; header = codes "1"; behind = []; parts = refl; plain = p; fuel_is = one_is; events_are = tt; source_is = refl };
}
continues_source (t ∷ passed) p = record {
  rest = (mark ++ codes "1") ∷ [];
  source = join_with_byte 10 (t ∷ passed);
  fuel = 1;
  events = [];
  file = record { first = t; more = passed; header = codes "1"; behind = []; parts = refl; plain = p; fuel_is = one_is; events_are = tt; source_is = refl };
}

no_lines : (rest : Text) → length rest ≡ 0 → text_lines rest ≡ []
no_lines [] h = refl
no_lines (x ∷ rest) h = absurd (omega (arith, h))

no_file : (passed : List Text) → All IsNoHeader (behind_first passed) → (source : Text) (fuel : ℕ) (events : List EventLine) → IsEventFile passed source fuel events → ⊥
no_file [] p source fuel events f = absurd (let z : [] ≡ f.first ∷ (f.more ++ (mark ++ f.header) ∷ f.behind) = f.parts in cc)
no_file (t ∷ passed) p source fuel events f = none_there passed f.more f.header f.behind p (ap behind_first f.parts)

pub heading_end : (bytes rest : Text) (n : ℕ) → Heading bytes rest n → length rest ≡ 0 → IsFirstBad (text_lines bytes) n
heading_end bytes rest n h e =
    let whole : text_lines bytes ≡ h.passed = h.parts ∙ ap (λ z. h.passed ++ z) (no_lines rest e) ∙ append-nil h.passed in
    subst (λ z. IsFirstBad z n) (sym whole) (record {
      place = length h.passed;
      counted = h.counted;
      before = subst Continues (sym (ap (take (length h.passed)) (sym (append-nil h.passed)) ∙ take-append_seam h.passed [])) (continues_source h.passed h.plain);
      fails = inr (refl, no_file h.passed h.plain);
    })

-- a line that goes on with no file
bad_there : (texts passed : List Text) (line : Text) (more : List Text) (n : ℕ) → texts ≡ passed ++ line ∷ more → n ≡ suc (length passed) → Continues passed → (Continues (passed ++ line ∷ []) → ⊥) → IsFirstBad texts n
bad_there texts passed line more n e counted before bad =
    subst (λ z. IsFirstBad z n) (sym e) (record {
      place = length passed;
      counted = counted;
      before = subst Continues (sym (take-append_seam passed (line ∷ more))) before;
      fails = inl ((let k = length-append passed (line ∷ more) in omega (arith, k)), λ c. bad (subst Continues (take_one_more passed line more) c));
    })

bad_header : (passed : List Text) (line header : Text) → 0 < length passed → All IsNoHeader (behind_first passed) → line ≡ mark ++ header → ((k : ℕ) → IsNumber 1 65536 header k → ⊥) → Continues (passed ++ line ∷ []) → ⊥
bad_header [] line header some p e bad c = absurd (omega (arith, some))
bad_header (t ∷ passed) line header some p e bad c =
    let f = c.file in
    let tails : passed ++ (mark ++ header) ∷ c.rest ≡ f.more ++ (mark ++ f.header) ∷ f.behind = ap (λ z. passed ++ z ∷ c.rest) (sym e) ∙ sym (append_assoc passed (line ∷ []) c.rest) ∙ ap behind_first f.parts in
    let same : header ≡ f.header = behind_mark header f.header (one_header passed f.more header c.rest f.behind f.header p f.plain tails).header in
    bad c.fuel (subst (λ z. IsNumber 1 65536 z c.fuel) (sym same) f.fuel_is)

pub heading_bad : (bytes rest : Text) (n : ℕ) (line behind header : Text) → Heading bytes rest n → IsFirstLine rest line behind → 1 < n → line ≡ mark ++ header → ((k : ℕ) → IsNumber 1 65536 header k → ⊥) → IsFirstBad (text_lines bytes) n
heading_bad bytes rest n line behind header h l some e bad =
    bad_there (text_lines bytes) h.passed line (text_lines behind) n (h.parts ∙ ap (λ z. h.passed ++ z) l.lines) h.counted (continues_source h.passed h.plain)
    (bad_header h.passed line header (let a = h.counted in omega (arith, a, some)) h.plain e bad)

source_of : (a b c : Text) → c ≡ (a ++ 10 ∷ []) ++ b → take (length c - length b - 1) c ≡ a
source_of a b c e = ap (λ z. take (length z - length b - 1) z) e ∙ ap (λ z. take z ((a ++ 10 ∷ []) ++ b)) (sized a b) ∙ ap (take (length a)) (append_assoc a (10 ∷ []) b) ∙ take-append_seam a (10 ∷ b)
  where
    sized : (a b : Text) → length ((a ++ 10 ∷ []) ++ b) - length b - 1 ≡ length a
    sized a b = let k = length-append (a ++ 10 ∷ []) b in let m = length-append a (10 ∷ []) in omega (arith, k, m)

pub heading_found : (bytes rest : Text) (n : ℕ) (line behind header source : Text) (fuel : ℕ) → Heading bytes rest n → 0 < length rest → IsFirstLine rest line behind → 1 < n → line ≡ mark ++ header → IsNumber 1 65536 header fuel
    → source ≡ take (length bytes - length rest - 1) bytes → n + length rest ≤ length bytes + 1 → IsHead bytes source fuel behind (n + 1)
heading_found bytes rest n line behind header source fuel h there l some e number from room = by_case h.passed h.parts h.counted (h.text there) h.plain
  where
    by_case : (passed : List Text) → text_lines bytes ≡ passed ++ text_lines rest → n ≡ suc (length passed) → bytes ≡ ended passed ++ rest → All IsNoHeader (behind_first passed) → IsHead bytes source fuel behind (n + 1)
    by_case [] parts counted text plain = absurd (omega (arith, counted, some))
    by_case (t ∷ passed) parts counted text plain = record {
      first = t;
      more = passed;
      header = header;
      lines = parts ∙ ap (λ z. (t ∷ passed) ++ z) l.lines ∙ ap (λ z. (t ∷ passed) ++ z ∷ text_lines behind) e;
      plain = plain;
      fuel_is = number;
      source_is = from ∙ source_of (join_with_byte 10 (t ∷ passed)) rest bytes (text ∙ ap (λ z. z ++ rest) (ended_join t passed));
      counted = omega (arith, counted);
      room = (let s = l.shorter in omega (arith, s, room));
    }

-- ---- after the header

pub record Listing (texts : List Text) (rest : Text) (first n : ℕ) (events : List EventLine) : Type 0 where
  pub passed : List Text
  pub parts : texts ≡ passed ++ text_lines rest
  pub counted : n ≡ first + length passed
  pub are : AreEventLines passed events

are_append : (a b : List Text) (l m : List EventLine) → AreEventLines a l → AreEventLines b m → AreEventLines (a ++ b) (l ++ m)
are_append [] b [] m h k = k
are_append [] b (x ∷ l) m h k = absurd h
are_append (t ∷ a) b [] m h k = absurd h
are_append (t ∷ a) b (x ∷ l) m h k = (h.0, are_append a b l m h.1 k)

pub listing_next : (texts : List Text) (rest : Text) (first n : ℕ) (events : List EventLine) (line behind : Text) (l : EventLine) → Listing texts rest first n events → IsFirstLine rest line behind → IsEventLine line l → Listing texts behind first (n + 1) (events ++ l ∷ [])
listing_next texts rest first n events line behind l h f is = record {
  passed = h.passed ++ line ∷ [];
  parts = h.parts ∙ ap (λ z. h.passed ++ z) f.lines ∙ sym (append_assoc h.passed (line ∷ []) (text_lines behind));
  counted = (let a = h.counted in let b = length_push h.passed line in omega (arith, a, b));
  are = are_append h.passed (line ∷ []) events (l ∷ []) h.are (is, tt);
}

pub listing_bad : (texts : List Text) (rest : Text) (first n : ℕ) (events : List EventLine) (line behind : Text) → Listing texts rest first n events → IsFirstLine rest line behind → ((l : EventLine) → IsEventLine line l → ⊥) → IsBadEvent texts first n
listing_bad texts rest first n events line behind h f bad = record {
  passed = h.passed;
  line = line;
  more = text_lines behind;
  events = events;
  parts = h.parts ∙ ap (λ z. h.passed ++ z) f.lines;
  counted = h.counted;
  are = h.are;
  bad = bad;
}

-- ---- the file

pub file_of : (bytes source : Text) (fuel : ℕ) (behind : Text) (n : ℕ) (events : List EventLine) → IsHead bytes source fuel behind n → AreEventLines (text_lines behind) events → IsEventFile (text_lines bytes) source fuel events
file_of bytes source fuel behind n events h are = record { first = h.first; more = h.more; header = h.header; behind = text_lines behind; parts = h.lines; plain = h.plain; fuel_is = h.fuel_is; events_are = are; source_is = h.source_is }

pub many_of : (bytes source : Text) (fuel : ℕ) (behind : Text) (n : ℕ) (events : List EventLine) → IsHead bytes source fuel behind n → AreEventLines (text_lines behind) events → 4096 < length events → HasMany (text_lines bytes)
many_of bytes source fuel behind n events h are many = record { source = source; fuel = fuel; events = events; file = file_of bytes source fuel behind n events h are; many = many }

-- an event of this line is there
event_there : (passed : List Text) (line : Text) (more : List Text) (events : List EventLine) → ((l : EventLine) → IsEventLine line l → ⊥) → AreEventLines (passed ++ line ∷ more) events → ⊥
event_there [] line more (l ∷ events) bad a = bad l a.0
event_there (t ∷ passed) line more (l ∷ events) bad a = event_there passed line more events bad a.1
event_there [] line more [] bad a = a
event_there (t ∷ passed) line more [] bad a = a

pub file_bad : (bytes source : Text) (fuel : ℕ) (behind : Text) (first n : ℕ) → IsHead bytes source fuel behind first → IsBadEvent (text_lines behind) first n → IsFirstBad (text_lines bytes) n
file_bad bytes source fuel behind first n h b =
    let passed : List Text = (h.first ∷ h.more) ++ (mark ++ h.header) ∷ b.passed in
    let apart : (h.first ∷ h.more) ++ (mark ++ h.header) ∷ (b.passed ++ b.line ∷ b.more) ≡ passed ++ b.line ∷ b.more = sym (append_assoc (h.first ∷ h.more) ((mark ++ h.header) ∷ b.passed) (b.line ∷ b.more)) in
    bad_there (text_lines bytes) passed b.line b.more n
    (h.lines ∙ ap (λ z. (h.first ∷ h.more) ++ (mark ++ h.header) ∷ z) b.parts ∙ apart)
    (let k = length-append h.more ((mark ++ h.header) ∷ b.passed) in let c = b.counted in let d = h.counted in omega (arith, k, c, d))
    (record { rest = []; source = source; fuel = fuel; events = b.events; file = subst (λ z. IsEventFile z source fuel b.events) (sym (append-nil passed)) (record { first = h.first; more = h.more; header = h.header; behind = b.passed; parts = refl; plain = h.plain; fuel_is = h.fuel_is; events_are = b.are; source_is = h.source_is }) })
    (λ c.
    let f = c.file in
    let whole : (passed ++ b.line ∷ []) ++ c.rest ≡ h.first ∷ (h.more ++ (mark ++ h.header) ∷ (b.passed ++ b.line ∷ c.rest)) = append_assoc passed (b.line ∷ []) c.rest ∙ append_assoc (h.first ∷ h.more) ((mark ++ h.header) ∷ b.passed) (b.line ∷ c.rest) in
    let tails : h.more ++ (mark ++ h.header) ∷ (b.passed ++ b.line ∷ c.rest) ≡ f.more ++ (mark ++ f.header) ∷ f.behind = ap behind_first (sym whole ∙ f.parts) in
    let same : b.passed ++ b.line ∷ c.rest ≡ f.behind = (one_header h.more f.more h.header (b.passed ++ b.line ∷ c.rest) f.behind f.header h.plain f.plain tails).behind in
    event_there b.passed b.line c.rest c.events b.bad (subst (λ z. AreEventLines z c.events) (sym same) f.events_are))

pub fault_of : (bytes source : Text) (fuel : ℕ) (behind : Text) (first : ℕ) (f : FileFault) → IsHead bytes source fuel behind first → IsEventsFault 4097 (text_lines behind) first f → IsFault (text_lines bytes) f
fault_of bytes source fuel behind first (FileFault.Line n) h b = file_bad bytes source fuel behind first n h b
fault_of bytes source fuel behind first FileFault.Many h b = many_of bytes source fuel behind first b.events h b.are (let m = b.many in omega (arith, m))
fault_of bytes source fuel behind first FileFault.Memory h b = b

-- ---- events after those that are audited

-- a fault of the rest is one of the whole, which has more events
pub further_fault : (least : ℕ) (texts : List Text) (rest : Text) (first n : ℕ) (events : List EventLine) (f : FileFault) → Listing texts rest first n events → least ≤ length events → IsEventsFault 0 (text_lines rest) n f
    → IsEventsFault least texts first f
further_fault least texts rest first n events (FileFault.Line m) h many b = record {
  passed = h.passed ++ b.passed;
  line = b.line;
  more = b.more;
  events = events ++ b.events;
  parts = h.parts ∙ ap (λ z. h.passed ++ z) b.parts ∙ sym (append_assoc h.passed b.passed (b.line ∷ b.more));
  counted = (let c = b.counted in let d = h.counted in let k = length-append h.passed b.passed in omega (arith, c, d, k));
  are = are_append h.passed b.passed events b.events h.are b.are;
  bad = b.bad;
}
further_fault least texts rest first n events FileFault.Many h many b = record {
  events = events ++ b.events;
  are = subst (λ z. AreEventLines z (events ++ b.events)) (sym h.parts) (are_append h.passed (text_lines rest) events b.events h.are b.are);
  many = (let k = length-append events b.events in omega (arith, many, k));
}
further_fault least texts rest first n events FileFault.Memory h many b = b

-- lines that are events, whichever these are
pub record Passed (texts : List Text) (rest : Text) (first n : ℕ) : Type 0 where
  pub events : List EventLine
  pub listing : Listing texts rest first n events

pub passed_next : (texts : List Text) (rest : Text) (first n : ℕ) (line behind : Text) (l : EventLine) → Passed texts rest first n → IsFirstLine rest line behind → IsEventLine line l → Passed texts behind first (n + 1)
passed_next texts rest first n line behind l h f is = record { events = h.events ++ l ∷ []; listing = listing_next texts rest first n h.events line behind l h.listing f is }

pub passed_bad : (texts : List Text) (rest : Text) (first n : ℕ) (line behind : Text) → Passed texts rest first n → IsFirstLine rest line behind → ((l : EventLine) → IsEventLine line l → ⊥) → IsBadEvent texts first n
passed_bad texts rest first n line behind h f bad = listing_bad texts rest first n h.events line behind h.listing f bad
