-- What holds of what was read is kept from line to line, up to the end of the source or its first fault.
use Rattle.sharc_lex.proofs.{Imports.{◌≡◌, ℕ, zero, suc, ◌+◌, ◌-◌, ◌<◌, ◌≤◌, min, Bool, true, false, not, cond, ◌||◌, ◌⊎◌, List, [], ◌∷◌, ◌++◌, length, get_or, drop, Option, Some, None, Result, Ok, Err, sym, refl, ap, ◌∙◌, subst, inl, inr, arith, one-add, get_or-append_seam, le-leb, get_or_append_left, All-nil, All-append, All-weaker, prefix_len-le-length, bytes_eq-Decides, ok_or, All, prefix_len, list_any, bytes_eq, FaultAt, Token, Tokens, TokenFault, LexFault, LineFault, SourceLine, is_white_space, is_blank, Refuses, with_file, place_of, Read, tokens_of, token, at_offset, behind_tokens, marker_line, text_line, line_read, marked, with_tokens, fault_at, with_place, lines_read, lines_of, opening, tokens_read, reading, IsWithin, ◌>>=◌, name_in, AreTokensOf, IsFaultIn, TellsPlace, Covers, line_at, BeginsLine, StandsIn, is_marker_line, marker, token_at}, CoverLemmas.{Covered, IsOnLine, tokens_of-on_line, empty, renumbered, covers_count, line_length, end_inside, covered_line, end_of_lines, line_is_there}, PlaceLemmas.{stands_within, stands_behind_text, stands_behind_marker, stands_first}, ReadingLemmas.{lines_from, lines_from-first, len_of}, WithinLemmas.{chosen, bind_ok, ok_or-ok, ok_injective, with_file-length, with_place-ok, behind_tokens-ok, within_line}}

-- a file that is looked up is found, and those before it keep their places

found_there : (files : List (List ℕ)) (name : List ℕ) → list_any (bytes_eq name) files ≡ true → name_in files (place_of files name) ≡ name
found_there [] name e = cc
found_there (file ∷ files) name e = by_test (bytes_eq name file) refl e (found_there files name)
  where
    by_test : (t : Bool) → bytes_eq name file ≡ t → (t || list_any (bytes_eq name) files) ≡ true → (list_any (bytes_eq name) files ≡ true → name_in files (place_of files name) ≡ name) → get_or (file ∷ files) (cond (not t) (1 + place_of files name) 0) [] ≡ name
    by_test true same e rest = sym ((bytes_eq-Decides name file).0 same)
    by_test false other e rest = rw one-add (rest e)

all_others : (files : List (List ℕ)) (name : List ℕ) → list_any (bytes_eq name) files ≡ false → place_of files name ≡ length files
all_others [] name e = refl
all_others (file ∷ files) name e = by_test (bytes_eq name file) e (all_others files name)
  where
    by_test : (t : Bool) → (t || list_any (bytes_eq name) files) ≡ false → (list_any (bytes_eq name) files ≡ false → place_of files name ≡ length files) → cond (not t) (1 + place_of files name) 0 ≡ length (file ∷ files)
    by_test true e rest = cc
    by_test false e rest = let same = rest e in omega arith

found_by_test : (t : Bool) (files : List (List ℕ)) (name : List ℕ) → list_any (bytes_eq name) files ≡ t → get_or (cond t files (files ++ name ∷ [])) (place_of files name) [] ≡ name
found_by_test true files name e = found_there files name e
found_by_test false files name e = ap (λ i. get_or (files ++ name ∷ []) i []) (all_others files name e) ∙ get_or-append_seam files name [] []

name_found : (files : List (List ℕ)) (name : List ℕ) → name_in (with_file files name) (place_of files name) ≡ name
name_found files name = found_by_test (list_any (bytes_eq name) files) files name refl

kept_by_test : (t : Bool) (files : List (List ℕ)) (name : List ℕ) (i : ℕ) → i < length files → get_or (cond t files (files ++ name ∷ [])) i [] ≡ get_or files i []
kept_by_test true files name i inside = refl
kept_by_test false files name i inside = get_or_append_left files (name ∷ []) [] i inside

name_kept : (files : List (List ℕ)) (name : List ℕ) (i : ℕ) → i < length files → name_in (with_file files name) i ≡ name_in files i
name_kept files name i inside = kept_by_test (list_any (bytes_eq name) files) files name i inside

-- a fault of a line lies in it

bind_err : {A B E : Type 0} (r : Result A E) (f : A → Result B E) (e : E) → (r >>= f) ≡ Err e → (r ≡ Err e) ⊎ ((x : A) × (r ≡ Ok x) × (f x ≡ Err e))
bind_err (Ok x) f e h = inr (x, refl, h)
bind_err (Err g) f e h = inl (cc)

at_offset-err : {A : Type 0} (offset : ℕ) (r : Result A TokenFault) (found : LineFault) → at_offset offset r ≡ Err found → found.offset ≡ offset
at_offset-err offset (Ok x) found e = cc
at_offset-err offset (Err f) found e = let same : record { offset = offset; fault = f } ≡ found = cc in ap (λ (x : LineFault). x.offset) (sym same)

ok_or-err : {A : Type 0} (o : Option A) (f found : LineFault) → ok_or o f ≡ Err found → f ≡ found
ok_or-err None f found e = cc
ok_or-err (Some x) f found e = cc

behind_tokens-err : (before : List Token) (r : Result (List Token) LineFault) (found : LineFault) → behind_tokens before r ≡ Err found → r ≡ Err found
behind_tokens-err before (Ok tokens) found e = cc
behind_tokens-err before (Err f) found e = cc

with_place-err : (read : Read) (r : Result Read LineFault) (told : FaultAt TokenFault) → with_place read r ≡ Err told → (found : LineFault) × (r ≡ Err found) × (fault_at read.files read.next found ≡ told)
with_place-err read (Ok more) told e = cc
with_place-err read (Err found) told e = (found, refl, cc)

tokens_of-fault : (place : SourceLine) (taken offset : ℕ) (bytes : List ℕ) (found : LineFault) → tokens_of place taken offset bytes ≡ Err found → (offset ≤ found.offset) × (found.offset ≤ offset + length bytes)
tokens_of-fault place taken offset [] found e = cc
tokens_of-fault place (suc taken) offset (b ∷ bytes) found e = let rest = tokens_of-fault place taken (offset + 1) bytes found e in (omega arith, omega arith)
tokens_of-fault place zero offset (b ∷ bytes) found e = elim (chosen (is_white_space b) _ _ _ e) [
  | inl h ↦ let rest = tokens_of-fault place 0 (offset + 1) bytes found h.1 in (omega arith, omega arith)
  | inr h ↦ elim (bind_err (at_offset offset (token_at b bytes)) (λ found. tokens_of place (found.len - 1) (offset + 1) bytes >>= λ tokens. Ok (token place offset (b ∷ bytes) found ∷ tokens)) found h.1) [
    | inl here ↦ let same = at_offset-err offset (token_at b bytes) found here in (omega arith, omega arith)
    | inr one ↦ elim (bind_err (tokens_of place (one.0.len - 1) (offset + 1) bytes) (λ tokens. Ok (token place offset (b ∷ bytes) one.0 ∷ tokens)) found one.2) [
      | inl behind ↦ let rest = tokens_of-fault place (one.0.len - 1) (offset + 1) bytes found behind in (omega arith, omega arith)
      | inr two ↦ cc
    ]
  ]
]

line_fault : (read : Read) (at : ℕ) (line : List ℕ) (found : LineFault) → line_read read at line ≡ Err found → (at ≤ found.offset) × (found.offset ≤ at + length line)
line_fault read at line found e = elim (chosen (is_marker_line line) _ _ _ e) [
  | inl h ↦
      let start = prefix_len is_blank line in
      let bad : LineFault = record { offset = at + start; fault = TokenFault.Marker } in
      elim (bind_err (ok_or (marker (drop (start + 1) line)) bad) (λ found. Ok (marked read found)) found h.1) [
        | inl wrong ↦
            let same : at + start ≡ found.offset = ap (λ (x : LineFault). x.offset) (ok_or-err (marker (drop (start + 1) line)) bad found wrong) in
            let within = prefix_len-le-length is_blank line in
            (omega arith, omega arith)
        | inr made ↦ cc
      ]
  | inr h ↦ elim (bind_err (behind_tokens read.tokens (tokens_of read.next 0 at line)) (λ tokens. Ok (with_tokens read tokens)) found h.1) [
    | inl wrong ↦ tokens_of-fault read.next 0 at line found (behind_tokens-err read.tokens (tokens_of read.next 0 at line) found wrong)
    | inr made ↦ cc
  ]
]

-- what was read up to an offset, at which a line begins, is placed as its lines and line markers say
record Placed (source : List ℕ) (at : ℕ) (read : Read) : Type 0 where
  next : at ≤ length source → StandsIn source at (name_in read.files read.next.file) read.next.line
  here : length source < at → StandsIn source (length source) (name_in read.files read.here.file) read.here.line
  tokens : All (λ t. (t.file < length read.files) × StandsIn source t.from (name_in read.files t.file) t.line) read.tokens

module _ (source : List ℕ) (at : ℕ) (inside : at ≤ length source) (begins : BeginsLine source at) where
  abbrev line : List ℕ
  line = line_at source at

  abbrev end : ℕ
  end = at + length line

  -- a token of the line lies where the line does
  token_placed : (files : List (List ℕ)) (place : SourceLine) (t : Token) → place.file < length files → StandsIn source at (name_in files place.file) place.line → IsOnLine place at end t → (t.file < length files) × StandsIn source t.from (name_in files t.file) t.line
  token_placed files place t known stands on =
      let there = stands_within source at inside begins t.from (name_in files place.file) place.line on.from on.until stands in (
        omega (arith, on.file),
        subst (λ f. StandsIn source t.from (name_in files f) t.line) (sym on.file) (subst (λ l. StandsIn source t.from (name_in files place.file) l) (sym on.line) there),
      )

  placed_text : (read more : Read) → IsWithin at read → Placed source at read → is_marker_line line ≡ false → text_line read at line ≡ Ok more → Placed source (end + 1) more
  placed_text read more within placed text e =
      let found = bind_ok (behind_tokens read.tokens (tokens_of read.next 0 at line)) (λ tokens. Ok (with_tokens read tokens)) more e in
      let tokens = behind_tokens-ok read.tokens (tokens_of read.next 0 at line) found.0 found.1 in
      let same : with_tokens read found.0 ≡ more = ok_injective (with_tokens read found.0) more found.2 in
      let stands = placed.next inside in
      let name = name_in read.files read.next.file in
      let P : Token → Type 0 = λ t. (t.file < length read.files) × StandsIn source t.from (name_in read.files t.file) t.line in
      let new = All-weaker (IsOnLine read.next at end) P (λ t on. token_placed read.files read.next t within.next stands on) tokens.0 (tokens_of-on_line read.next 0 at end line tokens.0 refl tokens.1) in
      subst (Placed source (end + 1)) same (record {
        next = λ more. stands_behind_text source at inside begins name read.next.line (omega arith) text stands;
        here = λ past. let last = end_inside source at inside in stands_within source at inside begins (length source) name read.next.line inside (omega arith) stands;
        tokens = subst (All P) tokens.2 (All-append P read.tokens tokens.0 placed.tokens new);
      })

  placed_marker : (read more : Read) → IsWithin at read → Placed source at read → is_marker_line line ≡ true → marker_line read at line ≡ Ok more → Placed source (end + 1) more
  placed_marker read more within placed marks e =
      let start = prefix_len is_blank line in
      let found = bind_ok (ok_or (marker (drop (start + 1) line)) (record { offset = at + start; fault = TokenFault.Marker })) (λ found. Ok (marked read found)) more e in
      let place = ok_or-ok (marker (drop (start + 1) line)) _ found.0 found.1 in
      let gives = ap (λ t. cond t (marker (drop (start + 1) line)) None) marks ∙ place in
      let same : marked read found.0 ≡ more = ok_injective (marked read found.0) more found.2 in
      let file = found.0.1 in
      let files = with_file read.files file in
      let longer = with_file-length read.files file in
      let stands = placed.next inside in
      let old = name_in read.files read.next.file in
      let kept = name_kept read.files file read.next.file within.next in
      subst (Placed source (end + 1)) same (record {
        next = λ more. subst (λ f. StandsIn source (end + 1) f found.0.0) (sym (name_found read.files file)) (stands_behind_marker source at inside begins file found.0.0 (omega arith) gives);
        here = λ past.
            let last = end_inside source at inside in
            subst (λ f. StandsIn source (length source) f read.next.line) (sym kept) (stands_within source at inside begins (length source) old read.next.line inside (omega arith) stands);
        tokens = All-weaker
            (λ t. (t.file < length read.files) × StandsIn source t.from (name_in read.files t.file) t.line)
            (λ t. (t.file < length files) × StandsIn source t.from (name_in files t.file) t.line)
            (λ t p. (let lt = p.0 in omega (arith, longer.1), subst (λ f. StandsIn source t.from f t.line) (sym (name_kept read.files file t.file p.0)) p.1))
            read.tokens placed.tokens;
      })

  placed_line : (read more : Read) → IsWithin at read → Placed source at read → with_place read (line_read read at line) ≡ Ok more → Placed source (end + 1) more
  placed_line read more within placed e = elim (chosen (is_marker_line line) _ _ _ (with_place-ok read (line_read read at line) more e)) [
    | inl h ↦ placed_marker read more within placed h.0 h.1
    | inr h ↦ placed_text read more within placed h.0 h.1
  ]

  fault_placed : (read : Read) (told : FaultAt TokenFault) → Placed source at read → with_place read (line_read read at line) ≡ Err told → IsFaultIn source told
  fault_placed read told placed e =
      let found = with_place-err read (line_read read at line) told e in
      let lies = line_fault read at line found.0 found.1 in
      let last = end_inside source at inside in
      subst (IsFaultIn source) found.2 (record {
        within = let until = lies.1 in omega arith;
        stands = stands_within source at inside begins found.0.offset (name_in read.files read.next.file) read.next.line lies.0 lies.1 (placed.next inside);
      })

-- all that is kept
record Kept (source : List ℕ) (at : ℕ) (read : Read) : Type 0 where
  within : IsWithin at read
  covered : Covered source at read
  placed : Placed source at read

-- the first of the lines from an offset on
module _ (source l : List ℕ) (lines : List (List ℕ)) (at : ℕ) (all : l ∷ lines ≡ lines_from at source) where
  there : at ≤ length source
  there = line_is_there source at l lines all

  line_is : l ≡ line_at source at
  line_is = let first = lines_from-first at source there in cc

  rest_is : lines ≡ lines_from (at + length l + 1) source
  rest_is =
      let first = lines_from-first at source there in
      let rest : lines ≡ lines_from (at + (len_of (drop at source) + 1)) source = cc in
      let len = line_length source at there in
      let next : at + (len_of (drop at source) + 1) ≡ at + length l + 1 = omega (arith, ap length line_is) in
      rest ∙ ap (λ o. lines_from o source) next

  bound : at + length l + 1 ≤ length source + 1
  bound = let last = end_inside source at there in omega (arith, ap length line_is)

  kept_line : (read more : Read) → Kept source at read → with_place read (line_read read at l) ≡ Ok more → Kept source (at + length l + 1) more
  kept_line read more kept e =
      let here : with_place read (line_read read at (line_at source at)) ≡ Ok more = ap (λ k. with_place read (line_read read at k)) (sym line_is) ∙ e in
      let next : at + length (line_at source at) + 1 ≡ at + length l + 1 = omega (arith, ap length line_is) in
      record {
        within = within_line at read more l kept.within e;
        covered = subst (λ o. Covered source o more) next (covered_line source at there read more kept.within kept.covered here);
        placed = subst (λ o. Placed source o more) next (placed_line source at there (kept.covered.begins there) read more kept.within kept.placed here);
      }

  refused_line : (read : Read) (told : FaultAt TokenFault) → Kept source at read → with_place read (line_read read at l) ≡ Err told → IsFaultIn source told
  refused_line read told kept e =
      fault_placed source at there (kept.covered.begins there) read told kept.placed (ap (λ k. with_place read (line_read read at k)) (sym line_is) ∙ e)

kept_lines : (source : List ℕ) (lines : List (List ℕ)) (at : ℕ) (read more : Read) → lines ≡ lines_from at source → at ≤ length source + 1 → Kept source at read → lines_read read at lines ≡ Ok more → Kept source (length source + 1) more
kept_lines source [] at read more all bound kept e =
    let same : read ≡ more = ok_injective read more e in
    let end = end_of_lines source at bound (sym all) in
    subst (Kept source (length source + 1)) same (subst (λ o. Kept source o read) end kept)
kept_lines source (l ∷ lines) at read more all before kept e =
    let step = bind_ok (with_place read (line_read read at l)) (λ next. lines_read next (at + length l + 1) lines) more e in
    kept_lines source lines (at + length l + 1) step.0 more (rest_is source l lines at all) (bound source l lines at all) (kept_line source l lines at all read step.0 kept step.1) step.2

refused_lines : (source : List ℕ) (lines : List (List ℕ)) (at : ℕ) (read : Read) (told : FaultAt TokenFault) → lines ≡ lines_from at source → Kept source at read → lines_read read at lines ≡ Err told → IsFaultIn source told
refused_lines source [] at read told all kept e = cc
refused_lines source (l ∷ lines) at read told all kept e = elim (bind_err (with_place read (line_read read at l)) (λ next. lines_read next (at + length l + 1) lines) told e) [
  | inl here ↦ refused_line source l lines at all read told kept here
  | inr step ↦ refused_lines source lines (at + length l + 1) step.0 told (rest_is source l lines at all) (kept_line source l lines at all read step.0 kept step.1) step.2
]

kept_first : (source : List ℕ) → Kept source 0 opening
kept_first source = record {
  within = record { tokens = omega arith; files = omega arith; line = omega arith; here = omega arith; next = omega arith };
  covered = record { begins = λ _. inl refl; covers = empty source 0 (min 0 (length source)) (omega arith); files = All-nil (λ t. t.file < length opening.files) };
  placed = record { next = λ _. stands_first source _ refl; here = λ past. absurd (omega arith); tokens = All-nil (λ t. (t.file < length opening.files) × StandsIn source t.from (name_in opening.files t.file) t.line) };
}

all_lines : (source : List ℕ) → lines_of source ≡ lines_from 0 source
all_lines source = sym (ap (λ t. cond t (lines_of source) []) (le-leb 0 (length source) (omega arith)))

pub tokens_are : (source : List ℕ) (tokens : Tokens) → reading source ≡ Ok tokens → AreTokensOf source tokens
unfolding reading
tokens_are source tokens e =
    let read = bind_ok (lines_read opening 0 (lines_of source)) (λ read. Ok (tokens_read read)) tokens e in
    let same : tokens_read read.0 ≡ tokens = ok_injective (tokens_read read.0) tokens read.2 in
    let kept = kept_lines source (lines_of source) 0 opening read.0 (all_lines source) (omega arith) (kept_first source) read.1 in
    let covers : Covers source 0 (length source) read.0.tokens = renumbered source 0 (min (length source + 1) (length source)) 0 (length source) read.0.tokens refl (omega arith) kept.covered.covers in
    subst (AreTokensOf source) same (record {
      covers = covers;
      count = let count = covers_count source 0 (length source) read.0.tokens covers in omega arith;
      files = kept.covered.files;
      placed = All-weaker (λ t. (t.file < length read.0.files) × StandsIn source t.from (name_in read.0.files t.file) t.line) (λ t. StandsIn source t.from (name_in read.0.files t.file) t.line) (λ t p. p.1) read.0.tokens kept.placed.tokens;
      end_file = kept.within.here;
      end_token = refl;
      end_placed = kept.placed.here (omega arith);
    })

pub fault_is : (source : List ℕ) (told : FaultAt TokenFault) → reading source ≡ Err told → IsFaultIn source told
unfolding reading
fault_is source told e = elim (bind_err (lines_read opening 0 (lines_of source)) (λ read. Ok (tokens_read read)) told e) [
  | inl refused ↦ refused_lines source (lines_of source) 0 opening told (all_lines source) (kept_first source) refused
  | inr read ↦ cc
]

pub refused_place : (source : List ℕ) (refused : LexFault) → Refuses refused (reading source) → TellsPlace source refused
refused_place source (LexFault.At told) e = fault_is source told e
refused_place source LexFault.Memory e = tt
