-- A program has no fault, and there is one fault at most.
use Rattle.sharc_parse.proofs.Imports.{◌≡◌, ℕ, zero, suc, ◌≤◌, ◌<◌, List, [], ◌∷◌, ◌++◌, length, take, drop, refl, sym, ap, ◌∙◌, arith, subst, inl, inr, append_assoc, append-nil, take-append-drop, ◌⊎◌, Program, FaultAt, Tokens, Word, Part, IsProgram, program_words, EndsAt, LowProgram, BeginsWithin, Exceeds, Reads, words_of, IsFault, wrong_code, GrammarFault, Deep, IsFaultOf, IsToldAt, told_of}

-- why the words up to a place are refused with the code
abbrev Ends : GrammarFault → List Word → List Word → Type 0
Ends code before after = ((code ≡ wrong_code after) × EndsAt before after) ⊎ ((code ≡ Deep) × Exceeds before after)

-- words that a program within the limits goes on with are not refused
goes_on : (before after : List Word) (p : List Part) → IsProgram p → program_words p [] ≡ before ++ after → EndsAt before after → ⊥
goes_on before [] p i e ends = ends p i (e ∙ append-nil before)
goes_on before (t ∷ rest) p i e ends = ends (p, i, rest, e ∙ sym (append_assoc before (t ∷ []) rest))

goes_on_within : (before after : List Word) (p : List Part) → IsProgram p → LowProgram p → program_words p [] ≡ before ++ after → Exceeds before after → ⊥
goes_on_within before [] p i l e x = x
goes_on_within before (t ∷ rest) p i l e x = x.1 (p, i, l, rest, e ∙ sym (append_assoc before (t ∷ []) rest))

not_refused : (code : GrammarFault) (before after : List Word) (p : List Part) → IsProgram p → LowProgram p → program_words p [] ≡ before ++ after → Ends code before after → ⊥
not_refused code before after p i l e (inl x) = goes_on before after p i e x.1
not_refused code before after p i l e (inr x) = goes_on_within before after p i l e x.1

pub no_fault : (tokens : Tokens) (p : Program) (fault : FaultAt GrammarFault) → Reads tokens p → IsFaultOf tokens fault → ⊥
no_fault tokens p fault r f =
    let all = words_of tokens.list in
    not_refused fault.code (take f.number all) (drop f.number all) r.phrases r.is_program r.within (r.spelled ∙ sym (take-append-drop f.number all)) f.is.ends

-- the words up to a place after n have the word at n
record Split (n m : ℕ) (all : List Word) : Type 0 where
  pub rest : List Word
  pub before : take m all ≡ take n all ++ rest
  pub more : List Word
  pub behind : drop n all ≡ rest ++ more
  pub some : 0 < length rest

split : (n m : ℕ) (all : List Word) → n < m → m ≤ length all → Split n m all
split n zero all h l = absurd (omega (arith, h))
split n (suc m) [] h l = absurd (omega (arith, l))
split zero (suc m) (t ∷ all) h l = record { rest = t ∷ take m all; before = refl; more = drop m all; behind = ap (λ z. t ∷ z) (sym (take-append-drop m all)); some = omega arith }
split (suc n) (suc m) (x ∷ all) h l =
    let s = split n m all (omega (arith, h)) (omega (arith, l)) in
    record { rest = s.rest; before = ap (λ z. x ∷ z) s.before; more = s.more; behind = s.behind; some = s.some }

-- a program within the limits begins with the word that is refused
begun : (before rest more : List Word) (code : GrammarFault) → 0 < length rest → BeginsWithin (before ++ rest) → Ends code before (rest ++ more) → ⊥
begun before [] more code s b f = absurd (omega (arith, s))
begun before (t ∷ rest) more code s b (inl f) = f.1 (b.0, b.1, rest ++ b.3, b.4 ∙ append_assoc before (t ∷ rest) b.3 ∙ sym (append_assoc before (t ∷ []) (rest ++ b.3)))
begun before (t ∷ rest) more code s b (inr f) = f.1.1 (b.0, b.1, b.2, rest ++ b.3, b.4 ∙ append_assoc before (t ∷ rest) b.3 ∙ sym (append_assoc before (t ∷ []) (rest ++ b.3)))

no_later : (all : List Word) (a b : GrammarFault) (n m : ℕ) → IsFault all a n → IsFault all b m → n < m → ⊥
no_later all a b n m f g h =
    let s = split n m all h g.there in
    begun (take n all) s.rest s.more a s.some (subst BeginsWithin s.before g.begins) (subst (Ends a (take n all)) s.behind f.ends)

same_place : (all : List Word) (a b : GrammarFault) (n m : ℕ) → IsFault all a n → IsFault all b m → n ≡ m
same_place all a b n m f g = omega (arith, no_later all a b n m f g, no_later all b a m n g f)

-- the two reasons exclude each other
one_reason : (before after : List Word) → EndsAt before after → Exceeds before after → ⊥
one_reason before [] e x = x
one_reason before (t ∷ rest) e x = e x.0

same_code : (a b : GrammarFault) (before after : List Word) → Ends a before after → Ends b before after → a ≡ b
same_code a b before after (inl x) (inl y) = x.0 ∙ sym y.0
same_code a b before after (inr x) (inr y) = x.0 ∙ sym y.0
same_code a b before after (inl x) (inr y) = absurd (one_reason before after x.1 y.1)
same_code a b before after (inr x) (inl y) = absurd (one_reason before after y.1 x.1)

abbrev made : GrammarFault → List ℕ → ℕ → ℕ → List ℕ → FaultAt GrammarFault
made code file line offset text = record { code = code; file = file; line = line; offset = offset; text = text }

same_told : (tokens : Tokens) (a b : FaultAt GrammarFault) (n m : ℕ) → n ≡ m → a.code ≡ b.code → IsToldAt tokens a n → IsToldAt tokens b m → a ≡ b
same_told tokens a b n m e c x y =
    let y' = subst (IsToldAt tokens b) (sym e) y in
    let file : a.file ≡ b.file = x.file ∙ sym y'.file in
    let line : a.line ≡ b.line = x.line ∙ sym y'.line in
    let offset : a.offset ≡ b.offset = x.offset ∙ sym y'.offset in
    let text : a.text ≡ b.text = x.text ∙ ap (λ z. told_of z (drop n tokens.list)) c ∙ sym y'.text in
    let is : made a.code a.file a.line a.offset a.text ≡ made b.code b.file b.line b.offset b.text = cc (c, file, line, offset, text) in is

pub same_fault : (tokens : Tokens) (a b : FaultAt GrammarFault) → IsFaultOf tokens a → IsFaultOf tokens b → a ≡ b
same_fault tokens a b f g =
    let all = words_of tokens.list in
    let place = same_place all a.code b.code f.number g.number f.is g.is in
    same_told tokens a b f.number g.number place
    (same_code a.code b.code (take f.number all) (drop f.number all) f.is.ends (subst (λ m. Ends b.code (take m all) (drop m all)) (sym place) g.is.ends))
    f.told g.told
