-- The machine reads each statement and each program that fits.
use Rattle.sharc_parse.proofs.{Imports.{◌≡◌, ℕ, ◌≤◌, List, [], ◌∷◌, ◌++◌, Option, Some, None, refl, sym, ap, ◌∙◌, arith, subst, Bool, true, false, cond, append_assoc, append-nil, Keyword, OpenParenthesis, CloseParenthesis, OpenBrace, CloseBrace, Semicolon, Star, Jump, Constant, Word, name, keyword, mark, Typing, Declaring, declaring_words, FitsType, Phrase, enclosed, call, constant_word, words, level, Fits, Value, value, malloc, Doing, assign, invoke, Line, nothing, does, declares, Sentence, line, jump, return, block, under, Sentences, no_more, sentence, Opening, if_of, else_of, while_of, for_of, option_words, count_words, value_words, doing_words, initial_words, line_words, step_words, jump_word, written, written_all, opening_words, is_call, is_declaring, is_declaration, takes_else, FitsOption, FitsCount, FitsValue, FitsDoing, FitsInitial, FitsLine, FitsStep, FitsAs, FitAllAs, FitsOpening, Form, initially, Part, structure, global, function, form_words, fields_words, further_words, parameters_words, part_words, program_words, FitAllDeclaring, FitsForm, FitsFields, FitsPart, IsProgram, Outer, body, items, inside, LinePlace, as_statement, as_first, DoingPlace, in_line, as_step, ValuePlace, of_doing, of_local, by_if, by_while, condition, returning, testing, subject, valued, counting, part, on_top, field_of, parameter_of, local, naming, sizing, Core, Want, Have, Start, Done, Returning, ForOpen, ForTest, ForStep, Malloced, Valued, TypeWant, Named, Fields, InitialWant, Top, State, At, to, grip, want, lined, loop, doing_end, local_line, begin_type, declaring_of, with_part, with_declaring, fields, with_item, holds_items, may_declare, is_else, done, core_step, Read, Stuck, then_on, reads, reads_at}, Complete.{IsFirst, IsTypeFirst, first, doing_first, list_first, same_step, returned_at, test_at, step_at, malloced_at, line_start_at, start_at, start_declares_at, declares_at, fields_at, never, reads_declaring, size_read, reads_phrase}}

pub data Ender : Type 0 where
  by_semicolon : Ender
  by_close : Ender

abbrev pub end_word : Ender → Word
end_word by_semicolon = mark Semicolon
end_word by_close = mark CloseParenthesis

-- the word after a value, an assignment or a call
abbrev pub place_end : DoingPlace → Word
place_end (in_line p) = mark Semicolon
place_end (as_step l test) = mark CloseParenthesis

abbrev pub doing_done : DoingPlace → Doing → Outer → State
doing_done (in_line p) x o = lined p (does x) o
doing_done (as_step l test) x o = At [] (Start (inside (loop l test (Some x)) o))

count_reads : (n : Option Phrase) → FitsCount n → (v : ValuePlace) (o : Outer) (y : List Word) → reads_at (keyword Keyword.Malloc ∷ (mark OpenParenthesis ∷ count_words n (keyword Keyword.Sizeof ∷ (mark OpenParenthesis ∷ y)))) (Want (part (valued v) o)) ≡ reads_at y (TypeWant (sizing v n o))
count_reads None w v o y = refl
count_reads (Some x) w v o y =
    let z = mark Star ∷ (keyword Keyword.Sizeof ∷ (mark OpenParenthesis ∷ y)) in
    let h = first x z in
    same_step IsFirst (words x z) h (Malloced v o) (Want (part (counting v) o)) (malloced_at h.first h.is_first v o)
    ∙ reads_phrase x w.1 (part (counting v) o) w.0 z (omega arith)

value_reads : (x : Phrase) → Fits x → (v : ValuePlace) (o : Outer) (e : Ender) (y : List Word) → reads_at (words x (end_word e ∷ y)) (Want (part (valued v) o)) ≡ reads_at (end_word e ∷ y) (Valued v (value x) o)
value_reads x w v o by_semicolon y = reads_phrase x w (part (valued v) o) (omega arith) _ (omega arith)
value_reads x w v o by_close y = reads_phrase x w (part (valued v) o) (omega arith) _ (omega arith)

pub reads_value : (r : Value) → FitsValue r → (v : ValuePlace) (o : Outer) (e : Ender) (y : List Word) → reads_at (value_words r (end_word e ∷ y)) (Want (part (valued v) o)) ≡ reads_at (end_word e ∷ y) (Valued v r o)
reads_value (value x) w v o e y = value_reads x w v o e y
reads_value (malloc n t) w v o e y =
    count_reads n w.0 v o _
    ∙ size_read v n o t.mode_first t.base t.levels w.1 w.2 (end_word e ∷ y)

call_level : (e : Phrase) → is_call e ≡ true → 11 ≤ level e
call_level (call f all) h = omega arith
call_level (enclosed f a) h = omega arith
call_level _ h = cc

invoked : (e : Phrase) (d : DoingPlace) (o : Outer) (y : List Word) → is_call e ≡ true → reads_at (place_end d ∷ y) (Have e (part (subject d) o)) ≡ reads y (doing_done d (invoke e) o)
invoked e (in_line p) o y h = ap (λ b. then_on (cond b (doing_end (in_line p) (invoke e) o (mark Semicolon)) None) (λ n. reads y n) (Stuck (mark Semicolon ∷ y))) h
invoked e (as_step l test) o y h = ap (λ b. then_on (cond b (doing_end (as_step l test) (invoke e) o (mark CloseParenthesis)) None) (λ n. reads y n) (Stuck (mark CloseParenthesis ∷ y))) h

invoke_grip : (d : DoingPlace) (y : List Word) → grip (place_end d ∷ y) ≡ 0
invoke_grip (in_line p) y = refl
invoke_grip (as_step l test) y = refl

pub reads_doing : (x : Doing) → FitsDoing x → (d : DoingPlace) (o : Outer) (y : List Word) → reads_at (doing_words x (place_end d ∷ y)) (Want (part (subject d) o)) ≡ reads y (doing_done d x o)
reads_doing (assign u r) w (in_line p) o y =
    reads_phrase u w.1 (part (subject (in_line p)) o) w.0 _ (omega arith)
    ∙ reads_value r w.2 (of_doing (in_line p) u) o by_semicolon y
reads_doing (assign u r) w (as_step l test) o y =
    reads_phrase u w.1 (part (subject (as_step l test)) o) w.0 _ (omega arith)
    ∙ reads_value r w.2 (of_doing (as_step l test) u) o by_close y
reads_doing (invoke e) w d o y =
    reads_phrase e w.1 (part (subject d) o) (call_level e w.0) _ (omega (arith, invoke_grip d y))
    ∙ invoked e d o y w.0

-- where a line begins
abbrev pub line_at : LinePlace → Outer → Core
line_at as_statement o = Start o
line_at as_first o = ForOpen o

subject_at : (p : LinePlace) (o : Outer) (t : Word) → IsFirst t → core_step (line_at p o) t ≡ want (part (subject (in_line p)) o) t
subject_at as_statement o t h = start_at t h o ∙ line_start_at t h as_statement o
subject_at as_first o t h = line_start_at t h as_first o

local_at : (p : LinePlace) (o : Outer) (t : Word) → IsTypeFirst t → may_declare p o ≡ true → core_step (line_at p o) t ≡ begin_type (naming (local p o)) t
local_at as_statement o t h e = start_declares_at t h o ∙ declares_at t h as_statement o e
local_at as_first o t h e = declares_at t h as_first o e

nothing_reads : (p : LinePlace) (o : Outer) (y : List Word) → reads_at (mark Semicolon ∷ y) (line_at p o) ≡ reads y (lined p nothing o)
nothing_reads as_statement o y = refl
nothing_reads as_first o y = refl

initial_reads : (i : Option Value) → FitsInitial i → (p : LinePlace) (o : Outer) (d : Declaring) (y : List Word) → reads_at (initial_words i (mark Semicolon ∷ y)) (Named (local p o) d.typing d.named) ≡ reads y (lined p (local_line d i) o)
initial_reads None w p o d y = refl
initial_reads (Some r) w p o d y = reads_value r w (of_local p d) o by_semicolon y

pub reads_line : (l : Line) → FitsLine l → (p : LinePlace) (o : Outer) → (is_declaring l ≡ true → may_declare p o ≡ true) → (y : List Word) → reads_at (line_words l y) (line_at p o) ≡ reads y (lined p l o)
reads_line nothing w p o m y = nothing_reads p o y
reads_line (does x) w p o m y =
    let h = doing_first x (mark Semicolon ∷ y) in
    same_step IsFirst (doing_words x (mark Semicolon ∷ y)) h (line_at p o) (Want (part (subject (in_line p)) o)) (subject_at p o h.first h.is_first)
    ∙ reads_doing x w (in_line p) o y
reads_line (declares l) w p o m y =
    let d = l.declaring in
    let z = initial_words l.initial (mark Semicolon ∷ y) in
    let h = list_first d.typing.mode_first d.typing.base d.typing.levels (name d.named ∷ z) w.0 in
    same_step IsTypeFirst (declaring_words d z) h (line_at p o) (TypeWant (naming (local p o))) (local_at p o h.first h.is_first (m refl))
    ∙ reads_declaring (local p o) d w.0 z
    ∙ initial_reads l.initial w.1 p o d y

test_reads : (e : Option Phrase) → FitsOption e → (l : Line) (o : Outer) (y : List Word) → reads_at (option_words e (mark Semicolon ∷ y)) (ForTest l o) ≡ reads_at y (ForStep l e o)
test_reads None w l o y = refl
test_reads (Some x) w l o y =
    let h = first x (mark Semicolon ∷ y) in
    same_step IsFirst (words x (mark Semicolon ∷ y)) h (ForTest l o) (Want (part (testing l) o)) (test_at h.first h.is_first l o)
    ∙ reads_phrase x w (part (testing l) o) (omega arith) _ (omega arith)

step_reads : (s : Option Doing) → FitsStep s → (l : Line) (e : Option Phrase) (o : Outer) (y : List Word) → reads_at (step_words s (mark CloseParenthesis ∷ y)) (ForStep l e o) ≡ reads_at y (Start (inside (loop l e s) o))
step_reads None w l e o y = refl
step_reads (Some x) w l e o y =
    let h = doing_first x (mark CloseParenthesis ∷ y) in
    same_step IsFirst (doing_words x (mark CloseParenthesis ∷ y)) h (ForStep l e o) (Want (part (subject (as_step l e)) o)) (step_at h.first h.is_first l e o)
    ∙ reads_doing x w (as_step l e) o y

return_reads : (e : Option Phrase) → FitsOption e → (o : Outer) (y : List Word) → reads_at (option_words e (mark Semicolon ∷ y)) (Returning o) ≡ reads_at y (Done (return e) o)
return_reads None w o y = refl
return_reads (Some x) w o y =
    let h = first x (mark Semicolon ∷ y) in
    same_step IsFirst (words x (mark Semicolon ∷ y)) h (Returning o) (Want (part returning o)) (returned_at h.first h.is_first o)
    ∙ reads_phrase x w (part returning o) (omega arith) _ (omega arith)

jump_reads : (j : Jump) (o : Outer) (y : List Word) → reads_at (jump_word j ∷ (mark Semicolon ∷ y)) (Start o) ≡ reads_at y (Done (jump j) o)
jump_reads Jump.Break o y = refl
jump_reads Jump.Continue o y = refl

-- no `else`
abbrev pub NoElse : List Word → Type 0
NoElse [] = Unit {0}
NoElse (t ∷ y) = is_else t ≡ false

else_first : (t : Word) → IsFirst t → is_else t ≡ false
else_first (keyword Keyword.Else) h = cc
else_first _ h = refl

else_type : (t : Word) → IsTypeFirst t → is_else t ≡ false
else_type (keyword Keyword.Else) h = cc
else_type _ h = refl

no_else_doing : (x : Doing) (y : List Word) → NoElse (doing_words x y)
no_else_doing x y = let h = doing_first x y in subst NoElse (sym h.is) (else_first h.first h.is_first)

no_else_line : (l : Line) → FitsLine l → (y : List Word) → NoElse (line_words l y)
no_else_line nothing w y = refl
no_else_line (does x) w y = no_else_doing x _
no_else_line (declares l) w y =
    let d = l.declaring in
    let h = list_first d.typing.mode_first d.typing.base d.typing.levels (name d.named ∷ initial_words l.initial (mark Semicolon ∷ y)) w.0 in
    subst NoElse (sym h.is) (else_type h.first h.is_first)

no_else : (s : Sentence) → FitsAs s → (y : List Word) → NoElse (written s y)
no_else (line l) w y = no_else_line l w y
no_else (jump Jump.Break) w y = refl
no_else (under (if_of e) s) w y = refl
no_else _ w y = refl

no_else_all : (all : Sentences) → FitAllAs all → (y : List Word) → NoElse (written_all all (mark CloseBrace ∷ y))
no_else_all no_more w y = refl
no_else_all (sentence s rest) w y = no_else s w.0 _

-- a statement in its place: a declaration is among the items of a block
abbrev pub MayStand : Outer → Bool → Type 0
MayStand o b = b ≡ true → holds_items o ≡ true

pub whole_under : (y : List Word) (w : Opening) (s : Sentence) (o : Outer) → (takes_else (under w s) ≡ true → NoElse y) → reads_at y (Done s (inside w o)) ≡ reads_at y (Done (under w s) o)
whole_under [] (if_of e) s o h = refl
whole_under (t ∷ y) (if_of e) s o h = ap (λ b. then_on (cond b (to (Start (inside (else_of e s) o))) (done (under (if_of e) s) o t)) (λ n. reads y n) (Stuck (t ∷ y))) (h refl)
whole_under _ _ s o h = refl

pub takes_inner : (w : Opening) (s : Sentence) → takes_else s ≡ true → takes_else (under w s) ≡ true
takes_inner (if_of e) s h = refl
takes_inner _ s h = h

-- what holds statements: a block, or the body of a function
pub data Holder : Type 0 where
  in_block : Outer → Holder
  in_body : List Part → Typing → List ℕ → List Declaring → Holder

abbrev pub hold : Holder → Sentences → Outer
hold (in_block o) all = items all o
hold (in_body before r f given) all = body before r f given all

pub next_item : (y : List Word) (s : Sentence) (h : Holder) (before : Sentences) → reads_at y (Done s (hold h before)) ≡ reads_at y (Start (hold h (with_item before s)))
next_item [] s (in_block o) before = refl
next_item [] s (in_body all r f given) before = refl
next_item (t ∷ y) s (in_block o) before = refl
next_item (t ∷ y) s (in_body all r f given) before = refl

holding : (h : Holder) (before : Sentences) → holds_items (hold h before) ≡ true
holding (in_block o) before = refl
holding (in_body all r f given) before = refl

abbrev pub items_joined : Sentences → Sentences → Sentences
items_joined no_more b = b
items_joined (sentence s rest) b = sentence s (items_joined rest b)

with_joined : (before : Sentences) (s : Sentence) (rest : Sentences) → items_joined (with_item before s) rest ≡ items_joined before (sentence s rest)
with_joined no_more s rest = refl
with_joined (sentence a before) s rest = ap (sentence a) (with_joined before s rest)

joined_none : (before : Sentences) → items_joined before no_more ≡ before
joined_none no_more = refl
joined_none (sentence a before) = ap (sentence a) (joined_none before)

mutual
  pub reads_sentence : (s : Sentence) → FitsAs s → (o : Outer) → MayStand o (is_declaration s) → (y : List Word) → (takes_else s ≡ true → NoElse y) → reads_at (written s y) (Start o) ≡ reads_at y (Done s o)
  reads_sentence (line l) w o m y h = reads_line l w as_statement o m y
  reads_sentence (jump j) w o m y h = jump_reads j o y
  reads_sentence (return e) w o m y h = return_reads e w o y
  reads_sentence (block all) w o m y h = reads_all all w (in_block o) no_more y
  reads_sentence (under v s) w o m y h =
      reads_opening v w.1 o _
      ∙ reads_sentence s w.2 (inside v o) (λ e. never (is_declaration s) w.0 e) y (λ t. h (takes_inner v s t))
      ∙ whole_under y v s o h

  pub reads_all : (all : Sentences) → FitAllAs all → (h : Holder) (before : Sentences) (y : List Word) → reads_at (written_all all (mark CloseBrace ∷ y)) (Start (hold h before)) ≡ reads_at (mark CloseBrace ∷ y) (Start (hold h (items_joined before all)))
  reads_all no_more w h before y = ap (λ z. reads_at (mark CloseBrace ∷ y) (Start (hold h z))) (sym (joined_none before))
  reads_all (sentence s rest) w h before y =
      reads_sentence s w.0 (hold h before) (λ _. holding h before) _ (λ _. no_else_all rest w.1 y)
      ∙ next_item (written_all rest (mark CloseBrace ∷ y)) s h before
      ∙ reads_all rest w.1 h (with_item before s) y
      ∙ ap (λ z. reads_at (mark CloseBrace ∷ y) (Start (hold h z))) (with_joined before s rest)

  pub reads_opening : (v : Opening) → FitsOpening v → (o : Outer) (y : List Word) → reads_at (opening_words v y) (Start o) ≡ reads_at y (Start (inside v o))
  reads_opening (if_of e) w o y = reads_phrase e w (part (condition by_if) o) (omega arith) _ (omega arith)
  reads_opening (else_of e s) w o y =
      reads_phrase e w.2 (part (condition by_if) o) (omega arith) _ (omega arith)
      ∙ reads_sentence s w.3 (inside (if_of e) o) (λ b. never (is_declaration s) w.0 b) _ (λ t. never (takes_else s) w.1 t)
  reads_opening (while_of e) w o y = reads_phrase e w (part (condition by_while) o) (omega arith) _ (omega arith)
  reads_opening (for_of l) w o y =
      reads_line l.first w.0 as_first o (λ _. refl) _
      ∙ test_reads l.test w.1 l.first o _
      ∙ step_reads l.step w.2 l.first l.test o y

-- Programs.

reads_fields : (rest : List Declaring) → FitAllDeclaring rest → (all : List Part) (n : List ℕ) (before : List Declaring) (y : List Word) → reads_at (fields_words rest (mark CloseBrace ∷ (mark Semicolon ∷ y))) (Fields all n before) ≡ reads_at y (Top (with_part all (structure n (before ++ rest))))
reads_fields [] w all n before y = ap (λ z. reads_at y (Top (with_part all (structure n z)))) (sym (append-nil before))
reads_fields (d ∷ rest) w all n before y =
    let z = mark Semicolon ∷ fields_words rest (mark CloseBrace ∷ (mark Semicolon ∷ y)) in
    let h = list_first d.typing.mode_first d.typing.base d.typing.levels (name d.named ∷ z) w.0 in
    same_step IsTypeFirst (declaring_words d z) h (Fields all n before) (TypeWant (naming (field_of all n before))) (fields_at h.first h.is_first all n before)
    ∙ reads_declaring (field_of all n before) d w.0 z
    ∙ reads_fields rest w.1 all n (with_declaring before d) y
    ∙ ap (λ z. reads_at y (Top (with_part all (structure n z)))) (append_assoc before (d ∷ []) rest)

struct_reads : (fields : List Declaring) → FitsFields fields → (all : List Part) (n : List ℕ) (y : List Word) → reads_at (fields_words fields (mark CloseBrace ∷ (mark Semicolon ∷ y))) (TypeWant (naming (field_of all n []))) ≡ reads_at y (Top (with_part all (structure n fields)))
struct_reads [] w all n y = absurd w
struct_reads (d ∷ rest) w all n y =
    reads_declaring (field_of all n []) d w.0 (mark Semicolon ∷ fields_words rest (mark CloseBrace ∷ (mark Semicolon ∷ y)))
    ∙ reads_fields rest w.1 all n (d ∷ []) y

initial_constant : (c : Constant) (all : List Part) (d : Declaring) (y : List Word) → reads_at (constant_word c ∷ (mark Semicolon ∷ y)) (InitialWant all d) ≡ reads_at y (Top (with_part all (global d (initially false c))))
initial_constant (Constant.Number n) all d y = refl
initial_constant _ all d y = refl

form_reads : (form : Form) → FitsForm form → (all : List Part) (d : Declaring) (y : List Word) → reads_at (form_words form (mark Semicolon ∷ y)) (Named (on_top all) d.typing d.named) ≡ reads_at y (Top (with_part all (global d form)))
form_reads (initially true Constant.Null) w all d y = absurd w
form_reads (initially false c) w all d y = initial_constant c all d y
form_reads _ w all d y = refl

further_reads : (rest : List Declaring) → FitAllDeclaring rest → (all : List Part) (r : Typing) (f : List ℕ) (before : List Declaring) (d : Declaring) (y : List Word) → reads_at (further_words rest (mark CloseParenthesis ∷ (mark OpenBrace ∷ y))) (Named (parameter_of all r f before) d.typing d.named) ≡ reads_at y (Start (body all r f (before ++ d ∷ rest) no_more))
further_reads [] w all r f before d y = refl
further_reads (e ∷ rest) w all r f before d y =
    reads_declaring (parameter_of all r f (with_declaring before d)) e w.0 (further_words rest (mark CloseParenthesis ∷ (mark OpenBrace ∷ y)))
    ∙ further_reads rest w.1 all r f (with_declaring before d) e y
    ∙ ap (λ z. reads_at y (Start (body all r f z no_more))) (append_assoc before (d ∷ []) (e ∷ rest))

parameters_read : (given : List Declaring) → FitAllDeclaring given → (all : List Part) (r : Typing) (f : List ℕ) (y : List Word) → reads_at (parameters_words given (mark CloseParenthesis ∷ (mark OpenBrace ∷ y))) (TypeWant (naming (parameter_of all r f []))) ≡ reads_at y (Start (body all r f given no_more))
parameters_read [] w all r f y = refl
parameters_read (d ∷ rest) w all r f y =
    reads_declaring (parameter_of all r f []) d w.0 (further_words rest (mark CloseParenthesis ∷ (mark OpenBrace ∷ y)))
    ∙ further_reads rest w.1 all r f [] d y

on_top_reads : (all : List Part) (d : Declaring) → FitsType d.typing → (y : List Word) → reads_at (declaring_words d y) (Top all) ≡ reads_at y (Named (on_top all) d.typing d.named)
on_top_reads all d w y =
    let h = list_first d.typing.mode_first d.typing.base d.typing.levels (name d.named ∷ y) w in
    same_step IsTypeFirst (declaring_words d y) h (Top all) (TypeWant (naming (on_top all))) refl
    ∙ reads_declaring (on_top all) d w y

pub reads_part : (p : Part) → FitsPart p → (all : List Part) (y : List Word) → reads_at (part_words p y) (Top all) ≡ reads_at y (Top (with_part all p))
reads_part (structure n fields) w all y = struct_reads fields w all n y
reads_part (global d form) w all y =
    on_top_reads all d w.0 (form_words form (mark Semicolon ∷ y))
    ∙ form_reads form w.1 all d y
reads_part (function f) w all y =
    on_top_reads all (declaring_of f.result f.named) w.0 _
    ∙ parameters_read f.parameters w.1 all f.result f.named _
    ∙ reads_all f.body w.2 (in_body all f.result f.named f.parameters) no_more y

pub reads_program : (p : List Part) → IsProgram p → (all : List Part) → reads_at (program_words p []) (Top all) ≡ Read (all ++ p)
reads_program [] w all = ap Read (sym (append-nil all))
reads_program (p ∷ rest) w all =
    reads_part p w.0 all (program_words rest [])
    ∙ reads_program rest w.1 (with_part all p)
    ∙ ap Read (append_assoc all (p ∷ []) rest)
