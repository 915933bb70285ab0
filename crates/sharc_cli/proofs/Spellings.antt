-- The fold over the words and the list of written arguments say the same.
use Rattle.sharc_cli.proofs.Imports.{◌≡◌, ◌∙◌, ap, sym, refl, subst, ℕ, suc, ◌+◌, Bool, true, false, not, cond, ◌||◌, ◌==◌, List, [], ◌∷◌, ◌++◌, map, take, drop, Option, Some, None, arith, one-add, codes, eqb-true, false≢true, and_parts, append-nil, append_assoc, bytes_eq-Decides, fold, find, option_map, option_and_then, list_any, list_all, position_or_len, before_first, after_first, bytes_eq, Word, Form, Entry, forms, number, has, has_hyphen, behind, is_equals, name_and_value, option_of, is_option, with_entry, with_option, next, ended, entries_of, command_of, values_of, command_behind, commands, Argument, alone, apart, joined, words_of, all_words, entry_of, Takes, TakesAll, Once, form_of, IsCommand, opposite, some_of}
use Rattle.sharc_cli.specs.declared.command.Command.{Command}

-- ---- where a text is cut at its first `=`

cut : (text : Word) → list_any is_equals text ≡ true → text ≡ before_first is_equals text ++ 61 ∷ after_first is_equals text
cut [] e = absurd (false≢true e)
cut (x ∷ xs) e = by_test (x == 61) refl e (cut xs)
  where
    by_test : (t : Bool) → (x == 61) ≡ t → (t || list_any is_equals xs) ≡ true → (list_any is_equals xs ≡ true → xs ≡ before_first is_equals xs ++ 61 ∷ after_first is_equals xs)
        → x ∷ xs ≡ take (cond (not t) (1 + position_or_len is_equals xs) 0) (x ∷ xs) ++ 61 ∷ drop (cond (not t) (1 + position_or_len is_equals xs) 0 + 1) (x ∷ xs)
    by_test true same e rest = ap (λ y. y ∷ xs) (eqb-true x 61 same)
    by_test false other e rest =
        let n = position_or_len is_equals xs in
        let front : take (1 + n) (x ∷ xs) ≡ x ∷ take n xs = rw one-add refl in
        let back : drop (1 + n + 1) (x ∷ xs) ≡ drop (n + 1) xs = let k : 1 + n + 1 ≡ suc (n + 1) = omega arith in ap (λ m. drop m (x ∷ xs)) k in
        ap (λ l. x ∷ l) (rest e) ∙ rw (front, back) refl

uncut : (text : Word) → list_any is_equals text ≡ false → before_first is_equals text ≡ text
uncut [] e = refl
uncut (x ∷ xs) e = by_test (x == 61) e (uncut xs)
  where
    by_test : (t : Bool) → (t || list_any is_equals xs) ≡ false → (list_any is_equals xs ≡ false → before_first is_equals xs ≡ xs) → take (cond (not t) (1 + position_or_len is_equals xs) 0) (x ∷ xs) ≡ x ∷ xs
    by_test true e rest = absurd (false≢true (sym e))
    by_test false e rest =
        let front : take (1 + position_or_len is_equals xs) (x ∷ xs) ≡ x ∷ take (position_or_len is_equals xs) xs = rw one-add refl in
        front ∙ ap (λ l. x ∷ l) (rest e)

-- the cut of a name without `=` and a value after it
cut_at : (name value : Word) → list_any is_equals name ≡ false → ◌≡◌ {A = Word × Option Word} (name_and_value (name ++ 61 ∷ value)) (name, Some value)
cut_at [] value e = refl
cut_at (x ∷ xs) value e = by_test (x == 61) e (cut_at xs value)
  where
    by_test : (t : Bool) → (t || list_any is_equals xs) ≡ false → (list_any is_equals xs ≡ false → ◌≡◌ {A = Word × Option Word} (name_and_value (xs ++ 61 ∷ value)) (xs, Some value))
        → ◌≡◌ {A = Word × Option Word} (take (cond (not t) (1 + position_or_len is_equals (xs ++ 61 ∷ value)) 0) (x ∷ (xs ++ 61 ∷ value)), cond (t || list_any is_equals (xs ++ 61 ∷ value)) (Some (drop (cond (not t) (1 + position_or_len is_equals (xs ++ 61 ∷ value)) 0 + 1) (x ∷ (xs ++ 61 ∷ value)))) None) (x ∷ xs, Some value)
    by_test true e rest = absurd (false≢true (sym e))
    by_test false e rest =
        let text = xs ++ 61 ∷ value in
        let n = position_or_len is_equals text in
        let front : take (1 + n) (x ∷ text) ≡ x ∷ take n text = rw one-add refl in
        let back : drop (1 + n + 1) (x ∷ text) ≡ drop (n + 1) text = let k : 1 + n + 1 ≡ suc (n + 1) = omega arith in ap (λ m. drop m (x ∷ text)) k in
        let same = rest e in
        rw (front, back) (ap (λ (p : Word × Option Word). (x ∷ p.0, p.1)) same)

-- ---- what an option's word says

second_hyphen : (y : ℕ) (text : Word) (o : Word × Option Word) (t : Bool) → (y == 45) ≡ t → option_map name_and_value (cond t (Some text) None) ≡ Some o → (y ≡ 45) × (name_and_value text ≡ o)
second_hyphen y text o true second e = (eqb-true y 45 second, cc)
second_hyphen y text o false second e = cc

first_hyphen : (x : ℕ) (xs : Word) (o : Word × Option Word) (t : Bool) → (x == 45) ≡ t → option_map name_and_value (option_and_then (behind 45) (cond t (Some xs) None)) ≡ Some o → (x ≡ 45) × (option_map name_and_value (behind 45 xs) ≡ Some o)
first_hyphen x xs o true first e = (eqb-true x 45 first, e)
first_hyphen x xs o false first e = cc

option_behind : (x : ℕ) (xs : Word) (o : Word × Option Word) → x ≡ 45 → option_map name_and_value (behind 45 xs) ≡ Some o → (text : Word) × (x ∷ xs ≡ 45 ∷ 45 ∷ text) × (name_and_value text ≡ o)
option_behind x [] o first e = cc
option_behind x (y ∷ text) o first e = let second = second_hyphen y text o (y == 45) refl e in (text, cc, second.1)

option_text : (w : Word) (o : Word × Option Word) → option_of w ≡ Some o → (text : Word) × (w ≡ 45 ∷ 45 ∷ text) × (name_and_value text ≡ o)
option_text [] o e = cc
option_text (x ∷ xs) o e = let first = first_hyphen x xs o (x == 45) refl e in option_behind x xs o first.0 first.1

named : (text name : Word) (value : Option Word) (t : Bool) → list_any is_equals text ≡ t → ◌≡◌ {A = Word × Option Word} (before_first is_equals text, cond t (Some (after_first is_equals text)) None) (name, value) → (before_first is_equals text ≡ name) × (cond t (Some (after_first is_equals text)) None ≡ value)
named text name value t any e = (ap (λ (p : Word × Option Word). p.0) e, ap (λ (p : Word × Option Word). p.1) e)

-- `--name=value`
joined_word : (w name value : Word) → option_of w ≡ Some (name, Some value) → w ≡ codes "--" ++ name ++ codes "=" ++ value
joined_word w name value e =
    let o = option_text w (name, Some value) e in
    let parts = named o.0 name (Some value) (list_any is_equals o.0) refl o.2 in
    by_test o.0 (list_any is_equals o.0) refl parts.0 parts.1 o.1
  where
    by_test : (text : Word) (t : Bool) → list_any is_equals text ≡ t → before_first is_equals text ≡ name → cond t (Some (after_first is_equals text)) None ≡ Some value → w ≡ 45 ∷ 45 ∷ text → w ≡ codes "--" ++ name ++ codes "=" ++ value
    by_test text true any front back word =
        let whole = cut text any in
        let behind_it : after_first is_equals text ≡ value = cc in
        let same : text ≡ name ++ 61 ∷ value = whole ∙ rw (front, behind_it) refl in
        word ∙ ap (λ l. 45 ∷ 45 ∷ l) same ∙ ap (λ l. 45 ∷ 45 ∷ l) (sym (append_assoc name (61 ∷ []) value))
    by_test text false any front back word = cc

abbrev none_word : Option Word
none_word = None

-- `--name`
apart_word : (w name : Word) → option_of w ≡ Some (name, None) → w ≡ codes "--" ++ name
apart_word w name e =
    let o = option_text w (name, None) e in
    let parts = named o.0 name None (list_any is_equals o.0) refl o.2 in
    by_test o.0 (list_any is_equals o.0) refl parts.0 parts.1 o.1
  where
    by_test : (text : Word) (t : Bool) → list_any is_equals text ≡ t → before_first is_equals text ≡ name → cond t (Some (after_first is_equals text)) None ≡ none_word → w ≡ 45 ∷ 45 ∷ text → w ≡ codes "--" ++ name
    by_test text true any front back word = cc
    by_test text false any front back word = word ∙ ap (λ l. 45 ∷ 45 ∷ l) (sym (uncut text any) ∙ front)

-- ---- from the fold to the arguments

fold_none : (f : Form) (words : List Word) → fold (next f) None words ≡ None
fold_none f [] = refl
fold_none f (w ∷ words) = fold_none f words

ended_none : (f : Form) (words : List Word) (out : List Entry) → ended (fold (next f) None words) ≡ Some out → ⊥
ended_none f words out e = let none = ap ended (fold_none f words) in cc

-- the arguments that the words are, after the entries before them
record IsSpelled (f : Form) (before : List Entry) (words : List Word) (out : List Entry) : Type 0 where
  arguments : List Argument
  spelled : words ≡ all_words arguments
  taken : TakesAll f arguments
  once : Once before arguments
  entries : out ≡ before ++ map entry_of arguments

-- the same where the value of an option comes first
record IsSpelledBehind (f : Form) (name : Word) (before : List Entry) (words : List Word) (out : List Entry) : Type 0 where
  value : Word
  others : List Word
  first : words ≡ value ∷ others
  plain : has_hyphen value ≡ false
  new : has name before ≡ false
  rest : IsSpelled f (before ++ (name, value) ∷ []) others out

spelled_first : (f : Form) (a : Argument) (before : List Entry) (words others : List Word) (out : List Entry) → Takes f a → has (entry_of a).0 before ≡ false → words ≡ words_of a ++ others → IsSpelled f (before ++ entry_of a ∷ []) others out → IsSpelled f before words out
spelled_first f a before words others out takes new first rest = record {
  arguments = a ∷ rest.arguments;
  spelled = first ∙ ap (λ l. words_of a ++ l) rest.spelled;
  taken = (takes, rest.taken);
  once = (new, rest.once);
  entries = rest.entries ∙ append_assoc before (entry_of a ∷ []) (map entry_of rest.arguments);
}

-- an entry that is added is new
entered : (f : Form) (name value : Word) (before : List Entry) (words : List Word) (out : List Entry) (t : Bool) → has name before ≡ t → ended (fold (next f) (cond t None (Some (record { entries = before ++ (name, value) ∷ []; waiting = None }))) words) ≡ Some out
    → (has name before ≡ false) × (ended (fold (next f) (Some (record { entries = before ++ (name, value) ∷ []; waiting = None })) words) ≡ Some out)
entered f name value before words out true there e = absurd (ended_none f words out e)
entered f name value before words out false there e = (there, e)

-- what is shown of words that a fold begins with, where no value is waited for and where one is
abbrev Reads : Form → List Word → Type 0
Reads f words = (before out : List Entry) → ended (fold (next f) (Some (record { entries = before; waiting = None })) words) ≡ Some out → IsSpelled f before words out

abbrev ReadsBehind : Form → List Word → Type 0
ReadsBehind f words = (name : Word) (before out : List Entry) → ended (fold (next f) (Some (record { entries = before; waiting = Some name })) words) ≡ Some out → IsSpelledBehind f name before words out

module _ (f : Form) (w : Word) (words : List Word) (rest : Reads f words) (later : ReadsBehind f words) (before out : List Entry) where
  by_number : (t : Bool) → f.has_number ≡ t → has_hyphen w ≡ false → ended (fold (next f) (cond t (with_entry number w before) None) words) ≡ Some out → IsSpelled f before (w ∷ words) out
  by_number true has_one plain e =
      let new = entered f number w before words out (has number before) refl e in
      spelled_first f (alone w) before (w ∷ words) words out (has_one, plain) new.0 refl (rest (before ++ (number, w) ∷ []) out new.1)
  by_number false has_one plain e = absurd (ended_none f words out e)

  by_joined : (name value : Word) (t : Bool) → is_option f name ≡ t → option_of w ≡ Some (name, Some value) → ended (fold (next f) (cond t (with_entry name value before) None) words) ≡ Some out → IsSpelled f before (w ∷ words) out
  by_joined name value true known written e =
      let new = entered f name value before words out (has name before) refl e in
      spelled_first f (joined name value) before (w ∷ words) words out known new.0 (ap (λ v. v ∷ words) (joined_word w name value written)) (rest (before ++ (name, value) ∷ []) out new.1)
  by_joined name value false known written e = absurd (ended_none f words out e)

  by_apart : (name : Word) (t : Bool) → is_option f name ≡ t → option_of w ≡ Some (name, None) → ended (fold (next f) (cond t (Some (record { entries = before; waiting = Some name })) None) words) ≡ Some out → IsSpelled f before (w ∷ words) out
  by_apart name true known written e =
      let behind_it = later name before out e in
      spelled_first f (apart name behind_it.value) before (w ∷ words) behind_it.others out (known, behind_it.plain) behind_it.new
      (ap (λ v. v ∷ words) (apart_word w name written) ∙ ap (λ l. (codes "--" ++ name) ∷ l) behind_it.first) behind_it.rest
  by_apart name false known written e = absurd (ended_none f words out e)

  by_option : (o : Option (Word × Option Word)) → option_of w ≡ o → ended (fold (next f) (with_option f o before) words) ≡ Some out → IsSpelled f before (w ∷ words) out
  by_option None written e = absurd (ended_none f words out e)
  by_option (Some (name, Some value)) written e = by_joined name value (is_option f name) refl written e
  by_option (Some (name, None)) written e = by_apart name (is_option f name) refl written e

  by_hyphen : (t : Bool) → has_hyphen w ≡ t → ended (fold (next f) (cond t (with_option f (option_of w) before) (cond f.has_number (with_entry number w before) None)) words) ≡ Some out → IsSpelled f before (w ∷ words) out
  by_hyphen true hyphen e = by_option (option_of w) refl e
  by_hyphen false hyphen e = by_number f.has_number refl hyphen e

  by_value : (name : Word) (t : Bool) → has_hyphen w ≡ t → ended (fold (next f) (cond t None (with_entry name w before)) words) ≡ Some out → IsSpelledBehind f name before (w ∷ words) out
  by_value name true hyphen e = absurd (ended_none f words out e)
  by_value name false hyphen e =
      let new = entered f name w before words out (has name before) refl e in
      record { value = w; others = words; first = refl; plain = hyphen; new = new.0; rest = rest (before ++ (name, w) ∷ []) out new.1 }

none_left : (f : Form) → Reads f []
none_left f before out e = record { arguments = []; spelled = refl; taken = tt; once = tt; entries = let same : before ≡ out = cc in sym same ∙ sym (append-nil before) }

none_behind : (f : Form) → ReadsBehind f []
none_behind f name before out e = cc

spelling : (f : Form) (words : List Word) → Reads f words × ReadsBehind f words
spelling f [] = (none_left f, none_behind f)
spelling f (w ∷ words) =
    let both = spelling f words in
    (λ before out e. by_hyphen f w words both.0 both.1 before out (has_hyphen w) refl e, λ name before out e. by_value f w words both.0 both.1 before out name (has_hyphen w) refl e)

pub written_commands : (words : List Word) (c : Command) → commands words ≡ Some c → IsCommand words c
written_commands [] c e = cc
written_commands (w ∷ words) c e =
    let form = some_of (form_of w) (command_behind words) c e in
    let entries = some_of (entries_of form.0 words) (λ entries. command_of form.0.name (values_of entries)) c form.2 in
    let s = (spelling form.0 words).0 [] entries.0 entries.1 in
    record {
      name = w;
      form = form.0;
      arguments = s.arguments;
      spelled = ap (λ l. w ∷ l) s.spelled;
      known = form.1;
      taken = s.taken;
      once = s.once;
      numbers = ap (λ l. command_of form.0.name (values_of l)) (sym s.entries) ∙ entries.2;
    }

-- ---- from the arguments to the fold

-- no option's name has an `=` in it
abbrev has_plain_names : Form → Bool
has_plain_names f = list_all (λ n. not (list_any is_equals n)) f.options

found_here : {A : Type 0} (p : A → Bool) (y x : A) (t : Bool) (others : Option A) → p y ≡ true → (others ≡ Some x → p x ≡ true) → cond t (Some y) others ≡ Some x → p x ≡ true
found_here p y x true others first rest found = let same : y ≡ x = cc in subst (λ z. p z ≡ true) same first
found_here p y x false others first rest found = rest found

found_passes : {A : Type 0} (p q : A → Bool) (all : List A) (x : A) → list_all p all ≡ true → find q all ≡ Some x → p x ≡ true
found_passes p q [] x passes e = cc
found_passes p q (y ∷ ys) x passes e = let both = and_parts (p y) (list_all p ys) passes in found_here p y x (q y) (find q ys) both.0 (found_passes p q ys x both.1) e

plain_here : (n name : Word) (t others : Bool) → bytes_eq n name ≡ t → not (list_any is_equals n) ≡ true → (others ≡ true → list_any is_equals name ≡ false) → (t || others) ≡ true → list_any is_equals name ≡ false
plain_here n name true others same plain rest e = ap (list_any is_equals) (sym ((bytes_eq-Decides n name).0 same)) ∙ opposite (list_any is_equals n) plain
plain_here n name false others other plain rest e = rest e

plain_name : (options : List Word) (name : Word) → list_all (λ n. not (list_any is_equals n)) options ≡ true → list_any (λ n. bytes_eq n name) options ≡ true → list_any is_equals name ≡ false
plain_name [] name plain known = absurd (false≢true known)
plain_name (n ∷ options) name plain known =
    let both = and_parts (not (list_any is_equals n)) (list_all (λ n. not (list_any is_equals n)) options) plain in
    plain_here n name (bytes_eq n name) (list_any (λ n. bytes_eq n name) options) refl both.0 (plain_name options name both.1) known

module _ (f : Form) (plain : has_plain_names f ≡ true) where
  -- one argument's words give its entry
  step : (a : Argument) (before : List Entry) (words : List Word) → Takes f a → has (entry_of a).0 before ≡ false
      → fold (next f) (Some (record { entries = before; waiting = None })) (words_of a ++ words) ≡ fold (next f) (Some (record { entries = before ++ entry_of a ∷ []; waiting = None })) words
  step (alone value) before words takes new =
      let first : next f (Some (record { entries = before; waiting = None })) value ≡ Some (record { entries = before ++ (number, value) ∷ []; waiting = None }) =
      ap (λ t. cond t (with_option f (option_of value) before) (cond f.has_number (with_entry number value before) None)) takes.1
      ∙ ap (λ t. cond t (with_entry number value before) None) takes.0
      ∙ ap (λ t. cond t None (Some (record { entries = before ++ (number, value) ∷ []; waiting = None }))) new in
      ap (λ r. fold (next f) r words) first
  step (apart name value) before words takes new =
      let none = plain_name f.options name plain takes.0 in
      let whole = uncut name none in
      rw (none, whole, takes.0, takes.1, new) refl
  step (joined name value) before words takes new =
      let shape : name ++ codes "=" ++ value ≡ name ++ 61 ∷ value = append_assoc name (61 ∷ []) value in
      let read = cut_at name value (plain_name f.options name plain takes) in
      rw (shape, read, takes, new) refl

  fold_arguments : (arguments : List Argument) (before : List Entry) → TakesAll f arguments → Once before arguments
      → fold (next f) (Some (record { entries = before; waiting = None })) (all_words arguments) ≡ Some (record { entries = before ++ map entry_of arguments; waiting = None })
  fold_arguments [] before taken once = ap (λ l. Some (record { entries = l; waiting = None })) (sym (append-nil before))
  fold_arguments (a ∷ rest) before taken once =
      step a before (all_words rest) taken.0 once.0
      ∙ fold_arguments rest (before ++ entry_of a ∷ []) taken.1 once.1
      ∙ ap (λ l. Some (record { entries = l; waiting = None })) (append_assoc before (entry_of a ∷ []) (map entry_of rest))

pub commands_written : (words : List Word) (c : Command) → IsCommand words c → commands words ≡ Some c
commands_written words c is =
    let plain : has_plain_names is.form ≡ true = found_passes has_plain_names (λ f. bytes_eq f.name is.name) forms is.form refl is.known in
    let entries : entries_of is.form (all_words is.arguments) ≡ Some (map entry_of is.arguments) = ap ended (fold_arguments is.form plain is.arguments [] is.taken is.once) in
    ap commands is.spelled
    ∙ ap (option_and_then (command_behind (all_words is.arguments))) is.known
    ∙ ap (option_and_then (λ entries. command_of is.form.name (values_of entries))) entries
    ∙ is.numbers
