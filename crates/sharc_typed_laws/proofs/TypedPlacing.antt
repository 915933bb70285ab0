-- Labels of lines are those of the places where their pieces begin, and each piece is typed where it stands.
use Rattle.sharc_typed_laws.proofs.{Imports.{◌≡◌, ℕ, zero, suc, ◌+◌, ◌≤◌, Bool, true, false, List, [], ◌∷◌, ◌++◌, length, map, Some, refl, sym, ap, ◌∙◌, subst, inl, inr, ⊎_elim, arith, map-append, get_or-append-add, AllByRecursion, slice_get, slice_index_or, Code, PlaceMode, Cell, Instr, Jump, JumpIfZero, JumpIfNull, Call, Return, Load, Store, LoadRef, Exchange, TakeCell, Exit, place_at, Op, Spot, instr_of, check_under, expand, expanded, width, offset, place, source_of, with_texts, LineTexts, Targets, StaticType, Label, Labels, Less, IsScoped, IsFree, empty, knows, Fine, ints_in, refs_in, Steps, Chain, first_or, FlatLabels, outside, inside, before_check, known_behind, gate_behind, passed_behind, labels_from, TypedLine, To, less_refl}, Pieces.pieces, Preorder.less_through, Weaker.{accesses_among, calls_among, steps}, Scoping.scoped}

-- ---- one statement at its place
at_place : (x : Targets) (code : Code) (ls : Labels) (at : ℕ → Label) (pc : ℕ) (l : Label) (i : Instr) → Steps x code ls l (at (pc + 1)) i → Fine x code (record ls { at = at }) pc l i
at_place x code ls at pc l (Jump to) h = absurd h
at_place x code ls at pc l (JumpIfZero r to) h = absurd h
at_place x code ls at pc l (JumpIfNull r to) h = absurd h
at_place x code ls at pc l (Call to ints refs site) h = (h.0, (h.1.0, calls_among code ls (λ n. at (pc + 1)) at l to ints refs h.1.0 h.1.1, h.1.2))
at_place x code ls at pc l (Return site) h = (h.0, (h.1.0, h.1.1, record { result = h.1.2.result; result_int = h.1.2.result_int; empty = h.1.2.empty }))
at_place x code ls at pc l (Load r c site) h = (h.0, (h.1.0, h.1.1, accesses_among x code ls (λ n. at (pc + 1)) at l false c site h.1.0 h.1.2, h.1.3, h.1.4))
at_place x code ls at pc l (Store r c site) h = (h.0, h.1, accesses_among x code ls (λ n. at (pc + 1)) at l true c site h.0 h.2, h.3, h.4, h.5)
at_place x code ls at pc l (LoadRef c site) h = (h.0, h.1, accesses_among x code ls (λ n. at (pc + 1)) at l false c site h.0 h.2, h.3, h.4)
at_place x code ls at pc l (Exchange r c site) h = (h.0, (h.1.0, h.1.1, accesses_among x code ls (λ n. at (pc + 1)) at l true c site h.1.0 h.1.2, h.1.3, h.1.4, h.1.5, h.1.6, h.1.7))
at_place x code ls at pc l (TakeCell r c site) h = (h.0, (h.1.0, h.1.1, accesses_among x code ls (λ n. at (pc + 1)) at l true c site h.1.0 h.1.2, h.1.3, h.1.4, h.1.5))
at_place x code ls at pc l i h = h

-- ---- how many labels a piece has
check_length : (l : Label) (dropped : Bool) (dynamic : Instr) (spot : Spot) (n : ℕ) (mode : PlaceMode) (labels : List Label) (own tail : List Instr) → length labels ≡ length (own ++ tail)
    → length (before_check dropped l mode ++ labels) ≡ length ((check_under dropped dynamic spot n mode ++ own) ++ tail)
check_length l true dynamic spot n PlaceMode.Private labels own tail e = e
check_length l true dynamic spot n PlaceMode.Readonly labels own tail e = e
check_length l true dynamic spot n PlaceMode.Racy labels own tail e = e
check_length l true dynamic spot n PlaceMode.Dynamic labels own tail e = e
check_length l false dynamic spot n PlaceMode.Private labels own tail e = e
check_length l false dynamic spot n PlaceMode.Readonly labels own tail e = e
check_length l false dynamic spot n PlaceMode.Racy labels own tail e = e
check_length l _ dynamic spot n _ labels own tail e = ap suc e

inside_length : (x : Targets) (dropped : Bool) (type : StaticType) (n : ℕ) (o : Op) (l : Label) → length (inside x dropped type o l) ≡ width dropped n o
inside_length x dropped type n (Op.Load i c spot) l = check_length l dropped _ spot n spot.mode _ _ _ refl
inside_length x dropped type n (Op.Store i c spot) l = check_length l dropped _ spot n spot.mode _ _ _ refl
inside_length x dropped type n (Op.LoadRef r c spot) l = check_length l false _ spot n spot.mode _ _ _ refl
inside_length x dropped type n (Op.StoreRef r c spot) l = check_length l false _ spot n spot.mode _ _ _ refl
inside_length x dropped type n (Op.TakeCell r c spot) l = check_length l false _ spot n spot.mode _ _ _ refl
inside_length x dropped type n o l = refl

-- ---- with which label a piece begins
abbrev Begins : List Label → Label → Type 0
Begins labels l = (rest : List Label) → slice_index_or (labels ++ rest) 0 outside ≡ l

begins_checked : (x : Targets) (l : Label) (dropped write : Bool) (c : Cell) (spot : Spot) (mode : PlaceMode) (labels : List Label)
    → Begins (before_check dropped l mode ++ (record l { known = known_behind l spot mode; gate = gate_behind dropped l write c spot mode; passed = passed_behind x dropped l write c mode } ∷ labels)) l
begins_checked x l true write c spot (PlaceMode.LockedGlobal g p) labels rest = refl
begins_checked x l false write c spot PlaceMode.Private labels rest = refl
begins_checked x l _ write c spot _ labels rest = refl

same_less : (l k : Label) → k ≡ l → Less l k
same_less l k e = subst (Less l) (sym e) (less_refl l)

inside_begins : (x : Targets) (code : Code) (ls : Labels) (lines : ℕ) (dropped : Bool) (type : StaticType) (n : ℕ) (l k : Label) (o : Op) (rest : List Label)
    → TypedLine x code ls lines dropped type n l k o → Less k (slice_index_or rest 0 outside) → Less l (slice_index_or (inside x dropped type o l ++ rest) 0 outside)
inside_begins x code ls lines dropped type n l k Op.Enter rest h e = less_through l k (slice_index_or rest 0 outside) h e
inside_begins x code ls lines dropped type n l k Op.BlockEnd rest h e = less_through l k (slice_index_or rest 0 outside) h e
inside_begins x code ls lines dropped type n l k (Op.Load i c spot) rest h e = same_less l _ (begins_checked x l dropped false c spot spot.mode [] rest)
inside_begins x code ls lines dropped type n l k (Op.Store i c spot) rest h e = same_less l _ (begins_checked x l dropped true c spot spot.mode [] rest)
inside_begins x code ls lines dropped type n l k (Op.LoadRef r c spot) rest h e = same_less l _ (begins_checked x l false false c spot spot.mode _ rest)
inside_begins x code ls lines dropped type n l k (Op.StoreRef r c spot) rest h e = same_less l _ (begins_checked x l false true c spot spot.mode _ rest)
inside_begins x code ls lines dropped type n l k (Op.TakeCell r c spot) rest h e = same_less l _ (begins_checked x l false true c spot spot.mode [] rest)
inside_begins x code ls lines dropped type n l k o rest h e = less_refl l

-- ---- of one function throughout
check_function : (l : Label) (dropped : Bool) (mode : PlaceMode) (labels : List Label) → AllByRecursion (λ (m : Label). m.function ≡ l.function) labels
    → AllByRecursion (λ (m : Label). m.function ≡ l.function) (before_check dropped l mode ++ labels)
check_function l true PlaceMode.Private labels k = k
check_function l true PlaceMode.Readonly labels k = k
check_function l true PlaceMode.Racy labels k = k
check_function l true PlaceMode.Dynamic labels k = k
check_function l false PlaceMode.Private labels k = k
check_function l false PlaceMode.Readonly labels k = k
check_function l false PlaceMode.Racy labels k = k
check_function l _ _ labels k = (refl, k)

inside_function : (x : Targets) (dropped : Bool) (type : StaticType) (o : Op) (l : Label) → AllByRecursion (λ (m : Label). m.function ≡ l.function) (inside x dropped type o l)
inside_function x dropped type Op.Enter l = tt
inside_function x dropped type Op.BlockEnd l = tt
inside_function x dropped type (Op.Settle to from) l = (refl, (refl, tt))
inside_function x dropped type (Op.Load i c spot) l = check_function l dropped spot.mode _ (refl, tt)
inside_function x dropped type (Op.Store i c spot) l = check_function l dropped spot.mode _ (refl, tt)
inside_function x dropped type (Op.LoadRef r c spot) l = check_function l false spot.mode _ (refl, (refl, tt))
inside_function x dropped type (Op.StoreRef r c spot) l = check_function l false spot.mode _ (refl, (refl, tt))
inside_function x dropped type (Op.TakeCell r c spot) l = check_function l false spot.mode _ (refl, tt)
inside_function x dropped type (Op.Give r cells spot) l = (refl, (refl, (refl, tt)))
inside_function x dropped type (Op.Free r layout spot) l = (refl, (refl, tt))
inside_function x dropped type o l = (refl, tt)

-- what holds of labels by their function and what is said of them
abbrev pub IsPlaced : Code → Label → Type 0
IsPlaced code l = IsScoped (ints_in code l.function) (refs_in code l.function) l × ((f : ℕ) × (l.function ≡ Some f))

all_placed : (code : Code) (l : Label) (f : ℕ) → l.function ≡ Some f → (labels : List Label) → AllByRecursion (IsScoped (ints_in code l.function) (refs_in code l.function)) labels
    → AllByRecursion (λ (m : Label). m.function ≡ l.function) labels → AllByRecursion (IsPlaced code) labels
all_placed code l f is [] s e = tt
all_placed code l f is (m ∷ labels) s e =
    ((subst (λ g. IsScoped (ints_in code g) (refs_in code g) m) (sym e.0) s.0, (f, e.0 ∙ is)), all_placed code l f is labels s.1 e.1)

pub all_append : (P : Label → Type 0) (xs ys : List Label) → AllByRecursion P xs → AllByRecursion P ys → AllByRecursion P (xs ++ ys)
all_append P [] ys h k = k
all_append P (x ∷ xs) ys h k = (h.0, all_append P xs ys h.1 k)

-- ---- the statements of a list, at their places
module _ (x : Targets) (code : Code) (ls : Labels) (at : ℕ → Label) where
  abbrev pub here : Labels
  here = record ls { at = at }

  abbrev pub FineList : ℕ → List Label → List Instr → Type 0
  FineList pc [] [] = Unit {0}
  FineList pc (l ∷ labels) (i ∷ is) = Fine x code here pc l i × FineList (pc + 1) labels is
  FineList pc _ _ = ⊥

  abbrev pub There : ℕ → List Label → Type 0
  There pc labels = (j : ℕ) → at (pc + j) ≡ slice_index_or labels j outside

  next_there : (pc : ℕ) (l : Label) (labels : List Label) → There pc (l ∷ labels) → There (pc + 1) labels
  next_there pc l labels h j = let e : pc + suc j ≡ pc + 1 + j = omega arith in sym (ap at e) ∙ h (suc j)

  behind_there : (pc : ℕ) (labels rest : List Label) → There pc (labels ++ rest) → There (pc + length labels) rest
  behind_there pc [] rest h j = let e : pc + j ≡ pc + 0 + j = omega arith in sym (ap at e) ∙ h j
  behind_there pc (l ∷ labels) rest h j =
      let e : pc + 1 + length labels + j ≡ pc + length (l ∷ labels) + j = omega arith in
      sym (ap at e) ∙ behind_there (pc + 1) labels rest (next_there pc l (labels ++ rest) h) j

  first_there : (labels rest : List Label) (k : Label) → Less k (slice_index_or rest 0 outside) → Less (first_or k labels) (slice_index_or (labels ++ rest) 0 outside)
  first_there [] rest k e = e
  first_there (l ∷ labels) rest k e = less_refl l

  chain_fine : (pc : ℕ) (labels : List Label) (is : List Instr) (rest : List Label) (k : Label) → Chain x code ls labels is k → There pc (labels ++ rest) → Less k (slice_index_or rest 0 outside) → FineList pc labels is
  chain_fine pc [] [] rest k c h e = tt
  chain_fine pc (l ∷ labels) (i ∷ is) rest k c h e =
      let t = next_there pc l (labels ++ rest) h in
      let z : pc + 1 + 0 ≡ pc + 1 = omega arith in
      let next : Less (first_or k labels) (at (pc + 1)) = subst (Less (first_or k labels)) (sym (sym (ap at z) ∙ t 0)) (first_there labels rest k e) in
      (at_place x code ls at pc l i (steps x code ls (first_or k labels) (at (pc + 1)) next l i c.0), chain_fine (pc + 1) labels is rest k c.1 t e)
  chain_fine pc [] (i ∷ is) rest k c h e = absurd c
  chain_fine pc (l ∷ labels) [] rest k c h e = absurd c

  fine_append : (pc : ℕ) (xs ys : List Label) (is js : List Instr) → FineList pc xs is → FineList (pc + length xs) ys js → FineList pc (xs ++ ys) (is ++ js)
  fine_append pc [] ys [] js h k = let e : pc + 0 ≡ pc = omega arith in subst (λ n. FineList n ys js) e k
  fine_append pc (l ∷ xs) ys (i ∷ is) js h k =
      let e : pc + length (l ∷ xs) ≡ pc + 1 + length xs = omega arith in
      (h.0, fine_append (pc + 1) xs ys is js h.1 (subst (λ n. FineList n ys js) e k))
  fine_append pc [] ys (i ∷ is) js h k = absurd h
  fine_append pc (l ∷ xs) ys [] js h k = absurd h

  pub fine_at : (pc : ℕ) (labels : List Label) (is : List Instr) → FineList pc labels is → (j : ℕ) → Fine x code here (pc + j) (slice_index_or labels j outside) (slice_index_or is j Exit)
  fine_at pc [] [] h j = (refl, refl, refl)
  fine_at pc (l ∷ labels) (i ∷ is) h zero = let e : pc ≡ pc + zero = omega arith in subst (λ n. Fine x code here n l i) e h.0
  fine_at pc (l ∷ labels) (i ∷ is) h (suc j) =
      let e : pc + 1 + j ≡ pc + suc j = omega arith in
      subst (λ n. Fine x code here n (slice_index_or labels j outside) (slice_index_or is j Exit)) e (fine_at (pc + 1) labels is h.1 j)
  fine_at pc [] (i ∷ is) h j = absurd h
  fine_at pc (l ∷ labels) [] h j = absurd h

-- ---- lines
pub record LineStands (x : Targets) (code : Code) (dropped : ℕ → Bool) (fl : FlatLabels) (lines n : ℕ) (o : Op) : Type 0 where
  pub typed : TypedLine x code fl.lines lines (dropped n) (fl.replaced n) n (fl.lines.at n) (fl.lines.at (n + 1)) o
  pub told : LineTexts
  pub site : place_at code n ≡ with_texts told (source_of o)
  pub placed : IsPlaced code (fl.lines.at n)

module _ (x : Targets) (code : Code) (dropped : ℕ → Bool) (fl : FlatLabels) (lines : ℕ) where
  abbrev Stands : ℕ → Op → Type 0
  Stands = LineStands x code dropped fl lines

  abbrev pub AllStand : ℕ → List Op → Type 0
  AllStand k [] = fl.lines.at k ≡ outside
  AllStand k (o ∷ os) = Stands k o × AllStand (k + 1) os

  pub all_stand : (k : ℕ) (os : List Op) → ((j : ℕ) (o : Op) → slice_get os j ≡ Some o → Stands (k + j) o) → fl.lines.at (k + length os) ≡ outside → AllStand k os
  all_stand k [] each end = let e : k + 0 ≡ k = omega arith in sym (ap fl.lines.at e) ∙ end
  all_stand k (o ∷ os) each end =
      let e : k + 0 ≡ k = omega arith in
      let f : k + length (o ∷ os) ≡ k + 1 + length os = omega arith in (
        subst (λ n. Stands n o) e (each 0 o refl),
        all_stand (k + 1) os (λ j p is. let g : k + suc j ≡ k + 1 + j = omega arith in subst (λ n. Stands n p) g (each (suc j) p is)) (sym (ap fl.lines.at f) ∙ end),
      )

  abbrev from : ℕ → List Op → List Label
  from = labels_from x dropped fl

  head_label : (k : ℕ) (os : List Op) → AllStand k os → Less (fl.lines.at k) (slice_index_or (from k os) 0 outside)
  head_label k [] a = same_less (fl.lines.at k) outside (sym a)
  head_label k (o ∷ os) a = inside_begins x code fl.lines lines (dropped k) (fl.replaced k) k (fl.lines.at k) (fl.lines.at (k + 1)) o (from (k + 1) os) a.0.typed (head_label (k + 1) os a.1)

  -- the label of the place of a line says no more than that of the line
  label_there : (k : ℕ) (os : List Op) (t : ℕ) → AllStand k os → t ≤ length os → Less (fl.lines.at (k + t)) (slice_index_or (from k os) (offset dropped k os t) outside)
  label_there k [] zero a le = let e : k + 0 ≡ k = omega arith in same_less (fl.lines.at (k + 0)) outside (sym (ap fl.lines.at e ∙ a))
  label_there k [] (suc t) a le = absurd (omega arith)
  label_there k (o ∷ os) zero a le = let e : k ≡ k + 0 = omega arith in subst (λ n. Less (fl.lines.at n) (slice_index_or (from k (o ∷ os)) 0 outside)) e (head_label k (o ∷ os) a)
  label_there k (o ∷ os) (suc t) a le =
      let e : k + 1 + t ≡ k + suc t = omega arith in
      let few : t ≤ length os = omega arith in
      let piece = inside x (dropped k) (fl.replaced k) o (fl.lines.at k) in
      let same : slice_index_or (from k (o ∷ os)) (width (dropped k) k o + offset dropped (k + 1) os t) outside ≡ slice_index_or (from (k + 1) os) (offset dropped (k + 1) os t) outside =
      ap (λ w. slice_index_or (piece ++ from (k + 1) os) (w + offset dropped (k + 1) os t) outside) (sym (inside_length x (dropped k) (fl.replaced k) k o (fl.lines.at k)))
      ∙ get_or-append-add piece (from (k + 1) os) (offset dropped (k + 1) os t) outside in
      subst (Less (fl.lines.at (k + suc t))) (sym same) (subst (λ n. Less (fl.lines.at n) (slice_index_or (from (k + 1) os) (offset dropped (k + 1) os t) outside)) e (label_there (k + 1) os t a.1 few))

  pub all_places : (k : ℕ) (os : List Op) → AllStand k os → AllByRecursion (IsPlaced code) (from k os)
  all_places k [] a = tt
  all_places k (o ∷ os) a =
      let l = fl.lines.at k in
      let s = scoped x code fl.lines lines (dropped k) (fl.replaced k) k l (fl.lines.at (k + 1)) o a.0.placed.0 a.0.typed in
      all_append (IsPlaced code) (inside x (dropped k) (fl.replaced k) o l) (from (k + 1) os)
      (all_placed code l a.0.placed.1.0 a.0.placed.1.1 (inside x (dropped k) (fl.replaced k) o l) s (inside_function x (dropped k) (fl.replaced k) o l)) (all_places (k + 1) os a.1)

  module _ (all : List Op) (stands : AllStand 0 all) (is : length all ≡ lines) where
    abbrev pub at : ℕ → Label
    at pc = slice_index_or (outside ∷ outside ∷ from 0 all) pc outside

    abbrev pl : ℕ → ℕ
    pl = place dropped all

    -- a jump leads where it is to lead
    leads_to : (t : ℕ) → t ≤ lines → Less (fl.lines.at t) (at (pl t))
    leads_to t le =
        let e : 2 + offset dropped 0 all t ≡ suc (suc (offset dropped 0 all t)) = omega arith in
        let f : 0 + t ≡ t = omega arith in
        let few : t ≤ length all = subst (λ n. t ≤ n) (sym is) le in
        subst (Less (fl.lines.at t)) (sym (ap at e)) (subst (λ n. Less (fl.lines.at n) (slice_index_or (from 0 all) (offset dropped 0 all t) outside)) f (label_there 0 all t stands few))

    pub goes_to : (t : ℕ) (l : Label) → To fl.lines lines t l → Less l (at (pl t))
    goes_to t l h = less_through l (fl.lines.at t) (at (pl t)) h.1 (leads_to t h.0)

    abbrev Fines : ℕ → List Label → List Instr → Type 0
    Fines = FineList x code fl.lines at

    -- the piece of a line, where the labels behind it are these
    piece_fine : (pc k : ℕ) (o : Op) (rest : List Label) → Stands k o → There x code fl.lines at pc (inside x (dropped k) (fl.replaced k) o (fl.lines.at k) ++ rest) → Less (fl.lines.at (k + 1)) (slice_index_or rest 0 outside)
        → Fines pc (inside x (dropped k) (fl.replaced k) o (fl.lines.at k)) (map (instr_of code.functions.items) (expand pl (dropped k) k o))
    piece_fine pc k (Op.Skip over) rest s there next = ((s.typed.0, goes_to (k + 1 + over) (fl.lines.at k) s.typed.1), tt)
    piece_fine pc k (Op.SkipIfZero i over) rest s there next =
        let e : Less (fl.lines.at (k + 1)) (at (pc + 1)) = subst (Less (fl.lines.at (k + 1))) (sym (there 1)) next in
        ((s.typed.0, goes_to (k + 1 + over) (fl.lines.at k) s.typed.1, less_through (fl.lines.at k) (fl.lines.at (k + 1)) (at (pc + 1)) s.typed.2 e), tt)
    piece_fine pc k (Op.SkipIfNull r over) rest s there next =
        let e : Less (fl.lines.at (k + 1)) (at (pc + 1)) = subst (Less (fl.lines.at (k + 1))) (sym (there 1)) next in
        let l = fl.lines.at k in (
          (
            s.typed.0,
            ⊎_elim (λ (h : To fl.lines lines (k + 1 + over) l). inl (goes_to (k + 1 + over) l h))
                (λ (h : IsFree l r × To fl.lines lines (k + 1 + over) (empty l r)). inr (h.0, goes_to (k + 1 + over) (empty l r) h.1)) s.typed.1,
            less_through (knows l r) (fl.lines.at (k + 1)) (at (pc + 1)) s.typed.2 e,
          ),
          tt,
        )
    piece_fine pc k (Op.Jump to) rest s there next = ((s.typed.0, goes_to to (fl.lines.at k) s.typed.1), tt)
    piece_fine pc k o rest s there next =
        chain_fine x code fl.lines at pc (inside x (dropped k) (fl.replaced k) o (fl.lines.at k)) (map (instr_of code.functions.items) (expand pl (dropped k) k o)) rest (fl.lines.at (k + 1))
        (pieces x code fl.lines lines (dropped k) (fl.replaced k) k (fl.lines.at k) (fl.lines.at (k + 1)) o pl {told = s.told} tt s.site s.typed) there next

    pub lines_fine : (pc k : ℕ) (os : List Op) → AllStand k os → There x code fl.lines at pc (from k os) → Fines pc (from k os) (map (instr_of code.functions.items) (expanded pl dropped k os))
    lines_fine pc k [] a there = tt
    lines_fine pc k (o ∷ os) a there =
        let piece = inside x (dropped k) (fl.replaced k) o (fl.lines.at k) in
        let rest = from (k + 1) os in
        let h = piece_fine pc k o rest a.0 there (head_label (k + 1) os a.1) in
        let t = lines_fine (pc + length piece) (k + 1) os a.1 (behind_there x code fl.lines at pc piece rest there) in
        subst (Fines pc (piece ++ rest)) (sym (map-append (instr_of code.functions.items) (expand pl (dropped k) k o) (expanded pl dropped (k + 1) os)))
        (fine_append x code fl.lines at pc piece rest (map (instr_of code.functions.items) (expand pl (dropped k) k o)) (map (instr_of code.functions.items) (expanded pl dropped (k + 1) os)) h t)
