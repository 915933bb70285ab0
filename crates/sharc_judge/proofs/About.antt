-- Which events are about a topic.
use Rattle.std.proofs.{Common.{◌≡◌, inl, inr, ℕ, Bool, true, false, ◌&&◌, ◌||◌, refl, ap, sym, ◌∙◌}, lemmas.Bool.{cases_eq, eq-eqb, ne_eqb, or_from}}
use Rattle.std.specs.{Prelude.{◌==◌, pos, negsuc, ℤ, Some, None, Option}, List.list_any, Bool.Decides, Cmp.signed_Decides, Ordering.int_eq}
use Rattle.sharc_tree.specs.{declared.event.Act.Act, declared.event.CellAt.CellAt, declared.event.CellMode.CellMode, declared.event.CellMode.TheVariants.{Private, Dynamic}, declared.event.Object.Object, declared.event.Object.TheVariants.{Global, Made}, declared.event.SourceEvent.SourceEvent, declared.event.Taken.TheVariants.Cell}
use Rattle.sharc_tree.specs.declared.event.Act.TheVariants as acts
use Rattle.sharc_meaning.specs.{Events.{same_object, same_cell, is_number, made_by, given_by, freed_by, locked_by, unlocked_by, is_cell, Access, access_by, granule_of}, Obeys.{ends, until_return}, Store.{cell_changed, is_spawn, is_gone, is_natural}}
use Rattle.sharc_judge.specs.{Deciding.is_dynamic, declared.topics.Topic.Topic, declared.keys.CellKey.CellKey, declared.keys.GranuleKey.GranuleKey, Reads.{same_granule, is_shared, is_write}, Topics.{object_key, cell_key, granule_key, changing, topics_by, same_topic}}
use Rattle.sharc_judge.specs.declared.topics.Topic.TheVariants as topic
use Rattle.sharc_judge.specs.contracts.keys.CellKeyPartialEq.TheImpl as cell_eq
use Rattle.sharc_judge.specs.contracts.keys.ObjectKeyPartialEq.TheImpl as object_eq
use Rattle.sharc_lemmas.proofs.Bools.{or_false as or_none, and_false as and_none, and_true as and_all}

-- ---- keys

pub turned : (n m : ℕ) → (n == m) ≡ (m == n)
turned n m = elim (cases_eq n m) [ inl e ↦ eq-eqb n m e ∙ sym (eq-eqb m n (sym e)) | inr e ↦ ne_eqb n m e ∙ sym (ne_eqb m n (λ k. e (sym k))) ]

pub same_objects : (o p : Object) → object_eq.ghosts.eq (object_key o) (object_key p) ≡ same_object p o
same_objects (Global n) (Global m) = turned n m
same_objects (Global n) (Made m) = refl
same_objects (Made n) (Global m) = refl
same_objects (Made n) (Made m) = turned n m

pub same_cells : (c d : CellAt) → cell_eq.ghosts.eq (cell_key c) (cell_key d) ≡ same_cell d c
same_cells c d = ap (λ b. b && (c.cell == d.cell)) (same_objects c.object d.object) ∙ ap (λ b. same_object d.object c.object && b) (turned c.cell d.cell)

pub same_granules_on : (c d : CellAt) → same_granule (granule_key c) (granule_key d) ≡ (same_object c.object d.object && (granule_of c == granule_of d))
same_granules_on c d = ap (λ b. b && (granule_of c == granule_of d)) (same_on c.object d.object)
  where
    same_on : (o p : Object) → object_eq.ghosts.eq (object_key o) (object_key p) ≡ same_object o p
    same_on (Global n) (Global m) = refl
    same_on (Global n) (Made m) = refl
    same_on (Made n) (Global m) = refl
    same_on (Made n) (Made m) = refl

one : {b c : Bool} → b ≡ c → (b || false) ≡ c
one {b} h = or_none b ∙ h

abbrev says : Topic → SourceEvent → Act → Bool
says t e a = list_any (λ x. same_topic x t) (topics_by e a)

-- ---- cells

-- an access of the cell
abbrev pub is_access_of : CellAt → Option Access → Bool
is_access_of c None = false
is_access_of c (Some a) = same_cell c a.cell

changing_access : (c d : CellAt) (mode : CellMode) → list_any (λ x. same_topic x (topic.Access (cell_key c))) (changing d mode) ≡ same_cell c d
changing_access c d Private = one (same_cells d c)
changing_access c d _ = one (same_cells d c)

pub about_access : (c : CellAt) (e : SourceEvent) (a : Act) → says (topic.Access (cell_key c)) e a ≡ is_access_of c (access_by a)
about_access c e (acts.Read d mode) = one (same_cells d c)
about_access c e (acts.Write d mode v) = changing_access c d mode
about_access c e (acts.Take (Cell d mode) kind) = changing_access c d mode
about_access c e _ = refl

changing_change : (c d : CellAt) (mode : CellMode) → list_any (λ x. same_topic x (topic.Change (cell_key c))) (changing d mode) ≡ same_cell c d
changing_change c d Private = one (same_cells d c)
changing_change c d _ = one (same_cells d c)

pub about_change : (c : CellAt) (e : SourceEvent) (a : Act) → says (topic.Change (cell_key c)) e a ≡ is_cell c (cell_changed a)
about_change c e (acts.Write d mode v) = changing_change c d mode
about_change c e (acts.Take (Cell d mode) kind) = changing_change c d mode
about_change c e _ = refl

changing_shared : (q : GranuleKey) (d : CellAt) (mode : CellMode) → list_any (λ x. same_topic x (topic.SharedWrite q)) (changing d mode) ≡ (is_dynamic mode && same_granule (granule_key d) q) && true
changing_shared q d Dynamic = one (sym (and_all (same_granule (granule_key d) q)))
changing_shared q d _ = refl

pub about_shared : (q : GranuleKey) (e : SourceEvent) (a : Act) → says (topic.SharedWrite q) e a ≡ (is_shared q (access_by a) && is_write (access_by a))
about_shared q e (acts.Read d mode) = sym (and_none (is_dynamic mode && same_granule (granule_key d) q))
about_shared q e (acts.Write d mode v) = changing_shared q d mode
about_shared q e (acts.Take (Cell d mode) kind) = changing_shared q d mode
about_shared q e _ = refl

-- a topic that is of no cell
quiet : (t : Topic) (d : CellAt) (mode : CellMode) → ((k : CellKey) → same_topic (topic.Access k) t ≡ false) → ((k : CellKey) → same_topic (topic.Change k) t ≡ false) → ((k : GranuleKey) → same_topic (topic.SharedWrite k) t ≡ false)
    → list_any (λ x. same_topic x t) (changing d mode) ≡ false
quiet t d Dynamic h k s = or_from _ _ (h (cell_key d)) (or_from _ _ (k (cell_key d)) (or_from _ _ (s (granule_key d)) refl))
quiet t d _ h k s = or_from _ _ (h (cell_key d)) (or_from _ _ (k (cell_key d)) refl)

-- ---- objects

pub about_make : (n : ℕ) (e : SourceEvent) (a : Act) → says (topic.Make n) e a ≡ is_number n (made_by e a)
about_make n e (acts.New cells elements mode) = one (turned _ n)
about_make n e (acts.Write d mode v) = quiet (topic.Make n) d mode (λ k. refl) (λ k. refl) (λ k. refl)
about_make n e (acts.Take (Cell d mode) kind) = quiet (topic.Make n) d mode (λ k. refl) (λ k. refl) (λ k. refl)
about_make n e _ = refl

pub about_life : (n : ℕ) (e : SourceEvent) (a : Act) → says (topic.Life n) e a ≡ (is_number n (made_by e a) || is_number n (freed_by a))
about_life n e (acts.New cells elements mode) = ap (λ b. b || false) (turned _ n)
about_life n e (acts.Freed reference) = one (turned _ n)
about_life n e (acts.Write d mode v) = quiet (topic.Life n) d mode (λ k. refl) (λ k. refl) (λ k. refl)
about_life n e (acts.Take (Cell d mode) kind) = quiet (topic.Life n) d mode (λ k. refl) (λ k. refl) (λ k. refl)
about_life n e _ = refl

pub about_begin : (n : ℕ) (e : SourceEvent) (a : Act) → says (topic.Begin n) e a ≡ (is_number n (made_by e a) || is_number n (given_by a))
about_begin n e (acts.New cells elements mode) = ap (λ b. b || false) (turned _ n)
about_begin n e (acts.Give reference mode) = one (turned _ n)
about_begin n e (acts.Write d mode v) = quiet (topic.Begin n) d mode (λ k. refl) (λ k. refl) (λ k. refl)
about_begin n e (acts.Take (Cell d mode) kind) = quiet (topic.Begin n) d mode (λ k. refl) (λ k. refl) (λ k. refl)
about_begin n e _ = refl

pub about_period : (n : ℕ) (e : SourceEvent) (a : Act) → says (topic.Period n) e a ≡ ((is_number n (made_by e a) || is_number n (given_by a)) || is_number n (freed_by a))
about_period n e (acts.New cells elements mode) = one (turned _ n) ∙ sym (or_none _ ∙ or_none _)
about_period n e (acts.Give reference mode) = ap (λ b. b || false) (turned _ n)
about_period n e (acts.Freed reference) = one (turned _ n)
about_period n e (acts.Write d mode v) = quiet (topic.Period n) d mode (λ k. refl) (λ k. refl) (λ k. refl)
about_period n e (acts.Take (Cell d mode) kind) = quiet (topic.Period n) d mode (λ k. refl) (λ k. refl) (λ k. refl)
about_period n e _ = refl

-- ---- mutexes

pub about_mutex : (c : CellAt) (e : SourceEvent) (a : Act) → says (topic.Mutex (cell_key c)) e a ≡ (is_cell c (locked_by a) || is_cell c (unlocked_by a))
about_mutex c e (acts.Lock d) = ap (λ b. b || false) (same_cells d c)
about_mutex c e (acts.Unlock d) = one (same_cells d c)
about_mutex c e (acts.Write d mode v) = quiet (topic.Mutex (cell_key c)) d mode (λ k. refl) (λ k. refl) (λ k. refl)
about_mutex c e (acts.Take (Cell d mode) kind) = quiet (topic.Mutex (cell_key c)) d mode (λ k. refl) (λ k. refl) (λ k. refl)
about_mutex c e _ = refl

pub about_lock : (c : CellAt) (e : SourceEvent) (a : Act) → says (topic.Lock (cell_key c)) e a ≡ is_cell c (locked_by a)
about_lock c e (acts.Lock d) = one (same_cells d c)
about_lock c e (acts.Write d mode v) = quiet (topic.Lock (cell_key c)) d mode (λ k. refl) (λ k. refl) (λ k. refl)
about_lock c e (acts.Take (Cell d mode) kind) = quiet (topic.Lock (cell_key c)) d mode (λ k. refl) (λ k. refl) (λ k. refl)
about_lock c e _ = refl

pub about_hold : (t : ℕ) (c : CellAt) (e : SourceEvent) (a : Act) → says (topic.Hold t (cell_key c)) e a ≡ (e.thread == t && (is_cell c (locked_by a) || is_cell c (unlocked_by a)))
about_hold t c e (acts.Lock d) = one (ap (λ b. e.thread == t && b) (same_cells d c ∙ sym (or_none _)))
about_hold t c e (acts.Unlock d) = one (ap (λ b. e.thread == t && b) (same_cells d c))
about_hold t c e (acts.Write d mode v) = quiet (topic.Hold t (cell_key c)) d mode (λ k. refl) (λ k. refl) (λ k. refl) ∙ sym (and_none (e.thread == t))
about_hold t c e (acts.Take (Cell d mode) kind) = quiet (topic.Hold t (cell_key c)) d mode (λ k. refl) (λ k. refl) (λ k. refl) ∙ sym (and_none (e.thread == t))
about_hold t c e _ = sym (and_none (e.thread == t))

-- ---- threads

pub about_return : (t : ℕ) (e : SourceEvent) (a : Act) → says (topic.Return t) e a ≡ (e.thread == t && ends until_return a)
about_return t e acts.Return = or_none _ ∙ sym (and_all (e.thread == t))
about_return t e (acts.Write d mode v) = quiet (topic.Return t) d mode (λ k. refl) (λ k. refl) (λ k. refl) ∙ sym (and_none (e.thread == t))
about_return t e (acts.Take (Cell d mode) kind) = quiet (topic.Return t) d mode (λ k. refl) (λ k. refl) (λ k. refl) ∙ sym (and_none (e.thread == t))
about_return t e _ = sym (and_none (e.thread == t))

natural_by : (n : ℕ) (v : ℤ) (b : Bool) → Decides b (v ≡ pos n) → b ≡ is_natural n v
natural_by n (pos m) true d = sym (eq-eqb n m (same (d.0 refl)))
  where
    same : pos m ≡ pos n → n ≡ m
    same h = cc
natural_by n (pos m) false d = sym (ne_eqb n m (λ h. absurd (let z : false ≡ true = d.1 (ap pos (sym h)) in cc)))
natural_by n (negsuc m) true d = absurd (let z : negsuc m ≡ pos n = d.0 refl in cc)
natural_by n (negsuc m) false d = refl

natural_is : (n : ℕ) (v : ℤ) → int_eq v (pos n) ≡ is_natural n v
natural_is n v = natural_by n v (int_eq v (pos n)) (signed_Decides v (pos n))

natural_on : (n : ℕ) (v : ℤ) → int_eq (pos n) v ≡ is_natural n v
natural_on n v = let d = signed_Decides (pos n) v in natural_by n v (int_eq (pos n) v) (λ h. sym (d.0 h), λ h. d.1 (sym h))

pub about_spawn : (n : ℕ) (e : SourceEvent) (a : Act) → says (topic.Spawn (pos n)) e a ≡ (is_spawn a && is_natural n e.answer)
about_spawn n e (acts.Spawn f v) = one (natural_is n e.answer)
about_spawn n e (acts.Write d mode v) = quiet (topic.Spawn (pos n)) d mode (λ k. refl) (λ k. refl) (λ k. refl)
about_spawn n e (acts.Take (Cell d mode) kind) = quiet (topic.Spawn (pos n)) d mode (λ k. refl) (λ k. refl) (λ k. refl)
about_spawn n e _ = refl

pub about_gone : (v : ℤ) (e : SourceEvent) (a : Act) → says (topic.Gone v) e a ≡ (is_gone a && is_natural e.thread v)
about_gone v e acts.Gone = one (natural_on e.thread v)
about_gone v e (acts.Write d mode w) = quiet (topic.Gone v) d mode (λ k. refl) (λ k. refl) (λ k. refl)
about_gone v e (acts.Take (Cell d mode) kind) = quiet (topic.Gone v) d mode (λ k. refl) (λ k. refl) (λ k. refl)
about_gone v e _ = refl
