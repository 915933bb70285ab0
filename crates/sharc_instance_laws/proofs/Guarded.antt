-- Events of a thread in which each access is to one cell, under one mutex that the thread holds there.
use Rattle.sharc_instance_laws.proofs.Imports.{◌≡◌, ℕ, ℤ, Bool, true, false, List, [], ◌∷◌, ◌++◌, map, None, Some, refl, sym, ap, subst, ◌∙◌, append_assoc, append-nil, ⊎_elim, Option, filter, if◌then◌else◌, ◌==◌, list_any, Act, Started, CellAt, Readonly, Dynamic, SourceEvent, Assignment, Access, Stands, access_by, events_of, held_mutexes, holds_mutex, is_of, locked_by, same_cell, unless_unlocked, asks, AlwaysObeys, IsThere, Obeys, Until, until_gone, Follows, SourceRun, answers_of, by, same}
use Rattle.sharc_tree.specs.{declared.event.CellMode.TheVariants.{Private, Locked}, declared.event.Object.TheVariants.Global}

abbrev pub mutex_cell : CellAt
mutex_cell = record { object = Global 0; cell = 0 }

abbrev pub shared_cell : CellAt
shared_cell = record { object = Global 1; cell = 0 }

-- behind these events of its thread
pub record IsGuarded (own : List SourceEvent) (a : Access) : Type 0 where
  pub cell : a.cell ≡ shared_cell
  pub mode : a.mode ≡ Locked (Some mutex_cell)
  pub held : holds_mutex own mutex_cell ≡ true

abbrev pub IsGuardedIn : List SourceEvent → Option Access → Type 0
IsGuardedIn own None = Unit {0}
IsGuardedIn own (Some a) = IsGuarded own a

-- of each event, behind those before it
abbrev pub AreGuarded : List SourceEvent → List SourceEvent → Type 0
AreGuarded own [] = Unit {0}
AreGuarded own (e ∷ rest) = IsGuardedIn own (access_by e.act) × AreGuarded (own ++ e ∷ []) rest

-- ---- lists
module _ {X : Type 0} where
  keep_if : (b : Bool) (x : X) (xs ys : List X) → (if b then x ∷ (xs ++ ys) else (xs ++ ys)) ≡ (if b then x ∷ xs else xs) ++ ys
  keep_if true x xs ys = refl
  keep_if false x xs ys = refl

  pub filter_parts : (p : X → Bool) (xs ys : List X) → filter p (xs ++ ys) ≡ filter p xs ++ filter p ys
  filter_parts p [] ys = refl
  filter_parts p (x ∷ xs) ys = ap (λ (l : List X). if p x then x ∷ l else l) (filter_parts p xs ys) ∙ keep_if (p x) x (filter p xs) (filter p ys)

  pub filter_first : (p : X → Bool) (x : X) (xs : List X) → p x ≡ true → filter p (x ∷ xs) ≡ x ∷ filter p xs
  filter_first p x xs e = ap (λ (b : Bool). if b then x ∷ filter p xs else filter p xs) e

  heads : (x y : X) (xs ys : List X) → x ∷ xs ≡ y ∷ ys → x ≡ y
  heads x y xs ys e = cc

  tails : (x y : X) (xs ys : List X) → x ∷ xs ≡ y ∷ ys → xs ≡ ys
  tails x y xs ys e = cc

  pub not_empty : (xs : List X) (y : X) (ys : List X) → xs ++ y ∷ ys ≡ [] → ⊥
  not_empty [] y ys e = cc
  not_empty (x ∷ xs) y ys e = cc

-- ---- the access among the events of its thread
guarded_at : (own front : List SourceEvent) (e : SourceEvent) (rest : List SourceEvent) (a : Access) → AreGuarded own (front ++ e ∷ rest) → access_by e.act ≡ Some a → IsGuarded (own ++ front) a
guarded_at own [] e rest a g is = subst (λ (o : List SourceEvent). IsGuarded o a) (sym (append-nil own)) (subst (λ (o : Option Access). IsGuardedIn own o) is g.0)
guarded_at own (x ∷ front) e rest a g is = subst (λ (o : List SourceEvent). IsGuarded o a) (append_assoc own (x ∷ []) front) (guarded_at (own ++ x ∷ []) front e rest a g.1 is)

none_some : (a : Access) → None ≡ Some a → ⊥
none_some a e = cc

not_started : (e : SourceEvent) (a : Access) (argument : ℤ) → e.act ≡ Started argument → access_by e.act ≡ Some a → ⊥
not_started e a argument act access = none_some a (sym (ap (λ (x : Act). access_by x) act) ∙ access)

-- a Started before them changes nothing
behind : (b : SourceEvent) (bs : List SourceEvent) (argument : ℤ) → b.act ≡ Started argument → holds_mutex bs mutex_cell ≡ true → holds_mutex (b ∷ bs) mutex_cell ≡ true
behind b bs argument act held =
    subst (λ (o : Option CellAt). list_any (same_cell mutex_cell) (unless_unlocked bs o (held_mutexes bs)) ≡ true) (sym (ap (λ (x : Act). locked_by x) act)) held

pub of_own : (begins e : SourceEvent) (asked own rest : List SourceEvent) (a : Access) (argument : ℤ) → begins.act ≡ Started argument → AreGuarded [] asked
    → begins ∷ asked ≡ own ++ e ∷ rest → access_by e.act ≡ Some a → IsGuarded own a
of_own begins e asked [] rest a argument act g is access = absurd (not_started e a argument (ap (λ (x : SourceEvent). x.act) (sym (heads begins e asked rest is)) ∙ act) access)
of_own begins e asked (b ∷ bs) rest a argument act g is access =
    let h = guarded_at [] bs e rest a (subst (λ (l : List SourceEvent). AreGuarded [] l) (tails begins b asked (bs ++ e ∷ rest) is) g) access in
    record {
      cell = h.cell;
      mode = h.mode;
      held = behind b bs argument (ap (λ (x : SourceEvent). x.act) (sym (heads begins b asked (bs ++ e ∷ rest) is)) ∙ act) h.held;
    }

named_so : (e : SourceEvent) (thread : ℕ) → e.thread ≡ thread → is_of thread e ≡ true
named_so e thread is = ap (λ (n : ℕ). n == thread) is ∙ same thread

-- ---- a program of which each thread asks for such events alone
module _ (m : Assignment) (all : (thread f : ℕ) (v : ℤ) (answers : List ℤ) (fuel : ℕ) → AreGuarded [] (map (by thread) (asks m f v answers fuel).events)) where
  module _ (R : List SourceEvent) (run : SourceRun m R) where
    own_events : (before : List SourceEvent) (e : SourceEvent) (after : List SourceEvent) (thread : ℕ) → Stands R before e after → e.thread ≡ thread
        → events_of thread R ≡ events_of thread before ++ e ∷ events_of thread after
    own_events before e after thread stands is =
        ap (events_of thread) stands ∙ filter_parts (is_of thread) before (e ∷ after)
        ∙ ap (λ (l : List SourceEvent). events_of thread before ++ l) (filter_first (is_of thread) e after (named_so e thread is))

    started : (fuel thread : ℕ) (f : Follows m R fuel thread) → events_of thread R ≡ f.begins ∷ events_of thread f.after
    started fuel thread f =
        own_events f.before f.begins f.after thread f.stands f.own
        ∙ ap (λ (l : List SourceEvent). l ++ f.begins ∷ events_of thread f.after) f.first

    follows : (before : List SourceEvent) (e : SourceEvent) (after : List SourceEvent) (a : Access) → Stands R before e after → access_by e.act ≡ Some a
        → (fuel : ℕ) → Follows m R fuel e.thread → IsGuarded (events_of e.thread before) a
    follows before e after a stands access fuel f =
        of_own f.begins e (events_of e.thread f.after) (events_of e.thread before) (events_of e.thread after) a f.argument f.act
        (subst (λ (l : List SourceEvent). AreGuarded [] l) f.asked (all e.thread f.function f.argument (answers_of (events_of e.thread f.after)) fuel))
        (sym (started fuel e.thread f) ∙ own_events before e after e.thread stands refl) access

    guarded : (before : List SourceEvent) (e : SourceEvent) (after : List SourceEvent) (a : Access) → Stands R before e after → access_by e.act ≡ Some a
        → IsGuarded (events_of e.thread before) a
    guarded before e after a stands access = ⊎_elim
        (λ (nothing : events_of e.thread R ≡ []). absurd (not_empty (events_of e.thread before) e (events_of e.thread after) (sym (own_events before e after e.thread stands refl) ∙ nothing)))
        (λ (f : (fuel : ℕ) × Follows m R fuel e.thread). follows before e after a stands access f.0 f.1)
        (run.threads e.thread)

    not_private : (c : CellAt) → Locked (Some c) ≡ Private → ⊥
    not_private c e = cc

    not_readonly : (c : CellAt) → Locked (Some c) ≡ Readonly → ⊥
    not_readonly c e = cc

    not_dynamic : (c : CellAt) → Locked (Some c) ≡ Dynamic → ⊥
    not_dynamic c e = cc

    same_mutex : (c d : CellAt) → Locked (Some c) ≡ Locked (Some d) → c ≡ d
    same_mutex c d e = cc

    obeys : (until : Until) → Obeys R until
    obeys until = record {
      live = λ before e after a stands access. subst (λ (c : CellAt). IsThere before c.object) (sym (guarded before e after a stands access).cell) tt;
      one_mode = λ before d between e after a b is first second cell unbroken.
          (guarded before d (between ++ e ∷ after) a is first).mode
          ∙ sym (guarded (before ++ d ∷ between) e after b (is ∙ sym (append_assoc before (d ∷ between) (e ∷ after))) second).mode;
      owner = λ before e after a stands access mode. absurd (not_private mutex_cell (sym (guarded before e after a stands access).mode ∙ mode));
      unwritten = λ before e after a stands access mode. absurd (not_readonly mutex_cell (sym (guarded before e after a stands access).mode ∙ mode));
      under_lock = λ before e after a mutex stands access mode.
          let g = guarded before e after a stands access in
          subst (λ (c : CellAt). holds_mutex (events_of e.thread before) c ≡ true) (same_mutex mutex_cell mutex (sym g.mode ∙ mode)) g.held;
      shared = λ earlier later o granule d e a b is first second apart.
          let stands : Stands R first.before d (first.after ++ later) = is ∙ ap (λ (l : List SourceEvent). l ++ later) first.stands ∙ append_assoc first.before (d ∷ first.after) later in
          absurd (not_dynamic mutex_cell (sym (guarded first.before d (first.after ++ later) a stands first.access).mode ∙ first.is_dynamic));
    }

  pub always_obeys : AlwaysObeys m
  always_obeys R run = obeys R run until_gone
