-- Calls, returns and new threads, each by itself.
use Rattle.sharc_typed_laws.proofs.{Imports.{◌≡◌, ◌≢◌, ℕ, ◌+◌, ◌<◌, ◌≤◌, true, false, List, length, refl, Some, none-some, filter, Register, Char, Op, Spot, Lock, Global, Through, Self, Entry, Empty, Refers, Unknown, Within, Closed, Pass, IsIn, Label, Less, SameReference, LessNumber, LessEntry, EntryMentions, set_number, empty, without_base, Passes, PassesLock, Hands, ints_in, refs_in, handed_label, called_label, below_pass, with_passes, Mark, Setting, labels_by, Fits, IsLine, never}, TypedAlike.{all_same, same_reference, less_entry}, Preorder.less_through, Rules.with_less, Accesses.InFrame}

-- ---- what is passed, with checks that are remembered
module _ (l : Label) (ps : List Pass) where
  abbrev k : Label
  k = with_passes l ps

  same_too : (p q : ℕ) → SameReference l p q → SameReference k p q
  same_too = same_reference l l.known l.gate ps

  passes_lock_too : (base a : ℕ) (s t : Lock) → PassesLock l base a s t → PassesLock k base a s t
  passes_lock_too base a (Global i) (Global j) h = h
  passes_lock_too base a (Through y i) (Through q j) h = (h.0, same_too y (base + q) h.1)
  passes_lock_too base a (Self i) (Through q j) h = (h.0, same_too a (base + q) h.1)
  passes_lock_too base a (Through y i) (Self j) h = (h.0, same_too y a h.1)
  passes_lock_too base a (Self i) (Self j) h = h
  passes_lock_too base a _ _ h = absurd h

  pub passes_too : (base a : ℕ) (given want : Entry) → Passes l base a given want → Passes k base a given want
  passes_too base a given Empty h = h
  passes_too base a Empty (Refers t) h = h
  passes_too base a (Refers s) (Refers t) h = (h.0, all_same (PassesLock l base a) (PassesLock k base a) (passes_lock_too base a) s.locks t.locks h.1)
  passes_too base a Unknown (Refers t) h = absurd h
  passes_too base a given Unknown h = h

-- what a function asks of its callers
pub record CallFits (around : Setting) (l : Label) (ints refs g : ℕ) : Type 0 where
  pub is : g < length around.code.functions.items
  pub caller : (f : ℕ) × (l.function ≡ Some f) × ((around.signature g).alone ≡ true → (around.signature f).alone ≡ true)
  pub from : refs ≤ refs_in around.code l.function
  pub from_int : ints ≤ ints_in around.code l.function
  pub passes : (p : ℕ) → Passes l refs (refs + p) (l.env (refs + p)) ((around.signature g).takes p)
  pub numbers : (i : ℕ) → LessNumber (l.ints (ints + i)) ((around.signature g).takes_ints i)
  pub stays : (r q : ℕ) → r < refs → EntryMentions (l.env r) q → q < refs

module _ (around : Setting) (f : ℕ) (table : ℕ → Mark) (pc : ℕ) (s : Mark) (here : InFrame around f s) where
  abbrev l : Label
  l = s.label

  pub on_return : (spot : Spot) → l.gate ≡ Closed → LessEntry l 0 (l.env 0) (around.signature f).result → LessNumber (l.ints 0) (around.signature f).result_int → ((r : ℕ) → r ≢ 0 → l.env r ≡ Empty) → IsLine around f table pc s (Op.Return spot)
  on_return spot closed result number others = record {
    owned = here.owned;
    scoped = here.scoped;
    typed = λ dropped passes repeats jumps on. (closed, (f, here.owned, record { result = less_entry l l.known l.gate (passes pc) 0 (l.env 0) (around.signature f).result result; result_int = number; empty = others }));
    cells = λ a z. absurd (none-some a z);
    tells = λ z. never z;
  }

  module _ (e : Mark) (next : Fits around.targets e (table (pc + 1))) where
    abbrev t : Label
    t = (table (pc + 1)).label

    last : (a : Label) (ps qs : List Pass) → Less a e.label → ((p : Pass) → IsIn p qs → ⊥) → Less (with_passes a ps) (with_passes t qs)
    last a ps qs h sub = with_less a t ps qs (less_through a e.label t h next.less) (λ p k. absurd (sub p k))

    pub on_call : (g ints refs : ℕ) (spot : Spot) → l.gate ≡ Closed → CallFits around l ints refs g → Less (called_label (labels_by around table) l g ints refs) e.label → IsLine around f table pc s (Op.Call g ints refs spot)
    on_call g ints refs spot closed h less = record {
      owned = here.owned;
      scoped = here.scoped;
      typed = λ dropped passes repeats jumps on. (
        closed,
        (
          g,
          record {
            is = h.is;
            entry = refl;
            caller = h.caller;
            from = h.from;
            from_int = h.from_int;
            passes = λ p. passes_too l (passes pc) refs (refs + p) (l.env (refs + p)) ((around.signature g).takes p) (h.passes p);
            numbers = h.numbers;
            stays = h.stays;
          },
          last (called_label (labels_by around table) l g ints refs) (filter (λ p. below_pass refs p.base) (passes pc)) (passes (pc + 1)) less (λ p k. on p k),
        ),
      );
      cells = λ a z. absurd (none-some a z);
      tells = λ z. never z;
    }

    pub on_spawn : (i g : ℕ) (from : Register) (spot : Spot) → l.gate ≡ Closed → i < ints_in around.code l.function → g < length around.code.functions.items → around.starts g ≡ true → (around.signature g).alone ≡ false
        → ((ps : List Pass) → Hands around.targets around.code (labels_by around table) (with_passes l ps) g from) → Less (set_number (handed_label l from) i (Within Char)) e.label → IsLine around f table pc s (Op.Spawn i g from spot)
    on_spawn i g (Register.Int j) spot closed int is starts shared hands less = record {
      owned = here.owned;
      scoped = here.scoped;
      typed = λ dropped passes repeats jumps on. (closed, int, is, starts, shared, hands (passes pc), last (set_number l i (Within Char)) (passes pc) (passes (pc + 1)) less (λ p k. on p k));
      cells = λ a z. absurd (none-some a z);
      tells = λ z. never z;
    }
    on_spawn i g (Register.Reference r) spot closed int is starts shared hands less = record {
      owned = here.owned;
      scoped = here.scoped;
      typed = λ dropped passes repeats jumps on. (closed, int, is, starts, shared, hands (passes pc), last (set_number (empty l r) i (Within Char)) (without_base r (passes pc)) (passes (pc + 1)) less (λ p k. on p k));
      cells = λ a z. absurd (none-some a z);
      tells = λ z. never z;
    }
