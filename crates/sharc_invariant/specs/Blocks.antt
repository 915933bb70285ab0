-- Blocks of granules and the lists of freed ones, which are threaded through the length words. Blocks are never split
-- or joined: a block keeps its place and its size from the moment that the top moves over it, and only its state
-- changes.
use Rattle.std.specs.Prelude.{ℕ, suc, ◌+◌, ◌*◌, ◌≡◌, ◌<◌, ◌≤◌, ◌≢◌, ◌⊎◌}
use Rattle.sharc_code.specs.Runs.{put}
use Rattle.sharc_invariant.specs.World.{put2}

-- what a granule is the header of: no block, a live object, a block that a thread builds or takes down, or a freed
-- block on the thread's list of its size, with so many blocks on it from this one on
pub data State : Type 0 where
  Unused : State
  Live : State
  Built : (t : ℕ) → State
  Listed : (t depth : ℕ) → State

-- first: the first heap granule; words: the first word of granule 0
pub record Arena : Type 0 where
  pub first : ℕ
  pub words : ℕ

-- the words and the top are the machine's, heads the threads' own, by thread and size; size, state and deep are the
-- proof's
pub record Heap : Type 0 where
  pub words : ℕ → ℕ
  pub top : ℕ
  pub heads : ℕ → ℕ → ℕ
  pub size : ℕ → ℕ
  pub state : ℕ → State
  pub deep : ℕ → ℕ → ℕ

abbrev pub length_at : Arena → ℕ → ℕ
length_at a h = a.words + 2 * h + 1

-- where a list of this thread and size with so many blocks begins
abbrev pub Begins : (ℕ → ℕ) → (ℕ → State) → (t s depth h : ℕ) → Type 0
Begins size state t s depth h = ((depth ≡ 0) × (h ≡ 0)) ⊎ ((state h ≡ Listed t depth) × (size h ≡ s))

pub record Blocks (a : Arena) (top : ℕ) (size : ℕ → ℕ) (state : ℕ → State) : Type 0 where
  pub some : 1 ≤ a.first
  pub apart : (h p : ℕ) → size h ≢ 0 → size p ≢ 0 → h < p → h + size h ≤ p
  pub within : (h : ℕ) → size h ≢ 0 → (a.first ≤ h) × (h + size h ≤ top)
  pub known : (h : ℕ) → size h ≡ 0 → state h ≡ Unused
  pub low : a.first ≤ top

pub record Lists (a : Arena) (words : ℕ → ℕ) (heads : ℕ → ℕ → ℕ) (size : ℕ → ℕ) (state : ℕ → State)
    (deep : ℕ → ℕ → ℕ) : Type 0 where
  pub head : (t s : ℕ) → Begins size state t s (deep t s) (heads t s)
  pub link : (h t d : ℕ) → state h ≡ Listed t d
      → (e : ℕ) × ((d ≡ suc e) × Begins size state t (size h) e (words (length_at a h)))
  pub low : (h t d : ℕ) → state h ≡ Listed t d → d ≤ deep t (size h)
  pub one : (h p t d : ℕ) → state h ≡ Listed t d → state p ≡ Listed t d → size h ≡ size p → h ≡ p

pub record Kept (a : Arena) (h : Heap) : Type 0 where
  pub blocks : Blocks a h.top h.size h.state
  pub lists : Lists a h.words h.heads h.size h.state h.deep
  -- what was never handed out holds zeros
  pub blank : (at : ℕ) → a.words + 2 * h.top ≤ at → h.words at ≡ 0

-- ---- the turns
-- New from the own list: the link is read, and becomes the head
abbrev pub popped : Arena → Heap → (t s e : ℕ) → Heap
popped a h t s e = record h {
  heads = put2 h.heads t s (h.words (length_at a (h.heads t s)));
  state = put h.state (h.heads t s) (Built t);
  deep = put2 h.deep t s e;
}

-- New from the top: the Cas that succeeds
abbrev pub carved : Heap → (t s : ℕ) → Heap
carved h t s = record h {
  top = h.top + s;
  size = put h.size h.top s;
  state = put h.state h.top (Built t);
}

-- a word is written
abbrev pub stored : Heap → (at v : ℕ) → Heap
stored h at v = record h { words = put h.words at v }

-- the last step of New; and the step of Free that sets the count to 0
abbrev pub restated : Heap → (b : ℕ) → State → Heap
restated h b x = record h { state = put h.state b x }

-- the last step of Free: the length word becomes the link, and the block the head
abbrev pub pushed : Arena → Heap → (t b : ℕ) → Heap
pushed a h t b = record h {
  words = put h.words (length_at a b) (h.heads t (h.size b));
  heads = put2 h.heads t (h.size b) b;
  state = put h.state b (Listed t (suc (h.deep t (h.size b))));
  deep = put2 h.deep t (h.size b) (suc (h.deep t (h.size b)));
}

abbrev pub IsListed : State → Type 0
IsListed (Listed t d) = Unit {0}
IsListed _ = ⊥

-- a word of a block: its count, its length or a cell
abbrev pub InBlock : Arena → Heap → (b at : ℕ) → Type 0
InBlock a h b at = (a.words + 2 * b ≤ at) × (at < a.words + 2 * (b + h.size b))
