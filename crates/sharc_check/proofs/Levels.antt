-- Levels above private targets, there and back.
use Rattle.sharc_check.proofs.Imports.{◌≡◌, ◌⊎◌, inl, inr, ⊎_elim, ℕ, zero, suc, ◌+◌, ◌<◌, Bool, true, false, not, ◌&&◌, List, [], ◌∷◌, ◌++◌, map, take, drop, slice_get, refl, ap, sym, ◌∙◌, arith, Option, Some, None, false≢true, true≢false, or_cases, and_parts, or_right, or_left, option_or, Mode, Private, Readonly, Locked, Racy, Dynamic, Role, Numbered, positions_of, top_of, Assignment, top_levels, position_levels, levels_of, is_private_mode, begins_private, holds_private, IsEntity, NoneAbovePrivate, same_some, none_some, not_above}

-- ---- places in lists

get_drop : {A : Type 0} (k : ℕ) (list : List A) (i : ℕ) → slice_get (drop k list) i ≡ slice_get list (k + i)
get_drop zero list i = let e : i ≡ 0 + i = omega arith in ap (slice_get list) e
get_drop (suc k) [] i = refl
get_drop (suc k) (x ∷ list) i = let e : suc (k + i) ≡ suc k + i = omega arith in get_drop k list i ∙ ap (slice_get (x ∷ list)) e

get_take : {A : Type 0} (c : ℕ) (list : List A) (i : ℕ) → i < c → slice_get (take c list) i ≡ slice_get list i
get_take zero list i low = absurd (omega (arith, low))
get_take (suc c) [] i low = refl
get_take (suc c) (x ∷ list) zero low = refl
get_take (suc c) (x ∷ list) (suc i) low = get_take c list i (omega (arith, low))

take_within : {A : Type 0} (c : ℕ) (list : List A) (i : ℕ) (x : A) → slice_get (take c list) i ≡ Some x → i < c
take_within zero list i x is = absurd (none_some x is)
take_within (suc c) [] i x is = absurd (none_some x is)
take_within (suc c) (y ∷ list) zero x is = omega arith
take_within (suc c) (y ∷ list) (suc i) x is = let low = take_within c list i x is in omega (arith, low)

known_at : (list : List Mode) (i : ℕ) (x : Mode) → slice_get list i ≡ Some x → slice_get (map (λ mode. Some mode) list) i ≡ Some (Some x)
known_at [] i x is = absurd (none_some x is)
known_at (y ∷ list) zero x is = ap Some is
known_at (y ∷ list) (suc i) x is = known_at list i x is

at_known : (list : List Mode) (i : ℕ) (x : Mode) → slice_get (map (λ mode. Some mode) list) i ≡ Some (Some x) → slice_get list i ≡ Some x
at_known [] i x is = absurd (none_some (Some x) is)
at_known (y ∷ list) zero x is = same_some (Some y) (Some x) is
at_known (y ∷ list) (suc i) x is = at_known list i x is

position_at : (m : Assignment) (n : Numbered) (i : ℕ) (x : Mode) → i < positions_of n.entity → slice_get m.modes (n.first + i) ≡ Some x → slice_get (position_levels m n) i ≡ Some (Some x)
position_at m n i x low is = known_at (take (positions_of n.entity) (drop n.first m.modes)) i x (get_take (positions_of n.entity) (drop n.first m.modes) i low ∙ get_drop n.first m.modes i ∙ is)

at_position : (m : Assignment) (n : Numbered) (i : ℕ) (x : Mode) → slice_get (position_levels m n) i ≡ Some (Some x) → (i < positions_of n.entity) × (slice_get m.modes (n.first + i) ≡ Some x)
at_position m n i x is =
    let taken = at_known (take (positions_of n.entity) (drop n.first m.modes)) i x is in
    let low = take_within (positions_of n.entity) (drop n.first m.modes) i x taken in
    (low, sym (get_drop n.first m.modes i) ∙ sym (get_take (positions_of n.entity) (drop n.first m.modes) i low) ∙ taken)

-- ---- modes

pub private_is : (mode : Mode) → is_private_mode mode ≡ true → mode ≡ Private
private_is Private h = refl
private_is _ h = absurd (false≢true h)

-- what leads to nothing where it is not private is
pub private_else : (mode : Mode) (b : Bool) → is_private_mode mode ≡ b → (is_private_mode mode ≡ false → ⊥) → mode ≡ Private
private_else mode true is h = private_is mode is
private_else mode false is h = absurd (h is)

not_private : (mode : Mode) → mode ≡ Private → is_private_mode mode ≡ false → ⊥
not_private mode is h = true≢false (sym (ap is_private_mode is) ∙ h)

begins_by : (list : List (Option Mode)) → slice_get list 0 ≡ Some (Some Private) → begins_private list ≡ true
begins_by [] is = absurd (none_some (Some Private) is)
begins_by (None ∷ below) is = absurd (none_some Private (same_some None (Some Private) is))
begins_by (Some x ∷ below) is = ap is_private_mode (same_some x Private (same_some (Some x) (Some Private) is))

begun_by : (list : List (Option Mode)) → begins_private list ≡ true → slice_get list 0 ≡ Some (Some Private)
begun_by (Some x ∷ below) h = ap (λ y. Some (Some y)) (private_is x h)
begun_by _ h = absurd (false≢true h)

above_by : (a b : Bool) → a ≡ false → b ≡ true → (not a && b) ≡ true
above_by true b is h = absurd (true≢false is)
above_by false b is h = h

-- ---- levels

pub record Breaks (list : List (Option Mode)) : Type 0 where
  pub depth : ℕ
  pub mode : Mode
  pub at : slice_get list depth ≡ Some (Some mode)
  pub shared : is_private_mode mode ≡ false
  pub below : slice_get list (suc depth) ≡ Some (Some Private)

holds_at : (list : List (Option Mode)) (k : ℕ) (x : Mode) → slice_get list k ≡ Some (Some x) → is_private_mode x ≡ false → slice_get list (suc k) ≡ Some (Some Private) → holds_private list ≡ true
holds_at [] k x at s below = absurd (none_some (Some x) at)
holds_at (None ∷ list) zero x at s below = absurd (none_some x (same_some None (Some x) at))
holds_at (None ∷ list) (suc k) x at s below = holds_at list k x at s below
holds_at (Some y ∷ list) zero x at s below =
    or_left (not (is_private_mode y) && begins_private list) (holds_private list) (above_by (is_private_mode y) (begins_private list) (ap is_private_mode (same_some y x (same_some (Some y) (Some x) at)) ∙ s) (begins_by list below))
holds_at (Some y ∷ list) (suc k) x at s below = or_right (not (is_private_mode y) && begins_private list) (holds_private list) (holds_at list k x at s below)

next_break : (y : Option Mode) (list : List (Option Mode)) → Breaks list → Breaks (y ∷ list)
next_break y list b = record { depth = suc b.depth; mode = b.mode; at = b.at; shared = b.shared; below = b.below }

first_break : (y : Mode) (list : List (Option Mode)) → (not (is_private_mode y) && begins_private list) ≡ true → Breaks (Some y ∷ list)
first_break y list h =
    let parts = and_parts (not (is_private_mode y)) (begins_private list) h in
    record { depth = zero; mode = y; at = refl; shared = not_above (is_private_mode y) parts.0; below = begun_by list parts.1 }

held_at : (list : List (Option Mode)) → holds_private list ≡ true → Breaks list
held_at [] h = absurd (false≢true h)
held_at (None ∷ list) h = next_break None list (held_at list h)
held_at (Some y ∷ list) h = ⊎_elim (λ here. first_break y list here) (λ later. next_break (Some y) list (held_at list later)) (or_cases (not (is_private_mode y) && begins_private list) (holds_private list) h)

holds_later : (y : Option Mode) (list : List (Option Mode)) → holds_private list ≡ true → holds_private (y ∷ list) ≡ true
holds_later None list h = h
holds_later (Some m) list h = or_right (not (is_private_mode m) && begins_private list) (holds_private list) h

holds_top : (y : Option Mode) (list : List (Option Mode)) (x : Mode) → y ≡ Some x → is_private_mode x ≡ false → slice_get list 0 ≡ Some (Some Private) → holds_private (y ∷ list) ≡ true
holds_top y list x is s below = holds_at (y ∷ list) zero x (ap Some is) s below

-- the top of what is no global
pub record BreaksTop (what : Role) (levels ps : List (Option Mode)) : Type 0 where
  pub not_global : what ≡ Role.Global → ⊥
  pub mode : Mode
  pub top : top_of levels ≡ Some mode
  pub shared : is_private_mode mode ≡ false
  pub below : slice_get ps 0 ≡ Some (Some Private)

abbrev is_global : Role → Bool
is_global Role.Global = true
is_global _ = false

not_global : (what : Role) → is_global what ≡ false → what ≡ Role.Global → ⊥
not_global what other is = true≢false (sym (ap is_global is) ∙ other)

or_private : (o : Option Mode) (x : Mode) → option_or o (Some Private) ≡ Some x → is_private_mode x ≡ false → o ≡ Some x
or_private None x is s = absurd (not_private x (sym (same_some Private x is)) s)
or_private (Some y) x is s = is

private_or : (o : Option Mode) (x : Mode) → o ≡ Some x → option_or o (Some Private) ≡ Some x
private_or o x is = ap (λ z. option_or z (Some Private)) is

topped : (what : Role) (levels : List (Option Mode)) (y : Option Mode) (ps : List (Option Mode)) → is_global what ≡ false → ((x : Mode) → y ≡ Some x → is_private_mode x ≡ false → top_of levels ≡ Some x) → holds_private (y ∷ ps) ≡ true
    → (holds_private ps ≡ true) ⊎ BreaksTop what levels ps
topped what levels None ps other back h = inl h
topped what levels (Some x) ps other back h =
    ⊎_elim
    (λ here. let parts = and_parts (not (is_private_mode x)) (begins_private ps) here in
    let shared = not_above (is_private_mode x) parts.0 in
    inr record { not_global = not_global what other; mode = x; top = back x refl shared; shared = shared; below = begun_by ps parts.1 })
    (λ later. inl later)
    (or_cases (not (is_private_mode x) && begins_private ps) (holds_private ps) h)

levels_to : (what : Role) (levels ps : List (Option Mode)) → holds_private (top_levels what levels ++ ps) ≡ true → (holds_private ps ≡ true) ⊎ BreaksTop what levels ps
levels_to Role.Global levels ps h = inl h
levels_to Role.Field levels ps h = topped Role.Field levels (top_of levels) ps refl (λ x is s. is) h
levels_to Role.Local levels ps h = topped Role.Local levels (option_or (top_of levels) (Some Private)) ps refl (or_private (top_of levels)) h
levels_to Role.Parameter levels ps h = topped Role.Parameter levels (option_or (top_of levels) (Some Private)) ps refl (or_private (top_of levels)) h
levels_to Role.Result levels ps h = topped Role.Result levels (top_of levels) ps refl (λ x is s. is) h
levels_to Role.Cast levels ps h = topped Role.Cast levels (top_of levels) ps refl (λ x is s. is) h
levels_to Role.Made levels ps h = topped Role.Made levels (top_of levels) ps refl (λ x is s. is) h

levels_from : (what : Role) (levels ps : List (Option Mode)) → holds_private ps ≡ true → holds_private (top_levels what levels ++ ps) ≡ true
levels_from Role.Global levels ps h = h
levels_from Role.Local levels ps h = holds_later (option_or (top_of levels) (Some Private)) ps h
levels_from Role.Parameter levels ps h = holds_later (option_or (top_of levels) (Some Private)) ps h
levels_from _ levels ps h = holds_later (top_of levels) ps h

levels_by : (what : Role) (levels ps : List (Option Mode)) (x : Mode) → (what ≡ Role.Global → ⊥) → top_of levels ≡ Some x → is_private_mode x ≡ false → slice_get ps 0 ≡ Some (Some Private) → holds_private (top_levels what levels ++ ps) ≡ true
levels_by Role.Global levels ps x other is s below = absurd (other refl)
levels_by Role.Local levels ps x other is s below = holds_top (option_or (top_of levels) (Some Private)) ps x (private_or (top_of levels) x is) s below
levels_by Role.Parameter levels ps x other is s below = holds_top (option_or (top_of levels) (Some Private)) ps x (private_or (top_of levels) x is) s below
levels_by _ levels ps x other is s below = holds_top (top_of levels) ps x is s below

top_written : (levels : List (Option Mode)) (x : Mode) → slice_get levels 0 ≡ Some (Some x) → top_of levels ≡ Some x
top_written [] x is = absurd (none_some (Some x) is)
top_written (y ∷ levels) x is = same_some y (Some x) is

written_top : (levels : List (Option Mode)) (x : Mode) → top_of levels ≡ Some x → slice_get levels 0 ≡ Some (Some x)
written_top [] x is = absurd (none_some x is)
written_top (y ∷ levels) x is = ap Some is

-- ---- the rule

pub above_none : (m : Assignment) → ((n : Numbered) → IsEntity m n → holds_private (levels_of m n) ≡ true → ⊥) → NoneAbovePrivate m
above_none m h = record {
  positions = λ x y mode b at below.
      let n = b.of in
      let inside = b.inside in
      let here : b.depth < positions_of n.entity = omega (arith, inside) in
      let next : suc b.depth < positions_of n.entity = omega (arith, inside) in
      let second = b.second in
      let lower : y ≡ n.first + suc b.depth = omega (arith, second) in
      private_else mode (is_private_mode mode) refl (λ shared. h n b.stands (levels_from n.entity.role n.entity.written.ctype.levels (position_levels m n)
      (holds_at (position_levels m n) b.depth mode (position_at m n b.depth mode here (ap (slice_get m.modes) (sym b.first) ∙ at)) shared (position_at m n (suc b.depth) Private next (ap (slice_get m.modes) (sym lower) ∙ below)))));
  tops = λ n mode at not_a_global top some below.
      let same : n.first + 0 ≡ n.first = omega arith in
      private_else mode (is_private_mode mode) refl (λ shared. h n at (levels_by n.entity.role n.entity.written.ctype.levels (position_levels m n) mode not_a_global (top_written n.entity.written.ctype.levels mode top) shared
      (position_at m n 0 Private some (ap (slice_get m.modes) same ∙ below))));
}

pub none_above : (m : Assignment) → NoneAbovePrivate m → (n : Numbered) → IsEntity m n → holds_private (levels_of m n) ≡ true → ⊥
none_above m rule n at h =
    ⊎_elim
    (λ lower.
    let b = held_at (position_levels m n) lower in
    let here = at_position m n b.depth b.mode b.at in
    let next = at_position m n (suc b.depth) Private b.below in
    let low = next.0 in
    let inside : b.depth + 1 < positions_of n.entity = omega (arith, low) in
    let second : n.first + suc b.depth ≡ n.first + b.depth + 1 = omega arith in
    not_private b.mode (rule.positions (n.first + b.depth) (n.first + suc b.depth) b.mode record { of = n; stands = at; depth = b.depth; inside = inside; first = refl; second = second } here.1 next.1) b.shared)
    (λ b.
    let next = at_position m n 0 Private b.below in
    let same : n.first ≡ n.first + 0 = omega arith in
    not_private b.mode (rule.tops n b.mode at b.not_global (written_top n.entity.written.ctype.levels b.mode b.top) next.0 (ap (slice_get m.modes) same ∙ next.1)) b.shared)
    (levels_to n.entity.role n.entity.written.ctype.levels (position_levels m n) h)
