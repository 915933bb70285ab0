-- Accesses of a cell since its object was made or given, by a history with its newest event first.
use Rattle.sharc_history_laws.proofs.{Imports.{◌≡◌, false, ◌||◌, [], ◌∷◌, ◌++◌, reverse, refl, sym, ap, ◌∙◌, subst, ◌⊎◌, inl, inr, list_any, SourceEvent, CellAt, CellMode, Access, begins, frees, History, IsAccess, UnderOneMode}, Lists.{Newest, Each, OfAccess, Split, Last, Earlier, split}, Sets.any_append, Broken.append_assoc}

pub record IsTo (e : SourceEvent) (c : CellAt) (mode : CellMode) : Type 0 where
  pub access : Access
  pub is : IsAccess e access
  pub cell : access.cell ≡ c
  pub mode_is : access.mode ≡ mode

-- an access of the cell under this mode, behind which its object was neither made nor given nor freed
abbrev pub Since : Newest → CellAt → CellMode → Type 0
Since [] c mode = ⊥
Since (e ∷ L) c mode = IsTo e c mode ⊎ (((begins c.object e || frees c.object e) ≡ false) × Since L c mode)

since_split : (L : Newest) (before : History) (d : SourceEvent) (between : History) (a : Access) → reverse L ≡ before ++ d ∷ between → IsAccess d a → list_any (λ x. begins a.cell.object x || frees a.cell.object x) between ≡ false → Since L a.cell a.mode
since_split [] before d between a q is none = nothing before q
  where
    nothing : (before : History) → [] ≡ before ++ d ∷ between → ⊥
    nothing [] q = cc
    nothing (b ∷ bs) q = cc
since_split (e ∷ L) before d between a q is none = by (λ rest r n. since_split L before d rest a r is n) (split e L before d between q)
  where
    by : ((rest : History) → reverse L ≡ before ++ d ∷ rest → list_any (λ x. begins a.cell.object x || frees a.cell.object x) rest ≡ false → Since L a.cell a.mode) → Split e L before d between → Since (e ∷ L) a.cell a.mode
    by back (Last b same n) = inl (record { access = a; is = subst (λ (d : SourceEvent). IsAccess d a) same is; cell = refl; mode_is = refl })
    by back (Earlier rest after stands) =
        let k = any_append (λ x. begins a.cell.object x || frees a.cell.object x) rest e (ap (list_any (λ x. begins a.cell.object x || frees a.cell.object x)) (sym after) ∙ none) in
        inr (k.1, back rest stands k.0)

-- each access is under the mode of those of its cell since then
abbrev pub AsBefore : History → SourceEvent → Access → Type 0
AsBefore before e b = (first : History) (d : SourceEvent) (between : History) (a : Access) → before ≡ first ++ d ∷ between → IsAccess d a → a.cell ≡ b.cell
    → list_any (λ x. begins a.cell.object x || frees a.cell.object x) between ≡ false → a.mode ≡ b.mode

pub as_before : (L : Newest) (e : SourceEvent) (b : Access) → ((mode : CellMode) → Since L b.cell mode → mode ≡ b.mode) → AsBefore (reverse L) e b
as_before L e b h first d between a q is same none = h a.mode (subst (λ c. Since L c a.mode) same (since_split L first d between a q is none))

pub one_mode : (R : History) → Each (OfAccess AsBefore) R → UnderOneMode R
one_mode R h before d between e after a b q is_a is_b same none =
    h (before ++ d ∷ between) e after (q ∙ sym (append_assoc before (d ∷ between) (e ∷ after))) b is_b before d between a refl is_a same none
