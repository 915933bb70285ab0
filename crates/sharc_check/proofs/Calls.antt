-- Arguments that the paths of parameters' types need, there and back.
use Rattle.sharc_check.proofs.{Imports.{◌≡◌, ⊎_elim, ℕ, List, [], ◌∷◌, refl, ap, sym, ◌∙◌, subst, Option, Some, None, Contains, Mode, Private, Readonly, Locked, Racy, Dynamic, Path, Declaration, Arguments, Resolution, Assignment, unmet_by, unmet_for, unmet, unmet_in, unmet_level, unmet_written, unmet_parameter, first_unmet, written, argument_use, path_variable, declared_row, modes_of, Lock, Sharing, private, readonly, locked, racy, dynamic, lock_of, HasPath, at_target, at_level, same_some, none_some, head_there, head_or_tail, tail_there, none_there}, Options.{or_none, none_or, none_of}}

module _ (r : Resolution) (ds : List Declaration) (all : Arguments) where
  -- what the path needs is there
  abbrev pub Met : Lock → Type 0
  Met l = (x : ℕ) → path_variable r l ≡ Some x → (y : ℕ) × (argument_use r ds all x ≡ Some y)

  by_none : (l : Lock) (q : Option ℕ) → unmet_by q l ≡ None → (y : ℕ) × (q ≡ Some y)
  by_none l None h = absurd (none_some l (sym h))
  by_none l (Some y) h = (y, refl)

  none_by : (l : Lock) (q : Option ℕ) → (y : ℕ) × (q ≡ Some y) → unmet_by q l ≡ None
  none_by l None h = absurd (none_some h.0 h.1)
  none_by l (Some y) h = refl

  for_none : (l : Lock) (o : Option ℕ) → unmet_for r ds all o l ≡ None → (x : ℕ) → o ≡ Some x → (y : ℕ) × (argument_use r ds all x ≡ Some y)
  for_none l None h x is = absurd (none_some x is)
  for_none l (Some z) h x is = by_none l (argument_use r ds all x) (ap (λ k. unmet_by (argument_use r ds all k) l) (sym (same_some z x is)) ∙ h)

  none_for : (l : Lock) (o : Option ℕ) → ((x : ℕ) → o ≡ Some x → (y : ℕ) × (argument_use r ds all x ≡ Some y)) → unmet_for r ds all o l ≡ None
  none_for l None h = refl
  none_for l (Some z) h = none_by l (argument_use r ds all z) (h z refl)

  mode_none : (s : Sharing) (l : Lock) → unmet r ds all s ≡ None → s ≡ locked l → Met l
  mode_none s l h is = for_none l (path_variable r l) (ap (unmet r ds all) (sym is) ∙ h)

  none_mode : (s : Sharing) → ((l : Lock) → s ≡ locked l → Met l) → unmet r ds all s ≡ None
  none_mode (locked l) h = none_for l (path_variable r l) (h l refl)
  none_mode _ h = refl

  in_none : (modes : List Sharing) (l : Lock) → unmet_in r ds all modes ≡ None → Contains modes (locked l) → Met l
  in_none [] l h has = absurd (none_there (locked l) has)
  in_none (s ∷ below) l h has =
      ⊎_elim (λ is. mode_none s l (or_none (unmet_in r ds all below) (unmet r ds all s) h).1 is) (λ later. in_none below l (or_none (unmet_in r ds all below) (unmet r ds all s) h).0 later) (head_or_tail s (locked l) below has)

  none_in : (modes : List Sharing) → ((l : Lock) → Contains modes (locked l) → Met l) → unmet_in r ds all modes ≡ None
  none_in [] h = refl
  none_in (s ∷ below) h =
      none_or (unmet_in r ds all below) (unmet r ds all s) (none_in below (λ l has. h l (tail_there s (locked l) below has)))
      (none_mode s (λ l is. h l (subst (λ z. Contains (s ∷ below) z) is (head_there s below))))

  level_none : (level : Option Mode) (path : Path) → unmet_level r ds all level ≡ None → level ≡ Some (Locked path) → Met (lock_of path)
  level_none level path h is = for_none (lock_of path) (path_variable r (lock_of path)) (ap (unmet_level r ds all) (sym is) ∙ h)

  none_level : (level : Option Mode) → ((path : Path) → level ≡ Some (Locked path) → Met (lock_of path)) → unmet_level r ds all level ≡ None
  none_level (Some (Locked path)) h = none_for (lock_of path) (path_variable r (lock_of path)) (h path refl)
  none_level _ h = refl

  written_none : (levels : List (Option Mode)) (path : Path) → unmet_written r ds all levels ≡ None → Contains levels (Some (Locked path)) → Met (lock_of path)
  written_none [] path h has = absurd (none_there (Some (Locked path)) has)
  written_none (level ∷ below) path h has =
      ⊎_elim (λ is. level_none level path (or_none (unmet_written r ds all below) (unmet_level r ds all level) h).1 is) (λ later. written_none below path (or_none (unmet_written r ds all below) (unmet_level r ds all level) h).0 later)
      (head_or_tail level (Some (Locked path)) below has)

  none_written : (levels : List (Option Mode)) → ((path : Path) → Contains levels (Some (Locked path)) → Met (lock_of path)) → unmet_written r ds all levels ≡ None
  none_written [] h = refl
  none_written (level ∷ below) h =
      none_or (unmet_written r ds all below) (unmet_level r ds all level) (none_written below (λ path has. h path (tail_there level (Some (Locked path)) below has)))
      (none_level level (λ path is. h path (subst (λ z. Contains (level ∷ below) z) is (head_there level below))))

module _ (m : Assignment) (ds : List Declaration) (all : Arguments) where
  parameter_none : (d : Declaration) (l : Lock) → unmet_parameter m ds all d ≡ None → HasPath m written d l → Met m.typed ds all l
  parameter_none d _ h (at_target {l = l} has) =
      in_none m.typed ds all (modes_of m (declared_row m.typed written d.name.site.token)) l (or_none (unmet_written m.typed ds all d.written.ctype.levels) (unmet_in m.typed ds all (modes_of m (declared_row m.typed written d.name.site.token))) h).1 has
  parameter_none d _ h (at_level {path = path} has) =
      written_none m.typed ds all d.written.ctype.levels path (or_none (unmet_written m.typed ds all d.written.ctype.levels) (unmet_in m.typed ds all (modes_of m (declared_row m.typed written d.name.site.token))) h).0 has

  none_parameter : (d : Declaration) → ((l : Lock) → HasPath m written d l → Met m.typed ds all l) → unmet_parameter m ds all d ≡ None
  none_parameter d h =
      none_or (unmet_written m.typed ds all d.written.ctype.levels) (unmet_in m.typed ds all (modes_of m (declared_row m.typed written d.name.site.token)))
      (none_written m.typed ds all d.written.ctype.levels (λ path has. h (lock_of path) (at_level has)))
      (none_in m.typed ds all (modes_of m (declared_row m.typed written d.name.site.token)) (λ l has. h l (at_target has)))

  all_none : (rest : List Declaration) (d : Declaration) (l : Lock) → first_unmet m ds all rest ≡ None → Contains rest d → HasPath m written d l → Met m.typed ds all l
  all_none [] d l h has path = absurd (none_there d has)
  all_none (y ∷ rest) d l h has path =
      ⊎_elim
      (λ is. parameter_none d l (ap (unmet_parameter m ds all) (sym is) ∙ (or_none (unmet_parameter m ds all y) (first_unmet m ds all rest) h).0) path)
      (λ later. all_none rest d l (or_none (unmet_parameter m ds all y) (first_unmet m ds all rest) h).1 later path)
      (head_or_tail y d rest has)

  none_all : (rest : List Declaration) → ((d : Declaration) (l : Lock) → Contains rest d → HasPath m written d l → Met m.typed ds all l) → first_unmet m ds all rest ≡ None
  none_all [] h = refl
  none_all (y ∷ rest) h =
      none_or (unmet_parameter m ds all y) (first_unmet m ds all rest) (none_parameter y (λ l path. h y l (head_there y rest) path)) (none_all rest (λ d l has path. h d l (tail_there y d rest has) path))

  pub arguments_met : ((l : Lock) → first_unmet m ds all ds ≡ Some l → ⊥) → (d : Declaration) (l : Lock) → Contains ds d → HasPath m written d l → Met m.typed ds all l
  arguments_met h d l has path = all_none ds d l (none_of (first_unmet m ds all ds) h) has path

  pub met_arguments : ((d : Declaration) (l : Lock) → Contains ds d → HasPath m written d l → Met m.typed ds all l) → (l : Lock) → first_unmet m ds all ds ≡ Some l → ⊥
  met_arguments h l is = none_some l (sym (none_all ds h) ∙ is)
