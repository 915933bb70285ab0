-- Statements and blocks at a line.
use Rattle.sharc_typed_laws.proofs.{Imports.{◌≡◌, ℕ, ◌+◌, List, [], ◌∷◌, ◌++◌, length, Some, refl, Op, Context, int_count, ref_count, pops, Label, ints_in, refs_in, less_refl, Mark, Setting, Way, AreOpen, LeadsAmong, LeadsFrom, AreLow, Typing, StandsBefore, before, BlocksAreTyped, AnywhereLeads, EnterLeads, BlockLeads}, Rules.on_block_end, Parts.{At, keeps, enter_at, within_right}, Ending.ends_typed, Closing.within_left, Marked.marked}
use Rattle.sharc_flat_lemmas.proofs.Flow as flow

module _ (z : Setting) (f : ℕ) (ways : List Way) (y : Typing) (c : Context) (low : AreLow (y.named c) (ref_count c.scope)) (l : Label) (here : StandsBefore y c f l) where
  abbrev fi : ℕ
  fi = ints_in z.code (Some f)

  abbrev fr : ℕ
  fr = refs_in z.code (Some f)

  abbrev i : ℕ
  i = int_count c.scope

  abbrev r : ℕ
  r = ref_count c.scope

  abbrev Q : ℕ → Mark → List Op → Mark → Type 0
  Q = LeadsFrom z f ways

  at : At z f (AreOpen z ways) (y.named c) r low i i r l
  at = record { stands = here.stands.stands; owned = here.stands.owned }

  anywhere : AnywhereLeads z f ways y c l
  anywhere pc s e os p = λ w h. let a = p w h in record { stretch = a.stretch pc; scoped = a.scoped }

  joins : (pc n : ℕ) (s m e : Mark) (xs ys : List Op) → n ≡ pc + length xs → Q pc s xs m → Q n m ys e → Q pc s (xs ++ ys) e
  joins pc n s m e xs ys is p q = λ w h.
      let a = p (within_left fi fr xs ys w) h in
      let b = q (within_right fi fr xs ys w) a.scoped in
      record { stretch = flow.joins (marked z f) (AreOpen z ways) s m e pc xs ys a.stretch (flow.moved (marked z f) (AreOpen z ways) m n (pc + length xs) ys e is b.stretch); scoped = b.scoped }

  enter : EnterLeads z f ways y c l
  enter pc e os p = joins pc (pc + 1) (before c l) (before c l) e (Op.Enter ∷ []) os refl (anywhere pc (before c l) (before c l) (Op.Enter ∷ []) (enter_at z f (AreOpen z ways) (y.named c) r low i i r l at i)) p

  closes : LeadsAmong z f ways (before c l) (Op.BlockEnd ∷ []) (before c l)
  closes = keeps z f (AreOpen z ways) (y.named c) r low i i r l at i Op.BlockEnd (λ table pc w plain next. on_block_end z f table pc (before c l) (before c l) next plain (less_refl l))

  block : BlockLeads z f ways y c l
  block pc d slots grows k there os p =
      let ends = pops r slots in
      let p2 = joins (pc + 1) (pc + 1 + length os) (before c l) (before d k) (before c l) os ends refl p (anywhere (pc + 1 + length os) (before d k) (before c l) ends (ends_typed z f ways y c d slots low grows l k here there)) in
      enter pc (before c l) ((os ++ ends) ++ Op.BlockEnd ∷ [])
      (joins (pc + 1) (pc + 1 + length (os ++ ends)) (before c l) (before c l) (before c l) (os ++ ends) (Op.BlockEnd ∷ []) refl p2 (anywhere (pc + 1 + length (os ++ ends)) (before c l) (before c l) (Op.BlockEnd ∷ []) closes))

pub blocks_typed : BlocksAreTyped
blocks_typed z f ways y c low l here = record { anywhere = anywhere z f ways y c low l here; enter = enter z f ways y c low l here; block = block z f ways y c low l here }
