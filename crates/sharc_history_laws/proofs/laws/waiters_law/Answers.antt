use Rattle.sharc_history_laws.proofs.{Imports.{◌≡◌, Bool, true, false, refl, SourceEvent, Resolution, History, MayCome, is_about_waiters}, Woken.awaited}
use Rattle.sharc_history_laws.proofs.laws.waiters_law.Goals as goal

-- whether it tells who waits or not
both : (r : Resolution) (before : History) (e : SourceEvent) (b : Bool) → is_about_waiters e.act ≡ b → (is_about_waiters e.act ≡ true → MayCome r before e e.act) → (is_about_waiters e.act ≡ false → MayCome r before e e.act) → MayCome r before e e.act
both r before e true is h k = h is
both r before e false is h k = k is

pub returns : goal.returns
returns c = λ x code s ls wt fits few follow r first run checked before e after stands.
    let laws = c.invariant_laws.ensures.runs in
    let there = c.invariant_laws.ensures in
    let told = awaited c.waiters_laws.ensures c.invariant_laws.ensures.states there.cells there.pointers there.rights laws c.invariant_laws.ensures.opens c.invariant_laws.ensures.keeps x code s ls wt fits few follow r first run ((laws.checked code s run).0 checked) in
    both r before e (is_about_waiters e.act) refl (told.legal before e after stands) (c.stores_law.ensures x code s ls wt fits few r first run checked before e after stands)
