-- Cases have one order.
use Rattle.sharc_check.proofs.{Imports.{◌≡◌, List, on_total, then_total, nat_cmp_total, IsTotalOrder, ModeError, number_of, IsInOrder, place_and_code, by_place}, OnceLemmas.one_order}

total : IsTotalOrder (λ (x y : ModeError). by_place (place_and_code x) (place_and_code y))
total = then_total (on_total (λ (x : ModeError). x.site.token) nat_cmp_total) (on_total (λ (x : ModeError). number_of x.code) nat_cmp_total)

pub only : (found a b : List ModeError) → IsInOrder found a → IsInOrder found b → a ≡ b
only found a b first second =
    one_order (λ (x y : ModeError). by_place (place_and_code x) (place_and_code y)) total found a b first.in_order second.in_order first.stable second.stable
