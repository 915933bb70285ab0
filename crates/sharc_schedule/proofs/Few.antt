-- A file has no more places than bytes.
use Rattle.sharc_schedule.proofs.Imports.{◌≡◌, ℕ, suc, ◌≤◌, ◌==◌, Bool, true, false, List, [], ◌∷◌, ◌++◌, map, length, ap, arith, length-append, if◌then◌else◌, length-map, begin_with, lines_in, place_line, schedule_line, text_line, PlacesAreFew}

begun_few : (b n : ℕ) (lines : List (List ℕ)) → length lines ≤ n → length (begin_with b lines) ≤ suc n
begun_few b n [] few = omega arith
begun_few b n (line ∷ lines) few = omega arith

lines_few : (bytes : List ℕ) → length (lines_in bytes) ≤ length bytes
lines_few [] = omega arith
lines_few (b ∷ bytes) = by (b == 10) (lines_few bytes) where
  by : (t : Bool) → length (lines_in bytes) ≤ length bytes → length (if t then [] ∷ lines_in bytes else begin_with b (lines_in bytes)) ≤ suc (length bytes)
  by true few = omega arith
  by false few = begun_few b (length bytes) (lines_in bytes) few

pub few : PlacesAreFew
few bytes file is =
    let places : List (List ℕ) = map place_line file.places in
    let tail : List (List ℕ) = text_line ∷ is.text in
    let after : List (List ℕ) = schedule_line file.heap file.limit ∷ (places ++ tail) in
    let whole : length (lines_in bytes) ≡ length ((is.first ∷ is.others) ++ after) = ap (λ (ls : List (List ℕ)). length ls) is.lines_are in
    let split = length-append (is.first ∷ is.others) after in
    let inner = length-append places tail in
    let count : length places ≡ length file.places = length-map file.places place_line in
    let most = lines_few bytes in omega arith
