-- An element from its bytes. Assumes nothing.
use Rattle.std.proofs.Common.{◌≡◌, ℕ, suc, ◌+◌, ◌-◌, ◌*◌, ◌<◌, List, length, get_or, arith}
use Rattle.elements.proofs.Terms.{term_by_places, shown_path}
use Rattle.commands.specs.Log.{element}

-- the exponent at a place, counted from 0, as the bytes have it
abbrev pub pair : List ℕ → ℕ → ℕ
pair bytes k = get_or bytes (2 * k + 1) 0 * 256 + get_or bytes (2 * k + 2) 0

-- all exponents, with the family
pub element_written : (bytes xs : List ℕ) (f : ℕ) → f ≡ get_or bytes 0 0 → length xs ≡ 8 →
    ((k : ℕ) → k < 8 → get_or xs k 0 ≡ pair bytes k) →
    record { family = f; exponents = xs } ≡ element bytes
unfolding element
element_written bytes xs f ef n h =
    shown_path _ _ ef (term_by_places (λ v. get_or bytes (2 * v - 1) 0 * 256 + get_or bytes (2 * v) 0) xs n (λ k l.
    let high : 2 * k + 1 ≡ 2 * suc k - 1 = omega arith in
    let low : 2 * k + 2 ≡ 2 * suc k = omega arith in
    rw (← high, ← low) (h k l)))
