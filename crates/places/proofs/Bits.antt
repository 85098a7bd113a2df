-- One place put into a set, and taken out. Assumes nothing.
use Rattle.std.proofs.Common.{◌≡◌, ℕ, ◌+◌, ◌-◌, ◌*◌, ◌%◌, ◌^◌, ◌<◌, min, true, false, not, ◌&&◌, ◌||◌, eqb, bit_and, bit_or, w64, Decides, ap, sym, refl, ◌∙◌, inl, inr, arith}
use Rattle.std.proofs.lemmas.Bool.{cases_eq, cases_lt, eq-eqb, eqb-true, ne_eqb, false≢true}
use Rattle.std.proofs.lemmas.Nat.{and_comm, and-not}
use Rattle.std.proofs.lemmas.Nat.Bits.{bit_at_and, and_pow, bit_at-trailing_zeros, bit_at_set_same, bit_at_set_other, bit_at_clear_same, bit_at_clear_other, bit_at_above}
use Rattle.std.proofs.Math.Pow.{pow_pos, pow-lt}
use Rattle.std.proofs.Math.Nat.{one-mul, mod-eq_of_lt}
use Rattle.std.specs.Int.{bit_at, trailing_zeros}
use Rattle.places.specs.Places.{among}

pub put_in : (n k : ℕ) → k < 64 →
    (p : ℕ) → among (bit_or n (1 * 2 ^ k % 18446744073709551616)) p ≡ (eqb p k || among n p)
put_in n k l p = elim (cases_eq p k) [
  | inl e ↦ rw (e, bit_at_set_same w64 n k l, eq-eqb k k refl) refl
  | inr d ↦ rw (bit_at_set_other w64 n k l p d, ne_eqb p k d) refl
]

min_zero : (x : ℕ) → min 0 x ≡ 0
min_zero x = omega arith

module _ (n k : ℕ) (l : k < 64) (fits : n < 18446744073709551616) where
  abbrev pub without : ℕ
  without = bit_and n (18446744073709551615 - 1 * 2 ^ k % 18446744073709551616)

  pub taken_out : (p : ℕ) → among without p ≡ (not (eqb p k) && among n p)
  taken_out p = elim (cases_eq p k) [
    | inl e ↦ rw (e, bit_at_clear_same w64 n k l, eq-eqb k k refl) refl
    | inr d ↦ elim (cases_lt p 64) [
      | inl low ↦ rw (bit_at_clear_other w64 n k l p low d, ne_eqb p k d) refl
      | inr high ↦
          rw (
            bit_at_and n (18446744073709551615 - 1 * 2 ^ k % 18446744073709551616) p,
            bit_at_above n 64 p fits high,
            min_zero (bit_at (18446744073709551615 - 1 * 2 ^ k % 18446744073709551616) p),
            ne_eqb p k d,
          ) refl
    ]
  ]

  pub fewer : among n k ≡ true → without < n
  fewer is =
      let one : bit_at n k ≡ 1 = eqb-true (bit_at n k) 1 is in
      let power : 1 * 2 ^ k % 18446744073709551616 ≡ 2 ^ k = small in
      let parts : bit_and (18446744073709551615 - 2 ^ k) n + bit_and (2 ^ k) n ≡ n =
      and-not 64 (2 ^ k) n (pow-lt l) fits in
      let gone : bit_and (2 ^ k) n ≡ 1 * 2 ^ k = and_comm (2 ^ k) n ∙ and_pow n k ∙ ap (λ (b : ℕ). b * 2 ^ k) one in
      rw (power, and_comm n (18446744073709551615 - 2 ^ k)) (omega (arith, parts, gone, pow_pos k))
    where
      small : 1 * 2 ^ k % 18446744073709551616 ≡ 2 ^ k
      small = rw (one-mul (2 ^ k)) (mod-eq_of_lt (pow-lt l))

module _ (n : ℕ) (some : 0 < n) (fits : n < 18446744073709551616) where
  pub first_in : (trailing_zeros w64 n < 64) × (among n (trailing_zeros w64 n) ≡ true) ×
      ((p : ℕ) → p < trailing_zeros w64 n → among n p ≡ false)
  first_in =
      let (below, here, before) = bit_at-trailing_zeros w64 n some fits in
      (below, rw here refl, λ p l. rw (before p l) refl)

pub zero_below : (p : ℕ) → among 0 p ≡ false
zero_below p = rw (bit_at_above 0 0 p (omega arith) (omega arith)) refl

-- there is no place in a number exactly where it is 0
pub none_in : (n : ℕ) → n < 18446744073709551616 → Decides (eqb n 0) ((p : ℕ) → among n p ≡ false)
none_in n fits = elim (cases_eq n 0) [
  | inl e ↦ (λ t p. rw e (zero_below p), λ h. eq-eqb n 0 e)
  | inr d ↦ (
    λ t. absurd (d (eqb-true n 0 t)),
    λ h. (let (below, here, before) = first_in n (omega (arith, d)) fits in
        absurd (false≢true (sym (h (trailing_zeros w64 n)) ∙ here))),
  )
]
