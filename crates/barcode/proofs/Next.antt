-- The gaps of a row from those of the next in the order. Assumes nothing.
use Rattle.std.proofs.Common.{◌≡◌, ℕ, suc, ◌<◌, List, length, Some, None, Option, sym, ◌∙◌, inl, inr, arith}
use Rattle.std.proofs.lemmas.Bool.{cases_lt, cases_order}
use Rattle.elements.specs.Element.{Shown, exponent}
use Rattle.orderings.specs.Order.{at, Agree, DifferAt, PartAt, Below}
use Rattle.orderings.specs.Rows.{row}
use Rattle.barcode.specs.Gap.{IsGapAt}
use Rattle.barcode.specs.Rise.{IsRise}

-- w is next to u in the order of the rows: a row that is not before u, with none between them
pub record IsNext (rows : List Shown) (order : List ℕ) (u w : Shown) : Type 0 where
  pub place : ℕ
  pub within : place < length rows
  pub is : row rows place ≡ w
  pub after : Below order w u → ⊥
  pub none_between : (q : ℕ) → q < length rows → Below order u (row rows q) → Below order (row rows q) w → ⊥

-- no row is above the greatest
pub gap_of_greatest : (rows : List Shown) (order : List ℕ) (u : Shown) →
    ((q : ℕ) → q < length rows → Below order u (row rows q) → ⊥) → (k : ℕ) → IsGapAt rows order k u None
gap_of_greatest rows order u h k q l p = h q l (inr (k, p))

module _ (rows : List Shown) (order : List ℕ) (u w : Shown) where
  -- who agree at a position and at all before it have the same gap there
  module _ (f : u.family ≡ w.family) (k : ℕ) (a : Agree order (suc k) u w) where
    from_w : (x : Shown) → PartAt order k w x → PartAt order k u x
    from_w x p =
        record {
          family = f ∙ p.family;
          above = λ j l. a j (omega arith) ∙ p.above j l;
          smaller = omega (arith, a k, p.smaller);
        }

    to_w : (x : Shown) → PartAt order k u x → PartAt order k w x
    to_w x p = record {
      family = sym f ∙ p.family;
      above = λ j l. sym (a j (omega arith)) ∙ p.above j l;
      smaller = omega (arith, a k, p.smaller);
    }

    pub gap_alike : (r : Option ℕ) → IsGapAt rows order k w r → IsGapAt rows order k u r
    gap_alike None g = λ q l p. g q l (to_w (row rows q) p)
    gap_alike (Some m) ((q, l, p, e), least) = (
      (q, l, from_w (row rows q) p, omega (arith, a k, e)),
      λ x h p. omega (arith, a k, least x h (to_w (row rows x) p)),
    )

  module _ (n : IsNext rows order u w) where
    -- a row that rises above u is not before w
    not_before : (k q : ℕ) → q < length rows → PartAt order k u (row rows q) → Below order (row rows q) w → ⊥
    not_before k q l p b = n.none_between q l (inr (k, p)) b

    pub gap_of_last_in_family : (u.family ≡ w.family → ⊥) → (k : ℕ) → IsGapAt rows order k u None
    gap_of_last_in_family other k q l p = elim (cases_order u.family w.family) [
      | inl e ↦ other e
      | inr o ↦ elim o [ inl h ↦ not_before k q l p (inl (omega (arith, h, p.family))) | inr h ↦ n.after (inl h) ]
    ]

    module _ (f : u.family ≡ w.family) (part : ℕ) (d : DifferAt order part u w) where
      low : exponent u (at order part) < exponent w (at order part)
      low = elim (cases_order (exponent u (at order part)) (exponent w (at order part))) [
        | inl e ↦ absurd (d.here e)
        | inr o ↦ elim o [
          | inl l ↦ l
          | inr l ↦ absurd (n.after
              (inr (part, record { family = sym f; above = λ j h. sym (d.above j h); smaller = l })))
        ]
      ]

      pub gap_there : (r : Option ℕ) → IsRise (exponent u (at order part)) (exponent w (at order part)) r →
          IsGapAt rows order part u r
      gap_there None h = absurd (omega (arith, low, h))
      gap_there (Some m) h = (
        (n.place, n.within, rw n.is (record { family = f; above = d.above; smaller = low }), rw n.is h.1),
        λ q l p. elim (cases_lt (exponent (row rows q) (at order part)) (exponent w (at order part))) [
          | inl s ↦ absurd (not_before part q l p
              (inr (
                part,
                record { family = sym p.family ∙ f; above = λ j i. sym (p.above j i) ∙ d.above j i; smaller = s },
              )))
          | inr s ↦ omega (arith, h.1, s)
        ],
      )

      pub gap_below : (k : ℕ) → part < k → IsGapAt rows order k u None
      gap_below k l q h p =
          not_before k q h p (inr (
            part,
            record {
              family = sym p.family ∙ f;
              above = λ j i. sym (p.above j (omega arith)) ∙ d.above j i;
              smaller = omega (arith, p.above part l, low);
            },
          ))
