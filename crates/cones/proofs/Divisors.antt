-- Among the rows that divide an element one is greatest, and only its cone can hold the element. Assumes nothing.
use Rattle.std.proofs.Common.{◌≡◌, ℕ, zero, suc, ◌+◌, ◌<◌, ◌≤◌, Bool, ◌⊎◌, List, length, Some, sym, inl, inr, arith, below_more}
use Rattle.std.proofs.lemmas.Bool.{cases_lt, cases_order}
use Rattle.elements.specs.Element.{Shown, exponent, Divides}
use Rattle.elements.proofs.Terms.{entry_none}
use Rattle.orderings.specs.Order.{at, IsOrdering, PartAt, Below}
use Rattle.orderings.specs.Rows.{row, Rows}
use Rattle.orderings.proofs.Lines.{irreflexive, transitive, asymmetric, total}
use Rattle.orderings.proofs.Positions.{few, listed}
use Rattle.cones.specs.Cones.{Limits, Separated, InCone, Greatest, ConesAreDisjoint, TheConeIsOfTheGreatestDivisor}
use Rattle.cones.proofs.Products.{quotient_at, divides?}

-- an element in a cone has less than the limit more than the row
pub under : (n : ℕ) (rows : List Shown) (lim : Limits) (s : ℕ) (w : Shown) → n ≤ 8 → InCone n rows lim s w →
    (v m : ℕ) → 1 ≤ v → v ≤ n → lim s v ≡ Some m → exponent w v < exponent (row rows s) v + m
under n rows lim s w few cone v m low high e =
    let there = quotient_at (row rows s) w v (record { low = low; high = omega arith }) in
    omega (arith, cone.multiplier v m low high e, there, cone.divides.smaller v)

-- elements part in a variable
pub part_low : (order : List ℕ) (k : ℕ) (u w : Shown) → PartAt order k u w → 1 ≤ at order k
part_low order k u w x = elim (cases_lt (at order k) 1) [
  | inl l ↦ absurd (omega (arith, x.smaller, entry_none w.exponents (at order k) l))
  | inr l ↦ l
]

module _ (admits : ℕ → Bool) (n : ℕ) (order : List ℕ) (rows : List Shown)
    (o : IsOrdering n order) (ok : Rows admits n rows) where
  -- places with the same row are one
  pub one_place : (p q : ℕ) → p < length rows → q < length rows → row rows p ≡ row rows q → p ≡ q
  one_place p q hp hq e = elim (cases_order p q) [
    | inl s ↦ s
    | inr d ↦ absurd (elim d [ inl l ↦ ok.different p q l hq e | inr l ↦ ok.different q p l hp (sym e) ])
  ]

  -- two places are one, or the row of one is below that of the other
  pub in_order : (p q : ℕ) → p < length rows → q < length rows →
      (p ≡ q) ⊎ (Below order (row rows p) (row rows q) ⊎ Below order (row rows q) (row rows p))
  in_order p q hp hq =
      let compared = total admits n order o (row rows p) (row rows q) in
      elim (compared (ok.fit p hp).admitted (ok.fit q hq).admitted) [
        | inl l ↦ inr (inl l)
        | inr c ↦ elim c [ inl e ↦ inl (one_place p q hp hq e) | inr l ↦ inr (inr l) ]
      ]

  -- two greatest divisors are one
  pub one_greatest : (p q : ℕ) (w : Shown) → Greatest order rows p w → Greatest order rows q w → p ≡ q
  one_greatest p q w a b = elim (in_order p q a.place b.place) [
    | inl e ↦ e
    | inr c ↦ absurd (elim c [
      | inl l ↦ a.none_above q b.place b.divides l
      | inr l ↦ b.none_above p a.place a.divides l
    ])
  ]

  module _ (w : Shown) where
    -- none of the rows before i that divide w is above row s
    abbrev Top : ℕ → ℕ → Type 0
    Top s i = (q : ℕ) → q < i → Divides (row rows q) w → Below order (row rows s) (row rows q) → ⊥

    abbrev Best : ℕ → Type 0
    Best i = ((q : ℕ) → q < i → Divides (row rows q) w → ⊥) ⊎ ((s : ℕ) × (s < i) × (Divides (row rows s) w) × (Top s i))

    more : (s i : ℕ) → Top s i → (Divides (row rows i) w → Below order (row rows s) (row rows i) → ⊥) → Top s (suc i)
    more s i top here q h =
        below_more (λ q. Divides (row rows q) w → Below order (row rows s) (row rows q) → ⊥) i top here q (omega arith)

    best : (i : ℕ) → i ≤ length rows → Best i
    best zero h = inl (λ q l. absurd (omega arith))
    best (suc i) h = elim (divides? (row rows i) w (ok.fit i h).admitted.eight) [
      | inl d ↦ elim (best i (omega arith)) [
        | inl none ↦ inr (
          i,
          omega arith,
          d,
          more i i (λ q l dq x. none q l dq) (λ _ x. irreflexive order (row rows i) x),
        )
        | inr b ↦ elim (in_order b.0 i (omega (arith, b.1)) h) [
          | inl e ↦ absurd (omega (arith, b.1))
          | inr c ↦ elim c [
            | inl x ↦ inr (
              i,
              omega arith,
              d,
              more i i
                  (λ q l dq y. b.3 q l dq (transitive order (row rows b.0) (row rows i) (row rows q) x y))
                  (λ _ y. irreflexive order (row rows i) y),
            )
            | inr x ↦ inr (
              b.0,
              omega (arith, b.1),
              b.2,
              more b.0 i b.3 (λ _ y. asymmetric order (row rows b.0) (row rows i) y x),
            )
          ]
        ]
      ]
      | inr not ↦ elim (best i (omega arith)) [
        | inl none ↦ inl (λ q l. below_more (λ q. Divides (row rows q) w → ⊥) i none not q (omega arith))
        | inr b ↦ inr (b.0, omega (arith, b.1), b.2, more b.0 i b.3 (λ d x. not d))
      ]
    ]

    -- where a row divides w, one of those that do is greatest
    pub greatest : (p : ℕ) → p < length rows → Divides (row rows p) w → (g : ℕ) × Greatest order rows g w
    greatest p h d = elim (best (length rows) (omega arith)) [
      | inl none ↦ absurd (none p h d)
      | inr b ↦ (b.0, record { place = b.1; divides = b.2; none_above = b.3 })
    ]

  module _ (lim : Limits) (sep : Separated order rows lim) where
    -- a row has no multiple in its cone of a row that it parts from downwards
    clash : (p q k : ℕ) (w : Shown) → q < length rows → PartAt order k (row rows p) (row rows q) →
        InCone n rows lim p w → ¬ Divides (row rows q) w
    clash p q k w hq x cone d =
        let (m, e, l) = sep p q k cone.place hq x in
        let low = part_low order k (row rows p) (row rows q) x in
        let hk = listed n order o k low in
        let below = under n rows lim p w (few n order o) cone (at order k) m low (o.high k hk) e in
        omega (arith, below, l, d.smaller (at order k))

    pub cone_greatest : (s : ℕ) (w : Shown) → InCone n rows lim s w → Greatest order rows s w
    cone_greatest s w cone = record {
      place = cone.place;
      divides = cone.divides;
      none_above = λ q hq d x. elim x [
        | inl l ↦ omega (arith, l, cone.divides.family, d.family)
        | inr y ↦ clash s q y.0 w hq y.1 cone d
      ];
    }

pub cones_are_disjoint : ConesAreDisjoint
cones_are_disjoint admits n order rows lim o ok sep p q w a b =
    one_greatest admits n order rows o ok p q w
    (cone_greatest admits n order rows o ok lim sep p w a)
    (cone_greatest admits n order rows o ok lim sep q w b)

pub the_cone_is_of_the_greatest_divisor : TheConeIsOfTheGreatestDivisor
the_cone_is_of_the_greatest_divisor admits n order rows lim o ok sep s w cone =
    let top = cone_greatest admits n order rows o ok lim sep s w cone in
    (top, λ g other. one_greatest admits n order rows o ok g s w other top)
