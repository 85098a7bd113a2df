-- A table of cones while limits come and go. Assumes nothing.
use Rattle.std.proofs.Common.{◌≡◌, ℕ, ◌+◌, ◌-◌, ◌<◌, ◌≤◌, true, false, eqb, ◌⊎◌, List, [], length, get_or, set, replicate, Some, None, sym, refl, ap, ◌∙◌, inl, inr, arith}
use Rattle.std.proofs.lemmas.List.{get_or-set_same, get_or-set_other, get_or_default, length-set}
use Rattle.std.proofs.lemmas.Bool.{cases_eq, cases_lt, eq-eqb, ne_eqb, cond-true, cond-false, false≢true}
use Rattle.elements.specs.Element.{Shown, exponent, times, Variable}
use Rattle.orderings.specs.Rows.{row}
use Rattle.places.specs.Places.{contains, IsEmpty, Removes}
use Rattle.places.specs.declared.Places.{Places}
use Rattle.cones.specs.Cones.{Limits, InCone}
use Rattle.cones.proofs.Alike.{Same}
use Rattle.cones.proofs.Products.{quotient_at}
use Rattle.search.specs.Liveness.{raised}
use Rattle.search.specs.Columns.{column, HasLimitedPlaces, cones_at, cone_at, TellsCones, without, Relocated}
use Rattle.search.proofs.Deadness.{AmongLimits}
use Rattle.search.proofs.Testing.{times_at}
use Rattle.search.proofs.Writing.{no_limit}

-- fewer limits leave elements in their cones
pub cone_less : (n : ℕ) (rows : List Shown) (lim other : Limits) → AmongLimits n rows lim other → (s : ℕ) (w : Shown) →
    InCone n rows other s w → InCone n rows lim s w
cone_less n rows lim other more s w c =
    record {
      place = c.place;
      divides = c.divides;
      multiplier = λ v m low high e. c.multiplier v m low high
          (more s v m c.place low high e);
    }

pub located_less : (n : ℕ) (rows : List Shown) (lim other : Limits) (cones : List (List ℕ)) →
    AmongLimits n rows lim other → TellsCones n rows other cones → TellsCones n rows lim cones
located_less n rows lim other cones more l = record {
  wide = l.wide;
  cone = λ q v d hq low high e. cone_less n rows lim other more (cone_at cones q v) (times (row rows q) v d)
      (l.cone q v d hq low high (more q v d hq low high e));
}

pub located_alike : (n : ℕ) (rows : List Shown) (lim other : Limits) (cones : List (List ℕ)) → Same n rows lim other →
    TellsCones n rows lim cones → TellsCones n rows other cones
located_alike n rows lim other cones same l =
    located_less n rows other lim cones (λ q v d hq low high e. same q v hq low high ∙ e) l

module _ (n : ℕ) (rows : List Shown) (x : ℕ) (lim : Limits) where
  without_other : (q v : ℕ) → (v ≡ x → ⊥) → without x lim q v ≡ lim q v
  without_other q v d = cond-false (eqb v x) None (lim q v) (ne_eqb v x d)

  without_same : (q v : ℕ) → v ≡ x → without x lim q v ≡ None
  without_same q v e = cond-true (eqb v x) None (lim q v) (eq-eqb v x e)

  without_among : AmongLimits n rows (without x lim) lim
  without_among q v d hq low high e = elim (cases_eq v x) [
    | inl s ↦ no_limit d (sym (without_same q v s) ∙ e)
    | inr o ↦ sym (without_other q v o) ∙ e
  ]

  -- only x can take a product out of its cone
  pub cone_stays : n ≤ 8 → (s v d : ℕ) (u : Shown) → (v ≡ x → ⊥) → InCone n rows (without x lim) s (times u v d) →
      ((m : ℕ) → lim s x ≡ Some m → exponent u x < exponent (row rows s) x + m) → InCone n rows lim s (times u v d)
  cone_stays few s v d u other c within = record {
    place = c.place;
    divides = c.divides;
    multiplier = λ y m low high e. elim (cases_eq y x) [
      | inl is ↦ (let r : Variable y = record { low = low; high = omega arith } in
          let same : raised u v d y ≡ exponent u y + 0 =
          ap (λ (b : ℕ). exponent u y + b) (cond-false (eqb y v) d 0 (ne_eqb y v (λ z. other (sym z ∙ is)))) in
          let here : exponent u y < exponent (row rows s) y + m =
          rw is (within m (ap (λ (z : ℕ). lim s z) (sym is) ∙ e)) in
          omega (
            arith,
            quotient_at (row rows s) (times u v d) y r,
            times_at u v d y r,
            same,
            here,
            c.divides.smaller y,
          ))
      | inr o ↦ c.multiplier y m low high (without_other s y o ∙ e)
    ];
  }

-- what is written is read, and the rest is as it was
module _ (cones : List (List ℕ)) (p v s : ℕ) (inside : p < length cones)
    (wide : (q : ℕ) → length (cones_at cones q) ≡ 8) (low : 1 ≤ v) (high : v ≤ 8) where
  written : List (List ℕ)
  written = set cones p (set (get_or cones p []) (v - 1) s)

  row_here : cones_at written p ≡ set (cones_at cones p) (v - 1) s
  unfolding written
  row_here = get_or-set_same cones p (set (get_or cones p []) (v - 1) s) (replicate 8 0) inside
      ∙ ap (λ xs. set xs (v - 1) s) (get_or_default cones p [] (replicate 8 0) inside)

  row_other : (q : ℕ) → (q ≡ p → ⊥) → cones_at written q ≡ cones_at cones q
  unfolding written
  row_other q d = get_or-set_other cones p q (set (get_or cones p []) (v - 1) s) (replicate 8 0) d

  written_wide : (q : ℕ) → length (cones_at written q) ≡ 8
  written_wide q = elim (cases_eq q p) [
    | inl e ↦ rw e (ap length row_here ∙ length-set (cones_at cones p) (v - 1) s ∙ wide p)
    | inr d ↦ ap length (row_other q d) ∙ wide q
  ]

  written_here : cone_at written p v ≡ s
  written_here =
      ap (λ xs. get_or xs (v - 1) 0) row_here ∙ get_or-set_same (cones_at cones p) (v - 1) s 0 (omega (arith, wide p))

  written_other : (q w : ℕ) → 1 ≤ w → ((q ≡ p) × (w ≡ v) → ⊥) → cone_at written q w ≡ cone_at cones q w
  written_other q w some d = elim (cases_eq q p) [
    | inl e ↦ rw e (ap (λ xs. get_or xs (w - 1) 0) row_here ∙ get_or-set_other (cones_at cones p) (v - 1) (w - 1) s 0
        (λ z. d (e, omega arith)))
    | inr o ↦ ap (λ xs. get_or xs (w - 1) 0) (row_other q o)
  ]

-- the products of the places and variables that are done are in the cones that the table tells
pub record Going (n : ℕ) (rows : List Shown) (x : ℕ) (lim : Limits) (done : ℕ → ℕ → Type 0)
    (cones : List (List ℕ)) : Type 0 where
  pub long : length cones ≡ 64
  pub others : TellsCones n rows (without x lim) cones
  pub found : (q w d : ℕ) → done q w → q < length rows → 1 ≤ w → w ≤ n → lim q w ≡ Some d →
      InCone n rows lim (cone_at cones q w) (times (row rows q) w d)

-- the first k steps are done: x is the first, and each other variable has the step of its number
abbrev pub Through : ℕ → ℕ → ℕ → ℕ → Type 0
Through x k q w = ((w ≡ x) × (1 ≤ k)) ⊎ (w < k)

-- v is the variable of step k
pub record InTurn (n x k v : ℕ) : Type 0 where
  pub first : k ≡ 0 → v ≡ x
  pub later : 1 ≤ k → v ≡ k
  pub low : 1 ≤ v
  pub high : v ≤ n

-- and variable v is done but at the places that are left
abbrev pub Beside : (ℕ → ℕ → Type 0) → ℕ → Places → ℕ → ℕ → Type 0
Beside done v left q w = done q w ⊎ ((w ≡ v) × (contains left q ≡ false))

module _ (n : ℕ) (rows : List Shown) (x : ℕ) (lim : Limits) where
  module _ (done : ℕ → ℕ → Type 0) (v : ℕ) (cones : List (List ℕ)) where
    -- variable v begins: only the rows of the places that are told for it have limits
    pub going_in : (left : Places) → HasLimitedPlaces (column lim v) (length rows) left →
        Going n rows x lim done cones → Going n rows x lim (Beside done v left) cones
    going_in left limiting g = record {
      long = g.long;
      others = g.others;
      found = λ q w d h hq low high e. elim h [
        | inl a ↦ g.found q w d a hq low high e
        | inr b ↦ absurd (false≢true (sym b.1 ∙ limiting q d hq (ap (λ (i : ℕ). lim q i) (sym b.0) ∙ e)))
      ];
    }

    module _ (left : Places) (g : Going n rows x lim (Beside done v left) cones) where
      module _ (p : ℕ) (rest : Places) (taken : Removes left rest p) where
        other_left : (q : ℕ) → (q ≡ p → ⊥) → contains rest q ≡ false → contains left q ≡ false
        other_left q o f = rw (taken q, ne_eqb q p o) at f

        -- no limit at the place that is taken out
        pub going_past : (p < length rows → lim p v ≡ None) → Going n rows x lim (Beside done v rest) cones
        going_past none = record {
          long = g.long;
          others = g.others;
          found = λ q w d h hq low high e. elim h [
            | inl a ↦ g.found q w d (inl a) hq low high e
            | inr b ↦ elim (cases_eq q p) [
              | inl z ↦ no_limit d (sym (none (omega (arith, z, hq))) ∙ ap (λ (i : ℕ). lim i v) (sym z)
                  ∙ ap (λ (i : ℕ). lim q i) (sym b.0) ∙ e)
              | inr o ↦ g.found q w d (inr (b.0, other_left q o b.1)) hq low high e
            ]
          ];
        }

        -- a cone is found there
        going_on : (d s : ℕ) → p < length cones → 1 ≤ v → v ≤ 8 → lim p v ≡ Some d →
            InCone n rows lim s (times (row rows p) v d) →
            Going n rows x lim (Beside done v rest) (set cones p (set (get_or cones p []) (v - 1) s))
        unfolding written
        going_on d s inside low high is cone = record {
          long = length-set cones p (set (get_or cones p []) (v - 1) s) ∙ g.long;
          others = record {
            wide = written_wide cones p v s inside g.others.wide low high;
            cone = λ q w k hq some most e. elim (cases_eq q p) [
              | inl a ↦ elim (cases_eq w v) [
                | inl b ↦ here_others q w k a b (without_among n rows x lim q w k hq some most e)
                | inr b ↦ rw (written_other cones p v s inside g.others.wide low high q w some (λ z. b z.1))
                    (g.others.cone q w k hq some most e)
              ]
              | inr a ↦ rw (written_other cones p v s inside g.others.wide low high q w some (λ z. a z.0))
                  (g.others.cone q w k hq some most e)
            ];
          };
          found = λ q w k h hq some most e. elim (cases_eq q p) [
            | inl a ↦ elim (cases_eq w v) [
              | inl b ↦ here q w k a b e
              | inr b ↦ rw (written_other cones p v s inside g.others.wide low high q w some (λ z. b z.1))
                  (g.found q w k (elim h [ inl l ↦ inl l | inr l ↦ absurd (b l.0) ]) hq some most e)
            ]
            | inr a ↦ rw (written_other cones p v s inside g.others.wide low high q w some (λ z. a z.0))
                (g.found q w k (elim h [ inl l ↦ inl l | inr l ↦ inr (l.0, other_left q a l.1) ]) hq some most e)
          ];
        }
          where
            here : (q w k : ℕ) → q ≡ p → w ≡ v → lim q w ≡ Some k →
                InCone n rows lim (cone_at (written cones p v s inside g.others.wide low high) q w)
                (times (row rows q) w k)
            here q w k a b e =
                let same : d ≡ k = cc (rw (a, b) at e, is) in
                rw (a, b, written_here cones p v s inside g.others.wide low high, sym same) cone

            here_others : (q w k : ℕ) → q ≡ p → w ≡ v → lim q w ≡ Some k →
                InCone n rows (without x lim) (cone_at (written cones p v s inside g.others.wide low high) q w)
                (times (row rows q) w k)
            here_others q w k a b e =
                cone_less n rows (without x lim) lim (without_among n rows x lim) _ _ (here q w k a b e)

      -- where variable v has limit d at the row u of place p, as the code reads it
      module _ (p d : ℕ) (u : Shown) (here : row rows p ≡ u) (l : p < length rows) (few : length rows ≤ 64)
          (low : 1 ≤ v) (high : v ≤ n) (most : n ≤ 8) (is : lim p v ≡ Some d)
          (told : ℕ) (reads : told ≡ get_or (get_or cones p []) (v - 1) 0) where
        -- the place that the table tells holds the product by the limits of the others
        abbrev Told : Type 0
        Told = (v ≡ x → ⊥) → InCone n rows (without x lim) told (times u v d)

        holds : Told
        holds other =
            let inside : p < length cones = omega (arith, g.long) in
            rw (reads, get_or_default cones p [] (replicate 8 0) inside, ← here)
            (g.others.cone p v d l low high (without_other n rows x lim p v other ∙ is))

        -- a cone is found, if one is wherever that is so
        pub cone_found : (s : ℕ) (rest : Places) → Removes left rest p → (Told → InCone n rows lim s (times u v d)) →
            Going n rows x lim (Beside done v rest) (set cones p (set (get_or cones p []) (v - 1) s))
        cone_found s rest taken found =
            going_on p rest taken d s (omega (arith, g.long)) low (omega arith) is (rw here (found holds))

        -- or none holds the product
        pub none_found : (Told → (s : ℕ) → InCone n rows lim s (times u v d) → ⊥) → Relocated n rows x lim false cones
        none_found none = record {
          told = (
            λ t. absurd (false≢true t),
            λ all. absurd (all p v d
                (record { place = l; low = low; high = high; limit = is; outside = rw here (none holds) })),
          );
          others = g.others;
          all = λ t. absurd (false≢true t);
        }

  module _ (k : ℕ) (cones : List (List ℕ)) where
    -- no place is left
    pub going_out : (v : ℕ) (left : Places) → Going n rows x lim (Beside (Through x k) v left) cones → InTurn n x k v →
        IsEmpty left → Going n rows x lim (Through x (k + 1)) cones
    going_out v left g turn none = record {
      long = g.long;
      others = g.others;
      found = λ q w d h hq low high e. g.found q w d (elim h [
        | inl a ↦ elim (cases_lt 0 k) [
          | inl l ↦ inl (inl (a.0, l))
          | inr z ↦
              inr (a.0 ∙ sym (turn.first (omega arith)), none q)
        ]
        | inr b ↦ elim (cases_eq w k) [
          | inl z ↦ inr (z ∙ sym (turn.later (omega arith)), none q)
          | inr o ↦ inl (inr (omega arith))
        ]
      ]) hq low high e;
    }

    -- the step of x is left out
    pub going_by : k ≡ x → 1 ≤ x → Going n rows x lim (Through x k) cones → Going n rows x lim (Through x (k + 1)) cones
    going_by here some g = record {
      long = g.long;
      others = g.others;
      found = λ q w d h hq low high e. g.found q w d (elim h [
        | inl a ↦ inl (a.0, omega arith)
        | inr b ↦ elim (cases_eq w k) [ inl z ↦ inl (z ∙ here, omega arith) | inr o ↦ inr (omega arith) ]
      ]) hq low high e;
    }

    -- all steps are done
    pub going_done : n < k → Going n rows x lim (Through x k) cones → Relocated n rows x lim true cones
    going_done through g = record {
      told = (
        λ _ q w d short. short.outside (cone_at cones q w)
            (g.found q w d (inr (omega (arith, short.high))) short.place short.low short.high short.limit),
        λ _. refl,
      );
      others = g.others;
      all = λ _. record {
        wide = g.others.wide;
        cone = λ q w d hq low high e. g.found q w d (inr (omega arith)) hq low
            high e;
      };
    }
