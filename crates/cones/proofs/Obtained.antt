-- The limits of a row in an array. Assumes nothing.
use Rattle.std.proofs.Common.{◌≡◌, ℕ, zero, suc, ◌+◌, ◌<◌, ◌≤◌, List, length, get_or, set, replicate, None, Option, sym, ap, ◌∙◌, inl, inr, arith}
use Rattle.std.proofs.lemmas.List.{length-set, get_or-set_same, get_or-set_other, get_or-replicate, get_or_past}
use Rattle.std.proofs.lemmas.Bool.{cases_lt, cases_eq}
use Rattle.cones.specs.Cones.{Limits}
use Rattle.cones.specs.Tables.{LimitTable, no_limits, limit_in, limits_at, limits_of, LimitsFrom, Obtained}
use Rattle.cones.proofs.Reading.{limit_past}

-- the limits of variables 1 to n stand at the places before these, and none at the others
pub limits_from : (ls : List (Option ℕ)) (n : ℕ) (F : ℕ → Option ℕ) → length ls ≡ 8 →
    ((k : ℕ) → k < 8 → (k + 1 ≤ n → get_or ls k None ≡ F (k + 1)) × (n < k + 1 → get_or ls k None ≡ None)) →
    LimitsFrom n F ls
limits_from ls n F eight h = record {
  own = own;
  others = λ v. elim [ inl high ↦ others v high | inr past ↦ limit_past ls v (omega arith) ];
}
  where
    next : (k : ℕ) → k + 1 ≡ suc k
    next k = omega arith

    own : (v : ℕ) → 1 ≤ v → v ≤ n → v ≤ 8 → limit_in ls v ≡ F v
    own zero low high few = absurd (omega arith)
    own (suc k) low high few = rw (next k) at ((h k (omega arith)).0 (omega arith))

    others : (v : ℕ) → n < v → limit_in ls v ≡ None
    others zero high = absurd (omega arith)
    others (suc k) high = elim (cases_lt k 8) [
      | inl l ↦ (h k l).1 (omega arith)
      | inr l ↦ limit_past ls (suc k) (omega arith)
    ]

-- the first k rows of a table have their limits, and the others none
pub record Obtaining (n : ℕ) (F : Limits) (k : ℕ) (table : LimitTable) : Type 0 where
  pub long : length table ≡ 64
  pub rows : (p : ℕ) → p < k → LimitsFrom n (F p) (limits_at table p)
  pub past : (p : ℕ) → k ≤ p → limits_at table p ≡ no_limits

-- two tables with the same limits
pub same_obtained : (n count : ℕ) (F : Limits) (table other : LimitTable) →
    Obtained n F count table → Obtained n F count other →
    (p v : ℕ) → p < count → 1 ≤ v → v ≤ n → limits_of table p v ≡ limits_of other p v
same_obtained n count F table other a b p v l low high = elim (cases_lt p 64) [
  | inr past ↦ ap (λ xs. limit_in xs v) (a.past p (inr past) ∙ sym (b.past p (inr past)))
  | inl few ↦ elim (cases_lt 8 v) [
    | inl more ↦ (a.rows p few l).others v (inr more) ∙ sym ((b.rows p few l).others v (inr more))
    | inr eight ↦ (a.rows p few l).own v low high eight ∙ sym ((b.rows p few l).own v low high eight)
  ]
]

-- on a sheet these are all of its limits
pub all_obtained : (n count : ℕ) (F : Limits) (table : LimitTable) →
    Obtained n F count table → n ≤ 8 → count ≤ 64 →
    (p v : ℕ) → p < count → 1 ≤ v → v ≤ n → limits_of table p v ≡ F p v
all_obtained n count F table o eight few p v l low high = (o.rows p (omega arith) l).own v low high (omega arith)

-- a table without limits
pub none_at : (p : ℕ) → limits_at (replicate 64 no_limits) p ≡ no_limits
none_at p = elim (cases_lt p 64) [
  | inl l ↦ get_or-replicate 64 p no_limits no_limits l
  | inr l ↦ get_or_past (replicate 64 no_limits) p no_limits l
]

module _ (n : ℕ) (F : Limits) where
  pub obtaining_start : (table : LimitTable) → length table ≡ 64 → ((p : ℕ) → limits_at table p ≡ no_limits) →
      Obtaining n F 0 table
  obtaining_start table long none = record { long = long; rows = λ p l. absurd (omega arith); past = λ p l. none p }

  pub obtaining_more : (k : ℕ) (table : LimitTable) (limits : List (Option ℕ)) → k < 64 →
      LimitsFrom n (F k) limits → Obtaining n F k table → Obtaining n F (k + 1) (set table k limits)
  obtaining_more k table limits few own o = record {
    long = length-set table k limits ∙ o.long;
    rows = λ p l. elim (cases_eq p k) [
      | inl e ↦ (let here = get_or-set_same table k limits no_limits (omega (arith, o.long)) in rw (e, here) own)
      | inr d ↦ rw (get_or-set_other table k p limits no_limits d) (o.rows p (omega arith))
    ];
    past = λ p l. get_or-set_other table k p limits no_limits (λ e. omega arith) ∙ o.past p (omega arith);
  }
