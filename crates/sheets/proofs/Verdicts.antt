-- Verdicts as the code gives them. Assumes nothing.
use Rattle.std.proofs.Common.{◌≡◌, ℕ, Bool, List, ◌∷◌, map, take, vec_items, sym, subst, arith}
use Rattle.std.proofs.lemmas.List.{length-take-le}
use Rattle.elements.specs.Element.{Shown}
use Rattle.orderings.specs.Answer.{granted}
use Rattle.orderings.specs.Order.{IsOrdering}
use Rattle.orderings.specs.Rows.{row}
use Rattle.divisions.specs.Laws.{Meaning, OnSheet}
use Rattle.cones.specs.Cones.{Complete, IsFirstShortfall}
use Rattle.sheets.specs.declared.parts.Parts.{Parts}
use Rattle.sheets.specs.Book.{TellsVerdict, complete, short, element_told}
use Rattle.sheets.specs.Read.{MakesSheet}

-- the rows of a sheet and an ordering of its variables are what the laws of a division are owed for
pub on_sheet : {E : Type 0} (admits : ℕ → Bool) (shown : E → Shown) (p : Parts E) → MakesSheet admits shown p →
    (order : List ℕ) → IsOrdering p.header.variables order →
    OnSheet p.header.variables (take p.header.rows (map shown (vec_items p.table))) order
on_sheet admits shown p st order o =
    record {
      kind = admits;
      variables = st.variables;
      few = omega (
        arith,
        length-take-le p.header.rows (map shown (vec_items p.table)) st.room,
        st.room,
        st.places.most,
      );
      fit = st.rows;
      ordered = o;
    }

-- rows as the code has them, and as the book has them
module _ (m : Meaning) (n : ℕ) (order : List ℕ) (seen rows : List Shown) (same : seen ≡ rows)
    (on : OnSheet n rows order) where
  pub seen_on : OnSheet n seen order
  seen_on = subst (λ (r : List Shown). OnSheet n r order) (sym same) on

  pub told_complete : (u : Shown) → row seen 0 ≡ u → (OnSheet n seen order → Complete n seen (m seen order)) →
      TellsVerdict n rows (m rows order) (granted (1 ∷ 0 ∷ 0 ∷ 0 ∷ element_told u))
  told_complete u e c =
      let P : List Shown → Type 0 = λ r. TellsVerdict n r (m r order) (granted (1 ∷ 0 ∷ 0 ∷ 0 ∷ element_told u)) in
      let Q : Shown → Type 0 = λ w. TellsVerdict n seen (m seen order) (granted (1 ∷ 0 ∷ 0 ∷ 0 ∷ element_told w)) in
      subst P same (subst Q e (complete (c seen_on)))

  pub told_short : (p v d : ℕ) (u : Shown) → row seen p ≡ u →
      (OnSheet n seen order → IsFirstShortfall n seen (m seen order) p v d × (Complete n seen (m seen order) → ⊥)) →
      TellsVerdict n rows (m rows order) (granted (0 ∷ p ∷ v ∷ d ∷ element_told u))
  told_short p v d u e f =
      let P : List Shown → Type 0 = λ r. TellsVerdict n r (m r order) (granted (0 ∷ p ∷ v ∷ d ∷ element_told u)) in
      let Q : Shown → Type 0 = λ w. TellsVerdict n seen (m seen order) (granted (0 ∷ p ∷ v ∷ d ∷ element_told w)) in
      subst P same (subst Q e (short (f seen_on).1 (f seen_on).0))
