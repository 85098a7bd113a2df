-- The places of rows as code reads them. Assumes nothing.
use Rattle.std.proofs.Common.{◌≡◌, ℕ, ◌<◌, ◌≤◌, List, map, length, get_or, sym, ap, ◌∙◌, arith}
use Rattle.std.proofs.lemmas.List.{get_or-map, get_or_past, length-map}
use Rattle.elements.specs.Element.{Shown, blank}
use Rattle.orderings.specs.Rows.{row}

module _ {E : Type 0} (shown : E → Shown) where
  -- what the code read at a place is what the place shows
  pub row_read : (xs : List E) (i : ℕ) (x : E) → i < length xs → x ≡ get_or xs i x → row (map shown xs) i ≡ shown x
  row_read xs i x l e = get_or-map shown xs i x blank l ∙ ap shown (sym e)

  pub row_past : (xs : List E) (i : ℕ) → length xs ≤ i → row (map shown xs) i ≡ blank
  row_past xs i l = get_or_past (map shown xs) i blank (omega (arith, length-map xs shown))
