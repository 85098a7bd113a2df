-- What a long search remembers. Assumes nothing.
use Rattle.std.specs.Prelude.{◌≡◌, List, Option}
use Rattle.std.specs.Option.{ForSome}
use Rattle.elements.specs.declared.Element as element
use Rattle.search.specs.declared.memo.Memo.{Memo}

module _ {E : Type 0} {e : element.Ghosts E} where
  -- what is remembered, if there is anything, is of these rows
  abbrev pub RemembersRows : List E → Option (Memo E e) → Type 0
  RemembersRows rows memo = ForSome memo (λ m. m.bars.rows.now ≡ rows)
