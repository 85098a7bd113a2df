-- A prefix in its array, and how entries come and go. Assumes nothing.
use Rattle.std.specs.Prelude.{◌≡◌, ℕ, ◌+◌, ◌-◌, List, [], ◌∷◌, take, slice_index, slice_set}
use Rattle.search.specs.Prefixes.{unused_above}
use Rattle.search.specs.declared.prefix.Prefix.{Prefix}

module _ (p : Prefix) where
  -- the entries of the prefix
  abbrev pub entries_of : List ℕ
  entries_of = take p.len p.entries

  -- all of them but the last
  abbrev pub shorter : List ℕ
  shorter = take (p.len - 1) p.entries

  -- the last entry
  abbrev pub last_of : ℕ
  last_of = slice_index p.entries (p.len - 1)

  -- every variable above m is an entry
  abbrev pub NoneUnusedAbove : ℕ → Type 0
  NoneUnusedAbove m = unused_above p.n entries_of m ≡ []

  -- x is the first variable above m that is no entry
  abbrev pub IsNextUnused : ℕ → ℕ → Type 0
  IsNextUnused m x = unused_above p.n entries_of m ≡ x ∷ unused_above p.n entries_of x

-- the new prefix is the old one without its last entry, x
pub record LosesLast (old new : Prefix) (x : ℕ) : Type 0 where
  pub fewer : old.len ≡ new.len + 1
  pub last : slice_index old.entries new.len ≡ x
  pub entries : new.entries ≡ slice_set old.entries new.len 0
