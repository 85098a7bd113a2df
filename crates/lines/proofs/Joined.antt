-- Words that are written one by one, a separator between each two. Assumes nothing.
use Rattle.std.proofs.Common.{◌≡◌, ℕ, ◌+◌, ◌<◌, Bool, true, false, cond, List, [], ◌∷◌, ◌++◌, map, length, get_or, take, sym, refl, ap, ◌∙◌, append_assoc, append-nil, codes}
use Rattle.std.specs.Prelude.{filter, ◌==◌}
use Rattle.std.proofs.lemmas.Bool.{false≢true}
use Rattle.std.proofs.lemmas.List.{map-append}
use Rattle.std.proofs.lemmas.List.Elements.{filter_more}
use Rattle.std.specs.declared.fmt.Formatter.{Formatter}
use Rattle.std.specs.Fmt.{HasWritten}
use Rattle.std.proofs.Output.{has_written_of_eq, has_written_append}
use Rattle.lines.specs.Words.{each}
use Rattle.lines.specs.Written.{joined, product_text}
use Rattle.lines.proofs.Printed.{each_append}

-- what stands before the next word
abbrev pub between : List ℕ → List (List ℕ) → List ℕ
between separator [] = []
between separator (w ∷ ws) = separator

-- one more word
pub joined_more : (separator w : List ℕ) (ws : List (List ℕ)) →
    joined separator ws ++ (between separator ws ++ w) ≡ joined separator (ws ++ w ∷ [])
joined_more separator w [] = sym (append-nil w)
joined_more separator w (x ∷ xs) =
    append_assoc x (each (λ y. separator ++ y) xs) (separator ++ w) ∙
    ap (λ (l : List ℕ). x ++ l)
    (ap (λ (l : List ℕ). each (λ y. separator ++ y) xs ++ l) (sym (append-nil (separator ++ w))) ∙
    sym (each_append (λ y. separator ++ y) xs (w ∷ [])))

pub between_more : (separator w : List ℕ) (ws : List (List ℕ)) → between separator (ws ++ w ∷ []) ≡ separator
between_more separator w [] = refl
between_more separator w (x ∷ xs) = refl

-- the words of the items that pass a test, item by item
module _ {W A : Type 0} (took : W → List ℕ → W → Type 0) (separator : List ℕ) (text : A → List ℕ) (test : A → Bool)
    (items : List A) (i : ℕ) (d : A) (within : i < length items) where
  abbrev pub words : ℕ → List (List ℕ)
  words k = map text (filter test (take k items))

  more : words (i + 1) ≡ words i ++ map text (cond (test (get_or items i d)) (get_or items i d ∷ []) [])
  more = ap (map text) (filter_more test items i d within) ∙ map-append text (filter test (take i items))
      (cond (test (get_or items i d)) (get_or items i d ∷ []) [])

  one_more : test (get_or items i d) ≡ true → words (i + 1) ≡ words i ++ text (get_or items i d) ∷ []
  one_more e = more ∙ ap (λ b. words i ++ map text (cond b (get_or items i d ∷ []) [])) e

  -- an item that does not pass
  pub none_more : test (get_or items i d) ≡ false → words i ≡ words (i + 1)
  none_more e = sym (more ∙ ap (λ b. words i ++ map text (cond b (get_or items i d ∷ []) [])) e ∙ append-nil (words i))

  -- an item that passes: what stands before the next word, and what is written
  pub next_between : test (get_or items i d) ≡ true → separator ≡ between separator (words (i + 1))
  next_between e = sym (ap (between separator) (one_more e) ∙ between_more separator (text (get_or items i d))
      (words i))

  pub next_written : (f g h : Formatter W) (before : List ℕ) → test (get_or items i d) ≡ true →
      before ≡ between separator (words i) →
      HasWritten took f (joined separator (words i)) g → HasWritten took g (before ++ text (get_or items i d)) h →
      HasWritten took f (joined separator (words (i + 1))) h
  next_written f g h before e s p q =
      has_written_of_eq took f _ _ h
      (ap (λ (b : List ℕ). joined separator (words i) ++ (b ++ text (get_or items i d))) s ∙
      joined_more separator (text (get_or items i d)) (words i) ∙ ap (joined separator) (sym (one_more e)))
      (has_written_append took f _ g _ h p q)

-- nothing stands before the next word exactly where there is no word yet
pub product_of_none : (ws : List (List ℕ)) (before : List ℕ) → before ≡ between (codes " ") ws →
    (length before == 0) ≡ true → joined (codes " ") ws ++ codes "1" ≡ product_text ws
product_of_none [] before e h = refl
product_of_none (w ∷ ws) before e h = absurd (false≢true (sym (ap (λ l. length l == 0) e) ∙ h))

pub product_of_some : (ws : List (List ℕ)) (before : List ℕ) → before ≡ between (codes " ") ws →
    (length before == 0) ≡ false → joined (codes " ") ws ≡ product_text ws
product_of_some [] before e h = absurd (false≢true (sym h ∙ ap (λ l. length l == 0) e))
product_of_some (w ∷ ws) before e h = refl
