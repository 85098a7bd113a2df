-- Text that is written item by item. Assumes nothing.
use Rattle.std.proofs.Common.{◌≡◌, Some, Bor, ℕ, ◌+◌, ◌-◌, ◌/◌, ◌%◌, ◌^◌, ◌<◌, ◌≤◌, true, List, [], ◌∷◌, ◌++◌, map, length, get_or, take, codes, decimal, sym, refl, ap, ◌∙◌, append_assoc, append-nil, arith}
use Rattle.std.specs.declared.fmt.Formatter.{Formatter}
use Rattle.std.specs.Fmt.{HasWritten, format_spec, digit_glyph, digits_output, radix_digits, styled_digits_output}
use Rattle.std.proofs.Output.{has_written_of_eq, has_written_append}
use Rattle.std.proofs.lemmas.Fmt.{hex_byte}
use Rattle.std.proofs.lemmas.List.FromFn.{get_or-map-range_with_len}
use Rattle.std.proofs.lemmas.List.{take_more, take_all}
use Rattle.lines.specs.Words.{each, after_space, ended, spaced, hex_digit, hex}

pub each_append : {A : Type 0} (text : A → List ℕ) (xs ys : List A) →
    each text (xs ++ ys) ≡ each text xs ++ each text ys
each_append text [] ys = refl
each_append text (x ∷ xs) ys = ap (λ (l : List ℕ). text x ++ l) (each_append text xs ys) ∙
    sym (append_assoc (text x) (each text xs) (each text ys))

pub each_map : {A B : Type 0} (text : B → List ℕ) (f : A → B) (xs : List A) →
    each text (map f xs) ≡ each (λ x. text (f x)) xs
each_map text f [] = refl
each_map text f (x ∷ xs) = ap (λ (l : List ℕ). text (f x) ++ l) (each_map text f xs)

-- one more item
pub each_more : {A : Type 0} (text : A → List ℕ) (xs : List A) (i : ℕ) (d : A) → i < length xs →
    each text (take (i + 1) xs) ≡ each text (take i xs) ++ text (get_or xs i d)
each_more text xs i d h =
    ap (each text) (take_more xs i d h) ∙ each_append text (take i xs) (get_or xs i d ∷ []) ∙
    ap (λ (l : List ℕ). each text (take i xs) ++ l) (append-nil (text (get_or xs i d)))

-- all items
pub each_all : {A : Type 0} (text : A → List ℕ) (xs : List A) (i : ℕ) → length xs ≤ i →
    each text (take i xs) ≡ each text xs
each_all text xs i h = ap (each text) (take_all i xs h)

module _ {W A : Type 0} (took : W → List ℕ → W → Type 0) (text : A → List ℕ) (xs : List A) (i : ℕ) where
  -- one more item is written
  pub put_next : (d : A) (f g h : Formatter W) → i < length xs → HasWritten took f (each text (take i xs)) g →
      HasWritten took g (text (get_or xs i d)) h → HasWritten took f (each text (take (i + 1) xs)) h
  put_next d f g h l p q = has_written_of_eq took f _ _ h (sym (each_more text xs i d l))
      (has_written_append took f _ g _ h p q)

  -- all items are written
  pub put_all : (f g : Formatter W) → length xs ≤ i → HasWritten took f (each text (take i xs)) g →
      HasWritten took f (each text xs) g
  put_all f g l p = has_written_of_eq took f _ _ g (each_all text xs i l) p

-- a capital digit of the library is one of the sixteen
upper_digit : (d : ℕ) → d < 16 → digit_glyph true d ≡ hex_digit d
upper_digit d h = sym (get_or-map-range_with_len (digit_glyph true) 0 16 d d 0 h (omega arith))

-- what `{:02X}` writes of a byte
pub hex_shown : (d : _) (s : _) (n : ℕ) → n < 256 → digits_output d ≡ Some (radix_digits 16 true n) →
    s ≡ format_spec 32 0 4 2 (2 ^ 64 - 1) → styled_digits_output d s ≡ Some (hex n)
hex_shown d s n small e f =
    let high = upper_digit (n / 16) (omega arith) in
    let low = upper_digit (n % 16) (omega arith) in
    rw (f, e) (ap Some (hex_byte true n small ∙ cc))

module _ {W A : Type 0} (took : W → List ℕ → W → Type 0) (text : A → List ℕ) where
  -- one more item is written
  pub put_more : (xs : List A) (x : A) (f g h : Formatter W) → HasWritten took f (each text xs) g →
      HasWritten took g (text x) h → HasWritten took f (each text (xs ++ x ∷ [])) h
  put_more xs x f g h p q =
      has_written_of_eq took f _ _ h (sym (each_append text xs (x ∷ []) ∙ ap (λ (l : List ℕ). each text xs ++ l)
      (append-nil (text x)))) (has_written_append took f _ g _ h p q)

-- a count and the first entries of an ordering
pub settled_text : (tested n : ℕ) (ordering : List ℕ) (shown : List (Bor ℕ)) →
    map (λ v. v.now) shown ≡ take n ordering →
    after_space (decimal tested) ++ each (λ (v : Bor ℕ). after_space (decimal v.now)) shown ≡ each after_space
    (decimal tested ∷ map decimal (take n ordering))
settled_text tested n ordering shown e =
    ap (λ (l : List ℕ). after_space (decimal tested) ++ l)
    (sym (each_map (λ d. after_space (decimal d)) (λ (v : Bor ℕ). v.now) shown) ∙
    ap (each (λ d. after_space (decimal d))) e ∙ sym (each_map after_space decimal (take n ordering)))

regroup : (sheet space n kind newline lines last end : List ℕ) →
    (sheet ++ space) ++ (n ++ (space ++ (kind ++ (newline ++ (lines ++ ((last ++ space) ++ (end ++ newline))))))) ≡
    ((sheet ++ ((space ++ n) ++ ((space ++ kind) ++ []))) ++ newline) ++
    (lines ++ (((last ++ ((space ++ end) ++ [])) ++ newline) ++ []))
regroup sheet space n kind newline lines last end = simp (append_assoc, append-nil)

-- a head, the lines between, and the last line
pub log_text : {A : Type 0} (text : A → List ℕ) (n kind end : List ℕ) (xs ys : List A) → xs ≡ ys →
    codes "sheet " ++ (n ++ (codes " " ++
    (kind ++ ((10 ∷ []) ++ (each (λ x. ended (text x)) xs ++ (codes "end " ++ (end ++ (10 ∷ [])))))))) ≡
    each ended (spaced (codes "sheet" ∷ n ∷ kind ∷ []) ∷ (map text ys ++ (spaced (codes "end" ∷ end ∷ []) ∷ [])))
log_text text n kind end xs ys e =
    let last = spaced (codes "end" ∷ end ∷ []) in
    let more : each (λ x. ended (text x)) xs ++ each ended (last ∷ []) ≡ each ended (map text ys ++ (last ∷ [])) =
    ap (λ (l : List ℕ). l ++ each ended (last ∷ [])) (ap (each (λ x. ended (text x))) e ∙
    sym (each_map ended text ys)) ∙ sym (each_append ended (map text ys) (last ∷ [])) in
    regroup (codes "sheet") (codes " ") n kind (10 ∷ []) (each (λ x. ended (text x)) xs) (codes "end") end ∙
    ap (λ (l : List ℕ). ended (spaced (codes "sheet" ∷ n ∷ kind ∷ [])) ++ l) more
