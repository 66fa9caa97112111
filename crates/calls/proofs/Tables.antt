-- Tables of which some cells are set, cell by cell.
use Rattle.std.proofs.Common.{◌≡◌, ℕ, zero, suc, ◌+◌, ◌-◌, ◌<◌, ◌≤◌, Bool, cond, List, [], ◌∷◌, ◌++◌, length, get_or, take, drop, refl, ap, ◌∙◌, arith}
use Rattle.std.proofs.lemmas.List.{get_or_append_left, get_or-append_right, get_or-drop, get_or-take, length-append, length-drop, length-take-le}
use Rattle.records.specs.declared.types.Macroblock.{Macroblock}
use Rattle.records.specs.declared.types.PictureKind.{PictureKind}
use Rattle.records.specs.Deliveries.{intra_at}
use Rattle.samples.specs.Ages.{next_age}
use Rattle.motion.specs.Cells.{ages_of}
use Rattle.rebuild.specs.Rebuilt.{set_from}
use Rattle.calls.specs.Effects.{ages_filled, fill_age}

-- cells that are set from a place on
module _ {X : Type 0} (first : ℕ) (cells table : List X) (fit : first + length cells ≤ length table) where
  abbrev rest : List X
  rest = drop (length cells) (drop first table)

  front : length (take first table) ≡ first
  front = length-take-le first table (omega arith)

  pub set_length : length (set_from first cells table) ≡ length table
  set_length =
      omega (arith, front, length-append (take first table) (cells ++ rest), length-append cells rest, length-drop (length cells) (drop first table), length-drop first table)

  pub set_before : (i : ℕ) (d : X) → i < first → get_or (set_from first cells table) i d ≡ get_or table i d
  set_before i d h = get_or_append_left (take first table) (cells ++ rest) d i (omega (arith, front)) ∙ get_or-take first table i d h

  pub set_own : (i : ℕ) (d : X) → first ≤ i → i < first + length cells → get_or (set_from first cells table) i d ≡ get_or cells (i - first) d
  set_own i d h l = get_or-append_right (take first table) (cells ++ rest) first i d front h ∙ get_or_append_left cells rest d (i - first) (omega arith)

  pub set_after : (i : ℕ) (d : X) → first + length cells ≤ i → get_or (set_from first cells table) i d ≡ get_or table i d
  set_after i d h =
      let e : first + (length cells + (i - first - length cells)) ≡ i = omega arith in
      get_or-append_right (take first table) (cells ++ rest) first i d front (omega arith)
      ∙ get_or-append_right cells rest (length cells) (i - first) d refl (omega arith)
      ∙ get_or-drop (length cells) (drop first table) (i - first - length cells) d
      ∙ get_or-drop first table (length cells + (i - first - length cells)) d
      ∙ ap (λ n. get_or table n d) e

-- the ages that a delivery sets
pub age_at_lem : (ms : List Macroblock) (fs : List ℕ) (i : ℕ) → i < length ms → get_or (ages_of ms fs) i 0 ≡ next_age (intra_at ms i) (get_or fs i 0)
unfolding ages_of
age_at_lem [] fs i h = absurd (omega arith)
age_at_lem (m ∷ ms) [] zero h = refl
age_at_lem (m ∷ ms) [] (suc i) h = age_at_lem ms [] i (omega arith)
age_at_lem (m ∷ ms) (f ∷ fs) zero h = refl
age_at_lem (m ∷ ms) (f ∷ fs) (suc i) h = age_at_lem ms fs i (omega arith)

-- the ages that closing fills
pub filled_length : (gone : ℕ → Bool) (kind : PictureKind) (n : ℕ) (fs ws : List ℕ) → length (ages_filled gone kind n fs ws) ≡ length ws
unfolding ages_filled
filled_length gone kind n [] ws = refl
filled_length gone kind n (f ∷ fs) [] = refl
filled_length gone kind n (f ∷ fs) (w ∷ ws) = ap suc (filled_length gone kind (n + 1) fs ws)

pub filled_at : (gone : ℕ → Bool) (kind : PictureKind) (n : ℕ) (fs ws : List ℕ) (i : ℕ) → i < length fs → i < length ws
    → get_or (ages_filled gone kind n fs ws) i 0 ≡ cond (gone (n + i)) (fill_age kind (get_or fs i 0)) (get_or ws i 0)
unfolding ages_filled
filled_at gone kind n [] ws i h l = absurd (omega arith)
filled_at gone kind n (f ∷ fs) [] i h l = absurd (omega arith)
filled_at gone kind n (f ∷ fs) (w ∷ ws) zero h l =
    let e : n ≡ n + 0 = omega arith in ap (λ m. cond (gone m) (fill_age kind f) w) e
filled_at gone kind n (f ∷ fs) (w ∷ ws) (suc i) h l =
    let e : n + 1 + i ≡ n + suc i = omega arith in
    filled_at gone kind (n + 1) fs ws i (omega arith) (omega arith) ∙ ap (λ m. cond (gone m) (fill_age kind (get_or fs i 0)) (get_or ws i 0)) e
