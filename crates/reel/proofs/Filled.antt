-- The ages at a closing, cell after cell.
use Rattle.std.proofs.Common.{◌≡◌, ℕ, ◌+◌, ◌<◌, ◌≤◌, Bool, cond, List, [], ◌∷◌, ◌++◌, length, get_or, take, drop, set, sym, ap, ◌∙◌, append_assoc, append-nil, arith}
use Rattle.std.proofs.lemmas.List.{drop_all, drop_more, drop-set-lt, take_all, take_more_set}
use Rattle.records.specs.declared.types.PictureKind.{PictureKind}
use Rattle.calls.specs.Effects.{ages_filled, fill_age}

module _ (gone : ℕ → Bool) (kind : PictureKind) (finished : List ℕ) where
  -- one cell more is set
  pub ages_more : (working whole : List ℕ) (i y : ℕ) → i < length finished → i < length working
      → y ≡ cond (gone i) (fill_age kind (get_or finished i 0)) (get_or working i 0)
      → take i working ++ ages_filled gone kind i (drop i finished) (drop i working) ≡ whole
      → take (i + 1) (set working i y) ++ ages_filled gone kind (i + 1) (drop (i + 1) finished) (drop (i + 1) (set working i y)) ≡ whole
  unfolding ages_filled
  ages_more working whole i y f w e inv =
      let rest = ages_filled gone kind (i + 1) (drop (i + 1) finished) (drop (i + 1) working) in
      let front : take (i + 1) (set working i y) ≡ take i working ++ (y ∷ []) = take_more_set working i y w in
      let back : drop (i + 1) (set working i y) ≡ drop (i + 1) working = drop-set-lt (i + 1) working i y (omega arith) in
      let now : take i working ++ (cond (gone i) (fill_age kind (get_or finished i 0)) (get_or working i 0) ∷ rest) ≡ whole
      = ap (λ xs. take i working ++ xs)
      (sym (ap (λ xs. ages_filled gone kind i xs (drop i working)) (drop_more finished i 0 f)
      ∙ ap (λ xs. ages_filled gone kind i (get_or finished i 0 ∷ drop (i + 1) finished) xs) (drop_more working i 0 w)))
      ∙ inv in
      ap (λ xs. xs ++ ages_filled gone kind (i + 1) (drop (i + 1) finished) (drop (i + 1) (set working i y))) front
      ∙ ap (λ xs. (take i working ++ (y ∷ [])) ++ ages_filled gone kind (i + 1) (drop (i + 1) finished) xs) back
      ∙ append_assoc (take i working) (y ∷ []) rest
      ∙ ap (λ x. take i working ++ (x ∷ rest)) e
      ∙ now

  -- all are
  pub ages_all : (working whole : List ℕ) (i : ℕ) → length finished ≤ i → length working ≤ i
      → take i working ++ ages_filled gone kind i (drop i finished) (drop i working) ≡ whole → working ≡ whole
  unfolding ages_filled
  ages_all working whole i f w inv =
      sym (append-nil working)
      ∙ ap (λ xs. xs ++ []) (sym (take_all i working w))
      ∙ ap (λ xs. take i working ++ xs) (sym (ap (λ xs. ages_filled gone kind i xs (drop i working)) (drop_all i finished f) ∙ drop_all i working w))
      ∙ inv
