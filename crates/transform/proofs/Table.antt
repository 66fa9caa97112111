-- The code's table of factors keeps the rule. Assumes nothing.
use Rattle.std.proofs.Common.{◌≡◌, ℕ, ◌<◌, List, [], ◌∷◌, get_or, ℤ, pos, negsuc, w64, to_z, of_z}
use Rattle.transform.specs.Factors.{cosine, size, mirrored, signed}
use Rattle.transform.proofs.Finite.{all_to, below, eq_z, eq_z_eq}

abbrev pub table : List (List ℤ)
table =
    (pos 2048 ∷ pos 2048 ∷ pos 2048 ∷ pos 2048 ∷ pos 2048 ∷ pos 2048 ∷ pos 2048 ∷ pos 2048 ∷ [])
    ∷ (pos 2841 ∷ pos 2408 ∷ pos 1609 ∷ pos 565 ∷ negsuc 564 ∷ negsuc 1608 ∷ negsuc 2407 ∷ negsuc 2840 ∷ [])
    ∷ (pos 2676 ∷ pos 1108 ∷ negsuc 1107 ∷ negsuc 2675 ∷ negsuc 2675 ∷ negsuc 1107 ∷ pos 1108 ∷ pos 2676 ∷ [])
    ∷ (pos 2408 ∷ negsuc 564 ∷ negsuc 2840 ∷ negsuc 1608 ∷ pos 1609 ∷ pos 2841 ∷ pos 565 ∷ negsuc 2407 ∷ [])
    ∷ (pos 2048 ∷ negsuc 2047 ∷ negsuc 2047 ∷ pos 2048 ∷ pos 2048 ∷ negsuc 2047 ∷ negsuc 2047 ∷ pos 2048 ∷ [])
    ∷ (pos 1609 ∷ negsuc 2840 ∷ pos 565 ∷ pos 2408 ∷ negsuc 2407 ∷ negsuc 564 ∷ pos 2841 ∷ negsuc 1608 ∷ [])
    ∷ (pos 1108 ∷ negsuc 2675 ∷ pos 2676 ∷ negsuc 1107 ∷ negsuc 1107 ∷ pos 2676 ∷ negsuc 2675 ∷ pos 1108 ∷ [])
    ∷ (pos 565 ∷ negsuc 1608 ∷ pos 2408 ∷ negsuc 2840 ∷ pos 2841 ∷ negsuc 2407 ∷ pos 1609 ∷ negsuc 564 ∷ []) ∷ []

-- an element as the code reads it
abbrev pub entry : ℕ → ℕ → ℤ
entry u n = to_z w64 (of_z w64 (get_or (get_or table u []) n (pos 0)))

pub entry_is : (u n : ℕ) → u < 8 → n < 8 → entry u n ≡ cosine u n
unfolding cosine size mirrored signed
entry_is u n hu hn =
    eq_z_eq _ _ (below 8 (λ m. eq_z (entry u m) (cosine u m)) (below 8 (λ j. all_to 8 (λ m. eq_z (entry j m) (cosine j m))) tt u hu) n hn)
