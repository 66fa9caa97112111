-- Worked figures of the rules. Assumes nothing.
use Rattle.std.specs.Prelude.{◌≡◌, ℕ, true, false, ◌∷◌, replicate, ℤ, pos, negsuc, Some}
use Rattle.transform.specs.Blocks.{Everywhere}
use Rattle.transform.specs.Coefficients.{block_coefficients}
use Rattle.transform.specs.Inverse.{two_pass, direct}
use Rattle.transform.specs.Levels.{dequantized}
use Rattle.samples.specs.Deblocking.{deblocked, step_of, strength_of}
use Rattle.samples.specs.Prediction.{predicted}
use Rattle.samples.specs.Vectors.{chroma_of, vector_of}
use Rattle.samples.specs.declared.deblocking.Four.{Four}

-- all 64 results of both transforms are r, for an INTRA block that has a code for its first coefficient and no other: at every quantizer,
-- and whatever stands at the first place of the levels
abbrev pub Level : ℕ → ℤ → Type 0
Level code r =
    (quantizer : ℕ) (first : ℤ) → Everywhere (λ n k. (two_pass (block_coefficients quantizer (Some code) (first ∷ replicate 63 (pos 0))) n k ≡ r)
    × (direct (block_coefficients quantizer (Some code) (first ∷ replicate 63 (pos 0))) n k ≡ r))

-- four samples over an edge
abbrev pub over : ℕ → ℕ → ℕ → ℕ → Four
over a b c d = record { a = a; b = b; c = c; d = d }

pub record Figures : Type 0 where
  -- levels at quantizers
  pub odd_quantizer : dequantized 5 (pos 3) ≡ pos 35
  pub even_quantizer : dequantized 4 (negsuc 2) ≡ negsuc 26
  pub upper_end : dequantized 31 (pos 127) ≡ pos 2047
  pub lower_end : dequantized 31 (negsuc 126) ≡ negsuc 2047
  -- codes of first coefficients
  pub code_254 : Level 254 (pos 254)
  pub code_255 : Level 255 (pos 128)
  -- predictors and differences
  pub wraps_down : vector_of (pos 30) (pos 5) ≡ negsuc 28
  pub wraps_to_the_end : vector_of (pos 31) (pos 1) ≡ negsuc 31
  -- chroma components
  pub chroma_of_3 : chroma_of (pos 3) ≡ pos 1
  pub chroma_of_minus_5 : chroma_of (negsuc 4) ≡ negsuc 2
  pub chroma_of_minus_32 : chroma_of (negsuc 31) ≡ negsuc 15
  -- half a sample across, from 10 and 11, at each rounding
  pub rounded_up : (c d : ℕ) → predicted 0 true false 10 11 c d ≡ 11
  pub rounded_down : (c d : ℕ) → predicted 1 true false 10 11 c d ≡ 10
  -- an edge of 20, at the quantizers 8 and 12
  pub edge_at_8 : deblocked (strength_of 8) (over 100 100 120 120) ≡ over 100 101 119 120
  pub edge_at_12 : deblocked (strength_of 12) (over 100 100 120 120) ≡ over 102 105 115 118
  -- -60 / 8 with the fraction dropped
  pub falling_edge : step_of (over 120 120 100 100) ≡ negsuc 6
