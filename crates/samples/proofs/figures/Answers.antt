use Rattle.std.proofs.Common.{refl}
use Rattle.transform.specs.Inverse.{limited}
use Rattle.transform.specs.Levels.{rebuilt_size}
use Rattle.transform.specs.Signs.{with_sign}
use Rattle.transform.specs.Sums.{brought}
use Rattle.samples.specs.Deblocking.{quotient, strength_of, step_of, inner_of, outer_of, new_a, new_d}
use Rattle.samples.specs.Vectors.{wrapped, chroma_size}
use Rattle.samples.proofs.Levels.{level_254, level_255}
use Rattle.samples.proofs.figures.Goals as goal

pub returns : goal.returns
unfolding limited rebuilt_size with_sign brought quotient strength_of step_of inner_of outer_of new_a new_d wrapped chroma_size
returns c =
    record {
      odd_quantizer = refl;
      even_quantizer = refl;
      upper_end = refl;
      lower_end = refl;
      code_254 = level_254;
      code_255 = level_255;
      wraps_down = refl;
      wraps_to_the_end = refl;
      chroma_of_3 = refl;
      chroma_of_minus_5 = refl;
      chroma_of_minus_32 = refl;
      rounded_up = λ c d. refl;
      rounded_down = λ c d. refl;
      edge_at_8 = refl;
      edge_at_12 = refl;
      falling_edge = refl;
    }
