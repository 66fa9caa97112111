use Rattle.std.proofs.Common.{◌≡◌, ℕ, ◌<◌, get_or, pos}
use Rattle.samples.specs.Deblocking.{deblocked, four_at, new_a, new_d, strength_of}
use Rattle.samples.proofs.Fill.{Filled}
use Rattle.samples.proofs.deblocking.deblock_rows.Given as goal

-- the places before this one are filtered
abbrev pub invariant-loop-i : goal.invariant-loop-i
invariant-loop-i l =
    record {
      in_a : Filled 8 (λ k. (deblocked (strength_of l.quantizer) (four_at l.rows k)).a) l.i l.a;
      in_b : Filled 8 (λ k. (deblocked (strength_of l.quantizer) (four_at l.rows k)).b) l.i l.b;
      in_c : Filled 8 (λ k. (deblocked (strength_of l.quantizer) (four_at l.rows k)).c) l.i l.c;
      in_d : Filled 8 (λ k. (deblocked (strength_of l.quantizer) (four_at l.rows k)).d) l.i l.d;
      outer_a : (k : ℕ) → k < l.i → pos (get_or l.a k 0) ≡ new_a (strength_of l.quantizer) (four_at l.rows k);
      outer_d : (k : ℕ) → k < l.i → pos (get_or l.d k 0) ≡ new_d (strength_of l.quantizer) (four_at l.rows k);
    }
