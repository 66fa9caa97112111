use Rattle.std.proofs.Common.{◌≡◌, None, replicate, refl, ap, ◌∙◌, rules}
use Rattle.calls.specs.Held.{cells_of}
use Rattle.reels_in_memory.specs.Memories.{still}
use Rattle.reels_in_memory.proofs.memories.with_tables.Goals as goal

pub returns : goal.returns
returns g c =
    let cells : c.macroblocks-cells.result ≡ cells_of c.args.format = c.macroblocks-cells.ensures.value in
    let none : c.default.result ≡ still = λ i. record { horizontal = c.default.ensures.0 i; vertical = c.default.ensures.1 i } in
    record {
      first = refl;
      second = refl;
      finished_ages = c.in_ok-vec.ensures.items_if_clones_equal (λ y e. e) ∙ ap (λ n. replicate n 0) cells;
      working_ages = c.in_ok-vec-2.ensures.items_if_clones_equal (λ y e. e) ∙ ap (λ n. replicate n 0) cells;
      vectors = c.in_ok-vec-3.ensures.items_if_clones_equal (λ y e. e) ∙ ap (λ n. replicate n c.default.result) cells ∙ ap (replicate (cells_of c.args.format)) none;
      marks = c.in_ok-vec-4.ensures.items_if_clones_equal (λ y e. search rules) ∙ ap (λ n. replicate n None) cells;
    }
