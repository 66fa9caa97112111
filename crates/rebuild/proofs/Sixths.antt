-- The places of a macroblock, block by block.
use Rattle.std.proofs.Common.{◌≡◌, ℕ, zero, suc, ◌+◌, ◌*◌, ◌%◌, ◌<◌, ◌≤◌, Bool, true, false, ◌&&◌, ◌||◌, eqb, ltb, List, Option, get_or, ℤ, pos, refl, subst, ⊎_elim, arith}
use Rattle.std.proofs.Math.Bool.{and-false, and-true}
use Rattle.std.proofs.lemmas.Bool.{cases_eq, lt-ltb}
use Rattle.records.specs.declared.types.Macroblock.{Macroblock}
use Rattle.records.specs.declared.types.Macroblock.TheVariants.{Skipped, Inter, Intra}
use Rattle.motion.specs.declared.vectors.Vector.{Vector}
use Rattle.pictures.specs.declared.layouts.Segment.{Segment}
use Rattle.std.proofs.lemmas.Bool.Decides.{nat_tests}
use Rattle.pictures.specs.Pictures.{Picture, covers, has, inside, painted, square_at}
use Rattle.pictures.proofs.Painting.{alike, both, none, same_picture}
use Rattle.rebuild.specs.Blocks.{summed}
use Rattle.rebuild.specs.Macroblocks.{block_of, left_in, coded_sample, macroblock_sample, plane_of, residual_of, segment_of_one, source_for, top_in}

-- the places of a macroblock in its blocks before block b
unfoldable pub macroblock_up_to : ℕ → ℕ → ℕ → ℕ → ℕ → ℕ → Bool
macroblock_up_to column row b q u v = covers (segment_of_one column row) q u v && ltb (block_of q u v) b

blocks_none : (column row q u v : ℕ) → macroblock_up_to column row 0 q u v ≡ false
unfolding macroblock_up_to
blocks_none column row q u v = grind (arith, nat_tests)

-- a chroma place is in no other block than its plane's
apart : (m : Bool) (b q : ℕ) → (q + 3 ≡ b → ⊥) → (m && ltb (q + 3) (b + 1)) ≡ (m && ltb (q + 3) b)
apart true b q h = grind (arith, nat_tests)
apart false b q h = refl

-- where the next block adds its places to those before it
abbrev More : ℕ → ℕ → ℕ → ℕ → ℕ → ℕ → Type 0
More column row b q u v =
    macroblock_up_to column row (b + 1) q u v ≡ (square_at (plane_of b) (left_in column b) (top_in row b) q u v || macroblock_up_to column row b q u v)

-- none of them where a chroma plane is not the block's, and all of the plane's where it is
elsewhere : (column row b q u v : ℕ) → 0 < q → (q + 3 ≡ b → ⊥) → eqb (plane_of b) q ≡ false → More column row b q u v
unfolding macroblock_up_to square_at block_of
elsewhere column row b q u v p h e =
    let z : eqb q 0 ≡ false = grind (arith, nat_tests) in
    simp (e, z) (apart (covers (segment_of_one column row) q u v) b q h)

own_plane : (column row q u v : ℕ) → More column row (q + 4) (suc q) u v
unfolding macroblock_up_to covers square_at block_of
own_plane column row q u v = grind (arith, nat_tests)

-- and so for every block and place
blocks_more : (column row b q u v : ℕ) → More column row b q u v
unfolding macroblock_up_to covers square_at block_of
blocks_more column row zero zero u v = grind (arith, nat_tests)
blocks_more column row (suc zero) zero u v = grind (arith, nat_tests)
blocks_more column row (suc (suc zero)) zero u v = grind (arith, nat_tests)
blocks_more column row (suc (suc (suc zero))) zero u v = grind (arith, nat_tests)
blocks_more column row (suc (suc (suc (suc b)))) zero u v = grind (arith, nat_tests)
blocks_more column row b (suc q) u v =
    ⊎_elim (λ (e : q + 4 ≡ b). let P : ℕ → Type 0 = λ n. More column row n (suc q) u v in subst P e (own_plane column row q u v))
    (λ (n : q + 4 ≡ b → ⊥). elsewhere column row b (suc q) u v (omega arith) (λ e. n (omega (arith, e))) (grind (arith, nat_tests))) (cases_eq (q + 4) b)

-- every place of a picture is in one of six blocks
six : (q u v wide high : ℕ) → inside wide high q u v ≡ true → block_of q u v < 6
unfolding block_of inside
six zero u v wide high e = grind (arith, nat_tests)
six (suc q) u v wide high e = grind (arith, nat_tests)

blocks_all : (column row b q u v wide high : ℕ) → 6 ≤ b → inside wide high q u v ≡ true → macroblock_up_to column row b q u v ≡ covers (segment_of_one column row) q u v
unfolding macroblock_up_to
blocks_all column row b q u v wide high h e = rw (lt-ltb (block_of q u v) b (omega (arith, six q u v wide high e))) (and-true _)

-- a place of a block is in its plane, and the block is the one that the place belongs to
pub in_block : (column row b q u v : ℕ) → square_at (plane_of b) (left_in column b) (top_in row b) q u v ≡ true → (q ≡ plane_of b) × (block_of q u v ≡ b)
unfolding square_at block_of
in_block column row zero q u v e = (grind (arith, nat_tests), grind (arith, nat_tests))
in_block column row (suc zero) q u v e = (grind (arith, nat_tests), grind (arith, nat_tests))
in_block column row (suc (suc zero)) q u v e = (grind (arith, nat_tests), grind (arith, nat_tests))
in_block column row (suc (suc (suc zero))) q u v e = (grind (arith, nat_tests), grind (arith, nat_tests))
in_block column row (suc (suc (suc (suc b)))) q u v e = (grind (arith, nat_tests), grind (arith, nat_tests))

-- what is painted of the same samples at its places is one picture
pub agreeing : (places : ℕ → ℕ → ℕ → Bool) (new new' : ℕ → ℕ → ℕ → ℕ) (f : Picture)
    → ((q u v : ℕ) → places q u v ≡ true → new q u v ≡ new' q u v) → painted places new f ≡ painted places new' f
agreeing places new new' f same = same_picture _ _ refl refl (λ q u v. at q u v (places q u v) refl)
  where
    at : (q u v : ℕ) (b : Bool) → places q u v ≡ b → (painted places new f).sample q u v ≡ (painted places new' f).sample q u v
    at q u v true e = simp (e, same q u v e)
    at q u v false e = simp (e, and-false (has f q u v))

-- a macroblock is painted block by block: f₁ is f with the blocks before b, and f₂ what block b makes of it
module _ (column row : ℕ) (new : ℕ → ℕ → ℕ → ℕ) (f : Picture) where
  pub no_block_painted : f ≡ painted (macroblock_up_to column row 0) new f
  no_block_painted = none _ new f (blocks_none column row)

  pub block_painted : (b : ℕ) (f₁ f₂ : Picture) → f₁ ≡ painted (macroblock_up_to column row b) new f
      → f₂ ≡ painted (square_at (plane_of b) (left_in column b) (top_in row b)) new f₁ → f₂ ≡ painted (macroblock_up_to column row (b + 1)) new f
  block_painted b f₁ f₂ was now = both _ _ (macroblock_up_to column row (b + 1)) new f f₁ f₂ was now (λ q u v. blocks_more column row b q u v)

  pub all_painted : (b : ℕ) → 6 ≤ b → painted (macroblock_up_to column row b) new f ≡ painted (covers (segment_of_one column row)) new f
  all_painted b h = alike _ _ new f (λ q u v e. blocks_all column row b q u v f.wide f.high h e)

-- a block's samples are the macroblock's
pub block_samples : (meaning : List ℤ → ℕ → ℕ → ℤ) (s : Segment) (rounding : ℕ) (picture : ℕ → ℕ → ℕ → ℕ) (m : Macroblock) (vector : Vector) (source : Option Vector) (residual : List ℤ) (p b q u v : ℕ)
    → source ≡ source_for m vector p → q ≡ p → block_of q u v ≡ b → get_or residual (8 * (v % 8) + u % 8) (pos 0) ≡ residual_of meaning m b (u % 8) (v % 8)
    → summed s rounding picture source residual q u v ≡ coded_sample meaning s rounding picture m vector q u v
unfolding summed coded_sample
block_samples meaning s rounding picture m vector source residual p b q u v e f g h = rw (g, ← h, e, f) refl

-- a skipped macroblock's samples, and a coded one's
module _ (meaning : List ℤ → ℕ → ℕ → ℤ) (s : Segment) (rounding : ℕ) (picture : ℕ → ℕ → ℕ → ℕ) (vector : Vector) (q u v : ℕ) where
  pub skipped_sample : (m : Macroblock) → m ≡ Skipped → picture q u v ≡ macroblock_sample meaning s rounding picture m vector q u v
  unfolding macroblock_sample
  skipped_sample m e = rw e refl

  pub coded_sample_lem : (m : Macroblock) → (m ≡ Skipped → ⊥) → coded_sample meaning s rounding picture m vector q u v ≡ macroblock_sample meaning s rounding picture m vector q u v
  unfolding macroblock_sample
  coded_sample_lem Skipped h = absurd (h refl)
  coded_sample_lem (Inter quantizer pattern d blocks) h = refl
  coded_sample_lem (Intra quantizer pattern blocks) h = refl
