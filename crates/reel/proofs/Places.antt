-- Places of a picture and cells of its tables.
use Rattle.std.proofs.Common.{◌≡◌, ℕ, ◌+◌, ◌*◌, ◌<◌, false, mul_comm, arith}
use Rattle.std.proofs.lemmas.Nat.{mul-add-lt}
use Rattle.std.proofs.lemmas.Bool.Decides.{nat_tests}
use Rattle.pictures.specs.Pictures.{inside}

-- a picture has no plane of a number that is no byte
pub no_plane : (columns rows p x y : ℕ) → (p < 256 → ⊥) → inside columns rows p x y ≡ false
unfolding inside
no_plane columns rows p x y h = grind (arith, nat_tests)

-- a macroblock has one of the cells
pub cell_below : (columns rows column row : ℕ) → column < columns → row < rows → row * columns + column < columns * rows
cell_below columns rows column row h i = omega (arith, mul-add-lt row columns column rows i h, mul_comm rows columns)
