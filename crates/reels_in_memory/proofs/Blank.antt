-- New memory holds zeros.
use Rattle.std.proofs.Common.{◌≡◌, ℕ, zero, suc, ◌/◌, ◌%◌, Bool, true, false, cond, List, replicate, slice_index, refl, ap, ◌∙◌}
use Rattle.pictures.specs.declared.formats.Format.{Format}
use Rattle.pictures.specs.Formats.{columns_of, rows_of}
use Rattle.pictures.specs.Pictures.{inside}
use Rattle.pictures.proofs.Painting.{same_picture}
use Rattle.stores.specs.Bytes.{bytes_seen}
use Rattle.stores.specs.Tiles.{four, tile_address, tiles_seen}
use Rattle.reels_in_memory.specs.Memories.{blank_picture}

all_zero : (n i : ℕ) → slice_index (replicate n 0) i ≡ 0
all_zero zero i = refl
all_zero (suc n) zero = refl
all_zero (suc n) (suc i) = all_zero n i

either : (b : Bool) (x : ℕ) → x ≡ 0 → cond b x 0 ≡ 0
either true x e = e
either false x e = refl

pub blank_bytes : (format : Format) (columns rows n : ℕ) (bytes : List ℕ) → columns ≡ columns_of format → rows ≡ rows_of format → bytes ≡ replicate n 0 → bytes_seen columns rows bytes ≡ blank_picture format
blank_bytes format columns rows n bytes c r b = same_picture _ _ c r (λ p x y. either (inside columns rows p x y) _ (rw b (ap (λ k. k % 256) (all_zero n _))))

lanes : (n i k : ℕ) → slice_index (four (slice_index (replicate n 0) i)) k ≡ 0
lanes n i k = ap (λ word. slice_index (four word) k) (all_zero n i) ∙ all_zero 4 k

pub blank_tiles : (format : Format) (columns rows n : ℕ) (words : List ℕ) → columns ≡ columns_of format → rows ≡ rows_of format → words ≡ replicate n 0 → tiles_seen columns rows words ≡ blank_picture format
blank_tiles format columns rows n words c r b = same_picture _ _ c r (λ p x y. either (inside columns rows p x y) _ (rw b (lanes n (tile_address columns p x y / 4) (tile_address columns p x y % 4))))
