-- A delivery: the macroblocks of a segment in raster order, and no word after them.
use Rattle.std.specs.Prelude.{◌≡◌, ℕ, zero, suc, ◌+◌, ◌/◌, ◌%◌, ◌<◌, Bool, true, false, cond, List, [], ◌∷◌, length, Ok, Err, Result, ◌==◌, slice_index_or}
use Rattle.records.specs.declared.faults.WordFault.{WordFault}
use Rattle.records.specs.declared.faults.WordFault.TheVariants.{ByteCount}
use Rattle.records.specs.declared.faults.SegmentFault.{SegmentFault}
use Rattle.records.specs.declared.faults.SegmentFault.TheVariants.{Word, Macroblock as in_macroblock, LeftOver}
use Rattle.records.specs.declared.types.PictureKind.{PictureKind}
use Rattle.records.specs.declared.types.PictureKind.TheVariants as picture
use Rattle.records.specs.declared.types.Macroblock.{Macroblock}
use Rattle.records.specs.declared.types.Macroblock.TheVariants.{Skipped, Inter, Intra}
use Rattle.records.specs.declared.types.Delivered.{Delivered}
use Rattle.records.specs.Words.{words_of}
use Rattle.records.specs.Reading.{Unread, and_then, ask, place_at}
use Rattle.records.specs.Macroblocks.{in_front, macroblock_from}

-- bytes are whole words
abbrev pub whole_words : List ℕ → Result (Unit {0}) WordFault
whole_words bytes = ask (length bytes % 4 == 0) ByteCount (Ok tt)

-- so many macroblocks, from macroblock m on
unfoldable pub macroblocks_from : ℕ → PictureKind → Unread → ℕ → Result (List Macroblock × Unread) SegmentFault
macroblocks_from zero kind s m = Ok ([], s)
macroblocks_from (suc left) kind s m =
    and_then in_macroblock (macroblock_from kind s m) (λ q. in_front (q.0 ∷ []) (macroblocks_from left kind q.1 (m + 1)))

-- no word is left after the last of so many macroblocks
abbrev pub end_in : ℕ → List ℕ → ℕ → Result (Unit {0}) SegmentFault
end_in count [] i = Ok tt
end_in count (w ∷ ws) i = Err (LeftOver (place_at (ws, i) count 6))

abbrev pub end_from : ℕ → Unread → Result (Unit {0}) SegmentFault
end_from count s = end_in count s.0 s.1

-- What the bytes of a delivery mean, in a picture of a kind, for a segment of so many macroblocks: their records, or the one fault.
unfoldable pub read : PictureKind → ℕ → List ℕ → Result (List Macroblock) SegmentFault
read kind count bytes =
    and_then Word (whole_words bytes) (λ _.
    and_then (λ f. f) (macroblocks_from count kind (words_of bytes, 0) 0) (λ q.
    and_then (λ f. f) (end_from count q.1) (λ _.
    Ok q.0)))

abbrev pub is_intra : Macroblock → Bool
is_intra Skipped = false
is_intra (Inter quantizer pattern difference blocks) = false
is_intra (Intra quantizer pattern blocks) = true

unfoldable pub intra_count : List Macroblock → ℕ
intra_count [] = 0
intra_count (m ∷ ms) = cond (is_intra m) 1 0 + intra_count ms

-- the INTRA macroblocks among those that are read, beside so many before
abbrev pub intra_counted : {F : Type 0} → ℕ → Result (List Macroblock × Unread) F → Result (ℕ × Unread) F
intra_counted k (Ok q) = Ok (k + intra_count q.0, q.1)
intra_counted k (Err f) = Err f

-- what an accepted delivery is answered
abbrev pub delivered_of : List ℕ → List Macroblock → Delivered
delivered_of bytes records = record { words = length bytes / 4; intra = intra_count records }

abbrev pub answered : PictureKind → ℕ → List ℕ → Result Delivered SegmentFault
answered kind count bytes = and_then (λ f. f) (read kind count bytes) (λ records. Ok (delivered_of bytes records))

-- the macroblock that stands i-th in the records is INTRA
abbrev pub intra_at : List Macroblock → ℕ → Bool
intra_at records i = is_intra (slice_index_or records i Skipped)

-- What is sure of accepted records: there is one for each macroblock, and in an INTRA picture all are INTRA.
pub record Whole (kind : PictureKind) (count : ℕ) (records : List Macroblock) : Type 0 where
  pub one_each : length records ≡ count
  pub intra : kind ≡ picture.Intra → (i : ℕ) → i < count → intra_at records i ≡ true
