-- What rebuilding a segment depends on. Assumes nothing.
use Rattle.std.specs.Prelude.{◌≡◌, ℕ, ◌<◌, true, List, ℤ, Option}
use Rattle.records.specs.declared.types.Macroblock.{Macroblock}
use Rattle.records.specs.Deliveries.{intra_at}
use Rattle.pictures.specs.declared.layouts.Segment.{Segment}
use Rattle.pictures.specs.Pictures.{Picture, covers}
use Rattle.rebuild.specs.Rebuilt.{count_of, rebuilt}

-- Over every meaning of a transform, rounding, records, marks and working picture:
pub record Independent (s : Segment) : Type 0 where
  -- finished pictures that agree at the segment's own places give one rebuilt picture
  pub own_places : (meaning : List ℤ → ℕ → ℕ → ℤ) (rounding : ℕ) (records : List Macroblock) (marks : List (Option ℕ)) (working : Picture) (f g : ℕ → ℕ → ℕ → ℕ)
      → ((q u v : ℕ) → covers s q u v ≡ true → f q u v ≡ g q u v)
      → rebuilt meaning s rounding f records marks working ≡ rebuilt meaning s rounding g records marks working
  -- records that are all INTRA give one rebuilt picture, whatever the finished picture is
  pub from_none : (meaning : List ℤ → ℕ → ℕ → ℤ) (rounding : ℕ) (records : List Macroblock) (marks : List (Option ℕ)) (working : Picture) (f g : ℕ → ℕ → ℕ → ℕ)
      → ((i : ℕ) → i < count_of s → intra_at records i ≡ true)
      → rebuilt meaning s rounding f records marks working ≡ rebuilt meaning s rounding g records marks working
