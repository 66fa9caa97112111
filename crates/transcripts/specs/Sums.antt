-- Sums of 32 bits.
use Rattle.std.specs.Prelude.{ℕ, zero, suc, ◌-◌, ◌*◌, ◌%◌, ◌^◌, false, List, ◌++◌, length, replicate, bit_xor, fold, codes}
use Rattle.std.specs.Fmt.{digits}
use Rattle.pictures.specs.Pictures.{Picture, side}
use Rattle.transcripts.specs.declared.sums.PictureSums.{PictureSums}

abbrev pub sum_more : ℕ → ℕ → ℕ
sum_more sum byte = (bit_xor sum byte * 16777619) % 2 ^ 32

-- of a table
abbrev pub sum_of : List ℕ → ℕ
sum_of bytes = fold sum_more 2166136261 bytes

-- of the first samples of a row, after a sum
unfoldable pub sum_with_row : (ℕ → ℕ → ℕ) → ℕ → ℕ → ℕ → ℕ
sum_with_row sample down zero sum = sum
sum_with_row sample down (suc across) sum = sum_more (sum_with_row sample down across sum) (sample across down)

-- of the first rows of a plane so wide
unfoldable pub sum_of_rows : (ℕ → ℕ → ℕ) → ℕ → ℕ → ℕ
sum_of_rows sample width zero = 2166136261
sum_of_rows sample width (suc down) = sum_with_row sample down width (sum_of_rows sample width down)

abbrev pub plane_sum : Picture → ℕ → ℕ
plane_sum f plane = sum_of_rows (f.sample plane) (f.wide * side plane) (f.high * side plane)

-- eight hexadecimal digits, with zeros (48) before those of the number
abbrev pub eight_digits : ℕ → List ℕ
eight_digits n = replicate (8 - length (digits 16 false n)) 48 ++ digits 16 false n

-- the line of a picture
abbrev pub sums_text : PictureSums → List ℕ
sums_text s = codes "picture " ++ (eight_digits s.luma ++ (codes " " ++ (eight_digits s.cb ++ (codes " " ++ (eight_digits s.cr ++ (codes " ages " ++ eight_digits s.ages))))))
