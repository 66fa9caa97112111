-- The four-byte words of a delivery and their fields.
use Rattle.std.specs.Prelude.{ℕ, ◌+◌, ◌-◌, ◌*◌, ◌/◌, ◌%◌, ◌^◌, cond, List, [], ◌∷◌, ℤ, pos, ◌-ℤ◌, nat_lt}
use Rattle.records.specs.declared.types.WordKind.{WordKind}
use Rattle.records.specs.declared.types.WordKind.TheVariants.{Head, Vector, Dc, Coefficient}

-- four bytes make a word, the first byte holding the top bits
abbrev pub word_of : ℕ → ℕ → ℕ → ℕ → ℕ
word_of a b c d = ((a * 256 + b) * 256 + c) * 256 + d

abbrev pub words_of : List ℕ → List ℕ
words_of [] = []
words_of (a ∷ []) = []
words_of (a ∷ b ∷ []) = []
words_of (a ∷ b ∷ c ∷ []) = []
words_of (a ∷ b ∷ c ∷ d ∷ rest) = word_of a b c d ∷ words_of rest

-- the number in the bits of a word from high down to low, of which bit 31 is the top one
abbrev pub bits : ℕ → ℕ → ℕ → ℕ
bits high low w = w / 2 ^ low % 2 ^ (high + 1 - low)

-- a byte in two's complement
abbrev pub twos_complement : ℕ → ℤ
twos_complement n = cond (nat_lt n 128) (pos n) (pos n -ℤ pos 256)

-- the number of a kind of word, which stands in bits 31 to 28
abbrev pub kind_number : WordKind → ℕ
kind_number Head = 1
kind_number Vector = 2
kind_number Dc = 3
kind_number Coefficient = 4

-- the bits of a word that have no name in its kind
abbrev pub unnamed : WordKind → ℕ → ℕ
unnamed Head w = bits 14 0 w
unnamed Vector w = bits 27 12 w
unnamed Dc w = bits 24 8 w
unnamed Coefficient w = bits 17 8 w
