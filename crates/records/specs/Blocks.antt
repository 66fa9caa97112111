-- The words of a block: the code of the first coefficient where it is INTRA, and coefficients where the pattern has its bit.
use Rattle.std.specs.Prelude.{ℕ, ◌+◌, ◌-◌, ◌/◌, ◌%◌, ◌^◌, Bool, cond, not, ◌||◌, List, [], ◌∷◌, replicate, ℤ, pos, Some, None, Ok, Err, Option, Result, ◌==◌, nat_le, slice_set}
use Rattle.records.specs.declared.faults.Place.{Place}
use Rattle.records.specs.declared.faults.WordFault.TheVariants.{Missing}
use Rattle.records.specs.declared.faults.BlockFault.{BlockFault}
use Rattle.records.specs.declared.faults.BlockFault.TheVariants.{Word, Number, Level, Position}
use Rattle.records.specs.declared.types.WordKind.TheVariants as due
use Rattle.records.specs.declared.types.Block.{Block}
use Rattle.records.specs.declared.types.Coefficient.{Coefficient}
use Rattle.records.specs.Words.{bits, twos_complement}
use Rattle.records.specs.Reading.{Unread, and_then, ask, formed, place_at, with_unread, word_from}

-- the code in a DC word: bits 27 to 25 number the block, and codes 0 and 128 are forbidden
abbrev pub code_of : Place → ℕ → Result ℕ BlockFault
code_of p w =
    ask (bits 27 25 w == p.block) (Number p)
    (ask (not (bits 7 0 w == 0 || bits 7 0 w == 128)) (Level p)
    (Ok (bits 7 0 w)))

-- the coefficient in a word, put after its run from a position on: levels 0 and -128 are forbidden, and 63 is the last position
abbrev pub coefficient_of : Place → ℕ → ℕ → Result Coefficient BlockFault
coefficient_of p from w =
    ask (bits 27 25 w == p.block) (Number p)
    (ask (not (bits 7 0 w == 0 || bits 7 0 w == 128)) (Level p)
    (ask (nat_le (from + bits 24 19 w) 63) (Position p)
    (Ok (record { position = from + bits 24 19 w; level = twos_complement (bits 7 0 w); last = (bits 18 18 w == 1) }))))

-- the same, of a word that has to be a coefficient
abbrev pub coefficient_in : Place → ℕ → ℕ → Result Coefficient BlockFault
coefficient_in p from w = and_then Word (formed due.Coefficient p w) (coefficient_of p from)

-- after a coefficient: the fault, the block's end, or what the words after it give from the next position on
abbrev pub after_one : {X : Type 0} → Result Coefficient BlockFault → List ℤ → (List ℤ → Result X BlockFault) → (ℕ → List ℤ → Result X BlockFault) → Result X BlockFault
after_one (Err f) levels end on = Err f
after_one (Ok c) levels end on = cond c.last (end (slice_set levels c.position c.level)) (on (c.position + 1) (slice_set levels c.position c.level))

-- the levels of block b of macroblock m, by their place on the zigzag: coefficients from a position on, up to one that is the last
abbrev pub levels_in : List ℕ → ℕ → ℕ → ℕ → ℕ → List ℤ → Result (List ℤ × Unread) BlockFault
levels_in [] i m b from levels = Err (Word (Missing (place_at ([], i) m b)))
levels_in (w ∷ ws) i m b from levels =
    after_one (coefficient_in (place_at (ws, i) m b) from w) levels (λ lv. Ok (lv, (ws, i + 1))) (λ next lv. levels_in ws (i + 1) m b next lv)

abbrev pub no_levels : List ℤ
no_levels = replicate 64 (pos 0)

abbrev pub levels_from : Unread → ℕ → ℕ → ℕ → List ℤ → Result (List ℤ × Unread) BlockFault
levels_from s m b from levels = levels_in s.0 s.1 m b from levels

-- a block's levels are all 0 where it has no coefficient words
abbrev pub levels_if : Bool → Unread → ℕ → ℕ → ℕ → Result (List ℤ × Unread) BlockFault
levels_if coded s m b from = cond coded (levels_from s m b from no_levels) (Ok (no_levels, s))

abbrev pub code_from : Unread → ℕ → ℕ → Result (ℕ × Unread) BlockFault
code_from s m b = and_then Word (word_from due.Dc (place_at s m b) s) (λ q. with_unread (code_of (place_at s m b) q.0) q.1)

-- an INTRA block begins with a DC word
abbrev pub code_if : Bool → Unread → ℕ → ℕ → Result (Option ℕ × Unread) BlockFault
code_if intra s m b = cond intra (and_then (λ f. f) (code_from s m b) (λ q. Ok (Some q.0, q.1))) (Ok (None, s))

-- block b has coefficient words: bit 5 - b of the pattern
abbrev pub coded_in : ℕ → ℕ → Bool
coded_in pattern b = pattern / 2 ^ (5 - b) % 2 == 1

-- positions begin at 1 where the first coefficient has its code
abbrev pub first_position : Bool → ℕ
first_position intra = cond intra 1 0

abbrev pub block_from : Bool → ℕ → Unread → ℕ → ℕ → Result (Block × Unread) BlockFault
block_from intra pattern s m b =
    and_then (λ f. f) (code_if intra s m b) (λ q.
    and_then (λ f. f) (levels_if (coded_in pattern b) q.1 m b (first_position intra)) (λ r.
    Ok (record { dc = q.0; levels = r.0 }, r.1)))
