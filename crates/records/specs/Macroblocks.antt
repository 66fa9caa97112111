-- The words of a macroblock: a head, one vector if it is INTER, and six blocks unless it is skipped.
use Rattle.std.specs.Prelude.{ℕ, zero, suc, ◌+◌, Bool, true, false, cond, ◌&&◌, List, [], ◌∷◌, ◌++◌, pos, ◌-ℤ◌, Some, None, Ok, Err, Option, Result, ◌==◌, nat_lt}
use Rattle.records.specs.declared.faults.Place.{Place}
use Rattle.records.specs.declared.faults.MacroblockFault.{MacroblockFault}
use Rattle.records.specs.declared.faults.MacroblockFault.TheVariants.{Word, Block as in_block, Head as bad_head}
use Rattle.records.specs.declared.types.PictureKind.{PictureKind}
use Rattle.records.specs.declared.types.PictureKind.TheVariants as picture
use Rattle.records.specs.declared.types.WordKind.TheVariants as due
use Rattle.records.specs.declared.types.MacroblockType.{MacroblockType}
use Rattle.records.specs.declared.types.MacroblockType.TheVariants as coding
use Rattle.records.specs.declared.types.Head.{Head}
use Rattle.records.specs.declared.types.Difference.{Difference}
use Rattle.records.specs.declared.types.Block.{Block}
use Rattle.records.specs.declared.types.Macroblock.{Macroblock}
use Rattle.records.specs.declared.types.Macroblock.TheVariants.{Skipped, Inter, Intra}
use Rattle.records.specs.Words.{bits}
use Rattle.records.specs.Reading.{Unread, and_then, ask, place_at, with_unread, word_from}
use Rattle.records.specs.Blocks.{block_from}

-- the type that a number stands for
abbrev pub type_of : ℕ → Option MacroblockType
type_of n = cond (n == 0) (Some coding.Skipped) (cond (n == 1) (Some coding.Inter) (cond (n == 2) (Some coding.Intra) None))

-- a type goes with the picture, and quantizer and pattern with the type: a quantizer of five bits is 1 to 31 unless it is 0
abbrev pub sound_head : PictureKind → MacroblockType → ℕ → ℕ → Bool
sound_head picture.Intra coding.Skipped quantizer pattern = false
sound_head picture.Intra coding.Inter quantizer pattern = false
sound_head picture.Intra coding.Intra quantizer pattern = nat_lt 0 quantizer
sound_head picture.Inter coding.Skipped quantizer pattern = quantizer == 0 && pattern == 0
sound_head picture.Inter coding.Inter quantizer pattern = nat_lt 0 quantizer
sound_head picture.Inter coding.Intra quantizer pattern = nat_lt 0 quantizer

-- a head, where its type is known
abbrev pub head_with : PictureKind → Place → Option MacroblockType → ℕ → ℕ → Result Head MacroblockFault
head_with kind p None quantizer pattern = Err (bad_head p)
head_with kind p (Some t) quantizer pattern =
    ask (sound_head kind t quantizer pattern) (bad_head p) (Ok (record { coding = t; quantizer = quantizer; pattern = pattern }))

-- the head in a word: bits 27 to 26 are its type, 25 to 21 its quantizer, 20 to 15 its pattern
abbrev pub head_of : PictureKind → Place → ℕ → Result Head MacroblockFault
head_of kind p w = head_with kind p (type_of (bits 27 26 w)) (bits 25 21 w) (bits 20 15 w)

abbrev pub head_from : PictureKind → Unread → ℕ → Result (Head × Unread) MacroblockFault
head_from kind s m = and_then Word (word_from due.Head (place_at s m 6) s) (λ q. with_unread (head_of kind (place_at s m 6) q.0) q.1)

-- the difference in a vector word: bits 11 to 6 horizontal, 5 to 0 vertical, each plus 32
abbrev pub difference_of : ℕ → Difference
difference_of w = record { horizontal = pos (bits 11 6 w) -ℤ pos 32; vertical = pos (bits 5 0 w) -ℤ pos 32 }

abbrev pub difference_from : Unread → ℕ → Result (Difference × Unread) MacroblockFault
difference_from s m = and_then Word (word_from due.Vector (place_at s m 6) s) (λ q. Ok (difference_of q.0, q.1))

-- puts what was read before in front of a list that is read
abbrev pub in_front : {X F : Type 0} → List X → Result (List X × Unread) F → Result (List X × Unread) F
in_front xs (Ok q) = Ok (xs ++ q.0, q.1)
in_front xs (Err f) = Err f

-- so many blocks, from block b on
unfoldable pub blocks_from : ℕ → Bool → ℕ → Unread → ℕ → ℕ → Result (List Block × Unread) MacroblockFault
blocks_from zero intra pattern s m b = Ok ([], s)
blocks_from (suc left) intra pattern s m b =
    and_then in_block (block_from intra pattern s m b) (λ q. in_front (q.0 ∷ []) (blocks_from left intra pattern q.1 m (b + 1)))

-- what follows a head
abbrev pub rest_from : MacroblockType → ℕ → ℕ → Unread → ℕ → Result (Macroblock × Unread) MacroblockFault
rest_from coding.Skipped quantizer pattern s m = Ok (Skipped, s)
rest_from coding.Inter quantizer pattern s m =
    and_then (λ f. f) (difference_from s m) (λ d.
    and_then (λ f. f) (blocks_from 6 false pattern d.1 m 0) (λ b.
    Ok (Inter quantizer pattern d.0 b.0, b.1)))
rest_from coding.Intra quantizer pattern s m =
    and_then (λ f. f) (blocks_from 6 true pattern s m 0) (λ b.
    Ok (Intra quantizer pattern b.0, b.1))

-- macroblock m of a delivery
abbrev pub macroblock_from : PictureKind → Unread → ℕ → Result (Macroblock × Unread) MacroblockFault
macroblock_from kind s m = and_then (λ f. f) (head_from kind s m) (λ h. rest_from h.0.coding h.0.quantizer h.0.pattern h.1 m)
