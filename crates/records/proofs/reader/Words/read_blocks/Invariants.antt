use Rattle.std.proofs.Common.{◌≡◌, ◌-◌, length, take}
use Rattle.records.specs.Reading.{unread_of}
use Rattle.records.specs.Macroblocks.{in_front, blocks_from}
use Rattle.records.proofs.reader.Words.read_blocks.Given as goal

-- the blocks read, and those that the words left give, are all that there were from the start
abbrev pub invariant-loop-block : goal.invariant-loop-block
invariant-loop-block l =
    (in_front (take l.block l.gathered) (blocks_from (6 - l.block) l.intra l.pattern (unread_of l.self) l.macroblock l.block)
    ≡ blocks_from 6 l.intra l.pattern (unread_of l.initial.self) l.macroblock 0)
    × (length l.gathered ≡ 6)
