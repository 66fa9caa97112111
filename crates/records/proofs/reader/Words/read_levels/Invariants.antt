use Rattle.std.proofs.Common.{◌≡◌, length}
use Rattle.records.specs.Reading.{unread_of}
use Rattle.records.specs.Blocks.{levels_from, no_levels}
use Rattle.records.proofs.reader.Words.read_levels.Given as goal

-- the words left give, from here, what all gave from the start
abbrev pub invariant-loop-word : goal.invariant-loop-word
invariant-loop-word l =
    (levels_from (unread_of l.self) l.macroblock l.block l.from l.levels
    ≡ levels_from (unread_of l.initial.self) l.macroblock l.block l.initial.from no_levels)
    × (length l.levels ≡ 64)

abbrev pub decreases-loop-word : goal.decreases-loop-word
decreases-loop-word l = length (unread_of l.self).0
