use Rattle.std.proofs.Common.{◌≡◌, ◌-◌, ◌≤◌}
use Rattle.records.specs.Reading.{unread_of}
use Rattle.records.specs.Deliveries.{intra_counted, macroblocks_from}
use Rattle.records.proofs.reader.Words.count_intra.Given as goal

-- the macroblocks counted, and those that the words left give, are all that there were from the start
abbrev pub invariant-loop-macroblock : goal.invariant-loop-macroblock
invariant-loop-macroblock l =
    (intra_counted l.intra (macroblocks_from (l.macroblocks - l.macroblock) l.kind (unread_of l.self) l.macroblock)
    ≡ intra_counted 0 (macroblocks_from l.macroblocks l.kind (unread_of l.initial.self) 0))
    × (l.intra ≤ l.macroblock)
