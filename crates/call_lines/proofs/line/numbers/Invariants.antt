use Rattle.std.proofs.Common.{◌≡◌, ◌-◌, length, take}
use Rattle.call_lines.specs.Lines.{numbers_after, numbers_in}
use Rattle.call_lines.proofs.line.numbers.Given as goal

-- the numbers seen, and those in the fields left, are all
abbrev pub invariant-loop-slot : goal.invariant-loop-slot
invariant-loop-slot g l =
    (numbers_after (take l.slot-index l.slot-items) (l.slot-index-end - l.slot-index) l.rest ≡ numbers_in l.slot-index-end l.fields)
    × (length l.slot-items ≡ l.slot-index-end)
