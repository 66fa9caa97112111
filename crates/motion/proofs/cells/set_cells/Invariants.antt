use Rattle.std.proofs.Common.{◌≡◌, ◌≤◌, ◌++◌, length, take, drop}
use Rattle.records.specs.Again.{records_of}
use Rattle.motion.specs.Cells.{ages_of, marks_of}
use Rattle.motion.specs.Vectors.{vectors_of}
use Rattle.motion.proofs.cells.set_cells.Given as goal

-- so many records are read, and their cells are set
abbrev pub invariant-loop-i : goal.invariant-loop-i
invariant-loop-i l =
    let done = l.i-iterator.count in
    let records = records_of l.initial.delivery in (
    records_of l.i-iterator.iter ≡ drop done records) × (done ≤ length records)
    × (l.ages ≡ ages_of (take done records) l.finished ++ drop done l.initial.ages)
    × (l.vectors ≡ vectors_of l.columns (take done records) ++ drop done l.initial.vectors)
    × (l.marks ≡ marks_of (take done records) ++ drop done l.initial.marks)
