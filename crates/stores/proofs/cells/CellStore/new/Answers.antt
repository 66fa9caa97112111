use Rattle.std.proofs.Common.{◌≡◌, ◌/◌, rules}
use Rattle.pictures.specs.Formats.{format_of_number}
use Rattle.stores.specs.Room.{size_in}
use Rattle.stores.proofs.Fitting.{room_enough}
use Rattle.stores.proofs.cells.CellStore.new.Goals as goal

pub invariant_of-result : goal.invariant_of-result
invariant_of-result g c =
    let size = c.unwrap_or_default-size.result in
    let is : (size.columns, size.rows) ≡ size_in (format_of_number c.args.format) (c.args.memory.len / g.row.PER_MACROBLOCK) = search rules in
    record { enough = room_enough (format_of_number c.args.format) g.row.PER_MACROBLOCK c.args.memory.len size.columns size.rows is }
