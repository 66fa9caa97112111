-- A checked delivery, by the macroblocks that are still to come.
use Rattle.std.specs.Prelude.{◌-◌, List, [], Ok, Err, Result}
use Rattle.records.specs.declared.checked.Delivery.{Delivery}
use Rattle.records.specs.declared.types.Macroblock.{Macroblock}
use Rattle.records.specs.Reading.{Unread, unread_of}
use Rattle.records.specs.Deliveries.{macroblocks_from}

abbrev pub records_in : {F : Type 0} → Result (List Macroblock × Unread) F → List Macroblock
records_in (Ok q) = q.0
records_in (Err f) = []

unfoldable pub records_of : Delivery → List Macroblock
records_of d = records_in (macroblocks_from (d.due.end - d.due.start) d.kind (unread_of d.words) d.due.start)
