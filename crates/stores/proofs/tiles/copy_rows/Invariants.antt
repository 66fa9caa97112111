use Rattle.std.proofs.Common.{◌≡◌}
use Rattle.pictures.specs.Pictures.{covers, painted}
use Rattle.stores.specs.Tiles.{tiles_seen}
use Rattle.pictures.proofs.Painting.{rows_above}
use Rattle.stores.proofs.tiles.copy_rows.Given as goal

-- the rows above this one are painted
abbrev pub invariant-loop-row : goal.invariant-loop-row
invariant-loop-row l = tiles_seen l.size.columns l.size.rows l.words ≡ painted (covers (rows_above l.fn.segment l.row)) (tiles_seen l.size.columns l.size.rows l.from).sample (tiles_seen l.size.columns l.size.rows l.initial.words)
