use Rattle.std.proofs.Common.{◌≡◌, ◌+◌, ◌-◌, ◌*◌, get_or}
use Rattle.pictures.specs.Pictures.{painted}
use Rattle.pictures.proofs.Painting.{block}
use Rattle.stores.specs.Bytes.{bytes_seen}
use Rattle.stores.proofs.bytes.set_square.Given as goal

-- the rows before this one are set
abbrev pub invariant-loop-row : goal.invariant-loop-row
invariant-loop-row l =
    bytes_seen l.fn.size.columns l.fn.size.rows l.bytes
    ≡ painted (block l.plane l.across (l.across + 8) l.down (l.down + l.row)) (λ _ u v. get_or l.values (8 * (v - l.down) + (u - l.across)) 0) (bytes_seen l.fn.size.columns l.fn.size.rows l.initial.bytes)
