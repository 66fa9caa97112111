use Rattle.std.proofs.Common.{◌≡◌, ◌+◌, ◌*◌, ◌<◌, arith}
use Rattle.pictures.proofs.Addresses.{within}
use Rattle.stores.specs.Bytes.{byte_address}
use Rattle.stores.proofs.Fitting.{small}
use Rattle.stores.proofs.InBytes.{address_below}
use Rattle.stores.proofs.bytes.address.Goals as goal

at_address : (c : goal.After-side_of)
    → c.start_of.result * (c.args.size.columns * c.args.size.rows) + (c.args.down * (c.args.size.columns * c.side_of.result) + c.args.across)
    ≡ byte_address c.args.size.columns c.args.size.rows c.args.plane c.args.across c.args.down
unfolding byte_address
at_address c = simp (c.start_of.ensures, c.side_of.ensures)

below : (c : goal.After-side_of)
    → c.start_of.result * (c.args.size.columns * c.args.size.rows) + (c.args.down * (c.args.size.columns * c.side_of.result) + c.args.across)
    < c.args.size.columns * c.args.size.rows * 384
below c = rw (at_address c) (address_below _ _ _ _ _ (within _ _ _ _ _ c.requires))

pub overflow_mul-result-3 : goal.overflow_mul-result-3
overflow_mul-result-3 c = omega (arith, small _ _ _ c.args.size.narrow c.args.size.low (below c))

pub overflow_add-result : goal.overflow_add-result
overflow_add-result c = omega (arith, small _ _ _ c.args.size.narrow c.args.size.low (below c))

pub overflow_add-result-2 : goal.overflow_add-result-2
overflow_add-result-2 c = omega (arith, small _ _ _ c.args.size.narrow c.args.size.low (below c))

pub returns : goal.returns
returns c = record { isin = c.requires; from = at_address c; kept = below c }
