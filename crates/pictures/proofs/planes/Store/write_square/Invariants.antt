use Rattle.std.proofs.Common.{◌≡◌}
use Rattle.pictures.proofs.Squares.{set_so_far}
use Rattle.pictures.proofs.planes.Store.write_square.Given as goal

-- the samples before this one are set
abbrev pub invariant-loop-k : goal.invariant-loop-k
invariant-loop-k g l = g.Self.Store.picture l.self ≡ set_so_far (g.Self.Store.picture l.initial.self) l.plane l.across l.down l.values l.k
