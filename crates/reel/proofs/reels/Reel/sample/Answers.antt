use Rattle.std.proofs.Common.{◌≡◌, false, rules}
use Rattle.pictures.specs.Formats.{columns_of, rows_of}
use Rattle.pictures.specs.Pictures.{inside}
use Rattle.reel.proofs.Places.{no_plane}
use Rattle.reel.proofs.reels.Reel.sample.Goals as goal

pub returns-in_default : goal.returns-in_default
returns-in_default g c =
    let e : inside (columns_of c.args.self.now.format) (rows_of c.args.self.now.format) c.args.plane c.args.across c.args.down ≡ false
    = no_plane _ _ c.args.plane c.args.across c.args.down c.in_default.ensures in
    search rules
