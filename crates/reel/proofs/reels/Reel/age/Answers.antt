use Rattle.std.proofs.Common.{◌≡◌, ◌+◌, ◌*◌, ◌<◌, Some, length, get_or, sym, ap, ◌∙◌, rules}
use Rattle.std.proofs.lemmas.Bool.{eqb-true}
use Rattle.std.proofs.lemmas.Option.{slice_get-get_or}
use Rattle.pictures.specs.Formats.{columns_of, rows_of}
use Rattle.calls.specs.Effects.{age_at}
use Rattle.reel.proofs.Places.{cell_below}
use Rattle.reel.proofs.reels.Reel.age.Goals as goal

pub returns : goal.returns
unfolding age_at
returns c =
    let format = c.args.self.now.format in
    let ages = c.args.ages.now in
    let few = c.has_cell.ensures.few c.if-not-has_cell.false in
    let room : length ages ≡ columns_of format * rows_of format = eqb-true _ _ (sym c.fits_table.ensures ∙ c.if-not-fits_table.false) in
    let below : c.args.row * c.columns.result + c.args.column < length ages
    = rw (c.columns.ensures.value, room) (cell_below (columns_of format) (rows_of format) c.args.column c.args.row few.0 few.1) in
    let e : c.read.result ≡ Some (age_at format ages c.args.column c.args.row)
    = c.read.ensures
    ∙ slice_get-get_or ages (c.args.row * c.columns.result + c.args.column) 0 below
    ∙ ap (λ n. Some (get_or ages (c.args.row * n + c.args.column) 0)) c.columns.ensures.value in
    search rules
