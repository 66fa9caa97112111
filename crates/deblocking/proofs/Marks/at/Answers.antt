use Rattle.std.proofs.Common.{◌≡◌, ℕ, ◌+◌, ◌*◌, Some, None, Option, slice_get, refl, ◌∙◌, rules}
use Rattle.std.proofs.lemmas.Option.{unwrap_or-slice_get}
use Rattle.std.specs.Option.{option_flatten, unwrap_or}
use Rattle.deblocking.proofs.Marks.at.Goals as goal

none_inside : (o : Option (Option ℕ)) → option_flatten o ≡ unwrap_or o None
none_inside None = refl
none_inside (Some mark) = refl

pub returns : goal.returns
returns c =
    let marks = c.args.self.cells.now in
    let place = c.args.down * c.args.self.columns + c.args.across in
    let e = none_inside (slice_get marks place) ∙ unwrap_or-slice_get marks place None in
    search rules
