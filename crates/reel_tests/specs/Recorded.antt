-- A picture of one segment: opened, delivered and closed.
use Rattle.std.specs.Prelude.{ℕ, List, ℤ, Some, Ok, Err, Result}
use Rattle.calls.specs.declared.faults.PictureFault.{PictureFault}
use Rattle.calls.specs.Held.{Held, fits}
use Rattle.calls.specs.Questions.{judge_opening, passed}
use Rattle.reel.specs.declared.reels.Reel.{Reel}
use Rattle.reel.specs.declared.reels.Slip.{Slip}
use Rattle.reel.specs.Calls.{held_after, held_closed, judged, opened, slip_after}

-- the opening of a picture of a kind, rounded up, whose one segment begins at row 0
abbrev pub opened_whole : Reel → ℕ → Held → Result (Slip × ℕ) (Reel × PictureFault)
opened_whole reel kind held = opened reel kind 0 1 (judge_opening (fits reel.format held) reel.format reel.pictures reel.finished kind 0 1)

-- what the memory holds then: what closing makes of what the delivery made; where the opening is refused, what it held
abbrev pub recorded : (List ℤ → ℕ → ℕ → ℤ) → List ℕ → Held → Result (Slip × ℕ) (Reel × PictureFault) → Held
recorded meaning bytes held (Ok (slip, segments)) =
    held_closed (slip_after slip 0 (judged slip held 0 bytes)) passed (held_after meaning slip 0 (judged slip held 0 bytes) held)
recorded meaning bytes held (Err refused) = held

-- the reel that rests then, with the picture as its finished one; where the opening is refused, the reel as it was
abbrev pub rested : List ℕ → Held → Result (Slip × ℕ) (Reel × PictureFault) → Reel
rested bytes held (Ok (slip, segments)) =
    let after = slip_after slip 0 (judged slip held 0 bytes) in
    record { format = after.reel.format; pictures = after.reel.pictures; finished = Some after.layout }
rested bytes held (Err (reel, refused)) = reel
