-- Lists that are read piece by piece, and what is sure of an answer.
use Rattle.std.proofs.Common.{◌≡◌, List, ◌++◌, IfOk, Ok, Err, Result, sym, refl, ap, append_assoc}
use Rattle.records.specs.Reading.{Unread, and_then}
use Rattle.records.specs.Macroblocks.{in_front}

pub in_front_both : {X F : Type 0} (xs ys : List X) (r : Result (List X × Unread) F) → in_front xs (in_front ys r) ≡ in_front (xs ++ ys) r
in_front_both xs ys (Ok q) = ap (λ zs. Ok (zs, q.1)) (sym (append_assoc xs ys q.0))
in_front_both xs ys (Err f) = refl

-- what is sure of the first answer leads to what is sure of the second
pub made_then : {X Y E F : Type 0} (up : E → F) (r : Result X E) (on : X → Result Y F) (P : X → Type 0) (Q : Y → Type 0)
    → IfOk r P → ((x : X) → P x → IfOk (on x) Q) → IfOk (and_then up r on) Q
made_then up (Ok x) on P Q p h = h x p
made_then up (Err e) on P Q p h = tt
