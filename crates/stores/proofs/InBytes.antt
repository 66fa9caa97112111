-- No two places of a byte store have one address, and each address lies in memory.
use Rattle.std.proofs.Common.{◌≡◌, ℕ, zero, suc, ◌+◌, ◌-◌, ◌*◌, ◌/◌, ◌%◌, ◌<◌, ◌≤◌, Bool, true, false, cond, ◌&&◌, eqb, ltb, leb, List, min, length, get_or, set, sym, refl, ap, ◌∙◌, ⊎_elim, mod-eq_of_lt, arith}
use native.Mathlib.Nat.{mul-mul-mul_comm}
use Rattle.std.proofs.lemmas.List.{get_or-set_same, get_or-set_other}
use Rattle.std.proofs.Math.Nat.{add-mul}
use Rattle.std.proofs.lemmas.Nat.{mul-add-lt}
use Rattle.std.proofs.lemmas.Bool.{cases_eq, cond-true, eq-eqb, lt-ltb, ne_eqb}
use Rattle.std.proofs.lemmas.Bool.Decides.{nat_tests}
use Rattle.pictures.specs.Pictures.{covers, inside, painted, side, span, start}
use Rattle.pictures.proofs.Addresses.{Within, address_along, within, is_within, Apart, of_span, same_digits, paints_run, paints_where}
use Rattle.pictures.specs.declared.layouts.Segment.{Segment}
use Rattle.tables.specs.Cells.{in_part}
use Rattle.stores.specs.Room.{FrontCopied, WholePicture}
use Rattle.pictures.proofs.Painting.{whole_covered}
use Rattle.stores.specs.Bytes.{RowsAt, RunAt, byte_address, byte_at, bytes_seen}

-- a row and a column of a plane of side s are within its samples
in_plane : (columns rows s x y : ℕ) → x < columns * s → y < rows * s → y * (columns * s) + x < columns * rows * (s * s)
in_plane columns rows s x y l m = rw (← mul-mul-mul_comm columns s rows s) (mul-add-lt y (columns * s) x (rows * s) m l)

pub address_below : (columns rows p x y : ℕ) → Within columns rows p x y → byte_address columns rows p x y < columns * rows * 384
unfolding byte_address
address_below columns rows zero x y w = omega (arith, in_plane columns rows 16 x y w.across w.down)
address_below columns rows (suc zero) x y w = omega (arith, in_plane columns rows 8 x y w.across w.down)
address_below columns rows (suc (suc zero)) x y w = omega (arith, in_plane columns rows 8 x y w.across w.down)
address_below columns rows (suc (suc (suc p))) x y w = absurd (omega (arith, w.plane))

in_row : (n w x y u v : ℕ) → x < w → u < w → n + (y * w + x) ≡ n + (v * w + u) → (x ≡ u) × (y ≡ v)
in_row n w x y u v l m e = let t = same_digits y x v u w l m (omega (arith, e)) in (t.1, t.0)

pub bytes_apart : (columns rows : ℕ) → Apart columns rows (byte_address columns rows)
unfolding byte_address Apart
bytes_apart columns rows zero x y zero u v w z e = let t = in_row _ _ x y u v w.across z.across e in (refl, t.0, t.1)
bytes_apart columns rows zero x y (suc zero) u v w z e = absurd (omega (arith, in_plane columns rows 16 x y w.across w.down))
bytes_apart columns rows zero x y (suc (suc zero)) u v w z e = absurd (omega (arith, in_plane columns rows 16 x y w.across w.down))
bytes_apart columns rows (suc zero) x y zero u v w z e = absurd (omega (arith, in_plane columns rows 16 u v z.across z.down))
bytes_apart columns rows (suc zero) x y (suc zero) u v w z e = let t = in_row _ _ x y u v w.across z.across e in (refl, t.0, t.1)
bytes_apart columns rows (suc zero) x y (suc (suc zero)) u v w z e = absurd (omega (arith, in_plane columns rows 8 x y w.across w.down))
bytes_apart columns rows (suc (suc zero)) x y zero u v w z e = absurd (omega (arith, in_plane columns rows 16 u v z.across z.down))
bytes_apart columns rows (suc (suc zero)) x y (suc zero) u v w z e = absurd (omega (arith, in_plane columns rows 8 u v z.across z.down))
bytes_apart columns rows (suc (suc zero)) x y (suc (suc zero)) u v w z e = let t = in_row _ _ x y u v w.across z.across e in (refl, t.0, t.1)
bytes_apart columns rows (suc (suc (suc p))) x y q u v w z e = absurd (omega (arith, w.plane))
bytes_apart columns rows zero x y (suc (suc (suc q))) u v w z e = absurd (omega (arith, z.plane))
bytes_apart columns rows (suc zero) x y (suc (suc (suc q))) u v w z e = absurd (omega (arith, z.plane))
bytes_apart columns rows (suc (suc zero)) x y (suc (suc (suc q))) u v w z e = absurd (omega (arith, z.plane))

-- one byte is set
pub byte_set : (bytes : List ℕ) (a value : ℕ) → value < 256 → a < length bytes → (b : ℕ) → byte_at (set bytes a value) b ≡ cond (eqb b a) value (byte_at bytes b)
byte_set bytes a value h l b =
    ⊎_elim
    (λ (e : b ≡ a). rw e (ap (λ n. n % 256) (get_or-set_same bytes a value 0 l) ∙ mod-eq_of_lt h ∙ sym (cond-true (eqb a a) value _ (eq-eqb a a refl))))
    (λ (e : b ≡ a → ⊥). simp (ne_eqb b a e) (ap (λ n. n % 256) (get_or-set_other bytes a b value 0 e)))
    (cases_eq b a)

-- the samples of a row lie one by one
pub beside : (columns rows p x y d : ℕ) → byte_address columns rows p (x + d) y ≡ byte_address columns rows p x y + d
unfolding byte_address
beside columns rows p x y d = plain (start p * (columns * rows)) (y * (columns * side p))
  where
    plain : (a b : ℕ) → a + (b + (x + d)) ≡ a + (b + x) + d
    plain a b = omega arith

pub within_row : (columns rows p x y count d : ℕ) → Within columns rows p x y → x + count ≤ columns * side p → d < count → Within columns rows p (x + d) y
within_row columns rows p x y count d w le lt = record { plane = w.plane; across = omega arith; down = w.down }

-- so a run ends in memory
pub run_kept : (columns rows p x y count : ℕ) → Within columns rows p x y → 0 < count → x + count ≤ columns * side p
    → byte_address columns rows p x y + count ≤ columns * rows * 384
run_kept columns rows p x y count w some le =
    let last : ℕ = count - 1 in
    let lt : last < count = omega arith in
    let below = address_below columns rows p (x + last) y (within_row columns rows p x y count last w le lt) in
    omega (arith, below, beside columns rows p x y last)

-- a run of bytes is set to new ones
run_painted : (columns rows p x y right at count size : ℕ) (bytes after : List ℕ) (byte : ℕ → ℕ) (new : ℕ → ℕ → ℕ → ℕ)
    → RunAt columns rows p x y right at count → columns * rows * 384 ≤ size
    → ((k : ℕ) → get_or after k 0 ≡ cond (in_part at count size k) (byte k) (get_or bytes k 0))
    → ((q u v : ℕ) → inside columns rows q u v ≡ true → byte (byte_address columns rows q u v) % 256 ≡ new q u v)
    → bytes_seen columns rows after ≡ painted (span p y x (x + count)) new (bytes_seen columns rows bytes)
run_painted columns rows p x y right at count size bytes after byte new run room cells is =
    let w = within columns rows p x y run.isin in
    paints_run columns rows (byte_address columns rows) (bytes_apart columns rows) (byte_at bytes) (byte_at after) (λ a. byte a % 256) new p x y count
    (record { within_row = λ d h. within_row columns rows p x y count d w run.in_row h; one_by_one = λ d h. beside columns rows p x y d })
    (λ a. ap (λ n. n % 256) (cells a) ∙ tests at count size a (byte a) (get_or bytes a 0) (omega (arith, run.kept, room))
    ∙ ap (λ n. cond (leb n a && ltb a (n + count)) (byte a % 256) (byte_at bytes a)) run.from)
    (λ q u v i e. is q u v i)
  where
    tests : (at count size n x y : ℕ) → at + count ≤ size → cond (in_part at count size n) x y % 256 ≡ cond (leb at n && ltb n (at + count)) (x % 256) (y % 256)
    tests at count size n x y h = grind (arith, nat_tests)

-- copied from a store of the same size
pub run_copied : (columns rows columns' rows' p x y right at count : ℕ) (bytes others after : List ℕ) → columns ≡ columns' → rows ≡ rows'
    → RunAt columns rows p x y right at count → columns * rows * 384 ≤ length bytes → columns * rows * 384 ≤ length others
    → ((k d : ℕ) → get_or after k d ≡ cond (in_part at count (min (length others) (length bytes)) k) (get_or others k d) (get_or bytes k d))
    → bytes_seen columns rows after ≡ painted (span p y x (x + count)) (bytes_seen columns' rows' others).sample (bytes_seen columns rows bytes)
run_copied columns rows columns' rows' p x y right at count bytes others after c r run room room' cells =
    run_painted columns rows p x y right at count (min (length others) (length bytes)) bytes after (λ k. get_or others k 0) (bytes_seen columns' rows' others).sample run (omega (arith, room, room')) (λ k. cells k 0)
    (λ q u v i. rw (← c, ← r) (sym (cond-true _ _ _ i)))

-- or to one value
pub run_filled : (columns rows p x y right at count value : ℕ) (bytes after : List ℕ)
    → RunAt columns rows p x y right at count → value < 256 → columns * rows * 384 ≤ length bytes
    → ((k d : ℕ) → get_or after k d ≡ cond (in_part at count (length bytes) k) value (get_or bytes k d))
    → bytes_seen columns rows after ≡ painted (span p y x (x + count)) (λ _ _ _. value) (bytes_seen columns rows bytes)
run_filled columns rows p x y right at count value bytes after run small room cells =
    run_painted columns rows p x y right at count (length bytes) bytes after (λ _. value) (λ _ _ _. value) run room (λ k. cells k 0) (λ q u v i. mod-eq_of_lt small)

-- all bytes of a picture are taken from a store of the same size
pub bytes_copied : (columns rows columns' rows' : ℕ) (s : Segment) (bytes others after : List ℕ) → columns ≡ columns' → rows ≡ rows' → WholePicture columns rows s
    → FrontCopied (columns * rows * 384) others bytes after → bytes_seen columns rows after ≡ painted (covers s) (bytes_seen columns' rows' others).sample (bytes_seen columns rows bytes)
bytes_copied columns rows columns' rows' s bytes others after c r whole cells =
    paints_where columns rows (byte_address columns rows) (byte_at bytes) (byte_at after) (byte_at others) (covers s) (bytes_seen columns' rows' others).sample
    (λ q u v w.
    ap (λ n. n % 256) (cells (byte_address columns rows q u v) 0 ∙ cond-true _ _ _ (lt-ltb _ _ (address_below columns rows q u v w)))
    ∙ sym (cond-true _ _ _ (whole_covered s columns rows q u v whole.left whole.right whole.top whole.bottom (is_within columns rows q u v w))))
    (λ q u v i e. rw (← c, ← r) (sym (cond-true _ _ _ i)))

-- a row lies so far after the one that is so many above it
below : (columns rows p x y row : ℕ) → byte_address columns rows p x (y + row) ≡ byte_address columns rows p x y + row * (columns * side p)
unfolding byte_address
below columns rows p x y row = plain (start p * (columns * rows)) (columns * side p)
  where
    plain : (a w : ℕ) → a + ((y + row) * w + x) ≡ a + (y * w + x) + row * w
    plain a w = omega (arith, add-mul y row w)

-- a square whose corners lie inside ends in memory
pub square_kept : (columns rows p x y : ℕ) → Within columns rows p (x + 7) (y + 7) → byte_address columns rows p x y + 7 * (columns * side p) + 8 ≤ columns * rows * 384
square_kept columns rows p x y w =
    omega (arith, address_below columns rows p (x + 7) (y + 7) w, beside columns rows p x (y + 7) 7, below columns rows p x y 7)

module _ (columns rows p x y at stride : ℕ) (kept : RowsAt columns rows p x y at stride) where
  in_square : (row d : ℕ) → row < 8 → d < 8 → Within columns rows p (x + d) (y + row)
  in_square row d h k =
      let w = within columns rows p (x + 7) (y + 7) kept.last in
      record { plane = w.plane; across = omega (arith, w.across); down = omega (arith, w.down) }

  row_at : (row : ℕ) → at + row * stride ≡ byte_address columns rows p x (y + row)
  row_at row = rw (kept.from, kept.apart) (sym (below columns rows p x y row))

  -- the bytes are the samples of its places
  pub square_seen : (bytes values : List ℕ) → ((k : ℕ) → k < 64 → get_or values k 0 ≡ get_or bytes (at + k / 8 * stride + k % 8) 0) → ((k : ℕ) → k < 64 → get_or values k 0 < 256)
      → (k : ℕ) → k < 64 → get_or values k 0 ≡ (bytes_seen columns rows bytes).sample p (x + k % 8) (y + k / 8)
  square_seen bytes values each small k h =
      let w = in_square (k / 8) (k % 8) (omega arith) (omega arith) in
      let a : byte_address columns rows p (x + k % 8) (y + k / 8) ≡ at + k / 8 * stride + k % 8 =
      beside columns rows p x (y + k / 8) (k % 8) ∙ ap (λ n. n + k % 8) (sym (row_at (k / 8))) in
      sym (mod-eq_of_lt (small k h)) ∙ ap (λ n. n % 256) (each k h) ∙ ap (byte_at bytes) (sym a)
      ∙ sym (cond-true _ _ _ (is_within columns rows p (x + k % 8) (y + k / 8) w))

  -- and one row of them is set
  pub row_set : (bytes after values : List ℕ) (row : ℕ) → row < 8 → ((k : ℕ) → get_or values k 0 < 256)
      → ((k : ℕ) → get_or after k 0 ≡ cond (leb (at + row * stride) k && ltb k (at + row * stride + 8)) (get_or values (8 * row + (k - (at + row * stride))) 0) (get_or bytes k 0))
      → bytes_seen columns rows after ≡ painted (span p (y + row) x (x + 8)) (λ _ u v. get_or values (8 * (v - y) + (u - x)) 0) (bytes_seen columns rows bytes)
  row_set bytes after values row h small cells =
      paints_run columns rows (byte_address columns rows) (bytes_apart columns rows) (byte_at bytes) (byte_at after) (λ a. get_or values (8 * row + (a - (at + row * stride))) 0 % 256)
      (λ _ u v. get_or values (8 * (v - y) + (u - x)) 0) p x (y + row) 8
      (record { within_row = λ d k. in_square row d h k; one_by_one = λ d k. beside columns rows p x (y + row) d })
      (λ a. ap (λ n. n % 256) (cells a) ∙ mod_cond _ _ _
      ∙ ap (λ n. cond (leb n a && ltb a (n + 8)) (get_or values (8 * row + (a - (at + row * stride))) 0 % 256) (byte_at bytes a)) (row_at row))
      (λ q u v i e.
      let t = of_span p (y + row) x (x + 8) q u v e in
      let there : byte_address columns rows q u v ≡ at + row * stride + (u - x) =
      address_along (byte_address columns rows) p x (y + row) 8 q u v e (λ d _. beside columns rows p x (y + row) d) ∙ ap (λ n. n + (u - x)) (sym (row_at row)) in
      let same : 8 * row + (byte_address columns rows q u v - (at + row * stride)) ≡ 8 * (v - y) + (u - x) = omega (arith, t.1) in
      mod-eq_of_lt (small _) ∙ ap (λ n. get_or values n 0) same)
    where
      mod_cond : (b : Bool) (m n : ℕ) → cond b m n % 256 ≡ cond b (m % 256) (n % 256)
      mod_cond true m n = refl
      mod_cond false m n = refl
