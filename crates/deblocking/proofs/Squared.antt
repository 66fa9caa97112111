-- An edge is filtered at eight places along it by one writing of a square of 8 by 8 that has the edge in its middle.
use Rattle.std.proofs.Common.{◌≡◌, ℕ, zero, suc, ◌+◌, ◌-◌, ◌*◌, ◌/◌, ◌%◌, ◌<◌, ◌≤◌, Bool, true, false, cond, ◌&&◌, List, get_or, Some, sym, refl, ap, ◌∙◌, arith}
use Rattle.std.proofs.lemmas.Bool.Decides.{nat_tests}
use Rattle.samples.specs.Deblocking.{deblocked, four_at, strength_of}
use Rattle.samples.specs.declared.deblocking.FourRows.{FourRows}
use Rattle.pictures.specs.Pictures.{Picture, Square, has, painted, painted_square, square_at}
use Rattle.pictures.proofs.Painting.{same_picture}
use Rattle.deblocking.specs.Edges.{across_of, down_of, edges, first, four_from, of_role, deblocked_at, turn}
use Rattle.deblocking.specs.Squares.{MiddleSet, four_across, kept_at, next_to}
use Rattle.deblocking.proofs.Edges.{deblocked_tap, tap, turned_inside}

-- the square's first place over the edge
abbrev corner : ℕ → ℕ
corner n = n * 8 - 4

-- what a place of a square says of its numbers
pub of_square : (p x y q u v : ℕ) → square_at p x y q u v ≡ true → (p ≡ q) × (x ≤ u) × (u < x + 8) × (y ≤ v) × (v < y + 8)
unfolding square_at
of_square p x y q u v e = (grind (arith, nat_tests), grind (arith, nat_tests), grind (arith, nat_tests), grind (arith, nat_tests), grind (arith, nat_tests))

-- what a square's values are by their numbers they are by their places
pub square_value : (sample : ℕ → ℕ → ℕ → ℕ) (p x y : ℕ) (values : List ℕ) (q u v : ℕ) → square_at p x y q u v ≡ true
    → ((k : ℕ) → k < 64 → get_or values k 0 ≡ sample p (x + k % 8) (y + k / 8)) → get_or values (8 * (v - y) + (u - x)) 0 ≡ sample q u v
square_value sample p x y values q u v e each =
    let w = of_square p x y q u v e in
    let k = 8 * (v - y) + (u - x) in
    let across : x + k % 8 ≡ u = omega (arith, w.1, w.2, w.3) in
    let down : y + k / 8 ≡ v = omega (arith, w.1, w.2, w.3) in
    each k (omega (arith, w.1, w.2, w.3, w.4)) ∙ ap (λ m. sample m (x + k % 8) (y + k / 8)) w.0 ∙ ap (λ m. sample q m (y + k / 8)) across ∙ ap (sample q u) down

-- an edge at eight places along it is what lies next to it of the square
edge_places : (p x n q u v : ℕ) → 1 ≤ n → edges p x (x + 8) n (n + 1) q u v ≡ (square_at p x (corner n) q u v && next_to (v - corner n))
unfolding edges square_at
edge_places p x n q u v l = grind (arith, nat_tests)

-- a square by along and over
turned_square : (p x y q u v : ℕ) → square_at p x y q u v ≡ square_at p y x q v u
unfolding square_at
turned_square p x y q u v = grind (arith, nat_tests)

square_written : (t : Bool) (f : Picture) (p along over : ℕ) (values : List ℕ)
    → turn t (painted_square f p (across_of t along over) (down_of t along over) values) ≡ painted (square_at p along over) (λ _ u v. get_or values (kept_at t (u - along) (v - over)) 0) (turn t f)
square_written true f p along over values =
    same_picture _ _ refl refl (λ q u v. ap (λ b. cond (b && square_at p over along q v u) (get_or values (8 * (u - along) + (v - over)) 0) (f.sample q v u)) (turned_inside f.wide f.high q v u)
    ∙ ap (λ b. cond (has (turn true f) q u v && b) (get_or values (8 * (u - along) + (v - over)) 0) (f.sample q v u)) (turned_square p over along q v u))
square_written false f p along over values = refl

square_read : (t : Bool) (f : Picture) (p along over : ℕ) (values : List ℕ) → Square f p (across_of t along over) (down_of t along over) values
    → (i j : ℕ) → i < 8 → j < 8 → get_or values (kept_at t i j) 0 ≡ (turn t f).sample p (along + i) (over + j)
square_read true f p along over values is i j h k =
    let m : (8 * i + j) % 8 ≡ j = omega arith in
    let d : (8 * i + j) / 8 ≡ i = omega arith in
    is (8 * i + j) (omega arith) ∙ ap (λ z. f.sample p (over + z) (along + (8 * i + j) / 8)) m ∙ ap (λ z. f.sample p (over + j) (along + z)) d
square_read false f p along over values is i j h k =
    let m : (8 * j + i) % 8 ≡ i = omega arith in
    let d : (8 * j + i) / 8 ≡ j = omega arith in
    is (8 * j + i) (omega arith) ∙ ap (λ z. f.sample p (along + z) (over + (8 * j + i) / 8)) m ∙ ap (λ z. f.sample p (along + i) (over + z)) d

-- a writing of what stands there changes nothing
same_square : (f : Picture) (p x y : ℕ) (values : List ℕ) → Square f p x y values → f ≡ painted_square f p x y values
same_square f p x y values is = same_picture _ _ refl refl (λ q u v. at q u v (has f q u v) refl (square_at p x y q u v) refl)
  where
    at : (q u v : ℕ) (b : Bool) → has f q u v ≡ b → (d : Bool) → square_at p x y q u v ≡ d → f.sample q u v ≡ (painted_square f p x y values).sample q u v
    at q u v true e true d = simp (e, d) (sym (square_value f.sample p x y values q u v d is))
    at q u v true e false d = simp (e, d)
    at q u v false e d o = simp e

-- the four samples by their roles
few : (j : ℕ) → next_to j ≡ true → j < 6
few j e = grind (arith, nat_tests)

of_four : (t : Bool) (values : List ℕ) (i j : ℕ) → next_to j ≡ true → of_role (j - 2) (four_across t values i) ≡ get_or values (kept_at t i j) 0
of_four t values i zero e = cc
of_four t values i (suc zero) e = cc
of_four t values i (suc (suc zero)) e = refl
of_four t values i (suc (suc (suc zero))) e = refl
of_four t values i (suc (suc (suc (suc zero)))) e = refl
of_four t values i (suc (suc (suc (suc (suc zero))))) e = refl
of_four t values i (suc (suc (suc (suc (suc (suc j)))))) e = absurd (omega (arith, few (suc (suc (suc (suc (suc (suc j)))))) e))

-- a square in which those samples are filtered and the others stay
abbrev FilteredSquare : ℕ → Picture → ℕ → ℕ → ℕ → (ℕ → ℕ → ℕ) → Type 0
FilteredSquare quantizer f p x n new =
    (i j : ℕ) → i < 8 → j < 8 → new i j ≡ cond (next_to j) (tap quantizer f p (x + i) n (j - 2)) (f.sample p (x + i) (corner n + j))

square_filtered : (quantizer : ℕ) (f : Picture) (p x n : ℕ) (new : ℕ → ℕ → ℕ) → 1 ≤ n → FilteredSquare quantizer f p x n new
    → painted (square_at p x (corner n)) (λ _ u v. new (u - x) (v - corner n)) f ≡ painted (edges p x (x + 8) n (n + 1)) (deblocked_at (λ _ _ _. Some quantizer) f.sample) f
square_filtered quantizer f p x n new l is =
    same_picture _ _ refl refl (λ q u v. at q u v (has f q u v) refl (square_at p x (corner n) q u v) refl (next_to (v - corner n)) refl)
  where
    after : ℕ → ℕ → ℕ → ℕ
    after = deblocked_at (λ _ _ _. Some quantizer) f.sample

    at : (q u v : ℕ) (b : Bool) → has f q u v ≡ b → (d : Bool) → square_at p x (corner n) q u v ≡ d → (m : Bool) → next_to (v - corner n) ≡ m
        → (painted (square_at p x (corner n)) (λ _ u v. new (u - x) (v - corner n)) f).sample q u v ≡ (painted (edges p x (x + 8) n (n + 1)) after f).sample q u v
    at q u v true e true d true m =
        let w = of_square p x (corner n) q u v d in
        let i = u - x in
        let j = v - corner n in
        let back : x + i ≡ u = omega (arith, w.1) in
        let over : first n + (j - 2) ≡ v = grind (arith, nat_tests) in
        let z : new i j ≡ after q u v
        = is i j (omega (arith, w.1, w.2)) (omega (arith, w.3, w.4)) ∙ ap (λ b. cond b (tap quantizer f p (x + i) n (j - 2)) (f.sample p (x + i) (corner n + j))) m
        ∙ sym (deblocked_tap quantizer f p (x + i) n (j - 2) l (grind (arith, nat_tests)))
        ∙ ap (λ k. after k (x + i) (first n + (j - 2))) w.0 ∙ ap (λ k. after q k (first n + (j - 2))) back ∙ ap (after q u) over in
        simp (edge_places p x n q u v l, e, d, m) z
    at q u v true e true d false m =
        let w = of_square p x (corner n) q u v d in
        let i = u - x in
        let j = v - corner n in
        let back : x + i ≡ u = omega (arith, w.1) in
        let over : corner n + j ≡ v = omega (arith, w.3) in
        let z : new i j ≡ f.sample q u v
        = is i j (omega (arith, w.1, w.2)) (omega (arith, w.3, w.4)) ∙ ap (λ b. cond b (tap quantizer f p (x + i) n (j - 2)) (f.sample p (x + i) (corner n + j))) m
        ∙ ap (λ k. f.sample k (x + i) (corner n + j)) w.0 ∙ ap (λ k. f.sample q k (corner n + j)) back ∙ ap (f.sample q u) over in
        simp (edge_places p x n q u v l, e, d, m) z
    at q u v true e false d m o = simp (edge_places p x n q u v l, e, d)
    at q u v false e d o m o' = simp e

-- of a square that was read, with the four rows that the filter gave set in it
module _ (quantizer : ℕ) (t : Bool) (f : Picture) (p along n : ℕ) (values : List ℕ) (rows new : FourRows) (l : 1 ≤ n)
    (was : Square f p (across_of t along (corner n)) (down_of t along (corner n)) values) (middle : (i : ℕ) → i < 8 → four_at rows i ≡ four_across t values i)
    (is : (i : ℕ) → i < 8 → four_at new i ≡ deblocked (strength_of quantizer) (four_at rows i)) where
  reads : (i j : ℕ) → i < 8 → j < 8 → get_or values (kept_at t i j) 0 ≡ (turn t f).sample p (along + i) (corner n + j)
  reads = square_read t f p along (corner n) values was

  taps : (i j : ℕ) → i < 8 → of_role j (four_at new i) ≡ tap quantizer (turn t f) p (along + i) n j
  taps i j h = ap (of_role j) (is i h ∙ ap (deblocked (strength_of quantizer)) (middle i h ∙ four))
    where
      at : (j : ℕ) → j < 4 → get_or values (kept_at t i (j + 2)) 0 ≡ (turn t f).sample p (along + i) (first n + j)
      at j m = reads i (j + 2) h (omega arith) ∙ (let e : corner n + (j + 2) ≡ first n + j = omega arith in ap ((turn t f).sample p (along + i)) e)

      four : four_across t values i ≡ four_from (turn t f).sample p (along + i) (first n)
      four =
          let z : first n + 0 ≡ first n = omega arith in
          let a = at 0 (omega arith) ∙ ap ((turn t f).sample p (along + i)) z in
          λ k. record { a = a k; b = at 1 (omega arith) k; c = at 2 (omega arith) k; d = at 3 (omega arith) k }

  pub square_deblocked : (f₁ : Picture) (changed : List ℕ)
      → MiddleSet t new values changed
      → f₁ ≡ painted_square f p (across_of t along (corner n)) (down_of t along (corner n)) changed
      → turn t f₁ ≡ painted (edges p along (along + 8) n (n + 1)) (deblocked_at (λ _ _ _. Some quantizer) (turn t f).sample) (turn t f)
  square_deblocked f₁ changed set wrote =
      ap (turn t) wrote ∙ square_written t f p along (corner n) changed
      ∙ square_filtered quantizer (turn t f) p along n (λ i j. get_or changed (kept_at t i j) 0) l
      (λ i j h k. set i j h k ∙ ap (λ z. cond (next_to j) z (get_or values (kept_at t i j) 0)) (taps i (j - 2) h)
      ∙ ap (cond (next_to j) (tap quantizer (turn t f) p (along + i) n (j - 2))) (reads i j h k))

  -- where the filter keeps them all, nothing has to be written
  pub square_kept : new ≡ rows → turn t f ≡ painted (edges p along (along + 8) n (n + 1)) (deblocked_at (λ _ _ _. Some quantizer) (turn t f).sample) (turn t f)
  square_kept same = square_deblocked f values (λ i j h k. set i j h (next_to j) refl) (same_square f p _ _ values was)
    where
      set : (i j : ℕ) → i < 8 → (b : Bool) → next_to j ≡ b → get_or values (kept_at t i j) 0 ≡ cond b (of_role (j - 2) (four_at new i)) (get_or values (kept_at t i j) 0)
      set i j h true e = sym (ap (λ r. of_role (j - 2) (four_at r i)) same ∙ ap (of_role (j - 2)) (middle i h) ∙ of_four t values i j e)
      set i j h false e = refl
