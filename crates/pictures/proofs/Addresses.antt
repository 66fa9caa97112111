-- What each store needs: that its places have addresses of their own in memory, and that one cell is written.
use Rattle.std.proofs.Common.{◌≡◌, ℕ, ◌+◌, ◌-◌, ◌*◌, ◌/◌, ◌%◌, ◌<◌, ◌≤◌, Bool, true, false, cond, ◌&&◌, eqb, ltb, leb, ◌⊎◌, sym, refl, ap, ◌∙◌, inl, inr, add-zero, arith}
use Rattle.std.proofs.lemmas.Bool.{and_right, both_ways, cases_lt, le-leb, lt-leb, lt-ltb, le-ltb}
use Rattle.std.proofs.lemmas.Bool.Decides.{nat_tests}
use Rattle.std.proofs.lemmas.Nat.{div-mul-add, mod-mul-add}
use Rattle.pictures.specs.Pictures.{Picture, side, inside, has, here, span, painted, written, seen}
use Rattle.pictures.proofs.Painting.{alike, same_picture, same_place}

-- what holds with 16 samples to a macroblock and with 8 holds in each plane
pub by_side : (P : ℕ → Type 0) (p : ℕ) → P 16 → P 8 → P (side p)
by_side P p a b = at (eqb p 0)
  where
    at : (t : Bool) → P (cond t 16 8)
    at true = a
    at false = b

-- whether a coordinate lies before a macroblock's border, or from it on, by its own macroblock
pub before_border : (p u b : ℕ) → ltb u (b * side p) ≡ ltb (u / side p) b
before_border p u b = by_side (λ s. ltb u (b * s) ≡ ltb (u / s) b) p (grind (arith, nat_tests)) (grind (arith, nat_tests))

pub from_border : (p u a : ℕ) → leb (a * side p) u ≡ leb a (u / side p)
from_border p u a = by_side (λ s. leb (a * s) u ≡ leb a (u / s)) p (grind (arith, nat_tests)) (grind (arith, nat_tests))

-- what a place inside says of its numbers
pub record Within (columns rows p x y : ℕ) : Type 0 where
  pub plane : p < 3
  pub across : x < columns * side p
  pub down : y < rows * side p

pub within : (columns rows p x y : ℕ) → inside columns rows p x y ≡ true → Within columns rows p x y
unfolding inside
within columns rows p x y e = record { plane = grind (arith, nat_tests); across = grind (arith, nat_tests); down = grind (arith, nat_tests) }

pub is_within : (columns rows p x y : ℕ) → Within columns rows p x y → inside columns rows p x y ≡ true
unfolding inside
is_within columns rows p x y w = simp (lt-ltb _ _ w.plane, lt-ltb _ _ w.across, lt-ltb _ _ w.down)

-- what lies left of a place inside, or above it, is inside
pub inside_before : (columns rows p x y u v : ℕ) → x ≤ u → y ≤ v → inside columns rows p u v ≡ true → inside columns rows p x y ≡ true
inside_before columns rows p x y u v l m e =
    let w = within columns rows p u v e in
    is_within columns rows p x y (record { plane = w.plane; across = omega (arith, w.across); down = omega (arith, w.down) })

-- a row and a column of a table of w columns are known from their place
pub same_digits : (a b c d w : ℕ) → b < w → d < w → a * w + b ≡ c * w + d → (a ≡ c) × (b ≡ d)
same_digits a b c d w l m e =
    (sym (div-mul-add a w b l) ∙ ap (λ n. n / w) e ∙ div-mul-add c w d m, sym (mod-mul-add a w b l) ∙ ap (λ n. n % w) e ∙ mod-mul-add c w d m)

-- no two places inside have one address
unfoldable pub Apart : ℕ → ℕ → (ℕ → ℕ → ℕ → ℕ) → Type 0
Apart columns rows address =
    (p x y q u v : ℕ) → Within columns rows p x y → Within columns rows q u v → address p x y ≡ address q u v → (p ≡ q) × (x ≡ u) × (y ≡ v)

-- a store lays a row's samples, from a place on for n places, one after the other
pub record Run (columns rows : ℕ) (address : ℕ → ℕ → ℕ → ℕ) (p x y n : ℕ) : Type 0 where
  pub within_row : (d : ℕ) → d < n → Within columns rows p (x + d) y
  pub one_by_one : (d : ℕ) → d < n → address p (x + d) y ≡ address p x y + d

is_span : (p y left right q u v : ℕ) → p ≡ q → y ≡ v → left ≤ u → u < right → span p y left right q u v ≡ true
unfolding span
is_span p y left right q u v a b c d = grind (arith, nat_tests)

pub of_span : (p y left right q u v : ℕ) → span p y left right q u v ≡ true → (p ≡ q) × (y ≡ v) × (left ≤ u) × (u < right)
unfolding span
of_span p y left right q u v e = (grind (arith, nat_tests), grind (arith, nat_tests), grind (arith, nat_tests), grind (arith, nat_tests))

-- a place of a row's part whose samples are laid one after the other, by the address of the part's first
pub address_along : (address : ℕ → ℕ → ℕ → ℕ) (p x y n q u v : ℕ) → span p y x (x + n) q u v ≡ true → ((d : ℕ) → d < n → address p (x + d) y ≡ address p x y + d)
    → address q u v ≡ address p x y + (u - x)
address_along address p x y n q u v e one_by_one =
    let t = of_span p y x (x + n) q u v e in
    let back : x + (u - x) ≡ u = omega (arith, t.2) in
    ap (λ m. address m u v) (sym t.0) ∙ ap (λ m. address p u m) (sym t.1) ∙ ap (λ m. address p m y) (sym back) ∙ one_by_one (u - x) (omega (arith, t.2, t.3))

one_place : (p x y q u v : ℕ) → span p y x (x + 1) q u v ≡ here p x y q u v
unfolding span here
one_place p x y q u v = grind (arith, nat_tests)

-- a store that sets the cells of some places, and no others, paints these places
pub paints_where : (columns rows : ℕ) (address : ℕ → ℕ → ℕ → ℕ) (cell after fresh : ℕ → ℕ) (places : ℕ → ℕ → ℕ → Bool) (new : ℕ → ℕ → ℕ → ℕ)
    → ((q u v : ℕ) → Within columns rows q u v → after (address q u v) ≡ cond (places q u v) (fresh (address q u v)) (cell (address q u v)))
    → ((q u v : ℕ) → inside columns rows q u v ≡ true → places q u v ≡ true → fresh (address q u v) ≡ new q u v)
    → seen columns rows address after ≡ painted places new (seen columns rows address cell)
paints_where columns rows address cell after fresh places new step is = same_picture _ _ refl refl (λ q u v. at q u v (inside columns rows q u v) refl (places q u v) refl)
  where
    at : (q u v : ℕ) (b : Bool) → inside columns rows q u v ≡ b → (d : Bool) → places q u v ≡ d
        → cond (inside columns rows q u v) (after (address q u v)) 0
        ≡ cond (inside columns rows q u v && places q u v) (new q u v) (cond (inside columns rows q u v) (cell (address q u v)) 0)
    at q u v true i true d = simp (i, d) (step q u v (within columns rows q u v i) ∙ simp d (is q u v i d))
    at q u v true i false d = simp (i, d) (step q u v (within columns rows q u v i) ∙ simp d)
    at q u v false i b d = simp i

module _ (columns rows : ℕ) (address : ℕ → ℕ → ℕ → ℕ) (apart : Apart columns rows address) where
  -- the places whose addresses lie in the run are the run's places
  in_run : (p x y n : ℕ) → Run columns rows address p x y n → (q u v : ℕ) → Within columns rows q u v
      → (leb (address p x y) (address q u v) && ltb (address q u v) (address p x y + n)) ≡ span p y x (x + n) q u v
  unfolding Apart
  in_run p x y n run q u v w = by (span p y x (x + n) q u v) refl (cases_lt (address q u v) (address p x y)) (cases_lt (address q u v) (address p x y + n))
    where
      by : (b : Bool) → span p y x (x + n) q u v ≡ b → (address q u v < address p x y) ⊎ (address p x y ≤ address q u v)
          → (address q u v < address p x y + n) ⊎ (address p x y + n ≤ address q u v)
          → (leb (address p x y) (address q u v) && ltb (address q u v) (address p x y + n)) ≡ span p y x (x + n) q u v
      by true e lo hi =
          let t = of_span p y x (x + n) q u v e in
          let same = address_along address p x y n q u v e run.one_by_one in
          let a : address p x y ≤ address q u v = omega (arith, same) in
          let b : address q u v < address p x y + n = omega (arith, same, t.2, t.3) in
          simp (e, le-leb _ _ a, lt-ltb _ _ b)
      by false e (inl lo) hi = simp (e, lt-leb _ _ lo)
      by false e (inr lo) (inr hi) = simp (e, le-leb _ _ lo, le-ltb _ _ hi)
      by false e (inr lo) (inl hi) =
          let d : ℕ = address q u v - address p x y in
          let small : d < n = omega arith in
          let same : address p (x + d) y ≡ address q u v = run.one_by_one d small ∙ (let s : address p x y + d ≡ address q u v = omega arith in s) in
          let t = apart p (x + d) y q u v (run.within_row d small) w same in
          absurd (both_ways _ e (is_span p y x (x + n) q u v t.0 t.2 (omega (arith, t.1)) (omega (arith, t.1))))

  -- so a store that sets the cells of a run, and no others, paints the run's places
  pub paints_run : (cell after fresh : ℕ → ℕ) (new : ℕ → ℕ → ℕ → ℕ) (p x y n : ℕ) → Run columns rows address p x y n
      → ((a : ℕ) → after a ≡ cond (leb (address p x y) a && ltb a (address p x y + n)) (fresh a) (cell a))
      → ((q u v : ℕ) → inside columns rows q u v ≡ true → span p y x (x + n) q u v ≡ true → fresh (address q u v) ≡ new q u v)
      → seen columns rows address after ≡ painted (span p y x (x + n)) new (seen columns rows address cell)
  paints_run cell after fresh new p x y n run step is =
      paints_where columns rows address cell after fresh (span p y x (x + n)) new
      (λ q u v w. step (address q u v) ∙ ap (λ b. cond b (fresh (address q u v)) (cell (address q u v))) (in_run p x y n run q u v w)) is

  -- and one that sets the cell at one address writes as it should
  pub writes : (cell after : ℕ → ℕ) (p x y value : ℕ) → inside columns rows p x y ≡ true
      → ((a : ℕ) → after a ≡ cond (eqb a (address p x y)) value (cell a))
      → seen columns rows address after ≡ written (seen columns rows address cell) p x y value
  writes cell after p x y value isin step =
      paints_run cell after (λ _. value) (λ _ _ _. value) p x y 1 alone (λ a. step a ∙ ap (λ b. cond b value (cell a)) (one_cell a (address p x y))) (λ q u v w e. refl)
      ∙ alike _ _ _ _ (λ q u v h. one_place p x y q u v)
    where
      alone : Run columns rows address p x y 1
      alone =
          record {
            within_row = λ d h. let e : x + d ≡ x = omega arith in rw e (within columns rows p x y isin);
            one_by_one = λ d h. let z : d ≡ 0 = omega arith in rw z (rw (add-zero, add-zero) refl);
          }

      one_cell : (a b : ℕ) → eqb a b ≡ (leb b a && ltb a (b + 1))
      one_cell a b = grind (arith, nat_tests)

-- and one that writes nothing, outside, too
pub writes_nothing : (f : Picture) (p x y value : ℕ) → has f p x y ≡ false → f ≡ written f p x y value
writes_nothing f p x y value isout = same_picture _ _ refl refl (λ q u v. at q u v (here p x y q u v) refl)
  where
    at : (q u v : ℕ) (b : Bool) → here p x y q u v ≡ b → f.sample q u v ≡ (written f p x y value).sample q u v
    at q u v true h =
        let t = same_place p x y q u v h in
        let o : has f q u v ≡ false = rw (← t.0, ← t.1, ← t.2) isout in
        simp o
    at q u v false h = simp (and_right (has f q u v) (here p x y q u v) h)
