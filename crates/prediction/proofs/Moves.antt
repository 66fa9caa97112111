-- Coordinates that are kept above their value.
use Rattle.std.proofs.Common.{◌≡◌, ℕ, ◌+◌, ◌-◌, ◌/◌, ◌%◌, ◌<◌, ◌≤◌, min, max, true, ◌&&◌, eqb, leb, ℤ, pos, negsuc, ◌+ℤ◌, ◌-ℤ◌, sym, ap, arith}
use Rattle.std.proofs.lemmas.Int.{ints}
use Rattle.std.proofs.lemmas.Bool.Decides.{nat_tests}
use Rattle.transform.specs.Sums.{floor}
use Rattle.prediction.specs.Window.{brought_inside, is_half}

turned : (n a : ℕ) → n % 2 ≡ 1 - a % 2 → eqb (n % 2) 1 ≡ eqb (a % 2) 0
turned n a e = grind (arith, nat_tests)

pub half_is : (z : ℤ) (n : ℕ) → pos n ≡ z +ℤ pos 128 → eqb (n % 2) 1 ≡ is_half z
unfolding is_half
half_is (pos a) n e = let k : n % 2 ≡ a % 2 = omega (arith, ints) in ap (λ r. eqb r 1) k
half_is (negsuc a) n e = turned n a (omega (arith, ints))

pub moved_is : (z : ℤ) (n c : ℕ) → pos n ≡ z +ℤ pos 128 → pos (c + n / 2) ≡ pos c +ℤ floor z 2 +ℤ pos 64
unfolding floor
moved_is (pos a) n c e = omega (arith, ints)
moved_is (negsuc a) n c e = omega (arith, ints)

brought_at : (z : ℤ) (low high x : ℕ) → low < high → pos x ≡ z +ℤ pos 64 → max (min x (high + 63)) (low + 64) - 64 ≡ brought_inside low high z
unfolding brought_inside
brought_at (pos a) low high x h e = let k : x ≡ a + 64 = omega (arith, ints) in rw k (grind arith)
brought_at (negsuc a) low high x h e = let k : x < 64 = omega (arith, ints) in grind arith

pub brought_is : (low high x : ℕ) → low < high → max (min x (high + 63)) (low + 64) - 64 ≡ brought_inside low high (pos x -ℤ pos 64)
brought_is low high x h = brought_at (pos x -ℤ pos 64) low high x h (omega (arith, ints))

-- of eight coordinates that all lie inside none is brought anywhere
brought_there : (z : ℤ) (low high n : ℕ) → z ≡ pos n → low ≤ n → n < high → brought_inside low high z ≡ n
unfolding brought_inside
brought_there (pos a) low high n e h k = let same : a ≡ n = omega (arith, ints) in rw same (grind arith)
brought_there (negsuc a) low high n e h k = absurd (omega (arith, ints))

pub brought_run : (low high x i : ℕ) → (leb (low + 64) x && leb (x + 8) (high + 64)) ≡ true → i < 8 → x - 64 + i ≡ brought_inside low high (pos (x + i) -ℤ pos 64)
brought_run low high x i e l =
    let h : low + 64 ≤ x = grind (arith, nat_tests) in
    let k : x + 8 ≤ high + 64 = grind (arith, nat_tests) in
    sym (brought_there (pos (x + i) -ℤ pos 64) low high (x - 64 + i) (omega (arith, ints)) (omega arith) (omega arith))
