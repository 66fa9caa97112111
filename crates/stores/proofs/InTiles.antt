-- No two places of a tiled store have one address, each address lies in memory, and one lane of a word is set alone.
use Rattle.std.proofs.Common.{◌≡◌, ℕ, zero, suc, ◌+◌, ◌-◌, ◌*◌, ◌/◌, ◌%◌, ◌<◌, ◌≤◌, Bool, true, false, cond, ◌&&◌, eqb, ltb, leb, List, [], ◌∷◌, ◌++◌, ◌^◌, length, get_or, set, sym, refl, ap, ◌∙◌, ⊎_elim, arith}
use Rattle.std.proofs.lemmas.List.{get_or-set_same, get_or-set_other}
use Rattle.std.proofs.Math.Nat.{mul-le-mul_right}
use Rattle.std.proofs.lemmas.Nat.{div_below, mul-add-lt}
use Rattle.std.proofs.lemmas.Bool.{cases_eq, cond_both, cond-true, cond-false, cases_lt, eq-eqb, eqb-true, le-leb, le-ltb, lt-leb, ne_eqb}
use Rattle.std.proofs.lemmas.Bool.Decides.{nat_tests}
use Rattle.pictures.specs.declared.layouts.Segment.{Segment}
use Rattle.pictures.specs.Pictures.{Picture, covers, inside, painted, row_in, side, span, start}
use Rattle.pictures.proofs.Painting.{both, no_rows_above, none, rows_above, rows_above_more}
use Rattle.pictures.proofs.Addresses.{Within, address_along, before_border, by_side, from_border, within, is_within, Apart, Run, of_span, same_digits, paints_run, paints_where}
use Rattle.tables.specs.Cells.{in_part}
use Rattle.stores.specs.Room.{LiesIn}
use Rattle.stores.specs.Tiles.{Row, SquareAt, WordAt, WordOf, column_word, four, joined, lane_at, row_word, tile_address, tiles_seen}

some : (p : ℕ) → 0 < side p
some p = by_side (λ s. 0 < s) p (omega arith) (omega arith)

-- the number of a place's macroblock, and of its sample there
pub tile_below : (columns rows p x y : ℕ) → Within columns rows p x y → y / side p * columns + x / side p < columns * rows
tile_below columns rows p x y w = mul-add-lt (y / side p) columns (x / side p) rows (div_below y (side p) rows (some p) w.down) (div_below x (side p) columns (some p) w.across)

pub sample_below : (p x y : ℕ) → p < 3 → start p + (y % side p * side p + x % side p) < 384
sample_below zero x y l = omega arith
sample_below (suc zero) x y l = omega arith
sample_below (suc (suc zero)) x y l = omega arith
sample_below (suc (suc (suc p))) x y l = absurd (omega arith)

pub address_below : (columns rows p x y : ℕ) → Within columns rows p x y → tile_address columns p x y < columns * rows * 384
unfolding tile_address
address_below columns rows p x y w = omega (arith, tile_below columns rows p x y w, sample_below p x y w.plane)

-- two places of a plane
in_one_plane : (columns p x y u v : ℕ) → p < 3 → x < columns * side p → u < columns * side p → tile_address columns p x y ≡ tile_address columns p u v → (x ≡ u) × (y ≡ v)
unfolding tile_address
in_one_plane columns p x y u v h l m e =
    let s = same_digits _ _ _ _ 384 (sample_below p x y h) (sample_below p u v h) e in
    let t = same_digits (y / side p) (x / side p) (v / side p) (u / side p) columns (div_below x (side p) columns (some p) l) (div_below u (side p) columns (some p) m) s.0 in
    let r = same_digits (y % side p) (x % side p) (v % side p) (u % side p) (side p) (rest x) (rest u) (omega (arith, s.1)) in
    (same x u t.1 r.1, same y v t.0 r.0)
  where
    rest : (n : ℕ) → n % side p < side p
    rest n = by_side (λ s. n % s < s) p (omega arith) (omega arith)

    same : (a b : ℕ) → a / side p ≡ b / side p → a % side p ≡ b % side p → a ≡ b
    same a b = by_side (λ s. a / s ≡ b / s → a % s ≡ b % s → a ≡ b) p (λ i j. omega arith) (λ i j. omega arith)

-- places of two planes differ within their macroblocks
across_planes : (m n r s : ℕ) → r < 384 → s < 384 → m * 384 + r ≡ n * 384 + s → (r ≡ s → ⊥) → ⊥
across_planes m n r s l k e differ = differ (same_digits m r n s 384 l k e).1

pub tiles_apart : (columns rows : ℕ) → Apart columns rows (tile_address columns)
unfolding tile_address Apart
tiles_apart columns rows zero x y zero u v w z e = let t = in_one_plane columns 0 x y u v w.plane w.across z.across e in (refl, t.0, t.1)
tiles_apart columns rows zero x y (suc zero) u v w z e = absurd (across_planes _ _ _ _ (omega arith) (omega arith) e (λ s. omega arith))
tiles_apart columns rows zero x y (suc (suc zero)) u v w z e = absurd (across_planes _ _ _ _ (omega arith) (omega arith) e (λ s. omega arith))
tiles_apart columns rows (suc zero) x y zero u v w z e = absurd (across_planes _ _ _ _ (omega arith) (omega arith) e (λ s. omega arith))
tiles_apart columns rows (suc zero) x y (suc zero) u v w z e = let t = in_one_plane columns 1 x y u v w.plane w.across z.across e in (refl, t.0, t.1)
tiles_apart columns rows (suc zero) x y (suc (suc zero)) u v w z e = absurd (across_planes _ _ _ _ (omega arith) (omega arith) e (λ s. omega arith))
tiles_apart columns rows (suc (suc zero)) x y zero u v w z e = absurd (across_planes _ _ _ _ (omega arith) (omega arith) e (λ s. omega arith))
tiles_apart columns rows (suc (suc zero)) x y (suc zero) u v w z e = absurd (across_planes _ _ _ _ (omega arith) (omega arith) e (λ s. omega arith))
tiles_apart columns rows (suc (suc zero)) x y (suc (suc zero)) u v w z e = let t = in_one_plane columns 2 x y u v w.plane w.across z.across e in (refl, t.0, t.1)
tiles_apart columns rows (suc (suc (suc p))) x y q u v w z e = absurd (omega (arith, w.plane))
tiles_apart columns rows zero x y (suc (suc (suc q))) u v w z e = absurd (omega (arith, z.plane))
tiles_apart columns rows (suc zero) x y (suc (suc (suc q))) u v w z e = absurd (omega (arith, z.plane))
tiles_apart columns rows (suc (suc zero)) x y (suc (suc (suc q))) u v w z e = absurd (omega (arith, z.plane))

-- four bytes joined to a word are its four samples
four_joined : (a b c d : ℕ) → a < 256 → b < 256 → c < 256 → d < 256 → four (a * 16777216 + b * 65536 + c * 256 + d) ≡ a ∷ b ∷ c ∷ d ∷ []
four_joined a b c d h i j k =
    let e : (a * 16777216 + b * 65536 + c * 256 + d) / 16777216 % 256 ≡ a = omega arith in
    let f : (a * 16777216 + b * 65536 + c * 256 + d) / 65536 % 256 ≡ b = omega arith in
    let g : (a * 16777216 + b * 65536 + c * 256 + d) / 256 % 256 ≡ c = omega arith in
    let m : (a * 16777216 + b * 65536 + c * 256 + d) % 256 ≡ d = omega arith in
    simp (e, f, g, m)

-- a lane of a word is set
four_set : (word i value : ℕ) → value < 256 → four (joined (set (four word) i value)) ≡ set (four word) i value
four_set word zero value h = four_joined _ _ _ _ h (omega arith) (omega arith) (omega arith)
four_set word (suc zero) value h = four_joined _ _ _ _ (omega arith) h (omega arith) (omega arith)
four_set word (suc (suc zero)) value h = four_joined _ _ _ _ (omega arith) (omega arith) h (omega arith)
four_set word (suc (suc (suc zero))) value h = four_joined _ _ _ _ (omega arith) (omega arith) (omega arith) h
four_set word (suc (suc (suc (suc i)))) value h = four_joined _ _ _ _ (omega arith) (omega arith) (omega arith) (omega arith)

-- one lane of one word is set
pub lane_set : (words : List ℕ) (a value : ℕ) → value < 256 → a / 4 < length words
    → (b : ℕ) → lane_at (set words (a / 4) (joined (set (four (get_or words (a / 4) 0)) (a % 4) value))) b ≡ cond (eqb b a) value (lane_at words b)
lane_set words a value h l b =
    let word : ℕ = get_or words (a / 4) 0 in
    let new : ℕ = joined (set (four word) (a % 4) value) in
    ⊎_elim
    (λ (e : b / 4 ≡ a / 4).
    let is : lane_at (set words (a / 4) new) b ≡ get_or (set (four word) (a % 4) value) (b % 4) 0 =
    ap (λ n. get_or (four (get_or (set words (a / 4) new) n 0)) (b % 4) 0) e
    ∙ ap (λ n. get_or (four n) (b % 4) 0) (get_or-set_same words (a / 4) new 0 l)
    ∙ ap (λ bytes. get_or bytes (b % 4) 0) (four_set word (a % 4) value h) in
    ⊎_elim
    (λ (f : b % 4 ≡ a % 4).
    is ∙ ap (λ n. get_or (set (four word) (a % 4) value) n 0) f ∙ get_or-set_same (four word) (a % 4) value 0 (omega arith)
    ∙ sym (cond-true (eqb b a) value (lane_at words b) (eq-eqb b a (omega arith))))
    (λ (f : b % 4 ≡ a % 4 → ⊥).
    is ∙ get_or-set_other (four word) (a % 4) (b % 4) value 0 f ∙ ap (λ n. get_or (four (get_or words n 0)) (b % 4) 0) (sym e)
    ∙ sym (cond-false (eqb b a) value (lane_at words b) (ne_eqb b a (λ g. f (ap (λ n. n % 4) g)))))
    (cases_eq (b % 4) (a % 4)))
    (λ (e : b / 4 ≡ a / 4 → ⊥).
    ap (λ n. get_or (four n) (b % 4) 0) (get_or-set_other words (a / 4) (b / 4) new 0 e)
    ∙ sym (cond-false (eqb b a) value (lane_at words b) (ne_eqb b a (λ g. e (ap (λ n. n / 4) g)))))
    (cases_eq (b / 4) (a / 4))

-- a word's samples lie in it one by one
begins_word : (columns p x y : ℕ) → p < 3 → x % 4 ≡ 0 → tile_address columns p x y % 4 ≡ 0
unfolding tile_address
begins_word columns zero x y l h = omega arith
begins_word columns (suc zero) x y l h = omega arith
begins_word columns (suc (suc zero)) x y l h = omega arith
begins_word columns (suc (suc (suc p))) x y l h = absurd (omega arith)

word_beside : (columns p x y d : ℕ) → p < 3 → x % 4 ≡ 0 → d < 4 → tile_address columns p (x + d) y ≡ tile_address columns p x y + d
unfolding tile_address
word_beside columns zero x y d l h i = let a : (x + d) / 16 ≡ x / 16 = omega arith in rw a (omega arith)
word_beside columns (suc zero) x y d l h i = let a : (x + d) / 8 ≡ x / 8 = omega arith in rw a (omega arith)
word_beside columns (suc (suc zero)) x y d l h i = let a : (x + d) / 8 ≡ x / 8 = omega arith in rw a (omega arith)
word_beside columns (suc (suc (suc p))) x y d l h i = absurd (omega arith)

word_across : (columns p x d : ℕ) → x % 4 ≡ 0 → d < 4 → x < columns * side p → x + d < columns * side p
word_across columns p x d h i = by_side (λ s. x < columns * s → x + d < columns * s) p (λ j. omega arith) (λ j. omega arith)

pub word_run : (columns rows p x y : ℕ) → Within columns rows p x y → x % 4 ≡ 0 → Run columns rows (tile_address columns) p x y 4
word_run columns rows p x y w h =
    record {
      within_row = λ d i. record { plane = w.plane; across = word_across columns p x d h i w.across; down = w.down };
      one_by_one = λ d i. word_beside columns p x y d w.plane h i;
    }

-- a whole word is set
word_set : (words : List ℕ) (w new : ℕ) → w < length words
    → (a : ℕ) → lane_at (set words w new) a ≡ cond (eqb (a / 4) w) (get_or (four new) (a % 4) 0) (lane_at words a)
word_set words w new l a =
    ⊎_elim
    (λ (e : a / 4 ≡ w). rw e (simp (get_or-set_same words w new 0 l, eq-eqb w w refl)))
    (λ (e : a / 4 ≡ w → ⊥). simp (ne_eqb (a / 4) w e) (ap (λ n. get_or (four n) (a % 4) 0) (get_or-set_other words w (a / 4) new 0 e)))
    (cases_eq (a / 4) w)

in_word : (n w a : ℕ) → n % 4 ≡ 0 → n / 4 ≡ w → eqb (a / 4) w ≡ (leb n a && ltb a (n + 4))
in_word n w a z e = grind (arith, nat_tests)

-- so the store that sets a word paints four places of a row with its samples
pub word_painted : (columns rows p x y right w : ℕ) (words : List ℕ) (word : ℕ) (fresh : ℕ → ℕ) (new : ℕ → ℕ → ℕ → ℕ)
    → WordAt columns rows p x y right w → w < length words → ((a : ℕ) → a / 4 ≡ w → get_or (four word) (a % 4) 0 ≡ fresh a)
    → ((q u v : ℕ) → inside columns rows q u v ≡ true → span p y x (x + 4) q u v ≡ true → fresh (tile_address columns q u v) ≡ new q u v)
    → tiles_seen columns rows (set words w word) ≡ painted (span p y x (x + 4)) new (tiles_seen columns rows words)
word_painted columns rows p x y right w words word fresh new at l lanes is =
    let here = within columns rows p x y at.isin in
    paints_run columns rows (tile_address columns) (tiles_apart columns rows) (lane_at words) (lane_at (set words w word)) fresh new p x y 4
    (word_run columns rows p x y here at.begins)
    (λ a. word_set words w word l a
    ∙ cond_both (eqb (a / 4) w) (get_or (four word) (a % 4) 0) (lane_at words a) (λ n. n ≡ cond (eqb (a / 4) w) (fresh a) (lane_at words a))
    (λ e. lanes a (eqb-true _ _ e) ∙ sym (cond-true _ _ _ e)) (λ e. sym (cond-false _ _ _ e))
    ∙ ap (λ b. cond b (fresh a) (lane_at words a)) (in_word (tile_address columns p x y) w a (begins_word columns p x y here.plane at.begins) at.holds))
    is

-- with one value
pub one_value : (value word a : ℕ) → value < 256 → word ≡ joined (value ∷ value ∷ value ∷ value ∷ []) → get_or (four word) (a % 4) 0 ≡ value
one_value value word a h e =
    ap (λ n. get_or (four n) (a % 4) 0) e ∙ ap (λ bytes. get_or bytes (a % 4) 0) (four_joined value value value value h h h h) ∙ every (a % 4) (omega arith)
  where
    every : (n : ℕ) → n < 4 → get_or (value ∷ value ∷ value ∷ value ∷ []) n 0 ≡ value
    every zero g = refl
    every (suc zero) g = refl
    every (suc (suc zero)) g = refl
    every (suc (suc (suc zero))) g = refl
    every (suc (suc (suc (suc n)))) g = absurd (omega arith)

pub word_filled : (columns rows p x y right w : ℕ) (words : List ℕ) (word value : ℕ) → WordAt columns rows p x y right w → w < length words
    → value < 256 → word ≡ joined (value ∷ value ∷ value ∷ value ∷ [])
    → tiles_seen columns rows (set words w word) ≡ painted (span p y x (x + 4)) (λ _ _ _. value) (tiles_seen columns rows words)
word_filled columns rows p x y right w words word value at l h e =
    word_painted columns rows p x y right w words word (λ _. value) _ at l (λ a i. one_value value word a h e) (λ q u v i e. refl)

-- with the same word of a store of the same size
pub word_copied : (columns rows columns' rows' p x y right w : ℕ) (words others : List ℕ) (word : ℕ) → columns ≡ columns' → rows ≡ rows'
    → WordAt columns rows p x y right w → w < length words → word ≡ get_or others w 0
    → tiles_seen columns rows (set words w word) ≡ painted (span p y x (x + 4)) (tiles_seen columns' rows' others).sample (tiles_seen columns rows words)
word_copied columns rows columns' rows' p x y right w words others word c r at l e =
    word_painted columns rows p x y right w words word (lane_at others) (tiles_seen columns' rows' others).sample at l
    (λ a i. ap (λ n. get_or (four n) (a % 4) 0) (e ∙ ap (λ n. get_or others n 0) (sym i)))
    (λ q u v i e. rw (← c, ← r) (sym (cond-true _ _ _ i)))

-- an address is told by the word of the row, by how far after it the word lies, and by the lane
pub address_words : (columns p x y : ℕ) → p < 3 → tile_address columns p x y ≡ 4 * (row_word columns p y + column_word p (x / 4)) + x % 4
unfolding tile_address
address_words columns zero x y l = omega arith
address_words columns (suc zero) x y l = omega arith
address_words columns (suc (suc zero)) x y l = omega arith
address_words columns (suc (suc (suc p))) x y l = absurd (omega arith)

pub row_few : (columns rows p x y : ℕ) → rows ≤ 18 → Within columns rows p x y → y < 288
row_few columns rows p x y h w = by_side (λ s. y < rows * s → y < 288) p (λ l. omega arith) (λ l. omega arith) w.down

pub word_few : (columns rows p x y : ℕ) → columns ≤ 22 → Within columns rows p x y → x / 4 < 88
word_few columns rows p x y h w = by_side (λ s. x < columns * s → x / 4 < 88) p (λ l. omega arith) (λ l. omega arith) w.across

-- the four samples of a word
pub word_row : (columns rows p x y w : ℕ) (words : List ℕ) → inside columns rows p x y ≡ true → WordOf columns rows p x y w
    → Row (tiles_seen columns rows words) p (x / 4 * 4) y 4 (four (get_or words w 0))
word_row columns rows p x y w words isin at c h =
    let here = within columns rows p x y isin in
    let left : x / 4 * 4 < columns * side p = omega (arith, here.across) in
    let there : inside columns rows p (x / 4 * 4 + c) y ≡ true =
    is_within columns rows p (x / 4 * 4 + c) y (record { plane = here.plane; across = word_across columns p (x / 4 * 4) c (omega arith) h left; down = here.down }) in
    let n : (x / 4 * 4 + c) / 4 ≡ x / 4 = omega arith in
    let a : tile_address columns p (x / 4 * 4 + c) y ≡ 4 * w + c =
    address_words columns p (x / 4 * 4 + c) y here.plane ∙ (rw n (omega (arith, at.holds, address_words columns p x y here.plane))) in
    let d : (4 * w + c) / 4 ≡ w = omega arith in
    let m : (4 * w + c) % 4 ≡ c = omega arith in
    sym (cond-true _ _ _ there ∙ ap (lane_at words) a ∙ ap (λ z. get_or (four (get_or words z 0)) ((4 * w + c) % 4) 0) d ∙ ap (λ z. get_or (four (get_or words w 0)) z 0) m)

-- two words side by side, shifted by so many lanes
lane_shifted : (first second skip j : ℕ) → first < 4294967296 → second < 4294967296 → skip < 4 → j < 4
    → get_or (four ((first * 4294967296 + second) / 2 ^ (32 - 8 * skip) % 4294967296)) j 0 ≡ get_or (four first ++ four second) (skip + j) 0
lane_shifted first second zero zero h i k l = omega arith
lane_shifted first second zero (suc zero) h i k l = omega arith
lane_shifted first second zero (suc (suc zero)) h i k l = omega arith
lane_shifted first second zero (suc (suc (suc zero))) h i k l = omega arith
lane_shifted first second (suc zero) zero h i k l = omega arith
lane_shifted first second (suc zero) (suc zero) h i k l = omega arith
lane_shifted first second (suc zero) (suc (suc zero)) h i k l = omega arith
lane_shifted first second (suc zero) (suc (suc (suc zero))) h i k l = omega arith
lane_shifted first second (suc (suc zero)) zero h i k l = omega arith
lane_shifted first second (suc (suc zero)) (suc zero) h i k l = omega arith
lane_shifted first second (suc (suc zero)) (suc (suc zero)) h i k l = omega arith
lane_shifted first second (suc (suc zero)) (suc (suc (suc zero))) h i k l = omega arith
lane_shifted first second (suc (suc (suc zero))) zero h i k l = omega arith
lane_shifted first second (suc (suc (suc zero))) (suc zero) h i k l = omega arith
lane_shifted first second (suc (suc (suc zero))) (suc (suc zero)) h i k l = omega arith
lane_shifted first second (suc (suc (suc zero))) (suc (suc (suc zero))) h i k l = omega arith
lane_shifted first second (suc (suc (suc (suc s)))) j h i k l = absurd (omega arith)
lane_shifted first second skip (suc (suc (suc (suc j)))) h i k l = absurd (omega arith)

pub lanes_shifted : (first second a b skip j : ℕ) → a ≡ first → b ≡ second → first < 4294967296 → second < 4294967296 → skip < 4 → j < 4
    → get_or (four ((a * 4294967296 + b) / 2 ^ (32 - 8 * skip) % 4294967296)) j 0 ≡ get_or (four first ++ four second) (skip + j) 0
lanes_shifted first second a b skip j e f h i k l =
    ap (λ n. get_or (four ((n * 4294967296 + b) / 2 ^ (32 - 8 * skip) % 4294967296)) j 0) e
    ∙ ap (λ n. get_or (four ((first * 4294967296 + n) / 2 ^ (32 - 8 * skip) % 4294967296)) j 0) f ∙ lane_shifted first second skip j h i k l

-- a lane of two words is one of the first, or of the second
lane_left : (first second i : ℕ) → i < 4 → get_or (four first ++ four second) i 0 ≡ get_or (four first) i 0
lane_left first second zero h = refl
lane_left first second (suc zero) h = refl
lane_left first second (suc (suc zero)) h = refl
lane_left first second (suc (suc (suc zero))) h = refl
lane_left first second (suc (suc (suc (suc i)))) h = absurd (omega arith)

lane_right : (first second i : ℕ) → i < 4 → get_or (four first ++ four second) (4 + i) 0 ≡ get_or (four second) i 0
lane_right first second zero h = refl
lane_right first second (suc zero) h = refl
lane_right first second (suc (suc zero)) h = refl
lane_right first second (suc (suc (suc zero))) h = refl
lane_right first second (suc (suc (suc (suc i)))) h = absurd (omega arith)

-- the samples of two words that lie side by side, from one of the first's on
sample_shifted : (f : Picture) (p x y skip j first second word : ℕ) → skip < 4 → j < 4 → Row f p x y 4 (four first) → ((4 ≤ skip + j) → Row f p (x + 4) y 4 (four second))
    → get_or (four word) j 0 ≡ get_or (four first ++ four second) (skip + j) 0 → get_or (four word) j 0 ≡ f.sample p (x + skip + j) y
sample_shifted f p x y skip j first second word h i a b e =
    ⊎_elim
    (λ (l : skip + j < 4).
    let n : x + (skip + j) ≡ x + skip + j = omega arith in
    e ∙ lane_left first second (skip + j) l ∙ a (skip + j) l ∙ ap (λ z. f.sample p z y) n)
    (λ (l : 4 ≤ skip + j).
    let d : ℕ = skip + j - 4 in
    let m : skip + j ≡ 4 + d = omega arith in
    let n : x + 4 + d ≡ x + skip + j = omega arith in
    e ∙ ap (λ z. get_or (four first ++ four second) z 0) m ∙ lane_right first second d (omega arith) ∙ b l d (omega arith) ∙ ap (λ z. f.sample p z y) n)
    (cases_lt (skip + j) 4)

-- so eight samples from any place on are those of two words, or of three
pub eight_shifted : (f : Picture) (p x y first second third left right : ℕ) → Row f p (x / 4 * 4) y 4 (four first) → Row f p ((x + 4) / 4 * 4) y 4 (four second)
    → Row f p ((x + 7) / 4 * 4) y 4 (four third)
    → ((j : ℕ) → j < 4 → get_or (four left) j 0 ≡ get_or (four first ++ four second) (x % 4 + j) 0)
    → ((j : ℕ) → j < 4 → get_or (four right) j 0 ≡ get_or (four second ++ four third) (x % 4 + j) 0)
    → (i : ℕ) → i < 8 → get_or (four left ++ four right) i 0 ≡ f.sample p (x + i) y
eight_shifted f p x y first second third left right a b c l r i h =
    ⊎_elim
    (λ (k : i < 4).
    let n : x / 4 * 4 + x % 4 + i ≡ x + i = omega arith in
    let e : (x + 4) / 4 * 4 ≡ x / 4 * 4 + 4 = omega arith in
    lane_left left right i k
    ∙ sample_shifted f p (x / 4 * 4) y (x % 4) i first second left (omega arith) k a (λ _. rw e at b) (l i k)
    ∙ ap (λ z. f.sample p z y) n)
    (λ (k : 4 ≤ i).
    let d : ℕ = i - 4 in
    let g : d < 4 = omega arith in
    let m : i ≡ 4 + d = omega arith in
    let n : (x + 4) / 4 * 4 + x % 4 + d ≡ x + i = omega arith in
    ap (λ z. get_or (four left ++ four right) z 0) m ∙ lane_right left right d g
    ∙ sample_shifted f p ((x + 4) / 4 * 4) y (x % 4) d second third right (omega arith) g b
    (λ o. let e : (x + 7) / 4 * 4 ≡ (x + 4) / 4 * 4 + 4 = omega arith in rw e at c) (r d g)
    ∙ ap (λ z. f.sample p z y) n)
    (cases_lt i 4)

-- a square's words lie inside
pub word_isin : (columns rows p x y n : ℕ) → SquareAt columns rows p x y → n < 16 → inside columns rows p (x + n % 2 * 4) (y + n / 2) ≡ true
word_isin columns rows p x y n at h =
    let w = within columns rows p (x + 7) (y + 7) at.last in
    is_within columns rows p (x + n % 2 * 4) (y + n / 2) (record { plane = w.plane; across = omega (arith, w.across); down = omega (arith, w.down) })

-- a word is set with four values, from one of them on
pub word_with : (columns rows p x y b w : ℕ) (words values : List ℕ) (word : ℕ) (new : ℕ → ℕ → ℕ → ℕ) → ((k : ℕ) → get_or values k 0 < 256)
    → inside columns rows p x y ≡ true → x % 4 ≡ 0 → WordOf columns rows p x y w → w < length words
    → word ≡ joined (get_or values b 0 ∷ get_or values (b + 1) 0 ∷ get_or values (b + 2) 0 ∷ get_or values (b + 3) 0 ∷ [])
    → ((d : ℕ) → d < 4 → get_or values (b + d) 0 ≡ new p (x + d) y)
    → tiles_seen columns rows (set words w word) ≡ painted (span p y x (x + 4)) new (tiles_seen columns rows words)
word_with columns rows p x y b w words values word new small isin begins at l e is =
    word_painted columns rows p x y (x + 4) w words word (λ a. get_or values (b + a % 4) 0) new
    (record { isin = isin; begins = begins; ends = omega arith; holds = at.holds; kept = at.kept }) l
    (λ a i. ap (λ m. get_or (four m) (a % 4) 0) e ∙ ap (λ bytes. get_or bytes (a % 4) 0) (four_joined _ _ _ _ (small _) (small _) (small _) (small _)) ∙ lane (a % 4) (omega arith))
    (λ q u v i s.
    let t = of_span p y x (x + 4) q u v s in
    let here = within columns rows p x y isin in
    let d : ℕ = u - x in
    let lt : d < 4 = omega (arith, t.2, t.3) in
    let back : x + d ≡ u = omega (arith, t.2) in
    let there : tile_address columns q u v ≡ tile_address columns p x y + d = address_along (tile_address columns) p x y 4 q u v s (λ j. word_beside columns p x y j here.plane begins) in
    let zero_lane = begins_word columns p x y here.plane begins in
    let same : b + tile_address columns q u v % 4 ≡ b + d = omega arith in
    ap (λ m. get_or values m 0) same ∙ is d lt ∙ ap (λ m. new m (x + d) y) t.0 ∙ ap (λ m. new q m y) back ∙ ap (λ m. new q u m) t.1)
  where
    lane : (i : ℕ) → i < 4
        → get_or (get_or values b 0 ∷ get_or values (b + 1) 0 ∷ get_or values (b + 2) 0 ∷ get_or values (b + 3) 0 ∷ []) i 0 ≡ get_or values (b + i) 0
    lane zero g = let z : b + 0 ≡ b = omega arith in rw z refl
    lane (suc zero) g = refl
    lane (suc (suc zero)) g = refl
    lane (suc (suc (suc zero))) g = refl
    lane (suc (suc (suc (suc i)))) g = absurd (omega arith)

-- a macroblock's number, by its row and its column, is one of a row's from left on, before right
number_in_row : (columns left right row down across : ℕ) → across < columns → left ≤ right → right ≤ columns
    → (leb (row * columns + left) (down * columns + across) && ltb (down * columns + across) (row * columns + right))
    ≡ (leb left across && (ltb across right && (leb row down && ltb down (row + 1))))
number_in_row columns left right row down across h i j =
    ⊎_elim
    (λ (l : down < row).
    let p : (down + 1) * columns ≤ row * columns = mul-le-mul_right columns (let k : down + 1 ≤ row = omega arith in k) in
    let a : leb (row * columns + left) (down * columns + across) ≡ false = lt-leb _ _ (omega (arith, p)) in
    let b : leb row down ≡ false = lt-leb _ _ l in
    simp (a, b) (sym (out (leb left across) (ltb across right))))
    (λ (l : row ≤ down).
    ⊎_elim
    (λ (m : down < row + 1).
    let e : down ≡ row = omega arith in
    rw e (grind (arith, nat_tests)))
    (λ (m : row + 1 ≤ down).
    let p : (row + 1) * columns ≤ down * columns = mul-le-mul_right columns m in
    let a : ltb (down * columns + across) (row * columns + right) ≡ false = le-ltb _ _ (omega (arith, p)) in
    let b : ltb down (row + 1) ≡ false = le-ltb _ _ m in
    let c : leb row down ≡ true = le-leb _ _ l in
    simp (a, b, c) (and_out (leb (row * columns + left) (down * columns + across)) ∙ sym (out (leb left across) (ltb across right))))
    (cases_lt down (row + 1)))
    (cases_lt down row)
  where
    out : (a b : Bool) → (a && (b && false)) ≡ false
    out false b = refl
    out true false = refl
    out true true = refl

    and_out : (a : Bool) → (a && false) ≡ false
    and_out false = refl
    and_out true = refl

words_of : (m n t c r : ℕ) → r < 384 → m * 96 + c ≡ n * 96
    → (leb (m * 96) ((t * 384 + r) / 4) && ltb ((t * 384 + r) / 4) (m * 96 + c)) ≡ (leb m t && ltb t n)
words_of m n t c r h e = grind (arith, nat_tests)

by_macroblocks : (p left right row u v : ℕ) → (leb left (u / side p) && (ltb (u / side p) right && (leb row (v / side p) && ltb (v / side p) (row + 1))))
    ≡ (leb (left * side p) u && (ltb u (right * side p) && (leb (row * side p) v && ltb v ((row + 1) * side p))))
by_macroblocks p left right row u v = simp (from_border p u left, before_border p u right, from_border p v row, before_border p v (row + 1)) refl

-- so the words of a row of macroblocks are those of its places
row_words : (columns rows row q u v : ℕ) (s : Segment) → Within columns rows q u v → s.left ≤ s.right → s.right ≤ columns
    → (leb ((row * columns + s.left) * 96) (tile_address columns q u v / 4) && ltb (tile_address columns q u v / 4) ((row * columns + s.left) * 96 + (s.right - s.left) * 96))
    ≡ covers (row_in s row) q u v
unfolding tile_address covers
row_words columns rows row q u v s w h i =
    words_of (row * columns + s.left) (row * columns + s.right) (v / side q * columns + u / side q) ((s.right - s.left) * 96) _ (sample_below q u v w.plane) (omega arith)
    ∙ number_in_row columns s.left s.right row (v / side q) (u / side q) (div_below u (side q) columns (some q) w.across) h i ∙ by_macroblocks q s.left s.right row u v

-- a row of macroblocks, whose words are set, has their samples; so have then the rows down to it, if those above it had
pub tile_rows_more : (columns rows row size : ℕ) (s : Segment) (words after : List ℕ) (word : ℕ → ℕ) (new : ℕ → ℕ → ℕ → ℕ) (f : Picture)
    → LiesIn columns rows s → s.top ≤ row → columns * rows * 96 ≤ size
    → ((k : ℕ) → get_or after k 0 ≡ cond (in_part ((row * columns + s.left) * 96) ((s.right - s.left) * 96) size k) (word k) (get_or words k 0))
    → ((q u v : ℕ) → inside columns rows q u v ≡ true → get_or (four (word (tile_address columns q u v / 4))) (tile_address columns q u v % 4) 0 ≡ new q u v)
    → tiles_seen columns rows words ≡ painted (covers (rows_above s row)) new f → tiles_seen columns rows after ≡ painted (covers (rows_above s (row + 1))) new f
tile_rows_more columns rows row size s words after word new f at le room step is was =
    both (covers (rows_above s row)) (covers (row_in s row)) (covers (rows_above s (row + 1))) new f (tiles_seen columns rows words) (tiles_seen columns rows after) was
    (paints_where columns rows (tile_address columns) (lane_at words) (lane_at after) (λ a. get_or (four (word (a / 4))) (a % 4) 0) (covers (row_in s row)) new
    (λ q u v w.
    let a : ℕ = tile_address columns q u v in
    let k : a / 4 < size = omega (arith, address_below columns rows q u v w, room) in
    ap (λ n. get_or (four n) (a % 4) 0) (step (a / 4))
    ∙ lane (in_part ((row * columns + s.left) * 96) ((s.right - s.left) * 96) size (a / 4)) (word (a / 4)) (get_or words (a / 4) 0) (a % 4)
    ∙ ap (λ b. cond b (get_or (four (word (a / 4))) (a % 4) 0) (lane_at words a)) (there _ _ size (a / 4) k ∙ row_words columns rows row q u v s w at.rightwards at.across))
    (λ q u v i e. is q u v i))
    (λ q u v. rows_above_more s row q u v le)
  where
    lane : (b : Bool) (x y n : ℕ) → get_or (four (cond b x y)) n 0 ≡ cond b (get_or (four x) n 0) (get_or (four y) n 0)
    lane true x y n = refl
    lane false x y n = refl

    there : (first count size k : ℕ) → k < size → in_part first count size k ≡ (leb first k && ltb k (first + count))
    there first count size k h = grind (arith, nat_tests)

-- no row of macroblocks is set yet, and all are
pub tile_rows_none : (s : Segment) (new : ℕ → ℕ → ℕ → ℕ) (f : Picture) → f ≡ painted (covers (rows_above s s.top)) new f
tile_rows_none s new f = none _ _ _ (no_rows_above s)

pub tile_rows_all : (s : Segment) (row : ℕ) (new : ℕ → ℕ → ℕ → ℕ) (f g : Picture) → row ≡ s.bottom → g ≡ painted (covers (rows_above s row)) new f → g ≡ painted (covers s) new f
tile_rows_all s row new f g end was = was ∙ ap (λ r. painted (covers (rows_above s r)) new f) end
