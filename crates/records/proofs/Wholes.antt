-- Accepted records are whole: one for each macroblock, and all INTRA in an INTRA picture.
use Rattle.std.proofs.Common.{◌≡◌, ℕ, zero, suc, ◌+◌, ◌<◌, Bool, true, false, List, [], ◌∷◌, length, IfOk, Some, None, Ok, Err, Option, Result, refl, ap, arith}
use Rattle.std.proofs.lemmas.Result.{IfOk-weaker, IfOk-at_ok}
use Rattle.records.specs.declared.faults.MacroblockFault.{MacroblockFault}
use Rattle.records.specs.declared.faults.SegmentFault.{SegmentFault}
use Rattle.records.specs.declared.faults.Place.{Place}
use Rattle.records.specs.declared.types.Head.{Head}
use Rattle.records.specs.declared.types.Macroblock.{Macroblock}
use Rattle.records.specs.declared.types.MacroblockType.{MacroblockType}
use Rattle.records.specs.declared.types.MacroblockType.TheVariants as coding
use Rattle.records.specs.declared.types.PictureKind.{PictureKind}
use Rattle.records.specs.declared.types.PictureKind.TheVariants as picture
use Rattle.records.specs.Words.{bits, words_of}
use Rattle.records.specs.declared.types.WordKind.TheVariants as due
use Rattle.records.specs.Reading.{Unread, ask, place_at, with_unread, word_from}
use Rattle.records.specs.Macroblocks.{in_front, blocks_from, head_from, head_with, macroblock_from, rest_from, type_of}
use Rattle.records.specs.Deliveries.{Whole, end_from, intra_at, is_intra, macroblocks_from, read, whole_words}
use Rattle.records.proofs.Gathered.{made_then}

-- whatever is sure of every value is sure of an answer
made_all : {X F : Type 0} (r : Result X F) (P : X → Type 0) → ((x : X) → P x) → IfOk r P
made_all (Ok x) P h = h x
made_all (Err f) P h = tt

-- an INTRA picture has heads of INTRA macroblocks only
abbrev HeadIntra : Head × Unread → Type 0
HeadIntra q = q.0.coding ≡ coding.Intra

asked : (b : Bool) (f : MacroblockFault) (h : Head) (s : Unread) → h.coding ≡ coding.Intra → IfOk (with_unread (ask b f (Ok h)) s) HeadIntra
asked true f h s e = e
asked false f h s e = tt

with_intra : (p : Place) (t : Option MacroblockType) (quantizer pattern : ℕ) (s : Unread) → IfOk (with_unread (head_with picture.Intra p t quantizer pattern) s) HeadIntra
with_intra p None quantizer pattern s = tt
with_intra p (Some coding.Skipped) quantizer pattern s = tt
with_intra p (Some coding.Inter) quantizer pattern s = tt
with_intra p (Some coding.Intra) quantizer pattern s = asked _ _ _ s refl

head_intra : (s : Unread) (m : ℕ) → IfOk (head_from picture.Intra s m) HeadIntra
head_intra s m = made_then _ (word_from due.Head (place_at s m 6) s) _ (λ _. Unit {0}) _ (made_all _ _ (λ _. tt)) (λ q _. with_intra (place_at s m 6) (type_of (bits 27 26 q.0)) (bits 25 21 q.0) (bits 20 15 q.0) q.1)

-- and so only such macroblocks
abbrev IntraRead : Macroblock × Unread → Type 0
IntraRead q = is_intra q.0 ≡ true

rest_intra : (t : MacroblockType) (quantizer pattern : ℕ) (s : Unread) (m : ℕ) → t ≡ coding.Intra → IfOk (rest_from t quantizer pattern s m) IntraRead
rest_intra coding.Intra quantizer pattern s m e = made_then _ (blocks_from 6 true pattern s m 0) _ (λ _. Unit {0}) _ (made_all _ _ (λ _. tt)) (λ b _. refl)
rest_intra coding.Skipped quantizer pattern s m e = let z : ◌≡◌ {A = ℕ} 0 1 = cc in absurd (omega arith)
rest_intra coding.Inter quantizer pattern s m e = let z : ◌≡◌ {A = ℕ} 0 1 = cc in absurd (omega arith)

intra_read : (kind : PictureKind) (s : Unread) (m : ℕ) → IfOk (macroblock_from kind s m) (λ q. kind ≡ picture.Intra → IntraRead q)
intra_read picture.Intra s m = made_then _ (head_from picture.Intra s m) _ HeadIntra _ (head_intra s m) (λ h e. IfOk-weaker _ IntraRead _ (λ q i _. i) (rest_intra _ _ _ h.1 m e))
intra_read picture.Inter s m = made_all (macroblock_from picture.Inter s m) (λ q. picture.Inter ≡ picture.Intra → IntraRead q) (λ q e. let z : ◌≡◌ {A = ℕ} 0 1 = cc in absurd (omega arith))

-- one macroblock more
whole_more : (kind : PictureKind) (n : ℕ) (x : Macroblock) (r : Result (List Macroblock × Unread) SegmentFault) → (kind ≡ picture.Intra → is_intra x ≡ true)
    → IfOk r (λ q. Whole kind n q.0) → IfOk (in_front (x ∷ []) r) (λ q. Whole kind (suc n) q.0)
whole_more kind n x (Ok q) h w = record { one_each = ap suc w.one_each; intra = each }
  where
    each : kind ≡ picture.Intra → (i : ℕ) → i < suc n → intra_at (x ∷ q.0) i ≡ true
    each e zero l = h e
    each e (suc i) l = w.intra e i (omega arith)
whole_more kind n x (Err f) h w = tt

records_whole : (n : ℕ) (kind : PictureKind) (s : Unread) (m : ℕ) → IfOk (macroblocks_from n kind s m) (λ q. Whole kind n q.0)
unfolding macroblocks_from
records_whole zero kind s m = record { one_each = refl; intra = λ e i h. absurd (omega arith) }
records_whole (suc n) kind s m =
    made_then _ (macroblock_from kind s m) _ (λ q. kind ≡ picture.Intra → is_intra q.0 ≡ true) _ (intra_read kind s m)
    (λ q e. whole_more kind n q.0 _ e (records_whole n kind q.1 (m + 1)))

pub reads_whole : (kind : PictureKind) (n : ℕ) (bytes : List ℕ) → IfOk (read kind n bytes) (Whole kind n)
unfolding read
reads_whole kind n bytes =
    made_then _ (whole_words bytes) _ (λ _. Unit {0}) _ (made_all _ _ (λ _. tt)) (λ _ _.
    made_then _ (macroblocks_from n kind (words_of bytes, 0) 0) _ (λ q. Whole kind n q.0) _ (records_whole n kind (words_of bytes, 0) 0) (λ q w.
    made_then _ (end_from n q.1) _ (λ _. Unit {0}) _ (made_all _ _ (λ _. tt)) (λ _ _. w)))

-- records that were read are as many as the macroblocks
pub all_there : (kind : PictureKind) (n : ℕ) (bytes : List ℕ) (records : List Macroblock) → read kind n bytes ≡ Ok records → length records ≡ n
all_there kind n bytes records e = (IfOk-at_ok (Whole kind n) e (reads_whole kind n bytes)).one_each
