-- The law over every run. Runs begin with a new reel, over memory that holds anything, and make any list of calls, in any order, repeated, refused or
-- out of turn.
use Rattle.std.specs.Prelude.{◌≡◌, ℕ, suc, ◌+◌, ◌-◌, ◌*◌, ◌/◌, min, Bool, true, false, cond, not, ◌&&◌, ◌||◌, ◌≢◌, ◌⊎◌, List, [], ◌∷◌, map, ℤ, Some, None, Option, ◌==◌}
use Rattle.records.specs.declared.types.Macroblock.{Macroblock}
use Rattle.records.specs.declared.types.PictureKind.{PictureKind}
use Rattle.records.specs.declared.types.PictureKind.TheVariants as picture
use Rattle.records.specs.Deliveries.{intra_at}
use Rattle.pictures.specs.declared.formats.Format.{Format}
use Rattle.pictures.specs.Formats.{columns_of, rows_of}
use Rattle.pictures.specs.Pictures.{inside, side}
use Rattle.pictures.specs.Segments.{first_row, has_bit, segment_of_row}
use Rattle.rebuild.specs.Rebuilt.{delivery_records}
use Rattle.calls.specs.declared.answers.Answer.{Answer}
use Rattle.calls.specs.declared.answers.Answer.TheVariants.{Opened, Delivered, Closed, Sample, Age, Refused, OutOfTurn}
use Rattle.calls.specs.declared.faults.PictureFault.TheVariants as fault
use Rattle.calls.specs.Held.{Held, fits_rest, fits_store, fits_table}
use Rattle.calls.specs.Questions.{in_grid, kind_of, macroblocks_in}
use Rattle.calls.specs.Effects.{age_at}
use Rattle.calls.specs.Runs.{Calling, Setting, setting_of, State, new, replies, reply, run, shows, step}
use Rattle.calls.specs.declared.answers.Call.TheVariants.{Open as opening, Deliver as delivering, Close as closing, Sample as asking_sample, Age as asking_age}

-- a place of a picture of a format, and its macroblock row
abbrev pub in_picture : Format → ℕ → ℕ → ℕ → Bool
in_picture format p x y = inside (columns_of format) (rows_of format) p x y

abbrev pub macroblock_row : ℕ → ℕ → ℕ
macroblock_row p y = y / side p

-- what a reel shows: the finished picture's samples, and the ages of its macroblocks
abbrev pub sample_in : State → ℕ → ℕ → ℕ → ℕ
sample_in R p x y = R.contents.held.finished.sample p x y

abbrev pub age_in : Format → State → ℕ → ℕ → ℕ
age_in format R column row = age_at format R.contents.held.finished_ages column row

-- Isolation: rewriting the deliveries of one segment number ----------------------------------------------------------------

-- The second list is the first with deliveries of number k added or omitted; other bytes are one omitted and one added.
pub data Rewritten (k : ℕ) : List Calling → List Calling → Type 0 where
  over : Rewritten k [] []
  kept : {cs ds : List Calling} (c : Calling) → Rewritten k cs ds → Rewritten k (c ∷ cs) (c ∷ ds)
  added : {cs ds : List Calling} (bytes : List ℕ) → Rewritten k cs ds → Rewritten k cs (delivering k bytes ∷ ds)
  omitted : {cs ds : List Calling} (bytes : List ℕ) → Rewritten k cs ds → Rewritten k (delivering k bytes ∷ cs) ds

-- a macroblock row of the finished picture lies in segment k; in another one
abbrev pub Own : ℕ → Option ℕ → ℕ → Type 0
Own k None row = ⊥
Own k (Some layout) row = segment_of_row layout row ≡ k

abbrev pub Elsewhere : ℕ → Option ℕ → ℕ → Type 0
Elsewhere k None row = ⊥
Elsewhere k (Some layout) row = segment_of_row layout row ≢ k

-- Two answers to one call are the same to every number but k, where the finished picture's layout is f: they are equal, or the call is a delivery of
-- number k, or a closing whose marks agree but for bit k, or a question on a place of segment k.
pub data SameToOthers (k : ℕ) (f : Option ℕ) : Calling → Answer → Answer → Type 0 where
  alike : {c : Calling} {a : Answer} → SameToOthers k f c a a
  own_delivery : {bytes : List ℕ} {a b : Answer} → SameToOthers k f (delivering k bytes) a b
  marks : {m n : ℕ} → ((j : ℕ) → j ≢ k → has_bit m j ≡ has_bit n j) → SameToOthers k f closing (Closed m) (Closed n)
  own_sample : {p x y u v : ℕ} → Own k f (macroblock_row p y) → SameToOthers k f (asking_sample p x y) (Sample u) (Sample v)
  own_age : {c r u v : ℕ} → Own k f r → SameToOthers k f (asking_age c r) (Age u) (Age v)

-- Two reels show the same finished picture and ages outside segment k.
pub record SameElsewhere (format : Format) (k : ℕ) (R S : State) : Type 0 where
  pub layouts : shows R ≡ shows S
  pub samples : (p x y : ℕ) → in_picture format p x y ≡ true → Elsewhere k (shows R) (macroblock_row p y) → sample_in R p x y ≡ sample_in S p x y
  pub ages : (c r : ℕ) → in_grid format c r ≡ true → Elsewhere k (shows R) r → age_in format R c r ≡ age_in format S c r

-- Over a rewriting of number k's deliveries: each call kept has the same answer to the other numbers, and after every call, of either list, the same
-- is shown elsewhere.
abbrev pub OthersUntouched : (w : Setting) (k : ℕ) {cs ds : List Calling} → Rewritten k cs ds → State → State → Type 0
OthersUntouched w k over R S = Unit {0}
OthersUntouched w k (kept c e) R S =
    SameToOthers k (shows R) c (reply w R c) (reply w S c)
    × SameElsewhere w.format k (step w R c) (step w S c)
    × OthersUntouched w k e (step w R c) (step w S c)
OthersUntouched w k (added bytes e) R S =
    SameElsewhere w.format k R (step w S (delivering k bytes)) × OthersUntouched w k e R (step w S (delivering k bytes))
OthersUntouched w k (omitted bytes e) R S =
    SameElsewhere w.format k (step w R (delivering k bytes)) S × OthersUntouched w k e (step w R (delivering k bytes)) S

-- Fresh start: two reels from an INTRA opening on --------------------------------------------------------------------------

-- Two reels show the same whole picture and ages.
pub record SamePicture (format : Format) (R S : State) : Type 0 where
  pub layouts : shows R ≡ shows S
  pub samples : (p x y : ℕ) → in_picture format p x y ≡ true → sample_in R p x y ≡ sample_in S p x y
  pub ages : (c r : ℕ) → in_grid format c r ≡ true → age_in format R c r ≡ age_in format S c r

-- the picture limit refuses
abbrev pub Limited : Answer → Type 0
Limited a = a ≡ Refused fault.Limit

-- each call has the same answer and leaves the same picture, until the limit refuses one of them
abbrev pub SameUntilLimit : Setting → Setting → State → State → List Calling → Type 0
SameUntilLimit w v R S [] = Unit {0}
SameUntilLimit w v R S (c ∷ cs) =
    Limited (reply w R c)
    ⊎ (Limited (reply v S c)
    ⊎ ((reply w R c ≡ reply v S c)
    × SamePicture w.format (step w R c) (step v S c)
    × SameUntilLimit w v (step w R c) (step v S c) cs))

abbrev pub WithoutClosing : List Calling → Type 0
WithoutClosing [] = Unit {0}
WithoutClosing (c ∷ cs) = (c ≢ closing) × WithoutClosing cs

-- Age: the count read off the calls ----------------------------------------------------------------------------------------

pub record Entry : Type 0 where
  pub call : Calling
  pub answered : Answer

-- the calls with their answers
abbrev pub log : Setting → State → List Calling → List Entry
log w R [] = []
log w R (c ∷ cs) = record { call = c; answered = reply w R c } ∷ log w (step w R c) cs

abbrev pub granted : Answer → Bool
granted (Opened segments) = true
granted (Delivered counts) = true
granted (Closed bits) = true
granted (Sample value) = true
granted (Age age) = true
granted (Refused f) = false
granted OutOfTurn = false

-- a picture: its kind, and the macroblocks, by column and row, that its accepted deliveries coded INTRA
pub record Coding : Type 0 where
  pub kind : PictureKind
  pub intra : ℕ → ℕ → Bool

-- what a log tells: the picture that was opened last, with its layout, and the pictures closed, the latest first
pub record Book : Type 0 where
  pub layout : ℕ
  pub coding : Coding
  pub closed_ones : List Coding

-- the records of a segment code the macroblock of the picture INTRA
unfoldable pub coded_intra : Format → ℕ → ℕ → List Macroblock → ℕ → ℕ → Bool
coded_intra format layout segment records column row = intra_at records ((row - first_row format layout segment) * columns_of format + column)

-- the records in the bytes of an accepted delivery
abbrev pub records_of_segment : Format → PictureKind → ℕ → ℕ → List ℕ → List Macroblock
records_of_segment format kind layout segment bytes = delivery_records kind (macroblocks_in format layout segment) bytes

-- what an accepted call adds
abbrev pub noted : Format → Book → Calling → Book
noted format b (opening kind rounding layout) =
    record { layout = layout; coding = record { kind = kind_of kind; intra = λ c r. false }; closed_ones = b.closed_ones }
noted format b (delivering segment bytes) =
    record {
      layout = b.layout;
      coding = record {
        kind = b.coding.kind;
        intra = λ c r.
            cond (segment_of_row b.layout r == segment)
            (coded_intra format b.layout segment (records_of_segment format b.coding.kind b.layout segment bytes) c r)
            (b.coding.intra c r);
      };
      closed_ones = b.closed_ones;
    }
noted format b closing = record { layout = b.layout; coding = b.coding; closed_ones = b.coding ∷ b.closed_ones }
noted format b (asking_sample p x y) = b
noted format b (asking_age c r) = b

abbrev pub read_off : Format → Book → List Entry → Book
read_off format b [] = b
read_off format b (e ∷ es) = read_off format (cond (granted e.answered) (noted format b e.call) b) es

abbrev pub empty_book : Book
empty_book = record { layout = 0; coding = record { kind = picture.Intra; intra = λ c r. false }; closed_ones = [] }

abbrev pub is_intra_picture : PictureKind → Bool
is_intra_picture picture.Intra = true
is_intra_picture picture.Inter = false

-- how many pictures were closed after the one that last coded the macroblock INTRA
abbrev pub count : ℕ → ℕ → List Coding → ℕ
count c r [] = 0
count c r (p ∷ ps) = cond (p.intra c r) 0 (suc (count c r ps))

-- the macroblock was coded INTRA since the last INTRA picture, or in it
abbrev pub coded_since : ℕ → ℕ → List Coding → Bool
coded_since c r [] = false
coded_since c r (p ∷ ps) = p.intra c r || (not (is_intra_picture p.kind) && coded_since c r ps)

-- the pictures that the calls have closed
abbrev pub closed_by : Setting → Held → List Calling → List Coding
closed_by w h cs = (read_off w.format empty_book (log w (new h) cs)).closed_ones

abbrev pub age_by : ℕ → ℕ → List Coding → ℕ
age_by c r ps = cond (coded_since c r ps) (min 250 (count c r ps)) 255

-- Every age that is shown, once there is a finished picture, and every age that a question is told.
pub record Aged (w : Setting) (h : Held) (cs : List Calling) : Type 0 where
  pub shown : (c r : ℕ) → in_grid w.format c r ≡ true → (layout : ℕ) → shows (run w (new h) cs) ≡ Some layout
      → age_in w.format (run w (new h) cs) c r ≡ age_by c r (closed_by w h cs)
  pub asked : (c r a : ℕ) → reply w (run w (new h) cs) (asking_age c r) ≡ Age a → a ≡ age_by c r (closed_by w h cs)

-- Acceptance: what is accepted follows from the calls, the format and which parts of the memory fit it ----------------------

-- Two memories fit a format alike: each part that is asked for its size, the finished store, the finished ages or the rest, has it in both or in
-- neither. They may hold anything.
pub record FitAlike (format : Format) (h i : Held) : Type 0 where
  pub store : fits_store format h.finished ≡ fits_store format i.finished
  pub ages : fits_table format h.finished_ages ≡ fits_table format i.finished_ages
  pub rest : fits_rest format h ≡ fits_rest format i

-- an answer but for the value of a sample or an age
abbrev pub but_value : Answer → Answer
but_value (Opened segments) = Opened segments
but_value (Delivered counts) = Delivered counts
but_value (Closed bits) = Closed bits
but_value (Sample value) = Sample 0
but_value (Age age) = Age 0
but_value (Refused f) = Refused f
but_value OutOfTurn = OutOfTurn

-- Every call of a list on a new reel is answered alike but for such values, and the pictures closed, which every count is read off, are the same.
pub record AcceptedAlike (w v : Setting) (h i : Held) (cs : List Calling) : Type 0 where
  pub answers : map but_value (replies w (new h) cs) ≡ map but_value (replies v (new i) cs)
  pub counts : closed_by w h cs ≡ closed_by v i cs

-- The law --------------------------------------------------------------------------------------------------------------------

-- For every format and every meaning of a transform, and whatever the memory holds:
pub record Law (format : Format) (meaning : List ℤ → ℕ → ℕ → ℤ) : Type 0 where
  -- Isolation. Whatever is put in place of the deliveries of number k, every other number has the same.
  pub isolation : (h : Held) (k : ℕ) (cs ds : List Calling) (e : Rewritten k cs ds) → OthersUntouched (setting_of format meaning h) k e (new h) (new h)
  -- Fresh start. Two reels, over memories of their own and whatever each was given before, accept the same INTRA opening. They then get the same calls:
  -- `during` the picture, its closing, and `later`. From that closing on they answer and show the same.
  pub fresh_start : (h i : Held) (before other : List Calling) (rounding layout m n : ℕ) (during later : List Calling)
      → reply (setting_of format meaning h) (run (setting_of format meaning h) (new h) before) (opening 0 rounding layout) ≡ Opened m
      → reply (setting_of format meaning i) (run (setting_of format meaning i) (new i) other) (opening 0 rounding layout) ≡ Opened n
      → WithoutClosing during
      → SameUntilLimit (setting_of format meaning h) (setting_of format meaning i)
      (run (setting_of format meaning h) (run (setting_of format meaning h) (new h) before) (opening 0 rounding layout ∷ during))
      (run (setting_of format meaning i) (run (setting_of format meaning i) (new i) other) (opening 0 rounding layout ∷ during))
      (closing ∷ later)
  -- Age. Every age is the smaller of 250 and the count, or 255.
  pub ages : (h : Held) (cs : List Calling) → Aged (setting_of format meaning h) h cs
  -- Acceptance. Memories that fit alike, whatever they hold, and any two meanings of a transform accept the same calls: so what is accepted, and every
  -- count, follows from the calls, the format and what fits.
  pub acceptance : (h i : Held) (other : List ℤ → ℕ → ℕ → ℤ) → FitAlike format h i → (cs : List Calling)
      → AcceptedAlike (setting_of format meaning h) (setting_of format other i) h i cs

abbrev pub LawOverRuns : Type 0
LawOverRuns = (format : Format) (meaning : List ℤ → ℕ → ℕ → ℤ) → Law format meaning
