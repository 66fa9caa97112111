-- What is transcribed of the calls of a reel.
use Rattle.std.specs.Prelude.{ℕ, zero, suc, ◌*◌, List, Ok, Err, Result, drop, take}
use Rattle.pictures.specs.declared.formats.Format.{Format}
use Rattle.pictures.specs.Formats.{columns_of, rows_of}
use Rattle.calls.specs.declared.answers.Answer.{Answer}
use Rattle.calls.specs.declared.answers.Answer.TheVariants.{Opened, Delivered, Closed, Sample, Age, Refused, OutOfTurn}
use Rattle.calls.specs.declared.faults.PictureFault.{PictureFault}
use Rattle.calls.specs.Held.{Held}
use Rattle.calls.specs.Runs.{Calling, Control, Setting, State, control, open_to, reply, resting, step}
use Rattle.calls.specs.declared.answers.Call.TheVariants.{Age as asking_age, Close as closing}
use Rattle.transcripts.specs.declared.answers.Word.TheVariants as word
use Rattle.transcripts.specs.Answers.{ages_text, answer_text, word_for}
use Rattle.transcripts.specs.Sums.{sums_text}
use Rattle.transcripts.specs.Transcribed.{Transcribed, transcribe_answer, transcribe_done, with_line}
use Rattle.reels_in_memory.specs.Memories.{sums_of}

-- a closed picture is transcribed by its sums
abbrev pub with_sums : Answer → Held → Transcribed → Transcribed
with_sums (Opened n) h t = t
with_sums (Delivered d) h t = t
with_sums (Closed marks) h t = with_line (sums_text (sums_of h)) t
with_sums (Sample n) h t = t
with_sums (Age n) h t = t
with_sums (Refused f) h t = t
with_sums OutOfTurn h t = t

-- an answer to a call is transcribed, and the sums of the picture that it closed, which is then held
abbrev pub transcribe_reply : Calling → Answer → Held → Transcribed → Transcribed
transcribe_reply c a h t = with_sums a h (transcribe_answer (word_for c) a t)

abbrev pub transcribe_call : Setting → State → Calling → Transcribed → Transcribed
transcribe_call w R c t = transcribe_reply c (reply w R c) (step w R c).contents.held t

-- without a reel each call is out of turn
abbrev pub miss_call : Calling → Transcribed → Transcribed
miss_call c t = transcribe_answer (word_for c) OutOfTurn t

-- the first rows of ages, each a line
abbrev pub transcribe_rows : ℕ → List ℕ → ℕ → Transcribed → Transcribed
transcribe_rows columns ages zero t = t
transcribe_rows columns ages (suc n) t = with_line (ages_text (take columns (drop (n * columns) ages))) (transcribe_rows columns ages n t)

-- all rows of a picture
abbrev pub transcribe_all_rows : Format → List ℕ → Transcribed → Transcribed
transcribe_all_rows format ages = transcribe_rows (columns_of format) ages (rows_of format)

-- what the question after an age is answered
abbrev pub answer_of_age : Result ℕ PictureFault → Answer
answer_of_age (Ok age) = Age age
answer_of_age (Err f) = Refused f

-- all ages of the finished picture, where the question after the first of them is answered
abbrev pub transcribe_table : Answer → Format → List ℕ → Transcribed → Transcribed
transcribe_table (Refused f) format ages t = transcribe_answer word.Ages (Refused f) t
transcribe_table _ format ages t = transcribe_all_rows format ages (transcribe_done word.Ages t)

abbrev pub transcribe_ages : Setting → State → Transcribed → Transcribed
transcribe_ages w R t = transcribe_table (reply w R (asking_age 0 0)) w.format R.contents.held.finished_ages t

-- a picture that is left open is closed; that is transcribed and not counted
abbrev pub transcribe_left : Control → Setting → State → Transcribed → Transcribed
transcribe_left (control n f resting) w R t = t
transcribe_left (control n f (open_to kind rounding layout)) w R t =
    with_sums (reply w R closing) (step w R closing).contents.held (with_line (answer_text word.Close (reply w R closing)) t)

abbrev pub transcribe_leaving : Setting → State → Transcribed → Transcribed
transcribe_leaving w R t = transcribe_left R.state w R t
