-- What is transcribed of the calls of a reel.
use Rattle.std.proofs.Common.{◌≡◌, ℕ, ◌+◌, ◌*◌, ◌-◌, List, take, drop, true, Bool, ℤ, add-one, arith}
use Rattle.calls.specs.declared.answers.Answer.{Answer}
use Rattle.calls.specs.declared.answers.Answer.TheVariants.{Closed}
use Rattle.calls.specs.Held.{Held, fits}
use Rattle.calls.specs.Questions.{judge_closing}
use Rattle.calls.specs.Runs as runs
use Rattle.calls.specs.Runs.{Calling, Contents}
use Rattle.calls.specs.Effects.{picture_closed}
use Rattle.reel.specs.declared.reels.Slip.{Slip}
use Rattle.replay.specs.declared.Stage.TheVariants.{Open}
use Rattle.replay.specs.Stages.{setting_at, state_of}
use Rattle.transcripts.specs.declared.answers.Word.{Word}
use Rattle.transcripts.specs.declared.answers.Word.TheVariants as word
use Rattle.transcripts.specs.declared.sums.PictureSums.{PictureSums}
use Rattle.transcripts.specs.declared.transcript.Transcript.{Transcript}
use Rattle.transcripts.specs.Answers.{ages_text, answer_text, word_for}
use Rattle.transcripts.specs.Sums.{sums_text}
use Rattle.transcripts.specs.Transcribed.{Transcribed, Transcribes, transcribe_answer, with_line}
use Rattle.transcripts.proofs.Transcribing.{transcribes_as, transcribes_then}
use Rattle.reels_in_memory.specs.Memories.{sums_of}
use Rattle.reels_in_memory.specs.Transcriptions.{transcribe_leaving, transcribe_reply, transcribe_rows, with_sums}

-- a closing is transcribed with the sums of what is held
pub closed_transcribed : (c : Calling) (a : Answer) (marks : ℕ) (h : Held) (sums : PictureSums) (word : Word) (x y z : Transcript)
    → word ≡ word_for c → a ≡ Closed marks → sums ≡ sums_of h → Transcribes (transcribe_answer word a) x y → Transcribes (with_line (sums_text sums)) y z → Transcribes (transcribe_reply c a h) x z
closed_transcribed c a marks h sums word x y z ew ea es p q = transcribes_as _ _ x z (λ t. rw (ew, ea, es)) (transcribes_then _ _ x y z p q)

-- a picture that is left open is closed where the memory fits
closing_transcribed : (fit : Bool) (marks : ℕ) (there here : Contents) (t : Transcribed) → fit ≡ true
    → with_line (sums_text (sums_of there.held)) (with_line (answer_text word.Close (Closed marks)) t)
    ≡ with_sums (runs.answer_or_refusal (judge_closing fit) (Closed marks)) (runs.if_accepted (judge_closing fit) there here).held (with_line (answer_text word.Close (runs.answer_or_refusal (judge_closing fit) (Closed marks))) t)
closing_transcribed fit marks there here t e = rw e

pub left_transcribed : (meaning : List ℤ → ℕ → ℕ → ℤ) (slip : Slip) (h after : Held) (marks : ℕ) (sums : PictureSums) (x y z : Transcript)
    → fits slip.reel.format h ≡ true → marks ≡ slip.accepted → after ≡ picture_closed slip.reel.format slip.kind slip.layout slip.accepted h → sums ≡ sums_of after
    → Transcribes (with_line (answer_text word.Close (Closed marks))) x y → Transcribes (with_line (sums_text sums)) y z
    → Transcribes (transcribe_leaving (setting_at (Open slip) meaning h) (state_of (Open slip) h)) x z
left_transcribed meaning slip h after marks sums x y z fit em ea es p q =
    let w = setting_at (Open slip) meaning h in
    let M = (state_of (Open slip) h).contents in
    transcribes_as _ _ x z (λ t. rw (em, es, ea) (closing_transcribed (runs.all_fit w) slip.accepted (runs.finish slip.reel.format slip.kind slip.layout M) M t fit)) (transcribes_then _ _ x y z p q)

-- one row more
pub row_more : (columns : ℕ) (ages : List ℕ) (n : ℕ) (t : Transcribed)
    → with_line (ages_text (take ((n + 1) * columns - n * columns) (drop (n * columns) ages))) (transcribe_rows columns ages n t) ≡ transcribe_rows columns ages (n + 1) t
row_more columns ages n t =
    let e : (n + 1) * columns - n * columns ≡ columns = omega arith in
    rw (e, add-one)
