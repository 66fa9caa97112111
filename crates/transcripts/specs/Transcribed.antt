-- What is transcribed so far: the text, how many calls it answers, and how many of those were refused.
use Rattle.std.specs.Prelude.{◌≡◌, ℕ, List, Bool, false, ◌++◌, codes, IsSome, Option, string_bytes}
use Rattle.std.specs.Option.{option_map}
use Rattle.calls.specs.declared.answers.Answer.{Answer}
use Rattle.transcripts.specs.declared.answers.Word.{Word}
use Rattle.transcripts.specs.declared.transcript.Transcript.{Transcript}
use Rattle.transcripts.specs.Answers.{answer_text, line_after, word_text}
use Rattle.transcripts.specs.Tallies.{is_refused, one_more, one_more_if}

pub record Transcribed : Type 0 where
  pub text : List ℕ
  pub calls : ℕ
  pub refused : ℕ

-- a line more, which is no answer to a call
abbrev pub with_line : List ℕ → Transcribed → Transcribed
with_line line t = record { text = line_after t.text line; calls = t.calls; refused = t.refused }

-- a call more
abbrev pub with_call : Bool → Transcribed → Transcribed
with_call refused t = record { text = t.text; calls = one_more t.calls; refused = one_more_if refused t.refused }

-- the answer to a call
abbrev pub transcribe_answer : Word → Answer → Transcribed → Transcribed
transcribe_answer word a t = with_line (answer_text word a) (with_call (is_refused a) t)

-- a call was done, and its answer has no numbers
abbrev pub transcribe_done : Word → Transcribed → Transcribed
transcribe_done word t = with_line (word_text word ++ codes " ok") (with_call false t)

-- what stands in a transcript, where memory sufficed so far
abbrev pub transcribed_in : Transcript → Option Transcribed
transcribed_in r = option_map (λ s. record { text = string_bytes s; calls = r.calls; refused = r.refused }) r.text

-- where memory sufficed, what is transcribed is what f makes of what was transcribed
pub record Transcribes (f : Transcribed → Transcribed) (old new : Transcript) : Type 0 where
  pub transcribed : IsSome new.text → transcribed_in new ≡ option_map f (transcribed_in old)
