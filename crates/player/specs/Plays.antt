-- What a script is answered: its lines are played one after the other.
use Rattle.std.specs.Prelude.{ℕ, ◌+◌, List, [], ◌∷◌, Some, None, Ok, Err, Option, Result, map}
use Rattle.records.specs.declared.faults.SegmentFault.{SegmentFault}
use Rattle.records.specs.declared.types.Macroblock.{Macroblock}
use Rattle.records.specs.Deliveries.{delivered_of, read}
use Rattle.pictures.specs.declared.formats.Format.{Format}
use Rattle.pictures.specs.Formats.{format_of_number}
use Rattle.script.specs.declared.line.Mistake.{Mistake}
use Rattle.script.specs.Fields.{lines_of}
use Rattle.script.specs.Lines as script_lines
use Rattle.calls.specs.declared.answers.Answer.TheVariants.{Delivered, OutOfTurn, Refused}
use Rattle.calls.specs.declared.faults.PictureFault.TheVariants as fault
use Rattle.calls.specs.Runs.{Calling, Setting, State, setting_of, step}
use Rattle.calls.specs.Runs as runs
use Rattle.call_lines.specs.declared.line.StoreKind.{StoreKind}
use Rattle.transform.specs.declared.kinds.TransformKind.{TransformKind}
use Rattle.transform.specs.declared.kinds.TransformKind.TheVariants.{TwoPass}
use Rattle.call_lines.specs.Lines.{Meaning, ages, call, line_of, new, records, store, transform}
use Rattle.transcripts.specs.declared.answers.Word.TheVariants as word
use Rattle.transcripts.specs.Answers.{done_text, line_after, misread_text}
use Rattle.transcripts.specs.Macroblocks.{numbered_text}
use Rattle.transcripts.specs.Transcribed.{Transcribed, transcribe_answer, transcribe_done, with_line}
use Rattle.reels_in_memory.specs.Memories.{blank}
use Rattle.transform.specs.Kinds.{meaning_of}
use Rattle.reels_in_memory.specs.Transcriptions.{miss_call, transcribe_ages, transcribe_call, transcribe_leaving}

-- the reel there is: what is the same throughout its run, and the state that it is in
pub record Playing : Type 0 where
  pub setting : Setting
  pub state : State

-- what the lines so far have come to: the choices for the reels to come, the reel there is, if there is one, and what is transcribed
pub record Played : Type 0 where
  pub store : StoreKind
  pub transform : TransformKind
  pub reel : Option Playing
  pub transcribed : Transcribed

-- before the first line
abbrev pub started : StoreKind → Transcribed → Played
started kind t = record { store = kind; transform = TwoPass; reel = None; transcribed = t }

-- more is transcribed, and nothing else is done
abbrev pub transcribing : (Transcribed → Transcribed) → Played → Played
transcribing f p = record { store = p.store; transform = p.transform; reel = p.reel; transcribed = f p.transcribed }

-- a call on the reel there is; without one it is out of turn
abbrev pub made_on : Option Playing → Calling → Played → Played
made_on None c p = transcribing (miss_call c) p
made_on (Some r) c p =
    record {
      store = p.store;
      transform = p.transform;
      reel = Some (record { setting = r.setting; state = step r.setting r.state c });
      transcribed = transcribe_call r.setting r.state c p.transcribed;
    }

abbrev pub make_call : Calling → Played → Played
make_call c p = made_on p.reel c p

abbrev pub ages_on : Option Playing → Transcribed → Transcribed
ages_on None t = transcribe_answer word.Ages OutOfTurn t
ages_on (Some r) t = transcribe_ages r.setting r.state t

-- a picture that the reel there is has open is closed
abbrev pub leaving : Option Playing → Transcribed → Transcribed
leaving None t = t
leaving (Some r) t = transcribe_leaving r.setting r.state t

-- a reel that begins over zeros
abbrev pub begun_in : Format → TransformKind → Playing
begun_in format kind = record { setting = setting_of format (meaning_of kind) (blank format); state = runs.new (blank format) }

-- a new reel ends the one before it; a number of no format leaves it as it is
abbrev pub begun : Option Format → Played → Played
begun None p = transcribing (transcribe_answer word.New (Refused fault.Format)) p
begun (Some format) p =
    record { store = p.store; transform = p.transform; reel = Some (begun_in format p.transform); transcribed = transcribe_done word.New (leaving p.reel p.transcribed) }

-- macroblocks are transcribed by their index
abbrev pub transcribe_macroblocks : ℕ → List Macroblock → Transcribed → Transcribed
transcribe_macroblocks index [] t = t
transcribe_macroblocks index (m ∷ ms) t = transcribe_macroblocks (index + 1) ms (with_line (numbered_text index m) t)

abbrev pub transcribe_delivery : List ℕ → Result (List Macroblock) SegmentFault → Transcribed → Transcribed
transcribe_delivery bytes (Ok ms) t = transcribe_answer word.Records (Delivered (delivered_of bytes ms)) (transcribe_macroblocks 0 ms t)
transcribe_delivery bytes (Err f) t = transcribe_answer word.Records (Refused (fault.Segment f)) t

abbrev pub transcribe_records : script_lines.RecordsMeaning → Transcribed → Transcribed
transcribe_records r t = transcribe_delivery r.bytes (read r.kind r.macroblocks r.bytes) t

-- what a line that says something comes to
abbrev pub played_by : Meaning → Played → Played
played_by (store kind) p = record { store = kind; transform = p.transform; reel = p.reel; transcribed = p.transcribed }
played_by (transform kind) p = record { store = p.store; transform = kind; reel = p.reel; transcribed = p.transcribed }
played_by (new format) p = begun (format_of_number format) p
played_by (call c) p = make_call c p
played_by ages p = transcribing (ages_on p.reel) p
played_by (records r) p = transcribing (transcribe_records r) p

-- a line by its number: a blank one says nothing, and of a mistake it is transcribed what is wrong
abbrev pub line_played : ℕ → Result (Option Meaning) Mistake → Played → Played
line_played n (Ok None) p = p
line_played n (Ok (Some l)) p = played_by l p
line_played n (Err m) p = transcribing (with_line (misread_text n m)) p

-- line after line, from a number on
abbrev pub lines_played : ℕ → List (Result (Option Meaning) Mistake) → Played → Played
lines_played n [] p = p
lines_played n (l ∷ ls) p = lines_played (n + 1) ls (line_played n l p)

-- a picture that is open in the end is closed
abbrev pub at_end : Played → Transcribed
at_end p = leaving p.reel p.transcribed

-- all that is transcribed of lines, where reels are stored as said until the lines say otherwise
abbrev pub transcribed_of : StoreKind → List (Result (Option Meaning) Mistake) → Transcribed → Transcribed
transcribed_of kind lines t = at_end (lines_played 1 lines (started kind t))

-- the last line
abbrev pub done : Transcribed → List ℕ
done t = line_after t.text (done_text t.calls t.refused)

-- the text of the answers to a script
abbrev pub answers_to : StoreKind → List ℕ → List ℕ
answers_to kind script = done (transcribed_of kind (map line_of (lines_of script)) (record { text = []; calls = 0; refused = 0 }))
