-- The lines of a script, one after the other.
use Rattle.std.proofs.Common.{◌≡◌, ℕ, ◌+◌, ◌<◌, ◌≤◌, List, [], length, get_or, drop, map, IsSome, IfOk, Global, Some, None, Ok, Err, Option, Result, String, string_bytes, sym, refl, ap, ◌∙◌, subst}
use Rattle.std.specs.Option.{option_map}
use Rattle.std.specs.Result.{result_ok}
use Rattle.std.proofs.lemmas.List.{at_drop_more, drop_all}
use Rattle.std.specs.declared.alloc.AllocError.{AllocError}
use Rattle.script.specs.declared.line.Mistake.{Mistake}
use Rattle.script.specs.Fields.{lines_of}
use Rattle.call_lines.specs.declared.line.Line.{Line}
use Rattle.call_lines.specs.declared.line.StoreKind.{StoreKind}
use Rattle.transform.specs.declared.kinds.TransformKind.TheVariants.{TwoPass}
use Rattle.call_lines.specs.Lines.{line_meant, line_of}
use Rattle.transcripts.specs.declared.transcript.Transcript.{Transcript}
use Rattle.transcripts.specs.Answers.{Grown, done_text, line_after}
use Rattle.transcripts.specs.Transcribed.{Transcribed, Transcribes, transcribed_in}
use Rattle.reels_in_memory.specs.declared.reel_in_memory.Choices.{Choices}
use Rattle.reels_in_memory.specs.declared.reel_in_memory.ReelInMemory.{ReelInMemory}
use Rattle.player.specs.Plays.{Played, answers_to, at_end, done, leaving, line_played, lines_played, transcribed_of}
use Rattle.player.specs.PlayedIn.{Plays, playing_in}
use Rattle.transcripts.proofs.Options.{some_out}
use Rattle.transcripts.proofs.Transcribing.{transcribes_had}
use Rattle.player.proofs.Steps.{Left, left_more, view}

abbrev Said : Type 0
Said = Result (Option Line) Mistake

module _ (ls : List Said) (reel₀ : Option ReelInMemory) (choices₀ : Choices) (old : Transcript) where
  -- the lines from this one on are left to be played
  abbrev pub PlayedTo : ℕ → Option ReelInMemory → Choices → Transcript → Type 0
  PlayedTo index reel choices now = Left (lines_played 1 (map line_meant ls)) reel₀ choices₀ old (lines_played (index + 1) (map line_meant (drop index ls))) reel choices now

  -- one line more is played
  pub played : (index : ℕ) (reel : Option ReelInMemory) (choices : Choices) (now : Transcript) (l : Said) (reel' : Option ReelInMemory) (choices' : Choices) (new : Transcript) → PlayedTo index reel choices now
      → l ≡ get_or ls index l → index < length ls → Plays (line_played (index + 1) (line_meant l)) reel choices now reel' choices' new → PlayedTo (index + 1) reel' choices' new
  played index reel choices now l reel' choices' new was is below turn =
      left_more (lines_played 1 (map line_meant ls)) reel₀ choices₀ old (lines_played (index + 1) (map line_meant (drop index ls))) (line_played (index + 1) (line_meant l))
      (lines_played (index + 1 + 1) (map line_meant (drop (index + 1) ls))) reel choices now reel' choices' new was turn
      (λ p. ap (λ k. lines_played (index + 1 + 1) (map line_meant (drop (index + 1) ls)) (line_played (index + 1) (line_meant k) p)) is
      ∙ sym (at_drop_more (λ xs. lines_played (index + 1) (map line_meant xs) p) ls index l below))

over_end : (all : Played → Played) (v v' : Transcribed → Played) (o o' : Option Transcribed) → option_map (λ p. p) (option_map v' o') ≡ option_map all (option_map v o) → option_map (λ t. at_end (v' t)) o' ≡ option_map (λ t. at_end (all (v t))) o
over_end all v v' None None e = refl
over_end all v v' None (Some t) e = ap (option_map at_end) e
over_end all v v' (Some t) None e = ap (option_map at_end) e
over_end all v v' (Some t) (Some u) e = ap (option_map at_end) e

-- after the last line the reel is left
pub all_played : (ls : List Said) (kind : StoreKind) (old : Transcript) (index : ℕ) (reel : Option ReelInMemory) (choices : Choices) (now new : Transcript)
    → PlayedTo ls None (record { store = kind; transform = TwoPass }) old index reel choices now → length ls ≤ index → Transcribes (leaving (playing_in reel)) now new
    → Transcribes (transcribed_of kind (map line_meant ls)) old new
all_played ls kind old index reel choices now new was last left =
    let start : Choices = record { store = kind; transform = TwoPass } in
    record {
      transcribed = λ some.
          left.transcribed some
          ∙ over_end (lines_played 1 (map line_meant ls)) (view None start) (view reel choices) (transcribed_in old) (transcribed_in now)
          (ap (λ xs. option_map (lines_played (index + 1) (map line_meant xs)) (option_map (view reel choices) (transcribed_in now))) (sym (drop_all index ls last))
          ∙ was.left (transcribes_had (leaving (playing_in reel)) now new left some));
    }

from_bytes : {A : Type 0} (o : Option (String A)) → option_map string_bytes o ≡ Some [] → ◌≡◌ {A = Option Transcribed} (option_map (λ s. record { text = string_bytes s; calls = 0; refused = 0 }) o) (Some (record { text = []; calls = 0; refused = 0 }))
from_bytes None e = absurd (cc)
from_bytes (Some s) e = let b : string_bytes s ≡ [] = cc in ap (λ bs. Some (record { text = bs; calls = 0; refused = 0 })) b

zero_transcribed : (s : Transcript) → option_map string_bytes s.text ≡ Some [] → s.calls ≡ 0 → s.refused ≡ 0 → transcribed_in s ≡ Some (record { text = []; calls = 0; refused = 0 })
zero_transcribed s t c r = rw (c, r) (from_bytes s.text t)

had_some : {A B : Type 0} (o : Option (String A)) (text : String B) (line : List ℕ) → ◌≡◌ {A = Option (List ℕ)} (Some (string_bytes text)) (option_map (λ s. line_after (string_bytes s) line) o) → IsSome o
had_some o text line e = some_out (λ s. line_after (string_bytes s) line) o (subst IsSome e refl)

done_is : {A : Type 0} (o : Option (String A)) (calls refused : ℕ) (bytes : List ℕ) (t : Transcribed) → ◌≡◌ {A = Option (List ℕ)} (Some bytes) (option_map (λ s. line_after (string_bytes s) (done_text calls refused)) o)
    → option_map (λ s. record { text = string_bytes s; calls = calls; refused = refused }) o ≡ Some t → bytes ≡ done t
done_is None calls refused bytes t e u = absurd (cc)
done_is (Some s) calls refused bytes t e u =
    let b : bytes ≡ line_after (string_bytes s) (done_text calls refused) = cc in
    let k : ◌≡◌ {A = Transcribed} (record { text = string_bytes s; calls = calls; refused = refused }) t = cc in
    b ∙ ap done k

-- the whole text
pub all_answered : (kind : StoreKind) (script : List ℕ) (ls : List Said) (r : Result (String Global) AllocError) (old new : Transcript) → map line_meant ls ≡ map line_of (lines_of script)
    → option_map string_bytes old.text ≡ Some [] → old.calls ≡ 0 → old.refused ≡ 0 → Transcribes (transcribed_of kind (map line_meant ls)) old new → Grown new.text (result_ok r) (done_text new.calls new.refused)
    → IfOk r (λ text. string_bytes text ≡ answers_to kind script)
all_answered kind script ls (Err x) old new e t c f p g = tt
all_answered kind script ls (Ok text) old new e t c f p g =
    let zero : Transcribed = record { text = []; calls = 0; refused = 0 } in
    let grown = g refl in
    let some = had_some new.text text (done_text new.calls new.refused) grown in
    let transcribed_new = p.transcribed some ∙ ap (option_map (transcribed_of kind (map line_meant ls))) (zero_transcribed old t c f) in
    done_is new.text new.calls new.refused (string_bytes text) (transcribed_of kind (map line_meant ls) zero) grown transcribed_new ∙ ap (λ lines. done (transcribed_of kind lines zero)) e
