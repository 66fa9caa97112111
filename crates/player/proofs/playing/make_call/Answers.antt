use Rattle.std.proofs.Common.{Some, None, sym, subst}
use Rattle.calls.specs.declared.answers.Answer.TheVariants.{OutOfTurn}
use Rattle.calls.specs.Runs.{call_of}
use Rattle.transcripts.specs.Transcribed.{Transcribes, transcribe_answer}
use Rattle.player.specs.Plays.{make_call}
use Rattle.player.specs.PlayedIn.{Plays}
use Rattle.player.proofs.Steps.{made_plays, missed_plays}
use Rattle.player.proofs.playing.make_call.Goals as goal

pub returns-in-Some : goal.returns-in-Some
returns-in-Some c = λ choices.
    subst (λ s. Plays (make_call (call_of c.args.call.now)) s choices c.args.transcript.now (Some c.make_call.result) choices c.make_call.new.transcript) (sym c.in-Some.is)
    (made_plays (call_of c.args.call.now) c.in-Some.reel c.make_call.result choices c.args.transcript.now c.make_call.new.transcript c.make_call.ensures.turned.state c.make_call.ensures.turned.setting c.make_call.ensures.transcribed)

pub returns-in-None : goal.returns-in-None
returns-in-None c = λ choices.
    subst (λ s. Plays (make_call (call_of c.args.call.now)) s choices c.args.transcript.now None choices c.answer.new.self) (sym c.in-None.is)
    (missed_plays (call_of c.args.call.now) choices c.args.transcript.now c.answer.new.self
    (subst (λ word. Transcribes (transcribe_answer word OutOfTurn) c.args.transcript.now c.answer.new.self) c.from.ensures c.answer.ensures.transcribed))
