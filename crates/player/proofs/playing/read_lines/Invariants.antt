use Rattle.std.proofs.Common.{◌≡◌, ◌++◌, map, vec_items}
use Rattle.script.specs.Fields.{lines_of}
use Rattle.call_lines.specs.Lines.{line_meant, line_of}
use Rattle.player.proofs.playing.read_lines.Given as goal

-- the lines read, and those left, are all
abbrev pub invariant-loop-line : goal.invariant-loop-line
invariant-loop-line l = map line_meant (vec_items l.lines) ++ map line_of (lines_of l.line-iterator.rest.now) ≡ map line_of (lines_of l.script)
