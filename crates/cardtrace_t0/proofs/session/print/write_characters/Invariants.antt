use Rattle.std.proofs.Common.{◌≡◌, ◌++◌, take, vec_items}
use Rattle.cardtrace_t0.specs.Traces.{character_lines}
use Rattle.cardtrace_t0.proofs.session.print.write_characters.Given as goal

abbrev pub invariant-loop-character : goal.invariant-loop-character
invariant-loop-character l = vec_items l.out ≡ vec_items l.initial.out ++ character_lines l.turn (take l.character-index l.characters)
