use Rattle.std.proofs.Common.{◌∙◌}
use Rattle.cardtrace_t0.proofs.Writing.{lines_more}
use Rattle.cardtrace_t0.proofs.session.print.write_characters.Goals as goal

pub loop-character-preserved : goal.loop-character-preserved
loop-character-preserved c =
    lines_more c.args.turn c.args.characters.now c.loop-character.character-index _ _ _ _ _ c.loop-character-test.true c.in_ok-extend_from_slice.ensures.items
    (c.as_bytes.ensures.value ∙ c.deref.ensures.0 ∙ c.character_line.ensures) c.loop-character.invariant
