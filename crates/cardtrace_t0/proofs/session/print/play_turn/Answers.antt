use Rattle.std.proofs.Common.{ap, ◌∙◌, rules}
use Rattle.link.specs.Meaning.{linked}
use Rattle.link.specs.Meant.{meant_order}
use Rattle.wire.specs.Records.{Kept, noted}
use Rattle.wire.specs.declared.traced.Traced.{Traced}
use Rattle.cardtrace_t0.specs.Traces.{free}
use Rattle.cardtrace_t0.proofs.Playing.{turn_text}
use Rattle.cardtrace_t0.proofs.session.print.play_turn.Goals as goal

pub returns-clause-text : goal.returns-clause-text
returns-clause-text g c =
    let app = g.L.App.Application.means in
    let d = linked app (g.L.Link.meaning app c.args.link.now) (meant_order c.args.order) free in
    let held = c.take-result.ensures.trace.held ∙ ap (λ (k : Kept Traced). noted k d.characters) c.new-trace.ensures.held in
    turn_text d _ _ _ _ _ _ c.get.result c.in_ok-characters.characters c.count-count.result c.args.label.turn c.args.label.program c.take-result.result c.take-result.new.answer
    (search rules) (c.count-count.ensures ∙ ap (λ (k : Kept Traced). k.count) held) (◌∙◌ {b = c.take-result.new.trace.places.now} (search rules) (ap (λ (k : Kept Traced). k.places) held)) c.get.ensures.lookup c.in_ok-characters.ensures.ok_part c.in_ok-write_characters.ensures
    (c.as_bytes.ensures.value ∙ c.deref.ensures.0 ∙ c.result_line.ensures) c.take-result.ensures.turn.gave c.in_ok-extend_from_slice.ensures.items
