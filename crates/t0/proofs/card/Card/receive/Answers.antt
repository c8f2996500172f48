use Rattle.std.proofs.Common.{sym, ◌∙◌}
use Rattle.t0.specs.declared.card.Receiving.TheVariants.{Header}
use Rattle.t0.proofs.CardReceiving.{goes_to}
use Rattle.t0.proofs.card.Card.receive.Goals as goal

pub returns-in-Header : goal.returns-in-Header
returns-in-Header g c =
    record {
      card = c.head.ensures.card
          ∙ goes_to g.A.Application.means c.args.self.now c.args.byte (Header c.in-Header.header) (sym c.has_some.ensures ∙ c.if-has_some.false) c.in-Header.is;
      settings = c.head.ensures.settings;
    }
