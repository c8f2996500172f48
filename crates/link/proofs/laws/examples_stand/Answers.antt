use Rattle.std.proofs.Common.{refl}
use Rattle.apdu.specs.Judging.{judged}
use Rattle.link.proofs.laws.examples_stand.Goals as goal

pub returns : goal.returns
unfolding judged
returns c =
    record {
      reset_entries = refl;
      reset_buffers = refl;
      loss_entries = refl;
      loss_buffers = refl;
      loss_turn = refl;
      no_loss_turn = refl;
      states_lost_after = refl;
      states_lost_before = refl;
      lost_reset_entries = refl;
      lost_reset_states = refl;
      direct_entries = refl;
      full_journal_entries = refl;
      full_journal_data = refl;
      short_rest_entries = refl;
      short_rest_data = refl;
      short_rest_rows = refl;
      odd_entries = refl;
      odd_rows = refl;
      fickle_crossed = refl;
      fickle_told = refl;
    }
