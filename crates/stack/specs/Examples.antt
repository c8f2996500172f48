use Rattle.std.specs.Prelude.{◌≡◌, ℕ, Bool, true, false, List, [], ◌∷◌, ◌++◌, length, replicate, ℤ, pos, Some, None}
use Rattle.std.proofs.Common.{lit≤}
use Rattle.apdu.specs.Applications.{Reply}
use Rattle.apdu.specs.Commands.{command_of}
use Rattle.apdu.specs.Statuses.{done, wrong_length, past_the_end, conditions_not_met}
use Rattle.apdu.specs.declared.command.Case.TheVariants.{Two}
use Rattle.apps.specs.Files.{File, Shelf, named, files_run}
use Rattle.apps.specs.FileValues.{files_app}
use Rattle.apps.specs.Purse.{balance, purse_run}
use Rattle.link.specs.Meaning.{Linked, played}
use Rattle.link.specs.Turns.{alone, send, Went, gives, journal, whole_trace}
use Rattle.t0.specs.declared.settings.Settings.{Settings}
use Rattle.t0.specs.declared.settings.Style.TheVariants.{Whole}
use Rattle.t0link.specs.Links.{linked_by}
use Rattle.wire.specs.declared.traced.Traced.{Traced}
use Rattle.wire.specs.Senders.{is_card}
use Rattle.wire.specs.declared.traced.Sender.{Sender}
use Rattle.wire.specs.declared.traced.Sender.TheVariants as by

-- 00B0000000 and 00D600000000.
abbrev pub read_all : List ℕ
read_all = 0x00 ∷ (0xB0 ∷ (0x00 ∷ (0x00 ∷ (0x00 ∷ []))))

abbrev pub update_nothing : List ℕ
update_nothing = 0x00 ∷ (0xD6 ∷ (0x00 ∷ (0x00 ∷ (0x00 ∷ (0x00 ∷ [])))))

-- What a debit of an amount in four bytes makes of a purse's movements.
abbrev pub debited : List ℤ → List ℕ → Reply
debited ms amount = (purse_run ms 0x80 0x54 0x00 0x00 amount).reply

abbrev pub after_debit : List ℤ → List ℕ → List ℤ
after_debit ms amount = (purse_run ms 0x80 0x54 0x00 0x00 amount).state

-- 500 and 1 in four bytes.
abbrev pub five_hundred : List ℕ
five_hundred = 0x00 ∷ (0x00 ∷ (0x01 ∷ (0xF4 ∷ [])))

abbrev pub one_cent : List ℕ
one_cent = 0x00 ∷ (0x00 ∷ (0x00 ∷ (0x01 ∷ [])))

-- Undamaged characters of the terminal and of the card.
abbrev pub says : Sender → List ℕ → List Traced
says sender [] = []
says sender (b ∷ bs) = record { by_card = is_card sender; byte = b; damaged = false } ∷ says sender bs

-- File 2F01, which holds 41 42, is current.
abbrev pub selected : Shelf
selected = record { files = record { id = 0x2F01; bytes = 0x41 ∷ (0x42 ∷ []) } ∷ []; current = Some 0x2F01 }

-- A T=0 card with no waits that moves bytes whole, and a line that damages nothing.
abbrev pub plainly : Settings
plainly = record { waits = 0; style = Whole; few = lit≤ tt }

abbrev pub over_t0 : Linked Shelf
over_t0 = linked_by plainly (λ _. false) selected false

-- One turn of program 1 that reads the file with Le 00.
abbrev pub read_turn : List (Went (Linked Shelf))
read_turn = (played files_app over_t0 (alone 1 (send read_all) (replicate 256 0) ∷ [])).turns

-- The worked examples, each for every state that it speaks of.
pub record WorkedExamples : Type 0 where
  -- 00B0000000 has Ne 256.
  pub le_00_is_256 : command_of read_all ≡ Some (record { kind = Two; cla = 0x00; ins = 0xB0; p1 = 0x00; p2 = 0x00; body = []; ne = 256 })
  -- 00D600000000 is malformed.
  pub lc_00_is_malformed : command_of update_nothing ≡ None
  -- UPDATE BINARY of a current file of 256 bytes: at offset 255 one byte gives 9000 and two give 6700; at 256 it is 6B00.
  pub last_byte_is_written : (s : Shelf) (f : File) (a : ℕ) → named s.current s.files ≡ Some f → length f.bytes ≡ 256
      → (files_run s 0x00 0xD6 0x00 0xFF (a ∷ [])).reply.status ≡ done
  pub two_pass_the_end : (s : Shelf) (f : File) (a b : ℕ) → named s.current s.files ≡ Some f → length f.bytes ≡ 256
      → (files_run s 0x00 0xD6 0x00 0xFF (a ∷ (b ∷ []))).reply.status ≡ wrong_length
  pub offset_at_the_end : (s : Shelf) (f : File) (a : ℕ) → named s.current s.files ≡ Some f → length f.bytes ≡ 256
      → (files_run s 0x00 0xD6 0x01 0x00 (a ∷ [])).reply.status ≡ past_the_end
  -- At balance 500 a debit of 500 leaves 0; a debit of 1 then gives 6985.
  pub debit_to_zero : (ms : List ℤ) → balance ms ≡ pos 500
      → debited ms five_hundred ≡ record { answer = 0x00 ∷ (0x00 ∷ (0x00 ∷ (0x00 ∷ []))); status = done }
  pub debit_below_zero : (ms : List ℤ) → balance ms ≡ pos 500 → (debited (after_debit ms five_hundred) one_cent).status ≡ conditions_not_met
  -- File 41 42 read over T=0 with Le 00 gives 6C 02, then, to the header with 02, B0 41 42 90 00.
  pub read_over_t0 : whole_trace read_turn
      ≡ says by.Terminal read_all
      ++ (says by.Card (0x6C ∷ (0x02 ∷ []))
      ++ (says by.Terminal (0x00 ∷ (0xB0 ∷ (0x00 ∷ (0x00 ∷ (0x02 ∷ [])))))
      ++ says by.Card (0xB0 ∷ (0x41 ∷ (0x42 ∷ (0x90 ∷ (0x00 ∷ [])))))))
  pub read_entry : journal read_turn ≡ record { program = 1; gave = gives (0x41 ∷ (0x42 ∷ [])) done } ∷ []
