use Rattle.std.specs.Prelude.{ℕ, ◌+◌, Bool, true, false, cond, not, ◌&&◌, ◌||◌, List, [], ◌∷◌, length, take, Some, None, Option, ◌==◌, nat_le, slice_index}
use Rattle.apdu.specs.declared.command.Case.{Case}
use Rattle.apdu.specs.declared.command.Case.TheVariants.{One, Two, Three, Four}

-- A command as it is read: its case, its header, its data bytes (Lc is their count), and Ne, the most answer bytes wanted.
pub record Command : Type 0 where
  pub kind : Case
  pub cla : ℕ
  pub ins : ℕ
  pub p1 : ℕ
  pub p2 : ℕ
  pub body : List ℕ
  pub ne : ℕ

-- Le as a count: 00 means 256. (A number above 255 is no byte; it counts as 256 too, so that no count is larger.)
abbrev pub wanted : ℕ → ℕ
wanted le = cond (le == 0) 256 (cond (nat_le le 255) le 256)

-- The fifth byte is Lc, and `body` is what follows it: Lc data bytes (case 3), or these and Le (case 4). Lc is 1 to 255.
abbrev pub with_data : ℕ → ℕ → ℕ → ℕ → ℕ → List ℕ → Option Command
with_data cla ins p1 p2 lc body =
    cond (lc == 0) None
    (cond (nat_le lc 255)
    (cond (length body == lc)
    (Some (record { kind = Three; cla = cla; ins = ins; p1 = p1; p2 = p2; body = body; ne = 0 }))
    (cond (length body == lc + 1)
    (Some (record { kind = Four; cla = cla; ins = ins; p1 = p1; p2 = p2; body = take lc body; ne = wanted (slice_index body lc) }))
    None))
    None)

-- What follows the header: nothing (case 1), Le (case 2), or Lc and more. All else is malformed.
abbrev pub after_header : ℕ → ℕ → ℕ → ℕ → List ℕ → Option Command
after_header cla ins p1 p2 [] = Some (record { kind = One; cla = cla; ins = ins; p1 = p1; p2 = p2; body = []; ne = 0 })
after_header cla ins p1 p2 (le ∷ []) = Some (record { kind = Two; cla = cla; ins = ins; p1 = p1; p2 = p2; body = []; ne = wanted le })
after_header cla ins p1 p2 (lc ∷ (x ∷ xs)) = with_data cla ins p1 p2 lc (x ∷ xs)

-- A command is read off its first four bytes, CLA INS P1 P2; fewer are malformed.
abbrev pub command_of : List ℕ → Option Command
command_of [] = None
command_of (_ ∷ []) = None
command_of (_ ∷ (_ ∷ [])) = None
command_of (_ ∷ (_ ∷ (_ ∷ []))) = None
command_of (cla ∷ (ins ∷ (p1 ∷ (p2 ∷ after)))) = after_header cla ins p1 p2 after

-- Reserved are CLA FF, and INS 60 to 6F, 90 to 9F and C0.
abbrev pub reserved : ℕ → ℕ → Bool
reserved cla ins = cla == 0xFF || (nat_le 0x60 ins && nat_le ins 0x6F) || (nat_le 0x90 ins && nat_le ins 0x9F) || ins == 0xC0

-- Inward, towards the card, go 04, 20, 44, 52, 54, A4 and D6; every other INS is outward.
abbrev pub inward : ℕ → Bool
inward ins = ins == 0x04 || ins == 0x20 || ins == 0x44 || ins == 0x52 || ins == 0x54 || ins == 0xA4 || ins == 0xD6

-- An inward INS goes with cases 1, 3 and 4, an outward one with case 2 only.
abbrev pub agrees : Bool → Case → Bool
agrees way One = way
agrees way Two = not way
agrees way Three = way
agrees way Four = way
