use Rattle.std.specs.Prelude.{ℕ, ◌-◌, Bool, cond, ◌&&◌, ◌||◌, List, [], ◌∷◌, ◌++◌, replicate, nat_le, nat_lt}
use Rattle.apdu.specs.declared.status.Status.{Status}
use Rattle.apdu.specs.declared.header.Header.{Header}
use Rattle.t0.specs.declared.settings.Settings.{Settings}
use Rattle.t0.specs.declared.settings.Style.{Style}
use Rattle.t0.specs.declared.settings.Style.TheVariants.{Whole, Bytewise}

-- The five characters of a header: CLA INS P1 P2 P3.
abbrev pub header : Header → ℕ → List ℕ
header h p3 = h.cla ∷ (h.ins ∷ (h.p1 ∷ (h.p2 ∷ (p3 ∷ []))))

-- P3 of 256 bytes is 00; there are never more.
abbrev pub as_p3 : ℕ → ℕ
as_p3 n = cond (nat_lt n 256) n 0

-- The header of GET RESPONSE with this CLA: INS C0, P1 P2 00 00.
abbrev pub get_response : ℕ → Header
get_response cla = record { cla = cla; ins = 0xC0; p1 = 0; p2 = 0 }

-- 60 has the terminal wait. 61 to 6F and 90 to 9F are SW1, and SW2 follows.
abbrev pub is_sw1 : ℕ → Bool
is_sw1 b = (nat_le 0x61 b && nat_le b 0x6F) || (nat_le 0x90 b && nat_le b 0x9F)

-- INS has all bytes due moved, INS with all bits inverted one byte.
abbrev pub mover : Style → ℕ → ℕ
mover Whole ins = ins
mover Bytewise ins = 255 - ins

-- A procedure byte as the card sends it: after the set number of bytes 60.
abbrev pub procedure : Settings → ℕ → List ℕ
procedure s b = replicate s.waits 0x60 ++ (b ∷ [])

-- Bytes that move one by one, each after its procedure byte.
abbrev pub one_by_one : Settings → ℕ → List ℕ → List ℕ
one_by_one s ins [] = []
one_by_one s ins (x ∷ xs) = procedure s (mover s.style ins) ++ (x ∷ one_by_one s ins xs)

-- Bytes that the card moves out: all after one procedure byte, or one by one.
abbrev pub moved_out : Style → Settings → ℕ → List ℕ → List ℕ
moved_out Whole s ins xs = procedure s (mover s.style ins) ++ xs
moved_out Bytewise s ins xs = one_by_one s ins xs

abbrev pub moves_out : Settings → ℕ → List ℕ → List ℕ
moves_out s ins xs = moved_out s.style s ins xs

-- SW1 as a procedure byte, and SW2.
abbrev pub closes : Settings → ℕ → ℕ → List ℕ
closes s sw1 sw2 = procedure s sw1 ++ (sw2 ∷ [])

-- A status.
abbrev pub says_status : Settings → Status → List ℕ
says_status s status = closes s status.sw1 status.sw2
