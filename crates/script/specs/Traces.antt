use Rattle.std.specs.Prelude.{ℕ, Bool, cond, List, [], ◌∷◌, ◌++◌, length, take, Some, None, Ok, Err, codes, decimal, Option, Result, nat_le}
use Rattle.apdu.specs.Refusals.{number}
use Rattle.apdu.specs.declared.refusal.Refusal as apdu
use Rattle.apdu.specs.declared.status.Status as status
use Rattle.wire.specs.declared.traced.Sender.{Sender}
use Rattle.wire.specs.declared.traced.Sender.TheVariants.{Terminal, Card}
use Rattle.script.specs.declared.trace.Outcome.{Outcome}
use Rattle.script.specs.declared.trace.Outcome.TheVariants.{Status, Reset, Refusal}
use Rattle.script.specs.Hex.{hex}

-- `T` or `C`.
abbrev pub letter : Sender → ℕ
letter Terminal = 84
letter Card = 67

-- `!` for a damaged character, else `.`.
abbrev pub mark : Bool → ℕ
mark damaged = cond damaged 33 46

-- `c,turn,T or C,byte,. or !` and LF, the byte as two hex digits.
abbrev pub character_line : ℕ → Sender → ℕ → Bool → List ℕ
character_line turn sender byte damaged =
    codes "c," ++ (decimal turn ++ (44 ∷ (letter sender ∷ (44 ∷ (hex (byte ∷ []) ++ (44 ∷ (mark damaged ∷ (10 ∷ []))))))))

-- A status as four hex digits, the word `reset`, or `!` and the number of a refusal.
abbrev pub outcome_text : Outcome → List ℕ
outcome_text (Status sw1 sw2) = hex (sw1 ∷ (sw2 ∷ []))
outcome_text Reset = codes "reset"
outcome_text (Refusal n) = codes "!" ++ decimal n

-- `j,turn,program,status,data` and LF, the data in hex; the last comma stays where there are none.
abbrev pub turn_line : ℕ → ℕ → Outcome → List ℕ → List ℕ
turn_line turn program outcome bytes =
    codes "j," ++ (decimal turn ++ (44 ∷ (decimal program ++ (44 ∷ (outcome_text outcome ++ (44 ∷ (hex bytes ++ (10 ∷ []))))))))

-- A turn has a line for at most 256 bytes of data.
abbrev pub turn_text : ℕ → ℕ → Outcome → List ℕ → Option (List ℕ)
turn_text turn program outcome bytes = cond (nat_le (length bytes) 256) (Some (turn_line turn program outcome bytes)) None

-- How a turn with this result ended: with its command's status, by a reset, or with a refusal's number.
abbrev pub outcome_of : Result (Option (ℕ × status.Status)) apdu.Refusal → Outcome
outcome_of (Ok (Some p)) = Status p.1.sw1 p.1.sw2
outcome_of (Ok None) = Reset
outcome_of (Err e) = Refusal (number e)

-- Its data: the answer bytes, as many as the result says, which open the answer buffer.
abbrev pub data_of : Result (Option (ℕ × status.Status)) apdu.Refusal → List ℕ → List ℕ
data_of (Ok (Some p)) answer = take p.0 answer
data_of (Ok None) answer = []
data_of (Err e) answer = []

-- `x,line` and LF.
abbrev pub bad_line : ℕ → List ℕ
bad_line n = codes "x," ++ (decimal n ++ (10 ∷ []))
