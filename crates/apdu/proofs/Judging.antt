use Rattle.std.proofs.Common.{◌≡◌, ℕ, ◌+◌, ◌<◌, ◌≤◌, Bool, true, false, cond, eqb, ltb, leb, List, [], ◌∷◌, length, get_or, take, Some, None, Option, sym, refl, ap, ◌∙◌, subst, arith, length-take, ltb-false, eqb-true, leb-true}
use Rattle.apdu.specs.Commands.{Command, command_of, after_header, with_data, reserved, inward, agrees, wanted}
use Rattle.apdu.specs.Judging.{Judged, refused, passes, checked, judged}

room_enough : (c : Command) (room : ℕ) (late r a : Bool) → ltb room c.ne ≡ late
    → {d : Command} → cond r (refused 2) (cond a (cond late (refused 4) (passes c)) (refused 3)) ≡ passes d → (c ≡ d) × (d.ne ≤ room)
room_enough c room late true a h {d} e = absurd (let z : ◌≡◌ {A = ℕ} 0 1 = cc in omega arith)
room_enough c room late false false h {d} e = absurd (let z : ◌≡◌ {A = ℕ} 0 1 = cc in omega arith)
room_enough c room true false true h {d} e = absurd (let z : ◌≡◌ {A = ℕ} 0 1 = cc in omega arith)
room_enough c room false false true h {d} e =
    let same : c ≡ d = cc in
    let far : c.ne ≤ room = ltb-false room c.ne h in
    let P : Command → Type 0 = λ x. x.ne ≤ room in
    (same, subst P same far)

read_first : (o : Option Command) (room : ℕ) {d : Command} → checked room o ≡ passes d → (o ≡ Some d) × (d.ne ≤ room)
read_first None room {d} e = absurd (let z : ◌≡◌ {A = ℕ} 0 1 = cc in omega arith)
read_first (Some c) room {d} e =
    let p = room_enough c room (ltb room c.ne) (reserved c.cla c.ins) (agrees (inward c.ins) c.kind) refl e in
    (ap Some p.0, p.1)

-- A command that passes is the one that was read, and its answer fits the buffer.
pub passes_read : (bytes : List ℕ) (room : ℕ) {d : Command} → judged bytes room ≡ passes d → command_of bytes ≡ Some d
unfolding judged
passes_read bytes room e = (read_first (command_of bytes) room e).0

pub passes_room : (bytes : List ℕ) (room : ℕ) {d : Command} → judged bytes room ≡ passes d → d.ne ≤ room
unfolding judged
passes_room bytes room e = (read_first (command_of bytes) room e).1
