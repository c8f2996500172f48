use Rattle.std.specs.Prelude.{◌≡◌, ℕ, ◌+◌, ◌*◌, ◌≤◌, ◌&&◌, List, [], length, drop, Some, None, Option, Ok, Err, Result, ◌==◌, nat_le, nat_lt, refl}
use Rattle.std.proofs.Common.{arith, length-take}
use Rattle.std.proofs.lemmas.Bool.{cond_both}
use Rattle.apdu.specs.Applications.{Reply, Outcome, CarriesData, opened}
use Rattle.apdu.specs.Statuses.{done}
use Rattle.apdu.specs.declared.status.Status.{Status}
use Rattle.apps.specs.Files.{File, Shelf, bare, find, named, number_in, selected, select_file, read_file, read_from, read_binary, update_file, update_in, update_binary, files_run}

-- What a result counts: the answer bytes of a command; one that is refused has none.
abbrev pub counted : Result ℕ Status → ℕ
counted (Ok count) = count
counted (Err why) = 0

-- The status of a result: 9000, or the one that refuses the command.
abbrev pub status_in : Result ℕ Status → Status
status_in (Ok count) = done
status_in (Err why) = why

-- What a run left is its outcome: the state, the answer, which opens the buffer, its count, and the status.
pub record Answered (o : Outcome Shelf) (after : Shelf) (result : Result ℕ Status) (old new : List ℕ) : Type 0 where
  pub state : after ≡ o.state
  pub answer : new ≡ opened o.reply.answer old
  pub count : counted result ≡ length o.reply.answer
  pub status : status_in result ≡ o.reply.status

-- A lawful reply: at most 256 answer bytes, and status 9000 where there are some.
abbrev pub Good : Reply → Type 0
Good r = (length r.answer ≤ 256) × CarriesData r

good_bare : (status : Status) → Good (bare status)
good_bare status = (omega arith, λ h. absurd (omega arith))

good_selected : (s : Shelf) (f : Option File) → Good (selected s f).reply
good_selected s None = good_bare _
good_selected s (Some f) = (omega arith, λ _. refl)

good_select : (s : Shelf) (p1 p2 : ℕ) (body : List ℕ) → Good (select_file s p1 p2 body).reply
good_select s p1 p2 body =
    cond_both (p1 == 0 && p2 == 0) _ _ (λ (o : Outcome Shelf). Good o.reply)
    (λ _. cond_both (length body == 2) _ _ (λ (o : Outcome Shelf). Good o.reply) (λ _. good_selected s (find (number_in body) s.files)) (λ _. good_bare _))
    (λ _. good_bare _)

good_read_file : (f : File) (offset : ℕ) (body : List ℕ) → Good (read_file f offset body)
good_read_file f offset body =
    cond_both (nat_lt offset (length f.bytes)) _ _ Good
    (λ _. cond_both (length body == 0) _ _ Good (λ _. (omega (arith, length-take 256 (drop offset f.bytes)), λ _. refl)) (λ _. good_bare _))
    (λ _. good_bare _)

good_read_from : (s : Shelf) (offset : ℕ) (body : List ℕ) (f : Option File) → Good (read_from s offset body f).reply
good_read_from s offset body None = good_bare _
good_read_from s offset body (Some f) = good_read_file f offset body

good_read : (s : Shelf) (p1 p2 : ℕ) (body : List ℕ) → Good (read_binary s p1 p2 body).reply
good_read s p1 p2 body =
    cond_both (nat_lt p1 0x80) _ _ (λ (o : Outcome Shelf). Good o.reply) (λ _. good_read_from s (p1 * 256 + p2) body (named s.current s.files)) (λ _. good_bare _)

-- UPDATE BINARY answers no bytes.
silent_file : (f : File) (offset : ℕ) (body : List ℕ) → (update_file f offset body).reply.answer ≡ []
silent_file f offset body =
    cond_both (nat_lt offset (length f.bytes)) _ _ (λ (o : Outcome File). o.reply.answer ≡ [])
    (λ _. cond_both (nat_le 1 (length body) && nat_le (offset + length body) (length f.bytes)) _ _ (λ (o : Outcome File). o.reply.answer ≡ []) (λ _. refl) (λ _. refl))
    (λ _. refl)

silent_in : (s : Shelf) (offset : ℕ) (body : List ℕ) (f : Option File) → (update_in s offset body f).reply.answer ≡ []
silent_in s offset body None = refl
silent_in s offset body (Some f) = silent_file f offset body

silent : (s : Shelf) (p1 p2 : ℕ) (body : List ℕ) → (update_binary s p1 p2 body).reply.answer ≡ []
silent s p1 p2 body =
    cond_both (nat_lt p1 0x80) _ _ (λ (o : Outcome Shelf). o.reply.answer ≡ []) (λ _. silent_in s (p1 * 256 + p2) body (named s.current s.files)) (λ _. refl)

good_silent : (r : Reply) → r.answer ≡ [] → Good r
good_silent r e = (rw e (omega arith), rw e (λ h. absurd (omega arith)))

pub good_run : (s : Shelf) (cla ins p1 p2 : ℕ) (body : List ℕ) → Good (files_run s cla ins p1 p2 body).reply
good_run s cla ins p1 p2 body =
    let P : Outcome Shelf → Type 0 = λ o. Good o.reply in
    cond_both (cla == 0x00) _ _ P
    (λ _. cond_both (ins == 0xA4) _ _ P (λ _. good_select s p1 p2 body)
    (λ _. cond_both (ins == 0xB0) _ _ P (λ _. good_read s p1 p2 body)
    (λ _. cond_both (ins == 0xD6) _ _ P (λ _. good_silent (update_binary s p1 p2 body).reply (silent s p1 p2 body)) (λ _. good_bare _))))
    (λ _. good_bare _)
