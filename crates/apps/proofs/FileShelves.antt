use Rattle.std.proofs.Common.{◌≡◌, ℕ, ◌+◌, ◌*◌, ◌&&◌, cond, eqb, ltb, leb, List, [], length, get_or, set, Some, None, Option, Ok, Err, Result, sym, refl, ap, ◌∙◌, nat_lt}
use Rattle.std.specs.List.{refill}
use Rattle.std.specs.Option.{ok_or}
use Rattle.std.proofs.lemmas.List.{take_at, length-set}
use Rattle.std.proofs.lemmas.Bool.{eq-eqb, and_from, cond-true, cond-false, cond_both}
use Rattle.apdu.specs.Applications.{Outcome}
use Rattle.apdu.specs.Statuses.{done, no_current_file, file_not_found, wrong_parameters}
use Rattle.apdu.specs.declared.status.Status.{Status}
use Rattle.apps.specs.Files.{File, Shelf, find, named, refused, number_in, description, selected, select_file, read_file, read_from, read_binary, update_file, update_in, update_binary, put_back}
use Rattle.apps.specs.Replies.{gives}
use Rattle.apps.specs.FilePlaces.{place, place_named, at_offset, current_at}
use Rattle.apps.proofs.FilePlaces.{found, found_id, missing, named_found, named_replaced, named_missing}

-- What SELECT comes to.
module _ (s : Shelf) (p1 p2 : ℕ) (body : List ℕ) (a : p1 ≡ 0) (b : p2 ≡ 0) (l : length body ≡ 2) (id : ℕ) (e : id ≡ number_in body) where
  select_named : select_file s p1 p2 body ≡ selected s (find id s.files)
  select_named =
      cond-true (eqb p1 0 && eqb p2 0) _ _ (and_from _ _ (eq-eqb p1 0 a) (eq-eqb p2 0 b))
      ∙ cond-true (eqb (length body) 2) _ _ (eq-eqb (length body) 2 l)
      ∙ ap (λ (n : ℕ). selected s (find n s.files)) (sym e)

  pub select_none : (o : Option ℕ) (why : Status) → o ≡ place id s.files → Err why ≡ ok_or o file_not_found → refused s why ≡ select_file s p1 p2 body
  select_none None why h r = let w : why ≡ file_not_found = cc in ap (refused s) w ∙ ap (selected s) (sym (missing s.files id h)) ∙ sym select_named
  select_none (Some i) why h r = absurd (cc)

  pub select_some : (o : Option ℕ) (i : ℕ) (d : File) → o ≡ place id s.files → Ok i ≡ ok_or o file_not_found
      → ◌≡◌ {A = Outcome Shelf}
      (record { state = record { files = s.files; current = Some id }; reply = record { answer = description (get_or s.files i d); status = done } })
      (select_file s p1 p2 body)
  select_some None i d h r = absurd (cc)
  select_some (Some j) i d h r =
      let q : i ≡ j = cc in
      let p : Some i ≡ place id s.files = ap Some q ∙ h in
      ap (λ (n : ℕ). record { state = record { files = s.files; current = Some n }; reply = record { answer = description (get_or s.files i d); status = done } }) (sym (found_id s.files id i d p))
      ∙ ap (selected s) (sym (found s.files id i d p))
      ∙ sym select_named

-- What a place and an offset tell.
at_ok : (n : ℕ) (o : Option ℕ) (i offset : ℕ) → Ok (i, offset) ≡ at_offset n o → (Some i ≡ o) × (offset ≡ n)
at_ok n None i offset h = absurd (cc)
at_ok n (Some j) i offset h =
    let q : ◌≡◌ {A = ℕ × ℕ} (i, offset) (j, n) = cc in
    (ap (λ (p : ℕ × ℕ). Some p.0) q, ap (λ (p : ℕ × ℕ). p.1) q)

at_err : (n : ℕ) (o : Option ℕ) (why : Status) → Err why ≡ at_offset n o → (None ≡ o) × (why ≡ no_current_file)
at_err n None why h = (refl, cc)
at_err n (Some j) why h = absurd (cc)

-- What READ BINARY and UPDATE BINARY come to, where `then` is what is done with the current file.
module _ (s : Shelf) (p1 p2 : ℕ) (then : ℕ → Option File → Outcome Shelf) where
  abbrev begun : Outcome Shelf
  begun = cond (nat_lt p1 0x80) (then (p1 * 256 + p2) (named s.current s.files)) (refused s wrong_parameters)

  begun_err : (why : Status) → ((n : ℕ) → then n None ≡ refused s no_current_file) → Err why ≡ current_at s p1 p2 → refused s why ≡ begun
  begun_err why missed =
      cond_both (nat_lt p1 0x80) (at_offset (p1 * 256 + p2) (place_named s.current s.files)) (Err wrong_parameters)
      (λ (r : Result (ℕ × ℕ) Status). Err why ≡ r → refused s why ≡ begun)
      (λ t h.
      let q = at_err (p1 * 256 + p2) _ why h in
      ap (refused s) q.1
      ∙ sym (missed (p1 * 256 + p2))
      ∙ ap (then (p1 * 256 + p2)) (sym (named_missing s.files s.current q.0))
      ∙ sym (cond-true (nat_lt p1 0x80) _ _ t))
      (λ f h. let q : why ≡ wrong_parameters = cc in ap (refused s) q ∙ sym (cond-false (nat_lt p1 0x80) _ _ f))

  begun_ok : (i offset : ℕ) (d : File) → Ok (i, offset) ≡ current_at s p1 p2
      → (then offset (Some (get_or s.files i d)) ≡ begun) × (Some i ≡ place_named s.current s.files)
  begun_ok i offset d =
      cond_both (nat_lt p1 0x80) (at_offset (p1 * 256 + p2) (place_named s.current s.files)) (Err wrong_parameters)
      (λ (r : Result (ℕ × ℕ) Status). Ok (i, offset) ≡ r → (then offset (Some (get_or s.files i d)) ≡ begun) × (Some i ≡ place_named s.current s.files))
      (λ t h.
      let q = at_ok (p1 * 256 + p2) _ i offset h in (
        ap (then offset) (sym (named_found s.files s.current i d q.0))
            ∙ ap (λ (n : ℕ). then n (named s.current s.files)) q.1
            ∙ sym (cond-true (nat_lt p1 0x80) _ _ t),
        q.0,
      ))
      (λ f h. absurd (cc))

module _ (s : Shelf) (p1 p2 : ℕ) (body : List ℕ) where
  pub read_err : (why : Status) → Err why ≡ current_at s p1 p2 → refused s why ≡ read_binary s p1 p2 body
  read_err why = begun_err s p1 p2 (λ offset. read_from s offset body) why (λ n. refl)

  pub read_ok : (i offset : ℕ) (d : File) → Ok (i, offset) ≡ current_at s p1 p2
      → ◌≡◌ {A = Outcome Shelf} (record { state = s; reply = read_file (get_or s.files i d) offset body }) (read_binary s p1 p2 body)
  read_ok i offset d h = (begun_ok s p1 p2 (λ offset. read_from s offset body) i offset d h).0

  pub update_err : (why : Status) → Err why ≡ current_at s p1 p2 → refused s why ≡ update_binary s p1 p2 body
  update_err why = begun_err s p1 p2 (λ offset. update_in s offset body) why (λ n. refl)

-- An update keeps the id.
update_id : (f : File) (offset : ℕ) (body : List ℕ) → (update_file f offset body).state.id ≡ f.id
update_id f offset body =
    cond_both (ltb offset (length f.bytes)) _ _ (λ (o : Outcome File). o.state.id ≡ f.id)
    (λ _. cond_both (leb 1 (length body) && leb (offset + length body) (length f.bytes)) _ _ (λ (o : Outcome File). o.state.id ≡ f.id) (λ _. refl) (λ _. refl))
    (λ _. refl)

-- The shelf after the current file was updated in its place.
pub update_ok : (s t : Shelf) (p1 p2 : ℕ) (body : List ℕ) (i offset : ℕ) (d x after : File) (result : Result (Unit {0}) Status) → s ≡ t
    → Ok (i, offset) ≡ current_at t p1 p2 → d ≡ get_or s.files i x → gives after (λ _. []) result ≡ update_file d offset body
    → gives (record { files = refill (length s.files) s.files (set s.files i after); current = s.current }) (λ _. []) result ≡ update_binary t p1 p2 body
update_ok s t p1 p2 body i offset d x after result v h e u =
    let b = begun_ok s p1 p2 (λ offset. update_in s offset body) i offset x (h ∙ ap (λ (t : Shelf). current_at t p1 p2) (sym v)) in
    let w : gives after (λ _. []) result ≡ update_file (get_or s.files i x) offset body = u ∙ ap (λ (f : File). update_file f offset body) e in
    let q : after.id ≡ (get_or s.files i x).id = ap (λ (o : Outcome File). o.state.id) w ∙ update_id (get_or s.files i x) offset body in
    let r = named_replaced s.files s.current i x after b.1 q in
    let l : refill (length s.files) s.files (set s.files i after) ≡ set s.files i after =
    take_at (set s.files i after) _ (length s.files) (length-set s.files i after) in
    ap (λ (fs : List File). gives (record { files = fs; current = s.current }) (λ _. []) result) (l ∙ sym r)
    ∙ ap (put_back s) w
    ∙ b.0
    ∙ ap (λ (t : Shelf). update_binary t p1 p2 body) v
