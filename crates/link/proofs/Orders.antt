use Rattle.std.proofs.Common.{ℕ, zero, suc, ◌+◌, Bool, true, false, cond, eqb, ltb, leb, List, [], ◌∷◌, ◌++◌, length, take, drop}
use Rattle.link.specs.Exchange.{EachOrdered, AllOrders, Bytes, BytesOrder, BytesCalls}
use Rattle.link.specs.Turns.{Order, send, restart, Did, Went, Call, alone, run, one, ran, called, calls, ordered, placed, taken}
use Rattle.link.specs.declared.turn.Turn.{Turn}
use Rattle.link.proofs.Chains.{as_run}

bytes_take : (n : ℕ) (xs : List ℕ) → Bytes xs → Bytes (take n xs)
bytes_take zero xs h = tt
bytes_take (suc n) [] h = tt
bytes_take (suc n) (x ∷ xs) h = (h.0, bytes_take n xs h.1)

bytes_drop : (n : ℕ) (xs : List ℕ) → Bytes xs → Bytes (drop n xs)
bytes_drop zero xs h = h
bytes_drop (suc n) [] h = tt
bytes_drop (suc n) (x ∷ xs) h = bytes_drop n xs h.1

bytes_cond : (b : Bool) (xs : List ℕ) → Bytes xs → Bytes (cond b xs [])
bytes_cond true xs h = h
bytes_cond false xs h = tt

by_tag : (a b : Bool) (xs : List ℕ) → Bytes xs → BytesOrder (cond a (send xs) (cond b restart (send [])))
by_tag true b xs h = h
by_tag false true xs h = tt
by_tag false false xs h = tt

bytes_ordered : (commands : List ℕ) (t : Turn) → Bytes commands → BytesOrder (ordered commands t)
bytes_ordered commands t h =
    by_tag (eqb t.tag 0) (eqb t.tag 1) (placed commands t.start t.length)
    (bytes_cond (leb (t.start + t.length) (length commands)) (take t.length (drop t.start commands))
    (bytes_take t.length (drop t.start commands) (bytes_drop t.start commands h)))

bytes_each : (ts : List Turn) (commands : List ℕ) → Bytes commands → EachOrdered BytesOrder commands ts
bytes_each [] commands h = tt
bytes_each (t ∷ ts) commands h = (bytes_ordered commands t h, bytes_each ts commands h)

-- Calls with commands of bytes order commands of bytes.
pub bytes_orders : (cs : List Call) → BytesCalls cs → AllOrders BytesOrder cs
bytes_orders [] h = tt
bytes_orders (alone p o b ∷ cs) h = (h.0, bytes_orders cs h.1)
bytes_orders (run ts commands space places ∷ cs) h = (bytes_each ts commands h.0, bytes_orders cs h.1)

-- What holds of every order holds of those of calls.
module _ (P : Order → Type 0) (all : (o : Order) → P o) where
  every_each : (ts : List Turn) (commands : List ℕ) → EachOrdered P commands ts
  every_each [] commands = tt
  every_each (t ∷ ts) commands = (all (ordered commands t), every_each ts commands)

  pub every_order : (cs : List Call) → AllOrders P cs
  every_order [] = tt
  every_order (alone p o b ∷ cs) = (all o, every_order cs)
  every_order (run ts commands space places ∷ cs) = (every_each ts commands, every_order cs)

module _ {M : Type 0} (act : M → Order → List ℕ → Did M) (P : Order → Type 0) where
  -- Each turn acts on what the one before left, and P holds of what it orders.
  pub data Chain : M → List (Went M) → M → Type 0 where
    none : {m : M} → Chain m [] m
    next : {m : M} (p : ℕ) (o : Order) (b : List ℕ) {ws : List (Went M)} {n : M} → P o → Chain (act m o b).after ws n → Chain m (one act m p o b ∷ ws) n

  joined : {l m n : M} {ws vs : List (Went M)} → Chain l ws m → Chain m vs n → Chain l (ws ++ vs) n
  joined none k = k
  joined (next p o b h j) k = next p o b h (joined j k)

  chain_run : (ts : List Turn) (m : M) (commands space : List ℕ) → EachOrdered P commands ts → Chain m (ran act m commands space ts).turns (ran act m commands space ts).end
  chain_run [] m commands space h = none
  chain_run (t ∷ ts) m commands space h =
      let d = act m (ordered commands t) space in
      next t.program (ordered commands t) space h.0 (chain_run ts d.after commands (drop (taken d.gave) d.buffer) h.1)

  chain_short : (m : M) (commands space : List ℕ) (ts : List Turn) (short : Bool) → EachOrdered P commands ts
      → Chain m (as_run act m commands space ts short).turns (as_run act m commands space ts short).end
  chain_short m commands space ts true h = none
  chain_short m commands space ts false h = chain_run ts m commands space h

  -- The turns of calls are such a chain.
  pub chain : (cs : List Call) (m : M) → AllOrders P cs → Chain m (calls act m cs).turns (calls act m cs).end
  chain [] m h = none
  chain (alone p o b ∷ cs) m h = next p o b h.0 (chain cs (act m o b).after h.1)
  chain (run ts commands space places ∷ cs) m h =
      joined (chain_short m commands space ts (ltb places (length ts)) h.0) (chain cs (called act m (run ts commands space places)).end h.1)
