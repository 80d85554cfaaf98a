-- A vector whose capacity does not fall keeps its room for the key of a value.
use Rattle.jsonb_raw.proofs.Common.{◌≡◌, ◌≤◌, ◌+◌, ℕ, arith, Tree, array, object}
use Rattle.jsonb_raw.specs.KeyRoom.{HasKeyRoom}

pub room_kept : (t : Tree) (len more capacity len' capacity' : ℕ) → HasKeyRoom t (len + more) capacity → len' ≡ len → capacity ≤ capacity'
    → HasKeyRoom t len' capacity'
room_kept (array ts) len more capacity len' capacity' h e k = h
room_kept (object ps) len more capacity len' capacity' h e k = h
room_kept t len more capacity len' capacity' h e k = omega (arith, h, e, k)

-- there are 64 bytes more than these
pub room_more : (t : Tree) (len more capacity : ℕ) → HasKeyRoom t (len + more) capacity → len + (more + 64) ≤ capacity
room_more (array ts) len more capacity h = absurd h
room_more (object ps) len more capacity h = absurd h
room_more t len more capacity h = omega (arith, h)
