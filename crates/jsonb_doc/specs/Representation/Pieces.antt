-- Bytes in pieces that refer to earlier ones.
use Rattle.std.specs.Prelude.{ℕ, List, [], ◌∷◌, ◌++◌, flat_map, slice_index_or}
use Rattle.jsonb_doc.specs.declared.pieces.Piece.{Piece}

-- The heads of each piece, in the order of its bytes.
abbrev pub Heads : Type 0
Heads = List (List (List ℕ))

-- The heads of a piece. Of an index without a piece there are none.
abbrev pub heads_at : Heads → ℕ → List (List ℕ)
heads_at known i = slice_index_or known i []

-- The heads of the pieces at these indices, the last index first.
abbrev pub stacked : Heads → List ℕ → List (List ℕ)
stacked known [] = []
stacked known (i ∷ is) = stacked known is ++ heads_at known i

-- The heads of a piece, given those of the pieces before it: its own, and those of the pieces that it refers to.
abbrev pub piece_heads : Heads → Piece → List (List ℕ)
piece_heads known p = p.head.items ∷ stacked known p.rest.items

-- The heads of all pieces, given those of the pieces before them.
unfoldable pub heads_after : Heads → List Piece → Heads
heads_after known [] = known
heads_after known (p ∷ ps) = heads_after (known ++ piece_heads known p ∷ []) ps

abbrev pub all_heads : List Piece → Heads
all_heads ps = heads_after [] ps

-- The bytes of some heads.
abbrev pub joined : List (List ℕ) → List ℕ
joined heads = flat_map (λ head. head) heads

-- The bytes of the piece at an index: its head, and the bytes of the pieces that it refers to.
abbrev pub bytes_at : List Piece → ℕ → List ℕ
bytes_at ps i = joined (heads_at (all_heads ps) i)
