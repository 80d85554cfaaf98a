-- Which paths are equal: worked pairs, computed from the definitions alone.
use Rattle.jsonb.proofs.Common.{pos, negsuc, true, false, [], ◌∷◌, Some, None, refl, codes, Int64, UInt64, Decimal64, Decimal128, SameLiteral, SamePath, Literal, Step, Expression, steps_of}
use Rattle.jsonb.specs.PathTree as p

-- ---- literals

equal_literals :
    SameLiteral p.null p.null
    × SameLiteral (p.number (UInt64 1)) (p.number (Int64 (pos 1)))
    × SameLiteral (p.number (UInt64 1)) (p.number (Decimal64 (record { value = (pos 1000); scale = 3 })))
    × SameLiteral (p.number (Decimal64 (record { value = (pos 5); scale = 1 }))) (p.number (Decimal128 (record { value = (pos 50); scale = 2 })))
    × SameLiteral (p.number (UInt64 0)) (p.number (Decimal128 (record { value = (pos 0); scale = 7 })))
    × SameLiteral (p.string (codes "a")) (p.string (97 ∷ []))
equal_literals = (refl, refl, refl, refl, refl, refl)

other_literals :
    (¬ SameLiteral p.null (p.boolean false))
    × (¬ SameLiteral (p.boolean true) (p.boolean false))
    × (¬ SameLiteral (p.number (Int64 (negsuc 0))) (p.number (UInt64 1)))
    × (¬ SameLiteral (p.string (codes "1")) (p.number (UInt64 1)))
    × (¬ SameLiteral (p.raw (codes "d")) (p.raw (codes "d")))
other_literals = (λ h. cc, λ h. cc, λ h. cc, λ h. cc, λ h. cc)

-- ---- paths

abbrev at_a : Expression
at_a = p.paths (steps_of (p.current ∷ p.dot_field (codes "a") ∷ []))

-- `?(@.a == l)`
abbrev filter_at : Literal → Step
filter_at l = p.filter (p.binary p.eq at_a (p.value l))

equal_paths :
    SamePath [] []
    × SamePath (p.root ∷ p.dot_field (codes "a") ∷ []) (p.root ∷ p.dot_field (97 ∷ []) ∷ [])
    × SamePath (p.root ∷ filter_at (p.number (UInt64 1)) ∷ []) (p.root ∷ filter_at (p.number (Decimal64 (record { value = (pos 10); scale = 1 }))) ∷ [])
equal_paths = (tt, (refl, (refl, tt)), (refl, ((refl, (refl, (refl, tt)), refl), tt)))

other_paths :
    (¬ SamePath (p.root ∷ p.dot_field (codes "a") ∷ []) (p.root ∷ p.colon_field (codes "a") ∷ []))
    × (¬ SamePath (p.root ∷ []) (p.root ∷ p.dot_wildcard ∷ []))
    × (¬ SamePath (p.array_indices (p.single (p.from_front (pos 0)) ∷ []) ∷ []) (p.array_indices (p.single (p.from_last (pos 0)) ∷ []) ∷ []))
    × (¬ SamePath (p.recursive_dot_wildcard None ∷ []) (p.recursive_dot_wildcard (Some (record { start = 1; end = None })) ∷ []))
    × (¬ SamePath (filter_at (p.raw (codes "d")) ∷ []) (filter_at (p.raw (codes "d")) ∷ []))
    × (¬ SamePath (p.filter at_a ∷ []) (p.whole_expression at_a ∷ []))
other_paths = (
  λ h. let second = h.1.0 in cc,
  λ h. h.1,
  λ h. let first = h.0 in cc,
  λ h. let first = h.0 in cc,
  λ h. let literals = h.0.2 in cc,
  λ h. let first = h.0 in cc,
)
