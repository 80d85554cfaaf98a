-- Tables of worked rows, which a definition computes.
use Rattle.jsonb_doc.proofs.Common.{◌≡◌, List, map}

-- the function returns the second of each row for its first
abbrev pub AreRows : {A B : Type 0} → (A → B) → List (A × B) → Type 0
AreRows answer rows = map (λ row. answer row.0) rows ≡ map (λ row. row.1) rows
